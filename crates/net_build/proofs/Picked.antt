-- The wires of one kind, row_picked from all.
use Rattle.std.proofs.Common.{◌≡◌, ℕ, ◌+◌, ◌<◌, inl, inr, Bool, cond, List, [], ◌∷◌, ◌++◌, length, take, get_or, Option, refl, sym, ap, ◌∙◌, arith}
use Rattle.std.specs.Prelude.{count_by}
use Rattle.std.specs.List.{cons_option, filter_map}
use Rattle.std.proofs.lemmas.List.{take_more, get_or_append_left, get_or_push}
use Rattle.std.proofs.lemmas.List.Elements.{filter_map-append}
use Rattle.std.proofs.lemmas.List.Sums.{sum_by-append}
use Rattle.std.proofs.lemmas.Option.{slice_get_read}
use Rattle.std.proofs.lemmas.Bool.{cases_lt}
use Rattle.net_build.specs.declared.types.Kind.{Kind}
use Rattle.net_build.specs.declared.types.Kind.TheVariants.{Input, Register, Gate}
use Rattle.net_build.specs.declared.types.Made.{Made}
use Rattle.net_build.specs.declared.finish.Counts.{Counts}
use Rattle.net_build.specs.Numbering.{counted, wire_counts, net_among, net_at, net_of}

-- one item more
pub picked_more : {X Y : Type 0} (h : X → Option Y) (xs : List X) (k : ℕ) (x : X) → k < length xs → x ≡ get_or xs k x → filter_map h (take (k + 1) xs) ≡ filter_map h (take k xs) ++ cons_option (h x) []
picked_more h xs k x b e =
    ap (filter_map h) (take_more xs k x b)
    ∙ filter_map-append h (take k xs) (get_or xs k x ∷ [])
    ∙ ap (λ y. filter_map h (take k xs) ++ cons_option (h y) []) (sym e)

pub picked_step : {X Y : Type 0} (h : X → Option Y) (xs : List X) (k : ℕ) (x : X) (old new : List Y) (o : Option Y) → k < length xs → x ≡ get_or xs k x → old ≡ filter_map h (take k xs) → o ≡ h x → new ≡ old ++ cons_option o [] → new ≡ filter_map h (take (k + 1) xs)
picked_step h xs k x old new o b e f g n =
    n ∙ ap (λ ys. ys ++ cons_option o []) f ∙ ap (λ o. filter_map h (take k xs) ++ cons_option o []) g ∙ sym (picked_more h xs k x b e)

pub same_counts : (a b c d e f : ℕ) → a ≡ d → b ≡ e → c ≡ f → let x : Counts = record { inputs = a; regs = b; gates = c } in let y : Counts = record { inputs = d; regs = e; gates = f } in x ≡ y
same_counts a b c d e f g h i = rw g (rw h (rw i refl))

count_last : {X : Type 0} (p : X → Bool) (xs : List X) (x : X) → count_by p (xs ++ x ∷ []) ≡ count_by p xs + cond (p x) 1 0
count_last p xs x = sum_by-append (λ x. cond (p x) 1 0) xs (x ∷ []) ∙ omega arith

counts_last : (ms : List Made) (width : ℕ) (k : Kind) (next : Option ℕ) → wire_counts (ms ++ record { item = record { width = width; kind = k }; next = next } ∷ []) ≡ counted (wire_counts ms) k
counts_last ms width (Input name) next = same_counts _ _ _ _ _ _ (count_last _ ms _) (count_last _ ms _ ∙ omega arith) (count_last _ ms _ ∙ omega arith)
counts_last ms width Register next = same_counts _ _ _ _ _ _ (count_last _ ms _ ∙ omega arith) (count_last _ ms _) (count_last _ ms _ ∙ omega arith)
counts_last ms width (Gate op) next = same_counts _ _ _ _ _ _ (count_last _ ms _ ∙ omega arith) (count_last _ ms _ ∙ omega arith) (count_last _ ms _)

pub counts_more : (ms : List Made) (k : ℕ) (m : Made) → k < length ms → m ≡ get_or ms k m → wire_counts (take (k + 1) ms) ≡ counted (wire_counts (take k ms)) m.item.kind
counts_more ms k m b e = ap wire_counts (take_more ms k m b ∙ ap (λ (x : Made). take k ms ++ x ∷ []) (sym e)) ∙ counts_last (take k ms) m.item.width m.item.kind m.next

-- the nets of one wire more
pub nets_step : (ms : List Made) (nets new : List ℕ) (k net : ℕ) → length nets ≡ k → new ≡ nets ++ net ∷ [] → net ≡ net_of ms k → ((w : ℕ) → w < k → get_or nets w 0 ≡ net_of ms w) → (w : ℕ) → w < k + 1 → get_or new w 0 ≡ net_of ms w
nets_step ms nets new k net l n e h w b = ap (λ (x : List ℕ). get_or x w 0) n ∙ elim (cases_lt w k) [
  | inl s ↦ get_or_append_left nets (net ∷ []) 0 w (omega arith) ∙ h w s
  | inr t ↦
      let f : w ≡ k = omega arith in
      get_or_push nets net 0 w (let z : length nets ≡ w = omega arith in z) ∙ e ∙ ap (net_of ms) (sym f)
]

pub net_here : (ms : List Made) (k : ℕ) (m : Made) (all before : Counts) → k < length ms → m ≡ get_or ms k m → all ≡ wire_counts ms → before ≡ wire_counts (take k ms) → net_among all before m.item.kind ≡ net_of ms k
net_here ms k m all before b e f g =
    ap (λ (x : Counts). net_among x before m.item.kind) f
    ∙ ap (λ (x : Counts). net_among (wire_counts ms) x m.item.kind) g
    ∙ sym (ap (net_at ms k) (slice_get_read ms (length ms) k m refl b e))
