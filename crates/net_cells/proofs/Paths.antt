-- Where no net depends on itself, each net stands on the inputs and registers over fewer nets than there are.
use Rattle.std.proofs.Common.{◌≡◌, ℕ, zero, suc, ◌+◌, ◌<◌, ◌≤◌, inl, inr, Bool, ◌||◌, true, false, List, [], ◌∷◌, ◌++◌, length, sym, ap, ◌∙◌, subst, arith}
use Rattle.std.specs.Prelude.{eqb}
use Rattle.std.specs.List.{AllByRecursion, IsDistinct, list_any}
use Rattle.std.proofs.lemmas.Bool.{cases_eq, ne_eqb, false≢true}
use Rattle.std.proofs.lemmas.Map.Steps.{length-le_from_distinct_below}
use Rattle.net_cells.specs.declared.netlist.Netlist.{Netlist}
use Rattle.net_cells.specs.Rules.{sources, widths}
use Rattle.net_cells.specs.Loops.{Reads, IsPath, DependsOn, HasNoLoop}

pub path_more : (n : Netlist) (a : ℕ) (bs : List ℕ) (b c : ℕ) → IsPath n a bs b → Reads n b c → IsPath n a (bs ++ b ∷ []) c
path_more n a [] b c p r = (p, r)
path_more n a (x ∷ xs) b c p r = (p.0, path_more n x xs b c p.1 r)

-- at most so many cells one after another, from this net on
abbrev pub Within : Netlist → ℕ → ℕ → Type 0
Within n zero net = net < sources n
Within n (suc steps) net = (other : ℕ) → Reads n net other → Within n steps other

-- nets from which a net is reached
record Seen (n : Netlist) (net other : ℕ) : Type 0 where
  exists : other < length (widths n)
  reaches : DependsOn n other net

seen_more : (n : Netlist) (seen : List ℕ) (net other : ℕ) → Reads n net other → AllByRecursion (Seen n net) seen → AllByRecursion (Seen n other) seen
seen_more n [] net other r h = search
seen_more n (s ∷ seen) net other r h = (record { exists = h.0.exists; reaches = (h.0.reaches.0 ++ net ∷ [], path_more n s h.0.reaches.0 net other h.0.reaches.1 r) }, seen_more n seen net other r h.1)

apart : (n : Netlist) (seen : List ℕ) (net : ℕ) → HasNoLoop n → AllByRecursion (Seen n net) seen → AllByRecursion (λ s. eqb net s ≡ false) seen
apart n [] net a h = search
apart n (s ∷ seen) net a h = (
  elim (cases_eq net s) [
    | inl e ↦ absurd (a net (subst (λ x. DependsOn n x net) (sym e) h.0.reaches))
    | inr f ↦ ne_eqb net s f
  ],
  apart n seen net a h.1,
)

all_exist : (n : Netlist) (seen : List ℕ) (net q : ℕ) → AllByRecursion (Seen n net) seen → list_any (eqb q) seen ≡ true → q < length (widths n)
all_exist n [] net q h e = absurd (false≢true e)
all_exist n (s ∷ seen) net q h e = elim (cases_eq q s) [
  | inl f ↦ subst (λ x. x < length (widths n)) (sym f) h.0.exists
  | inr g ↦ all_exist n seen net q h.1 (sym (ap (λ (b : Bool). b || list_any (eqb q) seen) (ne_eqb q s g)) ∙ e)
]

distinct_more : (net : ℕ) (seen : List ℕ) → AllByRecursion (λ s. eqb net s ≡ false) seen → IsDistinct eqb seen → IsDistinct eqb (net ∷ seen)
unfolding IsDistinct
distinct_more net seen h d = (h, d)

distinct_none : IsDistinct eqb []
unfolding IsDistinct
distinct_none = search

-- the nets passed so far all differ, so there are at most as many as nets
within : (n : Netlist) → HasNoLoop n → ((net other : ℕ) → Reads n net other → other < length (widths n)) → (steps net : ℕ) (seen : List ℕ) → net < length (widths n) → AllByRecursion (Seen n net) seen → IsDistinct eqb seen → length (widths n) ≤ length seen + steps → Within n steps net
within n a x zero net seen b h d l =
    let more : IsDistinct eqb (net ∷ seen) = distinct_more net seen (apart n seen net a h) d in
    let few : length (net ∷ seen) ≤ length (widths n) = length-le_from_distinct_below (net ∷ seen) (length (widths n)) more (λ q e.
    elim (cases_eq q net) [
      | inl f ↦ subst (λ x. x < length (widths n)) (sym f) b
      | inr g ↦ all_exist n seen net q h (sym (ap (λ (b : Bool). b || list_any (eqb q) seen) (ne_eqb q net g)) ∙ e)
    ]) in
    absurd (omega arith)
within n a x (suc steps) net seen b h d l = λ other r.
    within n a x steps other (net ∷ seen) (x net other r)
    (record { exists = b; reaches = ([], r) }, seen_more n seen net other r h)
    (distinct_more net seen (apart n seen net a h) d)
    (omega arith)

pub all_within : (n : Netlist) → HasNoLoop n → ((net other : ℕ) → Reads n net other → other < length (widths n)) → (net : ℕ) → net < length (widths n) → Within n (length (widths n)) net
all_within n a x net b = within n a x (length (widths n)) net [] b (search) distinct_none (omega arith)
