-- Entries of a table, one further.
use Rattle.std.proofs.Common.{◌≡◌, ◌≢◌, ℕ, ◌+◌, ◌<◌, ◌≤◌, Bool, true, false, ◌&&◌, List, [], ◌∷◌, ◌++◌, length, get_or, take, refl, sym, ap, ◌∙◌, subst, arith, inl, inr, if◌then◌else◌}
use Rattle.std.specs.Prelude.{◌==◌}
use Rattle.std.proofs.lemmas.List.{take_more, take_all, get_or_append_left, get_or_push, length_push, get_or-map, get_or-set_same, get_or-set_other, length-set, length-map, length-take, map-append}
use Rattle.std.proofs.Math.ListN.{get_or-eq_default}
use Rattle.std.proofs.lemmas.Bool.{cases_eq, cases_lt}
use Rattle.std.proofs.lemmas.Bool.Decides.{nat_tests}
use Rattle.net_build.specs.declared.types.Wire.{Wire}
use Rattle.net_build.specs.Bits.{MeansAll, wire_values}
use Rattle.net_build.specs.Built.{Built, IsWire}
use Rattle.net_build.specs.Values.{Adds, Later, Means, Tells, high}
use Rattle.net_build.proofs.Steps.{wire_later}
use Rattle.net_table.specs.Tables.{AreEntries, entries_written}

bit_of : (b : Bool) → ((if b then 1 else 0) == 1) ≡ b
bit_of true = refl
bit_of false = refl

pub is_number : (mid new : Built) (index at w : Wire) (k : ℕ) → Adds mid new → Means mid at (λ v. k) → Means new w (λ v. if v index.number == v at.number then 1 else 0) → Tells new w (λ v. v index.number == k)
is_number mid new index at w k l m t = record {
  at = λ v s. ap (λ n. n == 1) (t.at v s) ∙ bit_of (v index.number == v at.number) ∙ ap (λ n. v index.number == n) (m.at v (l.later.back v s));
}

same_yes : (a b : ℕ) → a ≡ b → (a == b) ≡ true
same_yes a b e = grind (arith, nat_tests)

same_no : (a b : ℕ) → a ≢ b → (a == b) ≡ false
same_no a b e = grind (arith, nat_tests)

pub read_means : (mid new : Built) (reg index rest here w : Wire) (k : ℕ) → Adds mid new → Tells mid here (λ v. v index.number == k) → Means new w (λ v. if v here.number == 1 then v reg.number else v rest.number) → Means new w (λ v. if v index.number == k then v reg.number else v rest.number)
read_means mid new reg index rest here w k l t m = record { at = λ v s. m.at v s ∙ ap (λ (c : Bool). if c then v reg.number else v rest.number) (t.at v (l.later.back v s)) }

pub write_means : (low mid new : Built) (old write index item here at w : Wire) (k : ℕ) → Adds low mid → Adds mid new → Tells mid here (λ v. high v write && high v at) → Tells low at (λ v. v index.number == k)
    → Means new w (λ v. if v here.number == 1 then v item.number else v old.number) → Means new w (λ v. if high v write && (v index.number == k) then v item.number else v old.number)
write_means low mid new old write index item here at w k g l h t m = record {
  at = λ v s.
      let s1 = l.later.back v s in
      m.at v s ∙ ap (λ (x : Bool). if x then v item.number else v old.number) (h.at v s1 ∙ ap (λ (x : Bool). high v write && x) (t.at v (g.later.back v s1)));
}

-- the entry of the first k + 1
take_step : (xs : List ℕ) (k i : ℕ) → k < length xs → get_or (take (k + 1) xs) i 0 ≡ (if i == k then get_or xs k 0 else get_or (take k xs) i 0)
take_step xs k i b =
    let long : length (take k xs) ≡ k = omega (arith, length-take k xs) in
    let split : take (k + 1) xs ≡ take k xs ++ get_or xs k 0 ∷ [] = take_more xs k 0 b in
    elim (cases_eq i k) [
      | inl e ↦ rw split (get_or_push (take k xs) (get_or xs k 0) 0 i (long ∙ sym e)) ∙ ap (λ (c : Bool). if c then get_or xs k 0 else get_or (take k xs) i 0) (sym (same_yes i k e))
      | inr n ↦ rw split (elim (cases_lt i k) [
        | inl s ↦ get_or_append_left (take k xs) (get_or xs k 0 ∷ []) 0 i (omega arith)
        | inr g ↦
            get_or-eq_default (take k xs ++ get_or xs k 0 ∷ []) 0 (omega (arith, length_push (take k xs) (get_or xs k 0)))
            ∙ sym (get_or-eq_default (take k xs) 0 (omega arith))
      ]) ∙ ap (λ (c : Bool). if c then get_or xs k 0 else get_or (take k xs) i 0) (sym (same_no i k n))
    ]

values_at : (v : ℕ → ℕ) (ws : List Wire) (k : ℕ) (d : Wire) (e : ℕ) → k < length ws → get_or (wire_values v ws) k e ≡ v (get_or ws k d).number
values_at v ws k d e b = get_or-map (λ (w : Wire). v w.number) ws k d e b

pub read_none : (b : Built) (ws : List Wire) (w index : Wire) → Means b w (λ v. 0) → Means b w (λ v. get_or (take 0 (wire_values v ws)) (v index.number) 0)
read_none b ws w index m = record { at = λ v s. m.at v s }

pub read_more : (old new : Built) (ws : List Wire) (out w index : Wire) (k : ℕ) (d : Wire) → k < length ws → Adds old new
    → Means old out (λ v. get_or (take k (wire_values v ws)) (v index.number) 0)
    → Means new w (λ v. if v index.number == k then v (get_or ws k d).number else v out.number)
    → Means new w (λ v. get_or (take (k + 1) (wire_values v ws)) (v index.number) 0)
read_more old new ws out w index k d b l m t = record {
  at = λ v s.
      t.at v s
      ∙ ap (λ (x : ℕ). if v index.number == k then x else v out.number) (sym (values_at v ws k d 0 b))
      ∙ ap (λ (x : ℕ). if v index.number == k then get_or (wire_values v ws) k 0 else x) (m.at v (l.later.back v s))
      ∙ sym (take_step (wire_values v ws) k (v index.number) (rw (length-map ws (λ (w : Wire). v w.number)) b));
}

pub read_all : (b : Built) (ws : List Wire) (w index : Wire) (k : ℕ) → length ws ≤ k → Means b w (λ v. get_or (take k (wire_values v ws)) (v index.number) 0) → Means b w (λ v. get_or (wire_values v ws) (v index.number) 0)
read_all b ws w index k h m = record {
  at = λ v s. m.at v s ∙ ap (λ (xs : List ℕ). get_or xs (v index.number) 0) (take_all k (wire_values v ws) (omega (arith, length-map ws (λ (w : Wire). v w.number))));
}

-- ---- wires of one width

pub entries_later : (old new : Built) (width : ℕ) (ws : List Wire) → Later old new → AreEntries old width ws → AreEntries new width ws
entries_later old new width ws l h = record { each = λ k d r. let x = h.each k d r in (wire_later old new (get_or ws k d) l x.0, x.1) }

pub entry_at : (old new : Built) (width : ℕ) (ws : List Wire) (k : ℕ) (d : Wire) → Adds old new → AreEntries old width ws → k < length ws → IsWire new (get_or ws k d) × ((get_or ws k d).width ≡ width)
entry_at old new width ws k d g h b = (entries_later old new width ws g.later h).each k d b

pub entries_more : (mid new : Built) (width : ℕ) (ws more : List Wire) (w : Wire) → Later mid new → AreEntries mid width ws → IsWire new w → w.width ≡ width → more ≡ ws ++ w ∷ [] → AreEntries new width more
entries_more mid new width ws more w g h u n e = subst (AreEntries new width) (sym e) (record {
  each = λ k d r.
      elim (cases_lt k (length ws)) [
        | inl s ↦ rw (get_or_append_left ws (w ∷ []) d k s) (let x = h.each k d s in (wire_later mid new (get_or ws k d) g x.0, x.1))
        | inr t ↦
            let q : length ws ≡ k = omega (arith, length_push ws w) in
            rw (get_or_push ws w d k q) (u, n)
      ];
})

-- ---- a table after a write

written_at : (write : Bool) (index item k : ℕ) (xs : List ℕ) → k < length xs → (if write && (index == k) then item else get_or xs k 0) ≡ get_or (entries_written write index item xs) k 0
written_at false index item k xs b = refl
written_at true index item k xs b = elim (cases_eq index k) [
  | inl e ↦ rw (same_yes index k e) (rw e (sym (get_or-set_same xs k item 0 b)))
  | inr n ↦ rw (same_no index k n) (sym (get_or-set_other xs index k item 0 (λ e. n (sym e))))
]

length_written : (write : Bool) (index item : ℕ) (xs : List ℕ) → length (entries_written write index item xs) ≡ length xs
length_written true index item xs = length-set xs index item
length_written false index item xs = refl

pub written_more : (old new : Built) (olds out more : List Wire) (write index item w : Wire) (k : ℕ) (d : Wire) → k < length olds → Adds old new
    → MeansAll old out (λ v. take k (entries_written (high v write) (v index.number) (v item.number) (wire_values v olds)))
    → Means new w (λ v. if high v write && (v index.number == k) then v item.number else v (get_or olds k d).number) → more ≡ out ++ w ∷ []
    → MeansAll new more (λ v. take (k + 1) (entries_written (high v write) (v index.number) (v item.number) (wire_values v olds)))
written_more old new olds out more write index item w k d b l h m q = subst (λ (ws : List Wire). MeansAll new ws (λ v. take (k + 1) (entries_written (high v write) (v index.number) (v item.number) (wire_values v olds)))) (sym q) (record {
  at = λ v s.
      let ys = entries_written (high v write) (v index.number) (v item.number) (wire_values v olds) in
      let bv : k < length (wire_values v olds) = rw (length-map olds (λ (x : Wire). v x.number)) b in
      let here : v w.number ≡ get_or ys k 0 = m.at v s ∙ ap (λ (x : ℕ). if high v write && (v index.number == k) then v item.number else x) (sym (values_at v olds k d 0 b)) ∙ written_at (high v write) (v index.number) (v item.number) k (wire_values v olds) bv in
      map-append (λ (x : Wire). v x.number) out (w ∷ [])
      ∙ ap (λ (xs : List ℕ). xs ++ v w.number ∷ []) (h.at v (l.later.back v s))
      ∙ ap (λ (x : ℕ). take k ys ++ x ∷ []) here
      ∙ sym (take_more ys k 0 (rw (length_written (high v write) (v index.number) (v item.number) (wire_values v olds)) bv));
})

pub written_none : (b : Built) (olds : List Wire) (write index item : Wire) → MeansAll b [] (λ v. take 0 (entries_written (high v write) (v index.number) (v item.number) (wire_values v olds)))
written_none b olds write index item = record { at = λ v s. refl }

pub written_all : (b : Built) (olds out : List Wire) (write index item : Wire) (k : ℕ) → length olds ≤ k → MeansAll b out (λ v. take k (entries_written (high v write) (v index.number) (v item.number) (wire_values v olds))) → MeansAll b out (λ v. entries_written (high v write) (v index.number) (v item.number) (wire_values v olds))
written_all b olds out write index item k h m = record {
  at = λ v s. m.at v s ∙ take_all k (entries_written (high v write) (v index.number) (v item.number) (wire_values v olds)) (omega (arith, length_written (high v write) (v index.number) (v item.number) (wire_values v olds), length-map olds (λ (x : Wire). v x.number)));
}
