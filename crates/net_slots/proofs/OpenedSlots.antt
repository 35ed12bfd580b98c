-- The registers of slots, opened and driven.
use Rattle.std.proofs.Common.{◌≡◌, ℕ, zero, suc, ◌+◌, ◌<◌, List, [], ◌∷◌, ◌++◌, length, get_or, refl, sym, ap, ◌∙◌, subst, arith}
use Rattle.std.proofs.lemmas.List.{length-append, length-map, map-append}
use Rattle.net_build.specs.declared.types.Wire.{Wire}
use Rattle.net_build.specs.Bits.{wire_values, zeros}
use Rattle.net_build.specs.Built.{Built, IsWire}
use Rattle.net_build.specs.Registers.{AreUndriven, DrivesAll, MayDrive, numbers}
use Rattle.net_build.specs.Values.{Adds, AtStart, Later, Opens}
use Rattle.net_build.proofs.DrivenLists.{drives_all_after, opened_all_driven}
use Rattle.net_slots.specs.declared.types.SlotMoves.{SlotMoves}
use Rattle.net_slots.specs.declared.types.Slots.{Slots}
use Rattle.net_slots.specs.Slots.{SlotSide, idle_slots}
use Rattle.net_slots.specs.SlotWires.{AreSlots, HaveSlotShape, NextSlots, slot_list, slot_side}
use Rattle.net_table.specs.Tables.{AllBecome, AreEntries}
use Rattle.net_table.proofs.Opened.{begin_at_zero}

-- ---- what is put before each register has its width

may_cons : (b : Built) (x a : Wire) (xs bs : List Wire) → IsWire b a → a.width ≡ x.width → MayDrive b xs bs → MayDrive b (x ∷ xs) (a ∷ bs)
may_cons b x a xs bs h e g = record { each = at }
  where
    at : (k : ℕ) (d f : Wire) → k < length (x ∷ xs) → IsWire b (get_or (a ∷ bs) k f) × ((get_or (a ∷ bs) k f).width ≡ (get_or (x ∷ xs) k d).width)
    at zero d f l = (h, e)
    at (suc k) d f l = g.each k d f (omega arith)

may_join : (b : Built) (width : ℕ) (xs ys fs bs : List Wire) → length fs ≡ length xs → AreEntries b width xs → AreEntries b width fs → MayDrive b ys bs → MayDrive b (xs ++ ys) (fs ++ bs)
may_join b width [] ys [] bs e g h m = m
may_join b width [] ys (a ∷ fs) bs e g h m = absurd (omega arith)
may_join b width (x ∷ xs) ys [] bs e g h m = absurd (omega arith)
may_join b width (x ∷ xs) ys (a ∷ fs) bs e g h m =
    let p = g.each 0 x (omega arith) in
    let q = h.each 0 a (omega arith) in
    may_cons b x a (xs ++ ys) (fs ++ bs) q.0 (q.1 ∙ sym p.1)
    (may_join b width xs ys fs bs (omega arith) (record { each = λ k d l. g.each (suc k) d (omega arith) }) (record { each = λ k d l. h.each (suc k) d (omega arith) }) m)

may_entries : (b : Built) (width : ℕ) (xs fs : List Wire) → length fs ≡ length xs → AreEntries b width xs → AreEntries b width fs → MayDrive b xs fs
may_entries b width xs fs e g h = record { each = λ k d f l. let x = g.each k d l in let a = h.each k f (omega (arith, e, l)) in (a.0, a.1 ∙ sym x.1) }

pub slots_may : (b : Built) (count new_bits old_bits : ℕ) (now next : Slots) → HaveSlotShape b count new_bits old_bits now → HaveSlotShape b count new_bits old_bits next → MayDrive b (slot_list now) (slot_list next)
slots_may b count new_bits old_bits now next g h =
    may_cons b now.id next.id _ _ h.id.wire (h.id.sized ∙ sym g.id.sized)
    (may_cons b now.asking next.asking _ _ h.asking.wire (h.asking.sized ∙ sym g.asking.sized)
    (may_join b 1 now.taken now.olds next.taken next.olds (h.taken.long ∙ sym g.taken.long) g.taken.entries h.taken.entries
    (may_entries b old_bits now.olds next.olds (h.olds.long ∙ sym g.olds.long) g.olds.entries h.olds.entries)))

pub slots_long : (b : Built) (count new_bits old_bits : ℕ) (now next : Slots) → HaveSlotShape b count new_bits old_bits now → HaveSlotShape b count new_bits old_bits next → length (slot_list next) ≡ length (slot_list now)
slots_long b count new_bits old_bits now next g h = omega (arith, length-append next.taken next.olds, length-append now.taken now.olds, g.taken.long, h.taken.long, g.olds.long, h.olds.long)

pub opened_then : (old mid last new : Built) (rs : List ℕ) → Opens old mid rs → Adds mid last → DrivesAll last new rs → Adds old new
opened_then old mid last new rs g a h = opened_all_driven old mid new rs g (drives_all_after mid last new rs a h)

-- ---- what they hold

split_values : (xs ys fs bs : List ℕ) → length xs ≡ length fs → xs ++ ys ≡ fs ++ bs → (xs ≡ fs) × (ys ≡ bs)
split_values [] ys [] bs l e = (refl, e)
split_values [] ys (a ∷ fs) bs l e = absurd (omega arith)
split_values (x ∷ xs) ys [] bs l e = absurd (omega arith)
split_values (x ∷ xs) ys (a ∷ fs) bs l e =
    let h : x ≡ a = cc in
    let t : xs ++ ys ≡ fs ++ bs = cc in
    let r = split_values xs ys fs bs (omega arith) t in
    (ap (λ c. c ∷ xs) h ∙ ap (λ cs. a ∷ cs) r.0, r.1)

zeros_long : (n : ℕ) → length (zeros n) ≡ n
zeros_long zero = refl
zeros_long (suc n) = ap suc (zeros_long n)

zeros_both : (n m : ℕ) → zeros (n + m) ≡ zeros n ++ zeros m
zeros_both zero m = let e : 0 + m ≡ m = omega arith in ap zeros e
zeros_both (suc n) m = let e : suc n + m ≡ suc (n + m) = omega arith in ap zeros e ∙ ap (λ xs. 0 ∷ xs) (zeros_both n m)

abbrev side : ℕ → ℕ → List ℕ → List ℕ → SlotSide
side id asking taken olds = record { id = id; asking = asking; taken = taken; olds = olds }

heads_same : (a b c d : ℕ) (xs ys : List ℕ) → a ∷ b ∷ xs ≡ c ∷ d ∷ ys → (a ≡ c) × (b ≡ d) × (xs ≡ ys)
heads_same a b c d xs ys e = let p : a ≡ c = cc in let q : b ≡ d = cc in let r : xs ≡ ys = cc in (p, q, r)

same_side : (u : ℕ → ℕ) (s : Slots) (c d : ℕ) (ts os : List ℕ) → length s.taken ≡ length ts → wire_values u (slot_list s) ≡ c ∷ d ∷ ts ++ os → slot_side u s ≡ side c d ts os
same_side u s c d ts os l e =
    let num = λ (w : Wire). u w.number in
    let h = heads_same (u s.id.number) (u s.asking.number) c d (wire_values u (s.taken ++ s.olds)) (ts ++ os) e in
    let r = split_values (wire_values u s.taken) (wire_values u s.olds) ts os (length-map s.taken num ∙ l) (sym (map-append num s.taken s.olds) ∙ h.2) in
    ap (λ n. side n (u s.asking.number) (wire_values u s.taken) (wire_values u s.olds)) h.0
    ∙ ap (λ n. side c n (wire_values u s.taken) (wire_values u s.olds)) h.1
    ∙ ap (λ ns. side c d ns (wire_values u s.olds)) r.0
    ∙ ap (λ ns. side c d ts ns) r.1

goes_on : (u v : ℕ → ℕ) (s n : Slots) → length n.taken ≡ length s.taken → wire_values u (slot_list s) ≡ wire_values v (slot_list n) → slot_side u s ≡ slot_side v n
goes_on u v s n l e =
    let num = λ (w : Wire). v w.number in
    same_side u s (v n.id.number) (v n.asking.number) (wire_values v n.taken) (wire_values v n.olds) (sym l ∙ sym (length-map n.taken num))
    (e ∙ ap (λ xs. v n.id.number ∷ v n.asking.number ∷ xs) (map-append num n.taken n.olds))

begins_idle : (b : Built) (count : ℕ) (s : Slots) (v : ℕ → ℕ) → AreUndriven b (slot_list s) → length s.taken ≡ count → length s.olds ≡ count → AtStart b v → slot_side v s ≡ idle_slots count
begins_idle b count s v w lt lo a =
    let e : wire_values v (slot_list s) ≡ 0 ∷ 0 ∷ zeros (length (s.taken ++ s.olds)) = (begin_at_zero b (slot_list s) w).at v a in
    let f : zeros (length (s.taken ++ s.olds)) ≡ zeros count ++ zeros count = ap zeros (length-append s.taken s.olds ∙ ap (λ n. n + length s.olds) lt ∙ ap (λ n. count + n) lo) ∙ zeros_both count count in
    same_side v s 0 0 (zeros count) (zeros count) (lt ∙ sym (zeros_long count)) (e ∙ ap (λ xs. 0 ∷ 0 ∷ xs) f)

pub slots_are : (b1 b2 new : Built) (count : ℕ) (s n : Slots) (m : SlotMoves) → Later b1 new → Later b2 new → AreUndriven b1 (slot_list s) → length s.taken ≡ count → length s.olds ≡ count → length n.taken ≡ length s.taken
    → NextSlots b2 s m n → AllBecome new (slot_list s) (λ v. wire_values v (slot_list n)) → AreSlots new count s m
slots_are b1 b2 new count s n m l1 l2 w lt lo ln h t = record {
  taken_long = lt;
  olds_long = lo;
  starts = λ v a. begins_idle b1 count s v w lt lo (l1.starts v a);
  nexts = λ v u q k z. goes_on u v s n ln (t.at v u q k z) ∙ h.at v (l2.back v q);
}
