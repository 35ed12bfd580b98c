-- What slots do in a cycle.
use Rattle.std.proofs.Common.{◌≡◌, ℕ, zero, suc, ◌+◌, ◌<◌, ◌≤◌, ◌^◌, Bool, true, false, not, ◌&&◌, ◌||◌, List, [], ◌∷◌, ◌++◌, length, get_or, is_some, refl, sym, ap, ◌∙◌, subst, arith, if◌then◌else◌}
use Rattle.std.specs.Prelude.{◌==◌}
use Rattle.std.specs.Option.{unwrap_or}
use Rattle.net_build.specs.declared.types.Wire.{Wire}
use Rattle.net_build.specs.Bits.{AreBits, MeansAll, wire_values}
use Rattle.net_build.specs.Built.{Built, IsBit, IsWire}
use Rattle.net_build.specs.Values.{Adds, Later, Means, Tells, high}
use Rattle.net_build.proofs.Steps.{bit_later, bit_made, later_later, wire_later}
use Rattle.net_slots.specs.declared.types.SlotMoves.{SlotMoves}
use Rattle.net_slots.specs.declared.types.SlotWires.{SlotWires}
use Rattle.net_slots.specs.declared.types.Slots.{Slots}
use Rattle.net_slots.specs.Slots.{SlotSide, SlotSight, first_free, left_then, slot_begins, slot_id, slot_passes, slots_after}
use Rattle.net_slots.specs.SlotWires.{AreMoveWires, AreSlotEntries, HaveSlotShape, IsSized, NextSlots, TellSlots, slot_side, slot_sight}
use Rattle.net_table.specs.Tables.{AreEntries, entries_written}
use Rattle.net_table.proofs.Indexed.{entries_later}

-- ---- what stays

pub sized_later : (old new : Built) (width : ℕ) (w : Wire) → Later old new → IsSized old width w → IsSized new width w
sized_later old new width w l h = record { wire = wire_later old new w l h.wire; sized = h.sized }

pub slot_entries_later : (old new : Built) (count width : ℕ) (ws : List Wire) → Later old new → AreSlotEntries old count width ws → AreSlotEntries new count width ws
slot_entries_later old new count width ws l h = record { entries = entries_later old new width ws l h.entries; long = h.long }

pub shape_later : (old new : Built) (count new_bits old_bits : ℕ) (s : Slots) → Later old new → HaveSlotShape old count new_bits old_bits s → HaveSlotShape new count new_bits old_bits s
shape_later old new count new_bits old_bits s l h = record {
  id = sized_later old new new_bits s.id l h.id;
  asking = sized_later old new 8 s.asking l h.asking;
  taken = slot_entries_later old new count 1 s.taken l h.taken;
  olds = slot_entries_later old new count old_bits s.olds l h.olds;
}

pub moves_later : (old new : Built) (count old_bits : ℕ) (m : SlotMoves) → Later old new → AreMoveWires old count old_bits m → AreMoveWires new count old_bits m
moves_later old new count old_bits m l h = record {
  wants = bit_later old new m.wants l h.wants;
  old = sized_later old new old_bits m.old l h.old;
  rest = sized_later old new 8 m.rest l h.rest;
  frees = bit_later old new m.frees l h.frees;
  new = wire_later old new m.new l h.new;
  small = h.small;
}

pub shape_of : (b : Built) (count n m p q : ℕ) (s : Slots) → n ≡ m → p ≡ q → HaveSlotShape b count n p s → HaveSlotShape b count m q s
shape_of b count n m p q s e f h = subst (λ x. HaveSlotShape b count x q s) e (subst (λ x. HaveSlotShape b count n x s) f h)

pub moves_of : (b : Built) (c d p q : ℕ) (m : SlotMoves) → c ≡ d → p ≡ q → AreMoveWires b c p m → AreMoveWires b d q m
moves_of b c d p q m e f h = subst (λ x. AreMoveWires b x q m) e (subst (λ x. AreMoveWires b c x m) f h)

pub slot_bits : (b : Built) (ws : List Wire) → AreEntries b 1 ws → AreBits b ws
slot_bits b ws h = record { each = λ k d l. let x = h.each k d l in bit_made b (get_or ws k d) x.0 x.1 }

-- ---- the id, and whether a beat passes

pub pass_tells : (b1 b2 new : Built) (wants idle some busy may passes : Wire) → Adds b1 b2 → Adds b2 new
    → Tells b1 busy (λ v. not (high v idle)) → Tells b2 may (λ v. high v busy || high v some) → Tells new passes (λ v. high v wants && high v may)
    → Tells new passes (λ v. high v wants && (not (high v idle) || high v some))
pass_tells b1 b2 new wants idle some busy may passes g h n m t = record {
  at = λ v s.
      let s2 = h.later.back v s in
      t.at v s ∙ ap (λ (x : Bool). high v wants && x) (m.at v s2 ∙ ap (λ (x : Bool). x || high v some) (n.at v (g.later.back v s2)));
}

pub some_is : (b new : Built) (some : Wire) (taken ts : List Wire) → Adds b new → ts ≡ taken → Tells b some (λ v. is_some (first_free 0 (wire_values v ts))) → Tells new some (λ v. is_some (first_free 0 (wire_values v taken)))
some_is b new some taken ts g e t = record { at = λ v s. t.at v (g.later.back v s) ∙ ap (λ (ws : List Wire). is_some (first_free 0 (wire_values v ws))) e }

pub id_is : (b1 b2 new : Built) (slots : Slots) (idle place w : Wire) (ts : List Wire) → Adds b1 b2 → Adds b2 new → ts ≡ slots.taken
    → Tells b1 idle (λ v. v slots.asking.number == 0) → Means b2 place (λ v. unwrap_or (first_free 0 (wire_values v ts)) 0)
    → Means new w (λ v. if v idle.number == 1 then v place.number else v slots.id.number) → Means new w (λ v. slot_id (slot_side v slots))
id_is b1 b2 new slots idle place w ts g h e t m n = record {
  at = λ v s.
      let s2 = h.later.back v s in
      n.at v s
      ∙ ap (λ (x : Bool). if x then v place.number else v slots.id.number) (t.at v (g.later.back v s2))
      ∙ ap (λ (x : ℕ). if v slots.asking.number == 0 then x else v slots.id.number) (m.at v s2 ∙ ap (λ (ws : List Wire). unwrap_or (first_free 0 (wire_values v ws)) 0) e);
}

pub pass_is : (b1 new : Built) (slots : Slots) (moves : SlotMoves) (idle some passes : Wire) → Adds b1 new
    → Tells b1 idle (λ v. v slots.asking.number == 0) → Tells b1 some (λ v. is_some (first_free 0 (wire_values v slots.taken)))
    → Tells new passes (λ v. high v moves.wants && (not (high v idle) || high v some))
    → Tells new passes (λ v. slot_passes (slot_side v slots) (slot_sight v moves))
pass_is b1 new slots moves idle some passes g i o t = record {
  at = λ v s.
      let s1 = g.later.back v s in
      t.at v s
      ∙ ap (λ (x : Bool). high v moves.wants && (not x || high v some)) (i.at v s1)
      ∙ ap (λ (x : Bool). high v moves.wants && (not (v slots.asking.number == 0) || x)) (o.at v s1);
}

-- ---- the next slots

pub taken_means : (b1 b2 b3 new : Built) (taken begun bs ended : List Wire) (one none begins id frees at : Wire) → Adds b1 b2 → Adds b2 b3 → Adds b3 new
    → Means b1 one (λ v. 1) → Means b2 none (λ v. 0)
    → MeansAll b3 begun (λ v. entries_written (high v begins) (v id.number) (v one.number) (wire_values v taken)) → bs ≡ begun
    → MeansAll new ended (λ v. entries_written (high v frees) (v at.number) (v none.number) (wire_values v bs))
    → MeansAll new ended (λ v. entries_written (high v frees) (v at.number) 0 (entries_written (high v begins) (v id.number) 1 (wire_values v taken)))
taken_means b1 b2 b3 new taken begun bs ended one none begins id frees at g2 g3 g4 o n h e m = record {
  at = λ v s.
      let s3 = g4.later.back v s in
      let s2 = g3.later.back v s3 in
      let s1 = g2.later.back v s2 in
      m.at v s
      ∙ ap (λ (ws : List Wire). entries_written (high v frees) (v at.number) (v none.number) (wire_values v ws)) e
      ∙ ap (λ (xs : List ℕ). entries_written (high v frees) (v at.number) (v none.number) xs) (h.at v s3)
      ∙ ap (λ (x : ℕ). entries_written (high v frees) (v at.number) x (entries_written (high v begins) (v id.number) (v one.number) (wire_values v taken))) (n.at v s2)
      ∙ ap (λ (x : ℕ). entries_written (high v frees) (v at.number) 0 (entries_written (high v begins) (v id.number) x (wire_values v taken))) (o.at v s1);
}

abbrev side : ℕ → ℕ → List ℕ → List ℕ → SlotSide
side id asking taken olds = record { id = id; asking = asking; taken = taken; olds = olds }

pub next_is : (b0 b1 b2 b3 new : Built) (slots : Slots) (moves : SlotMoves) (idle passes id begins asking : Wire) (taken olds ts os : List Wire)
    → Adds b0 b1 → Adds b1 b2 → Adds b2 b3 → Adds b3 new
    → Tells b0 idle (λ v. v slots.asking.number == 0) → Tells b0 passes (λ v. slot_passes (slot_side v slots) (slot_sight v moves)) → Means b0 id (λ v. slot_id (slot_side v slots))
    → Tells b1 begins (λ v. high v passes && high v idle)
    → Means b2 asking (λ v. left_then (high v passes) (v slots.asking.number) (v moves.rest.number))
    → ts ≡ slots.taken → MeansAll b3 taken (λ v. entries_written (high v moves.frees) (v moves.new.number) 0 (entries_written (high v begins) (v id.number) 1 (wire_values v ts)))
    → os ≡ slots.olds → MeansAll new olds (λ v. entries_written (high v begins) (v id.number) (v moves.old.number) (wire_values v os))
    → NextSlots new slots moves (record { id = id; asking = asking; taken = taken; olds = olds })
next_is b0 b1 b2 b3 new slots moves idle passes id begins asking taken olds ts os g1 g2 g3 g4 ti tp ti' tb ta et tt' eo to = record {
  at = λ v s.
      let s3 = g4.later.back v s in
      let s2 = g3.later.back v s3 in
      let s1 = g2.later.back v s2 in
      let s0 = g1.later.back v s1 in
      let now = slot_side v slots in
      let x = slot_sight v moves in
      let p = tp.at v s0 in
      let i = ti'.at v s0 in
      let b : high v begins ≡ slot_begins now x = tb.at v s1 ∙ ap (λ (c : Bool). c && high v idle) p ∙ ap (λ (c : Bool). slot_passes now x && c) (ti.at v s0) in
      let t : wire_values v taken ≡ entries_written x.frees x.new 0 (entries_written (slot_begins now x) (slot_id now) 1 now.taken) =
      tt'.at v s3
      ∙ ap (λ (ws : List Wire). entries_written x.frees x.new 0 (entries_written (high v begins) (v id.number) 1 (wire_values v ws))) et
      ∙ ap (λ (c : Bool). entries_written x.frees x.new 0 (entries_written c (v id.number) 1 now.taken)) b
      ∙ ap (λ (n : ℕ). entries_written x.frees x.new 0 (entries_written (slot_begins now x) n 1 now.taken)) i in
      let o : wire_values v olds ≡ entries_written (slot_begins now x) (slot_id now) x.old now.olds =
      to.at v s
      ∙ ap (λ (ws : List Wire). entries_written (high v begins) (v id.number) x.old (wire_values v ws)) eo
      ∙ ap (λ (c : Bool). entries_written c (v id.number) x.old now.olds) b
      ∙ ap (λ (n : ℕ). entries_written (slot_begins now x) n x.old now.olds) i in
      let a : v asking.number ≡ left_then (slot_passes now x) now.asking x.rest = ta.at v s2 ∙ ap (λ (c : Bool). left_then c now.asking x.rest) p in
      ap (λ n. side n (v asking.number) (wire_values v taken) (wire_values v olds)) i
      ∙ ap (λ n. side (slot_id now) n (wire_values v taken) (wire_values v olds)) a
      ∙ ap (λ ns. side (slot_id now) (left_then (slot_passes now x) now.asking x.rest) ns (wire_values v olds)) t
      ∙ ap (λ ns. side (slot_id now) (left_then (slot_passes now x) now.asking x.rest) (entries_written x.frees x.new 0 (entries_written (slot_begins now x) (slot_id now) 1 now.taken)) ns) o;
}

pub next_shape : (b0 b2 b3 new : Built) (count c d e old_bits : ℕ) (slots : Slots) (id asking : Wire) (taken olds : List Wire) → Later b0 new → Later b2 new → Later b3 new
    → HaveSlotShape b0 count id.width old_bits slots → IsWire b0 id → IsWire b2 asking → asking.width ≡ slots.asking.width
    → AreSlotEntries b3 c 1 taken → c ≡ count → AreEntries new old_bits olds → length olds ≡ d → d ≡ length slots.olds
    → HaveSlotShape new count id.width old_bits (record { id = id; asking = asking; taken = taken; olds = olds })
next_shape b0 b2 b3 new count c d e old_bits slots id asking taken olds l0 l2 l3 h wi wa ea t ec o lo ld = record {
  id = record { wire = wire_later b0 new id l0 wi; sized = refl };
  asking = record { wire = wire_later b2 new asking l2 wa; sized = ea ∙ h.asking.sized };
  taken = record { entries = entries_later b3 new 1 taken l3 t.entries; long = t.long ∙ ec };
  olds = record { entries = o; long = lo ∙ ld ∙ h.olds.long };
}

pub tell_all : (b1 b2 b3 new : Built) (slots : Slots) (moves : SlotMoves) (passes id old : Wire) (os : List Wire) → Later b1 new → Later b2 new → Later b3 new
    → Means b1 id (λ v. slot_id (slot_side v slots)) → Tells b2 passes (λ v. slot_passes (slot_side v slots) (slot_sight v moves))
    → os ≡ slots.olds → Means b3 old (λ v. get_or (wire_values v os) (v moves.new.number) 0)
    → TellSlots new slots moves (record { passes = passes; id = id; old = old })
tell_all b1 b2 b3 new slots moves passes id old os l1 l2 l3 i p e o = record {
  passes = λ v s. p.at v (l2.back v s);
  id = λ v s. i.at v (l1.back v s);
  old = λ v s. o.at v (l3.back v s) ∙ ap (λ (ws : List Wire). get_or (wire_values v ws) (v moves.new.number) 0) e;
}

pub tell_later : (old new : Built) (slots : Slots) (moves : SlotMoves) (w : SlotWires) → Later old new → TellSlots old slots moves w → TellSlots new slots moves w
tell_later old new slots moves w l h = record {
  passes = λ v s. h.passes v (l.back v s);
  id = λ v s. h.id v (l.back v s);
  old = λ v s. h.old v (l.back v s);
}
