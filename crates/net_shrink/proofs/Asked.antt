-- What the queues of two edges show a shrinker.
use Rattle.std.proofs.Common.{◌≡◌, ℕ, zero, suc, ◌<◌, ◌≤◌, ◌^◌, ◌&&◌, List, [], ◌∷◌, length, get_or, set, refl, sym, ap, ◌∙◌, subst, arith}
use Rattle.std.specs.Prelude.{slice_set}
use Rattle.std.proofs.lemmas.List.{get_or-map}
use Rattle.tl_edge.specs.Wires.{FitWires}
use Rattle.net_build.specs.declared.types.Wire.{Wire}
use Rattle.net_build.specs.Bits.{wire_values}
use Rattle.net_build.specs.Built.{Built, IsBit, IsWire}
use Rattle.net_build.specs.Values.{Adds, Solves, Tells, high}
use Rattle.net_build.proofs.Steps.{bit_adds, wire_adds}
use Rattle.net_queue.specs.declared.types.EdgeWires.{EdgeWires}
use Rattle.net_queue.specs.declared.types.Put.{Put}
use Rattle.net_queue.specs.Leaves.{IsPutInto}
use Rattle.net_queue.specs.Rows.{KeepsRow, row_widths}
use Rattle.net_queue.proofs.Alike.{alike_adds}
use Rattle.net_queue.proofs.Opening.{open_adds}
use Rattle.net_slots.specs.declared.types.SlotMoves.{SlotMoves}
use Rattle.net_slots.specs.declared.types.SlotWires.{SlotWires}
use Rattle.net_slots.specs.declared.types.Slots.{Slots}
use Rattle.net_slots.specs.Slots.{slot_id}
use Rattle.net_slots.specs.SlotWires.{AreMoveWires, AreSlots, IsSized, TellSlots, slot_side}
use Rattle.net_shrink.specs.declared.types.Answering.{Answering}
use Rattle.net_shrink.specs.Between.{AreAnswered, AreAsked, FollowsRequest, IsAnswering, IsHeadRow, IsShrunk, MayShrink}

-- ---- heads

pub head_wire : (old new : Built) (fields : ℕ) (row hs : List Wire) (k : ℕ) (d : Wire) → Adds old new → hs ≡ row → IsHeadRow old fields row → k < fields → IsWire new (get_or hs k d)
head_wire old new fields row hs k d g e h l = wire_adds old new (get_or hs k d) g (subst (λ ws. IsWire old (get_or ws k d)) (sym e) (h.wires k d (omega (arith, l, h.long))))

pub head_op : (old new : Built) (fields : ℕ) (row hs : List Wire) (d : Wire) → Adds old new → hs ≡ row → IsHeadRow old fields row → 0 < fields → IsSized new 3 (get_or hs 0 d)
head_op old new fields row hs d g e h l = record { wire = head_wire old new fields row hs 0 d g e h l; sized = ap (λ ws. (get_or ws 0 d).width) e ∙ h.op d }

row_later : (old new : Built) (fields : ℕ) (row : List Wire) → Adds old new → IsHeadRow old fields row → IsHeadRow new fields row
row_later old new fields row g h = record { long = h.long; wires = λ k d l. wire_adds old new (get_or row k d) g (h.wires k d l); op = h.op }

pub may_later : (old new : Built) (count bus : ℕ) (above below : EdgeWires) → Adds old new → MayShrink old count bus above below → MayShrink new count bus above below
may_later old new count bus above below g h = record {
  some = h.some;
  wide = h.wide;
  above_a = open_adds old new above.a g h.above_a;
  above_d = open_adds old new above.d g h.above_d;
  below_a = open_adds old new below.a g h.below_a;
  below_d = open_adds old new below.d g h.below_d;
  request = row_later old new 7 above.a.head g h.request;
  requested = row_later old new 7 below.a.head g h.requested;
  response = row_later old new 5 below.d.head g h.response;
  responded = row_later old new 5 above.d.head g h.responded;
  few_down = h.few_down;
  few_up = h.few_up;
}

row_value : (v : ℕ → ℕ) (row hs : List Wire) (k : ℕ) (d : Wire) → hs ≡ row → k < length row → v (get_or hs k d).number ≡ get_or (wire_values v row) k 0
row_value v row hs k d e l = ap (λ ws. v (get_or ws k d).number) e ∙ sym (get_or-map (λ (w : Wire). v w.number) row k d 0 l)

-- ---- what the slots go by

pub moves_are : (old new : Built) (count bus : ℕ) (above below : EdgeWires) (wants rest frees : Wire) (hs bs : List Wire) (d : Wire) → Adds old new → MayShrink old count bus above below → hs ≡ above.a.head → bs ≡ below.d.head
    → IsBit new wants → IsSized new 8 rest → IsBit new frees
    → AreMoveWires new count (get_or hs 3 d).width (record { wants = wants; old = get_or hs 3 d; rest = rest; frees = frees; new = get_or bs 2 d })
moves_are old new count bus above below wants rest frees hs bs d g m e f hw hr hf = record {
  wants = hw;
  old = record { wire = head_wire old new 7 above.a.head hs 3 d g e m.request (omega arith); sized = refl };
  rest = hr;
  frees = hf;
  new = head_wire old new 5 below.d.head bs 2 d g f m.response (omega arith);
  small = subst (λ ws. count ≤ 2 ^ (get_or ws 2 d).width) (sym f) (m.few_up d);
}

pub asked_is : (old b1 b2 new : Built) (count bus : ℕ) (above below : EdgeWires) (a : Answering) (wants rest : Wire) (hs bs : List Wire) (d : Wire) → Adds b1 new → Adds b2 new → MayShrink old count bus above below → hs ≡ above.a.head → bs ≡ below.d.head
    → Tells b1 wants (λ v. high v above.a.valid && high v below.a.ready) → FollowsRequest b2 bus (get_or hs 0 d) (get_or hs 2 d) rest
    → AreAsked new bus above below a (record { wants = wants; old = get_or hs 3 d; rest = rest; frees = a.frees; new = get_or bs 2 d })
asked_is old b1 b2 new count bus above below a wants rest hs bs d g1 g2 m e f t r = record {
  wants = λ v s. t.at v (g1.later.back v s);
  old = λ v. row_value v above.a.head hs 3 d e (omega (arith, m.request.long));
  rest = λ v beat s q small.
      r.at v beat (g2.later.back v s)
      (row_value v above.a.head hs 0 d e (omega (arith, m.request.long)) ∙ ap (λ (xs : List ℕ). get_or xs 0 0) q)
      (row_value v above.a.head hs 2 d e (omega (arith, m.request.long)) ∙ ap (λ (xs : List ℕ). get_or xs 2 0) q)
      small;
  frees = refl;
  new = λ v. row_value v below.d.head bs 2 d f (omega (arith, m.response.long));
}

-- ---- the whole

pub answered_is : (old b1 new : Built) (count bus : ℕ) (above below : EdgeWires) (a : Answering) (bs : List Wire) (d : Wire) → Adds b1 new → MayShrink old count bus above below → bs ≡ below.d.head
    → IsAnswering b1 bus below.d.valid above.d.ready (get_or bs 0 d) (get_or bs 1 d) a → AreAnswered new bus above below a
answered_is old b1 new count bus above below a bs d g m f h = record {
  goes = λ v s. h.goes v (g.later.back v s);
  frees = λ v s. h.frees v (g.later.back v s);
  rest = λ v beat s q small.
      h.rest.at v beat (g.later.back v s)
      (row_value v below.d.head bs 0 d f (omega (arith, m.response.long)) ∙ ap (λ (xs : List ℕ). get_or xs 0 0) q)
      (row_value v below.d.head bs 1 d f (omega (arith, m.response.long)) ∙ ap (λ (xs : List ℕ). get_or xs 1 0) q)
      small;
  starts = λ v s. h.starts v (g.later.starts v s);
  nexts = λ v u s t z. h.nexts v u (g.later.back v s) (g.later.ticks v u t) z;
}

asked_later : (old new : Built) (bus : ℕ) (above below : EdgeWires) (a : Answering) (m : SlotMoves) → Adds old new → AreAsked old bus above below a m → AreAsked new bus above below a m
asked_later old new bus above below a m g h = record {
  wants = λ v s. h.wants v (g.later.back v s);
  old = h.old;
  rest = λ v beat s q small. h.rest v beat (g.later.back v s) q small;
  frees = h.frees;
  new = h.new;
}

slots_later : (old new : Built) (count : ℕ) (s : Slots) (m : SlotMoves) → Adds old new → AreSlots old count s m → AreSlots new count s m
slots_later old new count s m g h = record {
  taken_long = h.taken_long;
  olds_long = h.olds_long;
  starts = λ v a. h.starts v (g.later.starts v a);
  nexts = λ v u q t z. h.nexts v u (g.later.back v q) (g.later.ticks v u t) z;
}

values_set : (v : ℕ → ℕ) (ws : List Wire) (k : ℕ) (w : Wire) → wire_values v (set ws k w) ≡ set (wire_values v ws) k (v w.number)
values_set v [] k w = refl
values_set v (x ∷ ws) zero w = refl
values_set v (x ∷ ws) (suc k) w = ap (λ (xs : List ℕ). v x.number ∷ xs) (values_set v ws k w)

put_kept : (b : Built) (v : ℕ → ℕ) (row items : List Wire) (widths : List ℕ) (k : ℕ) (w : Wire) (n : ℕ) → Solves b v → v w.number ≡ n → KeepsRow b (slice_set row k w) widths items
    → FitWires (slice_set (wire_values v row) k n) widths → wire_values v items ≡ slice_set (wire_values v row) k n
put_kept b v row items widths k w n s e h f =
    let q : wire_values v (set row k w) ≡ set (wire_values v row) k n = values_set v row k w ∙ ap (set (wire_values v row) k) e in
    h.at v s (subst (λ xs. FitWires xs widths) (sym q) f) ∙ q

pub shrunk_is : (old b1 b2 b3 b4 new : Built) (count bus : ℕ) (above below : EdgeWires) (a : Answering) (m : SlotMoves) (slots : Slots) (w : SlotWires) (down up : Put) (bs : List Wire) (d : Wire)
    → Adds b1 b2 → Adds b2 b3 → Adds b3 b4 → Adds b4 new → MayShrink old count bus above below → bs ≡ below.d.head
    → IsAnswering b1 bus below.d.valid above.d.ready (get_or bs 0 d) (get_or bs 1 d) a → AreAsked b2 bus above below a m
    → AreSlots b3 count slots m → TellSlots b3 slots m w
    → down.valid ≡ w.passes → IsPutInto b4 below.a down → KeepsRow b4 (slice_set above.a.head 3 w.id) (row_widths below.a.head) down.items
    → up.valid ≡ a.goes → IsPutInto new above.d up → KeepsRow new (slice_set below.d.head 2 w.old) (row_widths above.d.head) up.items
    → IsShrunk new count bus above below (record { down = down; up = up; moves = m; slots = slots; answering = a })
shrunk_is old b1 b2 b3 b4 new count bus above below a m slots w down up bs d g2 g3 g4 g5 may f ha hm hs ht dv di dk uv ui uk =
    record {
      down = record { valid = bit_adds b4 new down.valid g5 di.valid; items = alike_adds b4 new below.a.head down.items g5 di.items };
      up = ui;
      slots = slots_later b4 new count slots m g5 (slots_later b3 b4 count slots m g4 hs);
      asked = asked_later b4 new bus above below a m g5 (asked_later b3 b4 bus above below a m g4 (asked_later b2 b3 bus above below a m g3 hm));
      answering = answered_later b4 new g5 (answered_later b3 b4 g4 (answered_later b2 b3 g3 (answered_is old b1 b2 count bus above below a bs d g2 may f ha)));
      passes = λ v s. ap (high v) dv ∙ ht.passes v (g4.later.back v (g5.later.back v s));
      goes = uv;
      requests = λ v s x. let s4 = g5.later.back v s in put_kept b4 v above.a.head down.items (row_widths below.a.head) 3 w.id (slot_id (slot_side v slots)) s4 (ht.id v (g4.later.back v s4)) dk x;
      responses = λ v s x. put_kept new v below.d.head up.items (row_widths above.d.head) 2 w.old (get_or (wire_values v slots.olds) (v m.new.number) 0) s (ht.old v (g4.later.back v (g5.later.back v s))) uk x;
    }
  where
    answered_later : (p q : Built) → Adds p q → AreAnswered p bus above below a → AreAnswered q bus above below a
    answered_later p q g h = record {
      goes = λ v s. h.goes v (g.later.back v s);
      frees = λ v s. h.frees v (g.later.back v s);
      rest = λ v beat s e small. h.rest v beat (g.later.back v s) e small;
      starts = λ v s. h.starts v (g.later.starts v s);
      nexts = λ v u s t z. h.nexts v u (g.later.back v s) (g.later.ticks v u t) z;
    }
