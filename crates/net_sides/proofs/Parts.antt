-- The parts of a channel, as the builder grows.
use Rattle.std.proofs.Common.{◌≡◌, ℕ, ◌*◌, ◌%◌, ◌^◌, ◌<◌, ◌≤◌, Bool, true, false, not, ◌&&◌, ◌||◌, List, [], ◌∷◌, length, get_or, refl, sym, ap, ◌∙◌, subst, arith, if◌then◌else◌}
use Rattle.std.specs.Prelude.{◌==◌, nat_lt}
use Rattle.tl_edge.specs.declared.beat.ABeat.{ABeat}
use Rattle.tl_edge.specs.declared.beat.DBeat.{DBeat}
use Rattle.tl_edge.specs.Beats.{active_mask}
use Rattle.tl_edge.specs.Messages.{bytes_of}
use Rattle.tl_edge.specs.Wires.{a_fields, d_fields}
use Rattle.net_build.specs.declared.types.Wire.{Wire}
use Rattle.net_build.specs.Built.{Built, IsUndriven}
use Rattle.net_build.specs.Values.{Adds, AtStart, Drives, Later, Means, Opens, Solves, Tells, high}
use Rattle.net_build.proofs.OpenedLists.{all_undriven_opens}
use Rattle.net_build.proofs.Steps.{bit_later, register_later, tells_later, wire_later}
use Rattle.net_lanes.specs.declared.kept.Kept.{Kept}
use Rattle.net_lanes.specs.declared.places.Buses.{Buses}
use Rattle.net_lanes.specs.Lanes.{MeansWhere}
use Rattle.net_queue.specs.declared.types.Put.{Put}
use Rattle.net_queue.specs.declared.types.Queue.{Queue}
use Rattle.net_queue.specs.Leaves.{IsPutInto}
use Rattle.net_queue.specs.Queues.{IsOpen, queue_registers}
use Rattle.net_queue.specs.Rows.{KeepsRow, row_widths}
use Rattle.net_queue.proofs.Alike.{alike_later}
use Rattle.net_queue.proofs.Opening.{open_adds}
use Rattle.net_turns.specs.declared.types.Head.{Head}
use Rattle.net_turns.proofs.Turning.{turn_later, turned_later}
use Rattle.net_sides.specs.declared.types.RequestCycle.{RequestCycle}
use Rattle.net_sides.specs.declared.types.RequestLanes.{RequestLanes}
use Rattle.net_sides.specs.declared.types.ResponseCycle.{ResponseCycle}
use Rattle.net_sides.specs.Puts.{AreRequestLanes, CanTurnDown, CanTurnUp, IsRequestCycle, IsRequestHead, IsResponseCycle, IsResponseHead, with_request_lanes}

pub data_means : (b1 new : Built) (none loaded wire w : Wire) → Adds b1 new → Means b1 none (λ v. 0) → Means new w (λ v. if v loaded.number == 1 then v wire.number else v none.number) → Means new w (λ v. if high v loaded then v wire.number else 0)
data_means b1 new none loaded wire w g z m = record { at = λ v s. m.at v s ∙ ap (λ (n : ℕ). if high v loaded then v wire.number else n) (z.at v (g.later.back v s)) }

pub begin_tells : (b1 b2 new : Built) (made loaded done idle first w : Wire) → Later b1 new → Later b2 new → Tells b1 idle (λ v. v done.number == 0) → Tells b2 first (λ v. not (high v loaded) || high v idle) → Tells new w (λ v. high v made && high v first)
    → Tells new w (λ v. high v made && (not (high v loaded) || (v done.number == 0)))
begin_tells b1 b2 new made loaded done idle first w l1 l2 i f t = record {
  at = λ v s.
      t.at v s
      ∙ ap (λ (x : Bool). high v made && x) (f.at v (l2.back v s) ∙ ap (λ (x : Bool). not (high v loaded) || x) (i.at v (l1.back v s)));
}

pub lanes_are : (b1 b2 new : Built) (width : ℕ) (h : Head) (mask payload active out data_out : Wire) → Later b1 new → Later b2 new
    → MeansWhere b1 (λ v. (v h.size.number ≤ 8) × (v h.address.number % bytes_of (v h.size.number) ≡ 0)) active (λ v. active_mask width (v h.size.number) (v h.address.number))
    → Means b2 out (λ v. if v h.loaded.number == 1 then v mask.number else v active.number)
    → Means new data_out (λ v. if high v h.loaded then v payload.number else 0)
    → AreRequestLanes new width h mask payload (record { mask = out; payload = data_out })
lanes_are b1 b2 new width h mask payload active out data_out l1 l2 a m d = record {
  mask_put = λ v s z e. m.at v (l2.back v s) ∙ ap (λ (n : ℕ). if high v h.loaded then v mask.number else n) (a.at v (l1.back v s) (z, e));
  payload_put = λ v s. d.at v s;
}

-- ---- later

pub put_into_later : (old new : Built) (q : Queue) (p : Put) → Later old new → IsPutInto old q p → IsPutInto new q p
put_into_later old new q p l h = record { valid = bit_later old new p.valid l h.valid; items = alike_later old new q.head p.items l h.items }

pub request_head_later : (old new : Built) (above below : Queue) (h : Head) → Later old new → IsRequestHead old above below h → IsRequestHead new above below h
request_head_later old new above below h l i = record {
  valid = i.valid;
  room = i.room;
  loaded = λ v beat s. i.loaded v beat (l.back v s);
  size = i.size;
  address = i.address;
}

pub request_lanes_later : (old new : Built) (width : ℕ) (h : Head) (mask payload : Wire) (l : RequestLanes) → Later old new → AreRequestLanes old width h mask payload l → AreRequestLanes new width h mask payload l
request_lanes_later old new width h mask payload l g i = record { mask_put = λ v s. i.mask_put v (g.back v s); payload_put = λ v s. i.payload_put v (g.back v s) }

pub keeps_row_later : (old new : Built) (from : List Wire) (widths : List ℕ) (to : List Wire) → Later old new → KeepsRow old from widths to → KeepsRow new from widths to
keeps_row_later old new from widths to l h = record { at = λ v s f. h.at v (l.back v s) f }

pub request_cycle_later : (old new : Built) (buses : Buses) (turns : Bool) (above below : Queue) (done : Wire) (c : RequestCycle) → Later old new → IsRequestCycle old buses turns above below done c → IsRequestCycle new buses turns above below done c
request_cycle_later old new buses turns above below done c l i = record {
  head = request_head_later old new above below c.head l i.head;
  turn = turn_later old new buses turns c.head done c.turn l i.turn;
  mask = λ d. turned_later old new turns (2 ^ buses.narrow) c.turn (get_or above.head 5 d) c.mask l (i.mask d);
  payload = λ d. turned_later old new turns (8 * 2 ^ buses.narrow) c.turn (get_or above.head 6 d) c.payload l (i.payload d);
  lanes = request_lanes_later old new _ c.head c.mask.lanes c.payload.lanes c.lanes l i.lanes;
  valid = i.valid;
  keeps = keeps_row_later old new (with_request_lanes above.head c.lanes) (row_widths below.head) c.put.items l i.keeps;
  begins = record { at = λ v s. i.begins.at v (l.back v s) };
}

pub response_head_later : (old new : Built) (kept : Kept) (below above : Queue) (h : Head) → Later old new → IsResponseHead old kept below above h → IsResponseHead new kept below above h
response_head_later old new kept below above h l i = record {
  valid = λ v s. i.valid v (l.back v s);
  room = i.room;
  loaded = λ v beat s. i.loaded v beat (l.back v s);
  size = i.size;
  address = i.address;
}

pub response_cycle_later : (old new : Built) (buses : Buses) (turns : Bool) (kept : Kept) (below above : Queue) (done : Wire) (c : ResponseCycle) → Later old new → IsResponseCycle old buses turns kept below above done c → IsResponseCycle new buses turns kept below above done c
response_cycle_later old new buses turns kept below above done c l i = record {
  head = response_head_later old new kept below above c.head l i.head;
  turn = turn_later old new buses turns c.head done c.turn l i.turn;
  payload = λ d. turned_later old new turns (8 * 2 ^ buses.narrow) c.turn (get_or below.head 4 d) c.payload l (i.payload d);
  data_out = λ v s. i.data_out v (l.back v s);
  valid = i.valid;
  keeps = keeps_row_later old new _ (row_widths above.head) c.put.items l i.keeps;
}

-- a register begins at 0
pub begins_zero : (old new : Built) (w : Wire) → Later old new → IsUndriven old w → (v : ℕ → ℕ) → AtStart new v → v w.number ≡ 0
begins_zero old new w l u v a = a.holds w.number _ (register_later old new w l u.register).at refl

-- ---- open queues

pub open_opens : (old new : Built) (q : Queue) (rs : List ℕ) → Opens old new rs → IsOpen old q → IsOpen new q
open_opens old new q rs g o = record {
  ready = bit_later old new q.ready g.later o.ready;
  valid = bit_later old new q.valid g.later o.valid;
  full = bit_later old new q.full g.later o.full;
  alike = alike_later old new q.head q.last g.later o.alike;
  undriven = all_undriven_opens old new (queue_registers q) rs g o.undriven;
  distinct = o.distinct;
  room = tells_later old new q.ready _ g.later o.room;
}

pub can_down_later : (old new : Built) (buses : Buses) (turns : Bool) (above below : Queue) (rs : List ℕ) → Opens old new rs → CanTurnDown old buses turns above below → CanTurnDown new buses turns above below
can_down_later old new buses turns above below rs g c = record {
  two = c.two;
  open_above = open_opens old new above rs g c.open_above;
  open_below = open_opens old new below rs g c.open_below;
  long = c.long;
  other = c.other;
  op = c.op;
  mask = c.mask;
  payload = c.payload;
}

pub can_down_adds : (old new : Built) (buses : Buses) (turns : Bool) (above below : Queue) → Adds old new → CanTurnDown old buses turns above below → CanTurnDown new buses turns above below
can_down_adds old new buses turns above below g c = record {
  two = c.two;
  open_above = open_adds old new above g c.open_above;
  open_below = open_adds old new below g c.open_below;
  long = c.long;
  other = c.other;
  op = c.op;
  mask = c.mask;
  payload = c.payload;
}

pub can_up_later : (old new : Built) (buses : Buses) (turns : Bool) (below above : Queue) (rs : List ℕ) → Opens old new rs → CanTurnUp old buses turns below above → CanTurnUp new buses turns below above
can_up_later old new buses turns below above rs g c = record {
  two = c.two;
  open_below = open_opens old new below rs g c.open_below;
  open_above = open_opens old new above rs g c.open_above;
  long = c.long;
  other = c.other;
  op = c.op;
  payload = c.payload;
}

pub can_up_adds : (old new : Built) (buses : Buses) (turns : Bool) (below above : Queue) → Adds old new → CanTurnUp old buses turns below above → CanTurnUp new buses turns below above
can_up_adds old new buses turns below above g c = record {
  two = c.two;
  open_below = open_adds old new below g c.open_below;
  open_above = open_adds old new above g c.open_above;
  long = c.long;
  other = c.other;
  op = c.op;
  payload = c.payload;
}
