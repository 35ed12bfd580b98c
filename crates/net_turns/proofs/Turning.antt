-- What is said of wires stays as the builder grows, and what becomes of a head by its parts.
use Rattle.std.proofs.Common.{◌≡◌, ℕ, ◌+◌, ◌-◌, ◌*◌, ◌/◌, ◌%◌, ◌^◌, ◌<◌, ◌≤◌, Bool, true, false, not, ◌&&◌, ◌||◌, refl, sym, ap, ◌∙◌, if◌then◌else◌, arith}
use Rattle.std.specs.Prelude.{◌==◌}
use Rattle.tl_edge.specs.Beats.{data_beats}
use Rattle.flow_core.specs.Turning.{ends_wide, number_after}
use Rattle.net_build.specs.declared.types.Wire.{Wire}
use Rattle.net_build.specs.Built.{Built}
use Rattle.net_build.specs.Values.{Later, Means, Solves, Tells, high}
use Rattle.net_build.proofs.Steps.{bit_later, wire_later}
use Rattle.net_lanes.specs.declared.places.Buses.{Buses}
use Rattle.net_lanes.specs.Lanes.{MeansWhere, TellsWhere}
use Rattle.net_turns.specs.declared.types.Counted.{Counted}
use Rattle.net_turns.specs.declared.types.Flow.{Flow}
use Rattle.net_turns.specs.declared.types.Head.{Head}
use Rattle.net_turns.specs.declared.types.Turn.{Turn}
use Rattle.net_turns.specs.declared.types.Turned.{Turned}
use Rattle.net_turns.specs.Turns.{AreCountedWires, AreHeadWires, AreTurnWires, HeldAt, IsCounted, IsFlow, IsTurn, IsTurned}

pub flow_later : (old new : Built) (widens : Bool) (valid room last : Wire) (f : Flow) → Later old new → IsFlow old widens valid room last f → IsFlow new widens valid room last f
flow_later old new widens valid room last f l h = record { made = λ v s. h.made v (l.back v s); take = λ v s. h.take v (l.back v s); put = λ v s. h.put v (l.back v s) }

pub counted_later : (old new : Built) (buses : Buses) (size address done : Wire) (c : Counted) → Later old new → IsCounted old buses size address done c → IsCounted new buses size address done c
counted_later old new buses size address done c l h = record {
  ends = λ v s e. h.ends v (l.back v s) e;
  lane = λ v s. h.lane v (l.back v s);
  next = λ v s e f. h.next v (l.back v s) e f;
}

pub counted_wires_later : (old new : Built) (buses : Buses) (c : Counted) → Later old new → AreCountedWires old buses c → AreCountedWires new buses c
counted_wires_later old new buses c l h = record {
  ends = bit_later old new c.ends l h.ends;
  lane = wire_later old new c.lane l h.lane;
  lane_wide = h.lane_wide;
  next = wire_later old new c.next l h.next;
  next_wide = h.next_wide;
}

pub head_wires_later : (old new : Built) (h : Head) → Later old new → AreHeadWires old h → AreHeadWires new h
head_wires_later old new h l w = record {
  valid = bit_later old new h.valid l w.valid;
  room = bit_later old new h.room l w.room;
  loaded = bit_later old new h.loaded l w.loaded;
  size = wire_later old new h.size l w.size;
  address = wire_later old new h.address l w.address;
}

pub turn_later : (old new : Built) (buses : Buses) (widens : Bool) (h : Head) (done : Wire) (t : Turn) → Later old new → IsTurn old buses widens h done t → IsTurn new buses widens h done t
turn_later old new buses widens h done t l i = record {
  counted = counted_later old new buses h.size h.address done t.counted l i.counted;
  last = λ v s. i.last v (l.back v s);
  flow = flow_later old new widens h.valid h.room t.last t.flow l i.flow;
  moves = λ v s. i.moves v (l.back v s);
  next = λ v s. i.next v (l.back v s);
}

pub turn_wires_later : (old new : Built) (buses : Buses) (t : Turn) → Later old new → AreTurnWires old buses t → AreTurnWires new buses t
turn_wires_later old new buses t l w = record {
  counted = counted_wires_later old new buses t.counted l w.counted;
  last = bit_later old new t.last l w.last;
  take = bit_later old new t.flow.take l w.take;
  put = bit_later old new t.flow.put l w.put;
  made = bit_later old new t.flow.made l w.made;
  moves = bit_later old new t.moves l w.moves;
  next = wire_later old new t.next l w.next;
  next_wide = w.next_wide;
}

pub turned_later : (old new : Built) (widens : Bool) (unit : ℕ) (t : Turn) (wire : Wire) (o : Turned) → Later old new → IsTurned old widens unit t wire o → IsTurned new widens unit t wire o
turned_later old new widens unit t wire o l h = record {
  starts = λ v a. h.starts v (l.starts v a);
  lanes = λ v n s k. h.lanes v n (l.back v s) k;
  nexts = λ v u n s q z k. h.nexts v u n (l.back v s) (l.ticks v u q) z k;
}

pub counted_is : (b1 b2 new : Built) (buses : Buses) (size address done last next turn lane ends : Wire) → Later b1 new → Later b2 new
    → TellsWhere b1 (λ v. v size.number ≤ 8) last (λ v. v done.number + 1 == data_beats (v size.number) (2 ^ buses.narrow))
    → MeansWhere b1 (λ v. (v size.number ≤ 8) × (v done.number < data_beats (v size.number) (2 ^ buses.narrow))) next (λ v. number_after (data_beats (v size.number) (2 ^ buses.narrow)) (v done.number))
    → Tells b2 turn (λ v. (v address.number + (v done.number + 1) * 2 ^ buses.narrow) % 2 ^ buses.wide == 0)
    → Means b2 lane (λ v. (v address.number + v done.number * 2 ^ buses.narrow) % 2 ^ buses.wide / 2 ^ buses.narrow)
    → Tells new ends (λ v. high v last || high v turn)
    → IsCounted new buses size address done (record { ends = ends; lane = lane; next = next })
counted_is b1 b2 new buses size address done last next turn lane ends l1 l2 t n u p e = record {
  ends = λ v s k.
      e.at v s
      ∙ ap (λ (x : Bool). x || high v turn) (t.at v (l1.back v s) k)
      ∙ ap (λ (x : Bool). (v done.number + 1 == data_beats (v size.number) (2 ^ buses.narrow)) || x) (u.at v (l2.back v s));
  lane = λ v s. p.at v (l2.back v s);
  next = λ v s k j. n.at v (l1.back v s) (k, j);
}

pub turn_is : (b1 b2 b3 b4 new : Built) (buses : Buses) (widens : Bool) (h : Head) (done : Wire) (t : Turn) → Later b1 new → Later b2 new → Later b3 new → Later b4 new
    → IsCounted b1 buses h.size h.address done t.counted
    → Tells b2 t.last (λ v. not (high v h.loaded) || high v t.counted.ends)
    → IsFlow b3 widens h.valid h.room t.last t.flow
    → Tells b4 t.moves (λ v. high v t.flow.made && high v h.loaded)
    → Means new t.next (λ v. if high v t.moves then v t.counted.next.number else v done.number)
    → IsTurn new buses widens h done t
turn_is b1 b2 b3 b4 new buses widens h done t l1 l2 l3 l4 c k f m n = record {
  counted = counted_later b1 new buses h.size h.address done t.counted l1 c;
  last = λ v s. k.at v (l2.back v s);
  flow = flow_later b3 new widens h.valid h.room t.last t.flow l3 f;
  moves = λ v s. m.at v (l4.back v s);
  next = λ v s. n.at v s;
}
