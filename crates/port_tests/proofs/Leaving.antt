-- Which beat may leave next at the sink port of a test, and how the port stands when it has left.
use Rattle.std.proofs.Common.{ℕ, ◌≡◌, ◌+◌, ◌<◌, List, [], ◌∷◌, ◌++◌, Bool, true, false, cond, length, take, Option, Some, None, refl, sym, ◌∙◌, ap, subst, arith, length-append}
use Rattle.std.proofs.lemmas.List.{take_more}
use Rattle.std.specs.Prelude.{slice_get}
use Rattle.std.proofs.lemmas.List.FromFn.{length-map-range_with_len, get_or-map-range_with_len}
use Rattle.std.proofs.lemmas.Option.{slice_get-get_or, slice_get_within, get_or_from_slice_get}
use Rattle.tl_edge.specs.declared.beat.ABeat.{ABeat}
use Rattle.tl_edge.specs.declared.message.Request.{Request}
use Rattle.tl_edge.specs.Beats.{a_beat, beats_of_request, request_beats}
use Rattle.tl_edge.specs.Joined.{joined_request}
use Rattle.sim_ports.specs.Devices.{HasJust, HaveSame, HeldBytes, MayBeAsked}
use Rattle.sim_ports.specs.SinkLaws.{KeepsItsOwn}
use Rattle.sim_ports.specs.Sinks.{MayLeave, Sinking, after_leave, are_all, sink_answered, sink_takes, sinking, with_taken}
use Rattle.sim_ports.proofs.Serves.{leave_kept}
use Rattle.port_tests.specs.Known.{MayBeAskedAt}
use Rattle.port_tests.specs.SinkTest.{IsServed}

-- a request whose bytes stand among the addresses that a device has may be asked of it
asked_of : (addresses : List ℕ) (request : Request) (room : ℕ) (held : HeldBytes) → MayBeAskedAt addresses request room → HasJust addresses held → MayBeAsked held request
asked_of addresses request room held m just = record {
  shape = m.shape;
  address = m.limits.address;
  source = m.limits.source;
  small = m.limits.small;
  param = m.limits.param;
  has = λ number lt. (just (request.address + number)).1 (m.has number lt);
}

-- the beat of a request with a number stands there among its beats
beat_there : (width : ℕ) (request : Request) (number : ℕ) (beat : ABeat) → number < request_beats request.op request.size width → beat ≡ a_beat width request number
    → slice_get (beats_of_request width request) number ≡ Some beat
beat_there width request number beat lt is =
    let count = request_beats request.op request.size width in
    let long = length-map-range_with_len (a_beat width request) 0 count in
    slice_get-get_or (beats_of_request width request) number beat (omega (arith, long, lt))
    ∙ ap (λ b. Some b) (get_or-map-range_with_len (a_beat width request) 0 count number number beat lt (omega arith) ∙ sym is)

pub next_leaves : (width : ℕ) (addresses : List ℕ) (request : Request) (room : ℕ) (sink : Sinking) (number : ℕ) (beat : ABeat)
    → IsServed width addresses request sink → sink_takes sink.port false ≡ true → MayBeAskedAt addresses request room
    → number ≡ length sink.port.taken → number < request_beats request.op request.size width → beat ≡ a_beat width request number
    → MayLeave sink beat
next_leaves width addresses request room sink number beat s takes m n lt is =
    record {
      takes = takes;
      prepared = s.prepared;
      request = request;
      asked = asked_of addresses request room sink.device.held m s.just;
      bytes = s.bytes;
      before = subst (λ w. sink.port.taken ≡ take (length sink.port.taken) (beats_of_request w request)) (sym s.width_is) s.before;
      next =
          subst (λ w. slice_get (beats_of_request w request) (length sink.port.taken) ≡ Some beat) (sym s.width_is)
          (subst (λ k. slice_get (beats_of_request width request) k ≡ Some beat) n (beat_there width request number beat lt is));
    }

-- the beats that have left are the first ones of these
abbrev AreFirst : List ABeat → Sinking → Type 0
AreFirst beats sink = sink.port.taken ≡ take (length sink.port.taken) beats

answered_first : (beats : List ABeat) (sink : Sinking) (cycle : ℕ) (request : Option Request) → AreFirst beats sink → AreFirst beats (sink_answered sink cycle request)
answered_first beats sink cycle None first = first
answered_first beats sink cycle (Some request) first = refl

either_first : (beats : List ABeat) (one other : Sinking) (b : Bool) → AreFirst beats one → AreFirst beats other → AreFirst beats (cond b one other)
either_first beats one other true a b = a
either_first beats one other false a b = b

more_first : (beats : List ABeat) (sink : Sinking) (beat : ABeat) → AreFirst beats sink → slice_get beats (length sink.port.taken) ≡ Some beat
    → sink.port.taken ++ beat ∷ [] ≡ take (length (sink.port.taken ++ beat ∷ [])) beats
more_first beats sink beat first next =
    let n = length sink.port.taken in
    let long = length-append sink.port.taken (beat ∷ []) in
    ap (λ l. l ++ beat ∷ []) first
    ∙ sym (take_more beats n beat (slice_get_within beats n beat next) ∙ ap (λ y. take n beats ++ y ∷ []) (get_or_from_slice_get beats n beat beat next))
    ∙ ap (λ k. take k beats) (sym long)

left_first : (beats : List ABeat) (sink : Sinking) (cycle : ℕ) (beat : ABeat) → AreFirst beats sink → slice_get beats (length sink.port.taken) ≡ Some beat
    → AreFirst beats (after_leave sink cycle beat)
left_first beats sink cycle beat first next =
    either_first beats (sink_answered sink cycle (joined_request sink.port.width (sink.port.taken ++ beat ∷ [])))
    (sinking sink.device (with_taken sink.port (sink.port.taken ++ beat ∷ [])))
    (are_all sink.port.width (sink.port.taken ++ beat ∷ []) beat)
    (answered_first beats sink cycle (joined_request sink.port.width (sink.port.taken ++ beat ∷ [])) first)
    (more_first beats sink beat first next)

pub has_left : (width : ℕ) (addresses : List ℕ) (request : Request) (sink new : Sinking) (number cycle : ℕ) (beat : ABeat)
    → IsServed width addresses request sink → number ≡ length sink.port.taken → number < request_beats request.op request.size width
    → beat ≡ a_beat width request number → new ≡ after_leave sink cycle beat → HaveSame new.device.held sink.device.held
    → IsServed width addresses request new
has_left width addresses request sink new number cycle beat s n lt is e same =
    let kept : KeepsItsOwn sink (after_leave sink cycle beat) = leave_kept sink cycle beat in
    let there =
    subst (λ k. slice_get (beats_of_request width request) k ≡ Some beat) n (beat_there width request number beat lt is) in
    record {
      width_is = ap (λ (k : Sinking). k.port.width) e ∙ kept.width ∙ s.width_is;
      bus = s.bus;
      prepared = ap (λ (k : Sinking). k.device.prepared) e ∙ kept.prepared ∙ s.prepared;
      just = λ a. (λ some. (s.just a).0 ((same a).0 some), λ there. (same a).1 ((s.just a).1 there));
      bytes = s.bytes;
      before =
          subst (AreFirst (beats_of_request width request)) (sym e)
          (left_first (beats_of_request width request) sink cycle beat s.before there);
    }
