-- At one port what the outputs of a netlist show gives the events of the network's moves there.
use Rattle.std.proofs.Common.{ℕ, ◌≡◌, ◌<◌, ◌&&◌, List, [], ◌∷◌, ◌++◌, Bool, true, false, cond, length, get_or, Option, Some, None, is_some, slice_get, refl, ap, sym, ◌∙◌, lt-ltb}
use Rattle.std.specs.Prelude.{flat_map}
use Rattle.std.specs.Option.{option_and_then, option_map, option_map_or}
use Rattle.std.proofs.Math.Bool.{and-true}
use Rattle.std.proofs.lemmas.List.{map-append}
use Rattle.std.proofs.lemmas.Grind.{flat_map-append}
use Rattle.tl_edge.specs.declared.beat.ABeat.{ABeat}
use Rattle.tl_edge.specs.declared.beat.DBeat.{DBeat}
use Rattle.tl_edge.specs.declared.beat.Event.{Event}
use Rattle.tl_edge.specs.declared.beat.Tag.{Tag}
use Rattle.tl_edge.specs.declared.beat.What.TheVariants.{Enter as Entered, Return as Returned, Leave as Left, Reply as Replied}
use Rattle.tl_edge.specs.declared.plan.PlanPort.{PlanPort}
use Rattle.tl_edge.specs.Plans.{edge_at}
use Rattle.flow_core.specs.declared.moves.Move.{Move}
use Rattle.flow_core.specs.declared.moves.Move.TheVariants.{Enter, Leave, Reply, Return}
use Rattle.flow_core.specs.Carried.{carries_a, carries_d}
use Rattle.flow_core.specs.Network.{Job, State, is_enabled, leaving, may_do, port_job_a, port_job_d, returning}
use Rattle.flow_core.specs.Queues.{has_place, head_in, puts, queue, takes}
use Rattle.flow_choice.specs.declared.offers.Offers.{Offers}
use Rattle.flow_choice.specs.Choosing.{entering, flag_at, replying, sink_moves, source_moves, taking}
use Rattle.net_ports.specs.Implementing.{sink_shows, source_shows}
use Rattle.sim_events.specs.declared.types.SourceOffer.{SourceOffer}
use Rattle.sim_events.specs.declared.types.SinkOffer.{SinkOffer}
use Rattle.sim_events.specs.Passing.{happening, if_room, sink_events, source_events}
use Rattle.sim_events.specs.Reading.{sink_view, source_view}
use Rattle.sim_events.specs.Network.{TaggedEvent, event_of_move, events_of, tagged_event}
use Rattle.sim_events.proofs.Read.{IsShortAsk, IsShortHead, bare_request, bare_response, sink_seen, source_seen}

-- ---- which moves of ports may be made

module _ (s : State) where
  may_put_down : (e : ℕ) (x : ABeat × Tag) → e < length s.a → may_do s (port_job_a (puts e x)) ≡ has_place (queue s.a e)
  may_put_down e x h = ap (λ b. (b && has_place (queue s.a e)) && true) (lt-ltb e (length s.a) h) ∙ and-true (has_place (queue s.a e))

  may_put_up : (e : ℕ) (x : DBeat × Tag) → e < length s.d → may_do s (port_job_d (puts e x)) ≡ has_place (queue s.d e)
  may_put_up e x h = ap (λ b. b && has_place (queue s.d e)) (lt-ltb e (length s.d) h)

  may_take_down : (e : ℕ) → may_do s (port_job_a (takes e)) ≡ is_some (head_in (queue s.a e))
  may_take_down e = and-true (is_some (head_in (queue s.a e)) && true) ∙ and-true (is_some (head_in (queue s.a e)))

  may_take_up : (e : ℕ) → may_do s (port_job_d (takes e)) ≡ is_some (head_in (queue s.d e))
  may_take_up e = and-true (is_some (head_in (queue s.d e)))

  abbrev may : Option Job → Bool
  may j = option_map_or (may_do s) j false

  enter_may : (k : ℕ) (at : PlanPort) (x : ABeat × Tag) → slice_get s.plan.sources k ≡ Some at → at.edge < length s.a
      → carries_a (edge_at s.plan at.edge) x.0 ≡ true → is_enabled s (Enter k x.0 x.1) ≡ has_place (queue s.a at.edge)
  enter_may k at x g h c =
      ap (λ (p : Option PlanPort). may (option_and_then (λ (e : ℕ). cond (carries_a (edge_at s.plan e) x.0) (Some (port_job_a (puts e (x.0, x.1)))) None) (option_map (λ (q : PlanPort). q.edge) p))) g
      ∙ ap (λ b. may (cond b (Some (port_job_a (puts at.edge (x.0, x.1)))) None)) c
      ∙ may_put_down at.edge (x.0, x.1) h

  reply_may : (k : ℕ) (at : PlanPort) (x : DBeat × Tag) → slice_get s.plan.sinks k ≡ Some at → at.edge < length s.d
      → carries_d (edge_at s.plan at.edge) x.0 ≡ true → is_enabled s (Reply k x.0 x.1) ≡ has_place (queue s.d at.edge)
  reply_may k at x g h c =
      ap (λ (p : Option PlanPort). may (option_and_then (λ (e : ℕ). cond (carries_d (edge_at s.plan e) x.0) (Some (port_job_d (puts e (x.0, x.1)))) None) (option_map (λ (q : PlanPort). q.edge) p))) g
      ∙ ap (λ b. may (cond b (Some (port_job_d (puts at.edge (x.0, x.1)))) None)) c
      ∙ may_put_up at.edge (x.0, x.1) h

  leave_may : (k : ℕ) (at : PlanPort) → slice_get s.plan.sinks k ≡ Some at → is_enabled s (Leave k) ≡ is_some (head_in (queue s.a at.edge))
  leave_may k at g =
      ap (λ (p : Option PlanPort). may (option_map (λ (e : ℕ). port_job_a (takes e)) (option_map (λ (q : PlanPort). q.edge) p))) g ∙ may_take_down at.edge

  return_may : (k : ℕ) (at : PlanPort) → slice_get s.plan.sources k ≡ Some at → is_enabled s (Return k) ≡ is_some (head_in (queue s.d at.edge))
  return_may k at g =
      ap (λ (p : Option PlanPort). may (option_map (λ (e : ℕ). port_job_d (takes e)) (option_map (λ (q : PlanPort). q.edge) p))) g ∙ may_take_up at.edge

  leaving_is : (k : ℕ) (at : PlanPort) → slice_get s.plan.sinks k ≡ Some at → leaving s k ≡ head_in (queue s.a at.edge)
  leaving_is k at g = ap (λ (p : Option PlanPort). option_and_then (λ (e : ℕ). head_in (queue s.a e)) (option_map (λ (q : PlanPort). q.edge) p)) g

  returning_is : (k : ℕ) (at : PlanPort) → slice_get s.plan.sources k ≡ Some at → returning s k ≡ head_in (queue s.d at.edge)
  returning_is k at g = ap (λ (p : Option PlanPort). option_and_then (λ (e : ℕ). head_in (queue s.d e)) (option_map (λ (q : PlanPort). q.edge) p)) g

  -- ---- the events of one move

  module _ (c k : ℕ) where
    abbrev pub told : List Move → List Event
    told moves = events_of (flat_map (event_of_move c s) moves)

    enter_one : (t : Bool) (x : ABeat × Tag) → happening c k Entered (if_room t (Some x.0)) ≡ told (cond t (Enter k x.0 x.1 ∷ []) [])
    enter_one true x = refl
    enter_one false x = refl

    none_enters : (t : Bool) → happening c k Entered (if_room t None) ≡ []
    none_enters true = refl
    none_enters false = refl

    enters : (room : Bool) (beat : Option (ABeat × Tag)) → ((x : ABeat × Tag) → beat ≡ Some x → is_enabled s (Enter k x.0 x.1) ≡ room)
        → happening c k Entered (if_room room (bare_request beat)) ≡ told (entering s k beat)
    enters room None h = none_enters room
    enters room (Some x) h = enter_one room x ∙ ap (λ t. told (cond t (Enter k x.0 x.1 ∷ []) [])) (sym (h x refl))

    reply_one : (t : Bool) (x : DBeat × Tag) → happening c k Replied (if_room t (Some x.0)) ≡ told (cond t (Reply k x.0 x.1 ∷ []) [])
    reply_one true x = refl
    reply_one false x = refl

    none_replies : (t : Bool) → happening c k Replied (if_room t None) ≡ []
    none_replies true = refl
    none_replies false = refl

    replies : (room : Bool) (beat : Option (DBeat × Tag)) → ((x : DBeat × Tag) → beat ≡ Some x → is_enabled s (Reply k x.0 x.1) ≡ room)
        → happening c k Replied (if_room room (bare_response beat)) ≡ told (replying s k beat)
    replies room None h = none_replies room
    replies room (Some x) h = reply_one room x ∙ ap (λ t. told (cond t (Reply k x.0 x.1 ∷ []) [])) (sym (h x refl))

    return_one : (head : Option (DBeat × Tag)) → happening c k Returned (bare_response head) ≡ events_of (cond (is_some head) (tagged_event c k Returned head ++ []) [])
    return_one None = refl
    return_one (Some x) = refl

    on_test : (t : Bool) (move : Move) → told (cond t (move ∷ []) []) ≡ events_of (cond t (event_of_move c s move ++ []) [])
    on_test true move = refl
    on_test false move = refl

    returns : (take : Bool) (head : Option (DBeat × Tag)) → returning s k ≡ head → is_enabled s (Return k) ≡ is_some head
        → happening c k Returned (if_room take (bare_response head)) ≡ told (taking s (Return k) take)
    returns false head r e = refl
    returns true head r e =
        return_one head
        ∙ ap (λ (h : Option (DBeat × Tag)). events_of (cond (is_some head) (tagged_event c k Returned h ++ []) [])) (sym r)
        ∙ ap (λ t. events_of (cond t (event_of_move c s (Return k) ++ []) [])) (sym e)
        ∙ sym (on_test (is_enabled s (Return k)) (Return k))

    leave_one : (head : Option (ABeat × Tag)) → happening c k Left (bare_request head) ≡ events_of (cond (is_some head) (tagged_event c k Left head ++ []) [])
    leave_one None = refl
    leave_one (Some x) = refl

    leaves : (take : Bool) (head : Option (ABeat × Tag)) → leaving s k ≡ head → is_enabled s (Leave k) ≡ is_some head
        → happening c k Left (if_room take (bare_request head)) ≡ told (taking s (Leave k) take)
    leaves false head r e = refl
    leaves true head r e =
        leave_one head
        ∙ ap (λ (h : Option (ABeat × Tag)). events_of (cond (is_some head) (tagged_event c k Left h ++ []) [])) (sym r)
        ∙ ap (λ t. events_of (cond t (event_of_move c s (Leave k) ++ []) [])) (sym e)
        ∙ sym (on_test (is_enabled s (Leave k)) (Leave k))

    pub told_both : (one other : List Move) → told (one ++ other) ≡ told one ++ told other
    told_both one other =
        ap events_of (flat_map-append (event_of_move c s) one other)
        ∙ map-append (λ (happened : TaggedEvent). happened.event) (flat_map (event_of_move c s) one) (flat_map (event_of_move c s) other)

    -- ---- the events of one port

    pub at_one_source : (offers : Offers) (at : PlanPort) (beat : Option (ABeat × Tag)) (take : Bool) (rest : List ℕ)
        → slice_get s.plan.sources k ≡ Some at → get_or offers.enter k None ≡ beat → flag_at offers.take_d k ≡ take
        → ((x : ABeat × Tag) → beat ≡ Some x → carries_a (edge_at s.plan at.edge) x.0 ≡ true) → at.edge < length s.a
        → IsShortHead (head_in (queue s.d at.edge))
        → source_events c k (let o : SourceOffer = record { beat = bare_request beat; takes = take } in o) (source_view (source_shows s at ++ rest))
        ≡ told (source_moves s offers k)
    at_one_source offers at beat take rest g b t carried l short =
        let o : SourceOffer = record { beat = bare_request beat; takes = take } in
        ap (source_events c k o) (source_seen (has_place (queue s.a at.edge)) (head_in (queue s.d at.edge)) rest short)
        ∙ ap (λ (es : List Event). es ++ happening c k Returned (if_room take (bare_response (head_in (queue s.d at.edge))))) (enters (has_place (queue s.a at.edge)) beat (λ x e. enter_may k at x g l (carried x e)))
        ∙ ap (λ (es : List Event). told (entering s k beat) ++ es) (returns take (head_in (queue s.d at.edge)) (returning_is k at g) (return_may k at g))
        ∙ sym (told_both (entering s k beat) (taking s (Return k) take))
        ∙ ap (λ (x : Option (ABeat × Tag)). told (entering s k x ++ taking s (Return k) take)) (sym b)
        ∙ ap (λ (x : Bool). told (entering s k (get_or offers.enter k None) ++ taking s (Return k) x)) (sym t)

    pub at_one_sink : (offers : Offers) (at : PlanPort) (take : Bool) (beat : Option (DBeat × Tag)) (rest : List ℕ)
        → slice_get s.plan.sinks k ≡ Some at → flag_at offers.take_a k ≡ take → get_or offers.reply k None ≡ beat
        → ((x : DBeat × Tag) → beat ≡ Some x → carries_d (edge_at s.plan at.edge) x.0 ≡ true) → at.edge < length s.d
        → IsShortAsk (head_in (queue s.a at.edge))
        → sink_events c k (let o : SinkOffer = record { takes = take; beat = bare_response beat } in o) (sink_view (sink_shows s at ++ rest))
        ≡ told (sink_moves s offers k)
    at_one_sink offers at take beat rest g t b carried l short =
        let o : SinkOffer = record { takes = take; beat = bare_response beat } in
        ap (sink_events c k o) (sink_seen (head_in (queue s.a at.edge)) (has_place (queue s.d at.edge)) rest short)
        ∙ ap (λ (es : List Event). es ++ happening c k Replied (if_room (has_place (queue s.d at.edge)) (bare_response beat))) (leaves take (head_in (queue s.a at.edge)) (leaving_is k at g) (leave_may k at g))
        ∙ ap (λ (es : List Event). told (taking s (Leave k) take) ++ es) (replies (has_place (queue s.d at.edge)) beat (λ x e. reply_may k at x g l (carried x e)))
        ∙ sym (told_both (taking s (Leave k) take) (replying s k beat))
        ∙ ap (λ (x : Bool). told (taking s (Leave k) x ++ replying s k beat)) (sym t)
        ∙ ap (λ (x : Option (DBeat × Tag)). told (taking s (Leave k) (flag_at offers.take_a k) ++ replying s k x)) (sym b)
