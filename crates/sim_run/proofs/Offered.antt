-- Drivers that have been told what happened offer what a run says, and its events are read off what it shows.
use Rattle.std.proofs.Common.{◌≡◌, ℕ, suc, ◌+◌, List, [], ◌∷◌, ◌++◌, Bool, true, false, cond, length, Option, Some, None, slice_get, refl, ap, ◌∙◌, subst, arith}
use Rattle.std.specs.Option.{option_map}
use Rattle.tl_edge.specs.declared.beat.ABeat.{ABeat}
use Rattle.tl_edge.specs.declared.beat.DBeat.{DBeat}
use Rattle.tl_edge.specs.declared.beat.Event.{Event}
use Rattle.tl_edge.specs.declared.beat.Tag.{Tag}
use Rattle.tl_edge.specs.declared.plan.PlanPort.{PlanPort}
use Rattle.tl_edge.specs.declared.plan.Plan.{Plan}
use Rattle.tl_edge.specs.SoundPlans.{IsSound}
use Rattle.net_cells.specs.declared.netlist.Netlist.{Netlist}
use Rattle.flow_core.specs.Network.{State, network_at_start}
use Rattle.flow_core.specs.Tags.{no_tag}
use Rattle.flow_choice.specs.declared.offers.Offers.{Offers}
use Rattle.flow_choice.specs.Choosing.{state_after_cycle}
use Rattle.flow_choice.specs.Valid.{IsValid}
use Rattle.net_ports.specs.Implementing.{AreOffered, AreOffersAt, shown_values}
use Rattle.sim_ports.specs.Sinks.{Sinking}
use Rattle.sim_ports.specs.Sources.{Script, Sending, Sends, offers_now, source_offers}
use Rattle.sim_ports.proofs.Onward.{said}
use Rattle.sim_events.specs.declared.types.SourceOffer.{SourceOffer}
use Rattle.sim_events.specs.declared.types.SinkOffer.{SinkOffer}
use Rattle.sim_events.specs.Laws.{at_sinks, at_sources, sinks_in, sources_in}
use Rattle.sim_events.specs.Network.{TaggedEvent, events_of}
use Rattle.sim_events.specs.Reading.{events_read}
use Rattle.sim_events.specs.Setups.{Setup, at_source, entering_tag, is_stalled, of_ports, offers_until, replying_tag, run_at, run_events, run_offers, script_at, sink_after, sink_beat, sink_offer, sink_takes_at, source_beat, source_offer, source_takes}
use Rattle.sim_events.proofs.Agreed.{cycle_law}
use Rattle.sim_run.specs.Offering.{driver_offer, driver_offers, server_offer, server_offers}
use Rattle.sim_run.specs.Standing.{IsOrderly}
use Rattle.sim_run.specs.Following.{DriversLaw, servers_of}
use Rattle.sim_run.proofs.Running.{more_offers, state_after_all, state_is}

bare : {B : Type 0} (o : Option B) (tag : Tag) → o ≡ option_map (λ (tagged : B × Tag). tagged.0) (option_map (λ b. (b, tag)) o)
bare None tag = refl
bare (Some b) tag = refl

stalled_said : (script : Script) (history : List Event) (driver : Sending) (cycle : ℕ) (t : Bool) → Sends script history driver
    → cond t None (offers_now driver cycle) ≡ source_offers script history cycle t
stalled_said script history driver cycle true s = refl
stalled_said script history driver cycle false s = said script history driver cycle s

abbrev does : Option ABeat → Bool → SourceOffer
does beat takes = record { beat = beat; takes = takes }

abbrev serves : Bool → Option DBeat → SinkOffer
serves takes beat = record { takes = takes; beat = beat }

module _ (u : Setup) (h : List TaggedEvent) (c : ℕ) where
  one_source : (k : ℕ) (at : PlanPort) (driver : Sending) → Sends (script_at u k at) (at_source k (events_of h)) driver
      → driver_offer u.stalls c k driver ≡ does (option_map (λ (tagged : ABeat × Tag). tagged.0) (source_offer u (events_of h) c k at)) (source_takes u c k)
  one_source k at driver s =
      ap (λ b. does b (source_takes u c k)) (stalled_said (script_at u k at) (at_source k (events_of h)) driver c (is_stalled u.stalls true k true c) s ∙ bare (source_beat u (events_of h) c k at) (entering_tag u (events_of h) k at))

  all_sources : (k : ℕ) (ports : List PlanPort) (drivers : List Sending) → length drivers ≡ length ports
      → ((i j : ℕ) (at : PlanPort) (driver : Sending) → j ≡ k + i → slice_get ports i ≡ Some at → slice_get drivers i ≡ Some driver → Sends (script_at u j at) (at_source j (events_of h)) driver)
      → driver_offers u.stalls c k drivers ≡ at_sources (of_ports (source_offer u (events_of h) c) k ports) (of_ports (λ port at. source_takes u c port) k ports)
  all_sources k [] [] l s = refl
  all_sources k [] (driver ∷ drivers) l s = absurd (omega (arith, l))
  all_sources k (at ∷ ports) [] l s = absurd (omega (arith, l))
  all_sources k (at ∷ ports) (driver ∷ drivers) l s =
      ap (λ (o : SourceOffer). o ∷ driver_offers u.stalls c (k + 1) drivers) (one_source k at driver (s 0 k at driver (omega arith) refl refl))
      ∙ ap (λ (os : List SourceOffer). does (option_map (λ (tagged : ABeat × Tag). tagged.0) (source_offer u (events_of h) c k at)) (source_takes u c k) ∷ os)
      (all_sources (k + 1) ports drivers (omega (arith, l)) (λ i j at driver e a b. s (suc i) j at driver (omega (arith, e)) a b))

  one_sink : (k : ℕ) (at : PlanPort) (sink : Sinking) → sink ≡ sink_after u (events_of h) k at
      → server_offer u.stalls c k sink.port ≡ serves (sink_takes_at u (events_of h) c k at) (option_map (λ (tagged : DBeat × Tag). tagged.0) (sink_offer u h c k at))
  one_sink k at sink s =
      ap (λ (x : Sinking). server_offer u.stalls c k x.port) s
      ∙ ap (serves (sink_takes_at u (events_of h) c k at)) (bare (sink_beat u (events_of h) c k at) (replying_tag k no_tag h))

  all_sinks : (k : ℕ) (ports : List PlanPort) (sinks : List Sinking) → length sinks ≡ length ports
      → ((i j : ℕ) (at : PlanPort) (sink : Sinking) → j ≡ k + i → slice_get ports i ≡ Some at → slice_get sinks i ≡ Some sink → sink ≡ sink_after u (events_of h) j at)
      → server_offers u.stalls c k (servers_of sinks) ≡ at_sinks (of_ports (sink_takes_at u (events_of h) c) k ports) (of_ports (sink_offer u h c) k ports)
  all_sinks k [] [] l s = refl
  all_sinks k [] (sink ∷ sinks) l s = absurd (omega (arith, l))
  all_sinks k (at ∷ ports) [] l s = absurd (omega (arith, l))
  all_sinks k (at ∷ ports) (sink ∷ sinks) l s =
      ap (λ (o : SinkOffer). o ∷ server_offers u.stalls c (k + 1) (servers_of sinks)) (one_sink k at sink (s 0 k at sink (omega arith) refl refl))
      ∙ ap (λ (os : List SinkOffer). serves (sink_takes_at u (events_of h) c k at) (option_map (λ (tagged : DBeat × Tag). tagged.0) (sink_offer u h c k at)) ∷ os)
      (all_sinks (k + 1) ports sinks (omega (arith, l)) (λ i j at sink e a b. s (suc i) j at sink (omega (arith, e)) a b))

offered_last : (plan : Plan) (s : State) (os : List Offers) (o : Offers) → AreOffered plan s (os ++ o ∷ []) → AreOffersAt plan o × IsValid plan (state_after_all s os)
offered_last plan s [] o h = (h.0, h.1)
offered_last plan s (p ∷ os) o h = offered_last plan (state_after_cycle s p) os o h.2

events_are : (u : Setup) (n : Netlist) (c : ℕ) → IsSound u.plan → IsOrderly u n c
    → events_read c (sources_in (run_offers u c (run_at u c))) (sinks_in (run_offers u c (run_at u c))) (shown_values (run_at u c).network) ≡ run_events u c
events_are u n c sound g =
    let last = offered_last u.plan (network_at_start u.plan) (offers_until u c) (run_offers u c (run_at u c)) (subst (AreOffered u.plan (network_at_start u.plan)) (more_offers u c) g.offered) in
    cycle_law u.plan (run_at u c).network (run_offers u c (run_at u c)) c sound (subst (IsValid u.plan) (state_is u c) last.1) last.0

pub drivers_law : DriversLaw
drivers_law = record {
  sources = λ u h c drivers sinks t. all_sources u h c 0 u.plan.sources drivers t.sources_long
      (λ i j at driver e a b. let q : j ≡ i = omega (arith, e) in t.sends j at driver (ap (slice_get u.plan.sources) q ∙ a) (ap (slice_get drivers) q ∙ b));
  sinks = λ u h c drivers sinks t. all_sinks u h c 0 u.plan.sinks sinks t.sinks_long
      (λ i j at sink e a b. let q : j ≡ i = omega (arith, e) in t.serves j at sink (ap (slice_get u.plan.sinks) q ∙ a) (ap (slice_get sinks) q ∙ b));
  events = events_are;
}
