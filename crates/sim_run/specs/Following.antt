-- That drivers which have been told what happened offer what a run says, and that what is then read off the outputs is
-- what happens in the run.
use Rattle.std.specs.Prelude.{◌≡◌, ℕ, List, ◌++◌, length, map, Some, slice_get}
use Rattle.tl_edge.specs.declared.beat.Event.{Event}
use Rattle.tl_edge.specs.declared.plan.PlanPort.{PlanPort}
use Rattle.tl_edge.specs.SoundPlans.{IsSound}
use Rattle.net_cells.specs.declared.netlist.Netlist.{Netlist}
use Rattle.net_ports.specs.Implementing.{shown_values}
use Rattle.sim_ports.specs.Sinks.{Serving, Sinking}
use Rattle.sim_ports.specs.Sources.{Sending}
use Rattle.sim_events.specs.declared.types.SourceOffer.{SourceOffer}
use Rattle.sim_events.specs.declared.types.SinkOffer.{SinkOffer}
use Rattle.sim_events.specs.Laws.{sinks_in, sources_in}
use Rattle.sim_events.specs.Network.{TaggedEvent, events_of}
use Rattle.sim_events.specs.Reading.{events_read, past_sources}
use Rattle.sim_events.specs.Setups.{Setup, at_source, script_at, sink_after, port_offers, run_at, run_events, run_offers}
use Rattle.sim_run.specs.Offering.{driver_offers, server_offers}
use Rattle.sim_run.specs.Standing.{AreTold, IsOrderly}
use Rattle.sim_run.specs.Telling.{AllHear, AllHeard, AllMayServe, AllServed, MayHearAll, MayServeAll, events_at_sink, events_at_source}

-- what has passed the sink ports' drivers, without their devices
abbrev pub servers_of : List Sinking → List Serving
servers_of sinks = map (λ (sink : Sinking). sink.port) sinks

-- drivers that have been told what happened offer and take what the definition of a run says of it, and so the inputs
-- of a netlist are those of the run; and where the outputs show the network's state, the events read off them are those
-- of the run
pub record DriversLaw : Type 0 where
  pub sources : (setup : Setup) (history : List TaggedEvent) (cycle : ℕ) (drivers : List Sending) (sinks : List Sinking)
      → AreTold setup (events_of history) drivers sinks
      → driver_offers setup.stalls cycle 0 drivers ≡ sources_in (port_offers setup history cycle)
  pub sinks : (setup : Setup) (history : List TaggedEvent) (cycle : ℕ) (drivers : List Sending) (sinks : List Sinking)
      → AreTold setup (events_of history) drivers sinks
      → server_offers setup.stalls cycle 0 (servers_of sinks) ≡ sinks_in (port_offers setup history cycle)
  pub events : (setup : Setup) (netlist : Netlist) (cycle : ℕ) → IsSound setup.plan → IsOrderly setup netlist cycle
      → events_read cycle (sources_in (run_offers setup cycle (run_at setup cycle)))
      (sinks_in (run_offers setup cycle (run_at setup cycle))) (shown_values (run_at setup cycle).network)
      ≡ run_events setup cycle

-- what may be told in a cycle to the drivers of a run, after what happened: at each source port what returns there has
-- a busy id; at each sink port what leaves is the next beat of a request that its device may be asked
pub record MayTell (setup : Setup) (history : List Event) (cycle : ℕ) (sources : List SourceOffer)
    (sinks : List SinkOffer) (outputs : List ℕ) : Type 0 where
  pub hears : (port : ℕ) (at : PlanPort) → slice_get setup.plan.sources port ≡ Some at
      → MayHearAll (script_at setup port at) (at_source port history) (events_at_source cycle sources outputs port)
  pub serves : (port : ℕ) (at : PlanPort) → slice_get setup.plan.sinks port ≡ Some at
      → MayServeAll (sink_after setup history port at)
      (events_at_sink cycle sinks (past_sources (length sources) outputs) port)

-- drivers before and after they have been told what happens in a cycle, by the offers and the outputs
pub record AreToldMore (cycle : ℕ) (sources : List SourceOffer) (sinks : List SinkOffer) (outputs : List ℕ)
    (olds news : List Sending) (befores afters : List Sinking) : Type 0 where
  pub sources_long : length sources ≡ length olds
  pub sinks_long : length sinks ≡ length befores
  pub news_long : length news ≡ length olds
  pub afters_long : length afters ≡ length befores
  pub heard : AllHeard cycle sources outputs (length olds) olds news
  pub served : AllServed cycle sinks (past_sources (length sources) outputs) (length befores) befores afters

-- where drivers have been told what happened, what happens in a cycle may be told to each of them as it is kept; and
-- once that is done they have been told all that happened, with the events of the cycle
pub record ToldLaw : Type 0 where
  pub hears : (setup : Setup) (history : List Event) (cycle : ℕ) (sources : List SourceOffer) (sinks : List SinkOffer)
      (outputs : List ℕ) (olds : List Sending) (befores : List Sinking) → AreTold setup history olds befores
      → MayTell setup history cycle sources sinks outputs → AllHear cycle sources outputs (length olds) olds
  pub serves : (setup : Setup) (history : List Event) (cycle : ℕ) (sources : List SourceOffer)
      (sinks : List SinkOffer) (outputs : List ℕ) (olds : List Sending) (befores : List Sinking)
      → AreTold setup history olds befores → MayTell setup history cycle sources sinks outputs
      → AllMayServe cycle sinks (past_sources (length sources) outputs) befores
  pub goes_on : (setup : Setup) (history : List Event) (cycle : ℕ) (sources : List SourceOffer)
      (sinks : List SinkOffer) (outputs : List ℕ) (olds news : List Sending) (befores afters : List Sinking)
      → AreTold setup history olds befores → MayTell setup history cycle sources sinks outputs
      → AreToldMore cycle sources sinks outputs olds news befores afters
      → AreTold setup (history ++ events_read cycle sources sinks outputs) news afters
