-- What a run comes to after some cycles.
use Rattle.std.specs.Prelude.{◌≡◌, ℕ, zero, suc, ◌+◌, ◌%◌, ◌/◌, ◌^◌, List, [], sum, sum_by, map}
use Rattle.tl_edge.specs.declared.beat.Event.{Event}
use Rattle.tl_edge.specs.declared.beat.What.{What}
use Rattle.tl_edge.specs.declared.beat.What.TheVariants.{Enter, Return, Leave, Reply}
use Rattle.net_cells.specs.declared.netlist.Netlist.{Netlist}
use Rattle.net_ports.specs.Implementing.{input_values}
use Rattle.sim_ports.specs.Sources.{begun_at, finished_at}
use Rattle.sim_events.specs.Setups.{Setup, at_source, events_until, of_ports, offers_until, script_at}
use Rattle.sim_events.specs.Worked.{put_then_get}
use Rattle.soc_report.specs.declared.trace.Totals.{Totals}
use Rattle.sim_run.specs.Standing.{HasRunTo}

-- ---- requests

-- how many requests have entered their first beat, at each source port
abbrev pub begun_by_port : Setup → List Event → List ℕ
begun_by_port setup history =
    of_ports (λ port at. begun_at (script_at setup port at) (at_source port history)) 0 setup.plan.sources

-- and how many of these have given back the last beat of their response
abbrev pub returned_by_port : Setup → List Event → List ℕ
returned_by_port setup history =
    of_ports (λ port at. finished_at (script_at setup port at) (at_source port history)) 0 setup.plan.sources

-- at all source ports
abbrev pub requests_begun : Setup → List Event → ℕ
requests_begun setup history = sum (begun_by_port setup history)

abbrev pub requests_returned : Setup → List Event → ℕ
requests_returned setup history = sum (returned_by_port setup history)

-- ---- data

-- the sum of the lowest bytes of a number, of so many
abbrev pub byte_sum : ℕ → ℕ → ℕ
byte_sum zero number = 0
byte_sum (suc count) number = number % 256 + byte_sum count (number / 256)

-- the sum of the bytes that a beat gives back: those of its data, which are at most eight
abbrev pub bytes_returned : What → ℕ
bytes_returned (Enter beat) = 0
bytes_returned (Return beat) = byte_sum 8 beat.payload
bytes_returned (Leave beat) = 0
bytes_returned (Reply beat) = 0

-- the same of all events
abbrev pub data_returned : List Event → ℕ
data_returned history = sum_by (λ (event : Event). bytes_returned event.what) history

-- ---- all of it

-- the totals of a run of a netlist after so many cycles: by what has happened, and by what the registers of the netlist
-- hold when it has run with what the ports offered
pub record AreTotals (setup : Setup) (netlist : Netlist) (cycle : ℕ) (totals : Totals) : Type 0 where
  pub cycles : totals.cycles ≡ cycle
  pub begun : totals.begun ≡ requests_begun setup (events_until setup cycle)
  pub returned : totals.returned ≡ requests_returned setup (events_until setup cycle)
  pub bytes : totals.sum ≡ data_returned (events_until setup cycle) % 2 ^ 64
  pub registers : List ℕ
  pub ran : HasRunTo netlist (map input_values (offers_until setup cycle)) registers
  pub state : totals.state ≡ sum registers % 2 ^ 64

-- In the worked run the put begins in the first cycle and the get in the second; the put returns in cycle 3, and the
-- get in cycle 5 with the bytes 5 to 8.
pub record TotalsExample : Type 0 where
  pub first : requests_begun (put_then_get []) (events_until (put_then_get []) 1) ≡ 1
  pub both : requests_begun (put_then_get []) (events_until (put_then_get []) 2) ≡ 2
  pub none : requests_returned (put_then_get []) (events_until (put_then_get []) 3) ≡ 0
  pub one : requests_returned (put_then_get []) (events_until (put_then_get []) 5) ≡ 1
  pub all : requests_returned (put_then_get []) (events_until (put_then_get []) 6) ≡ 2
  pub no_data : data_returned (events_until (put_then_get []) 5) ≡ 0
  pub bytes : data_returned (events_until (put_then_get []) 6) ≡ 26
