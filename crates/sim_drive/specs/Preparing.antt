-- The addresses at which the device of each sink port is prepared: those of all bytes of the requests that go there.
use Rattle.std.specs.Prelude.{ℕ, ◌+◌, ◌==◌, ◌&&◌, ◌≡◌, ◌↔◌, Bool, false, cond, List, [], ◌∷◌, nat_lt, length, map, flat_map, position, Contains, Option, slice_get}
use Rattle.std.specs.List.{range_with_len}
use Rattle.std.specs.Option.{option_and_then, option_map_or}
use Rattle.tl_params.specs.declared.ports.Slave.{Slave}
use Rattle.tl_params.specs.Owners.{owner}
use Rattle.tl_edge.specs.declared.message.Request.{Request}
use Rattle.tl_edge.specs.declared.plan.Plan.{Plan}
use Rattle.tl_edge.specs.declared.plan.PlanPort.{PlanPort}
use Rattle.tl_edge.specs.Messages.{bytes_of}
use Rattle.tl_edge.specs.Plans.{edge_at}
use Rattle.sim_ports.specs.declared.stimulus.StimRequest.{StimRequest}
use Rattle.sim_ports.specs.Prepared.{AreRising}

-- ---- where a request goes

-- a port of a sink has this slave
abbrev pub has_slave : Slave → PlanPort → Bool
has_slave slave at = slave.node == at.node && slave.port == at.port

-- the number of the sink port with this slave
abbrev pub sink_with_slave : List PlanPort → Slave → Option ℕ
sink_with_slave sinks slave = position (has_slave slave) sinks

-- the number of the sink port whose slave is the owner of an address among some slaves
abbrev pub sink_owning : List PlanPort → List Slave → ℕ → Option ℕ
sink_owning sinks slaves address =
    option_and_then (λ place. option_and_then (sink_with_slave sinks) (slice_get slaves place)) (owner slaves address)

-- the number of the sink port whose slave owns the address of a request, among the slaves on its source port's edge
abbrev pub sink_asked : Plan → StimRequest → Option ℕ
sink_asked plan asked =
    option_and_then (λ (at : PlanPort). sink_owning plan.sinks (edge_at plan at.edge).slaves asked.request.address)
    (slice_get plan.sources asked.port)

-- ---- its bytes

-- the addresses of all bytes of a request
abbrev pub bytes_asked : Request → List ℕ
bytes_asked request = range_with_len request.address (bytes_of request.size)

-- the addresses of all bytes of a request, if it goes to the sink port with this number
abbrev pub bytes_asked_at : Plan → ℕ → StimRequest → List ℕ
bytes_asked_at plan port asked =
    cond (option_map_or (λ sink. sink == port) (sink_asked plan asked) false) (bytes_asked asked.request) []

-- those of some requests, in the order of the requests
abbrev pub all_bytes_at : Plan → List StimRequest → ℕ → List ℕ
all_bytes_at plan requests port = flat_map (bytes_asked_at plan port) requests

-- ---- in rising order

-- numbers that rise, with one more, unless it is one of them
abbrev pub with_one : ℕ → List ℕ → List ℕ
with_one number [] = number ∷ []
with_one number (next ∷ others) =
    cond (nat_lt number next) (number ∷ next ∷ others)
    (cond (number == next) (next ∷ others) (next ∷ with_one number others))

-- numbers in rising order, each once
abbrev pub rising : List ℕ → List ℕ
rising [] = []
rising (number ∷ numbers) = with_one number (rising numbers)

-- the addresses at which the device of a sink port is prepared
abbrev pub device_addresses : Plan → List StimRequest → ℕ → List ℕ
device_addresses plan requests port = rising (all_bytes_at plan requests port)

-- those of each sink port
abbrev pub all_addresses : Plan → List StimRequest → List (List ℕ)
all_addresses plan requests = map (device_addresses plan requests) (range_with_len 0 (length plan.sinks))

-- Numbers in rising order are the same numbers, they rise, and no other list of numbers does both.
pub record RisingLaw : Type 0 where
  pub same : (numbers : List ℕ) (number : ℕ) → Contains (rising numbers) number ↔ Contains numbers number
  pub rise : (numbers : List ℕ) → AreRising (rising numbers)
  pub only : (numbers others : List ℕ) → AreRising others
      → ((number : ℕ) → Contains others number ↔ Contains numbers number) → others ≡ rising numbers
