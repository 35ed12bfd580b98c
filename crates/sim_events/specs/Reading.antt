-- What the outputs of a netlist say in a cycle.
use Rattle.std.specs.Prelude.{ℕ, ◌+◌, ◌*◌, ◌^◌, ◌==◌, List, [], ◌∷◌, ◌++◌, cond, nat_lt, drop, length, slice_index, Option, Some, None}
use Rattle.std.specs.Option.{option_and_then, option_map}
use Rattle.tl_params.specs.declared.ops.Op.{Op}
use Rattle.tl_params.specs.declared.ops.Ack.{Ack}
use Rattle.tl_params.specs.Codes.{ack_of_code, op_of_code}
use Rattle.tl_edge.specs.declared.beat.ABeat.{ABeat}
use Rattle.tl_edge.specs.declared.beat.DBeat.{DBeat}
use Rattle.tl_edge.specs.declared.beat.Event.{Event}
use Rattle.sim_events.specs.declared.types.SourceOffer.{SourceOffer}
use Rattle.sim_events.specs.declared.types.SinkOffer.{SinkOffer}
use Rattle.sim_events.specs.declared.types.SourceView.{SourceView}
use Rattle.sim_events.specs.declared.types.SinkView.{SinkView}
use Rattle.sim_events.specs.Passing.{source_events, sink_events}

-- how many outputs a source port has
abbrev pub source_outputs_count : ℕ
source_outputs_count = 7

-- how many outputs a sink port has
abbrev pub sink_outputs_count : ℕ
sink_outputs_count = 9

-- a number that has at most 32 bits
abbrev pub short_number : ℕ → Option ℕ
short_number value = cond (nat_lt value (2 ^ 32)) (Some value) None

-- a beat of a request with an operation, by its other fields
abbrev pub request_with : List ℕ → Op → Option ABeat
request_with fields op =
    option_and_then (λ param. option_and_then (λ size. option_map (λ source.
    record {
      op = op;
      param = param;
      size = size;
      source = source;
      address = slice_index fields 4;
      mask = slice_index fields 5;
      payload = slice_index fields 6;
    })
    (short_number (slice_index fields 3)))
    (short_number (slice_index fields 2)))
    (short_number (slice_index fields 1))

-- the beat of a request with these fields first, if its operation has a code and its numbers are numbers of a beat
abbrev pub request_of_fields : List ℕ → Option ABeat
request_of_fields fields = option_and_then (request_with fields) (op_of_code (slice_index fields 0))

-- a beat of a response with an operation, by its other fields
abbrev pub response_with : List ℕ → Ack → Option DBeat
response_with fields op =
    option_and_then (λ size. option_map (λ source.
    record {
      op = op;
      size = size;
      source = source;
      denied = slice_index fields 3 == 1;
      payload = slice_index fields 4;
    })
    (short_number (slice_index fields 2)))
    (short_number (slice_index fields 1))

-- the beat of a response with these fields first
abbrev pub response_of_fields : List ℕ → Option DBeat
response_of_fields fields = option_and_then (response_with fields) (ack_of_code (slice_index fields 0))

-- the beat of a request that waits, by whether one does and its fields
abbrev pub waiting_request : List ℕ → Option ABeat
waiting_request outputs = cond (slice_index outputs 0 == 1) (request_of_fields (drop 1 outputs)) None

-- the beat of a response that waits
abbrev pub waiting_response : List ℕ → Option DBeat
waiting_response outputs = cond (slice_index outputs 0 == 1) (response_of_fields (drop 1 outputs)) None

-- what the outputs of a source port say, which stand first: whether there is room, and what waits
abbrev pub source_view : List ℕ → SourceView
source_view outputs = record { room = slice_index outputs 0 == 1; head = waiting_response (drop 1 outputs) }

-- what the outputs of a sink port say: what waits, and whether there is room
abbrev pub sink_view : List ℕ → SinkView
sink_view outputs = record { head = waiting_request outputs; room = slice_index outputs 8 == 1 }

-- ---- the events of a cycle, in the order of a trace: of the source ports in order, then of the sink ports

-- at source ports, of which the first one has this number and stands first among the outputs
abbrev pub source_events_from : ℕ → ℕ → List SourceOffer → List ℕ → List Event
source_events_from cycle port [] outputs = []
source_events_from cycle port (offer ∷ offers) outputs =
    source_events cycle port offer (source_view outputs)
    ++ source_events_from cycle (port + 1) offers (drop source_outputs_count outputs)

-- at sink ports
abbrev pub sink_events_from : ℕ → ℕ → List SinkOffer → List ℕ → List Event
sink_events_from cycle port [] outputs = []
sink_events_from cycle port (offer ∷ offers) outputs =
    sink_events cycle port offer (sink_view outputs)
    ++ sink_events_from cycle (port + 1) offers (drop sink_outputs_count outputs)

-- the outputs of the sink ports, behind those of so many source ports
abbrev pub past_sources : ℕ → List ℕ → List ℕ
past_sources count outputs = drop (source_outputs_count * count) outputs

-- at all ports, by what they offer and take and by the outputs of a netlist
abbrev pub events_read : ℕ → List SourceOffer → List SinkOffer → List ℕ → List Event
events_read cycle sources sinks outputs =
    source_events_from cycle 0 sources outputs
    ++ sink_events_from cycle 0 sinks (past_sources (length sources) outputs)
