-- Orderly moves: what enters at source ports are the beats of one list of legal requests for each, and what is replied
-- at sink ports those of one list of responses for each, to the requests that left there, in order.
use Rattle.std.specs.Prelude.{ℕ, ◌≡◌, ◌+◌, ◌-◌, ◌≤◌, ◌==◌, cond, List, [], ◌∷◌, ◌++◌, length, take, sum_by, count_by, All, Option, Some, None, slice_get}
use Rattle.std.specs.Option.{option_map_or, option_to_list}
use Rattle.tl_edge.specs.declared.beat.ABeat.{ABeat}
use Rattle.tl_edge.specs.declared.beat.DBeat.{DBeat}
use Rattle.tl_edge.specs.declared.beat.Tag.{Tag}
use Rattle.tl_edge.specs.declared.message.Request.{Request}
use Rattle.tl_edge.specs.declared.message.Response.{Response}
use Rattle.tl_edge.specs.declared.plan.PlanPort.{PlanPort}
use Rattle.tl_edge.specs.declared.plan.Plan.{Plan}
use Rattle.tl_edge.specs.Beats.{request_beats, response_beats, beats_of_request, beats_of_response}
use Rattle.tl_edge.specs.Legal.{IsLegalAt}
use Rattle.tl_edge.specs.Messages.{AreBytes, ack_of, bytes_of, brings_data}
use Rattle.tl_edge.specs.Plans.{edge_at, bus_width}
use Rattle.flow_core.specs.declared.moves.Move.{Move}
use Rattle.flow_core.specs.declared.moves.Move.TheVariants.{Enter, Leave, Reply, Return}
use Rattle.flow_core.specs.Network.{State, network_at_start, leaving, returning, state_after, RunsTo}
use Rattle.flow_choice.specs.Choosing.{state_after_moves}

-- ---- what has passed a port in some moves from a state, in order, each beat with its tag

-- the beat that a move lets enter at a port
abbrev pub entered_by : ℕ → Move → List (ABeat × Tag)
entered_by port (Enter at beat tag) = cond (at == port) ((beat, tag) ∷ []) []
entered_by port _ = []

-- the beat that it puts as a reply at a port
abbrev pub replied_by : ℕ → Move → List (DBeat × Tag)
replied_by port (Reply at beat tag) = cond (at == port) ((beat, tag) ∷ []) []
replied_by port _ = []

-- the beat that it lets leave
abbrev pub left_by : ℕ → State → Move → List (ABeat × Tag)
left_by port state (Leave at) = cond (at == port) (option_to_list (leaving state at)) []
left_by port state _ = []

-- the beat that it lets return
abbrev pub returned_by : ℕ → State → Move → List (DBeat × Tag)
returned_by port state (Return at) = cond (at == port) (option_to_list (returning state at)) []
returned_by port state _ = []

-- all that entered at a source port
abbrev pub all_entered : ℕ → List Move → List (ABeat × Tag)
all_entered port [] = []
all_entered port (move ∷ moves) = entered_by port move ++ all_entered port moves

-- all that was replied at a sink port
abbrev pub all_replied : ℕ → List Move → List (DBeat × Tag)
all_replied port [] = []
all_replied port (move ∷ moves) = replied_by port move ++ all_replied port moves

-- all that left at a sink port
abbrev pub all_left : ℕ → State → List Move → List (ABeat × Tag)
all_left port state [] = []
all_left port state (move ∷ moves) = left_by port state move ++ all_left port (state_after state move) moves

-- all that returned at a source port
abbrev pub all_returned : ℕ → State → List Move → List (DBeat × Tag)
all_returned port state [] = []
all_returned port state (move ∷ moves) = returned_by port state move ++ all_returned port (state_after state move) moves

-- ---- requests that are there whole, by their first beats

-- a request of which beats are still to come: its first beat, and how many
pub record Begun : Type 0 where
  pub first : ABeat × Tag
  pub left : ℕ

-- it is there whole, where no beat is to come
abbrev pub whole_now : Begun → List (ABeat × Tag)
whole_now begun = cond (begun.left == 0) (begun.first ∷ []) []

-- it is still under way, where one is
abbrev pub under_way : Begun → Option Begun
under_way begun = cond (begun.left == 0) None (Some begun)

-- what is under way with one beat more, on a bus of so many bytes: a request that it begins, or one with a beat fewer
-- to come
abbrev pub begun_with : ℕ → Option Begun → ABeat × Tag → Begun
begun_with width None beat =
    record { first = beat; left = request_beats beat.0.op beat.0.size width - 1 }
begun_with width (Some begun) beat = record { first = begun.first; left = begun.left - 1 }

-- the first beats of the requests that some beats make whole, where one may be under way
abbrev pub whole_from : ℕ → Option Begun → List (ABeat × Tag) → List (ABeat × Tag)
whole_from width begun [] = []
whole_from width begun (beat ∷ beats) =
    whole_now (begun_with width begun beat) ++ whole_from width (under_way (begun_with width begun beat)) beats

-- the same from the first beat on
abbrev pub whole : ℕ → List (ABeat × Tag) → List (ABeat × Tag)
whole width beats = whole_from width None beats

-- ---- the ports

-- the bytes of the bus at a port, by its number
abbrev pub port_width : Plan → List PlanPort → ℕ → ℕ
port_width plan ports port =
    option_map_or (λ (at : PlanPort). bus_width (edge_at plan at.edge)) (slice_get ports port) 0

-- how many beats some requests have
abbrev pub beats_of_all : ℕ → List Request → ℕ
beats_of_all width requests =
    sum_by (λ (request : Request). request_beats request.op request.size width) requests

-- how many beats some responses have
abbrev pub replies_of_all : ℕ → List Response → ℕ
replies_of_all width responses =
    sum_by (λ (response : Response). response_beats response.op response.size width) responses

-- how many beats the responses to those of some requests have that have an id
abbrev pub awaited : ℕ → ℕ → List Request → ℕ
awaited width id requests =
    sum_by
    (λ (request : Request). cond (request.source == id) (response_beats (ack_of request.op) request.size width) 0)
    requests

-- how many of some beats have an id
abbrev pub with_id : ℕ → List (DBeat × Tag) → ℕ
with_id id beats = count_by (λ (beat : DBeat × Tag). beat.0.source == id) beats

-- ---- orderly moves

-- what enters at a port next, after some moves: the beat with a number of a request, behind the beats of all requests
-- before it and those of its own; the first one only where each earlier request with its id has all its response back
pub record EntersNext (plan : Plan) (asks : List Request) (before : List Move) (port : ℕ) (beat : ABeat) (tag : Tag)
    : Type 0 where
  pub number : ℕ
  pub request : Request
  pub index : ℕ
  pub is : slice_get asks number ≡ Some request
  pub its_beat : slice_get (beats_of_request (port_width plan plan.sources port) request) index ≡ Some beat
  pub place : length (all_entered port before)
      ≡ beats_of_all (port_width plan plan.sources port) (take number asks) + index
  pub its_tag : tag ≡ record { port = port; index = number; piece = 0 }
  pub free : index ≡ 0
      → awaited (port_width plan plan.sources port) request.source (take number asks)
      ≤ with_id request.source (all_returned port (network_at_start plan) before)

-- a response answers a request by its first beat: the op that answers it, its size and id, and all bytes of its data,
-- each of which is a byte
pub record AnswersIt (first : ABeat) (response : Response) : Type 0 where
  pub op : response.op ≡ ack_of first.op
  pub size : response.size ≡ first.size
  pub source : response.source ≡ first.source
  pub bytes : length response.payload ≡ cond (brings_data response.op) (bytes_of response.size) 0
  pub each : AreBytes response.payload

-- what is replied at a port next: the beat with a number of a response, behind the beats of all responses before it and
-- those of its own; the response answers the request that left there whole with the same number, and has its tag
pub record RepliesNext (plan : Plan) (answers : List Response) (before : List Move) (port : ℕ) (beat : DBeat)
    (tag : Tag) : Type 0 where
  pub number : ℕ
  pub asked : ABeat × Tag
  pub response : Response
  pub index : ℕ
  pub left_whole :
      slice_get (whole (port_width plan plan.sinks port) (all_left port (network_at_start plan) before)) number
      ≡ Some asked
  pub is : slice_get answers number ≡ Some response
  pub fits : AnswersIt asked.0 response
  pub its_beat :
      slice_get (beats_of_response (port_width plan plan.sinks port) asked.0.address response) index ≡ Some beat
  pub place : length (all_replied port before)
      ≡ replies_of_all (port_width plan plan.sinks port) (take number answers) + index
  pub its_tag : tag ≡ asked.1

-- moves from the start, each enabled when it is made, are orderly over one list of legal requests for each source port
-- and one list of responses for each sink port
pub record AreOrderly (plan : Plan) (asks : ℕ → List Request) (answers : ℕ → List Response) (moves : List Move)
    : Type 0 where
  pub legal : (port : ℕ) → All (IsLegalAt plan port) (asks port)
  pub runs : RunsTo (network_at_start plan) moves (state_after_moves (network_at_start plan) moves)
  pub enters : (before after : List Move) (port : ℕ) (beat : ABeat) (tag : Tag)
      → moves ≡ before ++ Enter port beat tag ∷ after → EntersNext plan (asks port) before port beat tag
  pub replies : (before after : List Move) (port : ℕ) (beat : DBeat) (tag : Tag)
      → moves ≡ before ++ Reply port beat tag ∷ after → RepliesNext plan (answers port) before port beat tag
