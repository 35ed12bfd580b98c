-- The fields of a beat read back, and what the outputs of a port say.
use Rattle.std.proofs.Common.{ℕ, ◌≡◌, ◌^◌, ◌<◌, List, [], ◌∷◌, ◌++◌, Bool, true, false, cond, drop, nat_eq, Option, Some, None, refl, ap, ◌∙◌, lt-ltb}
use Rattle.std.specs.Prelude.{slice_index}
use Rattle.std.specs.Int.{from_bool}
use Rattle.std.specs.Option.{option_and_then, option_map}
use Rattle.tl_params.specs.declared.ops.Op.{Op}
use Rattle.tl_params.specs.declared.ops.Op.TheVariants.{PutFull, PutPartial, Arithmetic, Logical, Get, Intent}
use Rattle.tl_params.specs.declared.ops.Ack.{Ack}
use Rattle.tl_params.specs.declared.ops.Ack.TheVariants.{Ack as Plain, AckData, HintAck}
use Rattle.tl_params.specs.Codes.{ack_of_code, code_of_ack, code_of_op, op_of_code}
use Rattle.tl_edge.specs.declared.beat.ABeat.{ABeat}
use Rattle.tl_edge.specs.declared.beat.DBeat.{DBeat}
use Rattle.tl_edge.specs.declared.beat.Tag.{Tag}
use Rattle.tl_edge.specs.Wires.{a_fields, d_fields}
use Rattle.net_ports.specs.Implementing.{request_values, response_values}
use Rattle.sim_events.specs.declared.types.SourceView.{SourceView}
use Rattle.sim_events.specs.declared.types.SinkView.{SinkView}
use Rattle.sim_events.specs.Reading.{request_of_fields, request_with, response_of_fields, response_with, short_number, sink_view, source_view, waiting_request, waiting_response}

-- its size and its id, and its param, are numbers of 32 bits
pub record IsShortRequest (beat : ABeat) : Type 0 where
  pub param : beat.param < 2 ^ 32
  pub size : beat.size < 2 ^ 32
  pub source : beat.source < 2 ^ 32

pub record IsShortResponse (beat : DBeat) : Type 0 where
  pub size : beat.size < 2 ^ 32
  pub source : beat.source < 2 ^ 32

op_back : (op : Op) → op_of_code (code_of_op op) ≡ Some op
op_back PutFull = refl
op_back PutPartial = refl
op_back Arithmetic = refl
op_back Logical = refl
op_back Get = refl
op_back Intent = refl

ack_back : (op : Ack) → ack_of_code (code_of_ack op) ≡ Some op
ack_back Plain = refl
ack_back AckData = refl
ack_back HintAck = refl

pub flag_back : (b : Bool) → nat_eq (from_bool b) 1 ≡ b
flag_back true = refl
flag_back false = refl

short : (n : ℕ) → n < 2 ^ 32 → short_number n ≡ Some n
short n h = ap (λ (b : Bool). cond b (Some n) None) (lt-ltb n (2 ^ 32) h)

-- ---- requests

abbrev request_from : Op → List ℕ → Option ℕ → Option ℕ → Option ℕ → Option ABeat
request_from op fields param size source =
    option_and_then (λ param. option_and_then (λ size. option_map (λ source.
    (let beat : ABeat = record {
      op = op;
      param = param;
      size = size;
      source = source;
      address = slice_index fields 4;
      mask = slice_index fields 5;
      payload = slice_index fields 6;
    } in beat))
    source) size) param

request_told : (beat : ABeat) (rest : List ℕ) → IsShortRequest beat
    → request_from beat.op (a_fields beat ++ rest) (short_number beat.param) (short_number beat.size) (short_number beat.source) ≡ Some beat
request_told beat rest h =
    ap (λ p. request_from beat.op (a_fields beat ++ rest) p (short_number beat.size) (short_number beat.source)) (short beat.param h.param)
    ∙ ap (λ p. request_from beat.op (a_fields beat ++ rest) (Some beat.param) p (short_number beat.source)) (short beat.size h.size)
    ∙ ap (λ p. request_from beat.op (a_fields beat ++ rest) (Some beat.param) (Some beat.size) p) (short beat.source h.source)

pub request_back : (beat : ABeat) (rest : List ℕ) → IsShortRequest beat → request_of_fields (a_fields beat ++ rest) ≡ Some beat
request_back beat rest h =
    ap (λ (op : Option Op). option_and_then (request_with (a_fields beat ++ rest)) op) (op_back beat.op) ∙ request_told beat rest h

-- ---- responses

abbrev response_from : Ack → Bool → ℕ → Option ℕ → Option ℕ → Option DBeat
response_from op denied payload size source =
    option_and_then (λ size. option_map (λ source.
    (let beat : DBeat = record { op = op; size = size; source = source; denied = denied; payload = payload } in beat))
    source) size

response_told : (beat : DBeat) → IsShortResponse beat
    → response_from beat.op (nat_eq (from_bool beat.denied) 1) beat.payload (short_number beat.size) (short_number beat.source) ≡ Some beat
response_told beat h =
    ap (λ d. response_from beat.op d beat.payload (short_number beat.size) (short_number beat.source)) (flag_back beat.denied)
    ∙ ap (λ p. response_from beat.op beat.denied beat.payload p (short_number beat.source)) (short beat.size h.size)
    ∙ ap (λ p. response_from beat.op beat.denied beat.payload (Some beat.size) p) (short beat.source h.source)

pub response_back : (beat : DBeat) (rest : List ℕ) → IsShortResponse beat → response_of_fields (d_fields beat ++ rest) ≡ Some beat
response_back beat rest h =
    ap (λ (op : Option Ack). option_and_then (response_with (d_fields beat ++ rest)) op) (ack_back beat.op) ∙ response_told beat h

-- ---- what waits

-- a head is one whose beat can be read
abbrev pub IsShortHead : Option (DBeat × Tag) → Type 0
IsShortHead None = Unit {0}
IsShortHead (Some beat) = IsShortResponse beat.0

abbrev pub IsShortAsk : Option (ABeat × Tag) → Type 0
IsShortAsk None = Unit {0}
IsShortAsk (Some beat) = IsShortRequest beat.0

-- without its tag
abbrev pub bare_response : Option (DBeat × Tag) → Option DBeat
bare_response head = option_map (λ (tagged : DBeat × Tag). tagged.0) head

abbrev pub bare_request : Option (ABeat × Tag) → Option ABeat
bare_request head = option_map (λ (tagged : ABeat × Tag). tagged.0) head

pub response_waits : (head : Option (DBeat × Tag)) (rest : List ℕ) → IsShortHead head → waiting_response (response_values head ++ rest) ≡ bare_response head
response_waits None rest h = refl
response_waits (Some beat) rest h = response_back beat.0 rest h

pub request_waits : (head : Option (ABeat × Tag)) (rest : List ℕ) → IsShortAsk head → waiting_request (request_values head ++ rest) ≡ bare_request head
request_waits None rest h = refl
request_waits (Some beat) rest h = request_back beat.0 rest h

abbrev view_of_source : Bool → Option DBeat → SourceView
view_of_source room head = record { room = room; head = head }

abbrev view_of_sink : Option ABeat → Bool → SinkView
view_of_sink head room = record { head = head; room = room }

-- the outputs of a source port, with room or without and with this head
pub source_seen : (room : Bool) (head : Option (DBeat × Tag)) (rest : List ℕ) → IsShortHead head
    → source_view ((from_bool room ∷ response_values head) ++ rest) ≡ view_of_source room (bare_response head)
source_seen room head rest h =
    ap (λ b. view_of_source b (waiting_response (response_values head ++ rest))) (flag_back room)
    ∙ ap (view_of_source room) (response_waits head rest h)

last_output : (head : Option (ABeat × Tag)) (room : ℕ) (rest : List ℕ) → slice_index ((request_values head ++ room ∷ []) ++ rest) 8 ≡ room
last_output None room rest = refl
last_output (Some beat) room rest = refl

asked_first : (head : Option (ABeat × Tag)) (room : ℕ) (rest : List ℕ) → (request_values head ++ room ∷ []) ++ rest ≡ request_values head ++ room ∷ rest
asked_first None room rest = refl
asked_first (Some beat) room rest = refl

-- the outputs of a sink port
pub sink_seen : (head : Option (ABeat × Tag)) (room : Bool) (rest : List ℕ) → IsShortAsk head
    → sink_view ((request_values head ++ from_bool room ∷ []) ++ rest) ≡ view_of_sink (bare_request head) room
sink_seen head room rest h =
    ap (λ b. view_of_sink (waiting_request ((request_values head ++ from_bool room ∷ []) ++ rest)) b) (ap (λ n. nat_eq n 1) (last_output head (from_bool room) rest) ∙ flag_back room)
    ∙ ap (λ a. view_of_sink a room) (ap waiting_request (asked_first head (from_bool room) rest) ∙ request_waits head (from_bool room ∷ rest) h)

-- behind them
pub past_source : (room : ℕ) (head : Option (DBeat × Tag)) (rest : List ℕ) → drop 7 ((room ∷ response_values head) ++ rest) ≡ rest
past_source room None rest = refl
past_source room (Some beat) rest = refl

pub past_sink : (head : Option (ABeat × Tag)) (room : ℕ) (rest : List ℕ) → drop 9 ((request_values head ++ room ∷ []) ++ rest) ≡ rest
past_sink None room rest = refl
past_sink (Some beat) room rest = refl
