-- A request cut into pieces, and the reply to it, put together from the answers to the pieces.
use Rattle.std.specs.Prelude.{ℕ, ◌+◌, ◌*◌, ◌/◌, List, [], ◌∷◌, map, replicate, Bool, true, false, ◌&&◌, nat_lt, cond}
use Rattle.std.specs.List.{range_with_len, flat_map, list_any}
use Rattle.tl_params.specs.declared.ops.Op.{Op}
use Rattle.tl_params.specs.declared.ops.Op.TheVariants.{PutFull, PutPartial, Arithmetic, Logical, Get, Intent}
use Rattle.tl_edge.specs.declared.message.Request.{Request}
use Rattle.tl_edge.specs.declared.message.Response.{Response}
use Rattle.tl_edge.specs.Bundles.{log_of}
use Rattle.tl_edge.specs.Messages.{ack_of, brings_data, bytes_of}
use Rattle.tl_edge.specs.Beats.{part}

-- gets and puts may be cut, atomic operations and intents never
abbrev pub may_be_cut : Op → Bool
may_be_cut PutFull = true
may_be_cut PutPartial = true
may_be_cut Arithmetic = false
may_be_cut Logical = false
may_be_cut Get = true
may_be_cut Intent = false

-- a message is cut where it may be, and has more bytes than a piece, by its op and size
abbrev pub cuts : ℕ → Op → ℕ → Bool
cuts most op size = may_be_cut op && nat_lt most (bytes_of size)

-- so is a request
abbrev pub is_cut : ℕ → Request → Bool
is_cut most request = cuts most request.op request.size

-- the piece with a number, counted from 0, of some bytes: it begins behind the earlier ones, and has its own part of
-- the flags and the data
abbrev pub piece_at : ℕ → Request → ℕ → Request
piece_at most request number = record {
  op = request.op;
  param = request.param;
  size = log_of most;
  source = request.source;
  address = request.address + number * most;
  mask = part most number request.mask;
  payload = part most number request.payload;
}

-- into how many pieces a request is cut
abbrev pub piece_count : ℕ → Request → ℕ
piece_count most request = bytes_of request.size / most

-- these pieces, in order
abbrev pub all_pieces : ℕ → Request → List Request
all_pieces most request = map (piece_at most request) (range_with_len 0 (piece_count most request))

-- the messages into which a request is cut at so many bytes: what isn't cut stays one message
abbrev pub cut_at : ℕ → Request → List Request
cut_at most request = cond (is_cut most request) (all_pieces most request) (request ∷ [])

-- one of the answers is denied
abbrev pub any_denied : List Response → Bool
any_denied answers = list_any (λ (answer : Response). answer.denied) answers

-- the data of the answers, joined in order
abbrev pub joined_data : List Response → List ℕ
joined_data answers = flat_map (λ (answer : Response). answer.payload) answers

-- the data of a reply: those of the answers, or as many zeros where one is denied
abbrev pub reply_data : Request → List Response → List ℕ
reply_data request answers = cond (any_denied answers) (replicate (bytes_of request.size) 0) (joined_data answers)

-- the reply to a request whose pieces got these answers
abbrev pub reply_to : Request → List Response → Response
reply_to request answers = record {
  op = ack_of request.op;
  size = request.size;
  source = request.source;
  denied = any_denied answers;
  payload = cond (brings_data (ack_of request.op)) (reply_data request answers) [];
}
