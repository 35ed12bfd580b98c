-- The fragmenter: a large get or put goes on in pieces, one after another, and its response goes back when the
-- responses to all pieces are there.
use Rattle.std.specs.Prelude.{ℕ, ◌+◌, ◌*◌, ◌/◌, ◌==◌, Bool, true, false, ◌||◌, ◌&&◌, cond, nat_lt, List, [], ◌∷◌, ◌++◌, length, Option, Some, None, slice_get}
use Rattle.std.specs.Option.{option_map}
use Rattle.tl_params.specs.declared.ops.Op.{Op}
use Rattle.tl_params.specs.declared.ops.Op.TheVariants.{PutFull, PutPartial, Arithmetic, Logical, Get, Intent}
use Rattle.tl_edge.specs.declared.beat.ABeat.{ABeat}
use Rattle.tl_edge.specs.declared.beat.DBeat.{DBeat}
use Rattle.tl_edge.specs.Bundles.{log_of}
use Rattle.tl_edge.specs.Messages.{ack_of, bytes_of, has_data}
use Rattle.tl_edge.specs.Beats.{active_mask, request_beats, response_beats}
use Rattle.tl_pieces.specs.Cutting.{cuts}
use Rattle.flow_core.specs.Acts.{Act, forwards}

-- what a fragmenter goes by: the bytes of a piece, and the width of its buses
pub record Knife : Type 0 where
  pub most : ℕ
  pub width : ℕ

-- what it does for the request in hand: sends a piece, waits for the response to one, or gives the whole response
pub data Phase : Type 0 where
  Sending : Phase
  Waiting : Phase
  Replying : Phase

-- the fields of a request that are the same on each of its beats
pub record Head : Type 0 where
  pub op : Op
  pub param : ℕ
  pub size : ℕ
  pub source : ℕ
  pub address : ℕ

-- the request in hand: the number of the piece, the beats done of it in this phase, the data of the responses so far,
-- and whether a piece was denied. A fragmenter without one is idle.
pub record Hand : Type 0 where
  pub phase : Phase
  pub head : Head
  pub piece : ℕ
  pub done : ℕ
  pub collected : List ℕ
  pub denied : Bool

-- the fields of a beat
abbrev pub head_of : ABeat → Head
head_of beat = record {
  op = beat.op;
  param = beat.param;
  size = beat.size;
  source = beat.source;
  address = beat.address;
}

-- ---- pieces

-- a get or put of more bytes than a piece
abbrev pub is_cut_by : Knife → Head → Bool
is_cut_by knife head = cuts knife.most head.op head.size

-- the size of each piece
abbrev pub piece_size : Knife → Head → ℕ
piece_size knife head = cond (is_cut_by knife head) (log_of knife.most) head.size

-- how many pieces there are
abbrev pub pieces_in : Knife → Head → ℕ
pieces_in knife head = cond (is_cut_by knife head) (bytes_of head.size / knife.most) 1

-- the address of a piece by its number, counted from 0
abbrev pub piece_address : Knife → Head → ℕ → ℕ
piece_address knife head number = head.address + number * bytes_of (piece_size knife head)

-- how many beats a piece has
abbrev pub beats_down : Knife → Head → ℕ
beats_down knife head = request_beats head.op (piece_size knife head) knife.width

-- how many beats the response to a piece has
abbrev pub beats_up : Knife → Head → ℕ
beats_up knife head = response_beats (ack_of head.op) (piece_size knife head) knife.width

-- how many beats the whole response has
abbrev pub reply_beats : Knife → Head → ℕ
reply_beats knife head = response_beats (ack_of head.op) head.size knife.width

-- the data of so many beats at most is collected: those of the largest transfer
abbrev pub most_collected : Knife → ℕ
most_collected knife = 256 / knife.width

-- ---- channel A

-- a beat of a piece, with this mask and data where it has data; else with the piece's active lanes
abbrev pub piece_beat : Knife → Head → ℕ → ℕ → ℕ → ABeat
piece_beat knife head number mask payload = record {
  op = head.op;
  param = head.param;
  size = piece_size knife head;
  source = head.source;
  address = piece_address knife head number;
  mask =
      cond (has_data head.op) mask
      (active_mask knife.width (piece_size knife head) (piece_address knife head number));
  payload = cond (has_data head.op) payload 0;
}

-- after one more beat of the piece: its last one is followed by waiting
abbrev pub sent : Knife → Hand → Hand
sent knife hand = record {
  phase = cond (hand.done + 1 == beats_down knife hand.head) Waiting Sending;
  head = hand.head;
  piece = hand.piece;
  done = cond (hand.done + 1 == beats_down knife hand.head) 0 (hand.done + 1);
  collected = hand.collected;
  denied = hand.denied;
}

-- a request comes into hand
abbrev pub taken_in_hand : ABeat → Hand
taken_in_hand beat = record {
  phase = Sending;
  head = head_of beat;
  piece = 0;
  done = 0;
  collected = [];
  denied = false;
}

-- the head goes on as the next beat of the piece in hand
abbrev pub sends : Knife → Hand → ABeat → Act ABeat (Option Hand)
sends knife hand beat =
    forwards (piece_beat knife hand.head hand.piece beat.mask beat.payload) (Some (sent knife hand))

-- with a head: an idle one takes the first beat of a request, one that sends a message with data the next beat
abbrev pub sends_in : Phase → Knife → Hand → ABeat → Option (Act ABeat (Option Hand))
sends_in Sending knife hand beat = cond (has_data hand.head.op) (Some (sends knife hand beat)) None
sends_in Waiting knife hand beat = None
sends_in Replying knife hand beat = None

-- channel A with a head
abbrev pub fragment_down : Knife → Option Hand → ABeat → Option (Act ABeat (Option Hand))
fragment_down knife None beat = Some (sends knife (taken_in_hand beat) beat)
fragment_down knife (Some hand) beat = sends_in hand.phase knife hand beat

-- a get is the one request that goes on without a head
abbrev pub is_get : Op → Bool
is_get PutFull = false
is_get PutPartial = false
is_get Arithmetic = false
is_get Logical = false
is_get Get = true
is_get Intent = false

-- a piece of a get, whatever its number
abbrev pub asks : Knife → Hand → Act ABeat (Option Hand)
asks knife hand = record {
  take = false;
  put = Some (piece_beat knife hand.head hand.piece 0 0);
  next = Some (sent knife hand);
}

-- the first piece went with the head
abbrev pub asks_in : Phase → Knife → Hand → Option (Act ABeat (Option Hand))
asks_in Sending knife hand = cond (is_get hand.head.op && nat_lt 0 hand.piece) (Some (asks knife hand)) None
asks_in Waiting knife hand = None
asks_in Replying knife hand = None

-- channel A without a head: the later pieces of a get
abbrev pub fragment_down_alone : Knife → Option Hand → Option (Act ABeat (Option Hand))
fragment_down_alone knife None = None
fragment_down_alone knife (Some hand) = asks_in hand.phase knife hand

-- ---- channel D

-- after the last beat of the response to a piece: the next piece, or the whole response
abbrev pub piece_answered : Knife → Hand → Hand
piece_answered knife hand =
    cond (nat_lt (hand.piece + 1) (pieces_in knife hand.head))
    (record {
      phase = Sending;
      head = hand.head;
      piece = hand.piece + 1;
      done = 0;
      collected = hand.collected;
      denied = hand.denied;
    })
    (record {
      phase = Replying;
      head = hand.head;
      piece = hand.piece;
      done = 0;
      collected = hand.collected;
      denied = hand.denied;
    })

-- with the data of one more beat of a response
abbrev pub collects : Hand → DBeat → Hand
collects hand beat = record {
  phase = Waiting;
  head = hand.head;
  piece = hand.piece;
  done = hand.done + 1;
  collected = hand.collected ++ beat.payload ∷ [];
  denied = hand.denied || beat.denied;
}

-- after such a beat: the last one ends the piece
abbrev pub absorbed : Knife → Hand → Hand
absorbed knife hand = cond (hand.done == beats_up knife hand.head) (piece_answered knife hand) hand

-- the head is taken and nothing is put
abbrev pub absorbs : Knife → Hand → DBeat → Act DBeat (Option Hand)
absorbs knife hand beat = record { take = true; put = None; next = Some (absorbed knife (collects hand beat)) }

-- one that waits takes beats of the response
abbrev pub absorbs_in : Phase → Knife → Hand → DBeat → Option (Act DBeat (Option Hand))
absorbs_in Sending knife hand beat = None
absorbs_in Waiting knife hand beat =
    cond (nat_lt (length hand.collected) (most_collected knife)) (Some (absorbs knife hand beat)) None
absorbs_in Replying knife hand beat = None

-- channel D with a head
abbrev pub fragment_up : Knife → Option Hand → DBeat → Option (Act DBeat (Option Hand))
fragment_up knife None beat = None
fragment_up knife (Some hand) beat = absorbs_in hand.phase knife hand beat

-- the data of the next beat of the whole response: the one collected at its place, and 0 where a piece was denied
abbrev pub next_data : Hand → Option ℕ
next_data hand = cond hand.denied (Some 0) (slice_get hand.collected hand.done)

-- a beat of the whole response
abbrev pub reply_beat : Hand → ℕ → DBeat
reply_beat hand payload = record {
  op = ack_of hand.head.op;
  size = hand.head.size;
  source = hand.head.source;
  denied = hand.denied;
  payload = payload;
}

-- after one more of them: the last one makes it idle
abbrev pub replied : Knife → Hand → Option Hand
replied knife hand =
    cond (hand.done + 1 == reply_beats knife hand.head) None
    (Some (record {
      phase = Replying;
      head = hand.head;
      piece = hand.piece;
      done = hand.done + 1;
      collected = hand.collected;
      denied = hand.denied;
    }))

-- it is put, and no head is taken
abbrev pub replies : Knife → Hand → ℕ → Act DBeat (Option Hand)
replies knife hand payload =
    record { take = false; put = Some (reply_beat hand payload); next = replied knife hand }

-- one that replies puts the next beat
abbrev pub replies_in : Phase → Knife → Hand → Option (Act DBeat (Option Hand))
replies_in Sending knife hand = None
replies_in Waiting knife hand = None
replies_in Replying knife hand = option_map (replies knife hand) (next_data hand)

-- channel D without a head: the whole response
abbrev pub fragment_up_alone : Knife → Option Hand → Option (Act DBeat (Option Hand))
fragment_up_alone knife None = None
fragment_up_alone knife (Some hand) = replies_in hand.phase knife hand
