-- The width widget: a message on a bus of one width goes on over a bus of another. The beats of the narrower bus are
-- counted; the lanes of each lie in one beat of the wider bus.
use Rattle.std.specs.Prelude.{ℕ, ◌+◌, ◌*◌, ◌/◌, ◌%◌, ◌^◌, ◌==◌, min, Bool, true, ◌||◌, cond, nat_lt, List, Option, Some, None, slice_get, slice_set, bit_or}
use Rattle.std.specs.Option.{option_and_then, option_map}
use Rattle.tl_edge.specs.declared.beat.ABeat.{ABeat}
use Rattle.tl_edge.specs.declared.beat.DBeat.{DBeat}
use Rattle.tl_edge.specs.Messages.{has_data, brings_data}
use Rattle.tl_edge.specs.Beats.{data_beats, active_mask, most_lanes}
use Rattle.tl_pieces.specs.TwoBuses.{lane_in_wide}
use Rattle.flow_core.specs.Acts.{Act, forwards, with_a_lanes, with_d_lanes}

-- what a widget goes by: the widths of the buses towards the sources and towards the sinks
pub record Widths : Type 0 where
  pub above : ℕ
  pub below : ℕ

-- the message in progress on a channel: how many narrow beats are done, and what is collected of a wide beat
pub record Side : Type 0 where
  pub done : ℕ
  pub mask : ℕ
  pub payload : ℕ

-- the state: for each id the place of its last request's address on the lanes of the widest bus, and both channels
pub record Widget : Type 0 where
  pub kept : List (Option ℕ)
  pub a : Side
  pub d : Side

-- the mask and data of a beat
pub record Lanes : Type 0 where
  pub mask : ℕ
  pub payload : ℕ

-- ---- narrow beats, counted from 0, of a message at an address, between buses of `narrow` and `wide` bytes

-- a narrow beat, of so many, ends its wide beat: it is the last of its message, or the wide beat's last lanes
abbrev pub ends_wide : ℕ → ℕ → ℕ → ℕ → ℕ → Bool
ends_wide narrow wide address beats number =
    number + 1 == beats || (address + (number + 1) * narrow) % wide == 0

-- the number of the next narrow beat
abbrev pub number_after : ℕ → ℕ → ℕ
number_after beats number = cond (number + 1 == beats) 0 (number + 1)

-- the collected lanes with those of a narrow beat from a place on
abbrev pub with_lanes : Side → ℕ → Lanes → Lanes
with_lanes side place lanes = record {
  mask = bit_or side.mask (lanes.mask * 2 ^ place);
  payload = bit_or side.payload (lanes.payload * 2 ^ (8 * place));
}

-- the lanes of a narrow beat, from a place on in a wide one
abbrev pub narrowed : ℕ → ℕ → Lanes → Lanes
narrowed narrow place lanes = record {
  mask = lanes.mask / 2 ^ place % 2 ^ narrow;
  payload = lanes.payload / 2 ^ (8 * place) % 2 ^ (8 * narrow);
}

-- ---- one move on a message with data

-- from narrow to wide: the head is taken, and the wide beat put where the head ends it; else its lanes are kept
abbrev pub widens : Bool → ℕ → Lanes → Act Lanes Side
widens ends next lanes =
    record {
      take = true;
      put = cond ends (Some lanes) None;
      next = record { done = next; mask = cond ends 0 lanes.mask; payload = cond ends 0 lanes.payload };
    }

-- from wide to narrow: the narrow beat is put, and the head taken where it ends it
abbrev pub narrows : Bool → ℕ → Side → Lanes → Act Lanes Side
narrows ends next side lanes =
    record { take = ends; put = Some lanes; next = record { done = next; mask = side.mask; payload = side.payload } }

-- the move on the narrow beat with the number done, from a bus of `from` bytes to one of `to`
abbrev pub turned_at : ℕ → ℕ → ℕ → ℕ → Side → Lanes → Act Lanes Side
turned_at from to address beats side lanes =
    cond (nat_lt from to)
    (widens
    (ends_wide from to address beats side.done)
    (number_after beats side.done)
    (with_lanes side (lane_in_wide from to address side.done) lanes))
    (narrows
    (ends_wide to from address beats side.done)
    (number_after beats side.done)
    side
    (narrowed to (lane_in_wide to from address side.done) lanes))

-- the same of a message of a size; there is none where all its narrow beats are done
abbrev pub turned : ℕ → ℕ → ℕ → ℕ → Side → Lanes → Option (Act Lanes Side)
turned from to address size side lanes =
    cond (nat_lt side.done (data_beats size (min from to)))
    (Some (turned_at from to address (data_beats size (min from to)) side lanes))
    None

-- ---- channel A

-- the addresses after a move on a request, which its first move keeps for its id
abbrev pub kept_after : Bool → List (Option ℕ) → ABeat → List (Option ℕ)
kept_after first kept beat = cond first (slice_set kept beat.source (Some (beat.address % most_lanes))) kept

-- the lanes of a beat
abbrev pub lanes_of : ABeat → Lanes
lanes_of beat = record { mask = beat.mask; payload = beat.payload }

-- a beat of a request with data
abbrev pub data_down : Widget → ABeat → Act Lanes Side → Act ABeat Widget
data_down widget beat act = record {
  take = act.take;
  put = option_map (λ (lanes : Lanes). with_a_lanes lanes.mask lanes.payload beat) act.put;
  next = record { kept = kept_after (widget.a.done == 0) widget.kept beat; a = act.next; d = widget.d };
}

-- the only beat of a request without data: its mask is that of the other bus
abbrev pub plain_down : Widths → Widget → ABeat → Act ABeat Widget
plain_down widths widget beat =
    forwards (with_a_lanes (active_mask widths.below beat.size beat.address) 0 beat)
    (record { kept = kept_after true widget.kept beat; a = widget.a; d = widget.d })

-- between buses of one width it is a buffer
abbrev pub turn_down : Widths → Widget → ABeat → Option (Act ABeat Widget)
turn_down widths widget beat =
    cond (widths.above == widths.below)
    (Some (forwards beat widget))
    (cond (has_data beat.op)
    (option_map (data_down widget beat)
    (turned widths.above widths.below beat.address beat.size widget.a (lanes_of beat)))
    (Some (plain_down widths widget beat)))

-- ---- channel D

-- the address that is kept for an id
abbrev pub address_of : List (Option ℕ) → ℕ → Option ℕ
address_of kept id = option_and_then (λ address. address) (slice_get kept id)

-- a beat of a response with data
abbrev pub data_up : Widget → DBeat → Act Lanes Side → Act DBeat Widget
data_up widget beat act = record {
  take = act.take;
  put = option_map (λ (lanes : Lanes). with_d_lanes lanes.payload beat) act.put;
  next = record { kept = widget.kept; a = widget.a; d = act.next };
}

-- the same to a request at an address
abbrev pub turned_up : Widths → Widget → DBeat → ℕ → Option (Act DBeat Widget)
turned_up widths widget beat address =
    option_map (data_up widget beat)
    (turned widths.below widths.above address beat.size widget.d (record { mask = 0; payload = beat.payload }))

-- between buses of one width it is a buffer; a response with data goes by the address that is kept for its id
abbrev pub turn_up : Widths → Widget → DBeat → Option (Act DBeat Widget)
turn_up widths widget beat =
    cond (widths.above == widths.below)
    (Some (forwards beat widget))
    (cond (brings_data beat.op)
    (option_and_then (turned_up widths widget beat) (address_of widget.kept beat.source))
    (Some (forwards (with_d_lanes 0 beat) widget)))
