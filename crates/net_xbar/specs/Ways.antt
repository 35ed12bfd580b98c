-- The crossbar's acts as those of its gates side by side: one for each output on channel A, and one for each input on
-- channel D.
use Rattle.std.specs.Prelude.{ℕ, ◌+◌, ◌-◌, ◌==◌, false, cond, nat_lt, List, [], ◌∷◌, map, Option, Some, None, slice_index_or}
use Rattle.std.specs.Option.{option_and_then, option_map}
use Rattle.dip_sets.specs.declared.ids.IdRange.{IdRange}
use Rattle.dip_sets.specs.Ids.{has_id}
use Rattle.tl_edge.specs.declared.beat.ABeat.{ABeat}
use Rattle.tl_edge.specs.declared.beat.DBeat.{DBeat}
use Rattle.tl_edge.specs.Beats.{data_beats}
use Rattle.tl_edge.specs.Wires.{a_fields, d_fields}
use Rattle.flow_core.specs.Acts.{with_a_id, with_d_id}
use Rattle.flow_core.specs.Crossing.{Crossbar, goes_to}
use Rattle.net_gate.specs.Gates.{Sight}
use Rattle.net_queue.specs.Leaves.{LeafView}

-- ---- how many beats follow one, by its fields

-- of a request: those with an opcode below 4 carry data
abbrev pub rest_a : ℕ → List ℕ → ℕ
rest_a width items =
    cond (nat_lt (slice_index_or items 0 0) 4) (data_beats (slice_index_or items 2 0) width - 1) 0

-- of a response: the one with the opcode 1 does
abbrev pub rest_d : ℕ → List ℕ → ℕ
rest_d width items = cond (slice_index_or items 0 0 == 1) (data_beats (slice_index_or items 1 0) width - 1) 0

-- ---- what heads offer a gate

-- the range of ids of an input
abbrev pub no_ids : IdRange
no_ids = record { start = 0; end = 0 }

abbrev pub range_of : Crossbar → ℕ → IdRange
range_of bar input = slice_index_or bar.ranges input no_ids

-- a head of a request from an input, moved to the input's ids, where the output owns its address
abbrev pub asks_output : Crossbar → ℕ → ℕ → ABeat → Option ABeat
asks_output bar output input beat =
    cond (goes_to bar output beat.address) (Some (with_a_id (beat.source + (range_of bar input).start) beat)) None

-- a head of a response, moved back from the input's ids, where its id is one of them
abbrev pub asks_input : Crossbar → ℕ → DBeat → Option DBeat
asks_input bar input beat =
    cond (has_id (range_of bar input) beat.source)
    (Some (with_d_id (beat.source - (range_of bar input).start) beat))
    None

-- each of some heads, with its number
abbrev pub offers_from : {B C : Type 0} → (ℕ → B → Option C) → ℕ → List (Option B) → List (Option C)
offers_from asks from [] = []
offers_from asks from (head ∷ heads) = option_and_then (asks from) head ∷ offers_from asks (from + 1) heads

-- what the gate of an output sees
abbrev pub output_sight : Crossbar → LeafView → ℕ → Sight
output_sight bar x output = record {
  offers = map (option_map a_fields) (offers_from (asks_output bar output) 0 x.heads_a);
  room = slice_index_or x.room_a output false;
}

-- what the gate of an input sees
abbrev pub input_sight : Crossbar → LeafView → ℕ → Sight
input_sight bar x input = record {
  offers = map (option_map d_fields) (offers_from (λ output. asks_input bar input) 0 x.heads_d);
  room = slice_index_or x.room_d input false;
}
