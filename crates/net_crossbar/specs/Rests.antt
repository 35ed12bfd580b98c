-- How many beats follow one, by what a head's wires hold, and the wires that tell it.
use Rattle.std.specs.Prelude.{◌≡◌, ◌≤◌, ◌<◌, ◌^◌, ℕ, ◌-◌, ◌==◌, cond, nat_lt, List, [], length, slice_index_or, if◌then◌else◌}
use Rattle.tl_edge.specs.Beats.{data_beats}
use Rattle.net_build.specs.declared.types.Wire.{Wire}
use Rattle.net_build.specs.Bits.{wire_values}
use Rattle.net_build.specs.Built.{Built}
use Rattle.net_build.specs.Values.{Means}
use Rattle.net_build.specs.Columns.{no_wire}
use Rattle.net_build.specs.Registers.{AreWires}
use Rattle.net_queue.specs.Rows.{row_widths}
use Rattle.net_table.specs.Tables.{AreEntries}
use Rattle.net_crossbar.specs.declared.channel.Channel.{Channel}
use Rattle.net_crossbar.specs.declared.channel.Channel.TheVariants.{A, D}
use Rattle.net_crossbar.specs.Places.{AllAt}

-- the sizes that a message may have: from 0 to 8
abbrev pub size_count : ℕ
size_count = 9

-- the beats of data behind the first, of a size that a message may have
abbrev pub data_behind : ℕ → ℕ → ℕ
data_behind bytes size = cond (nat_lt size size_count) (data_beats size bytes - 1) 0

-- the beats behind a request, by its fields: those with an opcode below 4 carry data
abbrev pub request_behind : ℕ → List ℕ → ℕ
request_behind bytes items =
    if nat_lt (slice_index_or items 0 0) 4 then data_behind bytes (slice_index_or items 2 0) else 0

-- the beats behind a response: the one with the opcode 1 carries data
abbrev pub response_behind : ℕ → List ℕ → ℕ
response_behind bytes items =
    if slice_index_or items 0 0 == 1 then data_behind bytes (slice_index_or items 1 0) else 0

-- the beats behind a head of a channel
abbrev pub beats_behind_head : Channel → ℕ → List ℕ → ℕ
beats_behind_head A bytes items = request_behind bytes items
beats_behind_head D bytes items = response_behind bytes items

-- the bits in which they are told: no message has more than 256 beats
abbrev pub rest_bits : ℕ
rest_bits = 8

-- a wire for each size, which tells the beats behind the first
pub record IsRestTable (b : Built) (bytes : ℕ) (table : List Wire) : Type 0 where
  pub long : length table ≡ size_count
  pub entries : AreEntries b rest_bits table
  pub tells : AllAt (λ size w. Means b w (λ v. data_behind bytes size)) table

-- a wire for each row, which tells how many beats follow it
pub record AreRests (b : Built) (rest : List ℕ → ℕ) (rows : List (List Wire)) (rests : List Wire) : Type 0 where
  pub long : length rests ≡ length rows
  pub entries : AreEntries b rest_bits rests
  pub tells : AllAt (λ k w. Means b w (λ v. rest (wire_values v (slice_index_or rows k [])))) rests

-- rows of the builder's wires that begin with an opcode of three bits or more, in which a size stands
pub record HasOpcode (b : Built) (row : List Wire) : Type 0 where
  pub long : 3 ≤ length row
  pub wires : AreWires b (row_widths row) row
  pub op : 4 < 2 ^ (slice_index_or row 0 no_wire).width

abbrev pub HaveOpcodes : Built → List (List Wire) → Type 0
HaveOpcodes b rows = AllAt (λ k row. HasOpcode b row) rows
