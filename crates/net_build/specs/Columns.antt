-- Columns of rows of wires. Only functions that aren't public cite it.
use Rattle.std.specs.Prelude.{◌≡◌, ℕ, ◌<◌, List, length, map, slice_index_or}
use Rattle.net_build.specs.declared.types.Wire.{Wire}

-- stands where there is no wire
abbrev pub no_wire : Wire
no_wire = record { number = 0; width = 0 }

-- the wire at this place of each row
abbrev pub column_of : ℕ → List (List Wire) → List Wire
column_of place rows = map (λ (row : List Wire). slice_index_or row place no_wire) rows

-- rows of so many wires
abbrev pub AreLong : ℕ → List (List Wire) → Type 0
AreLong count rows = (k : ℕ) (d : List Wire) → k < length rows → length (slice_index_or rows k d) ≡ count
