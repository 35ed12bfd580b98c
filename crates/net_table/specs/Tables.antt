-- Tables of registers: entries of one width, read at an index, changed at an index, and driven together.
use Rattle.std.specs.Prelude.{◌≡◌, ℕ, ◌<◌, ◌==◌, Bool, false, List, length, slice_index_or, set, if◌then◌else◌}
use Rattle.net_build.specs.declared.types.Wire.{Wire}
use Rattle.net_build.specs.Bits.{wire_values, zeros}
use Rattle.net_build.specs.Built.{Built, IsWire}
use Rattle.net_build.specs.Registers.{AreDistinct, AreUndriven}
use Rattle.net_build.specs.Values.{AtStart, Solves, Ticks}

-- wires of the builder, all of one width
pub record AreEntries (b : Built) (width : ℕ) (ws : List Wire) : Type 0 where
  pub each : (k : ℕ) (d : Wire) → k < length ws
      → IsWire b (slice_index_or ws k d) × ((slice_index_or ws k d).width ≡ width)

-- so many registers of one width, no two the same, of which none is driven yet
pub record IsTable (b : Built) (count width : ℕ) (ws : List Wire) : Type 0 where
  pub long : length ws ≡ count
  pub entries : AreEntries b width ws
  pub undriven : AreUndriven b ws
  pub distinct : AreDistinct ws

-- the entries after a cycle in which the one at an index is written, or none
abbrev pub entries_written : Bool → ℕ → ℕ → List ℕ → List ℕ
entries_written write index item entries = if write then set entries index item else entries

-- in the first cycle all these registers hold 0
pub record BeginAtZero (b : Built) (ws : List Wire) : Type 0 where
  pub at : (v : ℕ → ℕ) → AtStart b v → wire_values v ws ≡ zeros (length ws)

-- what these registers hold after a cycle without a reset
pub record AllBecome (b : Built) (ws : List Wire) (f : (ℕ → ℕ) → List ℕ) : Type 0 where
  pub at : (v u : ℕ → ℕ) → Solves b v → Ticks b v u → (v 0 == 1) ≡ false → wire_values u ws ≡ f v
