-- Wires of the lanes of a narrow and a wide bus.
use Rattle.std.specs.Prelude.{◌≡◌, ℕ, ◌%◌, ◌<◌, ◌≤◌, ◌==◌, Bool, List, length, slice_index_or, if◌then◌else◌}
use Rattle.tl_edge.specs.Beats.{active_mask}
use Rattle.tl_edge.specs.Messages.{bytes_of}
use Rattle.net_build.specs.declared.types.Wire.{Wire}
use Rattle.net_build.specs.Built.{Built}
use Rattle.net_build.specs.Values.{Solves, high}
use Rattle.net_lanes.specs.declared.places.Buses.{Buses}
use Rattle.net_table.specs.Tables.{AreEntries}

-- a bus is narrower than another, and none is wider than 8 bytes
pub record AreTwo (buses : Buses) : Type 0 where
  pub order : buses.narrow < buses.wide
  pub small : buses.wide ≤ 3

-- the same as Means, in cycles in which something holds of the values
pub record MeansWhere (b : Built) (P : (ℕ → ℕ) → Type 0) (w : Wire) (f : (ℕ → ℕ) → ℕ) : Type 0 where
  pub at : (v : ℕ → ℕ) → Solves b v → P v → v w.number ≡ f v

-- the same of a wire of one bit
pub record TellsWhere (b : Built) (P : (ℕ → ℕ) → Type 0) (w : Wire) (f : (ℕ → ℕ) → Bool) : Type 0 where
  pub at : (v : ℕ → ℕ) → Solves b v → P v → high v w ≡ f v

-- so many wires of one width, of which the one at a place has the value that is stated for the place
pub record AreTabled (b : Built) (width count : ℕ) (f : (ℕ → ℕ) → ℕ → ℕ) (ws : List Wire) : Type 0 where
  pub long : length ws ≡ count
  pub entries : AreEntries b width ws
  pub each : (v : ℕ → ℕ) (k : ℕ) (d : Wire) → Solves b v → k < count → v (slice_index_or ws k d).number ≡ f v k

-- the active lanes of a message of a size at an address, and none where the address isn't a multiple of its bytes
abbrev pub mask_where : ℕ → ℕ → ℕ → ℕ
mask_where width size address = if address % bytes_of size == 0 then active_mask width size address else 0
