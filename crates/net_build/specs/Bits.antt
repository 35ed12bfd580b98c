-- Rows of wires of one bit, and rows of wires of any width.
use Rattle.std.specs.Prelude.{◌≡◌, ℕ, zero, suc, ◌<◌, Bool, List, [], ◌∷◌, length, map, slice_index_or, if◌then◌else◌}
use Rattle.net_build.specs.declared.types.Wire.{Wire}
use Rattle.net_build.specs.Built.{Built, IsBit}
use Rattle.net_build.specs.Registers.{AreWires}
use Rattle.net_build.specs.Values.{Solves, high}

-- wires of one bit
pub record AreBits (b : Built) (ws : List Wire) : Type 0 where
  pub each : (k : ℕ) (d : Wire) → k < length ws → IsBit b (slice_index_or ws k d)

-- which of some wires of one bit are 1
abbrev pub highs : (ℕ → ℕ) → List Wire → List Bool
highs v ws = map (high v) ws

-- the same as Tells, of a row of wires of one bit
pub record TellsAll (b : Built) (ws : List Wire) (f : (ℕ → ℕ) → List Bool) : Type 0 where
  pub at : (v : ℕ → ℕ) → Solves b v → highs v ws ≡ f v

-- the values of some wires
abbrev pub wire_values : (ℕ → ℕ) → List Wire → List ℕ
wire_values v ws = map (λ (w : Wire). v w.number) ws

-- the same as Means, of a row of wires
pub record MeansAll (b : Built) (ws : List Wire) (f : (ℕ → ℕ) → List ℕ) : Type 0 where
  pub at : (v : ℕ → ℕ) → Solves b v → wire_values v ws ≡ f v

-- a statement on values, whatever the inputs and registers hold; only what isn't public cites it
pub record Always (b : Built) (P : (ℕ → ℕ) → Type 0) : Type 0 where
  pub at : (v : ℕ → ℕ) → Solves b v → P v

-- rows of wires, each with these widths
pub record AreRows (b : Built) (widths : List ℕ) (rows : List (List Wire)) : Type 0 where
  pub long : (k : ℕ) (d : List Wire) → k < length rows → length (slice_index_or rows k d) ≡ length widths
  pub wires : (k : ℕ) (d : List Wire) → k < length rows → AreWires b widths (slice_index_or rows k d)

-- so many zeros
abbrev pub zeros : ℕ → List ℕ
zeros zero = []
zeros (suc count) = 0 ∷ zeros count

-- the row of the first pick that is 1, and so many zeros where none is
abbrev pub row_picked : ℕ → List Bool → List (List ℕ) → List ℕ
row_picked count [] rows = zeros count
row_picked count (pick ∷ picks) [] = zeros count
row_picked count (pick ∷ picks) (row ∷ rows) = if pick then row else row_picked count picks rows
