-- Lists of registers, opened together and driven together.
use Rattle.std.specs.Prelude.{◌≡◌, ◌≢◌, ℕ, ◌<◌, List, [], ◌∷◌, length, map, filter, not, ◌==◌, slice_index, slice_index_or, AllPairs}
use Rattle.net_build.specs.declared.types.Wire.{Wire}
use Rattle.net_build.specs.Built.{Built, inputs, undriven, IsUndriven, IsWire}
use Rattle.net_build.specs.Values.{Later, Takes}

-- the numbers of wires
abbrev pub numbers : List Wire → List ℕ
numbers ws = map (λ (w : Wire). w.number) ws

-- registers of the builder that aren't driven yet
pub record AreUndriven (b : Built) (ws : List Wire) : Type 0 where
  pub each : (k : ℕ) (d : Wire) → k < length ws → IsUndriven b (slice_index_or ws k d)

-- wires of the builder with these widths, in their order
pub record AreWires (b : Built) (widths : List ℕ) (ws : List Wire) : Type 0 where
  pub each : (k : ℕ) (d : Wire) → k < length ws
      → IsWire b (slice_index_or ws k d) × ((slice_index_or ws k d).width ≡ slice_index widths k)

-- no two of these wires are the same
pub record AreDistinct (ws : List Wire) : Type 0 where
  pub pairs : AllPairs (λ (x y : Wire). x.number ≢ y.number) ws

-- a wire of the builder for each register, of its width
pub record MayDrive (b : Built) (registers nexts : List Wire) : Type 0 where
  pub each : (k : ℕ) (d e : Wire) → k < length registers
      → IsWire b (slice_index_or nexts k e) × ((slice_index_or nexts k e).width ≡ (slice_index_or registers k d).width)

-- the numbers of a list without those of another, which comes first
abbrev pub without : List ℕ → List ℕ → List ℕ
without [] xs = xs
without (r ∷ rs) xs = without rs (filter (λ n. not (n == r)) xs)

-- A later builder without further ports, in which these registers are driven too.
pub record DrivesAll (old new : Built) (registers : List ℕ) : Type 0 where
  pub later : Later old new
  pub inputs : inputs new ≡ inputs old
  pub outputs : new.outputs ≡ old.outputs
  pub undriven : undriven new ≡ without registers (undriven old)

-- what each register holds in the next cycle: 0 after a reset, and else the value of the wire at its place
pub record AllTake (b : Built) (registers nexts : List Wire) : Type 0 where
  pub each : (k : ℕ) (d e : Wire) → k < length registers
      → Takes b (slice_index_or registers k d) (λ v. v (slice_index_or nexts k e).number)
