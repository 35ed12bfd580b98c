-- Rows of wires that stand for one another.
use Rattle.std.specs.Prelude.{◌≡◌, ℕ, ◌<◌, ◌^◌, List, length, map}
use Rattle.tl_edge.specs.Wires.{FitWires}
use Rattle.net_build.specs.declared.types.Wire.{Wire}
use Rattle.net_build.specs.Bits.{wire_values}
use Rattle.net_build.specs.Built.{Built}
use Rattle.net_build.specs.Registers.{AreWires}
use Rattle.net_build.specs.Values.{Solves}

-- the widths of a row
abbrev pub row_widths : List Wire → List ℕ
row_widths ws = map (λ (w : Wire). w.width) ws

-- two rows of as many wires of the builder, with the same widths
pub record AreAlike (b : Built) (xs ys : List Wire) : Type 0 where
  pub long : length ys ≡ length xs
  pub one : AreWires b (row_widths xs) xs
  pub other : AreWires b (row_widths xs) ys

-- where the value of a wire fits the width of another, the other has it too
pub record KeepsValue (b : Built) (from to : Wire) : Type 0 where
  pub at : (v : ℕ → ℕ) → Solves b v → v from.number < 2 ^ to.width → v to.number ≡ v from.number

-- where the values of a row fit these widths, the other row has them too
pub record KeepsRow (b : Built) (from : List Wire) (widths : List ℕ) (to : List Wire) : Type 0 where
  pub at : (v : ℕ → ℕ) → Solves b v → FitWires (wire_values v from) widths → wire_values v to ≡ wire_values v from
