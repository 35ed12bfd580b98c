-- What the tests say that decide which part of a text is due.
use Rattle.std.specs.Prelude.{◌≡◌, ◌↔◌, ℕ, ◌+◌, ◌-◌, ◌*◌, ◌/◌, ◌^◌, ◌<◌, List, true, decimal, codes, Some}
use Rattle.net_cells.specs.declared.netlist.CellOp.{CellOp}
use Rattle.net_cells.specs.Rules.{IsCell, IsWidth}
use Rattle.ver_text.specs.Numerals.{written_number, literal, literal_of}
use Rattle.ver_text.specs.Due.{width_of}
use Rattle.ver_text.specs.Fits.{is_cell}

-- a decimal number below 2 ^ 64, in its one spelling
abbrev pub IsNumberIn : List ℕ → ℕ → Type 0
IsNumberIn text n = (n < 2 ^ 64) × (text ≡ decimal n)

-- the range of so many bits
abbrev pub IsRangeIn : List ℕ → List ℕ → ℕ → Type 0
IsRangeIn high low width = IsWidth width × (high ≡ decimal (width - 1)) × (low ≡ codes "0")

-- the literal of so many bits and this value, which has no more digits than the width needs
abbrev pub IsLiteralIn : ℕ → List ℕ → ℕ → Type 0
IsLiteralIn width text value = (value < 2 ^ (4 * ((width + 3) / 4))) × (text ≡ literal width value)

-- Numbers, ranges, literals and the rule of cells are tested for what they are.
pub record TestsAreExact : Type 0 where
  pub numbers : (text : List ℕ) (n : ℕ) → (written_number text ≡ Some n) ↔ IsNumberIn text n
  pub ranges : (high low : List ℕ) (width : ℕ) → (width_of high low ≡ Some width) ↔ IsRangeIn high low width
  pub literals :
      (width value : ℕ) (text : List ℕ)
      → IsWidth width → (literal_of width text ≡ Some value) ↔ IsLiteralIn width text value
  pub cells : (ws : List ℕ) (width : ℕ) (o : CellOp) → (is_cell ws width o ≡ true) ↔ IsCell ws width o
