-- The wires of a gate's registers and acts.
use Rattle.std.specs.Prelude.{◌≡◌, ℕ, ◌<◌, ◌-◌, ◌==◌, Bool, ◌&&◌, false, List, ◌∷◌, ◌++◌, length, if◌then◌else◌}
use Rattle.net_build.specs.declared.types.Wire.{Wire}
use Rattle.net_build.specs.Bits.{AreBits, AreRows, highs, wire_values}
use Rattle.net_build.specs.Built.{Built, IsBit, IsWire}
use Rattle.net_build.specs.Registers.{AreWires}
use Rattle.net_build.specs.Values.{AtStart, Solves, Ticks, high}
use Rattle.net_choice.specs.Rows.{any_of, behind_of}
use Rattle.net_gate.specs.declared.types.Registers.{Registers}
use Rattle.net_gate.specs.declared.types.Serving.{Serving}
use Rattle.net_gate.specs.Sides.{Asked, GateSide, grants_in, idle_side, late_count, picked_rest, side_after}
use Rattle.net_table.specs.Tables.{AreEntries}

-- what its registers hold
abbrev pub side_at : (ℕ → ℕ) → Registers → GateSide
side_at v r = record { left = v r.left.number; mine = highs v r.mine; late = highs v r.late }

-- what it sees where the wires have these values
abbrev pub wanted_at : (ℕ → ℕ) → List Wire → Wire → List Wire → Asked
wanted_at v wants ready rests =
    record { wants = highs v wants; room = high v ready; rests = wire_values v rests }

-- all its registers
abbrev pub registers_of : Registers → List Wire
registers_of r = (r.left ∷ r.mine) ++ r.late

-- registers, or what is put before them, of a gate with so many heads
pub record HasSideShape (b : Built) (round : Bool) (count wide : ℕ) (r : Registers) : Type 0 where
  pub left : IsWire b r.left
  pub sized : r.left.width ≡ wide
  pub mine : AreBits b r.mine
  pub mine_long : length r.mine ≡ count
  pub late : AreBits b r.late
  pub late_long : length r.late ≡ late_count round count

-- the wires say what the registers hold after these are granted
pub record IsAfter (b : Built) (round : Bool) (now : Registers) (grants : List Wire) (valid : Wire) (rests : List Wire)
    (next : Registers) : Type 0 where
  pub left : (v : ℕ → ℕ) → Solves b v
      → v next.left.number
      ≡ (if high v valid then
      (if v now.left.number == 0 then picked_rest (highs v grants) (wire_values v rests) else v now.left.number - 1)
      else v now.left.number)
  pub mine : (v : ℕ → ℕ) → Solves b v
      → highs v next.mine ≡ (if high v valid then highs v grants else highs v now.mine)
  pub late : (v : ℕ → ℕ) → Solves b v
      → highs v next.late
      ≡ (if round then
      (if high v valid && (v now.left.number == 0) then behind_of false (highs v grants) else highs v now.late)
      else highs v now.late)

-- the wires that a gate looks at, of so many heads with fields of these widths
pub record AreEnds (b : Built) (count wide : ℕ) (widths : List ℕ) (wants : List Wire) (ready : Wire)
    (rows : List (List Wire)) (rests : List Wire) : Type 0 where
  pub some : 0 < count
  pub wants_bits : AreBits b wants
  pub wants_long : length wants ≡ count
  pub ready_bit : IsBit b ready
  pub rows_are : AreRows b widths rows
  pub rows_long : length rows ≡ count
  pub rests_wires : AreEntries b wide rests
  pub rests_long : length rests ≡ count

-- wires with these widths
pub record IsRow (b : Built) (widths : List ℕ) (ws : List Wire) : Type 0 where
  pub long : length ws ≡ length widths
  pub wires : AreWires b widths ws

-- the wires of what a gate of so many heads does
pub record AreServing (b : Built) (count : ℕ) (widths : List ℕ) (s : Serving) : Type 0 where
  pub grants : AreBits b s.grants
  pub long : length s.grants ≡ count
  pub valid : IsBit b s.valid
  pub row : IsRow b widths s.items

-- In each cycle the wires grant by the state and what is seen, and those put before the registers are the next state.
pub record IsSideCycle (b : Built) (round : Bool) (wants : List Wire) (ready : Wire) (rests : List Wire)
    (now : Registers) (grants : List Wire) (valid : Wire) (next : Registers) : Type 0 where
  pub granted : (v : ℕ → ℕ) → Solves b v
      → highs v grants ≡ grants_in round (side_at v now) (wanted_at v wants ready rests)
  pub some : (v : ℕ → ℕ) → Solves b v → high v valid ≡ any_of (highs v grants)
  pub nexts : (v : ℕ → ℕ) → Solves b v
      → side_at v next ≡ side_after round (side_at v now) (wanted_at v wants ready rests)

-- The same with the registers, which begin idle and take the next state in a cycle without a reset.
pub record IsSide (b : Built) (round : Bool) (count : ℕ) (wants : List Wire) (ready : Wire) (rests : List Wire)
    (r : Registers) (grants : List Wire) (valid : Wire) : Type 0 where
  pub granted : (v : ℕ → ℕ) → Solves b v
      → highs v grants ≡ grants_in round (side_at v r) (wanted_at v wants ready rests)
  pub some : (v : ℕ → ℕ) → Solves b v → high v valid ≡ any_of (highs v grants)
  pub nexts : (v u : ℕ → ℕ) → Solves b v → Ticks b v u → (v 0 == 1) ≡ false
      → side_at u r ≡ side_after round (side_at v r) (wanted_at v wants ready rests)
  pub starts : (v : ℕ → ℕ) → AtStart b v → side_at v r ≡ idle_side round count
