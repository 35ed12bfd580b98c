-- The gates of a crossbar's places, side by side.
use Rattle.std.specs.Prelude.{◌≡◌, ℕ, Bool, List, length, slice_index_or}
use Rattle.std.specs.List.{list_any}
use Rattle.net_build.specs.declared.types.Wire.{Wire}
use Rattle.net_build.specs.Bits.{AreBits}
use Rattle.net_build.specs.Built.{Built, IsBit}
use Rattle.net_build.specs.Columns.{no_wire}
use Rattle.net_build.specs.Values.{Tells, high}
use Rattle.net_gate.specs.declared.types.Serving.{Serving}
use Rattle.net_gate.specs.Gates.{IsGate, RestsAre}
use Rattle.net_crossbar.specs.Places.{AllAt}

-- a row of wires of one bit, one for each of so many heads
pub record IsWanted (b : Built) (count : ℕ) (wants : List Wire) : Type 0 where
  pub bits : AreBits b wants
  pub long : length wants ≡ count

-- such a row for each place to which they go
abbrev pub AreWanted : Built → ℕ → List (List Wire) → Type 0
AreWanted b count wants = AllAt (λ k row. IsWanted b count row) wants

-- the wires are a gate, as long as the rests told how many beats follow each head before it was built
pub record IsServedBy (old new : Built) (round : Bool) (rows : List (List Wire)) (rests : List Wire)
    (wants : List Wire) (ready : Wire) (s : Serving) : Type 0 where
  pub gate : (rest : List ℕ → ℕ) (most : ℕ) → RestsAre old rest most wants rows rests
      → IsGate new round rest most wants ready rows s

-- the wires are a gate of one head, whoever goes first and however many beats follow
pub record IsSingleGate (b : Built) (rows : List (List Wire)) (wants : List Wire) (ready : Wire) (s : Serving)
    : Type 0 where
  pub gate : (round : Bool) (rest : List ℕ → ℕ) (most : ℕ) → IsGate b round rest most wants ready rows s

-- gates that each have a bit for each of so many heads
abbrev pub GrantEach : Built → ℕ → List Serving → Type 0
GrantEach b count servings = AllAt (λ k (s : Serving). IsWanted b count s.grants) servings

-- a wire tells whether one of some gates takes the head with a number
pub record TellsTaken (b : Built) (servings : List Serving) (head : ℕ) (w : Wire) : Type 0 where
  pub bit : IsBit b w
  pub tells : Tells b w (λ v. list_any (λ (s : Serving). high v (slice_index_or s.grants head no_wire)) servings)
