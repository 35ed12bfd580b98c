-- Registers that are driven in the order of their opening. Only what isn't public cites it.
use Rattle.std.specs.Prelude.{◌≡◌, ℕ, List, length, take, drop}
use Rattle.net_build.specs.declared.types.Wire.{Wire}
use Rattle.net_build.specs.Built.{Built, inputs, undriven}
use Rattle.net_build.specs.Registers.{numbers}
use Rattle.net_build.specs.Values.{Later}

-- the first of the registers that aren't driven yet
pub record WaitFirst (b : Built) (registers : List Wire) : Type 0 where
  pub are : take (length registers) (undriven b) ≡ numbers registers

-- A later builder without further ports, in which so many of the first registers that weren't driven are.
pub record DrivesFirst (old new : Built) (count : ℕ) : Type 0 where
  pub later : Later old new
  pub inputs : inputs new ≡ inputs old
  pub outputs : new.outputs ≡ old.outputs
  pub undriven : undriven new ≡ drop count (undriven old)
