-- What the check means that a refusal names: of all that a file fails it is the first.
use Rattle.std.specs.Prelude.{ℕ, ◌≡◌, List, Option, Some, None}
use Rattle.dip_lists.specs.First.{Check, Failure}
use Rattle.dip_lists.specs.FirstLaw.{Fails, AreInOrder, IsFirstFailure}
use Rattle.dip_rule.specs.Stated.{StatedRule}
use Rattle.soc_top.specs.Designs.{all_checks, first_failure}
use Rattle.soc_top.specs.Netlists.{checks_to_build, build_failure}

-- Checks of every file, by every list of rules, stand in the order of their numbers, each with rising subjects. So the
-- failure that is found has the lowest number of all, and of these the lowest subject; and where none is found, nothing
-- fails.
pub record FindsFirst (checks : List StatedRule → List ℕ → List Check)
    (found : List StatedRule → List ℕ → Option Failure) : Type 0 where
  pub ordered : (rules : List StatedRule) (bytes : List ℕ) → AreInOrder (checks rules bytes)
  pub some : (rules : List StatedRule) (bytes : List ℕ) (failure : Failure)
      → found rules bytes ≡ Some failure → IsFirstFailure (checks rules bytes) failure
  pub none : (rules : List StatedRule) (bytes : List ℕ) (failure : Failure)
      → found rules bytes ≡ None → Fails (checks rules bytes) failure → ⊥

-- So it is with the checks 1 to 18 of `map` and the checks 1 to 19 of `verilog`. Check 11, and 12 likewise, lists one
-- node alone: the first in the order of that pass.
pub record FirstOfAllLaw : Type 0 where
  pub map : FindsFirst all_checks first_failure
  pub verilog : FindsFirst checks_to_build build_failure
