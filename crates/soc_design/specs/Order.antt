-- What the answered failure of a file means.
use Rattle.std.specs.Prelude.{ℕ, ◌≡◌, List, Some, None}
use Rattle.dip_lists.specs.First.{Failure, first_failing}
use Rattle.dip_lists.specs.FirstLaw.{Fails, AreInOrder, IsFirstFailure}
use Rattle.soc_design.specs.Reading.{file_checks}

-- The checks 1 to 4 of every file stand in the order of their numbers, and those of one number in the order of their
-- entries. So the failure that is answered has the lowest number of all that fail, and of these the lowest entry; and
-- where none is answered, nothing fails.
pub record FileOrderLaw : Type 0 where
  pub ordered : (bytes : List ℕ) → AreInOrder (file_checks bytes)
  pub some : (bytes : List ℕ) (failure : Failure) → first_failing (file_checks bytes) ≡ Some failure
      → IsFirstFailure (file_checks bytes) failure
  pub none : (bytes : List ℕ) (failure : Failure) → first_failing (file_checks bytes) ≡ None
      → Fails (file_checks bytes) failure → ⊥
