-- What the first failing check means: of all failures it is the one that comes before the others.
use Rattle.std.specs.Prelude.{ℕ, ◌≡◌, ◌<◌, ◌⊎◌, List, All, AllPairs, Contains, Some, None}
use Rattle.dip_lists.specs.First.{Check, Failure, first_failing}

-- a check of the list has this number, and fails at this subject
pub record Fails (checks : List Check) (failure : Failure) : Type 0 where
  pub check : Check
  pub listed : Contains checks check
  pub number : check.number ≡ failure.number
  pub subject : Contains check.failing failure.subject

-- a failure comes before another one: its number is lower, or the numbers are equal and its subject is lower
abbrev pub IsBefore : Failure → Failure → Type 0
IsBefore a b = (a.number < b.number) ⊎ ((a.number ≡ b.number) × (a.subject < b.subject))

-- a check comes before another one: its number is lower, or the numbers are equal and all of its failing subjects are
-- lower
abbrev pub Precedes : Check → Check → Type 0
Precedes a b =
    (a.number < b.number)
    ⊎ ((a.number ≡ b.number)
    × ((subject later : ℕ) → Contains a.failing subject → Contains b.failing later → subject < later))

-- the subjects at which a check fails rise
abbrev pub HasRisingSubjects : Check → Type 0
HasRisingSubjects check = AllPairs (λ subject later. subject < later) check.failing

-- checks in the order of their numbers, each with its failing subjects in order
pub record AreInOrder (checks : List Check) : Type 0 where
  pub ordered : AllPairs Precedes checks
  pub rising : All HasRisingSubjects checks

-- it fails, and no other failure comes before it
pub record IsFirstFailure (checks : List Check) (failure : Failure) : Type 0 where
  pub fails : Fails checks failure
  pub least : (other : Failure) → Fails checks other → IsBefore other failure → ⊥

-- where `first_failing` answers a failure, that one is the first; where it answers none, nothing fails
pub record FirstLaw : Type 0 where
  pub some : (checks : List Check) (failure : Failure) → AreInOrder checks → first_failing checks ≡ Some failure
      → IsFirstFailure checks failure
  pub none : (checks : List Check) (failure : Failure) → first_failing checks ≡ None → Fails checks failure → ⊥
