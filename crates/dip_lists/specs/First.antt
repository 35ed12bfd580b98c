-- The first failing check: checks are tried in their order, and within one check its subjects in theirs.
use Rattle.std.specs.Prelude.{ℕ, List, [], ◌∷◌, Bool, cond, ◌+◌, Option, Some, None}
use Rattle.std.specs.Option.{option_map, option_or}

-- a check by its number, with the subjects at which it fails, in the order in which they are tried
pub record Check : Type 0 where
  pub number : ℕ
  pub failing : List ℕ

-- the check with this number and these failing subjects
abbrev pub check : ℕ → List ℕ → Check
check number subjects = record { number = number; failing = subjects }

-- a check that fails, and where
pub record Failure : Type 0 where
  pub number : ℕ
  pub subject : ℕ

-- the first of some subjects, if there is one
abbrev pub first : List ℕ → Option ℕ
first [] = None
first (subject ∷ subjects) = Some subject

-- the failure of a check with this number at this subject
abbrev pub failure_of : ℕ → ℕ → Failure
failure_of number subject = record { number = number; subject = subject }

-- the first failure of some checks: that of the first check that fails, at the first subject at which it does
abbrev pub first_failing : List Check → Option Failure
first_failing [] = None
first_failing (c ∷ checks) = option_or (option_map (failure_of c.number) (first c.failing)) (first_failing checks)

-- the subjects, counted from a first one, at which a test fails; the test sees a subject's number and the item itself
abbrev pub places : {A : Type 0} → (ℕ → A → Bool) → ℕ → List A → List ℕ
places fails subject [] = []
places fails subject (x ∷ xs) =
    cond (fails subject x) (subject ∷ places fails (subject + 1) xs) (places fails (subject + 1) xs)
