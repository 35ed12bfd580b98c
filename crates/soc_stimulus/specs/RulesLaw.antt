-- What the answered failure of a stimulus file means.
use Rattle.std.specs.Prelude.{ℕ, ◌≡◌, ◌<◌, ◌≤◌, ◌⊎◌, List, Some, None}
use Rattle.dip_lists.specs.First.{Failure, first_failing}
use Rattle.dip_lists.specs.FirstLaw.{Fails}
use Rattle.tl_params.specs.declared.ports.DownPort.{DownPort}
use Rattle.tl_params.specs.declared.ports.UpPort.{UpPort}
use Rattle.tl_edge.specs.declared.plan.Plan.{Plan}
use Rattle.soc_stimulus.specs.Reading.{stimulus_rules}

-- the rules 1, 2 and 3, each of which is asked of all entries before the next one
abbrev pub IsEarly : Failure → Type 0
IsEarly failure = failure.number ≤ 3

-- the rules 4 to 9, all of which are asked of an entry before the next one
abbrev pub IsLate : Failure → Type 0
IsLate failure = 4 ≤ failure.number

-- the lower rule goes first, and of one rule the lower entry
abbrev pub HasLowerRule : Failure → Failure → Type 0
HasLowerRule a b = (a.number < b.number) ⊎ ((a.number ≡ b.number) × (a.subject < b.subject))

-- the lower entry goes first, and of one entry the lower rule
abbrev pub HasLowerEntry : Failure → Failure → Type 0
HasLowerEntry a b = (a.subject < b.subject) ⊎ ((a.subject ≡ b.subject) × (a.number < b.number))

-- A failure is asked for before another one: rule by rule up to rule 3, and then entry by entry.
abbrev pub IsAskedBefore : Failure → Failure → Type 0
IsAskedBefore a b = (IsEarly a × HasLowerRule a b) ⊎ (IsLate a × IsLate b × HasLowerEntry a b)

-- The failure that is answered is one of the file, and none of the file is asked for before it. Where none is answered,
-- nothing fails.
pub record RulesLaw : Type 0 where
  pub fails : (names : List (List ℕ)) (plan : Plan) (downs : List DownPort) (ups : List UpPort) (bytes : List ℕ)
      (failure : Failure) → first_failing (stimulus_rules names plan downs ups bytes) ≡ Some failure
      → Fails (stimulus_rules names plan downs ups bytes) failure
  pub least : (names : List (List ℕ)) (plan : Plan) (downs : List DownPort) (ups : List UpPort) (bytes : List ℕ)
      (failure other : Failure) → first_failing (stimulus_rules names plan downs ups bytes) ≡ Some failure
      → Fails (stimulus_rules names plan downs ups bytes) other → IsAskedBefore other failure → ⊥
  pub none : (names : List (List ℕ)) (plan : Plan) (downs : List DownPort) (ups : List UpPort) (bytes : List ℕ)
      (failure : Failure) → first_failing (stimulus_rules names plan downs ups bytes) ≡ None
      → Fails (stimulus_rules names plan downs ups bytes) failure → ⊥
