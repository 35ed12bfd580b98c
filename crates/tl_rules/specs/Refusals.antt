-- The two refusals of the standard rules: 1 for wrong arguments, and after it 2 for ports that a rule can't use.
use Rattle.std.specs.Prelude.{ℕ, List, [], ◌∷◌, Option, Some, None, Result, Err}

-- the only one of some ports
abbrev pub only : {P : Type 0} → List P → Option P
only [] = None
only (port ∷ []) = Some port
only (port ∷ other ∷ more) = None

-- without right arguments 1 is refused
abbrev pub with_arguments : {A P : Type 0} → Option A → (A → Result P ℕ) → Result P ℕ
with_arguments None answer = Err 1
with_arguments (Some value) answer = answer value

-- without a port that the rule can use 2 is refused
abbrev pub with_port : {A P : Type 0} → Option A → (A → Result P ℕ) → Result P ℕ
with_port None answer = Err 2
with_port (Some port) answer = answer port
