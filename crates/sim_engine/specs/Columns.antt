-- Steps in columns, and the runs of one operator among them. Only functions that aren't public cite it.
use Rattle.std.specs.Prelude.{◌≡◌, ℕ, ◌+◌, ◌<◌, ◌≤◌, List, [], ◌∷◌, length, map, slice_index, slice_index_or, All}
use Rattle.sim_engine.specs.declared.steps.Kind.{Kind}
use Rattle.sim_engine.specs.declared.steps.Kind.TheVariants.{Const}
use Rattle.sim_engine.specs.declared.steps.Step.{Step}
use Rattle.sim_engine.specs.declared.columns.Columns.{Columns}
use Rattle.sim_engine.specs.declared.runs.Run.{Run}
use Rattle.sim_engine.specs.Steps.{IsAmong}

-- these are the columns of some steps
pub record AreColumns (c : Columns) (steps : List Step) : Type 0 where
  pub x : c.x.items ≡ map (λ (s : Step). s.x) steps
  pub y : c.y.items ≡ map (λ (s : Step). s.y) steps
  pub z : c.z.items ≡ map (λ (s : Step). s.z) steps
  pub shift : c.shift.items ≡ map (λ (s : Step). s.shift) steps
  pub short : c.short.items ≡ map (λ (s : Step). s.short) steps
  pub kind : c.kind.items ≡ map (λ (s : Step). s.kind) steps

-- the operator in a row
abbrev pub kind_in : List Kind → ℕ → Kind
kind_in kinds row = slice_index_or kinds row Const

-- the step in a row
abbrev pub step_in : Columns → ℕ → Step
step_in c row = record {
  x = slice_index c.x.items row;
  y = slice_index c.y.items row;
  z = slice_index c.z.items row;
  shift = slice_index c.shift.items row;
  short = slice_index c.short.items row;
  kind = kind_in c.kind.items row;
}

-- the step in a row of a list
abbrev pub step_of : List Step → ℕ → Step
step_of steps row =
    slice_index_or steps row (record { x = 0; y = 0; z = 0; shift = 0; short = 0; kind = Const })

-- steps can be evaluated among so many values, where the value of the first is put at this place
pub record CanEvaluate (steps : List Step) (first many : ℕ) : Type 0 where
  pub room : first + length steps ≤ many
  pub among : All (IsAmong many) steps

-- the operators from one row up to another are the same
abbrev pub HaveKind : List Kind → ℕ → ℕ → Kind → Type 0
HaveKind kinds from until kind = (row : ℕ) → from ≤ row → row < until → kind_in kinds row ≡ kind

-- from a row on, the runs part the rows into those with one operator
abbrev pub AreRuns : List Kind → ℕ → List Run → Type 0
AreRuns kinds from [] = from ≡ length kinds
AreRuns kinds from (run ∷ runs) =
    (from ≤ run.until) × (run.until ≤ length kinds) × HaveKind kinds from run.until run.kind
    × AreRuns kinds run.until runs

-- The rows can be evaluated among so many values, where the value of row 0 is put at this place.
pub record CanRun (c : Columns) (first many : ℕ) : Type 0 where
  pub x : length c.x.items ≡ length c.kind.items
  pub y : length c.y.items ≡ length c.kind.items
  pub z : length c.z.items ≡ length c.kind.items
  pub shift : length c.shift.items ≡ length c.kind.items
  pub short : length c.short.items ≡ length c.kind.items
  pub room : first + length c.kind.items ≤ many
  pub among : (row : ℕ) → row < length c.kind.items → IsAmong many (step_in c row)
