-- What holds of each item of a list, with its place.
use Rattle.std.specs.Prelude.{ℕ, ◌<◌, List, length, slice_index_or}

-- so it is of each item at its place
pub record AllAt {A : Type 0} (holds : ℕ → A → Type 0) (items : List A) : Type 0 where
  pub at : (place : ℕ) (none : A) → place < length items → holds place (slice_index_or items place none)
