-- Address sets in a row, each before the next one, and slaves among others.
use Rattle.std.specs.Prelude.{◌+◌, ◌<◌, ◌≡◌, ◌⊎◌, List, [], ◌∷◌}
use Rattle.dip_sets.specs.Sets.{Pattern, IsSet}

-- all addresses of the one set are below those of the other
pub record EndsBefore (s t : Pattern) : Type 0 where
  pub set : IsSet s
  pub other : IsSet t
  pub before : s.base + s.mask < t.base

-- some items stand among others, in the same order
abbrev pub StandAmong : {A : Type 0} → List A → List A → Type 0
StandAmong [] others = Unit {0}
StandAmong (x ∷ xs) [] = ⊥
StandAmong (x ∷ xs) (y ∷ others) = ((x ≡ y) × StandAmong xs others) ⊎ StandAmong (x ∷ xs) others
