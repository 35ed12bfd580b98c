-- Numbers under names. Only what isn't public cites the last two.
use Rattle.std.specs.Prelude.{ℕ, List, [], ◌∷◌, Bool, true, ◌&&◌, not, is_some, Option, Some, Vec, map}
use Rattle.std.specs.declared.alloc.Global.{Global}
use Rattle.std.specs.Map.{lookup, update}
use Rattle.std.specs.Str.{bytes_eq}
use Rattle.std.specs.BTreeMap.{BTreeMap}

-- the same numbers, but this one under this name
abbrev pub with_number : (List ℕ → Option ℕ) → List ℕ → ℕ → List ℕ → Option ℕ
with_number numbers name number = update bytes_eq numbers name (Some number)

-- the names of a map with their numbers
abbrev pub names_with_numbers : BTreeMap (Vec ℕ Global) ℕ → List (List ℕ × ℕ)
names_with_numbers numbers = map (λ (e : Vec ℕ Global × ℕ). (e.0.items, e.1)) numbers.entries

-- the number under a name
abbrev pub number_in : List (List ℕ × ℕ) → List ℕ → Option ℕ
number_in entries name = lookup (bytes_eq name) entries

-- these numbers, but 0 under each of these names
abbrev pub with_names : (List ℕ → Option ℕ) → List (List ℕ) → List ℕ → Option ℕ
with_names numbers [] = numbers
with_names numbers (name ∷ names) = with_names (with_number numbers name 0) names

-- no name has a number, and none is one of those before it
abbrev pub are_new : (List ℕ → Option ℕ) → List (List ℕ) → Bool
are_new numbers [] = true
are_new numbers (name ∷ names) = not (is_some (numbers name)) && are_new (with_number numbers name 0) names
