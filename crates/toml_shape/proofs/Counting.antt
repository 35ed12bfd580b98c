-- How many items an array has.
use Rattle.std.proofs.Common.{ℕ, ◌≡◌, ◌+◌, List, [], ◌∷◌, length, refl, sym, ◌∙◌, ap, arith}
use Rattle.toml.specs.declared.value.Value.{Value}
use Rattle.toml.specs.Data.{Items}
use Rattle.toml.specs.View.{items_view}
use Rattle.toml_shape.specs.Entries.{count}

pub count-items_view : (values : List Value) → count (items_view values) ≡ length values
count-items_view [] = refl
count-items_view (v ∷ values) = let rest : count (items_view values) ≡ length values = count-items_view values in omega arith

-- counted behind others
pub count_behind : (before before' : ℕ) (values : List Value) (ds : Items) → before ≡ before' → items_view values ≡ ds → before + length values ≡ before' + count ds
count_behind before before' values ds b e = let n : length values ≡ count ds = sym (count-items_view values) ∙ ap count e in omega arith
