use Rattle.std.proofs.Common.{◌≡◌, ◌<◌, ◌≤◌, List, [], ◌∷◌, length, None, refl, arith}
use Rattle.toml.specs.declared.value.Value.{Value}
use Rattle.toml.specs.View.{items_view}
use Rattle.toml_shape.specs.Shapes.{pair_of_items}
use Rattle.toml_shape.proofs.value.pair_of_items.Goals as goal

fewer : (values : List Value) → length values < 2 → None ≡ pair_of_items (items_view values)
fewer [] h = refl
fewer (v ∷ []) h = refl
fewer (v ∷ w ∷ values) h = absurd (omega arith)

more : (values : List Value) → 3 ≤ length values → None ≡ pair_of_items (items_view values)
more [] h = absurd (omega arith)
more (v ∷ []) h = absurd (omega arith)
more (v ∷ w ∷ []) h = absurd (omega arith)
more (v ∷ w ∷ x ∷ values) h = refl

pub returns-in_default : goal.returns-in_default
returns-in_default c = fewer c.args.items.now c.in_default.len_below

pub returns-in_default-2 : goal.returns-in_default-2
returns-in_default-2 c = more c.args.items.now c.in_default.len_at_least
