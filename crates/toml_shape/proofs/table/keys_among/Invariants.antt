use Rattle.std.proofs.Common.{◌≡◌, map}
use Rattle.toml.specs.View.{members_view, table_view}
use Rattle.toml_shape.specs.Shapes as spec
use Rattle.toml_shape.proofs.table.keys_among.Given as goal

abbrev pub invariant-loop-key : goal.invariant-loop-key
invariant-loop-key l = spec.keys_among (map (λ k. k.now) l.keys) (members_view l.key-iterator) ≡ spec.keys_among (map (λ k. k.now) l.keys) (table_view l.table)
