use Rattle.std.proofs.Common.{◌≡◌, map, drop}
use Rattle.std.specs.List.{list_any}
use Rattle.std.specs.Str.{bytes_eq}
use Rattle.toml_shape.proofs.table.is_among.Given as goal

abbrev pub invariant-loop-one : goal.invariant-loop-one
invariant-loop-one l =
    list_any (bytes_eq l.key) (map (λ k. k.now) (drop l.one-index l.keys)) ≡ list_any (bytes_eq l.key) (map (λ k. k.now) l.keys)
