use Rattle.std.proofs.Common.{◌≡◌, ◌++◌, drop}
use Rattle.std.specs.Option.{option_map}
use Rattle.toml.specs.View.{items_view}
use Rattle.soc_design.specs.Stated as spec
use Rattle.toml_shape.specs.Entries.{all_of}
use Rattle.soc_design.proofs.nodes.sets_in.Given as goal

abbrev pub invariant-loop-item : goal.invariant-loop-item
invariant-loop-item l = option_map (λ rest. l.sets ++ rest) (all_of spec.set_of (items_view (drop l.item-index l.items))) ≡ all_of spec.set_of (items_view l.items)
