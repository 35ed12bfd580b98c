use Rattle.std.proofs.Common.{◌≡◌, ◌+◌, ◌≤◌, ◌++◌, drop, length}
use Rattle.std.specs.Option.{option_map}
use Rattle.toml.specs.View.{items_view}
use Rattle.dip_lists.specs.First.{first}
use Rattle.soc_design.specs.Stated as spec
use Rattle.soc_design.specs.Reading.{node_is_beyond}
use Rattle.soc_design.proofs.limits.limited_nodes.Given as goal
use Rattle.toml_shape.specs.Entries.{all_of, failing}

abbrev pub invariant-loop-place : goal.invariant-loop-place
invariant-loop-place l =
    record {
      few : l.place ≤ 256;
      counted : length l.stated ≡ l.place;
      stated : option_map (λ rest. l.stated ++ rest) (all_of spec.node_of (items_view (drop l.place l.nodes))) ≡ all_of spec.node_of (items_view l.nodes);
      passes : first (failing node_is_beyond l.place (l.entry + l.place) (items_view (drop l.place l.nodes))) ≡ first (failing node_is_beyond 0 l.entry (items_view l.nodes));
    }
