use Rattle.std.proofs.Common.{◌≡◌, ◌+◌, ◌++◌, Some, drop, take, length}
use Rattle.std.specs.Option.{option_map}
use Rattle.std.specs.Vec.Iter.{into_iter_items, into_iter_len}
use Rattle.toml.specs.View.{table_view, items_view}
use Rattle.dip_lists.specs.First.{first}
use Rattle.soc_design.specs.Stated.{node_of, placed_node, names_at}
use Rattle.soc_design.specs.Reading.{node_is_unnamed, stated_nodes, unnamed_nodes_in}
use Rattle.soc_design.proofs.names.stated_nodes.Given as goal
use Rattle.toml_shape.specs.Entries.{all_of, failing}

abbrev pub invariant-loop-place : goal.invariant-loop-place
invariant-loop-place l =
    record {
      left : all_of node_of (items_view (drop l.place l.tables)) ≡ Some (into_iter_items l.limited);
      remaining : into_iter_len l.limited + l.place ≡ length l.tables;
      named : l.names ≡ take l.place (names_at (items_view l.tables));
      counted : length l.nodes ≡ l.place;
      stated :
          option_map (λ rest. l.nodes ++ rest) (all_of (placed_node l.modules) (items_view (drop l.place l.tables)))
          ≡ stated_nodes l.modules (table_view l.table);
      passes :
          first (failing (node_is_unnamed l.modules (names_at (items_view l.tables))) l.place (l.entry + l.place) (items_view (drop l.place l.tables)))
          ≡ first (unnamed_nodes_in l.modules (table_view l.table));
    }
