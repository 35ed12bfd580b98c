use Rattle.std.proofs.Common.{◌≡◌, ◌≤◌, ◌+◌, ◌∷◌, ◌++◌, drop, take, length}
use Rattle.std.specs.Option.{option_map}
use Rattle.toml.specs.View.{table_view, items_view}
use Rattle.dip_lists.specs.First.{first}
use Rattle.soc_design.specs.Stated.{module_at, names_at}
use Rattle.soc_design.specs.Reading.{module_is_unnamed, stated_modules, unnamed_modules_in}
use Rattle.soc_design.proofs.names.stated_modules.Given as goal
use Rattle.toml_shape.specs.Entries.{each_of, failing}

abbrev pub invariant-loop-place : goal.invariant-loop-place
invariant-loop-place l =
    record {
      few : length l.modules ≤ 255;
      named : l.names ≡ l.top ∷ take l.place (names_at (items_view l.modules));
      counted : length l.names ≡ l.place + 1;
      tree_counted : length l.tree ≡ l.place + 1;
      stated :
          option_map (λ rest. l.tree ++ rest) (each_of (module_at l.top (names_at (items_view l.modules))) l.place (items_view (drop l.place l.modules)))
          ≡ stated_modules l.top (table_view l.table);
      passes :
          first (failing (module_is_unnamed l.top (names_at (items_view l.modules))) l.place (1 + l.place) (items_view (drop l.place l.modules)))
          ≡ first (unnamed_modules_in l.top (table_view l.table));
    }
