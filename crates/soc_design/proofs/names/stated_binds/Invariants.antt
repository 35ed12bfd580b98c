use Rattle.std.proofs.Common.{◌≡◌, ◌+◌, ◌++◌, drop, length}
use Rattle.std.specs.Option.{option_map}
use Rattle.toml.specs.View.{table_view, items_view}
use Rattle.dip_lists.specs.First.{first}
use Rattle.soc_design.specs.Stated.{bind_of}
use Rattle.soc_design.specs.Reading.{bind_is_unnamed, binds_in, unnamed_binds_in}
use Rattle.soc_design.proofs.names.stated_binds.Given as goal
use Rattle.toml_shape.specs.Entries.{all_of, failing}

abbrev pub invariant-loop-place : goal.invariant-loop-place
invariant-loop-place l =
    record {
      counted : length l.stated ≡ l.place;
      stated : option_map (λ rest. l.stated ++ rest) (all_of (bind_of l.names) (items_view (drop l.place l.tables))) ≡ all_of (bind_of l.names) (binds_in (table_view l.table));
      passes : first (failing (bind_is_unnamed l.names) l.place (l.entry + l.place) (items_view (drop l.place l.tables))) ≡ first (unnamed_binds_in l.names (table_view l.table));
    }
