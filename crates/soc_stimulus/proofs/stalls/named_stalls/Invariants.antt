use Rattle.std.proofs.Common.{◌≡◌, ◌+◌, ◌++◌, drop}
use Rattle.std.specs.Option.{option_map}
use Rattle.toml.specs.View.{items_view}
use Rattle.dip_lists.specs.First.{first}
use Rattle.toml_shape.specs.Entries.{all_of, failing}
use Rattle.soc_stimulus.specs.Stalls as spec
use Rattle.soc_stimulus.proofs.stalls.named_stalls.Given as goal

abbrev pub invariant-loop-place : goal.invariant-loop-place
invariant-loop-place l =
    record {
      stated : option_map (λ rest. l.stated ++ rest) (all_of (spec.stall_of l.names l.sources l.sinks) (items_view (drop l.place l.tables)))
          ≡ all_of (spec.stall_of l.names l.sources l.sinks) (items_view l.tables);
      passes : first (failing (spec.stall_is_unnamed l.names l.sources l.sinks) l.place (l.entry + l.place) (items_view (drop l.place l.tables)))
          ≡ first (failing (spec.stall_is_unnamed l.names l.sources l.sinks) 0 l.entry (items_view l.tables));
    }
