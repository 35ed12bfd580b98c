use Rattle.std.proofs.Common.{◌≡◌, ◌+◌, [], drop}
use Rattle.toml.specs.View.{items_view}
use Rattle.dip_lists.specs.First.{first}
use Rattle.soc_stimulus.specs.Settings as spec
use Rattle.soc_stimulus.proofs.devices.placed_devices.Given as goal

abbrev pub invariant-loop-place : goal.invariant-loop-place
invariant-loop-place l =
    record {
      placed : spec.devices_from l.names l.sinks l.placed (items_view (drop l.place l.tables)) ≡ spec.devices_from l.names l.sinks [] (items_view l.tables);
      passes : first (spec.unnamed_devices l.names l.sinks l.placed (l.entry + l.place) (items_view (drop l.place l.tables)))
          ≡ first (spec.unnamed_devices l.names l.sinks [] l.entry (items_view l.tables));
    }
