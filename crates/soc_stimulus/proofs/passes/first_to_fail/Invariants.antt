use Rattle.std.proofs.Common.{◌≡◌, ◌+◌, drop}
use Rattle.toml.specs.View.{items_view}
use Rattle.dip_lists.specs.First.{first}
use Rattle.toml_shape.specs.Entries.{failing}
use Rattle.soc_stimulus.specs.Entries.{table_fails}
use Rattle.soc_stimulus.proofs.passes.first_to_fail.Given as goal

abbrev pub invariant-loop-place : goal.invariant-loop-place
invariant-loop-place l =
    first (failing (table_fails l.pass l.part) l.place (l.entry + l.place) (items_view (drop l.place l.tables)))
    ≡ first (failing (table_fails l.pass l.part) 0 l.entry (items_view l.tables))
