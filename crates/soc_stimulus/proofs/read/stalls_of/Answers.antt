use Rattle.std.proofs.Common.{ℕ, ◌≡◌, ◌∙◌, List, Some, ap, subst}
use Rattle.std.specs.Prelude.{Result, IfOk}
use Rattle.toml.specs.Data.{Items, Members}
use Rattle.toml.specs.View.{table_view, items_view}
use Rattle.toml_shape.specs.Entries.{all_of}
use Rattle.dip_graph.specs.declared.fault.Fault.{Fault}
use Rattle.sim_ports.specs.declared.stimulus.Stall.{Stall}
use Rattle.tl_edge.specs.declared.plan.Plan.{Plan}
use Rattle.tl_edge.specs.declared.plan.PlanPort.{PlanPort}
use Rattle.soc_stimulus.specs.Entries.{stalls_in}
use Rattle.soc_stimulus.specs.Reading.{stated_stalls}
use Rattle.soc_stimulus.specs.Stalls.{stall_of}
use Rattle.soc_stimulus.proofs.read.stalls_of.Goals as goal

stalls_are : (names : List (List ℕ)) (plan : Plan) (ms : Members) (sources sinks : List PlanPort) (ds : Items) (result : Result (List Stall) Fault)
    → sources ≡ plan.sources → sinks ≡ plan.sinks → ds ≡ stalls_in ms
    → IfOk result (λ stalls. all_of (stall_of names sources sinks) ds ≡ Some stalls)
    → IfOk result (λ stalls. stated_stalls names plan ms ≡ Some stalls)
stalls_are names plan ms sources sinks ds result s k d h =
    subst (λ found. IfOk result (λ stalls. found ≡ Some stalls))
    (ap (λ xs. all_of (stall_of names xs sinks) ds) s ∙ ap (λ xs. all_of (stall_of names plan.sources xs) ds) k
    ∙ ap (all_of (stall_of names plan.sources plan.sinks)) d) h

pub returns-clause-ok : goal.returns-clause-ok
returns-clause-ok c =
    stalls_are c.args.names.now c.args.plan.now (table_view c.args.table.now) c.as_slice-sources.result.now c.as_slice-sinks.result.now
    (items_view c.tables_in-tables.result.now) c.named_stalls.result c.as_slice-sources.ensures c.as_slice-sinks.ensures c.tables_in-tables.ensures c.named_stalls.ensures.ok
