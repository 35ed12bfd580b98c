use Rattle.std.proofs.Common.{◌≡◌, ◌∙◌, List, ap, sym, refl, length, arith, Some}
use Rattle.toml.specs.Data.{Members}
use Rattle.toml.specs.View.{table_view}
use Rattle.dip_graph.specs.declared.design.ModuleEntry.{ModuleEntry}
use Rattle.dip_graph.specs.declared.design.NodeEntry.{NodeEntry}
use Rattle.dip_graph.specs.declared.design.BindEntry.{BindEntry}
use Rattle.soc_design.specs.declared.limits.Heading.{Heading}
use Rattle.soc_design.specs.Stated.{bind_of}
use Rattle.soc_design.specs.Reading.{nodes_in, binds_in, module_names, stated_modules, stated_nodes, stated_binds, design_with}
use Rattle.soc_design.proofs.Counting.{count-names_at}
use Rattle.soc_design.proofs.names.named_design.Goals as goal
use Rattle.toml_shape.specs.Entries.{all_of, count}

joined : (ms : Members) (heading : Heading) (modules : List ModuleEntry) (nodes : List NodeEntry) (binds : List BindEntry)
    → stated_modules heading.name ms ≡ Some modules → stated_nodes (module_names heading.name ms) ms ≡ Some nodes → stated_binds ms ≡ Some binds
    → design_with ms heading ≡ Some (record { name = heading.name; policy = heading.policy; modules = modules; nodes = nodes; binds = binds })
joined ms heading modules nodes binds m n b = rw (m, n, b) refl

pub stated_binds-requires : goal.stated_binds-requires
stated_binds-requires c =
    let n : length c.in_ok-named.named.names ≡ count (nodes_in (table_view c.args.table.now)) =
    ap length c.in_ok-named.ensures.names ∙ count-names_at (nodes_in (table_view c.args.table.now)) in
    omega arith

pub returns-clause-ok : goal.returns-clause-ok
returns-clause-ok c =
    let ms = table_view c.args.table.now in
    joined ms c.args.file.heading _ _ _
    c.in_ok-modules.ensures.tree
    (ap (λ names. stated_nodes names ms) (sym c.in_ok-modules.ensures.names) ∙ c.in_ok-named.ensures.nodes)
    (ap (λ names. all_of (bind_of names) (binds_in ms)) (sym c.in_ok-named.ensures.names) ∙ c.in_ok-binds.ensures.ok)

pub returns-clause-modules : goal.returns-clause-modules
returns-clause-modules c =
    let m : length c.in_ok-modules.modules.tree ≡ length c.in_ok-modules.modules.names = c.in_ok-modules.ensures.counted in
    omega (arith, m, c.in_ok-modules.ensures.few)
