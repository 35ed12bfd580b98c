-- Whether what is built for a node fits the ports of its edges: it can carry what they agree on.
use Rattle.std.specs.Prelude.{ℕ, List, [], ◌∷◌, map, length, Bool, false, ◌&&◌, ◌==◌, nat_lt, nat_le, cond, Option, Some, None, slice_get, unwrap_or}
use Rattle.std.specs.List.{list_all, flat_map}
use Rattle.dip_sets.specs.SizeRanges.{size_range}
use Rattle.tl_params.specs.Operations.{is_nexus}
use Rattle.tl_params.specs.declared.ops.Template.{Template}
use Rattle.tl_params.specs.declared.ops.Template.TheVariants.{Buffer, Width, Fragmenter, Shrinker, Xbar}
use Rattle.tl_params.specs.declared.ports.Master.{Master}
use Rattle.tl_params.specs.declared.ports.DownPort.{DownPort}
use Rattle.tl_params.specs.declared.ports.UpPort.{UpPort}
use Rattle.tl_params.specs.Carried.{all_zip, slaves_fit}
use Rattle.tl_params.specs.declared.arguments.Fragments.{Fragments}
use Rattle.tl_params.specs.Arguments.{is_width, fragment_arguments, shrink_argument}
use Rattle.tl_rules.specs.Crossbars.{id_count, is_id_count, input_ranges, joined_masters}

-- ---- ids: those of both edges, in order

-- two masters have the same ids
abbrev pub has_same_ids : Master → Master → Bool
has_same_ids a b = a.ids.start == b.ids.start && a.ids.end == b.ids.end

-- masters have the same ids as others, in the same order
abbrev pub same_ids : List Master → List Master → Bool
same_ids masters others = all_zip has_same_ids masters others

-- one master, with so many ids from 0 on
abbrev pub has_only_ids : ℕ → List Master → Bool
has_only_ids ids [] = false
has_only_ids ids (m ∷ []) = m.ids.start == 0 && m.ids.end == ids
has_only_ids ids (m ∷ other ∷ more) = false

-- ---- the edges on both sides

-- the ports of an edge
pub record EdgePorts : Type 0 where
  pub down : DownPort
  pub up : UpPort

-- the ports of an edge, of their parts
abbrev pub edge_ports : DownPort → UpPort → EdgePorts
edge_ports down up = record { down = down; up = up }

-- a fragmenter between an in edge and an out edge, if its arguments are right: its pieces have at least the bytes of
-- one beat
abbrev pub fragments_fit : Option Fragments → EdgePorts → EdgePorts → Bool
fragments_fit None above below = false
fragments_fit (Some fragments) above below =
    slaves_fit (Some (size_range 1 fragments.piece)) above.up.slaves below.up.slaves
    && same_ids above.down.masters below.down.masters
    && above.up.beat == below.up.beat
    && nat_le below.up.beat fragments.piece

-- a shrinker between them, if its argument is right
abbrev pub shrinks_fit : Option ℕ → EdgePorts → EdgePorts → Bool
shrinks_fit None above below = false
shrinks_fit (Some ids) above below =
    slaves_fit None above.up.slaves below.up.slaves
    && has_only_ids ids below.down.masters
    && above.up.beat == below.up.beat

-- what is built from a template between them, which is never a crossbar
abbrev pub adapter_fits : Template → List ℕ → EdgePorts → EdgePorts → Bool
adapter_fits Buffer args above below =
    slaves_fit None above.up.slaves below.up.slaves
    && same_ids above.down.masters below.down.masters
    && above.up.beat == below.up.beat
adapter_fits Width args above below =
    slaves_fit None above.up.slaves below.up.slaves
    && same_ids above.down.masters below.down.masters
    && is_width above.up.beat
    && is_width below.up.beat
adapter_fits Fragmenter args above below = fragments_fit (fragment_arguments args) above below
adapter_fits Shrinker args above below = shrinks_fit (shrink_argument args) above below
adapter_fits Xbar args above below = false

-- each input of a crossbar shows the slaves of all outputs in order
abbrev pub inputs_fit : List UpPort → List UpPort → Bool
inputs_fit ins outs =
    list_all (λ input. slaves_fit None input.slaves (flat_map (λ output. output.slaves) outs)) ins

-- each output has the ids of all inputs in order, moved as the crossbar moves them; it can move 1 to 1,024 ids of at
-- most 1,024 inputs
abbrev pub outputs_fit : List DownPort → List DownPort → Bool
outputs_fit ins outs =
    nat_le (length ins) 1024
    && list_all (λ input. is_id_count (id_count input)) ins
    && list_all (λ output. same_ids (joined_masters ins (input_ranges ins)) output.masters) outs

-- ---- by the numbers of edges

-- edges that have ports
abbrev pub are_edges : List DownPort → List UpPort → List ℕ → Bool
are_edges down up edges = list_all (λ edge. nat_lt edge (length down) && nat_lt edge (length up)) edges

-- what goes down an edge, no masters where it has no ports
abbrev pub port_down : List DownPort → ℕ → DownPort
port_down down edge = unwrap_or (slice_get down edge) (record { masters = [] })

-- what goes up an edge, no slaves where it has no ports
abbrev pub port_up : List UpPort → ℕ → UpPort
port_up up edge = unwrap_or (slice_get up edge) (record { slaves = []; beat = 0 })

-- both
abbrev pub ports_at : List DownPort → List UpPort → ℕ → EdgePorts
ports_at down up edge = edge_ports (port_down down edge) (port_up up edge)

-- an adapter has as many out edges as in edges, and stands between each two of them; a crossbar between all
abbrev pub template_fits : Template → List ℕ → List ℕ → List ℕ → List DownPort → List UpPort → Bool
template_fits template args ins outs down up =
    cond (is_nexus template)
    (
    inputs_fit (map (port_up up) ins) (map (port_up up) outs)
    && outputs_fit (map (port_down down) ins) (map (port_down down) outs)
    )
    (all_zip (λ above below. adapter_fits template args (ports_at down up above) (ports_at down up below)) ins outs)

-- what is built for a node fits the ports of its edges, which all have ports
abbrev pub fits : Template → List ℕ → List ℕ → List ℕ → List DownPort → List UpPort → Bool
fits template args ins outs down up =
    are_edges down up ins && are_edges down up outs && template_fits template args ins outs down up
