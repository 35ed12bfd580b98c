use Rattle.std.proofs.Common.{◌<◌, ◌≡◌, ◌∙◌, length, refl, subst, sym, arith}
use Rattle.std.proofs.lemmas.List.{get_or_default}
use Rattle.tl_edge.specs.Plans.{edge_at}
use Rattle.net_build.proofs.OpenedLists.{later_same}
use Rattle.net_build.proofs.Steps.{later_later}
use Rattle.net_parts.specs.Wired.{no_edge_wires, wires_of_edge}
use Rattle.net_queue.specs.declared.types.EdgeWires.{EdgeWires}
use Rattle.net_queue.specs.Leaves.{IsEdge}
use Rattle.net_leaves.specs.OpenEdges.{all_registers, edge_registers}
use Rattle.net_joins.proofs.Closed.{fewer_closed, next_first, none_closed, one_more_closed}
use Rattle.net_joins.proofs.Found.{giver_stays, have_ends, taker_stays}
use Rattle.net_joins.proofs.Fronts.{drives_every, first_left, first_made, none_left}
use Rattle.net_joins.proofs.Reopened.{edge_open}
use Rattle.net_joins.proofs.closing.close_edges.Goals as goal

pub loop-edge-init : goal.loop-edge-init
loop-edge-init c = record {
  later = later_same _;
  no_input = refl;
  no_output = refl;
  left = c.requires.undriven;
  closed = none_closed _ _ _ _ _ _;
}

pub giver_of-requires-clause-edge : goal.giver_of-requires-clause-edge
giver_of-requires-clause-edge c = omega (arith, c.requires.edges.long, c.loop-edge-test.true)

pub giver_of-requires-clause-leaves : goal.giver_of-requires-clause-leaves
giver_of-requires-clause-leaves c = have_ends _ c.args.plan.now c.args.edges.now c.args.leaves.now c.requires.leaves

pub giver_of-requires-clause-sources : goal.giver_of-requires-clause-sources
giver_of-requires-clause-sources c = c.requires.sources.long

pub taker_of-requires-clause-edge : goal.taker_of-requires-clause-edge
taker_of-requires-clause-edge c = omega (arith, c.requires.edges.long, c.loop-edge-test.true)

pub taker_of-requires-clause-leaves : goal.taker_of-requires-clause-leaves
taker_of-requires-clause-leaves c = have_ends _ c.args.plan.now c.args.edges.now c.args.leaves.now c.requires.leaves

pub taker_of-requires-clause-sinks : goal.taker_of-requires-clause-sinks
taker_of-requires-clause-sinks c = c.requires.sinks.long

pub close_edge-requires-clause-open : goal.close_edge-requires-clause-open
close_edge-requires-clause-open c =
    let k = c.loop-edge.edge in
    let on = c.index-edges-edge.result in
    let edges = c.args.edges.now in
    let l : k < length edges = c.loop-edge-test.true in
    let e = next_first c.loop-edge.builder edges k on l c.index-edges-edge.is c.loop-edge.invariant.left in
    let same : on ≡ wires_of_edge edges k = c.index-edges-edge.is ∙ get_or_default edges k on no_edge_wires l in
    let was = c.requires.edges.each k (omega (arith, c.requires.edges.long, l)) in
    edge_open _ _ (edge_at c.args.plan.now k) on _ c.loop-edge.invariant.later e (subst (λ (x : EdgeWires). IsEdge c.args.builder.now (edge_at c.args.plan.now k) x) (sym same) was)

pub close_edge-requires-clause-first : goal.close_edge-requires-clause-first
close_edge-requires-clause-first c =
    first_made c.loop-edge.builder (edge_registers c.index-edges-edge.result) _
    (next_first c.loop-edge.builder c.args.edges.now c.loop-edge.edge c.index-edges-edge.result c.loop-edge-test.true c.index-edges-edge.is c.loop-edge.invariant.left)

pub close_edge-requires-clause-giver : goal.close_edge-requires-clause-giver
close_edge-requires-clause-giver c =
    let k = c.loop-edge.edge in
    let on = c.index-edges-edge.result in
    let edges = c.args.edges.now in
    let l : k < length edges = c.loop-edge-test.true in
    giver_stays _ _ c.args.plan.now edges c.args.leaves.now c.args.sources.now k on c.in_ok-giver.giver c.requires.sound (omega (arith, c.requires.edges.long, l)) c.requires.leaves c.requires.sources
    (c.index-edges-edge.is ∙ get_or_default edges k on no_edge_wires l) c.loop-edge.invariant.later c.in_ok-giver.ensures

pub close_edge-requires-clause-taker : goal.close_edge-requires-clause-taker
close_edge-requires-clause-taker c =
    let k = c.loop-edge.edge in
    let on = c.index-edges-edge.result in
    let edges = c.args.edges.now in
    let l : k < length edges = c.loop-edge-test.true in
    taker_stays _ _ c.args.plan.now edges c.args.leaves.now c.args.sinks.now k on c.in_ok-taker.taker c.requires.sound (omega (arith, c.requires.edges.long, l)) c.requires.leaves c.requires.sinks
    (c.index-edges-edge.is ∙ get_or_default edges k on no_edge_wires l) c.loop-edge.invariant.later c.in_ok-taker.ensures

pub loop-edge-preserved : goal.loop-edge-preserved
loop-edge-preserved c =
    let k = c.loop-edge.edge in
    let on = c.index-edges-edge.result in
    let edges = c.args.edges.now in
    let l : k < length edges = c.loop-edge-test.true in
    let i = c.loop-edge.invariant in
    let d = c.in_ok-close_edge.ensures.drives in
    record {
      later = later_later _ _ _ i.later d.later;
      no_input = d.inputs ∙ i.no_input;
      no_output = d.outputs ∙ i.no_output;
      left = d.undriven ∙ first_left c.loop-edge.builder (edge_registers on) _ (next_first c.loop-edge.builder edges k on l c.index-edges-edge.is i.left);
      closed = one_more_closed c.args.plan.now edges c.args.leaves.now c.args.sources.now c.args.sinks.now _ _ k on c.in_ok-giver.giver c.in_ok-taker.taker d.later i.closed
          (c.index-edges-edge.is ∙ get_or_default edges k on no_edge_wires l) c.in_ok-giver.ensures c.in_ok-taker.ensures c.in_ok-close_edge.ensures.closed;
    }

pub returns-clause-drives : goal.returns-clause-drives
returns-clause-drives c =
    let i = c.loop-edge.invariant in
    drives_every _ _ (all_registers c.args.edges.now) i.later i.no_input i.no_output c.requires.undriven (i.left ∙ none_left c.args.edges.now c.loop-edge.edge c.loop-edge-test.false)

pub returns-clause-none : goal.returns-clause-none
returns-clause-none c = c.loop-edge.invariant.left ∙ none_left c.args.edges.now c.loop-edge.edge c.loop-edge-test.false

pub returns-clause-closed : goal.returns-clause-closed
returns-clause-closed c = fewer_closed _ _ _ _ _ _ c.loop-edge.edge (length c.args.plan.now.edges) (omega (arith, c.requires.edges.long, c.loop-edge-test.false)) c.loop-edge.invariant.closed
