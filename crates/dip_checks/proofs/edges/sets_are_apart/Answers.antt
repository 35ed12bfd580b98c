use Rattle.std.proofs.Common.{rules, arith}
use Rattle.std.proofs.lemmas.Grind.{common_steps}
use Rattle.std.proofs.lemmas.List.Elements.{All-same}
use Rattle.dip_checks.proofs.Disjointness.{apart_more, IsApart, known_apart, passed_over}
use Rattle.dip_checks.proofs.edges.sets_are_apart.Goals as goal

pub loop-edge-preserved : goal.loop-edge-preserved
loop-edge-preserved c = record {
  rest = grind (arith, common_steps);
  apart = apart_more c.args.ups.now c.loop-edge.apart c.push.new.self c.loop-edge.edge c.index-ups-edge.result (search rules) (search rules) c.index-ups-edge.is (search rules) c.loop-edge.invariant.apart;
}

pub loop-edge-preserved-then-some_have_slaves : goal.loop-edge-preserved-then-some_have_slaves
loop-edge-preserved-then-some_have_slaves c = record {
  rest =
      let known = known_apart c.args.ups.now c.as_slice.result.now c.as_slice-in-loop-edge.result.now
      (All-same (IsApart c.args.ups.now) c.as_slice.result.now c.loop-edge.apart c.as_slice.ensures c.loop-edge.invariant.apart) (c.if-some_have_slaves.ensures (search rules)) in
      passed_over c.args.ups.now c.loop-edge.edge c.index-ups-edge.result c.as_slice-in-loop-edge.result.now c.loop-edge-test.true c.index-ups-edge.is c.as_slice-in-loop-edge.ensures known c.loop-edge.invariant.rest;
  apart = c.loop-edge.invariant.apart;
}
