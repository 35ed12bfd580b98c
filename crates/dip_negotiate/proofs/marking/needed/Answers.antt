use Rattle.dip_rule.specs.Boxed.{stated_by}
use Rattle.dip_negotiate.specs.Demands.{seen}
use Rattle.dip_negotiate.proofs.Needed.{at_start, one_further, all_marked}
use Rattle.dip_negotiate.proofs.marking.needed.Goals as goal

pub loop-back-init : goal.loop-back-init
loop-back-init g c =
    at_start (g.P.Negotiated.pass (stated_by (goal.Rule-dyn g) c.args.rules.now) c.args.nodes.now c.args.edges.now) c.args.edges.now c.args.steps.now c.requires.in_turn
    (seen c.args.firsts.now c.args.ports.now) c.args.edge c.in_ok-marks.marks.items c.requires.edge c.in_ok-marks.ensures

pub loop-back-preserved : goal.loop-back-preserved
loop-back-preserved g c =
    one_further (g.P.Negotiated.pass (stated_by (goal.Rule-dyn g) c.args.rules.now) c.args.nodes.now c.args.edges.now) c.args.edges.now c.args.steps.now c.requires.in_turn
    (seen c.args.firsts.now c.args.ports.now) c.args.edge c.loop-back.back c.loop-back.marks.items c.loop-back.invariant c.loop-back-test.true c.go_on.new.marks.items c.in_ok-go_on.ensures

pub returns : goal.returns
returns g c =
    all_marked (g.P.Negotiated.pass (stated_by (goal.Rule-dyn g) c.args.rules.now) c.args.nodes.now c.args.edges.now) c.args.edges.now c.args.steps.now c.requires.in_turn
    (seen c.args.firsts.now c.args.ports.now) c.requires.known.closed c.args.edge c.loop-back.back c.loop-back.marks.items c.loop-back-test.false c.loop-back.invariant
