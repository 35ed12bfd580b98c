use Rattle.std.proofs.Common.{ℕ, List, subst, sym}
use Rattle.tl_params.specs.declared.ops.Template.TheVariants.{Xbar}
use Rattle.net_queue.specs.Leaves.{AreEdges, IsLeaf, outs_at}
use Rattle.net_crossbar.specs.PlanCrossbars.{FitsPlanCrossbar, plan_crossbar}
use Rattle.net_crossbar.proofs.AtLeaf.{few_at, ins_read, outs_read, some_at, sound_at}
use Rattle.net_crossbar.proofs.between.build_xbar.Goals as goal

pub build_between-requires-clause-few : goal.build_between-requires-clause-few
build_between-requires-clause-few c = few_at c.args.plan.now c.args.leaf _ c.requires.sound c.requires.leaf (ins_read c.args.plan.now c.args.leaf Xbar _ _ _ c.requires.leaf c.as_slice-leaves.ensures c.index-leaves-leaf.is c.as_slice-in_edges.ensures)

pub build_between-requires-clause-some : goal.build_between-requires-clause-some
build_between-requires-clause-some c = some_at c.args.plan.now c.args.leaf _ _ c.requires.sound c.requires.leaf (ins_read c.args.plan.now c.args.leaf Xbar _ _ _ c.requires.leaf c.as_slice-leaves.ensures c.index-leaves-leaf.is c.as_slice-in_edges.ensures) (outs_read c.args.plan.now c.args.leaf Xbar _ _ _ c.requires.leaf c.as_slice-leaves.ensures c.index-leaves-leaf.is c.as_slice-out_edges.ensures)

pub build_between-requires-clause-sound : goal.build_between-requires-clause-sound
build_between-requires-clause-sound c = sound_at c.args.plan.now c.args.leaf _ c.requires.sound c.requires.leaf (ins_read c.args.plan.now c.args.leaf Xbar _ _ _ c.requires.leaf c.as_slice-leaves.ensures c.index-leaves-leaf.is c.as_slice-in_edges.ensures)

pub build_between-requires-clause-ins : goal.build_between-requires-clause-ins
build_between-requires-clause-ins c = subst (λ (xs : List ℕ). AreEdges c.args.builder.now c.args.plan.now xs c.args.ins.now) (sym (ins_read c.args.plan.now c.args.leaf Xbar _ _ _ c.requires.leaf c.as_slice-leaves.ensures c.index-leaves-leaf.is c.as_slice-in_edges.ensures)) c.requires.ins

pub build_between-requires-clause-outs : goal.build_between-requires-clause-outs
build_between-requires-clause-outs c = subst (λ (xs : List ℕ). AreEdges c.args.builder.now c.args.plan.now xs c.args.outs.now) (sym (outs_read c.args.plan.now c.args.leaf Xbar _ _ _ c.requires.leaf c.as_slice-leaves.ensures c.index-leaves-leaf.is c.as_slice-out_edges.ensures)) c.requires.outs

pub returns-clause-leaf : goal.returns-clause-leaf
returns-clause-leaf c =
    subst (λ (xs : List ℕ). IsLeaf c.build_between.new.builder c.args.ins.now c.args.outs.now c.in_ok-wires.wires (plan_crossbar c.args.plan.now xs (outs_at c.args.plan.now c.args.leaf)) (FitsPlanCrossbar c.args.plan.now xs (outs_at c.args.plan.now c.args.leaf))) (ins_read c.args.plan.now c.args.leaf Xbar _ _ _ c.requires.leaf c.as_slice-leaves.ensures c.index-leaves-leaf.is c.as_slice-in_edges.ensures)
    (subst (λ (ys : List ℕ). IsLeaf c.build_between.new.builder c.args.ins.now c.args.outs.now c.in_ok-wires.wires (plan_crossbar c.args.plan.now c.as_slice-in_edges.result.now ys) (FitsPlanCrossbar c.args.plan.now c.as_slice-in_edges.result.now ys)) (outs_read c.args.plan.now c.args.leaf Xbar _ _ _ c.requires.leaf c.as_slice-leaves.ensures c.index-leaves-leaf.is c.as_slice-out_edges.ensures)
    c.in_ok-wires.ensures.leaf)
