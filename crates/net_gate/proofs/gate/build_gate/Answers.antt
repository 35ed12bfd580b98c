use Rattle.std.proofs.Common.{◌∙◌, ℕ, sym, ap, length, subst}
use Rattle.net_build.proofs.RowLists.{rows_adds}
use Rattle.net_build.proofs.Steps.{adds_adds}
use Rattle.net_choice.specs.declared.choice.Granted.{Granted}
use Rattle.net_gate.specs.Built.{AreServing}
use Rattle.net_gate.proofs.Gated.{gate_by_side}
use Rattle.net_gate.proofs.gate.build_gate.Goals as goal

pub serve-requires-clause-some : goal.serve-requires-clause-some
serve-requires-clause-some c = rw c.into_granted-granted.ensures (rw c.in_ok-sided.ensures.long c.requires.some)

pub serve-requires-clause-bits : goal.serve-requires-clause-bits
serve-requires-clause-bits c = rw c.into_granted-granted.ensures c.in_ok-sided.ensures.bits

pub serve-requires-clause-long : goal.serve-requires-clause-long
serve-requires-clause-long c = rw c.into_granted-granted.ensures (c.requires.rows.1 ∙ sym c.in_ok-sided.ensures.long)

pub serve-requires-clause-rows : goal.serve-requires-clause-rows
serve-requires-clause-rows c = rows_adds _ _ c.args.widths.now c.args.rows.now c.in_ok-sided.ensures.adds c.requires.rows.0

pub returns-clause-adds : goal.returns-clause-adds
returns-clause-adds c = adds_adds _ _ _ c.in_ok-sided.ensures.adds c.in_ok-serving.ensures.adds

pub returns-clause-serving : goal.returns-clause-serving
returns-clause-serving c = subst (λ (n : ℕ). AreServing c.serve.new.builder n c.args.widths.now c.in_ok-serving.serving) (ap (λ (g : Granted). length g.grants) c.into_granted-granted.ensures ∙ c.in_ok-sided.ensures.long) c.in_ok-serving.ensures.serving

pub returns-clause-gate : goal.returns-clause-gate
returns-clause-gate c = λ rest most tells.
    gate_by_side _ _ _ c.args.round rest most c.args.wants.now c.args.ready c.args.rows.now c.args.rests.now c.in_ok-sided.sided.registers c.in_ok-sided.sided.granted c.into_granted-granted.result c.in_ok-serving.serving (length c.args.widths.now)
    c.in_ok-sided.ensures.adds c.in_ok-serving.ensures.adds c.requires.some c.requires.rows.1 c.requires.rests.1 c.into_granted-granted.ensures c.in_ok-serving.ensures.grants c.in_ok-serving.ensures.valid c.in_ok-sided.ensures.side c.in_ok-serving.ensures.items tells
