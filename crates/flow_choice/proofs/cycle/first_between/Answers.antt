use Rattle.std.proofs.Common.{◌≡◌, true, false}
use Rattle.flow_core.specs.Network.{is_enabled}
use Rattle.flow_choice.specs.Choosing.{choice_of}
use Rattle.flow_choice.proofs.Adding.{found_here, found_later}
use Rattle.flow_choice.proofs.cycle.first_between.Goals as goal

pub returns-then-enabled : goal.returns-then-enabled
returns-then-enabled c =
    let yes : is_enabled c.args.network.now (choice_of c.args.among c.loop-number.number) ≡ true = cc in
    found_here (λ number. is_enabled c.args.network.now (choice_of c.args.among number)) c.loop-number.number c.args.to _ c.loop-number-test.true yes c.loop-number.invariant

pub loop-number-preserved : goal.loop-number-preserved
loop-number-preserved c =
    let not : is_enabled c.args.network.now (choice_of c.args.among c.loop-number.number) ≡ false = cc in
    found_later (λ number. is_enabled c.args.network.now (choice_of c.args.among number)) c.loop-number.number c.args.to _ c.loop-number-test.true not c.loop-number.invariant
