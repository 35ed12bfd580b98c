use Rattle.std.proofs.Common.{refl, sym}
use Rattle.soc_stimulus.proofs.Legality.{legal_of}
use Rattle.soc_stimulus.proofs.edge.failing_rule.Goals as goal

pub returns-clause-legal : goal.returns-clause-legal
returns-clause-legal c =
    legal_of c.args.masters.now c.args.slaves.now c.args.request.now c.in-Some.master c.requires.size c.requires.bytes
    (sym c.if-not-has_whole_load.ensures) (sym c.if-not-is_aligned.ensures) c.in-Some.ensures.listed c.in-Some.ensures.ids
    (c.if-not-emits_request.ensures.sizes refl) (c.if-not-is_supported.ensures.owned refl)
