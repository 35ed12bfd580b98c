use Rattle.std.proofs.Common.{refl}
use Rattle.net_build.proofs.Grown.{grown_later, grown_sound}
use Rattle.net_build.proofs.builder.Builder.make.Goals as goal

pub invariant_of-self-2 : goal.invariant_of-self-2
invariant_of-self-2 c =
    grown_sound _ _ (record { width = c.args.width; kind = c.args.kind }) c.self.invariant c.requires.width (rw c.self.view_is c.requires.rule)
    (record { name = refl; made = c.in_ok-push.ensures.items; outputs = refl })

pub returns-clause-later : goal.returns-clause-later
returns-clause-later c = rw (← c.self.view_is) (grown_later _ _ (record { width = c.args.width; kind = c.args.kind }) c.self.invariant (record { name = refl; made = c.in_ok-push.ensures.items; outputs = refl }))
