use Rattle.std.proofs.Common.{List, subst}
use Rattle.std.specs.List.{list_any}
use Rattle.dip_sets.specs.Sets.{Pattern, is_in}
use Rattle.net_build.specs.Values.{Tells}
use Rattle.net_paths.proofs.owners.is_held.Goals as goal

pub returns-clause-tells : goal.returns-clause-tells
returns-clause-tells c = subst (λ (sets : List Pattern). Tells c.in_some.new.builder c.in_ok-wire.wire (λ v. list_any (λ (s : Pattern). is_in s (v c.args.address.number)) sets)) c.as_slice.ensures c.in_ok-wire.ensures.tells
