use Rattle.net_paths.proofs.Prefixed.{wider}
use Rattle.net_paths.proofs.owners.bits_of.Goals as goal

pub returns-then-address-ge48-clause-all : goal.returns-then-address-ge48-clause-all
returns-then-address-ge48-clause-all c = wider c.args.all 48 c.args.address c.requires.all c.if-address-ge48.true
