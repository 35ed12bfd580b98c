use Rattle.tl_rules.proofs.Fragmenting.{whole_pair}
use Rattle.tl_rules.proofs.fragmenter.widened.Goals as goal

pub sizes_between-requires : goal.sizes_between-requires
sizes_between-requires c = whole_pair c.args.fragments.now c.requires
