use Rattle.tl_rules.proofs.Fragmenting.{piece_pair}
use Rattle.tl_rules.proofs.fragmenter.cut.Goals as goal

pub sizes_between-requires : goal.sizes_between-requires
sizes_between-requires c = piece_pair c.args.fragments.now c.requires
