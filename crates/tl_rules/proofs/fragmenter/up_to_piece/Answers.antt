use Rattle.tl_rules.proofs.Fragmenting.{small_pair}
use Rattle.tl_rules.proofs.fragmenter.up_to_piece.Goals as goal

pub sizes_between-requires : goal.sizes_between-requires
sizes_between-requires c = small_pair c.args.fragments.now c.requires
