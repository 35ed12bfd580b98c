use Rattle.dip_lists.proofs.Places.{places_law}
use Rattle.dip_lists.proofs.first.places_law.Goals as goal

pub returns : goal.returns
returns c = places_law
