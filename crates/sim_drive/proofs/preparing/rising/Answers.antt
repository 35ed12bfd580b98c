use Rattle.std.proofs.Common.{◌≡◌, ◌∙◌}
use Rattle.std.proofs.lemmas.List.Filters.{dedup_is}
use Rattle.sim_drive.proofs.Ascending.{sorted_once}
use Rattle.sim_drive.proofs.preparing.rising.Goals as goal

pub returns : goal.returns
returns c = c.from_vec.ensures ∙ sorted_once _ _ _ c.sort_unstable.ensures.permutation c.sort_unstable.ensures.sorted (dedup_is _ _ _ c.dedup.ensures.filtered)
