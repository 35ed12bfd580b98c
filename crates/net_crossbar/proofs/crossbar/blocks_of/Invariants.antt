use Rattle.std.proofs.Common.{◌≡◌, length, get_or}
use Rattle.net_paths.specs.declared.ids.IdBlock.{IdBlock}
use Rattle.net_paths.specs.Paths.{IsIdBlock}
use Rattle.net_xbar.specs.Ways.{no_ids}
use Rattle.net_crossbar.specs.Places.{AllAt}
use Rattle.net_crossbar.proofs.crossbar.blocks_of.Given as goal

abbrev pub invariant-loop-place : goal.invariant-loop-place
invariant-loop-place l = record {
  long : length l.out ≡ l.place;
  blocks : AllAt (λ k (block : IdBlock). IsIdBlock (get_or l.ranges k no_ids) block) l.out;
}
