use Rattle.std.proofs.Common.{◌≡◌, length, get_or}
use Rattle.tl_edge.specs.Plans.{edge_at}
use Rattle.net_build.specs.Values.{Adds}
use Rattle.net_crossbar.specs.Places.{AllAt}
use Rattle.net_crossbar.specs.Puts.{AskOwner}
use Rattle.net_crossbar.proofs.ways.output_wants.Given as goal

abbrev pub invariant-loop-place : goal.invariant-loop-place
invariant-loop-place l = record {
  adds : Adds l.fn.builder l.builder;
  long : length l.out ≡ l.place;
  asks : AllAt (λ k ws. AskOwner l.builder l.valids l.rows (edge_at l.plan (get_or l.outs k 0)).slaves ws) l.out;
}
