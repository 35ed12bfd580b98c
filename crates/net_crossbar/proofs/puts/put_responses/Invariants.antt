use Rattle.std.proofs.Common.{◌≡◌, [], length, get_or}
use Rattle.net_build.specs.Values.{Adds}
use Rattle.net_gate.specs.declared.types.Serving.{Serving}
use Rattle.net_paths.specs.declared.ids.IdBlock.{IdBlock}
use Rattle.net_queue.specs.declared.types.Put.{Put}
use Rattle.net_crossbar.specs.Places.{AllAt}
use Rattle.net_crossbar.specs.Puts.{PutsReturned}
use Rattle.net_crossbar.proofs.puts.put_responses.Given as goal

abbrev pub invariant-loop-place : goal.invariant-loop-place
invariant-loop-place l = record {
  adds : Adds l.fn.builder l.builder;
  long : length l.out ≡ l.place;
  puts : AllAt (λ k (p : Put). (block : IdBlock) (s : Serving) → PutsReturned l.builder (get_or l.blocks k block) (get_or l.likes k []) (get_or l.servings k s) p) l.out;
}
