use Rattle.net_build.proofs.Steps.{adds_adds}
use Rattle.net_crossbar.proofs.Linked.{all_rows_adds}
use Rattle.net_crossbar.proofs.Lists.{all_lifted}
use Rattle.net_crossbar.proofs.Putting.{served_row_adds}
use Rattle.net_crossbar.proofs.Served.{taken_adds}
use Rattle.net_crossbar.proofs.requests.request_acts.Goals as goal

pub put_requests-requires-clause-servings : goal.put_requests-requires-clause-servings
put_requests-requires-clause-servings c = all_lifted _ _ c.args.servings.now (λ k s h. served_row_adds _ _ 7 s c.in_ok-takes.ensures.adds h) c.requires.served

pub put_requests-requires-clause-likes : goal.put_requests-requires-clause-likes
put_requests-requires-clause-likes c = all_rows_adds _ _ 7 c.args.likes.now c.in_ok-takes.ensures.adds c.requires.likes

pub returns-clause-adds : goal.returns-clause-adds
returns-clause-adds c = adds_adds _ _ _ c.in_ok-takes.ensures.adds c.in_ok-puts.ensures.adds

pub returns-clause-acts : goal.returns-clause-acts
returns-clause-acts c = record {
  takes_long = c.in_ok-takes.ensures.long;
  take = all_lifted _ _ c.in_ok-takes.takes (λ k w h. taken_adds _ _ c.args.servings.now k w c.in_ok-puts.ensures.adds h) c.in_ok-takes.ensures.takes;
  puts_long = c.in_ok-puts.ensures.long;
  put = c.in_ok-puts.ensures.puts;
}
