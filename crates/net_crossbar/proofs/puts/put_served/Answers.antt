use Rattle.net_build.proofs.Steps.{bit_adds}
use Rattle.net_crossbar.proofs.Putting.{put_made}
use Rattle.net_crossbar.proofs.puts.put_served.Goals as goal

pub returns-clause-puts : goal.returns-clause-puts
returns-clause-puts c = put_made _ c.args.like.now _ c.args.serving.now c.in_ok-items.items c.as_slice.ensures (bit_adds _ _ c.args.serving.now.valid c.in_ok-items.ensures.adds c.requires.serving.valid) c.in_ok-items.ensures.alike c.in_ok-items.ensures.keeps
