use Rattle.std.proofs.Common.{sym, ◌∙◌}
use Rattle.net_build.proofs.Steps.{adds_adds, bit_adds, tells_adds}
use Rattle.net_buffer.proofs.Edges.{keeps_adds}
use Rattle.net_queue.proofs.Opening.{open_adds}
use Rattle.net_sides.proofs.Parts.{put_into_later}
use Rattle.net_width.proofs.Passing.{is_passing}
use Rattle.net_width.proofs.same.ends_same.Goals as goal

pub pass-requires-clause-open : goal.pass-requires-clause-open
pass-requires-clause-open c = (c.requires.open.above_a, c.requires.open.below_a)

pub pass-requires-clause-long : goal.pass-requires-clause-long
pass-requires-clause-long c = c.requires.open.above_a_long ∙ sym c.requires.open.below_a_long

pub pass-requires-2-clause-open : goal.pass-requires-2-clause-open
pass-requires-2-clause-open c =
    let g = c.in_ok-down.ensures.adds in
    (open_adds _ _ c.args.below.now.d g c.requires.open.below_d, open_adds _ _ c.args.above.now.d g c.requires.open.above_d)

pub pass-requires-2-clause-long : goal.pass-requires-2-clause-long
pass-requires-2-clause-long c = c.requires.open.below_d_long ∙ sym c.requires.open.above_d_long

pub returns-clause-adds : goal.returns-clause-adds
returns-clause-adds c = adds_adds _ _ _ c.in_ok-down.ensures.adds c.in_ok-up.ensures.adds

pub returns-clause-ends : goal.returns-clause-ends
returns-clause-ends c =
    let g = c.in_ok-up.ensures.adds in
    record {
      take_down = bit_adds _ _ c.in_ok-down.down.valid g c.in_ok-down.ensures.into.valid;
      down = put_into_later _ _ c.args.below.now.a c.in_ok-down.down g.later c.in_ok-down.ensures.into;
      take_up = c.in_ok-up.ensures.into.valid;
      up = c.in_ok-up.ensures.into;
    }

pub returns-clause-widget : goal.returns-clause-widget
returns-clause-widget c ein eout e =
    let g = c.in_ok-up.ensures.adds in
    is_passing _ ein eout c.args.above.now c.args.below.now c.in_ok-down.down c.in_ok-up.up e
    (tells_adds _ _ c.in_ok-down.down.valid _ g c.in_ok-down.ensures.tells) c.in_ok-up.ensures.tells
    (keeps_adds _ _ c.args.above.now.a.head _ c.in_ok-down.down.items g c.in_ok-down.ensures.keeps) c.in_ok-up.ensures.keeps
