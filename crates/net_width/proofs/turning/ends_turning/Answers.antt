use Rattle.std.proofs.Common.{◌≡◌, ◌≢◌, ℕ, ap, subst, ◌∙◌}
use Rattle.tl_edge.specs.Plans.{bus_width}
use Rattle.flow_core.specs.Turning.{Widths}
use Rattle.net_build.specs.Built.{Built}
use Rattle.net_queue.specs.declared.types.EdgeWires.{EdgeWires}
use Rattle.net_width.specs.declared.types.Widened.{Widened}
use Rattle.net_width.specs.Between.{IsWidgetOf}
use Rattle.net_width.specs.Widened.{IsWidened}
use Rattle.net_width.proofs.Standing.{is_widget}
use Rattle.net_width.proofs.TwoBuses.{can_widen}
use Rattle.net_width.proofs.turning.ends_turning.Goals as goal

abbrev two : ℕ → ℕ → Widths
two above below = record { above = above; below = below }

widget_of : (b : Built) (count from to : ℕ) (widths : Widths) (above below : EdgeWires) (w : Widened) → widths ≡ record { above = from; below = to } → from ≢ to → IsWidened b widths count above below w
    → IsWidgetOf b count from to above below (record { take_a = w.requests.take; put_a = w.requests.put; take_d = w.responses.take; put_d = w.responses.put })
widget_of b count from to widths above below w e d h ein eout p q r =
    is_widget b ein eout (two from to) count above below w (subst (λ (x : Widths). IsWidened b x count above below w) e h) d (ap (λ (n : ℕ). two n (bus_width eout)) p ∙ ap (two from) q) r

pub widen_between-requires : goal.widen_between-requires
widen_between-requires c = record { can = can_widen _ c.args.count c.args.from c.args.to _ _ c.args.above.now c.args.below.now c.buses_of-buses.ensures.two c.buses_of-buses.ensures.widths c.requires.queues }

pub returns-clause-ends : goal.returns-clause-ends
returns-clause-ends c =
    let h = c.in_ok-widened.ensures.widened in
    record { take_down = h.take_down; down = h.down; take_up = h.take_up; up = h.up }

pub returns-clause-widget : goal.returns-clause-widget
returns-clause-widget c = widget_of _ c.args.count c.args.from c.args.to _ c.args.above.now c.args.below.now c.in_ok-widened.widened c.buses_of-buses.ensures.widths c.requires.differ c.in_ok-widened.ensures.widened
