use Rattle.std.proofs.Common.{None, length, replicate, ap, ◌∙◌}
use Rattle.dip_graph.specs.Orders.{canonical_order}
use Rattle.dip_rule.specs.Boxed.{stated_by}
use Rattle.dip_negotiate.specs.Places.{sink_end, source_end, steps_down, steps_up}
use Rattle.dip_negotiate.specs.Demands.{first_shares, end_places}
use Rattle.dip_negotiate.proofs.Lazily.{first_down, first_up, seen_nothing}
use Rattle.dip_negotiate.proofs.lazy.Lazy.new.Goals as goal

pub returns-clause-is : goal.returns-clause-is
returns-clause-is g c =
    let rules = stated_by (goal.Rule-dyn g) c.args.rules.now in
    let order = c.as_slice.ensures ∙ c.in_ok-order.ensures in
    let order_up = c.as_slice-2.ensures ∙ c.in_ok-order.ensures in
    record {
      few = c.requires.edges;
      negotiable = c.requires.negotiable;
      is_down = first_down rules c.args.design.now c.args.edges.now c.in_ok-steps_down.field-0 c.in_ok-sharing.field-0 c.in_ok-down.down.items
          (c.in_ok-steps_down.ensures ∙ ap (λ o. steps_down o c.as_slice-all.result.now) order ∙ ap (λ e. steps_down (canonical_order c.args.design.now) e) c.as_slice-all.ensures)
          (c.in_ok-sharing.ensures ∙ ap (λ n. first_shares (end_places rules n source_end c.as_slice-all.result.now)) c.as_slice-nodes.ensures
          ∙ ap (λ e. first_shares (end_places rules c.args.design.now.nodes source_end e)) c.as_slice-all.ensures)
          (c.in_ok-down.ensures ∙ ap (λ e. replicate (length e) None) c.as_slice-all.ensures);
      is_up = first_up rules c.args.design.now c.args.edges.now c.in_ok-steps_up.field-0 c.in_ok-sharing-2.field-0 c.in_ok-up.up.items
          (c.in_ok-steps_up.ensures ∙ ap (λ o. steps_up o c.as_slice-all.result.now) order_up ∙ ap (λ e. steps_up (canonical_order c.args.design.now) e) c.as_slice-all.ensures)
          (c.in_ok-sharing-2.ensures ∙ ap (λ n. first_shares (end_places rules n sink_end c.as_slice-all.result.now)) c.as_slice-nodes.ensures
          ∙ ap (λ e. first_shares (end_places rules c.args.design.now.nodes sink_end e)) c.as_slice-all.ensures)
          (c.in_ok-up.ensures ∙ ap (λ e. replicate (length e) None) c.as_slice-all.ensures);
    }

pub returns-clause-no_down : goal.returns-clause-no_down
returns-clause-no_down g c = seen_nothing c.in_ok-sharing.field-0 c.in_ok-down.down.items (length c.as_slice-all.result.now) c.in_ok-down.ensures

pub returns-clause-no_up : goal.returns-clause-no_up
returns-clause-no_up g c = seen_nothing c.in_ok-sharing-2.field-0 c.in_ok-up.up.items (length c.as_slice-all.result.now) c.in_ok-up.ensures
