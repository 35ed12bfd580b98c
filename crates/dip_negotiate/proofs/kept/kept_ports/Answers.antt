use Rattle.std.proofs.Common.{◌+◌, None, [], ◌++◌, ◌∙◌, ap, sym, get_or, drop}
use Rattle.dip_negotiate.specs.Passes.{beside}
use Rattle.dip_negotiate.specs.Demands.{port_entries, seen}
use Rattle.dip_negotiate.proofs.Gathering.{on}
use Rattle.dip_negotiate.proofs.Seen.{seen_apart}
use Rattle.dip_negotiate.proofs.kept.kept_ports.Goals as goal
use Rattle.dip_negotiate.proofs.kept.kept_ports.Goals.{then-stands_behind+in_ok-pick, else-stands_behind+in_ok-take}

pub loop-edge-preserved : goal.loop-edge-preserved
loop-edge-preserved g c =
    let first = get_or c.args.firsts.now c.loop-edge.edge 0 in
    let port = c.at.ensures ∙ ap (λ xs. get_or xs first None) c.deref.ensures.value in
    let room = ap (λ o. c.in_ok-room.room + port_entries g.P.Negotiated.count o) (sym port) ∙ c.in_ok-room.ensures in
    elim c.if-stands_behind.branch [
      | then-stands_behind+in_ok-pick w ↦ (
          let copied = w.at-then-stands_behind.ensures ∙ ap (λ xs. get_or xs first None) w.deref-then-stands_behind.ensures.value in
          on g.P.Negotiated.count c.args.firsts.now c.args.ports.items c.loop-edge.ports.items c.if-stands_behind.ports.items c.loop-edge.some c.if-stands_behind.some c.loop-edge.edge c.loop-edge.room c.in_ok-room.room
          8388608 c.loop-edge-test.true (w.some-is ∙ w.in_ok-pick.ensures ∙ ap (λ o. c.loop-edge.some ++ beside o []) copied)
          (ap (λ v. seen (drop (c.loop-edge.edge + 1) c.args.firsts.now) v.items) w.ports-is) room c.loop-edge.invariant)
      | else-stands_behind+in_ok-take w ↦ (
          on g.P.Negotiated.count c.args.firsts.now c.args.ports.items c.loop-edge.ports.items c.if-stands_behind.ports.items c.loop-edge.some c.if-stands_behind.some c.loop-edge.edge c.loop-edge.room c.in_ok-room.room
          8388608 c.loop-edge-test.true (w.some-is ∙ w.in_ok-take.ensures.some)
          (ap (λ v. seen (drop (c.loop-edge.edge + 1) c.args.firsts.now) v.items) w.ports-is
          ∙ ap (λ xs. seen (drop (c.loop-edge.edge + 1) c.args.firsts.now) xs) w.in_ok-take.ensures.ports
          ∙ seen_apart (drop (c.loop-edge.edge + 1) c.args.firsts.now) c.loop-edge.ports.items first None (sym c.stands_behind.ensures ∙ w.if-stands_behind.false))
          room c.loop-edge.invariant)
    ]
