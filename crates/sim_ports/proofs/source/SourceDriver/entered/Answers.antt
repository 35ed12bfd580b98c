use Rattle.std.proofs.Common.{◌≡◌, ◌∙◌, ap, cond, nat_eq, set, IsSome, Some, slice_get, rules, subst, sym}
use Rattle.tl_edge.specs.Beats.{response_beats}
use Rattle.sim_ports.specs.Sources.{Sending, Sends, offers_now}
use Rattle.sim_ports.proofs.Onward.{sends_entered, still_sending}
use Rattle.sim_ports.proofs.source.SourceDriver.entered.Goals as goal

pub invariant_of-self : goal.invariant_of-self
invariant_of-self c =
    let at : slice_get c.self.inside.requests c.self.inside.sent.whole ≡ Some c.in-Some.request.now = search rules in
    let left = c.mark.ensures
    ∙ ap (λ n. cond (nat_eq c.self.inside.sent.part 0) (set c.self.inside.left c.in-Some.request.now.source n) c.self.inside.left)
    (c.response_beats-due.ensures ∙ ap (λ a. response_beats a c.in-Some.request.now.size c.self.inside.width) c.ack_of.ensures) in
    rw (c.next-self-inside.ensures, c.beats-count.ensures)
    (still_sending (record { width = c.self.inside.width; requests = c.self.inside.requests; starts = c.self.inside.starts; sent = c.self.inside.sent; left = c.self.inside.left })
    c.in-Some.request.now c.mark.new.left c.self.invariant at left)

pub returns : goal.returns
returns c = λ script history event h s.
    let at : slice_get c.self.inside.requests c.self.inside.sent.whole ≡ Some c.in-Some.request.now = search rules in
    let left = c.mark.ensures
    ∙ ap (λ n. cond (nat_eq c.self.inside.sent.part 0) (set c.self.inside.left c.in-Some.request.now.source n) c.self.inside.left)
    (c.response_beats-due.ensures ∙ ap (λ a. response_beats a c.in-Some.request.now.size c.self.inside.width) c.ack_of.ensures) in
    rw (c.next-self-inside.ensures, c.beats-count.ensures)
    (sends_entered script history event (record { width = c.self.inside.width; requests = c.self.inside.requests; starts = c.self.inside.starts; sent = c.self.inside.sent; left = c.self.inside.left })
    c.in-Some.request.now c.mark.new.left c.args.cycle h
    (subst (λ (d : Sending). Sends script history d) (sym c.self.view_is) s) c.self.invariant at
    (subst (λ (d : Sending). IsSome (offers_now d c.args.cycle)) (sym c.self.view_is) c.requires) left)
