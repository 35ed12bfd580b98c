use Rattle.std.proofs.Common.{◌≡◌, ◌-◌, get_or, set, IsTrue, rules, subst, sym}
use Rattle.sim_ports.specs.Sources.{Sending, Sends, waits_for}
use Rattle.sim_ports.proofs.Onward.{sends_returned}
use Rattle.sim_ports.proofs.source.SourceDriver.returned.Goals as goal

pub returns : goal.returns
returns c = λ script history event w s.
    let put : c.set.new.self ≡ set c.self.inside.left c.args.beat.now.source (get_or c.self.inside.left c.args.beat.now.source 0 - 1) = search rules in
    sends_returned script history event c.args.beat.now
    (record { width = c.self.inside.width; requests = c.self.inside.requests; starts = c.self.inside.starts; sent = c.self.inside.sent; left = c.self.inside.left })
    c.set.new.self w (subst (λ (d : Sending). Sends script history d) (sym c.self.view_is) s)
    (subst (λ (d : Sending). IsTrue (waits_for d c.args.beat.now.source)) (sym c.self.view_is) c.requires) put
