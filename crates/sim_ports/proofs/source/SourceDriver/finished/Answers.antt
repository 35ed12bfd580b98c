use Rattle.std.proofs.Common.{◌≡◌, ◌-◌, ◌∙◌, ap, count_by, nat_eq, not, rules, sym}
use Rattle.sim_ports.specs.Sources.{begun_of}
use Rattle.sim_ports.proofs.Onward.{begun_said, finished_said}
use Rattle.sim_ports.proofs.source.SourceDriver.finished.Goals as goal

pub returns : goal.returns
returns c = λ script history s.
    let begun = c.begun.ensures script history s ∙ sym (begun_said script history c.args.self.now s) in
    let busy : c.busy_count.result ≡ count_by (λ n. not (nat_eq n 0)) c.args.self.now.left = search rules in
    c.saturating_sub.ensures
    ∙ ap (λ n. n - c.busy_count.result) begun
    ∙ ap (λ n. begun_of c.args.self.now.sent - n) busy
    ∙ finished_said script history c.args.self.now s
