use Rattle.std.proofs.Common.{◌∙◌, ap, take, List}
use Rattle.tl_edge.specs.declared.beat.DBeat.{DBeat}
use Rattle.sim_ports.specs.Sinks.{Serving, after_reply}
use Rattle.sim_ports.proofs.Roomy.{one_passed}
use Rattle.sim_ports.proofs.sink.SinkPort.replied.Goals as goal

pub returns : goal.returns
returns c =
    ap (λ (replies : List DBeat). let port : Serving = record { width = c.self.inside.width; delay = c.self.inside.delay; taken = take c.self.inside.count c.self.inside.taken; replies = replies; from = c.self.inside.from } in port)
    (one_passed (take c.self.inside.due c.self.inside.replies) c.self.inside.passed)
    ∙ ap after_reply c.self.view_is
