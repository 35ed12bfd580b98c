use Rattle.std.proofs.Common.{Some, ◌∙◌, ap, sym}
use Rattle.tl_edge.specs.BeatLaws.{IsSent}
use Rattle.tl_edge.specs.Joined.{joined_request}
use Rattle.tl_edge.proofs.Reading.{join_law}
use Rattle.sim_ports.proofs.Roomy.{room_for}
use Rattle.sim_ports.proofs.room.Room.serve.Goals as goal

pub returns-clause-request : goal.returns-clause-request
returns-clause-request g c =
    let sent : IsSent c.args.width c.requires.whole.request = record { bus = c.requires.width; whole = record { shape = c.requires.whole.asked.shape; bytes = c.requires.whole.bytes } } in
    let room = room_for c.requires.whole.request c.args.head.now c.args.self.now c.requires.whole.fields c.requires.room in
    let gathered = c.gather.ensures.request c.requires.whole.request sent room c.requires.whole.is c.requires.whole.fields in
    ap (joined_request c.args.width) c.requires.whole.is
    ∙ join_law.requests c.args.width c.requires.whole.request sent
    ∙ ap (λ r. Some r) (sym (c.ask.ensures.request ∙ gathered))
