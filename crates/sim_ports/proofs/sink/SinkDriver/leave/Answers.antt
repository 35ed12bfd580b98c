use Rattle.std.proofs.Common.{IsTrue, rules}
use Rattle.sim_ports.specs.Sinks.{are_all}
use Rattle.sim_ports.proofs.Gathered.{next_of}
use Rattle.sim_ports.proofs.Roomy.{whole_now}
use Rattle.sim_ports.proofs.sink.SinkDriver.leave.Goals as goal

pub take-requires : goal.take-requires
take-requires g c =
    (next_of c.args.self.now.port.width c.requires.request c.args.self.now.port.taken c.args.beat.now c.requires.asked.shape.small c.requires.before c.requires.next).few

pub has_all-requires : goal.has_all-requires
has_all-requires g c =
    (next_of c.args.self.now.port.width c.requires.request c.args.self.now.port.taken c.args.beat.now c.requires.asked.shape.small c.requires.before c.requires.next).small

pub answer-requires-clause-whole : goal.answer-requires-clause-whole
answer-requires-clause-whole g c =
    let all : IsTrue (are_all c.take.new.self.width c.take.new.self.taken c.args.beat.now) = search rules in
    whole_now _ c.take.new.self c.args.beat.now c.requires c.take.ensures all
