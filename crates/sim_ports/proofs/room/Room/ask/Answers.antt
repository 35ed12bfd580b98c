use Rattle.std.proofs.Common.{◌≡◌, ◌∙◌, length, rules}
use Rattle.sim_ports.specs.Devices.{Meaning}
use Rattle.sim_ports.proofs.Roomy.{answer_given}
use Rattle.sim_ports.proofs.room.Room.ask.Goals as goal

pub returns-clause-response : goal.returns-clause-response
returns-clause-response g c =
    let before : Meaning = (goal.Device-dyn g (c.args.device.now.vtable, c.args.device.now.value)).meaning c.args.device.now.value in
    let length_is : length c.answer-denied.new.payload ≡ length c.args.self.now.response.payload = search rules in
    c.respond.ensures.response
    ∙ answer_given before c.args.self.now.request c.answer-denied.result c.args.self.now.response.payload c.answer-denied.new.payload length_is c.answer-denied.ensures.denied c.answer-denied.ensures.payload
