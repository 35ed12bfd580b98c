use Rattle.std.proofs.Common.{◌≡◌, ◌++◌, ◌∙◌, List, ap, sym}
use Rattle.tl_edge.specs.declared.beat.Event.{Event}
use Rattle.tl_edge.specs.declared.beat.What.TheVariants.{Leave, Reply}
use Rattle.sim_ports.specs.Sinks.{served, sinking}
use Rattle.sim_events.specs.Passing.{happening, if_room}
use Rattle.sim_run.proofs.Heard.{front_may, now_served, shown_both}
use Rattle.sim_run.proofs.telling.tell_sink.Goals as goal

pub returns-clause-events : goal.returns-clause-events
returns-clause-events g c k =
    let cycle = c.args.cycle in
    let port = c.args.port in
    let es = happening cycle port Leave c.leaves.result in
    let fs = happening cycle port Reply c.replies.result in
    let same : happening cycle port Leave (if_room c.args.offer.now.takes c.args.view.now.head) ++ happening cycle port Reply (if_room c.args.view.now.room c.args.offer.now.beat) ≡ es ++ fs =
    ap (λ b. happening cycle port Leave b ++ happening cycle port Reply (if_room c.args.view.now.room c.args.offer.now.beat)) (sym c.leaves.ensures) ∙ ap (λ b. es ++ happening cycle port Reply b) (sym c.replies.ensures) in
    shown_both es fs c.args.shown.now.items c.leave.new.shown.items c.reply.new.shown.items
    (c.leave.ensures.events (front_may (sinking ((goal.Device-dyn g (c.args.driver.now.device.vtable, c.args.driver.now.device.value)).meaning c.args.driver.now.device.value) c.args.driver.now.port) _ es fs same k)) c.reply.ensures.events
    ∙ ap (λ (x : List Event). c.args.shown.now.items ++ x) (sym same)

pub returns-clause-served : goal.returns-clause-served
returns-clause-served g c k =
    let cycle = c.args.cycle in
    let port = c.args.port in
    let es = happening cycle port Leave c.leaves.result in
    let fs = happening cycle port Reply c.replies.result in
    let same : happening cycle port Leave (if_room c.args.offer.now.takes c.args.view.now.head) ++ happening cycle port Reply (if_room c.args.view.now.room c.args.offer.now.beat) ≡ es ++ fs =
    ap (λ b. happening cycle port Leave b ++ happening cycle port Reply (if_room c.args.view.now.room c.args.offer.now.beat)) (sym c.leaves.ensures) ∙ ap (λ b. es ++ happening cycle port Reply b) (sym c.replies.ensures) in
    now_served (sinking ((goal.Device-dyn g (c.args.driver.now.device.vtable, c.args.driver.now.device.value)).meaning c.args.driver.now.device.value) c.args.driver.now.port)
    (sinking ((goal.Device-dyn g (c.leave.new.driver.device.vtable, c.leave.new.driver.device.value)).meaning c.leave.new.driver.device.value) c.leave.new.driver.port)
    (sinking ((goal.Device-dyn g (c.reply.new.driver.device.vtable, c.reply.new.driver.device.value)).meaning c.reply.new.driver.device.value) c.reply.new.driver.port) es fs (c.leave.ensures.served (front_may (sinking ((goal.Device-dyn g (c.args.driver.now.device.vtable, c.args.driver.now.device.value)).meaning c.args.driver.now.device.value) c.args.driver.now.port) _ es fs same k)) c.reply.ensures.served
    ∙ ap (served (sinking ((goal.Device-dyn g (c.args.driver.now.device.vtable, c.args.driver.now.device.value)).meaning c.args.driver.now.device.value) c.args.driver.now.port)) (sym same)
