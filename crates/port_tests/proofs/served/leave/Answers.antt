use Rattle.std.proofs.Common.{◌∙◌, ap, sym, subst, length, ◌<◌, arith}
use Rattle.tl_edge.specs.Beats.{request_beats}
use Rattle.sim_ports.specs.Sinks.{sinking}
use Rattle.port_tests.specs.Known.{MayBeAskedAt}
use Rattle.port_tests.proofs.Leaving.{has_left, next_leaves}
use Rattle.port_tests.proofs.served.leave.Goals as goal

pub left-requires : goal.left-requires
left-requires g c =
    let s = c.args.served.now in
    let device = s.driver.device in
    let lt : length c.taken-number.result.now < request_beats s.request.op s.request.size s.width = omega (arith, c.beats-count.ensures, c.if-number-count.false) in
    next_leaves s.width s.addresses.items s.request c.room_of-room.result (sinking ((goal.Device-dyn g (device.vtable, device.value)).meaning device.value) s.driver.port) (length c.taken-number.result.now)
    c.a_beat-beat.result c.requires (sym c.takes.ensures.now ∙ c.if-not-takes.false)
    (subst (λ a. MayBeAskedAt a s.request c.room_of-room.result) c.as_slice.ensures.value (c.may_be_asked.ensures c.if-not-may_be_asked.false))
    (ap length c.taken-number.ensures) lt c.a_beat-beat.ensures

pub returns : goal.returns
returns g c =
    let s = c.args.served.now in
    let device = s.driver.device in
    let after = c.left.new.self in
    let lt : length c.taken-number.result.now < request_beats s.request.op s.request.size s.width = omega (arith, c.beats-count.ensures, c.if-number-count.false) in
    has_left s.width s.addresses.items s.request (sinking ((goal.Device-dyn g (device.vtable, device.value)).meaning device.value) s.driver.port)
    (sinking ((goal.Device-dyn g (after.device.vtable, after.device.value)).meaning after.device.value) after.port) (length c.taken-number.result.now) c.args.cycle c.a_beat-beat.result c.requires
    (ap length c.taken-number.ensures) lt c.a_beat-beat.ensures c.left.ensures.now c.left.ensures.addresses
