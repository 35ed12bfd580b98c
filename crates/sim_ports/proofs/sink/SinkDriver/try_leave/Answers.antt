use Rattle.sim_ports.proofs.Nexts.{if_leaves, leave_prepared, leaves_if}
use Rattle.sim_ports.proofs.sink.SinkDriver.try_leave.Goals as goal

pub leave-requires : goal.leave-requires
leave-requires g c =
    leaves_if c.args.prepared.now.addresses c.as_slice.result.now _ c.args.beat.now c.as_slice.ensures c.may_take-may.ensures.bus c.requires
    (c.may_take-may.ensures.may.0 c.if-may.true)

pub returns-then-may-clause-may : goal.returns-then-may-clause-may
returns-then-may-clause-may g c = (
  λ t. leaves_if c.args.prepared.now.addresses c.as_slice.result.now _ c.args.beat.now c.as_slice.ensures c.may_take-may.ensures.bus c.requires (c.may_take-may.ensures.may.0 t),
  λ m. c.may_take-may.ensures.may.1 (if_leaves c.args.prepared.now.addresses c.as_slice.result.now _ c.args.beat.now c.as_slice.ensures c.may_take-may.ensures.bus c.requires m),
)

pub returns-then-may-clause-prepared : goal.returns-then-may-clause-prepared
returns-then-may-clause-prepared g c =
    leave_prepared c.args.prepared.now.addresses _ _ c.args.cycle c.args.beat.now c.requires
    (leaves_if c.args.prepared.now.addresses c.as_slice.result.now _ c.args.beat.now c.as_slice.ensures c.may_take-may.ensures.bus c.requires (c.may_take-may.ensures.may.0 c.if-may.true))
    c.leave.ensures.now c.leave.ensures.addresses

pub returns-else-may-clause-may : goal.returns-else-may-clause-may
returns-else-may-clause-may g c = (
  λ t. leaves_if c.args.prepared.now.addresses c.as_slice.result.now _ c.args.beat.now c.as_slice.ensures c.may_take-may.ensures.bus c.requires (c.may_take-may.ensures.may.0 t),
  λ m. c.may_take-may.ensures.may.1 (if_leaves c.args.prepared.now.addresses c.as_slice.result.now _ c.args.beat.now c.as_slice.ensures c.may_take-may.ensures.bus c.requires m),
)
