use Rattle.std.proofs.Common.{◌≡◌, ◌≤◌, ℕ, ◌*◌, ◌-◌, ◌^◌, arith, ap, sym, ◌∙◌, subst}
use Rattle.net_cells.specs.Rules.{IsWidth}
use Rattle.net_build.proofs.Steps.{adds_adds, bit_adds, bit_later, later_later, wire_adds, wire_later}
use Rattle.net_turns.proofs.Laned.{alone_driven, collected}
use Rattle.net_turns.proofs.lanes.widen.Goals as goal

pub overflow_mul-unit : goal.overflow_mul-unit
overflow_mul-unit c = let e : c.args.unit * c.lane_count-count.result ≡ c.args.unit * 2 ^ (c.args.buses.wide - c.args.buses.narrow) = ap (λ (n : ℕ). c.args.unit * n) c.lane_count-count.ensures in omega (arith, e, c.requires.width.1)

pub register-requires : goal.register-requires
register-requires c = subst (λ (n : ℕ). IsWidth (c.args.unit * n)) (sym c.lane_count-count.ensures) c.requires.width

pub collect-requires-clause-collected : goal.collect-requires-clause-collected
collect-requires-clause-collected c = (c.in_ok-held.ensures.wire.0, c.in_ok-held.ensures.wire.1 ∙ ap (λ (n : ℕ). n * c.lane_count-count.result) (sym c.requires.wire.1))

pub collect-requires-clause-wires : goal.collect-requires-clause-wires
collect-requires-clause-wires c =
    let l = c.in_ok-held.ensures.opens.later in
    (wire_later _ _ c.args.wire l c.requires.wire.0, wire_later _ _ c.args.turn.now.counted.lane l c.requires.turn.counted.lane)

pub collect-requires-clause-width : goal.collect-requires-clause-width
collect-requires-clause-width c =
    subst (λ (n : ℕ). IsWidth (c.args.wire.width * n)) (sym c.lane_count-count.ensures)
    (subst (λ (n : ℕ). IsWidth (n * 2 ^ (c.args.buses.wide - c.args.buses.narrow))) (sym c.requires.wire.1) c.requires.width)

pub collect-requires-clause-all : goal.collect-requires-clause-all
collect-requires-clause-all c =
    let e : c.args.buses.wide - c.args.buses.narrow ≡ c.args.turn.now.counted.lane.width = omega (arith, c.requires.turn.counted.lane_wide) in
    c.lane_count-count.ensures ∙ ap (λ (n : ℕ). 2 ^ n) e

pub hold-requires-clause-bits : goal.hold-requires-clause-bits
hold-requires-clause-bits c =
    let l = later_later _ _ _ c.in_ok-held.ensures.opens.later c.in_ok-lanes.ensures.adds.later in
    (bit_later _ _ c.args.turn.now.moves l c.requires.turn.moves, bit_later _ _ c.args.turn.now.counted.ends l c.requires.turn.counted.ends)

pub hold-requires-clause-wires : goal.hold-requires-clause-wires
hold-requires-clause-wires c = (wire_adds _ _ c.in_ok-held.held c.in_ok-lanes.ensures.adds c.in_ok-held.ensures.wire.0, c.in_ok-lanes.ensures.wire.0)

pub hold-requires-clause-width : goal.hold-requires-clause-width
hold-requires-clause-width c = c.in_ok-lanes.ensures.wire.1 ∙ ap (λ (n : ℕ). n * c.lane_count-count.result) c.requires.wire.1 ∙ sym c.in_ok-held.ensures.wire.1

pub returns-clause-adds : goal.returns-clause-adds
returns-clause-adds c =
    alone_driven _ _ _ _ c.in_ok-held.held c.in_ok-held.ensures.opens (adds_adds _ _ _ c.in_ok-lanes.ensures.adds c.in_ok-next.ensures.adds) c.in_ok-drive.ensures.drives

pub returns-clause-wire : goal.returns-clause-wire
returns-clause-wire c =
    let l = later_later _ _ _ c.in_ok-next.ensures.adds.later c.in_ok-drive.ensures.drives.later in
    (wire_later _ _ c.in_ok-lanes.lanes l c.in_ok-lanes.ensures.wire.0, c.in_ok-lanes.ensures.wire.1 ∙ ap (λ (n : ℕ). n * c.lane_count-count.result) c.requires.wire.1 ∙ ap (λ (n : ℕ). c.args.unit * n) c.lane_count-count.ensures)

pub returns-clause-turned : goal.returns-clause-turned
returns-clause-turned c =
    let l3 = c.in_ok-drive.ensures.drives.later in
    let l2 = later_later _ _ _ c.in_ok-next.ensures.adds.later l3 in
    let l1 = later_later _ _ _ c.in_ok-lanes.ensures.adds.later l2 in
    collected _ _ _ _ c.args.turn.now c.args.unit c.args.wire c.in_ok-held.held c.in_ok-lanes.lanes c.in_ok-next.next c.in_ok-held.ensures.undriven l1 l2 l3 c.requires.wire.1
    c.in_ok-lanes.ensures.value c.in_ok-next.ensures.value c.in_ok-drive.ensures.becomes
