use Rattle.std.proofs.Common.{◌≡◌, ◌<◌, ◌+◌, ◌∙◌, ◌++◌, List, ℕ, length, take, get_or, map, ap, sym, subst, arith}
use Rattle.net_cells.specs.declared.netlist.OutPort.{OutPort}
use Rattle.net_cells.specs.declared.netlist.Port.{Port}
use Rattle.net_build.specs.Built.{IsNewName, inputs}
use Rattle.net_build.specs.Values.{AddsOutput}
use Rattle.net_build.proofs.Steps.{wire_later}
use Rattle.net_ports.proofs.RowSteps.{adds_more_outputs, may_regroup, names_shown, new_name}
use Rattle.net_ports.proofs.rows.show_row.Goals as goal

pub output-requires-clause-name : goal.output-requires-clause-name
output-requires-clause-name c =
    let k = c.loop-place.place in
    let ports = c.args.ports.now in
    subst (IsNewName c.loop-place.builder) (sym (c.in_ok-name.ensures ∙ ap (λ (x : Port). x.name) (sym c.index-ports-place.is)))
    (new_name c.loop-place.builder ports (take k ports) k c.index-ports-place.result _ c.loop-place-test.true c.index-ports-place.is c.requires.ports
    (may_regroup c.args.builder.now ports c.requires.apart)
    (names_shown c.args.builder.now c.loop-place.builder ports c.args.wires.now k c.requires.long c.loop-place.invariant))

pub output-requires-clause-wire : goal.output-requires-clause-wire
output-requires-clause-wire c =
    let l : c.loop-place.place < length c.args.wires.now = omega (arith, c.loop-place-test.true, c.requires.long) in
    wire_later _ _ _ c.loop-place.invariant.later (c.requires.wires.each c.loop-place.place _ l).0

pub loop-place-preserved : goal.loop-place-preserved
loop-place-preserved c =
    let added = subst (λ (name : List ℕ). AddsOutput c.loop-place.builder c.output.new.self (record { name = name; net = (get_or c.args.wires.now c.loop-place.place (record { number = 0; width = 0 })).number })) (c.in_ok-name.ensures ∙ ap (λ (x : Port). x.name) (sym c.index-ports-place.is)) c.in_ok-output.ensures.adds in
    adds_more_outputs c.args.builder.now c.loop-place.builder c.output.new.self c.args.ports.now c.args.wires.now c.loop-place.place c.index-ports-place.result _ c.loop-place-test.true c.requires.long c.index-ports-place.is c.loop-place.invariant added
