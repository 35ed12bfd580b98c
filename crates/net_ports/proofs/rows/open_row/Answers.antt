use Rattle.std.proofs.Common.{◌≡◌, ◌+◌, ◌∙◌, ◌++◌, ◌∷◌, [], List, ℕ, length, take, get_or, ap, sym, subst, arith}
use Rattle.std.proofs.lemmas.List.{get_or-map, length-map, length-take, length_push, take_more, take_all}
use Rattle.net_cells.specs.declared.netlist.Port.{Port}
use Rattle.net_cells.specs.Rules.{IsWidth}
use Rattle.net_build.specs.Built.{IsInput, IsNewName}
use Rattle.net_build.specs.Values.{AddsInput}
use Rattle.net_build.proofs.OpenedLists.{widths_later, widths_more}
use Rattle.net_ports.specs.Names.{names_of}
use Rattle.net_ports.specs.Rows.{widths_of_ports}
use Rattle.net_ports.proofs.RowSteps.{adds_more_inputs, may_open, more_read, names_opened, new_name}
use Rattle.net_ports.proofs.rows.open_row.Goals as goal

pub input-requires-clause-name : goal.input-requires-clause-name
input-requires-clause-name c =
    subst (IsNewName c.loop-port.builder) (sym c.in_ok-name.ensures)
    (new_name c.loop-port.builder c.args.ports.now (take c.loop-port.port-index c.args.ports.now) c.loop-port.port-index c.port-item.result _ c.loop-port-test.true c.port-item.is c.requires.ports
    (may_open c.args.builder.now c.args.ports.now c.requires.none c.requires.apart)
    (names_opened c.args.builder.now c.loop-port.builder (take c.loop-port.port-index c.args.ports.now) c.requires.none c.loop-port.invariant.adds))

pub loop-port-preserved : goal.loop-port-preserved
loop-port-preserved c =
    let i = c.loop-port.invariant in
    let p = c.port-item.result in
    let k = c.loop-port.port-index in
    let ports = c.args.ports.now in
    let l = c.loop-port-test.true in
    let w = c.in_ok-wire.wire in
    let pushed = c.in_ok-push.ensures.ok in
    let mid = c.loop-port.builder in
    let new = c.input.new.self in
    let next : take (k + 1) ports ≡ take k ports ++ p ∷ [] = take_more ports k p l ∙ ap (λ (x : Port). take k ports ++ x ∷ []) (sym c.port-item.is) in
    let added : AddsInput mid new p = subst (λ (name : List ℕ). AddsInput mid new (record { name = name; width = p.width })) c.in_ok-name.ensures c.in_ok-wire.ensures.adds in
    let is : IsInput new w p.name = subst (IsInput new w) c.in_ok-name.ensures c.in_ok-wire.ensures.is in
    let long : length c.loop-port.out ≡ length (take k ports) = omega (arith, length-take k ports, i.long) in
    let width : w.width ≡ get_or (widths_of_ports ports) (length c.loop-port.out) 0 =
    c.in_ok-wire.ensures.wire.1 ∙ ap (λ (x : Port). x.width) c.port-item.is ∙ sym (get_or-map (λ (port : Port). port.width) ports k p 0 l) ∙ ap (λ (n : ℕ). get_or (widths_of_ports ports) n 0) (sym i.long) in
    record {
      adds = adds_more_inputs c.args.builder.now mid new (take k ports) (take (k + 1) ports) p i.adds added next;
      long = ap length pushed ∙ length_push c.loop-port.out w ∙ ap (λ (n : ℕ). n + 1) i.long;
      wires = widths_more mid new (widths_of_ports ports) c.loop-port.out _ w added.later i.wires c.in_ok-wire.ensures.wire.0 width pushed;
      read = more_read c.args.builder.now mid new (take k ports) p c.loop-port.out _ w i.adds long i.read added is pushed;
    }

pub input-requires-clause-width : goal.input-requires-clause-width
input-requires-clause-width c =
    let k = c.loop-port.port-index in
    subst IsWidth (get_or-map (λ (port : Port). port.width) c.args.ports.now k c.port-item.result 0 c.loop-port-test.true ∙ ap (λ (x : Port). x.width) (sym c.port-item.is))
    (c.requires.ports.widths k 0 (let e : length (widths_of_ports c.args.ports.now) ≡ length c.args.ports.now = length-map c.args.ports.now (λ (port : Port). port.width) in omega (arith, e, c.loop-port-test.true)))
