use Rattle.std.proofs.Common.{ℕ, List, length, map, refl, ap, ◌∙◌, slice_index}
use Rattle.net_cells.specs.Rules.{sources}
use Rattle.sim_engine.specs.Orders.{position}
use Rattle.net_cells.specs.declared.netlist.Reg.{Reg}
use Rattle.std.proofs.lemmas.List.{length-map}
use Rattle.sim_engine.proofs.Stepping.{shown_exist, nexts_exist, plain, long_after, inputs_of, cycle_of, room_for, cycled, engine_after, cycle_after}
use Rattle.sim_engine.proofs.engine.Engine.cycle.Goals as goal

pub gather-requires-clause-exist : goal.gather-requires-clause-exist
gather-requires-clause-exist c =
    let s = c.self.inside in
    let e = c.self.invariant in
    let i = inputs_of s.netlist s.values.items c.args.inputs.now c.args.self.now c.self.view_is c.requires.inputs in
    shown_exist s.netlist s.columns s.runs.items s.first s.shown.items s.nexts.items s.values.items s.kept.items e c.as_slice-3.result.now (length c.as_slice-2.result.now)
    (ap length c.as_slice-2.ensures.value
    ∙ long_after s.netlist s.columns s.first s.values.items c.args.inputs.now c.put.new.values.items c.evaluate.new.values.items i e.long (plain c.args.inputs.now s.values.items c.put.new.values.items c.put.ensures) c.evaluate.ensures)
    c.as_slice-3.ensures.value

pub keep-requires-clause-exist : goal.keep-requires-clause-exist
keep-requires-clause-exist c =
    let s = c.self.inside in
    let e = c.self.invariant in
    let i = inputs_of s.netlist s.values.items c.args.inputs.now c.args.self.now c.self.view_is c.requires.inputs in
    nexts_exist s.netlist s.columns s.runs.items s.first s.shown.items s.nexts.items s.values.items s.kept.items e c.as_slice-5.result.now (length c.as_slice-4.result.now)
    (ap length c.as_slice-4.ensures.value
    ∙ long_after s.netlist s.columns s.first s.values.items c.args.inputs.now c.put.new.values.items c.evaluate.new.values.items i e.long (plain c.args.inputs.now s.values.items c.put.new.values.items c.put.ensures) c.evaluate.ensures)
    c.as_slice-5.ensures.value

pub put-requires-2 : goal.put-requires-2
put-requires-2 c =
    let s = c.self.inside in
    let e = c.self.invariant in
    let i = inputs_of s.netlist s.values.items c.args.inputs.now c.args.self.now c.self.view_is c.requires.inputs in
    room_for s.netlist (length s.netlist.regs) c.keep.new.kept.items c.evaluate.new.values.items c.as_slice-4.result.now c.as_slice-5.result.now c.as_slice-6.result.now c.len-first.result c.len-first.ensures c.as_slice-6.ensures.value
    c.keep.ensures (ap length (c.as_slice-5.ensures.value ∙ e.moved) ∙ length-map s.netlist.regs (λ (r : Reg). position (sources s.netlist) e.positions r.next)) refl
    (long_after s.netlist s.columns s.first s.values.items c.args.inputs.now c.put.new.values.items c.evaluate.new.values.items i e.long (plain c.args.inputs.now s.values.items c.put.new.values.items c.put.ensures) c.evaluate.ensures)

pub invariant_of-self : goal.invariant_of-self
invariant_of-self c =
    let s = c.self.inside in
    let e = c.self.invariant in
    let i = inputs_of s.netlist s.values.items c.args.inputs.now c.args.self.now c.self.view_is c.requires.inputs in
    let k = cycled s.netlist s.columns s.first s.nexts.items s.values.items c.args.inputs.now c.put.new.values.items c.evaluate.new.values.items c.keep.new.kept.items c.put-2.new.values.items
    c.len-first.result c.as_slice-4.result.now c.as_slice-5.result.now c.as_slice-6.result.now
    c.put.ensures c.evaluate.ensures c.as_slice-4.ensures.value c.as_slice-5.ensures.value c.keep.ensures c.len-first.ensures c.as_slice-6.ensures.value c.put-2.ensures in
    engine_after s.netlist s.columns s.runs.items s.first s.shown.items s.nexts.items s.values.items s.kept.items c.args.inputs.now c.put.new.values.items c.evaluate.new.values.items c.keep.new.kept.items c.put-2.new.values.items e i k

pub returns : goal.returns
returns c =
    let s = c.self.inside in
    let e = c.self.invariant in
    let i = inputs_of s.netlist s.values.items c.args.inputs.now c.args.self.now c.self.view_is c.requires.inputs in
    let k = cycled s.netlist s.columns s.first s.nexts.items s.values.items c.args.inputs.now c.put.new.values.items c.evaluate.new.values.items c.keep.new.kept.items c.put-2.new.values.items
    c.len-first.result c.as_slice-4.result.now c.as_slice-5.result.now c.as_slice-6.result.now
    c.put.ensures c.evaluate.ensures c.as_slice-4.ensures.value c.as_slice-5.ensures.value c.keep.ensures c.len-first.ensures c.as_slice-6.ensures.value c.put-2.ensures in
    cycle_of s.netlist s.values.items c.args.inputs.now c.gather.new.into c.args.self.now _ c.self.view_is
    (cycle_after s.netlist s.columns s.runs.items s.first s.shown.items s.nexts.items s.values.items s.kept.items c.args.inputs.now c.put.new.values.items c.evaluate.new.values.items c.keep.new.kept.items c.put-2.new.values.items c.gather.new.into e i k
    (c.gather.ensures ∙ ap (λ (xs : List ℕ). map (slice_index xs) c.as_slice-3.result.now) c.as_slice-2.ensures.value ∙ ap (map (slice_index c.evaluate.new.values.items)) c.as_slice-3.ensures.value))
