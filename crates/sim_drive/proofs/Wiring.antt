-- How many inputs and outputs a netlist has that has the ports of a plan, and the room that fits it.
use Rattle.std.proofs.Common.{◌≡◌, ℕ, suc, ◌+◌, ◌*◌, ◌≤◌, List, [], ◌∷◌, ◌++◌, length, refl, ap, sym, ◌∙◌, arith}
use Rattle.std.specs.Prelude.{flat_map, vec_capacity}
use Rattle.std.proofs.lemmas.List.{length-append, length-map}
use Rattle.std.proofs.Math.Nat.{suc-mul}
use Rattle.tl_edge.specs.declared.plan.Plan.{Plan}
use Rattle.net_cells.specs.declared.netlist.Netlist.{Netlist}
use Rattle.net_cells.specs.declared.netlist.Port.{Port}
use Rattle.net_ports.specs.Ports.{HasPorts, port_inputs, port_outputs, shown_port, sink_inputs, sink_outputs, source_inputs, source_outputs}
use Rattle.sim_run.specs.declared.buffers.Buffers.{Buffers}
use Rattle.sim_run.specs.Buffering.{FitsPorts}
use Rattle.sim_run.specs.Turning.{input_widths}

-- rows that are as long as each other
rows : {A B : Type 0} (f : A → List B) (long : ℕ) → ((x : A) → length (f x) ≡ long) → (xs : List A) → length (flat_map f xs) ≡ length xs * long
rows f long h [] = omega arith
rows f long h (x ∷ xs) =
    let rest : length (flat_map f xs) ≡ length xs * long = rows f long h xs in
    let first : length (f x) ≡ long = h x in
    let both : length (f x ++ flat_map f xs) ≡ length (f x) + length (flat_map f xs) = length-append (f x) (flat_map f xs) in
    let row = suc-mul (length xs) long in
    omega (arith, rest, first, both, row)

pub inputs_many : (plan : Plan) (netlist : Netlist) → HasPorts plan netlist → length (input_widths netlist) ≡ 1 + 9 * length plan.sources + 7 * length plan.sinks
inputs_many plan netlist h =
    let widths : length (input_widths netlist) ≡ length netlist.inputs = length-map netlist.inputs (λ (port : Port). port.width) in
    let all : length netlist.inputs ≡ length (port_inputs plan) + 1 = ap length h.inputs ∙ (let z : suc (length (port_inputs plan)) ≡ length (port_inputs plan) + 1 = omega arith in z) in
    let both = length-append (flat_map (source_inputs plan) plan.sources) (flat_map (sink_inputs plan) plan.sinks) in
    let sources : length (flat_map (source_inputs plan) plan.sources) ≡ length plan.sources * 9 = rows (source_inputs plan) 9 (λ at. refl) plan.sources in
    let sinks : length (flat_map (sink_inputs plan) plan.sinks) ≡ length plan.sinks * 7 = rows (sink_inputs plan) 7 (λ at. refl) plan.sinks in
    omega (arith, widths, all, both, sources, sinks)

pub outputs_many : (plan : Plan) (netlist : Netlist) → HasPorts plan netlist → length netlist.outputs ≡ 7 * length plan.sources + 9 * length plan.sinks
outputs_many plan netlist h =
    let all : length netlist.outputs ≡ length (port_outputs plan) = sym (length-map netlist.outputs (shown_port netlist)) ∙ ap length h.outputs in
    let both = length-append (flat_map (source_outputs plan) plan.sources) (flat_map (sink_outputs plan) plan.sinks) in
    let sources : length (flat_map (source_outputs plan) plan.sources) ≡ length plan.sources * 7 = rows (source_outputs plan) 7 (λ at. refl) plan.sources in
    let sinks : length (flat_map (sink_outputs plan) plan.sinks) ≡ length plan.sinks * 9 = rows (sink_outputs plan) 9 (λ at. refl) plan.sinks in
    omega (arith, all, both, sources, sinks)

-- room for as many values as the netlist has inputs and outputs, and for what each port offers
pub room_fits : (plan : Plan) (netlist : Netlist) (buffers : Buffers) → HasPorts plan netlist → buffers.widths.items ≡ input_widths netlist
    → length buffers.widths.items ≤ vec_capacity buffers.inputs → length buffers.outputs.items ≡ length netlist.outputs
    → length plan.sources ≤ vec_capacity buffers.sources → length plan.sinks ≤ vec_capacity buffers.sinks
    → FitsPorts buffers netlist (length plan.sources) (length plan.sinks)
room_fits plan netlist buffers has widths room shown sources sinks = record {
  widths = widths;
  inputs = ap length widths ∙ inputs_many plan netlist has;
  room = room;
  shown = shown;
  outputs = shown ∙ outputs_many plan netlist has;
  source_room = sources;
  sink_room = sinks;
}
