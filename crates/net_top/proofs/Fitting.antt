-- What ports offer fits the inputs of a netlist that has their wires, so that there is one run.
use Rattle.std.proofs.Common.{◌≡◌, ℕ, zero, suc, ◌<◌, ◌^◌, Bool, true, false, List, [], ◌∷◌, ◌++◌, length, map, flat_map, Option, Some, None, refl, sym, ap, ◌∙◌, subst, arith, slice_get}
use Rattle.std.specs.Prelude.{All, slice_index}
use Rattle.std.specs.Int.{from_bool}
use Rattle.std.proofs.lemmas.Nat.{pow_pos}
use Rattle.std.proofs.lemmas.List.{get_or_append_left, length-append, length-map, map-append}
use Rattle.std.proofs.lemmas.List.Elements.{All-map, All-weaker}
use Rattle.tl_edge.specs.declared.beat.ABeat.{ABeat}
use Rattle.tl_edge.specs.declared.beat.DBeat.{DBeat}
use Rattle.tl_edge.specs.declared.beat.Tag.{Tag}
use Rattle.tl_edge.specs.declared.bundle.Bundle.{Bundle}
use Rattle.tl_edge.specs.declared.plan.PlanPort.{PlanPort}
use Rattle.tl_edge.specs.declared.plan.Plan.{Plan}
use Rattle.tl_edge.specs.Wires.{FitWires, a_fields, a_widths, d_fields, d_widths}
use Rattle.flow_choice.specs.declared.offers.Offers.{Offers}
use Rattle.net_cells.specs.declared.netlist.Cell.{Cell}
use Rattle.net_cells.specs.declared.netlist.Netlist.{Netlist}
use Rattle.net_cells.specs.declared.netlist.Port.{Port}
use Rattle.net_cells.specs.declared.netlist.Reg.{Reg}
use Rattle.net_cells.specs.Loops.{EachRunIsOne}
use Rattle.net_cells.specs.Rules.{width_at, widths}
use Rattle.net_cells.specs.Values.{AreInputs}
use Rattle.net_ports.specs.Implementing.{input_values, request_values, response_values, sink_values, source_values}
use Rattle.net_ports.specs.Ports.{HasPorts, bundle_at, port_inputs, reset_input, sink_inputs, source_inputs}
use Rattle.net_ports.specs.Rows.{widths_of_ports}
use Rattle.net_top.specs.Runs.{FitPortWires, RunsLaw}

-- ---- values of some widths

fit_long : (xs ws : List ℕ) → FitWires xs ws → length xs ≡ length ws
fit_long [] [] f = refl
fit_long [] (w ∷ ws) f = absurd f
fit_long (x ∷ xs) [] f = absurd f
fit_long (x ∷ xs) (w ∷ ws) f = ap suc (fit_long xs ws f.1)

fit_both : (xs ws ys us : List ℕ) → FitWires xs ws → FitWires ys us → FitWires (xs ++ ys) (ws ++ us)
fit_both [] [] ys us f g = g
fit_both [] (w ∷ ws) ys us f g = absurd f
fit_both (x ∷ xs) [] ys us f g = absurd f
fit_both (x ∷ xs) (w ∷ ws) ys us f g = (f.0, fit_both xs ws ys us f.1 g)

fit_at : (xs ws : List ℕ) (k : ℕ) → FitWires xs ws → k < length xs → slice_index xs k < 2 ^ slice_index ws k
fit_at [] ws k f l = absurd (omega (arith, l))
fit_at (x ∷ xs) [] k f l = absurd f
fit_at (x ∷ xs) (w ∷ ws) zero f l = f.0
fit_at (x ∷ xs) (w ∷ ws) (suc k) f l = fit_at xs ws k f.1 (omega (arith, l))

flag_fits : (flag : Bool) → from_bool flag < 2 ^ 1
flag_fits true = omega arith
flag_fits false = omega arith

-- ---- one port

request_fits : (bundle : Bundle) (beat : Option (ABeat × Tag)) → ((b : ABeat × Tag) → beat ≡ Some b → FitWires (a_fields b.0) (a_widths bundle)) → FitWires (request_values beat) (1 ∷ a_widths bundle)
request_fits bundle None f = (pow_pos 1, (pow_pos 3, (pow_pos 3, (pow_pos _, (pow_pos _, (pow_pos _, (pow_pos _, (pow_pos _, tt))))))))
request_fits bundle (Some b) f = (flag_fits true, f b refl)

response_fits : (bundle : Bundle) (beat : Option (DBeat × Tag)) → ((b : DBeat × Tag) → beat ≡ Some b → FitWires (d_fields b.0) (d_widths bundle)) → FitWires (response_values beat) (1 ∷ d_widths bundle)
response_fits bundle None f = (pow_pos 1, (pow_pos 3, (pow_pos _, (pow_pos _, (pow_pos 1, (pow_pos _, tt))))))
response_fits bundle (Some b) f = (flag_fits true, f b refl)

source_fits : (plan : Plan) (at : PlanPort) (beat : Option (ABeat × Tag)) (take : Bool) → ((b : ABeat × Tag) → beat ≡ Some b → FitWires (a_fields b.0) (a_widths (bundle_at plan at)))
    → FitWires (request_values beat ++ from_bool take ∷ []) (widths_of_ports (source_inputs plan at))
source_fits plan at beat take f = fit_both (request_values beat) (1 ∷ a_widths (bundle_at plan at)) (from_bool take ∷ []) (1 ∷ []) (request_fits (bundle_at plan at) beat f) (flag_fits take, tt)

sink_fits : (plan : Plan) (at : PlanPort) (beat : Option (DBeat × Tag)) (take : Bool) → ((b : DBeat × Tag) → beat ≡ Some b → FitWires (d_fields b.0) (d_widths (bundle_at plan at)))
    → FitWires (from_bool take ∷ response_values beat) (widths_of_ports (sink_inputs plan at))
sink_fits plan at beat take f = (flag_fits take, response_fits (bundle_at plan at) beat f)

-- ---- all ports

all_widths : (f : PlanPort → List Port) (at : PlanPort) (ports : List PlanPort) → widths_of_ports (flat_map f (at ∷ ports)) ≡ widths_of_ports (f at) ++ widths_of_ports (flat_map f ports)
all_widths f at ports = map-append (λ (port : Port). port.width) (f at) (flat_map f ports)

first_is : {A : Type 0} (x y : Option A) (xs : List (Option A)) → x ≡ y → slice_get (x ∷ xs) 0 ≡ Some y
first_is {A = A} x y xs e = ap (λ (o : Option A). Some o) e

sources_fit : (plan : Plan) (ports : List PlanPort) (offered : List (Option (ABeat × Tag))) (takes : List Bool) → length offered ≡ length ports → length takes ≡ length ports
    → ((k : ℕ) (at : PlanPort) (beat : ABeat × Tag) → slice_get ports k ≡ Some at → slice_get offered k ≡ Some (Some beat) → FitWires (a_fields beat.0) (a_widths (bundle_at plan at)))
    → FitWires (source_values offered takes) (widths_of_ports (flat_map (source_inputs plan) ports))
sources_fit plan [] [] takes a b f = tt
sources_fit plan [] (o ∷ offered) takes a b f = absurd (omega (arith, a))
sources_fit plan (at ∷ ports) [] takes a b f = absurd (omega (arith, a))
sources_fit plan (at ∷ ports) (o ∷ offered) [] a b f = absurd (omega (arith, b))
sources_fit plan (at ∷ ports) (o ∷ offered) (t ∷ takes) a b f =
    let own = source_fits plan at o t (λ beat e. f 0 at beat refl (first_is o (Some beat) offered e)) in
    let rest = sources_fit plan ports offered takes (omega (arith, a)) (omega (arith, b)) (λ k x beat p q. f (suc k) x beat p q) in
    subst (λ ws. FitWires (source_values (o ∷ offered) (t ∷ takes)) ws) (sym (all_widths (source_inputs plan) at ports))
    (fit_both (request_values o ++ from_bool t ∷ []) (widths_of_ports (source_inputs plan at)) (source_values offered takes) (widths_of_ports (flat_map (source_inputs plan) ports)) own rest)

sinks_fit : (plan : Plan) (ports : List PlanPort) (offered : List (Option (DBeat × Tag))) (takes : List Bool) → length offered ≡ length ports → length takes ≡ length ports
    → ((k : ℕ) (at : PlanPort) (beat : DBeat × Tag) → slice_get ports k ≡ Some at → slice_get offered k ≡ Some (Some beat) → FitWires (d_fields beat.0) (d_widths (bundle_at plan at)))
    → FitWires (sink_values takes offered) (widths_of_ports (flat_map (sink_inputs plan) ports))
sinks_fit plan [] offered [] a b f = tt
sinks_fit plan [] offered (t ∷ takes) a b f = absurd (omega (arith, b))
sinks_fit plan (at ∷ ports) offered [] a b f = absurd (omega (arith, b))
sinks_fit plan (at ∷ ports) [] (t ∷ takes) a b f = absurd (omega (arith, a))
sinks_fit plan (at ∷ ports) (o ∷ offered) (t ∷ takes) a b f =
    let own = sink_fits plan at o t (λ beat e. f 0 at beat refl (first_is o (Some beat) offered e)) in
    let rest = sinks_fit plan ports offered takes (omega (arith, a)) (omega (arith, b)) (λ k x beat p q. f (suc k) x beat p q) in
    subst (λ ws. FitWires (sink_values (t ∷ takes) (o ∷ offered)) ws) (sym (all_widths (sink_inputs plan) at ports))
    (fit_both (from_bool t ∷ response_values o) (widths_of_ports (sink_inputs plan at)) (sink_values takes offered) (widths_of_ports (flat_map (sink_inputs plan) ports)) own rest)

-- ---- the inputs of a netlist

all_fit : (plan : Plan) (offers : Offers) → FitPortWires plan offers → FitWires (input_values offers) (widths_of_ports (reset_input ∷ port_inputs plan))
all_fit plan offers h =
    let one = flat_map (source_inputs plan) plan.sources in
    let two = flat_map (sink_inputs plan) plan.sinks in
    let xs = source_values offers.enter offers.take_d in
    let ys = sink_values offers.take_a offers.reply in (
      pow_pos 1,
      subst (λ ws. FitWires (xs ++ ys) ws) (sym (map-append (λ (port : Port). port.width) one two))
          (fit_both xs (widths_of_ports one) ys (widths_of_ports two) (sources_fit plan plan.sources offers.enter offers.take_d h.enter_long h.take_d_long h.enters) (sinks_fit plan plan.sinks offers.reply offers.take_a h.reply_long h.take_a_long h.replies)),
    )

are_inputs : (plan : Plan) (netlist : Netlist) (offers : Offers) → HasPorts plan netlist → FitPortWires plan offers → AreInputs netlist (input_values offers)
are_inputs plan netlist offers ports h =
    let xs = input_values offers in
    let ws = widths_of_ports netlist.inputs in
    let rs = map (λ (r : Reg). r.width) netlist.regs in
    let cs = map (λ (c : Cell). c.width) netlist.cells in
    let fits : FitWires xs ws = subst (λ (ps : List Port). FitWires xs (widths_of_ports ps)) (sym ports.inputs) (all_fit plan offers h) in
    let long : length xs ≡ length ws = fit_long xs ws fits in
    record {
      long = long ∙ length-map netlist.inputs (λ (port : Port). port.width);
      fit = λ k l.
          let m : k < length ws = omega (arith, l, long) in
          let same : width_at (widths netlist) k ≡ slice_index ws k = get_or_append_left (ws ++ rs) cs 0 k (omega (arith, m, length-append ws rs)) ∙ get_or_append_left ws rs 0 k m in
          subst (λ (w : ℕ). slice_index xs k < 2 ^ w) (sym same) (fit_at xs ws k fits l);
    }

all_inputs : (plan : Plan) (netlist : Netlist) (cycles : List Offers) → HasPorts plan netlist → All (FitPortWires plan) cycles → All (AreInputs netlist) (map input_values cycles)
all_inputs plan netlist cycles ports h = All-map (AreInputs netlist) input_values cycles (All-weaker (FitPortWires plan) (λ offers. AreInputs netlist (input_values offers)) (λ offers f. are_inputs plan netlist offers ports f) cycles h)

pub port_runs : EachRunIsOne → RunsLaw
port_runs law plan netlist formed no_loop ports cycles h = law netlist formed no_loop (map input_values cycles) (all_inputs plan netlist cycles ports h)
