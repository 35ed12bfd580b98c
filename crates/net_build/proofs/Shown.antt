-- A builder with one more output.
use Rattle.std.proofs.Common.{◌≡◌, ◌≢◌, ℕ, List, [], ◌∷◌, ◌++◌, length, map, refl, sym, ap, ◌∙◌, subst, arith}
use Rattle.std.proofs.lemmas.List.{map-append, append_assoc, take_all}
use Rattle.std.proofs.Math.Seq.{take-append_seam}
use Rattle.net_cells.specs.declared.netlist.OutPort.{OutPort}
use Rattle.net_cells.specs.declared.netlist.Port.{Port}
use Rattle.net_build.specs.declared.types.Wire.{Wire}
use Rattle.net_build.specs.Built.{Built, inputs, names, IsNewName, IsWire}
use Rattle.net_build.specs.Values.{AddsOutput}
use Rattle.net_build.specs.Sound.{IsWellBuilt, Differ}
use Rattle.net_build.proofs.Lists.{all_more, all_listed, differ_last}

abbrev pub shown : Built → OutPort → Built
shown b port = record { name = b.name; made = b.made; outputs = b.outputs ++ port ∷ [] }

names_shown : (b : Built) (port : OutPort) → names (shown b port) ≡ names b ++ port.name ∷ []
names_shown b port =
    let outs = map (λ (o : OutPort). o.name) b.outputs in
    let ins = map (λ (p : Port). p.name) (inputs b) in
    ap (λ (x : List (List ℕ)). ins ++ x) (map-append (λ (o : OutPort). o.name) b.outputs (port ∷ [])) ∙ sym (append_assoc ins outs (port.name ∷ []))

pub output_sound : (b : Built) (name : List ℕ) (w : Wire) → IsWellBuilt b → IsNewName b name → IsWire b w → IsWellBuilt (shown b (record { name = name; net = w.number }))
output_sound b name w s n h =
    let port : OutPort = record { name = name; net = w.number } in
    record {
      name = s.name;
      reset = s.reset;
      sized = s.sized;
      gates = s.gates;
      nexts = s.nexts;
      held = s.held;
      resets = λ k m d e f v q z. s.resets k m d e f v (record { fits = q.fits; gates = q.gates }) z;
      ports = s.ports;
      shown = all_more _ b.outputs port s.shown (n.named, h.has.0);
      distinct = subst Differ (sym (names_shown b port)) (differ_last (names b) name s.distinct (all_listed (λ y. y ≢ name) (names b) n.unused));
    }

pub output_adds : (b : Built) (port : OutPort) → AddsOutput b (shown b port) port
output_adds b port = record {
  later = record {
    back = λ v q. record { fits = q.fits; gates = q.gates };
    keeps = λ n i e. e;
    wires = λ n width e. e;
    ticks = λ v u t. record { takes = t.takes };
    starts = λ v t. record { holds = t.holds };
    name = refl;
    inputs = take_all (length (inputs b)) (inputs b) (omega arith);
    outputs = take-append_seam b.outputs (port ∷ []);
  };
  made = refl;
  inputs = refl;
  outputs = refl;
  undriven = refl;
}
