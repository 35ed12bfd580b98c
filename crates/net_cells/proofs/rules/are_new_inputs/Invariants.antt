use Rattle.std.proofs.Common.{◌≡◌, drop, map}
use Rattle.net_cells.specs.declared.netlist.Port.{Port}
use Rattle.net_cells.specs.NameTables.{are_new, number_in, with_names}
use Rattle.net_cells.proofs.rules.are_new_inputs.Given as goal

abbrev pub invariant-loop-port : goal.invariant-loop-port
invariant-loop-port l = record {
  answer : are_new (number_in l.table) (map (λ (p : Port). p.name) (drop l.port-index l.inputs)) ≡ are_new (number_in l.initial.table) (map (λ (p : Port). p.name) l.inputs);
  known : with_names (number_in l.table) (map (λ (p : Port). p.name) (drop l.port-index l.inputs)) ≡ with_names (number_in l.initial.table) (map (λ (p : Port). p.name) l.inputs);
}
