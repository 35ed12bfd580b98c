use Rattle.std.proofs.Common.{◌≡◌, ◌+◌, ◌++◌, take}
use Rattle.sim_events.proofs.inputs.add_values.Given as goal

abbrev pub invariant-loop-value : goal.invariant-loop-value
invariant-loop-value l = record {
  values : l.inputs.items ≡ l.fn.inputs.items ++ take l.value-index l.values;
  long : l.inputs.len ≡ l.fn.inputs.len + l.value-index;
  room : l.inputs.cap ≡ l.fn.inputs.cap;
}
