use Rattle.std.proofs.Common.{◌≡◌, ◌+◌, ◌*◌, ◌++◌, take}
use Rattle.sim_events.specs.Passing.{all_source_input}
use Rattle.sim_events.proofs.inputs.add_sources.Given as goal

abbrev pub invariant-loop-offer : goal.invariant-loop-offer
invariant-loop-offer l = record {
  values : l.inputs.items ≡ l.fn.inputs.items ++ all_source_input (take l.offer-index l.sources);
  long : l.inputs.len ≡ l.fn.inputs.len + 9 * l.offer-index;
  room : l.inputs.cap ≡ l.fn.inputs.cap;
}
