use Rattle.std.proofs.Common.{◌≡◌, ◌+◌, ◌*◌, ◌++◌, take}
use Rattle.sim_events.specs.Passing.{all_sink_input}
use Rattle.sim_events.proofs.inputs.add_sinks.Given as goal

abbrev pub invariant-loop-offer : goal.invariant-loop-offer
invariant-loop-offer l = record {
  values : l.inputs.items ≡ l.fn.inputs.items ++ all_sink_input (take l.offer-index l.sinks);
  long : l.inputs.len ≡ l.fn.inputs.len + 7 * l.offer-index;
  room : l.inputs.cap ≡ l.fn.inputs.cap;
}
