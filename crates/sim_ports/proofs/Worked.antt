-- The worked examples, computed.
use Rattle.std.proofs.Common.{refl}
use Rattle.sim_ports.specs.Examples.{AtomicsExample, MemoriesExample, PortExample}
use Rattle.sim_ports.specs.SinkExample.{SinkExample}

pub atomics_example : AtomicsExample
atomics_example = record {
  lowest = refl;
  lowest_second = refl;
  highest = refl;
  highest_second = refl;
  minus_one_is_lower = refl;
  nought_is_higher = refl;
  both_negative = refl;
  higher_of_both = refl;
  not_negative_in_two = refl;
  widest_lowest = refl;
  widest_highest = refl;
  unsigned_lower = refl;
  unsigned_higher = refl;
  wraps = refl;
  wraps_not = refl;
  widest_wraps = refl;
  exclusive = refl;
  either = refl;
  both = refl;
  swapped = refl;
  carried = refl;
  bytes_swapped = refl;
}

pub memories_example : MemoriesExample
memories_example = record {
  low_bits = refl;
  all_bits = refl;
  not_there = refl;
  flagged = refl;
  unflagged = refl;
  none_comes = refl;
  last_place = refl;
  in_hole = refl;
}

pub port_example : PortExample
port_example = record {
  none_sent = refl;
  half_put = refl;
  put_sent = refl;
  get_sent = refl;
  all_sent = refl;
  due_of_two = refl;
  due_of_get = refl;
  none_due = refl;
  first_beat = refl;
  too_early = refl;
  in_time = refl;
  stalled = refl;
  busy = refl;
  waits = refl;
  free = refl;
  goes_on = refl;
  finished = refl;
}

pub sink_example : SinkExample
sink_example = record {
  takes = refl;
  stalled_on_a = refl;
  none_yet = refl;
  goes_on = refl;
  half_offers = refl;
  holds = refl;
  too_early = refl;
  in_time = refl;
  stalled_on_d = refl;
  again = refl;
  takes_again = refl;
  passed = refl;
  one_cycle_more = refl;
  reads = refl;
  holds_on = refl;
  second = refl;
  waits = refl;
  free = refl;
  denied = refl;
  denied_too = refl;
}
