-- The worked examples, computed.
use Rattle.std.proofs.Common.{refl}
use Rattle.std.specs.Int.Count.{ones}
use Rattle.dip_sets.specs.Assignments.{rounded}
use Rattle.tl_edge.specs.Bundles.{halvings}
use Rattle.flow_core.specs.Examples.{CrossbarExample, ShrinkerExample, WidthExample, FragmenterExample}

pub crossbar_example : CrossbarExample
unfolding rounded
crossbar_example = record {
  start = refl;
  first = refl;
  other_waits = refl;
  second = refl;
  not_there = refl;
  last_turn = refl;
  back = refl;
  not_back = refl;
}

pub shrinker_example : ShrinkerExample
shrinker_example = record {
  start = refl;
  first = refl;
  taken = refl;
  not_there = refl;
  burst = refl;
  back = refl;
  last_back = refl;
  free = refl;
}

pub width_example : WidthExample
width_example = record {
  start = refl;
  plain = refl;
  plain_back = refl;
  low_half = refl;
  high_half = refl;
  collected = refl;
  whole = refl;
  all_done = refl;
  not_kept = refl;
}

pub fragmenter_example : FragmenterExample
unfolding halvings ones
fragmenter_example = record {
  start = refl;
  first = refl;
  one_at_a_time = refl;
  first_answer = refl;
  second = refl;
  second_answer = refl;
  back = refl;
  last_back = refl;
  small = refl;
}
