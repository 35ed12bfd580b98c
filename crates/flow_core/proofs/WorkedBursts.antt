-- The worked examples on messages of several beats, computed.
use Rattle.std.proofs.Common.{refl}
use Rattle.std.specs.Int.Count.{ones}
use Rattle.tl_edge.specs.Bundles.{halvings}
use Rattle.flow_core.specs.ExampleBursts.{CrossbarBursts, ShrinkerBursts, WidthBursts, FragmenterBursts, LinesExample}

pub crossbar_bursts : CrossbarBursts
crossbar_bursts = record {
  response = refl;
  long_response = refl;
  goes_on = refl;
  ends = refl;
  other_output = refl;
  last_output = refl;
  no_output = refl;
  get_holds_nothing = refl;
  put_holds = refl;
  nobody_there = refl;
}

pub shrinker_bursts : ShrinkerBursts
shrinker_bursts = record {
  goes_on = refl;
  longer = refl;
  with_no_other = refl;
  later_first = refl;
  then_earlier = refl;
}

pub width_bursts : WidthBursts
width_bursts = record {
  absorbed = refl;
  joined = refl;
  last = refl;
  stays = refl;
  ends_wide = refl;
  split_answer = refl;
  split_further = refl;
  get_keeps = refl;
  same_width = refl;
  same_width_back = refl;
  no_data = refl;
}

pub fragmenter_bursts : FragmenterBursts
unfolding halvings ones
fragmenter_bursts = record {
  first = refl;
  second = refl;
  not_alone = refl;
  waits = refl;
  answered = refl;
  denied = refl;
  third = refl;
  last_answer = refl;
  back = refl;
  get_denied = refl;
}

pub lines_example : LinesExample
lines_example = record {
  crossbar = λ tag. refl;
  crossbar_id = refl;
  crossbar_back = λ tag. refl;
  shrinker = λ tag. refl;
  shrinker_input = refl;
  shrinker_back = λ tag. refl;
  width = λ tag. refl;
  width_id = refl;
  width_back = λ tag. refl;
}
