-- The worked examples, computed.
use Rattle.std.proofs.Common.{refl}
use Rattle.dip_sets.specs.Assignments.{rounded}
use Rattle.flow_core.specs.Carried.{carries_a, carries_d}
use Rattle.flow_choice.specs.BurstExamples.{StraightExample, BurstExample}
use Rattle.flow_choice.specs.OrderlyExamples.{PassedExample}
use Rattle.flow_choice.specs.Examples.{TurnsExample, CycleExample}

pub turns_example : TurnsExample
turns_example = record { lowest = refl; round = refl; first = refl; last = refl; free = refl; begins = refl; goes_on = refl }

pub cycle_example : CycleExample
unfolding carries_a carries_d
cycle_example = record { lowest = refl; round = refl; held = refl }

pub passed_example : PassedExample
unfolding carries_a carries_d
passed_example = record {
  enters = refl;
  elsewhere = refl;
  leaves = refl;
  replies = refl;
  returns = refl;
  one_beat = refl;
  both = refl;
  single = refl;
}

pub straight_example : StraightExample
unfolding carries_a carries_d
straight_example = record { moves = refl }

pub burst_example : BurstExample
unfolding carries_a carries_d rounded
burst_example = record { lowest = refl; round = refl }
