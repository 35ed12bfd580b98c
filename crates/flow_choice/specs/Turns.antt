-- In which order those are asked among which there is a choice, by the policy of the plan.
use Rattle.std.specs.Prelude.{ℕ, ◌++◌, List, drop, take}
use Rattle.std.specs.List.{range_with_len}
use Rattle.tl_params.specs.declared.ops.Policy.{Policy}
use Rattle.tl_params.specs.declared.ops.Policy.TheVariants.{Lowest, Round}

-- so many in the order in which they are asked: from 0 on, or from the one whose turn is next on, going round
abbrev pub in_turn : Policy → ℕ → ℕ → List ℕ
in_turn Lowest next count = range_with_len 0 count
in_turn Round next count = drop next (range_with_len 0 count) ++ take next (range_with_len 0 count)
