-- Which of several requests is granted.
use Rattle.std.specs.Prelude.{◌≡◌, ℕ, ◌≤◌, Bool, false, not, List, length, map, find, Option, Some, None, nat_eq, nat_lt, if◌then◌else◌}
use Rattle.std.specs.List.{range_with_len}
use Rattle.tl_params.specs.declared.ops.Policy.{Policy}
use Rattle.tl_params.specs.declared.ops.Policy.TheVariants.{Lowest, Round}
use Rattle.flow_choice.specs.Choosing.{flag_at}
use Rattle.flow_choice.specs.Turns.{in_turn}
use Rattle.net_build.specs.Folds.{firsts_of}
use Rattle.net_choice.specs.declared.rows.Pairing.TheVariants.{Both, Either}
use Rattle.net_choice.specs.Rows.{any_of, paired, pairs}

-- the first of those that come late, and where there is none the first of all
abbrev pub late_first : List Bool → List Bool → List Bool
late_first late may = pairs (paired Either) (firsts_of false late) (firsts_of (any_of late) may)

-- the one of these requests that is granted: the first, or going round the first in turn, where those behind the last
-- winner come late
abbrev pub grants_of : Bool → List Bool → List Bool → List Bool
grants_of round late may =
    if round then late_first (pairs (paired Both) may late) may else firsts_of false may

-- the policy: going round, or not
abbrev pub policy_if : Bool → Policy
policy_if round = if round then Round else Lowest

-- the first in turn of so many that may
abbrev pub pick : Bool → ℕ → ℕ → (ℕ → Bool) → Option ℕ
pick round next count may = find may (in_turn (policy_if round) next count)

-- whether it is this number
abbrev pub is_number : Option ℕ → ℕ → Bool
is_number None n = false
is_number (Some m) n = nat_eq m n

-- a flag for each of so many: whether it is that one
abbrev pub one_hot : ℕ → Option ℕ → List Bool
one_hot count which = map (is_number which) (range_with_len 0 count)

-- those at or behind the next, of so many
abbrev pub lates_of : ℕ → ℕ → List Bool
lates_of next count = map (λ k. not (nat_lt k next)) (range_with_len 0 count)

-- The granted request is the first in turn of those that may.
abbrev pub GrantsArePick : Type 0
GrantsArePick =
    (round : Bool) (next : ℕ) (may : List Bool) → next ≤ length may
    → grants_of round (lates_of next (length may)) may
    ≡ one_hot (length may) (pick round next (length may) (flag_at may))
