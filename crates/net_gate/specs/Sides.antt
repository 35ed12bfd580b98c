-- One gate of a crossbar by what its registers hold: which head it takes, and what they hold then.
use Rattle.std.specs.Prelude.{ℕ, ◌-◌, ◌==◌, Bool, false, ◌&&◌, List, [], ◌∷◌, length, replicate, if◌then◌else◌}
use Rattle.net_choice.specs.declared.rows.Pairing.TheVariants.{Both, Either}
use Rattle.net_choice.specs.Choice.{grants_of}
use Rattle.net_choice.specs.Rows.{any_of, behind_of, paired, pairs}

-- how many beats are left of the message that holds the gate, 0 where none does; whose message that is; those behind
-- the last winner
pub record GateSide : Type 0 where
  pub left : ℕ
  pub mine : List Bool
  pub late : List Bool

-- which heads are offered, whether there is room, and how many beats follow each head
pub record Asked : Type 0 where
  pub wants : List Bool
  pub room : Bool
  pub rests : List ℕ

-- which heads may pass: those that are offered, where there is room and nobody holds the gate, or they hold it
abbrev pub may_of : Bool → List Bool → List Bool → Bool → List Bool
may_of unlocked mine wants room =
    pairs (paired Both)
    (pairs (paired Both) wants (pairs (paired Either) (replicate (length mine) unlocked) mine))
    (replicate (length wants) room)

-- which one does
abbrev pub grants_in : Bool → GateSide → Asked → List Bool
grants_in round s x = grants_of round s.late (may_of (s.left == 0) s.mine x.wants x.room)

-- the number at the place of the first pick that is true, 0 where none is
abbrev pub picked_rest : List Bool → List ℕ → ℕ
picked_rest [] xs = 0
picked_rest (pick ∷ picks) [] = 0
picked_rest (pick ∷ picks) (x ∷ xs) = if pick then x else picked_rest picks xs

-- the state after a cycle in which these are granted, and whether one is
abbrev pub after_grants : Bool → GateSide → Asked → List Bool → Bool → GateSide
after_grants round s x grants go = record {
  left = if go then (if s.left == 0 then picked_rest grants x.rests else s.left - 1) else s.left;
  mine = if go then grants else s.mine;
  late = if round then (if go && (s.left == 0) then behind_of false grants else s.late) else s.late;
}

-- the state after a cycle
abbrev pub side_after : Bool → GateSide → Asked → GateSide
side_after round s x = after_grants round s x (grants_in round s x) (any_of (grants_in round s x))

-- how many are told to be late: all where turns go round
abbrev pub late_count : Bool → ℕ → ℕ
late_count round count = if round then count else 0

-- as it begins, with so many heads
abbrev pub idle_side : Bool → ℕ → GateSide
idle_side round count =
    record { left = 0; mine = replicate count false; late = replicate (late_count round count) false }
