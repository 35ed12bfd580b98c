-- The shrinker: each request gets one of few new ids, which its response gives back.
use Rattle.std.specs.Prelude.{ℕ, ◌-◌, ◌==◌, Bool, false, cond, nat_lt, List, Option, Some, None, is_none, slice_get, slice_set}
use Rattle.std.specs.Option.{option_and_then, option_map, unwrap_or}
use Rattle.tl_edge.specs.declared.beat.ABeat.{ABeat}
use Rattle.tl_edge.specs.declared.beat.DBeat.{DBeat}
use Rattle.tl_edge.specs.Beats.{request_beats, response_beats}
use Rattle.flow_core.specs.Acts.{Act, forwards, with_a_id, with_d_id}

-- the request in progress: its new id, and how many of its beats are left
pub record Asking : Type 0 where
  pub id : ℕ
  pub left : ℕ

-- the state: for each new id, free or the old id that it stands for; the request in progress; and how many beats are
-- left of the response in progress, 0 where none is
pub record Slots : Type 0 where
  pub olds : List (Option ℕ)
  pub asking : Option Asking
  pub answering : ℕ

-- a new id exists and is free
abbrev pub is_free : List (Option ℕ) → ℕ → Bool
is_free olds id = cond (is_none (slice_get olds id)) false (is_none (unwrap_or (slice_get olds id) None))

-- the old id that a new id stands for
abbrev pub old_of : List (Option ℕ) → ℕ → Option ℕ
old_of olds id = option_and_then (λ old. old) (slice_get olds id)

-- what is in progress of a request of so many beats, after one of them
abbrev pub asking_after : ℕ → ℕ → Option Asking
asking_after id beats = cond (nat_lt 1 beats) (Some (record { id = id; left = beats - 1 })) None

-- the first beat of a request takes a free id; a later one goes with the id in progress
abbrev pub shrink_down_in : Option Asking → ℕ → Slots → ℕ → ABeat → Option (Act ABeat Slots)
shrink_down_in None width slots id beat =
    cond (is_free slots.olds id)
    (Some (forwards (with_a_id id beat) (record {
      olds = slice_set slots.olds id (Some beat.source);
      asking = asking_after id (request_beats beat.op beat.size width);
      answering = slots.answering;
    })))
    None
shrink_down_in (Some asking) width slots id beat =
    cond (asking.id == id)
    (Some (forwards (with_a_id id beat) (record {
      olds = slots.olds;
      asking = asking_after id asking.left;
      answering = slots.answering;
    })))
    None

-- channel A with a new id, on buses of a width
abbrev pub shrink_down : ℕ → Slots → ℕ → ABeat → Option (Act ABeat Slots)
shrink_down width slots id beat = shrink_down_in slots.asking width slots id beat

-- how many beats of a response of so many are left after this one, where so many were left of the one in progress
abbrev pub left_after : ℕ → ℕ → ℕ
left_after answering beats = cond (answering == 0) beats answering - 1

-- a beat of a response with its old id; the last one frees the new id
abbrev pub answered : Slots → DBeat → ℕ → ℕ → Act DBeat Slots
answered slots beat left old = forwards (with_d_id old beat) (record {
  olds = cond (left == 0) (slice_set slots.olds beat.source None) slots.olds;
  asking = slots.asking;
  answering = left;
})

-- channel D, on buses of a width
abbrev pub shrink_up : ℕ → Slots → DBeat → Option (Act DBeat Slots)
shrink_up width slots beat =
    option_map (answered slots beat (left_after slots.answering (response_beats beat.op beat.size width)))
    (old_of slots.olds beat.source)
