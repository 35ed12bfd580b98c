-- The slots of a shrinker by what its registers hold: which request passes, with which new id, and what they hold then.
use Rattle.std.specs.Prelude.{ℕ, ◌+◌, ◌-◌, ◌==◌, Bool, ◌&&◌, ◌||◌, not, List, [], ◌∷◌, Option, Some, None, is_some, if◌then◌else◌}
use Rattle.std.specs.Option.{unwrap_or}
use Rattle.net_build.specs.Bits.{zeros}
use Rattle.net_table.specs.Tables.{entries_written}

-- the place of the first of some numbers that isn't 1, counted from a place
abbrev pub first_free : ℕ → List ℕ → Option ℕ
first_free from [] = None
first_free from (taken ∷ more) = if taken == 1 then first_free (from + 1) more else Some from

-- how many beats of a message are left after a cycle, in which one passes or none: so many follow one that begins it
abbrev pub left_then : Bool → ℕ → ℕ → ℕ
left_then go left rest = if go then (if left == 0 then rest else left - 1) else left

-- the new id of the request in progress, and how many of its beats are left, 0 where none is in progress; for each new
-- id 1 where it isn't free, and the old id that it stands for
pub record SlotSide : Type 0 where
  pub id : ℕ
  pub asking : ℕ
  pub taken : List ℕ
  pub olds : List ℕ

-- whether a beat of a request is there, and room for it; its old id; how many beats follow it; whether the last beat of
-- a response passes; its new id
pub record SlotSight : Type 0 where
  pub wants : Bool
  pub old : ℕ
  pub rest : ℕ
  pub frees : Bool
  pub new : ℕ

-- a beat passes where it is one of the request in progress, or a new id is free
abbrev pub slot_passes : SlotSide → SlotSight → Bool
slot_passes s x = x.wants && (not (s.asking == 0) || is_some (first_free 0 s.taken))

-- with the id in progress, or the lowest free one
abbrev pub slot_id : SlotSide → ℕ
slot_id s = if s.asking == 0 then unwrap_or (first_free 0 s.taken) 0 else s.id

-- it takes a slot where it begins a message
abbrev pub slot_begins : SlotSide → SlotSight → Bool
slot_begins s x = slot_passes s x && (s.asking == 0)

-- the slots after a cycle: the request's is taken, and then the response's freed
abbrev pub slots_after : SlotSide → SlotSight → SlotSide
slots_after s x = record {
  id = slot_id s;
  asking = left_then (slot_passes s x) s.asking x.rest;
  taken = entries_written x.frees x.new 0 (entries_written (slot_begins s x) (slot_id s) 1 s.taken);
  olds = entries_written (slot_begins s x) (slot_id s) x.old s.olds;
}

-- as they begin: so many, all free
abbrev pub idle_slots : ℕ → SlotSide
idle_slots count = record { id = 0; asking = 0; taken = zeros count; olds = zeros count }
