-- Ranges of ids, half open.
use Rattle.std.specs.Prelude.{ℕ, Bool, ◌<◌, ◌≤◌, ◌&&◌, nat_le, nat_lt, max, min}
use Rattle.dip_sets.specs.declared.ids.IdRange.{IdRange}

-- an id is in the range where it is from its start to before its end
abbrev pub HasId : IdRange → ℕ → Type 0
HasId range id = (range.start ≤ id) × (id < range.end)

-- the same as a test
abbrev pub has_id : IdRange → ℕ → Bool
has_id range id = nat_le range.start id && nat_lt id range.end

-- some id is in both
abbrev pub OverlapIds : IdRange → IdRange → Type 0
OverlapIds a b = (id : ℕ) × HasId a id × HasId b id

-- the same as a test
abbrev pub overlap_ids : IdRange → IdRange → Bool
overlap_ids a b = nat_lt (max a.start b.start) (min a.end b.end)

-- no id is in both
abbrev pub DisjointIds : IdRange → IdRange → Type 0
DisjointIds a b = (id : ℕ) → HasId a id → HasId b id → ⊥
