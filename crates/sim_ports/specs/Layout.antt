-- Bytes at addresses as they are kept: runs of contiguous addresses in rising order, and the bytes of all runs in a
-- row.
use Rattle.std.specs.Prelude.{ℕ, ◌≡◌, ◌+◌, ◌-◌, ◌≤◌, ◌<◌, ◌&&◌, nat_le, nat_lt, Bool, false, cond, Option, IsSome, IsTrue, Some, None, List, [], ◌∷◌, ◌++◌, length, slice_index, slice_index_or, option_map}
use Rattle.sim_ports.specs.declared.role.Role.{Role}
use Rattle.sim_ports.specs.declared.runs.Run.{Run}
use Rattle.tl_edge.specs.declared.message.Request.{Request}
use Rattle.tl_edge.specs.Messages.{IsRequest, bytes_of}
use Rattle.sim_ports.specs.Devices.{HeldBytes, is_atomic}

-- the run has the address
abbrev pub run_has : Run → ℕ → Bool
run_has run address = nat_le run.first address && nat_lt (address - run.first) run.count

-- where the byte of an address stands, if the run has it
abbrev pub place_in : Run → ℕ → Option ℕ
place_in run address = cond (run_has run address) (Some (run.place + (address - run.first))) None

-- where the byte of an address stands
abbrev pub place_in_runs : List Run → ℕ → Option ℕ
place_in_runs [] address = None
place_in_runs (run ∷ runs) address =
    cond (run_has run address) (Some (run.place + (address - run.first))) (place_in_runs runs address)

-- the byte at each address
abbrev pub kept : List Run → List ℕ → HeldBytes
kept runs bytes = λ address. option_map (slice_index bytes) (place_in_runs runs address)

-- so many addresses from one on have places
abbrev pub HasPlaces : List Run → ℕ → ℕ → Type 0
HasPlaces runs address count = (number : ℕ) → number < count → IsSome (place_in_runs runs (address + number))

-- runs from an address and a place on, with an address between any two that neither has; they end before another
-- address and at another place
abbrev pub AreSpaced : ℕ → ℕ → List Run → ℕ → ℕ → Type 0
AreSpaced low place [] high end = (low ≤ high) × (place ≡ end)
AreSpaced low place (run ∷ runs) high end =
    (low ≤ run.first) × (run.place ≡ place) × AreSpaced (run.first + run.count + 1) (place + run.count) runs high end

-- the runs of so many bytes
pub record AreByteRuns (runs : List Run) (end : ℕ) : Type 0 where
  pub high : ℕ
  pub spaced : AreSpaced 0 0 runs high end

-- a memory as it is kept
pub record Keeping : Type 0 where
  pub prepared : Bool
  pub role : Role
  pub runs : List Run
  pub bytes : List ℕ

-- runs and their bytes hold what is to be held
pub record IsLaidOut (runs : List Run) (bytes : List ℕ) (held : HeldBytes) : Type 0 where
  pub runs_are : AreByteRuns runs (length bytes)
  pub is : kept runs bytes ≡ held

-- the same while addresses are added in rising order: the last run may still grow, and has no address at first
pub record IsLaying (held : HeldBytes) (few : ℕ) (runs : List Run) (run : Run) (bytes : List ℕ) : Type 0 where
  pub high : ℕ
  pub spaced : AreSpaced 0 0 runs high run.place
  pub apart : high ≤ run.first
  pub ends : run.place + run.count ≡ length bytes
  pub bound : length bytes ≤ few
  pub at : (address : ℕ) → kept (runs ++ run ∷ []) bytes address ≡ held address

-- ---- what a memory asks of a request that it does

pub record MayBeDone (runs : List Run) (request : Request) : Type 0 where
  pub shape : IsRequest request
  pub small : IsTrue (is_atomic request.op) → request.size ≤ 3
  pub has : HasPlaces runs request.address (bytes_of request.size)

-- ---- where a search for an address goes

-- stands for a run where there is none
abbrev pub no_run : Run
no_run = record { first = 0; count = 0; place = 0 }

-- the first runs, so many, begin at the address or below it
abbrev pub AllBegin : List Run → ℕ → ℕ → Type 0
AllBegin runs address count = (k : ℕ) → k < count → (slice_index_or runs k no_run).first ≤ address

-- the runs from a place on begin above it
abbrev pub NoneBegins : List Run → ℕ → ℕ → Type 0
NoneBegins runs address from =
    (k : ℕ) → from ≤ k → k < length runs → address < (slice_index_or runs k no_run).first

-- ---- the first of some others, so many, in place of the bytes from a place on, where a flag is set

pub record IsReplaced (start count : ℕ) (flags : List Bool) (others before after : List ℕ) : Type 0 where
  pub below : (k : ℕ) → k < start → slice_index after k ≡ slice_index before k
  pub there : (k : ℕ) → k < count
      → slice_index after (start + k)
      ≡ cond (slice_index_or flags k false) (slice_index others k) (slice_index before (start + k))
  pub behind : (k : ℕ) → start + count ≤ k → slice_index after k ≡ slice_index before k
