-- What files and an output in memory hold, and the calls made on them.
use Rattle.std.specs.Prelude.{ℕ, ◌≡◌, ◌≢◌, ◌⊎◌, List, Option, Some, None}
use Rattle.std.specs.Option.{option_map}
use Rattle.std.specs.BTreeMap.{get_by_text}
use Rattle.dip_io.specs.Counting.{FailsNext}
use Rattle.dip_io.specs.Outside.{FilesSeen, OutSeen}
use Rattle.dip_io.specs.declared.calls.Calls.{Calls}
use Rattle.dip_io.specs.declared.mem_files.MemFiles.{MemFiles}
use Rattle.dip_io.specs.declared.mem_out.MemOut.{MemOut}

-- the bytes that a name holds, if there is such a file
abbrev pub held_by : MemFiles → List ℕ → Option (List ℕ)
held_by files name = option_map (λ bytes. bytes.items) (get_by_text files.contents name)

-- every name holds what it held
abbrev pub HoldSame : MemFiles → MemFiles → Type 0
HoldSame before now = (name : List ℕ) → held_by now name ≡ held_by before name

-- every name but this one holds what it held
abbrev pub OthersHoldSame : List ℕ → MemFiles → MemFiles → Type 0
OthersHoldSame name before now = (other : List ℕ) → other ≢ name → held_by now other ≡ held_by before other

-- the loads and saves, counted together
abbrev pub calls_on : MemFiles → Calls
calls_on files = files.calls

-- a load of this name is to fail next, or there is no such file
abbrev pub LoadFails : List ℕ → MemFiles → Type 0
LoadFails name files = FailsNext (calls_on files) ⊎ (held_by files name ≡ None)

-- everything is told, with one count of faults for all names
abbrev pub files_seen : MemFiles → FilesSeen
files_seen files = record {
  content = λ name. Some (held_by files name);
  loads = λ _. files.calls.failed;
  saves = λ _. files.calls.failed;
}

-- the bytes written so far
abbrev pub written_to : MemOut → List ℕ
written_to out = out.bytes.items

-- the most bytes that one put takes
abbrev pub most_of : MemOut → ℕ
most_of out = out.most

-- the puts
abbrev pub puts_on : MemOut → Calls
puts_on out = out.puts

-- everything is told
abbrev pub out_seen : MemOut → OutSeen
out_seen out = record { written = Some (written_to out); faults = out.puts.failed }
