-- What calls on files and on an output do, as far as it is told, and when they fail.
use Rattle.std.specs.Prelude.{ℕ, ◌≡◌, ◌≢◌, ◌<◌, ◌≤◌, ◌-◌, ◌^◌, ◌⊎◌, List, ◌++◌, length, take, drop, Option, Some, None, MatchOption}
use Rattle.std.specs.Option.{option_map}

-- what is known of a name: nothing, or that there is no such file, or its bytes
abbrev pub Told : Type 0
Told = Option (Option (List ℕ))

-- what is seen of files: what is known of each name, and how many loads and saves of each name have failed
pub record FilesSeen : Type 0 where
  pub content : List ℕ → Told
  pub loads : List ℕ → ℕ
  pub saves : List ℕ → ℕ

-- what is seen of an output: the bytes written so far, where they are told, and how many puts have failed
pub record OutSeen : Type 0 where
  pub written : Option (List ℕ)
  pub faults : ℕ

-- a count is greater than before, or stands at the last value of a counter
abbrev pub Rose : ℕ → ℕ → Type 0
Rose before now = (before < now) ⊎ (now ≡ 2 ^ 64 - 1)

-- the count of loads of this name that have failed rose
abbrev pub LoadsRose : List ℕ → FilesSeen → FilesSeen → Type 0
LoadsRose name before now = Rose (before.loads name) (now.loads name)

-- the count of saves of this name that have failed rose
abbrev pub SavesRose : List ℕ → FilesSeen → FilesSeen → Type 0
SavesRose name before now = Rose (before.saves name) (now.saves name)

-- no count of a name is lower than before
abbrev pub NoneFell : (List ℕ → ℕ) → (List ℕ → ℕ) → Type 0
NoneFell before now = (name : List ℕ) → before name ≤ now name

-- every name holds what it held
abbrev pub SameContent : FilesSeen → FilesSeen → Type 0
SameContent before now = (name : List ℕ) → now.content name ≡ before.content name

-- every name but this one holds what it held
abbrev pub OthersSame : List ℕ → FilesSeen → FilesSeen → Type 0
OthersSame saved before now = (name : List ℕ) → name ≢ saved → now.content name ≡ before.content name

-- these are the first `max` bytes of a file, or all where it is shorter, as far as it is told; a missing file has none
abbrev pub AreFirst : ℕ → Told → List ℕ → Type 0
AreFirst max told bytes =
    (length bytes ≤ max) × MatchOption told (Unit {0}) (λ file. MatchOption file ⊥ (λ all. bytes ≡ take max all))

-- a list is longer by bytes at its end that meet a condition
abbrev pub Appends : (List ℕ → Type 0) → List ℕ → List ℕ → Type 0
Appends P before now = (take (length before) now ≡ before) × P (drop (length before) now)

-- a list is longer by the first `max` bytes of what the name holds
abbrev pub Loads : ℕ → List ℕ → FilesSeen → List ℕ → List ℕ → Type 0
Loads max name files before now = Appends (AreFirst max (files.content name)) before now

-- a list is longer by the first `max` bytes that a source had left, or all where they are fewer, as far as they are
-- known
abbrev pub TakesFirst : ℕ → Option (List ℕ) → List ℕ → List ℕ → Type 0
TakesFirst max left before now = Appends (AreFirst max (option_map (λ all. Some all) left)) before now

-- the name holds these bytes, as far as it is told
abbrev pub Saves : List ℕ → List ℕ → FilesSeen → FilesSeen → Type 0
Saves name bytes before now = now.content name ≡ option_map (λ _. Some bytes) (before.content name)

-- the bytes written so far, where they are told, after further bytes
abbrev pub appended : List ℕ → Option (List ℕ) → Option (List ℕ)
appended bytes told = option_map (λ written. written ++ bytes) told

-- these bytes were written
abbrev pub Writes : List ℕ → OutSeen → OutSeen → Type 0
Writes bytes before now = now.written ≡ appended bytes before.written

-- the first of these bytes were written, or none, and not all
abbrev pub WritesPart : List ℕ → OutSeen → OutSeen → Type 0
WritesPart bytes before now = (k : ℕ) × (k < length bytes) × Writes (take k bytes) before now

-- files of which nothing is told, with one count of faults for all names and calls
abbrev pub untold_files : ℕ → FilesSeen
untold_files faults = record { content = λ _. None; loads = λ _. faults; saves = λ _. faults }

-- an output of which nothing is told
abbrev pub untold_out : ℕ → OutSeen
untold_out faults = record { written = None; faults = faults }
