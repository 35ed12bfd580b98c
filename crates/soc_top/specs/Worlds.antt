-- What a run sees of files and output, and what each command does there alike.
use Rattle.std.specs.Prelude.{ℕ, ◌+◌, ◌≡◌, ◌≢◌, List, Option, Some}
use Rattle.dip_io.specs.Outside.{FilesSeen, OutSeen, Rose, LoadsRose, AreFirst, Writes, WritesPart}
use Rattle.soc_design.specs.Reading.{most_bytes}
use Rattle.soc_report.specs.declared.status.Status.TheVariants.{ReadFailed}
use Rattle.soc_report.specs.Lines.{line_of}

-- what a run sees of files and output
pub record World : Type 0 where
  pub files : FilesSeen
  pub out : OutSeen

-- the world of these files and this output
abbrev pub world : FilesSeen → OutSeen → World
world files out = record { files = files; out = out }

-- the most bytes of a design file that are loaded: one more than a design may have
abbrev pub most_loaded : ℕ
most_loaded = most_bytes + 1

-- these bytes are what was loaded of a file, of which at most so many are, as far as that is told
abbrev pub IsLoaded : ℕ → List ℕ → World → List ℕ → Type 0
IsLoaded most name before bytes = AreFirst most (before.files.content name) bytes

-- the file wasn't loaded: more loads of this name have failed, and the line that says so was printed
abbrev pub WasNotLoaded : List ℕ → World → World → Type 0
WasNotLoaded name before after =
    LoadsRose name before.files after.files × Writes (line_of ReadFailed) before.out after.out

-- a text that is due on a file: the line of a load that failed, or what the loaded bytes call for
pub data Due (most : ℕ) (called : List ℕ → List ℕ) (name : List ℕ) (before after : World)
    (text : List ℕ) : Type 0 where
  read_failed : LoadsRose name before.files after.files → text ≡ line_of ReadFailed
      → Due most called name before after text
  loaded : (bytes : List ℕ) → IsLoaded most name before bytes → text ≡ called bytes
      → Due most called name before after text

-- a write failed: more puts have failed, and the first part of a text that was due was written
abbrev pub WasCutOff : (List ℕ → Type 0) → World → World → Type 0
WasCutOff IsDue before after =
    Rose before.out.faults after.out.faults × ((text : List ℕ) × IsDue text × WritesPart text before.out after.out)

-- every name but the one that may be saved, if there is one, holds what it held
abbrev pub KeepsOthers : Option (List ℕ) → FilesSeen → FilesSeen → Type 0
KeepsOthers saved before after = (name : List ℕ) → saved ≢ Some name → after.content name ≡ before.content name

-- nothing was printed
abbrev pub NothingPrinted : World → World → Type 0
NothingPrinted before after = after.out.written ≡ before.out.written
