-- How a run of `verilog` saves a text and prints what is due.
use Rattle.std.specs.Prelude.{ℕ, ◌≡◌, ◌⊎◌, List, Some, None}
use Rattle.dip_lists.specs.First.{Failure}
use Rattle.dip_io.specs.Outside.{LoadsRose, SameContent, Saves, SavesRose, Writes}
use Rattle.dip_rule.specs.Stated.{StatedRule}
use Rattle.net_cells.specs.declared.netlist.Netlist.{Netlist}
use Rattle.soc_report.specs.declared.status.Status.{Status}
use Rattle.soc_report.specs.declared.status.Status.TheVariants.{Done, ReadFailed, WriteFailed, Memory}
use Rattle.soc_report.specs.Lines.{line_of}
use Rattle.soc_report.specs.NetlistLine.{netlist_line}
use Rattle.soc_top.specs.Designs.{answer_of}
use Rattle.soc_top.specs.Netlists.{build_failure, IsVerilogOf}
use Rattle.soc_top.specs.Printing.{Printed}
use Rattle.soc_top.specs.Words.{BuildFiles}
use Rattle.soc_top.specs.Worlds.{World, IsLoaded, WasCutOff, NothingPrinted, most_loaded}

-- ---- what is said of a whole run

-- a line that is due on a design file: that of a load that failed, or that of the first check that the file fails
pub data DueLine (rules : List StatedRule) (name : List ℕ) (before after : World) (line : List ℕ) : Type 0 where
  not_loaded : LoadsRose name before.files after.files → line ≡ line_of ReadFailed
      → DueLine rules name before after line
  fails : (bytes : List ℕ) (failure : Failure) → IsLoaded most_loaded name before bytes
      → build_failure rules bytes ≡ Some failure → line ≡ line_of (answer_of (Some failure))
      → DueLine rules name before after line

-- a text of a netlist of a design file that was loaded and fails no check
pub record IsBuiltFrom (rules : List StatedRule) (name : List ℕ) (before : World) (netlist : Netlist)
    (text : List ℕ) : Type 0 where
  pub bytes : List ℕ
  pub loaded : IsLoaded most_loaded name before bytes
  pub passes : build_failure rules bytes ≡ None
  pub is : IsVerilogOf rules bytes netlist text

-- What a write that failed has left: a part of a line and all files as they were; or, where all before the save passed,
-- nothing printed and a text that more saves have failed to save; or that text saved whole, and a part of its netlist's
-- line.
pub data WasHalted (rules : List StatedRule) (names : BuildFiles) (before after : World) : Type 0 where
  on_line : SameContent before.files after.files → WasCutOff (DueLine rules names.design before after) before after
      → WasHalted rules names before after
  unsaved : (netlist : Netlist) (text : List ℕ) → IsBuiltFrom rules names.design before netlist text
      → SavesRose names.text before.files after.files → NothingPrinted before after
      → WasHalted rules names before after
  saved : (netlist : Netlist) (text : List ℕ) → IsBuiltFrom rules names.design before netlist text
      → Saves names.text text before.files after.files → WasCutOff (λ line. line ≡ netlist_line netlist) before after
      → WasHalted rules names before after

-- ---- what is said of its parts; only what isn't public cites it

-- a text is saved and its netlist's line written; or the save failed, and nothing was printed; or the text is saved,
-- and a part of the line was written
pub record IsSaved (netlist : Netlist) (text name : List ℕ) (before after : World) (result : Status) : Type 0 where
  pub either : (result ≡ Done) ⊎ (result ≡ WriteFailed)
  pub whole : result ≡ Done
      → Saves name text before.files after.files × Writes (netlist_line netlist) before.out after.out
  pub part : result ≡ WriteFailed
      → (SavesRose name before.files after.files × NothingPrinted before after)
      ⊎ (Saves name text before.files after.files × WasCutOff (λ line. line ≡ netlist_line netlist) before after)

-- want of memory: nothing was printed and no file has changed
pub record HasNoMemory (before after : World) (result : Status) : Type 0 where
  pub status : result ≡ Memory
  pub printed : NothingPrinted before after
  pub files : SameContent before.files after.files

-- a netlist is saved as a text, or there is want of memory for the text
abbrev pub SavesNetlist : Netlist → List ℕ → List ℕ → World → World → Status → Type 0
SavesNetlist netlist text name before after result =
    HasNoMemory before after result ⊎ IsSaved netlist text name before after result

-- a run on the bytes of a design file: want of memory; the line of the first check that fails; or, where none fails, a
-- text of a netlist of its design
pub data BuildRuns (rules : List StatedRule) (bytes name : List ℕ) (before after : World)
    (result : Status) : Type 0 where
  no_memory : HasNoMemory before after result → BuildRuns rules bytes name before after result
  refused : (failure : Failure) → build_failure rules bytes ≡ Some failure → SameContent before.files after.files
      → Printed (line_of (answer_of (Some failure))) (answer_of (Some failure)) result before.out after.out
      → BuildRuns rules bytes name before after result
  built : (netlist : Netlist) (text : List ℕ) → build_failure rules bytes ≡ None
      → IsVerilogOf rules bytes netlist text → IsSaved netlist text name before after result
      → BuildRuns rules bytes name before after result
