-- How a run of `sim` saves a text and prints a trace, or the line of what stands in the way.
use Rattle.std.specs.Prelude.{ℕ, ◌≡◌, ◌<◌, ◌≤◌, ◌⊎◌, List, length, Some, None}
use Rattle.dip_lists.specs.First.{Failure}
use Rattle.dip_io.specs.Outside.{LoadsRose, Rose, SameContent, Saves, SavesRose, Writes, WritesPart}
use Rattle.dip_rule.specs.Stated.{StatedRule}
use Rattle.net_cells.specs.declared.netlist.Netlist.{Netlist}
use Rattle.sim_ports.specs.Devices.{Says}
use Rattle.sim_events.specs.Setups.{Setup}
use Rattle.soc_report.specs.declared.status.Status.{Status}
use Rattle.soc_report.specs.declared.status.Status.TheVariants.{Done, ReadFailed, WriteFailed, BadStimulus, NoDevice}
use Rattle.soc_report.specs.Lines.{line_of}
use Rattle.soc_trace.specs.Traces.{AllGood, WritesTrace, trace_text}
use Rattle.soc_top.specs.Building.{HasNoMemory}
use Rattle.soc_top.specs.Designs.{answer_of}
use Rattle.soc_top.specs.Netlists.{build_failure}
use Rattle.soc_top.specs.Printing.{Printed}
use Rattle.soc_top.specs.Stimuli.{IsSimulation, devices_needed, most_stimulus_loaded, stimulus_failure}
use Rattle.soc_top.specs.Words.{SimFiles}
use Rattle.soc_top.specs.Worlds.{World, IsLoaded, WasCutOff, NothingPrinted, most_loaded}

-- ---- what is said of a whole run

-- a design file was loaded, and fails none of the checks 1 to 19
pub record HasPassed (rules : List StatedRule) (name : List ℕ) (before : World) (bytes : List ℕ) : Type 0 where
  pub loaded : IsLoaded most_loaded name before bytes
  pub passes : build_failure rules bytes ≡ None

-- so it is, and behind it a stimulus file was loaded
pub record AreLoaded (rules : List StatedRule) (names : SimFiles) (before : World)
    (design_file stimulus_file : List ℕ) : Type 0 where
  pub passed : HasPassed rules names.design before design_file
  pub loaded : IsLoaded most_stimulus_loaded names.stimulus before stimulus_file

-- two files were loaded, and are a simulation of this setup
pub record IsSimulated (rules : List StatedRule) (devices : List Says) (names : SimFiles) (before : World)
    (setup : Setup) (cycles : ℕ) (netlist : Netlist) (text : List ℕ) : Type 0 where
  pub design_file : List ℕ
  pub stimulus_file : List ℕ
  pub loaded : AreLoaded rules names before design_file stimulus_file
  pub is : IsSimulation rules devices design_file stimulus_file setup cycles netlist text

-- A trace was printed, lines of events and a last line with the number of cycles; and where each cycle is good, it is
-- the trace of the run of this setup, on this netlist.
pub record IsTraced (setup : Setup) (netlist : Netlist) (cycles : ℕ) (before after : World) : Type 0 where
  pub some : WritesTrace cycles before.out after.out
  pub all : AllGood setup netlist cycles → Writes (trace_text setup cycles) before.out after.out

-- A line that is due: that of a load that failed, of the design or, where that passes, of the stimulus; that of the
-- first check that the design fails, or of the first rule that the stimulus fails; or that of devices that are too few.
pub data DueSimLine (rules : List StatedRule) (given : ℕ) (names : SimFiles) (before after : World) (line : List ℕ)
    : Type 0 where
  no_design : LoadsRose names.design before.files after.files → line ≡ line_of ReadFailed
      → DueSimLine rules given names before after line
  fails : (bytes : List ℕ) (failure : Failure) → IsLoaded most_loaded names.design before bytes
      → build_failure rules bytes ≡ Some failure → line ≡ line_of (answer_of (Some failure))
      → DueSimLine rules given names before after line
  no_stimulus : (bytes : List ℕ) → HasPassed rules names.design before bytes
      → LoadsRose names.stimulus before.files after.files → line ≡ line_of ReadFailed
      → DueSimLine rules given names before after line
  bad : (design_file stimulus_file : List ℕ) (failure : Failure)
      → AreLoaded rules names before design_file stimulus_file
      → stimulus_failure rules design_file stimulus_file ≡ Some failure
      → line ≡ line_of (BadStimulus failure.number failure.subject)
      → DueSimLine rules given names before after line
  few : (design_file stimulus_file : List ℕ) → AreLoaded rules names before design_file stimulus_file
      → stimulus_failure rules design_file stimulus_file ≡ None → given < devices_needed rules design_file
      → line ≡ line_of (NoDevice (devices_needed rules design_file) given)
      → DueSimLine rules given names before after line

-- What a write that failed has left: a part of a line and all files as they were; or, where all before the save passed,
-- nothing printed and a text that more saves have failed to save; or that text saved whole, and, where each cycle is
-- good, a part of the trace.
pub data WasStopped (rules : List StatedRule) (devices : List Says) (names : SimFiles) (before after : World)
    : Type 0 where
  on_line : SameContent before.files after.files
      → WasCutOff (DueSimLine rules (length devices) names before after) before after
      → WasStopped rules devices names before after
  unsaved : (setup : Setup) (cycles : ℕ) (netlist : Netlist) (text : List ℕ)
      → IsSimulated rules devices names before setup cycles netlist text
      → SavesRose names.text before.files after.files → NothingPrinted before after
      → WasStopped rules devices names before after
  saved : (setup : Setup) (cycles : ℕ) (netlist : Netlist) (text : List ℕ)
      → IsSimulated rules devices names before setup cycles netlist text
      → Saves names.text text before.files after.files → Rose before.out.faults after.out.faults
      → (AllGood setup netlist cycles → WritesPart (trace_text setup cycles) before.out after.out)
      → WasStopped rules devices names before after

-- a load of the design failed, or, where that passes, a load of the stimulus
pub data WasUnread (rules : List StatedRule) (names : SimFiles) (before after : World) : Type 0 where
  no_design_read : LoadsRose names.design before.files after.files → WasUnread rules names before after
  no_stimulus_read : (bytes : List ℕ) → HasPassed rules names.design before bytes
      → LoadsRose names.stimulus before.files after.files → WasUnread rules names before after

-- ---- what is said of its parts; only what isn't public cites it

-- a text is saved and the trace written; or the save failed, and nothing was printed; or the text is saved, and a part
-- of the trace was written
pub record IsSimRun (setup : Setup) (netlist : Netlist) (cycles : ℕ) (text name : List ℕ) (before after : World)
    (result : Status) : Type 0 where
  pub either : (result ≡ Done) ⊎ (result ≡ WriteFailed)
  pub whole : result ≡ Done → Saves name text before.files after.files × IsTraced setup netlist cycles before after
  pub part : result ≡ WriteFailed
      → (SavesRose name before.files after.files × NothingPrinted before after)
      ⊎ (Saves name text before.files after.files × Rose before.out.faults after.out.faults
      × (AllGood setup netlist cycles → WritesPart (trace_text setup cycles) before.out after.out))

-- a run that is to be opened, where so many devices are needed and so many were given: want of memory; the line on
-- devices, where they are too few; or a run
pub data OpenRuns (setup : Setup) (netlist : Netlist) (cycles needed given : ℕ) (text name : List ℕ)
    (before after : World) (result : Status) : Type 0 where
  no_memory_to_open : HasNoMemory before after result
      → OpenRuns setup netlist cycles needed given text name before after result
  too_few : given < needed → SameContent before.files after.files
      → Printed (line_of (NoDevice needed given)) (NoDevice needed given) result before.out after.out
      → OpenRuns setup netlist cycles needed given text name before after result
  opened : needed ≤ given → IsSimRun setup netlist cycles text name before after result
      → OpenRuns setup netlist cycles needed given text name before after result

-- a run on the bytes of a stimulus file, for a design file that passes: want of memory; the line of the first rule that
-- fails, or on devices; or a simulation
pub data StimulusRuns (rules : List StatedRule) (devices : List Says) (design_file stimulus_file name : List ℕ)
    (before after : World) (result : Status) : Type 0 where
  no_memory_to_run : HasNoMemory before after result
      → StimulusRuns rules devices design_file stimulus_file name before after result
  bad_line : (failure : Failure) → stimulus_failure rules design_file stimulus_file ≡ Some failure
      → SameContent before.files after.files
      → Printed (line_of (BadStimulus failure.number failure.subject)) (BadStimulus failure.number failure.subject)
      result before.out after.out
      → StimulusRuns rules devices design_file stimulus_file name before after result
  few_line : stimulus_failure rules design_file stimulus_file ≡ None → length devices < devices_needed rules design_file
      → SameContent before.files after.files
      → Printed (line_of (NoDevice (devices_needed rules design_file) (length devices)))
      (NoDevice (devices_needed rules design_file) (length devices)) result before.out after.out
      → StimulusRuns rules devices design_file stimulus_file name before after result
  ran : (setup : Setup) (cycles : ℕ) (netlist : Netlist) (text : List ℕ)
      → IsSimulation rules devices design_file stimulus_file setup cycles netlist text
      → IsSimRun setup netlist cycles text name before after result
      → StimulusRuns rules devices design_file stimulus_file name before after result

-- a run for a design file that passes: want of memory; the line of a load of the stimulus that failed; or a run on what
-- was loaded
pub data LoadRuns (rules : List StatedRule) (devices : List Says) (design_file stimulus name : List ℕ)
    (before after : World) (result : Status) : Type 0 where
  no_memory_to_load : HasNoMemory before after result
      → LoadRuns rules devices design_file stimulus name before after result
  unread : LoadsRose stimulus before.files after.files → SameContent before.files after.files
      → Printed (line_of ReadFailed) ReadFailed result before.out after.out
      → LoadRuns rules devices design_file stimulus name before after result
  read : (bytes : List ℕ) → IsLoaded most_stimulus_loaded stimulus before bytes
      → StimulusRuns rules devices design_file bytes name before after result
      → LoadRuns rules devices design_file stimulus name before after result

-- a run on the bytes of a design file: want of memory; the line of the first check that fails; or, where none fails, a
-- run behind it
pub data SimRuns (rules : List StatedRule) (devices : List Says) (bytes stimulus name : List ℕ)
    (before after : World) (result : Status) : Type 0 where
  no_memory_to_check : HasNoMemory before after result → SimRuns rules devices bytes stimulus name before after result
  refused : (failure : Failure) → build_failure rules bytes ≡ Some failure → SameContent before.files after.files
      → Printed (line_of (answer_of (Some failure))) (answer_of (Some failure)) result before.out after.out
      → SimRuns rules devices bytes stimulus name before after result
  passed : build_failure rules bytes ≡ None → LoadRuns rules devices bytes stimulus name before after result
      → SimRuns rules devices bytes stimulus name before after result
