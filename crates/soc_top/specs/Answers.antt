-- The answers of each command: when each may come, what was printed, and what the files hold. `map` and `read` change
-- no file.
use Rattle.std.specs.Prelude.{ℕ, ◌≡◌, ◌<◌, ◌⊎◌, List, Option, length, take, Some, None}
use Rattle.dip_lists.specs.First.{Failure, failure_of}
use Rattle.dip_io.specs.Outside.{LoadsRose, Rose, SameContent, Saves, SavesRose, Writes}
use Rattle.dip_rule.specs.Stated.{StatedRule}
use Rattle.net_cells.specs.declared.netlist.Netlist.{Netlist}
use Rattle.sim_ports.specs.Devices.{Says}
use Rattle.sim_events.specs.Setups.{Setup}
use Rattle.soc_report.specs.declared.status.Status.{Status}
use Rattle.soc_report.specs.declared.status.Status.TheVariants.{Done, Refused, Usage, ReadFailed, WriteFailed, BadStimulus, Memory, NoDevice, BadText}
use Rattle.soc_report.specs.Lines.{line_of}
use Rattle.soc_report.specs.NetlistLine.{netlist_line}
use Rattle.soc_top.specs.Words.{BuildFiles, SimFiles, design_named, text_named, build_named, sim_named, HaveNoForm}
use Rattle.soc_top.specs.Designs.{first_failure, answer_of, called_for, map_of, IsMapOf}
use Rattle.soc_top.specs.Texts.{most_text_loaded, said_by, answer_to, line_said, IsTextOf, IsRefusedAt}
use Rattle.soc_top.specs.Netlists.{build_failure, IsVerilogOf}
use Rattle.soc_top.specs.Worlds.{World, most_loaded, IsLoaded, WasNotLoaded, Due, WasCutOff, NothingPrinted}
use Rattle.soc_top.specs.Building.{IsBuiltFrom, WasHalted}
use Rattle.soc_top.specs.Stimuli.{IsSimulation, devices_needed, most_stimulus_loaded, simulated, stimulus_failure}
use Rattle.soc_top.specs.Simulating.{AreLoaded, IsSimulated, IsTraced, WasStopped, WasUnread}

-- ---- `map` on a design file of this name, answer by answer

-- The map comes where the loaded design fails no check, and a refusal where this is the first check that it fails.
unfoldable pub MapAnswered : List StatedRule → List ℕ → World → World → Status → Type 0
MapAnswered rules name before after Done =
    (bytes : List ℕ) × IsLoaded most_loaded name before bytes × (first_failure rules bytes ≡ None)
    × IsMapOf rules bytes (map_of rules bytes) × Writes (map_of rules bytes) before.out after.out
MapAnswered rules name before after (Refused check subject) =
    (bytes : List ℕ) × IsLoaded most_loaded name before bytes
    × (first_failure rules bytes ≡ Some (failure_of check subject))
    × Writes (line_of (Refused check subject)) before.out after.out
MapAnswered rules name before after ReadFailed = WasNotLoaded name before after
MapAnswered rules name before after WriteFailed =
    WasCutOff (Due most_loaded (called_for rules) name before after) before after
MapAnswered rules name before after Memory = NothingPrinted before after
MapAnswered rules name before after Usage = ⊥
MapAnswered rules name before after (BadText place) = ⊥
MapAnswered rules name before after (BadStimulus rule entry) = ⊥
MapAnswered rules name before after (NoDevice needed given) = ⊥

-- ---- `read` on a text of this name, answer by answer

-- The line of a netlist comes where the loaded text spells it, and a refusal where the text is refused at this place.
unfoldable pub ReadAnswered : List ℕ → World → World → Status → Type 0
ReadAnswered name before after Done =
    (bytes : List ℕ) × ((netlist : Netlist) × IsLoaded most_text_loaded name before bytes
    × IsTextOf bytes netlist × Writes (netlist_line netlist) before.out after.out)
ReadAnswered name before after (BadText place) =
    (bytes : List ℕ) × IsLoaded most_text_loaded name before bytes × IsRefusedAt bytes place
    × Writes (line_of (BadText place)) before.out after.out
ReadAnswered name before after ReadFailed = WasNotLoaded name before after
ReadAnswered name before after WriteFailed =
    WasCutOff (Due most_text_loaded (λ bytes. line_said (said_by bytes)) name before after) before after
ReadAnswered name before after Memory = NothingPrinted before after
ReadAnswered name before after Usage = ⊥
ReadAnswered name before after (Refused check subject) = ⊥
ReadAnswered name before after (BadStimulus rule entry) = ⊥
ReadAnswered name before after (NoDevice needed given) = ⊥

-- ---- `verilog` on a design file and a text of these names, answer by answer

-- The line of a netlist comes where the loaded design fails no check and the text holds what spells the netlist, which
-- is that of the design's plan; a refusal where this is the first check that the design fails. The text changes in the
-- first case alone, or where saving it, or writing the line behind that, has failed.
unfoldable pub VerilogAnswered : List StatedRule → BuildFiles → World → World → Status → Type 0
VerilogAnswered rules names before after Done =
    (netlist : Netlist) × ((text : List ℕ) × IsBuiltFrom rules names.design before netlist text
    × Saves names.text text before.files after.files × Writes (netlist_line netlist) before.out after.out)
VerilogAnswered rules names before after (Refused check subject) =
    (bytes : List ℕ) × IsLoaded most_loaded names.design before bytes
    × (build_failure rules bytes ≡ Some (failure_of check subject)) × SameContent before.files after.files
    × Writes (line_of (Refused check subject)) before.out after.out
VerilogAnswered rules names before after ReadFailed =
    SameContent before.files after.files × WasNotLoaded names.design before after
VerilogAnswered rules names before after WriteFailed = WasHalted rules names before after
VerilogAnswered rules names before after Memory =
    SameContent before.files after.files × NothingPrinted before after
VerilogAnswered rules names before after Usage = ⊥
VerilogAnswered rules names before after (BadText place) = ⊥
VerilogAnswered rules names before after (BadStimulus rule entry) = ⊥
VerilogAnswered rules names before after (NoDevice needed given) = ⊥

-- ---- `sim` on a design file, a stimulus file and a text of these names, answer by answer

-- The trace comes where the design fails no check and the stimulus no rule, there are enough devices, and the text
-- holds what spells the netlist on which the run was made; a refusal where this is the first check, or else the first
-- rule, that fails; the line on devices where all of that passes and they are too few. The text changes where the trace
-- comes alone, or where saving it, or writing the trace behind that, has failed.
unfoldable pub SimAnswered : List StatedRule → List Says → SimFiles → World → World → Status → Type 0
SimAnswered rules devices names before after Done =
    (setup : Setup) × ((cycles : ℕ) × ((netlist : Netlist) × ((text : List ℕ)
    × IsSimulated rules devices names before setup cycles netlist text
    × Saves names.text text before.files after.files × IsTraced setup netlist cycles before after)))
SimAnswered rules devices names before after (Refused check subject) =
    (bytes : List ℕ) × IsLoaded most_loaded names.design before bytes
    × (build_failure rules bytes ≡ Some (failure_of check subject)) × SameContent before.files after.files
    × Writes (line_of (Refused check subject)) before.out after.out
SimAnswered rules devices names before after (BadStimulus rule entry) =
    (design_file : List ℕ) × ((stimulus_file : List ℕ) × AreLoaded rules names before design_file stimulus_file
    × (stimulus_failure rules design_file stimulus_file ≡ Some (failure_of rule entry))
    × SameContent before.files after.files × Writes (line_of (BadStimulus rule entry)) before.out after.out)
SimAnswered rules devices names before after (NoDevice needed given) =
    (design_file : List ℕ) × ((stimulus_file : List ℕ) × AreLoaded rules names before design_file stimulus_file
    × (stimulus_failure rules design_file stimulus_file ≡ None) × (needed ≡ devices_needed rules design_file)
    × (given ≡ length devices) × (given < needed)
    × SameContent before.files after.files × Writes (line_of (NoDevice needed given)) before.out after.out)
SimAnswered rules devices names before after ReadFailed =
    SameContent before.files after.files × WasUnread rules names before after
    × Writes (line_of ReadFailed) before.out after.out
SimAnswered rules devices names before after WriteFailed = WasStopped rules devices names before after
SimAnswered rules devices names before after Memory =
    SameContent before.files after.files × NothingPrinted before after
SimAnswered rules devices names before after Usage = ⊥
SimAnswered rules devices names before after (BadText place) = ⊥

-- ---- words of no stated form, answer by answer

-- The usage is printed.
unfoldable pub UsageAnswered : World → World → Status → Type 0
UsageAnswered before after Usage = Writes (line_of Usage) before.out after.out
UsageAnswered before after WriteFailed = WasCutOff (λ text. text ≡ line_of Usage) before after
UsageAnswered before after Done = ⊥
UsageAnswered before after (Refused check subject) = ⊥
UsageAnswered before after ReadFailed = ⊥
UsageAnswered before after Memory = ⊥
UsageAnswered before after (BadText place) = ⊥
UsageAnswered before after (BadStimulus rule entry) = ⊥
UsageAnswered before after (NoDevice needed given) = ⊥

-- ---- every run

-- What a run says of the world before and after it, by the form of its words.
pub record Answered (rules : List StatedRule) (devices : List Says) (words : List (List ℕ)) (before after : World)
    (result : Status) : Type 0 where
  pub map : (name : List ℕ) → design_named words ≡ Some name → MapAnswered rules name before after result
  pub read : (name : List ℕ) → text_named words ≡ Some name → ReadAnswered name before after result
  pub verilog : (names : BuildFiles) → build_named words ≡ Some names
      → VerilogAnswered rules names before after result
  pub sim : (names : SimFiles) → sim_named words ≡ Some names → SimAnswered rules devices names before after result
  pub usage : HaveNoForm words → UsageAnswered before after result

-- this answer came with this text, written whole; a failed write and want of memory are apart
abbrev pub AnsweredBy : Status → List ℕ → World → World → Status → Type 0
AnsweredBy wanted text before after result =
    (result ≡ Memory) ⊎ (result ≡ WriteFailed) ⊎ ((result ≡ wanted) × Writes text before.out after.out)

-- what the bytes of a design file call for where a netlist is to be built: the line of the first check that they fail,
-- and no file has changed; or a text that spells a netlist of the design's plan, saved whole, and the netlist's line
abbrev pub IsMade : List StatedRule → List ℕ → List ℕ → Option Failure → World → World → Type 0
IsMade rules name bytes (Some failure) before after =
    SameContent before.files after.files × Writes (line_of (answer_of (Some failure))) before.out after.out
IsMade rules name bytes None before after =
    (netlist : Netlist) × ((text : List ℕ) × IsVerilogOf rules bytes netlist text
    × Saves name text before.files after.files × Writes (netlist_line netlist) before.out after.out)

-- this answer came with what these bytes call for; a failed write of the output and want of memory are apart
abbrev pub BuiltBy : List StatedRule → List ℕ → List ℕ → World → World → Status → Type 0
BuiltBy rules name bytes before after result =
    (result ≡ Memory) ⊎ ((result ≡ WriteFailed) × Rose before.out.faults after.out.faults)
    ⊎ ((result ≡ answer_of (build_failure rules bytes))
    × IsMade rules name bytes (build_failure rules bytes) before after)

-- what two files and these devices call for: the line of what stands in the way, and no file has changed; or a trace,
-- and a text saved whole that spells the netlist on which the run was made
abbrev pub IsShown : List StatedRule → List Says → List ℕ → List ℕ → List ℕ → World → World → Status → Type 0
IsShown rules devices name design_file stimulus_file before after Done =
    (setup : Setup) × ((cycles : ℕ) × ((netlist : Netlist) × ((text : List ℕ)
    × IsSimulation rules devices design_file stimulus_file setup cycles netlist text
    × Saves name text before.files after.files × IsTraced setup netlist cycles before after)))
IsShown rules devices name design_file stimulus_file before after refusal =
    SameContent before.files after.files × Writes (line_of refusal) before.out after.out

-- this answer came with what these files and devices call for; a failed write of the output and want of memory are
-- apart
abbrev pub SimulatedBy : List StatedRule → List Says → List ℕ → List ℕ → List ℕ → World → World → Status → Type 0
SimulatedBy rules devices name design_file stimulus_file before after result =
    (result ≡ Memory) ⊎ ((result ≡ WriteFailed) × Rose before.out.faults after.out.faults)
    ⊎ ((result ≡ simulated rules (length devices) design_file stimulus_file)
    × IsShown rules devices name design_file stimulus_file before after
    (simulated rules (length devices) design_file stimulus_file))

-- The other direction: where the words have no stated form, the answer is the usage; where a file is told and was
-- loaded without a fault, the answer is what its bytes call for, written whole. A failed write and want of memory are
-- apart; where no save of the text has failed either, `verilog` and `sim` answer so. `sim` asks of the stimulus file
-- what it asks of the design file.
pub record Completed (rules : List StatedRule) (devices : List Says) (words : List (List ℕ)) (before after : World)
    (result : Status) : Type 0 where
  pub of_words : HaveNoForm words → (result ≡ WriteFailed) ⊎ (result ≡ Usage)
  pub of_design : (name all : List ℕ) → design_named words ≡ Some name → before.files.content name ≡ Some (Some all)
      → ¬ (LoadsRose name before.files after.files)
      → AnsweredBy (answer_of (first_failure rules (take most_loaded all))) (called_for rules (take most_loaded all))
      before after result
  pub of_text : (name all : List ℕ) → text_named words ≡ Some name → before.files.content name ≡ Some (Some all)
      → ¬ (LoadsRose name before.files after.files)
      → AnsweredBy (answer_to (said_by (take most_text_loaded all))) (line_said (said_by (take most_text_loaded all)))
      before after result
  pub of_files : (names : BuildFiles) (all : List ℕ) → build_named words ≡ Some names
      → before.files.content names.design ≡ Some (Some all)
      → ¬ (LoadsRose names.design before.files after.files) → ¬ (SavesRose names.text before.files after.files)
      → BuiltBy rules names.text (take most_loaded all) before after result
  pub of_simulation : (names : SimFiles) (all stimulus : List ℕ) → sim_named words ≡ Some names
      → before.files.content names.design ≡ Some (Some all)
      → before.files.content names.stimulus ≡ Some (Some stimulus)
      → ¬ (LoadsRose names.design before.files after.files) → ¬ (LoadsRose names.stimulus before.files after.files)
      → ¬ (SavesRose names.text before.files after.files)
      → SimulatedBy rules devices names.text (take most_loaded all) (take most_stimulus_loaded stimulus) before after
      result
