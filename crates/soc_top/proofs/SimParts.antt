-- What the parts of `sim` say, each by what the one below it says.
use Rattle.std.proofs.Common.{ℕ, ◌≡◌, ◌∙◌, ◌<◌, ◌≤◌, List, length, ◌⊎◌, inl, inr, Option, Some, None, Result, Ok, Err, refl, sym, ap, subst, arith}
use Rattle.std.specs.Prelude.{IsErr}
use Rattle.std.proofs.lemmas.Bool.{cases_lt, false≢true}
use Rattle.dip_lists.specs.First.{Failure, failure_of, first_failing}
use Rattle.dip_io.specs.Outside.{FilesSeen, NoneFell, OutSeen, SameContent}
use Rattle.dip_graph.specs.declared.design.Design.{Design}
use Rattle.dip_rule.specs.Stated.{StatedRule}
use Rattle.dip_plan.specs.declared.accepted.Accepted.{Accepted}
use Rattle.dip_plan.specs.DesignPlans.{accepted_of}
use Rattle.net_cells.specs.declared.netlist.Netlist.{Netlist}
use Rattle.ver_text.specs.Spelling.{layout}
use Rattle.ver_text.proofs.PrintedTexts.{text_spells, text_read}
use Rattle.sim_ports.specs.Devices.{Says}
use Rattle.sim_events.specs.Setups.{Setup}
use Rattle.sim_drive.specs.Setting.{setup_of}
use Rattle.sim_drive.specs.declared.fault.RunFault.{RunFault}
use Rattle.sim_drive.specs.declared.fault.RunFault.TheVariants.{NoDevice as TooFew}
use Rattle.sim_drive.specs.Runs as runs
use Rattle.soc_build.specs.Netlists.{build_checks, IsBuiltWith}
use Rattle.soc_design.specs.Reading.{file_checks, stated_design}
use Rattle.soc_report.specs.Lines.{line_of}
use Rattle.soc_report.specs.declared.status.Status.{Status}
use Rattle.soc_report.specs.declared.status.Status.TheVariants.{BadStimulus, NoDevice, Refused}
use Rattle.soc_stimulus.specs.declared.fault.StimFault.{StimFault}
use Rattle.soc_stimulus.specs.declared.fault.StimFault.TheVariants.{Line}
use Rattle.soc_stimulus.specs.declared.read.Stimulus.{Stimulus}
use Rattle.soc_stimulus.specs.Lines.{IsLineOf}
use Rattle.soc_stimulus.specs.Stimuli.{rules_for, stimulus_for}
use Rattle.soc_top.specs.Netlists.{build_failure, IsVerilogOf}
use Rattle.soc_top.specs.Printing.{Printed}
use Rattle.soc_top.specs.Simulating.{IsSimRun, OpenRuns, too_few, opened, no_memory_to_open, StimulusRuns, no_memory_to_run, bad_line, few_line, ran, LoadRuns, read, SimRuns, refused}
use Rattle.soc_top.specs.Stimuli.{devices_needed, devices_of, most_stimulus_loaded, rules_of_design, stimulus_failure, IsDesignOf, IsSimulation}
use Rattle.soc_top.specs.Worlds.{World, world, IsLoaded}
use Rattle.soc_top.proofs.Making.{none_found}
use Rattle.soc_top.proofs.SimRuns.{stimulus_all}

-- ---- a design

module _ (rules : List StatedRule) (bytes : List ℕ) (design : Design) (stated : stated_design bytes ≡ Some design) (passes : first_failing (file_checks bytes) ≡ None) where
  pub is_design : (accepted : Accepted) (netlist : Netlist) → first_failing (build_checks rules design) ≡ None → accepted ≡ accepted_of rules design
      → IsBuiltWith rules design accepted netlist → IsDesignOf rules bytes design accepted netlist
  is_design accepted netlist none a b = record {
    passes = none_found rules bytes design stated passes none;
    stated = stated;
    accepts = a;
    built = b;
  }

-- ---- a run that is opened

pub enough_given : {A E : Type 0} (given needed : ℕ) (r : Result A E) (x : A) → (given < needed → IsErr r) → r ≡ Ok x → needed ≤ given
enough_given {A} {E} given needed r x h e = elim (cases_lt given needed) as (λ _. needed ≤ given) [
  | inl lt ↦ absurd (false≢true (subst (λ (y : Result A E). IsErr y) e (h lt)))
  | inr le ↦ le
]

-- a fault of opening that names devices
pub few_devices : (needed given : ℕ) (fault : RunFault) (more fewer : ℕ) → fault ≡ TooFew more fewer → runs.IsRunFaultOf needed given fault
    → (more ≡ needed) × (fewer ≡ given) × (given < needed)
few_devices needed given fault more fewer e h = subst (λ (f : RunFault). runs.IsRunFaultOf needed given f) e h

module _ (setup : Setup) (netlist : Netlist) (cycles needed given : ℕ) (text name : List ℕ) (before after : World) (result : Status) where
  -- the line names the devices that are needed and those that were given
  pub run_few : (more fewer m f : ℕ) → (more ≡ needed) × (fewer ≡ given) × (given < needed) → m ≡ more → f ≡ fewer → SameContent before.files after.files
      → Printed (line_of (NoDevice m f)) (NoDevice m f) result before.out after.out → OpenRuns setup netlist cycles needed given text name before after result
  run_few more fewer m f h e k same p =
      too_few h.2 same
      (subst (λ (n : ℕ). Printed (line_of (NoDevice needed n)) (NoDevice needed n) result before.out after.out) (k ∙ h.1)
      (subst (λ (n : ℕ). Printed (line_of (NoDevice n f)) (NoDevice n f) result before.out after.out) (e ∙ h.0) p))

  -- a run of as many cycles, of which the text that was saved is this one
  pub run_opened : (ran_cycles : ℕ) (shown : List ℕ) → needed ≤ given → ran_cycles ≡ cycles → shown ≡ text
      → IsSimRun setup netlist ran_cycles shown name before after result → OpenRuns setup netlist cycles needed given text name before after result
  run_opened ran_cycles shown enough e s r =
      opened enough (subst (λ (n : ℕ). IsSimRun setup netlist n text name before after result) e
      (subst (λ (t : List ℕ). IsSimRun setup netlist ran_cycles t name before after result) s r))

-- ---- a stimulus

-- a fault that names a rule is of this failure
pub is_line : (found : Option Failure) (fault : StimFault) (rule entry : ℕ) → fault ≡ Line rule entry → IsLineOf found fault → found ≡ Some (failure_of rule entry)
is_line found fault rule entry same h = subst (λ (f : StimFault). IsLineOf found f) same h

module _ (rules : List StatedRule) (design_file : List ℕ) (design : Design) (accepted : Accepted) (netlist : Netlist) (d : IsDesignOf rules design_file design accepted netlist) where
  failure_is : (bytes : List ℕ) → stimulus_failure rules design_file bytes ≡ first_failing (rules_for design accepted bytes)
  unfolding stimulus_failure
  failure_is bytes =
      ap (λ (o : Option Design). first_failing (rules_of_design rules o bytes)) d.stated
      ∙ ap (λ (a : Accepted). first_failing (rules_for design a bytes)) (sym d.accepts)

  needed_is : devices_needed rules design_file ≡ length accepted.plan.sinks
  unfolding devices_needed
  needed_is = ap (λ (o : Option Design). devices_of rules o) d.stated ∙ ap (λ (a : Accepted). length a.plan.sinks) (sym d.accepts)

  verilog_is : IsVerilogOf rules design_file netlist (layout netlist)
  verilog_is = record {
    stated = record { design = design; stated = d.stated; made = record { accepted = accepted; built = d.built } };
    laid_out = refl;
    spells = text_spells (layout netlist) netlist refl d.built.formed;
    read = text_read (layout netlist) netlist refl d.built.formed;
  }

  module _ (devices : List Says) (bytes : List ℕ) where
    is_simulation : (stimulus : Stimulus) → first_failing (rules_for design accepted bytes) ≡ None → stimulus_for design accepted bytes ≡ Some stimulus
        → length accepted.plan.sinks ≤ length devices
        → IsSimulation rules devices design_file bytes (setup_of accepted.plan stimulus devices) stimulus.cycles netlist (layout netlist)
    is_simulation stimulus none states enough = record {
      passes = d.passes;
      accepts = failure_is bytes ∙ none;
      enough = subst (λ (n : ℕ). n ≤ length devices) (sym needed_is) enough;
      design = design;
      stated = d.stated;
      stimulus = stimulus;
      stimulates = ap (λ (a : Accepted). stimulus_for design a bytes) (sym d.accepts) ∙ states;
      setup_is = ap (λ (a : Accepted). setup_of a.plan stimulus devices) d.accepts;
      cycles_are = refl;
      built = subst (λ (a : Accepted). IsBuiltWith rules design a netlist) d.accepts d.built;
      spelled = verilog_is;
    }

    module _ (name : List ℕ) (before after : World) (result : Status) where
      pub run_bad : (rule entry r e : ℕ) → first_failing (rules_for design accepted bytes) ≡ Some (failure_of rule entry) → r ≡ rule → e ≡ entry
          → SameContent before.files after.files → Printed (line_of (BadStimulus r e)) (BadStimulus r e) result before.out after.out
          → StimulusRuns rules devices design_file bytes name before after result
      run_bad rule entry r e found same_rule same_entry same p =
          let f : stimulus_failure rules design_file bytes ≡ Some (failure_of r e) = rw same_rule (rw same_entry (failure_is bytes ∙ found)) in
          bad_line (failure_of r e) f same p

      few_again : (given : ℕ) → given ≡ length devices → first_failing (rules_for design accepted bytes) ≡ None → given < length accepted.plan.sinks
          → SameContent before.files after.files
          → Printed (line_of (NoDevice (length accepted.plan.sinks) given)) (NoDevice (length accepted.plan.sinks) given) result before.out after.out
          → StimulusRuns rules devices design_file bytes name before after result
      few_again given e none lt same p =
          let n = needed_is in
          few_line (failure_is bytes ∙ none) (omega (arith, n, e, lt)) same
          (subst (λ (k : ℕ). Printed (line_of (NoDevice k (length devices))) (NoDevice k (length devices)) result before.out after.out) (sym n)
          (subst (λ (k : ℕ). Printed (line_of (NoDevice (length accepted.plan.sinks) k)) (NoDevice (length accepted.plan.sinks) k) result before.out after.out) e p))

      pub run_of_stimulus : (stimulus : Stimulus) (given : ℕ) → given ≡ length devices → first_failing (rules_for design accepted bytes) ≡ None
          → stimulus_for design accepted bytes ≡ Some stimulus
          → OpenRuns (setup_of accepted.plan stimulus devices) netlist stimulus.cycles (length accepted.plan.sinks) given (layout netlist) name before after result
          → StimulusRuns rules devices design_file bytes name before after result
      run_of_stimulus stimulus given e none states (no_memory_to_open m) = no_memory_to_run m
      run_of_stimulus stimulus given e none states (too_few lt same p) = few_again given e none lt same p
      run_of_stimulus stimulus given e none states (opened enough r) =
          ran (setup_of accepted.plan stimulus devices) stimulus.cycles netlist (layout netlist)
          (is_simulation stimulus none states (omega (arith, enough, e))) r

-- ---- a run on the bytes of a design file

pub run_unbuilt : (rules : List StatedRule) (devices : List Says) (bytes stimulus name : List ℕ) (before after : World) (result : Status)
    (number subject check place : ℕ) → build_failure rules bytes ≡ Some (failure_of number subject) → check ≡ number → place ≡ subject
    → SameContent before.files after.files → Printed (line_of (Refused check place)) (Refused check place) result before.out after.out
    → SimRuns rules devices bytes stimulus name before after result
run_unbuilt rules devices bytes stimulus name before after result number subject check place found same_check same_place same p =
    let f : build_failure rules bytes ≡ Some (failure_of check place) = rw same_check (rw same_place found) in
    refused (failure_of check place) f same p

-- ---- a run for a design file that passes, behind the load of the stimulus

module _ (first loaded : FilesSeen) (out : OutSeen) (after : World) (result : Status) (kept : SameContent first loaded) (loads : NoneFell first.loads loaded.loads)
    (saves : NoneFell first.saves loaded.saves) (rules : List StatedRule) (devices : List Says) (design_file stimulus name bytes : List ℕ) where
  pub load_runs : IsLoaded most_stimulus_loaded stimulus (world first out) bytes → StimulusRuns rules devices design_file bytes name (world loaded out) after result
      → LoadRuns rules devices design_file stimulus name (world first out) after result
  load_runs l runs = read bytes l (stimulus_all first loaded out after result kept loads saves rules devices design_file bytes name runs)
