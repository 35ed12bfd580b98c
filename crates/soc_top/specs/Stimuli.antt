-- What the bytes of a stimulus file call for, with the design file for which it is, and the devices that are handed in.
use Rattle.std.specs.Prelude.{ℕ, ◌≡◌, ◌≤◌, ◌+◌, List, [], ◌++◌, length, nat_lt, cond, Option, Some, None}
use Rattle.dip_lists.specs.First.{Check, Failure, first_failing}
use Rattle.dip_graph.specs.declared.design.Design.{Design}
use Rattle.dip_rule.specs.Stated.{StatedRule}
use Rattle.dip_plan.specs.declared.accepted.Accepted.{Accepted}
use Rattle.dip_plan.specs.DesignPlans.{accepted_of}
use Rattle.net_cells.specs.declared.netlist.Netlist.{Netlist}
use Rattle.sim_ports.specs.Devices.{Says}
use Rattle.sim_events.specs.Setups.{Setup}
use Rattle.soc_build.specs.Netlists.{IsBuiltWith}
use Rattle.soc_design.specs.Reading.{stated_design}
use Rattle.soc_report.specs.Lines.{line_of}
use Rattle.soc_report.specs.declared.status.Status.{Status}
use Rattle.soc_report.specs.declared.status.Status.TheVariants.{Done, Refused, BadStimulus, NoDevice}
use Rattle.soc_stimulus.specs.declared.read.Stimulus.{Stimulus}
use Rattle.soc_stimulus.specs.Limits.{most_stimulus_bytes}
use Rattle.soc_stimulus.specs.Stimuli.{rules_for, stimulus_for}
use Rattle.sim_drive.specs.Setting.{setup_of}
use Rattle.soc_top.specs.Designs.{answer_of}
use Rattle.soc_top.specs.Netlists.{build_failure, IsVerilogOf}

-- the most bytes of a stimulus file that are loaded: one more than it may have
abbrev pub most_stimulus_loaded : ℕ
most_stimulus_loaded = most_stimulus_bytes + 1

-- the rules of a stimulus file for a design that a file states
abbrev pub rules_of_design : List StatedRule → Option Design → List ℕ → List Check
rules_of_design rules None bytes = []
rules_of_design rules (Some design) bytes = rules_for design (accepted_of rules design) bytes

-- the first rule that a stimulus file fails, and at which entry, for the design that a file states
unfoldable pub stimulus_failure : List StatedRule → List ℕ → List ℕ → Option Failure
stimulus_failure rules design_file bytes =
    first_failing (rules_of_design rules (stated_design design_file) bytes)

-- how many devices a design needs: one for each port of a sink
abbrev pub devices_of : List StatedRule → Option Design → ℕ
devices_of rules None = 0
devices_of rules (Some design) = length (accepted_of rules design).plan.sinks

-- the same of a design file
unfoldable pub devices_needed : List StatedRule → List ℕ → ℕ
devices_needed rules design_file = devices_of rules (stated_design design_file)

-- the design that a file states, where it fails none of the checks 1 to 19, with what it has and a netlist of its plan
pub record IsDesignOf (rules : List StatedRule) (bytes : List ℕ) (design : Design) (accepted : Accepted)
    (netlist : Netlist) : Type 0 where
  pub passes : build_failure rules bytes ≡ None
  pub stated : stated_design bytes ≡ Some design
  pub accepts : accepted ≡ accepted_of rules design
  pub built : IsBuiltWith rules design accepted netlist

-- What two files are, where a design file fails none of the checks 1 to 19, and a stimulus file none of its rules: a
-- setup of so many cycles, with these devices, of which there are enough; and a netlist of the design's plan with a
-- text that spells it.
pub record IsSimulation (rules : List StatedRule) (devices : List Says) (design_file stimulus_file : List ℕ)
    (setup : Setup) (cycles : ℕ) (netlist : Netlist) (text : List ℕ) : Type 0 where
  pub passes : build_failure rules design_file ≡ None
  pub accepts : stimulus_failure rules design_file stimulus_file ≡ None
  pub enough : devices_needed rules design_file ≤ length devices
  pub design : Design
  pub stated : stated_design design_file ≡ Some design
  pub stimulus : Stimulus
  pub stimulates : stimulus_for design (accepted_of rules design) stimulus_file ≡ Some stimulus
  pub setup_is : setup ≡ setup_of (accepted_of rules design).plan stimulus devices
  pub cycles_are : cycles ≡ stimulus.cycles
  pub built : IsBuiltWith rules design (accepted_of rules design) netlist
  pub spelled : IsVerilogOf rules design_file netlist text

-- the answer to two files and so many devices: the first check that the design fails, the first rule that the stimulus
-- fails, or that there are too few devices
abbrev pub answer_by_devices : ℕ → ℕ → Status
answer_by_devices needed given = cond (nat_lt given needed) (NoDevice needed given) Done

abbrev pub answer_by_rules : Option Failure → ℕ → ℕ → Status
answer_by_rules None needed given = answer_by_devices needed given
answer_by_rules (Some failure) needed given = BadStimulus failure.number failure.subject

abbrev pub answer_by_checks : Option Failure → Option Failure → ℕ → ℕ → Status
answer_by_checks None rule needed given = answer_by_rules rule needed given
answer_by_checks (Some failure) rule needed given = answer_of (Some failure)

-- the answer that a design file, a stimulus file and so many devices call for
unfoldable pub simulated : List StatedRule → ℕ → List ℕ → List ℕ → Status
simulated rules given design_file stimulus_file =
    answer_by_checks (build_failure rules design_file) (stimulus_failure rules design_file stimulus_file)
    (devices_needed rules design_file) given
