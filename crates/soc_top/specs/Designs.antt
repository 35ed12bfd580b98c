-- What the bytes of a design file call for.
use Rattle.std.specs.Prelude.{ℕ, ◌≡◌, All, List, [], ◌++◌, Option, Some, None}
use Rattle.dip_lists.specs.First.{Check, Failure, first_failing}
use Rattle.dip_graph.specs.declared.design.Design.{Design}
use Rattle.dip_rule.specs.Stated.{StatedRule}
use Rattle.dip_negotiate.specs.Negotiation.{IsOnlySolution}
use Rattle.tl_params.specs.Apart.{HasDisjointSets}
use Rattle.tl_edge.specs.SoundPlans.{IsSound}
use Rattle.dip_checks.specs.Checks.{design_checks, edges_in}
use Rattle.dip_plan.specs.declared.accepted.Accepted.{Accepted}
use Rattle.dip_plan.specs.DesignPlans.{accepted_of}
use Rattle.dip_plan.specs.Standing.{StandsTo}
use Rattle.soc_design.specs.Reading.{file_checks, stated_design}
use Rattle.soc_report.specs.declared.status.Status.{Status}
use Rattle.soc_report.specs.declared.status.Status.TheVariants.{Done, Refused}
use Rattle.soc_report.specs.Lines.{line_of}
use Rattle.soc_report.specs.MapText.{map_text}

-- the checks of a design that a file states
abbrev pub checks_of : List StatedRule → Option Design → List Check
checks_of rules None = []
checks_of rules (Some design) = design_checks rules design

-- all checks of a file, in their order, by the rules that are handed in
abbrev pub all_checks : List StatedRule → List ℕ → List Check
all_checks rules bytes = file_checks bytes ++ checks_of rules (stated_design bytes)

-- the first check that a file fails, and where
unfoldable pub first_failure : List StatedRule → List ℕ → Option Failure
first_failure rules bytes = first_failing (all_checks rules bytes)

-- the map of the design that a file states, with its only solution
abbrev pub map_of_design : List StatedRule → Option Design → List ℕ
map_of_design rules None = []
map_of_design rules (Some design) = map_text design (accepted_of rules design)

-- the map of a file
unfoldable pub map_of : List StatedRule → List ℕ → List ℕ
map_of rules bytes = map_of_design rules (stated_design bytes)

-- the answer that a file calls for
abbrev pub answer_of : Option Failure → Status
answer_of None = Done
answer_of (Some failure) = Refused failure.number failure.subject

-- what is to be printed: the map, or the line of the first failure
abbrev pub due_text : List StatedRule → List ℕ → Option Failure → List ℕ
due_text rules bytes None = map_of rules bytes
due_text rules bytes (Some failure) = line_of (answer_of (Some failure))

-- what the bytes of a design file call for: its map, or the line of the first check that it fails
abbrev pub called_for : List StatedRule → List ℕ → List ℕ
called_for rules bytes = due_text rules bytes (first_failure rules bytes)

-- the plan of an accepted design is sound, and stands to the design as it should
unfoldable pub HasSoundPlan : Design → Accepted → Type 0
HasSoundPlan design accepted =
    IsSound accepted.plan × StandsTo design accepted.edges accepted.solution accepted.plan

-- The map of what a file states: of the only solution of its design, in which no address is in two sets of an edge,
-- and whose plan is sound.
pub record IsMapOf (rules : List StatedRule) (bytes printed : List ℕ) : Type 0 where
  pub design : Design
  pub stated : stated_design bytes ≡ Some design
  pub accepted : Accepted
  pub edges : accepted.edges ≡ edges_in rules design
  pub only : IsOnlySolution rules design accepted.edges accepted.solution
  pub apart : All HasDisjointSets accepted.solution.up
  pub planned : HasSoundPlan design accepted
  pub text : printed ≡ map_text design accepted
