-- A stimulus for an accepted design: its rules, and what it states.
use Rattle.std.specs.Prelude.{ℕ, List, Option}
use Rattle.dip_lists.specs.First.{Check}
use Rattle.dip_graph.specs.declared.design.Design.{Design}
use Rattle.dip_plan.specs.declared.accepted.Accepted.{Accepted}
use Rattle.sim_ports.specs.declared.stimulus.StimRequest.{StimRequest}
use Rattle.tl_edge.specs.declared.plan.Plan.{Plan}
use Rattle.tl_edge.specs.Legal.{IsLegalAt}
use Rattle.soc_stimulus.specs.declared.read.Stimulus.{Stimulus}
use Rattle.soc_stimulus.specs.Ports.{names_of_nodes}
use Rattle.soc_stimulus.specs.Reading.{stated_stimulus, stimulus_rules}

-- the rules 1 to 9 of a file for an accepted design
abbrev pub rules_for : Design → Accepted → List ℕ → List Check
rules_for design accepted bytes =
    stimulus_rules (names_of_nodes design.nodes) accepted.plan accepted.solution.down accepted.solution.up bytes

-- the stimulus that a file states for an accepted design
abbrev pub stimulus_for : Design → Accepted → List ℕ → Option Stimulus
stimulus_for design accepted bytes = stated_stimulus (names_of_nodes design.nodes) accepted.plan bytes

-- a request of a stimulus is legal at its port
abbrev pub IsLegalAsked : Plan → StimRequest → Type 0
IsLegalAsked plan asked = IsLegalAt plan asked.port asked.request
