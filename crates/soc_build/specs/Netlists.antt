-- The netlist of a design: that of the plan of its only solution.
use Rattle.std.specs.Prelude.{◌≡◌, All, List, ◌++◌}
use Rattle.dip_lists.specs.First.{Check}
use Rattle.tl_params.specs.Apart.{HasDisjointSets}
use Rattle.tl_edge.specs.SoundPlans.{IsSound}
use Rattle.dip_graph.specs.declared.design.Design.{Design}
use Rattle.dip_rule.specs.Stated.{StatedRule}
use Rattle.dip_negotiate.specs.Negotiation.{IsOnlySolution}
use Rattle.dip_checks.specs.Checks.{design_checks, edges_in}
use Rattle.dip_plan.specs.declared.accepted.Accepted.{Accepted}
use Rattle.dip_plan.specs.DesignPlans.{plan_of}
use Rattle.dip_plan.specs.Standing.{StandsTo}
use Rattle.net_cells.specs.declared.netlist.Netlist.{Netlist}
use Rattle.net_cells.specs.Loops.{HasNoLoop}
use Rattle.net_cells.specs.Rules.{IsWellFormed}
use Rattle.net_build.specs.Numbering.{Resets}
use Rattle.net_ports.specs.Implementing.{Implements}
use Rattle.soc_build.specs.Kinds.{hardware_checks}

-- the checks 5 to 19
abbrev pub build_checks : List StatedRule → Design → List Check
build_checks rules design = design_checks rules design ++ hardware_checks rules design

-- What a design has where its checks pass: its edges, the only solution on them, in which no address is in two sets of
-- an edge, and the plan of these, which is sound and stands to the design as it should.
pub record IsPlanned (rules : List StatedRule) (design : Design) (accepted : Accepted) : Type 0 where
  pub edges : accepted.edges ≡ edges_in rules design
  pub only : IsOnlySolution rules design accepted.edges accepted.solution
  pub apart : All HasDisjointSets accepted.solution.up
  pub plan : accepted.plan ≡ plan_of rules design accepted.edges accepted.solution
  pub sound : IsSound accepted.plan
  pub stands : StandsTo design accepted.edges accepted.solution accepted.plan

-- A netlist of a design with these edges, this solution and this plan: well formed, with no net that depends on itself
-- through cells, set back by a cycle with `reset` 1, and one that implements the plan: it has the plan's ports, and in
-- each run from the start its outputs show what the plan's network does, as long as the ports offer what their edges
-- carry and each cycle starts in a locally valid state.
pub record IsBuiltWith (rules : List StatedRule) (design : Design) (accepted : Accepted) (netlist : Netlist)
    : Type 0 where
  pub planned : IsPlanned rules design accepted
  pub formed : IsWellFormed netlist
  pub no_loop : HasNoLoop netlist
  pub resets : Resets netlist
  pub implements : Implements accepted.plan netlist

-- a netlist of a design
pub record IsNetlistOf (rules : List StatedRule) (design : Design) (netlist : Netlist) : Type 0 where
  pub accepted : Accepted
  pub built : IsBuiltWith rules design accepted netlist
