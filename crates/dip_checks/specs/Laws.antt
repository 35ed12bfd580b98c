-- What the checks mean: which failure is answered, and what holds of edges that pass.
use Rattle.std.specs.Prelude.{◌≡◌, ◌<◌, ◌≤◌, List, All, AllPairs, Some, None}
use Rattle.dip_lists.specs.First.{Failure, first, first_failing}
use Rattle.dip_lists.specs.FirstLaw.{Fails, AreInOrder, IsFirstFailure}
use Rattle.dip_sets.specs.Ids.{DisjointIds}
use Rattle.tl_params.specs.Aligned.{HasAlignedSets}
use Rattle.tl_params.specs.declared.ports.Master.{Master}
use Rattle.tl_params.specs.declared.ports.DownPort.{DownPort}
use Rattle.tl_params.specs.declared.ports.UpPort.{UpPort}
use Rattle.dip_graph.specs.declared.design.Design.{Design}
use Rattle.dip_rule.specs.Stated.{StatedRule}
use Rattle.dip_checks.specs.Checks.{design_checks, wrong_edges, misaligned_edges}

-- The checks 5 to 18 of every design, by every list of rules, stand in the order of their numbers, each with rising
-- subjects. So the failure that is answered has the lowest number of all that fail, and of the subjects of that check
-- the lowest; and where none is answered, nothing fails. The checks 11 and 12 have one subject at most: the node of the
-- first refusal in the order of the pass.
pub record CheckOrderLaw : Type 0 where
  pub ordered : (rules : List StatedRule) (design : Design) → AreInOrder (design_checks rules design)
  pub some : (rules : List StatedRule) (design : Design) (failure : Failure)
      → first_failing (design_checks rules design) ≡ Some failure
      → IsFirstFailure (design_checks rules design) failure
  pub none : (rules : List StatedRule) (design : Design) (failure : Failure)
      → first_failing (design_checks rules design) ≡ None → Fails (design_checks rules design) failure → ⊥

-- each master of the edge has an id, none above 1,024 ids, and no id is two masters'
pub record HasOwnIds (down : DownPort) : Type 0 where
  pub within : All (λ (m : Master). (m.ids.start < m.ids.end) × (m.ids.end ≤ 1024)) down.masters
  pub apart : AllPairs (λ (m other : Master). DisjointIds m.ids other.ids) down.masters

-- what the checks 13 and 15 say where they pass
pub record PortsLaw : Type 0 where
  pub ids : (downs : List DownPort) → first (wrong_edges downs) ≡ None → All HasOwnIds downs
  pub aligned : (ups : List UpPort) → first (misaligned_edges ups) ≡ None → All HasAlignedSets ups
