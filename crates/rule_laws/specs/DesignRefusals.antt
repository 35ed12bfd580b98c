-- What the first failure of a design by the standard rules can be.
use Rattle.std.specs.Prelude.{ℕ, ◌≡◌, ◌≢◌, ◌<◌, ◌⊎◌, List, All, Some, slice_get}
use Rattle.dip_lists.specs.First.{Failure, failure_of, first_failing}
use Rattle.tl_params.specs.declared.ops.Template.TheVariants.{Fragmenter, Xbar}
use Rattle.tl_params.specs.declared.ports.DownPort.{DownPort}
use Rattle.tl_params.specs.declared.ports.UpPort.{UpPort}
use Rattle.tl_params.specs.declared.arguments.Fragments.{Fragments}
use Rattle.tl_params.specs.Arguments.{fragment_arguments}
use Rattle.dip_graph.specs.Edges.{HasNodes}
use Rattle.dip_graph.specs.WellStated.{IsWellStated}
use Rattle.dip_graph.specs.declared.design.NodeKind.TheVariants.{Ruled}
use Rattle.dip_graph.specs.declared.design.NodeEntry.{NodeEntry}
use Rattle.dip_graph.specs.declared.design.Design.{Design}
use Rattle.dip_graph.specs.declared.edges.Edge.{Edge}
use Rattle.dip_rule.specs.Stated.{StatedRule, rule_of}
use Rattle.dip_negotiate.specs.Negotiation.{down_pass}
use Rattle.dip_negotiate.specs.Demands.{IsPortOf}
use Rattle.tl_rules.specs.Crossbars.{id_count}
use Rattle.tl_rules.specs.Standard.{standard}
use Rattle.dip_checks.specs.Checks.{edges_in, solution_of, design_checks}
use Rattle.rule_laws.specs.RuleRefusals.{RefusesArguments}

-- ---- check 12

-- no design whose binds name nodes that exist fails at check 12 first
abbrev pub NeverRefusedUp : Type 0
NeverRefusedUp =
    (design : Design) → All (HasNodes design.nodes) design.binds → (failure : Failure)
    → first_failing (design_checks standard design) ≡ Some failure → failure.number ≢ 12

-- ---- check 11

-- the node has this standard rule and these arguments
pub record HasRule (design : Design) (node : ℕ) (rule : StatedRule) (args : List ℕ) : Type 0 where
  pub entry : NodeEntry
  pub kind : List ℕ
  pub is : slice_get design.nodes node ≡ Some entry
  pub ruled : entry.kind ≡ Ruled kind args
  pub found : rule_of standard kind ≡ Some rule

-- The node has an in edge, and the port that goes down that edge needs more than 1,024 ids. This port follows from the
-- equations of the edge and of those on which it depends; other edges may be refused.
pub record NeedsTooManyIds (design : Design) (edges : List Edge) (node : ℕ) : Type 0 where
  pub number : ℕ
  pub edge : Edge
  pub is : slice_get edges number ≡ Some edge
  pub to : edge.to ≡ node
  pub port : DownPort
  pub down : IsPortOf (down_pass standard design.nodes edges) edges number port
  pub many : 1024 < id_count port

-- the node's rule refuses its arguments both ways, or it is a crossbar and one of its in edges needs too many ids
pub record IsRefusedDown (design : Design) (edges : List Edge) (node : ℕ) : Type 0 where
  pub rule : StatedRule
  pub args : List ℕ
  pub has : HasRule design node rule args
  pub refuses : RefusesArguments rule args ⊎ ((rule.template ≡ Xbar) × NeedsTooManyIds design edges node)

-- where a well stated design fails at check 11 first it is such a node
abbrev pub EachIsRefusedDown : Type 0
EachIsRefusedDown =
    (design : Design) → IsWellStated design → (node : ℕ)
    → first_failing (design_checks standard design) ≡ Some (failure_of 11 node)
    → IsRefusedDown design (edges_in standard design) node

-- ---- check 17

-- a fragmenter, and an out edge of it with a bus of more bytes than a piece
pub record HasSmallPieces (design : Design) (edges : List Edge) (ups : List UpPort) (node : ℕ) : Type 0 where
  pub rule : StatedRule
  pub args : List ℕ
  pub has : HasRule design node rule args
  pub template : rule.template ≡ Fragmenter
  pub fragments : Fragments
  pub taken : fragment_arguments args ≡ Some fragments
  pub number : ℕ
  pub edge : Edge
  pub is : slice_get edges number ≡ Some edge
  pub from : edge.from ≡ node
  pub port : UpPort
  pub up : slice_get ups number ≡ Some port
  pub small : fragments.piece < port.beat

-- where a well stated design fails at check 17 first it is such a node, by what goes up its edges
abbrev pub EachHasSmallPieces : Type 0
EachHasSmallPieces =
    (design : Design) → IsWellStated design → (node : ℕ)
    → first_failing (design_checks standard design) ≡ Some (failure_of 17 node)
    → HasSmallPieces design (edges_in standard design)
    (solution_of standard design (edges_in standard design)).up node
