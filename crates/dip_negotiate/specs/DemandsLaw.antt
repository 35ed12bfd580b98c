-- What the answers of demands mean beside the whole solution and beside each other.
use Rattle.std.specs.Prelude.{ℕ, ◌≡◌, List, Some, slice_get}
use Rattle.dip_graph.specs.Orders.{canonical_order}
use Rattle.dip_graph.specs.declared.design.Design.{Design}
use Rattle.dip_graph.specs.declared.edges.Edge.{Edge}
use Rattle.dip_rule.specs.Stated.{StatedRule}
use Rattle.tl_params.specs.declared.ports.DownPort.{DownPort}
use Rattle.tl_params.specs.declared.ports.UpPort.{UpPort}
use Rattle.dip_negotiate.specs.declared.solution.Solution.{Solution}
use Rattle.dip_negotiate.specs.Places.{steps_down, steps_up}
use Rattle.dip_negotiate.specs.Negotiation.{IsNegotiable, IsOnlySolution, down_pass, up_pass}
use Rattle.dip_negotiate.specs.Demands.{PortDependsOn, IsFirstRefusal, IsPortOf}

-- where there is a solution, a port that is answered is the solution's
pub record DemandedPortLaw : Type 0 where
  pub down : (rules : List StatedRule) (design : Design) (edges : List Edge) (solution : Solution)
      → IsOnlySolution rules design edges solution
      → (i : ℕ) (edge : Edge) (port : DownPort) → slice_get edges i ≡ Some edge
      → IsPortOf (down_pass rules design.nodes edges) edges i port → slice_get solution.down i ≡ Some port
  pub up : (rules : List StatedRule) (design : Design) (edges : List Edge) (solution : Solution)
      → IsOnlySolution rules design edges solution
      → (i : ℕ) (edge : Edge) (port : UpPort) → slice_get edges i ≡ Some edge
      → IsPortOf (up_pass rules design.nodes edges) edges i port → slice_get solution.up i ≡ Some port

-- what is refused down among the ports on which that of an edge depends
abbrev pub RefusesDown : List StatedRule → Design → List Edge → ℕ → Edge → ℕ → Type 0
RefusesDown rules design edges i edge number =
    IsFirstRefusal (down_pass rules design.nodes edges) edges (steps_down (canonical_order design) edges)
    (PortDependsOn (down_pass rules design.nodes edges) edges i) edge number

-- what is refused up among them
abbrev pub RefusesUp : List StatedRule → Design → List Edge → ℕ → Edge → ℕ → Type 0
RefusesUp rules design edges i edge number =
    IsFirstRefusal (up_pass rules design.nodes edges) edges (steps_up (canonical_order design) edges)
    (PortDependsOn (up_pass rules design.nodes edges) edges i) edge number

-- Of the ports on which one depends there is one first refusal at most, and where there is one no port is answered.
pub record DemandRefusalLaw : Type 0 where
  pub one_down : (rules : List StatedRule) (design : Design) (edges : List Edge) → IsNegotiable design edges
      → (i : ℕ) (d e : Edge) (m n : ℕ) → RefusesDown rules design edges i d m → RefusesDown rules design edges i e n
      → (d ≡ e) × (m ≡ n)
  pub one_up : (rules : List StatedRule) (design : Design) (edges : List Edge) → IsNegotiable design edges
      → (i : ℕ) (d e : Edge) (m n : ℕ) → RefusesUp rules design edges i d m → RefusesUp rules design edges i e n
      → (d ≡ e) × (m ≡ n)
  pub none_down : (rules : List StatedRule) (design : Design) (edges : List Edge) (i : ℕ) (e : Edge) (n : ℕ)
      (port : DownPort) → RefusesDown rules design edges i e n
      → IsPortOf (down_pass rules design.nodes edges) edges i port → ⊥
  pub none_up : (rules : List StatedRule) (design : Design) (edges : List Edge) (i : ℕ) (e : Edge) (n : ℕ)
      (port : UpPort) → RefusesUp rules design edges i e n
      → IsPortOf (up_pass rules design.nodes edges) edges i port → ⊥
