-- The parameters on which the ports of a design agree.
use Rattle.std.specs.Prelude.{ℕ, ◌≡◌, cond, List, [], ◌∷◌, length, replicate, Option, Some, None, Result, Ok, Err}
use Rattle.std.specs.Prelude.{IsOk, ◌⊎◌, All, slice_get, unwrap_or}
use Rattle.dip_lists.specs.First.{first}
use Rattle.dip_sets.specs.Sets.{Pattern}
use Rattle.tl_params.specs.declared.ops.Ops.{Ops}
use Rattle.tl_params.specs.declared.ports.DownPort.{DownPort}
use Rattle.tl_params.specs.declared.ports.UpPort.{UpPort}
use Rattle.dip_graph.specs.Edges.{FollowsBind, HasNodes}
use Rattle.dip_graph.specs.Kinds.{kind_at, ruled_kind_at}
use Rattle.dip_graph.specs.Orders.{canonical_order, left_out}
use Rattle.dip_graph.specs.declared.design.NodeKind.{NodeKind}
use Rattle.dip_graph.specs.declared.design.NodeKind.TheVariants.{Source, Sink, Ruled}
use Rattle.dip_graph.specs.declared.design.NodeEntry.{NodeEntry}
use Rattle.dip_graph.specs.declared.design.Design.{Design}
use Rattle.dip_graph.specs.declared.edges.Edge.{Edge}
use Rattle.dip_rule.specs.Stated.{StatedRule, rule_of, down_by, up_by, is_nexus_kind}
use Rattle.dip_negotiate.specs.declared.steps.End.{End}
use Rattle.dip_negotiate.specs.declared.solution.Solution.{Solution}
use Rattle.dip_negotiate.specs.declared.solution.NegFault.{NegFault}
use Rattle.dip_negotiate.specs.declared.solution.NegFault.TheVariants.{DownRefused, UpRefused, Memory}
use Rattle.dip_negotiate.specs.Passes.{Pass, Refusal, run, Solves, OnlySolves, RefusesFirst}
use Rattle.dip_negotiate.specs.Places.{source_end, sink_end, asked, steps_down, steps_up}

-- ---- what nodes state

-- a source's own port: one master with the ids from 0 on
abbrev pub source_port : ℕ → ℕ → ℕ → Ops → DownPort
source_port node port ids emits =
    record { masters = record { node = node; port = port; ids = record { start = 0; end = ids }; emits = emits } ∷ [] }

-- what a node states of what leaves it at a port, from what enters it; sinks and missing nodes refuse, but no accepted
-- design asks them
abbrev pub down_at : List StatedRule → ℕ → ℕ → Option NodeKind → List DownPort → Result DownPort ℕ
down_at rules node port (Some (Source ports ids emits)) ins = Ok (source_port node port ids emits)
down_at rules node port (Some (Ruled kind args)) ins = down_by (rule_of rules kind) args ins
down_at rules node port (Some (Sink beat ports supports)) ins = Err 0
down_at rules node port None ins = Err 0

-- the sets of a port, none where there is no such port
abbrev pub addresses_at : List (List Pattern) → ℕ → List Pattern
addresses_at ports port = unwrap_or (slice_get ports port) []

-- a sink's own port: one slave with the addresses of that port
abbrev pub sink_port : ℕ → ℕ → ℕ → List (List Pattern) → Ops → UpPort
sink_port node port beat ports supports =
    record {
      slaves = record { node = node; port = port; addresses = addresses_at ports port; supports = supports } ∷ [];
      beat = beat;
    }

-- what a node states of what leaves it upward at a port, from what comes up to it; sources and missing nodes refuse,
-- but no accepted design asks them
abbrev pub up_at : List StatedRule → ℕ → ℕ → Option NodeKind → List UpPort → Result UpPort ℕ
up_at rules node port (Some (Sink beat ports supports)) outs = Ok (sink_port node port beat ports supports)
up_at rules node port (Some (Ruled kind args)) outs = up_by (rule_of rules kind) args outs
up_at rules node port (Some (Source ports ids emits)) outs = Err 0
up_at rules node port None outs = Err 0

-- ---- what the two directions ask and state

-- what the source node of an edge states of it, from what enters that node
abbrev pub says_down : List StatedRule → List NodeEntry → Edge → List DownPort → Result DownPort ℕ
says_down rules nodes edge ins = down_at rules edge.from edge.from_port (kind_at nodes edge.from) ins

-- what the sink node of an edge states of it, from what comes up to that node
abbrev pub says_up : List StatedRule → List NodeEntry → Edge → List UpPort → Result UpPort ℕ
says_up rules nodes edge outs = up_at rules edge.to edge.to_port (kind_at nodes edge.to) outs

-- what goes down an edge is what its source node states of what goes down to that node
abbrev pub down_pass : List StatedRule → List NodeEntry → List Edge → Pass DownPort
down_pass rules nodes edges =
    record { says = says_down rules nodes; asks = asked rules nodes edges source_end sink_end }

-- what goes up an edge is what its sink node states of what comes up to that node
abbrev pub up_pass : List StatedRule → List NodeEntry → List Edge → Pass UpPort
up_pass rules nodes edges =
    record { says = says_up rules nodes; asks = asked rules nodes edges sink_end source_end }

-- what stands on an edge before what goes down it is known
abbrev pub no_masters : DownPort
no_masters = record { masters = [] }

-- what stands on an edge before what goes up it is known
abbrev pub no_slaves : UpPort
no_slaves = record { slaves = []; beat = 0 }

-- what goes down all edges, or the first refusal in canonical order
abbrev pub downs : List StatedRule → Design → List Edge → Result (List DownPort) Refusal
downs rules design edges =
    run (down_pass rules design.nodes edges) (replicate (length edges) no_masters)
    (steps_down (canonical_order design) edges)

-- what goes up all edges, or the first refusal in the reversed order
abbrev pub ups : List StatedRule → Design → List Edge → Result (List UpPort) Refusal
ups rules design edges =
    run (up_pass rules design.nodes edges) (replicate (length edges) no_slaves)
    (steps_up (canonical_order design) edges)

-- ---- answers

-- where a rule is asked for the port at an end: the node and the port, which is 0 at a nexus
abbrev pub place_of : List StatedRule → List NodeEntry → End → End
place_of rules nodes own =
    record { node = own.node; port = cond (is_nexus_kind rules (ruled_kind_at nodes own.node)) 0 own.port }

-- the pass is refused at this place, with this number
abbrev pub IsRefusalAt : {P : Type 0} → (Edge → End) → Result (List P) Refusal → End → ℕ → Type 0
IsRefusalAt place (Ok ports) where_ number = ⊥
IsRefusalAt place (Err refused) where_ number = (place refused.edge ≡ where_) × (refused.number ≡ number)

-- the fault names the first refusal down, or is want of memory
abbrev pub IsDownFault : List StatedRule → Design → List Edge → NegFault → Type 0
IsDownFault rules design edges (DownRefused node port number) =
    IsRefusalAt (λ edge. place_of rules design.nodes (source_end edge)) (downs rules design edges)
    (record { node = node; port = port }) number
IsDownFault rules design edges (UpRefused node port number) = ⊥
IsDownFault rules design edges Memory = Unit {0}

-- the fault names the first refusal up, or is want of memory
abbrev pub IsUpFault : List StatedRule → Design → List Edge → NegFault → Type 0
IsUpFault rules design edges (DownRefused node port number) = ⊥
IsUpFault rules design edges (UpRefused node port number) =
    IsRefusalAt (λ edge. place_of rules design.nodes (sink_end edge)) (ups rules design edges)
    (record { node = node; port = port }) number
IsUpFault rules design edges Memory = Unit {0}

-- the first refusal down, or where none is refused down the first one up, or want of memory
abbrev pub IsNegFault : List StatedRule → Design → List Edge → NegFault → Type 0
IsNegFault rules design edges fault =
    IsDownFault rules design edges fault ⊎ (IsOk (downs rules design edges) × IsUpFault rules design edges fault)

-- ---- what they mean

-- A design without a cycle, whose binds name nodes that exist, with edges that its binds make.
pub record IsNegotiable (design : Design) (edges : List Edge) : Type 0 where
  pub acyclic : first (left_out design) ≡ None
  pub named : All (HasNodes design.nodes) design.binds
  pub made : All (FollowsBind design.binds) edges

-- The only solution: the ports of all edges down and up with which each edge's equations hold.
pub record IsOnlySolution (rules : List StatedRule) (design : Design) (edges : List Edge)
    (solution : Solution) : Type 0 where
  pub down : OnlySolves (down_pass rules design.nodes edges) edges solution.down
  pub up : OnlySolves (up_pass rules design.nodes edges) edges solution.up

-- where the passes end they give the only solution; where one refuses it is the first refusal in its order, and no
-- ports solve
pub record NegotiationLaw : Type 0 where
  pub down : (rules : List StatedRule) (design : Design) (edges : List Edge) → IsNegotiable design edges
      → (ports : List DownPort) → downs rules design edges ≡ Ok ports
      → OnlySolves (down_pass rules design.nodes edges) edges ports
  pub up : (rules : List StatedRule) (design : Design) (edges : List Edge) → IsNegotiable design edges
      → (ports : List UpPort) → ups rules design edges ≡ Ok ports
      → OnlySolves (up_pass rules design.nodes edges) edges ports
  pub down_refused : (rules : List StatedRule) (design : Design) (edges : List Edge) → IsNegotiable design edges
      → (refused : Refusal) → downs rules design edges ≡ Err refused
      → RefusesFirst (down_pass rules design.nodes edges) (steps_down (canonical_order design) edges) refused
  pub up_refused : (rules : List StatedRule) (design : Design) (edges : List Edge) → IsNegotiable design edges
      → (refused : Refusal) → ups rules design edges ≡ Err refused
      → RefusesFirst (up_pass rules design.nodes edges) (steps_up (canonical_order design) edges) refused
  pub down_unsolved : (rules : List StatedRule) (design : Design) (edges : List Edge) → IsNegotiable design edges
      → (refused : Refusal) → downs rules design edges ≡ Err refused
      → (ports : List DownPort) → Solves (down_pass rules design.nodes edges) edges ports → ⊥
  pub up_unsolved : (rules : List StatedRule) (design : Design) (edges : List Edge) → IsNegotiable design edges
      → (refused : Refusal) → ups rules design edges ≡ Err refused
      → (ports : List UpPort) → Solves (up_pass rules design.nodes edges) edges ports → ⊥
