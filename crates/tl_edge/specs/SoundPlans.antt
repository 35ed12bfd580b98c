-- Which plans are sound. Whatever is promised of networks is promised of those of sound plans.
use Rattle.std.specs.Prelude.{ℕ, ◌≡◌, ◌+◌, ◌<◌, ◌≤◌, List, [], ◌∷◌, ◌++◌, map, max, length, All, AllPairs, IsTrue, Option, Some, None}
use Rattle.std.specs.Option.{option_map}
use Rattle.dip_sets.specs.declared.ids.IdRange.{IdRange}
use Rattle.dip_sets.specs.Assignments.{assigned}
use Rattle.dip_sets.specs.Sets.{Disjoint}
use Rattle.dip_sets.specs.SizeRanges.{SizeRange, size_range, is_size_range}
use Rattle.tl_params.specs.declared.arguments.Fragments.{Fragments}
use Rattle.tl_params.specs.declared.ops.Op.{Op}
use Rattle.tl_params.specs.declared.ops.Template.{Template}
use Rattle.tl_params.specs.declared.ops.Template.TheVariants.{Width, Fragmenter, Shrinker, Xbar}
use Rattle.tl_params.specs.declared.ports.Slave.{Slave}
use Rattle.tl_params.specs.Aligned.{IsAligned}
use Rattle.tl_params.specs.Arguments.{is_width, fragment_arguments, shrink_argument}
use Rattle.tl_params.specs.Carried.{slaves_fit}
use Rattle.tl_params.specs.Operations.{largest, sizes_of}
use Rattle.tl_params.specs.OwnerLaw.{HaveSets}
use Rattle.tl_params.specs.Owners.{sets_of}
use Rattle.tl_edge.specs.declared.plan.Leaf.{Leaf}
use Rattle.tl_edge.specs.declared.plan.PlanEdge.{PlanEdge}
use Rattle.tl_edge.specs.declared.plan.PlanPort.{PlanPort}
use Rattle.tl_edge.specs.declared.plan.Plan.{Plan}
use Rattle.tl_edge.specs.Bundles.{bundle}
use Rattle.tl_edge.specs.Plans.{edge_at, ins_of, outs_of, joined_slaves, bus_width, given_edges, taken_edges, times, NoneReturns}

-- ---- an edge by itself

-- no transfer is larger than 256 bytes, and no atomic one larger than 8
pub record IsSmall (slave : Slave) : Type 0 where
  pub all : largest slave.supports ≤ 256
  pub arithmetic : slave.supports.arithmetic.max ≤ 8
  pub logical : slave.supports.logical.max ≤ 8

-- what each range of sizes keeps
abbrev pub HasRanges : Slave → Type 0
HasRanges slave = (op : Op) → IsTrue (is_size_range (sizes_of slave.supports op))

-- what an edge of a sound plan keeps
pub record IsSoundEdge (edge : PlanEdge) : Type 0 where
  pub some_ids : 1 ≤ edge.ids
  pub few_ids : edge.ids ≤ 1024
  pub width : IsTrue (is_width (bus_width edge))
  pub bundle : edge.bundle ≡ bundle edge.slaves edge.ids (bus_width edge)
  pub addressed : All (λ (slave : Slave). 1 ≤ length slave.addresses) edge.slaves
  pub sets : HaveSets edge.slaves
  pub sizes : All HasRanges edge.slaves
  pub apart : AllPairs Disjoint (sets_of edge.slaves)
  pub aligned : All IsAligned edge.slaves
  pub small : All IsSmall edge.slaves

-- ---- a leaf and its edges

-- an adapter stands between two edges, a crossbar between some and some
abbrev pub HasShape : Template → List ℕ → List ℕ → Type 0
HasShape Xbar ins outs = (1 ≤ length ins) × (1 ≤ length outs)
HasShape _ ins outs = (length ins ≡ 1) × (length outs ≡ 1)

-- the sizes that a fragmenter lets pass whole; the larger ones it cuts
abbrev pub pieces_of : Template → List ℕ → Option SizeRange
pieces_of Fragmenter args = option_map (λ fragments. size_range 1 fragments.piece) (fragment_arguments args)
pieces_of _ args = None

-- an edge shows the slaves of others in order, and promises no more than they support, or than can be cut into what
-- they support
abbrev pub Shows : Option SizeRange → List PlanEdge → PlanEdge → Type 0
Shows pieces others edge = IsTrue (slaves_fit pieces edge.slaves (joined_slaves others))

-- buses of different widths meet at a width adapter alone
abbrev pub WidthsAgree : Template → List PlanEdge → Type 0
WidthsAgree Width edges = All (λ edge. IsTrue (is_width (bus_width edge))) edges
WidthsAgree _ edges = AllPairs (λ edge other. bus_width edge ≡ bus_width other) edges

-- a fragmenter's pieces have at least the bytes of one beat of what they go to
abbrev pub FillBeats : Option Fragments → List PlanEdge → Type 0
FillBeats None outs = ⊥
FillBeats (Some fragments) outs = All (λ edge. bus_width edge ≤ fragments.piece) outs

-- the arguments of a leaf are such as its template takes, and fit its out edges
abbrev pub ArgumentsAgree : Template → List ℕ → List PlanEdge → Type 0
ArgumentsAgree Fragmenter args outs = FillBeats (fragment_arguments args) outs
ArgumentsAgree Shrinker args outs = (ids : ℕ) × (shrink_argument args ≡ Some ids)
ArgumentsAgree _ args outs = Unit {0}

-- a leaf can carry what its edges agree on
pub record Carries (template : Template) (args : List ℕ) (ins outs : List PlanEdge) : Type 0 where
  pub slaves : All (Shows (pieces_of template args) outs) ins
  pub widths : WidthsAgree template (ins ++ outs)
  pub arguments : ArgumentsAgree template args outs

-- how many ids some edges have
abbrev pub ids_of : List PlanEdge → List ℕ
ids_of edges = map (λ (edge : PlanEdge). edge.ids) edges

-- the greatest end of some counts of ids, each moved to the start of its range
abbrev pub moved_end : List ℕ → List IdRange → ℕ
moved_end [] ranges = 0
moved_end (count ∷ counts) [] = 0
moved_end (count ∷ counts) (range ∷ ranges) = max (count + range.start) (moved_end counts ranges)

-- the ids that leave a leaf: as many as come in, but that a shrinker makes its own, and a crossbar moves those of
-- each input
abbrev pub LeavesIds : Template → List ℕ → List ℕ → ℕ → Type 0
LeavesIds Shrinker args ins out = shrink_argument args ≡ Some out
LeavesIds Xbar args ins out = out ≡ moved_end ins (assigned ins)
LeavesIds _ args ins out = All (λ ids. out ≡ ids) ins

-- each out edge has the ids that leave the leaf
abbrev pub MovesIds : Template → List ℕ → List PlanEdge → List PlanEdge → Type 0
MovesIds template args ins outs = All (LeavesIds template args (ids_of ins)) (ids_of outs)

-- ---- the ports

-- one slave alone answers on the edge of a sink port: the one with its node and port
pub record IsItsSlave (slaves : List Slave) (at : PlanPort) : Type 0 where
  pub slave : Slave
  pub alone : slaves ≡ slave ∷ []
  pub node : slave.node ≡ at.node
  pub port : slave.port ≡ at.port

-- two ports are told apart by node and port, and by name and port
pub record AreApart (a b : PlanPort) : Type 0 where
  pub nodes : a.node ≡ b.node → a.port ≡ b.port → ⊥
  pub names : a.name ≡ b.name → a.port ≡ b.port → ⊥

-- a name of at most 32 bytes, and a port below 64
pub record IsShort (at : PlanPort) : Type 0 where
  pub name : length at.name ≤ 32
  pub port : at.port < 64

-- ---- a whole plan

-- each edge has one giver and one taker, no way leads back, and edges, leaves and ports agree
pub record IsSound (plan : Plan) : Type 0 where
  pub few_edges : length plan.edges ≤ 1024
  pub given : All (λ edge. edge < length plan.edges) (given_edges plan)
  pub taken : All (λ edge. edge < length plan.edges) (taken_edges plan)
  pub given_once : (edge : ℕ) → edge < length plan.edges → times edge (given_edges plan) ≡ 1
  pub taken_once : (edge : ℕ) → edge < length plan.edges → times edge (taken_edges plan) ≡ 1
  pub shaped : All (λ (leaf : Leaf). HasShape leaf.template leaf.ins leaf.outs) plan.leaves
  pub acyclic : NoneReturns plan
  pub edges : All IsSoundEdge plan.edges
  pub carries :
      All (λ (leaf : Leaf). Carries leaf.template leaf.args (ins_of plan leaf) (outs_of plan leaf)) plan.leaves
  pub ids : All (λ (leaf : Leaf). MovesIds leaf.template leaf.args (ins_of plan leaf) (outs_of plan leaf)) plan.leaves
  pub answered : All (λ (port : PlanPort). IsItsSlave (edge_at plan port.edge).slaves port) plan.sinks
  pub apart : AllPairs AreApart (plan.sources ++ plan.sinks)
  pub short_name : length plan.name ≤ 32
  pub short : All IsShort (plan.sources ++ plan.sinks)
