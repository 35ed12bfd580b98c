-- What every design that a file states keeps. It is asked of a design that a caller makes.
use Rattle.std.specs.Prelude.{ℕ, ◌≡◌, ◌≢◌, ◌<◌, ◌≤◌, ◌+◌, List, [], ◌∷◌, length, All, AllPairs, IsTrue}
use Rattle.dip_sets.specs.Sets.{Pattern, IsSet}
use Rattle.tl_params.specs.declared.ops.Ops.{Ops}
use Rattle.tl_params.specs.Arguments.{is_width}
use Rattle.dip_graph.specs.declared.design.Design.{Design}
use Rattle.dip_graph.specs.declared.design.ModuleEntry.{ModuleEntry}
use Rattle.dip_graph.specs.declared.design.NodeEntry.{NodeEntry}
use Rattle.dip_graph.specs.declared.design.NodeKind.{NodeKind}
use Rattle.dip_graph.specs.declared.design.NodeKind.TheVariants.{Source, Sink, Ruled}
use Rattle.dip_graph.specs.Edges.{HasNodes}
use Rattle.dip_graph.specs.Limits.{most_name_bytes, most_modules, most_nodes, most_binds}
use Rattle.dip_graph.specs.Limits.{most_args, most_ports, most_sets, most_source_ids, most_atomic}

-- one at least, and so many at most
abbrev pub IsUpTo : ℕ → ℕ → Type 0
IsUpTo most count = (1 ≤ count) × (count ≤ most)

-- a name isn't too long
abbrev pub IsShortName : List ℕ → Type 0
IsShortName name = length name ≤ most_name_bytes

-- ---- nodes

-- no transfer of an atomic operation is too large
abbrev pub HasSmallAtomics : Ops → Type 0
HasSmallAtomics ops = (ops.arithmetic.max ≤ most_atomic) × (ops.logical.max ≤ most_atomic)

-- the address sets of a port of a sink
abbrev pub IsStatedPort : List Pattern → Type 0
IsStatedPort sets = IsUpTo most_sets (length sets) × All IsSet sets

-- what is said of a node by its kind is within the limits
abbrev pub IsStatedKind : NodeKind → Type 0
IsStatedKind (Source ports ids emits) =
    IsUpTo most_ports ports × IsUpTo most_source_ids ids × HasSmallAtomics emits
IsStatedKind (Sink beat ports supports) =
    IsTrue (is_width beat)
    × IsUpTo most_ports (length ports)
    × All IsStatedPort ports
    × HasSmallAtomics supports
IsStatedKind (Ruled kind args) = IsShortName kind × (length args ≤ most_args)

-- a node in one of so many modules
abbrev pub IsStatedNode : ℕ → NodeEntry → Type 0
IsStatedNode modules node = IsShortName node.name × (node.«module» < modules) × IsStatedKind node.kind

-- ---- modules

-- modules of which the first one has this number: the parent of each has a lower number than its own
abbrev pub HaveEarlierParents : ℕ → List ModuleEntry → Type 0
HaveEarlierParents number [] = Unit {0}
HaveEarlierParents number (m ∷ ms) = (m.parent < number) × HaveEarlierParents (number + 1) ms

-- the top module with the design's name and parent 0, and after it modules with earlier parents
abbrev pub IsTree : List ℕ → List ModuleEntry → Type 0
IsTree name [] = ⊥
IsTree name (top ∷ ms) = (top.name ≡ name) × (top.parent ≡ 0) × HaveEarlierParents 1 ms

-- ---- the design

-- Names that aren't too long; modules that are a tree; nodes whose names differ, each within the limits and in one of
-- the modules; and binds, each from one of the nodes to one of them.
pub record IsWellStated (design : Design) : Type 0 where
  pub name : IsShortName design.name
  pub few_modules : length design.modules ≤ most_modules + 1
  pub tree : IsTree design.name design.modules
  pub module_names : All (λ (m : ModuleEntry). IsShortName m.name) design.modules
  pub some_nodes : IsUpTo most_nodes (length design.nodes)
  pub nodes : All (IsStatedNode (length design.modules)) design.nodes
  pub apart : AllPairs (λ (a b : NodeEntry). a.name ≢ b.name) design.nodes
  pub few_binds : length design.binds ≤ most_binds
  pub bound : All (HasNodes design.nodes) design.binds
