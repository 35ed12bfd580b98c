-- What the node with a number is.
use Rattle.std.specs.Prelude.{ℕ, List, Bool, true, false, Option, Some, None, option_and_then, slice_get}
use Rattle.std.specs.Option.{option_map}
use Rattle.dip_graph.specs.declared.design.NodeKind.{NodeKind}
use Rattle.dip_graph.specs.declared.design.NodeKind.TheVariants.{Source, Sink, Ruled}
use Rattle.dip_graph.specs.declared.design.NodeEntry.{NodeEntry}

-- what the node with a number is, if there is one
abbrev pub kind_at : List NodeEntry → ℕ → Option NodeKind
kind_at nodes n = option_map (λ node. node.kind) (slice_get nodes n)

-- a node that requests come from
abbrev pub is_source : NodeKind → Bool
is_source (Source ports ids emits) = true
is_source (Sink beat ports supports) = false
is_source (Ruled kind args) = false

-- a node that requests end at
abbrev pub is_sink : NodeKind → Bool
is_sink (Sink beat ports supports) = true
is_sink (Source ports ids emits) = false
is_sink (Ruled kind args) = false

-- the name of the kind whose rule makes a node's ports, which sources and sinks haven't
abbrev pub ruled_kind : NodeKind → Option (List ℕ)
ruled_kind (Ruled kind args) = Some kind
ruled_kind (Source ports ids emits) = None
ruled_kind (Sink beat ports supports) = None

-- that of the node with a number, if there is such a node
abbrev pub ruled_kind_at : List NodeEntry → ℕ → Option (List ℕ)
ruled_kind_at nodes n = option_and_then ruled_kind (kind_at nodes n)
