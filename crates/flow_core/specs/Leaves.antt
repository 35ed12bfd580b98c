-- The leaves of a network: the state of each kind, and what it does with a head and without one.
use Rattle.std.specs.Prelude.{ℕ, ◌==◌, ◌&&◌, cond, List, length, map, replicate, Option, Some, None, slice_get}
use Rattle.std.specs.Option.{option_map, option_map_or, unwrap_or}
use Rattle.dip_sets.specs.Assignments.{assigned}
use Rattle.tl_params.specs.declared.arguments.Fragments.{Fragments}
use Rattle.tl_params.specs.declared.ops.Template.{Template}
use Rattle.tl_params.specs.declared.ops.Template.TheVariants.{Buffer, Width, Fragmenter, Shrinker, Xbar}
use Rattle.tl_params.specs.Arguments.{fragment_arguments, shrink_argument}
use Rattle.tl_edge.specs.declared.beat.ABeat.{ABeat}
use Rattle.tl_edge.specs.declared.beat.DBeat.{DBeat}
use Rattle.tl_edge.specs.declared.plan.Leaf.{Leaf}
use Rattle.tl_edge.specs.declared.plan.PlanEdge.{PlanEdge}
use Rattle.tl_edge.specs.declared.plan.Plan.{Plan}
use Rattle.tl_edge.specs.Plans.{ins_of, outs_of, no_edge, bus_width}
use Rattle.tl_edge.specs.SoundPlans.{ids_of}
use Rattle.flow_core.specs.Acts.{Act, lifted, forwards}
use Rattle.flow_core.specs.Crossing.{Crossbar, Gate, Gates, cross_down, cross_up}
use Rattle.flow_core.specs.Shrinking.{Slots, shrink_down, shrink_up}
use Rattle.flow_core.specs.Turning.{Widths, Side, Widget, turn_down, turn_up}
use Rattle.flow_core.specs.Fragmenting.{Knife, Hand, fragment_down, fragment_down_alone, fragment_up, fragment_up_alone}

-- the state of a leaf, with what it goes by
pub data LeafState : Type 0 where
  BufferState : LeafState
  XbarState : (bar : Crossbar) (gates : Gates) → LeafState
  ShrinkerState : (width : ℕ) (slots : Slots) → LeafState
  WidthState : (widths : Widths) (widget : Widget) → LeafState
  FragmenterState : (knife : Knife) (hand : Option Hand) → LeafState

-- ---- acts

-- an adapter has one input, one output and, but for a shrinker, no choice of an id
abbrev pub only_way : {A : Type 0} → ℕ → ℕ → ℕ → Option A → Option A
only_way id input output act = cond (id == 0 && input == 0 && output == 0) act None

-- channel A with a head: from an input to an output, with a new id at a shrinker, and 0 in its place elsewhere
abbrev pub down : LeafState → ℕ → ℕ → ℕ → ABeat → Option (Act ABeat LeafState)
down BufferState id input output beat = only_way id input output (Some (forwards beat BufferState))
down (XbarState bar gates) id input output beat =
    cond (id == 0) (option_map (lifted (XbarState bar)) (cross_down bar gates input output beat)) None
down (ShrinkerState width slots) id input output beat =
    only_way 0 input output (option_map (lifted (ShrinkerState width)) (shrink_down width slots id beat))
down (WidthState widths widget) id input output beat =
    only_way id input output (option_map (lifted (WidthState widths)) (turn_down widths widget beat))
down (FragmenterState knife hand) id input output beat =
    only_way id input output (option_map (lifted (FragmenterState knife)) (fragment_down knife hand beat))

-- channel A without a head
abbrev pub down_alone : LeafState → ℕ → ℕ → ℕ → Option (Act ABeat LeafState)
down_alone BufferState id input output = None
down_alone (XbarState bar gates) id input output = None
down_alone (ShrinkerState width slots) id input output = None
down_alone (WidthState widths widget) id input output = None
down_alone (FragmenterState knife hand) id input output =
    only_way id input output (option_map (lifted (FragmenterState knife)) (fragment_down_alone knife hand))

-- channel D with a head: from an output to an input
abbrev pub up : LeafState → ℕ → ℕ → DBeat → Option (Act DBeat LeafState)
up BufferState input output beat = only_way 0 input output (Some (forwards beat BufferState))
up (XbarState bar gates) input output beat =
    option_map (lifted (XbarState bar)) (cross_up bar gates input output beat)
up (ShrinkerState width slots) input output beat =
    only_way 0 input output (option_map (lifted (ShrinkerState width)) (shrink_up width slots beat))
up (WidthState widths widget) input output beat =
    only_way 0 input output (option_map (lifted (WidthState widths)) (turn_up widths widget beat))
up (FragmenterState knife hand) input output beat =
    only_way 0 input output (option_map (lifted (FragmenterState knife)) (fragment_up knife hand beat))

-- channel D without a head
abbrev pub up_alone : LeafState → ℕ → ℕ → Option (Act DBeat LeafState)
up_alone BufferState input output = None
up_alone (XbarState bar gates) input output = None
up_alone (ShrinkerState width slots) input output = None
up_alone (WidthState widths widget) input output = None
up_alone (FragmenterState knife hand) input output =
    only_way 0 input output (option_map (lifted (FragmenterState knife)) (fragment_up_alone knife hand))

-- ---- the start: idle and empty

-- the first of some edges
abbrev pub first_edge : List PlanEdge → PlanEdge
first_edge edges = unwrap_or (slice_get edges 0) no_edge

-- a gate that nobody holds, with the turn of 0
abbrev pub open_gate : Gate
open_gate = record { lock = None; next = 0 }

-- a crossbar between some edges
abbrev pub crossbar_at_start : List PlanEdge → List PlanEdge → LeafState
crossbar_at_start ins outs =
    XbarState
    (record {
      ranges = assigned (ids_of ins);
      slaves = map (λ (edge : PlanEdge). edge.slaves) outs;
      width = bus_width (first_edge ins);
    })
    (record { outs = replicate (length outs) open_gate; ins = replicate (length ins) open_gate })

-- a shrinker to so many ids
abbrev pub shrinker_at_start : ℕ → PlanEdge → LeafState
shrinker_at_start ids above =
    ShrinkerState (bus_width above) (record { olds = replicate ids None; asking = None; answering = 0 })

-- nothing of a message is done or collected
abbrev pub no_lanes : Side
no_lanes = record { done = 0; mask = 0; payload = 0 }

-- a width widget between two edges
abbrev pub widget_at_start : PlanEdge → PlanEdge → LeafState
widget_at_start above below =
    WidthState (record { above = bus_width above; below = bus_width below })
    (record { kept = replicate above.ids None; a = no_lanes; d = no_lanes })

-- the bytes of a fragmenter's pieces
abbrev pub piece_bytes : List ℕ → ℕ
piece_bytes args = option_map_or (λ (fragments : Fragments). fragments.piece) (fragment_arguments args) 0

-- a leaf of a template, with its arguments, between some edges
abbrev pub idle_state : Template → List ℕ → List PlanEdge → List PlanEdge → LeafState
idle_state Buffer args ins outs = BufferState
idle_state Xbar args ins outs = crossbar_at_start ins outs
idle_state Shrinker args ins outs = shrinker_at_start (unwrap_or (shrink_argument args) 0) (first_edge ins)
idle_state Width args ins outs = widget_at_start (first_edge ins) (first_edge outs)
idle_state Fragmenter args ins outs =
    FragmenterState (record { most = piece_bytes args; width = bus_width (first_edge ins) }) None

-- a leaf of a plan
abbrev pub leaf_at_start : Plan → Leaf → LeafState
leaf_at_start plan leaf = idle_state leaf.template leaf.args (ins_of plan leaf) (outs_of plan leaf)
