-- A sound plan with a leaf of each template: two sources, the four ids of the one made two by a shrinker, the three of
-- the other rounded up to four, and behind a crossbar a memory on a bus of eight bytes and a device on a bus of four.
use Rattle.std.specs.Prelude.{ℕ, List, [], ◌∷◌, codes}
use Rattle.dip_sets.specs.SizeRanges.{SizeRange, size_range, no_sizes}
use Rattle.tl_params.specs.declared.ops.Ops.{Ops}
use Rattle.tl_params.specs.declared.ops.Policy.TheVariants.{Lowest}
use Rattle.tl_params.specs.declared.ops.Template.{Template}
use Rattle.tl_params.specs.declared.ops.Template.TheVariants.{Buffer, Width, Fragmenter, Shrinker, Xbar}
use Rattle.tl_params.specs.declared.ports.Slave.{Slave}
use Rattle.tl_edge.specs.declared.plan.Leaf.{Leaf}
use Rattle.tl_edge.specs.declared.plan.PlanEdge.{PlanEdge}
use Rattle.tl_edge.specs.declared.plan.PlanPort.{PlanPort}
use Rattle.tl_edge.specs.declared.plan.Plan.{Plan}
use Rattle.tl_edge.specs.Bundles.{bundle}
use Rattle.tl_edge.specs.SoundPlans.{IsSound}

-- reads and writes of some sizes
abbrev pub reads_and_writes : SizeRange → Ops
reads_and_writes sizes =
    record {
      get = sizes;
      put_full = sizes;
      put_partial = sizes;
      arithmetic = no_sizes;
      logical = no_sizes;
      intent = no_sizes;
    }

-- reads and writes of some sizes, and atomic operations on at most eight bytes
abbrev pub with_atomics : SizeRange → Ops
with_atomics sizes =
    record {
      get = sizes;
      put_full = sizes;
      put_partial = sizes;
      arithmetic = size_range 1 8;
      logical = size_range 1 8;
      intent = no_sizes;
    }

-- a memory of 64 KiB
abbrev pub memory : Slave
memory = record {
  node = 5;
  port = 0;
  addresses = record { base = 0x80000000; mask = 0xffff } ∷ [];
  supports = with_atomics (size_range 1 64);
}

-- a device of 4 KiB, where transfers of these sizes can be taken
abbrev pub device : SizeRange → Slave
device sizes = record {
  node = 8;
  port = 0;
  addresses = record { base = 0x10000000; mask = 0xfff } ∷ [];
  supports = reads_and_writes sizes;
}

-- an edge with some slaves, ids from 0 to below an end, and a bus of some bytes
abbrev pub edge : ℕ → ℕ → List Slave → PlanEdge
edge width ids slaves = record { bundle = bundle slaves ids width; slaves = slaves; ids = ids }

-- a leaf of a template
abbrev pub leaf : Template → List ℕ → List ℕ → List ℕ → Leaf
leaf template args ins outs = record { template = template; ins = ins; outs = outs; args = args }

-- the port 0 of a node, at an edge
abbrev pub example_port : List ℕ → ℕ → ℕ → PlanPort
example_port name node number = record { edge = number; node = node; port = 0; name = name }

-- ---- the edges, by their numbers from 0

-- edge 0: from the core to the shrinker
abbrev pub from_core : PlanEdge
from_core = edge 8 4 (memory ∷ device (size_range 1 64) ∷ [])

-- edge 1: from the shrinker to the crossbar
abbrev pub from_shrinker : PlanEdge
from_shrinker = edge 8 2 (memory ∷ device (size_range 1 64) ∷ [])

-- edge 2: from the copying engine to the crossbar
abbrev pub from_dma : PlanEdge
from_dma = edge 8 3 (memory ∷ device (size_range 1 64) ∷ [])

-- edge 3: from the crossbar to the buffer, with the engine's ids 0 to 2 and the shrinker's moved to 4 and 5
abbrev pub to_buffer : PlanEdge
to_buffer = edge 8 6 (memory ∷ [])

-- edge 4: from the buffer to the memory
abbrev pub to_memory : PlanEdge
to_memory = edge 8 6 (memory ∷ [])

-- edge 5: from the crossbar to the width adapter
abbrev pub to_width : PlanEdge
to_width = edge 8 6 (device (size_range 1 64) ∷ [])

-- edge 6: from the width adapter to the fragmenter
abbrev pub to_fragmenter : PlanEdge
to_fragmenter = edge 4 6 (device (size_range 1 64) ∷ [])

-- edge 7: from the fragmenter to the device, in transfers of at most a beat
abbrev pub to_device : PlanEdge
to_device = edge 4 6 (device (size_range 1 4) ∷ [])

-- ---- the leaves and ports

-- makes four ids two
abbrev pub shrinker : Leaf
shrinker = leaf Shrinker (2 ∷ []) (0 ∷ []) (1 ∷ [])

-- joins the two sources to memory and device
abbrev pub crossbar : Leaf
crossbar = leaf Xbar [] (1 ∷ 2 ∷ []) (3 ∷ 5 ∷ [])

-- before the memory
abbrev pub buffer : Leaf
buffer = leaf Buffer [] (3 ∷ []) (4 ∷ [])

-- from eight bytes to four
abbrev pub width_adapter : Leaf
width_adapter = leaf Width (8 ∷ []) (5 ∷ []) (6 ∷ [])

-- cuts transfers to 64 bytes into pieces of 4
abbrev pub fragmenter : Leaf
fragmenter = leaf Fragmenter (4 ∷ 64 ∷ []) (6 ∷ []) (7 ∷ [])

-- where the core's requests enter
abbrev pub core : PlanPort
core = example_port (codes "core") 0 0

-- where those of the copying engine do
abbrev pub dma : PlanPort
dma = example_port (codes "dma") 1 2

-- where those to the memory leave
abbrev pub ram : PlanPort
ram = example_port (codes "ram") 5 4

-- where those to the device leave
abbrev pub uart : PlanPort
uart = example_port (codes "uart") 8 7

-- the whole plan
abbrev pub example : Plan
example = record {
  name = codes "example";
  policy = Lowest;
  leaves = shrinker ∷ crossbar ∷ buffer ∷ width_adapter ∷ fragmenter ∷ [];
  edges =
      from_core ∷ from_shrinker ∷ from_dma ∷ to_buffer ∷ to_memory ∷ to_width ∷ to_fragmenter ∷ to_device ∷ [];
  sources = core ∷ dma ∷ [];
  sinks = ram ∷ uart ∷ [];
}

-- a plan with a leaf of each template is sound
abbrev pub SomePlanIsSound : Type 0
SomePlanIsSound = IsSound example
