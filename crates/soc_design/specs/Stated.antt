-- What the tables of a design file state, where their numbers are within the limits and their names are known.
use Rattle.std.specs.Prelude.{ℕ, ℤ, ◌+◌, List, [], ◌∷◌, length, take, codes, ◌&&◌, ◌==◌, cond}
use Rattle.std.specs.Prelude.{nat_le, bit_and, Option, Some, None, unwrap_or, position}
use Rattle.std.specs.List.{list_any}
use Rattle.std.specs.Option.{option_and_then, option_map}
use Rattle.std.specs.Str.{bytes_eq}
use Rattle.toml.specs.Data.{Data, array, table, Items, no_items, item, Members, get_member}
use Rattle.dip_sets.specs.Sets.{Pattern}
use Rattle.dip_sets.specs.SizeRanges.{SizeRange, size_range, no_sizes, is_size_pair}
use Rattle.tl_params.specs.declared.ops.Ops.{Ops}
use Rattle.tl_params.specs.declared.ops.Policy.{Policy}
use Rattle.tl_params.specs.declared.ops.Policy.TheVariants.{Lowest, Round}
use Rattle.dip_graph.specs.declared.design.NodeKind.{NodeKind}
use Rattle.dip_graph.specs.declared.design.NodeKind.TheVariants.{Source, Sink, Ruled}
use Rattle.dip_graph.specs.declared.design.ModuleEntry.{ModuleEntry}
use Rattle.dip_graph.specs.declared.design.NodeEntry.{NodeEntry}
use Rattle.dip_graph.specs.declared.design.BindEntry.{BindEntry}
use Rattle.dip_graph.specs.declared.design.Star.{Star}
use Rattle.dip_graph.specs.declared.design.Star.TheVariants.{One, FromStar, ToStar}
use Rattle.tl_params.specs.Arguments.{is_width}
use Rattle.toml_shape.specs.Entries.{all_of, each_of, of_length}
use Rattle.toml_shape.specs.Shapes.{integer_of, text_of, pair_of, number_within}
use Rattle.toml_shape.specs.Shapes.{table_under, text_under, name_under, number_under}
use Rattle.dip_graph.specs.Limits.{most_atomic, most_sets, most_ports, most_source_ids, most_args}
use Rattle.soc_design.specs.Limits.{most_transfer, most_address, most_beat, most_arg}
use Rattle.soc_design.specs.declared.limits.Heading.{Heading}
use Rattle.soc_design.specs.declared.nodes.LimitedNode.{LimitedNode}

-- ---- sizes of transfers, in bytes

-- the sizes from a least to a greatest one: powers of two in order
abbrev pub stated_range : ℕ → ℕ → Option SizeRange
stated_range least greatest = cond (is_size_pair least greatest) (Some (size_range least greatest)) None

-- the sizes of a pair of numbers up to a greatest one
abbrev pub sizes_of_pair : ℕ → ℤ × ℤ → Option SizeRange
sizes_of_pair most p =
    option_and_then (λ least. option_and_then (λ greatest. stated_range least greatest) (number_within 1 most p.1))
    (number_within 1 most p.0)

-- the sizes of an operation, none where it is missing
abbrev pub stated_sizes : ℕ → Option Data → Option SizeRange
stated_sizes most None = Some no_sizes
stated_sizes most (Some d) = option_and_then (sizes_of_pair most) (pair_of d)

-- the sizes of all operations
abbrev pub operations_in : Members → Option Ops
operations_in ms =
    option_and_then (λ get. option_and_then (λ put_full. option_and_then (λ put_partial.
    option_and_then (λ arithmetic. option_and_then (λ logical. option_map (λ intent.
    record {
      get = get;
      put_full = put_full;
      put_partial = put_partial;
      arithmetic = arithmetic;
      logical = logical;
      intent = intent;
    })
    (stated_sizes most_transfer (get_member (codes "intent") ms)))
    (stated_sizes most_atomic (get_member (codes "logical") ms)))
    (stated_sizes most_atomic (get_member (codes "arithmetic") ms)))
    (stated_sizes most_transfer (get_member (codes "put_partial") ms)))
    (stated_sizes most_transfer (get_member (codes "put_full") ms)))
    (stated_sizes most_transfer (get_member (codes "get") ms))

-- the operations in the table under a key
abbrev pub operations_under : List ℕ → Members → Option Ops
operations_under key ms = option_and_then operations_in (table_under key ms)

-- ---- addresses

-- a base and a mask within their limit and without a common bit
abbrev pub set_of_pair : ℤ × ℤ → Option Pattern
set_of_pair p =
    option_and_then (λ base. option_and_then (λ mask.
    cond (bit_and base mask == 0) (Some (record { base = base; mask = mask })) None)
    (number_within 0 most_address p.1)) (number_within 0 most_address p.0)

-- the address set of an array of two integers
abbrev pub set_of : Data → Option Pattern
set_of d = option_and_then set_of_pair (pair_of d)

-- at least one set, and no more than a port may have
abbrev pub stated_sets : Data → Option (List Pattern)
stated_sets (array ds) = option_and_then (of_length 1 most_sets) (all_of set_of ds)
stated_sets d = None

-- at least one port, and no more than a sink may have
abbrev pub stated_ports : Option Data → Option (List (List Pattern))
stated_ports (Some (array ds)) = option_and_then (of_length 1 most_ports) (all_of stated_sets ds)
stated_ports (Some d) = None
stated_ports None = None

-- ---- nodes

-- from 1 to the most that a source may have, 1 where it is missing
abbrev pub port_count_of : Option Data → Option ℕ
port_count_of None = Some 1
port_count_of (Some d) = option_and_then (number_within 1 most_ports) (integer_of d)

-- the ports of a source
abbrev pub port_count_in : Members → Option ℕ
port_count_in ms = port_count_of (get_member (codes "ports") ms)

-- a source
abbrev pub source_of : Members → Option NodeKind
source_of ms =
    option_and_then (λ ports. option_and_then (λ ids. option_map (λ emits. Source ports ids emits)
    (operations_under (codes "emits") ms))
    (number_under (codes "ids") 1 most_source_ids ms))
    (port_count_in ms)

-- a number that a bus may have as its bytes
abbrev pub stated_beat : ℕ → Option ℕ
stated_beat n = cond (is_width n) (Some n) None

-- the bytes of a bus that stand under a key
abbrev pub beat_under : List ℕ → Members → Option ℕ
beat_under key ms = option_and_then stated_beat (number_under key 1 most_beat ms)

-- a sink
abbrev pub sink_of : Members → Option NodeKind
sink_of ms =
    option_and_then (λ beat. option_and_then (λ ports. option_map (λ supports. Sink beat ports supports)
    (operations_under (codes "supports") ms))
    (stated_ports (get_member (codes "addresses") ms)))
    (beat_under (codes "beat") ms)

-- an argument: an integer within its limit
abbrev pub arg_of : Data → Option ℕ
arg_of d = option_and_then (number_within 0 most_arg) (integer_of d)

-- no more arguments than a node may have, none where they are missing
abbrev pub args_of : Option Data → Option (List ℕ)
args_of None = Some []
args_of (Some (array ds)) = option_and_then (of_length 0 most_args) (all_of arg_of ds)
args_of (Some d) = None

-- a node of a kind that a rule is for
abbrev pub ruled_of : List ℕ → Members → Option NodeKind
ruled_of kind ms = option_map (Ruled kind) (args_of (get_member (codes "args") ms))

-- a node of a kind: a source, a sink or one that a rule is for
abbrev pub named_kind_of : Option (List ℕ) → Members → Option NodeKind
named_kind_of None ms = None
named_kind_of (Some kind) ms =
    cond (bytes_eq kind (codes "source")) (source_of ms)
    (cond (bytes_eq kind (codes "sink")) (sink_of ms) (ruled_of kind ms))

-- what a node is
abbrev pub kind_of : Members → Option NodeKind
kind_of ms = named_kind_of (name_under (codes "kind") ms) ms

-- a node, before its module is looked up
abbrev pub node_of : Data → Option LimitedNode
node_of (table ms) =
    option_and_then (λ name. option_map (λ kind. record { name = name; kind = kind }) (kind_of ms))
    (name_under (codes "name") ms)
node_of d = None

-- ---- the top table

-- the policy with a name
abbrev pub policy_named : List ℕ → Option Policy
policy_named text =
    cond (bytes_eq text (codes "lowest")) (Some Lowest) (cond (bytes_eq text (codes "round")) (Some Round) None)

-- the lowest input first where it is missing
abbrev pub policy_of : Option Data → Option Policy
policy_of None = Some Lowest
policy_of (Some d) = option_and_then policy_named (text_of d)

-- the policy of a design
abbrev pub policy_in : Members → Option Policy
policy_in ms = policy_of (get_member (codes "policy") ms)

-- the name and the policy of a file of version 1
abbrev pub heading_of : Members → Option Heading
heading_of ms =
    option_and_then (λ version. option_and_then (λ name. option_map (λ policy. record { name = name; policy = policy })
    (policy_in ms))
    (name_under (codes "name") ms))
    (number_under (codes "version") 1 1 ms)

-- ---- names

-- the name that a module's or a node's table has
abbrev pub name_at : Data → List ℕ
name_at (table ms) = unwrap_or (name_under (codes "name") ms) []
name_at d = []

-- the names of some tables in their order
abbrev pub names_at : Items → List (List ℕ)
names_at no_items = []
names_at (item d ds) = name_at d ∷ names_at ds

-- ---- modules, whose names begin with the top one's

-- the number of a module, the top one where none is named
abbrev pub module_named : List (List ℕ) → Option (List ℕ) → Option ℕ
module_named modules None = Some 0
module_named modules (Some name) = position (bytes_eq name) modules

-- the number of the module that a key names
abbrev pub module_under : List ℕ → List (List ℕ) → Members → Option ℕ
module_under key modules ms = module_named modules (text_under key ms)

-- a name that isn't one of these
abbrev pub new_name : List (List ℕ) → List ℕ → Option (List ℕ)
new_name names name = cond (list_any (bytes_eq name) names) None (Some name)

-- a module after these: its name is a new one, and its parent one of these
abbrev pub module_after : List (List ℕ) → Data → Option ModuleEntry
module_after earlier (table ms) =
    option_and_then (λ name. option_map (λ parent. record { name = name; parent = parent })
    (module_under (codes "parent") earlier ms))
    (option_and_then (new_name earlier) (name_under (codes "name") ms))
module_after earlier d = None

-- the module with a place among the tables, after the top one and the modules before it
abbrev pub module_at : List ℕ → List (List ℕ) → ℕ → Data → Option ModuleEntry
module_at top names place d = module_after (top ∷ take place names) d

-- the top module, and those of some tables
abbrev pub modules_of : List ℕ → Items → Option (List ModuleEntry)
modules_of top ds =
    option_map (λ rest. record { name = top; parent = 0 } ∷ rest) (each_of (module_at top (names_at ds)) 0 ds)

-- the number of a node's module
abbrev pub module_of : List (List ℕ) → Data → Option ℕ
module_of modules (table ms) = module_under (codes "module") modules ms
module_of modules d = None

-- a node in the module with this number
abbrev pub node_in : LimitedNode → ℕ → NodeEntry
node_in node number = record { name = node.name; «module» = number; kind = node.kind }

-- a node in its module
abbrev pub placed_node : List (List ℕ) → Data → Option NodeEntry
placed_node modules d = option_and_then (λ node. option_map (node_in node) (module_of modules d)) (node_of d)

-- ---- binds

-- the number of the node that a key names
abbrev pub node_under : List ℕ → List (List ℕ) → Members → Option ℕ
node_under key names ms = option_and_then (λ name. position (bytes_eq name) names) (name_under key ms)

-- how many edges the sign of a bind makes
abbrev pub star_named : List ℕ → Option Star
star_named text =
    cond (bytes_eq text (codes ":=")) (Some One)
    (cond (bytes_eq text (codes ":=*")) (Some FromStar) (cond (bytes_eq text (codes ":*=")) (Some ToStar) None))

-- one edge where it is missing
abbrev pub star_of : Option Data → Option Star
star_of None = Some One
star_of (Some d) = option_and_then star_named (text_of d)

-- how many edges a bind makes
abbrev pub star_in : Members → Option Star
star_in ms = star_of (get_member (codes "kind") ms)

-- the numbers of the nodes that a bind names, and how many edges it makes
abbrev pub bind_of : List (List ℕ) → Data → Option BindEntry
bind_of names (table ms) =
    option_and_then (λ to. option_and_then (λ from. option_map (λ star. record { to = to; from = from; star = star })
    (star_in ms))
    (node_under (codes "from") names ms))
    (node_under (codes "to") names ms)
bind_of names d = None
