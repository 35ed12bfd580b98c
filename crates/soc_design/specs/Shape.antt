-- The shape of a design file's tables: which keys stand in them, and values of which types.
use Rattle.std.specs.Prelude.{ℕ, List, [], ◌∷◌, codes, Bool, true, false, ◌&&◌, cond, Option, Some, None, is_some}
use Rattle.std.specs.Str.{bytes_eq}
use Rattle.toml.specs.Data.{Data, array, table, Items, no_items, item, Members, no_members, member, get_member}
use Rattle.soc_design.specs.declared.shape.Part.{Part}
use Rattle.soc_design.specs.declared.shape.Part.TheVariants.{Module, Node, Bind}
use Rattle.toml_shape.specs.Shapes.{keys_among, pair_of, name_under, integer_under, tables_under}
use Rattle.toml_shape.specs.Shapes.{is_integer, is_short_name, is_one_of, has, may_have}

-- ---- values

-- each of some items is an integer
abbrev pub are_integers : Items → Bool
are_integers no_items = true
are_integers (item d ds) = is_integer d && are_integers ds

-- an array of integers
abbrev pub is_integer_list : Data → Bool
is_integer_list (array ds) = are_integers ds
is_integer_list d = false

-- an array of two integers
abbrev pub is_pair : Data → Bool
is_pair d = is_some (pair_of d)

-- each of some items is an array of two integers
abbrev pub are_pairs : Items → Bool
are_pairs no_items = true
are_pairs (item d ds) = is_pair d && are_pairs ds

-- an array of such pairs
abbrev pub is_set_list : Data → Bool
is_set_list (array ds) = are_pairs ds
is_set_list d = false

-- each of some items is an array of such pairs
abbrev pub are_set_lists : Items → Bool
are_set_lists no_items = true
are_set_lists (item d ds) = is_set_list d && are_set_lists ds

-- an array with an array of such pairs for each port
abbrev pub is_port_list : Data → Bool
is_port_list (array ds) = are_set_lists ds
is_port_list d = false

-- under each key stands an array of two integers
abbrev pub have_pairs : Members → Bool
have_pairs no_members = true
have_pairs (member k d ms) = is_pair d && have_pairs ms

-- the names of the operations
abbrev pub operation_keys : List (List ℕ)
operation_keys =
    codes "get" ∷ codes "put_full" ∷ codes "put_partial" ∷ codes "arithmetic" ∷ codes "logical" ∷ codes "intent" ∷ []

-- a table of pairs by the names of operations
abbrev pub is_operations : Data → Bool
is_operations (table ms) = keys_among operation_keys ms && have_pairs ms
is_operations d = false

-- ---- tables

-- the keys of the top table
abbrev pub top_keys : List (List ℕ)
top_keys = codes "version" ∷ codes "name" ∷ codes "policy" ∷ codes "module" ∷ codes "node" ∷ codes "bind" ∷ []

-- the policies
abbrev pub policies : List (List ℕ)
policies = codes "lowest" ∷ codes "round" ∷ []

-- modules, nodes and binds, as far as they are there, are arrays of tables
abbrev pub has_arrays : Members → Bool
has_arrays ms =
    is_some (tables_under (codes "module") ms) && is_some (tables_under (codes "node") ms)
    && is_some (tables_under (codes "bind") ms)

-- a version and a name, and as far as they are there a policy and the arrays
abbrev pub top_has_shape : Members → Bool
top_has_shape ms =
    keys_among top_keys ms && is_some (integer_under (codes "version") ms) && is_some (name_under (codes "name") ms)
    && may_have (is_one_of policies) (get_member (codes "policy") ms) && has_arrays ms

-- the keys of a module
abbrev pub module_keys : List (List ℕ)
module_keys = codes "name" ∷ codes "parent" ∷ []

-- a name, and a parent as far as it is there
abbrev pub module_has_shape : Data → Bool
module_has_shape (table ms) =
    keys_among module_keys ms && is_some (name_under (codes "name") ms)
    && may_have is_short_name (get_member (codes "parent") ms)
module_has_shape d = false

-- the keys of a source
abbrev pub source_keys : List (List ℕ)
source_keys = codes "name" ∷ codes "module" ∷ codes "kind" ∷ codes "ids" ∷ codes "emits" ∷ codes "ports" ∷ []

-- ids and what is emitted, and ports as far as they are there
abbrev pub source_has_shape : Members → Bool
source_has_shape ms =
    keys_among source_keys ms && is_some (integer_under (codes "ids") ms)
    && has is_operations (get_member (codes "emits") ms)
    && may_have is_integer (get_member (codes "ports") ms)

-- the keys of a sink
abbrev pub sink_keys : List (List ℕ)
sink_keys = codes "name" ∷ codes "module" ∷ codes "kind" ∷ codes "beat" ∷ codes "addresses" ∷ codes "supports" ∷ []

-- a beat, addresses and what is supported
abbrev pub sink_has_shape : Members → Bool
sink_has_shape ms =
    keys_among sink_keys ms && is_some (integer_under (codes "beat") ms)
    && has is_port_list (get_member (codes "addresses") ms)
    && has is_operations (get_member (codes "supports") ms)

-- the keys of a node of any other kind
abbrev pub ruled_keys : List (List ℕ)
ruled_keys = codes "name" ∷ codes "module" ∷ codes "kind" ∷ codes "args" ∷ []

-- arguments as far as they are there
abbrev pub ruled_has_shape : Members → Bool
ruled_has_shape ms = keys_among ruled_keys ms && may_have is_integer_list (get_member (codes "args") ms)

-- sources and sinks have keys of their own; any other kind is a name
abbrev pub named_kind_has_shape : Option (List ℕ) → Members → Bool
named_kind_has_shape None ms = false
named_kind_has_shape (Some kind) ms =
    cond (bytes_eq kind (codes "source")) (source_has_shape ms)
    (cond (bytes_eq kind (codes "sink")) (sink_has_shape ms) (ruled_has_shape ms))

-- the shape that the kind asks for
abbrev pub kind_has_shape : Members → Bool
kind_has_shape ms = named_kind_has_shape (name_under (codes "kind") ms) ms

-- a name, a module as far as it is there, and what the kind asks for
abbrev pub node_has_shape : Data → Bool
node_has_shape (table ms) =
    is_some (name_under (codes "name") ms) && may_have is_short_name (get_member (codes "module") ms)
    && kind_has_shape ms
node_has_shape d = false

-- the keys of a bind
abbrev pub bind_keys : List (List ℕ)
bind_keys = codes "to" ∷ codes "from" ∷ codes "kind" ∷ []

-- the kinds of binds
abbrev pub bind_kinds : List (List ℕ)
bind_kinds = codes ":=" ∷ codes ":=*" ∷ codes ":*=" ∷ []

-- the names of two nodes, and a kind as far as it is there
abbrev pub bind_has_shape : Data → Bool
bind_has_shape (table ms) =
    keys_among bind_keys ms && is_some (name_under (codes "to") ms) && is_some (name_under (codes "from") ms)
    && may_have (is_one_of bind_kinds) (get_member (codes "kind") ms)
bind_has_shape d = false

-- the shape of a module, a node or a bind
abbrev pub part_has_shape : Part → Data → Bool
part_has_shape Module d = module_has_shape d
part_has_shape Node d = node_has_shape d
part_has_shape Bind d = bind_has_shape d
