-- A design file: the checks of its bytes in their order, and the design that it states.
use Rattle.std.specs.Prelude.{ℕ, ◌+◌, List, [], ◌∷◌, ◌++◌, length, take, codes, Bool, ◌&&◌, ◌||◌, not, cond}
use Rattle.std.specs.Prelude.{nat_le, Option, Some, None, is_none, unwrap_or, if◌then◌else◌}
use Rattle.std.specs.Option.{option_and_then, option_map}
use Rattle.std.specs.List.{list_any}
use Rattle.std.specs.Str.{bytes_eq, is_utf8}
use Rattle.toml.specs.Parse.{parse_document}
use Rattle.toml.specs.Data.{Data, Items, Members}
use Rattle.dip_lists.specs.First.{Check, check}
use Rattle.dip_graph.specs.declared.design.Design.{Design}
use Rattle.toml_shape.specs.Entries.{all_of, at_top, count, failing, is_past, tables_in}
use Rattle.dip_graph.specs.declared.design.ModuleEntry.{ModuleEntry}
use Rattle.dip_graph.specs.declared.design.NodeEntry.{NodeEntry}
use Rattle.dip_graph.specs.declared.design.BindEntry.{BindEntry}
use Rattle.soc_design.specs.declared.limits.Heading.{Heading}
pub use Rattle.soc_design.specs.Limits.{most_bytes}
use Rattle.dip_graph.specs.Limits.{most_modules, most_nodes, most_binds}
use Rattle.soc_design.specs.Shape.{top_has_shape, module_has_shape, node_has_shape, bind_has_shape}
use Rattle.soc_design.specs.Stated.{heading_of, node_of, placed_node, name_at, names_at}
use Rattle.soc_design.specs.Stated.{module_at, modules_of, module_of, bind_of}

-- ---- entries: the top table is entry 0, then come the modules, the nodes and the binds, each in file order

-- the tables of the modules
abbrev pub modules_in : Members → Items
modules_in = tables_in (codes "module")

-- the tables of the nodes
abbrev pub nodes_in : Members → Items
nodes_in = tables_in (codes "node")

-- the tables of the binds
abbrev pub binds_in : Members → Items
binds_in = tables_in (codes "bind")

-- the entry of the first node: the top table and the modules stand before
abbrev pub first_node : Members → ℕ
first_node ms = 1 + count (modules_in ms)

-- the entry of the first bind: the nodes stand before
abbrev pub first_bind : Members → ℕ
first_bind ms = first_node ms + count (nodes_in ms)

-- ---- check 2: the shape

-- of the top table, and then of each module, node and bind
abbrev pub shape_checks : Members → List Check
shape_checks ms =
    check 2 (at_top (not (top_has_shape ms)))
    ∷ check 2 (failing (λ place d. not (module_has_shape d)) 0 1 (modules_in ms))
    ∷ check 2 (failing (λ place d. not (node_has_shape d)) 0 (first_node ms) (nodes_in ms))
    ∷ check 2 (failing (λ place d. not (bind_has_shape d)) 0 (first_bind ms) (binds_in ms))
    ∷ []

-- ---- check 3: the limits

-- a file of another version, or without nodes
abbrev pub top_is_beyond : Members → Bool
top_is_beyond ms = is_none (heading_of ms) || nat_le (count (nodes_in ms)) 0

-- a node past the allowed number, or with a number beyond its limits
abbrev pub node_is_beyond : ℕ → Data → Bool
node_is_beyond place d = is_past most_nodes place d || is_none (node_of d)

-- the entries of the modules past the allowed number
abbrev pub beyond_modules : Members → List ℕ
beyond_modules ms = failing (is_past most_modules) 0 1 (modules_in ms)

-- the entries of the nodes past the allowed number or with a number beyond its limits
abbrev pub beyond_nodes : Members → List ℕ
beyond_nodes ms = failing node_is_beyond 0 (first_node ms) (nodes_in ms)

-- the entries of the binds past the allowed number
abbrev pub beyond_binds : Members → List ℕ
beyond_binds ms = failing (is_past most_binds) 0 (first_bind ms) (binds_in ms)

-- of the top table, and then of each module, node and bind
abbrev pub limit_checks : Members → List Check
limit_checks ms =
    check 3 (at_top (top_is_beyond ms))
    ∷ check 3 (beyond_modules ms)
    ∷ check 3 (beyond_nodes ms)
    ∷ check 3 (beyond_binds ms)
    ∷ []

-- ---- check 4: the names

-- the names of the modules, that of the top one first
abbrev pub module_names : List ℕ → Members → List (List ℕ)
module_names top ms = top ∷ names_at (modules_in ms)

-- the names of the nodes in file order
abbrev pub node_names : Members → List (List ℕ)
node_names ms = names_at (nodes_in ms)

-- the design's name; where there is none, check 3 fails
abbrev pub heading_name : Option Heading → List ℕ
heading_name None = []
heading_name (Some heading) = heading.name

-- a module with an earlier module's name, or in a module that isn't there earlier
abbrev pub module_is_unnamed : List ℕ → List (List ℕ) → ℕ → Data → Bool
module_is_unnamed top names place d = is_none (module_at top names place d)

-- a node with an earlier node's name, or in a module that isn't there
abbrev pub node_is_unnamed : List (List ℕ) → List (List ℕ) → ℕ → Data → Bool
node_is_unnamed modules names place d =
    list_any (bytes_eq (name_at d)) (take place names) || is_none (module_of modules d)

-- a bind that names a node that isn't there
abbrev pub bind_is_unnamed : List (List ℕ) → ℕ → Data → Bool
bind_is_unnamed names place d = is_none (bind_of names d)

-- the entries of the misnamed ones among some modules
abbrev pub unnamed_modules : List ℕ → Items → List ℕ
unnamed_modules top ds = failing (module_is_unnamed top (names_at ds)) 0 1 ds

-- the same of a file
abbrev pub unnamed_modules_in : List ℕ → Members → List ℕ
unnamed_modules_in top ms = unnamed_modules top (modules_in ms)

-- the entries of the misnamed ones among some nodes, of which the first one has this entry
abbrev pub unnamed_nodes : List (List ℕ) → ℕ → Items → List ℕ
unnamed_nodes modules entry ds = failing (node_is_unnamed modules (names_at ds)) 0 entry ds

-- the same of a file
abbrev pub unnamed_nodes_in : List (List ℕ) → Members → List ℕ
unnamed_nodes_in modules ms = unnamed_nodes modules (first_node ms) (nodes_in ms)

-- the entries of the binds of a file that name a node that isn't there
abbrev pub unnamed_binds_in : List (List ℕ) → Members → List ℕ
unnamed_binds_in names ms = failing (bind_is_unnamed names) 0 (first_bind ms) (binds_in ms)

-- the checks of names in a design of this name
abbrev pub named_checks : List ℕ → Members → List Check
named_checks top ms =
    check 4 (unnamed_modules_in top ms)
    ∷ check 4 (unnamed_nodes_in (module_names top ms) ms)
    ∷ check 4 (unnamed_binds_in (node_names ms) ms)
    ∷ []

-- check 4 in the design with the name that the file states
abbrev pub name_checks : Members → List Check
name_checks ms = named_checks (heading_name (heading_of ms)) ms

-- ---- the file

-- the checks 2 to 4 of a tree
abbrev pub tree_checks : Members → List Check
tree_checks ms = shape_checks ms ++ limit_checks ms ++ name_checks ms

-- the tree of a text that isn't too long and that `toml` takes
abbrev pub tree_of : List ℕ → Option Members
tree_of bytes = if nat_le (length bytes) most_bytes && is_utf8 bytes then parse_document bytes else None

-- the checks of a file with this tree; without one check 1 fails
abbrev pub checks_of_tree : Option Members → List Check
checks_of_tree None = check 1 (0 ∷ []) ∷ []
checks_of_tree (Some ms) = tree_checks ms

-- the checks 1 to 4 of a file
abbrev pub file_checks : List ℕ → List Check
file_checks bytes = checks_of_tree (tree_of bytes)

-- the top module and the modules that a tree states
abbrev pub stated_modules : List ℕ → Members → Option (List ModuleEntry)
stated_modules top ms = modules_of top (modules_in ms)

-- the nodes that a tree states, in modules of these names
abbrev pub stated_nodes : List (List ℕ) → Members → Option (List NodeEntry)
stated_nodes modules ms = all_of (placed_node modules) (nodes_in ms)

-- the binds that a tree states
abbrev pub stated_binds : Members → Option (List BindEntry)
stated_binds ms = all_of (bind_of (node_names ms)) (binds_in ms)

-- the design with this heading
abbrev pub design_with : Members → Heading → Option Design
design_with ms heading =
    option_and_then (λ modules. option_and_then (λ nodes. option_map (λ binds.
    record { name = heading.name; policy = heading.policy; modules = modules; nodes = nodes; binds = binds })
    (stated_binds ms))
    (stated_nodes (module_names heading.name ms) ms))
    (stated_modules heading.name ms)

-- the design that a tree states
abbrev pub design_of : Members → Option Design
design_of ms = option_and_then (design_with ms) (heading_of ms)

-- the design that a file states
abbrev pub stated_design : List ℕ → Option Design
stated_design bytes = option_and_then design_of (tree_of bytes)
