-- The names that nodes have, item by item.
use Rattle.std.proofs.Common.{ℕ, ◌≡◌, ◌<◌, ◌≤◌, ◌+◌, List, [], ◌∷◌, ◌++◌, take, map, length, get_or, Bool, true, false, ◌||◌, Option, Some, None, refl, sym, ◌∙◌, ap, arith}
use Rattle.std.proofs.lemmas.List.{get_or-map, take_more, length-map}
use Rattle.std.proofs.Math.Seq.{take-length}
use Rattle.toml.specs.declared.value.Value.{Value}
use Rattle.std.specs.Prelude.{codes, unwrap_or}
use Rattle.std.specs.Option.{option_and_then, option_map}
use Rattle.toml.specs.Data.{Data, string, integer, float, boolean, datetime, array, table}
use Rattle.toml.specs.View.{view, items_view}
use Rattle.dip_graph.specs.declared.design.NodeKind.{NodeKind}
use Rattle.toml_shape.specs.Shapes.{name_under}
use Rattle.soc_design.specs.declared.nodes.LimitedNode.{LimitedNode}
use Rattle.soc_design.specs.Stated.{kind_of, node_of, name_at, names_at}

names_are : (values : List Value) → names_at (items_view values) ≡ map (λ v. name_at (view v)) values
names_are [] = refl
names_are (v ∷ values) = ap (λ names. name_at (view v) ∷ names) (names_are values)

-- as many names as items
pub count_of_names : (values : List Value) → length (names_at (items_view values)) ≡ length values
count_of_names values = ap length (names_are values) ∙ length-map values (λ v. name_at (view v))

-- one name more
pub name_more : (place : ℕ) (values : List Value) (value : Value) → value ≡ get_or values place value → place < length values
    → take (place + 1) (names_at (items_view values)) ≡ take place (names_at (items_view values)) ++ name_at (view value) ∷ []
name_more place values value is lt =
    let within : place < length (names_at (items_view values)) = omega (arith, count_of_names values) in
    take_more (names_at (items_view values)) place [] within
    ∙ ap (λ name. take place (names_at (items_view values)) ++ name ∷ [])
    (ap (λ names. get_or names place []) (names_are values) ∙ get_or-map (λ v. name_at (view v)) values place value [] lt ∙ sym (ap (λ v. name_at (view v)) is))

-- all names
pub all_names : (place : ℕ) (values : List Value) → place ≤ length values → length values ≤ place → take place (names_at (items_view values)) ≡ names_at (items_view values)
all_names place values within done =
    let whole : place ≡ length (names_at (items_view values)) = omega (arith, count_of_names values) in
    ap (λ n. take n (names_at (items_view values))) whole ∙ take-length (names_at (items_view values))

pub neither : (a b : Bool) → a ≡ false → b ≡ false → (a || b) ≡ false
neither a b h g = rw (h, g) refl

pub first_of : (a b : Bool) → a ≡ true → (a || b) ≡ true
first_of a b h = rw h refl

name_kept : (name : Option (List ℕ)) (kind : Option NodeKind) (node : LimitedNode)
    → option_and_then (λ n. option_map (λ k. record { name = n; kind = k }) kind) name ≡ Some node → node.name ≡ unwrap_or name []
name_kept None kind node e = (cc)
name_kept (Some n) None node e = (cc)
name_kept (Some n) (Some k) node e =
    let same : record { name = n; kind = k } ≡ node = cc in
    sym (ap (λ (m : LimitedNode). m.name) same)

-- the name of what a table states
pub node_name : (d : Data) (node : LimitedNode) → node_of d ≡ Some node → node.name ≡ name_at d
node_name (string t) node e = (cc)
node_name (integer z) node e = (cc)
node_name (float f) node e = (cc)
node_name (boolean b) node e = (cc)
node_name (datetime t) node e = (cc)
node_name (array ds) node e = (cc)
node_name (table ms) node e = name_kept (name_under (codes "name") ms) (kind_of ms) node e
