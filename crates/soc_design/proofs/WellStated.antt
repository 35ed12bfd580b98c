-- The design that a file states, where its checks pass, is well stated.
use Rattle.std.proofs.Common.{◌≡◌, ◌≢◌, ℕ, zero, suc, ◌+◌, ◌<◌, ◌≤◌, Bool, true, false, cond, List, [], ◌∷◌, ◌++◌, length, take, Option, Some, None, Result, Ok, Err, refl, sym, ap, ◌∙◌, subst, arith}
use Rattle.std.specs.Prelude.{IfOk, unwrap_or, is_none, codes, nat_lt, position, All, AllPairs}
use Rattle.std.specs.Option.{option_map, option_and_then, option_or}
use Rattle.std.specs.List.{list_any, position_or_len}
use Rattle.std.specs.Str.{bytes_eq}
use Rattle.std.proofs.lemmas.Slice.Eq.{bytes_eq-Decides}
use Rattle.std.proofs.lemmas.List.{append_assoc, length-append, take_at}
use Rattle.std.proofs.lemmas.Bool.{ltb-true}
use Rattle.std.proofs.lemmas.List.Elements.{All-nil, All-cons, All-head, All-tail}
use Rattle.std.proofs.lemmas.List.Kept.{AllPairs-cons}
use Rattle.toml.specs.Data.{Data, table, Items, no_items, item, Members}
use Rattle.dip_lists.specs.First.{Check, check, Failure, first, failure_of, first_failing}
use Rattle.dip_lists.proofs.Tests.{neither}
use Rattle.dip_graph.specs.Edges.{HasNodes}
use Rattle.dip_graph.specs.Limits.{most_modules, most_nodes, most_binds}
use Rattle.dip_graph.specs.WellStated.{IsUpTo, IsShortName, IsStatedKind, IsStatedNode, HaveEarlierParents, IsTree, IsWellStated}
use Rattle.dip_graph.specs.declared.design.NodeEntry.{NodeEntry}
use Rattle.dip_graph.specs.declared.design.BindEntry.{BindEntry}
use Rattle.dip_graph.specs.declared.design.ModuleEntry.{ModuleEntry}
use Rattle.dip_graph.specs.declared.design.Design.{Design}
use Rattle.toml_shape.specs.Shapes.{name_under, number_under, text_under}
use Rattle.soc_design.specs.declared.limits.Heading.{Heading}
use Rattle.soc_design.specs.declared.nodes.LimitedNode.{LimitedNode}
use Rattle.soc_design.specs.Stated.{kind_of, node_of, heading_of, policy_in, name_at, names_at, module_named, module_under, new_name}
use Rattle.soc_design.specs.Stated.{module_after, module_at, module_of, node_in, placed_node, node_under, bind_of, star_in}
use Rattle.soc_design.specs.Reading.{modules_in, nodes_in, binds_in, module_names, node_names, node_is_unnamed, unnamed_modules_in, unnamed_nodes_in, unnamed_binds_in}
use Rattle.soc_design.specs.Reading.{stated_modules, stated_nodes, stated_binds, design_with, design_of}
use Rattle.soc_design.specs.Reading.{tree_checks, shape_checks, limit_checks, name_checks, heading_name, first_node}
use Rattle.soc_design.proofs.StatedKinds.{and_then, then_map, if_some, each, short, right_kind}
use Rattle.toml_shape.specs.Entries.{all_of, before, each_of, failing}

-- ---- what a name numbers

-- the place of a name is one of a list's
placed : (name : List ℕ) (names : List (List ℕ)) (n : ℕ) → position (bytes_eq name) names ≡ Some n → n < length names
placed name names n e =
    let i = if_some (nat_lt (position_or_len (bytes_eq name) names) (length names)) (position_or_len (bytes_eq name) names) n e in
    subst (λ m. m < length names) i.1 (ltb-true (position_or_len (bytes_eq name) names) (length names) i.0)

module_is : (modules : List (List ℕ)) (name : Option (List ℕ)) (n : ℕ) → 1 ≤ length modules → module_named modules name ≡ Some n → n < length modules
module_is modules None n some e = let z : 0 ≡ n = cc in omega arith
module_is modules (Some name) n some e = placed name modules n e

-- ---- nodes

record IsNamedNode (modules : List (List ℕ)) (d : Data) (entry : NodeEntry) : Type 0 where
  stated : IsStatedNode (length modules) entry
  named : name_at d ≡ entry.name

right_limited : (d : Data) (node : LimitedNode) → node_of d ≡ Some node → IsShortName node.name × IsStatedKind node.kind × (name_at d ≡ node.name)
right_limited (table ms) node e =
    let n = and_then _ (name_under (codes "name") ms) node e in
    let k = then_map _ (kind_of ms) node n.2 in
    let s = short (codes "name") ms n.0 n.1 in
    let named : n.0 ≡ node.name = ap (λ (x : LimitedNode). x.name) k.2 in
    let kind : k.0 ≡ node.kind = ap (λ (x : LimitedNode). x.kind) k.2 in
    (subst IsShortName named s, subst IsStatedKind kind (right_kind ms k.0 k.1), ap (λ o. unwrap_or o []) n.1 ∙ named)
right_limited d node e = absurd cc

module_there : (modules : List (List ℕ)) (d : Data) (n : ℕ) → 1 ≤ length modules → module_of modules d ≡ Some n → n < length modules
module_there modules (table ms) n some e = module_is modules (text_under (codes "module") ms) n some e
module_there modules d n some e = absurd cc

right_node : (modules : List (List ℕ)) → 1 ≤ length modules → (d : Data) (entry : NodeEntry) → placed_node modules d ≡ Some entry → IsNamedNode modules d entry
right_node modules some d entry e =
    let n = and_then _ (node_of d) entry e in
    let m = then_map (node_in n.0) (module_of modules d) entry n.2 in
    let r = right_limited d n.0 n.1 in
    subst (IsNamedNode modules d) m.2 (record { stated = (r.0, module_there modules d m.0 some m.1, r.1); named = r.2 })

-- ---- names that differ

passes : (number : ℕ) (failed : List ℕ) (rest : Option Failure) → option_or (option_map (failure_of number) (first failed)) rest ≡ None → (failed ≡ []) × (rest ≡ None)
passes number [] rest e = (refl, e)
passes number (subject ∷ subjects) rest e = (cc)

-- a test that fails nowhere
none_fail : (test : ℕ → Data → Bool) (place entry : ℕ) (d : Data) (ds : Items) → failing test place entry (item d ds) ≡ [] → (test place d ≡ false) × (failing test (place + 1) (entry + 1) ds ≡ [])
none_fail test place entry d ds h = at (test place d) refl h
  where
    at : (b : Bool) → test place d ≡ b → cond b (entry ∷ failing test (place + 1) (entry + 1) ds) (failing test (place + 1) (entry + 1) ds) ≡ [] → (test place d ≡ false) × (failing test (place + 1) (entry + 1) ds ≡ [])
    at true q h = absurd cc
    at false q h = (q, h)

bytes_same : (a : List ℕ) → bytes_eq a a ≡ true
bytes_same a = (bytes_eq-Decides a a).1 refl

-- a name that isn't among some is none of them
not_named : (names : List (List ℕ)) (name : List ℕ) → list_any (bytes_eq name) names ≡ false → All (λ n. n ≢ name) names
not_named [] name h = All-nil (λ n. n ≢ name)
not_named (n ∷ names) name h =
    let p = neither (bytes_eq name n) (list_any (bytes_eq name) names) h in
    All-cons (λ m. m ≢ name) n names (λ e. let z : true ≡ false = sym (bytes_same name) ∙ ap (bytes_eq name) (sym e) ∙ p.0 in absurd cc) (not_named names name p.1)

-- the names of some nodes
abbrev Names : List NodeEntry → List (List ℕ)
Names [] = []
Names (e ∷ es) = e.name ∷ Names es

-- each name is unlike those before it
abbrev Unlike : List (List ℕ) → List (List ℕ) → Type 0
Unlike earlier [] = Unit {0}
Unlike earlier (n ∷ names) = All (λ m. m ≢ n) earlier × Unlike (earlier ++ n ∷ []) names

unlike : (modules : List (List ℕ)) → 1 ≤ length modules → (earlier : List (List ℕ)) (place entry : ℕ) (ds : Items) (nodes : List NodeEntry) (all : List (List ℕ)) → place ≡ length earlier → all ≡ earlier ++ Names nodes
    → all_of (placed_node modules) ds ≡ Some nodes → failing (node_is_unnamed modules all) place entry ds ≡ [] → Unlike earlier (Names nodes)
unlike modules some earlier place entry no_items nodes all l s e f = let z : [] ≡ nodes = cc in subst (λ ns. Unlike earlier (Names ns)) z tt
unlike modules some earlier place entry (item d ds) nodes all l s e f =
    at (placed_node modules d) (all_of (placed_node modules) ds) refl refl e
    (λ x rest known. unlike modules some (earlier ++ x ∷ []) (place + 1) (entry + 1) ds rest all (omega (arith, l, length-append earlier (x ∷ []))))
  where
    g : (node_is_unnamed modules all place d ≡ false) × (failing (node_is_unnamed modules all) (place + 1) (entry + 1) ds ≡ [])
    g = none_fail (node_is_unnamed modules all) place entry d ds f

    at : (o : Option NodeEntry) (rest : Option (List NodeEntry)) → placed_node modules d ≡ o → all_of (placed_node modules) ds ≡ rest → before o rest ≡ Some nodes
        → ((x : List ℕ) (rest : List NodeEntry) → Unit {0} → all ≡ (earlier ++ x ∷ []) ++ Names rest → all_of (placed_node modules) ds ≡ Some rest
        → failing (node_is_unnamed modules all) (place + 1) (entry + 1) ds ≡ [] → Unlike (earlier ++ x ∷ []) (Names rest))
        → Unlike earlier (Names nodes)
    at None rest p q e k = absurd cc
    at (Some x) None p q e k = absurd cc
    at (Some x) (Some xs) p q e k =
        let z : x ∷ xs ≡ nodes = cc in
        let named = (right_node modules some d x p).named in
        let whole : all ≡ (earlier ++ x.name ∷ []) ++ Names xs = s ∙ ap (λ ns. earlier ++ Names ns) (sym z) ∙ sym (append_assoc earlier (x.name ∷ []) (Names xs)) in
        let front : take place all ≡ earlier = ap (take place) s ∙ take_at earlier (Names nodes) place (sym l) in
        let own = neither (list_any (bytes_eq (name_at d)) (take place all)) (is_none (module_of modules d)) g.0 in
        let apart : list_any (bytes_eq x.name) earlier ≡ false =
        sym (ap (λ ns. list_any (bytes_eq (name_at d)) ns) front ∙ ap (λ n. list_any (bytes_eq n) earlier) named) ∙ own.0 in
        subst (λ ns. Unlike earlier (Names ns)) z (not_named earlier x.name apart, k x.name xs tt whole q g.1)

all_front : {A : Type 0} (P : A → Type 0) (xs ys : List A) → All P (xs ++ ys) → All P xs
all_front P [] ys h = All-nil P
all_front P (x ∷ xs) ys h = All-cons P x xs (All-head P x (xs ++ ys) h) (all_front P xs ys (All-tail P x (xs ++ ys) h))

all_last : {A : Type 0} (P : A → Type 0) (xs : List A) (y : A) → All P (xs ++ y ∷ []) → P y
all_last P [] y h = All-head P y [] h
all_last P (x ∷ xs) y h = all_last P xs y (All-tail P x (xs ++ y ∷ []) h)

later : (x : List ℕ) (earlier : List (List ℕ)) (nodes : List NodeEntry) → ((P : List ℕ → Type 0) → All P earlier → P x) → Unlike earlier (Names nodes) → All (λ (n : NodeEntry). x ≢ n.name) nodes
later x earlier [] m h = All-nil (λ (n : NodeEntry). x ≢ n.name)
later x earlier (n ∷ nodes) m h =
    All-cons (λ (k : NodeEntry). x ≢ k.name) n nodes (m (λ k. k ≢ n.name) h.0)
    (later x (earlier ++ n.name ∷ []) nodes (λ P a. m P (all_front P earlier (n.name ∷ []) a)) h.1)

apart_from : (earlier : List (List ℕ)) (nodes : List NodeEntry) → Unlike earlier (Names nodes) → AllPairs (λ (a b : NodeEntry). a.name ≢ b.name) nodes
apart_from earlier [] h = λ i j d before within. absurd (omega arith)
apart_from earlier (n ∷ nodes) h =
    AllPairs-cons (λ (a b : NodeEntry). a.name ≢ b.name) n nodes
    (later n.name (earlier ++ n.name ∷ []) nodes (λ P a. all_last P earlier n.name a) h.1)
    (apart_from (earlier ++ n.name ∷ []) nodes h.1)

names_all : (modules : List (List ℕ)) → 1 ≤ length modules → (ds : Items) (nodes : List NodeEntry) → all_of (placed_node modules) ds ≡ Some nodes → names_at ds ≡ Names nodes
names_all modules some no_items nodes e = let z : [] ≡ nodes = cc in ap Names z
names_all modules some (item d ds) nodes e = at (placed_node modules d) (all_of (placed_node modules) ds) refl refl e (λ rest q. names_all modules some ds rest q)
  where
    at : (o : Option NodeEntry) (rest : Option (List NodeEntry)) → placed_node modules d ≡ o → all_of (placed_node modules) ds ≡ rest → before o rest ≡ Some nodes
        → ((rest : List NodeEntry) → all_of (placed_node modules) ds ≡ Some rest → names_at ds ≡ Names rest) → name_at d ∷ names_at ds ≡ Names nodes
    at None rest p q e k = absurd cc
    at (Some x) None p q e k = absurd cc
    at (Some x) (Some xs) p q e k =
        let z : x ∷ xs ≡ nodes = cc in
        ap (λ n. n ∷ names_at ds) (right_node modules some d x p).named ∙ ap (λ ns. x.name ∷ ns) (k xs q) ∙ ap Names z

many_names : (nodes : List NodeEntry) → length (Names nodes) ≡ length nodes
many_names [] = refl
many_names (n ∷ nodes) = ap suc (many_names nodes)

-- ---- modules

short_take : (k : ℕ) (names : List (List ℕ)) → length (take k names) ≤ k
short_take zero names = omega arith
short_take (suc k) [] = omega arith
short_take (suc k) (n ∷ names) = let l = short_take k names in omega arith

record IsModule (number : ℕ) (m : ModuleEntry) : Type 0 where
  name : IsShortName m.name
  parent : m.parent < number

right_module : (earlier : List (List ℕ)) (number : ℕ) → 1 ≤ length earlier → length earlier ≤ number → (d : Data) (m : ModuleEntry) → module_after earlier d ≡ Some m → IsModule number m
right_module earlier number some few (table ms) m e =
    let n = and_then _ (option_and_then (new_name earlier) (name_under (codes "name") ms)) m e in
    let p = then_map _ (module_under (codes "parent") earlier ms) m n.2 in
    let own = and_then (new_name earlier) (name_under (codes "name") ms) n.0 n.1 in
    let same = if_name (list_any (bytes_eq own.0) earlier) own.0 n.0 own.2 in
    let l = module_is earlier (text_under (codes "parent") ms) p.0 some p.1 in
    subst (IsModule number) p.2 (record { name = subst IsShortName same (short (codes "name") ms own.0 own.1); parent = omega arith })
  where
    if_name : (b : Bool) (x y : List ℕ) → cond b None (Some x) ≡ Some y → x ≡ y
    if_name true x y e = absurd cc
    if_name false x y e = cc
right_module earlier number some few d m e = absurd cc

record AreModules (number : ℕ) (ms : List ModuleEntry) : Type 0 where
  parents : HaveEarlierParents number ms
  names : All (λ (m : ModuleEntry). IsShortName m.name) ms

right_modules : (top : List ℕ) (names : List (List ℕ)) (place : ℕ) (ds : Items) (ms : List ModuleEntry) → each_of (module_at top names) place ds ≡ Some ms → AreModules (place + 1) ms
right_modules top names place no_items ms e =
    let z : [] ≡ ms = cc in subst (AreModules (place + 1)) z (record { parents = tt; names = All-nil (λ (m : ModuleEntry). IsShortName m.name) })
right_modules top names place (item d ds) ms e =
    at (module_at top names place d) (each_of (module_at top names) (place + 1) ds) refl e (λ rest q. right_modules top names (place + 1) ds rest q)
  where
    at : (o : Option ModuleEntry) (rest : Option (List ModuleEntry)) → module_at top names place d ≡ o → before o rest ≡ Some ms
        → ((rest' : List ModuleEntry) → rest ≡ Some rest' → AreModules (place + 1 + 1) rest') → AreModules (place + 1) ms
    at None rest p e k = absurd cc
    at (Some x) None p e k = absurd cc
    at (Some x) (Some xs) p e k =
        let z : x ∷ xs ≡ ms = cc in
        let few : length (top ∷ take place names) ≤ place + 1 = (let l = short_take place names in omega arith) in
        let one = right_module (top ∷ take place names) (place + 1) (omega arith) few d x p in
        let others = k xs refl in
        subst (AreModules (place + 1)) z
        (record { parents = (one.parent, others.parents); names = All-cons (λ (m : ModuleEntry). IsShortName m.name) x xs one.name others.names })

each_long : {A : Type 0} (states : ℕ → Data → Option A) (place : ℕ) (ds : Items) (xs : List A) → each_of states place ds ≡ Some xs → length (names_at ds) ≡ length xs
each_long states place no_items xs e = let z : [] ≡ xs = cc in ap length z
each_long {A} states place (item d ds) xs e = at (states place d) (each_of states (place + 1) ds) e (λ ys q. each_long states (place + 1) ds ys q)
  where
    at : (o : Option A) (rest : Option (List A)) → before o rest ≡ Some xs → ((ys : List A) → rest ≡ Some ys → length (names_at ds) ≡ length ys) → suc (length (names_at ds)) ≡ length xs
    at None rest e k = absurd cc
    at (Some x) None e k = absurd cc
    at (Some x) (Some ys) e k = let z : x ∷ ys ≡ xs = cc in ap suc (k ys refl) ∙ ap length z

record AreAllModules (top : List ℕ) (ms : Members) (modules : List ModuleEntry) : Type 0 where
  tree : IsTree top modules
  names : All (λ (m : ModuleEntry). IsShortName m.name) modules
  many : length (module_names top ms) ≡ length modules

right_tree : (top : List ℕ) (ms : Members) (modules : List ModuleEntry) → IsShortName top → stated_modules top ms ≡ Some modules → AreAllModules top ms modules
right_tree top ms modules short e =
    let r = then_map (λ rest. record { name = top; parent = 0 } ∷ rest) (each_of (module_at top (names_at (modules_in ms))) 0 (modules_in ms)) modules e in
    let a = right_modules top (names_at (modules_in ms)) 0 (modules_in ms) r.0 r.1 in
    let l = each_long (module_at top (names_at (modules_in ms))) 0 (modules_in ms) r.0 r.1 in
    subst (AreAllModules top ms) r.2
    (record {
      tree = (refl, refl, a.parents);
      names = All-cons (λ (m : ModuleEntry). IsShortName m.name) (record { name = top; parent = 0 }) r.0 short a.names;
      many = omega arith;
    })

-- ---- binds

right_bind : (names : List (List ℕ)) (nodes : List NodeEntry) → length names ≡ length nodes → (d : Data) (b : BindEntry) → bind_of names d ≡ Some b → HasNodes nodes b
right_bind names nodes l (table ms) b e =
    let to = and_then _ (node_under (codes "to") names ms) b e in
    let from = and_then _ (node_under (codes "from") names ms) b to.2 in
    let star = then_map _ (star_in ms) b from.2 in
    let t = and_then (λ name. position (bytes_eq name) names) (name_under (codes "to") ms) to.0 to.1 in
    let f = and_then (λ name. position (bytes_eq name) names) (name_under (codes "from") ms) from.0 from.1 in
    let p = placed t.0 names to.0 t.2 in
    let q = placed f.0 names from.0 f.2 in
    subst (HasNodes nodes) star.2 (omega (arith, l, p), omega (arith, l, q))
right_bind names nodes l d b e = absurd cc

-- ---- the heading

right_heading : (ms : Members) (h : Heading) → heading_of ms ≡ Some h → IsShortName h.name
right_heading ms h e =
    let v = and_then _ (number_under (codes "version") 1 1 ms) h e in
    let n = and_then _ (name_under (codes "name") ms) h v.2 in
    let p = then_map _ (policy_in ms) h n.2 in
    subst (λ (x : Heading). IsShortName x.name) p.2 (short (codes "name") ms n.0 n.1)

-- ---- all of it

skip : (a b : List Check) → first_failing (a ++ b) ≡ None → first_failing b ≡ None
skip [] b h = h
skip (c ∷ a) b h = skip a b (passes c.number c.failing (first_failing (a ++ b)) h).1

second : (a b : Check) (rest : List Check) → first_failing (a ∷ b ∷ rest) ≡ None → b.failing ≡ []
second a b rest h = (passes b.number b.failing (first_failing rest) (passes a.number a.failing (first_failing (b ∷ rest)) h).1).0

nodes_named : (ms : Members) → first_failing (tree_checks ms) ≡ None → unnamed_nodes_in (module_names (heading_name (heading_of ms)) ms) ms ≡ []
nodes_named ms h =
    let top : List ℕ = heading_name (heading_of ms) in
    second (check 4 (unnamed_modules_in top ms)) (check 4 (unnamed_nodes_in (module_names top ms) ms)) (check 4 (unnamed_binds_in (node_names ms) ms) ∷ [])
    (skip (limit_checks ms) (name_checks ms) (skip (shape_checks ms) (limit_checks ms ++ name_checks ms) h))

-- the counts of a design's parts
pub record IsCounted (design : Design) : Type 0 where
  pub modules : length design.modules ≤ most_modules + 1
  pub nodes : IsUpTo most_nodes (length design.nodes)
  pub binds : length design.binds ≤ most_binds

-- of the parts of a design
of_parts : (name : List ℕ) (design : Design) → name ≡ design.name → IsShortName name → IsTree name design.modules
    → All (λ (m : ModuleEntry). IsShortName m.name) design.modules → All (IsStatedNode (length design.modules)) design.nodes
    → AllPairs (λ (a b : NodeEntry). a.name ≢ b.name) design.nodes → All (HasNodes design.nodes) design.binds → IsCounted design → IsWellStated design
of_parts name design e short tree names nodes apart bound counted = record {
  name = subst IsShortName e short;
  few_modules = counted.modules;
  tree = subst (λ n. IsTree n design.modules) e tree;
  module_names = names;
  some_nodes = counted.nodes;
  nodes = nodes;
  apart = apart;
  few_binds = counted.binds;
  bound = bound;
}

pub well_stated : (ms : Members) (design : Design) → design_of ms ≡ Some design → first_failing (tree_checks ms) ≡ None → IsCounted design → IsWellStated design
well_stated ms design e clear counted =
    let h = and_then (design_with ms) (heading_of ms) design e in
    let top : List ℕ = h.0.name in
    let m = and_then _ (stated_modules top ms) design h.2 in
    let n = and_then _ (stated_nodes (module_names top ms) ms) design m.2 in
    let b = then_map _ (stated_binds ms) design n.2 in
    let short : IsShortName top = right_heading ms h.0 h.1 in
    let a : AreAllModules top ms m.0 = right_tree top ms m.0 short m.1 in
    let some : 1 ≤ length (module_names top ms) = omega arith in
    let heading : heading_name (heading_of ms) ≡ top = ap heading_name h.1 in
    let free : unnamed_nodes_in (module_names top ms) ms ≡ [] = subst (λ x. unnamed_nodes_in (module_names x ms) ms ≡ []) heading (nodes_named ms clear) in
    let all : names_at (nodes_in ms) ≡ Names n.0 = names_all (module_names top ms) some (nodes_in ms) n.0 n.1 in
    let apart = apart_from [] n.0 (unlike (module_names top ms) some [] 0 (first_node ms) (nodes_in ms) n.0 (names_at (nodes_in ms)) refl all n.1 free) in
    let stated : All (IsStatedNode (length (module_names top ms))) n.0 =
    each (IsStatedNode (length (module_names top ms))) (placed_node (module_names top ms)) (λ d x q. (right_node (module_names top ms) some d x q).stated) (nodes_in ms) n.0 n.1 in
    let long : length (node_names ms) ≡ length n.0 = ap length all ∙ many_names n.0 in
    let bound : All (HasNodes n.0) b.0 = each (HasNodes n.0) (bind_of (node_names ms)) (right_bind (node_names ms) n.0 long) (binds_in ms) b.0 b.1 in
    subst (λ (d : Design). IsCounted d → IsWellStated d) b.2
    (of_parts top (record { name = top; policy = h.0.policy; modules = m.0; nodes = n.0; binds = b.0 }) refl short a.tree a.names
    (subst (λ k. All (IsStatedNode k) n.0) a.many stated) apart bound)
    counted

-- the same of what reading answers
pub if_stated : {E : Type 0} (ms : Members) (r : Result Design E) → IfOk r (λ design. design_of ms ≡ Some design) → IfOk r (λ _. first_failing (tree_checks ms) ≡ None)
    → IfOk r (λ design. length design.modules ≤ 256) → IfOk r (λ design. 1 ≤ length design.nodes) → IfOk r (λ design. length design.nodes ≤ 256)
    → IfOk r (λ design. length design.binds ≤ 1024) → IfOk r IsWellStated
if_stated ms (Ok design) e clear modules some nodes binds = well_stated ms design e clear (record { modules = omega arith; nodes = (some, nodes); binds = binds })
if_stated ms (Err fault) e clear modules some nodes binds = tt
