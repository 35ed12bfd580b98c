-- The edges of each node, edge by edge, and the parts of a plan by these lists.
use Rattle.std.proofs.Common.{◌≡◌, ℕ, zero, suc, ◌+◌, ◌<◌, ◌≤◌, min, drop, Bool, true, false, cond, ◌==◌, List, [], ◌∷◌, ◌++◌, length, take, get_or, replicate, refl, sym, ap, ◌∙◌, arith}
use Rattle.std.specs.Prelude.{set}
use Rattle.std.proofs.lemmas.Bool.{eqb-true, eq-eqb}
use Rattle.std.proofs.lemmas.List.{append-nil, length-take-le, take_more}
use Rattle.std.proofs.lemmas.List.Elements.{All-nil, All-cons}
use Rattle.std.specs.Prelude.{All}
use Rattle.dip_lists.specs.First.{places}
use Rattle.tl_params.specs.declared.ops.Template.{Template}
use Rattle.tl_params.specs.declared.ports.DownPort.{DownPort}
use Rattle.tl_params.specs.declared.ports.UpPort.{UpPort}
use Rattle.tl_edge.specs.declared.plan.Leaf.{Leaf}
use Rattle.tl_edge.specs.declared.plan.PlanEdge.{PlanEdge}
use Rattle.tl_edge.specs.declared.plan.PlanPort.{PlanPort}
use Rattle.tl_edge.specs.declared.plan.Plan.{Plan}
use Rattle.dip_graph.specs.declared.design.Design.{Design}
use Rattle.dip_negotiate.specs.declared.solution.Solution.{Solution}
use Rattle.dip_graph.specs.declared.design.NodeKind.{NodeKind}
use Rattle.dip_graph.specs.declared.design.NodeKind.TheVariants.{Source, Sink, Ruled}
use Rattle.dip_graph.specs.declared.design.NodeEntry.{NodeEntry}
use Rattle.dip_graph.specs.declared.edges.Edge.{Edge}
use Rattle.dip_rule.specs.Stated.{StatedRule}
use Rattle.dip_graph.specs.Edges.{edges_to, edges_from}
use Rattle.dip_plan.specs.DesignPlans.{leaves_between, plan_edges, kind_leaves, leaves_from, source_ports, sink_ports, ports_from, plan_of}
use Rattle.dip_plan.specs.Building.{each_to, each_from, leaves_by, source_on, sink_on, sources_by, sinks_by}

-- ---- one more edge

placed_more : {A : Type 0} (test : A → Bool) (from : ℕ) (xs : List A) (x : A)
    → places (λ number y. test y) from (xs ++ x ∷ []) ≡ places (λ number y. test y) from xs ++ cond (test x) ((from + length xs) ∷ []) []
placed_more test from [] x = at (test x)
  where
    at : (b : Bool) → cond b (from ∷ []) [] ≡ cond b ((from + 0) ∷ []) []
    at true = let z : from ≡ from + 0 = omega arith in ap (λ n. n ∷ []) z
    at false = refl
placed_more {A} test from (y ∷ ys) x = at (test y) (placed_more test (from + 1) ys x)
  where
    moved : from + 1 + length ys ≡ from + suc (length ys)
    moved = omega arith

    at : (b : Bool) → places (λ number z. test z) (from + 1) (ys ++ x ∷ []) ≡ places (λ number z. test z) (from + 1) ys ++ cond (test x) ((from + 1 + length ys) ∷ []) []
        → cond b (from ∷ places (λ number z. test z) (from + 1) (ys ++ x ∷ [])) (places (λ number z. test z) (from + 1) (ys ++ x ∷ []))
        ≡ cond b (from ∷ places (λ number z. test z) (from + 1) ys) (places (λ number z. test z) (from + 1) ys) ++ cond (test x) ((from + suc (length ys)) ∷ []) []
    at true h = ap (λ ns. from ∷ ns) (h ∙ ap (λ n. places (λ number z. test z) (from + 1) ys ++ cond (test x) (n ∷ []) []) moved)
    at false h = h ∙ ap (λ n. places (λ number z. test z) (from + 1) ys ++ cond (test x) (n ∷ []) []) moved

-- nodes behind the one that an edge goes to keep their lists
to_behind : (edges : List Edge) (e : Edge) (node more : ℕ) → e.to < node → each_to (edges ++ e ∷ []) node more ≡ each_to edges node more
to_behind edges e node zero l = refl
to_behind edges e node (suc more) l =
    ap (λ ns. ns ∷ each_to (edges ++ e ∷ []) (node + 1) more) (own (e.to == node) refl (placed_more (λ (edge : Edge). edge.to == node) 0 edges e))
    ∙ ap (λ ns. edges_to node edges ∷ ns) (to_behind edges e (node + 1) more (omega arith))
  where
    own : (b : Bool) → (e.to == node) ≡ b → edges_to node (edges ++ e ∷ []) ≡ edges_to node edges ++ cond (e.to == node) ((0 + length edges) ∷ []) [] → edges_to node (edges ++ e ∷ []) ≡ edges_to node edges
    own true q h = let s : e.to ≡ node = eqb-true e.to node q in absurd (omega arith)
    own false q h = h ∙ ap (λ b. edges_to node edges ++ cond b ((0 + length edges) ∷ []) []) q ∙ append-nil (edges_to node edges)

to_more : (edges : List Edge) (e : Edge) (node more place : ℕ) (d : List ℕ) → e.to ≡ node + place → place < more
    → each_to (edges ++ e ∷ []) node more ≡ set (each_to edges node more) place (get_or (each_to edges node more) place d ++ length edges ∷ [])
to_more edges e node zero place d t l = absurd (omega arith)
to_more edges e node (suc more) zero d t l =
    let q : (e.to == node) ≡ true = eq-eqb e.to node (omega (arith, t)) in
    let z : 0 + length edges ≡ length edges = omega arith in
    let own = placed_more (λ (edge : Edge). edge.to == node) 0 edges e ∙ ap (λ b. edges_to node edges ++ cond b ((0 + length edges) ∷ []) []) q ∙ ap (λ n. edges_to node edges ++ n ∷ []) z in
    ap (λ ns. ns ∷ each_to (edges ++ e ∷ []) (node + 1) more) own
    ∙ ap (λ ns. (edges_to node edges ++ length edges ∷ []) ∷ ns) (to_behind edges e (node + 1) more (omega (arith, t)))
to_more edges e node (suc more) (suc place) d t l =
    let rest = to_more edges e (node + 1) more place d (omega (arith, t)) (omega arith) in
    ap (λ ns. ns ∷ each_to (edges ++ e ∷ []) (node + 1) more) (own (e.to == node) refl (placed_more (λ (edge : Edge). edge.to == node) 0 edges e))
    ∙ ap (λ ns. edges_to node edges ∷ ns) rest
  where
    own : (b : Bool) → (e.to == node) ≡ b → edges_to node (edges ++ e ∷ []) ≡ edges_to node edges ++ cond (e.to == node) ((0 + length edges) ∷ []) [] → edges_to node (edges ++ e ∷ []) ≡ edges_to node edges
    own true q h = let s : e.to ≡ node = eqb-true e.to node q in absurd (omega (arith, t))
    own false q h = h ∙ ap (λ b. edges_to node edges ++ cond b ((0 + length edges) ∷ []) []) q ∙ append-nil (edges_to node edges)

from_behind : (edges : List Edge) (e : Edge) (node more : ℕ) → e.from < node → each_from (edges ++ e ∷ []) node more ≡ each_from edges node more
from_behind edges e node zero l = refl
from_behind edges e node (suc more) l =
    ap (λ ns. ns ∷ each_from (edges ++ e ∷ []) (node + 1) more) (own (e.from == node) refl (placed_more (λ (edge : Edge). edge.from == node) 0 edges e))
    ∙ ap (λ ns. edges_from node edges ∷ ns) (from_behind edges e (node + 1) more (omega arith))
  where
    own : (b : Bool) → (e.from == node) ≡ b → edges_from node (edges ++ e ∷ []) ≡ edges_from node edges ++ cond (e.from == node) ((0 + length edges) ∷ []) [] → edges_from node (edges ++ e ∷ []) ≡ edges_from node edges
    own true q h = let s : e.from ≡ node = eqb-true e.from node q in absurd (omega arith)
    own false q h = h ∙ ap (λ b. edges_from node edges ++ cond b ((0 + length edges) ∷ []) []) q ∙ append-nil (edges_from node edges)

from_more : (edges : List Edge) (e : Edge) (node more place : ℕ) (d : List ℕ) → e.from ≡ node + place → place < more
    → each_from (edges ++ e ∷ []) node more ≡ set (each_from edges node more) place (get_or (each_from edges node more) place d ++ length edges ∷ [])
from_more edges e node zero place d t l = absurd (omega arith)
from_more edges e node (suc more) zero d t l =
    let q : (e.from == node) ≡ true = eq-eqb e.from node (omega (arith, t)) in
    let z : 0 + length edges ≡ length edges = omega arith in
    let own = placed_more (λ (edge : Edge). edge.from == node) 0 edges e ∙ ap (λ b. edges_from node edges ++ cond b ((0 + length edges) ∷ []) []) q ∙ ap (λ n. edges_from node edges ++ n ∷ []) z in
    ap (λ ns. ns ∷ each_from (edges ++ e ∷ []) (node + 1) more) own
    ∙ ap (λ ns. (edges_from node edges ++ length edges ∷ []) ∷ ns) (from_behind edges e (node + 1) more (omega (arith, t)))
from_more edges e node (suc more) (suc place) d t l =
    let rest = from_more edges e (node + 1) more place d (omega (arith, t)) (omega arith) in
    ap (λ ns. ns ∷ each_from (edges ++ e ∷ []) (node + 1) more) (own (e.from == node) refl (placed_more (λ (edge : Edge). edge.from == node) 0 edges e))
    ∙ ap (λ ns. edges_from node edges ∷ ns) rest
  where
    own : (b : Bool) → (e.from == node) ≡ b → edges_from node (edges ++ e ∷ []) ≡ edges_from node edges ++ cond (e.from == node) ((0 + length edges) ∷ []) [] → edges_from node (edges ++ e ∷ []) ≡ edges_from node edges
    own true q h = let s : e.from ≡ node = eqb-true e.from node q in absurd (omega (arith, t))
    own false q h = h ∙ ap (λ b. edges_from node edges ++ cond b ((0 + length edges) ∷ []) []) q ∙ append-nil (edges_from node edges)

-- ---- no edge

pub blank_to : (node more : ℕ) → replicate more [] ≡ each_to [] node more
blank_to node zero = refl
blank_to node (suc more) = ap (λ ns. [] ∷ ns) (blank_to (node + 1) more)

pub blank_from : (node more : ℕ) → replicate more [] ≡ each_from [] node more
blank_from node zero = refl
blank_from node (suc more) = ap (λ ns. [] ∷ ns) (blank_from (node + 1) more)

pub to_length : (edges : List Edge) (node more : ℕ) → length (each_to edges node more) ≡ more
to_length edges node zero = refl
to_length edges node (suc more) = let l = to_length edges (node + 1) more in omega arith

pub from_length : (edges : List Edge) (node more : ℕ) → length (each_from edges node more) ≡ more
from_length edges node zero = refl
from_length edges node (suc more) = let l = from_length edges (node + 1) more in omega arith

pub replicate_more : (n : ℕ) → replicate n [] ++ [] ∷ [] ≡ replicate {A = List ℕ} (n + 1) []
replicate_more n = on n ∙ ap (λ m. replicate {A = List ℕ} m []) z
  where
    z : suc n ≡ n + 1
    z = omega arith

    on : (n : ℕ) → replicate n [] ++ [] ∷ [] ≡ replicate {A = List ℕ} (suc n) []
    on zero = refl
    on (suc n) = ap (λ ns. [] ∷ ns) (on n)

placed_few : {A : Type 0} (test : ℕ → A → Bool) (from : ℕ) (xs : List A) → length (places test from xs) ≤ length xs
placed_few test from [] = omega arith
placed_few test from (x ∷ xs) = at (test from x) (placed_few test (from + 1) xs)
  where
    at : (b : Bool) → length (places test (from + 1) xs) ≤ length xs → length (cond b (from ∷ places test (from + 1) xs) (places test (from + 1) xs)) ≤ suc (length xs)
    at true h = omega (arith, h)
    at false h = omega (arith, h)

pub to_short : (bound : ℕ) (edges : List Edge) (node more : ℕ) → length edges < bound → All (λ (ns : List ℕ). length ns < bound) (each_to edges node more)
to_short bound edges node zero l = All-nil (λ (ns : List ℕ). length ns < bound)
to_short bound edges node (suc more) l =
    let p = placed_few (λ number (edge : Edge). edge.to == node) 0 edges in
    All-cons (λ (ns : List ℕ). length ns < bound) (edges_to node edges) (each_to edges (node + 1) more) (omega arith) (to_short bound edges (node + 1) more l)

pub from_short : (bound : ℕ) (edges : List Edge) (node more : ℕ) → length edges < bound → All (λ (ns : List ℕ). length ns < bound) (each_from edges node more)
from_short bound edges node zero l = All-nil (λ (ns : List ℕ). length ns < bound)
from_short bound edges node (suc more) l =
    let p = placed_few (λ number (edge : Edge). edge.from == node) 0 edges in
    All-cons (λ (ns : List ℕ). length ns < bound) (edges_from node edges) (each_from edges (node + 1) more) (omega arith) (from_short bound edges (node + 1) more l)

-- ---- an end of lists taken side by side

pub none_between : (template : Template) (args ins outs : List ℕ) (n : ℕ) → min (length ins) (length outs) ≤ n → leaves_between template args (drop n ins) (drop n outs) ≡ []
none_between template args [] outs n l = nil n
  where
    nil : (n : ℕ) → leaves_between template args (drop n []) (drop n outs) ≡ []
    nil zero = refl
    nil (suc n) = refl
none_between template args (a ∷ ins) [] n l = nil (drop n (a ∷ ins)) n
  where
    nil : (rest : List ℕ) (n : ℕ) → leaves_between template args rest (drop n []) ≡ []
    nil [] zero = refl
    nil [] (suc n) = refl
    nil (x ∷ rest) zero = refl
    nil (x ∷ rest) (suc n) = refl
none_between template args (a ∷ ins) (b ∷ outs) zero l = absurd (omega arith)
none_between template args (a ∷ ins) (b ∷ outs) (suc n) l = none_between template args ins outs n (omega arith)

pub none_planned : (downs : List DownPort) (ups : List UpPort) (n : ℕ) → min (length downs) (length ups) ≤ n → plan_edges (drop n downs) (drop n ups) ≡ []
none_planned [] ups n l = nil n
  where
    nil : (n : ℕ) → plan_edges (drop n []) (drop n ups) ≡ []
    nil zero = refl
    nil (suc n) = refl
none_planned (a ∷ downs) [] n l = nil (drop n (a ∷ downs)) n
  where
    nil : (rest : List DownPort) (n : ℕ) → plan_edges rest (drop n []) ≡ []
    nil [] zero = refl
    nil [] (suc n) = refl
    nil (x ∷ rest) zero = refl
    nil (x ∷ rest) (suc n) = refl
none_planned (a ∷ downs) (b ∷ ups) zero l = absurd (omega arith)
none_planned (a ∷ downs) (b ∷ ups) (suc n) l = none_planned downs ups n (omega arith)

-- ---- as the loops need it: the next edge of a list

pub next_to : (edges : List Edge) (i nodes : ℕ) (rec : Edge) (items : List (List ℕ)) (own new : List ℕ) → All (λ (e : Edge). e.to < nodes) edges → i < length edges
    → items ≡ each_to (take i edges) 0 nodes → own ≡ get_or items (get_or edges i rec).to own → new ≡ own ++ i ∷ [] → set items (get_or edges i rec).to new ≡ each_to (take (i + 1) edges) 0 nodes
next_to edges i nodes rec items own new h l inv v p =
    let e : Edge = get_or edges i rec in
    let long : length (take i edges) ≡ i = length-take-le i edges (omega arith) in
    let more : take (i + 1) edges ≡ take i edges ++ e ∷ [] = take_more edges i rec l in
    let t : e.to < nodes = h i rec l in
    let z : e.to ≡ 0 + e.to = omega arith in
    let step = to_more (take i edges) e 0 nodes e.to own z t in
    ap (set items e.to) (p ∙ ap (λ r. r ++ i ∷ []) v)
    ∙ ap (λ xs. set xs e.to (get_or xs e.to own ++ i ∷ [])) inv
    ∙ sym (ap (λ es. each_to es 0 nodes) more ∙ step ∙ ap (λ n. set (each_to (take i edges) 0 nodes) e.to (get_or (each_to (take i edges) 0 nodes) e.to own ++ n ∷ [])) long)

pub next_from : (edges : List Edge) (i nodes : ℕ) (rec : Edge) (items : List (List ℕ)) (own new : List ℕ) → All (λ (e : Edge). e.from < nodes) edges → i < length edges
    → items ≡ each_from (take i edges) 0 nodes → own ≡ get_or items (get_or edges i rec).from own → new ≡ own ++ i ∷ [] → set items (get_or edges i rec).from new ≡ each_from (take (i + 1) edges) 0 nodes
next_from edges i nodes rec items own new h l inv v p =
    let e : Edge = get_or edges i rec in
    let long : length (take i edges) ≡ i = length-take-le i edges (omega arith) in
    let more : take (i + 1) edges ≡ take i edges ++ e ∷ [] = take_more edges i rec l in
    let t : e.from < nodes = h i rec l in
    let z : e.from ≡ 0 + e.from = omega arith in
    let step = from_more (take i edges) e 0 nodes e.from own z t in
    ap (set items e.from) (p ∙ ap (λ r. r ++ i ∷ []) v)
    ∙ ap (λ xs. set xs e.from (get_or xs e.from own ++ i ∷ [])) inv
    ∙ sym (ap (λ es. each_from es 0 nodes) more ∙ step ∙ ap (λ n. set (each_from (take i edges) 0 nodes) e.from (get_or (each_from (take i edges) 0 nodes) e.from own ++ n ∷ [])) long)

pub index_to : (edges : List Edge) (i nodes : ℕ) (lists : List (List ℕ)) (d : Edge) → All (λ (e : Edge). e.to < nodes) edges → i < length edges → lists ≡ each_to (take i edges) 0 nodes
    → (get_or edges i d).to < length lists
index_to edges i nodes lists d h l e = let a = h i d l in let b = to_length (take i edges) 0 nodes in let c = ap length e in omega arith

pub index_from : (edges : List Edge) (i nodes : ℕ) (lists : List (List ℕ)) (d : Edge) → All (λ (e : Edge). e.from < nodes) edges → i < length edges → lists ≡ each_from (take i edges) 0 nodes
    → (get_or edges i d).from < length lists
index_from edges i nodes lists d h l e = let a = h i d l in let b = from_length (take i edges) 0 nodes in let c = ap length e in omega arith

-- ---- the parts by these lists are the stated ones

pub same_leaves : (rules : List StatedRule) (edges : List Edge) (node : ℕ) (nodes : List NodeEntry)
    → leaves_by rules nodes (each_to edges node (length nodes)) (each_from edges node (length nodes)) ≡ leaves_from rules edges node nodes
same_leaves rules edges node [] = refl
same_leaves rules edges node (entry ∷ nodes) = ap (λ ls. kind_leaves rules entry.kind (edges_to node edges) (edges_from node edges) ++ ls) (same_leaves rules edges (node + 1) nodes)

source_same : (name : List ℕ) (node : ℕ) (kind : NodeKind) (edges : List Edge) → source_on name node kind (edges_from node edges) ≡ source_ports name node kind edges
source_same name node (Source ports ids emits) edges = refl
source_same name node (Sink beat ports supports) edges = refl
source_same name node (Ruled kind args) edges = refl

sink_same : (name : List ℕ) (node : ℕ) (kind : NodeKind) (edges : List Edge) → sink_on name node kind (edges_to node edges) ≡ sink_ports name node kind edges
sink_same name node (Source ports ids emits) edges = refl
sink_same name node (Sink beat ports supports) edges = refl
sink_same name node (Ruled kind args) edges = refl

pub same_sources : (edges : List Edge) (node : ℕ) (nodes : List NodeEntry) → sources_by node nodes (each_from edges node (length nodes)) ≡ ports_from source_ports edges node nodes
same_sources edges node [] = refl
same_sources edges node (entry ∷ nodes) =
    ap (λ ps. ps ++ sources_by (node + 1) nodes (each_from edges (node + 1) (length nodes))) (source_same entry.name node entry.kind edges)
    ∙ ap (λ ps. source_ports entry.name node entry.kind edges ++ ps) (same_sources edges (node + 1) nodes)

pub same_sinks : (edges : List Edge) (node : ℕ) (nodes : List NodeEntry) → sinks_by node nodes (each_to edges node (length nodes)) ≡ ports_from sink_ports edges node nodes
same_sinks edges node [] = refl
same_sinks edges node (entry ∷ nodes) =
    ap (λ ps. ps ++ sinks_by (node + 1) nodes (each_to edges (node + 1) (length nodes))) (sink_same entry.name node entry.kind edges)
    ∙ ap (λ ps. sink_ports entry.name node entry.kind edges ++ ps) (same_sinks edges (node + 1) nodes)

-- all parts together
pub whole : (rules : List StatedRule) (design : Design) (edges : List Edge) (solution : Solution) (nodes : List NodeEntry) (ins outs : List (List ℕ)) (name : List ℕ)
    (leaves : List Leaf) (es : List PlanEdge) (sources sinks : List PlanPort)
    → nodes ≡ design.nodes → ins ≡ each_to edges 0 (length nodes) → outs ≡ each_from edges 0 (length nodes) → name ≡ design.name
    → leaves ≡ leaves_by rules nodes ins outs → es ≡ plan_edges solution.down solution.up → sources ≡ sources_by 0 nodes outs → sinks ≡ sinks_by 0 nodes ins
    → ◌≡◌ {A = Plan} (record { name = name; policy = design.policy; leaves = leaves; edges = es; sources = sources; sinks = sinks }) (plan_of rules design edges solution)
whole rules design edges solution nodes ins outs name leaves es sources sinks n i o c l e s k =
    let ls : leaves ≡ leaves_from rules edges 0 design.nodes =
    l ∙ ap (λ x. leaves_by rules nodes x outs) i ∙ ap (λ x. leaves_by rules nodes (each_to edges 0 (length nodes)) x) o ∙ same_leaves rules edges 0 nodes ∙ ap (leaves_from rules edges 0) n in
    let so : sources ≡ ports_from source_ports edges 0 design.nodes = s ∙ ap (sources_by 0 nodes) o ∙ same_sources edges 0 nodes ∙ ap (ports_from source_ports edges 0) n in
    let si : sinks ≡ ports_from sink_ports edges 0 design.nodes = k ∙ ap (sinks_by 0 nodes) i ∙ same_sinks edges 0 nodes ∙ ap (ports_from sink_ports edges 0) n in
    ap (λ x. record { name = x; policy = design.policy; leaves = leaves; edges = es; sources = sources; sinks = sinks }) c
    ∙ ap (λ x. record { name = design.name; policy = design.policy; leaves = x; edges = es; sources = sources; sinks = sinks }) ls
    ∙ ap (λ x. record { name = design.name; policy = design.policy; leaves = leaves_from rules edges 0 design.nodes; edges = x; sources = sources; sinks = sinks }) e
    ∙ ap (λ x. record { name = design.name; policy = design.policy; leaves = leaves_from rules edges 0 design.nodes; edges = plan_edges solution.down solution.up; sources = x; sinks = sinks }) so
    ∙ ap (λ x. record { name = design.name; policy = design.policy; leaves = leaves_from rules edges 0 design.nodes; edges = plan_edges solution.down solution.up; sources = ports_from source_ports edges 0 design.nodes; sinks = x }) si
