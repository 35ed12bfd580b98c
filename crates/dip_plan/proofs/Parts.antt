-- What holds of the leaves of each node holds of all leaves.
use Rattle.std.proofs.Common.{◌≡◌, ℕ, suc, ◌+◌, Bool, true, false, cond, List, [], ◌∷◌, Option, Some, None, refl, subst, arith, inl, inr}
use Rattle.std.specs.Prelude.{slice_get, All}
use Rattle.std.proofs.lemmas.List.Elements.{All-nil, All-cons, All-append}
use Rattle.tl_params.specs.declared.ops.Template.{Template}
use Rattle.tl_params.specs.Operations.{is_nexus}
use Rattle.tl_edge.specs.declared.plan.Leaf.{Leaf}
use Rattle.dip_graph.specs.declared.design.NodeKind.{NodeKind}
use Rattle.dip_graph.specs.declared.design.NodeKind.TheVariants.{Source, Sink, Ruled}
use Rattle.dip_graph.specs.declared.design.NodeEntry.{NodeEntry}
use Rattle.dip_graph.specs.declared.edges.Edge.{Edge}
use Rattle.dip_rule.specs.Stated.{StatedRule, template_of}
use Rattle.tl_owners.proofs.Members.{In}
use Rattle.dip_graph.specs.Edges.{edges_to, edges_from}
use Rattle.dip_plan.specs.DesignPlans.{leaf_of, leaves_between, built_leaves, kind_leaves, leaves_from}

-- ---- leaves, by node

pub by_node : (P : Leaf → Type 0) (rules : List StatedRule) (edges : List Edge) (node : ℕ) (nodes : List NodeEntry)
    → ((k : ℕ) (entry : NodeEntry) → slice_get nodes k ≡ Some entry → All P (kind_leaves rules entry.kind (edges_to (node + k) edges) (edges_from (node + k) edges)))
    → All P (leaves_from rules edges node nodes)
by_node P rules edges node [] each = All-nil P
by_node P rules edges node (entry ∷ nodes) each =
    All-append P (kind_leaves rules entry.kind (edges_to node edges) (edges_from node edges)) (leaves_from rules edges (node + 1) nodes)
    (subst (λ n. All P (kind_leaves rules entry.kind (edges_to n edges) (edges_from n edges))) here (each 0 entry refl))
    (by_node P rules edges (node + 1) nodes (λ k e is. subst (λ n. All P (kind_leaves rules e.kind (edges_to n edges) (edges_from n edges))) (there k) (each (suc k) e is)))
  where
    here : node + 0 ≡ node
    here = omega arith

    there : (k : ℕ) → node + suc k ≡ node + 1 + k
    there k = omega arith

-- ---- leaves of a node

pub by_template : (P : Leaf → Type 0) (rules : List StatedRule) (kind : NodeKind) (ins outs : List ℕ)
    → ((name args : List ℕ) (template : Template) → kind ≡ Ruled name args → template_of rules name ≡ Some template
    → All P (cond (is_nexus template) (leaf_of template args ins outs ∷ []) (leaves_between template args ins outs)))
    → All P (kind_leaves rules kind ins outs)
by_template P rules (Source ports ids emits) ins outs each = All-nil P
by_template P rules (Sink beat ports supports) ins outs each = All-nil P
by_template P rules (Ruled name args) ins outs each = at (template_of rules name) refl
  where
    at : (t : Option Template) → template_of rules name ≡ t → All P (built_leaves t args ins outs)
    at None e = All-nil P
    at (Some template) e = each name args template refl e

-- a leaf's edges are among some
pub record IsBetween (ins outs : List ℕ) (leaf : Leaf) : Type 0 where
  pub above : (edge : ℕ) → In edge leaf.ins → In edge ins
  pub below : (edge : ℕ) → In edge leaf.outs → In edge outs

wider : (ins outs : List ℕ) (a b : ℕ) (leaf : Leaf) → IsBetween ins outs leaf → IsBetween (a ∷ ins) (b ∷ outs) leaf
wider ins outs a b leaf w = record { above = λ e i. inr (w.above e i); below = λ e i. inr (w.below e i) }

widen : (ins outs : List ℕ) (a b : ℕ) (leaves : List Leaf) → All (IsBetween ins outs) leaves → All (IsBetween (a ∷ ins) (b ∷ outs)) leaves
widen ins outs a b leaves all k d l = wider ins outs a b _ (all k d l)

between : (template : Template) (args ins outs : List ℕ) → All (IsBetween ins outs) (leaves_between template args ins outs)
between template args [] outs = All-nil (IsBetween [] outs)
between template args (a ∷ ins) [] = All-nil (IsBetween (a ∷ ins) [])
between template args (a ∷ ins) (b ∷ outs) =
    All-cons (IsBetween (a ∷ ins) (b ∷ outs)) (leaf_of template args (a ∷ []) (b ∷ [])) (leaves_between template args ins outs)
    (record { above = λ e i. first a e ins i; below = λ e i. first b e outs i })
    (widen ins outs a b (leaves_between template args ins outs) (between template args ins outs))
  where
    first : (x e : ℕ) (xs : List ℕ) → In e (x ∷ []) → In e (x ∷ xs)
    first x e xs (inl i) = inl i
    first x e xs (inr i) = absurd i

pub of_template : (template : Template) (args ins outs : List ℕ)
    → All (IsBetween ins outs) (cond (is_nexus template) (leaf_of template args ins outs ∷ []) (leaves_between template args ins outs))
of_template template args ins outs = at (is_nexus template)
  where
    at : (b : Bool) → All (IsBetween ins outs) (cond b (leaf_of template args ins outs ∷ []) (leaves_between template args ins outs))
    at true = All-cons (IsBetween ins outs) (leaf_of template args ins outs) [] (record { above = λ e i. i; below = λ e i. i }) (All-nil (IsBetween ins outs))
    at false = between template args ins outs

pub of_kind : (rules : List StatedRule) (kind : NodeKind) (ins outs : List ℕ) → All (IsBetween ins outs) (kind_leaves rules kind ins outs)
of_kind rules kind ins outs = by_template (IsBetween ins outs) rules kind ins outs (λ name args template k t. of_template template args ins outs)
