-- Where check 19 passes, each leaf of a design's plan is one for which there is hardware.
use Rattle.std.proofs.Common.{◌≡◌, ℕ, ◌+◌, Bool, true, false, not, cond, List, [], ◌∷◌, IsTrue, Option, Some, None, refl, sym, subst}
use Rattle.std.specs.Prelude.{All}
use Rattle.std.proofs.lemmas.List.Elements.{All-nil, All-cons, All-append}
use Rattle.dip_lists.specs.First.{check, first, first_failing, places}
use Rattle.tl_params.specs.Operations.{is_nexus}
use Rattle.tl_params.specs.declared.ops.Template.{Template}
use Rattle.tl_edge.specs.declared.plan.Leaf.{Leaf}
use Rattle.dip_graph.specs.declared.design.NodeKind.{NodeKind}
use Rattle.dip_graph.specs.declared.design.NodeKind.TheVariants.{Source, Sink, Ruled}
use Rattle.dip_graph.specs.declared.design.NodeEntry.{NodeEntry}
use Rattle.dip_graph.specs.declared.design.Design.{Design}
use Rattle.dip_graph.specs.declared.edges.Edge.{Edge}
use Rattle.dip_graph.specs.Edges.{edges_to, edges_from}
use Rattle.dip_rule.specs.Stated.{StatedRule, template_of}
use Rattle.dip_plan.specs.declared.accepted.Accepted.{Accepted}
use Rattle.dip_plan.specs.DesignPlans.{leaf_of, leaves_between, built_leaves, kind_leaves, leaves_from, accepted_of}
use Rattle.net_leaves.specs.Buildable.{is_buildable, IsBuildable}
use Rattle.soc_build.specs.Kinds.{is_unbuilt, kind_is_unbuilt, unbuilt_nodes, hardware_checks, BuildableLaw}

abbrev IsBuilt : Leaf → Type 0
IsBuilt leaf = IsTrue (is_buildable leaf.template)

is_built : (b : Bool) → not b ≡ false → IsTrue b
is_built true h = refl
is_built false h = absurd cc

either : (b : Bool) (xs ys : List Leaf) → All IsBuilt xs → All IsBuilt ys → All IsBuilt (cond b xs ys)
either true xs ys p q = p
either false xs ys p q = q

between : (template : Template) (args ins outs : List ℕ) → IsTrue (is_buildable template) → All IsBuilt (leaves_between template args ins outs)
between template args [] outs h = All-nil IsBuilt
between template args (above ∷ ins) [] h = All-nil IsBuilt
between template args (above ∷ ins) (below ∷ outs) h =
    All-cons IsBuilt (leaf_of template args (above ∷ []) (below ∷ [])) (leaves_between template args ins outs) h (between template args ins outs h)

of_template : (found : Option Template) (args ins outs : List ℕ) → is_unbuilt found ≡ false → All IsBuilt (built_leaves found args ins outs)
of_template None args ins outs h = All-nil IsBuilt
of_template (Some template) args ins outs h =
    let built : IsTrue (is_buildable template) = is_built (is_buildable template) h in
    either (is_nexus template) (leaf_of template args ins outs ∷ []) (leaves_between template args ins outs)
    (All-cons IsBuilt (leaf_of template args ins outs) [] built (All-nil IsBuilt)) (between template args ins outs built)

module _ (rules : List StatedRule) where
  of_kind : (kind : NodeKind) (ins outs : List ℕ) → kind_is_unbuilt rules kind ≡ false → All IsBuilt (kind_leaves rules kind ins outs)
  of_kind (Source ports ids emits) ins outs h = All-nil IsBuilt
  of_kind (Sink beat ports supports) ins outs h = All-nil IsBuilt
  of_kind (Ruled kind args) ins outs h = of_template (template_of rules kind) args ins outs h

  -- the test passes at the first item and at all others
  passes_here : (fails : Bool) (n : ℕ) (others : List ℕ) → first (cond fails (n ∷ others) others) ≡ None → (fails ≡ false) × (first others ≡ None)
  passes_here true n others h = absurd cc
  passes_here false n others h = (refl, h)

  of_nodes : (edges : List Edge) (number : ℕ) (nodes : List NodeEntry) → first (places (λ number node. kind_is_unbuilt rules node.kind) number nodes) ≡ None
      → All IsBuilt (leaves_from rules edges number nodes)
  of_nodes edges number [] h = All-nil IsBuilt
  of_nodes edges number (node ∷ nodes) h =
      let p = passes_here (kind_is_unbuilt rules node.kind) number (places (λ number (node : NodeEntry). kind_is_unbuilt rules node.kind) (number + 1) nodes) h in
      All-append IsBuilt (kind_leaves rules node.kind (edges_to number edges) (edges_from number edges)) (leaves_from rules edges (number + 1) nodes)
      (of_kind node.kind (edges_to number edges) (edges_from number edges) p.0) (of_nodes edges (number + 1) nodes p.1)

-- no subject is there where a check passes
no_subject : (subjects : List ℕ) → first_failing (check 19 subjects ∷ []) ≡ None → first subjects ≡ None
no_subject [] h = refl
no_subject (subject ∷ subjects) h = absurd cc

pub buildable : BuildableLaw
buildable rules design edges solution h = of_nodes rules edges 0 design.nodes (no_subject (unbuilt_nodes rules design) h)

-- the plan of an accepted design
pub planned : (rules : List StatedRule) (design : Design) (accepted : Accepted) → accepted ≡ accepted_of rules design
    → first_failing (hardware_checks rules design) ≡ None → IsBuildable accepted.plan
planned rules design accepted e h =
    subst (λ (a : Accepted). IsBuildable a.plan) (sym e) (buildable rules design (accepted_of rules design).edges (accepted_of rules design).solution h)
