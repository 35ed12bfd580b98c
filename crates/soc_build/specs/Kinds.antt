-- Check 19, which is tried behind the checks of designs where a netlist is to be built.
use Rattle.std.specs.Prelude.{ℕ, ◌≡◌, List, [], ◌∷◌, Bool, false, not, Option, Some, None}
use Rattle.dip_lists.specs.First.{Check, check, first_failing, places}
use Rattle.tl_params.specs.declared.ops.Template.{Template}
use Rattle.dip_graph.specs.declared.design.NodeKind.{NodeKind}
use Rattle.dip_graph.specs.declared.design.NodeKind.TheVariants.{Source, Sink, Ruled}
use Rattle.dip_graph.specs.declared.design.Design.{Design}
use Rattle.dip_graph.specs.declared.edges.Edge.{Edge}
use Rattle.dip_rule.specs.Stated.{StatedRule, template_of}
use Rattle.dip_negotiate.specs.declared.solution.Solution.{Solution}
use Rattle.dip_plan.specs.DesignPlans.{plan_of}
use Rattle.net_leaves.specs.Buildable.{is_buildable, IsBuildable}

-- there is a template, and no hardware for it yet
abbrev pub is_unbuilt : Option Template → Bool
is_unbuilt None = false
is_unbuilt (Some template) = not (is_buildable template)

-- there is no hardware yet for nodes of this kind; nothing is built for sources and sinks
abbrev pub kind_is_unbuilt : List StatedRule → NodeKind → Bool
kind_is_unbuilt rules (Source ports ids emits) = false
kind_is_unbuilt rules (Sink beat ports supports) = false
kind_is_unbuilt rules (Ruled kind args) = is_unbuilt (template_of rules kind)

-- the nodes for which that is so
abbrev pub unbuilt_nodes : List StatedRule → Design → List ℕ
unbuilt_nodes rules design = places (λ number node. kind_is_unbuilt rules node.kind) 0 design.nodes

-- check 19 alone
abbrev pub hardware_checks : List StatedRule → Design → List Check
hardware_checks rules design = check 19 (unbuilt_nodes rules design) ∷ []

-- where check 19 passes, there is hardware for each leaf of the design's plan
abbrev pub BuildableLaw : Type 0
BuildableLaw =
    (rules : List StatedRule) (design : Design) (edges : List Edge) (solution : Solution)
    → first_failing (hardware_checks rules design) ≡ None → IsBuildable (plan_of rules design edges solution)
