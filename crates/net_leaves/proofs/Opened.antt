-- The queues of edges, opened one after another.
use Rattle.std.proofs.Common.{◌≡◌, ℕ, ◌+◌, ◌<◌, List, [], ◌∷◌, ◌++◌, All, inl, inr, length, get_or, sym, ap, ◌∙◌, subst, arith}
use Rattle.std.proofs.lemmas.Bool.{cases_lt}
use Rattle.std.proofs.lemmas.Grind.{flat_map-append}
use Rattle.std.proofs.lemmas.List.{append-nil, get_or_append_left, get_or_default, get_or_push}
use Rattle.std.proofs.lemmas.Option.{unwrap_or-slice_get}
use Rattle.tl_edge.specs.declared.plan.Plan.{Plan}
use Rattle.tl_edge.specs.declared.plan.PlanEdge.{PlanEdge}
use Rattle.tl_edge.specs.Plans.{edge_at, no_edge}
use Rattle.tl_edge.specs.SoundPlans.{IsSoundEdge}
use Rattle.tl_edge.specs.Wires.{a_widths, d_widths}
use Rattle.tl_edge.proofs.Fitting.{wires_law}
use Rattle.net_cells.specs.Rules.{IsWidth}
use Rattle.net_build.specs.declared.types.Wire.{Wire}
use Rattle.net_build.specs.Built.{Built}
use Rattle.net_build.specs.Registers.{AreWires, numbers}
use Rattle.net_build.specs.Values.{Opens}
use Rattle.net_build.proofs.OpenedLists.{all_undriven_opens, opens_opens}
use Rattle.net_queue.specs.declared.types.EdgeWires.{EdgeWires}
use Rattle.net_queue.specs.declared.types.Queue.{Queue}
use Rattle.net_queue.specs.Leaves.{IsEdge}
use Rattle.net_queue.specs.Queues.{IsOpen, queue_registers}
use Rattle.net_queue.proofs.Alike.{widths_are}
use Rattle.net_parts.specs.Wired.{no_edge_wires, wires_of_edge}
use Rattle.net_leaves.specs.OpenEdges.{all_registers, edge_registers}
use Rattle.net_leaves.proofs.Later.{edge_opens, open_later}

-- ---- one edge

pub widths_fit : (edge : PlanEdge) (widths : List ℕ) → IsSoundEdge edge → widths ≡ a_widths edge.bundle → All IsWidth widths
widths_fit edge widths sound e = subst (All IsWidth) (sym e) (wires_law.a_widths edge sound)

pub widths_fit_up : (edge : PlanEdge) (widths : List ℕ) → IsSoundEdge edge → widths ≡ d_widths edge.bundle → All IsWidth widths
widths_fit_up edge widths sound e = subst (All IsWidth) (sym e) (wires_law.d_widths edge sound)

pub edge_made : (mid new : Built) (edge : PlanEdge) (a d : Queue) (down up rs : List ℕ) → down ≡ a_widths edge.bundle → up ≡ d_widths edge.bundle → Opens mid new rs
    → IsOpen mid a → length a.head ≡ length down → AreWires mid down a.head
    → IsOpen new d → length d.head ≡ length up → AreWires new up d.head
    → IsEdge new edge (record { a = a; d = d })
edge_made mid new edge a d down up rs e f g o l w p m u = record {
  a = open_later mid new a g.later (all_undriven_opens mid new (queue_registers a) rs g o.undriven) o;
  d = p;
  a_widths = widths_are mid down a.head l w ∙ e;
  d_widths = widths_are new up d.head m u ∙ f;
}

-- ---- each edge of a plan

pub edge_here : (plan : Plan) (k : ℕ) (edge : PlanEdge) (stated : List PlanEdge) → stated ≡ plan.edges → k < length stated → edge ≡ get_or stated k edge → edge_at plan k ≡ edge
edge_here plan k edge stated e l is =
    let f : get_or stated k edge ≡ get_or plan.edges k edge = ap (λ (xs : List PlanEdge). get_or xs k edge) e in
    let b : k < length plan.edges = omega (arith, l, ap length e) in
    unwrap_or-slice_get plan.edges k no_edge ∙ get_or_default plan.edges k no_edge edge b ∙ sym f ∙ sym is

pub registers_more : (edges more : List EdgeWires) (wires : EdgeWires) → more ≡ edges ++ wires ∷ [] → all_registers more ≡ all_registers edges ++ edge_registers wires
registers_more edges more wires e =
    ap all_registers e
    ∙ flat_map-append edge_registers edges (wires ∷ [])
    ∙ ap (λ (ws : List Wire). all_registers edges ++ ws) (append-nil (edge_registers wires))

pub opens_more : (old mid new : Built) (edges more : List EdgeWires) (wires : EdgeWires) → Opens old mid (numbers (all_registers edges)) → Opens mid new (numbers (edge_registers wires)) → more ≡ edges ++ wires ∷ []
    → Opens old new (numbers (all_registers more))
opens_more old mid new edges more wires g h e = opens_opens old mid new (all_registers edges) (edge_registers wires) (all_registers more) g h (registers_more edges more wires e)

pub edges_more : (mid new : Built) (plan : Plan) (k : ℕ) (edges more : List EdgeWires) (at : PlanEdge) (wires : EdgeWires) (rs : List ℕ) → length edges ≡ k → Opens mid new rs
    → ((edge : ℕ) → edge < k → IsEdge mid (edge_at plan edge) (wires_of_edge edges edge)) → edge_at plan k ≡ at → IsEdge new at wires → more ≡ edges ++ wires ∷ []
    → (edge : ℕ) → edge < k + 1 → IsEdge new (edge_at plan edge) (wires_of_edge more edge)
edges_more mid new plan k edges more at wires rs n g h p i e edge l =
    subst (λ (xs : List EdgeWires). IsEdge new (edge_at plan edge) (get_or xs edge no_edge_wires)) (sym e)
    (elim (cases_lt edge k) [
      | inl s ↦
          let b : edge < length edges = omega (arith, s, n) in
          subst (IsEdge new (edge_at plan edge)) (sym (get_or_append_left edges (wires ∷ []) no_edge_wires edge b)) (edge_opens mid new rs _ (wires_of_edge edges edge) g (h edge s))
      | inr t ↦
          let q : k ≡ edge = omega (arith, l, t) in
          subst (IsEdge new (edge_at plan edge)) (sym (get_or_push edges wires no_edge_wires edge (n ∙ q))) (subst (λ (x : PlanEdge). IsEdge new x wires) (sym p ∙ ap (edge_at plan) q) i)
    ])
