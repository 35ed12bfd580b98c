-- The heads of queues in wires, and what ports see of their edges.
use Rattle.std.proofs.Common.{◌≡◌, ℕ, zero, suc, ◌+◌, ◌<◌, ◌≤◌, List, [], ◌∷◌, ◌++◌, length, map, take, get_or, Some, None, refl, sym, ap, ◌∙◌, subst, arith}
use Rattle.std.specs.Prelude.{slice_get}
use Rattle.std.proofs.lemmas.List.{get_or_append_left, get_or_default, length-map, length_push, map-append, take_all}
use Rattle.tl_edge.specs.declared.plan.PlanEdge.{PlanEdge}
use Rattle.tl_edge.specs.declared.plan.PlanPort.{PlanPort}
use Rattle.tl_edge.specs.declared.plan.Plan.{Plan}
use Rattle.tl_edge.specs.Plans.{edge_at}
use Rattle.tl_edge.specs.Wires.{a_widths, d_widths}
use Rattle.net_build.specs.declared.types.Wire.{Wire}
use Rattle.net_build.specs.Bits.{MeansAll, highs, row_picked, wire_values}
use Rattle.net_build.specs.Built.{Built, IsWire}
use Rattle.net_build.specs.Registers.{AreWires}
use Rattle.net_build.specs.Values.{Adds}
use Rattle.net_build.proofs.OpenedLists.{later_same, widths_more}
use Rattle.net_build.proofs.Steps.{bit_adds}
use Rattle.net_queue.specs.declared.types.EdgeWires.{EdgeWires}
use Rattle.net_queue.specs.declared.types.Queue.{Queue}
use Rattle.net_queue.specs.Leaves.{IsEdge}
use Rattle.net_queue.specs.Rows.{row_widths}
use Rattle.net_parts.specs.Wired.{no_edge_wires, wires_of_edge}
use Rattle.net_leaves.specs.OpenEdges.{AreOpenEdges}
use Rattle.net_leaves.proofs.Later.{edge_kept}
use Rattle.net_faces.specs.Showing.{AreSinkRows, AreSourceRows, ShowsHead, ShowsSink, ShowsSource}
use Rattle.net_faces.proofs.Later.{sink_later, source_later}
use Rattle.net_faces.proofs.Naming.{taken_more}
use Rattle.net_faces.proofs.PortSteps.{each_more}

-- ---- a head

pub wires_cons : (b : Built) (n : ℕ) (widths : List ℕ) (w : Wire) (ws : List Wire) → IsWire b w → w.width ≡ n → AreWires b widths ws → AreWires b (n ∷ widths) (w ∷ ws)
wires_cons b n widths w ws h e g = record { each = λ k d m. at k d m }
  where
    at : (k : ℕ) (d : Wire) → k < length (w ∷ ws) → IsWire b (get_or (w ∷ ws) k d) × ((get_or (w ∷ ws) k d).width ≡ get_or (n ∷ widths) k 0)
    at zero d m = (h, e)
    at (suc k) d m = g.each k d (omega (arith, m))

pub head_shown : (b : Built) (queue : Queue) (widths : List ℕ) (picks : List Wire) (rows : List (List Wire)) (fields : List Wire) → picks ≡ queue.valid ∷ [] → rows ≡ queue.head ∷ [] → row_widths queue.head ≡ widths
    → MeansAll b fields (λ v. row_picked (length widths) (highs v picks) (map (wire_values v) rows)) → ShowsHead b queue (queue.valid ∷ fields)
head_shown b queue widths picks rows fields p r w m = record {
  at = λ v s.
      let long : length widths ≡ length queue.head = sym (ap length w) ∙ length-map queue.head (λ (x : Wire). x.width) in
      ap (λ (xs : List ℕ). v queue.valid.number ∷ xs)
      (m.at v s
      ∙ ap (λ (ps : List Wire). row_picked (length widths) (highs v ps) (map (wire_values v) rows)) p
      ∙ ap (λ (rs : List (List Wire)). row_picked (length widths) (highs v (queue.valid ∷ [])) (map (wire_values v) rs)) r
      ∙ ap (λ (n : ℕ). row_picked n (highs v (queue.valid ∷ [])) (wire_values v queue.head ∷ [])) long);
}

-- ---- what ports see of an edge

pub source_shown : (old new : Built) (edge : PlanEdge) (wires : EdgeWires) (head row : List Wire) → IsEdge old edge wires → Adds old new → length head ≡ 6 → AreWires new (1 ∷ d_widths edge.bundle) head → ShowsHead new wires.d head
    → row ≡ wires.a.ready ∷ head → ShowsSource new edge wires row
source_shown old new edge wires head row o g l w h e = subst (ShowsSource new edge wires) (sym e)
    (let ready = bit_adds old new wires.a.ready g o.a.ready in record {
      long = omega (arith, l);
      wide = wires_cons new 1 (1 ∷ d_widths edge.bundle) wires.a.ready head ready.wire ready.one w;
      at = λ v s. ap (λ (xs : List ℕ). v wires.a.ready.number ∷ xs) (h.at v s);
    })

pub sink_shown : (old new : Built) (edge : PlanEdge) (wires : EdgeWires) (head row : List Wire) → IsEdge old edge wires → Adds old new → length head ≡ 8 → AreWires new (1 ∷ a_widths edge.bundle) head → ShowsHead new wires.a head
    → row ≡ head ++ wires.d.ready ∷ [] → ShowsSink new edge wires row
sink_shown old new edge wires head row o g l w h e =
    let ready = bit_adds old new wires.d.ready g o.d.ready in
    let widths = 1 ∷ a_widths edge.bundle in
    let front : AreWires new (widths ++ 1 ∷ []) head = record { each = λ k d m. let x = w.each k d m in (x.0, x.1 ∙ sym (get_or_append_left widths (1 ∷ []) 0 k (omega (arith, l, m)))) } in
    let last : wires.d.ready.width ≡ get_or (widths ++ 1 ∷ []) (length head) 0 = ready.one ∙ sym (ap (λ (n : ℕ). get_or (widths ++ 1 ∷ []) n 0) l) in
    record {
      long = ap length e ∙ length_push head wires.d.ready ∙ ap (λ (n : ℕ). n + 1) l;
      wide = widths_more new new (widths ++ 1 ∷ []) head row wires.d.ready (later_same new) front ready.wire last e;
      at = λ v s. ap (wire_values v) e ∙ map-append (λ (x : Wire). v x.number) head (wires.d.ready ∷ []) ∙ ap (λ (xs : List ℕ). xs ++ v wires.d.ready.number ∷ []) (h.at v s);
    }

-- ---- open edges

pub wires_read : (b : Built) (plan : Plan) (edges : List EdgeWires) (place : ℕ) (wires : EdgeWires) → AreOpenEdges b plan edges → place < length plan.edges → wires ≡ get_or edges place wires → wires ≡ wires_of_edge edges place
wires_read b plan edges place wires h l e = e ∙ get_or_default edges place wires no_edge_wires (omega (arith, h.long, l))

pub edge_open : (old new : Built) (plan : Plan) (edges : List EdgeWires) (place : ℕ) (edge : PlanEdge) (wires : EdgeWires) → AreOpenEdges old plan edges → Adds old new → place < length plan.edges → edge ≡ edge_at plan place → wires ≡ get_or edges place wires
    → IsEdge new edge wires
edge_open old new plan edges place edge wires h g l e f =
    subst (λ (x : PlanEdge). IsEdge new x wires) (sym e)
    (subst (IsEdge new (edge_at plan place)) (sym (wires_read old plan edges place wires h l f))
    (edge_kept old new (edge_at plan place) (wires_of_edge edges place) g.later g.undriven (h.each place l)))

-- ---- one port after another

abbrev pub SeesSource : Built → Plan → List EdgeWires → PlanPort → List Wire → Type 0
SeesSource b plan edges at row = ShowsSource b (edge_at plan at.edge) (wires_of_edge edges at.edge) row

abbrev pub SeesSink : Built → Plan → List EdgeWires → PlanPort → List Wire → Type 0
SeesSink b plan edges at row = ShowsSink b (edge_at plan at.edge) (wires_of_edge edges at.edge) row

-- a row for each of some ports
pub record RowsFor (P : PlanPort → List Wire → Type 0) (all : List PlanPort) (rows : List (List Wire)) : Type 0 where
  pub long : length rows ≡ length all
  pub each : (port : ℕ) (at : PlanPort) → slice_get all port ≡ Some at → P at (get_or rows port [])

rows_none : (P : PlanPort → List Wire → Type 0) → RowsFor P [] []
rows_none P = record { long = refl; each = λ port at e. absurd (let q : None ≡ Some at = e in cc) }

pub rows_begun : (P : PlanPort → List Wire → Type 0) (rows : List (List Wire)) → rows ≡ [] → RowsFor P [] rows
rows_begun P rows e = subst (RowsFor P []) (sym e) (rows_none P)

rows_more : (P Q : PlanPort → List Wire → Type 0) (all : List PlanPort) (k : ℕ) (at : PlanPort) (rows more : List (List Wire)) (row : List Wire) → k < length all → at ≡ get_or all k at → ((a : PlanPort) (r : List Wire) → P a r → Q a r)
    → RowsFor P (take k all) rows → Q at row → more ≡ rows ++ row ∷ [] → RowsFor Q (take (k + 1) all) more
rows_more P Q all k at rows more row l e f h q m =
    subst (RowsFor Q (take (k + 1) all)) (sym m)
    (subst (λ (ps : List PlanPort). RowsFor Q ps (rows ++ row ∷ [])) (sym (taken_more all k at l e)) (record {
      long = length_push rows row ∙ ap (λ (n : ℕ). n + 1) h.long ∙ sym (length_push (take k all) at);
      each = each_more Q (take k all) at rows row [] h.long (λ port a i. f a (get_or rows port []) (h.each port a i)) q;
    }))

pub source_rows_more : (mid new : Built) (plan : Plan) (edges : List EdgeWires) (k : ℕ) (at : PlanPort) (edge : PlanEdge) (wires : EdgeWires) (rows more : List (List Wire)) (row : List Wire) → k < length plan.sources → at ≡ get_or plan.sources k at
    → edge ≡ edge_at plan at.edge → wires ≡ wires_of_edge edges at.edge → Adds mid new → RowsFor (SeesSource mid plan edges) (take k plan.sources) rows → ShowsSource new edge wires row → more ≡ rows ++ row ∷ []
    → RowsFor (SeesSource new plan edges) (take (k + 1) plan.sources) more
source_rows_more mid new plan edges k at edge wires rows more row l e f w g h s m =
    let shown : SeesSource new plan edges at row = subst (λ (x : EdgeWires). ShowsSource new (edge_at plan at.edge) x row) w (subst (λ (x : PlanEdge). ShowsSource new x wires row) f s) in
    rows_more (SeesSource mid plan edges) (SeesSource new plan edges) plan.sources k at rows more row l e
    (λ a r i. source_later mid new (edge_at plan a.edge) (wires_of_edge edges a.edge) r g.later i) h shown m

pub sink_rows_more : (mid new : Built) (plan : Plan) (edges : List EdgeWires) (k : ℕ) (at : PlanPort) (edge : PlanEdge) (wires : EdgeWires) (rows more : List (List Wire)) (row : List Wire) → k < length plan.sinks → at ≡ get_or plan.sinks k at
    → edge ≡ edge_at plan at.edge → wires ≡ wires_of_edge edges at.edge → Adds mid new → RowsFor (SeesSink mid plan edges) (take k plan.sinks) rows → ShowsSink new edge wires row → more ≡ rows ++ row ∷ []
    → RowsFor (SeesSink new plan edges) (take (k + 1) plan.sinks) more
sink_rows_more mid new plan edges k at edge wires rows more row l e f w g h s m =
    let shown : SeesSink new plan edges at row = subst (λ (x : EdgeWires). ShowsSink new (edge_at plan at.edge) x row) w (subst (λ (x : PlanEdge). ShowsSink new x wires row) f s) in
    rows_more (SeesSink mid plan edges) (SeesSink new plan edges) plan.sinks k at rows more row l e
    (λ a r i. sink_later mid new (edge_at plan a.edge) (wires_of_edge edges a.edge) r g.later i) h shown m

pub source_rows_all : (b : Built) (plan : Plan) (edges : List EdgeWires) (rows : List (List Wire)) (k : ℕ) → length plan.sources ≤ k → RowsFor (SeesSource b plan edges) (take k plan.sources) rows → AreSourceRows b plan edges rows
source_rows_all b plan edges rows k l h =
    let all : RowsFor (SeesSource b plan edges) plan.sources rows = subst (λ (ps : List PlanPort). RowsFor (SeesSource b plan edges) ps rows) (take_all k plan.sources l) h in
    record { long = all.long; each = all.each }

pub sink_rows_all : (b : Built) (plan : Plan) (edges : List EdgeWires) (rows : List (List Wire)) (k : ℕ) → length plan.sinks ≤ k → RowsFor (SeesSink b plan edges) (take k plan.sinks) rows → AreSinkRows b plan edges rows
sink_rows_all b plan edges rows k l h =
    let all : RowsFor (SeesSink b plan edges) plan.sinks rows = subst (λ (ps : List PlanPort). RowsFor (SeesSink b plan edges) ps rows) (take_all k plan.sinks l) h in
    record { long = all.long; each = all.each }
