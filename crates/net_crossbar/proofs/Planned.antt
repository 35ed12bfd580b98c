-- The crossbar between the edges of a plan.
use Rattle.std.proofs.Common.{◌≡◌, ℕ, zero, suc, ◌-◌, ◌<◌, ◌≤◌, Bool, List, [], ◌∷◌, length, map, get_or, replicate, None, refl, sym, ap, ◌∙◌, subst, arith, inl, inr, All}
use Rattle.std.specs.List.{AllZip}
use Rattle.std.proofs.lemmas.Bool.{cases_lt}
use Rattle.std.proofs.lemmas.List.{get_or-map, get_or_past, length-map}
use Rattle.dip_sets.specs.declared.ids.IdRange.{IdRange}
use Rattle.dip_sets.specs.Assignments.{BeginsAtMultiple, HasRoom, IsRounded, assigned, rounded}
use Rattle.dip_sets.proofs.Assigned.{ranges_length}
use Rattle.tl_params.specs.declared.ops.Policy.{Policy}
use Rattle.tl_params.specs.declared.ports.Slave.{Slave}
use Rattle.tl_edge.specs.declared.plan.Plan.{Plan}
use Rattle.tl_edge.specs.declared.plan.PlanEdge.{PlanEdge}
use Rattle.tl_edge.specs.Plans.{bus_width, edge_at, no_edge}
use Rattle.tl_edge.specs.SoundPlans.{IsSoundEdge, ids_of}
use Rattle.tl_edge.specs.Wires.{FitWires, a_fields, a_widths, d_fields, d_widths}
use Rattle.flow_core.specs.Leaves.{LeafState, crossbar_at_start, first_edge, open_gate}
use Rattle.flow_core.specs.Leaves.LeafState.{XbarState}
use Rattle.net_build.specs.declared.types.Wire.{Wire}
use Rattle.net_build.specs.Built.{Built, IsBit}
use Rattle.net_build.specs.Columns.{no_wire}
use Rattle.net_choice.specs.Choice.{policy_if}
use Rattle.net_paths.proofs.Prefixed.{positive}
use Rattle.net_queue.specs.declared.types.EdgeWires.{EdgeWires}
use Rattle.net_queue.specs.declared.types.LeafWires.{LeafWires}
use Rattle.net_queue.specs.Leaves.{AreEdges, IsLeaf, LeafDone, LeafView}
use Rattle.net_queue.specs.Machines.{IsMachine, Machine, Reached}
use Rattle.net_queue.specs.Machines.Reached.{begins, goes}
use Rattle.net_queue.specs.Rows.{row_widths}
use Rattle.net_queue.proofs.Alike.{width_at}
use Rattle.net_xbar.specs.Crossings.{crossing}
use Rattle.net_xbar.specs.Ways.{no_ids}
use Rattle.net_crossbar.specs.declared.channel.Channel.TheVariants.{A, D}
use Rattle.net_crossbar.specs.Crossbars.{AreEdgeRows, FitsCrossbar, IsBlockRange, bar_between, crossbar_machine, open_crossbar}
use Rattle.net_crossbar.specs.Heads.{head_at, ready_at, valid_at}
use Rattle.net_crossbar.specs.Places.{AllAt}
use Rattle.net_crossbar.specs.PlanCrossbars.{FitsPlanCrossbar, plan_crossbar}

pub small : (plan : Plan) (edges cs ss : List ℕ) → ss ≡ cs → cs ≡ map (λ edge. (edge_at plan edge).ids) edges → AllAt (λ k edge. IsSoundEdge (edge_at plan edge)) edges → (k d : ℕ) → k < length ss → get_or ss k d ≤ 1024
small plan edges cs ss e f h k d l =
    let n : k < length edges = omega (arith, l, ap length (e ∙ f), length-map edges (λ edge. (edge_at plan edge).ids)) in
    subst (λ (n : ℕ). n ≤ 1024) (sym (ap (λ (xs : List ℕ). get_or xs k d) (e ∙ f) ∙ get_or-map (λ edge. (edge_at plan edge).ids) edges k 0 d n)) (h.at k 0 n).few_ids

-- ---- rows of edges

all_mapped : {X C : Type 0} (f : X → C) (P : ℕ → C → Type 0) (xs : List X) → ((k : ℕ) (e : X) → k < length xs → P k (f (get_or xs k e))) → AllAt P (map f xs)
all_mapped f P [] h = record { at = λ k d l. absurd (omega (arith, l)) }
all_mapped f P (x ∷ xs) h = record {
  at = λ k d l.
      let n : k < length (x ∷ xs) = omega (arith, l, length-map (x ∷ xs) f) in
      subst (P k) (sym (get_or-map f (x ∷ xs) k x d n)) (h k x n);
}

long_of : (ws : List Wire) (ns : List ℕ) → row_widths ws ≡ ns → length ws ≡ length ns
long_of ws ns e = sym (length-map ws (λ (w : Wire). w.width)) ∙ ap length e

pub rows_a : (b : Built) (plan : Plan) (numbers : List ℕ) (wires : List EdgeWires) → AreEdges b plan numbers wires → AreEdgeRows b A 7 wires
rows_a b plan numbers wires h = record {
  rows = all_mapped (head_at A) _ wires (λ k e l. let i = h.each k 0 e l in record { long = long_of (get_or wires k e).a.head _ i.a_widths; wires = i.a.alike.one });
  op = all_mapped (head_at A) _ wires (λ k e l.
      let i = h.each k 0 e l in
      let n = long_of (get_or wires k e).a.head _ i.a_widths in
      width_at (get_or wires k e).a.head 0 no_wire (omega (arith, n)) ∙ ap (λ (ns : List ℕ). get_or ns 0 0) i.a_widths);
  valids = record { each = (all_mapped (valid_at A) (λ k x. IsBit b x) wires (λ k e l. (h.each k 0 e l).a.valid)).at };
  readies = record { each = (all_mapped (ready_at A) (λ k x. IsBit b x) wires (λ k e l. (h.each k 0 e l).a.ready)).at };
}

pub rows_d : (b : Built) (plan : Plan) (numbers : List ℕ) (wires : List EdgeWires) → AreEdges b plan numbers wires → AreEdgeRows b D 5 wires
rows_d b plan numbers wires h = record {
  rows = all_mapped (head_at D) _ wires (λ k e l. let i = h.each k 0 e l in record { long = long_of (get_or wires k e).d.head _ i.d_widths; wires = i.d.alike.one });
  op = all_mapped (head_at D) _ wires (λ k e l.
      let i = h.each k 0 e l in
      let n = long_of (get_or wires k e).d.head _ i.d_widths in
      width_at (get_or wires k e).d.head 0 no_wire (omega (arith, n)) ∙ ap (λ (ns : List ℕ). get_or ns 0 0) i.d_widths);
  valids = record { each = (all_mapped (valid_at D) (λ k x. IsBit b x) wires (λ k e l. (h.each k 0 e l).d.valid)).at };
  readies = record { each = (all_mapped (ready_at D) (λ k x. IsBit b x) wires (λ k e l. (h.each k 0 e l).d.ready)).at };
}

-- ---- ranges

pub zip_long : {X C : Type 0} (R : X → C → Type 0) (xs : List X) (ys : List C) → AllZip R xs ys → length xs ≡ length ys
zip_long R [] [] h = refl
zip_long R [] (y ∷ ys) h = elim h [ ]
zip_long R (x ∷ xs) [] h = elim h [ ]
zip_long R (x ∷ xs) (y ∷ ys) h = ap suc (zip_long R xs ys h.1)

zip_at : {X C : Type 0} (R : X → C → Type 0) (xs : List X) (ys : List C) (k : ℕ) (d : X) (e : C) → AllZip R xs ys → k < length ys → R (get_or xs k d) (get_or ys k e)
zip_at R [] [] k d e h l = absurd (omega (arith, l))
zip_at R [] (y ∷ ys) k d e h l = elim h [ ]
zip_at R (x ∷ xs) [] k d e h l = elim h [ ]
zip_at R (x ∷ xs) (y ∷ ys) zero d e h l = h.0
zip_at R (x ∷ xs) (y ∷ ys) (suc k) d e h l = zip_at R xs ys k d e h.1 (omega (arith, l))

block_range : (count : ℕ) (range : IdRange) → IsRounded count range → BeginsAtMultiple range → IsBlockRange range
block_range count range ((k, e), enough, least) a = record { order = omega (arith, e, positive k); power = (k, e); aligned = a }

pub block_ranges : (counts cs : List ℕ) (ranges rs : List IdRange) → rs ≡ ranges → AllZip IsRounded counts ranges → All BeginsAtMultiple ranges → AllAt (λ k range. IsBlockRange range) rs
block_ranges counts cs ranges rs e h a = subst (AllAt (λ k range. IsBlockRange range)) (sym e) (record {
  at = λ k d l. block_range (get_or counts k 0) (get_or ranges k d) (zip_at IsRounded counts ranges k 0 d h l) (a k d l);
})

-- ---- the machine

map_map : {X Y Z : Type 0} (f : Y → Z) (g : X → Y) (xs : List X) → map (λ x. f (g x)) xs ≡ map f (map g xs)
map_map f g [] = refl
map_map f g (x ∷ xs) = ap (λ ys. f (g x) ∷ ys) (map_map f g xs)

width_first : (plan : Plan) (edges : List ℕ) (e : ℕ) → 0 < length edges → e ≡ get_or edges 0 0 → edge_at plan e ≡ first_edge (map (edge_at plan) edges)
width_first plan [] e l q = absurd (omega (arith, l))
width_first plan (x ∷ xs) e l q = ap (edge_at plan) q

assigned_long : (counts : List ℕ) → length (assigned counts) ≡ length counts
assigned_long counts = ranges_length 0 (map rounded counts) (map rounded counts) ∙ length-map counts rounded

abbrev state_of : List IdRange → List (List Slave) → ℕ → ℕ → ℕ → LeafState
state_of ranges slaves width n m = XbarState (record { ranges = ranges; slaves = slaves; width = width }) (record { outs = replicate n open_gate; ins = replicate m open_gate })

state_same : (plan : Plan) (ins outs counts : List ℕ) (ranges : List IdRange) (bytes e : ℕ) → 0 < length ins → counts ≡ map (λ edge. (edge_at plan edge).ids) ins → ranges ≡ assigned counts → bytes ≡ bus_width (edge_at plan e) → e ≡ get_or ins 0 0
    → open_crossbar (bar_between ranges plan outs bytes) ≡ crossbar_at_start (map (edge_at plan) ins) (map (edge_at plan) outs)
state_same plan ins outs counts ranges bytes e l c r w q =
    let E = map (edge_at plan) ins in
    let F = map (edge_at plan) outs in
    let ids : counts ≡ ids_of E = c ∙ map_map (λ (edge : PlanEdge). edge.ids) (edge_at plan) ins in
    let rs : ranges ≡ assigned (ids_of E) = r ∙ ap assigned ids in
    let ss : map (λ number. (edge_at plan number).slaves) outs ≡ map (λ (edge : PlanEdge). edge.slaves) F = map_map (λ (edge : PlanEdge). edge.slaves) (edge_at plan) outs in
    let wd : bytes ≡ bus_width (first_edge E) = w ∙ ap bus_width (width_first plan ins e l q) in
    let n : length (map (λ (edge : PlanEdge). edge.slaves) F) ≡ length F = length-map F (λ (edge : PlanEdge). edge.slaves) in
    let m : length (assigned (ids_of E)) ≡ length E = assigned_long (ids_of E) ∙ length-map E (λ (edge : PlanEdge). edge.ids) in
    ap (λ (x : List IdRange). open_crossbar (bar_between x plan outs bytes)) rs
    ∙ ap (λ (x : List (List Slave)). open_crossbar (record { ranges = assigned (ids_of E); slaves = x; width = bytes })) ss
    ∙ ap (λ (x : ℕ). open_crossbar (record { ranges = assigned (ids_of E); slaves = map (λ (edge : PlanEdge). edge.slaves) F; width = x })) wd
    ∙ ap (λ (x : ℕ). state_of (assigned (ids_of E)) (map (λ (edge : PlanEdge). edge.slaves) F) (bus_width (first_edge E)) x (length (assigned (ids_of E)))) n
    ∙ ap (λ (x : ℕ). state_of (assigned (ids_of E)) (map (λ (edge : PlanEdge). edge.slaves) F) (bus_width (first_edge E)) (length F) x) m

-- ---- narrower states are reached by the same way

module _ {S X G Y H : Type 0} (b : Built) (m : Machine S X G) (fits narrow : S → X → Type 0) (seen : X → Y) (told : G → H) (sees : (ℕ → ℕ) → Y) (shows : (ℕ → ℕ) → H) (k : (s : S) (x : X) → narrow s x → fits s x) where
  reached_wide : (v : ℕ → ℕ) (s : S) → Reached b m narrow seen sees v s → Reached b m fits seen sees v s
  reached_wide v s (begins _ a) = begins v a
  reached_wide v s (goes u _ t x r q z n e f) = goes u v t x (reached_wide u t r) q z n e (k t x f)

  pub machine_narrow : IsMachine b m fits seen told sees shows → IsMachine b m narrow seen told sees shows
  machine_narrow h = record { does = λ v s x r q z e f. h.does v s x (reached_wide v s r) q z e (k s x f) }

-- ---- what fits

module _ (b : Built) (plan : Plan) (in_edges out_edges counts : List ℕ) (ranges : List IdRange) (round : Bool) (bytes : ℕ) (ins outs : List EdgeWires)
    (policy : policy_if round ≡ plan.policy) (counts_are : counts ≡ map (λ edge. (edge_at plan edge).ids) in_edges) (room : AllZip HasRoom counts ranges)
    (in_wires : AreEdges b plan in_edges ins) (out_wires : AreEdges b plan out_edges outs) where
  ids_fit : (k n : ℕ) → n < (get_or (map (edge_at plan) in_edges) k no_edge).ids → n < (get_or ranges k no_ids).end - (get_or ranges k no_ids).start
  ids_fit k n m =
      elim (cases_lt k (length in_edges)) [
        | inl l ↦
            let e = get_or-map (edge_at plan) in_edges k 0 no_edge l in
            let c : get_or counts k 0 ≡ (edge_at plan (get_or in_edges k 0)).ids = ap (λ (xs : List ℕ). get_or xs k 0) counts_are ∙ get_or-map (λ edge. (edge_at plan edge).ids) in_edges k 0 0 l in
            let z : k < length ranges = omega (arith, l, ap length counts_are, length-map in_edges (λ edge. (edge_at plan edge).ids), zip_long HasRoom counts ranges room) in
            let r : get_or counts k 0 ≤ (get_or ranges k no_ids).end - (get_or ranges k no_ids).start = zip_at HasRoom counts ranges k 0 no_ids room z in
            let s : n < (edge_at plan (get_or in_edges k 0)).ids = subst (λ (x : PlanEdge). n < x.ids) e m in
            omega (arith, r, c, s)
        | inr g ↦
            let e = get_or_past (map (edge_at plan) in_edges) k no_edge (omega (arith, g, length-map in_edges (edge_at plan))) in
            let s : n < 0 = subst (λ (x : PlanEdge). n < x.ids) e m in
            absurd (omega (arith, s))
      ]

  widths_down : (t : ℕ) → t < length outs → a_widths (get_or (map (edge_at plan) out_edges) t no_edge).bundle ≡ row_widths (get_or (map (head_at A) outs) t [])
  widths_down t l = at outs out_wires l
    where
      at : (ws : List EdgeWires) → AreEdges b plan out_edges ws → t < length ws → a_widths (get_or (map (edge_at plan) out_edges) t no_edge).bundle ≡ row_widths (get_or (map (head_at A) ws) t [])
      at [] h l = absurd (omega (arith, l))
      at (x ∷ xs) h l =
          ap (λ (e : PlanEdge). a_widths e.bundle) (get_or-map (edge_at plan) out_edges t 0 no_edge (omega (arith, l, h.long)))
          ∙ sym (h.each t 0 x l).a_widths
          ∙ ap row_widths (sym (get_or-map (head_at A) (x ∷ xs) t x [] l))

  widths_up : (t : ℕ) → t < length ins → d_widths (get_or (map (edge_at plan) in_edges) t no_edge).bundle ≡ row_widths (get_or (map (head_at D) ins) t [])
  widths_up t l = at ins in_wires l
    where
      at : (ws : List EdgeWires) → AreEdges b plan in_edges ws → t < length ws → d_widths (get_or (map (edge_at plan) in_edges) t no_edge).bundle ≡ row_widths (get_or (map (head_at D) ws) t [])
      at [] h l = absurd (omega (arith, l))
      at (x ∷ xs) h l =
          ap (λ (e : PlanEdge). d_widths e.bundle) (get_or-map (edge_at plan) in_edges t 0 no_edge (omega (arith, l, h.long)))
          ∙ sym (h.each t 0 x l).d_widths
          ∙ ap row_widths (sym (get_or-map (head_at D) (x ∷ xs) t x [] l))

  does_at : (p q : Policy) (idle : LeafState) (s : LeafState) (x : LeafView) → p ≡ q → (crossing p idle).does s x ≡ (crossing q idle).does s x
  does_at p q idle s x e = ap (λ (r : Policy). (crossing r idle).does s x) e

  pub fits_wide : (s : LeafState) (x : LeafView) → FitsPlanCrossbar plan in_edges out_edges s x → FitsCrossbar round (bar_between ranges plan out_edges bytes) ins outs s x
  fits_wide s x f = record {
    requests = f.requests;
    ids = λ k beat e. ids_fit k beat.source (f.ids k beat e);
    responses = f.responses;
    put_a = λ t beat l e. subst (FitWires (a_fields beat)) (widths_down t l) (f.puts.requests t beat (ap (λ (d : LeafDone). get_or d.put_a t None) (sym (does_at (policy_if round) plan.policy (open_crossbar (bar_between ranges plan out_edges bytes)) s x policy)) ∙ e));
    put_d = λ t beat l e. subst (FitWires (d_fields beat)) (widths_up t l) (f.puts.responses t beat (ap (λ (d : LeafDone). get_or d.put_d t None) (sym (does_at (policy_if round) plan.policy (open_crossbar (bar_between ranges plan out_edges bytes)) s x policy)) ∙ e));
  }

  pub leaf_of_plan : (new : Built) (w : LeafWires) (rs : List IdRange) (e : ℕ) → rs ≡ ranges → 0 < length in_edges → ranges ≡ assigned counts → bytes ≡ bus_width (edge_at plan e) → e ≡ get_or in_edges 0 0
      → IsLeaf new ins outs w (crossbar_machine round (bar_between rs plan out_edges bytes)) (FitsCrossbar round (bar_between rs plan out_edges bytes) ins outs)
      → IsLeaf new ins outs w (plan_crossbar plan in_edges out_edges) (FitsPlanCrossbar plan in_edges out_edges)
  leaf_of_plan new w rs e rq some r wd q h =
      subst (λ (p : Policy). IsLeaf new ins outs w (crossing p (crossbar_at_start (map (edge_at plan) in_edges) (map (edge_at plan) out_edges))) (FitsPlanCrossbar plan in_edges out_edges)) policy
      (subst (λ (s : LeafState). IsLeaf new ins outs w (crossing (policy_if round) s) (FitsPlanCrossbar plan in_edges out_edges)) (state_same plan in_edges out_edges counts ranges bytes e some counts_are r wd q)
      (machine_narrow new (crossbar_machine round (bar_between ranges plan out_edges bytes)) (FitsCrossbar round (bar_between ranges plan out_edges bytes) ins outs) (FitsPlanCrossbar plan in_edges out_edges) _ _ _ _ fits_wide
      (subst (λ (x : List IdRange). IsLeaf new ins outs w (crossbar_machine round (bar_between x plan out_edges bytes)) (FitsCrossbar round (bar_between x plan out_edges bytes) ins outs)) rq h)))
