-- What a sound plan says of a width adapter, and its wires as those of a leaf.
use Rattle.std.proofs.Common.{◌≡◌, ℕ, zero, suc, ◌-◌, ◌*◌, ◌<◌, ◌≤◌, ◌^◌, false, true, List, [], ◌∷◌, length, map, get_or, Option, Some, None, refl, sym, ap, ◌∙◌, subst, arith}
use Rattle.std.specs.Prelude.{All, IsTrue, slice_get}
use Rattle.std.specs.Option.{option_map, option_map_or, unwrap_or}
use Rattle.std.proofs.lemmas.List.{get_or-map}
use Rattle.std.proofs.lemmas.Option.{slice_get-map}
use Rattle.tl_params.specs.declared.ops.Template.{Template}
use Rattle.tl_params.specs.declared.ops.Template.TheVariants.{Width}
use Rattle.tl_params.specs.Arguments.{is_width}
use Rattle.tl_edge.specs.declared.bundle.Bundle.{Bundle}
use Rattle.tl_edge.specs.declared.plan.Leaf.{Leaf}
use Rattle.tl_edge.specs.declared.plan.Plan.{Plan}
use Rattle.tl_edge.specs.declared.plan.PlanEdge.{PlanEdge}
use Rattle.tl_edge.specs.Bundles.{bits_for}
use Rattle.tl_edge.specs.Plans.{bus_width, edge_at, ins_of, no_edge, outs_of}
use Rattle.tl_edge.specs.SoundPlans.{Carries, HasShape, IsSound, IsSoundEdge, MovesIds}
use Rattle.tl_edge.specs.Wires.{FitWires, a_fields, a_widths, d_fields, d_widths}
use Rattle.tl_edge.proofs.Ways.{item_has}
use Rattle.tl_edge.proofs.Widths.{bits_are_least}
use Rattle.flow_core.specs.Leaves.{LeafState, first_edge, idle_state, widget_at_start}
use Rattle.flow_core.specs.Leaves.LeafState.{BufferState}
use Rattle.flow_core.specs.Network.{held_at_start}
use Rattle.flow_core.specs.Tags.{Held}
use Rattle.net_build.specs.declared.types.Wire.{Wire}
use Rattle.net_build.specs.Bits.{AreBits}
use Rattle.net_build.specs.Built.{Built, IsBit}
use Rattle.net_queue.specs.declared.types.EdgeWires.{EdgeWires}
use Rattle.net_queue.specs.declared.types.LeafWires.{LeafWires}
use Rattle.net_queue.specs.declared.types.Put.{Put}
use Rattle.net_queue.specs.declared.types.Queue.{Queue}
use Rattle.net_queue.specs.Leaves.{AreWiresOf, IsEdge, IsOfTemplate, IsPutInto, LeafView, ins_at, outs_at}
use Rattle.net_queue.specs.Machines.{IsMachine, Machine, Reached}
use Rattle.net_queue.specs.Machines.Reached.{begins, goes}
use Rattle.net_queue.specs.Rows.{row_widths}
use Rattle.net_queue.proofs.Alike.{width_at}
use Rattle.net_buffer.proofs.Edges.{long_of}
use Rattle.net_widget.specs.Widgets.{WidgetFits}
use Rattle.net_width.specs.declared.types.Ends.{Ends}
use Rattle.net_width.specs.Between.{AreWidgetEnds, AreWidgetQueues, FitsBetween, wires_of}
use Rattle.net_width.specs.PlanWidths.{PlanWidgetLaw, plan_widget}

-- ---- its edges

-- the in edge and the out edge of a leaf
abbrev pub in_edge : Plan → ℕ → PlanEdge
in_edge plan leaf = first_edge (map (edge_at plan) (ins_at plan leaf))

abbrev pub on_edge : Plan → ℕ → PlanEdge
on_edge plan leaf = first_edge (map (edge_at plan) (outs_at plan leaf))

-- an adapter of a plan has one in edge and one out edge, with the same ids
pub record IsPlannedWidget (plan : Plan) (leaf : ℕ) : Type 0 where
  pub one_in : length (ins_at plan leaf) ≡ 1
  pub one_out : length (outs_at plan leaf) ≡ 1
  pub above_is : in_edge plan leaf ≡ edge_at plan (get_or (ins_at plan leaf) 0 0)
  pub below_is : on_edge plan leaf ≡ edge_at plan (get_or (outs_at plan leaf) 0 0)
  pub above : IsSoundEdge (edge_at plan (get_or (ins_at plan leaf) 0 0))
  pub below : IsSoundEdge (edge_at plan (get_or (outs_at plan leaf) 0 0))
  pub ids : (edge_at plan (get_or (outs_at plan leaf) 0 0)).ids ≡ (edge_at plan (get_or (ins_at plan leaf) 0 0)).ids

sound_edge : (plan : Plan) (m : ℕ) → All IsSoundEdge plan.edges → IsTrue (is_width (bus_width (edge_at plan m))) → IsSoundEdge (edge_at plan m)
sound_edge plan m sound = at (slice_get plan.edges m) refl
  where
    at : (o : Option PlanEdge) → slice_get plan.edges m ≡ o → IsTrue (is_width (bus_width (unwrap_or o no_edge))) → IsSoundEdge (unwrap_or o no_edge)
    at None e h = absurd (let x : false ≡ true = h in cc)
    at (Some edge) e h = item_has IsSoundEdge plan.edges m edge sound e

planned_at : (plan : Plan) (leaf : ℕ) (at : Leaf) (ins outs : List ℕ) → slice_get plan.leaves leaf ≡ Some at → at.ins ≡ ins → at.outs ≡ outs → All IsSoundEdge plan.edges
    → HasShape Width ins outs → Carries Width at.args (map (edge_at plan) ins) (map (edge_at plan) outs) → MovesIds Width at.args (map (edge_at plan) ins) (map (edge_at plan) outs) → IsPlannedWidget plan leaf
planned_at plan leaf at [] outs is ei eo sound s c m = absurd (omega (arith, s.0))
planned_at plan leaf at (n ∷ k ∷ ins) outs is ei eo sound s c m = absurd (omega (arith, s.0))
planned_at plan leaf at (n ∷ []) [] is ei eo sound s c m = absurd (omega (arith, s.1))
planned_at plan leaf at (n ∷ []) (j ∷ k ∷ outs) is ei eo sound s c m = absurd (omega (arith, s.1))
planned_at plan leaf at (n ∷ []) (k ∷ []) is ei eo sound s c m =
    let i : ins_at plan leaf ≡ n ∷ [] = ap (λ (o : Option Leaf). option_map_or (λ (x : Leaf). x.ins) o []) is ∙ ei in
    let u : outs_at plan leaf ≡ k ∷ [] = ap (λ (o : Option Leaf). option_map_or (λ (x : Leaf). x.outs) o []) is ∙ eo in
    let up : get_or (ins_at plan leaf) 0 0 ≡ n = ap (λ (xs : List ℕ). get_or xs 0 0) i in
    let on : get_or (outs_at plan leaf) 0 0 ≡ k = ap (λ (xs : List ℕ). get_or xs 0 0) u in
    let first : IsTrue (is_width (bus_width (edge_at plan n))) = c.widths 0 no_edge (omega arith) in
    let second : IsTrue (is_width (bus_width (edge_at plan k))) = c.widths 1 no_edge (omega arith) in
    let ids : (edge_at plan k).ids ≡ (edge_at plan n).ids = m 0 0 (omega arith) 0 0 (omega arith) in
    record {
      one_in = ap length i;
      one_out = ap length u;
      above_is = ap (λ (xs : List ℕ). first_edge (map (edge_at plan) xs)) i ∙ ap (edge_at plan) (sym up);
      below_is = ap (λ (xs : List ℕ). first_edge (map (edge_at plan) xs)) u ∙ ap (edge_at plan) (sym on);
      above = subst (λ e. IsSoundEdge (edge_at plan e)) (sym up) (sound_edge plan n sound first);
      below = subst (λ e. IsSoundEdge (edge_at plan e)) (sym on) (sound_edge plan k sound second);
      ids = ap (λ e. (edge_at plan e).ids) on ∙ ids ∙ ap (λ e. (edge_at plan e).ids) (sym up);
    }

pub planned : (plan : Plan) (leaf : ℕ) → IsSound plan → IsOfTemplate plan leaf Width → IsPlannedWidget plan leaf
planned plan leaf sound h =
    let at = h.at in
    let c = item_has (λ (x : Leaf). Carries x.template x.args (ins_of plan x) (outs_of plan x)) plan.leaves leaf at sound.carries h.is in
    let m = item_has (λ (x : Leaf). MovesIds x.template x.args (ins_of plan x) (outs_of plan x)) plan.leaves leaf at sound.ids h.is in
    let s = item_has (λ (x : Leaf). HasShape x.template x.ins x.outs) plan.leaves leaf at sound.shaped h.is in
    planned_at plan leaf at at.ins at.outs h.is refl refl sound.edges
    (subst (λ (t : Template). HasShape t at.ins at.outs) h.kind s)
    (subst (λ (t : Template). Carries t at.args (ins_of plan at) (outs_of plan at)) h.kind c)
    (subst (λ (t : Template). MovesIds t at.args (ins_of plan at) (outs_of plan at)) h.kind m)

-- it begins as the network has it
pub begins_so : PlanWidgetLaw
begins_so plan leaf h =
    let at = h.at in
    sym
    (ap (λ (o : Option Held). option_map_or (λ (held : Held). held.leaf) o BufferState) (slice_get-map (held_at_start plan) plan.leaves leaf ∙ ap (option_map (held_at_start plan)) h.is)
    ∙ ap (λ (t : Template). idle_state t at.args (ins_of plan at) (outs_of plan at)) h.kind
    ∙ sym (ap (λ (o : Option Leaf). widget_at_start (first_edge (map (edge_at plan) (option_map_or (λ (x : Leaf). x.ins) o []))) (first_edge (map (edge_at plan) (option_map_or (λ (x : Leaf). x.outs) o [])))) h.is))

-- ---- the queues of its edges

-- the ids of an edge fit its wires
ids_fit : (edge : PlanEdge) (count : ℕ) → IsSoundEdge edge → count ≡ edge.ids → count ≤ 2 ^ edge.bundle.source_bits
ids_fit edge count sound e =
    let q : edge.bundle.source_bits ≡ bits_for (edge.ids - 1) = ap (λ (x : Bundle). x.source_bits) sound.bundle in
    let l : edge.ids - 1 < 2 ^ bits_for (edge.ids - 1) = (bits_are_least (edge.ids - 1)).holds in
    let m : edge.ids - 1 < 2 ^ edge.bundle.source_bits = subst (λ n. edge.ids - 1 < 2 ^ n) (sym q) l in
    omega (arith, m, e, sound.some_ids)

-- the width of a wire of a head
field_wide : (q : Queue) (ns : List ℕ) (k : ℕ) (d : Wire) → row_widths q.head ≡ ns → k < length ns → (get_or q.head k d).width ≡ get_or ns k 0
field_wide q ns k d e l =
    let n = long_of q.head ns e in
    width_at q.head k d (omega (arith, n, l)) ∙ ap (λ (xs : List ℕ). get_or xs k 0) e

pub widget_queues : (b : Built) (plan : Plan) (leaf count from to : ℕ) (above below : EdgeWires) → IsPlannedWidget plan leaf
    → count ≡ (in_edge plan leaf).ids → from ≡ bus_width (in_edge plan leaf) → to ≡ bus_width (on_edge plan leaf)
    → IsEdge b (edge_at plan (get_or (ins_at plan leaf) 0 0)) above → IsEdge b (edge_at plan (get_or (outs_at plan leaf) 0 0)) below
    → AreWidgetQueues b count from to above below
widget_queues b plan leaf count from to above below p n f t i u =
    let ein = edge_at plan (get_or (ins_at plan leaf) 0 0) in
    let out = edge_at plan (get_or (outs_at plan leaf) 0 0) in
    let ids : count ≡ ein.ids = n ∙ ap (λ (e : PlanEdge). e.ids) p.above_is in
    let up : from ≡ bus_width ein = f ∙ ap bus_width p.above_is in
    let on : to ≡ bus_width out = t ∙ ap bus_width p.below_is in
    record {
      queues = record {
        above_a = i.a;
        above_d = i.d;
        below_a = u.a;
        below_d = u.d;
        above_a_long = long_of above.a.head (a_widths ein.bundle) i.a_widths;
        above_d_long = long_of above.d.head (d_widths ein.bundle) i.d_widths;
        below_a_long = long_of below.a.head (a_widths out.bundle) u.a_widths;
        below_d_long = long_of below.d.head (d_widths out.bundle) u.d_widths;
      };
      from_bus = subst (λ x. IsTrue (is_width x)) (sym up) p.above.width;
      to_bus = subst (λ x. IsTrue (is_width x)) (sym on) p.below.width;
      op_down = λ d. field_wide above.a (a_widths ein.bundle) 0 d i.a_widths (omega arith);
      op_up = λ d. field_wide below.d (d_widths out.bundle) 0 d u.d_widths (omega arith);
      mask = λ d. field_wide above.a (a_widths ein.bundle) 5 d i.a_widths (omega arith) ∙ sym up;
      payload = λ d. field_wide above.a (a_widths ein.bundle) 6 d i.a_widths (omega arith) ∙ ap (λ x. 8 * x) (sym up);
      reply = λ d. field_wide below.d (d_widths out.bundle) 4 d u.d_widths (omega arith) ∙ ap (λ x. 8 * x) (sym on);
      few_down = λ d. subst (λ x. count ≤ 2 ^ x) (sym (field_wide above.a (a_widths ein.bundle) 3 d i.a_widths (omega arith))) (ids_fit ein count p.above ids);
      few_up = λ d. subst (λ x. count ≤ 2 ^ x) (sym (field_wide below.d (d_widths out.bundle) 2 d u.d_widths (omega arith))) (ids_fit out count p.below (ids ∙ sym p.ids));
    }

-- ---- its wires

bits_one : (b : Built) (w : Wire) → IsBit b w → AreBits b (w ∷ [])
bits_one b w h = record { each = λ k d l. at k d l }
  where
    at : (k : ℕ) (d : Wire) → k < length (w ∷ []) → IsBit b (get_or (w ∷ []) k d)
    at zero d l = h
    at (suc k) d l = absurd (omega (arith, l))

pub ends_wires : (b : Built) (above below : EdgeWires) (e : Ends) → AreWidgetEnds b above below e → AreWiresOf b (above ∷ []) (below ∷ []) (wires_of e)
ends_wires b above below e h = record {
  take_a_long = refl;
  put_d_long = refl;
  take_d_long = refl;
  put_a_long = refl;
  take_a = bits_one b e.take_a h.take_down;
  take_d = bits_one b e.take_d h.take_up;
  put_d = λ k x p l. at_d k x p l;
  put_a = λ k x p l. at_a k x p l;
}
  where
    at_d : (k : ℕ) (x : EdgeWires) (p : Put) → k < length (above ∷ []) → IsPutInto b (get_or (above ∷ []) k x).d (get_or (e.put_d ∷ []) k p)
    at_d zero x p l = h.up
    at_d (suc k) x p l = absurd (omega (arith, l))

    at_a : (k : ℕ) (x : EdgeWires) (p : Put) → k < length (below ∷ []) → IsPutInto b (get_or (below ∷ []) k x).a (get_or (e.put_a ∷ []) k p)
    at_a zero x p l = h.down
    at_a (suc k) x p l = absurd (omega (arith, l))

-- what is said of the only edges and the wires between them is said of these lists
pub of_lists : (P : List EdgeWires → List EdgeWires → LeafWires → Type 0) (ins outs : List EdgeWires) (above below : EdgeWires) (w : LeafWires) (e : Ends) → ins ≡ above ∷ [] → outs ≡ below ∷ [] → w ≡ wires_of e
    → P (above ∷ []) (below ∷ []) (wires_of e) → P ins outs w
of_lists P ins outs above below w e i o s h =
    subst (λ (x : List EdgeWires). P x outs w) (sym i)
    (subst (λ (x : List EdgeWires). P (above ∷ []) x w) (sym o)
    (subst (λ (x : LeafWires). P (above ∷ []) (below ∷ []) x) (sym s) h))

-- ---- what fits

-- wires that are a machine wherever something holds are it where more does
module _ {S X D Y E : Type 0} (b : Built) (m : Machine S X D) (narrow wide : S → X → Type 0) (seen : X → Y) (told : D → E) (sees : (ℕ → ℕ) → Y) (shows : (ℕ → ℕ) → E) (more : (s : S) (x : X) → narrow s x → wide s x) where
  reached_more : (v : ℕ → ℕ) (s : S) → Reached b m narrow seen sees v s → Reached b m wide seen sees v s
  reached_more v s (begins _ a) = begins v a
  reached_more v s (goes u _ t x r q k z e g) = goes u v t x (reached_more u t r) q k z e (more t x g)

  pub machine_more : IsMachine b m wide seen told sees shows → IsMachine b m narrow seen told sees shows
  machine_more h = record { does = λ v s x r q z e g. h.does v s x (reached_more v s r) q z e (more s x g) }

edge_first : (plan : Plan) (edges : List ℕ) → length edges ≡ 1 → get_or (map (edge_at plan) edges) 0 no_edge ≡ edge_at plan (get_or edges 0 0)
edge_first plan edges l = get_or-map (edge_at plan) edges 0 0 no_edge (omega (arith, l))

pub fits_between : (b c : Built) (plan : Plan) (leaf : ℕ) (above below : EdgeWires) → IsPlannedWidget plan leaf
    → IsEdge b (edge_at plan (get_or (ins_at plan leaf) 0 0)) above → IsEdge c (edge_at plan (get_or (outs_at plan leaf) 0 0)) below
    → (s : LeafState) (x : LeafView) → WidgetFits plan leaf (plan_widget plan leaf) s x → FitsBetween (in_edge plan leaf) (on_edge plan leaf) above below s x
fits_between b c plan leaf above below p ha hb s x f = (
  f.0,
  record {
    down = λ beat e. subst (λ (ns : List ℕ). FitWires (a_fields beat) ns) (ap (λ (edge : PlanEdge). a_widths edge.bundle) (edge_first plan (outs_at plan leaf) p.one_out) ∙ sym hb.a_widths) (f.1.requests 0 beat e);
    up = λ beat e. subst (λ (ns : List ℕ). FitWires (d_fields beat) ns) (ap (λ (edge : PlanEdge). d_widths edge.bundle) (edge_first plan (ins_at plan leaf) p.one_in) ∙ sym ha.d_widths) (f.1.responses 0 beat e);
  },
)
