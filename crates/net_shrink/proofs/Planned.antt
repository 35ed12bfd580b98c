-- What a sound plan says of a shrinker.
use Rattle.std.proofs.Common.{◌≡◌, ℕ, ◌-◌, ◌<◌, ◌≤◌, ◌^◌, Bool, true, false, ◌&&◌, cond, List, [], ◌∷◌, length, map, get_or, Option, Some, None, replicate, refl, sym, ap, ◌∙◌, subst, arith}
use Rattle.std.specs.Prelude.{All, IsTrue, nat_le, slice_get}
use Rattle.std.specs.Option.{option_map, option_map_or, unwrap_or}
use Rattle.std.proofs.lemmas.Bool.Decides.{nat_tests}
use Rattle.std.proofs.lemmas.List.{get_or-map}
use Rattle.std.proofs.lemmas.Option.{slice_get-map}
use Rattle.tl_params.specs.declared.ops.Template.{Template}
use Rattle.tl_params.specs.declared.ops.Template.TheVariants.{Shrinker}
use Rattle.tl_params.specs.Arguments.{is_width, shrink_argument}
use Rattle.tl_edge.specs.declared.bundle.Bundle.{Bundle}
use Rattle.tl_edge.specs.declared.plan.Leaf.{Leaf}
use Rattle.tl_edge.specs.declared.plan.Plan.{Plan}
use Rattle.tl_edge.specs.declared.plan.PlanEdge.{PlanEdge}
use Rattle.tl_edge.specs.Bundles.{bits_for}
use Rattle.tl_edge.specs.Plans.{bus_width, edge_at, ins_of, no_edge, outs_of}
use Rattle.tl_edge.specs.SoundPlans.{Carries, HasShape, IsSound, IsSoundEdge, MovesIds}
use Rattle.tl_edge.specs.Wires.{FitWires, a_fields, a_widths, d_fields, d_widths}
use Rattle.tl_edge.proofs.Ways.{item_has}
use Rattle.tl_edge.proofs.Widths.{bits_are_least}
use Rattle.flow_core.specs.Leaves.{LeafState, first_edge, idle_state}
use Rattle.flow_core.specs.Leaves.LeafState.{BufferState, ShrinkerState}
use Rattle.flow_core.specs.Network.{held_at_start, network_at_start}
use Rattle.flow_core.specs.Tags.{Held}
use Rattle.flow_core.specs.Turns.{leaf_state}
use Rattle.net_build.specs.Built.{Built}
use Rattle.net_queue.specs.declared.types.EdgeWires.{EdgeWires}
use Rattle.net_queue.specs.declared.types.Queue.{Queue}
use Rattle.net_queue.specs.Leaves.{IsEdge, IsOfTemplate, LeafView, ins_at, outs_at}
use Rattle.net_queue.specs.Queues.{IsOpen}
use Rattle.net_queue.specs.Rows.{row_widths}
use Rattle.net_queue.proofs.Alike.{width_at}
use Rattle.net_buffer.proofs.Edges.{long_of}
use Rattle.net_shrink.specs.Between.{IsHeadRow, MayShrink}
use Rattle.net_shrink.specs.Shrinkers.{FitsShrinker, new_id_count, shrinker_bus}
use Rattle.net_shrink.proofs.Standing.{PutsFitRows}

-- ---- its argument is some

both_true : (a b : Bool) → (a && b) ≡ true → a ≡ true
both_true true b h = refl
both_true false b h = absurd (let x : false ≡ true = h in cc)

cond_is : (b : Bool) (n k : ℕ) → cond b (Some n) None ≡ Some k → (b ≡ true) × (n ≡ k)
cond_is true n k h = (refl, cc)
cond_is false n k h = absurd (let x : None ≡ Some k = h in cc)

at_least : (n : ℕ) → nat_le 1 n ≡ true → 1 ≤ n
at_least n h = grind (arith, nat_tests)

some_ids : (args : List ℕ) (ids : ℕ) → shrink_argument args ≡ Some ids → 1 ≤ ids
some_ids [] ids h = absurd (let x : None ≡ Some ids = h in cc)
some_ids (n ∷ []) ids h =
    let c = cond_is (nat_le 1 n && nat_le n 64) n ids h in
    subst (λ k. 1 ≤ k) c.1 (at_least n (both_true (nat_le 1 n) (nat_le n 64) c.0))
some_ids (n ∷ m ∷ args) ids h = absurd (let x : None ≡ Some ids = h in cc)

sound_edge : (plan : Plan) (m : ℕ) → All IsSoundEdge plan.edges → 1 ≤ (edge_at plan m).ids → IsSoundEdge (edge_at plan m)
sound_edge plan m sound = at (slice_get plan.edges m) refl
  where
    at : (o : Option PlanEdge) → slice_get plan.edges m ≡ o → 1 ≤ (unwrap_or o no_edge).ids → IsSoundEdge (unwrap_or o no_edge)
    at None e h = absurd (omega (arith, h))
    at (Some edge) e h = item_has IsSoundEdge plan.edges m edge sound e

-- ---- the leaf

-- a shrinker of a plan has one in edge and one out edge, of one bus, and as many new ids as that has
pub record IsPlanned (plan : Plan) (leaf : ℕ) : Type 0 where
  pub one_in : length (ins_at plan leaf) ≡ 1
  pub one_out : length (outs_at plan leaf) ≡ 1
  pub count : new_id_count plan leaf ≡ (edge_at plan (get_or (outs_at plan leaf) 0 0)).ids
  pub bus : shrinker_bus plan leaf ≡ bus_width (edge_at plan (get_or (outs_at plan leaf) 0 0))
  pub some : 1 ≤ new_id_count plan leaf
  pub sound : IsSoundEdge (edge_at plan (get_or (outs_at plan leaf) 0 0))
  pub idle : leaf_state (network_at_start plan) leaf
      ≡ ShrinkerState (shrinker_bus plan leaf) (record { olds = replicate (new_id_count plan leaf) None; asking = None; answering = 0 })

planned_at : (plan : Plan) (leaf : ℕ) (at : Leaf) (ins outs : List ℕ) → slice_get plan.leaves leaf ≡ Some at → at.template ≡ Shrinker → at.ins ≡ ins → at.outs ≡ outs → All IsSoundEdge plan.edges
    → HasShape Shrinker ins outs → Carries Shrinker at.args (map (edge_at plan) ins) (map (edge_at plan) outs) → MovesIds Shrinker at.args (map (edge_at plan) ins) (map (edge_at plan) outs) → IsPlanned plan leaf
planned_at plan leaf at [] outs is kind ei eo sound s c m = absurd (omega (arith, s.0))
planned_at plan leaf at (n ∷ k ∷ ins) outs is kind ei eo sound s c m = absurd (omega (arith, s.0))
planned_at plan leaf at (n ∷ []) [] is kind ei eo sound s c m = absurd (omega (arith, s.1))
planned_at plan leaf at (n ∷ []) (j ∷ k ∷ outs) is kind ei eo sound s c m = absurd (omega (arith, s.1))
planned_at plan leaf at (n ∷ []) (k ∷ []) is kind ei eo sound s c m =
    let i : ins_at plan leaf ≡ n ∷ [] = ap (λ (o : Option Leaf). option_map_or (λ (x : Leaf). x.ins) o []) is ∙ ei in
    let u : outs_at plan leaf ≡ k ∷ [] = ap (λ (o : Option Leaf). option_map_or (λ (x : Leaf). x.outs) o []) is ∙ eo in
    let here : get_or (outs_at plan leaf) 0 0 ≡ k = ap (λ (xs : List ℕ). get_or xs 0 0) u in
    let ids : shrink_argument at.args ≡ Some (edge_at plan k).ids = m 0 0 (omega arith) in
    let more : 1 ≤ (edge_at plan k).ids = some_ids at.args (edge_at plan k).ids ids in
    let count : new_id_count plan leaf ≡ (edge_at plan k).ids =
    ap (λ (o : Option Leaf). option_map_or (λ (x : Leaf). unwrap_or (shrink_argument x.args) 0) o 0) is ∙ ap (λ (o : Option ℕ). unwrap_or o 0) ids in
    let bus : shrinker_bus plan leaf ≡ bus_width (edge_at plan k) = ap (λ (xs : List ℕ). bus_width (first_edge (map (edge_at plan) xs))) i ∙ c.widths 0 1 no_edge (omega arith) (omega arith) in
    record {
      one_in = ap length i;
      one_out = ap length u;
      count = count ∙ ap (λ e. (edge_at plan e).ids) (sym here);
      bus = bus ∙ ap (λ e. bus_width (edge_at plan e)) (sym here);
      some = subst (λ x. 1 ≤ x) (sym count) more;
      sound = subst (λ e. IsSoundEdge (edge_at plan e)) (sym here) (sound_edge plan k sound more);
      idle =
          ap (λ (o : Option Held). option_map_or (λ (held : Held). held.leaf) o BufferState) (slice_get-map (held_at_start plan) plan.leaves leaf ∙ ap (option_map (held_at_start plan)) is)
          ∙ ap (λ (t : Template). idle_state t at.args (ins_of plan at) (outs_of plan at)) kind
          ∙ sym (ap (λ (o : Option Leaf). ShrinkerState (bus_width (first_edge (map (edge_at plan) (option_map_or (λ (x : Leaf). x.ins) o []))))
          (record { olds = replicate (option_map_or (λ (x : Leaf). unwrap_or (shrink_argument x.args) 0) o 0) None; asking = None; answering = 0 })) is);
    }

pub planned : (plan : Plan) (leaf : ℕ) → IsSound plan → IsOfTemplate plan leaf Shrinker → IsPlanned plan leaf
planned plan leaf sound h =
    let at = h.at in
    let c = item_has (λ (x : Leaf). Carries x.template x.args (ins_of plan x) (outs_of plan x)) plan.leaves leaf at sound.carries h.is in
    let m = item_has (λ (x : Leaf). MovesIds x.template x.args (ins_of plan x) (outs_of plan x)) plan.leaves leaf at sound.ids h.is in
    let s = item_has (λ (x : Leaf). HasShape x.template x.ins x.outs) plan.leaves leaf at sound.shaped h.is in
    planned_at plan leaf at at.ins at.outs h.is h.kind refl refl sound.edges
    (subst (λ (t : Template). HasShape t at.ins at.outs) h.kind s)
    (subst (λ (t : Template). Carries t at.args (ins_of plan at) (outs_of plan at)) h.kind c)
    (subst (λ (t : Template). MovesIds t at.args (ins_of plan at) (outs_of plan at)) h.kind m)

-- ---- the queues of its edges

head_a : (b : Built) (q : Queue) (bundle : Bundle) → IsOpen b q → row_widths q.head ≡ a_widths bundle → IsHeadRow b 7 q.head
head_a b q bundle o e = record {
  long = long_of q.head (a_widths bundle) e;
  wires = λ k d l. (o.alike.one.each k d l).0;
  op = λ d. width_at q.head 0 d (omega (arith, long_of q.head (a_widths bundle) e)) ∙ ap (λ (xs : List ℕ). get_or xs 0 0) e;
}

head_d : (b : Built) (q : Queue) (bundle : Bundle) → IsOpen b q → row_widths q.head ≡ d_widths bundle → IsHeadRow b 5 q.head
head_d b q bundle o e = record {
  long = long_of q.head (d_widths bundle) e;
  wires = λ k d l. (o.alike.one.each k d l).0;
  op = λ d. width_at q.head 0 d (omega (arith, long_of q.head (d_widths bundle) e)) ∙ ap (λ (xs : List ℕ). get_or xs 0 0) e;
}

-- the ids of an edge fit its wires
ids_fit : (edge : PlanEdge) (count : ℕ) → IsSoundEdge edge → count ≡ edge.ids → count ≤ 2 ^ edge.bundle.source_bits
ids_fit edge count sound e =
    let q : edge.bundle.source_bits ≡ bits_for (edge.ids - 1) = ap (λ (x : Bundle). x.source_bits) sound.bundle in
    let l : edge.ids - 1 < 2 ^ bits_for (edge.ids - 1) = (bits_are_least (edge.ids - 1)).holds in
    let m : edge.ids - 1 < 2 ^ edge.bundle.source_bits = subst (λ n. edge.ids - 1 < 2 ^ n) (sym q) l in
    omega (arith, m, e, sound.some_ids)

pub may_shrink : (b : Built) (plan : Plan) (leaf count bus : ℕ) (ein : PlanEdge) (above below : EdgeWires) → IsPlanned plan leaf → count ≡ new_id_count plan leaf → bus ≡ shrinker_bus plan leaf
    → IsEdge b ein above → IsEdge b (edge_at plan (get_or (outs_at plan leaf) 0 0)) below → MayShrink b count bus above below
may_shrink b plan leaf count bus ein above below p e f i u =
    let out = edge_at plan (get_or (outs_at plan leaf) 0 0) in
    let fit = ids_fit out count p.sound (e ∙ p.count) in
    let la = long_of below.a.head (a_widths out.bundle) u.a_widths in
    let ld = long_of below.d.head (d_widths out.bundle) u.d_widths in
    record {
      some = omega (arith, e, p.some);
      wide = subst (λ n. IsTrue (is_width n)) (sym (f ∙ p.bus)) p.sound.width;
      above_a = i.a;
      above_d = i.d;
      below_a = u.a;
      below_d = u.d;
      request = head_a b above.a ein.bundle i.a i.a_widths;
      requested = head_a b below.a out.bundle u.a u.a_widths;
      response = head_d b below.d out.bundle u.d u.d_widths;
      responded = head_d b above.d ein.bundle i.d i.d_widths;
      few_down = λ d. subst (λ n. count ≤ 2 ^ n) (sym (width_at below.a.head 3 d (omega (arith, la)) ∙ ap (λ (xs : List ℕ). get_or xs 3 0) u.a_widths)) fit;
      few_up = λ d. subst (λ n. count ≤ 2 ^ n) (sym (width_at below.d.head 2 d (omega (arith, ld)) ∙ ap (λ (xs : List ℕ). get_or xs 2 0) u.d_widths)) fit;
    }

edge_first : (plan : Plan) (edges : List ℕ) → length edges ≡ 1 → get_or (map (edge_at plan) edges) 0 no_edge ≡ edge_at plan (get_or edges 0 0)
edge_first plan edges l = get_or-map (edge_at plan) edges 0 0 no_edge (omega (arith, l))

pub puts_fit : (b c : Built) (plan : Plan) (leaf : ℕ) (above below : EdgeWires) → IsPlanned plan leaf
    → IsEdge b (edge_at plan (get_or (ins_at plan leaf) 0 0)) above → IsEdge c (edge_at plan (get_or (outs_at plan leaf) 0 0)) below
    → (s : LeafState) (x : LeafView) → FitsShrinker plan leaf s x → PutsFitRows plan leaf (row_widths below.a.head) (row_widths above.d.head) s x
puts_fit b c plan leaf above below p ha hb s x f = record {
  down = λ beat e. subst (λ (ns : List ℕ). FitWires (a_fields beat) ns) (ap (λ (edge : PlanEdge). a_widths edge.bundle) (edge_first plan (outs_at plan leaf) p.one_out) ∙ sym hb.a_widths) (f.puts.requests 0 beat e);
  up = λ beat e. subst (λ (ns : List ℕ). FitWires (d_fields beat) ns) (ap (λ (edge : PlanEdge). d_widths edge.bundle) (edge_first plan (ins_at plan leaf) p.one_in) ∙ sym ha.d_widths) (f.puts.responses 0 beat e);
}
