-- How wires that are joined as a plan says stand to its network, cycle by cycle.
use Rattle.std.proofs.Common.{◌≡◌, ℕ, zero, suc, ◌<◌, ◌&&◌, Bool, true, false, cond, List, [], ◌∷◌, length, map, get_or, replicate, Option, Some, None, is_some, refl, sym, ap, ◌∙◌, subst, arith, slice_get}
use Rattle.std.specs.Prelude.{◌==◌}
use Rattle.std.specs.Option.{option_map, option_map_or}
use Rattle.std.proofs.lemmas.List.{get_or-map, length-map}
use Rattle.std.proofs.lemmas.Option.{same_Some, slice_get_within, get_or_from_slice_get, slice_get-get_or}
use Rattle.tl_edge.specs.declared.beat.ABeat.{ABeat}
use Rattle.tl_edge.specs.declared.beat.DBeat.{DBeat}
use Rattle.tl_edge.specs.declared.beat.Tag.{Tag}
use Rattle.tl_edge.specs.declared.plan.Leaf.{Leaf}
use Rattle.tl_edge.specs.declared.plan.Plan.{Plan}
use Rattle.tl_edge.specs.declared.plan.PlanEdge.{PlanEdge}
use Rattle.tl_edge.specs.declared.plan.PlanPort.{PlanPort}
use Rattle.tl_edge.specs.Plans.{edge_at, no_edge, Giver, Taker, GivesTo, TakesFrom}
use Rattle.tl_edge.specs.Plans.Giver.{Out, Source}
use Rattle.tl_edge.specs.Plans.Taker.{In, Sink}
use Rattle.tl_edge.specs.SoundPlans.{IsSound}
use Rattle.tl_edge.specs.Wires.{FitWires, a_fields, a_widths, d_fields, d_widths}
use Rattle.tl_edge.proofs.Ways.{ends_law}
use Rattle.flow_core.specs.Carried.{carries_a, carries_d}
use Rattle.flow_core.specs.Leaves.{LeafState}
use Rattle.flow_core.specs.Leaves.LeafState.{BufferState}
use Rattle.flow_core.specs.Network.{State, edge_of_port, network_at_start}
use Rattle.flow_core.specs.Queues.{queue, head_in, has_place}
use Rattle.flow_core.specs.Tags.{Held}
use Rattle.flow_core.specs.Turns.{leaf_state}
use Rattle.flow_choice.specs.declared.offers.Offers.{Offers}
use Rattle.flow_choice.specs.Choosing.{chosen_moves, flag_at, leaf_moves, state_after_cycle, state_after_moves}
use Rattle.flow_choice.specs.Valid.{IsValid}
use Rattle.net_build.specs.declared.types.Wire.{Wire}
use Rattle.net_build.specs.Bits.{highs, wire_values}
use Rattle.net_build.specs.Built.{Built}
use Rattle.net_build.specs.Columns.{no_wire}
use Rattle.net_build.specs.Values.{AtStart, Solves, Ticks, high}
use Rattle.net_queue.specs.declared.types.EdgeWires.{EdgeWires}
use Rattle.net_queue.specs.declared.types.Put.{Put}
use Rattle.net_queue.specs.declared.types.Queue.{Queue}
use Rattle.net_queue.specs.Leaves.{Done, DoneFits, LeafDone, LeafView, View, done_at, done_fields, ins_at, outs_at, put_told, view_at, view_fields}
use Rattle.net_queue.specs.Machines.{Machine, Reached}
use Rattle.net_queue.specs.Machines.Reached.{begins, goes}
use Rattle.net_queue.specs.Queues.{Holds, MayMove, Moved, moved_at, moved_on, shown_at, shown_of}
use Rattle.net_ports.specs.Implementing.{AreOffered, AreOffersAt}
use Rattle.net_cycle.specs.Ends.{let_back, let_in}
use Rattle.net_cycle.specs.Flows.{any_take, first_put, flow_down, flow_up, moved_here}
use Rattle.net_cycle.specs.Laws.{IsCycleOfParts, PartsLaw}
use Rattle.net_cycle.specs.Parts.{IsMachineAt, done_by, plain, seen_by}
use Rattle.net_parts.specs.Wired.{IsClosedEdge, IsPortEnd, IsWired, Occurs, Wiring, giver_end, no_put, taker_end, wires_of_edge, wires_of_edges, wires_of_leaf, wires_of_port}
use Rattle.net_parts.specs.Stands.{AreCycles, AreMachines, Offer, ShowAll, ShowEach, down_fields, up_fields}
use Rattle.net_parts.specs.Law.{PutsFitLaw, WiredLaw}
use Rattle.net_parts.proofs.Shown.{gate_put, gated, head_shown, mapped, maps_once, maps_twice, may_mapped, moved_mapped, plain_fields, room_shown, same_moved, some_at, valid_shown}
use Rattle.net_parts.proofs.LeafMoves.{fits_down, fits_up}

-- ---- the edges of a leaf

leaf_at : (plan : Plan) (leaf : ℕ) (at : Leaf) → slice_get plan.leaves leaf ≡ Some at → (ins_at plan leaf ≡ at.ins) × (outs_at plan leaf ≡ at.outs)
leaf_at plan leaf at e = (
  ap (λ (o : Option Leaf). option_map_or (λ (at : Leaf). at.ins) o []) e,
  ap (λ (o : Option Leaf). option_map_or (λ (at : Leaf). at.outs) o []) e,
)

got : {A : Type 0} (xs : List A) (k : ℕ) (d : A) → k < length xs → slice_get xs k ≡ Some (get_or xs k d)
got xs k d l = slice_get-get_or xs k d l

module _ (plan : Plan) (sound : IsSound plan) where
  pub in_there : (leaf place : ℕ) → leaf < length plan.leaves → place < length (ins_at plan leaf) → get_or (ins_at plan leaf) place 0 < length plan.edges
  in_there leaf place l k =
      let x = some_at plan.leaves leaf l in
      let e = (leaf_at plan leaf x.0 x.1).0 in
      ends_law.taken plan (get_or (ins_at plan leaf) place 0) (In leaf place) sound (x.0, x.1, ap (λ (ns : List ℕ). slice_get ns place) (sym e) ∙ got (ins_at plan leaf) place 0 k)

  pub out_there : (leaf place : ℕ) → leaf < length plan.leaves → place < length (outs_at plan leaf) → get_or (outs_at plan leaf) place 0 < length plan.edges
  out_there leaf place l k =
      let x = some_at plan.leaves leaf l in
      let e = (leaf_at plan leaf x.0 x.1).1 in
      ends_law.given plan (get_or (outs_at plan leaf) place 0) (Out leaf place) sound (x.0, x.1, ap (λ (ns : List ℕ). slice_get ns place) (sym e) ∙ got (outs_at plan leaf) place 0 k)

-- ---- records, field by field

same_view : {A D : Type 0} (x y : View A D) → x.heads_a ≡ y.heads_a → x.room_d ≡ y.room_d → x.heads_d ≡ y.heads_d → x.room_a ≡ y.room_a → x ≡ y
same_view {A} {D} x y a b c d =
    ap (λ (t : List (Option A)). record { heads_a = t; room_d = x.room_d; heads_d = x.heads_d; room_a = x.room_a }) a
    ∙ ap (λ (t : List Bool). record { heads_a = y.heads_a; room_d = t; heads_d = x.heads_d; room_a = x.room_a }) b
    ∙ ap (λ (t : List (Option D)). record { heads_a = y.heads_a; room_d = y.room_d; heads_d = t; room_a = x.room_a }) c
    ∙ ap (λ (t : List Bool). record { heads_a = y.heads_a; room_d = y.room_d; heads_d = y.heads_d; room_a = t }) d

-- what a leaf sees of the edges of a plan
abbrev seen_of : Plan → State → ℕ → LeafView
seen_of plan s leaf = record {
  heads_a = map (λ edge. plain (head_in (queue s.a edge))) (ins_at plan leaf);
  room_d = map (λ edge. has_place (queue s.d edge)) (ins_at plan leaf);
  heads_d = map (λ edge. plain (head_in (queue s.d edge))) (outs_at plan leaf);
  room_a = map (λ edge. has_place (queue s.a edge)) (outs_at plan leaf);
}

abbrev done_of : Plan → State → ℕ → LeafDone
done_of plan s leaf = record {
  take_a = map (λ edge. any_take edge (map (flow_down s) (leaf_moves s leaf))) (ins_at plan leaf);
  put_d = map (λ edge. plain (first_put edge (map (flow_up s) (leaf_moves s leaf)))) (ins_at plan leaf);
  take_d = map (λ edge. any_take edge (map (flow_up s) (leaf_moves s leaf))) (outs_at plan leaf);
  put_a = map (λ edge. plain (first_put edge (map (flow_down s) (leaf_moves s leaf)))) (outs_at plan leaf);
}

-- ---- a beat that is put fits

put_fits : {B : Type 0} (f : B → List ℕ) (ns : List ℕ) (put : ℕ → Option (B × Tag)) (widths : ℕ → List ℕ)
    → ((edge : ℕ) (x : B × Tag) → put edge ≡ Some x → FitWires (f x.0) (widths edge))
    → (k : ℕ) (beat : B) → get_or (map (λ edge. plain (put edge)) ns) k None ≡ Some beat → FitWires (f beat) (widths (get_or ns k 0))
put_fits {B} f [] put widths h k beat e = absurd (let x : None ≡ Some beat = e in cc)
put_fits {B} f (n ∷ ns) put widths h zero beat e = at (put n) refl e
  where
    at : (o : Option (B × Tag)) → put n ≡ o → plain o ≡ Some beat → FitWires (f beat) (widths n)
    at None p q = absurd (let x : None ≡ Some beat = q in cc)
    at (Some x) p q = subst (λ (y : B). FitWires (f y) (widths n)) (same_Some x.0 beat q) (h n x p)
put_fits f (n ∷ ns) put widths h (suc k) beat e = put_fits f ns put widths h k beat e

-- ---- what leaves put fits

module _ (plan : Plan) (s : State) (valid : IsValid plan s) where
  its_plan : s.plan ≡ plan
  its_plan = valid.shape.plan

  done_as : (leaf : ℕ) → done_by s leaf ≡ done_of plan s leaf
  done_as leaf = ap (λ (p : Plan). done_of p s leaf) its_plan

  down_fits : (leaf edge : ℕ) (x : ABeat × Tag) → first_put edge (map (flow_down s) (leaf_moves s leaf)) ≡ Some x → FitWires (a_fields x.0) (a_widths (edge_at plan edge).bundle)
  down_fits leaf edge x e = subst (λ (p : Plan). FitWires (a_fields x.0) (a_widths (edge_at p edge).bundle)) its_plan (fits_down s leaf edge x valid.puts e)

  up_fits : (leaf edge : ℕ) (x : DBeat × Tag) → first_put edge (map (flow_up s) (leaf_moves s leaf)) ≡ Some x → FitWires (d_fields x.0) (d_widths (edge_at plan edge).bundle)
  up_fits leaf edge x e = subst (λ (p : Plan). FitWires (d_fields x.0) (d_widths (edge_at p edge).bundle)) its_plan (fits_up s leaf edge x valid.puts e)

  wide_edge : (ns : List ℕ) (k : ℕ) → k < length ns → get_or (map (edge_at plan) ns) k no_edge ≡ edge_at plan (get_or ns k 0)
  wide_edge ns k l = get_or-map (edge_at plan) ns k 0 no_edge l

  within_put : {B : Type 0} (ns : List ℕ) (put : ℕ → Option B) (k : ℕ) (beat : B) → get_or (map put ns) k None ≡ Some beat → k < length ns
  within_put [] put k beat e = absurd (let x : None ≡ Some beat = e in cc)
  within_put (n ∷ ns) put zero beat e = omega arith
  within_put (n ∷ ns) put (suc k) beat e = let l = within_put ns put k beat e in omega (arith, l)

  fit_done : (leaf : ℕ) → DoneFits (map (edge_at plan) (ins_at plan leaf)) (map (edge_at plan) (outs_at plan leaf)) (done_of plan s leaf)
  fit_done leaf = record {
    requests = λ k beat e.
        let l = within_put (outs_at plan leaf) (λ edge. plain (first_put edge (map (flow_down s) (leaf_moves s leaf)))) k beat e in
        subst (λ (p : PlanEdge). FitWires (a_fields beat) (a_widths p.bundle)) (sym (wide_edge (outs_at plan leaf) k l))
        (put_fits a_fields (outs_at plan leaf) (λ edge. first_put edge (map (flow_down s) (leaf_moves s leaf))) (λ edge. a_widths (edge_at plan edge).bundle) (down_fits leaf) k beat e);
    responses = λ k beat e.
        let l = within_put (ins_at plan leaf) (λ edge. plain (first_put edge (map (flow_up s) (leaf_moves s leaf)))) k beat e in
        subst (λ (p : PlanEdge). FitWires (d_fields beat) (d_widths p.bundle)) (sym (wide_edge (ins_at plan leaf) k l))
        (put_fits d_fields (ins_at plan leaf) (λ edge. first_put edge (map (flow_up s) (leaf_moves s leaf))) (λ edge. d_widths (edge_at plan edge).bundle) (up_fits leaf) k beat e);
  }

pub puts_fit_of : PutsFitLaw
puts_fit_of plan s leaf machine valid at =
    subst (λ (d : LeafDone). DoneFits (map (edge_at plan) (ins_at plan leaf)) (map (edge_at plan) (outs_at plan leaf)) d) (sym (done_as plan s valid leaf) ∙ at.does) (fit_done plan s valid leaf)

-- ---- one cycle

-- each part has reached the network's state
pub record Stand (b : Built) (plan : Plan) (m : ℕ → Machine LeafState LeafView LeafDone) (w : Wiring) (v : ℕ → ℕ) (s : State) : Type 0 where
  pub a : (edge : ℕ) → edge < length plan.edges → Holds (wires_of_edge w.edges edge).a v (map down_fields (queue s.a edge))
  pub d : (edge : ℕ) → edge < length plan.edges → Holds (wires_of_edge w.edges edge).d v (map up_fields (queue s.d edge))
  pub leaf : (leaf : ℕ) → leaf < length plan.leaves
      → Reached b (m leaf) (Occurs plan leaf) view_fields (view_at (wires_of_edges w.edges (ins_at plan leaf)) (wires_of_edges w.edges (outs_at plan leaf))) v (leaf_state s leaf)

module _ (law : PartsLaw) (b : Built) (plan : Plan) (m : ℕ → Machine LeafState LeafView LeafDone) (w : Wiring) (sound : IsSound plan) (wired : IsWired b plan m w) (machines : AreMachines plan m) where
  -- who gives to an edge and who takes from it
  record Ended (edge : ℕ) : Type 0 where
    giver : Giver
    gives : GivesTo plan edge giver
    taker : Taker
    takes : TakesFrom plan edge taker
    closed : IsClosedEdge b (wires_of_edge w.edges edge) (giver_end w.leaves w.source_ends giver) (taker_end w.leaves w.sink_ends taker)

  ended : (edge : ℕ) → edge < length plan.edges → Ended edge
  ended edge l =
      let g = ends_law.giver plan edge sound l in
      let t = ends_law.taker plan edge sound l in
      record { giver = g.0; gives = g.1; taker = t.0; takes = t.1; closed = wired.closed edge g.0 t.0 g.1 t.1 }

  module _ (v : ℕ → ℕ) (s : State) (sol : Solves b v) (st : Stand b plan m w v s) where
    shown_a : (edge : ℕ) → edge < length plan.edges → shown_at (wires_of_edge w.edges edge).a v ≡ shown_of (map down_fields (queue s.a edge))
    shown_a edge l = (ended edge l).closed.a.shows v (map down_fields (queue s.a edge)) sol (st.a edge l)

    shown_d : (edge : ℕ) → edge < length plan.edges → shown_at (wires_of_edge w.edges edge).d v ≡ shown_of (map up_fields (queue s.d edge))
    shown_d edge l = (ended edge l).closed.d.shows v (map up_fields (queue s.d edge)) sol (st.d edge l)

    pub show : ShowAll plan w v s
    show = record { a = shown_a; d = shown_d }

    head_a : (edge : ℕ) → edge < length plan.edges → (shown_at (wires_of_edge w.edges edge).a v).head ≡ option_map a_fields (plain (head_in (queue s.a edge)))
    head_a edge l = head_shown down_fields (queue s.a edge) _ (shown_a edge l) ∙ sym (plain_fields a_fields (head_in (queue s.a edge)))

    head_d : (edge : ℕ) → edge < length plan.edges → (shown_at (wires_of_edge w.edges edge).d v).head ≡ option_map d_fields (plain (head_in (queue s.d edge)))
    head_d edge l = head_shown up_fields (queue s.d edge) _ (shown_d edge l) ∙ sym (plain_fields d_fields (head_in (queue s.d edge)))

    room_a : (edge : ℕ) → edge < length plan.edges → (shown_at (wires_of_edge w.edges edge).a v).room ≡ has_place (queue s.a edge)
    room_a edge l = room_shown down_fields (queue s.a edge) _ (shown_a edge l)

    room_d : (edge : ℕ) → edge < length plan.edges → (shown_at (wires_of_edge w.edges edge).d v).room ≡ has_place (queue s.d edge)
    room_d edge l = room_shown up_fields (queue s.d edge) _ (shown_d edge l)

    sees_plan : (leaf : ℕ) → leaf < length plan.leaves → view_at (wires_of_edges w.edges (ins_at plan leaf)) (wires_of_edges w.edges (outs_at plan leaf)) v ≡ view_fields (seen_of plan s leaf)
    sees_plan leaf l =
        let ins = ins_at plan leaf in
        let outs = outs_at plan leaf in
        same_view _ _
        (maps_twice (λ (e : EdgeWires). (shown_at e.a v).head) (wires_of_edge w.edges) (option_map a_fields) (λ e. plain (head_in (queue s.a e))) ins (λ k i. head_a _ (in_there plan sound leaf k l i)))
        (maps_once (λ (e : EdgeWires). (shown_at e.d v).room) (wires_of_edge w.edges) (λ e. has_place (queue s.d e)) ins (λ k i. room_d _ (in_there plan sound leaf k l i)))
        (maps_twice (λ (e : EdgeWires). (shown_at e.d v).head) (wires_of_edge w.edges) (option_map d_fields) (λ e. plain (head_in (queue s.d e))) outs (λ k i. head_d _ (out_there plan sound leaf k l i)))
        (maps_once (λ (e : EdgeWires). (shown_at e.a v).room) (wires_of_edge w.edges) (λ e. has_place (queue s.a e)) outs (λ k i. room_a _ (out_there plan sound leaf k l i)))

    module _ (offers : Offers) (calm : (v 0 == 1) ≡ false) (valid : IsValid plan s) (offer : Offer w offers v) (good : AreOffersAt plan offers) where
      same_plan : s.plan ≡ plan
      same_plan = valid.shape.plan

      parts : IsCycleOfParts plan s offers
      parts = law plan s offers sound valid

      sees : (leaf : ℕ) → leaf < length plan.leaves → view_at (wires_of_edges w.edges (ins_at plan leaf)) (wires_of_edges w.edges (outs_at plan leaf)) v ≡ view_fields (seen_by s leaf)
      sees leaf l = sees_plan leaf l ∙ ap (λ (p : Plan). view_fields (seen_of p s leaf)) (sym same_plan)

      done_plan : (leaf : ℕ) → done_by s leaf ≡ done_of plan s leaf
      done_plan leaf = ap (λ (p : Plan). done_of p s leaf) same_plan

      at_machine : (leaf : ℕ) → leaf < length plan.leaves → IsMachineAt s leaf (m leaf)
      at_machine leaf l = machines.moves s leaf valid l

      occurs : (leaf : ℕ) → Occurs plan leaf (leaf_state s leaf) (seen_by s leaf)
      occurs leaf = record { state = s; valid = valid; its_is = refl; sees_is = refl }

      does : (leaf : ℕ) → leaf < length plan.leaves → done_at (wires_of_leaf w.leaves leaf) v ≡ done_fields (done_of plan s leaf)
      does leaf l =
          (wired.leaf leaf l).does v (leaf_state s leaf) (seen_by s leaf) (st.leaf leaf l) sol calm (sees leaf l) (occurs leaf)
          ∙ ap done_fields (sym (at_machine leaf l).does ∙ done_plan leaf)

      -- ---- what is put and taken at a leaf's place

      put_there : {B : Type 0} (f : B → List ℕ) (ns : List ℕ) (puts : List Put) (put : ℕ → Option (B × Tag)) (k edge : ℕ)
          → map (put_told v) puts ≡ map (option_map f) (map (λ e. plain (put e)) ns) → length puts ≡ length ns → slice_get ns k ≡ Some edge
          → put_told v (get_or puts k no_put) ≡ option_map (λ (x : B × Tag). f x.0) (put edge)
      put_there {B} f ns puts put k edge e long is =
          let l = slice_get_within ns k edge is in
          sym (get_or-map (put_told v) puts k no_put None (omega (arith, l, long)))
          ∙ ap (λ (xs : List (Option (List ℕ))). get_or xs k None) e
          ∙ get_or-map (option_map f) (map (λ e. plain (put e)) ns) k None None (omega (arith, l, length-map ns (λ e. plain (put e))))
          ∙ ap (option_map f) (get_or-map (λ e. plain (put e)) ns k 0 None l ∙ ap (λ e. plain (put e)) (get_or_from_slice_get ns k edge 0 is))
          ∙ plain_fields f (put edge)

      take_there : (ns : List ℕ) (takes : List Wire) (take : ℕ → Bool) (k edge : ℕ) → highs v takes ≡ map take ns → length takes ≡ length ns → slice_get ns k ≡ Some edge → high v (get_or takes k no_wire) ≡ take edge
      take_there ns takes take k edge e long is =
          let l = slice_get_within ns k edge is in
          sym (get_or-map (high v) takes k no_wire false (omega (arith, l, long)))
          ∙ ap (λ (xs : List Bool). get_or xs k false) e
          ∙ get_or-map take ns k 0 false l ∙ ap take (get_or_from_slice_get ns k edge 0 is)

      ins_long : (leaf : ℕ) → length (wires_of_edges w.edges (ins_at plan leaf)) ≡ length (ins_at plan leaf)
      ins_long leaf = length-map (ins_at plan leaf) (wires_of_edge w.edges)

      outs_long : (leaf : ℕ) → length (wires_of_edges w.edges (outs_at plan leaf)) ≡ length (outs_at plan leaf)
      outs_long leaf = length-map (outs_at plan leaf) (wires_of_edge w.edges)

      leaf_put_a : (leaf place edge : ℕ) → leaf < length plan.leaves → slice_get (outs_at plan leaf) place ≡ Some edge
          → put_told v (get_or (wires_of_leaf w.leaves leaf).put_a place no_put) ≡ option_map down_fields (first_put edge (map (flow_down s) (leaf_moves s leaf)))
      leaf_put_a leaf place edge l is =
          put_there a_fields (outs_at plan leaf) (wires_of_leaf w.leaves leaf).put_a (λ edge. first_put edge (map (flow_down s) (leaf_moves s leaf))) place edge
          (ap (λ (d : Done (List ℕ) (List ℕ)). d.put_a) (does leaf l)) ((wired.shaped leaf l).put_a_long ∙ outs_long leaf) is

      leaf_put_d : (leaf place edge : ℕ) → leaf < length plan.leaves → slice_get (ins_at plan leaf) place ≡ Some edge
          → put_told v (get_or (wires_of_leaf w.leaves leaf).put_d place no_put) ≡ option_map up_fields (first_put edge (map (flow_up s) (leaf_moves s leaf)))
      leaf_put_d leaf place edge l is =
          put_there d_fields (ins_at plan leaf) (wires_of_leaf w.leaves leaf).put_d (λ edge. first_put edge (map (flow_up s) (leaf_moves s leaf))) place edge
          (ap (λ (d : Done (List ℕ) (List ℕ)). d.put_d) (does leaf l)) ((wired.shaped leaf l).put_d_long ∙ ins_long leaf) is

      leaf_take_a : (leaf place edge : ℕ) → leaf < length plan.leaves → slice_get (ins_at plan leaf) place ≡ Some edge
          → high v (get_or (wires_of_leaf w.leaves leaf).take_a place no_wire) ≡ any_take edge (map (flow_down s) (leaf_moves s leaf))
      leaf_take_a leaf place edge l is =
          take_there (ins_at plan leaf) (wires_of_leaf w.leaves leaf).take_a (λ edge. any_take edge (map (flow_down s) (leaf_moves s leaf))) place edge
          (ap (λ (d : Done (List ℕ) (List ℕ)). d.take_a) (does leaf l)) ((wired.shaped leaf l).take_a_long ∙ ins_long leaf) is

      leaf_take_d : (leaf place edge : ℕ) → leaf < length plan.leaves → slice_get (outs_at plan leaf) place ≡ Some edge
          → high v (get_or (wires_of_leaf w.leaves leaf).take_d place no_wire) ≡ any_take edge (map (flow_up s) (leaf_moves s leaf))
      leaf_take_d leaf place edge l is =
          take_there (outs_at plan leaf) (wires_of_leaf w.leaves leaf).take_d (λ edge. any_take edge (map (flow_up s) (leaf_moves s leaf))) place edge
          (ap (λ (d : Done (List ℕ) (List ℕ)). d.take_d) (does leaf l)) ((wired.shaped leaf l).take_d_long ∙ outs_long leaf) is

      -- ---- what ports put and take

      let_in_is : (edge : ℕ) (beat : Option (ABeat × Tag)) → gated (has_place (queue s.a edge)) (λ (x : ABeat × Tag). carries_a (edge_at s.plan edge) x.0) beat ≡ let_in s edge beat
      let_in_is edge None = refl
      let_in_is edge (Some x) = refl

      let_back_is : (edge : ℕ) (beat : Option (DBeat × Tag)) → gated (has_place (queue s.d edge)) (λ (x : DBeat × Tag). carries_d (edge_at s.plan edge) x.0) beat ≡ let_back s edge beat
      let_back_is edge None = refl
      let_back_is edge (Some x) = refl

      told_put : (put : Put) (valid : Bool) (items : List Wire) → high v put.valid ≡ valid → put.items ≡ items → put_told v put ≡ cond valid (Some (wire_values v items)) None
      told_put put valid items e f = ap (λ (c : Bool). cond c (Some (wire_values v put.items)) None) e ∙ ap (λ (ws : List Wire). cond valid (Some (wire_values v ws)) None) f

      port_edge : (ports : List PlanPort) (port edge : ℕ) (at : PlanPort) → slice_get ports port ≡ Some at → at.edge ≡ edge → edge_of_port ports port ≡ Some edge
      port_edge ports port edge at is e = ap (λ (o : Option PlanPort). option_map (λ (at : PlanPort). at.edge) o) is ∙ ap Some e

      offered_at : {A : Type 0} (xs : List (Option A)) (port : ℕ) (x : A) → port < length xs → get_or xs port None ≡ Some x → slice_get xs port ≡ Some (Some x)
      offered_at xs port x l e = slice_get-get_or xs port None l ∙ ap Some e

      source_put : (port edge : ℕ) (at : PlanPort) → edge < length plan.edges → slice_get plan.sources port ≡ Some at → at.edge ≡ edge
          → put_told v (wires_of_port w.source_ends port).put ≡ option_map down_fields (let_in s edge (get_or offers.enter port None))
      source_put port edge at l is e =
          let end = subst (λ (n : ℕ). IsPortEnd b (wires_of_edge w.edges n).a (wires_of_edge w.edges n).d (wires_of_port w.sources port) (wires_of_port w.source_ends port)) e (wired.source port at is) in
          let k : port < length offers.enter = omega (arith, slice_get_within plan.sources port at is, good.enter_long) in
          let offered = (wires_of_port w.sources port).put in
          told_put (wires_of_port w.source_ends port).put _ offered.items (end.put.at v sol) end.items
          ∙ gate_put down_fields (wire_values v offered.items) (high v (wires_of_edge w.edges edge).a.ready) (high v offered.valid) (has_place (queue s.a edge)) (λ (x : ABeat × Tag). carries_a (edge_at s.plan edge) x.0) (get_or offers.enter port None)
          (room_a edge l) (offer.enter port k)
          (λ x f. subst (λ (p : Plan). carries_a (edge_at p edge) x.0 ≡ true) (sym same_plan) (subst (λ (n : ℕ). carries_a (edge_at plan n) x.0 ≡ true) e (good.enters port at x is (offered_at offers.enter port x k f))))
          ∙ ap (option_map down_fields) (let_in_is edge (get_or offers.enter port None))

      sink_put : (port edge : ℕ) (at : PlanPort) → edge < length plan.edges → slice_get plan.sinks port ≡ Some at → at.edge ≡ edge
          → put_told v (wires_of_port w.sink_ends port).put ≡ option_map up_fields (let_back s edge (get_or offers.reply port None))
      sink_put port edge at l is e =
          let end = subst (λ (n : ℕ). IsPortEnd b (wires_of_edge w.edges n).d (wires_of_edge w.edges n).a (wires_of_port w.sinks port) (wires_of_port w.sink_ends port)) e (wired.sink port at is) in
          let k : port < length offers.reply = omega (arith, slice_get_within plan.sinks port at is, good.reply_long) in
          let offered = (wires_of_port w.sinks port).put in
          told_put (wires_of_port w.sink_ends port).put _ offered.items (end.put.at v sol) end.items
          ∙ gate_put up_fields (wire_values v offered.items) (high v (wires_of_edge w.edges edge).d.ready) (high v offered.valid) (has_place (queue s.d edge)) (λ (x : DBeat × Tag). carries_d (edge_at s.plan edge) x.0) (get_or offers.reply port None)
          (room_d edge l) (offer.reply port k)
          (λ x f. subst (λ (p : Plan). carries_d (edge_at p edge) x.0 ≡ true) (sym same_plan) (subst (λ (n : ℕ). carries_d (edge_at plan n) x.0 ≡ true) e (good.replies port at x is (offered_at offers.reply port x k f))))
          ∙ ap (option_map up_fields) (let_back_is edge (get_or offers.reply port None))

      both_same : (a c x y : Bool) → a ≡ x → c ≡ y → (a && c) ≡ (x && y)
      both_same a c x y e f = ap (λ (t : Bool). t && c) e ∙ ap (λ (t : Bool). x && t) f

      source_take : (port edge : ℕ) (at : PlanPort) → edge < length plan.edges → slice_get plan.sources port ≡ Some at → at.edge ≡ edge
          → high v (wires_of_port w.source_ends port).take ≡ (flag_at offers.take_d port && is_some (head_in (queue s.d edge)))
      source_take port edge at l is e =
          let end = subst (λ (n : ℕ). IsPortEnd b (wires_of_edge w.edges n).a (wires_of_edge w.edges n).d (wires_of_port w.sources port) (wires_of_port w.source_ends port)) e (wired.source port at is) in
          let k : port < length offers.take_d = omega (arith, slice_get_within plan.sources port at is, good.take_d_long) in
          end.take.at v sol
          ∙ both_same _ _ _ _ (offer.take_d port k) (valid_shown up_fields (queue s.d edge) (high v (wires_of_edge w.edges edge).d.valid) (wire_values v (wires_of_edge w.edges edge).d.head) (head_shown up_fields (queue s.d edge) _ (shown_d edge l)))

      sink_take : (port edge : ℕ) (at : PlanPort) → edge < length plan.edges → slice_get plan.sinks port ≡ Some at → at.edge ≡ edge
          → high v (wires_of_port w.sink_ends port).take ≡ (flag_at offers.take_a port && is_some (head_in (queue s.a edge)))
      sink_take port edge at l is e =
          let end = subst (λ (n : ℕ). IsPortEnd b (wires_of_edge w.edges n).d (wires_of_edge w.edges n).a (wires_of_port w.sinks port) (wires_of_port w.sink_ends port)) e (wired.sink port at is) in
          let k : port < length offers.take_a = omega (arith, slice_get_within plan.sinks port at is, good.take_a_long) in
          end.take.at v sol
          ∙ both_same _ _ _ _ (offer.take_a port k) (valid_shown down_fields (queue s.a edge) (high v (wires_of_edge w.edges edge).a.valid) (wire_values v (wires_of_edge w.edges edge).a.head) (head_shown down_fields (queue s.a edge) _ (shown_a edge l)))

      -- ---- what is put and taken at each edge

      giver_put : (edge : ℕ) (giver : Giver) → edge < length plan.edges → GivesTo plan edge giver
          → put_told v (giver_end w.leaves w.source_ends giver).put ≡ option_map down_fields (first_put edge (map (flow_down s) (chosen_moves s offers)))
      giver_put edge (Out leaf place) l g =
          leaf_put_a leaf place edge (slice_get_within plan.leaves leaf g.0 g.1) (ap (λ (ns : List ℕ). slice_get ns place) (leaf_at plan leaf g.0 g.1).1 ∙ g.2)
          ∙ ap (option_map down_fields) (sym (parts.ends.put_a edge (Out leaf place) g))
      giver_put edge (Source port) l g =
          source_put port edge g.0 l g.1 g.2
          ∙ ap (option_map down_fields) (sym (parts.ports.enter port edge (port_edge plan.sources port edge g.0 g.1 g.2)) ∙ sym (parts.ends.put_a edge (Source port) g))

      giver_take : (edge : ℕ) (giver : Giver) → edge < length plan.edges → GivesTo plan edge giver
          → high v (giver_end w.leaves w.source_ends giver).take ≡ any_take edge (map (flow_up s) (chosen_moves s offers))
      giver_take edge (Out leaf place) l g =
          leaf_take_d leaf place edge (slice_get_within plan.leaves leaf g.0 g.1) (ap (λ (ns : List ℕ). slice_get ns place) (leaf_at plan leaf g.0 g.1).1 ∙ g.2)
          ∙ sym (parts.ends.take_d edge (Out leaf place) g)
      giver_take edge (Source port) l g =
          source_take port edge g.0 l g.1 g.2
          ∙ sym (parts.ports.return port edge (port_edge plan.sources port edge g.0 g.1 g.2)) ∙ sym (parts.ends.take_d edge (Source port) g)

      taker_put : (edge : ℕ) (taker : Taker) → edge < length plan.edges → TakesFrom plan edge taker
          → put_told v (taker_end w.leaves w.sink_ends taker).put ≡ option_map up_fields (first_put edge (map (flow_up s) (chosen_moves s offers)))
      taker_put edge (In leaf place) l t =
          leaf_put_d leaf place edge (slice_get_within plan.leaves leaf t.0 t.1) (ap (λ (ns : List ℕ). slice_get ns place) (leaf_at plan leaf t.0 t.1).0 ∙ t.2)
          ∙ ap (option_map up_fields) (sym (parts.ends.put_d edge (In leaf place) t))
      taker_put edge (Sink port) l t =
          sink_put port edge t.0 l t.1 t.2
          ∙ ap (option_map up_fields) (sym (parts.ports.reply port edge (port_edge plan.sinks port edge t.0 t.1 t.2)) ∙ sym (parts.ends.put_d edge (Sink port) t))

      taker_take : (edge : ℕ) (taker : Taker) → edge < length plan.edges → TakesFrom plan edge taker
          → high v (taker_end w.leaves w.sink_ends taker).take ≡ any_take edge (map (flow_down s) (chosen_moves s offers))
      taker_take edge (In leaf place) l t =
          leaf_take_a leaf place edge (slice_get_within plan.leaves leaf t.0 t.1) (ap (λ (ns : List ℕ). slice_get ns place) (leaf_at plan leaf t.0 t.1).0 ∙ t.2)
          ∙ sym (parts.ends.take_a edge (In leaf place) t)
      taker_take edge (Sink port) l t =
          sink_take port edge t.0 l t.1 t.2
          ∙ sym (parts.ports.leave port edge (port_edge plan.sinks port edge t.0 t.1 t.2)) ∙ sym (parts.ends.take_a edge (Sink port) t)

      -- ---- the next cycle

      moved_on_by : {B : Type 0} (f : B → List ℕ) (xs ys : List B) (at : Moved (List ℕ)) (moved : Moved B) (q : Queue) (u : ℕ → ℕ) → at ≡ mapped f moved → ys ≡ moved_on xs moved → Holds q u (moved_on (map f xs) at) → Holds q u (map f ys)
      moved_on_by f xs ys at moved q u e g h = subst (Holds q u) (ap (moved_on (map f xs)) e ∙ moved_mapped f xs moved ∙ ap (map f) (sym g)) h

      pub next : (u : ℕ → ℕ) → Ticks b v u → Stand b plan m w u (state_after_cycle s offers)
      next u t = record {
        a = λ edge l.
            let n = ended edge l in
            let xs = queue s.a edge in
            let moved = moved_here edge (map (flow_down s) (chosen_moves s offers)) in
            let g = giver_end w.leaves w.source_ends n.giver in
            let k = taker_end w.leaves w.sink_ends n.taker in
            let e : moved_at g.put.valid g.put.items k.take v ≡ mapped down_fields moved = same_moved _ _ _ _ (giver_put edge n.giver l n.gives) (taker_take edge n.taker l n.takes) in
            moved_on_by down_fields xs (queue (state_after_cycle s offers).a edge) _ moved (wires_of_edge w.edges edge).a u e (parts.queues.a edge)
            (n.closed.a.moves v u (map down_fields xs) sol t calm (st.a edge l) (subst (MayMove (map down_fields xs)) (sym e) (may_mapped down_fields xs moved (parts.queues.may_a edge))));
        d = λ edge l.
            let n = ended edge l in
            let xs = queue s.d edge in
            let moved = moved_here edge (map (flow_up s) (chosen_moves s offers)) in
            let g = giver_end w.leaves w.source_ends n.giver in
            let k = taker_end w.leaves w.sink_ends n.taker in
            let e : moved_at k.put.valid k.put.items g.take v ≡ mapped up_fields moved = same_moved _ _ _ _ (taker_put edge n.taker l n.takes) (giver_take edge n.giver l n.gives) in
            moved_on_by up_fields xs (queue (state_after_cycle s offers).d edge) _ moved (wires_of_edge w.edges edge).d u e (parts.queues.d edge)
            (n.closed.d.moves v u (map up_fields xs) sol t calm (st.d edge l) (subst (MayMove (map up_fields xs)) (sym e) (may_mapped up_fields xs moved (parts.queues.may_d edge))));
        leaf = λ leaf l.
            let e : leaf_state (state_after_cycle s offers) leaf ≡ leaf_state (state_after_moves s (leaf_moves s leaf)) leaf =
            ap (λ (o : Option Held). option_map_or (λ (held : Held). held.leaf) o BufferState) (parts.leaves.leaf leaf (subst (λ (p : Plan). leaf < length p.leaves) (sym same_plan) l)) in
            subst (Reached b (m leaf) (Occurs plan leaf) view_fields (view_at (wires_of_edges w.edges (ins_at plan leaf)) (wires_of_edges w.edges (outs_at plan leaf))) u)
            (sym (at_machine leaf l).after ∙ sym e)
            (goes v u (leaf_state s leaf) (seen_by s leaf) (st.leaf leaf l) sol t calm (sees leaf l) (occurs leaf));
      }

  -- ---- runs

  none_waits : {B : Type 0} (count edge : ℕ) → queue {B = B} (replicate count []) edge ≡ []
  none_waits zero edge = refl
  none_waits (suc count) zero = refl
  none_waits {B} (suc count) (suc edge) = none_waits {B = B} count edge

  starts : (v : ℕ → ℕ) → AtStart b v → Stand b plan m w v (network_at_start plan)
  starts v at = record {
    a = λ edge l. subst (Holds (wires_of_edge w.edges edge).a v) (ap (map down_fields) (sym (none_waits (length plan.edges) edge))) ((ended edge l).closed.a.starts v at);
    d = λ edge l. subst (Holds (wires_of_edge w.edges edge).d v) (ap (map up_fields) (sym (none_waits (length plan.edges) edge))) ((ended edge l).closed.d.starts v at);
    leaf = λ leaf l.
        subst (Reached b (m leaf) (Occurs plan leaf) view_fields (view_at (wires_of_edges w.edges (ins_at plan leaf)) (wires_of_edges w.edges (outs_at plan leaf))) v)
        (machines.idle leaf l) (begins v at);
  }

  runs : (s : State) (offers : Offers) (cycles : List Offers) (v : ℕ → ℕ) (vs : List (ℕ → ℕ)) → Stand b plan m w v s → AreOffered plan s (offers ∷ cycles) → AreCycles b w (offers ∷ cycles) (v ∷ vs) → ShowEach plan w s (offers ∷ cycles) (v ∷ vs)
  runs s offers [] v [] st good c = (show v s c.0.solves st, tt)
  runs s offers [] v (u ∷ vs) st good c = absurd c
  runs s offers (later ∷ cycles) v [] st good c = absurd c
  runs s offers (later ∷ cycles) v (u ∷ vs) st good c = (
    show v s c.0.solves st,
    runs (state_after_cycle s offers) later cycles u vs (next v s c.0.solves st offers c.0.calm good.1 c.1 good.0 u c.2) good.2 c.3,
  )

pub wired_law_of : PartsLaw → WiredLaw
wired_law_of law b plan m w offers cycles v vs sound wired machines good at c =
    runs law b plan m w sound wired machines (network_at_start plan) offers cycles v vs (starts law b plan m w sound wired machines v at) good c
