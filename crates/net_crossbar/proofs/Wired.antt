-- The wires of a crossbar are the crossbar.
use Rattle.std.proofs.Common.{◌≡◌, ℕ, zero, suc, ◌+◌, ◌-◌, ◌<◌, ◌^◌, Bool, true, false, cond, ◌&&◌, List, [], ◌∷◌, length, map, get_or, replicate, Option, Some, None, is_some, refl, sym, ap, ◌∙◌, subst, arith}
use Rattle.std.specs.Prelude.{◌==◌, slice_set}
use Rattle.std.specs.Option.{option_and_then, option_map}
use Rattle.std.proofs.lemmas.List.{ext_get_or, get_or_default, get_or-map, length-map, length-replicate}
use Rattle.dip_sets.specs.Ids.{has_id}
use Rattle.tl_params.specs.Owners.{owner}
use Rattle.tl_edge.specs.declared.beat.ABeat.{ABeat}
use Rattle.tl_edge.specs.declared.beat.DBeat.{DBeat}
use Rattle.tl_edge.specs.Wires.{FitWires, a_fields, d_fields}
use Rattle.flow_core.specs.declared.locks.Gate.{Gate}
use Rattle.flow_core.specs.declared.locks.Gates.{Gates}
use Rattle.flow_core.specs.Crossing.{Crossbar}
use Rattle.flow_core.specs.Leaves.{LeafState, open_gate}
use Rattle.flow_core.specs.Leaves.LeafState.{XbarState}
use Rattle.net_build.specs.declared.types.Wire.{Wire}
use Rattle.net_build.specs.Bits.{highs, wire_values}
use Rattle.net_build.specs.Built.{Built}
use Rattle.net_build.specs.Columns.{no_wire}
use Rattle.net_build.specs.Values.{AtStart, Solves, Ticks, high}
use Rattle.net_choice.specs.Choice.{is_number, policy_if}
use Rattle.net_gate.specs.declared.types.Serving.{Serving}
use Rattle.net_gate.specs.Gates.{IsGate, gate_after, offer_at, who_passes}
use Rattle.net_paths.specs.declared.ids.IdBlock.{IdBlock}
use Rattle.net_paths.specs.Paths.{IsIdBlock}
use Rattle.net_queue.specs.declared.types.EdgeWires.{EdgeWires}
use Rattle.net_queue.specs.declared.types.LeafWires.{LeafWires}
use Rattle.net_queue.specs.declared.types.Put.{Put}
use Rattle.net_queue.specs.Leaves.{Done, IsLeaf, LeafDone, LeafView, View, done_at, done_fields, put_told, view_at, view_fields}
use Rattle.net_queue.specs.Queues.{shown_at}
use Rattle.net_queue.specs.Rows.{row_widths}
use Rattle.net_queue.proofs.Relations.{machine_of}
use Rattle.net_xbar.specs.Crossings.{act_down, act_up, crossing, each_number, first_to_input, first_to_output, is_taken, put_of}
use Rattle.net_xbar.specs.Gatewise.{IsGatewise, Meets, served_in, served_out}
use Rattle.net_xbar.specs.Ways.{input_sight, output_sight, range_of, rest_a, rest_d}
use Rattle.net_xbar.proofs.Acting.{slice_get_at}
use Rattle.net_xbar.proofs.Sided.{crossing_is_gatewise}
use Rattle.net_crossbar.specs.declared.channel.Channel.TheVariants.{A, D}
use Rattle.net_crossbar.specs.Heads.{head_at, ready_at, valid_at}
use Rattle.net_crossbar.specs.Places.{AllAt}
use Rattle.net_crossbar.specs.Puts.{PutsReturned, PutsServed}
use Rattle.net_crossbar.specs.Rests.{beats_behind_head}
use Rattle.net_crossbar.specs.Serving.{TellsTaken}
use Rattle.net_crossbar.proofs.Agreeing.{Agrees}
use Rattle.net_crossbar.proofs.Answering.{RepliesFit, input_agrees, offered_in}
use Rattle.net_crossbar.proofs.Asking.{HeadsFit, ShowHeads, output_agrees}
use Rattle.net_crossbar.proofs.Behind.{behind_few}
use Rattle.net_crossbar.proofs.Sides.{any_numbers, range_long, ranged, side_grant, side_next, side_put, side_served}
use Rattle.net_crossbar.proofs.Standing.{Stand, sight_of, stand_next, stand_start, who_of}

-- ---- what the queues of edges show, by place

abbrev pub valids_of : List EdgeWires → List Wire
valids_of edges = map (valid_at A) edges

pub shown_a : (v : ℕ → ℕ) (edges : List EdgeWires) (k : ℕ) → k < length edges → get_or (map (λ (edge : EdgeWires). (shown_at edge.a v).head) edges) k None ≡ cond (high v (get_or (map (valid_at A) edges) k no_wire)) (Some (wire_values v (get_or (map (head_at A) edges) k []))) None
shown_a v [] k l = absurd (omega (arith, l))
shown_a v (e ∷ es) zero l = refl
shown_a v (e ∷ es) (suc k) l = shown_a v es k (omega (arith, l))

pub shown_d : (v : ℕ → ℕ) (edges : List EdgeWires) (k : ℕ) → k < length edges → get_or (map (λ (edge : EdgeWires). (shown_at edge.d v).head) edges) k None ≡ cond (high v (get_or (map (valid_at D) edges) k no_wire)) (Some (wire_values v (get_or (map (head_at D) edges) k []))) None
shown_d v [] k l = absurd (omega (arith, l))
shown_d v (e ∷ es) zero l = refl
shown_d v (e ∷ es) (suc k) l = shown_d v es k (omega (arith, l))

room_a_at : (v : ℕ → ℕ) (edges : List EdgeWires) (k : ℕ) → k < length edges → get_or (map (λ (edge : EdgeWires). (shown_at edge.a v).room) edges) k false ≡ high v (get_or (map (ready_at A) edges) k no_wire)
room_a_at v [] k l = absurd (omega (arith, l))
room_a_at v (e ∷ es) zero l = refl
room_a_at v (e ∷ es) (suc k) l = room_a_at v es k (omega (arith, l))

room_d_at : (v : ℕ → ℕ) (edges : List EdgeWires) (k : ℕ) → k < length edges → get_or (map (λ (edge : EdgeWires). (shown_at edge.d v).room) edges) k false ≡ high v (get_or (map (ready_at D) edges) k no_wire)
room_d_at v [] k l = absurd (omega (arith, l))
room_d_at v (e ∷ es) zero l = refl
room_d_at v (e ∷ es) (suc k) l = room_d_at v es k (omega (arith, l))

map_some : {C : Type 0} (f : C → List ℕ) (o : Option C) (y : List ℕ) → option_map f o ≡ Some y → (x : C) × (o ≡ Some x) × (f x ≡ y)
map_some f None y e = absurd cc
map_some f (Some x) y e = (x, refl, cc)

no_serving : Serving
no_serving = record { grants = []; valid = no_wire; items = [] }

no_block : IdBlock
no_block = record { prefix = 0; bits = 0 }

-- ---- what was built

-- the wires of a crossbar, one channel beside the other
pub record IsCrossed (b : Built) (round : Bool) (bar : Crossbar) (ins outs : List EdgeWires) (w : LeafWires) : Type 0 where
  pub ins_long : length ins ≡ length bar.ranges
  pub outs_long : length outs ≡ length bar.slaves
  pub blocks : List IdBlock
  pub ranges : (k : ℕ) → k < length ins → IsIdBlock (range_of bar k) (get_or blocks k (record { prefix = 0; bits = 0 }))
  -- requests
  pub rows_a : List (List Wire)
  pub rows_a_long : length rows_a ≡ length ins
  pub moves : (k : ℕ) (v : ℕ → ℕ) → k < length ins → Solves b v
      → get_or (wire_values v (get_or (map (head_at A) ins) k [])) 3 0 < 2 ^ (get_or blocks k (record { prefix = 0; bits = 0 })).bits
      → wire_values v (get_or rows_a k []) ≡ slice_set (wire_values v (get_or (map (head_at A) ins) k [])) 3 (get_or (wire_values v (get_or (map (head_at A) ins) k [])) 3 0 + (range_of bar k).start)
  pub wants_a : List (List Wire)
  pub wants_a_long : length wants_a ≡ length outs
  pub wants_a_each : (t : ℕ) → t < length wants_a → length (get_or wants_a t []) ≡ length ins
  pub told_a : (t k : ℕ) (v : ℕ → ℕ) → t < length outs → k < length ins → Solves b v
      → high v (get_or (get_or wants_a t []) k no_wire) ≡ (high v (get_or (map (valid_at A) ins) k no_wire) && is_some (owner (get_or bar.slaves t []) (get_or (wire_values v (get_or (map (head_at A) ins) k [])) 4 0)))
  pub ss_a : List Serving
  pub ss_a_long : length ss_a ≡ length outs
  pub gates_a : (t : ℕ) (d : Serving) → t < length outs → IsGate b round (beats_behind_head A bar.width) 255 (get_or wants_a t []) (get_or (map (ready_at A) outs) t no_wire) rows_a (get_or ss_a t d)
  pub take_a_long : length w.take_a ≡ length ins
  pub take_a : AllAt (λ k x. TellsTaken b ss_a k x) w.take_a
  pub put_a_long : length w.put_a ≡ length outs
  pub put_a : (t : ℕ) (s : Serving) (p : Put) → t < length outs → PutsServed b (get_or (map (head_at A) outs) t []) (get_or ss_a t s) (get_or w.put_a t p)
  -- responses
  pub rows_d : List (List Wire)
  pub rows_d_long : length rows_d ≡ length outs
  pub same : (k : ℕ) (v : ℕ → ℕ) → k < length outs → Solves b v → wire_values v (get_or rows_d k []) ≡ wire_values v (get_or (map (head_at D) outs) k [])
  pub wants_d : List (List Wire)
  pub wants_d_long : length wants_d ≡ length ins
  pub wants_d_each : (t : ℕ) → t < length wants_d → length (get_or wants_d t []) ≡ length outs
  pub told_d : (t k : ℕ) (v : ℕ → ℕ) → t < length ins → k < length outs → Solves b v
      → high v (get_or (get_or wants_d t []) k no_wire) ≡ (high v (get_or (map (valid_at D) outs) k no_wire) && has_id (range_of bar t) (get_or (wire_values v (get_or (map (head_at D) outs) k [])) 2 0))
  pub ss_d : List Serving
  pub ss_d_long : length ss_d ≡ length ins
  pub gates_d : (t : ℕ) (d : Serving) → t < length ins → IsGate b round (beats_behind_head D bar.width) 255 (get_or wants_d t []) (get_or (map (ready_at D) ins) t no_wire) rows_d (get_or ss_d t d)
  pub take_d_long : length w.take_d ≡ length outs
  pub take_d : AllAt (λ k x. TellsTaken b ss_d k x) w.take_d
  pub put_d_long : length w.put_d ≡ length ins
  pub put_d : (t : ℕ) (s : Serving) (p : Put) → t < length ins → PutsReturned b (get_or blocks t (record { prefix = 0; bits = 0 })) (get_or (map (head_at D) ins) t []) (get_or ss_d t s) (get_or w.put_d t p)
  pub row_d : (t : ℕ) (s : Serving) → t < length ins → length (get_or ss_d t s).items ≡ 5

abbrev done_of : List Bool → List (Option (List ℕ)) → List Bool → List (Option (List ℕ)) → Done (List ℕ) (List ℕ)
done_of take_a put_d take_d put_a = record { take_a = take_a; put_d = put_d; take_d = take_d; put_a = put_a }

same_done : (a e : List Bool) (c f : List (Option (List ℕ))) (g h : List Bool) (i j : List (Option (List ℕ))) → a ≡ e → c ≡ f → g ≡ h → i ≡ j → done_of a c g i ≡ done_of e f h j
same_done a e c f g h i j p q r s = ap (λ x. done_of x c g i) p ∙ ap (λ x. done_of e x g i) q ∙ ap (λ x. done_of e f x i) r ∙ ap (λ x. done_of e f h x) s

-- what fits: the heads, and what is put
pub record FitsWires (bar : Crossbar) (round : Bool) (bits : ℕ → ℕ) (ins outs : List EdgeWires) (s : LeafState) (x : LeafView) : Type 0 where
  pub heads : HeadsFit bits x.heads_a
  pub replies : RepliesFit x.heads_d
  pub put_a : (t : ℕ) (beat : ABeat) → t < length outs → get_or ((crossing (policy_if round) s).does s x).put_a t None ≡ Some beat → FitWires (a_fields beat) (row_widths (get_or (map (head_at A) outs) t []))
  pub put_d : (t : ℕ) (beat : DBeat) → t < length ins → get_or ((crossing (policy_if round) s).does s x).put_d t None ≡ Some beat → FitWires (d_fields beat) (row_widths (get_or (map (head_at D) ins) t []))

module _ (b : Built) (round : Bool) (bar : Crossbar) (ins outs : List EdgeWires) (w : LeafWires) (c : IsCrossed b round bar ins outs w) where
  abbrev bits_of : ℕ → ℕ
  bits_of k = (get_or c.blocks k (record { prefix = 0; bits = 0 })).bits

  -- the gates of all outputs and of all inputs are in states that they reach
  abbrev StandA : (ℕ → ℕ) → List Gate → Type 0
  StandA v gates = Stand b round (beats_behind_head A bar.width) (behind_few A bar.width) (length ins) c.wants_a (map (ready_at A) outs) c.rows_a c.wants_a_each v gates

  abbrev StandD : (ℕ → ℕ) → List Gate → Type 0
  StandD v gates = Stand b round (beats_behind_head D bar.width) (behind_few D bar.width) (length outs) c.wants_d (map (ready_at D) ins) c.rows_d c.wants_d_each v gates

  pub record Stands (v : ℕ → ℕ) (s : LeafState) : Type 0 where
    pub gates : Gates
    pub is : s ≡ XbarState bar gates
    pub outs_long : length gates.outs ≡ length bar.slaves
    pub ins_long : length gates.ins ≡ length bar.ranges
    pub outs_stand : StandA v gates.outs
    pub ins_stand : StandD v gates.ins

  -- ---- one cycle

  module _ (v : ℕ → ℕ) (q : Solves b v) (z : (v 0 == 1) ≡ false) (gates : Gates) (ol : length gates.outs ≡ length bar.slaves) (il : length gates.ins ≡ length bar.ranges) (sa : StandA v gates.outs) (sd : StandD v gates.ins)
      (x : LeafView) (e : view_at ins outs v ≡ view_fields x) (f : FitsWires bar round bits_of ins outs (XbarState bar gates) x) where
    heads_a_are : map (λ (edge : EdgeWires). (shown_at edge.a v).head) ins ≡ map (option_map a_fields) x.heads_a
    heads_a_are = ap (λ (y : View (List ℕ) (List ℕ)). y.heads_a) e

    heads_d_are : map (λ (edge : EdgeWires). (shown_at edge.d v).head) outs ≡ map (option_map d_fields) x.heads_d
    heads_d_are = ap (λ (y : View (List ℕ) (List ℕ)). y.heads_d) e

    room_a_is : map (λ (edge : EdgeWires). (shown_at edge.a v).room) outs ≡ x.room_a
    room_a_is = ap (λ (y : View (List ℕ) (List ℕ)). y.room_a) e

    room_d_is : map (λ (edge : EdgeWires). (shown_at edge.d v).room) ins ≡ x.room_d
    room_d_is = ap (λ (y : View (List ℕ) (List ℕ)). y.room_d) e

    heads_a_long : length x.heads_a ≡ length ins
    heads_a_long = sym (length-map x.heads_a (option_map a_fields)) ∙ sym (ap length heads_a_are) ∙ length-map ins (λ (edge : EdgeWires). (shown_at edge.a v).head)

    heads_d_long : length x.heads_d ≡ length outs
    heads_d_long = sym (length-map x.heads_d (option_map d_fields)) ∙ sym (ap length heads_d_are) ∙ length-map outs (λ (edge : EdgeWires). (shown_at edge.d v).head)

    room_a_long : length x.room_a ≡ length outs
    room_a_long = sym (ap length room_a_is) ∙ length-map outs (λ (edge : EdgeWires). (shown_at edge.a v).room)

    room_d_long : length x.room_d ≡ length ins
    room_d_long = sym (ap length room_d_is) ∙ length-map ins (λ (edge : EdgeWires). (shown_at edge.d v).room)

    meets : Meets bar gates x
    meets = record {
      heads_a = heads_a_long ∙ c.ins_long;
      room_d = room_d_long ∙ c.ins_long;
      heads_d = heads_d_long ∙ c.outs_long;
      room_a = room_a_long ∙ c.outs_long;
      outs = ol;
      ins = il;
    }

    gatewise : IsGatewise round bar gates x
    gatewise = crossing_is_gatewise round bar gates x meets

    shows_a : ShowHeads a_fields (length ins) (map (valid_at A) ins) (map (head_at A) ins) v x.heads_a
    shows_a = record {
      long = heads_a_long;
      rows_long = length-map ins (head_at A);
      each = λ k l. sym (shown_a v ins k l) ∙ ap (λ (os : List (Option (List ℕ))). get_or os k None) heads_a_are ∙ get_or-map (option_map a_fields) x.heads_a k None None (omega (arith, l, heads_a_long));
    }

    shows_d : ShowHeads d_fields (length outs) (map (valid_at D) outs) (map (head_at D) outs) v x.heads_d
    shows_d = record {
      long = heads_d_long;
      rows_long = length-map outs (head_at D);
      each = λ k l. sym (shown_d v outs k l) ∙ ap (λ (os : List (Option (List ℕ))). get_or os k None) heads_d_are ∙ get_or-map (option_map d_fields) x.heads_d k None None (omega (arith, l, heads_d_long));
    }

    module _ (t : ℕ) (l : t < length outs) where
      abbrev agrees_a : Agrees (rest_a bar.width) (beats_behind_head A bar.width) (λ items. items) (sight_of b round (beats_behind_head A bar.width) (behind_few A bar.width) (length ins) c.wants_a (map (ready_at A) outs) c.rows_a c.wants_a_each t v) (output_sight bar x t)
      agrees_a = output_agrees b bar (length ins) (map (valid_at A) ins) (map (head_at A) ins) c.rows_a bits_of v q x shows_a f.heads c.rows_a_long (λ k m. c.moves k v m q)
          t (get_or bar.slaves t []) (slice_get_at bar.slaves t [] (omega (arith, l, c.outs_long))) (get_or c.wants_a t []) (get_or (map (ready_at A) outs) t no_wire) (c.wants_a_each t (omega (arith, l, c.wants_a_long))) (λ k m. c.told_a t k v l m q)
          (sym (room_a_at v outs t l) ∙ ap (λ (bs : List Bool). get_or bs t false) room_a_is)

      abbrev serving_a : Serving
      serving_a = get_or c.ss_a t no_serving

      abbrev wants_at_a : t < length c.wants_a
      wants_at_a = omega (arith, l, c.wants_a_long)

      count_a : who_passes round (length ins) (get_or gates.outs t open_gate) (output_sight bar x t) ≡ served_out round bar gates x t
      count_a = ap (λ (n : ℕ). who_passes round n (get_or gates.outs t open_gate) (output_sight bar x t)) c.ins_long

      first_a : served_out round bar gates x t ≡ first_to_output (policy_if round) (XbarState bar gates) x t
      first_a = sym (gatewise.goes_down t (omega (arith, l, c.outs_long, ol)))

      granted_a : (k : ℕ) → k < length ins → high v (get_or serving_a.grants k no_wire) ≡ is_number (first_to_output (policy_if round) (XbarState bar gates) x t) k
      granted_a k m =
          side_grant b round (beats_behind_head A bar.width) (behind_few A bar.width) (length ins) c.wants_a (map (ready_at A) outs) c.rows_a c.wants_a_each v q z gates.outs sa t wants_at_a (rest_a bar.width) (λ items. items) (output_sight bar x t) agrees_a serving_a (c.gates_a t no_serving l) k m
          ∙ ap (λ (o : Option ℕ). is_number o k) (count_a ∙ first_a)

      abbrev put_down : Option ABeat
      put_down = put_of (act_down (XbarState bar gates) x t) (first_to_output (policy_if round) (XbarState bar gates) x t)

      put_down_is : option_map a_fields put_down ≡ option_and_then (offer_at (output_sight bar x t)) (who_passes round (length ins) (get_or gates.outs t open_gate) (output_sight bar x t))
      put_down_is = gatewise.put_a t (omega (arith, l, c.outs_long, ol)) ∙ ap (option_and_then (offer_at (output_sight bar x t))) (sym count_a)

      put_down_at : get_or ((crossing (policy_if round) (XbarState bar gates)).does (XbarState bar gates) x).put_a t None ≡ put_down
      put_down_at =
          let e0 : 0 + t ≡ t = omega arith in
          ranged (λ output. put_of (act_down (XbarState bar gates) x output) (first_to_output (policy_if round) (XbarState bar gates) x output)) 0 (length x.room_a) t None (omega (arith, l, room_a_long))
          ∙ ap (λ output. put_of (act_down (XbarState bar gates) x output) (first_to_output (policy_if round) (XbarState bar gates) x output)) e0

      keep : (o : Option (List ℕ)) → option_map (λ items. items) o ≡ o
      keep None = refl
      keep (Some items) = refl

      puts_down : (p : Put) → PutsServed b (get_or (map (head_at A) outs) t []) serving_a p → put_told v p ≡ option_map a_fields put_down
      puts_down p h =
          ap (λ (y : Wire). cond (high v y) (Some (wire_values v p.items)) None) h.valid
          ∙ side_put b round (beats_behind_head A bar.width) (behind_few A bar.width) (length ins) c.wants_a (map (ready_at A) outs) c.rows_a c.wants_a_each v q z gates.outs sa t wants_at_a (rest_a bar.width) (λ items. items) (output_sight bar x t) agrees_a serving_a (c.gates_a t no_serving l) (wire_values v p.items)
          (λ items o i.
          let s = side_served b round (beats_behind_head A bar.width) (behind_few A bar.width) (length ins) c.wants_a (map (ready_at A) outs) c.rows_a c.wants_a_each v q z gates.outs sa t wants_at_a (rest_a bar.width) (λ items. items) (output_sight bar x t) agrees_a serving_a (c.gates_a t no_serving l) in
          let beat = map_some a_fields put_down items (put_down_is ∙ s ∙ keep _ ∙ o) in
          let fits = f.put_a t beat.0 l (put_down_at ∙ beat.1) in
          h.keeps.at v q (subst (λ (fs : List ℕ). FitWires fs (row_widths (get_or (map (head_at A) outs) t []))) (beat.2 ∙ sym i) fits) ∙ i)
          ∙ sym put_down_is

    module _ (t : ℕ) (l : t < length ins) where
      abbrev told_at : (k : ℕ) → k < length outs → high v (get_or (get_or c.wants_d t []) k no_wire) ≡ (high v (get_or (map (valid_at D) outs) k no_wire) && has_id (range_of bar t) (get_or (wire_values v (get_or (map (head_at D) outs) k [])) 2 0))
      told_at k m = c.told_d t k v l m q

      abbrev room_here : high v (get_or (map (ready_at D) ins) t no_wire) ≡ get_or x.room_d t false
      room_here = sym (room_d_at v ins t l) ∙ ap (λ (bs : List Bool). get_or bs t false) room_d_is

      abbrev wants_at_d : t < length c.wants_d
      wants_at_d = omega (arith, l, c.wants_d_long)

      abbrev move_back : List ℕ → List ℕ
      move_back items = slice_set items 2 (get_or items 2 0 - (range_of bar t).start)

      abbrev agrees_d : Agrees (rest_d bar.width) (beats_behind_head D bar.width) move_back (sight_of b round (beats_behind_head D bar.width) (behind_few D bar.width) (length outs) c.wants_d (map (ready_at D) ins) c.rows_d c.wants_d_each t v) (input_sight bar x t)
      agrees_d = input_agrees bar (length outs) (map (valid_at D) outs) (map (head_at D) outs) c.rows_d v x shows_d f.replies c.rows_d_long (λ k m. c.same k v m q) t (get_or c.wants_d t []) (get_or (map (ready_at D) ins) t no_wire) (c.wants_d_each t wants_at_d) told_at room_here

      abbrev serving_d : Serving
      serving_d = get_or c.ss_d t no_serving

      count_d : who_passes round (length outs) (get_or gates.ins t open_gate) (input_sight bar x t) ≡ served_in round bar gates x t
      count_d = ap (λ (n : ℕ). who_passes round n (get_or gates.ins t open_gate) (input_sight bar x t)) c.outs_long

      first_d : served_in round bar gates x t ≡ first_to_input (policy_if round) (XbarState bar gates) x t
      first_d = sym (gatewise.goes_up t (omega (arith, l, c.ins_long, il)))

      granted_d : (k : ℕ) → k < length outs → high v (get_or serving_d.grants k no_wire) ≡ is_number (first_to_input (policy_if round) (XbarState bar gates) x t) k
      granted_d k m =
          side_grant b round (beats_behind_head D bar.width) (behind_few D bar.width) (length outs) c.wants_d (map (ready_at D) ins) c.rows_d c.wants_d_each v q z gates.ins sd t wants_at_d (rest_d bar.width) move_back (input_sight bar x t) agrees_d serving_d (c.gates_d t no_serving l) k m
          ∙ ap (λ (o : Option ℕ). is_number o k) (count_d ∙ first_d)

      abbrev put_up : Option DBeat
      put_up = put_of (act_up (XbarState bar gates) x t) (first_to_input (policy_if round) (XbarState bar gates) x t)

      put_up_is : option_map d_fields put_up ≡ option_and_then (offer_at (input_sight bar x t)) (who_passes round (length outs) (get_or gates.ins t open_gate) (input_sight bar x t))
      put_up_is = gatewise.put_d t (omega (arith, l, c.ins_long, il)) ∙ ap (option_and_then (offer_at (input_sight bar x t))) (sym count_d)

      put_up_at : get_or ((crossing (policy_if round) (XbarState bar gates)).does (XbarState bar gates) x).put_d t None ≡ put_up
      put_up_at =
          let e0 : 0 + t ≡ t = omega arith in
          ranged (λ input. put_of (act_up (XbarState bar gates) x input) (first_to_input (policy_if round) (XbarState bar gates) x input)) 0 (length x.room_d) t None (omega (arith, l, room_d_long))
          ∙ ap (λ input. put_of (act_up (XbarState bar gates) x input) (first_to_input (policy_if round) (XbarState bar gates) x input)) e0

      -- what is offered there has an id of the range
      offered_id : (o : Option ℕ) (items : List ℕ) → option_and_then (offer_at (sight_of b round (beats_behind_head D bar.width) (behind_few D bar.width) (length outs) c.wants_d (map (ready_at D) ins) c.rows_d c.wants_d_each t v)) o ≡ Some items → has_id (range_of bar t) (get_or items 2 0) ≡ true
      offered_id None items e = absurd cc
      offered_id (Some who) items e = offered_in bar (length outs) (map (valid_at D) outs) (map (head_at D) outs) c.rows_d v x shows_d f.replies c.rows_d_long (λ k m. c.same k v m q) t (get_or c.wants_d t []) (get_or (map (ready_at D) ins) t no_wire) (c.wants_d_each t wants_at_d) told_at room_here who items e

      puts_up : (p : Put) → PutsReturned b (get_or c.blocks t (record { prefix = 0; bits = 0 })) (get_or (map (head_at D) ins) t []) serving_d p → put_told v p ≡ option_map d_fields put_up
      puts_up p h =
          ap (λ (y : Wire). cond (high v y) (Some (wire_values v p.items)) None) h.valid
          ∙ side_put b round (beats_behind_head D bar.width) (behind_few D bar.width) (length outs) c.wants_d (map (ready_at D) ins) c.rows_d c.wants_d_each v q z gates.ins sd t wants_at_d (rest_d bar.width) move_back (input_sight bar x t) agrees_d serving_d (c.gates_d t no_serving l) (wire_values v p.items)
          (λ items o i.
          let s = side_served b round (beats_behind_head D bar.width) (behind_few D bar.width) (length outs) c.wants_d (map (ready_at D) ins) c.rows_d c.wants_d_each v q z gates.ins sd t wants_at_d (rest_d bar.width) move_back (input_sight bar x t) agrees_d serving_d (c.gates_d t no_serving l) in
          let beat = map_some d_fields put_up (move_back items) (put_up_is ∙ s ∙ ap (option_map move_back) o) in
          let fits = f.put_d t beat.0 l (put_up_at ∙ beat.1) in
          let five = c.row_d t no_serving l in
          let id : v (get_or serving_d.items 2 no_wire).number ≡ get_or items 2 0 = sym (get_or-map (λ (y : Wire). v y.number) serving_d.items 2 no_wire 0 (omega (arith, five))) ∙ ap (λ (fs : List ℕ). get_or fs 2 0) i in
          let within : has_id (range_of bar t) (v (get_or serving_d.items 2 no_wire).number) ≡ true = ap (has_id (range_of bar t)) id ∙ offered_id (who_of b round (beats_behind_head D bar.width) (behind_few D bar.width) (length outs) c.wants_d (map (ready_at D) ins) c.rows_d c.wants_d_each v gates.ins t) items o in
          let moved : wire_values v h.moved ≡ move_back items =
          h.returns.at (range_of bar t) v (c.ranges t l) q within
          ∙ ap (λ (n : ℕ). slice_set (wire_values v serving_d.items) 2 (n - (range_of bar t).start)) id
          ∙ ap (λ (fs : List ℕ). slice_set fs 2 (get_or items 2 0 - (range_of bar t).start)) i in
          h.keeps.at v q (subst (λ (fs : List ℕ). FitWires fs (row_widths (get_or (map (head_at D) ins) t []))) (beat.2 ∙ sym moved) fits) ∙ moved)
          ∙ sym put_up_is

    -- ---- the whole cycle

    abbrev pub machine_does : LeafDone
    machine_does = (crossing (policy_if round) (XbarState bar gates)).does (XbarState bar gates) x

    takes_a : highs v w.take_a ≡ machine_does.take_a
    takes_a = ext_get_or false (highs v w.take_a) machine_does.take_a
        (length-map w.take_a (high v) ∙ c.take_a_long ∙ sym heads_a_long ∙ sym (length-map (each_number x.heads_a) (is_taken (first_to_output (policy_if round) (XbarState bar gates) x) (length x.room_a)) ∙ range_long 0 (length x.heads_a)))
        (λ k m.
        let n : k < length w.take_a = omega (arith, m, length-map w.take_a (high v)) in
        let i : k < length ins = omega (arith, n, c.take_a_long) in
        let e0 : 0 + k ≡ k = omega arith in
        get_or-map (high v) w.take_a k no_wire false n
        ∙ (c.take_a.at k no_wire n).tells.at v q
        ∙ any_numbers (λ (s : Serving). high v (get_or s.grants k no_wire)) (λ to. is_number (first_to_output (policy_if round) (XbarState bar gates) x to) k) 0 c.ss_a
        (λ t d j.
        let l : t < length outs = omega (arith, j, c.ss_a_long) in
        let e1 : t ≡ 0 + t = omega arith in
        ap (λ (s : Serving). high v (get_or s.grants k no_wire)) (get_or_default c.ss_a t d no_serving j) ∙ granted_a t l k i ∙ ap (λ (to : ℕ). is_number (first_to_output (policy_if round) (XbarState bar gates) x to) k) e1)
        ∙ ap (λ (n : ℕ). is_taken (first_to_output (policy_if round) (XbarState bar gates) x) n k) (c.ss_a_long ∙ sym room_a_long)
        ∙ sym (ranged (is_taken (first_to_output (policy_if round) (XbarState bar gates) x) (length x.room_a)) 0 (length x.heads_a) k false (omega (arith, i, heads_a_long)) ∙ ap (is_taken (first_to_output (policy_if round) (XbarState bar gates) x) (length x.room_a)) e0))

    takes_d : highs v w.take_d ≡ machine_does.take_d
    takes_d = ext_get_or false (highs v w.take_d) machine_does.take_d
        (length-map w.take_d (high v) ∙ c.take_d_long ∙ sym heads_d_long ∙ sym (length-map (each_number x.heads_d) (is_taken (first_to_input (policy_if round) (XbarState bar gates) x) (length x.room_d)) ∙ range_long 0 (length x.heads_d)))
        (λ k m.
        let n : k < length w.take_d = omega (arith, m, length-map w.take_d (high v)) in
        let i : k < length outs = omega (arith, n, c.take_d_long) in
        let e0 : 0 + k ≡ k = omega arith in
        get_or-map (high v) w.take_d k no_wire false n
        ∙ (c.take_d.at k no_wire n).tells.at v q
        ∙ any_numbers (λ (s : Serving). high v (get_or s.grants k no_wire)) (λ to. is_number (first_to_input (policy_if round) (XbarState bar gates) x to) k) 0 c.ss_d
        (λ t d j.
        let l : t < length ins = omega (arith, j, c.ss_d_long) in
        let e1 : t ≡ 0 + t = omega arith in
        ap (λ (s : Serving). high v (get_or s.grants k no_wire)) (get_or_default c.ss_d t d no_serving j) ∙ granted_d t l k i ∙ ap (λ (to : ℕ). is_number (first_to_input (policy_if round) (XbarState bar gates) x to) k) e1)
        ∙ ap (λ (n : ℕ). is_taken (first_to_input (policy_if round) (XbarState bar gates) x) n k) (c.ss_d_long ∙ sym room_d_long)
        ∙ sym (ranged (is_taken (first_to_input (policy_if round) (XbarState bar gates) x) (length x.room_d)) 0 (length x.heads_d) k false (omega (arith, i, heads_d_long)) ∙ ap (is_taken (first_to_input (policy_if round) (XbarState bar gates) x) (length x.room_d)) e0))

    no_put : Put
    no_put = record { valid = no_wire; items = [] }

    puts_a : map (put_told v) w.put_a ≡ map (option_map a_fields) machine_does.put_a
    puts_a = ext_get_or None (map (put_told v) w.put_a) (map (option_map a_fields) machine_does.put_a)
        (length-map w.put_a (put_told v) ∙ c.put_a_long ∙ sym room_a_long ∙ sym (length-map machine_does.put_a (option_map a_fields) ∙ length-map (each_number x.room_a) (λ output. put_of (act_down (XbarState bar gates) x output) (first_to_output (policy_if round) (XbarState bar gates) x output)) ∙ range_long 0 (length x.room_a)))
        (λ t m.
        let n : t < length w.put_a = omega (arith, m, length-map w.put_a (put_told v)) in
        let l : t < length outs = omega (arith, n, c.put_a_long) in
        let j : t < length machine_does.put_a = omega (arith, l, room_a_long, length-map (each_number x.room_a) (λ output. put_of (act_down (XbarState bar gates) x output) (first_to_output (policy_if round) (XbarState bar gates) x output)), range_long 0 (length x.room_a)) in
        get_or-map (put_told v) w.put_a t no_put None n
        ∙ puts_down t l (get_or w.put_a t no_put) (c.put_a t no_serving no_put l)
        ∙ sym (get_or-map (option_map a_fields) machine_does.put_a t None None j ∙ ap (option_map a_fields) (put_down_at t l)))

    puts_d : map (put_told v) w.put_d ≡ map (option_map d_fields) machine_does.put_d
    puts_d = ext_get_or None (map (put_told v) w.put_d) (map (option_map d_fields) machine_does.put_d)
        (length-map w.put_d (put_told v) ∙ c.put_d_long ∙ sym room_d_long ∙ sym (length-map machine_does.put_d (option_map d_fields) ∙ length-map (each_number x.room_d) (λ input. put_of (act_up (XbarState bar gates) x input) (first_to_input (policy_if round) (XbarState bar gates) x input)) ∙ range_long 0 (length x.room_d)))
        (λ t m.
        let n : t < length w.put_d = omega (arith, m, length-map w.put_d (put_told v)) in
        let l : t < length ins = omega (arith, n, c.put_d_long) in
        let j : t < length machine_does.put_d = omega (arith, l, room_d_long, length-map (each_number x.room_d) (λ input. put_of (act_up (XbarState bar gates) x input) (first_to_input (policy_if round) (XbarState bar gates) x input)), range_long 0 (length x.room_d)) in
        get_or-map (put_told v) w.put_d t no_put None n
        ∙ puts_up t l (get_or w.put_d t no_put) (c.put_d t no_serving no_put l)
        ∙ sym (get_or-map (option_map d_fields) machine_does.put_d t None None j ∙ ap (option_map d_fields) (put_up_at t l)))

    pub does_so : done_at w v ≡ done_fields machine_does
    does_so = same_done _ _ _ _ _ _ _ _ takes_a puts_d takes_d puts_a

    -- ---- the next state

    pub stands_next : (u : ℕ → ℕ) → Ticks b v u → Stands u ((crossing (policy_if round) (XbarState bar gates)).after (XbarState bar gates) x)
    stands_next u k =
        let g = gatewise in
        record {
          gates = g.next;
          is = g.after;
          outs_long = g.are_after.outs_long ∙ ol;
          ins_long = g.are_after.ins_long ∙ il;
          outs_stand = stand_next b round (beats_behind_head A bar.width) (behind_few A bar.width) (length ins) c.wants_a (map (ready_at A) outs) c.rows_a c.wants_a_each v u gates.outs g.next.outs q k z sa (λ t m.
              let l : t < length outs = omega (arith, m, c.wants_a_long) in
              g.are_after.outs t (omega (arith, l, c.outs_long, ol))
              ∙ ap (λ (n : ℕ). gate_after (rest_a bar.width) n (get_or gates.outs t open_gate) (output_sight bar x t) (served_out round bar gates x t)) (sym c.ins_long)
              ∙ ap (gate_after (rest_a bar.width) (length ins) (get_or gates.outs t open_gate) (output_sight bar x t)) (sym (count_a t l))
              ∙ side_next b round (beats_behind_head A bar.width) (behind_few A bar.width) (length ins) c.wants_a (map (ready_at A) outs) c.rows_a c.wants_a_each v q z gates.outs sa t m (rest_a bar.width) (λ items. items) (output_sight bar x t) (agrees_a t l));
          ins_stand = stand_next b round (beats_behind_head D bar.width) (behind_few D bar.width) (length outs) c.wants_d (map (ready_at D) ins) c.rows_d c.wants_d_each v u gates.ins g.next.ins q k z sd (λ t m.
              let l : t < length ins = omega (arith, m, c.wants_d_long) in
              g.are_after.ins t (omega (arith, l, c.ins_long, il))
              ∙ ap (λ (n : ℕ). gate_after (rest_d bar.width) n (get_or gates.ins t open_gate) (input_sight bar x t) (served_in round bar gates x t)) (sym c.outs_long)
              ∙ ap (gate_after (rest_d bar.width) (length outs) (get_or gates.ins t open_gate) (input_sight bar x t)) (sym (count_d t l))
              ∙ side_next b round (beats_behind_head D bar.width) (behind_few D bar.width) (length outs) c.wants_d (map (ready_at D) ins) c.rows_d c.wants_d_each v q z gates.ins sd t m (rest_d bar.width) (move_back t l) (input_sight bar x t) (agrees_d t l));
        }

  -- ---- every cycle

  open_at : (n t : ℕ) → get_or (replicate n open_gate) t open_gate ≡ open_gate
  open_at zero t = refl
  open_at (suc n) zero = refl
  open_at (suc n) (suc t) = open_at n t

  abbrev pub open_state : LeafState
  open_state = XbarState bar (record { outs = replicate (length bar.slaves) open_gate; ins = replicate (length bar.ranges) open_gate })

  stands_start : (v : ℕ → ℕ) → AtStart b v → Stands v open_state
  stands_start v a = record {
    gates = record { outs = replicate (length bar.slaves) open_gate; ins = replicate (length bar.ranges) open_gate };
    is = refl;
    outs_long = length-replicate (length bar.slaves) open_gate;
    ins_long = length-replicate (length bar.ranges) open_gate;
    outs_stand = stand_start b round (beats_behind_head A bar.width) (behind_few A bar.width) (length ins) c.wants_a (map (ready_at A) outs) c.rows_a c.wants_a_each v (replicate (length bar.slaves) open_gate) a (open_at (length bar.slaves));
    ins_stand = stand_start b round (beats_behind_head D bar.width) (behind_few D bar.width) (length outs) c.wants_d (map (ready_at D) ins) c.rows_d c.wants_d_each v (replicate (length bar.ranges) open_gate) a (open_at (length bar.ranges));
  }

  pub is_crossbar : (fits : LeafState → LeafView → Type 0) → ((gates : Gates) (x : LeafView) → fits (XbarState bar gates) x → FitsWires bar round bits_of ins outs (XbarState bar gates) x)
      → IsLeaf b ins outs w (crossing (policy_if round) open_state) fits
  is_crossbar fits k =
      machine_of (crossing (policy_if round) open_state) fits view_fields done_fields (view_at ins outs) (done_at w) b Stands (record {
        starts = stands_start;
        does = λ v s x q z h e f.
            subst (λ (s : LeafState). fits s x → done_at w v ≡ done_fields ((crossing (policy_if round) open_state).does s x)) (sym h.is)
            (λ g. does_so v q z h.gates h.outs_long h.ins_long h.outs_stand h.ins_stand x e (k h.gates x g)) f;
        nexts = λ v u s x q t z h e f.
            subst (λ (s : LeafState). fits s x → Stands u ((crossing (policy_if round) open_state).after s x)) (sym h.is)
            (λ g. stands_next v q z h.gates h.outs_long h.ins_long h.outs_stand h.ins_stand x e (k h.gates x g) u t) f;
      })
