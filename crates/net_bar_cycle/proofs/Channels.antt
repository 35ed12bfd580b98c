-- What the chosen moves of a crossbar of the network are on each channel, and what they put and take at its edges.
use Rattle.std.proofs.Common.{◌≡◌, ◌<◌, ℕ, zero, suc, false, List, [], ◌∷◌, ◌++◌, length, map, get_or, Option, Some, None, cond, refl, sym, ap, ◌∙◌, slice_get}
use Rattle.std.specs.Prelude.{flat_map}
use Rattle.std.specs.List.{range_with_len}
use Rattle.std.specs.Option.{option_and_then, option_map, option_map_or}
use Rattle.std.proofs.lemmas.List.{length-map}
use Rattle.std.proofs.lemmas.Option.{slice_get_within}
use Rattle.tl_edge.specs.declared.beat.ABeat.{ABeat}
use Rattle.tl_edge.specs.declared.beat.DBeat.{DBeat}
use Rattle.tl_edge.specs.declared.beat.Tag.{Tag}
use Rattle.tl_edge.specs.declared.plan.Leaf.{Leaf}
use Rattle.flow_core.specs.declared.locks.Gates.{Gates}
use Rattle.flow_core.specs.declared.moves.Move.{Move}
use Rattle.flow_core.specs.declared.moves.Move.TheVariants.{AbsorbA, AbsorbD, ForwardA, ForwardD}
use Rattle.flow_core.specs.Crossing.{Crossbar}
use Rattle.flow_core.specs.Leaves.{down, up}
use Rattle.flow_core.specs.Leaves.LeafState.{BufferState, XbarState}
use Rattle.flow_core.specs.Network.{State, Job, Part, may_do, leaf_job_a, leaf_job_d, part_a, part_d, forwarding}
use Rattle.flow_core.specs.Queues.{queue, head_in, has_place, may_flow, still}
use Rattle.flow_core.specs.Tags.{Held}
use Rattle.flow_core.specs.Turns.{leaf_state, next_id, input_turn, output_turn}
use Rattle.flow_choice.specs.declared.cycle.Among.TheVariants.{Down, Up}
use Rattle.flow_choice.specs.Choosing.{choice_of, chosen_down, chosen_up, first_enabled, input_count, leaf_moves, leaf_moves_d, of_each, output_count}
use Rattle.flow_choice.specs.Turns.{in_turn}
use Rattle.flow_choice.proofs.Jobs.{seen}
use Rattle.flow_choice.proofs.Listing.{Each, IsSome, each_first, each_flat, each_map}
use Rattle.net_queue.specs.Adapters.{act_by}
use Rattle.net_queue.specs.Leaves.{LeafView}
use Rattle.net_xbar.specs.Crossings.{act_down, act_up, is_taken, put_of}
use Rattle.net_cycle.specs.Flows.{flow_down, flow_up, first_put, any_take}
use Rattle.net_cycle.specs.Parts.{plain}
use Rattle.net_cycle.proofs.AtPorts.{and_true}
use Rattle.net_cycle.proofs.OwnMoves.{put_first, put_second, take_first, take_second}
use Rattle.net_bar_cycle.proofs.Passing.{Way, way_flow, act_is, room_at}
use Rattle.net_bar_cycle.proofs.Side.{Side, chosen, first, takes, puts}
use Rattle.net_bar_cycle.proofs.Crossed.{BarAt, pass_down, pass_up, down_is, up_is, way_a, way_d, job_a, job_d, job_a_is, job_d_is, no_absorb_a, no_absorb_d}

-- ---- what is seen on some edges, by place

module _ {B : Type 0} (queues : List (List (B × Tag))) where
  pub head_seen : (edges : List ℕ) (k : ℕ) → get_or (map (λ edge. plain (head_in (queue queues edge))) edges) k None ≡ plain (seen queues (slice_get edges k))
  head_seen [] k = refl
  head_seen (e ∷ edges) zero = refl
  head_seen (e ∷ edges) (suc k) = head_seen edges k

  pub room_seen : (edges : List ℕ) (k : ℕ) → get_or (map (λ edge. has_place (queue queues edge)) edges) k false ≡ room_at queues (slice_get edges k)
  room_seen [] k = refl
  room_seen (e ∷ edges) zero = refl
  room_seen (e ∷ edges) (suc k) = room_seen edges k

abbrev pub sees : State → Leaf → LeafView
sees s leaf = record {
  heads_a = map (λ edge. plain (head_in (queue s.a edge))) leaf.ins;
  room_d = map (λ edge. has_place (queue s.d edge)) leaf.ins;
  heads_d = map (λ edge. plain (head_in (queue s.d edge))) leaf.outs;
  room_a = map (λ edge. has_place (queue s.a edge)) leaf.outs;
}

flat_same : (f g : ℕ → List Move) → ((n : ℕ) → f n ≡ g n) → (ns : List ℕ) → flat_map f ns ≡ flat_map g ns
flat_same f g h [] = refl
flat_same f g h (n ∷ ns) = ap (λ ms. ms ++ flat_map f ns) (h n) ∙ ap (λ ms. g n ++ ms) (flat_same f g h ns)

-- ---- a crossbar

-- its edges are there, and each of them is at one place
pub record HasEdges (s : State) (leaf : Leaf) : Type 0 where
  pub outs_there : (output edge : ℕ) → slice_get leaf.outs output ≡ Some edge → edge < length s.a
  pub ins_there : (input edge : ℕ) → slice_get leaf.ins input ≡ Some edge → edge < length s.d
  pub one_out : (output other edge : ℕ) → slice_get leaf.outs output ≡ Some edge → slice_get leaf.outs other ≡ Some edge → output ≡ other
  pub one_in : (input other edge : ℕ) → slice_get leaf.ins input ≡ Some edge → slice_get leaf.ins other ≡ Some edge → input ≡ other

module _ (s : State) (l : ℕ) (bar : Crossbar) (tag : Tag) (gates : Gates) (leaf : Leaf) (b : BarAt s l bar tag gates leaf) (edges : HasEdges s leaf) where
  pub flow_a : (o : Option (Way ABeat)) → option_map_or (λ (does : Job). does.a) (option_map (job_a s l bar tag gates leaf b) o) still ≡ option_map_or way_flow o still
  flow_a None = refl
  flow_a (Some w) = refl

  pub may_a : (o : Option (Way ABeat)) → option_map_or (may_do s) (option_map (job_a s l bar tag gates leaf b) o) false ≡ option_map_or (λ (w : Way ABeat). may_flow s.a (way_flow w)) o false
  may_a None = refl
  may_a (Some w) = and_true (may_flow s.a (way_flow w))

  pub flow_d : (o : Option (Way DBeat)) → option_map_or (λ (does : Job). does.d) (option_map (job_d s l bar tag gates leaf b) o) still ≡ option_map_or way_flow o still
  flow_d None = refl
  flow_d (Some w) = refl

  pub may_d : (o : Option (Way DBeat)) → option_map_or (may_do s) (option_map (job_d s l bar tag gates leaf b) o) false ≡ option_map_or (λ (w : Way DBeat). may_flow s.d (way_flow w)) o false
  may_d None = refl
  may_d (Some w) = refl

  abbrev pub downs : Side ABeat s
  downs = record {
    bar = bar;
    queues = s.a;
    froms = leaf.ins;
    tos = leaf.outs;
    pass = λ output input. pass_down bar gates input output;
    move = λ output input. ForwardA l input output 0;
    flow = flow_down s;
    flow_is = λ output input. ap (λ o. option_map_or (λ (does : Job). does.a) o still) (job_a_is s l bar tag gates leaf b input output) ∙ flow_a (way_a s l bar tag gates leaf b input output);
    enabled_is = λ output input. ap (λ o. option_map_or (may_do s) o false) (job_a_is s l bar tag gates leaf b input output) ∙ may_a (way_a s l bar tag gates leaf b input output);
    act = λ output input. act_down (XbarState bar gates) (sees s leaf) output input;
    act_is = λ output input.
        ap (λ (head : Option ABeat). act_by None (down (XbarState bar gates) 0 input output) head (get_or (sees s leaf).room_a output false)) (head_seen s.a leaf.ins input)
        ∙ ap (act_by None (down (XbarState bar gates) 0 input output) (plain (seen s.a (slice_get leaf.ins input)))) (room_seen s.a leaf.outs output)
        ∙ act_is bar (down (XbarState bar gates) 0 input output) (pass_down bar gates input output) (down_is bar gates input output) (plain (seen s.a (slice_get leaf.ins input))) (room_at s.a (slice_get leaf.outs output));
    turns = λ output. in_turn s.plan.policy (output_turn (XbarState bar gates) output) (length (sees s leaf).heads_a);
    within = edges.outs_there;
    one_from = edges.one_in;
    one_to = edges.one_out;
  }

  abbrev pub ups : Side DBeat s
  ups = record {
    bar = bar;
    queues = s.d;
    froms = leaf.outs;
    tos = leaf.ins;
    pass = λ input output. pass_up bar gates input output;
    move = λ input output. ForwardD l input output;
    flow = flow_up s;
    flow_is = λ input output. ap (λ o. option_map_or (λ (does : Job). does.d) o still) (job_d_is s l bar tag gates leaf b input output) ∙ flow_d (way_d s l bar tag gates leaf b input output);
    enabled_is = λ input output. ap (λ o. option_map_or (may_do s) o false) (job_d_is s l bar tag gates leaf b input output) ∙ may_d (way_d s l bar tag gates leaf b input output);
    act = λ input output. act_up (XbarState bar gates) (sees s leaf) input output;
    act_is = λ input output.
        ap (λ (head : Option DBeat). act_by None (up (XbarState bar gates) input output) head (get_or (sees s leaf).room_d input false)) (head_seen s.d leaf.outs output)
        ∙ ap (act_by None (up (XbarState bar gates) input output) (plain (seen s.d (slice_get leaf.outs output)))) (room_seen s.d leaf.ins input)
        ∙ act_is bar (up (XbarState bar gates) input output) (pass_up bar gates input output) (up_is bar gates input output) (plain (seen s.d (slice_get leaf.outs output))) (room_at s.d (slice_get leaf.ins input));
    turns = λ input. in_turn s.plan.policy (input_turn (XbarState bar gates) input) (length (sees s leaf).heads_d);
    within = edges.ins_there;
    one_from = edges.one_out;
    one_to = edges.one_in;
  }

  -- ---- all its moves

  pub state_is : leaf_state s l ≡ XbarState bar gates
  state_is = ap (λ o. option_map_or (λ (held : Held). held.leaf) o BufferState) b.here

  in_count : input_count s.plan l ≡ length leaf.ins
  in_count = ap (λ o. option_map_or (λ (at : Leaf). length at.ins) o 0) b.leaf_is

  out_count : output_count s.plan l ≡ length leaf.outs
  out_count = ap (λ o. option_map_or (λ (at : Leaf). length at.outs) o 0) b.leaf_is

  down_is_chosen : (output : ℕ) → chosen_down s l output ≡ chosen downs output
  down_is_chosen output =
      ap (λ its. first_enabled s (choice_of (Down l output (next_id its))) (in_turn s.plan.policy (output_turn its output) (input_count s.plan l))) state_is
      ∙ ap (λ n. first_enabled s (choice_of (Down l output 0)) (in_turn s.plan.policy (output_turn (XbarState bar gates) output) n)) (in_count ∙ sym (length-map leaf.ins _))

  up_is_chosen : (input : ℕ) → chosen_up s l input ≡ chosen ups input
  up_is_chosen input =
      ap (λ its. first_enabled s (choice_of (Up l input)) (in_turn s.plan.policy (input_turn its input) (output_count s.plan l))) state_is
      ∙ ap (λ n. first_enabled s (choice_of (Up l input)) (in_turn s.plan.policy (input_turn (XbarState bar gates) input) n)) (out_count ∙ sym (length-map leaf.outs _))

  abbrev pub all_downs : List Move
  all_downs = of_each (length leaf.outs) (chosen downs)

  abbrev pub all_ups : List Move
  all_ups = of_each (length leaf.ins) (chosen ups)

  pub moves_are : leaf_moves s l ≡ all_downs ++ all_ups
  moves_are =
      ap (λ ms. ms ++ leaf_moves_d s l)
      (ap (λ t. cond t (AbsorbA l ∷ []) [] ++ of_each (output_count s.plan l) (chosen_down s l)) (no_absorb_a s l bar tag gates leaf b)
      ∙ ap (λ n. of_each n (chosen_down s l)) out_count ∙ flat_same (chosen_down s l) (chosen downs) down_is_chosen (range_with_len 0 (length leaf.outs)))
      ∙ ap (λ ms. all_downs ++ ms)
      (ap (λ t. cond t (AbsorbD l ∷ []) [] ++ of_each (input_count s.plan l) (chosen_up s l)) (no_absorb_d s l bar tag gates leaf b)
      ∙ ap (λ n. of_each n (chosen_up s l)) in_count ∙ flat_same (chosen_up s l) (chosen ups) up_is_chosen (range_with_len 0 (length leaf.ins)))

  -- ---- each channel's moves do nothing on the other one

  idle_up : (input output : ℕ) → flow_up s (ForwardA l input output 0) ≡ still
  idle_up input output = at (option_and_then forwarding (part_a s l input output 0))
    where
      at : (o : Option (Part (ABeat × Tag))) → option_map_or (λ (does : Job). does.d) (option_map (leaf_job_a l) o) still ≡ still
      at None = refl
      at (Some p) = refl

  idle_down : (input output : ℕ) → flow_down s (ForwardD l input output) ≡ still
  idle_down input output = at (option_and_then forwarding (part_d s l input output))
    where
      at : (o : Option (Part (DBeat × Tag))) → option_map_or (λ (does : Job). does.a) (option_map (leaf_job_d l) o) still ≡ still
      at None = refl
      at (Some p) = refl

  downs_idle : Each (λ m. flow_up s m ≡ still) all_downs
  downs_idle = each_flat (λ m. flow_up s m ≡ still) (chosen downs) (λ output. each_map (IsSome s (downs.move output)) (λ m. flow_up s m ≡ still) (λ m h. ap (flow_up s) h.1.0 ∙ idle_up h.0 output) (chosen downs output) (each_first s (downs.move output) (downs.turns output))) 0 (length leaf.outs)

  ups_idle : Each (λ m. flow_down s m ≡ still) all_ups
  ups_idle = each_flat (λ m. flow_down s m ≡ still) (chosen ups) (λ input. each_map (IsSome s (ups.move input)) (λ m. flow_down s m ≡ still) (λ m h. ap (flow_down s) h.1.0 ∙ idle_down input h.0) (chosen ups input) (each_first s (ups.move input) (ups.turns input))) 0 (length leaf.ins)

  -- ---- what they put and take at each of its edges

  abbrev by_output : ℕ → Option ℕ
  by_output = first downs

  abbrev by_input : ℕ → Option ℕ
  by_input = first ups

  pub take_a : (input edge : ℕ) → slice_get leaf.ins input ≡ Some edge → any_take edge (map (flow_down s) (leaf_moves s l)) ≡ is_taken by_output (length leaf.outs) input
  take_a input edge h = ap (λ ms. any_take edge (map (flow_down s) ms)) moves_are ∙ take_first (flow_down s) edge all_downs all_ups ups_idle ∙ takes downs input edge h

  pub take_d : (output edge : ℕ) → slice_get leaf.outs output ≡ Some edge → any_take edge (map (flow_up s) (leaf_moves s l)) ≡ is_taken by_input (length leaf.ins) output
  take_d output edge h = ap (λ ms. any_take edge (map (flow_up s) ms)) moves_are ∙ take_second (flow_up s) edge all_downs all_ups downs_idle ∙ takes ups output edge h

  pub put_a : (output edge : ℕ) → slice_get leaf.outs output ≡ Some edge
      → plain (first_put edge (map (flow_down s) (leaf_moves s l))) ≡ put_of (act_down (XbarState bar gates) (sees s leaf) output) (by_output output)
  put_a output edge h =
      ap (λ ms. plain (first_put edge (map (flow_down s) ms))) moves_are ∙ ap plain (put_first (flow_down s) edge all_downs all_ups ups_idle)
      ∙ puts downs output edge h (slice_get_within leaf.outs output edge h)

  pub put_d : (input edge : ℕ) → slice_get leaf.ins input ≡ Some edge
      → plain (first_put edge (map (flow_up s) (leaf_moves s l))) ≡ put_of (act_up (XbarState bar gates) (sees s leaf) input) (by_input input)
  put_d input edge h =
      ap (λ ms. plain (first_put edge (map (flow_up s) ms))) moves_are ∙ ap plain (put_second (flow_up s) edge all_downs all_ups downs_idle)
      ∙ puts ups input edge h (slice_get_within leaf.ins input edge h)
