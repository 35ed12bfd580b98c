-- The crossbar is its gates side by side.
use Rattle.std.proofs.Common.{◌≡◌, ◌≢◌, ℕ, zero, suc, ◌+◌, ◌<◌, ◌≤◌, Bool, false, List, length, get_or, Option, Some, None, refl, sym, ap, ◌∙◌, subst, arith, inl, inr}
use Rattle.std.specs.Prelude.{find, is_some, slice_get, slice_set}
use Rattle.std.specs.List.{range_with_len}
use Rattle.std.specs.Option.{option_and_then, option_map, option_map_or}
use Rattle.std.proofs.lemmas.Bool.{cases_eq}
use Rattle.std.proofs.lemmas.List.{get_or-set_other, get_or-set_same, length-set}
use Rattle.tl_edge.specs.declared.beat.ABeat.{ABeat}
use Rattle.tl_edge.specs.declared.beat.DBeat.{DBeat}
use Rattle.tl_edge.specs.Wires.{a_fields, d_fields}
use Rattle.flow_choice.specs.Turns.{in_turn}
use Rattle.flow_core.specs.declared.locks.Gate.{Gate}
use Rattle.flow_core.specs.declared.locks.Gates.{Gates}
use Rattle.flow_core.specs.Crossing.{Crossbar, with_in, with_out}
use Rattle.flow_core.specs.Leaves.{LeafState, open_gate}
use Rattle.flow_core.specs.Leaves.LeafState.{XbarState}
use Rattle.flow_core.specs.Turns.{input_turn, output_turn}
use Rattle.net_choice.specs.Choice.{policy_if}
use Rattle.net_gate.specs.Gates.{gate_after, offer_at}
use Rattle.net_queue.specs.Leaves.{LeafView}
use Rattle.net_xbar.specs.Crossings.{act_down, act_up, after_down, after_up, each_number, first_to_output, first_to_input, put_of, state_through}
use Rattle.net_xbar.specs.Ways.{asks_input, asks_output, input_sight, no_ids, offers_from, output_sight, range_of, rest_a, rest_d}
use Rattle.net_xbar.specs.Gatewise.{CrossingIsGatewise, IsGatewise, Meets, gate_in, gate_out, served_in, served_out}
use Rattle.net_xbar.proofs.Acting.{after_to, first_is, put_is, slice_get_at, state_is}
use Rattle.net_xbar.proofs.Crossed.{acts_down, acts_up, beats_a, beats_d, rest_of_request, rest_of_response, state_in, state_out}

-- a list with one item set, by place
set_at : (xs : List Gate) (k j : ℕ) (g : Gate) → k < length xs → get_or (slice_set xs k g) k open_gate ≡ g
set_at xs k j g l = get_or-set_same xs k g open_gate l

set_but : (xs : List Gate) (k j : ℕ) (g : Gate) → j ≢ k → get_or (slice_set xs k g) j open_gate ≡ get_or xs j open_gate
set_but xs k j g n = get_or-set_other xs k j g open_gate n

module _ (round : Bool) (bar : Crossbar) (gates : Gates) (x : LeafView) (m : Meets bar gates x) where
  -- ---- outputs

  abbrev out_is : (now : Gates) (output : ℕ) → output < length now.outs → slice_get now.outs output ≡ Some (gate_out now output)
  out_is now output l = slice_get_at now.outs output open_gate l

  abbrev offers_a : ℕ → List (Option ABeat)
  offers_a output = offers_from (asks_output bar output) 0 x.heads_a

  turn_out : (output : ℕ) → output < length gates.outs → output_turn (XbarState bar gates) output ≡ (gate_out gates output).next
  turn_out output l = ap (λ (o : Option Gate). option_map_or (λ (gate : Gate). gate.next) o 0) (out_is gates output l)

  down_first : (output : ℕ) → output < length gates.outs → first_to_output (policy_if round) (XbarState bar gates) x output ≡ served_out round bar gates x output
  down_first output l =
      ap (λ (next : ℕ). find (λ input. is_some (act_down (XbarState bar gates) x output input)) (in_turn (policy_if round) next (length x.heads_a))) (turn_out output l)
      ∙ ap (λ (n : ℕ). find (λ input. is_some (act_down (XbarState bar gates) x output input)) (in_turn (policy_if round) (gate_out gates output).next n)) m.heads_a
      ∙ first_is a_fields (rest_a bar.width) (beats_a bar gates output (gate_out gates output) (out_is gates output l)) round (length bar.ranges) (gate_out gates output) (get_or x.room_a output false) (offers_a output) (act_down (XbarState bar gates) x output) (state_out bar gates output (gate_out gates output) (out_is gates output l)) (acts_down bar gates output (gate_out gates output) (out_is gates output l) x m.heads_a)

  down_put : (output : ℕ) → output < length gates.outs
      → option_map a_fields (put_of (act_down (XbarState bar gates) x output) (first_to_output (policy_if round) (XbarState bar gates) x output)) ≡ option_and_then (offer_at (output_sight bar x output)) (served_out round bar gates x output)
  down_put output l =
      ap (λ (first : Option ℕ). option_map a_fields (put_of (act_down (XbarState bar gates) x output) first)) (down_first output l)
      ∙ put_is a_fields (rest_a bar.width) (beats_a bar gates output (gate_out gates output) (out_is gates output l)) round (length bar.ranges) (gate_out gates output) (get_or x.room_a output false) (offers_a output) (act_down (XbarState bar gates) x output) (state_out bar gates output (gate_out gates output) (out_is gates output l)) (acts_down bar gates output (gate_out gates output) (out_is gates output l) x m.heads_a)

  abbrev next_out : ℕ → Gate
  next_out output = gate_after (rest_a bar.width) (length bar.ranges) (gate_out gates output) (output_sight bar x output) (served_out round bar gates x output)

  -- one output further, where the gates from it on are still those of the start
  one_down : (now : Gates) (output : ℕ) → output < length gates.outs → length now.outs ≡ length gates.outs → gate_out now output ≡ gate_out gates output
      → state_through (XbarState bar now) (act_down (XbarState bar now) x output) (first_to_output (policy_if round) (XbarState bar gates) x output)
      ≡ after_to a_fields (rest_a bar.width) (λ beat. 0) round (length bar.ranges) (gate_out gates output) (get_or x.room_a output false) (offers_a output) (XbarState bar now) (λ next. XbarState bar (with_out now output next)) (served_out round bar gates x output)
  one_down now output l n e =
      let is : slice_get now.outs output ≡ Some (gate_out gates output) = out_is now output (omega (arith, l, n)) ∙ ap (λ (g : Gate). Some g) e in
      ap (state_through (XbarState bar now) (act_down (XbarState bar now) x output)) (down_first output l)
      ∙ state_is a_fields (rest_a bar.width) (beats_a bar now output (gate_out gates output) is) round (length bar.ranges) (gate_out gates output) (get_or x.room_a output false) (offers_a output) (act_down (XbarState bar now) x output) (state_out bar now output (gate_out gates output) is) (XbarState bar now) (rest_of_request bar.width) (acts_down bar now output (gate_out gates output) is x m.heads_a)

  -- what the gates are after some outputs from a place on
  record Downs (now : Gates) (from count : ℕ) (state : LeafState) : Type 0 where
    next : Gates
    is : state ≡ XbarState bar next
    long : length next.outs ≡ length now.outs
    ins : next.ins ≡ now.ins
    before : (k : ℕ) → k < from → gate_out next k ≡ gate_out now k
    made : (k : ℕ) → from ≤ k → k < from + count → gate_out next k ≡ next_out k

  downs : (count from : ℕ) (now : Gates) → from + count ≤ length gates.outs → length now.outs ≡ length gates.outs → ((k : ℕ) → from ≤ k → gate_out now k ≡ gate_out gates k)
      → Downs now from count (after_down (policy_if round) (XbarState bar gates) x (XbarState bar now) (range_with_len from count))
  downs zero from now b n h = record { next = now; is = refl; long = refl; ins = refl; before = λ k l. refl; made = λ k f l. absurd (omega (arith, f, l)) }
  downs (suc count) from now b n h =
      let l : from < length gates.outs = omega (arith, b) in
      subst (λ (s : LeafState). Downs now from (suc count) (after_down (policy_if round) (XbarState bar gates) x s (range_with_len (from + 1) count))) (sym (one_down now from l n (h from (omega arith))))
      (at (served_out round bar gates x from) refl l (λ next q r. downs count (from + 1) next (omega (arith, b)) q r))
    where
      at : (o : Option ℕ) → served_out round bar gates x from ≡ o → from < length gates.outs
          → ((next : Gates) → length next.outs ≡ length gates.outs → ((k : ℕ) → from + 1 ≤ k → gate_out next k ≡ gate_out gates k) → Downs next (from + 1) count (after_down (policy_if round) (XbarState bar gates) x (XbarState bar next) (range_with_len (from + 1) count)))
          → Downs now from (suc count) (after_down (policy_if round) (XbarState bar gates) x
          (after_to a_fields (rest_a bar.width) (λ beat. 0) round (length bar.ranges) (gate_out gates from) (get_or x.room_a from false) (offers_a from) (XbarState bar now) (λ next. XbarState bar (with_out now from next)) o) (range_with_len (from + 1) count))
      at None e l more =
          let d = more now n (λ k f. h k (omega (arith, f))) in
          record {
            next = d.next;
            is = d.is;
            long = d.long;
            ins = d.ins;
            before = λ k f. d.before k (omega (arith, f));
            made = λ k f g. elim (cases_eq from k) [
              | inl q ↦ subst (λ (j : ℕ). gate_out d.next j ≡ next_out j) q (d.before from (omega arith) ∙ h from (omega arith) ∙ sym (ap (λ (o : Option ℕ). gate_after (rest_a bar.width) (length bar.ranges) (gate_out gates from) (output_sight bar x from) o) e))
              | inr q ↦ d.made k (omega (arith, f, q)) (omega (arith, g))
            ];
          }
      at (Some who) e l more =
          let own = gate_after (rest_a bar.width) (length bar.ranges) (gate_out gates from) (output_sight bar x from) (Some who) in
          let after = with_out now from own in
          let long : length after.outs ≡ length now.outs = length-set now.outs from own in
          let d = more after (long ∙ n) (λ k f. set_but now.outs from k own (λ q. omega (arith, f, q)) ∙ h k (omega (arith, f))) in
          record {
            next = d.next;
            is = d.is;
            long = d.long ∙ long;
            ins = d.ins;
            before = λ k f. d.before k (omega (arith, f)) ∙ set_but now.outs from k own (λ q. omega (arith, f, q));
            made = λ k f g. elim (cases_eq from k) [
              | inl q ↦ subst (λ (j : ℕ). gate_out d.next j ≡ next_out j) q (d.before from (omega arith) ∙ set_at now.outs from from own (omega (arith, l, n)) ∙ sym (ap (λ (o : Option ℕ). gate_after (rest_a bar.width) (length bar.ranges) (gate_out gates from) (output_sight bar x from) o) e))
              | inr q ↦ d.made k (omega (arith, f, q)) (omega (arith, g))
            ];
          }

  -- ---- inputs

  abbrev in_is : (now : Gates) (input : ℕ) → input < length now.ins → slice_get now.ins input ≡ Some (gate_in now input)
  in_is now input l = slice_get_at now.ins input open_gate l

  abbrev range_is : (input : ℕ) → input < length gates.ins → slice_get bar.ranges input ≡ Some (range_of bar input)
  range_is input l = slice_get_at bar.ranges input no_ids (omega (arith, m.ins))

  abbrev offers_d : ℕ → List (Option DBeat)
  offers_d input = offers_from (λ output. asks_input bar input) 0 x.heads_d

  turn_in : (input : ℕ) → input < length gates.ins → input_turn (XbarState bar gates) input ≡ (gate_in gates input).next
  turn_in input l = ap (λ (o : Option Gate). option_map_or (λ (gate : Gate). gate.next) o 0) (in_is gates input l)

  up_first : (input : ℕ) → input < length gates.ins → first_to_input (policy_if round) (XbarState bar gates) x input ≡ served_in round bar gates x input
  up_first input l =
      ap (λ (next : ℕ). find (λ output. is_some (act_up (XbarState bar gates) x input output)) (in_turn (policy_if round) next (length x.heads_d))) (turn_in input l)
      ∙ ap (λ (n : ℕ). find (λ output. is_some (act_up (XbarState bar gates) x input output)) (in_turn (policy_if round) (gate_in gates input).next n)) m.heads_d
      ∙ first_is d_fields (rest_d bar.width) (beats_d bar gates input (gate_in gates input) (in_is gates input l) (range_is input l)) round (length bar.slaves) (gate_in gates input) (get_or x.room_d input false) (offers_d input) (act_up (XbarState bar gates) x input) (state_in bar gates input (gate_in gates input) (in_is gates input l) (range_is input l)) (acts_up bar gates input (gate_in gates input) (in_is gates input l) (range_is input l) x)

  up_put : (input : ℕ) → input < length gates.ins
      → option_map d_fields (put_of (act_up (XbarState bar gates) x input) (first_to_input (policy_if round) (XbarState bar gates) x input)) ≡ option_and_then (offer_at (input_sight bar x input)) (served_in round bar gates x input)
  up_put input l =
      ap (λ (first : Option ℕ). option_map d_fields (put_of (act_up (XbarState bar gates) x input) first)) (up_first input l)
      ∙ put_is d_fields (rest_d bar.width) (beats_d bar gates input (gate_in gates input) (in_is gates input l) (range_is input l)) round (length bar.slaves) (gate_in gates input) (get_or x.room_d input false) (offers_d input) (act_up (XbarState bar gates) x input) (state_in bar gates input (gate_in gates input) (in_is gates input l) (range_is input l)) (acts_up bar gates input (gate_in gates input) (in_is gates input l) (range_is input l) x)

  abbrev next_in : ℕ → Gate
  next_in input = gate_after (rest_d bar.width) (length bar.slaves) (gate_in gates input) (input_sight bar x input) (served_in round bar gates x input)

  one_up : (now : Gates) (input : ℕ) → input < length gates.ins → length now.ins ≡ length gates.ins → gate_in now input ≡ gate_in gates input
      → state_through (XbarState bar now) (act_up (XbarState bar now) x input) (first_to_input (policy_if round) (XbarState bar gates) x input)
      ≡ after_to d_fields (rest_d bar.width) (λ beat. 0) round (length bar.slaves) (gate_in gates input) (get_or x.room_d input false) (offers_d input) (XbarState bar now) (λ next. XbarState bar (with_in now input next)) (served_in round bar gates x input)
  one_up now input l n e =
      let is : slice_get now.ins input ≡ Some (gate_in gates input) = in_is now input (omega (arith, l, n)) ∙ ap (λ (g : Gate). Some g) e in
      ap (state_through (XbarState bar now) (act_up (XbarState bar now) x input)) (up_first input l)
      ∙ state_is d_fields (rest_d bar.width) (beats_d bar now input (gate_in gates input) is (range_is input l)) round (length bar.slaves) (gate_in gates input) (get_or x.room_d input false) (offers_d input) (act_up (XbarState bar now) x input) (state_in bar now input (gate_in gates input) is (range_is input l)) (XbarState bar now) (rest_of_response bar.width) (acts_up bar now input (gate_in gates input) is (range_is input l) x)

  record Ups (now : Gates) (from count : ℕ) (state : LeafState) : Type 0 where
    next : Gates
    is : state ≡ XbarState bar next
    long : length next.ins ≡ length now.ins
    outs : next.outs ≡ now.outs
    before : (k : ℕ) → k < from → gate_in next k ≡ gate_in now k
    made : (k : ℕ) → from ≤ k → k < from + count → gate_in next k ≡ next_in k

  ups : (count from : ℕ) (now : Gates) → from + count ≤ length gates.ins → length now.ins ≡ length gates.ins → ((k : ℕ) → from ≤ k → gate_in now k ≡ gate_in gates k)
      → Ups now from count (after_up (policy_if round) (XbarState bar gates) x (XbarState bar now) (range_with_len from count))
  ups zero from now b n h = record { next = now; is = refl; long = refl; outs = refl; before = λ k l. refl; made = λ k f l. absurd (omega (arith, f, l)) }
  ups (suc count) from now b n h =
      let l : from < length gates.ins = omega (arith, b) in
      subst (λ (s : LeafState). Ups now from (suc count) (after_up (policy_if round) (XbarState bar gates) x s (range_with_len (from + 1) count))) (sym (one_up now from l n (h from (omega arith))))
      (at (served_in round bar gates x from) refl l (λ next q r. ups count (from + 1) next (omega (arith, b)) q r))
    where
      at : (o : Option ℕ) → served_in round bar gates x from ≡ o → from < length gates.ins
          → ((next : Gates) → length next.ins ≡ length gates.ins → ((k : ℕ) → from + 1 ≤ k → gate_in next k ≡ gate_in gates k) → Ups next (from + 1) count (after_up (policy_if round) (XbarState bar gates) x (XbarState bar next) (range_with_len (from + 1) count)))
          → Ups now from (suc count) (after_up (policy_if round) (XbarState bar gates) x
          (after_to d_fields (rest_d bar.width) (λ beat. 0) round (length bar.slaves) (gate_in gates from) (get_or x.room_d from false) (offers_d from) (XbarState bar now) (λ next. XbarState bar (with_in now from next)) o) (range_with_len (from + 1) count))
      at None e l more =
          let d = more now n (λ k f. h k (omega (arith, f))) in
          record {
            next = d.next;
            is = d.is;
            long = d.long;
            outs = d.outs;
            before = λ k f. d.before k (omega (arith, f));
            made = λ k f g. elim (cases_eq from k) [
              | inl q ↦ subst (λ (j : ℕ). gate_in d.next j ≡ next_in j) q (d.before from (omega arith) ∙ h from (omega arith) ∙ sym (ap (λ (o : Option ℕ). gate_after (rest_d bar.width) (length bar.slaves) (gate_in gates from) (input_sight bar x from) o) e))
              | inr q ↦ d.made k (omega (arith, f, q)) (omega (arith, g))
            ];
          }
      at (Some who) e l more =
          let own = gate_after (rest_d bar.width) (length bar.slaves) (gate_in gates from) (input_sight bar x from) (Some who) in
          let after = with_in now from own in
          let long : length after.ins ≡ length now.ins = length-set now.ins from own in
          let d = more after (long ∙ n) (λ k f. set_but now.ins from k own (λ q. omega (arith, f, q)) ∙ h k (omega (arith, f))) in
          record {
            next = d.next;
            is = d.is;
            long = d.long ∙ long;
            outs = d.outs;
            before = λ k f. d.before k (omega (arith, f)) ∙ set_but now.ins from k own (λ q. omega (arith, f, q));
            made = λ k f g. elim (cases_eq from k) [
              | inl q ↦ subst (λ (j : ℕ). gate_in d.next j ≡ next_in j) q (d.before from (omega arith) ∙ set_at now.ins from from own (omega (arith, l, n)) ∙ sym (ap (λ (o : Option ℕ). gate_after (rest_d bar.width) (length bar.slaves) (gate_in gates from) (input_sight bar x from) o) e))
              | inr q ↦ d.made k (omega (arith, f, q)) (omega (arith, g))
            ];
          }

  -- ---- both

  pub gatewise : IsGatewise round bar gates x
  gatewise =
      let d = downs (length x.room_a) 0 gates (omega (arith, m.room_a, m.outs)) refl (λ k l. refl) in
      let same : (k : ℕ) → 0 ≤ k → gate_in d.next k ≡ gate_in gates k = λ k l. ap (λ (gs : List Gate). get_or gs k open_gate) d.ins in
      let u = ups (length x.room_d) 0 d.next (omega (arith, m.room_d, m.ins)) (ap length d.ins) same in
      record {
        goes_down = down_first;
        goes_up = up_first;
        put_a = down_put;
        put_d = up_put;
        next = u.next;
        after = ap (λ (s : LeafState). after_up (policy_if round) (XbarState bar gates) x s (each_number x.room_d)) d.is ∙ u.is;
        are_after = record {
          outs_long = ap length u.outs ∙ d.long;
          ins_long = u.long ∙ ap length d.ins;
          outs = λ k l. ap (λ (gs : List Gate). get_or gs k open_gate) u.outs ∙ d.made k (omega arith) (omega (arith, l, m.room_a, m.outs));
          ins = λ k l. u.made k (omega arith) (omega (arith, l, m.room_d, m.ins));
        };
      }

pub crossing_is_gatewise : CrossingIsGatewise
crossing_is_gatewise round bar gates x m = gatewise round bar gates x m
