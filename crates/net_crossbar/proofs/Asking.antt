-- What wires show the gate of an output is what the network states that it sees.
use Rattle.std.proofs.Common.{◌≡◌, ℕ, ◌+◌, ◌<◌, ◌≤◌, ◌^◌, Bool, true, false, cond, ◌&&◌, List, [], length, get_or, Option, Some, None, is_some, refl, sym, ap, ◌∙◌, subst, arith, inl, inr}
use Rattle.std.specs.Prelude.{slice_get, slice_set}
use Rattle.std.specs.Option.{option_and_then, option_map, unwrap_or}
use Rattle.std.proofs.lemmas.Bool.{cases_lt}
use Rattle.std.proofs.lemmas.List.{get_or-map, get_or_past, length-map}
use Rattle.tl_params.specs.declared.ports.Slave.{Slave}
use Rattle.tl_params.specs.Owners.{owner}
use Rattle.tl_edge.specs.declared.beat.ABeat.{ABeat}
use Rattle.tl_edge.specs.Wires.{a_fields}
use Rattle.flow_choice.specs.Choosing.{flag_at}
use Rattle.flow_core.specs.Acts.{with_a_id}
use Rattle.flow_core.specs.Crossing.{Crossbar, goes_to}
use Rattle.net_build.specs.declared.types.Wire.{Wire}
use Rattle.net_build.specs.Bits.{highs, wire_values}
use Rattle.net_build.specs.Built.{Built}
use Rattle.net_build.specs.Columns.{no_wire}
use Rattle.net_build.specs.Values.{Solves, high}
use Rattle.net_gate.specs.Gates.{offer_at, sight_at}
use Rattle.net_gate.proofs.Serves.{offers_are}
use Rattle.net_queue.specs.Leaves.{LeafView}
use Rattle.net_xbar.specs.Ways.{asks_output, offers_from, output_sight, range_of, rest_a}
use Rattle.net_xbar.proofs.Acting.{map_at, offers_at_place}
use Rattle.net_crossbar.specs.declared.channel.Channel.TheVariants.{A}
use Rattle.net_crossbar.specs.Rests.{beats_behind_head}
use Rattle.net_crossbar.proofs.Agreeing.{Agrees}
use Rattle.net_crossbar.proofs.Behind.{request_same}

-- the wires show these heads: by place whether there is one, and its fields
pub record ShowHeads {B : Type 0} (fields : B → List ℕ) (count : ℕ) (valids : List Wire) (rows : List (List Wire)) (v : ℕ → ℕ) (heads : List (Option B)) : Type 0 where
  pub long : length heads ≡ count
  pub rows_long : length rows ≡ count
  pub each : (k : ℕ) → k < count → cond (high v (get_or valids k no_wire)) (Some (wire_values v (get_or rows k []))) None ≡ option_map fields (get_or heads k None)

pub some_in : {A : Type 0} (x y : A) → Some x ≡ Some y → x ≡ y
some_in x y e = cc

-- a head that is shown has its values
pub shown_some : (c : Bool) (values xs : List ℕ) → cond c (Some values) None ≡ Some xs → (c ≡ true) × (values ≡ xs)
shown_some true values xs e = (refl, some_in values xs e)
shown_some false values xs e = absurd cc

pub shown_none : (c : Bool) (values : List ℕ) → cond c (Some values) None ≡ None → c ≡ false
shown_none true values e = absurd cc
shown_none false values e = refl

pub highs_flag : (v : ℕ → ℕ) (wants : List Wire) (k : ℕ) → k < length wants → flag_at (highs v wants) k ≡ high v (get_or wants k no_wire)
highs_flag v wants k l = get_or-map (high v) wants k no_wire false l

-- ---- requests

-- each head of a request has few enough beats behind it, and its id is below the number of its input's
pub record HeadsFit (bits : ℕ → ℕ) (heads : List (Option ABeat)) : Type 0 where
  pub each : (k : ℕ) (beat : ABeat) → get_or heads k None ≡ Some beat → (beat.size ≤ 8) × (beat.source < 2 ^ bits k)

module _ (b : Built) (bar : Crossbar) (count : ℕ) (valids : List Wire) (raws rows : List (List Wire)) (bits : ℕ → ℕ) (v : ℕ → ℕ) (s : Solves b v) (x : LeafView)
    (shown : ShowHeads a_fields count valids raws v x.heads_a) (fit : HeadsFit bits x.heads_a) (rows_long : length rows ≡ count)
    (moved : (k : ℕ) → k < count → get_or (wire_values v (get_or raws k [])) 3 0 < 2 ^ bits k → wire_values v (get_or rows k []) ≡ slice_set (wire_values v (get_or raws k [])) 3 (get_or (wire_values v (get_or raws k [])) 3 0 + (range_of bar k).start)) where
  module _ (output : ℕ) (slaves : List Slave) (is : slice_get bar.slaves output ≡ Some slaves) (wants : List Wire) (ready : Wire) (wants_long : length wants ≡ count)
      (told : (k : ℕ) → k < count → high v (get_or wants k no_wire) ≡ (high v (get_or valids k no_wire) && is_some (owner slaves (get_or (wire_values v (get_or raws k [])) 4 0))))
      (room : high v ready ≡ get_or x.room_a output false) where
    goes : (address : ℕ) → goes_to bar output address ≡ is_some (owner slaves address)
    goes address = ap (λ (o : Option (List Slave)). is_some (option_and_then (λ slaves. owner slaves address) o)) is

    abbrev asked : ℕ → ABeat → Option (List ℕ)
    asked k beat = option_map a_fields (asks_output bar output k beat)

    asked_is : (k : ℕ) (beat : ABeat) (c : Bool) → goes_to bar output beat.address ≡ c → asked k beat ≡ cond c (Some (slice_set (a_fields beat) 3 (beat.source + (range_of bar k).start))) None
    asked_is k beat c e = ap (λ (c : Bool). option_map a_fields (cond c (Some (with_a_id (beat.source + (range_of bar k).start) beat)) None)) e ∙ at c
      where
        at : (c : Bool) → option_map a_fields (cond c (Some (with_a_id (beat.source + (range_of bar k).start) beat)) None) ≡ cond c (Some (slice_set (a_fields beat) 3 (beat.source + (range_of bar k).start))) None
        at true = refl
        at false = refl

    -- what is offered at a place, by what the head there is
    offered : (k : ℕ) → k < count → (head : Option ABeat) → get_or x.heads_a k None ≡ head
        → cond (high v (get_or wants k no_wire)) (Some (wire_values v (get_or rows k []))) None ≡ option_map a_fields (option_and_then (asks_output bar output k) head)
    offered k l None e =
        let c = shown_none (high v (get_or valids k no_wire)) (wire_values v (get_or raws k [])) (shown.each k l ∙ ap (option_map a_fields) e) in
        ap (λ (c : Bool). cond c (Some (wire_values v (get_or rows k []))) None) (told k l ∙ ap (λ (c : Bool). c && is_some (owner slaves (get_or (wire_values v (get_or raws k [])) 4 0))) c)
    offered k l (Some beat) e =
        let c = shown_some (high v (get_or valids k no_wire)) (wire_values v (get_or raws k [])) (a_fields beat) (shown.each k l ∙ ap (option_map a_fields) e) in
        let w : high v (get_or wants k no_wire) ≡ goes_to bar output beat.address =
        told k l ∙ ap (λ (c : Bool). c && is_some (owner slaves (get_or (wire_values v (get_or raws k [])) 4 0))) c.0
        ∙ ap (λ (fs : List ℕ). is_some (owner slaves (get_or fs 4 0))) c.1 ∙ sym (goes beat.address) in
        let small : get_or (wire_values v (get_or raws k [])) 3 0 < 2 ^ bits k = subst (λ (fs : List ℕ). get_or fs 3 0 < 2 ^ bits k) (sym c.1) (fit.each k beat e).1 in
        let m : wire_values v (get_or rows k []) ≡ slice_set (a_fields beat) 3 (beat.source + (range_of bar k).start) =
        moved k l small ∙ ap (λ (fs : List ℕ). slice_set fs 3 (get_or fs 3 0 + (range_of bar k).start)) c.1 in
        ap (λ (c : Bool). cond c (Some (wire_values v (get_or rows k []))) None) w
        ∙ ap (λ (fs : List ℕ). cond (goes_to bar output beat.address) (Some fs) None) m
        ∙ sym (asked_is k beat (goes_to bar output beat.address) refl)

    wire_offer : (k : ℕ) → k < count → offer_at (sight_at wants ready rows v) k ≡ cond (high v (get_or wants k no_wire)) (Some (wire_values v (get_or rows k []))) None
    wire_offer k l =
        offers_are v wants rows k (rows_long ∙ sym wants_long)
        ∙ ap (λ (c : Bool). cond c (Some (wire_values v (get_or rows k []))) None) (highs_flag v wants k (omega (arith, l, wants_long)))

    state_offer : (k : ℕ) → offer_at (output_sight bar x output) k ≡ option_map a_fields (option_and_then (asks_output bar output k) (get_or x.heads_a k None))
    state_offer k =
        let z : 0 + k ≡ k = omega arith in
        map_at a_fields (offers_from (asks_output bar output) 0 x.heads_a) k
        ∙ ap (option_map a_fields) (offers_at_place (asks_output bar output) 0 x.heads_a k ∙ ap (λ (n : ℕ). option_and_then (asks_output bar output n) (get_or x.heads_a k None)) z)

    past_wire : (k : ℕ) → count ≤ k → offer_at (sight_at wants ready rows v) k ≡ None
    past_wire k l =
        offers_are v wants rows k (rows_long ∙ sym wants_long)
        ∙ ap (λ (c : Bool). cond c (Some (wire_values v (get_or rows k []))) None) (get_or_past (highs v wants) k false (omega (arith, l, wants_long, length-map wants (high v))))

    same_offer : (k : ℕ) → offer_at (output_sight bar x output) k ≡ offer_at (sight_at wants ready rows v) k
    same_offer k =
        elim (cases_lt k count) [
          | inl l ↦ state_offer k ∙ sym (offered k l (get_or x.heads_a k None) refl) ∙ sym (wire_offer k l)
          | inr g ↦
              state_offer k
              ∙ ap (λ (o : Option ABeat). option_map a_fields (option_and_then (asks_output bar output k) o)) (get_or_past x.heads_a k None (omega (arith, g, shown.long)))
              ∙ sym (past_wire k g)
        ]

    -- as many beats follow
    follows : (k : ℕ) (head : Option ABeat) → get_or x.heads_a k None ≡ head → (c : Bool)
        → rest_a bar.width (unwrap_or (option_map a_fields (option_and_then (λ (beat : ABeat). cond c (Some (with_a_id (beat.source + (range_of bar k).start) beat)) None) head)) [])
        ≡ beats_behind_head A bar.width (unwrap_or (option_map a_fields (option_and_then (λ (beat : ABeat). cond c (Some (with_a_id (beat.source + (range_of bar k).start) beat)) None) head)) [])
    follows k None e c = request_same bar.width [] (omega arith)
    follows k (Some beat) e false = request_same bar.width [] (omega arith)
    follows k (Some beat) e true = request_same bar.width (a_fields (with_a_id (beat.source + (range_of bar k).start) beat)) (fit.each k beat e).0

    rests_at : (k : ℕ) (head : Option ABeat) → get_or x.heads_a k None ≡ head
        → rest_a bar.width (unwrap_or (option_map a_fields (option_and_then (asks_output bar output k) head)) []) ≡ beats_behind_head A bar.width (unwrap_or (option_map a_fields (option_and_then (asks_output bar output k) head)) [])
    rests_at k None e = follows k None e false
    rests_at k (Some beat) e = follows k (Some beat) e (goes_to bar output beat.address)

    keep : (o : Option (List ℕ)) → o ≡ option_map (λ items. items) o
    keep None = refl
    keep (Some items) = refl

    pub output_agrees : Agrees (rest_a bar.width) (beats_behind_head A bar.width) (λ items. items) (sight_at wants ready rows v) (output_sight bar x output)
    output_agrees = record {
      room = sym room;
      offers = λ k. same_offer k ∙ keep (offer_at (sight_at wants ready rows v) k);
      rests = λ k.
          ap (λ (o : Option (List ℕ)). rest_a bar.width (unwrap_or o [])) (state_offer k)
          ∙ rests_at k (get_or x.heads_a k None) refl
          ∙ ap (λ (o : Option (List ℕ)). beats_behind_head A bar.width (unwrap_or o [])) (sym (state_offer k) ∙ same_offer k);
    }
