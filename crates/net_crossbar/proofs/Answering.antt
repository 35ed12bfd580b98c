-- What wires show the gate of an input is what the network states that it sees, with its ids not yet moved back.
use Rattle.std.proofs.Common.{◌≡◌, ℕ, ◌-◌, ◌<◌, ◌≤◌, Bool, true, false, cond, ◌&&◌, List, [], ◌∷◌, length, get_or, Option, Some, None, refl, sym, ap, ◌∙◌, subst, arith, inl, inr}
use Rattle.std.specs.Prelude.{slice_set}
use Rattle.std.specs.Option.{option_and_then, option_map, unwrap_or}
use Rattle.std.proofs.lemmas.Bool.{cases_lt}
use Rattle.std.proofs.lemmas.List.{get_or_past, length-map}
use Rattle.dip_sets.specs.Ids.{has_id}
use Rattle.tl_edge.specs.declared.beat.DBeat.{DBeat}
use Rattle.tl_edge.specs.Wires.{d_fields}
use Rattle.flow_core.specs.Acts.{with_d_id}
use Rattle.flow_core.specs.Crossing.{Crossbar}
use Rattle.net_build.specs.declared.types.Wire.{Wire}
use Rattle.net_build.specs.Bits.{highs, wire_values}
use Rattle.net_build.specs.Columns.{no_wire}
use Rattle.net_build.specs.Values.{high}
use Rattle.net_gate.specs.Gates.{offer_at, sight_at}
use Rattle.net_gate.proofs.Serves.{offers_are}
use Rattle.net_queue.specs.Leaves.{LeafView}
use Rattle.net_xbar.specs.Ways.{asks_input, input_sight, offers_from, range_of, rest_d}
use Rattle.net_xbar.proofs.Acting.{map_at, offers_at_place}
use Rattle.net_crossbar.specs.declared.channel.Channel.TheVariants.{D}
use Rattle.net_crossbar.specs.Rests.{beats_behind_head}
use Rattle.net_crossbar.proofs.Agreeing.{Agrees}
use Rattle.net_crossbar.proofs.Asking.{ShowHeads, highs_flag, shown_none, shown_some}
use Rattle.net_crossbar.proofs.Behind.{response_same}

-- each head of a response is of a size that a message may have
pub record RepliesFit (heads : List (Option DBeat)) : Type 0 where
  pub each : (k : ℕ) (beat : DBeat) → get_or heads k None ≡ Some beat → beat.size ≤ 8

module _ (bar : Crossbar) (count : ℕ) (valids : List Wire) (raws rows : List (List Wire)) (v : ℕ → ℕ) (x : LeafView)
    (shown : ShowHeads d_fields count valids raws v x.heads_d) (fit : RepliesFit x.heads_d) (rows_long : length rows ≡ count)
    (same : (k : ℕ) → k < count → wire_values v (get_or rows k []) ≡ wire_values v (get_or raws k [])) where
  module _ (input : ℕ) (wants : List Wire) (ready : Wire) (wants_long : length wants ≡ count)
      (told : (k : ℕ) → k < count → high v (get_or wants k no_wire) ≡ (high v (get_or valids k no_wire) && has_id (range_of bar input) (get_or (wire_values v (get_or raws k [])) 2 0)))
      (room : high v ready ≡ get_or x.room_d input false) where
    -- fields with the id moved back
    abbrev pub back : List ℕ → List ℕ
    back items = slice_set items 2 (get_or items 2 0 - (range_of bar input).start)

    abbrev replied : Bool → DBeat → Option (List ℕ)
    replied c beat = option_map d_fields (cond c (Some (with_d_id (beat.source - (range_of bar input).start) beat)) None)

    moved : (c : Bool) (beat : DBeat) → replied c beat ≡ option_map back (cond c (Some (d_fields beat)) None)
    moved true beat = refl
    moved false beat = refl

    offered : (k : ℕ) → k < count → (head : Option DBeat) → get_or x.heads_d k None ≡ head
        → option_map d_fields (option_and_then (asks_input bar input) head) ≡ option_map back (cond (high v (get_or wants k no_wire)) (Some (wire_values v (get_or rows k []))) None)
    offered k l None e =
        let c = shown_none (high v (get_or valids k no_wire)) (wire_values v (get_or raws k [])) (shown.each k l ∙ ap (option_map d_fields) e) in
        sym (ap (λ (c : Bool). option_map back (cond c (Some (wire_values v (get_or rows k []))) None)) (told k l ∙ ap (λ (c : Bool). c && has_id (range_of bar input) (get_or (wire_values v (get_or raws k [])) 2 0)) c))
    offered k l (Some beat) e =
        let c = shown_some (high v (get_or valids k no_wire)) (wire_values v (get_or raws k [])) (d_fields beat) (shown.each k l ∙ ap (option_map d_fields) e) in
        let w : high v (get_or wants k no_wire) ≡ has_id (range_of bar input) beat.source =
        told k l ∙ ap (λ (c : Bool). c && has_id (range_of bar input) (get_or (wire_values v (get_or raws k [])) 2 0)) c.0
        ∙ ap (λ (fs : List ℕ). has_id (range_of bar input) (get_or fs 2 0)) c.1 in
        moved (has_id (range_of bar input) beat.source) beat
        ∙ sym (ap (λ (c : Bool). option_map back (cond c (Some (wire_values v (get_or rows k []))) None)) w
        ∙ ap (λ (fs : List ℕ). option_map back (cond (has_id (range_of bar input) beat.source) (Some fs) None)) (same k l ∙ c.1))

    wire_offer : (k : ℕ) → k < count → offer_at (sight_at wants ready rows v) k ≡ cond (high v (get_or wants k no_wire)) (Some (wire_values v (get_or rows k []))) None
    wire_offer k l =
        offers_are v wants rows k (rows_long ∙ sym wants_long)
        ∙ ap (λ (c : Bool). cond c (Some (wire_values v (get_or rows k []))) None) (highs_flag v wants k (omega (arith, l, wants_long)))

    state_offer : (k : ℕ) → offer_at (input_sight bar x input) k ≡ option_map d_fields (option_and_then (asks_input bar input) (get_or x.heads_d k None))
    state_offer k = map_at d_fields (offers_from (λ output. asks_input bar input) 0 x.heads_d) k ∙ ap (option_map d_fields) (offers_at_place (λ output. asks_input bar input) 0 x.heads_d k)

    past_wire : (k : ℕ) → count ≤ k → offer_at (sight_at wants ready rows v) k ≡ None
    past_wire k l =
        offers_are v wants rows k (rows_long ∙ sym wants_long)
        ∙ ap (λ (c : Bool). cond c (Some (wire_values v (get_or rows k []))) None) (get_or_past (highs v wants) k false (omega (arith, l, wants_long, length-map wants (high v))))

    moved_offer : (k : ℕ) → offer_at (input_sight bar x input) k ≡ option_map back (offer_at (sight_at wants ready rows v) k)
    moved_offer k =
        elim (cases_lt k count) [
          | inl l ↦ state_offer k ∙ offered k l (get_or x.heads_d k None) refl ∙ ap (option_map back) (sym (wire_offer k l))
          | inr g ↦
              state_offer k
              ∙ ap (λ (o : Option DBeat). option_map d_fields (option_and_then (asks_input bar input) o)) (get_or_past x.heads_d k None (omega (arith, g, shown.long)))
              ∙ ap (option_map back) (sym (past_wire k g))
        ]

    follows : (k : ℕ) (head : Option DBeat) → get_or x.heads_d k None ≡ head → (c : Bool)
        → rest_d bar.width (unwrap_or (option_map d_fields (option_and_then (λ (beat : DBeat). cond c (Some (with_d_id (beat.source - (range_of bar input).start) beat)) None) head)) [])
        ≡ beats_behind_head D bar.width (unwrap_or (option_map d_fields (option_and_then (λ (beat : DBeat). cond c (Some (with_d_id (beat.source - (range_of bar input).start) beat)) None) head)) [])
    follows k None e c = response_same bar.width [] (omega arith)
    follows k (Some beat) e false = response_same bar.width [] (omega arith)
    follows k (Some beat) e true = response_same bar.width (d_fields (with_d_id (beat.source - (range_of bar input).start) beat)) (fit.each k beat e)

    rests_at : (k : ℕ) (head : Option DBeat) → get_or x.heads_d k None ≡ head
        → rest_d bar.width (unwrap_or (option_map d_fields (option_and_then (asks_input bar input) head)) []) ≡ beats_behind_head D bar.width (unwrap_or (option_map d_fields (option_and_then (asks_input bar input) head)) [])
    rests_at k None e = follows k None e false
    rests_at k (Some beat) e = follows k (Some beat) e (has_id (range_of bar input) beat.source)

    -- the id makes no difference to how many beats follow
    behind_back : (o : Option (List ℕ)) → beats_behind_head D bar.width (unwrap_or (option_map back o) []) ≡ beats_behind_head D bar.width (unwrap_or o [])
    behind_back None = refl
    behind_back (Some []) = refl
    behind_back (Some (a ∷ [])) = refl
    behind_back (Some (a ∷ b ∷ [])) = refl
    behind_back (Some (a ∷ b ∷ c ∷ more)) = refl

    pub input_agrees : Agrees (rest_d bar.width) (beats_behind_head D bar.width) back (sight_at wants ready rows v) (input_sight bar x input)
    input_agrees = record {
      room = sym room;
      offers = moved_offer;
      rests = λ k.
          ap (λ (o : Option (List ℕ)). rest_d bar.width (unwrap_or o [])) (state_offer k)
          ∙ rests_at k (get_or x.heads_d k None) refl
          ∙ ap (λ (o : Option (List ℕ)). beats_behind_head D bar.width (unwrap_or o [])) (sym (state_offer k) ∙ moved_offer k)
          ∙ behind_back (offer_at (sight_at wants ready rows v) k);
    }

    -- what is offered has an id of the range
    shown_in : (c d : Bool) (values items : List ℕ) → c ≡ d → cond c (Some values) None ≡ Some items → (d ≡ true) × (values ≡ items)
    shown_in c d values items e f = let g = shown_some c values items f in (sym e ∙ g.0, g.1)

    right_of : (a b : Bool) → (a && b) ≡ true → b ≡ true
    right_of true b e = e
    right_of false b e = absurd (let f : false ≡ true = e in cc)

    pub offered_in : (k : ℕ) (items : List ℕ) → offer_at (sight_at wants ready rows v) k ≡ Some items → has_id (range_of bar input) (get_or items 2 0) ≡ true
    offered_in k items e =
        elim (cases_lt k count) [
          | inl l ↦
              let g = shown_in (high v (get_or wants k no_wire)) _ (wire_values v (get_or rows k [])) items (told k l) (sym (wire_offer k l) ∙ e) in
              subst (λ (fs : List ℕ). has_id (range_of bar input) (get_or fs 2 0) ≡ true) (sym (same k l) ∙ g.1)
              (right_of (high v (get_or valids k no_wire)) (has_id (range_of bar input) (get_or (wire_values v (get_or raws k [])) 2 0)) g.0)
          | inr g ↦ absurd (let f : None ≡ Some items = sym (past_wire k g) ∙ e in cc)
        ]
