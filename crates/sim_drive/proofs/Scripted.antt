-- The requests of a stimulus shared out among source ports.
use Rattle.std.proofs.Common.{◌≡◌, ℕ, zero, suc, ◌+◌, ◌<◌, Bool, true, false, cond, eqb, inl, inr, List, [], ◌∷◌, ◌++◌, get_or, length, map, take, Some, slice_get, refl, ap, subst, sym, ◌∙◌, arith}
use Rattle.std.specs.Prelude.{All}
use Rattle.std.proofs.Math.ListN.{set}
use Rattle.std.proofs.lemmas.Bool.{cases_order, eqb-true, eqb-false}
use Rattle.std.proofs.lemmas.List.{append-nil, length-append, length-set, map_push}
use Rattle.std.proofs.lemmas.List.Elements.{filter-append}
use Rattle.std.proofs.lemmas.Option.{same_Some, slice_get_read, slice_get_within}
use Rattle.tl_edge.specs.declared.message.Request.{Request}
use Rattle.sim_ports.specs.declared.stimulus.StimRequest.{StimRequest}
use Rattle.sim_events.specs.Setups.{stated_at}
use Rattle.sim_drive.specs.declared.scripts.Asked.{Asked}
use Rattle.sim_drive.specs.Opening.{AreAskedBy}
use Rattle.sim_drive.proofs.Freshly.{at_end, left_of}
use Rattle.sim_drive.proofs.Prepares.{IsNext}
use Rattle.sim_drive.proofs.Sharing.{front_more}

get_set_same : {X : Type 0} (xs : List X) (i : ℕ) (y : X) → i < length xs → slice_get (set xs i y) i ≡ Some y
get_set_same [] i y lt = absurd (omega arith)
get_set_same (x ∷ xs) zero y lt = refl
get_set_same (x ∷ xs) (suc i) y lt = get_set_same xs i y (omega arith)

get_set_other : {X : Type 0} (xs : List X) (i j : ℕ) (y : X) → (i ≡ j → ⊥) → slice_get (set xs i y) j ≡ slice_get xs j
get_set_other [] i j y apart = refl
get_set_other (x ∷ xs) zero zero y apart = absurd (apart refl)
get_set_other (x ∷ xs) zero (suc j) y apart = refl
get_set_other (x ∷ xs) (suc i) zero y apart = refl
get_set_other (x ∷ xs) (suc i) (suc j) y apart = get_set_other xs i j y (λ e. apart (ap (λ n. suc n) e))

-- the requests at a port with one request more
stated_more : (requests : List StimRequest) (one : StimRequest) (port : ℕ)
    → stated_at port (requests ++ one ∷ []) ≡ stated_at port requests ++ cond (eqb one.port port) (one ∷ []) []
stated_more requests one port = filter-append (λ (asked : StimRequest). eqb asked.port port) requests (one ∷ [])

-- what a port is asked, by the requests at it
pub record IsAsked (stated : List StimRequest) (asked : Asked) : Type 0 where
  pub requests : asked.requests ≡ map (λ (one : StimRequest). one.request) stated
  pub starts : asked.starts ≡ map (λ (one : StimRequest). one.at) stated

one_more : (stated : List StimRequest) (one : StimRequest) (old new : Asked) → IsAsked stated old → new.requests ≡ old.requests ++ one.request ∷ []
    → new.starts ≡ old.starts ++ one.at ∷ [] → IsAsked (stated ++ one ∷ []) new
one_more stated one old new before asks starts = record {
  requests = asks ∙ ap (λ (xs : List Request). xs ++ one.request ∷ []) before.requests ∙ sym (map_push (λ (r : StimRequest). r.request) stated one);
  starts = starts ∙ ap (λ (xs : List ℕ). xs ++ one.at ∷ []) before.starts ∙ sym (map_push (λ (r : StimRequest). r.at) stated one);
}

pub asked_at : (requests : List StimRequest) (count : ℕ) (lists : List Asked) (port : ℕ) (asked : Asked) → AreAskedBy requests count lists
    → slice_get lists port ≡ Some asked → IsAsked (stated_at port requests) asked
asked_at requests count lists port asked all is = let both = all.each port asked is in record { requests = both.0; starts = both.1 }

-- one port more, which is asked nothing
pub nothing_more : (count : ℕ) (lists news : List Asked) (one : Asked) → AreAskedBy [] count lists → one.requests ≡ [] → one.starts ≡ [] → news ≡ lists ++ one ∷ []
    → AreAskedBy [] (count + 1) news
nothing_more count lists news one before asks starts grown = record {
  long = omega (arith, ap length grown, length-append lists (one ∷ []), before.long);
  each = λ port asked is.
      let there : slice_get (lists ++ one ∷ []) port ≡ Some asked = subst (λ (xs : List Asked). slice_get xs port ≡ Some asked) grown is in
      elim (cases_order port count) [
        | inl q ↦
            let same : one ≡ asked = same_Some one asked (sym (at_end lists one port (q ∙ sym before.long)) ∙ there) in
            (ap (λ (x : Asked). x.requests) (sym same) ∙ asks, ap (λ (x : Asked). x.starts) (sym same) ∙ starts)
        | inr o ↦ elim o [
          | inl b ↦ before.each port asked (sym (left_of lists (one ∷ []) port (omega (arith, b, before.long))) ∙ there)
          | inr b ↦ absurd (let l = slice_get_within (lists ++ one ∷ []) port asked there in omega (arith, l, b, before.long, length-append lists (one ∷ [])))
        ]
      ];
}

-- one request more, at its port
pub asked_more : (requests : List StimRequest) (one : StimRequest) (count : ℕ) (lists : List Asked) (old new : Asked) → AreAskedBy requests count lists
    → one.port < count → slice_get lists one.port ≡ Some old → new.requests ≡ old.requests ++ one.request ∷ [] → new.starts ≡ old.starts ++ one.at ∷ []
    → AreAskedBy (requests ++ one ∷ []) count (set lists one.port new)
asked_more requests one count lists old new before within here asks starts = record {
  long = length-set lists one.port new ∙ before.long;
  each = λ port asked is. let got = at port asked is (eqb one.port port) refl in (got.requests, got.starts);
}
  where
    at : (port : ℕ) (asked : Asked) → slice_get (set lists one.port new) port ≡ Some asked → (b : Bool) → eqb one.port port ≡ b
        → IsAsked (stated_at port (requests ++ one ∷ [])) asked
    at port asked is true e =
        let same : one.port ≡ port = eqb-true one.port port e in
        let stated : stated_at port (requests ++ one ∷ []) ≡ stated_at port requests ++ one ∷ [] =
        stated_more requests one port ∙ ap (λ (b : Bool). stated_at port requests ++ cond b (one ∷ []) []) e in
        let there : slice_get (set lists one.port new) one.port ≡ Some new = get_set_same lists one.port new (omega (arith, before.long)) in
        let got : new ≡ asked = same_Some new asked (sym there ∙ subst (λ n. slice_get (set lists one.port new) n ≡ Some asked) (sym same) is) in
        let olds : IsAsked (stated_at port requests) old = asked_at requests count lists port old before (subst (λ n. slice_get lists n ≡ Some old) same here) in
        subst (λ (xs : List StimRequest). IsAsked xs asked) (sym stated)
        (subst (λ (x : Asked). IsAsked (stated_at port requests ++ one ∷ []) x) got (one_more (stated_at port requests) one old new olds asks starts))
    at port asked is false e =
        let stated : stated_at port (requests ++ one ∷ []) ≡ stated_at port requests =
        stated_more requests one port ∙ ap (λ (b : Bool). stated_at port requests ++ cond b (one ∷ []) []) e ∙ append-nil (stated_at port requests) in
        let other = get_set_other lists one.port port new (eqb-false one.port port e) in
        subst (λ (xs : List StimRequest). IsAsked xs asked) (sym stated) (asked_at requests count lists port asked before (sym other ∙ is))

-- the step of a loop over the requests
pub asks_one : (requests : List StimRequest) (place count : ℕ) (one : StimRequest) (lists : List Asked) (old new : Asked) → AreAskedBy (take place requests) count lists
    → place < length requests → one ≡ get_or requests place one → one.port < count → old ≡ get_or lists one.port old
    → new.requests ≡ old.requests ++ one.request ∷ [] → new.starts ≡ old.starts ++ one.at ∷ []
    → AreAskedBy (take (place + 1) requests) count (set lists one.port new)
asks_one requests place count one lists old new before within is below here asks starts =
    subst (λ (rs : List StimRequest). AreAskedBy rs count (set lists one.port new)) (front_more requests place one within is)
    (asked_more (take place requests) one count lists old new before below (slice_get_read lists count one.port old (sym before.long) below here) asks starts)

pub next_has : (requests rest : List StimRequest) (place count : ℕ) (one : StimRequest) → All (λ (asked : StimRequest). asked.port < count) requests
    → IsNext requests place one rest → place < length requests → one.port < count
next_has requests rest place count one all next within =
    subst (λ (asked : StimRequest). asked.port < count) (sym next.here) (all place one within)
