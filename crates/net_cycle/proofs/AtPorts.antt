-- What ports put and take.
use Rattle.std.proofs.Common.{◌≡◌, ◌<◌, ℕ, Bool, true, false, ◌&&◌, ◌||◌, ◌==◌, [], ◌∷◌, length, map, get_or, Option, Some, None, cond, refl, sym, ap, ◌∙◌, arith, is_some, nat_lt}
use Rattle.std.specs.Option.{option_or, option_map_or}
use Rattle.std.proofs.lemmas.Bool.Decides.{nat_tests}
use Rattle.tl_edge.specs.declared.beat.ABeat.{ABeat}
use Rattle.tl_edge.specs.declared.beat.DBeat.{DBeat}
use Rattle.tl_edge.specs.declared.beat.Tag.{Tag}
use Rattle.tl_edge.specs.Plans.{edge_at}
use Rattle.flow_core.specs.declared.moves.Move.TheVariants.{Enter, Leave, Reply, Return}
use Rattle.flow_core.specs.Carried.{carries_a, carries_d}
use Rattle.flow_core.specs.Network.{State, Job, is_enabled, may_do, port_job_a, port_job_d, edge_of_port}
use Rattle.flow_core.specs.Queues.{queue, head_in, has_place, puts, takes, still}
use Rattle.flow_choice.specs.declared.offers.Offers.{Offers}
use Rattle.flow_choice.specs.Choosing.{if_enabled, entering, replying, taking, flag_at}
use Rattle.net_cycle.specs.Flows.{flow_down, flow_up, first_put, any_take}
use Rattle.net_cycle.specs.Ends.{let_in, let_back, ArePortsMoves}
use Rattle.net_cycle.proofs.Ends.{put_both, take_both, or_nothing, or_false}

pub same : (n : ℕ) → (n == n) ≡ true
same n = grind (arith, nat_tests)

pub below : (n m : ℕ) → n < m → nat_lt n m ≡ true
below n m h = grind (arith, nat_tests)

-- ---- what is asked of a port's move

pub and_true : (b : Bool) → (b && true) ≡ b
and_true true = refl
and_true false = refl

module _ (s : State) where
  may_put_a : (e : ℕ) (x : ABeat × Tag) → e < length s.a → may_do s (port_job_a (puts e x)) ≡ has_place (queue s.a e)
  may_put_a e x h = rw (below e (length s.a) h) (and_true (has_place (queue s.a e)))

  may_put_d : (e : ℕ) (x : DBeat × Tag) → e < length s.d → may_do s (port_job_d (puts e x)) ≡ has_place (queue s.d e)
  may_put_d e x h = rw (below e (length s.d) h) refl

  may_take_a : (e : ℕ) → may_do s (port_job_a (takes e)) ≡ is_some (head_in (queue s.a e))
  may_take_a e = and_true (is_some (head_in (queue s.a e)) && true) ∙ and_true (is_some (head_in (queue s.a e)))

  may_take_d : (e : ℕ) → may_do s (port_job_d (takes e)) ≡ is_some (head_in (queue s.d e))
  may_take_d e = and_true (is_some (head_in (queue s.d e)))

  -- ---- the flows of ports on the channel on which they do nothing

  enter_up : (p e : ℕ) (beat : ABeat) (tag : Tag) → edge_of_port s.plan.sources p ≡ Some e → any_take e (map (flow_up s) (if_enabled s (Enter p beat tag))) ≡ false
  enter_up p e beat tag k = at (is_enabled s (Enter p beat tag))
    where
      idle : (c : Bool) → any_take e (option_map_or (λ (does : Job). does.d) (cond c (Some (port_job_a (puts e (beat, tag)))) None) still ∷ []) ≡ false
      idle true = refl
      idle false = refl

      at : (b : Bool) → any_take e (map (flow_up s) (cond b (Enter p beat tag ∷ []) [])) ≡ false
      at false = refl
      at true = rw k (idle (carries_a (edge_at s.plan e) beat))

  entering_up : (p e : ℕ) (o : Option (ABeat × Tag)) → edge_of_port s.plan.sources p ≡ Some e → any_take e (map (flow_up s) (entering s p o)) ≡ false
  entering_up p e None k = refl
  entering_up p e (Some x) k = enter_up p e x.0 x.1 k

  reply_down : (p e : ℕ) (beat : DBeat) (tag : Tag) → edge_of_port s.plan.sinks p ≡ Some e → any_take e (map (flow_down s) (if_enabled s (Reply p beat tag))) ≡ false
  reply_down p e beat tag k = at (is_enabled s (Reply p beat tag))
    where
      idle : (c : Bool) → any_take e (option_map_or (λ (does : Job). does.a) (cond c (Some (port_job_d (puts e (beat, tag)))) None) still ∷ []) ≡ false
      idle true = refl
      idle false = refl

      at : (b : Bool) → any_take e (map (flow_down s) (cond b (Reply p beat tag ∷ []) [])) ≡ false
      at false = refl
      at true = rw k (idle (carries_d (edge_at s.plan e) beat))

  replying_down : (p e : ℕ) (o : Option (DBeat × Tag)) → edge_of_port s.plan.sinks p ≡ Some e → any_take e (map (flow_down s) (replying s p o)) ≡ false
  replying_down p e None k = refl
  replying_down p e (Some x) k = reply_down p e x.0 x.1 k

  return_down : (p e : ℕ) (t : Bool) → edge_of_port s.plan.sources p ≡ Some e → first_put e (map (flow_down s) (taking s (Return p) t)) ≡ None
  return_down p e false k = refl
  return_down p e true k = at (is_enabled s (Return p))
    where
      at : (b : Bool) → first_put e (map (flow_down s) (cond b (Return p ∷ []) [])) ≡ None
      at false = refl
      at true = rw k refl

  leave_up : (p e : ℕ) (t : Bool) → edge_of_port s.plan.sinks p ≡ Some e → first_put e (map (flow_up s) (taking s (Leave p) t)) ≡ None
  leave_up p e false k = refl
  leave_up p e true k = at (is_enabled s (Leave p))
    where
      at : (b : Bool) → first_put e (map (flow_up s) (cond b (Leave p ∷ []) [])) ≡ None
      at false = refl
      at true = rw k refl

  -- ---- and on the channel on which they do something

  entering_down : (p e : ℕ) (o : Option (ABeat × Tag)) → edge_of_port s.plan.sources p ≡ Some e → e < length s.a → first_put e (map (flow_down s) (entering s p o)) ≡ let_in s e o
  entering_down p e None k h = refl
  entering_down p e (Some x) k h = at (carries_a (edge_at s.plan e) x.0) refl
    where
      on : (b : Bool) → has_place (queue s.a e) ≡ b → carries_a (edge_at s.plan e) x.0 ≡ true → first_put e (map (flow_down s) (cond b (Enter p x.0 x.1 ∷ []) [])) ≡ cond (b && true) (Some x) None
      on false q c = refl
      on true q c = rw (k, c, same e) refl

      at : (c : Bool) → carries_a (edge_at s.plan e) x.0 ≡ c → first_put e (map (flow_down s) (if_enabled s (Enter p x.0 x.1))) ≡ let_in s e (Some x)
      at false c =
          let n : is_enabled s (Enter p x.0 x.1) ≡ false = rw (k, c) refl in
          rw (n, c) (off (has_place (queue s.a e)))
        where
          off : (b : Bool) → None ≡ cond (b && false) (Some x) None
          off true = refl
          off false = refl
      at true c =
          let n : is_enabled s (Enter p x.0 x.1) ≡ has_place (queue s.a e) = rw (k, c) (may_put_a e x h) in
          ap (λ b. first_put e (map (flow_down s) (cond b (Enter p x.0 x.1 ∷ []) []))) n ∙ on (has_place (queue s.a e)) refl c ∙ ap (λ c. cond (has_place (queue s.a e) && c) (Some x) None) (sym c)

  replying_up : (p e : ℕ) (o : Option (DBeat × Tag)) → edge_of_port s.plan.sinks p ≡ Some e → e < length s.d → first_put e (map (flow_up s) (replying s p o)) ≡ let_back s e o
  replying_up p e None k h = refl
  replying_up p e (Some x) k h = at (carries_d (edge_at s.plan e) x.0) refl
    where
      on : (b : Bool) → has_place (queue s.d e) ≡ b → carries_d (edge_at s.plan e) x.0 ≡ true → first_put e (map (flow_up s) (cond b (Reply p x.0 x.1 ∷ []) [])) ≡ cond (b && true) (Some x) None
      on false q c = refl
      on true q c = rw (k, c, same e) refl

      at : (c : Bool) → carries_d (edge_at s.plan e) x.0 ≡ c → first_put e (map (flow_up s) (if_enabled s (Reply p x.0 x.1))) ≡ let_back s e (Some x)
      at false c =
          let n : is_enabled s (Reply p x.0 x.1) ≡ false = rw (k, c) refl in
          rw (n, c) (off (has_place (queue s.d e)))
        where
          off : (b : Bool) → None ≡ cond (b && false) (Some x) None
          off true = refl
          off false = refl
      at true c =
          let n : is_enabled s (Reply p x.0 x.1) ≡ has_place (queue s.d e) = rw (k, c) (may_put_d e x h) in
          ap (λ b. first_put e (map (flow_up s) (cond b (Reply p x.0 x.1 ∷ []) []))) n ∙ on (has_place (queue s.d e)) refl c ∙ ap (λ c. cond (has_place (queue s.d e) && c) (Some x) None) (sym c)

  leave_down : (p e : ℕ) (t : Bool) → edge_of_port s.plan.sinks p ≡ Some e → any_take e (map (flow_down s) (taking s (Leave p) t)) ≡ (t && is_some (head_in (queue s.a e)))
  leave_down p e false k = refl
  leave_down p e true k =
      let n : is_enabled s (Leave p) ≡ is_some (head_in (queue s.a e)) = rw k (may_take_a e) in
      ap (λ b. any_take e (map (flow_down s) (cond b (Leave p ∷ []) []))) n ∙ at (is_some (head_in (queue s.a e)))
    where
      at : (b : Bool) → any_take e (map (flow_down s) (cond b (Leave p ∷ []) [])) ≡ b
      at false = refl
      at true = rw (k, same e) refl

  return_up : (p e : ℕ) (t : Bool) → edge_of_port s.plan.sources p ≡ Some e → any_take e (map (flow_up s) (taking s (Return p) t)) ≡ (t && is_some (head_in (queue s.d e)))
  return_up p e false k = refl
  return_up p e true k =
      let n : is_enabled s (Return p) ≡ is_some (head_in (queue s.d e)) = rw k (may_take_d e) in
      ap (λ b. any_take e (map (flow_up s) (cond b (Return p ∷ []) []))) n ∙ at (is_some (head_in (queue s.d e)))
    where
      at : (b : Bool) → any_take e (map (flow_up s) (cond b (Return p ∷ []) [])) ≡ b
      at false = refl
      at true = rw (k, same e) refl

  module _ (offers : Offers) (down_there : (p e : ℕ) → edge_of_port s.plan.sources p ≡ Some e → e < length s.a) (up_there : (p e : ℕ) → edge_of_port s.plan.sinks p ≡ Some e → e < length s.d) where
    pub at_ports : ArePortsMoves s.plan s offers
    at_ports = record {
      enter = λ p e k.
          put_both (flow_down s) e (entering s p (get_or offers.enter p None)) (taking s (Return p) (flag_at offers.take_d p))
          ∙ ap (option_or (first_put e (map (flow_down s) (entering s p (get_or offers.enter p None))))) (return_down p e (flag_at offers.take_d p) k)
          ∙ or_nothing (first_put e (map (flow_down s) (entering s p (get_or offers.enter p None)))) ∙ entering_down p e (get_or offers.enter p None) k (down_there p e k);
      return = λ p e k.
          take_both (flow_up s) e (entering s p (get_or offers.enter p None)) (taking s (Return p) (flag_at offers.take_d p))
          ∙ ap (λ b. b || any_take e (map (flow_up s) (taking s (Return p) (flag_at offers.take_d p)))) (entering_up p e (get_or offers.enter p None) k)
          ∙ return_up p e (flag_at offers.take_d p) k;
      leave = λ p e k.
          take_both (flow_down s) e (taking s (Leave p) (flag_at offers.take_a p)) (replying s p (get_or offers.reply p None))
          ∙ ap (λ b. any_take e (map (flow_down s) (taking s (Leave p) (flag_at offers.take_a p))) || b) (replying_down p e (get_or offers.reply p None) k)
          ∙ or_false (any_take e (map (flow_down s) (taking s (Leave p) (flag_at offers.take_a p)))) ∙ leave_down p e (flag_at offers.take_a p) k;
      reply = λ p e k.
          put_both (flow_up s) e (taking s (Leave p) (flag_at offers.take_a p)) (replying s p (get_or offers.reply p None))
          ∙ ap (λ o. option_or o (first_put e (map (flow_up s) (replying s p (get_or offers.reply p None))))) (leave_up p e (flag_at offers.take_a p) k)
          ∙ replying_up p e (get_or offers.reply p None) k (up_there p e k);
    }
