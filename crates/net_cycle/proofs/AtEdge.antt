-- What one flow, and several, do at an edge.
use Rattle.std.proofs.Common.{◌≡◌, ◌≢◌, ℕ, zero, suc, ◌<◌, ◌≤◌, ◌==◌, Bool, true, false, ◌||◌, cond, List, [], ◌∷◌, ◌++◌, length, Option, Some, None, get_or, drop, refl, sym, ap, ◌∙◌, subst, arith, append-nil, is_some}
use Rattle.std.specs.Option.{option_or}
use Rattle.std.proofs.lemmas.List.{get_or-set_same, get_or-set_other, length-set}
use Rattle.std.proofs.lemmas.Bool.Decides.{nat_tests}
use Rattle.flow_core.specs.declared.queue.Flow.{Flow}
use Rattle.flow_core.specs.Queues.{queue, one_waiting, taken, put_last, flowed}
use Rattle.flow_choice.proofs.Queueing.{Apart, took, HasHead, HasRoom}
use Rattle.net_queue.specs.Queues.{Moved, moved_on}
use Rattle.net_cycle.specs.Flows.{put_here, taken_here, first_put, any_take, moved_here}

-- of each flow in a list
abbrev pub EachFlow : {B : Type 0} → (Flow B → Type 0) → List (Flow B) → Type 0
EachFlow P [] = Unit {0}
EachFlow P (f ∷ fs) = P f × EachFlow P fs

pub same_number : (n m : ℕ) → (n == m) ≡ true → n ≡ m
same_number n m e = grind (arith, nat_tests)

pub other_number : (n m : ℕ) → (n == m) ≡ false → n ≢ m
other_number n m e q = grind (arith, nat_tests)

module _ {B : Type 0} where
  within : (qs : List (List B)) (e : ℕ) → 0 < length (get_or qs e []) → e < length qs
  within [] e h = absurd (omega arith)
  within (q ∷ qs) zero h = omega arith
  within (q ∷ qs) (suc e) h = let k = within qs e h in omega arith

  -- a take leaves of each queue what it says
  take_at : (t : Option ℕ) (e : ℕ) (qs : List (List B)) → HasHead qs t → queue (taken t qs) e ≡ cond (taken_here e t) (drop 1 (queue qs e)) (queue qs e)
  unfolding HasHead
  take_at None e qs h = refl
  take_at (Some f) e qs h = at (f == e) refl
    where
      at : (b : Bool) → (f == e) ≡ b → queue (taken (Some f) qs) e ≡ cond b (drop 1 (queue qs e)) (queue qs e)
      at true k = let s = same_number f e k in rw (← s) (get_or-set_same qs f (drop 1 (queue qs f)) [] (within qs f h))
      at false k = get_or-set_other qs f e (drop 1 (queue qs f)) [] (λ x. other_number f e k (sym x))

  -- and a put
  put_at : (p : Option (ℕ × B)) (e : ℕ) (qs : List (List B)) → HasRoom qs p → queue (put_last p qs) e ≡ queue qs e ++ one_waiting (put_here e p)
  unfolding HasRoom
  put_at None e qs h = sym (append-nil (queue qs e))
  put_at (Some p) e qs h = at (p.0 == e) refl
    where
      at : (b : Bool) → (p.0 == e) ≡ b → queue (put_last (Some p) qs) e ≡ queue qs e ++ one_waiting (cond b (Some p.1) None)
      at true k = let s = same_number p.0 e k in rw (← s) (get_or-set_same qs p.0 (queue qs p.0 ++ p.1 ∷ []) [] h.0)
      at false k = get_or-set_other qs p.0 e (queue qs p.0 ++ p.1 ∷ []) [] (λ x. other_number p.0 e k (sym x)) ∙ sym (append-nil (queue qs e))

  -- what one flow does at an edge
  abbrev pub one : ℕ → Flow B → Moved B
  one e f = record { put = put_here e f.put; take = taken_here e (took f) }

  pub flow_at : (f : Flow B) (e : ℕ) (qs : List (List B)) → HasHead qs (took f) → HasRoom (taken (took f) qs) f.put → queue (flowed f qs) e ≡ moved_on (queue qs e) (one e f)
  flow_at f e qs h r = put_at f.put e (taken (took f) qs) r ∙ ap (λ q. q ++ one_waiting (put_here e f.put)) (take_at (took f) e qs h)

  -- a flow that finds head and room finds them as it is made
  pub head_taken : (f : Flow B) (qs : List (List B)) → HasHead qs f.from → HasHead qs (took f)
  unfolding HasHead
  head_taken f qs h = at f.take f.from h
    where
      at : (b : Bool) (o : Option ℕ) → HasHead qs o → HasHead qs (cond b o None)
      at true o h = h
      at false o h = tt

  shorter : (q : List B) → length (drop 1 q) ≤ length q
  shorter [] = omega arith
  shorter (x ∷ q) = omega arith

  pub room_after : (f : Flow B) (qs : List (List B)) → HasRoom qs f.put → HasRoom (taken (took f) qs) f.put
  unfolding HasRoom
  room_after f qs h = at (took f) f.put h
    where
      at : (t : Option ℕ) (p : Option (ℕ × B)) → HasRoom qs p → HasRoom (taken t qs) p
      at t None h = tt
      at None (Some p) h = h
      at (Some n) (Some p) h = (rw (length-set qs n (drop 1 (queue qs n))) h.0, both (n == p.0) refl)
        where
          both : (b : Bool) → (n == p.0) ≡ b → length (queue (taken (Some n) qs) p.0) < 2
          both true k = let s = same_number n p.0 k in rw (← s) (rw (get_or-set_same qs n (drop 1 (queue qs n)) [] (subst (λ x. x < length qs) (sym s) h.0)) (let w = shorter (queue qs n) in let z : length (queue qs n) < 2 = subst (λ x. length (queue qs x) < 2) (sym s) h.1 in omega (arith, w, z)))
          both false k = rw (get_or-set_other qs n p.0 (drop 1 (queue qs n)) [] (λ x. other_number n p.0 k (sym x))) h.1

  -- ---- two of them

  -- not both put, and not both take
  pub record Alone (m n : Moved B) : Type 0 where
    pub put : (x : B) → m.put ≡ Some x → n.put ≡ None
    pub take : m.take ≡ true → n.take ≡ false

  abbrev pub together : Moved B → Moved B → Moved B
  together m n = record { put = option_or m.put n.put; take = m.take || n.take }

  dropped : (q r : List B) → 0 < length q → drop 1 (q ++ r) ≡ drop 1 q ++ r
  dropped [] r h = absurd (omega arith)
  dropped (x ∷ q) r h = refl

  no_more : (o : Option B) (q : List B) → o ≡ None → q ++ one_waiting o ≡ q
  no_more o q e = rw e (append-nil q)

  puts_two : (m n : Option B) (q : List B) → ((x : B) → m ≡ Some x → n ≡ None) → (q ++ one_waiting m) ++ one_waiting n ≡ q ++ one_waiting (option_or m n)
  puts_two None n q h = ap (λ r. r ++ one_waiting n) (append-nil q)
  puts_two (Some x) n q h = no_more n (q ++ x ∷ []) (h x refl)

  pub moves_two : (m n : Moved B) (q : List B) → Alone m n → (n.take ≡ true → 0 < length q) → moved_on (moved_on q m) n ≡ moved_on q (together m n)
  moves_two m n q a h = at m.take n.take refl refl
    where
      at : (s t : Bool) → m.take ≡ s → n.take ≡ t → cond t (drop 1 (cond s (drop 1 q) q ++ one_waiting m.put)) (cond s (drop 1 q) q ++ one_waiting m.put) ++ one_waiting n.put ≡ cond (s || t) (drop 1 q) q ++ one_waiting (option_or m.put n.put)
      at true true e f = let k = a.take e in absurd (cc (k, f))
      at true false e f = puts_two m.put n.put (drop 1 q) a.put
      at false true e f = rw (dropped q (one_waiting m.put) (h f)) (puts_two m.put n.put (drop 1 q) a.put)
      at false false e f = puts_two m.put n.put q a.put

  -- ---- several

  -- flows that are apart from one don't do what it does
  puts_none : (e : ℕ) (f g : Flow B) (x : B) → Apart f g → put_here e f.put ≡ Some x → put_here e g.put ≡ None
  puts_none e f g x a h = at f.put g.put refl refl h
    where
      at : (o p : Option (ℕ × B)) → f.put ≡ o → g.put ≡ p → put_here e o ≡ Some x → put_here e p ≡ None
      at None p j k h = absurd cc
      at (Some o) None j k h = refl
      at (Some o) (Some p) j k h = both (o.0 == e) (p.0 == e) refl refl h
        where
          both : (s t : Bool) → (o.0 == e) ≡ s → (p.0 == e) ≡ t → cond s (Some o.1) None ≡ Some x → cond t (Some p.1) None ≡ None
          both false t u v h = absurd cc
          both true false u v h = refl
          both true true u v h = absurd (a.1 o p j k (same_number o.0 e u ∙ sym (same_number p.0 e v)))

  pub took_from : (f : Flow B) (e : ℕ) → taken_here e (took f) ≡ true → f.from ≡ Some e
  took_from f e h = at f.take f.from h
    where
      at : (b : Bool) (o : Option ℕ) → taken_here e (cond b o None) ≡ true → o ≡ Some e
      at false o h = absurd cc
      at true None h = absurd cc
      at true (Some n) h = ap Some (same_number n e h)

  takes_none : (e : ℕ) (f g : Flow B) → Apart f g → taken_here e (took f) ≡ true → taken_here e (took g) ≡ false
  takes_none e f g a h = at (taken_here e (took g)) refl
    where
      at : (b : Bool) → taken_here e (took g) ≡ b → taken_here e (took g) ≡ false
      at false k = k
      at true k = absurd (a.0 e (took_from f e h) (took_from g e k))

  all_put_none : (e : ℕ) (f : Flow B) (gs : List (Flow B)) (x : B) → EachFlow (Apart f) gs → put_here e f.put ≡ Some x → first_put e gs ≡ None
  all_put_none e f [] x a h = refl
  all_put_none e f (g ∷ gs) x a h = rw (puts_none e f g x a.0 h) (all_put_none e f gs x a.1 h)

  all_take_none : (e : ℕ) (f : Flow B) (gs : List (Flow B)) → EachFlow (Apart f) gs → taken_here e (took f) ≡ true → any_take e gs ≡ false
  all_take_none e f [] a h = refl
  all_take_none e f (g ∷ gs) a h = rw (takes_none e f g a.0 h) (all_take_none e f gs a.1 h)

  pub alone_of : (e : ℕ) (f : Flow B) (gs : List (Flow B)) → EachFlow (Apart f) gs → Alone (one e f) (moved_here e gs)
  alone_of e f gs a = record { put = λ x h. all_put_none e f gs x a h; take = all_take_none e f gs a }

  -- where any takes there is a head, and where any puts there is room
  pub taken_head : (e : ℕ) (qs : List (List B)) (gs : List (Flow B)) → EachFlow (λ (g : Flow B). HasHead qs g.from) gs → any_take e gs ≡ true → 0 < length (queue qs e)
  unfolding HasHead
  taken_head e qs [] a h = absurd cc
  taken_head e qs (g ∷ gs) a h = at (taken_here e (took g)) refl h (taken_head e qs gs a.1)
    where
      at : (b : Bool) → taken_here e (took g) ≡ b → (b || any_take e gs) ≡ true → (any_take e gs ≡ true → 0 < length (queue qs e)) → 0 < length (queue qs e)
      at true k h later = subst (HasHead qs) (took_from g e k) a.0
      at false k h later = later h

  pub put_room : (e : ℕ) (qs : List (List B)) (gs : List (Flow B)) → EachFlow (λ (g : Flow B). HasRoom qs g.put) gs → is_some (first_put e gs) ≡ true → length (queue qs e) < 2
  unfolding HasRoom
  put_room e qs [] a h = absurd cc
  put_room e qs (g ∷ gs) a h = at g.put refl (put_room e qs gs a.1)
    where
      later : (o : Option (ℕ × B)) → g.put ≡ o → put_here e o ≡ None → (is_some (first_put e gs) ≡ true → length (queue qs e) < 2) → length (queue qs e) < 2
      later o k n rest = rest (ap (λ (x : Option B). is_some (option_or x (first_put e gs))) (sym n ∙ ap (put_here e) (sym k)) ∙ h)

      at : (o : Option (ℕ × B)) → g.put ≡ o → (is_some (first_put e gs) ≡ true → length (queue qs e) < 2) → length (queue qs e) < 2
      at None k rest = later None k refl rest
      at (Some p) k rest = here (p.0 == e) refl
        where
          here : (b : Bool) → (p.0 == e) ≡ b → length (queue qs e) < 2
          here true u = let r : HasRoom qs (Some p) = subst (HasRoom qs) k a.0 in subst (λ n. length (queue qs n) < 2) (same_number p.0 e u) r.1
          here false u = later (Some p) k (ap (λ b. cond b (Some p.1) None) u) rest
