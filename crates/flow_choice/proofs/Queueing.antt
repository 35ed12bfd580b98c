-- Two moves on the queues of one channel that look at different heads and put onto different edges.
use Rattle.std.proofs.Common.{◌≡◌, ◌≢◌, ℕ, ◌<◌, ◌≤◌, Bool, true, false, ◌&&◌, List, [], ◌∷◌, ◌++◌, length, Option, Some, None, set, drop, refl, sym, ap, ◌∙◌, subst, arith, rules, length-drop, inl, inr, cond, nat_lt, IsTrue, is_some}
use Rattle.std.proofs.lemmas.List.{get_or-set_same, get_or-set_other, length-set, set_comm, set-set, drop-append-le}
use Rattle.std.proofs.lemmas.Bool.{cases_eq}
use Rattle.std.proofs.lemmas.Bool.Decides.{nat_tests}
use Rattle.flow_core.specs.declared.queue.Flow.{Flow}
use Rattle.flow_core.specs.Queues.{queue, head_in, has_head, has_room, has_place, may_flow, taken, put_last, flowed}

-- they look at different queues, and put onto different edges
abbrev pub Apart : {B : Type 0} → Flow B → Flow B → Type 0
Apart f g = ((e : ℕ) → f.from ≡ Some e → g.from ≢ Some e) × ((x y : _) → f.put ≡ Some x → g.put ≡ Some y → x.0 ≢ y.0)

pub apart_turned : {B : Type 0} (f g : Flow B) → Apart f g → Apart g f
apart_turned f g a = ((λ e x y. a.0 e y x), (λ x y p q r. a.1 y x q p (sym r)))

-- the queue from which a head is taken
abbrev pub took : {B : Type 0} → Flow B → Option ℕ
took f = cond f.take f.from None

both_true : (x y : Bool) → IsTrue (x && y) → IsTrue x × IsTrue y
both_true true true h = (h, h)
both_true true false h = absurd cc
both_true false y h = absurd cc

below : (n m : ℕ) → IsTrue (nat_lt n m) → n < m
below n m h = grind (arith, nat_tests)

two : (x y : Bool) → IsTrue x → IsTrue y → IsTrue (x && y)
two true true h k = h
two true false h k = absurd cc
two false y h k = absurd cc

is_below : (n m : ℕ) → n < m → IsTrue (nat_lt n m)
is_below n m h = grind (arith, nat_tests)

took_by : (b : Bool) (o : Option ℕ) (e : ℕ) → cond b o None ≡ Some e → o ≡ Some e
took_by true o e h = h
took_by false o e h = absurd cc

module _ {B : Type 0} where
  unfoldable pub HasHead : List (List B) → Option ℕ → Type 0
  HasHead qs None = Unit {0}
  HasHead qs (Some e) = 0 < length (queue qs e)

  unfoldable pub HasRoom : List (List B) → Option (ℕ × B) → Type 0
  HasRoom qs None = Unit {0}
  HasRoom qs (Some p) = (p.0 < length qs) × (length (queue qs p.0) < 2)

  some_head : (q : List B) → IsTrue (is_some (head_in q)) → 0 < length q
  some_head [] h = absurd cc
  some_head (x ∷ q) h = omega arith

  head_some : (q : List B) → 0 < length q → IsTrue (is_some (head_in q))
  head_some [] h = absurd (omega arith)
  head_some (x ∷ q) h = search rules

  head_of : (qs : List (List B)) (t : Option ℕ) → IsTrue (has_head qs t) → HasHead qs t
  unfolding HasHead
  head_of qs None h = tt
  head_of qs (Some e) h = some_head (queue qs e) h

  of_head : (qs : List (List B)) (t : Option ℕ) → HasHead qs t → IsTrue (has_head qs t)
  unfolding HasHead
  of_head qs None h = search rules
  of_head qs (Some e) h = head_some (queue qs e) h

  room_of : (qs : List (List B)) (p : Option (ℕ × B)) → IsTrue (has_room qs p) → HasRoom qs p
  unfolding HasRoom
  room_of qs None h = tt
  room_of qs (Some p) h =
      let b = both_true (nat_lt p.0 (length qs)) (has_place (queue qs p.0)) h in
      (below p.0 (length qs) b.0, below (length (queue qs p.0)) 2 b.1)

  of_room : (qs : List (List B)) (p : Option (ℕ × B)) → HasRoom qs p → IsTrue (has_room qs p)
  unfolding HasRoom
  of_room qs None h = search rules
  of_room qs (Some p) h = two (nat_lt p.0 (length qs)) (has_place (queue qs p.0)) (is_below p.0 (length qs) h.0) (is_below (length (queue qs p.0)) 2 h.1)

  pub parts_of : (qs : List (List B)) (f : Flow B) → IsTrue (may_flow qs f) → HasHead qs f.from × HasRoom qs f.put
  parts_of qs f h = let b = both_true (has_head qs f.from) (has_room qs f.put) h in (head_of qs f.from b.0, room_of qs f.put b.1)

  pub of_parts : (qs : List (List B)) (f : Flow B) → HasHead qs f.from → HasRoom qs f.put → IsTrue (may_flow qs f)
  of_parts qs f h r = two (has_head qs f.from) (has_room qs f.put) (of_head qs f.from h) (of_room qs f.put r)

  -- two takes from different queues
  takes : (e f : ℕ) (qs : List (List B)) → e ≢ f → taken (Some e) (taken (Some f) qs) ≡ taken (Some f) (taken (Some e) qs)
  takes e f qs h = grind (arith, get_or-set_other {A = List B}, set_comm {A = List B})

  -- two puts into different queues
  puts : (p q : ℕ × B) (qs : List (List B)) → p.0 ≢ q.0 → put_last (Some p) (put_last (Some q) qs) ≡ put_last (Some q) (put_last (Some p) qs)
  puts p q qs h = grind (arith, get_or-set_other {A = List B}, set_comm {A = List B})

  take_put_same : (e : ℕ) (b : B) (qs : List (List B)) → 0 < length (queue qs e) → e < length qs → taken (Some e) (put_last (Some (e, b)) qs) ≡ put_last (Some (e, b)) (taken (Some e) qs)
  take_put_same e b qs h r = rw (get_or-set_same qs e (queue qs e ++ b ∷ []) [] r, get_or-set_same qs e (drop 1 (queue qs e)) [] r, set-set, set-set) (ap (λ x. set qs e x) (drop-append-le 1 (queue qs e) (b ∷ []) h))

  take_put_other : (e : ℕ) (p : ℕ × B) (qs : List (List B)) → e ≢ p.0 → taken (Some e) (put_last (Some p) qs) ≡ put_last (Some p) (taken (Some e) qs)
  take_put_other e p qs h = grind (arith, get_or-set_other {A = List B}, set_comm {A = List B})

  -- a take and a put, where there is a head
  take_put : (e : ℕ) (p : ℕ × B) (qs : List (List B)) → HasHead qs (Some e) → HasRoom qs (Some p) → taken (Some e) (put_last (Some p) qs) ≡ put_last (Some p) (taken (Some e) qs)
  unfolding HasHead HasRoom
  take_put e p qs h r = elim (cases_eq e p.0) [ inl s ↦ grind (arith, take_put_same) | inr d ↦ take_put_other e p qs d ]

  length_taken : (t : Option ℕ) (qs : List (List B)) → length (taken t qs) ≡ length qs
  length_taken None qs = refl
  length_taken (Some e) qs = length-set qs e (drop 1 (queue qs e))

  length_joined : (p : Option (ℕ × B)) (qs : List (List B)) → length (put_last p qs) ≡ length qs
  length_joined None qs = refl
  length_joined (Some p) qs = length-set qs p.0 (queue qs p.0 ++ p.1 ∷ [])

  -- what a take leaves of another queue, and at most of its own
  queue_taken : (t : Option ℕ) (e : ℕ) (qs : List (List B)) → t ≢ Some e → queue (taken t qs) e ≡ queue qs e
  queue_taken None e qs h = refl
  queue_taken (Some f) e qs h = get_or-set_other qs f e (drop 1 (queue qs f)) [] (λ x. h (ap Some (sym x)))

  shorter : (t : Option ℕ) (e : ℕ) (qs : List (List B)) → e < length qs → length (queue (taken t qs) e) ≤ length (queue qs e)
  shorter None e qs h = omega arith
  shorter (Some f) e qs h = elim (cases_eq e f) [
    | inl s ↦ rw s (rw (get_or-set_same qs f (drop 1 (queue qs f)) [] (subst (λ x. x < length qs) s h)) (omega (arith, length-drop 1 (queue qs f))))
    | inr d ↦ rw (get_or-set_other qs f e (drop 1 (queue qs f)) [] d) (omega arith)
  ]

  -- what a put leaves of another queue
  queue_joined : (p : ℕ × B) (e : ℕ) (qs : List (List B)) → e ≢ p.0 → queue (put_last (Some p) qs) e ≡ queue qs e
  queue_joined p e qs h = get_or-set_other qs p.0 e (queue qs p.0 ++ p.1 ∷ []) [] h

  first_push : (q : List B) (b : B) → 0 < length q → head_in (q ++ b ∷ []) ≡ head_in q
  first_push [] b h = absurd (omega arith)
  first_push (x ∷ q) b h = refl

  -- a put leaves each head
  first_joined : (p : Option (ℕ × B)) (e : ℕ) (qs : List (List B)) → HasRoom qs p → 0 < length (queue qs e) → head_in (queue (put_last p qs) e) ≡ head_in (queue qs e)
  unfolding HasRoom
  first_joined None e qs r h = refl
  first_joined (Some p) e qs r h = elim (cases_eq e p.0) [
    | inl s ↦ rw s (rw (get_or-set_same qs p.0 (queue qs p.0 ++ p.1 ∷ []) [] r.0) (first_push (queue qs p.0) p.1 (subst (λ x. 0 < length (queue qs x)) s h)))
    | inr d ↦ ap head_in (queue_joined p e qs d)
  ]

  from_first : (q r : List B) → head_in q ≡ head_in r → 0 < length r → 0 < length q
  from_first q [] e h = absurd (omega arith)
  from_first [] (x ∷ r) e h = absurd cc
  from_first (y ∷ q) (x ∷ r) e h = omega arith

  head_joined : (p : Option (ℕ × B)) (t : Option ℕ) (qs : List (List B)) → HasRoom qs p → HasHead qs t → HasHead (put_last p qs) t
  unfolding HasHead
  head_joined p None qs r h = tt
  head_joined p (Some e) qs r h = from_first (queue (put_last p qs) e) (queue qs e) (first_joined p e qs r h) h

  head_taken : (s t : Option ℕ) (qs : List (List B)) → ((e : ℕ) → s ≡ Some e → t ≢ Some e) → HasHead qs t → HasHead (taken s qs) t
  unfolding HasHead
  head_taken s None qs a h = tt
  head_taken s (Some e) qs a h = rw (queue_taken s e qs (λ x. a e x refl)) h

  room_taken : (t : Option ℕ) (p : Option (ℕ × B)) (qs : List (List B)) → HasRoom qs p → HasRoom (taken t qs) p
  unfolding HasRoom
  room_taken t None qs r = tt
  room_taken t (Some p) qs r = (rw (length_taken t qs) r.0, omega (arith, shorter t p.0 qs r.0, r.1))

  room_joined : (o p : Option (ℕ × B)) (qs : List (List B)) → ((x y : _) → o ≡ Some x → p ≡ Some y → x.0 ≢ y.0) → HasRoom qs p → HasRoom (put_last o qs) p
  unfolding HasRoom
  room_joined o None qs a r = tt
  room_joined None (Some p) qs a r = r
  room_joined (Some o) (Some p) qs a r = (rw (length_joined (Some o) qs) r.0, rw (queue_joined o p.0 qs (λ e. a o p refl refl (sym e))) r.1)

  takes_opt : (s t : Option ℕ) (qs : List (List B)) → ((e : ℕ) → s ≡ Some e → t ≢ Some e) → taken s (taken t qs) ≡ taken t (taken s qs)
  takes_opt None t qs a = refl
  takes_opt (Some e) None qs a = refl
  takes_opt (Some e) (Some f) qs a = takes e f qs (λ x. a e refl (ap Some (sym x)))

  puts_opt : (o p : Option (ℕ × B)) (qs : List (List B)) → ((x y : _) → o ≡ Some x → p ≡ Some y → x.0 ≢ y.0) → put_last o (put_last p qs) ≡ put_last p (put_last o qs)
  puts_opt None p qs a = refl
  puts_opt (Some o) None qs a = refl
  puts_opt (Some o) (Some p) qs a = puts o p qs (a o p refl refl)

  take_put_opt : (t : Option ℕ) (p : Option (ℕ × B)) (qs : List (List B)) → HasHead qs t → HasRoom qs p → taken t (put_last p qs) ≡ put_last p (taken t qs)
  take_put_opt None p qs h r = refl
  take_put_opt (Some e) None qs h r = refl
  take_put_opt (Some e) (Some p) qs h r = take_put e p qs h r

  took_is : (f : Flow B) (e : ℕ) → took f ≡ Some e → f.from ≡ Some e
  took_is f e h = took_by f.take f.from e h

  head_by : (qs : List (List B)) (b : Bool) (o : Option ℕ) → HasHead qs o → HasHead qs (cond b o None)
  unfolding HasHead
  head_by qs true o h = h
  head_by qs false o h = tt

  took_head : (f : Flow B) (qs : List (List B)) → HasHead qs f.from → HasHead qs (took f)
  took_head f qs h = head_by qs f.take f.from h

  took_apart : (f g : Flow B) → Apart f g → (e : ℕ) → took f ≡ Some e → took g ≢ Some e
  took_apart f g a e x y = a.0 e (took_is f e x) (took_is g e y)

  -- two moves that are apart may be made in either order
  pub flows : (f g : Flow B) (qs : List (List B)) → HasHead qs f.from → HasRoom qs f.put → HasHead qs g.from → HasRoom qs g.put → Apart f g → flowed f (flowed g qs) ≡ flowed g (flowed f qs)
  flows f g qs lf rf lg rg a =
      let hf = took_head f qs lf in
      let hg = took_head g qs lg in
      let a0 = took_apart f g a in
      let a' : (e : ℕ) → took g ≡ Some e → took f ≢ Some e = λ e x y. a0 e y x in
      ap (put_last f.put) (take_put_opt (took f) g.put (taken (took g) qs) (head_taken (took g) (took f) qs a' hf) (room_taken (took g) g.put qs rg))
      ∙ puts_opt f.put g.put (taken (took f) (taken (took g) qs)) a.1
      ∙ ap (λ x. put_last g.put (put_last f.put x)) (takes_opt (took f) (took g) qs a0)
      ∙ ap (put_last g.put) (sym (take_put_opt (took g) f.put (taken (took f) qs) (head_taken (took f) (took g) qs a0 hg) (room_taken (took f) f.put qs rf)))

  not_taken : (f g : Flow B) → Apart f g → (e : ℕ) → g.from ≡ Some e → took f ≢ Some e
  not_taken f g a e x y = a.0 e (took_is f e y) x

  -- and each of them is still possible after the other
  pub head_flowed : (f g : Flow B) (qs : List (List B)) → HasRoom qs f.put → HasHead qs g.from → Apart f g → HasHead (flowed f qs) g.from
  head_flowed f g qs r h a = head_joined f.put g.from (taken (took f) qs) (room_taken (took f) f.put qs r) (head_taken (took f) g.from qs (λ e x y. not_taken f g a e y x) h)

  pub room_flowed : (f g : Flow B) (qs : List (List B)) → HasRoom qs g.put → Apart f g → HasRoom (flowed f qs) g.put
  room_flowed f g qs r a = room_joined f.put g.put (taken (took f) qs) a.1 (room_taken (took f) g.put qs r)

  -- with the same head
  pub same_head : (f g : Flow B) (e : ℕ) (qs : List (List B)) → HasRoom qs f.put → Apart f g → g.from ≡ Some e → HasHead qs g.from → head_in (queue (flowed f qs) e) ≡ head_in (queue qs e)
  unfolding HasHead
  same_head f g e qs r a x h =
      let n = not_taken f g a e x in
      let q = queue_taken (took f) e qs n in
      let k : HasHead qs (Some e) = subst (HasHead qs) x h in
      first_joined f.put e (taken (took f) qs) (room_taken (took f) f.put qs r) (rw q k) ∙ ap head_in q
