-- Two moves that use neither one head, nor one room, nor one way of a leaf may be made in either order.
use Rattle.std.proofs.Common.{◌≡◌, ◌≢◌, ℕ, Bool, true, false, ◌&&◌, List, Option, Some, None, refl, sym, ap, ◌∙◌, subst, inl, inr, ◌⊎◌, slice_get, IsTrue}
use Rattle.std.specs.Option.{option_and_then, option_map_or}
use Rattle.std.proofs.lemmas.List.{set_comm, set-set}
use Rattle.std.proofs.lemmas.Bool.{cases_eq}
use Rattle.std.proofs.lemmas.Option.{same_Some}
use Rattle.tl_edge.specs.declared.beat.ABeat.{ABeat}
use Rattle.tl_edge.specs.declared.beat.DBeat.{DBeat}
use Rattle.tl_edge.specs.declared.beat.Tag.{Tag}
use Rattle.flow_core.specs.declared.moves.Move.{Move}
use Rattle.flow_core.specs.declared.moves.Move.TheVariants.{Enter, Leave, Reply, Return, AbsorbA, AbsorbD, ForwardA, ForwardD}
use Rattle.tl_edge.specs.Plans.{edge_at}
use Rattle.flow_core.specs.Acts.{Act}
use Rattle.flow_core.specs.Carried.{carries_a, carries_d}
use Rattle.flow_core.specs.Tags.{Held, held_down, held_down_alone, held_up, held_up_alone}
use Rattle.flow_core.specs.Queues.{queue, head_in, may_flow, flowed}
use Rattle.flow_core.specs.Network.{State, Part, Job, job, put_job_a, put_job_d, edge_of_port, in_edge, out_edge, leaf_job_a, leaf_job_d, may_do, done, with_leaf, is_enabled, state_after}
use Rattle.flow_choice.proofs.Queueing.{Apart, apart_turned, HasHead, HasRoom, parts_of, of_parts, flows, head_flowed, room_flowed, same_head}
use Rattle.flow_choice.proofs.Commuting.{map_some, then_some, cond_some, get_set_other, get_set_same}
use Rattle.flow_choice.proofs.Deeds.{Deed, deed, deed_down, deed_up, closing, DeedsMeet, FitsHeads, down_up_meet}
use Rattle.flow_choice.proofs.OneWay.{downs_meet, ups_meet}
use Rattle.flow_choice.proofs.Jobs.{Kind, Port, Down, Up, kind_of, seen, shared, part_of, local_down, local_up, job_down, job_up, IsJob, is_job, shares_of, shares_from, shares_again, next_is, Keeps, same_deed}

-- ---- parts of one leaf

record PartsMeet {A D : Type 0} (f : Held → Option (Part A)) (g : Held → Option (Part D)) (p : Part A) (q : Part D) : Type 0 where
  end : Held
  first : f q.next ≡ Some (record { flow = p.flow; next = end })
  second : g p.next ≡ Some (record { flow = q.flow; next = end })

parts_meet : {A D : Type 0} (k k' : Bool) (from to from' to' : Option ℕ) (F : Held → Option (Deed A)) (G : Held → Option (Deed D)) (held : Held) (p : Part A) (q : Part D)
    → shared k from to (F held) ≡ Some p → shared k' from' to' (G held) ≡ Some q → ((x : Deed A) (y : Deed D) → F held ≡ Some x → G held ≡ Some y → DeedsMeet F G x y)
    → PartsMeet (λ h. shared k from to (F h)) (λ h. shared k' from' to' (G h)) p q
parts_meet {A = A} {D = D} k k' from to from' to' F G held p q e f m =
    let a = shares_of k from to (F held) p e in
    let b = shares_of k' from' to' (G held) q f in
    let mm = m a.d b.d a.does_is b.does_is in
    let x : a.d.act.next ≡ p.next = sym (next_is a.f a.t a.d) ∙ ap (λ (r : Part A). r.next) a.is in
    let y : b.d.act.next ≡ q.next = sym (next_is b.f b.t b.d) ∙ ap (λ (r : Part D). r.next) b.is in
    record {
      end = mm.end;
      first = shares_again k from to (F held) (F q.next) p a mm.end (subst (λ h. F h ≡ Some (closing a.d mm.end)) y mm.first);
      second = shares_again k' from' to' (G held) (G p.next) q b mm.end (subst (λ h. G h ≡ Some (closing b.d mm.end)) x mm.second);
    }

-- ---- moves of one leaf

abbrev pub leaf_at : Kind → ℕ
leaf_at Port = 0
leaf_at (Down l k i o id) = l
leaf_at (Up l k i o) = l

-- what a move of a leaf does by the leaf's state, with the heads as they stand
abbrev pub local : State → Kind → Held → Option Job
local s Port held = None
local s (Down l k i o id) held = job_down l (local_down s l k i o id held)
local s (Up l k i o) held = job_up l (local_up s l k i o held)

abbrev pub with_next : Job → ℕ → Held → Job
with_next j l end = record { a = j.a; d = j.d; leaf = Some (l, end) }

-- moves of one leaf on one channel have different inputs and outputs
abbrev pub OtherKinds : Kind → Kind → Type 0
OtherKinds (Down l k i o id) (Down m k' j p id') = l ≡ m → (i ≢ j) × (o ≢ p)
OtherKinds (Up l k i o) (Up m k' j p) = l ≡ m → (i ≢ j) × (o ≢ p)
OtherKinds _ _ = Unit {0}

-- what a width widget asks of its heads
abbrev pub FitsAt : State → ℕ → Type 0
FitsAt s l = (held : Held) → slice_get s.leaves l ≡ Some held → FitsHeads held.leaf 0 0 (seen s.a (in_edge s.plan l 0)) (seen s.d (out_edge s.plan l 0))

abbrev pub FitsKinds : State → Kind → Kind → Type 0
FitsKinds s (Down l k i o id) (Up m k' j p) = l ≡ m → FitsAt s l
FitsKinds s (Up l k i o) (Down m k' j p id) = l ≡ m → FitsAt s l
FitsKinds s _ _ = Unit {0}

record JobsMeet (s : State) (K L : Kind) (j k : Job) (x y : Held) : Type 0 where
  end : Held
  first : local s K y ≡ Some (with_next j (leaf_at K) end)
  second : local s L x ≡ Some (with_next k (leaf_at L) end)

fits_heads : (s : State) (l i q : ℕ) (held : Held) → slice_get s.leaves l ≡ Some held → FitsAt s l → FitsHeads held.leaf i q (seen s.a (in_edge s.plan l i)) (seen s.d (out_edge s.plan l q))
fits_heads s l i q held e h b d f g z w ez en ei eq =
    h held e b d (subst (λ n. seen s.a (in_edge s.plan l n) ≡ Some b) ei f) (subst (λ n. seen s.d (out_edge s.plan l n) ≡ Some d) eq g) z w ez en refl refl

-- a job of a leaf with its part
record HasDown (l : ℕ) (o : Option (Part (ABeat × Tag))) (j : Job) (x : Held) : Type 0 where
  part : Part (ABeat × Tag)
  part_is : o ≡ Some part
  is : leaf_job_a l part ≡ j
  next : part.next ≡ x

pair_is : (l m : ℕ) (x y : Held) → ◌≡◌ {A = Option (ℕ × Held)} (Some (l, x)) (Some (m, y)) → x ≡ y
pair_is l m x y e = ap (λ (p : ℕ × Held). p.1) (same_Some _ _ e)

has_down : (l : ℕ) (o : Option (Part (ABeat × Tag))) (j : Job) (x : Held) → job_down l o ≡ Some j → j.leaf ≡ Some (l, x) → HasDown l o j x
has_down l o j x e f =
    let m = map_some (leaf_job_a l) o j e in
    record { part = m.0; part_is = m.1; is = m.2; next = pair_is l l m.0.next x (ap (λ (j : Job). j.leaf) m.2 ∙ f) }

record HasUp (l : ℕ) (o : Option (Part (DBeat × Tag))) (j : Job) (x : Held) : Type 0 where
  part : Part (DBeat × Tag)
  part_is : o ≡ Some part
  is : leaf_job_d l part ≡ j
  next : part.next ≡ x

has_up : (l : ℕ) (o : Option (Part (DBeat × Tag))) (j : Job) (x : Held) → job_up l o ≡ Some j → j.leaf ≡ Some (l, x) → HasUp l o j x
has_up l o j x e f =
    let m = map_some (leaf_job_d l) o j e in
    record { part = m.0; part_is = m.1; is = m.2; next = pair_is l l m.0.next x (ap (λ (j : Job). j.leaf) m.2 ∙ f) }

job_again_down : (l : ℕ) (o : Option (Part (ABeat × Tag))) (p : Part (ABeat × Tag)) (j : Job) (end : Held) → leaf_job_a l p ≡ j → o ≡ Some (record { flow = p.flow; next = end }) → job_down l o ≡ Some (with_next j l end)
job_again_down l o p j end e f = rw f (ap (λ (j : Job). Some (with_next j l end)) e)

job_again_up : (l : ℕ) (o : Option (Part (DBeat × Tag))) (p : Part (DBeat × Tag)) (j : Job) (end : Held) → leaf_job_d l p ≡ j → o ≡ Some (record { flow = p.flow; next = end }) → job_up l o ≡ Some (with_next j l end)
job_again_up l o p j end e f = rw f (ap (λ (j : Job). Some (with_next j l end)) e)

module _ (s : State) (held : Held) (l : ℕ) (here : slice_get s.leaves l ≡ Some held) (j k : Job) (x y : Held) where
  down_down : (a b : Bool) (i o id i' o' id' : ℕ) → local s (Down l a i o id) held ≡ Some j → local s (Down l b i' o' id') held ≡ Some k → j.leaf ≡ Some (l, x) → k.leaf ≡ Some (l, y) → i ≢ i' → o ≢ o'
      → JobsMeet s (Down l a i o id) (Down l b i' o' id') j k x y
  down_down a b i o id i' o' id' e f lj lk n n' =
      let u = has_down l _ j x e lj in
      let v = has_down l _ k y f lk in
      let m = parts_meet a b (in_edge s.plan l i) (out_edge s.plan l o) (in_edge s.plan l i') (out_edge s.plan l o') (λ t. deed_down t id i o (seen s.a (in_edge s.plan l i))) (λ t. deed_down t id' i' o' (seen s.a (in_edge s.plan l i'))) held u.part v.part u.part_is v.part_is
      (λ p q ep eq. downs_meet held id i o id' i' o' (seen s.a (in_edge s.plan l i)) (seen s.a (in_edge s.plan l i')) p q n n' ep eq) in
      record {
        end = m.end;
        first = job_again_down l _ u.part j m.end u.is (subst (λ t. local_down s l a i o id t ≡ Some (record { flow = u.part.flow; next = m.end })) v.next m.first);
        second = job_again_down l _ v.part k m.end v.is (subst (λ t. local_down s l b i' o' id' t ≡ Some (record { flow = v.part.flow; next = m.end })) u.next m.second);
      }

  up_up : (a b : Bool) (i o i' o' : ℕ) → local s (Up l a i o) held ≡ Some j → local s (Up l b i' o') held ≡ Some k → j.leaf ≡ Some (l, x) → k.leaf ≡ Some (l, y) → i ≢ i' → o ≢ o'
      → JobsMeet s (Up l a i o) (Up l b i' o') j k x y
  up_up a b i o i' o' e f lj lk n n' =
      let u = has_up l _ j x e lj in
      let v = has_up l _ k y f lk in
      let m = parts_meet a b (out_edge s.plan l o) (in_edge s.plan l i) (out_edge s.plan l o') (in_edge s.plan l i') (λ t. deed_up t i o (seen s.d (out_edge s.plan l o))) (λ t. deed_up t i' o' (seen s.d (out_edge s.plan l o'))) held u.part v.part u.part_is v.part_is
      (λ p q ep eq. ups_meet held i o i' o' (seen s.d (out_edge s.plan l o)) (seen s.d (out_edge s.plan l o')) p q n n' ep eq) in
      record {
        end = m.end;
        first = job_again_up l _ u.part j m.end u.is (subst (λ t. local_up s l a i o t ≡ Some (record { flow = u.part.flow; next = m.end })) v.next m.first);
        second = job_again_up l _ v.part k m.end v.is (subst (λ t. local_up s l b i' o' t ≡ Some (record { flow = v.part.flow; next = m.end })) u.next m.second);
      }

  down_up : (a b : Bool) (i o id i' o' : ℕ) → local s (Down l a i o id) held ≡ Some j → local s (Up l b i' o') held ≡ Some k → j.leaf ≡ Some (l, x) → k.leaf ≡ Some (l, y) → FitsAt s l
      → JobsMeet s (Down l a i o id) (Up l b i' o') j k x y
  down_up a b i o id i' o' e f lj lk fit =
      let u = has_down l _ j x e lj in
      let v = has_up l _ k y f lk in
      let m = parts_meet a b (in_edge s.plan l i) (out_edge s.plan l o) (out_edge s.plan l o') (in_edge s.plan l i') (λ t. deed_down t id i o (seen s.a (in_edge s.plan l i))) (λ t. deed_up t i' o' (seen s.d (out_edge s.plan l o'))) held u.part v.part u.part_is v.part_is
      (λ p q ep eq. down_up_meet held id i o i' o' (seen s.a (in_edge s.plan l i)) (seen s.d (out_edge s.plan l o')) p q (fits_heads s l i o' held here fit) ep eq) in
      record {
        end = m.end;
        first = job_again_down l _ u.part j m.end u.is (subst (λ t. local_down s l a i o id t ≡ Some (record { flow = u.part.flow; next = m.end })) v.next m.first);
        second = job_again_up l _ v.part k m.end v.is (subst (λ t. local_up s l b i' o' t ≡ Some (record { flow = v.part.flow; next = m.end })) u.next m.second);
      }

meet_turned : (s : State) (K L : Kind) (j k : Job) (x y : Held) → JobsMeet s K L j k x y → JobsMeet s L K k j y x
meet_turned s K L j k x y m = record { end = m.end; first = m.second; second = m.first }

jobs_meet : (s : State) (K L : Kind) (held : Held) (j k : Job) (x y : Held) → leaf_at K ≡ leaf_at L → slice_get s.leaves (leaf_at K) ≡ Some held → local s K held ≡ Some j → local s L held ≡ Some k
    → j.leaf ≡ Some (leaf_at K, x) → k.leaf ≡ Some (leaf_at L, y) → OtherKinds K L → FitsKinds s K L → JobsMeet s K L j k x y
jobs_meet s Port L held j k x y g here e f lj lk w fit = absurd cc
jobs_meet s (Down l a i o id) Port held j k x y g here e f lj lk w fit = absurd cc
jobs_meet s (Up l a i o) Port held j k x y g here e f lj lk w fit = absurd cc
jobs_meet s (Down l a i o id) (Down m b i' o' id') held j k x y g here e f lj lk w fit =
    rw (← g) (down_down s held l here j k x y a b i o id i' o' id' e (rw g f) lj (rw g lk) (w g).0 (w g).1)
jobs_meet s (Up l a i o) (Up m b i' o') held j k x y g here e f lj lk w fit =
    rw (← g) (up_up s held l here j k x y a b i o i' o' e (rw g f) lj (rw g lk) (w g).0 (w g).1)
jobs_meet s (Down l a i o id) (Up m b i' o') held j k x y g here e f lj lk w fit =
    rw (← g) (down_up s held l here j k x y a b i o id i' o' e (rw g f) lj (rw g lk) (fit g))
jobs_meet s (Up l a i o) (Down m b i' o' id) held j k x y g here e f lj lk w fit =
    rw (← g) (meet_turned s (Down l b i' o' id) (Up l a i o) k j y x (down_up s held l here k j y x b a i' o' id i o (rw g f) e (rw g lk) lj (fit g)))

-- ---- moves in a state

-- a state has the heads that a job looks at in another
abbrev pub SameHeads : State → State → Job → Type 0
SameHeads s t j = ((e : ℕ) → j.a.from ≡ Some e → head_in (queue t.a e) ≡ head_in (queue s.a e)) × ((e : ℕ) → j.d.from ≡ Some e → head_in (queue t.d e) ≡ head_in (queue s.d e))

-- a move of a port does the same whatever the queues and leaves are
pub record OfPort (s : State) (m : Move) (j : Job) : Type 0 where
  pub again : (t : State) → t.plan ≡ s.plan → job t m ≡ Some j
  pub no_leaf : j.leaf ≡ None

pub record OfLeaf (s : State) (m : Move) (K : Kind) (j : Job) : Type 0 where
  pub held : Held
  pub next : Held
  pub held_is : slice_get s.leaves (leaf_at K) ≡ Some held
  pub leaf_is : j.leaf ≡ Some (leaf_at K, next)
  pub local_is : local s K held ≡ Some j
  pub again : (t : State) (x z : Held) → t.plan ≡ s.plan → slice_get t.leaves (leaf_at K) ≡ Some x → SameHeads s t j → local s K x ≡ Some (with_next j (leaf_at K) z) → job t m ≡ Some (with_next j (leaf_at K) z)

keeps_of : {B : Type 0} (f t : ℕ) (d : Deed B) (qs others : List (List B)) → ((e : ℕ) → (part_of f t d).flow.from ≡ Some e → head_in (queue others e) ≡ head_in (queue qs e))
    → Keeps (part_of f t d).flow.from (head_in (queue qs f)) (head_in (queue others f))
keeps_of {B = B} f t d qs others h = at d.looks refl h
  where
    at : (b : Bool) → d.looks ≡ b → ((e : ℕ) → (part_of f t (record { looks = b; act = d.act })).flow.from ≡ Some e → head_in (queue others e) ≡ head_in (queue qs e))
        → Keeps (part_of f t (record { looks = b; act = d.act })).flow.from (head_in (queue qs f)) (head_in (queue others f))
    at true g h = h f refl
    at false g h = tt

-- a part in a state with the same heads
part_still : {B : Type 0} (k : Bool) (from to : Option ℕ) (alone : Option (Act B Held)) (act : B → Option (Act B Held)) (qs others : List (List B)) (p : Part B) → shared k from to (deed alone act (seen qs from)) ≡ Some p
    → ((e : ℕ) → p.flow.from ≡ Some e → head_in (queue others e) ≡ head_in (queue qs e)) → shared k from to (deed alone act (seen others from)) ≡ Some p
part_still {B = B} k from to alone act qs others p e h =
    let m = shares_of k from to (deed alone act (seen qs from)) p e in
    let here : seen qs from ≡ head_in (queue qs m.f) = ap (seen qs) m.from_is in
    let there : seen others from ≡ head_in (queue others m.f) = ap (seen others) m.from_is in
    let keeps = keeps_of m.f m.t m.d qs others (λ e q. h e (sym (ap (λ (p : Part B). p.flow.from) m.is) ∙ q)) in
    let d = same_deed alone act m.f m.t (head_in (queue qs m.f)) (head_in (queue others m.f)) m.d (sym (ap (deed alone act) here) ∙ m.does_is) keeps in
    shares_from k from to (deed alone act (seen others from)) m.f m.t m.d m.from_is m.to_is (ap (deed alone act) there ∙ d) m.picked ∙ ap Some m.is

down_leaf : (s : State) (m : Move) (l : ℕ) (k : Bool) (i o id : ℕ) (j : Job) → ((t : State) → IsJob t m (Down l k i o id)) → job s m ≡ Some j → OfLeaf s m (Down l k i o id) j
down_leaf s m l k i o id j js e =
    let a = map_some (leaf_job_a l) (option_and_then (local_down s l k i o id) (slice_get s.leaves l)) j (sym (js s) ∙ e) in
    let b = then_some (local_down s l k i o id) (slice_get s.leaves l) a.0 a.1 in
    record {
      held = b.0;
      next = a.0.next;
      held_is = b.1;
      leaf_is = ap (λ (j : Job). j.leaf) (sym a.2);
      local_is = ap (job_down l) b.2 ∙ ap Some a.2;
      again = λ t x z p g h c.
          let d = map_some (leaf_job_a l) (local_down s l k i o id x) (with_next j l z) c in
          let y = part_still k (in_edge s.plan l i) (out_edge s.plan l o) (held_down_alone x id i o) (held_down x id i o) s.a t.a d.0 d.1 (λ e q. h.0 e (sym (ap (λ (j : Job). j.a.from) d.2) ∙ q)) in
          js t ∙ ap (λ h. job_down l (option_and_then (local_down t l k i o id) h)) g
          ∙ ap (λ p. job_down l (shared k (in_edge p l i) (out_edge p l o) (deed_down x id i o (seen t.a (in_edge p l i))))) p
          ∙ ap (job_down l) y ∙ ap Some d.2;
    }

up_leaf : (s : State) (m : Move) (l : ℕ) (k : Bool) (i o : ℕ) (j : Job) → ((t : State) → IsJob t m (Up l k i o)) → job s m ≡ Some j → OfLeaf s m (Up l k i o) j
up_leaf s m l k i o j js e =
    let a = map_some (leaf_job_d l) (option_and_then (local_up s l k i o) (slice_get s.leaves l)) j (sym (js s) ∙ e) in
    let b = then_some (local_up s l k i o) (slice_get s.leaves l) a.0 a.1 in
    record {
      held = b.0;
      next = a.0.next;
      held_is = b.1;
      leaf_is = ap (λ (j : Job). j.leaf) (sym a.2);
      local_is = ap (job_up l) b.2 ∙ ap Some a.2;
      again = λ t x z p g h c.
          let d = map_some (leaf_job_d l) (local_up s l k i o x) (with_next j l z) c in
          let y = part_still k (out_edge s.plan l o) (in_edge s.plan l i) (held_up_alone x i o) (held_up x i o) s.d t.d d.0 d.1 (λ e q. h.1 e (sym (ap (λ (j : Job). j.d.from) d.2) ∙ q)) in
          js t ∙ ap (λ h. job_up l (option_and_then (local_up t l k i o) h)) g
          ∙ ap (λ p. job_up l (shared k (out_edge p l o) (in_edge p l i) (deed_up x i o (seen t.d (out_edge p l o))))) p
          ∙ ap (job_up l) y ∙ ap Some d.2;
    }

no_leaf_at : (s : State) (m : Move) (j : Job) → kind_of m ≡ Port → job s m ≡ Some j → j.leaf ≡ None
no_leaf_at s (Enter port beat tag) j k e =
    let a = then_some (put_job_a s.plan beat tag) (edge_of_port s.plan.sources port) j e in
    ap (λ (j : Job). j.leaf) (sym (same_Some _ _ (cond_some (carries_a (edge_at s.plan a.0) beat) _ j a.2).1))
no_leaf_at s (Leave port) j k e = ap (λ (j : Job). j.leaf) (sym (map_some _ _ j e).2)
no_leaf_at s (Reply port beat tag) j k e =
    let a = then_some (put_job_d s.plan beat tag) (edge_of_port s.plan.sinks port) j e in
    ap (λ (j : Job). j.leaf) (sym (same_Some _ _ (cond_some (carries_d (edge_at s.plan a.0) beat) _ j a.2).1))
no_leaf_at s (Return port) j k e = ap (λ (j : Job). j.leaf) (sym (map_some _ _ j e).2)
no_leaf_at s (AbsorbA l) j k e = absurd cc
no_leaf_at s (AbsorbD l) j k e = absurd cc
no_leaf_at s (ForwardA l i o id) j k e = absurd cc
no_leaf_at s (ForwardD l i o) j k e = absurd cc

pub of_move : (s : State) (m : Move) (K : Kind) (j : Job) → kind_of m ≡ K → ((t : State) → IsJob t m K) → job s m ≡ Some j → OfPort s m j ⊎ OfLeaf s m K j
of_move s m Port j k js e = inl (record { again = λ t p. js s t p ∙ e; no_leaf = no_leaf_at s m j k e })
of_move s m (Down l a i o id) j k js e = inr (down_leaf s m l a i o id j js e)
of_move s m (Up l a i o) j k js e = inr (up_leaf s m l a i o j js e)

-- ---- both moves, one after the other

-- what both may do
pub record Can (s : State) (j : Job) : Type 0 where
  pub head_a : HasHead s.a j.a.from
  pub room_a : HasRoom s.a j.a.put
  pub head_d : HasHead s.d j.d.from
  pub room_d : HasRoom s.d j.d.put

both_true : (x y : Bool) → IsTrue (x && y) → IsTrue x × IsTrue y
both_true true true h = (h, h)
both_true true false h = absurd cc
both_true false y h = absurd cc

two : (x y : Bool) → IsTrue x → IsTrue y → IsTrue (x && y)
two true true h k = h
two true false h k = absurd cc
two false y h k = absurd cc

can_of : (s : State) (j : Job) → IsTrue (may_do s j) → Can s j
can_of s j h =
    let b = both_true (may_flow s.a j.a) (may_flow s.d j.d) h in
    let x = parts_of s.a j.a b.0 in
    let y = parts_of s.d j.d b.1 in
    record { head_a = x.0; room_a = x.1; head_d = y.0; room_d = y.1 }

of_can : (s : State) (j : Job) → Can s j → IsTrue (may_do s j)
of_can s j c = two (may_flow s.a j.a) (may_flow s.d j.d) (of_parts s.a j.a c.head_a c.room_a) (of_parts s.d j.d c.head_d c.room_d)

record Met (s : State) (m n : Move) (j k : Job) : Type 0 where
  zj : Option (ℕ × Held)
  zk : Option (ℕ × Held)
  first : job (done s k) m ≡ Some (record { a = j.a; d = j.d; leaf = zj })
  second : job (done s j) n ≡ Some (record { a = k.a; d = k.d; leaf = zk })
  same : with_leaf zj (with_leaf k.leaf s.leaves) ≡ with_leaf zk (with_leaf j.leaf s.leaves)

heads_after : (s : State) (j k : Job) → Can s j → Can s k → Apart k.a j.a → Apart k.d j.d → SameHeads s (done s k) j
heads_after s j k cj ck a d = ((λ e q. same_head k.a j.a e s.a ck.room_a a q cj.head_a), (λ e q. same_head k.d j.d e s.d ck.room_d d q cj.head_d))

same_after : (o1 o2 : Option (ℕ × Held)) (ls : List Held) (l1 l2 : ℕ) (x y end : Held) → o1 ≡ Some (l1, x) → o2 ≡ Some (l2, y) → l1 ≡ l2 → with_leaf (Some (l1, end)) (with_leaf o2 ls) ≡ with_leaf (Some (l2, end)) (with_leaf o1 ls)
same_after o1 o2 ls l1 l2 x y end e f q = rw (e, f) (rw (← q) (set-set ls l1 y end ∙ sym (set-set ls l1 x end)))

module _ (s : State) (m n : Move) (j k : Job) (cj : Can s j) (ck : Can s k) (ap_a : Apart j.a k.a) (ap_d : Apart j.d k.d) where
  heads_j : SameHeads s (done s k) j
  heads_j = heads_after s j k cj ck (apart_turned j.a k.a ap_a) (apart_turned j.d k.d ap_d)

  heads_k : SameHeads s (done s j) k
  heads_k = heads_after s k j ck cj ap_a ap_d

  ports : OfPort s m j → OfPort s n k → Met s m n j k
  ports u v = record {
    zj = j.leaf;
    zk = k.leaf;
    first = u.again (done s k) refl;
    second = v.again (done s j) refl;
    same = rw (u.no_leaf, v.no_leaf) refl;
  }

  module _ (K L : Kind) where
    itself_j : (u : OfLeaf s m K j) → local s K u.held ≡ Some (with_next j (leaf_at K) u.next)
    itself_j u = u.local_is ∙ ap (λ leaf. Some (record { a = j.a; d = j.d; leaf = leaf })) u.leaf_is

    itself_k : (v : OfLeaf s n L k) → local s L v.held ≡ Some (with_next k (leaf_at L) v.next)
    itself_k v = v.local_is ∙ ap (λ leaf. Some (record { a = k.a; d = k.d; leaf = leaf })) v.leaf_is

    port_leaf : OfPort s m j → OfLeaf s n L k → Met s m n j k
    port_leaf u v = record {
      zj = j.leaf;
      zk = Some (leaf_at L, v.next);
      first = u.again (done s k) refl;
      second = v.again (done s j) v.held v.next refl (rw u.no_leaf v.held_is) heads_k (itself_k v);
      same = rw (u.no_leaf, v.leaf_is) refl;
    }

    leaf_port : OfLeaf s m K j → OfPort s n k → Met s m n j k
    leaf_port u v = record {
      zj = Some (leaf_at K, u.next);
      zk = k.leaf;
      first = u.again (done s k) u.held u.next refl (rw v.no_leaf u.held_is) heads_j (itself_j u);
      second = v.again (done s j) refl;
      same = rw (v.no_leaf, u.leaf_is) refl;
    }

    two_leaves : (u : OfLeaf s m K j) (v : OfLeaf s n L k) → leaf_at K ≢ leaf_at L → Met s m n j k
    two_leaves u v d = record {
      zj = Some (leaf_at K, u.next);
      zk = Some (leaf_at L, v.next);
      first = u.again (done s k) u.held u.next refl (rw v.leaf_is (get_set_other s.leaves (leaf_at L) (leaf_at K) v.next (λ e. d (sym e)) ∙ u.held_is)) heads_j (itself_j u);
      second = v.again (done s j) v.held v.next refl (rw u.leaf_is (get_set_other s.leaves (leaf_at K) (leaf_at L) u.next d ∙ v.held_is)) heads_k (itself_k v);
      same = rw (u.leaf_is, v.leaf_is) (set_comm s.leaves (leaf_at L) (leaf_at K) v.next u.next (λ e. d (sym e)));
    }

    one_leaf : (u : OfLeaf s m K j) (v : OfLeaf s n L k) → leaf_at K ≡ leaf_at L → OtherKinds K L → FitsKinds s K L → Met s m n j k
    one_leaf u v q w fit =
        let one : u.held ≡ v.held = same_Some _ _ (sym u.held_is ∙ ap (slice_get s.leaves) q ∙ v.held_is) in
        let t = jobs_meet s K L u.held j k u.next v.next q u.held_is u.local_is (subst (λ h. local s L h ≡ Some k) (sym one) v.local_is) u.leaf_is v.leaf_is w fit in
        record {
          zj = Some (leaf_at K, t.end);
          zk = Some (leaf_at L, t.end);
          first = u.again (done s k) v.next t.end refl (rw v.leaf_is (rw q (get_set_same s.leaves (leaf_at L) v.next v.held v.held_is))) heads_j t.first;
          second = v.again (done s j) u.next t.end refl (rw u.leaf_is (rw (← q) (get_set_same s.leaves (leaf_at K) u.next u.held u.held_is))) heads_k t.second;
          same = same_after j.leaf k.leaf s.leaves (leaf_at K) (leaf_at L) u.next v.next t.end u.leaf_is v.leaf_is q;
        }

    leaves : OfLeaf s m K j → OfLeaf s n L k → OtherKinds K L → FitsKinds s K L → Met s m n j k
    leaves u v w fit = elim (cases_eq (leaf_at K) (leaf_at L)) [ inl q ↦ one_leaf u v q w fit | inr d ↦ two_leaves u v d ]

    met : OfPort s m j ⊎ OfLeaf s m K j → OfPort s n k ⊎ OfLeaf s n L k → OtherKinds K L → FitsKinds s K L → Met s m n j k
    met (inl u) (inl v) w fit = ports u v
    met (inl u) (inr v) w fit = port_leaf u v
    met (inr u) (inl v) w fit = leaf_port u v
    met (inr u) (inr v) w fit = leaves u v w fit

-- ---- apart

-- Both moves may be made, and they use neither one queue's head, nor one queue's room, nor one way of a leaf.
pub record AreApart (s : State) (m n : Move) : Type 0 where
  pub enabled : IsTrue (is_enabled s m) × IsTrue (is_enabled s n)
  pub queues : (j k : Job) → job s m ≡ Some j → job s n ≡ Some k → Apart j.a k.a × Apart j.d k.d
  pub ways : OtherKinds (kind_of m) (kind_of n)
  pub fits : FitsKinds s (kind_of m) (kind_of n)

-- Either may be made after the other, and the order changes nothing.
pub record Commute (s : State) (m n : Move) : Type 0 where
  pub second : IsTrue (is_enabled (state_after s m) n)
  pub first : IsTrue (is_enabled (state_after s n) m)
  pub same : state_after (state_after s m) n ≡ state_after (state_after s n) m

pub some_job : (s : State) (m : Move) → IsTrue (is_enabled s m) → (j : Job) × (job s m ≡ Some j) × Can s j
some_job s m h = at (job s m) refl h
  where
    at : (o : Option Job) → job s m ≡ o → IsTrue (option_map_or (may_do s) o false) → (j : Job) × (job s m ≡ Some j) × Can s j
    at None e h = absurd cc
    at (Some j) e h = (j, e, can_of s j h)

met_of : (s : State) (m n : Move) (j k : Job) → AreApart s m n → job s m ≡ Some j → job s n ≡ Some k → Can s j → Can s k → Met s m n j k
met_of s m n j k h e f cj ck =
    let q = h.queues j k e f in
    met s m n j k cj ck q.0 q.1 (kind_of m) (kind_of n) (of_move s m (kind_of m) j refl (λ t. is_job t m) e) (of_move s n (kind_of n) k refl (λ t. is_job t n) f) h.ways h.fits

enabled_by : (s : State) (m : Move) (j : Job) → job s m ≡ Some j → Can s j → IsTrue (is_enabled s m)
enabled_by s m j e c = rw e (of_can s j c)

pub after_is : (s : State) (m : Move) (j : Job) → job s m ≡ Some j → state_after s m ≡ done s j
after_is s m j e = rw e refl

pub apart_commute : (s : State) (m n : Move) → AreApart s m n → Commute s m n
apart_commute s m n h =
    let a = some_job s m h.enabled.0 in
    let b = some_job s n h.enabled.1 in
    let t = met_of s m n a.0 b.0 h a.1 b.1 a.2 b.2 in
    let q = h.queues a.0 b.0 a.1 b.1 in
    let a1 = apart_turned a.0.a b.0.a q.0 in
    let a2 = apart_turned a.0.d b.0.d q.1 in
    let jm : Job = record { a = a.0.a; d = a.0.d; leaf = t.zj } in
    let kn : Job = record { a = b.0.a; d = b.0.d; leaf = t.zk } in
    let can_m : Can (done s b.0) (record { a = a.0.a; d = a.0.d; leaf = t.zj }) = record {
      head_a = head_flowed b.0.a a.0.a s.a b.2.room_a a.2.head_a a1;
      room_a = room_flowed b.0.a a.0.a s.a a.2.room_a a1;
      head_d = head_flowed b.0.d a.0.d s.d b.2.room_d a.2.head_d a2;
      room_d = room_flowed b.0.d a.0.d s.d a.2.room_d a2;
    } in
    let can_n : Can (done s a.0) (record { a = b.0.a; d = b.0.d; leaf = t.zk }) = record {
      head_a = head_flowed a.0.a b.0.a s.a a.2.room_a b.2.head_a q.0;
      room_a = room_flowed a.0.a b.0.a s.a b.2.room_a q.0;
      head_d = head_flowed a.0.d b.0.d s.d a.2.room_d b.2.head_d q.1;
      room_d = room_flowed a.0.d b.0.d s.d b.2.room_d q.1;
    } in
    let fa = flows b.0.a a.0.a s.a b.2.head_a b.2.room_a a.2.head_a a.2.room_a a1 in
    let fd = flows b.0.d a.0.d s.d b.2.head_d b.2.room_d a.2.head_d a.2.room_d a2 in
    let am = after_is s m a.0 a.1 in
    let bn = after_is s n b.0 b.1 in
    record {
      second = subst (λ t. IsTrue (is_enabled t n)) (sym am) (enabled_by (done s a.0) n kn t.second can_n);
      first = subst (λ t. IsTrue (is_enabled t m)) (sym bn) (enabled_by (done s b.0) m jm t.first can_m);
      same = ap (λ t. state_after t n) am ∙ after_is (done s a.0) n kn t.second
          ∙ ap (λ (x : List (List (ABeat × Tag))). record { plan = s.plan; a = x; d = flowed b.0.d (flowed a.0.d s.d); leaves = with_leaf t.zk (with_leaf a.0.leaf s.leaves) }) fa
          ∙ ap (λ (x : List (List (DBeat × Tag))). record { plan = s.plan; a = flowed a.0.a (flowed b.0.a s.a); d = x; leaves = with_leaf t.zk (with_leaf a.0.leaf s.leaves) }) fd
          ∙ ap (λ (x : List Held). record { plan = s.plan; a = flowed a.0.a (flowed b.0.a s.a); d = flowed a.0.d (flowed b.0.d s.d); leaves = x }) (sym t.same)
          ∙ sym (after_is (done s b.0) m jm t.first) ∙ sym (ap (λ t. state_after t m) bn);
    }

-- a move does the same to the queues after one that is apart from it
pub kept : (s : State) (m n : Move) (k : Job) → AreApart s m n → job s n ≡ Some k → (z : Option (ℕ × Held)) × (job (state_after s m) n ≡ Some (record { a = k.a; d = k.d; leaf = z }))
kept s m n k h f =
    let a = some_job s m h.enabled.0 in
    let b = some_job s n h.enabled.1 in
    let ck : Can s k = subst (λ (j : Job). Can s j) (same_Some _ _ (sym b.1 ∙ f)) b.2 in
    let t = met_of s m n a.0 k h a.1 f a.2 ck in
    (t.zk, subst (λ x. job x n ≡ Some (record { a = k.a; d = k.d; leaf = t.zk })) (sym (after_is s m a.0 a.1)) t.second)
