-- Each kind of leaf: an act on channel A and an act on channel D may be made in either order, and so may two acts of a
-- crossbar on one channel from different inputs to different outputs.
use Rattle.std.proofs.Common.{◌≡◌, ◌≢◌, ℕ, zero, suc, ◌+◌, ◌-◌, Bool, true, false, ◌&&◌, ◌==◌, List, [], ◌∷◌, length, Option, Some, None, refl, sym, ap, ◌∙◌, subst, arith, cond, IsTrue, slice_get, slice_set, is_some}
use Rattle.std.specs.Prelude.{is_none}
use Rattle.std.specs.Option.{option_map, option_and_then, unwrap_or}
use Rattle.std.proofs.lemmas.List.{set_comm}
use Rattle.std.proofs.lemmas.Bool.Decides.{nat_tests}
use Rattle.std.proofs.lemmas.Option.{same_Some}
use Rattle.dip_sets.specs.declared.ids.IdRange.{IdRange}
use Rattle.dip_sets.specs.Ids.{has_id}
use Rattle.tl_edge.specs.declared.beat.ABeat.{ABeat}
use Rattle.tl_edge.specs.declared.beat.DBeat.{DBeat}
use Rattle.tl_edge.specs.Messages.{has_data, brings_data}
use Rattle.tl_edge.specs.Beats.{request_beats, response_beats}
use Rattle.flow_core.specs.declared.locks.Gate.{Gate}
use Rattle.flow_core.specs.declared.locks.Gates.{Gates}
use Rattle.flow_core.specs.Acts.{Act, forwards, with_a_id, with_d_id, with_d_lanes}
use Rattle.flow_core.specs.Crossing.{Crossbar, goes_to, passed_at, with_out, with_in, cross_down, crossed_down, cross_up, crossed_up}
use Rattle.flow_core.specs.Shrinking.{Slots, Asking, is_free, old_of, asking_after, shrink_down, shrink_down_in, left_after, answered, shrink_up}
use Rattle.flow_core.specs.Turning.{Widths, Widget, Side, Lanes, lanes_of, turned, data_down, plain_down, kept_after, turn_down, data_up, turned_up, turn_up}
use Rattle.flow_core.specs.Leaves.{LeafState, only_way}
use Rattle.flow_core.specs.Leaves.LeafState.{FragmenterState}
use Rattle.flow_choice.specs.Valid.{Begins}

pub map_some : {A B : Type 0} (f : A → B) (o : Option A) (y : B) → option_map f o ≡ Some y → (x : A) × (o ≡ Some x) × (f x ≡ y)
map_some f None y e = absurd cc
map_some f (Some x) y e = (x, refl, same_Some _ _ e)

pub then_some : {A B : Type 0} (f : A → Option B) (o : Option A) (y : B) → option_and_then f o ≡ Some y → (x : A) × (o ≡ Some x) × (f x ≡ Some y)
then_some f None y e = absurd cc
then_some f (Some x) y e = (x, refl, e)

pub cond_some : {A : Type 0} (b : Bool) (o : Option A) (y : A) → cond b o None ≡ Some y → (b ≡ true) × (o ≡ Some y)
cond_some true o y e = (refl, e)
cond_some false o y e = absurd cc

pub get_set_other : {A : Type 0} (xs : List A) (i j : ℕ) (v : A) → i ≢ j → slice_get (slice_set xs i v) j ≡ slice_get xs j
get_set_other [] i j v h = refl
get_set_other (x ∷ xs) zero zero v h = absurd (h refl)
get_set_other (x ∷ xs) zero (suc j) v h = refl
get_set_other (x ∷ xs) (suc i) zero v h = refl
get_set_other (x ∷ xs) (suc i) (suc j) v h = get_set_other xs i j v (λ e. h (ap suc e))

pub get_set_same : {A : Type 0} (xs : List A) (i : ℕ) (v x : A) → slice_get xs i ≡ Some x → slice_get (slice_set xs i v) i ≡ Some v
get_set_same [] i v x e = absurd cc
get_set_same (y ∷ xs) zero v x e = refl
get_set_same (y ∷ xs) (suc i) v x e = get_set_same xs i v x e

-- it isn't a fragmenter
unfoldable pub IsPlain : LeafState → Type 0
IsPlain (FragmenterState knife hand) = ⊥
IsPlain _ = Unit {0}

-- the same act with another state afterwards
abbrev pub ending : {B S : Type 0} → Act B S → S → Act B S
ending act end = record { take = act.take; put = act.put; next = end }

-- either act may follow the other: it takes and puts the same, and the leaf ends the same
pub record Meets {A D S : Type 0} (f : S → Option (Act A S)) (g : S → Option (Act D S)) (x : Act A S) (y : Act D S) : Type 0 where
  pub end : S
  pub first : f y.next ≡ Some (ending x end)
  pub second : g x.next ≡ Some (ending y end)

-- ---- the one way of an adapter

both : (a b : Bool) → (a && b) ≡ true → (a ≡ true) × (b ≡ true)
both true b h = (refl, h)
both false b h = absurd cc

zero_is : (n : ℕ) → (n == 0) ≡ true → n ≡ 0
zero_is n h = grind (arith, nat_tests)

pub way_true : (id i o : ℕ) → (id == 0 && i == 0 && o == 0) ≡ true → (id ≡ 0) × (i ≡ 0) × (o ≡ 0)
way_true id i o h =
    let a = both (id == 0 && i == 0) (o == 0) h in
    let b = both (id == 0) (i == 0) a.0 in
    (zero_is id b.0, zero_is i b.1, zero_is o a.1)

pub only : {A : Type 0} (id i o : ℕ) (act : Option A) (y : A) → only_way id i o act ≡ Some y → (id ≡ 0) × (i ≡ 0) × (o ≡ 0) × (act ≡ Some y)
only id i o act y e =
    let c = cond_some (id == 0 && i == 0 && o == 0) act y e in
    let w = way_true id i o c.0 in
    (w.0, w.1, w.2, c.1)

pub only_from : {A : Type 0} (id i o : ℕ) (act : Option A) → id ≡ 0 → i ≡ 0 → o ≡ 0 → only_way id i o act ≡ act
only_from id i o act e f g = rw (e, f, g) refl

-- ---- crossbar

record Downs (bar : Crossbar) (gates : Gates) (i o : ℕ) (b : ABeat) (x : Act ABeat Gates) : Type 0 where
  range : IdRange
  next : Gate
  owned : goes_to bar o b.address ≡ true
  ranged : slice_get bar.ranges i ≡ Some range
  pass : passed_at gates.outs o i (length bar.ranges) (request_beats b.op b.size bar.width) ≡ Some next
  is : forwards (with_a_id (b.source + range.start) b) (with_out gates o next) ≡ x

downs_of : (bar : Crossbar) (gates : Gates) (i o : ℕ) (b : ABeat) (x : Act ABeat Gates) → cross_down bar gates i o b ≡ Some x → Downs bar gates i o b x
downs_of bar gates i o b x e =
    let e1 = cond_some (goes_to bar o b.address) _ x e in
    let e2 = then_some (crossed_down bar gates i o b) (slice_get bar.ranges i) x e1.1 in
    let e3 = map_some _ (passed_at gates.outs o i (length bar.ranges) (request_beats b.op b.size bar.width)) x e2.2 in
    record { range = e2.0; next = e3.0; owned = e1.0; ranged = e2.1; pass = e3.1; is = e3.2 }

downs_from : (bar : Crossbar) (gates : Gates) (i o : ℕ) (b : ABeat) (range : IdRange) (next : Gate) → goes_to bar o b.address ≡ true → slice_get bar.ranges i ≡ Some range
    → passed_at gates.outs o i (length bar.ranges) (request_beats b.op b.size bar.width) ≡ Some next
    → cross_down bar gates i o b ≡ Some (forwards (with_a_id (b.source + range.start) b) (with_out gates o next))
downs_from bar gates i o b range next e f g =
    ap (λ t. cond t (option_and_then (crossed_down bar gates i o b) (slice_get bar.ranges i)) None) e
    ∙ ap (option_and_then (crossed_down bar gates i o b)) f
    ∙ ap (option_map (λ gate. forwards (with_a_id (b.source + range.start) b) (with_out gates o gate))) g

record Ups (bar : Crossbar) (gates : Gates) (i o : ℕ) (b : DBeat) (x : Act DBeat Gates) : Type 0 where
  range : IdRange
  next : Gate
  ranged : slice_get bar.ranges i ≡ Some range
  has : has_id range b.source ≡ true
  pass : passed_at gates.ins i o (length bar.slaves) (response_beats b.op b.size bar.width) ≡ Some next
  is : forwards (with_d_id (b.source - range.start) b) (with_in gates i next) ≡ x

abbrev up_in : Crossbar → Gates → ℕ → ℕ → DBeat → IdRange → Option (Act DBeat Gates)
up_in bar gates i o b range = cond (has_id range b.source) (crossed_up bar gates i o b range) None

ups_of : (bar : Crossbar) (gates : Gates) (i o : ℕ) (b : DBeat) (x : Act DBeat Gates) → cross_up bar gates i o b ≡ Some x → Ups bar gates i o b x
ups_of bar gates i o b x e =
    let e1 = then_some (up_in bar gates i o b) (slice_get bar.ranges i) x e in
    let e2 = cond_some (has_id e1.0 b.source) _ x e1.2 in
    let e3 = map_some _ (passed_at gates.ins i o (length bar.slaves) (response_beats b.op b.size bar.width)) x e2.1 in
    record { range = e1.0; next = e3.0; ranged = e1.1; has = e2.0; pass = e3.1; is = e3.2 }

ups_from : (bar : Crossbar) (gates : Gates) (i o : ℕ) (b : DBeat) (range : IdRange) (next : Gate) → slice_get bar.ranges i ≡ Some range → has_id range b.source ≡ true
    → passed_at gates.ins i o (length bar.slaves) (response_beats b.op b.size bar.width) ≡ Some next
    → cross_up bar gates i o b ≡ Some (forwards (with_d_id (b.source - range.start) b) (with_in gates i next))
ups_from bar gates i o b range next e f g =
    ap (option_and_then (up_in bar gates i o b)) e
    ∙ ap (λ t. cond t (crossed_up bar gates i o b range) None) f
    ∙ ap (option_map (λ gate. forwards (with_d_id (b.source - range.start) b) (with_in gates i gate))) g

-- what a crossbar passes it puts: to an output that owns the address, or to an input whose range has the id
pub crossed_down_of : (bar : Crossbar) (gates : Gates) (i o : ℕ) (b : ABeat) (x : Act ABeat Gates) → cross_down bar gates i o b ≡ Some x → (goes_to bar o b.address ≡ true) × (is_some x.put ≡ true)
crossed_down_of bar gates i o b x e = let d = downs_of bar gates i o b x e in (d.owned, ap (λ (x : Act ABeat Gates). is_some x.put) (sym d.is))

pub crossed_up_of : (bar : Crossbar) (gates : Gates) (i o : ℕ) (b : DBeat) (x : Act DBeat Gates) → cross_up bar gates i o b ≡ Some x
    → ((range : IdRange) × (slice_get bar.ranges i ≡ Some range) × (has_id range b.source ≡ true)) × (is_some x.put ≡ true)
crossed_up_of bar gates i o b x e = let d = ups_of bar gates i o b x e in ((d.range, d.ranged, d.has), ap (λ (x : Act DBeat Gates). is_some x.put) (sym d.is))

pub bar_meets : (bar : Crossbar) (gates : Gates) (i o p q : ℕ) (b : ABeat) (c : DBeat) (x : Act ABeat Gates) (y : Act DBeat Gates) → cross_down bar gates i o b ≡ Some x → cross_up bar gates p q c ≡ Some y
    → Meets (λ g. cross_down bar g i o b) (λ g. cross_up bar g p q c) x y
bar_meets bar gates i o p q b c x y e f =
    let d = downs_of bar gates i o b x e in
    let u = ups_of bar gates p q c y f in
    rw (← d.is, ← u.is) (record {
      end = record { outs = slice_set gates.outs o d.next; ins = slice_set gates.ins p u.next };
      first = downs_from bar (with_in gates p u.next) i o b d.range d.next d.owned d.ranged d.pass;
      second = ups_from bar (with_out gates o d.next) p q c u.range u.next u.ranged u.has u.pass;
    })

pub bar_downs : (bar : Crossbar) (gates : Gates) (i o j p : ℕ) (b c : ABeat) (x y : Act ABeat Gates) → o ≢ p → cross_down bar gates i o b ≡ Some x → cross_down bar gates j p c ≡ Some y
    → Meets (λ g. cross_down bar g i o b) (λ g. cross_down bar g j p c) x y
bar_downs bar gates i o j p b c x y h e f =
    let d = downs_of bar gates i o b x e in
    let u = downs_of bar gates j p c y f in
    rw (← d.is, ← u.is) (record {
      end = record { outs = slice_set (slice_set gates.outs p u.next) o d.next; ins = gates.ins };
      first = downs_from bar (with_out gates p u.next) i o b d.range d.next d.owned d.ranged (gate_kept gates.outs p o u.next i (length bar.ranges) (request_beats b.op b.size bar.width) d.next (λ z. h (sym z)) d.pass);
      second = downs_from bar (with_out gates o d.next) j p c u.range u.next u.owned u.ranged (gate_kept gates.outs o p d.next j (length bar.ranges) (request_beats c.op c.size bar.width) u.next h u.pass)
          ∙ ap (λ outs. Some (forwards (with_a_id (c.source + u.range.start) c) (record { outs = outs; ins = gates.ins }))) (set_comm gates.outs o p d.next u.next h);
    })
  where
    gate_kept : (gates : List Gate) (p o : ℕ) (other : Gate) (who count beats : ℕ) (next : Gate) → p ≢ o → passed_at gates o who count beats ≡ Some next → passed_at (slice_set gates p other) o who count beats ≡ Some next
    gate_kept gates p o other who count beats next h e = rw (get_set_other gates p o other h) e

pub bar_ups : (bar : Crossbar) (gates : Gates) (i o j p : ℕ) (b c : DBeat) (x y : Act DBeat Gates) → i ≢ j → cross_up bar gates i o b ≡ Some x → cross_up bar gates j p c ≡ Some y
    → Meets (λ g. cross_up bar g i o b) (λ g. cross_up bar g j p c) x y
bar_ups bar gates i o j p b c x y h e f =
    let d = ups_of bar gates i o b x e in
    let u = ups_of bar gates j p c y f in
    rw (← d.is, ← u.is) (record {
      end = record { outs = gates.outs; ins = slice_set (slice_set gates.ins j u.next) i d.next };
      first = ups_from bar (with_in gates j u.next) i o b d.range d.next d.ranged d.has (gate_kept gates.ins j i u.next o (length bar.slaves) (response_beats b.op b.size bar.width) d.next (λ z. h (sym z)) d.pass);
      second = ups_from bar (with_in gates i d.next) j p c u.range u.next u.ranged u.has (gate_kept gates.ins i j d.next p (length bar.slaves) (response_beats c.op c.size bar.width) u.next h u.pass)
          ∙ ap (λ ins. Some (forwards (with_d_id (c.source - u.range.start) c) (record { outs = gates.outs; ins = ins }))) (set_comm gates.ins i j d.next u.next h);
    })
  where
    gate_kept : (gates : List Gate) (p o : ℕ) (other : Gate) (who count beats : ℕ) (next : Gate) → p ≢ o → passed_at gates o who count beats ≡ Some next → passed_at (slice_set gates p other) o who count beats ≡ Some next
    gate_kept gates p o other who count beats next h e = rw (get_set_other gates p o other h) e

-- ---- shrinker: the id that a request takes is free, the one that a response has isn't

free_at : (olds : List (Option ℕ)) (k : ℕ) → is_free olds k ≡ true → old_of olds k ≡ None
free_at olds k e = at (slice_get olds k) e
  where
    at : (o : Option (Option ℕ)) → cond (is_none o) false (is_none (unwrap_or o None)) ≡ true → option_and_then (λ old. old) o ≡ None
    at None e = absurd cc
    at (Some None) e = refl
    at (Some (Some n)) e = absurd cc

apart_ids : (olds : List (Option ℕ)) (k j old : ℕ) → is_free olds k ≡ true → old_of olds j ≡ Some old → k ≢ j
apart_ids olds k j old e f s = let g = free_at olds k e in let h : old_of olds k ≡ Some old = rw s f in absurd (cc (g, h))

-- after a response's beat the slots that it didn't free are as before
after_up : (olds : List (Option ℕ)) (last : Bool) (j k : ℕ) → j ≢ k → slice_get (cond last (slice_set olds j None) olds) k ≡ slice_get olds k
after_up olds true j k h = get_set_other olds j k None h
after_up olds false j k h = refl

free_after : (olds : List (Option ℕ)) (last : Bool) (j k : ℕ) → j ≢ k → is_free (cond last (slice_set olds j None) olds) k ≡ is_free olds k
free_after olds last j k h = ap (λ (o : Option (Option ℕ)). cond (is_none o) false (is_none (unwrap_or o None))) (after_up olds last j k h)

old_after : (olds : List (Option ℕ)) (j k v : ℕ) → k ≢ j → old_of (slice_set olds k (Some v)) j ≡ old_of olds j
old_after olds j k v h = ap (option_and_then (λ old. old)) (get_set_other olds k j (Some v) h)

both_set : (olds : List (Option ℕ)) (last : Bool) (j k v : ℕ) → k ≢ j
    → cond last (slice_set (slice_set olds k (Some v)) j None) (slice_set olds k (Some v)) ≡ slice_set (cond last (slice_set olds j None) olds) k (Some v)
both_set olds true j k v h = set_comm olds k j (Some v) None h
both_set olds false j k v h = refl

-- what a shrinker passes it puts
pub shrunk_down : (width k : ℕ) (slots : Slots) (b : ABeat) (x : Act ABeat Slots) → shrink_down width slots k b ≡ Some x → is_some x.put ≡ true
shrunk_down width k slots b x e = at slots.asking e
  where
    at : (o : Option Asking) → shrink_down_in o width slots k b ≡ Some x → is_some x.put ≡ true
    at None e = ap (λ (x : Act ABeat Slots). is_some x.put) (sym (same_Some _ _ (cond_some (is_free slots.olds k) _ x e).1))
    at (Some asking) e = ap (λ (x : Act ABeat Slots). is_some x.put) (sym (same_Some _ _ (cond_some (asking.id == k) _ x e).1))

pub shrunk_up : (width : ℕ) (slots : Slots) (c : DBeat) (y : Act DBeat Slots) → shrink_up width slots c ≡ Some y → is_some y.put ≡ true
shrunk_up width slots c y e =
    let u = map_some (answered slots c (left_after slots.answering (response_beats c.op c.size width))) (old_of slots.olds c.source) y e in
    ap (λ (y : Act DBeat Slots). is_some y.put) (sym u.2)

pub shrink_meets : (width k : ℕ) (slots : Slots) (b : ABeat) (c : DBeat) (x : Act ABeat Slots) (y : Act DBeat Slots) → shrink_down width slots k b ≡ Some x → shrink_up width slots c ≡ Some y
    → Meets (λ s. shrink_down width s k b) (λ s. shrink_up width s c) x y
shrink_meets width k slots b c x y e f =
    let u = map_some (answered slots c (left_after slots.answering (response_beats c.op c.size width))) (old_of slots.olds c.source) y f in
    rw (← u.2) (at slots.asking refl e u.0 u.1)
  where
    at : (o : Option Asking) → slots.asking ≡ o → shrink_down_in o width slots k b ≡ Some x → (old : ℕ) → old_of slots.olds c.source ≡ Some old
        → Meets (λ s. shrink_down width s k b) (λ s. shrink_up width s c) x (answered slots c (left_after slots.answering (response_beats c.op c.size width)) old)
    at None g e old f =
        let e1 = cond_some (is_free slots.olds k) _ x e in
        let n : k ≢ c.source = apart_ids slots.olds k c.source old e1.0 f in
        let t = left_after slots.answering (response_beats c.op c.size width) == 0 in
        rw (← (same_Some _ _ e1.1)) (record {
          end = record {
            olds = slice_set (cond t (slice_set slots.olds c.source None) slots.olds) k (Some b.source);
            asking = asking_after k (request_beats b.op b.size width);
            answering = left_after slots.answering (response_beats c.op c.size width);
          };
          first = rw g (rw (free_after slots.olds t c.source k (λ z. n (sym z)) ∙ e1.0) refl);
          second = rw (old_after slots.olds c.source k b.source n ∙ f) (ap (λ olds. Some (forwards (with_d_id old c) (record { olds = olds; asking = asking_after k (request_beats b.op b.size width); answering = left_after slots.answering (response_beats c.op c.size width) })))
              (both_set slots.olds t c.source k b.source n));
        })
    at (Some asking) g e old f =
        let e1 = cond_some (asking.id == k) _ x e in
        let t = left_after slots.answering (response_beats c.op c.size width) == 0 in
        rw (← (same_Some _ _ e1.1)) (record {
          end = record {
            olds = cond t (slice_set slots.olds c.source None) slots.olds;
            asking = asking_after k asking.left;
            answering = left_after slots.answering (response_beats c.op c.size width);
          };
          first = rw (g, e1.0) refl;
          second = rw f refl;
        })

-- ---- width widget

-- an act down neither reads nor changes what is kept of channel D
record WideDown (z : Widths) (s : Widget) (b : ABeat) (x : Act ABeat Widget) : Type 0 where
  d : x.next.d ≡ s.d
  other : (side : Side) → turn_down z (record { kept = s.kept; a = s.a; d = side }) b ≡ Some (ending x (record { kept = x.next.kept; a = x.next.a; d = side }))
  ids : (j : ℕ) → (Begins s b → b.source ≢ j) → (z.above == z.below) ≡ false → slice_get x.next.kept j ≡ slice_get s.kept j

kept_other : (t : Bool) (kept : List (Option ℕ)) (b : ABeat) (j : ℕ) → (t ≡ true → b.source ≢ j) → slice_get (kept_after t kept b) j ≡ slice_get kept j
kept_other true kept b j h = get_set_other kept b.source j _ (h refl)
kept_other false kept b j h = refl

never : {A : Type 0} → IsTrue false → A
never h = absurd cc

down_of : (z : Widths) (s : Widget) (b : ABeat) (x : Act ABeat Widget) → turn_down z s b ≡ Some x → WideDown z s b x
down_of z s b x e = at (z.above == z.below) (has_data b.op) refl refl (turned z.above z.below b.address b.size s.a (lanes_of b)) refl e
  where
    at : (p q : Bool) → (z.above == z.below) ≡ p → has_data b.op ≡ q → (t : Option (Act Lanes Side)) → turned z.above z.below b.address b.size s.a (lanes_of b) ≡ t
        → cond p (Some (forwards b s)) (cond q (option_map (data_down s b) t) (Some (plain_down z s b))) ≡ Some x → WideDown z s b x
    at true q ep eq t et e = rw (← (same_Some _ _ e)) (record { d = refl; other = λ side. rw ep refl; ids = λ j h n. refl })
    at false true ep eq None et e = absurd cc
    at false true ep eq (Some t) et e = rw (← (same_Some _ _ e)) (record { d = refl; other = λ side. rw (ep, eq, et) refl; ids = λ j h n. kept_other (s.a.done == 0) s.kept b j (λ k. h (λ w. zero_is s.a.done k)) })
    at false false ep eq t et e = rw (← (same_Some _ _ e)) (record { d = refl; other = λ side. rw (ep, eq) refl; ids = λ j h n. kept_other true s.kept b j (λ k. h (λ w. never (subst IsTrue eq w))) })

-- an act up reads one kept address, and changes nothing of channel A
record WideUp (z : Widths) (s : Widget) (c : DBeat) (y : Act DBeat Widget) : Type 0 where
  kept : y.next.kept ≡ s.kept
  a : y.next.a ≡ s.a
  other : (ks : List (Option ℕ)) (side : Side) → ((z.above == z.below) ≡ false → slice_get ks c.source ≡ slice_get s.kept c.source)
      → turn_up z (record { kept = ks; a = side; d = s.d }) c ≡ Some (ending y (record { kept = ks; a = side; d = y.next.d }))

up_of : (z : Widths) (s : Widget) (c : DBeat) (y : Act DBeat Widget) → turn_up z s c ≡ Some y → WideUp z s c y
up_of z s c y e = at (z.above == z.below) (brings_data c.op) refl refl (slice_get s.kept c.source) refl e
  where
    turn : (ep : (z.above == z.below) ≡ false) (eq : brings_data c.op ≡ true) (address : ℕ) → slice_get s.kept c.source ≡ Some (Some address) → (t : Option (Act Lanes Side)) → turned z.below z.above address c.size s.d (record { mask = 0; payload = c.payload }) ≡ t
        → option_map (data_up s c) t ≡ Some y → WideUp z s c y
    turn ep eq address g None et e = absurd cc
    turn ep eq address g (Some t) et e = rw (← (same_Some _ _ e)) (record { kept = refl; a = refl; other = λ ks side h. rw (ep, eq, h ep, g, et) refl })

    at : (p q : Bool) → (z.above == z.below) ≡ p → brings_data c.op ≡ q → (o : Option (Option ℕ)) → slice_get s.kept c.source ≡ o
        → cond p (Some (forwards c s)) (cond q (option_and_then (turned_up z s c) (option_and_then (λ address. address) o)) (Some (forwards (with_d_lanes 0 c) s))) ≡ Some y → WideUp z s c y
    at true q ep eq o g e = rw (← (same_Some _ _ e)) (record { kept = refl; a = refl; other = λ ks side h. rw ep refl })
    at false false ep eq o g e = rw (← (same_Some _ _ e)) (record { kept = refl; a = refl; other = λ ks side h. rw (ep, eq) refl })
    at false true ep eq None g e = absurd cc
    at false true ep eq (Some None) g e = absurd cc
    at false true ep eq (Some (Some address)) g e = turn ep eq address g (turned z.below z.above address c.size s.d (record { mask = 0; payload = c.payload })) refl e

pub width_meets : (z : Widths) (s : Widget) (b : ABeat) (c : DBeat) (x : Act ABeat Widget) (y : Act DBeat Widget) → ((z.above == z.below) ≡ false → Begins s b → b.source ≢ c.source)
    → turn_down z s b ≡ Some x → turn_up z s c ≡ Some y → Meets (λ s. turn_down z s b) (λ s. turn_up z s c) x y
width_meets z s b c x y n e f =
    let d = down_of z s b x e in
    let u = up_of z s c y f in
    record {
      end = record { kept = x.next.kept; a = x.next.a; d = y.next.d };
      first = rw (u.kept, u.a) (d.other y.next.d);
      second = rw d.d (u.other x.next.kept x.next.a (λ w. d.ids c.source (n w) w));
    }
