-- What a width widget asks of its heads stays so after a move that is apart from its own.
use Rattle.std.proofs.Common.{◌≡◌, ℕ, Bool, true, false, List, Option, Some, None, cond, refl, sym, ap, ◌∙◌, subst, inl, inr, slice_get, is_some}
use Rattle.std.specs.Option.{option_map, option_and_then}
use Rattle.std.proofs.lemmas.Bool.{cases_eq}
use Rattle.std.proofs.lemmas.Option.{same_Some}
use Rattle.tl_edge.specs.declared.beat.ABeat.{ABeat}
use Rattle.tl_edge.specs.declared.beat.DBeat.{DBeat}
use Rattle.tl_edge.specs.declared.beat.Tag.{Tag}
use Rattle.flow_core.specs.declared.moves.Move.{Move}
use Rattle.flow_core.specs.declared.queue.Flow.{Flow}
use Rattle.flow_core.specs.Turning.{Widths, Widget}
use Rattle.flow_core.specs.Leaves.LeafState.{WidthState}
use Rattle.flow_core.specs.Tags.{Held}
use Rattle.flow_core.specs.Queues.{flowed}
use Rattle.flow_core.specs.Network.{State, Part, Job, job, in_edge, out_edge, leaf_job_a, leaf_job_d, with_leaf, done, state_after}
use Rattle.flow_choice.proofs.Queueing.{Apart, HasHead, HasRoom, same_head}
use Rattle.flow_choice.proofs.Commuting.{map_some, then_some, get_set_other, get_set_same}
use Rattle.flow_choice.proofs.Deeds.{Deed, looking, deed_down, deed_up}
use Rattle.flow_choice.proofs.OneWay.{one_down, one_up, none_other_down, none_other_up, IsAdapter}
use Rattle.flow_choice.proofs.Jobs.{Kind, Port, Down, Up, kind_of, seen, picks, part_of, local_down, local_up, IsJob, is_job, shares_of, next_is}
use Rattle.flow_choice.proofs.Meeting.{OfLeaf, of_move, OtherKinds, FitsAt, AreApart, Can, some_job, after_is, leaf_at}

-- ---- the deeds of moves

-- what a move of a leaf on channel A does there
pub record DeedDown (s : State) (l : ℕ) (k : Bool) (i o id : ℕ) (j : Job) : Type 0 where
  pub held : Held
  pub x : Deed (ABeat × Tag)
  pub held_is : slice_get s.leaves l ≡ Some held
  pub does : deed_down held id i o (seen s.a (in_edge s.plan l i)) ≡ Some x
  pub leaf_is : j.leaf ≡ Some (l, x.act.next)
  pub from_is : j.a.from ≡ cond x.looks (in_edge s.plan l i) None
  pub puts : is_some x.act.put ≡ k

pub record DeedUp (s : State) (l : ℕ) (k : Bool) (i o : ℕ) (j : Job) : Type 0 where
  pub held : Held
  pub x : Deed (DBeat × Tag)
  pub held_is : slice_get s.leaves l ≡ Some held
  pub does : deed_up held i o (seen s.d (out_edge s.plan l o)) ≡ Some x
  pub leaf_is : j.leaf ≡ Some (l, x.act.next)
  pub from_is : j.d.from ≡ cond x.looks (out_edge s.plan l o) None
  pub puts : is_some x.act.put ≡ k

from_of : {B : Type 0} (f t : ℕ) (from : Option ℕ) (d : Deed B) → from ≡ Some f → (part_of f t d).flow.from ≡ cond d.looks from None
from_of {B = B} f t from d e = at d.looks
  where
    at : (b : Bool) → (part_of f t (record { looks = b; act = d.act })).flow.from ≡ cond b from None
    at true = sym e
    at false = refl

some_of : {A C : Type 0} (f : A → C) (o : Option A) → is_some (option_map f o) ≡ is_some o
some_of f None = refl
some_of f (Some x) = refl

picked_puts : {B : Type 0} (k : Bool) (p : Part B) → picks k p ≡ Some p → is_some p.flow.put ≡ k
picked_puts {B = B} true p e = at (is_some p.flow.put) e
  where
    at : (b : Bool) → cond b (Some p) None ≡ Some p → b ≡ true
    at true e = refl
    at false e = absurd cc
picked_puts {B = B} false p e = at (is_some p.flow.put) e
  where
    at : (b : Bool) → cond b None (Some p) ≡ Some p → b ≡ false
    at true e = absurd cc
    at false e = refl

part_puts : {B : Type 0} (f t : ℕ) (d : Deed B) → is_some (part_of f t d).flow.put ≡ is_some d.act.put
part_puts {B = B} f t d = at d.looks
  where
    at : (b : Bool) → is_some (part_of f t (record { looks = b; act = d.act })).flow.put ≡ is_some d.act.put
    at true = some_of (λ beat. (t, beat)) d.act.put
    at false = some_of (λ beat. (t, beat)) d.act.put

puts_is : {B : Type 0} (k : Bool) (f t : ℕ) (d : Deed B) → picks k (part_of f t d) ≡ Some (part_of f t d) → is_some d.act.put ≡ k
puts_is k f t d e = sym (part_puts f t d) ∙ picked_puts k (part_of f t d) e

pub deed_of_down : (s : State) (m : Move) (l : ℕ) (k : Bool) (i o id : ℕ) (j : Job) → IsJob s m (Down l k i o id) → job s m ≡ Some j → DeedDown s l k i o id j
deed_of_down s m l k i o id j is e =
    let a = map_some (leaf_job_a l) (option_and_then (local_down s l k i o id) (slice_get s.leaves l)) j (sym is ∙ e) in
    let b = then_some (local_down s l k i o id) (slice_get s.leaves l) a.0 a.1 in
    let c = shares_of k (in_edge s.plan l i) (out_edge s.plan l o) (deed_down b.0 id i o (seen s.a (in_edge s.plan l i))) a.0 b.2 in
    record {
      held = b.0;
      x = c.d;
      held_is = b.1;
      does = c.does_is;
      leaf_is = ap (λ (j : Job). j.leaf) (sym a.2) ∙ ap (λ next. Some (l, next)) (sym (sym (next_is c.f c.t c.d) ∙ ap (λ (p : Part (ABeat × Tag)). p.next) c.is));
      from_is = ap (λ (j : Job). j.a.from) (sym a.2) ∙ ap (λ (p : Part (ABeat × Tag)). p.flow.from) (sym c.is) ∙ from_of c.f c.t (in_edge s.plan l i) c.d c.from_is;
      puts = puts_is k c.f c.t c.d c.picked;
    }

pub deed_of_up : (s : State) (m : Move) (l : ℕ) (k : Bool) (i o : ℕ) (j : Job) → IsJob s m (Up l k i o) → job s m ≡ Some j → DeedUp s l k i o j
deed_of_up s m l k i o j is e =
    let a = map_some (leaf_job_d l) (option_and_then (local_up s l k i o) (slice_get s.leaves l)) j (sym is ∙ e) in
    let b = then_some (local_up s l k i o) (slice_get s.leaves l) a.0 a.1 in
    let c = shares_of k (out_edge s.plan l o) (in_edge s.plan l i) (deed_up b.0 i o (seen s.d (out_edge s.plan l o))) a.0 b.2 in
    record {
      held = b.0;
      x = c.d;
      held_is = b.1;
      does = c.does_is;
      leaf_is = ap (λ (j : Job). j.leaf) (sym a.2) ∙ ap (λ next. Some (l, next)) (sym (sym (next_is c.f c.t c.d) ∙ ap (λ (p : Part (DBeat × Tag)). p.next) c.is));
      from_is = ap (λ (j : Job). j.d.from) (sym a.2) ∙ ap (λ (p : Part (DBeat × Tag)). p.flow.from) (sym c.is) ∙ from_of c.f c.t (out_edge s.plan l o) c.d c.from_is;
      puts = puts_is k c.f c.t c.d c.picked;
    }

-- ---- a width widget's deeds look at its one head

wide_down : (z : Widths) (w : Widget) (tag : Tag) (id i o : ℕ) (a : Option (ABeat × Tag)) (x : Deed (ABeat × Tag)) → deed_down (record { leaf = WidthState z w; tag = tag }) id i o a ≡ Some x → (x.looks ≡ true) × (i ≡ 0)
wide_down z w tag id i o None x e = absurd cc
wide_down z w tag id i o (Some a) x e = (
  ap (λ (d : Deed (ABeat × Tag)). d.looks) (sym (map_some looking _ x e).2),
  (one_down (WidthState z w) tag id i o (Some a) x (unfold IsAdapter in tt) e).0,
)

wide_up : (z : Widths) (w : Widget) (tag : Tag) (i o : ℕ) (c : Option (DBeat × Tag)) (x : Deed (DBeat × Tag)) → deed_up (record { leaf = WidthState z w; tag = tag }) i o c ≡ Some x → (x.looks ≡ true) × (o ≡ 0)
wide_up z w tag i o None x e = absurd cc
wide_up z w tag i o (Some c) x e = (
  ap (λ (d : Deed (DBeat × Tag)). d.looks) (sym (map_some looking _ x e).2),
  (one_up (WidthState z w) tag i o (Some c) x (unfold IsAdapter in tt) e).1,
)

looks_down : (s : State) (l : ℕ) (k : Bool) (i o id : ℕ) (j : Job) (d : DeedDown s l k i o id j) (z : Widths) (w : Widget) → d.held.leaf ≡ WidthState z w → j.a.from ≡ in_edge s.plan l 0
looks_down s l k i o id j d z w e =
    let a = wide_down z w d.held.tag id i o (seen s.a (in_edge s.plan l i)) d.x (subst (λ leaf. deed_down (record { leaf = leaf; tag = d.held.tag }) id i o (seen s.a (in_edge s.plan l i)) ≡ Some d.x) e d.does) in
    d.from_is ∙ ap (λ b. cond b (in_edge s.plan l i) None) a.0 ∙ ap (in_edge s.plan l) a.1

looks_up : (s : State) (l : ℕ) (k : Bool) (i o : ℕ) (j : Job) (d : DeedUp s l k i o j) (z : Widths) (w : Widget) → d.held.leaf ≡ WidthState z w → j.d.from ≡ out_edge s.plan l 0
looks_up s l k i o j d z w e =
    let a = wide_up z w d.held.tag i o (seen s.d (out_edge s.plan l o)) d.x (subst (λ leaf. deed_up (record { leaf = leaf; tag = d.held.tag }) i o (seen s.d (out_edge s.plan l o)) ≡ Some d.x) e d.does) in
    d.from_is ∙ ap (λ b. cond b (out_edge s.plan l o) None) a.0 ∙ ap (out_edge s.plan l) a.1

-- the head of the edge that another move looks at is the same after a move that is apart from it
still_seen : {B : Type 0} (f g : Flow B) (edge : Option ℕ) (qs : List (List B)) → HasRoom qs f.put → HasHead qs g.from → Apart f g → g.from ≡ edge → seen (flowed f qs) edge ≡ seen qs edge
still_seen {B = B} f g edge qs r h a e = at edge e
  where
    at : (o : Option ℕ) → g.from ≡ o → seen (flowed f qs) o ≡ seen qs o
    at None q = refl
    at (Some n) q = same_head f g n qs r a q h

-- ---- the law

-- what is known of the two moves of a leaf, one on each channel, before a third one that is apart from both
module _ (s : State) (m n p : Move) (l a b c a' b' : ℕ) (kn kp : Bool) (nk : kind_of n ≡ Down l kn a b c) (pk : kind_of p ≡ Up l kp a' b') (mn : AreApart s m n) (mp : AreApart s m p) where
  jm : (j : Job) × (job s m ≡ Some j) × Can s j
  jm = some_job s m mn.enabled.0

  jn : (j : Job) × (job s n ≡ Some j) × Can s j
  jn = some_job s n mn.enabled.1

  jp : (j : Job) × (job s p ≡ Some j) × Can s j
  jp = some_job s p mp.enabled.1

  dn : DeedDown s l kn a b c jn.0
  dn = deed_of_down s n l kn a b c jn.0 (subst (IsJob s n) nk (is_job s n)) jn.1

  dp : DeedUp s l kp a' b' jp.0
  dp = deed_of_up s p l kp a' b' jp.0 (subst (IsJob s p) pk (is_job s p)) jp.1

  -- a move elsewhere leaves the leaf and its heads
  elsewhere : slice_get (with_leaf jm.0.leaf s.leaves) l ≡ slice_get s.leaves l → FitsAt s l → FitsAt (done s jm.0) l
  elsewhere same fit held e =
      let here : slice_get s.leaves l ≡ Some held = sym same ∙ e in
      let hn : dn.held ≡ held = same_Some _ _ (sym dn.held_is ∙ here) in
      let hp : dp.held ≡ held = same_Some _ _ (sym dp.held_is ∙ here) in
      let qn = mn.queues jm.0 jn.0 jm.1 jn.1 in
      let qp = mp.queues jm.0 jp.0 jm.1 jp.1 in
      λ x y f g z w is.
      let fn = looks_down s l kn a b c jn.0 dn z w (ap (λ (h : Held). h.leaf) hn ∙ is) in
      let fp = looks_up s l kp a' b' jp.0 dp z w (ap (λ (h : Held). h.leaf) hp ∙ is) in
      let sa = still_seen jm.0.a jn.0.a (in_edge s.plan l 0) s.a jm.2.room_a jn.2.head_a qn.0 fn in
      let sd = still_seen jm.0.d jp.0.d (out_edge s.plan l 0) s.d jm.2.room_d jp.2.head_d qp.1 fp in
      fit held here x y (sym sa ∙ f) (sym sd ∙ g) z w is

  -- a third move of the leaf itself on channel A has another input than the one there, as no widget's has
  down_here : (k : Bool) (i o id : ℕ) → kind_of m ≡ Down l k i o id → FitsAt (done s jm.0) l
  down_here k i o id mk held e =
      let d = deed_of_down s m l k i o id jm.0 (subst (IsJob s m) mk (is_job s m)) jm.1 in
      let now : slice_get (with_leaf jm.0.leaf s.leaves) l ≡ Some d.x.act.next = ap (λ o. slice_get (with_leaf o s.leaves) l) d.leaf_is ∙ get_set_same s.leaves l d.x.act.next d.held d.held_is in
      let is : d.x.act.next ≡ held = same_Some _ _ (sym now ∙ e) in
      let one : dn.held ≡ d.held = same_Some _ _ (sym dn.held_is ∙ d.held_is) in
      let way : OtherKinds (Down l k i o id) (Down l kn a b c) = subst (λ K. OtherKinds K (Down l kn a b c)) mk (subst (OtherKinds (kind_of m)) nk mn.ways) in
      λ x y f g z w q. absurd (none_other_down d.held id i o c a b (seen s.a (in_edge s.plan l i)) (seen s.a (in_edge s.plan l a)) d.x dn.x z w (way refl).0 d.does
      (subst (λ h. deed_down h c a b (seen s.a (in_edge s.plan l a)) ≡ Some dn.x) one dn.does) (ap (λ (h : Held). h.leaf) is ∙ q))

  up_here : (k : Bool) (i o : ℕ) → kind_of m ≡ Up l k i o → FitsAt (done s jm.0) l
  up_here k i o mk held e =
      let d = deed_of_up s m l k i o jm.0 (subst (IsJob s m) mk (is_job s m)) jm.1 in
      let now : slice_get (with_leaf jm.0.leaf s.leaves) l ≡ Some d.x.act.next = ap (λ o. slice_get (with_leaf o s.leaves) l) d.leaf_is ∙ get_set_same s.leaves l d.x.act.next d.held d.held_is in
      let is : d.x.act.next ≡ held = same_Some _ _ (sym now ∙ e) in
      let one : dp.held ≡ d.held = same_Some _ _ (sym dp.held_is ∙ d.held_is) in
      let way : OtherKinds (Up l k i o) (Up l kp a' b') = subst (λ K. OtherKinds K (Up l kp a' b')) mk (subst (OtherKinds (kind_of m)) pk mp.ways) in
      λ x y f g z w q. absurd (none_other_up d.held i o a' b' (seen s.d (out_edge s.plan l o)) (seen s.d (out_edge s.plan l b')) d.x dp.x z w (way refl).0 d.does
      (subst (λ h. deed_up h a' b' (seen s.d (out_edge s.plan l b')) ≡ Some dp.x) one dp.does) (ap (λ (h : Held). h.leaf) is ∙ q))

  by_kind : (K : Kind) → kind_of m ≡ K → FitsAt s l → FitsAt (done s jm.0) l
  by_kind K mk fit = elim (of_move s m K jm.0 mk (λ t. subst (IsJob t m) mk (is_job t m)) jm.1) [
    | inl u ↦ elsewhere (ap (λ o. slice_get (with_leaf o s.leaves) l) u.no_leaf) fit
    | inr u ↦ elim (cases_eq (leaf_at K) l) [
      | inr d ↦ elsewhere (ap (λ o. slice_get (with_leaf o s.leaves) l) u.leaf_is ∙ get_set_other s.leaves (leaf_at K) l u.next d) fit
      | inl q ↦ at_leaf K mk q u
    ]
  ]
    where
      at_leaf : (K : Kind) → kind_of m ≡ K → leaf_at K ≡ l → OfLeaf s m K jm.0 → FitsAt (done s jm.0) l
      at_leaf Port mk q u = absurd (let e = u.local_is in cc)
      at_leaf (Down l' k i o id) mk q u = down_here k i o id (mk ∙ ap (λ l. Down l k i o id) q)
      at_leaf (Up l' k i o) mk q u = up_here k i o (mk ∙ ap (λ l. Up l k i o) q)

  pub fits_after : FitsAt s l → FitsAt (state_after s m) l
  fits_after fit = subst (λ t. FitsAt t l) (sym (after_is s m jm.0 jm.1)) (by_kind (kind_of m) refl fit)
