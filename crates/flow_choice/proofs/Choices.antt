-- At one leaf of a locally valid state: what it absorbs it doesn't put too, and no two chosen moves share an input or an
-- output.
use Rattle.std.proofs.Common.{◌≡◌, ℕ, Bool, true, false, ◌==◌, ◌&&◌, Option, Some, None, refl, sym, ap, ◌∙◌, subst, arith, rules, is_some, IsTrue}
use Rattle.std.specs.Prelude.{nat_le, nat_lt}
use Rattle.std.specs.Option.{option_map, option_and_then}
use Rattle.std.proofs.lemmas.Bool.Decides.{nat_tests}
use Rattle.std.proofs.lemmas.Option.{same_Some}
use Rattle.dip_sets.specs.declared.ids.IdRange.{IdRange}
use Rattle.dip_sets.specs.Ids.{HasId, has_id}
use Rattle.tl_edge.specs.declared.beat.ABeat.{ABeat}
use Rattle.tl_edge.specs.declared.beat.DBeat.{DBeat}
use Rattle.tl_edge.specs.declared.beat.Tag.{Tag}
use Rattle.tl_edge.specs.declared.plan.Plan.{Plan}
use Rattle.flow_core.specs.declared.locks.Gates.{Gates}
use Rattle.flow_core.specs.declared.moves.Move.TheVariants.{AbsorbA, AbsorbD, ForwardA, ForwardD}
use Rattle.flow_core.specs.Acts.{Act, lifted}
use Rattle.flow_core.specs.Crossing.{Crossbar, goes_to, cross_down, cross_up}
use Rattle.flow_core.specs.Shrinking.{shrink_down, shrink_up}
use Rattle.flow_core.specs.Leaves.{LeafState}
use Rattle.flow_core.specs.Leaves.LeafState.{BufferState, XbarState, ShrinkerState, WidthState, FragmenterState}
use Rattle.flow_core.specs.Tags.{Held, tagged, tagged_down}
use Rattle.flow_core.specs.Network.{State, in_edge, out_edge, is_enabled}
use Rattle.flow_choice.specs.Valid.{IsValid}
use Rattle.flow_choice.proofs.Commuting.{map_some, cond_some, only, crossed_down_of, crossed_up_of, shrunk_down, shrunk_up}
use Rattle.flow_choice.proofs.Deeds.{Deed, looking, deed_down, deed_up}
use Rattle.flow_choice.proofs.OneWay.{IsAdapter, one_down, one_up, HasNoId, no_id, BarDown, bar_down_of, BarUp, bar_up_of}
use Rattle.flow_choice.proofs.Jobs.{seen, is_job}
use Rattle.flow_choice.proofs.Meeting.{some_job, FitsAt}
use Rattle.flow_choice.proofs.FitsAfter.{deed_of_down, deed_of_up}

-- ---- a widget's heads

pub fits_valid : (plan : Plan) (s : State) → IsValid plan s → (l : ℕ) → FitsAt s l
fits_valid plan s valid l held e b d f g z w is apart i o begins =
    (valid.widths l z w (held, e, is) (λ q. not_equal z.above z.below apart q)).apart b d f g begins
  where
    not_equal : (n m : ℕ) → (n == m) ≡ false → n ≡ m → ⊥
    not_equal n m h e = grind (arith, nat_tests)

-- ---- what a leaf without absorbs does it puts

some_kept : {B : Type 0} (t : Tag) (o : Option B) → is_some o ≡ true → is_some {T = B × Tag} (option_map (λ beat. (beat, t)) o) ≡ true
some_kept t None e = absurd cc
some_kept t (Some b) e = refl

-- the act behind a deed of a leaf that always looks
headed_down : (leaf : LeafState) (tag : Tag) (o : (ABeat × Tag) → Option (Act ABeat LeafState)) (a : Option (ABeat × Tag)) (x : Deed (ABeat × Tag)) → option_map looking (option_and_then (λ (a : ABeat × Tag). option_map (tagged_down a.1 tag) (o a)) a) ≡ Some x
    → ((b : ABeat × Tag) (act : Act ABeat LeafState) → o b ≡ Some act → is_some act.put ≡ true) → is_some x.act.put ≡ true
headed_down leaf tag o None x e h = absurd cc
headed_down leaf tag o (Some a) x e h =
    let m = map_some looking _ x e in
    let c = map_some (tagged_down a.1 tag) (o a) m.0 m.1 in
    rw (← m.2) (rw (← c.2) (some_kept _ c.0.put (h a c.0 c.1)))

headed_up : (leaf : LeafState) (tag : Tag) (o : (DBeat × Tag) → Option (Act DBeat LeafState)) (a : Option (DBeat × Tag)) (x : Deed (DBeat × Tag)) → option_map looking (option_and_then (λ (a : DBeat × Tag). option_map (tagged a.1 tag) (o a)) a) ≡ Some x
    → ((b : DBeat × Tag) (act : Act DBeat LeafState) → o b ≡ Some act → is_some act.put ≡ true) → is_some x.act.put ≡ true
headed_up leaf tag o None x e h = absurd cc
headed_up leaf tag o (Some a) x e h =
    let m = map_some looking _ x e in
    let c = map_some (tagged a.1 tag) (o a) m.0 m.1 in
    rw (← m.2) (rw (← c.2) (some_kept _ c.0.put (h a c.0 c.1)))

lifted_puts : {B S : Type 0} (mk : S → LeafState) (o : Option (Act B S)) (act : Act B LeafState) → option_map (lifted mk) o ≡ Some act → ((x : Act B S) → o ≡ Some x → is_some x.put ≡ true) → is_some act.put ≡ true
lifted_puts {B = B} mk o act e h = let m = map_some (lifted mk) o act e in ap (λ (x : Act B LeafState). is_some x.put) (sym m.2) ∙ h m.0 m.1

puts_down : (leaf : LeafState) (tag : Tag) (id i o : ℕ) (a : Option (ABeat × Tag)) (x : Deed (ABeat × Tag)) → (HasNoId leaf → ⊥) → deed_down (record { leaf = leaf; tag = tag }) id i o a ≡ Some x → is_some x.act.put ≡ true
unfolding HasNoId
puts_down BufferState tag id i o a x n e = headed_down BufferState tag _ a x e (λ b act f. ap (λ (x : Act ABeat LeafState). is_some x.put) (sym (same_Some _ _ (only id i o _ act f).3)))
puts_down (XbarState bar gates) tag id i o a x n e = headed_down (XbarState bar gates) tag _ a x e (λ b act f.
    lifted_puts (XbarState bar) (cross_down bar gates i o b.0) act (cond_some (id == 0) _ act f).1 (λ x g. (crossed_down_of bar gates i o b.0 x g).1))
puts_down (ShrinkerState width slots) tag id i o a x n e = headed_down (ShrinkerState width slots) tag _ a x e (λ b act f.
    lifted_puts (ShrinkerState width) (shrink_down width slots id b.0) act (only 0 i o _ act f).3 (λ x g. shrunk_down width id slots b.0 x g))
puts_down (WidthState z s) tag id i o a x n e = absurd (n tt)
puts_down (FragmenterState knife hand) tag id i o a x n e = absurd (n tt)

puts_up : (leaf : LeafState) (tag : Tag) (i o : ℕ) (a : Option (DBeat × Tag)) (x : Deed (DBeat × Tag)) → (HasNoId leaf → ⊥) → deed_up (record { leaf = leaf; tag = tag }) i o a ≡ Some x → is_some x.act.put ≡ true
unfolding HasNoId
puts_up BufferState tag i o a x n e = headed_up BufferState tag _ a x e (λ b act f. ap (λ (x : Act DBeat LeafState). is_some x.put) (sym (same_Some _ _ (only 0 i o _ act f).3)))
puts_up (XbarState bar gates) tag i o a x n e = headed_up (XbarState bar gates) tag _ a x e (λ b act f.
    lifted_puts (XbarState bar) (cross_up bar gates i o b.0) act f (λ x g. (crossed_up_of bar gates i o b.0 x g).1))
puts_up (ShrinkerState width slots) tag i o a x n e = headed_up (ShrinkerState width slots) tag _ a x e (λ b act f.
    lifted_puts (ShrinkerState width) (shrink_up width slots b.0) act (only 0 i o _ act f).3 (λ x g. shrunk_up width slots b.0 x g))
puts_up (WidthState z s) tag i o a x n e = absurd (n tt)
puts_up (FragmenterState knife hand) tag i o a x n e = absurd (n tt)

-- ---- an absorb and a forward on one channel aren't there together

true_false : (b : Bool) → b ≡ true → b ≡ false → ⊥
true_false true e f = cc
true_false false e f = cc

-- such a leaf acts on one way alone
abbrev OneWay : LeafState → Tag → Type 0
OneWay leaf tag = (i o : ℕ) → ((id : ℕ) (a : Option (ABeat × Tag)) (x : Deed (ABeat × Tag)) → deed_down (record { leaf = leaf; tag = tag }) id i o a ≡ Some x → (id ≡ 0) × (i ≡ 0) × (o ≡ 0)) × ((a : Option (DBeat × Tag)) (x : Deed (DBeat × Tag)) → deed_up (record { leaf = leaf; tag = tag }) i o a ≡ Some x → (i ≡ 0) × (o ≡ 0))

one_way : (leaf : LeafState) (tag : Tag) → HasNoId leaf → OneWay leaf tag
unfolding HasNoId
one_way BufferState tag n = absurd n
one_way (XbarState bar gates) tag n = absurd n
one_way (ShrinkerState width slots) tag n = absurd n
one_way (WidthState z s) tag n = λ i o. (
  (λ id a x e. let w = one_down (WidthState z s) tag id i o a x (unfold IsAdapter in tt) e in (no_id (WidthState z s) tag id i o a x tt e, w.0, w.1)),
  (λ a x e. one_up (WidthState z s) tag i o a x (unfold IsAdapter in tt) e),
)
one_way (FragmenterState z s) tag n = λ i o. (
  (λ id a x e. let w = one_down (FragmenterState z s) tag id i o a x (unfold IsAdapter in tt) e in (no_id (FragmenterState z s) tag id i o a x tt e, w.0, w.1)),
  (λ a x e. one_up (FragmenterState z s) tag i o a x (unfold IsAdapter in tt) e),
)

by_id : {P : Type 0} (leaf : LeafState) → (HasNoId leaf → P) → ((HasNoId leaf → ⊥) → P) → P
unfolding HasNoId
by_id BufferState f g = g (λ n. n)
by_id (XbarState bar gates) f g = g (λ n. n)
by_id (ShrinkerState width slots) f g = g (λ n. n)
by_id (WidthState z s) f g = f tt
by_id (FragmenterState knife hand) f g = f tt

pub not_both_down : (s : State) (l i o id : ℕ) → IsTrue (is_enabled s (AbsorbA l)) → IsTrue (is_enabled s (ForwardA l i o id)) → ⊥
not_both_down s l i o id e f =
    let j = some_job s (AbsorbA l) e in
    let k = some_job s (ForwardA l i o id) f in
    let d = deed_of_down s (AbsorbA l) l false 0 0 0 j.0 (is_job s (AbsorbA l)) j.1 in
    let u = deed_of_down s (ForwardA l i o id) l true i o id k.0 (is_job s (ForwardA l i o id)) k.1 in
    let one : u.held ≡ d.held = same_Some _ _ (sym u.held_is ∙ d.held_is) in
    let v : deed_down d.held id i o (seen s.a (in_edge s.plan l i)) ≡ Some u.x = subst (λ h. deed_down h id i o (seen s.a (in_edge s.plan l i)) ≡ Some u.x) one u.does in
    by_id d.held.leaf
    (λ n. let w = (one_way d.held.leaf d.held.tag n i o).0 id (seen s.a (in_edge s.plan l i)) u.x v in
    let same : deed_down d.held 0 0 0 (seen s.a (in_edge s.plan l 0)) ≡ Some u.x =
    subst (λ n. deed_down d.held n 0 0 (seen s.a (in_edge s.plan l 0)) ≡ Some u.x) w.0 (subst (λ n. deed_down d.held id 0 n (seen s.a (in_edge s.plan l 0)) ≡ Some u.x) w.2 (subst (λ n. deed_down d.held id n o (seen s.a (in_edge s.plan l n)) ≡ Some u.x) w.1 v)) in
    let x : d.x ≡ u.x = same_Some _ _ (sym d.does ∙ same) in
    true_false (is_some u.x.act.put) u.puts (ap (λ (x : Deed (ABeat × Tag)). is_some x.act.put) (sym x) ∙ d.puts))
    (λ n. true_false (is_some d.x.act.put) (puts_down d.held.leaf d.held.tag 0 0 0 (seen s.a (in_edge s.plan l 0)) d.x n d.does) d.puts)

pub not_both_up : (s : State) (l i o : ℕ) → IsTrue (is_enabled s (AbsorbD l)) → IsTrue (is_enabled s (ForwardD l i o)) → ⊥
not_both_up s l i o e f =
    let j = some_job s (AbsorbD l) e in
    let k = some_job s (ForwardD l i o) f in
    let d = deed_of_up s (AbsorbD l) l false 0 0 j.0 (is_job s (AbsorbD l)) j.1 in
    let u = deed_of_up s (ForwardD l i o) l true i o k.0 (is_job s (ForwardD l i o)) k.1 in
    let one : u.held ≡ d.held = same_Some _ _ (sym u.held_is ∙ d.held_is) in
    let v : deed_up d.held i o (seen s.d (out_edge s.plan l o)) ≡ Some u.x = subst (λ h. deed_up h i o (seen s.d (out_edge s.plan l o)) ≡ Some u.x) one u.does in
    by_id d.held.leaf
    (λ n. let w = (one_way d.held.leaf d.held.tag n i o).1 (seen s.d (out_edge s.plan l o)) u.x v in
    let same : deed_up d.held 0 0 (seen s.d (out_edge s.plan l 0)) ≡ Some u.x =
    subst (λ n. deed_up d.held 0 n (seen s.d (out_edge s.plan l n)) ≡ Some u.x) w.1 (subst (λ n. deed_up d.held n o (seen s.d (out_edge s.plan l o)) ≡ Some u.x) w.0 v) in
    let x : d.x ≡ u.x = same_Some _ _ (sym d.does ∙ same) in
    true_false (is_some u.x.act.put) u.puts (ap (λ (x : Deed (DBeat × Tag)). is_some x.act.put) (sym x) ∙ d.puts))
    (λ n. true_false (is_some d.x.act.put) (puts_up d.held.leaf d.held.tag 0 0 (seen s.d (out_edge s.plan l 0)) d.x n d.does) d.puts)

-- ---- from one input a beat goes to one output, and back from one output to one input

is_true : (b : Bool) → b ≡ true → IsTrue b
is_true true e = search rules
is_true false e = absurd cc

both_true : (a b : Bool) → (a && b) ≡ true → (a ≡ true) × (b ≡ true)
both_true true b h = (refl, h)
both_true false b h = absurd cc

id_in : (range : IdRange) (id : ℕ) → has_id range id ≡ true → HasId range id
id_in range id e =
    let b = both_true (nat_le range.start id) (nat_lt id range.end) e in
    let x : nat_le range.start id ≡ true = b.0 in
    let y : nat_lt id range.end ≡ true = b.1 in
    (grind (arith, nat_tests), grind (arith, nat_tests))

-- a leaf is a crossbar, or an adapter
by_bar : {P : Type 0} (leaf : LeafState) → (IsAdapter leaf → P) → ((bar : Crossbar) (gates : Gates) → leaf ≡ XbarState bar gates → P) → P
unfolding IsAdapter
by_bar BufferState f g = f tt
by_bar (XbarState bar gates) f g = g bar gates refl
by_bar (ShrinkerState width slots) f g = f tt
by_bar (WidthState z s) f g = f tt
by_bar (FragmenterState knife hand) f g = f tt

at_bar_down : (held : Held) (bar : Crossbar) (gates : Gates) (id i o : ℕ) (a : Option (ABeat × Tag)) (x : Deed (ABeat × Tag)) → held.leaf ≡ XbarState bar gates → deed_down held id i o a ≡ Some x → BarDown bar gates held.tag id i o a x
at_bar_down held bar gates id i o a x e f = bar_down_of bar gates held.tag id i o a x (subst (λ leaf. deed_down (record { leaf = leaf; tag = held.tag }) id i o a ≡ Some x) e f)

at_bar_up : (held : Held) (bar : Crossbar) (gates : Gates) (i o : ℕ) (a : Option (DBeat × Tag)) (x : Deed (DBeat × Tag)) → held.leaf ≡ XbarState bar gates → deed_up held i o a ≡ Some x → BarUp bar gates held.tag i o a x
at_bar_up held bar gates i o a x e f = bar_up_of bar gates held.tag i o a x (subst (λ leaf. deed_up (record { leaf = leaf; tag = held.tag }) i o a ≡ Some x) e f)

pub one_output : (plan : Plan) (s : State) (l i o id p id' : ℕ) → IsValid plan s → IsTrue (is_enabled s (ForwardA l i o id)) → IsTrue (is_enabled s (ForwardA l i p id')) → o ≡ p
one_output plan s l i o id p id' valid e f =
    let j = some_job s (ForwardA l i o id) e in
    let k = some_job s (ForwardA l i p id') f in
    let d = deed_of_down s (ForwardA l i o id) l true i o id j.0 (is_job s (ForwardA l i o id)) j.1 in
    let u = deed_of_down s (ForwardA l i p id') l true i p id' k.0 (is_job s (ForwardA l i p id')) k.1 in
    let one : u.held ≡ d.held = same_Some _ _ (sym u.held_is ∙ d.held_is) in
    let v : deed_down d.held id' i p (seen s.a (in_edge s.plan l i)) ≡ Some u.x = subst (λ h. deed_down h id' i p (seen s.a (in_edge s.plan l i)) ≡ Some u.x) one u.does in
    by_bar d.held.leaf
    (λ n. (one_down d.held.leaf d.held.tag id i o (seen s.a (in_edge s.plan l i)) d.x n d.does).1 ∙ sym (one_down d.held.leaf d.held.tag id' i p (seen s.a (in_edge s.plan l i)) u.x n v).1)
    (λ bar gates is.
    let x = at_bar_down d.held bar gates id i o (seen s.a (in_edge s.plan l i)) d.x is d.does in
    let y = at_bar_down d.held bar gates id' i p (seen s.a (in_edge s.plan l i)) u.x is v in
    let same : y.head ≡ x.head = same_Some _ _ (sym y.a_is ∙ x.a_is) in
    let only = (valid.xbars l bar gates (d.held, d.held_is, is)).owned i x.head x.a_is in
    let go = is_true (goes_to bar o x.head.0.address) (crossed_down_of bar gates i o x.head.0 x.act x.acts).0 in
    let gp = is_true (goes_to bar p x.head.0.address) (subst (λ (b : ABeat × Tag). goes_to bar p b.0.address ≡ true) same (crossed_down_of bar gates i p y.head.0 y.act y.acts).0) in
    only.2 o go ∙ sym (only.2 p gp))

pub one_input : (plan : Plan) (s : State) (l i j o : ℕ) → IsValid plan s → IsTrue (is_enabled s (ForwardD l i o)) → IsTrue (is_enabled s (ForwardD l j o)) → i ≡ j
one_input plan s l i j o valid e f =
    let a = some_job s (ForwardD l i o) e in
    let b = some_job s (ForwardD l j o) f in
    let d = deed_of_up s (ForwardD l i o) l true i o a.0 (is_job s (ForwardD l i o)) a.1 in
    let u = deed_of_up s (ForwardD l j o) l true j o b.0 (is_job s (ForwardD l j o)) b.1 in
    let one : u.held ≡ d.held = same_Some _ _ (sym u.held_is ∙ d.held_is) in
    let v : deed_up d.held j o (seen s.d (out_edge s.plan l o)) ≡ Some u.x = subst (λ h. deed_up h j o (seen s.d (out_edge s.plan l o)) ≡ Some u.x) one u.does in
    by_bar d.held.leaf
    (λ n. (one_up d.held.leaf d.held.tag i o (seen s.d (out_edge s.plan l o)) d.x n d.does).0 ∙ sym (one_up d.held.leaf d.held.tag j o (seen s.d (out_edge s.plan l o)) u.x n v).0)
    (λ bar gates is.
    let x = at_bar_up d.held bar gates i o (seen s.d (out_edge s.plan l o)) d.x is d.does in
    let y = at_bar_up d.held bar gates j o (seen s.d (out_edge s.plan l o)) u.x is v in
    let same : y.head ≡ x.head = same_Some _ _ (sym y.c_is ∙ x.c_is) in
    let only = (valid.xbars l bar gates (d.held, d.held_is, is)).ranged o x.head x.c_is in
    let ri = (crossed_up_of bar gates i o x.head.0 x.act x.acts).0 in
    let rj = (crossed_up_of bar gates j o y.head.0 y.act y.acts).0 in
    only.2 i (ri.0, ri.1, id_in ri.0 x.head.0.source ri.2) ∙ sym (only.2 j (rj.0, rj.1, subst (λ (b : DBeat × Tag). HasId rj.0 b.0.source) same (id_in rj.0 y.head.0.source rj.2))))
