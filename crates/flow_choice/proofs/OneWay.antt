-- Two deeds of a leaf on one channel: an adapter has one way alone, and a crossbar's go from different inputs to
-- different outputs.
use Rattle.std.proofs.Common.{◌≡◌, ◌≢◌, ℕ, Bool, true, false, ◌==◌, ◌&&◌, Option, Some, None, refl, sym, ap, ◌∙◌, cond}
use Rattle.std.specs.Option.{option_map, option_and_then, option_or}
use Rattle.tl_edge.specs.declared.beat.ABeat.{ABeat}
use Rattle.tl_edge.specs.declared.beat.DBeat.{DBeat}
use Rattle.tl_edge.specs.declared.beat.Tag.{Tag}
use Rattle.flow_core.specs.declared.locks.Gates.{Gates}
use Rattle.flow_core.specs.Acts.{Act, lifted}
use Rattle.flow_core.specs.Crossing.{Crossbar, cross_down, cross_up}
use Rattle.flow_core.specs.Turning.{Widths, Widget}
use Rattle.flow_core.specs.Leaves.{LeafState}
use Rattle.flow_core.specs.Leaves.LeafState.{BufferState, XbarState, ShrinkerState, WidthState, FragmenterState}
use Rattle.flow_core.specs.Tags.{Held, tagged, tagged_down}
use Rattle.flow_choice.proofs.Commuting.{map_some, cond_some, way_true, ending, Meets, bar_downs, bar_ups}
use Rattle.flow_choice.proofs.Deeds.{Deed, quiet, looking, deed_down, deed_up, DeedsMeet}

-- it isn't a crossbar
unfoldable pub IsAdapter : LeafState → Type 0
IsAdapter (XbarState bar gates) = ⊥
IsAdapter _ = Unit {0}

ways : (id i o : ℕ) → (id == 0 && i == 0 && o == 0) ≡ true → (i ≡ 0) × (o ≡ 0)
ways id i o h = let w = way_true id i o h in (w.1, w.2)

-- whatever is done on the one way
module _ {B L : Type 0} (t : Bool) (f : L → Act B Held) (u : Option L) (head : Option B) where
  passes : (g : B → L → Act B Held) (v : B → Option L) (x : Deed B) → option_or (option_map quiet (option_map f (cond t u None))) (option_map looking (option_and_then (λ b. option_map (g b) (cond t (v b) None)) head)) ≡ Some x → t ≡ true
  passes g v x e = at t head e
    where
      at : (t : Bool) (head : Option B) → option_or (option_map quiet (option_map f (cond t u None))) (option_map looking (option_and_then (λ b. option_map (g b) (cond t (v b) None)) head)) ≡ Some x → t ≡ true
      at true head e = refl
      at false None e = absurd cc
      at false (Some b) e = absurd cc

headed : {B L : Type 0} (t : Bool) (head : Option B) (g : B → L → Act B Held) (v : B → Option L) (x : Deed B) → option_map looking (option_and_then (λ b. option_map (g b) (cond t (v b) None)) head) ≡ Some x → t ≡ true
headed true head g v x e = refl
headed false None g v x e = absurd cc
headed false (Some b) g v x e = absurd cc

pub one_down : (leaf : LeafState) (tag : Tag) (id i o : ℕ) (a : Option (ABeat × Tag)) (x : Deed (ABeat × Tag)) → IsAdapter leaf → deed_down (record { leaf = leaf; tag = tag }) id i o a ≡ Some x → (i ≡ 0) × (o ≡ 0)
unfolding IsAdapter
one_down BufferState tag id i o a x n e = ways id i o (headed (id == 0 && i == 0 && o == 0) a _ _ x e)
one_down (XbarState bar gates) tag id i o a x n e = absurd n
one_down (ShrinkerState width slots) tag id i o a x n e = ways 0 i o (headed (0 == 0 && i == 0 && o == 0) a _ _ x e)
one_down (WidthState z s) tag id i o a x n e = ways id i o (headed (id == 0 && i == 0 && o == 0) a _ _ x e)
one_down (FragmenterState knife hand) tag id i o a x n e = ways id i o (passes (id == 0 && i == 0 && o == 0) _ _ a _ _ x e)

pub one_up : (leaf : LeafState) (tag : Tag) (i o : ℕ) (c : Option (DBeat × Tag)) (x : Deed (DBeat × Tag)) → IsAdapter leaf → deed_up (record { leaf = leaf; tag = tag }) i o c ≡ Some x → (i ≡ 0) × (o ≡ 0)
unfolding IsAdapter
one_up BufferState tag i o c x n e = ways 0 i o (headed (0 == 0 && i == 0 && o == 0) c _ _ x e)
one_up (XbarState bar gates) tag i o c x n e = absurd n
one_up (ShrinkerState width slots) tag i o c x n e = ways 0 i o (headed (0 == 0 && i == 0 && o == 0) c _ _ x e)
one_up (WidthState z s) tag i o c x n e = ways 0 i o (headed (0 == 0 && i == 0 && o == 0) c _ _ x e)
one_up (FragmenterState knife hand) tag i o c x n e = ways 0 i o (passes (0 == 0 && i == 0 && o == 0) _ _ c _ _ x e)

-- an adapter that may take a beat without putting one has no choice of an id
unfoldable pub HasNoId : LeafState → Type 0
HasNoId (WidthState z s) = Unit {0}
HasNoId (FragmenterState knife hand) = Unit {0}
HasNoId _ = ⊥

pub no_id : (leaf : LeafState) (tag : Tag) (id i o : ℕ) (a : Option (ABeat × Tag)) (x : Deed (ABeat × Tag)) → HasNoId leaf → deed_down (record { leaf = leaf; tag = tag }) id i o a ≡ Some x → id ≡ 0
unfolding HasNoId
no_id BufferState tag id i o a x n e = absurd n
no_id (XbarState bar gates) tag id i o a x n e = absurd n
no_id (ShrinkerState width slots) tag id i o a x n e = absurd n
no_id (WidthState z s) tag id i o a x n e = (way_true id i o (headed (id == 0 && i == 0 && o == 0) a _ _ x e)).0
no_id (FragmenterState knife hand) tag id i o a x n e = (way_true id i o (passes (id == 0 && i == 0 && o == 0) _ _ a _ _ x e)).0

-- ---- a crossbar's deeds

pub record BarDown (bar : Crossbar) (gates : Gates) (tag : Tag) (id i o : ℕ) (a : Option (ABeat × Tag)) (x : Deed (ABeat × Tag)) : Type 0 where
  pub head : ABeat × Tag
  pub act : Act ABeat Gates
  pub a_is : a ≡ Some head
  pub no_id : (id == 0) ≡ true
  pub acts : cross_down bar gates i o head.0 ≡ Some act
  pub is : looking (tagged_down head.1 tag (lifted (XbarState bar) act)) ≡ x

pub bar_down_of : (bar : Crossbar) (gates : Gates) (tag : Tag) (id i o : ℕ) (a : Option (ABeat × Tag)) (x : Deed (ABeat × Tag)) → deed_down (record { leaf = XbarState bar gates; tag = tag }) id i o a ≡ Some x → BarDown bar gates tag id i o a x
bar_down_of bar gates tag id i o None x e = absurd cc
bar_down_of bar gates tag id i o (Some a) x e =
    let e1 = map_some looking _ x e in
    let e2 = map_some (tagged_down a.1 tag) (cond (id == 0) (option_map (lifted (XbarState bar)) (cross_down bar gates i o a.0)) None) e1.0 e1.1 in
    let e3 = cond_some (id == 0) _ e2.0 e2.1 in
    let e4 = map_some (lifted (XbarState bar)) (cross_down bar gates i o a.0) e2.0 e3.1 in
    record { head = a; act = e4.0; a_is = refl; no_id = e3.0; acts = e4.1; is = ap (λ act. looking (tagged_down a.1 tag act)) e4.2 ∙ ap looking e2.2 ∙ e1.2 }

bar_down_from : (bar : Crossbar) (gates : Gates) (tag : Tag) (id i o : ℕ) (a : ABeat × Tag) (act : Act ABeat Gates) → (id == 0) ≡ true → cross_down bar gates i o a.0 ≡ Some act
    → deed_down (record { leaf = XbarState bar gates; tag = tag }) id i o (Some a) ≡ Some (looking (tagged_down a.1 tag (lifted (XbarState bar) act)))
bar_down_from bar gates tag id i o a act n e =
    ap (λ t. option_map looking (option_map (tagged_down a.1 tag) (cond t (option_map (lifted (XbarState bar)) (cross_down bar gates i o a.0)) None))) n
    ∙ ap (λ r. option_map looking (option_map (tagged_down a.1 tag) (option_map (lifted (XbarState bar)) r))) e

pub record BarUp (bar : Crossbar) (gates : Gates) (tag : Tag) (i o : ℕ) (c : Option (DBeat × Tag)) (x : Deed (DBeat × Tag)) : Type 0 where
  pub head : DBeat × Tag
  pub act : Act DBeat Gates
  pub c_is : c ≡ Some head
  pub acts : cross_up bar gates i o head.0 ≡ Some act
  pub is : looking (tagged head.1 tag (lifted (XbarState bar) act)) ≡ x

pub bar_up_of : (bar : Crossbar) (gates : Gates) (tag : Tag) (i o : ℕ) (c : Option (DBeat × Tag)) (x : Deed (DBeat × Tag)) → deed_up (record { leaf = XbarState bar gates; tag = tag }) i o c ≡ Some x → BarUp bar gates tag i o c x
bar_up_of bar gates tag i o None x e = absurd cc
bar_up_of bar gates tag i o (Some c) x e =
    let e1 = map_some looking _ x e in
    let e2 = map_some (tagged c.1 tag) (option_map (lifted (XbarState bar)) (cross_up bar gates i o c.0)) e1.0 e1.1 in
    let e3 = map_some (lifted (XbarState bar)) (cross_up bar gates i o c.0) e2.0 e2.1 in
    record { head = c; act = e3.0; c_is = refl; acts = e3.1; is = ap (λ act. looking (tagged c.1 tag act)) e3.2 ∙ ap looking e2.2 ∙ e1.2 }

bar_up_from : (bar : Crossbar) (gates : Gates) (tag : Tag) (i o : ℕ) (c : DBeat × Tag) (act : Act DBeat Gates) → cross_up bar gates i o c.0 ≡ Some act
    → deed_up (record { leaf = XbarState bar gates; tag = tag }) i o (Some c) ≡ Some (looking (tagged c.1 tag (lifted (XbarState bar) act)))
bar_up_from bar gates tag i o c act e =
    ap (λ r. option_map looking (option_map (tagged c.1 tag) (option_map (lifted (XbarState bar)) r))) e

meet_downs : (bar : Crossbar) (gates : Gates) (tag : Tag) (id i o id' j p : ℕ) (a b : ABeat × Tag) (x y : Act ABeat Gates) → (id == 0) ≡ true → (id' == 0) ≡ true
    → Meets (λ g. cross_down bar g i o a.0) (λ g. cross_down bar g j p b.0) x y
    → DeedsMeet (λ h. deed_down h id i o (Some a)) (λ h. deed_down h id' j p (Some b)) (looking (tagged_down a.1 tag (lifted (XbarState bar) x))) (looking (tagged_down b.1 tag (lifted (XbarState bar) y)))
meet_downs bar gates tag id i o id' j p a b x y n n' m = record {
  end = record { leaf = XbarState bar m.end; tag = tag };
  first = bar_down_from bar y.next tag id i o a (ending x m.end) n m.first;
  second = bar_down_from bar x.next tag id' j p b (ending y m.end) n' m.second;
}

meet_ups : (bar : Crossbar) (gates : Gates) (tag : Tag) (i o j p : ℕ) (a b : DBeat × Tag) (x y : Act DBeat Gates)
    → Meets (λ g. cross_up bar g i o a.0) (λ g. cross_up bar g j p b.0) x y
    → DeedsMeet (λ h. deed_up h i o (Some a)) (λ h. deed_up h j p (Some b)) (looking (tagged a.1 tag (lifted (XbarState bar) x))) (looking (tagged b.1 tag (lifted (XbarState bar) y)))
meet_ups bar gates tag i o j p a b x y m = record {
  end = record { leaf = XbarState bar m.end; tag = tag };
  first = bar_up_from bar y.next tag i o a (ending x m.end) m.first;
  second = bar_up_from bar x.next tag j p b (ending y m.end) m.second;
}

-- the same of the heads and deeds that they are
moved_to : {A D : Type 0} (f : Option A → Held → Option (Deed A)) (g : Option D → Held → Option (Deed D)) (a : Option A) (b : Option D) (c : A) (d : D) (x x' : Deed A) (y y' : Deed D) → a ≡ Some c → b ≡ Some d → x' ≡ x → y' ≡ y
    → DeedsMeet (f (Some c)) (g (Some d)) x' y' → DeedsMeet (f a) (g b) x y
moved_to f g a b c d x x' y y' e h k l m = rw (e, h, ← k, ← l) m

two_bar_downs : (bar : Crossbar) (gates : Gates) (tag : Tag) (id i o id' j p : ℕ) (a b : Option (ABeat × Tag)) (x y : Deed (ABeat × Tag)) → o ≢ p
    → deed_down (record { leaf = XbarState bar gates; tag = tag }) id i o a ≡ Some x → deed_down (record { leaf = XbarState bar gates; tag = tag }) id' j p b ≡ Some y
    → DeedsMeet (λ h. deed_down h id i o a) (λ h. deed_down h id' j p b) x y
two_bar_downs bar gates tag id i o id' j p a b x y h e f =
    let d = bar_down_of bar gates tag id i o a x e in
    let u = bar_down_of bar gates tag id' j p b y f in
    let m = bar_downs bar gates i o j p d.head.0 u.head.0 d.act u.act h d.acts u.acts in
    moved_to (λ a h. deed_down h id i o a) (λ b h. deed_down h id' j p b) a b d.head u.head x _ y _ d.a_is u.a_is d.is u.is (meet_downs bar gates tag id i o id' j p d.head u.head d.act u.act d.no_id u.no_id m)

two_bar_ups : (bar : Crossbar) (gates : Gates) (tag : Tag) (i o j p : ℕ) (a b : Option (DBeat × Tag)) (x y : Deed (DBeat × Tag)) → i ≢ j
    → deed_up (record { leaf = XbarState bar gates; tag = tag }) i o a ≡ Some x → deed_up (record { leaf = XbarState bar gates; tag = tag }) j p b ≡ Some y
    → DeedsMeet (λ h. deed_up h i o a) (λ h. deed_up h j p b) x y
two_bar_ups bar gates tag i o j p a b x y h e f =
    let d = bar_up_of bar gates tag i o a x e in
    let u = bar_up_of bar gates tag j p b y f in
    let m = bar_ups bar gates i o j p d.head.0 u.head.0 d.act u.act h d.acts u.acts in
    moved_to (λ a h. deed_up h i o a) (λ b h. deed_up h j p b) a b d.head u.head x _ y _ d.c_is u.c_is d.is u.is (meet_ups bar gates tag i o j p d.head u.head d.act u.act m)

-- ---- any leaf

same_zero : (i j : ℕ) → i ≢ j → i ≡ 0 → j ≡ 0 → ⊥
same_zero i j n e f = n (e ∙ sym f)

downs_at : (leaf : LeafState) (tag : Tag) (id i o id' j p : ℕ) (a b : Option (ABeat × Tag)) (x y : Deed (ABeat × Tag)) → i ≢ j → o ≢ p
    → deed_down (record { leaf = leaf; tag = tag }) id i o a ≡ Some x → deed_down (record { leaf = leaf; tag = tag }) id' j p b ≡ Some y
    → DeedsMeet (λ h. deed_down h id i o a) (λ h. deed_down h id' j p b) x y
unfolding IsAdapter
downs_at BufferState tag id i o id' j p a b x y n m e f = absurd (same_zero i j n (one_down BufferState tag id i o a x tt e).0 (one_down BufferState tag id' j p b y tt f).0)
downs_at (XbarState bar gates) tag id i o id' j p a b x y n m e f = two_bar_downs bar gates tag id i o id' j p a b x y m e f
downs_at (ShrinkerState w s) tag id i o id' j p a b x y n m e f = absurd (same_zero i j n (one_down (ShrinkerState w s) tag id i o a x tt e).0 (one_down (ShrinkerState w s) tag id' j p b y tt f).0)
downs_at (WidthState w s) tag id i o id' j p a b x y n m e f = absurd (same_zero i j n (one_down (WidthState w s) tag id i o a x tt e).0 (one_down (WidthState w s) tag id' j p b y tt f).0)
downs_at (FragmenterState w s) tag id i o id' j p a b x y n m e f = absurd (same_zero i j n (one_down (FragmenterState w s) tag id i o a x tt e).0 (one_down (FragmenterState w s) tag id' j p b y tt f).0)

pub downs_meet : (held : Held) (id i o id' j p : ℕ) (a b : Option (ABeat × Tag)) (x y : Deed (ABeat × Tag)) → i ≢ j → o ≢ p → deed_down held id i o a ≡ Some x → deed_down held id' j p b ≡ Some y
    → DeedsMeet (λ h. deed_down h id i o a) (λ h. deed_down h id' j p b) x y
downs_meet held id i o id' j p a b x y n m e f = downs_at held.leaf held.tag id i o id' j p a b x y n m e f

ups_at : (leaf : LeafState) (tag : Tag) (i o j p : ℕ) (a b : Option (DBeat × Tag)) (x y : Deed (DBeat × Tag)) → i ≢ j → o ≢ p
    → deed_up (record { leaf = leaf; tag = tag }) i o a ≡ Some x → deed_up (record { leaf = leaf; tag = tag }) j p b ≡ Some y
    → DeedsMeet (λ h. deed_up h i o a) (λ h. deed_up h j p b) x y
unfolding IsAdapter
ups_at BufferState tag i o j p a b x y n m e f = absurd (same_zero i j n (one_up BufferState tag i o a x tt e).0 (one_up BufferState tag j p b y tt f).0)
ups_at (XbarState bar gates) tag i o j p a b x y n m e f = two_bar_ups bar gates tag i o j p a b x y n e f
ups_at (ShrinkerState w s) tag i o j p a b x y n m e f = absurd (same_zero i j n (one_up (ShrinkerState w s) tag i o a x tt e).0 (one_up (ShrinkerState w s) tag j p b y tt f).0)
ups_at (WidthState w s) tag i o j p a b x y n m e f = absurd (same_zero i j n (one_up (WidthState w s) tag i o a x tt e).0 (one_up (WidthState w s) tag j p b y tt f).0)
ups_at (FragmenterState w s) tag i o j p a b x y n m e f = absurd (same_zero i j n (one_up (FragmenterState w s) tag i o a x tt e).0 (one_up (FragmenterState w s) tag j p b y tt f).0)

pub ups_meet : (held : Held) (i o j p : ℕ) (a b : Option (DBeat × Tag)) (x y : Deed (DBeat × Tag)) → i ≢ j → o ≢ p → deed_up held i o a ≡ Some x → deed_up held j p b ≡ Some y
    → DeedsMeet (λ h. deed_up h i o a) (λ h. deed_up h j p b) x y
ups_meet held i o j p a b x y n m e f = ups_at held.leaf held.tag i o j p a b x y n m e f

-- ---- a leaf that is a width widget after a deed was an adapter before

adapter_down : (leaf : LeafState) (tag : Tag) (id i o : ℕ) (a : Option (ABeat × Tag)) (x : Deed (ABeat × Tag)) (z : Widths) (s : Widget) → deed_down (record { leaf = leaf; tag = tag }) id i o a ≡ Some x → x.act.next.leaf ≡ WidthState z s → IsAdapter leaf
unfolding IsAdapter
adapter_down BufferState tag id i o a x z s e f = tt
adapter_down (XbarState bar gates) tag id i o a x z s e f =
    let d = bar_down_of bar gates tag id i o a x e in
    let g : XbarState bar d.act.next ≡ x.act.next.leaf = ap (λ (y : Deed (ABeat × Tag)). y.act.next.leaf) d.is in
    absurd (cc (g, f))
adapter_down (ShrinkerState w g) tag id i o a x z s e f = tt
adapter_down (WidthState w g) tag id i o a x z s e f = tt
adapter_down (FragmenterState w g) tag id i o a x z s e f = tt

adapter_up : (leaf : LeafState) (tag : Tag) (i o : ℕ) (c : Option (DBeat × Tag)) (x : Deed (DBeat × Tag)) (z : Widths) (s : Widget) → deed_up (record { leaf = leaf; tag = tag }) i o c ≡ Some x → x.act.next.leaf ≡ WidthState z s → IsAdapter leaf
unfolding IsAdapter
adapter_up BufferState tag i o c x z s e f = tt
adapter_up (XbarState bar gates) tag i o c x z s e f =
    let d = bar_up_of bar gates tag i o c x e in
    let g : XbarState bar d.act.next ≡ x.act.next.leaf = ap (λ (y : Deed (DBeat × Tag)). y.act.next.leaf) d.is in
    absurd (cc (g, f))
adapter_up (ShrinkerState w g) tag i o c x z s e f = tt
adapter_up (WidthState w g) tag i o c x z s e f = tt
adapter_up (FragmenterState w g) tag i o c x z s e f = tt

-- so no two deeds of one channel are from different inputs there
pub none_other_down : (held : Held) (id i o id' j p : ℕ) (a b : Option (ABeat × Tag)) (x y : Deed (ABeat × Tag)) (z : Widths) (s : Widget) → i ≢ j
    → deed_down held id i o a ≡ Some x → deed_down held id' j p b ≡ Some y → x.act.next.leaf ≡ WidthState z s → ⊥
none_other_down held id i o id' j p a b x y z s n e f g =
    let k = adapter_down held.leaf held.tag id i o a x z s e g in
    same_zero i j n (one_down held.leaf held.tag id i o a x k e).0 (one_down held.leaf held.tag id' j p b y k f).0

pub none_other_up : (held : Held) (i o j p : ℕ) (a b : Option (DBeat × Tag)) (x y : Deed (DBeat × Tag)) (z : Widths) (s : Widget) → i ≢ j
    → deed_up held i o a ≡ Some x → deed_up held j p b ≡ Some y → x.act.next.leaf ≡ WidthState z s → ⊥
none_other_up held i o j p a b x y z s n e f g =
    let k = adapter_up held.leaf held.tag i o a x z s e g in
    same_zero i j n (one_up held.leaf held.tag i o a x k e).0 (one_up held.leaf held.tag j p b y k f).0
