-- What a leaf does on a channel, with its tag: by itself or by a head. Two deeds of a leaf may be done in either order.
use Rattle.std.proofs.Common.{◌≡◌, ◌≢◌, ℕ, Bool, true, false, ◌==◌, ◌&&◌, Option, Some, None, refl, sym, ap, ◌∙◌, cond}
use Rattle.std.specs.Option.{option_map, option_and_then, option_or}
use Rattle.std.proofs.lemmas.Option.{same_Some}
use Rattle.tl_edge.specs.declared.beat.ABeat.{ABeat}
use Rattle.tl_edge.specs.declared.beat.DBeat.{DBeat}
use Rattle.tl_edge.specs.declared.beat.Tag.{Tag}
use Rattle.flow_core.specs.Acts.{Act, lifted}
use Rattle.flow_core.specs.Crossing.{cross_down, cross_up}
use Rattle.flow_core.specs.Shrinking.{shrink_down, shrink_up}
use Rattle.flow_core.specs.Turning.{Widths, Widget, turn_down, turn_up}
use Rattle.flow_core.specs.Fragmenting.{Knife, Hand, Phase, fragment_down, fragment_down_alone, fragment_up, fragment_up_alone}
use Rattle.flow_core.specs.Fragmenting.Phase.{Sending, Waiting, Replying}
use Rattle.flow_core.specs.Leaves.{LeafState, only_way, down, up}
use Rattle.flow_core.specs.Leaves.LeafState.{BufferState, XbarState, ShrinkerState, WidthState, FragmenterState}
use Rattle.flow_core.specs.Tags.{Held, put_tag, tagged, tagged_down, held_down, held_down_alone, held_up, held_up_alone}
use Rattle.flow_choice.specs.Valid.{Begins}
use Rattle.flow_choice.proofs.Commuting.{map_some, only, only_from, IsPlain, ending, Meets, bar_meets, shrink_meets, width_meets}

-- ---- plain leaves

-- what the width widget asks of the two heads
abbrev pub Fits : LeafState → ℕ → ℕ → ABeat → DBeat → Type 0
Fits leaf input output b c = (z : Widths) (s : Widget) → leaf ≡ WidthState z s → (z.above == z.below) ≡ false → input ≡ 0 → output ≡ 0 → Begins s b → b.source ≢ c.source

-- both acts of a leaf, either after the other, and none of its states is a fragmenter's
record PlainMeets (f : LeafState → Option (Act ABeat LeafState)) (g : LeafState → Option (Act DBeat LeafState)) (x : Act ABeat LeafState) (y : Act DBeat LeafState) : Type 0 where
  meets : Meets f g x y
  x_plain : IsPlain x.next
  y_plain : IsPlain y.next
  end_plain : IsPlain meets.end

lift_meets : {S : Type 0} (mk : S → LeafState) (plain : (s : S) → IsPlain (mk s)) (f : S → Option (Act ABeat S)) (g : S → Option (Act DBeat S)) (x : Act ABeat S) (y : Act DBeat S)
    (F : LeafState → Option (Act ABeat LeafState)) (G : LeafState → Option (Act DBeat LeafState))
    → ((s : S) → F (mk s) ≡ option_map (lifted mk) (f s)) → ((s : S) → G (mk s) ≡ option_map (lifted mk) (g s)) → Meets f g x y → PlainMeets F G (lifted mk x) (lifted mk y)
lift_meets mk plain f g x y F G hf hg m = record {
  meets = record {
    end = mk m.end;
    first = hf y.next ∙ ap (option_map (lifted mk)) m.first;
    second = hg x.next ∙ ap (option_map (lifted mk)) m.second;
  };
  x_plain = plain x.next;
  y_plain = plain y.next;
  end_plain = plain m.end;
}

leaf_meets : (leaf : LeafState) (id i o p q : ℕ) (b : ABeat) (c : DBeat) (x : Act ABeat LeafState) (y : Act DBeat LeafState) → IsPlain leaf → Fits leaf i q b c → down leaf id i o b ≡ Some x → up leaf p q c ≡ Some y
    → PlainMeets (λ l. down l id i o b) (λ l. up l p q c) x y
unfolding IsPlain
leaf_meets BufferState id i o p q b c x y n fit e f =
    let d = only id i o _ x e in
    let u = only 0 p q _ y f in
    rw (← (same_Some _ _ d.3), ← (same_Some _ _ u.3)) (record {
      meets = record { end = BufferState; first = only_from id i o _ d.0 d.1 d.2; second = only_from 0 p q _ refl u.1 u.2 };
      x_plain = tt;
      y_plain = tt;
      end_plain = tt;
    })
leaf_meets (XbarState bar gates) id i o p q b c x y n fit e f = bar_case (id == 0) refl e
  where
    bar_case : (t : Bool) → (id == 0) ≡ t → cond t (option_map (lifted (XbarState bar)) (cross_down bar gates i o b)) None ≡ Some x → PlainMeets (λ l. down l id i o b) (λ l. up l p q c) x y
    bar_case false g e = absurd cc
    bar_case true g e =
        let d = map_some (lifted (XbarState bar)) (cross_down bar gates i o b) x e in
        let u = map_some (lifted (XbarState bar)) (cross_up bar gates p q c) y f in
        rw (← d.2, ← u.2) (lift_meets (XbarState bar) (λ s. tt) (λ s. cross_down bar s i o b) (λ s. cross_up bar s p q c) d.0 u.0 (λ l. down l id i o b) (λ l. up l p q c)
        (λ s. ap (λ t. cond t (option_map (lifted (XbarState bar)) (cross_down bar s i o b)) None) g) (λ s. refl) (bar_meets bar gates i o p q b c d.0 u.0 d.1 u.1))
leaf_meets (ShrinkerState width slots) id i o p q b c x y n fit e f =
    let a = only 0 i o _ x e in
    let w = only 0 p q _ y f in
    let d = map_some (lifted (ShrinkerState width)) (shrink_down width slots id b) x a.3 in
    let u = map_some (lifted (ShrinkerState width)) (shrink_up width slots c) y w.3 in
    rw (← d.2, ← u.2) (lift_meets (ShrinkerState width) (λ s. tt) (λ s. shrink_down width s id b) (λ s. shrink_up width s c) d.0 u.0 (λ l. down l id i o b) (λ l. up l p q c)
    (λ s. only_from 0 i o _ refl a.1 a.2) (λ s. only_from 0 p q _ refl w.1 w.2) (shrink_meets width id slots b c d.0 u.0 d.1 u.1))
leaf_meets (WidthState z s) id i o p q b c x y n fit e f =
    let a = only id i o _ x e in
    let w = only 0 p q _ y f in
    let d = map_some (lifted (WidthState z)) (turn_down z s b) x a.3 in
    let u = map_some (lifted (WidthState z)) (turn_up z s c) y w.3 in
    rw (← d.2, ← u.2) (lift_meets (WidthState z) (λ s. tt) (λ s. turn_down z s b) (λ s. turn_up z s c) d.0 u.0 (λ l. down l id i o b) (λ l. up l p q c)
    (λ s. only_from id i o _ a.0 a.1 a.2) (λ s. only_from 0 p q _ refl w.1 w.2) (width_meets z s b c d.0 u.0 (λ k. fit z s refl k a.1 w.2) d.1 u.1))
leaf_meets (FragmenterState knife hand) id i o p q b c x y n fit e f = absurd n

-- ---- deeds

-- what a leaf does, and whether it looks at a head for it
pub record Deed (B : Type 0) : Type 0 where
  pub looks : Bool
  pub act : Act B Held

abbrev pub quiet : {B : Type 0} → Act B Held → Deed B
quiet act = record { looks = false; act = act }

abbrev pub looking : {B : Type 0} → Act B Held → Deed B
looking act = record { looks = true; act = act }

abbrev pub deed : {B : Type 0} → Option (Act B Held) → (B → Option (Act B Held)) → Option B → Option (Deed B)
deed alone act head = option_or (option_map quiet alone) (option_map looking (option_and_then act head))

abbrev pub deed_down : Held → ℕ → ℕ → ℕ → Option (ABeat × Tag) → Option (Deed (ABeat × Tag))
deed_down held id input output head = deed (held_down_alone held id input output) (held_down held id input output) head

abbrev pub deed_up : Held → ℕ → ℕ → Option (DBeat × Tag) → Option (Deed (DBeat × Tag))
deed_up held input output head = deed (held_up_alone held input output) (held_up held input output) head

-- the same deed with another state afterwards
abbrev pub closing : {B : Type 0} → Deed B → Held → Deed B
closing d end = record { looks = d.looks; act = ending d.act end }

pub record DeedsMeet {A D : Type 0} (f : Held → Option (Deed A)) (g : Held → Option (Deed D)) (x : Deed A) (y : Deed D) : Type 0 where
  pub end : Held
  pub first : f y.act.next ≡ Some (closing x end)
  pub second : g x.act.next ≡ Some (closing y end)

-- ---- deeds of plain leaves

abbrev at_tag : LeafState → Tag → Held
at_tag leaf tag = record { leaf = leaf; tag = tag }

plain_down : (leaf : LeafState) (tag : Tag) (id i o : ℕ) (a : ABeat × Tag) → IsPlain leaf
    → deed_down (at_tag leaf tag) id i o (Some a) ≡ option_map looking (option_map (tagged_down a.1 tag) (down leaf id i o a.0))
unfolding IsPlain
plain_down BufferState tag id i o a n = refl
plain_down (XbarState bar gates) tag id i o a n = refl
plain_down (ShrinkerState width slots) tag id i o a n = refl
plain_down (WidthState z s) tag id i o a n = refl
plain_down (FragmenterState knife hand) tag id i o a n = absurd n

plain_up : (leaf : LeafState) (tag : Tag) (i o : ℕ) (c : DBeat × Tag) → IsPlain leaf
    → deed_up (at_tag leaf tag) i o (Some c) ≡ option_map looking (option_map (tagged c.1 tag) (up leaf i o c.0))
unfolding IsPlain
plain_up BufferState tag i o c n = refl
plain_up (XbarState bar gates) tag i o c n = refl
plain_up (ShrinkerState width slots) tag i o c n = refl
plain_up (WidthState z s) tag i o c n = refl
plain_up (FragmenterState knife hand) tag i o c n = absurd n

no_head_down : (leaf : LeafState) (tag : Tag) (id i o : ℕ) → IsPlain leaf → deed_down (at_tag leaf tag) id i o None ≡ None
unfolding IsPlain
no_head_down BufferState tag id i o n = refl
no_head_down (XbarState bar gates) tag id i o n = refl
no_head_down (ShrinkerState width slots) tag id i o n = refl
no_head_down (WidthState z s) tag id i o n = refl
no_head_down (FragmenterState knife hand) tag id i o n = absurd n

no_head_up : (leaf : LeafState) (tag : Tag) (i o : ℕ) → IsPlain leaf → deed_up (at_tag leaf tag) i o None ≡ None
unfolding IsPlain
no_head_up BufferState tag i o n = refl
no_head_up (XbarState bar gates) tag i o n = refl
no_head_up (ShrinkerState width slots) tag i o n = refl
no_head_up (WidthState z s) tag i o n = refl
no_head_up (FragmenterState knife hand) tag i o n = absurd n

-- what a plain leaf puts has the head's tag
head_tag : (leaf : LeafState) (held head : Tag) → IsPlain leaf → put_tag leaf held head ≡ head
unfolding IsPlain
head_tag BufferState held head n = refl
head_tag (XbarState bar gates) held head n = refl
head_tag (ShrinkerState width slots) held head n = refl
head_tag (WidthState z s) held head n = refl
head_tag (FragmenterState knife hand) held head n = absurd n

tag_kept : (head tag : Tag) (act : Act ABeat LeafState) (end : LeafState) → IsPlain act.next → IsPlain end
    → tagged_down head tag (ending act end) ≡ ending (tagged_down head tag act) (at_tag end tag)
tag_kept head tag act end n m = rw (head_tag act.next tag head n, head_tag end tag head m) refl

plain_meets : (leaf : LeafState) (tag : Tag) (id i o p q : ℕ) (a : ABeat × Tag) (c : DBeat × Tag) (x : Deed (ABeat × Tag)) (y : Deed (DBeat × Tag)) → IsPlain leaf → Fits leaf i q a.0 c.0
    → deed_down (at_tag leaf tag) id i o (Some a) ≡ Some x → deed_up (at_tag leaf tag) p q (Some c) ≡ Some y
    → DeedsMeet (λ h. deed_down h id i o (Some a)) (λ h. deed_up h p q (Some c)) x y
plain_meets leaf tag id i o p q a c x y n fit e f =
    let e1 = map_some looking _ x (sym (plain_down leaf tag id i o a n) ∙ e) in
    let e2 = map_some (tagged_down a.1 tag) (down leaf id i o a.0) e1.0 e1.1 in
    let f1 = map_some looking _ y (sym (plain_up leaf tag p q c n) ∙ f) in
    let f2 = map_some (tagged c.1 tag) (up leaf p q c.0) f1.0 f1.1 in
    let m = leaf_meets leaf id i o p q a.0 c.0 e2.0 f2.0 n fit e2.1 f2.1 in
    rw (← e1.2, ← f1.2) (rw (← e2.2, ← f2.2) (record {
      end = at_tag m.meets.end tag;
      first = plain_down f2.0.next tag id i o a m.y_plain ∙ ap (λ r. option_map looking (option_map (tagged_down a.1 tag) r)) m.meets.first
          ∙ ap (λ r. Some (looking r)) (tag_kept a.1 tag e2.0 m.meets.end m.x_plain m.end_plain);
      second = plain_up e2.0.next tag p q c m.x_plain ∙ ap (λ r. option_map looking (option_map (tagged c.1 tag) r)) m.meets.second;
    }))

-- ---- a fragmenter never acts on both channels

abbrev NeverBoth : Option (Deed (ABeat × Tag)) → Option (Deed (DBeat × Tag)) → Type 0
NeverBoth e f = (x : Deed (ABeat × Tag)) (y : Deed (DBeat × Tag)) → e ≡ Some x → f ≡ Some y → ⊥

none_by : {A : Type 0} (id i o : ℕ) → only_way {A = A} id i o None ≡ None
none_by {A = A} id i o = at (id == 0 && i == 0 && o == 0) None
  where
    at : (t : Bool) (n : Option A) → cond t n n ≡ n
    at true n = refl
    at false n = refl

-- without a head or with one it doesn't act
quiet_down : (knife : Knife) (hand : Option Hand) (tag : Tag) (id i o : ℕ) (a : Option (ABeat × Tag)) → fragment_down_alone knife hand ≡ None → ((b : ABeat) → fragment_down knife hand b ≡ None)
    → deed_down (at_tag (FragmenterState knife hand) tag) id i o a ≡ None
quiet_down knife hand tag id i o None g h = rw (g, none_by {A = Act ABeat LeafState} id i o) refl
quiet_down knife hand tag id i o (Some a) g h = rw (g, h a.0, none_by {A = Act ABeat LeafState} id i o) refl

quiet_up : (knife : Knife) (hand : Option Hand) (tag : Tag) (i o : ℕ) (c : Option (DBeat × Tag)) → fragment_up_alone knife hand ≡ None → ((b : DBeat) → fragment_up knife hand b ≡ None)
    → deed_up (at_tag (FragmenterState knife hand) tag) i o c ≡ None
quiet_up knife hand tag i o None g h = rw (g, none_by {A = Act DBeat LeafState} 0 i o) refl
quiet_up knife hand tag i o (Some c) g h = rw (g, h c.0, none_by {A = Act DBeat LeafState} 0 i o) refl

never_both : (knife : Knife) (hand : Option Hand) (tag : Tag) (id i o p q : ℕ) (a : Option (ABeat × Tag)) (c : Option (DBeat × Tag))
    → NeverBoth (deed_down (at_tag (FragmenterState knife hand) tag) id i o a) (deed_up (at_tag (FragmenterState knife hand) tag) p q c)
never_both knife None tag id i o p q a c x y e f = let n = quiet_up knife None tag p q c refl (λ b. refl) in absurd (cc (n, f))
never_both knife (Some hand) tag id i o p q a c x y e f = at hand.phase refl
  where
    at : (phase : Phase) → hand.phase ≡ phase → ⊥
    at Sending g = let n = quiet_up knife (Some hand) tag p q c (rw g refl) (λ b. rw g refl) in cc (n, f)
    at Waiting g = let n = quiet_down knife (Some hand) tag id i o a (rw g refl) (λ b. rw g refl) in cc (n, e)
    at Replying g = let n = quiet_down knife (Some hand) tag id i o a (rw g refl) (λ b. rw g refl) in cc (n, e)

-- ---- one deed on each channel

-- what the width widget asks, of the heads that are there
abbrev pub FitsHeads : LeafState → ℕ → ℕ → Option (ABeat × Tag) → Option (DBeat × Tag) → Type 0
FitsHeads leaf input output a c = (b : ABeat × Tag) (d : DBeat × Tag) → a ≡ Some b → c ≡ Some d → Fits leaf input output b.0 d.0

plain_case : (leaf : LeafState) (tag : Tag) (id i o p q : ℕ) (a : Option (ABeat × Tag)) (c : Option (DBeat × Tag)) (x : Deed (ABeat × Tag)) (y : Deed (DBeat × Tag)) → IsPlain leaf → FitsHeads leaf i q a c
    → deed_down (at_tag leaf tag) id i o a ≡ Some x → deed_up (at_tag leaf tag) p q c ≡ Some y → DeedsMeet (λ h. deed_down h id i o a) (λ h. deed_up h p q c) x y
plain_case leaf tag id i o p q None c x y n fit e f = let g = no_head_down leaf tag id i o n in absurd (cc (g, e))
plain_case leaf tag id i o p q (Some a) None x y n fit e f = let g = no_head_up leaf tag p q n in absurd (cc (g, f))
plain_case leaf tag id i o p q (Some a) (Some c) x y n fit e f = plain_meets leaf tag id i o p q a c x y n (fit a c refl refl) e f

both_at : (leaf : LeafState) (tag : Tag) (id i o p q : ℕ) (a : Option (ABeat × Tag)) (c : Option (DBeat × Tag)) (x : Deed (ABeat × Tag)) (y : Deed (DBeat × Tag)) → FitsHeads leaf i q a c
    → deed_down (at_tag leaf tag) id i o a ≡ Some x → deed_up (at_tag leaf tag) p q c ≡ Some y → DeedsMeet (λ h. deed_down h id i o a) (λ h. deed_up h p q c) x y
both_at BufferState tag id i o p q a c x y fit e f = plain_case BufferState tag id i o p q a c x y (unfold IsPlain in tt) fit e f
both_at (XbarState bar gates) tag id i o p q a c x y fit e f = plain_case (XbarState bar gates) tag id i o p q a c x y (unfold IsPlain in tt) fit e f
both_at (ShrinkerState width slots) tag id i o p q a c x y fit e f = plain_case (ShrinkerState width slots) tag id i o p q a c x y (unfold IsPlain in tt) fit e f
both_at (WidthState z s) tag id i o p q a c x y fit e f = plain_case (WidthState z s) tag id i o p q a c x y (unfold IsPlain in tt) fit e f
both_at (FragmenterState knife hand) tag id i o p q a c x y fit e f = absurd (never_both knife hand tag id i o p q a c x y e f)

pub down_up_meet : (held : Held) (id i o p q : ℕ) (a : Option (ABeat × Tag)) (c : Option (DBeat × Tag)) (x : Deed (ABeat × Tag)) (y : Deed (DBeat × Tag)) → FitsHeads held.leaf i q a c
    → deed_down held id i o a ≡ Some x → deed_up held p q c ≡ Some y → DeedsMeet (λ h. deed_down h id i o a) (λ h. deed_up h p q c) x y
down_up_meet held id i o p q a c x y fit e f = both_at held.leaf held.tag id i o p q a c x y fit e f
