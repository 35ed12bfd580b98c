-- The acts of a width adapter in a cycle.
use Rattle.std.proofs.Common.{ℕ, ◌≢◌, cond, is_some, arith, ◌≡◌, Bool, true, false, Option, Some, None, refl, ap, ◌∙◌}
use Rattle.std.specs.Prelude.{◌==◌}
use Rattle.std.specs.Option.{option_and_then, option_map}
use Rattle.std.proofs.lemmas.Bool.Decides.{nat_tests}
use Rattle.tl_edge.specs.declared.beat.ABeat.{ABeat}
use Rattle.tl_edge.specs.declared.beat.DBeat.{DBeat}
use Rattle.flow_core.specs.Acts.{Act, lifted}
use Rattle.flow_core.specs.Leaves.{LeafState}
use Rattle.flow_core.specs.Leaves.LeafState.{WidthState}
use Rattle.flow_core.specs.Turning.{Widths, Widget}
use Rattle.net_buffer.specs.Buffers.{acts, edges_show}
use Rattle.net_queue.specs.Adapters.{act_a, act_d, put_by, state_by, taken_by, with_room}
use Rattle.net_queue.specs.Leaves.{LeafDone}
use Rattle.flow_choice.proofs.Commuting.{ending, width_meets}
use Rattle.net_widget.specs.Widgets.{BothLaw, WidgetLaw}

abbrev made : {B : Type 0} → Widths → Bool → Option (Act B Widget) → Option (Act B LeafState)
made widths room act = option_and_then (with_room room) (option_map (lifted (WidthState widths)) act)

abbrev down_done : Widths → Bool → Option (Act ABeat Widget) → LeafDone
down_done widths room act = acts (taken_by (made widths room act)) (put_by (made widths room act)) false None

abbrev up_done : Widths → Bool → Option (Act DBeat Widget) → LeafDone
up_done widths room act = acts false None (taken_by (made widths room act)) (put_by (made widths room act))

down_full : (widths : Widths) (act : Act ABeat Widget) (put : Option ABeat) → act.put ≡ put → down_done widths true (Some act) ≡ acts act.take act.put false None
down_full widths act None e = rw e refl
down_full widths act (Some y) e = rw e refl

up_full : (widths : Widths) (act : Act DBeat Widget) (put : Option DBeat) → act.put ≡ put → up_done widths true (Some act) ≡ acts false None act.take act.put
up_full widths act None e = rw e refl
up_full widths act (Some y) e = rw e refl

down_none : (widths : Widths) (act : Act ABeat Widget) → act.put ≡ None → down_done widths false (Some act) ≡ acts act.take None false None
down_none widths act e = rw e refl

down_waits : (widths : Widths) (act : Act ABeat Widget) (y : ABeat) → act.put ≡ Some y → down_done widths false (Some act) ≡ acts false None false None
down_waits widths act y e = rw e refl

pub as_acts : WidgetLaw
as_acts = record {
  down = λ above below widths widget x act e. ap (down_done widths true) e ∙ down_full widths act act.put refl;
  absorbs = λ above below widths widget x act e n. ap (down_done widths false) e ∙ down_none widths act n;
  waits = λ above below widths widget x y act e n. ap (down_done widths false) e ∙ down_waits widths act y n;
  up = λ above below widths widget x act e. ap (up_done widths true) e ∙ up_full widths act act.put refl;
  empty = λ above below widths widget room other. refl;
}

-- ---- both channels

next_full : {B : Type 0} (widths : Widths) (leaf : LeafState) (act : Act B Widget) (put : Option B) → act.put ≡ put → state_by leaf (made widths true (Some act)) ≡ WidthState widths act.next
next_full widths leaf act None e = rw e refl
next_full widths leaf act (Some y) e = rw e refl

some_full : {B : Type 0} (widths : Widths) (act : Act B Widget) (put : Option B) → act.put ≡ put → is_some (made widths true (Some act)) ≡ true
some_full widths act None e = rw e refl
some_full widths act (Some y) e = rw e refl

take_full : {B : Type 0} (widths : Widths) (act : Act B Widget) (put : Option B) → act.put ≡ put → taken_by (made widths true (Some act)) ≡ act.take
take_full widths act None e = rw e refl
take_full widths act (Some y) e = rw e refl

put_full : {B : Type 0} (widths : Widths) (act : Act B Widget) (put : Option B) → act.put ≡ put → put_by (made widths true (Some act)) ≡ act.put
put_full widths act None e = rw e refl
put_full widths act (Some y) e = rw e refl

not_same : (a b : ℕ) → (a == b) ≡ false → a ≢ b
not_same a b h e = grind (arith, nat_tests)

pub as_both : BothLaw
as_both above below widths widget x y down up fits e f =
    let view = edges_show (Some x) true (Some y) true in
    let leaf = WidthState widths widget in
    let m = width_meets widths widget x y down up (λ h. (fits (not_same widths.above widths.below h)).apart x y refl refl) e f in
    let second = ending up m.end in
    let n : state_by leaf (act_a leaf 0 view) ≡ WidthState widths down.next = ap (λ (a : Option (Act ABeat Widget)). state_by leaf (made widths true a)) e ∙ next_full widths leaf down down.put refl in
    let s : is_some (act_d leaf view) ≡ true = ap (λ (a : Option (Act DBeat Widget)). is_some (made widths true a)) f ∙ some_full widths up up.put refl in
    let then_leaf = WidthState widths down.next in
    let t : state_by then_leaf (act_d then_leaf view) ≡ WidthState widths second.next = ap (λ (a : Option (Act DBeat Widget)). state_by then_leaf (made widths true a)) m.second ∙ next_full widths then_leaf second second.put refl in
    record {
      does =
          ap (λ (a : Option (Act ABeat Widget)). acts (taken_by (made widths true a)) (put_by (made widths true a)) (taken_by (act_d leaf view)) (put_by (act_d leaf view))) e
          ∙ ap (λ (d : Option (Act DBeat Widget)). acts (taken_by (made widths true (Some down))) (put_by (made widths true (Some down))) (taken_by (made widths true d)) (put_by (made widths true d))) f
          ∙ same_acts _ _ _ _ _ _ _ _ (take_full widths down down.put refl) (put_full widths down down.put refl) (take_full widths up up.put refl) (put_full widths up up.put refl);
      second = second;
      is = m.second;
      take = refl;
      put = refl;
      after =
          ap (λ (l : LeafState). cond (is_some (act_d leaf view)) (state_by l (act_d l view)) l) n
          ∙ ap (λ (c : Bool). cond c (state_by then_leaf (act_d then_leaf view)) then_leaf) s
          ∙ t;
    }
  where
    same_acts : (a e : Bool) (b f : Option ABeat) (c g : Bool) (d h : Option DBeat) → a ≡ e → b ≡ f → c ≡ g → d ≡ h → acts a b c d ≡ acts e f g h
    same_acts a e b f c g d h p q r s = ap (λ z. acts z b c d) p ∙ ap (λ z. acts e z c d) q ∙ ap (λ z. acts e f z d) r ∙ ap (λ z. acts e f g z) s
