-- A cycle of a width adapter by the acts on its channels.
use Rattle.std.proofs.Common.{◌≡◌, ◌≢◌, ℕ, ◌%◌, Bool, true, false, not, cond, ◌&&◌, List, Option, Some, None, is_some, refl, sym, ap, ◌∙◌, arith}
use Rattle.std.specs.Prelude.{◌==◌, slice_get}
use Rattle.std.specs.Option.{option_and_then, option_map}
use Rattle.std.proofs.lemmas.Bool.Decides.{nat_tests}
use Rattle.tl_edge.specs.declared.beat.ABeat.{ABeat}
use Rattle.tl_edge.specs.declared.beat.DBeat.{DBeat}
use Rattle.tl_edge.specs.Beats.{most_lanes}
use Rattle.tl_edge.specs.Messages.{brings_data, has_data}
use Rattle.flow_core.specs.Acts.{Act, forwards, lifted, with_d_lanes}
use Rattle.flow_core.specs.Leaves.{LeafState, down, down_alone, up, up_alone}
use Rattle.flow_core.specs.Leaves.LeafState.{WidthState}
use Rattle.flow_core.specs.Turning.{Lanes, Side, Widget, Widths, address_of, data_down, data_up, kept_after, lanes_of, plain_down, turn_down, turn_up, turned, turned_up}
use Rattle.flow_choice.specs.Valid.{Begins}
use Rattle.net_build.proofs.Driven.{get_set_other}
use Rattle.net_queue.specs.Adapters.{act_by, put_by, state_by, taken_by, with_room}
use Rattle.net_sides.specs.Sides.{made_down, made_up}

-- ---- acts of the leaf

abbrev pub raised : {B : Type 0} → Widths → Option (Act B Widget) → Option (Act B LeafState)
raised widths made = option_map (lifted (WidthState widths)) made

room_raised : {B : Type 0} (widths : Widths) (act : Act B Widget) (c : Bool) → cond c None (Some (lifted (WidthState widths) act)) ≡ raised widths (cond c None (Some act))
room_raised widths act true = refl
room_raised widths act false = refl

made_raised : {B : Type 0} (widths : Widths) (room : Bool) (o : Option (Act B Widget)) → option_and_then (with_room room) (raised widths o) ≡ raised widths (option_and_then (with_room room) o)
made_raised widths room None = refl
made_raised widths room (Some act) = room_raised widths act (is_some act.put && not room)

pub down_raised : (widths : Widths) (widget : Widget) (head : Option ABeat) (room : Bool)
    → act_by (down_alone (WidthState widths widget) 0 0 0) (down (WidthState widths widget) 0 0 0) head room ≡ raised widths (made_down widths widget head room)
down_raised widths widget None room = refl
down_raised widths widget (Some beat) room = made_raised widths room (turn_down widths widget beat)

pub up_raised : (widths : Widths) (widget : Widget) (head : Option DBeat) (room : Bool)
    → act_by (up_alone (WidthState widths widget) 0 0) (up (WidthState widths widget) 0 0) head room ≡ raised widths (made_up widths widget head room)
up_raised widths widget None room = refl
up_raised widths widget (Some beat) room = made_raised widths room (turn_up widths widget beat)

pub taken_raised : {B : Type 0} (widths : Widths) (made : Option (Act B Widget)) → taken_by (raised widths made) ≡ taken_by made
taken_raised widths None = refl
taken_raised widths (Some act) = refl

pub put_raised : {B : Type 0} (widths : Widths) (made : Option (Act B Widget)) → put_by (raised widths made) ≡ put_by made
put_raised widths None = refl
put_raised widths (Some act) = refl

pub state_raised : {B : Type 0} (widths : Widths) (widget : Widget) (made : Option (Act B Widget)) → state_by (WidthState widths widget) (raised widths made) ≡ WidthState widths (state_by widget made)
state_raised widths widget None = refl
state_raised widths widget (Some act) = refl

some_raised : {B : Type 0} (widths : Widths) (made : Option (Act B Widget)) → is_some (raised widths made) ≡ is_some made
some_raised widths None = refl
some_raised widths (Some act) = refl

-- ---- channel D after channel A

-- whether an act is there, and whether it puts
abbrev puts_some : Option (Act DBeat Widget) → Option Bool
puts_some o = option_map (λ (act : Act DBeat Widget). is_some act.put) o

abbrev finds_room : Bool → Option Bool → Bool
finds_room room None = false
finds_room room (Some p) = not (p && not room)

cond_some : {A : Type 0} (c : Bool) (x : A) → is_some (cond c None (Some x)) ≡ not c
cond_some true x = refl
cond_some false x = refl

some_made : (room : Bool) (o : Option (Act DBeat Widget)) → is_some (option_and_then (with_room room) o) ≡ finds_room room (puts_some o)
some_made room None = refl
some_made room (Some act) = cond_some (is_some act.put && not room) act

data_puts : (beat : DBeat) (s t : Widget) (o : Option (Act Lanes Side)) → puts_some (option_map (data_up s beat) o) ≡ puts_some (option_map (data_up t beat) o)
data_puts beat s t None = refl
data_puts beat s t (Some act) = at act.put
  where
    at : (p : Option Lanes) → Some (is_some (option_map (λ (lanes : Lanes). with_d_lanes lanes.payload beat) p)) ≡ Some (is_some (option_map (λ (lanes : Lanes). with_d_lanes lanes.payload beat) p))
    at p = refl

turned_puts : (widths : Widths) (s t : Widget) (beat : DBeat) (o : Option ℕ) → t.d ≡ s.d → puts_some (option_and_then (turned_up widths t beat) o) ≡ puts_some (option_and_then (turned_up widths s beat) o)
turned_puts widths s t beat None e = refl
turned_puts widths s t beat (Some address) e =
    data_puts beat t s (turned widths.below widths.above address beat.size t.d (record { mask = 0; payload = beat.payload }))
    ∙ ap (λ (d : Side). puts_some (option_map (data_up s beat) (turned widths.below widths.above address beat.size d (record { mask = 0; payload = beat.payload })))) e

up_puts : (widths : Widths) (s t : Widget) (beat : DBeat) → t.d ≡ s.d → address_of t.kept beat.source ≡ address_of s.kept beat.source → puts_some (turn_up widths t beat) ≡ puts_some (turn_up widths s beat)
up_puts widths s t beat e k = at (widths.above == widths.below) (brings_data beat.op)
  where
    at : (p q : Bool) → puts_some (cond p (Some (forwards beat t)) (cond q (option_and_then (turned_up widths t beat) (address_of t.kept beat.source)) (Some (forwards (with_d_lanes 0 beat) t))))
        ≡ puts_some (cond p (Some (forwards beat s)) (cond q (option_and_then (turned_up widths s beat) (address_of s.kept beat.source)) (Some (forwards (with_d_lanes 0 beat) s))))
    at true q = refl
    at false true = ap (λ (o : Option ℕ). puts_some (option_and_then (turned_up widths t beat) o)) k ∙ turned_puts widths s t beat (address_of s.kept beat.source) e
    at false false = refl

pub some_up : (widths : Widths) (s t : Widget) (head : Option DBeat) (room : Bool) → t.d ≡ s.d → ((beat : DBeat) → head ≡ Some beat → address_of t.kept beat.source ≡ address_of s.kept beat.source)
    → is_some (made_up widths s head room) ≡ is_some (made_up widths t head room)
some_up widths s t None room e k = refl
some_up widths s t (Some beat) room e k =
    some_made room (turn_up widths s beat)
    ∙ ap (finds_room room) (sym (up_puts widths s t beat e (k beat refl)))
    ∙ sym (some_made room (turn_up widths t beat))

stays_none : {B : Type 0} (widths : Widths) (widget : Widget) (made : Option (Act B Widget)) → cond (is_some made) (WidthState widths (state_by widget made)) (WidthState widths widget) ≡ WidthState widths (state_by widget made)
stays_none widths widget None = refl
stays_none widths widget (Some act) = refl

-- the state after both
pub after_both : (widths : Widths) (widget : Widget) (ha : Option ABeat) (hd : Option DBeat) (ra rd : Bool)
    → let mid = state_by widget (made_down widths widget ha ra) in
    mid.d ≡ widget.d → ((beat : DBeat) → hd ≡ Some beat → address_of mid.kept beat.source ≡ address_of widget.kept beat.source)
    → let leaf = WidthState widths widget in
    let next = state_by leaf (act_by (down_alone leaf 0 0 0) (down leaf 0 0 0) ha ra) in
    cond (is_some (act_by (up_alone leaf 0 0) (up leaf 0 0) hd rd)) (state_by next (act_by (up_alone next 0 0) (up next 0 0) hd rd)) next
    ≡ WidthState widths (state_by mid (made_up widths mid hd rd))
after_both widths widget ha hd ra rd e k =
    let mid = state_by widget (made_down widths widget ha ra) in
    let leaf = WidthState widths widget in
    let n : state_by leaf (act_by (down_alone leaf 0 0 0) (down leaf 0 0 0) ha ra) ≡ WidthState widths mid =
    ap (state_by leaf) (down_raised widths widget ha ra) ∙ state_raised widths widget (made_down widths widget ha ra) in
    let c : is_some (act_by (up_alone leaf 0 0) (up leaf 0 0) hd rd) ≡ is_some (made_up widths mid hd rd) =
    ap is_some (up_raised widths widget hd rd) ∙ some_raised widths (made_up widths widget hd rd) ∙ some_up widths widget mid hd rd e k in
    ap (λ (l : LeafState). cond (is_some (act_by (up_alone leaf 0 0) (up leaf 0 0) hd rd)) (state_by l (act_by (up_alone l 0 0) (up l 0 0) hd rd)) l) n
    ∙ ap (λ (b : Bool). cond b (state_by (WidthState widths mid) (act_by (up_alone (WidthState widths mid) 0 0) (up (WidthState widths mid) 0 0) hd rd)) (WidthState widths mid)) c
    ∙ ap (λ (l : LeafState). cond (is_some (made_up widths mid hd rd)) l (WidthState widths mid)) (ap (state_by (WidthState widths mid)) (up_raised widths mid hd rd) ∙ state_raised widths mid (made_up widths mid hd rd))
    ∙ stays_none widths mid (made_up widths mid hd rd)

-- ---- a request that begins with another id leaves what is kept for this one

kept_other : (t : Bool) (kept : List (Option ℕ)) (b : ABeat) (j : ℕ) → (t ≡ true → b.source ≢ j) → slice_get (kept_after t kept b) j ≡ slice_get kept j
kept_other true kept b j h = get_set_other kept b.source (Some (b.address % most_lanes)) j (λ e. h refl (sym e))
kept_other false kept b j h = refl

zero_is : (n : ℕ) → (n == 0) ≡ true → n ≡ 0
zero_is n h = grind (arith, nat_tests)

room_keeps : (widget : Widget) (j : ℕ) (act : Act ABeat Widget) (c : Bool) → slice_get act.next.kept j ≡ slice_get widget.kept j → slice_get (state_by widget (cond c None (Some act))).kept j ≡ slice_get widget.kept j
room_keeps widget j act true e = refl
room_keeps widget j act false e = e

pub kept_apart : (widths : Widths) (widget : Widget) (head : Option ABeat) (room : Bool) (j : ℕ) → (widths.above == widths.below) ≡ false → ((beat : ABeat) → head ≡ Some beat → Begins widget beat → beat.source ≢ j)
    → slice_get (state_by widget (made_down widths widget head room)).kept j ≡ slice_get widget.kept j
kept_apart widths widget None room j p h = refl
kept_apart widths widget (Some beat) room j p h =
    ap (λ (c : Bool). slice_get (state_by widget (option_and_then (with_room room) (cond c (Some (forwards beat widget)) (cond (has_data beat.op) (option_map (data_down widget beat) (turned widths.above widths.below beat.address beat.size widget.a (lanes_of beat))) (Some (plain_down widths widget beat)))))).kept j) p
    ∙ at (has_data beat.op) refl (turned widths.above widths.below beat.address beat.size widget.a (lanes_of beat))
  where
    at : (q : Bool) → has_data beat.op ≡ q → (t : Option (Act Lanes Side))
        → slice_get (state_by widget (option_and_then (with_room room) (cond q (option_map (data_down widget beat) t) (Some (plain_down widths widget beat))))).kept j ≡ slice_get widget.kept j
    at true e None = refl
    at true e (Some act) =
        room_keeps widget j (data_down widget beat act) (is_some (data_down widget beat act).put && not room)
        (kept_other (widget.a.done == 0) widget.kept beat j (λ z. h beat refl (λ t. zero_is widget.a.done z)))
    at false e t =
        room_keeps widget j (plain_down widths widget beat) (is_some (plain_down widths widget beat).put && not room)
        (kept_other true widget.kept beat j (λ z. h beat refl (λ t. absurd (let f : true ≡ false = sym t ∙ e in cc))))
