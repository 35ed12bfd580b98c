-- Between buses of one width the wires of a buffer are the adapter.
use Rattle.std.proofs.Common.{◌≡◌, ℕ, Bool, true, false, ◌&&◌, cond, List, [], ◌∷◌, Option, Some, None, get_or, refl, sym, ap, ◌∙◌, subst, arith}
use Rattle.std.specs.Prelude.{◌==◌}
use Rattle.std.specs.Option.{option_and_then, option_map}
use Rattle.std.proofs.lemmas.Bool.Decides.{nat_tests}
use Rattle.tl_edge.specs.declared.beat.ABeat.{ABeat}
use Rattle.tl_edge.specs.declared.beat.DBeat.{DBeat}
use Rattle.tl_edge.specs.declared.plan.PlanEdge.{PlanEdge}
use Rattle.tl_edge.specs.Messages.{brings_data, has_data}
use Rattle.tl_edge.specs.Plans.{bus_width}
use Rattle.tl_edge.specs.Wires.{FitWires, a_fields, d_fields}
use Rattle.flow_core.specs.Acts.{Act, forwards, with_d_lanes}
use Rattle.flow_core.specs.Leaves.{LeafState}
use Rattle.flow_core.specs.Leaves.LeafState.{WidthState}
use Rattle.flow_core.specs.Turning.{Widget, Widths, address_of, data_down, lanes_of, plain_down, turned, turned_up}
use Rattle.net_build.specs.Bits.{wire_values}
use Rattle.net_build.specs.Built.{Built}
use Rattle.net_build.specs.Values.{Solves, Tells, high}
use Rattle.net_queue.specs.declared.types.EdgeWires.{EdgeWires}
use Rattle.net_queue.specs.declared.types.Put.{Put}
use Rattle.net_queue.specs.Adapters.{put_by, state_by, taken_by, with_room}
use Rattle.net_queue.specs.Leaves.{LeafView, View, done_at, done_fields, view_at, view_fields}
use Rattle.net_queue.specs.Queues.{shown_at}
use Rattle.net_queue.specs.Rows.{KeepsRow, row_widths}
use Rattle.net_queue.proofs.Relations.{machine_of}
use Rattle.net_widget.specs.Widgets.{widget_machine}
use Rattle.net_sides.specs.Sides.{made_down, made_up}
use Rattle.net_sides.proofs.Asked.{shown_none, shown_some}
use Rattle.net_width.specs.declared.types.Ends.{Ends}
use Rattle.net_width.specs.Between.{FitsBetween, IsWidgetBetween, wires_of}
use Rattle.net_width.proofs.Standing.{head_of, room_of, same_done}
use Rattle.net_width.proofs.Whole.{after_both, down_raised, put_raised, taken_raised, up_raised}

eq_yes : (a b : ℕ) → a ≡ b → (a == b) ≡ true
eq_yes a b e = grind (arith, nat_tests)

-- a head that goes on where there is room
abbrev passed : {B : Type 0} → Widget → Option B → Bool → Option (Act B Widget)
passed widget head room = option_and_then (with_room room) (option_map (λ y. forwards y widget) head)

down_passed : (widths : Widths) (widget : Widget) (head : Option ABeat) (room : Bool) → widths.above ≡ widths.below → made_down widths widget head room ≡ passed widget head room
down_passed widths widget None room e = refl
down_passed widths widget (Some beat) room e =
    ap (λ (c : Bool). option_and_then (with_room room) (cond c (Some (forwards beat widget)) (cond (has_data beat.op) (option_map (data_down widget beat) (turned widths.above widths.below beat.address beat.size widget.a (lanes_of beat))) (Some (plain_down widths widget beat))))) (eq_yes widths.above widths.below e)

up_passed : (widths : Widths) (widget : Widget) (head : Option DBeat) (room : Bool) → widths.above ≡ widths.below → made_up widths widget head room ≡ passed widget head room
up_passed widths widget None room e = refl
up_passed widths widget (Some beat) room e =
    ap (λ (c : Bool). option_and_then (with_room room) (cond c (Some (forwards beat widget)) (cond (brings_data beat.op) (option_and_then (turned_up widths widget beat) (address_of widget.kept beat.source)) (Some (forwards (with_d_lanes 0 beat) widget))))) (eq_yes widths.above widths.below e)

module _ {B : Type 0} (fields : B → List ℕ) (widths : List ℕ) (widget : Widget) where
  taken_room : (beat : B) (room : Bool) → taken_by (passed widget (Some beat) room) ≡ room
  taken_room beat true = refl
  taken_room beat false = refl

  taken : (head : Option B) (room valid p : Bool) (row : List ℕ) → cond valid (Some row) None ≡ option_map fields head → p ≡ (valid && room) → p ≡ taken_by (passed widget head room)
  taken None room valid p row h e = e ∙ ap (λ (x : Bool). x && room) (shown_none valid row h)
  taken (Some beat) room valid p row h e = e ∙ ap (λ (x : Bool). x && room) (shown_some valid row (fields beat) h).0 ∙ sym (taken_room beat room)

  put : (head : Option B) (room valid p : Bool) (row items : List ℕ) → cond valid (Some row) None ≡ option_map fields head → p ≡ (valid && room)
      → ((beat : B) → put_by (passed widget head room) ≡ Some beat → FitWires (fields beat) widths) → (FitWires row widths → items ≡ row)
      → cond p (Some items) None ≡ option_map fields (put_by (passed widget head room))
  put None room valid p row items h e f k = ap (λ (x : Bool). cond x (Some items) None) (e ∙ ap (λ (x : Bool). x && room) (shown_none valid row h))
  put (Some beat) false valid p row items h e f k = ap (λ (x : Bool). cond x (Some items) None) (e ∙ ap (λ (x : Bool). x && false) (shown_some valid row (fields beat) h).0)
  put (Some beat) true valid p row items h e f k =
      let o = shown_some valid row (fields beat) h in
      ap (λ (x : Bool). cond x (Some items) None) (e ∙ ap (λ (x : Bool). x && true) o.0)
      ∙ ap Some (k (subst (λ (xs : List ℕ). FitWires xs widths) (sym o.1) (f beat refl)) ∙ o.1)

stays : {B : Type 0} (widget : Widget) (head : Option B) (room : Bool) → state_by widget (passed widget head room) ≡ widget
stays widget None room = refl
stays widget (Some beat) true = refl
stays widget (Some beat) false = refl

module _ (b : Built) (ein eout : PlanEdge) (above below : EdgeWires) (down up : Put) (e : bus_width ein ≡ bus_width eout) (td : Tells b down.valid (λ v. high v above.a.valid && high v below.a.ready)) (tu : Tells b up.valid (λ v. high v below.d.valid && high v above.d.ready)) (kd : KeepsRow b above.a.head (row_widths below.a.head) down.items) (ku : KeepsRow b below.d.head (row_widths above.d.head) up.items) where
  abbrev ends : Ends
  ends = record { take_a = down.valid; put_a = down; take_d = up.valid; put_d = up }

  abbrev buses : Widths
  buses = record { above = bus_width ein; below = bus_width eout }

  does_so : (v : ℕ → ℕ) (x : LeafView) (widget : Widget) → Solves b v → view_at (above ∷ []) (below ∷ []) v ≡ view_fields x → FitsBetween ein eout above below (WidthState buses widget) x
      → done_at (wires_of ends) v ≡ done_fields ((widget_machine ein eout).does (WidthState buses widget) x)
  does_so v x widget q s f =
      let ha = get_or x.heads_a 0 None in
      let hd = get_or x.heads_d 0 None in
      let ra = get_or x.room_a 0 false in
      let rd = get_or x.room_d 0 false in
      let sa = head_of (option_map a_fields) (shown_at above.a v).head x.heads_a None (ap (λ (y : View (List ℕ) (List ℕ)). y.heads_a) s) in
      let sd = head_of (option_map d_fields) (shown_at below.d v).head x.heads_d None (ap (λ (y : View (List ℕ) (List ℕ)). y.heads_d) s) in
      let rooma = room_of (shown_at below.a v).room x.room_a (ap (λ (y : View (List ℕ) (List ℕ)). y.room_a) s) in
      let roomd = room_of (shown_at above.d v).room x.room_d (ap (λ (y : View (List ℕ) (List ℕ)). y.room_d) s) in
      let pd = td.at v q ∙ ap (λ (r : Bool). high v above.a.valid && r) rooma in
      let pu = tu.at v q ∙ ap (λ (r : Bool). high v below.d.valid && r) roomd in
      let down_is = down_raised buses widget ha ra in
      let up_is = up_raised buses widget hd rd in
      let dp = down_passed buses widget ha ra e in
      let upp = up_passed buses widget hd rd e in
      same_done _ _ _ _ _ _ _ _
      (taken a_fields (row_widths below.a.head) widget ha ra (high v above.a.valid) (high v down.valid) (wire_values v above.a.head) sa pd ∙ sym (ap taken_by down_is ∙ taken_raised buses (made_down buses widget ha ra) ∙ ap taken_by dp))
      (put d_fields (row_widths above.d.head) widget hd rd (high v below.d.valid) (high v up.valid) (wire_values v below.d.head) (wire_values v up.items) sd pu
      (λ beat z. f.1.up beat (ap put_by up_is ∙ put_raised buses (made_up buses widget hd rd) ∙ ap put_by upp ∙ z)) (ku.at v q)
      ∙ ap (option_map d_fields) (sym (ap put_by up_is ∙ put_raised buses (made_up buses widget hd rd) ∙ ap put_by upp)))
      (taken d_fields (row_widths above.d.head) widget hd rd (high v below.d.valid) (high v up.valid) (wire_values v below.d.head) sd pu ∙ sym (ap taken_by up_is ∙ taken_raised buses (made_up buses widget hd rd) ∙ ap taken_by upp))
      (put a_fields (row_widths below.a.head) widget ha ra (high v above.a.valid) (high v down.valid) (wire_values v above.a.head) (wire_values v down.items) sa pd
      (λ beat z. f.1.down beat (ap put_by down_is ∙ put_raised buses (made_down buses widget ha ra) ∙ ap put_by dp ∙ z)) (kd.at v q)
      ∙ ap (option_map a_fields) (sym (ap put_by down_is ∙ put_raised buses (made_down buses widget ha ra) ∙ ap put_by dp)))

  goes_so : (x : LeafView) (widget : Widget) → (widget_machine ein eout).after (WidthState buses widget) x ≡ WidthState buses widget
  goes_so x widget =
      let ha = get_or x.heads_a 0 None in
      let hd = get_or x.heads_d 0 None in
      let ra = get_or x.room_a 0 false in
      let rd = get_or x.room_d 0 false in
      let mid : state_by widget (made_down buses widget ha ra) ≡ widget = ap (state_by widget) (down_passed buses widget ha ra e) ∙ stays widget ha ra in
      after_both buses widget ha hd ra rd (ap (λ (y : Widget). y.d) mid) (λ beat z. ap (λ (y : Widget). address_of y.kept beat.source) mid)
      ∙ ap (λ (y : Widget). WidthState buses (state_by y (made_up buses y hd rd))) mid
      ∙ ap (WidthState buses) (ap (state_by widget) (up_passed buses widget hd rd e) ∙ stays widget hd rd)

  pub is_passing : IsWidgetBetween b ein eout above below ends
  is_passing =
      machine_of (widget_machine ein eout) (FitsBetween ein eout above below) view_fields done_fields (view_at (above ∷ []) (below ∷ [])) (done_at (wires_of ends)) b (λ v its. its ≡ (widget_machine ein eout).idle) (record {
        starts = λ v a. refl;
        does = λ v its x q z st s f.
            subst (λ (l : LeafState). FitsBetween ein eout above below l x → done_at (wires_of ends) v ≡ done_fields ((widget_machine ein eout).does l x)) (sym st)
            (λ g. does_so v x _ q s g) f;
        nexts = λ v u its x q t z st s f. ap (λ (l : LeafState). (widget_machine ein eout).after l x) st ∙ goes_so x _;
      })
