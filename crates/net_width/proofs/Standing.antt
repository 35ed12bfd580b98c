-- The wires of a width adapter are the adapter.
use Rattle.std.proofs.Common.{◌≡◌, ◌≢◌, ℕ, ◌<◌, ◌%◌, Bool, false, List, [], ◌∷◌, map, Option, Some, None, is_some, get_or, replicate, refl, sym, ap, ◌∙◌, subst, arith, if◌then◌else◌}
use Rattle.std.specs.Prelude.{◌==◌, nat_le, slice_set, min}
use Rattle.std.specs.Option.{option_and_then, option_map}
use Rattle.std.proofs.lemmas.Bool.Decides.{nat_tests}
use Rattle.tl_edge.specs.declared.beat.DBeat.{DBeat}
use Rattle.tl_edge.specs.declared.plan.PlanEdge.{PlanEdge}
use Rattle.tl_edge.specs.Beats.{data_beats, most_lanes}
use Rattle.tl_edge.specs.Plans.{bus_width}
use Rattle.tl_edge.specs.Wires.{a_fields, d_fields}
use Rattle.flow_core.specs.Leaves.{LeafState, no_lanes}
use Rattle.flow_core.specs.Leaves.LeafState.{WidthState}
use Rattle.flow_core.specs.Turning.{Side, Widget, Widths, address_of}
use Rattle.net_build.specs.Bits.{wire_values}
use Rattle.net_build.specs.Built.{Built}
use Rattle.net_build.specs.Values.{AtStart, Solves, Ticks, high}
use Rattle.net_queue.specs.declared.types.EdgeWires.{EdgeWires}
use Rattle.net_queue.specs.Adapters.{put_by, state_by, taken_by}
use Rattle.net_queue.specs.Leaves.{Done, LeafView, View, done_at, done_fields, view_at, view_fields}
use Rattle.net_queue.specs.Queues.{shown_at}
use Rattle.net_queue.proofs.Relations.{machine_of}
use Rattle.net_widget.specs.Widgets.{AreTurnable, widget_machine}
use Rattle.net_sides.specs.Sides.{HoldSide, SeesRequest, SeesResponse, field_at, made_down, made_up}
use Rattle.net_sides.proofs.Asked.{shown_some}
use Rattle.net_width.specs.declared.types.Ends.{Ends}
use Rattle.net_width.specs.declared.types.Widened.{Widened}
use Rattle.net_width.specs.Between.{FitsBetween, IsWidgetBetween, wires_of}
use Rattle.net_width.specs.Widened.{IsWidened, kept_in, kept_of}
use Rattle.net_width.proofs.Kept.{address_is, known_is, none_kept, written_kept}
use Rattle.net_width.proofs.Whole.{after_both, down_raised, kept_apart, put_raised, taken_raised, up_raised}

-- ---- lists of one

pub head_of : {A C : Type 0} (f : A → C) (y : C) (xs : List A) (d : A) → y ∷ [] ≡ map f xs → y ≡ f (get_or xs 0 d)
head_of f y [] d e = absurd cc
head_of f y (x ∷ xs) d e = cc

pub room_of : (y : Bool) (xs : List Bool) → y ∷ [] ≡ xs → y ≡ get_or xs 0 false
room_of y xs e = ap (λ (zs : List Bool). get_or zs 0 false) e

abbrev done : List Bool → List (Option (List ℕ)) → List Bool → List (Option (List ℕ)) → Done (List ℕ) (List ℕ)
done take_a put_d take_d put_a = record { take_a = take_a; put_d = put_d; take_d = take_d; put_a = put_a }

pub same_done : (a e : Bool) (b f : Option (List ℕ)) (c g : Bool) (d h : Option (List ℕ)) → a ≡ e → b ≡ f → c ≡ g → d ≡ h → done (a ∷ []) (b ∷ []) (c ∷ []) (d ∷ []) ≡ done (e ∷ []) (f ∷ []) (g ∷ []) (h ∷ [])
same_done a e b f c g d h p q r s = ap (λ x. done (x ∷ []) (b ∷ []) (c ∷ []) (d ∷ [])) p ∙ ap (λ x. done (e ∷ []) (x ∷ []) (c ∷ []) (d ∷ [])) q ∙ ap (λ x. done (e ∷ []) (f ∷ []) (x ∷ []) (d ∷ [])) r ∙ ap (λ x. done (e ∷ []) (f ∷ []) (g ∷ []) (x ∷ [])) s

eq_no : (a b : ℕ) → a ≢ b → (a == b) ≡ false
eq_no a b e = grind (arith, nat_tests)

-- ---- the leaf

-- the registers hold the state
record Stands (widths : Widths) (w : Widened) (v : ℕ → ℕ) (s : LeafState) : Type 0 where
  widget : Widget
  is : s ≡ WidthState widths widget
  kept : widget.kept ≡ kept_in v w.entries
  a : HoldSide w.requests.side widget.a v
  d : HoldSide w.responses.side widget.d v

module _ (b : Built) (ein eout : PlanEdge) (widths : Widths) (count : ℕ) (above below : EdgeWires) (w : Widened) (h : IsWidened b widths count above below w) (differ : widths.above ≢ widths.below) (same : record { above = bus_width ein; below = bus_width eout } ≡ widths) (ids : ein.ids ≡ count) where
  abbrev ends : Ends
  ends = record { take_a = w.requests.take; put_a = w.requests.put; take_d = w.responses.take; put_d = w.responses.put }

  starts_so : (v : ℕ → ℕ) → AtStart b v → Stands widths w v (widget_machine ein eout).idle
  starts_so v a = record {
    widget = record { kept = replicate ein.ids None; a = no_lanes; d = no_lanes };
    is = ap (λ (x : Widths). WidthState x (record { kept = replicate ein.ids None; a = no_lanes; d = no_lanes })) same;
    kept = ap (λ (n : ℕ). replicate n None) ids ∙ sym (none_kept count) ∙ sym (ap (map kept_of) (h.starts v a));
    a = h.requests.starts v a;
    d = h.responses.starts v a;
  }

  -- what is seen in a cycle
  record Seen (v : ℕ → ℕ) (x : LeafView) (widget : Widget) : Type 0 where
    head_a : (shown_at above.a v).head ≡ option_map a_fields (get_or x.heads_a 0 None)
    head_d : (shown_at below.d v).head ≡ option_map d_fields (get_or x.heads_d 0 None)
    room_a : high v below.a.ready ≡ get_or x.room_a 0 false
    room_d : high v above.d.ready ≡ get_or x.room_d 0 false
    turns : AreTurnable widths widget (get_or x.heads_a 0 None) (get_or x.heads_d 0 None)

  seen_so : (v : ℕ → ℕ) (x : LeafView) (widget : Widget) → view_at (above ∷ []) (below ∷ []) v ≡ view_fields x → FitsBetween ein eout above below (WidthState widths widget) x → Seen v x widget
  seen_so v x widget e f = record {
    head_a = head_of (option_map a_fields) (shown_at above.a v).head x.heads_a None (ap (λ (y : View (List ℕ) (List ℕ)). y.heads_a) e);
    head_d = head_of (option_map d_fields) (shown_at below.d v).head x.heads_d None (ap (λ (y : View (List ℕ) (List ℕ)). y.heads_d) e);
    room_a = room_of (shown_at below.a v).room x.room_a (ap (λ (y : View (List ℕ) (List ℕ)). y.room_a) e);
    room_d = room_of (shown_at above.d v).room x.room_d (ap (λ (y : View (List ℕ) (List ℕ)). y.room_d) e);
    turns = f.0 differ;
  }

  asks : (v : ℕ → ℕ) (x : LeafView) (widget : Widget) → Seen v x widget → SeesRequest widths above.a widget (get_or x.heads_a 0 None) v
  asks v x widget s = record { seen = s.head_a; placed = s.turns.placed; left = s.turns.left_down }

  -- also after the act on channel A, which leaves the address for the id of the response
  answers : (v : ℕ → ℕ) (x : LeafView) (widget other : Widget) → Solves b v → Seen v x widget → widget.kept ≡ kept_in v w.entries → other.d ≡ widget.d
      → ((beat : DBeat) → get_or x.heads_d 0 None ≡ Some beat → address_of other.kept beat.source ≡ address_of widget.kept beat.source)
      → SeesResponse widths w.kept below.d other (get_or x.heads_d 0 None) v
  answers v x widget other q s k e u = record {
    seen = s.head_d;
    known = λ beat z.
        h.recalled.known v q
        ∙ ap (λ (i : ℕ). nat_le 8 (get_or (wire_values v w.entries) i 0)) (source beat z)
        ∙ sym (known_is (wire_values v w.entries) beat.source)
        ∙ sym (ap is_some (u beat z ∙ ap (λ (xs : List (Option ℕ)). address_of xs beat.source) k));
    address = λ beat address z t.
        h.recalled.address v q
        ∙ ap (λ (i : ℕ). get_or (wire_values v w.entries) i 0 % 8) (source beat z)
        ∙ address_is (wire_values v w.entries) beat.source address (sym (u beat z ∙ ap (λ (xs : List (Option ℕ)). address_of xs beat.source) k) ∙ t);
    size = s.turns.size;
    left = λ beat z t. subst (λ (d : Side). d.done < data_beats beat.size (min widths.above widths.below)) (sym e) (s.turns.left_up beat z t);
  }
    where
      source : (beat : DBeat) → get_or x.heads_d 0 None ≡ Some beat → field_at below.d 2 v ≡ beat.source
      source beat z = ap (λ (xs : List ℕ). get_or xs 2 0) (shown_some (high v below.d.valid) (wire_values v below.d.head) (d_fields beat) (s.head_d ∙ ap (option_map d_fields) z)).1

  here : (v : ℕ → ℕ) (x : LeafView) (widget : Widget) → Solves b v → Seen v x widget → widget.kept ≡ kept_in v w.entries → SeesResponse widths w.kept below.d widget (get_or x.heads_d 0 None) v
  here v x widget q s k = answers v x widget widget q s k refl (λ beat z. refl)

  -- ---- what is done

  does_so : (v : ℕ → ℕ) (x : LeafView) (widget : Widget) → Solves b v → widget.kept ≡ kept_in v w.entries → HoldSide w.requests.side widget.a v → HoldSide w.responses.side widget.d v
      → view_at (above ∷ []) (below ∷ []) v ≡ view_fields x → FitsBetween ein eout above below (WidthState widths widget) x
      → done_at (wires_of ends) v ≡ done_fields ((widget_machine ein eout).does (WidthState widths widget) x)
  does_so v x widget q k a d e f =
      let s = seen_so v x widget e f in
      let ha = get_or x.heads_a 0 None in
      let hd = get_or x.heads_d 0 None in
      let ra = get_or x.room_a 0 false in
      let rd = get_or x.room_d 0 false in
      let ask = asks v x widget s in
      let answer = here v x widget q s k in
      let down_is = down_raised widths widget ha ra in
      let up_is = up_raised widths widget hd rd in
      same_done _ _ _ _ _ _ _ _
      (h.requests.takes v widget ha q a ask ∙ ap (λ (r : Bool). taken_by (made_down widths widget ha r)) s.room_a ∙ sym (ap taken_by down_is ∙ taken_raised widths (made_down widths widget ha ra)))
      (h.responses.puts v widget hd q d answer (λ beat z. f.1.up beat (ap put_by up_is ∙ put_raised widths (made_up widths widget hd rd) ∙ sym (ap (λ (r : Bool). put_by (made_up widths widget hd r)) s.room_d) ∙ z))
      ∙ ap (λ (r : Bool). option_map d_fields (put_by (made_up widths widget hd r))) s.room_d ∙ ap (option_map d_fields) (sym (ap put_by up_is ∙ put_raised widths (made_up widths widget hd rd))))
      (h.responses.takes v widget hd q d answer ∙ ap (λ (r : Bool). taken_by (made_up widths widget hd r)) s.room_d ∙ sym (ap taken_by up_is ∙ taken_raised widths (made_up widths widget hd rd)))
      (h.requests.puts v widget ha q a ask (λ beat z. f.1.down beat (ap put_by down_is ∙ put_raised widths (made_down widths widget ha ra) ∙ sym (ap (λ (r : Bool). put_by (made_down widths widget ha r)) s.room_a) ∙ z))
      ∙ ap (λ (r : Bool). option_map a_fields (put_by (made_down widths widget ha r))) s.room_a ∙ ap (option_map a_fields) (sym (ap put_by down_is ∙ put_raised widths (made_down widths widget ha ra))))

  -- ---- the next state

  goes_so : (v u : ℕ → ℕ) (x : LeafView) (widget : Widget) → Solves b v → Ticks b v u → (v 0 == 1) ≡ false → widget.kept ≡ kept_in v w.entries → HoldSide w.requests.side widget.a v → HoldSide w.responses.side widget.d v
      → view_at (above ∷ []) (below ∷ []) v ≡ view_fields x → FitsBetween ein eout above below (WidthState widths widget) x
      → Stands widths w u ((widget_machine ein eout).after (WidthState widths widget) x)
  goes_so v u x widget q t z k a d e f =
      let s = seen_so v x widget e f in
      let ha = get_or x.heads_a 0 None in
      let hd = get_or x.heads_d 0 None in
      let ra = get_or x.room_a 0 false in
      let rd = get_or x.room_d 0 false in
      let ask = asks v x widget s in
      let mid = state_by widget (made_down widths widget ha ra) in
      let begins = high v w.requests.begins in
      let mid_d : mid.d ≡ widget.d = subst (λ (r : Bool). (state_by widget (made_down widths widget ha r)).d ≡ widget.d) s.room_a (h.requests.other v widget ha q a ask) in
      let mid_a : HoldSide w.requests.side mid.a u = subst (λ (r : Bool). HoldSide w.requests.side (state_by widget (made_down widths widget ha r)).a u) s.room_a (h.requests.nexts v u widget ha q t z a ask) in
      let mid_kept : mid.kept ≡ (if begins then slice_set widget.kept (field_at above.a 3 v) (Some (field_at above.a 4 v % most_lanes)) else widget.kept) =
      subst (λ (r : Bool). (state_by widget (made_down widths widget ha r)).kept ≡ (if begins then slice_set widget.kept (field_at above.a 3 v) (Some (field_at above.a 4 v % most_lanes)) else widget.kept)) s.room_a (h.requests.keeps v widget ha q a ask) in
      let apart = λ (beat : DBeat) (y : hd ≡ Some beat).
      ap (option_and_then (λ (o : Option ℕ). o)) (kept_apart widths widget ha ra beat.source (eq_no widths.above widths.below differ) (λ one o g. s.turns.apart one beat o y g)) in
      let answer = answers v x widget mid q s k mid_d apart in
      let hold : HoldSide w.responses.side mid.d v = subst (λ (y : Side). HoldSide w.responses.side y v) (sym mid_d) d in
      let end = state_by mid (made_up widths mid hd rd) in
      let others : (end.kept ≡ mid.kept) × (end.a ≡ mid.a) =
      subst (λ (r : Bool). ((state_by mid (made_up widths mid hd r)).kept ≡ mid.kept) × ((state_by mid (made_up widths mid hd r)).a ≡ mid.a)) s.room_d (h.responses.others v mid hd q hold answer) in
      record {
        widget = end;
        is = after_both widths widget ha hd ra rd mid_d apart;
        kept =
            others.0
            ∙ mid_kept
            ∙ ap (λ (xs : List (Option ℕ)). if begins then slice_set xs (field_at above.a 3 v) (Some (field_at above.a 4 v % most_lanes)) else xs) k
            ∙ sym (written_kept begins (field_at above.a 3 v) (field_at above.a 4 v) (wire_values v w.entries))
            ∙ sym (ap (map kept_of) (h.nexts v u q t z));
        a = subst (λ (y : Side). HoldSide w.requests.side y u) (sym others.1) mid_a;
        d = subst (λ (r : Bool). HoldSide w.responses.side (state_by mid (made_up widths mid hd r)).d u) s.room_d (h.responses.nexts v u mid hd q t z hold answer);
      }

  pub is_widget : IsWidgetBetween b ein eout above below ends
  is_widget =
      machine_of (widget_machine ein eout) (FitsBetween ein eout above below) view_fields done_fields (view_at (above ∷ []) (below ∷ [])) (done_at (wires_of ends)) b (Stands widths w) (record {
        starts = starts_so;
        does = λ v its x q z st e f.
            subst (λ (l : LeafState). FitsBetween ein eout above below l x → done_at (wires_of ends) v ≡ done_fields ((widget_machine ein eout).does l x)) (sym st.is)
            (λ g. does_so v x st.widget q st.kept st.a st.d e g) f;
        nexts = λ v u its x q t z st e f.
            subst (λ (l : LeafState). FitsBetween ein eout above below l x → Stands widths w u ((widget_machine ein eout).after l x)) (sym st.is)
            (λ g. goes_so v u x st.widget q t z st.kept st.a st.d e g) f;
      })
