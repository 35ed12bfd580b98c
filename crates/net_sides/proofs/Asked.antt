-- The wires of channel A are channel A.
use Rattle.std.proofs.Common.{◌≡◌, ℕ, ◌+◌, ◌-◌, ◌*◌, ◌/◌, ◌%◌, ◌^◌, ◌<◌, ◌≤◌, Bool, true, false, not, ◌&&◌, ◌||◌, cond, List, [], ◌∷◌, length, Option, Some, None, get_or, refl, sym, ap, ◌∙◌, subst, arith, if◌then◌else◌}
use Rattle.std.specs.Prelude.{◌==◌, slice_set, min, IsTrue}
use Rattle.std.specs.Option.{option_and_then, option_map}
use Rattle.std.proofs.lemmas.List.{get_or-map, length-map, map-set}
use Rattle.std.proofs.lemmas.Nat.{pow_below}
use Rattle.tl_edge.specs.declared.beat.ABeat.{ABeat}
use Rattle.tl_edge.specs.Beats.{active_mask, data_beats, most_lanes}
use Rattle.tl_edge.specs.Messages.{has_data}
use Rattle.tl_edge.specs.Wires.{FitWires, a_fields}
use Rattle.flow_core.specs.Acts.{Act, with_a_lanes}
use Rattle.flow_core.specs.Leaves.{no_lanes}
use Rattle.flow_core.specs.Turning.{Widget, Widths, ends_wide, number_after}
use Rattle.net_build.specs.declared.types.Wire.{Wire}
use Rattle.net_build.specs.Bits.{wire_values}
use Rattle.net_build.specs.Built.{Built}
use Rattle.net_build.specs.Values.{AtStart, Becomes, Solves, Ticks, high}
use Rattle.net_lanes.specs.declared.places.Buses.{Buses}
use Rattle.net_lanes.specs.Lanes.{AreTwo}
use Rattle.net_queue.specs.declared.types.Queue.{Queue}
use Rattle.net_queue.specs.Adapters.{put_by, state_by, taken_by, with_room}
use Rattle.net_queue.specs.Leaves.{put_told}
use Rattle.net_queue.specs.Queues.{shown_at}
use Rattle.net_queue.specs.Rows.{row_widths}
use Rattle.net_turns.specs.Turns.{HeldAt, held_after, lanes_turned, made_where, put_where, taken_where}
use Rattle.net_sides.specs.declared.types.RequestCycle.{RequestCycle}
use Rattle.net_sides.specs.declared.types.Requests.{Requests}
use Rattle.net_sides.specs.Puts.{IsRequestCycle, with_request_lanes}
use Rattle.net_sides.specs.Sides.{AreRequestsTurned, HoldSide, SeesRequest, field_at, made_down, widths_down}
use Rattle.net_sides.proofs.Acted.{DownFacts, act_down, down_facts}
use Rattle.net_sides.proofs.Meant.{down_is, lane_number, mask_out, payload_out}
use Rattle.net_sides.proofs.Told.{Idle, TurnTold, held_idle, turn_idle, turn_told}

some_same : {A : Type 0} (x y : A) → Some x ≡ Some y → x ≡ y
some_same x y e = cc

pub shown_none : (valid : Bool) (row : List ℕ) → cond valid (Some row) None ≡ None → valid ≡ false
shown_none true row e = absurd (let x : Some row ≡ None = e in cc)
shown_none false row e = refl

pub shown_some : (valid : Bool) (row fields : List ℕ) → cond valid (Some row) None ≡ Some fields → (valid ≡ true) × (row ≡ fields)
shown_some true row fields e = (refl, some_same row fields e)
shown_some false row fields e = absurd (let x : None ≡ Some fields = e in cc)

pub put_same : (p q : Bool) (items fields : List ℕ) → p ≡ q → (q ≡ true → items ≡ fields) → cond p (Some items) None ≡ cond q (Some fields) None
put_same p true items fields e h = ap (λ b. cond b (Some items) None) e ∙ ap Some (h refl)
put_same p false items fields e h = ap (λ b. cond b (Some items) None) e

pub cond_map : {A C : Type 0} (f : A → C) (p : Bool) (y : A) → option_map f (cond p (Some y) None) ≡ cond p (Some (f y)) None
cond_map f true y = refl
cond_map f false y = refl

-- the values of a row with another wire at a place
pub values_set : (v : ℕ → ℕ) (ws : List Wire) (k : ℕ) (w : Wire) → wire_values v (slice_set ws k w) ≡ slice_set (wire_values v ws) k (v w.number)
values_set v ws k w = map-set (λ (x : Wire). v x.number) ws k w

no_wire : Wire
no_wire = record { number = 0; width = 0 }

-- the value of a wire of a row
pub value_at : (v : ℕ → ℕ) (ws : List Wire) (k : ℕ) (fields : List ℕ) (d : Wire) → wire_values v ws ≡ fields → k < length fields → v (get_or ws k d).number ≡ get_or fields k 0
value_at v ws k fields d e l =
    let q : length ws ≡ length fields = sym (length-map ws (λ (x : Wire). v x.number)) ∙ ap length e in
    sym (get_or-map (λ (x : Wire). v x.number) ws k d 0 (omega (arith, q, l))) ∙ ap (λ (xs : List ℕ). get_or xs k 0) e

module _ (b : Built) (buses : Buses) (turns : Bool) (above below : Queue) (done : Wire) (c : RequestCycle) (two : AreTwo buses) (h : IsRequestCycle b buses turns above below done c) (k : Becomes b done (λ v. v c.turn.next.number)) (zero_at : (v : ℕ → ℕ) → AtStart b v → v done.number ≡ 0) where
  abbrev n : ℕ
  n = 2 ^ buses.narrow

  abbrev w : ℕ
  w = 2 ^ buses.wide

  abbrev widths : Widths
  widths = widths_down buses turns

  abbrev r : Requests
  r = record { take = c.turn.flow.take; put = c.put; begins = c.begins; side = record { done = done; mask = c.mask.held; payload = c.payload.held } }

  abbrev ends : Widget → ABeat → Bool
  ends widget beat = ends_wide n w beat.address (data_beats beat.size n) widget.a.done

  abbrev next : Widget → ABeat → ℕ
  next widget beat = number_after (data_beats beat.size n) widget.a.done

  abbrev mask_of : Widget → ABeat → ℕ
  mask_of widget beat = mask_out turns n w beat.address widget.a beat.mask

  abbrev data_of : Widget → ABeat → ℕ
  data_of widget beat = payload_out turns n w beat.address widget.a beat.payload

  abbrev active : ABeat → ℕ
  active beat = active_mask widths.below beat.size beat.address

  narrower : n < w
  narrower = pow_below buses.narrow buses.wide two.order

  -- the smaller of the two
  least : (widths_are : Bool) → min (if widths_are then n else w) (if widths_are then w else n) ≡ n
  least true = omega (arith, narrower)
  least false = omega (arith, narrower)

  facts : (widget : Widget) (beat : ABeat) (room : Bool) → (IsTrue (has_data beat.op) → widget.a.done < data_beats beat.size (min widths.above widths.below))
      → DownFacts turns (has_data beat.op) (ends widget beat) room (next widget beat) widget beat (mask_of widget beat) (data_of widget beat) (active beat) (made_down widths widget (Some beat) room)
  facts widget beat room left =
      subst (DownFacts turns (has_data beat.op) (ends widget beat) room (next widget beat) widget beat (mask_of widget beat) (data_of widget beat) (active beat))
      (sym (ap (option_and_then (with_room room)) (down_is turns n w widths widget beat narrower refl refl left)))
      (down_facts turns (has_data beat.op) (ends widget beat) room (next widget beat) widget beat (mask_of widget beat) (data_of widget beat) (active beat))

  -- what the wires tell of a head
  record Told (v : ℕ → ℕ) (widget : Widget) (beat : ABeat) : Type 0 where
    row : wire_values v above.head ≡ a_fields beat
    turn : TurnTold turns true (high v below.ready) (has_data beat.op) (ends widget beat) (lane_number n w beat.address widget.a.done) (next widget beat) widget.a.done c.turn v
    loaded : high v c.head.loaded ≡ has_data beat.op
    mask : v c.mask.lanes.number ≡ mask_of widget beat
    payload : v c.payload.lanes.number ≡ data_of widget beat
    mask_put : v c.lanes.mask.number ≡ (if has_data beat.op then mask_of widget beat else active beat)
    payload_put : v c.lanes.payload.number ≡ (if has_data beat.op then data_of widget beat else 0)
    begun : high v c.begins ≡ (made_where turns true (high v below.ready) (not (has_data beat.op) || ends widget beat) && (not (has_data beat.op) || (widget.a.done == 0)))

  told : (v : ℕ → ℕ) (widget : Widget) (beat : ABeat) → Solves b v → HoldSide r.side widget.a v → SeesRequest widths above widget (Some beat) v → Told v widget beat
  told v widget beat s o q =
      let shown = shown_some (high v above.valid) (wire_values v above.head) (a_fields beat) q.seen in
      let row : wire_values v above.head ≡ a_fields beat = shown.1 in
      let small : beat.size ≤ 8 = (q.placed beat refl).size in
      let loaded = h.head.loaded v beat s row in
      let es = h.head.size v beat row in
      let ea = h.head.address v beat row in
      let left = λ (t : has_data beat.op ≡ true). subst (λ (x : ℕ). widget.a.done < data_beats beat.size x) (least turns) (q.left beat refl t) in
      let t = turn_told b buses turns c.head done c.turn h.turn v true (high v below.ready) (has_data beat.op) beat.size beat.address widget.a.done s
      (ap (high v) h.head.valid ∙ shown.0) (ap (high v) h.head.room) loaded es small ea o.done left in
      let mask : v c.mask.lanes.number ≡ mask_of widget beat =
      (h.mask no_wire).lanes v widget.a.mask s o.mask
      ∙ ap (λ (x : ℕ). lanes_turned turns n x widget.a.mask (v (get_or above.head 5 no_wire).number)) t.lane_is
      ∙ ap (lanes_turned turns n (lane_number n w beat.address widget.a.done) widget.a.mask) (value_at v above.head 5 (a_fields beat) no_wire row (omega arith)) in
      let payload : v c.payload.lanes.number ≡ data_of widget beat =
      (h.payload no_wire).lanes v widget.a.payload s o.payload
      ∙ ap (λ (x : ℕ). lanes_turned turns (8 * n) x widget.a.payload (v (get_or above.head 6 no_wire).number)) t.lane_is
      ∙ ap (lanes_turned turns (8 * n) (lane_number n w beat.address widget.a.done) widget.a.payload) (value_at v above.head 6 (a_fields beat) no_wire row (omega arith)) in
      let small_wire : v c.head.size.number ≤ 8 = subst (λ (x : ℕ). x ≤ 8) (sym es) small in
      let aligned : v c.head.address.number % 2 ^ v c.head.size.number ≡ 0 = ap (λ (x : ℕ). x % 2 ^ v c.head.size.number) ea ∙ ap (λ (x : ℕ). beat.address % 2 ^ x) es ∙ (q.placed beat refl).address in
      record {
        row = row;
        turn = t;
        loaded = loaded;
        mask = mask;
        payload = payload;
        mask_put =
            h.lanes.mask_put v s small_wire aligned
            ∙ ap (λ (x : Bool). if x then v c.mask.lanes.number else active_mask widths.below (v c.head.size.number) (v c.head.address.number)) loaded
            ∙ ap (λ (x : ℕ). if has_data beat.op then x else active_mask widths.below (v c.head.size.number) (v c.head.address.number)) mask
            ∙ ap (λ (x : ℕ). if has_data beat.op then mask_of widget beat else active_mask widths.below x (v c.head.address.number)) es
            ∙ ap (λ (x : ℕ). if has_data beat.op then mask_of widget beat else active_mask widths.below beat.size x) ea;
        payload_put =
            h.lanes.payload_put v s
            ∙ ap (λ (x : Bool). if x then v c.payload.lanes.number else 0) loaded
            ∙ ap (λ (x : ℕ). if has_data beat.op then x else 0) payload;
        begun =
            h.begins.at v s
            ∙ ap (λ (x : Bool). x && (not (high v c.head.loaded) || (v done.number == 0))) t.made
            ∙ ap (λ (x : Bool). made_where turns true (high v below.ready) (not (has_data beat.op) || ends widget beat) && (not x || (v done.number == 0))) loaded
            ∙ ap (λ (x : ℕ). made_where turns true (high v below.ready) (not (has_data beat.op) || ends widget beat) && (not (has_data beat.op) || (x == 0))) o.done;
      }

  idle_at : (v : ℕ → ℕ) (widget : Widget) → Solves b v → SeesRequest widths above widget None v → Idle b buses turns c.head done c.turn h.turn v
  idle_at v widget s q = turn_idle b buses turns c.head done c.turn h.turn v s (ap (high v) h.head.valid ∙ shown_none (high v above.valid) (wire_values v above.head) q.seen)

  takes : (v : ℕ → ℕ) (widget : Widget) (head : Option ABeat) → Solves b v → HoldSide r.side widget.a v → SeesRequest widths above widget head v
      → high v c.turn.flow.take ≡ taken_by (made_down widths widget head (high v below.ready))
  takes v widget None s o q = (idle_at v widget s q).take
  takes v widget (Some beat) s o q = (told v widget beat s o q).turn.take ∙ sym (facts widget beat (high v below.ready) (q.left beat refl)).taken

  puts : (v : ℕ → ℕ) (widget : Widget) (head : Option ABeat) → Solves b v → HoldSide r.side widget.a v → SeesRequest widths above widget head v
      → ((beat : ABeat) → put_by (made_down widths widget head (high v below.ready)) ≡ Some beat → FitWires (a_fields beat) (row_widths below.head))
      → put_told v c.put ≡ option_map a_fields (put_by (made_down widths widget head (high v below.ready)))
  puts v widget None s o q f = ap (λ (x : Bool). cond x (Some (wire_values v c.put.items)) None) (ap (high v) h.valid ∙ (idle_at v widget s q).put)
  puts v widget (Some beat) s o q f =
      let t = told v widget beat s o q in
      let loaded = has_data beat.op in
      let m = if loaded then mask_of widget beat else active beat in
      let p = if loaded then data_of widget beat else 0 in
      let goes = put_where turns true (high v below.ready) (not loaded || ends widget beat) in
      let is = (facts widget beat (high v below.ready) (q.left beat refl)).put in
      let same : wire_values v (with_request_lanes above.head c.lanes) ≡ a_fields (with_a_lanes m p beat) =
      values_set v (slice_set above.head 5 c.lanes.mask) 6 c.lanes.payload
      ∙ ap (λ (xs : List ℕ). slice_set xs 6 (v c.lanes.payload.number)) (values_set v above.head 5 c.lanes.mask)
      ∙ ap (λ (xs : List ℕ). slice_set (slice_set xs 5 (v c.lanes.mask.number)) 6 (v c.lanes.payload.number)) t.row
      ∙ ap (λ (x : ℕ). slice_set (slice_set (a_fields beat) 5 x) 6 (v c.lanes.payload.number)) t.mask_put
      ∙ ap (λ (x : ℕ). slice_set (slice_set (a_fields beat) 5 m) 6 x) t.payload_put in
      put_same (high v c.put.valid) goes (wire_values v c.put.items) (a_fields (with_a_lanes m p beat)) (ap (high v) h.valid ∙ t.turn.put)
      (λ g. h.keeps.at v s (subst (λ xs. FitWires xs (row_widths below.head)) (sym same) (f (with_a_lanes m p beat) (is ∙ ap (λ (x : Bool). cond x (Some (with_a_lanes m p beat)) None) g))) ∙ same)
      ∙ sym (ap (option_map a_fields) is ∙ cond_map a_fields goes (with_a_lanes m p beat))

  keeps : (v : ℕ → ℕ) (widget : Widget) (head : Option ABeat) → Solves b v → HoldSide r.side widget.a v → SeesRequest widths above widget head v
      → (state_by widget (made_down widths widget head (high v below.ready))).kept
      ≡ (if high v c.begins then slice_set widget.kept (field_at above 3 v) (Some (field_at above 4 v % most_lanes)) else widget.kept)
  keeps v widget None s o q =
      sym (ap (λ (x : Bool). if x then slice_set widget.kept (field_at above 3 v) (Some (field_at above 4 v % most_lanes)) else widget.kept)
      (h.begins.at v s ∙ ap (λ (x : Bool). x && (not (high v c.head.loaded) || (v done.number == 0))) (idle_at v widget s q).made))
  keeps v widget (Some beat) s o q =
      let t = told v widget beat s o q in
      let goes = made_where turns true (high v below.ready) (not (has_data beat.op) || ends widget beat) && (not (has_data beat.op) || (widget.a.done == 0)) in
      (facts widget beat (high v below.ready) (q.left beat refl)).kept
      ∙ sym (ap (λ (x : Bool). if x then slice_set widget.kept (field_at above 3 v) (Some (field_at above 4 v % most_lanes)) else widget.kept) t.begun
      ∙ ap (λ (xs : List ℕ). if goes then slice_set widget.kept (get_or xs 3 0) (Some (get_or xs 4 0 % most_lanes)) else widget.kept) t.row)

  other : (v : ℕ → ℕ) (widget : Widget) (head : Option ABeat) → Solves b v → HoldSide r.side widget.a v → SeesRequest widths above widget head v
      → (state_by widget (made_down widths widget head (high v below.ready))).d ≡ widget.d
  other v widget None s o q = refl
  other v widget (Some beat) s o q = (facts widget beat (high v below.ready) (q.left beat refl)).d

  nexts : (v u : ℕ → ℕ) (widget : Widget) (head : Option ABeat) → Solves b v → Ticks b v u → (v 0 == 1) ≡ false → HoldSide r.side widget.a v → SeesRequest widths above widget head v
      → HoldSide r.side (state_by widget (made_down widths widget head (high v below.ready))).a u
  nexts v u widget None s q z o e =
      let i = idle_at v widget s e in
      record {
        done = k.at v u s q z ∙ i.next ∙ o.done;
        mask =
            held_idle u turns (high v c.turn.counted.ends) c.mask.held widget.a.mask (v c.mask.lanes.number)
            (subst (λ (x : Bool). HeldAt u c.mask.held (held_after turns x (high v c.turn.counted.ends) widget.a.mask (v c.mask.lanes.number))) i.moves ((h.mask no_wire).nexts v u widget.a.mask s q z o.mask));
        payload =
            held_idle u turns (high v c.turn.counted.ends) c.payload.held widget.a.payload (v c.payload.lanes.number)
            (subst (λ (x : Bool). HeldAt u c.payload.held (held_after turns x (high v c.turn.counted.ends) widget.a.payload (v c.payload.lanes.number))) i.moves ((h.payload no_wire).nexts v u widget.a.payload s q z o.payload));
      }
  nexts v u widget (Some beat) s q z o e =
      let t = told v widget beat s o e in
      let f = facts widget beat (high v below.ready) (e.left beat refl) in
      let moves = made_where turns true (high v below.ready) (not (has_data beat.op) || ends widget beat) && has_data beat.op in
      record {
        done = k.at v u s q z ∙ t.turn.next_is ∙ sym f.done;
        mask =
            subst (HeldAt u c.mask.held)
            (ap (λ (x : Bool). held_after turns x (high v c.turn.counted.ends) widget.a.mask (v c.mask.lanes.number)) t.turn.moves
            ∙ ap (λ (x : Bool). held_after turns moves x widget.a.mask (v c.mask.lanes.number)) t.turn.ends_are
            ∙ ap (held_after turns moves (ends widget beat) widget.a.mask) t.mask
            ∙ sym f.mask)
            ((h.mask no_wire).nexts v u widget.a.mask s q z o.mask);
        payload =
            subst (HeldAt u c.payload.held)
            (ap (λ (x : Bool). held_after turns x (high v c.turn.counted.ends) widget.a.payload (v c.payload.lanes.number)) t.turn.moves
            ∙ ap (λ (x : Bool). held_after turns moves x widget.a.payload (v c.payload.lanes.number)) t.turn.ends_are
            ∙ ap (held_after turns moves (ends widget beat) widget.a.payload) t.payload
            ∙ sym f.payload)
            ((h.payload no_wire).nexts v u widget.a.payload s q z o.payload);
      }

  pub are_requests : AreRequestsTurned b widths above below r
  are_requests = record {
    starts = λ v a. record { done = zero_at v a; mask = (h.mask no_wire).starts v a; payload = (h.payload no_wire).starts v a };
    takes = takes;
    puts = puts;
    keeps = keeps;
    other = other;
    nexts = nexts;
  }
