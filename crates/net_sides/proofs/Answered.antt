-- The wires of channel D are channel D.
use Rattle.std.proofs.Common.{◌≡◌, ◌≢◌, ℕ, ◌+◌, ◌-◌, ◌*◌, ◌/◌, ◌%◌, ◌^◌, ◌<◌, ◌≤◌, Bool, true, false, not, ◌&&◌, ◌||◌, cond, List, [], ◌∷◌, length, Option, Some, None, is_some, get_or, refl, sym, ap, ◌∙◌, subst, arith, if◌then◌else◌}
use Rattle.std.specs.Prelude.{◌==◌, slice_set, min, IsTrue}
use Rattle.std.specs.Option.{option_and_then, option_map, unwrap_or}
use Rattle.std.proofs.lemmas.Nat.{pow_below}
use Rattle.tl_edge.specs.declared.beat.DBeat.{DBeat}
use Rattle.tl_edge.specs.Beats.{data_beats}
use Rattle.tl_edge.specs.Messages.{brings_data}
use Rattle.tl_edge.specs.Wires.{FitWires, d_fields}
use Rattle.flow_core.specs.Acts.{Act, with_d_lanes}
use Rattle.flow_core.specs.Leaves.{no_lanes}
use Rattle.flow_core.specs.Turning.{Widget, Widths, address_of, ends_wide, number_after}
use Rattle.net_build.specs.declared.types.Wire.{Wire}
use Rattle.net_build.specs.Bits.{wire_values}
use Rattle.net_build.specs.Built.{Built}
use Rattle.net_build.specs.Values.{AtStart, Becomes, Solves, Ticks, high}
use Rattle.net_lanes.specs.declared.kept.Kept.{Kept}
use Rattle.net_lanes.specs.declared.places.Buses.{Buses}
use Rattle.net_lanes.specs.Lanes.{AreTwo}
use Rattle.net_queue.specs.declared.types.Queue.{Queue}
use Rattle.net_queue.specs.Adapters.{put_by, state_by, taken_by, with_room}
use Rattle.net_queue.specs.Leaves.{put_told}
use Rattle.net_queue.specs.Rows.{row_widths}
use Rattle.net_turns.specs.Turns.{HeldAt, held_after, lanes_turned, made_where, put_where, taken_where}
use Rattle.net_sides.specs.declared.types.ResponseCycle.{ResponseCycle}
use Rattle.net_sides.specs.declared.types.Responses.{Responses}
use Rattle.net_sides.specs.Puts.{IsResponseCycle}
use Rattle.net_sides.specs.Sides.{AreResponsesTurned, HoldSide, SeesResponse, made_up, widths_up}
use Rattle.net_sides.proofs.Acted.{UpFacts, act_up, up_facts}
use Rattle.net_sides.proofs.Asked.{cond_map, put_same, shown_none, shown_some, value_at, values_set}
use Rattle.net_sides.proofs.Meant.{lane_number, mask_out, payload_out, up_is, up_none}
use Rattle.net_sides.proofs.Told.{Idle, TurnTold, held_idle, turn_idle, turn_told}

no_wire : Wire
no_wire = record { number = 0; width = 0 }

some_is : (o : Option ℕ) → is_some o ≡ true → o ≡ Some (unwrap_or o 0)
some_is None h = absurd (let z : false ≡ true = h in cc)
some_is (Some x) h = refl

none_is : (o : Option ℕ) → is_some o ≡ false → o ≡ None
none_is None h = refl
none_is (Some x) h = absurd (let z : true ≡ false = h in cc)

-- where a response may go on, and where it waits
goes_known : (loaded : Bool) (o : Option ℕ) → (not loaded || is_some o) ≡ true → loaded ≡ true → is_some o ≡ true
goes_known true o h e = h
goes_known false o h e = absurd (let z : false ≡ true = e in cc)

waits_loaded : (loaded : Bool) (o : Option ℕ) → (not loaded || is_some o) ≡ false → (loaded ≡ true) × (is_some o ≡ false)
waits_loaded true o h = (refl, h)
waits_loaded false o h = absurd (let z : true ≡ false = h in cc)

true_of : (b : Bool) → IsTrue b → b ≡ true
true_of b h = h

module _ (b : Built) (buses : Buses) (turns : Bool) (kept : Kept) (below above : Queue) (done : Wire) (c : ResponseCycle) (two : AreTwo buses) (h : IsResponseCycle b buses turns kept below above done c) (k : Becomes b done (λ v. v c.turn.next.number)) (zero_at : (v : ℕ → ℕ) → AtStart b v → v done.number ≡ 0) where
  abbrev n : ℕ
  n = 2 ^ buses.narrow

  abbrev w : ℕ
  w = 2 ^ buses.wide

  abbrev widths : Widths
  widths = widths_up buses turns

  abbrev r : Responses
  r = record { take = c.turn.flow.take; put = c.put; side = record { done = done; mask = None; payload = c.payload.held } }

  abbrev place : (ℕ → ℕ) → ℕ
  place v = v kept.address.number

  abbrev ends : (ℕ → ℕ) → Widget → DBeat → Bool
  ends v widget beat = ends_wide n w (place v) (data_beats beat.size n) widget.d.done

  abbrev next : Widget → DBeat → ℕ
  next widget beat = number_after (data_beats beat.size n) widget.d.done

  abbrev mask_of : (ℕ → ℕ) → Widget → DBeat → ℕ
  mask_of v widget beat = mask_out turns n w (place v) widget.d 0

  abbrev data_of : (ℕ → ℕ) → Widget → DBeat → ℕ
  data_of v widget beat = payload_out turns n w (place v) widget.d beat.payload

  -- whether a response may go on
  abbrev may : Widget → DBeat → Bool
  may widget beat = not (brings_data beat.op) || is_some (address_of widget.kept beat.source)

  narrower : n < w
  narrower = pow_below buses.narrow buses.wide two.order

  apart : (x : Bool) → (if x then w else n) ≢ (if x then n else w)
  apart true e = absurd (omega (arith, narrower, e))
  apart false e = absurd (omega (arith, narrower, e))

  least : (x : Bool) → min (if x then w else n) (if x then n else w) ≡ n
  least true = omega (arith, narrower)
  least false = omega (arith, narrower)

  facts : (v : ℕ → ℕ) (widget : Widget) (beat : DBeat) (room : Bool) → SeesResponse widths kept below widget (Some beat) v → may widget beat ≡ true
      → UpFacts turns (brings_data beat.op) (ends v widget beat) room (next widget beat) widget beat (mask_of v widget beat) (data_of v widget beat) (made_up widths widget (Some beat) room)
  facts v widget beat room q g =
      subst (UpFacts turns (brings_data beat.op) (ends v widget beat) room (next widget beat) widget beat (mask_of v widget beat) (data_of v widget beat))
      (sym (ap (option_and_then (with_room room)) (up_is turns n w (place v) widths widget beat narrower refl refl (q.left beat refl) address)))
      (up_facts turns (brings_data beat.op) (ends v widget beat) room (next widget beat) widget beat (mask_of v widget beat) (data_of v widget beat))
    where
      address : IsTrue (brings_data beat.op) → address_of widget.kept beat.source ≡ Some (place v)
      address t =
          let o = address_of widget.kept beat.source in
          let e : o ≡ Some (unwrap_or o 0) = some_is o (goes_known (brings_data beat.op) o g (true_of _ t)) in
          e ∙ ap Some (sym (q.address beat (unwrap_or o 0) refl e))

  waits : (widget : Widget) (beat : DBeat) (room : Bool) → may widget beat ≡ false → made_up widths widget (Some beat) room ≡ None
  waits widget beat room g =
      let l = waits_loaded (brings_data beat.op) (address_of widget.kept beat.source) g in
      ap (option_and_then (with_room room)) (up_none widths widget beat (apart turns) l.0 (none_is _ l.1))

  -- what the wires tell of a head
  record Told (v : ℕ → ℕ) (widget : Widget) (beat : DBeat) : Type 0 where
    row : wire_values v below.head ≡ d_fields beat
    turn : TurnTold turns true (high v above.ready) (brings_data beat.op) (ends v widget beat) (lane_number n w (place v) widget.d.done) (next widget beat) widget.d.done c.turn v
    payload : v c.payload.lanes.number ≡ data_of v widget beat
    payload_put : v c.lanes.number ≡ (if brings_data beat.op then data_of v widget beat else 0)

  loaded_at : (v : ℕ → ℕ) (widget : Widget) (beat : DBeat) → Solves b v → SeesResponse widths kept below widget (Some beat) v → high v c.head.loaded ≡ brings_data beat.op
  loaded_at v widget beat s q = h.head.loaded v beat s (shown_some (high v below.valid) (wire_values v below.head) (d_fields beat) q.seen).1

  valid_at : (v : ℕ → ℕ) (widget : Widget) (beat : DBeat) → Solves b v → SeesResponse widths kept below widget (Some beat) v → high v c.head.valid ≡ may widget beat
  valid_at v widget beat s q =
      h.head.valid v s
      ∙ ap (λ (x : Bool). x && (not (high v c.head.loaded) || high v kept.known)) (shown_some (high v below.valid) (wire_values v below.head) (d_fields beat) q.seen).0
      ∙ ap (λ (x : Bool). not x || high v kept.known) (loaded_at v widget beat s q)
      ∙ ap (λ (x : Bool). not (brings_data beat.op) || x) (q.known beat refl)

  told : (v : ℕ → ℕ) (widget : Widget) (beat : DBeat) → Solves b v → HoldSide r.side widget.d v → SeesResponse widths kept below widget (Some beat) v → may widget beat ≡ true → Told v widget beat
  told v widget beat s o q g =
      let row : wire_values v below.head ≡ d_fields beat = (shown_some (high v below.valid) (wire_values v below.head) (d_fields beat) q.seen).1 in
      let loaded = loaded_at v widget beat s q in
      let es = h.head.size v beat row in
      let ea : v c.head.address.number ≡ place v = ap (λ (x : Wire). v x.number) h.head.address in
      let left = λ (t : brings_data beat.op ≡ true). subst (λ (x : ℕ). widget.d.done < data_beats beat.size x) (least turns) (q.left beat refl t) in
      let t = turn_told b buses turns c.head done c.turn h.turn v true (high v above.ready) (brings_data beat.op) beat.size (place v) widget.d.done s
      (valid_at v widget beat s q ∙ g) (ap (high v) h.head.room) loaded es (q.size beat refl) ea o.done left in
      let payload : v c.payload.lanes.number ≡ data_of v widget beat =
      (h.payload no_wire).lanes v widget.d.payload s o.payload
      ∙ ap (λ (x : ℕ). lanes_turned turns (8 * n) x widget.d.payload (v (get_or below.head 4 no_wire).number)) t.lane_is
      ∙ ap (lanes_turned turns (8 * n) (lane_number n w (place v) widget.d.done) widget.d.payload) (value_at v below.head 4 (d_fields beat) no_wire row (omega arith)) in
      record {
        row = row;
        turn = t;
        payload = payload;
        payload_put =
            h.data_out v s
            ∙ ap (λ (x : Bool). if x then v c.payload.lanes.number else 0) loaded
            ∙ ap (λ (x : ℕ). if brings_data beat.op then x else 0) payload;
      }

  idle_none : (v : ℕ → ℕ) (widget : Widget) → Solves b v → SeesResponse widths kept below widget None v → Idle b buses turns c.head done c.turn h.turn v
  idle_none v widget s q =
      turn_idle b buses turns c.head done c.turn h.turn v s
      (h.head.valid v s ∙ ap (λ (x : Bool). x && (not (high v c.head.loaded) || high v kept.known)) (shown_none (high v below.valid) (wire_values v below.head) q.seen))

  idle_waits : (v : ℕ → ℕ) (widget : Widget) (beat : DBeat) → Solves b v → SeesResponse widths kept below widget (Some beat) v → may widget beat ≡ false → Idle b buses turns c.head done c.turn h.turn v
  idle_waits v widget beat s q g = turn_idle b buses turns c.head done c.turn h.turn v s (valid_at v widget beat s q ∙ g)

  takes : (v : ℕ → ℕ) (widget : Widget) (head : Option DBeat) → Solves b v → HoldSide r.side widget.d v → SeesResponse widths kept below widget head v
      → high v c.turn.flow.take ≡ taken_by (made_up widths widget head (high v above.ready))
  takes v widget None s o q = (idle_none v widget s q).take
  takes v widget (Some beat) s o q = at (may widget beat) refl
    where
      at : (g : Bool) → may widget beat ≡ g → high v c.turn.flow.take ≡ taken_by (made_up widths widget (Some beat) (high v above.ready))
      at true g = (told v widget beat s o q g).turn.take ∙ sym (facts v widget beat (high v above.ready) q g).taken
      at false g = (idle_waits v widget beat s q g).take ∙ sym (ap taken_by (waits widget beat (high v above.ready) g))

  nothing_put : (v : ℕ → ℕ) → high v c.turn.flow.put ≡ false → put_told v c.put ≡ None
  nothing_put v e = ap (λ (x : Bool). cond x (Some (wire_values v c.put.items)) None) (ap (high v) h.valid ∙ e)

  puts : (v : ℕ → ℕ) (widget : Widget) (head : Option DBeat) → Solves b v → HoldSide r.side widget.d v → SeesResponse widths kept below widget head v
      → ((beat : DBeat) → put_by (made_up widths widget head (high v above.ready)) ≡ Some beat → FitWires (d_fields beat) (row_widths above.head))
      → put_told v c.put ≡ option_map d_fields (put_by (made_up widths widget head (high v above.ready)))
  puts v widget None s o q f = nothing_put v (idle_none v widget s q).put
  puts v widget (Some beat) s o q f = at (may widget beat) refl
    where
      at : (g : Bool) → may widget beat ≡ g → put_told v c.put ≡ option_map d_fields (put_by (made_up widths widget (Some beat) (high v above.ready)))
      at false g = nothing_put v (idle_waits v widget beat s q g).put ∙ sym (ap (λ (m : Option (Act DBeat Widget)). option_map d_fields (put_by m)) (waits widget beat (high v above.ready) g))
      at true g =
          let t = told v widget beat s o q g in
          let p = if brings_data beat.op then data_of v widget beat else 0 in
          let goes = put_where turns true (high v above.ready) (not (brings_data beat.op) || ends v widget beat) in
          let is = (facts v widget beat (high v above.ready) q g).put in
          let same : wire_values v (slice_set below.head 4 c.lanes) ≡ d_fields (with_d_lanes p beat) =
          values_set v below.head 4 c.lanes
          ∙ ap (λ (xs : List ℕ). slice_set xs 4 (v c.lanes.number)) t.row
          ∙ ap (λ (x : ℕ). slice_set (d_fields beat) 4 x) t.payload_put in
          put_same (high v c.put.valid) goes (wire_values v c.put.items) (d_fields (with_d_lanes p beat)) (ap (high v) h.valid ∙ t.turn.put)
          (λ e. h.keeps.at v s (subst (λ xs. FitWires xs (row_widths above.head)) (sym same) (f (with_d_lanes p beat) (is ∙ ap (λ (x : Bool). cond x (Some (with_d_lanes p beat)) None) e))) ∙ same)
          ∙ sym (ap (option_map d_fields) is ∙ cond_map d_fields goes (with_d_lanes p beat))

  others : (v : ℕ → ℕ) (widget : Widget) (head : Option DBeat) → Solves b v → HoldSide r.side widget.d v → SeesResponse widths kept below widget head v
      → ((state_by widget (made_up widths widget head (high v above.ready))).kept ≡ widget.kept) × ((state_by widget (made_up widths widget head (high v above.ready))).a ≡ widget.a)
  others v widget None s o q = (refl, refl)
  others v widget (Some beat) s o q = at (may widget beat) refl
    where
      at : (g : Bool) → may widget beat ≡ g
          → ((state_by widget (made_up widths widget (Some beat) (high v above.ready))).kept ≡ widget.kept) × ((state_by widget (made_up widths widget (Some beat) (high v above.ready))).a ≡ widget.a)
      at true g = let f = facts v widget beat (high v above.ready) q g in (f.kept, f.a)
      at false g =
          let e = waits widget beat (high v above.ready) g in
          (ap (λ (m : Option (Act DBeat Widget)). (state_by widget m).kept) e, ap (λ (m : Option (Act DBeat Widget)). (state_by widget m).a) e)

  stays : (v u : ℕ → ℕ) (widget : Widget) → Solves b v → Ticks b v u → (v 0 == 1) ≡ false → HoldSide r.side widget.d v → Idle b buses turns c.head done c.turn h.turn v → HoldSide r.side widget.d u
  stays v u widget s q z o i = record {
    done = k.at v u s q z ∙ i.next ∙ o.done;
    mask = tt;
    payload =
        held_idle u turns (high v c.turn.counted.ends) c.payload.held widget.d.payload (v c.payload.lanes.number)
        (subst (λ (x : Bool). HeldAt u c.payload.held (held_after turns x (high v c.turn.counted.ends) widget.d.payload (v c.payload.lanes.number))) i.moves ((h.payload no_wire).nexts v u widget.d.payload s q z o.payload));
  }

  nexts : (v u : ℕ → ℕ) (widget : Widget) (head : Option DBeat) → Solves b v → Ticks b v u → (v 0 == 1) ≡ false → HoldSide r.side widget.d v → SeesResponse widths kept below widget head v
      → HoldSide r.side (state_by widget (made_up widths widget head (high v above.ready))).d u
  nexts v u widget None s q z o e = stays v u widget s q z o (idle_none v widget s e)
  nexts v u widget (Some beat) s q z o e = at (may widget beat) refl
    where
      at : (g : Bool) → may widget beat ≡ g → HoldSide r.side (state_by widget (made_up widths widget (Some beat) (high v above.ready))).d u
      at false g =
          subst (λ (m : Option (Act DBeat Widget)). HoldSide r.side (state_by widget m).d u) (sym (waits widget beat (high v above.ready) g))
          (stays v u widget s q z o (idle_waits v widget beat s e g))
      at true g =
          let t = told v widget beat s o e g in
          let f = facts v widget beat (high v above.ready) e g in
          let moves = made_where turns true (high v above.ready) (not (brings_data beat.op) || ends v widget beat) && brings_data beat.op in
          record {
            done = k.at v u s q z ∙ t.turn.next_is ∙ sym f.done;
            mask = tt;
            payload =
                subst (HeldAt u c.payload.held)
                (ap (λ (x : Bool). held_after turns x (high v c.turn.counted.ends) widget.d.payload (v c.payload.lanes.number)) t.turn.moves
                ∙ ap (λ (x : Bool). held_after turns moves x widget.d.payload (v c.payload.lanes.number)) t.turn.ends_are
                ∙ ap (held_after turns moves (ends v widget beat) widget.d.payload) t.payload
                ∙ sym f.payload)
                ((h.payload no_wire).nexts v u widget.d.payload s q z o.payload);
          }

  pub are_responses : AreResponsesTurned b widths kept below above r
  are_responses = record {
    starts = λ v a. record { done = zero_at v a; mask = tt; payload = (h.payload no_wire).starts v a };
    takes = takes;
    puts = puts;
    others = others;
    nexts = nexts;
  }
