-- What the wires of a turn tell of a head, and where there is none.
use Rattle.std.proofs.Common.{◌≡◌, ℕ, ◌+◌, ◌-◌, ◌*◌, ◌/◌, ◌%◌, ◌^◌, ◌<◌, ◌≤◌, Bool, true, false, not, ◌&&◌, ◌||◌, Option, Some, None, refl, sym, ap, ◌∙◌, subst, if◌then◌else◌}
use Rattle.std.specs.Prelude.{◌==◌}
use Rattle.tl_edge.specs.Beats.{data_beats}
use Rattle.flow_core.specs.Turning.{ends_wide, number_after}
use Rattle.net_build.specs.declared.types.Wire.{Wire}
use Rattle.net_build.specs.Built.{Built}
use Rattle.net_build.specs.Values.{Solves, high}
use Rattle.net_lanes.specs.declared.places.Buses.{Buses}
use Rattle.net_turns.specs.declared.types.Head.{Head}
use Rattle.net_turns.specs.declared.types.Turn.{Turn}
use Rattle.net_turns.specs.Turns.{HeldAt, IsTurn, held_after, made_where, put_where, taken_where}
use Rattle.net_sides.proofs.Meant.{lane_number}

pub record TurnTold (turns valid room loaded ends : Bool) (lane next k : ℕ) (t : Turn) (v : ℕ → ℕ) : Type 0 where
  pub ends_are : high v t.counted.ends ≡ ends
  pub made : high v t.flow.made ≡ made_where turns valid room (not loaded || ends)
  pub take : high v t.flow.take ≡ taken_where turns valid room (not loaded || ends)
  pub put : high v t.flow.put ≡ put_where turns valid room (not loaded || ends)
  pub moves : high v t.moves ≡ (made_where turns valid room (not loaded || ends) && loaded)
  pub lane_is : v t.counted.lane.number ≡ lane
  pub next_is : v t.next.number ≡ (if made_where turns valid room (not loaded || ends) && loaded then next else k)

and_false : (x : Bool) → (x && false) ≡ false
and_false true = refl
and_false false = refl

module _ (b : Built) (buses : Buses) (turns : Bool) (h : Head) (done : Wire) (t : Turn) (i : IsTurn b buses turns h done t) where
  pub turn_told : (v : ℕ → ℕ) (valid room loaded : Bool) (size address k : ℕ) → Solves b v → high v h.valid ≡ valid → high v h.room ≡ room → high v h.loaded ≡ loaded
      → v h.size.number ≡ size → size ≤ 8 → v h.address.number ≡ address → v done.number ≡ k → (loaded ≡ true → k < data_beats size (2 ^ buses.narrow))
      → TurnTold turns valid room loaded (ends_wide (2 ^ buses.narrow) (2 ^ buses.wide) address (data_beats size (2 ^ buses.narrow)) k)
      (lane_number (2 ^ buses.narrow) (2 ^ buses.wide) address k) (number_after (data_beats size (2 ^ buses.narrow)) k) k t v
  turn_told v valid room loaded size address k s ev er el es small ea ek left =
      let n = 2 ^ buses.narrow in
      let w = 2 ^ buses.wide in
      let ends = ends_wide n w address (data_beats size n) k in
      let z : v h.size.number ≤ 8 = subst (λ (x : ℕ). x ≤ 8) (sym es) small in
      let e : high v t.counted.ends ≡ ends =
      i.counted.ends v s z
      ∙ ap (λ (x : ℕ). ends_wide n w x (data_beats (v h.size.number) n) (v done.number)) ea
      ∙ ap (λ (x : ℕ). ends_wide n w address (data_beats x n) (v done.number)) es
      ∙ ap (λ (x : ℕ). ends_wide n w address (data_beats size n) x) ek in
      let l : high v t.last ≡ (not loaded || ends) =
      i.last v s ∙ ap (λ (x : Bool). not x || high v t.counted.ends) el ∙ ap (λ (x : Bool). not loaded || x) e in
      let m : high v t.flow.made ≡ made_where turns valid room (not loaded || ends) =
      i.flow.made v s ∙ ap (λ (x : Bool). made_where turns x (high v h.room) (high v t.last)) ev ∙ ap (λ (x : Bool). made_where turns valid x (high v t.last)) er ∙ ap (made_where turns valid room) l in
      let mv : high v t.moves ≡ (made_where turns valid room (not loaded || ends) && loaded) =
      i.moves v s ∙ ap (λ (x : Bool). x && high v h.loaded) m ∙ ap (λ (x : Bool). made_where turns valid room (not loaded || ends) && x) el in
      record {
        ends_are = e;
        made = m;
        take = i.flow.take v s ∙ ap (λ (x : Bool). taken_where turns x (high v h.room) (high v t.last)) ev ∙ ap (λ (x : Bool). taken_where turns valid x (high v t.last)) er ∙ ap (taken_where turns valid room) l;
        put = i.flow.put v s ∙ ap (λ (x : Bool). put_where turns x (high v h.room) (high v t.last)) ev ∙ ap (λ (x : Bool). put_where turns valid x (high v t.last)) er ∙ ap (put_where turns valid room) l;
        moves = mv;
        lane_is = i.counted.lane v s ∙ ap (λ (x : ℕ). lane_number n w x (v done.number)) ea ∙ ap (lane_number n w address) ek;
        next_is =
            i.next v s
            ∙ ap (λ (x : Bool). if x then v t.counted.next.number else v done.number) mv
            ∙ ap (λ (x : ℕ). if made_where turns valid room (not loaded || ends) && loaded then v t.counted.next.number else x) ek
            ∙ at loaded refl (made_where turns valid room (not loaded || ends));
      }
    where
      at : (c : Bool) → loaded ≡ c → (x : Bool)
          → (if x && c then v t.counted.next.number else k) ≡ (if x && c then number_after (data_beats size (2 ^ buses.narrow)) k else k)
      at false e x = ap (λ (y : Bool). if y then v t.counted.next.number else k) (and_false x) ∙ sym (ap (λ (y : Bool). if y then number_after (data_beats size (2 ^ buses.narrow)) k else k) (and_false x))
      at true e x =
          let z : v h.size.number ≤ 8 = subst (λ (y : ℕ). y ≤ 8) (sym es) small in
          let d : v done.number < data_beats (v h.size.number) (2 ^ buses.narrow) =
          subst (λ (y : ℕ). y < data_beats (v h.size.number) (2 ^ buses.narrow)) (sym ek) (subst (λ (y : ℕ). k < data_beats y (2 ^ buses.narrow)) (sym es) (left e)) in
          ap (λ (y : ℕ). if x && true then y else k)
          (i.counted.next v s z d
          ∙ ap (λ (y : ℕ). number_after (data_beats y (2 ^ buses.narrow)) (v done.number)) es
          ∙ ap (λ (y : ℕ). number_after (data_beats size (2 ^ buses.narrow)) y) ek)

  -- ---- without a head

  none_made : (c room last : Bool) → made_where c false room last ≡ false
  none_made true room last = refl
  none_made false room last = refl

  none_taken : (c room last : Bool) → taken_where c false room last ≡ false
  none_taken true room last = refl
  none_taken false room last = refl

  none_put : (c room last : Bool) → put_where c false room last ≡ false
  none_put true room last = refl
  none_put false room last = refl

  pub record Idle (v : ℕ → ℕ) : Type 0 where
    pub made : high v t.flow.made ≡ false
    pub take : high v t.flow.take ≡ false
    pub put : high v t.flow.put ≡ false
    pub moves : high v t.moves ≡ false
    pub next : v t.next.number ≡ v done.number

  pub turn_idle : (v : ℕ → ℕ) → Solves b v → high v h.valid ≡ false → Idle v
  turn_idle v s ev =
      let m : high v t.flow.made ≡ false = i.flow.made v s ∙ ap (λ (x : Bool). made_where turns x (high v h.room) (high v t.last)) ev ∙ none_made turns (high v h.room) (high v t.last) in
      let mv : high v t.moves ≡ false = i.moves v s ∙ ap (λ (x : Bool). x && high v h.loaded) m in
      record {
        made = m;
        take = i.flow.take v s ∙ ap (λ (x : Bool). taken_where turns x (high v h.room) (high v t.last)) ev ∙ none_taken turns (high v h.room) (high v t.last);
        put = i.flow.put v s ∙ ap (λ (x : Bool). put_where turns x (high v h.room) (high v t.last)) ev ∙ none_put turns (high v h.room) (high v t.last);
        moves = mv;
        next = i.next v s ∙ ap (λ (x : Bool). if x then v t.counted.next.number else v done.number) mv;
      }

-- nothing that is held changes
pub held_idle : (u : ℕ → ℕ) (turns ends : Bool) (held : Option Wire) (n lanes : ℕ) → HeldAt u held (held_after turns false ends n lanes) → HeldAt u held n
held_idle u true ends held n lanes h = h
held_idle u false ends held n lanes h = h
