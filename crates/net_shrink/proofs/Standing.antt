-- The wires of a shrinker are the shrinker.
use Rattle.std.proofs.Common.{◌≡◌, ℕ, ◌≤◌, Bool, true, false, ◌&&◌, cond, List, [], ◌∷◌, length, map, Option, Some, None, get_or, refl, sym, ap, ◌∙◌, subst, replicate}
use Rattle.std.specs.Prelude.{◌==◌, slice_set}
use Rattle.std.specs.Option.{option_map}
use Rattle.std.proofs.lemmas.List.{length-map}
use Rattle.tl_edge.specs.declared.beat.ABeat.{ABeat}
use Rattle.tl_edge.specs.declared.beat.DBeat.{DBeat}
use Rattle.tl_edge.specs.declared.plan.Plan.{Plan}
use Rattle.tl_edge.specs.Wires.{FitWires, a_fields, d_fields}
use Rattle.flow_core.specs.Acts.{with_a_id, with_d_id}
use Rattle.flow_core.specs.Leaves.{LeafState}
use Rattle.flow_core.specs.Leaves.LeafState.{ShrinkerState}
use Rattle.flow_core.specs.Network.{network_at_start}
use Rattle.flow_core.specs.Turns.{leaf_state}
use Rattle.net_build.specs.declared.types.Wire.{Wire}
use Rattle.net_build.specs.Bits.{wire_values}
use Rattle.net_build.specs.Built.{Built}
use Rattle.net_build.specs.Values.{AtStart, Solves, Ticks, high}
use Rattle.net_queue.specs.declared.types.EdgeWires.{EdgeWires}
use Rattle.net_queue.specs.Adapters.{put_by}
use Rattle.net_queue.specs.Leaves.{Done, IsLeaf, LeafView, View, done_at, done_fields, view_at, view_fields}
use Rattle.net_queue.specs.Queues.{shown_at}
use Rattle.net_queue.specs.Rows.{row_widths}
use Rattle.net_queue.proofs.Relations.{machine_of}
use Rattle.net_buffer.proofs.Passing.{wires_of}
use Rattle.net_slots.specs.Slots.{left_then, slot_id, slots_after}
use Rattle.net_slots.specs.SlotWires.{slot_side, slot_sight}
use Rattle.net_shrink.specs.declared.types.Shrunk.{Shrunk}
use Rattle.net_shrink.specs.Between.{IsShrunk}
use Rattle.net_shrink.specs.Shrinkers.{FitsShrinker, shrinker_machine}
use Rattle.net_shrink.proofs.Entries.{all_free}
use Rattle.net_shrink.proofs.Acting.{after_ask, after_free, leaf_of, may_go}
use Rattle.net_shrink.proofs.Whole.{AnswerSeen, AskSeen, IsAnswered, act_down, act_up, after_is, down_puts, down_takes, up_puts, up_takes}

-- ---- lists of one

head_of : {A C : Type 0} (f : A → C) (y : C) (xs : List A) (d : A) → y ∷ [] ≡ map f xs → y ≡ f (get_or xs 0 d)
head_of f y [] d e = absurd cc
head_of f y (x ∷ xs) d e = cc

room_of : (y : Bool) (xs : List Bool) → y ∷ [] ≡ xs → y ≡ get_or xs 0 false
room_of y xs e = ap (λ (zs : List Bool). get_or zs 0 false) e

abbrev done : List Bool → List (Option (List ℕ)) → List Bool → List (Option (List ℕ)) → Done (List ℕ) (List ℕ)
done take_a put_d take_d put_a = record { take_a = take_a; put_d = put_d; take_d = take_d; put_a = put_a }

same_done : (a e : Bool) (b f : Option (List ℕ)) (c g : Bool) (d h : Option (List ℕ)) → a ≡ e → b ≡ f → c ≡ g → d ≡ h → done (a ∷ []) (b ∷ []) (c ∷ []) (d ∷ []) ≡ done (e ∷ []) (f ∷ []) (g ∷ []) (h ∷ [])
same_done a e b f c g d h p q r s = ap (λ x. done (x ∷ []) (b ∷ []) (c ∷ []) (d ∷ [])) p ∙ ap (λ x. done (e ∷ []) (x ∷ []) (c ∷ []) (d ∷ [])) q ∙ ap (λ x. done (e ∷ []) (f ∷ []) (x ∷ []) (d ∷ [])) r ∙ ap (λ x. done (e ∷ []) (f ∷ []) (g ∷ []) (x ∷ [])) s

some_same : {A : Type 0} (x y : A) → Some x ≡ Some y → x ≡ y
some_same x y e = cc

-- a head that is shown
shown_none : (valid : Bool) (row : List ℕ) → cond valid (Some row) None ≡ None → valid ≡ false
shown_none true row e = absurd (let x : Some row ≡ None = e in cc)
shown_none false row e = refl

shown_some : (valid : Bool) (row fields : List ℕ) → cond valid (Some row) None ≡ Some fields → (valid ≡ true) × (row ≡ fields)
shown_some true row fields e = (refl, some_same row fields e)
shown_some false row fields e = absurd (let x : None ≡ Some fields = e in cc)

-- what is put
put_same : (p q : Bool) (items fields : List ℕ) → p ≡ q → (q ≡ true → items ≡ fields) → cond p (Some items) None ≡ cond q (Some fields) None
put_same p true items fields e h = ap (λ b. cond b (Some items) None) e ∙ ap Some (h refl)
put_same p false items fields e h = ap (λ b. cond b (Some items) None) e

cond_map : {A C : Type 0} (f : A → C) (p : Bool) (y : A) → option_map f (cond p (Some y) None) ≡ cond p (Some (f y)) None
cond_map f true y = refl
cond_map f false y = refl

-- ---- the leaf

-- what is put fits these widths
pub record PutsFitRows (plan : Plan) (leaf : ℕ) (wide_a wide_d : List ℕ) (s : LeafState) (x : LeafView) : Type 0 where
  pub down : (beat : ABeat) → get_or ((shrinker_machine plan leaf).does s x).put_a 0 None ≡ Some beat → FitWires (a_fields beat) wide_a
  pub up : (beat : DBeat) → get_or ((shrinker_machine plan leaf).does s x).put_d 0 None ≡ Some beat → FitWires (d_fields beat) wide_d

module _ (b : Built) (plan : Plan) (leaf count bus : ℕ) (above below : EdgeWires) (s : Shrunk) (h : IsShrunk b count bus above below s) where
  long : (v : ℕ → ℕ) → length (slot_side v s.slots).olds ≡ length (slot_side v s.slots).taken
  long v = length-map s.slots.olds (λ (w : Wire). v w.number) ∙ h.slots.olds_long ∙ sym h.slots.taken_long ∙ sym (length-map s.slots.taken (λ (w : Wire). v w.number))

  ask_seen : (v : ℕ → ℕ) (head : Option ABeat) (room : Bool) → Solves b v → cond (high v above.a.valid) (Some (wire_values v above.a.head)) None ≡ option_map a_fields head → high v below.a.ready ≡ room
      → ((beat : ABeat) → head ≡ Some beat → beat.size ≤ 8) → AskSeen bus head room (high v s.moves.wants) (v s.moves.old.number) (v s.moves.rest.number)
  ask_seen v None room q e r small = h.asked.wants v q ∙ ap (λ x. x && high v below.a.ready) (shown_none (high v above.a.valid) (wire_values v above.a.head) e)
  ask_seen v (Some beat) room q e r small =
      let o = shown_some (high v above.a.valid) (wire_values v above.a.head) (a_fields beat) e in (
        h.asked.wants v q ∙ ap (λ x. x && high v below.a.ready) o.0 ∙ r,
        h.asked.old v ∙ ap (λ (xs : List ℕ). get_or xs 3 0) o.1,
        h.asked.rest v beat q o.1 (small beat refl),
      )

  answer_seen : (v : ℕ → ℕ) (head : Option DBeat) (room : Bool) → Solves b v → cond (high v below.d.valid) (Some (wire_values v below.d.head)) None ≡ option_map d_fields head → high v above.d.ready ≡ room
      → ((beat : DBeat) → head ≡ Some beat → beat.size ≤ 8) → AnswerSeen bus head room (high v s.answering.goes) (v s.moves.new.number) (v s.answering.rest.number)
  answer_seen v None room q e r small = h.answering.goes v q ∙ ap (λ x. x && high v above.d.ready) (shown_none (high v below.d.valid) (wire_values v below.d.head) e)
  answer_seen v (Some beat) room q e r small =
      let o = shown_some (high v below.d.valid) (wire_values v below.d.head) (d_fields beat) e in (
        h.answering.goes v q ∙ ap (λ x. x && high v above.d.ready) o.0 ∙ r,
        h.asked.new v ∙ ap (λ (xs : List ℕ). get_or xs 2 0) o.1,
        h.answering.rest v beat q o.1 (small beat refl),
      )

  -- what is put to the requests
  puts_down : (v : ℕ → ℕ) (head : Option ABeat) (room : Bool) → Solves b v → cond (high v above.a.valid) (Some (wire_values v above.a.head)) None ≡ option_map a_fields head
      → AskSeen bus head room (high v s.moves.wants) (v s.moves.old.number) (v s.moves.rest.number)
      → ((beat : ABeat) → put_by (act_down bus (slot_side v s.slots) (v s.answering.left.number) head room) ≡ Some beat → FitWires (a_fields beat) (row_widths below.a.head))
      → cond (high v s.down.valid) (Some (wire_values v s.down.items)) None ≡ option_map a_fields (put_by (act_down bus (slot_side v s.slots) (v s.answering.left.number) head room))
  puts_down v None room q e k f = ap (λ x. cond x (Some (wire_values v s.down.items)) None) (h.passes v q ∙ ap (λ w. w && may_go (slot_side v s.slots)) k)
  puts_down v (Some beat) room q e k f =
      let o = shown_some (high v above.a.valid) (wire_values v above.a.head) (a_fields beat) e in
      let now = slot_side v s.slots in
      let p = high v s.moves.wants && may_go now in
      let is = down_puts bus (v s.answering.left.number) now beat room (high v s.moves.wants) (v s.moves.old.number) (v s.moves.rest.number) (long v) k in
      let same : slice_set (wire_values v above.a.head) 3 (slot_id now) ≡ a_fields (with_a_id (slot_id now) beat) = ap (λ (xs : List ℕ). slice_set xs 3 (slot_id now)) o.1 in
      put_same (high v s.down.valid) p (wire_values v s.down.items) (a_fields (with_a_id (slot_id now) beat)) (h.passes v q)
      (λ t. h.requests v q (subst (λ xs. FitWires xs (row_widths below.a.head)) (sym same) (f (with_a_id (slot_id now) beat) (is ∙ ap (λ x. cond x (Some (with_a_id (slot_id now) beat)) None) t))) ∙ same)
      ∙ sym (ap (option_map a_fields) is ∙ cond_map a_fields p (with_a_id (slot_id now) beat))

  puts_up : (v : ℕ → ℕ) (head : Option DBeat) (room : Bool) → Solves b v → cond (high v below.d.valid) (Some (wire_values v below.d.head)) None ≡ option_map d_fields head
      → AnswerSeen bus head room (high v s.answering.goes) (v s.moves.new.number) (v s.answering.rest.number) → IsAnswered (slot_side v s.slots) head
      → ((beat : DBeat) → put_by (act_up bus (slot_side v s.slots) (v s.answering.left.number) head room) ≡ Some beat → FitWires (d_fields beat) (row_widths above.d.head))
      → cond (high v s.up.valid) (Some (wire_values v s.up.items)) None ≡ option_map d_fields (put_by (act_up bus (slot_side v s.slots) (v s.answering.left.number) head room))
  puts_up v None room q e k a f = ap (λ x. cond x (Some (wire_values v s.up.items)) None) (ap (high v) h.goes ∙ k)
  puts_up v (Some beat) room q e k a f =
      let o = shown_some (high v below.d.valid) (wire_values v below.d.head) (d_fields beat) e in
      let now = slot_side v s.slots in
      let p = high v s.answering.goes in
      let old = get_or now.olds (v s.moves.new.number) 0 in
      let is = up_puts bus (v s.answering.left.number) now beat room p (v s.moves.new.number) (v s.answering.rest.number) (long v) k a in
      let same : slice_set (wire_values v below.d.head) 2 old ≡ d_fields (with_d_id old beat) = ap (λ (xs : List ℕ). slice_set xs 2 old) o.1 in
      put_same (high v s.up.valid) p (wire_values v s.up.items) (d_fields (with_d_id old beat)) (ap (high v) h.goes)
      (λ t. h.responses v q (subst (λ xs. FitWires xs (row_widths above.d.head)) (sym same) (f (with_d_id old beat) (is ∙ ap (λ x. cond x (Some (with_d_id old beat)) None) t))) ∙ same)
      ∙ sym (ap (option_map d_fields) is ∙ cond_map d_fields p (with_d_id old beat))

  -- ---- a cycle

  does_so : (v : ℕ → ℕ) (x : LeafView) → Solves b v → view_at (above ∷ []) (below ∷ []) v ≡ view_fields x
      → FitsShrinker plan leaf (leaf_of bus (slot_side v s.slots) (v s.answering.left.number)) x → PutsFitRows plan leaf (row_widths below.a.head) (row_widths above.d.head) (leaf_of bus (slot_side v s.slots) (v s.answering.left.number)) x
      → done_at (wires_of s.down s.up) v ≡ done_fields ((shrinker_machine plan leaf).does (leaf_of bus (slot_side v s.slots) (v s.answering.left.number)) x)
  does_so v x q e f p =
      let now = slot_side v s.slots in
      let n = v s.answering.left.number in
      let ha = head_of (option_map a_fields) (shown_at above.a v).head x.heads_a None (ap (λ (y : View (List ℕ) (List ℕ)). y.heads_a) e) in
      let rd = room_of (shown_at above.d v).room x.room_d (ap (λ (y : View (List ℕ) (List ℕ)). y.room_d) e) in
      let hd = head_of (option_map d_fields) (shown_at below.d v).head x.heads_d None (ap (λ (y : View (List ℕ) (List ℕ)). y.heads_d) e) in
      let ra = room_of (shown_at below.a v).room x.room_a (ap (λ (y : View (List ℕ) (List ℕ)). y.room_a) e) in
      let a = get_or x.heads_a 0 None in
      let d = get_or x.heads_d 0 None in
      let ks = ask_seen v a (get_or x.room_a 0 false) q ha ra f.request in
      let ku = answer_seen v d (get_or x.room_d 0 false) q hd rd f.response in
      let an : IsAnswered now d = λ beat z. f.answered bus _ beat refl z in
      same_done _ _ _ _ _ _ _ _
      (h.passes v q ∙ sym (down_takes bus n now a (get_or x.room_a 0 false) (high v s.moves.wants) (v s.moves.old.number) (v s.moves.rest.number) (long v) ks))
      (puts_up v d (get_or x.room_d 0 false) q hd ku an p.up)
      (ap (high v) h.goes ∙ sym (up_takes bus n now d (get_or x.room_d 0 false) (high v s.answering.goes) (v s.moves.new.number) (v s.answering.rest.number) (long v) ku an))
      (puts_down v a (get_or x.room_a 0 false) q ha ks p.down)

  goes_so : (v u : ℕ → ℕ) (x : LeafView) → Solves b v → Ticks b v u → (v 0 == 1) ≡ false → view_at (above ∷ []) (below ∷ []) v ≡ view_fields x
      → FitsShrinker plan leaf (leaf_of bus (slot_side v s.slots) (v s.answering.left.number)) x
      → (shrinker_machine plan leaf).after (leaf_of bus (slot_side v s.slots) (v s.answering.left.number)) x ≡ leaf_of bus (slot_side u s.slots) (u s.answering.left.number)
  goes_so v u x q t z e f =
      let now = slot_side v s.slots in
      let n = v s.answering.left.number in
      let go = high v s.answering.goes in
      let more = v s.answering.rest.number in
      let new = v s.moves.new.number in
      let ha = head_of (option_map a_fields) (shown_at above.a v).head x.heads_a None (ap (λ (y : View (List ℕ) (List ℕ)). y.heads_a) e) in
      let rd = room_of (shown_at above.d v).room x.room_d (ap (λ (y : View (List ℕ) (List ℕ)). y.room_d) e) in
      let hd = head_of (option_map d_fields) (shown_at below.d v).head x.heads_d None (ap (λ (y : View (List ℕ) (List ℕ)). y.heads_d) e) in
      let ra = room_of (shown_at below.a v).room x.room_a (ap (λ (y : View (List ℕ) (List ℕ)). y.room_a) e) in
      let a = get_or x.heads_a 0 None in
      let d = get_or x.heads_d 0 None in
      let ks = ask_seen v a (get_or x.room_a 0 false) q ha ra f.request in
      let ku = answer_seen v d (get_or x.room_d 0 false) q hd rd f.response in
      let an : IsAnswered now d = λ beat y. f.answered bus _ beat refl y in
      let asked = after_ask now (high v s.moves.wants && may_go now) (v s.moves.old.number) (v s.moves.rest.number) in
      let frees : (go && (left_then go n more == 0)) ≡ high v s.moves.frees = sym (ap (high v) h.asked.frees ∙ h.answering.frees v q) in
      after_is bus n now a d (get_or x.room_a 0 false) (get_or x.room_d 0 false) (high v s.moves.wants) go (v s.moves.old.number) (v s.moves.rest.number) new more (long v) ks ku an
      ∙ ap (λ c. leaf_of bus (after_free asked c new) (left_then go n more)) frees
      ∙ ap (λ k. leaf_of bus (slots_after now (slot_sight v s.moves)) k) (sym (h.answering.nexts v u q t z))
      ∙ ap (λ w. leaf_of bus w (u s.answering.left.number)) (sym (h.slots.nexts v u q t z))

  starts_so : (v : ℕ → ℕ) → AtStart b v → ShrinkerState bus (record { olds = replicate count None; asking = None; answering = 0 }) ≡ leaf_of bus (slot_side v s.slots) (v s.answering.left.number)
  starts_so v a =
      ap (λ xs. ShrinkerState bus (record { olds = xs; asking = None; answering = 0 })) (sym (all_free count))
      ∙ ap (λ w. leaf_of bus w 0) (sym (h.slots.starts v a))
      ∙ ap (λ k. leaf_of bus (slot_side v s.slots) k) (sym (h.answering.starts v a))

  pub is_shrinker : leaf_state (network_at_start plan) leaf ≡ ShrinkerState bus (record { olds = replicate count None; asking = None; answering = 0 })
      → ((its : LeafState) (x : LeafView) → FitsShrinker plan leaf its x → PutsFitRows plan leaf (row_widths below.a.head) (row_widths above.d.head) its x)
      → IsLeaf b (above ∷ []) (below ∷ []) (wires_of s.down s.up) (shrinker_machine plan leaf) (FitsShrinker plan leaf)
  is_shrinker idle fit =
      machine_of (shrinker_machine plan leaf) (FitsShrinker plan leaf) view_fields done_fields (view_at (above ∷ []) (below ∷ [])) (done_at (wires_of s.down s.up)) b (λ v its. its ≡ leaf_of bus (slot_side v s.slots) (v s.answering.left.number)) (record {
        starts = λ v a. idle ∙ starts_so v a;
        does = λ v its x q z k e f.
            subst (λ (its : LeafState). FitsShrinker plan leaf its x → done_at (wires_of s.down s.up) v ≡ done_fields ((shrinker_machine plan leaf).does its x)) (sym k)
            (λ g. does_so v x q e g (fit _ x g)) f;
        nexts = λ v u its x q t z k e f.
            subst (λ (its : LeafState). FitsShrinker plan leaf its x → (shrinker_machine plan leaf).after its x ≡ leaf_of bus (slot_side u s.slots) (u s.answering.left.number)) (sym k)
            (λ g. goes_so v u x q t z e g) f;
      })
