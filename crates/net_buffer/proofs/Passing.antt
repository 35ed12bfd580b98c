-- The wires of a buffer are the buffer.
use Rattle.std.proofs.Common.{◌≡◌, ℕ, Bool, true, false, ◌&&◌, cond, List, [], ◌∷◌, length, map, Option, Some, None, is_some, get_or, refl, sym, ap, ◌∙◌, subst, arith}
use Rattle.std.specs.Option.{option_map}
use Rattle.std.proofs.lemmas.Option.{get_or_from_slice_get, slice_get_within}
use Rattle.tl_params.specs.declared.ops.Template.{Template}
use Rattle.tl_params.specs.declared.ops.Template.TheVariants.{Buffer}
use Rattle.tl_edge.specs.declared.beat.ABeat.{ABeat}
use Rattle.tl_edge.specs.declared.beat.DBeat.{DBeat}
use Rattle.tl_edge.specs.declared.plan.Leaf.{Leaf}
use Rattle.tl_edge.specs.declared.plan.Plan.{Plan}
use Rattle.tl_edge.specs.SoundPlans.{HasShape, IsSound}
use Rattle.tl_edge.specs.Wires.{FitWires, a_fields, d_fields}
use Rattle.flow_core.specs.Acts.{Act, forwards}
use Rattle.flow_core.specs.Leaves.{LeafState}
use Rattle.flow_core.specs.Leaves.LeafState.{BufferState}
use Rattle.net_build.specs.Bits.{wire_values}
use Rattle.net_build.specs.Built.{Built}
use Rattle.net_build.specs.Values.{Solves, Tells, high}
use Rattle.net_queue.specs.declared.types.EdgeWires.{EdgeWires}
use Rattle.net_queue.specs.declared.types.LeafWires.{LeafWires}
use Rattle.net_queue.specs.declared.types.Put.{Put}
use Rattle.net_queue.specs.Adapters.{act_a, act_by, act_d, put_by, state_by, taken_by}
use Rattle.net_queue.specs.Leaves.{Done, IsLeaf, IsOfTemplate, LeafView, View, done_at, done_fields, ins_at, outs_at, view_at, view_fields}
use Rattle.net_queue.specs.Queues.{shown_at}
use Rattle.net_queue.specs.Rows.{KeepsRow, row_widths}
use Rattle.net_queue.proofs.Relations.{machine_of}
use Rattle.net_buffer.specs.Buffers.{BufferLaw, buffer_machine}

-- what a buffer_machine does on a channel
abbrev pub act_of : {B : Type 0} → Option B → Bool → Option (Act B LeafState)
act_of head room = act_by None (λ beat. Some (forwards beat BufferState)) head room

-- ---- its state

act_next : {B : Type 0} (head : Option B) (room : Bool) → state_by BufferState (act_of head room) ≡ BufferState
act_next None room = refl
act_next (Some beat) true = refl
act_next (Some beat) false = refl

next_by : (x : LeafView) (next : LeafState) (c : Bool) → next ≡ BufferState → cond c (state_by next (act_d next x)) next ≡ BufferState
next_by x next false e = e
next_by x next true e = subst (λ (s : LeafState). state_by s (act_d s x) ≡ BufferState) (sym e) (act_next (get_or x.heads_d 0 None) (get_or x.room_d 0 false))

stays : (x : LeafView) (s : LeafState) → s ≡ BufferState → buffer_machine.after s x ≡ BufferState
stays x s e = subst (λ (s : LeafState). buffer_machine.after s x ≡ BufferState) (sym e)
    (next_by x (state_by BufferState (act_a BufferState 0 x)) (is_some (act_d BufferState x)) (act_next (get_or x.heads_a 0 None) (get_or x.room_a 0 false)))

pub as_written : BufferLaw
as_written = record {
  both = λ x y. refl;
  down = λ x y. refl;
  up = λ x y. refl;
  empty = λ below above. refl;
  stays = λ x. stays x BufferState refl;
}

-- ---- one channel

some_same : {A : Type 0} (x y : A) → Some x ≡ Some y → x ≡ y
some_same x y e = cc

module _ {B : Type 0} (fields : B → List ℕ) (widths : List ℕ) where
  taken : (head : Option B) (room valid ready p : Bool) (row : List ℕ) → cond valid (Some row) None ≡ option_map fields head → ready ≡ room → p ≡ (valid && ready) → p ≡ taken_by (act_of head room)
  taken None room true ready p row h r e = absurd (let x : Some row ≡ None = h in cc)
  taken None room false ready p row h r e = e
  taken (Some beat) room false ready p row h r e = absurd (let x : None ≡ Some (fields beat) = h in cc)
  taken (Some beat) true true ready p row h r e = e ∙ r
  taken (Some beat) false true ready p row h r e = e ∙ r

  put : (head : Option B) (room valid ready p : Bool) (row items : List ℕ) → cond valid (Some row) None ≡ option_map fields head → ready ≡ room → p ≡ (valid && ready)
      → ((beat : B) → put_by (act_of head room) ≡ Some beat → FitWires (fields beat) widths)
      → (FitWires row widths → items ≡ row)
      → cond p (Some items) None ≡ option_map fields (put_by (act_of head room))
  put None room true ready p row items h r e f k = absurd (let x : Some row ≡ None = h in cc)
  put None room false ready p row items h r e f k = ap (λ (c : Bool). cond c (Some items) None) e
  put (Some beat) room false ready p row items h r e f k = absurd (let x : None ≡ Some (fields beat) = h in cc)
  put (Some beat) false true ready p row items h r e f k = ap (λ (c : Bool). cond c (Some items) None) (e ∙ r)
  put (Some beat) true true ready p row items h r e f k =
      let g : row ≡ fields beat = some_same row (fields beat) h in
      ap (λ (c : Bool). cond c (Some items) None) (e ∙ r)
      ∙ ap Some (k (subst (λ (xs : List ℕ). FitWires xs widths) (sym g) (f beat refl)) ∙ g)

-- ---- lists of one

head_of : {A C : Type 0} (f : A → C) (y : C) (xs : List A) (d : A) → y ∷ [] ≡ map f xs → y ≡ f (get_or xs 0 d)
head_of f y [] d e = absurd cc
head_of f y (x ∷ xs) d e = cc

room_of : (y : Bool) (xs : List Bool) → y ∷ [] ≡ xs → y ≡ get_or xs 0 false
room_of y xs e = ap (λ (zs : List Bool). get_or zs 0 false) e

pub alone : {A : Type 0} (xs : List A) (x : A) → length xs ≡ 1 → x ≡ get_or xs 0 x → xs ≡ x ∷ []
alone [] x l e = absurd (omega (arith, l))
alone {A} (y ∷ []) x l e = ap (λ (z : A). z ∷ []) (sym e)
alone (y ∷ z ∷ xs) x l e = absurd (omega (arith, l))

abbrev done : List Bool → List (Option (List ℕ)) → List Bool → List (Option (List ℕ)) → Done (List ℕ) (List ℕ)
done take_a put_d take_d put_a = record { take_a = take_a; put_d = put_d; take_d = take_d; put_a = put_a }

same_done : (a e : List Bool) (b f : List (Option (List ℕ))) (c g : List Bool) (d h : List (Option (List ℕ))) → a ≡ e → b ≡ f → c ≡ g → d ≡ h → done a b c d ≡ done e f g h
same_done a e b f c g d h p q r s = ap (λ x. done x b c d) p ∙ ap (λ x. done e x c d) q ∙ ap (λ x. done e f x d) r ∙ ap (λ x. done e f g x) s

-- ---- the whole

-- what is put fits these widths
pub record Fit (wide_a wide_d : List ℕ) (s : LeafState) (x : LeafView) : Type 0 where
  pub down : (beat : ABeat) → get_or (buffer_machine.does s x).put_a 0 None ≡ Some beat → FitWires (a_fields beat) wide_a
  pub up : (beat : DBeat) → get_or (buffer_machine.does s x).put_d 0 None ≡ Some beat → FitWires (d_fields beat) wide_d

abbrev pub wires_of : Put → Put → LeafWires
wires_of down up = record { take_a = down.valid ∷ []; put_a = down ∷ []; take_d = up.valid ∷ []; put_d = up ∷ [] }

does_so : (b : Built) (above below : EdgeWires) (down up : Put)
    → Tells b down.valid (λ v. high v above.a.valid && high v below.a.ready)
    → Tells b up.valid (λ v. high v below.d.valid && high v above.d.ready)
    → KeepsRow b above.a.head (row_widths below.a.head) down.items
    → KeepsRow b below.d.head (row_widths above.d.head) up.items
    → (v : ℕ → ℕ) (x : LeafView) → Solves b v → view_at (above ∷ []) (below ∷ []) v ≡ view_fields x
    → Fit (row_widths below.a.head) (row_widths above.d.head) BufferState x
    → done_at (wires_of down up) v ≡ done_fields (buffer_machine.does BufferState x)
does_so b above below down up td tu kd ku v x s e f =
    let ha = head_of (option_map a_fields) (shown_at above.a v).head x.heads_a None (ap (λ (y : View (List ℕ) (List ℕ)). y.heads_a) e) in
    let rd = room_of (shown_at above.d v).room x.room_d (ap (λ (y : View (List ℕ) (List ℕ)). y.room_d) e) in
    let hd = head_of (option_map d_fields) (shown_at below.d v).head x.heads_d None (ap (λ (y : View (List ℕ) (List ℕ)). y.heads_d) e) in
    let ra = room_of (shown_at below.a v).room x.room_a (ap (λ (y : View (List ℕ) (List ℕ)). y.room_a) e) in
    let a = get_or x.heads_a 0 None in
    let d = get_or x.heads_d 0 None in
    same_done _ _ _ _ _ _ _ _
    (ap (λ (c : Bool). c ∷ []) (taken a_fields (row_widths below.a.head) a (get_or x.room_a 0 false) (high v above.a.valid) (high v below.a.ready) (high v down.valid) (wire_values v above.a.head) ha ra (td.at v s)))
    (ap (λ (c : Option (List ℕ)). c ∷ []) (put d_fields (row_widths above.d.head) d (get_or x.room_d 0 false) (high v below.d.valid) (high v above.d.ready) (high v up.valid) (wire_values v below.d.head) (wire_values v up.items) hd rd (tu.at v s) f.up (ku.at v s)))
    (ap (λ (c : Bool). c ∷ []) (taken d_fields (row_widths above.d.head) d (get_or x.room_d 0 false) (high v below.d.valid) (high v above.d.ready) (high v up.valid) (wire_values v below.d.head) hd rd (tu.at v s)))
    (ap (λ (c : Option (List ℕ)). c ∷ []) (put a_fields (row_widths below.a.head) a (get_or x.room_a 0 false) (high v above.a.valid) (high v below.a.ready) (high v down.valid) (wire_values v above.a.head) (wire_values v down.items) ha ra (td.at v s) f.down (kd.at v s)))

pub is_buffer : (b : Built) (above below : EdgeWires) (down up : Put) (fits : LeafState → LeafView → Type 0)
    → ((s : LeafState) (x : LeafView) → fits s x → Fit (row_widths below.a.head) (row_widths above.d.head) s x)
    → Tells b down.valid (λ v. high v above.a.valid && high v below.a.ready)
    → Tells b up.valid (λ v. high v below.d.valid && high v above.d.ready)
    → KeepsRow b above.a.head (row_widths below.a.head) down.items
    → KeepsRow b below.d.head (row_widths above.d.head) up.items
    → IsLeaf b (above ∷ []) (below ∷ []) (wires_of down up) buffer_machine fits
is_buffer b above below down up fits k td tu kd ku =
    machine_of buffer_machine fits view_fields done_fields (view_at (above ∷ []) (below ∷ [])) (done_at (wires_of down up)) b (λ v s. s ≡ BufferState) (record {
      starts = λ v a. refl;
      does = λ v s x q z h e f.
          subst (λ (s : LeafState). fits s x → done_at (wires_of down up) v ≡ done_fields (buffer_machine.does s x)) (sym h)
          (λ g. does_so b above below down up td tu kd ku v x q e (k BufferState x g)) f;
      nexts = λ v u s x q t z h e f. stays x s h;
    })

-- ---- a buffer of a sound plan has one in edge and one out edge

shape_at : (template : Template) (args ins outs : List ℕ) → template ≡ Buffer → HasShape template ins outs → HasShape Buffer ins outs
shape_at template args ins outs e h = subst (λ (t : Template). HasShape t ins outs) e h

pub one_edge : (plan : Plan) (leaf : ℕ) → IsSound plan → IsOfTemplate plan leaf Buffer → (length (ins_at plan leaf) ≡ 1) × (length (outs_at plan leaf) ≡ 1)
one_edge plan leaf sound h =
    let l = slice_get_within plan.leaves leaf h.at h.is in
    let e = get_or_from_slice_get plan.leaves leaf h.at h.at h.is in
    let shape = subst (λ (x : Leaf). HasShape x.template x.ins x.outs) e (sound.shaped leaf h.at l) in
    let both = shape_at h.at.template [] h.at.ins h.at.outs h.kind shape in
    (rw h.is both.0, rw h.is both.1)
