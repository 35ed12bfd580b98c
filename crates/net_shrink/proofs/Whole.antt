-- A cycle of a shrinker by what its registers hold.
use Rattle.std.proofs.Common.{◌≡◌, ℕ, ◌-◌, Bool, true, false, not, cond, ◌&&◌, ◌||◌, length, get_or, Option, Some, None, is_some, refl, sym, ap, ◌∙◌, if◌then◌else◌}
use Rattle.std.specs.Prelude.{◌==◌, slice_get, set}
use Rattle.std.specs.Option.{unwrap_or}
use Rattle.tl_edge.specs.declared.beat.ABeat.{ABeat}
use Rattle.tl_edge.specs.declared.beat.DBeat.{DBeat}
use Rattle.tl_edge.specs.Beats.{request_beats, response_beats}
use Rattle.flow_core.specs.Acts.{Act, forwards, with_a_id, with_d_id}
use Rattle.flow_core.specs.Leaves.{LeafState, down, up, up_alone}
use Rattle.flow_core.specs.Leaves.LeafState.{ShrinkerState}
use Rattle.flow_core.specs.Turns.{next_id}
use Rattle.net_queue.specs.Adapters.{act_by, put_by, state_by, taken_by}
use Rattle.net_slots.specs.Slots.{SlotSide, first_free, left_then, slot_id}
use Rattle.net_table.specs.Tables.{entries_written}
use Rattle.net_shrink.proofs.Entries.{kept, old_stands, olds_of, written_long}
use Rattle.net_shrink.proofs.Acting.{after_ask, after_free, answer_act, ask_act, asking_if, forward_act, leaf_of, may_go}

-- what the wires of channel A tell of a head, with room or without
abbrev pub AskSeen : ℕ → Option ABeat → Bool → Bool → ℕ → ℕ → Type 0
AskSeen width None room wants old rest = wants ≡ false
AskSeen width (Some beat) room wants old rest = (wants ≡ room) × (old ≡ beat.source) × (rest ≡ request_beats beat.op beat.size width - 1)

-- of channel D
abbrev pub AnswerSeen : ℕ → Option DBeat → Bool → Bool → ℕ → ℕ → Type 0
AnswerSeen width None room goes new rest = goes ≡ false
AnswerSeen width (Some beat) room goes new rest = (goes ≡ room) × (new ≡ beat.source) × (rest ≡ response_beats beat.op beat.size width - 1)

abbrev pub act_down : ℕ → SlotSide → ℕ → Option ABeat → Bool → Option (Act ABeat LeafState)
act_down width s n head room = act_by None (down (leaf_of width s n) (next_id (leaf_of width s n)) 0 0) head room

abbrev pub act_up : ℕ → SlotSide → ℕ → Option DBeat → Bool → Option (Act DBeat LeafState)
act_up width s n head room = act_by None (up (leaf_of width s n) 0 0) head room

-- what an act that is made or isn't does
taken_if : {B S : Type 0} (p : Bool) (y : B) (next : S) → taken_by (if p then Some (forwards y next) else None) ≡ p
taken_if true y next = refl
taken_if false y next = refl

put_if : {B S : Type 0} (p : Bool) (y : B) (next : S) → put_by (if p then Some (forwards y next) else None) ≡ cond p (Some y) None
put_if true y next = refl
put_if false y next = refl

some_if : {A : Type 0} (p : Bool) (x : A) → is_some (if p then Some x else None) ≡ p
some_if true x = refl
some_if false x = refl

state_if : {B S : Type 0} (p : Bool) (s : S) (y : B) (next : S) → state_by s (if p then Some (forwards y next) else None) ≡ (if p then next else s)
state_if true s y next = refl
state_if false s y next = refl

-- ---- channel A

down_is : (width n : ℕ) (s : SlotSide) (beat : ABeat) (room wants : Bool) (old rest : ℕ) → length s.olds ≡ length s.taken → AskSeen width (Some beat) room wants old rest
    → act_down width s n (Some beat) room ≡ (if wants && may_go s then Some (forwards (with_a_id (slot_id s) beat) (leaf_of width (after_ask s true old rest) n)) else None)
down_is width n s beat room wants old rest e h =
    forward_act (down (leaf_of width s n) (next_id (leaf_of width s n)) 0 0) beat (with_a_id (slot_id s) beat) (may_go s) room (leaf_of width (after_ask s true beat.source (request_beats beat.op beat.size width - 1)) n) (ask_act width n s beat e)
    ∙ ap (λ w. if w && may_go s then Some (forwards (with_a_id (slot_id s) beat) (leaf_of width (after_ask s true beat.source (request_beats beat.op beat.size width - 1)) n)) else None) (sym h.0)
    ∙ ap (λ o. if wants && may_go s then Some (forwards (with_a_id (slot_id s) beat) (leaf_of width (after_ask s true o (request_beats beat.op beat.size width - 1)) n)) else None) (sym h.1)
    ∙ ap (λ r. if wants && may_go s then Some (forwards (with_a_id (slot_id s) beat) (leaf_of width (after_ask s true old r) n)) else None) (sym h.2)

pub down_takes : (width n : ℕ) (s : SlotSide) (head : Option ABeat) (room wants : Bool) (old rest : ℕ) → length s.olds ≡ length s.taken → AskSeen width head room wants old rest
    → taken_by (act_down width s n head room) ≡ (wants && may_go s)
down_takes width n s None room wants old rest e h = sym (ap (λ w. w && may_go s) h)
down_takes width n s (Some beat) room wants old rest e h = ap taken_by (down_is width n s beat room wants old rest e h) ∙ taken_if (wants && may_go s) (with_a_id (slot_id s) beat) (leaf_of width (after_ask s true old rest) n)

pub down_puts : (width n : ℕ) (s : SlotSide) (beat : ABeat) (room wants : Bool) (old rest : ℕ) → length s.olds ≡ length s.taken → AskSeen width (Some beat) room wants old rest
    → put_by (act_down width s n (Some beat) room) ≡ cond (wants && may_go s) (Some (with_a_id (slot_id s) beat)) None
down_puts width n s beat room wants old rest e h = ap put_by (down_is width n s beat room wants old rest e h) ∙ put_if (wants && may_go s) (with_a_id (slot_id s) beat) (leaf_of width (after_ask s true old rest) n)

-- where nothing passes, the state is the same
same_asking : (none : Bool) (id left k : ℕ) → asking_if none id left ≡ asking_if none (if none then k else id) left
same_asking true id left k = refl
same_asking false id left k = refl

idle_ask : (width n : ℕ) (s : SlotSide) (p : Bool) (old rest : ℕ) → p ≡ false → leaf_of width s n ≡ leaf_of width (after_ask s p old rest) n
idle_ask width n s p old rest e =
    ap (λ a. ShrinkerState width (record { olds = olds_of s.taken s.olds; asking = a; answering = n })) (same_asking (s.asking == 0) s.id s.asking (unwrap_or (first_free 0 s.taken) 0))
    ∙ ap (λ q. leaf_of width (after_ask s q old rest) n) (sym e)

pub down_state : (width n : ℕ) (s : SlotSide) (head : Option ABeat) (room wants : Bool) (old rest : ℕ) → length s.olds ≡ length s.taken → AskSeen width head room wants old rest
    → state_by (leaf_of width s n) (act_down width s n head room) ≡ leaf_of width (after_ask s (wants && may_go s) old rest) n
down_state width n s None room wants old rest e h = idle_ask width n s (wants && may_go s) old rest (ap (λ w. w && may_go s) h)
down_state width n s (Some beat) room wants old rest e h =
    ap (state_by (leaf_of width s n)) (down_is width n s beat room wants old rest e h)
    ∙ state_if (wants && may_go s) (leaf_of width s n) (with_a_id (slot_id s) beat) (leaf_of width (after_ask s true old rest) n)
    ∙ at (wants && may_go s)
  where
    at : (p : Bool) → (if p then leaf_of width (after_ask s true old rest) n else leaf_of width s n) ≡ leaf_of width (after_ask s p old rest) n
    at true = refl
    at false = idle_ask width n s false old rest refl

-- ---- channel D

-- the id of a response isn't free
abbrev pub IsAnswered : SlotSide → Option DBeat → Type 0
IsAnswered s head = (beat : DBeat) → head ≡ Some beat → (old : ℕ) × (slice_get (olds_of s.taken s.olds) beat.source ≡ Some (Some old))

abbrev left_of : Bool → ℕ → ℕ → ℕ
left_of goes n rest = left_then goes n rest

up_is : (width n : ℕ) (s : SlotSide) (beat : DBeat) (room goes : Bool) (new rest : ℕ) → length s.olds ≡ length s.taken → AnswerSeen width (Some beat) room goes new rest → IsAnswered s (Some beat)
    → act_up width s n (Some beat) room ≡ (if goes && true then Some (forwards (with_d_id (get_or s.olds new 0) beat) (leaf_of width (after_free s (left_of true n rest == 0) new) (left_of true n rest))) else None)
up_is width n s beat room goes new rest e h a =
    let b = a beat refl in
    let o : b.0 ≡ get_or s.olds beat.source 0 = sym (old_stands s.taken s.olds beat.source b.0 b.1).old_is in
    let left = left_of true n (response_beats beat.op beat.size width - 1) in
    forward_act (up (leaf_of width s n) 0 0) beat (with_d_id b.0 beat) true room (leaf_of width (after_free s (left == 0) beat.source) left) (answer_act width n b.0 s beat e b.1)
    ∙ ap (λ x. if room && true then Some (forwards (with_d_id x beat) (leaf_of width (after_free s (left == 0) beat.source) left)) else None) o
    ∙ ap (λ w. if w && true then Some (forwards (with_d_id (get_or s.olds beat.source 0) beat) (leaf_of width (after_free s (left == 0) beat.source) left)) else None) (sym h.0)
    ∙ ap (λ k. if goes && true then Some (forwards (with_d_id (get_or s.olds k 0) beat) (leaf_of width (after_free s (left == 0) k) left)) else None) (sym h.1)
    ∙ ap (λ r. if goes && true then Some (forwards (with_d_id (get_or s.olds new 0) beat) (leaf_of width (after_free s (left_of true n r == 0) new) (left_of true n r))) else None) (sym h.2)

and_true : (b : Bool) → (b && true) ≡ b
and_true true = refl
and_true false = refl

pub up_takes : (width n : ℕ) (s : SlotSide) (head : Option DBeat) (room goes : Bool) (new rest : ℕ) → length s.olds ≡ length s.taken → AnswerSeen width head room goes new rest → IsAnswered s head
    → taken_by (act_up width s n head room) ≡ goes
up_takes width n s None room goes new rest e h a = sym h
up_takes width n s (Some beat) room goes new rest e h a = ap taken_by (up_is width n s beat room goes new rest e h a) ∙ taken_if (goes && true) _ _ ∙ and_true goes

pub up_some : (width n : ℕ) (s : SlotSide) (head : Option DBeat) (room goes : Bool) (new rest : ℕ) → length s.olds ≡ length s.taken → AnswerSeen width head room goes new rest → IsAnswered s head
    → is_some (act_up width s n head room) ≡ goes
up_some width n s None room goes new rest e h a = sym h
up_some width n s (Some beat) room goes new rest e h a = ap is_some (up_is width n s beat room goes new rest e h a) ∙ some_if (goes && true) _ ∙ and_true goes

pub up_puts : (width n : ℕ) (s : SlotSide) (beat : DBeat) (room goes : Bool) (new rest : ℕ) → length s.olds ≡ length s.taken → AnswerSeen width (Some beat) room goes new rest → IsAnswered s (Some beat)
    → put_by (act_up width s n (Some beat) room) ≡ cond goes (Some (with_d_id (get_or s.olds new 0) beat)) None
up_puts width n s beat room goes new rest e h a =
    ap put_by (up_is width n s beat room goes new rest e h a) ∙ put_if (goes && true) (with_d_id (get_or s.olds new 0) beat) _
    ∙ ap (λ b. cond b (Some (with_d_id (get_or s.olds new 0) beat)) None) (and_true goes)

up_state : (width n : ℕ) (s : SlotSide) (head : Option DBeat) (room goes : Bool) (new rest : ℕ) → length s.olds ≡ length s.taken → AnswerSeen width head room goes new rest → IsAnswered s head → goes ≡ true
    → state_by (leaf_of width s n) (act_up width s n head room) ≡ leaf_of width (after_free s (goes && (left_of goes n rest == 0)) new) (left_of goes n rest)
up_state width n s None room goes new rest e h a g = absurd cc
up_state width n s (Some beat) room goes new rest e h a g =
    ap (state_by (leaf_of width s n)) (up_is width n s beat room goes new rest e h a)
    ∙ state_if (goes && true) (leaf_of width s n) _ (leaf_of width (after_free s (left_of true n rest == 0) new) (left_of true n rest))
    ∙ ap (λ b. if b && true then leaf_of width (after_free s (left_of true n rest == 0) new) (left_of true n rest) else leaf_of width s n) g
    ∙ ap (λ b. leaf_of width (after_free s (b && (left_of b n rest == 0)) new) (left_of b n rest)) (sym g)

-- ---- both

-- a response's slot isn't the one that a request takes
begun_one : (w c : Bool) (o : Option ℕ) → ((w && (not c || is_some o)) && c) ≡ true → (c ≡ true) × (is_some o ≡ true)
begun_one true true o h = let e : is_some o ≡ true = and_back (is_some o) h in (refl, e)
  where
    and_back : (b : Bool) → (b && true) ≡ true → b ≡ true
    and_back true h = refl
    and_back false h = absurd cc
begun_one true false o h = absurd cc
begun_one false c o h = absurd cc

still : (s : SlotSide) (wants : Bool) (old i x : ℕ) → length s.olds ≡ length s.taken → slice_get (olds_of s.taken s.olds) i ≡ Some (Some x)
    → (b : Bool) → ((wants && may_go s) && (s.asking == 0)) ≡ b
    → slice_get (olds_of (entries_written b (slot_id s) 1 s.taken) (entries_written b (slot_id s) old s.olds)) i ≡ Some (Some x)
still s wants old i x e h false q = h
still s wants old i x e h true q =
    let r = begun_one wants (s.asking == 0) (first_free 0 s.taken) q in
    at (first_free 0 s.taken) refl r.0 r.1
  where
    at : (o : Option ℕ) → first_free 0 s.taken ≡ o → (s.asking == 0) ≡ true → is_some o ≡ true → slice_get (olds_of (set s.taken (slot_id s) 1) (set s.olds (slot_id s) old)) i ≡ Some (Some x)
    at None f c g = absurd (let z : false ≡ true = g in cc)
    at (Some k) f c g =
        let q : slot_id s ≡ k = ap (λ b. if b then unwrap_or (first_free 0 s.taken) 0 else s.id) c ∙ ap (λ o. unwrap_or o 0) f in
        ap (λ j. slice_get (olds_of (set s.taken j 1) (set s.olds j old)) i) q ∙ kept s.taken s.olds i k old x e f h

pub still_answered : (s : SlotSide) (wants : Bool) (old rest : ℕ) (head : Option DBeat) → length s.olds ≡ length s.taken → IsAnswered s head → IsAnswered (after_ask s (wants && may_go s) old rest) head
still_answered s wants old rest head e a beat q = let b = a beat q in (b.0, still s wants old beat.source b.0 e b.1 ((wants && may_go s) && (s.asking == 0)) refl)

pub after_is : (width n : ℕ) (s : SlotSide) (ha : Option ABeat) (hd : Option DBeat) (ra rd wants goes : Bool) (old rest new more : ℕ) → length s.olds ≡ length s.taken
    → AskSeen width ha ra wants old rest → AnswerSeen width hd rd goes new more → IsAnswered s hd
    → let t = after_ask s (wants && may_go s) old rest in
    let next = state_by (leaf_of width s n) (act_down width s n ha ra) in
    cond (is_some (act_up width s n hd rd)) (state_by next (act_by (up_alone next 0 0) (up next 0 0) hd rd)) next
    ≡ leaf_of width (after_free t (goes && (left_of goes n more == 0)) new) (left_of goes n more)
after_is width n s ha hd ra rd wants goes old rest new more e h g a =
    let t = after_ask s (wants && may_go s) old rest in
    let k = slot_id s in
    let b = (wants && may_go s) && (s.asking == 0) in
    let long : length t.olds ≡ length t.taken = written_long b k old 1 s.taken s.olds e in
    ap (λ (next : LeafState). cond (is_some (act_up width s n hd rd)) (state_by next (act_by (up_alone next 0 0) (up next 0 0) hd rd)) next) (down_state width n s ha ra wants old rest e h)
    ∙ ap (λ x. cond x (state_by (leaf_of width t n) (act_up width t n hd rd)) (leaf_of width t n)) (up_some width n s hd rd goes new more e g a)
    ∙ at goes refl (up_state width n t hd rd goes new more long g (still_answered s wants old rest hd e a))
  where
    at : (x : Bool) → goes ≡ x
        → (goes ≡ true → state_by (leaf_of width (after_ask s (wants && may_go s) old rest) n) (act_up width (after_ask s (wants && may_go s) old rest) n hd rd) ≡ leaf_of width (after_free (after_ask s (wants && may_go s) old rest) (goes && (left_of goes n more == 0)) new) (left_of goes n more))
        → cond x (state_by (leaf_of width (after_ask s (wants && may_go s) old rest) n) (act_up width (after_ask s (wants && may_go s) old rest) n hd rd)) (leaf_of width (after_ask s (wants && may_go s) old rest) n) ≡ leaf_of width (after_free (after_ask s (wants && may_go s) old rest) (goes && (left_of goes n more == 0)) new) (left_of goes n more)
    at true q f = f q
    at false q f = ap (λ c. leaf_of width (after_free (after_ask s (wants && may_go s) old rest) (c && (left_of c n more == 0)) new) (left_of c n more)) (sym q)
