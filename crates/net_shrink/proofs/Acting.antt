-- The acts of a shrinker by what its registers hold.
use Rattle.std.proofs.Common.{◌≡◌, ℕ, ◌-◌, Bool, true, false, not, cond, ◌&&◌, ◌||◌, List, length, Option, Some, None, is_some, refl, ap, ◌∙◌, if◌then◌else◌}
use Rattle.std.specs.Prelude.{◌==◌, slice_get, slice_set}
use Rattle.std.specs.Option.{option_and_then, option_map, option_map_or, unwrap_or}
use Rattle.tl_edge.specs.declared.beat.ABeat.{ABeat}
use Rattle.tl_edge.specs.declared.beat.DBeat.{DBeat}
use Rattle.tl_edge.specs.Beats.{request_beats, response_beats}
use Rattle.flow_core.specs.Acts.{Act, forwards, lifted, with_a_id, with_d_id}
use Rattle.flow_core.specs.Leaves.{LeafState, down, up}
use Rattle.flow_core.specs.Leaves.LeafState.{ShrinkerState}
use Rattle.flow_core.specs.Shrinking.{Asking, answered, asking_after, is_free, left_after, shrink_down_in}
use Rattle.flow_core.specs.Turns.{lowest_free, next_id}
use Rattle.net_queue.specs.Adapters.{act_by}
use Rattle.net_slots.specs.Slots.{SlotSide, first_free, left_then, slot_id}
use Rattle.net_table.specs.Tables.{entries_written}
use Rattle.net_shrink.proofs.Entries.{answering_left, asking_left, lowest_free_is, lowest_is, olds_of, same_test, set_taken, written_free}

-- the request in progress, where one is
abbrev pub asking_if : Bool → ℕ → ℕ → Option Asking
asking_if none id left = if none then None else Some (record { id = id; left = left })

-- the state for which the registers stand, with those of the response in progress
abbrev pub leaf_of : ℕ → SlotSide → ℕ → LeafState
leaf_of width s answering = ShrinkerState width (record { olds = olds_of s.taken s.olds; asking = asking_if (s.asking == 0) s.id s.asking; answering = answering })

-- ---- acts with a head

pub forward_act : {B S : Type 0} (f : B → Option (Act B S)) (beat y : B) (p room : Bool) (next : S) → f beat ≡ (if p then Some (forwards y next) else None)
    → act_by None f (Some beat) room ≡ (if room && p then Some (forwards y next) else None)
forward_act f beat y p room next e = ap (λ o. act_by None (λ x. o) (Some beat) room) e ∙ at p room
  where
    at : (p room : Bool) → act_by None (λ x. if p then Some (forwards y next) else None) (Some beat) room ≡ (if room && p then Some (forwards y next) else None)
    at true true = refl
    at true false = refl
    at false true = refl
    at false false = refl

lift_if : {B S T : Type 0} (f : S → T) (b c : Bool) (act : Act B S) → b ≡ c → option_map (lifted f) (cond b (Some act) None) ≡ (if c then Some (lifted f act) else None)
lift_if f true true act e = refl
lift_if f false false act e = refl
lift_if f true false act e = absurd cc
lift_if f false true act e = absurd cc

abbrev state : ℕ → List (Option ℕ) → Option Asking → ℕ → LeafState
state width olds asking answering = ShrinkerState width (record { olds = olds; asking = asking; answering = answering })

-- ---- channel A

abbrev chosen_id : Bool → ℕ → List ℕ → ℕ
chosen_id none id ts = if none then unwrap_or (first_free 0 ts) 0 else id

abbrev asked_next : ℕ → ℕ → Bool → ℕ → ℕ → List ℕ → List ℕ → ABeat → LeafState
asked_next width n none id asking ts os beat =
    state width (olds_of (entries_written none (chosen_id none id ts) 1 ts) (entries_written none (chosen_id none id ts) beat.source os))
    (asking_if ((if none then request_beats beat.op beat.size width - 1 else asking - 1) == 0) (chosen_id none id ts) (if none then request_beats beat.op beat.size width - 1 else asking - 1))
    n

ask_at : (width n id asking : ℕ) (ts os : List ℕ) (beat : ABeat) (none : Bool) → length os ≡ length ts
    → option_map (lifted (ShrinkerState width))
    (shrink_down_in (asking_if none id asking) width (record { olds = olds_of ts os; asking = asking_if none id asking; answering = n })
    (option_map_or (λ (a : Asking). a.id) (asking_if none id asking) (lowest_free (olds_of ts os))) beat)
    ≡ (if not none || is_some (first_free 0 ts) then Some (forwards (with_a_id (chosen_id none id ts) beat) (asked_next width n none id asking ts os beat)) else None)
ask_at width n id asking ts os beat true e =
    let es = olds_of ts os in
    let beats = request_beats beat.op beat.size width in
    let k = unwrap_or (first_free 0 ts) 0 in
    ap (λ j. option_map (lifted (ShrinkerState width)) (cond (is_free es j) (Some (forwards (with_a_id j beat) (record { olds = slice_set es j (Some beat.source); asking = asking_after j beats; answering = n }))) None)) (lowest_is ts os e)
    ∙ lift_if (ShrinkerState width) (is_free es k) (is_some (first_free 0 ts)) (forwards (with_a_id k beat) (record { olds = slice_set es k (Some beat.source); asking = asking_after k beats; answering = n })) (lowest_free_is ts os e)
    ∙ ap (λ xs. if is_some (first_free 0 ts) then Some (forwards (with_a_id k beat) (state width xs (asking_after k beats) n)) else None) (set_taken ts os k beat.source e)
    ∙ ap (λ a. if is_some (first_free 0 ts) then Some (forwards (with_a_id k beat) (state width (olds_of (entries_written true k 1 ts) (entries_written true k beat.source os)) a n)) else None) (asking_left k beats)
ask_at width n id asking ts os beat false e =
    let es = olds_of ts os in
    lift_if (ShrinkerState width) (id == id) true (forwards (with_a_id id beat) (record { olds = es; asking = asking_after id asking; answering = n })) (same_test id)
    ∙ ap (λ a. Some (forwards (with_a_id id beat) (state width es a n))) (asking_left id asking)

-- whether a request has an id to go with
abbrev pub may_go : SlotSide → Bool
may_go s = not (s.asking == 0) || is_some (first_free 0 s.taken)

-- the registers after a request's beat, and after a response's
abbrev pub after_ask : SlotSide → Bool → ℕ → ℕ → SlotSide
after_ask s p old rest = record {
  id = slot_id s;
  asking = left_then p s.asking rest;
  taken = entries_written (p && (s.asking == 0)) (slot_id s) 1 s.taken;
  olds = entries_written (p && (s.asking == 0)) (slot_id s) old s.olds;
}

abbrev pub after_free : SlotSide → Bool → ℕ → SlotSide
after_free s f new = record { id = s.id; asking = s.asking; taken = entries_written f new 0 s.taken; olds = s.olds }

pub ask_act : (width n : ℕ) (s : SlotSide) (beat : ABeat) → length s.olds ≡ length s.taken
    → down (leaf_of width s n) (next_id (leaf_of width s n)) 0 0 beat
    ≡ (if may_go s then Some (forwards (with_a_id (slot_id s) beat) (leaf_of width (after_ask s true beat.source (request_beats beat.op beat.size width - 1)) n)) else None)
ask_act width n s beat e = ask_at width n s.id s.asking s.taken s.olds beat (s.asking == 0) e

-- ---- channel D

pub answer_act : (width n old : ℕ) (s : SlotSide) (beat : DBeat) → length s.olds ≡ length s.taken → slice_get (olds_of s.taken s.olds) beat.source ≡ Some (Some old)
    → let left = left_then true n (response_beats beat.op beat.size width - 1) in
    up (leaf_of width s n) 0 0 beat ≡ Some (forwards (with_d_id old beat) (leaf_of width (after_free s (left == 0) beat.source) left))
answer_act width n old s beat e h =
    let es = olds_of s.taken s.olds in
    let asking = asking_if (s.asking == 0) s.id s.asking in
    let beats = response_beats beat.op beat.size width in
    let left = left_then true n (beats - 1) in
    ap (λ o. option_map (lifted (ShrinkerState width)) (option_map (answered (record { olds = es; asking = asking; answering = n }) beat (left_after n beats)) (option_and_then (λ x. x) o))) h
    ∙ ap (λ m. Some (forwards (with_d_id old beat) (state width (cond (m == 0) (slice_set es beat.source None) es) asking m))) (answering_left n beats)
    ∙ ap (λ xs. Some (forwards (with_d_id old beat) (state width xs asking left))) (written_free (left == 0) s.taken s.olds beat.source e)
