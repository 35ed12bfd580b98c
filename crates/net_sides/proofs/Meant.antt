-- What the network states of a head of a width adapter is the act that its wires tell.
use Rattle.std.proofs.Common.{◌≡◌, ◌≢◌, ℕ, ◌+◌, ◌-◌, ◌*◌, ◌/◌, ◌%◌, ◌^◌, ◌<◌, ◌≤◌, Bool, true, false, cond, Option, Some, None, refl, sym, ap, ◌∙◌, subst, arith, if◌then◌else◌}
use Rattle.std.specs.Prelude.{◌==◌, nat_lt, min, bit_or, IsTrue}
use Rattle.std.specs.Option.{option_and_then, option_map}
use Rattle.std.proofs.Math.Nat.{mul_comm}
use Rattle.std.proofs.lemmas.Bool.Decides.{nat_tests}
use Rattle.std.proofs.lemmas.Nat.{pow_below}
use Rattle.tl_edge.specs.declared.beat.ABeat.{ABeat}
use Rattle.tl_edge.specs.declared.beat.DBeat.{DBeat}
use Rattle.tl_edge.specs.Beats.{active_mask, data_beats}
use Rattle.tl_edge.specs.Messages.{brings_data, has_data}
use Rattle.tl_pieces.specs.TwoBuses.{lane_in_wide, lanes_at}
use Rattle.flow_core.specs.Acts.{Act, forwards, with_d_lanes}
use Rattle.flow_core.specs.Turning.{Lanes, Side, Widget, Widths, address_of, data_down, data_up, ends_wide, lanes_of, narrowed, narrows, number_after, plain_down, turn_down, turn_up, turned, turned_up, widens, with_lanes}
use Rattle.net_lanes.specs.declared.places.Buses.{Buses}
use Rattle.net_lanes.specs.Lanes.{AreTwo}
use Rattle.net_turns.specs.Turns.{lanes_turned}
use Rattle.net_sides.specs.Sides.{widths_down, widths_up}
use Rattle.net_sides.proofs.Acted.{act_down, act_up, lanes_act}

lt_yes : (a b : ℕ) → a < b → nat_lt a b ≡ true
lt_yes a b l = grind (arith, nat_tests)

lt_no : (a b : ℕ) → b ≤ a → nat_lt a b ≡ false
lt_no a b l = grind (arith, nat_tests)

eq_no : (a b : ℕ) → a ≢ b → (a == b) ≡ false
eq_no a b e = grind (arith, nat_tests)

min_left : (a b : ℕ) → a < b → min a b ≡ a
min_left a b l = omega arith

min_right : (a b : ℕ) → a < b → min b a ≡ a
min_right a b l = omega arith

is_true : (b : Bool) → b ≡ true → IsTrue b
is_true b e = e

-- the number of the lane at which a narrow beat begins
abbrev pub lane_number : ℕ → ℕ → ℕ → ℕ → ℕ
lane_number narrow wide address number = (address + number * narrow) % wide / narrow

-- ---- lanes

abbrev lanes : ℕ → ℕ → Lanes
lanes m p = record { mask = m; payload = p }

octuple : (n lane : ℕ) → 8 * (lane * n) ≡ 8 * n * lane
octuple n lane = omega arith

with_is : (n w a : ℕ) (side : Side) (m p : ℕ)
    → with_lanes side (lane_in_wide n w a side.done) (lanes (m) (p))
    ≡ lanes (lanes_turned true n (lane_number n w a side.done) side.mask m) (lanes_turned true (8 * n) (lane_number n w a side.done) side.payload p)
with_is n w a side m p =
    let k = lane_number n w a side.done in
    both k (k * n) (mul_comm k n) (8 * (k * n)) (octuple n k)
  where
    both : (k x : ℕ) → x ≡ n * k → (y : ℕ) → y ≡ 8 * n * k
        → lanes (bit_or side.mask (m * 2 ^ x)) (bit_or side.payload (p * 2 ^ y)) ≡ lanes (lanes_turned true n k side.mask m) (lanes_turned true (8 * n) k side.payload p)
    both k x e y f =
        ap (λ (i : ℕ). lanes (bit_or side.mask (m * 2 ^ i)) (bit_or side.payload (p * 2 ^ y))) e
        ∙ ap (λ (i : ℕ). lanes (bit_or side.mask (m * 2 ^ (n * k))) (bit_or side.payload (p * 2 ^ i))) f

cut_is : (n w a : ℕ) (side : Side) (m p : ℕ)
    → narrowed n (lane_in_wide n w a side.done) (lanes (m) (p))
    ≡ lanes (lanes_turned false n (lane_number n w a side.done) side.mask m) (lanes_turned false (8 * n) (lane_number n w a side.done) side.payload p)
cut_is n w a side m p =
    let k = lane_number n w a side.done in
    both k (k * n) (mul_comm k n) (8 * (k * n)) (octuple n k)
  where
    both : (k x : ℕ) → x ≡ n * k → (y : ℕ) → y ≡ 8 * n * k
        → lanes (m / 2 ^ x % 2 ^ n) (p / 2 ^ y % 2 ^ (8 * n)) ≡ lanes (lanes_turned false n k side.mask m) (lanes_turned false (8 * n) k side.payload p)
    both k x e y f =
        ap (λ (i : ℕ). lanes (m / 2 ^ i % 2 ^ n) (p / 2 ^ y % 2 ^ (8 * n))) e
        ∙ ap (λ (i : ℕ). lanes (m / 2 ^ (n * k) % 2 ^ n) (p / 2 ^ i % 2 ^ (8 * n))) f

-- ---- a message with data

-- the lanes on the other bus
abbrev pub mask_out : Bool → ℕ → ℕ → ℕ → Side → ℕ → ℕ
mask_out turns n w a side m = lanes_turned turns n (lane_number n w a side.done) side.mask m

abbrev pub payload_out : Bool → ℕ → ℕ → ℕ → Side → ℕ → ℕ
payload_out turns n w a side p = lanes_turned turns (8 * n) (lane_number n w a side.done) side.payload p

turned_wide : (n w a size : ℕ) (side : Side) (m p : ℕ) → n < w → side.done < data_beats size (min n w)
    → turned n w a size side (record { mask = m; payload = p })
    ≡ Some (lanes_act true (ends_wide n w a (data_beats size n) side.done) (number_after (data_beats size n) side.done) side (mask_out true n w a side m) (payload_out true n w a side p))
turned_wide n w a size side m p l d =
    let e : nat_lt side.done (data_beats size (min n w)) ≡ true = lt_yes _ _ d in
    rw (e, min_left n w l, lt_yes n w l)
    (ap (λ (lanes : Lanes). Some (widens (ends_wide n w a (data_beats size n) side.done) (number_after (data_beats size n) side.done) lanes)) (with_is n w a side m p))

turned_narrow : (n w a size : ℕ) (side : Side) (m p : ℕ) → n < w → side.done < data_beats size (min w n)
    → turned w n a size side (record { mask = m; payload = p })
    ≡ Some (lanes_act false (ends_wide n w a (data_beats size n) side.done) (number_after (data_beats size n) side.done) side (mask_out false n w a side m) (payload_out false n w a side p))
turned_narrow n w a size side m p l d =
    let e : nat_lt side.done (data_beats size (min w n)) ≡ true = lt_yes _ _ d in
    let k : n ≤ w = omega arith in
    rw (e, min_right n w l, lt_no w n k)
    (ap (λ (lanes : Lanes). Some (narrows (ends_wide n w a (data_beats size n) side.done) (number_after (data_beats size n) side.done) side lanes)) (cut_is n w a side m p))

-- ---- channel A

pub down_is : (turns : Bool) (n w : ℕ) (widths : Widths) (widget : Widget) (beat : ABeat) → n < w → widths.above ≡ (if turns then n else w) → widths.below ≡ (if turns then w else n)
    → (IsTrue (has_data beat.op) → widget.a.done < data_beats beat.size (min widths.above widths.below))
    → turn_down widths widget beat
    ≡ Some (act_down turns (has_data beat.op) (ends_wide n w beat.address (data_beats beat.size n) widget.a.done) (number_after (data_beats beat.size n) widget.a.done) widget beat
    (mask_out turns n w beat.address widget.a beat.mask) (payload_out turns n w beat.address widget.a beat.payload) (active_mask widths.below beat.size beat.address))
down_is true n w widths widget beat l ea eb left =
    let q : widths.above ≢ widths.below = λ h. omega (arith, ea, eb, h, l) in
    rw (eq_no widths.above widths.below q) (at (has_data beat.op) refl)
  where
    at : (loaded : Bool) → has_data beat.op ≡ loaded
        → cond loaded (option_map (data_down widget beat) (turned widths.above widths.below beat.address beat.size widget.a (lanes_of beat))) (Some (plain_down widths widget beat))
        ≡ Some (act_down true loaded (ends_wide n w beat.address (data_beats beat.size n) widget.a.done) (number_after (data_beats beat.size n) widget.a.done) widget beat
        (mask_out true n w beat.address widget.a beat.mask) (payload_out true n w beat.address widget.a beat.payload) (active_mask widths.below beat.size beat.address))
    at false e = refl
    at true e =
        let d : widget.a.done < data_beats beat.size (min n w) = subst (λ (x : ℕ). widget.a.done < data_beats beat.size (min x w)) ea (subst (λ (x : ℕ). widget.a.done < data_beats beat.size (min widths.above x)) eb (left (is_true _ e))) in
        ap (λ (x : ℕ). option_map (data_down widget beat) (turned x widths.below beat.address beat.size widget.a (lanes_of beat))) ea
        ∙ ap (λ (x : ℕ). option_map (data_down widget beat) (turned n x beat.address beat.size widget.a (lanes_of beat))) eb
        ∙ ap (option_map (data_down widget beat)) (turned_wide n w beat.address beat.size widget.a beat.mask beat.payload l d)
down_is false n w widths widget beat l ea eb left =
    let q : widths.above ≢ widths.below = λ h. omega (arith, ea, eb, h, l) in
    rw (eq_no widths.above widths.below q) (at (has_data beat.op) refl)
  where
    at : (loaded : Bool) → has_data beat.op ≡ loaded
        → cond loaded (option_map (data_down widget beat) (turned widths.above widths.below beat.address beat.size widget.a (lanes_of beat))) (Some (plain_down widths widget beat))
        ≡ Some (act_down false loaded (ends_wide n w beat.address (data_beats beat.size n) widget.a.done) (number_after (data_beats beat.size n) widget.a.done) widget beat
        (mask_out false n w beat.address widget.a beat.mask) (payload_out false n w beat.address widget.a beat.payload) (active_mask widths.below beat.size beat.address))
    at false e = refl
    at true e =
        let d : widget.a.done < data_beats beat.size (min w n) = subst (λ (x : ℕ). widget.a.done < data_beats beat.size (min x n)) ea (subst (λ (x : ℕ). widget.a.done < data_beats beat.size (min widths.above x)) eb (left (is_true _ e))) in
        ap (λ (x : ℕ). option_map (data_down widget beat) (turned x widths.below beat.address beat.size widget.a (lanes_of beat))) ea
        ∙ ap (λ (x : ℕ). option_map (data_down widget beat) (turned w x beat.address beat.size widget.a (lanes_of beat))) eb
        ∙ ap (option_map (data_down widget beat)) (turned_narrow n w beat.address beat.size widget.a beat.mask beat.payload l d)

-- ---- channel D

-- the act where an address is kept for the id, or the response has no data, and none elsewhere
pub up_is : (turns : Bool) (n w address : ℕ) (widths : Widths) (widget : Widget) (beat : DBeat) → n < w → widths.below ≡ (if turns then n else w) → widths.above ≡ (if turns then w else n)
    → (IsTrue (brings_data beat.op) → widget.d.done < data_beats beat.size (min widths.above widths.below))
    → (IsTrue (brings_data beat.op) → address_of widget.kept beat.source ≡ Some address)
    → turn_up widths widget beat
    ≡ Some (act_up turns (brings_data beat.op) (ends_wide n w address (data_beats beat.size n) widget.d.done) (number_after (data_beats beat.size n) widget.d.done) widget beat
    (mask_out turns n w address widget.d 0) (payload_out turns n w address widget.d beat.payload))
up_is true n w address widths widget beat l eb ea left kept =
    let q : widths.above ≢ widths.below = λ h. omega (arith, ea, eb, h, l) in
    rw (eq_no widths.above widths.below q) (at (brings_data beat.op) refl)
  where
    at : (loaded : Bool) → brings_data beat.op ≡ loaded
        → cond loaded (option_and_then (turned_up widths widget beat) (address_of widget.kept beat.source)) (Some (forwards (with_d_lanes 0 beat) widget))
        ≡ Some (act_up true loaded (ends_wide n w address (data_beats beat.size n) widget.d.done) (number_after (data_beats beat.size n) widget.d.done) widget beat
        (mask_out true n w address widget.d 0) (payload_out true n w address widget.d beat.payload))
    at false e = refl
    at true e =
        let d : widget.d.done < data_beats beat.size (min w n) = subst (λ (x : ℕ). widget.d.done < data_beats beat.size (min x n)) ea (subst (λ (x : ℕ). widget.d.done < data_beats beat.size (min widths.above x)) eb (left (is_true _ e))) in
        let d2 : widget.d.done < data_beats beat.size (min n w) = subst (λ (x : ℕ). widget.d.done < data_beats beat.size x) (min_right n w l ∙ sym (min_left n w l)) d in
        ap (option_and_then (turned_up widths widget beat)) (kept (is_true _ e))
        ∙ ap (λ (x : ℕ). option_map (data_up widget beat) (turned x widths.above address beat.size widget.d (record { mask = 0; payload = beat.payload }))) eb
        ∙ ap (λ (x : ℕ). option_map (data_up widget beat) (turned n x address beat.size widget.d (record { mask = 0; payload = beat.payload }))) ea
        ∙ ap (option_map (data_up widget beat)) (turned_wide n w address beat.size widget.d 0 beat.payload l d2)
up_is false n w address widths widget beat l eb ea left kept =
    let q : widths.above ≢ widths.below = λ h. omega (arith, ea, eb, h, l) in
    rw (eq_no widths.above widths.below q) (at (brings_data beat.op) refl)
  where
    at : (loaded : Bool) → brings_data beat.op ≡ loaded
        → cond loaded (option_and_then (turned_up widths widget beat) (address_of widget.kept beat.source)) (Some (forwards (with_d_lanes 0 beat) widget))
        ≡ Some (act_up false loaded (ends_wide n w address (data_beats beat.size n) widget.d.done) (number_after (data_beats beat.size n) widget.d.done) widget beat
        (mask_out false n w address widget.d 0) (payload_out false n w address widget.d beat.payload))
    at false e = refl
    at true e =
        let d : widget.d.done < data_beats beat.size (min n w) = subst (λ (x : ℕ). widget.d.done < data_beats beat.size (min x w)) ea (subst (λ (x : ℕ). widget.d.done < data_beats beat.size (min widths.above x)) eb (left (is_true _ e))) in
        let d2 : widget.d.done < data_beats beat.size (min w n) = subst (λ (x : ℕ). widget.d.done < data_beats beat.size x) (min_left n w l ∙ sym (min_right n w l)) d in
        ap (option_and_then (turned_up widths widget beat)) (kept (is_true _ e))
        ∙ ap (λ (x : ℕ). option_map (data_up widget beat) (turned x widths.above address beat.size widget.d (record { mask = 0; payload = beat.payload }))) eb
        ∙ ap (λ (x : ℕ). option_map (data_up widget beat) (turned w x address beat.size widget.d (record { mask = 0; payload = beat.payload }))) ea
        ∙ ap (option_map (data_up widget beat)) (turned_narrow n w address beat.size widget.d 0 beat.payload l d2)

-- where no address is kept there is none
pub up_none : (widths : Widths) (widget : Widget) (beat : DBeat) → widths.above ≢ widths.below → brings_data beat.op ≡ true → address_of widget.kept beat.source ≡ None → turn_up widths widget beat ≡ None
up_none widths widget beat q e k = rw (eq_no widths.above widths.below q, e) (ap (option_and_then (turned_up widths widget beat)) k)
