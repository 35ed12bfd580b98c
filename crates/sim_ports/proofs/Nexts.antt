-- The test whether a beat is the next one of a request answers what it is for.
use Rattle.std.proofs.Common.{ℕ, ◌≡◌, ◌+◌, ◌%◌, ◌^◌, ◌<◌, ◌≤◌, List, [], ◌∷◌, ◌++◌, length, get_or, take, replicate, Bool, true, false, cond, not, nat_eq, nat_le, nat_lt, ◌&&◌, ◌||◌, IsTrue, inl, inr, Some, slice_get, refl, ap, sym, subst, ◌∙◌, arith, lit<}
use Rattle.std.proofs.lemmas.Bool.{cases_order, eq-eqb, eqb-true, le-leb, lt-ltb}
use Rattle.std.proofs.lemmas.List.{ext_get_or, get_or-take, length-append, length-replicate, length-take, take_more}
use Rattle.std.proofs.lemmas.List.Elements.{All-replicate}
use Rattle.std.proofs.lemmas.List.FromFn.{get_or-map-range_with_len, length-map-range_with_len}
use Rattle.std.proofs.lemmas.Option.{get_or_from_slice_get, slice_get-get_or, slice_get_within}
use Rattle.tl_params.specs.Arguments.{is_width}
use Rattle.tl_edge.specs.declared.beat.ABeat.{ABeat}
use Rattle.tl_edge.specs.declared.message.Request.{Request}
use Rattle.tl_edge.specs.BeatLaws.{IsBeatOf}
use Rattle.tl_edge.specs.Beats.{a_beat, beats_of_request, request_beats}
use Rattle.tl_edge.specs.Joined.{joined_request}
use Rattle.tl_edge.specs.Messages.{AreBytes, IsRequest, bytes_of, has_data, has_flags, has_param}
use Rattle.tl_edge.proofs.Cuts.{next_law}
use Rattle.tl_edge.proofs.Heads.{heads_law}
use Rattle.sim_ports.specs.Devices.{HasJust, HaveSame, HeldBytes, MayBeAsked, is_atomic}
use Rattle.sim_ports.specs.Nexts.{CarriesOn, HasFieldsOf, HasRow, MayTake, PassesTest, has_legal_fields}
use Rattle.sim_ports.specs.Prepared.{HasBegun, IsPreparedAt}
use Rattle.sim_ports.specs.Sinks.{MayLeave, Sinking, after_leave, after_reply, are_all, sink_answered, sinking, with_taken}
use Rattle.sim_ports.proofs.Gathered.{next_of}
use Rattle.sim_ports.proofs.Serves.{leave_kept}
use Rattle.sim_ports.proofs.Spliced.{beats_pass, has_put, put}

-- ---- legal fields

both : (a b : Bool) → IsTrue (a && b) → (IsTrue a) × (IsTrue b)
both true b h = (refl, h)
both false b h = cc

join : (a b : Bool) → IsTrue a → IsTrue b → IsTrue (a && b)
join true b h g = g
join false b h g = h

-- what the fields of a beat are that a device may be asked
record AreLegal (beat : ABeat) : Type 0 where
  pub size : beat.size ≤ 8
  pub small : IsTrue (is_atomic beat.op) → beat.size ≤ 3
  pub param : IsTrue (has_param beat.op beat.param)
  pub source : beat.source < 1024
  pub address : beat.address < 2 ^ 48
  pub aligned : beat.address % bytes_of beat.size ≡ 0

small_if : (atomic : Bool) (size : ℕ) → IsTrue (not atomic || nat_le size 3) → IsTrue atomic → size ≤ 3
small_if true size h a = grind (arith, h)
small_if false size h a = cc

if_small : (atomic : Bool) (size : ℕ) → (IsTrue atomic → size ≤ 3) → IsTrue (not atomic || nat_le size 3)
if_small true size h = le-leb _ _ (h refl)
if_small false size h = refl

are_legal : (beat : ABeat) → IsTrue (has_legal_fields beat) → AreLegal beat
are_legal beat h =
    let a = both (nat_le beat.size 8 && (not (is_atomic beat.op) || nat_le beat.size 3) && has_param beat.op beat.param && nat_lt beat.source 1024 && nat_lt beat.address (2 ^ 48))
    (nat_eq (beat.address % bytes_of beat.size) 0) h in
    let b = both (nat_le beat.size 8 && (not (is_atomic beat.op) || nat_le beat.size 3) && has_param beat.op beat.param && nat_lt beat.source 1024) (nat_lt beat.address (2 ^ 48)) a.0 in
    let c = both (nat_le beat.size 8 && (not (is_atomic beat.op) || nat_le beat.size 3) && has_param beat.op beat.param) (nat_lt beat.source 1024) b.0 in
    let d = both (nat_le beat.size 8 && (not (is_atomic beat.op) || nat_le beat.size 3)) (has_param beat.op beat.param) c.0 in
    let e = both (nat_le beat.size 8) (not (is_atomic beat.op) || nat_le beat.size 3) d.0 in
    record {
      size = grind (arith, e.0);
      small = small_if (is_atomic beat.op) beat.size e.1;
      param = d.1;
      source = grind (arith, c.1);
      address = grind (arith, b.1);
      aligned = eqb-true (beat.address % bytes_of beat.size) 0 a.1;
    }

legal_are : (beat : ABeat) → AreLegal beat → IsTrue (has_legal_fields beat)
legal_are beat h =
    join (nat_le beat.size 8 && (not (is_atomic beat.op) || nat_le beat.size 3) && has_param beat.op beat.param && nat_lt beat.source 1024 && nat_lt beat.address (2 ^ 48))
    (nat_eq (beat.address % bytes_of beat.size) 0)
    (join (nat_le beat.size 8 && (not (is_atomic beat.op) || nat_le beat.size 3) && has_param beat.op beat.param && nat_lt beat.source 1024) (nat_lt beat.address (2 ^ 48))
    (join (nat_le beat.size 8 && (not (is_atomic beat.op) || nat_le beat.size 3) && has_param beat.op beat.param) (nat_lt beat.source 1024)
    (join (nat_le beat.size 8 && (not (is_atomic beat.op) || nat_le beat.size 3)) (has_param beat.op beat.param)
    (join (nat_le beat.size 8) (not (is_atomic beat.op) || nat_le beat.size 3) (le-leb _ _ h.size) (if_small (is_atomic beat.op) beat.size h.small))
    h.param) (lt-ltb _ _ h.source)) (lt-ltb _ _ h.address)) (eq-eqb _ _ h.aligned)

-- ---- a beat of a request

own_fields : (width : ℕ) (request : Request) (number : ℕ) → IsBeatOf request (a_beat width request number)
own_fields width request number = record { op = refl; param = refl; size = refl; source = refl; address = refl }

beats_count : (width : ℕ) (request : Request) → length (beats_of_request width request) ≡ request_beats request.op request.size width
beats_count width request = length-map-range_with_len (a_beat width request) 0 (request_beats request.op request.size width)

beat_at : (width : ℕ) (request : Request) (number : ℕ) (none : ABeat) → number < request_beats request.op request.size width
    → get_or (beats_of_request width request) number none ≡ a_beat width request number
beat_at width request number none h =
    get_or-map-range_with_len (a_beat width request) 0 (request_beats request.op request.size width) number number none h (omega arith)

there_beat : (width : ℕ) (request : Request) (number : ℕ) → number < request_beats request.op request.size width
    → slice_get (beats_of_request width request) number ≡ Some (a_beat width request number)
there_beat width request number h =
    slice_get-get_or (beats_of_request width request) number (a_beat width request 0) (subst (λ n. number < n) (sym (beats_count width request)) h)
    ∙ ap (λ b. Some b) (beat_at width request number (a_beat width request 0) h)

-- two requests whose first beats are the same, so many
same_front : (width : ℕ) (request other : Request) (count : ℕ) → count ≤ request_beats request.op request.size width
    → count ≤ request_beats other.op other.size width
    → ((i : ℕ) → i < count → a_beat width request i ≡ a_beat width other i)
    → take count (beats_of_request width request) ≡ take count (beats_of_request width other)
same_front width request other count h g same =
    let one : length (take count (beats_of_request width request)) ≡ count = omega (arith, h, length-take count (beats_of_request width request), beats_count width request) in
    let two : length (take count (beats_of_request width other)) ≡ count = omega (arith, g, length-take count (beats_of_request width other), beats_count width other) in
    ext_get_or (a_beat width request 0) (take count (beats_of_request width request)) (take count (beats_of_request width other)) (one ∙ sym two)
    (λ i l. let less : i < count = subst (λ n. i < n) one l in
    get_or-take count (beats_of_request width request) i (a_beat width request 0) less
    ∙ beat_at width request i (a_beat width request 0) (omega (arith, less, h))
    ∙ same i less
    ∙ sym (beat_at width other i (a_beat width request 0) (omega (arith, less, g)))
    ∙ sym (get_or-take count (beats_of_request width other) i (a_beat width request 0) less))

-- ---- the test passes only where a beat may leave

-- a request of a beat's operation and fields, with no flag set and with zeros for data
abbrev blank : ABeat → Request
blank beat = record {
  op = beat.op;
  param = beat.param;
  size = beat.size;
  source = beat.source;
  address = beat.address;
  mask = replicate (cond (has_flags beat.op) (bytes_of beat.size) 0) false;
  payload = replicate (cond (has_data beat.op) (bytes_of beat.size) 0) 0;
}

blank_bytes : (count : ℕ) → AreBytes (replicate count 0)
blank_bytes count = All-replicate (λ byte. byte < 256) count 0 (lit< tt)

blank_asked : (addresses : List ℕ) (held : HeldBytes) (beat : ABeat) → HasJust addresses held → AreLegal beat
    → HasRow addresses beat.address (bytes_of beat.size) → MayBeAsked held (blank beat)
blank_asked addresses held beat has legal row = record {
  shape = record {
    small = legal.size;
    aligned = legal.aligned;
    flags = length-replicate (cond (has_flags beat.op) (bytes_of beat.size) 0) false;
    bytes = length-replicate (cond (has_data beat.op) (bytes_of beat.size) 0) 0;
  };
  address = legal.address;
  source = legal.source;
  small = legal.small;
  param = legal.param;
  has = λ number h. (has (beat.address + number)).1 (row number h);
}

-- with another mask and other data of the same lengths a request may be asked as well
asked_too : (held : HeldBytes) (request : Request) (mask : List Bool) (payload : List ℕ) → MayBeAsked held request
    → IsRequest (record request { mask = mask; payload = payload }) → MayBeAsked held (record request { mask = mask; payload = payload })
asked_too held request mask payload asked shape = record {
  shape = shape;
  address = asked.address;
  source = asked.source;
  small = asked.small;
  param = asked.param;
  has = asked.has;
}

-- a beat that is put into a request behind beats of it is the next one
leaves_next : (addresses : List ℕ) (sink : Sinking) (request : Request) (beat : ABeat) → IsTrue (is_width sink.port.width)
    → MayBeAsked sink.device.held request → AreBytes request.payload
    → sink.port.taken ≡ take (length sink.port.taken) (beats_of_request sink.port.width request)
    → length sink.port.taken < request_beats request.op request.size sink.port.width → IsBeatOf request beat
    → sink.device.prepared ≡ true → MayTake addresses sink.port beat → MayLeave sink beat
leaves_next addresses sink request beat bus asked bytes before few fields prepared may =
    let done = has_put sink.port.width (length sink.port.taken) request beat bus asked.shape bytes few fields may.passes.mask may.passes.bytes in
    let new : Request = put sink.port.width (length sink.port.taken) request beat in
    record {
      takes = may.takes;
      prepared = prepared;
      request = new;
      asked = asked_too sink.device.held request new.mask new.payload asked done.shape;
      bytes = done.bytes;
      before = before ∙ same_front sink.port.width request new (length sink.port.taken) (omega (arith, few)) (omega (arith, few)) (λ i l. sym (done.before i l));
      next = there_beat sink.port.width new (length sink.port.taken) few ∙ ap (λ b. Some b) done.here;
    }

head_is : (width : ℕ) (request : Request) (head : ABeat) (rest : List ABeat)
    → head ∷ rest ≡ take (length (head ∷ rest)) (beats_of_request width request) → head ≡ a_beat width request 0
head_is width request head rest e =
    ap (λ (beats : List ABeat). get_or beats 0 head) e
    ∙ get_or-take (length (head ∷ rest)) (beats_of_request width request) 0 head (omega arith)
    ∙ beat_at width request 0 head (omega (arith, heads_law.request_some width request))

fields_on : (request : Request) (head beat : ABeat) → IsBeatOf request head → HasFieldsOf head beat → IsBeatOf request beat
fields_on request head beat is same = record {
  op = same.op ∙ is.op;
  param = same.param ∙ is.param;
  size = same.size ∙ is.size;
  source = same.source ∙ is.source;
  address = same.address ∙ is.address;
}

may_leave : (addresses : List ℕ) (sink : Sinking) (beat : ABeat) → IsTrue (is_width sink.port.width) → IsPreparedAt addresses sink
    → MayTake addresses sink.port beat → MayLeave sink beat
may_leave addresses sink beat bus prepared may = go sink.port.taken refl may.passes.follows
  where
    go : (taken : List ABeat) → sink.port.taken ≡ taken → CarriesOn addresses taken beat → MayLeave sink beat
    go [] e row =
        let asked = blank_asked addresses sink.device.held beat prepared.has (are_legal beat may.passes.legal) row in
        let none : length sink.port.taken ≡ 0 = ap (λ (ts : List ABeat). length ts) e in
        leaves_next addresses sink (blank beat) beat bus asked (blank_bytes (cond (has_data beat.op) (bytes_of beat.size) 0))
        (e ∙ sym (ap (λ n. take n (beats_of_request sink.port.width (blank beat))) none))
        (omega (arith, none, heads_law.request_some sink.port.width (blank beat)))
        (record { op = refl; param = refl; size = refl; source = refl; address = refl }) prepared.prepared may
    go (head ∷ rest) e same =
        let begun = prepared.begun (omega (arith, ap (λ (ts : List ABeat). length ts) e)) in
        let before : head ∷ rest ≡ take (length (head ∷ rest)) (beats_of_request sink.port.width begun.request) =
        subst (λ (ts : List ABeat). ts ≡ take (length ts) (beats_of_request sink.port.width begun.request)) e begun.before in
        let head_fields : IsBeatOf begun.request head =
        subst (λ (b : ABeat). IsBeatOf begun.request b) (sym (head_is sink.port.width begun.request head rest before)) (own_fields sink.port.width begun.request 0) in
        leaves_next addresses sink begun.request beat bus begun.asked begun.bytes begun.before begun.few (fields_on begun.request head beat head_fields same) prepared.prepared may

-- ---- and wherever a beat may leave it passes

follows_there : (addresses : List ℕ) (held : HeldBytes) (width number : ℕ) (request : Request) (taken : List ABeat)
    → HasJust addresses held → MayBeAsked held request → taken ≡ take (length taken) (beats_of_request width request)
    → CarriesOn addresses taken (a_beat width request number)
follows_there addresses held width number request [] has asked before =
    λ n h. (has (request.address + n)).0 (asked.has n h)
follows_there addresses held width number request (head ∷ rest) has asked before =
    subst (λ (b : ABeat). HasFieldsOf b (a_beat width request number)) (sym (head_is width request head rest before))
    (record { op = refl; param = refl; size = refl; source = refl; address = refl })

may_take : (addresses : List ℕ) (sink : Sinking) (beat : ABeat) → IsTrue (is_width sink.port.width) → IsPreparedAt addresses sink
    → MayLeave sink beat → MayTake addresses sink.port beat
may_take addresses sink beat bus prepared may =
    let is = next_law.request_beat sink.port.width may.request (length sink.port.taken) beat may.next in
    let pass = beats_pass sink.port.width (length sink.port.taken) may.request bus may.asked.shape may.bytes is.0 in
    let there : PassesTest addresses sink.port.width sink.port.taken (a_beat sink.port.width may.request (length sink.port.taken)) = record {
      legal = legal_are (a_beat sink.port.width may.request (length sink.port.taken)) (record {
        size = may.asked.shape.small;
        small = may.asked.small;
        param = may.asked.param;
        source = may.asked.source;
        address = may.asked.address;
        aligned = may.asked.shape.aligned;
      });
      follows = follows_there addresses sink.device.held sink.port.width (length sink.port.taken) may.request sink.port.taken prepared.has may.asked may.before;
      mask = pass.0;
      bytes = pass.1;
    } in
    record {
      takes = may.takes;
      passes = subst (λ (b : ABeat). PassesTest addresses sink.port.width sink.port.taken b) (sym is.1) there;
    }

-- both with the addresses as they are lent
pub leaves_if : (addresses lent : List ℕ) (sink : Sinking) (beat : ABeat) → lent ≡ addresses → IsTrue (is_width sink.port.width)
    → IsPreparedAt addresses sink → MayTake lent sink.port beat → MayLeave sink beat
leaves_if addresses lent sink beat e bus prepared may =
    may_leave addresses sink beat bus prepared (subst (λ (xs : List ℕ). MayTake xs sink.port beat) e may)

pub if_leaves : (addresses lent : List ℕ) (sink : Sinking) (beat : ABeat) → lent ≡ addresses → IsTrue (is_width sink.port.width)
    → IsPreparedAt addresses sink → MayLeave sink beat → MayTake lent sink.port beat
if_leaves addresses lent sink beat e bus prepared may =
    subst (λ (xs : List ℕ). MayTake xs sink.port beat) (sym e) (may_take addresses sink beat bus prepared may)

-- ---- a prepared port stays one

taken_none : (sink : Sinking) (cycle : ℕ) (taken : List ABeat) (beat : ABeat)
    → (sink_answered sink cycle (joined_request sink.port.width (taken ++ beat ∷ []))).port.taken ≡ []
taken_none sink cycle [] beat = refl
taken_none sink cycle (one ∷ taken) beat = refl

one_more : (sink : Sinking) (beat : ABeat) → MayLeave sink beat → are_all sink.port.width (sink.port.taken ++ beat ∷ []) beat ≡ false
    → HasBegun sink.device.held sink.port.width (sink.port.taken ++ beat ∷ [])
one_more sink beat may not_all =
    let width : ℕ = sink.port.width in
    let is = next_law.request_beat sink.port.width may.request (length sink.port.taken) beat may.next in
    let next = next_of sink.port.width may.request sink.port.taken beat may.asked.shape.small may.before may.next in
    let within : length sink.port.taken < length (beats_of_request sink.port.width may.request) = slice_get_within (beats_of_request sink.port.width may.request) (length sink.port.taken) beat may.next in
    let more : take (length sink.port.taken + 1) (beats_of_request sink.port.width may.request) ≡ sink.port.taken ++ beat ∷ [] =
    take_more (beats_of_request sink.port.width may.request) (length sink.port.taken) beat within
    ∙ ap (λ x. take (length sink.port.taken) (beats_of_request sink.port.width may.request) ++ x ∷ []) (get_or_from_slice_get (beats_of_request sink.port.width may.request) (length sink.port.taken) beat beat may.next)
    ∙ ap (λ xs. xs ++ beat ∷ []) (sym may.before) in
    let many : length (sink.port.taken ++ beat ∷ []) ≡ length sink.port.taken + 1 = length-append sink.port.taken (beat ∷ []) in
    let count : request_beats beat.op beat.size sink.port.width ≡ request_beats may.request.op may.request.size sink.port.width =
    ap (λ o. request_beats o beat.size sink.port.width) next.fields.op ∙ ap (λ n. request_beats may.request.op n sink.port.width) next.fields.size in
    let fewer : length (sink.port.taken ++ beat ∷ []) ≡ request_beats beat.op beat.size sink.port.width → ⊥ =
    λ e. let all : are_all sink.port.width (sink.port.taken ++ beat ∷ []) beat ≡ true = eq-eqb _ _ e in
    absurd (let wrong : true ≡ false = sym all ∙ not_all in cc) in
    record {
      request = may.request;
      asked = may.asked;
      bytes = may.bytes;
      before = sym more ∙ ap (λ n. take n (beats_of_request sink.port.width may.request)) (sym many);
      few = less_if (length (sink.port.taken ++ beat ∷ [])) (request_beats may.request.op may.request.size sink.port.width) (omega (arith, many, is.0)) (λ e. fewer (e ∙ sym count));
    }
  where
    less_if : (n m : ℕ) → n ≤ m → (n ≡ m → ⊥) → n < m
    less_if n m h not_same = elim (cases_order n m) [
      | inl same ↦ absurd (not_same same)
      | inr other ↦ elim other [
        | inl less ↦ less
        | inr more ↦ absurd (omega (arith, more, h))
      ]
    ]

begun_after : (sink : Sinking) (cycle : ℕ) (beat : ABeat) (b : Bool) → MayLeave sink beat
    → are_all sink.port.width (sink.port.taken ++ beat ∷ []) beat ≡ b
    → 0 < length (after_leave sink cycle beat).port.taken
    → HasBegun (after_leave sink cycle beat).device.held (after_leave sink cycle beat).port.width (after_leave sink cycle beat).port.taken
begun_after sink cycle beat true may e some =
    let is : after_leave sink cycle beat ≡ sink_answered sink cycle (joined_request sink.port.width (sink.port.taken ++ beat ∷ [])) =
    ap (λ b. cond b (sink_answered sink cycle (joined_request sink.port.width (sink.port.taken ++ beat ∷ [])))
    (sinking sink.device (with_taken sink.port (sink.port.taken ++ beat ∷ [])))) e in
    absurd (omega (arith, some, ap (λ (s : Sinking). length s.port.taken) is, ap (λ (ts : List ABeat). length ts) (taken_none sink cycle sink.port.taken beat)))
begun_after sink cycle beat false may e some =
    let is : after_leave sink cycle beat ≡ sinking sink.device (with_taken sink.port (sink.port.taken ++ beat ∷ [])) =
    ap (λ b. cond b (sink_answered sink cycle (joined_request sink.port.width (sink.port.taken ++ beat ∷ [])))
    (sinking sink.device (with_taken sink.port (sink.port.taken ++ beat ∷ [])))) e in
    subst (λ (s : Sinking). HasBegun s.device.held s.port.width s.port.taken) (sym is) (one_more sink beat may e)

pub leave_prepared : (addresses : List ℕ) (sink now : Sinking) (cycle : ℕ) (beat : ABeat) → IsPreparedAt addresses sink → MayLeave sink beat
    → now ≡ after_leave sink cycle beat → HaveSame now.device.held sink.device.held → IsPreparedAt addresses now
leave_prepared addresses sink now cycle beat is may e same =
    record {
      prepared = ap (λ (s : Sinking). s.device.prepared) e ∙ (leave_kept sink cycle beat).prepared ∙ is.prepared;
      has = λ address. (λ s. (is.has address).0 ((same address).0 s), λ c. (same address).1 ((is.has address).1 c));
      rising = is.rising;
      begun = subst (λ (s : Sinking). 0 < length s.port.taken → HasBegun s.device.held s.port.width s.port.taken) (sym e)
          (begun_after sink cycle beat (are_all sink.port.width (sink.port.taken ++ beat ∷ []) beat) may refl);
    }

pub reply_prepared : (addresses : List ℕ) (sink now : Sinking) → IsPreparedAt addresses sink
    → now ≡ sinking sink.device (after_reply sink.port) → IsPreparedAt addresses now
reply_prepared addresses sink now is e =
    subst (λ (s : Sinking). IsPreparedAt addresses s) (sym e)
    (record { prepared = is.prepared; has = is.has; rising = is.rising; begun = is.begun })
