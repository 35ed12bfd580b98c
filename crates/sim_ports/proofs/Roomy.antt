-- Rooms for requests and responses, what is put into them, and the history of a sink port.
use Rattle.std.proofs.Common.{ℕ, zero, suc, ◌≡◌, ◌+◌, ◌/◌, ◌%◌, ◌<◌, ◌≤◌, List, [], ◌∷◌, ◌++◌, length, get_or, set, take, drop, map, Bool, IsTrue, Some, None, slice_get, refl, ap, sym, subst, ◌∙◌, arith}
use Rattle.std.specs.List.{range_with_len}
use Rattle.std.proofs.lemmas.List.{length-append, length-set}
use Rattle.std.proofs.lemmas.List.FromFn.{length-map-range_with_len}
use Rattle.std.proofs.Math.Seq.{take-append_seam}
use Rattle.std.proofs.lemmas.Option.{slice_get-get_or}
use Rattle.tl_params.specs.declared.ops.Op.{Op}
use Rattle.tl_params.specs.declared.ops.Op.TheVariants.{PutFull, PutPartial, Arithmetic, Logical, Get, Intent}
use Rattle.tl_params.specs.Codes.{code_of_op, op_of_code}
use Rattle.tl_edge.specs.declared.beat.ABeat.{ABeat}
use Rattle.tl_edge.specs.declared.beat.DBeat.{DBeat}
use Rattle.tl_edge.specs.declared.beat.Event.{Event}
use Rattle.tl_edge.specs.declared.beat.What.{What}
use Rattle.tl_edge.specs.declared.beat.What.TheVariants.{Enter, Return, Leave, Reply}
use Rattle.tl_edge.specs.declared.message.Request.{Request}
use Rattle.tl_edge.specs.declared.message.Response.{Response}
use Rattle.tl_edge.specs.Beats.{beats_of_request}
use Rattle.tl_edge.specs.BeatLaws.{IsBeatOf, IsSent}
use Rattle.sim_ports.specs.declared.room.Room.{Room}
use Rattle.sim_ports.specs.Devices.{Meaning, device_answer}
use Rattle.sim_ports.specs.Rooms.{Suits, SuitsAt, SuitsResponse, SuitsRequest, HasSpace, AllSuit, IsAsLarge, gathered_byte, gathered_flag, room_place, with_answer}
use Rattle.sim_ports.specs.Sinks.{AreWhole, MayLeave, Serves, Serving, Sinking, after_leave, after_reply, after_what, are_all, is_reply, response_of, served, with_taken}
use Rattle.sim_ports.proofs.Gathered.{bytes_are, flags_are, next_of}

-- ---- rooms

code_back : (op : Op) → op_of_code (code_of_op op) ≡ Some op
code_back PutFull = refl
code_back PutPartial = refl
code_back Arithmetic = refl
code_back Logical = refl
code_back Get = refl
code_back Intent = refl

some_same : {A : Type 0} (x y : A) → Some x ≡ Some y → x ≡ y
some_same x y e = cc

-- a code is below six
few_codes : (op : Op) → code_of_op op ≤ 5
few_codes PutFull = omega arith
few_codes PutPartial = omega arith
few_codes Arithmetic = omega arith
few_codes Logical = omega arith
few_codes Get = omega arith
few_codes Intent = omega arith

one_code : (op other : Op) → code_of_op op ≡ code_of_op other → op ≡ other
one_code op other e = some_same op other (sym (code_back op) ∙ ap op_of_code e ∙ code_back other)

-- the room for an operation and a size is the one for what stands at its place
pub room_is : (place : ℕ) (op : Op) (request : Request) (response : Response) → code_of_op op ≡ place / 9
    → SuitsRequest op (place % 9) request → SuitsResponse op (place % 9) response
    → SuitsAt place (record { request = request; response = response })
room_is place op request response e there back = λ other size few at.
    let code : code_of_op op ≡ code_of_op other = omega arith in
    let same = one_code op other code in
    let sized : place % 9 ≡ size = omega arith in
    subst (λ (o : Op). Suits o size (record { request = request; response = response })) same
    (subst (λ n. Suits op n (record { request = request; response = response })) sized (record { there = there; back = back }))

-- what holds of each item by its place holds when one is added, and when one is replaced
pub each_more : {A : Type 0} (P : ℕ → A → Type 0) (xs : List A) (x : A) (count : ℕ) → length xs ≡ count
    → ((place : ℕ) (one : A) → slice_get xs place ≡ Some one → P place one) → P count x
    → (place : ℕ) (one : A) → slice_get (xs ++ x ∷ []) place ≡ Some one → P place one
each_more P [] x count l before now zero one h =
    subst (P zero) (some_same x one h) (subst (λ n. P n x) (sym l) now)
each_more P [] x count l before now (suc place) one h = absurd (let e : None ≡ Some one = h in cc)
each_more P (y ∷ xs) x count l before now zero one h = before zero one h
each_more P (y ∷ xs) x zero l before now (suc place) one h = absurd (omega (arith, l))
each_more P (y ∷ xs) x (suc count) l before now (suc place) one h =
    each_more (λ n. P (suc n)) xs x count (omega (arith, l)) (λ n z e. before (suc n) z e) now place one h

each_set : {A : Type 0} (P : ℕ → A → Type 0) (xs : List A) (at : ℕ) (x : A)
    → ((place : ℕ) (one : A) → slice_get xs place ≡ Some one → P place one) → P at x
    → (place : ℕ) (one : A) → slice_get (set xs at x) place ≡ Some one → P place one
each_set P [] at x before now place one h = before place one h
each_set P (y ∷ xs) zero x before now zero one h = subst (P zero) (some_same x one h) now
each_set P (y ∷ xs) zero x before now (suc place) one h = before (suc place) one h
each_set P (y ∷ xs) (suc at) x before now zero one h = before zero one h
each_set P (y ∷ xs) (suc at) x before now (suc place) one h =
    each_set (λ n. P (suc n)) xs at x (λ n z e. before (suc n) z e) now place one h

-- a room that is as large as the one in whose place it is put
pub still_room : (rooms : List Room) (place : ℕ) (old room : Room) → AllSuit rooms → slice_get rooms place ≡ Some old
    → IsAsLarge room old → AllSuit (set rooms place room)
still_room rooms place old room h at large = record {
  all = length-set rooms place room ∙ h.all;
  fits = each_set SuitsAt rooms place room h.fits (λ op size few e.
      let there = h.fits place old at op size few e in
      record {
        there = record { flags = large.flags ∙ there.there.flags; bytes = large.bytes ∙ there.there.bytes };
        back = large.back ∙ there.back;
      });
}

-- ---- what is put into them

-- a list of which all items are replaced
refilled_is : {A : Type 0} (old new : List A) → length new ≡ length old
    → take (length old) (new ++ drop (length new) old) ≡ new
refilled_is old new e = ap (λ n. take n (new ++ drop (length new) old)) (sym e) ∙ take-append_seam new (drop (length new) old)

same_request : (op : Op) (param size source address : ℕ) (mask : List Bool) (payload : List ℕ) (whole : Request)
    → op ≡ whole.op → param ≡ whole.param → size ≡ whole.size → source ≡ whole.source → address ≡ whole.address
    → mask ≡ whole.mask → payload ≡ whole.payload
    → record { op = op; param = param; size = size; source = source; address = address; mask = mask; payload = payload } ≡ whole
same_request op param size source address mask payload whole a b c d e f g = rw (a, b, c, d, e, f, g) refl

pub request_gathered : (width : ℕ) (whole fresh : Request) (head : ABeat) (beats : List ABeat) (flags : List Bool) (bytes : List ℕ)
    → IsSent width whole → beats ≡ beats_of_request width whole → IsBeatOf whole head → IsBeatOf fresh head
    → SuitsRequest whole.op whole.size fresh
    → flags ≡ map (gathered_flag width beats) (range_with_len 0 (length fresh.mask))
    → bytes ≡ map (gathered_byte width beats) (range_with_len 0 (length fresh.payload))
    → record {
      op = fresh.op;
      param = fresh.param;
      size = fresh.size;
      source = fresh.source;
      address = fresh.address;
      mask = take (length fresh.mask) (flags ++ drop (length flags) fresh.mask);
      payload = take (length fresh.payload) (bytes ++ drop (length bytes) fresh.payload);
    } ≡ whole
request_gathered width whole fresh head beats flags bytes sent is of_whole of_fresh room f b =
    let many_flags : length flags ≡ length fresh.mask = ap (λ xs. length xs) f ∙ length-map-range_with_len _ 0 (length fresh.mask) in
    let many_bytes : length bytes ≡ length fresh.payload = ap (λ xs. length xs) b ∙ length-map-range_with_len _ 0 (length fresh.payload) in
    let due_flags : length fresh.mask ≡ length whole.mask = room.flags ∙ sym sent.whole.shape.flags in
    let due_bytes : length fresh.payload ≡ length whole.payload = room.bytes ∙ sym sent.whole.shape.bytes in
    let mask : flags ≡ whole.mask = f ∙ ap (λ n. map (gathered_flag width beats) (range_with_len 0 n)) due_flags
    ∙ ap (λ xs. map (gathered_flag width xs) (range_with_len 0 (length whole.mask))) is ∙ flags_are _ width whole refl sent in
    let payload : bytes ≡ whole.payload = b ∙ ap (λ n. map (gathered_byte width beats) (range_with_len 0 n)) due_bytes
    ∙ ap (λ xs. map (gathered_byte width xs) (range_with_len 0 (length whole.payload))) is ∙ bytes_are _ width whole refl sent in
    same_request fresh.op fresh.param fresh.size fresh.source fresh.address _ _ whole
    (sym of_fresh.op ∙ of_whole.op) (sym of_fresh.param ∙ of_whole.param) (sym of_fresh.size ∙ of_whole.size)
    (sym of_fresh.source ∙ of_whole.source) (sym of_fresh.address ∙ of_whole.address)
    (refilled_is fresh.mask flags many_flags ∙ mask) (refilled_is fresh.payload bytes many_bytes ∙ payload)

pub answer_given : (device : Meaning) (request : Request) (denied : Bool) (old new : List ℕ) → length new ≡ length old
    → denied ≡ (device_answer device request).denied → new ≡ (device_answer device request).payload
    → with_answer request denied (take (length old) (new ++ drop (length new) old)) ≡ response_of device request
answer_given device request denied old new l d p =
    ap (λ b. with_answer request b (take (length old) (new ++ drop (length new) old))) d
    ∙ ap (with_answer request (device_answer device request).denied) (refilled_is old new l ∙ p)

-- ---- the history of a port

pub served_more : (sink : Sinking) (history : List Event) (event : Event)
    → served sink (history ++ event ∷ []) ≡ after_what (served sink history) event.cycle event.what
served_more sink [] event = refl
served_more sink (one ∷ more) event = served_more (after_what sink one.cycle one.what) more event

replied_is : (sink : Sinking) (cycle : ℕ) (what : What) → IsTrue (is_reply what)
    → after_what sink cycle what ≡ record { device = sink.device; port = after_reply sink.port }
replied_is sink cycle (Enter beat) h = cc
replied_is sink cycle (Return beat) h = cc
replied_is sink cycle (Leave beat) h = cc
replied_is sink cycle (Reply beat) h = refl

pub serves_reply : (first : Sinking) (history : List Event) (event : Event) (sink now : Sinking) → IsTrue (is_reply event.what)
    → Serves first history sink → now ≡ record { device = sink.device; port = after_reply sink.port }
    → Serves first (history ++ event ∷ []) now
serves_reply first history event sink now h s e =
    e ∙ sym (replied_is sink event.cycle event.what h)
    ∙ ap (λ k. after_what k event.cycle event.what) s ∙ sym (served_more first history event)

pub serves_leave : (first : Sinking) (history : List Event) (event : Event) (sink now : Sinking) (cycle : ℕ) (beat : ABeat)
    → event.cycle ≡ cycle → event.what ≡ Leave beat
    → Serves first history sink → now ≡ after_leave sink cycle beat
    → Serves first (history ++ event ∷ []) now
serves_leave first history event sink now cycle beat c w s e =
    e ∙ sym (ap (λ n. after_what sink n event.what) c ∙ ap (after_what sink cycle) w)
    ∙ ap (λ k. after_what k event.cycle event.what) s ∙ sym (served_more first history event)

-- the beats that are still to pass, after one more
none_of : (count : ℕ) (replies : List DBeat) → replies ≡ [] → drop count replies ≡ []
none_of zero replies e = e
none_of (suc count) [] e = refl
none_of (suc count) (reply ∷ replies) e = cc

pub one_passed : (replies : List DBeat) (passed : ℕ) → drop (passed + 1) replies ≡ drop 1 (drop passed replies)
one_passed replies zero = refl
one_passed [] (suc passed) = none_of (suc passed + 1) [] refl ∙ sym (ap (drop 1) (none_of (suc passed) [] refl))
one_passed (reply ∷ replies) (suc passed) =
    let next : suc passed + 1 ≡ suc (passed + 1) = omega arith in
    ap (λ n. drop n (reply ∷ replies)) next ∙ one_passed replies passed

-- ---- what the calls of a driver owe

pub room_for : (request : Request) (head : ABeat) (room : Room) → IsBeatOf request head → Suits head.op head.size room
    → Suits request.op request.size room
room_for request head room fields there =
    subst (λ (o : Op). Suits o request.size room) fields.op (subst (λ n. Suits head.op n room) fields.size there)

pub record HasMore (rooms : List Room) (count : ℕ) : Type 0 where
  pub all : length rooms ≡ count
  pub fits : (place : ℕ) (room : Room) → slice_get rooms place ≡ Some room → SuitsAt place room

pub has_more : (rooms now : List Room) (room : Room) (count : ℕ) → length rooms ≡ count
    → ((place : ℕ) (one : Room) → slice_get rooms place ≡ Some one → SuitsAt place one) → SuitsAt count room
    → now ≡ rooms ++ room ∷ [] → HasMore now (count + 1)
has_more rooms now room count l fits at is =
    subst (λ (rs : List Room). HasMore rs (count + 1)) (sym is) (record {
      all = length-append rooms (room ∷ []) ∙ omega (arith, l);
      fits = each_more SuitsAt rooms room count l fits at;
    })

pub room_there : (op : Op) (size place : ℕ) (rooms lent : List Room) (none : Room) → AllSuit rooms → size ≤ 8
    → place ≡ room_place op size → lent ≡ rooms → Suits op size (get_or lent place none)
room_there op size place rooms lent none have small at is =
    let below : place < length rooms = omega (arith, at, have.all, few_codes op) in
    subst (λ (rs : List Room). Suits op size (get_or rs place none)) (sym is)
    (have.fits place (get_or rooms place none) (slice_get-get_or rooms place none below) op size small (sym at))

pub whole_now : (sink : Sinking) (now : Serving) (beat : ABeat) (may : MayLeave sink beat)
    → now ≡ with_taken sink.port (sink.port.taken ++ beat ∷ []) → IsTrue (are_all now.width now.taken beat)
    → AreWhole sink.device.held now.width now.taken beat
whole_now sink now beat may is all =
    let next = next_of sink.port.width may.request sink.port.taken beat may.asked.shape.small may.before may.next in
    let before : Serving = with_taken sink.port (sink.port.taken ++ beat ∷ []) in
    let there : AreWhole sink.device.held before.width before.taken beat = record {
      request = may.request;
      asked = may.asked;
      bytes = may.bytes;
      is = next.all (subst (λ (p : Serving). IsTrue (are_all p.width p.taken beat)) is all);
      fields = next.fields;
    } in
    subst (λ (p : Serving). AreWhole sink.device.held p.width p.taken beat) (sym is) there

-- the room of a port is as large as before when the device has answered
pub space_kept : (taken : List ABeat) (count passed due now : ℕ) (replies lent into : List DBeat) → HasSpace taken count replies passed due
    → lent ≡ replies → length into ≡ length lent → now ≤ 256
    → HasSpace taken 0 (take (length replies) (into ++ drop (length into) replies)) 0 now
space_kept taken count passed due now replies lent into space is l few =
    let same : length into ≡ length replies = l ∙ ap (λ xs. length xs) is in
    let all = refilled_is replies into same in
    record {
      there = space.there;
      few = omega arith;
      back = ap (λ xs. length xs) all ∙ same ∙ space.back;
      behind = omega arith;
      bound = few;
    }

pub rooms_kept : (op : Op) (size place : ℕ) (rooms lent : List Room) (none room : Room) → AllSuit rooms → size ≤ 8
    → place ≡ room_place op size → lent ≡ rooms → IsAsLarge room (get_or lent place none)
    → AllSuit (take (length rooms) (set lent place room ++ drop (length (set lent place room)) rooms))
rooms_kept op size place rooms lent none room have small at is large =
    let below : place < length rooms = omega (arith, at, have.all, few_codes op) in
    let now = still_room rooms place (get_or rooms place none) room have (slice_get-get_or rooms place none below)
    (subst (λ (rs : List Room). IsAsLarge room (get_or rs place none)) is large) in
    let there : AllSuit (set lent place room) = subst (λ (rs : List Room). AllSuit (set rs place room)) (sym is) now in
    subst (λ (rs : List Room). AllSuit rs) (sym (refilled_is rooms (set lent place room) (length-set lent place room ∙ ap (λ xs. length xs) is))) there
