-- What a source port offers, as a function of what it is to send and of what happened at it.
use Rattle.std.specs.Prelude.{ℕ, suc, ◌≡◌, ◌≤◌, ◌<◌, ◌+◌, ◌-◌, ◌^◌, ◌&&◌, nat_eq, nat_le, nat_lt, not, Bool, true, false, cond, IsTrue, Option, Some, None, All, List, [], ◌∷◌, length, take, count_by, sum_by, slice_get, slice_index}
use Rattle.std.specs.List.{range_with_len}
use Rattle.tl_params.specs.Arguments.{is_width}
use Rattle.tl_edge.specs.declared.beat.ABeat.{ABeat}
use Rattle.tl_edge.specs.declared.beat.Event.{Event}
use Rattle.tl_edge.specs.declared.beat.What.{What}
use Rattle.tl_edge.specs.declared.beat.What.TheVariants.{Enter, Return, Leave, Reply}
use Rattle.tl_edge.specs.declared.message.Request.{Request}
use Rattle.tl_edge.specs.Beats.{a_beat, request_beats, response_beats}
use Rattle.tl_edge.specs.Messages.{IsRequest, ack_of}
use Rattle.sim_ports.specs.declared.source.Sent.{Sent}

-- what a port sends: on a bus of some bytes, requests one after another, each from a cycle on; and its number of ids
pub record Script : Type 0 where
  pub width : ℕ
  pub ids : ℕ
  pub requests : List Request
  pub starts : List ℕ

-- ---- what happened at the port

abbrev pub is_enter : What → Bool
is_enter (Enter beat) = true
is_enter (Return beat) = false
is_enter (Leave beat) = false
is_enter (Reply beat) = false

abbrev pub is_return : ℕ → What → Bool
is_return id (Enter beat) = false
is_return id (Return beat) = nat_eq beat.source id
is_return id (Leave beat) = false
is_return id (Reply beat) = false

-- how many beats have entered
abbrev pub entered : List Event → ℕ
entered history = count_by (λ e. is_enter e.what) history

-- how many beats with an id have returned
abbrev pub returned : List Event → ℕ → ℕ
returned history id = count_by (λ e. is_return id e.what) history

-- ---- where the port stands

-- a message more
abbrev pub one_more : Sent → Sent
one_more sent = record { whole = suc sent.whole; part = sent.part }

-- of so many beats: how many requests have all of theirs among them, and how many are of the request after these
abbrev pub sent_of : ℕ → List Request → ℕ → Sent
sent_of width [] beats = record { whole = 0; part = 0 }
sent_of width (request ∷ requests) beats =
    cond (nat_lt beats (request_beats request.op request.size width)) (record { whole = 0; part = beats })
    (one_more (sent_of width requests (beats - request_beats request.op request.size width)))

-- with a beat more, of a message that has so many
abbrev pub one_beat_more : Sent → ℕ → Sent
one_beat_more sent beats =
    cond (nat_eq (sent.part + 1) beats) (record { whole = sent.whole + 1; part = 0 })
    (record { whole = sent.whole; part = sent.part + 1 })

-- how many requests have begun
abbrev pub begun_of : Sent → ℕ
begun_of sent = cond (nat_eq sent.part 0) sent.whole (sent.whole + 1)

-- how many beats the response to a request has
abbrev pub beats_due : ℕ → Request → ℕ
beats_due width request = response_beats (ack_of request.op) request.size width

-- how many beats answer the first requests, so many, as far as they have an id
abbrev pub due_with_id : ℕ → List Request → ℕ → ℕ → ℕ
due_with_id width requests count id =
    sum_by (λ request. cond (nat_eq request.source id) (beats_due width request) 0) (take count requests)

-- what has been sent of a script
abbrev pub sent_at : Script → List Event → Sent
sent_at script history = sent_of script.width script.requests (entered history)

-- how many of its requests have begun
abbrev pub begun_at : Script → List Event → ℕ
begun_at script history = begun_of (sent_at script history)

-- an id is busy: of the beats that answer the requests begun with it one hasn't returned
abbrev pub is_busy : Script → List Event → ℕ → Bool
is_busy script history id =
    nat_lt (returned history id) (due_with_id script.width script.requests (begun_at script history) id)

-- how many requests have returned their last beat: those that have begun, but for the one of each busy id
abbrev pub finished_at : Script → List Event → ℕ
finished_at script history =
    begun_at script history - count_by (is_busy script history) (range_with_len 0 script.ids)

-- ---- what it offers

-- the next beat of a request of which some were sent; the first one only from the request's cycle on, and where its id
-- isn't busy
abbrev pub offer_of : ℕ → Option Request → ℕ → ℕ → (ℕ → Bool) → ℕ → Option ABeat
offer_of width None part start busy cycle = None
offer_of width (Some request) part start busy cycle =
    cond (nat_eq part 0 && not (nat_le start cycle && not (busy request.source))) None
    (Some (a_beat width request part))

-- what the port offers in a cycle
abbrev pub source_offers : Script → List Event → ℕ → Bool → Option ABeat
source_offers script history cycle stalled =
    let sent = sent_at script history in
    cond stalled None
    (offer_of script.width (slice_get script.requests sent.whole) sent.part (slice_index script.starts sent.whole)
    (is_busy script history) cycle)

-- ---- a driver, as it is kept, and what it is after some history

-- how many beats are to come back for each id
pub record Sending : Type 0 where
  pub width : ℕ
  pub requests : List Request
  pub starts : List ℕ
  pub sent : Sent
  pub left : List ℕ

-- beats with the id are to come
abbrev pub waits_for : Sending → ℕ → Bool
waits_for driver id = not (nat_eq (slice_index driver.left id) 0)

-- what it offers, as it is kept
abbrev pub offers_now : Sending → ℕ → Option ABeat
offers_now driver cycle =
    offer_of driver.width (slice_get driver.requests driver.sent.whole) driver.sent.part
    (slice_index driver.starts driver.sent.whole) (waits_for driver) cycle

-- a whole request with an id below a number
pub record MayBeSent (ids : ℕ) (request : Request) : Type 0 where
  pub shape : IsRequest request
  pub id : request.source < ids

-- it sends a script, and this has happened
pub record Sends (script : Script) (history : List Event) (driver : Sending) : Type 0 where
  pub width : driver.width ≡ script.width
  pub may : All (MayBeSent script.ids) script.requests
  pub ids : length driver.left ≡ script.ids
  pub requests : driver.requests ≡ script.requests
  pub starts : driver.starts ≡ script.starts
  pub sent : driver.sent ≡ sent_at script history
  pub left : (id : ℕ) → id < script.ids
      → slice_index driver.left id + returned history id
      ≡ due_with_id script.width script.requests (begun_at script history) id

-- ---- what a driver has at all times

-- so many beats of a request are not yet all
abbrev pub PartFits : ℕ → Option Request → ℕ → Type 0
PartFits width None part = part ≡ 0
PartFits width (Some request) part = part < request_beats request.op request.size width

-- a driver that may go on
pub record IsSending (driver : Sending) : Type 0 where
  pub bus : IsTrue (is_width driver.width)
  pub ids : length driver.left < 2 ^ 32
  pub few : length driver.requests ≤ 10000
  pub starts : length driver.starts ≡ length driver.requests
  pub requests : All (MayBeSent (length driver.left)) driver.requests
  pub whole : driver.sent.whole ≤ length driver.requests
  pub part : PartFits driver.width (slice_get driver.requests driver.sent.whole) driver.sent.part
