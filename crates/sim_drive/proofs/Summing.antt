-- What a run comes to: sums over its ports, as a loop makes them, and that they stay small.
use Rattle.std.proofs.Common.{◌≡◌, ℕ, zero, suc, ◌+◌, ◌*◌, ◌-◌, ◌^◌, ◌%◌, ◌/◌, ◌≤◌, ◌<◌, List, [], ◌∷◌, length, drop, get_or, Bool, true, false, cond, nat_lt, nat_eq, Some, slice_get, refl, sym, ap, ◌∙◌, subst, arith, add-one}
use Rattle.std.specs.Prelude.{◌==◌, sum}
use Rattle.std.proofs.lemmas.Option.{slice_get-get_or}
use Rattle.std.proofs.lemmas.List.{length-map}
use Rattle.std.proofs.lemmas.List.Sums.{count_by-le-length, length-filter, sum_by-cons, sum_by-drop_more}
use Rattle.std.proofs.Math.Nat.{mod-add-mod, suc-mul}
use Rattle.tl_edge.specs.declared.beat.Event.{Event}
use Rattle.tl_edge.specs.declared.message.Request.{Request}
use Rattle.tl_edge.specs.declared.plan.PlanPort.{PlanPort}
use Rattle.tl_edge.specs.Beats.{request_beats}
use Rattle.sim_ports.specs.declared.source.Sent.{Sent}
use Rattle.sim_ports.specs.Sinks.{Sinking}
use Rattle.sim_ports.specs.declared.stimulus.StimRequest.{StimRequest}
use Rattle.sim_ports.specs.Sources.{Script, Sending, Sends, begun_at, begun_of, entered, finished_at, one_more as one_message_more, sent_of}
use Rattle.sim_events.specs.Setups.{Setup, at_source, of_ports, script_at, stated_at}
use Rattle.sim_run.specs.Standing.{AreTold}
use Rattle.sim_drive.specs.Totals.{begun_by_port, byte_sum, bytes_returned, data_returned, returned_by_port}

-- ---- one port more

-- a sum with one number more in front
sum_cons : (x : ℕ) (xs : List ℕ) → sum (x ∷ xs) ≡ x + sum xs
sum_cons x xs = sum_by-cons (λ (n : ℕ). n) x xs

-- the sum over the ports from one on is that port's number and the sum over those behind it
port_more : (f : ℕ → PlanPort → ℕ) (i k : ℕ) (ports : List PlanPort) (at : PlanPort) → slice_get ports i ≡ Some at
    → sum (of_ports f k (drop i ports)) ≡ f k at + sum (of_ports f (k + 1) (drop (suc i) ports))
port_more f i k [] at e = absurd cc
port_more f zero k (p ∷ ports) at e =
    let q : p ≡ at = cc in
    sum_cons (f k p) (of_ports f (k + 1) ports) ∙ ap (λ (x : PlanPort). f k x + sum (of_ports f (k + 1) ports)) q
port_more f (suc i) k (p ∷ ports) at e = port_more f i k ports at e

-- behind the last port there is nothing to add
none_left : (f : ℕ → PlanPort → ℕ) (i k : ℕ) (ports : List PlanPort) → length ports ≤ i → sum (of_ports f k (drop i ports)) ≡ 0
none_left f zero k [] l = refl
none_left f (suc i) k [] l = refl
none_left f zero k (p ∷ ports) l = absurd (omega arith)
none_left f (suc i) k (p ∷ ports) l = none_left f i k ports (omega (arith, l))

-- ---- sums are small

-- where each port has at most so many, all of them have at most so many for each
few_in_all : (f : ℕ → PlanPort → ℕ) (b k : ℕ) (ports : List PlanPort) → ((i : ℕ) (at : PlanPort) → slice_get ports i ≡ Some at → f (k + i) at ≤ b)
    → sum (of_ports f k ports) ≤ length ports * b
few_in_all f b k [] h = omega arith
few_in_all f b k (p ∷ ports) h =
    let first : f k p ≤ b = subst (λ n. f n p ≤ b) (let z : k + 0 ≡ k = omega arith in z) (h 0 p refl) in
    let rest : sum (of_ports f (k + 1) ports) ≤ length ports * b =
    few_in_all f b (k + 1) ports (λ i at e. subst (λ n. f n at ≤ b) (let z : k + suc i ≡ k + 1 + i = omega arith in z) (h (suc i) at e)) in
    let all : f k p + sum (of_ports f (k + 1) ports) ≤ length ports * b + b = omega (arith, first, rest) in
    let row : suc (length ports) * b ≡ length ports * b + b = suc-mul (length ports) b in
    subst (λ n. n ≤ suc (length ports) * b) (sym (sum_cons (f k p) (of_ports f (k + 1) ports)))
    (subst (λ n. f k p + sum (of_ports f (k + 1) ports) ≤ n) (sym row) all)

-- a sum over ports that a loop has made so far, with the rest
pub record SumsTo (f : ℕ → PlanPort → ℕ) (ports : List PlanPort) (so_far i total : ℕ) : Type 0 where
  pub is : so_far + sum (of_ports f i (drop i ports)) ≡ total

-- with one port more it is still the sum, and no more than all
pub one_more : (f : ℕ → PlanPort → ℕ) (ports : List PlanPort) (so_far i total : ℕ) (at : PlanPort) → slice_get ports i ≡ Some at
    → SumsTo f ports so_far i total → SumsTo f ports (so_far + f i at) (i + 1) total × (so_far + f i at ≤ total)
one_more f ports so_far i total at e h =
    let m = port_more f i i ports at e in
    let rest = sum (of_ports f (i + 1) (drop (suc i) ports)) in
    let all : so_far + f i at + rest ≡ total = omega (arith, h.is, m) in
    (record { is = subst (λ j. so_far + f i at + sum (of_ports f (i + 1) (drop j ports)) ≡ total) (sym (add-one i)) all }, omega (arith, all))

-- behind the last port the sum so far is the whole sum
pub ends : (f : ℕ → PlanPort → ℕ) (ports : List PlanPort) (so_far i total : ℕ) → length ports ≤ i → SumsTo f ports so_far i total → so_far ≡ total
ends f ports so_far i total l h = let z = none_left f i i ports l in omega (arith, h.is, z)

-- ---- what has begun and returned at a port is at most what it is asked

-- a request of which some beats are sent is one of some requests
few_part : (b : Bool) (n : ℕ) → cond b 0 (0 + 1) ≤ suc n
few_part true n = omega arith
few_part false n = omega arith

-- with a request more, of which all beats are sent, there is still no more begun than asked
few_more : (b : Bool) (w n : ℕ) → cond b w (w + 1) ≤ n → cond b (suc w) (suc w + 1) ≤ suc n
few_more true w n l = omega (arith, l)
few_more false w n l = omega (arith, l)

-- no more requests have begun than there are
sent_few : (width : ℕ) (requests : List Request) (beats : ℕ) → begun_of (sent_of width requests beats) ≤ length requests
sent_few width [] beats = omega arith
sent_few width (request ∷ requests) beats =
    let others = beats - request_beats request.op request.size width in
    by (nat_lt beats (request_beats request.op request.size width)) (sent_of width requests others) (sent_few width requests others)
  where
    by : (b : Bool) (sent : Sent) → begun_of sent ≤ length requests → begun_of (cond b (record { whole = 0; part = beats }) (one_message_more sent)) ≤ suc (length requests)
    by true sent l = few_part (nat_eq beats 0) (length requests)
    by false sent l = few_more (nat_eq sent.part 0) sent.whole (length requests) l

-- a port is asked no more than all ports
asked_few : (setup : Setup) (port : ℕ) → length (stated_at port setup.requests) ≤ length setup.requests
asked_few setup port =
    let test = λ (asked : StimRequest). asked.port == port in
    let all = length-filter test setup.requests in
    let few = count_by-le-length test setup.requests in
    omega (arith, all, few)

-- so no more requests begin at a port than a run may have
begun_at_port : (setup : Setup) (history : List Event) → length setup.requests ≤ 10000 → (i : ℕ) (at : PlanPort) → begun_at (script_at setup i at) (at_source i history) ≤ 10000
begun_at_port setup history l i at =
    let script = script_at setup i at in
    let sent : begun_at script (at_source i history) ≤ length script.requests = sent_few script.width script.requests (entered (at_source i history)) in
    let many : length script.requests ≡ length (stated_at i setup.requests) = length-map (stated_at i setup.requests) (λ (asked : StimRequest). asked.request) in
    let few = asked_few setup i in
    omega (arith, sent, many, few, l)

-- and what begins at all ports is far below what 32 bits hold
pub few_begun_in_all : (setup : Setup) (history : List Event) → length setup.plan.sources ≤ 1024 → length setup.requests ≤ 10000 → sum (begun_by_port setup history) < 2 ^ 32
few_begun_in_all setup history l few =
    let s = few_in_all (λ port at. begun_at (script_at setup port at) (at_source port history)) 10000 0 setup.plan.sources (λ i at e. begun_at_port setup history few (0 + i) at) in
    omega (arith, s, l)

-- no more requests have returned than have begun
finished_few : (script : Script) (history : List Event) → finished_at script history ≤ begun_at script history
finished_few script history = omega arith

-- and what returns at all ports is below what 32 bits hold too
pub few_returned_in_all : (setup : Setup) (history : List Event) → length setup.plan.sources ≤ 1024 → length setup.requests ≤ 10000 → sum (returned_by_port setup history) < 2 ^ 32
few_returned_in_all setup history l few =
    let s = few_in_all (λ port at. finished_at (script_at setup port at) (at_source port history)) 10000 0 setup.plan.sources
    (λ i at e. let b = begun_at_port setup history few (0 + i) at in let f = finished_few (script_at setup (0 + i) at) (at_source (0 + i) history) in omega (arith, b, f)) in
    omega (arith, s, l)

-- a port of a plan whose ports are as many as the drivers
driver_there : {A : Type 0} (drivers : List A) (i : ℕ) → i < length drivers → (driver : A) × (slice_get drivers i ≡ Some driver)
driver_there [] i l = absurd (omega arith)
driver_there (d ∷ drivers) zero l = (d, refl)
driver_there (d ∷ drivers) (suc i) l = driver_there drivers i (omega (arith, l))

-- ---- bytes

-- one byte more of a number
pub one_byte_more : (i so_far rest total : ℕ) → i < 8 → so_far + byte_sum (8 - i) rest ≡ total → so_far + rest % 256 + byte_sum (8 - (i + 1)) (rest / 256) ≡ total
one_byte_more i so_far rest total l e =
    let q : 8 - i ≡ suc (8 - (i + 1)) = omega arith in
    let m : byte_sum (8 - i) rest ≡ rest % 256 + byte_sum (8 - (i + 1)) (rest / 256) = ap (λ n. byte_sum n rest) q in
    omega (arith, e, m)

-- a number of 64 bits with the data of one event more
pub one_event_more : (so_far next i all : ℕ) (events : List Event) (other : Event) → i < length events
    → (so_far + data_returned (drop i events)) % 2 ^ 64 ≡ all → next ≡ (so_far + bytes_returned (get_or events i other).what) % 2 ^ 64
    → (next + data_returned (drop (i + 1) events)) % 2 ^ 64 ≡ all
one_event_more so_far next i all events other l e n =
    let f = λ (x : Event). bytes_returned x.what in
    let event = get_or events i other in
    let d : data_returned (drop i events) ≡ f event + data_returned (drop (i + 1) events) = sum_by-drop_more f events i other l in
    let rest = data_returned (drop (i + 1) events) in
    ap (λ x. (x + rest) % 2 ^ 64) n
    ∙ mod-add-mod (so_far + f event) (2 ^ 64) rest
    ∙ ap (λ x. x % 2 ^ 64) (let z : so_far + f event + rest ≡ so_far + data_returned (drop i events) = omega (arith, d) in z)
    ∙ e

-- ---- a loop over the drivers

-- what one driver adds
pub one_adds : (f : Setup → List Event → ℕ → PlanPort → ℕ) (setup : Setup) (history : List Event) (drivers : List Sending) (sinks : List Sinking) (so_far i total : ℕ) (driver : Sending) (adds next : ℕ)
    → AreTold setup history drivers sinks → i < length drivers → driver ≡ get_or drivers i driver
    → ((script : Script) → Sends script (at_source i history) driver → (at : PlanPort) → script ≡ script_at setup i at → adds ≡ f setup history i at)
    → SumsTo (f setup history) setup.plan.sources so_far i total → total < 2 ^ 32 → (so_far + adds < 2 ^ 32 → next ≡ so_far + adds)
    → SumsTo (f setup history) setup.plan.sources next (i + 1) total
one_adds f setup history drivers sinks so_far i total driver adds next t l q h s few add =
    let p = driver_there setup.plan.sources i (omega (arith, l, t.sources_long)) in
    let there : slice_get drivers i ≡ Some driver = slice_get-get_or drivers i driver l ∙ ap (λ (d : Sending). Some d) (sym q) in
    let e : adds ≡ f setup history i p.0 = h (script_at setup i p.0) (t.sends i p.0 driver p.1 there) p.0 refl in
    let m = one_more (f setup history) setup.plan.sources so_far i total p.0 p.1 s in
    let n : next ≡ so_far + f setup history i p.0 = add (omega (arith, m.1, few, e)) ∙ ap (λ x. so_far + x) e in
    subst (λ x. SumsTo (f setup history) setup.plan.sources x (i + 1) total) (sym n) m.0
