-- What a source driver keeps, against the history.
use Rattle.std.proofs.Common.{◌≡◌, ℕ, zero, suc, ◌+◌, ◌-◌, ◌<◌, ◌≤◌, ◌≢◌, ◌&&◌, Bool, true, false, not, cond, nat_eq, nat_lt, nat_le, IsTrue, IsSome, Option, Some, None, All, List, [], ◌∷◌, ◌++◌, length, get_or, set, take, replicate, count_by, sum_by, slice_get, refl, ap, sym, subst, ◌∙◌, arith, eq-eqb, eqb-true, ltb-true, ltb-false, lt-ltb, le-ltb}
use Rattle.std.proofs.Math.ListN.{length-set}
use Rattle.std.proofs.lemmas.Bool.{eqb-false, ne_eqb}
use Rattle.std.proofs.lemmas.List.{get_or-replicate, get_or-set_other, get_or-set_same, length-replicate, take_more}
use Rattle.std.proofs.lemmas.Option.{get_or_from_slice_get, slice_get_within}
use Rattle.std.proofs.lemmas.List.Sums.{sum_by-cons, sum_by_push}
use Rattle.std.specs.List.{range_with_len}
use Rattle.tl_edge.specs.declared.beat.ABeat.{ABeat}
use Rattle.tl_edge.specs.declared.beat.DBeat.{DBeat}
use Rattle.tl_edge.specs.declared.beat.Event.{Event}
use Rattle.tl_edge.specs.declared.beat.What.{What}
use Rattle.tl_edge.specs.declared.beat.What.TheVariants.{Enter, Return, Leave, Reply}
use Rattle.tl_edge.specs.declared.message.Request.{Request}
use Rattle.tl_edge.specs.Beats.{a_beat, request_beats}
use Rattle.tl_edge.proofs.Heads.{heads_law}
use Rattle.sim_ports.specs.declared.source.Sent.{Sent}
use Rattle.sim_ports.specs.Sources.{IsSending, MayBeSent, PartFits, Script, Sending, Sends, beats_due, begun_at, begun_of, due_with_id, entered, finished_at, is_busy, is_enter, is_return, one_beat_more, offer_of, offers_now, one_more, returned, sent_at, sent_of, source_offers, waits_for}

-- ---- counting

count_one : {X : Type 0} (p : X → Bool) (xs : List X) (y : X) → count_by p (xs ++ y ∷ []) ≡ count_by p xs + cond (p y) 1 0
count_one p xs y = sum_by_push (λ x. cond (p x) 1 0) xs y

-- ---- how far the port has come

nothing_sent : (width : ℕ) (requests : List Request) → sent_of width requests 0 ≡ record { whole = 0; part = 0 }
nothing_sent width [] = refl
nothing_sent width (r ∷ rs) =
    let some = heads_law.request_some width r in
    let t : nat_lt 0 (request_beats r.op r.size width) ≡ true = lt-ltb 0 (request_beats r.op r.size width) (omega (arith, some)) in
    rw t refl

next_one_more : (s : Sent) (beats : ℕ) → one_beat_more (one_more s) beats ≡ one_more (one_beat_more s beats)
next_one_more s beats = go (nat_eq (s.part + 1) beats)
  where
    go : (b : Bool) → cond b (record { whole = suc s.whole + 1; part = 0 }) (record { whole = suc s.whole; part = s.part + 1 })
        ≡ one_more (cond b (record { whole = s.whole + 1; part = 0 }) (record { whole = s.whole; part = s.part + 1 }))
    go true = let e : suc s.whole + 1 ≡ suc (s.whole + 1) = omega arith in rw e refl
    go false = refl

pub sent_next : (width : ℕ) (requests : List Request) (n : ℕ) (r : Request)
    → slice_get requests (sent_of width requests n).whole ≡ Some r
    → sent_of width requests (n + 1) ≡ one_beat_more (sent_of width requests n) (request_beats r.op r.size width)
sent_next width [] n r e = cc
sent_next width (q ∷ qs) n r e = go (λ k there. sent_next width qs k r there) (nat_lt n (request_beats q.op q.size width)) refl
  where
    go : ((k : ℕ) → slice_get qs (sent_of width qs k).whole ≡ Some r → sent_of width qs (k + 1) ≡ one_beat_more (sent_of width qs k) (request_beats r.op r.size width))
        → (b : Bool) → nat_lt n (request_beats q.op q.size width) ≡ b
        → sent_of width (q ∷ qs) (n + 1) ≡ one_beat_more (sent_of width (q ∷ qs) n) (request_beats r.op r.size width)
    go later true t = first (nat_lt (n + 1) (request_beats q.op q.size width)) refl
      where
        now : sent_of width (q ∷ qs) n ≡ record { whole = 0; part = n }
        now = rw t refl

        it : q ≡ r
        it =
            let there : slice_get (q ∷ qs) 0 ≡ Some r = subst (λ (s : Sent). slice_get (q ∷ qs) s.whole ≡ Some r) now e in
            cc

        first : (b : Bool) → nat_lt (n + 1) (request_beats q.op q.size width) ≡ b
            → sent_of width (q ∷ qs) (n + 1) ≡ one_beat_more (sent_of width (q ∷ qs) n) (request_beats r.op r.size width)
        first true u =
            let more = ltb-true (n + 1) (request_beats q.op q.size width) u in
            let f : nat_eq (n + 1) (request_beats q.op q.size width) ≡ false = ne_eqb (n + 1) (request_beats q.op q.size width) (λ k. omega (arith, more, k)) in
            rw (u, now, ← it, f) refl
        first false u =
            let less = ltb-true n (request_beats q.op q.size width) t in
            let most = ltb-false (n + 1) (request_beats q.op q.size width) u in
            let f : nat_eq (n + 1) (request_beats q.op q.size width) ≡ true = eq-eqb (n + 1) (request_beats q.op q.size width) (omega (arith, less, most)) in
            let none : n + 1 - request_beats q.op q.size width ≡ 0 = omega (arith, less, most) in
            let whole : sent_of width (q ∷ qs) (n + 1) ≡ record { whole = 1; part = 0 } =
            rw (u, none, nothing_sent width qs) refl in
            let there : one_beat_more (sent_of width (q ∷ qs) n) (request_beats r.op r.size width) ≡ record { whole = 1; part = 0 } =
            rw (now, ← it, f) refl in
            whole ∙ sym there
    go later false t =
        let most = ltb-false n (request_beats q.op q.size width) t in
        let left : n + 1 - request_beats q.op q.size width ≡ n - request_beats q.op q.size width + 1 = omega (arith, most) in
        let u : nat_lt (n + 1) (request_beats q.op q.size width) ≡ false = le-ltb (n + 1) (request_beats q.op q.size width) (omega (arith, most)) in
        let now : sent_of width (q ∷ qs) n ≡ one_more (sent_of width qs (n - request_beats q.op q.size width)) = rw t refl in
        let there : slice_get qs (sent_of width qs (n - request_beats q.op q.size width)).whole ≡ Some r =
        subst (λ (s : Sent). slice_get (q ∷ qs) s.whole ≡ Some r) now e in
        let rest = later (n - request_beats q.op q.size width) there in
        let whole : sent_of width (q ∷ qs) (n + 1) ≡ one_more (sent_of width qs (n - request_beats q.op q.size width + 1)) =
        rw (u, left) refl in
        whole ∙ ap one_more rest
        ∙ sym (next_one_more (sent_of width qs (n - request_beats q.op q.size width)) (request_beats r.op r.size width))
        ∙ ap (λ s. one_beat_more s (request_beats r.op r.size width)) (sym now)

-- ---- what begins

begun_now : (s : Sent) (beats : ℕ) → begun_of (one_beat_more s beats) ≡ s.whole + 1
begun_now s beats = go (nat_eq (s.part + 1) beats)
  where
    some : nat_eq (s.part + 1) 0 ≡ false
    some = ne_eqb (s.part + 1) 0 (λ k. omega (arith, k))

    go : (b : Bool) → begun_of (cond b (record { whole = s.whole + 1; part = 0 }) (record { whole = s.whole; part = s.part + 1 })) ≡ s.whole + 1
    go true = refl
    go false = rw some refl

due_more : (width whole id : ℕ) (requests : List Request) (r : Request) → slice_get requests whole ≡ Some r
    → due_with_id width requests (whole + 1) id ≡ due_with_id width requests whole id + cond (nat_eq r.source id) (beats_due width r) 0
due_more width whole id requests r e =
    let h = slice_get_within requests whole r e in
    let at : get_or requests whole r ≡ r = get_or_from_slice_get requests whole r r e in
    let more : take (whole + 1) requests ≡ take whole requests ++ r ∷ [] =
    take_more requests whole r h ∙ ap (λ x. take whole requests ++ x ∷ []) at in
    ap (sum_by (λ (q : Request). cond (nat_eq q.source id) (beats_due width q) 0)) more
    ∙ sum_by_push (λ (q : Request). cond (nat_eq q.source id) (beats_due width q) 0) (take whole requests) r

-- what is offered first has a free id
off : (z x b : Bool) (v : ABeat) → IsSome (cond (z && not (x && not b)) None (Some v)) → z ≡ true → b ≡ false
off z x false v h e = refl
off true true true v h e = cc
off true false true v h e = cc
off false x true v h e = cc

pub free_first : (width : ℕ) (r : Request) (part start cycle : ℕ) (busy : ℕ → Bool)
    → IsSome (offer_of width (Some r) part start busy cycle) → nat_eq part 0 ≡ true → busy r.source ≡ false
free_first width r part start cycle busy h z = off (nat_eq part 0) (nat_le start cycle) (busy r.source) (a_beat width r part) h z

-- ---- the fields after a beat

pub sent_some : (width : ℕ) (requests : List Request) (p : ℕ) (o : Option Request) → PartFits width o p → 0 < p → (r : Request) × (o ≡ Some r)
sent_some width requests p None f h = absurd (omega (arith, f, h))
sent_some width requests p (Some r) f h = (r, refl)

-- the driver after a beat of a request has entered
abbrev pub gone_on : Sending → Request → List ℕ → Sending
gone_on driver r left =
    record driver { sent = one_beat_more driver.sent (request_beats r.op r.size driver.width); left = left }

-- what is left for each id
abbrev pub marked : Sending → Request → List ℕ
marked driver r = cond (nat_eq driver.sent.part 0) (set driver.left r.source (beats_due driver.width r)) driver.left

length_marked : (driver : Sending) (r : Request) → length (marked driver r) ≡ length driver.left
length_marked driver r = go (nat_eq driver.sent.part 0)
  where
    go : (b : Bool) → length (cond b (set driver.left r.source (beats_due driver.width r)) driver.left) ≡ length driver.left
    go true = simp length-set
    go false = refl

pub still_sending : (driver : Sending) (r : Request) (left : List ℕ) → IsSending driver
    → slice_get driver.requests driver.sent.whole ≡ Some r → left ≡ marked driver r → IsSending (gone_on driver r left)
still_sending driver r left s e m =
    let same : length left ≡ length driver.left = ap length m ∙ length_marked driver r in
    let h = slice_get_within driver.requests driver.sent.whole r e in
    let fits : driver.sent.part < request_beats r.op r.size driver.width = subst (λ o. PartFits driver.width o driver.sent.part) e s.part in
    let both = go h fits (nat_eq (driver.sent.part + 1) (request_beats r.op r.size driver.width)) refl in
    record {
      bus = s.bus;
      ids = rw same s.ids;
      few = s.few;
      starts = s.starts;
      requests = subst (λ n. All (MayBeSent n) driver.requests) (sym same) s.requests;
      whole = both.0;
      part = both.1;
    }
  where
    at_start : (o : Option Request) → PartFits driver.width o 0
    at_start None = refl
    at_start (Some q) = let some = heads_law.request_some driver.width q in omega (arith, some)

    go : driver.sent.whole < length driver.requests → driver.sent.part < request_beats r.op r.size driver.width
        → (b : Bool) → nat_eq (driver.sent.part + 1) (request_beats r.op r.size driver.width) ≡ b
        → ((cond {A = Sent} b (record { whole = driver.sent.whole + 1; part = 0 }) (record { whole = driver.sent.whole; part = driver.sent.part + 1 })).whole ≤ length driver.requests)
        × PartFits driver.width (slice_get driver.requests (cond {A = Sent} b (record { whole = driver.sent.whole + 1; part = 0 }) (record { whole = driver.sent.whole; part = driver.sent.part + 1 })).whole)
        (cond {A = Sent} b (record { whole = driver.sent.whole + 1; part = 0 }) (record { whole = driver.sent.whole; part = driver.sent.part + 1 })).part
    go h fits true t = (omega (arith, h), at_start (slice_get driver.requests (driver.sent.whole + 1)))
    go h fits false t =
        let n = eqb-false (driver.sent.part + 1) (request_beats r.op r.size driver.width) t in
        (omega (arith, h), rw e (omega (arith, fits, n)))

-- ---- the driver against the history

entered_one : (history : List Event) (event : Event) → IsTrue (is_enter event.what) → entered (history ++ event ∷ []) ≡ entered history + 1
entered_one history event h =
    count_one (λ e. is_enter e.what) history event ∙ ap (λ b. entered history + cond b 1 0) h

no_return : (id : ℕ) (what : What) → IsTrue (is_enter what) → is_return id what ≡ false
no_return id (Enter beat) h = refl
no_return id (Return beat) h = cc
no_return id (Leave beat) h = cc
no_return id (Reply beat) h = cc

returned_same : (history : List Event) (event : Event) (id : ℕ) → IsTrue (is_enter event.what) → returned (history ++ event ∷ []) id ≡ returned history id
returned_same history event id h =
    count_one (λ e. is_return id e.what) history event
    ∙ ap (λ b. returned history id + cond b 1 0) (no_return id event.what h) ∙ omega arith

pub sends_entered : (script : Script) (history : List Event) (event : Event) (driver : Sending) (r : Request) (left : List ℕ) (cycle : ℕ)
    → IsTrue (is_enter event.what) → Sends script history driver → IsSending driver
    → slice_get driver.requests driver.sent.whole ≡ Some r → IsSome (offers_now driver cycle) → left ≡ marked driver r
    → Sends script (history ++ event ∷ []) (gone_on driver r left)
sends_entered script history event driver r left cycle h s i e o m = record {
  width = s.width;
  may = s.may;
  ids = ap length m ∙ length_marked driver r ∙ s.ids;
  requests = s.requests;
  starts = s.starts;
  sent = now;
  left = each;
}
  where
    there : slice_get script.requests (sent_of script.width script.requests (entered history)).whole ≡ Some r
    there =
        let a : slice_get script.requests driver.sent.whole ≡ Some r = rw (← s.requests) e in
        subst (λ (t : Sent). slice_get script.requests t.whole ≡ Some r) s.sent a

    more : sent_at script (history ++ event ∷ []) ≡ one_beat_more (sent_at script history) (request_beats r.op r.size script.width)
    more = ap (sent_of script.width script.requests) (entered_one history event h) ∙ sent_next script.width script.requests (entered history) r there

    now : one_beat_more driver.sent (request_beats r.op r.size driver.width) ≡ sent_at script (history ++ event ∷ [])
    now = ap (λ t. one_beat_more t (request_beats r.op r.size driver.width)) s.sent
        ∙ ap (λ w. one_beat_more (sent_at script history) (request_beats r.op r.size w)) s.width ∙ sym more

    begun : begun_at script (history ++ event ∷ []) ≡ driver.sent.whole + 1
    begun = ap begun_of (sym now) ∙ begun_now driver.sent (request_beats r.op r.size driver.width)

    before : begun_at script history ≡ cond (nat_eq driver.sent.part 0) driver.sent.whole (driver.sent.whole + 1)
    before = ap begun_of (sym s.sent)

    at : slice_get script.requests driver.sent.whole ≡ Some r
    at = rw (← s.requests) e

    none : (n : ℕ) → not (nat_eq n 0) ≡ false → n ≡ 0
    none n f = eqb-true n 0 (flip (nat_eq n 0) f)
      where
        flip : (b : Bool) → not b ≡ false → b ≡ true
        flip true g = refl
        flip false g = cc

    known : r.source < length driver.left
    known =
        let h = slice_get_within driver.requests driver.sent.whole r e in
        let it : get_or driver.requests driver.sent.whole r ≡ r = get_or_from_slice_get driver.requests driver.sent.whole r r e in
        (subst (λ q. MayBeSent (length driver.left) q) it (i.requests driver.sent.whole r h)).id

    at_id : (id : ℕ) → get_or driver.left id 0 + returned history id ≡ due_with_id script.width script.requests driver.sent.whole id
        → returned (history ++ event ∷ []) id ≡ returned history id → get_or driver.left r.source 0 ≡ 0
        → (b : Bool) → nat_eq r.source id ≡ b
        → get_or (set driver.left r.source (beats_due driver.width r)) id 0 + returned (history ++ event ∷ []) id
        ≡ due_with_id script.width script.requests driver.sent.whole id + cond (nat_eq r.source id) (beats_due script.width r) 0
    at_id id so same zero_left true k =
        let a : r.source ≡ id = eqb-true r.source id k in
        let put : get_or (set driver.left r.source (beats_due driver.width r)) id 0 ≡ beats_due script.width r =
        ap (λ n. get_or (set driver.left r.source (beats_due driver.width r)) n 0) (sym a)
        ∙ get_or-set_same driver.left r.source (beats_due driver.width r) 0 known ∙ ap (λ w. beats_due w r) s.width in
        let empty : get_or driver.left id 0 ≡ 0 = ap (λ n. get_or driver.left n 0) (sym a) ∙ zero_left in
        let sum : cond (nat_eq r.source id) (beats_due script.width r) 0 ≡ beats_due script.width r = rw k refl in
        omega (arith, put, empty, sum, so, same)
    at_id id so same zero_left false k =
        let n = eqb-false r.source id k in
        let put : get_or (set driver.left r.source (beats_due driver.width r)) id 0 ≡ get_or driver.left id 0 =
        get_or-set_other driver.left r.source id (beats_due driver.width r) 0 (λ a. n (sym a)) in
        let sum : cond (nat_eq r.source id) (beats_due script.width r) 0 ≡ 0 = rw k refl in
        omega (arith, put, sum, so, same)

    go : (id : ℕ) → due_with_id script.width script.requests (begun_at script (history ++ event ∷ [])) id
        ≡ due_with_id script.width script.requests driver.sent.whole id + cond (nat_eq r.source id) (beats_due script.width r) 0
        → returned (history ++ event ∷ []) id ≡ returned history id
        → get_or driver.left id 0 + returned history id ≡ due_with_id script.width script.requests (begun_at script history) id
        → (b : Bool) → nat_eq driver.sent.part 0 ≡ b
        → get_or left id 0 + returned (history ++ event ∷ []) id ≡ due_with_id script.width script.requests (begun_at script (history ++ event ∷ [])) id
    go id target same was false z =
        let kept : left ≡ driver.left = m ∙ ap (λ b. cond b (set driver.left r.source (beats_due driver.width r)) driver.left) z in
        let old : begun_at script history ≡ driver.sent.whole + 1 = before ∙ ap (λ b. cond b driver.sent.whole (driver.sent.whole + 1)) z in
        ap (λ xs. get_or xs id 0 + returned (history ++ event ∷ []) id) kept
        ∙ ap (λ n. get_or driver.left id 0 + n) same ∙ was
        ∙ ap (λ n. due_with_id script.width script.requests n id) old
        ∙ ap (λ n. due_with_id script.width script.requests n id) (sym begun)
    go id target same was true z =
        let kept : left ≡ set driver.left r.source (beats_due driver.width r) =
        m ∙ ap (λ b. cond b (set driver.left r.source (beats_due driver.width r)) driver.left) z in
        let old : begun_at script history ≡ driver.sent.whole = before ∙ ap (λ b. cond b driver.sent.whole (driver.sent.whole + 1)) z in
        let so : get_or driver.left id 0 + returned history id ≡ due_with_id script.width script.requests driver.sent.whole id =
        was ∙ ap (λ n. due_with_id script.width script.requests n id) old in
        let free : not (nat_eq (get_or driver.left r.source 0) 0) ≡ false =
        free_first driver.width r driver.sent.part (get_or driver.starts driver.sent.whole 0) cycle (waits_for driver) (rw e at o) z in
        ap (λ xs. get_or xs id 0 + returned (history ++ event ∷ []) id) kept
        ∙ at_id id so same (none (get_or driver.left r.source 0) free) (nat_eq r.source id) refl
        ∙ sym target

    each : (id : ℕ) → id < script.ids → get_or left id 0 + returned (history ++ event ∷ []) id
        ≡ due_with_id script.width script.requests (begun_at script (history ++ event ∷ [])) id
    each id l =
        let target : due_with_id script.width script.requests (begun_at script (history ++ event ∷ [])) id
        ≡ due_with_id script.width script.requests driver.sent.whole id + cond (nat_eq r.source id) (beats_due script.width r) 0 =
        ap (λ n. due_with_id script.width script.requests n id) begun ∙ due_more script.width driver.sent.whole id script.requests r at in
        let same = returned_same history event id h in
        let was = s.left id l in
        go id target same was (nat_eq driver.sent.part 0) refl

-- ---- a beat returns

pub sends_returned : (script : Script) (history : List Event) (event : Event) (beat : DBeat) (driver : Sending) (left : List ℕ)
    → event.what ≡ Return beat → Sends script history driver → IsTrue (waits_for driver beat.source)
    → left ≡ set driver.left beat.source (get_or driver.left beat.source 0 - 1)
    → Sends script (history ++ event ∷ []) (record driver { left = left })
sends_returned script history event beat driver left w s busy m = record {
  width = s.width;
  may = s.may;
  ids = ap length m ∙ simp length-set s.ids;
  requests = s.requests;
  starts = s.starts;
  sent = s.sent ∙ ap (sent_of script.width script.requests) (sym same);
  left = each;
}
  where
    same : entered (history ++ event ∷ []) ≡ entered history
    same = count_one (λ e. is_enter e.what) history event
        ∙ ap (λ x. entered history + cond (is_enter x) 1 0) w ∙ omega arith

    begun : begun_at script (history ++ event ∷ []) ≡ begun_at script history
    begun = ap (λ n. begun_of (sent_of script.width script.requests n)) same

    more : (id : ℕ) → returned (history ++ event ∷ []) id ≡ returned history id + cond (nat_eq beat.source id) 1 0
    more id = count_one (λ e. is_return id e.what) history event ∙ ap (λ x. returned history id + cond (is_return id x) 1 0) w

    some : (n : ℕ) → IsTrue (not (nat_eq n 0)) → n ≢ 0
    some n h z = absurd (eqb-false n 0 (flip (nat_eq n 0) h) z)
      where
        flip : (b : Bool) → not b ≡ true → b ≡ false
        flip false g = refl
        flip true g = cc

    waits : get_or driver.left beat.source 0 ≢ 0
    waits = some (get_or driver.left beat.source 0) busy

    known : (k : ℕ) (xs : List ℕ) → get_or xs k 0 ≢ 0 → k < length xs
    known k [] n = absurd (n refl)
    known zero (x ∷ xs) n = omega arith
    known (suc k) (x ∷ xs) n = let more = known k xs n in omega (arith, more)

    at_id : (id : ℕ) → returned (history ++ event ∷ []) id ≡ returned history id + cond (nat_eq beat.source id) 1 0
        → get_or driver.left id 0 + returned history id ≡ due_with_id script.width script.requests (begun_at script history) id
        → (b : Bool) → nat_eq beat.source id ≡ b
        → get_or (set driver.left beat.source (get_or driver.left beat.source 0 - 1)) id 0 + returned (history ++ event ∷ []) id
        ≡ due_with_id script.width script.requests (begun_at script history) id
    at_id id after so true k =
        let a : beat.source ≡ id = eqb-true beat.source id k in
        let put : get_or (set driver.left beat.source (get_or driver.left beat.source 0 - 1)) id 0 ≡ get_or driver.left id 0 - 1 =
        ap (λ n. get_or (set driver.left beat.source (get_or driver.left beat.source 0 - 1)) n 0) (sym a)
        ∙ get_or-set_same driver.left beat.source (get_or driver.left beat.source 0 - 1) 0 (known beat.source driver.left waits)
        ∙ ap (λ n. get_or driver.left n 0 - 1) a in
        let one : cond {A = ℕ} (nat_eq beat.source id) 1 0 ≡ 1 = rw k refl in
        let some_left : get_or driver.left id 0 ≢ 0 = subst (λ n. get_or driver.left n 0 ≢ 0) a waits in
        omega (arith, put, one, after, so, some_left)
    at_id id after so false k =
        let n = eqb-false beat.source id k in
        let put : get_or (set driver.left beat.source (get_or driver.left beat.source 0 - 1)) id 0 ≡ get_or driver.left id 0 =
        get_or-set_other driver.left beat.source id (get_or driver.left beat.source 0 - 1) 0 (λ a. n (sym a)) in
        let none : cond {A = ℕ} (nat_eq beat.source id) 1 0 ≡ 0 = rw k refl in
        omega (arith, put, none, after, so)

    each : (id : ℕ) → id < script.ids → get_or left id 0 + returned (history ++ event ∷ []) id
        ≡ due_with_id script.width script.requests (begun_at script (history ++ event ∷ [])) id
    each id l =
        ap (λ xs. get_or xs id 0 + returned (history ++ event ∷ []) id) m
        ∙ at_id id (more id) (s.left id l) (nat_eq beat.source id) refl
        ∙ ap (λ n. due_with_id script.width script.requests n id) (sym begun)

-- ---- what is offered, and what has finished

busy_same : (l ret all : ℕ) → l + ret ≡ all → not (nat_eq l 0) ≡ nat_lt ret all
busy_same zero ret all e = sym (le-ltb ret all (omega (arith, e)))
busy_same (suc l) ret all e = ap not (ne_eqb (suc l) 0 (λ z. omega (arith, z))) ∙ sym (lt-ltb ret all (omega (arith, e)))

pub waits_same : (script : Script) (history : List Event) (driver : Sending) (id : ℕ) → Sends script history driver
    → id < script.ids → waits_for driver id ≡ is_busy script history id
waits_same script history driver id s l = busy_same _ _ _ (s.left id l)

offer_same : (width : ℕ) (o : Option Request) (part start cycle : ℕ) (busy other : ℕ → Bool)
    → ((r : Request) → o ≡ Some r → busy r.source ≡ other r.source)
    → offer_of width o part start busy cycle ≡ offer_of width o part start other cycle
offer_same width None part start cycle busy other h = refl
offer_same width (Some r) part start cycle busy other h =
    ap (λ b. cond (nat_eq part 0 && not (nat_le start cycle && not b)) None (Some (a_beat width r part))) (h r refl)

pub said : (script : Script) (history : List Event) (driver : Sending) (cycle : ℕ) → Sends script history driver
    → offers_now driver cycle ≡ source_offers script history cycle false
said script history driver cycle s =
    offer_same driver.width (slice_get driver.requests driver.sent.whole) driver.sent.part (get_or driver.starts driver.sent.whole 0) cycle
    (waits_for driver) (is_busy script history) (λ r e. waits_same script history driver r.source s (known r e))
    ∙ ap (λ w. offer_of w (slice_get driver.requests driver.sent.whole) driver.sent.part (get_or driver.starts driver.sent.whole 0) (is_busy script history) cycle) s.width
    ∙ ap (λ rs. offer_of script.width (slice_get rs driver.sent.whole) driver.sent.part (get_or driver.starts driver.sent.whole 0) (is_busy script history) cycle) s.requests
    ∙ ap (λ ns. offer_of script.width (slice_get script.requests driver.sent.whole) driver.sent.part (get_or ns driver.sent.whole 0) (is_busy script history) cycle) s.starts
    ∙ ap (λ (t : Sent). offer_of script.width (slice_get script.requests t.whole) t.part (get_or script.starts t.whole 0) (is_busy script history) cycle) s.sent
  where
    known : (r : Request) → slice_get driver.requests driver.sent.whole ≡ Some r → r.source < script.ids
    known r e =
        let there : slice_get script.requests driver.sent.whole ≡ Some r = rw (← s.requests) e in
        let h = slice_get_within script.requests driver.sent.whole r there in
        let it : get_or script.requests driver.sent.whole r ≡ r = get_or_from_slice_get script.requests driver.sent.whole r r there in
        (subst (λ q. MayBeSent script.ids q) it (s.may driver.sent.whole r h)).id

pub begun_said : (script : Script) (history : List Event) (driver : Sending) → Sends script history driver
    → begun_of driver.sent ≡ begun_at script history
begun_said script history driver s = ap begun_of s.sent

count_busy : (xs : List ℕ) (from : ℕ) (busy : ℕ → Bool)
    → ((k : ℕ) → k < length xs → not (nat_eq (get_or xs k 0) 0) ≡ busy (from + k))
    → count_by (λ n. not (nat_eq n 0)) xs ≡ count_by busy (range_with_len from (length xs))
count_busy [] from busy h = refl
count_busy (x ∷ xs) from busy h =
    let at : from + 0 ≡ from = omega arith in
    let first : not (nat_eq x 0) ≡ busy from = h 0 (omega arith) ∙ ap busy at in
    let next = count_busy xs (from + 1) busy (λ k l. h (suc k) (omega (arith, l)) ∙ ap busy (shift k)) in
    sum_by-cons (λ n. cond (not (nat_eq n 0)) 1 0) x xs
    ∙ ap (λ b. cond b 1 0 + count_by (λ n. not (nat_eq n 0)) xs) first
    ∙ ap (λ n. cond (busy from) 1 0 + n) next
    ∙ sym (sum_by-cons (λ n. cond (busy n) 1 0) from (range_with_len (from + 1) (length xs)))
  where
    shift : (k : ℕ) → from + suc k ≡ from + 1 + k
    shift k = omega arith

pub finished_said : (script : Script) (history : List Event) (driver : Sending) → Sends script history driver
    → begun_of driver.sent - count_by (λ n. not (nat_eq n 0)) driver.left ≡ finished_at script history
finished_said script history driver s =
    let each = count_busy driver.left 0 (is_busy script history) (λ k l. waits_same script history driver k s (omega (arith, l, s.ids)) ∙ ap (is_busy script history) (none k)) in
    ap (λ n. begun_of driver.sent - n) each
    ∙ ap (λ n. begun_of driver.sent - count_by (is_busy script history) (range_with_len 0 n)) s.ids
    ∙ ap (λ n. n - count_by (is_busy script history) (range_with_len 0 script.ids)) (begun_said script history driver s)
  where
    none : (k : ℕ) → k ≡ 0 + k
    none k = omega arith

-- ---- at the start

pub sends_nothing : (script : Script) (left : List ℕ) → All (MayBeSent script.ids) script.requests → left ≡ replicate script.ids 0
    → Sends script [] (record { width = script.width; requests = script.requests; starts = script.starts; sent = record { whole = 0; part = 0 }; left = left })
sends_nothing script left may e = record {
  width = refl;
  may = may;
  ids = ap length e ∙ length-replicate script.ids 0;
  requests = refl;
  starts = refl;
  sent = sym (nothing_sent script.width script.requests);
  left = λ id l.
      let none : get_or left id 0 ≡ 0 = ap (λ xs. get_or xs id 0) e ∙ get_or-replicate script.ids id 0 0 l in
      let begun : begun_at script [] ≡ 0 = ap begun_of (nothing_sent script.width script.requests) in
      ap (λ n. n + returned [] id) none ∙ sym (ap (λ n. due_with_id script.width script.requests n id) begun);
}

-- no beats are to come for an id that isn't there
pub none_waits : (xs : List ℕ) (k : ℕ) → slice_get xs k ≡ None → false ≡ not (nat_eq (get_or xs k 0) 0)
none_waits [] k e = refl
none_waits (x ∷ xs) zero e = cc
none_waits (x ∷ xs) (suc k) e = none_waits xs k e
