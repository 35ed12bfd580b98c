-- What the history of a sink port means.
use Rattle.std.proofs.Common.{ℕ, ◌≡◌, ◌<◌, List, [], ◌∷◌, ◌++◌, length, Bool, true, false, cond, nat_eq, Option, Some, None, refl, ap, sym, subst, ◌∙◌, arith, append_assoc}
use Rattle.std.specs.List.{All, AllZip}
use Rattle.std.proofs.Math.Seq.{get_or-append_seam}
use Rattle.std.proofs.lemmas.List.{append-nil, length-append}
use Rattle.std.proofs.lemmas.List.Elements.{All-get_or}
use Rattle.tl_edge.specs.declared.beat.ABeat.{ABeat}
use Rattle.tl_edge.specs.declared.beat.Event.{Event}
use Rattle.tl_edge.specs.declared.beat.What.{What}
use Rattle.tl_edge.specs.declared.beat.What.TheVariants.{Enter, Return, Leave, Reply}
use Rattle.tl_edge.specs.declared.message.Request.{Request}
use Rattle.tl_edge.specs.Beats.{beats_of_request, request_beats}
use Rattle.tl_edge.specs.BeatLaws.{IsBeatOf, IsSent}
use Rattle.tl_edge.specs.Joined.{joined_request}
use Rattle.tl_edge.proofs.Heads.{heads_law}
use Rattle.tl_edge.proofs.Reading.{join_law}
use Rattle.sim_ports.specs.Sinks.{Sinking, after_leave, after_what, are_all, served, sink_answered, sinking, with_taken}
use Rattle.sim_ports.specs.SinkLaws.{AreLeavesOf, IsLeaveOf, KeepsItsOwn, SinkLaw, after_request}
use Rattle.sim_ports.proofs.Roomy.{served_more}

-- ---- what stays

all_kept : (sink : Sinking) → KeepsItsOwn sink sink
all_kept sink = record { width = refl; delay = refl; says = refl; prepared = refl; role = refl }

kept_on : (one two three : Sinking) → KeepsItsOwn one two → KeepsItsOwn two three → KeepsItsOwn one three
kept_on one two three a b = record {
  width = b.width ∙ a.width;
  delay = b.delay ∙ a.delay;
  says = b.says ∙ a.says;
  prepared = b.prepared ∙ a.prepared;
  role = b.role ∙ a.role;
}

answer_kept : (sink : Sinking) (cycle : ℕ) (request : Option Request) → KeepsItsOwn sink (sink_answered sink cycle request)
answer_kept sink cycle None = all_kept sink
answer_kept sink cycle (Some request) = record { width = refl; delay = refl; says = refl; prepared = refl; role = refl }

either_kept : (sink one other : Sinking) (b : Bool) → KeepsItsOwn sink one → KeepsItsOwn sink other → KeepsItsOwn sink (cond b one other)
either_kept sink one other true a b = a
either_kept sink one other false a b = b

pub leave_kept : (sink : Sinking) (cycle : ℕ) (beat : ABeat) → KeepsItsOwn sink (after_leave sink cycle beat)
leave_kept sink cycle beat =
    either_kept sink _ _ (are_all sink.port.width (sink.port.taken ++ beat ∷ []) beat)
    (answer_kept sink cycle (joined_request sink.port.width (sink.port.taken ++ beat ∷ [])))
    (record { width = refl; delay = refl; says = refl; prepared = refl; role = refl })

what_kept : (sink : Sinking) (cycle : ℕ) (what : What) → KeepsItsOwn sink (after_what sink cycle what)
what_kept sink cycle (Enter beat) = all_kept sink
what_kept sink cycle (Return beat) = all_kept sink
what_kept sink cycle (Leave beat) = leave_kept sink cycle beat
what_kept sink cycle (Reply beat) = record { width = refl; delay = refl; says = refl; prepared = refl; role = refl }

served_kept : (sink : Sinking) (history : List Event) → KeepsItsOwn sink (served sink history)
served_kept sink [] = all_kept sink
served_kept sink (event ∷ events) =
    kept_on sink (after_what sink event.cycle event.what) _ (what_kept sink event.cycle event.what)
    (served_kept (after_what sink event.cycle event.what) events)

-- ---- a whole request

-- whether beats are all, by their number
all_if : (width : ℕ) (request : Request) (before : List ABeat) (beat : ABeat) (rest : List ABeat) (b : Bool)
    → beats_of_request width request ≡ before ++ beat ∷ rest
    → nat_eq (length (before ++ beat ∷ [])) (length (beats_of_request width request)) ≡ b
    → are_all width (before ++ beat ∷ []) beat ≡ b
all_if width request before beat rest b is h =
    let heads : All (IsBeatOf request) (before ++ beat ∷ rest) = subst (λ (bs : List ABeat). All (IsBeatOf request) bs) is (heads_law.requests width request) in
    let within : length before < length (before ++ beat ∷ rest) = omega (arith, length-append before (beat ∷ rest)) in
    let there = All-get_or (IsBeatOf request) (before ++ beat ∷ rest) (length before) beat within heads in
    let fields : IsBeatOf request beat = subst (λ (x : ABeat). IsBeatOf request x) (get_or-append_seam before beat rest beat) there in
    let count : request_beats beat.op beat.size width ≡ length (beats_of_request width request) =
    ap (λ o. request_beats o beat.size width) fields.op ∙ ap (λ n. request_beats request.op n width) fields.size ∙ sym (heads_law.request_length width request) in
    ap (nat_eq (length (before ++ beat ∷ []))) count ∙ h

fewer : (n m : ℕ) → n < m → nat_eq n m ≡ false
fewer n m h = go (nat_eq n m) refl
  where
    go : (b : Bool) → nat_eq n m ≡ b → nat_eq n m ≡ false
    go true e = absurd (grind (arith, e, h))
    go false e = e

same_number : (n m : ℕ) → n ≡ m → nat_eq n m ≡ true
same_number n m h = go (nat_eq n m) refl
  where
    go : (b : Bool) → nat_eq n m ≡ b → nat_eq n m ≡ true
    go true e = e
    go false e = absurd (grind (arith, e, h))

-- a beat that isn't the last one
one_leaves : (sink : Sinking) (cycle : ℕ) (beat : ABeat) → are_all sink.port.width (sink.port.taken ++ beat ∷ []) beat ≡ false
    → after_leave sink cycle beat ≡ sinking sink.device (with_taken sink.port (sink.port.taken ++ beat ∷ []))
one_leaves sink cycle beat e =
    ap (λ b. cond b (sink_answered sink cycle (joined_request sink.port.width (sink.port.taken ++ beat ∷ [])))
    (sinking sink.device (with_taken sink.port (sink.port.taken ++ beat ∷ [])))) e

-- beats that aren't all leave one after another
front_leaves : (sink : Sinking) (request : Request) (done front : List ABeat) (last : ABeat) (history : List Event)
    → sink.port.taken ≡ done → beats_of_request sink.port.width request ≡ done ++ (front ++ last ∷ [])
    → AllZip IsLeaveOf front history → served sink history ≡ sinking sink.device (with_taken sink.port (done ++ front))
front_leaves sink request done [] last [] t is h =
    ap (λ (ts : List ABeat). sinking sink.device (with_taken sink.port ts)) (t ∙ sym (append-nil done))
front_leaves sink request done [] last (event ∷ events) t is h = absurd h
front_leaves sink request done (beat ∷ front) last [] t is h = absurd h
front_leaves sink request done (beat ∷ front) last (event ∷ events) t is h =
    let short : length (done ++ beat ∷ []) < length (beats_of_request sink.port.width request) =
    omega (arith, ap (λ xs. length xs) is, length-append done (beat ∷ []), length-append done (beat ∷ (front ++ last ∷ [])), length-append front (last ∷ [])) in
    let not_all = all_if sink.port.width request done beat (front ++ last ∷ []) false is (fewer _ _ short) in
    let now : are_all sink.port.width (sink.port.taken ++ beat ∷ []) beat ≡ false = subst (λ (ts : List ABeat). are_all sink.port.width (ts ++ beat ∷ []) beat ≡ false) (sym t) not_all in
    let next : Sinking = sinking sink.device (with_taken sink.port (sink.port.taken ++ beat ∷ [])) in
    let goes : after_what sink event.cycle event.what ≡ next = ap (after_what sink event.cycle) h.0 ∙ one_leaves sink event.cycle beat now in
    let more : sink.port.taken ++ beat ∷ [] ≡ done ++ beat ∷ [] = ap (λ xs. xs ++ beat ∷ []) t in
    let joined : done ++ (beat ∷ (front ++ last ∷ [])) ≡ (done ++ beat ∷ []) ++ (front ++ last ∷ []) = sym (append_assoc done (beat ∷ []) (front ++ last ∷ [])) in
    ap (λ s. served s events) goes
    ∙ front_leaves next request (done ++ beat ∷ []) front last events more (is ∙ joined) h.1
    ∙ ap (λ (ts : List ABeat). sinking sink.device (with_taken sink.port ts)) (append_assoc done (beat ∷ []) front)

whole_leaves : (sink : Sinking) (request : Request) (history : List Event) (end : Event) → sink.port.taken ≡ []
    → IsSent sink.port.width request → AreLeavesOf sink.port.width request history end
    → served sink (history ++ end ∷ []) ≡ after_request sink request end.cycle
whole_leaves sink request history end t sent l =
    let front = front_leaves sink request [] l.front l.last history t l.beats l.before in
    let there : Sinking = sinking sink.device (with_taken sink.port l.front) in
    let all : are_all sink.port.width (l.front ++ l.last ∷ []) l.last ≡ true =
    all_if sink.port.width request l.front l.last [] true l.beats (same_number _ _ (ap (λ xs. length xs) (sym l.beats))) in
    let joined : joined_request sink.port.width (l.front ++ l.last ∷ []) ≡ Some request =
    ap (joined_request sink.port.width) (sym l.beats) ∙ join_law.requests sink.port.width request sent in
    served_more sink history end
    ∙ ap (λ s. after_what s end.cycle end.what) front
    ∙ ap (after_what there end.cycle) l.at_last
    ∙ ap (λ b. cond b (sink_answered there end.cycle (joined_request sink.port.width (l.front ++ l.last ∷ [])))
    (sinking sink.device (with_taken sink.port (l.front ++ l.last ∷ [])))) all
    ∙ ap (sink_answered there end.cycle) joined

pub sink_law : SinkLaw
sink_law = record { step = served_more; kept = served_kept; request = whole_leaves }
