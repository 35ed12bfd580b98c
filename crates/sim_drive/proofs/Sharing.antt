-- The bytes of requests shared out among sink ports.
use Rattle.std.proofs.Common.{◌≡◌, ℕ, ◌+◌, ◌<◌, ◌≤◌, ◌≢◌, ◌⊎◌, inl, inr, ◌^◌, Bool, true, false, cond, eqb, List, [], ◌∷◌, ◌++◌, get_or, length, map, take, unwrap_or, slice_get, Option, Some, None, refl, ap, subst, sym, ◌∙◌, arith}
use Rattle.std.specs.Prelude.{All}
use Rattle.std.specs.List.{flat_map, range_with_len}
use Rattle.std.specs.declared.vec.Vec.{Vec}
use Rattle.std.specs.Option.{option_map_or}
use Rattle.std.proofs.lemmas.List.{append-nil, get_or-set_same, get_or-set_other, append_assoc, get_or-map, length-map, length-set, map-id, map_push, map-set, take_more}
use Rattle.std.proofs.Math.ListN.{set}
use Rattle.std.proofs.lemmas.Bool.{cases_lt, eqb-true}
use Rattle.std.proofs.Math.Nat.{pow-le-pow_right}
use Rattle.std.proofs.lemmas.Bool.Decides.{nat_tests}
use Rattle.std.proofs.lemmas.List.Concat.{flat_map-append}
use Rattle.std.proofs.lemmas.List.FromFn.{fill_by_all, get_or-map-range_with_len, length-map-range_with_len, map-range_with_len_more}
use Rattle.tl_edge.specs.declared.message.Request.{Request}
use Rattle.tl_params.specs.OwnerLaw.{HaveSets}
use Rattle.tl_edge.specs.declared.plan.Plan.{Plan}
use Rattle.tl_edge.specs.declared.plan.PlanEdge.{PlanEdge}
use Rattle.tl_edge.specs.Legal.{IsLegalAt}
use Rattle.tl_edge.specs.Plans.{edge_at, no_edge}
use Rattle.tl_edge.specs.SoundPlans.{IsSound, IsSoundEdge}
use Rattle.tl_edge.proofs.Legality.{legal_law}
use Rattle.tl_edge.proofs.Ways.{item_has}
use Rattle.sim_ports.specs.declared.stimulus.StimRequest.{StimRequest}
use Rattle.sim_drive.specs.Preparing.{all_bytes_at, bytes_asked, bytes_asked_at, sink_asked}
use Rattle.sim_drive.proofs.Found.{goes_within}

-- ---- one number more

pub number_more : (start count next : ℕ) → start + count ≡ next → range_with_len start (count + 1) ≡ range_with_len start count ++ next ∷ []
number_more start count next e =
    sym (map-id (range_with_len start (count + 1))) ∙ map-range_with_len_more (λ x. x) start count next e
    ∙ ap (λ xs. xs ++ next ∷ []) (map-id (range_with_len start count))

-- ---- one request more

-- the bytes of requests at each of so many sink ports, in the order of the ports
pub record AreShared (plan : Plan) (requests : List StimRequest) (count : ℕ) (lists : List (List ℕ)) : Type 0 where
  pub is : lists ≡ map (all_bytes_at plan requests) (range_with_len 0 count)

bytes_more : (plan : Plan) (requests : List StimRequest) (asked : StimRequest) (port : ℕ)
    → all_bytes_at plan (requests ++ asked ∷ []) port ≡ all_bytes_at plan requests port ++ bytes_asked_at plan port asked
bytes_more plan requests asked port =
    flat_map-append (bytes_asked_at plan port) requests (asked ∷ []) ∙ ap (λ xs. all_bytes_at plan requests port ++ xs) (append-nil (bytes_asked_at plan port asked))

at_port : (plan : Plan) (requests : List StimRequest) (count : ℕ) (lists : List (List ℕ)) (port : ℕ) → AreShared plan requests count lists → port < count
    → get_or lists port [] ≡ all_bytes_at plan requests port
at_port plan requests count lists port shared below =
    ap (λ (xs : List (List ℕ)). get_or xs port []) shared.is ∙ get_or-map-range_with_len (all_bytes_at plan requests) 0 count port port [] below (omega arith)

long : (plan : Plan) (requests : List StimRequest) (count : ℕ) (lists : List (List ℕ)) → AreShared plan requests count lists → length lists ≡ count
long plan requests count lists shared = ap length shared.is ∙ length-map-range_with_len (all_bytes_at plan requests) 0 count

-- a request that goes nowhere adds nothing
none_here : (plan : Plan) (asked : StimRequest) (port : ℕ) → sink_asked plan asked ≡ None → bytes_asked_at plan port asked ≡ []
none_here plan asked port e = ap (λ (o : Option ℕ). cond (option_map_or (λ sink. eqb sink port) o false) (bytes_asked asked.request) []) e

pub shared_nowhere : (plan : Plan) (requests : List StimRequest) (asked : StimRequest) (count : ℕ) (lists : List (List ℕ)) → AreShared plan requests count lists
    → sink_asked plan asked ≡ None → AreShared plan (requests ++ asked ∷ []) count lists
shared_nowhere plan requests asked count lists shared e = record {
  is = fill_by_all (all_bytes_at plan (requests ++ asked ∷ [])) lists count [] (long plan requests count lists shared) (λ port below.
      at_port plan requests count lists port shared below
      ∙ sym (append-nil (all_bytes_at plan requests port))
      ∙ ap (λ xs. all_bytes_at plan requests port ++ xs) (sym (none_here plan asked port e))
      ∙ sym (bytes_more plan requests asked port));
}

-- a request that goes to a sink port adds its bytes there
it_here : (plan : Plan) (asked : StimRequest) (sink port : ℕ) → sink_asked plan asked ≡ Some sink
    → bytes_asked_at plan port asked ≡ cond (eqb sink port) (bytes_asked asked.request) []
it_here plan asked sink port e = ap (λ (o : Option ℕ). cond (option_map_or (λ s. eqb s port) o false) (bytes_asked asked.request) []) e

pub shared_at : (plan : Plan) (requests : List StimRequest) (asked : StimRequest) (count sink : ℕ) (lists : List (List ℕ)) (list : List ℕ)
    → AreShared plan requests count lists → sink_asked plan asked ≡ Some sink → sink < count
    → list ≡ get_or lists sink [] ++ bytes_asked asked.request → AreShared plan (requests ++ asked ∷ []) count (set lists sink list)
shared_at plan requests asked count sink lists list shared e within is = record {
  is = fill_by_all (all_bytes_at plan (requests ++ asked ∷ [])) (set lists sink list) count [] (length-set lists sink list ∙ all)
      (λ port below. at port below (eqb sink port) refl ∙ sym (bytes_more plan requests asked port));
}
  where
    all : length lists ≡ count
    all = long plan requests count lists shared

    apart : (port : ℕ) → eqb sink port ≡ false → port ≡ sink → ⊥
    apart port f same = absurd (grind (arith, nat_tests, f))

    at : (port : ℕ) → port < count → (b : Bool) → eqb sink port ≡ b
        → get_or (set lists sink list) port [] ≡ all_bytes_at plan requests port ++ bytes_asked_at plan port asked
    at port below true f =
        let same : sink ≡ port = eqb-true sink port f in
        let own : bytes_asked_at plan port asked ≡ bytes_asked asked.request = it_here plan asked sink port e ∙ ap (λ b. cond b (bytes_asked asked.request) []) f in
        let here : get_or (set lists sink list) sink [] ≡ list = get_or-set_same lists sink list [] (omega (arith, all)) in
        subst (λ n. get_or (set lists sink list) n [] ≡ all_bytes_at plan requests port ++ bytes_asked_at plan port asked) same
        (here ∙ is ∙ ap (λ n. get_or lists n [] ++ bytes_asked asked.request) same
        ∙ ap (λ xs. xs ++ bytes_asked asked.request) (at_port plan requests count lists port shared below)
        ∙ ap (λ xs. all_bytes_at plan requests port ++ xs) (sym own))
    at port below false f =
        let other : bytes_asked_at plan port asked ≡ [] = it_here plan asked sink port e ∙ ap (λ b. cond b (bytes_asked asked.request) []) f in
        get_or-set_other lists sink port list [] (λ same. apart port f same) ∙ at_port plan requests count lists port shared below
        ∙ sym (append-nil (all_bytes_at plan requests port)) ∙ ap (λ xs. all_bytes_at plan requests port ++ xs) (sym other)

-- for no request there is nothing
pub shared_none : (plan : Plan) (count : ℕ) (lists : List (List ℕ)) → lists ≡ map (λ _. []) (range_with_len 0 count) → AreShared plan [] count lists
shared_none plan count lists e = record { is = e }

-- ---- bounds

-- a request whose bytes have addresses below 2^64 has a size below 64
pub size_below : (address size : ℕ) → address + 2 ^ size < 2 ^ 64 → size < 64
size_below address size fits = at (cases_lt size 64)
  where
    at : (size < 64) ⊎ (64 ≤ size) → size < 64
    at (inl less) = less
    at (inr more) = let large : 2 ^ 64 ≤ 2 ^ size = pow-le-pow_right {n = 2} (omega arith) more in absurd (omega arith)

-- a legal request has bytes with addresses below 2^64
edge_sets : (plan : Plan) (number : ℕ) → All IsSoundEdge plan.edges → HaveSets (edge_at plan number).slaves
edge_sets plan number all = at (slice_get plan.edges number) refl
  where
    none : HaveSets []
    none k d within = absurd (omega arith)

    at : (o : Option PlanEdge) → slice_get plan.edges number ≡ o → HaveSets (unwrap_or o no_edge).slaves
    at None e = none
    at (Some edge) e = (item_has IsSoundEdge plan.edges number edge all e).sets

pub bytes_fit : (plan : Plan) (asked : StimRequest) → IsSound plan → IsLegalAt plan asked.port asked.request
    → asked.request.address + 2 ^ asked.request.size < 2 ^ 64
bytes_fit plan asked sound legal =
    let answerable = legal.legal.answerable in
    let address : asked.request.address < 2 ^ 48 =
    legal_law.address (edge_at plan legal.at.edge).slaves asked.request (edge_sets plan legal.at.edge sound.edges) answerable.owned in
    let small : asked.request.size ≤ 8 = answerable.whole.shape.small in
    let bytes : 2 ^ asked.request.size ≤ 2 ^ 8 = pow-le-pow_right {n = 2} (omega arith) small in
    omega (arith, address, bytes)

-- ---- lists of a vector

pub empty_more : {Z : Type 0} (lists all : List (Vec ℕ Z)) (one : Vec ℕ Z) (count : ℕ) → all ≡ lists ++ one ∷ [] → one.items ≡ []
    → map (λ (list : Vec ℕ Z). list.items) lists ≡ map (λ _. []) (range_with_len 0 count)
    → map (λ (list : Vec ℕ Z). list.items) all ≡ map (λ _. []) (range_with_len 0 (count + 1))
empty_more {Z = Z} lists all one count e none before =
    ap (map (λ (list : Vec ℕ Z). list.items)) e ∙ map_push (λ (list : Vec ℕ Z). list.items) lists one
    ∙ ap (λ (xs : List (List ℕ)). xs ++ one.items ∷ []) before
    ∙ ap (λ (x : List ℕ). map (λ _. []) (range_with_len 0 count) ++ x ∷ []) none
    ∙ sym (map-range_with_len_more (λ _. []) 0 count count (omega arith))

-- ---- the steps of loops

pub bytes_one_more : (before list all : List ℕ) (address number next : ℕ) → all ≡ list ++ next ∷ [] → next ≡ address + number
    → list ≡ before ++ range_with_len address number → all ≡ before ++ range_with_len address (number + 1)
bytes_one_more before list all address number next e f is =
    e ∙ ap (λ (xs : List ℕ). xs ++ next ∷ []) is ∙ append_assoc before (range_with_len address number) (next ∷ [])
    ∙ ap (λ (xs : List ℕ). before ++ xs) (sym (number_more address number next (sym f)))

pub list_below : {Z : Type 0} (plan : Plan) (requests : List StimRequest) (asked : StimRequest) (lists : List (Vec ℕ Z)) (sink : ℕ)
    → AreShared plan requests (length plan.sinks) (map (λ (list : Vec ℕ Z). list.items) lists) → sink_asked plan asked ≡ Some sink → sink < length lists
list_below {Z = Z} plan requests asked lists sink shared e =
    let within : sink < length plan.sinks = goes_within plan asked sink e in
    omega (arith, within, long plan requests (length plan.sinks) (map (λ (list : Vec ℕ Z). list.items) lists) shared, length-map lists (λ (list : Vec ℕ Z). list.items))

pub front_more : (requests : List StimRequest) (place : ℕ) (asked : StimRequest) → place < length requests → asked ≡ get_or requests place asked
    → take place requests ++ asked ∷ [] ≡ take (place + 1) requests
front_more requests place asked within is =
    ap (λ (one : StimRequest). take place requests ++ one ∷ []) is ∙ sym (take_more requests place asked within)

pub step_nowhere : {Z : Type 0} (plan : Plan) (requests : List StimRequest) (place count : ℕ) (asked : StimRequest) (lists : List (Vec ℕ Z))
    → AreShared plan (take place requests) count (map (λ (list : Vec ℕ Z). list.items) lists) → place < length requests → asked ≡ get_or requests place asked
    → sink_asked plan asked ≡ None → AreShared plan (take (place + 1) requests) count (map (λ (list : Vec ℕ Z). list.items) lists)
step_nowhere {Z = Z} plan requests place count asked lists shared within is e =
    subst (λ (rs : List StimRequest). AreShared plan rs count (map (λ (list : Vec ℕ Z). list.items) lists)) (front_more requests place asked within is)
    (shared_nowhere plan (take place requests) asked count (map (λ (list : Vec ℕ Z). list.items) lists) shared e)

pub step_at : {Z : Type 0} (plan : Plan) (requests : List StimRequest) (place sink : ℕ) (asked : StimRequest) (lists : List (Vec ℕ Z)) (old new : Vec ℕ Z)
    → AreShared plan (take place requests) (length plan.sinks) (map (λ (list : Vec ℕ Z). list.items) lists) → place < length requests
    → asked ≡ get_or requests place asked → sink_asked plan asked ≡ Some sink → old ≡ get_or lists sink old → new.items ≡ old.items ++ bytes_asked asked.request
    → AreShared plan (take (place + 1) requests) (length plan.sinks) (map (λ (list : Vec ℕ Z). list.items) (set lists sink new))
step_at {Z = Z} plan requests place sink asked lists old new shared within is e here grown =
    let inside : sink < length lists = list_below plan (take place requests) asked lists sink shared e in
    let was : old.items ≡ get_or (map (λ (list : Vec ℕ Z). list.items) lists) sink [] =
    ap (λ (list : Vec ℕ Z). list.items) here ∙ sym (get_or-map (λ (list : Vec ℕ Z). list.items) lists sink old [] inside) in
    let all = shared_at plan (take place requests) asked (length plan.sinks) sink (map (λ (list : Vec ℕ Z). list.items) lists) new.items shared e (goes_within plan asked sink e)
    (grown ∙ ap (λ (xs : List ℕ). xs ++ bytes_asked asked.request) was) in
    subst (λ (rs : List StimRequest). AreShared plan rs (length plan.sinks) (map (λ (list : Vec ℕ Z). list.items) (set lists sink new)))
    (front_more requests place asked within is)
    (subst (λ (ls : List (List ℕ)). AreShared plan (take place requests ++ asked ∷ []) (length plan.sinks) ls)
    (sym (map-set (λ (list : Vec ℕ Z). list.items) lists sink new)) all)
