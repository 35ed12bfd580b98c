-- Drivers of source ports, opened one after another with what each port is asked.
use Rattle.std.proofs.Common.{◌≡◌, ℕ, suc, ◌+◌, ◌<◌, ◌≤◌, Bool, true, false, cond, eqb, List, [], ◌∷◌, ◌++◌, filter, get_or, length, map, inl, inr, Some, slice_get, refl, ap, subst, sym, ◌∙◌, arith}
use Rattle.std.specs.Prelude.{All}
use Rattle.std.proofs.lemmas.Bool.{cases_order, eqb-true}
use Rattle.std.proofs.lemmas.List.{length-append, length-map}
use Rattle.std.proofs.lemmas.List.Elements.{All-filter, All-map, filter_passes}
use Rattle.std.proofs.lemmas.Option.{slice_get_read, slice_get_within}
use Rattle.tl_edge.specs.declared.message.Request.{Request}
use Rattle.tl_edge.specs.declared.plan.Plan.{Plan}
use Rattle.tl_edge.specs.declared.plan.PlanPort.{PlanPort}
use Rattle.tl_edge.specs.Legal.{IsLegalAt}
use Rattle.tl_edge.specs.Plans.{bus_width, edge_at, Source}
use Rattle.tl_edge.specs.SoundPlans.{IsSound}
use Rattle.tl_edge.proofs.Ways.{ends_law, same_item}
use Rattle.sim_ports.specs.declared.stimulus.StimRequest.{StimRequest}
use Rattle.sim_ports.specs.Sources.{MayBeSent, Sending, Sends}
use Rattle.sim_events.specs.Setups.{Setup, script_at, stated_at}
use Rattle.soc_stimulus.specs.Stimuli.{IsLegalAsked}
use Rattle.sim_drive.specs.declared.scripts.Asked.{Asked}
use Rattle.sim_drive.specs.Opening.{MaySendAsked, asked_script, asking}
use Rattle.sim_drive.proofs.Freshly.{at_end, left_of}
use Rattle.sim_drive.proofs.Scripted.{IsAsked}

-- ---- the edge of a port

-- the edge of a source port is one of the plan's
source_edge : (plan : Plan) (port : ℕ) (at : PlanPort) → IsSound plan → slice_get plan.sources port ≡ Some at → at.edge < length plan.edges
source_edge plan port at sound is = ends_law.given plan at.edge (Source port) sound (at, is, refl)

-- what was read at a place of a list
pub there_is : {X : Type 0} (xs read : List X) (k : ℕ) (x : X) → read ≡ xs → k < length read → x ≡ get_or read k x → slice_get xs k ≡ Some x
there_is xs read k x e within is = subst (λ ys. slice_get ys k ≡ Some x) e (slice_get_read read (length read) k x refl within is)

-- ---- what may be sent

-- the requests at a port may be sent there
may_send : (plan : Plan) (at : PlanPort) (port : ℕ) (one : StimRequest) → slice_get plan.sources port ≡ Some at → one.port ≡ port
    → IsLegalAt plan one.port one.request → MayBeSent (edge_at plan at.edge).ids one.request
may_send plan at port one is here legal =
    let same : legal.at ≡ at = same_item plan.sources port legal.at at (subst (λ n. slice_get plan.sources n ≡ Some legal.at) here legal.is) is in
    record {
      shape = legal.legal.answerable.whole.shape;
      id = subst (λ (p : PlanPort). one.request.source < (edge_at plan p.edge).ids) same legal.legal.id;
    }

all_may_be_sent : (plan : Plan) (at : PlanPort) (port : ℕ) (requests : List StimRequest) → slice_get plan.sources port ≡ Some at
    → All (IsLegalAsked plan) requests → All (λ (one : StimRequest). MayBeSent (edge_at plan at.edge).ids one.request) (stated_at port requests)
all_may_be_sent plan at port requests is all k d within =
    let p = λ (one : StimRequest). eqb one.port port in
    may_send plan at port (get_or (stated_at port requests) k d) is
    (eqb-true (get_or (stated_at port requests) k d).port port (filter_passes p requests k d within))
    (All-filter p (IsLegalAsked plan) requests all k d within)

-- a filter keeps no more than there is
one_kept : (b : Bool) (one : StimRequest) (kept requests : List StimRequest) → length kept ≤ length requests → length (cond b (one ∷ kept) kept) ≤ suc (length requests)
one_kept true one kept requests h = omega (arith, h)
one_kept false one kept requests h = omega (arith, h)

few_kept : (p : StimRequest → Bool) (requests : List StimRequest) → length (filter p requests) ≤ length requests
few_kept p [] = omega arith
few_kept p (one ∷ requests) = one_kept (p one) one (filter p requests) requests (few_kept p requests)

-- what a port is asked may be asked of it
pub may_drive : (plan : Plan) (requests : List StimRequest) (port : ℕ) (at : PlanPort) (asked : Asked) → IsSound plan → length requests ≤ 10000
    → All (IsLegalAsked plan) requests → slice_get plan.sources port ≡ Some at → IsAsked (stated_at port requests) asked → MaySendAsked plan at asked
may_drive plan requests port at asked sound few legal is asks =
    let stated = stated_at port requests in
    let first : length asked.requests ≡ length stated = ap length asks.requests ∙ length-map stated (λ (one : StimRequest). one.request) in
    let second : length asked.starts ≡ length stated = ap length asks.starts ∙ length-map stated (λ (one : StimRequest). one.at) in
    let some : length stated ≤ length requests = few_kept (λ (one : StimRequest). eqb one.port port) requests in
    record {
      edge = source_edge plan port at sound is;
      few = omega (arith, first, some, few);
      starts = second ∙ sym first;
      may = subst (λ (xs : List Request). All (MayBeSent (edge_at plan at.edge).ids) xs) (sym asks.requests)
          (All-map (MayBeSent (edge_at plan at.edge).ids) (λ (one : StimRequest). one.request) stated (all_may_be_sent plan at port requests is legal));
    }

-- ---- one port after another

-- what is left of what ports are asked, of which the first one has this number
pub record AreLeft (requests : List StimRequest) (first : ℕ) (lists : List Asked) : Type 0 where
  pub each : (place : ℕ) (asked : Asked) → slice_get lists place ≡ Some asked → IsAsked (stated_at (first + place) requests) asked

-- the first of what is left is what the port with the number is asked
pub first_left : (requests : List StimRequest) (first : ℕ) (left rest : List Asked) (asked : Asked) → AreLeft requests first left → left ≡ asked ∷ rest
    → IsAsked (stated_at first requests) asked
first_left requests first left rest asked all e =
    let z : first + 0 ≡ first = omega arith in
    subst (λ n. IsAsked (stated_at n requests) asked) z (all.each 0 asked (ap (λ (xs : List Asked). slice_get xs 0) e))

-- the others are left after it
pub others_left : (requests : List StimRequest) (first : ℕ) (left rest : List Asked) (asked : Asked) → AreLeft requests first left → left ≡ asked ∷ rest
    → AreLeft requests (first + 1) rest
others_left requests first left rest asked all e = record {
  each = λ place other is.
      let z : first + suc place ≡ first + 1 + place = omega arith in
      subst (λ n. IsAsked (stated_at n requests) other) z
      (all.each (suc place) other (ap (λ (xs : List Asked). slice_get xs (suc place)) e ∙ is));
}

-- drivers of the first source ports of a plan
pub record HaveFirst (setup : Setup) (count : ℕ) (drivers : List Sending) : Type 0 where
  pub long : length drivers ≡ count
  pub each : (port : ℕ) (at : PlanPort) (driver : Sending) → slice_get setup.plan.sources port ≡ Some at
      → slice_get drivers port ≡ Some driver → Sends (script_at setup port at) [] driver

-- a driver with what a port is asked sends the port's script
sends_asked : (plan : Plan) (requests : List StimRequest) (port : ℕ) (at : PlanPort) (asked : Asked) (driver : Sending) → IsAsked (stated_at port requests) asked
    → Sends (asked_script plan at asked) [] driver → Sends (script_at (asking plan requests) port at) [] driver
sends_asked plan requests port at asked driver asks sends =
    let edge = edge_at plan at.edge in
    subst (λ (xs : List ℕ). Sends (record { width = bus_width edge; ids = edge.ids; requests = map (λ (one : StimRequest). one.request) (stated_at port requests); starts = xs }) [] driver)
    asks.starts
    (subst (λ (xs : List Request). Sends (record { width = bus_width edge; ids = edge.ids; requests = xs; starts = asked.starts }) [] driver) asks.requests sends)

-- a driver more
one_more_has : (plan : Plan) (requests : List StimRequest) (count : ℕ) (drivers : List Sending) (at : PlanPort) (asked : Asked) (driver : Sending)
    → HaveFirst (asking plan requests) count drivers → slice_get plan.sources count ≡ Some at → IsAsked (stated_at count requests) asked
    → Sends (asked_script plan at asked) [] driver → HaveFirst (asking plan requests) (count + 1) (drivers ++ driver ∷ [])
one_more_has plan requests count drivers at asked driver before is asks sends = record {
  long = omega (arith, length-append drivers (driver ∷ []), before.long);
  each = λ port there other g k. elim (cases_order port count) [
    | inl q ↦
        let same_driver : other ≡ driver = same_item (drivers ++ driver ∷ []) port other driver k (at_end drivers driver port (q ∙ sym before.long)) in
        let same_port : there ≡ at = same_item plan.sources port there at g (ap (slice_get plan.sources) q ∙ is) in
        subst (λ (x : Sending). Sends (script_at (asking plan requests) port there) [] x) (sym same_driver)
        (subst (λ (x : PlanPort). Sends (script_at (asking plan requests) port x) [] driver) (sym same_port)
        (subst (λ n. Sends (script_at (asking plan requests) n at) [] driver) (sym q) (sends_asked plan requests count at asked driver asks sends)))
    | inr o ↦ elim o [
      | inl b ↦ before.each port there other g (sym (left_of drivers (driver ∷ []) port (omega (arith, b, before.long))) ∙ k)
      | inr b ↦ absurd (let l = slice_get_within (drivers ++ driver ∷ []) port other k in omega (arith, l, b, before.long, length-append drivers (driver ∷ [])))
    ]
  ];
}

pub more_have : (plan : Plan) (requests : List StimRequest) (count : ℕ) (drivers news : List Sending) (at : PlanPort) (asked : Asked) (driver : Sending)
    → HaveFirst (asking plan requests) count drivers → slice_get plan.sources count ≡ Some at → IsAsked (stated_at count requests) asked
    → Sends (asked_script plan at asked) [] driver → news ≡ drivers ++ driver ∷ [] → HaveFirst (asking plan requests) (count + 1) news
more_have plan requests count drivers news at asked driver before is asks sends grown =
    subst (λ (ds : List Sending). HaveFirst (asking plan requests) (count + 1) ds) (sym grown) (one_more_has plan requests count drivers at asked driver before is asks sends)
