-- What is read off the outputs of a netlist are the events of its network, in a cycle and in a run.
use Rattle.std.proofs.Common.{ℕ, zero, suc, ◌≡◌, ◌+◌, ◌*◌, ◌^◌, ◌<◌, ◌≤◌, List, [], ◌∷◌, ◌++◌, Bool, true, false, drop, length, get_or, Option, Some, None, slice_get, refl, ap, sym, ◌∙◌, subst, arith}
use Rattle.std.specs.Prelude.{flat_map, All}
use Rattle.std.specs.Int.{from_bool}
use Rattle.std.specs.List.{range_with_len}
use Rattle.std.proofs.lemmas.Bool.Decides.{nat_tests}
use Rattle.std.proofs.Math.Seq.{drop-nil}
use Rattle.std.proofs.lemmas.List.{append_assoc, append-nil}
use Rattle.std.proofs.lemmas.Option.{unwrap_or-slice_get}
use Rattle.tl_params.specs.declared.ops.Op.{Op}
use Rattle.tl_params.specs.declared.ops.Op.TheVariants.{PutFull, PutPartial, Arithmetic, Logical, Get, Intent}
use Rattle.tl_edge.specs.declared.beat.ABeat.{ABeat}
use Rattle.tl_edge.specs.declared.beat.DBeat.{DBeat}
use Rattle.tl_edge.specs.declared.beat.Event.{Event}
use Rattle.tl_edge.specs.declared.beat.Tag.{Tag}
use Rattle.tl_edge.specs.declared.plan.PlanEdge.{PlanEdge}
use Rattle.tl_edge.specs.declared.plan.PlanPort.{PlanPort}
use Rattle.tl_edge.specs.declared.plan.Plan.{Plan}
use Rattle.tl_edge.specs.Messages.{has_param}
use Rattle.tl_edge.specs.Plans.{edge_at, no_edge}
use Rattle.tl_edge.specs.Plans.Giver.{Source}
use Rattle.tl_edge.specs.Plans.Taker.{Sink}
use Rattle.tl_edge.specs.SoundPlans.{IsSound}
use Rattle.tl_edge.proofs.Ways.{ends_law}
use Rattle.flow_core.specs.Carried.{carries_a, carries_d}
use Rattle.flow_core.specs.Network.{State, network_at_start}
use Rattle.flow_core.specs.Queues.{has_place, head_in, queue}
use Rattle.flow_choice.specs.declared.offers.Offers.{Offers}
use Rattle.flow_choice.specs.Choosing.{flag_at, of_each, sink_moves, source_moves, state_after_cycle}
use Rattle.flow_choice.specs.Valid.{IsValid, WaitsDown, WaitsUp}
use Rattle.net_ports.specs.Implementing.{AreOffered, AreOffersAt, outputs_by_cycle, request_values, response_values, shown_values, sink_shows, sink_values, source_shows, source_values}
use Rattle.sim_events.specs.Passing.{offered_request, offered_response, all_sink_input, all_source_input}
use Rattle.sim_events.specs.Reading.{events_read, past_sources, sink_events_from, source_events_from}
use Rattle.sim_events.specs.Network.{events_by_cycle, events_of, tagged_events_in}
use Rattle.sim_events.specs.Laws.{CycleLaw, InputsLaw, TraceLaw, at_sinks, at_sources, reads_by_cycle, sinks_in, sources_in}
use Rattle.sim_events.proofs.Read.{IsShortAsk, IsShortHead, bare_request, bare_response, past_sink, past_source}
use Rattle.sim_events.proofs.Passed.{at_one_sink, at_one_source, told, told_both}

-- ---- the inputs

request_bare : (beat : Option (ABeat × Tag)) → request_values beat ≡ offered_request (bare_request beat)
request_bare None = refl
request_bare (Some x) = refl

response_bare : (beat : Option (DBeat × Tag)) → response_values beat ≡ offered_response (bare_response beat)
response_bare None = refl
response_bare (Some x) = refl

sources_given : (beats : List (Option (ABeat × Tag))) (takes : List Bool) → source_values beats takes ≡ all_source_input (at_sources beats takes)
sources_given [] takes = refl
sources_given (beat ∷ beats) [] = refl
sources_given (beat ∷ beats) (take ∷ takes) = let e = request_bare beat in let f = sources_given beats takes in cc

sinks_given : (takes : List Bool) (beats : List (Option (DBeat × Tag))) → sink_values takes beats ≡ all_sink_input (at_sinks takes beats)
sinks_given [] beats = refl
sinks_given (take ∷ takes) [] = refl
sinks_given (take ∷ takes) (beat ∷ beats) = let e = response_bare beat in let f = sinks_given takes beats in cc

pub inputs_law : InputsLaw
inputs_law offers =
    ap (λ (xs : List ℕ). 0 ∷ (xs ++ sink_values offers.take_a offers.reply)) (sources_given offers.enter offers.take_d)
    ∙ ap (λ (xs : List ℕ). 0 ∷ (all_source_input (sources_in offers) ++ xs)) (sinks_given offers.take_a offers.reply)

-- ---- heads that can be read

small_param : (op : Op) (param : ℕ) → has_param op param ≡ true → param < 2 ^ 32
small_param PutFull param h = grind (arith, nat_tests)
small_param PutPartial param h = grind (arith, nat_tests)
small_param Arithmetic param h = grind (arith, nat_tests)
small_param Logical param h = grind (arith, nat_tests)
small_param Get param h = grind (arith, nat_tests)
small_param Intent param h = grind (arith, nat_tests)

module _ (plan : Plan) (sound : IsSound plan) where
  few_ids : (e : ℕ) → e < length plan.edges → (edge_at plan e).ids ≤ 1024
  few_ids e l = subst (λ (edge : PlanEdge). edge.ids ≤ 1024) (sym (unwrap_or-slice_get plan.edges e no_edge)) (sound.edges e no_edge l).few_ids

  asks_short : (e : ℕ) → e < length plan.edges → (q : List (ABeat × Tag)) → All (WaitsDown (edge_at plan e)) q → IsShortAsk (head_in q)
  asks_short e l [] h = tt
  asks_short e l (x ∷ q) h =
      let w : WaitsDown (edge_at plan e) x = h 0 x (omega arith) in
      let few = few_ids e l in
      record {
        param = small_param x.0.op x.0.param w.placed.param;
        size = omega (arith, w.placed.size);
        source = omega (arith, w.fits.id, few);
      }

  heads_short : (e : ℕ) → e < length plan.edges → (q : List (DBeat × Tag)) → All (WaitsUp (edge_at plan e)) q → IsShortHead (head_in q)
  heads_short e l [] h = tt
  heads_short e l (x ∷ q) h =
      let w : WaitsUp (edge_at plan e) x = h 0 x (omega arith) in
      let few = few_ids e l in
      record {
        size = omega (arith, w.size);
        source = omega (arith, w.fits.id, few);
      }

-- ---- lists of ports

drop_more : {A : Type 0} (m n : ℕ) (xs : List A) → drop (m + n) xs ≡ drop n (drop m xs)
drop_more zero n xs = ap (λ k. drop k xs) (let e : 0 + n ≡ n = omega arith in e)
drop_more (suc m) n [] = drop-nil (suc m + n) ∙ sym (drop-nil n)
drop_more (suc m) n (x ∷ xs) = ap (λ k. drop k (x ∷ xs)) (let e : suc m + n ≡ suc (m + n) = omega arith in e) ∙ drop_more m n xs

length_sources : (beats : List (Option (ABeat × Tag))) (takes : List Bool) → length takes ≡ length beats → length (at_sources beats takes) ≡ length beats
length_sources [] takes e = refl
length_sources (beat ∷ beats) [] e = absurd (omega (arith, e))
length_sources (beat ∷ beats) (take ∷ takes) e = ap suc (length_sources beats takes (omega (arith, e)))

module _ (s : State) where
  past_all : (ports : List PlanPort) (rest : List ℕ) → drop (7 * length ports) (flat_map (source_shows s) ports ++ rest) ≡ rest
  past_all [] rest = refl
  past_all (at ∷ ports) rest =
      let n : 7 * length (at ∷ ports) ≡ 7 + 7 * length ports = omega arith in
      ap (λ k. drop k (flat_map (source_shows s) (at ∷ ports) ++ rest)) n
      ∙ drop_more 7 (7 * length ports) (flat_map (source_shows s) (at ∷ ports) ++ rest)
      ∙ ap (λ (xs : List ℕ). drop (7 * length ports) (drop 7 xs)) (append_assoc (source_shows s at) (flat_map (source_shows s) ports) rest)
      ∙ ap (drop (7 * length ports)) (past_source (from_bool (has_place (queue s.a at.edge))) (head_in (queue s.d at.edge)) (flat_map (source_shows s) ports ++ rest))
      ∙ past_all ports rest

-- ---- the events of all ports

module _ (s : State) (offers : Offers) (c : ℕ) where
  -- at each source port its beat may be put, and its head can be read
  pub record FineSources : Type 0 where
    pub edge : (k : ℕ) (at : PlanPort) → slice_get s.plan.sources k ≡ Some at → at.edge < length s.a
    pub head : (k : ℕ) (at : PlanPort) → slice_get s.plan.sources k ≡ Some at → IsShortHead (head_in (queue s.d at.edge))
    pub carried : (k : ℕ) (at : PlanPort) (x : ABeat × Tag) → slice_get s.plan.sources k ≡ Some at → get_or offers.enter k None ≡ Some x → carries_a (edge_at s.plan at.edge) x.0 ≡ true

  pub record FineSinks : Type 0 where
    pub edge : (k : ℕ) (at : PlanPort) → slice_get s.plan.sinks k ≡ Some at → at.edge < length s.d
    pub head : (k : ℕ) (at : PlanPort) → slice_get s.plan.sinks k ≡ Some at → IsShortAsk (head_in (queue s.a at.edge))
    pub carried : (k : ℕ) (at : PlanPort) (x : DBeat × Tag) → slice_get s.plan.sinks k ≡ Some at → get_or offers.reply k None ≡ Some x → carries_d (edge_at s.plan at.edge) x.0 ≡ true

  sources_agree : FineSources → (k : ℕ) (ports : List PlanPort) (beats : List (Option (ABeat × Tag))) (takes : List Bool) (rest : List ℕ)
      → ((i j : ℕ) → j ≡ k + i → slice_get s.plan.sources j ≡ slice_get ports i)
      → ((i j : ℕ) → j ≡ k + i → get_or offers.enter j None ≡ get_or beats i None)
      → ((i j : ℕ) → j ≡ k + i → flag_at offers.take_d j ≡ get_or takes i false)
      → length beats ≡ length ports → length takes ≡ length ports
      → source_events_from c k (at_sources beats takes) (flat_map (source_shows s) ports ++ rest) ≡ told s c k (flat_map (source_moves s offers) (range_with_len k (length ports)))
  sources_agree fine k [] [] takes rest hp hb ht lb lt = refl
  sources_agree fine k [] (beat ∷ beats) takes rest hp hb ht lb lt = absurd (omega (arith, lb))
  sources_agree fine k (at ∷ ports) [] takes rest hp hb ht lb lt = absurd (omega (arith, lb))
  sources_agree fine k (at ∷ ports) (beat ∷ beats) [] rest hp hb ht lb lt = absurd (omega (arith, lt))
  sources_agree fine k (at ∷ ports) (beat ∷ beats) (take ∷ takes) rest hp hb ht lb lt =
      let here : k ≡ k + 0 = omega arith in
      let g : slice_get s.plan.sources k ≡ Some at = hp 0 k here in
      let b : get_or offers.enter k None ≡ beat = hb 0 k here in
      let behind = flat_map (source_shows s) ports ++ rest in
      ap (source_events_from c k (at_sources (beat ∷ beats) (take ∷ takes))) (append_assoc (source_shows s at) (flat_map (source_shows s) ports) rest)
      ∙ ap (λ (es : List Event). es ++ source_events_from c (k + 1) (at_sources beats takes) (drop 7 (source_shows s at ++ behind)))
      (at_one_source s c k offers at beat take behind g b (ht 0 k here) (λ x e. fine.carried k at x g (b ∙ e)) (fine.edge k at g) (fine.head k at g))
      ∙ ap (λ (xs : List ℕ). told s c k (source_moves s offers k) ++ source_events_from c (k + 1) (at_sources beats takes) xs) (past_source (from_bool (has_place (queue s.a at.edge))) (head_in (queue s.d at.edge)) behind)
      ∙ ap (λ (es : List Event). told s c k (source_moves s offers k) ++ es)
      (sources_agree fine (k + 1) ports beats takes rest
      (λ i j e. hp (suc i) j (omega (arith, e))) (λ i j e. hb (suc i) j (omega (arith, e))) (λ i j e. ht (suc i) j (omega (arith, e)))
      (omega (arith, lb)) (omega (arith, lt)))
      ∙ sym (told_both s c k (source_moves s offers k) (flat_map (source_moves s offers) (range_with_len (k + 1) (length ports))))

  sinks_agree : FineSinks → (k : ℕ) (ports : List PlanPort) (takes : List Bool) (beats : List (Option (DBeat × Tag))) (rest : List ℕ)
      → ((i j : ℕ) → j ≡ k + i → slice_get s.plan.sinks j ≡ slice_get ports i)
      → ((i j : ℕ) → j ≡ k + i → flag_at offers.take_a j ≡ get_or takes i false)
      → ((i j : ℕ) → j ≡ k + i → get_or offers.reply j None ≡ get_or beats i None)
      → length takes ≡ length ports → length beats ≡ length ports
      → sink_events_from c k (at_sinks takes beats) (flat_map (sink_shows s) ports ++ rest) ≡ told s c k (flat_map (sink_moves s offers) (range_with_len k (length ports)))
  sinks_agree fine k [] [] beats rest hp ht hb lt lb = refl
  sinks_agree fine k [] (take ∷ takes) beats rest hp ht hb lt lb = absurd (omega (arith, lt))
  sinks_agree fine k (at ∷ ports) [] beats rest hp ht hb lt lb = absurd (omega (arith, lt))
  sinks_agree fine k (at ∷ ports) (take ∷ takes) [] rest hp ht hb lt lb = absurd (omega (arith, lb))
  sinks_agree fine k (at ∷ ports) (take ∷ takes) (beat ∷ beats) rest hp ht hb lt lb =
      let here : k ≡ k + 0 = omega arith in
      let g : slice_get s.plan.sinks k ≡ Some at = hp 0 k here in
      let b : get_or offers.reply k None ≡ beat = hb 0 k here in
      let behind = flat_map (sink_shows s) ports ++ rest in
      ap (sink_events_from c k (at_sinks (take ∷ takes) (beat ∷ beats))) (append_assoc (sink_shows s at) (flat_map (sink_shows s) ports) rest)
      ∙ ap (λ (es : List Event). es ++ sink_events_from c (k + 1) (at_sinks takes beats) (drop 9 (sink_shows s at ++ behind)))
      (at_one_sink s c k offers at take beat behind g (ht 0 k here) b (λ x e. fine.carried k at x g (b ∙ e)) (fine.edge k at g) (fine.head k at g))
      ∙ ap (λ (xs : List ℕ). told s c k (sink_moves s offers k) ++ sink_events_from c (k + 1) (at_sinks takes beats) xs) (past_sink (head_in (queue s.a at.edge)) (from_bool (has_place (queue s.d at.edge))) behind)
      ∙ ap (λ (es : List Event). told s c k (sink_moves s offers k) ++ es)
      (sinks_agree fine (k + 1) ports takes beats rest
      (λ i j e. hp (suc i) j (omega (arith, e))) (λ i j e. ht (suc i) j (omega (arith, e))) (λ i j e. hb (suc i) j (omega (arith, e)))
      (omega (arith, lt)) (omega (arith, lb)))
      ∙ sym (told_both s c k (sink_moves s offers k) (flat_map (sink_moves s offers) (range_with_len (k + 1) (length ports))))

-- ---- a cycle

offered_there : {A : Type 0} (xs : List (Option A)) (k : ℕ) (x : A) → get_or xs k None ≡ Some x → slice_get xs k ≡ Some (Some x)
offered_there [] k x e = absurd (let h : None ≡ Some x = e in cc)
offered_there (y ∷ xs) zero x e = ap (λ o. Some o) e
offered_there (y ∷ xs) (suc k) x e = offered_there xs k x e

same_index : {A : Type 0} (f : ℕ → A) (i j : ℕ) → j ≡ 0 + i → f j ≡ f i
same_index f i j e = ap f (let q : j ≡ i = omega (arith, e) in q)

-- of a state with its own plan
own_cycle : (s : State) (offers : Offers) (c : ℕ) → IsSound s.plan → IsValid s.plan s → AreOffersAt s.plan offers
    → events_read c (sources_in offers) (sinks_in offers) (shown_values s) ≡ events_of (tagged_events_in c s offers)
own_cycle s offers c sound valid offered =
    let srcs = s.plan.sources in
    let snks = s.plan.sinks in
    let sinks_shown = flat_map (sink_shows s) snks in
    let within_source : (k : ℕ) (at : PlanPort) → slice_get srcs k ≡ Some at → at.edge < length s.plan.edges = λ k at g. ends_law.given s.plan at.edge (Source k) sound (at, g, refl) in
    let within_sink : (k : ℕ) (at : PlanPort) → slice_get snks k ≡ Some at → at.edge < length s.plan.edges = λ k at g. ends_law.taken s.plan at.edge (Sink k) sound (at, g, refl) in
    let fine : FineSources s offers c = record {
      edge = λ k at g. let w = within_source k at g in omega (arith, w, valid.shape.a.each);
      head = λ k at g. heads_short s.plan sound at.edge (within_source k at g) (queue s.d at.edge) (valid.up at.edge);
      carried = λ k at x g e. offered.enters k at x g (offered_there offers.enter k x e);
    } in
    let fine_too : FineSinks s offers c = record {
      edge = λ k at g. let w = within_sink k at g in omega (arith, w, valid.shape.d.each);
      head = λ k at g. asks_short s.plan sound at.edge (within_sink k at g) (queue s.a at.edge) (valid.down at.edge);
      carried = λ k at x g e. offered.replies k at x g (offered_there offers.reply k x e);
    } in
    let many : length (sources_in offers) ≡ length srcs = length_sources offers.enter offers.take_d (offered.take_d_long ∙ sym offered.enter_long) ∙ offered.enter_long in
    ap (λ (es : List Event). es ++ sink_events_from c 0 (sinks_in offers) (past_sources (length (sources_in offers)) (shown_values s)))
    (sources_agree s offers c fine 0 srcs offers.enter offers.take_d sinks_shown (same_index (slice_get srcs)) (same_index (λ i. get_or offers.enter i None)) (same_index (flag_at offers.take_d)) offered.enter_long offered.take_d_long)
    ∙ ap (λ (n : ℕ). told s c 0 (of_each (length srcs) (source_moves s offers)) ++ sink_events_from c 0 (sinks_in offers) (past_sources n (shown_values s))) many
    ∙ ap (λ (xs : List ℕ). told s c 0 (of_each (length srcs) (source_moves s offers)) ++ sink_events_from c 0 (sinks_in offers) xs) (past_all s srcs sinks_shown ∙ sym (append-nil sinks_shown))
    ∙ ap (λ (es : List Event). told s c 0 (of_each (length srcs) (source_moves s offers)) ++ es)
    (sinks_agree s offers c fine_too 0 snks offers.take_a offers.reply [] (same_index (slice_get snks)) (same_index (flag_at offers.take_a)) (same_index (λ i. get_or offers.reply i None)) offered.take_a_long offered.reply_long)
    ∙ sym (told_both s c 0 (of_each (length srcs) (source_moves s offers)) (of_each (length snks) (sink_moves s offers)))

pub cycle_law : CycleLaw
cycle_law plan s offers c sound valid offered =
    let e : s.plan ≡ plan = valid.shape.plan in
    own_cycle s offers c (subst IsSound (sym e) sound) (subst (λ (p : Plan). IsValid p s) (sym e) valid) (subst (λ (p : Plan). AreOffersAt p offers) (sym e) offered)

-- ---- a run

reads_agree : (plan : Plan) → IsSound plan → (c : ℕ) (s : State) (cycles : List Offers) → AreOffered plan s cycles
    → reads_by_cycle c cycles (outputs_by_cycle s cycles) ≡ events_by_cycle c s cycles
reads_agree plan sound c s [] h = refl
reads_agree plan sound c s (offers ∷ cycles) h =
    ap (λ (es : List Event). es ∷ reads_by_cycle (c + 1) cycles (outputs_by_cycle (state_after_cycle s offers) cycles)) (cycle_law plan s offers c sound h.1 h.0)
    ∙ ap (λ (ess : List (List Event)). events_of (tagged_events_in c s offers) ∷ ess) (reads_agree plan sound (c + 1) (state_after_cycle s offers) cycles h.2)

pub trace_law : TraceLaw
trace_law plan netlist cycles values sound implements offered run =
    ap (reads_by_cycle 0 cycles) (implements.runs cycles values offered run) ∙ reads_agree plan sound 0 (network_at_start plan) cycles offered
