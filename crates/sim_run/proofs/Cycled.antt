-- One cycle of a run: what its drivers may be told, and how the run stands afterwards.
use Rattle.std.proofs.Common.{◌≡◌, ℕ, zero, suc, ◌+◌, ◌^◌, ◌<◌, ◌&&◌, ◌||◌, List, [], ◌∷◌, ◌++◌, Bool, true, false, cond, not, nat_lt, length, map, Option, Some, None, IsSome, is_none, slice_get, refl, sym, ap, ◌∙◌, subst, arith, lt-ltb}
use Rattle.std.specs.Prelude.{slice_index}
use Rattle.std.proofs.lemmas.List.{get_or_append_left, length-append, length-map, map-append}
use Rattle.tl_edge.specs.declared.beat.DBeat.{DBeat}
use Rattle.tl_edge.specs.declared.beat.Event.{Event}
use Rattle.net_cells.specs.declared.netlist.Cell.{Cell}
use Rattle.net_cells.specs.declared.netlist.Netlist.{Netlist}
use Rattle.net_cells.specs.declared.netlist.Port.{Port}
use Rattle.net_cells.specs.declared.netlist.Reg.{Reg}
use Rattle.net_cells.specs.Values.{AreInputs}
use Rattle.net_ports.specs.Implementing.{input_values, shown_values}
use Rattle.sim_engine.specs.Running.{Running, RunsCycle}
use Rattle.sim_ports.specs.declared.stimulus.Stall.{Stall}
use Rattle.sim_ports.specs.Sinks.{Serving, Sinking}
use Rattle.sim_ports.specs.Sources.{Sending, offers_now}
use Rattle.sim_events.specs.declared.types.SourceOffer.{SourceOffer}
use Rattle.sim_events.specs.declared.types.SinkOffer.{SinkOffer}
use Rattle.sim_events.specs.Laws.{sinks_in, sources_in}
use Rattle.sim_events.specs.Network.{TaggedEvent, tagged_events_in}
use Rattle.sim_events.specs.Passing.{cycle_inputs}
use Rattle.sim_events.specs.Reading.{events_read, past_sources}
use Rattle.sim_events.specs.Setups.{Setup, events_until, is_stalled, run_at, run_events, run_offers}
use Rattle.sim_events.proofs.Agreed.{inputs_law}
use Rattle.sim_run.specs.Cycles.{IsGood, StandsAfter}
use Rattle.sim_run.specs.Following.{AreToldMore, MayTell, servers_of}
use Rattle.sim_run.specs.Offering.{driver_offers, server_offer, server_offers}
use Rattle.sim_run.specs.Standing.{AreTold}
use Rattle.sim_run.specs.Telling.{AllHear, AllHeard, AllMayServe, AllServed, AllServing, AreOffering, IsServing}
use Rattle.sim_run.specs.Turning.{fitted, input_widths}
use Rattle.sim_run.proofs.Offered.{drivers_law}
use Rattle.sim_run.proofs.Running.{engine_law}
use Rattle.sim_run.proofs.Told.{told_law}

-- ---- values that fit stay

same_all : (ws xs : List ℕ) → length xs ≡ length ws → ((k : ℕ) → k < length xs → slice_index xs k < 2 ^ slice_index ws k) → fitted ws xs ≡ xs
same_all [] [] e h = refl
same_all [] (x ∷ xs) e h = absurd (omega (arith, e))
same_all (w ∷ ws) [] e h = absurd (omega (arith, e))
same_all (w ∷ ws) (x ∷ xs) e h =
    ap (λ t. cond t x 0 ∷ fitted ws xs) (lt-ltb x (2 ^ w) (h 0 (omega arith)))
    ∙ ap (λ (ys : List ℕ). x ∷ ys) (same_all ws xs (omega (arith, e)) (λ k l. h (suc k) (omega (arith, l))))

stay : (n : Netlist) (xs : List ℕ) → AreInputs n xs → fitted (input_widths n) xs ≡ xs
stay n xs h =
    let ws = input_widths n in
    let rs = map (λ (r : Reg). r.width) n.regs in
    let cs = map (λ (c : Cell). c.width) n.cells in
    let l : length ws ≡ length n.inputs = length-map n.inputs (λ (p : Port). p.width) in
    same_all ws xs (h.long ∙ sym l) (λ k b.
    let c : k < length ws = omega (arith, b, h.long, l) in
    subst (λ w. slice_index xs k < 2 ^ w) (get_or_append_left (ws ++ rs) cs 0 k (omega (arith, c, length-append ws rs)) ∙ get_or_append_left ws rs 0 k c) (h.fit k b))

-- ---- what stands for what is offered

some_offered : (t : Bool) (c : ℕ) (driver : Sending) → IsSome (cond t None (offers_now driver c)) → IsSome (offers_now driver c)
some_offered true c driver h = absurd cc
some_offered false c driver h = h

offering : (stalls : List Stall) (c k : ℕ) (drivers : List Sending) (port : ℕ) (offer : SourceOffer) (driver : Sending)
    → slice_get (driver_offers stalls c k drivers) port ≡ Some offer → slice_get drivers port ≡ Some driver → IsSome offer.beat → IsSome (offers_now driver c)
offering stalls c k [] port offer driver e f h = absurd (let q : None ≡ Some driver = f in cc)
offering stalls c k (d ∷ drivers) zero offer driver e f h =
    some_offered (is_stalled stalls true k true c) c driver
    (subst (λ (x : Sending). IsSome (cond (is_stalled stalls true k true c) None (offers_now x c))) (let q : d ≡ driver = cc in q)
    (subst (λ (o : SourceOffer). IsSome o.beat) (let q : offer ≡ record { beat = cond (is_stalled stalls true k true c) None (offers_now d c); takes = not (is_stalled stalls true k false c) } = cc in q) h))
offering stalls c k (d ∷ drivers) (suc port) offer driver e f h = offering stalls c (k + 1) drivers port offer driver e f h

pub are_offering : (stalls : List Stall) (c : ℕ) (drivers : List Sending) (offers : List SourceOffer) → offers ≡ driver_offers stalls c 0 drivers → AreOffering c offers drivers
are_offering stalls c drivers offers q = record {
  each = λ port offer driver e f h. offering stalls c 0 drivers port offer driver (ap (λ (os : List SourceOffer). slice_get os port) (sym q) ∙ e) f h;
}

module _ (u : Setup) (n : Netlist) (c : ℕ) (engine next : Running) (stalls : List Stall) (sources : List Sending) (sinks : List Sinking) (srcs : List SourceOffer) (snks : List SinkOffer) (outs : List ℕ)
    (st : StandsAfter u n c engine stalls sources sinks) (g : IsGood u n c) (es : srcs ≡ driver_offers stalls c 0 sources) (ek : snks ≡ server_offers stalls c 0 (servers_of sinks))
    (r : RunsCycle engine (fitted (input_widths engine.netlist) (cycle_inputs srcs snks)) outs next) where
  srcs_are : srcs ≡ sources_in (run_offers u c (run_at u c))
  srcs_are = es ∙ ap (λ (x : List Stall). driver_offers x c 0 sources) st.stalls_are ∙ drivers_law.sources u (run_at u c).history c sources sinks st.told

  snks_are : snks ≡ sinks_in (run_offers u c (run_at u c))
  snks_are = ek ∙ ap (λ (x : List Stall). server_offers x c 0 (servers_of sinks)) st.stalls_are ∙ drivers_law.sinks u (run_at u c).history c sources sinks st.told

  inputs_are : fitted (input_widths engine.netlist) (cycle_inputs srcs snks) ≡ input_values (run_offers u c (run_at u c))
  inputs_are =
      ap (λ (m : Netlist). fitted (input_widths m) (cycle_inputs srcs snks)) st.engine_is.netlist_is
      ∙ ap (λ (x : List SourceOffer). fitted (input_widths n) (cycle_inputs x snks)) srcs_are
      ∙ ap (λ (x : List SinkOffer). fitted (input_widths n) (cycle_inputs (sources_in (run_offers u c (run_at u c))) x)) snks_are
      ∙ ap (fitted (input_widths n)) (sym (inputs_law (run_offers u c (run_at u c))))
      ∙ stay n (input_values (run_offers u c (run_at u c))) g.orderly.fits

  runs : RunsCycle engine (input_values (run_offers u c (run_at u c))) outs next
  runs = subst (λ (is : List ℕ). RunsCycle engine is outs next) inputs_are r

  outs_are : outs ≡ shown_values (run_at u c).network
  outs_are = engine_law.shows u n c engine next outs st.implements st.engine_is g.orderly runs

  may : MayTell u (events_until u c) c srcs snks outs
  may =
      subst (λ (x : List ℕ). MayTell u (events_until u c) c srcs snks x) (sym outs_are)
      (subst (λ (x : List SinkOffer). MayTell u (events_until u c) c srcs x (shown_values (run_at u c).network)) (sym snks_are)
      (subst (λ (x : List SourceOffer). MayTell u (events_until u c) c x (sinks_in (run_offers u c (run_at u c))) (shown_values (run_at u c).network)) (sym srcs_are) g.may))

  pub may_serve : AllMayServe c snks (past_sources (length srcs) outs) sinks
  may_serve = told_law.serves u (events_until u c) c srcs snks outs sources sinks st.told may

  pub may_hear : AllHear c srcs outs (length sources) sources
  may_hear = told_law.hears u (events_until u c) c srcs snks outs sources sinks st.told may

  pub read : events_read c srcs snks outs ≡ run_events u c
  read =
      ap (λ (x : List ℕ). events_read c srcs snks x) outs_are
      ∙ ap (λ (x : List SourceOffer). events_read c x snks (shown_values (run_at u c).network)) srcs_are
      ∙ ap (λ (x : List SinkOffer). events_read c (sources_in (run_offers u c (run_at u c))) x (shown_values (run_at u c).network)) snks_are
      ∙ drivers_law.events u n c st.sound g.orderly

  all_events : events_until u (c + 1) ≡ events_until u c ++ run_events u c
  all_events =
      ap (events_until u) (let q : c + 1 ≡ suc c = omega arith in q)
      ∙ map-append (λ (happened : TaggedEvent). happened.event) (run_at u c).history (tagged_events_in c (run_at u c).network (run_offers u c (run_at u c)))

  pub stands_next : (news : List Sending) (afters : List Sinking) → AreToldMore c srcs snks outs sources news sinks afters → StandsAfter u n (c + 1) next stalls news afters
  stands_next news afters k = record {
    sound = st.sound;
    well = st.well;
    implements = st.implements;
    engine_is = engine_law.goes_on u n c engine next outs st.engine_is g.orderly runs;
    stalls_are = st.stalls_are;
    told = subst (λ (h : List Event). AreTold u h news afters) (ap (λ (x : List Event). events_until u c ++ x) read ∙ sym all_events)
        (told_law.goes_on u (events_until u c) c srcs snks outs sources news sinks afters st.told may k);
  }

-- ---- what stands for what sink ports take and offer

still_some : (a b : Bool) (o : Option DBeat) → IsSome (cond (a || b) None o) → IsSome (cond (false || b) None o)
still_some true b o h = absurd cc
still_some false b o h = h

not_both : (a t : Bool) (o : Option DBeat) → IsSome (cond t None o) → (a && not (not (is_none o))) ≡ false
not_both a true o h = absurd cc
not_both a false None h = absurd cc
not_both true false (Some x) h = refl
not_both false false (Some x) h = refl

one_serving : (stalls : List Stall) (c k : ℕ) (server : Serving) → IsServing c (server_offer stalls c k server) server
one_serving stalls c k server = record {
  offers = still_some (is_stalled stalls false k false c) (nat_lt c server.from) (slice_get server.replies 0);
  apart = not_both (not (is_stalled stalls false k true c)) (is_stalled stalls false k false c || nat_lt c server.from) (slice_get server.replies 0);
}

serving : (stalls : List Stall) (c k : ℕ) (servers : List Serving) (port : ℕ) (offer : SinkOffer) (server : Serving)
    → slice_get (server_offers stalls c k servers) port ≡ Some offer → slice_get servers port ≡ Some server → IsServing c offer server
serving stalls c k [] port offer server e f = absurd (let q : None ≡ Some server = f in cc)
serving stalls c k (d ∷ servers) zero offer server e f =
    subst (λ (x : Serving). IsServing c offer x) (let q : d ≡ server = cc in q)
    (subst (λ (o : SinkOffer). IsServing c o d) (let q : server_offer stalls c k d ≡ offer = cc in q) (one_serving stalls c k d))
serving stalls c k (d ∷ servers) (suc port) offer server e f = serving stalls c (k + 1) servers port offer server e f

pub all_serving : (stalls : List Stall) (c : ℕ) (servers : List Serving) (offers : List SinkOffer) → offers ≡ server_offers stalls c 0 servers → AllServing c offers servers
all_serving stalls c servers offers q = record {
  each = λ port offer server e f. serving stalls c 0 servers port offer server (ap (λ (os : List SinkOffer). slice_get os port) (sym q) ∙ e) f;
}

-- ---- lists of drivers, each seen as a port with its device

pub ports_of : {A : Type 0} (f : A → Sinking) (h : A → Serving) → ((x : A) → h x ≡ (f x).port) → (xs : List A) → map h xs ≡ servers_of (map f xs)
ports_of f h e [] = refl
ports_of f h e (x ∷ xs) = ap (λ (y : Serving). y ∷ map h xs) (e x) ∙ ap (λ (ys : List Serving). (f x).port ∷ ys) (ports_of f h e xs)

pub told_more : {A : Type 0} (f : A → Sinking) (c : ℕ) (srcs : List SourceOffer) (snks : List SinkOffer) (outs : List ℕ) (olds news : List Sending) (xs ys : List A)
    → length srcs ≡ length olds → length snks ≡ length xs → length news ≡ length olds → length ys ≡ length xs
    → AllHeard c srcs outs (length olds) olds news → AllServed c snks (past_sources (length srcs) outs) (length xs) (map f xs) (map f ys)
    → AreToldMore c srcs snks outs olds news (map f xs) (map f ys)
told_more f c srcs snks outs olds news xs ys a b d e heard served = record {
  sources_long = a;
  sinks_long = b ∙ sym (length-map xs f);
  news_long = d;
  afters_long = length-map ys f ∙ e ∙ sym (length-map xs f);
  heard = heard;
  served = subst (λ n. AllServed c snks (past_sources (length srcs) outs) n (map f xs) (map f ys)) (sym (length-map xs f)) served;
}
