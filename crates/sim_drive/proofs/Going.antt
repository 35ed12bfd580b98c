-- A run that begins, goes on by a cycle, and comes to its totals.
use Rattle.std.proofs.Common.{◌≡◌, ℕ, zero, suc, ◌+◌, ◌*◌, ◌%◌, ◌^◌, ◌≤◌, ◌<◌, List, [], ◌∷◌, ◌++◌, length, map, get_or, Some, slice_get, refl, sym, ap, ◌∙◌, subst, arith}
use Rattle.std.specs.Prelude.{sum, None, vec_capacity}
use Rattle.std.specs.List.{range_with_len}
use Rattle.std.specs.Option.{option_map}
use Rattle.std.proofs.Math.Nat.{mod-add-mod}
use Rattle.std.proofs.lemmas.List.{length-map, map-append}
use Rattle.std.proofs.lemmas.List.FromFn.{length-range_with_len}
use Rattle.std.proofs.lemmas.Option.{get_or_from_slice_get, slice_get-map, slice_get_within}
use Rattle.std.proofs.lemmas.List.Sums.{sum_by-append}
use Rattle.tl_edge.specs.declared.beat.Event.{Event}
use Rattle.tl_edge.specs.declared.plan.Plan.{Plan}
use Rattle.tl_edge.specs.SoundPlans.{IsSound}
use Rattle.tl_edge.proofs.Ways.{ends_law}
use Rattle.net_cells.specs.declared.netlist.Netlist.{Netlist}
use Rattle.net_cells.specs.Rules.{IsWellFormed}
use Rattle.net_ports.specs.Implementing.{Implements}
use Rattle.sim_engine.specs.Running.{Running, opened}
use Rattle.sim_ports.specs.declared.prepared.Prepared.{Prepared}
use Rattle.sim_ports.specs.declared.stimulus.Stall.{Stall}
use Rattle.sim_ports.specs.declared.stimulus.StimRequest.{StimRequest}
use Rattle.sim_ports.specs.Devices.{HasJust}
use Rattle.sim_ports.specs.Prepared.{ArePrepared, AreRising}
use Rattle.sim_ports.specs.Sinks.{Sinking}
use Rattle.sim_ports.specs.Sources.{Sending}
use Rattle.sim_events.specs.Network.{TaggedEvent, tagged_events_in}
use Rattle.sim_events.specs.Setups.{Setup, events_until, run_at, run_events, run_offers, sink_at_start}
use Rattle.sim_run.specs.Buffering.{FitsPorts}
use Rattle.sim_run.specs.Cycles.{IsGood, StandsAfter}
use Rattle.sim_run.specs.Standing.{AreTold}
use Rattle.soc_report.specs.declared.trace.Totals.{Totals}
use Rattle.sim_drive.specs.declared.run.Run.{Run}
use Rattle.sim_drive.specs.Opening.{AreFresh, HaveAsked, addresses_of, answering, asking}
use Rattle.sim_drive.specs.Preparing.{device_addresses, all_addresses, all_bytes_at}
use Rattle.sim_drive.specs.Runs.{IsRunnable, IsRunOf}
use Rattle.sim_drive.specs.Totals.{AreTotals, bytes_returned, data_returned, requests_begun, requests_returned}
use Rattle.sim_drive.proofs.Ascending.{rises}

-- ---- it goes on

-- what has happened before the next cycle is what had happened, and the events of this one
all_events : (setup : Setup) (cycle : ℕ) → events_until setup (cycle + 1) ≡ events_until setup cycle ++ run_events setup cycle
all_events setup cycle =
    ap (events_until setup) (let q : cycle + 1 ≡ suc cycle = omega arith in q)
    ∙ map-append (λ (happened : TaggedEvent). happened.event) (run_at setup cycle).history (tagged_events_in cycle (run_at setup cycle).network (run_offers setup cycle (run_at setup cycle)))

-- the data of a cycle more
pub data_on : (setup : Setup) (cycle before after : ℕ) (shown : List Event) → before ≡ data_returned (events_until setup cycle) % 2 ^ 64
    → shown ≡ run_events setup cycle → after ≡ (before + data_returned shown) % 2 ^ 64 → after ≡ data_returned (events_until setup (cycle + 1)) % 2 ^ 64
data_on setup cycle before after shown b s a =
    a ∙ ap (λ n. (n + data_returned shown) % 2 ^ 64) b
    ∙ mod-add-mod (data_returned (events_until setup cycle)) (2 ^ 64) (data_returned shown)
    ∙ ap (λ (es : List Event). (data_returned (events_until setup cycle) + data_returned es) % 2 ^ 64) s
    ∙ ap (λ n. n % 2 ^ 64) (sym (sum_by-append (λ (event : Event). bytes_returned event.what) (events_until setup cycle) (run_events setup cycle))
    ∙ ap data_returned (sym (all_events setup cycle)))

-- ---- it ends

-- the totals are those of a run, where each counter is as the run's drivers and engine say
pub come_to : {X : Type 0} {P : X → Type 0} (setup : Setup) (netlist : Netlist) (cycle : ℕ) (run : Run X P) (sinks : List Sinking) (totals : Totals) → IsRunOf setup netlist cycle run sinks
    → totals.cycles ≡ run.ran → totals.sum ≡ run.sum → totals.state ≡ sum run.engine.registers % 2 ^ 64
    → (AreTold setup (events_until setup cycle) run.sources.items sinks → totals.begun ≡ requests_begun setup (events_until setup cycle))
    → (AreTold setup (events_until setup cycle) run.sources.items sinks → totals.returned ≡ requests_returned setup (events_until setup cycle))
    → AreTotals setup netlist cycle totals
come_to setup netlist cycle run sinks totals k a b d e f = record {
  cycles = a ∙ k.ran;
  begun = e k.stands.told;
  returned = f k.stands.told;
  bytes = b ∙ k.bytes;
  registers = run.engine.registers;
  ran = k.stands.engine_is.runs;
  state = d;
}

-- ---- it begins

-- drivers to which nothing has happened have been told nothing
pub told_nothing : (setup : Setup) (sources : List Sending) (sinks : List Sinking) → HaveAsked setup sources → AreFresh setup sinks → AreTold setup [] sources sinks
told_nothing setup sources sinks a f = record {
  sources_long = a.long;
  sinks_long = f.long;
  sends = a.each;
  serves = λ port at sink e g. (f.each port at sink e g).is;
}

-- a run begins with an engine that is opened and drivers to which nothing has happened
pub begins : (setup : Setup) (netlist : Netlist) (engine : Running) (stalls : List Stall) (sources : List Sending) (sinks : List Sinking)
    → IsSound setup.plan → IsWellFormed netlist → Implements setup.plan netlist → engine ≡ opened netlist → stalls ≡ setup.stalls
    → HaveAsked setup sources → AreFresh setup sinks → StandsAfter setup netlist 0 engine stalls sources sinks
begins setup netlist engine stalls sources sinks s w i e t a f = record {
  sound = s;
  well = w;
  implements = i;
  engine_is = record {
    netlist_is = ap (λ (x : Running). x.netlist) e;
    runs = record { values = []; is = tt; holds = ap (λ (x : Running). x.registers) e };
  };
  stalls_are = t;
  told = told_nothing setup sources sinks a f;
}

-- fresh ports in a run that has more than they see
pub fresh_in : (setup : Setup) (addresses : List (List ℕ)) (sinks : List Sinking) → addresses ≡ setup.addresses → AreFresh (answering setup.plan setup.settings setup.devices addresses) sinks → AreFresh setup sinks
fresh_in setup addresses sinks e h = record {
  long = h.long;
  each = λ port at sink f g.
      let k = h.each port at sink f g in
      record {
        is = k.is ∙ ap (λ (listed : List (List ℕ)). sink_at_start (answering setup.plan setup.settings setup.devices listed) port at) e;
        has = subst (λ (listed : List (List ℕ)). HasJust (get_or listed port []) sink.device.held) e k.has;
      };
}

-- drivers that have been asked in one that has more
pub asked_in : (setup : Setup) (sources : List Sending) → HaveAsked (asking setup.plan setup.requests) sources → HaveAsked setup sources
asked_in setup sources h = record { long = h.long; each = h.each }

-- there is an item at each place within a list
place_there : {A : Type 0} (xs : List A) (i : ℕ) → i < length xs → (x : A) × (slice_get xs i ≡ Some x)
place_there [] i l = absurd (omega arith)
place_there (x ∷ xs) zero l = (x, refl)
place_there (x ∷ xs) (suc i) l = place_there xs i (omega (arith, l))

-- each of some lists that rise, made of the numbers at their places, rises
rising_there : (f : ℕ → List ℕ) → ((n : ℕ) → AreRising (f n)) → (xs : List ℕ) (k : ℕ) (ys : List ℕ) → slice_get (map f xs) k ≡ Some ys → AreRising ys
rising_there f h [] k ys e = absurd (let q : None ≡ Some ys = e in cc)
rising_there f h (x ∷ xs) zero ys e = let q : f x ≡ ys = cc in subst AreRising q (h x)
rising_there f h (x ∷ xs) (suc k) ys e = rising_there f h xs k ys e

-- the addresses at a place are those that are prepared there
address_there : (prepared : List Prepared) (k : ℕ) (at : Prepared) → slice_get prepared k ≡ Some at → slice_get (addresses_of prepared) k ≡ Some at.addresses
address_there prepared k at e = slice_get-map (λ (at : Prepared). at.addresses) prepared k ∙ ap (option_map (λ (at : Prepared). at.addresses)) e

-- addresses that a plan's requests reach, in rising order, one list for each sink port
pub as_many_prepared : (plan : Plan) (requests : List StimRequest) (prepared : List Prepared) → addresses_of prepared ≡ all_addresses plan requests → length prepared ≡ length plan.sinks
as_many_prepared plan requests prepared e =
    sym (length-map prepared (λ (at : Prepared). at.addresses)) ∙ ap length e
    ∙ length-map (range_with_len 0 (length plan.sinks)) (device_addresses plan requests) ∙ length-range_with_len 0 (length plan.sinks)

-- fresh ports are prepared
pub are_prepared : (setup : Setup) (prepared : List Prepared) (sinks : List Sinking) → setup.addresses ≡ all_addresses setup.plan setup.requests → addresses_of prepared ≡ setup.addresses
    → AreFresh setup sinks → ArePrepared prepared sinks
are_prepared setup prepared sinks all e h =
    let many : length prepared ≡ length setup.plan.sinks = as_many_prepared setup.plan setup.requests prepared (e ∙ all) in
    record {
      long = many ∙ sym h.long;
      each = λ port at sink f g.
          let l = slice_get_within prepared port at f in
          let there = place_there setup.plan.sinks port (omega (arith, l, many)) in
          let k = h.each port there.0 sink there.1 g in
          let held : get_or setup.addresses port [] ≡ at.addresses = get_or_from_slice_get setup.addresses port at.addresses [] (ap (λ (listed : List (List ℕ)). slice_get listed port) (sym e) ∙ address_there prepared port at f) in
          record {
            prepared = ap (λ (s : Sinking). s.device.prepared) k.is;
            has = subst (λ (listed : List ℕ). HasJust listed sink.device.held) held k.has;
            rising = rising_there (device_addresses setup.plan setup.requests) (λ n. rises (all_bytes_at setup.plan setup.requests n)) (range_with_len 0 (length setup.plan.sinks)) port at.addresses
                (ap (λ (listed : List (List ℕ)). slice_get listed port) (sym (e ∙ all)) ∙ address_there prepared port at f);
            begun = λ l. absurd (let z : length sink.port.taken ≡ 0 = ap (λ (s : Sinking). length s.port.taken) k.is in omega (arith, l, z));
          };
    }

-- ---- with drivers that are kept in a list, each seen as a port with its device

module _ {A : Type 0} (f : A → Sinking) (setup : Setup) (netlist : Netlist) (cycle ran : ℕ) (before after : Running) (stalls stalls_now : List Stall) (sources sources_now : List Sending) (xs xs_now : List A)
    (same_ran : ran ≡ cycle) (same_stalls : stalls_now ≡ stalls) (same_sources : sources_now ≡ sources) (same_sinks : xs_now ≡ xs)
    (stood : StandsAfter setup netlist cycle before stalls sources (map f xs)) (good : IsGood setup netlist cycle) where
  -- the run stands so, as the lists are named in a cycle
  stands_now : StandsAfter setup netlist ran before stalls_now sources_now (map f xs_now)
  stands_now =
      subst (λ n. StandsAfter setup netlist n before stalls_now sources_now (map f xs_now)) (sym same_ran)
      (subst (λ (x : List Stall). StandsAfter setup netlist cycle before x sources_now (map f xs_now)) (sym same_stalls)
      (subst (λ (x : List Sending). StandsAfter setup netlist cycle before stalls x (map f xs_now)) (sym same_sources)
      (subst (λ (x : List A). StandsAfter setup netlist cycle before stalls sources (map f x)) (sym same_sinks) stood)))

  -- and the cycle is good by the number that the run keeps
  good_now : IsGood setup netlist ran
  good_now = subst (λ n. IsGood setup netlist n) (sym same_ran) good

  -- what stands after the cycle by those names is what the run keeps
  pub stands_on : (news kept : List Sending) (ys kept_sinks : List A) → kept ≡ news → kept_sinks ≡ ys
      → ((u : Setup) (n : Netlist) → StandsAfter u n ran before stalls_now sources_now (map f xs_now) → IsGood u n ran → StandsAfter u n (ran + 1) after stalls_now news (map f ys))
      → StandsAfter setup netlist (cycle + 1) after stalls kept (map f kept_sinks)
  stands_on news kept ys kept_sinks e d step =
      subst (λ n. StandsAfter setup netlist (n + 1) after stalls kept (map f kept_sinks)) same_ran
      (subst (λ (x : List Stall). StandsAfter setup netlist (ran + 1) after x kept (map f kept_sinks)) same_stalls
      (subst (λ (x : List Sending). StandsAfter setup netlist (ran + 1) after stalls_now x (map f kept_sinks)) (sym e)
      (subst (λ (x : List A). StandsAfter setup netlist (ran + 1) after stalls_now news (map f x)) (sym d) (step setup netlist stands_now good_now))))

  -- and what the cycle shows is the events of the run
  pub shows_on : (shown : List Event)
      → ((u : Setup) (n : Netlist) → StandsAfter u n ran before stalls_now sources_now (map f xs_now) → IsGood u n ran → shown ≡ run_events u ran) → shown ≡ run_events setup cycle
  shows_on shown step = step setup netlist stands_now good_now ∙ ap (run_events setup) same_ran

-- devices that are prepared, where the lists are named otherwise
pub prepared_now : {A : Type 0} (f : A → Sinking) (prepared prepared_now : List Prepared) (xs xs_now : List A) → prepared_now ≡ prepared → xs_now ≡ xs → ArePrepared prepared (map f xs) → ArePrepared prepared_now (map f xs_now)
prepared_now f prepared now xs xs_now e d h =
    subst (λ (ps : List Prepared). ArePrepared ps (map f xs_now)) (sym e) (subst (λ (ys : List _). ArePrepared prepared (map f ys)) (sym d) h)

-- a run that could run, and keeps its ports, its room and its netlist, can run on
pub ready_on : {X : Type 0} {P : X → Type 0} (old new : Run X P) (before after : List Sinking) (sources sinks : ℕ) → IsRunnable old before → old.ran < old.cycles
    → length new.sources.items ≡ sources → length new.sinks.items ≡ sinks → sources ≡ length old.sources.items → sinks ≡ length old.sinks.items
    → FitsPorts new.buffers new.engine.netlist sources sinks → new.engine.netlist ≡ old.engine.netlist → vec_capacity new.shown ≡ vec_capacity old.shown
    → ArePrepared new.prepared.items after → length after ≡ sinks → new.ran ≡ old.ran + 1 → new.cycles ≡ old.cycles → IsRunnable new after
ready_on old new before after sources sinks ready left new_sources new_sinks old_sources old_sinks fits netlist room prepared many ran cycles = record {
  few_sources = omega (arith, new_sources, old_sources, ready.few_sources);
  few_sinks = omega (arith, new_sinks, old_sinks, ready.few_sinks);
  as_many = many ∙ sym new_sinks;
  fits = subst (λ n. FitsPorts new.buffers new.engine.netlist n (length new.sinks.items)) (sym new_sources)
      (subst (λ n. FitsPorts new.buffers new.engine.netlist sources n) (sym new_sinks) fits);
  room = omega (arith, ready.room, room, new_sources, new_sinks, old_sources, old_sinks);
  well = subst IsWellFormed (sym netlist) ready.well;
  prepared = prepared;
  within = omega (arith, left, ran, cycles);
}

-- a run with fresh ports and room for a cycle is ready
pub ready_first : {X : Type 0} {P : X → Type 0} (setup : Setup) (netlist : Netlist) (run : Run X P) (sinks : List Sinking) → IsSound setup.plan → HaveAsked setup run.sources.items → AreFresh setup sinks → length sinks ≡ length run.sinks.items
    → FitsPorts run.buffers netlist (length setup.plan.sources) (length setup.plan.sinks) → 2 * length setup.plan.sources + 2 * length setup.plan.sinks ≤ vec_capacity run.shown
    → IsWellFormed netlist → run.engine ≡ opened netlist → ArePrepared run.prepared.items sinks → run.ran ≤ run.cycles → IsRunnable run sinks
ready_first setup netlist run sinks sound asked fresh many fits room well engine prepared ran =
    let sources_are : length run.sources.items ≡ length setup.plan.sources = asked.long in
    let sinks_are : length run.sinks.items ≡ length setup.plan.sinks = sym many ∙ fresh.long in
    let here : netlist ≡ run.engine.netlist = sym (ap (λ (x : Running). x.netlist) engine) in
    record {
      few_sources = subst (λ n. n ≤ 1024) (sym sources_are) (ends_law.sources setup.plan sound);
      few_sinks = subst (λ n. n ≤ 1024) (sym sinks_are) (ends_law.sinks setup.plan sound);
      as_many = many;
      fits = subst (λ (n : Netlist). FitsPorts run.buffers n (length run.sources.items) (length run.sinks.items)) here
          (subst (λ n. FitsPorts run.buffers netlist n (length run.sinks.items)) (sym sources_are)
          (subst (λ n. FitsPorts run.buffers netlist (length setup.plan.sources) n) (sym sinks_are) fits));
      room = omega (arith, room, sources_are, sinks_are);
      well = subst IsWellFormed here well;
      prepared = prepared;
      within = ran;
    }
