-- A run whose events are printed as it goes.
use Rattle.std.proofs.Common.{◌≡◌, ℕ, zero, suc, ◌+◌, ◌-◌, ◌<◌, ◌≤◌, List, [], ◌++◌, map, refl, sym, ap, ◌∙◌, subst, arith, append_assoc}
use Rattle.std.proofs.lemmas.List.{append-nil, map-append}
use Rattle.dip_io.specs.Outside.{OutSeen, Writes, WritesPart}
use Rattle.tl_edge.specs.declared.beat.Event.{Event}
use Rattle.net_cells.specs.declared.netlist.Netlist.{Netlist}
use Rattle.soc_report.specs.TraceLines.{end_line, end_text, trace_lines}
use Rattle.soc_report.specs.declared.trace.Totals.{Totals}
use Rattle.sim_events.specs.Network.{TaggedEvent, tagged_events_in}
use Rattle.sim_events.specs.Setups.{Setup, events_until, run_at, run_events, run_offers}
use Rattle.sim_run.specs.Cycles.{IsGood}
use Rattle.sim_drive.specs.Totals.{AreTotals, requests_begun, requests_returned}
use Rattle.soc_trace.specs.Printing.{Prints}
use Rattle.soc_trace.specs.Traces.{AllGood, WritesTrace, last_line, trace_text}
use Rattle.soc_trace.proofs.Prints.{all_out, both, cut_off, lines_append, part_of_more, stays}

-- ---- events

add_one : (n : ℕ) → n + 1 ≡ suc n
add_one n = omega arith

-- the events of one cycle more
pub until_next : (setup : Setup) (cycle : ℕ) → events_until setup (cycle + 1) ≡ events_until setup cycle ++ run_events setup cycle
until_next setup cycle =
    subst (λ n. events_until setup n ≡ events_until setup cycle ++ run_events setup cycle) (sym (add_one cycle))
    (map-append (λ (happened : TaggedEvent). happened.event) (run_at setup cycle).history
    (tagged_events_in cycle (run_at setup cycle).network (run_offers setup cycle (run_at setup cycle))))

until_more : (setup : Setup) (cycle more : ℕ) → (events : List Event) × (events_until setup (more + cycle) ≡ events_until setup cycle ++ events)
until_more setup cycle zero = ([], (let e : 0 + cycle ≡ cycle = omega arith in ap (events_until setup) e) ∙ sym (append-nil (events_until setup cycle)))
until_more setup cycle (suc more) =
    let rest = until_more setup cycle more in
    let e : suc more + cycle ≡ (more + cycle) + 1 = omega arith in (
      rest.0 ++ run_events setup (more + cycle),
      ap (events_until setup) e ∙ until_next setup (more + cycle) ∙ ap (λ (t : List Event). t ++ run_events setup (more + cycle)) rest.1
          ∙ append_assoc (events_until setup cycle) rest.0 (run_events setup (more + cycle)),
    )

-- the events of some cycles stand in front of those of more
pub until_front : (setup : Setup) (cycle cycles : ℕ) → cycle ≤ cycles → (events : List Event) × (events_until setup cycles ≡ events_until setup cycle ++ events)
until_front setup cycle cycles h =
    let rest = until_more setup cycle (cycles - cycle) in
    let e : (cycles - cycle) + cycle ≡ cycles = omega arith in
    (rest.0, ap (events_until setup) (sym e) ∙ rest.1)

pub fewer : (setup : Setup) (netlist : Netlist) (cycle cycles : ℕ) → cycle ≤ cycles → AllGood setup netlist cycles → AllGood setup netlist cycle
fewer setup netlist cycle cycles h a = λ k b. a k (omega arith)

-- ---- a run on its way

-- the lines of some events are on their way out; for each run that has begun so, and of which all cycles were good, they
-- are its events, and it stands so now
pub record IsGoing (Begins Stands : Setup → Netlist → Type 0) (cycle : ℕ) (before : OutSeen) (waiting : List ℕ)
    (now : OutSeen) : Type 0 where
  pub events : List Event
  pub are : Prints (trace_lines events) [] before waiting now
  pub stands : (setup : Setup) (netlist : Netlist) → Begins setup netlist → AllGood setup netlist cycle → Stands setup netlist
  pub shows : (setup : Setup) (netlist : Netlist) → Begins setup netlist → AllGood setup netlist cycle → events ≡ events_until setup cycle

pub begins : (Begins : Setup → Netlist → Type 0) (out : OutSeen) → IsGoing Begins Begins 0 out [] out
begins Begins out = record {
  events = [];
  are = stays [] out;
  stands = λ setup netlist b a. b;
  shows = λ setup netlist b a. refl;
}

module _ (Begins Stands : Setup → Netlist → Type 0) (cycle : ℕ) (before : OutSeen) (waiting : List ℕ) (now : OutSeen)
    (g : IsGoing Begins Stands cycle before waiting now) where
  module _ (shown : List Event) (after : OutSeen)
      (tells : (setup : Setup) (netlist : Netlist) → Stands setup netlist → IsGood setup netlist cycle → shown ≡ run_events setup cycle) where
    -- what is told of a good run after one cycle more
    told : (setup : Setup) (netlist : Netlist) (cycles : ℕ) → cycle < cycles → Begins setup netlist → AllGood setup netlist cycles
        → g.events ++ shown ≡ events_until setup (cycle + 1)
    told setup netlist cycles h b a =
        let before_it : AllGood setup netlist cycle = fewer setup netlist cycle cycles (omega arith) a in
        ap (λ (t : List Event). t ++ shown) (g.shows setup netlist b before_it)
        ∙ ap (λ (t : List Event). events_until setup cycle ++ t) (tells setup netlist (g.stands setup netlist b before_it) (a cycle h))
        ∙ sym (until_next setup cycle)

    pub goes_on : (Next : Setup → Netlist → Type 0) (left : List ℕ) → Prints (trace_lines shown) waiting now left after
        → ((setup : Setup) (netlist : Netlist) → Stands setup netlist → IsGood setup netlist cycle → Next setup netlist)
        → IsGoing Begins Next (cycle + 1) before left after
    goes_on Next left p is = record {
      events = g.events ++ shown;
      are = subst (λ (t : List ℕ). Prints t [] before left after) (sym (lines_append g.events shown))
          (both (trace_lines g.events) (trace_lines shown) [] waiting left before now after g.are p);
      stands = λ setup netlist b a. is setup netlist (g.stands setup netlist b (fewer setup netlist cycle (cycle + 1) (omega arith) a)) (a cycle (omega arith));
      shows = λ setup netlist b a. told setup netlist (cycle + 1) (omega arith) b a;
    }

    -- a line of a cycle is cut off
    pub cut_within : (setup : Setup) (netlist : Netlist) (cycles : ℕ) → cycle < cycles → Begins setup netlist → AllGood setup netlist cycles
        → WritesPart (waiting ++ trace_lines shown) now after → WritesPart (trace_text setup cycles) before after
    cut_within setup netlist cycles h b a w =
        let rest = until_front setup (cycle + 1) cycles (omega arith) in
        let front : List ℕ = trace_lines g.events ++ trace_lines shown in
        let e : front ≡ trace_lines (events_until setup (cycle + 1)) =
        sym (lines_append g.events shown) ∙ ap trace_lines (told setup netlist cycles h b a) in
        let all : trace_text setup cycles ≡ front ++ (trace_lines rest.0 ++ last_line setup cycles) =
        ap (λ (t : List Event). trace_lines t ++ last_line setup cycles) rest.1
        ∙ ap (λ (t : List ℕ). t ++ last_line setup cycles) (lines_append (events_until setup (cycle + 1)) rest.0 ∙ ap (λ (t : List ℕ). t ++ trace_lines rest.0) (sym e))
        ∙ append_assoc front (trace_lines rest.0) (last_line setup cycles) in
        part_of_more front (trace_lines rest.0 ++ last_line setup cycles) (trace_text setup cycles) before after all
        (cut_off (trace_lines g.events) (trace_lines shown) [] waiting before now after g.are w)

  module _ (totals : Totals) (after : OutSeen) where
    -- all lines and the last one are written
    pub some_trace : (cycles : ℕ) → totals.cycles ≡ cycles → Writes (waiting ++ end_line totals) now after → WritesTrace cycles before after
    some_trace cycles c w = record {
      events = g.events;
      totals = totals;
      all = c;
      wrote = all_out (trace_lines g.events) (end_line totals) [] waiting before now after g.are w;
    }

    module _ (totalled : (setup : Setup) (netlist : Netlist) → Stands setup netlist → AreTotals setup netlist cycle totals) (setup : Setup) (netlist : Netlist)
        (b : Begins setup netlist) (a : AllGood setup netlist cycle) where
      last : end_line totals ≡ last_line setup cycle
      last =
          let t = totalled setup netlist (g.stands setup netlist b a) in
          ap (λ (n : ℕ). end_text n totals.begun totals.returned) t.cycles
          ∙ ap (λ (n : ℕ). end_text cycle n totals.returned) t.begun
          ∙ ap (λ (n : ℕ). end_text cycle (requests_begun setup (events_until setup cycle)) n) t.returned

      whole : trace_lines g.events ++ end_line totals ≡ trace_text setup cycle
      whole =
          ap (λ (t : List Event). trace_lines t ++ end_line totals) (g.shows setup netlist b a)
          ∙ ap (λ (t : List ℕ). trace_lines (events_until setup cycle) ++ t) last

      pub the_trace : Writes (waiting ++ end_line totals) now after → Writes (trace_text setup cycle) before after
      the_trace w = subst (λ (t : List ℕ). Writes t before after) whole (all_out (trace_lines g.events) (end_line totals) [] waiting before now after g.are w)

      pub cut_last : WritesPart (waiting ++ end_line totals) now after → WritesPart (trace_text setup cycle) before after
      cut_last w = subst (λ (t : List ℕ). WritesPart t before after) whole (cut_off (trace_lines g.events) (end_line totals) [] waiting before now after g.are w)
