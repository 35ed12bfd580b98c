-- A stimulus has no more requests than a file may state.
use Rattle.std.proofs.Common.{ℕ, ◌≡◌, ◌+◌, ◌≤◌, List, [], ◌∷◌, ◌++◌, length, Bool, true, false, Option, Some, None, refl, ap, ◌∙◌, subst, sym, arith}
use Rattle.std.specs.Prelude.{cond, codes, nat_le, ◌||◌}
use Rattle.std.specs.Option.{option_and_then, option_map, option_or}
use Rattle.toml.specs.Data.{Data, Items, no_items, item, Members}
use Rattle.dip_lists.specs.First.{Check, Failure, check, failure_of, first, first_failing}
use Rattle.dip_graph.specs.declared.design.Design.{Design}
use Rattle.dip_plan.specs.declared.accepted.Accepted.{Accepted}
use Rattle.tl_params.specs.declared.ports.DownPort.{DownPort}
use Rattle.tl_params.specs.declared.ports.UpPort.{UpPort}
use Rattle.tl_edge.specs.declared.plan.Plan.{Plan}
use Rattle.toml_shape.specs.Entries.{all_of, before, count, failing}
use Rattle.toml_shape.specs.Shapes.{number_under}
use Rattle.sim_ports.specs.declared.stimulus.Setting.{Setting}
use Rattle.sim_ports.specs.declared.stimulus.Stall.{Stall}
use Rattle.sim_ports.specs.declared.stimulus.StimRequest.{StimRequest}
use Rattle.soc_stimulus.specs.declared.passes.Pass.TheVariants.{Shape, Limits}
use Rattle.soc_stimulus.specs.declared.tables.Part.TheVariants.{Request}
use Rattle.soc_stimulus.specs.declared.read.Stimulus.{Stimulus}
use Rattle.soc_stimulus.specs.Entries.{checks_of_pass, requests_in, table_fails}
use Rattle.soc_stimulus.specs.Limits.{most_cycles, most_requests}
use Rattle.soc_stimulus.specs.Ports.{names_of_nodes}
use Rattle.soc_stimulus.specs.Reading.{parts_of, port_rules, rules_of_tree, stated_requests, stated_settings, stated_stalls, stimulus_of, stimulus_tree, tree_rules}
use Rattle.soc_stimulus.specs.Requests.{asked_request}
use Rattle.soc_stimulus.specs.Stated.{has_no_numbers}
use Rattle.soc_stimulus.specs.Stimuli.{rules_for, stimulus_for}

-- ---- checks that pass

later_none : (found later : Option Failure) → option_or found later ≡ None → (found ≡ None) × (later ≡ None)
later_none None later e = (refl, e)
later_none (Some x) later e = absurd (cc)

none_fails : (number : ℕ) (subjects : List ℕ) → option_map (failure_of number) (first subjects) ≡ None → subjects ≡ []
none_fails number [] e = refl
none_fails number (s ∷ ss) e = absurd (cc)

-- where no check of two lists fails, none of the second does
second_passes : (a b : List Check) → first_failing (a ++ b) ≡ None → first_failing b ≡ None
second_passes [] b e = e
second_passes (c ∷ a) b e = second_passes a b (later_none (option_map (failure_of c.number) (first c.failing)) (first_failing (a ++ b)) e).1

first_passes : (a b : List Check) → first_failing (a ++ b) ≡ None → first_failing a ≡ None
first_passes [] b e = refl
first_passes (c ∷ a) b e =
    let p = later_none (option_map (failure_of c.number) (first c.failing)) (first_failing (a ++ b)) e in
    ap (λ f. option_or f (first_failing a)) p.0 ∙ first_passes a b p.1

-- ---- tables

none_here : (fails : Bool) (entry : ℕ) (others : List ℕ) → cond fails (entry ∷ others) others ≡ [] → (fails ≡ false) × (others ≡ [])
none_here true entry others e = absurd (cc)
none_here false entry others e = (refl, e)

within_one : (past beyond : Bool) → past || beyond ≡ false → past ≡ false
within_one true beyond e = e
within_one false beyond e = refl

-- no table stands past the most that may
few_tables : (place entry : ℕ) (ds : Items) → place ≤ most_requests → failing (table_fails Limits Request) place entry ds ≡ [] → place + count ds ≤ most_requests
few_tables place entry no_items h e = omega arith
few_tables place entry (item d ds) h e =
    let p = none_here (table_fails Limits Request place d) entry (failing (table_fails Limits Request) (place + 1) (entry + 1) ds) e in
    let past : nat_le most_requests place ≡ false = within_one (nat_le most_requests place) (has_no_numbers Request d) p.0 in
    let lower : place + 1 ≤ most_requests = grind arith in
    let rest : (place + 1) + count ds ≤ most_requests = few_tables (place + 1) (entry + 1) ds lower p.1 in
    omega arith

module _ {A : Type 0} (states : Data → Option A) where
  more : (x : Option A) (xs : Option (List A)) (n : ℕ) (all : List A) → ((rest : List A) → xs ≡ Some rest → length rest ≡ n)
      → before x xs ≡ Some all → length all ≡ 1 + n
  more None xs n all h e = absurd (cc)
  more (Some x) None n all h e = absurd (cc)
  more (Some x) (Some rest) n all h e =
      let same : x ∷ rest ≡ all = cc in
      let of_rest : length rest ≡ n = h rest refl in
      let of_all : length all ≡ length (x ∷ rest) = ap length (sym same) in
      omega arith

  -- as many are stated as there are tables
  as_many : (ds : Items) (all : List A) → all_of states ds ≡ Some all → length all ≡ count ds
  as_many no_items all e =
      let same : [] ≡ all = cc in
      ap length (sym same)
  as_many (item d ds) all e = more (states d) (all_of states ds) (count ds) all (as_many ds) e

-- ---- a stimulus

abbrev Parts : Type 0
Parts = List StimRequest × List Stall × List Setting

of_parts : (r : Option (List StimRequest)) (s : Option (List Stall)) (t : Option (List Setting)) (parts : Parts)
    → option_and_then (λ requests. option_and_then (λ stalls. option_map (λ settings. (requests, stalls, settings)) t) s) r ≡ Some parts → r ≡ Some parts.0
of_parts None s t parts e = absurd (cc)
of_parts (Some x) None t parts e = absurd (cc)
of_parts (Some x) (Some y) None parts e = absurd (cc)
of_parts (Some x) (Some y) (Some z) parts e =
    let same : (x, y, z) ≡ parts = cc in
    ap (λ (p : Parts). Some p.0) same

of_stimulus : (c : Option ℕ) (p : Option Parts) (stimulus : Stimulus)
    → option_and_then (λ cycles. option_map (λ (parts : Parts). record { cycles = cycles; requests = parts.0; stalls = parts.1; devices = parts.2 }) p) c ≡ Some stimulus
    → (parts : Parts) × (p ≡ Some parts) × (parts.0 ≡ stimulus.requests)
of_stimulus None p stimulus e = absurd (cc)
of_stimulus (Some cycles) None stimulus e = absurd (cc)
of_stimulus (Some cycles) (Some parts) stimulus e =
    let same : record { cycles = cycles; requests = parts.0; stalls = parts.1; devices = parts.2 } ≡ stimulus = cc in
    (parts, refl, ap (λ (s : Stimulus). s.requests) same)

none_yet : 0 ≤ most_requests
none_yet = omega arith

no_more : (requests stated tables : ℕ) → requests ≡ stated → stated ≡ tables → 0 + tables ≤ most_requests → requests ≤ 10000
no_more requests stated tables e k h = omega arith

module _ (names : List (List ℕ)) (plan : Plan) (downs : List DownPort) (ups : List UpPort) (stimulus : Stimulus) where
  few_in : (tree : Option Members) → first_failing (rules_of_tree names plan downs ups tree) ≡ None → option_and_then (stimulus_of names plan) tree ≡ Some stimulus
      → length stimulus.requests ≤ 10000
  few_in None h e = absurd (cc)
  few_in (Some ms) h e =
      let s = of_stimulus (number_under (codes "cycles") 0 most_cycles ms) (parts_of names plan ms) stimulus e in
      let r : stated_requests names plan ms ≡ Some s.0.0 = of_parts (stated_requests names plan ms) (stated_stalls names plan ms) (stated_settings names plan ms) s.0 s.1 in
      let n : length s.0.0 ≡ count (requests_in ms) = as_many (asked_request names plan.sources) (requests_in ms) s.0.0 r in
      let limits : first_failing (checks_of_pass Limits ms) ≡ None =
      first_passes (checks_of_pass Limits ms) (port_rules names plan downs ups ms) (second_passes (checks_of_pass Shape ms) (checks_of_pass Limits ms ++ port_rules names plan downs ups ms) h) in
      let top = later_none _ _ limits in
      let requests = later_none _ _ top.1 in
      let none : failing (table_fails Limits Request) 0 1 (requests_in ms) ≡ [] = none_fails 3 (failing (table_fails Limits Request) 0 1 (requests_in ms)) requests.0 in
      no_more (length stimulus.requests) (length s.0.0) (count (requests_in ms)) (ap length (sym s.2)) n (few_tables 0 1 (requests_in ms) none_yet none)

pub few_requests : (design : Design) (accepted : Accepted) (bytes : List ℕ) (stimulus : Stimulus) → first_failing (rules_for design accepted bytes) ≡ None
    → stimulus_for design accepted bytes ≡ Some stimulus → length stimulus.requests ≤ 10000
few_requests design accepted bytes stimulus h e =
    few_in (names_of_nodes design.nodes) accepted.plan accepted.solution.down accepted.solution.up stimulus (stimulus_tree bytes) h e
