-- The rules of a file stand in the order in which they are asked.
use Rattle.std.proofs.Common.{◌≡◌, ℕ, zero, suc, ◌+◌, ◌<◌, ◌≤◌, ◌⊎◌, inl, inr, ⊎_elim, List, [], ◌∷◌, ◌++◌, Bool, true, false, cond, not, Option, Some, None, is_none, unwrap_or, refl, sym, ◌∙◌, ap, subst, arith}
use Rattle.std.specs.Prelude.{All, AllPairs, Contains}
use Rattle.std.specs.Option.{option_map, option_map_or, option_or}
use Rattle.std.proofs.lemmas.List.Elements.{All-nil, All-cons, All-weaker, All-contains, Contains-push, Contains-append_left, Contains-append_right, Contains-append_cases}
use Rattle.std.proofs.lemmas.List.Kept.{AllPairs-cons}
use Rattle.toml.specs.Data.{Data, Items, no_items, item, Members}
use Rattle.dip_lists.proofs.FirstFailures.{nothing_fails}
use Rattle.dip_lists.proofs.Pairs.{nowhere, within_cases, behind}
use Rattle.dip_lists.specs.First.{Check, Failure, check, first, failure_of, first_failing}
use Rattle.dip_lists.specs.FirstLaw.{Fails}
use Rattle.toml_shape.specs.Entries.{at_top, count, failing}
use Rattle.tl_params.specs.declared.ports.DownPort.{DownPort}
use Rattle.tl_params.specs.declared.ports.UpPort.{UpPort}
use Rattle.tl_params.specs.declared.ports.Master.{Master}
use Rattle.tl_params.specs.declared.ports.Slave.{Slave}
use Rattle.tl_edge.specs.declared.message.Request.{Request}
use Rattle.tl_edge.specs.declared.plan.Plan.{Plan}
use Rattle.tl_edge.specs.declared.plan.PlanPort.{PlanPort}
use Rattle.sim_ports.specs.declared.stimulus.StimRequest.{StimRequest}
use Rattle.soc_stimulus.specs.declared.devices.PlacedDevice.{PlacedDevice}
use Rattle.soc_stimulus.specs.declared.passes.Pass.{Pass}
use Rattle.soc_stimulus.specs.declared.passes.Pass.TheVariants.{Shape, Limits}
use Rattle.soc_stimulus.specs.declared.tables.Part.TheVariants.{Request as RequestPart, Stall as StallPart, Device as DevicePart}
use Rattle.soc_stimulus.specs.Entries.{checks_of_pass, devices_in, first_device, first_stall, requests_in, pass_rule, stalls_in, table_fails, top_fails}
use Rattle.soc_stimulus.specs.Requests.{at_entry, asked_request, edge_rules, has_whole_load, is_aligned_request, is_emitted, is_supported, master_with, masters_at, request_rules, rules_of_asked, rules_of_each, slaves_at}
use Rattle.soc_stimulus.specs.Settings.{device_after, unnamed_devices}
use Rattle.soc_stimulus.specs.Stalls.{stall_is_unnamed}
use Rattle.soc_stimulus.specs.Reading.{port_rules, rules_of_requests, rules_of_tree, stimulus_rules, stimulus_tree, tree_rules}
use Rattle.soc_stimulus.specs.RulesLaw.{IsAskedBefore, RulesLaw}

-- ---- which failure is asked for before another

early_or_late : (n : ℕ) → (n ≤ 3) ⊎ (4 ≤ n)
early_or_late zero = inl (omega arith)
early_or_late (suc zero) = inl (omega arith)
early_or_late (suc (suc zero)) = inl (omega arith)
early_or_late (suc (suc (suc zero))) = inl (omega arith)
early_or_late (suc (suc (suc (suc n)))) = inr (omega arith)

of_same : (f g : Failure) → f.number ≡ g.number → f.subject < g.subject → IsAskedBefore f g
of_same f g n s =
    ⊎_elim (λ early. inl (early, inr (n, s))) (λ late. let also : 4 ≤ g.number = omega (arith, n, late) in inr (late, also, inl s))
    (early_or_late f.number)

of_late : (f g : Failure) → 4 ≤ f.number → 4 ≤ g.number → f.subject < g.subject → IsAskedBefore f g
of_late f g a b s = inr (a, b, inl s)

of_entry : (f g : Failure) → 4 ≤ f.number → f.number < g.number → f.subject ≡ g.subject → IsAskedBefore f g
of_entry f g a n s = let b : 4 ≤ g.number = omega arith in inr (a, b, inr (s, n))

of_early : (f g : Failure) → f.number ≤ 3 → f.number < g.number → IsAskedBefore f g
of_early f g a n = inl (a, inl n)

not_both : (a b : Failure) → IsAskedBefore a b → IsAskedBefore b a → ⊥
not_both a b before after =
    ⊎_elim
    (λ early. ⊎_elim
    (λ other. ⊎_elim
    (λ up. ⊎_elim (λ down. absurd (omega arith)) (λ same. let e = same.0 in absurd (omega arith)) other.1)
    (λ equal. let e = equal.0 in let up = equal.1 in
    ⊎_elim (λ down. absurd (omega arith)) (λ same. let down = same.1 in absurd (omega arith)) other.1)
    early.1)
    (λ other. let late = other.1 in let soon = early.0 in absurd (omega arith)) after)
    (λ late. ⊎_elim
    (λ other. let soon = other.0 in let behind = late.1 in absurd (omega arith))
    (λ other. ⊎_elim
    (λ up. ⊎_elim (λ down. absurd (omega arith)) (λ same. let e = same.0 in absurd (omega arith)) other.2)
    (λ equal. let e = equal.0 in let up = equal.1 in
    ⊎_elim (λ down. absurd (omega arith)) (λ same. let down = same.1 in absurd (omega arith)) other.2)
    late.2) after)
    before

-- ---- failures of checks in a row

fails_here : (c : Check) (cs : List Check) (subject : ℕ) → Contains c.failing subject → Fails (c ∷ cs) (failure_of c.number subject)
fails_here c cs subject h =
    record { check = c; listed = Contains-append_left (c ∷ []) cs c (Contains-push [] c); number = refl; subject = h }

fails_later : (c : Check) (cs : List Check) (g : Failure) → Fails cs g → Fails (c ∷ cs) g
fails_later c cs g h =
    record { check = h.check; listed = Contains-append_right (c ∷ []) cs h.check h.listed; number = h.number; subject = h.subject }

fails_cases : (c : Check) (cs : List Check) (g : Failure) → Fails (c ∷ cs) g → ((c.number ≡ g.number) × Contains c.failing g.subject) ⊎ Fails cs g
fails_cases c cs g h =
    ⊎_elim
    (λ e. inl (ap (λ (d : Check). d.number) e ∙ h.number, subst (λ (d : Check). Contains d.failing g.subject) (sym e) h.subject))
    (λ listed. inr (record { check = h.check; listed = listed; number = h.number; subject = h.subject }))
    (within_cases c h.check cs h.listed)

append_cases : (a b : List Check) (g : Failure) → Fails (a ++ b) g → Fails a g ⊎ Fails b g
append_cases a b g h =
    ⊎_elim (λ l. inl (record { check = h.check; listed = l; number = h.number; subject = h.subject }))
    (λ r. inr (record { check = h.check; listed = r; number = h.number; subject = h.subject }))
    (Contains-append_cases a b h.check h.listed)

-- ---- checks whose failures stand in order

abbrev Rise : List ℕ → Type 0
Rise entries = AllPairs (λ entry later. entry < later) entries

abbrev Sorted : List Check → Type 0
Sorted [] = Unit {0}
Sorted (c ∷ cs) =
    Rise c.failing
    × ((subject : ℕ) (g : Failure) → Contains c.failing subject → Fails cs g → IsAskedBefore (failure_of c.number subject) g)
    × Sorted cs

sorted_join : (a b : List Check) → Sorted a → Sorted b → ((f g : Failure) → Fails a f → Fails b g → IsAskedBefore f g) → Sorted (a ++ b)
sorted_join [] b s t across = t
sorted_join (c ∷ a) b s t across = (
  s.0,
  (λ subject g in_c fails. ⊎_elim (λ l. s.1 subject g in_c l) (λ r. across (failure_of c.number subject) g (fails_here c a subject in_c) r) (append_cases a b g fails)),
  sorted_join a b s.2 t (λ f g in_a in_b. across f g (fails_later c a f in_a) in_b),
)

-- numbers and subjects of the failures of some checks
record Reach (low high from to : ℕ) (g : Failure) : Type 0 where
  least : low ≤ g.number
  most : g.number ≤ high
  start : from ≤ g.subject
  end : g.subject < to

record Block (low high from to : ℕ) (cs : List Check) : Type 0 where
  sorted : Sorted cs
  reach : (g : Failure) → Fails cs g → Reach low high from to g

-- a block within wider bounds
wider : (low high from to least most start end : ℕ) (g : Failure) → Reach low high from to g → least ≤ low → high ≤ most → start ≤ from → to ≤ end → Reach least most start end g
wider low high from to least most start end g r a b c d =
    let p = r.least in let q = r.most in let s = r.start in let t = r.end in
    record { least = omega arith; most = omega arith; start = omega arith; end = omega arith }

widen : (low high from to least most start end : ℕ) (cs : List Check) → Block low high from to cs → least ≤ low → high ≤ most → start ≤ from → to ≤ end → Block least most start end cs
widen low high from to least most start end cs k a b c d =
    record { sorted = k.sorted; reach = λ g fails. wider low high from to least most start end g (k.reach g fails) a b c d }

-- blocks of one number, one behind the other
join_same : (n from mid to : ℕ) (a b : List Check) → Block n n from mid a → Block n n mid to b → from ≤ mid → mid ≤ to → Block n n from to (a ++ b)
join_same n from mid to a b k l f t =
    record {
      sorted =
          sorted_join a b k.sorted l.sorted
          (λ x y in_a in_b.
          let r = k.reach x in_a in let s = l.reach y in_b in
          let p = r.least in let q = r.most in let u = s.least in let v = s.most in let w = r.end in let z = s.start in
          of_same x y (omega arith) (omega arith));
      reach = λ g fails.
          ⊎_elim (λ l'. wider n n from mid n n from to g (k.reach g l') (omega arith) (omega arith) (omega arith) t)
          (λ r'. wider n n mid to n n from to g (l.reach g r') (omega arith) (omega arith) f (omega arith)) (append_cases a b g fails);
    }

-- blocks of the numbers 4 to 9, one behind the other
join_late : (from mid to : ℕ) (a b : List Check) → Block 4 9 from mid a → Block 4 9 mid to b → from ≤ mid → mid ≤ to → Block 4 9 from to (a ++ b)
join_late from mid to a b k l f t =
    record {
      sorted =
          sorted_join a b k.sorted l.sorted
          (λ x y in_a in_b.
          let r = k.reach x in_a in let s = l.reach y in_b in
          let w = r.end in let z = s.start in
          of_late x y r.least s.least (omega arith));
      reach = λ g fails.
          ⊎_elim (λ l'. wider 4 9 from mid 4 9 from to g (k.reach g l') (omega arith) (omega arith) (omega arith) t)
          (λ r'. wider 4 9 mid to 4 9 from to g (l.reach g r') (omega arith) (omega arith) f (omega arith)) (append_cases a b g fails);
    }

-- ---- the entries of one check

abbrev Within : ℕ → ℕ → List ℕ → Type 0
Within low high entries = All (λ entry. (low ≤ entry) × (entry < high)) entries

from_next : (low high : ℕ) (later : List ℕ) → Within (low + 1) high later → Within low high later
from_next low high later h = All-weaker (λ e. (low + 1 ≤ e) × (e < high)) (λ e. (low ≤ e) × (e < high)) (λ e w. (omega (arith, w.0), w.1)) later h

higher : (low high top : ℕ) (entries : List ℕ) → high ≡ top → Within low high entries → Within low top entries
higher low high top entries e h = All-weaker (λ n. (low ≤ n) × (n < high)) (λ n. (low ≤ n) × (n < top)) (λ n w. (w.0, omega (arith, w.1, e))) entries h

within_here : (low high : ℕ) (later : List ℕ) → low < high → Within (low + 1) high later → Within low high (low ∷ later)
within_here low high later room h = All-cons (λ e. (low ≤ e) × (e < high)) low later (omega arith, room) (from_next low high later h)

rise_here : (low high : ℕ) (later : List ℕ) → Within (low + 1) high later → Rise later → Rise (low ∷ later)
rise_here low high later h r =
    AllPairs-cons (λ a b. a < b) low later (All-weaker (λ e. (low + 1 ≤ e) × (e < high)) (λ e. low < e) (λ e w. omega (arith, w.0)) later h) r

none_rise : Rise []
none_rise = λ i j d before within. absurd (omega arith)

-- rising entries within bounds
record Rising (from to : ℕ) (entries : List ℕ) : Type 0 where
  within : Within from to entries
  rise : Rise entries

no_entries : (from to : ℕ) → Rising from to []
no_entries from to = record { within = All-nil (λ e. (from ≤ e) × (e < to)); rise = none_rise }

-- one more entry, or none, before others
here_or_later : (fails : Bool) (low to : ℕ) (later : List ℕ) → low < to → Rising (low + 1) to later → Rising low to (cond fails (low ∷ later) later)
here_or_later true low to later room r = record { within = within_here low to later room r.within; rise = rise_here low to later r.within r.rise }
here_or_later false low to later room r = record { within = from_next low to later r.within; rise = r.rise }

moved : (from high to : ℕ) (entries : List ℕ) → high ≡ to → Rising from high entries → Rising from to entries
moved from high to entries e r = record { within = higher from high to entries e r.within; rise = r.rise }

items_rise : (fails : ℕ → Data → Bool) (place entry : ℕ) (ds : Items) → Rising entry (entry + count ds) (failing fails place entry ds)
items_rise fails place entry no_items = no_entries entry (entry + 0)
items_rise fails place entry (item d ds) =
    here_or_later (fails place d) entry (entry + (1 + count ds)) (failing fails (place + 1) (entry + 1) ds) (omega arith)
    (moved (entry + 1) (entry + 1 + count ds) (entry + (1 + count ds)) (failing fails (place + 1) (entry + 1) ds) (omega arith) (items_rise fails (place + 1) (entry + 1) ds))

module _ (names : List (List ℕ)) (sinks : List PlanPort) where
  device_rises : (earlier : List PlacedDevice) (entry to : ℕ) (ds : Items) (o : Option PlacedDevice) → entry < to
      → ((others : List PlacedDevice) → Rising (entry + 1) to (unnamed_devices names sinks others (entry + 1) ds))
      → Rising entry to (option_map_or (λ device. unnamed_devices names sinks (earlier ++ device ∷ []) (entry + 1) ds) o (entry ∷ unnamed_devices names sinks earlier (entry + 1) ds))
  device_rises earlier entry to ds None room next = here_or_later true entry to (unnamed_devices names sinks earlier (entry + 1) ds) room (next earlier)
  device_rises earlier entry to ds (Some device) room next =
      here_or_later false entry to (unnamed_devices names sinks (earlier ++ device ∷ []) (entry + 1) ds) room (next (earlier ++ device ∷ []))

  devices_rise : (earlier : List PlacedDevice) (entry : ℕ) (ds : Items) → Rising entry (entry + count ds) (unnamed_devices names sinks earlier entry ds)
  devices_rise earlier entry no_items = no_entries entry (entry + 0)
  devices_rise earlier entry (item d ds) =
      device_rises earlier entry (entry + (1 + count ds)) ds (device_after names sinks earlier d) (omega arith)
      (λ others.
      moved (entry + 1) (entry + 1 + count ds) (entry + (1 + count ds)) (unnamed_devices names sinks others (entry + 1) ds) (omega arith)
      (devices_rise others (entry + 1) ds))

-- a check by itself
block_of : (n from to : ℕ) (entries : List ℕ) → Rising from to entries → Block n n from to (check n entries ∷ [])
block_of n from to entries r =
    record {
      sorted = (r.rise, (λ subject g in_c fails. absurd (nowhere fails.check fails.listed)), tt);
      reach = λ g fails.
          ⊎_elim
          (λ here.
          let e = here.0 in
          let w = All-contains (λ entry. (from ≤ entry) × (entry < to)) entries g.subject r.within here.1 in
          record { least = omega arith; most = omega arith; start = w.0; end = w.1 })
          (λ none. absurd (nowhere none.check none.listed))
          (fails_cases (check n entries) [] g fails);
    }

-- ---- the first two passes

top_rises : (fails : Bool) → Rising 0 1 (at_top fails)
top_rises true = here_or_later true 0 1 [] (omega arith) (no_entries 1 1)
top_rises false = no_entries 0 1

pass_block : (pass : Pass) (ms : Members) → Block (pass_rule pass) (pass_rule pass) 0 (first_device ms + count (devices_in ms)) (checks_of_pass pass ms)
pass_block pass ms =
    let n = pass_rule pass in
    let top = check n (at_top (top_fails pass ms)) ∷ [] in
    let requests = check n (failing (table_fails pass RequestPart) 0 1 (requests_in ms)) ∷ [] in
    let stalls = check n (failing (table_fails pass StallPart) 0 (first_stall ms) (stalls_in ms)) ∷ [] in
    let devices = check n (failing (table_fails pass DevicePart) 0 (first_device ms) (devices_in ms)) ∷ [] in
    let end = first_device ms + count (devices_in ms) in
    join_same n 0 1 end top (requests ++ (stalls ++ devices)) (block_of n 0 1 _ (top_rises (top_fails pass ms)))
    (join_same n 1 (first_stall ms) end requests (stalls ++ devices) (block_of n 1 (first_stall ms) _ (items_rise (table_fails pass RequestPart) 0 1 (requests_in ms)))
    (join_same n (first_stall ms) (first_device ms) end stalls devices (block_of n (first_stall ms) (first_device ms) _ (items_rise (table_fails pass StallPart) 0 (first_stall ms) (stalls_in ms)))
    (block_of n (first_device ms) end _ (items_rise (table_fails pass DevicePart) 0 (first_device ms) (devices_in ms))) (omega arith) (omega arith))
    (omega arith) (omega arith))
    (omega arith) (omega arith)

-- ---- the rules of an entry

entry_rises : (entry : ℕ) (fails : Bool) → Rising entry (entry + 1) (at_entry entry fails)
entry_rises entry true = here_or_later true entry (entry + 1) [] (omega arith) (no_entries (entry + 1) (entry + 1))
entry_rises entry false = no_entries entry (entry + 1)

-- a rule of an entry before others of it
before_others : (n high entry : ℕ) (fails : Bool) (cs : List Check) → 4 ≤ n → n < high → Block (n + 1) high entry (entry + 1) cs
    → Block n high entry (entry + 1) (check n (at_entry entry fails) ∷ cs)
before_others n high entry fails cs late room k =
    let one = block_of n entry (entry + 1) (at_entry entry fails) (entry_rises entry fails) in
    record {
      sorted =
          sorted_join (check n (at_entry entry fails) ∷ []) cs one.sorted k.sorted
          (λ x y in_a in_b.
          let r = one.reach x in_a in let s = k.reach y in_b in
          let p = r.least in let q = r.most in let u = s.least in let a = r.start in let b = r.end in let c = s.start in let d = s.end in
          of_entry x y (omega arith) (omega arith) (omega arith));
      reach = λ g h.
          ⊎_elim (λ l. wider n n entry (entry + 1) n high entry (entry + 1) g (one.reach g l) (omega arith) (omega arith) (omega arith) (omega arith))
          (λ r. wider (n + 1) high entry (entry + 1) n high entry (entry + 1) g (k.reach g r) (omega arith) (omega arith) (omega arith) (omega arith))
          (append_cases (check n (at_entry entry fails) ∷ []) cs g h);
    }

edge_block : (masters : List Master) (slaves : List Slave) (entry : ℕ) (request : Request) → Block 5 9 entry (entry + 1) (edge_rules masters slaves entry request)
edge_block masters slaves entry request =
    before_others 5 9 entry (not (has_whole_load request)) _ (omega arith) (omega arith)
    (before_others 6 9 entry (not (is_aligned_request request)) _ (omega arith) (omega arith)
    (before_others 7 9 entry (is_none (master_with masters request.source)) _ (omega arith) (omega arith)
    (before_others 8 9 entry (not (is_supported slaves request)) _ (omega arith) (omega arith)
    (block_of 9 entry (entry + 1) _ (entry_rises entry (not (is_emitted masters request)))))))

module _ (names : List (List ℕ)) (sources : List PlanPort) (downs : List DownPort) (ups : List UpPort) where
  asked_block : (entry : ℕ) (asked : Option StimRequest) → Block 4 9 entry (entry + 1) (rules_of_asked sources downs ups entry asked)
  asked_block entry None =
      widen 4 4 entry (entry + 1) 4 9 entry (entry + 1) _ (block_of 4 entry (entry + 1) (entry ∷ []) (entry_rises entry true)) (omega arith) (omega arith) (omega arith) (omega arith)
  asked_block entry (Some asked) =
      widen 5 9 entry (entry + 1) 4 9 entry (entry + 1) _ (edge_block (masters_at sources downs asked.port) (slaves_at sources ups asked.port) entry asked.request)
      (omega arith) (omega arith) (omega arith) (omega arith)

  requests_block : (entry : ℕ) (ds : Items) → Block 4 9 entry (entry + count ds) (rules_of_each (request_rules names sources downs ups) entry ds)
  requests_block entry no_items = record { sorted = tt; reach = λ g fails. absurd (nowhere fails.check fails.listed) }
  requests_block entry (item d ds) =
      join_late entry (entry + 1) (entry + (1 + count ds)) _ _ (asked_block entry (asked_request names sources d))
      (widen 4 9 (entry + 1) (entry + 1 + count ds) 4 9 (entry + 1) (entry + (1 + count ds)) _ (requests_block (entry + 1) ds) (omega arith) (omega arith) (omega arith) (omega arith))
      (omega arith) (omega arith)

-- ---- the file

module _ (names : List (List ℕ)) (plan : Plan) (downs : List DownPort) (ups : List UpPort) where
  late_block : (n from to : ℕ) (entries : List ℕ) → n ≡ 4 → Rising from to entries → Block 4 9 from to (check n entries ∷ [])
  late_block n from to entries e r = widen n n from to 4 9 from to _ (block_of n from to entries r) (omega arith) (omega arith) (omega arith) (omega arith)

  ports_block : (ms : Members) → Block 4 9 1 (first_device ms + count (devices_in ms)) (port_rules names plan downs ups ms)
  ports_block ms =
      let end = first_device ms + count (devices_in ms) in
      let stalls = check 4 (failing (stall_is_unnamed names plan.sources plan.sinks) 0 (first_stall ms) (stalls_in ms)) ∷ [] in
      let devices = check 4 (unnamed_devices names plan.sinks [] (first_device ms) (devices_in ms)) ∷ [] in
      join_late 1 (first_stall ms) end (rules_of_requests names plan downs ups ms) (stalls ++ devices) (requests_block names plan.sources downs ups 1 (requests_in ms))
      (join_late (first_stall ms) (first_device ms) end stalls devices
      (late_block 4 (first_stall ms) (first_device ms) _ refl (items_rise (stall_is_unnamed names plan.sources plan.sinks) 0 (first_stall ms) (stalls_in ms)))
      (late_block 4 (first_device ms) end _ refl (devices_rise names plan.sinks [] (first_device ms) (devices_in ms))) (omega arith) (omega arith))
      (omega arith) (omega arith)

  tree_sorted : (ms : Members) → Sorted (tree_rules names plan downs ups ms)
  tree_sorted ms =
      let shape = pass_block Shape ms in
      let limits = pass_block Limits ms in
      let ports = ports_block ms in
      sorted_join (checks_of_pass Shape ms ++ checks_of_pass Limits ms) (port_rules names plan downs ups ms)
      (sorted_join (checks_of_pass Shape ms) (checks_of_pass Limits ms) shape.sorted limits.sorted
      (λ x y a b. let r = shape.reach x a in let s = limits.reach y b in let p = r.most in let q = s.least in of_early x y (omega arith) (omega arith)))
      ports.sorted
      (λ x y a b.
      let s = ports.reach y b in
      let q = s.least in
      ⊎_elim (λ l. let r = shape.reach x l in let p = r.most in of_early x y (omega arith) (omega arith))
      (λ m. let r = limits.reach x m in let p = r.most in of_early x y (omega arith) (omega arith))
      (append_cases (checks_of_pass Shape ms) (checks_of_pass Limits ms) x a))

  of_tree_sorted : (tree : Option Members) → Sorted (rules_of_tree names plan downs ups tree)
  of_tree_sorted None = (block_of 1 0 1 (0 ∷ []) (top_rises true)).sorted
  of_tree_sorted (Some ms) = tree_sorted ms

-- ---- the first failure of checks in order

abbrev FoundHere : ℕ → List ℕ → Failure → Type 0
FoundHere number failing failure = (subjects : List ℕ) × (failing ≡ failure.subject ∷ subjects) × (number ≡ failure.number)

found : (number : ℕ) (failing : List ℕ) (rest : Option Failure) (failure : Failure) → option_or (option_map (failure_of number) (first failing)) rest ≡ Some failure
    → ((failing ≡ []) × (rest ≡ Some failure)) ⊎ FoundHere number failing failure
found number [] rest failure e = inl (refl, e)
found number (subject ∷ subjects) rest failure e =
    let same = ap (λ (o : Option Failure). unwrap_or o failure) e in
    inr (subjects, ap (λ (f : Failure). f.subject ∷ subjects) same, ap (λ (f : Failure). f.number) same)

first_fails : (cs : List Check) (failure : Failure) → first_failing cs ≡ Some failure → Fails cs failure
first_fails [] failure e = absurd (cc)
first_fails (c ∷ cs) failure e =
    ⊎_elim (λ later. fails_later c cs failure (first_fails cs failure later.1))
    (λ here.
    record {
      check = c;
      listed = Contains-append_left (c ∷ []) cs c (Contains-push [] c);
      number = here.2;
      subject = subst (λ l. Contains l failure.subject) (sym here.1) (Contains-append_left (failure.subject ∷ []) here.0 failure.subject (Contains-push [] failure.subject));
    })
    (found c.number c.failing (first_failing cs) failure e)

-- a failure with the same number and subject isn't asked for before another one
not_itself : (a b : Failure) → IsAskedBefore a b → a.number ≡ b.number → a.subject ≡ b.subject → ⊥
not_itself a b before n s =
    ⊎_elim
    (λ early. ⊎_elim (λ up. absurd (omega arith)) (λ same. let down = same.1 in absurd (omega arith)) early.1)
    (λ late. ⊎_elim (λ up. absurd (omega arith)) (λ same. let down = same.1 in absurd (omega arith)) late.2)
    before

-- another subject of the same check is not below the first
not_below : (c : Check) (failure other : Failure) → Rise c.failing → FoundHere c.number c.failing failure → c.number ≡ other.number → Contains c.failing other.subject
    → IsAskedBefore other failure → ⊥
not_below c failure other rise here number subject before =
    let same = here.2 in
    let rising : Rise (failure.subject ∷ here.0) = subst Rise here.1 rise in
    ⊎_elim
    (λ e. not_itself other failure before (sym number ∙ same) (sym e))
    (λ later. not_both other failure before
    (of_same failure other (sym same ∙ number) (All-contains (λ k. failure.subject < k) here.0 other.subject (behind (λ a b. a < b) failure.subject here.0 rising) later)))
    (within_cases failure.subject other.subject here.0 (subst (λ l. Contains l other.subject) here.1 subject))

first_least : (cs : List Check) (failure other : Failure) → Sorted cs → first_failing cs ≡ Some failure → Fails cs other → IsAskedBefore other failure → ⊥
first_least [] failure other s e h before = nowhere h.check h.listed
first_least (c ∷ cs) failure other s e h before =
    ⊎_elim
    (λ later. ⊎_elim
    (λ here. nowhere other.subject (subst (λ l. Contains l other.subject) later.0 here.1))
    (λ there. first_least cs failure other s.2 later.1 there before)
    (fails_cases c cs other h))
    (λ here. ⊎_elim
    (λ same. not_below c failure other s.0 here same.0 same.1 before)
    (λ there. not_both other failure before (ahead here there))
    (fails_cases c cs other h))
    (found c.number c.failing (first_failing cs) failure e)
  where
    ahead : FoundHere c.number c.failing failure → Fails cs other → IsAskedBefore failure other
    ahead here there =
        let first_one : Contains c.failing failure.subject =
        subst (λ l. Contains l failure.subject) (sym here.1) (Contains-append_left (failure.subject ∷ []) here.0 failure.subject (Contains-push [] failure.subject)) in
        subst (λ n. IsAskedBefore (failure_of n failure.subject) other) here.2 (s.1 failure.subject other first_one there)

pub rules_law : RulesLaw
rules_law =
    record {
      fails = λ names plan downs ups bytes failure e. first_fails (stimulus_rules names plan downs ups bytes) failure e;
      least = λ names plan downs ups bytes failure other e h before.
          first_least (stimulus_rules names plan downs ups bytes) failure other (of_tree_sorted names plan downs ups (stimulus_tree bytes)) e h before;
      none = λ names plan downs ups bytes failure e h. nothing_fails (stimulus_rules names plan downs ups bytes) failure e h;
    }
