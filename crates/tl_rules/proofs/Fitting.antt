-- The answers of the standard rules fit their templates.
use Rattle.std.proofs.Common.{ℕ, ◌≡◌, ◌≤◌, min, max, List, [], ◌∷◌, length, map, Bool, true, false, ◌&&◌, ◌⊎◌, inl, inr, cond, nat_le, IsTrue, Option, Some, None, Result, Ok, Err, refl, sym, arith, le-leb}
use Rattle.std.specs.List.{list_all, flat_map}
use Rattle.std.proofs.lemmas.Bool.{leb-true}
use Rattle.dip_sets.specs.SizeRanges.{SizeRange, size_range, has_size, is_within, meet, no_sizes}
use Rattle.dip_sets.proofs.Ranges.{has_size_is}
use Rattle.tl_params.specs.declared.ops.Ops.{Ops}
use Rattle.tl_params.specs.declared.ops.Template.TheVariants.{Buffer, Width, Fragmenter, Shrinker}
use Rattle.tl_params.specs.declared.ports.Master.{Master}
use Rattle.tl_params.specs.declared.ports.Slave.{Slave}
use Rattle.tl_params.specs.declared.ports.DownPort.{DownPort}
use Rattle.tl_params.specs.declared.ports.UpPort.{UpPort}
use Rattle.tl_rules.specs.Refusals.{with_arguments}
use Rattle.tl_params.specs.declared.arguments.Fragments.{Fragments}
use Rattle.tl_params.specs.Arguments.{is_width, fragment_arguments, shrink_argument}
use Rattle.tl_rules.specs.Adapters.{width_argument, buffer_down, buffer_up, width_down, width_up}
use Rattle.tl_rules.specs.Fragments.{widened, widened_slave, cut_master, fragmenter_down, fragmenter_up}
use Rattle.tl_rules.specs.Shrinks.{shrunk_port, shrinker_down, shrinker_up}
use Rattle.tl_rules.specs.Crossbars.{id_count, is_id_count, has_ids, is_usable, are_usable, input_ranges, joined_masters, joined_port, xbar_down, xbar_up}
use Rattle.tl_params.specs.Carried.{is_same_slave, fits_pieces, sizes_fit, ops_fit, slaves_fit}
use Rattle.tl_rules.specs.Fits.{has_same_ids, same_ids, has_only_ids, edge_ports, adapter_fits, inputs_fit, outputs_fit}
use Rattle.tl_rules.specs.RulesFit.{RulesFitLaw}
use Rattle.tl_rules.proofs.Crossing.{and_left, and_right, usable_parts}
use Rattle.tl_rules.proofs.Going.{and_true, or_true}
use Rattle.tl_rules.proofs.Zips.{own_sets}
use Rattle.dip_lists.proofs.Tests.{own_number}

-- ---- a list beside itself

own_slave : (s : Slave) → is_same_slave s s ≡ true
own_slave s = and_true _ _ (and_true _ _ (own_number s.node) (own_number s.port)) (own_sets s.addresses)

own_sizes : (s : SizeRange) → is_within s s ≡ true
own_sizes s = or_true _ _ (inr (and_true _ _ (le-leb s.min s.min (omega arith)) (le-leb s.max s.max (omega arith))))

own_ops : (ops : Ops) → ops_fit None ops ops ≡ true
own_ops ops =
    and_true _ _ (and_true _ _ (and_true _ _ (and_true _ _ (and_true _ _ (own_sizes ops.get) (own_sizes ops.put_full)) (own_sizes ops.put_partial)) (own_sizes ops.arithmetic))
    (own_sizes ops.logical)) (own_sizes ops.intent)

pub own_slaves : (ss : List Slave) → slaves_fit None ss ss ≡ true
own_slaves [] = refl
own_slaves (s ∷ ss) = and_true _ _ (and_true _ _ (own_slave s) (own_ops s.supports)) (own_slaves ss)

own_ids : (m : Master) → has_same_ids m m ≡ true
own_ids m = and_true _ _ (own_number m.ids.start) (own_number m.ids.end)

pub own_masters : (ms : List Master) → same_ids ms ms ≡ true
own_masters [] = refl
own_masters (m ∷ ms) = and_true _ _ (own_ids m) (own_masters ms)

-- ---- fragments

cut_ids : (piece : ℕ) (ms : List Master) → same_ids ms (map (cut_master piece) ms) ≡ true
cut_ids piece [] = refl
cut_ids piece (m ∷ ms) = and_true _ _ (own_ids m) (cut_ids piece ms)

meet_within : (s t : SizeRange) (piece : ℕ) → t.min ≤ max s.min 1 → min s.max piece ≤ t.max → is_within (meet s (size_range 1 piece)) t ≡ true
meet_within s t piece lower upper = elim (nat_le (max s.min 1) (min s.max piece)) as (λ b. is_within (cond b (size_range (max s.min 1) (min s.max piece)) no_sizes) t ≡ true) [
  | true ↦ or_true _ _ (inr (and_true _ _ (le-leb t.min (max s.min 1) lower) (le-leb (min s.max piece) t.max upper)))
  | false ↦ refl
]

meet_small : (s : SizeRange) (piece : ℕ) → ((meet s (size_range 1 piece)).max ≤ piece) × (s.min ≤ max (meet s (size_range 1 piece)).min 1 ⊎ ((meet s (size_range 1 piece)).max ≡ 0)) × ((meet s (size_range 1 piece)).max ≤ s.max)
meet_small s piece = elim (nat_le (max s.min 1) (min s.max piece)) as (λ b. ((cond b (size_range (max s.min 1) (min s.max piece)) no_sizes).max ≤ piece)
    × (s.min ≤ max (cond b (size_range (max s.min 1) (min s.max piece)) no_sizes).min 1 ⊎ ((cond b (size_range (max s.min 1) (min s.max piece)) no_sizes).max ≡ 0))
    × ((cond b (size_range (max s.min 1) (min s.max piece)) no_sizes).max ≤ s.max)) [
      | true ↦ (omega arith, inl (omega arith), omega arith)
      | false ↦ (omega arith, inr refl, omega arith)
    ]

none_within : (s t : SizeRange) (piece : ℕ) → s.max ≡ 0 → is_within (meet s (size_range 1 piece)) t ≡ true
none_within s t piece none = elim (nat_le (max s.min 1) (min s.max piece)) as (λ b. nat_le (max s.min 1) (min s.max piece) ≡ b
    → is_within (cond b (size_range (max s.min 1) (min s.max piece)) no_sizes) t ≡ true) [
      | true ↦ λ e. absurd (omega (arith, leb-true (max s.min 1) (min s.max piece) e))
      | false ↦ λ e. refl
    ] refl

widened_fits : (f : Fragments) (s : SizeRange) → sizes_fit (Some (size_range 1 f.piece)) (widened f s) s ≡ true
widened_fits f s = elim (has_size s f.piece) as (λ b. has_size s f.piece ≡ b
    → fits_pieces (size_range 1 f.piece) (cond b (size_range s.min (max s.max f.largest)) (meet s (size_range 1 f.piece))) s ≡ true) [
      | true ↦ λ e.
          let piece = (has_size_is s f.piece).0 e in
          and_true _ _ (meet_within (size_range s.min (max s.max f.largest)) s f.piece (omega arith) (omega (arith, piece.2))) (or_true _ _ (inr e))
      | false ↦ λ e.
          let small = meet_small s f.piece in
          and_true _ _
          (elim small.1 [
            | inl lower ↦ meet_within (meet s (size_range 1 f.piece)) s f.piece lower (omega (arith, small.2))
            | inr none ↦ none_within (meet s (size_range 1 f.piece)) s f.piece none
          ])
          (or_true _ _ (inl (le-leb (meet s (size_range 1 f.piece)).max f.piece small.0)))
    ] refl

widened_slaves : (f : Fragments) (ss : List Slave) → slaves_fit (Some (size_range 1 f.piece)) (map (widened_slave f) ss) ss ≡ true
widened_slaves f [] = refl
widened_slaves f (s ∷ ss) =
    let ops = and_true _ _ (and_true _ _ (and_true _ _ (and_true _ _ (and_true _ _ (widened_fits f s.supports.get) (widened_fits f s.supports.put_full)) (widened_fits f s.supports.put_partial))
    (own_sizes s.supports.arithmetic)) (own_sizes s.supports.logical)) (own_sizes s.supports.intent) in
    and_true _ _ (and_true _ _ (own_slave s) ops) (widened_slaves f ss)

-- ---- what an answer says

abbrev ok_of : {P : Type 0} → P → Result P ℕ
ok_of a = Ok a

ok_same : {P : Type 0} {a b : P} → ok_of a ≡ Ok b → a ≡ b
ok_same h = cc

from_arguments : {A P : Type 0} (o : Option A) (answer : A → Result P ℕ) (p : P) → with_arguments o answer ≡ Ok p → (a : A) × (o ≡ Some a) × (answer a ≡ Ok p)
from_arguments None answer p h = absurd (cc)
from_arguments (Some a) answer p h = (a, refl, h)

width_is : (args : List ℕ) (w : ℕ) → width_argument args ≡ Some w → is_width w ≡ true
width_is [] w h = absurd (cc)
width_is (x ∷ []) w h = elim (is_width x) as (λ b. is_width x ≡ b → cond b (Some x) None ≡ Some w → is_width w ≡ true) [
  | true ↦ λ e same. let own : x ≡ w = cc in rw (← own) e
  | false ↦ λ e same. absurd (cc)
] refl h
width_is (x ∷ y ∷ more) w h = absurd (cc)

shrunk_ids : (ids : ℕ) (ms : List Master) (below : DownPort) → shrunk_port ids ms ≡ Ok below → has_only_ids ids below.masters ≡ true
shrunk_ids ids [] below h = absurd (cc)
shrunk_ids ids (m ∷ ms) below h = rw (← ok_same h) (and_true _ _ refl (own_number ids))

-- ---- adapters

buffer_fits : (args : List ℕ) (down below : DownPort) (up above : UpPort) → buffer_down args (down ∷ []) ≡ Ok below → buffer_up args (up ∷ []) ≡ Ok above
    → IsTrue (adapter_fits Buffer args (edge_ports down above) (edge_ports below up))
buffer_fits [] down below up above p q =
    rw (← ok_same p, ← ok_same q) (and_true _ _ (and_true _ _ (own_slaves up.slaves) (own_masters down.masters)) (own_number up.beat))
buffer_fits (arg ∷ args) down below up above p q = absurd (cc)

width_fits : (args : List ℕ) (down below : DownPort) (up above : UpPort) → width_down args (down ∷ []) ≡ Ok below → width_up args (up ∷ []) ≡ Ok above
    → IsTrue (is_width up.beat) → IsTrue (adapter_fits Width args (edge_ports down above) (edge_ports below up))
width_fits args down below up above p q narrow =
    let (w, e, same) = from_arguments (width_argument args) _ below p in
    let (v, f, wide) = from_arguments (width_argument args) _ above q in
    rw (← ok_same same, ← ok_same wide) (and_true _ _ (and_true _ _ (and_true _ _ (own_slaves up.slaves) (own_masters down.masters)) (width_is args v f)) narrow)

fragmenter_fits : (args : List ℕ) (fragments : Fragments) (down below : DownPort) (up above : UpPort) → fragment_arguments args ≡ Some fragments
    → fragmenter_down args (down ∷ []) ≡ Ok below → fragmenter_up args (up ∷ []) ≡ Ok above
    → up.beat ≤ fragments.piece → IsTrue (adapter_fits Fragmenter args (edge_ports down above) (edge_ports below up))
fragmenter_fits args f down below up above e p q small =
    rw (e, ← ok_same (rw e at p), ← ok_same (rw e at q))
    (and_true _ _ (and_true _ _ (and_true _ _ (widened_slaves f up.slaves) (cut_ids f.piece down.masters)) (own_number up.beat)) (le-leb up.beat f.piece small))

shrinker_fits : (args : List ℕ) (down below : DownPort) (up above : UpPort) → shrinker_down args (down ∷ []) ≡ Ok below → shrinker_up args (up ∷ []) ≡ Ok above
    → IsTrue (adapter_fits Shrinker args (edge_ports down above) (edge_ports below up))
shrinker_fits args down below up above p q =
    let (ids, e, shrunk) = from_arguments (shrink_argument args) _ below p in
    let (more, f, same) = from_arguments (shrink_argument args) _ above q in
    rw (e, ← ok_same same) (and_true _ _ (and_true _ _ (own_slaves up.slaves) (shrunk_ids ids down.masters below shrunk)) (own_number up.beat))

-- ---- crossbars

all_show : {A : Type 0} (xs : List A) (above : UpPort) (real : List Slave) → slaves_fit None above.slaves real ≡ true
    → list_all (λ input. slaves_fit None input.slaves real) (map (λ _. above) xs) ≡ true
all_show [] above real h = refl
all_show (x ∷ xs) above real h = and_true _ _ h (all_show xs above real h)

all_take : {A : Type 0} (xs : List A) (ms : List Master) (below : DownPort) → same_ids ms below.masters ≡ true
    → list_all (λ output. same_ids ms output.masters) (map (λ _. below) xs) ≡ true
all_take [] ms below h = refl
all_take (x ∷ xs) ms below h = and_true _ _ h (all_take xs ms below h)

counts_of : (downs : List DownPort) → IsTrue (list_all is_usable downs) → IsTrue (list_all (λ input. is_id_count (id_count input)) downs)
counts_of [] h = refl
counts_of (d ∷ downs) h =
    and_true _ _ (and_left (is_id_count (id_count d)) (list_all has_ids d.masters) (and_left (is_usable d) (list_all is_usable downs) h))
    (counts_of downs (and_right (is_usable d) (list_all is_usable downs) h))

abbrev port_where : Bool → DownPort → Result DownPort ℕ
port_where usable port = cond usable (Ok port) (Err 2)

port_is : (usable : Bool) (port below : DownPort) → port_where usable port ≡ Ok below → (usable ≡ true) × (below ≡ port)
port_is true port below h = (refl, sym (ok_same h))
port_is false port below h = absurd (cc)

usable_answer : (downs : List DownPort) (below : DownPort) → xbar_down [] downs ≡ Ok below
    → (are_usable downs ≡ true) × (below ≡ record { masters = joined_masters downs (input_ranges downs) })
usable_answer downs below h = port_is (are_usable downs) (record { masters = joined_masters downs (input_ranges downs) }) below h

joined_slaves : (ups : List UpPort) (above : UpPort) → joined_port ups ≡ Ok above → above.slaves ≡ flat_map (λ port. port.slaves) ups
joined_slaves [] above h = absurd (cc)
joined_slaves (first ∷ rest) above h = rw (← ok_same h) refl

xbar_fits : (args : List ℕ) (downs : List DownPort) (below : DownPort) (ups : List UpPort) (above : UpPort) → xbar_down args downs ≡ Ok below → xbar_up args ups ≡ Ok above
    → IsTrue (inputs_fit (map (λ _. above) downs) ups && outputs_fit downs (map (λ _. below) ups))
xbar_fits [] downs below ups above p q =
    let (usable, same) = usable_answer downs below p in
    let parts = usable_parts downs usable in
    let shown : slaves_fit None above.slaves (flat_map (λ port. port.slaves) ups) ≡ true = rw (joined_slaves ups above q) (own_slaves (flat_map (λ port. port.slaves) ups)) in
    let taken : same_ids (joined_masters downs (input_ranges downs)) below.masters ≡ true = rw same (own_masters (joined_masters downs (input_ranges downs))) in
    and_true _ _ (all_show downs above (flat_map (λ port. port.slaves) ups) shown)
    (and_true _ _ (and_true _ _ (le-leb (length downs) 1024 parts.1) (counts_of downs parts.0)) (all_take ups (joined_masters downs (input_ranges downs)) below taken))
xbar_fits (arg ∷ args) downs below ups above p q = absurd (cc)

pub rules_fit : RulesFitLaw
rules_fit = record { buffer = buffer_fits; width = width_fits; fragmenter = fragmenter_fits; shrinker = shrinker_fits; xbar = xbar_fits }
