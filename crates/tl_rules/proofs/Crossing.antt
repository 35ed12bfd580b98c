-- Inputs that a crossbar can use, and the ranges of their ids.
use Rattle.std.proofs.Common.{ℕ, zero, suc, ◌≡◌, ◌+◌, ◌*◌, ◌<◌, ◌≤◌, List, [], ◌∷◌, length, get_or, map, Bool, true, false, ◌&&◌, cond, nat_le, IsTrue, All, refl, ap, ◌∙◌, arith}
use Rattle.std.specs.List.{list_all}
use Rattle.std.proofs.lemmas.Bool.{leb-true, ltb-true}
use Rattle.dip_sets.specs.Assignments.{rounded, goes_first, sum_before, ranges_from}
use Rattle.dip_sets.proofs.Assigned.{ranges_length, rounded_is, rounded_small}
use Rattle.tl_params.specs.Owners.{largest_end}
use Rattle.tl_params.specs.declared.ports.Master.{Master}
use Rattle.tl_params.specs.declared.ports.DownPort.{DownPort}
use Rattle.tl_rules.specs.Crossbars.{id_count, is_id_count, has_ids, is_usable, are_usable, input_ranges}

pub and_left : (a b : Bool) → IsTrue (a && b) → IsTrue a
and_left true b h = refl
and_left false b h = cc

pub and_right : (a b : Bool) → IsTrue (a && b) → IsTrue b
and_right true b h = h
and_right false b h = absurd (cc)

-- ---- one input

end_within : (ms : List Master) (i : ℕ) (d : Master) → i < length ms → (get_or ms i d).ids.end ≤ largest_end ms
end_within [] i d within = absurd (omega arith)
end_within (m ∷ ms) zero d within = omega arith
end_within (m ∷ ms) (suc i) d within = omega (arith, end_within ms i d (omega arith))

each_has_ids : (ms : List Master) (i : ℕ) (d : Master) → IsTrue (list_all has_ids ms) → i < length ms → IsTrue (has_ids (get_or ms i d))
each_has_ids [] i d h within = absurd (omega arith)
each_has_ids (m ∷ ms) zero d h within = and_left (has_ids m) (list_all has_ids ms) h
each_has_ids (m ∷ ms) (suc i) d h within = each_has_ids ms i d (and_right (has_ids m) (list_all has_ids ms) h) (omega arith)

pub count_bound : (port : DownPort) → IsTrue (is_usable port) → id_count port ≤ 1024
count_bound port h =
    leb-true (id_count port) 1024 (and_right (nat_le 1 (id_count port)) (nat_le (id_count port) 1024) (and_left (is_id_count (id_count port)) (list_all has_ids port.masters) h))

-- the ids of a master at some place are below 1,025
pub ids_bound : (port : DownPort) (ms : List Master) (m : Master) (i : ℕ) → IsTrue (is_usable port) → ms ≡ port.masters → i < length ms → m ≡ get_or ms i m
    → (m.ids.start ≤ 1024) × (m.ids.end ≤ 1024)
ids_bound port ms m i h same within at =
    let own : IsTrue (has_ids (get_or port.masters i m)) = each_has_ids port.masters i m (and_right (is_id_count (id_count port)) (list_all has_ids port.masters) h) (rw (← same) within) in
    let order = ltb-true (get_or port.masters i m).ids.start (get_or port.masters i m).ids.end own in
    let most = end_within port.masters i m (rw (← same) within) in
    let bound = count_bound port h in
    let here : m ≡ get_or port.masters i m = rw same at at in
    let start : m.ids.start ≡ (get_or port.masters i m).ids.start = ap (λ x. x.ids.start) here in
    let end : m.ids.end ≡ (get_or port.masters i m).ids.end = ap (λ x. x.ids.end) here in
    (omega arith, omega arith)

-- ---- all inputs

each_is_usable : (ins : List DownPort) (i : ℕ) (d : DownPort) → IsTrue (list_all is_usable ins) → i < length ins → IsTrue (is_usable (get_or ins i d))
each_is_usable [] i d h within = absurd (omega arith)
each_is_usable (p ∷ ps) zero d h within = and_left (is_usable p) (list_all is_usable ps) h
each_is_usable (p ∷ ps) (suc i) d h within = each_is_usable ps i d (and_right (is_usable p) (list_all is_usable ps) h) (omega arith)

pub counts_small : (ins : List DownPort) (i d : ℕ) → IsTrue (list_all is_usable ins) → i < length (map id_count ins) → get_or (map id_count ins) i d ≤ 1024
counts_small [] i d h within = absurd (omega arith)
counts_small (p ∷ ps) zero d h within = count_bound p (and_left (is_usable p) (list_all is_usable ps) h)
counts_small (p ∷ ps) (suc i) d h within = counts_small ps i d (and_right (is_usable p) (list_all is_usable ps) h) (omega arith)

pub counts_length : (ins : List DownPort) → length (map id_count ins) ≡ length ins
counts_length [] = refl
counts_length (p ∷ ps) = omega (arith, counts_length ps)

-- ---- their ranges

rounded_length : (counts : List ℕ) → length (map rounded counts) ≡ length counts
rounded_length [] = refl
rounded_length (c ∷ cs) = omega (arith, rounded_length cs)

pub input_length : (ins : List DownPort) → length (input_ranges ins) ≡ length ins
input_length ins = ranges_length 0 (map rounded (map id_count ins)) (map rounded (map id_count ins)) ∙ rounded_length (map id_count ins) ∙ counts_length ins

part_small : (b : Bool) (n : ℕ) → n ≤ 1024 → cond b n 0 ≤ 1024
part_small true n h = h
part_small false n h = omega arith

sum_small : (own place at : ℕ) (rs : List ℕ) → ((i d : ℕ) → i < length rs → get_or rs i d ≤ 1024) → sum_before own place at rs ≤ 1024 * length rs
sum_small own place at [] small = omega arith
sum_small own place at (r ∷ rs) small =
    let here = part_small (goes_first own place r at) r (small 0 0 (omega arith)) in
    let rest = sum_small own place (at + 1) rs (λ i d h. small (suc i) d (omega arith)) in
    omega arith

rounded_all : (counts : List ℕ) (i d : ℕ) → ((i d : ℕ) → i < length counts → get_or counts i d ≤ 1024) → i < length (map rounded counts) → get_or (map rounded counts) i d ≤ 1024
rounded_all [] i d small within = absurd (omega arith)
rounded_all (c ∷ cs) zero d small within = rounded_small c (rounded c) (rounded_is c) (small 0 0 (omega arith))
rounded_all (c ∷ cs) (suc i) d small within = rounded_all cs i d (λ j e h. small (suc j) e (omega arith)) (omega arith)

ranges_low : (place bound : ℕ) (all rs : List ℕ) → ((own at : ℕ) → sum_before own at 0 all ≤ bound) → All (λ range. range.start ≤ bound) (ranges_from place all rs)
ranges_low place bound all [] low i d within = absurd (omega arith)
ranges_low place bound all (r ∷ rs) low zero d within = low r place
ranges_low place bound all (r ∷ rs) low (suc i) d within = ranges_low (place + 1) bound all rs low i d (omega arith)

pub input_low : (ins : List DownPort) → IsTrue (list_all is_usable ins) → length ins ≤ 1024 → All (λ range. range.start ≤ 1024 * 1024) (input_ranges ins)
input_low ins h few =
    let rs = map rounded (map id_count ins) in
    let long : length rs ≡ length ins = rounded_length (map id_count ins) ∙ counts_length ins in
    ranges_low 0 (1024 * 1024) rs rs (λ own at. omega (arith, sum_small own at 0 rs (λ i d within. rounded_all (map id_count ins) i d (λ j e below. counts_small ins j e h below) within)))

-- what a crossbar asks of its inputs
pub usable_parts : (ins : List DownPort) → IsTrue (are_usable ins) → IsTrue (list_all is_usable ins) × (length ins ≤ 1024)
usable_parts ins h =
    let counts = and_left (nat_le 1 (length ins) && nat_le (length ins) 1024) (list_all is_usable ins) h in
    (and_right (nat_le 1 (length ins) && nat_le (length ins) 1024) (list_all is_usable ins) h, leb-true (length ins) 1024 (and_right (nat_le 1 (length ins)) (nat_le (length ins) 1024) counts))
