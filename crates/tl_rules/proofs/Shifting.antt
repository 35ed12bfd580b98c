-- The ids of the inputs behind a crossbar.
use Rattle.std.proofs.Common.{ℕ, zero, suc, ◌≡◌, ◌<◌, ◌≤◌, List, [], ◌∷◌, length, get_or, map, AllPairs, arith}
use Rattle.std.specs.List.{AllZip}
use Rattle.dip_sets.specs.declared.ids.IdRange.{IdRange}
use Rattle.dip_sets.specs.Ids.{HasId, DisjointIds}
use Rattle.dip_sets.specs.Assignments.{rounded, HasRoom}
use Rattle.dip_sets.proofs.Assigned.{ranges_room, ranges_apart}
use Rattle.tl_params.specs.Owners.{largest_end}
use Rattle.tl_params.specs.declared.ports.Master.{Master}
use Rattle.tl_params.specs.declared.ports.DownPort.{DownPort}
use Rattle.tl_rules.specs.Crossbars.{id_count, shifted_ids, shifted_master, shifted_masters, input_ranges}
use Rattle.tl_rules.specs.ShiftedIds.{AreInside, HaveOtherIds, ShiftedIdsLaw}

ids_inside : (ids range : IdRange) (count : ℕ) → ids.end ≤ count → HasRoom count range → (id : ℕ) → HasId (shifted_ids range.start ids) id → HasId range id
ids_inside ids range count within room id (above, below) = (omega arith, omega arith)

masters_inside : (ms : List Master) (range : IdRange) (count : ℕ) → largest_end ms ≤ count → HasRoom count range → AreInside (map (shifted_master range.start) ms) range
masters_inside [] range count within room i d below = absurd (omega arith)
masters_inside (m ∷ ms) range count within room zero d below = ids_inside m.ids range count (omega arith) room
masters_inside (m ∷ ms) range count within room (suc i) d below = masters_inside ms range count (omega arith) room i d (omega arith)

all_inside : (ins : List DownPort) (ranges : List IdRange) → AllZip HasRoom (map id_count ins) ranges → AllZip AreInside (shifted_masters ins ranges) ranges
all_inside [] [] rooms = tt
all_inside [] (range ∷ ranges) rooms = absurd rooms
all_inside (p ∷ ps) [] rooms = absurd rooms
all_inside (p ∷ ps) (range ∷ ranges) (room, rooms) = (masters_inside p.masters range (id_count p) (omega arith) room, all_inside ps ranges rooms)

zip_length : {A B : Type 0} (R : A → B → Type 0) (xs : List A) (ys : List B) → AllZip R xs ys → length xs ≡ length ys
zip_length R [] [] h = omega arith
zip_length R [] (y ∷ ys) h = absurd h
zip_length R (x ∷ xs) [] h = absurd h
zip_length R (x ∷ xs) (y ∷ ys) (here, rest) = omega (arith, zip_length R xs ys rest)

zip_at : {A B : Type 0} (R : A → B → Type 0) (xs : List A) (ys : List B) (i : ℕ) (d : A) (e : B) → AllZip R xs ys → i < length xs → R (get_or xs i d) (get_or ys i e)
zip_at R [] ys i d e h within = absurd (omega arith)
zip_at R (x ∷ xs) [] i d e h within = absurd h
zip_at R (x ∷ xs) (y ∷ ys) zero d e (here, rest) within = here
zip_at R (x ∷ xs) (y ∷ ys) (suc i) d e (here, rest) within = zip_at R xs ys i d e rest (omega arith)

other_ids : (ms ns : List Master) (a b : IdRange) → AreInside ms a → AreInside ns b → DisjointIds a b → HaveOtherIds ms ns
other_ids ms ns a b inside other apart i d within j e below id first second = apart id (inside i d within id first) (other j e below id second)

all_apart : (lists : List (List Master)) (ranges : List IdRange) → AllZip AreInside lists ranges → AllPairs DisjointIds ranges → AllPairs HaveOtherIds lists
all_apart lists ranges inside apart i j d before within =
    let long = zip_length AreInside lists ranges inside in
    let none : IdRange = record { start = 0; end = 0 } in
    other_ids (get_or lists i d) (get_or lists j d) (get_or ranges i none) (get_or ranges j none)
    (zip_at AreInside lists ranges i d none inside (omega arith)) (zip_at AreInside lists ranges j d none inside within)
    (apart i j none before (omega arith))

ranges_inside : (ins : List DownPort) → AllZip AreInside (shifted_masters ins (input_ranges ins)) (input_ranges ins)
ranges_inside ins = all_inside ins (input_ranges ins) (ranges_room (map id_count ins) (map rounded (map id_count ins)) 0)

pub ids_law : ShiftedIdsLaw
ids_law = record {
  inside = ranges_inside;
  apart = λ ins. all_apart (shifted_masters ins (input_ranges ins)) (input_ranges ins) (ranges_inside ins) (ranges_apart (map rounded (map id_count ins)));
}
