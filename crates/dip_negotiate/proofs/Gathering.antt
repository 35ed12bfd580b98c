-- The ports of all edges are kept_ports one by one.
use Rattle.std.proofs.Common.{◌≡◌, ℕ, ◌+◌, ◌<◌, List, [], ◌++◌, length, map, rules, sum, drop, get_or, Option, Some, None, sym, ap, ◌∙◌, arith}
use Rattle.std.proofs.lemmas.Grind.{common_steps}
use Rattle.std.proofs.lemmas.List.{append-nil, drop_more, map_push}
use Rattle.dip_negotiate.specs.Passes.{beside}
use Rattle.dip_negotiate.specs.Demands.{port_entries, kept_ports, seen}
use Rattle.dip_negotiate.proofs.Picks.{beside_more}

sum_beside : {P : Type 0} (count : P → ℕ) (some : List P) (o : Option P) → sum (map count (some ++ beside o [])) ≡ sum (map count some) + port_entries count o
sum_beside count some None = ap (λ xs. sum (map count xs)) (append-nil some) ∙ none (sum (map count some))
  where
    none : (n : ℕ) → n ≡ n + 0
    none n = omega arith
sum_beside count some (Some port) = ap sum (map_push count some port) ∙ search (rules, common_steps)

module _ {P : Type 0} (count : P → ℕ) (firsts : List ℕ) (old ports new : List (Option P)) (some more : List P) (e room left most : ℕ) (within : e < length firsts)
    (is : more ≡ some ++ beside (get_or ports (get_or firsts e 0) None) []) (kept : seen (drop (e + 1) firsts) new ≡ seen (drop (e + 1) firsts) ports)
    (room_left : left + port_entries count (get_or ports (get_or firsts e 0) None) ≡ room) where
  gathered_on : some ++ kept_ports (seen (drop e firsts) ports) ≡ kept_ports (seen firsts old) → more ++ kept_ports (seen (drop (e + 1) firsts) new) ≡ kept_ports (seen firsts old)
  gathered_on h =
      ap (λ xs. xs ++ kept_ports (seen (drop (e + 1) firsts) new)) is
      ∙ ap (λ xs. (some ++ beside (get_or ports (get_or firsts e 0) None) []) ++ kept_ports xs) kept
      ∙ beside_more some (get_or ports (get_or firsts e 0) None) (kept_ports (seen (drop (e + 1) firsts) ports))
      ∙ ap (λ fs. some ++ kept_ports (seen fs ports)) (sym (drop_more firsts e 0 within)) ∙ h

  room_on : room + sum (map count some) ≡ most → left + sum (map count more) ≡ most
  room_on h =
      let s = ap (λ xs. sum (map count xs)) is ∙ sum_beside count some (get_or ports (get_or firsts e 0) None) in
      omega (arith, h, s, room_left)

  pub on : (some ++ kept_ports (seen (drop e firsts) ports) ≡ kept_ports (seen firsts old)) × (room + sum (map count some) ≡ most)
      → (more ++ kept_ports (seen (drop (e + 1) firsts) new) ≡ kept_ports (seen firsts old)) × (left + sum (map count more) ≡ most)
  on h = (gathered_on h.0, room_on h.1)
