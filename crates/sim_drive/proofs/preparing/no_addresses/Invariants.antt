use Rattle.std.proofs.Common.{◌≡◌, List, ℕ, [], map}
use Rattle.std.specs.List.{range_with_len}
use Rattle.sim_drive.proofs.preparing.no_addresses.Given as goal

abbrev pub invariant-loop : goal.invariant-loop
invariant-loop l = map (λ list. list.items) l.lists.items ≡ map (λ _. []) (range_with_len 0 l.counter)
