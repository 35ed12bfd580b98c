-- What passed checks of edges say.
use Rattle.std.proofs.Common.{◌≡◌, ℕ, ◌+◌, ◌<◌, ◌≤◌, ◌==◌, List, [], ◌∷◌, length, Bool, false, ◌||◌, nat_lt, nat_le, max, min, None, arith}
use Rattle.std.specs.Prelude.{All, AllPairs}
use Rattle.std.specs.List.{list_any}
use Rattle.std.proofs.lemmas.Bool.Decides.{nat_tests}
use Rattle.std.proofs.lemmas.List.Elements.{All-cons}
use Rattle.std.proofs.lemmas.List.Kept.{AllPairs-cons}
use Rattle.dip_lists.specs.First.{first, places}
use Rattle.dip_lists.proofs.Tests.{neither}
use Rattle.dip_sets.specs.declared.ids.IdRange.{IdRange}
use Rattle.dip_sets.specs.Ids.{DisjointIds, overlap_ids}
use Rattle.dip_sets.specs.Sets.{Pattern, alignment}
use Rattle.tl_params.specs.Aligned.{IsAligned, HasAlignedSets}
use Rattle.tl_params.specs.Operations.{largest}
use Rattle.tl_params.specs.declared.ports.Master.{Master}
use Rattle.tl_params.specs.declared.ports.Slave.{Slave}
use Rattle.tl_params.specs.declared.ports.DownPort.{DownPort}
use Rattle.tl_params.specs.declared.ports.UpPort.{UpPort}
use Rattle.dip_checks.specs.Checks.{has_wrong_ids, share_ids, masters_are_wrong, slave_is_misaligned, edge_is_misaligned}
use Rattle.dip_checks.specs.Laws.{HasOwnIds, PortsLaw}
use Rattle.dip_checks.proofs.Disjointness.{passes_here}

-- what fails nowhere in a list holds of each element
each : {X : Type 0} (test : X → Bool) (P : X → Type 0) → ((x : X) → test x ≡ false → P x) → (xs : List X) → list_any test xs ≡ false → All P xs
each test P from [] h = λ k d l. absurd (omega arith)
each test P from (x ∷ xs) h = let both = neither (test x) (list_any test xs) h in All-cons P x xs (from x both.0) (each test P from xs both.1)

at_each : {X : Type 0} (test : X → Bool) (P : X → Type 0) → ((x : X) → test x ≡ false → P x) → (number : ℕ) (xs : List X) → first (places (λ n x. test x) number xs) ≡ None → All P xs
at_each test P from number [] h = λ k d l. absurd (omega arith)
at_each test P from number (x ∷ xs) h =
    let both = passes_here (test x) number (places (λ n x. test x) (number + 1) xs) h in
    All-cons P x xs (from x both.0) (at_each test P from (number + 1) xs both.1)

ids_apart : (a b : IdRange) → overlap_ids a b ≡ false → DisjointIds a b
ids_apart a b h id in_a in_b =
    let none : min a.end b.end ≤ max a.start b.start = grind (arith, nat_tests) in
    let from_a = in_a.0 in let to_a = in_a.1 in let from_b = in_b.0 in let to_b = in_b.1 in
    absurd (omega arith)

right_ids : (m : Master) → has_wrong_ids m ≡ false → (m.ids.start < m.ids.end) × (m.ids.end ≤ 1024)
right_ids m h =
    let both = neither (nat_le m.ids.end m.ids.start) (nat_lt 1024 m.ids.end) h in
    let one = both.0 in let two = both.1 in
    (grind (arith, nat_tests), grind (arith, nat_tests))

own : (masters : List Master) → share_ids masters ≡ false → AllPairs (λ (m other : Master). DisjointIds m.ids other.ids) masters
own [] h = λ i j d before within. absurd (omega arith)
own (m ∷ masters) h =
    let both = neither (list_any (λ other. overlap_ids m.ids other.ids) masters) (share_ids masters) h in
    AllPairs-cons (λ (m other : Master). DisjointIds m.ids other.ids) m masters
    (each (λ other. overlap_ids m.ids other.ids) (λ other. DisjointIds m.ids other.ids) (λ other. ids_apart m.ids other.ids) masters both.0)
    (own masters both.1)

own_ids : (down : DownPort) → masters_are_wrong down.masters ≡ false → HasOwnIds down
own_ids down h =
    let some = neither ((length down.masters == 0) || list_any has_wrong_ids down.masters) (share_ids down.masters) h in
    let first_two = neither (length down.masters == 0) (list_any has_wrong_ids down.masters) some.0 in
    record {
      within = each has_wrong_ids (λ (m : Master). (m.ids.start < m.ids.end) × (m.ids.end ≤ 1024)) right_ids down.masters first_two.1;
      apart = own down.masters some.1;
    }

aligned_set : (bytes : ℕ) (s : Pattern) → nat_lt (alignment s) bytes ≡ false → bytes ≤ alignment s
aligned_set bytes s h = grind (arith, nat_tests)

aligned_slave : (slave : Slave) → slave_is_misaligned slave ≡ false → IsAligned slave
aligned_slave slave h =
    each (λ s. nat_lt (alignment s) (largest slave.supports)) (λ s. largest slave.supports ≤ alignment s) (aligned_set (largest slave.supports)) slave.addresses h

aligned_edge : (up : UpPort) → edge_is_misaligned up ≡ false → HasAlignedSets up
aligned_edge up h = each slave_is_misaligned IsAligned aligned_slave up.slaves h

pub ports : PortsLaw
ports = record {
  ids = λ downs h. at_each (λ (down : DownPort). masters_are_wrong down.masters) HasOwnIds own_ids 0 downs h;
  aligned = λ ups h. at_each edge_is_misaligned HasAlignedSets aligned_edge 0 ups h;
}
