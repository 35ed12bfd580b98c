use Rattle.std.proofs.Common.{IfOk, IsPermutation, subst}
use Rattle.std.proofs.lemmas.List.Sorted.{IsNonDecreasingBy-from_sort, non_decreasing_from_is_sorted}
use Rattle.sim_ports.specs.Layout.{IsLaidOut}
use Rattle.sim_ports.proofs.Laid.{any_order}
use Rattle.sim_ports.proofs.laid_out.laid_out.Goals as goal

pub from_rising-requires : goal.from_rising-requires
from_rising-requires c =
    let m = non_decreasing_from_is_sorted c.args.addresses.now _ c.is_sorted.ensures.cases in
    rw c.if-is_sorted.true at m

pub from_rising-requires-2 : goal.from_rising-requires-2
from_rising-requires-2 c =
    rw c.deref.ensures.value (IsNonDecreasingBy-from_sort (λ x. x) c.sort.new.self.items c.in_ok-sort.ensures.sorted)

pub returns : goal.returns
returns c =
    let moved : IsPermutation c.args.addresses.now c.deref.result.now =
    rw (c.deref.ensures.value, ← c.in_ok-sorted.ensures.items) c.in_ok-sort.ensures.permutation in
    subst (λ h. IfOk c.from_rising-2.result (λ l. IsLaidOut l.runs l.bytes h))
    (any_order c.args.role c.args.addresses.now c.deref.result.now moved) c.from_rising-2.ensures
