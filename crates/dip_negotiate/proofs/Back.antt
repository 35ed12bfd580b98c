-- One step of a walk from the end of an order.
use Rattle.std.proofs.Common.{◌≡◌, ℕ, ◌+◌, ◌-◌, ◌<◌, List, ◌++◌, length, drop, get_or, sym, ap, ◌∙◌, arith}
use Rattle.std.proofs.lemmas.List.{drop_more}
use Rattle.dip_graph.specs.declared.edges.Edge.{Edge}
use Rattle.dip_negotiate.specs.Places.{sink_end, steps_at, steps_up}

pub one_back : (order : List ℕ) (edges : List Edge) (turn node : ℕ) → turn < length order → node ≡ get_or order (length order - 1 - turn) node
    → steps_up (drop (length order - turn) order) edges ++ steps_at sink_end node 0 edges ≡ steps_up (drop (length order - (turn + 1)) order) edges
one_back order edges turn node h e =
    let k : ℕ = length order - 1 - turn in
    let next : length order - turn ≡ k + 1 = omega arith in
    let here : length order - (turn + 1) ≡ k = omega arith in
    rw (next, here) (ap (λ n. steps_up (drop (k + 1) order) edges ++ steps_at sink_end n 0 edges) e
    ∙ sym (ap (λ ns. steps_up ns edges) (drop_more order k node (omega arith))))
