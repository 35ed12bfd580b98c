-- A cell that reads only cells of lower ranks is on no loop.
use Rattle.std.proofs.Common.{◌≡◌, ℕ, ◌+◌, ◌-◌, ◌<◌, ◌≤◌, List, [], ◌∷◌, length, sym, ap, ◌∙◌, subst, arith}
use Rattle.std.specs.Prelude.{Contains, slice_get}
use Rattle.std.proofs.lemmas.Option.{get_or_from_slice_get, slice_get_within}
use Rattle.net_cells.specs.declared.netlist.Cell.{Cell}
use Rattle.net_cells.specs.declared.netlist.Netlist.{Netlist}
use Rattle.net_cells.specs.Rules.{sources}
use Rattle.net_cells.specs.Loops.{Reads, IsPath, DependsOn}
use Rattle.sim_engine.specs.Orders.{cell_at}
use Rattle.sim_engine.specs.Ranks.{AreRanked, IsBelow, ReadsBelow, rank_at}
use Rattle.sim_engine.specs.Steps.{three}
use Rattle.sim_engine.proofs.Walking.{among_three, a_at}
use Rattle.sim_engine.proofs.Acyclic.{depends_cell}

-- what a cell reads is below the bound
read_below : (n : Netlist) (ranks : List ℕ) (place bound other : ℕ) → ReadsBelow n ranks place bound → Reads n (sources n + place) other → IsBelow (sources n) ranks bound other
read_below n ranks place bound other b r =
    let e : r.place ≡ place = let h = r.here in omega arith in
    let g : cell_at n place ≡ r.cell = get_or_from_slice_get n.cells place r.cell _ (sym (ap (slice_get n.cells) e) ∙ r.is) in
    let k = subst (λ (c : Cell). Contains (three c.op) other) (sym g) (among_three r.cell.op other r.operand) in
    a_at (IsBelow (sources n) ranks bound) (three (cell_at n place).op) other b k

-- along a path no rank rises
no_higher : (n : Netlist) (ranks : List ℕ) → AreRanked n ranks → (place : ℕ) (others : List ℕ) (last : ℕ) → IsPath n (sources n + place) others last → sources n ≤ last → rank_at ranks (last - sources n) ≤ rank_at ranks place
no_higher n ranks a place [] last p b =
    let e : p.place ≡ place = let h = p.here in omega arith in
    let l : place < length n.cells = let h = slice_get_within n.cells p.place p.cell p.is in omega (arith, e) in
    let h = read_below n ranks place (rank_at ranks place + 1) last (a place l) p b in
    omega arith
no_higher n ranks a place (next ∷ others) last p b =
    let r = p.0 in
    let e : r.place ≡ place = let h = r.here in omega arith in
    let l : place < length n.cells = let h = slice_get_within n.cells r.place r.cell r.is in omega (arith, e) in
    let c : sources n ≤ next = (depends_cell n next last (others, p.1)).0 in
    let f : next ≡ sources n + (next - sources n) = omega arith in
    let h = read_below n ranks place (rank_at ranks place + 1) next (a place l) r c in
    let i = no_higher n ranks a (next - sources n) others last (subst (λ x. IsPath n x others last) f p.1) b in
    omega arith

pub on_no_loop : (n : Netlist) (ranks : List ℕ) (place : ℕ) → AreRanked n ranks → ReadsBelow n ranks place (rank_at ranks place) → DependsOn n (sources n + place) (sources n + place) → ⊥
on_no_loop n ranks place a b ([], p) =
    let e : sources n + place - sources n ≡ place = omega arith in
    let h = read_below n ranks place (rank_at ranks place) (sources n + place) b p (omega arith) in
    let g : rank_at ranks (sources n + place - sources n) ≡ rank_at ranks place = ap (rank_at ranks) e in
    absurd (omega arith)
on_no_loop n ranks place a b (next ∷ others, p) =
    let last = sources n + place in
    let e : last - sources n ≡ place = omega arith in
    let c : sources n ≤ next = (depends_cell n next last (others, p.1)).0 in
    let f : next ≡ sources n + (next - sources n) = omega arith in
    let h = read_below n ranks place (rank_at ranks place) next b p.0 c in
    let i = no_higher n ranks a (next - sources n) others last (subst (λ x. IsPath n x others last) f p.1) (omega arith) in
    let g : rank_at ranks (last - sources n) ≡ rank_at ranks place = ap (rank_at ranks) e in
    absurd (omega arith)
