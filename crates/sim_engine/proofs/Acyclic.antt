-- Where the cells stand in an order, no net depends on itself.
use Rattle.std.proofs.Common.{◌≡◌, ℕ, ◌+◌, ◌-◌, ◌<◌, ◌≤◌, inl, inr, List, [], ◌∷◌, ◌++◌, length, sym, ap, ◌∙◌, subst, arith, append_assoc}
use Rattle.std.specs.Prelude.{Contains, slice_get}
use Rattle.std.proofs.lemmas.List.{append-nil}
use Rattle.std.proofs.lemmas.List.Elements.{Contains-push_cases, Contains-append_left}
use Rattle.std.proofs.lemmas.Option.{slice_get_within}
use Rattle.net_cells.specs.declared.netlist.Netlist.{Netlist}
use Rattle.net_cells.specs.Rules.{sources}
use Rattle.net_cells.specs.Loops.{Reads, IsPath, DependsOn, HasNoLoop}
use Rattle.sim_engine.specs.Orders.{IsKnown, IsReady, AreReadyInTurn, IsOrder}

-- all that the cells read is known
abbrev pub IsClosed : Netlist → List ℕ → Type 0
IsClosed n done = (place : ℕ) → Contains done place → IsReady n done place

pub known_read : (n : Netlist) (done : List ℕ) (place x : ℕ) → IsReady n done place → Reads n (sources n + place) x → IsKnown n done x
known_read n done place x r d =
    let e : d.place ≡ place = let h = d.here in omega arith in
    r d.cell (sym (ap (slice_get n.cells) e) ∙ d.is) x d.operand

-- from a known net only known ones are reached
pub known_path : (n : Netlist) (done : List ℕ) → IsClosed n done → (net : ℕ) → IsKnown n done net → (others : List ℕ) (last : ℕ) → IsPath n net others last → IsKnown n done last
known_path n done c net k [] last p =
    let e : net ≡ sources n + (net - sources n) = let h = p.here in omega arith in
    known_read n done (net - sources n) last (c (net - sources n) (k (let h = p.here in omega arith))) (subst (λ x. Reads n x last) e p)
known_path n done c net k (x ∷ xs) last p =
    let r = p.0 in
    let e : net ≡ sources n + (net - sources n) = let h = r.here in omega arith in
    known_path n done c x (known_read n done (net - sources n) x (c (net - sources n) (k (let h = r.here in omega arith))) (subst (λ y. Reads n y x) e r)) xs last p.1

path_known : (n : Netlist) (done : List ℕ) → IsClosed n done → (place last : ℕ) → IsReady n done place → (others : List ℕ) → IsPath n (sources n + place) others last → IsKnown n done last
path_known n done c place last r [] p = known_read n done place last r p
path_known n done c place last r (x ∷ xs) p = known_path n done c x (known_read n done place x r p.0) xs last p.1

-- what a ready cell depends on is known
pub known_depends : (n : Netlist) (done : List ℕ) → IsClosed n done → (place last : ℕ) → IsReady n done place → DependsOn n (sources n + place) last → IsKnown n done last
known_depends n done c place last r d = path_known n done c place last r d.0 d.1

known_more : (n : Netlist) (done : List ℕ) (place net : ℕ) → IsKnown n done net → IsKnown n (done ++ place ∷ []) net
known_more n done place net k = λ h. Contains-append_left done (place ∷ []) (net - sources n) (k h)

closed_more : (n : Netlist) (done : List ℕ) (place : ℕ) → IsClosed n done → IsReady n done place → IsClosed n (done ++ place ∷ [])
closed_more n done place c r q k = λ cell e net o. known_more n done place net (elim (Contains-push_cases done place q k) [
  | inl d ↦ c q d cell e net o
  | inr f ↦ r cell (ap (slice_get n.cells) f ∙ e) net o
])

-- none of these cells depends on itself
abbrev HasNoLoopAt : Netlist → List ℕ → Type 0
HasNoLoopAt n done = (place : ℕ) → Contains done place → DependsOn n (sources n + place) (sources n + place) → ⊥

no_loop_more : (n : Netlist) (done : List ℕ) (place : ℕ) → IsClosed n done → HasNoLoopAt n done → IsReady n done place → HasNoLoopAt n (done ++ place ∷ [])
no_loop_more n done place c a r q k d = elim (Contains-push_cases done place q k) [
  | inl h ↦ a q h d
  | inr e ↦
      let s = subst (λ x. DependsOn n (sources n + x) (sources n + x)) (sym e) d in
      let h = known_depends n done c place (sources n + place) r s (omega arith) in
      let f : sources n + place - sources n ≡ place = omega arith in
      a place (subst (λ x. Contains done x) f h) s
]

no_loop_all : (n : Netlist) (done rest : List ℕ) → IsClosed n done → HasNoLoopAt n done → AreReadyInTurn n done rest → HasNoLoopAt n (done ++ rest)
no_loop_all n done [] c a o = subst (λ (xs : List ℕ). HasNoLoopAt n xs) (sym (append-nil done)) a
no_loop_all n done (place ∷ places) c a o =
    subst (λ (xs : List ℕ). HasNoLoopAt n xs) (append_assoc done (place ∷ []) places)
    (no_loop_all n (done ++ place ∷ []) places (closed_more n done place c o.0) (no_loop_more n done place c a o.0) o.1)

-- the cell of a net that depends on another one
record HasCell (n : Netlist) (net : ℕ) : Type 0 where
  place : ℕ
  here : net ≡ sources n + place
  exists : place < length n.cells

read_cell : (n : Netlist) (net other : ℕ) → Reads n net other → HasCell n net
read_cell n net other r = record { place = r.place; here = r.here; exists = slice_get_within n.cells r.place r.cell r.is }

path_cell : (n : Netlist) (net : ℕ) (others : List ℕ) (last : ℕ) → IsPath n net others last → HasCell n net
path_cell n net [] last p = read_cell n net last p
path_cell n net (x ∷ xs) last p = read_cell n net x p.0

-- a net that depends on another one is a cell's
pub depends_cell : (n : Netlist) (net last : ℕ) → DependsOn n net last → (sources n ≤ net) × (net - sources n < length n.cells)
depends_cell n net last d = let h = path_cell n net d.0 last d.1 in (let e = h.here in omega arith, let e = h.here in let b = h.exists in omega arith)

pub no_loop : (n : Netlist) (order : List ℕ) → IsOrder n order → HasNoLoop n
no_loop n order o net d =
    let h = depends_cell n net net d in
    let e : net ≡ sources n + (net - sources n) = let l = h.0 in omega arith in
    no_loop_all n [] order (λ q k. absurd (omega (arith, k.1))) (λ q k. absurd (omega (arith, k.1))) o.ordered (net - sources n) (o.every (net - sources n) h.1)
    (subst (λ x. DependsOn n x x) e d)
