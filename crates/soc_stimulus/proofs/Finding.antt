-- Ports of a plan and masters as a loop finds them.
use Rattle.std.proofs.Common.{ℕ, ◌≡◌, ◌+◌, List, ◌∷◌, Bool, true, false, cond, Some, drop, sym, ◌∙◌, ap}
use Rattle.std.specs.Prelude.{slice_get}
use Rattle.std.specs.List.{find}
use Rattle.std.proofs.lemmas.List.{drop_more}
use Rattle.std.proofs.lemmas.Option.{slice_get_within, get_or_from_slice_get}
use Rattle.tl_edge.specs.declared.plan.PlanPort.{PlanPort}
use Rattle.soc_stimulus.specs.Ports.{port_from, is_port_of}

module _ {X : Type 0} where
  -- what is left at a place is the item there and what is left behind it
  pub left_at : (all : List X) (i : ℕ) (x : X) → slice_get all i ≡ Some x → drop i all ≡ x ∷ drop (i + 1) all
  left_at all i x e =
      drop_more all i x (slice_get_within all i x e) ∙ ap (λ y. y ∷ drop (i + 1) all) (get_or_from_slice_get all i x x e)

  -- an item that fails a test is passed over
  pub find_behind : (test : X → Bool) (all : List X) (i : ℕ) (x : X) → slice_get all i ≡ Some x → test x ≡ false
      → find test (drop (i + 1) all) ≡ find test (drop i all)
  find_behind test all i x e fails =
      sym (ap (find test) (left_at all i x e) ∙ ap (λ b. cond b (Some x) (find test (drop (i + 1) all))) fails)

  -- one that passes is the first
  pub find_here : (test : X → Bool) (all : List X) (i : ℕ) (x : X) → slice_get all i ≡ Some x → test x ≡ true
      → find test (drop i all) ≡ Some x
  find_here test all i x e passes =
      ap (find test) (left_at all i x e) ∙ ap (λ b. cond b (Some x) (find test (drop (i + 1) all))) passes

-- a port that is another one is passed over
pub port_behind : (ports : List PlanPort) (i : ℕ) (at : PlanPort) (node port : ℕ) → slice_get ports i ≡ Some at
    → is_port_of node port at ≡ false → port_from (i + 1) (drop (i + 1) ports) node port ≡ port_from i (drop i ports) node port
port_behind ports i at node port e fails =
    sym (ap (λ l. port_from i l node port) (left_at ports i at e)
    ∙ ap (λ b. cond b (Some i) (port_from (i + 1) (drop (i + 1) ports) node port)) fails)

-- the one that is asked for is found
pub port_here : (ports : List PlanPort) (i : ℕ) (at : PlanPort) (node port : ℕ) → slice_get ports i ≡ Some at
    → is_port_of node port at ≡ true → port_from i (drop i ports) node port ≡ Some i
port_here ports i at node port e passes =
    ap (λ l. port_from i l node port) (left_at ports i at e)
    ∙ ap (λ b. cond b (Some i) (port_from (i + 1) (drop (i + 1) ports) node port)) passes
