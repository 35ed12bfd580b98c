-- A pass over edges: each edge's port is stated from the ports of the edges that it asks.
use Rattle.std.specs.Prelude.{ℕ, ◌≡◌, List, [], ◌∷◌, ◌++◌, length, Option, Some, None, Result, Ok, Err, slice_get, slice_set}
use Rattle.dip_graph.specs.declared.edges.Edge.{Edge}
use Rattle.dip_negotiate.specs.declared.steps.Step.{Step}

-- a port beside others, where there is one
abbrev pub beside : {P : Type 0} → Option P → List P → List P
beside None ports = ports
beside (Some port) ports = port ∷ ports

-- of the ports of all edges, those of some edges by their numbers, in this order
abbrev pub picked : {P : Type 0} → List P → List ℕ → List P
picked ports [] = []
picked ports (number ∷ numbers) = beside (slice_get ports number) (picked ports numbers)

-- What a pass asks: what is stated of an edge from the ports of others, and the numbers of those others.
pub record Pass (P : Type 0) : Type 0 where
  pub says : Edge → List P → Result P ℕ
  pub asks : Edge → List ℕ

-- what is stated of an edge where the ports of all edges are these
abbrev pub stated : {P : Type 0} → Pass P → List P → Edge → Result P ℕ
stated pass ports edge = pass.says edge (picked ports (pass.asks edge))

-- an edge whose port is refused, and the number of the refusal
pub record Refusal : Type 0 where
  pub edge : Edge
  pub number : ℕ

-- the refusal of an edge with a number
abbrev pub refusal : Edge → ℕ → Refusal
refusal edge number = record { edge = edge; number = number }

-- a stated port goes on, a refused one ends the pass
abbrev pub go_on : {P : Type 0} → Edge → Result P ℕ → (P → Result (List P) Refusal) → Result (List P) Refusal
go_on edge (Ok port) next = next port
go_on edge (Err number) next = Err (refusal edge number)

-- the ports after some steps, each of which puts its edge's port in place, or the first refusal
abbrev pub run : {P : Type 0} → Pass P → List P → List Step → Result (List P) Refusal
run pass ports [] = Ok ports
run pass ports (step ∷ steps) =
    go_on step.edge (stated pass ports step.edge) (λ port. run pass (slice_set ports step.number port) steps)

-- The equation of an edge: its port is the one stated.
pub record Holds {P : Type 0} (pass : Pass P) (ports : List P) (number : ℕ) (edge : Edge) : Type 0 where
  pub port : P
  pub here : slice_get ports number ≡ Some port
  pub is : stated pass ports edge ≡ Ok port

-- each step's equation holds
abbrev pub HoldAt : {P : Type 0} → Pass P → List P → List Step → Type 0
HoldAt pass ports [] = Unit {0}
HoldAt pass ports (step ∷ steps) = Holds pass ports step.number step.edge × HoldAt pass ports steps

-- A port for each edge, such that each edge's equation holds.
pub record Solves {P : Type 0} (pass : Pass P) (edges : List Edge) (ports : List P) : Type 0 where
  pub long : length ports ≡ length edges
  pub holds : (number : ℕ) (edge : Edge) → slice_get edges number ≡ Some edge → Holds pass ports number edge

-- the same, and no other ports do
pub record OnlySolves {P : Type 0} (pass : Pass P) (edges : List Edge) (ports : List P) : Type 0 where
  pub solves : Solves pass edges ports
  pub only : (others : List P) → Solves pass edges others → others ≡ ports

-- The first of the steps that is refused: there are ports with which the equations of all steps before it hold, and
-- from all such ports the port of its edge is refused.
pub record RefusesFirst {P : Type 0} (pass : Pass P) (steps : List Step) (first : Refusal) : Type 0 where
  pub front : List Step
  pub number : ℕ
  pub back : List Step
  pub split : steps ≡ front ++ record { number = number; edge = first.edge } ∷ back
  pub ports : List P
  pub before : HoldAt pass ports front
  pub refuses : (others : List P) → HoldAt pass others front → stated pass others first.edge ≡ Err first.number
