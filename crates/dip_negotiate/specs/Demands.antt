-- Negotiation on demand: on which ports a port depends, what is known of all ports, and what a demand answers.
use Rattle.std.specs.Prelude.{ℕ, ◌+◌, ◌≡◌, ◌<◌, ◌&&◌, ◌==◌, ◌⊎◌, Bool, true, cond, List, [], ◌∷◌, length, map, get_or, slice_get}
use Rattle.std.specs.Prelude.{Option, None, Some, is_some, Ok, Err}
use Rattle.dip_graph.specs.Orders.{canonical_order}
use Rattle.dip_graph.specs.declared.design.NodeEntry.{NodeEntry}
use Rattle.dip_graph.specs.declared.design.Design.{Design}
use Rattle.dip_graph.specs.declared.edges.Edge.{Edge}
use Rattle.dip_rule.specs.Stated.{StatedRule}
use Rattle.tl_params.specs.declared.ports.DownPort.{DownPort}
use Rattle.tl_params.specs.declared.ports.UpPort.{UpPort}
use Rattle.dip_negotiate.specs.declared.steps.End.{End}
use Rattle.dip_negotiate.specs.declared.steps.Step.{Step}
use Rattle.dip_negotiate.specs.declared.turns.Turns.{Turns}
use Rattle.dip_negotiate.specs.declared.solution.NegFault.{NegFault}
use Rattle.dip_negotiate.specs.declared.solution.NegFault.TheVariants.{DownRefused, UpRefused, Memory}
use Rattle.dip_negotiate.specs.Passes.{Pass, beside, stated, Holds}
use Rattle.dip_negotiate.specs.Places.{source_end, sink_end, steps_down, steps_up}
use Rattle.dip_negotiate.specs.Negotiation.{IsNegotiable, down_pass, up_pass, place_of}

-- ---- on what a port depends

-- the number is one of these
abbrev pub IsOneOf : ℕ → List ℕ → Type 0
IsOneOf x [] = ⊥
IsOneOf x (y ∷ ys) = (x ≡ y) ⊎ IsOneOf x ys

-- a set of edges that has, with each edge, those whose ports are asked for its port
abbrev pub IsClosed : {P : Type 0} → Pass P → List Edge → (ℕ → Bool) → Type 0
IsClosed pass edges has =
    (k : ℕ) (edge : Edge) → slice_get edges k ≡ Some edge → has k ≡ true → (y : ℕ) → IsOneOf y (pass.asks edge)
    → has y ≡ true

-- the port of edge i depends on that of edge k, which may be i itself: k is in each such set that has i
abbrev pub PortDependsOn : {P : Type 0} → Pass P → List Edge → ℕ → ℕ → Type 0
PortDependsOn pass edges i k = (has : ℕ → Bool) → IsClosed pass edges has → has i ≡ true → has k ≡ true

-- ---- equations of some of the edges

-- the equations of these edges hold
abbrev pub SolvesFor : {P : Type 0} → Pass P → List Edge → (ℕ → Type 0) → List P → Type 0
SolvesFor pass edges Own ports =
    (k : ℕ) (edge : Edge) → slice_get edges k ≡ Some edge → Own k → Holds pass ports k edge

-- they hold, and other ports with which they hold are the same on these edges
pub record OnlySolvesFor {P : Type 0} (pass : Pass P) (edges : List Edge) (Own : ℕ → Type 0)
    (ports : List P) : Type 0 where
  pub solves : SolvesFor pass edges Own ports
  pub only : (others : List P) → SolvesFor pass edges Own others → (k : ℕ) (edge : Edge)
      → slice_get edges k ≡ Some edge → Own k → slice_get others k ≡ slice_get ports k

-- The port of edge i: the one that it has where the equations hold of it and of all ports on which it depends. Of the
-- other edges nothing is said; they may be refused.
pub record IsPortOf {P : Type 0} (pass : Pass P) (edges : List Edge) (i : ℕ) (port : P) : Type 0 where
  pub ports : List P
  pub only : OnlySolvesFor pass edges (PortDependsOn pass edges i) ports
  pub here : slice_get ports i ≡ Some port

-- the edge with this number is taken in a step before this turn
abbrev pub IsTakenBefore : List Step → ℕ → ℕ → Type 0
IsTakenBefore steps turn k =
    (q : ℕ) × (s : Step) × (q < turn) × (slice_get steps q ≡ Some s) × (s.number ≡ k)

-- The first refusal among these edges: an edge of them, in its turn. The equations of those of them that are taken
-- before hold of some ports, of all such ports it is refused with this number, and no ports solve all of them.
pub record IsFirstRefusal {P : Type 0} (pass : Pass P) (edges : List Edge) (steps : List Step) (Own : ℕ → Type 0)
    (edge : Edge) (number : ℕ) : Type 0 where
  pub turn : ℕ
  pub refused : ℕ
  pub taken : slice_get steps turn ≡ Some (record { number = refused; edge = edge })
  pub own : Own refused
  pub ports : List P
  pub before : SolvesFor pass edges (λ k. Own k × IsTakenBefore steps turn k) ports
  pub refuses : (others : List P) → SolvesFor pass edges (λ k. Own k × IsTakenBefore steps turn k) others
      → stated pass others edge ≡ Err number
  pub unsolved : (others : List P) → SolvesFor pass edges Own others → ⊥

-- ---- what is known

-- whether the port of an edge is known
abbrev pub keeps : {P : Type 0} → List (Option P) → ℕ → Bool
keeps known k = is_some (get_or known k None)

-- of what is known of all edges, the ports of some edges by their numbers, in this order
abbrev pub known_of : {P : Type 0} → List (Option P) → List ℕ → List P
known_of known [] = []
known_of known (k ∷ ks) = beside (get_or known k None) (known_of known ks)

-- how many masters or slaves a port has, none where there is no port
abbrev pub port_entries : {P : Type 0} → (P → ℕ) → Option P → ℕ
port_entries count None = 0
port_entries count (Some port) = count port

-- how many all known ports have together
abbrev pub all_entries : {P : Type 0} → (P → ℕ) → List (Option P) → ℕ
all_entries count [] = 0
all_entries count (port ∷ ports) = port_entries count port + all_entries count ports

-- the known ports in the order of edges
abbrev pub kept_ports : {P : Type 0} → List (Option P) → List P
kept_ports [] = []
kept_ports (port ∷ known) = beside port (kept_ports known)

-- What is known is what may be: with each port, those that are asked for it are known, and it is what is stated of
-- them.
pub record IsKnown {P : Type 0} (pass : Pass P) (edges : List Edge) (known : List (Option P)) : Type 0 where
  pub long : length known ≡ length edges
  pub closed : IsClosed pass edges (keeps known)
  pub holds : (k : ℕ) (edge : Edge) (port : P) → slice_get edges k ≡ Some edge → get_or known k None ≡ Some port
      → pass.says edge (known_of known (pass.asks edge)) ≡ Ok port

-- no port is known
abbrev pub KeepsNone : {P : Type 0} → List (Option P) → Type 0
KeepsNone known = (k : ℕ) → get_or known k None ≡ None

-- what was known stays
abbrev pub Stays : {P : Type 0} → List (Option P) → List (Option P) → Type 0
Stays old new = (k : ℕ) → keeps old k ≡ true → get_or new k None ≡ get_or old k None

-- all ports of these edges are known
abbrev pub AllKept : {P : Type 0} → (ℕ → Type 0) → List (Option P) → Type 0
AllKept Own known = (k : ℕ) → Own k → keeps known k ≡ true

-- two edges whose ports the same place gives
abbrev pub SharePlace : (Edge → End) → List Edge → ℕ → ℕ → Type 0
SharePlace place edges j k =
    (d : Edge) × (e : Edge) × (slice_get edges j ≡ Some d) × (slice_get edges k ≡ Some e) × (place d ≡ place e)

-- what came to be known is of these edges, or of edges whose ports the same places give
abbrev pub KeepsOnly : {P : Type 0} → (ℕ → ℕ → Type 0) → (ℕ → Type 0) → List (Option P) → List (Option P) → Type 0
KeepsOnly Share Own old new =
    (k : ℕ) → keeps new k ≡ true → (keeps old k ≡ true) ⊎ ((j : ℕ) × Own j × Share j k)

-- ---- how it is kept

-- two ends are the same
abbrev pub same_end : End → End → Bool
same_end a b = (a.node == b.node) && (a.port == b.port)

-- the first place in a list at which an end stands, its length where it doesn't
abbrev pub first_at : End → List End → ℕ
first_at end [] = 0
first_at end (x ∷ ends) = cond (same_end x end) 0 (first_at end ends + 1)

-- for each of some ends the first of them that is the same
abbrev pub first_shares : List End → List ℕ
first_shares ends = map (λ end. first_at end ends) ends

-- the places that give the ports of edges
abbrev pub end_places : List StatedRule → List NodeEntry → (Edge → End) → List Edge → List End
end_places rules nodes near edges = map (λ edge. place_of rules nodes (near edge)) edges

-- what is known of each edge, where a port is kept at the first edge whose port the same place gives
abbrev pub seen : {P : Type 0} → List ℕ → List (Option P) → List (Option P)
seen firsts ports = map (λ first. get_or ports first None) firsts

-- The turns of a design that go down, and what is kept of its ports.
pub record IsDown (rules : List StatedRule) (design : Design) (edges : List Edge) (turns : Turns)
    (ports : List (Option DownPort)) : Type 0 where
  pub steps : turns.steps ≡ steps_down (canonical_order design) edges
  pub firsts : turns.firsts ≡ first_shares (end_places rules design.nodes source_end edges)
  pub long : length ports ≡ length edges
  pub known : IsKnown (down_pass rules design.nodes edges) edges (seen turns.firsts ports)

-- the same for those that go up
pub record IsUp (rules : List StatedRule) (design : Design) (edges : List Edge) (turns : Turns)
    (ports : List (Option UpPort)) : Type 0 where
  pub steps : turns.steps ≡ steps_up (canonical_order design) edges
  pub firsts : turns.firsts ≡ first_shares (end_places rules design.nodes sink_end edges)
  pub long : length ports ≡ length edges
  pub known : IsKnown (up_pass rules design.nodes edges) edges (seen turns.firsts ports)

-- ---- what a demand answers

-- the fault names the first refusal down among the ports on which that of an edge depends, or is want of memory
abbrev pub IsDownRefusal : List StatedRule → Design → List Edge → ℕ → NegFault → Type 0
IsDownRefusal rules design edges i (DownRefused node port number) =
    (edge : Edge)
    × IsFirstRefusal (down_pass rules design.nodes edges) edges (steps_down (canonical_order design) edges)
    (PortDependsOn (down_pass rules design.nodes edges) edges i) edge number
    × (place_of rules design.nodes (source_end edge) ≡ record { node = node; port = port })
IsDownRefusal rules design edges i (UpRefused node port number) = ⊥
IsDownRefusal rules design edges i Memory = Unit {0}

-- the same of a demand up
abbrev pub IsUpRefusal : List StatedRule → Design → List Edge → ℕ → NegFault → Type 0
IsUpRefusal rules design edges i (DownRefused node port number) = ⊥
IsUpRefusal rules design edges i (UpRefused node port number) =
    (edge : Edge)
    × IsFirstRefusal (up_pass rules design.nodes edges) edges (steps_up (canonical_order design) edges)
    (PortDependsOn (up_pass rules design.nodes edges) edges i) edge number
    × (place_of rules design.nodes (sink_end edge) ≡ record { node = node; port = port })
IsUpRefusal rules design edges i Memory = Unit {0}

-- What a lazy negotiation is about: a design without a cycle with edges that its binds make, and of each direction what
-- is kept.
pub record IsLazy (rules : List StatedRule) (design : Design) (edges : List Edge) (down_turns : Turns)
    (down : List (Option DownPort)) (up_turns : Turns) (up : List (Option UpPort)) : Type 0 where
  pub few : length edges < 4294967296
  pub negotiable : IsNegotiable design edges
  pub is_down : IsDown rules design edges down_turns down
  pub is_up : IsUp rules design edges up_turns up
