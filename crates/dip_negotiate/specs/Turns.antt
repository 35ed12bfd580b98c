-- Which edges a demand has to look at, and what holds while it asks their places in turn.
use Rattle.std.specs.Prelude.{ℕ, ◌≡◌, ◌<◌, ◌&&◌, ◌⊎◌, Bool, true, false, not, cond, List, [], ◌∷◌, length, get_or, slice_get, slice_set}
use Rattle.std.specs.Prelude.{Option, Some, Err}
use Rattle.dip_graph.specs.declared.edges.Edge.{Edge}
use Rattle.dip_negotiate.specs.declared.steps.Step.{Step}
use Rattle.dip_negotiate.specs.Passes.{Pass}
use Rattle.dip_negotiate.specs.Demands.{IsOneOf, keeps, known_of}

-- The steps are all edges, each once and with its number, and each is behind those whose ports are asked for its port.
pub record InTurn {P : Type 0} (pass : Pass P) (edges : List Edge) (steps : List Step) : Type 0 where
  pub sound : (q : ℕ) (s : Step) → slice_get steps q ≡ Some s → slice_get edges s.number ≡ Some s.edge
  pub whole : (k : ℕ) (edge : Edge) → slice_get edges k ≡ Some edge
      → (q : ℕ) × (slice_get steps q ≡ Some (record { number = k; edge = edge }))
  pub once : (q r : ℕ) (s t : Step) → slice_get steps q ≡ Some s → slice_get steps r ≡ Some t → s.number ≡ t.number
      → q ≡ r
  pub behind : (q : ℕ) (s : Step) → slice_get steps q ≡ Some s → (y : ℕ) → IsOneOf y (pass.asks s.edge)
      → (r : ℕ) × (t : Step) × (r < q) × (slice_get steps r ≡ Some t) × (t.number ≡ y)

-- Edges with the same first edge have the same equation.
pub record AreShared {P : Type 0} (pass : Pass P) (edges : List Edge) (firsts : List ℕ) : Type 0 where
  pub long : length firsts ≡ length edges
  pub within : (k : ℕ) (edge : Edge) → slice_get edges k ≡ Some edge → get_or firsts k 0 < length edges
  pub asks : (j k : ℕ) (d e : Edge) → slice_get edges j ≡ Some d → slice_get edges k ≡ Some e
      → get_or firsts j 0 ≡ get_or firsts k 0 → pass.asks d ≡ pass.asks e
  pub says : (j k : ℕ) (d e : Edge) → slice_get edges j ≡ Some d → slice_get edges k ≡ Some e
      → get_or firsts j 0 ≡ get_or firsts k 0 → (ports : List P) → pass.says d ports ≡ pass.says e ports

-- whether an edge is marked
abbrev pub marked : List Bool → ℕ → Bool
marked marks k = get_or marks k false

-- the marks with these edges marked too
abbrev pub spread : List Bool → List ℕ → List Bool
spread marks [] = marks
spread marks (k ∷ ks) = spread (slice_set marks k true) ks

-- a marked edge whose port isn't known
abbrev pub is_wanted : {P : Type 0} → List Bool → List (Option P) → ℕ → Bool
is_wanted marks known k = marked marks k && not (keeps known k)

-- the marks of what an edge asks too, where it is marked and its port isn't known
abbrev pub gone_on : {P : Type 0} → List (Option P) → ℕ → List ℕ → List Bool → List Bool
gone_on known k asks marks = cond (is_wanted marks known k) (spread marks asks) marks

-- with each marked edge whose port isn't known, those are marked that are asked for it
abbrev pub GoesOn : {P : Type 0} → Pass P → List Edge → List (Option P) → List Bool → Type 0
GoesOn pass edges known marks =
    (k : ℕ) (edge : Edge) → slice_get edges k ≡ Some edge → marked marks k ≡ true → keeps known k ≡ false
    → (y : ℕ) → IsOneOf y (pass.asks edge) → marked marks y ≡ true

-- The marks are of these edges, and mark all of them whose ports aren't known.
pub record AreMarked {P : Type 0} (pass : Pass P) (edges : List Edge) (known : List (Option P)) (Own : ℕ → Type 0)
    (marks : List Bool) : Type 0 where
  pub long : length marks ≡ length edges
  pub own : (k : ℕ) → marked marks k ≡ true → Own k
  pub on : GoesOn pass edges known marks
  pub whole : (k : ℕ) → Own k → (marked marks k ≡ true) ⊎ (keeps known k ≡ true)

-- Edges with the same first edge.
abbrev pub SameFirst : List ℕ → ℕ → ℕ → Type 0
SameFirst firsts j k = get_or firsts j 0 ≡ get_or firsts k 0

-- Among the marked edges this one is the first that is refused, given what is known.
pub record StopsAt {P : Type 0} (pass : Pass P) (steps : List Step) (marks : List Bool) (known : List (Option P))
    (edge : Edge) (number : ℕ) : Type 0 where
  pub turn : ℕ
  pub refused : ℕ
  pub taken : slice_get steps turn ≡ Some (record { number = refused; edge = edge })
  pub is_marked : marked marks refused ≡ true
  pub before : (q : ℕ) (s : Step) → q < turn → slice_get steps q ≡ Some s → marked marks s.number ≡ true
      → keeps known s.number ≡ true
  pub asked : (y : ℕ) → IsOneOf y (pass.asks edge) → keeps known y ≡ true
  pub refuses : pass.says edge (known_of known (pass.asks edge)) ≡ Err number
