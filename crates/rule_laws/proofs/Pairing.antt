-- The edges that an edge asks: all on the other side of a nexus, and at another node the one with its port's number.
use Rattle.std.proofs.Common.{◌≡◌, ℕ, zero, suc, ◌+◌, ◌<◌, Bool, true, false, cond, ◌&&◌, ◌==◌, List, [], ◌∷◌, Some, refl, sym, ap, ◌∙◌, arith}
use Rattle.std.specs.Prelude.{slice_get}
use Rattle.std.proofs.lemmas.Bool.{eqb-true, eq-eqb}
use Rattle.dip_lists.specs.First.{places}
use Rattle.dip_graph.specs.declared.edges.Edge.{Edge}
use Rattle.dip_negotiate.specs.declared.steps.End.{End}
use Rattle.dip_negotiate.specs.Passes.{beside}
use Rattle.dip_negotiate.specs.Places.{belongs}

-- ---- tests of numbers

turned : (a b : ℕ) → (a == b) ≡ (b == a)
turned a b = at (a == b) (b == a) refl refl
  where
    at : (x y : Bool) → (a == b) ≡ x → (b == a) ≡ y → x ≡ y
    at true true p q = refl
    at false false p q = refl
    at true false p q = let e : (b == a) ≡ true = eq-eqb b a (sym (eqb-true a b p)) in absurd cc
    at false true p q = let e : (a == b) ≡ true = eq-eqb a b (sym (eqb-true b a q)) in absurd cc

others : (a b : ℕ) → (a ≡ b → ⊥) → (a == b) ≡ false
others a b h = at (a == b) refl
  where
    at : (x : Bool) → (a == b) ≡ x → x ≡ false
    at true e = absurd (h (eqb-true a b e))
    at false e = refl

-- tests that agree hold at the same places
pub same_places : {A : Type 0} (test other : A → Bool) (from : ℕ) (xs : List A) → ((x : A) → test x ≡ other x) → places (λ number x. test x) from xs ≡ places (λ number x. other x) from xs
same_places test other from [] h = refl
same_places test other from (x ∷ xs) h = rw (h x, same_places test other (from + 1) xs h) refl

module _ (side : Edge → End) (node : ℕ) where
  -- the edge has this end at the node
  abbrev pub at_node : Edge → Bool
  at_node edge = (side edge).node == node

  -- the edges at the node are numbered from this port on
  abbrev pub AreNumbered : ℕ → List Edge → Type 0
  AreNumbered port [] = Unit {0}
  AreNumbered port (edge ∷ edges) = (at_node edge ≡ true → (side edge).port ≡ port) × AreNumbered (cond (at_node edge) (port + 1) port) edges

  -- the edges at the node whose end there belongs to this one
  abbrev pub joined : Bool → End → ℕ → List Edge → List ℕ
  joined nexus own from edges = places (λ number edge. belongs nexus own (side edge)) from edges

  -- the edges at the node
  abbrev pub here : ℕ → List Edge → List ℕ
  here from edges = places (λ number edge. at_node edge) from edges

  pub at_nexus : (own : End) → own.node ≡ node → (from : ℕ) (edges : List Edge) → joined true own from edges ≡ here from edges
  at_nexus own is from edges = same_places (λ edge. belongs true own (side edge)) at_node from edges (λ edge. alone (own.node == (side edge).node) ∙ turned own.node (side edge).node ∙ ap (λ n. (side edge).node == n) is)
    where
      alone : (b : Bool) → (b && true) ≡ b
      alone true = refl
      alone false = refl

  module _ (own : End) (is : own.node ≡ node) where
    elsewhere : (edge : Edge) → at_node edge ≡ false → belongs false own (side edge) ≡ false
    elsewhere edge q = ap (λ b. b && (own.port == (side edge).port)) (turned own.node (side edge).node ∙ ap (λ n. (side edge).node == n) is ∙ q)

    at_port : (edge : Edge) (b : Bool) → at_node edge ≡ true → (own.port == (side edge).port) ≡ b → belongs false own (side edge) ≡ b
    at_port edge b q p = ap (λ x. x && (own.port == (side edge).port)) (turned own.node (side edge).node ∙ ap (λ n. (side edge).node == n) is ∙ q) ∙ p

    -- later edges at the node have later ports
    none_later : (port from : ℕ) (edges : List Edge) → AreNumbered port edges → own.port < port → joined false own from edges ≡ []
    none_later port from [] n l = refl
    none_later port from (edge ∷ edges) n l = at (at_node edge) refl n.0 n.1 (λ p m k. none_later p (from + 1) edges m k)
      where
        at : (b : Bool) → at_node edge ≡ b → (b ≡ true → (side edge).port ≡ port) → AreNumbered (cond b (port + 1) port) edges
            → ((p : ℕ) → AreNumbered p edges → own.port < p → joined false own (from + 1) edges ≡ []) → joined false own from (edge ∷ edges) ≡ []
        at true q e m f =
            let p : (side edge).port ≡ port = e refl in
            let no : (own.port ≡ (side edge).port → ⊥) = λ same. absurd (omega arith) in
            let out : belongs false own (side edge) ≡ false = at_port edge false q (others own.port (side edge).port no) in
            rw out (f (port + 1) m (omega arith))
        at false q e m f = rw (elsewhere edge q) (f port m l)

    pub at_adapter : (port i from : ℕ) (edges : List Edge) → AreNumbered port edges → own.port ≡ port + i → joined false own from edges ≡ beside (slice_get (here from edges) i) []
    at_adapter port i from [] n e = refl
    at_adapter port i from (edge ∷ edges) n e = at (at_node edge) refl n.0 n.1 i e (λ p j m k. at_adapter p j (from + 1) edges m k)
      where
        at : (b : Bool) → at_node edge ≡ b → (b ≡ true → (side edge).port ≡ port) → AreNumbered (cond b (port + 1) port) edges → (i : ℕ) → own.port ≡ port + i
            → ((p j : ℕ) → AreNumbered p edges → own.port ≡ p + j → joined false own (from + 1) edges ≡ beside (slice_get (here (from + 1) edges) j) [])
            → joined false own from (edge ∷ edges) ≡ beside (slice_get (cond b (from ∷ here (from + 1) edges) (here (from + 1) edges)) i) []
        at true q t m zero e f =
            let p : (side edge).port ≡ port = t refl in
            let in_ : belongs false own (side edge) ≡ true = at_port edge true q (eq-eqb own.port (side edge).port (omega arith)) in
            rw in_ (ap (λ ks. from ∷ ks) (none_later (port + 1) (from + 1) edges m (omega arith)))
        at true q t m (suc i) e f =
            let p : (side edge).port ≡ port = t refl in
            let no : (own.port ≡ (side edge).port → ⊥) = λ same. absurd (omega arith) in
            let out : belongs false own (side edge) ≡ false = at_port edge false q (others own.port (side edge).port no) in
            rw out (f (port + 1) i m (omega arith))
        at false q t m i e f = rw (elsewhere edge q) (f port i m e)

  -- an edge at the node stands there at the place of its port
  pub place_of_edge : (port from : ℕ) (edges : List Edge) → AreNumbered port edges → (k : ℕ) (edge : Edge) → slice_get edges k ≡ Some edge → at_node edge ≡ true
      → (i : ℕ) × ((side edge).port ≡ port + i) × (slice_get (here from edges) i ≡ Some (from + k))
  place_of_edge port from [] n k edge is t = absurd cc
  place_of_edge port from (e ∷ edges) n k edge is t = at (at_node e) refl n.0 n.1 k is (λ p m j x. place_of_edge p (from + 1) edges m j edge x t)
    where
      at : (b : Bool) → at_node e ≡ b → (b ≡ true → (side e).port ≡ port) → AreNumbered (cond b (port + 1) port) edges → (k : ℕ) → slice_get (e ∷ edges) k ≡ Some edge
          → ((p : ℕ) → AreNumbered p edges → (j : ℕ) → slice_get edges j ≡ Some edge → (i : ℕ) × ((side edge).port ≡ p + i) × (slice_get (here (from + 1) edges) i ≡ Some (from + 1 + j)))
          → (i : ℕ) × ((side edge).port ≡ port + i) × (slice_get (cond b (from ∷ here (from + 1) edges) (here (from + 1) edges)) i ≡ Some (from + k))
      at true q p m zero is f =
          let same : e ≡ edge = cc in
          let z : port ≡ port + 0 = omega arith in
          let y : from ≡ from + 0 = omega arith in
          (0, ap (λ (x : Edge). (side x).port) (sym same) ∙ p refl ∙ z, ap Some y)
      at false q p m zero is f = let same : e ≡ edge = cc in let z : true ≡ false = sym t ∙ ap at_node (sym same) ∙ q in absurd cc
      at true q p m (suc k) is f =
          let g = f (port + 1) m k is in
          let z : port + 1 + g.0 ≡ port + suc g.0 = omega arith in
          let y : from + 1 + k ≡ from + suc k = omega arith in
          (suc g.0, g.1 ∙ z, g.2 ∙ ap Some y)
      at false q p m (suc k) is f =
          let g = f port m k is in
          let y : from + 1 + k ≡ from + suc k = omega arith in
          (g.0, g.1, g.2 ∙ ap Some y)

  -- the edge at a place of the node
  pub record IsHere (port from : ℕ) (edges : List Edge) (i k : ℕ) : Type 0 where
    pub behind : ℕ
    pub edge : Edge
    pub number : k ≡ from + behind
    pub is : slice_get edges behind ≡ Some edge
    pub at : (side edge).node ≡ node
    pub on : (side edge).port ≡ port + i

  pub edge_of_place : (port from : ℕ) (edges : List Edge) → AreNumbered port edges → (i k : ℕ) → slice_get (here from edges) i ≡ Some k → IsHere port from edges i k
  edge_of_place port from [] n i k is = absurd cc
  edge_of_place port from (e ∷ edges) n i k is = at (at_node e) refl n.0 n.1 i is (λ p m j x. edge_of_place p (from + 1) edges m j k x)
    where
      later : (p j i : ℕ) → p + j ≡ port + i → IsHere p (from + 1) edges j k → IsHere port from (e ∷ edges) i k
      later p j i e h = let n = h.number in record { behind = suc h.behind; edge = h.edge; number = omega arith; is = h.is; at = h.at; on = h.on ∙ e }

      at : (b : Bool) → at_node e ≡ b → (b ≡ true → (side e).port ≡ port) → AreNumbered (cond b (port + 1) port) edges → (i : ℕ)
          → slice_get (cond b (from ∷ here (from + 1) edges) (here (from + 1) edges)) i ≡ Some k
          → ((p : ℕ) → AreNumbered p edges → (j : ℕ) → slice_get (here (from + 1) edges) j ≡ Some k → IsHere p (from + 1) edges j k) → IsHere port from (e ∷ edges) i k
      at true q p m zero is f =
          let same : from ≡ k = cc in
          let z : port ≡ port + 0 = omega arith in
          record { behind = 0; edge = e; number = omega arith; is = refl; at = eqb-true (side e).node node q; on = p refl ∙ z }
      at true q p m (suc i) is f = later (port + 1) i (suc i) (omega arith) (f (port + 1) m i is)
      at false q p m i is f = later port i i refl (f port m i is)
