-- What is known is the only solution of the edges on which it depends, and what stops a demand is the first refusal.
use Rattle.std.proofs.Common.{◌≡◌, ℕ, zero, suc, ◌+◌, ◌<◌, Bool, true, List, [], ◌∷◌, length, map, get_or, refl, sym, ap, ◌∙◌, subst, arith, ◌⊎◌, inl, inr, Option, Some, None, Result, Ok, Err}
use Rattle.std.specs.Prelude.{slice_get, is_some, unwrap_or, nat_lt as ltb}
use Rattle.std.proofs.lemmas.Option.{slice_get_within}
use Rattle.std.proofs.lemmas.Bool.{ltb-true, lt-ltb}
use Rattle.dip_graph.specs.declared.edges.Edge.{Edge}
use Rattle.dip_negotiate.specs.declared.steps.Step.{Step}
use Rattle.dip_negotiate.specs.Passes.{Pass, beside, picked, stated, Holds}
use Rattle.dip_negotiate.specs.Demands.{AllKept, PortDependsOn, kept_ports, IsOneOf, IsTakenBefore, IsClosed, IsFirstRefusal, IsKnown, IsPortOf, keeps, KeepsOnly, known_of, OnlySolvesFor, SolvesFor, Stays}
use Rattle.dip_negotiate.specs.Turns.{AreMarked, InTurn, marked, StopsAt}
use Rattle.dip_negotiate.proofs.Lookups.{same_picked}
use Rattle.dip_negotiate.proofs.Needed.{asked_by, not_both}
use Rattle.dip_negotiate.proofs.Asked.{keeps_port, keeps_still, port_kept}

same_ok : {P : Type 0} (x y : P) → ◌≡◌ {A = Result P ℕ} (Ok x) (Ok y) → x ≡ y
same_ok x y e = cc

pub no_ok : {P : Type 0} (r : Result P ℕ) (port : P) (n : ℕ) → r ≡ Ok port → r ≡ Err n → ⊥
no_ok r port n a b = absurd cc

same_edge : (d e : Edge) → ◌≡◌ {A = Option Edge} (Some d) (Some e) → d ≡ e
same_edge d e q = cc

-- ---- known ports as ports of all edges

-- a port for each edge, any where none is known
abbrev pub ports_of : {P : Type 0} → P → List (Option P) → List P
ports_of blank known = map (λ o. unwrap_or o blank) known

pub port_in : {P : Type 0} (blank : P) (known : List (Option P)) (k : ℕ) (port : P) → get_or known k None ≡ Some port → slice_get (ports_of blank known) k ≡ Some port
port_in blank [] k port e = absurd cc
port_in blank (o ∷ known) zero port e = ap (λ x. Some (unwrap_or x blank)) e
port_in blank (o ∷ known) (suc k) port e = port_in blank known k port e

pub picked_known : {P : Type 0} (blank : P) (known : List (Option P)) (ys : List ℕ) → ((y : ℕ) → IsOneOf y ys → keeps known y ≡ true) → picked (ports_of blank known) ys ≡ known_of known ys
picked_known blank known [] h = refl
picked_known blank known (y ∷ ys) h =
    let p = port_kept known y (h y (inl refl)) in
    ap (λ o. beside o (picked (ports_of blank known) ys)) (port_in blank known y p.0 p.1 ∙ sym p.1) ∙ ap (λ xs. beside (get_or known y None) xs) (picked_known blank known ys (λ z i. h z (inr i)))

pub gathered_all : {P : Type 0} (blank : P) (known : List (Option P)) → ((k : ℕ) → k < length known → keeps known k ≡ true) → kept_ports known ≡ ports_of blank known
gathered_all blank [] h = refl
gathered_all {P = P} blank (o ∷ known) h = at o refl ∙ ap (λ xs. unwrap_or o blank ∷ xs) (gathered_all blank known (λ k l. h (suc k) (omega arith)))
  where
    none : (x : Option P) → x ≡ None → is_some x ≡ true → ⊥
    none x e t = not_both (is_some x) t (ap is_some e)

    at : (x : Option P) → o ≡ x → kept_ports (o ∷ known) ≡ unwrap_or o blank ∷ kept_ports known
    at (Some port) e = ap (λ y. beside y (kept_ports known)) e ∙ ap (λ y. unwrap_or y blank ∷ kept_ports known) (sym e)
    at None e = absurd (none o e (h 0 (omega arith)))

-- a set of edges that has, with each of them, those that are asked for its port
abbrev pub IsWhole : {P : Type 0} → Pass P → List Edge → (ℕ → Type 0) → Type 0
IsWhole pass edges Own = (k : ℕ) (edge : Edge) → slice_get edges k ≡ Some edge → Own k → (y : ℕ) → IsOneOf y (pass.asks edge) → Own y

module _ {P : Type 0} (pass : Pass P) (edges : List Edge) (steps : List Step) (turns : InTurn pass edges steps) where
  pub dependent : (i : ℕ) → IsWhole pass edges (PortDependsOn pass edges i)
  dependent i k edge is d y j = asked_by pass edges steps turns [] i k edge is d y j

  pub lower : (Own : ℕ → Type 0) → IsWhole pass edges Own → (turn : ℕ) → IsWhole pass edges (λ k. Own k × IsTakenBefore steps turn k)
  lower Own whole turn k edge is o y j =
      let b = o.1 in
      let same : b.1.edge ≡ edge = same_edge b.1.edge edge (sym (turns.sound b.0 b.1 b.3) ∙ ap (slice_get edges) b.4 ∙ is) in
      let f = turns.behind b.0 b.1 b.3 y (subst (λ (e : Edge). IsOneOf y (pass.asks e)) (sym same) j) in
      (whole k edge is o.0 y j, (f.0, f.1, less f.0 b.0 f.2 b.2, f.3, f.4))
    where
      less : (r q : ℕ) → r < q → q < turn → r < turn
      less r q a b = omega arith

  module _ (Own : ℕ → Type 0) (whole : IsWhole pass edges Own) (a b : List P) (sa : SolvesFor pass edges Own a) (sb : SolvesFor pass edges Own b) where
    below : (n q : ℕ) (s : Step) → q < n → slice_get steps q ≡ Some s → Own s.number → slice_get a s.number ≡ slice_get b s.number
    below zero q s l is o = absurd (omega arith)
    below (suc n) q s l is o = at (λ r t m it ot. below n r t m it ot)
      where
        at : ((r : ℕ) (t : Step) → r < n → slice_get steps r ≡ Some t → Own t.number → slice_get a t.number ≡ slice_get b t.number) → slice_get a s.number ≡ slice_get b s.number
        at f =
            let ie = turns.sound q s is in
            let ha = sa s.number s.edge ie o in
            let hb = sb s.number s.edge ie o in
            let m : picked a (pass.asks s.edge) ≡ picked b (pass.asks s.edge) = same_picked a b (pass.asks s.edge) (λ y i.
            let g = turns.behind q s is y i in
            ap (slice_get a) (sym g.4) ∙ f g.0 g.1 (less g.0 g.2) g.3 (subst Own (sym g.4) (whole s.number s.edge ie o y i)) ∙ ap (slice_get b) g.4) in
            let v : ha.port ≡ hb.port = same_ok ha.port hb.port (sym ha.is ∙ ap (pass.says s.edge) m ∙ hb.is) in
            ha.here ∙ ap Some v ∙ sym hb.here
          where
            less : (r : ℕ) → r < q → r < n
            less r x = omega arith

    pub agree : (k : ℕ) (edge : Edge) → slice_get edges k ≡ Some edge → Own k → slice_get a k ≡ slice_get b k
    agree k edge is o = let w = turns.whole k edge is in below (w.0 + 1) w.0 (record { number = k; edge = edge }) (omega arith) w.1 o

  module _ (known : List (Option P)) (is : IsKnown pass edges known) (blank : P) where
    pub holds_known : (k : ℕ) (edge : Edge) → slice_get edges k ≡ Some edge → keeps known k ≡ true → Holds pass (ports_of blank known) k edge
    holds_known k edge ie h =
        let p = port_kept known k h in
        record {
          port = p.0;
          here = port_in blank known k p.0 p.1;
          is = ap (pass.says edge) (picked_known blank known (pass.asks edge) (λ y i. is.closed k edge ie h y i)) ∙ is.holds k edge p.0 ie p.1;
        }

    pub only_known : (Own : ℕ → Type 0) → IsWhole pass edges Own → AllKept Own known → OnlySolvesFor pass edges Own (ports_of blank known)
    only_known Own whole a =
        let s : SolvesFor pass edges Own (ports_of blank known) = λ k edge ie o. holds_known k edge ie (a k o) in
        record { solves = s; only = λ others t k edge ie o. agree Own whole others (ports_of blank known) t s k edge ie o }

    pub refused_first : (Own : ℕ → Type 0) → IsWhole pass edges Own → (ms : List Bool) (edge : Edge) (n : ℕ) → StopsAt pass steps ms known edge n
        → ((k : ℕ) → marked ms k ≡ true → Own k) → ((k : ℕ) → Own k → (marked ms k ≡ true) ⊎ (keeps known k ≡ true)) → IsFirstRefusal pass edges steps Own edge n
    refused_first Own whole ms edge n st own all = record {
      turn = st.turn;
      refused = st.refused;
      taken = st.taken;
      own = own st.refused st.is_marked;
      ports = ports_of blank known;
      before = s;
      refuses = refuses;
      unsolved = λ others t.
          let h = t st.refused edge at_edge (own st.refused st.is_marked) in
          no_ok (stated pass others edge) h.port n h.is (refuses others (λ k d id o. t k d id o.0));
    }
      where
        at_edge : slice_get edges st.refused ≡ Some edge
        at_edge = turns.sound st.turn (record { number = st.refused; edge = edge }) st.taken

        s : SolvesFor pass edges (λ k. Own k × IsTakenBefore steps st.turn k) (ports_of blank known)
        s k d id o = holds_known k d id (elim (all k o.0) [
          | inl m ↦ (let b = o.1 in subst (λ z. keeps known z ≡ true) b.4 (st.before b.0 b.1 b.2 b.3 (subst (λ z. marked ms z ≡ true) (sym b.4) m)))
          | inr t ↦ t
        ])

        refuses : (others : List P) → SolvesFor pass edges (λ k. Own k × IsTakenBefore steps st.turn k) others → stated pass others edge ≡ Err n
        refuses others t =
            ap (pass.says edge) (same_picked others (ports_of blank known) (pass.asks edge) (λ y i.
            let b = turns.behind st.turn (record { number = st.refused; edge = edge }) st.taken y i in
            agree (λ k. Own k × IsTakenBefore steps st.turn k) (lower Own whole st.turn) others (ports_of blank known) t s y b.1.edge
            (subst (λ z. slice_get edges z ≡ Some b.1.edge) b.4 (turns.sound b.0 b.1 b.3))
            (whole st.refused edge at_edge (own st.refused st.is_marked) y i, (b.0, b.1, b.2, b.3, b.4))))
            ∙ ap (pass.says edge) (picked_known blank known (pass.asks edge) st.asked) ∙ st.refuses

  -- ---- a demand

  pub depended_kept : (i : ℕ) (known : List (Option P)) → IsKnown pass edges known → keeps known i ≡ true → AllKept (PortDependsOn pass edges i) known
  depended_kept i known is h k d = d (keeps known) is.closed h

  -- an edge on which one depends is an edge
  pub depended_within : (i : ℕ) → i < length edges → (k : ℕ) → PortDependsOn pass edges i k → k < length edges
  depended_within i l k d = ltb-true k (length edges) (d (λ j. ltb j (length edges)) closed (lt-ltb i (length edges) l))
    where
      closed : IsClosed pass edges (λ j. ltb j (length edges))
      closed j edge is h y m =
          let w = turns.whole j edge is in
          let b = turns.behind w.0 (record { number = j; edge = edge }) w.1 y m in
          lt-ltb y (length edges) (subst (λ z. z < length edges) b.4 (slice_get_within edges b.1.number b.1.edge (turns.sound b.0 b.1 b.3)))

  pub itself : (i : ℕ) → PortDependsOn pass edges i i
  itself i = λ has c h. h

  pub port_of : (i : ℕ) (known : List (Option P)) (port : P) → IsKnown pass edges known → get_or known i None ≡ Some port → IsPortOf pass edges i port
  port_of i known port is e = record {
    ports = ports_of port known;
    only = only_known known is port (PortDependsOn pass edges i) (dependent i) (depended_kept i known is (keeps_port known i port e));
    here = port_in port known i port e;
  }

  module _ (i : ℕ) (old new : List (Option P)) (ms : List Bool) (m : AreMarked pass edges old (PortDependsOn pass edges i) ms) where
    pub only_depended : (Share : ℕ → ℕ → Type 0) → KeepsOnly Share (λ k. marked ms k ≡ true) old new → KeepsOnly Share (PortDependsOn pass edges i) old new
    only_depended Share o k h = elim (o k h) [ inl t ↦ inl t | inr f ↦ inr (f.0, m.own f.0 f.1, f.2) ]

    pub demand_refused : P → IsKnown pass edges new → Stays old new → (edge : Edge) (n : ℕ) → StopsAt pass steps ms new edge n → IsFirstRefusal pass edges steps (PortDependsOn pass edges i) edge n
    demand_refused blank is st edge n s = refused_first new is blank (PortDependsOn pass edges i) (dependent i) ms edge n s m.own
        (λ k o. elim (m.whole k o) [ inl x ↦ inl x | inr t ↦ inr (keeps_still old new st k t) ])

    pub demanded : Stays old new → AllKept (λ k. marked ms k ≡ true) new → AllKept (PortDependsOn pass edges i) new
    demanded st a k o = elim (m.whole k o) [ inl x ↦ a k x | inr t ↦ keeps_still old new st k t ]
