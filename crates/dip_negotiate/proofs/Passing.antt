-- A pass over all steps gives what is known of all edges, and stops where a demand of all is refused.
use Rattle.std.proofs.Common.{◌≡◌, ℕ, zero, suc, ◌+◌, ◌-◌, ◌≤◌, ◌<◌, Bool, true, false, List, [], ◌∷◌, length, replicate, refl, sym, ap, ◌∙◌, subst, arith, inl, inr, Option, Some, None, Result, Ok, Err}
use Rattle.std.specs.Prelude.{slice_get, slice_set}
use Rattle.std.proofs.lemmas.List.{length-map, length-replicate, length-set, get_or-replicate}
use Rattle.std.proofs.lemmas.Option.{slice_get_within}
use Rattle.std.proofs.lemmas.Bool.{cases_eq, cases_lt}
use Rattle.dip_graph.specs.declared.edges.Edge.{Edge}
use Rattle.dip_negotiate.specs.declared.steps.Step.{Step}
use Rattle.dip_negotiate.specs.Passes.{Pass, Refusal, refusal, stated, go_on, run, Holds}
use Rattle.dip_negotiate.specs.Demands.{AllKept, kept_ports, IsTakenBefore, IsKnown}
use Rattle.dip_negotiate.specs.Turns.{GoesOn, InTurn, marked, StopsAt}
use Rattle.dip_negotiate.proofs.Lookups.{get_set, get_set_other, same_picked, same_ports}
use Rattle.dip_negotiate.proofs.Needed.{same_step}
use Rattle.dip_negotiate.proofs.Only.{gathered_all, holds_known, picked_known, ports_of}

module _ {P : Type 0} (pass : Pass P) (edges : List Edge) (steps : List Step) (turns : InTurn pass edges steps) (d : List P) where
  -- the ports of all edges that are taken before a turn are these
  abbrev Agree : ℕ → List P → Type 0
  Agree p ports = (k : ℕ) → IsTakenBefore steps p k → slice_get ports k ≡ slice_get d k

  abbrev Rest : ℕ → List Step → Type 0
  Rest p rest = (q : ℕ) → slice_get rest q ≡ slice_get steps (p + q)

  rest_more : (p : ℕ) (t : Step) (rest : List Step) → Rest p (t ∷ rest) → Rest (p + 1) rest
  rest_more p t rest h q = h (suc q) ∙ ap (slice_get steps) (moved q)
    where
      moved : (q : ℕ) → p + suc q ≡ p + 1 + q
      moved q = omega arith

  rest_here : (p : ℕ) (t : Step) (rest : List Step) → Rest p (t ∷ rest) → slice_get steps p ≡ Some t
  rest_here p t rest h = ap (slice_get steps) same ∙ sym (h 0)
    where
      same : p ≡ p + 0
      same = omega arith

  same_stated : (p : ℕ) (t : Step) → slice_get steps p ≡ Some t → (ports : List P) → Agree p ports → stated pass ports t.edge ≡ stated pass d t.edge
  same_stated p t is ports g = ap (pass.says t.edge) (same_picked ports d (pass.asks t.edge) (λ y i. g y (turns.behind p t is y i)))

  agree_more : (p : ℕ) (t : Step) → slice_get steps p ≡ Some t → (ports : List P) → length ports ≡ length edges → Agree p ports → (port : P) → slice_get d t.number ≡ Some port
      → Agree (p + 1) (slice_set ports t.number port)
  agree_more p t is ports long g port e k b = elim (cases_eq k t.number) [
    | inl q ↦ subst (λ x. slice_get (slice_set ports t.number port) x ≡ slice_get d x) (sym q) (get_set ports t.number port within ∙ sym e)
    | inr n ↦ get_set_other ports t.number k port n ∙ g k (b.0, b.1, low n, b.3, b.4)
  ]
    where
      within : t.number < length ports
      within = subst (λ n. t.number < n) (sym long) (slice_get_within edges t.number t.edge (turns.sound p t is))

      here : b.0 ≡ p → k ≡ t.number
      here q = sym b.4 ∙ ap (λ (s : Step). s.number) (same_step b.1 t (sym b.3 ∙ ap (slice_get steps) q ∙ is))

      low : (k ≡ t.number → ⊥) → b.0 < p
      low n = elim (cases_eq b.0 p) [ inl q ↦ absurd (n (here q)) | inr m ↦ less b.0 b.2 m ]
        where
          less : (r : ℕ) → r < p + 1 → (r ≡ p → ⊥) → r < p
          less r l m = omega arith

  step_on : (t : Step) (rest : List Step) (ports : List P) (port : P) (r : Result (List P) Refusal) → stated pass ports t.edge ≡ Ok port → run pass (slice_set ports t.number port) rest ≡ r
      → run pass ports (t ∷ rest) ≡ r
  step_on t rest ports port r e h = ap (λ a. go_on t.edge a (λ x. run pass (slice_set ports t.number x) rest)) e ∙ h

  pub run_all : length d ≡ length edges → ((q : ℕ) (s : Step) → slice_get steps q ≡ Some s → Holds pass d s.number s.edge)
      → (p : ℕ) (rest : List Step) → Rest p rest → (ports : List P) → length ports ≡ length edges → Agree p ports → run pass ports rest ≡ Ok d
  run_all long hold p [] h ports n g = ap Ok (same_ports ports d (n ∙ sym long) (λ k l. at k (edge_of edges k (subst (λ m. k < m) n l))))
    where
      edge_of : (es : List Edge) (k : ℕ) → k < length es → (edge : Edge) × (slice_get es k ≡ Some edge)
      edge_of [] k l = absurd (omega arith)
      edge_of (e ∷ es) zero l = (e, refl)
      edge_of (e ∷ es) (suc k) l = edge_of es k (omega arith)

      none : (q : ℕ) (s : Step) → slice_get steps q ≡ Some s → p ≤ q → ⊥
      none q s is l = no (split q l)
        where
          split : (q : ℕ) → p ≤ q → (j : ℕ) × (q ≡ p + j)
          split q l = (q - p, omega arith)

          no : ((j : ℕ) × (q ≡ p + j)) → ⊥
          no f = let z : None ≡ Some s = h f.0 ∙ ap (slice_get steps) (sym f.1) ∙ is in cc

      at : (k : ℕ) → ((edge : Edge) × (slice_get edges k ≡ Some edge)) → slice_get ports k ≡ slice_get d k
      at k f =
          let w = turns.whole k f.0 f.1 in
          g k (w.0, record { number = k; edge = f.0 }, elim (cases_lt w.0 p) [ inl l ↦ l | inr m ↦ absurd (none w.0 (record { number = k; edge = f.0 }) w.1 m) ], w.1, refl)
  run_all long hold p (t ∷ rest) h ports n g =
      let is = rest_here p t rest h in
      let o = hold p t is in
      step_on t rest ports o.port (Ok d) (same_stated p t is ports g ∙ o.is)
      (run_all long hold (p + 1) rest (rest_more p t rest h) (slice_set ports t.number o.port) (length-set ports t.number o.port ∙ n) (agree_more p t is ports n g o.port o.here))

  module _ (turn number : ℕ) (s : Step) (taken : slice_get steps turn ≡ Some s) (before : (q : ℕ) (t : Step) → q < turn → slice_get steps q ≡ Some t → Holds pass d t.number t.edge)
      (refuses : stated pass d s.edge ≡ Err number) where
    pub run_stops : (p : ℕ) → p ≤ turn → (rest : List Step) → Rest p rest → (ports : List P) → length ports ≡ length edges → Agree p ports → run pass ports rest ≡ Err (refusal s.edge number)
    run_stops p l [] h ports n g = absurd (no (split turn l))
      where
        split : (q : ℕ) → p ≤ q → (j : ℕ) × (q ≡ p + j)
        split q l = (q - p, omega arith)

        no : ((j : ℕ) × (turn ≡ p + j)) → ⊥
        no f = let z : None ≡ Some s = h f.0 ∙ ap (slice_get steps) (sym f.1) ∙ taken in cc
    run_stops p l (t ∷ rest) h ports n g =
        let is = rest_here p t rest h in
        elim (cases_eq p turn) [
          | inl e ↦ (let same : t ≡ s = same_step t s (sym is ∙ ap (slice_get steps) e ∙ taken) in
              let said : stated pass ports t.edge ≡ Err number = same_stated p t is ports g ∙ ap (λ (x : Step). stated pass d x.edge) same ∙ refuses in
              ap (λ a. go_on t.edge a (λ x. run pass (slice_set ports t.number x) rest)) said ∙ ap (λ (x : Step). Err (refusal x.edge number)) same)
          | inr m ↦ (let o = before p t (less p l m) is in
              step_on t rest ports o.port (Err (refusal s.edge number)) (same_stated p t is ports g ∙ o.is)
              (run_stops (p + 1) (next p l m) rest (rest_more p t rest h) (slice_set ports t.number o.port) (length-set ports t.number o.port ∙ n) (agree_more p t is ports n g o.port o.here)))
        ]
      where
        less : (p : ℕ) → p ≤ turn → (p ≡ turn → ⊥) → p < turn
        less p l m = omega arith

        next : (p : ℕ) → p ≤ turn → (p ≡ turn → ⊥) → p + 1 ≤ turn
        next p l m = omega arith

module _ {P : Type 0} (pass : Pass P) (edges : List Edge) (steps : List Step) (turns : InTurn pass edges steps) (blank : P) (known : List (Option P)) (is : IsKnown pass edges known) where
  all_true : (n k : ℕ) (ms : List Bool) → ms ≡ replicate n true → k < n → marked ms k ≡ true
  all_true n k ms q l = subst (λ (x : List Bool). marked x k ≡ true) (sym q) (get_or-replicate n k true false l)

  in_edges : (q : ℕ) (s : Step) → slice_get steps q ≡ Some s → s.number < length edges
  in_edges q s h = slice_get_within edges s.number s.edge (turns.sound q s h)

  none_yet : (k : ℕ) → IsTakenBefore steps 0 k → ⊥
  none_yet k b = low b.0 b.2
    where
      low : (q : ℕ) → q < 0 → ⊥
      low q l = omega arith

  whole_rest : (q : ℕ) → slice_get steps q ≡ slice_get steps (0 + q)
  whole_rest q = let e : q ≡ 0 + q = omega arith in ap (slice_get steps) e

  pub all_gathered : (ms : List Bool) → ms ≡ replicate (length edges) true → AllKept (λ k. marked ms k ≡ true) known → run pass (replicate (length edges) blank) steps ≡ Ok (kept_ports known)
  all_gathered ms q a =
      run_all pass edges steps turns (ports_of blank known) (length-map known _ ∙ is.long)
      (λ p s h. holds_known pass edges steps turns known is blank s.number s.edge (turns.sound p s h) (a s.number (all_true (length edges) s.number ms q (in_edges p s h))))
      0 steps whole_rest (replicate (length edges) blank) (length-replicate (length edges) blank) (λ k b. absurd (none_yet k b))
      ∙ ap Ok (sym (gathered_all blank known (λ k l. a k (all_true (length edges) k ms q (subst (λ n. k < n) is.long l)))))

  pub all_stopped : (ms : List Bool) → ms ≡ replicate (length edges) true → (edge : Edge) (n : ℕ) → StopsAt pass steps ms known edge n
      → run pass (replicate (length edges) blank) steps ≡ Err (refusal edge n)
  all_stopped ms q edge n st =
      run_stops pass edges steps turns (ports_of blank known) st.turn n (record { number = st.refused; edge = edge }) st.taken
      (λ p s l h. holds_known pass edges steps turns known is blank s.number s.edge (turns.sound p s h) (st.before p s l h (all_true (length edges) s.number ms q (in_edges p s h))))
      (ap (pass.says edge) (picked_known blank known (pass.asks edge) st.asked) ∙ st.refuses)
      0 (omega arith) steps whole_rest (replicate (length edges) blank) (length-replicate (length edges) blank) (λ k b. absurd (none_yet k b))

  pub all_go_on : (ms : List Bool) → ms ≡ replicate (length edges) true → GoesOn pass edges known ms
  all_go_on ms q k edge h m f y j =
      let w = turns.whole k edge h in
      let b = turns.behind w.0 (record { number = k; edge = edge }) w.1 y j in
      all_true (length edges) y ms q (subst (λ z. z < length edges) b.4 (in_edges b.0 b.1 b.3))
