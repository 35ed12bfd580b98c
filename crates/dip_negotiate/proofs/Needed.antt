-- The edges that a demand needs.
use Rattle.std.proofs.Common.{◌≡◌, ℕ, ◌+◌, ◌-◌, ◌<◌, ◌≤◌, Bool, true, false, not, cond, ◌&&◌, ◌||◌, List, length, replicate, get_or, refl, sym, ap, ◌∙◌, subst, arith, ◌⊎◌, inl, inr, Option, Some}
use Rattle.std.specs.Prelude.{slice_set, slice_get}
use Rattle.std.proofs.lemmas.List.{get_or-set_same, get_or-replicate, get_or_past, length-set, length-replicate}
use Rattle.std.proofs.lemmas.Option.{slice_get_within, slice_get-get_or}
use Rattle.std.proofs.lemmas.Bool.{cases_eq, cases_lt}
use Rattle.dip_graph.specs.declared.edges.Edge.{Edge}
use Rattle.dip_negotiate.specs.declared.steps.Step.{Step}
use Rattle.dip_negotiate.specs.Passes.{Pass}
use Rattle.dip_negotiate.specs.Demands.{PortDependsOn, IsOneOf, IsClosed, keeps}
use Rattle.dip_negotiate.specs.Turns.{AreMarked, GoesOn, gone_on, InTurn, is_wanted, marked, spread}
use Rattle.dip_negotiate.proofs.Marks.{AreWithin, set_cases, spread_cases, spread_keeps, spread_length, spread_marks}

pub not_both : (b : Bool) → b ≡ true → b ≡ false → ⊥
not_both true t f = cc
not_both false t f = cc

pub either : (a b : Bool) → (a || b) ≡ true → (a ≡ true) ⊎ (b ≡ true)
either true b h = inl refl
either false b h = inr h

or_left : (a b : Bool) → a ≡ true → (a || b) ≡ true
or_left true b h = refl
or_left false b h = absurd (not_both false h refl)

or_right : (a b : Bool) → b ≡ true → (a || b) ≡ true
or_right true b h = refl
or_right false b h = h

pub true_or_false : (b : Bool) → (b ≡ true) ⊎ (b ≡ false)
true_or_false true = inl refl
true_or_false false = inr refl

pub and_left : (a b : Bool) → (a && b) ≡ true → a ≡ true
and_left true b h = refl
and_left false b h = absurd (not_both false h refl)

pub and_right : (a b : Bool) → (a && not b) ≡ true → b ≡ false
and_right true false h = refl
and_right true true h = absurd (not_both false h refl)
and_right false b h = absurd (not_both false h refl)

pub wanted : (a b : Bool) → a ≡ true → b ≡ false → (a && not b) ≡ true
wanted true false h g = refl
wanted false b h g = absurd (not_both false h refl)
wanted true true h g = absurd (not_both true refl g)

none_marked : (n k : ℕ) → marked (replicate n false) k ≡ true → ⊥
none_marked n k h = elim (cases_lt k n) [
  | inl l ↦ not_both (marked (replicate n false) k) h (get_or-replicate n k false false l)
  | inr g ↦ not_both (marked (replicate n false) k) h (get_or_past (replicate n false) k false (omega (arith, length-replicate n false)))
]

-- no step of any list
abbrev pub blank : Step
blank = record { number = 0; edge = record { bind = 0; from = 0; from_port = 0; to = 0; to_port = 0 } }

pub same_step : (p r : Step) → ◌≡◌ {A = Option Step} (Some p) (Some r) → p ≡ r
same_step p r e = cc

-- marks after this many steps, from the last one on
pub record SoFar {P : Type 0} (pass : Pass P) (edges : List Edge) (steps : List Step) (ks : List (Option P)) (i back : ℕ) (ms : List Bool) : Type 0 where
  pub long : length ms ≡ length edges
  pub here : marked ms i ≡ true
  pub own : (k : ℕ) → marked ms k ≡ true → PortDependsOn pass edges i k
  pub on : (q : ℕ) (s : Step) → slice_get steps q ≡ Some s → length steps ≤ q + back → marked ms s.number ≡ true → keeps ks s.number ≡ false
      → (y : ℕ) → IsOneOf y (pass.asks s.edge) → marked ms y ≡ true

module _ {P : Type 0} (pass : Pass P) (edges : List Edge) (steps : List Step) (turn : InTurn pass edges steps) (ks : List (Option P)) where
  pub at_start : (i : ℕ) (ms : List Bool) → i < length edges → ms ≡ replicate (length edges) false → SoFar pass edges steps ks i 0 (slice_set ms i true)
  at_start i ms l q =
      let n : length ms ≡ length edges = ap length q ∙ length-replicate (length edges) false in
      let only : (k : ℕ) → marked (slice_set ms i true) k ≡ true → k ≡ i = λ k h. elim (set_cases ms i k h) [ inl e ↦ e | inr m ↦ absurd (none_marked (length edges) k (subst (λ (x : List Bool). marked x k ≡ true) q m)) ] in
      record {
        long = length-set ms i true ∙ n;
        here = get_or-set_same ms i true false (subst (λ (x : ℕ). i < x) (sym n) l);
        own = λ k h has c s. subst (λ (x : ℕ). has x ≡ true) (sym (only k h)) s;
        on = λ r s is b. absurd (past r (slice_get_within steps r s is) b);
      }
    where
      past : (r : ℕ) → r < length steps → length steps ≤ r + 0 → ⊥
      past r a b = omega arith

  pub asked_by : (i k : ℕ) (edge : Edge) → slice_get edges k ≡ Some edge → PortDependsOn pass edges i k → (y : ℕ) → IsOneOf y (pass.asks edge) → PortDependsOn pass edges i y
  asked_by i k edge is d y j = λ has c s. c k edge is (d has c s) y j

  pub asks_within : (ms : List Bool) → length ms ≡ length edges → (q : ℕ) (s : Step) → slice_get steps q ≡ Some s → AreWithin ms (pass.asks s.edge)
  asks_within ms long q s is y j =
      let b = turn.behind q s is y j in
      let w : b.1.number < length edges = slice_get_within edges b.1.number b.1.edge (turn.sound b.0 b.1 b.3) in
      subst (λ (n : ℕ). y < n) (sym long) (subst (λ (n : ℕ). n < length edges) b.4 w)

  module _ (i back : ℕ) (ms : List Bool) (s : SoFar pass edges steps ks i back ms) (q : ℕ) (p : Step) (is : slice_get steps q ≡ Some p) (l : q + back + 1 ≡ length steps) where
    within : AreWithin ms (pass.asks p.edge)
    within = asks_within ms s.long q p is

    here_or_later : (x : ℕ) → length steps ≤ x + (back + 1) → (x ≡ q) ⊎ (length steps ≤ x + back)
    here_or_later x b = elim (cases_eq x q) [ inl e ↦ inl e | inr n ↦ inr (further x b n) ]
      where
        further : (x : ℕ) → length steps ≤ x + (back + 1) → (x ≡ q → ⊥) → length steps ≤ x + back
        further x b n = omega arith

    -- what is asked isn't one of the later steps
    not_later : (x : ℕ) (r : Step) → slice_get steps x ≡ Some r → length steps ≤ x + back → IsOneOf r.number (pass.asks p.edge) → ⊥
    not_later x r ir b j =
        let f = turn.behind q p is r.number j in
        let e : f.0 ≡ x = turn.once f.0 x f.1 r f.3 ir f.4 in
        low f.0 f.2 e
      where
        low : (z : ℕ) → z < q → z ≡ x → ⊥
        low z a e = omega arith

    marking : is_wanted ms ks p.number ≡ true → SoFar pass edges steps ks i (back + 1) (spread ms (pass.asks p.edge))
    marking w = record {
      long = spread_length ms (pass.asks p.edge) ∙ s.long;
      here = spread_keeps ms (pass.asks p.edge) i within s.here;
      own = λ x h. elim (spread_cases ms (pass.asks p.edge) x h) [
        | inl j ↦ asked_by i p.number p.edge (turn.sound q p is) (s.own p.number (and_left (marked ms p.number) _ w)) x j
        | inr m ↦ s.own x m
      ];
      on = λ x r ir b h f y j. elim (here_or_later x b) [
        | inl e ↦ spread_marks ms (pass.asks p.edge) y within (subst (λ (z : Step). IsOneOf y (pass.asks z.edge)) (same_step r p (sym ir ∙ subst (λ (z : ℕ). slice_get steps z ≡ Some p) (sym e) is)) j)
        | inr a ↦ spread_keeps ms (pass.asks p.edge) y within
            (s.on x r ir a (elim (spread_cases ms (pass.asks p.edge) r.number h) [ inl t ↦ absurd (not_later x r ir a t) | inr m ↦ m ]) f y j)
      ];
    }

    skipping : is_wanted ms ks p.number ≡ false → SoFar pass edges steps ks i (back + 1) ms
    skipping w = record {
      long = s.long;
      here = s.here;
      own = s.own;
      on = λ x r ir b h f y j. elim (here_or_later x b) [
        | inl e ↦ (let same : r ≡ p = same_step r p (sym ir ∙ subst (λ (z : ℕ). slice_get steps z ≡ Some p) (sym e) is) in
            absurd (not_both (is_wanted ms ks p.number)
            (wanted (marked ms p.number) (keeps ks p.number) (subst (λ (z : Step). marked ms z.number ≡ true) same h) (subst (λ (z : Step). keeps ks z.number ≡ false) same f)) w))
        | inr a ↦ s.on x r ir a h f y j
      ];
    }

    pub go_further : (new : List Bool) → new ≡ gone_on ks p.number (pass.asks p.edge) ms → SoFar pass edges steps ks i (back + 1) new
    go_further new e = subst (λ (x : List Bool). SoFar pass edges steps ks i (back + 1) x) (sym e) (by (is_wanted ms ks p.number) refl)
      where
        by : (b : Bool) → is_wanted ms ks p.number ≡ b → SoFar pass edges steps ks i (back + 1) (cond b (spread ms (pass.asks p.edge)) ms)
        by true w = marking w
        by false w = skipping w

  pub one_further : (i back : ℕ) (ms : List Bool) → SoFar pass edges steps ks i back ms → back < length steps → (new : List Bool)
      → new ≡ gone_on ks (get_or steps (length steps - 1 - back) blank).number (pass.asks (get_or steps (length steps - 1 - back) blank).edge) ms → SoFar pass edges steps ks i (back + 1) new
  one_further i back ms s b new e =
      go_further i back ms s (length steps - 1 - back) (get_or steps (length steps - 1 - back) blank) (slice_get-get_or steps (length steps - 1 - back) blank (omega arith)) (omega arith) new e

  pub all_marked : IsClosed pass edges (keeps ks) → (i back : ℕ) (ms : List Bool) → length steps ≤ back → SoFar pass edges steps ks i back ms → AreMarked pass edges ks (PortDependsOn pass edges i) ms
  all_marked closed i back ms l s = record {
    long = s.long;
    own = s.own;
    on = on;
    whole = λ k d. either (marked ms k) (keeps ks k) (d (λ j. marked ms j || keeps ks j) each (or_left (marked ms i) (keeps ks i) s.here));
  }
    where
      on : GoesOn pass edges ks ms
      on k edge is h f y j = let w = turn.whole k edge is in s.on w.0 (record { number = k; edge = edge }) w.1 (far w.0) h f y j
        where
          far : (q : ℕ) → length steps ≤ q + back
          far q = omega arith

      each : IsClosed pass edges (λ j. marked ms j || keeps ks j)
      each k edge is h y j = elim (true_or_false (keeps ks k)) [
        | inl t ↦ or_right (marked ms y) (keeps ks y) (closed k edge is t y j)
        | inr f ↦ or_left (marked ms y) (keeps ks y) (on k edge is (elim (either (marked ms k) (keeps ks k) h) [ inl m ↦ m | inr t ↦ absurd (not_both (keeps ks k) t f) ]) f y j)
      ]
