-- What is known while the places of marked edges are asked in turn.
use Rattle.std.proofs.Common.{◌≡◌, ℕ, zero, suc, ◌+◌, ◌≤◌, ◌<◌, Bool, true, false, List, [], ◌∷◌, length, get_or, refl, sym, ap, ◌∙◌, subst, arith, ◌⊎◌, inl, inr, Option, Some, None, Result, Ok, Err}
use Rattle.std.specs.Prelude.{slice_set, slice_get, is_some}
use Rattle.std.proofs.lemmas.List.{get_or-set_same, get_or-set_other, length-set, length-map, get_or_past}
use Rattle.std.proofs.lemmas.Option.{slice_get_within}
use Rattle.std.proofs.lemmas.Bool.{cases_eq, cases_lt}
use Rattle.dip_graph.specs.declared.edges.Edge.{Edge}
use Rattle.dip_rule.specs.Stated.{Answers}
use Rattle.dip_rule.specs.declared.fault.RuleFault.{RuleFault}
use Rattle.dip_rule.specs.declared.fault.RuleFault.TheVariants.{Refused}
use Rattle.dip_negotiate.specs.declared.steps.Step.{Step}
use Rattle.dip_negotiate.specs.Passes.{Pass, beside}
use Rattle.dip_negotiate.specs.Demands.{AllKept, IsOneOf, IsKnown, keeps, KeepsOnly, known_of, seen, Stays}
use Rattle.dip_negotiate.specs.Turns.{AreShared, GoesOn, InTurn, is_wanted, marked, SameFirst, StopsAt}
use Rattle.dip_negotiate.proofs.Needed.{not_both, and_left, and_right, wanted, same_step, true_or_false}
use Rattle.dip_negotiate.proofs.Seen.{seen_at}

pub same_known : {P : Type 0} (a b : List (Option P)) (ys : List ℕ) → ((y : ℕ) → IsOneOf y ys → get_or a y None ≡ get_or b y None) → known_of a ys ≡ known_of b ys
same_known a b [] h = refl
same_known a b (y ∷ ys) h =
    ap (λ o. beside o (known_of a ys)) (h y (inl refl)) ∙ ap (λ xs. beside (get_or b y None) xs) (same_known a b ys (λ z i. h z (inr i)))

pub keeps_port : {P : Type 0} (known : List (Option P)) (k : ℕ) (port : P) → get_or known k None ≡ Some port → keeps known k ≡ true
keeps_port known k port e = ap is_some e

pub port_kept : {P : Type 0} (known : List (Option P)) (k : ℕ) → keeps known k ≡ true → (port : P) × (get_or known k None ≡ Some port)
port_kept {P = P} known k h = by (get_or known k None) refl
  where
    by : (o : Option P) → get_or known k None ≡ o → (port : P) × (get_or known k None ≡ Some port)
    by (Some port) e = (port, e)
    by None e = absurd (not_both (keeps known k) h (ap is_some e))

pub keeps_still : {P : Type 0} (old new : List (Option P)) → Stays old new → (k : ℕ) → keeps old k ≡ true → keeps new k ≡ true
keeps_still old new s k h = ap is_some (s k h) ∙ h

-- after some turns
pub record AskedTo {P : Type 0} (pass : Pass P) (edges : List Edge) (steps : List Step) (firsts : List ℕ) (ms : List Bool) (old ports : List (Option P)) (turn : ℕ) : Type 0 where
  pub long : length ports ≡ length edges
  pub is : IsKnown pass edges (seen firsts ports)
  pub stays : Stays (seen firsts old) (seen firsts ports)
  pub only : KeepsOnly (SameFirst firsts) (λ j. marked ms j ≡ true) (seen firsts old) (seen firsts ports)
  pub front : (q : ℕ) (s : Step) → q < turn → slice_get steps q ≡ Some s → marked ms s.number ≡ true → keeps (seen firsts ports) s.number ≡ true

same_some : {A : Type 0} (x y : A) → ◌≡◌ {A = Option A} (Some x) (Some y) → x ≡ y
same_some x y e = cc

same_port : {P : Type 0} (pass : Pass P) (v port : P) → Some v ≡ Some port → v ≡ port
same_port pass v port e = cc

module _ {P : Type 0} (pass : Pass P) (edges : List Edge) (steps : List Step) (firsts : List ℕ) (ms : List Bool) (old : List (Option P)) (turns : InTurn pass edges steps) (share : AreShared pass edges firsts) where
  pub at_first : length old ≡ length edges → IsKnown pass edges (seen firsts old) → AskedTo pass edges steps firsts ms old old 0
  at_first n is = record { long = n; is = is; stays = λ k h. refl; only = λ k h. inl h; front = λ q s l. absurd (omega arith) }

  pub all_asked : (ports : List (Option P)) (turn : ℕ) → length steps ≤ turn → length ms ≡ length edges → AskedTo pass edges steps firsts ms old ports turn → AllKept (λ k. marked ms k ≡ true) (seen firsts ports)
  all_asked ports turn e long a k m =
      let edge = at k (within k (by k m)) in
      let w = turns.whole k edge.0 edge.1 in
      a.front w.0 (record { number = k; edge = edge.0 }) (less w.0 (slice_get_within steps w.0 (record { number = k; edge = edge.0 }) w.1)) w.1 m
    where
      less : (q : ℕ) → q < length steps → q < turn
      less q l = omega (arith, e)

      by : (k : ℕ) → marked ms k ≡ true → k < length ms
      by k m = elim (cases_lt k (length ms)) [ inl l ↦ l | inr g ↦ absurd (not_both (marked ms k) m (get_or_past ms k false g)) ]

      within : (k : ℕ) → k < length ms → k < length edges
      within k l = omega (arith, long)

      edge_of : (es : List Edge) (k : ℕ) → k < length es → (edge : Edge) × (slice_get es k ≡ Some edge)
      edge_of [] k l = absurd (omega arith)
      edge_of (e ∷ es) zero l = (e, refl)
      edge_of (e ∷ es) (suc k) l = edge_of es k (omega arith)

      at : (k : ℕ) → k < length edges → (edge : Edge) × (slice_get edges k ≡ Some edge)
      at k l = edge_of edges k l

  module _ (on : GoesOn pass edges (seen firsts old) ms) (ports : List (Option P)) (turn : ℕ) (a : AskedTo pass edges steps firsts ms old ports turn) (s : Step) (is : slice_get steps turn ≡ Some s) where
    now : List (Option P)
    now = seen firsts ports

    last : (q : ℕ) → q < turn + 1 → (q ≡ turn) ⊎ (q < turn)
    last q l = elim (cases_eq q turn) [ inl e ↦ inl e | inr n ↦ inr (omega arith) ]

    pub skipped : is_wanted ms (seen firsts ports) s.number ≡ false → AskedTo pass edges steps firsts ms old ports (turn + 1)
    skipped w = record { long = a.long; is = a.is; stays = a.stays; only = a.only; front = front }
      where
        front : (q : ℕ) (r : Step) → q < turn + 1 → slice_get steps q ≡ Some r → marked ms r.number ≡ true → keeps (seen firsts ports) r.number ≡ true
        front q r l ir m = elim (last q l) [
          | inl e ↦ (let same : r ≡ s = same_step r s (sym ir ∙ subst (λ (z : ℕ). slice_get steps z ≡ Some s) (sym e) is) in
              elim (true_or_false (keeps (seen firsts ports) r.number)) [
                | inl t ↦ t
                | inr f ↦ absurd (not_both (is_wanted ms (seen firsts ports) s.number)
                    (wanted (marked ms s.number) (keeps (seen firsts ports) s.number) (subst (λ (z : Step). marked ms z.number ≡ true) same m) (subst (λ (z : Step). keeps (seen firsts ports) z.number ≡ false) same f)) w)
              ])
          | inr b ↦ a.front q r b ir m
        ]

    module _ (w : is_wanted ms (seen firsts ports) s.number ≡ true) where
      mark : marked ms s.number ≡ true
      mark = and_left (marked ms s.number) _ w

      free : keeps (seen firsts ports) s.number ≡ false
      free = and_right (marked ms s.number) (keeps (seen firsts ports) s.number) w

      free_before : keeps (seen firsts old) s.number ≡ false
      free_before = elim (true_or_false (keeps (seen firsts old) s.number)) [
        | inl t ↦ absurd (not_both (keeps (seen firsts ports) s.number) (keeps_still (seen firsts old) (seen firsts ports) a.stays s.number t) free)
        | inr f ↦ f
      ]

      at_edge : slice_get edges s.number ≡ Some s.edge
      at_edge = turns.sound turn s is

      pub here : s.number < length edges
      here = slice_get_within edges s.number s.edge at_edge

      pub asked : (y : ℕ) → IsOneOf y (pass.asks s.edge) → keeps (seen firsts ports) y ≡ true
      asked y i =
          let b = turns.behind turn s is y i in
          subst (λ (z : ℕ). keeps (seen firsts ports) z ≡ true) b.4 (a.front b.0 b.1 b.2 b.3 (subst (λ (z : ℕ). marked ms z ≡ true) (sym b.4) (on s.number s.edge at_edge mark free_before y i)))

      pub stops : (n : ℕ) → pass.says s.edge (known_of (seen firsts ports) (pass.asks s.edge)) ≡ Err n → StopsAt pass steps ms (seen firsts ports) s.edge n
      stops n r = record { turn = turn; refused = s.number; taken = is; is_marked = mark; before = λ q t l it m. a.front q t l it m; asked = asked; refuses = r }

      module _ (v : P) (stated : pass.says s.edge (known_of (seen firsts ports) (pass.asks s.edge)) ≡ Ok v) where
        abbrev pub first : ℕ
        first = get_or firsts s.number 0

        abbrev pub after : List (Option P)
        after = slice_set ports (get_or firsts s.number 0) (Some v)

        new : List (Option P)
        new = seen firsts (slice_set ports (get_or firsts s.number 0) (Some v))

        in_firsts : (k : ℕ) → k < length edges → k < length firsts
        in_firsts k l = omega (arith, share.long)

        seen_new : (k : ℕ) → k < length edges → (xs : List (Option P)) → get_or (seen firsts xs) k None ≡ get_or xs (get_or firsts k 0) None
        seen_new k l xs = seen_at firsts xs k (get_or firsts k 0) (in_firsts k l) (inside firsts k (in_firsts k l))
          where
            inside : (xs : List ℕ) (k : ℕ) → k < length xs → get_or xs k 0 ≡ get_or xs k (get_or xs k 0)
            inside [] k l = absurd (omega arith)
            inside (x ∷ xs) zero l = refl
            inside (x ∷ xs) (suc k) l = within xs k (get_or xs k 0) (omega arith)
              where
                within : (xs : List ℕ) (k d : ℕ) → k < length xs → get_or xs k 0 ≡ get_or xs k d
                within [] k d l = absurd (omega arith)
                within (x ∷ xs) zero d l = refl
                within (x ∷ xs) (suc k) d l = within xs k d (omega arith)

        put_within : get_or firsts s.number 0 < length ports
        put_within = subst (λ n. get_or firsts s.number 0 < n) (sym a.long) (share.within s.number s.edge at_edge)

        put_here : (k : ℕ) → k < length edges → get_or firsts k 0 ≡ get_or firsts s.number 0 → get_or (seen firsts after) k None ≡ Some v
        put_here k l e =
            seen_new k l after ∙ ap (λ z. get_or after z None) e ∙ get_or-set_same ports (get_or firsts s.number 0) (Some v) None put_within

        put_other : (k : ℕ) → k < length edges → (get_or firsts k 0 ≡ get_or firsts s.number 0 → ⊥) → get_or (seen firsts after) k None ≡ get_or (seen firsts ports) k None
        put_other k l n =
            seen_new k l after ∙ get_or-set_other ports (get_or firsts s.number 0) (get_or firsts k 0) (Some v) None n ∙ sym (seen_new k l ports)

        long_known : (xs : List (Option P)) → length (seen firsts xs) ≡ length edges
        long_known xs = length-map firsts (λ first. get_or xs first None) ∙ share.long

        known_within : (xs : List (Option P)) (k : ℕ) → keeps (seen firsts xs) k ≡ true → k < length edges
        known_within xs k h = elim (cases_lt k (length (seen firsts xs))) [
          | inl l ↦ subst (λ n. k < n) (long_known xs) l
          | inr g ↦ absurd (not_both (keeps (seen firsts xs) k) h (ap is_some (get_or_past (seen firsts xs) k None g)))
        ]

        -- a known edge doesn't share the place that is asked now
        apart : (k : ℕ) → keeps (seen firsts ports) k ≡ true → get_or firsts k 0 ≡ get_or firsts s.number 0 → ⊥
        apart k h e =
            let l = known_within ports k h in
            let q : get_or (seen firsts ports) k None ≡ get_or (seen firsts ports) s.number None = seen_new k l ports ∙ ap (λ z. get_or ports z None) e ∙ sym (seen_new s.number here ports) in
            not_both (keeps (seen firsts ports) k) h (ap is_some q ∙ free)

        still : Stays (seen firsts ports) (seen firsts after)
        still k h = put_other k (known_within ports k h) (apart k h)

        here_or_known : (k : ℕ) → keeps (seen firsts after) k ≡ true → (get_or firsts k 0 ≡ get_or firsts s.number 0) ⊎ (keeps (seen firsts ports) k ≡ true)
        here_or_known k h = elim (cases_eq (get_or firsts k 0) (get_or firsts s.number 0)) [
          | inl e ↦ inl e
          | inr n ↦ inr (ap is_some (sym (put_other k (known_within after k h) n)) ∙ h)
        ]

        -- what is asked for an edge that is known now was known before
        asks_of : (k : ℕ) (edge : Edge) → slice_get edges k ≡ Some edge → keeps (seen firsts after) k ≡ true → (y : ℕ) → IsOneOf y (pass.asks edge) → keeps (seen firsts ports) y ≡ true
        asks_of k edge ie h y i = elim (here_or_known k h) [
          | inl e ↦ asked y (subst (λ (zs : List ℕ). IsOneOf y zs) (share.asks k s.number edge s.edge ie at_edge e) i)
          | inr t ↦ a.is.closed k edge ie t y i
        ]

        same_asked : (k : ℕ) (edge : Edge) → slice_get edges k ≡ Some edge → keeps (seen firsts after) k ≡ true → known_of (seen firsts after) (pass.asks edge) ≡ known_of (seen firsts ports) (pass.asks edge)
        same_asked k edge ie h = same_known (seen firsts after) (seen firsts ports) (pass.asks edge) (λ y i. still y (asks_of k edge ie h y i))

        holds : (k : ℕ) (edge : Edge) (port : P) → slice_get edges k ≡ Some edge → get_or (seen firsts after) k None ≡ Some port → pass.says edge (known_of (seen firsts after) (pass.asks edge)) ≡ Ok port
        holds k edge port ie h =
            let kept = keeps_port (seen firsts after) k port h in
            ap (pass.says edge) (same_asked k edge ie kept) ∙ elim (here_or_known k kept) [
              | inl e ↦ (let v_is : v ≡ port = same_some v port (sym (put_here k (slice_get_within edges k edge ie) e) ∙ h) in
                  share.says k s.number edge s.edge ie at_edge e (known_of (seen firsts ports) (pass.asks edge))
                  ∙ ap (λ zs. pass.says s.edge (known_of (seen firsts ports) zs)) (share.asks k s.number edge s.edge ie at_edge e) ∙ stated ∙ ap Ok v_is)
              | inr t ↦ a.is.holds k edge port ie (sym (still k t) ∙ h)
            ]

        pub asked_one : AskedTo pass edges steps firsts ms old (slice_set ports (get_or firsts s.number 0) (Some v)) (turn + 1)
        asked_one = record {
          long = length-set ports (get_or firsts s.number 0) (Some v) ∙ a.long;
          is = record {
            long = long_known after;
            closed = λ k edge ie h y i. keeps_still (seen firsts ports) (seen firsts after) still y (asks_of k edge ie h y i);
            holds = holds;
          };
          stays = λ k h. still k (keeps_still (seen firsts old) (seen firsts ports) a.stays k h) ∙ a.stays k h;
          only = λ k h. elim (here_or_known k h) [ inl e ↦ inr (s.number, mark, sym e) | inr t ↦ a.only k t ];
          front = front;
        }
          where
            front : (q : ℕ) (r : Step) → q < turn + 1 → slice_get steps q ≡ Some r → marked ms r.number ≡ true → keeps (seen firsts after) r.number ≡ true
            front q r l ir m = elim (last q l) [
              | inl e ↦ (let same : r ≡ s = same_step r s (sym ir ∙ subst (λ (z : ℕ). slice_get steps z ≡ Some s) (sym e) is) in
                  subst (λ (z : Step). keeps (seen firsts after) z.number ≡ true) (sym same) (ap is_some (put_here s.number here refl)))
              | inr b ↦ keeps_still (seen firsts ports) (seen firsts after) still r.number (a.front q r b ir m)
            ]

-- the answer of a rule that refuses is what is stated
pub err_says : {P : Type 0} (stated : Result P ℕ) (f : RuleFault) (n : ℕ) → f ≡ Refused n → Answers stated (Err f) → stated ≡ Err n
err_says {P = P} stated f n e a = subst (λ (x : RuleFault). Answers {P = P} stated (Err x)) e a

pub wants_is : {P : Type 0} (ms : List Bool) (firsts : List ℕ) (a b : List (Option P)) (k : ℕ) (r w : Bool) → a ≡ b → r ≡ is_wanted ms (seen firsts a) k → r ≡ w → is_wanted ms (seen firsts b) k ≡ w
wants_is ms firsts a b k r w q e t = subst (λ x. is_wanted ms (seen firsts x) k ≡ w) q (sym e ∙ t)

pub says_of : {P : Type 0} (pass : Pass P) (edge : Edge) (firsts : List ℕ) (a b : List (Option P)) (r : Result P ℕ) → a ≡ b → pass.says edge (known_of (seen firsts a) (pass.asks edge)) ≡ r
    → pass.says edge (known_of (seen firsts b) (pass.asks edge)) ≡ r
says_of pass edge firsts a b r q e = subst (λ x. pass.says edge (known_of (seen firsts x) (pass.asks edge)) ≡ r) q e
