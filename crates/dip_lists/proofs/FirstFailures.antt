-- The first failure of checks in order comes before the others.
use Rattle.std.proofs.Common.{◌≡◌, ℕ, ◌<◌, ◌⊎◌, inl, inr, ⊎_elim, List, [], ◌∷◌, Option, Some, None, refl, sym, ◌∙◌, ap, subst, arith, unwrap_or}
use Rattle.std.specs.Prelude.{AllPairs, Contains}
use Rattle.std.specs.Option.{option_map, option_or}
use Rattle.std.proofs.lemmas.List.Elements.{All-head, All-tail, All-contains, Contains-push, Contains-append_left, Contains-append_right}
use Rattle.dip_lists.proofs.Pairs.{nowhere, within_cases, behind, rest_pairs}
use Rattle.dip_lists.specs.First.{Check, Failure, first, failure_of, first_failing}
use Rattle.dip_lists.specs.FirstLaw.{Fails, IsBefore, Precedes, HasRisingSubjects, AreInOrder, IsFirstFailure, FirstLaw}

rest_in_order : (check : Check) (checks : List Check) → AreInOrder (check ∷ checks) → AreInOrder checks
rest_in_order check checks o =
    record { ordered = rest_pairs Precedes check checks o.ordered; rising = All-tail HasRisingSubjects check checks o.rising }

fails_later : (check : Check) (checks : List Check) (failure : Failure) → Fails checks failure → Fails (check ∷ checks) failure
fails_later check checks failure h =
    record { check = h.check; listed = Contains-append_right (check ∷ []) checks h.check h.listed; number = h.number; subject = h.subject }

-- a failure is one of the first check, or of those behind it
fails_cases : (check : Check) (checks : List Check) (failure : Failure) → Fails (check ∷ checks) failure → ((check.number ≡ failure.number) × Contains check.failing failure.subject) ⊎ Fails checks failure
fails_cases check checks failure h =
    ⊎_elim
    (λ e. inl (ap (λ (c : Check). c.number) e ∙ h.number, subst (λ (c : Check). Contains c.failing failure.subject) (sym e) h.subject))
    (λ listed. inr (record { check = h.check; listed = listed; number = h.number; subject = h.subject }))
    (within_cases check h.check checks h.listed)

not_both : (a b : Failure) → IsBefore a b → IsBefore b a → ⊥
not_both a b before after =
    ⊎_elim
    (λ lower. ⊎_elim (λ higher. absurd (omega arith)) (λ same. let e = same.0 in absurd (omega arith)) after)
    (λ equal. let e = equal.0 in let up = equal.1 in
    ⊎_elim (λ higher. absurd (omega arith)) (λ same. let down = same.1 in absurd (omega arith)) after)
    before

passes : (number : ℕ) (failing : List ℕ) (rest : Option Failure) → option_or (option_map (failure_of number) (first failing)) rest ≡ None → (failing ≡ []) × (rest ≡ None)
passes number [] rest e = (refl, e)
passes number (subject ∷ subjects) rest e = (cc)

pub nothing_fails : (checks : List Check) (failure : Failure) → first_failing checks ≡ None → Fails checks failure → ⊥
nothing_fails [] failure e h = nowhere h.check h.listed
nothing_fails (check ∷ checks) failure e h =
    let both = passes check.number check.failing (first_failing checks) e in
    ⊎_elim
    (λ here. nowhere failure.subject (subst (λ l. Contains l failure.subject) both.0 here.1))
    (λ there. nothing_fails checks failure both.1 there)
    (fails_cases check checks failure h)

-- where the first failure is: behind the first check, which passes, or at its first failing subject
abbrev FoundHere : ℕ → List ℕ → Failure → Type 0
FoundHere number failing failure = (subjects : List ℕ) × (failing ≡ failure.subject ∷ subjects) × (number ≡ failure.number)

found : (number : ℕ) (failing : List ℕ) (rest : Option Failure) (failure : Failure) → option_or (option_map (failure_of number) (first failing)) rest ≡ Some failure → ((failing ≡ []) × (rest ≡ Some failure)) ⊎ FoundHere number failing failure
found number [] rest failure e = inl (refl, e)
found number (subject ∷ subjects) rest failure e =
    let same = ap (λ (o : Option Failure). unwrap_or o failure) e in
    inr (subjects, ap (λ (f : Failure). f.subject ∷ subjects) same, ap (λ (f : Failure). f.number) same)

first_behind : (check : Check) (checks : List Check) (failure : Failure) → check.failing ≡ [] → IsFirstFailure checks failure → IsFirstFailure (check ∷ checks) failure
first_behind check checks failure none h =
    record {
      fails = fails_later check checks failure h.fails;
      least = λ other fails before.
          ⊎_elim
          (λ here. nowhere other.subject (subst (λ l. Contains l other.subject) none here.1))
          (λ there. h.least other there before)
          (fails_cases check checks other fails);
    }

fails_here : (check : Check) (checks : List Check) (failure : Failure) → FoundHere check.number check.failing failure → Fails (check ∷ checks) failure
fails_here check checks failure here =
    record {
      check = check;
      listed = Contains-append_left (check ∷ []) checks check (Contains-push [] check);
      number = here.2;
      subject = subst (λ l. Contains l failure.subject) (sym here.1) (Contains-append_left (failure.subject ∷ []) here.0 failure.subject (Contains-push [] failure.subject));
    }

-- another failure of the same check
least_of_check : (check : Check) (failure other : Failure) → HasRisingSubjects check → FoundHere check.number check.failing failure → check.number ≡ other.number → Contains check.failing other.subject → IsBefore other failure → ⊥
least_of_check check failure other rising here number subject before =
    let same = here.2 in
    let up : AllPairs (λ a b. a < b) (failure.subject ∷ here.0) = subst (AllPairs (λ a b. a < b)) here.1 rising in
    ⊎_elim
    (λ e. ⊎_elim (λ lower. absurd (omega arith)) (λ below. let down = below.1 in absurd (omega arith)) before)
    (λ later.
    let above = All-contains (λ b. failure.subject < b) here.0 other.subject (behind (λ a b. a < b) failure.subject here.0 up) later in
    not_both failure other (inr (omega arith, above)) before)
    (within_cases failure.subject other.subject here.0 (subst (λ l. Contains l other.subject) here.1 subject))

-- a failure of a later check
least_of_others : (check later : Check) (failure other : Failure) → Precedes check later → check.number ≡ failure.number → Contains check.failing failure.subject → later.number ≡ other.number → Contains later.failing other.subject → IsBefore failure other
least_of_others check later failure other precedes number subject other_number other_subject =
    ⊎_elim
    (λ lower. inl (omega arith))
    (λ equal. let e = equal.0 in inr (omega arith, equal.1 failure.subject other.subject subject other_subject))
    precedes

first_here : (check : Check) (checks : List Check) (failure : Failure) → AreInOrder (check ∷ checks) → FoundHere check.number check.failing failure → IsFirstFailure (check ∷ checks) failure
first_here check checks failure o here =
    let at_head : Contains check.failing failure.subject =
    subst (λ l. Contains l failure.subject) (sym here.1) (Contains-append_left (failure.subject ∷ []) here.0 failure.subject (Contains-push [] failure.subject)) in
    record {
      fails = fails_here check checks failure here;
      least = λ other fails before.
          ⊎_elim
          (λ same. least_of_check check failure other (All-head HasRisingSubjects check checks o.rising) here same.0 same.1 before)
          (λ there.
          not_both failure other
          (least_of_others check there.check failure other
          (All-contains (Precedes check) checks there.check (behind Precedes check checks o.ordered) there.listed)
          here.2 at_head there.number there.subject)
          before)
          (fails_cases check checks other fails);
    }

pub first_fails : (checks : List Check) (failure : Failure) → AreInOrder checks → first_failing checks ≡ Some failure → IsFirstFailure checks failure
first_fails [] failure o e = absurd (cc)
first_fails (check ∷ checks) failure o e =
    ⊎_elim
    (λ passing. first_behind check checks failure passing.0 (first_fails checks failure (rest_in_order check checks o) passing.1))
    (λ here. first_here check checks failure o here)
    (found check.number check.failing (first_failing checks) failure e)

pub first_law : FirstLaw
first_law = record { some = first_fails; none = nothing_fails }
