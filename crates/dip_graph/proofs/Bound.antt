-- What a ready node waits for, in words of the binds.
use Rattle.std.proofs.Common.{◌≡◌, ℕ, ◌⊎◌, inl, inr, ⊎_elim, Bool, true, false, not, ◌||◌, ◌==◌, List, [], ◌∷◌, ◌++◌, refl, subst}
use Rattle.std.specs.Prelude.{Contains}
use Rattle.std.specs.List.{list_all}
use Rattle.std.proofs.lemmas.Bool.{eqb-true, eq-eqb}
use Rattle.std.proofs.lemmas.List.Elements.{Contains-push, Contains-append_left, Contains-append_right}
use Rattle.dip_lists.proofs.Pairs.{nowhere, within_cases}
use Rattle.dip_lists.proofs.Tests.{both}
use Rattle.dip_graph.specs.declared.design.BindEntry.{BindEntry}
use Rattle.dip_graph.specs.Orders.{is_listed, is_met, StandBehind, AreBound, EachWaitsForItsBinds, canonical_order}
use Rattle.dip_graph.proofs.Behind.{each_stands_behind}

pub split_or : (a b : Bool) → (a || b) ≡ true → (a ≡ true) ⊎ (b ≡ true)
split_or true b h = inl refl
split_or false b h = inr h

or_yes : (a b : Bool) → a ≡ true → (a || b) ≡ true
or_yes true b h = refl
or_yes false b h = (cc)

yes_or : (a b : Bool) → b ≡ true → (a || b) ≡ true
yes_or true b h = refl
yes_or false b h = h

not_yes : (a : Bool) → not a ≡ true → a ≡ true → ⊥
not_yes true h e = (cc)
not_yes false h e = (cc)

-- a number is listed where the test says so
pub listed_from : (listed : List ℕ) (n : ℕ) → is_listed listed n ≡ true → Contains listed n
listed_from [] n h = (cc)
listed_from (x ∷ xs) n h =
    ⊎_elim
    (λ e. Contains-append_left (x ∷ []) xs n (subst (λ m. Contains (x ∷ []) m) (eqb-true x n e) (Contains-push [] x)))
    (λ later. Contains-append_right (x ∷ []) xs n (listed_from xs n later))
    (split_or (x == n) (is_listed xs n) h)

pub to_listed : (listed : List ℕ) (n : ℕ) → Contains listed n → is_listed listed n ≡ true
to_listed [] n h = absurd (nowhere n h)
to_listed (x ∷ xs) n h =
    ⊎_elim (λ e. or_yes (x == n) (is_listed xs n) (eq-eqb x n e)) (λ later. yes_or (x == n) (is_listed xs n) (to_listed xs n later))
    (within_cases x n xs h)

met_at : (listed : List ℕ) (n : ℕ) (binds : List BindEntry) (b : BindEntry) → list_all (is_met listed n) binds ≡ true → Contains binds b → is_met listed n b ≡ true
met_at listed n [] b h c = absurd (nowhere b c)
met_at listed n (a ∷ binds) b h c =
    let parts = both (is_met listed n a) (list_all (is_met listed n) binds) h in
    ⊎_elim (λ e. subst (λ x. is_met listed n x ≡ true) e parts.0) (λ later. met_at listed n binds b parts.1 later) (within_cases a b binds c)

met_listed : (listed : List ℕ) (n : ℕ) (b : BindEntry) → is_met listed n b ≡ true → b.to ≡ n → Contains listed b.from
met_listed listed n b h e =
    ⊎_elim (λ other. absurd (not_yes (b.to == n) other (eq-eqb b.to n e))) (λ is. listed_from listed b.from is)
    (split_or (not (b.to == n)) (is_listed listed b.from) h)

bound : (binds : List BindEntry) (listed ns : List ℕ) → StandBehind binds listed ns → AreBound binds listed ns
bound binds listed [] h = tt
bound binds listed (n ∷ ns) h =
    let parts = both (not (is_listed listed n)) (list_all (is_met listed n) binds) h.0 in (
      λ c. not_yes (is_listed listed n) parts.0 (to_listed listed n c),
      λ b c e. met_listed listed n b (met_at listed n binds b parts.1 c) e,
      bound binds (listed ++ n ∷ []) ns h.1,
    )

pub each_waits : EachWaitsForItsBinds
each_waits design = bound design.binds [] (canonical_order design) (each_stands_behind design)
