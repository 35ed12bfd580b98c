-- What holds of each item, one item further.
use Rattle.std.proofs.Common.{◌≡◌, ℕ, ◌+◌, ◌<◌, List, [], ◌∷◌, ◌++◌, length, get_or, sym, ap, ◌∙◌, subst, arith, inl, inr}
use Rattle.std.proofs.lemmas.Bool.{cases_lt}
use Rattle.std.proofs.lemmas.List.{get_or_append_left, get_or_push, get_or_read, length_push}
use Rattle.net_crossbar.specs.Places.{AllAt}

pub all_none : {A : Type 0} (P : ℕ → A → Type 0) (xs : List A) → xs ≡ [] → AllAt P xs
all_none P xs e = record { at = λ k d l. absurd (omega (arith, l, ap length e)) }

pub all_lifted : {A : Type 0} (P Q : ℕ → A → Type 0) (xs : List A) → ((k : ℕ) (x : A) → P k x → Q k x) → AllAt P xs → AllAt Q xs
all_lifted P Q xs f h = record { at = λ k d l. f k (get_or xs k d) (h.at k d l) }

-- one more
pub all_more : {A : Type 0} (P Q : ℕ → A → Type 0) (out more : List A) (x : A) (n : ℕ) → ((k : ℕ) (y : A) → P k y → Q k y) → AllAt P out → length out ≡ n → Q n x → more ≡ out ++ x ∷ [] → AllAt Q more
all_more P Q out more x n f h l q e = subst (AllAt Q) (sym e) (record {
  at = λ k d r.
      elim (cases_lt k (length out)) [
        | inl s ↦ subst (Q k) (sym (get_or_append_left out (x ∷ []) d k s)) (f k (get_or out k d) (h.at k d s))
        | inr g ↦
            let c : length out ≡ k = omega (arith, length_push out x) in
            subst (Q k) (sym (get_or_push out x d k c)) (subst (λ (m : ℕ). Q m x) (sym l ∙ c) q)
      ];
})

pub long_more : {A : Type 0} (out more : List A) (x : A) (n : ℕ) → length out ≡ n → more ≡ out ++ x ∷ [] → length more ≡ n + 1
long_more out more x n l e = ap length e ∙ length_push out x ∙ ap (λ m. m + 1) l

-- what is read at a place
pub read_here : {A : Type 0} (xs : List A) (i : ℕ) (y x d : A) → i < length xs → y ≡ x → x ≡ get_or xs i x → y ≡ get_or xs i d
read_here xs i y x d l e f = e ∙ get_or_read xs i x l f d
