-- The entries at which a test fails, item by item.
use Rattle.std.proofs.Common.{ℕ, ◌≡◌, ◌<◌, ◌≤◌, ◌+◌, ◌-◌, ◌⊎◌, inl, inr, List, [], ◌∷◌, drop, length, get_or, nat_le, Bool, true, false, Some, None, refl, sym, ◌∙◌, ap, arith, rules}
use Rattle.std.proofs.lemmas.Bool.Decides.{nat_tests}
use Rattle.toml.specs.declared.value.Value.{Value}
use Rattle.toml.specs.Data.{Data, Items, item}
use Rattle.toml.specs.View.{view, items_view}
use Rattle.toml.proofs.Views.{items_view-drop}
use Rattle.dip_lists.specs.First.{first}
use Rattle.toml_shape.specs.Entries.{failing, is_past}

head_passes : (fails : ℕ → Data → Bool) (place entry next : ℕ) (d : Data) (ds : Items) → next ≡ entry + 1 → fails place d ≡ false
    → first (failing fails (place + 1) next ds) ≡ first (failing fails place entry (item d ds))
head_passes fails place entry next d ds e h = rw (h, e) refl

head_fails : (fails : ℕ → Data → Bool) (place entry : ℕ) (d : Data) (ds : Items) → fails place d ≡ true
    → first (failing fails place entry (item d ds)) ≡ Some entry
head_fails fails place entry d ds h = rw h refl

-- where the item at a place passes, the first entry to fail is among those after it
pub passes : (fails : ℕ → Data → Bool) (place entry next : ℕ) (values : List Value) (value : Value)
    → value ≡ get_or values place value → place < length values → next ≡ entry + 1 → fails place (view value) ≡ false
    → first (failing fails (place + 1) next (items_view (drop (place + 1) values))) ≡ first (failing fails place entry (items_view (drop place values)))
passes fails place entry next values value is lt e h =
    head_passes fails place entry next (view value) (items_view (drop (place + 1) values)) e h
    ∙ ap (λ v. first (failing fails place entry (item (view v) (items_view (drop (place + 1) values))))) is
    ∙ ap (λ ds. first (failing fails place entry ds)) (sym (items_view-drop values place value lt))

-- where it fails, it is the first one
pub stops : (fails : ℕ → Data → Bool) (place entry : ℕ) (values : List Value) (value : Value)
    → value ≡ get_or values place value → place < length values → fails place (view value) ≡ true
    → first (failing fails place entry (items_view (drop place values))) ≡ Some entry
stops fails place entry values value is lt h =
    ap (λ ds. first (failing fails place entry ds)) (items_view-drop values place value lt)
    ∙ ap (λ v. first (failing fails place entry (item (view v) (items_view (drop (place + 1) values))))) (sym is)
    ∙ head_fails fails place entry (view value) (items_view (drop (place + 1) values)) h

-- ---- past an allowed number

below_or_there : (place most : ℕ) → place ≤ most → (place < most) ⊎ (place ≡ most)
below_or_there place most h = search rules

before_limit : (most place : ℕ) → place < most → nat_le most place ≡ false
before_limit most place h = grind (arith, nat_tests)

at_limit : (most place : ℕ) → place ≡ most → nat_le most place ≡ true
at_limit most place h = grind (arith, nat_tests)

pub none_beyond : (most place entry : ℕ) (values : List Value) → place + length values ≤ most → first (failing (is_past most) place entry (items_view values)) ≡ None
none_beyond most place entry [] h = refl
none_beyond most place entry (v ∷ values) h =
    let below : place < most = omega arith in
    let rest : place + 1 + length values ≤ most = omega arith in
    rw (before_limit most place below) (none_beyond most (place + 1) (entry + 1) values rest)

next_entry : (most entry place : ℕ) → place < most → entry + 1 + (most - (place + 1)) ≡ entry + (most - place)
next_entry most entry place h = omega arith

some_beyond : (most place entry : ℕ) (values : List Value) → place ≤ most → most < place + length values
    → first (failing (is_past most) place entry (items_view values)) ≡ Some (entry + (most - place))
some_beyond most place entry [] h g = absurd (omega arith)
some_beyond most place entry (v ∷ values) h g =
    elim (below_or_there place most h) [
      | inl below ↦
          let within : place + 1 ≤ most = omega arith in
          let more : most < place + 1 + length values = omega arith in
          rw (before_limit most place below) (some_beyond most (place + 1) (entry + 1) values within more ∙ ap Some (next_entry most entry place below))
      | inr there ↦ let here : entry ≡ entry + (most - place) = omega arith in rw (at_limit most place there) (ap Some here)
    ]

-- the first table past a number, where there are more
pub past_number : (most entry : ℕ) (values : List Value) → most < length values → first (failing (is_past most) 0 entry (items_view values)) ≡ Some (entry + most)
past_number most entry values h =
    let more : most < 0 + length values = omega arith in
    let there : entry + (most - 0) ≡ entry + most = omega arith in
    some_beyond most 0 entry values (omega arith) more ∙ ap Some there
