-- What the items of an array state, item by item.
use Rattle.std.proofs.Common.{ℕ, ◌≡◌, ◌<◌, ◌+◌, List, [], ◌∷◌, ◌++◌, drop, length, get_or, false, ◌||◌, nat_le, Option, Some, None, is_none, refl, sym, ◌∙◌, ap, append_assoc, length-append, arith}
use Rattle.std.specs.Option.{option_map}
use Rattle.std.proofs.lemmas.Bool.Decides.{nat_tests}
use Rattle.toml.specs.declared.value.Value.{Value}
use Rattle.toml.specs.Data.{Data}
use Rattle.toml.specs.View.{view, items_view}
use Rattle.toml.proofs.Views.{items_view-drop}
use Rattle.toml_shape.specs.Entries.{all_of, before, each_of}

regroup : {A : Type 0} (stated : List A) (x : A) (rest : Option (List A))
    → option_map (λ xs. (stated ++ x ∷ []) ++ xs) rest ≡ option_map (λ xs. stated ++ xs) (before (Some x) rest)
regroup stated x None = refl
regroup stated x (Some xs) = ap Some (append_assoc stated (x ∷ []) xs)

-- one item more
pub states_more : {A : Type 0} (states : Data → Option A) (place : ℕ) (values : List Value) (value : Value) (stated : List A) (x : A)
    → value ≡ get_or values place value → place < length values → states (view value) ≡ Some x
    → option_map (λ rest. (stated ++ x ∷ []) ++ rest) (all_of states (items_view (drop (place + 1) values)))
    ≡ option_map (λ rest. stated ++ rest) (all_of states (items_view (drop place values)))
states_more states place values value stated x is lt e =
    regroup stated x (all_of states (items_view (drop (place + 1) values)))
    ∙ ap (λ o. option_map (λ rest. stated ++ rest) (before o (all_of states (items_view (drop (place + 1) values))))) (sym e ∙ ap (λ v. states (view v)) is)
    ∙ ap (λ ds. option_map (λ rest. stated ++ rest) (all_of states ds)) (sym (items_view-drop values place value lt))

-- the same, where what an item states depends on its place
pub each_more : {A : Type 0} (states : ℕ → Data → Option A) (place : ℕ) (values : List Value) (value : Value) (stated : List A) (x : A)
    → value ≡ get_or values place value → place < length values → states place (view value) ≡ Some x
    → option_map (λ rest. (stated ++ x ∷ []) ++ rest) (each_of states (place + 1) (items_view (drop (place + 1) values)))
    ≡ option_map (λ rest. stated ++ rest) (each_of states place (items_view (drop place values)))
each_more states place values value stated x is lt e =
    regroup stated x (each_of states (place + 1) (items_view (drop (place + 1) values)))
    ∙ ap (λ o. option_map (λ rest. stated ++ rest) (before o (each_of states (place + 1) (items_view (drop (place + 1) values)))))
    (sym e ∙ ap (λ v. states place (view v)) is)
    ∙ ap (λ ds. option_map (λ rest. stated ++ rest) (each_of states place ds)) (sym (items_view-drop values place value lt))

-- what comes first and the rest
before_parts : {A : Type 0} (first : Option A) (rest : Option (List A)) (x : A) (xs : List A) → before first rest ≡ Some (x ∷ xs)
    → (first ≡ Some x) × (rest ≡ Some xs)
before_parts None rest x xs e = (cc)
before_parts (Some y) None x xs e = (cc)
before_parts (Some y) (Some ys) x xs e = ((cc), (cc))

-- one item less
pub states_less : {A : Type 0} (states : Data → Option A) (place : ℕ) (values : List Value) (value : Value) (x : A) (xs : List A)
    → value ≡ get_or values place value → place < length values → all_of states (items_view (drop place values)) ≡ Some (x ∷ xs)
    → (states (view value) ≡ Some x) × (all_of states (items_view (drop (place + 1) values)) ≡ Some xs)
states_less states place values value x xs is lt e =
    before_parts (states (view value)) (all_of states (items_view (drop (place + 1) values))) x xs
    (ap (λ v. before (states (view v)) (all_of states (items_view (drop (place + 1) values)))) is
    ∙ ap (all_of states) (sym (items_view-drop values place value lt))
    ∙ e)

-- as many as there are items
counted_before : {A : Type 0} (first : Option A) (rest : Option (List A)) (n : ℕ) (xs : List A) → before first rest ≡ Some xs
    → ((ys : List A) → rest ≡ Some ys → length ys ≡ n) → length xs ≡ 1 + n
counted_before None rest n xs e h = (cc)
counted_before (Some x) None n xs e h = (cc)
counted_before (Some x) (Some ys) n xs e h =
    let same : x ∷ ys ≡ xs = cc in
    let rest : length ys ≡ n = h ys refl in
    let whole : length (x ∷ ys) ≡ length xs = ap length same in
    omega arith

pub all_counted : {A : Type 0} (states : Data → Option A) (values : List Value) (xs : List A) → all_of states (items_view values) ≡ Some xs
    → length xs ≡ length values
all_counted states [] xs e = let none : [] ≡ xs = cc in sym (ap length none)
all_counted states (v ∷ values) xs e =
    let whole : length xs ≡ 1 + length values =
    counted_before (states (view v)) (all_of states (items_view values)) (length values) xs e (all_counted states values) in
    omega arith

-- a place within the allowed number, and something stated there
pub within : {A : Type 0} (most place : ℕ) (found : Option A) (x : A) → place < most → found ≡ Some x → (nat_le most place || is_none found) ≡ false
within most place found x lt e = rw e (grind (arith, nat_tests))

pub one_more : {A : Type 0} (stated : List A) (x : A) (n : ℕ) → length stated ≡ n → length (stated ++ x ∷ []) ≡ n + 1
one_more stated x n e = omega (arith, e, length-append stated (x ∷ []))
