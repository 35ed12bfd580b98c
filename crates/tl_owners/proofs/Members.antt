-- Members of lists, one by one.
use Rattle.std.proofs.Common.{◌≡◌, ℕ, zero, suc, ◌≤◌, ◌+◌, Bool, true, false, cond, ◌==◌, List, [], ◌∷◌, ◌++◌, map, Some, refl, sym, subst, arith, ◌⊎◌, inl, inr}
use Rattle.std.specs.Prelude.{slice_get, All, Contains}
use Rattle.std.specs.List.{flat_map}
use Rattle.std.proofs.lemmas.Bool.{eqb-true}
use Rattle.std.proofs.lemmas.List.Elements.{All-nil, All-cons, All-head, All-tail, Contains-append_left, Contains-append_right}
use Rattle.tl_edge.specs.declared.plan.PlanPort.{PlanPort}
use Rattle.tl_edge.specs.Plans.{port_edges, times}

-- the number is one of these
abbrev pub In : ℕ → List ℕ → Type 0
In x [] = ⊥
In x (y ∷ ys) = (x ≡ y) ⊎ In x ys

pub contains_in : (xs : List ℕ) (x : ℕ) → Contains xs x → In x xs
contains_in [] x h = let l = h.1 in absurd (omega arith)
contains_in (y ∷ ys) x (zero, l, e) = inl (sym e)
contains_in (y ∷ ys) x (suc k, l, e) = inr (contains_in ys x (k, omega arith, e))

pub in_contains : (xs : List ℕ) (x : ℕ) → In x xs → Contains xs x
in_contains [] x h = absurd h
in_contains (y ∷ ys) x (inl e) = (zero, omega arith, sym e)
in_contains (y ∷ ys) x (inr i) = let c = in_contains ys x i in (suc c.0, omega arith, c.2)

pub times_in : (n : ℕ) (xs : List ℕ) → 1 ≤ times n xs → In n xs
times_in n [] h = absurd (omega arith)
times_in n (x ∷ xs) h = at (n == x) refl h (λ l. times_in n xs l)
  where
    at : (b : Bool) → (n == x) ≡ b → 1 ≤ cond b 1 0 + times n xs → (1 ≤ times n xs → In n xs) → In n (x ∷ xs)
    at true q h f = inl (eqb-true n x q)
    at false q h f = inr (f (omega (arith, h)))

pub in_joined : (n : ℕ) (xs ys : List ℕ) → In n (xs ++ ys) → In n xs ⊎ In n ys
in_joined n [] ys i = inr i
in_joined n (x ∷ xs) ys (inl e) = inl (inl e)
in_joined n (x ∷ xs) ys (inr i) = elim (in_joined n xs ys i) [ inl j ↦ inl (inr j) | inr j ↦ inr j ]

pub record FromItem {A : Type 0} (f : A → List ℕ) (xs : List A) (n : ℕ) : Type 0 where
  pub place : ℕ
  pub item : A
  pub is : slice_get xs place ≡ Some item
  pub has : In n (f item)

pub in_some : {A : Type 0} (f : A → List ℕ) (xs : List A) (n : ℕ) → In n (flat_map f xs) → FromItem f xs n
in_some f [] n i = absurd i
in_some f (x ∷ xs) n i = elim (in_joined n (f x) (flat_map f xs) i) [
  | inl j ↦ record { place = 0; item = x; is = refl; has = j }
  | inr j ↦ let r = in_some f xs n j in record { place = suc r.place; item = r.item; is = r.is; has = r.has }
]

pub record AtPort (ports : List PlanPort) (n : ℕ) : Type 0 where
  pub place : ℕ
  pub port : PlanPort
  pub is : slice_get ports place ≡ Some port
  pub edge : port.edge ≡ n

pub in_port : (ports : List PlanPort) (n : ℕ) → In n (port_edges ports) → AtPort ports n
in_port [] n i = absurd i
in_port (p ∷ ports) n (inl e) = record { place = 0; port = p; is = refl; edge = sym e }
in_port (p ∷ ports) n (inr i) = let r = in_port ports n i in record { place = suc r.place; port = r.port; is = r.is; edge = r.edge }

pub all_in : (P : ℕ → Type 0) (xs : List ℕ) → ((y : ℕ) → In y xs → P y) → All P xs
all_in P [] h = All-nil P
all_in P (x ∷ xs) h = All-cons P x xs (h x (inl refl)) (all_in P xs (λ y i. h y (inr i)))

pub in_all : (P : ℕ → Type 0) (xs : List ℕ) (y : ℕ) → All P xs → In y xs → P y
in_all P [] y h i = absurd i
in_all P (x ∷ xs) y h (inl e) = subst P (sym e) (All-head P x xs h)
in_all P (x ∷ xs) y h (inr i) = in_all P xs y (All-tail P x xs h) i

-- of mapped numbers
pub mapped : {B : Type 0} (f : ℕ → B) (P : B → Type 0) (xs : List ℕ) (y : ℕ) → All P (map f xs) → In y xs → P (f y)
mapped f P [] y h i = absurd i
mapped f P (x ∷ xs) y h (inl e) = subst (λ n. P (f n)) (sym e) (All-head P (f x) (map f xs) h)
mapped f P (x ∷ xs) y h (inr i) = mapped f P xs y (All-tail P (f x) (map f xs) h) i

pub contains_mapped : {B : Type 0} (f : ℕ → B) (xs : List ℕ) (y : ℕ) → In y xs → Contains (map f xs) (f y)
contains_mapped f [] y i = absurd i
contains_mapped f (x ∷ xs) y (inl e) = subst (λ n. Contains (map f (x ∷ xs)) (f n)) (sym e) (zero, omega arith, refl)
contains_mapped f (x ∷ xs) y (inr i) = Contains-append_right (f x ∷ []) (map f xs) (f y) (contains_mapped f xs y i)

pub item_has : {A : Type 0} (P : A → Type 0) (xs : List A) (k : ℕ) (x : A) → All P xs → slice_get xs k ≡ Some x → P x
item_has P [] k x h e = absurd cc
item_has P (y ∷ xs) zero x h e = let q : y ≡ x = cc in subst P q (All-head P y xs h)
item_has P (y ∷ xs) (suc k) x h e = item_has P xs k x (All-tail P y xs h) e

-- what an item of a list gives is given by the list
pub given_by : {A B : Type 0} (f : A → List B) (xs : List A) (place : ℕ) (x : A) (y : B) → slice_get xs place ≡ Some x → Contains (f x) y → Contains (flat_map f xs) y
given_by f [] place x y is h = absurd cc
given_by f (a ∷ xs) zero x y is h =
    let e : a ≡ x = cc in
    Contains-append_left (f a) (flat_map f xs) y (subst (λ z. Contains (f z) y) (sym e) h)
given_by f (a ∷ xs) (suc place) x y is h = Contains-append_right (f a) (flat_map f xs) y (given_by f xs place x y is h)
