-- Numbers that stand once in a list, and who puts them there.
use Rattle.std.proofs.Common.{ℕ, zero, suc, ◌≡◌, ◌+◌, ◌<◌, ◌≤◌, ◌⊎◌, inl, inr, List, [], ◌∷◌, ◌++◌, length, true, false, ◌==◌, All, Some, slice_get, ap, sym, ◌∙◌, refl, subst, arith, eqb}
use Rattle.std.specs.Prelude.{Contains}
use Rattle.std.specs.List.{flat_map, list_any, AllByRecursion, IsDistinct}
use Rattle.std.proofs.lemmas.Bool.{cases_lt, cases_eq, or_cases, eqb-true, eq-eqb, ne_eqb, cond-true, cond-false}
use Rattle.std.proofs.lemmas.List.{length-append, length-map}
use Rattle.std.proofs.lemmas.List.Concat.{flat_map_single}
use Rattle.std.proofs.lemmas.List.Elements.{All-contains}
use Rattle.std.proofs.lemmas.Map.Steps.{length-le_from_distinct_below}
use Rattle.std.proofs.lemmas.Option.{same_Some, slice_get_within, get_or_from_slice_get}
use Rattle.tl_edge.specs.declared.plan.Leaf.{Leaf}
use Rattle.tl_edge.specs.declared.plan.PlanPort.{PlanPort}
use Rattle.tl_edge.specs.Plans.{times, port_edges}

-- ---- how often a number stands in a list

times_here : (e x : ℕ) (xs : List ℕ) → e ≡ x → times e (x ∷ xs) ≡ suc (times e xs)
times_here e x xs h = omega (arith, cond-true {A = ℕ} (e == x) 1 0 (eq-eqb e x h))

times_other : (e x : ℕ) (xs : List ℕ) → (e ≡ x → ⊥) → times e (x ∷ xs) ≡ times e xs
times_other e x xs h = omega (arith, cond-false {A = ℕ} (e == x) 1 0 (ne_eqb e x h))

times-append : (e : ℕ) (xs ys : List ℕ) → times e (xs ++ ys) ≡ times e xs + times e ys
times-append e [] ys = omega arith
times-append e (x ∷ xs) ys = omega (arith, times-append e xs ys)

pub times_some : (e : ℕ) (xs : List ℕ) → 1 ≤ times e xs → (place : ℕ) × (slice_get xs place ≡ Some e)
times_some e [] h = absurd (omega arith)
times_some e (x ∷ xs) h = elim (cases_eq e x) [
  | inl here ↦ (0, ap (λ (n : ℕ). Some n) (sym here))
  | inr other ↦ let rest = times_some e xs (omega (arith, times_other e x xs other)) in (suc rest.0, rest.1)
]

times_has : (e : ℕ) (xs : List ℕ) (place : ℕ) → slice_get xs place ≡ Some e → 1 ≤ times e xs
times_has e [] place h = absurd cc
times_has e (x ∷ xs) zero h = omega (arith, times_here e x xs (sym (same_Some x e h)))
times_has e (x ∷ xs) (suc place) h = omega (arith, times_has e xs place h)

times_twice : (e : ℕ) (xs : List ℕ) (p q : ℕ) → slice_get xs p ≡ Some e → slice_get xs q ≡ Some e → times e xs ≤ 1 → p ≡ q
times_twice e [] p q h k few = absurd cc
times_twice e (x ∷ xs) zero zero h k few = refl
times_twice e (x ∷ xs) zero (suc q) h k few = absurd (omega (arith, times_here e x xs (sym (same_Some x e h)), times_has e xs q k))
times_twice e (x ∷ xs) (suc p) zero h k few = absurd (omega (arith, times_here e x xs (sym (same_Some x e k)), times_has e xs p h))
times_twice e (x ∷ xs) (suc p) (suc q) h k few = ap (λ (n : ℕ). suc n) (times_twice e xs p q h k (omega arith))

-- ---- lists that are put together from those of items

-- an item has the number at a place
abbrev pub Stands : {A : Type 0} → (A → List ℕ) → List A → ℕ → ℕ → ℕ → Type 0
Stands {A = A} f xs e k p = (x : A) × (slice_get xs k ≡ Some x) × (slice_get (f x) p ≡ Some e)

flat_some : {A : Type 0} (f : A → List ℕ) (e : ℕ) (xs : List A) → 1 ≤ times e (flat_map f xs) → (k : ℕ) × ((p : ℕ) × Stands f xs e k p)
flat_some f e [] h = absurd (omega arith)
flat_some f e (x ∷ xs) h = elim (cases_lt 0 (times e (f x))) [
  | inl here ↦ let at = times_some e (f x) (omega (arith, here)) in (0, (at.0, (x, refl, at.1)))
  | inr none ↦ let rest = flat_some f e xs (omega (arith, times-append e (f x) (flat_map f xs), none)) in (suc rest.0, (rest.1.0, rest.1.1))
]

flat_has : {A : Type 0} (f : A → List ℕ) (e : ℕ) (xs : List A) (k p : ℕ) → Stands f xs e k p → 1 ≤ times e (flat_map f xs)
flat_has f e [] k p s = absurd (cc s.1)
flat_has f e (x ∷ xs) zero p s =
    let here : slice_get (f x) p ≡ Some e = subst (λ y. slice_get (f y) p ≡ Some e) (sym (same_Some x s.0 s.1)) s.2 in
    omega (arith, times-append e (f x) (flat_map f xs), times_has e (f x) p here)
flat_has f e (x ∷ xs) (suc k) p s = omega (arith, times-append e (f x) (flat_map f xs), flat_has f e xs k p s)

flat_twice : {A : Type 0} (f : A → List ℕ) (e : ℕ) (xs : List A) (k l p q : ℕ) → Stands f xs e k p → Stands f xs e l q → times e (flat_map f xs) ≤ 1 → (k ≡ l) × (p ≡ q)
flat_twice f e [] k l p q s t few = absurd (cc s.1)
flat_twice f e (x ∷ xs) zero zero p q s t few =
    let here : slice_get (f x) p ≡ Some e = subst (λ y. slice_get (f y) p ≡ Some e) (sym (same_Some x s.0 s.1)) s.2 in
    let there : slice_get (f x) q ≡ Some e = subst (λ y. slice_get (f y) q ≡ Some e) (sym (same_Some x t.0 t.1)) t.2 in
    (refl, times_twice e (f x) p q here there (omega (arith, times-append e (f x) (flat_map f xs))))
flat_twice f e (x ∷ xs) zero (suc l) p q s t few =
    let here : slice_get (f x) p ≡ Some e = subst (λ y. slice_get (f y) p ≡ Some e) (sym (same_Some x s.0 s.1)) s.2 in
    absurd (omega (arith, times-append e (f x) (flat_map f xs), times_has e (f x) p here, flat_has f e xs l q t))
flat_twice f e (x ∷ xs) (suc k) zero p q s t few =
    let there : slice_get (f x) q ≡ Some e = subst (λ y. slice_get (f y) q ≡ Some e) (sym (same_Some x t.0 t.1)) t.2 in
    absurd (omega (arith, times-append e (f x) (flat_map f xs), times_has e (f x) q there, flat_has f e xs k p s))
flat_twice f e (x ∷ xs) (suc k) (suc l) p q s t few =
    let rest = flat_twice f e xs k l p q s t (omega (arith, times-append e (f x) (flat_map f xs))) in
    (ap (λ (n : ℕ). suc n) rest.0, rest.1)

-- ---- leaves and ports

-- a port has the edge
abbrev pub PortAt : List PlanPort → ℕ → ℕ → Type 0
PortAt ports e port = (at : PlanPort) × (slice_get ports port ≡ Some at) × (at.edge ≡ e)

abbrev single : PlanPort → List ℕ
single port = port.edge ∷ []

ports_as_lists : (e : ℕ) (ports : List PlanPort) → times e (flat_map single ports) ≡ times e (port_edges ports)
ports_as_lists e ports = ap (times e) (flat_map_single (λ (port : PlanPort). port.edge) ports)

only_place : (x e p : ℕ) → slice_get (x ∷ []) p ≡ Some e → (p ≡ 0) × (x ≡ e)
only_place x e zero h = (refl, same_Some x e h)
only_place x e (suc p) h = absurd cc

port_some : (e : ℕ) (ports : List PlanPort) → 1 ≤ times e (port_edges ports) → (port : ℕ) × PortAt ports e port
port_some e ports h =
    let s = flat_some single e ports (omega (arith, h, ports_as_lists e ports)) in
    (s.0, (s.1.1.0, s.1.1.1, (only_place s.1.1.0.edge e s.1.0 s.1.1.2).1))

as_list : (e : ℕ) (ports : List PlanPort) (port : ℕ) → PortAt ports e port → Stands single ports e port 0
as_list e ports port s = (s.0, s.1, ap (λ (n : ℕ). Some n) s.2)

port_has : (e : ℕ) (ports : List PlanPort) (port : ℕ) → PortAt ports e port → 1 ≤ times e (port_edges ports)
port_has e ports port s = omega (arith, flat_has single e ports port 0 (as_list e ports port s), ports_as_lists e ports)

port_twice : (e : ℕ) (ports : List PlanPort) (k l : ℕ) → PortAt ports e k → PortAt ports e l → times e (port_edges ports) ≤ 1 → k ≡ l
port_twice e ports k l s t few = (flat_twice single e ports k l 0 0 (as_list e ports k s) (as_list e ports l t) (omega (arith, few, ports_as_lists e ports))).0

-- a leaf alone has the edge, at one place
pub record AtLeaf (side : Leaf → List ℕ) (leaves : List Leaf) (ports : List PlanPort) (e : ℕ) : Type 0 where
  pub leaf : ℕ
  pub place : ℕ
  pub is : Stands side leaves e leaf place
  pub one : (l q : ℕ) → Stands side leaves e l q → (l ≡ leaf) × (q ≡ place)
  pub none : (port : ℕ) → PortAt ports e port → ⊥

-- a port alone has it
pub record AtPort (side : Leaf → List ℕ) (leaves : List Leaf) (ports : List PlanPort) (e : ℕ) : Type 0 where
  pub port : ℕ
  pub is : PortAt ports e port
  pub one : (l : ℕ) → PortAt ports e l → l ≡ port
  pub none : (l q : ℕ) → Stands side leaves e l q → ⊥

pub one_end : (side : Leaf → List ℕ) (leaves : List Leaf) (ports : List PlanPort) (e : ℕ) → times e (flat_map side leaves ++ port_edges ports) ≡ 1
    → AtLeaf side leaves ports e ⊎ AtPort side leaves ports e
one_end side leaves ports e once =
    let sum : times e (flat_map side leaves) + times e (port_edges ports) ≡ 1 = sym (times-append e (flat_map side leaves) (port_edges ports)) ∙ once in
    elim (cases_lt 0 (times e (flat_map side leaves))) [
      | inl some ↦
          let s = flat_some side e leaves (omega (arith, some)) in
          inl (record {
            leaf = s.0;
            place = s.1.0;
            is = s.1.1;
            one = λ l q t. flat_twice side e leaves l s.0 q s.1.0 t s.1.1 (omega (arith, sum));
            none = λ port t. omega (arith, sum, some, port_has e ports port t);
          })
      | inr absent ↦
          let s = port_some e ports (omega (arith, sum, absent)) in
          inr (record {
            port = s.0;
            is = s.1;
            one = λ l t. port_twice e ports l s.0 t s.1 (omega (arith, sum));
            none = λ l q t. omega (arith, absent, flat_has side e leaves l q t);
          })
    ]

-- ---- what stands once is as much as there is room for

none_again : (x : ℕ) (xs : List ℕ) → times x xs ≡ 0 → AllByRecursion (λ y. eqb x y ≡ false) xs
none_again x [] h = tt
none_again x (y ∷ ys) h = elim (cases_eq x y) [
  | inl here ↦ absurd (omega (arith, h, times_here x y ys here))
  | inr other ↦ (ne_eqb x y other, none_again x ys (omega (arith, h, times_other x y ys other)))
]

distinct : (xs : List ℕ) → ((e : ℕ) → times e xs ≤ 1) → IsDistinct eqb xs
unfolding IsDistinct
distinct [] few = tt
distinct (x ∷ xs) few =
    (none_again x xs (omega (arith, few x, times_here x x xs refl)), distinct xs (λ e. omega (arith, few e)))

pub item_place : (xs : List ℕ) (e place : ℕ) → slice_get xs place ≡ Some e → Contains xs e
item_place xs e place h = (place, slice_get_within xs place e h, get_or_from_slice_get xs place e e h)

all_few : (xs : List ℕ) (bound : ℕ) → All (λ e. e < bound) xs → ((e : ℕ) → e < bound → times e xs ≡ 1) → (e : ℕ) → times e xs ≤ 1
all_few xs bound below once e = elim (cases_lt e bound) [
  | inl within ↦ omega (arith, once e within)
  | inr beyond ↦ elim (cases_lt 0 (times e xs)) [
    | inl some ↦
        let at = times_some e xs (omega (arith, some)) in
        let inside : e < bound = All-contains (λ n. n < bound) xs e below (item_place xs e at.0 at.1) in
        absurd (omega (arith, beyond, inside))
    | inr none ↦ omega (arith, none)
  ]
]

is_listed : (xs : List ℕ) (bound q : ℕ) → All (λ e. e < bound) xs → Contains xs q → q < bound
is_listed xs bound q below at = All-contains (λ n. n < bound) xs q below at

length-le_flat_map : {A : Type 0} (f : A → List ℕ) (xs : List A) → All (λ x. 1 ≤ length (f x)) xs → length xs ≤ length (flat_map f xs)
length-le_flat_map f [] some = omega arith
length-le_flat_map {A = A} f (x ∷ xs) some =
    let first : 1 ≤ length (f x) = some 0 x (omega arith) in
    let rest : length xs ≤ length (flat_map f xs) = length-le_flat_map f xs (λ k d below. some (suc k) d (omega (arith, below))) in
    omega (arith, first, rest, length-append (f x) (flat_map f xs))

any_listed : (q : ℕ) (xs : List ℕ) → list_any (eqb q) xs ≡ true → Contains xs q
any_listed q [] h = absurd cc
any_listed q (x ∷ xs) h = elim (or_cases (eqb q x) (list_any (eqb q) xs) h) [
  | inl here ↦ (0, omega arith, sym (eqb-true q x here))
  | inr later ↦ let rest = any_listed q xs later in (suc rest.0, omega (arith, rest.1), rest.2)
]

-- distinct numbers below a bound are no more than it
pub few_distinct : (xs : List ℕ) (bound : ℕ) → IsDistinct eqb xs → All (λ e. e < bound) xs → length xs ≤ bound
few_distinct xs bound apart below = length-le_from_distinct_below xs bound apart (λ q h. is_listed xs bound q below (any_listed q xs h))

-- where each leaf has an end, there are no more leaves and ports than numbers
pub few_ends : (side : Leaf → List ℕ) (leaves : List Leaf) (ports : List PlanPort) (bound : ℕ) → All (λ leaf. 1 ≤ length (side leaf)) leaves
    → All (λ e. e < bound) (flat_map side leaves ++ port_edges ports) → ((e : ℕ) → e < bound → times e (flat_map side leaves ++ port_edges ports) ≡ 1)
    → length leaves + length ports ≤ bound
few_ends side leaves ports bound some below once =
    let all : List ℕ = flat_map side leaves ++ port_edges ports in
    let few : length (flat_map side leaves ++ port_edges ports) ≤ bound =
    few_distinct (flat_map side leaves ++ port_edges ports) bound (distinct (flat_map side leaves ++ port_edges ports) (all_few (flat_map side leaves ++ port_edges ports) bound below once)) below in
    omega (arith, few, length-append (flat_map side leaves) (port_edges ports), length-map ports (λ (port : PlanPort). port.edge), length-le_flat_map side leaves some)

-- what a leaf or a port has is in the list of all
pub leaf_listed : (side : Leaf → List ℕ) (leaves : List Leaf) (ports : List PlanPort) (e leaf place : ℕ) → Stands side leaves e leaf place → Contains (flat_map side leaves ++ port_edges ports) e
leaf_listed side leaves ports e leaf place s =
    let at = times_some e (flat_map side leaves ++ port_edges ports) (omega (arith, flat_has side e leaves leaf place s, times-append e (flat_map side leaves) (port_edges ports))) in
    item_place (flat_map side leaves ++ port_edges ports) e at.0 at.1

pub port_listed : (side : Leaf → List ℕ) (leaves : List Leaf) (ports : List PlanPort) (e port : ℕ) → PortAt ports e port → Contains (flat_map side leaves ++ port_edges ports) e
port_listed side leaves ports e port s =
    let at = times_some e (flat_map side leaves ++ port_edges ports) (omega (arith, port_has e ports port s, times-append e (flat_map side leaves) (port_edges ports))) in
    item_place (flat_map side leaves ++ port_edges ports) e at.0 at.1
