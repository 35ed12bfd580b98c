-- The names of all ports of a sound plan differ.
use Rattle.std.proofs.Common.{◌≡◌, ◌≢◌, ℕ, zero, suc, ◌<◌, Bool, true, false, not, ◌&&◌, ◌==◌, List, [], ◌∷◌, ◌++◌, length, map, flat_map, get_or, refl, sym, ap, ◌∙◌, subst, arith, eq-eqb}
use Rattle.std.specs.Prelude.{All, AllPairs, codes}
use Rattle.std.specs.List.{AllByRecursion}
use Rattle.std.proofs.lemmas.List.{append_assoc, map-append}
use Rattle.tl_edge.specs.declared.plan.PlanPort.{PlanPort}
use Rattle.tl_edge.specs.declared.plan.Plan.{Plan}
use Rattle.tl_edge.specs.SoundPlans.{AreApart, IsShort, IsSound}
use Rattle.net_cells.specs.declared.netlist.Port.{Port}
use Rattle.net_build.specs.Sound.{Differ}
use Rattle.net_ports.specs.declared.field.Field.{Field}
use Rattle.net_ports.specs.declared.field.Field.TheVariants.{AReady, AValid, AOpcode, AParam, ASize, ASource, AAddress, AMask, AData, DReady, DValid, DOpcode, DSize, DSource, DDenied, DData}
use Rattle.net_ports.specs.Fields.{field_name}
use Rattle.net_ports.specs.Names.{NamesLaw, names_of}
use Rattle.net_ports.specs.Ports.{port_inputs, port_outputs, reset_input, sink_inputs, sink_outputs, source_inputs, source_outputs, wire_name}
use Rattle.net_ports.proofs.Told.{head_same, name_told}

-- ---- lists of texts, by recursion

-- no text of one list is one of another
abbrev Across : List (List ℕ) → List (List ℕ) → Type 0
Across [] ys = Unit {0}
Across (x ∷ xs) ys = AllByRecursion (λ y. x ≢ y) ys × Across xs ys

each_both : (P : List ℕ → Type 0) (xs ys : List (List ℕ)) → AllByRecursion P xs → AllByRecursion P ys → AllByRecursion P (xs ++ ys)
each_both P [] ys h g = g
each_both P (x ∷ xs) ys h g = (h.0, each_both P xs ys h.1 g)

each_front : (P : List ℕ → Type 0) (xs ys : List (List ℕ)) → AllByRecursion P (xs ++ ys) → AllByRecursion P xs
each_front P [] ys h = search
each_front P (x ∷ xs) ys h = (h.0, each_front P xs ys h.1)

each_back : (P : List ℕ → Type 0) (xs ys : List (List ℕ)) → AllByRecursion P (xs ++ ys) → AllByRecursion P ys
each_back P [] ys h = h
each_back P (x ∷ xs) ys h = each_back P xs ys h.1

across_left : (xs ys zs : List (List ℕ)) → Across xs zs → Across ys zs → Across (xs ++ ys) zs
across_left [] ys zs h g = g
across_left (x ∷ xs) ys zs h g = (h.0, across_left xs ys zs h.1 g)

across_right : (xs ys zs : List (List ℕ)) → Across xs ys → Across xs zs → Across xs (ys ++ zs)
across_right [] ys zs h g = tt
across_right (x ∷ xs) ys zs h g = (each_both (λ y. x ≢ y) ys zs h.0 g.0, across_right xs ys zs h.1 g.1)

across_none : (xs : List (List ℕ)) → Across xs []
across_none [] = tt
across_none (x ∷ xs) = (search, across_none xs)

differ_both : (xs ys : List (List ℕ)) → Differ xs → Differ ys → Across xs ys → Differ (xs ++ ys)
differ_both [] ys h g a = g
differ_both (x ∷ xs) ys h g a = (each_both (λ y. x ≢ y) xs ys h.0 a.0, differ_both xs ys h.1 g a.1)

differ_front : (xs ys : List (List ℕ)) → Differ (xs ++ ys) → Differ xs
differ_front [] ys h = search
differ_front (x ∷ xs) ys h = (each_front (λ y. x ≢ y) xs ys h.0, differ_front xs ys h.1)

differ_back : (xs ys : List (List ℕ)) → Differ (xs ++ ys) → Differ ys
differ_back [] ys h = h
differ_back (x ∷ xs) ys h = differ_back xs ys h.1

differ_across : (xs ys : List (List ℕ)) → Differ (xs ++ ys) → Across xs ys
differ_across [] ys h = tt
differ_across (x ∷ xs) ys h = (each_back (λ y. x ≢ y) xs ys h.0, differ_across xs ys h.1)

-- ---- one port

-- two texts are the same, by a test
abbrev same_text : List ℕ → List ℕ → Bool
same_text [] [] = true
same_text [] (y ∷ ys) = false
same_text (x ∷ xs) [] = false
same_text (x ∷ xs) (y ∷ ys) = (x == y) && same_text xs ys

same_self : (xs : List ℕ) → same_text xs xs ≡ true
same_self [] = refl
same_self (x ∷ xs) = ap (λ (c : Bool). c && same_text xs xs) (eq-eqb x x refl) ∙ same_self xs

told_apart : (x y : List ℕ) → same_text x y ≡ false → x ≢ y
told_apart x y h e = let k : true ≡ false = sym (subst (λ (z : List ℕ). same_text x z ≡ true) e (same_self x)) ∙ h in cc

abbrev unlike : List ℕ → List (List ℕ) → Bool
unlike x [] = true
unlike x (y ∷ ys) = not (same_text x y) && unlike x ys

abbrev all_unlike : List (List ℕ) → Bool
all_unlike [] = true
all_unlike (x ∷ xs) = unlike x xs && all_unlike xs

and_parts : (a b : Bool) → (a && b) ≡ true → (a ≡ true) × (b ≡ true)
and_parts true b e = (refl, e)
and_parts false b e = absurd (let x : false ≡ true = e in cc)

not_true : (a : Bool) → not a ≡ true → a ≡ false
not_true true e = absurd (let x : false ≡ true = e in cc)
not_true false e = refl

unlike_each : (x : List ℕ) (ys : List (List ℕ)) → unlike x ys ≡ true → AllByRecursion (λ y. x ≢ y) ys
unlike_each x [] e = search
unlike_each x (y ∷ ys) e = let p = and_parts (not (same_text x y)) (unlike x ys) e in (told_apart x y (not_true (same_text x y) p.0), unlike_each x ys p.1)

unlike_differ : (xs : List (List ℕ)) → all_unlike xs ≡ true → Differ xs
unlike_differ [] e = search
unlike_differ (x ∷ xs) e = let p = and_parts (unlike x xs) (all_unlike xs) e in (unlike_each x xs p.0, unlike_differ xs p.1)

-- the fields of a request's row and of a response's
abbrev down_row : List Field
down_row = AValid ∷ AOpcode ∷ AParam ∷ ASize ∷ ASource ∷ AAddress ∷ AMask ∷ AData ∷ DReady ∷ []

abbrev up_row : List Field
up_row = AReady ∷ DValid ∷ DOpcode ∷ DSize ∷ DSource ∷ DDenied ∷ DData ∷ []

abbrev row_names : List Field → PlanPort → List (List ℕ)
row_names fields at = map (wire_name at) fields

down_up : Differ (map field_name (down_row ++ up_row))
down_up = unlike_differ (map field_name (down_row ++ up_row)) refl

up_down : Differ (map field_name (up_row ++ down_row))
up_down = unlike_differ (map field_name (up_row ++ down_row)) refl

one_other : (at : PlanPort) (field : Field) (fields : List Field) → at.port < 64 → AllByRecursion (λ y. field_name field ≢ y) (map field_name fields) → AllByRecursion (λ y. wire_name at field ≢ y) (map (wire_name at) fields)
one_other at field [] l h = search
one_other at field (other ∷ fields) l h = (λ e. h.0 (name_told at at field other l l e).told, one_other at field fields l h.1)

row_differs : (at : PlanPort) (fields : List Field) → at.port < 64 → Differ (map field_name fields) → Differ (row_names fields at)
row_differs at [] l h = search
row_differs at (field ∷ fields) l h = (one_other at field fields l h.0, row_differs at fields l h.1)

-- ---- several ports

abbrev IsOf : PlanPort → List ℕ → Type 0
IsOf at x = (field : Field) × (x ≡ wire_name at field)

row_of : (at : PlanPort) (fields : List Field) → AllByRecursion (IsOf at) (row_names fields at)
row_of at [] = search
row_of at (field ∷ fields) = ((field, refl), row_of at fields)

pub record Two (at other : PlanPort) : Type 0 where
  pub apart : AreApart at other
  pub one : IsShort at
  pub two : IsShort other

turned : (at other : PlanPort) → Two at other → Two other at
turned at other h = record {
  apart = record { nodes = λ e f. h.apart.nodes (sym e) (sym f); names = λ e f. h.apart.names (sym e) (sym f) };
  one = h.two;
  two = h.one;
}

names_apart : (at other : PlanPort) (x y : List ℕ) → Two at other → IsOf at x → IsOf other y → x ≢ y
names_apart at other x y h f g e = let s = name_told at other f.0 g.0 h.one.port h.two.port (sym f.1 ∙ e ∙ g.1) in h.apart.names s.name s.port

one_apart : (at other : PlanPort) (x : List ℕ) (ys : List (List ℕ)) → Two at other → IsOf at x → AllByRecursion (IsOf other) ys → AllByRecursion (λ y. x ≢ y) ys
one_apart at other x [] h f g = search
one_apart at other x (y ∷ ys) h f g = (names_apart at other x y h f g.0, one_apart at other x ys h f g.1)

across_apart : (at other : PlanPort) (xs ys : List (List ℕ)) → Two at other → AllByRecursion (IsOf at) xs → AllByRecursion (IsOf other) ys → Across xs ys
across_apart at other [] ys h f g = tt
across_apart at other (x ∷ xs) ys h f g = (one_apart at other x ys h f.0 g, across_apart at other xs ys h f.1 g)

abbrev AllApart : List PlanPort → Type 0
AllApart [] = Unit {0}
AllApart (at ∷ ports) = AllByRecursion (Two at) ports × IsShort at × AllApart ports

one_flat : (at : PlanPort) (f g : List Field) (ports : List PlanPort) → AllByRecursion (Two at) ports → Across (row_names f at) (flat_map (row_names g) ports)
one_flat at f g [] h = across_none (row_names f at)
one_flat at f g (other ∷ ports) h = across_right (row_names f at) (row_names g other) (flat_map (row_names g) ports) (across_apart at other _ _ h.0 (row_of at f) (row_of other g)) (one_flat at f g ports h.1)

flat_one : (at : PlanPort) (f g : List Field) (ports : List PlanPort) → AllByRecursion (Two at) ports → Across (flat_map (row_names f) ports) (row_names g at)
flat_one at f g [] h = tt
flat_one at f g (other ∷ ports) h = across_left (row_names f other) (flat_map (row_names f) ports) (row_names g at) (across_apart other at _ _ (turned at other h.0) (row_of other f) (row_of at g)) (flat_one at f g ports h.1)

two_flat : (f g : List Field) (ports : List PlanPort) → Differ (map field_name (f ++ g)) → AllApart ports → Across (flat_map (row_names f) ports) (flat_map (row_names g) ports)
two_flat f g [] d h = tt
two_flat f g (at ∷ ports) d h =
    let own : Across (row_names f at) (row_names g at) = differ_across (row_names f at) (row_names g at) (subst Differ (map-append (wire_name at) f g) (row_differs at (f ++ g) h.1.port d)) in
    across_left (row_names f at) (flat_map (row_names f) ports) (row_names g at ++ flat_map (row_names g) ports)
    (across_right (row_names f at) (row_names g at) (flat_map (row_names g) ports) own (one_flat at f g ports h.0))
    (across_right (flat_map (row_names f) ports) (row_names g at) (flat_map (row_names g) ports) (flat_one at f g ports h.0) (two_flat f g ports d h.2))

flat_differs : (f : List Field) (ports : List PlanPort) → Differ (map field_name f) → AllApart ports → Differ (flat_map (row_names f) ports)
flat_differs f [] d h = search
flat_differs f (at ∷ ports) d h = differ_both (row_names f at) (flat_map (row_names f) ports) (row_differs at f h.1.port d) (flat_differs f ports d h.2) (one_flat at f f ports h.0)

apart_front : (xs ys : List PlanPort) → AllApart (xs ++ ys) → AllApart xs
apart_front [] ys h = tt
apart_front (x ∷ xs) ys h = (two_front x xs ys h.0, h.1, apart_front xs ys h.2)
  where
    two_front : (at : PlanPort) (xs ys : List PlanPort) → AllByRecursion (Two at) (xs ++ ys) → AllByRecursion (Two at) xs
    two_front at [] ys h = search
    two_front at (x ∷ xs) ys h = (h.0, two_front at xs ys h.1)

apart_back : (xs ys : List PlanPort) → AllApart (xs ++ ys) → AllApart ys
apart_back [] ys h = h
apart_back (x ∷ xs) ys h = apart_back xs ys h.2

two_back : (at : PlanPort) (xs ys : List PlanPort) → AllByRecursion (Two at) (xs ++ ys) → AllByRecursion (Two at) ys
two_back at [] ys h = h
two_back at (x ∷ xs) ys h = two_back at xs ys h.1

cross : (f g : List Field) (xs ys : List PlanPort) → AllApart (xs ++ ys) → Across (flat_map (row_names f) xs) (flat_map (row_names g) ys)
cross f g [] ys h = tt
cross f g (x ∷ xs) ys h = across_left (row_names f x) (flat_map (row_names f) xs) (flat_map (row_names g) ys) (one_flat x f g ys (two_back x xs ys h.0)) (cross f g xs ys h.2)

cross_back : (f g : List Field) (xs ys : List PlanPort) → AllApart (xs ++ ys) → Across (flat_map (row_names f) ys) (flat_map (row_names g) xs)
cross_back f g [] ys h = across_none (flat_map (row_names f) ys)
cross_back f g (x ∷ xs) ys h = across_right (flat_map (row_names f) ys) (row_names g x) (flat_map (row_names g) xs) (flat_one x f g ys (two_back x xs ys h.0)) (cross_back f g xs ys h.2)

-- ---- all ports

apart_each : (at : PlanPort) (ports : List PlanPort) → IsShort at → ((k : ℕ) (d : PlanPort) → k < length ports → AreApart at (get_or ports k d)) → All IsShort ports → AllByRecursion (Two at) ports
apart_each at [] s h k = search
apart_each at (other ∷ ports) s h k = (
  record { apart = h 0 other (omega arith); one = s; two = k 0 other (omega arith) },
  apart_each at ports s (λ i d l. h (suc i) d (omega (arith, l))) (λ i d l. k (suc i) d (omega (arith, l))),
)

all_apart : (ports : List PlanPort) → AllPairs AreApart ports → All IsShort ports → AllApart ports
all_apart [] h k = tt
all_apart (at ∷ ports) h k = (
  apart_each at ports (k 0 at (omega arith)) (λ i d l. h 0 (suc i) d (omega arith) (omega (arith, l))) (λ i d l. k (suc i) d (omega (arith, l))),
  k 0 at (omega arith),
  all_apart ports (λ i j d a b. h (suc i) (suc j) d (omega (arith, a)) (omega (arith, b))) (λ i d l. k (suc i) d (omega (arith, l))),
)

names_flat : (f : PlanPort → List Port) (ports : List PlanPort) → names_of (flat_map f ports) ≡ flat_map (λ at. names_of (f at)) ports
names_flat f [] = refl
names_flat f (at ∷ ports) = map-append (λ (port : Port). port.name) (f at) (flat_map f ports) ∙ ap (λ (xs : List (List ℕ)). names_of (f at) ++ xs) (names_flat f ports)

not_reset : (f : List Field) (ports : List PlanPort) → AllByRecursion (λ y. codes "reset" ≢ y) (flat_map (row_names f) ports)
not_reset f [] = search
not_reset f (at ∷ ports) = each_both (λ y. codes "reset" ≢ y) (row_names f at) (flat_map (row_names f) ports) (own f) (not_reset f ports)
  where
    own : (fields : List Field) → AllByRecursion (λ y. codes "reset" ≢ y) (row_names fields at)
    own [] = search
    own (field ∷ fields) = (λ e. let h : 114 ≡ 112 = head_same 114 112 _ _ e in absurd (omega arith), own fields)

pub names_differ : NamesLaw
names_differ plan sound =
    let s = plan.sources in
    let k = plan.sinks in
    let all = all_apart (s ++ k) sound.apart sound.short in
    let a = flat_map (row_names down_row) s in
    let b = flat_map (row_names up_row) k in
    let c = flat_map (row_names up_row) s in
    let d = flat_map (row_names down_row) k in
    let fs = apart_front s k all in
    let fk = apart_back s k all in
    let da = flat_differs down_row s (differ_front (map field_name down_row) (map field_name up_row) down_up) fs in
    let db = flat_differs up_row k (differ_front (map field_name up_row) (map field_name down_row) up_down) fk in
    let dc = flat_differs up_row s (differ_front (map field_name up_row) (map field_name down_row) up_down) fs in
    let dd = flat_differs down_row k (differ_front (map field_name down_row) (map field_name up_row) down_up) fk in
    let ins = differ_both a b da db (cross down_row up_row s k all) in
    let outs = differ_both c d dc dd (cross up_row down_row s k all) in
    let over = across_left a b (c ++ d) (across_right a c d (two_flat down_row up_row s down_up fs) (cross down_row down_row s k all)) (across_right b c d (cross_back up_row up_row s k all) (two_flat up_row down_row k up_down fk)) in
    let whole : Differ (codes "reset" ∷ ((a ++ b) ++ (c ++ d))) = (
      each_both (λ y. codes "reset" ≢ y) (a ++ b) (c ++ d) (each_both (λ y. codes "reset" ≢ y) a b (not_reset down_row s) (not_reset up_row k)) (each_both (λ y. codes "reset" ≢ y) c d (not_reset up_row s) (not_reset down_row k)),
      differ_both (a ++ b) (c ++ d) ins outs over,
    ) in
    let i : names_of (port_inputs plan) ≡ a ++ b = map-append (λ (port : Port). port.name) (flat_map (source_inputs plan) s) (flat_map (sink_inputs plan) k) ∙ ap (λ (xs : List (List ℕ)). xs ++ names_of (flat_map (sink_inputs plan) k)) (names_flat (source_inputs plan) s) ∙ ap (λ (xs : List (List ℕ)). a ++ xs) (names_flat (sink_inputs plan) k) in
    let o : names_of (port_outputs plan) ≡ c ++ d = map-append (λ (port : Port). port.name) (flat_map (source_outputs plan) s) (flat_map (sink_outputs plan) k) ∙ ap (λ (xs : List (List ℕ)). xs ++ names_of (flat_map (sink_outputs plan) k)) (names_flat (source_outputs plan) s) ∙ ap (λ (xs : List (List ℕ)). c ++ xs) (names_flat (sink_outputs plan) k) in
    subst Differ (sym (map-append (λ (port : Port). port.name) (reset_input ∷ port_inputs plan) (port_outputs plan) ∙ ap (λ (xs : List (List ℕ)). codes "reset" ∷ (xs ++ names_of (port_outputs plan))) i ∙ ap (λ (xs : List (List ℕ)). codes "reset" ∷ ((a ++ b) ++ xs)) o)) whole
