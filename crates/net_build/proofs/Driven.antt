-- A builder in which one more register is driven.
use Rattle.std.proofs.Common.{◌≡◌, ◌≢◌, ℕ, zero, suc, ◌+◌, ◌<◌, ◌⊎◌, inl, inr, Bool, true, false, ◌&&◌, cond, not, List, [], ◌∷◌, length, take, set, get_or, Option, Some, None, is_none, refl, sym, ap, ◌∙◌, subst, arith}
use Rattle.std.specs.Prelude.{slice_get, filter, ◌==◌, Contains, option_map}
use Rattle.std.specs.List.{filter_map}
use Rattle.std.proofs.lemmas.Bool.{cases_eq, eq-eqb, ne_eqb}
use Rattle.std.proofs.lemmas.List.{take_all}
use Rattle.std.proofs.lemmas.Option.{slice_get_within, slice_get-map, slice_get_read, get_or_from_slice_get}
use Rattle.std.proofs.Math.Seq.{map-set_same}
use Rattle.dip_lists.proofs.Tests.{both}
use Rattle.net_build.specs.Built.{numbers_where}
use Rattle.net_cells.specs.Rules.{HasWidth}
use Rattle.net_cells.specs.Values.{op_value}
use Rattle.net_build.specs.declared.types.Kind.TheVariants.{Register}
use Rattle.net_build.specs.declared.types.Item.{Item}
use Rattle.net_build.specs.declared.types.Made.{Made}
use Rattle.net_build.specs.declared.types.Wire.{Wire}
use Rattle.net_build.specs.Built.{Built, items, widths_of, wire_widths, inputs, undriven, is_undriven, is_register, port_of, IsWire, IsRegister}
use Rattle.net_build.specs.Values.{Solves, Later, Drives}
use Rattle.net_build.specs.Sound.{IsWellBuilt, HasNext, IsLowInReset}

pub get_set : {A : Type 0} (xs : List A) (k : ℕ) (x : A) (n : ℕ) (y : A) → slice_get (set xs k x) n ≡ Some y → ((n ≡ k) × (x ≡ y)) ⊎ (slice_get xs n ≡ Some y)
get_set [] k x n y e = inr e
get_set (z ∷ xs) zero x zero y e = inl (refl, cc)
get_set (z ∷ xs) zero x (suc n) y e = inr e
get_set (z ∷ xs) (suc k) x zero y e = inr e
get_set (z ∷ xs) (suc k) x (suc n) y e = elim (get_set xs k x n y e) [
  | inl p ↦ inl (omega (arith, p.0), p.1)
  | inr f ↦ inr f
]

pub get_set_same : {A : Type 0} (xs : List A) (k : ℕ) (x : A) → k < length xs → slice_get (set xs k x) k ≡ Some x
get_set_same [] k x h = absurd (omega arith)
get_set_same (z ∷ xs) zero x h = refl
get_set_same (z ∷ xs) (suc k) x h = get_set_same xs k x (omega arith)

pub get_set_other : {A : Type 0} (xs : List A) (k : ℕ) (x : A) (n : ℕ) → n ≢ k → slice_get (set xs k x) n ≡ slice_get xs n
get_set_other [] k x n h = refl
get_set_other (z ∷ xs) zero x zero h = absurd (h refl)
get_set_other (z ∷ xs) zero x (suc n) h = refl
get_set_other (z ∷ xs) (suc k) x zero h = refl
get_set_other (z ∷ xs) (suc k) x (suc n) h = get_set_other xs k x n (λ e. h (ap suc e))

-- the test of a number that isn't this one
abbrev pub but : ℕ → ℕ → Bool
but k n = not (n == k)

place_filtered : (b : Bool) (n : ℕ) (ps qs : List ℕ) → filter (but n) ps ≡ qs → filter (but n) (cond b (n ∷ ps) ps) ≡ qs
place_filtered true n ps qs e = ap (λ (b : Bool). cond (not b) (n ∷ filter (but n) ps) (filter (but n) ps)) (eq-eqb n n refl) ∙ e
place_filtered false n ps qs e = e

place_kept : (b : Bool) (k n : ℕ) (ps qs : List ℕ) → n ≢ k → filter (but k) ps ≡ qs → filter (but k) (cond b (n ∷ ps) ps) ≡ cond b (n ∷ qs) qs
place_kept true k n ps qs h e = ap (λ (b : Bool). cond (not b) (n ∷ filter (but k) ps) (filter (but k) ps)) (ne_eqb n k h) ∙ ap (λ x. n ∷ x) e
place_kept false k n ps qs h e = e

-- places behind a number are other numbers
later_places : {A : Type 0} (test : A → Bool) (k from : ℕ) (xs : List A) → k < from → filter (but k) (numbers_where test from xs) ≡ numbers_where test from xs
later_places test k from [] h = refl
later_places test k from (x ∷ xs) h = place_kept (test x) k from _ _ (λ e. omega arith) (later_places test k (from + 1) xs (omega arith))

pub places_set : {A : Type 0} (test : A → Bool) (from k : ℕ) (xs : List A) (x : A) → test x ≡ false → k < length xs → numbers_where test from (set xs k x) ≡ filter (but (from + k)) (numbers_where test from xs)
places_set test from k [] x e h = absurd (omega arith)
places_set test from zero (y ∷ xs) x e h =
    let z : from + zero ≡ from = omega arith in
    ap (λ (b : Bool). cond b (from ∷ numbers_where test (from + 1) xs) (numbers_where test (from + 1) xs)) e
    ∙ sym (ap (λ n. filter (but n) (numbers_where test from (y ∷ xs))) z ∙ place_filtered (test y) from (numbers_where test (from + 1) xs) (numbers_where test (from + 1) xs) (later_places test from (from + 1) xs (omega arith)))
places_set test from (suc k) (y ∷ xs) x e h =
    let z : from + 1 + k ≡ from + suc k = omega arith in
    let r : numbers_where test (from + 1) (set xs k x) ≡ filter (but (from + suc k)) (numbers_where test (from + 1) xs) = places_set test (from + 1) k xs x e (omega arith) ∙ ap (λ n. filter (but n) (numbers_where test (from + 1) xs)) z in
    sym (place_kept (test y) (from + suc k) from _ _ (λ e. omega arith) (sym r))

-- what stands at a place that passes the test
pub record PlaceOf {A : Type 0} (test : A → Bool) (from : ℕ) (xs : List A) (n : ℕ) : Type 0 where
  pub place : ℕ
  pub at : n ≡ from + place
  pub item : A
  pub is : slice_get xs place ≡ Some item
  pub passes : test item ≡ true

place_cases : (b : Bool) (from n : ℕ) (ps : List ℕ) (k : ℕ) → k < length (cond b (from ∷ ps) ps) → get_or (cond b (from ∷ ps) ps) k n ≡ n → ((b ≡ true) × (from ≡ n)) ⊎ ((j : ℕ) × (j < length ps) × (get_or ps j n ≡ n))
place_cases true from n ps zero h e = inl (refl, e)
place_cases true from n ps (suc k) h e = inr (k, omega arith, e)
place_cases false from n ps k h e = inr (k, h, e)

pub place_of : {A : Type 0} (test : A → Bool) (from : ℕ) (xs : List A) (n k : ℕ) → k < length (numbers_where test from xs) → get_or (numbers_where test from xs) k n ≡ n → PlaceOf test from xs n
place_of test from [] n k h e = absurd (omega arith)
place_of test from (x ∷ xs) n k h e = elim (place_cases (test x) from n (numbers_where test (from + 1) xs) k h e) [
  | inl p ↦ record { place = zero; at = omega (arith, p.1); item = x; is = refl; passes = p.0 }
  | inr q ↦
      let p = place_of test (from + 1) xs n q.0 q.1 q.2 in
      record { place = suc p.place; at = omega (arith, p.at); item = p.item; is = p.is; passes = p.passes }
]

is_nothing : (o : Option ℕ) → is_none o ≡ true → o ≡ None
is_nothing None e = refl
is_nothing (Some x) e = absurd cc

-- a register that isn't driven yet is a wire with nothing before it
pub free : (b : Built) (r : ℕ) (m : Made) → Contains (undriven b) r → slice_get b.made r ≡ Some m → m.next ≡ None
free b r m c e =
    let p = place_of is_undriven 0 b.made r c.0 c.1 c.2 in
    let f : slice_get b.made r ≡ Some p.item = ap (slice_get b.made) (let q : r ≡ p.place = omega (arith, p.at) in q) ∙ p.is in
    let g : m ≡ p.item = cc in
    rw g (is_nothing p.item.next (both (is_register p.item.item.kind) (is_none p.item.next) p.passes).1)

pub exists : (b : Built) (r : ℕ) → Contains (undriven b) r → r < length b.made
exists b r c =
    let p = place_of is_undriven 0 b.made r c.0 c.1 c.2 in
    omega (arith, p.at, slice_get_within b.made p.place p.item p.is)

-- the builder with a wire put before a register
abbrev pub driven : Built → ℕ → Made → ℕ → Built
driven b r m d = record { name = b.name; made = set b.made r (record { item = m.item; next = Some d }); outputs = b.outputs }

items_driven : (b : Built) (r : ℕ) (m : Made) (d : ℕ) → slice_get b.made r ≡ Some m → items (driven b r m d) ≡ items b
items_driven b r m d e = map-set_same (λ (m : Made). m.item) b.made r (record { item = m.item; next = Some d }) m (ap (λ (m : Made). m.item) (sym (get_or_from_slice_get b.made r m m e)))

solves_driven : (b : Built) (r : ℕ) (m : Made) (d : ℕ) → slice_get b.made r ≡ Some m → (v : ℕ → ℕ) → Solves (driven b r m d) v → Solves b v
solves_driven b r m d e v s =
    let i = items_driven b r m d e in
    record {
      fits = rw (← i) s.fits;
      gates = λ n k op f g. s.gates n k op (rw i f) g ∙ ap (λ (is : List Item). op_value (widths_of is) k.width op v) i;
    }

some_same : (x y : Made) → Some x ≡ Some y → x ≡ y
some_same x y e = cc

some_is : (x y : ℕ) → Some x ≡ Some y → x ≡ y
some_is x y e = cc

none_some : (o : Option ℕ) (d : ℕ) → o ≡ None → o ≡ Some d → ⊥
none_some o d e f = cc

later_driven : (b : Built) (r : ℕ) (m : Made) (d : ℕ) → slice_get b.made r ≡ Some m → m.next ≡ None → Later b (driven b r m d)
later_driven b r m d e f =
    let i = items_driven b r m d e in
    record {
      back = solves_driven b r m d e;
      keeps = λ n k g. rw i g;
      wires = λ n width h. rw i h;
      ticks = λ v u t. record {
        takes = λ n x y g h. elim (cases_eq n r) [
          | inl q ↦ absurd (none_some x.next y (ap (λ (z : Made). z.next) (let p : x ≡ m = some_same x m (sym g ∙ ap (slice_get b.made) q ∙ e) in p) ∙ f) h)
          | inr q ↦ t.takes n x y (get_set_other b.made r (record { item = m.item; next = Some d }) n q ∙ g) h
        ];
      };
      starts = λ v t. record { holds = λ n k g h. t.holds n k (rw i g) h };
      name = refl;
      inputs = ap (take (length (inputs b))) (ap (filter_map port_of) i) ∙ take_all (length (inputs b)) (inputs b) (omega arith);
      outputs = take_all (length b.outputs) b.outputs (omega arith);
    }

pub driven_sound : (b : Built) (r : ℕ) (m : Made) (d width : ℕ) → IsWellBuilt b → slice_get b.made r ≡ Some m → m.item.width ≡ width → m.item.kind ≡ Register → HasWidth (wire_widths b) d width → IsLowInReset b d → IsWellBuilt (driven b r m d)
driven_sound b r m d width s e w kind h l =
    let i = items_driven b r m d e in
    let x : Made = record { item = m.item; next = Some d } in
    record {
      name = s.name;
      reset = rw i s.reset;
      sized = rw i s.sized;
      gates = λ n k op f g. rw i (s.gates n k op (rw (← i) f) g);
      nexts = λ n y z f g. elim (get_set b.made r x n y f) [
        | inl p ↦
            let q : d ≡ z = some_is d z (ap (λ (m : Made). m.next) p.1 ∙ g) in
            let k : HasWidth (wire_widths b) z y.item.width = subst (λ a. HasWidth (wire_widths b) a y.item.width) q (subst (λ a. HasWidth (wire_widths b) d a) (sym w ∙ ap (λ (m : Made). m.item.width) p.1) h) in
            rw i k
        | inr q ↦ rw i (s.nexts n y z q g)
      ];
      held = λ n y z f g. elim (get_set b.made r x n y f) [
        | inl p ↦ sym (ap (λ (m : Made). m.item.kind) p.1) ∙ kind
        | inr q ↦ s.held n y z q g
      ];
      resets = λ n y z f g v q t. elim (get_set b.made r x n y f) [
        | inl p ↦ ap v (some_is z d (sym g ∙ ap (λ (m : Made). m.next) (sym p.1))) ∙ l.low v (solves_driven b r m d e v q) t
        | inr o ↦ s.resets n y z o g v (solves_driven b r m d e v q) t
      ];
      ports = rw i s.ports;
      shown = rw i s.shown;
      distinct = rw i s.distinct;
    }

and_no : (a : Bool) → (a && false) ≡ false
and_no true = refl
and_no false = refl

pub driven_drives : (b : Built) (r : ℕ) (m : Made) (d : ℕ) → slice_get b.made r ≡ Some m → m.next ≡ None → Drives b (driven b r m d) r
driven_drives b r m d e f = record {
  later = later_driven b r m d e f;
  inputs = ap (filter_map port_of) (items_driven b r m d e);
  outputs = refl;
  undriven = places_set is_undriven 0 r b.made (record { item = m.item; next = Some d }) (and_no (is_register m.item.kind)) (slice_get_within b.made r m e) ∙ ap (λ n. filter (but n) (undriven b)) (let z : 0 + r ≡ r = omega arith in z);
}

pub driven_next : (b : Built) (r : ℕ) (m : Made) (d : ℕ) → r < length b.made → HasNext (driven b r m d) r d
driven_next b r m d h = record { next = λ v u t. t.takes r (record { item = m.item; next = Some d }) d (get_set_same b.made r (record { item = m.item; next = Some d }) h) refl }

register_is : (b : Built) (w : Wire) (m : Made) → IsRegister b w → slice_get b.made w.number ≡ Some m → m.item ≡ record { width = w.width; kind = Register }
register_is b w m h e =
    let f : Some m.item ≡ Some (record { width = w.width; kind = Register }) = sym (slice_get-map (λ (m : Made). m.item) b.made w.number ∙ ap (option_map (λ (m : Made). m.item)) e) ∙ h.at in
    let g : m.item ≡ record { width = w.width; kind = Register } = cc in
    g

-- a wire may be put before this register
pub record IsReady (b : Built) (register before : Wire) (m : Made) : Type 0 where
  pub here : slice_get b.made register.number ≡ Some m
  pub free : m.next ≡ None
  pub width : m.item.width ≡ before.width
  pub kind : m.item.kind ≡ Register

pub ready : (b now : Built) (register before : Wire) (m : Made) → b ≡ now → IsRegister now register → Contains (undriven now) register.number → before.width ≡ register.width → m ≡ get_or b.made register.number m → IsReady b register before m
ready b now register before m same is waits w e =
    let h : IsRegister b register = rw same is in
    let c : Contains (undriven b) register.number = subst (λ (x : Built). Contains (undriven x) register.number) (sym same) waits in
    let f : slice_get b.made register.number ≡ Some m = slice_get_read b.made (length b.made) register.number m refl (exists b register.number c) e in
    record { here = f; free = free b register.number m c f; width = ap (λ (i : Item). i.width) (register_is b register m h f) ∙ sym w; kind = ap (λ (i : Item). i.kind) (register_is b register m h f) }

pub put_sound : (b : Built) (register before : Wire) (m : Made) → IsWellBuilt b → IsReady b register before m → IsWire b before → IsLowInReset b before.number → IsWellBuilt (driven b register.number m before.number)
put_sound b register before m s r w l = driven_sound b register.number m before.number before.width s r.here r.width r.kind w.has l

pub put_drives : (b : Built) (register before : Wire) (m : Made) → IsReady b register before m → Drives b (driven b register.number m before.number) register.number
put_drives b register before m r = driven_drives b register.number m before.number r.here r.free

pub put_next : (b : Built) (register before : Wire) (m : Made) → IsReady b register before m → HasNext (driven b register.number m before.number) register.number before.number
put_next b register before m r = driven_next b register.number m before.number (slice_get_within b.made register.number m r.here)
