-- What fits is carried.
use Rattle.std.proofs.Common.{ℕ, ◌≡◌, ◌⊎◌, inl, inr, List, [], ◌∷◌, Bool, true, false, ◌&&◌, ◌||◌, ◌==◌, nat_le, IsTrue, Option, None, refl, ap, ◌∙◌, arith}
use Rattle.std.proofs.lemmas.Bool.{eqb-true, leb-true}
use Rattle.dip_lists.proofs.Tests.{both}
use Rattle.dip_sets.specs.Sets.{Pattern}
use Rattle.dip_sets.specs.SizeRanges.{SizeRange, IsWithin, is_within}
use Rattle.dip_sets.proofs.Powers.{power_pos}
use Rattle.tl_params.specs.declared.ops.Op.{Op}
use Rattle.tl_params.specs.declared.ops.Op.TheVariants.{PutFull, PutPartial, Arithmetic, Logical, Get, Intent}
use Rattle.tl_params.specs.declared.ops.Ops.{Ops}
use Rattle.tl_params.specs.declared.ports.Slave.{Slave}
use Rattle.tl_params.specs.Operations.{sizes_of}
use Rattle.tl_params.specs.Carried.{all_zip, is_same_set, is_same_slave, sizes_fit, ops_fit, slave_fits}
use Rattle.tl_params.specs.CarriedLaw.{IsSamePlace, CarriedLaw}

split_or : (a b : Bool) → IsTrue (a || b) → IsTrue a ⊎ IsTrue b
split_or true b h = inl refl
split_or false b h = inr h

within_from : (s t : SizeRange) → IsTrue (is_within s t) → IsWithin s t
within_from s t h bytes (p, l, u) = elim (split_or (s.max == 0) (nat_le t.min s.min && nat_le s.max t.max) h) [
  | inl z ↦ let e = eqb-true s.max 0 z in absurd (omega (arith, power_pos bytes p))
  | inr b ↦
      let tests = both (nat_le t.min s.min) (nat_le s.max t.max) b in
      let low = leb-true t.min s.min tests.0 in
      let high = leb-true s.max t.max tests.1 in
      (p, omega arith, omega arith)
]

-- the six of an operation each
record Fit (pieces : Option SizeRange) (s t : Ops) : Type 0 where
  get : IsTrue (sizes_fit pieces s.get t.get)
  put_full : IsTrue (sizes_fit pieces s.put_full t.put_full)
  put_partial : IsTrue (sizes_fit pieces s.put_partial t.put_partial)
  arithmetic : IsTrue (is_within s.arithmetic t.arithmetic)
  logical : IsTrue (is_within s.logical t.logical)
  intent : IsTrue (is_within s.intent t.intent)

fit_of : (pieces : Option SizeRange) (s t : Ops) → IsTrue (ops_fit pieces s t) → Fit pieces s t
fit_of pieces s t h =
    let five = both (sizes_fit pieces s.get t.get && sizes_fit pieces s.put_full t.put_full && sizes_fit pieces s.put_partial t.put_partial && is_within s.arithmetic t.arithmetic && is_within s.logical t.logical) (is_within s.intent t.intent) h in
    let four = both (sizes_fit pieces s.get t.get && sizes_fit pieces s.put_full t.put_full && sizes_fit pieces s.put_partial t.put_partial && is_within s.arithmetic t.arithmetic) (is_within s.logical t.logical) five.0 in
    let three = both (sizes_fit pieces s.get t.get && sizes_fit pieces s.put_full t.put_full && sizes_fit pieces s.put_partial t.put_partial) (is_within s.arithmetic t.arithmetic) four.0 in
    let two = both (sizes_fit pieces s.get t.get && sizes_fit pieces s.put_full t.put_full) (sizes_fit pieces s.put_partial t.put_partial) three.0 in
    let one = both (sizes_fit pieces s.get t.get) (sizes_fit pieces s.put_full t.put_full) two.0 in
    record { get = one.0; put_full = one.1; put_partial = two.1; arithmetic = three.1; logical = four.1; intent = five.1 }

abbrev pattern : ℕ → ℕ → Pattern
pattern base mask = record { base = base; mask = mask }

same_pattern : (s t : Pattern) → s.base ≡ t.base → s.mask ≡ t.mask → s ≡ t
same_pattern s t b m = ap (λ (x : ℕ). pattern x s.mask) b ∙ ap (λ (y : ℕ). pattern t.base y) m

pub same_set : (s t : Pattern) → IsTrue (is_same_set s t) → s ≡ t
same_set s t h =
    let tests = both (s.base == t.base) (s.mask == t.mask) h in
    same_pattern s t (eqb-true s.base t.base tests.0) (eqb-true s.mask t.mask tests.1)

pub same_sets : (xs ys : List Pattern) → IsTrue (all_zip is_same_set xs ys) → xs ≡ ys
same_sets [] [] h = refl
same_sets [] (y ∷ ys) h = absurd cc
same_sets (x ∷ xs) [] h = absurd cc
same_sets (x ∷ xs) (y ∷ ys) h =
    let tests = both (is_same_set x y) (all_zip is_same_set xs ys) h in
    let head = same_set x y tests.0 in
    let tail = same_sets xs ys tests.1 in
    ap (λ z. z ∷ xs) head ∙ ap (λ zs. y ∷ zs) tail

same_place : (s t : Slave) → IsTrue (is_same_slave s t) → IsSamePlace s t
same_place s t h =
    let two = both (s.node == t.node && s.port == t.port) (all_zip is_same_set s.addresses t.addresses) h in
    let one = both (s.node == t.node) (s.port == t.port) two.0 in
    record { node = eqb-true s.node t.node one.0; port = eqb-true s.port t.port one.1; addresses = same_sets s.addresses t.addresses two.1 }

fits : (pieces : Option SizeRange) (s t : Slave) → IsTrue (slave_fits pieces s t) → Fit pieces s.supports t.supports
fits pieces s t h = fit_of pieces s.supports t.supports (both (is_same_slave s t) (ops_fit pieces s.supports t.supports) h).1

whole_op : (s t : Ops) → Fit None s t → (op : Op) → IsWithin (sizes_of s op) (sizes_of t op)
whole_op s t f PutFull = within_from s.put_full t.put_full f.put_full
whole_op s t f PutPartial = within_from s.put_partial t.put_partial f.put_partial
whole_op s t f Arithmetic = within_from s.arithmetic t.arithmetic f.arithmetic
whole_op s t f Logical = within_from s.logical t.logical f.logical
whole_op s t f Get = within_from s.get t.get f.get
whole_op s t f Intent = within_from s.intent t.intent f.intent

pub carried : CarriedLaw
carried = record {
  same = λ pieces s t h. same_place s t (both (is_same_slave s t) (ops_fit pieces s.supports t.supports) h).0;
  whole = λ s t h. whole_op s.supports t.supports (fits None s t h);
  arithmetic = λ pieces s t h. within_from s.supports.arithmetic t.supports.arithmetic (fits pieces s t h).arithmetic;
  logical = λ pieces s t h. within_from s.supports.logical t.supports.logical (fits pieces s t h).logical;
  intent = λ pieces s t h. within_from s.supports.intent t.supports.intent (fits pieces s t h).intent;
}
