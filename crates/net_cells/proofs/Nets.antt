-- Places in joined lists, and the bits of numbers.
use Rattle.std.proofs.Common.{◌≡◌, ℕ, zero, suc, ◌+◌, ◌-◌, ◌*◌, ◌/◌, ◌^◌, ◌<◌, ◌≤◌, List, [], ◌∷◌, ◌++◌, length, map, refl, ap, ◌∙◌, subst, sym, arith, length-append}
use Rattle.std.specs.Prelude.{slice_get}
use Rattle.std.specs.Prelude.{All}
use Rattle.std.proofs.lemmas.List.{get_or_append_left, get_or-append-add, get_or-map, length-map}
use Rattle.std.proofs.lemmas.List.Elements.{All-append, All-map}
use Rattle.std.proofs.lemmas.Option.{slice_get-map}
use Rattle.net_cells.specs.declared.netlist.Port.{Port}
use Rattle.net_cells.specs.declared.netlist.Reg.{Reg}
use Rattle.net_cells.specs.declared.netlist.Cell.{Cell}
use Rattle.net_cells.specs.declared.netlist.Netlist.{Netlist}
use Rattle.net_cells.specs.Rules.{IsWidth, widths}
use Rattle.std.proofs.Math.Nat.{lt-div-mul-add, div-eq_of_lt}
use Rattle.std.proofs.lemmas.Nat.{pow_pos}
use Rattle.std.proofs.Math.Pow.{pow_mono}

pub get-append_left : {A : Type 0} (xs ys : List A) (k : ℕ) → k < length xs → slice_get (xs ++ ys) k ≡ slice_get xs k
get-append_left [] ys k h = absurd (omega arith)
get-append_left (x ∷ xs) ys zero h = refl
get-append_left (x ∷ xs) ys (suc k) h = get-append_left xs ys k (omega arith)

pub get-append_right : {A : Type 0} (xs ys : List A) (k : ℕ) → length xs ≤ k → slice_get (xs ++ ys) k ≡ slice_get ys (k - length xs)
get-append_right [] ys k h = ap (slice_get ys) (omega arith)
get-append_right (x ∷ xs) ys zero h = absurd (omega arith)
get-append_right (x ∷ xs) ys (suc k) h = get-append_right xs ys k (omega arith) ∙ ap (slice_get ys) (omega arith)

pub get-third : {A : Type 0} (xs ys zs : List A) (k : ℕ) → length xs ≤ k → length ys ≤ k - length xs → slice_get (xs ++ ys ++ zs) k ≡ slice_get zs (k - length xs - length ys)
get-third xs ys zs k h j = get-append_right (xs ++ ys) zs k (omega (arith, length-append xs ys)) ∙ ap (slice_get zs) (omega (arith, length-append xs ys))

pub ruleset places = (get-append_left, get-append_right, get-third, slice_get-map)

pub wide_bits : (value width : ℕ) → value < 2 ^ 64 → 64 ≤ width → value < 2 ^ width
wide_bits value width h k = let e : 2 ^ 64 ≤ 2 ^ width = pow_mono k in omega arith

pub small_bits : (value power : ℕ) → 0 < power → value / power ≡ 0 → value < power
small_bits value power p e = let b : value < value / power * power + power = lt-div-mul-add p in omega (arith, ap (λ x. x * power) e)

pub ruleset bits = (wide_bits, small_bits, div-eq_of_lt, pow_pos)

all_left : {A : Type 0} (P : A → Type 0) (xs ys : List A) → All P (xs ++ ys) → All P xs
all_left P xs ys h k d b = subst P (get_or_append_left xs ys d k b) (h k d (omega (arith, length-append xs ys)))

all_right : {A : Type 0} (P : A → Type 0) (xs ys : List A) → All P (xs ++ ys) → All P ys
all_right P xs ys h k d b = subst P (get_or-append-add xs ys k d) (h (length xs + k) d (omega (arith, length-append xs ys)))

all_before : {A B : Type 0} (P : B → Type 0) (f : A → B) (xs : List A) → All P (map f xs) → All (λ x. P (f x)) xs
all_before P f xs h k d b = subst P (get_or-map f xs k d (f d) b) (h k (f d) (omega (arith, length-map xs f)))

pub sized : (n : Netlist) → All (λ (p : Port). IsWidth p.width) n.inputs → All (λ (r : Reg). IsWidth r.width) n.regs → All (λ (c : Cell). IsWidth c.width) n.cells → All IsWidth (widths n)
sized n h i j = All-append IsWidth _ _ (All-append IsWidth _ _ (All-map IsWidth (λ (p : Port). p.width) n.inputs h) (All-map IsWidth (λ (r : Reg). r.width) n.regs i)) (All-map IsWidth (λ (c : Cell). c.width) n.cells j)

pub sized_inputs : (n : Netlist) → All IsWidth (widths n) → All (λ (p : Port). IsWidth p.width) n.inputs
sized_inputs n h = all_before IsWidth (λ (p : Port). p.width) n.inputs (all_left IsWidth _ (map (λ (r : Reg). r.width) n.regs) (all_left IsWidth _ (map (λ (c : Cell). c.width) n.cells) h))

pub sized_regs : (n : Netlist) → All IsWidth (widths n) → All (λ (r : Reg). IsWidth r.width) n.regs
sized_regs n h = all_before IsWidth (λ (r : Reg). r.width) n.regs (all_right IsWidth (map (λ (p : Port). p.width) n.inputs) _ (all_left IsWidth _ (map (λ (c : Cell). c.width) n.cells) h))

pub sized_cells : (n : Netlist) → All IsWidth (widths n) → All (λ (c : Cell). IsWidth c.width) n.cells
sized_cells n h = all_before IsWidth (λ (c : Cell). c.width) n.cells (all_right IsWidth (map (λ (p : Port). p.width) n.inputs ++ map (λ (r : Reg). r.width) n.regs) _ h)
