-- A step gives its net the value of the cell's operator, where its operands have theirs.
use Rattle.std.proofs.Common.{◌≡◌, ℕ, ◌+◌, ◌-◌, ◌*◌, ◌/◌, ◌%◌, ◌^◌, ◌<◌, ◌≤◌, List, length, get_or, ap, ◌∙◌, subst, arith, if◌then◌else◌}
use Rattle.std.specs.Prelude.{◌==◌, nat_lt, bit_and, bit_or, bit_xor, All, slice_index}
use Rattle.std.specs.List.{AllByRecursion}
use Rattle.std.proofs.lemmas.Nat.{and_mask, pow_pos, pow-add, or_shifted, mul-add-lt, div-mul-add}
use Rattle.std.proofs.Math.Nat.{mod-eq_of_lt, mul-add, add-mul-mod_self_left}
use Rattle.std.proofs.Math.Pow.{mod-mod-pow, pow_mono}
use Rattle.net_cells.specs.declared.netlist.CellOp.{CellOp}
use Rattle.net_cells.specs.declared.netlist.CellOp.TheVariants as op
use Rattle.net_cells.specs.Rules.{IsCell, IsWidth, width_at}
use Rattle.net_cells.specs.Values.{op_value, FitsAll}
use Rattle.net_cells.specs.Loops.{operands}
use Rattle.sim_engine.specs.Steps.{mask, step_for, step_value, three}

-- the low bits of a number of 64 bits
pub masked : (m w : ℕ) → w ≤ 64 → bit_and (m % 2 ^ 64) (2 ^ w - 1) ≡ m % 2 ^ w
masked m w h =
    let g : 64 ≡ 64 - w + w = omega arith in
    let e : 2 ^ 64 ≡ 2 ^ (64 - w + w) = ap (λ k. 2 ^ k) g in
    and_mask (m % 2 ^ 64) w ∙ ap (λ p. m % p % 2 ^ w) e ∙ mod-mod-pow m (64 - w) w

difference : (x y w : ℕ) → y < 2 ^ w → w ≤ 64 → (x + (2 ^ 64 - y)) % 2 ^ w ≡ (x + 2 ^ w - y) % 2 ^ w
difference x y w h k =
    let g : 64 ≡ w + (64 - w) = omega arith in
    let e : 2 ^ 64 ≡ 2 ^ (w + (64 - w)) = ap (λ k. 2 ^ k) g in
    let p : 2 ^ (w + (64 - w)) ≡ 2 ^ w * 2 ^ (64 - w) = pow-add 2 w (64 - w) in
    let q : 0 < 2 ^ (64 - w) = pow_pos (64 - w) in
    let r : 2 ^ w * 2 ^ (64 - w) ≡ 2 ^ w + 2 ^ w * (2 ^ (64 - w) - 1) =
    let t : 2 ^ (64 - w) ≡ 1 + (2 ^ (64 - w) - 1) = omega arith in
    let u : 2 ^ w * 1 + 2 ^ w * (2 ^ (64 - w) - 1) ≡ 2 ^ w + 2 ^ w * (2 ^ (64 - w) - 1) = omega arith in
    ap (λ k. 2 ^ w * k) t ∙ mul-add (2 ^ w) 1 (2 ^ (64 - w) - 1) ∙ u in
    let s : x + (2 ^ 64 - y) ≡ x + 2 ^ w - y + 2 ^ w * (2 ^ (64 - w) - 1) = omega (arith, e, p, r) in
    ap (λ m. m % 2 ^ w) s ∙ add-mul-mod_self_left (x + 2 ^ w - y) (2 ^ w) (2 ^ (64 - w) - 1)

-- the bits of a cell that is narrower than 64 by so many
mask_is : (width : ℕ) → IsWidth width → mask (64 - width) ≡ 2 ^ width - 1
mask_is width h =
    let l : 1 ≤ width = h.0 in
    let m : width ≤ 64 = h.1 in
    let small : 64 - width < 64 = omega arith in
    let same : (64 - width) % 64 ≡ 64 - width = mod-eq_of_lt small in
    let g : 64 ≡ width + (64 - width) = omega arith in
    let e : 2 ^ 64 ≡ 2 ^ (width + (64 - width)) = ap (λ k. 2 ^ k) g in
    let p : 2 ^ (width + (64 - width)) ≡ 2 ^ width * 2 ^ (64 - width) = pow-add 2 width (64 - width) in
    let q : 0 < 2 ^ (64 - width) = pow_pos (64 - width) in
    let r : 0 < 2 ^ width = pow_pos width in
    let t : 2 ^ width ≡ (2 ^ width - 1) + 1 = omega arith in
    let u : 2 ^ width * 2 ^ (64 - width) ≡ (2 ^ width - 1) * 2 ^ (64 - width) + 2 ^ (64 - width) = ap (λ k. k * 2 ^ (64 - width)) t ∙ add-one_mul (2 ^ width - 1) (2 ^ (64 - width)) in
    let f : 2 ^ 64 - 1 ≡ (2 ^ width - 1) * 2 ^ (64 - width) + (2 ^ (64 - width) - 1) = omega (arith, e, p, u) in
    let s : 2 ^ (64 - width) - 1 < 2 ^ (64 - width) = omega arith in
    ap (λ k. (2 ^ 64 - 1) / 2 ^ k) same ∙ ap (λ k. k / 2 ^ (64 - width)) f ∙ div-mul-add (2 ^ width - 1) (2 ^ (64 - width)) (2 ^ (64 - width) - 1) s
  where
    add-one_mul : (a b : ℕ) → (a + 1) * b ≡ a * b + b
    add-one_mul a b = grind arith

again : (shift : ℕ) → shift % 64 % 64 ≡ shift % 64
again shift = let l : shift % 64 < 64 = omega arith in mod-eq_of_lt l

joined : (x y a b width : ℕ) → x < 2 ^ a → y < 2 ^ b → 1 ≤ a → a + b ≡ width → width ≤ 64 → bit_or (x * 2 ^ (b % 64 % 64) % 2 ^ 64) y ≡ x * 2 ^ b + y
joined x y a b width h k p e l =
    let small : b < 64 = omega arith in
    let same : b % 64 % 64 ≡ b = again b ∙ mod-eq_of_lt small in
    let m : x * 2 ^ b + 0 < 2 ^ b * 2 ^ a = mul-add-lt x (2 ^ b) 0 (2 ^ a) h (pow_pos b) in
    let q : 2 ^ (b + a) ≡ 2 ^ b * 2 ^ a = pow-add 2 b a in
    let t : b + a ≤ 64 = omega arith in
    let r : 2 ^ (b + a) ≤ 2 ^ 64 = pow_mono t in
    let f : x * 2 ^ b < 2 ^ 64 = omega arith in
    ap (λ c. bit_or (x * 2 ^ c % 2 ^ 64) y) same ∙ ap (λ c. bit_or c y) (mod-eq_of_lt f) ∙ or_shifted x b y k

part : (x lo width : ℕ) → lo < 64 → bit_and (x / 2 ^ (lo % 64 % 64)) (2 ^ width - 1) ≡ x / 2 ^ lo % 2 ^ width
part x lo width h = ap (λ c. bit_and (x / 2 ^ c) (2 ^ width - 1)) (again lo ∙ mod-eq_of_lt h) ∙ and_mask (x / 2 ^ lo) width

fits_at : (ws : List ℕ) (v : ℕ → ℕ) (x width : ℕ) → FitsAll ws v → x < length ws → width_at ws x ≡ width → v x < 2 ^ width
fits_at ws v x width f h e = subst (λ w. v x < 2 ^ w) e (f x h)

width_ok : (ws : List ℕ) (x : ℕ) → All IsWidth ws → x < length ws → IsWidth (width_at ws x)
width_ok ws x a h = a x 0 h

-- a step gives the value of its operator, where what it reads has the values of the operands
pub step_right : (ws : List ℕ) (width : ℕ) (o : CellOp) (v : ℕ → ℕ) (at : ℕ → ℕ) (values : List ℕ) → IsCell ws width o → IsWidth width → All IsWidth ws → FitsAll ws v → AllByRecursion (λ net. get_or values (at net) 0 ≡ v net) (operands o)
    → step_value (step_for ws width o (at (slice_index (three o) 0)) (at (slice_index (three o) 1)) (at (slice_index (three o) 2))) values ≡ op_value ws width o v
step_right ws width (op.Const value) v at values r l a f h = omega arith
step_right ws width (op.Not x) v at values r l a f h = ap (λ m. m - get_or values (at x) 0) (mask_is width l) ∙ ap (λ c. 2 ^ width - 1 - c) h.0
step_right ws width (op.And x y) v at values r l a f h = ap (λ c. bit_and c (get_or values (at y) 0)) h.0 ∙ ap (bit_and (v x)) h.1.0
step_right ws width (op.Or x y) v at values r l a f h = ap (λ c. bit_or c (get_or values (at y) 0)) h.0 ∙ ap (bit_or (v x)) h.1.0
step_right ws width (op.Xor x y) v at values r l a f h = ap (λ c. bit_xor c (get_or values (at y) 0)) h.0 ∙ ap (bit_xor (v x)) h.1.0
step_right ws width (op.Add x y) v at values r l a f h =
    ap (bit_and ((get_or values (at x) 0 + get_or values (at y) 0) % 2 ^ 64)) (mask_is width l)
    ∙ masked (get_or values (at x) 0 + get_or values (at y) 0) width l.1
    ∙ ap (λ c. (c + get_or values (at y) 0) % 2 ^ width) h.0 ∙ ap (λ c. (v x + c) % 2 ^ width) h.1.0
step_right ws width (op.Sub x y) v at values r l a f h =
    ap (bit_and ((get_or values (at x) 0 + (2 ^ 64 - get_or values (at y) 0)) % 2 ^ 64)) (mask_is width l)
    ∙ masked (get_or values (at x) 0 + (2 ^ 64 - get_or values (at y) 0)) width l.1
    ∙ ap (λ c. (c + (2 ^ 64 - get_or values (at y) 0)) % 2 ^ width) h.0 ∙ ap (λ c. (v x + (2 ^ 64 - c)) % 2 ^ width) h.1.0
    ∙ difference (v x) (v y) width (fits_at ws v y width f r.1.0 r.1.1) l.1
step_right ws width (op.Eq x y) v at values r l a f h =
    ap (λ (c : ℕ). if c == get_or values (at y) 0 then 1 else 0) h.0 ∙ ap (λ (c : ℕ). if v x == c then 1 else 0) h.1.0
step_right ws width (op.Less x y) v at values r l a f h =
    ap (λ (c : ℕ). if nat_lt c (get_or values (at y) 0) then 1 else 0) h.0 ∙ ap (λ (c : ℕ). if nat_lt (v x) c then 1 else 0) h.1.0
step_right ws width (op.Mux c x y) v at values r l a f h =
    ap (λ (d : ℕ). if d == 1 then get_or values (at x) 0 else get_or values (at y) 0) h.0
    ∙ ap (λ (d : ℕ). if v c == 1 then d else get_or values (at y) 0) h.1.0
    ∙ ap (λ (d : ℕ). if v c == 1 then v x else d) h.1.1.0
step_right ws width (op.Concat x y) v at values r l a f h =
    ap (λ c. bit_or (c * 2 ^ (width_at ws y % 64 % 64) % 2 ^ 64) (get_or values (at y) 0)) h.0
    ∙ ap (λ c. bit_or (v x * 2 ^ (width_at ws y % 64 % 64) % 2 ^ 64) c) h.1.0
    ∙ joined (v x) (v y) (width_at ws x) (width_at ws y) width (f x r.0) (f y r.1) (width_ok ws x a r.0).0 r.2 l.1
step_right ws width (op.Select x hi lo) v at values r l a f h =
    ap (bit_and (get_or values (at x) 0 / 2 ^ (lo % 64 % 64))) (mask_is width l)
    ∙ ap (λ c. bit_and (c / 2 ^ (lo % 64 % 64)) (2 ^ width - 1)) h.0
    ∙ part (v x) lo width (let b : width_at ws x ≤ 64 = (width_ok ws x a r.0).1 in let c : hi < width_at ws x = r.1 in let d : lo ≤ hi = r.2 in omega arith)
