-- The value of an operator: it follows from its operands' values, and has the cell's width.
use Rattle.std.proofs.Common.{◌≡◌, ℕ, zero, suc, ◌+◌, ◌-◌, ◌*◌, ◌/◌, ◌%◌, ◌^◌, ◌<◌, Bool, true, false, List, [], ◌∷◌, length, get_or, refl, ap, ◌∙◌, subst, arith, lit<, if◌then◌else◌}
use Rattle.std.specs.Prelude.{◌==◌, nat_lt, bit_and, bit_or, bit_xor, Contains}
use Rattle.std.specs.List.{AllByRecursion}
use Rattle.std.specs.Int.Bits.{and_lt}
use Rattle.std.proofs.lemmas.Nat.{pow_pos, or_lt, xor_lt, mul-add-lt, pow-add}
use Rattle.std.proofs.Math.Nat.{mod-lt}
use Rattle.net_cells.specs.declared.netlist.CellOp.{CellOp}
use Rattle.net_cells.specs.declared.netlist.CellOp.TheVariants.{Const, Not, And, Or, Xor, Add, Sub, Eq, Less, Mux, Concat, Select}
use Rattle.net_cells.specs.Rules.{HasWidth, IsCell, width_at}
use Rattle.net_cells.specs.Values.{op_value, FitsAll}
use Rattle.net_cells.specs.Loops.{operands}

pub every : (P : ℕ → Type 0) (xs : List ℕ) → ((x : ℕ) → Contains xs x → P x) → AllByRecursion P xs
every P [] h = search
every P (x ∷ xs) h = (h x (0, omega arith, refl), every P xs (λ y c. h y (suc c.0, omega arith, c.2)))

pub pick : (P : ℕ → Type 0) (xs : List ℕ) → AllByRecursion P xs → (x k : ℕ) → k < length xs → get_or xs k x ≡ x → P x
pick P [] h x k b e = absurd (omega arith)
pick P (y ∷ ys) h x zero b e = subst P e h.0
pick P (y ∷ ys) h x (suc k) b e = pick P ys h.1 x k (omega arith) e

-- an operator's value depends on its operands' values alone
pub op_same : (ws : List ℕ) (width : ℕ) (op : CellOp) (v u : ℕ → ℕ) → AllByRecursion (λ x. v x ≡ u x) (operands op) → op_value ws width op v ≡ op_value ws width op u
op_same ws width (Const value) v u h = refl
op_same ws width (Not x) v u h = ap (λ a. 2 ^ width - 1 - a) h.0
op_same ws width (And x y) v u h = ap (λ a. bit_and a (v y)) h.0 ∙ ap (bit_and (u x)) h.1.0
op_same ws width (Or x y) v u h = ap (λ a. bit_or a (v y)) h.0 ∙ ap (bit_or (u x)) h.1.0
op_same ws width (Xor x y) v u h = ap (λ a. bit_xor a (v y)) h.0 ∙ ap (bit_xor (u x)) h.1.0
op_same ws width (Add x y) v u h = ap (λ a. (a + v y) % 2 ^ width) h.0 ∙ ap (λ a. (u x + a) % 2 ^ width) h.1.0
op_same ws width (Sub x y) v u h = ap (λ a. (a + 2 ^ width - v y) % 2 ^ width) h.0 ∙ ap (λ a. (u x + 2 ^ width - a) % 2 ^ width) h.1.0
op_same ws width (Eq x y) v u h = ap (λ (a : ℕ). if a == v y then 1 else 0) h.0 ∙ ap (λ (a : ℕ). if u x == a then 1 else 0) h.1.0
op_same ws width (Less x y) v u h = ap (λ (a : ℕ). if nat_lt a (v y) then 1 else 0) h.0 ∙ ap (λ (a : ℕ). if nat_lt (u x) a then 1 else 0) h.1.0
op_same ws width (Mux c x y) v u h =
    ap (λ (a : ℕ). if a == 1 then v x else v y) h.0
    ∙ ap (λ (a : ℕ). if u c == 1 then a else v y) h.1.0
    ∙ ap (λ (a : ℕ). if u c == 1 then u x else a) h.1.1.0
op_same ws width (Concat x y) v u h = ap (λ a. a * 2 ^ width_at ws y + v y) h.0 ∙ ap (λ a. u x * 2 ^ width_at ws y + a) h.1.0
op_same ws width (Select x hi lo) v u h = ap (λ a. a / 2 ^ lo % 2 ^ width) h.0

-- the operands of a cell exist
pub exist : (ws : List ℕ) (width : ℕ) (op : CellOp) → IsCell ws width op → AllByRecursion (λ x. x < length ws) (operands op)
exist ws width (Const value) h = search
exist ws width (Not x) h = (h.0, search)
exist ws width (And x y) h = (h.0.0, (h.1.0, search))
exist ws width (Or x y) h = (h.0.0, (h.1.0, search))
exist ws width (Xor x y) h = (h.0.0, (h.1.0, search))
exist ws width (Add x y) h = (h.0.0, (h.1.0, search))
exist ws width (Sub x y) h = (h.0.0, (h.1.0, search))
exist ws width (Eq x y) h = (h.1.0, (h.1.1, search))
exist ws width (Less x y) h = (h.1.0, (h.1.1, search))
exist ws width (Mux c x y) h = (h.0.0, (h.1.0.0, (h.1.1.0, search)))
exist ws width (Concat x y) h = (h.0, (h.1, search))
exist ws width (Select x hi lo) h = (h.0, search)

bit_fits : (b : Bool) (width : ℕ) → width ≡ 1 → (if b then 1 else 0) < 2 ^ width
bit_fits true width e = rw e (lit< tt)
bit_fits false width e = rw e (lit< tt)

chosen_fits : (b : Bool) (x y bound : ℕ) → x < bound → y < bound → (if b then x else y) < bound
chosen_fits true x y bound h k = h
chosen_fits false x y bound h k = k

fits_at : (ws : List ℕ) (v : ℕ → ℕ) (x width : ℕ) → FitsAll ws v → HasWidth ws x width → v x < 2 ^ width
fits_at ws v x width f h = subst (λ w. v x < 2 ^ w) h.1 (f x h.0)

joined_fits : (x y a b width : ℕ) → x < 2 ^ a → y < 2 ^ b → a + b ≡ width → x * 2 ^ b + y < 2 ^ width
joined_fits x y a b width h k e =
    let m : x * 2 ^ b + y < 2 ^ b * 2 ^ a = mul-add-lt x (2 ^ b) y (2 ^ a) h k in
    let q : 2 ^ width ≡ 2 ^ b * 2 ^ a = ap (λ n. 2 ^ n) (omega arith) ∙ pow-add 2 b a in
    omega arith

-- the value of a cell has the cell's width
pub op_fits : (ws : List ℕ) (width : ℕ) (op : CellOp) (v : ℕ → ℕ) → IsCell ws width op → FitsAll ws v → op_value ws width op v < 2 ^ width
op_fits ws width (Const value) v h f = h
op_fits ws width (Not x) v h f = omega (arith, pow_pos width)
op_fits ws width (And x y) v h f = and_lt width (v x) (v y) (fits_at ws v x width f h.0) (fits_at ws v y width f h.1)
op_fits ws width (Or x y) v h f = or_lt width (v x) (v y) (fits_at ws v x width f h.0) (fits_at ws v y width f h.1)
op_fits ws width (Xor x y) v h f = xor_lt width (v x) (v y) (fits_at ws v x width f h.0) (fits_at ws v y width f h.1)
op_fits ws width (Add x y) v h f = mod-lt (v x + v y) (pow_pos width)
op_fits ws width (Sub x y) v h f = mod-lt (v x + 2 ^ width - v y) (pow_pos width)
op_fits ws width (Eq x y) v h f = bit_fits (v x == v y) width h.0
op_fits ws width (Less x y) v h f = bit_fits (nat_lt (v x) (v y)) width h.0
op_fits ws width (Mux c x y) v h f = chosen_fits (v c == 1) (v x) (v y) (2 ^ width) (fits_at ws v x width f h.1.0) (fits_at ws v y width f h.1.1)
op_fits ws width (Concat x y) v h f = joined_fits (v x) (v y) (width_at ws x) (width_at ws y) width (f x h.0) (f y h.1) h.2
op_fits ws width (Select x hi lo) v h f = mod-lt (v x / 2 ^ lo) (pow_pos width)
