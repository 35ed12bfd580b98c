-- The tests of parts say what they are to.
use Rattle.std.proofs.Common.{ℕ, ◌≡◌, ◌+◌, ◌-◌, ◌*◌, ◌^◌, ◌<◌, ◌≤◌, List, [], ◌∷◌, length, drop, Bool, true, false, ◌&&◌, cond, Option, Some, None, refl, ap, sym, subst, ◌∙◌, arith, ◌/◌, ◌%◌}
use Rattle.std.specs.Prelude.{decimal, codes, nat_lt, nat_le, ◌==◌, slice_index}
use Rattle.std.specs.List.{prefix_len}
use Rattle.std.specs.Str.{bytes_eq}
use Rattle.std.proofs.lemmas.Slice.Eq.{bytes_eq-Decides}
use Rattle.std.proofs.lemmas.Bool.Decides.{nat_tests}
use Rattle.std.proofs.lemmas.Nat.{mod_below, pow_pos}
use Rattle.dip_lists.proofs.Tests.{both}
use Rattle.net_cells.specs.declared.netlist.CellOp.{CellOp}
use Rattle.net_cells.specs.declared.netlist.CellOp.TheVariants.{Const, Not, And, Or, Xor, Add, Sub, Eq, Less, Mux, Concat, Select}
use Rattle.net_cells.specs.Rules.{IsCell, IsWidth, HasWidth, HaveWidth, HaveOneWidth}
use Rattle.ver_text.specs.Lexemes.{is_digit}
use Rattle.ver_text.specs.Numerals.{digit_value, numeral, written, written_number, number_below, if_below, hex_digits, literal, literal_of}
use Rattle.ver_text.specs.Due.{width_of, width_by}
use Rattle.ver_text.specs.Fits.{is_cell, is_net, has_width, have_width, have_one_width}
use Rattle.ver_text.specs.TestLaw.{IsLiteralIn, IsNumberIn, IsRangeIn, TestsAreExact}
use Rattle.ver_text.proofs.Readback.{number_read, width_read}
use Rattle.ver_text.proofs.Literals.{digits_read, digits_value, literal_rest}

pub join_true : (a b : Bool) → a ≡ true → b ≡ true → (a && b) ≡ true
join_true true b h k = k
join_true false b h k = h

when_true : (b : Bool) (v n : ℕ) → cond b (Some v) None ≡ Some n → (b ≡ true) × (v ≡ n)
when_true true v n e = (refl, cc)
when_true false v n e = cc

pub lt_of : (a b : ℕ) → nat_lt a b ≡ true → a < b
lt_of a b h = grind (arith, nat_tests)

pub lt_to : (a b : ℕ) → a < b → nat_lt a b ≡ true
lt_to a b h = grind (arith, nat_tests)

pub le_of : (a b : ℕ) → nat_le a b ≡ true → a ≤ b
le_of a b h = grind (arith, nat_tests)

pub le_to : (a b : ℕ) → a ≤ b → nat_le a b ≡ true
le_to a b h = grind (arith, nat_tests)

pub eq_of : (a b : ℕ) → (a == b) ≡ true → a ≡ b
eq_of a b h = grind (arith, nat_tests)

pub eq_to : (a b : ℕ) → a ≡ b → (a == b) ≡ true
eq_to a b h = grind (arith, nat_tests)

-- ---- numbers

written_so : (write : ℕ → List ℕ) (text : List ℕ) (o : Option ℕ) (n : ℕ) → written write text o ≡ Some n → (text ≡ write n) × (o ≡ Some n)
written_so write text None n e = cc
written_so write text (Some v) n e =
    let h = when_true (bytes_eq text (write v)) v n e in
    let t : text ≡ write v = (bytes_eq-Decides text (write v)).0 h.0 in
    (t ∙ ap write h.1, ap (λ x. Some x) h.1)

value_by : (b : Bool) (base s n : ℕ) (cs : List ℕ) → cond b (numeral base s cs) None ≡ Some n → (b ≡ true) × (numeral base s cs ≡ Some n)
value_by true base s n cs e = (refl, e)
value_by false base s n cs e = cc

value_small : (base s n : ℕ) (cs : List ℕ) → s < 2 ^ 64 → numeral base s cs ≡ Some n → n < 2 ^ 64
value_small base s n [] h e = let t : s ≡ n = cc in subst (λ x. x < 2 ^ 64) t h
value_small base s n (c ∷ cs) h e =
    let v = value_by (nat_lt (s * base + digit_value c) (2 ^ 64)) base (s * base + digit_value c) n cs e in
    value_small base (s * base + digit_value c) n cs (lt_of (s * base + digit_value c) (2 ^ 64) v.0) v.1

pub number_is : (text : List ℕ) (n : ℕ) → written_number text ≡ Some n → IsNumberIn text n
unfolding written_number
number_is text n e = let h = written_so decimal text (numeral 10 0 text) n e in (value_small 10 0 n text (omega arith) h.1, h.0)

number_in : (text : List ℕ) (n : ℕ) → IsNumberIn text n → written_number text ≡ Some n
number_in text n h = ap written_number h.1 ∙ number_read n h.0

below_by : (limit n : ℕ) (o : Option ℕ) → if_below limit o ≡ Some n → (o ≡ Some n) × (n < limit)
below_by limit n None e = cc
below_by limit n (Some v) e =
    let h = when_true (nat_lt v limit) v n e in
    (ap (λ x. Some x) h.1, subst (λ x. x < limit) h.1 (lt_of v limit h.0))

pub below_is : (limit n : ℕ) (text : List ℕ) → number_below limit text ≡ Some n → (written_number text ≡ Some n) × (n < limit)
unfolding number_below
below_is limit n text e = below_by limit n (written_number text) e

range_by : (high low : List ℕ) (width : ℕ) (o : Option ℕ) → number_below 64 high ≡ o → width_by o low ≡ Some width → IsRangeIn high low width
range_by high low width None b e = cc
range_by high low width (Some v) b e =
    let h = when_true (bytes_eq low (codes "0")) (v + 1) width e in
    let t = below_is 64 v high b in
    let d : v ≡ width - 1 = omega (arith, h.1) in
    let w : IsWidth width = (omega (arith, h.1), omega (arith, h.1, t.1)) in
    (w, (number_is high v t.0).1 ∙ ap decimal d, (bytes_eq-Decides low (codes "0")).0 h.0)

pub range_is : (high low : List ℕ) (width : ℕ) → width_of high low ≡ Some width → IsRangeIn high low width
unfolding width_of
range_is high low width e = range_by high low width (number_below 64 high) refl e

range_in : (high low : List ℕ) (width : ℕ) → IsRangeIn high low width → width_of high low ≡ Some width
range_in high low width h = ap (λ x. width_of x low) h.1 ∙ (ap (λ x. width_of (decimal (width - 1)) x) h.2 ∙ width_read width h.0)

pub literal_is : (width value : ℕ) (text : List ℕ) → literal_of width text ≡ Some value → text ≡ literal width value
unfolding literal_of
literal_is width value text e = (written_so (literal width) text (numeral 16 0 (drop (prefix_len is_digit text + 2) text)) value e).0

literal_value : (width value : ℕ) (text : List ℕ) → literal_of width text ≡ Some value → numeral 16 0 (drop (prefix_len is_digit text + 2) text) ≡ Some value
unfolding literal_of
literal_value width value text e = (written_so (literal width) text (numeral 16 0 (drop (prefix_len is_digit text + 2) text)) value e).1

small_value : (value m : ℕ) → 0 < m → Some (value % m) ≡ Some value → value < m
small_value value m h e = let f : value % m ≡ value = cc in omega (arith, mod_below value m h)

literal_small : (width value : ℕ) (text : List ℕ) → width ≤ 64 → literal_of width text ≡ Some value → value < 2 ^ (4 * ((width + 3) / 4))
literal_small width value text l e =
    let t = literal_is width value text e in
    let n : numeral 16 0 (hex_digits ((width + 3) / 4) value) ≡ Some value =
    ap (numeral 16 0) (sym (literal_rest width value l)) ∙ (ap (λ x. numeral 16 0 (drop (prefix_len is_digit x + 2) x)) (sym t) ∙ literal_value width value text e) in
    small_value value (2 ^ (4 * ((width + 3) / 4))) (pow_pos (4 * ((width + 3) / 4))) (sym (digits_value width value l) ∙ n)

literal_in : (width value : ℕ) (text : List ℕ) → width ≤ 64 → IsLiteralIn width text value → literal_of width text ≡ Some value
literal_in width value text l h = ap (literal_of width) h.1 ∙ digits_read width value h.0 l

-- ---- cells

width_is : (ws : List ℕ) (x width : ℕ) → has_width ws x width ≡ true → HasWidth ws x width
width_is ws x width e = let h = both (is_net ws x) (slice_index ws x == width) e in (lt_of x (length ws) h.0, eq_of (slice_index ws x) width h.1)

width_in : (ws : List ℕ) (x width : ℕ) → HasWidth ws x width → has_width ws x width ≡ true
width_in ws x width h = join_true (is_net ws x) (slice_index ws x == width) (lt_to x (length ws) h.0) (eq_to (slice_index ws x) width h.1)

widths_are : (ws : List ℕ) (x y width : ℕ) → have_width ws x y width ≡ true → HaveWidth ws x y width
widths_are ws x y width e = let h = both (has_width ws x width) (has_width ws y width) e in (width_is ws x width h.0, width_is ws y width h.1)

widths_in : (ws : List ℕ) (x y width : ℕ) → HaveWidth ws x y width → have_width ws x y width ≡ true
widths_in ws x y width h = join_true (has_width ws x width) (has_width ws y width) (width_in ws x width h.0) (width_in ws y width h.1)

one_is : (ws : List ℕ) (x y width : ℕ) → ((width == 1) && have_one_width ws x y) ≡ true → (width ≡ 1) × HaveOneWidth ws x y
one_is ws x y width e =
    let h = both (width == 1) (have_one_width ws x y) e in
    let k = both (is_net ws x && is_net ws y) (slice_index ws x == slice_index ws y) h.1 in
    let n = both (is_net ws x) (is_net ws y) k.0 in
    (eq_of width 1 h.0, (lt_of x (length ws) n.0, lt_of y (length ws) n.1, eq_of (slice_index ws x) (slice_index ws y) k.1))

one_in : (ws : List ℕ) (x y width : ℕ) → (width ≡ 1) × HaveOneWidth ws x y → ((width == 1) && have_one_width ws x y) ≡ true
one_in ws x y width h =
    join_true (width == 1) (have_one_width ws x y) (eq_to width 1 h.0)
    (join_true (is_net ws x && is_net ws y) (slice_index ws x == slice_index ws y)
    (join_true (is_net ws x) (is_net ws y) (lt_to x (length ws) h.1.0) (lt_to y (length ws) h.1.1)) (eq_to (slice_index ws x) (slice_index ws y) h.1.2))

mux_is : (ws : List ℕ) (c x y width : ℕ) → (has_width ws c 1 && have_width ws x y width) ≡ true → HasWidth ws c 1 × HaveWidth ws x y width
mux_is ws c x y width e = let h = both (has_width ws c 1) (have_width ws x y width) e in (width_is ws c 1 h.0, widths_are ws x y width h.1)

concat_is : (ws : List ℕ) (x y width : ℕ) → is_cell ws width (Concat x y) ≡ true → IsCell ws width (Concat x y)
concat_is ws x y width e =
    let k = both (is_net ws x && is_net ws y) (slice_index ws x + slice_index ws y == width) e in
    let n = both (is_net ws x) (is_net ws y) k.0 in
    (lt_of x (length ws) n.0, lt_of y (length ws) n.1, eq_of (slice_index ws x + slice_index ws y) width k.1)

concat_in : (ws : List ℕ) (x y width : ℕ) → IsCell ws width (Concat x y) → is_cell ws width (Concat x y) ≡ true
concat_in ws x y width h =
    join_true (is_net ws x && is_net ws y) (slice_index ws x + slice_index ws y == width)
    (join_true (is_net ws x) (is_net ws y) (lt_to x (length ws) h.0) (lt_to y (length ws) h.1)) (eq_to (slice_index ws x + slice_index ws y) width h.2)

select_is : (ws : List ℕ) (x hi lo width : ℕ) → is_cell ws width (Select x hi lo) ≡ true → IsCell ws width (Select x hi lo)
select_is ws x hi lo width e =
    let a = both (is_net ws x && nat_lt hi (slice_index ws x) && nat_le lo hi) (width == hi - lo + 1) e in
    let b = both (is_net ws x && nat_lt hi (slice_index ws x)) (nat_le lo hi) a.0 in
    let n = both (is_net ws x) (nat_lt hi (slice_index ws x)) b.0 in
    (lt_of x (length ws) n.0, lt_of hi (slice_index ws x) n.1, le_of lo hi b.1, eq_of width (hi - lo + 1) a.1)

select_in : (ws : List ℕ) (x hi lo width : ℕ) → IsCell ws width (Select x hi lo) → is_cell ws width (Select x hi lo) ≡ true
select_in ws x hi lo width h =
    join_true (is_net ws x && nat_lt hi (slice_index ws x) && nat_le lo hi) (width == hi - lo + 1)
    (join_true (is_net ws x && nat_lt hi (slice_index ws x)) (nat_le lo hi)
    (join_true (is_net ws x) (nat_lt hi (slice_index ws x)) (lt_to x (length ws) h.0) (lt_to hi (slice_index ws x) h.1)) (le_to lo hi h.2))
    (eq_to width (hi - lo + 1) h.3)

pub cell_is : (ws : List ℕ) (width : ℕ) (o : CellOp) → is_cell ws width o ≡ true → IsCell ws width o
cell_is ws width (Const value) e = lt_of value (2 ^ width) e
cell_is ws width (Not x) e = width_is ws x width e
cell_is ws width (And x y) e = widths_are ws x y width e
cell_is ws width (Or x y) e = widths_are ws x y width e
cell_is ws width (Xor x y) e = widths_are ws x y width e
cell_is ws width (Add x y) e = widths_are ws x y width e
cell_is ws width (Sub x y) e = widths_are ws x y width e
cell_is ws width (Eq x y) e = one_is ws x y width e
cell_is ws width (Less x y) e = one_is ws x y width e
cell_is ws width (Mux c x y) e = mux_is ws c x y width e
cell_is ws width (Concat x y) e = concat_is ws x y width e
cell_is ws width (Select x hi lo) e = select_is ws x hi lo width e

pub cell_in : (ws : List ℕ) (width : ℕ) (o : CellOp) → IsCell ws width o → is_cell ws width o ≡ true
cell_in ws width (Const value) h = lt_to value (2 ^ width) h
cell_in ws width (Not x) h = width_in ws x width h
cell_in ws width (And x y) h = widths_in ws x y width h
cell_in ws width (Or x y) h = widths_in ws x y width h
cell_in ws width (Xor x y) h = widths_in ws x y width h
cell_in ws width (Add x y) h = widths_in ws x y width h
cell_in ws width (Sub x y) h = widths_in ws x y width h
cell_in ws width (Eq x y) h = one_in ws x y width h
cell_in ws width (Less x y) h = one_in ws x y width h
cell_in ws width (Mux c x y) h = join_true (has_width ws c 1) (have_width ws x y width) (width_in ws c 1 h.0) (widths_in ws x y width h.1)
cell_in ws width (Concat x y) h = concat_in ws x y width h
cell_in ws width (Select x hi lo) h = select_in ws x hi lo width h

pub exact : TestsAreExact
exact = record {
  numbers = λ text n. (number_is text n, number_in text n);
  ranges = λ high low width. (range_is high low width, range_in high low width);
  literals = λ width value text w. (λ e. (literal_small width value text w.1 e, literal_is width value text e), literal_in width value text w.1);
  cells = λ ws width o. (cell_is ws width o, cell_in ws width o);
}
