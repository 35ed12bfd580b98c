-- The rules and values of operators, where more wires follow.
use Rattle.std.proofs.Common.{◌≡◌, ℕ, ◌+◌, ◌*◌, ◌^◌, ◌<◌, List, ◌++◌, length, take, drop, refl, sym, ap, ◌∙◌, subst, arith, length-append}
use Rattle.std.proofs.lemmas.List.{get_or_append_left, take-append-drop}
use Rattle.net_cells.specs.declared.netlist.CellOp.{CellOp}
use Rattle.net_cells.specs.declared.netlist.CellOp.TheVariants.{Const, Not, And, Or, Xor, Add, Sub, Eq, Less, Mux, Concat, Select}
use Rattle.net_cells.specs.Rules.{HasWidth, HaveOneWidth, IsCell, width_at}
use Rattle.net_cells.specs.Values.{op_value, FitsAll}

pub net_more : (ws more : List ℕ) (n : ℕ) → n < length ws → n < length (ws ++ more)
net_more ws more n h = omega (arith, length-append ws more)

pub width_more : (ws more : List ℕ) (n : ℕ) → n < length ws → width_at (ws ++ more) n ≡ width_at ws n
width_more ws more n h = get_or_append_left ws more 0 n h

pub has_more : (ws more : List ℕ) (n width : ℕ) → HasWidth ws n width → HasWidth (ws ++ more) n width
has_more ws more n width h = (net_more ws more n h.0, width_more ws more n h.0 ∙ h.1)

same_more : (ws more : List ℕ) (x y : ℕ) → HaveOneWidth ws x y → HaveOneWidth (ws ++ more) x y
same_more ws more x y h = (net_more ws more x h.0, net_more ws more y h.1, width_more ws more x h.0 ∙ h.2 ∙ sym (width_more ws more y h.1))

pub cell_more : (ws more : List ℕ) (width : ℕ) (op : CellOp) → IsCell ws width op → IsCell (ws ++ more) width op
cell_more ws more width (Const value) h = h
cell_more ws more width (Not x) h = has_more ws more x width h
cell_more ws more width (And x y) h = (has_more ws more x width h.0, has_more ws more y width h.1)
cell_more ws more width (Or x y) h = (has_more ws more x width h.0, has_more ws more y width h.1)
cell_more ws more width (Xor x y) h = (has_more ws more x width h.0, has_more ws more y width h.1)
cell_more ws more width (Add x y) h = (has_more ws more x width h.0, has_more ws more y width h.1)
cell_more ws more width (Sub x y) h = (has_more ws more x width h.0, has_more ws more y width h.1)
cell_more ws more width (Eq x y) h = (h.0, same_more ws more x y h.1)
cell_more ws more width (Less x y) h = (h.0, same_more ws more x y h.1)
cell_more ws more width (Mux c x y) h = (has_more ws more c 1 h.0, (has_more ws more x width h.1.0, has_more ws more y width h.1.1))
cell_more ws more width (Concat x y) h = (net_more ws more x h.0, net_more ws more y h.1, ap (λ n. n + width_at (ws ++ more) y) (width_more ws more x h.0) ∙ ap (λ n. width_at ws x + n) (width_more ws more y h.1) ∙ h.2)
cell_more ws more width (Select x hi lo) h = (net_more ws more x h.0, subst (λ n. hi < n) (sym (width_more ws more x h.0)) h.1, h.2, h.3)

pub cell_whole : (ws : List ℕ) (n width : ℕ) (op : CellOp) → IsCell (take n ws) width op → IsCell ws width op
cell_whole ws n width op h = subst (λ (x : List ℕ). IsCell x width op) (take-append-drop n ws) (cell_more (take n ws) (drop n ws) width op h)

pub value_more : (ws more : List ℕ) (width : ℕ) (op : CellOp) (v : ℕ → ℕ) → IsCell ws width op → op_value (ws ++ more) width op v ≡ op_value ws width op v
value_more ws more width (Const value) v h = refl
value_more ws more width (Not x) v h = refl
value_more ws more width (And x y) v h = refl
value_more ws more width (Or x y) v h = refl
value_more ws more width (Xor x y) v h = refl
value_more ws more width (Add x y) v h = refl
value_more ws more width (Sub x y) v h = refl
value_more ws more width (Eq x y) v h = refl
value_more ws more width (Less x y) v h = refl
value_more ws more width (Mux c x y) v h = refl
value_more ws more width (Concat x y) v h = ap (λ n. v x * 2 ^ n + v y) (width_more ws more y h.1)
value_more ws more width (Select x hi lo) v h = refl

pub fits_front : (ws more : List ℕ) (v : ℕ → ℕ) → FitsAll (ws ++ more) v → FitsAll ws v
fits_front ws more v f n h = subst (λ w. v n < 2 ^ w) (width_more ws more n h) (f n (net_more ws more n h))
