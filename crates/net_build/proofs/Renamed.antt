-- Operators whose operands are numbered anew.
use Rattle.std.proofs.Common.{◌≡◌, ℕ, ◌+◌, ◌*◌, ◌^◌, ◌<◌, List, refl, sym, ap, ◌∙◌, subst}
use Rattle.std.specs.List.{AllByRecursion}
use Rattle.net_cells.specs.declared.netlist.CellOp.{CellOp}
use Rattle.net_cells.specs.declared.netlist.CellOp.TheVariants.{Const, Not, And, Or, Xor, Add, Sub, Eq, Less, Mux, Concat, Select}
use Rattle.net_cells.specs.Rules.{HasWidth, HaveOneWidth, IsCell, width_at}
use Rattle.net_cells.specs.Values.{op_value}
use Rattle.net_cells.specs.Loops.{operands}
use Rattle.net_build.specs.Numbering.{renamed}

-- each net keeps its width under its further number
abbrev pub KeepsWidths : List ℕ → List ℕ → (ℕ → ℕ) → Type 0
KeepsWidths ws us r = (x width : ℕ) → HasWidth ws x width → HasWidth us (r x) width

same_renamed : (ws us : List ℕ) (r : ℕ → ℕ) → KeepsWidths ws us r → (x y : ℕ) → HaveOneWidth ws x y → HaveOneWidth us (r x) (r y)
same_renamed ws us r k x y h =
    let a = k x (width_at ws x) (h.0, refl) in
    let b = k y (width_at ws y) (h.1, refl) in
    (a.0, b.0, a.1 ∙ h.2 ∙ sym b.1)

pub rule_renamed : (ws us : List ℕ) (r : ℕ → ℕ) → KeepsWidths ws us r → (width : ℕ) (op : CellOp) → IsCell ws width op → IsCell us width (renamed r op)
rule_renamed ws us r k width (Const value) h = h
rule_renamed ws us r k width (Not x) h = k x width h
rule_renamed ws us r k width (And x y) h = (k x width h.0, k y width h.1)
rule_renamed ws us r k width (Or x y) h = (k x width h.0, k y width h.1)
rule_renamed ws us r k width (Xor x y) h = (k x width h.0, k y width h.1)
rule_renamed ws us r k width (Add x y) h = (k x width h.0, k y width h.1)
rule_renamed ws us r k width (Sub x y) h = (k x width h.0, k y width h.1)
rule_renamed ws us r k width (Eq x y) h = (h.0, same_renamed ws us r k x y h.1)
rule_renamed ws us r k width (Less x y) h = (h.0, same_renamed ws us r k x y h.1)
rule_renamed ws us r k width (Mux c x y) h = (k c 1 h.0, (k x width h.1.0, k y width h.1.1))
rule_renamed ws us r k width (Concat x y) h =
    let a = k x (width_at ws x) (h.0, refl) in
    let b = k y (width_at ws y) (h.1, refl) in
    (a.0, b.0, ap (λ n. n + width_at us (r y)) a.1 ∙ ap (λ n. width_at ws x + n) b.1 ∙ h.2)
rule_renamed ws us r k width (Select x hi lo) h =
    let a = k x (width_at ws x) (h.0, refl) in
    (a.0, subst (λ n. hi < n) (sym a.1) h.1, h.2, h.3)

pub value_renamed : (ws us : List ℕ) (r : ℕ → ℕ) → KeepsWidths ws us r → (width : ℕ) (op : CellOp) (v : ℕ → ℕ) → IsCell ws width op → op_value us width (renamed r op) v ≡ op_value ws width op (λ x. v (r x))
value_renamed ws us r k width (Const value) v h = refl
value_renamed ws us r k width (Not x) v h = refl
value_renamed ws us r k width (And x y) v h = refl
value_renamed ws us r k width (Or x y) v h = refl
value_renamed ws us r k width (Xor x y) v h = refl
value_renamed ws us r k width (Add x y) v h = refl
value_renamed ws us r k width (Sub x y) v h = refl
value_renamed ws us r k width (Eq x y) v h = refl
value_renamed ws us r k width (Less x y) v h = refl
value_renamed ws us r k width (Mux c x y) v h = refl
value_renamed ws us r k width (Concat x y) v h = ap (λ n. v (r x) * 2 ^ n + v (r y)) (k y (width_at ws y) (h.1, refl)).1
value_renamed ws us r k width (Select x hi lo) v h = refl

pub operands_renamed : (P : ℕ → Type 0) (r : ℕ → ℕ) (op : CellOp) → AllByRecursion (λ x. P (r x)) (operands op) → AllByRecursion P (operands (renamed r op))
operands_renamed P r (Const value) h = h
operands_renamed P r (Not x) h = h
operands_renamed P r (And x y) h = h
operands_renamed P r (Or x y) h = h
operands_renamed P r (Xor x y) h = h
operands_renamed P r (Add x y) h = h
operands_renamed P r (Sub x y) h = h
operands_renamed P r (Eq x y) h = h
operands_renamed P r (Less x y) h = h
operands_renamed P r (Mux c x y) h = h
operands_renamed P r (Concat x y) h = h
operands_renamed P r (Select x hi lo) h = h
