-- Where no net depends on itself through cells, there is exactly one assignment.
use Rattle.std.proofs.Common.{◌≡◌, ℕ, zero, suc, ◌+◌, ◌-◌, ◌^◌, ◌<◌, ◌≤◌, inl, inr, List, ◌++◌, length, map, get_or, Option, Some, None, refl, sym, ap, ◌∙◌, subst, arith, length-append}
use Rattle.std.specs.Prelude.{slice_get, slice_index, Contains}
use Rattle.std.proofs.lemmas.Bool.{cases_lt}
use Rattle.std.proofs.lemmas.Nat.{pow_pos}
use Rattle.std.proofs.lemmas.List.{length-map, get_or_past, get_or-append-add}
use Rattle.std.proofs.lemmas.Option.{slice_get_within, slice_get-get_or, get_or_from_slice_get, slice_get-map, slice_get_past, slice_get_cases}
use Rattle.net_cells.specs.declared.netlist.Port.{Port}
use Rattle.net_cells.specs.declared.netlist.Reg.{Reg}
use Rattle.net_cells.specs.declared.netlist.Cell.{Cell}
use Rattle.net_cells.specs.declared.netlist.Netlist.{Netlist}
use Rattle.net_cells.specs.Rules.{IsWellFormed, IsCell, sources, widths, width_at}
use Rattle.net_cells.specs.Values.{AreValues, FitsAll, op_value}
use Rattle.net_cells.specs.Loops.{Reads, HasNoLoop, AreGiven, EachCycleIsOne, operands}
use Rattle.net_cells.proofs.Operators.{every, pick, op_same, op_fits, exist}
use Rattle.net_cells.proofs.Paths.{Within, all_within}

pub many : (n : Netlist) → length (widths n) ≡ sources n + length n.cells
many n =
    let ps = map (λ (p : Port). p.width) n.inputs in
    let rs = map (λ (r : Reg). r.width) n.regs in
    let cs = map (λ (c : Cell). c.width) n.cells in
    omega (arith, length-append (ps ++ rs) cs, length-append ps rs, length-map n.inputs (λ (p : Port). p.width), length-map n.regs (λ (r : Reg). r.width), length-map n.cells (λ (c : Cell). c.width))

-- the width of a cell's net
pub cell_width : (n : Netlist) (k : ℕ) (c : Cell) → slice_get n.cells k ≡ Some c → width_at (widths n) (sources n + k) ≡ c.width
cell_width n k c e =
    let ps = map (λ (p : Port). p.width) n.inputs in
    let rs = map (λ (r : Reg). r.width) n.regs in
    let cs = map (λ (c : Cell). c.width) n.cells in
    let l : length (ps ++ rs) ≡ sources n = omega (arith, length-append ps rs, length-map n.inputs (λ (p : Port). p.width), length-map n.regs (λ (r : Reg). r.width)) in
    ap (λ x. get_or (widths n) (x + k) 0) (sym l)
    ∙ get_or-append-add (ps ++ rs) cs k 0
    ∙ get_or_from_slice_get cs k c.width 0 (slice_get-map (λ (c : Cell). c.width) n.cells k ∙ ap (λ (o : Option Cell). elim o as (λ _. Option ℕ) [ None ↦ None | Some c ↦ Some c.width ]) e)

-- the rule of the cell at a place
pub cell_rule : (n : Netlist) → IsWellFormed n → (k : ℕ) (c : Cell) → slice_get n.cells k ≡ Some c → IsCell (widths n) c.width c.op
cell_rule n w k c e = subst (λ (x : Cell). IsCell (widths n) x.width x.op) (get_or_from_slice_get n.cells k c c e) (w.cells k c (slice_get_within n.cells k c e))

-- a net that a cell reads exists
pub read_exists : (n : Netlist) → IsWellFormed n → (net other : ℕ) → Reads n net other → other < length (widths n)
read_exists n w net other r = pick (λ x. x < length (widths n)) (operands r.cell.op) (exist (widths n) r.cell.width r.cell.op (cell_rule n w r.place r.cell r.is)) other r.operand.0 r.operand.1 r.operand.2

-- values one cell further
abbrev cell_or : List ℕ → (ℕ → ℕ) → Option Cell → ℕ
cell_or ws v None = 0
cell_or ws v (Some c) = op_value ws c.width c.op v

abbrev step_or : Netlist → (ℕ → ℕ) → ℕ → Option ℕ → ℕ
step_or n v net (Some x) = x
step_or n v net None = cell_or (widths n) v (slice_get n.cells (net - sources n))

abbrev step : Netlist → List ℕ → (ℕ → ℕ) → ℕ → ℕ
step n given v net = step_or n v net (slice_get given net)

-- values over so many cells one after another
abbrev values : Netlist → List ℕ → ℕ → ℕ → ℕ
values n given zero net = slice_index given net
values n given (suc steps) net = step n given (values n given steps) net

step_source : (n : Netlist) (given : List ℕ) (v : ℕ → ℕ) (net : ℕ) → net < length given → step n given v net ≡ slice_index given net
step_source n given v net h = ap (step_or n v net) (slice_get-get_or given net 0 h)

step_cell : (n : Netlist) (given : List ℕ) (v : ℕ → ℕ) (net : ℕ) (c : Cell) → length given ≤ net → slice_get n.cells (net - sources n) ≡ Some c → step n given v net ≡ op_value (widths n) c.width c.op v
step_cell n given v net c h e = ap (step_or n v net) (slice_get_past given net h) ∙ ap (cell_or (widths n) v) e

-- the cell of a net behind the sources
record CellAt (n : Netlist) (net : ℕ) : Type 0 where
  cell : Cell
  is : slice_get n.cells (net - sources n) ≡ Some cell

cell_at : (n : Netlist) (net : ℕ) → sources n ≤ net → net < length (widths n) → CellAt n net
cell_at n net h b = elim ((slice_get_cases n.cells (net - sources n)).1) [
  | inl x ↦ record { cell = x.0; is = x.2 }
  | inr p ↦ absurd (omega (arith, many n, p.0))
]

reads : (n : Netlist) (net : ℕ) (a : CellAt n net) (x : ℕ) → sources n ≤ net → Contains (operands a.cell.op) x → Reads n net x
reads n net a x h o = record { place = net - sources n; cell = a.cell; here = omega arith; is = a.is; operand = o }

-- all assignments agree at a net that stands on so many cells
same_values : (n : Netlist) → IsWellFormed n → (given : List ℕ) → length given ≡ sources n → (v u : ℕ → ℕ) → AreValues n given v → AreValues n given u → (steps net : ℕ) → net < length (widths n) → Within n steps net → v net ≡ u net
same_values n w given l v u c d zero net b h = c.given_ones net (omega arith) ∙ sym (d.given_ones net (omega arith))
same_values n w given l v u c d (suc steps) net b h = elim (cases_lt net (sources n)) [
  | inl s ↦ c.given_ones net (omega arith) ∙ sym (d.given_ones net (omega arith))
  | inr t ↦
      let a = cell_at n net t b in
      let e : net ≡ sources n + (net - sources n) = omega arith in
      ap v e ∙ c.cells (net - sources n) a.cell a.is
      ∙ op_same (widths n) a.cell.width a.cell.op v u (every (λ x. v x ≡ u x) (operands a.cell.op) (λ x o.
      let r = reads n net a x t o in
      same_values n w given l v u c d steps x (read_exists n w net x r) (h x r)))
      ∙ sym (ap u e ∙ d.cells (net - sources n) a.cell a.is)
]

-- one step more changes nothing at a net that stands on so many cells
settled : (n : Netlist) → IsWellFormed n → (given : List ℕ) → length given ≡ sources n → (steps net : ℕ) → net < length (widths n) → Within n steps net → values n given steps net ≡ values n given (suc steps) net
settled n w given l zero net b h = sym (step_source n given (values n given zero) net (omega arith))
settled n w given l (suc steps) net b h = elim (cases_lt net (sources n)) [
  | inl s ↦ step_source n given (values n given steps) net (omega arith) ∙ sym (step_source n given (values n given (suc steps)) net (omega arith))
  | inr t ↦
      let a = cell_at n net t b in
      step_cell n given (values n given steps) net a.cell (omega arith) a.is
      ∙ op_same (widths n) a.cell.width a.cell.op (values n given steps) (values n given (suc steps)) (every (λ x. values n given steps x ≡ values n given (suc steps) x) (operands a.cell.op) (λ x o.
      let r = reads n net a x t o in
      settled n w given l steps x (read_exists n w net x r) (h x r)))
      ∙ sym (step_cell n given (values n given (suc steps)) net a.cell (omega arith) a.is)
]

values_fit : (n : Netlist) → IsWellFormed n → (given : List ℕ) → AreGiven n given → (steps : ℕ) → FitsAll (widths n) (values n given steps)
values_fit n w given g zero net b = elim (cases_lt net (length given)) [
  | inl s ↦ g.fit net s
  | inr t ↦ subst (λ x. x < 2 ^ width_at (widths n) net) (sym (get_or_past given net 0 t)) (pow_pos (width_at (widths n) net))
]
values_fit n w given g (suc steps) net b = elim (cases_lt net (length given)) [
  | inl s ↦ subst (λ x. x < 2 ^ width_at (widths n) net) (sym (step_source n given (values n given steps) net s)) (g.fit net s)
  | inr t ↦
      let l = g.long in
      let a = cell_at n net (omega arith) b in
      let e : net ≡ sources n + (net - sources n) = omega arith in
      subst (λ x. x < 2 ^ width_at (widths n) net) (sym (step_cell n given (values n given steps) net a.cell t a.is))
      (subst (λ x. op_value (widths n) a.cell.width a.cell.op (values n given steps) < 2 ^ x) (sym (ap (width_at (widths n)) e ∙ cell_width n (net - sources n) a.cell a.is))
      (op_fits (widths n) a.cell.width a.cell.op (values n given steps) (cell_rule n w (net - sources n) a.cell a.is) (values_fit n w given g steps)))
]

value_cell : (n : Netlist) → IsWellFormed n → HasNoLoop n → (given : List ℕ) → AreGiven n given → (k : ℕ) (c : Cell) → slice_get n.cells k ≡ Some c → values n given (length (widths n)) (sources n + k) ≡ op_value (widths n) c.width c.op (values n given (length (widths n)))
value_cell n w a given g k c e =
    let m = many n in
    let l = g.long in
    let b : sources n + k < length (widths n) = omega (arith, slice_get_within n.cells k c e) in
    let f : sources n + k - sources n ≡ k = omega arith in
    settled n w given l (length (widths n)) (sources n + k) b (all_within n a (read_exists n w) (sources n + k) b)
    ∙ step_cell n given (values n given (length (widths n))) (sources n + k) c (omega arith) (ap (slice_get n.cells) f ∙ e)

given_values : (n : Netlist) (given : List ℕ) (steps net : ℕ) → net < length given → values n given steps net ≡ slice_index given net
given_values n given zero net b = refl
given_values n given (suc steps) net b = step_source n given (values n given steps) net b

pub one_cycle : EachCycleIsOne
one_cycle n w a given g =
    let last = length (widths n) in
    let cycle : AreValues n given (values n given last) = record {
      fits = values_fit n w given g last;
      given_ones = given_values n given last;
      cells = value_cell n w a given g;
    } in
    record {
      value = values n given last;
      is = cycle;
      only = λ v c net b. same_values n w given g.long v (values n given last) c cycle last net b (all_within n a (read_exists n w) net b);
    }
