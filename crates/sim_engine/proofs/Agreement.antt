-- The values after the rows of an order are those of every assignment that the given values allow.
use Rattle.std.proofs.Common.{◌≡◌, ◌≢◌, ℕ, zero, suc, true, false, ◌+◌, ◌-◌, ◌<◌, ◌≤◌, inl, inr, List, [], length, get_or, set, sym, ap, ◌∙◌, arith}
use Rattle.std.specs.Prelude.{Some, Contains, slice_get, nat_lt}
use Rattle.std.proofs.lemmas.Bool.{cases_lt, cond-true, cond-false}
use Rattle.std.proofs.lemmas.Bool.Decides.{nat_tests}
use Rattle.std.proofs.lemmas.List.{get_or-set_other, get_or-set_same, length-set}
use Rattle.std.proofs.lemmas.Option.{slice_get-get_or}
use Rattle.net_cells.specs.declared.netlist.CellOp.TheVariants as op
use Rattle.net_cells.specs.declared.netlist.Netlist.{Netlist}
use Rattle.net_cells.specs.Rules.{IsWellFormed, sources, widths}
use Rattle.net_cells.specs.Values.{AreValues}
use Rattle.net_cells.specs.Loops.{operands}
use Rattle.net_cells.proofs.Operators.{every, exist, pick}
use Rattle.net_cells.proofs.Cycles.{cell_rule, many}
use Rattle.sim_engine.specs.declared.steps.Step.{Step}
use Rattle.sim_engine.specs.Steps.{evaluated, step_value}
use Rattle.sim_engine.specs.Orders.{ArePositions, IsOrder, cell_at, position, step_at}
use Rattle.sim_engine.proofs.Placed.{row_before, ready_at, order_long}
use Rattle.sim_engine.proofs.Rows.{wide}
use Rattle.sim_engine.proofs.StepValues.{step_right}

-- the cells in so many rows have their values
abbrev pub HoldRows : Netlist → (ℕ → ℕ) → List ℕ → ℕ → List ℕ → Type 0
HoldRows n v order count values = (row : ℕ) → row < count → get_or values (sources n + row) 0 ≡ v (sources n + get_or order row 0)

-- the inputs and registers of a kind have theirs
abbrev pub HoldGiven : Netlist → (ℕ → ℕ) → (ℕ → Type 0) → List ℕ → Type 0
HoldGiven n v P values = (net : ℕ) → net < sources n → P net → get_or values net 0 ≡ v net

-- the net of a row's cell stands behind the inputs and registers
pub placed_net : (n : Netlist) (positions : List ℕ) (net : ℕ) → net < sources n → position (sources n) positions net ≡ net
placed_net n positions net b = let t : nat_lt net (sources n) ≡ true = grind (arith, nat_tests) in cond-true (nat_lt net (sources n)) net (sources n + get_or positions (net - sources n) 0) t

pub placed_cell : (n : Netlist) (positions : List ℕ) (net : ℕ) → sources n ≤ net → position (sources n) positions net ≡ sources n + get_or positions (net - sources n) 0
placed_cell n positions net b = let t : nat_lt net (sources n) ≡ false = grind (arith, nat_tests) in cond-false (nat_lt net (sources n)) net (sources n + get_or positions (net - sources n) 0) t

-- a net has its value where it stands
pub net_right : (n : Netlist) (order positions : List ℕ) → ArePositions n order positions → (v : ℕ → ℕ) (P : ℕ → Type 0) (count : ℕ) (values : List ℕ) → HoldGiven n v P values → HoldRows n v order count values
    → (net : ℕ) → (net < sources n → P net) → (sources n ≤ net → (net - sources n < length n.cells) × (get_or positions (net - sources n) 0 < count)) → get_or values (position (sources n) positions net) 0 ≡ v net
net_right n order positions p v P count values g h net given cell = elim (cases_lt net (sources n)) [
  | inl b ↦ ap (λ k. get_or values k 0) (placed_net n positions net b) ∙ g net b (given b)
  | inr b ↦
      let e = cell b in
      let f : sources n + (net - sources n) ≡ net = omega arith in
      ap (λ k. get_or values k 0) (placed_cell n positions net b) ∙ h (get_or positions (net - sources n) 0) e.1
      ∙ ap (λ q. v (sources n + q)) (p.right (net - sources n) e.0) ∙ ap v f
]

-- the step of a row gives the value that the assignment has
row_right : (n : Netlist) → IsWellFormed n → (order positions : List ℕ) → IsOrder n order → ArePositions n order positions → (given : List ℕ) (v : ℕ → ℕ) → AreValues n given v → (P : ℕ → Type 0) (row : ℕ) (values : List ℕ) → row < length order
    → HoldGiven n v P values → HoldRows n v order row values → ((net : ℕ) → Contains (operands (cell_at n (get_or order row 0)).op) net → net < sources n → P net)
    → step_value (step_at n positions (get_or order row 0)) values ≡ v (sources n + get_or order row 0)
row_right n w order positions o p given v c P row values b g h reads =
    let place = get_or order row 0 in
    let cell = cell_at n place in
    let exists : place < length n.cells = o.exist row 0 b in
    let e : slice_get n.cells place ≡ Some cell = slice_get-get_or n.cells place (record { width = 0; op = op.Const 0 }) exists in
    let rule = cell_rule n w place cell e in
    let nets = exist (widths n) cell.width cell.op rule in
    let ready = ready_at n [] order o.ordered row b in
    let right : (net : ℕ) → Contains (operands cell.op) net → get_or values (position (sources n) positions net) 0 ≡ v net = λ net k.
    let within : net < length (widths n) = pick (λ x. x < length (widths n)) (operands cell.op) nets net k.0 k.1 k.2 in
    net_right n order positions p v P row values g h net (reads net k)
    (λ s.
    let q : net - sources n < length n.cells = omega (arith, many n) in
    (q, row_before n order positions o p row (net - sources n) b q (ready cell e net k s))) in
    step_right (widths n) cell.width cell.op v (position (sources n) positions) values rule (wide n w place exists) w.sized c.fits
    (every (λ x. get_or values (position (sources n) positions x) 0 ≡ v x) (operands cell.op) right)
    ∙ sym (c.cells place cell e)

-- After more rows, the cells in them have their values too, and the inputs and registers keep theirs.
pub rows_right : (n : Netlist) → IsWellFormed n → (order positions : List ℕ) → IsOrder n order → ArePositions n order positions → (given : List ℕ) (v : ℕ → ℕ) → AreValues n given v → (P : ℕ → Type 0)
    → (step : ℕ → Step) (at from count row until : ℕ) (values : List ℕ) → at + from ≡ sources n + row → row + count ≡ until → until ≤ length order → length values ≡ length (widths n)
    → ((k : ℕ) → k < count → step (from + k) ≡ step_at n positions (get_or order (row + k) 0))
    → ((k : ℕ) → k < until → (net : ℕ) → Contains (operands (cell_at n (get_or order k 0)).op) net → net < sources n → P net)
    → HoldGiven n v P values → HoldRows n v order row values → HoldGiven n v P (evaluated step at from count values) × HoldRows n v order until (evaluated step at from count values)
rows_right n w order positions o p given v c P step at from zero row until values e f l m steps reads g h = (g, λ k b. h k (omega arith))
rows_right n w order positions o p given v c P step at from (suc count) row until values e f l m steps reads g h =
    let value = step_value (step from) values in
    let after = set values (at + from) value in
    let zero_more : from + 0 ≡ from = omega arith in
    let row_zero : row + 0 ≡ row = omega arith in
    let here : step from ≡ step_at n positions (get_or order row 0) = ap step (sym zero_more) ∙ steps 0 (omega arith) ∙ ap (λ k. step_at n positions (get_or order k 0)) row_zero in
    let right : value ≡ v (sources n + get_or order row 0) = ap (λ s. step_value s values) here ∙ row_right n w order positions o p given v c P row values (omega arith) g h (reads row (omega arith)) in
    let cells : length order ≡ length n.cells = order_long n order o in
    let b : at + from < length values = omega (arith, many n) in
    rows_right n w order positions o p given v c P step at (from + 1) count (row + 1) until after (omega arith) (omega arith) l (length-set values (at + from) value ∙ m)
    (λ k d.
    let a : from + 1 + k ≡ from + (k + 1) = omega arith in
    let r : row + 1 + k ≡ row + (k + 1) = omega arith in
    ap step a ∙ steps (k + 1) (omega arith) ∙ ap (λ x. step_at n positions (get_or order x 0)) (sym r))
    reads
    (λ net d q. let apart : net ≢ at + from = omega arith in get_or-set_other values (at + from) net value 0 apart ∙ g net d q)
    (λ k d. elim (cases_lt k row) [
      | inl s ↦ let apart : sources n + k ≢ at + from = omega arith in get_or-set_other values (at + from) (sources n + k) value 0 apart ∙ h k s
      | inr s ↦
          let same : k ≡ row = omega arith in
          let here_at : sources n + k ≡ at + from = omega arith in
          ap (λ x. get_or after x 0) here_at ∙ get_or-set_same values (at + from) value 0 b ∙ right ∙ ap (λ x. v (sources n + get_or order x 0)) (sym same)
    ])
