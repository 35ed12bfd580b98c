-- Rows of steps, taken one after another.
use Rattle.std.proofs.Common.{◌≡◌, ℕ, zero, suc, ◌+◌, ◌-◌, ◌<◌, ◌≤◌, List, length, set, refl, sym, ap, ◌∙◌, subst, arith}
use Rattle.std.specs.Prelude.{Some, slice_get}
use Rattle.std.proofs.lemmas.List.{length-set}
use Rattle.std.proofs.lemmas.Option.{slice_get-get_or}
use Rattle.net_cells.specs.declared.netlist.CellOp.TheVariants as op
use Rattle.net_cells.specs.declared.netlist.Netlist.{Netlist}
use Rattle.net_cells.specs.Rules.{IsWellFormed, IsWidth, sources, widths, width_at}
use Rattle.net_cells.proofs.Cycles.{cell_width, many}
use Rattle.sim_engine.specs.declared.steps.Step.{Step}
use Rattle.sim_engine.specs.Steps.{evaluated, step_value}
use Rattle.sim_engine.specs.Orders.{cell_at}

-- a cell has 1 to 64 bits
pub wide : (n : Netlist) → IsWellFormed n → (place : ℕ) → place < length n.cells → IsWidth (cell_at n place).width
wide n w place b =
    let cell = cell_at n place in
    let e : slice_get n.cells place ≡ Some cell = slice_get-get_or n.cells place (record { width = 0; op = op.Const 0 }) b in
    let size : IsWidth (width_at (widths n) (sources n + place)) = w.sized (sources n + place) 0 (omega (arith, many n)) in
    subst IsWidth (cell_width n place cell e) size

pub narrow : (n : Netlist) → IsWellFormed n → (place : ℕ) → place < length n.cells → (cell_at n place).width ≤ 64
narrow n w place b = (wide n w place b).1

pub length-evaluated : (step : ℕ → Step) (at from count : ℕ) (values : List ℕ) → length (evaluated step at from count values) ≡ length values
length-evaluated step at from zero values = refl
length-evaluated step at from (suc count) values =
    length-evaluated step at (from + 1) count (set values (at + from) (step_value (step from) values)) ∙ length-set values (at + from) (step_value (step from) values)

-- one row of some
pub one_row : (step : ℕ → Step) (at row until : ℕ) (values after : List ℕ) → row < until → after ≡ set values (at + row) (step_value (step row) values)
    → evaluated step at (row + 1) (until - (row + 1)) after ≡ evaluated step at row (until - row) values
one_row step at row until values after b e =
    let f : suc (until - (row + 1)) ≡ until - row = omega arith in
    ap (evaluated step at (row + 1) (until - (row + 1))) e ∙ ap (λ k. evaluated step at row k values) f

evaluated-more : (step : ℕ → Step) (at from a b : ℕ) (values : List ℕ) → evaluated step at (from + a) b (evaluated step at from a values) ≡ evaluated step at from (a + b) values
evaluated-more step at from zero b values =
    let e : from + 0 ≡ from = omega arith in
    let f : b ≡ 0 + b = omega arith in
    ap (λ k. evaluated step at k b values) e ∙ ap (λ k. evaluated step at from k values) f
evaluated-more step at from (suc a) b values =
    let e : from + suc a ≡ from + 1 + a = omega arith in
    let f : suc (a + b) ≡ suc a + b = omega arith in
    ap (λ k. evaluated step at k b (evaluated step at (from + 1) a (set values (at + from) (step_value (step from) values)))) e
    ∙ evaluated-more step at (from + 1) a b (set values (at + from) (step_value (step from) values))
    ∙ ap (λ k. evaluated step at from k values) f

-- the rows of a run, and then those behind it
pub run_rows : (step : ℕ → Step) (at from until count : ℕ) (values after : List ℕ) → from ≤ until → until ≤ count → after ≡ evaluated step at from (until - from) values
    → evaluated step at until (count - until) after ≡ evaluated step at from (count - from) values
run_rows step at from until count values after l m e =
    let f : from + (until - from) ≡ until = omega arith in
    let g : until - from + (count - until) ≡ count - from = omega arith in
    ap (evaluated step at until (count - until)) e
    ∙ ap (λ k. evaluated step at k (count - until) (evaluated step at from (until - from) values)) (sym f)
    ∙ evaluated-more step at from (until - from) (count - until) values
    ∙ ap (λ k. evaluated step at from k values) g
