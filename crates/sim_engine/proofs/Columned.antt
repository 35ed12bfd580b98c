-- Steps in columns, and the runs of one operator among them.
use Rattle.std.proofs.Common.{◌≡◌, ℕ, zero, suc, ◌+◌, ◌-◌, ◌<◌, ◌≤◌, List, length, drop, get_or, set, refl, sym, ap, ◌∙◌, subst, arith}
use Rattle.std.specs.Prelude.{replicate}
use Rattle.std.proofs.lemmas.List.{get_or-map, length-map, length-replicate}
use Rattle.std.proofs.Math.Seq.{drop-cons}
use Rattle.sim_engine.specs.declared.steps.Kind.{Kind}
use Rattle.sim_engine.specs.declared.steps.Kind.TheVariants.{Const}
use Rattle.sim_engine.specs.declared.steps.Step.{Step}
use Rattle.sim_engine.specs.declared.columns.Columns.{Columns}
use Rattle.sim_engine.specs.declared.runs.Run.{Run}
use Rattle.sim_engine.specs.Columns.{AreColumns, AreRuns, CanEvaluate, CanRun, HaveKind, kind_in, step_in, step_of}
use Rattle.sim_engine.specs.Steps.{IsAmong, evaluated, step_value}
use Rattle.sim_engine.proofs.Rows.{one_row}

-- one row of a run
pub run_row : (c : Columns) (first row until : ℕ) (values after : List ℕ) (step : Step) (value : ℕ) → row < until → step ≡ step_in c row → value ≡ step_value step values
    → after ≡ set values (first + row) value → evaluated (step_in c) first (row + 1) (until - (row + 1)) after ≡ evaluated (step_in c) first row (until - row) values
run_row c first row until values after step value b s v e =
    one_row (step_in c) first row until values after b (e ∙ ap (set values (first + row)) (v ∙ ap (λ x. step_value x values) s))

-- ---- runs

-- the run at a place, and those behind it
pub record IsNext (kinds : List Kind) (from : ℕ) (run : Run) (runs : List Run) : Type 0 where
  pub after : from ≤ run.until
  pub within : run.until ≤ length kinds
  pub same : HaveKind kinds from run.until run.kind
  pub rest : AreRuns kinds run.until runs

pub next_run : (kinds : List Kind) (from : ℕ) (runs : List Run) (at : ℕ) (d : Run) → at < length runs → AreRuns kinds from (drop at runs) → IsNext kinds from (get_or runs at d) (drop (at + 1) runs)
next_run kinds from runs at d b r =
    let e : at + 1 ≡ suc at = omega arith in
    let h = subst (AreRuns kinds from) (drop-cons runs at d b) r in
    record { after = h.0; within = h.1; same = h.2; rest = subst (λ k. AreRuns kinds (get_or runs at d).until (drop k runs)) (sym e) h.3 }

-- ---- the columns of steps

pub rows_are : (c : Columns) (steps : List Step) → AreColumns c steps → length c.kind.items ≡ length steps
rows_are c steps a = ap length a.kind ∙ length-map steps (λ (s : Step). s.kind)

pub row_is : (c : Columns) (steps : List Step) → AreColumns c steps → (row : ℕ) → row < length steps → step_in c row ≡ step_of steps row
row_is c steps a row b =
    let s = step_of steps row in
    let d : Step = record { x = 0; y = 0; z = 0; shift = 0; short = 0; kind = Const } in
    let x : get_or c.x.items row 0 ≡ s.x = ap (λ xs. get_or xs row 0) a.x ∙ get_or-map (λ (s : Step). s.x) steps row d 0 b in
    let y : get_or c.y.items row 0 ≡ s.y = ap (λ xs. get_or xs row 0) a.y ∙ get_or-map (λ (s : Step). s.y) steps row d 0 b in
    let z : get_or c.z.items row 0 ≡ s.z = ap (λ xs. get_or xs row 0) a.z ∙ get_or-map (λ (s : Step). s.z) steps row d 0 b in
    let shift : get_or c.shift.items row 0 ≡ s.shift = ap (λ xs. get_or xs row 0) a.shift ∙ get_or-map (λ (s : Step). s.shift) steps row d 0 b in
    let short : get_or c.short.items row 0 ≡ s.short = ap (λ xs. get_or xs row 0) a.short ∙ get_or-map (λ (s : Step). s.short) steps row d 0 b in
    let kind : get_or c.kind.items row Const ≡ s.kind = ap (λ (xs : List Kind). get_or xs row Const) a.kind ∙ get_or-map (λ (s : Step). s.kind) steps row d Const b in
    ap (λ v. record { x = v; y = get_or c.y.items row 0; z = get_or c.z.items row 0; shift = get_or c.shift.items row 0; short = get_or c.short.items row 0; kind = get_or c.kind.items row Const }) x
    ∙ ap (λ v. record { x = s.x; y = v; z = get_or c.z.items row 0; shift = get_or c.shift.items row 0; short = get_or c.short.items row 0; kind = get_or c.kind.items row Const }) y
    ∙ ap (λ v. record { x = s.x; y = s.y; z = v; shift = get_or c.shift.items row 0; short = get_or c.short.items row 0; kind = get_or c.kind.items row Const }) z
    ∙ ap (λ v. record { x = s.x; y = s.y; z = s.z; shift = v; short = get_or c.short.items row 0; kind = get_or c.kind.items row Const }) shift
    ∙ ap (λ v. record { x = s.x; y = s.y; z = s.z; shift = s.shift; short = v; kind = get_or c.kind.items row Const }) short
    ∙ ap (λ (v : Kind). record { x = s.x; y = s.y; z = s.z; shift = s.shift; short = s.short; kind = v }) kind

pub can_run : (c : Columns) (steps : List Step) (first many : ℕ) → AreColumns c steps → CanEvaluate steps first many → CanRun c first many
can_run c steps first many a e =
    let rows = rows_are c steps a in
    record {
      x = ap length a.x ∙ length-map steps (λ (s : Step). s.x) ∙ sym rows;
      y = ap length a.y ∙ length-map steps (λ (s : Step). s.y) ∙ sym rows;
      z = ap length a.z ∙ length-map steps (λ (s : Step). s.z) ∙ sym rows;
      shift = ap length a.shift ∙ length-map steps (λ (s : Step). s.shift) ∙ sym rows;
      short = ap length a.short ∙ length-map steps (λ (s : Step). s.short) ∙ sym rows;
      room = omega (arith, rows, e.room);
      among = λ row b. let l : row < length steps = omega (arith, rows) in subst (IsAmong many) (sym (row_is c steps a row l)) (e.among row _ l);
    }

evaluated-same : (f g : ℕ → Step) (at from count : ℕ) (values : List ℕ) → ((row : ℕ) → from ≤ row → row < from + count → f row ≡ g row) → evaluated f at from count values ≡ evaluated g at from count values
evaluated-same f g at from zero values e = refl
evaluated-same f g at from (suc count) values e =
    ap (λ s. evaluated f at (from + 1) count (set values (at + from) (step_value s values))) (e from (omega arith) (omega arith))
    ∙ evaluated-same f g at (from + 1) count (set values (at + from) (step_value (g from) values)) (λ row b l. e row (omega arith) (omega arith))

-- the rows evaluated are the steps evaluated
pub steps_evaluated : (c : Columns) (steps : List Step) (first : ℕ) (values : List ℕ) → AreColumns c steps → evaluated (step_in c) first 0 (length c.kind.items) values ≡ evaluated (step_of steps) first 0 (length steps) values
steps_evaluated c steps first values a =
    evaluated-same (step_in c) (step_of steps) first 0 (length c.kind.items) values (λ row b l. row_is c steps a row (omega (arith, rows_are c steps a)))
    ∙ ap (λ k. evaluated (step_of steps) first 0 k values) (rows_are c steps a)

-- a row that is read of the columns
pub row_read : (c : Columns) (row : ℕ) (xs ys zs shifts shorts : List ℕ) (kind : Kind) → xs ≡ c.x.items → ys ≡ c.y.items → zs ≡ c.z.items → shifts ≡ c.shift.items → shorts ≡ c.short.items
    → kind_in c.kind.items row ≡ kind
    → record { x = get_or xs row 0; y = get_or ys row 0; z = get_or zs row 0; shift = get_or shifts row 0; short = get_or shorts row 0; kind = kind } ≡ step_in c row
row_read c row xs ys zs shifts shorts kind a b d e f g =
    ap (λ l. record { x = get_or l row 0; y = get_or ys row 0; z = get_or zs row 0; shift = get_or shifts row 0; short = get_or shorts row 0; kind = kind }) a
    ∙ ap (λ l. record { x = get_or c.x.items row 0; y = get_or l row 0; z = get_or zs row 0; shift = get_or shifts row 0; short = get_or shorts row 0; kind = kind }) b
    ∙ ap (λ l. record { x = get_or c.x.items row 0; y = get_or c.y.items row 0; z = get_or l row 0; shift = get_or shifts row 0; short = get_or shorts row 0; kind = kind }) d
    ∙ ap (λ l. record { x = get_or c.x.items row 0; y = get_or c.y.items row 0; z = get_or c.z.items row 0; shift = get_or l row 0; short = get_or shorts row 0; kind = kind }) e
    ∙ ap (λ l. record { x = get_or c.x.items row 0; y = get_or c.y.items row 0; z = get_or c.z.items row 0; shift = get_or c.shift.items row 0; short = get_or l row 0; kind = kind }) f
    ∙ ap (λ (k : Kind). record { x = get_or c.x.items row 0; y = get_or c.y.items row 0; z = get_or c.z.items row 0; shift = get_or c.shift.items row 0; short = get_or c.short.items row 0; kind = k }) (sym g)

-- among as many zeros as there are values
pub can_run_in : (c : Columns) (steps : List Step) (first nets : ℕ) (values : List ℕ) → AreColumns c steps → CanEvaluate steps first nets → values ≡ replicate nets 0 → CanRun c first (length values)
can_run_in c steps first nets values a e z = subst (CanRun c first) (sym (ap length z ∙ length-replicate nets 0)) (can_run c steps first nets a e)

pub settled_by : (c : Columns) (steps : List Step) (first nets : ℕ) (values after : List ℕ) → AreColumns c steps → values ≡ replicate nets 0 → after ≡ evaluated (step_in c) first 0 (length c.kind.items) values
    → after ≡ evaluated (step_of steps) first 0 (length steps) (replicate nets 0)
settled_by c steps first nets values after a z e = e ∙ steps_evaluated c steps first values a ∙ ap (evaluated (step_of steps) first 0 (length steps)) z
