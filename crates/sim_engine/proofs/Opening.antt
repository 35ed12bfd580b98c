-- An engine as it is opened.
use Rattle.std.proofs.Common.{◌≡◌, ℕ, zero, suc, ◌+◌, ◌-◌, ◌^◌, ◌<◌, ◌≤◌, inl, inr, List, [], ◌∷◌, length, map, take, drop, get_or, set, refl, sym, ap, ◌∙◌, subst, arith}
use Rattle.std.specs.Prelude.{replicate, All}
use Rattle.std.proofs.lemmas.Nat.{pow_pos}
use Rattle.std.proofs.lemmas.Bool.{cases_lt}
use Rattle.std.proofs.lemmas.List.{take-replicate, drop-replicate, length-replicate, get_or-replicate, get_or-take, get_or-drop, get_or-map, length-map, length-take-le, length-drop}
use Rattle.std.proofs.lemmas.List.Elements.{All-map, All-take, All-drop}
use Rattle.std.proofs.lemmas.Option.{slice_get-get_or}
use Rattle.net_cells.specs.declared.netlist.CellOp.{CellOp}
use Rattle.net_cells.specs.declared.netlist.CellOp.TheVariants as op
use Rattle.net_cells.specs.declared.netlist.Netlist.{Netlist}
use Rattle.net_cells.specs.declared.netlist.OutPort.{OutPort}
use Rattle.net_cells.specs.declared.netlist.Reg.{Reg}
use Rattle.net_cells.specs.Rules.{IsWellFormed, sources, widths, width_at}
use Rattle.net_cells.specs.Values.{first_registers}
use Rattle.net_cells.proofs.Operators.{exist}
use Rattle.net_cells.proofs.Cycles.{many, cell_rule}
use Rattle.sim_engine.specs.declared.steps.Kind.TheVariants.{Const}
use Rattle.sim_engine.specs.declared.steps.Step.{Step}
use Rattle.sim_engine.specs.declared.columns.Columns.{Columns}
use Rattle.sim_engine.specs.declared.runs.Run.{Run}
use Rattle.sim_engine.specs.Steps.{IsAmong, evaluated, step_for, step_value, three}
use Rattle.sim_engine.specs.Columns.{AreColumns, AreRuns, CanEvaluate, step_of}
use Rattle.sim_engine.specs.Orders.{ArePositions, AreSettled, IsOrder, cell_at, position, step_at}
use Rattle.sim_engine.specs.Engines.{HaveSettled, IsEngine, RegistersFit, registers_in}
use Rattle.sim_engine.specs.Running.{Running, opened}
use Rattle.sim_engine.proofs.Agreement.{placed_net, placed_cell, rows_right}
use Rattle.sim_engine.proofs.Columned.{can_run, row_is, rows_are}
use Rattle.sim_engine.proofs.Placed.{order_long}
use Rattle.sim_engine.proofs.Rows.{length-evaluated}
use Rattle.sim_engine.proofs.Walking.{sources_some, three_below}

-- ---- what the steps read

among_by : (o : CellOp) (ws : List ℕ) (width x y z limit : ℕ) → x < limit → y < limit → z < limit → IsAmong limit (step_for ws width o x y z)
among_by (op.Const value) ws width x y z limit a b c = record { x = λ k. absurd (k refl); y = λ k. absurd (k refl); z = λ k. absurd (k refl) }
among_by (op.Not u) ws width x y z limit a b c = record { x = λ _. a; y = λ _. b; z = λ _. c }
among_by (op.And u v) ws width x y z limit a b c = record { x = λ _. a; y = λ _. b; z = λ _. c }
among_by (op.Or u v) ws width x y z limit a b c = record { x = λ _. a; y = λ _. b; z = λ _. c }
among_by (op.Xor u v) ws width x y z limit a b c = record { x = λ _. a; y = λ _. b; z = λ _. c }
among_by (op.Add u v) ws width x y z limit a b c = record { x = λ _. a; y = λ _. b; z = λ _. c }
among_by (op.Sub u v) ws width x y z limit a b c = record { x = λ _. a; y = λ _. b; z = λ _. c }
among_by (op.Eq u v) ws width x y z limit a b c = record { x = λ _. a; y = λ _. b; z = λ _. c }
among_by (op.Less u v) ws width x y z limit a b c = record { x = λ _. a; y = λ _. b; z = λ _. c }
among_by (op.Mux p u v) ws width x y z limit a b c = record { x = λ _. a; y = λ _. b; z = λ _. c }
among_by (op.Concat u v) ws width x y z limit a b c = record { x = λ _. a; y = λ _. b; z = λ _. c }
among_by (op.Select u hi lo) ws width x y z limit a b c = record { x = λ _. a; y = λ _. b; z = λ _. c }

-- where a net stands is among the values
pub position_within : (n : Netlist) (order positions : List ℕ) → IsOrder n order → ArePositions n order positions → (net : ℕ) → net < length (widths n) → position (sources n) positions net < length (widths n)
position_within n order positions o p net b = elim (cases_lt net (sources n)) [
  | inl s ↦ subst (λ k. k < length (widths n)) (sym (placed_net n positions net s)) b
  | inr s ↦
      let long : length order ≡ length n.cells = order_long n order o in
      let q : get_or positions (net - sources n) 0 < length order = p.within (net - sources n) 0 (omega (arith, p.long, many n)) in
      subst (λ k. k < length (widths n)) (sym (placed_cell n positions net s)) (omega (arith, many n))
]

step_among : (n : Netlist) → IsWellFormed n → (order positions : List ℕ) → IsOrder n order → ArePositions n order positions → (place : ℕ) → place < length n.cells → IsAmong (length (widths n)) (step_at n positions place)
step_among n w order positions o p place b =
    let cell = cell_at n place in
    let r = cell_rule n w place cell (slice_get-get_or n.cells place _ b) in
    let some : 0 < length (widths n) = let s = sources_some n w in omega (arith, many n) in
    let t = three_below cell.op (length (widths n)) some (exist (widths n) cell.width cell.op r) in
    let within = position_within n order positions o p in
    among_by cell.op (widths n) cell.width (position (sources n) positions (get_or (three cell.op) 0 0)) (position (sources n) positions (get_or (three cell.op) 1 0)) (position (sources n) positions (get_or (three cell.op) 2 0))
    (length (widths n)) (within (get_or (three cell.op) 0 0) t.0) (within (get_or (three cell.op) 1 0) t.1) (within (get_or (three cell.op) 2 0) t.2)

all_among : (n : Netlist) → IsWellFormed n → (order positions : List ℕ) → IsOrder n order → ArePositions n order positions → All (IsAmong (length (widths n))) (map (step_at n positions) order)
all_among n w order positions o p = All-map (IsAmong (length (widths n))) (step_at n positions) order (λ k d b. step_among n w order positions o p (get_or order k d) (o.exist k d b))

-- the positions leave room for 32 bits
pub positions_small : (n : Netlist) (order positions : List ℕ) → IsOrder n order → ArePositions n order positions → (first : ℕ) → first ≡ sources n → length (widths n) < 2 ^ 32 → All (λ position. first + position < 2 ^ 32) positions
positions_small n order positions o p first e few k d b =
    let long : length order ≡ length n.cells = order_long n order o in
    let q : get_or positions k d < length order = p.within k d b in
    omega (arith, many n)

-- ---- the parts of an engine that is opened

-- what the calls answered that make it
pub record IsOpening (n : Netlist) (order positions : List ℕ) (steps front behind : List Step) (count first nets : ℕ) : Type 0 where
  pub well : IsWellFormed n
  pub is_order : IsOrder n order
  pub placed : ArePositions n order positions
  pub made : steps ≡ map (step_at n positions) order
  pub front_is : front ≡ take count steps
  pub behind_is : behind ≡ drop count steps
  pub within : count ≤ length order
  pub settled : AreSettled n order count
  pub begins : first ≡ sources n
  pub all : nets ≡ length (widths n)

pub front_fits : (n : Netlist) (order positions : List ℕ) (steps front behind : List Step) (count first nets : ℕ) → IsOpening n order positions steps front behind count first nets → CanEvaluate front first nets
front_fits n order positions steps front behind count first nets p =
    let long : length order ≡ length n.cells = order_long n order p.is_order in
    let rows : length steps ≡ length order = ap length p.made ∙ length-map order (step_at n positions) in
    let taken : length front ≡ count = ap length p.front_is ∙ length-take-le count steps (omega (arith, p.within)) in
    record {
      room = omega (arith, p.begins, p.all, p.within, many n);
      among = subst (λ m. All (IsAmong m) front) (sym p.all)
          (subst (λ (xs : List Step). All (IsAmong (length (widths n))) xs) (sym p.front_is)
          (All-take (IsAmong (length (widths n))) count steps (subst (λ (xs : List Step). All (IsAmong (length (widths n))) xs) (sym p.made) (all_among n p.well order positions p.is_order p.placed))));
    }

behind_fits : (n : Netlist) (order positions : List ℕ) (steps front behind : List Step) (count first nets : ℕ) → IsOpening n order positions steps front behind count first nets → CanEvaluate behind (first + count) (length (widths n))
behind_fits n order positions steps front behind count first nets p =
    let long : length order ≡ length n.cells = order_long n order p.is_order in
    let rows : length steps ≡ length order = ap length p.made ∙ length-map order (step_at n positions) in
    let left : length behind ≡ length steps - count = ap length p.behind_is ∙ length-drop count steps in
    record {
      room = omega (arith, p.begins, p.within, many n);
      among = subst (λ (xs : List Step). All (IsAmong (length (widths n))) xs) (sym p.behind_is)
          (All-drop (IsAmong (length (widths n))) count steps (subst (λ (xs : List Step). All (IsAmong (length (widths n))) xs) (sym p.made) (all_among n p.well order positions p.is_order p.placed)));
    }

-- a step of the front, and one behind it
abbrev no_step : Step
no_step = record { x = 0; y = 0; z = 0; shift = 0; short = 0; kind = Const }

front_step : (n : Netlist) (order positions : List ℕ) (steps front behind : List Step) (count first nets : ℕ) → IsOpening n order positions steps front behind count first nets → (row : ℕ) → row < count
    → step_of front row ≡ step_at n positions (get_or order row 0)
front_step n order positions steps front behind count first nets p row b =
    ap (λ (xs : List Step). get_or xs row no_step) p.front_is ∙ get_or-take count steps row no_step b
    ∙ ap (λ (xs : List Step). get_or xs row no_step) p.made ∙ get_or-map (step_at n positions) order row 0 no_step (omega (arith, p.within))

behind_step : (n : Netlist) (order positions : List ℕ) (steps front behind : List Step) (count first nets : ℕ) → IsOpening n order positions steps front behind count first nets → (row : ℕ) → count + row < length order
    → step_of behind row ≡ step_at n positions (get_or order (count + row) 0)
behind_step n order positions steps front behind count first nets p row b =
    ap (λ (xs : List Step). get_or xs row no_step) p.behind_is ∙ get_or-drop count steps row no_step
    ∙ ap (λ (xs : List Step). get_or xs (count + row) no_step) p.made ∙ get_or-map (step_at n positions) order (count + row) 0 no_step b

-- the cells of the front have their values, whatever is given
front_settled : (n : Netlist) (order positions : List ℕ) (steps front behind : List Step) (count first nets : ℕ) → IsOpening n order positions steps front behind count first nets
    → HaveSettled n order count (evaluated (step_of front) first 0 (length front) (replicate nets 0))
front_settled n order positions steps front behind count first nets p given v c row b =
    let rows : length steps ≡ length order = ap length p.made ∙ length-map order (step_at n positions) in
    let taken : length front ≡ count = ap length p.front_is ∙ length-take-le count steps (omega (arith, p.within)) in
    let right =
    rows_right n p.well order positions p.is_order p.placed given v c (λ _. ⊥) (step_of front) first 0 (length front) 0 count (replicate nets 0) (omega (arith, p.begins)) (omega arith) p.within
    (length-replicate nets 0 ∙ p.all)
    (λ k l.
    let e : 0 + k ≡ k = omega arith in
    ap (step_of front) e ∙ front_step n order positions steps front behind count first nets p k (omega arith) ∙ ap (λ x. step_at n positions (get_or order x 0)) (sym e))
    (λ k l net q s. let h = p.settled k l net q in absurd (omega arith))
    (λ net l q. absurd q)
    (λ k l. absurd (omega arith)) in
    right.1 row b

-- ---- the registers

kept_front : (xs : List ℕ) (k v i r : ℕ) → i + r ≤ k → take r (drop i (set xs k v)) ≡ take r (drop i xs)
kept_front xs k v i zero b = refl
kept_front [] k v i (suc r) b = refl
kept_front (x ∷ xs) zero v i (suc r) b = absurd (omega arith)
kept_front (x ∷ xs) (suc k) v zero (suc r) b = ap (λ ys. x ∷ ys) (kept_front xs k v zero r (omega arith))
kept_front (x ∷ xs) (suc k) v (suc i) (suc r) b = kept_front xs k v i (suc r) (omega arith)

pub registers_kept : (n : Netlist) (step : ℕ → Step) (at from count : ℕ) (values : List ℕ) → sources n ≤ at + from → registers_in n (evaluated step at from count values) ≡ registers_in n values
registers_kept n step at from zero values b = refl
registers_kept n step at from (suc count) values b =
    registers_kept n step at (from + 1) count (set values (at + from) (step_value (step from) values)) (omega arith)
    ∙ kept_front values (at + from) (step_value (step from) values) (length n.inputs) (length n.regs) b

zero_registers : (n : Netlist) → registers_in n (replicate (length (widths n)) 0) ≡ replicate (length n.regs) 0
zero_registers n =
    ap (take (length n.regs)) (drop-replicate (length n.inputs) (length (widths n)) 0)
    ∙ take-replicate (length n.regs) (length (widths n) - length n.inputs) 0 (omega (arith, many n))

registers_zero : (n : Netlist) (step : ℕ → Step) (first count nets : ℕ) (values : List ℕ) → first ≡ sources n → nets ≡ length (widths n) → values ≡ evaluated step first 0 count (replicate nets 0) → registers_in n values ≡ replicate (length n.regs) 0
registers_zero n step first count nets values b e f =
    ap (registers_in n) f ∙ registers_kept n step first 0 count (replicate nets 0) (omega (arith, b)) ∙ ap (λ m. registers_in n (replicate m 0)) e ∙ zero_registers n

zeros_map : (rs : List Reg) → replicate {A = ℕ} (length rs) 0 ≡ map (λ (r : Reg). 0) rs
zeros_map [] = refl
zeros_map (r ∷ rs) = ap (λ (xs : List ℕ). 0 ∷ xs) (zeros_map rs)

zeros_fit : (n : Netlist) → RegistersFit n (replicate (length n.regs) 0)
zeros_fit n k b =
    subst (λ x. x < 2 ^ width_at (widths n) (length n.inputs + k)) (sym (get_or-replicate (length n.regs) k 0 0 (omega (arith, length-replicate {A = ℕ} (length n.regs) 0))))
    (pow_pos (width_at (widths n) (length n.inputs + k)))

-- ---- the engine

pub engine_made : (n : Netlist) (order positions : List ℕ) (steps front behind : List Step) (count first nets : ℕ) → IsOpening n order positions steps front behind count first nets
    → (c : Columns) (runs : List Run) (outs nexts values kept : List ℕ) (regs : ℕ) → AreColumns c behind → AreRuns c.kind.items 0 runs → outs ≡ map (λ (o : OutPort). position first positions o.net) n.outputs
    → nexts ≡ map (λ (r : Reg). position first positions r.next) n.regs → values ≡ evaluated (step_of front) first 0 (length front) (replicate nets 0) → kept ≡ replicate regs 0 → regs ≡ length n.regs
    → IsEngine n c runs (first + count) outs nexts values kept
engine_made n order positions steps front behind count first nets p c runs outs nexts values kept regs a r f g v k e =
    let rows : length steps ≡ length order = ap length p.made ∙ length-map order (step_at n positions) in
    let left : length behind ≡ length steps - count = ap length p.behind_is ∙ length-drop count steps in
    let kinds = rows_are c behind a in
    record {
      well = p.well;
      order = order;
      positions = positions;
      count = count;
      is_order = p.is_order;
      placed = p.placed;
      begins = ap (λ m. m + count) p.begins;
      ends = omega (arith, p.within);
      steps = λ row b. row_is c behind a row (omega arith) ∙ behind_step n order positions steps front behind count first nets p row (omega (arith, p.within));
      can = can_run c behind (first + count) (length (widths n)) a (behind_fits n order positions steps front behind count first nets p);
      parted = r;
      shown = f ∙ ap (λ m. map (λ (o : OutPort). position m positions o.net) n.outputs) p.begins;
      moved = g ∙ ap (λ m. map (λ (r : Reg). position m positions r.next) n.regs) p.begins;
      long = ap length v ∙ length-evaluated (step_of front) first 0 (length front) (replicate nets 0) ∙ length-replicate nets 0 ∙ p.all;
      room = ap length k ∙ length-replicate regs 0 ∙ e;
      fit = subst (λ (xs : List ℕ). RegistersFit n xs) (sym (registers_zero n (step_of front) first (length front) nets values p.begins p.all v)) (zeros_fit n);
      settled = subst (HaveSettled n order count) (sym v) (front_settled n order positions steps front behind count first nets p);
    }

abbrev running : Netlist → List ℕ → Running
running n registers = record { netlist = n; registers = registers }

pub engine_opened : (n : Netlist) (step : ℕ → Step) (first count nets : ℕ) (values : List ℕ) → first ≡ sources n → nets ≡ length (widths n) → values ≡ evaluated step first 0 count (replicate nets 0)
    → record { netlist = n; registers = registers_in n values } ≡ opened n
engine_opened n step first count nets values b e v =
    let f : registers_in n values ≡ first_registers n = registers_zero n step first count nets values b e v ∙ zeros_map n.regs in
    ap (running n) f

-- ---- the calls that make an engine, each with what it answers

pub opening : (n : Netlist) → IsWellFormed n → (order positions ps : List ℕ) (steps ss front behind : List Step) (count first nets : ℕ) → IsOrder n order → ArePositions n order positions → ps ≡ positions → steps ≡ map (step_at n ps) order
    → ss ≡ steps → front ≡ take count ss → behind ≡ drop count ss → count ≤ length order → AreSettled n order count → first ≡ sources n → nets ≡ length (widths n) → IsOpening n order positions steps front behind count first nets
opening n w order positions ps steps ss front behind count first nets o p ep es ess ef eb l s f m = record {
  well = w;
  is_order = o;
  placed = p;
  made = es ∙ ap (λ (xs : List ℕ). map (step_at n xs) order) ep;
  front_is = ef ∙ ap (take count) ess;
  behind_is = eb ∙ ap (drop count) ess;
  within = l;
  settled = s;
  begins = f;
  all = m;
}

pub room_in : (n : Netlist) (order positions ps : List ℕ) → IsOrder n order → ArePositions n order positions → ps ≡ positions → (first : ℕ) → first ≡ sources n → length (widths n) < 2 ^ 32 → All (λ position. first + position < 2 ^ 32) ps
room_in n order positions ps o p e first f few = subst (λ (xs : List ℕ). All (λ position. first + position < 2 ^ 32) xs) (sym e) (positions_small n order positions o p first f few)

pub shown_placed : (n : Netlist) (first : ℕ) (ps positions : List ℕ) (ports : List OutPort) (places : List ℕ) → ps ≡ positions → ports ≡ n.outputs → places ≡ map (λ (o : OutPort). position first ps o.net) ports
    → places ≡ map (λ (o : OutPort). position first positions o.net) n.outputs
shown_placed n first ps positions ports places e f g =
    g ∙ ap (λ (xs : List ℕ). map (λ (o : OutPort). position first xs o.net) ports) e ∙ ap (map (λ (o : OutPort). position first positions o.net)) f

pub nexts_placed : (n : Netlist) (first : ℕ) (ps positions : List ℕ) (regs : List Reg) (places : List ℕ) → ps ≡ positions → regs ≡ n.regs → places ≡ map (λ (r : Reg). position first ps r.next) regs
    → places ≡ map (λ (r : Reg). position first positions r.next) n.regs
nexts_placed n first ps positions regs places e f g =
    g ∙ ap (λ (xs : List ℕ). map (λ (r : Reg). position first xs r.next) regs) e ∙ ap (map (λ (r : Reg). position first positions r.next)) f
