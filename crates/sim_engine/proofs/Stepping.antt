-- A cycle of an engine: its values are the only ones, and it is an engine afterwards.
use Rattle.std.proofs.Common.{◌≡◌, ℕ, suc, ◌+◌, ◌-◌, ◌<◌, ◌≤◌, inl, inr, List, [], ◌∷◌, ◌++◌, length, map, take, drop, get_or, refl, sym, ap, ◌∙◌, subst, arith, append_assoc, length-append}
use Rattle.std.specs.Prelude.{All, slice_index}
use Rattle.std.proofs.lemmas.Bool.{cases_lt}
use Rattle.std.proofs.lemmas.List.{get_or_append_left, get_or-append_right, get_or-take, length-map, length-take-le, length-drop, get_or-drop}
use Rattle.std.proofs.Math.Seq.{take-append_seam, drop-append_seam}
use Rattle.std.proofs.lemmas.List.Elements.{All-map}
use Rattle.net_cells.specs.declared.netlist.Netlist.{Netlist}
use Rattle.net_cells.specs.declared.netlist.OutPort.{OutPort}
use Rattle.net_cells.specs.declared.netlist.Reg.{Reg}
use Rattle.net_cells.specs.Rules.{IsWellFormed, sources, widths}
use Rattle.net_cells.specs.Values.{AreInputs, AreValues, next_registers}
use Rattle.net_cells.specs.Loops.{AreGiven, HasOneCycle}
use Rattle.net_cells.proofs.Cycles.{many, one_cycle}
use Rattle.net_cells.proofs.Runs.{inputs_given, next_held}
use Rattle.sim_engine.specs.declared.columns.Columns.{Columns}
use Rattle.sim_engine.specs.declared.runs.Run.{Run}
use Rattle.sim_engine.specs.Steps.{evaluated}
use Rattle.sim_engine.specs.Columns.{step_in}
use Rattle.sim_engine.specs.Orders.{position}
use Rattle.sim_engine.specs.Engines.{HaveSettled, IsEngine, RegistersFit, registers_in}
use Rattle.sim_engine.specs.Running.{RunsCycle, Running}
use Rattle.sim_engine.proofs.Agreement.{HoldGiven, HoldRows, net_right, rows_right}
use Rattle.sim_engine.proofs.Opening.{position_within}
use Rattle.sim_engine.proofs.Rows.{length-evaluated}
use Rattle.sim_engine.proofs.Acyclic.{no_loop}

-- where the nets of the outputs stand is among the values
pub shown_exist : (n : Netlist) (c : Columns) (runs : List Run) (first : ℕ) (outs nexts values kept : List ℕ) → IsEngine n c runs first outs nexts values kept → (places : List ℕ) (many_values : ℕ) → many_values ≡ length (widths n) → places ≡ outs → All (λ place. place < many_values) places
shown_exist n c runs first outs nexts values kept e places many_values l f =
    subst (λ m. All (λ place. place < m) places) (sym l)
    (subst (λ (xs : List ℕ). All (λ place. place < length (widths n)) xs) (sym (f ∙ e.shown))
    (All-map (λ place. place < length (widths n)) (λ (o : OutPort). position (sources n) e.positions o.net) n.outputs
    (λ k d b. position_within n e.order e.positions e.is_order e.placed (get_or n.outputs k d).net (e.well.shown k d b))))

-- and that of the nets that registers take
pub nexts_exist : (n : Netlist) (c : Columns) (runs : List Run) (first : ℕ) (outs nexts values kept : List ℕ) → IsEngine n c runs first outs nexts values kept → (places : List ℕ) (many_values : ℕ) → many_values ≡ length (widths n) → places ≡ nexts → All (λ place. place < many_values) places
nexts_exist n c runs first outs nexts values kept e places many_values l f =
    subst (λ m. All (λ place. place < m) places) (sym l)
    (subst (λ (xs : List ℕ). All (λ place. place < length (widths n)) xs) (sym (f ∙ e.moved))
    (All-map (λ place. place < length (widths n)) (λ (r : Reg). position (sources n) e.positions r.next) n.regs
    (λ k d b. position_within n e.order e.positions e.is_order e.placed (get_or n.regs k d).next (e.well.registers k d b).0)))

-- the values that are given: the inputs, and then what the registers hold
registers_long : (n : Netlist) (values : List ℕ) → length values ≡ length (widths n) → length (registers_in n values) ≡ length n.regs
registers_long n values f = length-take-le (length n.regs) (drop (length n.inputs) values) (omega (arith, length-drop (length n.inputs) values, many n))

long_given : (n : Netlist) (inputs values : List ℕ) → length inputs ≡ length n.inputs → length values ≡ length (widths n) → length (inputs ++ registers_in n values) ≡ sources n
long_given n inputs values e f = omega (arith, length-append inputs (registers_in n values), registers_long n values f)

are_given : (n : Netlist) (inputs values : List ℕ) → AreInputs n inputs → length values ≡ length (widths n) → RegistersFit n (registers_in n values) → AreGiven n (inputs ++ registers_in n values)
are_given n inputs values i l r = inputs_given n inputs (registers_in n values) i (record { long = registers_long n values l; fit = r })

same_given : (inputs values : List ℕ) (i r net : ℕ) → length inputs ≡ i → net < i + r → get_or (inputs ++ drop i values) net 0 ≡ get_or (inputs ++ take r (drop i values)) net 0
same_given inputs values i r net e b = elim (cases_lt net i) [
  | inl s ↦ get_or_append_left inputs (drop i values) 0 net (omega arith) ∙ sym (get_or_append_left inputs (take r (drop i values)) 0 net (omega arith))
  | inr t ↦
      get_or-append_right inputs (drop i values) i net 0 e t
      ∙ sym (get_or-take r (drop i values) (net - i) 0 (omega arith))
      ∙ sym (get_or-append_right inputs (take r (drop i values)) i net 0 e t)
]

-- a value behind the inputs stays where they are put in
put_keeps : (inputs values : List ℕ) (net : ℕ) → length inputs ≤ net → get_or (inputs ++ drop (length inputs) values) net 0 ≡ get_or values net 0
put_keeps inputs values net b =
    let e : length inputs + (net - length inputs) ≡ net = omega arith in
    get_or-append_right inputs (drop (length inputs) values) (length inputs) net 0 refl b
    ∙ get_or-drop (length inputs) values (net - length inputs) 0 ∙ ap (λ k. get_or values k 0) e

map_through : {A : Type 0} (f : ℕ → ℕ) (g h : A → ℕ) (xs : List A) → ((k : ℕ) (d : A) → k < length xs → f (g (get_or xs k d)) ≡ h (get_or xs k d)) → map f (map g xs) ≡ map h xs
map_through f g h [] e = refl
map_through f g h (x ∷ xs) e = ap (λ y. y ∷ map f (map g xs)) (e 0 x (omega arith)) ∙ ap (λ ys. h x ∷ ys) (map_through f g h xs (λ k d b. e (suc k) d (omega arith)))

middle : (a b c : List ℕ) → take (length b) (drop (length a) (a ++ b ++ c)) ≡ b
middle a b c =
    ap (λ (xs : List ℕ). take (length b) (drop (length a) xs)) (append_assoc a b c)
    ∙ ap (take (length b)) (drop-append_seam a (b ++ c)) ∙ take-append_seam b c

-- the registers are written back
written : (n : Netlist) (values kept : List ℕ) → length values ≡ length (widths n) → length kept ≡ length n.regs → registers_in n (take (length n.inputs) values ++ kept ++ drop (length n.inputs + length kept) values) ≡ kept
written n values kept l e =
    let f : length (take (length n.inputs) values) ≡ length n.inputs = length-take-le (length n.inputs) values (omega (arith, many n)) in
    let all = take (length n.inputs) values ++ kept ++ drop (length n.inputs + length kept) values in
    ap (λ r. take r (drop (length n.inputs) all)) (sym e) ∙ ap (λ i. take (length kept) (drop i all)) (sym f)
    ∙ middle (take (length n.inputs) values) kept (drop (length n.inputs + length kept) values)

written_long : (n : Netlist) (values kept : List ℕ) → length values ≡ length (widths n) → length kept ≡ length n.regs → length (take (length n.inputs) values ++ kept ++ drop (length n.inputs + length kept) values) ≡ length (widths n)
written_long n values kept l e =
    let f : length (take (length n.inputs) values) ≡ length n.inputs = length-take-le (length n.inputs) values (omega (arith, many n)) in
    let r = drop (length n.inputs + length kept) values in
    omega (arith, length-append (take (length n.inputs) values ++ kept) r, length-append (take (length n.inputs) values) kept, length-drop (length n.inputs + length kept) values, many n)

next_fit : (n : Netlist) → IsWellFormed n → (given : List ℕ) (v : ℕ → ℕ) → AreValues n given v → RegistersFit n (next_registers n v)
next_fit n w given v c = (next_held n w given v c).fit

-- What a cycle makes of the values: the inputs are put in, the rows are evaluated, and the registers are moved.
pub record Cycled (n : Netlist) (c : Columns) (first : ℕ) (nexts values inputs v0 v1 kept v2 : List ℕ) : Type 0 where
  pub inputs_in : v0 ≡ inputs ++ drop (length inputs) values
  pub evaluated_by : v1 ≡ evaluated (step_in c) first 0 (length c.kind.items) v0
  pub kept_as : kept ≡ map (slice_index v1) nexts
  pub moved : v2 ≡ take (length n.inputs) v1 ++ kept ++ drop (length n.inputs + length kept) v1

pub plain : (inputs values v0 : List ℕ) → v0 ≡ inputs ++ drop (0 + length inputs) values → v0 ≡ inputs ++ drop (length inputs) values
plain inputs values v0 e = let f : 0 + length inputs ≡ length inputs = omega arith in e ∙ ap (λ k. inputs ++ drop k values) f

pub long_inputs : (n : Netlist) (values inputs v0 : List ℕ) → AreInputs n inputs → length values ≡ length (widths n) → v0 ≡ inputs ++ drop (length inputs) values → length v0 ≡ length (widths n)
long_inputs n values inputs v0 i l e = ap length e ∙ (let h = i.long in omega (arith, length-append inputs (drop (length inputs) values), length-drop (length inputs) values, many n))

pub long_after : (n : Netlist) (c : Columns) (first : ℕ) (values inputs v0 v1 : List ℕ) → AreInputs n inputs → length values ≡ length (widths n) → v0 ≡ inputs ++ drop (length inputs) values → v1 ≡ evaluated (step_in c) first 0 (length c.kind.items) v0 → length v1 ≡ length (widths n)
long_after n c first values inputs v0 v1 i l e f = ap length f ∙ length-evaluated (step_in c) first 0 (length c.kind.items) v0 ∙ long_inputs n values inputs v0 i l e

-- an engine, and the only assignment of its cycle with these inputs
abbrev the_cycle : (n : Netlist) (c : Columns) (runs : List Run) (first : ℕ) (outs nexts values room inputs : List ℕ) → IsEngine n c runs first outs nexts values room → AreInputs n inputs → HasOneCycle n (inputs ++ registers_in n values)
the_cycle n c runs first outs nexts values room inputs e i = one_cycle n e.well (no_loop n e.order e.is_order) (inputs ++ registers_in n values) (are_given n inputs values i e.long e.fit)

-- after the inputs are put in, the inputs and registers have their values
given_hold : (n : Netlist) (inputs values v0 given : List ℕ) (v : ℕ → ℕ) → AreInputs n inputs → length values ≡ length (widths n) → v0 ≡ inputs ++ drop (length inputs) values → AreValues n (inputs ++ registers_in n values) v → HoldGiven n v (λ _. Unit {0}) v0
given_hold n inputs values v0 given v i l f a net b needed =
    ap (λ xs. get_or xs net 0) (f ∙ ap (λ k. inputs ++ drop k values) i.long) ∙ same_given inputs values (length n.inputs) (length n.regs) net i.long b
    ∙ sym (a.given_ones net (omega (arith, long_given n inputs values i.long l)))

-- and the cells at the front still have theirs
front_holds : (n : Netlist) (order inputs values v0 given : List ℕ) (v : ℕ → ℕ) (count : ℕ) → AreInputs n inputs → v0 ≡ inputs ++ drop (length inputs) values → HaveSettled n order count values → AreValues n given v → HoldRows n v order count v0
front_holds n order inputs values v0 given v count i f s a row b =
    ap (λ xs. get_or xs (sources n + row) 0) f ∙ put_keeps inputs values (sources n + row) (let h = i.long in omega arith) ∙ s given v a row b

-- after the rows all cells have their values, and the inputs and registers keep theirs
record IsEvaluated (n : Netlist) (order : List ℕ) (v : ℕ → ℕ) (v1 : List ℕ) : Type 0 where
  given : HoldGiven n v (λ _. Unit {0}) v1
  rows : HoldRows n v order (length order) v1

all_evaluated : (n : Netlist) (c : Columns) (runs : List Run) (first : ℕ) (outs nexts values room inputs v0 v1 kept v2 : List ℕ) (e : IsEngine n c runs first outs nexts values room) (i : AreInputs n inputs) → Cycled n c first nexts values inputs v0 v1 kept v2 → IsEvaluated n e.order (the_cycle n c runs first outs nexts values room inputs e i).value v1
all_evaluated n c runs first outs nexts values room inputs v0 v1 kept v2 e i y =
    let one = the_cycle n c runs first outs nexts values room inputs e i in
    let given = inputs ++ registers_in n values in
    let right =
    rows_right n e.well e.order e.positions e.is_order e.placed given one.value one.is (λ _. Unit {0}) (step_in c) first 0 (length c.kind.items) e.count (length e.order) v0 (omega (arith, e.begins)) e.ends (omega arith)
    (long_inputs n values inputs v0 i e.long y.inputs_in) (λ k b. let z : 0 + k ≡ k = omega arith in ap (step_in c) z ∙ e.steps k b) (λ k l net q s. tt) (given_hold n inputs values v0 given one.value i e.long y.inputs_in one.is)
    (front_holds n e.order inputs values v0 given one.value e.count i y.inputs_in e.settled one.is) in
    record {
      given = subst (HoldGiven n one.value (λ _. Unit {0})) (sym y.evaluated_by) right.0;
      rows = subst (HoldRows n one.value e.order (length e.order)) (sym y.evaluated_by) right.1;
    }

-- after the rows each net has its value where it stands
evaluated_right : (n : Netlist) (c : Columns) (runs : List Run) (first : ℕ) (outs nexts values room inputs v0 v1 kept v2 : List ℕ) (e : IsEngine n c runs first outs nexts values room) (i : AreInputs n inputs) → Cycled n c first nexts values inputs v0 v1 kept v2 → (net : ℕ) → net < length (widths n) → get_or v1 (position (sources n) e.positions net) 0 ≡ (the_cycle n c runs first outs nexts values room inputs e i).value net
evaluated_right n c runs first outs nexts values room inputs v0 v1 kept v2 e i y net b =
    let h = all_evaluated n c runs first outs nexts values room inputs v0 v1 kept v2 e i y in
    net_right n e.order e.positions e.placed (the_cycle n c runs first outs nexts values room inputs e i).value (λ _. Unit {0}) (length e.order) v1 h.given h.rows net (λ s. tt)
    (λ s. let q : net - sources n < length n.cells = omega (arith, many n) in (q, e.placed.within (net - sources n) 0 (omega (arith, e.placed.long))))

kept_right : (n : Netlist) (c : Columns) (runs : List Run) (first : ℕ) (outs nexts values room inputs v0 v1 kept v2 : List ℕ) (e : IsEngine n c runs first outs nexts values room) (i : AreInputs n inputs) → Cycled n c first nexts values inputs v0 v1 kept v2 → kept ≡ next_registers n (the_cycle n c runs first outs nexts values room inputs e i).value
kept_right n c runs first outs nexts values room inputs v0 v1 kept v2 e i y =
    y.kept_as ∙ ap (map (slice_index v1)) e.moved
    ∙ map_through (slice_index v1) (λ (r : Reg). position (sources n) e.positions r.next) (λ (r : Reg). (the_cycle n c runs first outs nexts values room inputs e i).value r.next) n.regs (λ k d b. evaluated_right n c runs first outs nexts values room inputs v0 v1 kept v2 e i y (get_or n.regs k d).next (e.well.registers k d b).0)

kept_long : (n : Netlist) (c : Columns) (runs : List Run) (first : ℕ) (outs nexts values room inputs v0 v1 kept v2 : List ℕ) (e : IsEngine n c runs first outs nexts values room) (i : AreInputs n inputs) → Cycled n c first nexts values inputs v0 v1 kept v2 → length kept ≡ length n.regs
kept_long n c runs first outs nexts values room inputs v0 v1 kept v2 e i y =
    ap length (kept_right n c runs first outs nexts values room inputs v0 v1 kept v2 e i y) ∙ length-map n.regs (λ (r : Reg). (the_cycle n c runs first outs nexts values room inputs e i).value r.next)

registers_right : (n : Netlist) (c : Columns) (runs : List Run) (first : ℕ) (outs nexts values room inputs v0 v1 kept v2 : List ℕ) (e : IsEngine n c runs first outs nexts values room) (i : AreInputs n inputs) → Cycled n c first nexts values inputs v0 v1 kept v2 → registers_in n v2 ≡ next_registers n (the_cycle n c runs first outs nexts values room inputs e i).value
registers_right n c runs first outs nexts values room inputs v0 v1 kept v2 e i y =
    ap (registers_in n) y.moved ∙ written n v1 kept (long_after n c first values inputs v0 v1 i e.long y.inputs_in y.evaluated_by) (kept_long n c runs first outs nexts values room inputs v0 v1 kept v2 e i y)
    ∙ kept_right n c runs first outs nexts values room inputs v0 v1 kept v2 e i y

-- what stands behind the registers stays where they are moved
behind_kept : (n : Netlist) (v1 kept : List ℕ) (net : ℕ) → length v1 ≡ length (widths n) → length kept ≡ length n.regs → sources n ≤ net → get_or (take (length n.inputs) v1 ++ kept ++ drop (length n.inputs + length kept) v1) net 0 ≡ get_or v1 net 0
behind_kept n v1 kept net l m b =
    let front : length (take (length n.inputs) v1) ≡ length n.inputs = length-take-le (length n.inputs) v1 (omega (arith, many n)) in
    let both : length (take (length n.inputs) v1 ++ kept) ≡ length n.inputs + length kept = omega (arith, length-append (take (length n.inputs) v1) kept) in
    let e : length n.inputs + length kept + (net - (length n.inputs + length kept)) ≡ net = omega arith in
    get_or-append_right (take (length n.inputs) v1 ++ kept) (drop (length n.inputs + length kept) v1) (length n.inputs + length kept) net 0 both (omega arith)
    ∙ get_or-drop (length n.inputs + length kept) v1 (net - (length n.inputs + length kept)) 0 ∙ ap (λ k. get_or v1 k 0) e

-- the cells at the front have the values that they had
still_settled : (n : Netlist) (c : Columns) (runs : List Run) (first : ℕ) (outs nexts values room inputs v0 v1 kept v2 : List ℕ) (e : IsEngine n c runs first outs nexts values room) (i : AreInputs n inputs) → Cycled n c first nexts values inputs v0 v1 kept v2 → HaveSettled n e.order e.count v2
still_settled n c runs first outs nexts values room inputs v0 v1 kept v2 e i y given v a row b =
    let one = the_cycle n c runs first outs nexts values room inputs e i in
    let h = all_evaluated n c runs first outs nexts values room inputs v0 v1 kept v2 e i y in
    let l = kept_long n c runs first outs nexts values room inputs v0 v1 kept v2 e i y in
    ap (λ xs. get_or xs (sources n + row) 0) y.moved
    ∙ behind_kept n v1 kept (sources n + row) (long_after n c first values inputs v0 v1 i e.long y.inputs_in y.evaluated_by) l (omega arith)
    ∙ h.rows row (omega (arith, e.ends)) ∙ sym (e.settled (inputs ++ registers_in n values) one.value one.is row b) ∙ e.settled given v a row b

-- it is an engine afterwards
pub engine_after : (n : Netlist) (c : Columns) (runs : List Run) (first : ℕ) (outs nexts values room inputs v0 v1 kept v2 : List ℕ) (e : IsEngine n c runs first outs nexts values room) (i : AreInputs n inputs) → Cycled n c first nexts values inputs v0 v1 kept v2 → IsEngine n c runs first outs nexts v2 kept
engine_after n c runs first outs nexts values room inputs v0 v1 kept v2 e i y =
    let one = the_cycle n c runs first outs nexts values room inputs e i in
    let l = kept_long n c runs first outs nexts values room inputs v0 v1 kept v2 e i y in
    record {
      well = e.well;
      order = e.order;
      positions = e.positions;
      count = e.count;
      is_order = e.is_order;
      placed = e.placed;
      begins = e.begins;
      ends = e.ends;
      steps = e.steps;
      can = e.can;
      parted = e.parted;
      shown = e.shown;
      moved = e.moved;
      long = ap length y.moved ∙ written_long n v1 kept (long_after n c first values inputs v0 v1 i e.long y.inputs_in y.evaluated_by) l;
      room = l;
      fit = subst (λ (xs : List ℕ). RegistersFit n xs) (sym (registers_right n c runs first outs nexts values room inputs v0 v1 kept v2 e i y)) (next_fit n e.well (inputs ++ registers_in n values) one.value one.is);
      settled = still_settled n c runs first outs nexts values room inputs v0 v1 kept v2 e i y;
    }

-- and this was one cycle
pub cycle_after : (n : Netlist) (c : Columns) (runs : List Run) (first : ℕ) (outs nexts values room inputs v0 v1 kept v2 shown : List ℕ) (e : IsEngine n c runs first outs nexts values room) (i : AreInputs n inputs) → Cycled n c first nexts values inputs v0 v1 kept v2 → shown ≡ map (slice_index v1) outs → RunsCycle (record { netlist = n; registers = registers_in n values }) inputs shown (record { netlist = n; registers = registers_in n v2 })
cycle_after n c runs first outs nexts values room inputs v0 v1 kept v2 shown e i y f =
    let one = the_cycle n c runs first outs nexts values room inputs e i in
    record {
      netlist = refl;
      one = one;
      outputs = f ∙ ap (map (slice_index v1)) e.shown ∙ map_through (slice_index v1) (λ (o : OutPort). position (sources n) e.positions o.net) (λ (o : OutPort). one.value o.net) n.outputs (λ k d b. evaluated_right n c runs first outs nexts values room inputs v0 v1 kept v2 e i y (get_or n.outputs k d).net (e.well.shown k d b));
      registers = registers_right n c runs first outs nexts values room inputs v0 v1 kept v2 e i y;
    }

pub inputs_of : (n : Netlist) (values inputs : List ℕ) (now : Running) → record { netlist = n; registers = registers_in n values } ≡ now → AreInputs now.netlist inputs → AreInputs n inputs
inputs_of n values inputs now e i = subst (λ (r : Running). AreInputs r.netlist inputs) (sym e) i

pub cycle_of : (n : Netlist) (values inputs shown : List ℕ) (now after : Running) → record { netlist = n; registers = registers_in n values } ≡ now → RunsCycle (record { netlist = n; registers = registers_in n values }) inputs shown after → RunsCycle now inputs shown after
cycle_of n values inputs shown now after e s = subst (λ (r : Running). RunsCycle r inputs shown after) e s

-- the calls of a cycle, each with what it answers
pub cycled : (n : Netlist) (c : Columns) (at : ℕ) (nexts values inputs v0 v1 kept v2 : List ℕ) (first : ℕ) (a4 a5 a6 : List ℕ) → v0 ≡ inputs ++ drop (0 + length inputs) values → v1 ≡ evaluated (step_in c) at 0 (length c.kind.items) v0 → a4 ≡ v1 → a5 ≡ nexts → kept ≡ map (slice_index a4) a5 → first ≡ length n.inputs → a6 ≡ kept → v2 ≡ take first v1 ++ a6 ++ drop (first + length a6) v1 → Cycled n c at nexts values inputs v0 v1 kept v2
cycled n c at nexts values inputs v0 v1 kept v2 first a4 a5 a6 e0 e1 e4 e5 ek ef e6 e2 = record {
  inputs_in = plain inputs values v0 e0;
  evaluated_by = e1;
  kept_as = ek ∙ ap (λ (xs : List ℕ). map (slice_index xs) a5) e4 ∙ ap (map (slice_index v1)) e5;
  moved = e2 ∙ ap (λ f. take f v1 ++ a6 ++ drop (f + length a6) v1) ef ∙ ap (λ (xs : List ℕ). take (length n.inputs) v1 ++ xs ++ drop (length n.inputs + length xs) v1) e6;
}

-- the registers' values fit among all
pub room_for : (n : Netlist) (regs : ℕ) (kept v1 a4 a5 a6 : List ℕ) (first : ℕ) → first ≡ length n.inputs → a6 ≡ kept → kept ≡ map (slice_index a4) a5 → length a5 ≡ regs → regs ≡ length n.regs → length v1 ≡ length (widths n) → first + length a6 ≤ length v1
room_for n regs kept v1 a4 a5 a6 first ef e6 ek e5 en l =
    let f : length a6 ≡ length n.regs = ap length (e6 ∙ ek) ∙ length-map a5 (slice_index a4) ∙ e5 ∙ en in
    omega (arith, many n)
