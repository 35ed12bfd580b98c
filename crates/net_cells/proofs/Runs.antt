-- Runs, cycle by cycle: what registers hold fits, so that each cycle has exactly one assignment.
use Rattle.std.proofs.Common.{◌≡◌, ℕ, ◌+◌, ◌-◌, ◌^◌, ◌<◌, inl, inr, List, [], ◌∷◌, ◌++◌, length, map, get_or, refl, sym, ap, ◌∙◌, subst, arith, length-append}
use Rattle.std.specs.Prelude.{All, slice_index}
use Rattle.std.proofs.lemmas.Bool.{cases_lt}
use Rattle.std.proofs.lemmas.Nat.{pow_pos}
use Rattle.std.proofs.lemmas.List.{get_or_append_left, get_or-append_right, get_or-append-add, get_or-map, length-map}
use Rattle.std.proofs.lemmas.List.Elements.{All-head, All-tail}
use Rattle.net_cells.specs.declared.netlist.Cell.{Cell}
use Rattle.net_cells.specs.declared.netlist.Netlist.{Netlist}
use Rattle.net_cells.specs.declared.netlist.Port.{Port}
use Rattle.net_cells.specs.declared.netlist.Reg.{Reg}
use Rattle.net_cells.specs.Rules.{HasWidth, IsWellFormed, widths, width_at}
use Rattle.net_cells.specs.Values.{AreInputs, AreValues, IsRunFrom, first_registers, next_registers}
use Rattle.net_cells.specs.Loops.{AreGiven, AreSame, EachRunIsOne, HasNoLoop, HasOneCycle, HasOneRun}
use Rattle.net_cells.proofs.Cycles.{one_cycle}

reg_width : (n : Netlist) (k : ℕ) (d : Reg) → k < length n.regs → width_at (widths n) (length n.inputs + k) ≡ (get_or n.regs k d).width
reg_width n k d b =
    let ps = map (λ (p : Port). p.width) n.inputs in
    let rs = map (λ (r : Reg). r.width) n.regs in
    let cs = map (λ (c : Cell). c.width) n.cells in
    let l : length ps ≡ length n.inputs = length-map n.inputs (λ (p : Port). p.width) in
    let m : length rs ≡ length n.regs = length-map n.regs (λ (r : Reg). r.width) in
    get_or_append_left (ps ++ rs) cs 0 (length n.inputs + k) (omega (arith, length-append ps rs))
    ∙ ap (λ x. get_or (ps ++ rs) (x + k) 0) (sym l) ∙ get_or-append-add ps rs k 0
    ∙ get_or-map (λ (r : Reg). r.width) n.regs k d 0 b

-- one value for each register, of its width
pub record AreHeld (n : Netlist) (registers : List ℕ) : Type 0 where
  pub long : length registers ≡ length n.regs
  pub fit : (k : ℕ) → k < length registers → slice_index registers k < 2 ^ width_at (widths n) (length n.inputs + k)

pub inputs_given : (n : Netlist) (inputs registers : List ℕ) → AreInputs n inputs → AreHeld n registers → AreGiven n (inputs ++ registers)
inputs_given n inputs registers i h = record {
  long = omega (arith, i.long, h.long, length-append inputs registers);
  fit = λ net b. elim (cases_lt net (length n.inputs)) [
    | inl s ↦ let c : net < length inputs = omega (arith, i.long) in
        subst (λ x. x < 2 ^ width_at (widths n) net) (sym (get_or_append_left inputs registers 0 net c)) (i.fit net c)
    | inr t ↦
        let k = net - length n.inputs in
        let c : k < length registers = omega (arith, i.long, length-append inputs registers) in
        let e : length n.inputs + k ≡ net = omega arith in
        subst (λ x. x < 2 ^ width_at (widths n) net) (sym (get_or-append_right inputs registers (length n.inputs) net 0 i.long t))
        (subst (λ m. slice_index registers k < 2 ^ width_at (widths n) m) e (h.fit k c))
  ];
}

pub next_held : (n : Netlist) → IsWellFormed n → (given : List ℕ) (v : ℕ → ℕ) → AreValues n given v → AreHeld n (next_registers n v)
next_held n w given v c =
    let long : length (next_registers n v) ≡ length n.regs = length-map n.regs (λ (r : Reg). v r.next) in
    record {
      long = long;
      fit = λ k b.
          let d : Reg = record { width = 0; next = 0 } in
          let m : k < length n.regs = omega (arith, long) in
          let reg = get_or n.regs k d in
          let h = w.registers k d m in
          subst (λ x. x < 2 ^ width_at (widths n) (length n.inputs + k)) (sym (get_or-map (λ (r : Reg). v r.next) n.regs k d 0 m))
          (subst (λ x. v reg.next < 2 ^ x) (h.1 ∙ sym (reg_width n k d m)) (c.fits reg.next h.0));
    }

zeros_held : (n : Netlist) → AreHeld n (first_registers n)
zeros_held n =
    let long : length (first_registers n) ≡ length n.regs = length-map n.regs (λ (r : Reg). 0) in
    record {
      long = long;
      fit = λ k b.
          let m : k < length n.regs = omega (arith, long) in
          subst (λ x. x < 2 ^ width_at (widths n) (length n.inputs + k)) (sym (get_or-map (λ (r : Reg). 0) n.regs k (record { width = 0; next = 0 }) 0 m)) (pow_pos (width_at (widths n) (length n.inputs + k)));
    }

-- the same values of all nets give the registers the same
same_nexts : (n : Netlist) (v u : ℕ → ℕ) (rs : List Reg) → All (λ (r : Reg). HasWidth (widths n) r.next r.width) rs → ((net : ℕ) → net < length (widths n) → v net ≡ u net)
    → map (λ (r : Reg). v r.next) rs ≡ map (λ (r : Reg). u r.next) rs
same_nexts n v u [] h e = refl
same_nexts n v u (r ∷ rs) h e =
    ap (λ x. x ∷ map (λ (r : Reg). v r.next) rs) (e r.next (All-head (λ (r : Reg). HasWidth (widths n) r.next r.width) r rs h).0)
    ∙ ap (λ xs. u r.next ∷ xs) (same_nexts n v u rs (All-tail (λ (r : Reg). HasWidth (widths n) r.next r.width) r rs h) e)

only_none : (n : Netlist) (registers : List ℕ) (others : List (ℕ → ℕ)) → IsRunFrom n registers [] others → AreSame n others []
only_none n registers [] r = tt
only_none n registers (v ∷ vs) r = r

only_more : (n : Netlist) → IsWellFormed n → (registers i : List ℕ) (is : List (List ℕ)) (one : HasOneCycle n (i ++ registers)) (rest : HasOneRun n (next_registers n one.value) is) (others : List (ℕ → ℕ))
    → IsRunFrom n registers (i ∷ is) others → AreSame n others (one.value ∷ rest.values)
only_more n w registers i is one rest [] r = r
only_more n w registers i is one rest (v ∷ vs) r =
    let same = one.only v r.1 in
    (same, rest.only vs (subst (λ (held : List ℕ). IsRunFrom n held is vs) (same_nexts n v one.value n.regs w.registers same) r.2))

run_from : (n : Netlist) → IsWellFormed n → HasNoLoop n → (registers : List ℕ) → AreHeld n registers → (inputs : List (List ℕ)) → All (AreInputs n) inputs → HasOneRun n registers inputs
run_from n w a registers h [] all = record { values = []; is = tt; only = only_none n registers }
run_from n w a registers h (i ∷ is) all =
    let fits = All-head (AreInputs n) i is all in
    let one = one_cycle n w a (i ++ registers) (inputs_given n i registers fits h) in
    let rest = run_from n w a (next_registers n one.value) (next_held n w (i ++ registers) one.value one.is) is (All-tail (AreInputs n) i is all) in
    record {
      values = one.value ∷ rest.values;
      is = (fits.long, one.is, rest.is);
      only = only_more n w registers i is one rest;
    }

pub one_run : EachRunIsOne
one_run n w a inputs all = run_from n w a (first_registers n) (zeros_held n) inputs all
