-- The parts of a netlist's text are read one after another.
use Rattle.std.proofs.Common.{ℕ, suc, ◌≡◌, ◌+◌, ◌-◌, List, [], ◌∷◌, ◌++◌, length, map, true, Some, refl, ap, sym, subst, ◌∙◌, append_assoc, length-append, arith}
use Rattle.std.specs.Prelude.{codes, decimal, ◌==◌}
use Rattle.std.specs.List.{AllByRecursion}
use Rattle.std.proofs.lemmas.Bool.Decides.{nat_tests}
use Rattle.std.proofs.lemmas.List.{append-nil}
use Rattle.net_cells.specs.declared.netlist.Port.{Port}
use Rattle.net_cells.specs.declared.netlist.Reg.{Reg}
use Rattle.net_cells.specs.declared.netlist.Cell.{Cell}
use Rattle.net_cells.specs.declared.netlist.OutPort.{OutPort}
use Rattle.net_cells.specs.Rules.{IsWidth}
use Rattle.ver_text.specs.declared.kind.Kind.TheVariants as kind
use Rattle.ver_text.specs.declared.kind.Rule.TheVariants as rule
use Rattle.ver_text.specs.declared.progress.Progress.{Progress}
use Rattle.ver_text.specs.Due.{due_by}
use Rattle.ver_text.specs.Spelling as spec
use Rattle.ver_text.specs.Spelling.{Sign, signs, part_signs}
use Rattle.ver_text.proofs.Signs.{Seen, said}
use Rattle.ver_text.proofs.Segments.{Boundary, reg_said, wire_said}
use Rattle.ver_text.proofs.Readback.{width_read, numbered_is}

-- what the ports of a text said
pub record Frame : Type 0 where
  pub name : List ℕ
  pub input : Port
  pub inputs : List Port
  pub declared : List Port

-- what is known behind them
abbrev pub known : Frame → List ℕ → ℕ → ℕ → ℕ → List Reg → List Cell → List OutPort → Progress
known f ws sources register cell rs cs os = record {
  clocked = true;
  name = Some f.name;
  inputs = f.input ∷ f.inputs;
  declared = f.declared;
  widths = ws;
  sources = sources;
  next_register = register;
  next_cell = cell;
  regs = rs;
  cells = cs;
  outputs = os;
}

same_number : (a b : ℕ) → a ≡ b → (a == b) ≡ true
same_number a b e = grind (arith, nat_tests)

pub said_same : (p r : Progress) (a : Seen) (rest : List Sign) (q : Progress) → p ≡ r → said p a rest ≡ Some q → said r a rest ≡ Some q
said_same p r a rest q e h = subst (λ x. said x a rest ≡ Some q) e h

-- ---- registers

due_reg : (f : Frame) (ws : List ℕ) (register cell width number : ℕ) (w : List ℕ) → number ≡ length ws → IsWidth width
    → due_by (known f ws (length ws) register cell [] [] []) kind.Reg kind.Reg w (decimal (width - 1)) (codes "0") (spec.register_name number)
    ≡ Some (known f (ws ++ width ∷ []) (length (ws ++ width ∷ [])) register (cell + 1) [] [] [])
unfolding due_by
due_reg f ws register cell width number w e h =
    rw (width_read width h) (rw (same_number (length ws) (length ws) refl) (rw (numbered_is 114 number (length ws) e)
    (ap (λ n. Some (known f (ws ++ width ∷ []) n register (cell + 1) [] [] [])) (sym (length-append ws (width ∷ []))))))

-- with so many more registers
abbrev pub with_regs : Frame → List ℕ → ℕ → ℕ → List Reg → Progress
with_regs f ws register cell rs =
    known f (ws ++ map (λ (r : Reg). r.width) rs) (length (ws ++ map (λ (r : Reg). r.width) rs)) register (cell + length rs) [] [] []

none_more : (f : Frame) (ws : List ℕ) (register cell : ℕ) → with_regs f ws register cell [] ≡ known f ws (length ws) register cell [] [] []
none_more f ws register cell =
    ap (λ xs. known f xs (length xs) register (cell + 0) [] [] []) (append-nil ws) ∙ ap (λ n. known f ws (length ws) register n [] [] []) (omega arith)

one_more : (f : Frame) (ws : List ℕ) (register cell : ℕ) (r : Reg) (rs : List Reg) → with_regs f ws register cell (r ∷ rs) ≡ with_regs f (ws ++ r.width ∷ []) register (cell + 1) rs
one_more f ws register cell r rs =
    let n : cell + suc (length rs) ≡ cell + 1 + length rs = omega arith in
    ap (λ xs. known f xs (length xs) register (cell + suc (length rs)) [] [] []) (sym (append_assoc ws (r.width ∷ []) (map (λ (x : Reg). x.width) rs)))
    ∙ ap (λ m. known f (ws ++ r.width ∷ [] ++ map (λ (x : Reg). x.width) rs) (length (ws ++ r.width ∷ [] ++ map (λ (x : Reg). x.width) rs)) register m [] [] []) n

pub regs_said : (rs : List Reg) (f : Frame) (ws : List ℕ) (register cell number : ℕ) (a : Seen) (rest : List Sign) (q : Progress) → Boundary a rule.Item
    → number ≡ length ws → AllByRecursion (λ (r : Reg). IsWidth r.width) rs
    → ((b : Seen) → Boundary b rule.Item → said (with_regs f ws register cell rs) b rest ≡ Some q)
    → said (known f ws (length ws) register cell [] [] []) a (part_signs (spec.registers number rs) ++ rest) ≡ Some q
regs_said [] f ws register cell number a rest q d e h go = said_same _ _ a rest q (none_more f ws register cell) (go a d)
regs_said (r ∷ rs) f ws register cell number a rest q d e h go =
    let tail : List Sign = part_signs (spec.registers (number + 1) rs) ++ rest in
    ap (λ ss. said (known f ws (length ws) register cell [] [] []) a ss)
    (append_assoc (signs (spec.net kind.Reg r.width (spec.register_name number))) (part_signs (spec.registers (number + 1) rs)) rest)
    ∙ (reg_said (known f ws (length ws) register cell [] [] []) a r.width (spec.register_name number) tail d
    ∙ rw (due_reg f ws register cell r.width number a.last e h.0)
    (regs_said rs f (ws ++ r.width ∷ []) register (cell + 1) (number + 1) _ rest q (record { none = refl; next = refl; open_it = refl })
    (omega (arith, length-append ws (r.width ∷ []))) h.1
    (λ b x. said_same _ _ b rest q (one_more f ws register cell r rs) (go b x))))

-- ---- the nets of cells

due_wire_is : (f : Frame) (ws : List ℕ) (sources register cell width number : ℕ) (w : List ℕ) → number ≡ length ws → IsWidth width
    → due_by (known f ws sources register cell [] [] []) kind.Wire kind.Wire w (decimal (width - 1)) (codes "0") (spec.cell_name number)
    ≡ Some (known f (ws ++ width ∷ []) sources register cell [] [] [])
unfolding due_by
due_wire_is f ws sources register cell width number w e h = rw (width_read width h) (rw (numbered_is 119 number (length ws) e) refl)

pub wires_said : (cs : List Cell) (f : Frame) (ws : List ℕ) (sources register cell number : ℕ) (a : Seen) (rest : List Sign) (q : Progress) → Boundary a rule.Item
    → number ≡ length ws → AllByRecursion (λ (c : Cell). IsWidth c.width) cs
    → ((b : Seen) → Boundary b rule.Item → said (known f (ws ++ map (λ (c : Cell). c.width) cs) sources register cell [] [] []) b rest ≡ Some q)
    → said (known f ws sources register cell [] [] []) a (part_signs (spec.wires number cs) ++ rest) ≡ Some q
wires_said [] f ws sources register cell number a rest q d e h go =
    said_same _ _ a rest q (ap (λ xs. known f xs sources register cell [] [] []) (append-nil ws)) (go a d)
wires_said (c ∷ cs) f ws sources register cell number a rest q d e h go =
    let tail : List Sign = part_signs (spec.wires (number + 1) cs) ++ rest in
    ap (λ ss. said (known f ws sources register cell [] [] []) a ss)
    (append_assoc (signs (spec.net kind.Wire c.width (spec.cell_name number))) (part_signs (spec.wires (number + 1) cs)) rest)
    ∙ (wire_said (known f ws sources register cell [] [] []) a c.width (spec.cell_name number) tail d
    ∙ rw (due_wire_is f ws sources register cell c.width number a.last e h.0)
    (wires_said cs f (ws ++ c.width ∷ []) sources register cell (number + 1) _ rest q (record { none = refl; next = refl; open_it = refl })
    (omega (arith, length-append ws (c.width ∷ []))) h.1
    (λ b x. said_same _ _ b rest q
    (ap (λ xs. known f xs sources register cell [] [] []) (sym (append_assoc ws (c.width ∷ []) (map (λ (y : Cell). y.width) cs)))) (go b x))))
