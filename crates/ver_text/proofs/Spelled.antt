-- A netlist's tokens are read as the netlist.
use Rattle.std.proofs.Common.{ℕ, ◌≡◌, ◌+◌, ◌^◌, ◌<◌, List, [], ◌∷◌, ◌++◌, length, drop, map, true, Some, refl, ap, sym, subst, ◌∙◌, append_assoc, length-append, arith}
use Rattle.std.specs.Prelude.{codes, slice_index}
use Rattle.std.specs.List.{AllByRecursion}
use Rattle.std.proofs.lemmas.List.{append-nil, drop_at, length-map}
use Rattle.dip_sets.specs.Names.{is_name}
use Rattle.net_cells.specs.declared.netlist.Port.{Port}
use Rattle.net_cells.specs.declared.netlist.Reg.{Reg}
use Rattle.net_cells.specs.declared.netlist.Cell.{Cell}
use Rattle.net_cells.specs.declared.netlist.OutPort.{OutPort}
use Rattle.net_cells.specs.declared.netlist.Netlist.{Netlist}
use Rattle.net_cells.specs.Rules.{IsCell, IsWidth, HasWidth, widths}
use Rattle.ver_text.specs.declared.kind.Kind.TheVariants as kind
use Rattle.ver_text.specs.declared.kind.Rule.TheVariants as rule
use Rattle.ver_text.specs.declared.progress.Progress.{Progress}
use Rattle.ver_text.specs.Due.{has_prefix, at_first}
use Rattle.ver_text.specs.Spelling as spec
use Rattle.ver_text.specs.Spelling.{Sign, signs, part_signs, spelling, header, declarations, values}
use Rattle.ver_text.proofs.Signs.{Seen, said}
use Rattle.ver_text.proofs.Segments.{Boundary, seen_start, close_said}
use Rattle.ver_text.proofs.Groups.{Frame, known, said_same, regs_said, wires_said}
use Rattle.ver_text.proofs.NetNames.{Distinct, Unnumbered}
use Rattle.ver_text.proofs.CellParts.{with_cells, cells_said}
use Rattle.ver_text.proofs.ValueParts.{declared_as, with_outputs, outputs_said, with_updates, updates_said, end_said, Full}
use Rattle.ver_text.proofs.PortParts.{headed, names_of, widths_of, Apart, IsPort, start_said, inputs_said, ports_said}

abbrev pub reset_port : Port
reset_port = record { name = codes "reset"; width = 1 }

abbrev pub made : List ℕ → List Port → List Reg → List Cell → List OutPort → Netlist
made name is rs cs os = record { name = name; inputs = reset_port ∷ is; regs = rs; cells = cs; outputs = os }

-- what is asked of a netlist whose tokens are read
pub record Good (name : List ℕ) (is : List Port) (rs : List Reg) (cs : List Cell) (os : List OutPort) : Type 0 where
  pub front : has_prefix (codes "m_") name ≡ true
  pub form : is_name name ≡ true
  pub ports : AllByRecursion IsPort is
  pub outs : AllByRecursion (λ (o : OutPort). IsPort (declared_as (widths (made name is rs cs os)) o)) os
  pub names : Apart (names_of (reset_port ∷ is) ++ map (λ (o : OutPort). o.name) os)
  pub unnumbered : AllByRecursion Unnumbered (reset_port ∷ is)
  pub distinct : Distinct (reset_port ∷ is)
  pub few : length (widths (made name is rs cs os)) < 2 ^ 64
  pub sized : (x : ℕ) → x < length (widths (made name is rs cs os)) → IsWidth (slice_index (widths (made name is rs cs os)) x)
  pub regs : AllByRecursion (λ (r : Reg). IsWidth r.width) rs
  pub nexts : AllByRecursion (λ (r : Reg). HasWidth (widths (made name is rs cs os)) r.next r.width) rs
  pub cells : AllByRecursion (λ (c : Cell). IsWidth c.width) cs
  pub ops : AllByRecursion (λ (c : Cell). IsCell (widths (made name is rs cs os)) c.width c.op) cs
  pub shown : AllByRecursion (λ (o : OutPort). o.net < length (widths (made name is rs cs os))) os

pub regroup : (H R I O C G W V S U E : List Sign)
    → ((H ++ []) ++ ((R ++ I) ++ (O ++ ((C ++ []) ++ [])))) ++ (G ++ (W ++ [])) ++ (V ++ (S ++ (U ++ ((E ++ []) ++ []))))
    ≡ H ++ (R ++ (I ++ (O ++ (C ++ (G ++ (W ++ (V ++ (S ++ (U ++ E)))))))))
regroup H R I O C G W V S U E = simp (append_assoc, append-nil)

abbrev reg_widths : List Reg → List ℕ
reg_widths rs = map (λ (r : Reg). r.width) rs

abbrev cell_widths : List Cell → List ℕ
cell_widths cs = map (λ (c : Cell). c.width) cs

abbrev frame : List ℕ → List Port → List Port → Frame
frame name is declared = record { name = name; input = reset_port; inputs = is; declared = declared }

-- what is known before the first value
abbrev third : List ℕ → List Port → List Reg → List Cell → List OutPort → Progress
third name is rs cs os =
    known (frame name is (map (declared_as (widths (made name is rs cs os))) os)) (widths (made name is rs cs os))
    (length (widths_of (reset_port ∷ is) ++ reg_widths rs)) (length (reset_port ∷ is)) (length (reset_port ∷ is) + length rs) [] [] []

-- and at the end
abbrev pub final : List ℕ → List Port → List Reg → List Cell → List OutPort → Progress
final name is rs cs os = with_updates (with_outputs (with_cells (third name is rs cs os) cs) os) rs

sources_are : (is : List Port) (rs : List Reg) → length (widths_of (reset_port ∷ is) ++ reg_widths rs) ≡ length (reset_port ∷ is) + length rs
sources_are is rs =
    omega (arith, length-append (widths_of (reset_port ∷ is)) (reg_widths rs), length-map (reset_port ∷ is) (λ (p : Port). p.width), length-map rs (λ (r : Reg). r.width))

all_are : (is : List Port) (rs : List Reg) (cs : List Cell)
    → length (widths_of (reset_port ∷ is) ++ reg_widths rs ++ cell_widths cs) ≡ length (reset_port ∷ is) + length rs + length cs
all_are is rs cs =
    omega (arith, length-append (widths_of (reset_port ∷ is) ++ reg_widths rs) (cell_widths cs), length-map cs (λ (c : Cell). c.width), sources_are is rs)

updates_end : (name : List ℕ) (is : List Port) (rs : List Reg) (cs : List Cell) (os : List OutPort) (a : Seen) → Good name is rs cs os → Boundary a rule.Item
    → said (with_outputs (with_cells (third name is rs cs os) cs) os) a
    (part_signs (spec.updates (made name is rs cs os) (length (reset_port ∷ is)) rs) ++ signs (spec.last kind.Endmodule ∷ []))
    ≡ Some (final name is rs cs os)
updates_end name is rs cs os a g d =
    let ws : List ℕ = widths_of (reset_port ∷ is) in
    let full : Full (with_outputs (with_cells (third name is rs cs os) cs) os) =
    record { cells = sym (all_are is rs cs); outputs = sym (length-map os (declared_as (widths (made name is rs cs os)))) } in
    let front : drop (length (reset_port ∷ is)) (ws ++ reg_widths rs ++ cell_widths cs) ≡ reg_widths rs ++ cell_widths cs =
    ap (drop (length (reset_port ∷ is))) (append_assoc ws (reg_widths rs) (cell_widths cs))
    ∙ drop_at ws (reg_widths rs ++ cell_widths cs) (length (reset_port ∷ is)) (length-map (reset_port ∷ is) (λ (p : Port). p.width)) in
    updates_said rs (made name is rs cs os) (with_outputs (with_cells (third name is rs cs os) cs) os) (cell_widths cs) a (signs (spec.last kind.Endmodule ∷ []))
    (final name is rs cs os) d
    (record { inputs = refl; sourced = sources_are is rs; unnumbered = g.unnumbered; distinct = g.distinct; few = g.few; sized = g.sized })
    full (sym (sources_are is rs)) front g.nexts
    (λ b x. end_said (final name is rs cs os) b x refl (record { cells = full.cells; outputs = full.outputs }) (sym (sources_are is rs)))

values_end : (name : List ℕ) (is : List Port) (rs : List Reg) (cs : List Cell) (os : List OutPort) (a : Seen) → Good name is rs cs os → Boundary a rule.Item
    → said (third name is rs cs os) a
    (part_signs (spec.cell_values (made name is rs cs os) (length (reset_port ∷ is) + length rs) cs) ++ (part_signs (spec.output_values (made name is rs cs os) os)
    ++ (part_signs (spec.updates (made name is rs cs os) (length (reset_port ∷ is)) rs) ++ signs (spec.last kind.Endmodule ∷ []))))
    ≡ Some (final name is rs cs os)
values_end name is rs cs os a g d =
    let ws : List ℕ = widths_of (reset_port ∷ is) in
    let rest : List Sign = part_signs (spec.updates (made name is rs cs os) (length (reset_port ∷ is)) rs) ++ signs (spec.last kind.Endmodule ∷ []) in
    cells_said cs (made name is rs cs os) (third name is rs cs os) a (part_signs (spec.output_values (made name is rs cs os) os) ++ rest) (final name is rs cs os) d
    (record { inputs = refl; sourced = sources_are is rs; unnumbered = g.unnumbered; distinct = g.distinct; few = g.few; sized = g.sized })
    (drop_at (ws ++ reg_widths rs) (cell_widths cs) (length (reset_port ∷ is) + length rs) (sources_are is rs)) g.ops
    (λ b x. outputs_said os (made name is rs cs os) (with_cells (third name is rs cs os) cs) b rest (final name is rs cs os) x
    (record { inputs = refl; sourced = sources_are is rs; unnumbered = g.unnumbered; distinct = g.distinct; few = g.few; sized = g.sized })
    (sym (all_are is rs cs)) refl g.shown (λ c y. updates_end name is rs cs os c g y))

declared_end : (name : List ℕ) (is : List Port) (rs : List Reg) (cs : List Cell) (os : List OutPort) (a : Seen) (rest : List Sign) → Good name is rs cs os → Boundary a rule.Item
    → ((b : Seen) → Boundary b rule.Item → said (third name is rs cs os) b rest ≡ Some (final name is rs cs os))
    → said (headed name (reset_port ∷ is) (map (declared_as (widths (made name is rs cs os))) os)) a
    (part_signs (spec.registers (length (reset_port ∷ is)) rs) ++ (part_signs (spec.wires (length (reset_port ∷ is) + length rs) cs) ++ rest))
    ≡ Some (final name is rs cs os)
declared_end name is rs cs os a rest g d go =
    let ws : List ℕ = widths_of (reset_port ∷ is) in
    let f : Frame = frame name is (map (declared_as (widths (made name is rs cs os))) os) in
    let n : length ws ≡ length (reset_port ∷ is) = length-map (reset_port ∷ is) (λ (p : Port). p.width) in
    let tail : List Sign = part_signs (spec.wires (length (reset_port ∷ is) + length rs) cs) ++ rest in
    said_same _ _ a (part_signs (spec.registers (length (reset_port ∷ is)) rs) ++ tail) (final name is rs cs os)
    (ap (λ s. known f ws s (length (reset_port ∷ is)) (length (reset_port ∷ is)) [] [] []) n)
    (regs_said rs f ws (length (reset_port ∷ is)) (length (reset_port ∷ is)) (length (reset_port ∷ is)) a tail (final name is rs cs os) d (sym n) g.regs
    (λ b x. wires_said cs f (ws ++ reg_widths rs) (length (ws ++ reg_widths rs)) (length (reset_port ∷ is)) (length (reset_port ∷ is) + length rs)
    (length (reset_port ∷ is) + length rs) b rest (final name is rs cs os) x (sym (sources_are is rs)) g.cells go))

names_start : (is : List Port) (os : List OutPort) → Apart (names_of (reset_port ∷ is) ++ map (λ (o : OutPort). o.name) os)
    → Apart ((names_of (reset_port ∷ is) ++ names_of []) ++ map (λ (o : OutPort). o.name) os)
names_start is os h = subst (λ ns. Apart (ns ++ map (λ (o : OutPort). o.name) os)) (sym (append-nil (names_of (reset_port ∷ is)))) h

pub spelled_said : (name : List ℕ) (is : List Port) (rs : List Reg) (cs : List Cell) (os : List OutPort) → Good name is rs cs os
    → said at_first seen_start (spelling (made name is rs cs os)) ≡ Some (final name is rs cs os)
unfolding spelling header declarations values
spelled_said name is rs cs os g =
    let n : Netlist = made name is rs cs os in
    let q : Progress = final name is rs cs os in
    let value_signs : List Sign =
    part_signs (spec.cell_values n (length (reset_port ∷ is) + length rs) cs) ++ (part_signs (spec.output_values n os)
    ++ (part_signs (spec.updates n (length (reset_port ∷ is)) rs) ++ signs (spec.last kind.Endmodule ∷ []))) in
    let item_signs : List Sign =
    part_signs (spec.registers (length (reset_port ∷ is)) rs) ++ (part_signs (spec.wires (length (reset_port ∷ is) + length rs) cs) ++ value_signs) in
    let close : List Sign = signs (spec.tight kind.CloseParen ∷ spec.last kind.Semicolon ∷ []) in
    ap (said at_first seen_start)
    (regroup (signs (spec.heading name)) (signs (spec.apart kind.Comma ∷ spec.port_pieces kind.Input 1 (codes "reset"))) (part_signs (spec.input_parts is))
    (part_signs (spec.output_parts (widths n) os)) close (part_signs (spec.registers (length (reset_port ∷ is)) rs))
    (part_signs (spec.wires (length (reset_port ∷ is) + length rs) cs)) (part_signs (spec.cell_values n (length (reset_port ∷ is) + length rs) cs))
    (part_signs (spec.output_values n os)) (part_signs (spec.updates n (length (reset_port ∷ is)) rs)) (signs (spec.last kind.Endmodule ∷ [])))
    ∙ start_said name (part_signs (spec.input_parts is) ++ (part_signs (spec.output_parts (widths n) os) ++ (close ++ item_signs))) q g.front g.form
    (λ a d. inputs_said is name reset_port [] (map (λ (o : OutPort). o.name) os) a (part_signs (spec.output_parts (widths n) os) ++ (close ++ item_signs)) q d g.ports
    g.names
    (λ b e. ports_said os (widths n) name reset_port is [] b (close ++ item_signs) q e g.outs (names_start is os g.names)
    (λ c f. close_said (headed name (reset_port ∷ is) (map (declared_as (widths n)) os)) c item_signs f
    ∙ declared_end name is rs cs os _ value_signs g (record { none = refl; next = refl; open_it = refl })
    (λ x y. values_end name is rs cs os x g y))))
