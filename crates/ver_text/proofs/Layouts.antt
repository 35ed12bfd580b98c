-- The printed text of a netlist spells it.
use Rattle.std.proofs.Common.{ℕ, ◌≡◌, ◌+◌, ◌^◌, ◌<◌, List, [], ◌∷◌, ◌++◌, length, map, true, false, refl, ap, sym, subst, ◌∙◌, append_assoc, length-append, arith}
use Rattle.std.specs.Prelude.{codes, slice_index, nat_eq}
use Rattle.std.specs.List.{AllByRecursion, starts_with}
use Rattle.std.proofs.lemmas.List.{append-nil, length-map}
use Rattle.std.proofs.lemmas.List.Elements.{recursion_from_All}
use Rattle.dip_lists.proofs.Tests.{both}
use Rattle.net_cells.specs.declared.netlist.Port.{Port}
use Rattle.net_cells.specs.declared.netlist.Reg.{Reg}
use Rattle.net_cells.specs.declared.netlist.Cell.{Cell}
use Rattle.net_cells.specs.declared.netlist.OutPort.{OutPort}
use Rattle.net_cells.specs.declared.netlist.Netlist.{Netlist}
use Rattle.net_cells.specs.Rules.{IsWellFormed, IsNamed, IsWidth, widths, sources}
use Rattle.ver_text.specs.declared.kind.Kind.TheVariants as kind
use Rattle.ver_text.specs.Lexemes.{word_kind}
use Rattle.ver_text.specs.Tokens.{tokens_from}
use Rattle.ver_text.specs.Spelling as spec
use Rattle.ver_text.specs.Spelling.{Piece, signs, laid, header, declarations, values, layout, spelling}
use Rattle.ver_text.specs.TextLaw.{Spells, PrintedSpells, PrintedIsRead, sign_of}
use Rattle.ver_text.proofs.Exact.{eq_of}
use Rattle.ver_text.proofs.Lexing.{scan_all}
use Rattle.ver_text.proofs.Words.{IsWord, name_word}
use Rattle.ver_text.proofs.Printed.{Stand, join, to_scans, joined, all_joined, all_lines_are, all_signs_are, three_laid, three_signs, laid-append, Lexable, Begins, inputs_begin, outs_begin, heading_stands, close_stands, end_stands, regs_stand, wires_stand, cells_stand, outputs_stand, updates_stand, inputs_stand, outs_stand}
use Rattle.ver_text.proofs.PortParts.{widths_of, IsPort}
use Rattle.ver_text.proofs.ValueParts.{declared_as}
use Rattle.ver_text.proofs.Spelled.{reset_port, made, Good}
use Rattle.ver_text.proofs.Formed.{good}
use Rattle.ver_text.proofs.Spells.{spelled_read, first_input}

-- ---- names that aren't keywords

front_two : (x y : ℕ) (name : List ℕ) → starts_with nat_eq name (x ∷ y ∷ []) ≡ true → (cs : List ℕ) × (name ≡ x ∷ y ∷ cs)
front_two x y [] h = cc
front_two x y (c ∷ []) h = let t = both (nat_eq x c) _ h in let f : false ≡ true = t.1 in cc
front_two x y (c ∷ d ∷ cs) h =
    let t = both (nat_eq x c) _ h in
    let u = both (nat_eq y d) _ t.1 in
    let e : c ≡ x = sym (eq_of x c t.0) in
    let f : d ≡ y = sym (eq_of y d u.0) in
    (cs, ap (λ z. z ∷ d ∷ cs) e ∙ ap (λ z. x ∷ z ∷ cs) f)

heading_plain : (name : List ℕ) → IsNamed (codes "m_") name → word_kind name ≡ kind.Name
heading_plain name h = let f = front_two 109 95 name h.0 in ap word_kind f.1

port_plain : (name : List ℕ) → IsNamed (codes "p_") name → word_kind name ≡ kind.Name
port_plain name h = let f = front_two 112 95 name h.0 in ap word_kind f.1

port_words : (ps : List Port) → AllByRecursion (λ (p : Port). IsNamed (codes "p_") p.name) ps → AllByRecursion (λ (p : Port). IsWord p.name) ps
port_words [] h = tt
port_words (p ∷ ps) h = (name_word p.name h.0.2 (port_plain p.name h.0), port_words ps h.1)

out_words : (os : List OutPort) → AllByRecursion (λ (o : OutPort). IsNamed (codes "p_") o.name) os → AllByRecursion (λ (o : OutPort). IsWord o.name) os
out_words [] h = tt
out_words (o ∷ os) h = (name_word o.name h.0.2 (port_plain o.name h.0), out_words os h.1)

port_widths : (ps : List Port) → AllByRecursion IsPort ps → AllByRecursion (λ (p : Port). IsWidth p.width) ps
port_widths [] h = tt
port_widths (p ∷ ps) h = (h.0.wide, port_widths ps h.1)

out_widths : (ws : List ℕ) (os : List OutPort) → AllByRecursion (λ (o : OutPort). IsPort (declared_as ws o)) os → AllByRecursion (λ (o : OutPort). IsWidth (slice_index ws o.net)) os
out_widths ws [] h = tt
out_widths ws (o ∷ os) h = (h.0.wide, out_widths ws os h.1)

-- ---- the whole text

regroup : (H I O C R W V S U E : List Piece)
    → ((H ++ []) ++ (I ++ (O ++ ((C ++ []) ++ [])))) ++ (R ++ (W ++ [])) ++ (V ++ (S ++ (U ++ ((E ++ []) ++ []))))
    ≡ H ++ (I ++ (O ++ (C ++ (R ++ (W ++ (V ++ (S ++ (U ++ E))))))))
regroup H I O C R W V S U E = simp (append_assoc, append-nil)

begins_on : (xs ys : List Piece) (rest : List ℕ) → Begins (laid xs ++ (laid ys ++ rest)) → Begins (laid (xs ++ ys) ++ rest)
begins_on xs ys rest b = subst Begins (sym (ap (λ t. t ++ rest) (laid-append xs ys) ∙ append_assoc (laid xs) (laid ys) rest)) b

abbrev close_pieces : List Piece
close_pieces = spec.tight kind.CloseParen ∷ spec.last kind.Semicolon ∷ []

abbrev end_pieces : List Piece
end_pieces = spec.last kind.Endmodule ∷ []

-- all pieces of a netlist
abbrev values_of : Netlist → List Piece
values_of n = joined (spec.cell_values n (sources n) n.cells) ++ (joined (spec.output_values n n.outputs) ++ (joined (spec.updates n (length n.inputs) n.regs) ++ end_pieces))

abbrev items_of : Netlist → List Piece
items_of n = joined (spec.registers (length n.inputs) n.regs) ++ (joined (spec.wires (sources n) n.cells) ++ values_of n)

abbrev pieces_of : Netlist → List Piece
pieces_of n = spec.heading n.name ++ (joined (spec.input_parts n.inputs) ++ (joined (spec.output_parts (widths n) n.outputs) ++ (close_pieces ++ items_of n)))

pieces_are : (n : Netlist) → all_joined (header n) ++ all_joined (declarations n) ++ all_joined (values n) ≡ pieces_of n
unfolding header declarations values
pieces_are n =
    regroup (spec.heading n.name) (joined (spec.input_parts n.inputs)) (joined (spec.output_parts (widths n) n.outputs)) close_pieces
    (joined (spec.registers (length n.inputs) n.regs)) (joined (spec.wires (sources n) n.cells)) (joined (spec.cell_values n (sources n) n.cells))
    (joined (spec.output_values n n.outputs)) (joined (spec.updates n (length n.inputs) n.regs)) end_pieces

layout_is : (n : Netlist) → layout n ≡ laid (pieces_of n)
unfolding layout
layout_is n =
    ap (λ t. t ++ spec.group_lines (declarations n) ++ spec.group_lines (values n)) (all_lines_are (header n))
    ∙ (ap (λ t. laid (all_joined (header n)) ++ t ++ spec.group_lines (values n)) (all_lines_are (declarations n))
    ∙ (ap (λ t. laid (all_joined (header n)) ++ laid (all_joined (declarations n)) ++ t) (all_lines_are (values n))
    ∙ (three_laid (all_joined (header n)) (all_joined (declarations n)) (all_joined (values n)) ∙ ap laid (pieces_are n))))

spelling_is : (n : Netlist) → spelling n ≡ signs (pieces_of n)
unfolding spelling
spelling_is n =
    ap (λ t. t ++ spec.all_signs (declarations n) ++ spec.all_signs (values n)) (all_signs_are (header n))
    ∙ (ap (λ t. signs (all_joined (header n)) ++ t ++ spec.all_signs (values n)) (all_signs_are (declarations n))
    ∙ (ap (λ t. signs (all_joined (header n)) ++ signs (all_joined (declarations n)) ++ t) (all_signs_are (values n))
    ∙ (three_signs (all_joined (header n)) (all_joined (declarations n)) (all_joined (values n)) ∙ ap signs (pieces_are n))))

long : (is : List Port) (rs : List Reg) (cs : List Cell)
    → length (widths_of (reset_port ∷ is) ++ map (λ (r : Reg). r.width) rs ++ map (λ (c : Cell). c.width) cs) ≡ length (reset_port ∷ is) + length rs + length cs
long is rs cs =
    omega (
      arith,
      length-append (widths_of (reset_port ∷ is) ++ map (λ (r : Reg). r.width) rs) (map (λ (c : Cell). c.width) cs),
      length-append (widths_of (reset_port ∷ is)) (map (λ (r : Reg). r.width) rs),
      length-map (reset_port ∷ is) (λ (p : Port). p.width),
      length-map rs (λ (r : Reg). r.width),
      length-map cs (λ (c : Cell). c.width),
    )

values_stand : (name : List ℕ) (is : List Port) (rs : List Reg) (cs : List Cell) (os : List OutPort) → Good name is rs cs os → Lexable (made name is rs cs os)
    → Stand (values_of (made name is rs cs os)) []
values_stand name is rs cs os g l =
    let n : Netlist = made name is rs cs os in
    let few : length (widths n) < 2 ^ 64 = g.few in
    let sum : length (widths n) ≡ length (reset_port ∷ is) + length rs + length cs = long is rs cs in
    let ends : Stand (joined (spec.updates n (length n.inputs) rs) ++ end_pieces) [] =
    join (joined (spec.updates n (length n.inputs) rs)) end_pieces [] (updates_stand rs n (length n.inputs) _ l (omega arith) g.nexts) (end_stands []) in
    let outs : Stand (joined (spec.output_values n os) ++ (joined (spec.updates n (length n.inputs) rs) ++ end_pieces)) [] =
    join (joined (spec.output_values n os)) (joined (spec.updates n (length n.inputs) rs) ++ end_pieces) [] (outputs_stand os n _ l l.outputs g.shown) ends in
    join (joined (spec.cell_values n (sources n) cs)) (joined (spec.output_values n os) ++ (joined (spec.updates n (length n.inputs) rs) ++ end_pieces)) []
    (cells_stand cs n (sources n) _ l (omega arith) g.cells g.sized g.ops) outs

items_stand : (name : List ℕ) (is : List Port) (rs : List Reg) (cs : List Cell) (os : List OutPort) → Good name is rs cs os → Lexable (made name is rs cs os)
    → Stand (items_of (made name is rs cs os)) []
items_stand name is rs cs os g l =
    let n : Netlist = made name is rs cs os in
    let few : length (widths n) < 2 ^ 64 = g.few in
    let sum : length (widths n) ≡ length (reset_port ∷ is) + length rs + length cs = long is rs cs in
    join (joined (spec.registers (length n.inputs) rs)) (joined (spec.wires (sources n) cs) ++ values_of n) []
    (regs_stand rs (length n.inputs) _ (omega arith) g.regs)
    (join (joined (spec.wires (sources n) cs)) (values_of n) [] (wires_stand cs (sources n) _ (omega arith) g.cells) (values_stand name is rs cs os g l))

all_stand : (name : List ℕ) (is : List Port) (rs : List Reg) (cs : List Cell) (os : List OutPort) → Good name is rs cs os → Lexable (made name is rs cs os)
    → Stand (pieces_of (made name is rs cs os)) []
all_stand name is rs cs os g l =
    let n : Netlist = made name is rs cs os in
    let outs : List Piece = joined (spec.output_parts (widths n) os) in
    let ins : List Piece = joined (spec.input_parts n.inputs) in
    let behind : List Piece = close_pieces ++ items_of n in
    let closed : Begins (laid behind ++ []) = record { byte = 41; rest = _; is = refl; outside = refl } in
    let outs_at : Begins (laid (outs ++ behind) ++ []) = begins_on outs behind [] (outs_begin os (widths n) (laid behind ++ []) closed) in
    let ins_at : Begins (laid (ins ++ (outs ++ behind)) ++ []) = begins_on ins (outs ++ behind) [] (inputs_begin n.inputs (laid (outs ++ behind) ++ []) outs_at) in
    join (spec.heading name) (ins ++ (outs ++ behind)) []
    (subst (Stand (spec.heading name)) (sym ins_at.is) (heading_stands ins_at.byte name ins_at.rest l.heading ins_at.outside))
    (join ins (outs ++ behind) [] (inputs_stand n.inputs _ outs_at ((omega arith, omega arith), port_widths is g.ports) l.inputs)
    (join outs behind [] (outs_stand os (widths n) _ closed (out_widths (widths n) os g.outs) l.outputs)
    (join close_pieces (items_of n) [] (close_stands _) (items_stand name is rs cs os g l))))

reset_word : IsWord (codes "reset")
reset_word = record { letter = refl; full = refl; plain = refl }

lexable : (name : List ℕ) (is : List Port) (rs : List Reg) (cs : List Cell) (os : List OutPort) → IsWellFormed (made name is rs cs os)
    → Lexable (made name is rs cs os)
lexable name is rs cs os w = record {
  heading = name_word name w.name.2 (heading_plain name w.name);
  inputs = (reset_word, port_words is (recursion_from_All (λ (p : Port). IsNamed (codes "p_") p.name) is w.inputs));
  outputs = out_words os (recursion_from_All (λ (o : OutPort). IsNamed (codes "p_") o.name) os w.outputs);
  few = w.few;
}

scanned : (n : Netlist) → Stand (pieces_of n) [] → map (sign_of (layout n)) (tokens_from (layout n) 0) ≡ spelling n
unfolding tokens_from
scanned n h =
    let P : List ℕ → Type 0 = λ text. map (sign_of text) (tokens_from text 0) ≡ spelling n in
    subst P (sym (layout_is n)) (scan_all (pieces_of n) [] (to_scans (pieces_of n) h) ∙ sym (spelling_is n))

made_spells : (name : List ℕ) (is : List Port) (rs : List Reg) (cs : List Cell) (os : List OutPort) → IsWellFormed (made name is rs cs os)
    → Spells (layout (made name is rs cs os)) (made name is rs cs os)
made_spells name is rs cs os w = record {
  formed = w;
  signs = scanned (made name is rs cs os) (all_stand name is rs cs os (good name is rs cs os w) (lexable name is rs cs os w));
}

pub printed_spells : PrintedSpells
printed_spells n w =
    let f = first_input n.inputs w.reset in
    let e : n ≡ made n.name f.0 n.regs n.cells n.outputs =
    ap (λ (ins : List Port). record { name = n.name; inputs = ins; regs = n.regs; cells = n.cells; outputs = n.outputs }) f.1 in
    let P : Netlist → Type 0 = λ m. Spells (layout m) m in
    subst P (sym e) (made_spells n.name f.0 n.regs n.cells n.outputs (subst IsWellFormed e w))

pub printed_read : PrintedIsRead
printed_read n w = spelled_read (layout n) n (printed_spells n w)
