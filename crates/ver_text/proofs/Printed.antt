-- The tokens of a printed netlist are those of its spelling.
use Rattle.std.proofs.Common.{ℕ, ◌≡◌, ◌+◌, ◌-◌, ◌^◌, ◌<◌, ◌≤◌, List, [], ◌∷◌, ◌++◌, length, Bool, true, false, cond, Option, Some, None, refl, ap, sym, subst, ◌∙◌, append_assoc, arith}
use Rattle.std.specs.Prelude.{codes, nat_lt, slice_get, slice_index}
use Rattle.std.specs.List.{AllByRecursion}
use Rattle.std.proofs.lemmas.List.{append-nil}
use Rattle.dip_sets.specs.Names.{is_name_byte}
use Rattle.net_cells.specs.declared.netlist.Port.{Port}
use Rattle.net_cells.specs.declared.netlist.Reg.{Reg}
use Rattle.net_cells.specs.declared.netlist.Cell.{Cell}
use Rattle.net_cells.specs.declared.netlist.OutPort.{OutPort}
use Rattle.net_cells.specs.declared.netlist.CellOp.{CellOp}
use Rattle.net_cells.specs.declared.netlist.CellOp.TheVariants.{Const, Not, And, Or, Xor, Add, Sub, Eq, Less, Mux, Concat, Select}
use Rattle.net_cells.specs.declared.netlist.Netlist.{Netlist}
use Rattle.net_cells.specs.Rules.{IsCell, IsWidth, HasWidth, widths, sources}
use Rattle.ver_text.specs.declared.kind.Kind.TheVariants as kind
use Rattle.ver_text.specs.Spelling as spec
use Rattle.ver_text.specs.Spelling.{Piece, Sign, signs, part_signs, all_signs, laid, lines, group_lines, net_name, name_in, made_name, register_name, cell_name, expression, assignment, update}
use Rattle.ver_text.proofs.NetNames.{at_place}
use Rattle.ver_text.proofs.Words.{IsWord, tight_is, apart_is, number_is, nought_is, literal_is, register_word, cell_word}
use Rattle.ver_text.proofs.Lexing as lex
use Rattle.ver_text.proofs.Lexing.{Scanned, Scans}

-- pieces are found where they stand before the rest of a text
abbrev pub Stand : List Piece → List ℕ → Type 0
Stand [] rest = Unit {0}
Stand (p ∷ ps) rest = Scanned p (laid ps ++ rest) × Stand ps rest

pub laid-append : (xs ys : List Piece) → laid (xs ++ ys) ≡ laid xs ++ laid ys
laid-append [] ys = refl
laid-append (x ∷ xs) ys =
    ap (λ t. x.word ++ (x.gap ++ t)) (laid-append xs ys)
    ∙ (ap (λ t. x.word ++ t) (sym (append_assoc x.gap (laid xs) (laid ys))) ∙ sym (append_assoc x.word (x.gap ++ laid xs) (laid ys)))

signs-append : (xs ys : List Piece) → signs (xs ++ ys) ≡ signs xs ++ signs ys
signs-append [] ys = refl
signs-append (x ∷ xs) ys = ap (λ ss. spec.sign x.kind x.word ∷ ss) (signs-append xs ys)

pub join : (xs ys : List Piece) (rest : List ℕ) → Stand xs (laid ys ++ rest) → Stand ys rest → Stand (xs ++ ys) rest
join [] ys rest h k = k
join (x ∷ xs) ys rest h k =
    let e : laid xs ++ (laid ys ++ rest) ≡ laid (xs ++ ys) ++ rest = sym (ap (λ t. t ++ rest) (laid-append xs ys) ∙ append_assoc (laid xs) (laid ys) rest) in
    (subst (Scanned x) e h.0, join xs ys rest h.1 k)

pub to_scans : (ps : List Piece) → Stand ps [] → Scans ps
to_scans [] h = tt
to_scans (p ∷ ps) h = (subst (Scanned p) (append-nil (laid ps)) h.0, to_scans ps h.1)

-- the pieces of parts and of groups
abbrev pub joined : List (List Piece) → List Piece
joined [] = []
joined (part ∷ parts) = part ++ joined parts

abbrev pub all_joined : List (List (List Piece)) → List Piece
all_joined [] = []
all_joined (group ∷ more) = joined group ++ all_joined more

lines_are : (parts : List (List Piece)) → lines parts ≡ laid (joined parts)
lines_are [] = refl
lines_are (part ∷ parts) = ap (λ t. laid part ++ t) (lines_are parts) ∙ sym (laid-append part (joined parts))

pub all_lines_are : (gs : List (List (List Piece))) → group_lines gs ≡ laid (all_joined gs)
all_lines_are [] = refl
all_lines_are (g ∷ gs) =
    ap (λ t. t ++ group_lines gs) (lines_are g) ∙ (ap (λ t. laid (joined g) ++ t) (all_lines_are gs) ∙ sym (laid-append (joined g) (all_joined gs)))

part_signs_are : (parts : List (List Piece)) → part_signs parts ≡ signs (joined parts)
part_signs_are [] = refl
part_signs_are (part ∷ parts) = ap (λ t. signs part ++ t) (part_signs_are parts) ∙ sym (signs-append part (joined parts))

pub all_signs_are : (gs : List (List (List Piece))) → all_signs gs ≡ signs (all_joined gs)
all_signs_are [] = refl
all_signs_are (g ∷ gs) =
    ap (λ t. t ++ all_signs gs) (part_signs_are g) ∙ (ap (λ t. signs (joined g) ++ t) (all_signs_are gs) ∙ sym (signs-append (joined g) (all_joined gs)))

pub three_laid : (a b c : List Piece) → laid a ++ laid b ++ laid c ≡ laid (a ++ b ++ c)
three_laid a b c = ap (λ t. t ++ laid c) (sym (laid-append a b)) ∙ sym (laid-append (a ++ b) c)

pub three_signs : (a b c : List Piece) → signs a ++ signs b ++ signs c ≡ signs (a ++ b ++ c)
three_signs a b c = ap (λ t. t ++ signs c) (sym (signs-append a b)) ∙ sym (signs-append (a ++ b) c)

-- ---- each part

width_low : (width : ℕ) → IsWidth width → width - 1 < 2 ^ 64
width_low width h = omega arith

reg_stands : (width : ℕ) (name rest : List ℕ) → IsWidth width → IsWord name → Stand (spec.net kind.Reg width name) rest
reg_stands width name rest h w = (lex.apart_Reg _, (lex.tight_OpenBracket _, (number_is (width - 1) _ 58 (width_low width h) refl refl, (lex.tight_Colon _, (nought_is _, (lex.apart_CloseBracket _, (tight_is name _ 59 w refl, (lex.last_Semicolon _, tt))))))))

wire_stands : (width : ℕ) (name rest : List ℕ) → IsWidth width → IsWord name → Stand (spec.net kind.Wire width name) rest
wire_stands width name rest h w = (lex.apart_Wire _, (lex.tight_OpenBracket _, (number_is (width - 1) _ 58 (width_low width h) refl refl, (lex.tight_Colon _, (nought_is _, (lex.apart_CloseBracket _, (tight_is name _ 59 w refl, (lex.last_Semicolon _, tt))))))))

input_stands : (width b : ℕ) (name rest : List ℕ) → IsWidth width → IsWord name → is_name_byte b ≡ false → Stand (spec.apart kind.Comma ∷ spec.port_pieces kind.Input width name) (b ∷ rest)
input_stands width b name rest h w e = (lex.apart_Comma _, (lex.apart_Input _, (lex.tight_OpenBracket _, (number_is (width - 1) _ 58 (width_low width h) refl refl, (lex.tight_Colon _, (nought_is _, (lex.apart_CloseBracket _, (tight_is name _ b w e, tt))))))))

output_stands : (width b : ℕ) (name rest : List ℕ) → IsWidth width → IsWord name → is_name_byte b ≡ false → Stand (spec.apart kind.Comma ∷ spec.port_pieces kind.Output width name) (b ∷ rest)
output_stands width b name rest h w e = (lex.apart_Comma _, (lex.apart_Output _, (lex.tight_OpenBracket _, (number_is (width - 1) _ 58 (width_low width h) refl refl, (lex.tight_Colon _, (nought_is _, (lex.apart_CloseBracket _, (tight_is name _ b w e, tt))))))))

clock_word : IsWord (codes "clock")
clock_word = record { letter = refl; full = refl; plain = refl }

one_wide : IsWidth 1
one_wide = (omega arith, omega arith)

pub heading_stands : (b : ℕ) (name rest : List ℕ) → IsWord name → is_name_byte b ≡ false → Stand (spec.heading name) (b ∷ rest)
heading_stands b name rest w e =
    (lex.apart_Module _, (tight_is name _ 40 w refl, (lex.tight_OpenParen _, (lex.apart_Input _, (lex.tight_OpenBracket _, (number_is 0 _ 58 (omega arith) refl refl, (lex.tight_Colon _, (nought_is _, (lex.apart_CloseBracket _, (tight_is (codes "clock") _ b clock_word e, tt))))))))))

pub close_stands : (rest : List ℕ) → Stand (spec.tight kind.CloseParen ∷ spec.last kind.Semicolon ∷ []) rest
close_stands rest = (lex.tight_CloseParen _, (lex.last_Semicolon _, tt))

pub end_stands : (rest : List ℕ) → Stand (spec.last kind.Endmodule ∷ []) rest
end_stands rest = (lex.last_Endmodule _, tt)

update_stands : (register next rest : List ℕ) → IsWord register → IsWord next → Stand (update register next) rest
unfolding update
update_stands register next rest r n =
    (lex.apart_Always _, (lex.tight_At _, (lex.tight_OpenParen _, (lex.apart_Posedge _, (tight_is (codes "clock") _ 41 clock_word refl, (lex.apart_CloseParen _, (apart_is register _ r, (lex.apart_LessEqual _, (tight_is next _ 59 n refl, (lex.last_Semicolon _, tt))))))))))

-- what the names of nets have
pub record Lexable (n : Netlist) : Type 0 where
  pub heading : IsWord n.name
  pub inputs : AllByRecursion (λ (p : Port). IsWord p.name) n.inputs
  pub outputs : AllByRecursion (λ (o : OutPort). IsWord o.name) n.outputs
  pub few : length (widths n) < 2 ^ 64

made_word : (b : Bool) (k : ℕ) → k < 2 ^ 64 → IsWord (cond b (register_name k) (cell_name k))
made_word true k h = register_word k h
made_word false k h = cell_word k h

net_by : (o : Option Port) (n : Netlist) (x : ℕ) → slice_get n.inputs x ≡ o → Lexable n → x < 2 ^ 64 → IsWord (name_in o (sources n) x)
net_by (Some port) n x e l h = at_place (λ (p : Port). IsWord p.name) n.inputs x port l.inputs e
net_by None n x e l h = made_word (nat_lt x (sources n)) x h

pub net_word : (n : Netlist) (x : ℕ) → Lexable n → x < length (widths n) → IsWord (net_name n x)
net_word n x l h = let f : length (widths n) < 2 ^ 64 = l.few in net_by (slice_get n.inputs x) n x refl l (omega arith)

width_few : (width : ℕ) → IsWidth width → width < 2 ^ 64
width_few width h = omega arith

hi_few : (n : Netlist) (x hi : ℕ) → ((y : ℕ) → y < length (widths n) → IsWidth (slice_index (widths n) y)) → x < length (widths n) → hi < slice_index (widths n) x → hi < 2 ^ 64
hi_few n x hi sized l h = let m : slice_index (widths n) x ≤ 64 = (sized x l).1 in omega arith

lo_few : (n : Netlist) (x hi lo : ℕ) → ((y : ℕ) → y < length (widths n) → IsWidth (slice_index (widths n) y)) → x < length (widths n) → hi < slice_index (widths n) x → lo ≤ hi → lo < 2 ^ 64
lo_few n x hi lo sized l h k = let m : slice_index (widths n) x ≤ 64 = (sized x l).1 in omega arith

-- an assignment of each form
cell_stands : (o : CellOp) (n : Netlist) (width number : ℕ) (rest : List ℕ) → Lexable n → number < 2 ^ 64 → IsWidth width
    → ((x : ℕ) → x < length (widths n) → IsWidth (slice_index (widths n) x)) → IsCell (widths n) width o
    → Stand (assignment (cell_name number) (expression n width o)) rest
cell_stands (Const value) n width number rest l k h sized i = (lex.apart_Assign _, (apart_is (cell_name number) _ (cell_word number k), (lex.apart_Becomes _, (literal_is width value _ h.0 (width_few width h), (lex.last_Semicolon _, tt)))))
cell_stands (Not x) n width number rest l k h sized i = (lex.apart_Assign _, (apart_is (cell_name number) _ (cell_word number k), (lex.apart_Becomes _, (lex.tight_Tilde _, (tight_is (net_name n x) _ 59 (net_word n x l i.0) refl, (lex.last_Semicolon _, tt))))))
cell_stands (And x y) n width number rest l k h sized i = (lex.apart_Assign _, (apart_is (cell_name number) _ (cell_word number k), (lex.apart_Becomes _, (apart_is (net_name n x) _ (net_word n x l i.0.0), (lex.apart_And _, (tight_is (net_name n y) _ 59 (net_word n y l i.1.0) refl, (lex.last_Semicolon _, tt)))))))
cell_stands (Or x y) n width number rest l k h sized i = (lex.apart_Assign _, (apart_is (cell_name number) _ (cell_word number k), (lex.apart_Becomes _, (apart_is (net_name n x) _ (net_word n x l i.0.0), (lex.apart_Or _, (tight_is (net_name n y) _ 59 (net_word n y l i.1.0) refl, (lex.last_Semicolon _, tt)))))))
cell_stands (Xor x y) n width number rest l k h sized i = (lex.apart_Assign _, (apart_is (cell_name number) _ (cell_word number k), (lex.apart_Becomes _, (apart_is (net_name n x) _ (net_word n x l i.0.0), (lex.apart_Xor _, (tight_is (net_name n y) _ 59 (net_word n y l i.1.0) refl, (lex.last_Semicolon _, tt)))))))
cell_stands (Add x y) n width number rest l k h sized i = (lex.apart_Assign _, (apart_is (cell_name number) _ (cell_word number k), (lex.apart_Becomes _, (apart_is (net_name n x) _ (net_word n x l i.0.0), (lex.apart_Plus _, (tight_is (net_name n y) _ 59 (net_word n y l i.1.0) refl, (lex.last_Semicolon _, tt)))))))
cell_stands (Sub x y) n width number rest l k h sized i = (lex.apart_Assign _, (apart_is (cell_name number) _ (cell_word number k), (lex.apart_Becomes _, (apart_is (net_name n x) _ (net_word n x l i.0.0), (lex.apart_Minus _, (tight_is (net_name n y) _ 59 (net_word n y l i.1.0) refl, (lex.last_Semicolon _, tt)))))))
cell_stands (Eq x y) n width number rest l k h sized i = (lex.apart_Assign _, (apart_is (cell_name number) _ (cell_word number k), (lex.apart_Becomes _, (apart_is (net_name n x) _ (net_word n x l i.1.0), (lex.apart_Equal _, (tight_is (net_name n y) _ 59 (net_word n y l i.1.1) refl, (lex.last_Semicolon _, tt)))))))
cell_stands (Less x y) n width number rest l k h sized i = (lex.apart_Assign _, (apart_is (cell_name number) _ (cell_word number k), (lex.apart_Becomes _, (apart_is (net_name n x) _ (net_word n x l i.1.0), (lex.apart_Less _, (tight_is (net_name n y) _ 59 (net_word n y l i.1.1) refl, (lex.last_Semicolon _, tt)))))))
cell_stands (Mux c x y) n width number rest l k h sized i = (lex.apart_Assign _, (apart_is (cell_name number) _ (cell_word number k), (lex.apart_Becomes _, (apart_is (net_name n c) _ (net_word n c l i.0.0), (lex.apart_Question _, (apart_is (net_name n x) _ (net_word n x l i.1.0.0), (lex.apart_Colon _, (tight_is (net_name n y) _ 59 (net_word n y l i.1.1.0) refl, (lex.last_Semicolon _, tt)))))))))
cell_stands (Concat x y) n width number rest l k h sized i = (lex.apart_Assign _, (apart_is (cell_name number) _ (cell_word number k), (lex.apart_Becomes _, (lex.tight_OpenBrace _, (tight_is (net_name n x) _ 44 (net_word n x l i.0) refl, (lex.apart_Comma _, (tight_is (net_name n y) _ 125 (net_word n y l i.1) refl, (lex.tight_CloseBrace _, (lex.last_Semicolon _, tt)))))))))
cell_stands (Select x hi lo) n width number rest l k h sized i = (lex.apart_Assign _, (apart_is (cell_name number) _ (cell_word number k), (lex.apart_Becomes _, (tight_is (net_name n x) _ 91 (net_word n x l i.0) refl, (lex.tight_OpenBracket _, (number_is hi _ 58 (hi_few n x hi sized i.0 i.1) refl refl, (lex.tight_Colon _, (number_is lo _ 93 (lo_few n x hi lo sized i.0 i.1 i.2) refl refl, (lex.tight_CloseBracket _, (lex.last_Semicolon _, tt))))))))))

output_value_stands : (name value rest : List ℕ) → IsWord name → IsWord value → Stand (assignment name (spec.tight_name value ∷ [])) rest
output_value_stands name value rest w v = (lex.apart_Assign _, (apart_is name _ w, (lex.apart_Becomes _, (tight_is value _ 59 v refl, (lex.last_Semicolon _, tt)))))

-- ---- each group

pub regs_stand : (rs : List Reg) (number : ℕ) (rest : List ℕ) → number + length rs < 2 ^ 64 → AllByRecursion (λ (r : Reg). IsWidth r.width) rs
    → Stand (joined (spec.registers number rs)) rest
regs_stand [] number rest h w = tt
regs_stand (r ∷ rs) number rest h w =
    join (spec.net kind.Reg r.width (register_name number)) (joined (spec.registers (number + 1) rs)) rest
    (reg_stands r.width (register_name number) _ w.0 (register_word number (omega arith))) (regs_stand rs (number + 1) rest (omega arith) w.1)

pub wires_stand : (cs : List Cell) (number : ℕ) (rest : List ℕ) → number + length cs < 2 ^ 64 → AllByRecursion (λ (c : Cell). IsWidth c.width) cs
    → Stand (joined (spec.wires number cs)) rest
wires_stand [] number rest h w = tt
wires_stand (c ∷ cs) number rest h w =
    join (spec.net kind.Wire c.width (cell_name number)) (joined (spec.wires (number + 1) cs)) rest
    (wire_stands c.width (cell_name number) _ w.0 (cell_word number (omega arith))) (wires_stand cs (number + 1) rest (omega arith) w.1)

pub cells_stand : (cs : List Cell) (n : Netlist) (number : ℕ) (rest : List ℕ) → Lexable n → number + length cs < 2 ^ 64
    → AllByRecursion (λ (c : Cell). IsWidth c.width) cs → ((x : ℕ) → x < length (widths n) → IsWidth (slice_index (widths n) x))
    → AllByRecursion (λ (c : Cell). IsCell (widths n) c.width c.op) cs → Stand (joined (spec.cell_values n number cs)) rest
cells_stand [] n number rest l h w sized i = tt
cells_stand (c ∷ cs) n number rest l h w sized i =
    join (assignment (cell_name number) (expression n c.width c.op)) (joined (spec.cell_values n (number + 1) cs)) rest
    (cell_stands c.op n c.width number _ l (omega arith) w.0 sized i.0) (cells_stand cs n (number + 1) rest l (omega arith) w.1 sized i.1)

pub outputs_stand : (os : List OutPort) (n : Netlist) (rest : List ℕ) → Lexable n → AllByRecursion (λ (o : OutPort). IsWord o.name) os
    → AllByRecursion (λ (o : OutPort). o.net < length (widths n)) os → Stand (joined (spec.output_values n os)) rest
outputs_stand [] n rest l w h = tt
outputs_stand (o ∷ os) n rest l w h =
    join (assignment o.name (spec.tight_name (net_name n o.net) ∷ [])) (joined (spec.output_values n os)) rest
    (output_value_stands o.name (net_name n o.net) _ w.0 (net_word n o.net l h.0)) (outputs_stand os n rest l w.1 h.1)

pub updates_stand : (rs : List Reg) (n : Netlist) (number : ℕ) (rest : List ℕ) → Lexable n → number + length rs < 2 ^ 64
    → AllByRecursion (λ (r : Reg). HasWidth (widths n) r.next r.width) rs → Stand (joined (spec.updates n number rs)) rest
updates_stand [] n number rest l h w = tt
updates_stand (r ∷ rs) n number rest l h w =
    join (update (register_name number) (net_name n r.next)) (joined (spec.updates n (number + 1) rs)) rest
    (update_stands (register_name number) (net_name n r.next) _ (register_word number (omega arith)) (net_word n r.next l w.0.0))
    (updates_stand rs n (number + 1) rest l (omega arith) w.1)

-- a text that begins with no byte of a name
pub record Begins (text : List ℕ) : Type 0 where
  pub byte : ℕ
  pub rest : List ℕ
  pub is : text ≡ byte ∷ rest
  pub outside : is_name_byte byte ≡ false

pub inputs_begin : (ps : List Port) (rest : List ℕ) → Begins rest → Begins (laid (joined (spec.input_parts ps)) ++ rest)
inputs_begin [] rest b = b
inputs_begin (p ∷ ps) rest b = record { byte = 44; rest = _; is = refl; outside = refl }

pub outs_begin : (os : List OutPort) (ws rest : List ℕ) → Begins rest → Begins (laid (joined (spec.output_parts ws os)) ++ rest)
outs_begin [] ws rest b = b
outs_begin (o ∷ os) ws rest b = record { byte = 44; rest = _; is = refl; outside = refl }

pub inputs_stand : (ps : List Port) (rest : List ℕ) → Begins rest → AllByRecursion (λ (p : Port). IsWidth p.width) ps → AllByRecursion (λ (p : Port). IsWord p.name) ps
    → Stand (joined (spec.input_parts ps)) rest
inputs_stand [] rest b w n = tt
inputs_stand (p ∷ ps) rest b w n =
    let c = inputs_begin ps rest b in
    join (spec.apart kind.Comma ∷ spec.port_pieces kind.Input p.width p.name) (joined (spec.input_parts ps)) rest
    (subst (Stand (spec.apart kind.Comma ∷ spec.port_pieces kind.Input p.width p.name)) (sym c.is) (input_stands p.width c.byte p.name c.rest w.0 n.0 c.outside))
    (inputs_stand ps rest b w.1 n.1)

pub outs_stand : (os : List OutPort) (ws rest : List ℕ) → Begins rest → AllByRecursion (λ (o : OutPort). IsWidth (slice_index ws o.net)) os
    → AllByRecursion (λ (o : OutPort). IsWord o.name) os → Stand (joined (spec.output_parts ws os)) rest
outs_stand [] ws rest b w n = tt
outs_stand (o ∷ os) ws rest b w n =
    let c = outs_begin os ws rest b in
    join (spec.apart kind.Comma ∷ spec.port_pieces kind.Output (slice_index ws o.net) o.name) (joined (spec.output_parts ws os)) rest
    (subst (Stand (spec.apart kind.Comma ∷ spec.port_pieces kind.Output (slice_index ws o.net) o.name)) (sym c.is)
    (output_stands (slice_index ws o.net) c.byte o.name c.rest w.0 n.0 c.outside))
    (outs_stand os ws rest b w.1 n.1)

pub heading_begins : (ps : List Port) (os : List OutPort) (ws name rest : List ℕ) → Begins rest → IsWord name
    → Stand (spec.heading name) (laid (joined (spec.input_parts ps)) ++ (laid (joined (spec.output_parts ws os)) ++ rest))
heading_begins ps os ws name rest b w =
    let c = inputs_begin ps (laid (joined (spec.output_parts ws os)) ++ rest) (outs_begin os ws rest b) in
    subst (Stand (spec.heading name)) (sym c.is) (heading_stands c.byte name c.rest w c.outside)
