-- A text that is read as a netlist spells it.
use Rattle.std.proofs.Common.{ℕ, zero, suc, ◌≡◌, ◌≢◌, ◌+◌, ◌^◌, ◌<◌, ◌≤◌, List, [], ◌∷◌, ◌++◌, length, drop, map, Bool, true, false, cond, Option, Some, None, Result, Ok, Err, refl, ap, sym, subst, ◌∙◌, append_assoc, length-append, arith}
use Rattle.std.specs.Prelude.{codes, nat_eq, nat_le, slice_index, AllPairs, IfOk}
use Rattle.std.specs.List.{AllByRecursion, starts_with}
use Rattle.std.proofs.lemmas.List.{drop_at, length-map}
use Rattle.std.proofs.lemmas.List.Elements.{All-from_recursion}
use Rattle.std.proofs.lemmas.List.Kept.{AllPairs-cons}
use Rattle.dip_lists.proofs.Tests.{both}
use Rattle.dip_sets.specs.Names.{is_name}
use Rattle.net_cells.specs.declared.netlist.Port.{Port}
use Rattle.net_cells.specs.declared.netlist.Reg.{Reg}
use Rattle.net_cells.specs.declared.netlist.Cell.{Cell}
use Rattle.net_cells.specs.declared.netlist.CellOp.{CellOp}
use Rattle.net_cells.specs.declared.netlist.CellOp.TheVariants as op
use Rattle.net_cells.specs.declared.netlist.OutPort.{OutPort}
use Rattle.net_cells.specs.declared.netlist.Netlist.{Netlist}
use Rattle.net_cells.specs.Rules.{IsNamed, IsCell, IsWidth, IsNet, HasWidth, widths, port_names}
use Rattle.ver_text.specs.declared.kind.Kind.TheVariants as kind
use Rattle.ver_text.specs.declared.token.Token.{Token}
use Rattle.ver_text.specs.declared.progress.Progress.{Progress}
use Rattle.ver_text.specs.declared.fault.TextFault.{TextFault}
use Rattle.ver_text.specs.Kinds.{is_gap}
use Rattle.ver_text.specs.Grammar.{start}
use Rattle.ver_text.specs.Lexemes.{first_lexeme}
use Rattle.ver_text.specs.Tokens.{tokens_at, tokens_from, refused}
use Rattle.ver_text.specs.Parts.{at_start, parts}
use Rattle.ver_text.specs.Due.{at_first, has_prefix}
use Rattle.ver_text.specs.Reading.{read_text, parts_say, unless_refused, netlist_of, named_netlist, judged, Gives}
use Rattle.ver_text.specs.Spelling as spec
use Rattle.ver_text.specs.Spelling.{Sign, signs, part_signs, spelling, header, declarations, values, net_name, expression, assignment, cell_name}
use Rattle.ver_text.specs.TextLaw.{Spells, ReadSpells, sign_of}
use Rattle.ver_text.proofs.Signs.{said}
use Rattle.ver_text.proofs.Segments.{seen_start}
use Rattle.ver_text.proofs.Exact.{le_of}
use Rattle.ver_text.proofs.CellParts.{with_cells}
use Rattle.ver_text.proofs.ValueParts.{declared_as, with_outputs, with_updates}
use Rattle.ver_text.proofs.PortParts.{headed, names_of, widths_of, Apart, IsPort}
use Rattle.ver_text.proofs.Spelled.{made, regroup, reset_port}
use Rattle.ver_text.proofs.Told.{Bare, told, all_bare}
use Rattle.ver_text.proofs.Heard.{plain, assigned_signs}
use Rattle.ver_text.proofs.Taken.{called, expressed}
use Rattle.ver_text.proofs.Items.{reg_list, wire_list, cell_list, out_list, update_list, with_regs, with_wires, Registering, items}
use Rattle.ver_text.proofs.Heads.{head_signs, reset_signs, close_signs, both_lists, in_list, out_ports, HeadRead, head, PortsRead, ports}

-- ---- all that was read

abbrev ins_of : List Port → List Port
ins_of is = reset_port ∷ is

-- the widths of all nets, by the ports and by what is declared
abbrev all_widths : List Port → List ℕ → List ℕ → List ℕ
all_widths is gs vs = (widths_of (ins_of is) ++ gs) ++ vs

abbrev call_of : List Port → ℕ → ℕ → List ℕ
call_of is count = called (ins_of is) (length (ins_of is) + count)

pub record Got (q : Progress) (ss : List Sign) : Type 0 where
  pub name : List ℕ
  pub is : List Port
  pub ds : List Port
  pub gs : List ℕ
  pub vs : List ℕ
  pub cs : List Cell
  pub os : List OutPort
  pub rs : List Reg
  pub front : has_prefix (codes "m_") name ≡ true
  pub form : is_name name ≡ true
  pub ins : AllByRecursion IsPort is
  pub outs : AllByRecursion IsPort ds
  pub apart : Apart (names_of (ins_of is) ++ names_of ds)
  pub wide_regs : AllByRecursion IsWidth gs
  pub wide_wires : AllByRecursion IsWidth vs
  pub final : with_updates (with_outputs (with_cells (with_wires (with_regs (headed name (ins_of is) ds) gs) vs) cs) os) rs ≡ q
  pub split :
      ss
      ≡ head_signs name ++ (reset_signs ++ (in_list is ++ (out_ports ds ++ (close_signs ++ (reg_list (length (widths_of (ins_of is))) gs
      ++ (wire_list (length (widths_of (ins_of is) ++ gs)) vs ++ (cell_list (call_of is (length gs)) (length (ins_of is) + length gs) cs
      ++ (out_list (call_of is (length gs)) os ++ (update_list (call_of is (length gs)) (length (ins_of is)) rs ++ plain kind.Endmodule ∷ [])))))))))
  pub all : length (ins_of is) + length rs ≡ length (ins_of is) + length gs
  pub nexts : AllByRecursion (λ (r : Reg). HasWidth (all_widths is gs vs) r.next r.width) rs
  pub reg_wide : drop (length (ins_of is)) (all_widths is gs vs) ≡ map (λ (r : Reg). r.width) rs ++ drop (length (ins_of is) + length gs) (all_widths is gs vs)
  pub cell_wide : drop (length (ins_of is) + length gs) (all_widths is gs vs) ≡ map (λ (c : Cell). c.width) cs
  pub rules : AllByRecursion (λ (c : Cell). IsCell (all_widths is gs vs) c.width c.op) cs
  pub declared : ds ≡ map (declared_as (all_widths is gs vs)) os
  pub within : AllByRecursion (λ (o : OutPort). o.net < length (all_widths is gs vs)) os

ten_parts : (ss H R I O C G W V S U E s1 s2 s3 s4 s5 s6 s7 : List Sign) → ss ≡ H ++ (R ++ s1) → s1 ≡ I ++ (O ++ (C ++ s2)) → s2 ≡ G ++ s3 → s3 ≡ W ++ s4 → s4 ≡ V ++ s5
    → s5 ≡ S ++ s6 → s6 ≡ U ++ E → ss ≡ H ++ (R ++ (I ++ (O ++ (C ++ (G ++ (W ++ (V ++ (S ++ (U ++ E)))))))))
ten_parts ss H R I O C G W V S U E s1 s2 s3 s4 s5 s6 s7 a b c d e f g = rw (a, b, c, d, e, f, g) refl

gathered : (ss : List Sign) (q : Progress) (h : HeadRead q ss) (p : PortsRead h.name reset_port [] [] q h.rest) → Registering (headed h.name (ins_of p.inputs) p.outputs) q p.rest → Got q ss
gathered ss q h p r =
    let w = r.more in
    let v = w.more in
    let s = v.more in
    let u = s.more in
    record {
      name = h.name;
      is = p.inputs;
      ds = p.outputs;
      gs = r.regs;
      vs = w.wires;
      cs = v.cells;
      os = s.outs;
      rs = u.regs;
      front = h.front;
      form = h.form;
      ins = p.ins;
      outs = p.shown;
      apart = p.apart;
      wide_regs = r.wide;
      wide_wires = w.wide;
      final = u.final;
      split = ten_parts ss (head_signs h.name) reset_signs (in_list p.inputs) (out_ports p.outputs) close_signs (reg_list (length (widths_of (ins_of p.inputs))) r.regs)
          (wire_list (length (widths_of (ins_of p.inputs) ++ r.regs)) w.wires) (cell_list (call_of p.inputs (length r.regs)) (length (ins_of p.inputs) + length r.regs) v.cells)
          (out_list (call_of p.inputs (length r.regs)) s.outs) (update_list (call_of p.inputs (length r.regs)) (length (ins_of p.inputs)) u.regs) (plain kind.Endmodule ∷ [])
          h.rest p.rest r.rest w.rest v.rest s.rest [] h.split p.split r.split w.split v.split s.split u.split;
      all = u.all;
      nexts = u.nexts;
      reg_wide = u.wide;
      cell_wide = v.wide;
      rules = v.rules;
      declared = s.declared;
      within = s.within;
    }

pub got : (ss : List Sign) (q : Progress) → AllByRecursion Bare ss → said at_first seen_start ss ≡ Some q → Got q ss
got ss q b e =
    let h = head ss q b e in
    let p = ports (length h.rest) h.name reset_port q h.rest [] [] h.next (omega arith) h.bare (tt, tt) h.bound h.goes in
    let n : length (widths_of (ins_of p.inputs)) ≡ length (ins_of p.inputs) = length-map (ins_of p.inputs) (λ (x : Port). x.width) in
    gathered ss q h p
    (items (length p.rest) p.rest (headed h.name (ins_of p.inputs) p.outputs) q p.next (omega arith) p.bare
    (record { inputs = omega arith; nets = omega arith; next = omega arith }) p.bound p.goes)

-- ---- registers, cells and outputs by what is declared of them

same_front : (xs ys cs ds : List ℕ) → length xs ≡ length ys → xs ++ cs ≡ ys ++ ds → xs ≡ ys
same_front [] [] cs ds l e = refl
same_front [] (y ∷ ys) cs ds l e = cc
same_front (x ∷ xs) [] cs ds l e = cc
same_front (x ∷ xs) (y ∷ ys) cs ds l e =
    let t : x ≡ y = cc in
    let r : xs ++ cs ≡ ys ++ ds = cc in
    let n : length xs ≡ length ys = omega arith in
    ap (λ z. z ∷ xs) t ∙ ap (λ zs. y ∷ zs) (same_front xs ys cs ds n r)

cells_are : (is : List Port) (gs vs : List ℕ) (cs : List Cell) → drop (length (ins_of is) + length gs) (all_widths is gs vs) ≡ map (λ (c : Cell). c.width) cs
    → vs ≡ map (λ (c : Cell). c.width) cs
cells_are is gs vs cs e =
    let n : length (widths_of (ins_of is) ++ gs) ≡ length (ins_of is) + length gs =
    omega (arith, length-append (widths_of (ins_of is)) gs, length-map (ins_of is) (λ (p : Port). p.width)) in
    sym (drop_at (widths_of (ins_of is) ++ gs) vs (length (ins_of is) + length gs) n) ∙ e

regs_are : (is : List Port) (gs vs : List ℕ) (rs : List Reg) (more : List ℕ) → drop (length (ins_of is)) (all_widths is gs vs) ≡ map (λ (r : Reg). r.width) rs ++ more
    → length (ins_of is) + length rs ≡ length (ins_of is) + length gs → gs ≡ map (λ (r : Reg). r.width) rs
regs_are is gs vs rs more e l =
    let m : length (map (λ (r : Reg). r.width) rs) ≡ length rs = length-map rs (λ (r : Reg). r.width) in
    let n : length gs ≡ length (map (λ (r : Reg). r.width) rs) = omega arith in
    let f : drop (length (ins_of is)) (all_widths is gs vs) ≡ gs ++ vs =
    ap (drop (length (ins_of is))) (append_assoc (widths_of (ins_of is)) gs vs)
    ∙ drop_at (widths_of (ins_of is)) (gs ++ vs) (length (ins_of is)) (length-map (ins_of is) (λ (p : Port). p.width)) in
    same_front gs (map (λ (r : Reg). r.width) rs) vs more n (sym f ∙ e)

-- ---- tokens

abbrev reg_widths : List Reg → List ℕ
reg_widths = map (λ (r : Reg). r.width)

abbrev cell_widths : List Cell → List ℕ
cell_widths = map (λ (c : Cell). c.width)

ins_same : (is : List Port) → in_list is ≡ part_signs (spec.input_parts is)
ins_same [] = refl
ins_same (p ∷ ps) = ap (λ xs. signs (spec.apart kind.Comma ∷ spec.port_pieces kind.Input p.width p.name) ++ xs) (ins_same ps)

outs_same : (os : List OutPort) (ws : List ℕ) → out_ports (map (declared_as ws) os) ≡ part_signs (spec.output_parts ws os)
outs_same [] ws = refl
outs_same (o ∷ os) ws = ap (λ xs. signs (spec.apart kind.Comma ∷ spec.port_pieces kind.Output (slice_index ws o.net) o.name) ++ xs) (outs_same os ws)

regs_same : (rs : List Reg) (k : ℕ) → reg_list k (reg_widths rs) ≡ part_signs (spec.registers k rs)
regs_same [] k = refl
regs_same (r ∷ rs) k = ap (λ xs. signs (spec.net kind.Reg r.width (spec.register_name k)) ++ xs) (regs_same rs (k + 1))

wires_same : (cs : List Cell) (k : ℕ) → wire_list k (cell_widths cs) ≡ part_signs (spec.wires k cs)
wires_same [] k = refl
wires_same (c ∷ cs) k = ap (λ xs. signs (spec.net kind.Wire c.width (spec.cell_name k)) ++ xs) (wires_same cs (k + 1))

value_same : (n : Netlist) (name : List ℕ) (width : ℕ) (o : CellOp) → assigned_signs name (expressed (net_name n) width o) ≡ signs (assignment name (expression n width o))
value_same n name width (op.Const value) = refl
value_same n name width (op.Not x) = refl
value_same n name width (op.And x y) = refl
value_same n name width (op.Or x y) = refl
value_same n name width (op.Xor x y) = refl
value_same n name width (op.Add x y) = refl
value_same n name width (op.Sub x y) = refl
value_same n name width (op.Eq x y) = refl
value_same n name width (op.Less x y) = refl
value_same n name width (op.Mux c x y) = refl
value_same n name width (op.Concat x y) = refl
value_same n name width (op.Select x hi lo) = refl

cells_same : (n : Netlist) (cs : List Cell) (k : ℕ) → cell_list (net_name n) k cs ≡ part_signs (spec.cell_values n k cs)
cells_same n [] k = refl
cells_same n (c ∷ cs) k =
    ap (λ xs. xs ++ cell_list (net_name n) (k + 1) cs) (value_same n (cell_name k) c.width c.op)
    ∙ ap (λ xs. signs (assignment (cell_name k) (expression n c.width c.op)) ++ xs) (cells_same n cs (k + 1))

shown_same : (n : Netlist) (os : List OutPort) → out_list (net_name n) os ≡ part_signs (spec.output_values n os)
shown_same n [] = refl
shown_same n (o ∷ os) = ap (λ xs. signs (assignment o.name (spec.tight_name (net_name n o.net) ∷ [])) ++ xs) (shown_same n os)

updates_same : (n : Netlist) (rs : List Reg) (k : ℕ) → update_list (net_name n) k rs ≡ part_signs (spec.updates n k rs)
unfolding spec.update
updates_same n [] k = refl
updates_same n (r ∷ rs) k = ap (λ xs. signs (spec.update (spec.register_name k) (net_name n r.next)) ++ xs) (updates_same n rs (k + 1))

seven_same : (H R I O C G W V S U E I2 O2 G2 W2 V2 S2 U2 : List Sign) → I ≡ I2 → O ≡ O2 → G ≡ G2 → W ≡ W2 → V ≡ V2 → S ≡ S2 → U ≡ U2
    → H ++ (R ++ (I ++ (O ++ (C ++ (G ++ (W ++ (V ++ (S ++ (U ++ E)))))))))
    ≡ H ++ (R ++ (I2 ++ (O2 ++ (C ++ (G2 ++ (W2 ++ (V2 ++ (S2 ++ (U2 ++ E)))))))))
seven_same H R I O C G W V S U E I2 O2 G2 W2 V2 S2 U2 i o g w v s u = rw (i, o, g, w, v, s, u) refl

spelled : (name : List ℕ) (is : List Port) (rs : List Reg) (cs : List Cell) (os : List OutPort)
    → head_signs name ++ (reset_signs ++ (part_signs (spec.input_parts is) ++ (part_signs (spec.output_parts (widths (made name is rs cs os)) os) ++ (close_signs
    ++ (part_signs (spec.registers (length (ins_of is)) rs) ++ (part_signs (spec.wires (length (ins_of is) + length rs) cs)
    ++ (part_signs (spec.cell_values (made name is rs cs os) (length (ins_of is) + length rs) cs) ++ (part_signs (spec.output_values (made name is rs cs os) os)
    ++ (part_signs (spec.updates (made name is rs cs os) (length (ins_of is)) rs) ++ plain kind.Endmodule ∷ [])))))))))
    ≡ spelling (made name is rs cs os)
unfolding spelling header declarations values
spelled name is rs cs os =
    let n : Netlist = made name is rs cs os in
    sym
    (regroup (signs (spec.heading name)) (signs (spec.apart kind.Comma ∷ spec.port_pieces kind.Input 1 (codes "reset"))) (part_signs (spec.input_parts is))
    (part_signs (spec.output_parts (widths n) os)) (signs (spec.tight kind.CloseParen ∷ spec.last kind.Semicolon ∷ [])) (part_signs (spec.registers (length (ins_of is)) rs))
    (part_signs (spec.wires (length (ins_of is) + length rs) cs)) (part_signs (spec.cell_values n (length (ins_of is) + length rs) cs))
    (part_signs (spec.output_values n os)) (part_signs (spec.updates n (length (ins_of is)) rs)) (signs (spec.last kind.Endmodule ∷ [])))

-- ---- names

named_so : (front name : List ℕ) → has_prefix front name ≡ true → is_name name ≡ true → IsNamed front name
named_so front name h n =
    let b = both (starts_with nat_eq name front) (nat_le 3 (length name)) h in
    (b.0, le_of 3 (length name) b.1, n)

pairs_nil : AllPairs (λ (a : List ℕ) (b : List ℕ). a ≢ b) []
pairs_nil i j d l m = absurd (omega arith)

turned : (x : List ℕ) (xs : List (List ℕ)) → AllByRecursion (λ y. y ≢ x) xs → AllByRecursion (λ y. x ≢ y) xs
turned x [] h = tt
turned x (y ∷ ys) h = ((λ e. h.0 (sym e)), turned x ys h.1)

pairs_from : (xs : List (List ℕ)) → Apart xs → AllPairs (λ (a : List ℕ) (b : List ℕ). a ≢ b) xs
pairs_from [] h = pairs_nil
pairs_from (x ∷ xs) h = AllPairs-cons (λ a b. a ≢ b) x xs (All-from_recursion (λ y. x ≢ y) xs (turned x xs h.0)) (pairs_from xs h.1)

names_declared : (ws : List ℕ) (os : List OutPort) → names_of (map (declared_as ws) os) ≡ map (λ (o : OutPort). o.name) os
names_declared ws [] = refl
names_declared ws (o ∷ os) = ap (λ xs. o.name ∷ xs) (names_declared ws os)

-- a fact of each port
ports_have : (P : Port → Type 0) → ((p : Port) → IsPort p → P p) → (ps : List Port) → AllByRecursion IsPort ps → AllByRecursion P ps
ports_have P f [] h = tt
ports_have P f (p ∷ ps) h = (f p h.0, ports_have P f ps h.1)

outs_have : (P : List ℕ → Type 0) (ws : List ℕ) → ((p : Port) → IsPort p → P p.name) → (os : List OutPort) → AllByRecursion IsPort (map (declared_as ws) os)
    → AllByRecursion (λ (o : OutPort). P o.name) os
outs_have P ws f [] h = tt
outs_have P ws f (o ∷ os) h = (f (declared_as ws o) h.0, outs_have P ws f os h.1)

widths_have : (ps : List Port) → AllByRecursion IsPort ps → AllByRecursion IsWidth (widths_of ps)
widths_have [] h = tt
widths_have (p ∷ ps) h = (h.0.wide, widths_have ps h.1)

-- ---- there are fewer nets than bytes

found_few : (b : Bool) (t : Token) (ts : List Token) (n : ℕ) → length ts ≤ n → length (cond b ts (t ∷ ts)) ≤ suc n
found_few true t ts n h = omega arith
found_few false t ts n h = omega arith

tokens_few : (cs : List ℕ) (at skipped : ℕ) → length (tokens_at at skipped cs) ≤ length cs
tokens_few [] at zero = omega arith
tokens_few [] at (suc skipped) = omega arith
tokens_few (c ∷ cs) at zero =
    found_few (is_gap (first_lexeme (c ∷ cs)).kind) (record { kind = (first_lexeme (c ∷ cs)).kind; start = at; length = (first_lexeme (c ∷ cs)).more + 1 })
    (tokens_at (at + 1) (first_lexeme (c ∷ cs)).more cs) (length cs) (tokens_few cs (at + 1) (first_lexeme (c ∷ cs)).more)
tokens_few (c ∷ cs) at (suc skipped) = let h : length (tokens_at (at + 1) skipped cs) ≤ length cs = tokens_few cs (at + 1) skipped in omega arith

all_few : (text : List ℕ) → length (tokens_from text 0) ≤ length text
unfolding tokens_from
all_few text = tokens_few text 0 0

ins_long : (is : List Port) → length is ≤ length (in_list is)
ins_long [] = omega arith
ins_long (p ∷ ps) = let h : length ps ≤ length (in_list ps) = ins_long ps in omega arith

regs_long : (gs : List ℕ) (k : ℕ) → length gs ≤ length (reg_list k gs)
regs_long [] k = omega arith
regs_long (g ∷ gs) k = let h : length gs ≤ length (reg_list (k + 1) gs) = regs_long gs (k + 1) in omega arith

wires_long : (vs : List ℕ) (k : ℕ) → length vs ≤ length (wire_list k vs)
wires_long [] k = omega arith
wires_long (v ∷ vs) k = let h : length vs ≤ length (wire_list (k + 1) vs) = wires_long vs (k + 1) in omega arith

parts_long : (H R I O C G W X : List Sign) → length H + length I + length G + length W ≤ length (H ++ (R ++ (I ++ (O ++ (C ++ (G ++ (W ++ X)))))))
parts_long H R I O C G W X =
    omega (
      arith,
      length-append H (R ++ (I ++ (O ++ (C ++ (G ++ (W ++ X)))))),
      length-append R (I ++ (O ++ (C ++ (G ++ (W ++ X))))),
      length-append I (O ++ (C ++ (G ++ (W ++ X)))),
      length-append O (C ++ (G ++ (W ++ X))),
      length-append C (G ++ (W ++ X)),
      length-append G (W ++ X),
      length-append W X,
    )

nets_few : (q : Progress) (ss : List Sign) (g : Got q ss) → length (all_widths g.is g.gs g.vs) ≤ length ss
nets_few q ss g =
    let k : ℕ = length (widths_of (ins_of g.is)) in
    let m : ℕ = length (widths_of (ins_of g.is) ++ g.gs) in
    let rest : List Sign =
    cell_list (call_of g.is (length g.gs)) (length (ins_of g.is) + length g.gs) g.cs
    ++ (out_list (call_of g.is (length g.gs)) g.os ++ (update_list (call_of g.is (length g.gs)) (length (ins_of g.is)) g.rs ++ plain kind.Endmodule ∷ [])) in
    let all : length ss ≡ length (head_signs g.name ++ (reset_signs ++ (in_list g.is ++ (out_ports g.ds ++ (close_signs ++ (reg_list k g.gs ++ (wire_list m g.vs ++ rest))))))) =
    ap length g.split in
    let long : length (head_signs g.name) + length (in_list g.is) + length (reg_list k g.gs) + length (wire_list m g.vs)
    ≤ length (head_signs g.name ++ (reset_signs ++ (in_list g.is ++ (out_ports g.ds ++ (close_signs ++ (reg_list k g.gs ++ (wire_list m g.vs ++ rest))))))) =
    parts_long (head_signs g.name) reset_signs (in_list g.is) (out_ports g.ds) close_signs (reg_list k g.gs) (wire_list m g.vs) rest in
    let a : length g.is ≤ length (in_list g.is) = ins_long g.is in
    let b : length g.gs ≤ length (reg_list k g.gs) = regs_long g.gs k in
    let c : length g.vs ≤ length (wire_list m g.vs) = wires_long g.vs m in
    let d : length (all_widths g.is g.gs g.vs) ≡ suc (length g.is) + length g.gs + length g.vs =
    omega (arith, length-append (widths_of (ins_of g.is) ++ g.gs) g.vs, length-append (widths_of (ins_of g.is)) g.gs, length-map (ins_of g.is) (λ (p : Port). p.width)) in
    let one : 1 ≤ length (head_signs g.name) = omega arith in
    few_by (length (all_widths g.is g.gs g.vs)) (length ss) (length g.is) (length g.gs) (length g.vs) (length (head_signs g.name)) (length (in_list g.is)) (length (reg_list k g.gs))
    (length (wire_list m g.vs))
    (length (head_signs g.name ++ (reset_signs ++ (in_list g.is ++ (out_ports g.ds ++ (close_signs ++ (reg_list k g.gs ++ (wire_list m g.vs ++ rest)))))))) d all long a b c one
  where
    few_by : (w s i g v h a b c t : ℕ) → w ≡ suc i + g + v → s ≡ t → h + a + b + c ≤ t → i ≤ a → g ≤ b → v ≤ c → 1 ≤ h → w ≤ s
    few_by w s i g v h a b c t d e l x y z one = omega arith

-- ---- the netlist

netlist_by : (q : Progress) (ss : List Sign) (g : Got q ss) (text : List ℕ) → length ss < 2 ^ 64 → map (sign_of text) (tokens_from text 0) ≡ ss
    → Spells text (made g.name g.is g.rs g.cs g.os)
netlist_by q ss g text l t =
    let n : Netlist = made g.name g.is g.rs g.cs g.os in
    let w : List ℕ = all_widths g.is g.gs g.vs in
    let regs : g.gs ≡ reg_widths g.rs = regs_are g.is g.gs g.vs g.rs (drop (length (ins_of g.is) + length g.gs) w) g.reg_wide g.all in
    let cells : g.vs ≡ cell_widths g.cs = cells_are g.is g.gs g.vs g.cs g.cell_wide in
    let same : w ≡ widths n = ap (λ xs. all_widths g.is xs g.vs) regs ∙ ap (λ xs. all_widths g.is (reg_widths g.rs) xs) cells in
    let count : length (ins_of g.is) + length g.gs ≡ length (ins_of g.is) + length g.rs = sym g.all in
    let k : length (widths_of (ins_of g.is)) ≡ length (ins_of g.is) = length-map (ins_of g.is) (λ (p : Port). p.width) in
    let m : length (widths_of (ins_of g.is) ++ g.gs) ≡ length (ins_of g.is) + length g.rs = length-append (widths_of (ins_of g.is)) g.gs ∙ (ap (λ x. x + length g.gs) k ∙ count) in
    let call = λ (x : ℕ). called (ins_of g.is) x in
    let outs : AllByRecursion IsPort (map (declared_as w) g.os) = subst (AllByRecursion IsPort) g.declared g.outs in
    let apart : Apart (names_of (ins_of g.is) ++ map (λ (o : OutPort). o.name) g.os) =
    subst (λ xs. Apart (names_of (ins_of g.is) ++ xs)) (ap names_of g.declared ∙ names_declared w g.os) g.apart in
    let one : IsWidth 1 = (omega arith, omega arith) in
    let sized : AllByRecursion IsWidth w =
    both_lists IsWidth (widths_of (ins_of g.is) ++ g.gs) g.vs (both_lists IsWidth (widths_of (ins_of g.is)) g.gs (one, widths_have g.is g.ins) g.wide_regs) g.wide_wires in
    let few : length w ≤ length ss = nets_few q ss g in
    let less : length w < 2 ^ 64 = omega arith in
    record {
      formed = record {
        name = named_so (codes "m_") g.name g.front g.form;
        reset = refl;
        inputs = All-from_recursion (λ (p : Port). IsNamed (codes "p_") p.name) g.is
            (ports_have (λ p. IsNamed (codes "p_") p.name) (λ p h. named_so (codes "p_") p.name h.front h.form) g.is g.ins);
        outputs = All-from_recursion (λ (o : OutPort). IsNamed (codes "p_") o.name) g.os
            (outs_have (IsNamed (codes "p_")) w (λ p h. named_so (codes "p_") p.name h.front h.form) g.os outs);
        distinct = pairs_from (port_names n) apart;
        few = subst (λ ws. length ws < 2 ^ 64) same less;
        sized = All-from_recursion IsWidth (widths n) (subst (AllByRecursion IsWidth) same sized);
        registers = All-from_recursion (λ (r : Reg). HasWidth (widths n) r.next r.width) g.rs
            (subst (λ ws. AllByRecursion (λ (r : Reg). HasWidth ws r.next r.width) g.rs) same g.nexts);
        cells = All-from_recursion (λ (c : Cell). IsCell (widths n) c.width c.op) g.cs
            (subst (λ ws. AllByRecursion (λ (c : Cell). IsCell ws c.width c.op) g.cs) same g.rules);
        shown = All-from_recursion (λ (o : OutPort). IsNet (widths n) o.net) g.os
            (subst (λ ws. AllByRecursion (λ (o : OutPort). IsNet ws o.net) g.os) same g.within);
      };
      signs = t ∙ (g.split
          ∙ (seven_same (head_signs g.name) reset_signs (in_list g.is) (out_ports g.ds) close_signs (reg_list (length (widths_of (ins_of g.is))) g.gs)
          (wire_list (length (widths_of (ins_of g.is) ++ g.gs)) g.vs) (cell_list (call_of g.is (length g.gs)) (length (ins_of g.is) + length g.gs) g.cs)
          (out_list (call_of g.is (length g.gs)) g.os) (update_list (call_of g.is (length g.gs)) (length (ins_of g.is)) g.rs) (plain kind.Endmodule ∷ [])
          (part_signs (spec.input_parts g.is)) (part_signs (spec.output_parts (widths n) g.os)) (part_signs (spec.registers (length (ins_of g.is)) g.rs))
          (part_signs (spec.wires (length (ins_of g.is) + length g.rs) g.cs)) (part_signs (spec.cell_values n (length (ins_of g.is) + length g.rs) g.cs))
          (part_signs (spec.output_values n g.os)) (part_signs (spec.updates n (length (ins_of g.is)) g.rs))
          (ins_same g.is)
          (ap out_ports g.declared ∙ (ap (λ ws. out_ports (map (declared_as ws) g.os)) same ∙ outs_same g.os (widths n)))
          (ap (λ x. reg_list x g.gs) k ∙ (ap (reg_list (length (ins_of g.is))) regs ∙ regs_same g.rs (length (ins_of g.is))))
          (ap (λ x. wire_list x g.vs) m ∙ (ap (wire_list (length (ins_of g.is) + length g.rs)) cells ∙ wires_same g.cs (length (ins_of g.is) + length g.rs)))
          (ap (λ x. cell_list (called (ins_of g.is) x) x g.cs) count ∙ cells_same n g.cs (length (ins_of g.is) + length g.rs))
          (ap (λ x. out_list (called (ins_of g.is) x) g.os) count ∙ shown_same n g.os)
          (ap (λ x. update_list (called (ins_of g.is) x) (length (ins_of g.is)) g.rs) count ∙ updates_same n g.rs (length (ins_of g.is)))
          ∙ spelled g.name g.is g.rs g.cs g.os));
    }

-- ---- texts

record ReadParts (text : List ℕ) (n : Netlist) : Type 0 where
  pub last : Progress
  pub syntax_holds : refused start (tokens_from text 0) (length text) ≡ None
  pub parts_say_it : judged text at_first (parts at_start (tokens_from text 0)) ≡ Ok last
  pub netlist : named_netlist last.name last ≡ Ok n

by_result : (text : List ℕ) (n : Netlist) (r : Result Progress ℕ) → judged text at_first (parts at_start (tokens_from text 0)) ≡ r
    → refused start (tokens_from text 0) (length text) ≡ None → netlist_of r ≡ Ok n → ReadParts text n
by_result text n (Err place) j s e = cc
by_result text n (Ok p) j s e = record { last = p; syntax_holds = s; parts_say_it = j; netlist = e }

by_refusal : (text : List ℕ) (n : Netlist) (o : Option ℕ) → refused start (tokens_from text 0) (length text) ≡ o
    → unless_refused o (netlist_of (judged text at_first (parts at_start (tokens_from text 0)))) ≡ Ok n → ReadParts text n
by_refusal text n (Some place) s e = cc
by_refusal text n None s e = by_result text n (judged text at_first (parts at_start (tokens_from text 0))) refl s e

read_parts : (text : List ℕ) (n : Netlist) → read_text text ≡ Ok n → ReadParts text n
unfolding read_text parts_say
read_parts text n e = by_refusal text n (refused start (tokens_from text 0) (length text)) refl e

same_ok : (n m : Netlist) → ◌≡◌ {A = Result Netlist ℕ} (Ok n) (Ok m) → n ≡ m
same_ok n m e = cc

pub read_spells : ReadSpells
read_spells text n l e =
    let r = read_parts text n e in
    let ss : List Sign = map (sign_of text) (tokens_from text 0) in
    let g = got ss r.last (all_bare text (tokens_from text 0)) (told text (tokens_from text 0) at_start (length text) at_first r.last r.syntax_holds r.parts_say_it) in
    let same : made g.name g.is g.rs g.cs g.os ≡ n = same_ok (made g.name g.is g.rs g.cs g.os) n (subst (λ (p : Progress). named_netlist p.name p ≡ Ok n) (sym g.final) r.netlist) in
    let few : length (tokens_from text 0) ≤ length text = all_few text in
    let count : length ss ≡ length (tokens_from text 0) = length-map (tokens_from text 0) (sign_of text) in
    let less : length ss < 2 ^ 64 = omega arith in
    subst (Spells text) same (netlist_by r.last ss g text less refl)

-- what is read of a text is spelled by it
pub spelled_result : (text : List ℕ) (r : Result Netlist TextFault) → Gives (read_text text) r → length text < 2 ^ 64 → IfOk r (λ n. Spells text n)
spelled_result text (Ok n) e l = read_spells text n l e
spelled_result text (Err fault) e l = tt
