-- What a part says that is due.
use Rattle.std.proofs.Common.{ℕ, zero, suc, ◌≡◌, ◌+◌, ◌-◌, ◌<◌, ◌≤◌, List, [], ◌∷◌, ◌++◌, length, Bool, true, false, not, ◌&&◌, cond, Option, Some, None, refl, ap, sym, subst, ◌∙◌, arith}
use Rattle.std.specs.Prelude.{codes, decimal, nat_lt, nat_le, ◌==◌, slice_get, slice_index}
use Rattle.std.specs.Str.{bytes_eq}
use Rattle.std.proofs.lemmas.Bool.Decides.{nat_tests}
use Rattle.std.proofs.lemmas.Slice.Eq.{bytes_eq-Decides}
use Rattle.dip_lists.proofs.Tests.{both}
use Rattle.net_cells.specs.declared.netlist.Port.{Port}
use Rattle.net_cells.specs.declared.netlist.Reg.{Reg}
use Rattle.net_cells.specs.declared.netlist.Cell.{Cell}
use Rattle.net_cells.specs.declared.netlist.OutPort.{OutPort}
use Rattle.net_cells.specs.declared.netlist.CellOp.{CellOp}
use Rattle.net_cells.specs.declared.netlist.CellOp.TheVariants as op
use Rattle.net_cells.specs.Rules.{IsCell, IsWidth, HasWidth}
use Rattle.ver_text.specs.declared.kind.Kind.{Kind}
use Rattle.ver_text.specs.declared.kind.Kind.TheVariants as kind
use Rattle.ver_text.specs.declared.progress.Progress.{Progress}
use Rattle.ver_text.specs.Kinds.{same_kind}
use Rattle.ver_text.specs.Numerals.{written_number, number_below, literal, literal_of, is_numbered, numbered}
use Rattle.ver_text.specs.Fits.{is_cell}
use Rattle.ver_text.specs.Due.{if_within, cell_named, register_named, net_named, width_of, takes_registers, takes_wires, due_register, due_wire, binary, binary_of, const_of, not_of, mux_of, select_of, cell_op, target, with_cell, due_cell, shown_next, is_port, next_output, due_shown, due_assignment, has_values, with_next, is_next_update, due_update, due_end, is_none}
use Rattle.ver_text.specs.NamedPorts.{port_place_from}
use Rattle.ver_text.specs.Spelling.{Sign, name_in, register_name, cell_name}
use Rattle.ver_text.specs.TestLaw.{IsRangeIn}
use Rattle.ver_text.proofs.Exact.{lt_of, le_of, eq_of, lt_to, number_is, below_is, range_is, literal_is, cell_is}
use Rattle.ver_text.proofs.CellParts.{celled}
use Rattle.ver_text.proofs.ValueParts.{shown, declared_as, updated}
use Rattle.ver_text.proofs.Constructs.{kinds_same}
use Rattle.ver_text.proofs.Heard as heard
use Rattle.ver_text.proofs.Heard.{plain, named, net_signs, valued, assigned_signs, update_signs}

-- ---- tests

-- what is known where a test holds
pub record Held (b : Bool) (p q : Progress) : Type 0 where
  pub holds : b ≡ true
  pub same : p ≡ q

pub held : (b : Bool) (p q : Progress) → cond b (Some p) None ≡ Some q → Held b p q
held true p q e = record { holds = refl; same = cc }
held false p q e = cc

pub record Guarded (b : Bool) (o : Option Progress) (q : Progress) : Type 0 where
  pub holds : b ≡ true
  pub goes : o ≡ Some q

pub guarded : (b : Bool) (o : Option Progress) (q : Progress) → cond b o None ≡ Some q → Guarded b o q
guarded true o q e = record { holds = refl; goes = e }
guarded false o q e = cc

pub record Four (a b c d : Bool) : Type 0 where
  pub first : a ≡ true
  pub second : b ≡ true
  pub third : c ≡ true
  pub fourth : d ≡ true

pub four : (a b c d : Bool) → (a && b && c && d) ≡ true → Four a b c d
four true true true true h = record { first = refl; second = refl; third = refl; fourth = refl }
four _ _ _ _ h = cc

-- ---- names of nets

-- what a net is called among these inputs, where so many nets aren't cells'
abbrev pub called : List Port → ℕ → ℕ → List ℕ
called ins sources x = name_in (slice_get ins x) sources x

-- a name is that of a net
pub record Refers (p : Progress) (name : List ℕ) (x : ℕ) : Type 0 where
  pub same : name ≡ called p.inputs p.sources x
  pub within : x < length p.widths

letter_by : (b : Bool) (c letter n : ℕ) (cs : List ℕ) → (c == letter) ≡ b → cond b (written_number cs) None ≡ Some n → c ∷ cs ≡ letter ∷ decimal n
letter_by true c letter n cs t e = ap (λ x. x ∷ cs) (eq_of c letter t) ∙ ap (λ xs. letter ∷ xs) (number_is cs n e).1
letter_by false c letter n cs t e = cc

letter_is : (letter n : ℕ) (name : List ℕ) → numbered letter name ≡ Some n → name ≡ letter ∷ decimal n
letter_is letter n [] e = cc
letter_is letter n (c ∷ cs) e = letter_by (c == letter) c letter n cs refl e

pub numbered_so : (letter n : ℕ) (name : List ℕ) → is_numbered letter n name ≡ true → name ≡ letter ∷ decimal n
numbered_so letter n [] e = cc
numbered_so letter n (c ∷ cs) e =
    let h = both (c == letter) (bytes_eq cs (decimal n)) e in
    ap (λ x. x ∷ cs) (eq_of c letter h.0) ∙ ap (λ xs. letter ∷ xs) ((bytes_eq-Decides cs (decimal n)).0 h.1)

none_beyond : (ports : List Port) (k : ℕ) → length ports ≤ k → slice_get ports k ≡ None
none_beyond [] k h = refl
none_beyond (p ∷ ps) zero h = absurd (omega arith)
none_beyond (p ∷ ps) (suc k) h = let l : length ps ≤ k = omega arith in none_beyond ps k l

record Within (first end n x : ℕ) : Type 0 where
  pub same : n ≡ x
  pub low : first ≤ x
  pub high : x < end

within_by : (b : Bool) (n x : ℕ) → cond b (Some n) None ≡ Some x → (b ≡ true) × (n ≡ x)
within_by true n x e = (refl, cc)
within_by false n x e = cc

within_of : (first end n x : ℕ) → if_within first end n ≡ Some x → Within first end n x
within_of first end n x e =
    let h = within_by (nat_le first n && nat_lt n end) n x e in
    let b = both (nat_le first n) (nat_lt n end) h.0 in
    record { same = h.1; low = subst (λ y. first ≤ y) h.1 (le_of first n b.0); high = subst (λ y. y < end) h.1 (lt_of n end b.1) }

not_less : (x n : ℕ) → n ≤ x → nat_lt x n ≡ false
not_less x n h = grind (arith, nat_tests)

register_called : (p : Progress) (x : ℕ) → length p.inputs ≤ x → x < p.sources → called p.inputs p.sources x ≡ register_name x
register_called p x h l = rw (none_beyond p.inputs x h) (rw (lt_to x p.sources l) refl)

cell_called : (p : Progress) (x : ℕ) → length p.inputs ≤ x → p.sources ≤ x → called p.inputs p.sources x ≡ cell_name x
cell_called p x h l = rw (none_beyond p.inputs x h) (rw (not_less x p.sources l) refl)

record Placed (ports : List Port) (at : ℕ) (name : List ℕ) (x : ℕ) : Type 0 where
  pub place : ℕ
  pub sum : x ≡ at + place
  pub port : Port
  pub found : slice_get ports place ≡ Some port
  pub same : name ≡ port.name
  pub within : place < length ports

placed_by : (b : Bool) (p : Port) (ps : List Port) (at : ℕ) (name : List ℕ) (x : ℕ) → bytes_eq p.name name ≡ b
    → cond b (Some at) (port_place_from (at + 1) name ps) ≡ Some x
    → (port_place_from (at + 1) name ps ≡ Some x → Placed ps (at + 1) name x) → Placed (p ∷ ps) at name x
placed_by true p ps at name x t e go =
    let same : at ≡ x = cc in
    record { place = 0; sum = omega (arith, same); port = p; found = refl; same = sym ((bytes_eq-Decides p.name name).0 t); within = omega arith }
placed_by false p ps at name x t e go =
    let h = go e in
    record { place = suc h.place; sum = omega (arith, h.sum); port = h.port; found = h.found; same = h.same; within = omega (arith, h.within) }

placed : (ports : List Port) (at : ℕ) (name : List ℕ) (x : ℕ) → port_place_from at name ports ≡ Some x → Placed ports at name x
placed [] at name x e = cc
placed (p ∷ ps) at name x e = placed_by (bytes_eq p.name name) p ps at name x refl e (placed ps (at + 1) name x)

port_refers : (p : Progress) (name : List ℕ) (x : ℕ) → length p.inputs ≤ length p.widths → port_place_from 0 name p.inputs ≡ Some x → Refers p name x
port_refers p name x l e =
    let h = placed p.inputs 0 name x e in
    let same : h.place ≡ x = omega (arith, h.sum) in
    let found : slice_get p.inputs x ≡ Some h.port = ap (slice_get p.inputs) (sym same) ∙ h.found in
    record { same = h.same ∙ sym (ap (λ o. name_in o p.sources x) found); within = omega (arith, h.within, same, l) }

cell_refers : (p : Progress) (name : List ℕ) (x : ℕ) (o : Option ℕ) → numbered 119 name ≡ o → length p.inputs ≤ p.sources → p.sources ≤ length p.widths
    → cell_named p name o ≡ Some x → Refers p name x
cell_refers p name x None n h l e = port_refers p name x (omega arith) e
cell_refers p name x (Some number) n h l e =
    let w = within_of p.sources (length p.widths) number x e in
    let s : p.sources ≤ x = w.low in
    record { same = letter_is 119 number name n ∙ (ap cell_name w.same ∙ sym (cell_called p x (omega arith) s)); within = w.high }

register_refers : (p : Progress) (name : List ℕ) (x : ℕ) (o : Option ℕ) → numbered 114 name ≡ o → length p.inputs ≤ p.sources → p.sources ≤ length p.widths
    → register_named p name o ≡ Some x → Refers p name x
register_refers p name x None n h l e = cell_refers p name x (numbered 119 name) refl h l e
register_refers p name x (Some number) n h l e =
    let w = within_of (length p.inputs) p.sources number x e in
    let s : x < p.sources = w.high in
    record { same = letter_is 114 number name n ∙ (ap register_name w.same ∙ sym (register_called p x w.low s)); within = omega arith }

pub refers : (p : Progress) (name : List ℕ) (x : ℕ) → length p.inputs ≤ p.sources → p.sources ≤ length p.widths → net_named p name ≡ Some x → Refers p name x
unfolding net_named
refers p name x h l e = register_refers p name x (numbered 114 name) refl h l e

-- ---- registers and the nets of cells

pub record RegTaken (p after : Progress) (high low name : List ℕ) : Type 0 where
  pub width : ℕ
  pub takes : takes_registers p ≡ true
  pub wide : IsWidth width
  pub signs : net_signs kind.Reg high low name ≡ net_signs kind.Reg (decimal (width - 1)) (codes "0") (register_name (length p.widths))
  pub same : record p { widths = p.widths ++ width ∷ []; sources = p.sources + 1; next_cell = p.next_cell + 1 } ≡ after

ranged : (what : Kind) (high low name h l n : List ℕ) → high ≡ h → low ≡ l → name ≡ n → net_signs what high low name ≡ net_signs what h l n
ranged what high low name h l n a b c = ap (λ x. net_signs what x low name) a ∙ (ap (λ x. net_signs what h x name) b ∙ ap (λ x. net_signs what h l x) c)

reg_by : (p after : Progress) (high low name : List ℕ) (o : Option ℕ) → width_of high low ≡ o → due_register p name o ≡ Some after → RegTaken p after high low name
reg_by p after high low name None w e = cc
reg_by p after high low name (Some width) w e =
    let h = held (takes_registers p && is_numbered 114 (length p.widths) name)
    (record p { widths = p.widths ++ width ∷ []; sources = p.sources + 1; next_cell = p.next_cell + 1 }) after e in
    let b = both (takes_registers p) (is_numbered 114 (length p.widths) name) h.holds in
    let r : IsRangeIn high low width = range_is high low width w in
    record {
      width = width;
      takes = b.0;
      wide = r.0;
      signs = ranged kind.Reg high low name (decimal (width - 1)) (codes "0") (register_name (length p.widths)) r.1 r.2 (numbered_so 114 (length p.widths) name b.1);
      same = h.same;
    }

pub reg_taken : (p after : Progress) (high low name : List ℕ) → due_register p name (width_of high low) ≡ Some after → RegTaken p after high low name
reg_taken p after high low name e = reg_by p after high low name (width_of high low) refl e

pub record WireTaken (p after : Progress) (high low name : List ℕ) : Type 0 where
  pub width : ℕ
  pub takes : takes_wires p ≡ true
  pub wide : IsWidth width
  pub signs : net_signs kind.Wire high low name ≡ net_signs kind.Wire (decimal (width - 1)) (codes "0") (cell_name (length p.widths))
  pub same : record p { widths = p.widths ++ width ∷ [] } ≡ after

wire_by : (p after : Progress) (high low name : List ℕ) (o : Option ℕ) → width_of high low ≡ o → due_wire p name o ≡ Some after → WireTaken p after high low name
wire_by p after high low name None w e = cc
wire_by p after high low name (Some width) w e =
    let h = held (takes_wires p && is_numbered 119 (length p.widths) name) (record p { widths = p.widths ++ width ∷ [] }) after e in
    let b = both (takes_wires p) (is_numbered 119 (length p.widths) name) h.holds in
    let r : IsRangeIn high low width = range_is high low width w in
    record {
      width = width;
      takes = b.0;
      wide = r.0;
      signs = ranged kind.Wire high low name (decimal (width - 1)) (codes "0") (cell_name (length p.widths)) r.1 r.2 (numbered_so 119 (length p.widths) name b.1);
      same = h.same;
    }

pub wire_taken : (p after : Progress) (high low name : List ℕ) → due_wire p name (width_of high low) ≡ Some after → WireTaken p after high low name
wire_taken p after high low name e = wire_by p after high low name (width_of high low) refl e

-- ---- the operators of cells

const_is : (P : CellOp → Type 0) (v : Option ℕ) (o : CellOp) → const_of v ≡ Some o → ((n : ℕ) → v ≡ Some n → P (op.Const n)) → P o
const_is P None o e go = cc
const_is P (Some n) o e go = let same : op.Const n ≡ o = cc in subst P same (go n refl)

not_is : (P : CellOp → Type 0) (x : Option ℕ) (o : CellOp) → not_of x ≡ Some o → ((m : ℕ) → x ≡ Some m → P (op.Not m)) → P o
not_is P None o e go = cc
not_is P (Some m) o e go = let same : op.Not m ≡ o = cc in subst P same (go m refl)

mux_is : (P : CellOp → Type 0) (c x y : Option ℕ) (o : CellOp) → mux_of c x y ≡ Some o
    → ((k m n : ℕ) → c ≡ Some k → x ≡ Some m → y ≡ Some n → P (op.Mux k m n)) → P o
mux_is P None x y o e go = cc
mux_is P (Some k) None y o e go = cc
mux_is P (Some k) (Some m) None o e go = cc
mux_is P (Some k) (Some m) (Some n) o e go = let same : op.Mux k m n ≡ o = cc in subst P same (go k m n refl refl refl)

select_is : (P : CellOp → Type 0) (x hi lo : Option ℕ) (o : CellOp) → select_of x hi lo ≡ Some o
    → ((k m n : ℕ) → x ≡ Some k → hi ≡ Some m → lo ≡ Some n → P (op.Select k m n)) → P o
select_is P None hi lo o e go = cc
select_is P (Some k) None lo o e go = cc
select_is P (Some k) (Some m) None o e go = cc
select_is P (Some k) (Some m) (Some n) o e go = let same : op.Select k m n ≡ o = cc in subst P same (go k m n refl refl refl)

binary_is : (P : CellOp → Type 0) (make : ℕ → ℕ → CellOp) (form : Kind) (x y : Option ℕ) (o : CellOp) → ((m n : ℕ) → binary form m n ≡ Some (make m n))
    → binary_of form x y ≡ Some o → ((m n : ℕ) → x ≡ Some m → y ≡ Some n → P (make m n)) → P o
binary_is P make form None y o t e go = cc
binary_is P make form (Some m) None o t e go = cc
binary_is P make form (Some m) (Some n) o t e go =
    let s : Some (make m n) ≡ Some o = sym (t m n) ∙ e in
    let same : make m n ≡ o = cc in
    subst P same (go m n refl refl)

no_binary : (form : Kind) (x y : Option ℕ) (o : CellOp) → ((m n : ℕ) → binary form m n ≡ None) → binary_of form x y ≡ Some o → ⊥
no_binary form None y o t e = cc
no_binary form (Some m) None o t e = cc
no_binary form (Some m) (Some n) o t e = let s : None ≡ Some o = sym (t m n) ∙ e in cc

-- an expression's tokens, by what nets are called
abbrev pub expressed : (ℕ → List ℕ) → ℕ → CellOp → List Sign
expressed call width (op.Const value) = record { kind = kind.Literal; word = literal width value } ∷ []
expressed call width (op.Not x) = plain kind.Tilde ∷ named (call x) ∷ []
expressed call width (op.And x y) = named (call x) ∷ plain kind.And ∷ named (call y) ∷ []
expressed call width (op.Or x y) = named (call x) ∷ plain kind.Or ∷ named (call y) ∷ []
expressed call width (op.Xor x y) = named (call x) ∷ plain kind.Xor ∷ named (call y) ∷ []
expressed call width (op.Add x y) = named (call x) ∷ plain kind.Plus ∷ named (call y) ∷ []
expressed call width (op.Sub x y) = named (call x) ∷ plain kind.Minus ∷ named (call y) ∷ []
expressed call width (op.Eq x y) = named (call x) ∷ plain kind.Equal ∷ named (call y) ∷ []
expressed call width (op.Less x y) = named (call x) ∷ plain kind.Less ∷ named (call y) ∷ []
expressed call width (op.Mux c x y) = named (call c) ∷ plain kind.Question ∷ named (call x) ∷ plain kind.Colon ∷ named (call y) ∷ []
expressed call width (op.Concat x y) = plain kind.OpenBrace ∷ named (call x) ∷ plain kind.Comma ∷ named (call y) ∷ plain kind.CloseBrace ∷ []
expressed call width (op.Select x hi lo) =
    named (call x) ∷ plain kind.OpenBracket ∷ heard.numbered (decimal hi) ∷ plain kind.Colon ∷ heard.numbered (decimal lo) ∷ plain kind.CloseBracket ∷ []

abbrev pub calls : Progress → ℕ → List ℕ
calls p = called p.inputs p.sources

two : (f : List ℕ → List ℕ → List Sign) (a b c d : List ℕ) → a ≡ c → b ≡ d → f a b ≡ f c d
two f a b c d e h = ap (λ x. f x b) e ∙ ap (λ x. f c x) h

three : (f : List ℕ → List ℕ → List ℕ → List Sign) (a b c x y z : List ℕ) → a ≡ x → b ≡ y → c ≡ z → f a b c ≡ f x y z
three f a b c x y z e h k = ap (λ w. f w b c) e ∙ (ap (λ w. f x w c) h ∙ ap (λ w. f x y w) k)

small : (limit n : ℕ) (text : List ℕ) → number_below limit text ≡ Some n → text ≡ decimal n
small limit n text e = (number_is text n (below_is limit n text e).0).1

both_called : (p : Progress) (o : CellOp) (make : ℕ → ℕ → CellOp) (form : Kind) (f : List ℕ → List ℕ → List Sign) (width : ℕ) (second last : List ℕ)
    → length p.inputs ≤ p.sources → p.sources ≤ length p.widths → ((m n : ℕ) → binary form m n ≡ Some (make m n))
    → ((m n : ℕ) → f (calls p m) (calls p n) ≡ expressed (calls p) width (make m n))
    → binary_of form (net_named p second) (net_named p last) ≡ Some o → f second last ≡ expressed (calls p) width o
both_called p o make form f width second last h l t s e =
    binary_is (λ x. f second last ≡ expressed (calls p) width x) make form (net_named p second) (net_named p last) o t e
    (λ m n a b. two f second last (calls p m) (calls p n) (refers p second m h l a).same (refers p last n h l b).same ∙ s m n)

pub meant : (form : Kind) (p : Progress) (width : ℕ) (third second last : List ℕ) (o : CellOp) → length p.inputs ≤ p.sources → p.sources ≤ length p.widths
    → cell_op p width form third second last ≡ Some o → valued form third second last ≡ expressed (calls p) width o
unfolding cell_op
meant kind.Literal p width third second last o h l e =
    const_is (λ x. valued kind.Literal third second last ≡ expressed (calls p) width x) (literal_of width last) o e
    (λ n a. ap (λ w. record { kind = kind.Literal; word = w } ∷ []) (literal_is width n last a))
meant kind.Tilde p width third second last o h l e =
    not_is (λ x. valued kind.Tilde third second last ≡ expressed (calls p) width x) (net_named p last) o e
    (λ m a. ap (λ w. plain kind.Tilde ∷ named w ∷ []) (refers p last m h l a).same)
meant kind.Question p width third second last o h l e =
    mux_is (λ x. valued kind.Question third second last ≡ expressed (calls p) width x) (net_named p third) (net_named p second) (net_named p last) o e
    (λ k m n a b c. three (valued kind.Question) third second last (calls p k) (calls p m) (calls p n)
    (refers p third k h l a).same (refers p second m h l b).same (refers p last n h l c).same)
meant kind.OpenBracket p width third second last o h l e =
    select_is (λ x. valued kind.OpenBracket third second last ≡ expressed (calls p) width x) (net_named p third) (number_below 64 second) (number_below 64 last) o e
    (λ k m n a b c. three (valued kind.OpenBracket) third second last (calls p k) (decimal m) (decimal n)
    (refers p third k h l a).same (small 64 m second b) (small 64 n last c))
meant kind.And p width third second last o h l e =
    both_called p o op.And kind.And (valued kind.And third) width second last h l (λ m n. refl) (λ m n. refl) e
meant kind.Or p width third second last o h l e =
    both_called p o op.Or kind.Or (valued kind.Or third) width second last h l (λ m n. refl) (λ m n. refl) e
meant kind.Xor p width third second last o h l e =
    both_called p o op.Xor kind.Xor (valued kind.Xor third) width second last h l (λ m n. refl) (λ m n. refl) e
meant kind.Plus p width third second last o h l e =
    both_called p o op.Add kind.Plus (valued kind.Plus third) width second last h l (λ m n. refl) (λ m n. refl) e
meant kind.Minus p width third second last o h l e =
    both_called p o op.Sub kind.Minus (valued kind.Minus third) width second last h l (λ m n. refl) (λ m n. refl) e
meant kind.Equal p width third second last o h l e =
    both_called p o op.Eq kind.Equal (valued kind.Equal third) width second last h l (λ m n. refl) (λ m n. refl) e
meant kind.Less p width third second last o h l e =
    both_called p o op.Less kind.Less (valued kind.Less third) width second last h l (λ m n. refl) (λ m n. refl) e
meant kind.OpenBrace p width third second last o h l e =
    both_called p o op.Concat kind.OpenBrace (valued kind.OpenBrace third) width second last h l (λ m n. refl) (λ m n. refl) e
meant form p width third second last o h l e = absurd (no_binary form (net_named p second) (net_named p last) o (λ m n. refl) e)

-- ---- the values of cells

abbrev pub cell_signs : (ℕ → List ℕ) → ℕ → Cell → List Sign
cell_signs call number c = assigned_signs (cell_name number) (expressed call c.width c.op)

pub record CellTaken (p after : Progress) (form : Kind) (fourth third second last : List ℕ) : Type 0 where
  pub cell : Cell
  pub room : nat_lt p.next_cell (length p.widths) ≡ true
  pub width : slice_index p.widths p.next_cell ≡ cell.width
  pub «rule» : IsCell p.widths cell.width cell.op
  pub signs : assigned_signs (target form fourth third second) (valued form third second last) ≡ cell_signs (calls p) p.next_cell cell
  pub same : celled p cell ≡ after

joined : (a b : List ℕ) (c d : List Sign) → a ≡ b → c ≡ d → assigned_signs a c ≡ assigned_signs b d
joined a b c d e h = ap (λ x. assigned_signs x c) e ∙ ap (λ x. assigned_signs b x) h

cell_by : (p after : Progress) (form : Kind) (fourth third second last : List ℕ) (width : ℕ) (o : Option CellOp) → slice_index p.widths p.next_cell ≡ width
    → cell_op p width form third second last ≡ o
    → length p.inputs ≤ p.sources → p.sources ≤ length p.widths → nat_lt p.next_cell (length p.widths) ≡ true
    → is_numbered 119 p.next_cell (target form fourth third second) ≡ true → with_cell p width o ≡ Some after
    → CellTaken p after form fourth third second last
cell_by p after form fourth third second last width None w c h l r t e = cc
cell_by p after form fourth third second last width (Some o) w c h l r t e =
    let k = held (is_cell p.widths width o) (celled p (record { width = width; op = o })) after e in
    record {
      cell = record { width = width; op = o };
      room = r;
      width = w;
      «rule» = cell_is p.widths width o k.holds;
      signs = joined (target form fourth third second) (cell_name p.next_cell) (valued form third second last) (expressed (calls p) width o)
          (numbered_so 119 p.next_cell (target form fourth third second) t) (meant form p width third second last o h l c);
      same = k.same;
    }

cell_taken : (p after : Progress) (form : Kind) (fourth third second last : List ℕ) → length p.inputs ≤ p.sources → p.sources ≤ length p.widths
    → nat_lt p.next_cell (length p.widths) ≡ true → due_cell p form fourth third second last ≡ Some after → CellTaken p after form fourth third second last
unfolding due_cell
cell_taken p after form fourth third second last h l r e =
    let width : ℕ = slice_index p.widths p.next_cell in
    let g = guarded (is_numbered 119 p.next_cell (target form fourth third second)) (with_cell p width (cell_op p width form third second last)) after e in
    cell_by p after form fourth third second last width (cell_op p width form third second last) refl refl h l r g.holds g.goes

-- ---- the nets of outputs

pub record ShownTaken (p after : Progress) (form : Kind) (fourth third second last : List ℕ) : Type 0 where
  pub out : OutPort
  pub none : nat_lt p.next_cell (length p.widths) ≡ false
  pub found : slice_get p.declared (length p.outputs) ≡ Some (declared_as p.widths out)
  pub within : out.net < length p.widths
  pub signs : assigned_signs (target form fourth third second) (valued form third second last) ≡ assigned_signs out.name (named (calls p out.net) ∷ [])
  pub same : shown p out ≡ after

shown_by : (p after : Progress) (fourth third second last : List ℕ) (o : Option Port) (net : Option ℕ) → slice_get p.declared (length p.outputs) ≡ o → net_named p last ≡ net
    → length p.inputs ≤ p.sources → p.sources ≤ length p.widths → nat_lt p.next_cell (length p.widths) ≡ false → is_port o second ≡ true → shown_next p o net ≡ Some after
    → ShownTaken p after kind.Semicolon fourth third second last
shown_by p after fourth third second last None net f t h l n i e = cc
shown_by p after fourth third second last (Some port) None f t h l n i e = cc
shown_by p after fourth third second last (Some port) (Some net) f t h l n i e =
    let k = held (slice_index p.widths net == port.width) (shown p (record { name = port.name; net = net })) after e in
    let r = refers p last net h l t in
    record {
      out = record { name = port.name; net = net };
      none = n;
      found = f ∙ ap (λ (w : ℕ). Some (record { name = port.name; width = w })) (sym (eq_of (slice_index p.widths net) port.width k.holds));
      within = r.within;
      signs = joined second port.name (named last ∷ []) (named (calls p net) ∷ []) (sym ((bytes_eq-Decides port.name second).0 i)) (ap (λ w. named w ∷ []) r.same);
      same = k.same;
    }

shown_taken : (p after : Progress) (form : Kind) (fourth third second last : List ℕ) → length p.inputs ≤ p.sources → p.sources ≤ length p.widths
    → nat_lt p.next_cell (length p.widths) ≡ false → due_shown p form second last ≡ Some after → ShownTaken p after form fourth third second last
unfolding due_shown
shown_taken p after form fourth third second last h l n e =
    let g = guarded (same_kind form kind.Semicolon && is_port (next_output p) second) (shown_next p (next_output p) (net_named p last)) after e in
    let b = both (same_kind form kind.Semicolon) (is_port (next_output p) second) g.holds in
    subst (λ k. ShownTaken p after k fourth third second last) (sym (kinds_same form kind.Semicolon b.0))
    (shown_by p after fourth third second last (slice_get p.declared (length p.outputs)) (net_named p last) refl refl h l n b.1 g.goes)

value_by : (P : Type 0) (b : Bool) (p after : Progress) (form : Kind) (fourth third second last : List ℕ) → nat_lt p.next_cell (length p.widths) ≡ b
    → length p.inputs ≤ p.sources → p.sources ≤ length p.widths → cond b (due_cell p form fourth third second last) (due_shown p form second last) ≡ Some after
    → (CellTaken p after form fourth third second last → P) → (ShownTaken p after form fourth third second last → P) → P
value_by P true p after form fourth third second last t h l e c s = c (cell_taken p after form fourth third second last h l t e)
value_by P false p after form fourth third second last t h l e c s = s (shown_taken p after form fourth third second last h l t e)

-- a value is the next cell's or, behind those, the next output's
pub value_taken : (P : Type 0) (p after : Progress) (form : Kind) (fourth third second last : List ℕ) → length p.inputs ≤ p.sources → p.sources ≤ length p.widths
    → due_assignment p form fourth third second last ≡ Some after
    → (CellTaken p after form fourth third second last → P) → (ShownTaken p after form fourth third second last → P) → P
unfolding due_assignment
value_taken P p after form fourth third second last h l e c s =
    value_by P (nat_lt p.next_cell (length p.widths)) p after form fourth third second last refl h l e c s

-- ---- the next nets of registers, and the end

pub record UpdateTaken (p after : Progress) (clock register next : List ℕ) : Type 0 where
  pub reg : Reg
  pub values : has_values p ≡ true
  pub room : p.next_register < p.sources
  pub width : slice_index p.widths p.next_register ≡ reg.width
  pub has : HasWidth p.widths reg.next reg.width
  pub signs : update_signs clock register next ≡ update_signs (codes "clock") (register_name p.next_register) (calls p reg.next)
  pub same : updated p reg ≡ after

update_by : (p after : Progress) (clock register next : List ℕ) (net : Option ℕ) → net_named p next ≡ net → length p.inputs ≤ p.sources → p.sources ≤ length p.widths
    → is_next_update p clock register ≡ true → with_next p net ≡ Some after → UpdateTaken p after clock register next
update_by p after clock register next None t h l i e = cc
update_by p after clock register next (Some net) t h l i e =
    let width : ℕ = slice_index p.widths p.next_register in
    let k = held (slice_index p.widths net == width) (updated p (record { width = width; next = net })) after e in
    let f = four (has_values p) (nat_lt p.next_register p.sources) (bytes_eq clock (codes "clock")) (is_numbered 114 p.next_register register) i in
    let r = refers p next net h l t in
    record {
      reg = record { width = width; next = net };
      values = f.first;
      room = lt_of p.next_register p.sources f.second;
      width = refl;
      has = (r.within, eq_of (slice_index p.widths net) width k.holds);
      signs = three update_signs clock register next (codes "clock") (register_name p.next_register) (calls p net)
          ((bytes_eq-Decides clock (codes "clock")).0 f.third) (numbered_so 114 p.next_register register f.fourth) r.same;
      same = k.same;
    }

pub update_taken : (p after : Progress) (clock register next : List ℕ) → length p.inputs ≤ p.sources → p.sources ≤ length p.widths
    → due_update p clock register next ≡ Some after → UpdateTaken p after clock register next
unfolding due_update
update_taken p after clock register next h l e =
    let g = guarded (is_next_update p clock register) (with_next p (net_named p next)) after e in
    update_by p after clock register next (net_named p next) refl h l g.holds g.goes

pub record EndTaken (p after : Progress) : Type 0 where
  pub values : has_values p ≡ true
  pub all : p.next_register ≡ p.sources
  pub same : p ≡ after

three_true : (a b c : Bool) → (a && b && c) ≡ true → (b ≡ true) × (c ≡ true)
three_true true true true h = (refl, refl)
three_true _ _ _ h = cc

pub end_taken : (p after : Progress) → due_end p ≡ Some after → EndTaken p after
end_taken p after e =
    let h = held (not (is_none p.inputs) && has_values p && (p.next_register == p.sources)) p after e in
    let t = three_true (not (is_none p.inputs)) (has_values p) (p.next_register == p.sources) h.holds in
    record { values = t.0; all = eq_of p.next_register p.sources t.1; same = h.same }
