-- The values of cells are read one after another.
use Rattle.std.proofs.Common.{ℕ, zero, suc, ◌≡◌, ◌+◌, ◌^◌, ◌<◌, ◌≤◌, List, [], ◌∷◌, ◌++◌, length, drop, map, true, Some, refl, ap, sym, subst, ◌∙◌, append_assoc, arith}
use Rattle.std.specs.Prelude.{decimal, slice_get, slice_index}
use Rattle.std.specs.List.{AllByRecursion}
use Rattle.std.proofs.lemmas.List.{append-nil}
use Rattle.net_cells.specs.declared.netlist.Cell.{Cell}
use Rattle.net_cells.specs.declared.netlist.CellOp.{CellOp}
use Rattle.net_cells.specs.declared.netlist.CellOp.TheVariants.{Const, Not, And, Or, Xor, Add, Sub, Eq, Less, Mux, Concat, Select}
use Rattle.net_cells.specs.declared.netlist.Netlist.{Netlist}
use Rattle.net_cells.specs.Rules.{IsCell, IsWidth, sources}
use Rattle.ver_text.specs.declared.kind.Kind.{Kind}
use Rattle.ver_text.specs.declared.kind.Kind.TheVariants as kind
use Rattle.ver_text.specs.declared.kind.Rule.TheVariants as rule
use Rattle.ver_text.specs.declared.progress.Progress.{Progress}
use Rattle.ver_text.specs.Numerals.{is_numbered, literal}
use Rattle.ver_text.specs.Fits.{is_cell}
use Rattle.ver_text.specs.Due.{due_by, due_assignment, due_cell, cell_op, target, net_named}
use Rattle.ver_text.specs.Spelling as spec
use Rattle.ver_text.specs.Spelling.{Sign, signs, part_signs, net_name, name_in, cell_name, expression, assignment}
use Rattle.ver_text.proofs.Signs.{Seen, said}
use Rattle.ver_text.proofs.Segments.{Boundary, literal_said, not_said, and_said, or_said, xor_said, plus_said, minus_said, equal_said, less_said, mux_said, concat_said, select_said}
use Rattle.ver_text.proofs.Readback.{below_read, numbered_is}
use Rattle.ver_text.proofs.Exact.{lt_to, cell_in}
use Rattle.ver_text.proofs.Groups.{said_same}
use Rattle.ver_text.proofs.NetNames.{Distinct, Unnumbered, net_read}
use Rattle.ver_text.proofs.Literals.{literal_read}

-- What was read fits a netlist: the names of its nets are read as their numbers.
pub record Ready (n : Netlist) (p : Progress) : Type 0 where
  pub inputs : p.inputs ≡ n.inputs
  pub sourced : p.sources ≡ sources n
  pub unnumbered : AllByRecursion Unnumbered p.inputs
  pub distinct : Distinct p.inputs
  pub few : length p.widths < 2 ^ 64
  pub sized : (x : ℕ) → x < length p.widths → IsWidth (slice_index p.widths x)

pub operand : (n : Netlist) (p : Progress) (x : ℕ) → Ready n p → x < length p.widths → net_named p (net_name n x) ≡ Some x
operand n p x r l =
    ap (λ ports. net_named p (name_in (slice_get ports x) (sources n) x)) (sym r.inputs)
    ∙ (ap (λ s. net_named p (name_in (slice_get p.inputs x) s x)) (sym r.sourced) ∙ net_read p x r.unnumbered r.distinct l r.few)

-- what is known after the value of another cell
abbrev pub celled : Progress → Cell → Progress
celled p c = record p { cells = p.cells ++ c ∷ []; next_cell = p.next_cell + 1 }

cell_taken : (p : Progress) (form : Kind) (fourth third second last : List ℕ) (c : Cell) → p.next_cell < length p.widths
    → target form fourth third second ≡ cell_name p.next_cell → slice_index p.widths p.next_cell ≡ c.width
    → cell_op p c.width form third second last ≡ Some c.op → is_cell p.widths c.width c.op ≡ true
    → due_by p kind.Assign form fourth third second last ≡ Some (celled p c)
unfolding due_by due_assignment due_cell
cell_taken p form fourth third second last c l t w o h =
    let named : is_numbered 119 p.next_cell (target form fourth third second) ≡ true = ap (is_numbered 119 p.next_cell) t ∙ numbered_is 119 p.next_cell p.next_cell refl in
    rw (lt_to p.next_cell (length p.widths) l) (rw named (rw w (rw o (rw h refl))))

binary_read : (n : Netlist) (p : Progress) (width x y : ℕ) → Ready n p → x < length p.widths → y < length p.widths
    → (net_named p (net_name n x) ≡ Some x) × (net_named p (net_name n y) ≡ Some y)
binary_read n p width x y r l m = (operand n p x r l, operand n p y r m)

-- the operator of each expression
const_op : (p : Progress) (width value : ℕ) (t s : List ℕ) → value < 2 ^ width → width ≤ 64 → cell_op p width kind.Literal t s (literal width value) ≡ Some (Const value)
unfolding cell_op
const_op p width value t s h l = rw (literal_read width value h l) refl

not_op : (n : Netlist) (p : Progress) (width x : ℕ) (t s : List ℕ) → Ready n p → x < length p.widths → cell_op p width kind.Tilde t s (net_name n x) ≡ Some (Not x)
unfolding cell_op
not_op n p width x t s r l = rw (operand n p x r l) refl

mux_op : (n : Netlist) (p : Progress) (width c x y : ℕ) → Ready n p → c < length p.widths → x < length p.widths → y < length p.widths
    → cell_op p width kind.Question (net_name n c) (net_name n x) (net_name n y) ≡ Some (Mux c x y)
unfolding cell_op
mux_op n p width c x y r k l m = rw (operand n p c r k) (rw (operand n p x r l) (rw (operand n p y r m) refl))

select_op : (n : Netlist) (p : Progress) (width x hi lo : ℕ) → Ready n p → x < length p.widths → hi < 64 → lo < 64
    → cell_op p width kind.OpenBracket (net_name n x) (decimal hi) (decimal lo) ≡ Some (Select x hi lo)
unfolding cell_op
select_op n p width x hi lo r l h k = rw (operand n p x r l) (rw (below_read 64 hi h (omega arith)) (rw (below_read 64 lo k (omega arith)) refl))

and_op : (n : Netlist) (p : Progress) (width x y : ℕ) (t : List ℕ) → Ready n p → x < length p.widths → y < length p.widths
    → cell_op p width kind.And t (net_name n x) (net_name n y) ≡ Some (And x y)
unfolding cell_op
and_op n p width x y t r l m = rw (operand n p x r l) (rw (operand n p y r m) refl)

or_op : (n : Netlist) (p : Progress) (width x y : ℕ) (t : List ℕ) → Ready n p → x < length p.widths → y < length p.widths
    → cell_op p width kind.Or t (net_name n x) (net_name n y) ≡ Some (Or x y)
unfolding cell_op
or_op n p width x y t r l m = rw (operand n p x r l) (rw (operand n p y r m) refl)

xor_op : (n : Netlist) (p : Progress) (width x y : ℕ) (t : List ℕ) → Ready n p → x < length p.widths → y < length p.widths
    → cell_op p width kind.Xor t (net_name n x) (net_name n y) ≡ Some (Xor x y)
unfolding cell_op
xor_op n p width x y t r l m = rw (operand n p x r l) (rw (operand n p y r m) refl)

plus_op : (n : Netlist) (p : Progress) (width x y : ℕ) (t : List ℕ) → Ready n p → x < length p.widths → y < length p.widths
    → cell_op p width kind.Plus t (net_name n x) (net_name n y) ≡ Some (Add x y)
unfolding cell_op
plus_op n p width x y t r l m = rw (operand n p x r l) (rw (operand n p y r m) refl)

minus_op : (n : Netlist) (p : Progress) (width x y : ℕ) (t : List ℕ) → Ready n p → x < length p.widths → y < length p.widths
    → cell_op p width kind.Minus t (net_name n x) (net_name n y) ≡ Some (Sub x y)
unfolding cell_op
minus_op n p width x y t r l m = rw (operand n p x r l) (rw (operand n p y r m) refl)

equal_op : (n : Netlist) (p : Progress) (width x y : ℕ) (t : List ℕ) → Ready n p → x < length p.widths → y < length p.widths
    → cell_op p width kind.Equal t (net_name n x) (net_name n y) ≡ Some (Eq x y)
unfolding cell_op
equal_op n p width x y t r l m = rw (operand n p x r l) (rw (operand n p y r m) refl)

less_op : (n : Netlist) (p : Progress) (width x y : ℕ) (t : List ℕ) → Ready n p → x < length p.widths → y < length p.widths
    → cell_op p width kind.Less t (net_name n x) (net_name n y) ≡ Some (Less x y)
unfolding cell_op
less_op n p width x y t r l m = rw (operand n p x r l) (rw (operand n p y r m) refl)

concat_op : (n : Netlist) (p : Progress) (width x y : ℕ) (t : List ℕ) → Ready n p → x < length p.widths → y < length p.widths
    → cell_op p width kind.OpenBrace t (net_name n x) (net_name n y) ≡ Some (Concat x y)
unfolding cell_op
concat_op n p width x y t r l m = rw (operand n p x r l) (rw (operand n p y r m) refl)

width_most : (n : Netlist) (p : Progress) (width : ℕ) → Ready n p → p.next_cell < length p.widths → slice_index p.widths p.next_cell ≡ width → width ≤ 64
width_most n p width r h w = subst (λ x. x ≤ 64) w (r.sized p.next_cell h).1

hi_small : (n : Netlist) (p : Progress) (x hi : ℕ) → Ready n p → x < length p.widths → hi < slice_index p.widths x → hi < 64
hi_small n p x hi r l h = let m : slice_index p.widths x ≤ 64 = (r.sized x l).1 in omega arith

lo_small : (n : Netlist) (p : Progress) (x hi lo : ℕ) → Ready n p → x < length p.widths → hi < slice_index p.widths x → lo ≤ hi → lo < 64
lo_small n p x hi lo r l h k = let m : slice_index p.widths x ≤ 64 = (r.sized x l).1 in omega arith

-- one cell
abbrev Goes : Progress → Seen → List Sign → Progress → Type 0
Goes p a rest q = (b : Seen) → Boundary b rule.Item → said p b rest ≡ Some q

cell_by : (o : CellOp) (n : Netlist) (p : Progress) (a : Seen) (width : ℕ) (rest : List Sign) (q : Progress) → Boundary a rule.Item → Ready n p
    → p.next_cell < length p.widths → slice_index p.widths p.next_cell ≡ width → IsCell p.widths width o
    → Goes (celled p (record { width = width; op = o })) a rest q
    → said p a (signs (assignment (cell_name p.next_cell) (expression n width o)) ++ rest) ≡ Some q
cell_by (Const value) n p a width rest q d r h w i go =
    literal_said p a (cell_name p.next_cell) (literal width value) rest d
    ∙ rw (cell_taken p kind.Literal a.second a.last (cell_name p.next_cell) (literal width value) (record { width = width; op = Const value }) h refl w (const_op p width value a.last (cell_name p.next_cell) i (width_most n p width r h w)) (cell_in p.widths width (Const value) i)) (go _ (record { none = refl; next = refl; open_it = refl }))
cell_by (Not x) n p a width rest q d r h w i go =
    not_said p a (cell_name p.next_cell) (net_name n x) rest d
    ∙ rw (cell_taken p kind.Tilde a.second a.last (cell_name p.next_cell) (net_name n x) (record { width = width; op = Not x }) h refl w (not_op n p width x a.last (cell_name p.next_cell) r i.0) (cell_in p.widths width (Not x) i)) (go _ (record { none = refl; next = refl; open_it = refl }))
cell_by (And x y) n p a width rest q d r h w i go =
    and_said p a (cell_name p.next_cell) (net_name n x) (net_name n y) rest d
    ∙ rw (cell_taken p kind.And a.last (cell_name p.next_cell) (net_name n x) (net_name n y) (record { width = width; op = And x y }) h refl w (and_op n p width x y (cell_name p.next_cell) r i.0.0 i.1.0) (cell_in p.widths width (And x y) i)) (go _ (record { none = refl; next = refl; open_it = refl }))
cell_by (Or x y) n p a width rest q d r h w i go =
    or_said p a (cell_name p.next_cell) (net_name n x) (net_name n y) rest d
    ∙ rw (cell_taken p kind.Or a.last (cell_name p.next_cell) (net_name n x) (net_name n y) (record { width = width; op = Or x y }) h refl w (or_op n p width x y (cell_name p.next_cell) r i.0.0 i.1.0) (cell_in p.widths width (Or x y) i)) (go _ (record { none = refl; next = refl; open_it = refl }))
cell_by (Xor x y) n p a width rest q d r h w i go =
    xor_said p a (cell_name p.next_cell) (net_name n x) (net_name n y) rest d
    ∙ rw (cell_taken p kind.Xor a.last (cell_name p.next_cell) (net_name n x) (net_name n y) (record { width = width; op = Xor x y }) h refl w (xor_op n p width x y (cell_name p.next_cell) r i.0.0 i.1.0) (cell_in p.widths width (Xor x y) i)) (go _ (record { none = refl; next = refl; open_it = refl }))
cell_by (Add x y) n p a width rest q d r h w i go =
    plus_said p a (cell_name p.next_cell) (net_name n x) (net_name n y) rest d
    ∙ rw (cell_taken p kind.Plus a.last (cell_name p.next_cell) (net_name n x) (net_name n y) (record { width = width; op = Add x y }) h refl w (plus_op n p width x y (cell_name p.next_cell) r i.0.0 i.1.0) (cell_in p.widths width (Add x y) i)) (go _ (record { none = refl; next = refl; open_it = refl }))
cell_by (Sub x y) n p a width rest q d r h w i go =
    minus_said p a (cell_name p.next_cell) (net_name n x) (net_name n y) rest d
    ∙ rw (cell_taken p kind.Minus a.last (cell_name p.next_cell) (net_name n x) (net_name n y) (record { width = width; op = Sub x y }) h refl w (minus_op n p width x y (cell_name p.next_cell) r i.0.0 i.1.0) (cell_in p.widths width (Sub x y) i)) (go _ (record { none = refl; next = refl; open_it = refl }))
cell_by (Eq x y) n p a width rest q d r h w i go =
    equal_said p a (cell_name p.next_cell) (net_name n x) (net_name n y) rest d
    ∙ rw (cell_taken p kind.Equal a.last (cell_name p.next_cell) (net_name n x) (net_name n y) (record { width = width; op = Eq x y }) h refl w (equal_op n p width x y (cell_name p.next_cell) r i.1.0 i.1.1) (cell_in p.widths width (Eq x y) i)) (go _ (record { none = refl; next = refl; open_it = refl }))
cell_by (Less x y) n p a width rest q d r h w i go =
    less_said p a (cell_name p.next_cell) (net_name n x) (net_name n y) rest d
    ∙ rw (cell_taken p kind.Less a.last (cell_name p.next_cell) (net_name n x) (net_name n y) (record { width = width; op = Less x y }) h refl w (less_op n p width x y (cell_name p.next_cell) r i.1.0 i.1.1) (cell_in p.widths width (Less x y) i)) (go _ (record { none = refl; next = refl; open_it = refl }))
cell_by (Mux c x y) n p a width rest q d r h w i go =
    mux_said p a (cell_name p.next_cell) (net_name n c) (net_name n x) (net_name n y) rest d
    ∙ rw (cell_taken p kind.Question (cell_name p.next_cell) (net_name n c) (net_name n x) (net_name n y) (record { width = width; op = Mux c x y }) h refl w (mux_op n p width c x y r i.0.0 i.1.0.0 i.1.1.0) (cell_in p.widths width (Mux c x y) i)) (go _ (record { none = refl; next = refl; open_it = refl }))
cell_by (Concat x y) n p a width rest q d r h w i go =
    concat_said p a (cell_name p.next_cell) (net_name n x) (net_name n y) rest d
    ∙ rw (cell_taken p kind.OpenBrace a.last (cell_name p.next_cell) (net_name n x) (net_name n y) (record { width = width; op = Concat x y }) h refl w (concat_op n p width x y (cell_name p.next_cell) r i.0 i.1) (cell_in p.widths width (Concat x y) i)) (go _ (record { none = refl; next = refl; open_it = refl }))
cell_by (Select x hi lo) n p a width rest q d r h w i go =
    select_said p a (cell_name p.next_cell) (net_name n x) hi lo rest d
    ∙ rw (cell_taken p kind.OpenBracket (cell_name p.next_cell) (net_name n x) (decimal hi) (decimal lo) (record { width = width; op = Select x hi lo }) h refl w (select_op n p width x hi lo r i.0 (hi_small n p x hi r i.0 i.1) (lo_small n p x hi lo r i.0 i.1 i.2)) (cell_in p.widths width (Select x hi lo) i)) (go _ (record { none = refl; next = refl; open_it = refl }))

-- ---- all cells

pub front_width : (ws : List ℕ) (k w : ℕ) (rest : List ℕ) → drop k ws ≡ w ∷ rest → (k < length ws) × (slice_index ws k ≡ w) × (drop (k + 1) ws ≡ rest)
front_width [] zero w rest e = cc
front_width [] (suc k) w rest e = cc
front_width (x ∷ xs) zero w rest e = (omega arith, (cc), (cc))
front_width (x ∷ xs) (suc k) w rest e =
    let h = front_width xs k w rest e in
    let n : suc k + 1 ≡ suc (k + 1) = omega arith in
    let l : k < length xs = h.0 in
    (omega arith, h.1, ap (λ m. drop m (x ∷ xs)) n ∙ h.2)

-- what is known after the values of more cells
abbrev pub with_cells : Progress → List Cell → Progress
with_cells p cs = record p { cells = p.cells ++ cs; next_cell = p.next_cell + length cs }

pub no_cells : (p : Progress) → with_cells p [] ≡ p
no_cells p =
    let n : p.next_cell + 0 ≡ p.next_cell = omega arith in
    ap (λ (xs : List Cell). record p { cells = xs; next_cell = p.next_cell + 0 }) (append-nil p.cells) ∙ ap (λ m. record p { next_cell = m }) n

pub more_cells : (p : Progress) (c : Cell) (cs : List Cell) → with_cells p (c ∷ cs) ≡ with_cells (celled p c) cs
more_cells p c cs =
    let n : p.next_cell + suc (length cs) ≡ p.next_cell + 1 + length cs = omega arith in
    ap (λ (xs : List Cell). record p { cells = xs; next_cell = p.next_cell + suc (length cs) }) (sym (append_assoc p.cells (c ∷ []) cs))
    ∙ ap (λ m. record p { cells = p.cells ++ c ∷ [] ++ cs; next_cell = m }) n

pub cells_said : (cs : List Cell) (n : Netlist) (p : Progress) (a : Seen) (rest : List Sign) (q : Progress) → Boundary a rule.Item → Ready n p
    → drop p.next_cell p.widths ≡ map (λ (c : Cell). c.width) cs → AllByRecursion (λ (c : Cell). IsCell p.widths c.width c.op) cs
    → ((b : Seen) → Boundary b rule.Item → said (with_cells p cs) b rest ≡ Some q)
    → said p a (part_signs (spec.cell_values n p.next_cell cs) ++ rest) ≡ Some q
cells_said [] n p a rest q d r e i go = said_same _ _ a rest q (no_cells p) (go a d)
cells_said (c ∷ cs) n p a rest q d r e i go =
    let tail : List Sign = part_signs (spec.cell_values n (p.next_cell + 1) cs) ++ rest in
    let w = front_width p.widths p.next_cell c.width (map (λ (x : Cell). x.width) cs) e in
    ap (λ ss. said p a ss) (append_assoc (signs (assignment (cell_name p.next_cell) (expression n c.width c.op))) (part_signs (spec.cell_values n (p.next_cell + 1) cs)) rest)
    ∙ cell_by c.op n p a c.width tail q d r w.0 w.1 i.0
    (λ b x. cells_said cs n (celled p c) b rest q x
    (record { inputs = r.inputs; sourced = r.sourced; unnumbered = r.unnumbered; distinct = r.distinct; few = r.few; sized = r.sized })
    w.2 i.1 (λ y z. said_same _ _ y rest q (more_cells p c cs) (go y z)))
