-- One more part of a text.
use Rattle.std.proofs.Common.{ℕ, ◌≡◌, List, Bool, true, cond, Option, None, refl, ap, sym, ◌∙◌}
use Rattle.std.specs.Prelude.{slice_index}
use Rattle.net_cells.specs.declared.netlist.CellOp.{CellOp}
use Rattle.ver_text.specs.declared.kind.Kind.{Kind}
use Rattle.ver_text.specs.declared.progress.Progress.{Progress}
use Rattle.ver_text.specs.Numerals.{is_numbered}
use Rattle.ver_text.specs.Due.{target, with_cell, cell_op, due_cell}

due_when : {A : Type 0} (b : Bool) (x : Option A) → b ≡ true → x ≡ cond b x None
due_when b x e = rw e refl

pub cell_due : (p : Progress) (form : Kind) (fourth third second last name : List ℕ) (width : ℕ) (o : Option CellOp) (is : Bool)
    → name ≡ target form fourth third second → is ≡ is_numbered 119 p.next_cell name → is ≡ true → width ≡ slice_index p.widths p.next_cell
    → o ≡ cell_op p width form third second last → with_cell p width o ≡ due_cell p form fourth third second last
unfolding due_cell
cell_due p form fourth third second last name width o is n i t w e =
    let named : is_numbered 119 p.next_cell (target form fourth third second) ≡ true = ap (is_numbered 119 p.next_cell) (sym n) ∙ (sym i ∙ t) in
    let value : with_cell p width o ≡ with_cell p (slice_index p.widths p.next_cell) (cell_op p (slice_index p.widths p.next_cell) form third second last) =
    ap (with_cell p width) e ∙ ap (λ x. with_cell p x (cell_op p x form third second last)) w in
    value ∙ due_when (is_numbered 119 p.next_cell (target form fourth third second)) _ named
