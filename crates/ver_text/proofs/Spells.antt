-- The netlist that a text spells is what is read of it.
use Rattle.std.proofs.Common.{ℕ, ◌≡◌, List, [], ◌∷◌, length, map, Some, Result, Ok, refl, ap, sym, subst, ◌∙◌}
use Rattle.std.specs.Prelude.{slice_get}
use Rattle.net_cells.specs.declared.netlist.Port.{Port}
use Rattle.net_cells.specs.declared.netlist.Reg.{Reg}
use Rattle.net_cells.specs.declared.netlist.Cell.{Cell}
use Rattle.net_cells.specs.declared.netlist.OutPort.{OutPort}
use Rattle.net_cells.specs.declared.netlist.Netlist.{Netlist}
use Rattle.ver_text.specs.Tokens.{tokens_from}
use Rattle.ver_text.specs.Parts.{at_start}
use Rattle.ver_text.specs.Due.{at_first}
use Rattle.ver_text.specs.Reading.{read_text, parts_say}
use Rattle.ver_text.specs.TextLaw.{Spells, SpelledIsRead, SpellsOne, sign_of}
use Rattle.ver_text.proofs.Signs.{said, reads, Reads}
use Rattle.ver_text.proofs.Segments.{seen_start}
use Rattle.ver_text.proofs.Spelled.{reset_port, made, final, spelled_said}
use Rattle.ver_text.proofs.Formed.{good}

read_of : (text : List ℕ) (name : List ℕ) (is : List Port) (rs : List Reg) (cs : List Cell) (os : List OutPort)
    → Reads text at_start (tokens_from text 0) (length text) at_first (final name is rs cs os) → read_text text ≡ Ok (made name is rs cs os)
unfolding read_text parts_say
read_of text name is rs cs os r = rw r.syntax_holds (rw r.parts_say refl)

made_read : (text : List ℕ) (name : List ℕ) (is : List Port) (rs : List Reg) (cs : List Cell) (os : List OutPort) → Spells text (made name is rs cs os)
    → read_text text ≡ Ok (made name is rs cs os)
made_read text name is rs cs os s =
    let all : said at_first seen_start (map (sign_of text) (tokens_from text 0)) ≡ Some (final name is rs cs os) =
    ap (said at_first seen_start) s.signs ∙ spelled_said name is rs cs os (good name is rs cs os s.formed) in
    read_of text name is rs cs os (reads text (tokens_from text 0) at_start (length text) at_first (final name is rs cs os) all)

pub first_input : (ins : List Port) → slice_get ins 0 ≡ Some reset_port → (is : List Port) × (ins ≡ reset_port ∷ is)
first_input [] e = cc
first_input (i ∷ is) e = let same : i ≡ reset_port = (cc) in (is, ap (λ x. x ∷ is) same)

pub spelled_read : SpelledIsRead
spelled_read text n s =
    let f = first_input n.inputs s.formed.reset in
    let e : n ≡ made n.name f.0 n.regs n.cells n.outputs =
    ap (λ (ins : List Port). record { name = n.name; inputs = ins; regs = n.regs; cells = n.cells; outputs = n.outputs }) f.1 in
    made_read text n.name f.0 n.regs n.cells n.outputs (subst (Spells text) e s) ∙ ap (λ (m : Netlist). Ok m) (sym e)

same_netlist : (n m : Netlist) (r : Result Netlist ℕ) → r ≡ Ok n → r ≡ Ok m → n ≡ m
same_netlist n m r a b = cc

pub spells_one : SpellsOne
spells_one text n m s t = same_netlist n m (read_text text) (spelled_read text n s) (spelled_read text m t)
