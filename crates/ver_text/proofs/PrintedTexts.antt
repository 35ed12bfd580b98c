-- What a text is that is a netlist's layout.
use Rattle.std.proofs.Common.{ℕ, ◌≡◌, List, Ok, ap, sym, subst, ◌∙◌}
use Rattle.net_cells.specs.declared.netlist.Netlist.{Netlist}
use Rattle.net_cells.specs.Rules.{IsWellFormed}
use Rattle.ver_text.specs.Spelling.{layout}
use Rattle.ver_text.specs.TextLaw.{Spells}
use Rattle.ver_text.specs.Reading.{read_text}
use Rattle.ver_text.proofs.Layouts.{printed_spells, printed_read}

pub text_spells : (text : List ℕ) (n : Netlist) → text ≡ layout n → IsWellFormed n → Spells text n
text_spells text n e w = subst (λ t. Spells t n) (sym e) (printed_spells n w)

pub text_read : (text : List ℕ) (n : Netlist) → text ≡ layout n → IsWellFormed n → read_text text ≡ Ok n
text_read text n e w = ap read_text e ∙ printed_read n w
