-- What it means that a text spells a netlist.
use Rattle.std.specs.Prelude.{◌≡◌, ◌<◌, ◌^◌, ℕ, List, length, map, Ok}
use Rattle.net_cells.specs.declared.netlist.Netlist.{Netlist}
use Rattle.net_cells.specs.Rules.{IsWellFormed}
use Rattle.ver_text.specs.declared.token.Token.{Token}
use Rattle.ver_text.specs.Spelling.{Sign, sign, spelling, layout}
use Rattle.ver_text.specs.Tokens.{token_bytes, tokens_from}
use Rattle.ver_text.specs.Reading.{read_text}

-- what a token of a text says
abbrev pub sign_of : List ℕ → Token → Sign
sign_of text token = sign token.kind (token_bytes text token)

-- The tokens of a text, in order, are those of a well-formed netlist.
pub record Spells (text : List ℕ) (n : Netlist) : Type 0 where
  pub formed : IsWellFormed n
  pub signs : map (sign_of text) (tokens_from text 0) ≡ spelling n

-- The netlist that a text spells is what is read of it.
abbrev pub SpelledIsRead : Type 0
SpelledIsRead = (text : List ℕ) (n : Netlist) → Spells text n → read_text text ≡ Ok n

-- A text that is read as a netlist spells it, which is well formed then. A text of memory is shorter than 2 ^ 64
-- bytes; a longer one could name more nets than a netlist may have.
abbrev pub ReadSpells : Type 0
ReadSpells = (text : List ℕ) (n : Netlist) → length text < 2 ^ 64 → read_text text ≡ Ok n → Spells text n

-- A text spells at most one netlist.
abbrev pub SpellsOne : Type 0
SpellsOne = (text : List ℕ) (n m : Netlist) → Spells text n → Spells text m → n ≡ m

-- The printed text of a well-formed netlist spells it.
abbrev pub PrintedSpells : Type 0
PrintedSpells = (n : Netlist) → IsWellFormed n → Spells (layout n) n

-- The printed text of a well-formed netlist is read back as it.
abbrev pub PrintedIsRead : Type 0
PrintedIsRead = (n : Netlist) → IsWellFormed n → read_text (layout n) ≡ Ok n
