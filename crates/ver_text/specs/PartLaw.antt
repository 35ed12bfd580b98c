-- What it means that a text of the syntax is refused by its parts.
use Rattle.std.specs.Prelude.{◌≡◌, ℕ, List, [], ◌∷◌, ◌++◌, length, map, None, Err}
use Rattle.net_cells.specs.declared.netlist.Netlist.{Netlist}
use Rattle.net_cells.specs.Rules.{IsWellFormed}
use Rattle.ver_text.specs.declared.token.Token.{Token}
use Rattle.ver_text.specs.declared.part.Part.{Part}
use Rattle.ver_text.specs.Grammar.{start}
use Rattle.ver_text.specs.Parts.{at_start, parts}
use Rattle.ver_text.specs.Reading.{read_text}
use Rattle.ver_text.specs.Spelling.{Sign, spelling}
use Rattle.ver_text.specs.TextLaw.{sign_of}
use Rattle.ver_text.specs.Tokens.{refused, tokens_from}

-- The tokens of no well-formed netlist's text begin with these.
abbrev pub BeginsNone : List Sign → Type 0
BeginsNone front = (n : Netlist) → IsWellFormed n → (more : List Sign) → spelling n ≡ front ++ more → ⊥

-- A part begins at the place; the tokens up to the one that ends it begin no netlist's text.
pub record IsRefusedPart (text : List ℕ) (place : ℕ) : Type 0 where
  pub before : List Token
  pub last : Token
  pub more : List Token
  pub part : Part
  pub split : tokens_from text 0 ≡ before ++ last ∷ more
  pub ends : parts at_start (before ++ last ∷ []) ≡ parts at_start before ++ part ∷ []
  pub begins : part.head.start ≡ place
  pub none : BeginsNone (map (sign_of text) (before ++ last ∷ []))

-- Where a text that has the syntax is refused at a place, a part begins there, and no netlist's text begins with the
-- parts up to it.
abbrev pub RefusedPartIsWrong : Type 0
RefusedPartIsWrong =
    (text : List ℕ) (place : ℕ)
    → refused start (tokens_from text 0) (length text) ≡ None → read_text text ≡ Err place → IsRefusedPart text place
