-- The tokens of a text, in order, and where the syntax refuses it.
use Rattle.std.specs.Prelude.{ℕ, zero, suc, ◌+◌, List, [], ◌∷◌, drop, take, cond, Option, Some, None}
use Rattle.ver_text.specs.declared.kind.Kind.{Kind}
use Rattle.ver_text.specs.declared.scan.Lexeme.{Lexeme}
use Rattle.ver_text.specs.declared.token.Token.{Token}
use Rattle.ver_text.specs.declared.grammar.State.{State}
use Rattle.ver_text.specs.Kinds.{is_gap}
use Rattle.ver_text.specs.Lexemes.{first_lexeme}
use Rattle.ver_text.specs.Grammar.{next_state, is_whole}

-- a token at a place, before the others; a gap is none
abbrev pub found : ℕ → Lexeme → List Token → List Token
found at lexeme others =
    cond (is_gap lexeme.kind) others (record { kind = lexeme.kind; start = at; length = lexeme.more + 1 } ∷ others)

-- The tokens of a text that stands at this place, whose first bytes, so many, belong to what was found before. A byte
-- that begins no token is one of an unknown kind.
abbrev pub tokens_at : ℕ → ℕ → List ℕ → List Token
tokens_at at skipped [] = []
tokens_at at (suc skipped) (c ∷ cs) = tokens_at (at + 1) skipped cs
tokens_at at zero (c ∷ cs) = found at (first_lexeme (c ∷ cs)) (tokens_at (at + 1) (first_lexeme (c ∷ cs)).more cs)

-- the tokens of a text from a place on
unfoldable pub tokens_from : List ℕ → ℕ → List Token
tokens_from text at = tokens_at at 0 (drop at text)

-- the bytes of a token
abbrev pub token_bytes : List ℕ → Token → List ℕ
token_bytes text token = take token.length (drop token.start text)

-- what has been read of the syntax after one more token or gap
abbrev pub after : State → Kind → Option State
after s kind = cond (is_gap kind) (Some s) (next_state s kind)

-- Where the syntax refuses tokens: at the first that can't come, or at the end. None where they have the syntax.
abbrev pub refused : State → List Token → ℕ → Option ℕ
refused s [] end = cond (is_whole s) None (Some end)
refused s (token ∷ tokens) end =
    elim (next_state s token.kind) as (λ _. Option ℕ) [ None ↦ Some token.start | Some next ↦ refused next tokens end ]
