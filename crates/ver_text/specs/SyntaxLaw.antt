-- What it means that the syntax refuses a text at a place.
use Rattle.std.specs.Prelude.{◌≡◌, ℕ, List, [], ◌∷◌, ◌++◌, map, Option, Some, None}
use Rattle.ver_text.specs.declared.kind.Kind.{Kind}
use Rattle.ver_text.specs.declared.token.Token.{Token}
use Rattle.ver_text.specs.Grammar.{HasSyntax, start}
use Rattle.ver_text.specs.Tokens.{refused}

-- the kinds of tokens
abbrev pub kinds_of : List Token → List Kind
kinds_of = map (λ (t : Token). t.kind)

-- Some tokens behind these make a text of the syntax.
abbrev pub CanGoOn : List Kind → Type 0
CanGoOn kinds = (more : List Kind) × HasSyntax (kinds ++ more)

-- Behind the tokens of a front the next one is wrong, and its place is this one; or the text ends there, too early.
abbrev pub IsWrongBehind : List Token → List Token → ℕ → ℕ → Type 0
IsWrongBehind front [] place end = (place ≡ end) × (HasSyntax (kinds_of front) → ⊥)
IsWrongBehind front (token ∷ tokens) place end = (place ≡ token.start) × (CanGoOn (kinds_of (front ++ token ∷ [])) → ⊥)

-- The tokens before a place can go on, and with what stands at the place they can't.
pub record IsFirstWrong (tokens : List Token) (place end : ℕ) : Type 0 where
  pub front : List Token
  pub rest : List Token
  pub split : tokens ≡ front ++ rest
  pub before : CanGoOn (kinds_of front)
  pub wrong : IsWrongBehind front rest place end

-- Where no place is told the tokens have the syntax, and else the place is that of the first wrong one.
abbrev pub IsTold : List Token → ℕ → Option ℕ → Type 0
IsTold tokens end None = HasSyntax (kinds_of tokens)
IsTold tokens end (Some place) = IsFirstWrong tokens place end

-- Tokens that aren't refused have the syntax, and others are refused at the first after which no continuation has it.
abbrev pub RefusalIsFirst : Type 0
RefusalIsFirst = (tokens : List Token) (end : ℕ) → IsTold tokens end (refused start tokens end)
