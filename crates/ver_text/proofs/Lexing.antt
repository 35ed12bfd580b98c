-- Printed tokens are found in the text.
use Rattle.std.proofs.Common.{ℕ, ◌≡◌, ◌+◌, ◌-◌, ◌<◌, ◌≤◌, List, [], ◌∷◌, ◌++◌, length, take, drop, map, Bool, false, cond, refl, ap, sym, ◌∙◌, append_assoc, length-append, arith}
use Rattle.std.specs.Prelude.{codes}
use Rattle.std.proofs.lemmas.List.{drop_at, take_at}
use Rattle.ver_text.specs.declared.kind.Kind.{Kind}
use Rattle.ver_text.specs.declared.kind.Kind.TheVariants as kind
use Rattle.ver_text.specs.declared.scan.Lexeme.{Lexeme}
use Rattle.ver_text.specs.declared.token.Token.{Token}
use Rattle.ver_text.specs.Kinds.{is_gap}
use Rattle.ver_text.specs.Lexemes.{first_lexeme}
use Rattle.ver_text.specs.Tokens.{found, tokens_at}
use Rattle.ver_text.specs.Spelling.{Piece, sign, signs, laid, tight, apart, last}
use Rattle.ver_text.specs.TextLaw.{sign_of}
use Rattle.ver_text.proofs.Scans.{first}

-- ---- one token and the gap behind it

-- what stands between tokens is passed over
abbrev pub Skips : List ℕ → Type 0
Skips gap = (at : ℕ) (rest : List ℕ) → tokens_at at 0 (gap ++ rest) ≡ tokens_at (at + length gap) 0 rest

pub skip_none : Skips []
skip_none at rest = ap (λ n. tokens_at n 0 rest) (omega arith)

gap_of_one : (c at : ℕ) (rest : List ℕ) → record { kind = kind.Gap; more = 0 } ≡ first_lexeme (c ∷ rest) → tokens_at at 0 (c ∷ rest) ≡ tokens_at (at + 1) 0 rest
gap_of_one c at rest e =
    let one : 0 + 1 ≤ length (c ∷ rest) = omega arith in
    first at (c ∷ rest) (record { kind = kind.Gap; more = 0 }) (omega arith) e one

pub skip_space : Skips (codes " ")
unfolding first_lexeme
skip_space at rest = gap_of_one 32 at rest refl

pub skip_line : Skips (codes "\n")
unfolding first_lexeme
skip_line at rest = gap_of_one 10 at rest refl

-- a piece is found where it stands before the rest of a text
pub record Scanned (p : Piece) (rest : List ℕ) : Type 0 where
  pub lexed : first_lexeme (p.word ++ (p.gap ++ rest)) ≡ record { kind = p.kind; more = length p.word - 1 }
  pub some : 0 < length p.word
  pub token : is_gap p.kind ≡ false
  pub skips : Skips p.gap

abbrev pub Scans : List Piece → Type 0
Scans [] = Unit {0}
Scans (p ∷ ps) = Scanned p (laid ps) × Scans ps

found_token : (gap : Bool) (k : Kind) (at n : ℕ) (ts : List Token) → gap ≡ false → cond gap ts (record { kind = k; start = at; length = n } ∷ ts) ≡ record { kind = k; start = at; length = n } ∷ ts
found_token gap k at n ts e = rw e refl

piece_found : (p : Piece) (rest : List ℕ) (at : ℕ) → Scanned p rest
    → tokens_at at 0 (p.word ++ (p.gap ++ rest)) ≡ record { kind = p.kind; start = at; length = length p.word } ∷ tokens_at (at + length p.word + length p.gap) 0 rest
piece_found p rest at s =
    let l : Lexeme = record { kind = p.kind; more = length p.word - 1 } in
    let n : length p.word - 1 + 1 ≡ length p.word = omega (arith, s.some) in
    let long : length (p.word ++ (p.gap ++ rest)) ≡ length p.word + length (p.gap ++ rest) = length-append p.word (p.gap ++ rest) in
    first at (p.word ++ (p.gap ++ rest)) l (omega (arith, s.some)) (sym s.lexed) (omega (arith, s.some))
    ∙ (ap (λ m. found at l (tokens_at (at + m) 0 (drop m (p.word ++ (p.gap ++ rest))))) n
    ∙ (ap (λ xs. found at l (tokens_at (at + length p.word) 0 xs)) (drop_at p.word (p.gap ++ rest) (length p.word) refl)
    ∙ (ap (λ ts. found at l ts) (s.skips (at + length p.word) rest)
    ∙ (ap (λ m. cond (is_gap p.kind) (tokens_at (at + length p.word + length p.gap) 0 rest) (record { kind = p.kind; start = at; length = m } ∷ tokens_at (at + length p.word + length p.gap) 0 rest)) n
    ∙ found_token (is_gap p.kind) p.kind at (length p.word) (tokens_at (at + length p.word + length p.gap) 0 rest) s.token))))

-- all pieces of a text behind a front are found
pub scan_all : (ps : List Piece) (front : List ℕ) → Scans ps → map (sign_of (front ++ laid ps)) (tokens_at (length front) 0 (laid ps)) ≡ signs ps
scan_all [] front h = refl
scan_all (p ∷ ps) front h =
    let text : List ℕ = front ++ (p.word ++ (p.gap ++ laid ps)) in
    let next : List ℕ = front ++ (p.word ++ p.gap) in
    let same : text ≡ next ++ laid ps = sym (append_assoc front (p.word ++ p.gap) (laid ps) ∙ ap (λ xs. front ++ xs) (append_assoc p.word p.gap (laid ps))) in
    let place : length front + length p.word + length p.gap ≡ length next = omega (arith, length-append front (p.word ++ p.gap), length-append p.word p.gap) in
    let bytes : take (length p.word) (drop (length front) text) ≡ p.word =
    ap (take (length p.word)) (drop_at front (p.word ++ (p.gap ++ laid ps)) (length front) refl) ∙ take_at p.word (p.gap ++ laid ps) (length p.word) refl in
    ap (map (sign_of text)) (piece_found p (laid ps) (length front) h.0)
    ∙ (ap (λ w. sign p.kind w ∷ map (sign_of text) (tokens_at (length front + length p.word + length p.gap) 0 (laid ps))) bytes
    ∙ ap (λ ss. sign p.kind p.word ∷ ss)
    (ap (λ n. map (sign_of text) (tokens_at n 0 (laid ps))) place ∙ (ap (λ t. map (sign_of t) (tokens_at (length next) 0 (laid ps))) same ∙ scan_all ps next h.1)))

-- ---- keywords and other tokens

pub tight_At : (rest : List ℕ) → Scanned (tight kind.At) rest
unfolding first_lexeme
tight_At rest = record { lexed = refl; some = omega arith; token = refl; skips = skip_none }

pub tight_OpenParen : (rest : List ℕ) → Scanned (tight kind.OpenParen) rest
unfolding first_lexeme
tight_OpenParen rest = record { lexed = refl; some = omega arith; token = refl; skips = skip_none }

pub tight_OpenBracket : (rest : List ℕ) → Scanned (tight kind.OpenBracket) rest
unfolding first_lexeme
tight_OpenBracket rest = record { lexed = refl; some = omega arith; token = refl; skips = skip_none }

pub tight_Colon : (rest : List ℕ) → Scanned (tight kind.Colon) rest
unfolding first_lexeme
tight_Colon rest = record { lexed = refl; some = omega arith; token = refl; skips = skip_none }

pub tight_Tilde : (rest : List ℕ) → Scanned (tight kind.Tilde) rest
unfolding first_lexeme
tight_Tilde rest = record { lexed = refl; some = omega arith; token = refl; skips = skip_none }

pub tight_OpenBrace : (rest : List ℕ) → Scanned (tight kind.OpenBrace) rest
unfolding first_lexeme
tight_OpenBrace rest = record { lexed = refl; some = omega arith; token = refl; skips = skip_none }

pub tight_CloseBrace : (rest : List ℕ) → Scanned (tight kind.CloseBrace) rest
unfolding first_lexeme
tight_CloseBrace rest = record { lexed = refl; some = omega arith; token = refl; skips = skip_none }

pub tight_CloseBracket : (rest : List ℕ) → Scanned (tight kind.CloseBracket) rest
unfolding first_lexeme
tight_CloseBracket rest = record { lexed = refl; some = omega arith; token = refl; skips = skip_none }

pub tight_CloseParen : (rest : List ℕ) → Scanned (tight kind.CloseParen) rest
unfolding first_lexeme
tight_CloseParen rest = record { lexed = refl; some = omega arith; token = refl; skips = skip_none }

pub apart_Reg : (rest : List ℕ) → Scanned (apart kind.Reg) rest
unfolding first_lexeme
apart_Reg rest = record { lexed = refl; some = omega arith; token = refl; skips = skip_space }

pub apart_Wire : (rest : List ℕ) → Scanned (apart kind.Wire) rest
unfolding first_lexeme
apart_Wire rest = record { lexed = refl; some = omega arith; token = refl; skips = skip_space }

pub apart_Input : (rest : List ℕ) → Scanned (apart kind.Input) rest
unfolding first_lexeme
apart_Input rest = record { lexed = refl; some = omega arith; token = refl; skips = skip_space }

pub apart_Output : (rest : List ℕ) → Scanned (apart kind.Output) rest
unfolding first_lexeme
apart_Output rest = record { lexed = refl; some = omega arith; token = refl; skips = skip_space }

pub apart_Module : (rest : List ℕ) → Scanned (apart kind.Module) rest
unfolding first_lexeme
apart_Module rest = record { lexed = refl; some = omega arith; token = refl; skips = skip_space }

pub apart_Assign : (rest : List ℕ) → Scanned (apart kind.Assign) rest
unfolding first_lexeme
apart_Assign rest = record { lexed = refl; some = omega arith; token = refl; skips = skip_space }

pub apart_Becomes : (rest : List ℕ) → Scanned (apart kind.Becomes) rest
unfolding first_lexeme
apart_Becomes rest = record { lexed = refl; some = omega arith; token = refl; skips = skip_space }

pub apart_Always : (rest : List ℕ) → Scanned (apart kind.Always) rest
unfolding first_lexeme
apart_Always rest = record { lexed = refl; some = omega arith; token = refl; skips = skip_space }

pub apart_Posedge : (rest : List ℕ) → Scanned (apart kind.Posedge) rest
unfolding first_lexeme
apart_Posedge rest = record { lexed = refl; some = omega arith; token = refl; skips = skip_space }

pub apart_CloseParen : (rest : List ℕ) → Scanned (apart kind.CloseParen) rest
unfolding first_lexeme
apart_CloseParen rest = record { lexed = refl; some = omega arith; token = refl; skips = skip_space }

pub apart_LessEqual : (rest : List ℕ) → Scanned (apart kind.LessEqual) rest
unfolding first_lexeme
apart_LessEqual rest = record { lexed = refl; some = omega arith; token = refl; skips = skip_space }

pub apart_Comma : (rest : List ℕ) → Scanned (apart kind.Comma) rest
unfolding first_lexeme
apart_Comma rest = record { lexed = refl; some = omega arith; token = refl; skips = skip_space }

pub apart_CloseBracket : (rest : List ℕ) → Scanned (apart kind.CloseBracket) rest
unfolding first_lexeme
apart_CloseBracket rest = record { lexed = refl; some = omega arith; token = refl; skips = skip_space }

pub apart_And : (rest : List ℕ) → Scanned (apart kind.And) rest
unfolding first_lexeme
apart_And rest = record { lexed = refl; some = omega arith; token = refl; skips = skip_space }

pub apart_Or : (rest : List ℕ) → Scanned (apart kind.Or) rest
unfolding first_lexeme
apart_Or rest = record { lexed = refl; some = omega arith; token = refl; skips = skip_space }

pub apart_Xor : (rest : List ℕ) → Scanned (apart kind.Xor) rest
unfolding first_lexeme
apart_Xor rest = record { lexed = refl; some = omega arith; token = refl; skips = skip_space }

pub apart_Plus : (rest : List ℕ) → Scanned (apart kind.Plus) rest
unfolding first_lexeme
apart_Plus rest = record { lexed = refl; some = omega arith; token = refl; skips = skip_space }

pub apart_Minus : (rest : List ℕ) → Scanned (apart kind.Minus) rest
unfolding first_lexeme
apart_Minus rest = record { lexed = refl; some = omega arith; token = refl; skips = skip_space }

pub apart_Equal : (rest : List ℕ) → Scanned (apart kind.Equal) rest
unfolding first_lexeme
apart_Equal rest = record { lexed = refl; some = omega arith; token = refl; skips = skip_space }

pub apart_Less : (rest : List ℕ) → Scanned (apart kind.Less) rest
unfolding first_lexeme
apart_Less rest = record { lexed = refl; some = omega arith; token = refl; skips = skip_space }

pub apart_Question : (rest : List ℕ) → Scanned (apart kind.Question) rest
unfolding first_lexeme
apart_Question rest = record { lexed = refl; some = omega arith; token = refl; skips = skip_space }

pub apart_Colon : (rest : List ℕ) → Scanned (apart kind.Colon) rest
unfolding first_lexeme
apart_Colon rest = record { lexed = refl; some = omega arith; token = refl; skips = skip_space }

pub last_Semicolon : (rest : List ℕ) → Scanned (last kind.Semicolon) rest
unfolding first_lexeme
last_Semicolon rest = record { lexed = refl; some = omega arith; token = refl; skips = skip_line }

pub last_Endmodule : (rest : List ℕ) → Scanned (last kind.Endmodule) rest
unfolding first_lexeme
last_Endmodule rest = record { lexed = refl; some = omega arith; token = refl; skips = skip_line }
