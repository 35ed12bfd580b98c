-- A text is scanned token by token.
use Rattle.std.proofs.Common.{ℕ, zero, suc, ◌≡◌, ◌+◌, ◌<◌, ◌≤◌, List, [], ◌∷◌, length, drop, length-drop, Bool, true, false, cond, Some, None, refl, ap, sym, ◌∙◌, arith}
use Rattle.std.proofs.lemmas.List.{drop_all, drop-drop}
use Rattle.ver_text.specs.declared.scan.Lexeme.{Lexeme}
use Rattle.ver_text.specs.declared.token.Token.{Token}
use Rattle.ver_text.specs.declared.grammar.State.{State}
use Rattle.ver_text.specs.Kinds.{is_gap}
use Rattle.ver_text.specs.Lexemes.{first_lexeme}
use Rattle.ver_text.specs.Grammar.{next_state, is_whole}
use Rattle.ver_text.specs.Tokens.{found, tokens_at, tokens_from, after, refused}

-- skipped bytes are those of what stands before
pub skipped : (at n : ℕ) (xs : List ℕ) → n ≤ length xs → tokens_at at n xs ≡ tokens_at (at + n) 0 (drop n xs)
skipped at zero [] h = refl
skipped at zero (c ∷ cs) h = ap (λ n. tokens_at n 0 (c ∷ cs)) (omega arith)
skipped at (suc n) [] h = absurd (omega arith)
skipped at (suc n) (c ∷ cs) h = skipped (at + 1) n cs (omega arith) ∙ ap (λ m. tokens_at m 0 (drop n cs)) (omega arith)

pub first : (at : ℕ) (xs : List ℕ) (l : Lexeme) → 0 < length xs → l ≡ first_lexeme xs → l.more + 1 ≤ length xs
    → tokens_at at 0 xs ≡ found at l (tokens_at (at + (l.more + 1)) 0 (drop (l.more + 1) xs))
first at [] l h e k = absurd (omega arith)
first at (c ∷ cs) l h e k =
    let step_one : l.more + 1 ≡ suc l.more = omega arith in
    let here : tokens_at at 0 (c ∷ cs) ≡ found at l (tokens_at (at + 1) l.more cs) = ap (λ (m : Lexeme). found at m (tokens_at (at + 1) m.more cs)) (sym e) in
    let place : at + 1 + l.more ≡ at + (l.more + 1) = omega arith in
    let rest : tokens_at (at + 1) l.more cs ≡ tokens_at (at + (l.more + 1)) 0 (drop (l.more + 1) (c ∷ cs)) =
    skipped (at + 1) l.more cs (omega arith) ∙ (ap (λ n. tokens_at n 0 (drop l.more cs)) place
    ∙ ap (λ n. tokens_at (at + (l.more + 1)) 0 (drop n (c ∷ cs))) (sym step_one)) in
    here ∙ ap (λ ts. found at l ts) rest

-- from one token or gap to the next
pub next_found : (text : List ℕ) (at : ℕ) (l : Lexeme) → at < length text → l ≡ first_lexeme (drop at text) → at + l.more + 1 ≤ length text
    → tokens_from text at ≡ found at l (tokens_from text (at + (l.more + 1)))
unfolding tokens_from
next_found text at l h e k =
    first at (drop at text) l (omega (arith, length-drop at text)) e (omega (arith, length-drop at text))
    ∙ ap (λ xs. found at l (tokens_at (at + (l.more + 1)) 0 xs)) (drop-drop (l.more + 1) at text)

pub none_left : (text : List ℕ) (at : ℕ) → length text ≤ at → tokens_from text at ≡ []
unfolding tokens_from
none_left text at h = rw (drop_all at text h) refl

stop_by : (b : Bool) (s : State) (l : Lexeme) (at end : ℕ) (ts : List Token) → cond b (Some s) (next_state s l.kind) ≡ None
    → refused s (cond b ts (record { kind = l.kind; start = at; length = l.more + 1 } ∷ ts)) end ≡ Some at
stop_by true s l at end ts e = cc
stop_by false s l at end ts e = rw (e, refused) refl

go_by : (b : Bool) (s next : State) (l : Lexeme) (at end : ℕ) (ts : List Token) → cond b (Some s) (next_state s l.kind) ≡ Some next
    → refused s (cond b ts (record { kind = l.kind; start = at; length = l.more + 1 } ∷ ts)) end ≡ refused next ts end
go_by true s next l at end ts e = let same : s ≡ next = cc in ap (λ x. refused x ts end) same
go_by false s next l at end ts e = rw (e, refused) refl

pub refused_there : (text : List ℕ) (s : State) (l : Lexeme) (at end : ℕ) → at < length text → l ≡ first_lexeme (drop at text)
    → at + l.more + 1 ≤ length text → after s l.kind ≡ None → refused s (tokens_from text at) end ≡ Some at
refused_there text s l at end h e k a = ap (λ ts. refused s ts end) (next_found text at l h e k) ∙ stop_by (is_gap l.kind) s l at end _ a

pub refused_later : (text : List ℕ) (s next : State) (l : Lexeme) (at end : ℕ) → at < length text → l ≡ first_lexeme (drop at text)
    → at + l.more + 1 ≤ length text → after s l.kind ≡ Some next
    → refused s (tokens_from text at) end ≡ refused next (tokens_from text (at + (l.more + 1))) end
refused_later text s next l at end h e k a = ap (λ ts. refused s ts end) (next_found text at l h e k) ∙ go_by (is_gap l.kind) s next l at end _ a

pub refused_end : (text : List ℕ) (s : State) (at end : ℕ) → length text ≤ at → refused s (tokens_from text at) end ≡ cond (is_whole s) None (Some end)
refused_end text s at end h = ap (λ ts. refused s ts end) (none_left text at h)
