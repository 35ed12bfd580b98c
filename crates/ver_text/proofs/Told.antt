-- Where a text is read as a netlist, its tokens say what was read.
use Rattle.std.proofs.Common.{ℕ, ◌≡◌, List, [], ◌∷◌, map, Bool, true, false, cond, Option, Some, None, Result, Ok, Err, refl, subst}
use Rattle.std.specs.List.{AllByRecursion}
use Rattle.ver_text.specs.declared.token.Token.{Token}
use Rattle.ver_text.specs.declared.grammar.State.{State}
use Rattle.ver_text.specs.declared.part.Cursor.{Cursor}
use Rattle.ver_text.specs.declared.progress.Progress.{Progress}
use Rattle.ver_text.specs.Kinds.{is_word}
use Rattle.ver_text.specs.Grammar.{next_state, is_whole}
use Rattle.ver_text.specs.Tokens.{token_bytes, refused}
use Rattle.ver_text.specs.Parts.{ends, moved_to, parts}
use Rattle.ver_text.specs.Reading.{judged}
use Rattle.ver_text.specs.Spelling.{Sign}
use Rattle.ver_text.specs.TextLaw.{sign_of}
use Rattle.ver_text.proofs.Signs.{Seen, seen_of, seen_next, seen_moved, due_seen, due_is, moved_is, said}

told_end : (b : Bool) (end : ℕ) (p q : Progress) → cond b None (Some end) ≡ None → ◌≡◌ {A = Result Progress ℕ} (Ok p) (Ok q) → cond b (Some p) None ≡ Some q
told_end true end p q s e = cc
told_end false end p q s e = cc

told_due : (text : List ℕ) (p q : Progress) (d : Cursor) (ts : List Token) (ss : List Sign) (o : Option Progress)
    → elim o as (λ _. Result Progress ℕ) [ None ↦ Err d.part.head.start | Some r ↦ judged text r (parts d ts) ] ≡ Ok q
    → ((r : Progress) → judged text r (parts d ts) ≡ Ok q → said r (seen_of text d) ss ≡ Some q)
    → elim o as (λ _. Option Progress) [ None ↦ None | Some r ↦ said r (seen_of text d) ss ] ≡ Some q
told_due text p q d ts ss None e go = cc
told_due text p q d ts ss (Some r) e go = go r e

told_part : (text : List ℕ) (p q : Progress) (d : Cursor) (ts : List Token) (ss : List Sign) (b : Bool)
    → judged text p (cond b (d.part ∷ parts d ts) (parts d ts)) ≡ Ok q
    → ((r : Progress) → judged text r (parts d ts) ≡ Ok q → said r (seen_of text d) ss ≡ Some q)
    → cond b (elim (due_seen p (seen_of text d)) as (λ _. Option Progress) [ None ↦ None | Some r ↦ said r (seen_of text d) ss ]) (said p (seen_of text d) ss) ≡ Some q
told_part text p q d ts ss false e go = go p e
told_part text p q d ts ss true e go =
    let P : Option Progress → Type 0 = λ o. elim o as (λ _. Result Progress ℕ) [ None ↦ Err d.part.head.start | Some r ↦ judged text r (parts d ts) ] ≡ Ok q in
    told_due text p q d ts ss (due_seen p (seen_of text d)) (subst P (due_is text p d) e) go

told_step : (text : List ℕ) (c : Cursor) (t : Token) (ts : List Token) (ss : List Sign) (end : ℕ) (p q : Progress) (o : Option State) → next_state c.state t.kind ≡ o
    → elim o as (λ _. Option ℕ) [ None ↦ Some t.start | Some next ↦ refused next ts end ] ≡ None
    → judged text p (parts c (t ∷ ts)) ≡ Ok q
    → ((next : State) (r : Progress) → refused next ts end ≡ None → judged text r (parts (moved_to c t (Some next)) ts) ≡ Ok q → said r (seen_of text (moved_to c t (Some next))) ss ≡ Some q)
    → elim o as (λ _. Option Progress) [
      | None ↦ None
      | Some next ↦
          cond (ends next)
          (elim (due_seen p (seen_next (seen_of text c) next t.kind (sign_of text t).word)) as (λ _. Option Progress)
          [ None ↦ None | Some r ↦ said r (seen_next (seen_of text c) next t.kind (sign_of text t).word) ss ])
          (said p (seen_next (seen_of text c) next t.kind (sign_of text t).word) ss)
    ] ≡ Some q
told_step text c t ts ss end p q None s n e go = cc
told_step text c t ts ss end p q (Some next) s n e go =
    let P : Seen → Type 0 = λ a. cond (ends next) (elim (due_seen p a) as (λ _. Option Progress) [ None ↦ None | Some r ↦ said r a ss ]) (said p a ss) ≡ Some q in
    let Q : Cursor → Type 0 = λ d. judged text p (cond (ends d.state) (d.part ∷ parts d ts) (parts d ts)) ≡ Ok q in
    subst P (seen_moved text c t next)
    (told_part text p q (moved_to c t (Some next)) ts ss (ends next) (subst Q (moved_is c t next s) e) (λ r h. go next r n h))

pub told : (text : List ℕ) (ts : List Token) (c : Cursor) (end : ℕ) (p q : Progress) → refused c.state ts end ≡ None → judged text p (parts c ts) ≡ Ok q
    → said p (seen_of text c) (map (sign_of text) ts) ≡ Some q
told text [] c end p q n e = told_end (is_whole c.state) end p q n e
told text (t ∷ ts) c end p q n e =
    told_step text c t ts (map (sign_of text) ts) end p q (next_state c.state t.kind) refl n e
    (λ next r m h. told text ts (moved_to c t (Some next)) end r q m h)

-- ---- what isn't a name, a number or a literal says no bytes

pub record Bare (s : Sign) : Type 0 where
  pub none : is_word s.kind ≡ false → s.word ≡ []

bare_by : (b : Bool) (word : List ℕ) → b ≡ false → cond b word [] ≡ []
bare_by true word e = cc
bare_by false word e = refl

pub all_bare : (text : List ℕ) (ts : List Token) → AllByRecursion Bare (map (sign_of text) ts)
all_bare text [] = tt
all_bare text (t ∷ ts) = (record { none = bare_by (is_word t.kind) (token_bytes text t) }, all_bare text ts)
