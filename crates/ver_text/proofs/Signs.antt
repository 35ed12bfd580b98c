-- A text is read by what its tokens say.
use Rattle.std.proofs.Common.{ℕ, ◌≡◌, List, [], ◌∷◌, map, Bool, true, false, cond, Option, Some, None, Ok, refl, ap, sym, ◌∙◌, subst}
use Rattle.ver_text.specs.declared.kind.Kind.{Kind}
use Rattle.ver_text.specs.declared.token.Token.{Token}
use Rattle.ver_text.specs.declared.grammar.State.{State}
use Rattle.ver_text.specs.declared.part.Part.{Part}
use Rattle.ver_text.specs.declared.part.Cursor.{Cursor}
use Rattle.ver_text.specs.declared.progress.Progress.{Progress}
use Rattle.ver_text.specs.Kinds.{is_word}
use Rattle.ver_text.specs.Grammar.{next_state, is_whole}
use Rattle.ver_text.specs.Tokens.{token_bytes, refused}
use Rattle.ver_text.specs.Parts.{ends, opens, moved, moved_to, with_form, parts}
use Rattle.ver_text.specs.Due.{due, due_by}
use Rattle.ver_text.specs.Reading.{judged}
use Rattle.ver_text.specs.Spelling.{Sign}
use Rattle.ver_text.specs.TextLaw.{sign_of}

-- how far a text was read, without places
pub record Seen : Type 0 where
  pub state : State
  pub head : Kind
  pub form : Kind
  pub fourth : List ℕ
  pub third : List ℕ
  pub second : List ℕ
  pub last : List ℕ

abbrev pub seen_of : List ℕ → Cursor → Seen
seen_of text c = record {
  state = c.state;
  head = c.part.head.kind;
  form = c.part.form;
  fourth = token_bytes text c.part.fourth;
  third = token_bytes text c.part.third;
  second = token_bytes text c.part.second;
  last = token_bytes text c.part.last;
}

-- after one more token, by whether it opens a part and whether it is a name, a number or a literal
abbrev pub shifted : Bool → Bool → Seen → State → Kind → List ℕ → Seen
shifted opening wordy a next kind word = record {
  state = next;
  head = cond opening kind a.head;
  form = next.first;
  fourth = cond wordy a.third a.fourth;
  third = cond wordy a.second a.third;
  second = cond wordy a.last a.second;
  last = cond wordy word a.last;
}

abbrev pub seen_next : Seen → State → Kind → List ℕ → Seen
seen_next a next kind word = shifted (opens a.state) (is_word kind) a next kind word

abbrev pub due_seen : Progress → Seen → Option Progress
due_seen p a = due_by p a.head a.form a.fourth a.third a.second a.last

-- what is known behind tokens that say this; none where one of them isn't due, or the text can't end there
abbrev pub said : Progress → Seen → List Sign → Option Progress
said p a [] = cond (is_whole a.state) (Some p) None
said p a (s ∷ ss) =
    elim (next_state a.state s.kind) as (λ _. Option Progress) [
      | None ↦ None
      | Some next ↦
          cond (ends next)
          (elim (due_seen p (seen_next a next s.kind s.word)) as (λ _. Option Progress) [ None ↦ None | Some q ↦ said q (seen_next a next s.kind s.word) ss ])
          (said p (seen_next a next s.kind s.word) ss)
    ]

seen_by : (text : List ℕ) (s next : State) (p : Part) (t : Token) (b w : Bool)
    → seen_of text (record { state = next; part = with_form (cond w (record (cond b (record p { head = t }) p) { fourth = (cond b (record p { head = t }) p).third; third = (cond b (record p { head = t }) p).second; second = (cond b (record p { head = t }) p).last; last = t }) (cond b (record p { head = t }) p)) next.first })
    ≡ shifted b w (seen_of text (record { state = s; part = p })) next t.kind (cond w (token_bytes text t) [])
seen_by text s next p t true true = refl
seen_by text s next p t true false = refl
seen_by text s next p t false true = refl
seen_by text s next p t false false = refl

pub seen_moved : (text : List ℕ) (c : Cursor) (t : Token) (next : State)
    → seen_of text (moved_to c t (Some next)) ≡ seen_next (seen_of text c) next t.kind (sign_of text t).word
seen_moved text c t next = seen_by text c.state next c.part t (opens c.state) (is_word t.kind)

pub due_is : (text : List ℕ) (p : Progress) (c : Cursor) → due text p c.part ≡ due_seen p (seen_of text c)
unfolding due
due_is text p c = refl

-- what reading gives
pub record Reads (text : List ℕ) (c : Cursor) (ts : List Token) (end : ℕ) (p q : Progress) : Type 0 where
  pub syntax_holds : refused c.state ts end ≡ None
  pub parts_say : judged text p (parts c ts) ≡ Ok q

whole : (b : Bool) (p q : Progress) → cond b (Some p) None ≡ Some q → (b ≡ true) × (p ≡ q)
whole true p q e = (refl, cc)
whole false p q e = cc

ended : (text : List ℕ) (c : Cursor) (end : ℕ) (p q : Progress) → said p (seen_of text c) [] ≡ Some q → Reads text c [] end p q
ended text c end p q e =
    let h = whole (is_whole c.state) p q e in
    record { syntax_holds = rw h.0 refl; parts_say = ap Ok h.1 }

-- a token that doesn't end a part
within_part : (text : List ℕ) (c d : Cursor) (t : Token) (ts : List Token) (end : ℕ) (p q : Progress) → moved c t ≡ d → next_state c.state t.kind ≡ Some d.state
    → ends d.state ≡ false → Reads text d ts end p q → Reads text c (t ∷ ts) end p q
within_part text c d t ts end p q m s b r = record {
  syntax_holds = rw (s, refused) r.syntax_holds;
  parts_say = rw (m, parts) (rw b r.parts_say);
}

-- a token that ends one
behind_part : (text : List ℕ) (c d : Cursor) (t : Token) (ts : List Token) (end : ℕ) (p r q : Progress) → moved c t ≡ d → next_state c.state t.kind ≡ Some d.state
    → ends d.state ≡ true → due text p d.part ≡ Some r → Reads text d ts end r q → Reads text c (t ∷ ts) end p q
behind_part text c d t ts end p r q m s b u h = record {
  syntax_holds = rw (s, refused) h.syntax_holds;
  parts_say = rw (m, parts) (rw b (rw (u, judged) h.parts_say));
}

pub moved_is : (c : Cursor) (t : Token) (next : State) → next_state c.state t.kind ≡ Some next → moved c t ≡ moved_to c t (Some next)
unfolding moved
moved_is c t next e = ap (moved_to c t) e

go_due : (text : List ℕ) (c : Cursor) (t : Token) (ts : List Token) (ss : List Sign) (end : ℕ) (p q : Progress) (next : State) (o : Option Progress)
    → next_state c.state t.kind ≡ Some next → ends next ≡ true → due_seen p (seen_of text (moved_to c t (Some next))) ≡ o
    → elim o as (λ _. Option Progress) [ None ↦ None | Some r ↦ said r (seen_of text (moved_to c t (Some next))) ss ] ≡ Some q
    → ((r : Progress) → said r (seen_of text (moved_to c t (Some next))) ss ≡ Some q → Reads text (moved_to c t (Some next)) ts end r q)
    → Reads text c (t ∷ ts) end p q
go_due text c t ts ss end p q next None s b d e go = cc
go_due text c t ts ss end p q next (Some r) s b d e go =
    behind_part text c (moved_to c t (Some next)) t ts end p r q (moved_is c t next s) s b (due_is text p (moved_to c t (Some next)) ∙ d) (go r e)

go_ends : (text : List ℕ) (c : Cursor) (t : Token) (ts : List Token) (ss : List Sign) (end : ℕ) (p q : Progress) (next : State) (b : Bool)
    → next_state c.state t.kind ≡ Some next → ends next ≡ b
    → cond b (elim (due_seen p (seen_of text (moved_to c t (Some next)))) as (λ _. Option Progress) [ None ↦ None | Some r ↦ said r (seen_of text (moved_to c t (Some next))) ss ]) (said p (seen_of text (moved_to c t (Some next))) ss) ≡ Some q
    → ((r : Progress) → said r (seen_of text (moved_to c t (Some next))) ss ≡ Some q → Reads text (moved_to c t (Some next)) ts end r q)
    → Reads text c (t ∷ ts) end p q
go_ends text c t ts ss end p q next true s b e go = go_due text c t ts ss end p q next (due_seen p (seen_of text (moved_to c t (Some next)))) s b refl e go
go_ends text c t ts ss end p q next false s b e go = within_part text c (moved_to c t (Some next)) t ts end p q (moved_is c t next s) s b (go p e)

go_step : (text : List ℕ) (c : Cursor) (t : Token) (ts : List Token) (ss : List Sign) (end : ℕ) (p q : Progress) (o : Option State) → next_state c.state t.kind ≡ o
    → elim o as (λ _. Option Progress) [
      | None ↦ None
      | Some next ↦
          cond (ends next)
          (elim (due_seen p (seen_next (seen_of text c) next t.kind (sign_of text t).word)) as (λ _. Option Progress)
          [ None ↦ None | Some r ↦ said r (seen_next (seen_of text c) next t.kind (sign_of text t).word) ss ])
          (said p (seen_next (seen_of text c) next t.kind (sign_of text t).word) ss)
    ] ≡ Some q
    → ((next : State) (r : Progress) → said r (seen_of text (moved_to c t (Some next))) ss ≡ Some q → Reads text (moved_to c t (Some next)) ts end r q)
    → Reads text c (t ∷ ts) end p q
go_step text c t ts ss end p q None s e go = cc
go_step text c t ts ss end p q (Some next) s e go =
    let P : Seen → Type 0 = λ a. cond (ends next) (elim (due_seen p a) as (λ _. Option Progress) [ None ↦ None | Some r ↦ said r a ss ]) (said p a ss) ≡ Some q in
    go_ends text c t ts ss end p q next (ends next) s refl (subst P (sym (seen_moved text c t next)) e) (go next)

pub reads : (text : List ℕ) (ts : List Token) (c : Cursor) (end : ℕ) (p q : Progress) → said p (seen_of text c) (map (sign_of text) ts) ≡ Some q → Reads text c ts end p q
reads text [] c end p q e = ended text c end p q e
reads text (t ∷ ts) c end p q e =
    go_step text c t ts (map (sign_of text) ts) end p q (next_state c.state t.kind) refl e (λ next r h. reads text ts (moved_to c t (Some next)) end r q h)
