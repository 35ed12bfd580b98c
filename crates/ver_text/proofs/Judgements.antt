-- What a text says, token by token.
use Rattle.std.proofs.Common.{ℕ, ◌≡◌, ◌+◌, ◌<◌, ◌≤◌, List, ◌∷◌, length, drop, Bool, true, false, cond, Option, Some, None, Result, Ok, Err, refl, ap, sym, subst, ◌∙◌}
use Rattle.std.specs.Prelude.{unwrap_or, IfErr, OnOk}
use Rattle.net_cells.specs.declared.netlist.Netlist.{Netlist}
use Rattle.ver_text.specs.declared.fault.TextFault.{TextFault}
use Rattle.ver_text.specs.declared.fault.TextFault.TheVariants.{NotText, Memory}
use Rattle.ver_text.specs.declared.scan.Lexeme.{Lexeme}
use Rattle.ver_text.specs.declared.token.Token.{Token}
use Rattle.ver_text.specs.declared.grammar.State.{State}
use Rattle.ver_text.specs.declared.part.Cursor.{Cursor}
use Rattle.ver_text.specs.declared.progress.Progress.{Progress}
use Rattle.ver_text.specs.Kinds.{is_gap}
use Rattle.ver_text.specs.Lexemes.{first_lexeme}
use Rattle.ver_text.specs.Grammar.{is_whole, next_state, start}
use Rattle.ver_text.specs.Tokens.{refused, tokens_from}
use Rattle.ver_text.specs.Parts.{at_start, ends, moved, moved_to, parts}
use Rattle.ver_text.specs.Due.{at_first, due}
use Rattle.ver_text.specs.Reading.{judged, named_netlist, netlist_of, part_said, parts_say, read_text, said_from, unless_refused, Faults, Gives}
use Rattle.ver_text.proofs.Scans.{next_found, none_left}

-- behind a gap
pub gap_said : (text : List ℕ) (c : Cursor) (p : Progress) (at : ℕ) (l : Lexeme) → at < length text → l ≡ first_lexeme (drop at text) → at + l.more + 1 ≤ length text → is_gap l.kind ≡ true
    → said_from text c p (at + (l.more + 1)) ≡ said_from text c p at
gap_said text c p at l b e k g =
    let found : tokens_from text at ≡ tokens_from text (at + (l.more + 1)) =
    next_found text at l b e k ∙ ap (λ (gap : Bool). cond gap (tokens_from text (at + (l.more + 1))) (record { kind = l.kind; start = at; length = l.more + 1 } ∷ tokens_from text (at + (l.more + 1)))) g in
    ap (λ ts. unless_refused (refused c.state ts (length text)) (judged text p (parts c ts))) (sym found)

token_found : (text : List ℕ) (at : ℕ) (l : Lexeme) → at < length text → l ≡ first_lexeme (drop at text) → at + l.more + 1 ≤ length text → is_gap l.kind ≡ false
    → tokens_from text at ≡ record { kind = l.kind; start = at; length = l.more + 1 } ∷ tokens_from text (at + (l.more + 1))
token_found text at l b e k g =
    next_found text at l b e k ∙ ap (λ (gap : Bool). cond gap (tokens_from text (at + (l.more + 1))) (record { kind = l.kind; start = at; length = l.more + 1 } ∷ tokens_from text (at + (l.more + 1)))) g

-- at a token that can't come
pub wrong_said : (text : List ℕ) (c : Cursor) (p : Progress) (at : ℕ) (l : Lexeme) → at < length text → l ≡ first_lexeme (drop at text) → at + l.more + 1 ≤ length text → is_gap l.kind ≡ false
    → next_state c.state l.kind ≡ None → said_from text c p at ≡ Err at
wrong_said text c p at l b e k g n =
    let token : Token = record { kind = l.kind; start = at; length = l.more + 1 } in
    let rest = tokens_from text (at + (l.more + 1)) in
    ap (λ ts. unless_refused (refused c.state ts (length text)) (judged text p (parts c ts))) (token_found text at l b e k g)
    ∙ rw (n, refused) refl

moved_is : (c : Cursor) (token : Token) (s : State) → next_state c.state token.kind ≡ Some s → moved c token ≡ moved_to c token (Some s)
unfolding moved
moved_is c token s n = ap (moved_to c token) n

-- at a token that can
pub token_said : (text : List ℕ) (c after : Cursor) (p : Progress) (at : ℕ) (l : Lexeme) (s : State) → at < length text → l ≡ first_lexeme (drop at text) → at + l.more + 1 ≤ length text → is_gap l.kind ≡ false
    → next_state c.state l.kind ≡ Some s → after ≡ moved_to c (record { kind = l.kind; start = at; length = l.more + 1 }) (Some s)
    → part_said text after p (at + (l.more + 1)) ≡ said_from text c p at
token_said text c after p at l s b e k g n a =
    let token : Token = record { kind = l.kind; start = at; length = l.more + 1 } in
    let rest = tokens_from text (at + (l.more + 1)) in
    let goes : refused c.state (token ∷ rest) (length text) ≡ refused after.state rest (length text) = rw (n, refused) (ap (λ (x : Cursor). refused x.state rest (length text)) (sym a)) in
    let same : parts c (token ∷ rest) ≡ cond (ends after.state) (after.part ∷ parts after rest) (parts after rest) =
    ap (λ (x : Cursor). cond (ends x.state) (x.part ∷ parts x rest) (parts x rest)) (moved_is c token s n ∙ sym a) in
    sym (ap (λ ts. unless_refused (refused c.state ts (length text)) (judged text p (parts c ts))) (token_found text at l b e k g)
    ∙ ap (λ o. unless_refused o (judged text p (parts c (token ∷ rest)))) goes
    ∙ ap (λ ps. unless_refused (refused after.state rest (length text)) (judged text p ps)) same)

-- where no part has ended
pub none_ended : (text : List ℕ) (c : Cursor) (p : Progress) (at : ℕ) → ends c.state ≡ false → part_said text c p at ≡ said_from text c p at
none_ended text c p at e =
    ap (λ (b : Bool). unless_refused (refused c.state (tokens_from text at) (length text)) (judged text p (cond b (c.part ∷ parts c (tokens_from text at)) (parts c (tokens_from text at))))) e

-- where the part that has ended is due
pub due_said : (text : List ℕ) (c : Cursor) (p q : Progress) (at : ℕ) → ends c.state ≡ true → due text p c.part ≡ Some q → part_said text c p at ≡ said_from text c q at
due_said text c p q at e d =
    ap (λ (b : Bool). unless_refused (refused c.state (tokens_from text at) (length text)) (judged text p (cond b (c.part ∷ parts c (tokens_from text at)) (parts c (tokens_from text at))))) e
    ∙ rw (d, judged) refl

refused_or : (o : Option ℕ) (place : ℕ) → unless_refused {A = Progress} o (Err place) ≡ Err (unwrap_or o place)
refused_or None place = refl
refused_or (Some other) place = refl

-- and where it isn't
pub undue_said : (text : List ℕ) (c : Cursor) (p : Progress) (at : ℕ) → ends c.state ≡ true → due text p c.part ≡ None
    → part_said text c p at ≡ Err (unwrap_or (refused c.state (tokens_from text at) (length text)) c.part.head.start)
undue_said text c p at e d =
    ap (λ (b : Bool). unless_refused (refused c.state (tokens_from text at) (length text)) (judged text p (cond b (c.part ∷ parts c (tokens_from text at)) (parts c (tokens_from text at))))) e
    ∙ rw (d, judged) (refused_or (refused c.state (tokens_from text at) (length text)) c.part.head.start)

-- at the end
pub end_said : (text : List ℕ) (c : Cursor) (p : Progress) (at : ℕ) (whole : Bool) → length text ≤ at → is_whole c.state ≡ whole → said_from text c p at ≡ cond whole (Ok p) (Err (length text))
end_said text c p at true b w = rw (none_left text at b) (rw w refl)
end_said text c p at false b w = rw (none_left text at b) (rw w refl)

-- ---- outcomes

pub faults_at : {A : Type 0} (told : Result A ℕ) (place : ℕ) (fault : TextFault) → told ≡ Err place → fault ≡ NotText place → Faults told fault
faults_at told place fault e f = subst (Faults told) (sym f) e

pub goes_on : {B : Type 0} (r : Result B TextFault) (a b z : Result Progress ℕ) → OnOk r (a ≡ b) → a ≡ z → OnOk r (b ≡ z)
goes_on (Ok u) a b z g e = sym g ∙ e
goes_on (Err f) a b z g e = tt

pub fails_so : {B : Type 0} (r : Result B TextFault) (a z : Result Progress ℕ) → IfErr r (Faults a) → a ≡ z → IfErr r (Faults z)
fails_so (Ok u) a z g e = tt
fails_so (Err f) a z g e = subst (λ (s : Result Progress ℕ). Faults s f) e g

named_later : (o : Option ℕ) (r : Result Progress ℕ) → unless_refused o (netlist_of r) ≡ netlist_of (unless_refused o r)
named_later None r = refl
named_later (Some place) r = refl

-- the netlist is that of what the whole text says
pub read_is : (text : List ℕ) → read_text text ≡ netlist_of (said_from text at_start at_first 0)
unfolding read_text parts_say
read_is text = named_later (refused start (tokens_from text 0) (length text)) (judged text at_first (parts at_start (tokens_from text 0)))

pub read_fails : (text : List ℕ) (fault : TextFault) → Faults (said_from text at_start at_first 0) fault → Faults (read_text text) fault
read_fails text (NotText place) e = read_is text ∙ ap netlist_of e
read_fails text Memory e = tt

pub read_gives : (text : List ℕ) (p : Progress) (r : Result Netlist TextFault) → said_from text at_start at_first 0 ≡ Ok p → Gives (named_netlist p.name p) r → Gives (read_text text) r
read_gives text p (Ok n) e g = read_is text ∙ (ap netlist_of e ∙ g)
read_gives text p (Err (NotText place)) e g = read_is text ∙ (ap netlist_of e ∙ g)
read_gives text p (Err Memory) e g = tt
