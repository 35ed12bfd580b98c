-- No netlist's text begins with the parts up to the one that is refused.
use Rattle.std.proofs.Common.{ℕ, ◌≡◌, List, [], ◌∷◌, ◌++◌, length, map, Bool, true, false, cond, Option, Some, None, Result, Ok, Err, refl, ap, sym, subst, ◌∙◌}
use Rattle.net_cells.specs.declared.netlist.Netlist.{Netlist}
use Rattle.net_cells.specs.declared.netlist.Port.{Port}
use Rattle.net_cells.specs.Rules.{IsWellFormed}
use Rattle.ver_text.specs.declared.token.Token.{Token}
use Rattle.ver_text.specs.declared.grammar.State.{State}
use Rattle.ver_text.specs.declared.part.Part.{Part}
use Rattle.ver_text.specs.declared.part.Cursor.{Cursor}
use Rattle.ver_text.specs.declared.progress.Progress.{Progress}
use Rattle.ver_text.specs.Due.{at_first}
use Rattle.ver_text.specs.Grammar.{next_state, start}
use Rattle.ver_text.specs.Parts.{at_start, ends, moved, moved_to, parts}
use Rattle.ver_text.specs.PartLaw.{BeginsNone, RefusedPartIsWrong}
use Rattle.ver_text.specs.Reading.{judged, named_netlist, netlist_of, parts_say, read_text, unless_refused}
use Rattle.ver_text.specs.Spelling.{Sign, spelling}
use Rattle.ver_text.specs.TextLaw.{sign_of}
use Rattle.ver_text.specs.Tokens.{refused, tokens_from}
use Rattle.ver_text.proofs.Formed.{good}
use Rattle.ver_text.proofs.Segments.{seen_start}
use Rattle.ver_text.proofs.Signs.{due_is, due_seen, moved_is, said, seen_moved, seen_of}
use Rattle.ver_text.proofs.Spelled.{final, made, spelled_said}
use Rattle.ver_text.proofs.Spells.{first_input}
use Rattle.ver_text.proofs.Sound.{got}
use Rattle.ver_text.proofs.Told.{all_bare, told}

-- behind what was read and known before, a part among these tokens isn't due
record Stops (text : List ℕ) (c : Cursor) (p : Progress) (ts : List Token) (place : ℕ) : Type 0 where
  before : List Token
  last : Token
  more : List Token
  part : Part
  split : ts ≡ before ++ last ∷ more
  ends : parts c (before ++ last ∷ []) ≡ parts c before ++ part ∷ []
  begins : part.head.start ≡ place
  none : (ss : List Sign) → said p (seen_of text c) (map (sign_of text) (before ++ last ∷ []) ++ ss) ≡ None

-- what is known behind a part, by whether it is due
abbrev behind_due : Option Progress → (Progress → Option Progress) → Option Progress
behind_due o go = elim o as (λ _. Option Progress) [ None ↦ None | Some q ↦ go q ]

due_goes : (o : Option Progress) (q : Progress) (go : Progress → Option Progress) → o ≡ Some q → go q ≡ None → behind_due o go ≡ None
due_goes o q go e h = subst (λ x. behind_due x go ≡ None) (sym e) h

none_goes : (o : Option Progress) (go : Progress → Option Progress) → o ≡ None → behind_due o go ≡ None
none_goes o go e = subst (λ x. behind_due x go ≡ None) (sym e) refl

-- a token more, that ends no part
within_part : (text : List ℕ) (c d : Cursor) (p : Progress) (t : Token) (ts : List Token) (place : ℕ) → moved c t ≡ d → next_state c.state t.kind ≡ Some d.state → seen_of text d ≡ seen_of text (moved_to c t (Some d.state))
    → ends d.state ≡ false → Stops text d p ts place → Stops text c p (t ∷ ts) place
within_part text c d p t ts place m s v b h = record {
  before = t ∷ h.before;
  last = h.last;
  more = h.more;
  part = h.part;
  split = ap (λ xs. t ∷ xs) h.split;
  ends = rw (m, parts) (rw b h.ends);
  begins = h.begins;
  none = λ ss. rw (s, said) (rw b (rw (sym (v ∙ seen_moved text c t d.state)) (h.none ss)));
}

-- a token more, that ends a part which is due
behind_part : (text : List ℕ) (c d : Cursor) (p q : Progress) (t : Token) (ts : List Token) (place : ℕ) → moved c t ≡ d → next_state c.state t.kind ≡ Some d.state → seen_of text d ≡ seen_of text (moved_to c t (Some d.state))
    → ends d.state ≡ true → due_seen p (seen_of text d) ≡ Some q → Stops text d q ts place → Stops text c p (t ∷ ts) place
behind_part text c d p q t ts place m s v b u h = record {
  before = t ∷ h.before;
  last = h.last;
  more = h.more;
  part = h.part;
  split = ap (λ xs. t ∷ xs) h.split;
  ends = rw (m, parts) (rw b (ap (λ xs. d.part ∷ xs) h.ends));
  begins = h.begins;
  none = λ ss.
      let tokens = map (sign_of text) (h.before ++ h.last ∷ []) ++ ss in
      rw (s, said) (rw b (subst (λ a. behind_due (due_seen p a) (λ r. said r a tokens) ≡ None) (v ∙ seen_moved text c t d.state)
      (due_goes (due_seen p (seen_of text d)) q (λ r. said r (seen_of text d) tokens) u (h.none ss))));
}

-- the token that ends the part
at_part : (text : List ℕ) (c d : Cursor) (p : Progress) (t : Token) (ts : List Token) → moved c t ≡ d → next_state c.state t.kind ≡ Some d.state → seen_of text d ≡ seen_of text (moved_to c t (Some d.state))
    → ends d.state ≡ true → due_seen p (seen_of text d) ≡ None → Stops text c p (t ∷ ts) d.part.head.start
at_part text c d p t ts m s v b u = record {
  before = [];
  last = t;
  more = ts;
  part = d.part;
  split = refl;
  ends = rw (m, parts) (rw b refl);
  begins = refl;
  none = λ ss.
      rw (s, said) (rw b (subst (λ a. behind_due (due_seen p a) (λ r. said r a ss) ≡ None) (v ∙ seen_moved text c t d.state)
      (none_goes (due_seen p (seen_of text d)) (λ r. said r (seen_of text d) ss) u)));
}

by_due : (text : List ℕ) (c d : Cursor) (p : Progress) (t : Token) (ts : List Token) (place : ℕ) (o : Option Progress) → moved c t ≡ d → next_state c.state t.kind ≡ Some d.state → seen_of text d ≡ seen_of text (moved_to c t (Some d.state))
    → ends d.state ≡ true → due_seen p (seen_of text d) ≡ o
    → elim o as (λ _. Result Progress ℕ) [ None ↦ Err d.part.head.start | Some q ↦ judged text q (parts d ts) ] ≡ Err place
    → ((q : Progress) → judged text q (parts d ts) ≡ Err place → Stops text d q ts place) → Stops text c p (t ∷ ts) place
by_due text c d p t ts place None m s v b u e go =
    let f : d.part.head.start ≡ place = cc in
    subst (Stops text c p (t ∷ ts)) f (at_part text c d p t ts m s v b u)
by_due text c d p t ts place (Some q) m s v b u e go = behind_part text c d p q t ts place m s v b u (go q e)

by_end : (text : List ℕ) (c d : Cursor) (p : Progress) (t : Token) (ts : List Token) (place : ℕ) (b : Bool) → moved c t ≡ d → next_state c.state t.kind ≡ Some d.state → seen_of text d ≡ seen_of text (moved_to c t (Some d.state))
    → ends d.state ≡ b → judged text p (cond b (d.part ∷ parts d ts) (parts d ts)) ≡ Err place
    → ((q : Progress) → judged text q (parts d ts) ≡ Err place → Stops text d q ts place) → Stops text c p (t ∷ ts) place
by_end text c d p t ts place false m s v b e go = within_part text c d p t ts place m s v b (go p e)
by_end text c d p t ts place true m s v b e go =
    let P : Option Progress → Type 0 = λ o. elim o as (λ _. Result Progress ℕ) [ None ↦ Err d.part.head.start | Some q ↦ judged text q (parts d ts) ] ≡ Err place in
    by_due text c d p t ts place (due_seen p (seen_of text d)) m s v b refl (subst P (due_is text p d) e) go

by_state : (text : List ℕ) (c : Cursor) (p : Progress) (t : Token) (ts : List Token) (end place : ℕ) (o : Option State) → next_state c.state t.kind ≡ o
    → elim o as (λ _. Option ℕ) [ None ↦ Some t.start | Some next ↦ refused next ts end ] ≡ None
    → judged text p (parts c (t ∷ ts)) ≡ Err place
    → ((next : State) (q : Progress) → refused next ts end ≡ None → judged text q (parts (moved_to c t (Some next)) ts) ≡ Err place → Stops text (moved_to c t (Some next)) q ts place)
    → Stops text c p (t ∷ ts) place
by_state text c p t ts end place None s n e go = cc
by_state text c p t ts end place (Some next) s n e go =
    let Q : Cursor → Type 0 = λ d. judged text p (cond (ends d.state) (d.part ∷ parts d ts) (parts d ts)) ≡ Err place in
    by_end text c (moved_to c t (Some next)) p t ts place (ends next) (moved_is c t next s) s refl refl (subst Q (moved_is c t next s) e) (λ q h. go next q n h)

stops : (text : List ℕ) (ts : List Token) (c : Cursor) (p : Progress) (end place : ℕ) → refused c.state ts end ≡ None → judged text p (parts c ts) ≡ Err place → Stops text c p ts place
stops text [] c p end place n e = cc
stops text (t ∷ ts) c p end place n e =
    by_state text c p t ts end place (next_state c.state t.kind) refl n e (λ next q m h. stops text ts (moved_to c t (Some next)) q end place m h)

none_and_some : (o : Option Progress) (q : Progress) → o ≡ None → o ≡ Some q → ⊥
none_and_some o q a b = cc

begins_none : (front : List Sign) → ((ss : List Sign) → said at_first seen_start (front ++ ss) ≡ None) → BeginsNone front
begins_none front h n w more e =
    let f = first_input n.inputs w.reset in
    let m = made n.name f.0 n.regs n.cells n.outputs in
    let g : n ≡ m = ap (λ (ins : List Port). record { name = n.name; inputs = ins; regs = n.regs; cells = n.cells; outputs = n.outputs }) f.1 in
    let all = spelled_said n.name f.0 n.regs n.cells n.outputs (good n.name f.0 n.regs n.cells n.outputs (subst IsWellFormed g w)) in
    let s : spelling m ≡ front ++ more = ap spelling (sym g) ∙ e in
    none_and_some (said at_first seen_start (spelling m)) (final n.name f.0 n.regs n.cells n.outputs) (ap (said at_first seen_start) s ∙ h more) all

by_parts : (text : List ℕ) (place : ℕ) (r : Result Progress ℕ) → judged text at_first (parts at_start (tokens_from text 0)) ≡ r
    → refused start (tokens_from text 0) (length text) ≡ None → netlist_of r ≡ Err place → judged text at_first (parts at_start (tokens_from text 0)) ≡ Err place
by_parts text place (Err other) j n e = let f : other ≡ place = cc in j ∙ ap Err f
by_parts text place (Ok p) j n e =
    let g = got (map (sign_of text) (tokens_from text 0)) p (all_bare text (tokens_from text 0)) (told text (tokens_from text 0) at_start (length text) at_first p n j) in
    absurd (ok_and_err (made g.name g.is g.rs g.cs g.os) place (subst (λ (q : Progress). named_netlist q.name q ≡ Err place) (sym g.final) e))
  where
    ok_and_err : (m : Netlist) (place : ℕ) → ◌≡◌ {A = Result Netlist ℕ} (Ok m) (Err place) → ⊥
    ok_and_err m place e = cc

by_refusal : (text : List ℕ) (place : ℕ) (o : Option ℕ) → o ≡ None → unless_refused o (parts_say text) ≡ Err place → parts_say text ≡ Err place
by_refusal text place None n e = e
by_refusal text place (Some other) n e = cc

parts_refuse : (text : List ℕ) (place : ℕ) → refused start (tokens_from text 0) (length text) ≡ None → parts_say text ≡ Err place → judged text at_first (parts at_start (tokens_from text 0)) ≡ Err place
unfolding parts_say
parts_refuse text place n e = by_parts text place (judged text at_first (parts at_start (tokens_from text 0))) refl n e

read_refuses : (text : List ℕ) (place : ℕ) → refused start (tokens_from text 0) (length text) ≡ None → read_text text ≡ Err place → parts_say text ≡ Err place
unfolding read_text
read_refuses text place n e = by_refusal text place (refused start (tokens_from text 0) (length text)) n e

pub refused_part : RefusedPartIsWrong
refused_part text place n e =
    let h = stops text (tokens_from text 0) at_start at_first (length text) place n (parts_refuse text place n (read_refuses text place n e)) in
    record { before = h.before; last = h.last; more = h.more; part = h.part; split = h.split; ends = h.ends; begins = h.begins; none = begins_none (map (sign_of text) (h.before ++ h.last ∷ [])) h.none }
