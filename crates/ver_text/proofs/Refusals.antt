-- The first token that the syntax refuses is the first after which no continuation has it.
use Rattle.std.proofs.Common.{ℕ, zero, suc, ◌≡◌, ◌+◌, List, [], ◌∷◌, ◌++◌, drop, Bool, true, false, cond, Option, Some, None, refl, ap, sym, subst, ◌∙◌, append_assoc, add-one}
use Rattle.std.specs.Prelude.{slice_get}
use Rattle.std.proofs.lemmas.List.{append-nil}
use Rattle.std.proofs.lemmas.Bool.{false≢true}
use Rattle.dip_lists.proofs.Tests.{own_number}
use Rattle.ver_text.specs.declared.kind.Kind.{Kind}
use Rattle.ver_text.specs.declared.kind.Kind.TheVariants.{Name, Number, Literal, Module, Input, Endmodule, OpenParen, CloseParen, OpenBracket, CloseBracket, Semicolon, Colon}
use Rattle.ver_text.specs.declared.kind.Rule.{Rule}
use Rattle.ver_text.specs.declared.kind.Rule.TheVariants.{Text, Port, MorePorts, Item, Expression, AfterName, Ended, Inner}
use Rattle.ver_text.specs.declared.token.Token.{Token}
use Rattle.ver_text.specs.declared.grammar.State.{State}
use Rattle.ver_text.specs.Kinds.{same_kind, same_rule, number_of_kind}
use Rattle.ver_text.specs.Grammar.{behind, next_rule, rule_begun, start, within, next_state, read_through, then_run, is_whole, is_whole_text, HasSyntax}
use Rattle.ver_text.specs.Tokens.{refused}
use Rattle.ver_text.specs.SyntaxLaw.{kinds_of, CanGoOn, IsTold}

pub same_as_itself : (k : Kind) → same_kind k k ≡ true
same_as_itself k = own_number (number_of_kind k)

-- ---- each state can go on

-- tokens with which a text can end where this rule is next
finish : Rule → List Kind
finish Text = Module ∷ Name ∷ OpenParen ∷ Input ∷ OpenBracket ∷ Number ∷ Colon ∷ Number ∷ CloseBracket ∷ Name ∷ CloseParen ∷ Semicolon ∷ Endmodule ∷ []
finish Port = Input ∷ OpenBracket ∷ Number ∷ Colon ∷ Number ∷ CloseBracket ∷ Name ∷ CloseParen ∷ Semicolon ∷ Endmodule ∷ []
finish MorePorts = CloseParen ∷ Semicolon ∷ Endmodule ∷ []
finish Item = Endmodule ∷ []
finish Expression = Literal ∷ Semicolon ∷ Endmodule ∷ []
finish AfterName = Semicolon ∷ Endmodule ∷ []
finish Ended = []
finish Inner = []

ended : (k : Kind) → next_rule k ≡ Ended → k ≡ Endmodule
ended Endmodule e = refl
ended _ e = cc

outer : (k : Kind) → same_rule (next_rule k) Inner ≡ false
outer Name = refl
outer _ = refl

not_inner : (k : Kind) → next_rule k ≡ Inner → ⊥
not_inner k e = false≢true (sym (rw e at (outer k)))

-- a state at the end of its construct
pub record IsDone (s : State) (r : Rule) : Type 0 where
  pub none : slice_get (behind s.first) s.done ≡ None
  pub next : next_rule s.first ≡ r

begins_by : (s : State) (r : Rule) (k : Kind) (wanted : Option Kind) → wanted ≡ None → next_rule s.first ≡ r → same_rule r (rule_begun k) ≡ true
    → within s wanted k ≡ Some (record { first = k; done = 0 })
begins_by s r k wanted n e t = rw n (rw e (rw t refl))

pub begins : (s : State) (r : Rule) (k : Kind) → IsDone s r → same_rule r (rule_begun k) ≡ true → next_state s k ≡ Some (record { first = k; done = 0 })
unfolding next_state
begins s r k d t = begins_by s r k _ d.none d.next t

finished : (s : State) (r : Rule) → IsDone s r → is_whole_text (read_through s (finish r)) ≡ true
unfolding next_state finish
finished s Text d = rw (begins s Text Module d refl, read_through) refl
finished s Port d = rw (begins s Port Input d refl, read_through) refl
finished s MorePorts d = rw (begins s MorePorts CloseParen d refl, read_through) refl
finished s Item d = rw (begins s Item Endmodule d refl, read_through) refl
finished s Expression d = rw (begins s Expression Literal d refl, read_through) refl
finished s AfterName d = rw (begins s AfterName Semicolon d refl, read_through) refl
finished s Ended d = rw (ended s.first d.next) refl
finished s Inner d = absurd (not_inner s.first d.next)

pub front_of_drop : (xs ks : List Kind) (k : Kind) (n : ℕ) → drop n xs ≡ k ∷ ks → slice_get xs n ≡ Some k
front_of_drop [] ks k zero e = cc
front_of_drop [] ks k (suc n) e = cc
front_of_drop (x ∷ xs) ks k zero e = cc
front_of_drop (x ∷ xs) ks k (suc n) e = front_of_drop xs ks k n e

pub rest_of_drop : (xs ks : List Kind) (k : Kind) (n : ℕ) → drop n xs ≡ k ∷ ks → drop (suc n) xs ≡ ks
rest_of_drop [] ks k zero e = cc
rest_of_drop [] ks k (suc n) e = cc
rest_of_drop (x ∷ xs) ks k zero e = cc
rest_of_drop (x ∷ xs) ks k (suc n) e = rest_of_drop xs ks k n e

none_of_drop : (xs : List Kind) (n : ℕ) → drop n xs ≡ [] → slice_get xs n ≡ None
none_of_drop [] zero e = refl
none_of_drop [] (suc n) e = refl
none_of_drop (x ∷ xs) zero e = cc
none_of_drop (x ∷ xs) (suc n) e = none_of_drop xs n e

goes_by : (s : State) (k : Kind) (wanted : Option Kind) → wanted ≡ Some k → within s wanted k ≡ Some (record { first = s.first; done = s.done + 1 })
goes_by s k wanted e = rw e (rw (same_as_itself k) refl)

goes : (s : State) (k : Kind) → slice_get (behind s.first) s.done ≡ Some k → next_state s k ≡ Some (record { first = s.first; done = s.done + 1 })
unfolding next_state
goes s k e = goes_by s k _ e

-- the tokens still wanted, and then those that end the text
can_finish : (left : List Kind) (s : State) → drop s.done (behind s.first) ≡ left
    → is_whole_text (read_through s (left ++ finish (next_rule s.first))) ≡ true
can_finish [] s e = finished s (next_rule s.first) (record { none = none_of_drop (behind s.first) s.done e; next = refl })
can_finish (k ∷ ks) s e =
    let next : State = record { first = s.first; done = s.done + 1 } in
    let more : drop next.done (behind next.first) ≡ ks = rw add-one (rest_of_drop (behind s.first) ks k s.done e) in
    rw (goes s k (front_of_drop (behind s.first) ks k s.done e), read_through) (can_finish ks next more)

-- ---- from a front to its state

run_on : (xs ys : List Kind) (s : State) → read_through s (xs ++ ys) ≡ then_run (read_through s xs) (λ next. read_through next ys)
run_on [] ys s = refl
run_on (x ∷ xs) ys s =
    elim (next_state s x) as (λ o. then_run o (λ next. read_through next (xs ++ ys)) ≡ then_run (then_run o (λ next. read_through next xs)) (λ next. read_through next ys))
    [ None ↦ refl | Some next ↦ run_on xs ys next ]

kinds-append : (xs ys : List Token) → kinds_of (xs ++ ys) ≡ kinds_of xs ++ kinds_of ys
kinds-append [] ys = refl
kinds-append (x ∷ xs) ys = ap (λ ks. x.kind ∷ ks) (kinds-append xs ys)

state_goes : (kinds more : List Kind) (s : State) → read_through start kinds ≡ Some s → is_whole_text (read_through s more) ≡ true → HasSyntax (kinds ++ more)
state_goes kinds more s e w = rw (run_on kinds more start) (rw e w)

can_go : (kinds : List Kind) (s : State) → read_through start kinds ≡ Some s → CanGoOn kinds
can_go kinds s e =
    let more : List Kind = drop s.done (behind s.first) ++ finish (next_rule s.first) in
    (more, state_goes kinds more s e (can_finish (drop s.done (behind s.first)) s refl))

-- ---- each text

then_state : (front : List Token) (t : Token) (s : State) → read_through start (kinds_of front) ≡ Some s
    → read_through start (kinds_of (front ++ t ∷ [])) ≡ then_run (next_state s t.kind) (λ next. Some next)
then_state front t s e = rw (kinds-append front (t ∷ [])) (rw (run_on (kinds_of front) (t.kind ∷ []) start) (rw e refl))

stuck : (front : List Token) (t : Token) (s : State) (more : List Kind) → read_through start (kinds_of front) ≡ Some s → next_state s t.kind ≡ None
    → HasSyntax (kinds_of (front ++ t ∷ []) ++ more) → ⊥
stuck front t s more e n h =
    let none : read_through start (kinds_of (front ++ t ∷ [])) ≡ None = then_state front t s e ∙ rw n refl in
    let nowhere : read_through start (kinds_of (front ++ t ∷ []) ++ more) ≡ None = run_on (kinds_of (front ++ t ∷ [])) more start ∙ rw none refl in
    false≢true (rw nowhere at h)

told_end : (front : List Token) (s : State) (end : ℕ) (b : Bool) → is_whole s ≡ b → read_through start (kinds_of front) ≡ Some s
    → IsTold (front ++ []) end (cond b None (Some end))
told_end front s end true w e = rw append-nil (rw e w)
told_end front s end false w e = record {
  front = front;
  rest = [];
  split = refl;
  before = can_go (kinds_of front) s e;
  wrong = (refl, λ h. false≢true (sym w ∙ (rw e at h)));
}

told_step : (front : List Token) (s : State) (t : Token) (ts : List Token) (end : ℕ) (o : Option State) → next_state s t.kind ≡ o
    → read_through start (kinds_of front) ≡ Some s
    → ((n : State) → read_through start (kinds_of (front ++ t ∷ [])) ≡ Some n → IsTold ((front ++ t ∷ []) ++ ts) end (refused n ts end))
    → IsTold (front ++ t ∷ ts) end (elim o as (λ _. Option ℕ) [ None ↦ Some t.start | Some next ↦ refused next ts end ])
told_step front s t ts end None n e go = record {
  front = front;
  rest = t ∷ ts;
  split = refl;
  before = can_go (kinds_of front) s e;
  wrong = (refl, λ h. stuck front t s h.0 e n h.1);
}
told_step front s t ts end (Some next) n e go =
    let joined : (front ++ t ∷ []) ++ ts ≡ front ++ t ∷ ts = append_assoc front (t ∷ []) ts in
    subst (λ (all : List Token). IsTold all end (refused next ts end)) joined (go next (then_state front t s e ∙ rw n refl))

told : (front : List Token) (s : State) (tokens : List Token) (end : ℕ) → read_through start (kinds_of front) ≡ Some s → IsTold (front ++ tokens) end (refused s tokens end)
told front s [] end e = told_end front s end (is_whole s) refl e
told front s (t ∷ ts) end e = told_step front s t ts end (next_state s t.kind) refl e (λ n r. told (front ++ t ∷ []) n ts end r)

pub each_told : (tokens : List Token) (end : ℕ) → IsTold tokens end (refused start tokens end)
each_told tokens end = told [] start tokens end refl
