-- The tokens of a construct, told by its first one.
use Rattle.std.proofs.Common.{ℕ, zero, suc, ◌≡◌, ◌+◌, ◌<◌, List, [], ◌∷◌, ◌++◌, length, drop, Bool, true, false, ◌&&◌, cond, Option, Some, None, refl, ap, sym, subst, ◌∙◌, add-one, arith}
use Rattle.std.specs.Prelude.{slice_get, unwrap_or, nat_le}
use Rattle.std.specs.List.{AllByRecursion}
use Rattle.std.proofs.lemmas.Bool.{false≢true}
use Rattle.std.proofs.lemmas.Bool.Decides.{nat_tests}
use Rattle.ver_text.specs.declared.kind.Kind.{Kind}
use Rattle.ver_text.specs.declared.kind.Kind.TheVariants.{Name, Number, Literal, Module, Input, Output, Reg, Wire, Assign, Always, Posedge, Endmodule, OpenParen, CloseParen, OpenBracket, CloseBracket, OpenBrace, CloseBrace, Comma, Semicolon, Colon, Becomes, Question, At, Tilde, And, Or, Xor, Plus, Minus, Equal, Less, LessEqual, Gap, Unknown}
use Rattle.ver_text.specs.declared.kind.Rule.{Rule}
use Rattle.ver_text.specs.declared.kind.Rule.TheVariants.{Ended}
use Rattle.ver_text.specs.declared.grammar.State.{State}
use Rattle.ver_text.specs.declared.progress.Progress.{Progress}
use Rattle.ver_text.specs.Kinds.{is_word, same_kind, same_rule, number_of_kind}
use Rattle.ver_text.specs.Grammar.{behind, next_rule, rule_begun, next_state, within, is_whole}
use Rattle.ver_text.specs.Parts.{ends, closes}
use Rattle.ver_text.specs.Spelling.{Sign}
use Rattle.ver_text.proofs.Signs.{Seen, said, seen_next, due_seen}
use Rattle.ver_text.proofs.Segments.{Boundary, due_then}
use Rattle.ver_text.proofs.Refusals.{front_of_drop, rest_of_drop}
use Rattle.ver_text.proofs.Exact.{eq_of}
use Rattle.ver_text.proofs.Told.{Bare}

-- ---- kinds are told apart

kinds : List Kind
kinds = Name ∷ Number ∷ Literal ∷ Module ∷ Input ∷ Output ∷ Reg ∷ Wire ∷ Assign ∷ Always ∷ Posedge ∷ Endmodule ∷ OpenParen ∷ CloseParen ∷ OpenBracket ∷ CloseBracket ∷ OpenBrace ∷ CloseBrace ∷ Comma ∷ Semicolon ∷ Colon ∷ Becomes ∷ Question ∷ At ∷ Tilde ∷ And ∷ Or ∷ Xor ∷ Plus ∷ Minus ∷ Equal ∷ Less ∷ LessEqual ∷ Gap ∷ Unknown ∷ []

kind_back : (k : Kind) → unwrap_or (slice_get kinds (number_of_kind k)) Gap ≡ k
unfolding kinds
kind_back Name = refl
kind_back _ = refl

pub kinds_same : (a b : Kind) → same_kind a b ≡ true → a ≡ b
kinds_same a b e = sym (kind_back a) ∙ (ap (λ n. unwrap_or (slice_get kinds n) Gap) (eq_of (number_of_kind a) (number_of_kind b) e) ∙ kind_back b)

not_end : (k x : Kind) (xs : List Kind) → behind k ≡ x ∷ xs → same_kind k Endmodule ≡ false
not_end Endmodule x xs e = cc
not_end _ x xs e = refl

-- ---- tokens of given kinds

abbrev pub front : List (List ℕ) → List ℕ
front [] = []
front (w ∷ ws) = w

abbrev pub tail : List (List ℕ) → List (List ℕ)
tail [] = []
tail (w ∷ ws) = ws

-- tokens of these kinds, the names, numbers and literals among them in this order
abbrev pub fill : List Kind → List (List ℕ) → List Sign
fill [] ws = []
fill (k ∷ ks) ws = record { kind = k; word = cond (is_word k) (front ws) [] } ∷ fill ks (cond (is_word k) (tail ws) ws)

pub record Followed (left : List Kind) (ss : List Sign) : Type 0 where
  pub words : List (List ℕ)
  pub rest : List Sign
  pub split : ss ≡ fill left words ++ rest
  pub bare : AllByRecursion Bare rest

filled_by : (b : Bool) (k : Kind) (s : Sign) (ks : List Kind) (ws : List (List ℕ)) (rest ss : List Sign) → k ≡ s.kind → (b ≡ false → s.word ≡ []) → ss ≡ fill ks ws ++ rest
    → s ∷ ss
    ≡ record { kind = k; word = cond b (front (cond b (s.word ∷ ws) ws)) [] } ∷ (fill ks (cond b (tail (cond b (s.word ∷ ws) ws)) (cond b (s.word ∷ ws) ws)) ++ rest)
filled_by true k s ks ws rest ss e n h =
    ap (λ xs. s ∷ xs) h ∙ ap (λ (x : Kind). record { kind = x; word = s.word } ∷ (fill ks ws ++ rest)) (sym e)
filled_by false k s ks ws rest ss e n h =
    ap (λ xs. s ∷ xs) h ∙ (ap (λ (x : Kind). record { kind = x; word = s.word } ∷ (fill ks ws ++ rest)) (sym e)
    ∙ ap (λ (w : List ℕ). record { kind = k; word = w } ∷ (fill ks ws ++ rest)) (n refl))

filled : (k : Kind) (s : Sign) (ks : List Kind) (ss : List Sign) → k ≡ s.kind → Bare s → Followed ks ss → Followed (k ∷ ks) (s ∷ ss)
filled k s ks ss e n f = record {
  words = cond (is_word k) (s.word ∷ f.words) f.words;
  rest = f.rest;
  split = filled_by (is_word k) k s ks f.words f.rest ss e (λ b. n.none (ap is_word (sym e) ∙ b)) f.split;
  bare = f.bare;
}

-- ---- the tokens that a construct still wants

abbrev stepped : Progress → Seen → Sign → List Sign → Option State → Option Progress
stepped p a s ss None = None
stepped p a s ss (Some next) =
    cond (ends next) (due_then (due_seen p (seen_next a next s.kind s.word)) (λ r. said r (seen_next a next s.kind s.word) ss))
    (said p (seen_next a next s.kind s.word) ss)

pub record Goes (p : Progress) (a : Seen) (s : Sign) (ss : List Sign) (q : Progress) (b : Bool) (next : State) : Type 0 where
  pub holds : b ≡ true
  pub goes : stepped p a s ss (Some next) ≡ Some q

goes_by : (p : Progress) (a : Seen) (s : Sign) (ss : List Sign) (q : Progress) (b : Bool) (next : State) → stepped p a s ss (cond b (Some next) None) ≡ Some q
    → Goes p a s ss q b next
goes_by p a s ss q true next e = record { holds = refl; goes = e }
goes_by p a s ss q false next e = cc

wanted_by : (p : Progress) (a : Seen) (s : Sign) (ss : List Sign) (q : Progress) (k : Kind) (wanted : Option Kind) → wanted ≡ Some k
    → stepped p a s ss (within a.state wanted s.kind) ≡ Some q
    → Goes p a s ss q (same_kind k s.kind) (record { first = a.state.first; done = a.state.done + 1 })
wanted_by p a s ss q k None w e = cc
wanted_by p a s ss q k (Some x) w e =
    let same : x ≡ k = cc in
    subst (λ y. Goes p a s ss q (same_kind y s.kind) (record { first = a.state.first; done = a.state.done + 1 })) same
    (goes_by p a s ss q (same_kind x s.kind) (record { first = a.state.first; done = a.state.done + 1 }) e)

wanted_goes : (p : Progress) (a : Seen) (s : Sign) (ss : List Sign) (q : Progress) (k : Kind) → slice_get (behind a.state.first) a.state.done ≡ Some k
    → said p a (s ∷ ss) ≡ Some q → Goes p a s ss q (same_kind k s.kind) (record { first = a.state.first; done = a.state.done + 1 })
unfolding next_state
wanted_goes p a s ss q k w e = wanted_by p a s ss q k (slice_get (behind a.state.first) a.state.done) w e

more_left : (xs js : List Kind) (k j : Kind) (n : ℕ) → drop n xs ≡ k ∷ j ∷ js → n + 1 < length xs
more_left [] js k j zero e = cc
more_left [] js k j (suc n) e = cc
more_left (x ∷ []) js k j zero e = cc
more_left (x ∷ y ∷ xs) js k j zero e = omega arith
more_left (x ∷ xs) js k j (suc n) e = let h : n + 1 < length xs = more_left xs js k j n e in omega arith

not_done : (n m : ℕ) (b : Bool) → m < n → (nat_le n m && b) ≡ false
not_done n m b h = let e : nat_le n m ≡ false = grind (arith, nat_tests) in rw e refl

unended : (p : Progress) (a : Seen) (s : Sign) (ss : List Sign) (q : Progress) (next : State) → next.done < length (behind next.first)
    → stepped p a s ss (Some next) ≡ Some q → said p (seen_next a next s.kind s.word) ss ≡ Some q
unended p a s ss q next h e = rw (not_done (length (behind next.first)) next.done (closes next.first) h) at e

no_text : (b : Bool) (p q : Progress) → b ≡ false → cond b (Some p) None ≡ Some q → ⊥
no_text true p q n e = cc
no_text false p q n e = cc

follow : (left : List Kind) (p : Progress) (a : Seen) (ss : List Sign) (q : Progress) → drop a.state.done (behind a.state.first) ≡ left → is_whole a.state ≡ false
    → AllByRecursion Bare ss → said p a ss ≡ Some q → Followed left ss
follow [] p a ss q d w n e = record { words = []; rest = ss; split = refl; bare = n }
follow (k ∷ ks) p a [] q d w n e = absurd (no_text (is_whole a.state) p q w e)
follow (k ∷ []) p a (s ∷ ss) q d w n e =
    let g = wanted_goes p a s ss q k (front_of_drop (behind a.state.first) [] k a.state.done d) e in
    filled k s [] ss (kinds_same k s.kind g.holds) n.0 (record { words = []; rest = ss; split = refl; bare = n.1 })
follow (k ∷ j ∷ js) p a (s ∷ ss) q d w n e =
    let next : State = record { first = a.state.first; done = a.state.done + 1 } in
    let g = wanted_goes p a s ss q k (front_of_drop (behind a.state.first) (j ∷ js) k a.state.done d) e in
    let more : drop next.done (behind next.first) ≡ j ∷ js = rw add-one (rest_of_drop (behind a.state.first) (j ∷ js) k a.state.done d) in
    filled k s (j ∷ js) ss (kinds_same k s.kind g.holds) n.0
    (follow (j ∷ js) p (seen_next a next s.kind s.word) ss q more w n.1
    (unended p a s ss q next (more_left (behind a.state.first) js k j a.state.done d) g.goes))

-- ---- whole constructs

-- The next construct, by the first token, and what follows it.
pub record Construct (r : Rule) (ss : List Sign) : Type 0 where
  pub kind : Kind
  pub word : List ℕ
  pub words : List (List ℕ)
  pub rest : List Sign
  pub fits : same_rule r (rule_begun kind) ≡ true
  pub split : ss ≡ record { kind = kind; word = cond (is_word kind) word [] } ∷ (fill (behind kind) words ++ rest)
  pub bare : AllByRecursion Bare rest

none_by : (p : Progress) (a : Seen) (s : Sign) (ss : List Sign) (q : Progress) (r : Rule) (wanted : Option Kind) → wanted ≡ None → next_rule a.state.first ≡ r
    → stepped p a s ss (within a.state wanted s.kind) ≡ Some q
    → Goes p a s ss q (same_rule r (rule_begun s.kind)) (record { first = s.kind; done = 0 })
none_by p a s ss q r (Some x) w n e = cc
none_by p a s ss q r None w n e =
    subst (λ y. Goes p a s ss q (same_rule y (rule_begun s.kind)) (record { first = s.kind; done = 0 })) n
    (goes_by p a s ss q (same_rule (next_rule a.state.first) (rule_begun s.kind)) (record { first = s.kind; done = 0 }) e)

first_goes : (p : Progress) (a : Seen) (s : Sign) (ss : List Sign) (q : Progress) (r : Rule) → Boundary a r → said p a (s ∷ ss) ≡ Some q
    → Goes p a s ss q (same_rule r (rule_begun s.kind)) (record { first = s.kind; done = 0 })
unfolding next_state
first_goes p a s ss q r d e = none_by p a s ss q r (slice_get (behind a.state.first) a.state.done) d.none d.next e

behind_first : (left : List Kind) (p : Progress) (a : Seen) (s : Sign) (ss : List Sign) (q : Progress) → behind s.kind ≡ left → AllByRecursion Bare ss
    → stepped p a s ss (Some (record { first = s.kind; done = 0 })) ≡ Some q → Followed left ss
behind_first [] p a s ss q b n e = record { words = []; rest = ss; split = refl; bare = n }
behind_first (x ∷ xs) p a s ss q b n e =
    let l : 0 < length (behind s.kind) = rw b (omega arith) in
    follow (x ∷ xs) p (seen_next a (record { first = s.kind; done = 0 }) s.kind s.word) ss q b (not_end s.kind x xs b) n
    (unended p a s ss q (record { first = s.kind; done = 0 }) l e)

rule_whole : (k : Kind) (r : Rule) → next_rule k ≡ r → same_kind k Endmodule ≡ true → same_rule r Ended ≡ true
rule_whole k r n e = ap (λ x. same_rule x Ended) (sym n ∙ ap next_rule (kinds_same k Endmodule e))

some_text : (b : Bool) (p q : Progress) → cond b (Some p) None ≡ Some q → b ≡ true
some_text true p q e = refl
some_text false p q e = cc

bare_word : (b : Bool) (word : List ℕ) → (b ≡ false → word ≡ []) → word ≡ cond b word []
bare_word true word n = refl
bare_word false word n = n refl

pub construct : (r : Rule) (p : Progress) (a : Seen) (ss : List Sign) (q : Progress) → Boundary a r → same_rule r Ended ≡ false → AllByRecursion Bare ss → said p a ss ≡ Some q
    → Construct r ss
construct r p a [] q d n b e = absurd (false≢true (sym n ∙ rule_whole a.state.first r d.next (some_text (is_whole a.state) p q e)))
construct r p a (s ∷ ss) q d n b e =
    let g = first_goes p a s ss q r d e in
    let f = behind_first (behind s.kind) p a s ss q refl b.1 g.goes in
    record {
      kind = s.kind;
      word = s.word;
      words = f.words;
      rest = f.rest;
      fits = g.holds;
      split = ap (λ xs. s ∷ xs) f.split ∙ ap (λ (w : List ℕ). record { kind = s.kind; word = w } ∷ (fill (behind s.kind) f.words ++ f.rest)) (bare_word (is_word s.kind) s.word b.0.none);
      bare = f.bare;
    }

-- ---- the end

never_ended : (k : Kind) → same_rule Ended (rule_begun k) ≡ false
never_ended Name = refl
never_ended _ = refl

-- nothing follows the end
pub nothing_more : (p : Progress) (a : Seen) (ss : List Sign) (q : Progress) → Boundary a Ended → said p a ss ≡ Some q → (ss ≡ []) × (p ≡ q)
nothing_more p a [] q d e = let t = some_text (is_whole a.state) p q e in (refl, let h : Some p ≡ Some q = (rw t at e) in cc)
nothing_more p a (s ∷ ss) q d e = absurd (false≢true (sym (never_ended s.kind) ∙ (first_goes p a s ss q Ended d e).holds))
