-- What the tokens of each part say.
use Rattle.std.proofs.Common.{ℕ, ◌≡◌, ◌-◌, List, [], ◌∷◌, ◌++◌, Bool, true, false, cond, Option, Some, None, refl, ap, ◌∙◌}
use Rattle.std.specs.Prelude.{codes, decimal, slice_get}
use Rattle.ver_text.specs.declared.kind.Kind.{Kind}
use Rattle.ver_text.specs.declared.kind.Kind.TheVariants as kind
use Rattle.ver_text.specs.declared.kind.Rule.{Rule}
use Rattle.ver_text.specs.declared.kind.Rule.TheVariants as rule
use Rattle.ver_text.specs.declared.progress.Progress.{Progress}
use Rattle.ver_text.specs.Kinds.{is_word, same_rule}
use Rattle.ver_text.specs.Grammar.{behind, next_rule, rule_begun, next_state, start}
use Rattle.ver_text.specs.Parts.{ends, opens, begins_parts}
use Rattle.ver_text.specs.Due.{due_by}
use Rattle.ver_text.specs.Spelling as spec
use Rattle.ver_text.specs.Spelling.{Sign, sign, signs, tight, apart, last, tight_name, apart_name, tight_number, tight_word}
use Rattle.ver_text.proofs.Signs.{Seen, said, due_seen}
use Rattle.ver_text.proofs.Refusals.{begins}

-- a construct is complete, and this rule is next
pub record Boundary (a : Seen) (r : Rule) : Type 0 where
  pub none : slice_get (behind a.state.first) a.state.done ≡ None
  pub next : next_rule a.state.first ≡ r
  pub open_it : opens a.state ≡ begins_parts r

-- what was due, and what follows it
abbrev pub due_then : Option Progress → (Progress → Option Progress) → Option Progress
due_then o more = elim o as (λ _. Option Progress) [ None ↦ None | Some q ↦ more q ]

abbrev pub opened : Bool → Kind → Seen → Seen
opened b k a = record { state = record { first = k; done = 0 }; head = cond b k a.head; form = k; fourth = a.fourth; third = a.third; second = a.second; last = a.last }

first_by : (p : Progress) (a : Seen) (b wordy ending : Bool) (k : Kind) (w : List ℕ) (ss : List Sign) → wordy ≡ false → ending ≡ false
    → cond ending
    (due_then (due_seen p (record { state = record { first = k; done = 0 }; head = cond b k a.head; form = k; fourth = cond wordy a.third a.fourth; third = cond wordy a.second a.third; second = cond wordy a.last a.second; last = cond wordy w a.last }))
    (λ q. said q (record { state = record { first = k; done = 0 }; head = cond b k a.head; form = k; fourth = cond wordy a.third a.fourth; third = cond wordy a.second a.third; second = cond wordy a.last a.second; last = cond wordy w a.last }) ss))
    (said p (record { state = record { first = k; done = 0 }; head = cond b k a.head; form = k; fourth = cond wordy a.third a.fourth; third = cond wordy a.second a.third; second = cond wordy a.last a.second; last = cond wordy w a.last }) ss)
    ≡ said p (opened b k a) ss
first_by p a b wordy ending k w ss n e = rw (n, e) refl

-- the first token of a construct that goes on
pub first_said : (p : Progress) (a : Seen) (r : Rule) (k : Kind) (w : List ℕ) (ss : List Sign) → Boundary a r → same_rule r (rule_begun k) ≡ true
    → is_word k ≡ false → ends (record { first = k; done = 0 }) ≡ false → said p a (record { kind = k; word = w } ∷ ss) ≡ said p (opened (begins_parts r) k a) ss
first_said p a r k w ss d t n e =
    rw (begins a.state r k (record { none = d.none; next = d.next }) t, said) (first_by p a (opens a.state) (is_word k) (ends (record { first = k; done = 0 })) k w ss n e)
    ∙ ap (λ b. said p (opened b k a) ss) d.open_it

pub reg_said : (p : Progress) (a : Seen) (width : ℕ) (name : List ℕ) (rest : List Sign) → Boundary a rule.Item
    → said p a (signs (apart kind.Reg ∷ spec.range width ++ tight_name name ∷ last kind.Semicolon ∷ []) ++ rest)
    ≡ due_then (due_by p kind.Reg kind.Reg a.last (decimal (width - 1)) (codes "0") name) (λ q. said q (record { state = record { first = kind.Reg; done = 7 }; head = kind.Reg; form = kind.Reg; fourth = a.last; third = (decimal (width - 1)); second = (codes "0"); last = name }) rest)
unfolding next_state
reg_said p a width name rest d = first_said p a rule.Item kind.Reg [] (signs (spec.range width ++ tight_name name ∷ last kind.Semicolon ∷ []) ++ rest) d refl refl refl

pub wire_said : (p : Progress) (a : Seen) (width : ℕ) (name : List ℕ) (rest : List Sign) → Boundary a rule.Item
    → said p a (signs (apart kind.Wire ∷ spec.range width ++ tight_name name ∷ last kind.Semicolon ∷ []) ++ rest)
    ≡ due_then (due_by p kind.Wire kind.Wire a.last (decimal (width - 1)) (codes "0") name) (λ q. said q (record { state = record { first = kind.Wire; done = 7 }; head = kind.Wire; form = kind.Wire; fourth = a.last; third = (decimal (width - 1)); second = (codes "0"); last = name }) rest)
unfolding next_state
wire_said p a width name rest d = first_said p a rule.Item kind.Wire [] (signs (spec.range width ++ tight_name name ∷ last kind.Semicolon ∷ []) ++ rest) d refl refl refl

pub input_said : (p : Progress) (a : Seen) (width : ℕ) (name : List ℕ) (rest : List Sign) → Boundary a rule.MorePorts
    → said p a (signs (apart kind.Comma ∷ spec.port_pieces kind.Input width name) ++ rest)
    ≡ due_then (due_by p kind.Input kind.Input a.last (decimal (width - 1)) (codes "0") name) (λ q. said q (record { state = record { first = kind.Input; done = 6 }; head = kind.Input; form = kind.Input; fourth = a.last; third = (decimal (width - 1)); second = (codes "0"); last = name }) rest)
unfolding next_state
input_said p a width name rest d = first_said p a rule.MorePorts kind.Comma [] (signs (spec.port_pieces kind.Input width name) ++ rest) d refl refl refl

pub output_said : (p : Progress) (a : Seen) (width : ℕ) (name : List ℕ) (rest : List Sign) → Boundary a rule.MorePorts
    → said p a (signs (apart kind.Comma ∷ spec.port_pieces kind.Output width name) ++ rest)
    ≡ due_then (due_by p kind.Output kind.Output a.last (decimal (width - 1)) (codes "0") name) (λ q. said q (record { state = record { first = kind.Output; done = 6 }; head = kind.Output; form = kind.Output; fourth = a.last; third = (decimal (width - 1)); second = (codes "0"); last = name }) rest)
unfolding next_state
output_said p a width name rest d = first_said p a rule.MorePorts kind.Comma [] (signs (spec.port_pieces kind.Output width name) ++ rest) d refl refl refl

pub literal_said : (p : Progress) (a : Seen) (target : List ℕ) (value : List ℕ) (rest : List Sign) → Boundary a rule.Item
    → said p a (signs (apart kind.Assign ∷ apart_name target ∷ apart kind.Becomes ∷ (tight_word kind.Literal value ∷ []) ++ last kind.Semicolon ∷ []) ++ rest)
    ≡ due_then (due_by p kind.Assign kind.Literal a.second a.last target value) (λ q. said q (record { state = record { first = kind.Literal; done = 1 }; head = kind.Assign; form = kind.Literal; fourth = a.second; third = a.last; second = target; last = value }) rest)
unfolding next_state
literal_said p a target value rest d = first_said p a rule.Item kind.Assign [] (signs (apart_name target ∷ apart kind.Becomes ∷ (tight_word kind.Literal value ∷ []) ++ last kind.Semicolon ∷ []) ++ rest) d refl refl refl

pub not_said : (p : Progress) (a : Seen) (target : List ℕ) (x : List ℕ) (rest : List Sign) → Boundary a rule.Item
    → said p a (signs (apart kind.Assign ∷ apart_name target ∷ apart kind.Becomes ∷ (tight kind.Tilde ∷ tight_name x ∷ []) ++ last kind.Semicolon ∷ []) ++ rest)
    ≡ due_then (due_by p kind.Assign kind.Tilde a.second a.last target x) (λ q. said q (record { state = record { first = kind.Tilde; done = 2 }; head = kind.Assign; form = kind.Tilde; fourth = a.second; third = a.last; second = target; last = x }) rest)
unfolding next_state
not_said p a target x rest d = first_said p a rule.Item kind.Assign [] (signs (apart_name target ∷ apart kind.Becomes ∷ (tight kind.Tilde ∷ tight_name x ∷ []) ++ last kind.Semicolon ∷ []) ++ rest) d refl refl refl

pub name_said : (p : Progress) (a : Seen) (target : List ℕ) (x : List ℕ) (rest : List Sign) → Boundary a rule.Item
    → said p a (signs (apart kind.Assign ∷ apart_name target ∷ apart kind.Becomes ∷ (tight_name x ∷ []) ++ last kind.Semicolon ∷ []) ++ rest)
    ≡ due_then (due_by p kind.Assign kind.Semicolon a.second a.last target x) (λ q. said q (record { state = record { first = kind.Semicolon; done = 0 }; head = kind.Assign; form = kind.Semicolon; fourth = a.second; third = a.last; second = target; last = x }) rest)
unfolding next_state
name_said p a target x rest d = first_said p a rule.Item kind.Assign [] (signs (apart_name target ∷ apart kind.Becomes ∷ (tight_name x ∷ []) ++ last kind.Semicolon ∷ []) ++ rest) d refl refl refl

pub and_said : (p : Progress) (a : Seen) (target : List ℕ) (x : List ℕ) (y : List ℕ) (rest : List Sign) → Boundary a rule.Item
    → said p a (signs (apart kind.Assign ∷ apart_name target ∷ apart kind.Becomes ∷ spec.between x kind.And y ++ last kind.Semicolon ∷ []) ++ rest)
    ≡ due_then (due_by p kind.Assign kind.And a.last target x y) (λ q. said q (record { state = record { first = kind.And; done = 2 }; head = kind.Assign; form = kind.And; fourth = a.last; third = target; second = x; last = y }) rest)
unfolding next_state
and_said p a target x y rest d = first_said p a rule.Item kind.Assign [] (signs (apart_name target ∷ apart kind.Becomes ∷ spec.between x kind.And y ++ last kind.Semicolon ∷ []) ++ rest) d refl refl refl

pub or_said : (p : Progress) (a : Seen) (target : List ℕ) (x : List ℕ) (y : List ℕ) (rest : List Sign) → Boundary a rule.Item
    → said p a (signs (apart kind.Assign ∷ apart_name target ∷ apart kind.Becomes ∷ spec.between x kind.Or y ++ last kind.Semicolon ∷ []) ++ rest)
    ≡ due_then (due_by p kind.Assign kind.Or a.last target x y) (λ q. said q (record { state = record { first = kind.Or; done = 2 }; head = kind.Assign; form = kind.Or; fourth = a.last; third = target; second = x; last = y }) rest)
unfolding next_state
or_said p a target x y rest d = first_said p a rule.Item kind.Assign [] (signs (apart_name target ∷ apart kind.Becomes ∷ spec.between x kind.Or y ++ last kind.Semicolon ∷ []) ++ rest) d refl refl refl

pub xor_said : (p : Progress) (a : Seen) (target : List ℕ) (x : List ℕ) (y : List ℕ) (rest : List Sign) → Boundary a rule.Item
    → said p a (signs (apart kind.Assign ∷ apart_name target ∷ apart kind.Becomes ∷ spec.between x kind.Xor y ++ last kind.Semicolon ∷ []) ++ rest)
    ≡ due_then (due_by p kind.Assign kind.Xor a.last target x y) (λ q. said q (record { state = record { first = kind.Xor; done = 2 }; head = kind.Assign; form = kind.Xor; fourth = a.last; third = target; second = x; last = y }) rest)
unfolding next_state
xor_said p a target x y rest d = first_said p a rule.Item kind.Assign [] (signs (apart_name target ∷ apart kind.Becomes ∷ spec.between x kind.Xor y ++ last kind.Semicolon ∷ []) ++ rest) d refl refl refl

pub plus_said : (p : Progress) (a : Seen) (target : List ℕ) (x : List ℕ) (y : List ℕ) (rest : List Sign) → Boundary a rule.Item
    → said p a (signs (apart kind.Assign ∷ apart_name target ∷ apart kind.Becomes ∷ spec.between x kind.Plus y ++ last kind.Semicolon ∷ []) ++ rest)
    ≡ due_then (due_by p kind.Assign kind.Plus a.last target x y) (λ q. said q (record { state = record { first = kind.Plus; done = 2 }; head = kind.Assign; form = kind.Plus; fourth = a.last; third = target; second = x; last = y }) rest)
unfolding next_state
plus_said p a target x y rest d = first_said p a rule.Item kind.Assign [] (signs (apart_name target ∷ apart kind.Becomes ∷ spec.between x kind.Plus y ++ last kind.Semicolon ∷ []) ++ rest) d refl refl refl

pub minus_said : (p : Progress) (a : Seen) (target : List ℕ) (x : List ℕ) (y : List ℕ) (rest : List Sign) → Boundary a rule.Item
    → said p a (signs (apart kind.Assign ∷ apart_name target ∷ apart kind.Becomes ∷ spec.between x kind.Minus y ++ last kind.Semicolon ∷ []) ++ rest)
    ≡ due_then (due_by p kind.Assign kind.Minus a.last target x y) (λ q. said q (record { state = record { first = kind.Minus; done = 2 }; head = kind.Assign; form = kind.Minus; fourth = a.last; third = target; second = x; last = y }) rest)
unfolding next_state
minus_said p a target x y rest d = first_said p a rule.Item kind.Assign [] (signs (apart_name target ∷ apart kind.Becomes ∷ spec.between x kind.Minus y ++ last kind.Semicolon ∷ []) ++ rest) d refl refl refl

pub equal_said : (p : Progress) (a : Seen) (target : List ℕ) (x : List ℕ) (y : List ℕ) (rest : List Sign) → Boundary a rule.Item
    → said p a (signs (apart kind.Assign ∷ apart_name target ∷ apart kind.Becomes ∷ spec.between x kind.Equal y ++ last kind.Semicolon ∷ []) ++ rest)
    ≡ due_then (due_by p kind.Assign kind.Equal a.last target x y) (λ q. said q (record { state = record { first = kind.Equal; done = 2 }; head = kind.Assign; form = kind.Equal; fourth = a.last; third = target; second = x; last = y }) rest)
unfolding next_state
equal_said p a target x y rest d = first_said p a rule.Item kind.Assign [] (signs (apart_name target ∷ apart kind.Becomes ∷ spec.between x kind.Equal y ++ last kind.Semicolon ∷ []) ++ rest) d refl refl refl

pub less_said : (p : Progress) (a : Seen) (target : List ℕ) (x : List ℕ) (y : List ℕ) (rest : List Sign) → Boundary a rule.Item
    → said p a (signs (apart kind.Assign ∷ apart_name target ∷ apart kind.Becomes ∷ spec.between x kind.Less y ++ last kind.Semicolon ∷ []) ++ rest)
    ≡ due_then (due_by p kind.Assign kind.Less a.last target x y) (λ q. said q (record { state = record { first = kind.Less; done = 2 }; head = kind.Assign; form = kind.Less; fourth = a.last; third = target; second = x; last = y }) rest)
unfolding next_state
less_said p a target x y rest d = first_said p a rule.Item kind.Assign [] (signs (apart_name target ∷ apart kind.Becomes ∷ spec.between x kind.Less y ++ last kind.Semicolon ∷ []) ++ rest) d refl refl refl

pub mux_said : (p : Progress) (a : Seen) (target : List ℕ) (c : List ℕ) (x : List ℕ) (y : List ℕ) (rest : List Sign) → Boundary a rule.Item
    → said p a (signs (apart kind.Assign ∷ apart_name target ∷ apart kind.Becomes ∷ (apart_name c ∷ apart kind.Question ∷ apart_name x ∷ apart kind.Colon ∷ tight_name y ∷ []) ++ last kind.Semicolon ∷ []) ++ rest)
    ≡ due_then (due_by p kind.Assign kind.Question target c x y) (λ q. said q (record { state = record { first = kind.Question; done = 4 }; head = kind.Assign; form = kind.Question; fourth = target; third = c; second = x; last = y }) rest)
unfolding next_state
mux_said p a target c x y rest d = first_said p a rule.Item kind.Assign [] (signs (apart_name target ∷ apart kind.Becomes ∷ (apart_name c ∷ apart kind.Question ∷ apart_name x ∷ apart kind.Colon ∷ tight_name y ∷ []) ++ last kind.Semicolon ∷ []) ++ rest) d refl refl refl

pub concat_said : (p : Progress) (a : Seen) (target : List ℕ) (x : List ℕ) (y : List ℕ) (rest : List Sign) → Boundary a rule.Item
    → said p a (signs (apart kind.Assign ∷ apart_name target ∷ apart kind.Becomes ∷ (tight kind.OpenBrace ∷ tight_name x ∷ apart kind.Comma ∷ tight_name y ∷ tight kind.CloseBrace ∷ []) ++ last kind.Semicolon ∷ []) ++ rest)
    ≡ due_then (due_by p kind.Assign kind.OpenBrace a.last target x y) (λ q. said q (record { state = record { first = kind.OpenBrace; done = 5 }; head = kind.Assign; form = kind.OpenBrace; fourth = a.last; third = target; second = x; last = y }) rest)
unfolding next_state
concat_said p a target x y rest d = first_said p a rule.Item kind.Assign [] (signs (apart_name target ∷ apart kind.Becomes ∷ (tight kind.OpenBrace ∷ tight_name x ∷ apart kind.Comma ∷ tight_name y ∷ tight kind.CloseBrace ∷ []) ++ last kind.Semicolon ∷ []) ++ rest) d refl refl refl

pub select_said : (p : Progress) (a : Seen) (target : List ℕ) (x : List ℕ) (hi : ℕ) (lo : ℕ) (rest : List Sign) → Boundary a rule.Item
    → said p a (signs (apart kind.Assign ∷ apart_name target ∷ apart kind.Becomes ∷ (tight_name x ∷ tight kind.OpenBracket ∷ tight_number hi ∷ tight kind.Colon ∷ tight_number lo ∷ tight kind.CloseBracket ∷ []) ++ last kind.Semicolon ∷ []) ++ rest)
    ≡ due_then (due_by p kind.Assign kind.OpenBracket target x (decimal hi) (decimal lo)) (λ q. said q (record { state = record { first = kind.OpenBracket; done = 5 }; head = kind.Assign; form = kind.OpenBracket; fourth = target; third = x; second = (decimal hi); last = (decimal lo) }) rest)
unfolding next_state
select_said p a target x hi lo rest d = first_said p a rule.Item kind.Assign [] (signs (apart_name target ∷ apart kind.Becomes ∷ (tight_name x ∷ tight kind.OpenBracket ∷ tight_number hi ∷ tight kind.Colon ∷ tight_number lo ∷ tight kind.CloseBracket ∷ []) ++ last kind.Semicolon ∷ []) ++ rest) d refl refl refl

pub update_said : (p : Progress) (a : Seen) (register next : List ℕ) (rest : List Sign) → Boundary a rule.Item
    → said p a (signs (spec.update register next) ++ rest)
    ≡ due_then (due_by p kind.Always kind.Always a.last (codes "clock") register next) (λ q. said q (record { state = record { first = kind.Always; done = 9 }; head = kind.Always; form = kind.Always; fourth = a.last; third = (codes "clock"); second = register; last = next }) rest)
unfolding next_state spec.update
update_said p a register next rest d = first_said p a rule.Item kind.Always [] (signs (tight kind.At ∷ tight kind.OpenParen ∷ apart kind.Posedge ∷ tight_name (codes "clock") ∷ apart kind.CloseParen ∷ apart_name register ∷ apart kind.LessEqual ∷ tight_name next ∷ last kind.Semicolon ∷ []) ++ rest) d refl refl refl

pub close_said : (p : Progress) (a : Seen) (rest : List Sign) → Boundary a rule.MorePorts
    → said p a (signs (tight kind.CloseParen ∷ last kind.Semicolon ∷ []) ++ rest)
    ≡ said p (record { state = record { first = kind.CloseParen; done = 1 }; head = a.head; form = kind.CloseParen; fourth = a.fourth; third = a.third; second = a.second; last = a.last }) rest
unfolding next_state
close_said p a rest d = first_said p a rule.MorePorts kind.CloseParen [] (signs (last kind.Semicolon ∷ []) ++ rest) d refl refl refl

-- before the first token
abbrev pub seen_start : Seen
seen_start = record { state = start; head = kind.Gap; form = kind.Gap; fourth = []; third = []; second = []; last = [] }

pub heading_said : (p : Progress) (name : List ℕ) (rest : List Sign)
    → said p seen_start (signs (spec.heading name) ++ rest)
    ≡ due_then (due_by p kind.Name kind.Module [] [] [] name) (λ q.
    due_then (due_by q kind.Input kind.Input name (decimal 0) (codes "0") (codes "clock")) (λ r.
    said r (record { state = record { first = kind.Input; done = 6 }; head = kind.Input; form = kind.Input; fourth = name; third = (decimal 0); second = (codes "0"); last = (codes "clock") }) rest))
unfolding next_state
heading_said p name rest = refl
