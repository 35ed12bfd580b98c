-- The items of a text, as its tokens say them.
use Rattle.std.proofs.Common.{ℕ, ◌≡◌, List, [], ◌∷◌, ◌++◌, Bool, true, false, cond, Option, Some, None, refl, sym, subst, ◌∙◌}
use Rattle.std.specs.List.{AllByRecursion}
use Rattle.ver_text.specs.declared.kind.Kind.{Kind}
use Rattle.ver_text.specs.declared.kind.Kind.TheVariants as kind
use Rattle.ver_text.specs.declared.kind.Rule.{Rule}
use Rattle.ver_text.specs.declared.kind.Rule.TheVariants as rule
use Rattle.ver_text.specs.declared.progress.Progress.{Progress}
use Rattle.ver_text.specs.Kinds.{is_word, same_rule}
use Rattle.ver_text.specs.Grammar.{behind, rule_begun, next_state}
use Rattle.ver_text.specs.Due.{due_by, due_register, due_wire, due_assignment, due_update, due_end, target, width_of}
use Rattle.ver_text.specs.Spelling.{Sign}
use Rattle.ver_text.proofs.Signs.{Seen, said}
use Rattle.ver_text.proofs.Segments.{Boundary, due_then, first_said}
use Rattle.ver_text.proofs.Refusals.{begins}
use Rattle.ver_text.proofs.Told.{Bare}
use Rattle.ver_text.proofs.Constructs.{front, tail, fill, construct}

-- ---- tokens

abbrev pub plain : Kind → Sign
plain k = record { kind = k; word = [] }

abbrev pub named : List ℕ → Sign
named word = record { kind = kind.Name; word = word }

abbrev pub numbered : List ℕ → Sign
numbered word = record { kind = kind.Number; word = word }

-- the declaration of a net
abbrev pub net_signs : Kind → List ℕ → List ℕ → List ℕ → List Sign
net_signs what high low name =
    plain what ∷ plain kind.OpenBracket ∷ numbered high ∷ plain kind.Colon ∷ numbered low ∷ plain kind.CloseBracket ∷ named name ∷ plain kind.Semicolon ∷ []

-- an expression, by its form and its last names, numbers and literals
abbrev pub valued : Kind → List ℕ → List ℕ → List ℕ → List Sign
valued kind.Literal third second last = record { kind = kind.Literal; word = last } ∷ []
valued kind.Tilde third second last = plain kind.Tilde ∷ named last ∷ []
valued kind.OpenBrace third second last = plain kind.OpenBrace ∷ named second ∷ plain kind.Comma ∷ named last ∷ plain kind.CloseBrace ∷ []
valued kind.Semicolon third second last = named last ∷ []
valued kind.Question third second last = named third ∷ plain kind.Question ∷ named second ∷ plain kind.Colon ∷ named last ∷ []
valued kind.OpenBracket third second last =
    named third ∷ plain kind.OpenBracket ∷ numbered second ∷ plain kind.Colon ∷ numbered last ∷ plain kind.CloseBracket ∷ []
valued form third second last = named second ∷ plain form ∷ named last ∷ []

abbrev pub assigned_signs : List ℕ → List Sign → List Sign
assigned_signs name value = plain kind.Assign ∷ named name ∷ plain kind.Becomes ∷ (value ++ plain kind.Semicolon ∷ [])

abbrev pub update_signs : List ℕ → List ℕ → List ℕ → List Sign
update_signs clock register next =
    plain kind.Always ∷ plain kind.At ∷ plain kind.OpenParen ∷ plain kind.Posedge ∷ named clock ∷ plain kind.CloseParen ∷ named register ∷ plain kind.LessEqual
    ∷ named next ∷ plain kind.Semicolon ∷ []

-- ---- items

-- A register or the net of a cell: the bounds of its range, and its name. A value: its form and the last four names, numbers and literals.
-- An update: the clock, the register and its next net.
pub data Item : Type 0 where
  register : List ℕ → List ℕ → List ℕ → Item
  wire : List ℕ → List ℕ → List ℕ → Item
  value : Kind → List ℕ → List ℕ → List ℕ → List ℕ → Item
  update : List ℕ → List ℕ → List ℕ → Item
  ending : Item

abbrev pub item_signs : Item → List Sign
item_signs (register high low name) = net_signs kind.Reg high low name
item_signs (wire high low name) = net_signs kind.Wire high low name
item_signs (value form fourth third second last) = assigned_signs (target form fourth third second) (valued form third second last)
item_signs (update clock reg next) = update_signs clock reg next
item_signs ending = plain kind.Endmodule ∷ []

abbrev pub item_due : Progress → Item → Option Progress
item_due p (register high low name) = due_register p name (width_of high low)
item_due p (wire high low name) = due_wire p name (width_of high low)
item_due p (value form fourth third second last) = due_assignment p form fourth third second last
item_due p (update clock reg next) = due_update p clock reg next
item_due p ending = due_end p

-- what comes behind it
abbrev pub item_next : Item → Rule
item_next ending = rule.Ended
item_next _ = rule.Item

-- The next item, which is due, and what follows it.
pub record Heard (p q : Progress) (ss : List Sign) : Type 0 where
  pub item : Item
  pub rest : List Sign
  pub next : Seen
  pub after : Progress
  pub split : ss ≡ item_signs item ++ rest
  pub taken : item_due p item ≡ Some after
  pub goes : said after next rest ≡ Some q
  pub bound : Boundary next (item_next item)
  pub bare : AllByRecursion Bare rest

pub record Then (o : Option Progress) (more : Progress → Option Progress) (q : Progress) : Type 0 where
  pub after : Progress
  pub taken : o ≡ Some after
  pub goes : more after ≡ Some q

pub then_of : (o : Option Progress) (more : Progress → Option Progress) (q : Progress) → due_then o more ≡ Some q → Then o more q
then_of None more q e = cc
then_of (Some r) more q e = record { after = r; taken = refl; goes = e }

item_heard : (item : Item) (next : Seen) (p q : Progress) (ss rest : List Sign) → AllByRecursion Bare rest → Boundary next (item_next item)
    → ss ≡ item_signs item ++ rest → due_then (item_due p item) (λ r. said r next rest) ≡ Some q → Heard p q ss
item_heard item next p q ss rest n d s e =
    let h = then_of (item_due p item) (λ r. said r next rest) q e in
    record { item = item; rest = rest; next = next; after = h.after; split = s; taken = h.taken; goes = h.goes; bound = d; bare = n }

-- ---- values

-- behind the name that is assigned to
abbrev assigning : Seen → List ℕ → Seen
assigning a name = record {
  state = record { first = kind.Assign; done = 2 };
  head = kind.Assign;
  form = kind.Assign;
  fourth = a.third;
  third = a.second;
  second = a.last;
  last = name;
}

-- behind the first name of an expression
abbrev naming : Seen → List ℕ → List ℕ → Seen
naming a name x = record {
  state = record { first = kind.Name; done = 0 };
  head = kind.Assign;
  form = kind.Name;
  fourth = a.second;
  third = a.last;
  second = name;
  last = x;
}

-- behind a value
abbrev valuing : Kind → ℕ → List ℕ → List ℕ → List ℕ → List ℕ → Seen
valuing form done fourth third second last = record {
  state = record { first = form; done = done };
  head = kind.Assign;
  form = form;
  fourth = fourth;
  third = third;
  second = second;
  last = last;
}

abbrev assigned_to : List ℕ → List Sign → List Sign
assigned_to name ss = plain kind.Assign ∷ named name ∷ plain kind.Becomes ∷ ss

after_name : (k : Kind) (ws : List (List ℕ)) (rest : List Sign) (name x w : List ℕ) (p : Progress) (a : Seen) (q : Progress) → same_rule rule.AfterName (rule_begun k) ≡ true
    → AllByRecursion Bare rest
    → said p (naming a name x) (record { kind = k; word = cond (is_word k) w [] } ∷ (fill (behind k) ws ++ rest)) ≡ Some q
    → Heard p q (assigned_to name (named x ∷ record { kind = k; word = cond (is_word k) w [] } ∷ (fill (behind k) ws ++ rest)))
unfolding next_state due_by
after_name kind.Semicolon ws rest name x w p a q t b e =
    item_heard (value kind.Semicolon a.second a.last name x) (valuing kind.Semicolon 0 a.second a.last name x) p q _ rest b (record { none = refl; next = refl; open_it = refl }) refl e
after_name kind.And ws rest name x w p a q t b e =
    item_heard (value kind.And a.last name x (front ws)) (valuing kind.And 2 a.last name x (front ws)) p q _ rest b (record { none = refl; next = refl; open_it = refl }) refl e
after_name kind.Or ws rest name x w p a q t b e =
    item_heard (value kind.Or a.last name x (front ws)) (valuing kind.Or 2 a.last name x (front ws)) p q _ rest b (record { none = refl; next = refl; open_it = refl }) refl e
after_name kind.Xor ws rest name x w p a q t b e =
    item_heard (value kind.Xor a.last name x (front ws)) (valuing kind.Xor 2 a.last name x (front ws)) p q _ rest b (record { none = refl; next = refl; open_it = refl }) refl e
after_name kind.Plus ws rest name x w p a q t b e =
    item_heard (value kind.Plus a.last name x (front ws)) (valuing kind.Plus 2 a.last name x (front ws)) p q _ rest b (record { none = refl; next = refl; open_it = refl }) refl e
after_name kind.Minus ws rest name x w p a q t b e =
    item_heard (value kind.Minus a.last name x (front ws)) (valuing kind.Minus 2 a.last name x (front ws)) p q _ rest b (record { none = refl; next = refl; open_it = refl }) refl e
after_name kind.Equal ws rest name x w p a q t b e =
    item_heard (value kind.Equal a.last name x (front ws)) (valuing kind.Equal 2 a.last name x (front ws)) p q _ rest b (record { none = refl; next = refl; open_it = refl }) refl e
after_name kind.Less ws rest name x w p a q t b e =
    item_heard (value kind.Less a.last name x (front ws)) (valuing kind.Less 2 a.last name x (front ws)) p q _ rest b (record { none = refl; next = refl; open_it = refl }) refl e
after_name kind.Question ws rest name x w p a q t b e =
    item_heard (value kind.Question name x (front ws) (front (tail ws))) (valuing kind.Question 4 name x (front ws) (front (tail ws))) p q _ rest b (record { none = refl; next = refl; open_it = refl }) refl e
after_name kind.OpenBracket ws rest name x w p a q t b e =
    item_heard (value kind.OpenBracket name x (front ws) (front (tail ws))) (valuing kind.OpenBracket 5 name x (front ws) (front (tail ws))) p q _ rest b (record { none = refl; next = refl; open_it = refl }) refl e
after_name _ ws rest name x w p a q t b e = cc

name_heard : (p : Progress) (a : Seen) (name x : List ℕ) (ss : List Sign) (q : Progress) → AllByRecursion Bare ss → said p (naming a name x) ss ≡ Some q
    → Heard p q (assigned_to name (named x ∷ ss))
name_heard p a name x ss q b e =
    let c = construct rule.AfterName p (naming a name x) ss q (record { none = refl; next = refl; open_it = refl }) refl b e in
    let P : List Sign → Type 0 = λ ts. Heard p q (assigned_to name (named x ∷ ts)) in
    let Q : List Sign → Type 0 = λ ts. said p (naming a name x) ts ≡ Some q in
    subst P (sym c.split) (after_name c.kind c.words c.rest name x c.word p a q c.fits c.bare (subst Q c.split e))

expression : (k : Kind) (ws : List (List ℕ)) (rest : List Sign) (name w : List ℕ) (p : Progress) (a : Seen) (q : Progress) → same_rule rule.Expression (rule_begun k) ≡ true
    → AllByRecursion Bare rest
    → said p (assigning a name) (record { kind = k; word = cond (is_word k) w [] } ∷ (fill (behind k) ws ++ rest)) ≡ Some q
    → Heard p q (assigned_to name (record { kind = k; word = cond (is_word k) w [] } ∷ (fill (behind k) ws ++ rest)))
unfolding next_state due_by
expression kind.Literal ws rest name w p a q t b e =
    item_heard (value kind.Literal a.second a.last name w) (valuing kind.Literal 1 a.second a.last name w) p q _ rest b (record { none = refl; next = refl; open_it = refl }) refl e
expression kind.Tilde ws rest name w p a q t b e =
    item_heard (value kind.Tilde a.second a.last name (front ws)) (valuing kind.Tilde 2 a.second a.last name (front ws)) p q _ rest b (record { none = refl; next = refl; open_it = refl }) refl e
expression kind.OpenBrace ws rest name w p a q t b e =
    item_heard (value kind.OpenBrace a.last name (front ws) (front (tail ws))) (valuing kind.OpenBrace 5 a.last name (front ws) (front (tail ws))) p q _ rest b (record { none = refl; next = refl; open_it = refl }) refl e
expression kind.Name ws rest name w p a q t b e = name_heard p a name w rest q b e
expression _ ws rest name w p a q t b e = cc

value_heard : (p : Progress) (a : Seen) (name : List ℕ) (ss : List Sign) (q : Progress) → AllByRecursion Bare ss → said p (assigning a name) ss ≡ Some q
    → Heard p q (assigned_to name ss)
value_heard p a name ss q b e =
    let c = construct rule.Expression p (assigning a name) ss q (record { none = refl; next = refl; open_it = refl }) refl b e in
    let P : List Sign → Type 0 = λ ts. Heard p q (assigned_to name ts) in
    let Q : List Sign → Type 0 = λ ts. said p (assigning a name) ts ≡ Some q in
    subst P (sym c.split) (expression c.kind c.words c.rest name c.word p a q c.fits c.bare (subst Q c.split e))

-- ---- all items

-- behind an item of these words
abbrev behind_item : Kind → ℕ → List ℕ → List ℕ → List ℕ → List ℕ → Seen
behind_item head done fourth third second last = record {
  state = record { first = head; done = done };
  head = head;
  form = head;
  fourth = fourth;
  third = third;
  second = second;
  last = last;
}

end_goes : (p : Progress) (a : Seen) (rest : List Sign) (q : Progress) (b : Bool) → b ≡ true
    → due_then (due_by p (cond b kind.Endmodule a.head) kind.Endmodule a.fourth a.third a.second a.last)
    (λ r. said r (record { state = record { first = kind.Endmodule; done = 0 }; head = cond b kind.Endmodule a.head; form = kind.Endmodule; fourth = a.fourth; third = a.third; second = a.second; last = a.last }) rest)
    ≡ Some q
    → due_then (due_end p) (λ r. said r (behind_item kind.Endmodule 0 a.fourth a.third a.second a.last) rest) ≡ Some q
unfolding due_by
end_goes p a rest q true t e = e
end_goes p a rest q false t e = cc

by_kind : (k : Kind) (ws : List (List ℕ)) (rest : List Sign) (w : List ℕ) (p : Progress) (a : Seen) (q : Progress) → Boundary a rule.Item → same_rule rule.Item (rule_begun k) ≡ true
    → AllByRecursion Bare rest
    → said p a (record { kind = k; word = cond (is_word k) w [] } ∷ (fill (behind k) ws ++ rest)) ≡ Some q
    → Heard p q (record { kind = k; word = cond (is_word k) w [] } ∷ (fill (behind k) ws ++ rest))
unfolding next_state due_by
by_kind kind.Reg ws rest w p a q d t b e =
    item_heard (register (front ws) (front (tail ws)) (front (tail (tail ws)))) (behind_item kind.Reg 7 a.last (front ws) (front (tail ws)) (front (tail (tail ws)))) p q _ rest b
    (record { none = refl; next = refl; open_it = refl }) refl
    (sym (first_said p a rule.Item kind.Reg [] (fill (behind kind.Reg) ws ++ rest) d refl refl refl) ∙ e)
by_kind kind.Wire ws rest w p a q d t b e =
    item_heard (wire (front ws) (front (tail ws)) (front (tail (tail ws)))) (behind_item kind.Wire 7 a.last (front ws) (front (tail ws)) (front (tail (tail ws)))) p q _ rest b
    (record { none = refl; next = refl; open_it = refl }) refl
    (sym (first_said p a rule.Item kind.Wire [] (fill (behind kind.Wire) ws ++ rest) d refl refl refl) ∙ e)
by_kind kind.Assign ws rest w p a q d t b e =
    value_heard p a (front ws) rest q b (sym (first_said p a rule.Item kind.Assign [] (fill (behind kind.Assign) ws ++ rest) d refl refl refl) ∙ e)
by_kind kind.Always ws rest w p a q d t b e =
    item_heard (update (front ws) (front (tail ws)) (front (tail (tail ws)))) (behind_item kind.Always 9 a.last (front ws) (front (tail ws)) (front (tail (tail ws)))) p q _ rest b
    (record { none = refl; next = refl; open_it = refl }) refl
    (sym (first_said p a rule.Item kind.Always [] (fill (behind kind.Always) ws ++ rest) d refl refl refl) ∙ e)
by_kind kind.Endmodule ws rest w p a q d t b e =
    item_heard ending (behind_item kind.Endmodule 0 a.fourth a.third a.second a.last) p q _ rest b (record { none = refl; next = refl; open_it = refl }) refl
    (end_goes p a rest q _ d.open_it (sym (rw (begins a.state rule.Item kind.Endmodule (record { none = d.none; next = d.next }) refl, said) refl) ∙ e))
by_kind _ ws rest w p a q d t b e = cc

pub heard : (p : Progress) (a : Seen) (ss : List Sign) (q : Progress) → Boundary a rule.Item → AllByRecursion Bare ss → said p a ss ≡ Some q → Heard p q ss
heard p a ss q d b e =
    let c = construct rule.Item p a ss q d refl b e in
    let Q : List Sign → Type 0 = λ ts. said p a ts ≡ Some q in
    subst (Heard p q) (sym c.split) (by_kind c.kind c.words c.rest c.word p a q d c.fits c.bare (subst Q c.split e))
