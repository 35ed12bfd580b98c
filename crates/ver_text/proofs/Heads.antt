-- The heading and the ports of a text that is read.
use Rattle.std.proofs.Common.{ℕ, zero, suc, ◌≡◌, ◌≢◌, ◌+◌, ◌-◌, ◌<◌, ◌≤◌, List, [], ◌∷◌, ◌++◌, length, Bool, true, false, not, ◌&&◌, cond, Option, Some, None, refl, ap, sym, subst, ◌∙◌, append_assoc, length-append, arith}
use Rattle.std.specs.Prelude.{codes, decimal, ◌==◌}
use Rattle.std.specs.List.{AllByRecursion}
use Rattle.std.specs.Str.{bytes_eq}
use Rattle.std.proofs.lemmas.Bool.{false≢true}
use Rattle.std.proofs.lemmas.List.{append-nil}
use Rattle.std.proofs.lemmas.Slice.Eq.{bytes_eq-Decides}
use Rattle.dip_lists.proofs.Tests.{both}
use Rattle.dip_sets.specs.Names.{is_name}
use Rattle.net_cells.specs.declared.netlist.Port.{Port}
use Rattle.ver_text.specs.declared.kind.Kind.{Kind}
use Rattle.ver_text.specs.declared.kind.Kind.TheVariants as kind
use Rattle.ver_text.specs.declared.kind.Rule.{Rule}
use Rattle.ver_text.specs.declared.kind.Rule.TheVariants as rule
use Rattle.ver_text.specs.declared.progress.Progress.{Progress}
use Rattle.ver_text.specs.Kinds.{is_word, same_rule}
use Rattle.ver_text.specs.Grammar.{behind, rule_begun, next_state}
use Rattle.ver_text.specs.Due.{due_by, due_name, due_input, due_output, with_input, with_output, has_prefix, is_new, is_port_name, is_none, width_of, at_first}
use Rattle.ver_text.specs.Spelling.{Sign}
use Rattle.ver_text.specs.TestLaw.{IsRangeIn}
use Rattle.ver_text.proofs.Signs.{Seen, said}
use Rattle.ver_text.proofs.Segments.{Boundary, due_then, first_said, close_said, seen_start}
use Rattle.ver_text.proofs.Exact.{eq_of, range_is}
use Rattle.ver_text.proofs.PortParts.{headed, names_of, widths_of, names_more, widths_more, Apart, IsPort}
use Rattle.ver_text.proofs.Spelled.{reset_port}
use Rattle.ver_text.proofs.Told.{Bare}
use Rattle.ver_text.proofs.Constructs.{front, tail, fill, construct}
use Rattle.ver_text.proofs.Heard.{then_of, Item, register, wire, value, update, ending, item_due, heard, plain, named, numbered}
use Rattle.ver_text.proofs.Taken.{held, guarded, reg_taken, wire_taken, value_taken, update_taken}
use Rattle.ver_text.proofs.Items.{AnyWhere, some_there}

-- ---- what stands between parts

abbrev pub port_signs : Kind → List ℕ → List ℕ → List ℕ → List Sign
port_signs direction high low name =
    plain direction ∷ plain kind.OpenBracket ∷ numbered high ∷ plain kind.Colon ∷ numbered low ∷ plain kind.CloseBracket ∷ named name ∷ []

abbrev pub close_signs : List Sign
close_signs = plain kind.CloseParen ∷ plain kind.Semicolon ∷ []

-- Behind tokens that say nothing more, this rule is next.
pub record Onward (first : List Sign) (r : Rule) (p q : Progress) (ss : List Sign) : Type 0 where
  pub rest : List Sign
  pub next : Seen
  pub split : ss ≡ first ++ rest
  pub goes : said p next rest ≡ Some q
  pub bound : Boundary next r
  pub bare : AllByRecursion Bare rest

between : (P : List Sign → Type 0) (k : Kind) (ws : List (List ℕ)) (rest : List Sign) (w : List ℕ) (p : Progress) (a : Seen) (q : Progress) → Boundary a rule.MorePorts
    → same_rule rule.MorePorts (rule_begun k) ≡ true → AllByRecursion Bare rest
    → said p a (record { kind = k; word = cond (is_word k) w [] } ∷ (fill (behind k) ws ++ rest)) ≡ Some q
    → ((ss : List Sign) → Onward (plain kind.Comma ∷ []) rule.Port p q ss → P ss) → ((ss : List Sign) → Onward close_signs rule.Item p q ss → P ss)
    → P (record { kind = k; word = cond (is_word k) w [] } ∷ (fill (behind k) ws ++ rest))
unfolding next_state
between P kind.Comma ws rest w p a q d t b e comma close =
    comma _ (record {
      rest = rest;
      next = record { state = record { first = kind.Comma; done = 0 }; head = a.head; form = kind.Comma; fourth = a.fourth; third = a.third; second = a.second; last = a.last };
      split = refl;
      goes = sym (first_comma p a rest d) ∙ e;
      bound = record { none = refl; next = refl; open_it = refl };
      bare = b;
    })
  where
    comma_by : (p : Progress) (a : Seen) (b : Bool) (rest : List Sign) → b ≡ false
        → said p (record { state = record { first = kind.Comma; done = 0 }; head = cond b kind.Comma a.head; form = kind.Comma; fourth = a.fourth; third = a.third; second = a.second; last = a.last }) rest
        ≡ said p (record { state = record { first = kind.Comma; done = 0 }; head = a.head; form = kind.Comma; fourth = a.fourth; third = a.third; second = a.second; last = a.last }) rest
    comma_by p a true rest n = cc
    comma_by p a false rest n = refl

    first_comma : (p : Progress) (a : Seen) (rest : List Sign) → Boundary a rule.MorePorts
        → said p a (plain kind.Comma ∷ rest)
        ≡ said p (record { state = record { first = kind.Comma; done = 0 }; head = a.head; form = kind.Comma; fourth = a.fourth; third = a.third; second = a.second; last = a.last }) rest
    first_comma p a rest d = first_said p a rule.MorePorts kind.Comma [] rest d refl refl refl
between P kind.CloseParen ws rest w p a q d t b e comma close =
    close _ (record {
      rest = rest;
      next = record { state = record { first = kind.CloseParen; done = 1 }; head = a.head; form = kind.CloseParen; fourth = a.fourth; third = a.third; second = a.second; last = a.last };
      split = refl;
      goes = sym (close_said p a rest d) ∙ e;
      bound = record { none = refl; next = refl; open_it = refl };
      bare = b;
    })
between P _ ws rest w p a q d t b e comma close = cc

behind_port : (P : List Sign → Type 0) (p : Progress) (a : Seen) (ss : List Sign) (q : Progress) → Boundary a rule.MorePorts → AllByRecursion Bare ss → said p a ss ≡ Some q
    → ((ts : List Sign) → Onward (plain kind.Comma ∷ []) rule.Port p q ts → P ts) → ((ts : List Sign) → Onward close_signs rule.Item p q ts → P ts) → P ss
behind_port P p a ss q d b e comma close =
    let c = construct rule.MorePorts p a ss q d refl b e in
    let Q : List Sign → Type 0 = λ ts. said p a ts ≡ Some q in
    subst P (sym c.split) (between P c.kind c.words c.rest c.word p a q d c.fits c.bare (subst Q c.split e) comma close)

-- ---- a port

abbrev port_due : Kind → Progress → List ℕ → Option ℕ → Option Progress
port_due kind.Input p name width = due_input p name width
port_due _ p name width = due_output p name width

-- The next port, which is due, and what follows it.
pub record Ported (what : Kind) (p q : Progress) (ss : List Sign) : Type 0 where
  pub high : List ℕ
  pub low : List ℕ
  pub name : List ℕ
  pub rest : List Sign
  pub next : Seen
  pub after : Progress
  pub split : ss ≡ port_signs what high low name ++ rest
  pub taken : port_due what p name (width_of high low) ≡ Some after
  pub goes : said after next rest ≡ Some q
  pub bound : Boundary next rule.MorePorts
  pub bare : AllByRecursion Bare rest

abbrev after_port : Kind → Seen → List (List ℕ) → Seen
after_port what a ws = record {
  state = record { first = what; done = 6 };
  head = what;
  form = what;
  fourth = a.last;
  third = front ws;
  second = front (tail ws);
  last = front (tail (tail ws));
}

ported : (what : Kind) (p q : Progress) (a : Seen) (ws : List (List ℕ)) (ss rest : List Sign) → AllByRecursion Bare rest → Boundary (after_port what a ws) rule.MorePorts
    → ss ≡ port_signs what (front ws) (front (tail ws)) (front (tail (tail ws))) ++ rest
    → due_then (port_due what p (front (tail (tail ws))) (width_of (front ws) (front (tail ws)))) (λ r. said r (after_port what a ws) rest) ≡ Some q → Ported what p q ss
ported what p q a ws ss rest b d s e =
    let h = then_of (port_due what p (front (tail (tail ws))) (width_of (front ws) (front (tail ws)))) (λ r. said r (after_port what a ws) rest) q e in
    record {
      high = front ws;
      low = front (tail ws);
      name = front (tail (tail ws));
      rest = rest;
      next = after_port what a ws;
      after = h.after;
      split = s;
      taken = h.taken;
      goes = h.goes;
      bound = d;
      bare = b;
    }

by_direction : (P : List Sign → Type 0) (k : Kind) (ws : List (List ℕ)) (rest : List Sign) (w : List ℕ) (p : Progress) (a : Seen) (q : Progress) → Boundary a rule.Port
    → same_rule rule.Port (rule_begun k) ≡ true → AllByRecursion Bare rest
    → said p a (record { kind = k; word = cond (is_word k) w [] } ∷ (fill (behind k) ws ++ rest)) ≡ Some q
    → ((ss : List Sign) → Ported kind.Input p q ss → P ss) → ((ss : List Sign) → Ported kind.Output p q ss → P ss)
    → P (record { kind = k; word = cond (is_word k) w [] } ∷ (fill (behind k) ws ++ rest))
unfolding next_state due_by
by_direction P kind.Input ws rest w p a q d t b e input output =
    input _ (ported kind.Input p q a ws _ rest b (record { none = refl; next = refl; open_it = refl }) refl
    (sym (first_said p a rule.Port kind.Input [] (fill (behind kind.Input) ws ++ rest) d refl refl refl) ∙ e))
by_direction P kind.Output ws rest w p a q d t b e input output =
    output _ (ported kind.Output p q a ws _ rest b (record { none = refl; next = refl; open_it = refl }) refl
    (sym (first_said p a rule.Port kind.Output [] (fill (behind kind.Output) ws ++ rest) d refl refl refl) ∙ e))
by_direction P _ ws rest w p a q d t b e input output = cc

pub port_heard : (P : List Sign → Type 0) (p : Progress) (a : Seen) (ss : List Sign) (q : Progress) → Boundary a rule.Port → AllByRecursion Bare ss → said p a ss ≡ Some q
    → ((ts : List Sign) → Ported kind.Input p q ts → P ts) → ((ts : List Sign) → Ported kind.Output p q ts → P ts) → P ss
port_heard P p a ss q d b e input output =
    let c = construct rule.Port p a ss q d refl b e in
    let Q : List Sign → Type 0 = λ ts. said p a ts ≡ Some q in
    subst P (sym c.split) (by_direction P c.kind c.words c.rest c.word p a q d c.fits c.bare (subst Q c.split e) input output)

-- ---- names that are new

apart_last : (xs : List (List ℕ)) (y : List ℕ) → Apart xs → AllByRecursion (λ x. x ≢ y) xs → Apart (xs ++ y ∷ [])
apart_last [] y a h = (tt, tt)
apart_last (x ∷ xs) y a h = (further xs x y a.0 (λ e. h.0 (sym e)), apart_last xs y a.1 h.1)
  where
    further : (xs : List (List ℕ)) (x y : List ℕ) → AllByRecursion (λ z. z ≢ x) xs → y ≢ x → AllByRecursion (λ z. z ≢ x) (xs ++ y ∷ [])
    further [] x y h n = (n, tt)
    further (z ∷ zs) x y h n = (h.0, further zs x y h.1 n)

pub both_lists : {A : Type 0} (P : A → Type 0) (xs ys : List A) → AllByRecursion P xs → AllByRecursion P ys → AllByRecursion P (xs ++ ys)
both_lists P [] ys a b = b
both_lists P (x ∷ xs) ys a b = (a.0, both_lists P xs ys a.1 b)

unlike : (b : Bool) (xs ys : List ℕ) → bytes_eq xs ys ≡ b → not b ≡ true → xs ≢ ys
unlike true xs ys t n = cc
unlike false xs ys t n = λ e. false≢true (sym t ∙ (bytes_eq-Decides xs ys).1 e)

new_so : (ports : List Port) (name : List ℕ) → is_new ports name ≡ true → AllByRecursion (λ x. x ≢ name) (names_of ports)
new_so [] name h = tt
new_so (p ∷ ps) name h =
    let b = both (not (bytes_eq p.name name)) (is_new ps name) h in
    (unlike (bytes_eq p.name name) p.name name refl b.0, new_so ps name b.1)

record PortNamed (ins outs : List Port) (name : List ℕ) : Type 0 where
  pub front : has_prefix (codes "p_") name ≡ true
  pub inputs : is_new ins name ≡ true
  pub outputs : is_new outs name ≡ true

all_three : (a b c : Bool) → (a && b && c) ≡ true → (a ≡ true) × (b ≡ true) × (c ≡ true)
all_three true true true h = (refl, refl, refl)
all_three _ _ _ h = cc

port_named : (ins outs : List Port) (name : List ℕ) → (has_prefix (codes "p_") name && is_new ins name && is_new outs name) ≡ true → PortNamed ins outs name
port_named ins outs name h =
    let t = all_three (has_prefix (codes "p_") name) (is_new ins name) (is_new outs name) h in
    record { front = t.0; inputs = t.1; outputs = t.2 }

-- ---- the ports behind the first input

abbrev pub in_list : List Port → List Sign
in_list [] = []
in_list (p ∷ ps) = (plain kind.Comma ∷ port_signs kind.Input (decimal (p.width - 1)) (codes "0") p.name) ++ in_list ps

abbrev pub out_ports : List Port → List Sign
out_ports [] = []
out_ports (p ∷ ps) = (plain kind.Comma ∷ port_signs kind.Output (decimal (p.width - 1)) (codes "0") p.name) ++ out_ports ps

pub record PortsRead (name : List ℕ) (i : Port) (is outs : List Port) (q : Progress) (ss : List Sign) : Type 0 where
  pub inputs : List Port
  pub outputs : List Port
  pub rest : List Sign
  pub next : Seen
  pub split : ss ≡ in_list inputs ++ (out_ports outputs ++ (close_signs ++ rest))
  pub goes : said (headed name (i ∷ (is ++ inputs)) (outs ++ outputs)) next rest ≡ Some q
  pub bound : Boundary next rule.Item
  pub bare : AllByRecursion Bare rest
  pub room : AnyWhere inputs (is_none outs)
  pub ins : AllByRecursion IsPort inputs
  pub shown : AllByRecursion IsPort outputs
  pub apart : Apart (names_of (i ∷ (is ++ inputs)) ++ names_of (outs ++ outputs))

closed : (name : List ℕ) (i : Port) (is outs : List Port) (q : Progress) (ss : List Sign) → Apart (names_of (i ∷ is) ++ names_of outs)
    → Onward close_signs rule.Item (headed name (i ∷ is) outs) q ss → PortsRead name i is outs q ss
closed name i is outs q ss a o =
    let P : List Port → List Port → Type 0 = λ xs ys. said (headed name (i ∷ xs) ys) o.next o.rest ≡ Some q in
    let Q : List Port → List Port → Type 0 = λ xs ys. Apart (names_of (i ∷ xs) ++ names_of ys) in
    record {
      inputs = [];
      outputs = [];
      rest = o.rest;
      next = o.next;
      split = o.split;
      goes = subst (λ xs. P xs (outs ++ [])) (sym (append-nil is)) (subst (P is) (sym (append-nil outs)) o.goes);
      bound = o.bound;
      bare = o.bare;
      room = tt;
      ins = tt;
      shown = tt;
      apart = subst (λ xs. Q xs (outs ++ [])) (sym (append-nil is)) (subst (Q is) (sym (append-nil outs)) a);
    }

in_apart : (ins outs : List Port) (p : Port) → is_none outs ≡ true → Apart (names_of ins ++ names_of outs) → is_new ins p.name ≡ true
    → Apart (names_of (ins ++ p ∷ []) ++ names_of outs)
in_apart ins [] p n a h =
    let e : names_of (ins ++ p ∷ []) ++ [] ≡ names_of ins ++ p.name ∷ [] = append-nil (names_of (ins ++ p ∷ [])) ∙ names_more ins (p ∷ []) in
    subst Apart (sym e) (apart_last (names_of ins) p.name (subst Apart (append-nil (names_of ins)) a) (new_so ins p.name h))
in_apart ins (o ∷ os) p n a h = cc

out_apart : (ins outs : List Port) (p : Port) → Apart (names_of ins ++ names_of outs) → is_new ins p.name ≡ true → is_new outs p.name ≡ true
    → Apart (names_of ins ++ names_of (outs ++ p ∷ []))
out_apart ins outs p a h k =
    let e : names_of ins ++ names_of (outs ++ p ∷ []) ≡ (names_of ins ++ names_of outs) ++ p.name ∷ [] =
    ap (λ xs. names_of ins ++ xs) (names_more outs (p ∷ [])) ∙ sym (append_assoc (names_of ins) (names_of outs) (p.name ∷ [])) in
    subst Apart (sym e)
    (apart_last (names_of ins ++ names_of outs) p.name a (both_lists (λ x. x ≢ p.name) (names_of ins) (names_of outs) (new_so ins p.name h) (new_so outs p.name k)))

-- a port that was taken, and what is known then
record InputTaken (name : List ℕ) (i : Port) (is outs : List Port) (high low word : List ℕ) (after : Progress) : Type 0 where
  pub port : Port
  pub right : IsPort port
  pub first : is_none outs ≡ true
  pub new : is_new (i ∷ is) port.name ≡ true
  pub signs : port_signs kind.Input high low word ≡ port_signs kind.Input (decimal (port.width - 1)) (codes "0") port.name
  pub same : headed name (i ∷ (is ++ port ∷ [])) outs ≡ after

ranged : (what : Kind) (high low name h l : List ℕ) → high ≡ h → low ≡ l → port_signs what high low name ≡ port_signs what h l name
ranged what high low name h l a b = ap (λ x. port_signs what x low name) a ∙ ap (λ x. port_signs what h x name) b

added : (name : List ℕ) (ins outs : List Port) (p : Port) (ws : List ℕ) (k : ℕ) → ws ≡ widths_of (ins ++ p ∷ []) → k ≡ length (ins ++ p ∷ [])
    → headed name (ins ++ p ∷ []) outs
    ≡ record {
      clocked = true;
      name = Some name;
      inputs = ins ++ p ∷ [];
      declared = outs;
      widths = ws;
      sources = k;
      next_register = k;
      next_cell = k;
      regs = [];
      cells = [];
      outputs = [];
    }
added name ins outs p ws k w e = rw (w, e) refl

input_by : (name : List ℕ) (i : Port) (is outs : List Port) (high low word : List ℕ) (after : Progress) (o : Option ℕ) → width_of high low ≡ o
    → due_input (headed name (i ∷ is) outs) word o ≡ Some after → InputTaken name i is outs high low word after
input_by name i is outs high low word after None w e = cc
input_by name i is outs high low word after (Some width) w e =
    let p : Progress = headed name (i ∷ is) outs in
    let g = guarded (is_none outs && is_port_name p word) (with_input p word width) after e in
    let b = both (is_none outs) (is_port_name p word) g.holds in
    let n = port_named (i ∷ is) outs word b.1 in
    let port : Port = record { name = word; width = width } in
    let k = held (is_name word)
    (record p { inputs = (i ∷ is) ++ port ∷ []; widths = widths_of (i ∷ is) ++ width ∷ []; sources = length (i ∷ is) + 1; next_register = length (i ∷ is) + 1; next_cell = length (i ∷ is) + 1 })
    after g.goes in
    let r : IsRangeIn high low width = range_is high low width w in
    record {
      port = port;
      right = record { front = n.front; form = k.holds; wide = r.0 };
      first = b.0;
      new = n.inputs;
      signs = ranged kind.Input high low word (decimal (width - 1)) (codes "0") r.1 r.2;
      same = added name (i ∷ is) outs port (widths_of (i ∷ is) ++ width ∷ []) (length (i ∷ is) + 1) (sym (widths_more (i ∷ is) (port ∷ [])))
          (sym (length-append (i ∷ is) (port ∷ []))) ∙ k.same;
    }

record OutputTaken (name : List ℕ) (i : Port) (is outs : List Port) (high low word : List ℕ) (after : Progress) : Type 0 where
  pub port : Port
  pub right : IsPort port
  pub inputs : is_new (i ∷ is) port.name ≡ true
  pub outputs : is_new outs port.name ≡ true
  pub signs : port_signs kind.Output high low word ≡ port_signs kind.Output (decimal (port.width - 1)) (codes "0") port.name
  pub same : headed name (i ∷ is) (outs ++ port ∷ []) ≡ after

output_by : (name : List ℕ) (i : Port) (is outs : List Port) (high low word : List ℕ) (after : Progress) (o : Option ℕ) → width_of high low ≡ o
    → due_output (headed name (i ∷ is) outs) word o ≡ Some after → OutputTaken name i is outs high low word after
output_by name i is outs high low word after None w e = cc
output_by name i is outs high low word after (Some width) w e =
    let p : Progress = headed name (i ∷ is) outs in
    let g = guarded (is_port_name p word) (with_output p word width) after e in
    let n = port_named (i ∷ is) outs word g.holds in
    let port : Port = record { name = word; width = width } in
    let k = held (is_name word) (headed name (i ∷ is) (outs ++ port ∷ [])) after g.goes in
    let r : IsRangeIn high low width = range_is high low width w in
    record {
      port = port;
      right = record { front = n.front; form = k.holds; wide = r.0 };
      inputs = n.inputs;
      outputs = n.outputs;
      signs = ranged kind.Output high low word (decimal (width - 1)) (codes "0") r.1 r.2;
      same = k.same;
    }

input_more : (name : List ℕ) (i : Port) (is outs : List Port) (port : Port) (q : Progress) (ss rest : List Sign) → IsPort port → is_none outs ≡ true
    → ss ≡ (plain kind.Comma ∷ port_signs kind.Input (decimal (port.width - 1)) (codes "0") port.name) ++ rest
    → PortsRead name i (is ++ port ∷ []) outs q rest → PortsRead name i is outs q ss
input_more name i is outs port q ss rest h n s r =
    let e : (is ++ port ∷ []) ++ r.inputs ≡ is ++ port ∷ r.inputs = append_assoc is (port ∷ []) r.inputs in
    record {
      inputs = port ∷ r.inputs;
      outputs = r.outputs;
      rest = r.rest;
      next = r.next;
      split = s ∙ (ap (λ xs. (plain kind.Comma ∷ port_signs kind.Input (decimal (port.width - 1)) (codes "0") port.name) ++ xs) r.split
          ∙ sym (append_assoc (plain kind.Comma ∷ port_signs kind.Input (decimal (port.width - 1)) (codes "0") port.name) (in_list r.inputs)
          (out_ports r.outputs ++ (close_signs ++ r.rest))));
      goes = subst (λ xs. said (headed name (i ∷ xs) (outs ++ r.outputs)) r.next r.rest ≡ Some q) e r.goes;
      bound = r.bound;
      bare = r.bare;
      room = n;
      ins = (h, r.ins);
      shown = r.shown;
      apart = subst (λ xs. Apart (names_of (i ∷ xs) ++ names_of (outs ++ r.outputs))) e r.apart;
    }

-- behind an output there are no inputs
output_by_none : (inputs : List Port) (name : List ℕ) (i : Port) (is outs : List Port) (port : Port) (q : Progress) (ss rest : List Sign) (r : PortsRead name i is (outs ++ port ∷ []) q rest)
    → r.inputs ≡ inputs → AnyWhere inputs (is_none (outs ++ port ∷ []))
    → ss ≡ (plain kind.Comma ∷ port_signs kind.Output (decimal (port.width - 1)) (codes "0") port.name) ++ rest → IsPort port → PortsRead name i is outs q ss
output_by_none (x ∷ xs) name i is outs port q ss rest r e a s h = absurd (false≢true (sym (some_there outs port) ∙ a))
output_by_none [] name i is outs port q ss rest r e a s h =
    let o : (outs ++ port ∷ []) ++ r.outputs ≡ outs ++ port ∷ r.outputs = append_assoc outs (port ∷ []) r.outputs in
    let piece : List Sign = plain kind.Comma ∷ port_signs kind.Output (decimal (port.width - 1)) (codes "0") port.name in
    record {
      inputs = [];
      outputs = port ∷ r.outputs;
      rest = r.rest;
      next = r.next;
      split = s ∙ (ap (λ xs. piece ++ xs) (r.split ∙ ap (λ xs. in_list xs ++ (out_ports r.outputs ++ (close_signs ++ r.rest))) e)
          ∙ sym (append_assoc piece (out_ports r.outputs) (close_signs ++ r.rest)));
      goes = subst (λ xs. said (headed name (i ∷ (is ++ [])) xs) r.next r.rest ≡ Some q) o
          (subst (λ xs. said (headed name (i ∷ (is ++ xs)) ((outs ++ port ∷ []) ++ r.outputs)) r.next r.rest ≡ Some q) e r.goes);
      bound = r.bound;
      bare = r.bare;
      room = tt;
      ins = tt;
      shown = (h, r.shown);
      apart = subst (λ xs. Apart (names_of (i ∷ (is ++ [])) ++ names_of xs)) o
          (subst (λ xs. Apart (names_of (i ∷ (is ++ xs)) ++ names_of ((outs ++ port ∷ []) ++ r.outputs))) e r.apart);
    }

abbrev LaterPorts : List ℕ → Port → Progress → ℕ → Type 0
LaterPorts name i q fuel =
    (ss : List Sign) (is outs : List Port) (a : Seen) → length ss ≤ fuel → AllByRecursion Bare ss → Apart (names_of (i ∷ is) ++ names_of outs) → Boundary a rule.MorePorts
    → said (headed name (i ∷ is) outs) a ss ≡ Some q → PortsRead name i is outs q ss

by_input : (fuel : ℕ) (name : List ℕ) (i : Port) (is outs : List Port) (q : Progress) (ss ts : List Sign) → length ss ≤ suc fuel → ss ≡ plain kind.Comma ∷ ts
    → Apart (names_of (i ∷ is) ++ names_of outs) → Ported kind.Input (headed name (i ∷ is) outs) q ts → LaterPorts name i q fuel → PortsRead name i is outs q ss
by_input fuel name i is outs q ss ts l s a h go =
    let t = input_by name i is outs h.high h.low h.name h.after (width_of h.high h.low) refl h.taken in
    let split : ss ≡ (plain kind.Comma ∷ port_signs kind.Input (decimal (t.port.width - 1)) (codes "0") t.port.name) ++ h.rest =
    s ∙ (ap (λ xs. plain kind.Comma ∷ xs) h.split ∙ ap (λ xs. plain kind.Comma ∷ (xs ++ h.rest)) t.signs) in
    let n : length ss ≡ 8 + length h.rest = ap length split ∙ length-append (plain kind.Comma ∷ port_signs kind.Input (decimal (t.port.width - 1)) (codes "0") t.port.name) h.rest in
    let m : length h.rest ≤ fuel = omega arith in
    input_more name i is outs t.port q ss h.rest t.right t.first split
    (go h.rest (is ++ t.port ∷ []) outs h.next m h.bare (in_apart (i ∷ is) outs t.port t.first a t.new) h.bound
    (subst (λ x. said x h.next h.rest ≡ Some q) (sym t.same) h.goes))

by_output : (fuel : ℕ) (name : List ℕ) (i : Port) (is outs : List Port) (q : Progress) (ss ts : List Sign) → length ss ≤ suc fuel → ss ≡ plain kind.Comma ∷ ts
    → Apart (names_of (i ∷ is) ++ names_of outs) → Ported kind.Output (headed name (i ∷ is) outs) q ts → LaterPorts name i q fuel → PortsRead name i is outs q ss
by_output fuel name i is outs q ss ts l s a h go =
    let t = output_by name i is outs h.high h.low h.name h.after (width_of h.high h.low) refl h.taken in
    let split : ss ≡ (plain kind.Comma ∷ port_signs kind.Output (decimal (t.port.width - 1)) (codes "0") t.port.name) ++ h.rest =
    s ∙ (ap (λ xs. plain kind.Comma ∷ xs) h.split ∙ ap (λ xs. plain kind.Comma ∷ (xs ++ h.rest)) t.signs) in
    let n : length ss ≡ 8 + length h.rest = ap length split ∙ length-append (plain kind.Comma ∷ port_signs kind.Output (decimal (t.port.width - 1)) (codes "0") t.port.name) h.rest in
    let m : length h.rest ≤ fuel = omega arith in
    let r = go h.rest is (outs ++ t.port ∷ []) h.next m h.bare (out_apart (i ∷ is) outs t.port a t.inputs t.outputs) h.bound
    (subst (λ x. said x h.next h.rest ≡ Some q) (sym t.same) h.goes) in
    output_by_none r.inputs name i is outs t.port q ss h.rest r refl r.room split t.right

by_comma : (fuel : ℕ) (name : List ℕ) (i : Port) (is outs : List Port) (q : Progress) (ss : List Sign) → length ss ≤ suc fuel
    → Apart (names_of (i ∷ is) ++ names_of outs) → Onward (plain kind.Comma ∷ []) rule.Port (headed name (i ∷ is) outs) q ss → LaterPorts name i q fuel → PortsRead name i is outs q ss
by_comma fuel name i is outs q ss l a o go =
    port_heard (λ ts. ss ≡ plain kind.Comma ∷ ts → PortsRead name i is outs q ss) (headed name (i ∷ is) outs) o.next o.rest q o.bound o.bare o.goes
    (λ ts h s. by_input fuel name i is outs q ss ts l s a h go)
    (λ ts h s. by_output fuel name i is outs q ss ts l s a h go) o.split

no_signs : (first : List Sign) (s : Sign) (ss rest : List Sign) → length ss ≤ 0 → ss ≡ (s ∷ first) ++ rest → ⊥
no_signs first s ss rest l e = let n : length ss ≡ suc (length (first ++ rest)) = ap length e in absurd (omega arith)

pub ports : (fuel : ℕ) (name : List ℕ) (i : Port) (q : Progress) → LaterPorts name i q fuel
ports zero name i q ss is outs a l b x d e =
    behind_port (λ ts. length ts ≤ 0 → PortsRead name i is outs q ts) (headed name (i ∷ is) outs) a ss q d b e
    (λ ts o k. absurd (no_signs [] (plain kind.Comma) ts o.rest k o.split))
    (λ ts o k. closed name i is outs q ts x o) l
ports (suc fuel) name i q ss is outs a l b x d e =
    behind_port (λ ts. length ts ≤ suc fuel → PortsRead name i is outs q ts) (headed name (i ∷ is) outs) a ss q d b e
    (λ ts o k. by_comma fuel name i is outs q ts k x o (ports fuel name i q))
    (λ ts o k. closed name i is outs q ts x o) l

-- ---- the heading, the clock and `reset`

abbrev pub head_signs : List ℕ → List Sign
head_signs name =
    plain kind.Module ∷ named name ∷ plain kind.OpenParen ∷ port_signs kind.Input (decimal 0) (codes "0") (codes "clock")

abbrev pub reset_signs : List Sign
reset_signs = plain kind.Comma ∷ port_signs kind.Input (decimal 0) (codes "0") (codes "reset")

pub record HeadRead (q : Progress) (ss : List Sign) : Type 0 where
  pub name : List ℕ
  pub rest : List Sign
  pub next : Seen
  pub front : has_prefix (codes "m_") name ≡ true
  pub form : is_name name ≡ true
  pub split : ss ≡ head_signs name ++ (reset_signs ++ rest)
  pub goes : said (headed name (reset_port ∷ []) []) next rest ≡ Some q
  pub bound : Boundary next rule.MorePorts
  pub bare : AllByRecursion Bare rest

-- an input of one bit with a given name
record OneBit (high low word name : List ℕ) : Type 0 where
  pub signs : port_signs kind.Input high low word ≡ port_signs kind.Input (decimal 0) (codes "0") name
  pub same : word ≡ name

one_bit : (high low word name : List ℕ) (width : ℕ) → width_of high low ≡ Some width → (bytes_eq word name && (width == 1)) ≡ true → OneBit high low word name
one_bit high low word name width w h =
    let b = both (bytes_eq word name) (width == 1) h in
    let one : width ≡ 1 = eq_of width 1 b.1 in
    let r : IsRangeIn high low width = range_is high low width w in
    let same : word ≡ name = (bytes_eq-Decides word name).0 b.0 in
    record {
      signs = ranged kind.Input high low word (decimal 0) (codes "0") (r.1 ∙ ap (λ n. decimal (n - 1)) one) r.2 ∙ ap (λ x. port_signs kind.Input (decimal 0) (codes "0") x) same;
      same = same;
    }

record InputDue (high low word name : List ℕ) (r after : Progress) : Type 0 where
  pub bit : OneBit high low word name
  pub same : r ≡ after

clock_by : (name high low word : List ℕ) (after : Progress) (o : Option ℕ) → width_of high low ≡ o → due_input (record at_first { name = Some name }) word o ≡ Some after
    → InputDue high low word (codes "clock") (headed name [] []) after
clock_by name high low word after None w e = cc
clock_by name high low word after (Some width) w e =
    let h = held (bytes_eq word (codes "clock") && (width == 1)) (headed name [] []) after e in
    record { bit = one_bit high low word (codes "clock") width w h.holds; same = h.same }

reset_so : (name word : List ℕ) (width : ℕ) → word ≡ codes "reset" → width ≡ 1
    → headed name (reset_port ∷ []) []
    ≡ record (headed name [] []) { inputs = record { name = word; width = width } ∷ []; widths = width ∷ []; sources = 0 + 1; next_register = 0 + 1; next_cell = 0 + 1 }
reset_so name word width e h = rw (e, h) refl

reset_by : (name high low word : List ℕ) (after : Progress) (o : Option ℕ) → width_of high low ≡ o → due_input (headed name [] []) word o ≡ Some after
    → InputDue high low word (codes "reset") (headed name (reset_port ∷ []) []) after
reset_by name high low word after None w e = cc
reset_by name high low word after (Some width) w e =
    let g = guarded (bytes_eq word (codes "reset") && (width == 1)) (with_input (headed name [] []) word width) after e in
    let b = both (bytes_eq word (codes "reset")) (width == 1) g.holds in
    let k = held (is_name word)
    (record (headed name [] []) { inputs = record { name = word; width = width } ∷ []; widths = width ∷ []; sources = 0 + 1; next_register = 0 + 1; next_cell = 0 + 1 }) after g.goes in
    let bit = one_bit high low word (codes "reset") width w g.holds in
    record { bit = bit; same = reset_so name word width bit.same (eq_of width 1 b.1) ∙ k.same }

-- without inputs nothing else is due
no_output : (p after : Progress) (word : List ℕ) (o : Option ℕ) → is_none p.inputs ≡ true → due_output p word o ≡ Some after → ⊥
no_output p after word None n e = cc
no_output p after word (Some width) n e =
    let h : None ≡ Some after = sym (rw n refl) ∙ e in cc

no_item : (item : Item) (name : List ℕ) (after : Progress) → item_due (headed name [] []) item ≡ Some after → ⊥
no_item (register high low word) name after e = let t = (reg_taken (headed name [] []) after high low word e).takes in cc
no_item (wire high low word) name after e = let t = (wire_taken (headed name [] []) after high low word e).takes in cc
no_item (value form fourth third second last) name after e =
    value_taken ⊥ (headed name [] []) after form fourth third second last (omega arith) (omega arith) e (λ c. let t = c.room in cc) (λ s. let t = s.found in cc)
no_item (update clock reg next) name after e =
    let t : 0 < 0 = (update_taken (headed name [] []) after clock reg next (omega arith) (omega arith) e).room in absurd (omega arith)
no_item ending name after e = cc

by_reset : (name : List ℕ) (q : Progress) (ss front ts : List Sign) → has_prefix (codes "m_") name ≡ true → is_name name ≡ true → ss ≡ head_signs name ++ front
    → front ≡ plain kind.Comma ∷ ts → Ported kind.Input (headed name [] []) q ts → HeadRead q ss
by_reset name q ss front ts f n s k h =
    let t = reset_by name h.high h.low h.name h.after (width_of h.high h.low) refl h.taken in
    let split : front ≡ reset_signs ++ h.rest = k ∙ (ap (λ xs. plain kind.Comma ∷ xs) h.split ∙ ap (λ xs. plain kind.Comma ∷ (xs ++ h.rest)) t.bit.signs) in
    record {
      name = name;
      rest = h.rest;
      next = h.next;
      front = f;
      form = n;
      split = s ∙ ap (λ xs. head_signs name ++ xs) split;
      goes = subst (λ x. said x h.next h.rest ≡ Some q) (sym t.same) h.goes;
      bound = h.bound;
      bare = h.bare;
    }

by_clock : (name : List ℕ) (q : Progress) (ss ts : List Sign) → has_prefix (codes "m_") name ≡ true → is_name name ≡ true
    → ss ≡ (plain kind.Module ∷ named name ∷ plain kind.OpenParen ∷ []) ++ ts → Ported kind.Input (record at_first { name = Some name }) q ts → HeadRead q ss
by_clock name q ss ts f n s h =
    let t = clock_by name h.high h.low h.name h.after (width_of h.high h.low) refl h.taken in
    let start : List Sign = plain kind.Module ∷ named name ∷ plain kind.OpenParen ∷ [] in
    let split : ss ≡ head_signs name ++ h.rest = s ∙ (ap (λ xs. start ++ xs) h.split ∙ ap (λ xs. start ++ (xs ++ h.rest)) t.bit.signs) in
    behind_port (λ xs. ss ≡ head_signs name ++ xs → HeadRead q ss) (headed name [] []) h.next h.rest q h.bound h.bare
    (subst (λ x. said x h.next h.rest ≡ Some q) (sym t.same) h.goes)
    (λ xs o k. port_heard (λ ys. xs ≡ plain kind.Comma ∷ ys → HeadRead q ss) (headed name [] []) o.next o.rest q o.bound o.bare o.goes
    (λ ys i e. by_reset name q ss xs ys f n k e i)
    (λ ys i e. absurd (no_output (headed name [] []) i.after i.name (width_of i.high i.low) refl i.taken)) o.split)
    (λ xs o k. let i = heard (headed name [] []) o.next o.rest q o.bound o.bare o.goes in absurd (no_item i.item name i.after i.taken)) split

abbrev titled : List ℕ → Seen
titled name = record { state = record { first = kind.Module; done = 2 }; head = kind.Name; form = kind.Module; fourth = []; third = []; second = []; last = name }

by_title : (k : Kind) (ws : List (List ℕ)) (rest : List Sign) (w : List ℕ) (q : Progress) → same_rule rule.Text (rule_begun k) ≡ true → AllByRecursion Bare rest
    → said at_first seen_start (record { kind = k; word = cond (is_word k) w [] } ∷ (fill (behind k) ws ++ rest)) ≡ Some q
    → HeadRead q (record { kind = k; word = cond (is_word k) w [] } ∷ (fill (behind k) ws ++ rest))
unfolding next_state due_by
by_title kind.Module ws rest w q t b e =
    let name : List ℕ = front ws in
    let h = then_of (due_name at_first name) (λ r. said r (titled name) rest) q e in
    let k = held (has_prefix (codes "m_") name && is_name name) (record at_first { name = Some name }) h.after h.taken in
    let c = both (has_prefix (codes "m_") name) (is_name name) k.holds in
    port_heard (λ ts. rest ≡ ts → HeadRead q (plain kind.Module ∷ named name ∷ plain kind.OpenParen ∷ rest)) (record at_first { name = Some name }) (titled name) rest q
    (record { none = refl; next = refl; open_it = refl }) b (subst (λ x. said x (titled name) rest ≡ Some q) (sym k.same) h.goes)
    (λ ts p s. by_clock name q (plain kind.Module ∷ named name ∷ plain kind.OpenParen ∷ rest) ts c.0 c.1 (ap (λ xs. plain kind.Module ∷ named name ∷ plain kind.OpenParen ∷ xs) s) p)
    (λ ts p s. absurd (no_output (record at_first { name = Some name }) p.after p.name (width_of p.high p.low) refl p.taken)) refl
by_title _ ws rest w q t b e = cc

pub head : (ss : List Sign) (q : Progress) → AllByRecursion Bare ss → said at_first seen_start ss ≡ Some q → HeadRead q ss
head ss q b e =
    let c = construct rule.Text at_first seen_start ss q (record { none = refl; next = refl; open_it = refl }) refl b e in
    let Q : List Sign → Type 0 = λ ts. said at_first seen_start ts ≡ Some q in
    subst (HeadRead q) (sym c.split) (by_title c.kind c.words c.rest c.word q c.fits c.bare (subst Q c.split e))
