-- The heading and the ports are read one after another.
use Rattle.std.proofs.Common.{ℕ, ◌≡◌, ◌≢◌, ◌+◌, ◌-◌, List, [], ◌∷◌, ◌++◌, length, map, true, Some, refl, ap, sym, subst, ◌∙◌, append_assoc, length-append, arith}
use Rattle.std.specs.Prelude.{codes, decimal}
use Rattle.std.specs.List.{AllByRecursion}
use Rattle.std.proofs.lemmas.List.{append-nil}
use Rattle.dip_sets.specs.Names.{is_name}
use Rattle.net_cells.specs.declared.netlist.Port.{Port}
use Rattle.net_cells.specs.declared.netlist.OutPort.{OutPort}
use Rattle.net_cells.specs.Rules.{IsWidth}
use Rattle.ver_text.specs.declared.kind.Kind.TheVariants as kind
use Rattle.ver_text.specs.declared.kind.Rule.TheVariants as rule
use Rattle.ver_text.specs.declared.progress.Progress.{Progress}
use Rattle.ver_text.specs.Due.{due_by, has_prefix, is_new, at_first}
use Rattle.ver_text.specs.Spelling as spec
use Rattle.ver_text.specs.Spelling.{Sign, signs, part_signs}
use Rattle.ver_text.proofs.Signs.{Seen, said}
use Rattle.ver_text.proofs.Segments.{Boundary, seen_start, heading_said, input_said, output_said}
use Rattle.ver_text.proofs.Readback.{width_read}
use Rattle.ver_text.proofs.Groups.{said_same}
use Rattle.ver_text.proofs.NetNames.{differ}
use Rattle.ver_text.proofs.ValueParts.{declared_as}

abbrev pub widths_of : List Port → List ℕ
widths_of = map (λ (p : Port). p.width)

abbrev pub names_of : List Port → List (List ℕ)
names_of = map (λ (p : Port). p.name)

-- what is known when these ports were read
abbrev pub headed : List ℕ → List Port → List Port → Progress
headed name ins outs = record {
  clocked = true;
  name = Some name;
  inputs = ins;
  declared = outs;
  widths = widths_of ins;
  sources = length ins;
  next_register = length ins;
  next_cell = length ins;
  regs = [];
  cells = [];
  outputs = [];
}

-- each name is another than those before it
abbrev pub Apart : List (List ℕ) → Type 0
Apart [] = Unit {0}
Apart (x ∷ xs) = AllByRecursion (λ y. y ≢ x) xs × Apart xs

last_apart : (x y : List ℕ) (xs ys : List (List ℕ)) → AllByRecursion (λ z. z ≢ x) (xs ++ y ∷ ys) → y ≢ x
last_apart x y [] ys h = h.0
last_apart x y (z ∷ zs) ys h = last_apart x y zs ys h.1

apart_front : (xs ys : List (List ℕ)) (y : List ℕ) → Apart (xs ++ y ∷ ys) → AllByRecursion (λ x. x ≢ y) xs
apart_front [] ys y h = tt
apart_front (x ∷ xs) ys y h = ((λ e. last_apart x y xs ys h.0 (sym e)), apart_front xs ys y h.1)

new_is : (ports : List Port) (name : List ℕ) → AllByRecursion (λ x. x ≢ name) (names_of ports) → is_new ports name ≡ true
new_is [] name h = refl
new_is (p ∷ ps) name h = rw (differ p.name name h.0) (new_is ps name h.1)

left_part : (P : List ℕ → Type 0) (xs ys : List (List ℕ)) → AllByRecursion P (xs ++ ys) → AllByRecursion P xs
left_part P [] ys h = tt
left_part P (x ∷ xs) ys h = (h.0, left_part P xs ys h.1)

right_part : (P : List ℕ → Type 0) (xs ys : List (List ℕ)) → AllByRecursion P (xs ++ ys) → AllByRecursion P ys
right_part P [] ys h = h
right_part P (x ∷ xs) ys h = right_part P xs ys h.1

pub widths_more : (ports more : List Port) → widths_of (ports ++ more) ≡ widths_of ports ++ widths_of more
widths_more [] more = refl
widths_more (p ∷ ps) more = ap (λ ws. p.width ∷ ws) (widths_more ps more)

pub names_more : (ports more : List Port) → names_of (ports ++ more) ≡ names_of ports ++ names_of more
names_more [] more = refl
names_more (p ∷ ps) more = ap (λ ns. p.name ∷ ns) (names_more ps more)

-- a port that may be read
pub record IsPort (p : Port) : Type 0 where
  pub front : has_prefix (codes "p_") p.name ≡ true
  pub form : is_name p.name ≡ true
  pub wide : IsWidth p.width

-- the same with its name and its width apart
added : (name : List ℕ) (ins : List Port) (p : Port) (ws : List ℕ) (k : ℕ) → ws ≡ widths_of (ins ++ p ∷ []) → k ≡ length (ins ++ p ∷ [])
    → record {
      clocked = true;
      name = Some name;
      inputs = ins ++ p ∷ [];
      declared = [];
      widths = ws;
      sources = k;
      next_register = k;
      next_cell = k;
      regs = [];
      cells = [];
      outputs = [];
    } ≡ headed name (ins ++ p ∷ []) []
added name ins p ws k w e = rw (w, e) refl

input_taken : (name w : List ℕ) (i : Port) (is : List Port) (p : Port) → IsPort p → is_new (i ∷ is) p.name ≡ true
    → due_by (headed name (i ∷ is) []) kind.Input kind.Input w (decimal (p.width - 1)) (codes "0") p.name ≡ Some (headed name ((i ∷ is) ++ p ∷ []) [])
unfolding due_by
input_taken name w i is p h n =
    rw (width_read p.width h.wide) (rw h.front (rw n (rw h.form
    (ap (λ (x : Progress). Some x) (added name (i ∷ is) p (widths_of (i ∷ is) ++ p.width ∷ []) (length (i ∷ is) + 1)
    (sym (widths_more (i ∷ is) (p ∷ []))) (sym (length-append (i ∷ is) (p ∷ []))))))))

names_step : (ins ps : List Port) (p : Port) (others : List (List ℕ)) → Apart (names_of ins ++ (names_of (p ∷ ps) ++ others)) → Apart (names_of (ins ++ p ∷ []) ++ (names_of ps ++ others))
names_step ins ps p others h =
    let e : names_of (ins ++ p ∷ []) ++ (names_of ps ++ others) ≡ names_of ins ++ (p.name ∷ (names_of ps ++ others)) =
    ap (λ ns. ns ++ (names_of ps ++ others)) (names_more ins (p ∷ [])) ∙ append_assoc (names_of ins) (p.name ∷ []) (names_of ps ++ others) in
    subst Apart (sym e) h

pub inputs_said : (ps : List Port) (name : List ℕ) (i : Port) (is : List Port) (others : List (List ℕ)) (a : Seen) (rest : List Sign) (q : Progress) → Boundary a rule.MorePorts
    → AllByRecursion IsPort ps → Apart (names_of (i ∷ is) ++ (names_of ps ++ others))
    → ((b : Seen) → Boundary b rule.MorePorts → said (headed name ((i ∷ is) ++ ps) []) b rest ≡ Some q)
    → said (headed name (i ∷ is) []) a (part_signs (spec.input_parts ps) ++ rest) ≡ Some q
inputs_said [] name i is others a rest q d h n go = said_same _ _ a rest q (ap (λ xs. headed name xs []) (append-nil (i ∷ is))) (go a d)
inputs_said (p ∷ ps) name i is others a rest q d h n go =
    let tail : List Sign = part_signs (spec.input_parts ps) ++ rest in
    let new : is_new (i ∷ is) p.name ≡ true = new_is (i ∷ is) p.name (apart_front (names_of (i ∷ is)) (names_of ps ++ others) p.name n) in
    ap (λ ss. said (headed name (i ∷ is) []) a ss) (append_assoc (signs (spec.apart kind.Comma ∷ spec.port_pieces kind.Input p.width p.name)) (part_signs (spec.input_parts ps)) rest)
    ∙ (input_said (headed name (i ∷ is) []) a p.width p.name tail d
    ∙ rw (input_taken name a.last i is p h.0 new)
    (inputs_said ps name i (is ++ p ∷ []) others _ rest q (record { none = refl; next = refl; open_it = refl }) h.1 (names_step (i ∷ is) ps p others n)
    (λ b x. said_same _ _ b rest q (ap (λ xs. headed name xs []) (sym (append_assoc (i ∷ is) (p ∷ []) ps))) (go b x))))

-- ---- outputs

output_taken : (name w : List ℕ) (i : Port) (is outs : List Port) (p : Port) → IsPort p → is_new (i ∷ is) p.name ≡ true → is_new outs p.name ≡ true
    → due_by (headed name (i ∷ is) outs) kind.Output kind.Output w (decimal (p.width - 1)) (codes "0") p.name ≡ Some (headed name (i ∷ is) (outs ++ p ∷ []))
unfolding due_by
output_taken name w i is outs p h n m = rw (width_read p.width h.wide) (rw h.front (rw n (rw m (rw h.form refl))))

pub ports_said : (os : List OutPort) (ws name : List ℕ) (i : Port) (is outs : List Port) (a : Seen) (rest : List Sign) (q : Progress) → Boundary a rule.MorePorts
    → AllByRecursion (λ (o : OutPort). IsPort (declared_as ws o)) os → Apart ((names_of (i ∷ is) ++ names_of outs) ++ map (λ (o : OutPort). o.name) os)
    → ((b : Seen) → Boundary b rule.MorePorts → said (headed name (i ∷ is) (outs ++ map (declared_as ws) os)) b rest ≡ Some q)
    → said (headed name (i ∷ is) outs) a (part_signs (spec.output_parts ws os) ++ rest) ≡ Some q
ports_said [] ws name i is outs a rest q d h n go = said_same _ _ a rest q (ap (λ xs. headed name (i ∷ is) xs) (append-nil outs)) (go a d)
ports_said (o ∷ os) ws name i is outs a rest q d h n go =
    let tail : List Sign = part_signs (spec.output_parts ws os) ++ rest in
    let both = apart_front (names_of (i ∷ is) ++ names_of outs) (map (λ (x : OutPort). x.name) os) o.name n in
    let p : Port = declared_as ws o in
    let e : (names_of (i ∷ is) ++ names_of outs) ++ (o.name ∷ map (λ (x : OutPort). x.name) os) ≡ (names_of (i ∷ is) ++ names_of (outs ++ p ∷ [])) ++ map (λ (x : OutPort). x.name) os =
    sym (ap (λ ns. (names_of (i ∷ is) ++ ns) ++ map (λ (x : OutPort). x.name) os) (names_more outs (p ∷ []))
    ∙ (ap (λ ns. ns ++ map (λ (x : OutPort). x.name) os) (sym (append_assoc (names_of (i ∷ is)) (names_of outs) (o.name ∷ [])))
    ∙ append_assoc (names_of (i ∷ is) ++ names_of outs) (o.name ∷ []) (map (λ (x : OutPort). x.name) os))) in
    ap (λ ss. said (headed name (i ∷ is) outs) a ss) (append_assoc (signs (spec.apart kind.Comma ∷ spec.port_pieces kind.Output p.width p.name)) (part_signs (spec.output_parts ws os)) rest)
    ∙ (output_said (headed name (i ∷ is) outs) a p.width p.name tail d
    ∙ rw (output_taken name a.last i is outs p h.0 (new_is (i ∷ is) o.name (left_part (λ x. x ≢ o.name) (names_of (i ∷ is)) (names_of outs) both))
    (new_is outs o.name (right_part (λ x. x ≢ o.name) (names_of (i ∷ is)) (names_of outs) both)))
    (ports_said os ws name i is (outs ++ p ∷ []) _ rest q (record { none = refl; next = refl; open_it = refl }) h.1 (subst Apart e n)
    (λ b x. said_same _ _ b rest q (ap (λ xs. headed name (i ∷ is) xs) (sym (append_assoc outs (p ∷ []) (map (declared_as ws) os)))) (go b x))))

-- ---- the heading and `reset`

name_taken : (name : List ℕ) → has_prefix (codes "m_") name ≡ true → is_name name ≡ true
    → due_by at_first kind.Name kind.Module [] [] [] name ≡ Some (record at_first { name = Some name })
unfolding due_by
name_taken name f n = rw f (rw n refl)

clock_taken : (name : List ℕ) → due_by (record at_first { name = Some name }) kind.Input kind.Input name (decimal 0) (codes "0") (codes "clock") ≡ Some (headed name [] [])
unfolding due_by
clock_taken name = rw (width_read 1 (omega arith, omega arith)) refl

reset_taken : (name w : List ℕ) → due_by (headed name [] []) kind.Input kind.Input w (decimal 0) (codes "0") (codes "reset") ≡ Some (headed name (record { name = codes "reset"; width = 1 } ∷ []) [])
unfolding due_by
reset_taken name w = rw (width_read 1 (omega arith, omega arith)) refl

pub start_said : (name : List ℕ) (rest : List Sign) (q : Progress) → has_prefix (codes "m_") name ≡ true → is_name name ≡ true
    → ((b : Seen) → Boundary b rule.MorePorts → said (headed name (record { name = codes "reset"; width = 1 } ∷ []) []) b rest ≡ Some q)
    → said at_first seen_start (signs (spec.heading name) ++ (signs (spec.apart kind.Comma ∷ spec.port_pieces kind.Input 1 (codes "reset")) ++ rest)) ≡ Some q
start_said name rest q f n go =
    heading_said at_first name (signs (spec.apart kind.Comma ∷ spec.port_pieces kind.Input 1 (codes "reset")) ++ rest) ∙ rw (name_taken name f n) (rw (clock_taken name)
    (input_said (headed name [] [])
    (record { state = record { first = kind.Input; done = 6 }; head = kind.Input; form = kind.Input; fourth = name; third = decimal 0; second = codes "0"; last = codes "clock" })
    1 (codes "reset") rest (record { none = refl; next = refl; open_it = refl })
    ∙ rw (reset_taken name (codes "clock")) (go _ (record { none = refl; next = refl; open_it = refl }))))
