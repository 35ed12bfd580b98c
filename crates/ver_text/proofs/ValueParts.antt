-- The nets of outputs, the next nets of registers and the end are read one after another.
use Rattle.std.proofs.Common.{ℕ, zero, suc, ◌≡◌, ◌+◌, ◌<◌, List, [], ◌∷◌, ◌++◌, length, drop, map, Bool, true, false, cond, Some, refl, ap, sym, ◌∙◌, append_assoc, length-append, arith}
use Rattle.std.specs.Prelude.{codes, nat_lt, ◌==◌, slice_get, slice_index}
use Rattle.std.specs.List.{AllByRecursion}
use Rattle.std.proofs.lemmas.List.{append-nil}
use Rattle.std.proofs.lemmas.Bool.Decides.{nat_tests}
use Rattle.net_cells.specs.declared.netlist.Port.{Port}
use Rattle.net_cells.specs.declared.netlist.Reg.{Reg}
use Rattle.net_cells.specs.declared.netlist.OutPort.{OutPort}
use Rattle.net_cells.specs.declared.netlist.Netlist.{Netlist}
use Rattle.net_cells.specs.Rules.{HasWidth}
use Rattle.ver_text.specs.declared.kind.Kind.TheVariants as kind
use Rattle.ver_text.specs.declared.kind.Rule.TheVariants as rule
use Rattle.ver_text.specs.declared.progress.Progress.{Progress}
use Rattle.ver_text.specs.Parts.{opens}
use Rattle.ver_text.specs.Due.{due_by, due_assignment, due_shown, due_update, due_end, net_named, is_none, has_values}
use Rattle.ver_text.specs.Spelling as spec
use Rattle.ver_text.specs.Spelling.{Sign, signs, part_signs, net_name, register_name, assignment, update, tight_name, last}
use Rattle.ver_text.proofs.Signs.{Seen, said}
use Rattle.ver_text.proofs.Refusals.{begins}
use Rattle.ver_text.proofs.Segments.{Boundary, due_then, name_said, update_said}
use Rattle.ver_text.proofs.Readback.{bytes_same, numbered_is}
use Rattle.ver_text.proofs.Exact.{lt_to, eq_to, join_true}
use Rattle.ver_text.proofs.Groups.{said_same}
use Rattle.ver_text.proofs.CellParts.{Ready, operand, front_width}

not_below : (a b : ℕ) → a ≡ b → nat_lt a b ≡ false
not_below a b e = grind (arith, nat_tests)

front_port : (xs rest : List Port) (x : Port) (k : ℕ) → drop k xs ≡ x ∷ rest → (slice_get xs k ≡ Some x) × (drop (suc k) xs ≡ rest)
front_port [] rest x zero e = cc
front_port [] rest x (suc k) e = cc
front_port (y ∷ ys) rest x zero e = ((cc), (cc))
front_port (y ∷ ys) rest x (suc k) e = front_port ys rest x k e

-- ---- outputs

abbrev pub shown : Progress → OutPort → Progress
shown p o = record p { outputs = p.outputs ++ o ∷ [] }

abbrev pub declared_as : List ℕ → OutPort → Port
declared_as ws o = record { name = o.name; width = slice_index ws o.net }

shown_taken : (p : Progress) (fourth third value : List ℕ) (o : OutPort) → p.next_cell ≡ length p.widths
    → slice_get p.declared (length p.outputs) ≡ Some (declared_as p.widths o) → net_named p value ≡ Some o.net
    → due_by p kind.Assign kind.Semicolon fourth third o.name value ≡ Some (shown p o)
unfolding due_by due_assignment due_shown
shown_taken p fourth third value o c d n =
    rw (not_below p.next_cell (length p.widths) c) (rw d (rw (bytes_same o.name) (rw n (rw (eq_to (slice_index p.widths o.net) (slice_index p.widths o.net) refl) refl))))

abbrev pub with_outputs : Progress → List OutPort → Progress
with_outputs p os = record p { outputs = p.outputs ++ os }

pub outputs_said : (os : List OutPort) (n : Netlist) (p : Progress) (a : Seen) (rest : List Sign) (q : Progress) → Boundary a rule.Item → Ready n p
    → p.next_cell ≡ length p.widths → drop (length p.outputs) p.declared ≡ map (declared_as p.widths) os
    → AllByRecursion (λ (o : OutPort). o.net < length p.widths) os
    → ((b : Seen) → Boundary b rule.Item → said (with_outputs p os) b rest ≡ Some q)
    → said p a (part_signs (spec.output_values n os) ++ rest) ≡ Some q
outputs_said [] n p a rest q d r c e i go = said_same _ _ a rest q (ap (λ (xs : List OutPort). record p { outputs = xs }) (append-nil p.outputs)) (go a d)
outputs_said (o ∷ os) n p a rest q d r c e i go =
    let tail : List Sign = part_signs (spec.output_values n os) ++ rest in
    let w = front_port p.declared (map (declared_as p.widths) os) (declared_as p.widths o) (length p.outputs) e in
    let l : length (p.outputs ++ o ∷ []) ≡ suc (length p.outputs) = omega (arith, length-append p.outputs (o ∷ [])) in
    ap (λ ss. said p a ss) (append_assoc (signs (assignment o.name (tight_name (net_name n o.net) ∷ []))) (part_signs (spec.output_values n os)) rest)
    ∙ (name_said p a o.name (net_name n o.net) tail d
    ∙ rw (shown_taken p a.second a.last (net_name n o.net) o c w.0 (operand n p o.net r i.0))
    (outputs_said os n (shown p o) _ rest q (record { none = refl; next = refl; open_it = refl })
    (record { inputs = r.inputs; sourced = r.sourced; unnumbered = r.unnumbered; distinct = r.distinct; few = r.few; sized = r.sized })
    c (ap (λ k. drop k p.declared) l ∙ w.1) i.1
    (λ b x. said_same _ _ b rest q (ap (λ (xs : List OutPort). record p { outputs = xs }) (sym (append_assoc p.outputs (o ∷ []) os))) (go b x))))

-- ---- the next nets of registers

-- each cell and each output has its value
pub record Full (p : Progress) : Type 0 where
  pub cells : p.next_cell ≡ length p.widths
  pub outputs : length p.outputs ≡ length p.declared

full_is : (p : Progress) → Full p → has_values p ≡ true
full_is p f = join_true (p.next_cell == length p.widths) (length p.outputs == length p.declared) (eq_to p.next_cell (length p.widths) f.cells) (eq_to (length p.outputs) (length p.declared) f.outputs)

abbrev pub updated : Progress → Reg → Progress
updated p r = record p { regs = p.regs ++ r ∷ []; next_register = p.next_register + 1 }

update_taken : (p : Progress) (fourth next : List ℕ) (r : Reg) → Full p → p.next_register < p.sources → slice_index p.widths p.next_register ≡ r.width
    → slice_index p.widths r.next ≡ r.width → net_named p next ≡ Some r.next
    → due_by p kind.Always kind.Always fourth (codes "clock") (register_name p.next_register) next ≡ Some (updated p r)
unfolding due_by due_update
update_taken p fourth next r f l w v n =
    rw (full_is p f) (rw (lt_to p.next_register p.sources l) (rw (numbered_is 114 p.next_register p.next_register refl)
    (rw n (rw w (rw (eq_to (slice_index p.widths r.next) r.width v) refl)))))

abbrev pub with_updates : Progress → List Reg → Progress
with_updates p rs = record p { regs = p.regs ++ rs; next_register = p.next_register + length rs }

pub no_updates : (p : Progress) → with_updates p [] ≡ p
no_updates p =
    let n : p.next_register + 0 ≡ p.next_register = omega arith in
    ap (λ (xs : List Reg). record p { regs = xs; next_register = p.next_register + 0 }) (append-nil p.regs) ∙ ap (λ m. record p { next_register = m }) n

pub more_updates : (p : Progress) (r : Reg) (rs : List Reg) → with_updates p (r ∷ rs) ≡ with_updates (updated p r) rs
more_updates p r rs =
    let n : p.next_register + suc (length rs) ≡ p.next_register + 1 + length rs = omega arith in
    ap (λ (xs : List Reg). record p { regs = xs; next_register = p.next_register + suc (length rs) }) (sym (append_assoc p.regs (r ∷ []) rs))
    ∙ ap (λ m. record p { regs = p.regs ++ r ∷ [] ++ rs; next_register = m }) n

pub updates_said : (rs : List Reg) (n : Netlist) (p : Progress) (others : List ℕ) (a : Seen) (rest : List Sign) (q : Progress) → Boundary a rule.Item → Ready n p
    → Full p → p.next_register + length rs ≡ p.sources → drop p.next_register p.widths ≡ map (λ (r : Reg). r.width) rs ++ others
    → AllByRecursion (λ (r : Reg). HasWidth p.widths r.next r.width) rs
    → ((b : Seen) → Boundary b rule.Item → said (with_updates p rs) b rest ≡ Some q)
    → said p a (part_signs (spec.updates n p.next_register rs) ++ rest) ≡ Some q
updates_said [] n p others a rest q d r f c e i go = said_same _ _ a rest q (no_updates p) (go a d)
updates_said (x ∷ xs) n p others a rest q d r f c e i go =
    let tail : List Sign = part_signs (spec.updates n (p.next_register + 1) xs) ++ rest in
    let w = front_width p.widths p.next_register x.width (map (λ (y : Reg). y.width) xs ++ others) e in
    let l : p.next_register < p.sources = omega arith in
    let m : p.next_register + 1 + length xs ≡ p.sources = omega arith in
    ap (λ ss. said p a ss) (append_assoc (signs (update (register_name p.next_register) (net_name n x.next))) (part_signs (spec.updates n (p.next_register + 1) xs)) rest)
    ∙ (update_said p a (register_name p.next_register) (net_name n x.next) tail d
    ∙ rw (update_taken p a.last (net_name n x.next) x f l w.1 i.0.1 (operand n p x.next r i.0.0))
    (updates_said xs n (updated p x) others _ rest q (record { none = refl; next = refl; open_it = refl })
    (record { inputs = r.inputs; sourced = r.sourced; unnumbered = r.unnumbered; distinct = r.distinct; few = r.few; sized = r.sized })
    (record { cells = f.cells; outputs = f.outputs }) m w.2 i.1
    (λ b z. said_same _ _ b rest q (more_updates p x xs) (go b z))))

-- ---- the end

end_is : (p : Progress) → is_none p.inputs ≡ false → Full p → p.next_register ≡ p.sources → due_end p ≡ Some p
end_is p i f e = rw i (rw (full_is p f) (rw (eq_to p.next_register p.sources e) refl))

end_by : (p : Progress) (a : Seen) (b : Bool) → b ≡ true → due_end p ≡ Some p
    → due_then (due_by p (cond b kind.Endmodule a.head) kind.Endmodule a.fourth a.third a.second a.last)
    (λ q. said q (record { state = record { first = kind.Endmodule; done = 0 }; head = cond b kind.Endmodule a.head; form = kind.Endmodule; fourth = a.fourth; third = a.third; second = a.second; last = a.last }) [])
    ≡ Some p
unfolding due_by
end_by p a b t e = rw t (rw e refl)

pub end_said : (p : Progress) (a : Seen) → Boundary a rule.Item → is_none p.inputs ≡ false → Full p → p.next_register ≡ p.sources
    → said p a (signs (last kind.Endmodule ∷ [])) ≡ Some p
end_said p a d i f e =
    rw (begins a.state rule.Item kind.Endmodule (record { none = d.none; next = d.next }) refl, said) (end_by p a (opens a.state) d.open_it (end_is p i f e))
