-- The items of a text that is read, kind by kind.
use Rattle.std.proofs.Common.{ℕ, zero, suc, ◌≡◌, ◌⊎◌, inl, inr, ◌+◌, ◌-◌, ◌<◌, ◌≤◌, List, [], ◌∷◌, ◌++◌, length, drop, map, Bool, true, false, not, Some, refl, ap, sym, subst, ◌∙◌, append_assoc, length-append, arith}
use Rattle.std.specs.Prelude.{codes, decimal, nat_lt, ◌==◌, slice_get, slice_index}
use Rattle.std.specs.List.{AllByRecursion}
use Rattle.std.proofs.lemmas.Bool.{false≢true}
use Rattle.std.proofs.lemmas.Bool.Decides.{nat_tests}
use Rattle.std.proofs.lemmas.List.{append-nil}
use Rattle.dip_lists.proofs.Tests.{both}
use Rattle.net_cells.specs.declared.netlist.Port.{Port}
use Rattle.net_cells.specs.declared.netlist.Reg.{Reg}
use Rattle.net_cells.specs.declared.netlist.Cell.{Cell}
use Rattle.net_cells.specs.declared.netlist.OutPort.{OutPort}
use Rattle.net_cells.specs.Rules.{IsCell, IsWidth, HasWidth}
use Rattle.ver_text.specs.declared.kind.Kind.{Kind}
use Rattle.ver_text.specs.declared.kind.Kind.TheVariants as kind
use Rattle.ver_text.specs.declared.kind.Rule.TheVariants as rule
use Rattle.ver_text.specs.declared.progress.Progress.{Progress}
use Rattle.ver_text.specs.Due.{takes_registers, takes_wires, has_values, is_none}
use Rattle.ver_text.specs.Spelling.{Sign, register_name, cell_name}
use Rattle.ver_text.proofs.Signs.{Seen, said}
use Rattle.ver_text.proofs.Segments.{Boundary}
use Rattle.ver_text.proofs.Exact.{lt_of, eq_of}
use Rattle.ver_text.proofs.CellParts.{celled, with_cells, no_cells, more_cells}
use Rattle.ver_text.proofs.ValueParts.{Full, shown, declared_as, updated, with_outputs, with_updates, no_updates, more_updates}
use Rattle.ver_text.proofs.Told.{Bare}
use Rattle.ver_text.proofs.Constructs.{nothing_more}
use Rattle.ver_text.proofs.Heard.{Item, register, wire, value, update, ending, item_signs, item_due, item_next, heard, plain, named, net_signs, assigned_signs, update_signs}
use Rattle.ver_text.proofs.Taken.{calls, cell_signs, four, RegTaken, reg_taken, WireTaken, wire_taken, value_taken, UpdateTaken, update_taken, EndTaken, end_taken}

-- a test holds where a list has something
abbrev pub AnyWhere : {A : Type 0} → List A → Bool → Type 0
AnyWhere [] b = Unit {0}
AnyWhere (x ∷ xs) b = b ≡ true

abbrev Never : Bool → Type 0
Never b = b ≡ true → ⊥

-- ---- lists

drop_front : (ws : List ℕ) (k : ℕ) → k < length ws → drop k ws ≡ slice_index ws k ∷ drop (k + 1) ws
drop_front [] k h = absurd (omega arith)
drop_front (w ∷ ws) zero h = refl
drop_front (w ∷ ws) (suc k) h =
    let l : k < length ws = omega arith in
    let n : suc (k + 1) ≡ suc k + 1 = omega arith in
    drop_front ws k l ∙ ap (λ m. slice_index ws k ∷ drop m (w ∷ ws)) n

drop_found : (xs : List Port) (k : ℕ) (x : Port) → slice_get xs k ≡ Some x → drop k xs ≡ x ∷ drop (k + 1) xs
drop_found [] k x e = cc
drop_found (y ∷ ys) zero x e = let same : y ≡ x = cc in ap (λ z. z ∷ ys) same
drop_found (y ∷ ys) (suc k) x e =
    let n : suc (k + 1) ≡ suc k + 1 = omega arith in
    drop_found ys k x e ∙ ap (λ m. x ∷ drop m (y ∷ ys)) n

pub drop_all : {A : Type 0} (xs : List A) (k : ℕ) → k ≡ length xs → drop k xs ≡ []
drop_all [] zero e = refl
drop_all [] (suc k) e = refl
drop_all (x ∷ xs) zero e = absurd (omega arith)
drop_all (x ∷ xs) (suc k) e = drop_all xs k (omega arith)

found_low : (xs : List Port) (k : ℕ) (x : Port) → slice_get xs k ≡ Some x → nat_lt k (length xs) ≡ true
found_low xs k x e = let h : k < length xs = found_below xs k x e in grind (arith, nat_tests)
  where
    found_below : (xs : List Port) (k : ℕ) (x : Port) → slice_get xs k ≡ Some x → k < length xs
    found_below [] k x e = cc
    found_below (y ∷ ys) zero x e = omega arith
    found_below (y ∷ ys) (suc k) x e = let h : k < length ys = found_below ys k x e in omega arith

regrouped : (ss front more rest tail : List Sign) → ss ≡ front ++ rest → rest ≡ more ++ tail → ss ≡ (front ++ more) ++ tail
regrouped ss front more rest tail a b = a ∙ (ap (λ xs. front ++ xs) b ∙ sym (append_assoc front more tail))

-- ---- tokens of lists

abbrev pub reg_list : ℕ → List ℕ → List Sign
reg_list number [] = []
reg_list number (w ∷ ws) = net_signs kind.Reg (decimal (w - 1)) (codes "0") (register_name number) ++ reg_list (number + 1) ws

abbrev pub wire_list : ℕ → List ℕ → List Sign
wire_list number [] = []
wire_list number (w ∷ ws) = net_signs kind.Wire (decimal (w - 1)) (codes "0") (cell_name number) ++ wire_list (number + 1) ws

abbrev pub cell_list : (ℕ → List ℕ) → ℕ → List Cell → List Sign
cell_list call number [] = []
cell_list call number (c ∷ cs) = cell_signs call number c ++ cell_list call (number + 1) cs

abbrev pub out_list : (ℕ → List ℕ) → List OutPort → List Sign
out_list call [] = []
out_list call (o ∷ os) = assigned_signs o.name (named (call o.net) ∷ []) ++ out_list call os

abbrev pub update_list : (ℕ → List ℕ) → ℕ → List Reg → List Sign
update_list call number [] = []
update_list call number (r ∷ rs) = update_signs (codes "clock") (register_name number) (call r.next) ++ update_list call (number + 1) rs

-- ---- the updates and the end

pub record Updating (p q : Progress) (ss : List Sign) : Type 0 where
  pub regs : List Reg
  pub split : ss ≡ update_list (calls p) p.next_register regs ++ plain kind.Endmodule ∷ []
  pub final : with_updates p regs ≡ q
  pub full : Full p
  pub all : p.next_register + length regs ≡ p.sources
  pub nexts : AllByRecursion (λ (r : Reg). HasWidth p.widths r.next r.width) regs
  pub wide : drop p.next_register p.widths ≡ map (λ (r : Reg). r.width) regs ++ drop p.sources p.widths

all_valued : (p : Progress) → has_values p ≡ true → Full p
all_valued p h =
    let b = both (p.next_cell == length p.widths) (length p.outputs == length p.declared) h in
    record { cells = eq_of p.next_cell (length p.widths) b.0; outputs = eq_of (length p.outputs) (length p.declared) b.1 }

no_more : (p q after : Progress) (ss rest : List Sign) → ss ≡ plain kind.Endmodule ∷ rest → EndTaken p after → (rest ≡ []) × (after ≡ q) → Updating p q ss
no_more p q after ss rest s t n = record {
  regs = [];
  split = s ∙ ap (λ xs. plain kind.Endmodule ∷ xs) n.0;
  final = no_updates p ∙ (t.same ∙ n.1);
  full = all_valued p t.values;
  all = omega (arith, t.all);
  nexts = tt;
  wide = ap (λ k. drop k p.widths) t.all;
}

updates_cons : (p q : Progress) (r : Reg) (ss rest : List Sign) → Updating (updated p r) q rest → p.next_register < length p.widths
    → slice_index p.widths p.next_register ≡ r.width → HasWidth p.widths r.next r.width
    → ss ≡ update_signs (codes "clock") (register_name p.next_register) (calls p r.next) ++ rest → Updating p q ss
updates_cons p q r ss rest u l w h s =
    let n : p.next_register + 1 + length u.regs ≡ p.sources = u.all in
    record {
      regs = r ∷ u.regs;
      split = regrouped ss (update_signs (codes "clock") (register_name p.next_register) (calls p r.next)) (update_list (calls p) (p.next_register + 1) u.regs) rest
          (plain kind.Endmodule ∷ []) s u.split;
      final = more_updates p r u.regs ∙ u.final;
      full = record { cells = u.full.cells; outputs = u.full.outputs };
      all = omega arith;
      nexts = (h, u.nexts);
      wide = drop_front p.widths p.next_register l ∙ (ap (λ x. x ∷ drop (p.next_register + 1) p.widths) w ∙ ap (λ xs. r.width ∷ xs) u.wide);
    }

-- ---- the nets of outputs

pub record Showing (p q : Progress) (ss : List Sign) : Type 0 where
  pub outs : List OutPort
  pub rest : List Sign
  pub split : ss ≡ out_list (calls p) outs ++ rest
  pub more : Updating (with_outputs p outs) q rest
  pub room : AnyWhere outs (nat_lt (length p.outputs) (length p.declared))
  pub declared : drop (length p.outputs) p.declared ≡ map (declared_as p.widths) outs
  pub within : AllByRecursion (λ (o : OutPort). o.net < length p.widths) outs

no_outputs : (p : Progress) → with_outputs p [] ≡ p
no_outputs p = ap (λ (xs : List OutPort). record p { outputs = xs }) (append-nil p.outputs)

more_outputs : (p : Progress) (o : OutPort) (os : List OutPort) → with_outputs p (o ∷ os) ≡ with_outputs (shown p o) os
more_outputs p o os = ap (λ (xs : List OutPort). record p { outputs = xs }) (sym (append_assoc p.outputs (o ∷ []) os))

show_none : (p q : Progress) (ss : List Sign) → Updating p q ss → Showing p q ss
show_none p q ss u = record {
  outs = [];
  rest = ss;
  split = refl;
  more = subst (λ x. Updating x q ss) (sym (no_outputs p)) u;
  room = tt;
  declared = drop_all p.declared (length p.outputs) u.full.outputs;
  within = tt;
}

shown_none : (outs : List OutPort) (p q : Progress) (ss rest : List Sign) (b : Bool) → ss ≡ out_list (calls p) outs ++ rest → Updating (with_outputs p outs) q rest
    → AnyWhere outs b → Never b → Updating p q ss
shown_none [] p q ss rest b s u a n = subst (Updating p q) (sym s) (subst (λ x. Updating x q rest) (no_outputs p) u)
shown_none (o ∷ os) p q ss rest b s u a n = absurd (n a)

lower_shown : (p q : Progress) (ss : List Sign) → Showing p q ss → Never (nat_lt (length p.outputs) (length p.declared)) → Updating p q ss
lower_shown p q ss h n = shown_none h.outs p q ss h.rest (nat_lt (length p.outputs) (length p.declared)) h.split h.more h.room n

shown_cons : (p q : Progress) (o : OutPort) (ss rest : List Sign) → Showing (shown p o) q rest → slice_get p.declared (length p.outputs) ≡ Some (declared_as p.widths o)
    → o.net < length p.widths → ss ≡ assigned_signs o.name (named (calls p o.net) ∷ []) ++ rest → Showing p q ss
shown_cons p q o ss rest h f l s =
    let n : length p.outputs + 1 ≡ length (p.outputs ++ o ∷ []) = omega (arith, length-append p.outputs (o ∷ [])) in
    record {
      outs = o ∷ h.outs;
      rest = h.rest;
      split = regrouped ss (assigned_signs o.name (named (calls p o.net) ∷ [])) (out_list (calls p) h.outs) rest h.rest s h.split;
      more = subst (λ x. Updating x q h.rest) (sym (more_outputs p o h.outs)) h.more;
      room = found_low p.declared (length p.outputs) (declared_as p.widths o) f;
      declared = drop_found p.declared (length p.outputs) (declared_as p.widths o) f
          ∙ (ap (λ k. declared_as p.widths o ∷ drop k p.declared) n ∙ ap (λ xs. declared_as p.widths o ∷ xs) h.declared);
      within = (l, h.within);
    }

-- ---- the values of cells

pub record Valuing (p q : Progress) (ss : List Sign) : Type 0 where
  pub cells : List Cell
  pub rest : List Sign
  pub split : ss ≡ cell_list (calls p) p.next_cell cells ++ rest
  pub more : Showing (with_cells p cells) q rest
  pub room : AnyWhere cells (nat_lt p.next_cell (length p.widths))
  pub rules : AllByRecursion (λ (c : Cell). IsCell p.widths c.width c.op) cells
  pub wide : drop p.next_cell p.widths ≡ map (λ (c : Cell). c.width) cells

value_none : (p q : Progress) (ss : List Sign) → Showing p q ss → Valuing p q ss
value_none p q ss h = record {
  cells = [];
  rest = ss;
  split = refl;
  more = subst (λ x. Showing x q ss) (sym (no_cells p)) h;
  room = tt;
  rules = tt;
  wide = drop_all p.widths p.next_cell h.more.full.cells;
}

valued_none : (cells : List Cell) (p q : Progress) (ss rest : List Sign) (b : Bool) → ss ≡ cell_list (calls p) p.next_cell cells ++ rest → Showing (with_cells p cells) q rest
    → AnyWhere cells b → Never b → Showing p q ss
valued_none [] p q ss rest b s u a n = subst (Showing p q) (sym s) (subst (λ x. Showing x q rest) (no_cells p) u)
valued_none (c ∷ cs) p q ss rest b s u a n = absurd (n a)

lower_valued : (p q : Progress) (ss : List Sign) → Valuing p q ss → Never (nat_lt p.next_cell (length p.widths)) → Showing p q ss
lower_valued p q ss h n = valued_none h.cells p q ss h.rest (nat_lt p.next_cell (length p.widths)) h.split h.more h.room n

valued_cons : (p q : Progress) (c : Cell) (ss rest : List Sign) → Valuing (celled p c) q rest → nat_lt p.next_cell (length p.widths) ≡ true
    → slice_index p.widths p.next_cell ≡ c.width → IsCell p.widths c.width c.op → ss ≡ cell_signs (calls p) p.next_cell c ++ rest → Valuing p q ss
valued_cons p q c ss rest h l w i s = record {
  cells = c ∷ h.cells;
  rest = h.rest;
  split = regrouped ss (cell_signs (calls p) p.next_cell c) (cell_list (calls p) (p.next_cell + 1) h.cells) rest h.rest s h.split;
  more = subst (λ x. Showing x q h.rest) (sym (more_cells p c h.cells)) h.more;
  room = l;
  rules = (i, h.rules);
  wide = drop_front p.widths p.next_cell (lt_of p.next_cell (length p.widths) l)
      ∙ (ap (λ x. x ∷ drop (p.next_cell + 1) p.widths) w ∙ ap (λ xs. c.width ∷ xs) h.wide);
}

-- ---- the nets of cells

abbrev pub with_wires : Progress → List ℕ → Progress
with_wires p ws = record p { widths = p.widths ++ ws }

abbrev wired : Progress → ℕ → Progress
wired p w = record p { widths = p.widths ++ w ∷ [] }

pub record Wiring (p q : Progress) (ss : List Sign) : Type 0 where
  pub wires : List ℕ
  pub rest : List Sign
  pub split : ss ≡ wire_list (length p.widths) wires ++ rest
  pub more : Valuing (with_wires p wires) q rest
  pub room : AnyWhere wires (takes_wires p)
  pub wide : AllByRecursion IsWidth wires

no_wires : (p : Progress) → with_wires p [] ≡ p
no_wires p = ap (λ (xs : List ℕ). record p { widths = xs }) (append-nil p.widths)

more_wires : (p : Progress) (w : ℕ) (ws : List ℕ) → with_wires p (w ∷ ws) ≡ with_wires (wired p w) ws
more_wires p w ws = ap (λ (xs : List ℕ). record p { widths = xs }) (sym (append_assoc p.widths (w ∷ []) ws))

wire_none : (p q : Progress) (ss : List Sign) → Valuing p q ss → Wiring p q ss
wire_none p q ss h = record { wires = []; rest = ss; split = refl; more = subst (λ x. Valuing x q ss) (sym (no_wires p)) h; room = tt; wide = tt }

wired_none : (wires : List ℕ) (p q : Progress) (ss rest : List Sign) (b : Bool) → ss ≡ wire_list (length p.widths) wires ++ rest → Valuing (with_wires p wires) q rest
    → AnyWhere wires b → Never b → Valuing p q ss
wired_none [] p q ss rest b s u a n = subst (Valuing p q) (sym s) (subst (λ x. Valuing x q rest) (no_wires p) u)
wired_none (c ∷ cs) p q ss rest b s u a n = absurd (n a)

lower_wired : (p q : Progress) (ss : List Sign) → Wiring p q ss → Never (takes_wires p) → Valuing p q ss
lower_wired p q ss h n = wired_none h.wires p q ss h.rest (takes_wires p) h.split h.more h.room n

wires_cons : (p q : Progress) (w : ℕ) (ss rest : List Sign) → Wiring (wired p w) q rest → takes_wires p ≡ true → IsWidth w
    → ss ≡ net_signs kind.Wire (decimal (w - 1)) (codes "0") (cell_name (length p.widths)) ++ rest → Wiring p q ss
wires_cons p q w ss rest h t i s =
    let n : length (p.widths ++ w ∷ []) ≡ length p.widths + 1 = length-append p.widths (w ∷ []) in
    record {
      wires = w ∷ h.wires;
      rest = h.rest;
      split = regrouped ss (net_signs kind.Wire (decimal (w - 1)) (codes "0") (cell_name (length p.widths))) (wire_list (length p.widths + 1) h.wires) rest h.rest s
          (h.split ∙ ap (λ k. wire_list k h.wires ++ h.rest) n);
      more = subst (λ x. Valuing x q h.rest) (sym (more_wires p w h.wires)) h.more;
      room = t;
      wide = (i, h.wide);
    }

-- ---- registers

abbrev pub with_regs : Progress → List ℕ → Progress
with_regs p ws = record p { widths = p.widths ++ ws; sources = p.sources + length ws; next_cell = p.next_cell + length ws }

abbrev registered : Progress → ℕ → Progress
registered p w = record p { widths = p.widths ++ w ∷ []; sources = p.sources + 1; next_cell = p.next_cell + 1 }

pub record Registering (p q : Progress) (ss : List Sign) : Type 0 where
  pub regs : List ℕ
  pub rest : List Sign
  pub split : ss ≡ reg_list (length p.widths) regs ++ rest
  pub more : Wiring (with_regs p regs) q rest
  pub room : AnyWhere regs (takes_registers p)
  pub wide : AllByRecursion IsWidth regs

three_same : (p : Progress) (ws vs : List ℕ) (a b c d : ℕ) → ws ≡ vs → a ≡ b → c ≡ d
    → record p { widths = ws; sources = a; next_cell = c } ≡ record p { widths = vs; sources = b; next_cell = d }
three_same p ws vs a b c d e h k =
    ap (λ (xs : List ℕ). record p { widths = xs; sources = a; next_cell = c }) e
    ∙ (ap (λ n. record p { widths = vs; sources = n; next_cell = c }) h ∙ ap (λ n. record p { widths = vs; sources = b; next_cell = n }) k)

no_regs : (p : Progress) → with_regs p [] ≡ p
no_regs p = three_same p (p.widths ++ []) p.widths (p.sources + 0) p.sources (p.next_cell + 0) p.next_cell (append-nil p.widths) (omega arith) (omega arith)

more_regs : (p : Progress) (w : ℕ) (ws : List ℕ) → with_regs p (w ∷ ws) ≡ with_regs (registered p w) ws
more_regs p w ws =
    three_same p (p.widths ++ w ∷ ws) ((p.widths ++ w ∷ []) ++ ws) (p.sources + suc (length ws)) (p.sources + 1 + length ws) (p.next_cell + suc (length ws)) (p.next_cell + 1 + length ws)
    (sym (append_assoc p.widths (w ∷ []) ws)) (omega arith) (omega arith)

reg_none : (p q : Progress) (ss : List Sign) → Wiring p q ss → Registering p q ss
reg_none p q ss h = record { regs = []; rest = ss; split = refl; more = subst (λ x. Wiring x q ss) (sym (no_regs p)) h; room = tt; wide = tt }

regs_none : (regs : List ℕ) (p q : Progress) (ss rest : List Sign) (b : Bool) → ss ≡ reg_list (length p.widths) regs ++ rest → Wiring (with_regs p regs) q rest
    → AnyWhere regs b → Never b → Wiring p q ss
regs_none [] p q ss rest b s u a n = subst (Wiring p q) (sym s) (subst (λ x. Wiring x q rest) (no_regs p) u)
regs_none (c ∷ cs) p q ss rest b s u a n = absurd (n a)

lower_regs : (p q : Progress) (ss : List Sign) → Registering p q ss → Never (takes_registers p) → Wiring p q ss
lower_regs p q ss h n = regs_none h.regs p q ss h.rest (takes_registers p) h.split h.more h.room n

regs_cons : (p q : Progress) (w : ℕ) (ss rest : List Sign) → Registering (registered p w) q rest → takes_registers p ≡ true → IsWidth w
    → ss ≡ net_signs kind.Reg (decimal (w - 1)) (codes "0") (register_name (length p.widths)) ++ rest → Registering p q ss
regs_cons p q w ss rest h t i s =
    let n : length (p.widths ++ w ∷ []) ≡ length p.widths + 1 = length-append p.widths (w ∷ []) in
    record {
      regs = w ∷ h.regs;
      rest = h.rest;
      split = regrouped ss (net_signs kind.Reg (decimal (w - 1)) (codes "0") (register_name (length p.widths))) (reg_list (length p.widths + 1) h.regs) rest h.rest s
          (h.split ∙ ap (λ k. reg_list k h.regs ++ h.rest) n);
      more = subst (λ x. Wiring x q h.rest) (sym (more_regs p w h.regs)) h.more;
      room = t;
      wide = (i, h.wide);
    }

-- ---- what may not come any more

-- the numbers of what was read
pub record Counted (p : Progress) : Type 0 where
  pub inputs : length p.inputs ≤ p.sources
  pub nets : p.sources ≤ length p.widths
  pub next : p.sources ≤ p.next_cell

not_equal : (a b : ℕ) → b < a → Never (a == b)
not_equal a b h t = let e : a ≡ b = eq_of a b t in absurd (omega arith)

not_below : (a b : ℕ) → a ≡ b → Never (nat_lt a b)
not_below a b e t = let h : a < b = lt_of a b t in absurd (omega arith)

pub some_there : {A : Type 0} (xs : List A) (x : A) → is_none (xs ++ x ∷ []) ≡ false
some_there [] x = refl
some_there (y ∷ ys) x = refl

never : (b : Bool) → b ≡ false → Never b
never b e t = false≢true (sym e ∙ t)

no_register : (p : Progress) → p.sources < length p.widths → Never (takes_registers p)
no_register p h t =
    let f = four (not (is_none p.inputs)) (length p.widths == p.sources) (is_none p.outputs) (is_none p.regs) t in
    not_equal (length p.widths) p.sources h f.second

-- behind the net of an output and behind an update there are no declarations
no_register_by : (p : Progress) → Never (is_none p.outputs) ⊎ Never (is_none p.regs) → Never (takes_registers p)
no_register_by p n t =
    let f = four (not (is_none p.inputs)) (length p.widths == p.sources) (is_none p.outputs) (is_none p.regs) t in
    elim n as (λ _. ⊥) [ inl a ↦ a f.third | inr a ↦ a f.fourth ]

no_wire_by : (p : Progress) → Never (is_none p.outputs) ⊎ Never (is_none p.regs) → Never (takes_wires p)
no_wire_by p n t =
    let f = four (not (is_none p.inputs)) (is_none p.cells) (is_none p.outputs) (is_none p.regs) t in
    elim n as (λ _. ⊥) [ inl a ↦ a f.third | inr a ↦ a f.fourth ]

no_wire : (p : Progress) → Never (is_none p.cells) → Never (takes_wires p)
no_wire p n t =
    let f = four (not (is_none p.inputs)) (is_none p.cells) (is_none p.outputs) (is_none p.regs) t in
    n f.second

-- ---- one item and all of them

abbrev Later : Progress → List Sign → Type 0
Later q rest = (p : Progress) (a : Seen) → Counted p → Boundary a rule.Item → said p a rest ≡ Some q → Registering p q rest

from_update : (p q : Progress) (ss : List Sign) → Updating p q ss → Registering p q ss
from_update p q ss u = reg_none p q ss (wire_none p q ss (value_none p q ss (show_none p q ss u)))

by_register : (p q after : Progress) (a : Seen) (high low name : List ℕ) (ss rest : List Sign) → Counted p → RegTaken p after high low name → Boundary a rule.Item
    → said after a rest ≡ Some q → ss ≡ net_signs kind.Reg high low name ++ rest → Later q rest → Registering p q ss
by_register p q after a high low name ss rest c t d e s go =
    let n : length (p.widths ++ t.width ∷ []) ≡ length p.widths + 1 = length-append p.widths (t.width ∷ []) in
    let h = go (registered p t.width) a (record { inputs = omega (arith, c.inputs); nets = omega (arith, c.nets); next = omega (arith, c.next) }) d
    (subst (λ x. said x a rest ≡ Some q) (sym t.same) e) in
    regs_cons p q t.width ss rest h t.takes t.wide (s ∙ ap (λ xs. xs ++ rest) t.signs)

by_wire : (p q after : Progress) (a : Seen) (high low name : List ℕ) (ss rest : List Sign) → Counted p → WireTaken p after high low name → Boundary a rule.Item
    → said after a rest ≡ Some q → ss ≡ net_signs kind.Wire high low name ++ rest → Later q rest → Registering p q ss
by_wire p q after a high low name ss rest c t d e s go =
    let n : length (p.widths ++ t.width ∷ []) ≡ length p.widths + 1 = length-append p.widths (t.width ∷ []) in
    let more : p.sources < length (p.widths ++ t.width ∷ []) = omega (arith, c.nets) in
    let h = go (wired p t.width) a (record { inputs = c.inputs; nets = omega arith; next = c.next }) d (subst (λ x. said x a rest ≡ Some q) (sym t.same) e) in
    reg_none p q ss
    (wires_cons p q t.width ss rest (lower_regs (wired p t.width) q rest h (no_register (wired p t.width) more)) t.takes t.wide (s ∙ ap (λ xs. xs ++ rest) t.signs))

by_cell : (p q : Progress) (x : Cell) (a : Seen) (ss rest : List Sign) → Counted p → nat_lt p.next_cell (length p.widths) ≡ true → slice_index p.widths p.next_cell ≡ x.width
    → IsCell p.widths x.width x.op → Boundary a rule.Item → said (celled p x) a rest ≡ Some q → ss ≡ cell_signs (calls p) p.next_cell x ++ rest → Later q rest → Registering p q ss
by_cell p q x a ss rest c l w i d e s go =
    let low : p.next_cell < length p.widths = lt_of p.next_cell (length p.widths) l in
    let more : p.sources < length p.widths = omega (arith, c.next) in
    let h = go (celled p x) a (record { inputs = c.inputs; nets = c.nets; next = omega (arith, c.next) }) d e in
    reg_none p q ss (wire_none p q ss
    (valued_cons p q x ss rest
    (lower_wired (celled p x) q rest (lower_regs (celled p x) q rest h (no_register (celled p x) more))
    (no_wire (celled p x) (never (is_none (p.cells ++ x ∷ [])) (some_there p.cells x))))
    l w i s))

by_shown : (p q : Progress) (o : OutPort) (a : Seen) (ss rest : List Sign) → Counted p → nat_lt p.next_cell (length p.widths) ≡ false
    → slice_get p.declared (length p.outputs) ≡ Some (declared_as p.widths o) → o.net < length p.widths → Boundary a rule.Item → said (shown p o) a rest ≡ Some q
    → ss ≡ assigned_signs o.name (named (calls p o.net) ∷ []) ++ rest → Later q rest → Registering p q ss
by_shown p q o a ss rest c n f l d e s go =
    let some : Never (is_none (shown p o).outputs) = never (is_none (p.outputs ++ o ∷ [])) (some_there p.outputs o) in
    let h = go (shown p o) a (record { inputs = c.inputs; nets = c.nets; next = c.next }) d e in
    let w = lower_regs (shown p o) q rest h (no_register_by (shown p o) (inl some)) in
    let v = lower_wired (shown p o) q rest w (no_wire_by (shown p o) (inl some)) in
    let u = lower_valued (shown p o) q rest v (never (nat_lt p.next_cell (length p.widths)) n) in
    reg_none p q ss (wire_none p q ss (value_none p q ss (shown_cons p q o ss rest u f l s)))

by_update : (p q after : Progress) (a : Seen) (clock reg next : List ℕ) (ss rest : List Sign) → Counted p → UpdateTaken p after clock reg next → Boundary a rule.Item
    → said after a rest ≡ Some q → ss ≡ update_signs clock reg next ++ rest → Later q rest → Registering p q ss
by_update p q after a clock reg next ss rest c t d e s go =
    let r : Reg = t.reg in
    let full = all_valued p t.values in
    let some : Never (is_none (updated p r).regs) = never (is_none (p.regs ++ r ∷ [])) (some_there p.regs r) in
    let h = go (updated p r) a (record { inputs = c.inputs; nets = c.nets; next = c.next }) d (subst (λ x. said x a rest ≡ Some q) (sym t.same) e) in
    let w = lower_regs (updated p r) q rest h (no_register_by (updated p r) (inr some)) in
    let v = lower_wired (updated p r) q rest w (no_wire_by (updated p r) (inr some)) in
    let u = lower_valued (updated p r) q rest v (not_below p.next_cell (length p.widths) full.cells) in
    let o = lower_shown (updated p r) q rest u (not_below (length p.outputs) (length p.declared) full.outputs) in
    from_update p q ss (updates_cons p q r ss rest o (omega (arith, t.room, c.nets)) t.width t.has (s ∙ ap (λ xs. xs ++ rest) t.signs))

by_value : (p q after : Progress) (a : Seen) (form : Kind) (fourth third second last : List ℕ) (ss rest : List Sign) → Counted p → item_due p (value form fourth third second last) ≡ Some after
    → Boundary a rule.Item → said after a rest ≡ Some q → ss ≡ item_signs (value form fourth third second last) ++ rest → Later q rest → Registering p q ss
by_value p q after a form fourth third second last ss rest c t d e s go =
    value_taken (Registering p q ss) p after form fourth third second last c.inputs c.nets t
    (λ x. by_cell p q x.cell a ss rest c x.room x.width x.«rule» d (subst (λ y. said y a rest ≡ Some q) (sym x.same) e) (s ∙ ap (λ xs. xs ++ rest) x.signs) go)
    (λ x. by_shown p q x.out a ss rest c x.none x.found x.within d (subst (λ y. said y a rest ≡ Some q) (sym x.same) e) (s ∙ ap (λ xs. xs ++ rest) x.signs) go)

by_item : (item : Item) (p q after : Progress) (a : Seen) (ss rest : List Sign) → Counted p → item_due p item ≡ Some after → Boundary a (item_next item)
    → said after a rest ≡ Some q → ss ≡ item_signs item ++ rest → Later q rest → Registering p q ss
by_item (register high low name) p q after a ss rest c t d e s go = by_register p q after a high low name ss rest c (reg_taken p after high low name t) d e s go
by_item (wire high low name) p q after a ss rest c t d e s go = by_wire p q after a high low name ss rest c (wire_taken p after high low name t) d e s go
by_item (value form fourth third second last) p q after a ss rest c t d e s go = by_value p q after a form fourth third second last ss rest c t d e s go
by_item (update clock reg next) p q after a ss rest c t d e s go =
    by_update p q after a clock reg next ss rest c (update_taken p after clock reg next c.inputs c.nets t) d e s go
by_item ending p q after a ss rest c t d e s go =
    let n = nothing_more after a rest q d e in
    from_update p q ss (no_more p q after ss rest s (end_taken p after t) n)

item_long : (item : Item) → 0 < length (item_signs item)
item_long (register high low name) = omega arith
item_long (wire high low name) = omega arith
item_long (value form fourth third second last) = omega arith
item_long (update clock reg next) = omega arith
item_long ending = omega arith

shorter : (item : Item) (ss rest : List Sign) → ss ≡ item_signs item ++ rest → length rest < length ss
shorter item ss rest s =
    let n : length ss ≡ length (item_signs item) + length rest = ap length s ∙ length-append (item_signs item) rest in
    omega (arith, item_long item)

pub items : (fuel : ℕ) (ss : List Sign) (p q : Progress) (a : Seen) → length ss ≤ fuel → AllByRecursion Bare ss → Counted p → Boundary a rule.Item → said p a ss ≡ Some q → Registering p q ss
items zero ss p q a l b c d e =
    let h = heard p a ss q d b e in
    let m : length h.rest < length ss = shorter h.item ss h.rest h.split in
    absurd (omega arith)
items (suc fuel) ss p q a l b c d e =
    let h = heard p a ss q d b e in
    let m : length h.rest < length ss = shorter h.item ss h.rest h.split in
    let k : length h.rest ≤ fuel = omega arith in
    by_item h.item p q h.after h.next ss h.rest c h.taken h.bound h.goes h.split (λ r x i y g. items fuel h.rest r q x k h.bare i y g)
