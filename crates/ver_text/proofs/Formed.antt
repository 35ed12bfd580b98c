-- What well-formed netlists have, in the forms that reading asks for.
use Rattle.std.proofs.Common.{ℕ, suc, ◌≡◌, ◌≢◌, ◌+◌, ◌/◌, ◌%◌, ◌^◌, ◌<◌, ◌≤◌, List, [], ◌∷◌, ◌++◌, length, map, true, Option, Some, None, refl, ap, sym, arith}
use Rattle.std.specs.Prelude.{codes, decimal, nat_eq, nat_le, slice_index, AllPairs}
use Rattle.std.specs.List.{AllByRecursion, starts_with}
use Rattle.std.proofs.lemmas.List.Elements.{recursion_from_All}
use Rattle.std.proofs.lemmas.Fmt.{decimal_by_steps}
use Rattle.dip_lists.proofs.Tests.{both}
use Rattle.net_cells.specs.declared.netlist.Port.{Port}
use Rattle.net_cells.specs.declared.netlist.Reg.{Reg}
use Rattle.net_cells.specs.declared.netlist.Cell.{Cell}
use Rattle.net_cells.specs.declared.netlist.OutPort.{OutPort}
use Rattle.net_cells.specs.Rules.{IsWellFormed, IsNamed, IsCell, IsWidth, HasWidth, widths, port_names}
use Rattle.ver_text.specs.Numerals.{written_number, numbered}
use Rattle.ver_text.specs.Due.{has_prefix}
use Rattle.ver_text.proofs.Exact.{number_is, join_true, le_to, eq_of}
use Rattle.ver_text.proofs.NetNames.{Distinct, Unnumbered}
use Rattle.ver_text.proofs.ValueParts.{declared_as}
use Rattle.ver_text.proofs.PortParts.{names_of, widths_of, Apart, IsPort}
use Rattle.ver_text.proofs.Spelled.{reset_port, made, Good}

-- ---- names that differ

apart_from : (names : List (List ℕ)) → AllPairs (λ a b. a ≢ b) names → Apart names
apart_from [] h = tt
apart_from (x ∷ xs) h = (
  recursion_from_All (λ y. y ≢ x) xs (λ k d l e. h 0 (suc k) d (omega arith) (omega arith) (sym e)),
  apart_from xs (λ i j d l m. h (suc i) (suc j) d (omega arith) (omega arith)),
)

left_of : (P : List ℕ → Type 0) (xs ys : List (List ℕ)) → AllByRecursion P (xs ++ ys) → AllByRecursion P xs
left_of P [] ys h = tt
left_of P (x ∷ xs) ys h = (h.0, left_of P xs ys h.1)

apart_left : (xs ys : List (List ℕ)) → Apart (xs ++ ys) → Apart xs
apart_left [] ys h = tt
apart_left (x ∷ xs) ys h = (left_of (λ y. y ≢ x) xs ys h.0, apart_left xs ys h.1)

distinct_by : (p : Port) (ps : List Port) → AllByRecursion (λ y. y ≢ p.name) (names_of ps) → AllByRecursion (λ (x : Port). x.name ≢ p.name) ps
distinct_by p [] h = tt
distinct_by p (x ∷ xs) h = (h.0, distinct_by p xs h.1)

distinct_from : (ports : List Port) → Apart (names_of ports) → Distinct ports
distinct_from [] h = tt
distinct_from (p ∷ ps) h = (distinct_by p ps h.0, distinct_from ps h.1)

-- ---- names that aren't numbers

abbrev pub Low : ℕ → List ℕ → Type 0
Low n ds = (c : ℕ) (cs : List ℕ) → ds ≡ c ∷ cs → c ≤ 57

low_one : (n : ℕ) → n < 10 → Low n ((48 + n) ∷ [])
low_one n h c cs e = let t : 48 + n ≡ c = (cc) in omega arith

low_more : (n : ℕ) (ds : List ℕ) → 10 ≤ n → Low (n / 10) ds → Low n (ds ++ ((48 + n % 10) ∷ []))
low_more n [] h l c cs e = let t : 48 + n % 10 ≡ c = (cc) in omega arith
low_more n (d ∷ ds) h l c cs e = let t : d ≡ c = (cc) in let b : d ≤ 57 = l d ds refl in omega arith

pub low_first : (n : ℕ) → n < 2 ^ 64 → Low n (decimal n)
low_first n h = decimal_by_steps Low low_one low_more n h

no_number_by : (o : Option ℕ) (c : ℕ) (cs : List ℕ) → 57 < c → written_number (c ∷ cs) ≡ o → written_number (c ∷ cs) ≡ None
no_number_by None c cs h e = e
no_number_by (Some n) c cs h e =
    let i = number_is (c ∷ cs) n e in
    let l : c ≤ 57 = low_first n i.0 c cs (sym i.1) in
    absurd (omega arith)

no_number : (c : ℕ) (cs : List ℕ) → 57 < c → written_number (c ∷ cs) ≡ None
no_number c cs h = no_number_by (written_number (c ∷ cs)) c cs h refl

reset_unnumbered : Unnumbered reset_port
reset_unnumbered = (no_number 101 (115 ∷ 101 ∷ 116 ∷ []) (omega arith), refl)

front_letter : (name : List ℕ) → starts_with nat_eq name (codes "p_") ≡ true → (cs : List ℕ) × (name ≡ 112 ∷ cs)
front_letter [] h = cc
front_letter (c ∷ cs) h = let t = both (nat_eq 112 c) _ h in (cs, ap (λ x. x ∷ cs) (sym (eq_of 112 c t.0)))

port_unnumbered : (p : Port) → IsNamed (codes "p_") p.name → Unnumbered p
port_unnumbered p h = let f = front_letter p.name h.0 in (ap (numbered 114) f.1, ap (numbered 119) f.1)

all_unnumbered : (ps : List Port) → AllByRecursion (λ (p : Port). IsNamed (codes "p_") p.name) ps → AllByRecursion Unnumbered ps
all_unnumbered [] h = tt
all_unnumbered (p ∷ ps) h = (port_unnumbered p h.0, all_unnumbered ps h.1)

-- ---- lists in parts

pub left_rec : {A : Type 0} (P : A → Type 0) (xs ys : List A) → AllByRecursion P (xs ++ ys) → AllByRecursion P xs
left_rec P [] ys h = tt
left_rec P (x ∷ xs) ys h = (h.0, left_rec P xs ys h.1)

pub right_rec : {A : Type 0} (P : A → Type 0) (xs ys : List A) → AllByRecursion P (xs ++ ys) → AllByRecursion P ys
right_rec P [] ys h = h
right_rec P (x ∷ xs) ys h = right_rec P xs ys h.1

pub of_map : {A : Type 0} (P : ℕ → Type 0) (f : A → ℕ) (xs : List A) → AllByRecursion P (map f xs) → AllByRecursion (λ x. P (f x)) xs
of_map P f [] h = tt
of_map P f (x ∷ xs) h = (h.0, of_map P f xs h.1)

-- ---- ports

named_is : (front name : List ℕ) → IsNamed front name → has_prefix front name ≡ true
named_is front name h = join_true (starts_with nat_eq name front) (nat_le 3 (length name)) h.0 (le_to 3 (length name) h.1)

port_is : (p : Port) → IsNamed (codes "p_") p.name → IsWidth p.width → IsPort p
port_is p h w = record { front = named_is (codes "p_") p.name h; form = h.2; wide = w }

ports_are : (ps : List Port) → AllByRecursion (λ (p : Port). IsNamed (codes "p_") p.name) ps
    → AllByRecursion (λ (p : Port). IsWidth p.width) ps → AllByRecursion IsPort ps
ports_are [] h w = tt
ports_are (p ∷ ps) h w = (port_is p h.0 w.0, ports_are ps h.1 w.1)

outs_are : (ws : List ℕ) → ((x : ℕ) → x < length ws → IsWidth (slice_index ws x)) → (os : List OutPort) → AllByRecursion (λ (o : OutPort). IsNamed (codes "p_") o.name) os
    → AllByRecursion (λ (o : OutPort). o.net < length ws) os
    → AllByRecursion (λ (o : OutPort). IsPort (declared_as ws o)) os
outs_are ws sized [] h l = tt
outs_are ws sized (o ∷ os) h l = (port_is (declared_as ws o) h.0 (sized o.net l.0), outs_are ws sized os h.1 l.1)

pub good : (name : List ℕ) (is : List Port) (rs : List Reg) (cs : List Cell) (os : List OutPort) → IsWellFormed (made name is rs cs os)
    → Good name is rs cs os
good name is rs cs os w =
    let ws : List ℕ = widths (made name is rs cs os) in
    let in_widths : List ℕ = widths_of (reset_port ∷ is) in
    let reg_widths : List ℕ = map (λ (r : Reg). r.width) rs in
    let cell_widths : List ℕ = map (λ (c : Cell). c.width) cs in
    let each : AllByRecursion IsWidth (in_widths ++ reg_widths ++ cell_widths) = recursion_from_All IsWidth ws w.sized in
    let front : AllByRecursion IsWidth (in_widths ++ reg_widths) = left_rec IsWidth (in_widths ++ reg_widths) cell_widths each in
    let ins : AllByRecursion (λ (p : Port). IsWidth p.width) (reset_port ∷ is) =
    of_map IsWidth (λ (p : Port). p.width) (reset_port ∷ is) (left_rec IsWidth in_widths reg_widths front) in
    let sized : (x : ℕ) → x < length ws → IsWidth (slice_index ws x) = λ x l. w.sized x 0 l in
    let named : AllByRecursion (λ (p : Port). IsNamed (codes "p_") p.name) is = recursion_from_All (λ (p : Port). IsNamed (codes "p_") p.name) is w.inputs in
    let shown : AllByRecursion (λ (o : OutPort). o.net < length ws) os = recursion_from_All (λ (o : OutPort). o.net < length ws) os w.shown in
    let outs : AllByRecursion (λ (o : OutPort). IsNamed (codes "p_") o.name) os = recursion_from_All (λ (o : OutPort). IsNamed (codes "p_") o.name) os w.outputs in
    let names : Apart (names_of (reset_port ∷ is) ++ map (λ (o : OutPort). o.name) os) = apart_from (port_names (made name is rs cs os)) w.distinct in
    record {
      front = named_is (codes "m_") name w.name;
      form = w.name.2;
      ports = ports_are is named ins.1;
      outs = outs_are ws sized os outs shown;
      names = names;
      unnumbered = (reset_unnumbered, all_unnumbered is named);
      distinct = distinct_from (reset_port ∷ is) (apart_left (names_of (reset_port ∷ is)) (map (λ (o : OutPort). o.name) os) names);
      few = w.few;
      sized = sized;
      regs = of_map IsWidth (λ (r : Reg). r.width) rs (right_rec IsWidth in_widths reg_widths front);
      nexts = recursion_from_All (λ (r : Reg). HasWidth ws r.next r.width) rs w.registers;
      cells = of_map IsWidth (λ (c : Cell). c.width) cs (right_rec IsWidth (in_widths ++ reg_widths) cell_widths each);
      ops = recursion_from_All (λ (c : Cell). IsCell ws c.width c.op) cs w.cells;
      shown = shown;
    }
