-- The name of a net is read as its number.
use Rattle.std.proofs.Common.{ℕ, zero, suc, ◌≡◌, ◌≢◌, ◌+◌, ◌^◌, ◌<◌, ◌≤◌, List, [], ◌∷◌, length, Bool, true, false, cond, Option, Some, None, refl, ap, sym, subst, ◌∙◌, arith}
use Rattle.std.specs.Prelude.{nat_lt, nat_le, slice_get}
use Rattle.std.specs.List.{AllByRecursion}
use Rattle.std.specs.Str.{bytes_eq}
use Rattle.std.proofs.lemmas.Bool.Decides.{nat_tests}
use Rattle.std.proofs.lemmas.Slice.Eq.{bytes_eq-Decides}
use Rattle.net_cells.specs.declared.netlist.Port.{Port}
use Rattle.ver_text.specs.declared.progress.Progress.{Progress}
use Rattle.ver_text.specs.Numerals.{numbered}
use Rattle.ver_text.specs.Due.{if_within, net_named}
use Rattle.ver_text.specs.NamedPorts.{port_place_from}
use Rattle.ver_text.specs.Spelling.{name_in, register_name, cell_name}
use Rattle.ver_text.proofs.Readback.{number_read}
use Rattle.ver_text.proofs.Exact.{lt_to, le_to, join_true}

-- no port's name is a later one's
abbrev pub Distinct : List Port → Type 0
Distinct [] = Unit {0}
Distinct (p ∷ ps) = AllByRecursion (λ (x : Port). x.name ≢ p.name) ps × Distinct ps

-- a name that isn't a register's or a cell's
abbrev pub Unnumbered : Port → Type 0
Unnumbered p = (numbered 114 p.name ≡ None) × (numbered 119 p.name ≡ None)

pub at_place : (P : Port → Type 0) (ports : List Port) (k : ℕ) (port : Port) → AllByRecursion P ports → slice_get ports k ≡ Some port → P port
at_place P [] k port h e = cc
at_place P (p ∷ ps) zero port h e = let same : p ≡ port = cc in subst P same h.0
at_place P (p ∷ ps) (suc k) port h e = at_place P ps k port h.1 e

differ_by : (b : Bool) (xs ys : List ℕ) → bytes_eq xs ys ≡ b → xs ≢ ys → bytes_eq xs ys ≡ false
differ_by true xs ys e n = absurd (n ((bytes_eq-Decides xs ys).0 e))
differ_by false xs ys e n = e

same_name : (p port : Port) → Some p ≡ Some port → p.name ≡ port.name
same_name p port e = let same : p ≡ port = cc in ap (λ (x : Port). x.name) same

pub differ : (xs ys : List ℕ) → xs ≢ ys → bytes_eq xs ys ≡ false
differ xs ys n = differ_by (bytes_eq xs ys) xs ys refl n

place_is : (ports : List Port) (at k : ℕ) (port : Port) → Distinct ports → slice_get ports k ≡ Some port → port_place_from at port.name ports ≡ Some (at + k)
place_is [] at k port d e = cc
place_is (p ∷ ps) at zero port d e =
    let same : p.name ≡ port.name = same_name p port e in
    let t : bytes_eq p.name port.name ≡ true = (bytes_eq-Decides p.name port.name).1 same in
    let n : at ≡ at + 0 = omega arith in
    rw t (ap (λ x. Some x) n)
place_is (p ∷ ps) at (suc k) port d e =
    let apart : port.name ≢ p.name = at_place (λ (x : Port). x.name ≢ p.name) ps k port d.0 e in
    let f : bytes_eq p.name port.name ≡ false = differ p.name port.name (λ s. apart (sym s)) in
    let n : at + 1 + k ≡ at + suc k = omega arith in
    rw f (place_is ps (at + 1) k port d.1 e ∙ ap (λ x. Some x) n)

within_is : (first end k : ℕ) → first ≤ k → k < end → if_within first end k ≡ Some k
within_is first end k h l = rw (join_true (nat_le first k) (nat_lt k end) (le_to first k h) (lt_to k end l)) refl

register_read : (k : ℕ) → k < 2 ^ 64 → numbered 114 (register_name k) ≡ Some k
register_read k h = number_read k h

cell_read : (k : ℕ) → k < 2 ^ 64 → numbered 119 (cell_name k) ≡ Some k
cell_read k h = number_read k h

beyond : (ports : List Port) (k : ℕ) → slice_get ports k ≡ None → length ports ≤ k
beyond [] k e = omega arith
beyond (p ∷ ps) zero e = cc
beyond (p ∷ ps) (suc k) e = let h : length ps ≤ k = beyond ps k e in omega arith

made_read : (b : Bool) (p : Progress) (sources k : ℕ) → nat_lt k sources ≡ b → p.sources ≡ sources → length p.inputs ≤ k → k < length p.widths → k < 2 ^ 64
    → net_named p (cond b (register_name k) (cell_name k)) ≡ Some k
unfolding net_named
made_read true p sources k t e h l m =
    let s : k < p.sources = grind (arith, nat_tests) in
    rw (register_read k m) (within_is (length p.inputs) p.sources k h s)
made_read false p sources k t e h l m =
    let s : p.sources ≤ k = grind (arith, nat_tests) in
    rw (cell_read k m) (within_is p.sources (length p.widths) k s l)

port_read : (p : Progress) (k : ℕ) (port : Port) → AllByRecursion Unnumbered p.inputs → Distinct p.inputs → slice_get p.inputs k ≡ Some port → net_named p port.name ≡ Some k
unfolding net_named
port_read p k port u d e =
    let n = at_place Unnumbered p.inputs k port u e in
    let z : 0 + k ≡ k = omega arith in
    rw n.0 (rw n.1 (place_is p.inputs 0 k port d e ∙ ap (λ x. Some x) z))

by_place : (o : Option Port) (p : Progress) (k : ℕ) → slice_get p.inputs k ≡ o → AllByRecursion Unnumbered p.inputs → Distinct p.inputs → k < length p.widths → k < 2 ^ 64
    → net_named p (name_in o p.sources k) ≡ Some k
by_place (Some port) p k e u d l m = port_read p k port u d e
by_place None p k e u d l m = made_read (nat_lt k p.sources) p p.sources k refl refl (beyond p.inputs k e) l m

-- the name of a net is read as its number
pub net_read : (p : Progress) (k : ℕ) → AllByRecursion Unnumbered p.inputs → Distinct p.inputs → k < length p.widths → length p.widths < 2 ^ 64
    → net_named p (name_in (slice_get p.inputs k) p.sources k) ≡ Some k
net_read p k u d l m = by_place (slice_get p.inputs k) p k refl u d l (omega arith)
