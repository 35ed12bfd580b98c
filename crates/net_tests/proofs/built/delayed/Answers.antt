use Rattle.std.proofs.Common.{◌≡◌, ℕ, zero, suc, ◌<◌, List, [], ◌∷◌, length, get_or, ap, ◌∙◌, sym, subst, arith}
use Rattle.net_build.specs.declared.types.Wire.{Wire}
use Rattle.net_build.specs.Built.{Built, IsWire}
use Rattle.net_build.specs.Registers.{AreDistinct, AreUndriven, AreWires, DrivesAll, MayDrive, numbers}
use Rattle.net_build.specs.Values.{Later, Opens}
use Rattle.net_build.proofs.DrivenLists.{opened_all_driven}
use Rattle.net_build.proofs.Steps.{wire_later, wire_opens}
use Rattle.net_tests.proofs.built.delayed.Goals as goal

-- a list and its slice
waiting_row : (b : Built) (row held : List Wire) → row ≡ held → AreUndriven b held → AreUndriven b row
waiting_row b row held e h = subst (AreUndriven b) (sym e) h

wires_row : (b : Built) (ws : List ℕ) (row held : List Wire) → row ≡ held → AreWires b ws held → AreWires b ws row
wires_row b ws row held e h = subst (AreWires b ws) (sym e) h

drives_row : (old new : Built) (row held : List Wire) → row ≡ held → DrivesAll old new (numbers row) → DrivesAll old new (numbers held)
drives_row old new row held e h = subst (λ (ws : List Wire). DrivesAll old new (numbers ws)) e h

-- two wires for two registers
two_nexts : (b : Built) (x y : Wire) (ws : List Wire) → IsWire b x → x.width ≡ 63 → IsWire b y → y.width ≡ 63 → length ws ≡ 2 → AreWires b (63 ∷ 63 ∷ []) ws → MayDrive b ws (x ∷ y ∷ [])
two_nexts b x y ws h e i f l g = record { each = at }
  where
    at : (k : ℕ) (d c : Wire) → k < length ws → IsWire b (get_or (x ∷ y ∷ []) k c) × ((get_or (x ∷ y ∷ []) k c).width ≡ (get_or ws k d).width)
    at zero d c r = (h, e ∙ sym (g.each 0 d r).1)
    at (suc zero) d c r = (i, f ∙ sym (g.each 1 d r).1)
    at (suc (suc n)) d c r = absurd (omega (arith, l))

row_nexts : (old new : Built) (x d : Wire) (rs : List ℕ) (row held : List Wire) → row ≡ held → Opens old new rs → IsWire old x → x.width ≡ 63 → length held ≡ 2 → AreWires new (63 ∷ 63 ∷ []) held → MayDrive new row (x ∷ get_or row 0 d ∷ [])
row_nexts old new x d rs row held e o h i l g =
    let k : length row ≡ 2 = ap length e ∙ l in
    let f = wires_row new (63 ∷ 63 ∷ []) row held e g in
    let w = f.each 0 d (omega (arith, k)) in
    two_nexts new x (get_or row 0 d) row (wire_opens old new x rs o h) i w.0 w.1 k f

row_wire : (old new : Built) (d : Wire) (row held : List Wire) → row ≡ held → Later old new → length held ≡ 2 → AreWires old (63 ∷ 63 ∷ []) held → IsWire new (get_or row 1 d)
row_wire old new d row held e g l h =
    let k : length row ≡ 2 = ap length e ∙ l in
    wire_later old new (get_or row 1 d) g ((wires_row old (63 ∷ 63 ∷ []) row held e h).each 1 d (omega (arith, k))).0

pub drive_all-requires-clause-distinct : goal.drive_all-requires-clause-distinct
drive_all-requires-clause-distinct c = subst AreDistinct (sym c.as_slice-row.ensures) c.in_ok-held.ensures.distinct

pub drive_all-requires-clause-undriven : goal.drive_all-requires-clause-undriven
drive_all-requires-clause-undriven c = waiting_row _ _ _ c.as_slice-row.ensures c.in_ok-held.ensures.undriven

pub drive_all-requires-clause-nexts : goal.drive_all-requires-clause-nexts
drive_all-requires-clause-nexts c = row_nexts _ _ c.args.x _ _ _ _ c.as_slice-row.ensures c.in_ok-held.ensures.opens c.requires.wire c.requires.width c.in_ok-held.ensures.long c.in_ok-held.ensures.wires

pub returns-clause-adds : goal.returns-clause-adds
returns-clause-adds c = opened_all_driven _ _ _ (numbers c.in_ok-held.held) c.in_ok-held.ensures.opens (drives_row _ _ c.as_slice-row.result.now c.in_ok-held.held c.as_slice-row.ensures c.in_ok-drive_all.ensures.drives)

pub returns-clause-wire : goal.returns-clause-wire
returns-clause-wire c = row_wire _ _ _ c.as_slice-row.result.now c.in_ok-held.held c.as_slice-row.ensures c.in_ok-drive_all.ensures.drives.later c.in_ok-held.ensures.long c.in_ok-held.ensures.wires
