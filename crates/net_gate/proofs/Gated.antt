-- Gates built in steps.
use Rattle.std.proofs.Common.{◌≡◌, ℕ, zero, suc, ◌<◌, Bool, List, [], ◌∷◌, length, map, get_or, sym, ap, ◌∙◌, subst, arith, if◌then◌else◌}
use Rattle.std.specs.Prelude.{false, replicate, ◌&&◌}
use Rattle.std.proofs.lemmas.List.{get_or_default}
use Rattle.net_build.specs.declared.types.Wire.{Wire}
use Rattle.net_build.proofs.OpenedLists.{widths_later}
use Rattle.net_build.specs.Bits.{AreBits, AreRows, MeansAll, TellsAll, highs, row_picked, wire_values}
use Rattle.net_build.specs.Built.{Built, IsBit}
use Rattle.net_build.specs.Registers.{MayDrive}
use Rattle.net_build.specs.Values.{Adds, Later, Tells, high}
use Rattle.net_choice.specs.declared.choice.Granted.{Granted}
use Rattle.net_choice.specs.declared.rows.Pairing.TheVariants.{Both}
use Rattle.net_choice.specs.Choice.{grants_of}
use Rattle.net_choice.specs.Rows.{any_of, behind_of, paired, pairs}
use Rattle.net_gate.specs.declared.types.Registers.{Registers}
use Rattle.net_gate.specs.declared.types.Serving.{Serving}
use Rattle.net_gate.specs.Built.{IsSide}
use Rattle.net_gate.specs.Gates.{IsGate, RestsAre}
use Rattle.net_gate.specs.Sides.{late_count}
use Rattle.net_gate.proofs.Machined.{free_is, gate_is}
use Rattle.net_table.specs.Tables.{AllBecome, AreEntries, BeginAtZero}

side_adds : (old new : Built) (round : Bool) (count : ℕ) (wants : List Wire) (ready : Wire) (rests : List Wire) (r : Registers) (grants : List Wire) (valid : Wire) → Adds old new → IsSide old round count wants ready rests r grants valid → IsSide new round count wants ready rests r grants valid
side_adds old new round count wants ready rests r grants valid g h = record {
  granted = λ v s. h.granted v (g.later.back v s);
  some = λ v s. h.some v (g.later.back v s);
  nexts = λ v u s t z. h.nexts v u (g.later.back v s) (g.later.ticks v u t) z;
  starts = λ v a. h.starts v (g.later.starts v a);
}

pub gate_by_side : (old mid new : Built) (round : Bool) (rest : List ℕ → ℕ) (most : ℕ) (wants : List Wire) (ready : Wire) (rows : List (List Wire)) (rests : List Wire) (r : Registers) (g h : Granted) (s : Serving) (fields : ℕ)
    → Adds old mid → Adds mid new → 0 < length wants → length rows ≡ length wants → length rests ≡ length wants → h ≡ g → s.grants ≡ h.grants → s.valid ≡ h.some
    → IsSide mid round (length wants) wants ready rests r g.grants g.some
    → MeansAll new s.items (λ v. row_picked fields (highs v h.grants) (map (wire_values v) rows))
    → RestsAre old rest most wants rows rests → IsGate new round rest most wants ready rows s
gate_by_side old mid new round rest most wants ready rows rests r g h s fields a c some lr lt e p q side items tells =
    let gs : s.grants ≡ g.grants = p ∙ ap (λ (x : Granted). x.grants) e in
    let vs : s.valid ≡ g.some = q ∙ ap (λ (x : Granted). x.some) e in
    gate_is new round rest most wants ready rows rests r s fields some lr lt
    (subst (λ (x : List Wire). IsSide new round (length wants) wants ready rests r x s.valid) (sym gs)
    (subst (λ (x : Wire). IsSide new round (length wants) wants ready rests r g.grants x) (sym vs) (side_adds mid new round (length wants) wants ready rests r g.grants g.some c side)))
    (subst (λ (x : List Wire). MeansAll new s.items (λ v. row_picked fields (highs v x) (map (wire_values v) rows))) (sym p) items)
    (record { at = λ v k d f z l h m. tells.at v k d f (a.later.back v (c.later.back v z)) l h m })

-- ---- without a lock

pub bits_entries : (b : Built) (ws : List Wire) → AreEntries b 1 ws → AreBits b ws
bits_entries b ws h = record { each = λ k d l. let x = h.each k d l in record { wire = x.0; one = x.1 } }

pub bits_drive : (b : Built) (xs ys : List Wire) → length ys ≡ length xs → AreBits b xs → AreBits b ys → MayDrive b xs ys
bits_drive b xs ys e g h = record { each = λ k d f l. let x = g.each k d l in let y = h.each k f (subst (λ n. k < n) (sym e) l) in (y.wire, y.one ∙ sym x.one) }

pub free_built : (b0 b1 b2 b3 new : Built) (round : Bool) (rest : List ℕ → ℕ) (wants : List Wire) (ready : Wire) (rows : List (List Wire)) (late nexts ls gs ns : List Wire) (g : Granted) (s : Serving) (fields : ℕ)
    → Adds b0 b1 → Adds b1 b2 → Later b2 b3 → Adds b3 new → 0 < length wants → length rows ≡ length wants → length late ≡ late_count round (length wants) → ls ≡ late → gs ≡ g.grants → ns ≡ nexts
    → BeginAtZero b0 late → AllBecome b3 ls (λ v. wire_values v ns)
    → TellsAll b1 g.grants (λ v. grants_of round (highs v ls) (pairs (paired Both) (highs v wants) (replicate (length wants) (high v ready))))
    → Tells b1 g.some (λ v. any_of (highs v g.grants))
    → TellsAll b2 nexts (λ v. if round then (if high v g.some then behind_of false (highs v gs) else highs v ls) else highs v ls)
    → s.grants ≡ g.grants → s.valid ≡ g.some
    → MeansAll new s.items (λ v. row_picked fields (highs v g.grants) (map (wire_values v) rows))
    → IsGate new round rest 0 wants ready rows s
free_built b0 b1 b2 b3 new round rest wants ready rows late nexts ls gs ns g s fields a1 a2 l3 a4 some lr ll el eg en begins becomes grants valid next_are es ev items =
    free_is new round rest wants ready rows late nexts s fields some lr ll
    (record { at = λ v a. begins.at v (a1.later.starts v (a2.later.starts v (l3.starts v (a4.later.starts v a)))) })
    (record { at = λ v u q t z. subst (λ (ws : List Wire). wire_values u ws ≡ wire_values v nexts) el (becomes.at v u (a4.later.back v q) (a4.later.ticks v u t) z ∙ ap (wire_values v) en) })
    (subst (λ (ws : List Wire). TellsAll new ws (λ v. grants_of round (highs v late) (pairs (paired Both) (highs v wants) (replicate (length wants) (high v ready))))) (sym es)
    (record { at = λ v q. grants.at v (a2.later.back v (l3.back v (a4.later.back v q))) ∙ ap (λ (ws : List Wire). grants_of round (highs v ws) (pairs (paired Both) (highs v wants) (replicate (length wants) (high v ready)))) el }))
    (subst (λ (w : Wire). Tells new w (λ v. any_of (highs v s.grants))) (sym ev) (record { at = λ v q. valid.at v (a2.later.back v (l3.back v (a4.later.back v q))) ∙ ap (λ (ws : List Wire). any_of (highs v ws)) (sym es) }))
    (record {
      at = λ v q.
          next_are.at v (l3.back v (a4.later.back v q))
          ∙ ap (λ (ws : List Wire). if round then (if high v g.some then behind_of false (highs v ws) else highs v ls) else highs v ls) (eg ∙ sym es)
          ∙ ap (λ (ws : List Wire). if round then (if high v g.some then behind_of false (highs v s.grants) else highs v ws) else highs v ws) el
          ∙ ap (λ (w : Wire). if round then (if high v w then behind_of false (highs v s.grants) else highs v late) else highs v late) (sym ev);
    })
    (subst (λ (x : List Wire). MeansAll new s.items (λ v. row_picked fields (highs v x) (map (wire_values v) rows))) (sym es) items)

pub rows_later : (old new : Built) (widths : List ℕ) (rows : List (List Wire)) → Later old new → AreRows old widths rows → AreRows new widths rows
rows_later old new widths rows g h = record { long = h.long; wires = λ k d b. widths_later old new widths (get_or rows k d) g (h.wires k d b) }

-- ---- of one head

pub one_bit : (b : Built) (w : Wire) (ws : List Wire) → ws ≡ w ∷ [] → IsBit b w → AreBits b ws
one_bit b w ws e h = subst (AreBits b) (sym e) (record { each = at })
  where
    at : (k : ℕ) (d : Wire) → k < length (w ∷ []) → IsBit b (get_or (w ∷ []) k d)
    at zero d l = h
    at (suc k) d l = absurd (omega (arith, l))

pub tells_first : (b : Built) (w ready : Wire) (wants : List Wire) (d : Wire) → 0 < length wants → Tells b w (λ v. high v (get_or wants 0 d) && high v ready) → Tells b w (λ v. high v (get_or wants 0 (record { number = 0; width = 0 })) && high v ready)
tells_first b w ready wants d l t = subst (λ (x : Wire). Tells b w (λ v. high v x && high v ready)) (get_or_default wants 0 d (record { number = 0; width = 0 }) l) t
