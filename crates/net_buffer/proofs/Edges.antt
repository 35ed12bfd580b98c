-- The one in edge and the one out edge of a buffer_machine, and its wires.
use Rattle.std.proofs.Common.{◌≡◌, ℕ, zero, suc, ◌<◌, List, [], ◌∷◌, length, map, get_or, refl, sym, ap, ◌∙◌, subst, arith}
use Rattle.std.proofs.lemmas.List.{get_or-map, length-map}
use Rattle.tl_edge.specs.declared.plan.Plan.{Plan}
use Rattle.tl_edge.specs.declared.plan.PlanEdge.{PlanEdge}
use Rattle.tl_edge.specs.Plans.{edge_at, no_edge}
use Rattle.tl_edge.specs.Wires.{FitWires, a_fields, a_widths, d_fields, d_widths}
use Rattle.flow_core.specs.Leaves.{LeafState}
use Rattle.net_build.specs.declared.types.Wire.{Wire}
use Rattle.net_build.specs.Built.{Built, IsBit}
use Rattle.net_build.specs.Bits.{AreBits}
use Rattle.net_queue.specs.declared.types.EdgeWires.{EdgeWires}
use Rattle.net_queue.specs.declared.types.LeafWires.{LeafWires}
use Rattle.net_queue.specs.declared.types.Put.{Put}
use Rattle.net_queue.specs.Leaves.{AreEdges, AreWiresOf, IsEdge, IsPutInto, LeafView, DoneFitsAt, ins_at, outs_at}
use Rattle.net_build.specs.Values.{Adds}
use Rattle.net_queue.specs.Rows.{KeepsRow, row_widths}
use Rattle.net_buffer.specs.Buffers.{buffer_machine}
use Rattle.net_buffer.proofs.Passing.{Fit, wires_of}

-- the only edge
pub only_edge : (b : Built) (plan : Plan) (edges : List ℕ) (wires : List EdgeWires) (w : EdgeWires) → AreEdges b plan edges wires → length edges ≡ 1 → w ≡ get_or wires 0 w → IsEdge b (edge_at plan (get_or edges 0 0)) w
only_edge b plan edges wires w h l e = subst (IsEdge b (edge_at plan (get_or edges 0 0))) (sym e) (h.each 0 0 w (omega (arith, l, h.long)))

-- a row with these widths
pub long_of : (ws : List Wire) (ns : List ℕ) → row_widths ws ≡ ns → length ws ≡ length ns
long_of ws ns e = sym (length-map ws (λ (w : Wire). w.width)) ∙ ap length e

only_at : (plan : Plan) (edges : List ℕ) → length edges ≡ 1 → get_or (map (edge_at plan) edges) 0 no_edge ≡ edge_at plan (get_or edges 0 0)
only_at plan edges l = get_or-map (edge_at plan) edges 0 0 no_edge (omega (arith, l))

pub fits_both : (b c : Built) (plan : Plan) (leaf : ℕ) (above below : EdgeWires) → length (ins_at plan leaf) ≡ 1 → length (outs_at plan leaf) ≡ 1
    → IsEdge b (edge_at plan (get_or (ins_at plan leaf) 0 0)) above → IsEdge c (edge_at plan (get_or (outs_at plan leaf) 0 0)) below
    → (s : LeafState) (x : LeafView) → DoneFitsAt plan leaf buffer_machine s x → Fit (row_widths below.a.head) (row_widths above.d.head) s x
fits_both b c plan leaf above below i o ha hb s x f = record {
  down = λ beat e. subst (λ (ns : List ℕ). FitWires (a_fields beat) ns) (ap (λ (edge : PlanEdge). a_widths edge.bundle) (only_at plan (outs_at plan leaf) o) ∙ sym hb.a_widths) (f.requests 0 beat e);
  up = λ beat e. subst (λ (ns : List ℕ). FitWires (d_fields beat) ns) (ap (λ (edge : PlanEdge). d_widths edge.bundle) (only_at plan (ins_at plan leaf) i) ∙ sym ha.d_widths) (f.responses 0 beat e);
}

bits_one : (b : Built) (w : Wire) → IsBit b w → AreBits b (w ∷ [])
bits_one b w h = record { each = λ k d l. at k d l }
  where
    at : (k : ℕ) (d : Wire) → k < length (w ∷ []) → IsBit b (get_or (w ∷ []) k d)
    at zero d l = h
    at (suc k) d l = absurd (omega (arith, l))

pub wires_made : (b : Built) (above below : EdgeWires) (down up : Put) → IsPutInto b below.a down → IsPutInto b above.d up → AreWiresOf b (above ∷ []) (below ∷ []) (wires_of down up)
wires_made b above below down up h g = record {
  take_a_long = refl;
  put_d_long = refl;
  take_d_long = refl;
  put_a_long = refl;
  take_a = bits_one b down.valid h.valid;
  take_d = bits_one b up.valid g.valid;
  put_d = λ k e p l. at_d k e p l;
  put_a = λ k e p l. at_a k e p l;
}
  where
    at_d : (k : ℕ) (e : EdgeWires) (p : Put) → k < length (above ∷ []) → IsPutInto b (get_or (above ∷ []) k e).d (get_or (up ∷ []) k p)
    at_d zero e p l = g
    at_d (suc k) e p l = absurd (omega (arith, l))

    at_a : (k : ℕ) (e : EdgeWires) (p : Put) → k < length (below ∷ []) → IsPutInto b (get_or (below ∷ []) k e).a (get_or (down ∷ []) k p)
    at_a zero e p l = h
    at_a (suc k) e p l = absurd (omega (arith, l))

-- what is said of lists of one is said of these lists
pub said : (P : List EdgeWires → List EdgeWires → LeafWires → Type 0) (ins outs : List EdgeWires) (above below : EdgeWires) (take_a take_d : List Wire) (put_a put_d : List Put) (down up : Put)
    → ins ≡ above ∷ [] → outs ≡ below ∷ [] → take_a ≡ down.valid ∷ [] → take_d ≡ up.valid ∷ [] → put_a ≡ down ∷ [] → put_d ≡ up ∷ []
    → P (above ∷ []) (below ∷ []) (wires_of down up) → P ins outs (record { take_a = take_a; put_a = put_a; take_d = take_d; put_d = put_d })
said P ins outs above below take_a take_d put_a put_d down up a b c d e f h =
    subst (λ (x : List EdgeWires). P x outs (record { take_a = take_a; put_a = put_a; take_d = take_d; put_d = put_d })) (sym a)
    (subst (λ (x : List EdgeWires). P (above ∷ []) x (record { take_a = take_a; put_a = put_a; take_d = take_d; put_d = put_d })) (sym b)
    (subst (λ (x : List Wire). P (above ∷ []) (below ∷ []) (record { take_a = x; put_a = put_a; take_d = take_d; put_d = put_d })) (sym c)
    (subst (λ (x : List Wire). P (above ∷ []) (below ∷ []) (record { take_a = down.valid ∷ []; put_a = put_a; take_d = x; put_d = put_d })) (sym d)
    (subst (λ (x : List Put). P (above ∷ []) (below ∷ []) (record { take_a = down.valid ∷ []; put_a = x; take_d = up.valid ∷ []; put_d = put_d })) (sym e)
    (subst (λ (x : List Put). P (above ∷ []) (below ∷ []) (record { take_a = down.valid ∷ []; put_a = down ∷ []; take_d = up.valid ∷ []; put_d = x })) (sym f) h)))))

pub keeps_adds : (old new : Built) (from : List Wire) (widths : List ℕ) (to : List Wire) → Adds old new → KeepsRow old from widths to → KeepsRow new from widths to
keeps_adds old new from widths to g h = record { at = λ v s f. h.at v (g.later.back v s) f }
