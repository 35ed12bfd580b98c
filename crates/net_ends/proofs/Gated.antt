-- What passes at ports, one after another.
use Rattle.std.proofs.Common.{◌≡◌, ℕ, ◌+◌, ◌<◌, ◌&&◌, List, [], ◌∷◌, ◌++◌, Some, inl, inr, length, get_or, refl, sym, ap, ◌∙◌, subst, arith}
use Rattle.std.specs.Prelude.{slice_get}
use Rattle.std.proofs.lemmas.Bool.{cases_lt}
use Rattle.std.proofs.lemmas.List.{get_or_append_left, get_or_default, get_or_push, length-map, length_push}
use Rattle.std.proofs.lemmas.Option.{slice_get-get_or, slice_get_within}
use Rattle.tl_edge.specs.declared.plan.Plan.{Plan}
use Rattle.tl_edge.specs.declared.plan.PlanPort.{PlanPort}
use Rattle.tl_edge.specs.Plans.{edge_at}
use Rattle.tl_edge.specs.Plans.Giver.{Source}
use Rattle.tl_edge.specs.Plans.Taker.{Sink}
use Rattle.tl_edge.specs.SoundPlans.{IsSound}
use Rattle.tl_edge.proofs.Ways.{ends_law, same_item}
use Rattle.net_build.specs.declared.types.Wire.{Wire}
use Rattle.net_build.specs.Built.{Built, IsBit}
use Rattle.net_build.specs.Values.{Adds, Later, Tells, high}
use Rattle.net_build.proofs.OpenedLists.{widths_later}
use Rattle.net_build.proofs.Steps.{bit_adds, tells_adds}
use Rattle.net_queue.specs.declared.types.EdgeWires.{EdgeWires}
use Rattle.net_queue.specs.declared.types.Queue.{Queue}
use Rattle.net_queue.specs.Leaves.{IsEdge}
use Rattle.net_queue.specs.Queues.{IsOpen}
use Rattle.net_queue.specs.Rows.{AreAlike, row_widths}
use Rattle.net_parts.specs.declared.types.EndWires.{EndWires}
use Rattle.net_parts.specs.Wired.{no_edge_wires, no_end, wires_of_edge, wires_of_port}
use Rattle.net_leaves.specs.OpenEdges.{AreOpenEdges}
use Rattle.net_leaves.proofs.Later.{edges_kept}
use Rattle.net_ends.specs.Ends.{AreOfferEnds, AreSinkEnds, AreSourceEnds, IsEnd, IsGated}
use Rattle.net_ends.proofs.Later.{end_later, gated_later}

-- ---- one port

-- the items of an end have the widths of the queue into which they go
pub items_alike : (old new : Built) (queue : Queue) (offered : EndWires) (items : List Wire) → Later old new → IsOpen old queue → IsEnd old (row_widths queue.head) offered → items ≡ offered.put.items → AreAlike new queue.head items
items_alike old new queue offered items g o h e = subst (AreAlike new queue.head) (sym e) (record {
  long = h.long ∙ length-map queue.head (λ (w : Wire). w.width);
  one = widths_later old new (row_widths queue.head) queue.head g o.alike.one;
  other = widths_later old new (row_widths queue.head) offered.put.items g h.items;
})

pub end_made : (old mid new : Built) (onto from : Queue) (offered : EndWires) (valid take : Wire) (items : List Wire) → Adds old new → Adds mid new → IsOpen old onto → IsEnd old (row_widths onto.head) offered
    → IsBit mid valid → Tells mid valid (λ v. high v onto.ready && high v offered.put.valid)
    → IsBit new take → Tells new take (λ v. high v offered.take && high v from.valid)
    → items ≡ offered.put.items
    → IsGated new onto from offered (record { put = record { valid = valid; items = items }; take = take })
end_made old mid new onto from offered valid take items g h o e bv tv bt ut is = record {
  passes = record {
    put = tells_adds mid new valid _ h tv;
    items = is;
    take = ut;
  };
  into = record { valid = bit_adds mid new valid h bv; items = items_alike old new onto offered items g.later o e is };
  take = bt;
}

-- ---- at each port, where requests and responses go one way at sources and the other at sinks

pub record AreGated (b : Built) (onto from : EdgeWires → Queue) (ports : List PlanPort) (edges : List EdgeWires) (offered gated : List EndWires) (count : ℕ) : Type 0 where
  pub long : length gated ≡ count
  pub each : (port : ℕ) (at : PlanPort) → port < count → slice_get ports port ≡ Some at
      → IsGated b (onto (wires_of_edge edges at.edge)) (from (wires_of_edge edges at.edge)) (wires_of_port offered port) (wires_of_port gated port)

pub gated_more : (mid new : Built) (onto from : EdgeWires → Queue) (ports : List PlanPort) (edges : List EdgeWires) (offered gated more : List EndWires) (k : ℕ) (here : PlanPort) (wires : EdgeWires) (offer end : EndWires)
    → Later mid new → AreGated mid onto from ports edges offered gated k → slice_get ports k ≡ Some here → wires ≡ wires_of_edge edges here.edge → offer ≡ wires_of_port offered k
    → IsGated new (onto wires) (from wires) offer end → more ≡ gated ++ end ∷ [] → AreGated new onto from ports edges offered more (k + 1)
gated_more mid new onto from ports edges offered gated more k here wires offer end g h is w o i e = subst (λ (xs : List EndWires). AreGated new onto from ports edges offered xs (k + 1)) (sym e) (record {
  long = length_push gated end ∙ ap (λ (n : ℕ). n + 1) h.long;
  each = λ port at l at_is.
      elim (cases_lt port k) [
        | inl s ↦
            let b : port < length gated = omega (arith, s, h.long) in
            let onto_at : Queue = onto (wires_of_edge edges at.edge) in
            let from_at : Queue = from (wires_of_edge edges at.edge) in
            subst (IsGated new onto_at from_at (wires_of_port offered port)) (sym (get_or_append_left gated (end ∷ []) no_end port b))
            (gated_later mid new onto_at from_at (wires_of_port offered port) (wires_of_port gated port) g (h.each port at s at_is))
        | inr t ↦
            let q : k ≡ port = omega (arith, l, t) in
            last port at q at_is
      ];
})
  where
    last : (port : ℕ) (at : PlanPort) → k ≡ port → slice_get ports port ≡ Some at
        → IsGated new (onto (wires_of_edge edges at.edge)) (from (wires_of_edge edges at.edge)) (wires_of_port offered port) (wires_of_port (gated ++ end ∷ []) port)
    last port at q at_is =
        let same : here ≡ at = same_item ports k here at is (ap (slice_get ports) q ∙ at_is) in
        let there : wires ≡ wires_of_edge edges at.edge = w ∙ ap (λ (x : PlanPort). wires_of_edge edges x.edge) same in
        subst (λ (x : EdgeWires). IsGated new (onto x) (from x) (wires_of_port offered port) (wires_of_port (gated ++ end ∷ []) port)) there
        (subst (λ (x : EndWires). IsGated new (onto wires) (from wires) x (wires_of_port (gated ++ end ∷ []) port)) (o ∙ ap (wires_of_port offered) q)
        (subst (IsGated new (onto wires) (from wires) offer) (sym (get_or_push gated end no_end port (h.long ∙ q))) i))

-- ---- a port of a plan, by its number

pub port_is : (ports stated : List PlanPort) (k : ℕ) (at : PlanPort) → stated ≡ ports → k < length stated → at ≡ get_or stated k at → slice_get ports k ≡ Some at
port_is ports stated k at e l is = subst (λ (xs : List PlanPort). slice_get xs k ≡ Some at) e (slice_get-get_or stated k at l ∙ ap (λ (x : PlanPort). Some x) (sym is))

pub source_within : (plan : Plan) (k : ℕ) (at : PlanPort) → IsSound plan → slice_get plan.sources k ≡ Some at → at.edge < length plan.edges
source_within plan k at sound is = ends_law.given plan at.edge (Source k) sound (at, is, refl)

pub sink_within : (plan : Plan) (k : ℕ) (at : PlanPort) → IsSound plan → slice_get plan.sinks k ≡ Some at → at.edge < length plan.edges
sink_within plan k at sound is = ends_law.taken plan at.edge (Sink k) sound (at, is, refl)

-- the queues of its edge
pub edge_is : (edges : List EdgeWires) (k : ℕ) (wires : EdgeWires) → k < length edges → wires ≡ get_or edges k wires → wires ≡ wires_of_edge edges k
edge_is edges k wires l is = is ∙ get_or_default edges k wires no_edge_wires l

pub offer_is : (offered : List EndWires) (k : ℕ) (offer : EndWires) → k < length offered → offer ≡ get_or offered k offer → offer ≡ wires_of_port offered k
offer_is offered k offer l is = is ∙ get_or_default offered k offer no_end l

pub open_here : (old mid : Built) (plan : Plan) (edges : List EdgeWires) (k : ℕ) (wires : EdgeWires) → Adds old mid → AreOpenEdges old plan edges → k < length plan.edges → wires ≡ wires_of_edge edges k → IsEdge mid (edge_at plan k) wires
open_here old mid plan edges k wires g h l e = subst (IsEdge mid (edge_at plan k)) (sym e) ((edges_kept old mid plan edges g.later g.undriven h).each k l)

pub offer_here : (old mid : Built) (widths : PlanPort → List ℕ) (ports : List PlanPort) (offered : List EndWires) (k : ℕ) (at : PlanPort) (offer : EndWires) (row : List ℕ) → Adds old mid → AreOfferEnds old widths ports offered → slice_get ports k ≡ Some at
    → offer ≡ wires_of_port offered k → row ≡ widths at → IsEnd mid row offer
offer_here old mid widths ports offered k at offer row g h is e q =
    subst (λ (ws : List ℕ). IsEnd mid ws offer) (sym q) (subst (IsEnd mid (widths at)) (sym e) (end_later old mid (widths at) (wires_of_port offered k) g.later (h.each k at is)))

-- ---- at all ports

pub sources_gated : (b : Built) (ports : List PlanPort) (edges : List EdgeWires) (offered gated : List EndWires) (count : ℕ) → AreGated b (λ (edge : EdgeWires). edge.a) (λ (edge : EdgeWires). edge.d) ports edges offered gated count → count ≡ length ports
    → AreSourceEnds b ports edges offered gated
sources_gated b ports edges offered gated count h e = record {
  long = h.long ∙ e;
  each = λ port at is. let l : port < length ports = slice_get_within ports port at is in h.each port at (omega (arith, l, e)) is;
}

pub sinks_gated : (b : Built) (ports : List PlanPort) (edges : List EdgeWires) (offered gated : List EndWires) (count : ℕ) → AreGated b (λ (edge : EdgeWires). edge.d) (λ (edge : EdgeWires). edge.a) ports edges offered gated count → count ≡ length ports
    → AreSinkEnds b ports edges offered gated
sinks_gated b ports edges offered gated count h e = record {
  long = h.long ∙ e;
  each = λ port at is. let l : port < length ports = slice_get_within ports port at is in h.each port at (omega (arith, l, e)) is;
}
