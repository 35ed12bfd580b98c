-- The wires at the ends of an edge.
use Rattle.std.proofs.Common.{◌≡◌, ℕ, ◌+◌, ◌<◌, List, [], length, get_or, Option, Some, sym, ap, ◌∙◌, subst, arith, inl, inr}
use Rattle.std.specs.Prelude.{slice_get}
use Rattle.std.specs.Option.{option_map_or}
use Rattle.std.proofs.lemmas.Bool.{cases_lt}
use Rattle.std.proofs.lemmas.List.{get_or-map, get_or_default, length-map}
use Rattle.std.proofs.lemmas.Option.{get_or_from_slice_get, same_Some, slice_get-get_or, slice_get_within}
use Rattle.tl_edge.specs.declared.plan.Leaf.{Leaf}
use Rattle.tl_edge.specs.declared.plan.PlanPort.{PlanPort}
use Rattle.tl_edge.specs.declared.plan.Plan.{Plan}
use Rattle.tl_edge.specs.Plans.{Giver, Out, Source, Taker, In, Sink, GivesTo, TakesFrom}
use Rattle.tl_edge.specs.SoundPlans.{IsSound}
use Rattle.tl_edge.proofs.Ways.{ends_law}
use Rattle.net_build.specs.declared.types.Wire.{Wire}
use Rattle.net_build.specs.Built.{Built}
use Rattle.net_build.specs.Columns.{no_wire}
use Rattle.net_build.specs.Values.{Later}
use Rattle.net_build.proofs.Steps.{bit_later}
use Rattle.net_queue.specs.declared.types.EdgeWires.{EdgeWires}
use Rattle.net_queue.specs.declared.types.LeafWires.{LeafWires}
use Rattle.net_queue.specs.declared.types.Put.{Put}
use Rattle.net_queue.specs.declared.types.Queue.{Queue}
use Rattle.net_queue.specs.Leaves.{IsPutInto, ins_at, outs_at}
use Rattle.net_parts.specs.declared.types.EndWires.{EndWires}
use Rattle.net_parts.specs.Wired.{giver_end, no_edge_wires, no_end, no_leaf_wires, no_put, taker_end, wires_of_edge, wires_of_edges, wires_of_leaf, wires_of_port}
use Rattle.net_leaves.specs.LeafWiring.{AreLeavesInWires}
use Rattle.net_joins.specs.declared.ends.Side.{Side}
use Rattle.net_joins.specs.declared.ends.Side.TheVariants.{Ins, Outs}
use Rattle.net_joins.specs.Closing.{ArePutInto}
use Rattle.net_joins.specs.Finding.{HaveEnds, IsEndFor, IsGiverEnd, IsTakerEnd, LeafHas, PortHas, edges_on, end_with}
use Rattle.net_leaves.proofs.Later.{put_later}

-- ---- the edges of a leaf

pub at_outs : (plan : Plan) (leaf : ℕ) (at : Leaf) → slice_get plan.leaves leaf ≡ Some at → outs_at plan leaf ≡ at.outs
at_outs plan leaf at is = ap (λ (o : Option Leaf). option_map_or (λ (at : Leaf). at.outs) o []) is

pub at_ins : (plan : Plan) (leaf : ℕ) (at : Leaf) → slice_get plan.leaves leaf ≡ Some at → ins_at plan leaf ≡ at.ins
at_ins plan leaf at is = ap (λ (o : Option Leaf). option_map_or (λ (at : Leaf). at.ins) o []) is

wires_long : (edges : List EdgeWires) (ns ms : List ℕ) → ns ≡ ms → length (wires_of_edges edges ns) ≡ length ms
wires_long edges ns ms e = length-map ns (wires_of_edge edges) ∙ ap length e

wires_there : (edges : List EdgeWires) (ns ms : List ℕ) (place edge : ℕ) → ns ≡ ms → slice_get ms place ≡ Some edge → get_or (wires_of_edges edges ns) place no_edge_wires ≡ wires_of_edge edges edge
wires_there edges ns ms place edge e is =
    ap (λ (ks : List ℕ). get_or (wires_of_edges edges ks) place no_edge_wires) e
    ∙ get_or-map (wires_of_edge edges) ms place 0 no_edge_wires (slice_get_within ms place edge is)
    ∙ ap (wires_of_edge edges) (get_or_from_slice_get ms place edge 0 is)

-- ---- the wires of leaves in wires are long enough

pub have_ends : (b : Built) (plan : Plan) (edges : List EdgeWires) (leaves : List LeafWires) → AreLeavesInWires b plan edges (length plan.leaves) leaves → HaveEnds plan leaves
have_ends b plan edges leaves h = record {
  long = h.long;
  outs = λ leaf at is.
      let s = (h.each leaf (slice_get_within plan.leaves leaf at is)).shaped in
      let e = wires_long edges (outs_at plan leaf) at.outs (at_outs plan leaf at is) in
      (s.put_a_long ∙ e, s.take_d_long ∙ e);
  ins = λ leaf at is.
      let s = (h.each leaf (slice_get_within plan.leaves leaf at is)).shaped in
      let e = wires_long edges (ins_at plan leaf) at.ins (at_ins plan leaf at is) in
      (s.put_d_long ∙ e, s.take_a_long ∙ e);
}

-- ---- what gives and takes fits the queues of its edge

pub giver_fits : (b : Built) (plan : Plan) (edges : List EdgeWires) (leaves : List LeafWires) (sources : List EndWires) (edge : ℕ) (giver : Giver) → AreLeavesInWires b plan edges (length plan.leaves) leaves
    → ArePutInto b (λ (e : EdgeWires). e.a) edges plan.sources sources → GivesTo plan edge giver → IsEndFor b (wires_of_edge edges edge).a (giver_end leaves sources giver)
giver_fits b plan edges leaves sources edge (Out leaf place) h p (at, is, on) =
    let s = (h.each leaf (slice_get_within plan.leaves leaf at is)).shaped in
    let e = at_outs plan leaf at is in
    let l : place < length (wires_of_edges edges (outs_at plan leaf)) = omega (arith, wires_long edges (outs_at plan leaf) at.outs e, slice_get_within at.outs place edge on) in
    record {
      put = subst (λ (wires : EdgeWires). IsPutInto b wires.a (get_or (wires_of_leaf leaves leaf).put_a place no_put)) (wires_there edges (outs_at plan leaf) at.outs place edge e on) (s.put_a place no_edge_wires no_put l);
      take = s.take_d.each place no_wire (omega (arith, s.take_d_long, l));
    }
giver_fits b plan edges leaves sources edge (Source port) h p (at, is, on) = record {
  put = subst (λ (n : ℕ). IsPutInto b (wires_of_edge edges n).a (wires_of_port sources port).put) on (p.put port at is);
  take = p.take port at is;
}

pub taker_fits : (b : Built) (plan : Plan) (edges : List EdgeWires) (leaves : List LeafWires) (sinks : List EndWires) (edge : ℕ) (taker : Taker) → AreLeavesInWires b plan edges (length plan.leaves) leaves
    → ArePutInto b (λ (e : EdgeWires). e.d) edges plan.sinks sinks → TakesFrom plan edge taker → IsEndFor b (wires_of_edge edges edge).d (taker_end leaves sinks taker)
taker_fits b plan edges leaves sinks edge (In leaf place) h p (at, is, on) =
    let s = (h.each leaf (slice_get_within plan.leaves leaf at is)).shaped in
    let e = at_ins plan leaf at is in
    let l : place < length (wires_of_edges edges (ins_at plan leaf)) = omega (arith, wires_long edges (ins_at plan leaf) at.ins e, slice_get_within at.ins place edge on) in
    record {
      put = subst (λ (wires : EdgeWires). IsPutInto b wires.d (get_or (wires_of_leaf leaves leaf).put_d place no_put)) (wires_there edges (ins_at plan leaf) at.ins place edge e on) (s.put_d place no_edge_wires no_put l);
      take = s.take_a.each place no_wire (omega (arith, s.take_a_long, l));
    }
taker_fits b plan edges leaves sinks edge (Sink port) h p (at, is, on) = record {
  put = subst (λ (n : ℕ). IsPutInto b (wires_of_edge edges n).d (wires_of_port sinks port).put) on (p.put port at is);
  take = p.take port at is;
}

end_later : (old new : Built) (onto : Queue) (wires : EndWires) → Later old new → IsEndFor old onto wires → IsEndFor new onto wires
end_later old new onto wires g h = record { put = put_later old new onto wires.put g h.put; take = bit_later old new wires.take g h.take }

-- so the wires of whatever gives do, and still do later
pub giver_stays : (old new : Built) (plan : Plan) (edges : List EdgeWires) (leaves : List LeafWires) (sources : List EndWires) (edge : ℕ) (on : EdgeWires) (wires : EndWires) → IsSound plan → edge < length plan.edges
    → AreLeavesInWires old plan edges (length plan.leaves) leaves → ArePutInto old (λ (e : EdgeWires). e.a) edges plan.sources sources → on ≡ wires_of_edge edges edge → Later old new → IsGiverEnd plan edge leaves sources wires → IsEndFor new on.a wires
giver_stays old new plan edges leaves sources edge on wires sound l h p e g w =
    let one = ends_law.giver plan edge sound l in
    let fits = giver_fits old plan edges leaves sources edge one.0 h p one.1 in
    end_later old new on.a wires g
    (subst (λ (x : EdgeWires). IsEndFor old x.a wires) (sym e)
    (subst (IsEndFor old (wires_of_edge edges edge).a) (sym (w.is one.0 one.1)) fits))

pub taker_stays : (old new : Built) (plan : Plan) (edges : List EdgeWires) (leaves : List LeafWires) (sinks : List EndWires) (edge : ℕ) (on : EdgeWires) (wires : EndWires) → IsSound plan → edge < length plan.edges
    → AreLeavesInWires old plan edges (length plan.leaves) leaves → ArePutInto old (λ (e : EdgeWires). e.d) edges plan.sinks sinks → on ≡ wires_of_edge edges edge → Later old new → IsTakerEnd plan edge leaves sinks wires → IsEndFor new on.d wires
taker_stays old new plan edges leaves sinks edge on wires sound l h p e g w =
    let one = ends_law.taker plan edge sound l in
    let fits = taker_fits old plan edges leaves sinks edge one.0 h p one.1 in
    end_later old new on.d wires g
    (subst (λ (x : EdgeWires). IsEndFor old x.d wires) (sym e)
    (subst (IsEndFor old (wires_of_edge edges edge).d) (sym (w.is one.0 one.1)) fits))

-- ---- one giver and one taker

pub giver_is : (plan : Plan) (edge : ℕ) (leaves : List LeafWires) (sources : List EndWires) (giver : Giver) (wires : EndWires) → IsSound plan → edge < length plan.edges → GivesTo plan edge giver → wires ≡ giver_end leaves sources giver → IsGiverEnd plan edge leaves sources wires
giver_is plan edge leaves sources giver wires sound l gives e =
    let one = ends_law.giver plan edge sound l in
    record { is = λ other too. e ∙ ap (giver_end leaves sources) (one.2 giver gives ∙ sym (one.2 other too)) }

pub taker_is : (plan : Plan) (edge : ℕ) (leaves : List LeafWires) (sinks : List EndWires) (taker : Taker) (wires : EndWires) → IsSound plan → edge < length plan.edges → TakesFrom plan edge taker → wires ≡ taker_end leaves sinks taker → IsTakerEnd plan edge leaves sinks wires
taker_is plan edge leaves sinks taker wires sound l takes e =
    let one = ends_law.taker plan edge sound l in
    record { is = λ other too. e ∙ ap (taker_end leaves sinks) (one.2 taker takes ∙ sym (one.2 other too)) }

-- something gives to each edge
pub some_giver : (plan : Plan) (edge : ℕ) → IsSound plan → edge < length plan.edges → ((leaf place : ℕ) → LeafHas Outs plan.leaves edge leaf place → ⊥) → ((port : ℕ) → PortHas plan.sources edge port → ⊥) → ⊥
some_giver plan edge sound l no_leaf no_port = let one = ends_law.giver plan edge sound l in none one.0 one.1
  where
    none : (giver : Giver) → GivesTo plan edge giver → ⊥
    none (Out leaf place) h = no_leaf leaf place h
    none (Source port) h = no_port port h

pub some_taker : (plan : Plan) (edge : ℕ) → IsSound plan → edge < length plan.edges → ((leaf place : ℕ) → LeafHas Ins plan.leaves edge leaf place → ⊥) → ((port : ℕ) → PortHas plan.sinks edge port → ⊥) → ⊥
some_taker plan edge sound l no_leaf no_port = let one = ends_law.taker plan edge sound l in none one.0 one.1
  where
    none : (taker : Taker) → TakesFrom plan edge taker → ⊥
    none (In leaf place) h = no_leaf leaf place h
    none (Sink port) h = no_port port h

-- ---- a search

pub not_before : (P : ℕ → Type 0) (k : ℕ) → ((n : ℕ) → n < k → P n → ⊥) → (P k → ⊥) → (n : ℕ) → n < k + 1 → P n → ⊥
not_before P k h g n l p = elim (cases_lt n k) [
  | inl less ↦ h n less p
  | inr other ↦ g (subst P (let q : n ≡ k = omega arith in q) p)
]

-- a leaf at a place of a list
pub leaf_is : (leaves : List Leaf) (k : ℕ) (leaf : Leaf) → k < length leaves → leaf ≡ get_or leaves k leaf → slice_get leaves k ≡ Some leaf
leaf_is leaves k leaf l is = slice_get-get_or leaves k leaf l ∙ ap (λ (x : Leaf). Some x) (sym is)

pub leaf_none : (side : Side) (leaves : List Leaf) (edge k place : ℕ) (leaf : Leaf) → slice_get leaves k ≡ Some leaf → ((p : ℕ) → slice_get (edges_on side leaf) p ≡ Some edge → ⊥) → LeafHas side leaves edge k place → ⊥
leaf_none side leaves edge k place leaf is none (at, too, on) =
    none place (subst (λ (x : Leaf). slice_get (edges_on side x) place ≡ Some edge) (same_Some at leaf (sym too ∙ is)) on)

pub port_none : (ports : List PlanPort) (edge k : ℕ) (port : PlanPort) → slice_get ports k ≡ Some port → (port.edge ≡ edge → ⊥) → PortHas ports edge k → ⊥
port_none ports edge k port is none (at, too, on) = none (ap (λ (x : PlanPort). x.edge) (same_Some port at (sym is ∙ too)) ∙ on)

-- ---- the wires at what was found

pub outs_within : (plan : Plan) (leaves : List LeafWires) (edge leaf place : ℕ) → HaveEnds plan leaves → LeafHas Outs plan.leaves edge leaf place
    → (leaf < length leaves) × (place < length (wires_of_leaf leaves leaf).put_a) × (place < length (wires_of_leaf leaves leaf).take_d)
outs_within plan leaves edge leaf place h (at, is, on) =
    let l : leaf < length plan.leaves = slice_get_within plan.leaves leaf at is in
    let k : place < length at.outs = slice_get_within at.outs place edge on in
    let e = h.outs leaf at is in
    (omega (arith, h.long, l), omega (arith, e.0, k), omega (arith, e.1, k))

pub ins_within : (plan : Plan) (leaves : List LeafWires) (edge leaf place : ℕ) → HaveEnds plan leaves → LeafHas Ins plan.leaves edge leaf place
    → (leaf < length leaves) × (place < length (wires_of_leaf leaves leaf).put_d) × (place < length (wires_of_leaf leaves leaf).take_a)
ins_within plan leaves edge leaf place h (at, is, on) =
    let l : leaf < length plan.leaves = slice_get_within plan.leaves leaf at is in
    let k : place < length at.ins = slice_get_within at.ins place edge on in
    let e = h.ins leaf at is in
    (omega (arith, h.long, l), omega (arith, e.0, k), omega (arith, e.1, k))

pub port_within : (ports : List PlanPort) (ends : List EndWires) (edge port : ℕ) → length ends ≡ length ports → PortHas ports edge port → port < length ends
port_within ports ends edge port long (at, is, on) = let l : port < length ports = slice_get_within ports port at is in omega (arith, long, l)

same_end : (put other : Put) (take that : Wire) → put ≡ other → take ≡ that → end_with put take ≡ end_with other that
same_end put other take that e f = ap (λ (p : Put). end_with p take) e ∙ ap (end_with other) f

-- what stands at a place of two rows, whose copies these are
pub end_there : (puts rows : List Put) (takes those : List Wire) (place : ℕ) (wires : EndWires) → puts ≡ rows → takes ≡ those → wires ≡ end_with (get_or puts place no_put) (get_or takes place no_wire) → wires ≡ end_with (get_or rows place no_put) (get_or those place no_wire)
end_there puts rows takes those place wires e f same =
    same ∙ same_end (get_or puts place no_put) (get_or rows place no_put) (get_or takes place no_wire) (get_or those place no_wire)
    (ap (λ (ps : List Put). get_or ps place no_put) e) (ap (λ (ws : List Wire). get_or ws place no_wire) f)

-- the wires of a leaf by their number
pub leaf_wires_are : (leaves : List LeafWires) (leaf : ℕ) (own : LeafWires) → leaf < length leaves → own ≡ get_or leaves leaf own → own ≡ wires_of_leaf leaves leaf
leaf_wires_are leaves leaf own l is = is ∙ get_or_default leaves leaf own no_leaf_wires l

-- the wires of a port by its number
pub port_wires_are : (ends : List EndWires) (port : ℕ) (own wires : EndWires) → port < length ends → own ≡ get_or ends port own → wires ≡ end_with own.put own.take → wires ≡ wires_of_port ends port
port_wires_are ends port own wires l is same = same ∙ is ∙ get_or_default ends port own no_end l
