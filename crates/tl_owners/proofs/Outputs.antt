-- Each address that is owned before a leaf is owned behind it, on one output alone.
use Rattle.std.proofs.Common.{◌≡◌, ℕ, zero, suc, ◌+◌, ◌<◌, true, ◌&&◌, ◌==◌, List, [], ◌∷◌, ◌++◌, length, map, Option, Some, refl, sym, ap, ◌∙◌, subst, arith, inl, inr}
use Rattle.std.specs.Prelude.{slice_get, unwrap_or, get_or, All, AllPairs, Contains}
use Rattle.std.specs.List.{flat_map}
use Rattle.std.proofs.lemmas.Bool.{eqb-true}
use Rattle.std.proofs.lemmas.Option.{slice_get_within, slice_get_read}
use Rattle.std.proofs.lemmas.List.Elements.{All-nil, All-cons, All-head, All-contains, Contains-get_or, Contains-append_left}
use Rattle.dip_sets.specs.Sets.{Disjoint, InSome}
use Rattle.dip_sets.specs.SizeRanges.{SizeRange}
use Rattle.tl_params.specs.declared.ports.Slave.{Slave}
use Rattle.tl_params.specs.OwnerLaw.{Owns}
use Rattle.tl_params.specs.Carried.{all_zip, is_same_set, is_same_slave, ops_fit, slave_fits, slaves_fit}
use Rattle.tl_edge.specs.declared.plan.Leaf.{Leaf}
use Rattle.tl_edge.specs.declared.plan.PlanEdge.{PlanEdge}
use Rattle.tl_edge.specs.declared.plan.PlanPort.{PlanPort}
use Rattle.tl_edge.specs.declared.plan.Plan.{Plan}
use Rattle.tl_edge.specs.Plans.{edge_at, outs_of, joined_slaves, no_edge, taken_edges, port_edges}
use Rattle.tl_params.specs.Owners.{sets_of}
use Rattle.tl_edge.specs.SoundPlans.{IsSoundEdge, IsItsSlave, Shows, pieces_of, IsSound}
use Rattle.tl_params.proofs.OneOwner.{one_owner}
use Rattle.dip_lists.proofs.Tests.{both}
use Rattle.tl_params.proofs.Carrying.{same_sets}
use Rattle.tl_params.proofs.Joining.{get_left, get_right, get_split}
use Rattle.tl_owners.specs.Outputs.{IsOwnedBehind, IsAtSink, OutputLaw}
use Rattle.tl_owners.proofs.SoundLeaves.{IsSoundLeaf}
use Rattle.tl_owners.proofs.Members.{contains_in, mapped, given_by}
use Rattle.tl_owners.proofs.Upward.{slaves_upward}

-- ---- joined lists by their parts

before : Plan → List ℕ → ℕ → ℕ
before plan [] output = 0
before plan (edge ∷ outs) zero = 0
before plan (edge ∷ outs) (suc output) = length (edge_at plan edge).slaves + before plan outs output

record IsPart (plan : Plan) (outs : List ℕ) (place : ℕ) (slave : Slave) : Type 0 where
  output : ℕ
  edge : ℕ
  out : slice_get outs output ≡ Some edge
  at : ℕ
  is : slice_get (edge_at plan edge).slaves at ≡ Some slave
  sum : place ≡ before plan outs output + at

part_of : (plan : Plan) (outs : List ℕ) (place : ℕ) (slave : Slave) → slice_get (joined_slaves (map (edge_at plan) outs)) place ≡ Some slave → IsPart plan outs place slave
unfolding before
part_of plan [] place slave e = absurd cc
part_of plan (edge ∷ outs) place slave e = elim (get_split (edge_at plan edge).slaves (joined_slaves (map (edge_at plan) outs)) place slave e) [
  | inl f ↦ record { output = 0; edge = edge; out = refl; at = place; is = f; sum = omega arith }
  | inr f ↦
      let r = part_of plan outs f.0 slave f.2 in
      let n = f.1 in
      let s = r.sum in
      record { output = suc r.output; edge = r.edge; out = r.out; at = r.at; is = r.is; sum = omega arith }
]

of_part : (plan : Plan) (outs : List ℕ) (output edge at : ℕ) (slave : Slave) → slice_get outs output ≡ Some edge → slice_get (edge_at plan edge).slaves at ≡ Some slave
    → slice_get (joined_slaves (map (edge_at plan) outs)) (before plan outs output + at) ≡ Some slave
unfolding before
of_part plan [] output edge at slave o e = absurd cc
of_part plan (first ∷ outs) zero edge at slave o e =
    let q : first ≡ edge = cc in
    let z : at ≡ 0 + at = omega arith in
    subst (λ m. slice_get ((edge_at plan first).slaves ++ joined_slaves (map (edge_at plan) outs)) m ≡ Some slave) z
    (get_left (edge_at plan first).slaves (joined_slaves (map (edge_at plan) outs)) at slave (subst (λ m. slice_get (edge_at plan m).slaves at ≡ Some slave) (sym q) e))
of_part plan (first ∷ outs) (suc output) edge at slave o e =
    let z : length (edge_at plan first).slaves + before plan outs output + at ≡ length (edge_at plan first).slaves + (before plan outs output + at) = omega arith in
    get_right (edge_at plan first).slaves (joined_slaves (map (edge_at plan) outs)) (length (edge_at plan first).slaves + before plan outs output + at) (before plan outs output + at) slave z
    (of_part plan outs output edge at slave o e)

-- two parts at one place are the same
same_part : (plan : Plan) (outs : List ℕ) (o p e f a b : ℕ) → slice_get outs o ≡ Some e → slice_get outs p ≡ Some f → a < length (edge_at plan e).slaves → b < length (edge_at plan f).slaves
    → before plan outs o + a ≡ before plan outs p + b → (o ≡ p) × (a ≡ b)
unfolding before
same_part plan [] o p e f a b x y l m s = absurd cc
same_part plan (first ∷ outs) zero zero e f a b x y l m s = (refl, omega (arith, s))
same_part plan (first ∷ outs) zero (suc p) e f a b x y l m s =
    let q : first ≡ e = cc in
    let w : a < length (edge_at plan first).slaves = subst (λ n. a < length (edge_at plan n).slaves) (sym q) l in
    absurd (omega (arith, s, w))
same_part plan (first ∷ outs) (suc o) zero e f a b x y l m s =
    let q : first ≡ f = cc in
    let w : b < length (edge_at plan first).slaves = subst (λ n. b < length (edge_at plan n).slaves) (sym q) m in
    absurd (omega (arith, s, w))
same_part plan (first ∷ outs) (suc o) (suc p) e f a b x y l m s =
    let r = same_part plan outs o p e f a b x y l m (omega (arith, s)) in
    (ap (λ n. suc n) r.0, r.1)

-- ---- slaves that are shown

record IsShown (slave next : Slave) : Type 0 where
  node : next.node ≡ slave.node
  port : next.port ≡ slave.port
  sets : next.addresses ≡ slave.addresses

shown_slave : (pieces : Option SizeRange) (s t : Slave) → slave_fits pieces s t ≡ true → IsShown s t
shown_slave pieces s t h =
    let a = both (is_same_slave s t) (ops_fit pieces s.supports t.supports) h in
    let b = both (s.node == t.node && s.port == t.port) (all_zip is_same_set s.addresses t.addresses) a.0 in
    let c = both (s.node == t.node) (s.port == t.port) b.0 in
    record { node = sym (eqb-true s.node t.node c.0); port = sym (eqb-true s.port t.port c.1); sets = sym (same_sets s.addresses t.addresses b.1) }

shown_at : (pieces : Option SizeRange) (ss ts : List Slave) → slaves_fit pieces ss ts ≡ true → (place : ℕ) (s : Slave) → slice_get ss place ≡ Some s
    → (t : Slave) × (slice_get ts place ≡ Some t) × IsShown s t
shown_at pieces [] ts h place s e = absurd cc
shown_at pieces (x ∷ ss) [] h place s e = absurd cc
shown_at pieces (x ∷ ss) (y ∷ ts) h zero s e =
    let q : x ≡ s = cc in
    let b = both (slave_fits pieces x y) (all_zip (slave_fits pieces) ss ts) h in
    (y, refl, subst (λ (z : Slave). IsShown z y) q (shown_slave pieces x y b.0))
shown_at pieces (x ∷ ss) (y ∷ ts) h (suc place) s e =
    shown_at pieces ss ts (both (slave_fits pieces x y) (all_zip (slave_fits pieces) ss ts) h).1 place s e

shown_sets : (pieces : Option SizeRange) (ss ts : List Slave) → slaves_fit pieces ss ts ≡ true → sets_of ss ≡ sets_of ts
shown_sets pieces [] [] h = refl
shown_sets pieces [] (t ∷ ts) h = absurd cc
shown_sets pieces (s ∷ ss) [] h = absurd cc
shown_sets pieces (s ∷ ss) (t ∷ ts) h =
    let b = both (slave_fits pieces s t) (all_zip (slave_fits pieces) ss ts) h in
    ap (λ xs. xs ++ sets_of ss) (sym (shown_slave pieces s t b.0).sets) ∙ ap (λ xs. t.addresses ++ xs) (shown_sets pieces ss ts b.1)

-- where sets are disjoint an address has one place
one_place : (slaves : List Slave) → AllPairs Disjoint (sets_of slaves) → (address place other : ℕ) → Owns slaves place address → Owns slaves other address → place ≡ other
one_place slaves apart address place other p q =
    one_owner (record { slaves = slaves; beat = 0 }) apart address place other p q

-- ---- a sound plan

at_edge : (plan : Plan) → IsSound plan → (edge : ℕ) → edge < length plan.edges → IsSoundEdge (edge_at plan edge)
at_edge plan sound edge l = found plan.edges edge sound.edges l
  where
    found : (es : List PlanEdge) (k : ℕ) → All IsSoundEdge es → k < length es → IsSoundEdge (unwrap_or (slice_get es k) no_edge)
    found [] k h l = absurd (omega arith)
    found (e ∷ es) zero h l = All-head IsSoundEdge e es h
    found (e ∷ es) (suc k) h l = found es k (λ i d m. h (suc i) d (omega arith)) (omega arith)

sound_leaves : (plan : Plan) → IsSound plan → All (IsSoundLeaf plan) plan.leaves
sound_leaves plan sound k d l = record { shape = sound.shaped k d l; carries = sound.carries k d l; ids = sound.ids k d l }

module _ (plan : Plan) (sound : IsSound plan) where
  goes_on : (leaf : Leaf) (edge place address : ℕ) (slave : Slave) → Contains plan.leaves leaf → Contains leaf.ins edge → edge < length plan.edges
      → slice_get (edge_at plan edge).slaves place ≡ Some slave → Owns (edge_at plan edge).slaves place address → IsOwnedBehind plan leaf.outs address slave
  goes_on leaf edge place address slave listed enters l is owns =
      let s = All-contains (IsSoundLeaf plan) plan.leaves leaf (sound_leaves plan sound) listed in
      let pieces : Option SizeRange = pieces_of leaf.template leaf.args in
      let joined : List Slave = joined_slaves (outs_of plan leaf) in
      let h : slaves_fit pieces (edge_at plan edge).slaves joined ≡ true = mapped (edge_at plan) (Shows pieces (outs_of plan leaf)) leaf.ins edge s.carries.slaves (contains_in leaf.ins edge enters) in
      let t = shown_at pieces (edge_at plan edge).slaves joined h place slave is in
      let r = part_of plan leaf.outs place t.0 t.1 in
      let apart : AllPairs Disjoint (sets_of joined) = subst (λ xs. AllPairs Disjoint xs) (shown_sets pieces (edge_at plan edge).slaves joined h) (at_edge plan sound edge l).apart in
      let same : owns.0 ≡ slave = let e : Some owns.0 ≡ Some slave = sym owns.1 ∙ is in cc in
      let mine : InSome slave.addresses address = subst (λ (x : Slave). InSome x.addresses address) same owns.2 in
      let its : InSome t.0.addresses address = subst (λ xs. InSome xs address) (sym t.2.sets) mine in
      record {
        output = r.output;
        edge = r.edge;
        out = r.out;
        place = r.at;
        next = t.0;
        is = r.is;
        owns = (t.0, r.is, its);
        node = t.2.node;
        port = t.2.port;
        sets = t.2.sets;
        only = λ other number at o w.
            let k = of_part plan leaf.outs other number at w.0 o w.1 in
            let one = one_place joined apart address (before plan leaf.outs other + at) place (w.0, k, w.2) (t.0, t.1, its) in
            same_part plan leaf.outs other r.output number r.edge at r.at o r.out (slice_get_within (edge_at plan number).slaves at w.0 w.1) (slice_get_within (edge_at plan r.edge).slaves r.at t.0 r.is) (one ∙ r.sum);
      }

  keeps : (pieces : Option SizeRange) (s t : Slave) → slave_fits pieces s t ≡ true → IsAtSink plan t → IsAtSink plan s
  keeps pieces s t h a =
      let b = shown_slave pieces s t h in
      record { sink = a.sink; listed = a.listed; node = sym b.node ∙ a.node; port = sym b.port ∙ a.port }

  at_sink : (port : PlanPort) → Contains plan.sinks port → All (IsAtSink plan) (edge_at plan port.edge).slaves
  at_sink port listed =
      let a = All-contains (λ (p : PlanPort). IsItsSlave (edge_at plan p.edge).slaves p) plan.sinks port sound.answered listed in
      subst (λ (ss : List Slave). All (IsAtSink plan) ss) (sym a.alone)
      (All-cons (IsAtSink plan) a.slave [] (record { sink = port; listed = listed; node = a.node; port = a.port }) (All-nil (IsAtSink plan)))

  sinks : (edge : ℕ) → edge < length plan.edges → All (IsAtSink plan) (edge_at plan edge).slaves
  sinks = slaves_upward plan sound.acyclic sound.given sound.taken_once (sound_leaves plan sound) (IsAtSink plan) keeps
      (λ k d l. at_sink (get_or plan.sinks k d) (Contains-get_or plan.sinks k d l))

given_by_member : (ls : List Leaf) (leaf : Leaf) (edge : ℕ) → Contains ls leaf → Contains leaf.ins edge → Contains (flat_map (λ (l : Leaf). l.ins) ls) edge
given_by_member ls leaf edge listed enters = given_by (λ (l : Leaf). l.ins) ls listed.0 leaf edge (slice_get_read ls (length ls) listed.0 leaf refl listed.1 (sym listed.2)) enters

edge_exists : (plan : Plan) → IsSound plan → (leaf : Leaf) (edge : ℕ) → Contains plan.leaves leaf → Contains leaf.ins edge → edge < length plan.edges
edge_exists plan sound leaf edge listed enters =
    All-contains (λ e. e < length plan.edges) (taken_edges plan) edge sound.taken
    (Contains-append_left (flat_map (λ (l : Leaf). l.ins) plan.leaves) (port_edges plan.sinks) edge (given_by_member plan.leaves leaf edge listed enters))

pub outputs : OutputLaw
outputs = record {
  goes_on = λ plan sound leaf edge place address slave listed enters is owns. goes_on plan sound leaf edge place address slave listed enters (edge_exists plan sound leaf edge listed enters) is owns;
  sinks = λ plan sound edge l. sinks plan sound edge l;
}
