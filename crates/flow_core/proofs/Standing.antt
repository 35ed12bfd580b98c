-- What holds between moves holds after each.
use Rattle.std.proofs.Common.{ℕ, ◌≡◌, ◌+◌, ◌<◌, ◌≤◌, Bool, true, false, cond, List, length, Option, Some, None, All, refl, sym, ap, ◌∙◌, subst, arith}
use Rattle.std.specs.Prelude.{slice_get, ◌==◌, ◌&&◌}
use Rattle.std.specs.Option.{option_map, option_and_then}
use Rattle.std.proofs.lemmas.Bool.Decides.{nat_tests}
use Rattle.std.proofs.lemmas.Option.{same_Some, none-some}
use Rattle.dip_sets.specs.declared.ids.IdRange.{IdRange}
use Rattle.dip_sets.specs.Ids.{has_id}
use Rattle.tl_params.specs.declared.ops.Template.{Template}
use Rattle.tl_params.specs.declared.ops.Template.TheVariants.{Buffer, Width, Fragmenter, Shrinker, Xbar}
use Rattle.tl_edge.specs.declared.beat.ABeat.{ABeat}
use Rattle.tl_edge.specs.declared.beat.DBeat.{DBeat}
use Rattle.tl_edge.specs.declared.beat.Tag.{Tag}
use Rattle.tl_edge.specs.declared.plan.Leaf.{Leaf}
use Rattle.tl_edge.specs.declared.plan.PlanEdge.{PlanEdge}
use Rattle.tl_edge.specs.declared.plan.Plan.{Plan}
use Rattle.tl_edge.specs.Plans.{edge_at, ins_of, outs_of}
use Rattle.tl_edge.specs.Beats.{request_beats, response_beats}
use Rattle.flow_core.specs.declared.crossing.Fixed.{Fixed}
use Rattle.flow_core.specs.declared.crossing.Passing.{Passing}
use Rattle.flow_core.specs.Carried.{carries_a, carries_d}
use Rattle.flow_core.specs.Crossing.{Crossbar, Gate, Gates, goes_to, passed_at}
use Rattle.flow_core.specs.Network.{both}
use Rattle.flow_core.specs.Queues.{queue, head_in, taken, put_last}
use Rattle.flow_core.specs.Built.{IsBuilt, IsBuiltLeaf, AreAll, IsNetwork, IsSmallA, IsSmallD, bar_of, gate_down, bar_down, gate_up, leaf_down, leaf_up, head_passes, edge_passes, passing_down, passing_up, passed_on}
use Rattle.flow_core.proofs.Sizes.{all_at, mapped_at, built_leaf, moved_below, queued, taken_queued, put_queued}

-- ---- what is put from outside

small_a : (edge : PlanEdge) (beat : ABeat) → carries_a edge beat ≡ true → (beat.source < edge.ids) × (beat.size ≤ 8)
unfolding carries_a
small_a edge beat h = (grind (arith, nat_tests), grind (arith, nat_tests))

small_d : (edge : PlanEdge) (beat : DBeat) → carries_d edge beat ≡ true → beat.size ≤ 8
unfolding carries_d
small_d edge beat h = grind (arith, nat_tests)

-- ---- what passes a leaf

data Through {B : Type 0} (passes : B → Option (B × Option Gate)) (qs : List (List (B × Tag))) (from to : Option ℕ) (p : Passing (B × Tag)) : Type 0 where
  through : (x : B × Tag) (r : B × Option Gate) → from ≡ Some p.from → to ≡ Some p.to → head_in (queue qs p.from) ≡ Some x → passes x.0 ≡ Some r → p.beat ≡ (r.0, x.1)
      → Through passes qs from to p

through_one : {B : Type 0} (passes : B → Option (B × Option Gate)) (qs : List (List (B × Tag))) (f t : ℕ) (x : B × Tag) (q : Option (B × Option Gate)) (p : Passing (B × Tag))
    → head_in (queue qs f) ≡ Some x → passes x.0 ≡ q → option_map (λ passed. record { from = f; to = t; beat = (passed.0, x.1); gate = passed.1 }) q ≡ Some p
    → Through passes qs (Some f) (Some t) p
through_one passes qs f t x None p h e i = absurd (none-some _ i)
through_one passes qs f t x (Some r) p h e i =
    subst (λ p. Through passes qs (Some f) (Some t) p) (same_Some _ _ i) (through x r refl refl h e refl)

through_head : {B : Type 0} (passes : B → Option (B × Option Gate)) (qs : List (List (B × Tag))) (f t : ℕ) (o : Option (B × Tag)) (p : Passing (B × Tag))
    → head_in (queue qs f) ≡ o → option_and_then (head_passes passes f t) o ≡ Some p → Through passes qs (Some f) (Some t) p
through_head passes qs f t None p h i = absurd (none-some _ i)
through_head passes qs f t (Some x) p h i = through_one passes qs f t x (passes x.0) p h refl i

through_edges : {B : Type 0} (passes : B → Option (B × Option Gate)) (qs : List (List (B × Tag))) (from to : Option ℕ) (p : Passing (B × Tag))
    → edge_passes passes qs from to ≡ Some p → Through passes qs from to p
through_edges passes qs None to p i = absurd (none-some _ i)
through_edges passes qs (Some f) None p i = absurd (none-some _ i)
through_edges passes qs (Some f) (Some t) p i = through_head passes qs f t (head_in (queue qs f)) p refl i

-- the size of what a gate lets pass, and what it adds to the id
moved_gate : (beat made : ABeat) (start : ℕ) (o : Option Gate) (r : ABeat × Option Gate) → made.source ≡ beat.source + start → made.size ≡ beat.size
    → option_map (λ gate. (made, Some gate)) o ≡ Some r → (r.0.source ≡ beat.source + start) × (r.0.size ≡ beat.size)
moved_gate beat made start None r e s i = absurd (none-some _ i)
moved_gate beat made start (Some gate) r e s i =
    let same : made ≡ r.0 = ap (λ (r : ABeat × Option Gate). r.0) (same_Some _ _ i) in
    (ap (λ (b : ABeat). b.source) (sym same) ∙ e, ap (λ (b : ABeat). b.size) (sym same) ∙ s)

-- what a crossbar's id is moved by
pub record IsMoved (bar : Crossbar) (i : ℕ) (beat made : ABeat) : Type 0 where
  pub range : IdRange
  pub at : slice_get bar.ranges i ≡ Some range
  pub source : made.source ≡ beat.source + range.start
  pub size : made.size ≡ beat.size

moved_range : (bar : Crossbar) (gates : Gates) (i o : ℕ) (beat : ABeat) (q : Option IdRange) (r : ABeat × Option Gate) → slice_get bar.ranges i ≡ q
    → option_and_then (gate_down bar gates i o beat) q ≡ Some r → IsMoved bar i beat r.0
moved_range bar gates i o beat None r at e = absurd (none-some _ e)
moved_range bar gates i o beat (Some range) r at e =
    let m = moved_gate beat _ range.start (passed_at gates.outs o i (length bar.ranges) (request_beats beat.op beat.size bar.width)) r refl refl e in
    record { range = range; at = at; source = m.0; size = m.1 }

moved_if : (bar : Crossbar) (gates : Gates) (i o : ℕ) (beat : ABeat) (ok : Bool) (r : ABeat × Option Gate)
    → cond ok (option_and_then (gate_down bar gates i o beat) (slice_get bar.ranges i)) None ≡ Some r → IsMoved bar i beat r.0
moved_if bar gates i o beat true r e = moved_range bar gates i o beat (slice_get bar.ranges i) r refl e
moved_if bar gates i o beat false r e = absurd (none-some _ e)

moved_by_id : (bar : Crossbar) (gates : Gates) (i o : ℕ) (beat : ABeat) (ok : Bool) (r : ABeat × Option Gate)
    → cond ok (bar_down bar gates i o beat) None ≡ Some r → IsMoved bar i beat r.0
moved_by_id bar gates i o beat true r e = moved_if bar gates i o beat (goes_to bar o beat.address) r e
moved_by_id bar gates i o beat false r e = absurd (none-some _ e)

kept_if : {B : Type 0} (beat : B) (ok : Bool) (r : B × Option Gate) → cond ok (Some (beat, None)) None ≡ Some r → beat ≡ r.0
kept_if beat true r e = ap (λ (r : _ × Option Gate). r.0) (same_Some _ _ e)
kept_if beat false r e = absurd (none-some _ e)

-- a beat made of a small one is small below
made_small : (plan : Plan) → IsBuilt plan → (l : ℕ) (leaf : Leaf) → slice_get plan.leaves l ≡ Some leaf → (t : Template) → leaf.template ≡ t
    → (own : Gates) (id i o from to : ℕ) → slice_get leaf.ins i ≡ Some from → slice_get leaf.outs o ≡ Some to → (beat : ABeat) (r : ABeat × Option Gate)
    → leaf_down t (bar_of plan leaf) own id i o beat ≡ Some r → beat.source < (edge_at plan from).ids → beat.size ≤ 8
    → (r.0.source < (edge_at plan to).ids) × (r.0.size ≤ 8)
made_small plan built l leaf here Xbar x own id i o from to f t beat r e source size =
    let m = moved_by_id (bar_of plan leaf) own i o beat (id == 0) r e in
    (omega (arith, m.source, moved_below plan built l leaf here x i o from to beat.source m.range f t m.at source), omega (arith, m.size, size))
made_small plan built l leaf here Buffer b own id i o from to f t beat r e source size =
    let same = kept_if beat (id == 0 && i == 0 && o == 0) r e in
    let keeps : IsBuiltLeaf Buffer (ins_of plan leaf) (outs_of plan leaf) =
    subst (λ t. IsBuiltLeaf t (ins_of plan leaf) (outs_of plan leaf)) b (built_leaf plan built l leaf here) in
    let below : All (λ (above : PlanEdge). above.ids ≤ (edge_at plan to).ids) (ins_of plan leaf) =
    all_at (λ (below : PlanEdge). All (λ (above : PlanEdge). above.ids ≤ below.ids) (ins_of plan leaf)) (outs_of plan leaf) o (edge_at plan to)
    keeps.ids (mapped_at (edge_at plan) leaf.outs o to t) in
    let less : (edge_at plan from).ids ≤ (edge_at plan to).ids =
    all_at (λ (above : PlanEdge). above.ids ≤ (edge_at plan to).ids) (ins_of plan leaf) i (edge_at plan from) below
    (mapped_at (edge_at plan) leaf.ins i from f) in
    subst (λ (made : ABeat). (made.source < (edge_at plan to).ids) × (made.size ≤ 8)) same (omega (arith, source, less), size)
made_small plan built l leaf here Width b own id i o from to f t beat r e source size =
    absurd (subst (λ t. IsBuiltLeaf t (ins_of plan leaf) (outs_of plan leaf)) b (built_leaf plan built l leaf here))
made_small plan built l leaf here Fragmenter b own id i o from to f t beat r e source size =
    absurd (subst (λ t. IsBuiltLeaf t (ins_of plan leaf) (outs_of plan leaf)) b (built_leaf plan built l leaf here))
made_small plan built l leaf here Shrinker b own id i o from to f t beat r e source size =
    absurd (subst (λ t. IsBuiltLeaf t (ins_of plan leaf) (outs_of plan leaf)) b (built_leaf plan built l leaf here))

passed_small_a : (plan : Plan) → IsBuilt plan → (qs : List (List (ABeat × Tag))) → AreAll (IsSmallA plan) qs → (l : ℕ) (leaf : Leaf) → slice_get plan.leaves l ≡ Some leaf
    → (own : Gates) (id i o : ℕ) (p : Passing (ABeat × Tag))
    → Through (leaf_down leaf.template (bar_of plan leaf) own id i o) qs (slice_get leaf.ins i) (slice_get leaf.outs o) p → IsSmallA plan p.to p.beat
passed_small_a plan built qs all l leaf here own id i o p (through x r f t h e b) =
    let small = queued (IsSmallA plan) qs p.from x all h in
    subst (IsSmallA plan p.to) (sym b) (made_small plan built l leaf here leaf.template refl own id i o p.from p.to f t x.0 r e small.0 small.1)

small_down : (plan : Plan) → IsBuilt plan → (qs : List (List (ABeat × Tag))) → AreAll (IsSmallA plan) qs → (gates : List Gates) (l i o id : ℕ) (L : Option Leaf) (G : Option Gates)
    → slice_get plan.leaves l ≡ L → (p : Passing (ABeat × Tag))
    → both L G (λ at own. edge_passes (leaf_down at.template (bar_of plan at) own id i o) qs (slice_get at.ins i) (slice_get at.outs o)) ≡ Some p → IsSmallA plan p.to p.beat
small_down plan built qs all gates l i o id None G here p e = absurd (none-some _ e)
small_down plan built qs all gates l i o id (Some leaf) None here p e = absurd (none-some _ e)
small_down plan built qs all gates l i o id (Some leaf) (Some own) here p e =
    passed_small_a plan built qs all l leaf here own id i o p
    (through_edges (leaf_down leaf.template (bar_of plan leaf) own id i o) qs (slice_get leaf.ins i) (slice_get leaf.outs o) p e)

-- ---- responses

size_gate : (beat made : DBeat) (o : Option Gate) (r : DBeat × Option Gate) → made.size ≡ beat.size → option_map (λ gate. (made, Some gate)) o ≡ Some r → r.0.size ≡ beat.size
size_gate beat made None r s i = absurd (none-some _ i)
size_gate beat made (Some gate) r s i = ap (λ (r : DBeat × Option Gate). r.0.size) (sym (same_Some _ _ i)) ∙ s

size_if : (bar : Crossbar) (gates : Gates) (i o : ℕ) (beat : DBeat) (range : IdRange) (ok : Bool) (r : DBeat × Option Gate)
    → cond ok (gate_up bar gates i o beat range) None ≡ Some r → r.0.size ≡ beat.size
size_if bar gates i o beat range true r e =
    size_gate beat _ (passed_at gates.ins i o (length bar.slaves) (response_beats beat.op beat.size bar.width)) r refl e
size_if bar gates i o beat range false r e = absurd (none-some _ e)

size_range : (bar : Crossbar) (gates : Gates) (i o : ℕ) (beat : DBeat) (q : Option IdRange) (r : DBeat × Option Gate)
    → option_and_then (λ (range : IdRange). cond (has_id range beat.source) (gate_up bar gates i o beat range) None) q ≡ Some r → r.0.size ≡ beat.size
size_range bar gates i o beat None r e = absurd (none-some _ e)
size_range bar gates i o beat (Some range) r e = size_if bar gates i o beat range (has_id range beat.source) r e

same_size : (t : Template) (bar : Crossbar) (gates : Gates) (i o : ℕ) (beat : DBeat) (r : DBeat × Option Gate) → leaf_up t bar gates i o beat ≡ Some r → r.0.size ≡ beat.size
same_size Xbar bar gates i o beat r e = size_range bar gates i o beat (slice_get bar.ranges i) r e
same_size Buffer bar gates i o beat r e = ap (λ (b : DBeat). b.size) (sym (kept_if beat (0 == 0 && i == 0 && o == 0) r e))
same_size Width bar gates i o beat r e = ap (λ (b : DBeat). b.size) (sym (kept_if beat (0 == 0 && i == 0 && o == 0) r e))
same_size Fragmenter bar gates i o beat r e = ap (λ (b : DBeat). b.size) (sym (kept_if beat (0 == 0 && i == 0 && o == 0) r e))
same_size Shrinker bar gates i o beat r e = ap (λ (b : DBeat). b.size) (sym (kept_if beat (0 == 0 && i == 0 && o == 0) r e))

passed_small_d : (qs : List (List (DBeat × Tag))) → AreAll IsSmallD qs → (t : Template) (bar : Crossbar) (own : Gates) (i o : ℕ) (from to : Option ℕ) (p : Passing (DBeat × Tag))
    → Through (leaf_up t bar own i o) qs from to p → IsSmallD p.to p.beat
passed_small_d qs all t bar own i o from to p (through x r f g h e b) =
    subst (IsSmallD p.to) (sym b) (omega (arith, same_size t bar own i o x.0 r e, queued IsSmallD qs p.from x all h))

small_up : (plan : Plan) (qs : List (List (DBeat × Tag))) → AreAll IsSmallD qs → (i o : ℕ) (L : Option Leaf) (G : Option Gates) (p : Passing (DBeat × Tag))
    → both L G (λ at own. edge_passes (leaf_up at.template (bar_of plan at) own i o) qs (slice_get at.outs o) (slice_get at.ins i)) ≡ Some p → IsSmallD p.to p.beat
small_up plan qs all i o None G p e = absurd (none-some _ e)
small_up plan qs all i o (Some leaf) None p e = absurd (none-some _ e)
small_up plan qs all i o (Some leaf) (Some own) p e =
    passed_small_d qs all leaf.template (bar_of plan leaf) own i o (slice_get leaf.outs o) (slice_get leaf.ins i) p
    (through_edges (leaf_up leaf.template (bar_of plan leaf) own i o) qs (slice_get leaf.outs o) (slice_get leaf.ins i) p e)

-- ---- after each move

module _ (plan : Plan) (kept : List Fixed) (a : List (List (ABeat × Tag))) (d : List (List (DBeat × Tag))) (net : IsNetwork plan kept a d) where
  with_a : (a : List (List (ABeat × Tag))) → AreAll (IsSmallA plan) a → IsNetwork plan kept a d
  with_a a all = record { built = net.built; fixed = net.fixed; small_a = all; small_d = net.small_d }

  with_d : (d : List (List (DBeat × Tag))) → AreAll IsSmallD d → IsNetwork plan kept a d
  with_d d all = record { built = net.built; fixed = net.fixed; small_a = net.small_a; small_d = all }

  pub stands_taken_a : (edge : ℕ) → IsNetwork plan kept (taken (Some edge) a) d
  stands_taken_a edge = with_a (taken (Some edge) a) (taken_queued (IsSmallA plan) (Some edge) a net.small_a)

  pub stands_taken_d : (edge : ℕ) → IsNetwork plan kept a (taken (Some edge) d)
  stands_taken_d edge = with_d (taken (Some edge) d) (taken_queued IsSmallD (Some edge) d net.small_d)

  pub stands_put_a : (edge : ℕ) (beat : ABeat) (tag : Tag) → carries_a (edge_at plan edge) beat ≡ true → IsNetwork plan kept (put_last (Some (edge, (beat, tag))) a) d
  stands_put_a edge beat tag h = with_a _ (put_queued (IsSmallA plan) edge (beat, tag) a (small_a (edge_at plan edge) beat h) net.small_a)

  pub stands_put_d : (edge : ℕ) (beat : DBeat) (tag : Tag) → carries_d (edge_at plan edge) beat ≡ true → IsNetwork plan kept a (put_last (Some (edge, (beat, tag))) d)
  stands_put_d edge beat tag h = with_d _ (put_queued IsSmallD edge (beat, tag) d (small_d (edge_at plan edge) beat h) net.small_d)

  pub stands_passed_a : (gates : List Gates) (l i o id : ℕ) (p : Passing (ABeat × Tag)) → passing_down plan gates a l i o id ≡ Some p → IsNetwork plan kept (passed_on a p) d
  stands_passed_a gates l i o id p e =
      with_a _ (put_queued (IsSmallA plan) p.to p.beat (taken (Some p.from) a)
      (small_down plan net.built a net.small_a gates l i o id (slice_get plan.leaves l) (slice_get gates l) refl p e) (taken_queued (IsSmallA plan) (Some p.from) a net.small_a))

  pub stands_passed_d : (gates : List Gates) (l i o : ℕ) (p : Passing (DBeat × Tag)) → passing_up plan gates d l i o ≡ Some p → IsNetwork plan kept a (passed_on d p)
  stands_passed_d gates l i o p e =
      with_d _ (put_queued IsSmallD p.to p.beat (taken (Some p.from) d)
      (small_up plan d net.small_d i o (slice_get plan.leaves l) (slice_get gates l) p e) (taken_queued IsSmallD (Some p.from) d net.small_d))
