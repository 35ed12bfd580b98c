-- What the moves of leaves are in a network of buffers and crossbars.
use Rattle.std.proofs.Common.{ℕ, zero, suc, ◌≡◌, ◌+◌, ◌-◌, Bool, true, false, ◌&&◌, cond, List, [], ◌∷◌, map, length, replicate, ◌⊎◌, inl, inr, All, Option, Some, None, is_some, IsTrue, refl, sym, ap, ◌∙◌, subst}
use Rattle.std.specs.Prelude.{slice_get, slice_set, ◌==◌}
use Rattle.std.specs.Option.{option_map, option_map_or, option_and_then}
use Rattle.std.proofs.lemmas.List.{length-map}
use Rattle.std.proofs.lemmas.List.Elements.{All-head, All-tail}
use Rattle.std.proofs.lemmas.Option.{same_Some, none-some}
use Rattle.dip_sets.specs.declared.ids.IdRange.{IdRange}
use Rattle.dip_sets.specs.Ids.{has_id}
use Rattle.tl_params.specs.declared.ops.Template.{Template}
use Rattle.tl_params.specs.declared.ops.Template.TheVariants.{Buffer, Width, Fragmenter, Shrinker, Xbar}
use Rattle.tl_edge.specs.declared.beat.ABeat.{ABeat}
use Rattle.tl_edge.specs.declared.beat.DBeat.{DBeat}
use Rattle.tl_edge.specs.declared.beat.Tag.{Tag}
use Rattle.tl_edge.specs.declared.plan.Leaf.{Leaf}
use Rattle.tl_edge.specs.declared.plan.PlanEdge.{PlanEdge}
use Rattle.tl_edge.specs.declared.plan.Plan.{Plan}
use Rattle.tl_edge.specs.Plans.{edge_at, ins_of, outs_of}
use Rattle.tl_edge.specs.Beats.{request_beats, response_beats}
use Rattle.flow_core.specs.declared.crossing.Passing.{Passing}
use Rattle.flow_core.specs.declared.moves.Move.TheVariants.{Enter, Reply, Leave, Return, AbsorbA, AbsorbD, ForwardA, ForwardD}
use Rattle.flow_core.specs.Acts.{Act, forwards, lifted, with_a_id, with_d_id}
use Rattle.flow_core.specs.Carried.{carries_a, carries_d}
use Rattle.flow_core.specs.Crossing.{Crossbar, Gate, Gates, goes_to, passed_at, with_out, with_in, cross_down, cross_up, crossed_down, crossed_up}
use Rattle.flow_core.specs.Leaves.{LeafState, idle_state}
use Rattle.flow_core.specs.Leaves.LeafState.{BufferState, XbarState}
use Rattle.flow_core.specs.Tags.{Held, no_tag, tagged, tagged_down, held_down, held_down_alone, held_up, held_up_alone}
use Rattle.flow_core.specs.Queues.{queue, head_in, takes, taken, has_room_at}
use Rattle.flow_core.specs.Network.{State, Part, Job, edge_of_port, port_job_a, port_job_d, put_job_a, put_job_d, by_head, part_between, both, part_down, part_up, part_a, part_d, forwarding, absorbing, leaf_job_a, leaf_job_d, may_do, is_enabled, done, state_after, network_at_start, held_at_start}
use Rattle.flow_core.specs.Built.{IsBuilt, IsBuiltLeaf, open_gates, network, bar_of, state_of, held_of, held_with, gate_down, bar_down, gate_up, bar_up, leaf_down, leaf_up, head_passes, edge_passes, passing_down, passing_up, after_out, after_in, passed_out, passed_in, passed_on}

-- ---- the crossbar's acts

-- what a function makes of what another made, by cases
then_map : {A B C : Type 0} (F : B → C) (f : A → Option C) (g : A → Option B) → ((x : A) → f x ≡ option_map F (g x)) → (o : Option A)
    → option_and_then f o ≡ option_map F (option_and_then g o)
then_map F f g h None = refl
then_map F f g h (Some x) = h x

cond_map : {B C : Type 0} (F : B → C) (b : Bool) (x : Option C) (y : Option B) → x ≡ option_map F y → cond b x None ≡ option_map F (cond b y None)
cond_map F true x y h = h
cond_map F false x y h = refl

-- an act that forwards what passes, through a gate of the output or the input
out_act : Gates → ℕ → ABeat × Option Gate → Act ABeat Gates
out_act gates output p = forwards p.0 (after_out gates output p.1)

in_act : Gates → ℕ → DBeat × Option Gate → Act DBeat Gates
in_act gates input p = forwards p.0 (after_in gates input p.1)

out_gate : (gates : Gates) (output : ℕ) (beat : ABeat) (o : Option Gate)
    → option_map (λ gate. forwards beat (with_out gates output gate)) o ≡ option_map (out_act gates output) (option_map (λ gate. (beat, Some gate)) o)
unfolding out_act
out_gate gates output beat None = refl
out_gate gates output beat (Some gate) = refl

in_gate : (gates : Gates) (input : ℕ) (beat : DBeat) (o : Option Gate)
    → option_map (λ gate. forwards beat (with_in gates input gate)) o ≡ option_map (in_act gates input) (option_map (λ gate. (beat, Some gate)) o)
unfolding in_act
in_gate gates input beat None = refl
in_gate gates input beat (Some gate) = refl

crosses_down : (bar : Crossbar) (gates : Gates) (i o : ℕ) (beat : ABeat) → cross_down bar gates i o beat ≡ option_map (out_act gates o) (bar_down bar gates i o beat)
crosses_down bar gates i o beat =
    cond_map (out_act gates o) (goes_to bar o beat.address) _ _
    (then_map (out_act gates o) (crossed_down bar gates i o beat) (gate_down bar gates i o beat)
    (λ range. out_gate gates o (with_a_id (beat.source + range.start) beat) (passed_at gates.outs o i (length bar.ranges) (request_beats beat.op beat.size bar.width)))
    (slice_get bar.ranges i))

crosses_up : (bar : Crossbar) (gates : Gates) (i o : ℕ) (beat : DBeat) → cross_up bar gates i o beat ≡ option_map (in_act gates i) (bar_up bar gates i o beat)
crosses_up bar gates i o beat =
    then_map (in_act gates i)
    (λ (range : IdRange). cond (has_id range beat.source) (crossed_up bar gates i o beat range) None)
    (λ (range : IdRange). cond (has_id range beat.source) (gate_up bar gates i o beat range) None)
    (λ range. cond_map (in_act gates i) (has_id range beat.source) _ _
    (in_gate gates i (with_d_id (beat.source - range.start) beat) (passed_at gates.ins i o (length bar.slaves) (response_beats beat.op beat.size bar.width))))
    (slice_get bar.ranges i)

-- ---- the acts of a leaf

-- what passes, with its tag, and the leaf with its gates afterwards
made : {B : Type 0} → (Option Gate → Held) → Tag → B × Option Gate → Act (B × Tag) Held
made next tag p = record { take = true; put = Some (p.0, tag); next = next p.1 }

next_of : Template → Crossbar → (Option Gate → Gates) → Option Gate → Held
next_of t bar after gate = record { leaf = state_of t bar (after gate); tag = no_tag }

buffer_down : (gates : Option Gate → Gates) (ok : Bool) (beat : ABeat) (tag : Tag)
    → option_map (tagged_down tag no_tag) (cond ok (Some (forwards beat BufferState)) None)
    ≡ option_map (made (λ gate. record { leaf = BufferState; tag = no_tag }) tag) (cond ok (Some (beat, None)) None)
unfolding made
buffer_down gates true beat tag = refl
buffer_down gates false beat tag = refl

buffer_up : (ok : Bool) (beat : DBeat) (tag : Tag)
    → option_map (tagged tag no_tag) (cond ok (Some (forwards beat BufferState)) None)
    ≡ option_map (made (λ gate. record { leaf = BufferState; tag = no_tag }) tag) (cond ok (Some (beat, None)) None)
unfolding made
buffer_up true beat tag = refl
buffer_up false beat tag = refl

xbar_down : (bar : Crossbar) (gates : Gates) (o : ℕ) (ok : Bool) (tag : Tag) (q : Option (ABeat × Option Gate))
    → option_map (tagged_down tag no_tag) (cond ok (option_map (lifted (XbarState bar)) (option_map (out_act gates o) q)) None)
    ≡ option_map (made (next_of Xbar bar (after_out gates o)) tag) (cond ok q None)
unfolding made next_of out_act
xbar_down bar gates o true tag None = refl
xbar_down bar gates o true tag (Some p) = refl
xbar_down bar gates o false tag q = refl

xbar_up : (bar : Crossbar) (gates : Gates) (i : ℕ) (tag : Tag) (q : Option (DBeat × Option Gate))
    → option_map (tagged tag no_tag) (option_map (lifted (XbarState bar)) (option_map (in_act gates i) q))
    ≡ option_map (made (next_of Xbar bar (after_in gates i)) tag) q
unfolding made next_of in_act
xbar_up bar gates i tag None = refl
xbar_up bar gates i tag (Some p) = refl

held_at : Template → Crossbar → Gates → Held
held_at t bar gates = record { leaf = state_of t bar gates; tag = no_tag }

acts_down : (t : Template) (bar : Crossbar) (gates : Gates) (id i o : ℕ) (x : ABeat × Tag)
    → held_down (held_at t bar gates) id i o x ≡ option_map (made (next_of t bar (after_out gates o)) x.1) (leaf_down t bar gates id i o x.0)
unfolding held_at next_of
acts_down Buffer bar gates id i o x = buffer_down (after_out gates o) (id == 0 && i == 0 && o == 0) x.0 x.1
acts_down Width bar gates id i o x = buffer_down (after_out gates o) (id == 0 && i == 0 && o == 0) x.0 x.1
acts_down Fragmenter bar gates id i o x = buffer_down (after_out gates o) (id == 0 && i == 0 && o == 0) x.0 x.1
acts_down Shrinker bar gates id i o x = buffer_down (after_out gates o) (id == 0 && i == 0 && o == 0) x.0 x.1
acts_down Xbar bar gates id i o x =
    ap (λ q. option_map (tagged_down x.1 no_tag) (cond (id == 0) (option_map (lifted (XbarState bar)) q) None)) (crosses_down bar gates i o x.0)
    ∙ xbar_down bar gates o (id == 0) x.1 (bar_down bar gates i o x.0)

acts_up : (t : Template) (bar : Crossbar) (gates : Gates) (i o : ℕ) (x : DBeat × Tag)
    → held_up (held_at t bar gates) i o x ≡ option_map (made (next_of t bar (after_in gates i)) x.1) (leaf_up t bar gates i o x.0)
unfolding held_at next_of
acts_up Buffer bar gates i o x = buffer_up (0 == 0 && i == 0 && o == 0) x.0 x.1
acts_up Width bar gates i o x = buffer_up (0 == 0 && i == 0 && o == 0) x.0 x.1
acts_up Fragmenter bar gates i o x = buffer_up (0 == 0 && i == 0 && o == 0) x.0 x.1
acts_up Shrinker bar gates i o x = buffer_up (0 == 0 && i == 0 && o == 0) x.0 x.1
acts_up Xbar bar gates i o x =
    ap (λ q. option_map (tagged x.1 no_tag) (option_map (lifted (XbarState bar)) q)) (crosses_up bar gates i o x.0)
    ∙ xbar_up bar gates i x.1 (bar_up bar gates i o x.0)

none_down : (t : Template) (bar : Crossbar) (gates : Gates) (id i o : ℕ) → held_down_alone (held_at t bar gates) id i o ≡ None
unfolding held_at
none_down Buffer bar gates id i o = refl
none_down Width bar gates id i o = refl
none_down Fragmenter bar gates id i o = refl
none_down Shrinker bar gates id i o = refl
none_down Xbar bar gates id i o = refl

none_up : (t : Template) (bar : Crossbar) (gates : Gates) (i o : ℕ) → held_up_alone (held_at t bar gates) i o ≡ None
unfolding held_at
none_up Buffer bar gates i o = refl
none_up Width bar gates i o = refl
none_up Fragmenter bar gates i o = refl
none_up Shrinker bar gates i o = refl
none_up Xbar bar gates i o = refl

-- ---- a leaf's part in a move

-- the part that makes what passes
part_of : {B : Type 0} → (Option Gate → Held) → Passing B → Part B
part_of next p = record { flow = record { from = Some p.from; take = true; put = Some (p.to, p.beat) }; next = next p.gate }

part_one : {B : Type 0} (next : Option Gate → Held) (f t : ℕ) (tag : Tag) (q : Option (B × Option Gate))
    → option_map (by_head f t) (option_map (made next tag) q)
    ≡ option_map (part_of next) (option_map (λ p. record { from = f; to = t; beat = (p.0, tag); gate = p.1 }) q)
unfolding made part_of
part_one next f t tag None = refl
part_one next f t tag (Some p) = refl

part_head : {B : Type 0} (passes : B → Option (B × Option Gate)) (next : Option Gate → Held) (act : B × Tag → Option (Act (B × Tag) Held))
    → ((x : B × Tag) → act x ≡ option_map (made next x.1) (passes x.0)) → (f t : ℕ) (o : Option (B × Tag))
    → option_map (by_head f t) (option_and_then act o) ≡ option_map (part_of next) (option_and_then (head_passes passes f t) o)
part_head passes next act h f t None = refl
part_head passes next act h f t (Some x) = ap (option_map (by_head f t)) (h x) ∙ part_one next f t x.1 (passes x.0)

part_edges : {B : Type 0} (passes : B → Option (B × Option Gate)) (next : Option Gate → Held) (act : B × Tag → Option (Act (B × Tag) Held))
    → ((x : B × Tag) → act x ≡ option_map (made next x.1) (passes x.0)) → (alone : Option (Act (B × Tag) Held)) → alone ≡ None
    → (qs : List (List (B × Tag))) (from to : Option ℕ)
    → both from to (λ f t. part_between qs f t alone act) ≡ option_map (part_of next) (edge_passes passes qs from to)
part_edges passes next act h alone e qs None to = refl
part_edges passes next act h alone e qs (Some f) None = refl
part_edges passes next act h alone e qs (Some f) (Some t) =
    ap (λ alone. part_between qs f t alone act) e ∙ part_head passes next act h f t (head_in (queue qs f))

-- ---- the leaves with their gates

pub held_get : (plan : Plan) (leaves : List Leaf) (gates : List Gates) (l : ℕ)
    → slice_get (held_with plan leaves gates) l ≡ both (slice_get leaves l) (slice_get gates l) (λ leaf own. Some (held_of plan leaf own))
held_get plan [] gates l = refl
held_get plan (x ∷ xs) [] zero = refl
held_get plan (x ∷ xs) [] (suc l) = absent (slice_get xs l)
  where
    absent : (o : Option Leaf) → None ≡ both o None (λ leaf (own : Gates). Some (held_of plan leaf own))
    absent None = refl
    absent (Some leaf) = refl
held_get plan (x ∷ xs) (g ∷ gs) zero = refl
held_get plan (x ∷ xs) (g ∷ gs) (suc l) = held_get plan xs gs l

held_set : (plan : Plan) (leaves : List Leaf) (gates : List Gates) (l : ℕ) (leaf : Leaf) (own : Gates) → slice_get leaves l ≡ Some leaf
    → slice_set (held_with plan leaves gates) l (held_of plan leaf own) ≡ held_with plan leaves (slice_set gates l own)
held_set plan [] gates l leaf own e = refl
held_set plan (x ∷ xs) [] l leaf own e = refl
held_set plan (x ∷ xs) (g ∷ gs) zero leaf own e = ap (λ (leaf : Leaf). held_of plan leaf own ∷ held_with plan xs gs) (sym (same_Some _ _ e))
held_set plan (x ∷ xs) (g ∷ gs) (suc l) leaf own e = ap (λ held. held_of plan x g ∷ held) (held_set plan xs gs l leaf own e)

set_same : {A : Type 0} (xs : List A) (l : ℕ) (x : A) → slice_get xs l ≡ Some x → slice_set xs l x ≡ xs
set_same [] l x e = refl
set_same (y ∷ ys) zero x e = ap (λ y. y ∷ ys) (sym (same_Some _ _ e))
set_same (y ∷ ys) (suc l) x e = ap (λ ys. y ∷ ys) (set_same ys l x e)

out_set : (gates : List Gates) (l o : ℕ) (own : Gates) (gate : Option Gate) → slice_get gates l ≡ Some own
    → slice_set gates l (after_out own o gate) ≡ passed_out gates l o gate
out_set gates l o own None e = set_same gates l own e
out_set gates l o own (Some gate) e = ap (λ own. option_map_or (λ own. slice_set gates l (with_out own o gate)) own gates) (sym e)

in_set : (gates : List Gates) (l i : ℕ) (own : Gates) (gate : Option Gate) → slice_get gates l ≡ Some own
    → slice_set gates l (after_in own i gate) ≡ passed_in gates l i gate
in_set gates l i own None e = set_same gates l own e
in_set gates l i own (Some gate) e = ap (λ own. option_map_or (λ own. slice_set gates l (with_in own i gate)) own gates) (sym e)

-- ---- whatever passes a leaf, by its gates afterwards

-- what passes has a head where it comes from
has_one : {B : Type 0} (passes : B → Option (B × Option Gate)) (f t : ℕ) (x : B × Tag) (q : Option (B × Option Gate)) (p : Passing (B × Tag))
    → option_map (λ passed. record { from = f; to = t; beat = (passed.0, x.1); gate = passed.1 }) q ≡ Some p → p.from ≡ f
has_one passes f t x None p e = absurd (none-some _ e)
has_one passes f t x (Some y) p e = sym (ap (λ (p : Passing _). p.from) (same_Some _ _ e))

has_head_of : {B : Type 0} (passes : B → Option (B × Option Gate)) (qs : List (List (B × Tag))) (f t : ℕ) (o : Option (B × Tag)) (p : Passing (B × Tag))
    → head_in (queue qs f) ≡ o → option_and_then (head_passes passes f t) o ≡ Some p → is_some (head_in (queue qs p.from)) ≡ true
has_head_of passes qs f t None p h e = absurd (none-some _ e)
has_head_of passes qs f t (Some x) p h e =
    ap (λ from. is_some (head_in (queue qs from))) (has_one passes f t x (passes x.0) p e) ∙ ap is_some h

has_head_from : {B : Type 0} (passes : B → Option (B × Option Gate)) (qs : List (List (B × Tag))) (from to : Option ℕ) (p : Passing (B × Tag))
    → edge_passes passes qs from to ≡ Some p → is_some (head_in (queue qs p.from)) ≡ true
has_head_from passes qs None to p e = absurd (none-some _ e)
has_head_from passes qs (Some f) None p e = absurd (none-some _ e)
has_head_from passes qs (Some f) (Some t) p e = has_head_of passes qs f t (head_in (queue qs f)) p refl e

and_true : (b : Bool) → b && true ≡ b
and_true true = refl
and_true false = refl

and_head : (a b c : Bool) → a ≡ true → b ≡ c → a && b ≡ c
and_head true b c h e = e
and_head false b c h e = absurd cc

-- a leaf's part, where a leaf and its gates are there
in_leaf : {B : Type 0} → (Leaf → Gates → Option (Passing B)) → (Leaf → Gates → Option Gate → Held) → Leaf → Gates → Option (Part B)
in_leaf passes next leaf own = option_map (part_of (next leaf own)) (passes leaf own)

no_absorb_one : {B : Type 0} (next : Option Gate → Held) (o : Option (Passing B)) → option_and_then absorbing (option_map (part_of next) o) ≡ None
unfolding part_of
no_absorb_one next None = refl
no_absorb_one next (Some p) = refl

no_absorb : {B : Type 0} (passes : Leaf → Gates → Option (Passing B)) (next : Leaf → Gates → Option Gate → Held) (L : Option Leaf) (G : Option Gates)
    → option_and_then absorbing (both L G (in_leaf passes next)) ≡ None
unfolding in_leaf
no_absorb passes next None G = refl
no_absorb passes next (Some leaf) None = refl
no_absorb passes next (Some leaf) (Some own) = no_absorb_one (next leaf own) (passes leaf own)

-- ---- the moves of leaves on channel A

module _ (plan : Plan) (a : List (List (ABeat × Tag))) (d : List (List (DBeat × Tag))) (gates : List Gates) (l i o id : ℕ) where
  passes_a : Leaf → Gates → Option (Passing (ABeat × Tag))
  passes_a leaf own = edge_passes (leaf_down leaf.template (bar_of plan leaf) own id i o) a (slice_get leaf.ins i) (slice_get leaf.outs o)

  next_a : Leaf → Gates → Option Gate → Held
  next_a leaf own gate = held_of plan leaf (after_out own o gate)

  part_from_a : (L : Option Leaf) (G : Option Gates) (H : Option Held) → H ≡ both L G (λ leaf own. Some (held_of plan leaf own))
      → option_and_then (λ held. both (option_and_then (λ (at : Leaf). slice_get at.ins i) L) (option_and_then (λ (at : Leaf). slice_get at.outs o) L) (part_down a held i o id)) H
      ≡ both L G (in_leaf passes_a next_a)
  unfolding in_leaf passes_a next_a held_at next_of
  part_from_a None G H e = ap (option_and_then (λ held. both None None (part_down a held i o id))) e
  part_from_a (Some leaf) None H e = ap (option_and_then (λ held. both (slice_get leaf.ins i) (slice_get leaf.outs o) (part_down a held i o id))) e
  part_from_a (Some leaf) (Some own) H e =
      ap (option_and_then (λ held. both (slice_get leaf.ins i) (slice_get leaf.outs o) (part_down a held i o id))) e
      ∙ part_edges (leaf_down leaf.template (bar_of plan leaf) own id i o) (next_of leaf.template (bar_of plan leaf) (after_out own o))
      (held_down (held_at leaf.template (bar_of plan leaf) own) id i o) (acts_down leaf.template (bar_of plan leaf) own id i o)
      (held_down_alone (held_at leaf.template (bar_of plan leaf) own) id i o) (none_down leaf.template (bar_of plan leaf) own id i o)
      a (slice_get leaf.ins i) (slice_get leaf.outs o)

  part_net_a : part_a (network plan a d gates) l i o id ≡ both (slice_get plan.leaves l) (slice_get gates l) (in_leaf passes_a next_a)
  part_net_a = part_from_a (slice_get plan.leaves l) (slice_get gates l) _ (held_get plan plan.leaves gates l)

  may_one_a : (next : Option Gate → Held) (w : Option (Passing (ABeat × Tag))) → ((p : Passing (ABeat × Tag)) → w ≡ Some p → is_some (head_in (queue a p.from)) ≡ true)
      → option_map_or (may_do (network plan a d gates)) (option_map (leaf_job_a l) (option_and_then forwarding (option_map (part_of next) w))) false
      ≡ option_map_or (λ (p : Passing (ABeat × Tag)). has_room_at a p.to) w false
  unfolding part_of
  may_one_a next None h = refl
  may_one_a next (Some p) h = and_true (is_some (head_in (queue a p.from)) && has_room_at a p.to) ∙ and_head (is_some (head_in (queue a p.from))) (has_room_at a p.to) (has_room_at a p.to) (h p refl) refl

  may_a : (L : Option Leaf) (G : Option Gates)
      → option_map_or (may_do (network plan a d gates)) (option_map (leaf_job_a l) (option_and_then forwarding (both L G (in_leaf passes_a next_a)))) false
      ≡ option_map_or (λ (p : Passing (ABeat × Tag)). has_room_at a p.to) (both L G passes_a) false
  unfolding in_leaf passes_a
  may_a None G = refl
  may_a (Some leaf) None = refl
  may_a (Some leaf) (Some own) =
      may_one_a (next_a leaf own) (passes_a leaf own)
      (has_head_from (leaf_down leaf.template (bar_of plan leaf) own id i o) a (slice_get leaf.ins i) (slice_get leaf.outs o))

  enabled_a : is_enabled (network plan a d gates) (ForwardA l i o id) ≡ option_map_or (λ (p : Passing (ABeat × Tag)). has_room_at a p.to) (passing_down plan gates a l i o id) false
  unfolding passes_a
  enabled_a =
      ap (λ p. option_map_or (may_do (network plan a d gates)) (option_map (leaf_job_a l) (option_and_then forwarding p)) false) part_net_a
      ∙ may_a (slice_get plan.leaves l) (slice_get gates l)

  left_a : Passing (ABeat × Tag) → State
  left_a p = network plan (passed_on a p) d (passed_out gates l o p.gate)

  done_one_a : (leaf : Leaf) (own : Gates) → slice_get plan.leaves l ≡ Some leaf → slice_get gates l ≡ Some own → (w : Option (Passing (ABeat × Tag)))
      → option_map_or (done (network plan a d gates)) (option_map (leaf_job_a l) (option_and_then forwarding (option_map (part_of (next_a leaf own)) w))) (network plan a d gates)
      ≡ option_map_or left_a w (network plan a d gates)
  unfolding part_of next_a left_a
  done_one_a leaf own here there None = refl
  done_one_a leaf own here there (Some p) =
      ap (λ leaves. record { plan = plan; a = passed_on a p; d = d; leaves = leaves })
      (held_set plan plan.leaves gates l leaf (after_out own o p.gate) here ∙ ap (held_with plan plan.leaves) (out_set gates l o own p.gate there))

  done_a : (L : Option Leaf) (G : Option Gates) → slice_get plan.leaves l ≡ L → slice_get gates l ≡ G
      → option_map_or (done (network plan a d gates)) (option_map (leaf_job_a l) (option_and_then forwarding (both L G (in_leaf passes_a next_a)))) (network plan a d gates)
      ≡ option_map_or left_a (both L G passes_a) (network plan a d gates)
  unfolding in_leaf
  done_a None G here there = refl
  done_a (Some leaf) None here there = refl
  done_a (Some leaf) (Some own) here there = done_one_a leaf own here there (passes_a leaf own)

  after_a : state_after (network plan a d gates) (ForwardA l i o id) ≡ option_map_or left_a (passing_down plan gates a l i o id) (network plan a d gates)
  unfolding passes_a
  after_a =
      ap (λ p. option_map_or (done (network plan a d gates)) (option_map (leaf_job_a l) (option_and_then forwarding p)) (network plan a d gates)) part_net_a
      ∙ done_a (slice_get plan.leaves l) (slice_get gates l) refl refl

  pub none_enabled_a : passing_down plan gates a l i o id ≡ None → false ≡ is_enabled (network plan a d gates) (ForwardA l i o id)
  none_enabled_a e = sym (enabled_a ∙ ap (λ w. option_map_or (λ (p : Passing (ABeat × Tag)). has_room_at a p.to) w false) e)

  pub some_enabled_a : (p : Passing (ABeat × Tag)) → passing_down plan gates a l i o id ≡ Some p
      → has_room_at a p.to ≡ is_enabled (network plan a d gates) (ForwardA l i o id)
  some_enabled_a p e = sym (enabled_a ∙ ap (λ w. option_map_or (λ (p : Passing (ABeat × Tag)). has_room_at a p.to) w false) e)

  pub none_after_a : passing_down plan gates a l i o id ≡ None → network plan a d gates ≡ state_after (network plan a d gates) (ForwardA l i o id)
  none_after_a e = sym (after_a ∙ ap (λ w. option_map_or left_a w (network plan a d gates)) e)

  pub some_after_a : (p : Passing (ABeat × Tag)) → passing_down plan gates a l i o id ≡ Some p
      → network plan (passed_on a p) d (passed_out gates l o p.gate) ≡ state_after (network plan a d gates) (ForwardA l i o id)
  unfolding left_a
  some_after_a p e = sym (after_a ∙ ap (λ w. option_map_or left_a w (network plan a d gates)) e)

-- ---- the moves of leaves on channel D

module _ (plan : Plan) (a : List (List (ABeat × Tag))) (d : List (List (DBeat × Tag))) (gates : List Gates) (l i o : ℕ) where
  passes_d : Leaf → Gates → Option (Passing (DBeat × Tag))
  passes_d leaf own = edge_passes (leaf_up leaf.template (bar_of plan leaf) own i o) d (slice_get leaf.outs o) (slice_get leaf.ins i)

  next_d : Leaf → Gates → Option Gate → Held
  next_d leaf own gate = held_of plan leaf (after_in own i gate)

  part_from_d : (L : Option Leaf) (G : Option Gates) (H : Option Held) → H ≡ both L G (λ leaf own. Some (held_of plan leaf own))
      → option_and_then (λ held. both (option_and_then (λ (at : Leaf). slice_get at.outs o) L) (option_and_then (λ (at : Leaf). slice_get at.ins i) L) (part_up d held i o)) H
      ≡ both L G (in_leaf passes_d next_d)
  unfolding in_leaf passes_d next_d held_at next_of
  part_from_d None G H e = ap (option_and_then (λ held. both None None (part_up d held i o))) e
  part_from_d (Some leaf) None H e = ap (option_and_then (λ held. both (slice_get leaf.outs o) (slice_get leaf.ins i) (part_up d held i o))) e
  part_from_d (Some leaf) (Some own) H e =
      ap (option_and_then (λ held. both (slice_get leaf.outs o) (slice_get leaf.ins i) (part_up d held i o))) e
      ∙ part_edges (leaf_up leaf.template (bar_of plan leaf) own i o) (next_of leaf.template (bar_of plan leaf) (after_in own i))
      (held_up (held_at leaf.template (bar_of plan leaf) own) i o) (acts_up leaf.template (bar_of plan leaf) own i o)
      (held_up_alone (held_at leaf.template (bar_of plan leaf) own) i o) (none_up leaf.template (bar_of plan leaf) own i o)
      d (slice_get leaf.outs o) (slice_get leaf.ins i)

  part_net_d : part_d (network plan a d gates) l i o ≡ both (slice_get plan.leaves l) (slice_get gates l) (in_leaf passes_d next_d)
  part_net_d = part_from_d (slice_get plan.leaves l) (slice_get gates l) _ (held_get plan plan.leaves gates l)

  may_one_d : (next : Option Gate → Held) (w : Option (Passing (DBeat × Tag))) → ((p : Passing (DBeat × Tag)) → w ≡ Some p → is_some (head_in (queue d p.from)) ≡ true)
      → option_map_or (may_do (network plan a d gates)) (option_map (leaf_job_d l) (option_and_then forwarding (option_map (part_of next) w))) false
      ≡ option_map_or (λ (p : Passing (DBeat × Tag)). has_room_at d p.to) w false
  unfolding part_of
  may_one_d next None h = refl
  may_one_d next (Some p) h = and_head (is_some (head_in (queue d p.from))) (has_room_at d p.to) (has_room_at d p.to) (h p refl) refl

  may_d : (L : Option Leaf) (G : Option Gates)
      → option_map_or (may_do (network plan a d gates)) (option_map (leaf_job_d l) (option_and_then forwarding (both L G (in_leaf passes_d next_d)))) false
      ≡ option_map_or (λ (p : Passing (DBeat × Tag)). has_room_at d p.to) (both L G passes_d) false
  unfolding in_leaf passes_d
  may_d None G = refl
  may_d (Some leaf) None = refl
  may_d (Some leaf) (Some own) =
      may_one_d (next_d leaf own) (passes_d leaf own)
      (has_head_from (leaf_up leaf.template (bar_of plan leaf) own i o) d (slice_get leaf.outs o) (slice_get leaf.ins i))

  enabled_d : is_enabled (network plan a d gates) (ForwardD l i o) ≡ option_map_or (λ (p : Passing (DBeat × Tag)). has_room_at d p.to) (passing_up plan gates d l i o) false
  unfolding passes_d
  enabled_d =
      ap (λ p. option_map_or (may_do (network plan a d gates)) (option_map (leaf_job_d l) (option_and_then forwarding p)) false) part_net_d
      ∙ may_d (slice_get plan.leaves l) (slice_get gates l)

  left_d : Passing (DBeat × Tag) → State
  left_d p = network plan a (passed_on d p) (passed_in gates l i p.gate)

  done_one_d : (leaf : Leaf) (own : Gates) → slice_get plan.leaves l ≡ Some leaf → slice_get gates l ≡ Some own → (w : Option (Passing (DBeat × Tag)))
      → option_map_or (done (network plan a d gates)) (option_map (leaf_job_d l) (option_and_then forwarding (option_map (part_of (next_d leaf own)) w))) (network plan a d gates)
      ≡ option_map_or left_d w (network plan a d gates)
  unfolding part_of next_d left_d
  done_one_d leaf own here there None = refl
  done_one_d leaf own here there (Some p) =
      ap (λ leaves. record { plan = plan; a = a; d = passed_on d p; leaves = leaves })
      (held_set plan plan.leaves gates l leaf (after_in own i p.gate) here ∙ ap (held_with plan plan.leaves) (in_set gates l i own p.gate there))

  done_d : (L : Option Leaf) (G : Option Gates) → slice_get plan.leaves l ≡ L → slice_get gates l ≡ G
      → option_map_or (done (network plan a d gates)) (option_map (leaf_job_d l) (option_and_then forwarding (both L G (in_leaf passes_d next_d)))) (network plan a d gates)
      ≡ option_map_or left_d (both L G passes_d) (network plan a d gates)
  unfolding in_leaf
  done_d None G here there = refl
  done_d (Some leaf) None here there = refl
  done_d (Some leaf) (Some own) here there = done_one_d leaf own here there (passes_d leaf own)

  after_d : state_after (network plan a d gates) (ForwardD l i o) ≡ option_map_or left_d (passing_up plan gates d l i o) (network plan a d gates)
  unfolding passes_d
  after_d =
      ap (λ p. option_map_or (done (network plan a d gates)) (option_map (leaf_job_d l) (option_and_then forwarding p)) (network plan a d gates)) part_net_d
      ∙ done_d (slice_get plan.leaves l) (slice_get gates l) refl refl

  pub none_enabled_d : passing_up plan gates d l i o ≡ None → false ≡ is_enabled (network plan a d gates) (ForwardD l i o)
  none_enabled_d e = sym (enabled_d ∙ ap (λ w. option_map_or (λ (p : Passing (DBeat × Tag)). has_room_at d p.to) w false) e)

  pub some_enabled_d : (p : Passing (DBeat × Tag)) → passing_up plan gates d l i o ≡ Some p
      → has_room_at d p.to ≡ is_enabled (network plan a d gates) (ForwardD l i o)
  some_enabled_d p e = sym (enabled_d ∙ ap (λ w. option_map_or (λ (p : Passing (DBeat × Tag)). has_room_at d p.to) w false) e)

  pub none_after_d : passing_up plan gates d l i o ≡ None → network plan a d gates ≡ state_after (network plan a d gates) (ForwardD l i o)
  none_after_d e = sym (after_d ∙ ap (λ w. option_map_or left_d w (network plan a d gates)) e)

  pub some_after_d : (p : Passing (DBeat × Tag)) → passing_up plan gates d l i o ≡ Some p
      → network plan a (passed_on d p) (passed_in gates l i p.gate) ≡ state_after (network plan a d gates) (ForwardD l i o)
  unfolding left_d
  some_after_d p e = sym (after_d ∙ ap (λ w. option_map_or left_d w (network plan a d gates)) e)

-- what the code's steps leave
pub ruleset afterwards_a = (none_after_a, some_after_a, some_enabled_a)

pub ruleset afterwards_d = (none_after_d, some_after_d, some_enabled_d)

-- ---- the moves that no leaf makes here

module _ (plan : Plan) (a : List (List (ABeat × Tag))) (d : List (List (DBeat × Tag))) (gates : List Gates) (l : ℕ) where
  no_part_a : option_and_then absorbing (part_a (network plan a d gates) l 0 0 0) ≡ None
  no_part_a = ap (option_and_then absorbing) (part_net_a plan a d gates l 0 0 0)
      ∙ no_absorb (passes_a plan a d gates l 0 0 0) (next_a plan a d gates l 0 0 0) (slice_get plan.leaves l) (slice_get gates l)

  no_part_d : option_and_then absorbing (part_d (network plan a d gates) l 0 0) ≡ None
  no_part_d = ap (option_and_then absorbing) (part_net_d plan a d gates l 0 0)
      ∙ no_absorb (passes_d plan a d gates l 0 0) (next_d plan a d gates l 0 0) (slice_get plan.leaves l) (slice_get gates l)

  pub enabled_absorb_a : is_enabled (network plan a d gates) (AbsorbA l) ≡ false
  enabled_absorb_a = ap (λ p. option_map_or (may_do (network plan a d gates)) (option_map (leaf_job_a l) p) false) no_part_a

  pub enabled_absorb_d : is_enabled (network plan a d gates) (AbsorbD l) ≡ false
  enabled_absorb_d = ap (λ p. option_map_or (may_do (network plan a d gates)) (option_map (leaf_job_d l) p) false) no_part_d

  pub after_absorb_a : state_after (network plan a d gates) (AbsorbA l) ≡ network plan a d gates
  after_absorb_a = ap (λ p. option_map_or (done (network plan a d gates)) (option_map (leaf_job_a l) p) (network plan a d gates)) no_part_a

  pub after_absorb_d : state_after (network plan a d gates) (AbsorbD l) ≡ network plan a d gates
  after_absorb_d = ap (λ p. option_map_or (done (network plan a d gates)) (option_map (leaf_job_d l) p) (network plan a d gates)) no_part_d

-- ---- the moves of ports that take

pub after_leave : (plan : Plan) (a : List (List (ABeat × Tag))) (d : List (List (DBeat × Tag))) (gates : List Gates) (port edge : ℕ) → edge_of_port plan.sinks port ≡ Some edge
    → state_after (network plan a d gates) (Leave port) ≡ network plan (taken (Some edge) a) d gates
after_leave plan a d gates port edge e = ap (λ at. option_map_or (done (network plan a d gates)) (option_map (λ edge. port_job_a (takes edge)) at) (network plan a d gates)) e

pub after_return : (plan : Plan) (a : List (List (ABeat × Tag))) (d : List (List (DBeat × Tag))) (gates : List Gates) (port edge : ℕ) → edge_of_port plan.sources port ≡ Some edge
    → state_after (network plan a d gates) (Return port) ≡ network plan a (taken (Some edge) d) gates
after_return plan a d gates port edge e = ap (λ at. option_map_or (done (network plan a d gates)) (option_map (λ edge. port_job_d (takes edge)) at) (network plan a d gates)) e

-- ---- the moves of ports that put

carried_if : (may : Job → Bool) (ok : Bool) (job : Job) → IsTrue (option_map_or may (cond ok (Some job) None) false) → ok ≡ true
carried_if may true job h = refl
carried_if may false job h = absurd cc

pub enter_carries : (plan : Plan) (a : List (List (ABeat × Tag))) (d : List (List (DBeat × Tag))) (gates : List Gates) (port edge : ℕ) (beat : ABeat) (tag : Tag)
    → edge_of_port plan.sources port ≡ Some edge → IsTrue (is_enabled (network plan a d gates) (Enter port beat tag)) → carries_a (edge_at plan edge) beat ≡ true
enter_carries plan a d gates port edge beat tag e h =
    carried_if (may_do (network plan a d gates)) (carries_a (edge_at plan edge) beat) _
    (subst (λ at. IsTrue (option_map_or (may_do (network plan a d gates)) (option_and_then (put_job_a plan beat tag) at) false)) e h)

pub reply_carries : (plan : Plan) (a : List (List (ABeat × Tag))) (d : List (List (DBeat × Tag))) (gates : List Gates) (port edge : ℕ) (beat : DBeat) (tag : Tag)
    → edge_of_port plan.sinks port ≡ Some edge → IsTrue (is_enabled (network plan a d gates) (Reply port beat tag)) → carries_d (edge_at plan edge) beat ≡ true
reply_carries plan a d gates port edge beat tag e h =
    carried_if (may_do (network plan a d gates)) (carries_d (edge_at plan edge) beat) _
    (subst (λ at. IsTrue (option_map_or (may_do (network plan a d gates)) (option_and_then (put_job_d plan beat tag) at) false)) e h)

-- ---- the start

same_state : (t : Template) → (t ≡ Buffer) ⊎ (t ≡ Xbar) → (plan : Plan) (leaf : Leaf)
    → idle_state t leaf.args (ins_of plan leaf) (outs_of plan leaf) ≡ state_of t (bar_of plan leaf) (open_gates leaf)
same_state t (inl b) plan leaf = rw b refl
same_state t (inr x) plan leaf = rw (x, length-map leaf.ins (edge_at plan), length-map leaf.outs (edge_at plan)) refl

IsEither : Leaf → Type 0
IsEither leaf = (leaf.template ≡ Buffer) ⊎ (leaf.template ≡ Xbar)

either : (t : Template) (ins outs : List PlanEdge) → IsBuiltLeaf t ins outs → (t ≡ Buffer) ⊎ (t ≡ Xbar)
either Buffer ins outs h = inl refl
either Xbar ins outs h = inr refl
either _ ins outs h = absurd h

start_with : (plan : Plan) (leaves : List Leaf) → All (λ (leaf : Leaf). IsBuiltLeaf leaf.template (ins_of plan leaf) (outs_of plan leaf)) leaves
    → map (held_at_start plan) leaves ≡ held_with plan leaves (map open_gates leaves)
start_with plan [] h = refl
start_with plan (x ∷ xs) h =
    ap (λ (leaf : LeafState). record { leaf = leaf; tag = no_tag } ∷ map (held_at_start plan) xs)
    (same_state x.template (either x.template (ins_of plan x) (outs_of plan x) (All-head (λ (leaf : Leaf). IsBuiltLeaf leaf.template (ins_of plan leaf) (outs_of plan leaf)) x xs h)) plan x)
    ∙ ap (λ held. held_of plan x (open_gates x) ∷ held) (start_with plan xs (All-tail (λ (leaf : Leaf). IsBuiltLeaf leaf.template (ins_of plan leaf) (outs_of plan leaf)) x xs h))

pub started : (plan : Plan) → IsBuilt plan
    → network plan (replicate (length plan.edges) []) (replicate (length plan.edges) []) (map open_gates plan.leaves) ≡ network_at_start plan
started plan built =
    ap (λ leaves. record { plan = plan; a = replicate (length plan.edges) []; d = replicate (length plan.edges) []; leaves = leaves })
    (sym (start_with plan plan.leaves built.leaves))
