use Rattle.std.proofs.Common.{◌≡◌, ◌<◌, ℕ, zero, suc, List, [], ◌∷◌, length, Option, Some, None, refl, sym, ap, ◌∙◌, subst, arith, slice_get}
use Rattle.std.proofs.lemmas.Option.{slice_get_within}
use Rattle.tl_params.specs.declared.ops.Template.TheVariants.{Xbar}
use Rattle.tl_edge.specs.declared.plan.Leaf.{Leaf}
use Rattle.tl_edge.specs.declared.plan.Plan.{Plan}
use Rattle.tl_edge.specs.Plans.{ins_of, outs_of}
use Rattle.tl_edge.specs.Plans.Giver.{Out}
use Rattle.tl_edge.specs.Plans.Taker.{In}
use Rattle.tl_edge.specs.SoundPlans.{IsSound}
use Rattle.tl_edge.proofs.Ways.{ends_law}
use Rattle.flow_core.specs.declared.locks.Gates.{Gates}
use Rattle.flow_core.specs.Crossing.{Crossbar}
use Rattle.flow_core.specs.Leaves.{LeafState, crossbar_at_start, leaf_at_start}
use Rattle.flow_core.specs.Leaves.LeafState.{BufferState, XbarState, ShrinkerState, WidthState, FragmenterState}
use Rattle.flow_core.specs.Network.{State}
use Rattle.flow_core.specs.Tags.{Held}
use Rattle.flow_choice.specs.Valid.{IsValid, AreOfOne}
use Rattle.flow_choice.proofs.Uses.{one_giver, one_taker}
use Rattle.net_queue.specs.Leaves.{IsOfTemplate}
use Rattle.net_xbar.specs.Crossings.{crossing}
use Rattle.net_cycle.specs.Parts.{IsMachineAt}
use Rattle.net_cycle.proofs.OwnMoves.{own_apart}
use Rattle.net_bar_cycle.proofs.Channels.{HasEdges}
use Rattle.net_bar_cycle.proofs.AtBar.{is_bar}
use Rattle.net_bar_cycle.proofs.laws.crossbar_at_law.Goals as goal

record IsBar (leaf : LeafState) : Type 0 where
  bar : Crossbar
  gates : Gates
  is : leaf ≡ XbarState bar gates

bar_of : (bar : Crossbar) (gates : Gates) (leaf : LeafState) → AreOfOne (XbarState bar gates) leaf → IsBar leaf
bar_of bar gates BufferState h = absurd h
bar_of bar gates (XbarState other others) h = record { bar = other; gates = others; is = refl }
bar_of bar gates (ShrinkerState width slots) h = absurd h
bar_of bar gates (WidthState widths widget) h = absurd h
bar_of bar gates (FragmenterState knife hand) h = absurd h

bar_starts : (plan : Plan) (at : Leaf) → at.template ≡ Xbar → leaf_at_start plan at ≡ crossbar_at_start (ins_of plan at) (outs_of plan at)
bar_starts plan at e = rw e refl

edges_of : (s : State) (l : ℕ) (leaf : Leaf) → IsSound s.plan → IsValid s.plan s → slice_get s.plan.leaves l ≡ Some leaf → HasEdges s leaf
edges_of s l leaf sound valid is = record {
  outs_there = λ output edge h. subst (λ n. edge < n) (sym valid.shape.a.each) (ends_law.given s.plan edge (Out l output) sound (leaf, is, h));
  ins_there = λ input edge h. subst (λ n. edge < n) (sym valid.shape.d.each) (ends_law.taken s.plan edge (In l input) sound (leaf, is, h));
  one_out = λ output other edge h k. let q : Out l output ≡ Out l other = one_giver s.plan edge (Out l output) (Out l other) sound (leaf, is, h) (leaf, is, k) in cc;
  one_in = λ input other edge h k. let q : In l input ≡ In l other = one_taker s.plan edge (In l input) (In l other) sound (leaf, is, h) (leaf, is, k) in cc;
}

at_plan : (s : State) (l : ℕ) (idle : LeafState) → IsSound s.plan → IsValid s.plan s → IsOfTemplate s.plan l Xbar → IsMachineAt s l (crossing s.plan.policy idle)
at_plan s l idle sound valid is =
    let within : l < length s.plan.leaves = slice_get_within s.plan.leaves l is.at is.is in
    at (slice_get s.leaves l) refl within (subst (λ n. l < n) (sym valid.shape.leaves) within)
  where
    none_within : (xs : List Held) (i : ℕ) → i < length xs → slice_get xs i ≡ None → ⊥
    none_within [] i b e = absurd (omega (arith, b))
    none_within (x ∷ xs) zero b e = cc
    none_within (x ∷ xs) (suc i) b e = none_within xs i (omega (arith, b)) e

    at : (o : Option Held) → slice_get s.leaves l ≡ o → l < length s.plan.leaves → l < length s.leaves → IsMachineAt s l (crossing s.plan.policy idle)
    at None e within b = absurd (none_within s.leaves l b e)
    at (Some held) e within b =
        let one = bar_of _ _ held.leaf (subst (λ leaf. AreOfOne leaf held.leaf) (bar_starts s.plan is.at is.kind) (valid.machines l is.at held is.is e)) in
        is_bar s l one.bar held.tag one.gates is.at
        (record { here = e ∙ ap (λ leaf. Some (record { leaf = leaf; tag = held.tag })) one.is; leaf_is = is.is })
        (edges_of s l is.at sound valid is.is) idle (own_apart s l sound valid within)

pub returns : goal.returns
returns c = λ plan s l idle sound valid is.
    let its : plan ≡ s.plan = sym valid.shape.plan in
    subst (λ p. IsMachineAt s l (crossing p.policy idle)) (sym its)
    (at_plan s l idle (subst IsSound its sound) (subst (λ p. IsValid p s) its valid) (subst (λ p. IsOfTemplate p l Xbar) its is))
