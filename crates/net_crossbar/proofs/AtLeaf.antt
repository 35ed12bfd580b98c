-- A crossbar of a sound plan: its edges are sound, and there are some, but not many.
use Rattle.std.proofs.Common.{◌≡◌, ◌≢◌, ℕ, ◌<◌, ◌≤◌, List, [], length, get_or, Some, sym, ap, ◌∙◌, subst, arith}
use Rattle.std.specs.Prelude.{AllPairs, slice_get}
use Rattle.std.specs.Option.{option_map_or, unwrap_or}
use Rattle.std.proofs.lemmas.Bool.Decides.{Decides-eqb}
use Rattle.std.proofs.lemmas.Map.Made.{IsDistinct-from_AllPairs}
use Rattle.std.proofs.lemmas.Option.{slice_get-get_or, get_or_from_slice_get, slice_get_within}
use Rattle.tl_params.specs.declared.ops.Template.{Template}
use Rattle.tl_params.specs.declared.ops.Template.TheVariants.{Xbar}
use Rattle.tl_edge.specs.declared.plan.Leaf.{Leaf}
use Rattle.tl_edge.specs.declared.plan.Plan.{Plan}
use Rattle.tl_edge.specs.Plans.{TakesFrom, edge_at, no_edge}
use Rattle.tl_edge.specs.Plans.Taker.{In}
use Rattle.tl_edge.specs.SoundPlans.{HasShape, IsSound, IsSoundEdge}
use Rattle.tl_edge.proofs.Once.{few_distinct}
use Rattle.tl_edge.proofs.Ways.{ends_law}
use Rattle.net_queue.specs.Leaves.{IsOfTemplate, ins_at, outs_at}
use Rattle.net_crossbar.specs.Places.{AllAt}

-- no edge stands at two places of a leaf's inputs
apart : (xs : List ℕ) → ((p q e : ℕ) → slice_get xs p ≡ Some e → slice_get xs q ≡ Some e → p ≡ q) → AllPairs (λ x y. x ≢ y) xs
apart xs once i j d less within e =
    let at_i : slice_get xs i ≡ Some (get_or xs i d) = slice_get-get_or xs i d (omega arith) in
    let at_j : slice_get xs j ≡ Some (get_or xs j d) = slice_get-get_or xs j d within in
    let same : i ≡ j = once i j (get_or xs i d) at_i (at_j ∙ ap Some (sym e)) in
    omega arith

module _ (plan : Plan) (leaf : ℕ) (sound : IsSound plan) (at : Leaf) (is : slice_get plan.leaves leaf ≡ Some at) where
  edge_within : (p e : ℕ) → slice_get at.ins p ≡ Some e → e < length plan.edges
  edge_within p e x = ends_law.taken plan e (In leaf p) sound (at, is, x)

  pub few_inputs : length at.ins ≤ 1024
  few_inputs =
      let all : length at.ins ≤ length plan.edges = few_distinct at.ins (length plan.edges) (IsDistinct-from_AllPairs Decides-eqb at.ins (apart at.ins (λ p q e x y.
      let t : TakesFrom plan e (In leaf p) = (at, is, x) in
      let u : TakesFrom plan e (In leaf q) = (at, is, y) in
      let one = ends_law.taker plan e sound (ends_law.taken plan e (In leaf p) sound t) in
      let same : In leaf p ≡ In leaf q = one.2 (In leaf p) t ∙ sym (one.2 (In leaf q) u) in
      cc)))
      (λ p d within. edge_within p (get_or at.ins p d) (slice_get-get_or at.ins p d within)) in
      let some = sound.few_edges in
      omega arith

  pub sound_edges : AllAt (λ k edge. IsSoundEdge (edge_at plan edge)) at.ins
  sound_edges = record {
    at = λ k d l.
        let e = get_or at.ins k d in
        let w : e < length plan.edges = edge_within k e (slice_get-get_or at.ins k d l) in
        let i : edge_at plan e ≡ get_or plan.edges e no_edge = ap (λ o. unwrap_or o no_edge) (slice_get-get_or plan.edges e no_edge w) in
        subst IsSoundEdge (sym i) (sound.edges e no_edge w);
  }

  shaped : HasShape at.template at.ins at.outs
  shaped =
      let l = slice_get_within plan.leaves leaf at is in
      subst (λ (x : Leaf). HasShape x.template x.ins x.outs) (get_or_from_slice_get plan.leaves leaf at at is) (sound.shaped leaf at l)

  pub some_edges : at.template ≡ Xbar → (0 < length at.ins) × (0 < length at.outs)
  some_edges t =
      let h : HasShape Xbar at.ins at.outs = subst (λ (x : Template). HasShape x at.ins at.outs) t shaped in
      (omega (arith, h.0), omega (arith, h.1))

  pub ins_are : ins_at plan leaf ≡ at.ins
  ins_are = ap (λ o. option_map_or (λ (x : Leaf). x.ins) o []) is

  pub outs_are : outs_at plan leaf ≡ at.outs
  outs_are = ap (λ o. option_map_or (λ (x : Leaf). x.outs) o []) is

  -- what is read at its place
  pub read_is : (x : Leaf) → x ≡ get_or plan.leaves leaf x → x ≡ at
  read_is x e = e ∙ get_or_from_slice_get plan.leaves leaf at x is

-- the edges that are read there
pub ins_read : (plan : Plan) (leaf : ℕ) (template : Template) (leaves : List Leaf) (x : Leaf) (xs : List ℕ) → IsOfTemplate plan leaf template → leaves ≡ plan.leaves → x ≡ get_or leaves leaf x → xs ≡ x.ins → xs ≡ ins_at plan leaf
ins_read plan leaf template leaves x xs h e i f =
    f ∙ ap (λ (y : Leaf). y.ins) (i ∙ ap (λ (ls : List Leaf). get_or ls leaf x) e ∙ get_or_from_slice_get plan.leaves leaf h.at x h.is)
    ∙ sym (ap (λ o. option_map_or (λ (y : Leaf). y.ins) o []) h.is)

pub outs_read : (plan : Plan) (leaf : ℕ) (template : Template) (leaves : List Leaf) (x : Leaf) (xs : List ℕ) → IsOfTemplate plan leaf template → leaves ≡ plan.leaves → x ≡ get_or leaves leaf x → xs ≡ x.outs → xs ≡ outs_at plan leaf
outs_read plan leaf template leaves x xs h e i f =
    f ∙ ap (λ (y : Leaf). y.outs) (i ∙ ap (λ (ls : List Leaf). get_or ls leaf x) e ∙ get_or_from_slice_get plan.leaves leaf h.at x h.is)
    ∙ sym (ap (λ o. option_map_or (λ (y : Leaf). y.outs) o []) h.is)

pub few_at : (plan : Plan) (leaf : ℕ) (xs : List ℕ) → IsSound plan → (h : IsOfTemplate plan leaf Xbar) → xs ≡ ins_at plan leaf → length xs ≤ 1024
few_at plan leaf xs s h e = let q : xs ≡ h.at.ins = e ∙ ins_are plan leaf s h.at h.is in let f = few_inputs plan leaf s h.at h.is in omega (arith, ap length q, f)

pub some_at : (plan : Plan) (leaf : ℕ) (xs ys : List ℕ) → IsSound plan → (h : IsOfTemplate plan leaf Xbar) → xs ≡ ins_at plan leaf → ys ≡ outs_at plan leaf → (0 < length xs) × (0 < length ys)
some_at plan leaf xs ys s h e f =
    let q : xs ≡ h.at.ins = e ∙ ins_are plan leaf s h.at h.is in
    let r : ys ≡ h.at.outs = f ∙ outs_are plan leaf s h.at h.is in
    let g = some_edges plan leaf s h.at h.is h.kind in
    (omega (arith, ap length q, g.0), omega (arith, ap length r, g.1))

pub sound_at : (plan : Plan) (leaf : ℕ) (xs : List ℕ) → IsSound plan → (h : IsOfTemplate plan leaf Xbar) → xs ≡ ins_at plan leaf → AllAt (λ k edge. IsSoundEdge (edge_at plan edge)) xs
sound_at plan leaf xs s h e = subst (AllAt (λ k edge. IsSoundEdge (edge_at plan edge))) (sym (e ∙ ins_are plan leaf s h.at h.is)) (sound_edges plan leaf s h.at h.is)
