-- A leaf's state after a cycle is that after its own moves alone.
use Rattle.std.proofs.Common.{◌≡◌, ◌≢◌, ◌<◌, ◌≤◌, ℕ, zero, suc, ◌+◌, List, [], ◌∷◌, ◌++◌, length, Option, Some, None, refl, sym, ap, ◌∙◌, subst, arith, inl, inr, append_assoc, slice_get}
use Rattle.std.specs.Prelude.{flat_map}
use Rattle.std.specs.List.{range_with_len}
use Rattle.std.proofs.lemmas.Bool.{cases_eq}
use Rattle.std.proofs.lemmas.Option.{same_Some}
use Rattle.flow_core.specs.declared.moves.Move.{Move}
use Rattle.flow_core.specs.declared.moves.Move.TheVariants.{Enter, Leave, Reply, Return, AbsorbA, AbsorbD, ForwardA, ForwardD}
use Rattle.flow_core.specs.Carried.{carries_a, carries_d}
use Rattle.flow_core.specs.Tags.{Held}
use Rattle.tl_edge.specs.Plans.{edge_at}
use Rattle.flow_core.specs.Network.{State, Job, job, state_after, with_leaf, RunsTo, put_job_a, put_job_d, edge_of_port}
use Rattle.flow_choice.specs.declared.offers.Offers.{Offers}
use Rattle.flow_choice.specs.Choosing.{of_each, source_moves, sink_moves, leaf_moves, chosen_moves, state_after_moves}
use Rattle.flow_choice.proofs.Commuting.{map_some, then_some, cond_some, get_set_other}
use Rattle.flow_choice.proofs.Listing.{Each, each_map, each-append, each_flat, source_who, sink_who, leaf_who}
use Rattle.flow_choice.proofs.Meeting.{after_is}
use Rattle.flow_choice.proofs.Ordering.{Reordered, same, skip, flip, then, AllApart, runs, to_reordered}
use Rattle.flow_choice.proofs.Uses.{AtSource, AtSink, AtLeaf, who}

-- ---- what a move changes of leaves

no_leaf : (x : ℕ × Held) → None ≡ Some x → ⊥
no_leaf x e = cc

-- it is the move's own leaf
whose : (s : State) (m : Move) (j : Job) (x : ℕ × Held) → job s m ≡ Some j → j.leaf ≡ Some x → who m ≡ AtLeaf x.0
whose s (Enter p beat tag) j x e k =
    let a = then_some (put_job_a s.plan beat tag) (edge_of_port s.plan.sources p) j e in
    let b = cond_some (carries_a (edge_at s.plan a.0) beat) _ j a.2 in
    absurd (no_leaf x (ap (λ (j : Job). j.leaf) (same_Some _ _ b.1) ∙ k))
whose s (Leave p) j x e k = let a = map_some _ (edge_of_port s.plan.sinks p) j e in absurd (no_leaf x (ap (λ (j : Job). j.leaf) a.2 ∙ k))
whose s (Reply p beat tag) j x e k =
    let a = then_some (put_job_d s.plan beat tag) (edge_of_port s.plan.sinks p) j e in
    let b = cond_some (carries_d (edge_at s.plan a.0) beat) _ j a.2 in
    absurd (no_leaf x (ap (λ (j : Job). j.leaf) (same_Some _ _ b.1) ∙ k))
whose s (Return p) j x e k = let a = map_some _ (edge_of_port s.plan.sources p) j e in absurd (no_leaf x (ap (λ (j : Job). j.leaf) a.2 ∙ k))
whose s (AbsorbA l) j x e k = let a = map_some _ _ j e in ap (λ (y : ℕ × Held). AtLeaf y.0) (same_Some _ _ (ap (λ (j : Job). j.leaf) a.2 ∙ k))
whose s (AbsorbD l) j x e k = let a = map_some _ _ j e in ap (λ (y : ℕ × Held). AtLeaf y.0) (same_Some _ _ (ap (λ (j : Job). j.leaf) a.2 ∙ k))
whose s (ForwardA l i o id) j x e k = let a = map_some _ _ j e in ap (λ (y : ℕ × Held). AtLeaf y.0) (same_Some _ _ (ap (λ (j : Job). j.leaf) a.2 ∙ k))
whose s (ForwardD l i o) j x e k = let a = map_some _ _ j e in ap (λ (y : ℕ × Held). AtLeaf y.0) (same_Some _ _ (ap (λ (j : Job). j.leaf) a.2 ∙ k))

kept_by : (s : State) (l : ℕ) (m : Move) → who m ≢ AtLeaf l → slice_get (state_after s m).leaves l ≡ slice_get s.leaves l
kept_by s l m d = at (job s m) refl
  where
    with_none : (j : Job) (o : Option (ℕ × Held)) → job s m ≡ Some j → j.leaf ≡ o → slice_get (with_leaf o s.leaves) l ≡ slice_get s.leaves l
    with_none j None e k = refl
    with_none j (Some x) e k = get_set_other s.leaves x.0 l x.1 (λ q. d (whose s m j x e k ∙ ap AtLeaf q))

    at : (o : Option Job) → job s m ≡ o → slice_get (state_after s m).leaves l ≡ slice_get s.leaves l
    at None e = rw e refl
    at (Some j) e = ap (λ (t : State). slice_get t.leaves l) (after_is s m j e) ∙ with_none j j.leaf e refl

kept_by_all : (s : State) (l : ℕ) (ms : List Move) → Each (λ m. who m ≢ AtLeaf l) ms → slice_get (state_after_moves s ms).leaves l ≡ slice_get s.leaves l
kept_by_all s l [] a = refl
kept_by_all s l (m ∷ ms) a = kept_by_all (state_after s m) l ms a.1 ∙ kept_by s l m a.0

-- ---- a part of a list, moved to its front

module _ {A : Type 0} where
  bring : (pre : List A) (x : A) (rest : List A) → Reordered (pre ++ x ∷ rest) (x ∷ pre ++ rest)
  bring [] x rest = same
  bring (p ∷ pre) x rest = then (skip (bring pre x rest)) flip

  front : (pre mid post : List A) → Reordered (pre ++ (mid ++ post)) (mid ++ (pre ++ post))
  front pre [] post = same
  front pre (x ∷ mid) post = then (bring pre x (mid ++ post)) (skip (front pre mid post))

-- ---- the moves of a leaf among all

record Split (P : Move → Type 0) (all mid : List Move) : Type 0 where
  pre : List Move
  post : List Move
  is : all ≡ pre ++ (mid ++ post)
  others_pre : Each P pre
  others_post : Each P post

after_it : (P : Move → Type 0) (f : ℕ → List Move) (k : ℕ) → ((j : ℕ) → j ≢ k → Each P (f j)) → (from count : ℕ) → k < from → Each P (flat_map f (range_with_len from count))
after_it P f k h from zero b = tt
after_it P f k h from (suc count) b = each-append P (f from) (flat_map f (range_with_len (from + 1) count)) (h from (λ e. omega (arith, b, e))) (after_it P f k h (from + 1) count (omega (arith, b)))

split : (P : Move → Type 0) (f : ℕ → List Move) (k : ℕ) → ((j : ℕ) → j ≢ k → Each P (f j)) → (from count : ℕ) → from ≤ k → k < from + count → Split P (flat_map f (range_with_len from count)) (f k)
split P f k h from zero b c = absurd (omega (arith, b, c))
split P f k h from (suc count) b c = elim (cases_eq from k) [ inl e ↦ here e | inr d ↦ later d (split P f k h (from + 1) count (omega (arith, b, d)) (omega (arith, c))) ]
  where
    here : from ≡ k → Split P (flat_map f (range_with_len from (suc count))) (f k)
    here e = record {
      pre = [];
      post = flat_map f (range_with_len (from + 1) count);
      is = ap (λ n. f n ++ flat_map f (range_with_len (from + 1) count)) e;
      others_pre = tt;
      others_post = after_it P f k h (from + 1) count (omega (arith, e));
    }

    later : from ≢ k → Split P (flat_map f (range_with_len (from + 1) count)) (f k) → Split P (flat_map f (range_with_len from (suc count))) (f k)
    later d r = record {
      pre = f from ++ r.pre;
      post = r.post;
      is = ap (λ xs. f from ++ xs) r.is ∙ sym (append_assoc (f from) r.pre (f k ++ r.post));
      others_pre = each-append P (f from) r.pre (h from d) r.others_pre;
      others_post = r.others_post;
    }

after-append : (s : State) (ms ns : List Move) → state_after_moves s (ms ++ ns) ≡ state_after_moves (state_after_moves s ms) ns
after-append s [] ns = refl
after-append s (m ∷ ms) ns = after-append (state_after s m) ms ns

ended : (s t : State) (ms : List Move) → RunsTo s ms t → t ≡ state_after_moves s ms
ended s t [] h = h
ended s t (m ∷ ms) h = ended (state_after s m) t ms h.1

pub at_leaf : (s : State) (offers : Offers) (l : ℕ) → l < length s.plan.leaves → AllApart s (chosen_moves s offers)
    → slice_get (state_after_moves s (chosen_moves s offers)).leaves l ≡ slice_get (state_after_moves s (leaf_moves s l)).leaves l
at_leaf s offers l b apart =
    let P : Move → Type 0 = λ m. who m ≢ AtLeaf l in
    let r = split P (leaf_moves s) l (λ j d. each_map (λ m. who m ≡ AtLeaf j) P (λ m e q. d (let z : AtLeaf j ≡ AtLeaf l = sym e ∙ q in cc)) (leaf_moves s j) (leaf_who s offers j)) 0 (length s.plan.leaves) (omega arith) (omega (arith, b)) in
    let ports = of_each (length s.plan.sources) (source_moves s offers) ++ of_each (length s.plan.sinks) (sink_moves s offers) in
    let none_source : Each P (of_each (length s.plan.sources) (source_moves s offers)) = each_flat P (source_moves s offers) (λ p. each_map (λ m. who m ≡ AtSource p) P (λ m e q. let z : AtSource p ≡ AtLeaf l = sym e ∙ q in cc) (source_moves s offers p) (source_who s offers p)) 0 (length s.plan.sources) in
    let none_sink : Each P (of_each (length s.plan.sinks) (sink_moves s offers)) = each_flat P (sink_moves s offers) (λ p. each_map (λ m. who m ≡ AtSink p) P (λ m e q. let z : AtSink p ≡ AtLeaf l = sym e ∙ q in cc) (sink_moves s offers p) (sink_who s offers p)) 0 (length s.plan.sinks) in
    let pre = ports ++ r.pre in
    let all : chosen_moves s offers ≡ pre ++ (leaf_moves s l ++ r.post) = ap (λ xs. ports ++ xs) r.is ∙ sym (append_assoc ports r.pre (leaf_moves s l ++ r.post)) in
    let none_pre : Each P pre = each-append P ports r.pre (each-append P (of_each (length s.plan.sources) (source_moves s offers)) (of_each (length s.plan.sinks) (sink_moves s offers)) none_source none_sink) r.others_pre in
    let go = to_reordered s (state_after_moves s (chosen_moves s offers)) (subst (λ xs. Reordered xs (leaf_moves s l ++ (pre ++ r.post))) (sym all) (front pre (leaf_moves s l) r.post)) apart (runs s (chosen_moves s offers) apart) in
    ap (λ (t : State). slice_get t.leaves l) (ended s (state_after_moves s (chosen_moves s offers)) (leaf_moves s l ++ (pre ++ r.post)) go ∙ after-append s (leaf_moves s l) (pre ++ r.post))
    ∙ kept_by_all (state_after_moves s (leaf_moves s l)) l (pre ++ r.post) (each-append P pre r.post none_pre r.others_post)
