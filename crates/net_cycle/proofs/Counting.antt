-- What the chosen moves come to, where only those of one port or leaf count.
use Rattle.std.proofs.Common.{◌≡◌, ◌≢◌, ◌<◌, ◌≤◌, ℕ, zero, suc, ◌+◌, List, [], ◌++◌, length, sym, ap, ◌∙◌, arith, inl, inr}
use Rattle.std.specs.Prelude.{flat_map}
use Rattle.std.specs.List.{range_with_len}
use Rattle.std.proofs.lemmas.Bool.{cases_eq}
use Rattle.flow_core.specs.declared.moves.Move.{Move}
use Rattle.flow_core.specs.Network.{State}
use Rattle.flow_choice.specs.declared.offers.Offers.{Offers}
use Rattle.flow_choice.specs.Choosing.{of_each, source_moves, sink_moves, leaf_moves, chosen_moves}
use Rattle.flow_choice.proofs.Listing.{Each, each_map, source_who, sink_who, leaf_who}
use Rattle.flow_choice.proofs.Uses.{Who, AtSource, AtSink, AtLeaf, who}

-- something that is read from a list of moves, and put together where lists are joined
pub record Sums (X : Type 0) : Type 0 where
  pub join : X → X → X
  pub nothing : X
  pub left : (x : X) → join nothing x ≡ x
  pub right : (x : X) → join x nothing ≡ x
  pub of : List Move → X
  pub of_none : of [] ≡ nothing
  pub of_both : (xs ys : List Move) → of (xs ++ ys) ≡ join (of xs) (of ys)

module _ {X : Type 0} (S : Sums X) where
  -- nothing comes of numbers of which each comes to nothing
  none_of : (f : ℕ → List Move) → ((j : ℕ) → S.of (f j) ≡ S.nothing) → (from count : ℕ) → S.of (flat_map f (range_with_len from count)) ≡ S.nothing
  none_of f h from zero = S.of_none
  none_of f h from (suc count) =
      S.of_both (f from) (flat_map f (range_with_len (from + 1) count)) ∙ ap (λ x. S.join x (S.of (flat_map f (range_with_len (from + 1) count)))) (h from)
      ∙ S.left (S.of (flat_map f (range_with_len (from + 1) count))) ∙ none_of f h (from + 1) count

  none_later : (f : ℕ → List Move) (k : ℕ) → ((j : ℕ) → j ≢ k → S.of (f j) ≡ S.nothing) → (from count : ℕ) → k < from → S.of (flat_map f (range_with_len from count)) ≡ S.nothing
  none_later f k h from zero b = S.of_none
  none_later f k h from (suc count) b =
      S.of_both (f from) (flat_map f (range_with_len (from + 1) count)) ∙ ap (λ x. S.join x (S.of (flat_map f (range_with_len (from + 1) count)))) (h from (λ e. omega (arith, b, e)))
      ∙ S.left (S.of (flat_map f (range_with_len (from + 1) count))) ∙ none_later f k h (from + 1) count (omega (arith, b))

  -- and one alone counts where each other comes to nothing
  one_of : (f : ℕ → List Move) (k : ℕ) → ((j : ℕ) → j ≢ k → S.of (f j) ≡ S.nothing) → (from count : ℕ) → from ≤ k → k < from + count → S.of (flat_map f (range_with_len from count)) ≡ S.of (f k)
  one_of f k h from zero b c = absurd (omega (arith, b, c))
  one_of f k h from (suc count) b c =
      S.of_both (f from) (flat_map f (range_with_len (from + 1) count))
      ∙ elim (cases_eq from k) [ inl e ↦ here e | inr d ↦ later d (one_of f k h (from + 1) count (omega (arith, b, d)) (omega (arith, c))) ]
    where
      here : from ≡ k → S.join (S.of (f from)) (S.of (flat_map f (range_with_len (from + 1) count))) ≡ S.of (f k)
      here e = ap (S.join (S.of (f from))) (none_later f k h (from + 1) count (omega (arith, e))) ∙ S.right (S.of (f from)) ∙ ap (λ n. S.of (f n)) e

      later : from ≢ k → S.of (flat_map f (range_with_len (from + 1) count)) ≡ S.of (f k) → S.join (S.of (f from)) (S.of (flat_map f (range_with_len (from + 1) count))) ≡ S.of (f k)
      later d rest = ap (λ x. S.join x (S.of (flat_map f (range_with_len (from + 1) count)))) (h from d) ∙ S.left (S.of (flat_map f (range_with_len (from + 1) count))) ∙ rest

  module _ (s : State) (offers : Offers) where
    sources_sum : X
    sources_sum = S.of (of_each (length s.plan.sources) (source_moves s offers))

    sinks_sum : X
    sinks_sum = S.of (of_each (length s.plan.sinks) (sink_moves s offers))

    leaves_sum : X
    leaves_sum = S.of (of_each (length s.plan.leaves) (leaf_moves s))

    all_sum : S.of (chosen_moves s offers) ≡ S.join (S.join sources_sum sinks_sum) leaves_sum
    unfolding sources_sum sinks_sum leaves_sum
    all_sum = S.of_both (of_each (length s.plan.sources) (source_moves s offers) ++ of_each (length s.plan.sinks) (sink_moves s offers)) (of_each (length s.plan.leaves) (leaf_moves s))
        ∙ ap (λ x. S.join x (S.of (of_each (length s.plan.leaves) (leaf_moves s)))) (S.of_both (of_each (length s.plan.sources) (source_moves s offers)) (of_each (length s.plan.sinks) (sink_moves s offers)))

    -- moves of others come to nothing
    abbrev pub OthersNothing : Who → Type 0
    OthersNothing w = (ms : List Move) → Each (λ m. who m ≢ w) ms → S.of ms ≡ S.nothing

    other_than : (w : Who) (ms : List Move) (v : Who) → v ≢ w → Each (λ m. who m ≡ v) ms → Each (λ m. who m ≢ w) ms
    other_than w ms v d h = each_map (λ m. who m ≡ v) (λ m. who m ≢ w) (λ m e f. d (sym e ∙ f)) ms h

    no_source : (w : Who) → OthersNothing w → (j : ℕ) → AtSource j ≢ w → S.of (source_moves s offers j) ≡ S.nothing
    no_source w n j d = n (source_moves s offers j) (other_than w (source_moves s offers j) (AtSource j) d (source_who s offers j))

    no_sink : (w : Who) → OthersNothing w → (j : ℕ) → AtSink j ≢ w → S.of (sink_moves s offers j) ≡ S.nothing
    no_sink w n j d = n (sink_moves s offers j) (other_than w (sink_moves s offers j) (AtSink j) d (sink_who s offers j))

    no_leaf : (w : Who) → OthersNothing w → (j : ℕ) → AtLeaf j ≢ w → S.of (leaf_moves s j) ≡ S.nothing
    no_leaf w n j d = n (leaf_moves s j) (other_than w (leaf_moves s j) (AtLeaf j) d (leaf_who s offers j))

    pub only_source : (p : ℕ) → p < length s.plan.sources → OthersNothing (AtSource p) → S.of (chosen_moves s offers) ≡ S.of (source_moves s offers p)
    unfolding sources_sum sinks_sum leaves_sum
    only_source p b n =
        all_sum ∙ ap (S.join (S.join sources_sum sinks_sum)) (none_of (leaf_moves s) (λ j. no_leaf (AtSource p) n j (λ e. cc)) 0 (length s.plan.leaves)) ∙ S.right (S.join sources_sum sinks_sum)
        ∙ ap (S.join sources_sum) (none_of (sink_moves s offers) (λ j. no_sink (AtSource p) n j (λ e. cc)) 0 (length s.plan.sinks)) ∙ S.right sources_sum
        ∙ one_of (source_moves s offers) p (λ j d. no_source (AtSource p) n j (λ e. d (let q : j ≡ p = cc in q))) 0 (length s.plan.sources) (omega arith) (omega (arith, b))

    pub only_sink : (p : ℕ) → p < length s.plan.sinks → OthersNothing (AtSink p) → S.of (chosen_moves s offers) ≡ S.of (sink_moves s offers p)
    unfolding sources_sum sinks_sum leaves_sum
    only_sink p b n =
        all_sum ∙ ap (S.join (S.join sources_sum sinks_sum)) (none_of (leaf_moves s) (λ j. no_leaf (AtSink p) n j (λ e. cc)) 0 (length s.plan.leaves)) ∙ S.right (S.join sources_sum sinks_sum)
        ∙ ap (λ x. S.join x sinks_sum) (none_of (source_moves s offers) (λ j. no_source (AtSink p) n j (λ e. cc)) 0 (length s.plan.sources)) ∙ S.left sinks_sum
        ∙ one_of (sink_moves s offers) p (λ j d. no_sink (AtSink p) n j (λ e. d (let q : j ≡ p = cc in q))) 0 (length s.plan.sinks) (omega arith) (omega (arith, b))

    pub only_leaf : (l : ℕ) → l < length s.plan.leaves → OthersNothing (AtLeaf l) → S.of (chosen_moves s offers) ≡ S.of (leaf_moves s l)
    unfolding sources_sum sinks_sum leaves_sum
    only_leaf l b n =
        all_sum ∙ ap (λ x. S.join (S.join x sinks_sum) leaves_sum) (none_of (source_moves s offers) (λ j. no_source (AtLeaf l) n j (λ e. cc)) 0 (length s.plan.sources))
        ∙ ap (λ x. S.join x leaves_sum) (S.left sinks_sum ∙ none_of (sink_moves s offers) (λ j. no_sink (AtLeaf l) n j (λ e. cc)) 0 (length s.plan.sinks)) ∙ S.left leaves_sum
        ∙ one_of (leaf_moves s) l (λ j d. no_leaf (AtLeaf l) n j (λ e. d (let q : j ≡ l = cc in q))) 0 (length s.plan.leaves) (omega arith) (omega (arith, b))
