use Rattle.std.proofs.Common.{ℕ, ◌∙◌, List, ap, arith}
use Rattle.std.specs.Prelude.{slice_get}
use Rattle.std.proofs.lemmas.Option.{slice_get_within}
use Rattle.net_joins.specs.Finding.{LeafHas}
use Rattle.net_joins.proofs.Found.{leaf_is, leaf_none, not_before}
use Rattle.net_joins.proofs.ends.leaf_with.Goals as goal

pub loop-leaf-preserved : goal.loop-leaf-preserved
loop-leaf-preserved c =
    let leaves = c.args.leaves.now in
    let k = c.loop-leaf.leaf in
    let own = c.index-leaves-leaf.result in
    record {
      none = λ leaf place l h.
          not_before (λ n. LeafHas c.args.side leaves c.args.edge n place) k (λ n m p. c.loop-leaf.invariant.none n place m p)
          (leaf_none c.args.side leaves c.args.edge k place own (leaf_is leaves k own c.loop-leaf-test.true c.index-leaves-leaf.is)
          (λ p is. c.in_default.ensures p (ap (λ (ns : List ℕ). slice_get ns p) c.edges_of.ensures ∙ is)))
          leaf l h;
    }

pub returns : goal.returns
returns c = λ leaf place h. c.loop-leaf.invariant.none leaf place (omega (arith, slice_get_within c.args.leaves.now leaf h.0 h.1, c.loop-leaf-test.false)) h
