use Rattle.std.proofs.Common.{◌+◌, ◌∷◌, [], ◌++◌, ◌∙◌, ap, sym, arith}
use Rattle.std.proofs.lemmas.List.FromFn.{map-range_with_len_more}
use Rattle.port_tests.proofs.Trying.{all_rise}
use Rattle.port_tests.proofs.tried.in_a_row.Goals as goal

pub loop-more-preserved : goal.loop-more-preserved
loop-more-preserved c =
    c.in_ok-push.ensures.ok ∙ ap (λ xs. xs ++ (256 + c.loop-more.more) ∷ []) c.loop-more.invariant
    ∙ sym (map-range_with_len_more (λ k. 256 + k) 0 c.loop-more.more c.loop-more.more (omega arith))

pub returns : goal.returns
returns c = all_rise 256 c.loop-more.more c.loop-more.addresses c.loop-more.invariant
