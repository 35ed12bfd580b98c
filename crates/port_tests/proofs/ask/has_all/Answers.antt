use Rattle.std.proofs.Common.{◌∙◌, ◌+◌, Contains, below_more, eqb-true, nat_eq, sym}
use Rattle.std.proofs.lemmas.Map.Views.{Contains-from_any}
use Rattle.port_tests.proofs.ask.has_all.Goals as goal

pub loop-more-preserved : goal.loop-more-preserved
loop-more-preserved c =
    let here : Contains c.args.addresses.now (c.args.first + c.loop-more.more) =
    Contains-from_any {eq = λ a b. nat_eq b a} (λ x y h. sym (eqb-true y x h)) (c.args.first + c.loop-more.more) c.args.addresses.now
    (sym c.contains.ensures.value ∙ c.if-not-contains.false) in
    below_more (λ k. Contains c.args.addresses.now (c.args.first + k)) c.loop-more.more c.loop-more.invariant here
