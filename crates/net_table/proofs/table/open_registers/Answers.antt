use Rattle.std.proofs.Common.{◌+◌, ◌∷◌, [], length, ap, ◌∙◌}
use Rattle.std.proofs.lemmas.List.{length_push}
use Rattle.net_build.proofs.OpenedLists.{opens_opens, undriven_more}
use Rattle.net_table.proofs.Indexed.{entries_more}
use Rattle.net_table.proofs.table.open_registers.Goals as goal

pub loop-place-preserved : goal.loop-place-preserved
loop-place-preserved c =
    let i = c.loop-place.invariant in
    let o = c.in_ok-register.ensures.opens in
    let p = c.in_ok-push.ensures.ok in
    let w = c.in_ok-register.register in
    record {
      opens = opens_opens _ _ _ c.loop-place.out (w ∷ []) _ i.opens o p;
      long = ap length p ∙ length_push c.loop-place.out w ∙ ap (λ n. n + 1) i.long;
      entries = entries_more _ _ c.args.width c.loop-place.out _ w o.later i.entries c.in_ok-register.ensures.wire.0 c.in_ok-register.ensures.wire.1 p;
      undriven = undriven_more _ _ c.loop-place.out _ w _ o i.undriven c.in_ok-register.ensures.undriven p;
    }
