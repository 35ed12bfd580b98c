use Rattle.std.proofs.Common.{◌+◌, ◌∷◌, [], length, get_or, sym, ap, ◌∙◌}
use Rattle.std.proofs.lemmas.List.{length_push}
use Rattle.net_build.proofs.OpenedLists.{opens_opens, undriven_more, widths_more}
use Rattle.net_build.proofs.builder.Builder.registers.Goals as goal

pub loop-width-preserved : goal.loop-width-preserved
loop-width-preserved c =
    let i = c.loop-width.invariant in
    let w = c.in_ok-register.register in
    let o = c.in_ok-register.ensures.opens in
    let p = c.in_ok-push.ensures.ok in
    record {
      opens = opens_opens _ _ _ c.loop-width.registers (w ∷ []) _ i.opens o p;
      long = ap length p ∙ length_push c.loop-width.registers w ∙ ap (λ n. n + 1) i.long;
      wires = widths_more _ _ c.args.widths.now c.loop-width.registers _ w o.later i.wires c.in_ok-register.ensures.wire.0 (c.in_ok-register.ensures.wire.1 ∙ ap (λ n. get_or c.args.widths.now n 0) (sym i.long)) p;
      undriven = undriven_more _ _ c.loop-width.registers _ w _ o i.undriven c.in_ok-register.ensures.undriven p;
    }
