use Rattle.std.proofs.Common.{sym, ap, ◌∙◌}
use Rattle.net_build.specs.declared.finish.Counts.{Counts}
use Rattle.net_build.specs.Numbering.{counted}
use Rattle.std.proofs.lemmas.List.{length_push}
use Rattle.std.proofs.Common.{length, ◌+◌}
use Rattle.net_build.proofs.Picked.{counts_more, net_here, nets_step}
use Rattle.net_build.proofs.finish.nets_of.Goals as goal

pub loop-wire-preserved : goal.loop-wire-preserved
loop-wire-preserved c =
    let ms = c.args.made.now in
    let k = c.loop-wire.wire-index in
    let i = c.loop-wire.invariant in
    record {
      long = ap length c.in_ok-push.ensures.items ∙ length_push c.loop-wire.nets.items c.net_among.result ∙ ap (λ n. n + 1) i.long;
      each = nets_step ms c.loop-wire.nets.items _ k c.net_among.result i.long c.in_ok-push.ensures.items
          (c.net_among.ensures ∙ net_here ms k c.wire-item.result c.count-all.result c.loop-wire.before c.loop-wire-test.true c.wire-item.is c.count-all.ensures i.before) i.each;
      before = c.counted-before.ensures ∙ ap (λ (x : Counts). counted x c.wire-item.result.item.kind) i.before ∙ sym (counts_more ms k c.wire-item.result c.loop-wire-test.true c.wire-item.is);
    }
