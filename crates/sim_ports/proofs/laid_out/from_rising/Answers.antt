use Rattle.std.proofs.Common.{take, arith, refl, sym}
use Rattle.std.proofs.lemmas.List.{take_all}
use Rattle.sim_ports.proofs.Laid.{laid, laying_more, laying_same}
use Rattle.sim_ports.proofs.laid_out.from_rising.Goals as goal

pub loop-address-preserved-then-address-run : goal.loop-address-preserved-then-address-run
loop-address-preserved-then-address-run c = record {
  laying = laying_same c.args.role c.loop-address.address-index c.loop-address.runs c.loop-address.run c.loop-address.bytes
      c.args.addresses.now c.loop-address.address-index _ c.loop-address.invariant.laying c.loop-address-test.true refl
      (c.loop-address.invariant.behind c.loop-address.address-index (omega arith) c.loop-address-test.true) c.if-address-run.true;
  behind = λ k h l. c.loop-address.invariant.behind k (omega (arith, h)) l;
}

pub overflow_add-run : goal.overflow_add-run
overflow_add-run c =
    let now = c.in_ok-run.ensures.laid _ _ _ (sym c.len.ensures) c.loop-address.invariant.laying in
    omega (arith, now.ends, now.bound)

pub loop-address-preserved : goal.loop-address-preserved
loop-address-preserved c = record {
  laying = rw c.in_ok-push.ensures.ok
      (laying_more c.args.role c.loop-address.address-index c.run_for.new.runs c.in_ok-run.run' c.loop-address.bytes
      c.args.addresses.now c.loop-address.address-index _ c.first_byte.result
      (c.in_ok-run.ensures.laid _ _ _ (sym c.len.ensures) c.loop-address.invariant.laying)
      c.loop-address-test.true refl c.in_ok-run.ensures.next c.first_byte.ensures);
  behind = λ k h l.
      let rise = c.requires c.loop-address.address-index k 0 (omega (arith, h)) l in
      omega (arith, rise, c.in_ok-run.ensures.next);
}

pub returns : goal.returns
returns c =
    laid c.args.role c.loop-address.address-index c.loop-address.runs c.push-2.new.self c.loop-address.run c.loop-address.bytes
    (take c.loop-address.address-index c.args.addresses.now) c.args.addresses.now c.loop-address.invariant.laying
    (take_all c.loop-address.address-index c.args.addresses.now c.loop-address-test.false) c.in_ok-push-2.ensures.ok
