use Rattle.std.proofs.Common.{◌∙◌, ap, sym, arith}
use Rattle.std.specs.Prelude.{◌∷◌, ◌++◌, []}
use Rattle.sim_events.specs.declared.types.SinkOffer.{SinkOffer}
use Rattle.sim_run.specs.Offering.{server_offer}
use Rattle.sim_run.proofs.Fitting.{one_server_more}
use Rattle.sim_run.proofs.offering.fill_sinks.Goals as goal

pub loop-port-preserved : goal.loop-port-preserved
loop-port-preserved g c = record {
  offers = one_server_more (λ driver. driver.port) c.args.stalls.now c.args.cycle c.loop-port.port c.args.drivers.now c.index-drivers-port.result
      c.loop-port.offers.items c.push_reserved.new.self.items _ c.loop-port.invariant.offers c.loop-port-test.true c.index-drivers-port.is
      (c.push_reserved.ensures.items ∙ ap (λ (x : SinkOffer). c.loop-port.offers.items ++ x ∷ []) (c.server_offer.ensures ∙ ap (λ d. server_offer c.args.stalls.now c.args.cycle c.loop-port.port d.port) (sym c.index-drivers-port.is)));
  long = omega (arith, c.push_reserved.ensures.len, c.loop-port.invariant.long);
  room = c.push_reserved.ensures.capacity ∙ c.loop-port.invariant.room;
}
