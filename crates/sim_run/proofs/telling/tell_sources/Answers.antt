use Rattle.std.proofs.Common.{◌≡◌, ◌++◌, ◌∙◌, ◌*◌, ◌<◌, ap, sym, subst, length, get_or, drop, arith, None, false}
use Rattle.std.proofs.lemmas.List.{length-set}
use Rattle.sim_events.specs.declared.types.SourceOffer.{SourceOffer}
use Rattle.sim_events.specs.declared.types.SourceView.{SourceView}
use Rattle.sim_events.specs.Passing.{source_events}
use Rattle.sim_events.specs.Reading.{source_view}
use Rattle.sim_run.specs.Telling.{HasHeard, Hears}
use Rattle.sim_run.proofs.Heard.{fewer_hear, from_place, one_heard, one_shown, one_told, untold_there}
use Rattle.sim_run.proofs.telling.tell_sources.Goals as goal

pub loop-port-preserved : goal.loop-port-preserved
loop-port-preserved c =
    let p = c.loop-port.port in
    let i = c.loop-port.invariant in
    let cycle = c.args.cycle in
    let offers = c.args.offers.now in
    let outputs = c.args.outputs.now in
    let none : SourceOffer = record { beat = None; takes = false } in
    let view : c.source_view-view.result ≡ source_view (drop (7 * p) outputs) = c.source_view-view.ensures ∙ ap source_view (from_place outputs (7 * p)) in
    let within : p < length c.loop-port.drivers = omega (arith, i.same, c.requires.long, c.loop-port-test.true) in
    let heard = subst (λ (v : SourceView). HasHeard (source_events cycle p (get_or offers p none) v) (get_or c.loop-port.drivers p c.index-drivers-port.result) c.tell_source.new.driver) view c.tell_source.ensures.heard in
    record {
      heard = one_heard cycle offers outputs p c.args.drivers.now c.loop-port.drivers c.tell_source.new.driver c.index-drivers-port.result i.heard i.untold within heard;
      untold = one_told p c.args.drivers.now c.loop-port.drivers c.tell_source.new.driver i.untold;
      same = length-set c.loop-port.drivers p c.tell_source.new.driver ∙ i.same;
      events = λ h.
          one_shown cycle offers outputs p none c.loop-port.shown.items c.tell_source.new.shown.items _ c.loop-port-test.true (i.events (fewer_hear cycle offers outputs p c.args.drivers.now h))
          (c.tell_source.ensures.events (subst (λ (v : SourceView). Hears (source_events cycle p (get_or offers p none) v) (get_or c.loop-port.drivers p c.index-drivers-port.result)) (sym view)
          (h.each p (get_or c.loop-port.drivers p c.index-drivers-port.result) (omega arith) (untold_there p c.args.drivers.now c.loop-port.drivers c.index-drivers-port.result i.untold within)))
          ∙ ap (λ (v : SourceView). c.loop-port.shown.items ++ source_events cycle p (get_or offers p none) v) view);
      long = omega (arith, i.long, c.tell_source.ensures.long);
      room = c.tell_source.ensures.room ∙ i.room;
    }
