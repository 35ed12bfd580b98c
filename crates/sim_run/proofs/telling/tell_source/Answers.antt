use Rattle.std.proofs.Common.{◌≡◌, ◌++◌, ◌∙◌, List, ap, sym, subst}
use Rattle.tl_edge.specs.declared.beat.Event.{Event}
use Rattle.tl_edge.specs.declared.beat.What.TheVariants.{Enter, Return}
use Rattle.sim_events.specs.Passing.{happening, if_room}
use Rattle.sim_run.specs.Telling.{HasHeard, Hears}
use Rattle.sim_run.proofs.Heard.{heard_both, hears_rest, shown_both}
use Rattle.sim_run.proofs.telling.tell_source.Goals as goal

pub returns-clause-events : goal.returns-clause-events
returns-clause-events c k =
    let cycle = c.args.cycle in
    let port = c.args.port in
    let es = happening cycle port Enter c.enters.result in
    let fs = happening cycle port Return c.returns.result in
    let same : happening cycle port Enter (if_room c.args.view.now.room c.args.offer.now.beat) ++ happening cycle port Return (if_room c.args.offer.now.takes c.args.view.now.head) ≡ es ++ fs =
    ap (λ b. happening cycle port Enter b ++ happening cycle port Return (if_room c.args.offer.now.takes c.args.view.now.head)) (sym c.enters.ensures) ∙ ap (λ b. es ++ happening cycle port Return b) (sym c.returns.ensures) in
    shown_both es fs c.args.shown.now.items c.enter.new.shown.items c.give_back.new.shown.items c.enter.ensures.events
    (c.give_back.ensures.events (hears_rest es fs c.args.driver.now c.enter.new.driver c.enter.ensures.heard (subst (λ (x : List Event). Hears x c.args.driver.now) same k)))
    ∙ ap (λ (x : List Event). c.args.shown.now.items ++ x) (sym same)

pub returns-clause-heard : goal.returns-clause-heard
returns-clause-heard c =
    let cycle = c.args.cycle in
    let port = c.args.port in
    let es = happening cycle port Enter c.enters.result in
    let fs = happening cycle port Return c.returns.result in
    let same : happening cycle port Enter (if_room c.args.view.now.room c.args.offer.now.beat) ++ happening cycle port Return (if_room c.args.offer.now.takes c.args.view.now.head) ≡ es ++ fs =
    ap (λ b. happening cycle port Enter b ++ happening cycle port Return (if_room c.args.offer.now.takes c.args.view.now.head)) (sym c.enters.ensures) ∙ ap (λ b. es ++ happening cycle port Return b) (sym c.returns.ensures) in
    subst (λ (x : List Event). HasHeard x c.args.driver.now c.give_back.new.driver) (sym same)
    (heard_both es fs c.args.driver.now c.enter.new.driver c.give_back.new.driver c.enter.ensures.heard c.give_back.ensures.heard)
