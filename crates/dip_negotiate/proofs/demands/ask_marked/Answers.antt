use Rattle.std.proofs.Common.{◌≡◌, ◌+◌, ◌<◌, true, false, get_or, Some, Ok, Err, sym, subst}
use Rattle.std.specs.Prelude.{slice_set}
use Rattle.std.proofs.lemmas.Option.{slice_get-get_or}
use Rattle.dip_rule.specs.Boxed.{stated_by}
use Rattle.dip_negotiate.specs.Demands.{known_of, seen}
use Rattle.dip_negotiate.specs.Turns.{StopsAt}
use Rattle.dip_negotiate.proofs.Needed.{blank}
use Rattle.dip_negotiate.proofs.Asked.{AskedTo, here, stops, asked_one, skipped, all_asked, err_says, says_of, wants_is}
use Rattle.dip_negotiate.proofs.demands.ask_marked.Goals as goal
use Rattle.dip_negotiate.proofs.demands.ask_marked.Goals.{then-wants+in-Ok, else-wants}

pub keep-requires : goal.keep-requires
keep-requires g c =
    let step = get_or c.args.steps.now c.loop-turn.turn blank in
    let is = slice_get-get_or c.args.steps.now c.loop-turn.turn blank c.loop-turn-test.true in
    let l = here _ c.args.edges.now c.args.steps.now c.args.firsts.now c.args.marks.now c.args.ports.now.items c.requires.in_turn c.requires.shared c.requires.goes_on c.loop-turn.ports.items
    c.loop-turn.turn c.loop-turn.invariant step is
    (wants_is c.args.marks.now c.args.firsts.now c.deref.result.now c.loop-turn.ports.items step.number c.wants.result true c.deref.ensures.value c.wants.ensures c.if-wants.true) in
    subst (λ n. step.number < n) (sym c.requires.shared.long) l

pub returns-in-Err-Refused-clause-refused : goal.returns-in-Err-Refused-clause-refused
returns-in-Err-Refused-clause-refused g c edge number e =
    let pass = g.P.Negotiated.pass (stated_by (goal.Rule-dyn g) c.args.rules.now) c.args.nodes.now c.args.edges.now in
    let step = get_or c.args.steps.now c.loop-turn.turn blank in
    let is = slice_get-get_or c.args.steps.now c.loop-turn.turn blank c.loop-turn-test.true in
    let wanted = wants_is c.args.marks.now c.args.firsts.now c.deref.result.now c.loop-turn.ports.items step.number c.wants.result true c.deref.ensures.value c.wants.ensures c.if-wants.true in
    let number_is : c.in-Err-Refused.number ≡ number = cc in
    let edge_is : step.edge ≡ edge = cc in
    let answer = err_says (pass.says step.edge (known_of (seen c.args.firsts.now c.deref-then-wants.result.now) (pass.asks step.edge))) c.in-Err-Refused.field-0 c.in-Err-Refused.number c.in-Err-Refused.field-0-is c.in-Err-Refused.ensures.value in
    let said = says_of pass step.edge c.args.firsts.now c.deref-then-wants.result.now c.loop-turn.ports.items (Err c.in-Err-Refused.number) c.deref-then-wants.ensures.value answer in
    subst (λ x. StopsAt pass c.args.steps.now c.args.marks.now (seen c.args.firsts.now c.loop-turn.ports.items) x number) edge_is
    (subst (λ n. StopsAt pass c.args.steps.now c.args.marks.now (seen c.args.firsts.now c.loop-turn.ports.items) step.edge n) number_is
    (stops pass c.args.edges.now c.args.steps.now c.args.firsts.now c.args.marks.now c.args.ports.now.items c.requires.in_turn c.requires.shared c.requires.goes_on c.loop-turn.ports.items
    c.loop-turn.turn c.loop-turn.invariant step is wanted c.in-Err-Refused.number said))

pub loop-turn-preserved : goal.loop-turn-preserved
loop-turn-preserved g c =
    let pass = g.P.Negotiated.pass (stated_by (goal.Rule-dyn g) c.args.rules.now) c.args.nodes.now c.args.edges.now in
    let step = get_or c.args.steps.now c.loop-turn.turn blank in
    let is = slice_get-get_or c.args.steps.now c.loop-turn.turn blank c.loop-turn-test.true in
    elim c.if-wants.branch [
      | then-wants+in-Ok w ↦ (
          let wanted = wants_is c.args.marks.now c.args.firsts.now c.deref.result.now c.loop-turn.ports.items step.number c.wants.result true c.deref.ensures.value c.wants.ensures w.if-wants.true in
          let said = says_of pass step.edge c.args.firsts.now w.deref-then-wants.result.now c.loop-turn.ports.items (Ok w.in-Ok.port) w.deref-then-wants.ensures.value w.in-Ok.ensures.value in
          let e : c.if-wants.ports.items ≡ slice_set c.loop-turn.ports.items (get_or c.args.firsts.now step.number 0) (Some w.in-Ok.port) = cc in
          subst (λ (x : _). AskedTo pass c.args.edges.now c.args.steps.now c.args.firsts.now c.args.marks.now c.args.ports.now.items x (c.loop-turn.turn + 1)) (sym e)
          (asked_one pass c.args.edges.now c.args.steps.now c.args.firsts.now c.args.marks.now c.args.ports.now.items c.requires.in_turn c.requires.shared c.requires.goes_on c.loop-turn.ports.items
          c.loop-turn.turn c.loop-turn.invariant step is wanted w.in-Ok.port said))
      | else-wants w ↦ (
          let unwanted = wants_is c.args.marks.now c.args.firsts.now c.deref.result.now c.loop-turn.ports.items step.number c.wants.result false c.deref.ensures.value c.wants.ensures w.if-wants.false in
          let e : c.if-wants.ports.items ≡ c.loop-turn.ports.items = cc in
          subst (λ (x : _). AskedTo pass c.args.edges.now c.args.steps.now c.args.firsts.now c.args.marks.now c.args.ports.now.items x (c.loop-turn.turn + 1)) (sym e)
          (skipped pass c.args.edges.now c.args.steps.now c.args.firsts.now c.args.marks.now c.args.ports.now.items c.requires.in_turn c.requires.shared c.requires.goes_on c.loop-turn.ports.items
          c.loop-turn.turn c.loop-turn.invariant step is unwanted))
    ]

pub returns-clause-ok : goal.returns-clause-ok
returns-clause-ok g c =
    let pass = g.P.Negotiated.pass (stated_by (goal.Rule-dyn g) c.args.rules.now) c.args.nodes.now c.args.edges.now in
    all_asked pass c.args.edges.now c.args.steps.now c.args.firsts.now c.args.marks.now c.args.ports.now.items c.requires.in_turn c.requires.shared c.loop-turn.ports.items c.loop-turn.turn
    c.loop-turn-test.false c.requires.marks c.loop-turn.invariant
