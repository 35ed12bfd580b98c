use Rattle.net_build.proofs.OpenedLists.{all_undriven_adds, widths_later}
use Rattle.net_build.proofs.Steps.{bit_adds}
use Rattle.net_queue.proofs.Alike.{alike_adds, alike_made}
use Rattle.net_queue.proofs.Opening.{opens_adds, shows_registers}
use Rattle.net_queue.proofs.queue.open_queue.Goals as goal

pub returns-clause-opens : goal.returns-clause-opens
returns-clause-opens c = opens_adds _ _ _ _ c.in_ok-opened.ensures.opens c.in_ok-ready.ensures.adds

pub returns-clause-open : goal.returns-clause-open
returns-clause-open c =
    let o = c.in_ok-opened.ensures in
    let r = c.in_ok-opened.opened in
    let g = c.in_ok-ready.ensures.adds in
    record {
      ready = c.in_ok-ready.ensures.bit;
      valid = bit_adds _ _ r.valid g o.bits.0;
      full = bit_adds _ _ r.full g o.bits.1;
      alike = alike_adds _ _ r.head r.last g (alike_made _ c.args.widths.now r.head r.last o.long.0 o.long.1 o.wires.0 o.wires.1);
      undriven = all_undriven_adds _ _ _ g o.undriven;
      distinct = o.distinct;
      room = c.in_ok-ready.ensures.tells;
    }

pub returns-clause-widths : goal.returns-clause-widths
returns-clause-widths c = widths_later _ _ c.args.widths.now c.in_ok-opened.opened.head c.in_ok-ready.ensures.adds.later c.in_ok-opened.ensures.wires.0

pub returns-clause-registers : goal.returns-clause-registers
returns-clause-registers c = shows_registers _ _ (returns-clause-open c)
