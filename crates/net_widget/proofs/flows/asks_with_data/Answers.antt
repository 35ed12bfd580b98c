use Rattle.net_widget.proofs.Passed.{below_tells}
use Rattle.net_widget.proofs.flows.asks_with_data.Goals as goal

pub returns-clause-tells : goal.returns-clause-tells
returns-clause-tells c = below_tells _ _ c.args.opcode c.in_ok-get.get c.in_ok-data.data 4 c.in_ok-data.ensures.adds c.in_ok-get.ensures.value c.in_ok-data.ensures.value
