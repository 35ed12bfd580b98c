use Rattle.net_ports.proofs.RowSteps.{more_named}
use Rattle.net_ports.proofs.names.request_row.Goals as goal

pub returns-clause-named : goal.returns-clause-named
returns-clause-named c = more_named _ _ c.in_ok-ready.ready c.in_ok-add_wires.ensures.named c.in_ok-ready.ensures.named c.in_ok-push-2.ensures.ok
