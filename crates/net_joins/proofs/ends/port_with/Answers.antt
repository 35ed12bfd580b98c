use Rattle.std.proofs.Common.{arith, get_or}
use Rattle.std.proofs.lemmas.Option.{slice_get-get_or, slice_get_within}
use Rattle.net_joins.specs.Finding.{PortHas}
use Rattle.net_joins.proofs.Found.{not_before, port_none}
use Rattle.net_joins.proofs.ends.port_with.Goals as goal

pub loop-port-preserved : goal.loop-port-preserved
loop-port-preserved c =
    let ports = c.args.ports.now in
    let k = c.loop-port.port in
    let own = c.index-ports-port.result in
    record {
      none = λ port l h.
          not_before (λ n. PortHas ports c.args.edge n) k c.loop-port.invariant.none
          (port_none ports c.args.edge k (get_or ports k own) (slice_get-get_or ports k own c.loop-port-test.true) c.if-ports-port.false)
          port l h;
    }

pub returns : goal.returns
returns c = λ port h. c.loop-port.invariant.none port (omega (arith, slice_get_within c.args.ports.now port h.0 h.1, c.loop-port-test.false)) h
