use Rattle.std.proofs.Common.{ap, subst}
use Rattle.sim_ports.specs.Devices.{HasJust, Meaning}
use Rattle.sim_ports.specs.Kept.{meaning_of}
use Rattle.bench_stimulus.proofs.Asked.{has_below}
use Rattle.bench_stimulus.proofs.memory.prepared.Goals as goal

pub returns : goal.returns
returns c =
    let cells = meaning_of c.prepare.new.self in
    has_below c.args.count c.in_ok-addresses.addresses.items cells (ap (λ (m : Meaning). m.prepared) c.in_ok-prepare.ensures.ok)
    (subst (λ a. HasJust a cells.held) c.as_slice.ensures.value c.in_ok-prepare.ensures.addresses) c.in_ok-addresses.ensures
