use Rattle.ver_text.proofs.PortNames.{place_told}
use Rattle.ver_text.proofs.named.NamedPorts.place_of.Goals as goal

pub returns : goal.returns
returns c = place_told c.number_of.result c.self.inside.places c.self.inside.ports.items c.args.self.now c.args.name.now c.number_of.ensures c.self.invariant c.self.view_is
