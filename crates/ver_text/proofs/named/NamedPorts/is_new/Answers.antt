use Rattle.ver_text.proofs.PortNames.{new_told}
use Rattle.ver_text.proofs.named.NamedPorts.is_new.Goals as goal

pub returns : goal.returns
returns c = new_told c.args.self.now c.args.name.now c.place_of.result c.is_none.result c.place_of.ensures c.is_none.ensures
