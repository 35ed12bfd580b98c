use Rattle.std.proofs.Common.{◌∙◌}
use Rattle.dip_names.proofs.Entries.{found}
use Rattle.dip_names.proofs.numbering.Names.has.Goals as goal

pub returns : goal.returns
returns c = rw (← c.self.view_is) (c.contains_key.ensures ∙ found c.self.inside.numbers.entries c.args.name.now)
