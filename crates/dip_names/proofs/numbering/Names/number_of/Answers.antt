use Rattle.std.proofs.Common.{◌∙◌}
use Rattle.indexmap.specs.IndexMap.{keys}
use Rattle.dip_names.proofs.Entries.{place}
use Rattle.dip_names.proofs.numbering.Names.number_of.Goals as goal

pub returns-clause-value : goal.returns-clause-value
returns-clause-value c = rw (← c.self.view_is) (c.get_index_of.ensures.index ∙ place (keys c.self.inside.numbers) c.args.name.now)
