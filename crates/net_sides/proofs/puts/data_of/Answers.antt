use Rattle.net_sides.proofs.Parts.{data_means}
use Rattle.net_sides.proofs.puts.data_of.Goals as goal

pub returns-clause-value : goal.returns-clause-value
returns-clause-value c = data_means _ _ c.in_ok-none.none c.args.loaded c.args.wire c.in_ok-data.data c.in_ok-data.ensures.adds c.in_ok-none.ensures.value c.in_ok-data.ensures.value
