use Rattle.std.proofs.Common.{rules}
use Rattle.sim_engine.proofs.columns.columns_of.Goals as goal

pub returns : goal.returns
returns c = record {
  x = search rules;
  y = search rules;
  z = search rules;
  shift = search rules;
  short = search rules;
  kind = search rules;
}
