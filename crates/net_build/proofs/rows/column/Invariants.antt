use Rattle.std.proofs.Common.{◌≡◌, ◌++◌, drop}
use Rattle.net_build.specs.Columns.{column_of}
use Rattle.net_build.proofs.rows.column.Given as goal

abbrev pub invariant-loop-row : goal.invariant-loop-row
invariant-loop-row l = record {
  rest : l.out ++ column_of l.place (drop l.row-index l.rows) ≡ column_of l.place l.rows;
}
