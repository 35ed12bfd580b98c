use Rattle.std.proofs.Common.{List, subst}
use Rattle.net_build.specs.declared.types.Wire.{Wire}
use Rattle.net_build.proofs.Steps.{bit_adds}
use Rattle.net_queue.specs.Rows.{AreAlike}
use Rattle.net_sides.proofs.puts.put_response.Goals as goal

pub returns-clause-into : goal.returns-clause-into
returns-clause-into c = record {
  valid = bit_adds _ _ c.args.valid c.in_ok-items.ensures.adds c.requires.valid;
  items = subst (λ (ws : List Wire). AreAlike c.fit_row.new.builder ws c.in_ok-items.items) c.as_slice-2.ensures c.in_ok-items.ensures.alike;
}
