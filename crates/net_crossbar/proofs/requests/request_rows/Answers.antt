use Rattle.std.proofs.Common.{List, subst}
use Rattle.net_build.specs.declared.types.Wire.{Wire}
use Rattle.net_build.proofs.Steps.{adds_adds}
use Rattle.net_crossbar.specs.Crossed.{AreFitted}
use Rattle.net_crossbar.proofs.Lists.{all_lifted}
use Rattle.net_crossbar.proofs.Moves.{moves_adds}
use Rattle.net_crossbar.proofs.requests.request_rows.Goals as goal

pub returns-clause-adds : goal.returns-clause-adds
returns-clause-adds c = adds_adds _ _ _ c.in_ok-moved.ensures.adds c.in_ok-fitted.ensures.adds

pub returns-clause-rows : goal.returns-clause-rows
returns-clause-rows c = record {
  moved = c.in_ok-moved.moved;
  moved_long = c.in_ok-moved.ensures.long;
  moves = all_lifted _ _ c.in_ok-moved.moved (λ k row m. moves_adds _ _ 3 _ _ row c.in_ok-fitted.ensures.adds m) c.in_ok-moved.ensures.moves;
  fitted = subst (λ (from : List (List Wire)). AreFitted c.fit_all.new.builder 7 from c.in_ok-fitted.fitted.rows c.in_ok-fitted.fitted.widths) c.as_slice.ensures c.in_ok-fitted.ensures.fitted;
}
