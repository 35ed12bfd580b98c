use Rattle.std.proofs.lemmas.Result.{on_ok_weaker}
use Rattle.ver_text.proofs.Lists.{four_added}
use Rattle.ver_text.proofs.printer.add_edge.Goals as goal

pub returns : goal.returns
returns c =
    on_ok_weaker c.add_number.result
    (four_added _ _ _ _ _ _ _ _ _ c.in_ok-add.ensures c.in_ok-add-2.ensures c.in_ok-add-3.ensures) c.add_number.ensures
