use Rattle.net_lanes.proofs.Begins.{bytes_mean}
use Rattle.net_lanes.proofs.places.bytes_done.Goals as goal

pub returns-clause-value : goal.returns-clause-value
returns-clause-value c = bytes_mean _ _ _ c.args.done c.in_ok-zeros.zeros c.in_ok-eightfold.eightfold c.in_ok-bytes.bytes c.args.buses c.requires.buses c.in_ok-eightfold.ensures.adds c.in_ok-bytes.ensures.adds c.in_ok-zeros.ensures.wire.1 c.in_ok-zeros.ensures.value c.in_ok-eightfold.ensures.value c.in_ok-bytes.ensures.value
