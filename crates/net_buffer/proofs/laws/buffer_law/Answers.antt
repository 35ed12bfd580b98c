use Rattle.net_buffer.proofs.Passing.{as_written}
use Rattle.net_buffer.proofs.laws.buffer_law.Goals as goal

pub returns : goal.returns
returns c = as_written
