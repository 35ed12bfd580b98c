use Rattle.toml_shape.proofs.Among.{among}
use Rattle.toml_shape.proofs.table.keys_law.Goals as goal

pub returns : goal.returns
returns c = among
