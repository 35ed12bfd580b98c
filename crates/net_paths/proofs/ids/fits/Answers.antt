use Rattle.net_paths.proofs.Prefixed.{positive, shifted}
use Rattle.net_paths.proofs.ids.fits.Goals as goal

pub returns-else-bits-ge64 : goal.returns-else-bits-ge64
returns-else-bits-ge64 c = shifted c.args.value _ (positive c.args.bits)
