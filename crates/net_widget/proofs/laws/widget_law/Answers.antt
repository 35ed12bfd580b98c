use Rattle.net_widget.proofs.Acting.{as_acts, as_both}
use Rattle.net_widget.proofs.laws.widget_law.Goals as goal

pub returns : goal.returns
returns c = record { acts = as_acts; both = as_both }
