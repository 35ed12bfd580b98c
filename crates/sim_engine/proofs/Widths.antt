-- The width of a net, as a call gives it.
use Rattle.std.proofs.lemmas.Option.{unwrap_or-slice_get}

pub ruleset widths_read = (unwrap_or-slice_get)
