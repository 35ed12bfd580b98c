use Rattle.std.proofs.Common.{◌≡◌}
use Rattle.soc_stimulus.specs.Settings.{settings_of}
use Rattle.soc_stimulus.proofs.devices.settings_of.Given as goal

abbrev pub invariant-loop-port : goal.invariant-loop-port
invariant-loop-port l = l.settings ≡ settings_of l.devices l.port
