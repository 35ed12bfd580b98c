use Rattle.std.proofs.Common.{◌≡◌, drop}
use Rattle.soc_stimulus.specs.Settings.{setting_for}
use Rattle.soc_stimulus.proofs.devices.setting_for.Given as goal

abbrev pub invariant-loop-device : goal.invariant-loop-device
invariant-loop-device l = setting_for (drop l.device-index l.devices) l.port ≡ setting_for l.devices l.port
