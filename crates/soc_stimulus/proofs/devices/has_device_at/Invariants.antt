use Rattle.std.proofs.Common.{◌≡◌, drop}
use Rattle.soc_stimulus.specs.Settings.{has_device_at}
use Rattle.soc_stimulus.proofs.devices.has_device_at.Given as goal

abbrev pub invariant-loop-device : goal.invariant-loop-device
invariant-loop-device l = has_device_at (drop l.device-index l.devices) l.port ≡ has_device_at l.devices l.port
