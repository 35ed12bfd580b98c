-- The devices of a stimulus file, rule 4 of each, and the settings that they state for the sink ports.
use Rattle.std.specs.Prelude.{ℕ, ◌==◌, ◌+◌, ◌++◌, List, [], ◌∷◌, map, Bool, cond}
use Rattle.std.specs.Prelude.{Option, Some, None}
use Rattle.std.specs.Option.{option_and_then, option_map, option_map_or}
use Rattle.std.specs.List.{find, list_any, range_with_len}
use Rattle.toml.specs.Data.{Data, table, Items, no_items, item, Members}
use Rattle.tl_edge.specs.declared.plan.PlanPort.{PlanPort}
use Rattle.sim_ports.specs.declared.role.Role.TheVariants.{Ram}
use Rattle.sim_ports.specs.declared.stimulus.Setting.{Setting}
use Rattle.soc_stimulus.specs.declared.limits.LimitedDevice.{LimitedDevice}
use Rattle.soc_stimulus.specs.declared.devices.PlacedDevice.{PlacedDevice}
use Rattle.soc_stimulus.specs.Ports.{named_port}
use Rattle.soc_stimulus.specs.Stated.{device_in}

-- ---- devices

-- a device at the sink port with a number
abbrev pub device_with : LimitedDevice → ℕ → PlacedDevice
device_with numbers port = record { port = port; setting = numbers.setting }

-- the device at the sink port that its table names
abbrev pub device_at : List (List ℕ) → List PlanPort → Members → LimitedDevice → Option PlacedDevice
device_at names sinks ms numbers = option_map (device_with numbers) (named_port names sinks numbers.port ms)

-- the same, where its numbers are within the limits and it names a sink port
abbrev pub device_in_table : List (List ℕ) → List PlanPort → Members → Option PlacedDevice
device_in_table names sinks ms = option_and_then (device_at names sinks ms) (device_in ms)

-- the same of a value
abbrev pub device_of : List (List ℕ) → List PlanPort → Data → Option PlacedDevice
device_of names sinks (table ms) = device_in_table names sinks ms
device_of names sinks d = None

-- one of some devices is at a port
abbrev pub has_device_at : List PlacedDevice → ℕ → Bool
has_device_at devices port = list_any (λ (device : PlacedDevice). device.port == port) devices

-- a device at whose port none of these is
abbrev pub unlike_earlier : List PlacedDevice → PlacedDevice → Option PlacedDevice
unlike_earlier earlier device = cond (has_device_at earlier device.port) None (Some device)

-- the device of a table after earlier ones
abbrev pub device_after : List (List ℕ) → List PlanPort → List PlacedDevice → Data → Option PlacedDevice
device_after names sinks earlier d = option_and_then (unlike_earlier earlier) (device_of names sinks d)

-- the devices of some tables after earlier ones, where each names a sink port that none before it does
abbrev pub devices_from : List (List ℕ) → List PlanPort → List PlacedDevice → Items → Option (List PlacedDevice)
devices_from names sinks earlier no_items = Some earlier
devices_from names sinks earlier (item d ds) =
    option_and_then (λ device. devices_from names sinks (earlier ++ device ∷ []) ds)
    (device_after names sinks earlier d)

-- Rule 4 of the tables of devices: the entries of those that name no sink port, or one that an earlier one names. The
-- first of the tables has this entry.
abbrev pub unnamed_devices : List (List ℕ) → List PlanPort → List PlacedDevice → ℕ → Items → List ℕ
unnamed_devices names sinks earlier entry no_items = []
unnamed_devices names sinks earlier entry (item d ds) =
    option_map_or (λ device. unnamed_devices names sinks (earlier ++ device ∷ []) (entry + 1) ds)
    (device_after names sinks earlier d) (entry ∷ unnamed_devices names sinks earlier (entry + 1) ds)

-- ---- settings

-- a memory that does all requests, without a delay
abbrev pub default_setting : Setting
default_setting = record { role = Ram; delay = 0 }

-- the setting of the device at a port, the default one where there is none
abbrev pub setting_for : List PlacedDevice → ℕ → Setting
setting_for devices port =
    option_map_or (λ (device : PlacedDevice). device.setting)
    (find (λ (device : PlacedDevice). device.port == port) devices) default_setting

-- a setting for each of so many sink ports
abbrev pub settings_of : List PlacedDevice → ℕ → List Setting
settings_of devices ports = map (setting_for devices) (range_with_len 0 ports)
