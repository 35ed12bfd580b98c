-- A memory as a device.
use Rattle.sim_ports.specs.Devices.{Meaning}
use Rattle.sim_ports.specs.Layout.{Keeping, kept}
use Rattle.sim_ports.specs.Memories.{memory_says}

-- the device that a memory is, as it is kept
abbrev pub meaning_of : Keeping → Meaning
meaning_of memory =
    record { says = memory_says; prepared = memory.prepared; role = memory.role; held = kept memory.runs memory.bytes }
