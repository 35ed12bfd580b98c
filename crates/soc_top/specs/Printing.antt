-- How a run prints what is due.
use Rattle.std.specs.Prelude.{ℕ, ◌≡◌, ◌≢◌, ◌⊎◌, List}
use Rattle.dip_io.specs.Outside.{OutSeen, Rose, Writes, WritesPart}
use Rattle.soc_report.specs.declared.status.Status.{Status}
use Rattle.soc_report.specs.declared.status.Status.TheVariants.{WriteFailed, Memory}

-- a text was written whole with the wanted answer, or a part of it with the answer that a write failed
pub record Printed (text : List ℕ) (wanted result : Status) (before after : OutSeen) : Type 0 where
  pub either : (result ≡ wanted) ⊎ (result ≡ WriteFailed)
  pub whole : result ≢ WriteFailed → Writes text before after
  pub part : result ≡ WriteFailed → Rose before.faults after.faults × WritesPart text before after

-- want of memory and nothing printed, or a text with the wanted answer
abbrev pub PrintedIfMemory : List ℕ → Status → Status → OutSeen → OutSeen → Type 0
PrintedIfMemory text wanted result before after =
    ((result ≡ Memory) × (after.written ≡ before.written)) ⊎ Printed text wanted result before after
