-- What the refusal of a stimulus says.
use Rattle.std.specs.Prelude.{◌≡◌, Option, Some}
use Rattle.dip_lists.specs.First.{Failure, failure_of}
use Rattle.dip_graph.specs.declared.fault.Fault.{Fault}
use Rattle.dip_graph.specs.declared.fault.Fault.TheVariants.{Check, Memory as Want}
use Rattle.soc_stimulus.specs.declared.fault.StimFault.{StimFault}
use Rattle.soc_stimulus.specs.declared.fault.StimFault.TheVariants.{Line, Memory}

-- a failing check as the line of a rule and an entry
abbrev pub stimulus_line : Fault → StimFault
stimulus_line (Check number subject) = Line number subject
stimulus_line Want = Memory

-- the refusal names this failure, or is want of memory
abbrev pub IsLineOf : Option Failure → StimFault → Type 0
IsLineOf found (Line rule entry) = found ≡ Some (failure_of rule entry)
IsLineOf found Memory = Unit {0}
