-- What a fault says.
use Rattle.std.specs.Prelude.{ℕ, ◌≡◌, List, Option, Some}
use Rattle.std.specs.Option.{option_map}
use Rattle.dip_lists.specs.First.{Failure, first, failure_of}
use Rattle.dip_graph.specs.declared.fault.Fault.{Fault}
use Rattle.dip_graph.specs.declared.fault.Fault.TheVariants.{Check, Memory}

-- the fault names this failure, or is want of memory
abbrev pub IsFaultOf : Option Failure → Fault → Type 0
IsFaultOf found (Check number subject) = found ≡ Some (failure_of number subject)
IsFaultOf found Memory = Unit {0}

-- the fault names this check and the first of the subjects at which it fails, or is want of memory
abbrev pub IsFaultAt : ℕ → List ℕ → Fault → Type 0
IsFaultAt number failing fault = IsFaultOf (option_map (failure_of number) (first failing)) fault
