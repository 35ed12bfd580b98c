-- What the ids behind a crossbar are good for: an id tells which input it came from.
use Rattle.std.specs.Prelude.{ℕ, List, All, AllPairs}
use Rattle.std.specs.List.{AllZip}
use Rattle.dip_sets.specs.declared.ids.IdRange.{IdRange}
use Rattle.dip_sets.specs.Ids.{HasId, DisjointIds}
use Rattle.tl_params.specs.declared.ports.Master.{Master}
use Rattle.tl_params.specs.declared.ports.DownPort.{DownPort}
use Rattle.tl_rules.specs.Crossbars.{input_ranges, shifted_masters}

-- each id of the masters is in the range
abbrev pub AreInside : List Master → IdRange → Type 0
AreInside masters range = All (λ m. (id : ℕ) → HasId m.ids id → HasId range id) masters

-- no master of the one list has an id of a master of the other
abbrev pub HaveOtherIds : List Master → List Master → Type 0
HaveOtherIds masters others = All (λ m. All (λ other. DisjointIds m.ids other.ids) others) masters

-- behind a crossbar the ids of each input are in its range, and those of two inputs differ
pub record ShiftedIdsLaw : Type 0 where
  pub inside : (ins : List DownPort) → AllZip AreInside (shifted_masters ins (input_ranges ins)) (input_ranges ins)
  pub apart : (ins : List DownPort) → AllPairs HaveOtherIds (shifted_masters ins (input_ranges ins))
