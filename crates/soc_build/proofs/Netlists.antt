-- The checks of a design before check 19.
use Rattle.std.proofs.Common.{◌≡◌, List, None}
use Rattle.dip_lists.specs.First.{first_failing}
use Rattle.dip_graph.specs.declared.design.Design.{Design}
use Rattle.dip_graph.specs.declared.fault.Fault.{Fault}
use Rattle.dip_graph.specs.Faults.{IsFaultOf}
use Rattle.dip_graph.proofs.Finding.{in_first, in_second, both_pass}
use Rattle.dip_rule.specs.Stated.{StatedRule}
use Rattle.dip_checks.specs.Checks.{design_checks}
use Rattle.soc_build.specs.Kinds.{hardware_checks}
use Rattle.soc_build.specs.Netlists.{build_checks}

module _ (rules : List StatedRule) (design : Design) where
  pub design_fails : (fault : Fault) → IsFaultOf (first_failing (design_checks rules design)) fault → IsFaultOf (first_failing (build_checks rules design)) fault
  design_fails fault h = in_first (design_checks rules design) (hardware_checks rules design) fault h

  pub hardware_fails : (fault : Fault) → first_failing (design_checks rules design) ≡ None → IsFaultOf (first_failing (hardware_checks rules design)) fault
      → IsFaultOf (first_failing (build_checks rules design)) fault
  hardware_fails fault passes h = in_second (design_checks rules design) (hardware_checks rules design) fault passes h

  pub none_fails : first_failing (design_checks rules design) ≡ None → first_failing (hardware_checks rules design) ≡ None
      → first_failing (build_checks rules design) ≡ None
  none_fails passes h = both_pass (design_checks rules design) (hardware_checks rules design) passes h
