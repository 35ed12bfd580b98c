-- The checks of a file's bytes before those of the design whose netlist is to be built.
use Rattle.std.proofs.Common.{◌≡◌, sym, subst, None, List, ℕ, Option, Some, Result, Ok, Err}
use Rattle.std.specs.Prelude.{IfOk, IfErr}
use Rattle.dip_lists.specs.First.{Failure, failure_of, first_failing}
use Rattle.dip_graph.specs.declared.design.Design.{Design}
use Rattle.dip_graph.specs.declared.fault.Fault.{Fault}
use Rattle.dip_graph.specs.declared.fault.Fault.TheVariants.{Check}
use Rattle.dip_graph.specs.Faults.{IsFaultOf}
use Rattle.dip_graph.proofs.Finding.{in_first, in_second, both_pass}
use Rattle.dip_rule.specs.Stated.{StatedRule}
use Rattle.net_cells.specs.declared.netlist.Netlist.{Netlist}
use Rattle.soc_build.specs.Netlists.{build_checks, IsNetlistOf}
use Rattle.soc_design.specs.Reading.{file_checks, stated_design}
use Rattle.soc_top.specs.Netlists.{build_checks_of, build_failure, IsNetlistOfFile}

-- a fault that names a check is of this failure
pub is_failure : (found : Option Failure) (fault : Fault) (number subject : ℕ) → fault ≡ Check number subject → IsFaultOf found fault
    → found ≡ Some (failure_of number subject)
is_failure found fault number subject same h = subst (λ (f : Fault). IsFaultOf found f) same h

module _ (rules : List StatedRule) (bytes : List ℕ) where
  pub file_fails : (fault : Fault) → IsFaultOf (first_failing (file_checks bytes)) fault → IsFaultOf (build_failure rules bytes) fault
  unfolding build_failure
  file_fails fault h = in_first (file_checks bytes) (build_checks_of rules (stated_design bytes)) fault h

  module _ (design : Design) (stated : stated_design bytes ≡ Some design) (passes : first_failing (file_checks bytes) ≡ None) where
    pub design_fails : (fault : Fault) → IsFaultOf (first_failing (build_checks rules design)) fault → IsFaultOf (build_failure rules bytes) fault
    unfolding build_failure
    design_fails fault h =
        in_second (file_checks bytes) (build_checks_of rules (stated_design bytes)) fault passes
        (subst (λ (o : Option Design). IsFaultOf (first_failing (build_checks_of rules o)) fault) (sym stated) h)

    pub none_found : first_failing (build_checks rules design) ≡ None → build_failure rules bytes ≡ None
    unfolding build_failure
    none_found h =
        both_pass (file_checks bytes) (build_checks_of rules (stated_design bytes)) passes
        (subst (λ (o : Option Design). first_failing (build_checks_of rules o) ≡ None) (sym stated) h)

    pub file_passes : (r : Result Netlist Fault) → IfOk r (λ _. first_failing (build_checks rules design) ≡ None) → IfOk r (λ _. build_failure rules bytes ≡ None)
    file_passes (Ok netlist) h = none_found h
    file_passes (Err fault) h = tt

    pub file_faults : (r : Result Netlist Fault) → IfErr r (IsFaultOf (first_failing (build_checks rules design))) → IfErr r (IsFaultOf (build_failure rules bytes))
    file_faults (Ok netlist) h = tt
    file_faults (Err fault) h = design_fails fault h

    pub file_gives : (r : Result Netlist Fault) → IfOk r (λ netlist. IsNetlistOf rules design netlist) → IfOk r (λ netlist. IsNetlistOfFile rules bytes netlist)
    file_gives (Ok netlist) h = record { design = design; stated = stated; made = h }
    file_gives (Err fault) h = tt
