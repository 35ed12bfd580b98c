-- The checks of a file's bytes before those of the design that it states.
use Rattle.std.proofs.Common.{◌≡◌, ◌∙◌, refl, ap, sym, subst, None, List, ℕ, Option, Some, Result, Ok, Err}
use Rattle.std.specs.Prelude.{IfOk, IfErr, All}
use Rattle.dip_negotiate.specs.Negotiation.{IsOnlySolution}
use Rattle.tl_params.specs.Apart.{HasDisjointSets}
use Rattle.dip_lists.specs.First.{first_failing}
use Rattle.dip_graph.specs.declared.design.Design.{Design}
use Rattle.dip_graph.specs.declared.fault.Fault.{Fault}
use Rattle.dip_graph.specs.Faults.{IsFaultOf}
use Rattle.dip_graph.proofs.Finding.{in_first, in_second, both_pass}
use Rattle.dip_rule.specs.Stated.{StatedRule}
use Rattle.dip_checks.specs.Checks.{design_checks}
use Rattle.dip_plan.specs.DesignPlans.{accepted_of}
use Rattle.soc_design.specs.Reading.{file_checks, stated_design}
use Rattle.soc_report.specs.MapText.{map_text}
use Rattle.soc_top.specs.Designs.{checks_of, first_failure, map_of, map_of_design, HasSoundPlan, IsMapOf}

module _ (rules : List StatedRule) (bytes : List ℕ) where
  pub file_fault : (fault : Fault) → IsFaultOf (first_failing (file_checks bytes)) fault → IsFaultOf (first_failure rules bytes) fault
  unfolding first_failure
  file_fault fault h = in_first (file_checks bytes) (checks_of rules (stated_design bytes)) fault h

  module _ (design : Design) (stated : stated_design bytes ≡ Some design) (passes : first_failing (file_checks bytes) ≡ None) where
    pub design_fault : (fault : Fault) → IsFaultOf (first_failing (design_checks rules design)) fault → IsFaultOf (first_failure rules bytes) fault
    unfolding first_failure
    design_fault fault h =
        in_second (file_checks bytes) (checks_of rules (stated_design bytes)) fault passes
        (subst (λ (o : Option Design). IsFaultOf (first_failing (checks_of rules o)) fault) (sym stated) h)

    pub none_fails : first_failing (design_checks rules design) ≡ None → first_failure rules bytes ≡ None
    unfolding first_failure
    none_fails h =
        both_pass (file_checks bytes) (checks_of rules (stated_design bytes)) passes
        (subst (λ (o : Option Design). first_failing (checks_of rules o) ≡ None) (sym stated) h)

    pub same_map : (text : List ℕ) → text ≡ map_text design (accepted_of rules design) → text ≡ map_of rules bytes
    unfolding map_of
    same_map text h = h ∙ ap (map_of_design rules) (sym stated)

    -- the same of an answer
    pub passes_all : (r : Result (List ℕ) Fault) → IfOk r (λ _. first_failing (design_checks rules design) ≡ None) → IfOk r (λ _. first_failure rules bytes ≡ None)
    passes_all (Ok text) h = none_fails h
    passes_all (Err fault) h = tt

    pub maps_all : (r : Result (List ℕ) Fault) → IfOk r (λ text. text ≡ map_text design (accepted_of rules design)) → IfOk r (λ text. text ≡ map_of rules bytes)
    maps_all (Ok text) h = same_map text h
    maps_all (Err fault) h = tt

    pub faults_all : (r : Result (List ℕ) Fault) → IfErr r (IsFaultOf (first_failing (design_checks rules design))) → IfErr r (IsFaultOf (first_failure rules bytes))
    faults_all (Ok text) h = tt
    faults_all (Err fault) h = design_fault fault h

    pub maps_only : (r : Result (List ℕ) Fault) → IfOk r (λ text. text ≡ map_text design (accepted_of rules design))
        → IfOk r (λ _. IsOnlySolution rules design (accepted_of rules design).edges (accepted_of rules design).solution)
        → IfOk r (λ _. All HasDisjointSets (accepted_of rules design).solution.up)
        → IfOk r (λ _. HasSoundPlan design (accepted_of rules design)) → IfOk r (λ text. IsMapOf rules bytes text)
    maps_only (Ok text) m o a p = record { design = design; stated = stated; accepted = accepted_of rules design; edges = refl; only = o; apart = a; planned = p; text = m }
    maps_only (Err fault) m o a p = tt
