use Rattle.std.proofs.Common.{ℕ, ◌≡◌, List, None, Some, refl}
use Rattle.std.proofs.lemmas.Result.{err_from_is_err_and}
use Rattle.toml.specs.Data.{Members}
use Rattle.toml.specs.View.{table_view}
use Rattle.dip_lists.specs.First.{first, first_failing}
use Rattle.dip_graph.specs.declared.fault.Fault.{Fault}
use Rattle.dip_graph.specs.Faults.{IsFaultAt, IsFaultOf}
use Rattle.dip_graph.proofs.Finding.{all_pass, both_pass, decides, in_first, in_second, leaves}
use Rattle.sim_ports.specs.declared.stimulus.Setting.{Setting}
use Rattle.sim_ports.specs.declared.stimulus.Stall.{Stall}
use Rattle.sim_ports.specs.declared.stimulus.StimRequest.{StimRequest}
use Rattle.tl_edge.specs.declared.plan.Plan.{Plan}
use Rattle.soc_stimulus.specs.Reading as spec
use Rattle.soc_stimulus.proofs.read.stated_parts.Goals as goal

module _ (names : List (List ℕ)) (plan : Plan) (ms : Members) where
  stalls_fail : (fault : Fault) → IsFaultAt 4 (spec.unnamed_stalls_in names plan ms) fault → IsFaultOf (first_failing (spec.rules_of_others names plan ms)) fault
  stalls_fail fault h = decides _ _ fault h

  devices_fail : (fault : Fault) → first (spec.unnamed_stalls_in names plan ms) ≡ None → IsFaultAt 4 (spec.unnamed_devices_in names plan ms) fault
      → IsFaultOf (first_failing (spec.rules_of_others names plan ms)) fault
  devices_fail fault pass h = leaves 4 (first (spec.unnamed_stalls_in names plan ms)) _ fault pass (decides _ None fault h)

  others_pass : first (spec.unnamed_stalls_in names plan ms) ≡ None → first (spec.unnamed_devices_in names plan ms) ≡ None → first_failing (spec.rules_of_others names plan ms) ≡ None
  others_pass s d = all_pass 4 (first (spec.unnamed_stalls_in names plan ms)) _ s (all_pass 4 (first (spec.unnamed_devices_in names plan ms)) None d refl)

  parts_are : (requests : List StimRequest) (stalls : List Stall) (settings : List Setting) → spec.stated_requests names plan ms ≡ Some requests
      → spec.stated_stalls names plan ms ≡ Some stalls → spec.stated_settings names plan ms ≡ Some settings → spec.parts_of names plan ms ≡ Some (requests, stalls, settings)
  parts_are requests stalls settings r s d = rw (r, s, d) refl

pub returns-in_err-requests-clause-err : goal.returns-in_err-requests-clause-err
returns-in_err-requests-clause-err c =
    let p = err_from_is_err_and c.from_residual.result c.from_residual.ensures.1 in
    let ms = table_view c.args.table.now in
    rw (p.1, p.2)
    (in_first (spec.rules_of_requests c.args.names.now c.args.plan.now c.args.downs.now c.args.ups.now ms) (spec.rules_of_others c.args.names.now c.args.plan.now ms)
    c.in_err-requests.field-0.0 c.in_err-requests.ensures.err)

pub returns-in_err-stalls-clause-err : goal.returns-in_err-stalls-clause-err
returns-in_err-stalls-clause-err c =
    let p = err_from_is_err_and c.from_residual-in_err-stalls.result c.from_residual-in_err-stalls.ensures.1 in
    let ms = table_view c.args.table.now in
    let fault = c.in_err-stalls.field-0.0 in
    rw (p.1, p.2)
    (in_second (spec.rules_of_requests c.args.names.now c.args.plan.now c.args.downs.now c.args.ups.now ms) (spec.rules_of_others c.args.names.now c.args.plan.now ms)
    fault c.in_ok-requests.ensures.passes (stalls_fail c.args.names.now c.args.plan.now ms fault c.in_err-stalls.ensures.err))

pub returns-in_err-settings-clause-err : goal.returns-in_err-settings-clause-err
returns-in_err-settings-clause-err c =
    let p = err_from_is_err_and c.from_residual-in_err-settings.result c.from_residual-in_err-settings.ensures.1 in
    let ms = table_view c.args.table.now in
    let fault = c.in_err-settings.field-0.0 in
    rw (p.1, p.2)
    (in_second (spec.rules_of_requests c.args.names.now c.args.plan.now c.args.downs.now c.args.ups.now ms) (spec.rules_of_others c.args.names.now c.args.plan.now ms)
    fault c.in_ok-requests.ensures.passes (devices_fail c.args.names.now c.args.plan.now ms fault c.in_ok-stalls.ensures.passes c.in_err-settings.ensures.err))

pub returns-clause-passes : goal.returns-clause-passes
returns-clause-passes c =
    let ms = table_view c.args.table.now in
    both_pass (spec.rules_of_requests c.args.names.now c.args.plan.now c.args.downs.now c.args.ups.now ms) (spec.rules_of_others c.args.names.now c.args.plan.now ms)
    c.in_ok-requests.ensures.passes (others_pass c.args.names.now c.args.plan.now ms c.in_ok-stalls.ensures.passes c.in_ok-settings.ensures.passes)

pub returns-clause-ok : goal.returns-clause-ok
returns-clause-ok c =
    parts_are c.args.names.now c.args.plan.now (table_view c.args.table.now) _ _ _ c.in_ok-requests.ensures.ok c.in_ok-stalls.ensures.ok c.in_ok-settings.ensures.ok
