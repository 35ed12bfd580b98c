use Rattle.std.proofs.Common.{◌+◌, ◌∙◌, subst, arith}
use Rattle.std.proofs.lemmas.List.Elements.{All-push}
use Rattle.std.proofs.lemmas.Result.{err_from_is_err_and}
use Rattle.dip_graph.specs.Faults.{IsFaultOf}
use Rattle.toml_shape.proofs.Stating.{states_more}
use Rattle.soc_stimulus.specs.Requests.{IsLegalThere, asked_request, request_rules}
use Rattle.soc_stimulus.proofs.Each.{rules_more, rules_stop}
use Rattle.soc_stimulus.proofs.requests.legal_requests.Goals as goal

pub loop-place-preserved : goal.loop-place-preserved
loop-place-preserved c =
    let names = c.args.names.now in
    let sources = c.args.sources.now in
    let place = c.loop-place.place in
    record {
      stated =
          rw c.in_ok-push.ensures.ok
          (states_more (asked_request names sources) place c.args.tables.now c.index-tables-place.result _ _ c.index-tables-place.is c.loop-place-test.true
          c.in_ok-request.ensures.ok
          ∙ c.loop-place.invariant.stated);
      legal =
          rw c.in_ok-push.ensures.ok
          (All-push (IsLegalThere sources c.args.downs.now c.args.ups.now) _ _ c.loop-place.invariant.legal c.in_ok-request.ensures.legal);
      passes =
          rules_more (request_rules names sources c.args.downs.now c.args.ups.now) place _ _ c.args.tables.now c.index-tables-place.result
          c.index-tables-place.is c.loop-place-test.true (omega arith) c.in_ok-request.ensures.passes
          ∙ c.loop-place.invariant.passes;
    }

pub returns-in_err-request-clause-err : goal.returns-in_err-request-clause-err
returns-in_err-request-clause-err c =
    let fault = c.in_err-request.field-0.0 in
    let p = err_from_is_err_and c.from_residual.result c.from_residual.ensures.1 in
    rw (p.1, p.2)
    (subst (λ found. IsFaultOf found fault) c.loop-place.invariant.passes
    (rules_stop (request_rules c.args.names.now c.args.sources.now c.args.downs.now c.args.ups.now) c.loop-place.place (1 + c.loop-place.place)
    c.args.tables.now c.index-tables-place.result fault c.index-tables-place.is c.loop-place-test.true c.in_err-request.ensures.err))
