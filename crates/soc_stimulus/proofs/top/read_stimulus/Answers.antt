use Rattle.std.proofs.Common.{◌≡◌, ◌∙◌, Some, ap, subst}
use Rattle.std.specs.Prelude.{IfOk, IfErr}
use Rattle.dip_lists.specs.First.{first_failing}
use Rattle.tl_edge.proofs.Ways.{ends_law}
use Rattle.soc_stimulus.specs.Lines.{IsLineOf}
use Rattle.soc_stimulus.specs.Ports.{names_of_nodes}
use Rattle.soc_stimulus.specs.Reading.{stated_stimulus, stimulus_rules}
use Rattle.soc_stimulus.proofs.Legally.{legally_read}
use Rattle.soc_stimulus.proofs.top.read_stimulus.Goals as goal

pub read_for-requires-clause-sources : goal.read_for-requires-clause-sources
read_for-requires-clause-sources c = ends_law.sources c.args.accepted.now.plan c.requires.plan

pub read_for-requires-clause-sinks : goal.read_for-requires-clause-sinks
read_for-requires-clause-sinks c = ends_law.sinks c.args.accepted.now.plan c.requires.plan

pub returns-clause-ok : goal.returns-clause-ok
returns-clause-ok c =
    subst (λ names. IfOk c.read_for.result (λ stimulus. stated_stimulus names c.args.accepted.now.plan c.args.bytes.now ≡ Some stimulus))
    (c.in_ok-names.ensures ∙ ap names_of_nodes c.as_slice.ensures) c.read_for.ensures.ok

pub returns-clause-legal : goal.returns-clause-legal
returns-clause-legal c =
    legally_read c.args.design.now c.args.accepted.now.edges c.args.accepted.now.solution c.args.accepted.now.plan c.as_slice-downs.result.now c.as_slice-ups.result.now
    c.read_for.result c.requires.stands c.as_slice-downs.ensures c.as_slice-ups.ensures c.read_for.ensures.legal

pub returns-clause-err : goal.returns-clause-err
returns-clause-err c =
    let plan = c.args.accepted.now.plan in
    let solution = c.args.accepted.now.solution in
    let bytes = c.args.bytes.now in
    let names = names_of_nodes c.args.design.now.nodes in
    subst (λ ups. IfErr c.read_for.result (IsLineOf (first_failing (stimulus_rules names plan solution.down ups bytes)))) c.as_slice-ups.ensures
    (subst (λ downs. IfErr c.read_for.result (IsLineOf (first_failing (stimulus_rules names plan downs c.as_slice-ups.result.now bytes)))) c.as_slice-downs.ensures
    (subst (λ these. IfErr c.read_for.result (IsLineOf (first_failing (stimulus_rules these plan c.as_slice-downs.result.now c.as_slice-ups.result.now bytes))))
    (c.in_ok-names.ensures ∙ ap names_of_nodes c.as_slice.ensures) c.read_for.ensures.err))
