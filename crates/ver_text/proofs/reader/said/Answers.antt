use Rattle.std.proofs.Common.{length, sym, ◌∙◌, true, false}
use Rattle.ver_text.specs.Parts.{at_start}
use Rattle.ver_text.specs.Due.{at_first}
use Rattle.ver_text.specs.Reading.{said_from}
use Rattle.ver_text.proofs.Judgements.{end_said, faults_at}
use Rattle.ver_text.proofs.reader.said.Goals as goal

pub returns-then-is_whole : goal.returns-then-is_whole
returns-then-is_whole c = sym c.loop-at.invariant.rest
    ∙ end_said c.args.text.now c.loop-at.cursor c.loop-at.progress c.loop-at.at true c.loop-at-test.false (sym c.is_whole.ensures ∙ c.if-is_whole.true)

pub returns-else-is_whole : goal.returns-else-is_whole
returns-else-is_whole c =
    let text = c.args.text.now in
    faults_at (said_from text at_start at_first 0) (length text) _
    (sym c.loop-at.invariant.rest ∙ end_said text c.loop-at.cursor c.loop-at.progress c.loop-at.at false c.loop-at-test.false (sym c.is_whole.ensures ∙ c.if-is_whole.false))
    c.refusal.ensures
