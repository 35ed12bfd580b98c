use Rattle.std.proofs.Common.{◌+◌, sym, ◌∙◌}
use Rattle.ver_text.specs.Reading.{part_said, said_from}
use Rattle.ver_text.proofs.Judgements.{gap_said, wrong_said, token_said, faults_at, goes_on, fails_so}
use Rattle.ver_text.proofs.reader.pass.Goals as goal

pub returns-then-is_gap-clause-goes : goal.returns-then-is_gap-clause-goes
returns-then-is_gap-clause-goes c = gap_said c.args.text.now c.args.cursor.now c.args.progress.now c.args.at c.args.lexeme c.requires.there c.requires.lexeme c.requires.within
    (sym c.is_gap.ensures ∙ c.if-is_gap.true)

pub returns-in_default-clause-fault : goal.returns-in_default-clause-fault
returns-in_default-clause-fault c =
    let text = c.args.text.now in
    faults_at (said_from text c.args.cursor.now c.args.progress.now c.args.at) c.args.at _
    (wrong_said text c.args.cursor.now c.args.progress.now c.args.at c.args.lexeme c.requires.there c.requires.lexeme c.requires.within
    (sym c.is_gap.ensures ∙ c.if-is_gap.false) (sym c.next_state.ensures ∙ c.in_default.is))
    c.refusal.ensures

pub returns-clause-goes : goal.returns-clause-goes
returns-clause-goes c =
    let text = c.args.text.now in
    let behind = c.args.at + (c.args.lexeme.more + 1) in
    goes_on _ (part_said text c.pass.new.self c.args.progress.now behind) _ (said_from text c.args.cursor.now c.args.progress.now c.args.at) c.take_part.ensures.goes
    (token_said text c.args.cursor.now c.pass.new.self c.args.progress.now c.args.at c.args.lexeme c.in-Some.state c.requires.there c.requires.lexeme c.requires.within
    (sym c.is_gap.ensures ∙ c.if-is_gap.false) (sym c.next_state.ensures ∙ c.in-Some.is) c.pass.ensures)

pub returns-clause-fault : goal.returns-clause-fault
returns-clause-fault c =
    let text = c.args.text.now in
    let behind = c.args.at + (c.args.lexeme.more + 1) in
    fails_so _ (part_said text c.pass.new.self c.args.progress.now behind) (said_from text c.args.cursor.now c.args.progress.now c.args.at) c.take_part.ensures.fault
    (token_said text c.args.cursor.now c.pass.new.self c.args.progress.now c.args.at c.args.lexeme c.in-Some.state c.requires.there c.requires.lexeme c.requires.within
    (sym c.is_gap.ensures ∙ c.if-is_gap.false) (sym c.next_state.ensures ∙ c.in-Some.is) c.pass.ensures)
