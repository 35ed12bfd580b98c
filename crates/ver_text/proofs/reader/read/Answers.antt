use Rattle.std.proofs.Common.{rules}
use Rattle.ver_text.proofs.Sound.{spelled_result}
use Rattle.ver_text.proofs.Judgements.{read_fails, read_gives}
use Rattle.ver_text.proofs.reader.read.Goals as goal

pub returns-in_err-progress-clause-said : goal.returns-in_err-progress-clause-said
returns-in_err-progress-clause-said c = search (rules, read_fails)

pub returns-clause-said : goal.returns-clause-said
returns-clause-said c = search (rules, read_gives)

pub returns-clause-spelled : goal.returns-clause-spelled
returns-clause-spelled c = search (rules, spelled_result, read_gives)
