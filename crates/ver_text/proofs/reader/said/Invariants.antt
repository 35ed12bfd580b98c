use Rattle.std.proofs.Common.{◌≡◌, ◌≤◌, ◌-◌, length}
use Rattle.ver_text.specs.Parts.{at_start}
use Rattle.ver_text.specs.Due.{at_first}
use Rattle.ver_text.specs.Reading.{said_from}
use Rattle.ver_text.proofs.reader.said.Given as goal

abbrev pub invariant-loop-at : goal.invariant-loop-at
invariant-loop-at l = record {
  within : l.at ≤ length l.text;
  rest : said_from l.text l.cursor l.progress l.at ≡ said_from l.text at_start at_first 0;
}

abbrev pub decreases-loop-at : goal.decreases-loop-at
decreases-loop-at l = length l.text - l.at
