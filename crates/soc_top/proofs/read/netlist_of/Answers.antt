use Rattle.std.proofs.Common.{refl, sym, subst, arith}
use Rattle.ver_text.specs.Reading.{read_text, Gives}
use Rattle.soc_top.proofs.ReadRuns.{beyond_said, within_said}
use Rattle.soc_top.proofs.read.netlist_of.Goals as goal

pub returns-then-bytes-gt-MOST_TEXT : goal.returns-then-bytes-gt-MOST_TEXT
returns-then-bytes-gt-MOST_TEXT c = record { said = beyond_said c.args.bytes.now (omega arith) }

pub returns : goal.returns
returns c = record {
  said =
      subst (λ said. Gives said c.read.result) (sym (within_said c.args.bytes.now (read_text c.args.bytes.now) (omega arith) refl)) c.read.ensures.said;
}
