use Rattle.std.proofs.Common.{◌≡◌, ◌≤◌, ◌-◌, length}
use Rattle.ver_text.specs.Tokens.{refused, tokens_from}
use Rattle.ver_text.proofs.syntax.refused_from.Given as goal

abbrev pub invariant-loop-at : goal.invariant-loop-at
invariant-loop-at l = record {
  within : l.at ≤ length l.text;
  rest : refused l.state (tokens_from l.text l.at) (length l.text) ≡ refused l.fn.state (tokens_from l.text l.fn.at) (length l.text);
}

abbrev pub decreases-loop-at : goal.decreases-loop-at
decreases-loop-at l = length l.text - l.at
