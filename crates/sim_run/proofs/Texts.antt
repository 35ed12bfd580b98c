-- The text of a trace, computed.
use Rattle.std.proofs.Common.{refl}
use Rattle.std.specs.Fmt.{digits}
use Rattle.soc_report.specs.TraceLines.{end_text, line_head, request_text, response_text}
use Rattle.sim_run.specs.Texts.{TraceTextsExample}

pub texts : TraceTextsExample
unfolding line_head request_text response_text end_text digits
texts = record {
  put_enters = refl;
  get_enters = refl;
  put_leaves = refl;
  put_answered = refl;
  put_returns = refl;
  get_answered = refl;
  get_returns = refl;
  request = refl;
  response = refl;
  ends = refl;
}
