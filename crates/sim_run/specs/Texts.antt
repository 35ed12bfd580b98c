-- The text of a trace, written out.
use Rattle.std.specs.Prelude.{◌≡◌, codes, true}
use Rattle.tl_params.specs.declared.ops.Ack.TheVariants.{AckData}
use Rattle.tl_params.specs.declared.ops.Op.TheVariants.{Logical}
use Rattle.tl_edge.specs.declared.beat.ABeat.{ABeat}
use Rattle.tl_edge.specs.declared.beat.DBeat.{DBeat}
use Rattle.tl_edge.specs.declared.beat.What.TheVariants.{Enter, Return, Leave, Reply}
use Rattle.soc_report.specs.TraceLines.{end_line, trace_line}
use Rattle.sim_events.specs.Worked.{in_cycle, the_ack, the_bytes, the_get, the_put}

-- a request and a response no two fields of which are alike
abbrev pub odd_request : ABeat
odd_request = record { op = Logical; param = 4; size = 2; source = 17; address = 0x1008; mask = 0xc0; payload = 0xdef }

abbrev pub denied_response : DBeat
denied_response = record { op = AckData; size = 2; source = 5; denied = true; payload = 0xab }

-- The lines of a put and a get with their responses at a memory, from their entry to their return; and of beats whose
-- fields all differ.
pub record TraceTextsExample : Type 0 where
  pub put_enters : trace_line (in_cycle 0 (Enter the_put)) ≡ codes "0 enter 0 0 0 3 0 80000010 ff 807060504030201\n"
  pub get_enters : trace_line (in_cycle 1 (Enter the_get)) ≡ codes "1 enter 0 4 0 2 1 80000014 f0 0\n"
  pub put_leaves : trace_line (in_cycle 1 (Leave the_put)) ≡ codes "1 leave 0 0 0 3 0 80000010 ff 807060504030201\n"
  pub put_answered : trace_line (in_cycle 2 (Reply the_ack)) ≡ codes "2 reply 0 0 3 0 0 0\n"
  pub put_returns : trace_line (in_cycle 3 (Return the_ack)) ≡ codes "3 return 0 0 3 0 0 0\n"
  pub get_answered : trace_line (in_cycle 4 (Reply the_bytes)) ≡ codes "4 reply 0 1 2 1 0 807060500000000\n"
  pub get_returns : trace_line (in_cycle 5 (Return the_bytes)) ≡ codes "5 return 0 1 2 1 0 807060500000000\n"
  pub request : trace_line (record { cycle = 12; port = 7; what = Leave odd_request })
      ≡ codes "12 leave 7 3 4 2 17 1008 c0 def\n"
  pub response : trace_line (record { cycle = 345; port = 6; what = Return denied_response })
      ≡ codes "345 return 6 1 2 5 1 ab\n"
  pub ends : end_line (record { cycles = 8; begun = 3; returned = 2; sum = 9; state = 7 }) ≡ codes "end 8 3 2\n"
