-- The lines of a trace, and its last line.
use Rattle.std.specs.Prelude.{ℕ, List, [], ◌∷◌, ◌++◌, codes, decimal}
use Rattle.std.specs.Int.{from_bool}
use Rattle.dip_text.specs.Numbers.{hexadecimal}
use Rattle.tl_params.specs.Codes.{code_of_ack, code_of_op}
use Rattle.tl_edge.specs.declared.beat.ABeat.{ABeat}
use Rattle.tl_edge.specs.declared.beat.DBeat.{DBeat}
use Rattle.tl_edge.specs.declared.beat.Event.{Event}
use Rattle.tl_edge.specs.declared.beat.What.{What}
use Rattle.tl_edge.specs.declared.beat.What.TheVariants.{Enter, Return, Leave, Reply}
use Rattle.soc_report.specs.declared.trace.Totals.{Totals}

-- a space, and a number in decimal
abbrev pub spaced : ℕ → List ℕ
spaced number = codes " " ++ decimal number

-- a space, and a number in hexadecimal
abbrev pub spaced_hexadecimal : ℕ → List ℕ
spaced_hexadecimal number = codes " " ++ hexadecimal number

-- what stands first in a line: the cycle, what happens, and the port
unfoldable pub line_head : ℕ → List ℕ → ℕ → List ℕ
line_head cycle word port = decimal cycle ++ codes " " ++ word ++ spaced port

-- the fields of a beat of a request: opcode, param, size, source, address, mask and data
unfoldable pub request_text : ABeat → List ℕ
request_text beat =
    spaced (code_of_op beat.op) ++ spaced beat.param ++ spaced beat.size ++ spaced beat.source
    ++ spaced_hexadecimal beat.address ++ spaced_hexadecimal beat.mask ++ spaced_hexadecimal beat.payload ++ codes "\n"

-- the fields of a beat of a response: opcode, size, source, denied and data
unfoldable pub response_text : DBeat → List ℕ
response_text beat =
    spaced (code_of_ack beat.op) ++ spaced beat.size ++ spaced beat.source ++ spaced (from_bool beat.denied)
    ++ spaced_hexadecimal beat.payload ++ codes "\n"

-- the line of what happens at a port in a cycle
abbrev pub line_of_what : ℕ → ℕ → What → List ℕ
line_of_what cycle port (Enter beat) = line_head cycle (codes "enter") port ++ request_text beat
line_of_what cycle port (Return beat) = line_head cycle (codes "return") port ++ response_text beat
line_of_what cycle port (Leave beat) = line_head cycle (codes "leave") port ++ request_text beat
line_of_what cycle port (Reply beat) = line_head cycle (codes "reply") port ++ response_text beat

-- the line of an event
abbrev pub trace_line : Event → List ℕ
trace_line event = line_of_what event.cycle event.port event.what

-- the lines of some events
abbrev pub trace_lines : List Event → List ℕ
trace_lines [] = []
trace_lines (event ∷ events) = trace_line event ++ trace_lines events

-- the last line of a trace of so many cycles, where so many requests have begun, and so many are answered
unfoldable pub end_text : ℕ → ℕ → ℕ → List ℕ
end_text cycles begun returned =
    codes "end" ++ spaced cycles ++ spaced begun ++ spaced returned ++ codes "\n"

-- that of some totals
abbrev pub end_line : Totals → List ℕ
end_line totals = end_text totals.cycles totals.begun totals.returned
