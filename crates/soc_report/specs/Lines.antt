-- The line that each answer prints, and its exit status.
use Rattle.std.specs.Prelude.{ℕ, List, [], ◌++◌, codes, decimal}
use Rattle.soc_report.specs.declared.status.Status.{Status}
use Rattle.soc_report.specs.declared.status.Status.TheVariants.{Done, Refused, Usage, ReadFailed, WriteFailed, BadStimulus, Memory, NoDevice, BadText}

-- a line of a word with a space behind it, and two numbers
abbrev pub numbers_line : List ℕ → ℕ → ℕ → List ℕ
numbers_line word first second = word ++ decimal first ++ codes " " ++ decimal second ++ codes "\n"

-- the line of a check that fails at a subject
abbrev pub refused_line : ℕ → ℕ → List ℕ
refused_line check subject = numbers_line (codes "refused ") check subject

-- the line of a rule of a stimulus that fails at an entry
abbrev pub bad_stimulus_line : ℕ → ℕ → List ℕ
bad_stimulus_line rule entry = numbers_line (codes "bad stimulus ") rule entry

-- the line of a run that needs more devices than it was given
abbrev pub no_device_line : ℕ → ℕ → List ℕ
no_device_line needed given = numbers_line (codes "no device ") needed given

-- the line of a text that spells no netlist, with the place at which it is refused
abbrev pub bad_text_line : ℕ → List ℕ
bad_text_line place = codes "bad text " ++ decimal place ++ codes "\n"

-- the line that an answer prints: none where all output was written, or where nothing more can be
abbrev pub line_of : Status → List ℕ
line_of Done = []
line_of (Refused check subject) = refused_line check subject
line_of Usage = codes "usage: soc map|verilog|sim|read\n"
line_of ReadFailed = codes "read failed\n"
line_of WriteFailed = []
line_of (BadStimulus rule entry) = bad_stimulus_line rule entry
line_of Memory = []
line_of (NoDevice needed given) = no_device_line needed given
line_of (BadText place) = bad_text_line place

-- the exit status of an answer
abbrev pub code_of : Status → ℕ
code_of Done = 0
code_of (Refused check subject) = 1
code_of Usage = 2
code_of ReadFailed = 3
code_of WriteFailed = 4
code_of (BadStimulus rule entry) = 5
code_of Memory = 6
code_of (NoDevice needed given) = 7
code_of (BadText place) = 8
