-- What the bytes of a netlist text call for.
use Rattle.std.specs.Prelude.{ℕ, ◌≡◌, ◌<◌, ◌≤◌, ◌+◌, List, length, cond, nat_lt, Result, Ok, Err}
use Rattle.net_cells.specs.declared.netlist.Netlist.{Netlist}
use Rattle.ver_text.specs.Reading.{read_text}
use Rattle.ver_text.specs.TextLaw.{Spells}
use Rattle.soc_report.specs.declared.status.Status.{Status}
use Rattle.soc_report.specs.declared.status.Status.TheVariants.{Done, BadText}
use Rattle.soc_report.specs.Lines.{line_of}
use Rattle.soc_report.specs.NetlistLine.{netlist_line}

-- the most bytes that a text may have: 256 MiB
abbrev pub most_text : ℕ
most_text = 268435456

-- the most bytes of a text that are loaded: one more than it may have
abbrev pub most_text_loaded : ℕ
most_text_loaded = most_text + 1

-- The netlist of a text, or the place at which it is refused: behind the most bytes that it may have, where there are
-- more, else where reading it ends.
unfoldable pub said_by : List ℕ → Result Netlist ℕ
said_by bytes = cond (nat_lt most_text (length bytes)) (Err most_text) (read_text bytes)

-- the answer that this calls for
abbrev pub answer_to : Result Netlist ℕ → Status
answer_to (Ok netlist) = Done
answer_to (Err place) = BadText place

-- what is to be printed: the line of the netlist, or that of the refusal
abbrev pub line_said : Result Netlist ℕ → List ℕ
line_said (Ok netlist) = netlist_line netlist
line_said (Err place) = line_of (BadText place)

-- a text that is no longer than it may be spells this netlist
pub record IsTextOf (bytes : List ℕ) (netlist : Netlist) : Type 0 where
  pub within : length bytes ≤ most_text
  pub spells : Spells bytes netlist

-- Why a text is refused at a place: it is longer than a text may be, and this is where that ends; or it spells no
-- netlist, and reading it ends there.
pub data IsRefusedAt (bytes : List ℕ) (place : ℕ) : Type 0 where
  too_long : most_text < length bytes → place ≡ most_text → IsRefusedAt bytes place
  no_netlist : length bytes ≤ most_text → ((netlist : Netlist) → ¬ (Spells bytes netlist))
      → read_text bytes ≡ Err place → IsRefusedAt bytes place
