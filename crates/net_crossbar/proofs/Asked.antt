-- Which heads want to go where, in wires.
use Rattle.std.proofs.Common.{◌≡◌, ℕ, ◌<◌, List, [], length, get_or, sym, subst}
use Rattle.tl_params.specs.declared.ports.Slave.{Slave}
use Rattle.net_build.specs.declared.types.Wire.{Wire}
use Rattle.net_build.specs.Built.{Built, IsWire}
use Rattle.net_build.specs.Columns.{no_wire}
use Rattle.net_build.specs.Values.{Adds}
use Rattle.net_build.proofs.OpenedLists.{widths_later}
use Rattle.net_build.proofs.Steps.{bit_adds, tells_adds, wire_adds}
use Rattle.net_paths.specs.declared.ids.IdBlock.{IdBlock}
use Rattle.net_queue.specs.Rows.{row_widths}
use Rattle.net_crossbar.specs.Rests.{HaveOpcodes, HasOpcode}
use Rattle.net_crossbar.specs.Wants.{AsksOwner, AsksRange, HaveField}
use Rattle.net_crossbar.proofs.Lists.{all_lifted, read_here}

pub owner_adds : (old new : Built) (slaves : List Slave) (valid address w : Wire) → Adds old new → AsksOwner old slaves valid address w → AsksOwner new slaves valid address w
owner_adds old new slaves valid address w g h = record { bit = bit_adds old new w g h.bit; tells = tells_adds old new w _ g h.tells }

pub range_adds : (old new : Built) (block : IdBlock) (valid id w : Wire) → Adds old new → AsksRange old block valid id w → AsksRange new block valid id w
range_adds old new block valid id w g h = record { bit = bit_adds old new w g h.bit; tells = λ range i. tells_adds old new w _ g (h.tells range i) }

-- the wire at a place of a row
pub field_here : (old new : Built) (n : ℕ) (rows : List (List Wire)) (place : ℕ) (row x : List Wire) → place < length rows → row ≡ x → x ≡ get_or rows place x → Adds old new → HaveField old n rows → IsWire new (get_or row n no_wire)
field_here old new n rows place row x l e f g h = subst (λ (ws : List Wire). IsWire new (get_or ws n no_wire)) (sym (read_here rows place row x [] l e f)) (wire_adds old new (get_or (get_or rows place []) n no_wire) g (h.at place [] l).wire)

pub owner_here : (b : Built) (slaves : List Slave) (valid w : Wire) (rows : List (List Wire)) (place : ℕ) (row x : List Wire) → place < length rows → row ≡ x → x ≡ get_or rows place x → AsksOwner b slaves valid (get_or row 4 no_wire) w → AsksOwner b slaves valid (get_or (get_or rows place []) 4 no_wire) w
owner_here b slaves valid w rows place row x l e f h = subst (λ (ws : List Wire). AsksOwner b slaves valid (get_or ws 4 no_wire) w) (read_here rows place row x [] l e f) h

pub range_here : (b : Built) (block : IdBlock) (valid w : Wire) (rows : List (List Wire)) (place : ℕ) (row x : List Wire) → place < length rows → row ≡ x → x ≡ get_or rows place x → AsksRange b block valid (get_or row 2 no_wire) w → AsksRange b block valid (get_or (get_or rows place []) 2 no_wire) w
range_here b block valid w rows place row x l e f h = subst (λ (ws : List Wire). AsksRange b block valid (get_or ws 2 no_wire) w) (read_here rows place row x [] l e f) h

-- ---- rows that begin with an opcode

pub told_adds : (old new : Built) (row : List Wire) → Adds old new → HasOpcode old row → HasOpcode new row
told_adds old new row g h = record { long = h.long; wires = widths_later old new (row_widths row) row g.later h.wires; op = h.op }

pub all_told_adds : (old new : Built) (rows : List (List Wire)) → Adds old new → HaveOpcodes old rows → HaveOpcodes new rows
all_told_adds old new rows g h = all_lifted _ _ rows (λ k row i. told_adds old new row g i) h

pub told_here : (old new : Built) (rows : List (List Wire)) (place : ℕ) (row x : List Wire) → place < length rows → row ≡ x → x ≡ get_or rows place x → Adds old new → HaveOpcodes old rows → HasOpcode new row
told_here old new rows place row x l e f g h = subst (HasOpcode new) (sym (read_here rows place row x [] l e f)) (told_adds old new (get_or rows place []) g (h.at place [] l))
