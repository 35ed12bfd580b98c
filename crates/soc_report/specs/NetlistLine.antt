-- The line of a netlist.
use Rattle.std.specs.Prelude.{ℕ, List, ◌++◌, length, codes, decimal}
use Rattle.net_cells.specs.declared.netlist.Netlist.{Netlist}

-- how many there are of something
abbrev pub count_of : List ℕ → ℕ → List ℕ
count_of word count = codes " " ++ word ++ codes " " ++ decimal count

-- the name of the module, and how many inputs, outputs, registers and cells it has
unfoldable pub netlist_line : Netlist → List ℕ
netlist_line n =
    codes "module " ++ n.name ++ count_of (codes "inputs") (length n.inputs)
    ++ count_of (codes "outputs") (length n.outputs) ++ count_of (codes "registers") (length n.regs)
    ++ count_of (codes "cells") (length n.cells) ++ codes "\n"
