-- What the bytes of a design file call for where a netlist is to be built.
use Rattle.std.specs.Prelude.{ℕ, ◌≡◌, List, [], ◌++◌, Option, Some, None, Ok}
use Rattle.dip_lists.specs.First.{Check, Failure, first_failing}
use Rattle.dip_graph.specs.declared.design.Design.{Design}
use Rattle.dip_rule.specs.Stated.{StatedRule}
use Rattle.net_cells.specs.declared.netlist.Netlist.{Netlist}
use Rattle.ver_text.specs.Reading.{read_text}
use Rattle.ver_text.specs.Spelling.{layout}
use Rattle.ver_text.specs.TextLaw.{Spells}
use Rattle.soc_build.specs.Netlists.{build_checks, IsNetlistOf}
use Rattle.soc_design.specs.Reading.{file_checks, stated_design}

-- the checks 5 to 19 of a design that a file states
abbrev pub build_checks_of : List StatedRule → Option Design → List Check
build_checks_of rules None = []
build_checks_of rules (Some design) = build_checks rules design

-- the checks 1 to 19 of a file, in their order, by the rules that are handed in
abbrev pub checks_to_build : List StatedRule → List ℕ → List Check
checks_to_build rules bytes = file_checks bytes ++ build_checks_of rules (stated_design bytes)

-- the first of them that a file fails, and where
unfoldable pub build_failure : List StatedRule → List ℕ → Option Failure
build_failure rules bytes = first_failing (checks_to_build rules bytes)

-- a netlist of the design that a file states, which implements the plan of its only solution
pub record IsNetlistOfFile (rules : List StatedRule) (bytes : List ℕ) (netlist : Netlist) : Type 0 where
  pub design : Design
  pub stated : stated_design bytes ≡ Some design
  pub made : IsNetlistOf rules design netlist

-- a text of such a netlist, in the one layout: it spells the netlist, and is read back as the very same
pub record IsVerilogOf (rules : List StatedRule) (bytes : List ℕ) (netlist : Netlist) (text : List ℕ) : Type 0 where
  pub stated : IsNetlistOfFile rules bytes netlist
  pub laid_out : text ≡ layout netlist
  pub spells : Spells text netlist
  pub read : read_text text ≡ Ok netlist
