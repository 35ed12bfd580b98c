-- The entries of a stimulus file: the top table is entry 0, then come the requests, the stalls and the devices, each in
-- file order; and the rules 2 and 3 of each of them.
use Rattle.std.specs.Prelude.{ℕ, ◌+◌, List, [], ◌∷◌, codes, Bool, not, is_none}
use Rattle.toml.specs.Data.{Data, Items, Members}
use Rattle.dip_lists.specs.First.{Check, check}
use Rattle.toml_shape.specs.Entries.{at_top, count, failing, tables_in}
use Rattle.toml_shape.specs.Shapes.{number_under}
use Rattle.soc_stimulus.specs.declared.tables.Part.{Part}
use Rattle.soc_stimulus.specs.declared.tables.Part.TheVariants.{Request, Stall, Device}
use Rattle.soc_stimulus.specs.declared.passes.Pass.{Pass}
use Rattle.soc_stimulus.specs.declared.passes.Pass.TheVariants.{Shape, Limits}
use Rattle.soc_stimulus.specs.Limits.{most_cycles}
use Rattle.soc_stimulus.specs.Shape.{stimulus_has_shape, table_has_shape}
use Rattle.soc_stimulus.specs.Stated.{is_beyond}

-- the tables of the requests
abbrev pub requests_in : Members → Items
requests_in = tables_in (codes "request")

-- the tables of the stalls
abbrev pub stalls_in : Members → Items
stalls_in = tables_in (codes "stall")

-- the tables of the devices
abbrev pub devices_in : Members → Items
devices_in = tables_in (codes "device")

-- the entry of the first stall: the top table and the requests stand before
abbrev pub first_stall : Members → ℕ
first_stall ms = 1 + count (requests_in ms)

-- the entry of the first device: the stalls stand before
abbrev pub first_device : Members → ℕ
first_device ms = first_stall ms + count (stalls_in ms)

-- what a table of a part, with its place among them, fails in a pass: its shape, or the limits
abbrev pub table_fails : Pass → Part → ℕ → Data → Bool
table_fails Shape part place d = not (table_has_shape part d)
table_fails Limits part place d = is_beyond part place d

-- what the top table fails in a pass
abbrev pub top_fails : Pass → Members → Bool
top_fails Shape ms = not (stimulus_has_shape ms)
top_fails Limits ms = is_none (number_under (codes "cycles") 0 most_cycles ms)

-- the rule of a pass
abbrev pub pass_rule : Pass → ℕ
pass_rule Shape = 2
pass_rule Limits = 3

-- the checks of a pass: of the top table, and then of each request, stall and device
abbrev pub checks_of_pass : Pass → Members → List Check
checks_of_pass pass ms =
    check (pass_rule pass) (at_top (top_fails pass ms))
    ∷ check (pass_rule pass) (failing (table_fails pass Request) 0 1 (requests_in ms))
    ∷ check (pass_rule pass) (failing (table_fails pass Stall) 0 (first_stall ms) (stalls_in ms))
    ∷ check (pass_rule pass) (failing (table_fails pass Device) 0 (first_device ms) (devices_in ms))
    ∷ []
