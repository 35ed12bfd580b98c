-- The rule of a cell as a test.
use Rattle.std.specs.Prelude.{ℕ, ◌+◌, ◌-◌, ◌^◌, ◌==◌, List, length, slice_index, Bool, ◌&&◌, nat_le, nat_lt}
use Rattle.net_cells.specs.declared.netlist.CellOp.{CellOp}
use Rattle.net_cells.specs.declared.netlist.CellOp.TheVariants.{Const, Not, And, Or, Xor, Add, Sub, Eq, Less, Mux, Concat, Select}

-- the net exists
abbrev pub is_net : List ℕ → ℕ → Bool
is_net ws x = nat_lt x (length ws)

-- the net exists and has this width
abbrev pub has_width : List ℕ → ℕ → ℕ → Bool
has_width ws x width = is_net ws x && (slice_index ws x == width)

-- both nets exist and have this width
abbrev pub have_width : List ℕ → ℕ → ℕ → ℕ → Bool
have_width ws x y width = has_width ws x width && has_width ws y width

-- both nets exist and have one width
abbrev pub have_one_width : List ℕ → ℕ → ℕ → Bool
have_one_width ws x y = is_net ws x && is_net ws y && (slice_index ws x == slice_index ws y)

-- among nets of these widths, a cell of so many bits has this operator
abbrev pub is_cell : List ℕ → ℕ → CellOp → Bool
is_cell ws width (Const value) = nat_lt value (2 ^ width)
is_cell ws width (Not x) = has_width ws x width
is_cell ws width (And x y) = have_width ws x y width
is_cell ws width (Or x y) = have_width ws x y width
is_cell ws width (Xor x y) = have_width ws x y width
is_cell ws width (Add x y) = have_width ws x y width
is_cell ws width (Sub x y) = have_width ws x y width
is_cell ws width (Eq x y) = (width == 1) && have_one_width ws x y
is_cell ws width (Less x y) = (width == 1) && have_one_width ws x y
is_cell ws width (Mux c x y) = has_width ws c 1 && have_width ws x y width
is_cell ws width (Concat x y) = is_net ws x && is_net ws y && (slice_index ws x + slice_index ws y == width)
is_cell ws width (Select x hi lo) =
    is_net ws x && nat_lt hi (slice_index ws x) && nat_le lo hi && (width == hi - lo + 1)
