-- The entries of a file, and those at which something fails: the top table is entry 0, and the tables of its arrays
-- come behind it, each in file order.
use Rattle.std.specs.Prelude.{ℕ, ◌+◌, List, [], ◌∷◌, length, Bool, ◌&&◌, cond, nat_le, Option, Some, None, unwrap_or}
use Rattle.std.specs.Option.{option_map}
use Rattle.toml.specs.Data.{Data, Items, no_items, item, Members}
use Rattle.toml_shape.specs.Shapes.{tables_under}

-- the tables of the array under a key, none where there is no such array
abbrev pub tables_in : List ℕ → Members → Items
tables_in key ms = unwrap_or (tables_under key ms) no_items

-- how many items there are
abbrev pub count : Items → ℕ
count no_items = 0
count (item d ds) = 1 + count ds

-- ---- where something fails

-- entry 0, where something fails there
abbrev pub at_top : Bool → List ℕ
at_top fails = cond fails (0 ∷ []) []

-- the entries of the items at which a test fails; the test sees an item's place among its kind and its data
abbrev pub failing : (ℕ → Data → Bool) → ℕ → ℕ → Items → List ℕ
failing fails place entry no_items = []
failing fails place entry (item d ds) =
    cond (fails place d) (entry ∷ failing fails (place + 1) (entry + 1) ds) (failing fails (place + 1) (entry + 1) ds)

-- a table past the allowed number
abbrev pub is_past : ℕ → ℕ → Data → Bool
is_past most place d = nat_le most place

-- ---- what items state

-- what an item states before what the rest does, where both state something
abbrev pub before : {A : Type 0} → Option A → Option (List A) → Option (List A)
before None rest = None
before (Some x) rest = option_map (λ xs. x ∷ xs) rest

-- what the items of an array state, where each states something
abbrev pub all_of : {A : Type 0} → (Data → Option A) → Items → Option (List A)
all_of states no_items = Some []
all_of states (item d ds) = before (states d) (all_of states ds)

-- the same, where what an item states depends on its place
abbrev pub each_of : {A : Type 0} → (ℕ → Data → Option A) → ℕ → Items → Option (List A)
each_of states place no_items = Some []
each_of states place (item d ds) = before (states place d) (each_of states (place + 1) ds)

-- a list with so many items
abbrev pub of_length : {A : Type 0} → ℕ → ℕ → List A → Option (List A)
of_length least most xs = cond (nat_le least (length xs) && nat_le (length xs) most) (Some xs) None
