-- What the test of a table's keys means.
use Rattle.std.specs.Prelude.{◌≡◌, ℕ, List, Contains, IsTrue, Some}
use Rattle.toml.specs.Data.{Data, Members, get_member}
use Rattle.toml_shape.specs.Shapes.{keys_among}

-- where each key of a table is among some, whatever stands in the table stands under one of them
abbrev pub KeysLaw : Type 0
KeysLaw =
    (keys : List (List ℕ)) (ms : Members) → IsTrue (keys_among keys ms)
    → (key : List ℕ) (d : Data) → get_member key ms ≡ Some d → Contains keys key
