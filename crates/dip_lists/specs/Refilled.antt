-- A list that is written over and keeps its length.
use Rattle.std.specs.Prelude.{List, ◌++◌, length, take, drop}

-- items with others in place of their first ones; as many others as there are items take the place of all
abbrev pub refilled : {A : Type 0} → List A → List A → List A
refilled items others = take (length items) (others ++ drop (length others) items)
