-- Rows of flags, and gates at each of their places.
use Rattle.std.specs.Prelude.{Bool, not, ◌&&◌, ◌||◌, List, [], ◌∷◌}
use Rattle.std.specs.List.{list_any}
use Rattle.net_choice.specs.declared.rows.Pairing.{Pairing}
use Rattle.net_choice.specs.declared.rows.Pairing.TheVariants.{Both, Either, Without}

-- two flags made one
abbrev pub paired : Pairing → Bool → Bool → Bool
paired Both x y = x && y
paired Either x y = x || y
paired Without x y = x && not y

-- the flags at each place of two rows made one
abbrev pub pairs : (Bool → Bool → Bool) → List Bool → List Bool → List Bool
pairs f [] ys = []
pairs f (x ∷ xs) [] = []
pairs f (x ∷ xs) (y ∷ ys) = f x y ∷ pairs f xs ys

-- one of the flags is set
abbrev pub any_of : List Bool → Bool
any_of flags = list_any (λ (flag : Bool). flag) flags

-- for each flag whether an earlier one is set, where one before the row was or wasn't
abbrev pub behind_of : Bool → List Bool → List Bool
behind_of seen [] = []
behind_of seen (x ∷ xs) = seen ∷ behind_of (seen || x) xs
