-- Folds over wires.
use Rattle.std.specs.Prelude.{◌≡◌, ℕ, ◌<◌, Bool, false, not, ◌&&◌, ◌||◌, List, [], ◌∷◌, length, slice_index_or, take, if◌then◌else◌, All}
use Rattle.std.specs.List.{list_any}
use Rattle.net_build.specs.declared.types.Wire.{Wire}
use Rattle.net_build.specs.Built.{Built, IsWire}
use Rattle.net_build.specs.Values.{high}

-- the bits of a row that are the first one that is true, where one before the row was or wasn't
abbrev pub firsts_of : Bool → List Bool → List Bool
firsts_of seen [] = []
firsts_of seen (bit ∷ bits) = (bit && not seen) ∷ firsts_of (seen || bit) bits

-- Each of the firsts of a row is true exactly where that bit of the row is, and none before it.
abbrev pub FirstsAreFirst : Type 0
FirstsAreFirst =
    (seen : Bool) (bits : List Bool) (k : ℕ) → k < length bits
    → slice_index_or (firsts_of seen bits) k false
    ≡ (slice_index_or bits k false && not (seen || list_any (λ bit. bit) (take k bits)))

-- the value of the first pick that is 1, and 0 where none is
abbrev pub chosen : (ℕ → ℕ) → List Wire → List Wire → ℕ
chosen v [] values = 0
chosen v (pick ∷ picks) [] = 0
chosen v (pick ∷ picks) (value ∷ values) = if high v pick then v value.number else chosen v picks values

-- the width of the first
abbrev pub first_width : List Wire → ℕ
first_width [] = 0
first_width (w ∷ ws) = w.width

-- wires of the builder, all of one width
abbrev pub AreOfOneWidth : Built → List Wire → Type 0
AreOfOneWidth b ws = All (λ (w : Wire). IsWire b w × (w.width ≡ first_width ws)) ws
