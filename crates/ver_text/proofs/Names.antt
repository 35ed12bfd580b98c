-- Bytes of names are text.
use Rattle.std.proofs.Common.{ℕ, ◌≡◌, ◌<◌, List, [], ◌∷◌, Bool, true, false, ◌&&◌, refl, arith}
use Rattle.std.specs.List.{list_all}
use Rattle.std.specs.Str.{IsUtf8, IsAscii}
use Rattle.std.specs.Prelude.{nat_le, length}
use Rattle.std.proofs.lemmas.Bool.Decides.{nat_tests}
use Rattle.std.proofs.lemmas.Str.{IsUtf8-from_ascii}
use Rattle.std.proofs.lemmas.Str.Ascii.{IsAscii-nil, IsAscii-cons}
use Rattle.dip_lists.proofs.Tests.{both}
use Rattle.dip_sets.specs.Names.{is_name, is_name_byte, begins_with_letter}

name_byte : (c : ℕ) → is_name_byte c ≡ true → c < 128
name_byte c h = grind (arith, nat_tests)

all_ascii : (cs : List ℕ) → list_all is_name_byte cs ≡ true → IsAscii cs
all_ascii [] h = IsAscii-nil
all_ascii (c ∷ cs) h = let b = both (is_name_byte c) (list_all is_name_byte cs) h in IsAscii-cons c cs (name_byte c b.0) (all_ascii cs b.1)

pub name_ascii : (cs : List ℕ) → is_name cs ≡ true → IsAscii cs
name_ascii cs h = all_ascii cs (both (begins_with_letter cs && nat_le (length cs) 64) (list_all is_name_byte cs) h).1

no_name : (cs : List ℕ) (b : Bool) → is_name cs ≡ b → (IsUtf8 cs → ⊥) → is_name cs ≡ false
no_name cs true e n = absurd (n (IsUtf8-from_ascii cs (name_ascii cs e)))
no_name cs false e n = e

-- what isn't text is no name
pub name_is_text : (cs : List ℕ) → (IsUtf8 cs → ⊥) → is_name cs ≡ false
name_is_text cs n = no_name cs (is_name cs) refl n
