-- The first failure of checks in a row.
use Rattle.std.proofs.Common.{◌≡◌, List, [], ◌∷◌, ◌++◌, Option, Some, None, refl, ◌∙◌, ap}
use Rattle.std.specs.Option.{option_map, option_or}
use Rattle.dip_lists.specs.First.{Check, Failure, first, failure_of, first_failing}

or_assoc : (a b c : Option Failure) → option_or a (option_or b c) ≡ option_or (option_or a b) c
or_assoc None b c = refl
or_assoc (Some x) b c = refl

pub first_failing-append : (a b : List Check) → first_failing (a ++ b) ≡ option_or (first_failing a) (first_failing b)
first_failing-append [] b = refl
first_failing-append (check ∷ a) b =
    ap (λ later. option_or (option_map (failure_of check.number) (first check.failing)) later) (first_failing-append a b)
    ∙ or_assoc (option_map (failure_of check.number) (first check.failing)) (first_failing a) (first_failing b)

-- where the first of two lists passes, the second one decides
pub passes_first : (a b : List Check) → first_failing a ≡ None → first_failing (a ++ b) ≡ first_failing b
passes_first a b e = first_failing-append a b ∙ ap (λ o. option_or o (first_failing b)) e

-- where it fails, it decides
pub fails_first : (a b : List Check) (failure : Failure) → first_failing a ≡ Some failure → first_failing (a ++ b) ≡ Some failure
fails_first a b failure e = first_failing-append a b ∙ ap (λ o. option_or o (first_failing b)) e
