-- A fault of one check beside those after it.
use Rattle.std.proofs.Common.{◌≡◌, ℕ, ap, Option, None, ◌∙◌, List, ◌++◌}
use Rattle.std.specs.Option.{option_or, option_map}
use Rattle.dip_lists.specs.First.{Check as CheckOf, Failure, failure_of, first_failing}
use Rattle.dip_lists.proofs.Firsts.{passes_first, fails_first}
use Rattle.dip_graph.specs.declared.fault.Fault.{Fault}
use Rattle.dip_graph.specs.declared.fault.Fault.TheVariants.{Check, Memory}
use Rattle.dip_graph.specs.Faults.{IsFaultOf}

-- the first that fails decides
pub decides : (found later : Option Failure) (fault : Fault) → IsFaultOf found fault → IsFaultOf (option_or found later) fault
decides found later (Check number subject) e = ap (λ o. option_or o later) e
decides found later Memory e = tt

-- where it passes, those after it decide
pub leaves : (number : ℕ) (found : Option ℕ) (later : Option Failure) (fault : Fault) → found ≡ None → IsFaultOf later fault → IsFaultOf (option_or (option_map (failure_of number) found) later) fault
leaves number found later (Check n subject) e h = ap (λ o. option_or (option_map (failure_of number) o) later) e ∙ h
leaves number found later Memory e h = tt

pub all_pass : (number : ℕ) (found : Option ℕ) (later : Option Failure) → found ≡ None → later ≡ None → option_or (option_map (failure_of number) found) later ≡ None
all_pass number found later e h = ap (λ o. option_or (option_map (failure_of number) o) later) e ∙ h

-- the same of lists of checks
pub in_first : (a b : List CheckOf) (fault : Fault) → IsFaultOf (first_failing a) fault → IsFaultOf (first_failing (a ++ b)) fault
in_first a b (Check number subject) e = fails_first a b _ e
in_first a b Memory e = tt

pub in_second : (a b : List CheckOf) (fault : Fault) → first_failing a ≡ None → IsFaultOf (first_failing b) fault → IsFaultOf (first_failing (a ++ b)) fault
in_second a b (Check number subject) e h = passes_first a b e ∙ h
in_second a b Memory e h = tt

pub both_pass : (a b : List CheckOf) → first_failing a ≡ None → first_failing b ≡ None → first_failing (a ++ b) ≡ None
both_pass a b e h = passes_first a b e ∙ h
