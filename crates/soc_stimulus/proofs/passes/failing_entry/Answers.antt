use Rattle.std.proofs.Common.{ℕ, ◌≡◌, ◌∙◌, List, [], ◌∷◌, Bool, false, Option, Some, None, refl, sym}
use Rattle.std.specs.Option.{option_map}
use Rattle.toml.specs.Data.{Items}
use Rattle.dip_lists.specs.First.{check, first, first_failing, failure_of}
use Rattle.toml_shape.specs.Entries.{at_top, failing}
use Rattle.soc_stimulus.specs.declared.passes.Pass.{Pass}
use Rattle.soc_stimulus.specs.declared.tables.Part.{Part}
use Rattle.soc_stimulus.specs.declared.tables.Part.TheVariants.{Request, Stall, Device}
use Rattle.soc_stimulus.specs.Entries.{table_fails}
use Rattle.soc_stimulus.proofs.passes.failing_entry.Goals as goal

-- what is found among the tables of a part is the first of those that fail
first_of_part : (pass : Pass) (part : Part) (entry entry' : ℕ) (ds ds' : Items) (found : Option ℕ)
    → found ≡ first (failing (table_fails pass part) 0 entry ds) → entry ≡ entry' → ds ≡ ds'
    → first (failing (table_fails pass part) 0 entry' ds') ≡ found
first_of_part pass part entry entry' ds ds' found f e d = rw (f, e, d) refl

at_requests : (number : ℕ) (top : Bool) (requests stalls devices : List ℕ) (subject : ℕ) → top ≡ false → first requests ≡ Some subject
    → option_map (failure_of number) (Some subject)
    ≡ first_failing (check number (at_top top) ∷ check number requests ∷ check number stalls ∷ check number devices ∷ [])
at_requests number top requests stalls devices subject t m = rw (t, m) refl

at_stalls : (number : ℕ) (top : Bool) (requests stalls devices : List ℕ) (subject : ℕ) → top ≡ false → first requests ≡ None → first stalls ≡ Some subject
    → option_map (failure_of number) (Some subject)
    ≡ first_failing (check number (at_top top) ∷ check number requests ∷ check number stalls ∷ check number devices ∷ [])
at_stalls number top requests stalls devices subject t m n = rw (t, m, n) refl

at_devices : (number : ℕ) (top : Bool) (requests stalls devices : List ℕ) (found : Option ℕ) → top ≡ false → first requests ≡ None → first stalls ≡ None
    → first devices ≡ found
    → option_map (failure_of number) found
    ≡ first_failing (check number (at_top top) ∷ check number requests ∷ check number stalls ∷ check number devices ∷ [])
at_devices number top requests stalls devices None t m n b = rw (t, m, n, b) refl
at_devices number top requests stalls devices (Some subject) t m n b = rw (t, m, n, b) refl

pub returns-in-Some : goal.returns-in-Some
returns-in-Some c =
    at_requests _ _ _ _ _ _ (sym c.top_fails.ensures ∙ c.if-top_fails.false)
    (first_of_part c.args.pass Request 1 1 _ _ _ c.first_to_fail.ensures refl c.tables_in.ensures ∙ c.in-Some.is)

pub returns-in-Some-first_to_fail : goal.returns-in-Some-first_to_fail
returns-in-Some-first_to_fail c =
    at_stalls _ _ _ _ _ _ (sym c.top_fails.ensures ∙ c.if-top_fails.false)
    (first_of_part c.args.pass Request 1 1 _ _ _ c.first_to_fail.ensures refl c.tables_in.ensures ∙ c.in_default.is)
    (first_of_part c.args.pass Stall _ _ _ _ _ c.first_to_fail-2.ensures c.first_stall-stall.ensures.value c.tables_in-2.ensures ∙ c.in-Some-first_to_fail.is)

pub returns : goal.returns
returns c =
    at_devices _ _ _ _ _ _ (sym c.top_fails.ensures ∙ c.if-top_fails.false)
    (first_of_part c.args.pass Request 1 1 _ _ _ c.first_to_fail.ensures refl c.tables_in.ensures ∙ c.in_default.is)
    (first_of_part c.args.pass Stall _ _ _ _ _ c.first_to_fail-2.ensures c.first_stall-stall.ensures.value c.tables_in-2.ensures ∙ c.in_default-first_to_fail.is)
    (first_of_part c.args.pass Device _ _ _ _ _ c.first_to_fail-3.ensures c.first_device-device.ensures.value c.tables_in-3.ensures)
