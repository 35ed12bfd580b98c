use Rattle.std.proofs.Common.{ℕ, ◌≡◌, ◌∙◌, List, [], ◌∷◌, Bool, true, not, Option, Some, None, refl, sym}
use Rattle.std.specs.Option.{option_map}
use Rattle.toml.specs.Data.{Items}
use Rattle.dip_lists.specs.First.{check, first, first_failing, failure_of}
use Rattle.soc_design.specs.declared.shape.Part.{Part}
use Rattle.soc_design.specs.declared.shape.Part.TheVariants.{Module, Node, Bind}
use Rattle.soc_design.specs.Shape.{part_has_shape}
use Rattle.soc_design.proofs.shape.misshapen_entry.Goals as goal
use Rattle.toml_shape.specs.Entries.{at_top, failing}

-- what is found among the tables of a part is the first of those that fail
first_of_part : (part : Part) (entry entry' : ℕ) (ds ds' : Items) (found : Option ℕ)
    → found ≡ first (failing (λ place d. not (part_has_shape part d)) 0 entry ds) → entry ≡ entry' → ds ≡ ds'
    → first (failing (λ place d. not (part_has_shape part d)) 0 entry' ds') ≡ found
first_of_part part entry entry' ds ds' found f e d = rw (f, e, d) refl

at_modules : (top : Bool) (modules nodes binds : List ℕ) (subject : ℕ) → top ≡ true → first modules ≡ Some subject
    → option_map (failure_of 2) (Some subject)
    ≡ first_failing (check 2 (at_top (not top)) ∷ check 2 modules ∷ check 2 nodes ∷ check 2 binds ∷ [])
at_modules top modules nodes binds subject t m = rw (t, m) refl

at_nodes : (top : Bool) (modules nodes binds : List ℕ) (subject : ℕ) → top ≡ true → first modules ≡ None → first nodes ≡ Some subject
    → option_map (failure_of 2) (Some subject)
    ≡ first_failing (check 2 (at_top (not top)) ∷ check 2 modules ∷ check 2 nodes ∷ check 2 binds ∷ [])
at_nodes top modules nodes binds subject t m n = rw (t, m, n) refl

at_binds : (top : Bool) (modules nodes binds : List ℕ) (found : Option ℕ) → top ≡ true → first modules ≡ None → first nodes ≡ None → first binds ≡ found
    → option_map (failure_of 2) found
    ≡ first_failing (check 2 (at_top (not top)) ∷ check 2 modules ∷ check 2 nodes ∷ check 2 binds ∷ [])
at_binds top modules nodes binds None t m n b = rw (t, m, n, b) refl
at_binds top modules nodes binds (Some subject) t m n b = rw (t, m, n, b) refl

pub returns-in-Some : goal.returns-in-Some
returns-in-Some c =
    at_modules _ _ _ _ _ (sym c.if-not-top_has_shape.ensures)
    (first_of_part Module 1 1 _ _ _ c.first_misshapen.ensures refl c.tables_in.ensures ∙ c.in-Some.is)

pub returns-in-Some-first_misshapen : goal.returns-in-Some-first_misshapen
returns-in-Some-first_misshapen c =
    at_nodes _ _ _ _ _ (sym c.if-not-top_has_shape.ensures)
    (first_of_part Module 1 1 _ _ _ c.first_misshapen.ensures refl c.tables_in.ensures ∙ c.in_default.is)
    (first_of_part Node _ _ _ _ _ c.first_misshapen-2.ensures c.first_node-node_entry.ensures.value c.tables_in-2.ensures ∙ c.in-Some-first_misshapen.is)

pub returns : goal.returns
returns c =
    at_binds _ _ _ _ _ (sym c.if-not-top_has_shape.ensures)
    (first_of_part Module 1 1 _ _ _ c.first_misshapen.ensures refl c.tables_in.ensures ∙ c.in_default.is)
    (first_of_part Node _ _ _ _ _ c.first_misshapen-2.ensures c.first_node-node_entry.ensures.value c.tables_in-2.ensures ∙ c.in_default-first_misshapen.is)
    (first_of_part Bind _ _ _ _ _ c.first_misshapen-3.ensures c.first_bind-bind_entry.ensures.value c.tables_in-3.ensures)
