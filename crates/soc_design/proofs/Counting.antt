-- Headings with nodes, and names by their tables.
use Rattle.std.proofs.Common.{ℕ, ◌≡◌, ◌≤◌, ◌+◌, List, [], ◌∷◌, length, false, ◌||◌, ◌==◌, nat_le, Option, Some, None, is_none, refl, sym, ◌∙◌, ap, arith}
use Rattle.std.proofs.lemmas.Bool.Decides.{nat_tests}
use Rattle.toml.specs.declared.value.Value.{Value}
use Rattle.toml.specs.Data.{Items, no_items, item}
use Rattle.toml.specs.View.{items_view}
use Rattle.dip_lists.specs.First.{first}
use Rattle.soc_design.specs.declared.limits.Heading.{Heading}
use Rattle.soc_design.specs.Stated.{names_at}
use Rattle.toml_shape.specs.Entries.{at_top, count}
use Rattle.toml_shape.proofs.Counting.{count-items_view}

some_not_none : (n : ℕ) → nat_le (1 + n) 0 ≡ false
some_not_none n = grind (arith, nat_tests)

-- a heading, and at least one node
pub top_passes : (found : Option Heading) (heading : Heading) (values : List Value) (ds : Items) → found ≡ Some heading → items_view values ≡ ds → false ≡ (length values == 0)
    → first (at_top (is_none found || nat_le (count ds) 0)) ≡ None
top_passes found heading [] ds e d h = (cc)
top_passes found heading (v ∷ values) ds e d h = rw (e, ← d, some_not_none (count (items_view values))) refl

-- as many names as nodes
pub count-names_at : (ds : Items) → length (names_at ds) ≡ count ds
count-names_at no_items = refl
count-names_at (item d ds) = let rest : length (names_at ds) ≡ count ds = count-names_at ds in omega arith

-- at least one node
pub some_there : (values : List Value) (ds : Items) → items_view values ≡ ds → false ≡ (length values == 0) → 1 ≤ count ds
some_there [] ds e h = (cc)
some_there (v ∷ values) ds e h = rw (← e) (omega arith)
