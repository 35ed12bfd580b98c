-- What stands in a table whose keys are among some stands under one of them.
use Rattle.std.proofs.Common.{◌≡◌, ℕ, Ordering, Less, Equal, Greater, nat_cmp, is_eq, List, true, IsTrue, Some, refl, sym, ap, subst, ◌∙◌}
use Rattle.std.specs.Prelude.{Contains}
use Rattle.std.specs.List.{list_any}
use Rattle.std.specs.Ordering.{match_ordering}
use Rattle.std.specs.Str.{bytes_eq}
use Rattle.std.specs.Cmp.Lexicographic.{slice_cmp}
use Rattle.std.proofs.lemmas.Map.Text.{is_eq-slice_cmp}
use Rattle.std.proofs.lemmas.Map.Views.{Contains-from_any}
use Rattle.std.proofs.lemmas.Slice.Eq.{bytes_eq-Decides}
use Rattle.dip_lists.proofs.Tests.{both}
use Rattle.toml.specs.Data.{no_members, member, get_member}
use Rattle.toml_shape.specs.Shapes.{keys_among}
use Rattle.toml_shape.specs.KeysLaw.{KeysLaw}

same_key : (k l : List ℕ) → slice_cmp nat_cmp k l ≡ Equal → k ≡ l
same_key k l e = (bytes_eq-Decides k l).0 (sym (is_eq-slice_cmp k l) ∙ ap is_eq e)

listed : (keys : List (List ℕ)) (key : List ℕ) → list_any (bytes_eq key) keys ≡ true → Contains keys key
listed keys key h = Contains-from_any {eq = bytes_eq} (λ x y same. (bytes_eq-Decides x y).0 same) key keys h

pub among : KeysLaw
among keys no_members h key d e = absurd cc
among keys (member l c ms) h key d e = at (slice_cmp nat_cmp key l) refl e (among keys ms tests.1 key d)
  where
    tests : (list_any (bytes_eq l) keys ≡ true) × IsTrue (keys_among keys ms)
    tests = both (list_any (bytes_eq l) keys) (keys_among keys ms) h

    at : (o : Ordering) → slice_cmp nat_cmp key l ≡ o → match_ordering o (get_member key ms) (Some c) (get_member key ms) ≡ Some d
        → (get_member key ms ≡ Some d → Contains keys key) → Contains keys key
    at Less g e f = f e
    at Equal g e f = subst (λ x. Contains keys x) (sym (same_key key l g)) (listed keys l tests.0)
    at Greater g e f = f e
