-- Numbers under names: what a map keeps after one more, and that names are new one after another where they differ.
use Rattle.std.proofs.Common.{ℕ, ◌≡◌, List, [], ◌∷◌, map, Bool, true, false, Option, Some, refl, sym, ap, ◌∙◌, subst, inl, inr}
use Rattle.std.specs.Prelude.{Vec}
use Rattle.std.specs.declared.alloc.Global.{Global}
use Rattle.std.specs.Map.{update, lookup, KeepsOthers, IsKeyTest, AreApart}
use Rattle.std.specs.Ordering.{is_eq, nat_cmp}
use Rattle.std.specs.Cmp.{eq_by_cmp_equiv}
use Rattle.std.specs.Cmp.Lexicographic.{slice_cmp, nat_list_cmp_total, nat_list_eq_equiv}
use Rattle.std.specs.Str.{bytes_eq}
use Rattle.std.specs.BTreeMap.{BTreeMap, UpdatesBy, get_by, is_at}
use Rattle.std.proofs.lemmas.Bool.{cases_Bool, cond-true, cond-false}
use Rattle.std.proofs.lemmas.Map.Text.{is_eq-slice_cmp}
use Rattle.std.proofs.lemmas.Slice.Eq.{bytes_eq-Decides}
use mathlib.Core.Path.{fun_ext}
use Rattle.net_cells.specs.NameTables.{names_with_numbers, number_in, with_number}

apart : (bs cs ks : List ℕ) → bytes_eq bs cs ≡ false → bytes_eq bs ks ≡ true → bytes_eq cs ks ≡ false
apart bs cs ks n y = nat_list_eq_equiv.symm cs ks ∙ sym (nat_list_eq_equiv.congr bs ks cs y) ∙ n

apart_in_order : (bs cs ks : List ℕ) → bytes_eq bs cs ≡ false → is_eq (slice_cmp nat_cmp bs ks) ≡ true → is_eq (slice_cmp nat_cmp cs ks) ≡ false
apart_in_order bs cs ks n y = is_eq-slice_cmp cs ks ∙ apart bs cs ks n (sym (is_eq-slice_cmp bs ks) ∙ y)

others : {K X : Type 0} (eq : K → K → Bool) (test : K → Bool) (old new : List (K × X)) → KeepsOthers eq test old new → (other : K → Bool) → IsKeyTest eq other → AreApart test other → lookup other new ≡ lookup other old
unfolding KeepsOthers
others eq test old new h = h

by_name : (f g : List ℕ → Option ℕ) (name : List ℕ) (w : Option ℕ) → g name ≡ w → ((other : List ℕ) → bytes_eq name other ≡ false → g other ≡ f other) → (other : List ℕ) → g other ≡ update bytes_eq f name w other
by_name f g name w here apart other =
    elim (cases_Bool (bytes_eq name other)) [
      | inl is ↦ subst (λ l. g l ≡ w) ((bytes_eq-Decides name other).0 is) here ∙ sym (cond-true (bytes_eq name other) w (f other) is)
      | inr isnt ↦ apart other isnt ∙ sym (cond-false (bytes_eq name other) w (f other) isnt)
    ]

in_entries : (name : List ℕ) (es : List (Vec ℕ Global × ℕ))
    → number_in (map (λ (e : Vec ℕ Global × ℕ). (e.0.items, e.1)) es) name ≡ lookup (is_at (λ (k : Vec ℕ Global). slice_cmp nat_cmp name k.items)) es
in_entries name [] = refl
in_entries name (e ∷ es) = rw (is_eq-slice_cmp name e.0.items, in_entries name es) refl

-- what the map keeps under a name
pub number_is : (numbers : BTreeMap (Vec ℕ Global) ℕ) (name : List ℕ) → number_in (names_with_numbers numbers) name ≡ get_by (λ (k : Vec ℕ Global). slice_cmp nat_cmp name k.items) numbers
number_is numbers name = in_entries name numbers.entries

-- after one more name the map keeps its number, and under the others what it kept
pub set_number : (old new : BTreeMap (Vec ℕ Global) ℕ) (key : Vec ℕ Global) (name : List ℕ) (number : ℕ) → key.items ≡ name
    → UpdatesBy (λ (x y : Vec ℕ Global). slice_cmp nat_cmp x.items y.items) (λ (k : Vec ℕ Global). slice_cmp nat_cmp key.items k.items) old new (Some number)
    → number_in (names_with_numbers new) ≡ with_number (number_in (names_with_numbers old)) name number
set_number old new key name number e h =
    subst (λ n. number_in (names_with_numbers new) ≡ with_number (number_in (names_with_numbers old)) n number) e
    (fun_ext (by_name (number_in (names_with_numbers old)) (number_in (names_with_numbers new)) key.items (Some number) (number_is new key.items ∙ h.1)
    (λ other apart. number_is new other
    ∙ others _ _ _ _ h.3 _
    (λ (x y : Vec ℕ Global). (eq_by_cmp_equiv nat_list_cmp_total).congr other x.items y.items)
    (λ (k : Vec ℕ Global). apart_in_order key.items other k.items apart)
    ∙ sym (number_is old other))))

-- ---- the same, where what a table shows is told by an equation

pub number_told : (numbers : BTreeMap (Vec ℕ Global) ℕ) (now : List (List ℕ × ℕ)) (name : List ℕ) (found : Option ℕ)
    → found ≡ get_by (λ (k : Vec ℕ Global). slice_cmp nat_cmp name k.items) numbers → names_with_numbers numbers ≡ now → found ≡ number_in now name
number_told numbers now name found f e = f ∙ sym (number_is numbers name) ∙ ap (λ es. number_in es name) e

pub set_told : (old new : BTreeMap (Vec ℕ Global) ℕ) (now : List (List ℕ × ℕ)) (key : Vec ℕ Global) (name : List ℕ) (number : ℕ) → key.items ≡ name → names_with_numbers old ≡ now
    → UpdatesBy (λ (x y : Vec ℕ Global). slice_cmp nat_cmp x.items y.items) (λ (k : Vec ℕ Global). slice_cmp nat_cmp key.items k.items) old new (Some number)
    → number_in (names_with_numbers new) ≡ with_number (number_in now) name number
set_told old new now key name number e f h = set_number old new key name number e h ∙ ap (λ es. with_number (number_in es) name number) f
