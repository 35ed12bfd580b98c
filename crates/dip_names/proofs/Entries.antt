-- What the map finds, beside the names of its keys.
use Rattle.std.proofs.Common.{ℕ, ◌≡◌, ◌+◌, List, [], ◌∷◌, ◌++◌, Bool, true, false, cond, ◌||◌, Option, Some, is_some, ap, refl, sym, ◌∙◌, String, string_bytes, Global}
use Rattle.std.specs.Prelude.{position}
use Rattle.std.specs.List.{list_any, position_from}
use Rattle.std.specs.Str.{bytes_eq}
use Rattle.std.specs.String.{string_eq}
use Rattle.std.specs.Map.{lookup, keys_of}
use Rattle.std.proofs.lemmas.Iterator.Adapters.{position_from-zero}
use Rattle.indexmap.specs.IndexMap.{insert_entry}
use Rattle.dip_names.specs.Numbers.{texts}

abbrev pub Entry : Type 0
Entry = String Global × ℕ

-- one entry more
found_step : (b : Bool) (v : ℕ) (r : Option ℕ) (a : Bool) → is_some r ≡ a → is_some (cond b (Some v) r) ≡ (b || a)
found_step true v r a h = refl
found_step false v r a h = h

pub found : (es : List Entry) (name : List ℕ) → is_some (lookup (λ k. bytes_eq name (string_bytes k)) es) ≡ list_any (bytes_eq name) (texts (keys_of es))
found [] name = refl
found (e ∷ es) name = found_step (bytes_eq name (string_bytes e.0)) e.1 _ _ (found es name)

place_from : (ks : List (String Global)) (name : List ℕ) (i : ℕ) → position_from (λ k. bytes_eq name (string_bytes k)) i ks ≡ position_from (bytes_eq name) i (texts ks)
place_from [] name i = refl
place_from (k ∷ ks) name i = rw (← place_from ks name (i + 1)) refl

pub place : (ks : List (String Global)) (name : List ℕ) → position (λ k. bytes_eq name (string_bytes k)) ks ≡ position (bytes_eq name) (texts ks)
place ks name =
    position_from-zero (λ k. bytes_eq name (string_bytes k)) ks ∙ place_from ks name 0 ∙ sym (position_from-zero (bytes_eq name) (texts ks))

-- a key that is not there goes last
added_step : (b : Bool) (k : String Global) (v w : ℕ) (key : String Global) (es es' : List Entry) (rest : List (List ℕ)) → (b || list_any (bytes_eq (string_bytes k)) rest) ≡ false
    → texts (keys_of es') ≡ texts (keys_of es) ++ string_bytes k ∷ []
    → texts (keys_of (cond b ((key, w) ∷ es) ((key, v) ∷ es'))) ≡ string_bytes key ∷ (texts (keys_of es) ++ string_bytes k ∷ [])
added_step true k v w key es es' rest h e = (cc)
added_step false k v w key es es' rest h e = ap (λ t. string_bytes key ∷ t) e

or_false : (a b : Bool) → (a || b) ≡ false → b ≡ false
or_false true b h = (cc)
or_false false b h = h

pub added : (es : List Entry) (k : String Global) (v : ℕ) → list_any (bytes_eq (string_bytes k)) (texts (keys_of es)) ≡ false
    → texts (keys_of (insert_entry string_eq es k v)) ≡ texts (keys_of es) ++ string_bytes k ∷ []
added [] k v h = refl
added (e ∷ es) k v h = added_step (bytes_eq (string_bytes k) (string_bytes e.0)) k e.1 v e.0 es (insert_entry string_eq es k v) (texts (keys_of es)) h
    (added es k v (or_false (bytes_eq (string_bytes k) (string_bytes e.0)) _ h))
