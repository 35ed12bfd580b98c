-- The name of a wire tells the node's name, the port and the field.
use Rattle.std.proofs.Common.{◌≡◌, ◌≢◌, ℕ, zero, suc, ◌+◌, ◌/◌, ◌%◌, ◌<◌, ◌≤◌, ◌^◌, ◌&&◌, ◌==◌, not, Bool, true, false, List, [], ◌∷◌, ◌++◌, length, take, drop, refl, sym, ap, ◌∙◌, subst, arith}
use Rattle.std.specs.Prelude.{codes, decimal}
use Rattle.std.specs.List.{list_all}
use Rattle.std.specs.Str.Parse.{digits_value}
use Rattle.std.proofs.lemmas.Fmt.{decimal_by_steps, decimal_is_IsNumeral}
use Rattle.std.proofs.lemmas.List.{append_assoc}
use Rattle.std.proofs.lemmas.List.Folds.{list_all-append}
use Rattle.tl_edge.specs.declared.plan.PlanPort.{PlanPort}
use Rattle.net_ports.specs.declared.field.Field.{Field}
use Rattle.net_ports.specs.declared.field.Field.TheVariants.{AReady, AValid, AOpcode, AParam, ASize, ASource, AAddress, AMask, AData, DReady, DValid, DOpcode, DSize, DSource, DDenied, DData}
use Rattle.net_ports.specs.Fields.{field_name}
use Rattle.net_ports.specs.Ports.{wire_name}

-- what isn't `_`
abbrev plain_byte : ℕ → Bool
plain_byte c = not (c == 95)

abbrev pub IsPlain : List ℕ → Type 0
IsPlain xs = list_all plain_byte xs ≡ true

and_right : (a b : Bool) → (a && b) ≡ true → b ≡ true
and_right true b e = e
and_right false b e = absurd (let x : false ≡ true = e in cc)

not_plain : (xs ys : List ℕ) → IsPlain (xs ++ 95 ∷ ys) → ⊥
not_plain xs ys e = let h : false ≡ true = and_right (list_all plain_byte xs) false (sym (list_all-append plain_byte xs (95 ∷ ys)) ∙ e) in cc

-- the last `_` parts a text in one way
record SameParts (xs ys us vs : List ℕ) : Type 0 where
  front : xs ≡ us
  back : ys ≡ vs

tail_same : (x y : ℕ) (xs ys : List ℕ) → x ∷ xs ≡ y ∷ ys → xs ≡ ys
tail_same x y xs ys e = cc

pub head_same : (x y : ℕ) (xs ys : List ℕ) → x ∷ xs ≡ y ∷ ys → x ≡ y
head_same x y xs ys e = cc

last_part : (xs ys us vs : List ℕ) → IsPlain ys → IsPlain vs → xs ++ 95 ∷ ys ≡ us ++ 95 ∷ vs → SameParts xs ys us vs
last_part [] ys [] vs p q e = record { front = refl; back = tail_same 95 95 ys vs e }
last_part [] ys (u ∷ us) vs p q e = absurd (not_plain us vs (subst IsPlain (tail_same 95 u ys (us ++ 95 ∷ vs) e) p))
last_part (x ∷ xs) ys [] vs p q e = absurd (not_plain xs ys (subst IsPlain (sym (tail_same x 95 (xs ++ 95 ∷ ys) vs e)) q))
last_part (x ∷ xs) ys (u ∷ us) vs p q e =
    let r = last_part xs ys us vs p q (tail_same x u (xs ++ 95 ∷ ys) (us ++ 95 ∷ vs) e) in
    record { front = ap (λ (n : ℕ). n ∷ xs) (head_same x u (xs ++ 95 ∷ ys) (us ++ 95 ∷ vs) e) ∙ ap (λ (ns : List ℕ). u ∷ ns) r.front; back = r.back }

-- ---- the parts of a name

digit_plain : (n : ℕ) → n < 10 → plain_byte (48 + n) ≡ true
digit_plain zero l = refl
digit_plain (suc zero) l = refl
digit_plain (suc (suc zero)) l = refl
digit_plain (suc (suc (suc zero))) l = refl
digit_plain (suc (suc (suc (suc zero)))) l = refl
digit_plain (suc (suc (suc (suc (suc zero))))) l = refl
digit_plain (suc (suc (suc (suc (suc (suc zero)))))) l = refl
digit_plain (suc (suc (suc (suc (suc (suc (suc zero))))))) l = refl
digit_plain (suc (suc (suc (suc (suc (suc (suc (suc zero)))))))) l = refl
digit_plain (suc (suc (suc (suc (suc (suc (suc (suc (suc zero))))))))) l = refl
digit_plain (suc (suc (suc (suc (suc (suc (suc (suc (suc (suc n)))))))))) l = absurd (omega (arith, l))

and_both : (a b : Bool) → a ≡ true → b ≡ true → (a && b) ≡ true
and_both a b e f = ap (λ (x : Bool). x && b) e ∙ f

digits_plain : (n : ℕ) → n < 2 ^ 64 → IsPlain (decimal n)
digits_plain n l =
    decimal_by_steps (λ n ds. list_all plain_byte ds ≡ true) (λ n k. and_both _ _ (digit_plain n k) refl)
    (λ n ds k h. list_all-append plain_byte ds ((48 + n % 10) ∷ []) ∙ and_both _ _ h (and_both _ _ (digit_plain (n % 10) (omega arith)) refl)) n l

decimal_told : (n m : ℕ) → n < 2 ^ 64 → m < 2 ^ 64 → decimal n ≡ decimal m → n ≡ m
decimal_told n m l k e = sym (decimal_is_IsNumeral n l).1 ∙ ap (digits_value 10) e ∙ (decimal_is_IsNumeral m k).1

-- a field's name: its channel, `_` and the rest
record Parts (field : Field) : Type 0 where
  is : field_name field ≡ take 1 (field_name field) ++ 95 ∷ drop 2 (field_name field)
  channel : IsPlain (take 1 (field_name field))
  rest : IsPlain (drop 2 (field_name field))

parts : (field : Field) → Parts field
parts AReady = record { is = refl; channel = refl; rest = refl }
parts AValid = record { is = refl; channel = refl; rest = refl }
parts AOpcode = record { is = refl; channel = refl; rest = refl }
parts AParam = record { is = refl; channel = refl; rest = refl }
parts ASize = record { is = refl; channel = refl; rest = refl }
parts ASource = record { is = refl; channel = refl; rest = refl }
parts AAddress = record { is = refl; channel = refl; rest = refl }
parts AMask = record { is = refl; channel = refl; rest = refl }
parts AData = record { is = refl; channel = refl; rest = refl }
parts DReady = record { is = refl; channel = refl; rest = refl }
parts DValid = record { is = refl; channel = refl; rest = refl }
parts DOpcode = record { is = refl; channel = refl; rest = refl }
parts DSize = record { is = refl; channel = refl; rest = refl }
parts DSource = record { is = refl; channel = refl; rest = refl }
parts DDenied = record { is = refl; channel = refl; rest = refl }
parts DData = record { is = refl; channel = refl; rest = refl }

abbrev grouped : List ℕ → List ℕ → List ℕ → List ℕ → List ℕ
grouped name digits channel rest = (((112 ∷ 95 ∷ name) ++ 95 ∷ digits) ++ 95 ∷ channel) ++ 95 ∷ rest

regrouped : (name digits channel rest : List ℕ) → 112 ∷ 95 ∷ (name ++ (95 ∷ (digits ++ (95 ∷ (channel ++ 95 ∷ rest))))) ≡ grouped name digits channel rest
regrouped name digits channel rest = simp append_assoc

name_grouped : (at : PlanPort) (field : Field) → wire_name at field ≡ grouped at.name (decimal at.port) (take 1 (field_name field)) (drop 2 (field_name field))
name_grouped at field = ap (λ (x : List ℕ). 112 ∷ 95 ∷ (at.name ++ (95 ∷ (decimal at.port ++ (95 ∷ x))))) (parts field).is ∙ regrouped at.name (decimal at.port) (take 1 (field_name field)) (drop 2 (field_name field))

-- two wires with one name
pub record SameWire (at other : PlanPort) (field label : Field) : Type 0 where
  pub name : at.name ≡ other.name
  pub port : at.port ≡ other.port
  pub told : field_name field ≡ field_name label

pub name_told : (at other : PlanPort) (field label : Field) → at.port < 64 → other.port < 64 → wire_name at field ≡ wire_name other label → SameWire at other field label
name_told at other field label l m e =
    let f = parts field in
    let g = parts label in
    let one = last_part _ (drop 2 (field_name field)) _ (drop 2 (field_name label)) f.rest g.rest (sym (name_grouped at field) ∙ e ∙ name_grouped other label) in
    let two = last_part ((112 ∷ 95 ∷ at.name) ++ 95 ∷ decimal at.port) (take 1 (field_name field)) ((112 ∷ 95 ∷ other.name) ++ 95 ∷ decimal other.port) (take 1 (field_name label)) f.channel g.channel one.front in
    let three = last_part (112 ∷ 95 ∷ at.name) (decimal at.port) (112 ∷ 95 ∷ other.name) (decimal other.port) (digits_plain at.port (omega arith)) (digits_plain other.port (omega arith)) two.front in
    record {
      name = tail_same 95 95 at.name other.name (tail_same 112 112 (95 ∷ at.name) (95 ∷ other.name) three.front);
      port = decimal_told at.port other.port (omega arith) (omega arith) three.back;
      told = f.is ∙ ap (λ (x : List ℕ). x ++ 95 ∷ drop 2 (field_name field)) two.back ∙ ap (λ (x : List ℕ). take 1 (field_name label) ++ 95 ∷ x) one.back ∙ sym g.is;
    }
