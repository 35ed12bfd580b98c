-- The names of the wires of a port have the form of names.
use Rattle.std.proofs.Common.{◌≡◌, ℕ, zero, suc, ◌+◌, ◌/◌, ◌%◌, ◌<◌, ◌≤◌, ◌&&◌, Bool, true, false, List, [], ◌∷◌, ◌++◌, length, Option, Some, None, if◌then◌else◌, ◌^◌, refl, sym, ap, ◌∙◌, subst, arith}
use Rattle.std.specs.Prelude.{IsTrue, codes, decimal, nat_le}
use Rattle.std.specs.List.{list_all, starts_with}
use Rattle.std.proofs.lemmas.Bool.Decides.{nat_tests}
use Rattle.std.proofs.lemmas.Fmt.{decimal_by_steps, length-decimal-le}
use Rattle.std.proofs.lemmas.List.{length-append}
use Rattle.std.proofs.lemmas.List.Folds.{list_all-append}
use Rattle.dip_sets.specs.Names.{begins_with_letter, is_name, is_name_byte}
use Rattle.net_cells.specs.Rules.{IsNamed}
use Rattle.tl_edge.specs.declared.plan.PlanPort.{PlanPort}
use Rattle.tl_edge.specs.SoundPlans.{IsShort}
use Rattle.net_ports.specs.declared.field.Field.{Field}
use Rattle.net_ports.specs.declared.field.Field.TheVariants.{AReady, AValid, AOpcode, AParam, ASize, ASource, AAddress, AMask, AData, DReady, DValid, DOpcode, DSize, DSource, DDenied, DData}
use Rattle.net_ports.specs.Fields.{field_name}
use Rattle.net_ports.specs.Ports.{wire_name}

digit_byte : (n : ℕ) → n < 10 → is_name_byte (48 + n) ≡ true
digit_byte zero l = refl
digit_byte (suc zero) l = refl
digit_byte (suc (suc zero)) l = refl
digit_byte (suc (suc (suc zero))) l = refl
digit_byte (suc (suc (suc (suc zero)))) l = refl
digit_byte (suc (suc (suc (suc (suc zero))))) l = refl
digit_byte (suc (suc (suc (suc (suc (suc zero)))))) l = refl
digit_byte (suc (suc (suc (suc (suc (suc (suc zero))))))) l = refl
digit_byte (suc (suc (suc (suc (suc (suc (suc (suc zero)))))))) l = refl
digit_byte (suc (suc (suc (suc (suc (suc (suc (suc (suc zero))))))))) l = refl
digit_byte (suc (suc (suc (suc (suc (suc (suc (suc (suc (suc n)))))))))) l = absurd (omega (arith, l))

and_true : (a b : Bool) → a ≡ true → b ≡ true → (a && b) ≡ true
and_true a b e f = ap (λ (x : Bool). x && b) e ∙ f

both_all : (xs ys : List ℕ) → list_all is_name_byte xs ≡ true → list_all is_name_byte ys ≡ true → list_all is_name_byte (xs ++ ys) ≡ true
both_all xs ys e f = list_all-append is_name_byte xs ys ∙ and_true _ _ e f

digits_all : (n : ℕ) → n < 2 ^ 64 → list_all is_name_byte (decimal n) ≡ true
digits_all n l = decimal_by_steps (λ n ds. list_all is_name_byte ds ≡ true) (λ n k. and_true _ _ (digit_byte n k) refl) (λ n ds k h. both_all ds _ h (and_true _ _ (digit_byte (n % 10) (omega arith)) refl)) n l

-- what is asked of the bytes of a field's name
pub record FieldText (field : Field) : Type 0 where
  pub bytes : list_all is_name_byte (field_name field) ≡ true
  pub short : length (field_name field) ≤ 9

short_text : (field : Field) → list_all is_name_byte (field_name field) ≡ true → nat_le (length (field_name field)) 9 ≡ true → FieldText field
short_text field e l = record { bytes = e; short = grind (arith, nat_tests) }

pub field_text : (field : Field) → FieldText field
field_text AReady = short_text AReady refl refl
field_text AValid = short_text AValid refl refl
field_text AOpcode = short_text AOpcode refl refl
field_text AParam = short_text AParam refl refl
field_text ASize = short_text ASize refl refl
field_text ASource = short_text ASource refl refl
field_text AAddress = short_text AAddress refl refl
field_text AMask = short_text AMask refl refl
field_text AData = short_text AData refl refl
field_text DReady = short_text DReady refl refl
field_text DValid = short_text DValid refl refl
field_text DOpcode = short_text DOpcode refl refl
field_text DSize = short_text DSize refl refl
field_text DSource = short_text DSource refl refl
field_text DDenied = short_text DDenied refl refl
field_text DData = short_text DData refl refl

split_three : (a b c : Bool) → (a && b && c) ≡ true → c ≡ true
split_three true true c e = e
split_three true false c e = absurd cc
split_three false b c e = absurd cc

name_bytes : (name : List ℕ) → is_name name ≡ true → list_all is_name_byte name ≡ true
name_bytes name e = split_three (begins_with_letter name) (nat_le (length name) 64) (list_all is_name_byte name) e

le_test : (a b : ℕ) → a ≤ b → nat_le a b ≡ true
le_test a b l = grind (arith, nat_tests)

abbrev text_of : List ℕ → List ℕ → List ℕ → List ℕ
text_of name digits field = codes "p_" ++ (name ++ (codes "_" ++ (digits ++ (codes "_" ++ field))))

formed : (name digits field : List ℕ) → list_all is_name_byte name ≡ true → list_all is_name_byte digits ≡ true → list_all is_name_byte field ≡ true → length name ≤ 32 → length digits ≤ 2 → length field ≤ 9 → is_name (text_of name digits field) ≡ true
formed name digits field a b c l m n =
    let k : length (text_of name digits field) ≤ 64 = omega (arith, length-append name (codes "_" ++ (digits ++ (codes "_" ++ field))), length-append digits (codes "_" ++ field)) in
    and_true _ _ (and_true true _ refl (le_test _ 64 k))
    (both_all (codes "p_") (name ++ (codes "_" ++ (digits ++ (codes "_" ++ field)))) refl
    (both_all name (codes "_" ++ (digits ++ (codes "_" ++ field))) a
    (both_all (codes "_") (digits ++ (codes "_" ++ field)) refl
    (both_all digits (codes "_" ++ field) b
    (both_all (codes "_") field refl c)))))

pub is_formed : (at : PlanPort) (field : Field) → IsTrue (is_name at.name) → IsShort at → is_name (wire_name at field) ≡ true
is_formed at field e h =
    let p : at.port < 64 = h.port in
    let t = field_text field in
    formed at.name (decimal at.port) (field_name field) (name_bytes at.name e) (digits_all at.port (omega arith)) t.bytes h.name (length-decimal-le 2 at.port (omega arith) (omega arith) (omega arith)) t.short

-- a name that isn't one contradicts it
pub not_formed : {A : Type 0} (found : Option A) (x : A) (text name : List ℕ) → found ≡ None → text ≡ name → is_name name ≡ true → found ≡ (if is_name text then Some x else None) → ⊥
not_formed found x text name e t n q = let k : (if is_name text then Some x else None) ≡ Some x = ap (λ (c : Bool). if c then Some x else None) (ap is_name t ∙ n) in let z : None ≡ Some x = sym e ∙ q ∙ k in absurd cc

pub spelled : (at : PlanPort) (field : Field) (text told name label : List ℕ) → text ≡ told → told ≡ text_of name (decimal at.port) label → name ≡ at.name → label ≡ field_name field → text ≡ wire_name at field
spelled at field text told name label e f g h = e ∙ f ∙ ap (λ (x : List ℕ). text_of x (decimal at.port) label) g ∙ ap (text_of at.name (decimal at.port)) h

pub is_port_name : (at : PlanPort) (field : Field) (name : List ℕ) → IsTrue (is_name at.name) → IsShort at → name ≡ wire_name at field → IsNamed (codes "p_") name
is_port_name at field name e h q = subst (IsNamed (codes "p_")) (sym q) (refl, omega (arith, length-append at.name (95 ∷ (decimal at.port ++ (95 ∷ field_name field))), length-append (decimal at.port) (95 ∷ field_name field)), is_formed at field e h)
