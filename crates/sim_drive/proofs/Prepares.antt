-- The steps of the loops that take one item after another out of a list.
use Rattle.std.proofs.Common.{◌≡◌, ℕ, ◌+◌, ◌<◌, List, [], ◌∷◌, ◌++◌, drop, get_or, length, map, refl, ap, sym, ◌∙◌, arith}
use Rattle.std.specs.List.{range_with_len}
use Rattle.std.specs.declared.vec.Vec.{Vec}
use Rattle.std.proofs.lemmas.List.{append-nil, append_assoc, drop_more, map_push, nil_from_length}
use Rattle.tl_edge.specs.declared.plan.Plan.{Plan}
use Rattle.sim_ports.specs.declared.prepared.Prepared.{Prepared}
use Rattle.sim_ports.specs.declared.stimulus.StimRequest.{StimRequest}
use Rattle.sim_drive.specs.Opening.{addresses_of}
use Rattle.sim_drive.specs.Preparing.{all_addresses, all_bytes_at, rising}

-- the first item of what is left, and what is left behind it
pub record IsNext {X : Type 0} (xs : List X) (place : ℕ) (x : X) (rest : List X) : Type 0 where
  pub here : x ≡ get_or xs place x
  pub behind : rest ≡ drop (place + 1) xs

pub next_is : {X : Type 0} (xs left rest : List X) (place : ℕ) (x : X) → left ≡ drop place xs → left ≡ x ∷ rest → place < length xs → IsNext xs place x rest
next_is xs left rest place x is parts within =
    let more = drop_more xs place x within in
    record { here = cc; behind = cc }

composed : {A B C : Type 0} (f : A → B) (g : B → C) (xs : List A) → map (λ x. g (f x)) xs ≡ map g (map f xs)
composed f g [] = refl
composed f g (x ∷ xs) = ap (λ ys. g (f x) ∷ ys) (composed f g xs)

-- ---- lists put into rising order, one after another

pub prepares_all : {Z : Type 0} (plan : Plan) (requests : List StimRequest) (lists : List (Vec ℕ Z))
    → map (λ (list : Vec ℕ Z). list.items) lists ≡ map (all_bytes_at plan requests) (range_with_len 0 (length plan.sinks))
    → map (λ (list : Vec ℕ Z). rising list.items) lists ≡ all_addresses plan requests
prepares_all {Z = Z} plan requests lists is =
    composed (λ (list : Vec ℕ Z). list.items) rising lists ∙ ap (map rising) is
    ∙ sym (composed (all_bytes_at plan requests) rising (range_with_len 0 (length plan.sinks)))

pub prepares_one : {Z : Type 0} (before after : List Prepared) (one : Prepared) (list : Vec ℕ Z) (left rest : List (Vec ℕ Z)) (whole : List (List ℕ))
    → addresses_of before ++ map (λ (list : Vec ℕ Z). rising list.items) left ≡ whole → left ≡ list ∷ rest → one.addresses ≡ rising list.items
    → after ≡ before ++ one ∷ [] → addresses_of after ++ map (λ (list : Vec ℕ Z). rising list.items) rest ≡ whole
prepares_one {Z = Z} before after one list left rest whole is parts here e =
    let f : Vec ℕ Z → List ℕ = λ (list : Vec ℕ Z). rising list.items in
    ap (λ (ps : List Prepared). addresses_of ps ++ map f rest) e
    ∙ ap (λ (xs : List (List ℕ)). xs ++ map f rest) (map_push (λ (at : Prepared). at.addresses) before one)
    ∙ append_assoc (addresses_of before) (one.addresses ∷ []) (map f rest)
    ∙ ap (λ (a : List ℕ). addresses_of before ++ a ∷ map f rest) here
    ∙ ap (λ (ls : List (Vec ℕ Z)). addresses_of before ++ map f ls) (sym parts) ∙ is

pub prepares_end : {Z : Type 0} (prepared : List Prepared) (left : List (Vec ℕ Z)) (whole : List (List ℕ))
    → addresses_of prepared ++ map (λ (list : Vec ℕ Z). rising list.items) left ≡ whole → length left ≡ 0 → addresses_of prepared ≡ whole
prepares_end {Z = Z} prepared left whole is none =
    sym (append-nil (addresses_of prepared))
    ∙ ap (λ (ls : List (Vec ℕ Z)). addresses_of prepared ++ map (λ (list : Vec ℕ Z). rising list.items) ls) (sym (nil_from_length left none)) ∙ is
