-- What stays as a builder grows, from one call to the next.
use Rattle.std.proofs.Common.{◌≡◌, ℕ, ◌<◌, Bool, List, [], ◌∷◌, ◌++◌, length, take, if◌then◌else◌, refl, sym, ap, ◌∙◌, subst, arith}
use Rattle.std.specs.Prelude.{filter, not, ◌==◌, Contains}
use Rattle.std.proofs.lemmas.List.{get_or_append_left, length-append}
use Rattle.std.proofs.lemmas.Bool.{ne_eqb}
use Rattle.std.proofs.lemmas.Option.{slice_get_within}
use Rattle.std.proofs.Common.{◌≢◌, zero, suc, false, true, cond, get_or}
use Rattle.net_build.specs.declared.types.Wire.{Wire}
use Rattle.net_build.specs.Built.{Built, IsWire, IsBit, IsInput, IsRegister, IsUndriven, items, undriven}
use Rattle.net_build.specs.Values.{Means, Tells, Takes, Becomes, Later, Adds, Drives, Opens}
use Rattle.net_build.specs.Sound.{HasNext, IsLowInReset}

-- a front of a front
take_take : {A : Type 0} (xs ys zs : List A) → take (length xs) ys ≡ xs → take (length ys) zs ≡ ys → take (length xs) zs ≡ xs
take_take [] ys zs e f = refl
take_take (x ∷ xs) [] zs e f = absurd cc
take_take (x ∷ xs) (y ∷ ys) [] e f = absurd cc
take_take (x ∷ xs) (y ∷ ys) (z ∷ zs) e f =
    let g : take (length xs) ys ≡ xs = cc in
    let h : take (length ys) zs ≡ ys = cc in
    let t : take (length xs) zs ≡ xs = take_take xs ys zs g h in
    let a : z ≡ y = cc in
    let b : y ≡ x = cc in
    ap (λ c. c ∷ take (length xs) zs) (a ∙ b) ∙ ap (λ r. x ∷ r) t

pub later_later : (old mid new : Built) → Later old mid → Later mid new → Later old new
later_later old mid new g h = record {
  back = λ v s. g.back v (h.back v s);
  keeps = λ n i e. h.keeps n i (g.keeps n i e);
  wires = λ n w e. h.wires n w (g.wires n w e);
  ticks = λ v u t. g.ticks v u (h.ticks v u t);
  starts = λ v t. g.starts v (h.starts v t);
  name = h.name ∙ g.name;
  inputs = take_take _ _ _ g.inputs h.inputs;
  outputs = take_take _ _ _ g.outputs h.outputs;
}

pub adds_later : (old new : Built) → Adds old new → Later old new
adds_later old new a = a.later

pub adds_adds : (old mid new : Built) → Adds old mid → Adds mid new → Adds old new
adds_adds old mid new g h = record {
  later = later_later old mid new g.later h.later;
  inputs = h.inputs ∙ g.inputs;
  outputs = h.outputs ∙ g.outputs;
  undriven = h.undriven ∙ g.undriven;
}

pub wire_later : (old new : Built) (x : Wire) → Later old new → IsWire old x → IsWire new x
wire_later old new x g h = record { has = g.wires x.number x.width h.has; sized = h.sized }

pub bit_later : (old new : Built) (x : Wire) → Later old new → IsBit old x → IsBit new x
bit_later old new x g h = record { wire = wire_later old new x g h.wire; one = h.one }

pub bit_wire : (b : Built) (x : Wire) → IsBit b x → IsWire b x
bit_wire b x h = h.wire

pub bit_made : (b : Built) (x : Wire) → IsWire b x → x.width ≡ 1 → IsBit b x
bit_made b x h e = record { wire = h; one = e }

pub input_later : (old new : Built) (x : Wire) (name : List ℕ) → Later old new → IsInput old x name → IsInput new x name
input_later old new x name g h = record { at = g.keeps x.number _ h.at }

pub register_later : (old new : Built) (x : Wire) → Later old new → IsRegister old x → IsRegister new x
register_later old new x g h = record { at = g.keeps x.number _ h.at }

pub means_later : (old new : Built) (x : Wire) (f : (ℕ → ℕ) → ℕ) → Later old new → Means old x f → Means new x f
means_later old new x f g m = record { at = λ v s. m.at v (g.back v s) }

pub tells_later : (old new : Built) (x : Wire) (f : (ℕ → ℕ) → Bool) → Later old new → Tells old x f → Tells new x f
tells_later old new x f g m = record { at = λ v s. m.at v (g.back v s) }

pub takes_later : (old new : Built) (x : Wire) (f : (ℕ → ℕ) → ℕ) → Later old new → Takes old x f → Takes new x f
takes_later old new x f g m = record { at = λ v u s t. m.at v u (g.back v s) (g.ticks v u t) }

pub becomes_later : (old new : Built) (x : Wire) (f : (ℕ → ℕ) → ℕ) → Later old new → Becomes old x f → Becomes new x f
becomes_later old new x f g m = record { at = λ v u s t z. m.at v u (g.back v s) (g.ticks v u t) z }

pub wire_adds : (old new : Built) (x : Wire) → Adds old new → IsWire old x → IsWire new x
wire_adds old new x g h = wire_later old new x g.later h

pub bit_adds : (old new : Built) (x : Wire) → Adds old new → IsBit old x → IsBit new x
bit_adds old new x g h = bit_later old new x g.later h

pub register_adds : (old new : Built) (x : Wire) → Adds old new → IsRegister old x → IsRegister new x
register_adds old new x g h = register_later old new x g.later h

pub means_adds : (old new : Built) (x : Wire) (f : (ℕ → ℕ) → ℕ) → Adds old new → Means old x f → Means new x f
means_adds old new x f g m = means_later old new x f g.later m

pub tells_adds : (old new : Built) (x : Wire) (f : (ℕ → ℕ) → Bool) → Adds old new → Tells old x f → Tells new x f
tells_adds old new x f g m = tells_later old new x f g.later m

pub becomes_taken : (b : Built) (r : Wire) (f : (ℕ → ℕ) → ℕ) → Takes b r f → Becomes b r f
becomes_taken b r f t = record { at = λ v u s k z. t.at v u s k ∙ ap (λ (c : Bool). if c then 0 else f v) z }

pub ruleset steps = (adds_adds, wire_adds, bit_adds, bit_wire)

-- a choice by the reset
pub reset_means : (old mid new : Built) (reset low x w : Wire) → reset.number ≡ 0 → Adds old mid → Adds mid new → Means mid low (λ v. 0) → Means new w (λ v. if v reset.number == 1 then v low.number else v x.number) → Means new w (λ v. if v 0 == 1 then 0 else v x.number)
reset_means old mid new reset low x w e g h l m = record {
  at = λ v s.
      m.at v s
      ∙ ap (λ n. if v n == 1 then v low.number else v x.number) e
      ∙ ap (λ n. if v 0 == 1 then n else v x.number) (l.at v (h.later.back v s));
}

pub low_in_reset : (b : Built) (w x : Wire) → Means b w (λ v. if v 0 == 1 then 0 else v x.number) → IsLowInReset b w.number
low_in_reset b w x m = record { low = λ v s e. m.at v s ∙ ap (λ (c : Bool). if c then 0 else v x.number) (ap (λ n. n == 1) e) }

pub drives_after : (old mid new : Built) (r : ℕ) → Adds old mid → Drives mid new r → Drives old new r
drives_after old mid new r g h = record {
  later = later_later old mid new g.later h.later;
  inputs = h.inputs ∙ g.inputs;
  outputs = h.outputs ∙ g.outputs;
  undriven = h.undriven ∙ ap (filter (λ n. not (n == r))) g.undriven;
}

pub takes_next : (mid new : Built) (r w x : Wire) → Drives mid new r.number → HasNext new r.number w.number → Means mid w (λ v. if v 0 == 1 then 0 else v x.number) → Takes new r (λ v. v x.number)
takes_next mid new r w x g h m = record { at = λ v u s t. h.next v u t ∙ m.at v (g.later.back v s) }

pub opens_later : (old new : Built) (rs : List ℕ) → Opens old new rs → Later old new
opens_later old new rs h = h.later

pub drives_later : (old new : Built) (r : ℕ) → Drives old new r → Later old new
drives_later old new r h = h.later

pub wire_drives : (old new : Built) (x : Wire) (r : ℕ) → Drives old new r → IsWire old x → IsWire new x
wire_drives old new x r g h = wire_later old new x g.later h

pub wire_opens : (old new : Built) (x : Wire) (rs : List ℕ) → Opens old new rs → IsWire old x → IsWire new x
wire_opens old new x rs g h = wire_later old new x g.later h

contains_behind : (b : Bool) (x : ℕ) (xs : List ℕ) (n : ℕ) → Contains xs n → Contains (cond b (x ∷ xs) xs) n
contains_behind true x xs n c = (suc c.0, omega (arith, c.1), c.2)
contains_behind false x xs n c = c

-- a list without one number keeps the others
contains_but : (r : ℕ) (xs : List ℕ) (n k : ℕ) → n ≢ r → k < length xs → get_or xs k n ≡ n → Contains (filter (λ n. not (n == r)) xs) n
contains_but r [] n k h b e = absurd (omega arith)
contains_but r (x ∷ xs) n zero h b e =
    let f : x ≡ n = e in
    let t : (x == r) ≡ false = ne_eqb x r (λ g. h (sym f ∙ g)) in
    subst (λ (ns : List ℕ). Contains ns n) (sym (ap (λ (c : Bool). cond (not c) (x ∷ filter (λ n. not (n == r)) xs) (filter (λ n. not (n == r)) xs)) t)) (0, omega arith, f)
contains_but r (x ∷ xs) n (suc k) h b e = contains_behind (not (x == r)) x (filter (λ n. not (n == r)) xs) n (contains_but r xs n k h (omega arith) e)

pub undriven_adds : (old new : Built) (w : Wire) → Adds old new → IsUndriven old w → IsUndriven new w
undriven_adds old new w g h = record {
  register = register_later old new w g.later h.register;
  waits = subst (λ (ns : List ℕ). Contains ns w.number) (sym g.undriven) h.waits;
}

contains_front : (xs ys : List ℕ) (n : ℕ) → Contains xs n → Contains (xs ++ ys) n
contains_front xs ys n c = (c.0, omega (arith, c.1, length-append xs ys), get_or_append_left xs ys n c.0 c.1 ∙ c.2)

pub undriven_opens : (old new : Built) (rs : List ℕ) (w : Wire) → Opens old new rs → IsUndriven old w → IsUndriven new w
undriven_opens old new rs w g h = record {
  register = register_later old new w g.later h.register;
  waits = subst (λ (ns : List ℕ). Contains ns w.number) (sym g.undriven) (contains_front (undriven old) rs w.number h.waits);
}

pub undriven_drives : (old new : Built) (r : ℕ) (w : Wire) → w.number ≢ r → Drives old new r → IsUndriven old w → IsUndriven new w
undriven_drives old new r w n g h = record {
  register = register_later old new w g.later h.register;
  waits = subst (λ (ns : List ℕ). Contains ns w.number) (sym g.undriven) (contains_but r (undriven old) w.number h.waits.0 n h.waits.1 h.waits.2);
}

-- a register made later has another number
pub numbers_differ : (b : Built) (x y : Wire) → IsRegister b x → y.number ≡ length (items b) → x.number ≢ y.number
numbers_differ b x y h e =
    let l : x.number < length (items b) = slice_get_within (items b) x.number _ h.at in
    omega arith
