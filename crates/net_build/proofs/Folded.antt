-- Folds over wires, one wire further.
use Rattle.std.proofs.Common.{◌≡◌, ℕ, zero, suc, ◌+◌, ◌<◌, ◌≤◌, Bool, true, false, ◌||◌, ◌&&◌, not, List, [], ◌∷◌, ◌++◌, length, get_or, take, drop, refl, sym, ap, ◌∙◌, subst, arith, inl, inr, if◌then◌else◌}
use Rattle.std.specs.Prelude.{◌==◌}
use Rattle.std.specs.List.{list_any}
use Rattle.std.proofs.lemmas.List.{take_more, get_or_append_left, get_or_push, length_push, drop_more, drop_all}
use Rattle.std.proofs.lemmas.List.Folds.{list_any-append}
use Rattle.std.proofs.lemmas.Bool.{cases_lt}
use Rattle.net_build.specs.declared.types.Wire.{Wire}
use Rattle.net_build.specs.Built.{Built, IsBit, IsWire}
use Rattle.net_build.specs.Values.{Adds, Means, Tells, high}
use Rattle.net_build.specs.Bits.{AreBits}
use Rattle.net_build.specs.Folds.{AreOfOneWidth, chosen, first_width}
use Rattle.net_build.proofs.Steps.{adds_adds, bit_adds, bit_wire, wire_adds}

pub alone_tells : (old new : Built) (wire seen free mine : Wire) → Adds old new → Tells old free (λ v. not (high v seen)) → Tells new mine (λ v. high v wire && high v free) → Tells new mine (λ v. high v wire && not (high v seen))
alone_tells old new wire seen free mine g f m = record { at = λ v s. m.at v s ∙ ap (λ (b : Bool). high v wire && b) (f.at v (g.later.back v s)) }

or_false : (b : Bool) → (b || false) ≡ b
or_false true = refl
or_false false = refl

pub any_more : (old new : Built) (all w : Wire) (xs : List Wire) (k : ℕ) (d : Wire) → k < length xs → Adds old new → Tells old all (λ v. list_any (high v) (take k xs)) → Tells new w (λ v. high v all || high v (get_or xs k d)) → Tells new w (λ v. list_any (high v) (take (k + 1) xs))
any_more old new all w xs k d b l a t = record {
  at = λ v s.
      t.at v s
      ∙ ap (λ (x : Bool). x || high v (get_or xs k d)) (a.at v (l.later.back v s))
      ∙ sym (ap (list_any (high v)) (take_more xs k d b) ∙ list_any-append (high v) (take k xs) (get_or xs k d ∷ []) ∙ ap (λ (x : Bool). list_any (high v) (take k xs) || x) (or_false (high v (get_or xs k d))));
}

-- wires of one bit stay so, and one more is one
pub bits_adds : (old new : Built) (ws : List Wire) → Adds old new → AreBits old ws → AreBits new ws
bits_adds old new ws g h = record { each = λ k d b. bit_adds old new (get_or ws k d) g (h.each k d b) }

pub bits_none : (b : Built) (ws : List Wire) → ws ≡ [] → AreBits b ws
bits_none b ws e = record { each = λ k d l. absurd (omega (arith, ap length e)) }

pub bits_more : (old new : Built) (mine : Wire) (out more : List Wire) → AreBits old out → Adds old new → IsBit new mine → more ≡ out ++ mine ∷ [] → AreBits new more
bits_more old new mine out more h l b e = subst (AreBits new) (sym e) (record {
  each = λ k d r.
      elim (cases_lt k (length out)) [
        | inl s ↦ rw (get_or_append_left out (mine ∷ []) d k s) (bit_adds old new (get_or out k d) l (h.each k d s))
        | inr g ↦
            let q : length out ≡ k = omega (arith, length_push out mine) in
            rw (get_or_push out mine d k q) b
      ];
})

pub bit_at : (old new : Built) (xs : List Wire) (k : ℕ) (d : Wire) → AreBits old xs → Adds old new → k < length xs → IsBit new (get_or xs k d)
bit_at old new xs k d h a b = bit_adds old new (get_or xs k d) a (h.each k d b)

pub value_at : (old new : Built) (xs : List Wire) (k : ℕ) (d : Wire) → AreOfOneWidth old xs → Adds old new → k < length xs → IsWire new (get_or xs k d)
value_at old new xs k d h a b = wire_adds old new (get_or xs k d) a (h k d b).0

pub first_width_at : (xs : List Wire) (d : Wire) → 0 < length xs → (get_or xs 0 d).width ≡ first_width xs
first_width_at [] d b = absurd (omega arith)
first_width_at (x ∷ xs) d b = refl

none_chosen : (v : ℕ → ℕ) (picks values : List Wire) → picks ≡ [] → chosen v picks values ≡ 0
none_chosen v picks values e = ap (λ ps. chosen v ps values) e

pub choose_none : (b : Built) (w : Wire) (picks values : List Wire) (n m : ℕ) → length picks ≤ n → Means b w (λ v. 0) → Means b w (λ v. chosen v (drop n picks) (drop m values))
choose_none b w picks values n m h e = record { at = λ v s. e.at v s ∙ sym (none_chosen v (drop n picks) (drop m values) (drop_all n picks h)) }

pub choose_more : (old new : Built) (picks values : List Wire) (place rest k : ℕ) (d e w more : Wire) → place < length picks → length values ≡ length picks → rest ≡ place + 1 → k ≡ place → Adds old new → Means old w (λ v. chosen v (drop rest picks) (drop rest values)) → Means new more (λ v. if v (get_or picks place d).number == 1 then v (get_or values place e).number else v w.number) → Means new more (λ v. chosen v (drop k picks) (drop k values))
choose_more old new picks values place rest k d e w more b l r q a m h = record {
  at = λ v s.
      let p : drop k picks ≡ get_or picks place d ∷ drop rest picks = ap (λ n. drop n picks) q ∙ drop_more picks place d b ∙ ap (λ n. get_or picks place d ∷ drop n picks) (sym r) in
      let u : drop k values ≡ get_or values place e ∷ drop rest values = ap (λ n. drop n values) q ∙ drop_more values place e (omega arith) ∙ ap (λ n. get_or values place e ∷ drop n values) (sym r) in
      h.at v s
      ∙ ap (λ n. if v (get_or picks place d).number == 1 then v (get_or values place e).number else n) (m.at v (a.later.back v s))
      ∙ sym (ap (λ ps. chosen v ps (drop k values)) p ∙ ap (chosen v (get_or picks place d ∷ drop rest picks)) u);
}

pub two_bits : (b : Built) (x y : Wire) → IsBit b x → IsBit b y → AreBits b (x ∷ y ∷ [])
two_bits b x y h k = record { each = two b x y h k }
  where
    two : (b : Built) (x y : Wire) → IsBit b x → IsBit b y → (n : ℕ) (d : Wire) → n < 2 → IsBit b (get_or (x ∷ y ∷ []) n d)
    two b x y h k zero d l = h
    two b x y h k (suc zero) d l = k
    two b x y h k (suc (suc n)) d l = absurd (omega arith)

pub two_values : (b : Built) (x y : Wire) → IsBit b x → IsBit b y → AreOfOneWidth b (x ∷ y ∷ [])
two_values b x y h k zero d l = (h.wire, refl)
two_values b x y h k (suc zero) d l = (k.wire, k.one ∙ sym h.one)
two_values b x y h k (suc (suc n)) d l = absurd (omega arith)

pub ruleset pairs = (two_bits, two_values)

-- what stays of wires from one call to the next
pub ruleset grown = (adds_adds, wire_adds, bit_adds, bit_wire, bits_adds)
