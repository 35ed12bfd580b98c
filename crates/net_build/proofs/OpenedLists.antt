-- Registers opened one after another.
use Rattle.std.proofs.Common.{◌≡◌, ◌≢◌, ℕ, zero, suc, ◌<◌, List, [], ◌∷◌, ◌++◌, length, get_or, refl, sym, ap, ◌∙◌, subst, arith, inl, inr}
use Rattle.std.specs.List.{AllByRecursion}
use Rattle.std.proofs.lemmas.Bool.{cases_lt}
use Rattle.std.proofs.lemmas.List.{append_assoc, append-nil, map-append, take_all, get_or_append_left, get_or_push, length_push}
use Rattle.net_build.specs.declared.types.Wire.{Wire}
use Rattle.net_build.specs.Built.{Built, IsUndriven, IsWire, inputs, undriven}
use Rattle.net_build.specs.Registers.{AreDistinct, AreUndriven, AreWires, numbers}
use Rattle.net_build.specs.Values.{Adds, Later, Opens}
use Rattle.net_build.proofs.Opened.{Apart, opened_apart}
use Rattle.net_build.proofs.Steps.{later_later, undriven_adds, undriven_opens, wire_later}

pub later_same : (b : Built) → Later b b
later_same b = record {
  back = λ v s. s;
  keeps = λ n i e. e;
  wires = λ n w h. h;
  ticks = λ v u t. t;
  starts = λ v t. t;
  name = refl;
  inputs = take_all (length (inputs b)) (inputs b) (omega arith);
  outputs = take_all (length b.outputs) b.outputs (omega arith);
}

pub opens_none : (b : Built) → Opens b b (numbers [])
opens_none b = record { later = later_same b; inputs = refl; outputs = refl; undriven = sym (append-nil (undriven b)) }

-- one list of registers opened, and then another
pub opens_opens : (old mid new : Built) (xs ys all : List Wire) → Opens old mid (numbers xs) → Opens mid new (numbers ys) → all ≡ xs ++ ys → Opens old new (numbers all)
opens_opens old mid new xs ys all g h e = record {
  later = later_later old mid new g.later h.later;
  inputs = h.inputs ∙ g.inputs;
  outputs = h.outputs ∙ g.outputs;
  undriven = h.undriven ∙ ap (λ ns. ns ++ numbers ys) g.undriven ∙ append_assoc (undriven old) (numbers xs) (numbers ys) ∙ ap (λ ns. undriven old ++ ns) (sym (ap numbers e ∙ map-append (λ (w : Wire). w.number) xs ys));
}

-- lists that stay as a builder grows
pub all_undriven_adds : (old new : Built) (ws : List Wire) → Adds old new → AreUndriven old ws → AreUndriven new ws
all_undriven_adds old new ws g h = record { each = λ k d b. undriven_adds old new (get_or ws k d) g (h.each k d b) }

pub all_undriven_opens : (old new : Built) (ws : List Wire) (rs : List ℕ) → Opens old new rs → AreUndriven old ws → AreUndriven new ws
all_undriven_opens old new ws rs g h = record { each = λ k d b. undriven_opens old new rs (get_or ws k d) g (h.each k d b) }

pub widths_later : (old new : Built) (widths : List ℕ) (ws : List Wire) → Later old new → AreWires old widths ws → AreWires new widths ws
widths_later old new widths ws g h = record { each = λ k d b. let x = h.each k d b in (wire_later old new (get_or ws k d) g x.0, x.1) }

-- one register more
pub undriven_more : (mid new : Built) (ws more : List Wire) (w : Wire) (rs : List ℕ) → Opens mid new rs → AreUndriven mid ws → IsUndriven new w → more ≡ ws ++ w ∷ [] → AreUndriven new more
undriven_more mid new ws more w rs g h u e = subst (AreUndriven new) (sym e) (record {
  each = λ k d r.
      elim (cases_lt k (length ws)) [
        | inl s ↦ rw (get_or_append_left ws (w ∷ []) d k s) (undriven_opens mid new rs (get_or ws k d) g (h.each k d s))
        | inr t ↦
            let q : length ws ≡ k = omega (arith, length_push ws w) in
            rw (get_or_push ws w d k q) u
      ];
})

pub widths_more : (mid new : Built) (widths : List ℕ) (ws more : List Wire) (w : Wire) → Later mid new → AreWires mid widths ws → IsWire new w → w.width ≡ get_or widths (length ws) 0 → more ≡ ws ++ w ∷ [] → AreWires new widths more
widths_more mid new widths ws more w g h u n e = subst (AreWires new widths) (sym e) (record {
  each = λ k d r.
      elim (cases_lt k (length ws)) [
        | inl s ↦ rw (get_or_append_left ws (w ∷ []) d k s) (let x = h.each k d s in (wire_later mid new (get_or ws k d) g x.0, x.1))
        | inr t ↦
            let q : length ws ≡ k = omega (arith, length_push ws w) in
            rw (get_or_push ws w d k q) (u, n ∙ ap (λ i. get_or widths i 0) q)
      ];
})

-- numbers that differ, by place
all_at : (P : ℕ → Type 0) (xs : List Wire) (k : ℕ) (d : Wire) → AllByRecursion P (numbers xs) → k < length xs → P (get_or xs k d).number
all_at P [] k d h b = absurd (omega arith)
all_at P (x ∷ xs) zero d h b = h.0
all_at P (x ∷ xs) (suc k) d h b = all_at P xs k d h.1 (omega arith)

apart_at : (ws : List Wire) (k j : ℕ) (d : Wire) → Apart (numbers ws) → k < j → j < length ws → (get_or ws k d).number ≢ (get_or ws j d).number
apart_at [] k j d h l b = absurd (omega arith)
apart_at (w ∷ ws) k zero d h l b = absurd (omega arith)
apart_at (w ∷ ws) zero (suc j) d h l b = all_at (λ y. w.number ≢ y) ws j d h.0 (omega arith)
apart_at (w ∷ ws) (suc k) (suc j) d h l b = apart_at ws k j d h.1 (omega arith) (omega arith)

apart_right : (xs ys : List ℕ) → Apart (xs ++ ys) → Apart ys
apart_right [] ys h = h
apart_right (x ∷ xs) ys h = apart_right xs ys h.1

-- registers that were opened together are distinct
pub all_distinct : (old new : Built) (ws : List Wire) → Opens old new (numbers ws) → AreDistinct ws
all_distinct old new ws g = record { pairs = λ k j d l b. apart_at ws k j d (apart_right (undriven old) (numbers ws) (opened_apart old new (numbers ws) g)) l b }
