-- The registers of a queue, opened one after another.
use Rattle.std.proofs.Common.{◌≡◌, ℕ, zero, suc, ◌<◌, ◌^◌, List, [], ◌∷◌, ◌++◌, length, get_or, refl, sym, ap, ◌∙◌, subst, arith}
use Rattle.std.specs.Prelude.{◌==◌, not}
use Rattle.std.proofs.lemmas.List.{get_or_append_left, length-append}
use Rattle.net_build.specs.declared.types.Wire.{Wire}
use Rattle.net_build.specs.Bits.{wire_values}
use Rattle.net_build.specs.Built.{Built, IsBit, IsRegister, IsUndriven}
use Rattle.net_build.specs.Registers.{AreUndriven, numbers}
use Rattle.net_build.specs.Values.{Adds, Opens, Solves}
use Rattle.net_build.proofs.OpenedLists.{all_undriven_adds, all_undriven_opens, opens_opens}
use Rattle.net_build.proofs.Steps.{bit_adds, later_later, tells_adds, undriven_opens}
use Rattle.net_queue.proofs.Alike.{alike_adds}
use Rattle.net_queue.specs.declared.types.Queue.{Queue}
use Rattle.net_queue.specs.Queues.{DependsOnRegisters, IsOpen, queue_registers}

pub undriven_cons : (b : Built) (w : Wire) (ws : List Wire) → IsUndriven b w → AreUndriven b ws → AreUndriven b (w ∷ ws)
undriven_cons b w ws h g = record {
  each = λ k d l. at k d l;
}
  where
    at : (k : ℕ) (d : Wire) → k < length (w ∷ ws) → IsUndriven b (get_or (w ∷ ws) k d)
    at zero d l = h
    at (suc k) d l = g.each k d (omega (arith, l))

pub undriven_tail : (b : Built) (w : Wire) (ws : List Wire) → AreUndriven b (w ∷ ws) → AreUndriven b ws
undriven_tail b w ws h = record { each = λ k d l. h.each (suc k) d (omega (arith, l)) }

pub undriven_both : (b : Built) (xs ys : List Wire) → AreUndriven b xs → AreUndriven b ys → AreUndriven b (xs ++ ys)
undriven_both b [] ys h g = g
undriven_both b (x ∷ xs) ys h g = undriven_cons b x (xs ++ ys) (h.each 0 x (omega arith)) (undriven_both b xs ys (undriven_tail b x xs h) g)

pub opens_adds : (old mid new : Built) (rs : List ℕ) → Opens old mid rs → Adds mid new → Opens old new rs
opens_adds old mid new rs g h = record {
  later = later_later old mid new g.later h.later;
  inputs = h.inputs ∙ g.inputs;
  outputs = h.outputs ∙ g.outputs;
  undriven = h.undriven ∙ g.undriven;
}

-- two registers, and then two lists of them
pub opens_four : (a b c d e : Built) (valid full : Wire) (head last : List Wire) → Opens a b (valid.number ∷ []) → Opens b c (full.number ∷ []) → Opens c d (numbers head) → Opens d e (numbers last) → Opens a e (numbers (valid ∷ full ∷ head ++ last))
opens_four a b c d e valid full head last p q r s =
    opens_opens a b e (valid ∷ []) (full ∷ head ++ last) _ p
    (opens_opens b c e (full ∷ []) (head ++ last) _ q (opens_opens c d e head last _ r s refl) refl)
    refl

pub undriven_four : (b c d e : Built) (valid full : Wire) (head last : List Wire) → IsUndriven b valid → Opens b c (full.number ∷ []) → IsUndriven c full → Opens c d (numbers head) → AreUndriven d head → Opens d e (numbers last) → AreUndriven e last → AreUndriven e (valid ∷ full ∷ head ++ last)
undriven_four b c d e valid full head last u q v r w s x =
    undriven_cons e valid _ (undriven_opens d e _ valid s (undriven_opens c d _ valid r (undriven_opens b c _ valid q u)))
    (undriven_cons e full _ (undriven_opens d e _ full s (undriven_opens c d _ full r v))
    (undriven_both e head last (all_undriven_opens d e head _ s w) x))

-- ---- what an open queue shows depends on registers alone

values_same : (b : Built) (v u : ℕ → ℕ) (ws : List Wire) → AreUndriven b ws → ((w : Wire) → IsRegister b w → v w.number ≡ u w.number) → wire_values v ws ≡ wire_values u ws
values_same b v u [] h g = refl
values_same b v u (w ∷ ws) h g =
    ap (λ (ns : List ℕ). v w.number ∷ ns) (values_same b v u ws (undriven_tail b w ws h) g)
    ∙ ap (λ (n : ℕ). n ∷ wire_values u ws) (g w (h.each 0 w (omega arith)).register)

undriven_front : (b : Built) (xs ys : List Wire) → AreUndriven b (xs ++ ys) → AreUndriven b xs
undriven_front b xs ys h = record {
  each = λ k d l. subst (λ (w : Wire). IsUndriven b w) (get_or_append_left xs ys d k l) (h.each k d (omega (arith, l, length-append xs ys)));
}

bit_told : (n m : ℕ) → n < 2 → m < 2 → (n == 1) ≡ (m == 1) → n ≡ m
bit_told zero zero h g e = refl
bit_told zero (suc zero) h g e = absurd cc
bit_told zero (suc (suc m)) h g e = absurd (omega arith)
bit_told (suc zero) zero h g e = absurd cc
bit_told (suc zero) (suc zero) h g e = refl
bit_told (suc zero) (suc (suc m)) h g e = absurd (omega arith)
bit_told (suc (suc n)) m h g e = absurd (omega arith)

below_two : (b : Built) (x : Wire) (v : ℕ → ℕ) → Solves b v → IsBit b x → v x.number < 2
below_two b x v s h = subst (λ (w : ℕ). v x.number < 2 ^ w) (h.wire.has.1 ∙ h.one) (s.fits x.number h.wire.has.0)

pub shows_registers : (b : Built) (q : Queue) → IsOpen b q → DependsOnRegisters b q
shows_registers b q o = record {
  same = λ v u s t g.
      let rest = undriven_tail b q.full _ (undriven_tail b q.valid _ o.undriven) in
      let full : v q.full.number ≡ u q.full.number = g q.full (o.undriven.each 1 q.full (omega arith)).register in (
        bit_told _ _ (below_two b q.ready v s o.ready) (below_two b q.ready u t o.ready)
            (o.room.at v s ∙ ap (λ (n : ℕ). not (n == 1)) full ∙ sym (o.room.at u t)),
        g q.valid (o.undriven.each 0 q.valid (omega arith)).register,
        values_same b v u q.head (undriven_front b q.head q.last rest) g,
      );
}

-- ---- a queue that stays open

pub open_adds : (old new : Built) (q : Queue) → Adds old new → IsOpen old q → IsOpen new q
open_adds old new q g o = record {
  ready = bit_adds old new q.ready g o.ready;
  valid = bit_adds old new q.valid g o.valid;
  full = bit_adds old new q.full g o.full;
  alike = alike_adds old new q.head q.last g o.alike;
  undriven = all_undriven_adds old new (queue_registers q) g o.undriven;
  distinct = o.distinct;
  room = tells_adds old new q.ready _ g o.room;
}
