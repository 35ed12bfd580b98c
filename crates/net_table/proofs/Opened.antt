-- Registers opened one after another, and what they hold.
use Rattle.std.proofs.Common.{◌≡◌, ℕ, suc, Bool, ◌<◌, List, [], ◌∷◌, length, get_or, refl, sym, ap, ◌∙◌, subst, arith}
use Rattle.std.specs.Prelude.{if◌then◌else◌}
use Rattle.std.proofs.lemmas.List.{get_or-map, length-map}
use Rattle.std.proofs.lemmas.Grind.{same_number_lists}
use Rattle.net_build.specs.declared.types.Wire.{Wire}
use Rattle.net_build.specs.Bits.{wire_values, zeros}
use Rattle.net_build.specs.Built.{Built}
use Rattle.net_build.specs.Registers.{AllTake, AreUndriven}
use Rattle.net_build.specs.Values.{AtStart}
use Rattle.net_table.specs.Tables.{AllBecome, BeginAtZero}

no_wire : Wire
no_wire = record { number = 0; width = 0 }

tail_undriven : (b : Built) (w : Wire) (ws : List Wire) → AreUndriven b (w ∷ ws) → AreUndriven b ws
tail_undriven b w ws h = record { each = λ k d l. h.each (suc k) d (omega (arith, l)) }

all_zero : (b : Built) (v : ℕ → ℕ) (ws : List Wire) → AtStart b v → AreUndriven b ws → wire_values v ws ≡ zeros (length ws)
all_zero b v [] a h = refl
all_zero b v (w ∷ ws) a h =
    ap (λ (n : ℕ). n ∷ wire_values v ws) (a.holds w.number _ (h.each 0 w (omega arith)).register.at refl)
    ∙ ap (λ (ns : List ℕ). 0 ∷ ns) (all_zero b v ws a (tail_undriven b w ws h))

pub begin_at_zero : (b : Built) (ws : List Wire) → AreUndriven b ws → BeginAtZero b ws
begin_at_zero b ws h = record { at = λ v a. all_zero b v ws a h }

pub all_become : (b : Built) (ws nexts : List Wire) → length nexts ≡ length ws → AllTake b ws nexts → AllBecome b ws (λ v. wire_values v nexts)
all_become b ws nexts e f = record {
  at = λ v u s t z.
      let lr = length-map ws (λ (x : Wire). u x.number) in
      let ln = length-map nexts (λ (x : Wire). v x.number) in
      same_number_lists (wire_values u ws) (wire_values v nexts) (lr ∙ sym e ∙ sym ln)
      (λ j r.
      let b' : j < length ws = subst (λ n. j < n) lr r in
      let c' : j < length nexts = omega (arith, e, b') in
      get_or-map (λ (w : Wire). u w.number) ws j no_wire 0 b'
      ∙ (f.each j no_wire no_wire b').at v u s t
      ∙ ap (λ (c : Bool). if c then 0 else v (get_or nexts j no_wire).number) z
      ∙ sym (get_or-map (λ (w : Wire). v w.number) nexts j no_wire 0 c'));
}
