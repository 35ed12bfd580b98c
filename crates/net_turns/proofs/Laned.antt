-- Lanes collected in a register, and lanes cut out.
use Rattle.std.proofs.Common.{◌≡◌, ℕ, ◌+◌, ◌-◌, ◌*◌, ◌^◌, ◌<◌, ◌≤◌, Bool, true, false, [], ◌∷◌, Option, Some, None, refl, sym, ap, ◌∙◌, subst, arith, if◌then◌else◌}
use Rattle.std.specs.Prelude.{◌==◌, bit_or}
use Rattle.tl_pieces.specs.TwoBuses.{lanes_at}
use Rattle.net_build.specs.declared.types.Wire.{Wire}
use Rattle.net_build.specs.Built.{Built, IsUndriven}
use Rattle.net_build.specs.Values.{Adds, Becomes, Drives, Later, Means, Opens, high}
use Rattle.net_build.proofs.DrivenLists.{drives_all_after, opened_all_driven}
use Rattle.net_build.proofs.Steps.{register_later}
use Rattle.net_turns.specs.declared.types.Turn.{Turn}
use Rattle.net_turns.specs.Turns.{IsTurned, held_after}

pub alone_driven : (a b c d : Built) (w : Wire) → Opens a b (w.number ∷ []) → Adds b c → Drives c d w.number → Adds a d
alone_driven a b c d w o g k = opened_all_driven a b d (w.number ∷ []) o (drives_all_after b c d (w.number ∷ []) g (record { later = k.later; inputs = k.inputs; outputs = k.outputs; undriven = k.undriven }))

pub hold_means : (b1 b2 new : Built) (none kept moves ends held lanes w : Wire) → Adds b1 b2 → Adds b2 new → Means b1 none (λ v. 0)
    → Means b2 kept (λ v. if v ends.number == 1 then v none.number else v lanes.number)
    → Means new w (λ v. if v moves.number == 1 then v kept.number else v held.number)
    → Means new w (λ v. held_after true (high v moves) (high v ends) (v held.number) (v lanes.number))
hold_means b1 b2 new none kept moves ends held lanes w g h z k m = record {
  at = λ v s.
      let s2 = h.later.back v s in
      m.at v s
      ∙ ap (λ (n : ℕ). if high v moves then n else v held.number) (k.at v s2 ∙ ap (λ (n : ℕ). if high v ends then n else v lanes.number) (z.at v (g.later.back v s2)));
}

pub collected : (b1 b2 b3 new : Built) (t : Turn) (unit : ℕ) (wire held lanes next : Wire) → IsUndriven b1 held → Later b1 new → Later b2 new → Later b3 new → wire.width ≡ unit
    → Means b2 lanes (λ v. bit_or (v held.number) (v wire.number * 2 ^ (wire.width * v t.counted.lane.number)))
    → Means b3 next (λ v. held_after true (high v t.moves) (high v t.counted.ends) (v held.number) (v lanes.number))
    → Becomes new held (λ v. v next.number)
    → IsTurned new true unit t wire (record { lanes = lanes; held = Some held })
collected b1 b2 b3 new t unit wire held lanes next u l1 l2 l3 e m n k = record {
  starts = λ v a. a.holds held.number _ (register_later b1 new held l1 u.register).at refl;
  lanes = λ v n s h.
      m.at v (l2.back v s)
      ∙ ap (λ (x : ℕ). bit_or x (v wire.number * 2 ^ (wire.width * v t.counted.lane.number))) h
      ∙ ap (λ (x : ℕ). bit_or n (v wire.number * 2 ^ (x * v t.counted.lane.number))) e;
  nexts = λ v w j s q z h.
      k.at v w s q z
      ∙ n.at v (l3.back v s)
      ∙ ap (λ (x : ℕ). held_after true (high v t.moves) (high v t.counted.ends) x (v lanes.number)) h;
}

pub cut : (b : Built) (t : Turn) (unit : ℕ) (wire lanes : Wire) → Means b lanes (λ v. lanes_at 2 unit (unit * v t.counted.lane.number) (v wire.number)) → IsTurned b false unit t wire (record { lanes = lanes; held = None })
cut b t unit wire lanes m = record {
  starts = λ v a. tt;
  lanes = λ v n s h. m.at v s;
  nexts = λ v w j s q z h. tt;
}
