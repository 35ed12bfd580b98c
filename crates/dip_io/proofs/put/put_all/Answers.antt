use Rattle.std.proofs.Common.{◌≡◌, ◌≤◌, ◌++◌, ℕ, List, length, take, drop, ◌+◌, ◌-◌, Some, None, Option, ap, refl, ◌∙◌, arith, append_assoc}
use Rattle.std.specs.Option.{option_map}
use Rattle.std.proofs.Math.Seq.{take-add}
use Rattle.std.proofs.lemmas.Grind.{common_steps}
use Rattle.dip_io.proofs.put.put_all.Goals as goal

rest_whole : (d : ℕ) (bytes : List ℕ) → take (length bytes - d) (drop d bytes) ≡ drop d bytes
rest_whole d bytes = grind (arith, common_steps)

-- what was told, then the first d bytes, then k of the rest
further : (told : Option (List ℕ)) (bytes : List ℕ) (d k : ℕ)
    → option_map (λ w. w ++ take k (take (length bytes - d) (drop d bytes))) (option_map (λ w. w ++ take d bytes) told) ≡ option_map (λ w. w ++ take (d + k) bytes) told
further None bytes d k = refl
further (Some w) bytes d k = ap Some (rw (rest_whole d bytes, take-add d k bytes) (append_assoc w (take d bytes) (take k (drop d bytes))))

step : (a b e : Option (List ℕ)) (bytes : List ℕ) (d k : ℕ) → b ≡ option_map (λ w. w ++ take d bytes) a
    → e ≡ option_map (λ w. w ++ take k (take (length bytes - d) (drop d bytes))) b → e ≡ option_map (λ w. w ++ take (d + k) bytes) a
step a b e bytes d k hb he = he ∙ ap (option_map (λ w. w ++ take k (take (length bytes - d) (drop d bytes)))) hb ∙ further a bytes d k

more : (d k : ℕ) (bytes : List ℕ) → d ≤ length bytes → k ≤ length (take (length bytes - d) (drop d bytes)) → d + k ≤ length bytes
more d k bytes h e = grind (arith, common_steps)

pub loop-done-preserved : goal.loop-done-preserved
loop-done-preserved g c = record {
  within = more _ _ _ c.loop-done.invariant.within c.in_ok-done.ensures.within;
  so_far = step _ _ _ _ _ _ c.loop-done.invariant.so_far c.in_ok-done.ensures.ok;
  later = omega (arith, c.loop-done.invariant.later, c.in_ok-done.ensures.later);
}
