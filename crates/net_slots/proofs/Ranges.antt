-- Numbers in order, one further.
use Rattle.std.proofs.Common.{◌≡◌, ℕ, zero, suc, ◌+◌, ◌-◌, ◌*◌, ◌/◌, ◌^◌, ◌<◌, ◌≤◌, Bool, max, List, [], ◌∷◌, ◌++◌, length, map, get_or, refl, sym, ap, ◌∙◌, subst, arith, lit<, if◌then◌else◌}
use Rattle.std.specs.Prelude.{◌==◌, All}
use Rattle.std.specs.List.{range_with_len}
use Rattle.std.proofs.Math.Nat.{pow-le-pow_right}
use Rattle.std.proofs.lemmas.List.FromFn.{get_or-map-range_with_len, length-map-range_with_len, map-range_with_len_more}
use Rattle.tl_edge.specs.Beats.{data_beats}
use Rattle.net_build.specs.declared.types.Wire.{Wire}
use Rattle.net_build.specs.Bits.{MeansAll, wire_values}
use Rattle.net_build.specs.Built.{Built, IsWire}
use Rattle.net_build.specs.Values.{Adds, Means, high}
use Rattle.net_slots.specs.SlotWires.{FollowBeats}

same_map : (xs : List ℕ) → map (λ x. x) xs ≡ xs
same_map [] = refl
same_map (x ∷ xs) = ap (λ ys. x ∷ ys) (same_map xs)

pub range_more : (n : ℕ) → range_with_len 0 (n + 1) ≡ range_with_len 0 n ++ n ∷ []
range_more n =
    sym (same_map (range_with_len 0 (n + 1))) ∙ map-range_with_len_more (λ x. x) 0 n n (omega arith)
    ∙ ap (λ xs. xs ++ n ∷ []) (same_map (range_with_len 0 n))

pub lengths_more : (f : ℕ → ℕ) (n : ℕ) (out more : List ℕ) (x : ℕ) → out ≡ map f (range_with_len 0 n) → x ≡ f n → more ≡ out ++ x ∷ [] → more ≡ map f (range_with_len 0 (n + 1))
lengths_more f n out more x e h q = q ∙ ap (λ xs. xs ++ x ∷ []) e ∙ ap (λ y. map f (range_with_len 0 n) ++ y ∷ []) h ∙ sym (map-range_with_len_more f 0 n n (omega arith))

-- ---- how many beats follow

divided : (n m : ℕ) → n / m ≤ n
divided n m = grind arith

less_than : (n : ℕ) → n ≤ 256 → max 1 n - 1 < 256
less_than n h = grind arith

few_beats : (size bus : ℕ) → size ≤ 8 → data_beats size bus - 1 < 256
few_beats size bus h =
    let p : 2 ^ size ≤ 2 ^ 8 = pow-le-pow_right (lit< tt) h in
    less_than (2 ^ size / bus) (omega (arith, divided (2 ^ size) bus))

pub all_few : (count bus : ℕ) (xs ys : List ℕ) → count ≤ 9 → xs ≡ map (λ size. data_beats size bus - 1) (range_with_len 0 count) → ys ≡ xs → All (λ (value : ℕ). value < 256) ys
all_few count bus xs ys h e f k d b =
    let q = f ∙ e in
    let l : k < count = omega (arith, b, ap length q, length-map-range_with_len (λ size. data_beats size bus - 1) 0 count) in
    subst (λ (n : ℕ). n < 256) (sym (ap (λ zs. get_or zs k d) q ∙ get_or-map-range_with_len (λ size. data_beats size bus - 1) 0 count k k d l (omega arith))) (few_beats k bus (omega arith))

pub many_sizes : (width : ℕ) → 4 ≤ width → 9 ≤ 2 ^ width
many_sizes width h = let p : 2 ^ 4 ≤ 2 ^ width = pow-le-pow_right (lit< tt) h in omega arith

pub table_long : (count n : ℕ) (f : ℕ → ℕ) (xs ys : List ℕ) (ws ts : List Wire) → count ≤ n → xs ≡ map f (range_with_len 0 count) → ys ≡ xs → length ws ≡ length ys → ts ≡ ws → length ts ≤ n
table_long count n f xs ys ws ts h e g l q = omega (arith, ap length q, l, ap length g, ap length e, length-map-range_with_len f 0 count)

pub follow_beats : (b1 b2 b3 new : Built) (bus count : ℕ) (carries size rest none w : Wire) (counts cs : List ℕ) (table ts : List Wire) → Adds b1 b2 → Adds b2 b3 → Adds b3 new
    → IsWire b1 size → ((s : ℕ) → s ≤ 8 → s < 2 ^ size.width → s < count)
    → counts ≡ map (λ s. data_beats s bus - 1) (range_with_len 0 count) → cs ≡ counts → MeansAll b1 table (λ v. cs) → ts ≡ table
    → Means b2 rest (λ v. get_or (wire_values v ts) (v size.number) 0) → Means b3 none (λ v. 0)
    → Means new w (λ v. if v carries.number == 1 then v rest.number else v none.number) → FollowBeats new bus carries size w
follow_beats b1 b2 b3 new bus count carries size rest none w counts cs table ts g2 g3 g4 ws all e f t q r n m = record {
  at = λ v s small.
      let s3 = g4.later.back v s in
      let s2 = g3.later.back v s3 in
      let s1 = g2.later.back v s2 in
      let fits : v size.number < 2 ^ size.width = subst (λ k. v size.number < 2 ^ k) ws.has.1 (s1.fits size.number ws.has.0) in
      let is : v rest.number ≡ data_beats (v size.number) bus - 1 =
      r.at v s2 ∙ ap (λ us. get_or (wire_values v us) (v size.number) 0) q
      ∙ ap (λ xs. get_or xs (v size.number) 0) (t.at v s1 ∙ f ∙ e)
      ∙ get_or-map-range_with_len (λ s. data_beats s bus - 1) 0 count (v size.number) (v size.number) 0 (all (v size.number) small fits) (omega arith) in
      m.at v s
      ∙ ap (λ (x : ℕ). if high v carries then x else v none.number) is
      ∙ ap (λ (x : ℕ). if high v carries then data_beats (v size.number) bus - 1 else x) (n.at v s3);
}
