-- What a gate's registers hold after a cycle.
use Rattle.std.proofs.Common.{◌≡◌, ℕ, ◌-◌, Bool, false, ◌&&◌, List, length, replicate, sym, ap, ◌∙◌, if◌then◌else◌}
use Rattle.std.specs.Prelude.{◌==◌}
use Rattle.std.proofs.lemmas.List.{length-map}
use Rattle.net_build.specs.declared.types.Wire.{Wire}
use Rattle.net_build.specs.Bits.{AreBits, TellsAll, highs, wire_values}
use Rattle.net_build.specs.Built.{Built, IsWire}
use Rattle.net_build.specs.Values.{Adds, Means, Solves, Tells, high}
use Rattle.net_build.proofs.Folded.{bits_adds}
use Rattle.net_build.proofs.Steps.{adds_adds, wire_adds}
use Rattle.net_choice.specs.declared.rows.Pairing.TheVariants.{Both, Either}
use Rattle.net_choice.specs.Choice.{grants_of}
use Rattle.net_choice.specs.Rows.{any_of, behind_of, paired, pairs}
use Rattle.net_gate.specs.declared.types.Registers.{Registers}
use Rattle.net_gate.specs.Built.{HasSideShape, IsAfter, IsSideCycle, wanted_at, side_at}
use Rattle.net_gate.specs.Sides.{GateSide, after_grants, grants_in, may_of, picked_rest}

pub grants_tell : (mid new : Built) (round : Bool) (unlocked ready : Wire) (mine wants late ns ls may ms grants : List Wire) → Adds mid new
    → ns ≡ mine → ls ≡ late → length may ≡ length wants
    → TellsAll mid may (λ v. pairs (paired Both) (highs v wants) (pairs (paired Either) (replicate (length (highs v ns)) (high v unlocked)) (highs v ns))) → ms ≡ may
    → TellsAll new grants (λ v. grants_of round (highs v ls) (pairs (paired Both) (highs v ms) (replicate (length ms) (high v ready))))
    → TellsAll new grants (λ v. grants_of round (highs v late) (may_of (high v unlocked) (highs v mine) (highs v wants) (high v ready)))
grants_tell mid new round unlocked ready mine wants late ns ls may ms grants g n l w m e h = record {
  at = λ v s.
      let long : length ms ≡ length (highs v wants) = ap length e ∙ w ∙ sym (length-map wants (high v)) in
      let may_is : highs v ms ≡ pairs (paired Both) (highs v wants) (pairs (paired Either) (replicate (length (highs v mine)) (high v unlocked)) (highs v mine)) = ap (highs v) e ∙ m.at v (g.later.back v s) ∙ ap (λ zs. pairs (paired Both) (highs v wants) (pairs (paired Either) (replicate (length (highs v zs)) (high v unlocked)) (highs v zs))) n in
      h.at v s
      ∙ ap (λ zs. grants_of round (highs v zs) (pairs (paired Both) (highs v ms) (replicate (length ms) (high v ready)))) l
      ∙ ap (λ k. grants_of round (highs v late) (pairs (paired Both) (highs v ms) (replicate k (high v ready)))) long
      ∙ ap (λ zs. grants_of round (highs v late) (pairs (paired Both) zs (replicate (length (highs v wants)) (high v ready)))) may_is;
}

pub after_is : (b0 b1 b2 b3 b4 new : Built) (round : Bool) (now : Registers) (grants : List Wire) (valid unlocked rest left begins : Wire) (mine late rests : List Wire)
    → Adds b0 b1 → Adds b1 b2 → Adds b2 b3 → Adds b3 b4 → Adds b4 new
    → Tells b0 unlocked (λ v. v now.left.number == 0)
    → Means b1 rest (λ v. picked_rest (highs v grants) (wire_values v rests))
    → Means b2 left (λ v. if high v valid then (if v now.left.number == 0 then v rest.number else v now.left.number - 1) else v now.left.number)
    → TellsAll b3 mine (λ v. if high v valid then highs v grants else highs v now.mine)
    → Tells b4 begins (λ v. high v valid && high v unlocked)
    → TellsAll new late (λ v. if round then (if high v begins then behind_of false (highs v grants) else highs v now.late) else highs v now.late)
    → IsAfter new round now grants valid rests (record { left = left; mine = mine; late = late })
after_is b0 b1 b2 b3 b4 new round now grants valid unlocked rest left begins mine late rests g1 g2 g3 g4 g5 u r l m n t = record {
  left = λ v s.
      let s2 = g3.later.back v (g4.later.back v (g5.later.back v s)) in
      l.at v s2 ∙ ap (λ x. if high v valid then (if v now.left.number == 0 then x else v now.left.number - 1) else v now.left.number) (r.at v (g2.later.back v s2));
  mine = λ v s. m.at v (g4.later.back v (g5.later.back v s));
  late = λ v s.
      let s4 = g5.later.back v s in
      let s0 = g1.later.back v (g2.later.back v (g3.later.back v (g4.later.back v s4))) in
      t.at v s
      ∙ ap (λ (c : Bool). if round then (if c then behind_of false (highs v grants) else highs v now.late) else highs v now.late) (n.at v s4 ∙ ap (λ (c : Bool). high v valid && c) (u.at v s0));
}

pub shape_is : (b1 b2 b3 b4 new : Built) (round : Bool) (count wide : ℕ) (now : Registers) (left : Wire) (mine late : List Wire) → Adds b2 b3 → Adds b3 b4 → Adds b4 new
    → IsWire b2 left → left.width ≡ wide → AreBits b3 mine → length mine ≡ count → AreBits new late → length late ≡ length now.late → HasSideShape b1 round count wide now
    → HasSideShape new round count wide (record { left = left; mine = mine; late = late })
shape_is b1 b2 b3 b4 new round count wide now left mine late g h i l w m ml t tl s = record {
  left = wire_adds b2 new left (adds_adds b2 b3 new g (adds_adds b3 b4 new h i)) l;
  sized = w;
  mine = bits_adds b3 new mine (adds_adds b3 b4 new h i) m;
  mine_long = ml;
  late = t;
  late_long = tl ∙ s.late_long;
}

pub shape_adds : (old new : Built) (round : Bool) (count wide : ℕ) (r : Registers) → Adds old new → HasSideShape old round count wide r → HasSideShape new round count wide r
shape_adds old new round count wide r g h = record {
  left = wire_adds old new r.left g h.left;
  sized = h.sized;
  mine = bits_adds old new r.mine g h.mine;
  mine_long = h.mine_long;
  late = bits_adds old new r.late g h.late;
  late_long = h.late_long;
}

abbrev side_of : ℕ → List Bool → List Bool → GateSide
side_of l m t = record { left = l; mine = m; late = t }

pub cycle_is : (b0 b1 new : Built) (round : Bool) (wants : List Wire) (ready : Wire) (rests : List Wire) (now next : Registers) (unlocked valid : Wire) (grants gs : List Wire)
    → Adds b0 b1 → Adds b1 new
    → Tells b0 unlocked (λ v. v now.left.number == 0)
    → TellsAll b1 grants (λ v. grants_of round (highs v now.late) (may_of (high v unlocked) (highs v now.mine) (highs v wants) (high v ready)))
    → Tells b1 valid (λ v. any_of (highs v grants))
    → gs ≡ grants
    → IsAfter new round now gs valid rests next
    → IsSideCycle new round wants ready rests now grants valid next
cycle_is b0 b1 new round wants ready rests now next unlocked valid grants gs g1 g2 u h t e f = record {
  granted = λ v s. granted v s;
  some = λ v s. t.at v (g2.later.back v s);
  nexts = λ v s.
      let x = wanted_at v wants ready rests in
      let is = ap (highs v) e ∙ granted v s in
      let go = t.at v (g2.later.back v s) ∙ ap any_of (granted v s) in
      ap (λ k. side_of k (highs v next.mine) (highs v next.late)) (f.left v s)
      ∙ ap (λ k. side_of (after_grants round (side_at v now) x (highs v gs) (high v valid)).left k (highs v next.late)) (f.mine v s)
      ∙ ap (λ k. side_of (after_grants round (side_at v now) x (highs v gs) (high v valid)).left (after_grants round (side_at v now) x (highs v gs) (high v valid)).mine k) (f.late v s)
      ∙ ap (λ k. after_grants round (side_at v now) x k (high v valid)) is
      ∙ ap (after_grants round (side_at v now) x (grants_in round (side_at v now) x)) go;
}
  where
    granted : (v : ℕ → ℕ) → Solves new v → highs v grants ≡ grants_in round (side_at v now) (wanted_at v wants ready rests)
    granted v s =
        let s1 = g2.later.back v s in
        h.at v s1 ∙ ap (λ c. grants_of round (highs v now.late) (may_of c (highs v now.mine) (highs v wants) (high v ready))) (u.at v (g1.later.back v s1))
