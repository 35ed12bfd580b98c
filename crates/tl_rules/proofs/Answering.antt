-- What the answers of single standard rules are.
use Rattle.std.proofs.Common.{ℕ, ◌≡◌, ◌≤◌, min, max, List, [], ◌∷◌, Bool, true, false, ◌&&◌, ◌||◌, ◌==◌, ◌⊎◌, inl, inr, cond, nat_le, IsTrue, Option, Some, None, Result, Ok, Err, refl, sym, ap, ◌∙◌, subst, arith, le-leb}
use Rattle.std.specs.Prelude.{Contains}
use Rattle.std.proofs.lemmas.Bool.{and_from, and_parts, eqb-true, eq-eqb, leb-true, or_cases}
use Rattle.dip_sets.specs.SizeRanges.{SizeRange, is_within, cover}
use Rattle.dip_lists.proofs.Pairs.{nowhere, within_cases}
use Rattle.tl_params.specs.declared.ops.Ops.{Ops}
use Rattle.tl_params.specs.declared.ports.Master.{Master}
use Rattle.tl_params.specs.declared.ports.DownPort.{DownPort}
use Rattle.tl_params.specs.declared.ports.UpPort.{UpPort}
use Rattle.tl_params.specs.Arguments.{is_width, shrink_argument}
use Rattle.tl_params.specs.Carried.{ops_fit}
use Rattle.tl_rules.specs.Refusals.{with_arguments}
use Rattle.tl_rules.specs.Adapters.{width_up, with_beat}
use Rattle.tl_rules.specs.Crossbars.{joined_port, xbar_up}
use Rattle.tl_rules.specs.Shrinks.{cover_emits, cover_ops, shrunk_port, shrinker_down}
use Rattle.tl_rules.specs.RulesAnswer.{RulesAnswerLaw}

-- ---- sizes within a cover

Within : SizeRange → SizeRange → Type 0
Within s t = (s.max ≡ 0) ⊎ ((t.min ≤ s.min) × (s.max ≤ t.max))

from_test : (s t : SizeRange) → is_within s t ≡ true → Within s t
unfolding Within
from_test s t h = elim (or_cases (s.max == 0) (nat_le t.min s.min && nat_le s.max t.max) h) [
  | inl e ↦ inl (eqb-true s.max 0 e)
  | inr b ↦ (let p = and_parts (nat_le t.min s.min) (nat_le s.max t.max) b in inr (leb-true t.min s.min p.0, leb-true s.max t.max p.1))
]

or_left : (a b : Bool) → a ≡ true → (a || b) ≡ true
or_left true b h = refl
or_left false b h = absurd cc

or_right : (a b : Bool) → b ≡ true → (a || b) ≡ true
or_right true b h = refl
or_right false b h = h

to_test : (s t : SizeRange) → Within s t → is_within s t ≡ true
unfolding Within
to_test s t (inl e) = or_left (s.max == 0) (nat_le t.min s.min && nat_le s.max t.max) (eq-eqb s.max 0 e)
to_test s t (inr b) = or_right (s.max == 0) (nat_le t.min s.min && nat_le s.max t.max) (and_from (nat_le t.min s.min) (nat_le s.max t.max) (le-leb t.min s.min b.0) (le-leb s.max t.max b.1))

further : (a b c : SizeRange) → is_within a b ≡ true → is_within b c ≡ true → is_within a c ≡ true
unfolding Within
further a b c h k = to_test a c (elim (from_test a b h) [
  | inl e ↦ inl e
  | inr p ↦ elim (from_test b c k) [
    | inl z ↦ (let l : a.max ≤ b.max = p.1 in let n : a.max ≡ 0 = omega (arith, l, z) in inl n)
    | inr q ↦ (let x = p.0 in let y = p.1 in let u = q.0 in let v = q.1 in inr (omega (arith, x, u), omega (arith, y, v)))
  ]
])

own : (s : SizeRange) → is_within s s ≡ true
unfolding Within
own s = to_test s s (inr (omega arith, omega arith))

left_cover : (s t : SizeRange) → is_within s (cover s t) ≡ true
unfolding Within
left_cover s t = by (s.max == 0) refl
  where
    inner : (b : Bool) → is_within s (cond b s (record { min = min s.min t.min; max = max s.max t.max })) ≡ true
    inner true = own s
    inner false = to_test s (record { min = min s.min t.min; max = max s.max t.max }) (inr (omega arith, omega arith))

    by : (b : Bool) → (s.max == 0) ≡ b → is_within s (cond b t (cond (t.max == 0) s (record { min = min s.min t.min; max = max s.max t.max }))) ≡ true
    by true e = or_left (s.max == 0) _ e
    by false e = inner (t.max == 0)

right_cover : (s t : SizeRange) → is_within t (cover s t) ≡ true
unfolding Within
right_cover s t = by (s.max == 0)
  where
    inner : (b : Bool) → (t.max == 0) ≡ b → is_within t (cond b s (record { min = min s.min t.min; max = max s.max t.max })) ≡ true
    inner true e = or_left (t.max == 0) _ e
    inner false e = to_test t (record { min = min s.min t.min; max = max s.max t.max }) (inr (omega arith, omega arith))

    by : (b : Bool) → is_within t (cond b t (cond (t.max == 0) s (record { min = min s.min t.min; max = max s.max t.max }))) ≡ true
    by true = own t
    by false = inner (t.max == 0) refl

-- ---- the same of each operation

record Each (a b : Ops) : Type 0 where
  get : is_within a.get b.get ≡ true
  put_full : is_within a.put_full b.put_full ≡ true
  put_partial : is_within a.put_partial b.put_partial ≡ true
  arithmetic : is_within a.arithmetic b.arithmetic ≡ true
  logical : is_within a.logical b.logical ≡ true
  intent : is_within a.intent b.intent ≡ true

all_of : (a b : Ops) → Each a b → ops_fit None a b ≡ true
all_of a b e =
    and_from _ _ (and_from _ _ (and_from _ _ (and_from _ _ (and_from _ _ e.get e.put_full) e.put_partial) e.arithmetic) e.logical) e.intent

each_further : (a b c : Ops) → Each a b → Each b c → Each a c
each_further a b c h k = record {
  get = further a.get b.get c.get h.get k.get;
  put_full = further a.put_full b.put_full c.put_full h.put_full k.put_full;
  put_partial = further a.put_partial b.put_partial c.put_partial h.put_partial k.put_partial;
  arithmetic = further a.arithmetic b.arithmetic c.arithmetic h.arithmetic k.arithmetic;
  logical = further a.logical b.logical c.logical h.logical k.logical;
  intent = further a.intent b.intent c.intent h.intent k.intent;
}

each_left : (a b : Ops) → Each a (cover_ops a b)
each_left a b = record {
  get = left_cover a.get b.get;
  put_full = left_cover a.put_full b.put_full;
  put_partial = left_cover a.put_partial b.put_partial;
  arithmetic = left_cover a.arithmetic b.arithmetic;
  logical = left_cover a.logical b.logical;
  intent = left_cover a.intent b.intent;
}

each_right : (a b : Ops) → Each b (cover_ops a b)
each_right a b = record {
  get = right_cover a.get b.get;
  put_full = right_cover a.put_full b.put_full;
  put_partial = right_cover a.put_partial b.put_partial;
  arithmetic = right_cover a.arithmetic b.arithmetic;
  logical = right_cover a.logical b.logical;
  intent = right_cover a.intent b.intent;
}

each_own : (a : Ops) → Each a a
each_own a = record { get = own a.get; put_full = own a.put_full; put_partial = own a.put_partial; arithmetic = own a.arithmetic; logical = own a.logical; intent = own a.intent }

covers_first : (ops : Ops) (masters : List Master) → Each ops (cover_emits ops masters)
covers_first ops [] = each_own ops
covers_first ops (m ∷ masters) = each_further ops (cover_ops ops m.emits) (cover_emits (cover_ops ops m.emits) masters) (each_left ops m.emits) (covers_first (cover_ops ops m.emits) masters)

covers_each : (ops : Ops) (masters : List Master) (m : Master) → Contains masters m → Each m.emits (cover_emits ops masters)
covers_each ops [] m c = absurd (nowhere m c)
covers_each ops (x ∷ masters) m c = elim (within_cases x m masters c) [
  | inl e ↦ subst (λ (y : Master). Each y.emits (cover_emits (cover_ops ops x.emits) masters)) e
      (each_further x.emits (cover_ops ops x.emits) (cover_emits (cover_ops ops x.emits) masters) (each_right ops x.emits) (covers_first (cover_ops ops x.emits) masters))
  | inr later ↦ covers_each (cover_ops ops x.emits) masters m later
]

-- ---- the answers

same_master : (x y : Master) → Contains (x ∷ []) y → x ≡ y
same_master x y c = elim (within_cases x y [] c) [ inl e ↦ e | inr later ↦ absurd (nowhere y later) ]

shrunk_emits : (ids : ℕ) (masters : List Master) (below : DownPort) → shrunk_port ids masters ≡ Ok below → (above shrunk : Master) → Contains masters above → Contains below.masters shrunk
    → Each above.emits shrunk.emits
shrunk_emits ids [] below h above shrunk c d = absurd cc
shrunk_emits ids (m ∷ masters) below h above shrunk c d =
    let only : DownPort = record { masters = record { node = m.node; port = m.port; ids = record { start = 0; end = ids }; emits = cover_emits m.emits masters } ∷ [] } in
    let is : only ≡ below = cc in
    let one = same_master (record { node = m.node; port = m.port; ids = record { start = 0; end = ids }; emits = cover_emits m.emits masters }) shrunk
    (subst (λ (p : DownPort). Contains p.masters shrunk) (sym is) d) in
    subst (λ (x : Master). Each above.emits x.emits) one (elim (within_cases m above masters c) [
      | inl e ↦ subst (λ (y : Master). Each y.emits (cover_emits m.emits masters)) e (covers_first m.emits masters)
      | inr later ↦ covers_each m.emits masters above later
    ])

shrunk : (args : List ℕ) (down below : DownPort) → shrinker_down args (down ∷ []) ≡ Ok below → (above shrunk : Master) → Contains down.masters above → Contains below.masters shrunk
    → IsTrue (ops_fit None above.emits shrunk.emits)
shrunk args down below h above m c d = by (shrink_argument args) h
  where
    by : (o : Option ℕ) → with_arguments o (λ ids. shrunk_port ids down.masters) ≡ Ok below → IsTrue (ops_fit None above.emits m.emits)
    by None h = absurd cc
    by (Some ids) h = all_of above.emits m.emits (shrunk_emits ids down.masters below h above m c d)

wide : (args : List ℕ) (up above : UpPort) → width_up args (up ∷ []) ≡ Ok above → args ≡ above.beat ∷ []
wide [] up above h = absurd cc
wide (w ∷ []) up above h = by (is_width w) h
  where
    by : (b : Bool) → with_arguments (cond b (Some w) None) (λ width. Ok (with_beat width up)) ≡ Ok above → w ∷ [] ≡ above.beat ∷ []
    by true h = let e : with_beat w up ≡ above = cc in ap (λ (p : UpPort). p.beat ∷ []) e
    by false h = absurd cc
wide (w ∷ x ∷ more) up above h = absurd cc

crossed : (args : List ℕ) (first : UpPort) (rest : List UpPort) (above : UpPort) → xbar_up args (first ∷ rest) ≡ Ok above → above.beat ≡ first.beat
crossed [] first rest above h = by (joined_port (first ∷ rest)) refl h
  where
    by : (r : Result UpPort ℕ) → joined_port (first ∷ rest) ≡ r → r ≡ Ok above → above.beat ≡ first.beat
    by r e h = ap beat_of (sym (e ∙ h))
      where
        beat_of : Result UpPort ℕ → ℕ
        beat_of (Ok p) = p.beat
        beat_of (Err n) = 0
crossed (arg ∷ args) first rest above h = absurd cc

pub rules_answer : RulesAnswerLaw
rules_answer = record { width = wide; xbar = crossed; shrinker = shrunk }
