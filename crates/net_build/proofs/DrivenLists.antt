-- Registers driven one after another.
use Rattle.std.proofs.Common.{◌≡◌, ℕ, ◌+◌, ◌<◌, ◌≤◌, List, [], ◌∷◌, ◌++◌, length, take, get_or, refl, sym, ap, ◌∙◌, subst, arith, inl, inr}
use Rattle.std.specs.Prelude.{filter, not, ◌==◌}
use Rattle.std.proofs.lemmas.Bool.{cases_lt}
use Rattle.std.proofs.lemmas.List.{append-nil, take_more, take_all, get_or_default}
use Rattle.net_build.specs.declared.types.Wire.{Wire}
use Rattle.net_build.specs.Built.{Built, IsUndriven, IsWire, undriven}
use Rattle.net_build.specs.Registers.{AllTake, AreDistinct, AreUndriven, DrivesAll, MayDrive, numbers, without}
use Rattle.net_build.specs.Values.{Adds, Drives, Later, Opens, Takes}
use Rattle.net_build.proofs.Opened.{Apart, apart_less, drops_one, opened_apart}
use Rattle.net_build.proofs.OpenedLists.{later_same}
use Rattle.net_build.proofs.Steps.{later_later, takes_later, undriven_drives, wire_later}

-- those from a place on aren't driven yet
pub record AreUndrivenFrom (b : Built) (from : ℕ) (ws : List Wire) : Type 0 where
  pub each : (k : ℕ) (d : Wire) → from ≤ k → k < length ws → IsUndriven b (get_or ws k d)

-- the first so many of them take these wires
pub record FirstsTake (b : Built) (upto : ℕ) (ws nexts : List Wire) : Type 0 where
  pub each : (k : ℕ) (d e : Wire) → k < upto → k < length ws → k < length nexts → Takes b (get_or ws k d) (λ v. v (get_or nexts k e).number)

without_more : (rs xs : List ℕ) (r : ℕ) → without (rs ++ r ∷ []) xs ≡ filter (λ n. not (n == r)) (without rs xs)
without_more [] xs r = refl
without_more (q ∷ rs) xs r = without_more rs (filter (λ n. not (n == q)) xs) r

numbers_more : (xs : List Wire) (w : Wire) → numbers (xs ++ w ∷ []) ≡ numbers xs ++ w.number ∷ []
numbers_more [] w = refl
numbers_more (x ∷ xs) w = ap (λ ns. x.number ∷ ns) (numbers_more xs w)

pub drives_none : (b : Built) (ws : List Wire) → DrivesAll b b (numbers (take 0 ws))
drives_none b ws = record { later = later_same b; inputs = refl; outputs = refl; undriven = refl }

pub drives_more : (old mid new : Built) (ws : List Wire) (k : ℕ) (d : Wire) → k < length ws → DrivesAll old mid (numbers (take k ws)) → Drives mid new (get_or ws k d).number → DrivesAll old new (numbers (take (k + 1) ws))
drives_more old mid new ws k d b g h = record {
  later = later_later old mid new g.later h.later;
  inputs = h.inputs ∙ g.inputs;
  outputs = h.outputs ∙ g.outputs;
  undriven = h.undriven ∙ ap (filter (λ n. not (n == (get_or ws k d).number))) g.undriven ∙ sym (ap (λ rs. without rs (undriven old)) (ap numbers (take_more ws k d b) ∙ numbers_more (take k ws) (get_or ws k d)) ∙ without_more (numbers (take k ws)) (undriven old) (get_or ws k d).number);
}

pub drives_whole : (old new : Built) (ws : List Wire) (k : ℕ) → length ws ≤ k → DrivesAll old new (numbers (take k ws)) → DrivesAll old new (numbers ws)
drives_whole old new ws k b h = subst (λ xs. DrivesAll old new (numbers xs)) (take_all k ws b) h

pub undriven_first : (b : Built) (ws : List Wire) → AreUndriven b ws → AreUndrivenFrom b 0 ws
undriven_first b ws h = record { each = λ k d f r. h.each k d r }

pub undriven_next : (mid new : Built) (ws : List Wire) (k : ℕ) (d : Wire) → AreDistinct ws → AreUndrivenFrom mid k ws → Drives mid new (get_or ws k d).number → AreUndrivenFrom new (k + 1) ws
undriven_next mid new ws k d a w h = record {
  each = λ j e s r. undriven_drives mid new (get_or ws k d).number (get_or ws j e) (λ q. a.pairs k j d (omega arith) r (sym q ∙ ap (λ (w : Wire). w.number) (get_or_default ws j e d r))) h (w.each j e (omega arith) r);
}

pub take_none : (b : Built) (ws nexts : List Wire) → FirstsTake b 0 ws nexts
take_none b ws nexts = record { each = λ k d e l. absurd (omega arith) }

pub take_next : (mid new : Built) (ws nexts : List Wire) (k : ℕ) (d e : Wire) → FirstsTake mid k ws nexts → Drives mid new (get_or ws k d).number → Takes new (get_or ws k d) (λ v. v (get_or nexts k e).number) → FirstsTake new (k + 1) ws nexts
take_next mid new ws nexts k d e g h n = record {
  each = λ j c f r s t. elim (cases_lt j k) [
    | inl i ↦ takes_later mid new _ _ h.later (g.each j c f i s t)
    | inr i ↦
        let q : k ≡ j = omega arith in
        subst (λ (w : Wire). Takes new w (λ v. v (get_or nexts j f).number)) (get_or_default ws j d c s)
        (subst (λ (x : Wire). Takes new (get_or ws j d) (λ v. v x.number)) (get_or_default nexts j e f t)
        (subst (λ i. Takes new (get_or ws i d) (λ v. v (get_or nexts i e).number)) q n))
  ];
}

pub take_done : (b : Built) (ws nexts : List Wire) (k : ℕ) → length ws ≤ k → length nexts ≡ length ws → FirstsTake b k ws nexts → AllTake b ws nexts
take_done b ws nexts k h l f = record { each = λ j d e r. f.each j d e (omega arith) r (omega (arith, l)) }

pub next_at : (old new : Built) (ws nexts : List Wire) (k : ℕ) (d e : Wire) → Later old new → MayDrive old ws nexts → k < length ws → IsWire new (get_or nexts k e) × ((get_or nexts k e).width ≡ (get_or ws k d).width)
next_at old new ws nexts k d e l a b = (wire_later old new _ l (a.each k d e b).0, (a.each k d e b).1)

without_opened : (rs xs : List ℕ) → Apart (xs ++ rs) → without rs (xs ++ rs) ≡ xs
without_opened [] xs h = append-nil xs
without_opened (r ∷ rs) xs h = ap (without rs) (drops_one xs rs r h) ∙ without_opened rs xs (apart_less xs rs r h)

-- what is opened and then driven is added
pub opened_all_driven : (old mid new : Built) (rs : List ℕ) → Opens old mid rs → DrivesAll mid new rs → Adds old new
opened_all_driven old mid new rs g h = record {
  later = later_later old mid new g.later h.later;
  inputs = h.inputs ∙ g.inputs;
  outputs = h.outputs ∙ g.outputs;
  undriven = h.undriven ∙ ap (without rs) g.undriven ∙ without_opened rs (undriven old) (opened_apart old mid rs g);
}

pub drives_all_after : (old mid new : Built) (rs : List ℕ) → Adds old mid → DrivesAll mid new rs → DrivesAll old new rs
drives_all_after old mid new rs g h = record {
  later = later_later old mid new g.later h.later;
  inputs = h.inputs ∙ g.inputs;
  outputs = h.outputs ∙ g.outputs;
  undriven = h.undriven ∙ ap (without rs) g.undriven;
}
