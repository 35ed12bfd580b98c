-- Rows of wires with the same widths.
use Rattle.std.proofs.Common.{◌≡◌, ℕ, suc, ◌<◌, List, [], ◌∷◌, length, get_or, refl, sym, ap, ◌∙◌, subst, arith}
use Rattle.std.proofs.lemmas.List.{get_or-map, length-map}
use Rattle.net_build.specs.declared.types.Wire.{Wire}
use Rattle.net_build.specs.Built.{Built, IsWire}
use Rattle.net_build.specs.Registers.{AreWires}
use Rattle.net_build.specs.Values.{Later, Adds}
use Rattle.net_build.proofs.OpenedLists.{widths_later}
use Rattle.net_queue.specs.Rows.{AreAlike, row_widths}

-- rows with these widths have them
pub widths_are : (b : Built) (widths : List ℕ) (ws : List Wire) → length ws ≡ length widths → AreWires b widths ws → row_widths ws ≡ widths
widths_are b [] [] l h = refl
widths_are b [] (w ∷ ws) l h = absurd (omega (arith, l))
widths_are b (n ∷ widths) [] l h = absurd (omega (arith, l))
widths_are b (n ∷ widths) (w ∷ ws) l h =
    let t : row_widths ws ≡ widths = widths_are b widths ws (omega (arith, l)) (record { each = λ k d m. h.each (suc k) d (omega (arith, m)) }) in
    ap (λ (ns : List ℕ). w.width ∷ ns) t ∙ ap (λ (m : ℕ). m ∷ widths) (h.each 0 w (omega arith)).1

pub alike_later : (old new : Built) (xs ys : List Wire) → Later old new → AreAlike old xs ys → AreAlike new xs ys
alike_later old new xs ys g h = record {
  long = h.long;
  one = widths_later old new (row_widths xs) xs g h.one;
  other = widths_later old new (row_widths xs) ys g h.other;
}

pub alike_adds : (old new : Built) (xs ys : List Wire) → Adds old new → AreAlike old xs ys → AreAlike new xs ys
alike_adds old new xs ys g h = alike_later old new xs ys g.later h

-- two rows that are like a third are alike
pub alike_both : (b : Built) (xs ys zs : List Wire) → AreAlike b xs ys → AreAlike b xs zs → AreAlike b ys zs
alike_both b xs ys zs h g =
    let e : row_widths ys ≡ row_widths xs = widths_are b (row_widths xs) ys (h.long ∙ sym (length-map xs (λ (w : Wire). w.width))) h.other in
    record {
      long = g.long ∙ sym h.long;
      one = subst (λ (ns : List ℕ). AreWires b ns ys) (sym e) h.other;
      other = subst (λ (ns : List ℕ). AreWires b ns zs) (sym e) g.other;
    }

pub alike_back : (b : Built) (xs ys : List Wire) → AreAlike b xs ys → AreAlike b ys xs
alike_back b xs ys h = alike_both b xs ys xs h (record { long = refl; one = h.one; other = h.one })

-- rows of these widths
pub alike_made : (b : Built) (widths : List ℕ) (xs ys : List Wire) → length xs ≡ length widths → length ys ≡ length widths → AreWires b widths xs → AreWires b widths ys → AreAlike b xs ys
alike_made b widths xs ys l m h g =
    let e = widths_are b widths xs l h in
    record {
      long = m ∙ sym l;
      one = subst (λ (ns : List ℕ). AreWires b ns xs) (sym e) h;
      other = subst (λ (ns : List ℕ). AreWires b ns ys) (sym e) g;
    }

-- wires at one place of both
pub wire_xs : (b : Built) (xs ys : List Wire) (k : ℕ) (d : Wire) → AreAlike b xs ys → k < length xs → IsWire b (get_or xs k d)
wire_xs b xs ys k d h l = (h.one.each k d l).0

pub wire_ys : (b : Built) (xs ys : List Wire) (k : ℕ) (d : Wire) → AreAlike b xs ys → k < length xs → IsWire b (get_or ys k d)
wire_ys b xs ys k d h l = (h.other.each k d (omega (arith, h.long, l))).0

pub same_width : (b : Built) (xs ys : List Wire) (k : ℕ) (d e : Wire) → AreAlike b xs ys → k < length xs → (get_or ys k e).width ≡ (get_or xs k d).width
same_width b xs ys k d e h l = (h.other.each k e (omega (arith, h.long, l))).1 ∙ sym (h.one.each k d l).1

pub width_at : (xs : List Wire) (k : ℕ) (d : Wire) → k < length xs → (get_or xs k d).width ≡ get_or (row_widths xs) k 0
width_at xs k d l = sym (get_or-map (λ (w : Wire). w.width) xs k d 0 l)
