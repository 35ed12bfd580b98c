-- The registers of a queue, driven together.
use Rattle.std.proofs.Common.{◌≡◌, ℕ, zero, suc, ◌<◌, List, [], ◌∷◌, ◌++◌, length, get_or, sym, ◌∙◌, arith}
use Rattle.net_build.specs.declared.types.Wire.{Wire}
use Rattle.net_build.specs.Bits.{MeansAll}
use Rattle.net_build.specs.Built.{Built, IsBit, IsWire}
use Rattle.net_build.specs.Registers.{MayDrive}
use Rattle.net_build.specs.Values.{Later}
use Rattle.net_queue.specs.Rows.{AreAlike}
use Rattle.net_queue.proofs.Alike.{same_width, wire_ys}

may_cons : (b : Built) (w n : Wire) (ws ns : List Wire) → IsWire b n → n.width ≡ w.width → MayDrive b ws ns → MayDrive b (w ∷ ws) (n ∷ ns)
may_cons b w n ws ns h e g = record { each = λ k d f l. at k d f l }
  where
    at : (k : ℕ) (d f : Wire) → k < length (w ∷ ws) → IsWire b (get_or (n ∷ ns) k f) × ((get_or (n ∷ ns) k f).width ≡ (get_or (w ∷ ws) k d).width)
    at zero d f l = (h, e)
    at (suc k) d f l = g.each k d f (omega (arith, l))

may_tail : (b : Built) (w n : Wire) (ws ns : List Wire) → MayDrive b (w ∷ ws) (n ∷ ns) → MayDrive b ws ns
may_tail b w n ws ns h = record { each = λ k d f l. h.each (suc k) d f (omega (arith, l)) }

may_alike : (b : Built) (ws ns : List Wire) → AreAlike b ws ns → MayDrive b ws ns
may_alike b ws ns h = record { each = λ k d f l. (wire_ys b ws ns k f h l, same_width b ws ns k d f h l) }

may_both : (b : Built) (xs ms ys ns : List Wire) → length ms ≡ length xs → MayDrive b xs ms → MayDrive b ys ns → MayDrive b (xs ++ ys) (ms ++ ns)
may_both b [] [] ys ns l h g = g
may_both b [] (n ∷ ms) ys ns l h g = absurd (omega (arith, l))
may_both b (w ∷ xs) [] ys ns l h g = absurd (omega (arith, l))
may_both b (w ∷ xs) (n ∷ ms) ys ns l h g =
    let x = h.each 0 w n (omega arith) in
    may_cons b w n (xs ++ ys) (ms ++ ns) x.0 x.1 (may_both b xs ms ys ns (omega (arith, l)) (may_tail b w n xs ms h) g)

pub may_four : (b : Built) (valid full later more : Wire) (head last heads lasts : List Wire) → IsBit b valid → IsBit b full → IsBit b later → IsBit b more → AreAlike b head heads → AreAlike b last lasts → MayDrive b (valid ∷ full ∷ head ++ last) (later ∷ more ∷ heads ++ lasts)
may_four b valid full later more head last heads lasts v f l m h g =
    may_cons b valid later _ _ l.wire (l.one ∙ sym v.one)
    (may_cons b full more _ _ m.wire (m.one ∙ sym f.one)
    (may_both b head heads last lasts h.long (may_alike b head heads h) (may_alike b last lasts g)))

pub means_all_later : (old new : Built) (ws : List Wire) (f : (ℕ → ℕ) → List ℕ) → Later old new → MeansAll old ws f → MeansAll new ws f
means_all_later old new ws f g m = record { at = λ v s. m.at v (g.back v s) }
