-- Moves of which any two are apart may be made in any order.
use Rattle.std.proofs.Common.{◌≡◌, ℕ, zero, suc, ◌<◌, List, [], ◌∷◌, length, set, get_or, refl, sym, ap, ◌∙◌, subst, arith, IsTrue}
use Rattle.std.specs.Prelude.{IsPermutation}
use Rattle.std.specs.List.{swap}
use Rattle.std.proofs.lemmas.List.Edits.{swap_is}
use Rattle.std.proofs.lemmas.List.Sorted.{IsPermutation-keeps}
use Rattle.std.proofs.lemmas.Option.{same_Some}
use Rattle.flow_core.specs.declared.moves.Move.{Move}
use Rattle.flow_core.specs.Network.{State, Job, is_enabled, state_after, RunsTo}
use Rattle.flow_choice.specs.Choosing.{state_after_moves}
use Rattle.flow_choice.proofs.Queueing.{Apart, apart_turned}
use Rattle.flow_choice.proofs.Jobs.{Kind, Port, Down, Up, kind_of}
use Rattle.flow_choice.proofs.FitsAfter.{fits_after}
use Rattle.flow_choice.proofs.Meeting.{OtherKinds, FitsAt, FitsKinds, AreApart, some_job, apart_commute, kept}

-- ---- the same moves in another order, by exchanges of neighbours

pub data Reordered {A : Type 0} : List A → List A → Type 0 where
  same : {ms : List A} → Reordered ms ms
  skip : {m : A} {ms ns : List A} → Reordered ms ns → Reordered (m ∷ ms) (m ∷ ns)
  flip : {m n : A} {ms : List A} → Reordered (m ∷ n ∷ ms) (n ∷ m ∷ ms)
  then : {ms ns ps : List A} → Reordered ms ns → Reordered ns ps → Reordered ms ps

module _ {A : Type 0} where
  pull : (x : A) (xs : List A) (j : ℕ) (d : A) → j < length xs → Reordered (x ∷ xs) (get_or xs j d ∷ set xs j x)
  pull x [] j d h = absurd (omega arith)
  pull x (z ∷ zs) zero d h = flip
  pull x (z ∷ zs) (suc j) d h = then flip (then (skip (pull x zs j d (omega arith))) flip)

  exchange : (xs : List A) (i j : ℕ) (d : A) → i < length xs → j < length xs → Reordered xs (set (set xs i (get_or xs j d)) j (get_or xs i d))
  exchange [] i j d h k = absurd (omega arith)
  exchange (x ∷ xs) zero zero d h k = same
  exchange (x ∷ xs) zero (suc j) d h k = pull x xs j d (omega arith)
  exchange (x ∷ xs) (suc i) zero d h k = pull x xs i d (omega arith)
  exchange (x ∷ xs) (suc i) (suc j) d h k = skip (exchange xs i j d (omega arith) (omega arith))

  swapped : (xs : List A) (i j : ℕ) → i < length xs → j < length xs → Reordered xs (swap xs i j)
  swapped [] i j h k = absurd (omega arith)
  swapped (x ∷ xs) i j h k = subst (Reordered (x ∷ xs)) (swap_is (x ∷ xs) i j x h k) (exchange (x ∷ xs) i j x h k)

  pub reordered : (xs ys : List A) → IsPermutation xs ys → Reordered xs ys
  reordered xs ys = IsPermutation-keeps xs (Reordered xs) same (λ l i j p q h. then h (swapped l i j p q)) ys

-- ---- lists of moves

-- a move is apart from each of these
abbrev pub ApartFrom : State → Move → List Move → Type 0
ApartFrom s m [] = Unit {0}
ApartFrom s m (n ∷ ns) = AreApart s m n × ApartFrom s m ns

-- each move may be made, and any two are apart
abbrev pub AllApart : State → List Move → Type 0
AllApart s [] = Unit {0}
AllApart s (m ∷ ms) = IsTrue (is_enabled s m) × ApartFrom s m ms × AllApart s ms

ways_turned : (K L : Kind) → OtherKinds K L → OtherKinds L K
ways_turned Port Port w = tt
ways_turned Port (Down m k i o id) w = tt
ways_turned Port (Up m k i o) w = tt
ways_turned (Down l k i o id) Port w = tt
ways_turned (Down l k i o id) (Down m k' j p id') w = λ e. ((λ x. (w (sym e)).0 (sym x)), (λ x. (w (sym e)).1 (sym x)))
ways_turned (Down l k i o id) (Up m k' j p) w = tt
ways_turned (Up l k i o) Port w = tt
ways_turned (Up l k i o) (Down m k' j p id') w = tt
ways_turned (Up l k i o) (Up m k' j p) w = λ e. ((λ x. (w (sym e)).0 (sym x)), (λ x. (w (sym e)).1 (sym x)))

fits_turned : (s : State) (K L : Kind) → FitsKinds s K L → FitsKinds s L K
fits_turned s Port Port w = tt
fits_turned s Port (Down m k i o id) w = tt
fits_turned s Port (Up m k i o) w = tt
fits_turned s (Down l k i o id) Port w = tt
fits_turned s (Down l k i o id) (Down m k' j p id') w = tt
fits_turned s (Down l k i o id) (Up m k' j p) w = λ e. subst (FitsAt s) (sym e) (w (sym e))
fits_turned s (Up l k i o) Port w = tt
fits_turned s (Up l k i o) (Down m k' j p id') w = λ e. subst (FitsAt s) (sym e) (w (sym e))
fits_turned s (Up l k i o) (Up m k' j p) w = tt

turned : (s : State) (m n : Move) → AreApart s m n → AreApart s n m
turned s m n h = record {
  enabled = (h.enabled.1, h.enabled.0);
  queues = λ j k e f. let q = h.queues k j f e in (apart_turned k.a j.a q.0, apart_turned k.d j.d q.1);
  ways = ways_turned (kind_of m) (kind_of n) h.ways;
  fits = fits_turned s (kind_of m) (kind_of n) h.fits;
}

fits_stay : (s : State) (m n p : Move) (K L : Kind) → kind_of n ≡ K → kind_of p ≡ L → AreApart s m n → AreApart s m p → FitsKinds s K L → FitsKinds (state_after s m) K L
fits_stay s m n p Port Port nk pk a b w = tt
fits_stay s m n p Port (Down l k i o id) nk pk a b w = tt
fits_stay s m n p Port (Up l k i o) nk pk a b w = tt
fits_stay s m n p (Down l k i o id) Port nk pk a b w = tt
fits_stay s m n p (Down l k i o id) (Down l' k' i' o' id') nk pk a b w = tt
fits_stay s m n p (Down l k i o id) (Up l' k' i' o') nk pk a b w = λ e. fits_after s m n p l i o id i' o' k k' nk (pk ∙ ap (λ l. Up l k' i' o') (sym e)) a b (w e)
fits_stay s m n p (Up l k i o) Port nk pk a b w = tt
fits_stay s m n p (Up l k i o) (Down l' k' i' o' id) nk pk a b w = λ e. fits_after s m p n l i' o' id i o k' k (pk ∙ ap (λ l. Down l k' i' o' id) (sym e)) nk b a (w e)
fits_stay s m n p (Up l k i o) (Up l' k' i' o') nk pk a b w = tt

-- two moves that are apart stay so after a third that is apart from both
stay_apart : (s : State) (m n p : Move) → AreApart s m n → AreApart s m p → AreApart s n p → AreApart (state_after s m) n p
stay_apart s m n p a b c =
    let j = some_job s n c.enabled.0 in
    let k = some_job s p c.enabled.1 in
    let x = kept s m n j.0 a j.1 in
    let y = kept s m p k.0 b k.1 in
    let q = c.queues j.0 k.0 j.1 k.1 in
    record {
      enabled = ((apart_commute s m n a).second, (apart_commute s m p b).second);
      queues = λ j' k' e f.
          let ej : record { a = j.0.a; d = j.0.d; leaf = x.0 } ≡ j' = same_Some _ _ (sym x.1 ∙ e) in
          let ek : record { a = k.0.a; d = k.0.d; leaf = y.0 } ≡ k' = same_Some _ _ (sym y.1 ∙ f) in
          subst (λ (z : Job). Apart z.a k'.a × Apart z.d k'.d) ej (subst (λ (z : Job). Apart j.0.a z.a × Apart j.0.d z.d) ek q);
      ways = c.ways;
      fits = fits_stay s m n p (kind_of n) (kind_of p) refl refl a b c.fits;
    }

from_after : (s : State) (m n : Move) (ms : List Move) → AreApart s m n → ApartFrom s m ms → ApartFrom s n ms → ApartFrom (state_after s m) n ms
from_after s m n [] a b c = tt
from_after s m n (p ∷ ms) a b c = (stay_apart s m n p a b.0 c.0, from_after s m n ms a b.1 c.1)

pub all_after : (s : State) (m : Move) (ms : List Move) → ApartFrom s m ms → AllApart s ms → AllApart (state_after s m) ms
all_after s m [] a h = tt
all_after s m (n ∷ ms) a h = ((apart_commute s m n a.0).second, from_after s m n ms a.0 a.1 h.1, all_after s m ms a.1 h.2)

pub runs : (s : State) (ms : List Move) → AllApart s ms → RunsTo s ms (state_after_moves s ms)
runs s [] h = refl
runs s (m ∷ ms) h = (h.0, runs (state_after s m) ms (all_after s m ms h.1 h.2))

reordered_from : (s : State) (m : Move) {ms ns : List Move} → Reordered ms ns → ApartFrom s m ms → ApartFrom s m ns
reordered_from s m same h = h
reordered_from s m (skip r) h = (h.0, reordered_from s m r h.1)
reordered_from s m flip h = (h.1.0, (h.0, h.1.1))
reordered_from s m (then r u) h = reordered_from s m u (reordered_from s m r h)

reordered_all : (s : State) {ms ns : List Move} → Reordered ms ns → AllApart s ms → AllApart s ns
reordered_all s same h = h
reordered_all s (skip {m = p} r) h = (h.0, reordered_from s p r h.1, reordered_all s r h.2)
reordered_all s (flip {m = p} {n = q}) h = (h.2.0, (turned s p q h.1.0, h.2.1), (h.0, h.1.1, h.2.2))
reordered_all s (then r u) h = reordered_all s u (reordered_all s r h)

pub to_reordered : (s t : State) {ms ns : List Move} → Reordered ms ns → AllApart s ms → RunsTo s ms t → RunsTo s ns t
to_reordered s t same h g = g
to_reordered s t (skip {m = p} {ms} r) h g = (g.0, to_reordered (state_after s p) t r (all_after s p ms h.1 h.2) g.1)
to_reordered s t (flip {m = p} {n = q} {ms}) h g =
    let c = apart_commute s p q h.1.0 in
    (h.2.0, (c.first, subst (λ (x : State). RunsTo x ms t) c.same g.1.1))
to_reordered s t (then r u) h g = to_reordered s t u (reordered_all s r h) (to_reordered s t r h g)

pub any_order : (s : State) (ms ns : List Move) → AllApart s ms → IsPermutation ms ns → RunsTo s ns (state_after_moves s ms)
any_order s ms ns h p = to_reordered s (state_after_moves s ms) (reordered ms ns p) h (runs s ms h)
