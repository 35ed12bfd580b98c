-- What the registers of a gate hold stands for its state.
use Rattle.std.proofs.Common.{◌≡◌, ℕ, zero, suc, ◌+◌, ◌-◌, ◌<◌, ◌≤◌, Bool, true, false, not, cond, ◌&&◌, ◌||◌, List, [], ◌∷◌, ◌++◌, length, get_or, replicate, Option, Some, None, is_some, refl, sym, ap, ◌∙◌, subst, arith, append-nil, if◌then◌else◌}
use Rattle.std.specs.Prelude.{find, nat_eq, nat_lt, ◌==◌}
use Rattle.std.specs.List.{range_with_len}
use Rattle.std.specs.Option.{unwrap_or}
use Rattle.std.proofs.lemmas.Bool.Decides.{nat_tests}
use Rattle.flow_choice.specs.Choosing.{flag_at}
use Rattle.flow_core.specs.declared.locks.Gate.{Gate}
use Rattle.flow_core.specs.declared.locks.Lock.{Lock}
use Rattle.flow_core.specs.Crossing.{lock_after, passed_by, turn_after}
use Rattle.net_choice.specs.declared.rows.Pairing.TheVariants.{Both, Either}
use Rattle.net_choice.specs.Choice.{grants_of, lates_of, one_hot, pick}
use Rattle.net_choice.specs.Rows.{any_of, behind_of, paired, pairs}
use Rattle.net_choice.proofs.InTurn.{both_here, first_append, flags_here, grants_here, here, or_else, pick_round, same_here}
use Rattle.net_gate.specs.Gates.{passes}
use Rattle.net_gate.specs.Sides.{Asked, GateSide, after_grants, grants_in, may_of, picked_rest, side_after}
use Rattle.net_gate.specs.Standing.{SideIsGate, StandsFor, beats_left, gate_moved, is_let, late_from, let_through}

-- a lock with so many beats left
abbrev pub lock_of : ℕ → ℕ → Option Lock
lock_of who left = if left == 0 then None else Some (record { by = who; left = left })

-- after a beat of this head, which so many follow
abbrev pub passed : Option Lock → ℕ → ℕ → ℕ → ℕ → Gate
passed None next who count rest = record { lock = lock_of who rest; next = turn_after who count }
passed (Some l) next who count rest = record { lock = lock_of who (l.left - 1); next = next }

abbrev pub moved : Gate → Asked → Option ℕ → Gate
moved w x None = w
moved w x (Some i) = passed w.lock w.next i (length x.wants) (get_or x.rests i 0)

same_is : (n c : ℕ) (b : Bool) → replicate c b ≡ here (λ k. b) n c
same_is n zero b = refl
same_is n (suc c) b = ap (λ zs. b ∷ zs) (same_is (n + 1) c b)

-- the is_let inputs
may_here : (o room : Bool) (w p : ℕ → Bool) (c : ℕ) → pairs (paired Both) (pairs (paired Both) (here w 0 c) (pairs (paired Either) (replicate c o) (here p 0 c))) (replicate c room) ≡ here (λ k. (w k && (o || p k)) && room) 0 c
may_here o room w p c =
    ap (λ zs. pairs (paired Both) (pairs (paired Both) (here w 0 c) (pairs (paired Either) zs (here p 0 c))) (replicate c room)) (same_is 0 c o)
    ∙ ap (λ zs. pairs (paired Both) (pairs (paired Both) (here w 0 c) zs) (replicate c room)) (both_here (paired Either) (λ k. o) p 0 c)
    ∙ ap (λ zs. pairs (paired Both) zs (replicate c room)) (both_here (paired Both) w (λ k. o || p k) 0 c)
    ∙ ap (pairs (paired Both) (here (λ k. w k && (o || p k)) 0 c)) (same_is 0 c room)
    ∙ both_here (paired Both) (λ k. w k && (o || p k)) (λ k. room) 0 c

may_is : (count : ℕ) (o : Bool) (mine wants : List Bool) (room : Bool) (p : ℕ → Bool) → length wants ≡ count → length mine ≡ count → mine ≡ here p 0 count → may_of o mine wants room ≡ here (λ k. (flag_at wants k && (o || p k)) && room) 0 count
may_is count o mine wants room p l m e =
    ap (λ n. pairs (paired Both) (pairs (paired Both) wants (pairs (paired Either) (replicate n o) mine)) (replicate (length wants) room)) m
    ∙ ap (λ n. pairs (paired Both) (pairs (paired Both) wants (pairs (paired Either) (replicate count o) mine)) (replicate n room)) l
    ∙ ap (λ zs. pairs (paired Both) (pairs (paired Both) wants (pairs (paired Either) (replicate count o) zs)) (replicate count room)) e
    ∙ ap (λ zs. pairs (paired Both) (pairs (paired Both) zs (pairs (paired Either) (replicate count o) (here p 0 count))) (replicate count room)) (sym (flags_here wants) ∙ ap (here (flag_at wants) 0) l)
    ∙ may_here o room (flag_at wants) p count

is_enabled : (count : ℕ) (left : ℕ) (mine : List Bool) (lock : Option Lock) (x : Asked) → length x.wants ≡ count → length mine ≡ count → left ≡ beats_left lock → ((l : Lock) → lock ≡ Some l → ((l.left == 0) ≡ false) × (mine ≡ one_hot count (Some l.by)))
    → may_of (left == 0) mine x.wants x.room ≡ here (λ k. (flag_at x.wants k && passes lock k) && x.room) 0 count
is_enabled count left mine None x l m e h =
    ap (λ n. may_of (n == 0) mine x.wants x.room) e
    ∙ may_is count true mine x.wants x.room (flag_at mine) l m (sym (flags_here mine) ∙ ap (here (flag_at mine) 0) m)
is_enabled count left mine (Some k) x l m e h =
    let q = h k refl in
    ap (λ n. may_of (n == 0) mine x.wants x.room) e
    ∙ ap (λ o. may_of o mine x.wants x.room) q.0
    ∙ may_is count false mine x.wants x.room (nat_eq k.by) l m q.1

-- the chosen one is one of them
first_in : (p : ℕ → Bool) (n c i : ℕ) → find p (range_with_len n c) ≡ Some i → (i < n + c) × (p i ≡ true)
first_in p n zero i e = absurd cc
first_in p n (suc c) i e = at (p n) refl e (first_in p (n + 1) c i)
  where
    at : (b : Bool) → p n ≡ b → (if b then Some n else find p (range_with_len (n + 1) c)) ≡ Some i → (find p (range_with_len (n + 1) c) ≡ Some i → (i < (n + 1) + c) × (p i ≡ true)) → (i < n + suc c) × (p i ≡ true)
    at true q f g = let k : n ≡ i = cc in (omega arith, ap p (sym k) ∙ q)
    at false q f g = let r = g f in (omega (arith, r.0), r.1)

or_in : (a b : Option ℕ) (i : ℕ) (P : Type 0) → or_else a b ≡ Some i → (a ≡ Some i → P) → (b ≡ Some i → P) → P
or_in None b i P e f g = g e
or_in (Some k) b i P e f g = f e

pub pick_in : (round : Bool) (next count i : ℕ) (p : ℕ → Bool) → next ≤ count → pick round next count p ≡ Some i → (i < count) × (p i ≡ true)
pick_in false next count i p h e = let r = first_in p 0 count i e in (omega (arith, r.0), r.1)
pick_in true next count i p h e = or_in (find p (range_with_len next (count - next))) (find p (range_with_len 0 next)) i ((i < count) × (p i ≡ true)) (sym (pick_round next count p h ∙ first_append p (range_with_len next (count - next)) (range_with_len 0 next)) ∙ e)
    (λ f. let r = first_in p next (count - next) i f in (omega (arith, r.0, h), r.1))
    (λ f. let r = first_in p 0 next i f in (omega (arith, r.0, h), r.1))

pub suc_not : (n : ℕ) → (suc n == 0) ≡ false
suc_not n = grind (arith, nat_tests)

turn_suc : (n count : ℕ) → late_from (suc n) count ≡ suc n
turn_suc n count = ap (λ (c : Bool). if c then count else suc n) (suc_not n)

-- a turn at 0 is one behind the last
pick_turn : (round : Bool) (next count : ℕ) (p : ℕ → Bool) → pick round (late_from next count) count p ≡ pick round next count p
pick_turn false next count p = refl
pick_turn true zero count p =
    let a : count - count ≡ 0 = omega arith in
    let b : count - 0 ≡ count = omega arith in
    pick_round count count p (omega arith)
    ∙ ap (λ n. find p (range_with_len count n ++ range_with_len 0 count)) a
    ∙ sym (pick_round 0 count p (omega arith) ∙ ap (λ n. find p (range_with_len 0 n ++ [])) b ∙ ap (find p) (append-nil (range_with_len 0 count)))
pick_turn true (suc next) count p = ap (λ m. pick true m count p) (turn_suc next count)

turn_in : (next count : ℕ) → next < count → late_from next count ≤ count
turn_in zero count h = omega arith
turn_in (suc next) count h = subst (λ m. m ≤ count) (sym (turn_suc next count)) (omega arith)

pub grants_are : (round : Bool) (count : ℕ) (s : GateSide) (w : Gate) (x : Asked) → length x.wants ≡ count → StandsFor round count s w → grants_in round s x ≡ one_hot count (pick round w.next count (is_let w x))
grants_are round count s w x l t =
    ap (grants_of round s.late) (is_enabled count s.left s.mine w.lock x l t.long t.left t.locked)
    ∙ at round t.late
    ∙ ap (one_hot count) (pick_turn round w.next count (is_let w x))
  where
    at : (r : Bool) → (r ≡ true → s.late ≡ lates_of (late_from w.next count) count) → grants_of r s.late (here (is_let w x) 0 count) ≡ one_hot count (pick r (late_from w.next count) count (is_let w x))
    at true h = ap (λ zs. grants_of true zs (here (is_let w x) 0 count)) (h refl) ∙ grants_here true (late_from w.next count) count (is_let w x) (turn_in w.next count t.next)
    at false h = grants_here false (late_from w.next count) count (is_let w x) (turn_in w.next count t.next)

-- one flag_at
pub any_none : (n c : ℕ) → any_of (here (λ k. false) n c) ≡ false
any_none n zero = refl
any_none n (suc c) = any_none (n + 1) c

pub later_of : (i n : ℕ) → nat_eq i n ≡ false → n ≤ i → n + 1 ≤ i
later_of i n e h = grind (arith, nat_tests)

pub same_by_eq : (i n : ℕ) → nat_eq i n ≡ true → i ≡ n
same_by_eq i n e = grind (arith, nat_tests)

at_least : (k m : ℕ) → m ≤ k → not (nat_lt k m) ≡ true
at_least k m h = grind (arith, nat_tests)

pub below : (k m : ℕ) → k + 1 ≤ m → not (nat_lt k m) ≡ false
below k m h = grind (arith, nat_tests)

pub any_one : (i n c : ℕ) → n ≤ i → i < n + c → any_of (here (nat_eq i) n c) ≡ true
any_one i n zero h k = absurd (omega arith)
any_one i n (suc c) h k = at (nat_eq i n) refl (λ e. any_one i (n + 1) c (later_of i n e h) (omega arith))
  where
    at : (b : Bool) → nat_eq i n ≡ b → (nat_eq i n ≡ false → any_of (here (nat_eq i) (n + 1) c) ≡ true) → (b || any_of (here (nat_eq i) (n + 1) c)) ≡ true
    at true e g = refl
    at false e g = g e

picked_one : (i n c : ℕ) (xs : List ℕ) → length xs ≡ c → n ≤ i → i < n + c → picked_rest (here (nat_eq i) n c) xs ≡ get_or xs (i - n) 0
picked_one i n zero xs l h k = absurd (omega arith)
picked_one i n (suc c) [] l h k = absurd (omega arith)
picked_one i n (suc c) (x ∷ xs) l h k = at (nat_eq i n) refl (λ e. picked_one i (n + 1) c xs (omega arith) (later_of i n e h) (omega arith))
  where
    at : (b : Bool) → nat_eq i n ≡ b → (nat_eq i n ≡ false → picked_rest (here (nat_eq i) (n + 1) c) xs ≡ get_or xs (i - (n + 1)) 0) → (if b then x else picked_rest (here (nat_eq i) (n + 1) c) xs) ≡ get_or (x ∷ xs) (i - n) 0
    at true e g = let q = same_by_eq i n e in let z : 0 ≡ i - n = omega (arith, q) in ap (λ m. get_or (x ∷ xs) m 0) z
    at false e g = let q = later_of i n e h in let z : suc (i - (n + 1)) ≡ i - n = omega (arith, q) in g e ∙ ap (λ m. get_or (x ∷ xs) m 0) z

behind_true : (q : ℕ → Bool) (n c : ℕ) → behind_of true (here q n c) ≡ here (λ k. true) n c
behind_true q n zero = refl
behind_true q n (suc c) = ap (λ zs. true ∷ zs) (behind_true q (n + 1) c)

behind_one : (i n c : ℕ) → n ≤ i → behind_of false (here (nat_eq i) n c) ≡ here (λ k. not (nat_lt k (i + 1))) n c
behind_one i n zero h = refl
behind_one i n (suc c) h =
    ap (λ zs. false ∷ zs) (at (nat_eq i n) refl (λ e. behind_one i (n + 1) c (later_of i n e h)))
    ∙ ap (λ b. b ∷ here (λ k. not (nat_lt k (i + 1))) (n + 1) c) (sym (below n (i + 1) (omega arith)))
  where
    at : (b : Bool) → nat_eq i n ≡ b → (nat_eq i n ≡ false → behind_of false (here (nat_eq i) (n + 1) c) ≡ here (λ k. not (nat_lt k (i + 1))) (n + 1) c) → behind_of b (here (nat_eq i) (n + 1) c) ≡ here (λ k. not (nat_lt k (i + 1))) (n + 1) c
    at true e g = let q = same_by_eq i n e in behind_true (nat_eq i) (n + 1) c ∙ same_here (λ k. true) (λ k. not (nat_lt k (i + 1))) (n + 1) c (λ k l. sym (at_least k (i + 1) (omega (arith, q, l))))
    at false e g = g e

-- the next turn
turn_behind : (i count : ℕ) → i < count → late_from (turn_after i count) count ≡ i + 1
turn_behind i count h = at (nat_lt (i + 1) count) refl
  where
    at : (b : Bool) → nat_lt (i + 1) count ≡ b → late_from (if b then i + 1 else 0) count ≡ i + 1
    at true e = let z : ((i + 1) == 0) ≡ false = grind (arith, nat_tests) in ap (λ (c : Bool). if c then count else i + 1) z
    at false e = let z : count ≡ i + 1 = grind (arith, nat_tests) in z

turn_less : (i count : ℕ) → i < count → turn_after i count < count
turn_less i count h = at (nat_lt (i + 1) count) refl
  where
    at : (b : Bool) → nat_lt (i + 1) count ≡ b → (if b then i + 1 else 0) < count
    at true e = grind (arith, nat_tests)
    at false e = omega arith

left_lock : (who n : ℕ) → n ≡ beats_left (lock_of who n)
left_lock who zero = refl
left_lock who (suc n) = sym (ap (λ (c : Bool). beats_left (if c then None else Some (record { by = who; left = suc n }))) (suc_not n))

lock_is : (who n : ℕ) (l : Lock) → lock_of who n ≡ Some l → ((l.left == 0) ≡ false) × (who ≡ l.by)
lock_is who zero l e = absurd cc
lock_is who (suc n) l e =
    let f : Some (record { by = who; left = suc n }) ≡ Some l = sym (ap (λ (c : Bool). if c then None else Some (record { by = who; left = suc n })) (suc_not n)) ∙ e in
    let q : record { by = who; left = suc n } ≡ l = cc in
    (sym (ap (λ (k : Lock). k.left == 0) q) ∙ suc_not n, ap (λ (k : Lock). k.by) q)

pub number_long : (p : ℕ → Bool) (n c : ℕ) → length (here p n c) ≡ c
number_long p n zero = refl
number_long p n (suc c) = ap suc (number_long p (n + 1) c)

same_late : (r : Bool) (xs ys : List Bool) → r ≡ true → (if r then xs else ys) ≡ xs
same_late true xs ys e = refl
same_late false xs ys e = absurd cc

passed_stands : (round : Bool) (count i : ℕ) (s : GateSide) (lock : Option Lock) (next : ℕ) (x : Asked) → i < count → length x.rests ≡ count → s.left ≡ beats_left lock → ((l : Lock) → lock ≡ Some l → ((l.left == 0) ≡ false) × (s.mine ≡ one_hot count (Some l.by)))
    → (round ≡ true → s.late ≡ lates_of (late_from next count) count) → next < count
    → StandsFor round count (after_grants round s x (one_hot count (Some i)) true) (passed lock next i count (get_or x.rests i 0))
passed_stands round count i s None next x b r e h t n =
    let z : s.left ≡ 0 = e in
    let o : (s.left == 0) ≡ true = ap (λ m. m == 0) z in
    let p : picked_rest (one_hot count (Some i)) x.rests ≡ get_or x.rests i 0 = picked_one i 0 count x.rests r (omega arith) (omega arith) ∙ ap (λ m. get_or x.rests m 0) (omega arith) in
    record {
      left = ap (λ (c : Bool). if c then picked_rest (one_hot count (Some i)) x.rests else s.left - 1) o ∙ p ∙ left_lock i (get_or x.rests i 0);
      locked = λ l f. let k = lock_is i (get_or x.rests i 0) l f in (k.0, ap (λ j. one_hot count (Some j)) k.1);
      long = number_long (nat_eq i) 0 count;
      late = λ q. same_late round _ s.late q ∙ ap (λ (c : Bool). if c then behind_of false (one_hot count (Some i)) else s.late) o ∙ behind_one i 0 count (omega arith) ∙ sym (ap (λ m. lates_of m count) (turn_behind i count b));
      next = turn_less i count b;
    }
passed_stands round count i s (Some l) next x b r e h t n =
    let o : (s.left == 0) ≡ false = ap (λ m. m == 0) e ∙ (h l refl).0 in
    record {
      left = ap (λ (c : Bool). if c then picked_rest (one_hot count (Some i)) x.rests else s.left - 1) o ∙ ap (λ m. m - 1) e ∙ left_lock i (l.left - 1);
      locked = λ k f. let g = lock_is i (l.left - 1) k f in (g.0, ap (λ j. one_hot count (Some j)) g.1);
      long = number_long (nat_eq i) 0 count;
      late = λ q. same_late round _ s.late q ∙ ap (λ (c : Bool). if c then behind_of false (one_hot count (Some i)) else s.late) o ∙ t q;
      next = n;
    }

stays : (round : Bool) (count : ℕ) (s : GateSide) (w : Gate) (x : Asked) → StandsFor round count s w → StandsFor round count (after_grants round s x (one_hot count None) false) w
stays round count s w x t = record { left = t.left; locked = t.locked; long = t.long; late = λ q. same_late round s.late s.late q ∙ t.late q; next = t.next }

step : (round : Bool) (count : ℕ) (s : GateSide) (w : Gate) (x : Asked) (o : Option ℕ) → length x.wants ≡ count → length x.rests ≡ count → StandsFor round count s w → ((i : ℕ) → o ≡ Some i → i < count) → StandsFor round count (after_grants round s x (one_hot count o) (any_of (one_hot count o))) (moved w x o)
step round count s w x None lw lr t h = subst (λ b. StandsFor round count (after_grants round s x (one_hot count None) b) w) (sym (any_none 0 count)) (stays round count s w x t)
step round count s w x (Some i) lw lr t h =
    subst (λ n. StandsFor round count (after_grants round s x (one_hot count (Some i)) (any_of (one_hot count (Some i)))) (passed w.lock w.next i n (get_or x.rests i 0))) (sym lw)
    (subst (λ b. StandsFor round count (after_grants round s x (one_hot count (Some i)) b) (passed w.lock w.next i count (get_or x.rests i 0))) (sym (any_one i 0 count (omega arith) (let k = h i refl in omega (arith, k))))
    (passed_stands round count i s w.lock w.next x (h i refl) lr t.left t.locked t.late t.next))

pub valid_is : (count : ℕ) (o : Option ℕ) → ((i : ℕ) → o ≡ Some i → i < count) → any_of (one_hot count o) ≡ is_some o
valid_is count None h = any_none 0 count
valid_is count (Some i) h = let k = h i refl in any_one i 0 count (omega arith) (omega (arith, k))

-- ---- the gate that the network states

pub lock_after_is : (who rest : ℕ) → lock_after who (rest + 1) ≡ lock_of who rest
lock_after_is who zero = refl
lock_after_is who (suc rest) =
    let l : nat_lt 1 (suc rest + 1) ≡ true = grind (arith, nat_tests) in
    let m : suc rest + 1 - 1 ≡ suc rest = omega arith in
    ap (λ (c : Bool). cond c (Some (record { by = who; left = suc rest + 1 - 1 })) None) l
    ∙ ap (λ (n : ℕ). Some (record { by = who; left = n })) m
    ∙ sym (ap (λ (c : Bool). if c then None else Some (record { by = who; left = suc rest })) (suc_not rest))

lock_less : (who left : ℕ) → (left == 0) ≡ false → lock_after who left ≡ lock_of who (left - 1)
lock_less who zero e = absurd cc
lock_less who (suc left) e =
    let m : suc left ≡ left + 1 = omega arith in
    let p : left ≡ suc left - 1 = omega arith in
    ap (lock_after who) m ∙ lock_after_is who left ∙ ap (lock_of who) p

abbrev gate_of : Option Lock → ℕ → Gate
gate_of lock next = record { lock = lock; next = next }

passed_is : (lock : Option Lock) (next who count rest : ℕ) (gate : Gate) → passes lock who ≡ true → ((l : Lock) → lock ≡ Some l → (l.left == 0) ≡ false)
    → unwrap_or (passed_by lock next who count (rest + 1)) gate ≡ passed lock next who count rest
passed_is None next who count rest gate p h = ap (λ (k : Option Lock). gate_of k (turn_after who count)) (lock_after_is who rest)
passed_is (Some l) next who count rest gate p h =
    ap (λ (c : Bool). unwrap_or (cond c (Some (record { lock = lock_after who l.left; next = next })) None) gate) p
    ∙ ap (λ (k : Option Lock). gate_of k next) (lock_less who l.left (h l refl))

moved_is : (count : ℕ) (s : GateSide) (w : Gate) (x : Asked) (o : Option ℕ) → length x.wants ≡ count → ((l : Lock) → w.lock ≡ Some l → (l.left == 0) ≡ false) → ((i : ℕ) → o ≡ Some i → is_let w x i ≡ true) → gate_moved count w x o ≡ moved w x o
moved_is count s w x None l h p = refl
moved_is count s w x (Some i) l h p =
    passed_is w.lock w.next i count (get_or x.rests i 0) w (let_passes (flag_at x.wants i) (passes w.lock i) x.room (p i refl)) h
    ∙ ap (λ (n : ℕ). passed w.lock w.next i n (get_or x.rests i 0)) (sym l)
  where
    let_passes : (a b c : Bool) → ((a && b) && c) ≡ true → b ≡ true
    let_passes true true c e = refl
    let_passes true false c e = absurd (let f : false ≡ true = e in cc)
    let_passes false b c e = absurd (let f : false ≡ true = e in cc)

pub side_is_gate : SideIsGate
side_is_gate round count s w x lw lr t =
    let o = let_through round count w x in
    let p : (i : ℕ) → o ≡ Some i → (i < count) × (is_let w x i ≡ true) = λ i e. pick_in round w.next count i (is_let w x) (omega (arith, t.next)) e in
    let g : grants_in round s x ≡ one_hot count o = grants_are round count s w x lw t in
    record {
      grants = g;
      some = ap any_of g ∙ valid_is count o (λ i e. (p i e).0);
      stands = subst (λ (k : Gate). StandsFor round count (side_after round s x) k) (sym (moved_is count s w x o lw (λ l e. (t.locked l e).0) (λ i e. (p i e).1)))
          (subst (λ gs. StandsFor round count (after_grants round s x gs (any_of gs)) (moved w x o)) (sym g) (step round count s w x o lw lr t (λ i e. (p i e).0)));
    }
