-- The registers of one gate, opened and driven.
use Rattle.std.proofs.Common.{◌≡◌, ℕ, zero, suc, ◌<◌, Bool, false, List, [], ◌∷◌, ◌++◌, length, map, get_or, replicate, refl, sym, ap, ◌∙◌, subst, arith}
use Rattle.std.specs.Prelude.{◌==◌}
use Rattle.std.proofs.lemmas.List.{get_or_append_left, length-append, length-map, map-append}
use Rattle.net_build.specs.declared.types.Wire.{Wire}
use Rattle.net_build.specs.Bits.{AreBits, highs, wire_values}
use Rattle.net_build.specs.Built.{Built, IsRegister, IsUndriven, IsWire}
use Rattle.net_build.specs.Registers.{AreUndriven, DrivesAll, MayDrive, numbers}
use Rattle.net_build.specs.Values.{Adds, AtStart, Later, Opens, high}
use Rattle.net_build.proofs.DrivenLists.{drives_all_after, opened_all_driven}
use Rattle.net_build.proofs.OpenedLists.{all_undriven_opens, opens_opens}
use Rattle.net_build.proofs.Steps.{bit_later, bit_made, later_later, register_later, wire_later}
use Rattle.net_gate.specs.declared.types.Registers.{Registers}
use Rattle.net_gate.specs.Built.{HasSideShape, IsSideCycle, IsSide, registers_of, side_at}
use Rattle.net_gate.specs.Sides.{GateSide, idle_side, late_count}
use Rattle.net_table.specs.Tables.{AllBecome, AreEntries}

undriven_join : (b : Built) (xs ys all : List Wire) → AreUndriven b xs → AreUndriven b ys → all ≡ xs ++ ys → AreUndriven b all
undriven_join b [] ys all g h e = subst (AreUndriven b) (sym e) h
undriven_join b (x ∷ xs) ys all g h e = subst (AreUndriven b) (sym e) (record { each = at (undriven_join b xs ys (xs ++ ys) (record { each = λ k d l. g.each (suc k) d (omega arith) }) h refl) })
  where
    at : AreUndriven b (xs ++ ys) → (k : ℕ) (d : Wire) → k < length (x ∷ xs ++ ys) → IsUndriven b (get_or (x ∷ xs ++ ys) k d)
    at i zero d l = g.each 0 d (omega arith)
    at i (suc k) d l = i.each k d (omega arith)

pub wires_bits : (b : Built) (ws : List Wire) → AreEntries b 1 ws → AreBits b ws
wires_bits b ws h = record { each = λ k d l. let x = h.each k d l in bit_made b (get_or ws k d) x.0 x.1 }

pub bits_later : (old new : Built) (ws : List Wire) → Later old new → AreBits old ws → AreBits new ws
bits_later old new ws g h = record { each = λ k d l. bit_later old new (get_or ws k d) g (h.each k d l) }

pub shape_own : (b : Built) (round : Bool) (count wide : ℕ) (r : Registers) → HasSideShape b round count wide r → HasSideShape b round count r.left.width r
shape_own b round count wide r h = record { left = h.left; sized = refl; mine = h.mine; mine_long = h.mine_long; late = h.late; late_long = h.late_long }

pub opened_shape : (b1 b2 new : Built) (round : Bool) (count wide n : ℕ) (left : Wire) (mine late : List Wire) → Later b1 b2 → Later b2 new → IsWire b1 left → left.width ≡ wide → AreEntries b2 1 mine → length mine ≡ count → AreEntries new 1 late → length late ≡ n → n ≡ late_count round count → HasSideShape new round count wide (record { left = left; mine = mine; late = late })
opened_shape b1 b2 new round count wide n left mine late g h l w m ml t tl q = record {
  left = wire_later b1 new left (later_later b1 b2 new g h) l;
  sized = w;
  mine = bits_later b2 new mine h (wires_bits b2 mine m);
  mine_long = ml;
  late = wires_bits new late t;
  late_long = tl ∙ q;
}

one_waiting : (b : Built) (w : Wire) → IsUndriven b w → AreUndriven b (w ∷ [])
one_waiting b w h = record { each = at }
  where
    at : (k : ℕ) (d : Wire) → k < length (w ∷ []) → IsUndriven b (get_or (w ∷ []) k d)
    at zero d l = h
    at (suc k) d l = absurd (omega arith)

pub opened_all : (b0 b1 b2 new : Built) (left : Wire) (mine late : List Wire) → Opens b0 b1 (left.number ∷ []) → Opens b1 b2 (numbers mine) → Opens b2 new (numbers late) → Opens b0 new (numbers (registers_of (record { left = left; mine = mine; late = late })))
opened_all b0 b1 b2 new left mine late f g h = opens_opens b0 b2 new (left ∷ mine) late _ (opens_opens b0 b1 b2 (left ∷ []) mine (left ∷ mine) f g refl) h refl

pub waiting_all : (b1 b2 new : Built) (left : Wire) (mine late : List Wire) → Opens b1 b2 (numbers mine) → Opens b2 new (numbers late) → IsUndriven b1 left → AreUndriven b2 mine → AreUndriven new late → AreUndriven new (registers_of (record { left = left; mine = mine; late = late }))
waiting_all b1 b2 new left mine late g h u m t = undriven_join new (left ∷ mine) late _ (all_undriven_opens b2 new (left ∷ mine) (numbers late) h (undriven_join b2 (left ∷ []) mine (left ∷ mine) (all_undriven_opens b1 b2 (left ∷ []) (numbers mine) g (one_waiting b1 left u)) m refl)) t refl

-- what is put before each register has its width
ready_join : (b : Built) (xs ys fs bs : List Wire) → length fs ≡ length xs → MayDrive b xs fs → MayDrive b ys bs → MayDrive b (xs ++ ys) (fs ++ bs)
ready_join b [] ys [] bs e g h = h
ready_join b [] ys (a ∷ fs) bs e g h = absurd (omega arith)
ready_join b (x ∷ xs) ys [] bs e g h = absurd (omega arith)
ready_join b (x ∷ xs) ys (a ∷ fs) bs e g h = record { each = at (ready_join b xs ys fs bs (omega arith) (record { each = λ k d f l. g.each (suc k) d f (omega arith) }) h) }
  where
    at : MayDrive b (xs ++ ys) (fs ++ bs) → (k : ℕ) (d f : Wire) → k < length (x ∷ xs ++ ys) → IsWire b (get_or (a ∷ fs ++ bs) k f) × ((get_or (a ∷ fs ++ bs) k f).width ≡ (get_or (x ∷ xs ++ ys) k d).width)
    at i zero d f l = g.each 0 d f (omega arith)
    at i (suc k) d f l = i.each k d f (omega arith)

ready_bits : (b : Built) (xs fs : List Wire) → length fs ≡ length xs → AreBits b xs → AreBits b fs → MayDrive b xs fs
ready_bits b xs fs e g h = record { each = λ k d f l. let x = g.each k d l in let a = h.each k f (omega (arith, e, l)) in (a.wire, a.one ∙ sym x.one) }

ready_one : (b : Built) (x a : Wire) → IsWire b a → a.width ≡ x.width → MayDrive b (x ∷ []) (a ∷ [])
ready_one b x a h e = record { each = at }
  where
    at : (k : ℕ) (d f : Wire) → k < length (x ∷ []) → IsWire b (get_or (a ∷ []) k f) × ((get_or (a ∷ []) k f).width ≡ (get_or (x ∷ []) k d).width)
    at zero d f l = (h, e)
    at (suc k) d f l = absurd (omega arith)

pub ready_all : (b : Built) (round : Bool) (count wide : ℕ) (now next : Registers) → HasSideShape b round count wide now → HasSideShape b round count wide next → MayDrive b (registers_of now) (registers_of next)
ready_all b round count wide now next g h = ready_join b (now.left ∷ now.mine) now.late (next.left ∷ next.mine) next.late (ap suc (h.mine_long ∙ sym g.mine_long))
    (ready_join b (now.left ∷ []) now.mine (next.left ∷ []) next.mine refl (ready_one b now.left next.left h.left (h.sized ∙ sym g.sized)) (ready_bits b now.mine next.mine (h.mine_long ∙ sym g.mine_long) g.mine h.mine))
    (ready_bits b now.late next.late (h.late_long ∙ sym g.late_long) g.late h.late)

pub registers_long : (b : Built) (round : Bool) (count wide : ℕ) (now next : Registers) → HasSideShape b round count wide now → HasSideShape b round count wide next → length (registers_of next) ≡ length (registers_of now)
registers_long b round count wide now next g h = length-append (next.left ∷ next.mine) next.late ∙ omega (arith, g.mine_long, h.mine_long, g.late_long, h.late_long, length-append (now.left ∷ now.mine) now.late)

-- wire_values of all registers tell the state
split_values : (xs ys fs bs : List ℕ) → length xs ≡ length fs → xs ++ ys ≡ fs ++ bs → (xs ≡ fs) × (ys ≡ bs)
split_values [] ys [] bs l e = (refl, e)
split_values [] ys (a ∷ fs) bs l e = absurd (omega arith)
split_values (x ∷ xs) ys [] bs l e = absurd (omega arith)
split_values (x ∷ xs) ys (a ∷ fs) bs l e =
    let h : x ≡ a = cc in
    let t : xs ++ ys ≡ fs ++ bs = cc in
    let r = split_values xs ys fs bs (omega arith) t in
    (ap (λ c. c ∷ xs) h ∙ ap (λ cs. a ∷ cs) r.0, r.1)

highs_values : (v : ℕ → ℕ) (ws : List Wire) → highs v ws ≡ map (λ n. n == 1) (wire_values v ws)
highs_values v [] = refl
highs_values v (w ∷ ws) = ap (λ bs. high v w ∷ bs) (highs_values v ws)

same_highs : (v u : ℕ → ℕ) (xs ys : List Wire) → wire_values u xs ≡ wire_values v ys → highs u xs ≡ highs v ys
same_highs v u xs ys e = highs_values u xs ∙ ap (map (λ n. n == 1)) e ∙ sym (highs_values v ys)

abbrev side_of : ℕ → List Bool → List Bool → GateSide
side_of l m t = record { left = l; mine = m; late = t }

state_of : (v u : ℕ → ℕ) (r n : Registers) → length n.mine ≡ length r.mine → wire_values u (registers_of r) ≡ wire_values v (registers_of n) → side_at u r ≡ side_at v n
state_of v u r n l e =
    let num = λ (f : ℕ → ℕ) (w : Wire). f w.number in
    let q : wire_values u (r.left ∷ r.mine) ++ wire_values u r.late ≡ wire_values v (n.left ∷ n.mine) ++ wire_values v n.late = sym (map-append (num u) (r.left ∷ r.mine) r.late) ∙ e ∙ map-append (num v) (n.left ∷ n.mine) n.late in
    let m : length (wire_values u (r.left ∷ r.mine)) ≡ length (wire_values v (n.left ∷ n.mine)) = ap suc (length-map r.mine (num u) ∙ sym l ∙ sym (length-map n.mine (num v))) in
    let s = split_values (wire_values u (r.left ∷ r.mine)) (wire_values u r.late) (wire_values v (n.left ∷ n.mine)) (wire_values v n.late) m q in
    let p = split_values (u r.left.number ∷ []) (wire_values u r.mine) (v n.left.number ∷ []) (wire_values v n.mine) refl s.0 in
    let h : u r.left.number ≡ v n.left.number = first p.0 in
    ap (λ x. side_of x (highs u r.mine) (highs u r.late)) h
    ∙ ap (λ x. side_of (v n.left.number) x (highs u r.late)) (same_highs v u r.mine n.mine p.1)
    ∙ ap (λ x. side_of (v n.left.number) (highs v n.mine) x) (same_highs v u r.late n.late s.1)
  where
    first : {x y : ℕ} → x ∷ [] ≡ y ∷ [] → x ≡ y
    first e = cc

-- registers begin with 0
begins : (b : Built) (v : ℕ → ℕ) → AtStart b v → (ws : List Wire) → ((k : ℕ) (d : Wire) → k < length ws → IsRegister b (get_or ws k d)) → highs v ws ≡ replicate (length ws) false
begins b v s [] h = refl
begins b v s (w ∷ ws) h = ap (λ c. c ∷ highs v ws) (ap (λ n. n == 1) (s.holds w.number _ (h 0 w (omega arith)).at refl)) ∙ ap (λ cs. false ∷ cs) (begins b v s ws (λ k d l. h (suc k) d (omega arith)))

waiting_left : (b : Built) (xs ys : List Wire) → AreUndriven b (xs ++ ys) → AreUndriven b xs
waiting_left b xs ys h = record { each = λ k d l. subst (IsUndriven b) (get_or_append_left xs ys d k l) (h.each k d (omega (arith, l, length-append xs ys))) }

waiting_right : (b : Built) (xs ys : List Wire) → AreUndriven b (xs ++ ys) → AreUndriven b ys
waiting_right b [] ys h = h
waiting_right b (x ∷ xs) ys h = waiting_right b xs ys (record { each = λ k d l. h.each (suc k) d (omega arith) })

are_registers : (old new : Built) (ws : List Wire) → Later old new → AreUndriven old ws → (k : ℕ) (d : Wire) → k < length ws → IsRegister new (get_or ws k d)
are_registers old new ws g h k d l = register_later old new (get_or ws k d) g (h.each k d l).register

pub side_starts : (old new : Built) (round : Bool) (count wide : ℕ) (r : Registers) (v : ℕ → ℕ) → Later old new → AreUndriven old (registers_of r) → HasSideShape old round count wide r → AtStart new v → side_at v r ≡ idle_side round count
side_starts old new round count wide r v g w h s =
    let front = waiting_left old (r.left ∷ r.mine) r.late w in
    let left = are_registers old new (r.left ∷ []) g (waiting_left old (r.left ∷ []) r.mine front) 0 r.left (omega arith) in
    let mine = begins new v s r.mine (are_registers old new r.mine g (waiting_right old (r.left ∷ []) r.mine front)) in
    let late = begins new v s r.late (are_registers old new r.late g (waiting_right old (r.left ∷ r.mine) r.late w)) in
    ap (λ x. side_of x (highs v r.mine) (highs v r.late)) (s.holds r.left.number _ left.at refl)
    ∙ ap (λ x. side_of 0 x (highs v r.late)) (mine ∙ ap (λ n. replicate n false) h.mine_long)
    ∙ ap (λ x. side_of 0 (replicate count false) x) (late ∙ ap (λ n. replicate n false) h.late_long)

pub side_is : (mid last new : Built) (round : Bool) (count wide : ℕ) (wants : List Wire) (ready : Wire) (rests : List Wire) (r n : Registers) (grants : List Wire) (valid : Wire) → Later mid new → Later last new
    → AreUndriven mid (registers_of r) → HasSideShape mid round count wide r → length n.mine ≡ length r.mine
    → IsSideCycle last round wants ready rests r grants valid n → AllBecome new (registers_of r) (λ v. wire_values v (registers_of n)) → IsSide new round count wants ready rests r grants valid
side_is mid last new round count wide wants ready rests r n grants valid g h w s l c t = record {
  granted = λ v q. c.granted v (h.back v q);
  some = λ v q. c.some v (h.back v q);
  nexts = λ v u q k z. state_of v u r n l (t.at v u q k z) ∙ c.nexts v (h.back v q);
  starts = λ v q. side_starts mid new round count wide r v g w s q;
}

pub opened_then : (old mid last new : Built) (rs : List ℕ) → Opens old mid rs → Adds mid last → DrivesAll last new rs → Adds old new
opened_then old mid last new rs g a h = opened_all_driven old mid new rs g (drives_all_after mid last new rs a h)
