-- The widths of two buses, by the logarithms of their bytes.
use Rattle.std.proofs.Common.{◌≡◌, ◌≢◌, ℕ, ◌+◌, ◌-◌, ◌*◌, ◌^◌, ◌<◌, ◌≤◌, Bool, true, false, not, inl, inr, refl, sym, ap, ◌∙◌, subst, arith, if◌then◌else◌}
use Rattle.std.specs.Prelude.{nat_lt}
use Rattle.std.proofs.Math.Nat.{mul_assoc}
use Rattle.std.proofs.Math.Pow.{pow_mono}
use Rattle.std.proofs.lemmas.Bool.{cases_lt}
use Rattle.std.proofs.lemmas.Nat.{pow-add}
use Rattle.std.proofs.lemmas.Bool.Decides.{nat_tests}
use Rattle.flow_core.specs.Turning.{Widths}
use Rattle.net_build.specs.Built.{Built}
use Rattle.net_lanes.specs.declared.places.Buses.{Buses}
use Rattle.net_lanes.specs.Lanes.{AreTwo}
use Rattle.net_queue.specs.declared.types.EdgeWires.{EdgeWires}
use Rattle.net_turns.specs.Turns.{lanes_in}
use Rattle.net_sides.specs.Sides.{widths_down}
use Rattle.net_width.specs.Between.{AreWidgetQueues}
use Rattle.net_width.specs.Widened.{CanWiden}

-- ---- logarithms

-- a power tells the order of its exponents
pub order_of : (a b : ℕ) → 2 ^ a < 2 ^ b → a < b
order_of a b h = elim (cases_lt a b) [
  | inl l ↦ l
  | inr g ↦
      let p : 2 ^ b ≤ 2 ^ a = pow_mono {i = b} {j = a} g in
      absurd (omega (arith, p, h))
]

lt_yes : (a b : ℕ) → a < b → nat_lt a b ≡ true
lt_yes a b l = grind (arith, nat_tests)

lt_no : (a b : ℕ) → b ≤ a → nat_lt a b ≡ false
lt_no a b l = grind (arith, nat_tests)

abbrev two : ℕ → ℕ → Widths
two above below = record { above = above; below = below }

-- where requests go to a wider bus
pub widths_widening : (from to one other : ℕ) → from < to → 2 ^ one ≡ from → 2 ^ other ≡ to → widths_down (record { narrow = one; wide = other }) (nat_lt from to) ≡ record { above = from; below = to }
widths_widening from to one other l p q =
    ap (λ (b : Bool). two (if b then 2 ^ one else 2 ^ other) (if b then 2 ^ other else 2 ^ one)) (lt_yes from to l)
    ∙ ap (λ (n : ℕ). two n (2 ^ other)) p
    ∙ ap (two from) q

-- where they go to a narrower one
pub widths_narrowing : (from to one other : ℕ) → to ≤ from → 2 ^ one ≡ from → 2 ^ other ≡ to → widths_down (record { narrow = other; wide = one }) (nat_lt from to) ≡ record { above = from; below = to }
widths_narrowing from to one other l p q =
    ap (λ (b : Bool). two (if b then 2 ^ other else 2 ^ one) (if b then 2 ^ one else 2 ^ other)) (lt_no from to l)
    ∙ ap (λ (n : ℕ). two n (2 ^ other)) p
    ∙ ap (two from) q

pub two_widening : (from to one other : ℕ) → from < to → 2 ^ one ≡ from → 2 ^ other ≡ to → other ≤ 3 → AreTwo (record { narrow = one; wide = other })
two_widening from to one other l p q s = record {
  order = order_of one other (subst (λ (n : ℕ). n < 2 ^ other) (sym p) (subst (λ (n : ℕ). from < n) (sym q) l));
  small = s;
}

pub two_narrowing : (from to one other : ℕ) → to ≤ from → from ≢ to → 2 ^ one ≡ from → 2 ^ other ≡ to → one ≤ 3 → AreTwo (record { narrow = other; wide = one })
two_narrowing from to one other l d p q s =
    let less : to < from = omega (arith, l, d) in
    record {
      order = order_of other one (subst (λ (n : ℕ). n < 2 ^ one) (sym q) (subst (λ (n : ℕ). to < n) (sym p) less));
      small = s;
    }

-- ---- lanes

wide_is : (buses : Buses) → AreTwo buses → 2 ^ buses.narrow * 2 ^ (buses.wide - buses.narrow) ≡ 2 ^ buses.wide
wide_is buses t =
    let o = t.order in
    let e : buses.narrow + (buses.wide - buses.narrow) ≡ buses.wide = omega (arith, o) in
    sym (pow-add 2 buses.narrow (buses.wide - buses.narrow)) ∙ ap (λ (n : ℕ). 2 ^ n) e

-- the lanes of the bus above, of a bit each
mask_lanes : (buses : Buses) (widens : Bool) → AreTwo buses → lanes_in widens (2 ^ buses.narrow) buses ≡ (widths_down buses widens).above
mask_lanes buses true t = refl
mask_lanes buses false t = wide_is buses t

-- of a byte each
byte_lanes : (buses : Buses) (widens : Bool) → AreTwo buses → lanes_in widens (8 * 2 ^ buses.narrow) buses ≡ 8 * (widths_down buses widens).above
byte_lanes buses true t = refl
byte_lanes buses false t = mul_assoc 8 (2 ^ buses.narrow) (2 ^ (buses.wide - buses.narrow)) ∙ ap (λ (n : ℕ). 8 * n) (wide_is buses t)

turned_round : (buses : Buses) (widens : Bool) → (widths_down buses (not widens)).above ≡ (widths_down buses widens).below
turned_round buses true = refl
turned_round buses false = refl

pub can_widen : (b : Built) (count from to : ℕ) (buses : Buses) (widens : Bool) (above below : EdgeWires) → AreTwo buses → widths_down buses widens ≡ record { above = from; below = to } → AreWidgetQueues b count from to above below → CanWiden b count buses widens above below
can_widen b count from to buses widens above below t e h =
    let up : (widths_down buses widens).above ≡ from = ap (λ (w : Widths). w.above) e in
    let on : (widths_down buses widens).below ≡ to = ap (λ (w : Widths). w.below) e in
    record {
      down = record {
        two = t;
        open_above = h.queues.above_a;
        open_below = h.queues.below_a;
        long = h.queues.above_a_long;
        other = h.queues.below_a_long;
        op = h.op_down;
        mask = λ d. h.mask d ∙ sym up ∙ sym (mask_lanes buses widens t);
        payload = λ d. h.payload d ∙ ap (λ (n : ℕ). 8 * n) (sym up) ∙ sym (byte_lanes buses widens t);
      };
      up = record {
        two = t;
        open_below = h.queues.below_d;
        open_above = h.queues.above_d;
        long = h.queues.below_d_long;
        other = h.queues.above_d_long;
        op = h.op_up;
        payload = λ d. h.reply d ∙ ap (λ (n : ℕ). 8 * n) (sym on ∙ sym (turned_round buses widens)) ∙ sym (byte_lanes buses (not widens) t);
      };
      few_down = h.few_down;
      few_up = h.few_up;
    }
