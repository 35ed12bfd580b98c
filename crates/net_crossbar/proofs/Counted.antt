-- How many beats follow a head, in wires.
use Rattle.std.proofs.Common.{◌≡◌, ℕ, ◌<◌, ◌≤◌, ◌^◌, Bool, true, false, cond, List, length, get_or, refl, sym, ap, ◌∙◌, subst, arith, inl, inr, if◌then◌else◌}
use Rattle.std.specs.Prelude.{◌==◌, nat_lt, ◌-◌}
use Rattle.std.proofs.Math.Nat.{pow-le-pow_right}
use Rattle.std.proofs.lemmas.Bool.{cases_lt}
use Rattle.std.proofs.lemmas.List.{get_or-map, get_or_past, length-map}
use Rattle.tl_edge.specs.Beats.{data_beats}
use Rattle.net_build.specs.declared.types.Wire.{Wire}
use Rattle.net_build.specs.Bits.{wire_values}
use Rattle.net_build.specs.Built.{Built, IsWire}
use Rattle.net_build.specs.Columns.{no_wire}
use Rattle.net_build.specs.Registers.{AreWires}
use Rattle.net_build.specs.Values.{Adds, Means, Solves, high}
use Rattle.net_build.proofs.Steps.{means_adds, wire_adds}
use Rattle.net_paths.proofs.Prefixed.{less_of, wider}
use Rattle.net_queue.specs.Rows.{KeepsValue, row_widths}
use Rattle.net_table.proofs.Indexed.{entries_later}
use Rattle.net_crossbar.specs.Rests.{IsRestTable, data_behind, request_behind, response_behind}
use Rattle.net_crossbar.proofs.Lists.{all_lifted}

pub table_adds : (old new : Built) (bytes : ℕ) (table : List Wire) → Adds old new → IsRestTable old bytes table → IsRestTable new bytes table
table_adds old new bytes table g h = record {
  long = h.long;
  entries = entries_later old new 8 table g.later h.entries;
  tells = all_lifted _ _ table (λ k w m. means_adds old new w _ g m) h.tells;
}

-- ---- the index has room for all sizes

pub index_fits : (n w m : ℕ) → n ≡ 9 → w ≡ m → 4 ≤ m → n ≤ 2 ^ w
index_fits n w m e f l =
    let p : 2 ^ 4 ≤ 2 ^ m = pow-le-pow_right {n = 2} (omega arith) {i = 4} {j = m} l in
    let q : 2 ^ w ≡ 2 ^ m = ap (λ k. 2 ^ k) f in
    omega (arith, e, p, q)

-- ---- what the table tells

past_sizes : (bytes n : ℕ) → 9 ≤ n → 0 ≡ data_behind bytes n
past_sizes bytes n l = at (nat_lt n 9) refl
  where
    at : (c : Bool) → nat_lt n 9 ≡ c → 0 ≡ data_behind bytes n
    at true e = absurd (omega (arith, l, less_of n 9 e))
    at false e = sym (ap (λ (c : Bool). cond c (data_beats n bytes - 1) 0) e)

pub table_read : (b : Built) (bytes : ℕ) (table : List Wire) (v : ℕ → ℕ) (n : ℕ) → IsRestTable b bytes table → Solves b v → get_or (wire_values v table) n 0 ≡ data_behind bytes n
table_read b bytes table v n h s =
    elim (cases_lt n 9) [
      | inl l ↦
          let c : n < length table = omega (arith, h.long, l) in
          get_or-map (λ (w : Wire). v w.number) table n no_wire 0 c ∙ (h.tells.at n no_wire c).at v s
      | inr g ↦ get_or_past (wire_values v table) n 0 (omega (arith, length-map table (λ (w : Wire). v w.number), h.long, g)) ∙ past_sizes bytes n g
    ]

below : (b : Built) (x : Wire) (v : ℕ → ℕ) → Solves b v → IsWire b x → v x.number < 2 ^ x.width
below b x v s h = subst (λ (w : ℕ). v x.number < 2 ^ w) h.has.1 (s.fits x.number h.has.0)

pub rest_tells : (old b1 b2 b3 new : Built) (bytes : ℕ) (table : List Wire) (carries size index told none w : Wire) → Adds old b1 → Adds b1 b2 → Adds b2 b3 → Adds b3 new
    → IsRestTable old bytes table → IsWire old size → size.width ≤ index.width → KeepsValue b1 size index
    → Means b2 told (λ v. get_or (wire_values v table) (v index.number) 0) → Means b3 none (λ v. 0)
    → Means new w (λ v. if v carries.number == 1 then v told.number else v none.number)
    → Means new w (λ v. if high v carries then data_behind bytes (v size.number) else 0)
rest_tells old b1 b2 b3 new bytes table carries size index told none w g1 g2 g3 g4 h i l k t z m = record {
  at = λ v s.
      let s3 = g4.later.back v s in
      let s2 = g3.later.back v s3 in
      let s1 = g2.later.back v s2 in
      let s0 = g1.later.back v s1 in
      m.at v s
      ∙ ap (λ (n : ℕ). if high v carries then n else v none.number) (t.at v s2 ∙ ap (λ (n : ℕ). get_or (wire_values v table) n 0) (k.at v s1 (wider (v size.number) size.width index.width (below old size v s0 i) l)) ∙ table_read old bytes table v (v size.number) h s0)
      ∙ ap (λ (n : ℕ). if high v carries then data_behind bytes (v size.number) else n) (z.at v s3);
}

-- ---- by the fields of a head

bit_of : (b : Bool) → ((if b then 1 else 0) == 1) ≡ b
bit_of true = refl
bit_of false = refl

field_at : (v : ℕ → ℕ) (row : List Wire) (k : ℕ) → k < length row → v (get_or row k no_wire).number ≡ get_or (wire_values v row) k 0
field_at v row k l = sym (get_or-map (λ (w : Wire). v w.number) row k no_wire 0 l)

pub request_tells : (b0 b1 new : Built) (bytes : ℕ) (row : List Wire) (four carries w : Wire) → Adds b0 b1 → Adds b1 new → 3 ≤ length row
    → Means b0 four (λ v. 4) → Means b1 carries (λ v. if nat_lt (v (get_or row 0 no_wire).number) (v four.number) then 1 else 0)
    → Means new w (λ v. if high v carries then data_behind bytes (v (get_or row 2 no_wire).number) else 0)
    → Means new w (λ v. request_behind bytes (wire_values v row))
request_tells b0 b1 new bytes row four carries w g h l f c m = record {
  at = λ v s.
      let s1 = h.later.back v s in
      let s0 = g.later.back v s1 in
      m.at v s
      ∙ ap (λ (x : Bool). if x then data_behind bytes (v (get_or row 2 no_wire).number) else 0)
      (ap (λ n. n == 1) (c.at v s1) ∙ bit_of (nat_lt (v (get_or row 0 no_wire).number) (v four.number)) ∙ ap (λ n. nat_lt (v (get_or row 0 no_wire).number) n) (f.at v s0) ∙ ap (λ n. nat_lt n 4) (field_at v row 0 (omega (arith, l))))
      ∙ ap (λ n. if nat_lt (get_or (wire_values v row) 0 0) 4 then data_behind bytes n else 0) (field_at v row 2 (omega (arith, l)));
}

pub response_tells : (b0 b1 new : Built) (bytes : ℕ) (row : List Wire) (one carries w : Wire) → Adds b0 b1 → Adds b1 new → 3 ≤ length row
    → Means b0 one (λ v. 1) → Means b1 carries (λ v. if v (get_or row 0 no_wire).number == v one.number then 1 else 0)
    → Means new w (λ v. if high v carries then data_behind bytes (v (get_or row 1 no_wire).number) else 0)
    → Means new w (λ v. response_behind bytes (wire_values v row))
response_tells b0 b1 new bytes row one carries w g h l f c m = record {
  at = λ v s.
      let s1 = h.later.back v s in
      let s0 = g.later.back v s1 in
      m.at v s
      ∙ ap (λ (x : Bool). if x then data_behind bytes (v (get_or row 1 no_wire).number) else 0)
      (ap (λ n. n == 1) (c.at v s1) ∙ bit_of (v (get_or row 0 no_wire).number == v one.number) ∙ ap (λ n. v (get_or row 0 no_wire).number == n) (f.at v s0) ∙ ap (λ n. n == 1) (field_at v row 0 (omega (arith, l))))
      ∙ ap (λ n. if get_or (wire_values v row) 0 0 == 1 then data_behind bytes n else 0) (field_at v row 1 (omega (arith, l)));
}

pub row_wire : (old new : Built) (row : List Wire) (k : ℕ) (d : Wire) → Adds old new → AreWires old (row_widths row) row → k < length row → IsWire new (get_or row k d)
row_wire old new row k d g h l = wire_adds old new (get_or row k d) g (h.each k d l).0

-- the same value
pub means_same : (b : Built) (w : Wire) (n m : ℕ) → n ≡ m → Means b w (λ v. n) → Means b w (λ v. m)
means_same b w n m e h = record { at = λ v s. h.at v s ∙ e }
