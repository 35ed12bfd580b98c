-- How many beats follow a head: what the wires tell is what the network states, of messages of a size that there is.
use Rattle.std.proofs.Common.{◌≡◌, ℕ, ◌<◌, ◌≤◌, ◌^◌, ◌/◌, Bool, true, false, not, cond, List, get_or, refl, sym, ap, ◌∙◌, arith, if◌then◌else◌}
use Rattle.std.specs.Prelude.{◌==◌, ◌-◌, nat_lt}
use Rattle.std.proofs.Math.Nat.{pow-le-pow_right, div-le_self}
use Rattle.tl_edge.specs.Beats.{data_beats}
use Rattle.net_gate.proofs.Stood.{below}
use Rattle.net_paths.proofs.Prefixed.{less_of}
use Rattle.net_xbar.specs.Ways.{rest_a, rest_d}
use Rattle.net_crossbar.specs.declared.channel.Channel.{Channel}
use Rattle.net_crossbar.specs.declared.channel.Channel.TheVariants.{A, D}
use Rattle.net_crossbar.specs.Rests.{beats_behind_head, data_behind}

beats_few : (size bytes : ℕ) → size < 9 → data_beats size bytes - 1 ≤ 255
beats_few size bytes l =
    let p : 2 ^ size ≤ 2 ^ 8 = pow-le-pow_right {n = 2} (omega arith) {i = size} {j = 8} (omega arith) in
    let q : 2 ^ size / bytes ≤ 2 ^ size = div-le_self (2 ^ size) bytes in
    omega (arith, p, q)

data_few : (bytes size : ℕ) → data_behind bytes size ≤ 255
data_few bytes size = at (nat_lt size 9) refl
  where
    at : (c : Bool) → nat_lt size 9 ≡ c → cond c (data_beats size bytes - 1) 0 ≤ 255
    at true e = beats_few size bytes (less_of size 9 e)
    at false e = omega arith

pick_few : (c : Bool) (n : ℕ) → n ≤ 255 → (if c then n else 0) ≤ 255
pick_few true n l = l
pick_few false n l = omega arith

pub behind_few : (channel : Channel) (bytes : ℕ) (items : List ℕ) → beats_behind_head channel bytes items ≤ 255
behind_few A bytes items = pick_few (nat_lt (get_or items 0 0) 4) _ (data_few bytes (get_or items 2 0))
behind_few D bytes items = pick_few (get_or items 0 0 == 1) _ (data_few bytes (get_or items 1 0))

data_same : (bytes size : ℕ) → size ≤ 8 → data_behind bytes size ≡ data_beats size bytes - 1
data_same bytes size l = ap (λ (c : Bool). cond c (data_beats size bytes - 1) 0) (at (nat_lt size 9) refl)
  where
    at : (c : Bool) → nat_lt size 9 ≡ c → nat_lt size 9 ≡ true
    at true e = e
    at false e = absurd (let f : true ≡ false = ap not (sym e) ∙ below size 9 (omega (arith, l)) in cc)

pick_same : (c : Bool) (n m : ℕ) → n ≡ m → cond c n 0 ≡ (if c then m else 0)
pick_same true n m e = e
pick_same false n m e = refl

pub request_same : (bytes : ℕ) (items : List ℕ) → get_or items 2 0 ≤ 8 → rest_a bytes items ≡ beats_behind_head A bytes items
request_same bytes items l = pick_same (nat_lt (get_or items 0 0) 4) _ _ (sym (data_same bytes (get_or items 2 0) l))

pub response_same : (bytes : ℕ) (items : List ℕ) → get_or items 1 0 ≤ 8 → rest_d bytes items ≡ beats_behind_head D bytes items
response_same bytes items l = pick_same (get_or items 0 0 == 1) _ _ (sym (data_same bytes (get_or items 1 0) l))
