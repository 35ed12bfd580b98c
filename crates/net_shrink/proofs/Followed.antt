-- How many beats follow a head.
use Rattle.std.proofs.Common.{◌≡◌, ℕ, ◌-◌, ◌≤◌, Bool, true, false, cond, ◌&&◌, refl, sym, ap, ◌∙◌, subst, if◌then◌else◌}
use Rattle.std.specs.Prelude.{◌==◌, nat_lt}
use Rattle.tl_params.specs.declared.ops.Op.{Op}
use Rattle.tl_params.specs.declared.ops.Op.TheVariants.{PutFull, PutPartial, Arithmetic, Logical, Get, Intent}
use Rattle.tl_params.specs.declared.ops.Ack.{Ack}
use Rattle.tl_params.specs.declared.ops.Ack.TheVariants.{Ack as Plain, AckData, HintAck}
use Rattle.tl_params.specs.Codes.{code_of_ack, code_of_op}
use Rattle.tl_edge.specs.Beats.{data_beats}
use Rattle.tl_edge.specs.Messages.{brings_data, has_data}
use Rattle.net_build.specs.declared.types.Wire.{Wire}
use Rattle.net_build.specs.Built.{Built}
use Rattle.net_build.specs.Values.{Adds, Later, Means, Tells, high}
use Rattle.net_slots.specs.declared.types.Counter.{Counter}
use Rattle.net_slots.specs.SlotWires.{FollowBeats, IsCounter}
use Rattle.net_shrink.specs.Between.{FollowsRequest, FollowsResponse, IsAnswering}

bit_of : (b : Bool) → ((if b then 1 else 0) == 1) ≡ b
bit_of true = refl
bit_of false = refl

has_data_is : (op : Op) → nat_lt (code_of_op op) 4 ≡ has_data op
has_data_is PutFull = refl
has_data_is PutPartial = refl
has_data_is Arithmetic = refl
has_data_is Logical = refl
has_data_is Get = refl
has_data_is Intent = refl

brings_data_is : (op : Ack) → (code_of_ack op == 1) ≡ brings_data op
brings_data_is Plain = refl
brings_data_is AckData = refl
brings_data_is HintAck = refl

less_one : (b : Bool) (n : ℕ) → (if b then n - 1 else 0) ≡ cond b n 1 - 1
less_one true n = refl
less_one false n = refl

pub request_follows : (b1 b2 new : Built) (bus : ℕ) (op size limit carries w : Wire) → Adds b1 b2 → Adds b2 new → Means b1 limit (λ v. 4)
    → Means b2 carries (λ v. if nat_lt (v op.number) (v limit.number) then 1 else 0) → FollowBeats new bus carries size w → FollowsRequest new bus op size w
request_follows b1 b2 new bus op size limit carries w g h l c f = record {
  at = λ v beat s o z small.
      let s2 = h.later.back v s in
      let has : high v carries ≡ has_data beat.op =
      ap (λ n. n == 1) (c.at v s2) ∙ bit_of (nat_lt (v op.number) (v limit.number))
      ∙ ap (λ n. nat_lt (v op.number) n) (l.at v (g.later.back v s2)) ∙ ap (λ n. nat_lt n 4) o ∙ has_data_is beat.op in
      f.at v s (subst (λ n. n ≤ 8) (sym z) small)
      ∙ ap (λ n. if high v carries then data_beats n bus - 1 else 0) z
      ∙ ap (λ x. if x then data_beats beat.size bus - 1 else 0) has
      ∙ less_one (has_data beat.op) (data_beats beat.size bus);
}

pub response_follows : (b1 b2 new : Built) (bus : ℕ) (op size code carries w : Wire) → Adds b1 b2 → Adds b2 new → Means b1 code (λ v. 1)
    → Means b2 carries (λ v. if v op.number == v code.number then 1 else 0) → FollowBeats new bus carries size w → FollowsResponse new bus op size w
response_follows b1 b2 new bus op size code carries w g h l c f = record {
  at = λ v beat s o z small.
      let s2 = h.later.back v s in
      let has : high v carries ≡ brings_data beat.op =
      ap (λ n. n == 1) (c.at v s2) ∙ bit_of (v op.number == v code.number)
      ∙ ap (λ n. v op.number == n) (l.at v (g.later.back v s2)) ∙ ap (λ n. n == 1) o ∙ brings_data_is beat.op in
      f.at v s (subst (λ n. n ≤ 8) (sym z) small)
      ∙ ap (λ n. if high v carries then data_beats n bus - 1 else 0) z
      ∙ ap (λ x. if x then data_beats beat.size bus - 1 else 0) has
      ∙ less_one (brings_data beat.op) (data_beats beat.size bus);
}

pub answers : (b1 b2 b3 new : Built) (bus : ℕ) (valid ready op size goes rest frees : Wire) (c : Counter) → Later b1 new → Later b2 new → Later b3 new
    → Tells b1 goes (λ v. high v valid && high v ready) → FollowsResponse b2 bus op size rest → IsCounter b3 goes rest c → Tells new frees (λ v. high v goes && high v c.ends)
    → IsAnswering new bus valid ready op size (record { goes = goes; frees = frees; left = c.left; rest = rest })
answers b1 b2 b3 new bus valid ready op size goes rest frees c l1 l2 l3 g r k f = record {
  goes = λ v s. g.at v (l1.back v s);
  frees = λ v s. f.at v s ∙ ap (λ x. high v goes && x) (k.ends v (l3.back v s));
  rest = record { at = λ v beat s o z small. r.at v beat (l2.back v s) o z small };
  starts = λ v a. k.starts v (l3.starts v a);
  nexts = λ v u s t z. k.nexts v u (l3.back v s) (l3.ticks v u t) z;
}
