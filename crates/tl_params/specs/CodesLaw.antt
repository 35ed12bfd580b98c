-- What the codes of operations and answers mean: each has one of its own, and a code names one.
use Rattle.std.specs.Prelude.{ℕ, ◌≡◌, ◌<◌, ◌↔◌, Some, IsSome}
use Rattle.tl_params.specs.declared.ops.Ack.{Ack}
use Rattle.tl_params.specs.declared.ops.Op.{Op}
use Rattle.tl_params.specs.Codes.{code_of_op, op_of_code, code_of_ack, ack_of_code}

-- a code names an operation or an answer exactly where it is its code; the codes are those below 6, and below 3
pub record CodesLaw : Type 0 where
  pub ops : (code : ℕ) (op : Op) → (op_of_code code ≡ Some op) ↔ (code_of_op op ≡ code)
  pub all_ops : (code : ℕ) → IsSome (op_of_code code) ↔ (code < 6)
  pub acks : (code : ℕ) (ack : Ack) → (ack_of_code code ≡ Some ack) ↔ (code_of_ack ack ≡ code)
  pub all_acks : (code : ℕ) → IsSome (ack_of_code code) ↔ (code < 3)
