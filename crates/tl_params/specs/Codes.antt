-- The codes of operations on channel A and of answers on channel D (SiFive TileLink Specification 1.8, chapters 6, 7).
use Rattle.std.specs.Prelude.{ℕ, ◌==◌, [], ◌∷◌, Option}
use Rattle.std.specs.List.{find}
use Rattle.tl_params.specs.declared.ops.Ack.{Ack}
use Rattle.tl_params.specs.declared.ops.Ack.TheVariants as answer
use Rattle.tl_params.specs.declared.ops.Op.{Op}
use Rattle.tl_params.specs.declared.ops.Op.TheVariants.{PutFull, PutPartial, Arithmetic, Logical, Get, Intent}

-- the code of an operation
abbrev pub code_of_op : Op → ℕ
code_of_op PutFull = 0
code_of_op PutPartial = 1
code_of_op Arithmetic = 2
code_of_op Logical = 3
code_of_op Get = 4
code_of_op Intent = 5

-- the operation with a code
abbrev pub op_of_code : ℕ → Option Op
op_of_code code =
    find (λ op. code_of_op op == code) (PutFull ∷ PutPartial ∷ Arithmetic ∷ Logical ∷ Get ∷ Intent ∷ [])

-- the code of an answer
abbrev pub code_of_ack : Ack → ℕ
code_of_ack answer.Ack = 0
code_of_ack answer.AckData = 1
code_of_ack answer.HintAck = 2

-- the answer with a code
abbrev pub ack_of_code : ℕ → Option Ack
ack_of_code code = find (λ ack. code_of_ack ack == code) (answer.Ack ∷ answer.AckData ∷ answer.HintAck ∷ [])
