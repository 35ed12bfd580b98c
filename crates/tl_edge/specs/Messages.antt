-- Messages: which params an op has, which op answers it, and how many flags and bytes it carries.
use Rattle.std.specs.Prelude.{ℕ, ◌≡◌, ◌≤◌, ◌<◌, ◌%◌, List, All, ◌^◌, ◌==◌, nat_lt, Bool, true, false, cond, length}
use Rattle.tl_params.specs.declared.ops.Op.{Op}
use Rattle.tl_params.specs.declared.ops.Op.TheVariants.{PutFull, PutPartial, Arithmetic, Logical, Get, Intent}
use Rattle.tl_params.specs.declared.ops.Ack.{Ack}
use Rattle.tl_params.specs.declared.ops.Ack.TheVariants.{Ack as Plain, AckData, HintAck}
use Rattle.tl_edge.specs.declared.message.Request.{Request}
use Rattle.tl_edge.specs.declared.message.Response.{Response}

-- the params of an op: MIN, MAX, MINU, MAXU and ADD; XOR, OR, AND and SWAP; PrefetchRead and PrefetchWrite
abbrev pub has_param : Op → ℕ → Bool
has_param PutFull param = param == 0
has_param PutPartial param = param == 0
has_param Arithmetic param = nat_lt param 5
has_param Logical param = nat_lt param 4
has_param Get param = param == 0
has_param Intent param = nat_lt param 2

-- the op that answers an op
abbrev pub ack_of : Op → Ack
ack_of PutFull = Plain
ack_of PutPartial = Plain
ack_of Arithmetic = AckData
ack_of Logical = AckData
ack_of Get = AckData
ack_of Intent = HintAck

-- a request carries data
abbrev pub has_data : Op → Bool
has_data PutFull = true
has_data PutPartial = true
has_data Arithmetic = true
has_data Logical = true
has_data Get = false
has_data Intent = false

-- a request says which of its bytes are written
abbrev pub has_flags : Op → Bool
has_flags PutFull = false
has_flags PutPartial = true
has_flags Arithmetic = false
has_flags Logical = false
has_flags Get = false
has_flags Intent = false

-- a response carries data
abbrev pub brings_data : Ack → Bool
brings_data Plain = false
brings_data AckData = true
brings_data HintAck = false

-- the number of bytes that a size stands for
abbrev pub bytes_of : ℕ → ℕ
bytes_of size = 2 ^ size

-- a request as it may be sent at all, whatever its param: at most 256 bytes, aligned, with a flag for each byte where
-- it says which are written, and with all bytes of its data
pub record IsRequest (request : Request) : Type 0 where
  pub small : request.size ≤ 8
  pub aligned : request.address % bytes_of request.size ≡ 0
  pub flags : length request.mask ≡ cond (has_flags request.op) (bytes_of request.size) 0
  pub bytes : length request.payload ≡ cond (has_data request.op) (bytes_of request.size) 0

-- a response to a request: the op that answers it, its size and id, and all bytes of the data that it brings
pub record RespondsTo (request : Request) (response : Response) : Type 0 where
  pub op : response.op ≡ ack_of request.op
  pub size : response.size ≡ request.size
  pub source : response.source ≡ request.source
  pub bytes : length response.payload ≡ cond (brings_data response.op) (bytes_of response.size) 0

-- each number is a byte, as all numbers of a message's data are
abbrev pub AreBytes : List ℕ → Type 0
AreBytes bytes = All (λ byte. byte < 256) bytes

-- such a request whose bytes are bytes: laws speak of lists of numbers
pub record IsWholeRequest (request : Request) : Type 0 where
  pub shape : IsRequest request
  pub bytes : AreBytes request.payload

-- such a response whose bytes are bytes
pub record IsWholeResponse (request : Request) (response : Response) : Type 0 where
  pub answers : RespondsTo request response
  pub bytes : AreBytes response.payload
