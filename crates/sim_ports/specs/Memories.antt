-- Memories: what they hold at first, and what they answer, by their roles.
use Rattle.std.specs.Prelude.{ℕ, ◌+◌, ◌-◌, ◌%◌, ◌&&◌, nat_eq, nat_le, Bool, true, false, cond, Some, None, List, [], map, replicate, slice_index, slice_index_or, unwrap_or, option_map}
use Rattle.std.specs.List.{range_with_len, list_any}
use Rattle.tl_params.specs.declared.ops.Op.{Op}
use Rattle.tl_params.specs.declared.ops.Op.TheVariants.{PutFull, PutPartial, Arithmetic, Logical, Get, Intent}
use Rattle.tl_edge.specs.declared.message.Request.{Request}
use Rattle.tl_edge.specs.Beats.{flags_of}
use Rattle.tl_edge.specs.Messages.{bytes_of}
use Rattle.sim_ports.specs.declared.role.Role.{Role}
use Rattle.sim_ports.specs.declared.role.Role.TheVariants.{Ram, Rom, Deny}
use Rattle.sim_ports.specs.Atomics.{new_bytes}
use Rattle.sim_ports.specs.Devices.{Answer, HeldBytes, Meaning, Says, answer_bytes}

-- ---- at first: zeros, and in a ROM the low eight bits of each address

abbrev pub first_byte : Role → ℕ → ℕ
first_byte Ram address = 0
first_byte Rom address = address % 256
first_byte Deny address = 0

-- these bytes at some addresses, which may stand in any order
abbrev pub first_held : Role → List ℕ → HeldBytes
first_held role addresses =
    λ address. cond (list_any (nat_eq address) addresses) (Some (first_byte role address)) None

-- ---- reading and writing

-- the byte at an address, 0 where there is none
abbrev pub byte_at : HeldBytes → ℕ → ℕ
byte_at held address = unwrap_or (held address) 0

-- so many bytes from an address on
abbrev pub bytes_from : HeldBytes → ℕ → ℕ → List ℕ
bytes_from held address count = map (λ number. byte_at held (address + number)) (range_with_len 0 count)

-- a byte after some were written from an address on: the written one where it is one of these and its flag is set
abbrev pub byte_after : ℕ → List Bool → List ℕ → ℕ → ℕ → ℕ
byte_after address flags bytes at old =
    cond (nat_le address at && slice_index_or flags (at - address) false) (slice_index bytes (at - address)) old

-- what is held after that; no address comes or goes
abbrev pub after_write : HeldBytes → ℕ → List Bool → List ℕ → HeldBytes
after_write held address flags bytes = λ at. option_map (byte_after address flags bytes at) (held at)

-- ---- the answers

-- done, with this data, and this is held afterwards
abbrev pub done_answer : List ℕ → HeldBytes → Answer
done_answer payload held = record { denied = false; payload = payload; held = held }

-- denied, with zeros for data and without a change
abbrev pub denied_answer : HeldBytes → Request → Answer
denied_answer held request =
    record { denied = true; payload = replicate (answer_bytes request) 0; held = held }

-- the bytes of a request, as they are held
abbrev pub old_bytes : HeldBytes → Request → List ℕ
old_bytes held request = bytes_from held request.address (bytes_of request.size)

-- an atomic operation: the old bytes are the data, and the new ones are written
abbrev pub exchanged : HeldBytes → Request → Answer
exchanged held request =
    done_answer (old_bytes held request)
    (after_write held request.address (flags_of request)
    (new_bytes request.op request.param (old_bytes held request) request.payload))

-- the answer to a request that isn't denied, by the operation
abbrev pub granted : Op → HeldBytes → Request → Answer
granted PutFull held request = done_answer [] (after_write held request.address (flags_of request) request.payload)
granted PutPartial held request = done_answer [] (after_write held request.address (flags_of request) request.payload)
granted Arithmetic held request = exchanged held request
granted Logical held request = exchanged held request
granted Get held request = done_answer (old_bytes held request) held
granted Intent held request = done_answer [] held

-- an operation only reads
abbrev pub only_reads : Op → Bool
only_reads PutFull = false
only_reads PutPartial = false
only_reads Arithmetic = false
only_reads Logical = false
only_reads Get = true
only_reads Intent = true

-- a RAM grants all operations, a ROM those that only read, and what denies grants none
abbrev pub grants : Role → Op → Bool
grants Ram op = true
grants Rom op = only_reads op
grants Deny op = false

-- a memory's answer in a role
abbrev pub memory_answer : Role → HeldBytes → Request → Answer
memory_answer role held request =
    cond (grants role request.op) (granted request.op held request) (denied_answer held request)

-- what memories state
abbrev pub memory_says : Says
memory_says = record { start = first_held; stated = memory_answer }

-- a memory that isn't prepared
abbrev pub unprepared : Meaning
unprepared = record { says = memory_says; prepared = false; role = Deny; held = λ address. None }
