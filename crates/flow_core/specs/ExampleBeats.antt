-- Beats for worked examples: a put of 16 bytes on a bus of eight, a get, and answers to both.
use Rattle.std.specs.Prelude.{ℕ, false}
use Rattle.tl_params.specs.declared.ops.Op.TheVariants.{PutFull, Get}
use Rattle.tl_params.specs.declared.ops.Ack.TheVariants.{Ack as Plain, AckData}
use Rattle.tl_edge.specs.declared.beat.ABeat.{ABeat}
use Rattle.tl_edge.specs.declared.beat.DBeat.{DBeat}

-- a beat of a put of 16 bytes at an address of the example's memory, with all eight lanes
abbrev pub put_16 : ℕ → ℕ → ABeat
put_16 id payload = record {
  op = PutFull;
  param = 0;
  size = 4;
  source = id;
  address = 0x80000010;
  mask = 0xff;
  payload = payload;
}

-- a get of a size at an address, with the mask of its lanes
abbrev pub get : ℕ → ℕ → ℕ → ℕ → ABeat
get size id address mask = record {
  op = Get;
  param = 0;
  size = size;
  source = id;
  address = address;
  mask = mask;
  payload = 0;
}

-- the answer to a put of 16 bytes
abbrev pub put_16_done : ℕ → DBeat
put_16_done id = record { op = Plain; size = 4; source = id; denied = false; payload = 0 }

-- a beat of the answer to a get of a size
abbrev pub got : ℕ → ℕ → ℕ → DBeat
got size id payload = record { op = AckData; size = size; source = id; denied = false; payload = payload }
