-- What a leaf does in one move: by its own state and at most one beat, whatever the rest of the network is.
use Rattle.std.specs.Prelude.{ℕ, Bool, true, Option, Some}
use Rattle.tl_edge.specs.declared.beat.ABeat.{ABeat}
use Rattle.tl_edge.specs.declared.beat.DBeat.{DBeat}

-- what a leaf with states S does on a channel of beats B: whether it takes the head, what it puts, and its next state.
-- With a beat put it is a forward; without, an absorb.
pub record Act (B S : Type 0) : Type 0 where
  pub take : Bool
  pub put : Option B
  pub next : S

-- an act of one kind of leaf, as an act of any
abbrev pub lifted : {B S T : Type 0} → (S → T) → Act B S → Act B T
lifted f act = record { take = act.take; put = act.put; next = f act.next }

-- the head is taken and goes on as this beat
abbrev pub forwards : {B S : Type 0} → B → S → Act B S
forwards beat next = record { take = true; put = Some beat; next = next }

-- a beat of channel A with another id
abbrev pub with_a_id : ℕ → ABeat → ABeat
with_a_id id beat = record {
  op = beat.op;
  param = beat.param;
  size = beat.size;
  source = id;
  address = beat.address;
  mask = beat.mask;
  payload = beat.payload;
}

-- a beat of channel D with another id
abbrev pub with_d_id : ℕ → DBeat → DBeat
with_d_id id beat = record {
  op = beat.op;
  size = beat.size;
  source = id;
  denied = beat.denied;
  payload = beat.payload;
}

-- a beat of channel A with another mask and other data
abbrev pub with_a_lanes : ℕ → ℕ → ABeat → ABeat
with_a_lanes mask payload beat = record {
  op = beat.op;
  param = beat.param;
  size = beat.size;
  source = beat.source;
  address = beat.address;
  mask = mask;
  payload = payload;
}

-- a beat of channel D with other data
abbrev pub with_d_lanes : ℕ → DBeat → DBeat
with_d_lanes payload beat = record {
  op = beat.op;
  size = beat.size;
  source = beat.source;
  denied = beat.denied;
  payload = payload;
}
