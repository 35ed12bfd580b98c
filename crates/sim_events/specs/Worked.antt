-- A worked example: a put of eight bytes and a get of four of them between a source and a memory on one edge, cycle by
-- cycle; and the same where the source takes no response for some cycles.
use Rattle.std.specs.Prelude.{ℕ, ◌≡◌, List, [], ◌∷◌, true, false, codes}
use Rattle.tl_params.specs.declared.ops.Ack.TheVariants.{Ack as Plain, AckData}
use Rattle.tl_params.specs.declared.ops.Op.TheVariants.{Get, PutFull}
use Rattle.tl_params.specs.declared.ops.Policy.TheVariants.{Lowest}
use Rattle.tl_edge.specs.declared.beat.ABeat.{ABeat}
use Rattle.tl_edge.specs.declared.beat.DBeat.{DBeat}
use Rattle.tl_edge.specs.declared.beat.Event.{Event}
use Rattle.tl_edge.specs.declared.beat.What.{What}
use Rattle.tl_edge.specs.declared.beat.What.TheVariants.{Enter, Return, Leave, Reply}
use Rattle.tl_edge.specs.declared.plan.Plan.{Plan}
use Rattle.tl_edge.specs.ExamplePlan.{edge, example_port, memory}
use Rattle.sim_ports.specs.declared.role.Role.TheVariants.{Ram}
use Rattle.sim_ports.specs.declared.stimulus.Stall.{Stall}
use Rattle.sim_ports.specs.Memories.{memory_says}
use Rattle.sim_events.specs.Setups.{Setup, events_until, run_events}

-- a source with two ids and a memory
abbrev pub one_edge : Plan
one_edge = record {
  name = codes "one";
  policy = Lowest;
  leaves = [];
  edges = edge 8 2 (memory ∷ []) ∷ [];
  sources = example_port (codes "core") 0 0 ∷ [];
  sinks = example_port (codes "ram") 5 0 ∷ [];
}

-- a put of eight bytes with id 0 and a get of the upper four of them with id 1, and some stalls
abbrev pub put_then_get : List Stall → Setup
put_then_get stalls = record {
  plan = one_edge;
  requests =
      record {
        port = 0;
        at = 0;
        request = record {
          op = PutFull;
          param = 0;
          size = 3;
          source = 0;
          address = 0x80000010;
          mask = [];
          payload = 1 ∷ 2 ∷ 3 ∷ 4 ∷ 5 ∷ 6 ∷ 7 ∷ 8 ∷ [];
        };
      }
      ∷ record {
        port = 0;
        at = 0;
        request = record {
          op = Get;
          param = 0;
          size = 2;
          source = 1;
          address = 0x80000014;
          mask = [];
          payload = [];
        };
      }
      ∷ [];
  stalls = stalls;
  settings = record { role = Ram; delay = 0 } ∷ [];
  devices = memory_says ∷ [];
  addresses =
      (0x80000010 ∷ 0x80000011 ∷ 0x80000012 ∷ 0x80000013 ∷ 0x80000014 ∷ 0x80000015 ∷ 0x80000016 ∷ 0x80000017 ∷ []) ∷ [];
}

-- the beat of the put, and that of the get
abbrev pub the_put : ABeat
the_put = record {
  op = PutFull;
  param = 0;
  size = 3;
  source = 0;
  address = 0x80000010;
  mask = 0xff;
  payload = 0x0807060504030201;
}

abbrev pub the_get : ABeat
the_get = record { op = Get; param = 0; size = 2; source = 1; address = 0x80000014; mask = 0xf0; payload = 0 }

-- their responses
abbrev pub the_ack : DBeat
the_ack = record { op = Plain; size = 3; source = 0; denied = false; payload = 0 }

abbrev pub the_bytes : DBeat
the_bytes = record { op = AckData; size = 2; source = 1; denied = false; payload = 0x0807060500000000 }

-- what happens in a cycle at the port 0 of the source or of the memory
abbrev pub in_cycle : ℕ → What → Event
in_cycle cycle what = record { cycle = cycle; port = 0; what = what }

-- the source takes no response in the cycles 3 and 4
abbrev pub no_response : Stall
no_response = record { source = true; port = 0; on_a = false; start = 3; end = 5 }

-- nothing has happened before the first cycle; each request is in the network for a cycle and each response too; and a
-- response that isn't taken waits
pub record RunExample : Type 0 where
  pub before : events_until (put_then_get []) 0 ≡ []
  pub begins : run_events (put_then_get []) 0 ≡ in_cycle 0 (Enter the_put) ∷ []
  pub all : events_until (put_then_get []) 8
      ≡ in_cycle 0 (Enter the_put) ∷ in_cycle 1 (Enter the_get) ∷ in_cycle 1 (Leave the_put)
      ∷ in_cycle 2 (Reply the_ack) ∷ in_cycle 3 (Return the_ack) ∷ in_cycle 3 (Leave the_get)
      ∷ in_cycle 4 (Reply the_bytes) ∷ in_cycle 5 (Return the_bytes) ∷ []
  pub stalled : events_until (put_then_get (no_response ∷ [])) 8
      ≡ in_cycle 0 (Enter the_put) ∷ in_cycle 1 (Enter the_get) ∷ in_cycle 1 (Leave the_put)
      ∷ in_cycle 2 (Reply the_ack) ∷ in_cycle 3 (Leave the_get) ∷ in_cycle 4 (Reply the_bytes)
      ∷ in_cycle 5 (Return the_ack) ∷ in_cycle 6 (Return the_bytes) ∷ []
