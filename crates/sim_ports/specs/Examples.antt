-- Worked examples: atomic operations at their edge values, the bytes of memories, and a port that sends three requests.
use Rattle.std.specs.Prelude.{ℕ, ◌≡◌, true, false, List, [], ◌∷◌, Some, None}
use Rattle.tl_params.specs.declared.ops.Op.TheVariants.{PutFull, Arithmetic, Logical, Get}
use Rattle.tl_params.specs.declared.ops.Ack.TheVariants.{Ack as Plain}
use Rattle.tl_edge.specs.declared.beat.ABeat.{ABeat}
use Rattle.tl_edge.specs.declared.beat.Event.{Event}
use Rattle.tl_edge.specs.declared.beat.What.TheVariants.{Enter, Return}
use Rattle.tl_edge.specs.declared.message.Request.{Request}
use Rattle.sim_ports.specs.declared.role.Role.TheVariants.{Ram, Rom}
use Rattle.sim_ports.specs.declared.runs.Run.{Run}
use Rattle.sim_ports.specs.Atomics.{arithmetic, logical, new_bytes, signed_max, signed_min, wrapped_sum}
use Rattle.sim_ports.specs.Layout.{place_in_runs}
use Rattle.sim_ports.specs.Memories.{after_write, first_held}
use Rattle.sim_ports.specs.Sources.{Script, due_with_id, finished_at, is_busy, sent_of, source_offers}

-- ---- atomic operations

-- of one byte 0x80 is the lowest number, 0x7f the highest, and 0xff is -1
pub record AtomicsExample : Type 0 where
  pub lowest : signed_min 1 0x80 0x7f ≡ 0x80
  pub lowest_second : signed_min 1 0x7f 0x80 ≡ 0x80
  pub highest : signed_max 1 0x80 0x7f ≡ 0x7f
  pub highest_second : signed_max 1 0x7f 0x80 ≡ 0x7f
  pub minus_one_is_lower : signed_min 1 0xff 0 ≡ 0xff
  pub nought_is_higher : signed_max 1 0xff 0 ≡ 0
  pub both_negative : signed_min 1 0x82 0x81 ≡ 0x81
  pub higher_of_both : signed_max 1 0x82 0x81 ≡ 0x82
  pub not_negative_in_two : signed_max 2 0x80 0x7f ≡ 0x80
  pub widest_lowest : signed_min 8 0x8000000000000000 0x7fffffffffffffff ≡ 0x8000000000000000
  pub widest_highest : signed_max 8 0xffffffffffffffff 0 ≡ 0
  pub unsigned_lower : arithmetic 2 1 0x80 0x7f ≡ 0x7f
  pub unsigned_higher : arithmetic 3 1 0x80 0x7f ≡ 0x80
  pub wraps : wrapped_sum 1 0xff 1 ≡ 0
  pub wraps_not : wrapped_sum 2 0xff 1 ≡ 0x100
  pub widest_wraps : wrapped_sum 8 0xffffffffffffffff 2 ≡ 1
  pub exclusive : logical 0 0x0c 0x0a ≡ 0x06
  pub either : logical 1 0x0c 0x0a ≡ 0x0e
  pub both : logical 2 0x0c 0x0a ≡ 0x08
  pub swapped : logical 3 0x0c 0x0a ≡ 0x0a
  pub carried : new_bytes Arithmetic 4 (0xff ∷ 0x00 ∷ []) (0x01 ∷ 0x00 ∷ []) ≡ 0x00 ∷ 0x01 ∷ []
  pub bytes_swapped : new_bytes Logical 3 (0x11 ∷ 0x22 ∷ []) (0x33 ∷ 0x44 ∷ []) ≡ 0x33 ∷ 0x44 ∷ []

-- ---- memories

-- four addresses and two, with a hole between them
abbrev pub two_runs : List Run
two_runs = record { first = 0x10; count = 4; place = 0 } ∷ record { first = 0x20; count = 2; place = 4 } ∷ []

-- a ROM's bytes at addresses above 255; a RAM's after two bytes of which one had its flag set
pub record MemoriesExample : Type 0 where
  pub low_bits : first_held Rom (0x2ff ∷ 0x104 ∷ []) 0x104 ≡ Some 0x04
  pub all_bits : first_held Rom (0x2ff ∷ 0x104 ∷ []) 0x2ff ≡ Some 0xff
  pub not_there : first_held Rom (0x2ff ∷ 0x104 ∷ []) 0x105 ≡ None
  pub flagged : after_write (first_held Ram (8 ∷ 9 ∷ [])) 8 (false ∷ true ∷ []) (0xaa ∷ 0xbb ∷ []) 9
      ≡ Some 0xbb
  pub unflagged : after_write (first_held Ram (8 ∷ 9 ∷ [])) 8 (false ∷ true ∷ []) (0xaa ∷ 0xbb ∷ []) 8
      ≡ Some 0
  pub none_comes : after_write (first_held Ram (8 ∷ [])) 8 (true ∷ true ∷ []) (0xaa ∷ 0xbb ∷ []) 9
      ≡ None
  pub last_place : place_in_runs two_runs 0x21 ≡ Some 5
  pub in_hole : place_in_runs two_runs 0x14 ≡ None

-- ---- a port: on a bus of four bytes a put of eight bytes with id 0, a get of eight with id 1 and one of four with
-- id 0

-- the put
abbrev pub put_of_eight : Request
put_of_eight = record {
  op = PutFull;
  param = 0;
  size = 3;
  source = 0;
  address = 0x100;
  mask = [];
  payload = 1 ∷ 2 ∷ 3 ∷ 4 ∷ 5 ∷ 6 ∷ 7 ∷ 8 ∷ [];
}

-- a get of a size at an address, with an id
abbrev pub get_request : ℕ → ℕ → ℕ → Request
get_request size address id = record {
  op = Get;
  param = 0;
  size = size;
  source = id;
  address = address;
  mask = [];
  payload = [];
}

-- the three, of which the gets are offered from cycle 5 on
abbrev pub example_script : Script
example_script = record {
  width = 4;
  ids = 2;
  requests = put_of_eight ∷ get_request 3 0x108 1 ∷ get_request 2 0x10c 0 ∷ [];
  starts = 0 ∷ 5 ∷ 5 ∷ [];
}

-- the beats of the put
abbrev pub put_beat : ℕ → ABeat
put_beat payload = record {
  op = PutFull;
  param = 0;
  size = 3;
  source = 0;
  address = 0x100;
  mask = 0xf;
  payload = payload;
}

-- the beat of a get
abbrev pub get_beat : ℕ → ℕ → ℕ → ABeat
get_beat size address id = record {
  op = Get;
  param = 0;
  size = size;
  source = id;
  address = address;
  mask = 0xf;
  payload = 0;
}

-- both beats of the put have entered, in cycles 0 and 1
abbrev pub put_entered : List Event
put_entered =
    record { cycle = 0; port = 0; what = Enter (put_beat 0x04030201) }
    ∷ record { cycle = 1; port = 0; what = Enter (put_beat 0x08070605) } ∷ []

-- and the first get, in cycle 5
abbrev pub get_entered : List Event
get_entered =
    record { cycle = 0; port = 0; what = Enter (put_beat 0x04030201) }
    ∷ record { cycle = 1; port = 0; what = Enter (put_beat 0x08070605) }
    ∷ record { cycle = 5; port = 0; what = Enter (get_beat 3 0x108 1) } ∷ []

-- and the put is answered in cycle 7
abbrev pub put_returned : List Event
put_returned =
    record { cycle = 0; port = 0; what = Enter (put_beat 0x04030201) }
    ∷ record { cycle = 1; port = 0; what = Enter (put_beat 0x08070605) }
    ∷ record { cycle = 5; port = 0; what = Enter (get_beat 3 0x108 1) }
    ∷ record {
      cycle = 7;
      port = 0;
      what = Return (record { op = Plain; size = 3; source = 0; denied = false; payload = 0 });
    } ∷ []

-- how many requests are sent after so many beats, how many beats answer them, and what is offered
pub record PortExample : Type 0 where
  pub none_sent : sent_of 4 example_script.requests 0 ≡ record { whole = 0; part = 0 }
  pub half_put : sent_of 4 example_script.requests 1 ≡ record { whole = 0; part = 1 }
  pub put_sent : sent_of 4 example_script.requests 2 ≡ record { whole = 1; part = 0 }
  pub get_sent : sent_of 4 example_script.requests 3 ≡ record { whole = 2; part = 0 }
  pub all_sent : sent_of 4 example_script.requests 4 ≡ record { whole = 3; part = 0 }
  pub due_of_two : due_with_id 4 example_script.requests 3 0 ≡ 2
  pub due_of_get : due_with_id 4 example_script.requests 2 1 ≡ 2
  pub none_due : due_with_id 4 example_script.requests 1 1 ≡ 0
  pub first_beat : source_offers example_script [] 0 false ≡ Some (put_beat 0x04030201)
  pub too_early : source_offers example_script put_entered 4 false ≡ None
  pub in_time : source_offers example_script put_entered 5 false ≡ Some (get_beat 3 0x108 1)
  pub stalled : source_offers example_script put_entered 5 true ≡ None
  pub busy : is_busy example_script get_entered 0 ≡ true
  pub waits : source_offers example_script get_entered 7 false ≡ None
  pub free : is_busy example_script put_returned 0 ≡ false
  pub goes_on : source_offers example_script put_returned 8 false ≡ Some (get_beat 2 0x10c 0)
  pub finished : finished_at example_script put_returned ≡ 1
