-- A worked example: what a sink port takes and offers while a put and a get leave at it.
use Rattle.std.specs.Prelude.{ℕ, ◌≡◌, true, false, Bool, List, [], ◌∷◌, ◌++◌, Option, Some, None}
use Rattle.tl_params.specs.declared.ops.Ack.TheVariants.{Ack as Plain, AckData}
use Rattle.tl_edge.specs.declared.beat.DBeat.{DBeat}
use Rattle.tl_edge.specs.declared.beat.Event.{Event}
use Rattle.tl_edge.specs.declared.beat.What.TheVariants.{Leave, Reply}
use Rattle.sim_ports.specs.declared.role.Role.{Role}
use Rattle.sim_ports.specs.declared.role.Role.TheVariants.{Ram, Deny}
use Rattle.sim_ports.specs.Devices.{Meaning}
use Rattle.sim_ports.specs.Examples.{get_beat, put_beat}
use Rattle.sim_ports.specs.Memories.{first_held, memory_says}
use Rattle.sim_ports.specs.Sinks.{Sinking, served, sinking, sink_offers, sink_takes, unasked}

-- a memory of eight bytes in a role
abbrev pub eight_bytes : Role → Meaning
eight_bytes role = record {
  says = memory_says;
  prepared = true;
  role = role;
  held = first_held role (0x100 ∷ 0x101 ∷ 0x102 ∷ 0x103 ∷ 0x104 ∷ 0x105 ∷ 0x106 ∷ 0x107 ∷ []);
}

-- it stands at a port with a delay of three cycles on a bus of four bytes
abbrev pub before_all : Role → Sinking
before_all role = sinking (eight_bytes role) (unasked 4 3)

-- a beat of a response of eight bytes
abbrev pub back_beat : ℕ → Bool → ℕ → DBeat
back_beat id denied payload =
    record { op = AckData; size = 3; source = id; denied = denied; payload = payload }

-- the response to the put
abbrev pub put_ack : DBeat
put_ack = record { op = Plain; size = 3; source = 0; denied = false; payload = 0 }

-- the first beat of a put of eight bytes leaves in cycle 2
abbrev pub half_left : List Event
half_left = record { cycle = 2; port = 0; what = Leave (put_beat 0x04030201) } ∷ []

-- and the second one in cycle 5
abbrev pub put_left : List Event
put_left = half_left ++ record { cycle = 5; port = 0; what = Leave (put_beat 0x08070605) } ∷ []

-- the response passes in cycle 9
abbrev pub put_replied : List Event
put_replied = put_left ++ record { cycle = 9; port = 0; what = Reply put_ack } ∷ []

-- a get of the eight bytes leaves in cycle 10
abbrev pub get_left : List Event
get_left = put_replied ++ record { cycle = 10; port = 0; what = Leave (get_beat 3 0x100 1) } ∷ []

-- the first beat of its response passes in cycle 14
abbrev pub first_replied : List Event
first_replied = get_left ++ record { cycle = 14; port = 0; what = Reply (back_beat 1 false 0x04030201) } ∷ []

-- and the second one in cycle 16
abbrev pub both_replied : List Event
both_replied = first_replied ++ record { cycle = 16; port = 0; what = Reply (back_beat 1 false 0x08070605) } ∷ []

-- whether the port takes after that, and what it offers
abbrev pub takes_after : List Event → Bool → Bool
takes_after history stalled = sink_takes (served (before_all Ram) history).port stalled

abbrev pub offers_after : Role → List Event → ℕ → Bool → Option DBeat
offers_after role history cycle stalled = sink_offers (served (before_all role) history).port cycle stalled

pub record SinkExample : Type 0 where
  pub takes : takes_after [] false ≡ true
  pub stalled_on_a : takes_after [] true ≡ false
  pub none_yet : offers_after Ram [] 0 false ≡ None
  pub goes_on : takes_after half_left false ≡ true
  pub half_offers : offers_after Ram half_left 6 false ≡ None
  pub holds : takes_after put_left false ≡ false
  pub too_early : offers_after Ram put_left 8 false ≡ None
  pub in_time : offers_after Ram put_left 9 false ≡ Some put_ack
  pub stalled_on_d : offers_after Ram put_left 9 true ≡ None
  pub again : offers_after Ram put_left 12 false ≡ Some put_ack
  pub takes_again : takes_after put_replied false ≡ true
  pub passed : offers_after Ram put_replied 10 false ≡ None
  pub one_cycle_more : offers_after Ram get_left 13 false ≡ None
  pub reads : offers_after Ram get_left 14 false ≡ Some (back_beat 1 false 0x04030201)
  pub holds_on : takes_after first_replied false ≡ false
  pub second : offers_after Ram first_replied 15 false ≡ Some (back_beat 1 false 0x08070605)
  pub waits : offers_after Ram first_replied 15 true ≡ None
  pub free : takes_after both_replied false ≡ true
  pub denied : offers_after Deny get_left 14 false ≡ Some (back_beat 1 true 0)
  pub denied_too : offers_after Deny first_replied 16 false ≡ Some (back_beat 1 true 0)
