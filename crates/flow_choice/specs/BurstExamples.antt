-- Worked examples of whole runs: a put and a get go from one source straight to a memory and are answered; and two
-- sources send two puts of 16 bytes each through a crossbar, whose beats stay together, in the order of the policy.
use Rattle.std.specs.Prelude.{ℕ, ◌≡◌, Bool, true, false, List, [], ◌∷◌, map, flat_map, codes, Option, Some, None}
use Rattle.tl_params.specs.declared.ops.Ack.TheVariants.{Ack as Plain}
use Rattle.tl_params.specs.declared.ops.Op.TheVariants.{PutFull}
use Rattle.tl_params.specs.declared.ops.Policy.{Policy}
use Rattle.tl_params.specs.declared.ops.Policy.TheVariants.{Lowest, Round}
use Rattle.tl_edge.specs.declared.beat.ABeat.{ABeat}
use Rattle.tl_edge.specs.declared.beat.DBeat.{DBeat}
use Rattle.tl_edge.specs.declared.beat.Tag.{Tag}
use Rattle.tl_edge.specs.declared.plan.Plan.{Plan}
use Rattle.tl_edge.specs.ExamplePlan.{edge, example_port, memory}
use Rattle.flow_core.specs.declared.moves.Move.{Move}
use Rattle.flow_core.specs.declared.moves.Move.TheVariants.{Enter, Leave, Reply, Return}
use Rattle.flow_core.specs.Tags.{no_tag}
use Rattle.flow_core.specs.Network.{network_at_start}
use Rattle.flow_core.specs.ExampleBeats.{put_16, get, got}
use Rattle.flow_choice.specs.declared.offers.Offers.{Offers}
use Rattle.flow_choice.specs.Choosing.{moves_by_cycle}
use Rattle.flow_choice.specs.Orderly.{all_left}
use Rattle.flow_choice.specs.Examples.{two_to_one}

-- ---- one source and a memory on one edge

abbrev pub straight : Plan
straight = record {
  name = codes "one";
  policy = Lowest;
  leaves = [];
  edges = edge 8 2 (memory ∷ []) ∷ [];
  sources = example_port (codes "core") 0 0 ∷ [];
  sinks = example_port (codes "ram") 5 0 ∷ [];
}

-- a put of eight bytes
abbrev pub put_word : ABeat
put_word = record {
  op = PutFull;
  param = 0;
  size = 3;
  source = 0;
  address = 0x80000010;
  mask = 0xff;
  payload = 0x807060504030201;
}

-- its answer
abbrev pub put_word_done : DBeat
put_word_done = record { op = Plain; size = 3; source = 0; denied = false; payload = 0 }

-- a get of the upper four of these bytes
abbrev pub get_4 : ABeat
get_4 = get 2 1 0x80000014 0xf0

-- its answer
abbrev pub got_4 : DBeat
got_4 = got 2 1 0x807060500000000

-- a cycle: what the source offers, whether the memory takes, and what it offers; the source takes
abbrev pub offered : Option (ABeat × Tag) → Bool → Option (DBeat × Tag) → Offers
offered enter takes reply =
    record { enter = enter ∷ []; take_d = true ∷ []; take_a = takes ∷ []; reply = reply ∷ [] }

-- the memory takes a request, answers it in the next cycle, and takes again in the one after
abbrev pub put_and_get : List Offers
put_and_get =
    offered (Some (put_word, no_tag)) true None ∷ offered (Some (get_4, no_tag)) true None
    ∷ offered None false (Some (put_word_done, no_tag)) ∷ offered None true None
    ∷ offered None false (Some (got_4, no_tag)) ∷ offered None true None ∷ []

-- a beat that enters leaves in the next cycle, and an answer returns in the one after it was put
pub record StraightExample : Type 0 where
  pub moves : moves_by_cycle (network_at_start straight) put_and_get
      ≡ (Enter 0 put_word no_tag ∷ []) ∷ (Enter 0 get_4 no_tag ∷ Leave 0 ∷ []) ∷ (Reply 0 put_word_done no_tag ∷ [])
      ∷ (Return 0 ∷ Leave 0 ∷ []) ∷ (Reply 0 got_4 no_tag ∷ []) ∷ (Return 0 ∷ []) ∷ []

-- ---- two sources, a crossbar and a memory

-- a beat of a put with an id and this data
abbrev pub port_beat : ℕ → ℕ → Option (ABeat × Tag)
port_beat id payload = Some (put_16 id payload, no_tag)

-- a cycle in which the sources offer these, and the memory takes
abbrev pub both_offer : (first second : Option (ABeat × Tag)) → Offers
both_offer first second = record {
  enter = first ∷ second ∷ [];
  take_d = true ∷ true ∷ [];
  take_a = true ∷ [];
  reply = None ∷ [];
}

-- each source sends puts 0 and 1, of the data 1 and 2, then 3 and 4; a beat is offered until it enters
abbrev pub until_lowest : List Offers
until_lowest =
    both_offer (port_beat 0 1) (port_beat 0 1) ∷ both_offer (port_beat 0 2) (port_beat 0 2)
    ∷ both_offer (port_beat 1 3) (port_beat 1 3) ∷ both_offer (port_beat 1 4) (port_beat 1 3)
    ∷ both_offer None (port_beat 1 3) ∷ both_offer None (port_beat 1 3) ∷ both_offer None (port_beat 1 3)
    ∷ both_offer None (port_beat 1 4) ∷ both_offer None None ∷ both_offer None None ∷ []

-- the same where the crossbar goes round, and so the second source's third beat enters two cycles earlier
abbrev pub until_round : List Offers
until_round =
    both_offer (port_beat 0 1) (port_beat 0 1) ∷ both_offer (port_beat 0 2) (port_beat 0 2)
    ∷ both_offer (port_beat 1 3) (port_beat 1 3) ∷ both_offer (port_beat 1 4) (port_beat 1 3)
    ∷ both_offer None (port_beat 1 3) ∷ both_offer None (port_beat 1 4) ∷ both_offer None None
    ∷ both_offer None None ∷ both_offer None None ∷ both_offer None None ∷ []

-- the ids and data of the beats that have left in some cycles
abbrev pub arrived : Policy → List Offers → List (ℕ × ℕ)
arrived policy offers =
    map (λ (beat : ABeat × Tag). (beat.0.source, beat.0.payload))
    (all_left 0 (network_at_start (two_to_one policy))
    (flat_map (λ (moves : List Move). moves) (moves_by_cycle (network_at_start (two_to_one policy)) offers)))

-- the beats of a put arrive together, the second source's with ids from 2 on; the first source's puts come first under
-- the one policy, and the sources take turns under the other
pub record BurstExample : Type 0 where
  pub lowest : arrived Lowest until_lowest
      ≡ (0, 1) ∷ (0, 2) ∷ (1, 3) ∷ (1, 4) ∷ (2, 1) ∷ (2, 2) ∷ (3, 3) ∷ (3, 4) ∷ []
  pub round : arrived Round until_round
      ≡ (0, 1) ∷ (0, 2) ∷ (2, 1) ∷ (2, 2) ∷ (1, 3) ∷ (1, 4) ∷ (3, 3) ∷ (3, 4) ∷ []
