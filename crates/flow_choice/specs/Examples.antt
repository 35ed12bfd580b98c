-- Worked examples: the order in which some are asked, the new id at a shrinker, and all chosen moves of a cycle of a
-- network of two sources, a crossbar and a memory, under both policies.
use Rattle.std.specs.Prelude.{◌≡◌, true, [], ◌∷◌, codes, Some, None}
use Rattle.tl_params.specs.declared.ops.Policy.{Policy}
use Rattle.tl_params.specs.declared.ops.Policy.TheVariants.{Lowest, Round}
use Rattle.tl_params.specs.declared.ops.Template.TheVariants.{Xbar}
use Rattle.tl_edge.specs.declared.plan.Plan.{Plan}
use Rattle.tl_edge.specs.ExamplePlan.{edge, leaf, example_port, memory}
use Rattle.flow_core.specs.declared.locks.Gate.{Gate}
use Rattle.flow_core.specs.declared.moves.Move.TheVariants.{Enter, Leave, Reply, Return, ForwardA, ForwardD}
use Rattle.flow_core.specs.Leaves.{open_gate}
use Rattle.flow_core.specs.Leaves.LeafState.{XbarState, ShrinkerState}
use Rattle.flow_core.specs.Tags.{no_tag}
use Rattle.flow_core.specs.Network.{State}
use Rattle.flow_core.specs.Turns.{lowest_free, next_id}
use Rattle.flow_core.specs.ExampleBeats.{put_16, get, got, put_16_done}
use Rattle.flow_choice.specs.declared.offers.Offers.{Offers}
use Rattle.flow_choice.specs.Turns.{in_turn}
use Rattle.flow_choice.specs.Choosing.{chosen_moves}

-- from the one whose turn is next on, going round; the lowest free id, and that of a request in progress
pub record TurnsExample : Type 0 where
  pub lowest : in_turn Lowest 2 4 ≡ 0 ∷ 1 ∷ 2 ∷ 3 ∷ []
  pub round : in_turn Round 2 4 ≡ 2 ∷ 3 ∷ 0 ∷ 1 ∷ []
  pub first : in_turn Round 0 3 ≡ 0 ∷ 1 ∷ 2 ∷ []
  pub last : in_turn Round 2 3 ≡ 2 ∷ 0 ∷ 1 ∷ []
  pub free : lowest_free (Some 7 ∷ None ∷ None ∷ []) ≡ 1
  pub begins : next_id (ShrinkerState 8 (record { olds = Some 7 ∷ None ∷ None ∷ []; asking = None; answering = 0 })) ≡ 1
  pub goes_on : next_id (ShrinkerState 8 (record {
    olds = Some 7 ∷ None ∷ Some 5 ∷ [];
    asking = Some (record { id = 2; left = 3 });
    answering = 0;
  }))
      ≡ 2

-- edges 0 and 1 go to the crossbar, edge 2 from it to the memory
abbrev pub two_to_one : Policy → Plan
two_to_one policy = record {
  name = codes "two";
  policy = policy;
  leaves = leaf Xbar [] (0 ∷ 1 ∷ []) (2 ∷ []) ∷ [];
  edges = edge 8 2 (memory ∷ []) ∷ edge 8 2 (memory ∷ []) ∷ edge 8 4 (memory ∷ []) ∷ [];
  sources = example_port (codes "core") 0 0 ∷ example_port (codes "dma") 1 1 ∷ [];
  sinks = example_port (codes "ram") 5 2 ∷ [];
}

-- a request of each source waits for the crossbar, and one has passed it; an answer waits for the first source, and one
-- for the crossbar; the gate of the output as given
abbrev pub busy : Policy → Gate → State
busy policy gate = record {
  plan = two_to_one policy;
  a =
      ((get 3 0 0x80000000 0xff, no_tag) ∷ []) ∷ ((put_16 1 7, no_tag) ∷ []) ∷ ((get 3 2 0x80000008 0xff, no_tag) ∷ [])
      ∷ [];
  d = ((got 3 1 9, no_tag) ∷ []) ∷ [] ∷ ((put_16_done 2, no_tag) ∷ []) ∷ [];
  leaves =
      record {
        leaf =
            XbarState
            (record {
              ranges = record { start = 0; end = 2 } ∷ record { start = 2; end = 4 } ∷ [];
              slaves = (memory ∷ []) ∷ [];
              width = 8;
            })
            (record { outs = gate ∷ []; ins = open_gate ∷ open_gate ∷ [] });
        tag = no_tag;
      }
      ∷ [];
}

-- source 0 offers a beat, and all ports take; the memory offers an answer
abbrev pub all_offered : Offers
all_offered = record {
  enter = Some (get 3 1 0x80000018 0xff, no_tag) ∷ None ∷ [];
  take_d = true ∷ true ∷ [];
  take_a = true ∷ [];
  reply = Some (got 3 2 5, no_tag) ∷ [];
}

-- nobody holds the output, and the turn is input 1's
abbrev pub turn_of_1 : Gate
turn_of_1 = record { lock = None; next = 1 }

-- input 0 holds the output for one more beat
abbrev pub held_for_0 : Gate
held_for_0 = record { lock = Some (record { by = 0; left = 1 }); next = 1 }

-- what enters comes before what returns, what leaves before what is replied, and ports before leaves; the crossbar
-- serves input 0 under the one policy, input 1 under the other, and input 0 where that holds the output
pub record CycleExample : Type 0 where
  pub lowest : chosen_moves (busy Lowest turn_of_1) all_offered
      ≡ Enter 0 (get 3 1 0x80000018 0xff) no_tag ∷ Return 0 ∷ Leave 0 ∷ Reply 0 (got 3 2 5) no_tag ∷ ForwardA 0 0 0 0
      ∷ ForwardD 0 1 0 ∷ []
  pub round : chosen_moves (busy Round turn_of_1) all_offered
      ≡ Enter 0 (get 3 1 0x80000018 0xff) no_tag ∷ Return 0 ∷ Leave 0 ∷ Reply 0 (got 3 2 5) no_tag ∷ ForwardA 0 1 0 0
      ∷ ForwardD 0 1 0 ∷ []
  pub held : chosen_moves (busy Round held_for_0) all_offered
      ≡ Enter 0 (get 3 1 0x80000018 0xff) no_tag ∷ Return 0 ∷ Leave 0 ∷ Reply 0 (got 3 2 5) no_tag ∷ ForwardA 0 0 0 0
      ∷ ForwardD 0 1 0 ∷ []
