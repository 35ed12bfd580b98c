-- Worked examples of each machine: what its states and beats are in so many words.
use Rattle.std.specs.Prelude.{ℕ, ◌≡◌, true, false, List, [], ◌∷◌, Option, Some, None}
use Rattle.tl_params.specs.declared.ops.Op.TheVariants.{PutPartial, Get}
use Rattle.tl_edge.specs.declared.beat.ABeat.{ABeat}
use Rattle.tl_edge.specs.ExamplePlan.{example, crossbar, shrinker, width_adapter, fragmenter, memory, device}
use Rattle.dip_sets.specs.SizeRanges.{size_range}
use Rattle.flow_core.specs.Acts.{Act, forwards}
use Rattle.flow_core.specs.Crossing.{Crossbar, Gate, Gates, cross_down, cross_up}
use Rattle.flow_core.specs.Shrinking.{Slots, shrink_down, shrink_up}
use Rattle.flow_core.specs.Turning.{Widths, Side, Widget, turn_down, turn_up}
use Rattle.flow_core.specs.Fragmenting.{Knife, Phase, Head, Hand, fragment_down, fragment_down_alone, fragment_up, fragment_up_alone}
use Rattle.flow_core.specs.Fragmenting.Phase.{Sending, Waiting, Replying}
use Rattle.flow_core.specs.Leaves.{leaf_at_start, open_gate, no_lanes}
use Rattle.flow_core.specs.Leaves.LeafState.{XbarState, ShrinkerState, WidthState, FragmenterState}
use Rattle.flow_core.specs.ExampleBeats.{put_16, get, put_16_done, got}

-- ---- the crossbar of the example of a plan: the shrinker's two ids are moved to 4 and 5, the copying engine's are 0
-- to 2; output 0 goes to the memory, output 1 to the device

-- what it goes by
abbrev pub example_bar : Crossbar
example_bar = record {
  ranges = record { start = 4; end = 6 } ∷ record { start = 0; end = 4 } ∷ [];
  slaves = (memory ∷ []) ∷ (device (size_range 1 64) ∷ []) ∷ [];
  width = 8;
}

-- output 0 as given, all else open
abbrev pub with_output_0 : Gate → Gates
with_output_0 gate = record { outs = gate ∷ open_gate ∷ []; ins = open_gate ∷ open_gate ∷ [] }

-- output 0 is held by input 0 for one more beat, and then it is the turn of input 1
abbrev pub held_by_0 : Gate
held_by_0 = record { lock = Some (record { by = 0; left = 1 }); next = 1 }

-- a put of two beats from input 0 holds output 0 until its second beat has passed; input 1 waits meanwhile
pub record CrossbarExample : Type 0 where
  pub start : leaf_at_start example crossbar ≡ XbarState example_bar (with_output_0 open_gate)
  pub first : cross_down example_bar (with_output_0 open_gate) 0 0 (put_16 1 7)
      ≡ Some (forwards (put_16 5 7) (with_output_0 held_by_0))
  pub other_waits : cross_down example_bar (with_output_0 held_by_0) 1 0 (put_16 1 8) ≡ None
  pub second : cross_down example_bar (with_output_0 held_by_0) 0 0 (put_16 1 9)
      ≡ Some (forwards (put_16 5 9) (with_output_0 (record { lock = None; next = 1 })))
  pub not_there : cross_down example_bar (with_output_0 open_gate) 0 1 (put_16 1 7) ≡ None
  pub last_turn : cross_down example_bar (with_output_0 open_gate) 1 0 (get 3 2 0x80000008 0xff)
      ≡ Some (forwards (get 3 2 0x80000008 0xff) (with_output_0 open_gate))
  pub back : cross_up example_bar (with_output_0 open_gate) 0 0 (put_16_done 5)
      ≡ Some (forwards (put_16_done 1) (record {
        outs = open_gate ∷ open_gate ∷ [];
        ins = record { lock = None; next = 1 } ∷ open_gate ∷ [];
      }))
  pub not_back : cross_up example_bar (with_output_0 open_gate) 1 0 (put_16_done 5) ≡ None

-- ---- the shrinker of the example: four ids become two

-- two new ids, of which each stands for an old one or is free
abbrev pub slots : Option ℕ → Option ℕ → ℕ → Slots
slots zeroth first answering = record { olds = zeroth ∷ first ∷ []; asking = None; answering = answering }

-- a get with id 3 goes on with the free id 1, and not with 0, which is taken; the second beat of its answer frees it
pub record ShrinkerExample : Type 0 where
  pub start : leaf_at_start example shrinker ≡ ShrinkerState 8 (slots None None 0)
  pub first : shrink_down 8 (slots (Some 2) None 0) 1 (get 4 3 0x80000010 0xff)
      ≡ Some (forwards (get 4 1 0x80000010 0xff) (slots (Some 2) (Some 3) 0))
  pub taken : shrink_down 8 (slots (Some 2) None 0) 0 (get 4 3 0x80000010 0xff) ≡ None
  pub not_there : shrink_down 8 (slots (Some 2) None 0) 2 (get 4 3 0x80000010 0xff) ≡ None
  pub burst : shrink_down 8 (slots None None 0) 0 (put_16 3 7)
      ≡ Some (forwards (put_16 0 7) (record {
        olds = Some 3 ∷ None ∷ [];
        asking = Some (record { id = 0; left = 1 });
        answering = 0;
      }))
  pub back : shrink_up 8 (slots (Some 2) (Some 3) 0) (got 4 1 7)
      ≡ Some (forwards (got 4 3 7) (slots (Some 2) (Some 3) 1))
  pub last_back : shrink_up 8 (slots (Some 2) (Some 3) 1) (got 4 1 8)
      ≡ Some (forwards (got 4 3 8) (slots (Some 2) None 0))
  pub free : shrink_up 8 (slots (Some 2) None 0) (got 4 1 7) ≡ None

-- ---- a width widget between a bus of eight bytes and one of four

-- the widths of the example's
abbrev pub eight_to_four : Widths
eight_to_four = record { above = 8; below = 4 }

-- one id, whose address is kept, and the requests in progress on both channels
abbrev pub widget : Option ℕ → Side → Side → Widget
widget kept a d = record { kept = kept ∷ []; a = a; d = d }

-- so many narrow beats are done, with these lanes collected
abbrev pub side : ℕ → ℕ → ℕ → Side
side done mask payload = record { done = done; mask = mask; payload = payload }

-- a beat of a put of eight bytes with these lanes
abbrev pub put_8 : ℕ → ℕ → ABeat
put_8 mask payload = record {
  op = PutPartial;
  param = 0;
  size = 3;
  source = 0;
  address = 0x1008;
  mask = mask;
  payload = payload;
}

-- a get of one byte at 1007 has lane 7 above and lane 3 below, and so has its answer; a put of eight bytes goes as two
-- beats, of which the second takes the head; and two beats of an answer come back as one
pub record WidthExample : Type 0 where
  pub start : leaf_at_start example width_adapter
      ≡ WidthState eight_to_four
      (record { kept = None ∷ None ∷ None ∷ None ∷ None ∷ None ∷ []; a = no_lanes; d = no_lanes })
  pub plain : turn_down eight_to_four (widget None no_lanes no_lanes) (get 0 0 0x1007 0x80)
      ≡ Some (forwards (get 0 0 0x1007 0x8) (widget (Some 7) no_lanes no_lanes))
  pub plain_back : turn_up eight_to_four (widget (Some 7) no_lanes no_lanes) (got 0 0 0x7000000)
      ≡ Some (forwards (got 0 0 0x700000000000000) (widget (Some 7) no_lanes no_lanes))
  pub low_half : turn_down eight_to_four (widget None no_lanes no_lanes) (put_8 0xa5 0x807060504030201)
      ≡ Some (record {
        take = false;
        put = Some (put_8 0x5 0x4030201);
        next = widget (Some 0) (side 1 0 0) no_lanes;
      })
  pub high_half : turn_down eight_to_four (widget (Some 0) (side 1 0 0) no_lanes) (put_8 0xa5 0x807060504030201)
      ≡ Some (record { take = true; put = Some (put_8 0xa 0x8070605); next = widget (Some 0) no_lanes no_lanes })
  pub collected : turn_up eight_to_four (widget (Some 0) no_lanes no_lanes) (got 3 0 0x4030201)
      ≡ Some (record { take = true; put = None; next = widget (Some 0) no_lanes (side 1 0 0x4030201) })
  pub whole : turn_up eight_to_four (widget (Some 0) no_lanes (side 1 0 0x4030201)) (got 3 0 0x8070605)
      ≡ Some (forwards (got 3 0 0x807060504030201) (widget (Some 0) no_lanes no_lanes))
  pub all_done : turn_down eight_to_four (widget (Some 0) (side 2 0 0) no_lanes) (put_8 0xff 0) ≡ None
  pub not_kept : turn_up eight_to_four (widget None no_lanes no_lanes) (got 3 0 0) ≡ None

-- ---- a fragmenter on a bus of eight bytes, with pieces of eight

-- what it goes by
abbrev pub pieces_of_8 : Knife
pieces_of_8 = record { most = 8; width = 8 }

-- the fields of a get of 16 bytes
abbrev pub get_16_head : Head
get_16_head = record { op = Get; param = 0; size = 4; source = 1; address = 0x80000010 }

-- that get in hand, at a piece, with the data of some beats
abbrev pub in_hand : Phase → ℕ → ℕ → List ℕ → Hand
in_hand phase piece done collected = record {
  phase = phase;
  head = get_16_head;
  piece = piece;
  done = done;
  collected = collected;
  denied = false;
}

-- an act without a head
abbrev pub alone : {B : Type 0} → B → Option Hand → Act B (Option Hand)
alone beat hand = record { take = false; put = Some beat; next = hand }

-- a get of 16 bytes goes as two gets of eight, the second after the answer to the first, and comes back as one answer
-- of two beats after the answer to the second
pub record FragmenterExample : Type 0 where
  pub start : leaf_at_start example fragmenter ≡ FragmenterState (record { most = 4; width = 4 }) None
  pub first : fragment_down pieces_of_8 None (get 4 1 0x80000010 0xff)
      ≡ Some (forwards (get 3 1 0x80000010 0xff) (Some (in_hand Waiting 0 0 [])))
  pub one_at_a_time : fragment_down pieces_of_8 (Some (in_hand Waiting 0 0 [])) (get 4 0 0x80000020 0xff) ≡ None
  pub first_answer : fragment_up pieces_of_8 (Some (in_hand Waiting 0 0 [])) (got 3 1 7)
      ≡ Some (record { take = true; put = None; next = Some (in_hand Sending 1 0 (7 ∷ [])) })
  pub second : fragment_down_alone pieces_of_8 (Some (in_hand Sending 1 0 (7 ∷ [])))
      ≡ Some (alone (get 3 1 0x80000018 0xff) (Some (in_hand Waiting 1 0 (7 ∷ []))))
  pub second_answer : fragment_up pieces_of_8 (Some (in_hand Waiting 1 0 (7 ∷ []))) (got 3 1 8)
      ≡ Some (record { take = true; put = None; next = Some (in_hand Replying 1 0 (7 ∷ 8 ∷ [])) })
  pub back : fragment_up_alone pieces_of_8 (Some (in_hand Replying 1 0 (7 ∷ 8 ∷ [])))
      ≡ Some (alone (got 4 1 7) (Some (in_hand Replying 1 1 (7 ∷ 8 ∷ []))))
  pub last_back : fragment_up_alone pieces_of_8 (Some (in_hand Replying 1 1 (7 ∷ 8 ∷ [])))
      ≡ Some (alone (got 4 1 8) None)
  pub small : fragment_down pieces_of_8 None (get 3 1 0x80000010 0xff)
      ≡ Some (forwards (get 3 1 0x80000010 0xff) (Some (record {
        phase = Waiting;
        head = record { op = Get; param = 0; size = 3; source = 1; address = 0x80000010 };
        piece = 0;
        done = 0;
        collected = [];
        denied = false;
      })))
