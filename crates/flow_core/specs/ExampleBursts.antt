-- Worked examples of each machine on messages of several beats: crossbars with other numbers of outputs than inputs,
-- buses that grow wider, pieces of two beats, and the lines of the leaves as one.
use Rattle.std.specs.Prelude.{ℕ, ◌≡◌, Bool, true, false, List, [], ◌∷◌, Some, None}
use Rattle.dip_sets.specs.SizeRanges.{size_range}
use Rattle.tl_params.specs.declared.ops.Op.TheVariants.{PutPartial}
use Rattle.tl_params.specs.declared.ops.Ack.TheVariants.{Ack as Plain, AckData}
use Rattle.tl_edge.specs.declared.beat.ABeat.{ABeat}
use Rattle.tl_edge.specs.declared.beat.DBeat.{DBeat}
use Rattle.tl_edge.specs.declared.beat.Tag.{Tag}
use Rattle.tl_edge.specs.ExamplePlan.{memory, device}
use Rattle.flow_core.specs.Acts.{forwards}
use Rattle.flow_core.specs.Crossing.{Crossbar, Gate, Gates, cross_down, cross_up}
use Rattle.flow_core.specs.Shrinking.{Slots, shrink_down, shrink_up}
use Rattle.flow_core.specs.Turning.{Widths, turn_down, turn_up}
use Rattle.flow_core.specs.Fragmenting.{Knife, Phase, Hand, fragment_down, fragment_down_alone, fragment_up, fragment_up_alone}
use Rattle.flow_core.specs.Fragmenting.Phase.{Sending, Waiting, Replying}
use Rattle.flow_core.specs.Leaves.{LeafState, open_gate, no_lanes, down}
use Rattle.flow_core.specs.Leaves.LeafState.{XbarState, ShrinkerState, WidthState}
use Rattle.flow_core.specs.Tags.{Held, no_tag, held_down, held_up}
use Rattle.flow_core.specs.ExampleBeats.{put_16, get, put_16_done, got}
use Rattle.flow_core.specs.Examples.{example_bar, with_output_0, held_by_0, slots, eight_to_four, widget, side, put_8, pieces_of_8, get_16_head, alone}

-- ---- a crossbar of two inputs with two ids each and three outputs, to the memory, the device and nobody

-- what it goes by
abbrev pub wide_bar : Crossbar
wide_bar = record {
  ranges = record { start = 0; end = 2 } ∷ record { start = 2; end = 4 } ∷ [];
  slaves = (memory ∷ []) ∷ (device (size_range 1 64) ∷ []) ∷ [] ∷ [];
  width = 8;
}

-- output 0 and input 1 as given, all else open
abbrev pub wide_gates : Gate → Gate → Gates
wide_gates output input = record { outs = output ∷ open_gate ∷ open_gate ∷ []; ins = open_gate ∷ input ∷ [] }

-- a gate with this turn, that nobody holds
abbrev pub turned_to : ℕ → Gate
turned_to next = record { lock = None; next = next }

-- a gate that is held for so many beats more
abbrev pub held_for : ℕ → ℕ → ℕ → Gate
held_for by left next = record { lock = Some (record { by = by; left = left }); next = next }

-- a response holds its input for as many beats as its data has, a get holds no output, and the turn goes round among
-- the two inputs on channel A and the three outputs on channel D
pub record CrossbarBursts : Type 0 where
  pub response : cross_up wide_bar (wide_gates open_gate open_gate) 1 1 (got 4 3 7)
      ≡ Some (forwards (got 4 1 7) (wide_gates open_gate (held_for 1 1 2)))
  pub long_response : cross_up wide_bar (wide_gates open_gate open_gate) 1 1 (got 5 3 7)
      ≡ Some (forwards (got 5 1 7) (wide_gates open_gate (held_for 1 3 2)))
  pub goes_on : cross_up wide_bar (wide_gates open_gate (held_for 1 3 2)) 1 1 (got 5 3 8)
      ≡ Some (forwards (got 5 1 8) (wide_gates open_gate (held_for 1 2 2)))
  pub ends : cross_up wide_bar (wide_gates open_gate (held_for 1 1 2)) 1 1 (got 4 3 8)
      ≡ Some (forwards (got 4 1 8) (wide_gates open_gate (turned_to 2)))
  pub other_output : cross_up wide_bar (wide_gates open_gate (held_for 1 1 2)) 1 0 (put_16_done 2) ≡ None
  pub last_output : cross_up wide_bar (wide_gates open_gate (turned_to 1)) 1 2 (put_16_done 2)
      ≡ Some (forwards (put_16_done 0) (wide_gates open_gate open_gate))
  pub no_output : cross_up wide_bar (wide_gates open_gate open_gate) 2 0 (put_16_done 2) ≡ None
  pub get_holds_nothing : cross_down wide_bar (wide_gates (turned_to 1) open_gate) 1 0 (get 4 0 0x80000010 0xff)
      ≡ Some (forwards (get 4 2 0x80000010 0xff) (wide_gates open_gate open_gate))
  pub put_holds : cross_down wide_bar (wide_gates open_gate open_gate) 1 0 (put_16 0 7)
      ≡ Some (forwards (put_16 2 7) (wide_gates (held_for 1 1 0) open_gate))
  pub nobody_there : cross_down wide_bar (wide_gates open_gate open_gate) 1 2 (put_16 0 7) ≡ None

-- ---- a shrinker with a put of two beats

-- a put with the old id 3 has id 0, and so many beats left
abbrev pub asking_for : ℕ → Slots
asking_for left =
    record { olds = Some 3 ∷ None ∷ []; asking = Some (record { id = 0; left = left }); answering = 0 }

-- the first beat of a put has id 0 and holds it; the second goes with it, and with no other; answers come back in the
-- other order than the requests went
pub record ShrinkerBursts : Type 0 where
  pub goes_on : shrink_down 8 (asking_for 1) 0 (put_16 3 8) ≡ Some (forwards (put_16 0 8) (slots (Some 3) None 0))
  pub longer : shrink_down 8 (asking_for 3) 0 (put_16 3 8) ≡ Some (forwards (put_16 0 8) (asking_for 2))
  pub with_no_other : shrink_down 8 (asking_for 1) 1 (put_16 3 8) ≡ None
  pub later_first : shrink_up 8 (slots (Some 2) (Some 3) 0) (put_16_done 1)
      ≡ Some (forwards (put_16_done 3) (slots (Some 2) None 0))
  pub then_earlier : shrink_up 8 (slots (Some 2) None 0) (put_16_done 0)
      ≡ Some (forwards (put_16_done 2) (slots None None 0))

-- ---- a width widget from a bus of four bytes to one of eight, and back

-- the widths
abbrev pub four_to_eight : Widths
four_to_eight = record { above = 4; below = 8 }

-- both buses of eight
abbrev pub eight_to_eight : Widths
eight_to_eight = record { above = 8; below = 8 }

-- a beat of a put of 16 bytes with these lanes
abbrev pub put_lanes : ℕ → ℕ → ABeat
put_lanes mask payload = record {
  op = PutPartial;
  param = 0;
  size = 4;
  source = 0;
  address = 0x1010;
  mask = mask;
  payload = payload;
}

-- an answer without data, on whose lanes something stands
abbrev pub done_with : ℕ → DBeat
done_with payload = record { op = Plain; size = 4; source = 0; denied = false; payload = payload }

-- of four narrow beats the second ends a wide one, as the last does; a request without data keeps its address whatever
-- is in progress, a later beat keeps none; and between buses of one width nothing is changed or kept
pub record WidthBursts : Type 0 where
  pub absorbed : turn_down four_to_eight (widget None no_lanes no_lanes) (put_lanes 0x5 0x4030201)
      ≡ Some (record { take = true; put = None; next = widget (Some 0) (side 1 0x5 0x4030201) no_lanes })
  pub joined : turn_down four_to_eight (widget (Some 0) (side 1 0x5 0x4030201) no_lanes) (put_lanes 0xa 0x8070605)
      ≡ Some (forwards (put_lanes 0xa5 0x807060504030201) (widget (Some 0) (side 2 0 0) no_lanes))
  pub last : turn_down four_to_eight (widget (Some 0) (side 3 0x5 0x4030201) no_lanes) (put_lanes 0xa 0x8070605)
      ≡ Some (forwards (put_lanes 0xa5 0x807060504030201) (widget (Some 0) no_lanes no_lanes))
  pub stays : turn_down eight_to_four (widget (Some 5) (side 2 0 0) no_lanes) (put_lanes 0xa5 0x807060504030201)
      ≡ Some (record {
        take = false;
        put = Some (put_lanes 0x5 0x4030201);
        next = widget (Some 5) (side 3 0 0) no_lanes;
      })
  pub ends_wide : turn_down eight_to_four (widget (Some 5) (side 1 0 0) no_lanes) (put_lanes 0xa5 0x807060504030201)
      ≡ Some (forwards (put_lanes 0xa 0x8070605) (widget (Some 5) (side 2 0 0) no_lanes))
  pub split_answer : turn_up four_to_eight (widget (Some 0) no_lanes no_lanes) (got 4 0 0x807060504030201)
      ≡ Some (record { take = false; put = Some (got 4 0 0x4030201); next = widget (Some 0) no_lanes (side 1 0 0) })
  pub split_further : turn_up four_to_eight (widget (Some 0) no_lanes (side 1 0 0)) (got 4 0 0x807060504030201)
      ≡ Some (forwards (got 4 0 0x8070605) (widget (Some 0) no_lanes (side 2 0 0)))
  pub get_keeps : turn_down eight_to_four (widget (Some 3) (side 1 0 0) no_lanes) (get 0 0 0x1007 0x80)
      ≡ Some (forwards (get 0 0 0x1007 0x8) (widget (Some 7) (side 1 0 0) no_lanes))
  pub same_width : turn_down eight_to_eight (widget None no_lanes no_lanes) (put_lanes 0xff 7)
      ≡ Some (forwards (put_lanes 0xff 7) (widget None no_lanes no_lanes))
  pub same_width_back : turn_up eight_to_eight (widget None no_lanes no_lanes) (got 4 0 7)
      ≡ Some (forwards (got 4 0 7) (widget None no_lanes no_lanes))
  pub no_data : turn_up eight_to_four (widget None no_lanes (side 1 0 9)) (done_with 7)
      ≡ Some (forwards (done_with 0) (widget None no_lanes (side 1 0 9)))

-- ---- a fragmenter on a bus of eight bytes, with pieces of 16

-- what it goes by
abbrev pub pieces_of_16 : Knife
pieces_of_16 = record { most = 16; width = 8 }

-- a beat of a put of so large a size at an address
abbrev pub put_at : ℕ → ℕ → ℕ → ℕ → ABeat
put_at size address mask payload = record {
  op = PutPartial;
  param = 0;
  size = size;
  source = 1;
  address = address;
  mask = mask;
  payload = payload;
}

-- a put of 32 bytes in hand
abbrev pub put_in_hand : Phase → ℕ → ℕ → List ℕ → Bool → Hand
put_in_hand phase piece done collected denied = record {
  phase = phase;
  head = record { op = PutPartial; param = 0; size = 5; source = 1; address = 0x80000020 };
  piece = piece;
  done = done;
  collected = collected;
  denied = denied;
}

-- an answer without data to a put of a size
abbrev pub put_done : ℕ → Bool → DBeat
put_done size denied = record { op = Plain; size = size; source = 1; denied = denied; payload = 0 }

-- a get of 16 bytes in hand, all of whose pieces of eight are answered, and one denied
abbrev pub denied_get : ℕ → Hand
denied_get done = record {
  phase = Replying;
  head = get_16_head;
  piece = 1;
  done = done;
  collected = 7 ∷ 8 ∷ [];
  denied = true;
}

-- each piece takes two beats and waits for its answer; where the first is denied the second is sent all the same, and
-- the whole answer is denied, with data 0
pub record FragmenterBursts : Type 0 where
  pub first : fragment_down pieces_of_16 None (put_at 5 0x80000020 0xf0 7)
      ≡ Some (forwards (put_at 4 0x80000020 0xf0 7) (Some (put_in_hand Sending 0 1 [] false)))
  pub second : fragment_down pieces_of_16 (Some (put_in_hand Sending 0 1 [] false)) (put_at 5 0x80000020 0xf 8)
      ≡ Some (forwards (put_at 4 0x80000020 0xf 8) (Some (put_in_hand Waiting 0 0 [] false)))
  pub not_alone : fragment_down_alone pieces_of_16 (Some (put_in_hand Sending 1 0 (0 ∷ []) false)) ≡ None
  pub waits : fragment_down pieces_of_16 (Some (put_in_hand Waiting 0 0 [] false)) (put_at 5 0x80000020 0xf 9) ≡ None
  pub answered : fragment_up pieces_of_16 (Some (put_in_hand Waiting 0 0 [] false)) (put_done 4 false)
      ≡ Some (record { take = true; put = None; next = Some (put_in_hand Sending 1 0 (0 ∷ []) false) })
  pub denied : fragment_up pieces_of_16 (Some (put_in_hand Waiting 0 0 [] false)) (put_done 4 true)
      ≡ Some (record { take = true; put = None; next = Some (put_in_hand Sending 1 0 (0 ∷ []) true) })
  pub third : fragment_down pieces_of_16 (Some (put_in_hand Sending 1 0 (0 ∷ []) true)) (put_at 5 0x80000020 0xff 9)
      ≡ Some (forwards (put_at 4 0x80000030 0xff 9) (Some (put_in_hand Sending 1 1 (0 ∷ []) true)))
  pub last_answer : fragment_up pieces_of_16 (Some (put_in_hand Waiting 1 0 (0 ∷ []) true)) (put_done 4 false)
      ≡ Some (record { take = true; put = None; next = Some (put_in_hand Replying 1 0 (0 ∷ 0 ∷ []) true) })
  pub back : fragment_up_alone pieces_of_16 (Some (put_in_hand Replying 1 0 (0 ∷ 0 ∷ []) true))
      ≡ Some (alone (put_done 5 true) None)
  pub get_denied : fragment_up_alone pieces_of_8 (Some (denied_get 0))
      ≡ Some (alone (record { op = AckData; size = 4; source = 1; denied = true; payload = 0 }) (Some (denied_get 1)))

-- ---- the machines as leaves

-- a leaf with no request in hand
abbrev pub held : LeafState → Held
held leaf = record { leaf = leaf; tag = no_tag }

-- a crossbar takes any input and output and no new id, a shrinker one input, one output and any new id, and the width
-- adapter one input, one output and no new id; the tag of a head passes
pub record LinesExample : Type 0 where
  pub crossbar : (tag : Tag)
      → held_down (held (XbarState example_bar (with_output_0 open_gate))) 0 0 0 (put_16 1 7, tag)
      ≡ Some (record {
        take = true;
        put = Some (put_16 5 7, tag);
        next = held (XbarState example_bar (with_output_0 held_by_0));
      })
  pub crossbar_id : down (XbarState example_bar (with_output_0 open_gate)) 1 0 0 (put_16 1 7) ≡ None
  pub crossbar_back : (tag : Tag)
      → held_up (held (XbarState wide_bar (wide_gates open_gate open_gate))) 1 1 (got 4 3 7, tag)
      ≡ Some (record {
        take = true;
        put = Some (got 4 1 7, tag);
        next = held (XbarState wide_bar (wide_gates open_gate (held_for 1 1 2)));
      })
  pub shrinker : (tag : Tag)
      → held_down (held (ShrinkerState 8 (slots (Some 2) None 0))) 1 0 0 (get 4 3 0x80000010 0xff, tag)
      ≡ Some (record {
        take = true;
        put = Some (get 4 1 0x80000010 0xff, tag);
        next = held (ShrinkerState 8 (slots (Some 2) (Some 3) 0));
      })
  pub shrinker_input : down (ShrinkerState 8 (slots None None 0)) 0 1 0 (get 4 3 0x80000010 0xff) ≡ None
  pub shrinker_back : (tag : Tag)
      → held_up (held (ShrinkerState 8 (slots (Some 2) (Some 3) 0))) 0 0 (put_16_done 1, tag)
      ≡ Some (record {
        take = true;
        put = Some (put_16_done 3, tag);
        next = held (ShrinkerState 8 (slots (Some 2) None 0));
      })
  pub width : (tag : Tag)
      → held_down (held (WidthState eight_to_four (widget None no_lanes no_lanes)))
      0 0 0 (put_8 0xa5 0x807060504030201, tag)
      ≡ Some (record {
        take = false;
        put = Some (put_8 0x5 0x4030201, tag);
        next = held (WidthState eight_to_four (widget (Some 0) (side 1 0 0) no_lanes));
      })
  pub width_id : down (WidthState eight_to_four (widget None no_lanes no_lanes)) 1 0 0 (put_8 0xa5 0) ≡ None
  pub width_back : (tag : Tag)
      → held_up (held (WidthState eight_to_four (widget (Some 7) no_lanes no_lanes)))
      0 0 (got 0 0 0x7000000, tag)
      ≡ Some (record {
        take = true;
        put = Some (got 0 0 0x700000000000000, tag);
        next = held (WidthState eight_to_four (widget (Some 7) no_lanes no_lanes));
      })
