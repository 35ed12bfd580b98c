-- Worked examples of moves: between one source and one sink stands a buffer, or a fragmenter with pieces of 8 bytes.
use Rattle.std.specs.Prelude.{ℕ, ◌≡◌, true, false, List, [], ◌∷◌, codes, Some, None}
use Rattle.tl_params.specs.declared.ops.Policy.TheVariants.{Lowest}
use Rattle.tl_params.specs.declared.ops.Template.{Template}
use Rattle.tl_params.specs.declared.ops.Template.TheVariants.{Buffer, Fragmenter}
use Rattle.tl_edge.specs.declared.beat.ABeat.{ABeat}
use Rattle.tl_edge.specs.declared.beat.DBeat.{DBeat}
use Rattle.tl_edge.specs.declared.beat.Tag.{Tag}
use Rattle.tl_edge.specs.declared.plan.Plan.{Plan}
use Rattle.tl_edge.specs.ExamplePlan.{edge, leaf, example_port, memory}
use Rattle.flow_core.specs.declared.moves.Move.TheVariants.{Enter, Leave, Reply, Return, AbsorbA, AbsorbD, ForwardA, ForwardD}
use Rattle.flow_core.specs.Fragmenting.{Hand}
use Rattle.flow_core.specs.Fragmenting.Phase.{Sending, Waiting, Replying}
use Rattle.flow_core.specs.Leaves.LeafState.{BufferState, FragmenterState}
use Rattle.flow_core.specs.Tags.{no_tag}
use Rattle.flow_core.specs.Network.{State, network_at_start, is_enabled, state_after}
use Rattle.flow_core.specs.ExampleBeats.{put_16, get, got}
use Rattle.flow_core.specs.Examples.{pieces_of_8, in_hand}

-- source, leaf and sink: edge 0 is above the leaf, edge 1 below it
abbrev pub one_leaf : Template → List ℕ → Plan
one_leaf template args = record {
  name = codes "one";
  policy = Lowest;
  leaves = leaf template args (0 ∷ []) (1 ∷ []) ∷ [];
  edges = edge 8 2 (memory ∷ []) ∷ edge 8 2 (memory ∷ []) ∷ [];
  sources = example_port (codes "core") 0 0 ∷ [];
  sinks = example_port (codes "ram") 5 1 ∷ [];
}

-- the queues above and below the buffer, on channel A and on channel D
abbrev pub buffered : (a_above a_below : List (ABeat × Tag)) (d_above d_below : List (DBeat × Tag)) → State
buffered a_above a_below d_above d_below = record {
  plan = one_leaf Buffer [];
  a = a_above ∷ a_below ∷ [];
  d = d_above ∷ d_below ∷ [];
  leaves = record { leaf = BufferState; tag = no_tag } ∷ [];
}

-- beats go in at the end and out at the head, and need a head and room; what the edge of a port can't carry may not be
-- put there; a move that names what isn't there, or that a buffer hasn't, may not be made
pub record MovesExample : Type 0 where
  pub starts : network_at_start (one_leaf Buffer []) ≡ buffered [] [] [] []
  pub enters : (x : ABeat × Tag) (tag : Tag)
      → state_after (buffered (x ∷ []) [] [] []) (Enter 0 (put_16 1 7) tag)
      ≡ buffered (x ∷ (put_16 1 7, tag) ∷ []) [] [] []
  pub may_enter : (x : ABeat × Tag) (tag : Tag)
      → is_enabled (buffered (x ∷ []) [] [] []) (Enter 0 (put_16 1 0xffffffffffffffff) tag) ≡ true
  pub too_wide : (tag : Tag) → is_enabled (buffered [] [] [] []) (Enter 0 (put_16 1 0x10000000000000000) tag) ≡ false
  pub no_lane : (tag : Tag) → is_enabled (buffered [] [] [] []) (Enter 0 (get 4 1 0x80000010 0x100) tag) ≡ false
  pub no_such_id : (tag : Tag) → is_enabled (buffered [] [] [] []) (Enter 0 (put_16 2 0) tag) ≡ false
  pub too_large : (tag : Tag) → is_enabled (buffered [] [] [] []) (Enter 0 (get 9 1 0x80000000 0xff) tag) ≡ false
  pub unaligned : (tag : Tag) → is_enabled (buffered [] [] [] []) (Enter 0 (get 4 1 0x80000008 0xff) tag) ≡ false
  pub no_address : (tag : Tag) → is_enabled (buffered [] [] [] []) (Enter 0 (get 4 1 0x1000000000000 0xff) tag) ≡ false
  pub full : (x y : ABeat × Tag) (tag : Tag)
      → is_enabled (buffered (x ∷ y ∷ []) [] [] []) (Enter 0 (put_16 1 7) tag) ≡ false
  pub no_port : (beat : ABeat) (tag : Tag) → is_enabled (buffered [] [] [] []) (Enter 1 beat tag) ≡ false
  pub forwards : (x y z : ABeat × Tag)
      → state_after (buffered (x ∷ y ∷ []) (z ∷ []) [] []) (ForwardA 0 0 0 0) ≡ buffered (y ∷ []) (z ∷ x ∷ []) [] []
  pub may_forward : (x y z : ABeat × Tag)
      → is_enabled (buffered (x ∷ y ∷ []) (z ∷ []) [] []) (ForwardA 0 0 0 0) ≡ true
  pub no_room : (x y z : ABeat × Tag)
      → is_enabled (buffered (x ∷ []) (y ∷ z ∷ []) [] []) (ForwardA 0 0 0 0) ≡ false
  pub no_head : is_enabled (buffered [] [] [] []) (ForwardA 0 0 0 0) ≡ false
  pub no_leaf : (x : ABeat × Tag) → is_enabled (buffered (x ∷ []) [] [] []) (ForwardA 1 0 0 0) ≡ false
  pub no_id : (x : ABeat × Tag) → is_enabled (buffered (x ∷ []) [] [] []) (ForwardA 0 0 0 1) ≡ false
  pub no_absorb : (x : ABeat × Tag) → is_enabled (buffered (x ∷ []) [] [] []) (AbsorbA 0) ≡ false
  pub leaves : (x y : ABeat × Tag) → state_after (buffered [] (x ∷ y ∷ []) [] []) (Leave 0) ≡ buffered [] (y ∷ []) [] []
  pub may_leave : (x y : ABeat × Tag) → is_enabled (buffered [] (x ∷ y ∷ []) [] []) (Leave 0) ≡ true
  pub nothing_leaves : is_enabled (buffered [] [] [] []) (Leave 0) ≡ false
  pub replies : (tag : Tag)
      → state_after (buffered [] [] [] []) (Reply 0 (got 3 1 7) tag) ≡ buffered [] [] [] ((got 3 1 7, tag) ∷ [])
  pub may_reply : (tag : Tag) → is_enabled (buffered [] [] [] []) (Reply 0 (got 3 1 0xffffffffffffffff) tag) ≡ true
  pub reply_too_wide : (tag : Tag)
      → is_enabled (buffered [] [] [] []) (Reply 0 (got 3 1 0x10000000000000000) tag) ≡ false
  pub reply_to_no_id : (tag : Tag) → is_enabled (buffered [] [] [] []) (Reply 0 (got 3 2 7) tag) ≡ false
  pub reply_too_large : (tag : Tag) → is_enabled (buffered [] [] [] []) (Reply 0 (got 9 1 7) tag) ≡ false
  pub back : (x y : DBeat × Tag)
      → state_after (buffered [] [] [] (x ∷ y ∷ [])) (ForwardD 0 0 0) ≡ buffered [] [] (x ∷ []) (y ∷ [])
  pub may_go_back : (x : DBeat × Tag) → is_enabled (buffered [] [] [] (x ∷ [])) (ForwardD 0 0 0) ≡ true
  pub returns : (x : DBeat × Tag) → state_after (buffered [] [] (x ∷ []) []) (Return 0) ≡ buffered [] [] [] []
  pub may_return : (x : DBeat × Tag) → is_enabled (buffered [] [] (x ∷ []) []) (Return 0) ≡ true

-- ---- a get of 16 bytes, request 3 of port 0, that is piece 2 of its request, on its way through the fragmenter

-- its tag
abbrev pub tag_of_get : ℕ → Tag
tag_of_get piece = record { port = 0; index = 3; piece = piece }

-- the queues above and below the fragmenter, and what it has in hand
abbrev pub cutting : (a_above a_below : List (ABeat × Tag)) (d_above d_below : List (DBeat × Tag)) → Hand → State
cutting a_above a_below d_above d_below hand = record {
  plan = one_leaf Fragmenter (8 ∷ 64 ∷ []);
  a = a_above ∷ a_below ∷ [];
  d = d_above ∷ d_below ∷ [];
  leaves = record { leaf = FragmenterState pieces_of_8 (Some hand); tag = tag_of_get 2 } ∷ [];
}

-- the first piece takes the head, and its tag is 2 times 2 pieces; the second needs no head, and its tag is one more;
-- an answer is absorbed, and no forward; and the whole response has the tag of the head
pub record CuttingExample : Type 0 where
  pub first : state_after
      (record {
        plan = one_leaf Fragmenter (8 ∷ 64 ∷ []);
        a = ((get 4 1 0x80000010 0xff, tag_of_get 2) ∷ []) ∷ [] ∷ [];
        d = [] ∷ [] ∷ [];
        leaves = record { leaf = FragmenterState pieces_of_8 None; tag = no_tag } ∷ [];
      })
      (ForwardA 0 0 0 0)
      ≡ cutting [] ((get 3 1 0x80000010 0xff, tag_of_get 4) ∷ []) [] [] (in_hand Waiting 0 0 [])
  pub second : state_after (cutting [] [] [] [] (in_hand Sending 1 0 (7 ∷ []))) (ForwardA 0 0 0 0)
      ≡ cutting [] ((get 3 1 0x80000018 0xff, tag_of_get 5) ∷ []) [] [] (in_hand Waiting 1 0 (7 ∷ []))
  pub may_send : is_enabled (cutting [] [] [] [] (in_hand Sending 1 0 (7 ∷ []))) (ForwardA 0 0 0 0) ≡ true
  pub absorbs : (tag : Tag)
      → state_after (cutting [] [] [] ((got 3 1 8, tag) ∷ []) (in_hand Waiting 1 0 (7 ∷ []))) (AbsorbD 0)
      ≡ cutting [] [] [] [] (in_hand Replying 1 0 (7 ∷ 8 ∷ []))
  pub may_absorb : (tag : Tag) (x y : DBeat × Tag)
      → is_enabled (cutting [] [] (x ∷ y ∷ []) ((got 3 1 8, tag) ∷ []) (in_hand Waiting 1 0 (7 ∷ []))) (AbsorbD 0)
      ≡ true
  pub no_forward : (tag : Tag)
      → is_enabled (cutting [] [] [] ((got 3 1 8, tag) ∷ []) (in_hand Waiting 1 0 (7 ∷ []))) (ForwardD 0 0 0) ≡ false
  pub back : state_after (cutting [] [] [] [] (in_hand Replying 1 0 (7 ∷ 8 ∷ []))) (ForwardD 0 0 0)
      ≡ cutting [] [] ((got 4 1 7, tag_of_get 2) ∷ []) [] (in_hand Replying 1 1 (7 ∷ 8 ∷ []))
