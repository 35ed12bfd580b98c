-- Locally valid states: what holds of each queue, and at each leaf of its state and the heads beside it.
use Rattle.std.specs.Prelude.{ℕ, ◌≡◌, ◌≢◌, ◌*◌, ◌<◌, ◌≤◌, ◌%◌, min, All, [], ◌∷◌, length, Option, Some, slice_get, IsTrue}
use Rattle.std.specs.Option.{option_and_then}
use Rattle.dip_sets.specs.declared.ids.IdRange.{IdRange}
use Rattle.dip_sets.specs.Ids.{HasId}
use Rattle.tl_params.specs.Codes.{code_of_op}
use Rattle.tl_edge.specs.declared.beat.ABeat.{ABeat}
use Rattle.tl_edge.specs.declared.beat.DBeat.{DBeat}
use Rattle.tl_edge.specs.declared.beat.Tag.{Tag}
use Rattle.tl_edge.specs.declared.plan.Leaf.{Leaf}
use Rattle.tl_edge.specs.declared.plan.PlanEdge.{PlanEdge}
use Rattle.tl_edge.specs.declared.plan.Plan.{Plan}
use Rattle.tl_edge.specs.Beats.{data_beats}
use Rattle.tl_edge.specs.Messages.{bytes_of, has_data, has_param, brings_data}
use Rattle.tl_edge.specs.PlanLaws.{IsOne}
use Rattle.tl_edge.specs.Plans.{edge_at}
use Rattle.tl_edge.specs.Wires.{FitWires, FitsDown, FitsUp, a_fields, a_widths, d_fields, d_widths}
use Rattle.flow_core.specs.declared.moves.Move.{Move}
use Rattle.flow_core.specs.declared.moves.Move.TheVariants.{AbsorbA, AbsorbD, ForwardA, ForwardD}
use Rattle.flow_core.specs.declared.locks.Gate.{Gate}
use Rattle.flow_core.specs.declared.locks.Gates.{Gates}
use Rattle.flow_core.specs.declared.locks.Lock.{Lock}
use Rattle.flow_core.specs.Crossing.{Crossbar, goes_to}
use Rattle.flow_core.specs.Shrinking.{Slots, Asking}
use Rattle.flow_core.specs.Turning.{Widths, Widget, address_of}
use Rattle.flow_core.specs.Fragmenting.{Knife, Hand, Head, Phase, head_of, pieces_in, beats_down, beats_up, reply_beats}
use Rattle.flow_core.specs.Fragmenting.Phase.{Sending, Waiting, Replying}
use Rattle.flow_core.specs.Leaves.{LeafState, leaf_at_start}
use Rattle.flow_core.specs.Leaves.LeafState.{BufferState, XbarState, ShrinkerState, WidthState, FragmenterState}
use Rattle.flow_core.specs.Tags.{Held}
use Rattle.flow_core.specs.Queues.{queue, head_in}
use Rattle.flow_core.specs.Network.{State, Job, job, is_enabled, in_edge, out_edge}
use Rattle.flow_core.specs.Shapes.{IsOf}

-- ---- what a leaf sees

-- the head of an input's queue of channel A
abbrev pub head_down : State → ℕ → ℕ → Option (ABeat × Tag)
head_down state leaf input =
    option_and_then (λ edge. head_in (queue state.a edge)) (in_edge state.plan leaf input)

-- the head of an output's queue of channel D
abbrev pub head_up : State → ℕ → ℕ → Option (DBeat × Tag)
head_up state leaf output =
    option_and_then (λ edge. head_in (queue state.d edge)) (out_edge state.plan leaf output)

-- a leaf has this state
abbrev pub IsAt : State → ℕ → LeafState → Type 0
IsAt state leaf its = (held : Held) × (slice_get state.leaves leaf ≡ Some held) × (held.leaf ≡ its)

-- ---- states of a plan

-- two states are of one machine: they go by the same, and have a place for each output, input or id
abbrev pub AreOfOne : LeafState → LeafState → Type 0
AreOfOne BufferState BufferState = Unit {0}
AreOfOne (XbarState bar gates) (XbarState other others) =
    (other ≡ bar) × (length others.outs ≡ length gates.outs) × (length others.ins ≡ length gates.ins)
AreOfOne (ShrinkerState width slots) (ShrinkerState other others) =
    (other ≡ width) × (length others.olds ≡ length slots.olds)
AreOfOne (WidthState widths widget) (WidthState other others) =
    (other ≡ widths) × (length others.kept ≡ length widget.kept)
AreOfOne (FragmenterState knife hand) (FragmenterState other others) = other ≡ knife
AreOfOne _ _ = ⊥

-- each leaf of a plan has a state of the machine that it starts as
abbrev pub HasMachines : Plan → State → Type 0
HasMachines plan state =
    (leaf : ℕ) (at : Leaf) (held : Held) → slice_get plan.leaves leaf ≡ Some at
    → slice_get state.leaves leaf ≡ Some held → AreOfOne (leaf_at_start plan at) held.leaf

-- ---- queues

-- a request's size is at most 8, its address a multiple of its bytes, and its param one of its operation
pub record IsPlaced (head : Head) : Type 0 where
  pub size : head.size ≤ 8
  pub address : head.address % bytes_of head.size ≡ 0
  pub param : IsTrue (has_param head.op head.param)

-- the fields of a request fit the wires of an edge, and its id is one of the edge's
pub record FitsHead (edge : PlanEdge) (head : Head) : Type 0 where
  pub wires : FitWires
      (code_of_op head.op ∷ head.param ∷ head.size ∷ head.source ∷ head.address ∷ [])
      (3 ∷ 3 ∷ edge.bundle.size_bits ∷ edge.bundle.source_bits ∷ edge.bundle.address_bits ∷ [])
  pub id : head.source < edge.ids

-- a beat that may wait on channel A of an edge
pub record WaitsDown (edge : PlanEdge) (beat : ABeat × Tag) : Type 0 where
  pub fits : FitsDown edge beat.0
  pub placed : IsPlaced (head_of beat.0)

-- a beat that may wait on channel D of an edge
pub record WaitsUp (edge : PlanEdge) (beat : DBeat × Tag) : Type 0 where
  pub fits : FitsUp edge beat.0
  pub size : beat.0.size ≤ 8

-- each beat in a queue of channel A may wait on its edge
abbrev pub AllWaitDown : State → Type 0
AllWaitDown state = (edge : ℕ) → All (WaitsDown (edge_at state.plan edge)) (queue state.a edge)

-- each beat in a queue of channel D may
abbrev pub AllWaitUp : State → Type 0
AllWaitUp state = (edge : ℕ) → All (WaitsUp (edge_at state.plan edge)) (queue state.d edge)

-- ---- what leaves would put

-- a move of a leaf
abbrev pub IsOfLeaf : Move → Type 0
IsOfLeaf (AbsorbA leaf) = Unit {0}
IsOfLeaf (AbsorbD leaf) = Unit {0}
IsOfLeaf (ForwardA leaf input output id) = Unit {0}
IsOfLeaf (ForwardD leaf input output) = Unit {0}
IsOfLeaf _ = ⊥

-- what is put fits the wires of the edge onto which it is put
pub record PutsFit (plan : Plan) (job : Job) : Type 0 where
  pub a : (edge : ℕ) (beat : ABeat × Tag) → job.a.put ≡ Some (edge, beat)
      → FitWires (a_fields beat.0) (a_widths (edge_at plan edge).bundle)
  pub d : (edge : ℕ) (beat : DBeat × Tag) → job.d.put ≡ Some (edge, beat)
      → FitWires (d_fields beat.0) (d_widths (edge_at plan edge).bundle)

-- so it is with each move of a leaf that may be made
abbrev pub AllPutsFit : State → Type 0
AllPutsFit state =
    (move : Move) (does : Job) → IsOfLeaf move → IsTrue (is_enabled state move) → job state move ≡ Some does
    → PutsFit state.plan does

-- ---- at each kind of leaf

-- so many beats of a message can be left: some, and no more than a message has
abbrev pub IsLeft : ℕ → Type 0
IsLeft beats = (1 ≤ beats) × (beats ≤ 256)

-- a gate that is held is held for some beats
abbrev pub IsHeldRight : Gate → Type 0
IsHeldRight gate = (lock : Lock) → gate.lock ≡ Some lock → IsLeft lock.left

-- an input's range has the id
abbrev pub InRange : Crossbar → ℕ → ℕ → Type 0
InRange bar id input = (range : IdRange) × (slice_get bar.ranges input ≡ Some range) × HasId range id

-- at a crossbar each head of channel A is owned on exactly one output, each head of channel D has an id in exactly one
-- input's range, and each lock is for some beats
pub record IsValidXbar (state : State) (leaf : ℕ) (bar : Crossbar) (gates : Gates) : Type 0 where
  pub owned : (input : ℕ) (beat : ABeat × Tag) → head_down state leaf input ≡ Some beat
      → IsOne (λ output. IsTrue (goes_to bar output beat.0.address))
  pub ranged : (output : ℕ) (beat : DBeat × Tag) → head_up state leaf output ≡ Some beat
      → IsOne (InRange bar beat.0.source)
  pub outs : All IsHeldRight gates.outs
  pub ins : All IsHeldRight gates.ins

-- at a shrinker the id of the head of channel D is one that isn't free, each old id is one of the edge above, and a
-- message in progress has some beats left
pub record IsValidShrinker (state : State) (leaf : ℕ) (slots : Slots) : Type 0 where
  pub answered : (beat : DBeat × Tag) → head_up state leaf 0 ≡ Some beat
      → (old : ℕ) × (slice_get slots.olds beat.0.source ≡ Some (Some old))
  pub olds : (above id old : ℕ) → in_edge state.plan leaf 0 ≡ Some above
      → slice_get slots.olds id ≡ Some (Some old) → old < (edge_at state.plan above).ids
  pub asking : (asking : Asking) → slots.asking ≡ Some asking → IsLeft asking.left
  pub answering : slots.answering ≢ 0 → IsLeft slots.answering

-- a head of channel A begins a message: it has no data, or no beat of its message is done
abbrev pub Begins : Widget → ABeat → Type 0
Begins widget beat = IsTrue (has_data beat.op) → widget.a.done ≡ 0

-- at a width widget between buses of two widths the id of the head of channel D has an address, no head of channel A
-- that begins a message has that id, and of a head's message with data a narrow beat is left on each channel
pub record IsValidWidth (state : State) (leaf : ℕ) (widths : Widths) (widget : Widget) : Type 0 where
  pub known : (beat : DBeat × Tag) → head_up state leaf 0 ≡ Some beat
      → (address : ℕ) × (address_of widget.kept beat.0.source ≡ Some address)
  pub apart : (down : ABeat × Tag) (up : DBeat × Tag) → head_down state leaf 0 ≡ Some down
      → head_up state leaf 0 ≡ Some up → Begins widget down.0 → down.0.source ≢ up.0.source
  pub left_down : (beat : ABeat × Tag) → head_down state leaf 0 ≡ Some beat → IsTrue (has_data beat.0.op)
      → widget.a.done < data_beats beat.0.size (min widths.above widths.below)
  pub left_up : (beat : DBeat × Tag) → head_up state leaf 0 ≡ Some beat → IsTrue (brings_data beat.0.op)
      → widget.d.done < data_beats beat.0.size (min widths.above widths.below)

-- how many beats are done in each phase: fewer than there are
abbrev pub IsUnderWay : Phase → Knife → Hand → Type 0
IsUnderWay Sending knife hand = hand.done < beats_down knife hand.head
IsUnderWay Waiting knife hand = hand.done < beats_up knife hand.head
IsUnderWay Replying knife hand = hand.done < reply_beats knife hand.head

-- how many beats of responses are collected: no more than all pieces bring, and fewer where one is waited for
abbrev pub IsCollected : Phase → Knife → Hand → Type 0
IsCollected Waiting knife hand = length hand.collected < pieces_in knife hand.head * beats_up knife hand.head
IsCollected _ knife hand = length hand.collected ≤ pieces_in knife hand.head * beats_up knife hand.head

-- at a fragmenter with a request in hand its fields are those of a beat on the edge above, its piece is one of the
-- request's, its message isn't finished, and not too much is collected
pub record IsValidFragmenter (state : State) (leaf : ℕ) (knife : Knife) (hand : Hand) : Type 0 where
  pub fields : (above : ℕ) → in_edge state.plan leaf 0 ≡ Some above → FitsHead (edge_at state.plan above) hand.head
  pub placed : IsPlaced hand.head
  pub piece : hand.piece < pieces_in knife hand.head
  pub under_way : IsUnderWay hand.phase knife hand
  pub collected : IsCollected hand.phase knife hand

-- ---- a whole state

-- a state of a plan that is locally valid
pub record IsValid (plan : Plan) (state : State) : Type 0 where
  pub shape : IsOf plan state
  pub machines : HasMachines plan state
  pub down : AllWaitDown state
  pub up : AllWaitUp state
  pub puts : AllPutsFit state
  pub xbars : (leaf : ℕ) (bar : Crossbar) (gates : Gates) → IsAt state leaf (XbarState bar gates)
      → IsValidXbar state leaf bar gates
  pub shrinkers : (leaf width : ℕ) (slots : Slots) → IsAt state leaf (ShrinkerState width slots)
      → IsValidShrinker state leaf slots
  pub widths : (leaf : ℕ) (widths : Widths) (widget : Widget) → IsAt state leaf (WidthState widths widget)
      → widths.above ≢ widths.below → IsValidWidth state leaf widths widget
  pub fragmenters : (leaf : ℕ) (knife : Knife) (hand : Hand) → IsAt state leaf (FragmenterState knife (Some hand))
      → IsValidFragmenter state leaf knife hand
