-- The width adapter as the network states it, for one cycle, and a worked example.
use Rattle.std.specs.Prelude.{◌≡◌, ℕ, ◌<◌, ◌≤◌, ◌≢◌, Bool, true, false, Option, Some, None, min, slice_index_or, IsTrue}
use Rattle.tl_edge.specs.declared.beat.ABeat.{ABeat}
use Rattle.tl_edge.specs.declared.beat.DBeat.{DBeat}
use Rattle.tl_edge.specs.declared.plan.Plan.{Plan}
use Rattle.tl_edge.specs.declared.plan.PlanEdge.{PlanEdge}
use Rattle.tl_edge.specs.Beats.{data_beats}
use Rattle.tl_edge.specs.Messages.{has_data, brings_data}
use Rattle.flow_core.specs.Acts.{Act}
use Rattle.flow_core.specs.Leaves.{LeafState, widget_at_start}
use Rattle.flow_core.specs.Leaves.LeafState.{WidthState}
use Rattle.flow_core.specs.Turning.{Widths, Widget, turn_down, turn_up}
use Rattle.flow_choice.specs.Valid.{Begins, IsPlaced}
use Rattle.flow_core.specs.Fragmenting.{head_of}
use Rattle.net_buffer.specs.Buffers.{acts, edges_show}
use Rattle.net_queue.specs.Adapters.{adapter}
use Rattle.net_queue.specs.Leaves.{DoneFitsAt, LeafDone, LeafView}
use Rattle.net_queue.specs.Machines.{Machine}

-- a width adapter between two edges, which gives no id
abbrev pub widget_machine : PlanEdge → PlanEdge → Machine LeafState LeafView LeafDone
widget_machine above below = adapter (widget_at_start above below) (λ leaf. 0)

-- ---- what it does, in other words

-- An act that puts a beat is made where there is room, and one that puts none always; a head for which there is no act
-- waits. Each channel goes by itself.
pub record WidgetLaw : Type 0 where
  pub down : (above below : PlanEdge) (widths : Widths) (widget : Widget) (x : ABeat) (act : Act ABeat Widget)
      → turn_down widths widget x ≡ Some act
      → (widget_machine above below).does (WidthState widths widget) (edges_show (Some x) true None true)
      ≡ acts act.take act.put false None
  pub absorbs : (above below : PlanEdge) (widths : Widths) (widget : Widget) (x : ABeat) (act : Act ABeat Widget)
      → turn_down widths widget x ≡ Some act → act.put ≡ None
      → (widget_machine above below).does (WidthState widths widget) (edges_show (Some x) false None true)
      ≡ acts act.take None false None
  pub waits : (above below : PlanEdge) (widths : Widths) (widget : Widget) (x y : ABeat) (act : Act ABeat Widget)
      → turn_down widths widget x ≡ Some act → act.put ≡ Some y
      → (widget_machine above below).does (WidthState widths widget) (edges_show (Some x) false None true)
      ≡ acts false None false None
  pub up : (above below : PlanEdge) (widths : Widths) (widget : Widget) (x : DBeat) (act : Act DBeat Widget)
      → turn_up widths widget x ≡ Some act
      → (widget_machine above below).does (WidthState widths widget) (edges_show None true (Some x) true)
      ≡ acts false None act.take act.put
  pub empty : (above below : PlanEdge) (widths : Widths) (widget : Widget) (room other : Bool)
      → (widget_machine above below).does (WidthState widths widget) (edges_show None room None other)
      ≡ acts false None false None

-- ---- what a locally valid state says of it

-- of an adapter between two widths and the heads that it sees: a head of channel A is placed, and one of channel D has
-- a size of at most 8; of a head's message with data a narrow beat is left; no head of channel A that begins a message
-- has the id of the head of channel D
pub record AreTurnable (widths : Widths) (widget : Widget) (down : Option ABeat) (up : Option DBeat) : Type 0 where
  pub placed : (beat : ABeat) → down ≡ Some beat → IsPlaced (head_of beat)
  pub size : (beat : DBeat) → up ≡ Some beat → beat.size ≤ 8
  pub left_down : (beat : ABeat) → down ≡ Some beat → IsTrue (has_data beat.op)
      → widget.a.done < data_beats beat.size (min widths.above widths.below)
  pub left_up : (beat : DBeat) → up ≡ Some beat → IsTrue (brings_data beat.op)
      → widget.d.done < data_beats beat.size (min widths.above widths.below)
  pub apart : (one : ABeat) (other : DBeat) → down ≡ Some one → up ≡ Some other → Begins widget one
      → one.source ≢ other.source

-- the same of any state of the leaf
abbrev pub CanTurn : LeafState → LeafView → Type 0
CanTurn (WidthState widths widget) x =
    widths.above ≢ widths.below
    → AreTurnable widths widget (slice_index_or x.heads_a 0 None) (slice_index_or x.heads_d 0 None)
CanTurn _ x = Unit {0}

-- and what is put fits the wires of the edges of the leaf
abbrev pub WidgetFits : Plan → ℕ → Machine LeafState LeafView LeafDone → LeafState → LeafView → Type 0
WidgetFits plan leaf machine s x = CanTurn s x × DoneFitsAt plan leaf machine s x

-- ---- both channels in one cycle

-- with heads and room on both channels both acts are made; the state is that after the act on channel A and then the
-- one on channel D, which takes and puts the same after it
pub record MakesBoth (above below : PlanEdge) (widths : Widths) (widget : Widget) (x : ABeat) (y : DBeat)
    (down : Act ABeat Widget) (up : Act DBeat Widget) : Type 0 where
  pub does : (widget_machine above below).does (WidthState widths widget) (edges_show (Some x) true (Some y) true)
      ≡ acts down.take down.put up.take up.put
  pub second : Act DBeat Widget
  pub is : turn_up widths down.next y ≡ Some second
  pub take : second.take ≡ up.take
  pub put : second.put ≡ up.put
  pub after : (widget_machine above below).after (WidthState widths widget) (edges_show (Some x) true (Some y) true)
      ≡ WidthState widths second.next

-- so it is wherever the heads and what is kept let both channels turn
abbrev pub BothLaw : Type 0
BothLaw =
    (above below : PlanEdge) (widths : Widths) (widget : Widget) (x : ABeat) (y : DBeat) (down : Act ABeat Widget)
    (up : Act DBeat Widget) → CanTurn (WidthState widths widget) (edges_show (Some x) true (Some y) true)
    → turn_down widths widget x ≡ Some down → turn_up widths widget y ≡ Some up
    → MakesBoth above below widths widget x y down up
