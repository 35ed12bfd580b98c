-- A width adapter between two edges, whatever plan they are of.
use Rattle.std.specs.Prelude.{◌≡◌, ℕ, ◌*◌, ◌≤◌, ◌^◌, List, [], ◌∷◌, length, None, Some, slice_index_or, IsTrue}
use Rattle.tl_params.specs.Arguments.{is_width}
use Rattle.tl_edge.specs.declared.beat.ABeat.{ABeat}
use Rattle.tl_edge.specs.declared.beat.DBeat.{DBeat}
use Rattle.tl_edge.specs.declared.plan.PlanEdge.{PlanEdge}
use Rattle.tl_edge.specs.Plans.{bus_width}
use Rattle.tl_edge.specs.Wires.{FitWires, a_fields, d_fields}
use Rattle.flow_core.specs.Leaves.{LeafState}
use Rattle.net_build.specs.declared.types.Wire.{Wire}
use Rattle.net_build.specs.Built.{Built, IsBit}
use Rattle.net_queue.specs.declared.types.EdgeWires.{EdgeWires}
use Rattle.net_queue.specs.declared.types.LeafWires.{LeafWires}
use Rattle.net_queue.specs.Leaves.{IsLeaf, IsPutInto, LeafDone, LeafView}
use Rattle.net_queue.specs.Machines.{Machine}
use Rattle.net_queue.specs.Queues.{IsOpen}
use Rattle.net_queue.specs.Rows.{row_widths}
use Rattle.net_widget.specs.Widgets.{CanTurn, widget_machine}
use Rattle.net_width.specs.declared.types.Ends.{Ends}

-- what is taken and put at the one edge above and the one below
abbrev pub wires_of : Ends → LeafWires
wires_of e = record {
  take_a = e.take_a ∷ [];
  put_a = e.put_a ∷ [];
  take_d = e.take_d ∷ [];
  put_d = e.put_d ∷ [];
}

-- each is a bit, or goes into its queue
pub record AreWidgetEnds (b : Built) (above below : EdgeWires) (e : Ends) : Type 0 where
  pub take_down : IsBit b e.take_a
  pub down : IsPutInto b below.a e.put_a
  pub take_up : IsBit b e.take_d
  pub up : IsPutInto b above.d e.put_d

-- whatever a machine puts fits rows of these widths
pub record RowsFit (m : Machine LeafState LeafView LeafDone) (wide_a wide_d : List ℕ) (s : LeafState) (x : LeafView)
    : Type 0 where
  pub down : (beat : ABeat) → slice_index_or (m.does s x).put_a 0 None ≡ Some beat → FitWires (a_fields beat) wide_a
  pub up : (beat : DBeat) → slice_index_or (m.does s x).put_d 0 None ≡ Some beat → FitWires (d_fields beat) wide_d

-- heads may be turned, and what is put fits the wires of the queues
abbrev pub FitsBetween : PlanEdge → PlanEdge → EdgeWires → EdgeWires → LeafState → LeafView → Type 0
FitsBetween ein eout above below s x =
    CanTurn s x × RowsFit (widget_machine ein eout) (row_widths below.a.head) (row_widths above.d.head) s x

-- the wires are the adapter between two edges
abbrev pub IsWidgetBetween : Built → PlanEdge → PlanEdge → EdgeWires → EdgeWires → Ends → Type 0
IsWidgetBetween b ein eout above below e =
    IsLeaf b (above ∷ []) (below ∷ []) (wires_of e) (widget_machine ein eout) (FitsBetween ein eout above below)

-- the open queues of two edges
pub record AreOpen (b : Built) (above below : EdgeWires) : Type 0 where
  pub above_a : IsOpen b above.a
  pub above_d : IsOpen b above.d
  pub below_a : IsOpen b below.a
  pub below_d : IsOpen b below.d
  pub above_a_long : length above.a.head ≡ 7
  pub above_d_long : length above.d.head ≡ 5
  pub below_a_long : length below.a.head ≡ 7
  pub below_d_long : length below.d.head ≡ 5

-- they are of buses of so many bytes, and so many ids fit their wires
pub record AreWidgetQueues (b : Built) (count from to : ℕ) (above below : EdgeWires) : Type 0 where
  pub queues : AreOpen b above below
  pub from_bus : IsTrue (is_width from)
  pub to_bus : IsTrue (is_width to)
  pub op_down : (d : Wire) → (slice_index_or above.a.head 0 d).width ≡ 3
  pub op_up : (d : Wire) → (slice_index_or below.d.head 0 d).width ≡ 3
  pub mask : (d : Wire) → (slice_index_or above.a.head 5 d).width ≡ from
  pub payload : (d : Wire) → (slice_index_or above.a.head 6 d).width ≡ 8 * from
  pub reply : (d : Wire) → (slice_index_or below.d.head 4 d).width ≡ 8 * to
  pub few_down : (d : Wire) → count ≤ 2 ^ (slice_index_or above.a.head 3 d).width
  pub few_up : (d : Wire) → count ≤ 2 ^ (slice_index_or below.d.head 2 d).width

-- the wires are the adapter between whatever edges have buses of these bytes, the one above with so many ids
abbrev pub IsWidgetOf : Built → ℕ → ℕ → ℕ → EdgeWires → EdgeWires → Ends → Type 0
IsWidgetOf b count from to above below e =
    (ein eout : PlanEdge) → bus_width ein ≡ from → bus_width eout ≡ to → ein.ids ≡ count
    → IsWidgetBetween b ein eout above below e
