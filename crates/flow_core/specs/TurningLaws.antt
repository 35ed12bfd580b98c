-- What a width widget makes of the beats of a message with data: narrow ones out of wide ones, and wide ones out of
-- narrow ones.
use Rattle.std.specs.Prelude.{ℕ, suc, length, ◌≡◌, ◌+◌, ◌%◌, ◌<◌, ◌↔◌, true, Some, None}
use Rattle.tl_edge.specs.declared.beat.ABeat.{ABeat}
use Rattle.tl_edge.specs.declared.beat.DBeat.{DBeat}
use Rattle.tl_edge.specs.declared.message.Request.{Request}
use Rattle.tl_edge.specs.declared.message.Response.{Response}
use Rattle.tl_edge.specs.Messages.{has_data}
use Rattle.tl_edge.specs.Beats.{data_beats, a_beat, d_beat, most_lanes}
use Rattle.tl_pieces.specs.TwoBuses.{IsAsking, IsTelling, lane_in_wide, wide_number, first_narrow, narrow_count, gathered}
use Rattle.flow_core.specs.Acts.{Act}
use Rattle.flow_core.specs.Leaves.{no_lanes}
use Rattle.flow_core.specs.Turning.{Widths, Side, Widget, number_after, address_of, turn_down, turn_up}

-- ---- requests, from wide to narrow

-- of a message of a size at an address the narrow beat with a number is the last of those that lie in its wide one
abbrev pub IsLastInWide : ℕ → ℕ → ℕ → ℕ → ℕ → Type 0
IsLastInWide narrow wide size address number =
    number + 1 ≡ first_narrow narrow wide (wide_number narrow wide address number) + narrow_count narrow wide size

-- a move to a narrower bus puts the narrow beat whose turn it is, takes the head exactly with the last narrow beat that
-- lies in it, and counts
pub record PutsNarrow (narrow wide : ℕ) (request : Request) (number : ℕ) (act : Act ABeat Widget) : Type 0 where
  pub put : act.put ≡ Some (a_beat narrow request number)
  pub take : (act.take ≡ true) ↔ IsLastInWide narrow wide request.size request.address number
  pub done : act.next.a.done ≡ number_after (data_beats request.size narrow) number

-- where the head is the wide beat in which the narrow beat lies that is next by the count, there is such a move
abbrev pub NarrowingLaw : Type 0
NarrowingLaw =
    (narrow wide : ℕ) (request : Request) (widget : Widget) → IsAsking narrow wide request → narrow < wide
    → widget.a.done < data_beats request.size narrow
    → (act : Act ABeat Widget)
    × (turn_down (record { above = wide; below = narrow }) widget
    (a_beat wide request (wide_number narrow wide request.address widget.a.done))
    ≡ Some act)
    × PutsNarrow narrow wide request widget.a.done act

-- ---- requests, from narrow to wide

-- of the wide beat with a number so many narrow beats are done, and the sum of their lanes, each at its place, is kept
pub record HasCollected (narrow wide : ℕ) (request : Request) (number count : ℕ) (side : Side) : Type 0 where
  pub done : side.done ≡ first_narrow narrow wide number + count
  pub mask : side.mask
      ≡ gathered 2 (lane_in_wide narrow wide request.address) (λ k. (a_beat narrow request k).mask)
      (first_narrow narrow wide number) count
  pub payload : side.payload
      ≡ gathered 256 (lane_in_wide narrow wide request.address) (λ k. (a_beat narrow request k).payload)
      (first_narrow narrow wide number) count

-- a move to a wider bus takes its head; with the last narrow beat of the wide one it puts that, and goes on with the
-- next one or, behind the last, as at the start; with another it puts nothing
pub record PutsWide (narrow wide : ℕ) (request : Request) (number count : ℕ) (act : Act ABeat Widget) : Type 0 where
  pub take : act.take ≡ true
  pub put : suc count ≡ narrow_count narrow wide request.size → act.put ≡ Some (a_beat wide request number)
  pub next : suc count ≡ narrow_count narrow wide request.size → number + 1 < data_beats request.size wide
      → HasCollected narrow wide request (number + 1) 0 act.next.a
  pub end : suc count ≡ narrow_count narrow wide request.size → number + 1 ≡ data_beats request.size wide
      → act.next.a ≡ no_lanes
  pub wait : suc count < narrow_count narrow wide request.size → act.put ≡ None
  pub kept : suc count < narrow_count narrow wide request.size
      → HasCollected narrow wide request number (suc count) act.next.a

-- where some narrow beats of a wide one are collected, and the head is the next one, there is such a move
abbrev pub WideningLaw : Type 0
WideningLaw =
    (narrow wide : ℕ) (request : Request) (number count : ℕ) (widget : Widget) → IsAsking narrow wide request
    → narrow < wide → number < data_beats request.size wide → count < narrow_count narrow wide request.size
    → HasCollected narrow wide request number count widget.a
    → (act : Act ABeat Widget)
    × (turn_down (record { above = narrow; below = wide }) widget
    (a_beat narrow request (first_narrow narrow wide number + count))
    ≡ Some act)
    × PutsWide narrow wide request number count act

-- ---- responses, from wide to narrow

-- for the id of a response the address of its request is kept, as far as the widest bus tells it
abbrev pub KeepsAddress : Widget → Request → Response → Type 0
KeepsAddress widget request response = address_of widget.kept response.source ≡ Some (request.address % most_lanes)

-- a move back to a narrower bus puts the narrow beat whose turn it is, takes the head exactly with the last narrow beat
-- that lies in it, and counts
pub record PutsNarrowBack (narrow wide : ℕ) (request : Request) (response : Response) (number : ℕ)
    (act : Act DBeat Widget) : Type 0 where
  pub put : act.put ≡ Some (d_beat narrow request.address response number)
  pub take : (act.take ≡ true) ↔ IsLastInWide narrow wide response.size request.address number
  pub done : act.next.d.done ≡ number_after (data_beats response.size narrow) number

-- where the head is the wide beat in which the narrow beat lies that is next by the count, there is such a move
abbrev pub NarrowingBackLaw : Type 0
NarrowingBackLaw =
    (narrow wide : ℕ) (request : Request) (response : Response) (widget : Widget)
    → IsTelling narrow wide request response → narrow < wide → KeepsAddress widget request response
    → widget.d.done < data_beats response.size narrow
    → (act : Act DBeat Widget)
    × (turn_up (record { above = narrow; below = wide }) widget
    (d_beat wide request.address response (wide_number narrow wide request.address widget.d.done))
    ≡ Some act)
    × PutsNarrowBack narrow wide request response widget.d.done act

-- ---- responses, from narrow to wide

-- of the wide beat with a number so many narrow beats are done, and the sum of their data, each at its place, is kept
pub record HasCollectedBack (narrow wide : ℕ) (request : Request) (response : Response) (number count : ℕ) (side : Side)
    : Type 0 where
  pub done : side.done ≡ first_narrow narrow wide number + count
  pub payload : side.payload
      ≡ gathered 256 (lane_in_wide narrow wide request.address)
      (λ k. (d_beat narrow request.address response k).payload) (first_narrow narrow wide number) count

-- a move back to a wider bus takes its head; with the last narrow beat of the wide one it puts that, and goes on with
-- the next one or, behind the last, as at the start; with another it puts nothing
pub record PutsWideBack (narrow wide : ℕ) (request : Request) (response : Response) (number count : ℕ)
    (act : Act DBeat Widget) : Type 0 where
  pub take : act.take ≡ true
  pub put : suc count ≡ narrow_count narrow wide response.size
      → act.put ≡ Some (d_beat wide request.address response number)
  pub next : suc count ≡ narrow_count narrow wide response.size → number + 1 < data_beats response.size wide
      → HasCollectedBack narrow wide request response (number + 1) 0 act.next.d
  pub end : suc count ≡ narrow_count narrow wide response.size → number + 1 ≡ data_beats response.size wide
      → act.next.d ≡ no_lanes
  pub wait : suc count < narrow_count narrow wide response.size → act.put ≡ None
  pub kept : suc count < narrow_count narrow wide response.size
      → HasCollectedBack narrow wide request response number (suc count) act.next.d

-- where some narrow beats of a wide one are collected, and the head is the next one, there is such a move
abbrev pub WideningBackLaw : Type 0
WideningBackLaw =
    (narrow wide : ℕ) (request : Request) (response : Response) (number count : ℕ) (widget : Widget)
    → IsTelling narrow wide request response → narrow < wide → KeepsAddress widget request response
    → number < data_beats response.size wide → count < narrow_count narrow wide response.size
    → HasCollectedBack narrow wide request response number count widget.d
    → (act : Act DBeat Widget)
    × (turn_up (record { above = wide; below = narrow }) widget
    (d_beat narrow request.address response (first_narrow narrow wide number + count))
    ≡ Some act)
    × PutsWideBack narrow wide request response number count act

-- ---- the addresses that are kept

-- between buses of two widths a move on the first beat of a request keeps its address for its id, one on a later beat
-- keeps no other, and none changes what is kept for other ids; a move back changes nothing of it
pub record KeptAddressLaw : Type 0 where
  pub first : (widths : Widths) (widget : Widget) (beat : ABeat) (act : Act ABeat Widget)
      → (widths.above ≡ widths.below → ⊥) → turn_down widths widget beat ≡ Some act → widget.a.done ≡ 0
      → beat.source < length widget.kept
      → address_of act.next.kept beat.source ≡ Some (beat.address % most_lanes)
  pub later : (widths : Widths) (widget : Widget) (beat : ABeat) (act : Act ABeat Widget)
      → (widths.above ≡ widths.below → ⊥) → turn_down widths widget beat ≡ Some act → 0 < widget.a.done
      → has_data beat.op ≡ true → act.next.kept ≡ widget.kept
  pub others : (widths : Widths) (widget : Widget) (beat : ABeat) (act : Act ABeat Widget) (id : ℕ)
      → (widths.above ≡ widths.below → ⊥) → turn_down widths widget beat ≡ Some act → (id ≡ beat.source → ⊥)
      → address_of act.next.kept id ≡ address_of widget.kept id
  pub back : (widths : Widths) (widget : Widget) (beat : DBeat) (act : Act DBeat Widget)
      → turn_up widths widget beat ≡ Some act → act.next.kept ≡ widget.kept
