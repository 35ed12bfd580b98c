-- What a beat puts on the wires of an edge: its fields in the order of the ports, and how many bits each has.
use Rattle.std.specs.Prelude.{ℕ, ◌≡◌, ◌≤◌, ◌<◌, ◌*◌, ◌^◌, List, [], ◌∷◌, All}
use Rattle.std.specs.Int.{from_bool}
use Rattle.std.specs.List.{AllZip}
use Rattle.tl_params.specs.Codes.{code_of_op, code_of_ack}
use Rattle.tl_edge.specs.declared.beat.ABeat.{ABeat}
use Rattle.tl_edge.specs.declared.beat.DBeat.{DBeat}
use Rattle.tl_edge.specs.declared.bundle.Bundle.{Bundle}
use Rattle.tl_edge.specs.declared.message.Request.{Request}
use Rattle.tl_edge.specs.declared.message.Response.{Response}
use Rattle.tl_edge.specs.declared.plan.PlanEdge.{PlanEdge}
use Rattle.tl_edge.specs.Beats.{beats_of_request, beats_of_response}
use Rattle.tl_edge.specs.Legal.{IsLegalOn}
use Rattle.tl_edge.specs.Messages.{IsWholeResponse}
use Rattle.tl_edge.specs.Plans.{bus_width}
use Rattle.tl_edge.specs.SoundPlans.{IsSoundEdge}

-- channel A: opcode, param, size, source, address, mask, data
abbrev pub a_fields : ABeat → List ℕ
a_fields beat =
    code_of_op beat.op ∷ beat.param ∷ beat.size ∷ beat.source ∷ beat.address ∷ beat.mask ∷ beat.payload ∷ []

-- their bits: a bit for each lane of the mask, and eight of the data
abbrev pub a_widths : Bundle → List ℕ
a_widths bundle =
    3 ∷ 3 ∷ bundle.size_bits ∷ bundle.source_bits ∷ bundle.address_bits ∷ bundle.data_bytes ∷ 8 * bundle.data_bytes ∷ []

-- channel D: opcode, size, source, denied, data
abbrev pub d_fields : DBeat → List ℕ
d_fields beat =
    code_of_ack beat.op ∷ beat.size ∷ beat.source ∷ from_bool beat.denied ∷ beat.payload ∷ []

-- their bits
abbrev pub d_widths : Bundle → List ℕ
d_widths bundle = 3 ∷ bundle.size_bits ∷ bundle.source_bits ∷ 1 ∷ 8 * bundle.data_bytes ∷ []

-- each field is below the power of two of its bits
abbrev pub FitWires : List ℕ → List ℕ → Type 0
FitWires fields widths = AllZip (λ field width. field < 2 ^ width) fields widths

-- a beat of channel A fits the wires of an edge, and its id is one of the edge's
pub record FitsDown (edge : PlanEdge) (beat : ABeat) : Type 0 where
  pub wires : FitWires (a_fields beat) (a_widths edge.bundle)
  pub id : beat.source < edge.ids

-- a beat of channel D does
pub record FitsUp (edge : PlanEdge) (beat : DBeat) : Type 0 where
  pub wires : FitWires (d_fields beat) (d_widths edge.bundle)
  pub id : beat.source < edge.ids

-- so many bits a wire may have
abbrev pub IsWireWidth : ℕ → Type 0
IsWireWidth bits = (1 ≤ bits) × (bits ≤ 64)

-- fields tell their beat; each beat of a request that is legal on a sound edge fits the edge's wires and ids, and each
-- of an answer to it; and each field of a sound edge has 1 to 64 bits
pub record WiresLaw : Type 0 where
  pub a_told : (one other : ABeat) → a_fields one ≡ a_fields other → one ≡ other
  pub d_told : (one other : DBeat) → d_fields one ≡ d_fields other → one ≡ other
  pub requests : (edge : PlanEdge) (request : Request) → IsSoundEdge edge → IsLegalOn edge request
      → All (FitsDown edge) (beats_of_request (bus_width edge) request)
  pub responses : (edge : PlanEdge) (request : Request) (response : Response) → IsSoundEdge edge
      → IsLegalOn edge request → IsWholeResponse request response
      → All (FitsUp edge) (beats_of_response (bus_width edge) request.address response)
  pub a_widths : (edge : PlanEdge) → IsSoundEdge edge → All IsWireWidth (a_widths edge.bundle)
  pub d_widths : (edge : PlanEdge) → IsSoundEdge edge → All IsWireWidth (d_widths edge.bundle)
