-- The beats of one message on a narrow and on a wide bus.
use Rattle.std.specs.Prelude.{ℕ, zero, suc, ◌≡◌, ◌+◌, ◌*◌, ◌/◌, ◌%◌, ◌^◌, ◌<◌, ◌≤◌, ◌⊎◌, ◌↔◌, min, bit_or, IsTrue, true}
use Rattle.tl_params.specs.Arguments.{is_width}
use Rattle.tl_edge.specs.declared.message.Request.{Request}
use Rattle.tl_edge.specs.declared.message.Response.{Response}
use Rattle.tl_edge.specs.Messages.{has_data, brings_data, IsWholeRequest, IsWholeResponse}
use Rattle.tl_edge.specs.Beats.{data_beats, a_beat, d_beat}

-- ---- where narrow beats lie, for a message at an address

-- the lane of its wide beat at which the narrow beat with a number begins: the address of the beat's first byte, modulo
-- the wide bus, rounded down to a multiple of the narrow one
abbrev pub lane_in_wide : ℕ → ℕ → ℕ → ℕ → ℕ
lane_in_wide narrow wide address number = (address + number * narrow) % wide / narrow * narrow

-- the number of the wide beat in which it lies
abbrev pub wide_number : ℕ → ℕ → ℕ → ℕ → ℕ
wide_number narrow wide address number = (address % wide + number * narrow) / wide

-- the number of the first narrow beat that lies in a wide one
abbrev pub first_narrow : ℕ → ℕ → ℕ → ℕ
first_narrow narrow wide number = number * (wide / narrow)

-- how many narrow beats a message of a size has in each wide one
abbrev pub narrow_count : ℕ → ℕ → ℕ → ℕ
narrow_count narrow wide size = min (wide / narrow) (data_beats size narrow)

-- a narrow beat ends its wide one where it is the last of the message, or the next one begins at a multiple of the wide
-- bus
abbrev pub EndsWide : ℕ → ℕ → ℕ → ℕ → ℕ → Type 0
EndsWide narrow wide size address number =
    (number + 1 ≡ data_beats size narrow) ⊎ ((address + (number + 1) * narrow) % wide ≡ 0)

-- ---- numbers on lanes

-- so many lanes from a place on, cut out of a number
abbrev pub lanes_at : ℕ → ℕ → ℕ → ℕ → ℕ
lanes_at base count place n = n / base ^ place % base ^ count

-- the sum of so many numbers from a first one on, each moved to its place
abbrev pub gathered : ℕ → (ℕ → ℕ) → (ℕ → ℕ) → ℕ → ℕ → ℕ
gathered base place value first zero = 0
gathered base place value first (suc more) =
    gathered base place value first more + value (first + more) * base ^ place (first + more)

-- ---- the two buses

-- two widths of buses, the one at most the other
pub record AreBuses (narrow wide : ℕ) : Type 0 where
  pub narrow_bus : IsTrue (is_width narrow)
  pub wide_bus : IsTrue (is_width wide)
  pub less : narrow ≤ wide

-- a whole request with data
pub record IsAsking (narrow wide : ℕ) (request : Request) : Type 0 where
  pub buses : AreBuses narrow wide
  pub whole : IsWholeRequest request
  pub data_too : has_data request.op ≡ true

-- a whole response with data
pub record IsTelling (narrow wide : ℕ) (request : Request) (response : Response) : Type 0 where
  pub buses : AreBuses narrow wide
  pub asked : IsWholeRequest request
  pub whole : IsWholeResponse request response
  pub data_too : brings_data response.op ≡ true

-- a narrow beat is cut out of the wide one in which it lies
pub record NarrowLaw : Type 0 where
  pub wide_beat : (narrow wide : ℕ) (request : Request) (number : ℕ) → IsAsking narrow wide request
      → number < data_beats request.size narrow
      → wide_number narrow wide request.address number < data_beats request.size wide
  pub mask : (narrow wide : ℕ) (request : Request) (number : ℕ) → IsAsking narrow wide request
      → number < data_beats request.size narrow
      → (a_beat narrow request number).mask
      ≡ lanes_at 2 narrow (lane_in_wide narrow wide request.address number)
      (a_beat wide request (wide_number narrow wide request.address number)).mask
  pub payload : (narrow wide : ℕ) (request : Request) (number : ℕ) → IsAsking narrow wide request
      → number < data_beats request.size narrow
      → (a_beat narrow request number).payload
      ≡ lanes_at 256 narrow (lane_in_wide narrow wide request.address number)
      (a_beat wide request (wide_number narrow wide request.address number)).payload
  pub back : (narrow wide : ℕ) (request : Request) (response : Response) (number : ℕ)
      → IsTelling narrow wide request response → number < data_beats response.size narrow
      → (d_beat narrow request.address response number).payload
      ≡ lanes_at 256 narrow (lane_in_wide narrow wide request.address number)
      (d_beat wide request.address response (wide_number narrow wide request.address number)).payload

-- a wide beat is the sum of the narrow ones that lie in it, each moved to its place
pub record WideLaw : Type 0 where
  pub mask : (narrow wide : ℕ) (request : Request) (number : ℕ) → IsAsking narrow wide request
      → number < data_beats request.size wide
      → (a_beat wide request number).mask
      ≡ gathered 2 (lane_in_wide narrow wide request.address) (λ k. (a_beat narrow request k).mask)
      (first_narrow narrow wide number) (narrow_count narrow wide request.size)
  pub payload : (narrow wide : ℕ) (request : Request) (number : ℕ) → IsAsking narrow wide request
      → number < data_beats request.size wide
      → (a_beat wide request number).payload
      ≡ gathered 256 (lane_in_wide narrow wide request.address) (λ k. (a_beat narrow request k).payload)
      (first_narrow narrow wide number) (narrow_count narrow wide request.size)
  pub back : (narrow wide : ℕ) (request : Request) (response : Response) (number : ℕ)
      → IsTelling narrow wide request response → number < data_beats response.size wide
      → (d_beat wide request.address response number).payload
      ≡ gathered 256 (lane_in_wide narrow wide request.address)
      (λ k. (d_beat narrow request.address response k).payload)
      (first_narrow narrow wide number) (narrow_count narrow wide response.size)

-- the narrow beats that end their wide one are the last of those that lie in it
abbrev pub LastLaw : Type 0
LastLaw =
    (narrow wide : ℕ) (request : Request) (number : ℕ) → IsAsking narrow wide request
    → number < data_beats request.size narrow
    → EndsWide narrow wide request.size request.address number
    ↔ (number + 1
    ≡ first_narrow narrow wide (wide_number narrow wide request.address number)
    + narrow_count narrow wide request.size)

-- narrow beats are put together one after another: what is kept of a wide beat after some of its narrow ones and the
-- next one at its place have no bit in common, so their bitwise or is their sum
pub record KeptLaw : Type 0 where
  pub mask : (narrow wide : ℕ) (request : Request) (number more : ℕ) → IsAsking narrow wide request
      → number < data_beats request.size wide → more < narrow_count narrow wide request.size
      → bit_or (gathered 2 (lane_in_wide narrow wide request.address) (λ k. (a_beat narrow request k).mask)
      (first_narrow narrow wide number) more)
      ((a_beat narrow request (first_narrow narrow wide number + more)).mask
      * 2 ^ lane_in_wide narrow wide request.address (first_narrow narrow wide number + more))
      ≡ gathered 2 (lane_in_wide narrow wide request.address) (λ k. (a_beat narrow request k).mask)
      (first_narrow narrow wide number) (suc more)
  pub payload : (narrow wide : ℕ) (request : Request) (number more : ℕ) → IsAsking narrow wide request
      → number < data_beats request.size wide → more < narrow_count narrow wide request.size
      → bit_or (gathered 256 (lane_in_wide narrow wide request.address) (λ k. (a_beat narrow request k).payload)
      (first_narrow narrow wide number) more)
      ((a_beat narrow request (first_narrow narrow wide number + more)).payload
      * 256 ^ lane_in_wide narrow wide request.address (first_narrow narrow wide number + more))
      ≡ gathered 256 (lane_in_wide narrow wide request.address) (λ k. (a_beat narrow request k).payload)
      (first_narrow narrow wide number) (suc more)
  pub back : (narrow wide : ℕ) (request : Request) (response : Response) (number more : ℕ)
      → IsTelling narrow wide request response → number < data_beats response.size wide
      → more < narrow_count narrow wide response.size
      → bit_or (gathered 256 (lane_in_wide narrow wide request.address)
      (λ k. (d_beat narrow request.address response k).payload) (first_narrow narrow wide number) more)
      ((d_beat narrow request.address response (first_narrow narrow wide number + more)).payload
      * 256 ^ lane_in_wide narrow wide request.address (first_narrow narrow wide number + more))
      ≡ gathered 256 (lane_in_wide narrow wide request.address)
      (λ k. (d_beat narrow request.address response k).payload) (first_narrow narrow wide number) (suc more)
