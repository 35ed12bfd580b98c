-- How a port tests whether a beat is the next one of a request that its device may be asked.
use Rattle.std.specs.Prelude.{ℕ, ◌≡◌, ◌<◌, ◌+◌, ◌*◌, ◌/◌, ◌%◌, ◌^◌, ◌&&◌, ◌||◌, nat_eq, nat_le, nat_lt, not, Bool, false, cond, Contains, IsTrue, List, [], ◌∷◌}
use Rattle.tl_edge.specs.declared.beat.ABeat.{ABeat}
use Rattle.tl_edge.specs.Beats.{active_mask, first_lane, lane_count}
use Rattle.tl_edge.specs.Messages.{bytes_of, has_data, has_flags, has_param}
use Rattle.sim_ports.specs.Devices.{is_atomic}
use Rattle.sim_ports.specs.Sinks.{Serving, sink_takes}

-- a number has something on lanes of so many bits from a first one on, so many, and nothing on other ones
abbrev pub stands_on : ℕ → ℕ → ℕ → ℕ → Bool
stands_on bits first count n = nat_eq (n % 2 ^ (bits * first)) 0 && nat_lt (n / 2 ^ (bits * first)) (2 ^ (bits * count))

-- the mask of a beat is one that a beat of its operation may have: flags on its lanes, or all of these lanes
abbrev pub has_mask : ℕ → ABeat → Bool
has_mask width beat =
    cond (has_flags beat.op)
    (stands_on 1 (first_lane width beat.size beat.address) (lane_count width beat.size) beat.mask)
    (nat_eq beat.mask (active_mask width beat.size beat.address))

-- so are its data: bytes on its lanes, or none
abbrev pub has_bytes : ℕ → ABeat → Bool
has_bytes width beat =
    cond (has_data beat.op)
    (stands_on 8 (first_lane width beat.size beat.address) (lane_count width beat.size) beat.payload)
    (nat_eq beat.payload 0)

-- the control fields of a beat are those of a request that a device may be asked, if it has the addresses
abbrev pub has_legal_fields : ABeat → Bool
has_legal_fields beat =
    nat_le beat.size 8 && (not (is_atomic beat.op) || nat_le beat.size 3) && has_param beat.op beat.param
    && nat_lt beat.source 1024 && nat_lt beat.address (2 ^ 48) && nat_eq (beat.address % bytes_of beat.size) 0

-- a beat has the control fields of another one
pub record HasFieldsOf (head beat : ABeat) : Type 0 where
  pub op : beat.op ≡ head.op
  pub param : beat.param ≡ head.param
  pub size : beat.size ≡ head.size
  pub source : beat.source ≡ head.source
  pub address : beat.address ≡ head.address

-- among some addresses are so many in a row
abbrev pub HasRow : List ℕ → ℕ → ℕ → Type 0
HasRow addresses address count = (number : ℕ) → number < count → Contains addresses (address + number)

-- a beat carries on those that have left of a request: it has their control fields; or there are none, and the device
-- has the bytes of its own request
abbrev pub CarriesOn : List ℕ → List ABeat → ABeat → Type 0
CarriesOn addresses [] beat = HasRow addresses beat.address (bytes_of beat.size)
CarriesOn addresses (head ∷ beats) beat = HasFieldsOf head beat

-- on a bus of some bytes, behind beats that have left, a beat passes all of these tests
pub record PassesTest (addresses : List ℕ) (width : ℕ) (taken : List ABeat) (beat : ABeat) : Type 0 where
  pub legal : IsTrue (has_legal_fields beat)
  pub follows : CarriesOn addresses taken beat
  pub mask : IsTrue (has_mask width beat)
  pub bytes : IsTrue (has_bytes width beat)

-- a port takes, and a beat passes the test there
pub record MayTake (addresses : List ℕ) (port : Serving) (beat : ABeat) : Type 0 where
  pub takes : IsTrue (sink_takes port false)
  pub passes : PassesTest addresses port.width port.taken beat
