-- What the edge of a port can carry: the beats that may be put onto it from outside.
use Rattle.std.specs.Prelude.{ℕ, ◌*◌, ◌%◌, ◌^◌, ◌==◌, Bool, ◌&&◌, nat_lt, nat_le}
use Rattle.tl_edge.specs.declared.beat.ABeat.{ABeat}
use Rattle.tl_edge.specs.declared.beat.DBeat.{DBeat}
use Rattle.tl_edge.specs.declared.plan.PlanEdge.{PlanEdge}
use Rattle.tl_edge.specs.Messages.{bytes_of}
use Rattle.tl_edge.specs.Plans.{bus_width}

-- the exponent of the largest transfer, which has 256 bytes
abbrev pub most_size : ℕ
most_size = 8

-- an address has at most so many bits
abbrev pub address_limit : ℕ
address_limit = 48

-- an edge carries a beat of a request: of a size that there is and one of its ids, at an aligned address, and with a
-- mask and data for which its bus has lanes
unfoldable pub carries_a : PlanEdge → ABeat → Bool
carries_a edge beat =
    nat_le beat.size most_size && nat_lt beat.source edge.ids && nat_lt beat.address (2 ^ address_limit)
    && beat.address % bytes_of beat.size == 0
    && nat_lt beat.mask (2 ^ bus_width edge) && nat_lt beat.payload (2 ^ (8 * bus_width edge))

-- an edge carries a beat of a response: of a size that there is and one of its ids, and with data for which its bus has
-- lanes
unfoldable pub carries_d : PlanEdge → DBeat → Bool
carries_d edge beat =
    nat_le beat.size most_size && nat_lt beat.source edge.ids && nat_lt beat.payload (2 ^ (8 * bus_width edge))
