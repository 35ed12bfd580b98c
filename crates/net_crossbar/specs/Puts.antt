-- What gates put into the queues of edges, and where heads of requests and responses want to go.
use Rattle.std.specs.Prelude.{◌≡◌, ℕ, List, [], length, slice_index_or}
use Rattle.tl_params.specs.declared.ports.Slave.{Slave}
use Rattle.net_build.specs.declared.types.Wire.{Wire}
use Rattle.net_build.specs.Built.{Built, IsBit}
use Rattle.net_build.specs.Columns.{no_wire}
use Rattle.net_gate.specs.declared.types.Serving.{Serving}
use Rattle.net_paths.specs.declared.ids.IdBlock.{IdBlock}
use Rattle.net_queue.specs.declared.types.Put.{Put}
use Rattle.net_queue.specs.Rows.{AreAlike, KeepsRow, row_widths}
use Rattle.net_crossbar.specs.Heads.{IsOfLength, MovesRowBack}
use Rattle.net_crossbar.specs.Places.{AllAt}
use Rattle.net_crossbar.specs.Wants.{AsksOwner, AsksRange}

-- for each head a wire that is 1 where one of some slaves owns its address
pub record AskOwner (b : Built) (valids : List Wire) (rows : List (List Wire)) (slaves : List Slave)
    (wants : List Wire) : Type 0 where
  pub long : length wants ≡ length rows
  pub asks : AllAt (λ k w. AsksOwner b slaves (slice_index_or valids k no_wire)
      (slice_index_or (slice_index_or rows k []) 4 no_wire) w) wants

-- for each head a wire that is 1 where its id is in a range
pub record AskRange (b : Built) (valids : List Wire) (rows : List (List Wire)) (block : IdBlock)
    (wants : List Wire) : Type 0 where
  pub long : length wants ≡ length rows
  pub asks : AllAt (λ k w. AsksRange b block (slice_index_or valids k no_wire)
      (slice_index_or (slice_index_or rows k []) 2 no_wire) w) wants

-- what a gate serves is put where this row stands, with its values wherever they fit
pub record PutsServed (b : Built) (like : List Wire) (s : Serving) (put : Put) : Type 0 where
  pub valid : put.valid ≡ s.valid
  pub bit : IsBit b put.valid
  pub alike : AreAlike b like put.items
  pub keeps : KeepsRow b s.items (row_widths like) put.items

-- the same with the id moved back from a range
pub record PutsReturned (b : Built) (block : IdBlock) (like : List Wire) (s : Serving) (put : Put) : Type 0 where
  pub valid : put.valid ≡ s.valid
  pub bit : IsBit b put.valid
  pub alike : AreAlike b like put.items
  pub moved : List Wire
  pub returns : MovesRowBack b 2 block s.items moved
  pub keeps : KeepsRow b moved (row_widths like) put.items

-- a served row of so many wires
pub record IsServedRow (b : Built) (count : ℕ) (s : Serving) : Type 0 where
  pub valid : IsBit b s.valid
  pub row : IsOfLength b count s.items
