-- The wires of both channels of a crossbar. Only functions that aren't public cite it.
use Rattle.std.specs.Prelude.{◌≡◌, ℕ, Bool, List, [], length, slice_index_or}
use Rattle.tl_edge.specs.declared.plan.Plan.{Plan}
use Rattle.tl_edge.specs.Plans.{edge_at}
use Rattle.net_build.specs.declared.types.Wire.{Wire}
use Rattle.net_build.specs.Bits.{AreRows, MeansAll, wire_values}
use Rattle.net_build.specs.Built.{Built}
use Rattle.net_build.specs.Columns.{no_wire}
use Rattle.net_gate.specs.declared.types.Serving.{Serving}
use Rattle.net_gate.specs.Gates.{IsGate}
use Rattle.net_paths.specs.declared.ids.IdBlock.{IdBlock}
use Rattle.net_queue.specs.declared.types.Put.{Put}
use Rattle.net_crossbar.specs.declared.channel.Channel.{Channel}
use Rattle.net_crossbar.specs.declared.channel.Channel.TheVariants.{A, D}
use Rattle.net_crossbar.specs.Heads.{MovesRow}
use Rattle.net_crossbar.specs.Places.{AllAt}
use Rattle.net_crossbar.specs.Puts.{AskOwner, AskRange, PutsReturned, PutsServed}
use Rattle.net_crossbar.specs.Rests.{HaveOpcodes, beats_behind_head}
use Rattle.net_crossbar.specs.Serving.{TellsTaken}

-- rows with the same values as others, all of the same widths
pub record AreFitted (b : Built) (count : ℕ) (from rows : List (List Wire)) (widths : List ℕ) : Type 0 where
  pub long : length rows ≡ length from
  pub widths_long : length widths ≡ count
  pub rows_are : AreRows b widths rows
  pub told : HaveOpcodes b rows
  pub same : AllAt (λ k row. MeansAll b row (λ v. wire_values v (slice_index_or from k []))) rows

-- gates for each of some rows of wants
pub record AreGates (b : Built) (round : Bool) (channel : Channel) (bytes : ℕ) (wants : List (List Wire))
    (readies : List Wire) (rows : List (List Wire)) (servings : List Serving) : Type 0 where
  pub long : length servings ≡ length wants
  pub gates : AllAt (λ k s. IsGate b round (beats_behind_head channel bytes) 255 (slice_index_or wants k [])
      (slice_index_or readies k no_wire) rows s) servings

-- the fields of all heads of requests with their ids moved, in rows of the same widths
pub record AreRequestRows (b : Built) (blocks : List IdBlock) (heads rows : List (List Wire)) (widths : List ℕ)
    : Type 0 where
  pub moved : List (List Wire)
  pub moved_long : length moved ≡ length heads
  pub moves : AllAt (λ k row. MovesRow b 3 (slice_index_or blocks k (record { prefix = 0; bits = 0 }))
      (slice_index_or heads k []) row) moved
  pub fitted : AreFitted b 7 moved rows widths

-- what gates of requests take and put
pub record RequestsGo (b : Built) (servings : List Serving) (count : ℕ) (likes : List (List Wire)) (takes : List Wire)
    (puts : List Put) : Type 0 where
  pub takes_long : length takes ≡ count
  pub take : AllAt (λ k w. TellsTaken b servings k w) takes
  pub puts_long : length puts ≡ length servings
  pub put : AllAt (λ k (p : Put). (s : Serving)
      → PutsServed b (slice_index_or likes k []) (slice_index_or servings k s) p) puts

-- what is taken of requests and put, by gates over the heads of all inputs, whose ids are moved
pub record AreRequests (b : Built) (round : Bool) (bytes : ℕ) (plan : Plan) (numbers : List ℕ)
    (blocks : List IdBlock) (valids : List Wire) (heads : List (List Wire)) (readies : List Wire)
    (likes : List (List Wire)) (takes : List Wire) (puts : List Put) : Type 0 where
  pub rows : List (List Wire)
  pub widths : List ℕ
  pub rows_are : AreRequestRows b blocks heads rows widths
  pub wants : List (List Wire)
  pub wants_long : length wants ≡ length numbers
  pub asks : AllAt (λ k row. AskOwner b valids heads (edge_at plan (slice_index_or numbers k 0)).slaves row) wants
  pub servings : List Serving
  pub gates : AreGates b round A bytes wants readies rows servings
  pub go : RequestsGo b servings (length heads) likes takes puts

-- what gates of responses take and put, whose ids are moved back behind them
pub record ResponsesGo (b : Built) (servings : List Serving) (count : ℕ) (blocks : List IdBlock)
    (likes : List (List Wire)) (takes : List Wire) (puts : List Put) : Type 0 where
  pub takes_long : length takes ≡ count
  pub take : AllAt (λ k w. TellsTaken b servings k w) takes
  pub puts_long : length puts ≡ length servings
  pub put : AllAt (λ k (p : Put). (block : IdBlock) (s : Serving)
      → PutsReturned b (slice_index_or blocks k block) (slice_index_or likes k []) (slice_index_or servings k s) p) puts

-- what is taken of responses and put, by gates over the heads of all outputs
pub record AreResponses (b : Built) (round : Bool) (bytes : ℕ) (blocks : List IdBlock) (valids : List Wire)
    (heads : List (List Wire)) (readies : List Wire) (likes : List (List Wire)) (takes : List Wire)
    (puts : List Put) : Type 0 where
  pub rows : List (List Wire)
  pub widths : List ℕ
  pub fitted : AreFitted b 5 heads rows widths
  pub wants : List (List Wire)
  pub wants_long : length wants ≡ length blocks
  pub asks : AllAt (λ k row. AskRange b valids heads (slice_index_or blocks k (record { prefix = 0; bits = 0 })) row)
      wants
  pub servings : List Serving
  pub gates : AreGates b round D bytes wants readies rows servings
  pub fields : AllAt (λ k (s : Serving). length s.items ≡ 5) servings
  pub go : ResponsesGo b servings (length heads) blocks likes takes puts
