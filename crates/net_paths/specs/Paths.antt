-- Where a head of a crossbar goes, and with which id.
use Rattle.std.specs.Prelude.{◌≡◌, ℕ, ◌+◌, ◌-◌, ◌*◌, ◌^◌, ◌<◌, true}
use Rattle.dip_sets.specs.declared.ids.IdRange.{IdRange}
use Rattle.dip_sets.specs.Ids.{has_id}
use Rattle.net_build.specs.declared.types.Wire.{Wire}
use Rattle.net_build.specs.Built.{Built}
use Rattle.net_build.specs.Values.{Solves}
use Rattle.net_paths.specs.declared.ids.IdBlock.{IdBlock}

-- the ids whose bits from a place on are a prefix
pub record IsIdBlock (range : IdRange) (block : IdBlock) : Type 0 where
  pub start : range.start ≡ block.prefix * 2 ^ block.bits
  pub end : range.end ≡ range.start + 2 ^ block.bits
  pub few : block.bits < 32

-- where an id is below the number of a range's ids, the other wire has it moved to them
pub record MovesId (b : Built) (range : IdRange) (block : IdBlock) (from to : Wire) : Type 0 where
  pub at : (v : ℕ → ℕ) → Solves b v → v from.number < 2 ^ block.bits → v to.number ≡ v from.number + range.start

-- where an id is in a range, the other wire has it moved back
pub record MovesBack (b : Built) (range : IdRange) (from to : Wire) : Type 0 where
  pub at : (v : ℕ → ℕ) → Solves b v → has_id range (v from.number) ≡ true
      → v to.number ≡ v from.number - range.start
