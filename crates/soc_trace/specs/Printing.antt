-- How a text goes out as it comes.
use Rattle.std.specs.Prelude.{ℕ, ◌≡◌, ◌≤◌, List, ◌++◌, length, take, Result, IfOk, OnErr}
use Rattle.dip_io.specs.Outside.{OutSeen, Rose, Writes, WritesPart}

-- A piece was put behind what waited, and a first part of all that was written: the rest is left to wait.
pub record Prints (piece waiting : List ℕ) (before : OutSeen) (left : List ℕ) (after : OutSeen) : Type 0 where
  pub written : List ℕ
  pub writes : Writes written before after
  pub rest : written ++ left ≡ waiting ++ piece

-- What a call does that is to put a piece behind what waits. It answers where that ends in this room, which may be used
-- again. Where it fails, a first part of what waited and the piece was written, not all, and the count of faults rose.
pub record TriesToPrint {E : Type 0} (piece waiting : List ℕ) (before : OutSeen) (result : Result ℕ E)
    (room : List ℕ) (after : OutSeen) : Type 0 where
  pub within : IfOk result (λ end. end ≤ length room)
  pub ok : IfOk result (λ end. Prints piece waiting before (take end room) after)
  pub refused : OnErr result (WritesPart (waiting ++ piece) before after)
  pub later : before.faults ≤ after.faults
  pub cause : OnErr result (Rose before.faults after.faults)
