-- Numbers as they are printed.
use Rattle.std.specs.Prelude.{ℕ, List, false}
use Rattle.std.specs.Fmt.{digits}

-- lower-case hexadecimal without leading zeros
abbrev pub hexadecimal : ℕ → List ℕ
hexadecimal n = digits 16 false n
