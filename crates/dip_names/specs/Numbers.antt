-- Names by their numbers.
use Rattle.std.specs.Prelude.{ℕ, List, map, String, string_bytes}
use Rattle.std.specs.declared.alloc.Global.{Global}

-- the bytes of some texts
abbrev pub texts : List (String Global) → List (List ℕ)
texts = map string_bytes
