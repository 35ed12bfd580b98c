-- The limits of what a design file may state, besides those of designs.
use Rattle.std.specs.Prelude.{ℕ, ◌-◌, ◌^◌}

-- A design file has at most 1,048,576 bytes.
abbrev pub most_bytes : ℕ
most_bytes = 1048576

-- An argument of a node is 0 to 2^32 - 1.
abbrev pub most_arg : ℕ
most_arg = 2 ^ 32 - 1

-- The bus of a sink is 1, 2, 4 or 8 bytes wide.
abbrev pub most_beat : ℕ
most_beat = 8

-- A transfer has at most 256 bytes.
abbrev pub most_transfer : ℕ
most_transfer = 256

-- The base and the mask of an address set are 0 to 2^48 - 1.
abbrev pub most_address : ℕ
most_address = 2 ^ 48 - 1
