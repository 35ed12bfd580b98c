-- The limits of designs.
use Rattle.std.specs.Prelude.{ℕ}

-- A name of a design, a module or a node has at most 32 bytes, and so has a node's kind.
abbrev pub most_name_bytes : ℕ
most_name_bytes = 32

-- A design has 0 to 255 modules besides the top one.
abbrev pub most_modules : ℕ
most_modules = 255

-- It has 1 to 256 nodes.
abbrev pub most_nodes : ℕ
most_nodes = 256

-- It has 0 to 1,024 binds.
abbrev pub most_binds : ℕ
most_binds = 1024

-- A node that a rule is for has at most 8 arguments.
abbrev pub most_args : ℕ
most_args = 8

-- A source or a sink has 1 to 64 ports.
abbrev pub most_ports : ℕ
most_ports = 64

-- A port of a sink has 1 to 16 address sets.
abbrev pub most_sets : ℕ
most_sets = 16

-- A source has 1 to 64 ids at each port.
abbrev pub most_source_ids : ℕ
most_source_ids = 64

-- A transfer of an arithmetic or a logical operation has at most 8 bytes.
abbrev pub most_atomic : ℕ
most_atomic = 8
