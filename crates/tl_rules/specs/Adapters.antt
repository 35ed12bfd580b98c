-- What buffers and width adapters state. They take one port, and only the width of the bus differs.
use Rattle.std.specs.Prelude.{ℕ, List, [], ◌∷◌, cond, Option, Some, None, Ok, Err}
use Rattle.dip_rule.specs.Stated.{StatedAnswer}
use Rattle.tl_params.specs.declared.ports.DownPort.{DownPort}
use Rattle.tl_params.specs.declared.ports.UpPort.{UpPort}
use Rattle.tl_params.specs.Arguments.{is_width}
use Rattle.tl_rules.specs.Refusals.{only, with_arguments, with_port}

-- ---- a buffer: no arguments, and the port as it is

-- what it states down
abbrev pub buffer_down : StatedAnswer DownPort
buffer_down [] ins = with_port (only ins) (λ port. Ok port)
buffer_down (arg ∷ args) ins = Err 1

-- what it states up
abbrev pub buffer_up : StatedAnswer UpPort
buffer_up [] outs = with_port (only outs) (λ port. Ok port)
buffer_up (arg ∷ args) outs = Err 1

-- ---- a width adapter: one argument, the width of the bus on its in side

-- the only argument, where it is a width of buses
abbrev pub width_argument : List ℕ → Option ℕ
width_argument [] = None
width_argument (width ∷ []) = cond (is_width width) (Some width) None
width_argument (width ∷ other ∷ more) = None

-- the port behind a bus of this width
abbrev pub with_beat : ℕ → UpPort → UpPort
with_beat width port = record { slaves = port.slaves; beat = width }

-- what it states down: the port as it is
abbrev pub width_down : StatedAnswer DownPort
width_down args ins = with_arguments (width_argument args) (λ width. with_port (only ins) (λ port. Ok port))

-- what it states up: the port behind a bus as wide as the argument says
abbrev pub width_up : StatedAnswer UpPort
width_up args outs =
    with_arguments (width_argument args) (λ width. with_port (only outs) (λ port. Ok (with_beat width port)))
