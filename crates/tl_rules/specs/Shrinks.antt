-- What shrinkers state. A shrinker shows all masters as one with few ids.
use Rattle.std.specs.Prelude.{ℕ, List, [], ◌∷◌, Result, Ok, Err}
use Rattle.dip_sets.specs.SizeRanges.{cover}
use Rattle.dip_rule.specs.Stated.{StatedAnswer}
use Rattle.tl_params.specs.declared.ops.Ops.{Ops}
use Rattle.tl_params.specs.declared.ports.Master.{Master}
use Rattle.tl_params.specs.declared.ports.DownPort.{DownPort}
use Rattle.tl_params.specs.declared.ports.UpPort.{UpPort}
use Rattle.tl_params.specs.Arguments.{shrink_argument}
use Rattle.tl_rules.specs.Refusals.{only, with_arguments, with_port}

-- of each operation the least range that has the sizes of both
abbrev pub cover_ops : Ops → Ops → Ops
cover_ops a b =
    record {
      get = cover a.get b.get;
      put_full = cover a.put_full b.put_full;
      put_partial = cover a.put_partial b.put_partial;
      arithmetic = cover a.arithmetic b.arithmetic;
      logical = cover a.logical b.logical;
      intent = cover a.intent b.intent;
    }

-- the cover of some operations and of what further masters emit
abbrev pub cover_emits : Ops → List Master → Ops
cover_emits ops [] = ops
cover_emits ops (m ∷ masters) = cover_emits (cover_ops ops m.emits) masters

-- one master that has the first one's node and port, so many ids from 0 on, and the cover of what all emit
abbrev pub shrunk_port : ℕ → List Master → Result DownPort ℕ
shrunk_port ids [] = Err 2
shrunk_port ids (m ∷ masters) =
    Ok (
    record {
      masters =
          record {
            node = m.node;
            port = m.port;
            ids = record { start = 0; end = ids };
            emits = cover_emits m.emits masters;
          } ∷ [];
    }
    )

-- what it states down
abbrev pub shrinker_down : StatedAnswer DownPort
shrinker_down args ins =
    with_arguments (shrink_argument args) (λ ids. with_port (only ins) (λ port. shrunk_port ids port.masters))

-- what it states up: the port as it is
abbrev pub shrinker_up : StatedAnswer UpPort
shrinker_up args outs = with_arguments (shrink_argument args) (λ ids. with_port (only outs) (λ port. Ok port))
