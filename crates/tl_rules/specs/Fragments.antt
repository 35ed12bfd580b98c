-- What fragmenters state. A fragmenter cuts gets and puts of more than a piece into pieces; atomics and intents pass
-- whole.
use Rattle.std.specs.Prelude.{ℕ, map, ◌==◌, nat_lt, cond, max, min, Ok}
use Rattle.dip_sets.specs.SizeRanges.{SizeRange, size_range, has_size, meet}
use Rattle.dip_rule.specs.Stated.{StatedAnswer}
use Rattle.tl_params.specs.declared.ops.Ops.{Ops}
use Rattle.tl_params.specs.declared.ports.Master.{Master}
use Rattle.tl_params.specs.declared.ports.Slave.{Slave}
use Rattle.tl_params.specs.declared.ports.DownPort.{DownPort}
use Rattle.tl_params.specs.declared.ports.UpPort.{UpPort}
use Rattle.tl_params.specs.declared.arguments.Fragments.{Fragments}
use Rattle.tl_params.specs.Arguments.{fragment_arguments}
use Rattle.tl_rules.specs.Refusals.{only, with_arguments, with_port}

-- sizes behind the fragmenter: a larger one than a piece arrives as pieces
abbrev pub cut : ℕ → SizeRange → SizeRange
cut piece s =
    cond (s.max == 0) s (cond (nat_lt piece s.min) (size_range piece piece) (size_range s.min (min s.max piece)))

-- sizes before the fragmenter: all up to the largest transfer where pieces can go on, and else those that need no
-- cutting
abbrev pub widened : Fragments → SizeRange → SizeRange
widened fragments s =
    cond (has_size s fragments.piece) (size_range s.min (max s.max fragments.largest))
    (meet s (size_range 1 fragments.piece))

-- operations behind the fragmenter
abbrev pub cut_ops : ℕ → Ops → Ops
cut_ops piece ops =
    record {
      get = cut piece ops.get;
      put_full = cut piece ops.put_full;
      put_partial = cut piece ops.put_partial;
      arithmetic = ops.arithmetic;
      logical = ops.logical;
      intent = ops.intent;
    }

-- operations before the fragmenter
abbrev pub widened_ops : Fragments → Ops → Ops
widened_ops fragments ops =
    record {
      get = widened fragments ops.get;
      put_full = widened fragments ops.put_full;
      put_partial = widened fragments ops.put_partial;
      arithmetic = ops.arithmetic;
      logical = ops.logical;
      intent = ops.intent;
    }

-- a master behind the fragmenter
abbrev pub cut_master : ℕ → Master → Master
cut_master piece m = record { node = m.node; port = m.port; ids = m.ids; emits = cut_ops piece m.emits }

-- a slave as it shows before the fragmenter
abbrev pub widened_slave : Fragments → Slave → Slave
widened_slave fragments s =
    record { node = s.node; port = s.port; addresses = s.addresses; supports = widened_ops fragments s.supports }

-- what goes down behind the fragmenter
abbrev pub cut_port : ℕ → DownPort → DownPort
cut_port piece port = record { masters = map (cut_master piece) port.masters }

-- what goes up before the fragmenter
abbrev pub widened_port : Fragments → UpPort → UpPort
widened_port fragments port = record { slaves = map (widened_slave fragments) port.slaves; beat = port.beat }

-- what it states down
abbrev pub fragmenter_down : StatedAnswer DownPort
fragmenter_down args ins =
    with_arguments (fragment_arguments args)
    (λ fragments. with_port (only ins) (λ port. Ok (cut_port fragments.piece port)))

-- what it states up
abbrev pub fragmenter_up : StatedAnswer UpPort
fragmenter_up args outs =
    with_arguments (fragment_arguments args)
    (λ fragments. with_port (only outs) (λ port. Ok (widened_port fragments port)))
