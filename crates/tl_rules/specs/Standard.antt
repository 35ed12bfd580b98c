-- The standard kinds of nodes: what is built for each, and what its rule states.
use Rattle.std.specs.Prelude.{List, [], ◌∷◌, codes}
use Rattle.tl_params.specs.declared.ops.Template.TheVariants.{Buffer, Width, Fragmenter, Shrinker, Xbar}
use Rattle.tl_params.specs.declared.ports.DownPort.{DownPort}
use Rattle.tl_params.specs.declared.ports.UpPort.{UpPort}
use Rattle.dip_rule.specs.Stated.{StatedAnswer, StatedRule, stated_rule}
use Rattle.tl_rules.specs.Adapters.{buffer_down, buffer_up, width_down, width_up}
use Rattle.tl_rules.specs.Crossbars.{xbar_down, xbar_up}
use Rattle.tl_rules.specs.Fragments.{fragmenter_down, fragmenter_up}
use Rattle.tl_rules.specs.Shrinks.{shrinker_down, shrinker_up}

-- what a rule states both ways
pub record Sides : Type 0 where
  pub down : StatedAnswer DownPort
  pub up : StatedAnswer UpPort

-- what a rule states both ways, of its parts
abbrev pub sides : StatedAnswer DownPort → StatedAnswer UpPort → Sides
sides down up = record { down = down; up = up }

-- the standard kinds with a rule for each
abbrev pub kinds_by : Sides → Sides → Sides → Sides → Sides → List StatedRule
kinds_by buffer width fragmenter shrinker xbar =
    stated_rule (codes "buffer") Buffer buffer.down buffer.up
    ∷ stated_rule (codes "width") Width width.down width.up
    ∷ stated_rule (codes "fragmenter") Fragmenter fragmenter.down fragmenter.up
    ∷ stated_rule (codes "shrinker") Shrinker shrinker.down shrinker.up
    ∷ stated_rule (codes "xbar") Xbar xbar.down xbar.up
    ∷ []

-- the standard rules
abbrev pub standard : List StatedRule
standard =
    kinds_by (sides buffer_down buffer_up) (sides width_down width_up) (sides fragmenter_down fragmenter_up)
    (sides shrinker_down shrinker_up) (sides xbar_down xbar_up)
