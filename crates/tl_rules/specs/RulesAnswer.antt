-- What the answers of single standard rules are, in other words than their own.
use Rattle.std.specs.Prelude.{ℕ, ◌≡◌, List, [], ◌∷◌, Contains, IsTrue, None, Ok}
use Rattle.tl_params.specs.Carried.{ops_fit}
use Rattle.tl_params.specs.declared.ports.Master.{Master}
use Rattle.tl_params.specs.declared.ports.DownPort.{DownPort}
use Rattle.tl_params.specs.declared.ports.UpPort.{UpPort}
use Rattle.tl_rules.specs.Adapters.{width_up}
use Rattle.tl_rules.specs.Crossbars.{xbar_up}
use Rattle.tl_rules.specs.Shrinks.{shrinker_down}

pub record RulesAnswerLaw : Type 0 where
  -- the bus above a width adapter has the width that is its argument
  pub width : (args : List ℕ) (up above : UpPort) → width_up args (up ∷ []) ≡ Ok above → args ≡ above.beat ∷ []
  -- the bus above a crossbar is as wide as that of its first output
  pub xbar : (args : List ℕ) (first : UpPort) (rest : List UpPort) (above : UpPort)
      → xbar_up args (first ∷ rest) ≡ Ok above → above.beat ≡ first.beat
  -- what a master above a shrinker emits, the one below emits too
  pub shrinker : (args : List ℕ) (down below : DownPort) → shrinker_down args (down ∷ []) ≡ Ok below
      → (above shrunk : Master) → Contains down.masters above → Contains below.masters shrunk
      → IsTrue (ops_fit None above.emits shrunk.emits)
