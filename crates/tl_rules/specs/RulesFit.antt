-- The standard rules and what is built belong together: the ports that a rule answers fit its template, where the bus
-- below a width adapter has an allowed width and a piece of a fragmenter at least one beat.
use Rattle.std.specs.Prelude.{ℕ, ◌≡◌, ◌≤◌, List, [], ◌∷◌, map, ◌&&◌, IsTrue, Some, Ok}
use Rattle.tl_params.specs.declared.ops.Template.TheVariants.{Buffer, Width, Fragmenter, Shrinker}
use Rattle.tl_params.specs.declared.ports.DownPort.{DownPort}
use Rattle.tl_params.specs.declared.ports.UpPort.{UpPort}
use Rattle.tl_params.specs.declared.arguments.Fragments.{Fragments}
use Rattle.tl_params.specs.Arguments.{is_width, fragment_arguments}
use Rattle.tl_rules.specs.Adapters.{buffer_down, buffer_up, width_down, width_up}
use Rattle.tl_rules.specs.Fragments.{fragmenter_down, fragmenter_up}
use Rattle.tl_rules.specs.Shrinks.{shrinker_down, shrinker_up}
use Rattle.tl_rules.specs.Crossbars.{xbar_down, xbar_up}
use Rattle.tl_rules.specs.Fits.{edge_ports, adapter_fits, inputs_fit, outputs_fit}

-- One port comes down an in edge, another comes up its out edge, and the rule answers what goes on below and above:
-- these ports fit what is built for the rule's kind.
pub record RulesFitLaw : Type 0 where
  pub buffer : (args : List ℕ) (down below : DownPort) (up above : UpPort)
      → buffer_down args (down ∷ []) ≡ Ok below → buffer_up args (up ∷ []) ≡ Ok above
      → IsTrue (adapter_fits Buffer args (edge_ports down above) (edge_ports below up))
  -- where the bus below has a width that buses may have
  pub width : (args : List ℕ) (down below : DownPort) (up above : UpPort)
      → width_down args (down ∷ []) ≡ Ok below → width_up args (up ∷ []) ≡ Ok above
      → IsTrue (is_width up.beat)
      → IsTrue (adapter_fits Width args (edge_ports down above) (edge_ports below up))
  -- where a piece has at least the bytes of one beat
  pub fragmenter : (args : List ℕ) (fragments : Fragments) (down below : DownPort) (up above : UpPort)
      → fragment_arguments args ≡ Some fragments
      → fragmenter_down args (down ∷ []) ≡ Ok below → fragmenter_up args (up ∷ []) ≡ Ok above
      → up.beat ≤ fragments.piece
      → IsTrue (adapter_fits Fragmenter args (edge_ports down above) (edge_ports below up))
  pub shrinker : (args : List ℕ) (down below : DownPort) (up above : UpPort)
      → shrinker_down args (down ∷ []) ≡ Ok below → shrinker_up args (up ∷ []) ≡ Ok above
      → IsTrue (adapter_fits Shrinker args (edge_ports down above) (edge_ports below up))
  -- a crossbar's answers go on at all of its outputs and inputs
  pub xbar : (args : List ℕ) (downs : List DownPort) (below : DownPort) (ups : List UpPort) (above : UpPort)
      → xbar_down args downs ≡ Ok below → xbar_up args ups ≡ Ok above
      → IsTrue (inputs_fit (map (λ _. above) downs) ups && outputs_fit downs (map (λ _. below) ups))
