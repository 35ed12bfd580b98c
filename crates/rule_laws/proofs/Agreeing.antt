-- What standard rules answer fits what is built for their nodes, unless a fragmenter's piece has fewer bytes than the
-- bus behind it; and buses keep widths that buses may have.
use Rattle.std.proofs.Common.{◌≡◌, ℕ, ◌<◌, Bool, true, false, cond, ◌&&◌, List, [], ◌∷◌, map, IsTrue, Option, Some, None, Result, Ok, refl, sym, ap, ◌∙◌, subst, ◌⊎◌, inl, inr}
use Rattle.std.specs.Prelude.{All}
use Rattle.std.proofs.lemmas.Bool.{cases_lt}
use Rattle.std.proofs.lemmas.List.Elements.{All-head}
use Rattle.tl_params.specs.Operations.{is_nexus}
use Rattle.tl_params.specs.Arguments.{is_width, fragment_arguments, shrink_argument}
use Rattle.tl_params.specs.declared.arguments.Fragments.{Fragments}
use Rattle.tl_params.specs.declared.ops.Template.{Template}
use Rattle.tl_params.specs.declared.ops.Template.TheVariants.{Fragmenter}
use Rattle.tl_params.specs.declared.ports.DownPort.{DownPort}
use Rattle.tl_params.specs.declared.ports.UpPort.{UpPort}
use Rattle.dip_rule.specs.Stated.{StatedRule, StatedAnswer}
use Rattle.tl_rules.specs.Refusals.{only, with_arguments, with_port}
use Rattle.tl_rules.specs.Adapters.{width_argument, with_beat, buffer_up}
use Rattle.tl_rules.specs.Fragments.{cut_port, widened_port, fragmenter_down, fragmenter_up}
use Rattle.tl_rules.specs.Crossbars.{xbar_up}
use Rattle.tl_rules.specs.Fits.{adapter_fits, edge_ports, inputs_fit, outputs_fit}
use Rattle.tl_rules.specs.Standard.{standard}
use Rattle.tl_rules.proofs.Fitting.{rules_fit}
use Rattle.rule_laws.proofs.Refusing.{five}

never : {Q : Type 0} → true ≡ false → Q
never z = absurd cc

-- ---- what is built for the answers

-- pieces that are smaller than the bus behind them
abbrev pub ArePiecesSmall : Template → List ℕ → UpPort → Type 0
ArePiecesSmall template args up = (template ≡ Fragmenter) × (fragments : Fragments) × (fragment_arguments args ≡ Some fragments) × (fragments.piece < up.beat)

-- the answers of a rule fit, or pieces are small
pub record RuleFits (rule : StatedRule) : Type 0 where
  pub pair : is_nexus rule.template ≡ false → (args : List ℕ) (down below : DownPort) (up above : UpPort) → rule.down args (down ∷ []) ≡ Ok below → rule.up args (up ∷ []) ≡ Ok above → IsTrue (is_width up.beat)
      → (adapter_fits rule.template args (edge_ports down above) (edge_ports below up) ≡ true) ⊎ ArePiecesSmall rule.template args up
  pub nexus : is_nexus rule.template ≡ true → (args : List ℕ) (downs : List DownPort) (below : DownPort) (ups : List UpPort) (above : UpPort) → rule.down args downs ≡ Ok below → rule.up args ups ≡ Ok above
      → (inputs_fit (map (λ _. above) downs) ups && outputs_fit downs (map (λ _. below) ups)) ≡ true

fragmenter_pair : (args : List ℕ) (down below : DownPort) (up above : UpPort) → fragmenter_down args (down ∷ []) ≡ Ok below → fragmenter_up args (up ∷ []) ≡ Ok above
    → (adapter_fits Fragmenter args (edge_ports down above) (edge_ports below up) ≡ true) ⊎ ArePiecesSmall Fragmenter args up
fragmenter_pair args down below up above d u = at (fragment_arguments args) refl d
  where
    at : (o : Option Fragments) → fragment_arguments args ≡ o → with_arguments {P = DownPort} o (λ f. Ok (cut_port f.piece down)) ≡ Ok below → (adapter_fits Fragmenter args (edge_ports down above) (edge_ports below up) ≡ true) ⊎ ArePiecesSmall Fragmenter args up
    at None q e = absurd cc
    at (Some f) q e = elim (cases_lt f.piece up.beat) [
      | inl l ↦ inr (refl, f, q, l)
      | inr g ↦ inl (rules_fit.fragmenter args f down below up above q d u g)
    ]

pub each_fits : All RuleFits standard
each_fits = five RuleFits _ _ _ _ _
    (record { pair = λ n args down below up above d u w. inl (rules_fit.buffer args down below up above d u); nexus = λ n. never (sym n) })
    (record { pair = λ n args down below up above d u w. inl (rules_fit.width args down below up above d u w); nexus = λ n. never (sym n) })
    (record { pair = λ n args down below up above d u w. fragmenter_pair args down below up above d u; nexus = λ n. never (sym n) })
    (record { pair = λ n args down below up above d u w. inl (rules_fit.shrinker args down below up above d u); nexus = λ n. never (sym n) })
    (record { pair = λ n. never n; nexus = λ n args downs below ups above d u. rules_fit.xbar args downs below ups above d u })

-- ---- the widths of buses

-- a bus with a width that buses may have
abbrev pub IsNarrow : UpPort → Type 0
IsNarrow up = is_width up.beat ≡ true

abbrev pub KeepsWidths : StatedAnswer UpPort → Type 0
KeepsWidths up = (args : List ℕ) (outs : List UpPort) (above : UpPort) → All IsNarrow outs → up args outs ≡ Ok above → IsNarrow above

abbrev pub RuleKeepsWidths : StatedRule → Type 0
RuleKeepsWidths rule = KeepsWidths rule.up

same : (a b : UpPort) → ◌≡◌ {A = Result UpPort ℕ} (Ok a) (Ok b) → a ≡ b
same a b e = cc

module _ {A : Type 0} (taking : List ℕ → Option A) (shows : A → UpPort → UpPort) (keeps : (args : List ℕ) (a : A) → taking args ≡ Some a → (port : UpPort) → IsNarrow port → IsNarrow (shows a port)) where
  seen : (args : List ℕ) (a : A) → taking args ≡ Some a → (outs : List UpPort) (above : UpPort) → All IsNarrow outs → with_port (only outs) (λ port. Ok (shows a port)) ≡ Ok above → IsNarrow above
  seen args a q [] above h e = absurd cc
  seen args a q (port ∷ []) above h e = subst IsNarrow (same (shows a port) above e) (keeps args a q port (All-head IsNarrow port [] h))
  seen args a q (port ∷ other ∷ more) above h e = absurd cc

  adapter_keeps : KeepsWidths (λ args outs. with_arguments (taking args) (λ a. with_port (only outs) (λ port. Ok (shows a port))))
  adapter_keeps args outs above h e = at (taking args) refl e
    where
      at : (o : Option A) → taking args ≡ o → with_arguments o (λ a. with_port (only outs) (λ port. Ok (shows a port))) ≡ Ok above → IsNarrow above
      at None q e = absurd cc
      at (Some a) q e = seen args a q outs above h e

buffer_keeps : KeepsWidths buffer_up
buffer_keeps [] [] above h e = absurd cc
buffer_keeps [] (port ∷ []) above h e = subst IsNarrow (same port above e) (All-head IsNarrow port [] h)
buffer_keeps [] (port ∷ other ∷ more) above h e = absurd cc
buffer_keeps (arg ∷ args) outs above h e = absurd cc

width_is : (args : List ℕ) (w : ℕ) → width_argument args ≡ Some w → is_width w ≡ true
width_is [] w h = absurd cc
width_is (x ∷ []) w h = at (is_width x) refl h
  where
    at : (b : Bool) → is_width x ≡ b → cond b (Some x) None ≡ Some w → is_width w ≡ true
    at true e h = let s : x ≡ w = cc in ap is_width (sym s) ∙ e
    at false e h = absurd cc
width_is (x ∷ y ∷ more) w h = absurd cc

xbar_keeps : KeepsWidths xbar_up
xbar_keeps [] [] above h e = absurd cc
xbar_keeps [] (first ∷ rest) above h e = subst IsNarrow (same _ above e) (All-head IsNarrow first rest h)
xbar_keeps (arg ∷ args) outs above h e = absurd cc

pub each_keeps_widths : All RuleKeepsWidths standard
each_keeps_widths = five RuleKeepsWidths _ _ _ _ _
    buffer_keeps
    (adapter_keeps width_argument with_beat (λ args w q port h. width_is args w q))
    (adapter_keeps fragment_arguments widened_port (λ args f q port h. h))
    (adapter_keeps shrink_argument (λ ids port. port) (λ args ids q port h. h))
    xbar_keeps
