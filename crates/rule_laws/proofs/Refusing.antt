-- What each standard rule refuses.
use Rattle.std.proofs.Common.{◌≡◌, ℕ, ◌≤◌, Bool, true, false, cond, List, [], ◌∷◌, length, Option, Some, None, Result, Ok, Err, refl, sym, ap, ◌∙◌, subst, arith, ◌⊎◌, inl, inr}
use Rattle.std.specs.Prelude.{All, IsOk}
use Rattle.std.proofs.lemmas.List.Elements.{All-nil, All-cons, All-head, All-tail}
use Rattle.std.specs.Str.{bytes_eq}
use Rattle.tl_params.specs.Operations.{is_nexus}
use Rattle.tl_params.specs.declared.arguments.Fragments.{Fragments}
use Rattle.tl_params.specs.declared.ops.Template.{Template}
use Rattle.tl_params.specs.declared.ops.Template.TheVariants.{Buffer, Width, Fragmenter, Shrinker, Xbar}
use Rattle.tl_params.specs.declared.ports.DownPort.{DownPort}
use Rattle.tl_params.specs.declared.ports.UpPort.{UpPort}
use Rattle.tl_params.specs.Arguments.{fragment_arguments, shrink_argument}
use Rattle.dip_rule.specs.Stated.{StatedRule, rule_of, stated_rule}
use Rattle.tl_rules.specs.Refusals.{only, with_arguments, with_port}
use Rattle.tl_rules.specs.Adapters.{width_argument, with_beat, buffer_down, buffer_up, width_down, width_up}
use Rattle.tl_rules.specs.Fragments.{cut_port, widened_port, fragmenter_down, fragmenter_up}
use Rattle.tl_rules.specs.Shrinks.{shrunk_port, shrinker_down, shrinker_up}
use Rattle.tl_rules.specs.Crossbars.{are_usable, input_ranges, joined_masters, xbar_down, xbar_up}
use Rattle.rule_laws.specs.RuleRefusals.{AreSideOf, AreUnusable, EachRefusesArgumentsOrPorts, EachRefusesOnlyArguments, IsSeenTogether, RefusesArguments, RefusesArgumentsOrPorts, RefusesOnlyArguments}

-- a refusal on the way up is one of arguments, so what is taken down is taken up
refuses_up : (rule : StatedRule)
    → ((args : List ℕ) (outs : List UpPort) (number : ℕ) → AreSideOf rule.template outs → rule.up args outs ≡ Err number → (number ≡ 1) × RefusesArguments rule args)
    → RefusesOnlyArguments rule
refuses_up rule refused = record { refused = refused; taken = taken }
  where
    taken : (args : List ℕ) (ins : List DownPort) (below : DownPort) (outs : List UpPort) → rule.down args ins ≡ Ok below → AreSideOf rule.template outs → IsOk (rule.up args outs)
    taken args ins below outs d h = at (rule.up args outs) refl
      where
        at : (answer : Result UpPort ℕ) → rule.up args outs ≡ answer → IsOk answer
        at (Ok above) e = refl
        at (Err number) e = let r = (refused args outs number h e).1.down ins in absurd cc

-- ---- adapters

one_port : {P : Type 0} (template : Template) (ports : List P) → is_nexus template ≡ false → AreSideOf template ports → length ports ≡ 1
one_port template ports single h = subst (λ nexus. IsSeenTogether nexus (length ports)) single h

-- a rule that tests its arguments first and then sees one port
module _ {A : Type 0} (rule : StatedRule) (taking : List ℕ → Option A) (single : is_nexus rule.template ≡ false) (shows_down : A → DownPort → Result DownPort ℕ) (shows_up : A → UpPort → UpPort)
    (down_is : (args : List ℕ) (ins : List DownPort) → rule.down args ins ≡ with_arguments (taking args) (λ a. with_port (only ins) (shows_down a)))
    (up_is : (args : List ℕ) (outs : List UpPort) → rule.up args outs ≡ with_arguments (taking args) (λ a. with_port (only outs) (λ port. Ok (shows_up a port)))) where
  refuses_arguments : (args : List ℕ) → taking args ≡ None → RefusesArguments rule args
  refuses_arguments args none = record {
    down = λ ins. down_is args ins ∙ ap (λ o. with_arguments o (λ a. with_port (only ins) (shows_down a))) none;
    up = λ outs. up_is args outs ∙ ap (λ o. with_arguments o (λ a. with_port (only outs) (λ port. Ok (shows_up a port)))) none;
  }

  shown : (a : A) (outs : List UpPort) (number : ℕ) → length outs ≡ 1 → with_port (only outs) (λ port. Ok (shows_up a port)) ≡ Err number → ⊥
  shown a [] number one e = absurd (omega (arith, one))
  shown a (port ∷ []) number one e = absurd cc
  shown a (port ∷ other ∷ more) number one e = absurd (omega (arith, one))

  adapter_up : RefusesOnlyArguments rule
  adapter_up = refuses_up rule refused
    where
      refused : (args : List ℕ) (outs : List UpPort) (number : ℕ) → AreSideOf rule.template outs → rule.up args outs ≡ Err number → (number ≡ 1) × RefusesArguments rule args
      refused args outs number h e = at (taking args) refl (sym (up_is args outs) ∙ e)
        where
          at : (o : Option A) → taking args ≡ o → with_arguments o (λ a. with_port (only outs) (λ port. Ok (shows_up a port))) ≡ Err number → (number ≡ 1) × RefusesArguments rule args
          at None q e = let n : number ≡ 1 = cc in (n, refuses_arguments args q)
          at (Some a) q e = absurd (shown a outs number (one_port rule.template outs single h) e)

  adapter_down : ((a : A) (port : DownPort) (number : ℕ) → shows_down a port ≡ Err number → (number ≡ 2) × AreUnusable rule.template (port ∷ [])) → RefusesArgumentsOrPorts rule
  adapter_down unusable = record { refused = refused }
    where
      seen : (a : A) (ins : List DownPort) (number : ℕ) → length ins ≡ 1 → with_port (only ins) (shows_down a) ≡ Err number → (number ≡ 2) × AreUnusable rule.template ins
      seen a [] number one e = absurd (omega (arith, one))
      seen a (port ∷ []) number one e = unusable a port number e
      seen a (port ∷ other ∷ more) number one e = absurd (omega (arith, one))

      refused : (args : List ℕ) (ins : List DownPort) (number : ℕ) → AreSideOf rule.template ins → rule.down args ins ≡ Err number
          → ((number ≡ 1) × RefusesArguments rule args) ⊎ ((number ≡ 2) × AreUnusable rule.template ins)
      refused args ins number h e = at (taking args) refl (sym (down_is args ins) ∙ e)
        where
          at : (o : Option A) → taking args ≡ o → with_arguments o (λ a. with_port (only ins) (shows_down a)) ≡ Err number
              → ((number ≡ 1) × RefusesArguments rule args) ⊎ ((number ≡ 2) × AreUnusable rule.template ins)
          at None q e = let n : number ≡ 1 = cc in inl (n, refuses_arguments args q)
          at (Some a) q e = inr (seen a ins number (one_port rule.template ins single h) e)

never_refuses : {P Q : Type 0} (port : P) (number : ℕ) → ◌≡◌ {A = Result P ℕ} (Ok port) (Err number) → Q
never_refuses port number e = absurd cc

-- a buffer takes no arguments
no_arguments : List ℕ → Option ℕ
no_arguments [] = Some 0
no_arguments (arg ∷ args) = None

module _ (kind : List ℕ) where
  abbrev buffer : StatedRule
  buffer = stated_rule kind Buffer buffer_down buffer_up

  buffer_down_is : (args : List ℕ) (ins : List DownPort) → buffer_down args ins ≡ with_arguments (no_arguments args) (λ a. with_port (only ins) (λ port. Ok port))
  unfolding no_arguments
  buffer_down_is [] ins = refl
  buffer_down_is (arg ∷ args) ins = refl

  buffer_up_is : (args : List ℕ) (outs : List UpPort) → buffer_up args outs ≡ with_arguments (no_arguments args) (λ a. with_port (only outs) (λ port. Ok port))
  unfolding no_arguments
  buffer_up_is [] outs = refl
  buffer_up_is (arg ∷ args) outs = refl

  buffer_refuses_up : RefusesOnlyArguments buffer
  buffer_refuses_up = adapter_up buffer no_arguments refl (λ a port. Ok port) (λ a port. port) buffer_down_is buffer_up_is

  buffer_refuses_down : RefusesArgumentsOrPorts buffer
  buffer_refuses_down =
      adapter_down buffer no_arguments refl (λ a port. Ok port) (λ a port. port) buffer_down_is buffer_up_is (λ a port number e. never_refuses port number e)

  abbrev width : StatedRule
  width = stated_rule kind Width width_down width_up

  width_refuses_up : RefusesOnlyArguments width
  width_refuses_up = adapter_up width width_argument refl (λ a port. Ok port) with_beat (λ args ins. refl) (λ args outs. refl)

  width_refuses_down : RefusesArgumentsOrPorts width
  width_refuses_down = adapter_down width width_argument refl (λ a port. Ok port) with_beat (λ args ins. refl) (λ args outs. refl) (λ a port number e. never_refuses port number e)

  abbrev fragmenter : StatedRule
  fragmenter = stated_rule kind Fragmenter fragmenter_down fragmenter_up

  abbrev cut_down : Fragments → DownPort → Result DownPort ℕ
  cut_down fragments port = Ok (cut_port fragments.piece port)

  fragmenter_refuses_up : RefusesOnlyArguments fragmenter
  fragmenter_refuses_up = adapter_up fragmenter fragment_arguments refl cut_down widened_port (λ args ins. refl) (λ args outs. refl)

  fragmenter_refuses_down : RefusesArgumentsOrPorts fragmenter
  fragmenter_refuses_down = adapter_down fragmenter fragment_arguments refl cut_down widened_port (λ args ins. refl) (λ args outs. refl)
      (λ fragments port number e. never_refuses (cut_port fragments.piece port) number e)

  abbrev shrinker : StatedRule
  shrinker = stated_rule kind Shrinker shrinker_down shrinker_up

  abbrev shrunk_down : ℕ → DownPort → Result DownPort ℕ
  shrunk_down ids port = shrunk_port ids port.masters

  shrinker_refuses_up : RefusesOnlyArguments shrinker
  shrinker_refuses_up = adapter_up shrinker shrink_argument refl shrunk_down (λ ids port. port) (λ args ins. refl) (λ args outs. refl)

  shrinker_refuses_down : RefusesArgumentsOrPorts shrinker
  shrinker_refuses_down = adapter_down shrinker shrink_argument refl shrunk_down (λ ids port. port) (λ args ins. refl) (λ args outs. refl) unusable
    where
      at : (ids : ℕ) (port : DownPort) (number : ℕ) (masters : _) → port.masters ≡ masters → shrunk_port ids masters ≡ Err number → (number ≡ 2) × AreUnusable Shrinker (port ∷ [])
      at ids port number [] q e = let n : number ≡ 2 = cc in (n, (port, refl, q))
      at ids port number (m ∷ masters) q e = absurd cc

      unusable : (ids : ℕ) (port : DownPort) (number : ℕ) → shrunk_port ids port.masters ≡ Err number → (number ≡ 2) × AreUnusable Shrinker (port ∷ [])
      unusable ids port number e = at ids port number port.masters refl e

  -- ---- crossbars

  abbrev xbar : StatedRule
  xbar = stated_rule kind Xbar xbar_down xbar_up

  xbar_refuses_up : RefusesOnlyArguments xbar
  xbar_refuses_up = refuses_up xbar refused
    where
      refused : (args : List ℕ) (outs : List UpPort) (number : ℕ) → 1 ≤ length outs → xbar_up args outs ≡ Err number → (number ≡ 1) × RefusesArguments xbar args
      refused [] [] number h e = absurd (omega arith)
      refused [] (first ∷ rest) number h e = absurd cc
      refused (arg ∷ args) outs number h e = let n : number ≡ 1 = cc in (n, record { down = λ ins. refl; up = λ outs. refl })

  xbar_refuses_down : RefusesArgumentsOrPorts xbar
  xbar_refuses_down = record { refused = refused }
    where
      at : (usable : Bool) (port : DownPort) (number : ℕ) → cond usable (Ok port) (Err 2) ≡ Err number → (number ≡ 2) × (usable ≡ false)
      at true port number e = absurd cc
      at false port number e = let n : number ≡ 2 = cc in (n, refl)

      refused : (args : List ℕ) (ins : List DownPort) (number : ℕ) → 1 ≤ length ins → xbar_down args ins ≡ Err number
          → ((number ≡ 1) × RefusesArguments xbar args) ⊎ ((number ≡ 2) × (are_usable ins ≡ false))
      refused [] ins number h e = inr (at (are_usable ins) (record { masters = joined_masters ins (input_ranges ins) }) number e)
      refused (arg ∷ args) ins number h e = let n : number ≡ 1 = cc in inl (n, record { down = λ ins. refl; up = λ outs. refl })

-- ---- all standard rules

pub five : (P : StatedRule → Type 0) (a b c d e : StatedRule) → P a → P b → P c → P d → P e → All P (a ∷ b ∷ c ∷ d ∷ e ∷ [])
five P a b c d e p q r s t =
    All-cons P a (b ∷ c ∷ d ∷ e ∷ []) p (All-cons P b (c ∷ d ∷ e ∷ []) q (All-cons P c (d ∷ e ∷ []) r (All-cons P d (e ∷ []) s (All-cons P e [] t (All-nil P)))))

pub each_refuses_up : EachRefusesOnlyArguments
each_refuses_up = five RefusesOnlyArguments _ _ _ _ _ (buffer_refuses_up _) (width_refuses_up _) (fragmenter_refuses_up _) (shrinker_refuses_up _) (xbar_refuses_up _)

pub each_refuses_down : EachRefusesArgumentsOrPorts
each_refuses_down = five RefusesArgumentsOrPorts _ _ _ _ _ (buffer_refuses_down _) (width_refuses_down _) (fragmenter_refuses_down _) (shrinker_refuses_down _) (xbar_refuses_down _)

-- what holds of each rule holds of that of a kind
pub at_rule : (P : StatedRule → Type 0) (rules : List StatedRule) (kind : List ℕ) (rule : StatedRule) → All P rules → rule_of rules kind ≡ Some rule → P rule
at_rule P [] kind rule h e = absurd cc
at_rule P (r ∷ rules) kind rule h e = at (bytes_eq r.kind kind) e (at_rule P rules kind rule (All-tail P r rules h))
  where
    at : (b : Bool) → cond b (Some r) (rule_of rules kind) ≡ Some rule → (rule_of rules kind ≡ Some rule → P rule) → P rule
    at true e f = let same : r ≡ rule = cc in subst P same (All-head P r rules h)
    at false e f = f e
