-- What a standard rule refuses, asked about as many ports as its nodes have on a side.
use Rattle.std.specs.Prelude.{ℕ, ◌≡◌, ◌≤◌, ◌⊎◌, Bool, true, false, List, [], ◌∷◌, length, All, Ok, Err, IsOk}
use Rattle.tl_params.specs.Operations.{is_nexus}
use Rattle.tl_params.specs.declared.ops.Template.{Template}
use Rattle.tl_params.specs.declared.ops.Template.TheVariants.{Buffer, Width, Fragmenter, Shrinker, Xbar}
use Rattle.tl_params.specs.declared.ports.DownPort.{DownPort}
use Rattle.tl_params.specs.declared.ports.UpPort.{UpPort}
use Rattle.dip_rule.specs.Stated.{StatedRule}
use Rattle.tl_rules.specs.Crossbars.{are_usable}
use Rattle.tl_rules.specs.Standard.{standard}

-- a nexus sees all ports of a side together, at least one; another node sees one port at a time
abbrev pub IsSeenTogether : Bool → ℕ → Type 0
IsSeenTogether true count = 1 ≤ count
IsSeenTogether false count = count ≡ 1

-- as many ports as the rule of a template is asked about at once
abbrev pub AreSideOf : {P : Type 0} → Template → List P → Type 0
AreSideOf template ports = IsSeenTogether (is_nexus template) (length ports)

-- it refuses these arguments with 1 both ways, whatever the ports
pub record RefusesArguments (rule : StatedRule) (args : List ℕ) : Type 0 where
  pub down : (ins : List DownPort) → rule.down args ins ≡ Err 1
  pub up : (outs : List UpPort) → rule.up args outs ≡ Err 1

-- ---- on the way up

-- it refuses nothing but arguments, so what it takes on the way down it takes on the way up
pub record RefusesOnlyArguments (rule : StatedRule) : Type 0 where
  pub refused : (args : List ℕ) (outs : List UpPort) (number : ℕ) → AreSideOf rule.template outs
      → rule.up args outs ≡ Err number → (number ≡ 1) × RefusesArguments rule args
  pub taken : (args : List ℕ) (ins : List DownPort) (below : DownPort) (outs : List UpPort)
      → rule.down args ins ≡ Ok below → AreSideOf rule.template outs → IsOk (rule.up args outs)

-- so does each standard rule
abbrev pub EachRefusesOnlyArguments : Type 0
EachRefusesOnlyArguments = All RefusesOnlyArguments standard

-- ---- on the way down

-- ports that what is built from a template can't use: a shrinker's without masters, and a crossbar's inputs by their
-- number and their ids
abbrev pub AreUnusable : Template → List DownPort → Type 0
AreUnusable Buffer ins = ⊥
AreUnusable Width ins = ⊥
AreUnusable Fragmenter ins = ⊥
AreUnusable Shrinker ins = (port : DownPort) × (ins ≡ port ∷ []) × (port.masters ≡ [])
AreUnusable Xbar ins = are_usable ins ≡ false

-- it refuses nothing but arguments, and with 2 ports that it can't use
pub record RefusesArgumentsOrPorts (rule : StatedRule) : Type 0 where
  pub refused : (args : List ℕ) (ins : List DownPort) (number : ℕ) → AreSideOf rule.template ins
      → rule.down args ins ≡ Err number
      → ((number ≡ 1) × RefusesArguments rule args) ⊎ ((number ≡ 2) × AreUnusable rule.template ins)

-- so does each standard rule
abbrev pub EachRefusesArgumentsOrPorts : Type 0
EachRefusesArgumentsOrPorts = All RefusesArgumentsOrPorts standard
