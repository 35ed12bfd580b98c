-- What a rule states, what it may answer, and the rule of a kind.
use Rattle.std.specs.Prelude.{◌≡◌, ℕ, ◌+◌, Bool, false, List, [], ◌∷◌, cond, Option, Some, None, Result, Ok, Err}
use Rattle.std.specs.Option.{option_map}
use Rattle.std.specs.Str.{bytes_eq}
use Rattle.tl_params.specs.Operations.{is_nexus}
use Rattle.tl_params.specs.declared.ops.Template.{Template}
use Rattle.tl_params.specs.declared.ports.DownPort.{DownPort}
use Rattle.tl_params.specs.declared.ports.UpPort.{UpPort}
use Rattle.dip_rule.specs.declared.fault.RuleFault.{RuleFault}
use Rattle.dip_rule.specs.declared.fault.RuleFault.TheVariants.{Refused, Memory}

-- a stated answer to arguments and ports: a port, or the number of a refusal
abbrev pub StatedAnswer : Type 0 → Type 0
StatedAnswer P = List ℕ → List P → Result P ℕ

-- what may be answered where this is stated: the same, or want of memory
abbrev pub Answers : {P : Type 0} → Result P ℕ → Result P RuleFault → Type 0
Answers stated (Ok port) = stated ≡ Ok port
Answers stated (Err (Refused number)) = stated ≡ Err number
Answers stated (Err Memory) = Unit {0}

-- what may be asked on all arguments and ports, and answers only what is stated
pub record IsStated {P : Type 0} (may : List ℕ → List P → Type 0)
    (gives : List ℕ → List P → Result P RuleFault → Type 0) (stated : StatedAnswer P) : Type 0 where
  pub callable : (args : List ℕ) (ports : List P) → may args ports
  pub answers : (args : List ℕ) (ports : List P) (answer : Result P RuleFault) → gives args ports answer
      → Answers (stated args ports) answer

-- the rule of a kind: what is built for it, and what it states down and up
pub record StatedRule : Type 0 where
  pub kind : List ℕ
  pub template : Template
  pub down : StatedAnswer DownPort
  pub up : StatedAnswer UpPort

-- the rule of a kind, of its parts
abbrev pub stated_rule : List ℕ → Template → StatedAnswer DownPort → StatedAnswer UpPort → StatedRule
stated_rule kind template down up = record { kind = kind; template = template; down = down; up = up }

-- the first rule of a kind
abbrev pub rule_of : List StatedRule → List ℕ → Option StatedRule
rule_of [] kind = None
rule_of (rule ∷ rules) kind = cond (bytes_eq rule.kind kind) (Some rule) (rule_of rules kind)

-- how many rules stand before it, and as many as are counted already
abbrev pub place_from : ℕ → List StatedRule → List ℕ → Option ℕ
place_from place [] kind = None
place_from place (rule ∷ rules) kind =
    cond (bytes_eq rule.kind kind) (Some place) (place_from (place + 1) rules kind)

-- the place of the first rule of a kind, counted from 0
abbrev pub entry_place : List StatedRule → List ℕ → Option ℕ
entry_place rules kind = place_from 0 rules kind

-- what a rule states down, where there is one; a kind without a rule is refused before any is asked
abbrev pub down_by : Option StatedRule → StatedAnswer DownPort
down_by None args ins = Err 0
down_by (Some rule) args ins = rule.down args ins

-- what a rule states up, where there is one
abbrev pub up_by : Option StatedRule → StatedAnswer UpPort
up_by None args outs = Err 0
up_by (Some rule) args outs = rule.up args outs

-- what is built for nodes of a kind
abbrev pub template_of : List StatedRule → List ℕ → Option Template
template_of rules kind = option_map (λ rule. rule.template) (rule_of rules kind)

-- what is built joins all in ports and all out ports of its node
abbrev pub is_nexus_template : Option Template → Bool
is_nexus_template None = false
is_nexus_template (Some template) = is_nexus template

-- so it is for the nodes of a kind, if there is one and it has a rule
abbrev pub is_nexus_kind : List StatedRule → Option (List ℕ) → Bool
is_nexus_kind rules None = false
is_nexus_kind rules (Some kind) = is_nexus_template (template_of rules kind)
