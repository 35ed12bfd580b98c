-- What a text says, or the place at which it is refused.
use Rattle.std.specs.Prelude.{◌≡◌, ℕ, List, [], ◌∷◌, length, cond, Option, Some, None, Result, Ok, Err}
use Rattle.net_cells.specs.declared.netlist.Netlist.{Netlist}
use Rattle.ver_text.specs.declared.part.Part.{Part}
use Rattle.ver_text.specs.declared.part.Cursor.{Cursor}
use Rattle.ver_text.specs.declared.progress.Progress.{Progress}
use Rattle.ver_text.specs.declared.fault.TextFault.{TextFault}
use Rattle.ver_text.specs.declared.fault.TextFault.TheVariants.{NotText, Memory}
use Rattle.ver_text.specs.Grammar.{start}
use Rattle.ver_text.specs.Tokens.{tokens_from, refused}
use Rattle.ver_text.specs.Parts.{ends, parts, at_start}
use Rattle.ver_text.specs.Due.{due, at_first}

-- What parts say behind others that said this, or the place of the first that isn't due.
abbrev pub judged : List ℕ → Progress → List Part → Result Progress ℕ
judged text p [] = Ok p
judged text p (part ∷ more) =
    elim (due text p part) as
    (λ _. Result Progress ℕ) [ None ↦ Err part.head.start | Some next ↦ judged text next more ]

-- ---- the whole text

-- the netlist of what is known, where the module has its name
abbrev pub named_netlist : Option (List ℕ) → Progress → Result Netlist ℕ
named_netlist None p = Err 0
named_netlist (Some name) p =
    Ok (record { name = name; inputs = p.inputs; regs = p.regs; cells = p.cells; outputs = p.outputs })

-- the netlist of what all parts said; a text of the syntax has a name
abbrev pub netlist_of : Result Progress ℕ → Result Netlist ℕ
netlist_of (Err place) = Err place
netlist_of (Ok p) = named_netlist p.name p

-- the netlist of a text's parts, or the place of the first that isn't due
unfoldable pub parts_say : List ℕ → Result Netlist ℕ
parts_say text = netlist_of (judged text at_first (parts at_start (tokens_from text 0)))

-- a refusal by the syntax comes before what the parts say
abbrev pub unless_refused : {A : Type 0} → Option ℕ → Result A ℕ → Result A ℕ
unless_refused (Some place) say = Err place
unless_refused None say = say

-- The netlist that a text spells, or the place at which it is refused: by its syntax, or else by its parts.
unfoldable pub read_text : List ℕ → Result Netlist ℕ
read_text text = unless_refused (refused start (tokens_from text 0) (length text)) (parts_say text)

-- A fault says the place at which something is refused; or it is want of memory.
abbrev pub Faults : {A : Type 0} → Result A ℕ → TextFault → Type 0
Faults said (NotText place) = said ≡ Err place
Faults said Memory = Unit {0}

-- A call's outcome is what is said, unless memory is wanting.
abbrev pub Gives : {A : Type 0} → Result A ℕ → Result A TextFault → Type 0
Gives said (Ok a) = said ≡ Ok a
Gives said (Err fault) = Faults said fault

-- What a text says from a place on, behind what was read and said before; only what isn't public cites it.
abbrev pub said_from : List ℕ → Cursor → Progress → ℕ → Result Progress ℕ
said_from text c p at =
    unless_refused (refused c.state (tokens_from text at) (length text)) (judged text p (parts c (tokens_from text at)))

-- The same behind a token that may have ended a part, which is due then; only what isn't public cites it.
abbrev pub part_said : List ℕ → Cursor → Progress → ℕ → Result Progress ℕ
part_said text c p at =
    unless_refused (refused c.state (tokens_from text at) (length text))
    (judged text p (cond (ends c.state) (c.part ∷ parts c (tokens_from text at)) (parts c (tokens_from text at))))
