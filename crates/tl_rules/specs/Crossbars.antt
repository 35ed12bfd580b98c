-- What crossbars state. A crossbar shows all masters to each output, with ids that tell the inputs apart, and all
-- slaves to each input.
use Rattle.std.specs.Prelude.{ℕ, ◌+◌, List, [], ◌∷◌, map, length, Bool, ◌&&◌, nat_lt, nat_le, cond, Result, Ok, Err}
use Rattle.std.specs.List.{list_all, flat_map}
use Rattle.dip_sets.specs.declared.ids.IdRange.{IdRange}
use Rattle.dip_sets.specs.Assignments.{assigned}
use Rattle.dip_rule.specs.Stated.{StatedAnswer}
use Rattle.tl_params.specs.Owners.{largest_end}
use Rattle.tl_params.specs.declared.ports.Master.{Master}
use Rattle.tl_params.specs.declared.ports.DownPort.{DownPort}
use Rattle.tl_params.specs.declared.ports.UpPort.{UpPort}

-- ---- down

-- how many ids an input needs: its ids are below this number
abbrev pub id_count : DownPort → ℕ
id_count port = largest_end port.masters

-- a crossbar can give an input so many ids
abbrev pub is_id_count : ℕ → Bool
is_id_count count = nat_le 1 count && nat_le count 1024

-- the master has an id
abbrev pub has_ids : Master → Bool
has_ids m = nat_lt m.ids.start m.ids.end

-- an input that a crossbar can use: it needs 1 to 1,024 ids, and each master has one
abbrev pub is_usable : DownPort → Bool
is_usable port = is_id_count (id_count port) && list_all has_ids port.masters

-- 1 to 1,024 inputs that a crossbar can use
abbrev pub are_usable : List DownPort → Bool
are_usable ins = nat_le 1 (length ins) && nat_le (length ins) 1024 && list_all is_usable ins

-- the range of ids behind the crossbar of each input
abbrev pub input_ranges : List DownPort → List IdRange
input_ranges ins = assigned (map id_count ins)

-- ids moved up
abbrev pub shifted_ids : ℕ → IdRange → IdRange
shifted_ids by ids = record { start = ids.start + by; end = ids.end + by }

-- a master with its ids moved up
abbrev pub shifted_master : ℕ → Master → Master
shifted_master by m = record { node = m.node; port = m.port; ids = shifted_ids by m.ids; emits = m.emits }

-- the masters of each input, with their ids moved to the start of the input's range
abbrev pub shifted_masters : List DownPort → List IdRange → List (List Master)
shifted_masters [] ranges = []
shifted_masters (port ∷ ports) [] = []
shifted_masters (port ∷ ports) (range ∷ ranges) =
    map (shifted_master range.start) port.masters ∷ shifted_masters ports ranges

-- those of all inputs in order
abbrev pub joined_masters : List DownPort → List IdRange → List Master
joined_masters ins ranges = flat_map (λ masters. masters) (shifted_masters ins ranges)

-- what it states down: the masters of all inputs
abbrev pub xbar_down : StatedAnswer DownPort
xbar_down [] ins =
    cond (are_usable ins) (Ok (record { masters = joined_masters ins (input_ranges ins) })) (Err 2)
xbar_down (arg ∷ args) ins = Err 1

-- ---- up

-- all slaves in order, behind a bus as wide as that of the first output
abbrev pub joined_port : List UpPort → Result UpPort ℕ
joined_port [] = Err 2
joined_port (first ∷ rest) = Ok (record { slaves = flat_map (λ port. port.slaves) (first ∷ rest); beat = first.beat })

-- what it states up: the slaves of all outputs
abbrev pub xbar_up : StatedAnswer UpPort
xbar_up [] outs = joined_port outs
xbar_up (arg ∷ args) outs = Err 1
