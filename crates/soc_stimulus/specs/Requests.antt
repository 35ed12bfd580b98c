-- The requests of a stimulus file, and the rules 4 to 9 of each.
use Rattle.std.specs.Prelude.{ℕ, ◌==◌, ◌%◌, ◌+◌, ◌&&◌, ◌++◌, List, [], ◌∷◌, codes, length, Bool, false, not, cond}
use Rattle.std.specs.Prelude.{Option, Some, None, is_none, unwrap_or, slice_get}
use Rattle.std.specs.Option.{option_and_then, option_map, option_map_or}
use Rattle.std.specs.List.{find}
use Rattle.toml.specs.Data.{Data, table, Items, no_items, item, Members}
use Rattle.dip_lists.specs.First.{Check, check}
use Rattle.dip_sets.specs.Ids.{has_id}
use Rattle.dip_sets.specs.SizeRanges.{has_size}
use Rattle.tl_params.specs.declared.ports.Master.{Master}
use Rattle.tl_params.specs.declared.ports.Slave.{Slave}
use Rattle.tl_params.specs.declared.ports.DownPort.{DownPort}
use Rattle.tl_params.specs.declared.ports.UpPort.{UpPort}
use Rattle.tl_params.specs.Operations.{sizes_of}
use Rattle.tl_params.specs.Owners.{owner}
use Rattle.tl_edge.specs.declared.message.Request.{Request}
use Rattle.tl_edge.specs.declared.plan.PlanPort.{PlanPort}
use Rattle.tl_edge.specs.Legal.{IsLegal}
use Rattle.tl_edge.specs.Messages.{has_param, has_data, has_flags, bytes_of}
use Rattle.sim_ports.specs.declared.stimulus.StimRequest.{StimRequest}
use Rattle.toml_shape.specs.Shapes.{text_under}
use Rattle.soc_stimulus.specs.declared.limits.LimitedRequest.{LimitedRequest}
use Rattle.soc_stimulus.specs.Loads.{data_bytes, mask_flags}
use Rattle.soc_stimulus.specs.Ports.{named_port}
use Rattle.soc_stimulus.specs.Stated.{numbers_in}

-- ---- what a table asks for

-- the text under a key, none of it where there is no text
abbrev pub text_there : List ℕ → Members → List ℕ
text_there key ms = unwrap_or (text_under key ms) []

-- the message of a request with these numbers
abbrev pub message_of : Members → LimitedRequest → Request
message_of ms numbers = record {
  op = numbers.op;
  param = numbers.param;
  size = numbers.size;
  source = numbers.source;
  address = numbers.address;
  mask = mask_flags (text_there (codes "mask") ms);
  payload = data_bytes (text_there (codes "data") ms);
}

-- such a request at the source port with a number
abbrev pub asked_at : Members → LimitedRequest → ℕ → StimRequest
asked_at ms numbers port = record { port = port; at = numbers.at; request = message_of ms numbers }

-- such a request at the source port that its table names
abbrev pub asked_with : List (List ℕ) → List PlanPort → Members → LimitedRequest → Option StimRequest
asked_with names sources ms numbers = option_map (asked_at ms numbers) (named_port names sources numbers.port ms)

-- the request of a table, where its numbers are within the limits and it names a source port
abbrev pub asked_in : List (List ℕ) → List PlanPort → Members → Option StimRequest
asked_in names sources ms =
    option_and_then (asked_with names sources ms) (numbers_in ms)

-- the same of a value
abbrev pub asked_request : List (List ℕ) → List PlanPort → Data → Option StimRequest
asked_request names sources (table ms) = asked_in names sources ms
asked_request names sources d = None

-- ---- what its edge makes of it

-- a param that the operation has, and as many flags and bytes as it needs
abbrev pub has_whole_load : Request → Bool
has_whole_load request =
    has_param request.op request.param
    && length request.mask == cond (has_flags request.op) (bytes_of request.size) 0
    && length request.payload == cond (has_data request.op) (bytes_of request.size) 0

-- the address is a multiple of the number of bytes
abbrev pub is_aligned_request : Request → Bool
is_aligned_request request = request.address % bytes_of request.size == 0

-- the first master in whose range an id is
abbrev pub master_with : List Master → ℕ → Option Master
master_with masters id = find (λ (m : Master). has_id m.ids id) masters

-- the slave that owns an address
abbrev pub owning_slave : List Slave → ℕ → Option Slave
owning_slave slaves address = option_and_then (slice_get slaves) (owner slaves address)

-- a slave supports the operation at the size
abbrev pub supports_request : Request → Slave → Bool
supports_request request slave = has_size (sizes_of slave.supports request.op) (bytes_of request.size)

-- the slave that owns the address is there, and supports the operation at the size
abbrev pub is_supported : List Slave → Request → Bool
is_supported slaves request = option_map_or (supports_request request) (owning_slave slaves request.address) false

-- a master emits the operation at the size
abbrev pub emits_request : Request → Master → Bool
emits_request request master = has_size (sizes_of master.emits request.op) (bytes_of request.size)

-- the master with the id is there, and emits the operation at the size
abbrev pub is_emitted : List Master → Request → Bool
is_emitted masters request = option_map_or (emits_request request) (master_with masters request.source) false

-- ---- rules

-- an entry, where something fails there
abbrev pub at_entry : ℕ → Bool → List ℕ
at_entry entry fails = cond fails (entry ∷ []) []

-- the rules 5 to 9 of a request on an edge with these masters and slaves: its param, data and mask; that it is aligned;
-- its source id; the slave that owns its address; and the master with its id
abbrev pub edge_rules : List Master → List Slave → ℕ → Request → List Check
edge_rules masters slaves entry request =
    check 5 (at_entry entry (not (has_whole_load request)))
    ∷ check 6 (at_entry entry (not (is_aligned_request request)))
    ∷ check 7 (at_entry entry (is_none (master_with masters request.source)))
    ∷ check 8 (at_entry entry (not (is_supported slaves request)))
    ∷ check 9 (at_entry entry (not (is_emitted masters request)))
    ∷ []

-- the edge of a source port, with what goes down it
abbrev pub masters_at : List PlanPort → List DownPort → ℕ → List Master
masters_at sources downs port =
    option_map_or (λ (down : DownPort). down.masters)
    (option_and_then (λ (at : PlanPort). slice_get downs at.edge) (slice_get sources port)) []

-- and with what goes up it
abbrev pub slaves_at : List PlanPort → List UpPort → ℕ → List Slave
slaves_at sources ups port =
    option_map_or (λ (up : UpPort). up.slaves)
    (option_and_then (λ (at : PlanPort). slice_get ups at.edge) (slice_get sources port)) []

-- a request is legal by these masters and slaves of the edge of its port
abbrev pub IsLegalThere : List PlanPort → List DownPort → List UpPort → StimRequest → Type 0
IsLegalThere sources downs ups asked =
    IsLegal (masters_at sources downs asked.port) (slaves_at sources ups asked.port) asked.request

-- the rules of a request that its table asks for at a source port; where it names none, rule 4 fails
abbrev pub rules_of_asked : List PlanPort → List DownPort → List UpPort → ℕ → Option StimRequest → List Check
rules_of_asked sources downs ups entry None = check 4 (entry ∷ []) ∷ []
rules_of_asked sources downs ups entry (Some asked) =
    edge_rules (masters_at sources downs asked.port) (slaves_at sources ups asked.port) entry asked.request

-- the rules 4 to 9 of the table of a request
abbrev pub request_rules : List (List ℕ) → List PlanPort → List DownPort → List UpPort → ℕ → Data → List Check
request_rules names sources downs ups entry d = rules_of_asked sources downs ups entry (asked_request names sources d)

-- the rules of some tables, one table after another, of which the first one has this entry
abbrev pub rules_of_each : (ℕ → Data → List Check) → ℕ → Items → List Check
rules_of_each rules entry no_items = []
rules_of_each rules entry (item d ds) = rules entry d ++ rules_of_each rules (entry + 1) ds
