-- A stimulus file: the rules of its bytes in their order, and the stimulus that it states.
use Rattle.std.specs.Prelude.{ℕ, List, [], ◌∷◌, ◌++◌, length, codes, ◌&&◌, nat_le, Option, Some, None, if◌then◌else◌}
use Rattle.std.specs.Option.{option_and_then, option_map}
use Rattle.std.specs.Str.{is_utf8}
use Rattle.toml.specs.Parse.{parse_document}
use Rattle.toml.specs.Data.{Members}
use Rattle.dip_lists.specs.First.{Check, check}
use Rattle.tl_params.specs.declared.ports.DownPort.{DownPort}
use Rattle.tl_params.specs.declared.ports.UpPort.{UpPort}
use Rattle.tl_edge.specs.declared.plan.Plan.{Plan}
use Rattle.toml_shape.specs.Entries.{all_of, failing}
use Rattle.toml_shape.specs.Shapes.{number_under}
use Rattle.sim_ports.specs.declared.stimulus.Setting.{Setting}
use Rattle.sim_ports.specs.declared.stimulus.Stall.{Stall}
use Rattle.sim_ports.specs.declared.stimulus.StimRequest.{StimRequest}
use Rattle.soc_stimulus.specs.declared.passes.Pass.TheVariants.{Shape, Limits}
use Rattle.soc_stimulus.specs.declared.read.Stimulus.{Stimulus}
use Rattle.soc_stimulus.specs.Entries.{requests_in, stalls_in, devices_in, first_stall, first_device, checks_of_pass}
use Rattle.soc_stimulus.specs.Limits.{most_stimulus_bytes, most_cycles}
use Rattle.soc_stimulus.specs.Requests.{asked_request, request_rules, rules_of_each}
use Rattle.soc_stimulus.specs.Settings.{devices_from, settings_of, unnamed_devices}
use Rattle.soc_stimulus.specs.Stalls.{stall_is_unnamed, stall_of}

-- the rules 4 to 9 of the requests, entry by entry
abbrev pub rules_of_requests : List (List ℕ) → Plan → List DownPort → List UpPort → Members → List Check
rules_of_requests names plan downs ups ms =
    rules_of_each (request_rules names plan.sources downs ups) 1 (requests_in ms)

-- the entries of the stalls that name no port of a source or a sink
abbrev pub unnamed_stalls_in : List (List ℕ) → Plan → Members → List ℕ
unnamed_stalls_in names plan ms =
    failing (stall_is_unnamed names plan.sources plan.sinks) 0 (first_stall ms) (stalls_in ms)

-- the entries of the devices that name no port of a sink, or one that an earlier one names
abbrev pub unnamed_devices_in : List (List ℕ) → Plan → Members → List ℕ
unnamed_devices_in names plan ms = unnamed_devices names plan.sinks [] (first_device ms) (devices_in ms)

-- rule 4 of the stalls and the devices, which have no other
abbrev pub rules_of_others : List (List ℕ) → Plan → Members → List Check
rules_of_others names plan ms =
    check 4 (unnamed_stalls_in names plan ms) ∷ check 4 (unnamed_devices_in names plan ms) ∷ []

-- the rules 4 to 9, entry by entry
abbrev pub port_rules : List (List ℕ) → Plan → List DownPort → List UpPort → Members → List Check
port_rules names plan downs ups ms = rules_of_requests names plan downs ups ms ++ rules_of_others names plan ms

-- the rules 2 to 9 of a tree: rule 2 of each entry, rule 3 of each entry, and then the others entry by entry
abbrev pub tree_rules : List (List ℕ) → Plan → List DownPort → List UpPort → Members → List Check
tree_rules names plan downs ups ms =
    checks_of_pass Shape ms ++ checks_of_pass Limits ms ++ port_rules names plan downs ups ms

-- the tree of a text that isn't too long and that `toml` takes
abbrev pub stimulus_tree : List ℕ → Option Members
stimulus_tree bytes = if nat_le (length bytes) most_stimulus_bytes && is_utf8 bytes then parse_document bytes else None

-- the rules of a file with this tree; without one rule 1 fails
abbrev pub rules_of_tree : List (List ℕ) → Plan → List DownPort → List UpPort → Option Members → List Check
rules_of_tree names plan downs ups None = check 1 (0 ∷ []) ∷ []
rules_of_tree names plan downs ups (Some ms) = tree_rules names plan downs ups ms

-- the rules of a file, for the nodes with these names, and the plan with what goes down and up its edges
abbrev pub stimulus_rules : List (List ℕ) → Plan → List DownPort → List UpPort → List ℕ → List Check
stimulus_rules names plan downs ups bytes = rules_of_tree names plan downs ups (stimulus_tree bytes)

-- the requests that a tree states
abbrev pub stated_requests : List (List ℕ) → Plan → Members → Option (List StimRequest)
stated_requests names plan ms = all_of (asked_request names plan.sources) (requests_in ms)

-- the stalls that a tree states
abbrev pub stated_stalls : List (List ℕ) → Plan → Members → Option (List Stall)
stated_stalls names plan ms = all_of (stall_of names plan.sources plan.sinks) (stalls_in ms)

-- the settings that a tree states, one for each sink port
abbrev pub stated_settings : List (List ℕ) → Plan → Members → Option (List Setting)
stated_settings names plan ms =
    option_map (λ devices. settings_of devices (length plan.sinks)) (devices_from names plan.sinks [] (devices_in ms))

-- the requests, the stalls and the settings that a tree states
abbrev pub parts_of : List (List ℕ) → Plan → Members → Option (List StimRequest × List Stall × List Setting)
parts_of names plan ms =
    option_and_then (λ requests. option_and_then (λ stalls. option_map (λ settings. (requests, stalls, settings))
    (stated_settings names plan ms)) (stated_stalls names plan ms)) (stated_requests names plan ms)

-- the stimulus that a tree states
abbrev pub stimulus_of : List (List ℕ) → Plan → Members → Option Stimulus
stimulus_of names plan ms =
    option_and_then (λ cycles. option_map (λ parts.
    record { cycles = cycles; requests = parts.0; stalls = parts.1; devices = parts.2 })
    (parts_of names plan ms))
    (number_under (codes "cycles") 0 most_cycles ms)

-- the stimulus that a file states
abbrev pub stated_stimulus : List (List ℕ) → Plan → List ℕ → Option Stimulus
stated_stimulus names plan bytes = option_and_then (stimulus_of names plan) (stimulus_tree bytes)
