use Rattle.std.proofs.Common.{◌≡◌, ◌+◌, ◌++◌, drop, All}
use Rattle.std.specs.Option.{option_map}
use Rattle.toml.specs.View.{items_view}
use Rattle.dip_lists.specs.First.{first_failing}
use Rattle.toml_shape.specs.Entries.{all_of}
use Rattle.soc_stimulus.specs.Requests as spec
use Rattle.soc_stimulus.proofs.requests.legal_requests.Given as goal

abbrev pub invariant-loop-place : goal.invariant-loop-place
invariant-loop-place l =
    record {
      stated : option_map (λ rest. l.stated ++ rest) (all_of (spec.asked_request l.names l.sources) (items_view (drop l.place l.tables)))
          ≡ all_of (spec.asked_request l.names l.sources) (items_view l.tables);
      legal : All (spec.IsLegalThere l.sources l.downs l.ups) l.stated;
      passes : first_failing (spec.rules_of_each (spec.request_rules l.names l.sources l.downs l.ups) (1 + l.place) (items_view (drop l.place l.tables)))
          ≡ first_failing (spec.rules_of_each (spec.request_rules l.names l.sources l.downs l.ups) 1 (items_view l.tables));
    }
