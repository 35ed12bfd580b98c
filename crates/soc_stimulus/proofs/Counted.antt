-- What holds of all settings that a tree may state holds of a stimulus's; so there is one for each sink port.
use Rattle.std.proofs.Common.{ℕ, ◌≡◌, List, [], length, Option, Some, None, refl, subst}
use Rattle.std.specs.Prelude.{codes}
use Rattle.std.specs.Option.{option_and_then, option_map}
use Rattle.std.proofs.lemmas.List.FromFn.{length-map-range_with_len}
use Rattle.toml.specs.Data.{Members}
use Rattle.toml_shape.specs.Shapes.{number_under}
use Rattle.sim_ports.specs.declared.stimulus.Setting.{Setting}
use Rattle.sim_ports.specs.declared.stimulus.Stall.{Stall}
use Rattle.sim_ports.specs.declared.stimulus.StimRequest.{StimRequest}
use Rattle.tl_edge.specs.declared.plan.Plan.{Plan}
use Rattle.soc_stimulus.specs.declared.devices.PlacedDevice.{PlacedDevice}
use Rattle.soc_stimulus.specs.declared.read.Stimulus.{Stimulus}
use Rattle.soc_stimulus.specs.Entries.{devices_in}
use Rattle.soc_stimulus.specs.Limits.{most_cycles}
use Rattle.soc_stimulus.specs.Reading.{parts_of, stated_requests, stated_settings, stated_stalls, stated_stimulus, stimulus_of, stimulus_tree}
use Rattle.soc_stimulus.specs.Settings.{devices_from, setting_for, settings_of}

-- the requests, the stalls and the settings of a stimulus
abbrev Parts : Type 0
Parts = List StimRequest × List Stall × List Setting

module _ (P : List Setting → Type 0) where
  of_devices : (n : ℕ) (devices : Option (List PlacedDevice)) (settings : List Setting)
      → ((ds : List PlacedDevice) → devices ≡ Some ds → P (settings_of ds n))
      → option_map (λ ds. settings_of ds n) devices ≡ Some settings → P settings
  of_devices n None settings h e = absurd (cc)
  of_devices n (Some ds) settings h e =
      let same : settings_of ds n ≡ settings = cc in
      subst P same (h ds refl)

  of_parts : (r : Option (List StimRequest)) (s : Option (List Stall)) (t : Option (List Setting)) (parts : Parts)
      → ((settings : List Setting) → t ≡ Some settings → P settings)
      → option_and_then (λ requests. option_and_then (λ stalls. option_map (λ settings. (requests, stalls, settings)) t) s) r ≡ Some parts
      → P parts.2
  of_parts None s t parts h e = absurd (cc)
  of_parts (Some x) None t parts h e = absurd (cc)
  of_parts (Some x) (Some y) None parts h e = absurd (cc)
  of_parts (Some x) (Some y) (Some z) parts h e =
      let same : (x, y, z) ≡ parts = cc in
      subst (λ (p : Parts). P p.2) same (h z refl)

  of_stimulus : (c : Option ℕ) (p : Option Parts) (stimulus : Stimulus) → ((parts : Parts) → p ≡ Some parts → P parts.2)
      → option_and_then (λ cycles. option_map (λ (parts : Parts). record { cycles = cycles; requests = parts.0; stalls = parts.1; devices = parts.2 }) p) c ≡ Some stimulus
      → P stimulus.devices
  of_stimulus None p stimulus h e = absurd (cc)
  of_stimulus (Some cycles) None stimulus h e = absurd (cc)
  of_stimulus (Some cycles) (Some parts) stimulus h e =
      let same : record { cycles = cycles; requests = parts.0; stalls = parts.1; devices = parts.2 } ≡ stimulus = cc in
      subst (λ (x : Stimulus). P x.devices) same (h parts refl)

  -- what holds of the settings of whatever devices the tables of a tree name holds of a stimulus's
  pub of_tree : (names : List (List ℕ)) (plan : Plan) (tree : Option Members) (stimulus : Stimulus)
      → ((ms : Members) (ds : List PlacedDevice) → tree ≡ Some ms → devices_from names plan.sinks [] (devices_in ms) ≡ Some ds → P (settings_of ds (length plan.sinks)))
      → option_and_then (stimulus_of names plan) tree ≡ Some stimulus → P stimulus.devices
  of_tree names plan None stimulus h e = absurd (cc)
  of_tree names plan (Some ms) stimulus h e =
      of_stimulus (number_under (codes "cycles") 0 most_cycles ms) (parts_of names plan ms) stimulus
      (λ parts p. of_parts (stated_requests names plan ms) (stated_stalls names plan ms) (stated_settings names plan ms) parts
      (λ settings s. of_devices (length plan.sinks) (devices_from names plan.sinks [] (devices_in ms)) settings (λ ds d. h ms ds refl d) s) p) e

pub counted : (names : List (List ℕ)) (plan : Plan) (bytes : List ℕ) (stimulus : Stimulus) → stated_stimulus names plan bytes ≡ Some stimulus
    → length stimulus.devices ≡ length plan.sinks
counted names plan bytes stimulus e =
    of_tree (λ settings. length settings ≡ length plan.sinks) names plan (stimulus_tree bytes) stimulus
    (λ ms ds t d. length-map-range_with_len (setting_for ds) 0 (length plan.sinks)) e
