-- Which setting each sink port has: that of the device named for it, else the default one.
use Rattle.std.proofs.Common.{ℕ, zero, suc, ◌≡◌, ◌<◌, ◌==◌, ◌||◌, List, [], ◌∷◌, ◌++◌, Bool, true, false, cond, length, Option, Some, None, refl, sym, ◌∙◌, ap, subst, arith}
use Rattle.std.specs.Prelude.{slice_get}
use Rattle.std.specs.Option.{option_and_then, option_map, option_map_or, option_or}
use Rattle.std.specs.List.{find, list_any}
use Rattle.std.proofs.lemmas.Bool.Decides.{nat_tests}
use Rattle.std.proofs.lemmas.List.Folds.{find-append}
use Rattle.std.proofs.lemmas.List.FromFn.{length-map-range_with_len, get_or-map-range_with_len}
use Rattle.std.proofs.lemmas.Option.{slice_get-get_or, slice_get_within}
use Rattle.toml.specs.Data.{Data, Items, no_items, item, Members, get_item, table}
use Rattle.dip_lists.proofs.Tests.{own_number}
use Rattle.tl_edge.specs.declared.plan.PlanPort.{PlanPort}
use Rattle.sim_ports.specs.declared.stimulus.Setting.{Setting}
use Rattle.soc_stimulus.specs.declared.devices.PlacedDevice.{PlacedDevice}
use Rattle.soc_stimulus.specs.declared.limits.LimitedDevice.{LimitedDevice}
use Rattle.soc_stimulus.specs.Entries.{devices_in}
use Rattle.soc_stimulus.specs.Ports.{named_node, named_port, port_number}
use Rattle.soc_stimulus.specs.Reading.{stimulus_tree}
use Rattle.soc_stimulus.specs.Stated.{device_in}
use Rattle.soc_stimulus.specs.Settings.{default_setting, device_after, device_at, device_of, device_with, devices_from, has_device_at, setting_for, settings_of, unlike_earlier}
use Rattle.soc_stimulus.specs.SettingsLaw.{SetsPort, SettingsLaw}
use Rattle.soc_stimulus.proofs.Counted.{counted, of_tree}
use Rattle.soc_stimulus.proofs.PortsThere.{ports_law}

-- the first of some devices at a port
abbrev device_there : ℕ → List PlacedDevice → Option PlacedDevice
device_there port devices = find (λ (device : PlacedDevice). device.port == port) devices

-- where none passes a test, none is found
none_found : {X : Type 0} (test : X → Bool) (xs : List X) → list_any test xs ≡ false → find test xs ≡ None
none_found test [] e = refl
none_found test (x ∷ xs) e = step (test x) e (none_found test xs)
  where
    step : (b : Bool) → (b || list_any test xs) ≡ false → (list_any test xs ≡ false → find test xs ≡ None) → cond b (Some x) (find test xs) ≡ None
    step true e next = absurd cc
    step false e next = next e

-- what is found among earlier devices is found with one more
with_more : (port : ℕ) (earlier : List PlacedDevice) (more x : PlacedDevice) → device_there port earlier ≡ Some x → device_there port (earlier ++ more ∷ []) ≡ Some x
with_more port earlier more x e =
    find-append (λ (device : PlacedDevice). device.port == port) earlier (more ∷ [])
    ∙ ap (λ o. option_or o (device_there port (more ∷ []))) e

-- where nothing is found, the one more decides
only_more : (port : ℕ) (earlier : List PlacedDevice) (more : PlacedDevice) → device_there port earlier ≡ None → device_there port (earlier ++ more ∷ []) ≡ cond (more.port == port) (Some more) None
only_more port earlier more e =
    find-append (λ (device : PlacedDevice). device.port == port) earlier (more ∷ [])
    ∙ ap (λ o. option_or o (device_there port (more ∷ []))) e

equal : (a b : ℕ) → (a == b) ≡ true → a ≡ b
equal a b h = grind (arith, nat_tests)

module _ (names : List (List ℕ)) (sinks : List PlanPort) where
  kept : (ds : Items) (earlier devices : List PlacedDevice) (port : ℕ) (x : PlacedDevice) → devices_from names sinks earlier ds ≡ Some devices
      → device_there port earlier ≡ Some x → device_there port devices ≡ Some x
  kept no_items earlier devices port x e f =
      let same : earlier ≡ devices = cc in
      subst (λ l. device_there port l ≡ Some x) same f
  kept (item d ds) earlier devices port x e f =
      step (device_after names sinks earlier d) e (λ device later. kept ds (earlier ++ device ∷ []) devices port x later (with_more port earlier device x f))
    where
      step : (o : Option PlacedDevice) → option_and_then (λ device. devices_from names sinks (earlier ++ device ∷ []) ds) o ≡ Some devices
          → ((device : PlacedDevice) → devices_from names sinks (earlier ++ device ∷ []) ds ≡ Some devices → device_there port devices ≡ Some x) → device_there port devices ≡ Some x
      step None e next = absurd cc
      step (Some device) e next = next device e

  -- the rest of the tables, behind one that states a device
  rest_of : (ds : Items) (earlier devices : List PlacedDevice) (d : Data) (x : PlacedDevice) → devices_from names sinks earlier (item d ds) ≡ Some devices
      → device_of names sinks d ≡ Some x → (devices_from names sinks (earlier ++ x ∷ []) ds ≡ Some devices) × (device_there x.port earlier ≡ None)
  rest_of ds earlier devices d x e s =
      step (has_device_at earlier x.port) refl
      (sym (ap (λ o. option_and_then (λ device. devices_from names sinks (earlier ++ device ∷ []) ds) (option_and_then (unlike_earlier earlier) o)) s) ∙ e)
    where
      step : (b : Bool) → has_device_at earlier x.port ≡ b
          → option_and_then (λ device. devices_from names sinks (earlier ++ device ∷ []) ds) (cond (has_device_at earlier x.port) None (Some x)) ≡ Some devices
          → (devices_from names sinks (earlier ++ x ∷ []) ds ≡ Some devices) × (device_there x.port earlier ≡ None)
      step true q e =
          let z : None ≡ Some devices = sym (ap (λ b. option_and_then (λ device. devices_from names sinks (earlier ++ device ∷ []) ds) (cond b None (Some x))) q) ∙ e in
          absurd cc
      step false q e = (
        sym (ap (λ b. option_and_then (λ device. devices_from names sinks (earlier ++ device ∷ []) ds) (cond b None (Some x))) q) ∙ e,
        none_found (λ (device : PlacedDevice). device.port == x.port) earlier q,
      )

  named_there : (ds : Items) (place : ℕ) (earlier devices : List PlacedDevice) (d : Data) (x : PlacedDevice) → devices_from names sinks earlier ds ≡ Some devices
      → get_item place ds ≡ Some d → device_of names sinks d ≡ Some x → device_there x.port devices ≡ Some x
  named_there no_items zero earlier devices d x e g s = absurd cc
  named_there no_items (suc place) earlier devices d x e g s = absurd cc
  named_there (item d ds) zero earlier devices other x e g s =
      let same : other ≡ d = cc in
      let k = rest_of ds earlier devices d x e (ap (device_of names sinks) (sym same) ∙ s) in
      kept ds (earlier ++ x ∷ []) devices x.port x k.0 (only_more x.port earlier x k.1 ∙ ap (λ b. cond b (Some x) None) (own_number x.port))
  named_there (item d ds) (suc place) earlier devices other x e g s =
      step (device_after names sinks earlier d) e (λ device later. named_there ds place (earlier ++ device ∷ []) devices other x later g s)
    where
      step : (o : Option PlacedDevice) → option_and_then (λ device. devices_from names sinks (earlier ++ device ∷ []) ds) o ≡ Some devices
          → ((device : PlacedDevice) → devices_from names sinks (earlier ++ device ∷ []) ds ≡ Some devices → device_there x.port devices ≡ Some x) → device_there x.port devices ≡ Some x
      step None e next = absurd cc
      step (Some device) e next = next device e

  -- none of some tables names a port
  abbrev NoneNames : Items → ℕ → Type 0
  NoneNames ds port = (place : ℕ) (d : Data) (x : PlacedDevice) → get_item place ds ≡ Some d → device_of names sinks d ≡ Some x → x.port ≡ port → ⊥

  nobody_there : (ds : Items) (earlier devices : List PlacedDevice) (port : ℕ) → devices_from names sinks earlier ds ≡ Some devices
      → device_there port earlier ≡ None → NoneNames ds port → device_there port devices ≡ None
  nobody_there no_items earlier devices port e f h =
      let same : earlier ≡ devices = cc in
      subst (λ l. device_there port l ≡ None) same f
  nobody_there (item d ds) earlier devices port e f h =
      step (device_of names sinks d) refl
      (λ x later none. nobody_there ds (earlier ++ x ∷ []) devices port later none (λ place other y g s q. h (suc place) other y g s q))
    where
      other_port : (x : PlacedDevice) (b : Bool) → (x.port == port) ≡ b → device_of names sinks d ≡ Some x → device_there port (earlier ++ x ∷ []) ≡ None
      other_port x true q s = absurd (h 0 d x refl s (equal x.port port q))
      other_port x false q s = only_more port earlier x f ∙ ap (λ b. cond b (Some x) None) q

      step : (o : Option PlacedDevice) → device_of names sinks d ≡ o
          → ((x : PlacedDevice) → devices_from names sinks (earlier ++ x ∷ []) ds ≡ Some devices → device_there port (earlier ++ x ∷ []) ≡ None → device_there port devices ≡ None)
          → device_there port devices ≡ None
      step None s next =
          let z : None ≡ Some devices =
          sym (ap (λ o. option_and_then (λ device. devices_from names sinks (earlier ++ device ∷ []) ds) (option_and_then (unlike_earlier earlier) o)) s) ∙ e in
          absurd cc
      step (Some x) s next = next x (rest_of ds earlier devices d x e s).0 (other_port x (x.port == port) refl s)

-- the setting of a port among all
setting_at : (devices : List PlacedDevice) (count port : ℕ) → port < count → slice_get (settings_of devices count) port ≡ Some (setting_for devices port)
setting_at devices count port lt =
    let long = length-map-range_with_len (setting_for devices) 0 count in
    slice_get-get_or (settings_of devices count) port default_setting (omega (arith, long, lt))
    ∙ ap (λ s. Some s) (get_or-map-range_with_len (setting_for devices) 0 count port port default_setting lt (omega arith))

-- a device is at a sink port that is there
module _ (names : List (List ℕ)) (sinks : List PlanPort) where
  named_within : (port : ℕ) (node : Option ℕ) (number : ℕ) → option_and_then (λ n. port_number sinks n port) node ≡ Some number → number < length sinks
  named_within port None number e = absurd cc
  named_within port (Some node) number e =
      let n = ports_law.numbered sinks node port number e in
      slice_get_within sinks number n.at n.is

  with_within : (numbers : LimitedDevice) (o : Option ℕ) (x : PlacedDevice) → ((number : ℕ) → o ≡ Some number → number < length sinks)
      → option_map (device_with numbers) o ≡ Some x → x.port < length sinks
  with_within numbers None x h e = absurd cc
  with_within numbers (Some number) x h e =
      let same : device_with numbers number ≡ x = cc in
      subst (λ (y : PlacedDevice). y.port < length sinks) same (h number refl)

  in_within : (ms : Members) (o : Option LimitedDevice) (x : PlacedDevice) → option_and_then (device_at names sinks ms) o ≡ Some x → x.port < length sinks
  in_within ms None x e = absurd cc
  in_within ms (Some numbers) x e =
      with_within numbers (named_port names sinks numbers.port ms) x (λ number f. named_within numbers.port (named_node names ms) number f) e

  placed_within : (d : Data) (x : PlacedDevice) → device_of names sinks d ≡ Some x → x.port < length sinks
  placed_within (table ms) x s = in_within ms (device_in ms) x s
  placed_within d x s = absurd cc

named_setting : (names : List (List ℕ)) (sinks : List PlanPort) (tables : Items) (devices : List PlacedDevice) (port : ℕ) (setting : Setting)
    → devices_from names sinks [] tables ≡ Some devices → SetsPort names sinks tables port setting
    → slice_get (settings_of devices (length sinks)) port ≡ Some setting
named_setting names sinks tables devices port setting e sets =
    let x : PlacedDevice = record { port = port; setting = setting } in
    let there = named_there names sinks tables sets.place [] devices sets.d x e sets.is sets.states in
    setting_at devices (length sinks) port (placed_within names sinks sets.d x sets.states)
    ∙ ap (λ o. Some (option_map_or (λ (device : PlacedDevice). device.setting) o default_setting)) there

other_setting : (names : List (List ℕ)) (sinks : List PlanPort) (tables : Items) (devices : List PlacedDevice) (port : ℕ)
    → devices_from names sinks [] tables ≡ Some devices → port < length sinks → ((setting : Setting) → SetsPort names sinks tables port setting → ⊥)
    → slice_get (settings_of devices (length sinks)) port ≡ Some default_setting
other_setting names sinks tables devices port e lt none =
    let nobody =
    nobody_there names sinks tables [] devices port e refl
    (λ place d x g s q. none x.setting (record { place = place; d = d; is = g; states = s ∙ ap (λ p. Some (record { port = p; setting = x.setting })) q })) in
    setting_at devices (length sinks) port lt
    ∙ ap (λ o. Some (option_map_or (λ (device : PlacedDevice). device.setting) o default_setting)) nobody

tables_of_tree : (bytes : List ℕ) (ms other : Members) → stimulus_tree bytes ≡ Some ms → stimulus_tree bytes ≡ Some other → other ≡ ms
tables_of_tree bytes ms other e f = cc

pub settings_law : SettingsLaw
settings_law = record {
  count = counted;
  named = λ names plan bytes ms stimulus port setting t e sets.
      of_tree (λ settings. slice_get settings port ≡ Some setting) names plan (stimulus_tree bytes) stimulus
      (λ other ds u d. named_setting names plan.sinks (devices_in other) ds port setting d
      (subst (λ m. SetsPort names plan.sinks (devices_in m) port setting) (sym (tables_of_tree bytes ms other t u)) sets)) e;
  others = λ names plan bytes ms stimulus port t e lt none.
      of_tree (λ settings. slice_get settings port ≡ Some default_setting) names plan (stimulus_tree bytes) stimulus
      (λ other ds u d. other_setting names plan.sinks (devices_in other) ds port d lt
      (λ setting sets. none setting (subst (λ m. SetsPort names plan.sinks (devices_in m) port setting) (tables_of_tree bytes ms other t u) sets))) e;
}
