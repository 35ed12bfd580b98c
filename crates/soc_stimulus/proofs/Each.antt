-- The rules of tables, table by table, and devices in turn.
use Rattle.std.proofs.Common.{ℕ, ◌≡◌, ◌<◌, ◌+◌, List, [], ◌∷◌, ◌++◌, drop, length, get_or, Some, None, sym, ◌∙◌, ap, subst}
use Rattle.std.specs.Option.{option_and_then, option_map_or}
use Rattle.toml.specs.declared.value.Value.{Value}
use Rattle.toml.specs.Data.{Data, item}
use Rattle.toml.specs.View.{view, items_view}
use Rattle.toml.proofs.Views.{items_view-drop}
use Rattle.dip_lists.specs.First.{Check, first, first_failing}
use Rattle.dip_lists.proofs.Firsts.{passes_first}
use Rattle.dip_graph.specs.declared.fault.Fault.{Fault}
use Rattle.dip_graph.specs.Faults.{IsFaultOf}
use Rattle.dip_graph.proofs.Finding.{in_first}
use Rattle.tl_edge.specs.declared.plan.PlanPort.{PlanPort}
use Rattle.soc_stimulus.specs.declared.devices.PlacedDevice.{PlacedDevice}
use Rattle.soc_stimulus.specs.Requests.{rules_of_each}
use Rattle.soc_stimulus.specs.Settings.{device_after, devices_from, unnamed_devices}

-- the rules of the tables from a place on begin with those of the table there
rules_there : (rules : ℕ → Data → List Check) (place entry : ℕ) (values : List Value) (value : Value)
    → value ≡ get_or values place value → place < length values
    → first_failing (rules entry (view value) ++ rules_of_each rules (entry + 1) (items_view (drop (place + 1) values)))
    ≡ first_failing (rules_of_each rules entry (items_view (drop place values)))
rules_there rules place entry values value is lt =
    ap (λ v. first_failing (rules_of_each rules entry (item (view v) (items_view (drop (place + 1) values))))) is
    ∙ ap (λ ds. first_failing (rules_of_each rules entry ds)) (sym (items_view-drop values place value lt))

-- where they pass, those of the tables behind it decide
pub rules_more : (rules : ℕ → Data → List Check) (place entry next : ℕ) (values : List Value) (value : Value)
    → value ≡ get_or values place value → place < length values → next ≡ entry + 1 → first_failing (rules entry (view value)) ≡ None
    → first_failing (rules_of_each rules next (items_view (drop (place + 1) values)))
    ≡ first_failing (rules_of_each rules entry (items_view (drop place values)))
rules_more rules place entry next values value is lt e pass =
    let rest = items_view (drop (place + 1) values) in
    ap (λ n. first_failing (rules_of_each rules n rest)) e
    ∙ sym (passes_first (rules entry (view value)) (rules_of_each rules (entry + 1) rest) pass)
    ∙ rules_there rules place entry values value is lt

-- where one fails, it decides
pub rules_stop : (rules : ℕ → Data → List Check) (place entry : ℕ) (values : List Value) (value : Value) (fault : Fault)
    → value ≡ get_or values place value → place < length values → IsFaultOf (first_failing (rules entry (view value))) fault
    → IsFaultOf (first_failing (rules_of_each rules entry (items_view (drop place values)))) fault
rules_stop rules place entry values value fault is lt h =
    subst (λ o. IsFaultOf o fault) (rules_there rules place entry values value is lt)
    (in_first (rules entry (view value)) (rules_of_each rules (entry + 1) (items_view (drop (place + 1) values))) fault h)

-- ---- devices

module _ (names : List (List ℕ)) (sinks : List PlanPort) where
  from_there : (earlier : List PlacedDevice) (place : ℕ) (values : List Value) (value : Value) → value ≡ get_or values place value → place < length values
      → devices_from names sinks earlier (item (view value) (items_view (drop (place + 1) values))) ≡ devices_from names sinks earlier (items_view (drop place values))
  from_there earlier place values value is lt =
      ap (λ v. devices_from names sinks earlier (item (view v) (items_view (drop (place + 1) values)))) is
      ∙ ap (devices_from names sinks earlier) (sym (items_view-drop values place value lt))

  -- a device more
  pub device_more : (earlier : List PlacedDevice) (place : ℕ) (values : List Value) (value : Value) (device : PlacedDevice)
      → value ≡ get_or values place value → place < length values → device_after names sinks earlier (view value) ≡ Some device
      → devices_from names sinks (earlier ++ device ∷ []) (items_view (drop (place + 1) values)) ≡ devices_from names sinks earlier (items_view (drop place values))
  device_more earlier place values value device is lt e =
      sym (ap (option_and_then (λ d. devices_from names sinks (earlier ++ d ∷ []) (items_view (drop (place + 1) values)))) e)
      ∙ from_there earlier place values value is lt

  unnamed_there : (earlier : List PlacedDevice) (place entry : ℕ) (values : List Value) (value : Value) → value ≡ get_or values place value → place < length values
      → first (unnamed_devices names sinks earlier entry (item (view value) (items_view (drop (place + 1) values))))
      ≡ first (unnamed_devices names sinks earlier entry (items_view (drop place values)))
  unnamed_there earlier place entry values value is lt =
      ap (λ v. first (unnamed_devices names sinks earlier entry (item (view v) (items_view (drop (place + 1) values))))) is
      ∙ ap (λ ds. first (unnamed_devices names sinks earlier entry ds)) (sym (items_view-drop values place value lt))

  -- where it is named, those behind it decide
  pub unnamed_more : (earlier : List PlacedDevice) (place entry next : ℕ) (values : List Value) (value : Value) (device : PlacedDevice)
      → value ≡ get_or values place value → place < length values → next ≡ entry + 1 → device_after names sinks earlier (view value) ≡ Some device
      → first (unnamed_devices names sinks (earlier ++ device ∷ []) next (items_view (drop (place + 1) values)))
      ≡ first (unnamed_devices names sinks earlier entry (items_view (drop place values)))
  unnamed_more earlier place entry next values value device is lt n e =
      let rest = items_view (drop (place + 1) values) in
      ap (λ k. first (unnamed_devices names sinks (earlier ++ device ∷ []) k rest)) n
      ∙ sym (ap (λ o. first (option_map_or (λ d. unnamed_devices names sinks (earlier ++ d ∷ []) (entry + 1) rest) o (entry ∷ unnamed_devices names sinks earlier (entry + 1) rest))) e)
      ∙ unnamed_there earlier place entry values value is lt

  -- where it isn't, its entry is the first
  pub unnamed_stop : (earlier : List PlacedDevice) (place entry : ℕ) (values : List Value) (value : Value)
      → value ≡ get_or values place value → place < length values → device_after names sinks earlier (view value) ≡ None
      → first (unnamed_devices names sinks earlier entry (items_view (drop place values))) ≡ Some entry
  unnamed_stop earlier place entry values value is lt e =
      let rest = items_view (drop (place + 1) values) in
      sym (unnamed_there earlier place entry values value is lt)
      ∙ ap (λ o. first (option_map_or (λ d. unnamed_devices names sinks (earlier ++ d ∷ []) (entry + 1) rest) o (entry ∷ unnamed_devices names sinks earlier (entry + 1) rest))) e
