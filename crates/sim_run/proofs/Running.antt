-- A run of a netlist that goes on by one cycle, and what its network shows in it.
use Rattle.std.proofs.Common.{◌≡◌, ℕ, zero, suc, ◌+◌, List, [], ◌∷◌, ◌++◌, length, map, refl, sym, ap, ◌∙◌, subst, arith}
use Rattle.std.proofs.lemmas.List.{map-append}
use Rattle.net_cells.specs.declared.netlist.Netlist.{Netlist}
use Rattle.net_cells.specs.Values.{AreValues, IsRun, IsRunFrom, first_registers, next_registers}
use Rattle.flow_core.specs.Network.{State, network_at_start}
use Rattle.flow_choice.specs.declared.offers.Offers.{Offers}
use Rattle.flow_choice.specs.Choosing.{state_after_cycle}
use Rattle.net_ports.specs.Implementing.{AreOffered, Implements, input_values, outputs_by_cycle, outputs_of, shown_values}
use Rattle.sim_engine.specs.Running.{Running, RunsCycle}
use Rattle.sim_events.specs.Setups.{Setup, offers_until, run_at, run_offers}
use Rattle.sim_run.specs.Standing.{EngineLaw, HasRun, HasRunTo, IsOrderly, registers_after}

run_append : (n : Netlist) (r i : List ℕ) (is : List (List ℕ)) (vs : List (ℕ → ℕ)) (v : ℕ → ℕ) → IsRunFrom n r is vs → length i ≡ length n.inputs → AreValues n (i ++ registers_after n r vs) v → IsRunFrom n r (is ++ i ∷ []) (vs ++ v ∷ [])
run_append n r i [] [] v k l c = (l, c, tt)
run_append n r i [] (w ∷ vs) v k l c = absurd k
run_append n r i (j ∷ is) [] v k l c = absurd k
run_append n r i (j ∷ is) (w ∷ vs) v k l c = (k.0, k.1, run_append n (next_registers n w) i is vs v k.2 l c)

after_append : (n : Netlist) (r : List ℕ) (vs : List (ℕ → ℕ)) (v : ℕ → ℕ) → registers_after n r (vs ++ v ∷ []) ≡ next_registers n v
after_append n r [] v = refl
after_append n r (w ∷ vs) v = after_append n (next_registers n w) vs v

run_on : (n : Netlist) (inputs : List (List ℕ)) (i shown : List ℕ) (before after : Running) → before.netlist ≡ n → length i ≡ length n.inputs → (k : HasRunTo n inputs before.registers) → (s : RunsCycle before i shown after) → IsRun n (inputs ++ i ∷ []) (k.values ++ s.one.value ∷ [])
run_on n inputs i shown before after e l k s =
    run_append n (first_registers n) i inputs k.values s.one.value k.is l
    (subst (λ (r : List ℕ). AreValues n (i ++ r) s.one.value) k.holds (subst (λ (m : Netlist). AreValues m (i ++ before.registers) s.one.value) e s.one.is))

runs_on : (n : Netlist) (inputs : List (List ℕ)) (i shown : List ℕ) (before after : Running) → before.netlist ≡ n → length i ≡ length n.inputs → (k : HasRunTo n inputs before.registers) → (s : RunsCycle before i shown after) → HasRunTo n (inputs ++ i ∷ []) after.registers
runs_on n inputs i shown before after e l k s = record {
  values = k.values ++ s.one.value ∷ [];
  is = run_on n inputs i shown before after e l k s;
  holds = s.registers ∙ ap (λ (m : Netlist). next_registers m s.one.value) e ∙ sym (after_append n (first_registers n) k.values s.one.value);
}

abbrev pub state_after_all : State → List Offers → State
state_after_all s [] = s
state_after_all s (o ∷ os) = state_after_all (state_after_cycle s o) os

outputs-append : (s : State) (os : List Offers) (o : Offers) → outputs_by_cycle s (os ++ o ∷ []) ≡ outputs_by_cycle s os ++ shown_values (state_after_all s os) ∷ []
outputs-append s [] o = refl
outputs-append s (p ∷ os) o = ap (λ (x : List (List ℕ)). shown_values s ∷ x) (outputs-append (state_after_cycle s p) os o)

state-append : (s : State) (os : List Offers) (o : Offers) → state_after_all s (os ++ o ∷ []) ≡ state_after_cycle (state_after_all s os) o
state-append s [] o = refl
state-append s (p ∷ os) o = state-append (state_after_cycle s p) os o

pub state_is : (u : Setup) (c : ℕ) → state_after_all (network_at_start u.plan) (offers_until u c) ≡ (run_at u c).network
state_is u zero = refl
state_is u (suc c) = state-append (network_at_start u.plan) (offers_until u c) (run_offers u c (run_at u c)) ∙ ap (λ (s : State). state_after_cycle s (run_offers u c (run_at u c))) (state_is u c)

abbrev last : List (List ℕ) → List ℕ
last [] = []
last (x ∷ []) = x
last (x ∷ y ∷ xs) = last (y ∷ xs)

last-append : (xs : List (List ℕ)) (x : List ℕ) → last (xs ++ x ∷ []) ≡ x
last-append [] x = refl
last-append (y ∷ []) x = refl
last-append (y ∷ z ∷ xs) x = last-append (z ∷ xs) x

pub more_offers : (u : Setup) (c : ℕ) → offers_until u (c + 1) ≡ offers_until u c ++ run_offers u c (run_at u c) ∷ []
more_offers u c = ap (offers_until u) (let q : c + 1 ≡ suc c = omega arith in q)

starts : (u : Setup) (n : Netlist) (engine : Running) → engine.netlist ≡ n → engine.registers ≡ first_registers n → HasRun u n 0 engine
starts u n engine e r = record { netlist_is = e; runs = record { values = []; is = tt; holds = r } }

goes_on : (u : Setup) (n : Netlist) (c : ℕ) (before after : Running) (shown : List ℕ) → HasRun u n c before → IsOrderly u n c → RunsCycle before (input_values (run_offers u c (run_at u c))) shown after → HasRun u n (c + 1) after
goes_on u n c before after shown h o s = record {
  netlist_is = s.netlist ∙ h.netlist_is;
  runs = subst (λ (is : List (List ℕ)). HasRunTo n is after.registers)
      (sym (ap (map input_values) (more_offers u c) ∙ map-append input_values (offers_until u c) (run_offers u c (run_at u c) ∷ [])))
      (runs_on n (map input_values (offers_until u c)) (input_values (run_offers u c (run_at u c))) shown before after h.netlist_is o.fits.long h.runs s);
}

shows : (u : Setup) (n : Netlist) (c : ℕ) (before after : Running) (shown : List ℕ) → Implements u.plan n → HasRun u n c before → IsOrderly u n c → RunsCycle before (input_values (run_offers u c (run_at u c))) shown after → shown ≡ shown_values (run_at u c).network
shows u n c before after shown i h g s =
    let start = network_at_start u.plan in
    let os = offers_until u c in
    let o = run_offers u c (run_at u c) in
    let vs = h.runs.values ++ s.one.value ∷ [] in
    let run : IsRun n (map input_values (os ++ o ∷ [])) vs = subst (λ (x : List (List ℕ)). IsRun n x vs) (sym (map-append input_values os (o ∷ []))) (run_on n (map input_values os) (input_values o) shown before after h.netlist_is g.fits.long h.runs s) in
    let all : map (outputs_of n) vs ≡ outputs_by_cycle start (os ++ o ∷ []) = i.runs (os ++ o ∷ []) vs (subst (AreOffered u.plan start) (more_offers u c) g.offered) run in
    let ends : map (outputs_of n) h.runs.values ++ outputs_of n s.one.value ∷ [] ≡ outputs_by_cycle start os ++ shown_values (state_after_all start os) ∷ [] = sym (map-append (outputs_of n) h.runs.values (s.one.value ∷ [])) ∙ all ∙ outputs-append start os o in
    s.outputs ∙ ap (λ (m : Netlist). outputs_of m s.one.value) h.netlist_is
    ∙ sym (last-append (map (outputs_of n) h.runs.values) (outputs_of n s.one.value)) ∙ ap last ends ∙ last-append (outputs_by_cycle start os) (shown_values (state_after_all start os))
    ∙ ap shown_values (state_is u c)

pub engine_law : EngineLaw
engine_law = record { starts = starts; goes_on = goes_on; shows = shows }
