-- Sink ports whose devices are prepared one after another.
use Rattle.std.proofs.Common.{◌≡◌, ℕ, zero, suc, ◌+◌, ◌<◌, List, [], ◌∷◌, ◌++◌, length, drop, map, get_or, true, Some, slice_get, refl, sym, ap, ◌∙◌, subst, arith, inl, inr}
use Rattle.std.proofs.lemmas.Bool.{cases_order}
use Rattle.std.proofs.lemmas.List.{length-append, map-append}
use Rattle.std.proofs.lemmas.Option.{slice_get_within}
use Rattle.tl_edge.specs.declared.plan.Plan.{Plan}
use Rattle.tl_edge.specs.declared.plan.PlanPort.{PlanPort}
use Rattle.tl_edge.specs.Plans.{bus_width, edge_at}
use Rattle.sim_ports.specs.declared.prepared.Prepared.{Prepared}
use Rattle.sim_ports.specs.declared.stimulus.Setting.{Setting}
use Rattle.sim_ports.specs.declared.role.Role.TheVariants.{Ram}
use Rattle.sim_ports.specs.Devices.{HasJust, Meaning, Says, started}
use Rattle.sim_ports.specs.Sinks.{Sinking, sinking, unasked}
use Rattle.sim_events.specs.Setups.{Setup, mute}
use Rattle.sim_drive.specs.Opening.{AreFresh, IsFresh, addresses_of, answering}
use Rattle.sim_drive.proofs.Going.{fresh_in}

-- what stands before the end of a list, and at its end
pub left_of : {A : Type 0} (xs ys : List A) (k : ℕ) → k < length xs → slice_get (xs ++ ys) k ≡ slice_get xs k
left_of [] ys k l = absurd (omega arith)
left_of (x ∷ xs) ys zero l = refl
left_of (x ∷ xs) ys (suc k) l = left_of xs ys k (omega (arith, l))

pub at_end : {A : Type 0} (xs : List A) (y : A) (k : ℕ) → k ≡ length xs → slice_get (xs ++ y ∷ []) k ≡ Some y
at_end [] y zero e = refl
at_end [] y (suc k) e = absurd (omega (arith, e))
at_end (x ∷ xs) y zero e = absurd (omega (arith, e))
at_end (x ∷ xs) y (suc k) e = at_end xs y k (omega (arith, e))

-- the first ports of a plan have sinks that are fresh
pub record AreFirst (setup : Setup) (count : ℕ) (sinks : List Sinking) : Type 0 where
  pub long : length sinks ≡ count
  pub each : (port : ℕ) (at : PlanPort) (sink : Sinking) → slice_get setup.plan.sinks port ≡ Some at
      → slice_get sinks port ≡ Some sink → IsFresh setup port at sink

pub none_first : (setup : Setup) → AreFirst setup 0 []
none_first setup = record { long = refl; each = λ port at sink e f. absurd cc }

-- no drivers, each seen as a port
pub none_yet : {D : Type 0} (see : D → Sinking) (setup : Setup) (drivers : List D) → drivers ≡ [] → AreFirst setup 0 (map see drivers)
none_yet see setup drivers e = subst (λ (xs : List Sinking). AreFirst setup 0 xs) (sym (ap (map see) e)) (none_first setup)

pub one_first : (setup : Setup) (count : ℕ) (sinks : List Sinking) (at : PlanPort) (sink : Sinking) → AreFirst setup count sinks
    → slice_get setup.plan.sinks count ≡ Some at → IsFresh setup count at sink → AreFirst setup (count + 1) (sinks ++ sink ∷ [])
one_first setup count sinks at sink h e f = record {
  long = omega (arith, length-append sinks (sink ∷ []), h.long);
  each = λ port there other g k. elim (cases_order port count) [
    | inl q ↦
        let same_sink : Some other ≡ Some sink = sym k ∙ at_end sinks sink port (q ∙ sym h.long) in
        let same_port : Some there ≡ Some at = sym g ∙ ap (slice_get setup.plan.sinks) q ∙ e in
        let one : other ≡ sink = cc in
        let two : there ≡ at = cc in
        subst (λ (x : Sinking). IsFresh setup port there x) (sym one) (subst (λ (x : PlanPort). IsFresh setup port x sink) (sym two) (subst (λ n. IsFresh setup n at sink) (sym q) f))
    | inr o ↦ elim o [
      | inl b ↦ h.each port there other g (sym (left_of sinks (sink ∷ []) port (omega (arith, b, h.long))) ∙ k)
      | inr b ↦ absurd (let l = slice_get_within (sinks ++ sink ∷ []) port other k in omega (arith, l, b, h.long, length-append sinks (sink ∷ [])))
    ]
  ];
}

-- a sink port with a device, by what it states
abbrev made : Says → Setting → List ℕ → ℕ → Sinking
made says setting addresses width =
    sinking (record { says = says; prepared = true; role = setting.role; held = says.start setting.role addresses }) (unasked width setting.delay)

-- a device that was prepared as the setting of a port says, at the port's addresses, is fresh there
pub fresh_there : (plan : Plan) (settings : List Setting) (devices : List Says) (addresses : List (List ℕ)) (port : ℕ) (at : PlanPort) (sink : Sinking) (device : Meaning) (width : ℕ) (setting : Setting) (here : List ℕ)
    → sink ≡ sinking (started device setting.role here) (unasked width setting.delay) → HasJust here sink.device.held
    → device.says ≡ get_or devices port mute → setting ≡ get_or settings port (record { role = Ram; delay = 0 }) → here ≡ get_or addresses port []
    → width ≡ bus_width (edge_at plan at.edge) → IsFresh (answering plan settings devices addresses) port at sink
fresh_there plan settings devices addresses port at sink device width setting here e h says is listed w = record {
  is = e ∙ ap (λ (x : Says). made x setting here width) says ∙ ap (λ (x : Setting). made (get_or devices port mute) x here width) is
      ∙ ap (λ (x : List ℕ). made (get_or devices port mute) (get_or settings port (record { role = Ram; delay = 0 })) x width) listed
      ∙ ap (λ x. made (get_or devices port mute) (get_or settings port (record { role = Ram; delay = 0 })) (get_or addresses port []) x) w;
  has = subst (λ (x : List ℕ). HasJust x sink.device.held) listed h;
}

-- what the first device that is left states is what stands at the port's place
pub says_there : {A : Type 0} (f : A → Says) (all rest : List A) (port : ℕ) (device : A) → device ∷ rest ≡ drop port all → (f device ≡ get_or (map f all) port mute) × (rest ≡ drop (port + 1) all)
says_there f [] rest zero device e = absurd cc
says_there f [] rest (suc port) device e = absurd cc
says_there f (x ∷ all) rest zero device e = (let q : device ≡ x = cc in ap f q, let q : rest ≡ all = cc in q)
says_there f (x ∷ all) rest (suc port) device e =
    let next = says_there f all rest port device e in
    let z : suc port + 1 ≡ suc (port + 1) = omega arith in
    (next.0, next.1 ∙ ap (λ n. drop n (x ∷ all)) (sym z))

-- what was read at a place
pub read_there : {A B : Type 0} (f : A → B) (xs : List A) (k : ℕ) (x : A) (d : B) → k < length xs → x ≡ get_or xs k x → f x ≡ get_or (map f xs) k d
read_there f [] k x d l e = absurd (omega arith)
read_there f (y ∷ xs) zero x d l e = ap f e
read_there f (y ∷ xs) (suc k) x d l e = read_there f xs k x d (omega (arith, l)) e

-- one of what is left is gone
pub one_gone : (rest left count all : ℕ) → rest + 1 ≡ left → left + count ≡ all → rest + (count + 1) ≡ all
one_gone rest left count all e h = omega (arith, e, h)

-- one port more, with its device prepared: drivers as they are kept, each seen as a port with its device
pub fresh_more : {D : Type 0} (see : D → Sinking) (plan : Plan) (settings : List Setting) (devices : List Says) (prepared : List Prepared) (port : ℕ) (drivers news : List D) (driver : D) (at : PlanPort) (device : Meaning) (width : ℕ) (setting : Setting) (here : List ℕ) (one : Prepared)
    → AreFirst (answering plan settings devices (addresses_of prepared)) port (map see drivers)
    → slice_get plan.sinks port ≡ Some at
    → see driver ≡ sinking (started device setting.role here) (unasked width setting.delay) → HasJust here (see driver).device.held
    → device.says ≡ get_or devices port mute → setting ≡ get_or settings port (record { role = Ram; delay = 0 }) → here ≡ one.addresses → port < length prepared → one ≡ get_or prepared port one
    → width ≡ bus_width (edge_at plan at.edge) → news ≡ drivers ++ driver ∷ []
    → AreFirst (answering plan settings devices (addresses_of prepared)) (port + 1) (map see news)
fresh_more see plan settings devices prepared port drivers news driver at device width setting here one before is made_so has says set listed many from bus grown =
    let setup : Setup = answering plan settings devices (addresses_of prepared) in
    let fresh : IsFresh setup port at (see driver) =
    fresh_there plan settings devices (addresses_of prepared) port at (see driver) device width setting here made_so has says
    set (listed ∙ read_there (λ (p : Prepared). p.addresses) prepared port one [] many from) bus in
    subst (λ (xs : List Sinking). AreFirst setup (port + 1) xs) (sym (ap (map see) grown ∙ map-append see drivers (driver ∷ [])))
    (one_first setup port (map see drivers) at (see driver) before is fresh)

-- ports that are fresh by what was read out of lists that a run has, are fresh in the run
pub fresh_from : (setup : Setup) (settings : List Setting) (prepared read : List Prepared) (sinks : List Sinking) → settings ≡ setup.settings → read ≡ prepared
    → addresses_of prepared ≡ setup.addresses → AreFresh (answering setup.plan settings setup.devices (addresses_of read)) sinks → AreFresh setup sinks
fresh_from setup settings prepared read sinks s r a h =
    fresh_in setup (addresses_of prepared) sinks a
    (subst (λ (ps : List Prepared). AreFresh (answering setup.plan setup.settings setup.devices (addresses_of ps)) sinks) r
    (subst (λ (xs : List Setting). AreFresh (answering setup.plan xs setup.devices (addresses_of read)) sinks) s h))
