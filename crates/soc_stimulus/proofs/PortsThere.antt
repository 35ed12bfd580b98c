-- Which ports of a plan have numbers.
use Rattle.std.proofs.Common.{ℕ, suc, ◌≡◌, ◌+◌, ◌⊎◌, ⊎_elim, List, [], ◌∷◌, Bool, true, false, ◌==◌, cond, Option, Some, None, refl, sym, ◌∙◌, ap, subst, arith}
use Rattle.std.specs.Prelude.{Contains, IsSome, slice_get}
use Rattle.std.proofs.lemmas.Bool.Decides.{nat_tests}
use Rattle.dip_lists.proofs.Pairs.{nowhere, within_cases}
use Rattle.dip_lists.proofs.Tests.{both, own_number}
use Rattle.tl_edge.proofs.Ways.{item_has}
use Rattle.tl_edge.specs.declared.plan.PlanPort.{PlanPort}
use Rattle.dip_graph.specs.declared.design.NodeEntry.{NodeEntry}
use Rattle.dip_graph.specs.declared.design.NodeKind.{NodeKind}
use Rattle.dip_graph.specs.declared.edges.Edge.{Edge}
use Rattle.dip_plan.specs.Standing.{ArePorts, HasPort, IsPortAt}
use Rattle.soc_stimulus.specs.Ports.{is_port_of, port_from, port_number}
use Rattle.soc_stimulus.specs.PortsLaw.{IsPortNumbered, StimulusPortsLaw}

equal : (a b : ℕ) → (a == b) ≡ true → a ≡ b
equal a b h = grind (arith, nat_tests)

-- a port that is found, at a place behind the first one
record Found (ports : List PlanPort) (first node port number : ℕ) : Type 0 where
  place : ℕ
  sum : number ≡ first + place
  at : PlanPort
  is : slice_get ports place ≡ Some at
  same : is_port_of node port at ≡ true

found : (first : ℕ) (ports : List PlanPort) (node port number : ℕ) → port_from first ports node port ≡ Some number → Found ports first node port number
found first [] node port number e = absurd (cc)
found first (at ∷ ports) node port number e =
    here first at ports node port number (is_port_of node port at) refl e (λ later. found (first + 1) ports node port number later)
  where
    here : (first : ℕ) (at : PlanPort) (ports : List PlanPort) (node port number : ℕ) (b : Bool) → is_port_of node port at ≡ b
        → cond b (Some first) (port_from (first + 1) ports node port) ≡ Some number
        → (port_from (first + 1) ports node port ≡ Some number → Found ports (first + 1) node port number) → Found (at ∷ ports) first node port number
    here first at ports node port number true t e next = let n : first ≡ number = cc in record { place = 0; sum = omega arith; at = at; is = refl; same = t }
    here first at ports node port number false t e next =
        let later = next e in
        let s = later.sum in
        record { place = suc later.place; sum = omega arith; at = later.at; is = later.is; same = later.same }

-- a port that is there is found
there : (first : ℕ) (ports : List PlanPort) (node port : ℕ) (at : PlanPort) → Contains ports at → is_port_of node port at ≡ true → IsSome (port_from first ports node port)
there first [] node port at h t = absurd (nowhere at h)
there first (other ∷ ports) node port at h t =
    here (is_port_of node port other) refl (within_cases other at ports h) (λ later. there (first + 1) ports node port at later t)
  where
    here : (b : Bool) → is_port_of node port other ≡ b → (other ≡ at) ⊎ Contains ports at → (Contains ports at → IsSome (port_from (first + 1) ports node port))
        → IsSome (cond b (Some first) (port_from (first + 1) ports node port))
    here true q c next = refl
    here false q c next =
        ⊎_elim (λ e. let z : true ≡ false = sym t ∙ ap (is_port_of node port) (sym e) ∙ q in absurd cc) (λ later. next later) c

numbered : (ports : List PlanPort) (node port number : ℕ) → port_number ports node port ≡ Some number → IsPortNumbered ports node port number
numbered ports node port number e =
    let f = found 0 ports node port number e in
    let s = f.sum in
    let p = both (f.at.node == node) (f.at.port == port) f.same in
    let n : f.place ≡ number = omega arith in
    record { at = f.at; is = subst (λ k. slice_get ports k ≡ Some f.at) n f.is; node_is = equal f.at.node node p.0; port_is = equal f.at.port port p.1 }

module _ (count : NodeKind → ℕ) (near near_port : Edge → ℕ) (nodes : List NodeEntry) (edges : List Edge) (ports : List PlanPort)
    (are : ArePorts count near near_port nodes edges ports) (node port : ℕ) where
  has : (o : Option ℕ) → port_number ports node port ≡ o → IsSome o → HasPort count nodes node port
  has None e s = absurd (cc)
  has (Some number) e s =
      let n = numbered ports node port number e in
      let p = (item_has (IsPortAt count near near_port nodes edges) ports number n.at are.each n.is).has in
      subst (λ k. HasPort count nodes node k) n.port_is (subst (λ k. HasPort count nodes k n.at.port) n.node_is p)

  is_there : HasPort count nodes node port → IsSome (port_number ports node port)
  is_there h =
      let a = are.all node port h in
      there 0 ports node port a.0 a.1 (rw (a.2, a.3, own_number node, own_number port) refl)

pub ports_law : StimulusPortsLaw
ports_law =
    record {
      sources = λ design edges solution plan node port s. (
        has _ _ _ design.nodes edges plan.sources s.sources node port (port_number plan.sources node port) refl,
        is_there _ _ _ design.nodes edges plan.sources s.sources node port,
      );
      sinks = λ design edges solution plan node port s. (
        has _ _ _ design.nodes edges plan.sinks s.sinks node port (port_number plan.sinks node port) refl,
        is_there _ _ _ design.nodes edges plan.sinks s.sinks node port,
      );
      numbered = numbered;
    }
