-- Wires that are a machine in some states and on what it sees then are it wherever less of these fit.
use Rattle.std.proofs.Common.{ℕ, List}
use Rattle.flow_core.specs.Leaves.{LeafState}
use Rattle.net_build.specs.Built.{Built}
use Rattle.net_queue.specs.declared.types.EdgeWires.{EdgeWires}
use Rattle.net_queue.specs.declared.types.LeafWires.{LeafWires}
use Rattle.net_queue.specs.Leaves.{IsLeaf, LeafDone, LeafView, view_at, view_fields}
use Rattle.net_queue.specs.Machines.{Machine, Reached}
use Rattle.net_queue.specs.Machines.Reached.{begins, goes}

module _ (b : Built) (m : Machine LeafState LeafView LeafDone) (fits less : LeafState → LeafView → Type 0) (fit : (s : LeafState) (x : LeafView) → less s x → fits s x) (ins outs : List EdgeWires) where
  reach : (v : ℕ → ℕ) (s : LeafState) → Reached b m less view_fields (view_at ins outs) v s → Reached b m fits view_fields (view_at ins outs) v s
  reach _ _ (begins v at) = begins v at
  reach _ _ (goes v u s x r sol t calm e f) = goes v u s x (reach v s r) sol t calm e (fit s x f)

  pub leaf_weaker : (wires : LeafWires) → IsLeaf b ins outs wires m fits → IsLeaf b ins outs wires m less
  leaf_weaker wires h = record { does = λ v s x r sol calm e f. h.does v s x (reach v s r) sol calm e (fit s x f) }
