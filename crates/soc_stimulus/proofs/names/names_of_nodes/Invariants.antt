use Rattle.std.proofs.Common.{◌≡◌, take}
use Rattle.soc_stimulus.specs.Ports.{names_of_nodes}
use Rattle.soc_stimulus.proofs.names.names_of_nodes.Given as goal

abbrev pub invariant-loop-node : goal.invariant-loop-node
invariant-loop-node l = l.names ≡ names_of_nodes (take l.node-index l.nodes)
