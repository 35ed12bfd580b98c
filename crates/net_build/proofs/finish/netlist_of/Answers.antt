use Rattle.std.proofs.Common.{refl, sym, subst, List, ℕ}
use Rattle.net_build.specs.Built.{Built}
use Rattle.net_build.specs.Numbering.{AreNets}
use Rattle.net_build.proofs.Finished.{finished_by}
use Rattle.net_build.proofs.finish.netlist_of.Goals as goal

pub returns : goal.returns
returns c =
    let b : Built = record { name = c.args.name; made = c.args.made.now; outputs = c.args.outputs.now } in
    let a = subst (λ (x : List ℕ). AreNets b.made x) (sym c.as_slice-nets.ensures.value) c.in_ok-list.ensures in
    finished_by b c.as_slice-nets.result.now _ a refl c.in_ok-inputs.ensures c.in_ok-regs.ensures c.in_ok-cells.ensures c.in_ok-outputs.ensures
