use Rattle.std.proofs.Common.{◌≡◌, ◌<◌, ◌^◌, List, ap, ◌∙◌, length, arith}
use Rattle.net_cells.specs.declared.netlist.OutPort.{OutPort}
use Rattle.net_build.specs.declared.types.Made.{Made}
use Rattle.net_build.specs.Built.{Built, undriven}
use Rattle.net_build.specs.Numbering.{finished}
use Rattle.net_build.proofs.Finished.{finished_well, finished_ordered, finished_carries, finished_resets}
use Rattle.net_build.proofs.builder.Builder.finish.Goals as goal

pub returns : goal.returns
returns c =
    let f = c.self.inside in
    let b : Built = record { name = f.name; made = f.made.items; outputs = f.outputs } in
    let n = c.in_ok-netlist.netlist in
    let e : n ≡ finished b =
    c.in_ok-netlist.ensures
    ∙ ap (λ (ms : List Made). finished (record { name = f.name; made = ms; outputs = c.as_slice.result.now })) c.deref.ensures.value
    ∙ ap (λ (os : List OutPort). finished (record { name = f.name; made = f.made.items; outputs = os })) c.as_slice.ensures in
    let few : length b.made < 2 ^ 64 = omega (arith, c.deref.type_inv.0, ap length c.deref.ensures.value) in
    record {
      netlist = e ∙ ap finished c.self.view_is;
      well_formed = finished_well b c.args.self n c.self.view_is c.self.invariant c.requires few e;
      no_loop = finished_ordered b n c.self.invariant e;
      carries = finished_carries b c.args.self n c.self.view_is c.self.invariant e;
      resets = finished_resets b n c.self.invariant (ap undriven c.self.view_is ∙ c.requires) e;
    }
