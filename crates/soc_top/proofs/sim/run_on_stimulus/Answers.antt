use Rattle.std.proofs.Common.{◌≡◌, ◌∙◌, refl, sym, length, vec_len, arith}
use Rattle.std.proofs.lemmas.List.{length-map}
use Rattle.soc_stimulus.proofs.Counted.{counted}
use Rattle.soc_top.specs.Simulating.{no_memory_to_run}
use Rattle.soc_top.proofs.Few.{few_requests}
use Rattle.soc_top.proofs.SimParts.{is_line, run_bad, run_of_stimulus}
use Rattle.soc_top.proofs.sim.run_on_stimulus.Goals as goal

pub run_netlist-requires-clause-few : goal.run_netlist-requires-clause-few
run_netlist-requires-clause-few g c =
    few_requests c.args.loaded.design c.args.loaded.accepted c.args.bytes.now c.in-Ok.stimulus c.in-Ok.ensures.passes c.in-Ok.ensures.ok

pub run_netlist-requires-clause-settings : goal.run_netlist-requires-clause-settings
run_netlist-requires-clause-settings g c = counted _ c.args.loaded.accepted.plan c.args.bytes.now c.in-Ok.stimulus c.in-Ok.ensures.ok

pub returns-in-Ok-clause-runs : goal.returns-in-Ok-clause-runs
returns-in-Ok-clause-runs g c = λ rules design_file d.
    let as_many : vec_len c.args.devices ≡ length c.args.devices.items = omega (arith, c.args.devices.ok.0) in
    run_of_stimulus rules design_file _ _ _ d _ _ _ _ _ _ c.in-Ok.stimulus (vec_len c.args.devices) (as_many ∙ sym (length-map c.args.devices.items _)) c.in-Ok.ensures.passes c.in-Ok.ensures.ok
    c.run_netlist.ensures.runs

pub returns-in-Err-Line-clause-runs : goal.returns-in-Err-Line-clause-runs
returns-in-Err-Line-clause-runs g c = λ rules design_file d.
    run_bad rules design_file _ _ _ d _ _ _ _ _ _ c.in-Err-Line.rule c.in-Err-Line.entry _ _
    (is_line _ _ _ _ c.in-Err-Line.field-0-is c.in-Err-Line.ensures.err) c.in-Err-Line.rule-is c.in-Err-Line.entry-is (λ name. refl) c.finish.ensures

pub returns-clause-runs : goal.returns-clause-runs
returns-clause-runs g c = λ rules design_file d.
    no_memory_to_run (record { status = refl; printed = refl; files = λ name. refl })
