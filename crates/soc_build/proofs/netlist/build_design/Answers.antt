use Rattle.soc_build.proofs.netlist.build_design.Goals as goal

pub returns-clause-made : goal.returns-clause-made
returns-clause-made g c = record { accepted = c.in_ok-built.built.accepted; built = c.in_ok-built.ensures.made }
