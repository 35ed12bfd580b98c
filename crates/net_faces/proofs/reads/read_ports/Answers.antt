use Rattle.net_build.proofs.Steps.{adds_adds}
use Rattle.net_leaves.proofs.Later.{edges_kept}
use Rattle.net_faces.proofs.Later.{source_rows_later}
use Rattle.net_faces.proofs.reads.read_ports.Goals as goal

pub read_sinks-requires-clause-edges : goal.read_sinks-requires-clause-edges
read_sinks-requires-clause-edges c = edges_kept c.args.builder.now c.read_sources.new.builder c.args.plan.now c.args.edges.now c.in_ok-sources.ensures.adds.later c.in_ok-sources.ensures.adds.undriven c.requires.edges

pub returns-clause-adds : goal.returns-clause-adds
returns-clause-adds c = adds_adds c.args.builder.now c.read_sources.new.builder c.read_sinks.new.builder c.in_ok-sources.ensures.adds c.in_ok-sinks.ensures.adds

pub returns-clause-sources : goal.returns-clause-sources
returns-clause-sources c =
    source_rows_later c.read_sources.new.builder c.read_sinks.new.builder c.args.plan.now c.args.edges.now c.in_ok-sources.sources c.in_ok-sinks.ensures.adds.later c.in_ok-sources.ensures.rows
