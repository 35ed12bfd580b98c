use Rattle.std.proofs.Common.{◌∙◌, ◌+◌, ℕ, List, ◌∷◌, ap, length, subst}
use Rattle.net_build.specs.Registers.{AreWires}
use Rattle.net_faces.proofs.Heads.{sink_shown}
use Rattle.net_faces.proofs.reads.read_sink.Goals as goal

pub returns-clause-shows : goal.returns-clause-shows
returns-clause-shows c =
    let wide = c.a_widths-widths.ensures in
    sink_shown c.args.builder.now c.read_head.new.builder c.args.edge.now c.args.wires.now c.in_ok-row.row _ c.requires.open c.in_ok-row.ensures.adds
    (c.in_ok-row.ensures.long ∙ ap (λ (ns : List ℕ). 1 + length ns) wide)
    (subst (λ (ns : List ℕ). AreWires c.read_head.new.builder (1 ∷ ns) c.in_ok-row.row) wide c.in_ok-row.ensures.wires)
    c.in_ok-row.ensures.shows c.in_ok-push.ensures.ok
