use Rattle.std.proofs.Common.{◌∙◌, ◌+◌, ℕ, List, ◌∷◌, ap, length, subst}
use Rattle.net_build.specs.declared.types.Wire.{Wire}
use Rattle.net_build.specs.Registers.{AreWires}
use Rattle.net_faces.proofs.Heads.{source_shown}
use Rattle.net_faces.proofs.reads.read_source.Goals as goal

pub returns-clause-shows : goal.returns-clause-shows
returns-clause-shows c =
    let wide = c.d_widths-widths.ensures in
    source_shown c.args.builder.now c.read_head.new.builder c.args.edge.now c.args.wires.now c.in_ok-head.head c.in_ok-row.row c.requires.open c.in_ok-head.ensures.adds
    (c.in_ok-head.ensures.long ∙ ap (λ (ns : List ℕ). 1 + length ns) wide)
    (subst (λ (ns : List ℕ). AreWires c.read_head.new.builder (1 ∷ ns) c.in_ok-head.head) wide c.in_ok-head.ensures.wires)
    c.in_ok-head.ensures.shows (c.in_ok-row.ensures ∙ ap (λ (xs : List Wire). c.args.wires.now.a.ready ∷ xs) c.as_slice.ensures)
