use Rattle.std.proofs.Common.{◌∙◌, List, ◌∷◌, ap, subst, sym}
use Rattle.net_build.specs.declared.types.Wire.{Wire}
use Rattle.net_build.specs.Registers.{AreWires}
use Rattle.net_build.proofs.Steps.{bit_adds}
use Rattle.net_faces.proofs.Heads.{wires_cons}
use Rattle.net_faces.proofs.reads.read_head.Goals as goal

pub returns-clause-wires : goal.returns-clause-wires
returns-clause-wires c =
    let valid = c.args.queue.now.valid in
    let bit = bit_adds c.args.builder.now c.read_fields.new.builder valid c.in_ok-fields.ensures.adds c.requires.open.valid in
    subst (AreWires c.read_fields.new.builder (1 ∷ c.args.widths.now)) (sym (c.in_ok-row.ensures ∙ ap (λ (xs : List Wire). valid ∷ xs) c.as_slice.ensures))
    (wires_cons c.read_fields.new.builder 1 c.args.widths.now valid c.in_ok-fields.fields bit.wire bit.one c.in_ok-fields.ensures.wires)
