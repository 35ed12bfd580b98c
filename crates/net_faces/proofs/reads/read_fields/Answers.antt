use Rattle.std.proofs.Common.{◌∙◌, List, [], ◌∷◌, ◌++◌, ap}
use Rattle.net_build.specs.declared.types.Wire.{Wire}
use Rattle.net_faces.proofs.Heads.{head_shown}
use Rattle.net_faces.proofs.reads.read_fields.Goals as goal

pub returns-clause-shows : goal.returns-clause-shows
returns-clause-shows c =
    let queue = c.args.queue.now in
    head_shown c.choose_row.new.self queue c.args.widths.now c.as_slice.result.now c.as_slice-2.result.now c.in_ok-fields.fields
    (c.as_slice.ensures ∙ c.in_ok-push.ensures.ok ∙ ap (λ (ws : List Wire). ws ++ queue.valid ∷ []) c.new-picks.ensures)
    (c.as_slice-2.ensures ∙ c.in_ok-push-2.ensures.ok ∙ ap (λ (rows : List (List Wire)). rows ++ c.in_ok-head.head ∷ []) c.new-rows.ensures ∙ ap (λ (row : List Wire). row ∷ []) c.in_ok-head.ensures)
    c.requires.widths c.in_ok-fields.ensures.values
