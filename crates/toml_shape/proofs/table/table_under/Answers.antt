use Rattle.std.proofs.Common.{◌∙◌, ap, sym, Some}
use Rattle.std.specs.Option.{option_and_then}
use Rattle.toml.specs.View.{table_view, view}
use Rattle.toml.proofs.Views.{view-Table}
use Rattle.toml_shape.specs.Shapes.{entries_of}
use Rattle.toml_shape.proofs.table.table_under.Goals as goal

pub returns-in-Some-Table : goal.returns-in-Some-Table
returns-in-Some-Table c =
    ap (λ t. Some (table_view t)) c.in-Some-Table.inner-is
    ∙ ap entries_of (sym (view-Table c.in-Some-Table.inner) ∙ ap view (sym c.in-Some-Table.field-0-is))
    ∙ ap (option_and_then entries_of) c.in-Some-Table.ensures
