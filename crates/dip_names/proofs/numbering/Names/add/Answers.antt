use Rattle.std.proofs.Common.{◌∙◌, ap, ◌++◌, ◌∷◌, [], List, ℕ}
use Rattle.std.specs.List.{list_any}
use Rattle.std.specs.Str.{bytes_eq}
use Rattle.std.specs.Map.{keys_of}
use Rattle.dip_names.specs.Numbers.{texts}
use Rattle.indexmap.specs.IndexMap.{keys}
use Rattle.dip_names.proofs.Entries.{Entry, added}
use Rattle.dip_names.proofs.numbering.Names.add.Goals as goal

pub returns-clause-ok : goal.returns-clause-ok
returns-clause-ok c =
    let absent = rw (← c.self.view_is) at c.requires in
    rw (← c.self.view_is)
    (ap (λ (es : List Entry). texts (keys_of es)) c.in_ok-insert.ensures.entries
    ∙ added c.self.inside.numbers.entries c.in_ok-key.key 0 (ap (λ (name : List ℕ). list_any (bytes_eq name) (texts (keys c.self.inside.numbers))) c.in_ok-key.ensures.ok ∙ absent)
    ∙ ap (λ (name : List ℕ). texts (keys c.self.inside.numbers) ++ name ∷ []) c.in_ok-key.ensures.ok)
