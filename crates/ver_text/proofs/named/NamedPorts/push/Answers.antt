use Rattle.std.proofs.Common.{◌≡◌, arith, sym, subst, IsTrue}
use Rattle.std.specs.Prelude.{List, length}
use Rattle.std.proofs.lemmas.Grind.{common_steps}
use Rattle.net_cells.specs.declared.netlist.Port.{Port}
use Rattle.net_cells.specs.NameTables.{number_in, with_number}
use Rattle.ver_text.specs.NamedPorts.{is_new}
use Rattle.ver_text.proofs.PortNames.{places_more, where_ok}
use Rattle.ver_text.proofs.named.NamedPorts.push.Goals as goal

pub invariant_of-self-else-is_err : goal.invariant_of-self-else-is_err
invariant_of-self-else-is_err c =
    let new : IsTrue (is_new c.self.inside.ports.items c.args.port.name) = subst (λ (ps : List Port). IsTrue (is_new ps c.args.port.name)) (sym c.self.view_is) c.requires in
    let text : c.bytes.result.now ≡ c.args.port.name = grind (arith, common_steps) in
    let place : c.len-place.result ≡ length c.self.inside.ports.items = grind (arith, common_steps) in
    places_more c.self.inside.ports.items c.push.new.self.items c.self.inside.places c.set-added.new.self c.args.port c.bytes.result.now c.len-place.result c.self.invariant new text place
    c.in_ok-push.ensures.items
    (where_ok (number_in c.set-added.new.self ≡ with_number (number_in c.self.inside.places) c.bytes.result.now c.len-place.result) c.set-added.result c.if-is_err.ensures.value c.set-added.ensures.ok)
