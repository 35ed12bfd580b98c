use Rattle.net_ports.proofs.Formed.{is_formed, is_port_name, not_formed, spelled}
use Rattle.net_ports.proofs.names.wire_name.Goals as goal

pub unreachable-requires : goal.unreachable-requires
unreachable-requires c =
    not_formed c.in_ok-name.field-0 c.as_str-2.result.now c.as_str-2.result.now _ c.in_default.is
    (spelled c.args.at.now c.args.field _ _ _ _ c.as_str-2.ensures.value c.in_ok-text.ensures.ok c.as_str.ensures.text c.name.ensures)
    (is_formed c.args.at.now c.args.field c.as_str.ensures.form c.requires)
    c.in_ok-name.ensures
