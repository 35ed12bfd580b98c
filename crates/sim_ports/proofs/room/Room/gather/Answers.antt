use Rattle.std.proofs.Common.{◌∙◌, ap, length, map}
use Rattle.std.specs.List.{range_with_len}
use Rattle.sim_ports.specs.Rooms.{SuitsRequest, gathered_byte, gathered_flag}
use Rattle.sim_ports.proofs.Roomy.{request_gathered}
use Rattle.sim_ports.proofs.room.Room.gather.Goals as goal

pub returns-clause-request : goal.returns-clause-request
returns-clause-request c = λ whole sent room is head.
    let there : SuitsRequest whole.op whole.size c.set_fields.new.request = record {
      flags = ap (λ xs. length xs) c.set_fields.ensures.flags ∙ room.there.flags;
      bytes = ap (λ xs. length xs) c.set_fields.ensures.bytes ∙ room.there.bytes;
    } in
    request_gathered c.args.width whole c.set_fields.new.request c.args.head.now c.args.beats.now c.gather_flags.new.into c.gather_bytes.new.into
    sent is head c.set_fields.ensures.heads there
    (c.gather_flags.ensures ∙ ap (λ xs. map (gathered_flag c.args.width c.args.beats.now) (range_with_len 0 (length xs))) c.as_mut_slice.ensures.value)
    (c.gather_bytes.ensures ∙ ap (λ xs. map (gathered_byte c.args.width c.args.beats.now) (range_with_len 0 (length xs))) c.as_mut_slice-2.ensures.value)
