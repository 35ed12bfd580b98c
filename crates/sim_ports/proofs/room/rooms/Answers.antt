use Rattle.sim_ports.proofs.Roomy.{has_more}
use Rattle.sim_ports.proofs.room.rooms.Goals as goal

pub loop-place-preserved : goal.loop-place-preserved
loop-place-preserved c =
    let more = has_more c.loop-place.rooms c.push.new.self c.in_ok-room_at.field-0 c.loop-place.place c.loop-place.invariant.all c.loop-place.invariant.fits
    c.in_ok-room_at.ensures c.in_ok-push.ensures.ok in
    record { all = more.all; fits = more.fits }
