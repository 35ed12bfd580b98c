use Rattle.std.proofs.Common.{◌+◌, ◌<◌, ◌∙◌, ℕ, List, Vec, Global, length, map, subst, sym, take, arith}
use Rattle.sim_drive.proofs.Sharing.{AreShared, list_below, step_at, step_nowhere}
use Rattle.sim_drive.proofs.preparing.bytes_by_sink.Goals.{in-Some+in_ok-add_bytes-in-Some, in-None}
use Rattle.sim_drive.proofs.preparing.bytes_by_sink.Goals as goal

pub index_mut-requires : goal.index_mut-requires
index_mut-requires c =
    let below : c.in-Some.sink < length c.loop-asked.lists.items =
    list_below c.args.plan.now (take c.loop-asked.asked-index c.args.requests.now) c.asked-item.result c.loop-asked.lists.items c.in-Some.sink c.loop-asked.invariant
    (sym c.sink_asked.ensures ∙ c.in-Some.is) in
    omega arith

pub loop-asked-preserved : goal.loop-asked-preserved
loop-asked-preserved c =
    let plan = c.args.plan.now in
    let requests = c.args.requests.now in
    let place = c.loop-asked.asked-index in
    let asked = c.asked-item.result in
    let lists = c.loop-asked.lists.items in
    let stays = λ (v : Vec (Vec ℕ Global) Global). AreShared plan (take (place + 1) requests) (length plan.sinks) (map (λ (list : Vec ℕ Global). list.items) v.items) in
    elim c.match-sink_asked.branch [
      | in-Some+in_ok-add_bytes-in-Some w ↦
          subst stays (sym w.lists-is)
          (step_at plan requests place w.in-Some.sink asked lists w.index_mut.result.now w.add_bytes.new.list c.loop-asked.invariant (omega arith) c.asked-item.is
          (sym c.sink_asked.ensures ∙ w.in-Some.is) w.index_mut.ensures.value w.in_ok-add_bytes-in-Some.ensures)
      | in-None w ↦
          subst stays (sym w.lists-is)
          (step_nowhere plan requests place (length plan.sinks) asked lists c.loop-asked.invariant (omega arith) c.asked-item.is (sym c.sink_asked.ensures ∙ w.in-None.is))
    ]
