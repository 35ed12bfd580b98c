use Rattle.std.proofs.Common.{◌+◌, ◌++◌, ◌<◌, ◌^◌, ◌∙◌, ℕ, List, Vec, Global, ap, length, map, arith}
use Rattle.std.specs.Vec.Iter.{into_iter_items}
use Rattle.std.proofs.lemmas.List.Elements.{All-weaker}
use Rattle.tl_edge.specs.Messages.{bytes_of}
use Rattle.sim_ports.specs.declared.prepared.Prepared.{Prepared}
use Rattle.sim_ports.specs.declared.stimulus.StimRequest.{StimRequest}
use Rattle.soc_stimulus.specs.Stimuli.{IsLegalAsked}
use Rattle.sim_drive.specs.Opening.{addresses_of}
use Rattle.sim_drive.specs.Preparing.{rising}
use Rattle.sim_drive.proofs.Prepares.{prepares_all}
use Rattle.sim_drive.proofs.Sharing.{bytes_fit}
use Rattle.sim_drive.proofs.preparing.prepared_for.Goals as goal

pub bytes_by_sink-requires : goal.bytes_by_sink-requires
bytes_by_sink-requires c =
    All-weaker (IsLegalAsked c.args.plan.now) (λ (asked : StimRequest). asked.request.address + bytes_of asked.request.size < 2 ^ 64)
    (λ asked legal. bytes_fit c.args.plan.now asked c.requires.sound legal) c.args.requests.now c.requires.legal

pub loop-sink-init : goal.loop-sink-init
loop-sink-init c =
    let f = λ (list : Vec ℕ Global). rising list.items in
    let left = c.into_iter-left.result in
    record {
      is = ap (λ (ps : List Prepared). addresses_of ps ++ map f (into_iter_items left)) c.in_ok-prepared.ensures.items
          ∙ ap (λ (ls : List (Vec ℕ Global)). map f ls) c.into_iter-left.ensures.rest
          ∙ prepares_all c.args.plan.now c.args.requests.now c.in_ok-lists.lists.items c.in_ok-lists.ensures;
      remaining = omega (arith, c.into_iter-left.ensures.len);
      items = omega (arith, ap length c.into_iter-left.ensures.rest);
    }
