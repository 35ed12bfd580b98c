use Rattle.std.proofs.Common.{◌≡◌, ℕ, zero, suc, ◌<◌, List, [], ◌∷◌, length, get_or, refl, sym, subst, arith}
use Rattle.net_build.specs.declared.types.Wire.{Wire}
use Rattle.net_build.specs.Built.{Built, IsWire}
use Rattle.net_build.specs.Registers.{AreWires, numbers}
use Rattle.net_build.proofs.DrivenLists.{opened_all_driven}
use Rattle.net_build.proofs.Steps.{bit_later, wire_later}
use Rattle.net_queue.proofs.Alike.{alike_made}
use Rattle.net_queue.specs.Queues.{queue_registers}
use Rattle.net_tests.proofs.queued.queue.Goals as goal

only_wire : (b : Built) (w : Wire) → IsWire b w → w.width ≡ 4 → AreWires b (4 ∷ []) (w ∷ [])
only_wire b w h e = record { each = λ k d l. at k d l }
  where
    at : (k : ℕ) (d : Wire) → k < length (w ∷ []) → IsWire b (get_or (w ∷ []) k d) × ((get_or (w ∷ []) k d).width ≡ get_or (4 ∷ []) k 0)
    at zero d l = (h, e)
    at (suc k) d l = absurd (omega (arith, l))

pub close_queue-requires-clause-bits : goal.close_queue-requires-clause-bits
close_queue-requires-clause-bits c =
    let g = c.in_ok-queue.ensures.opens.later in
    (bit_later _ _ c.args.push g c.requires.bits.0, bit_later _ _ c.args.pop g c.requires.bits.1)

pub close_queue-requires-clause-items : goal.close_queue-requires-clause-items
close_queue-requires-clause-items c =
    let o = c.in_ok-queue.ensures in
    alike_made _ (4 ∷ []) c.in_ok-queue.queue.head (c.args.item ∷ []) o.long refl o.widths (only_wire _ c.args.item (wire_later _ _ c.args.item o.opens.later c.requires.item.0) c.requires.item.1)

pub returns-clause-adds : goal.returns-clause-adds
returns-clause-adds c = opened_all_driven _ _ _ (numbers (queue_registers c.in_ok-queue.queue)) c.in_ok-queue.ensures.opens c.in_ok-close_queue.ensures.drives

pub returns-clause-wires : goal.returns-clause-wires
returns-clause-wires c =
    let l = c.in_ok-close_queue.ensures.drives.later in
    let q = c.in_ok-queue.queue in
    let o = c.in_ok-queue.ensures in (
      wire_later _ _ q.ready l o.open.ready.wire,
      wire_later _ _ q.valid l o.open.valid.wire,
      subst (λ (ws : List Wire). IsWire c.close_queue.new.builder (get_or ws 0 (record { number = 0; width = 0 }))) (sym c.as_slice.ensures)
          (wire_later _ _ (get_or q.head 0 (record { number = 0; width = 0 })) l (o.widths.each 0 (record { number = 0; width = 0 }) (omega (arith, o.long))).0),
    )
