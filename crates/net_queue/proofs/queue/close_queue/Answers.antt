use Rattle.std.proofs.Common.{List, ◌∷◌, ◌++◌, cond, sym, ap, ◌∙◌, subst, arith}
use Rattle.net_build.specs.declared.types.Wire.{Wire}
use Rattle.net_build.specs.Bits.{MeansAll, wire_values}
use Rattle.net_build.specs.Registers.{AllTake, AreUndriven, DrivesAll, MayDrive, numbers}
use Rattle.net_build.specs.Values.{high}
use Rattle.net_build.proofs.DrivenLists.{drives_all_after}
use Rattle.net_build.proofs.OpenedLists.{all_undriven_adds}
use Rattle.net_build.proofs.Steps.{adds_adds, bit_adds, later_later, register_later, tells_later}
use Rattle.net_queue.specs.Queues.{queue_registers}
use Rattle.net_queue.specs.Rows.{AreAlike}
use Rattle.net_queue.proofs.Alike.{alike_adds, alike_back, alike_both}
use Rattle.net_queue.proofs.Closing.{may_four, means_all_later}
use Rattle.net_queue.proofs.Listed.{list_of_two}
use Rattle.net_queue.proofs.queue.close_queue.Goals as goal

pub next_filling-requires : goal.next_filling-requires
next_filling-requires c =
    let g = c.in_ok-kept.ensures.adds in
    (c.in_ok-kept.ensures.bit, bit_adds _ _ c.args.queue.full g c.requires.open.full, bit_adds _ _ c.args.push g c.requires.bits.0)

pub mux_row-requires-clause-pick : goal.mux_row-requires-clause-pick
mux_row-requires-clause-pick c = bit_adds _ _ c.args.queue.full (adds_adds _ _ _ c.in_ok-kept.ensures.adds c.in_ok-next.ensures.adds) c.requires.open.full

pub mux_row-requires-clause-rows : goal.mux_row-requires-clause-rows
mux_row-requires-clause-rows c =
    let g = adds_adds _ _ _ c.in_ok-kept.ensures.adds c.in_ok-next.ensures.adds in
    let q = c.args.queue in
    subst (λ (ws : List Wire). AreAlike c.next_filling.new.builder ws c.args.items.now) (sym c.as_slice-last.ensures)
    (alike_adds _ _ q.last c.args.items.now g (alike_both _ q.head q.last c.args.items.now c.requires.open.alike c.requires.items))

pub mux_row-requires-2-clause-pick : goal.mux_row-requires-2-clause-pick
mux_row-requires-2-clause-pick c = bit_adds _ _ c.in_ok-kept.kept (adds_adds _ _ _ c.in_ok-next.ensures.adds c.in_ok-next_last.ensures.adds) c.in_ok-kept.ensures.bit

pub mux_row-requires-2-clause-rows : goal.mux_row-requires-2-clause-rows
mux_row-requires-2-clause-rows c =
    let g = adds_adds _ _ _ c.in_ok-kept.ensures.adds (adds_adds _ _ _ c.in_ok-next.ensures.adds c.in_ok-next_last.ensures.adds) in
    let q = c.args.queue in
    let b = c.mux_row.new.builder in
    let more = c.in_ok-next_last.next_last in
    let a = subst (λ (ws : List Wire). AreAlike b ws more) c.as_slice-last.ensures c.in_ok-next_last.ensures.alike in
    subst (λ (ws : List Wire). AreAlike b c.as_slice-head.result.now ws) (sym c.as_slice-behind.ensures)
    (subst (λ (ws : List Wire). AreAlike b ws more) (sym c.as_slice-head.ensures)
    (alike_both b q.last q.head more (alike_back b q.head q.last (alike_adds _ _ q.head q.last g c.requires.open.alike)) a))

pub drive_all-requires-clause-undriven : goal.drive_all-requires-clause-undriven
drive_all-requires-clause-undriven c =
    let g = adds_adds _ _ _ c.in_ok-kept.ensures.adds (adds_adds _ _ _ c.in_ok-next.ensures.adds (adds_adds _ _ _ c.in_ok-next_last.ensures.adds c.in_ok-next_head.ensures.adds)) in
    let q = c.args.queue in
    let e = c.as_slice-2.ensures ∙ c.in_ok-registers.ensures
    ∙ ap (λ (ws : List Wire). q.valid ∷ q.full ∷ ws ++ c.as_slice-last.result.now) c.as_slice-head.ensures
    ∙ ap (λ (ws : List Wire). q.valid ∷ q.full ∷ q.head ++ ws) c.as_slice-last.ensures in
    subst (λ (ws : List Wire). AreUndriven c.mux_row-2.new.builder ws) (sym e) (all_undriven_adds _ _ (queue_registers q) g c.requires.open.undriven)

pub drive_all-requires-clause-nexts : goal.drive_all-requires-clause-nexts
drive_all-requires-clause-nexts c =
    let gh = c.in_ok-next_head.ensures.adds in
    let gl = adds_adds _ _ _ c.in_ok-next_last.ensures.adds gh in
    let g = adds_adds _ _ _ c.in_ok-kept.ensures.adds (adds_adds _ _ _ c.in_ok-next.ensures.adds gl) in
    let q = c.args.queue in
    let b = c.mux_row-2.new.builder in
    let n = c.in_ok-next.next in
    let heads = c.in_ok-next_head.next_head in
    let lasts = c.in_ok-next_last.next_last in
    let e = c.as_slice-2.ensures ∙ c.in_ok-registers.ensures
    ∙ ap (λ (ws : List Wire). q.valid ∷ q.full ∷ ws ++ c.as_slice-last.result.now) c.as_slice-head.ensures
    ∙ ap (λ (ws : List Wire). q.valid ∷ q.full ∷ q.head ++ ws) c.as_slice-last.ensures in
    let f = c.as_slice-3.ensures ∙ c.in_ok-nexts.ensures
    ∙ ap (λ (ws : List Wire). n.valid ∷ n.full ∷ ws ++ c.as_slice-behind.result.now) c.as_slice.ensures
    ∙ ap (λ (ws : List Wire). n.valid ∷ n.full ∷ heads ++ ws) c.as_slice-behind.ensures in
    subst (λ (ws : List Wire). MayDrive b ws c.as_slice-3.result.now) (sym e)
    (subst (λ (ws : List Wire). MayDrive b (queue_registers q) ws) (sym f)
    (may_four b q.valid q.full n.valid n.full q.head q.last heads lasts
    (bit_adds _ _ q.valid g c.requires.open.valid)
    (bit_adds _ _ q.full g c.requires.open.full)
    (bit_adds _ _ n.valid gl c.in_ok-next.ensures.bits.0)
    (bit_adds _ _ n.full gl c.in_ok-next.ensures.bits.1)
    (subst (λ (ws : List Wire). AreAlike b ws heads) c.as_slice-head.ensures c.in_ok-next_head.ensures.alike)
    (subst (λ (ws : List Wire). AreAlike b ws lasts) c.as_slice-last.ensures (alike_adds _ _ c.as_slice-last.result.now lasts gh c.in_ok-next_last.ensures.alike))))

pub returns-clause-drives : goal.returns-clause-drives
returns-clause-drives c =
    let g = adds_adds _ _ _ c.in_ok-kept.ensures.adds (adds_adds _ _ _ c.in_ok-next.ensures.adds (adds_adds _ _ _ c.in_ok-next_last.ensures.adds c.in_ok-next_head.ensures.adds)) in
    let q = c.args.queue in
    let e = c.as_slice-2.ensures ∙ c.in_ok-registers.ensures
    ∙ ap (λ (ws : List Wire). q.valid ∷ q.full ∷ ws ++ c.as_slice-last.result.now) c.as_slice-head.ensures
    ∙ ap (λ (ws : List Wire). q.valid ∷ q.full ∷ q.head ++ ws) c.as_slice-last.ensures in
    subst (λ (ws : List Wire). DrivesAll c.args.builder.now c.drive_all.new.self (numbers ws)) e (drives_all_after _ _ _ _ g c.in_ok-drive_all.ensures.drives)

pub returns-clause-list : goal.returns-clause-list
returns-clause-list c =
    let l5 = c.in_ok-drive_all.ensures.drives.later in
    let l4 = later_later _ _ _ c.in_ok-next_head.ensures.adds.later l5 in
    let l3 = later_later _ _ _ c.in_ok-next_last.ensures.adds.later l4 in
    let l2 = later_later _ _ _ c.in_ok-next.ensures.adds.later l3 in
    let l = later_later _ _ _ c.in_ok-kept.ensures.adds.later l2 in
    let q = c.args.queue in
    let b = c.drive_all.new.self in
    let n = c.in_ok-next.next in
    let heads = c.in_ok-next_head.next_head in
    let lasts = c.in_ok-next_last.next_last in
    let kept = c.in_ok-kept.kept in
    let items = c.args.items.now in
    let e = c.as_slice-2.ensures ∙ c.in_ok-registers.ensures
    ∙ ap (λ (ws : List Wire). q.valid ∷ q.full ∷ ws ++ c.as_slice-last.result.now) c.as_slice-head.ensures
    ∙ ap (λ (ws : List Wire). q.valid ∷ q.full ∷ q.head ++ ws) c.as_slice-last.ensures in
    let f = c.as_slice-3.ensures ∙ c.in_ok-nexts.ensures
    ∙ ap (λ (ws : List Wire). n.valid ∷ n.full ∷ ws ++ c.as_slice-behind.result.now) c.as_slice.ensures
    ∙ ap (λ (ws : List Wire). n.valid ∷ n.full ∷ heads ++ ws) c.as_slice-behind.ensures in
    list_of_two b q c.args.push c.args.pop kept n.valid n.full items heads lasts
    (register_later _ _ q.valid l (c.requires.open.undriven.each 0 q.valid (omega arith)).register)
    (register_later _ _ q.full l (c.requires.open.undriven.each 1 q.full (omega arith)).register)
    (subst (λ (ws : List Wire). AreAlike c.mux_row-2.new.builder ws heads) c.as_slice-head.ensures c.in_ok-next_head.ensures.alike).long
    (subst (λ (ws : List Wire). AreAlike c.mux_row.new.builder ws lasts) c.as_slice-last.ensures c.in_ok-next_last.ensures.alike).long
    (subst (λ (ws : List Wire). AllTake b (queue_registers q) ws) f (subst (λ (ws : List Wire). AllTake b ws c.as_slice-3.result.now) e c.in_ok-drive_all.ensures.take))
    (tells_later _ _ q.ready _ l c.requires.open.room)
    (tells_later _ _ kept _ l2 c.in_ok-kept.ensures.tells)
    (tells_later _ _ n.valid _ l3 c.in_ok-next.ensures.valid)
    (tells_later _ _ n.full _ l3 c.in_ok-next.ensures.full)
    (means_all_later _ _ lasts _ l4 (subst (λ (ws : List Wire). MeansAll c.mux_row.new.builder lasts (λ v. cond (high v q.full) (wire_values v ws) (wire_values v items))) c.as_slice-last.ensures c.in_ok-next_last.ensures.values))
    (means_all_later _ _ heads _ l5 (subst (λ (ws : List Wire). MeansAll c.mux_row-2.new.builder heads (λ v. cond (high v kept) (wire_values v q.head) (wire_values v ws))) c.as_slice-behind.ensures (subst (λ (ws : List Wire). MeansAll c.mux_row-2.new.builder heads (λ v. cond (high v kept) (wire_values v ws) (wire_values v c.as_slice-behind.result.now))) c.as_slice-head.ensures c.in_ok-next_head.ensures.values)))
