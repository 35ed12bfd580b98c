use Rattle.std.proofs.Common.{◌<◌, ◌≤◌, ◌+◌, ◌*◌, ◌++◌, length, refl, sym, ◌∙◌, ap, subst, arith}
use Rattle.std.proofs.lemmas.List.{append-nil}
use Rattle.tl_edge.specs.Messages.{AreBytes}
use Rattle.soc_stimulus.proofs.Digits.{byte_more, none_left, data_are_bytes}
use Rattle.soc_stimulus.proofs.loads.data_bytes.Goals as goal

pub loop-place-preserved : goal.loop-place-preserved
loop-place-preserved c =
    let text = c.args.text.now in
    let n = 2 * c.loop-place.place in
    let within : n + 1 < length text = omega arith in
    rw (c.in_ok-push.ensures.ok, c.byte_value.ensures)
    (byte_more text n _ c.loop-place.bytes _ _ within refl refl (omega arith) ∙ c.loop-place.invariant)

pub returns-clause-value : goal.returns-clause-value
returns-clause-value c =
    let text = c.args.text.now in
    let few : length text ≤ 2 * c.loop-place.place + 1 = omega arith in
    sym (append-nil c.loop-place.bytes) ∙ ap (λ rest. c.loop-place.bytes ++ rest) (sym (none_left text (2 * c.loop-place.place) few)) ∙ c.loop-place.invariant

pub returns-clause-bytes : goal.returns-clause-bytes
returns-clause-bytes c =
    let text = c.args.text.now in
    let few : length text ≤ 2 * c.loop-place.place + 1 = omega arith in
    subst AreBytes
    (sym (sym (append-nil c.loop-place.bytes) ∙ ap (λ rest. c.loop-place.bytes ++ rest) (sym (none_left text (2 * c.loop-place.place) few)) ∙ c.loop-place.invariant))
    (data_are_bytes text)
