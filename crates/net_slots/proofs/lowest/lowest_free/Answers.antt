use Rattle.std.proofs.Common.{◌∙◌, ap, sym, length, subst, arith, List}
use Rattle.std.proofs.lemmas.List.FromFn.{length-range_with_len}
use Rattle.net_build.specs.declared.types.Wire.{Wire}
use Rattle.net_build.specs.Bits.{AreBits, MeansAll}
use Rattle.net_build.proofs.Folded.{bits_adds}
use Rattle.net_build.proofs.Steps.{adds_adds, bit_adds}
use Rattle.net_table.specs.Tables.{AreEntries}
use Rattle.net_slots.proofs.FirstFree.{first_is, one_width, one_width_is, places_small, some_free}
use Rattle.net_slots.proofs.lowest.lowest_free.Goals as goal

pub constants-requires-clause-small : goal.constants-requires-clause-small
constants-requires-clause-small c = places_small _ _ c.in_ok-numbers.numbers _ c.requires.small c.in_ok-numbers.ensures c.as_slice-2.ensures

pub choose-requires-clause-long : goal.choose-requires-clause-long
choose-requires-clause-long c =
    ap length c.as_slice-4.ensures ∙ c.in_ok-values.ensures.long ∙ ap length (c.as_slice-2.ensures ∙ c.in_ok-numbers.ensures) ∙ length-range_with_len 0 _
    ∙ sym (ap length c.as_slice-3.ensures ∙ c.in_ok-frees.ensures.long)

pub choose-requires-clause-some : goal.choose-requires-clause-some
choose-requires-clause-some c = omega (arith, c.requires.some, ap length c.as_slice-3.ensures, c.in_ok-frees.ensures.long)

pub choose-requires-clause-picks : goal.choose-requires-clause-picks
choose-requires-clause-picks c =
    subst (λ (ws : List Wire). AreBits c.constants.new.builder ws) (sym c.as_slice-3.ensures)
    (bits_adds _ _ c.in_ok-frees.frees (adds_adds _ _ _ c.in_ok-some.ensures.adds c.in_ok-values.ensures.adds) c.in_ok-frees.ensures.bits)

pub choose-requires-clause-values : goal.choose-requires-clause-values
choose-requires-clause-values c =
    let l = ap length c.as_slice-4.ensures ∙ c.in_ok-values.ensures.long ∙ ap length (c.as_slice-2.ensures ∙ c.in_ok-numbers.ensures) ∙ length-range_with_len 0 _ in
    one_width _ c.args.width c.as_slice-4.result.now (omega (arith, l, c.requires.some)) (subst (λ (ws : List Wire). AreEntries c.constants.new.builder c.args.width ws) (sym c.as_slice-4.ensures) c.in_ok-values.ensures.entries)

pub returns-clause-adds : goal.returns-clause-adds
returns-clause-adds c = adds_adds _ _ _ c.in_ok-frees.ensures.adds (adds_adds _ _ _ c.in_ok-some.ensures.adds (adds_adds _ _ _ c.in_ok-values.ensures.adds c.in_ok-place.ensures.adds))

pub returns-clause-bit : goal.returns-clause-bit
returns-clause-bit c = bit_adds _ _ c.in_ok-some.some (adds_adds _ _ _ c.in_ok-values.ensures.adds c.in_ok-place.ensures.adds) c.in_ok-some.ensures.bit

pub returns-clause-wire : goal.returns-clause-wire
returns-clause-wire c =
    let l = ap length c.as_slice-4.ensures ∙ c.in_ok-values.ensures.long ∙ ap length (c.as_slice-2.ensures ∙ c.in_ok-numbers.ensures) ∙ length-range_with_len 0 _ in
    (c.in_ok-place.ensures.wire.0, c.in_ok-place.ensures.wire.1 ∙ one_width_is _ c.args.width c.as_slice-4.result.now (omega (arith, l, c.requires.some)) (subst (λ (ws : List Wire). AreEntries c.constants.new.builder c.args.width ws) (sym c.as_slice-4.ensures) c.in_ok-values.ensures.entries))

pub returns-clause-some : goal.returns-clause-some
returns-clause-some c =
    some_free _ _ _ c.args.taken.now c.in_ok-frees.frees _ c.in_ok-some.some c.in_ok-some.ensures.adds (adds_adds _ _ _ c.in_ok-values.ensures.adds c.in_ok-place.ensures.adds)
    c.as_slice.ensures c.in_ok-frees.ensures.tells c.in_ok-some.ensures.tells

pub returns-clause-place : goal.returns-clause-place
returns-clause-place c =
    let g = adds_adds _ _ _ c.in_ok-values.ensures.adds c.in_ok-place.ensures.adds in
    first_is _ _ _ c.args.taken.now c.in_ok-frees.frees _ c.in_ok-values.values _ c.in_ok-place.place (adds_adds _ _ _ c.in_ok-some.ensures.adds g) c.in_ok-place.ensures.adds
    c.as_slice-3.ensures c.as_slice-4.ensures c.in_ok-frees.ensures.tells
    (subst (λ xs. MeansAll c.constants.new.builder c.in_ok-values.values (λ v. xs)) (c.as_slice-2.ensures ∙ c.in_ok-numbers.ensures) c.in_ok-values.ensures.values)
    c.in_ok-place.ensures.value
