use Rattle.std.proofs.Common.{rules, sym}
use Rattle.dip_checks.proofs.Rows.{neighbours_answer, row_answers, pairs_answer}
use Rattle.dip_checks.proofs.sets.some_overlap.Goals as goal

pub returns-then-stand_in_row : goal.returns-then-stand_in_row
returns-then-stand_in_row c =
    row_answers c.args.sets c.into_vec-sorted.result.items c.sort_unstable_by_key.new.self.items c.as_slice-sorted.result.now
    c.into_vec-sorted.ensures c.sort_unstable_by_key.ensures.permutation c.as_slice-sorted.ensures.value (c.if-stand_in_row.ensures.0 (search rules))

pub returns : goal.returns
returns c =
    pairs_answer c.args.sets c.into_vec-sorted.result.items c.sort_unstable_by_key.new.self.items c.as_slice-sorted.result.now c.has_overlap.result
    c.into_vec-sorted.ensures c.sort_unstable_by_key.ensures.permutation c.as_slice-sorted.ensures.value c.has_overlap.ensures

pub returns-then-neighbours_overlap : goal.returns-then-neighbours_overlap
returns-then-neighbours_overlap c =
    neighbours_answer c.args.sets c.into_vec-sorted.result.items c.sort_unstable_by_key.new.self.items c.as_slice-sorted.result.now
    c.into_vec-sorted.ensures c.sort_unstable_by_key.ensures.permutation c.as_slice-sorted.ensures.value (sym c.if-neighbours_overlap.ensures)
