use Rattle.std.proofs.Common.{◌≡◌, ◌-◌}
use Rattle.dip_stars.specs.Edges.{with_copies}
use Rattle.dip_stars.proofs.edges.add_copies.Given as goal

abbrev pub invariant-loop-copy : goal.invariant-loop-copy
invariant-loop-copy l = with_copies (l.copies - l._copy) l.edges l.number l.bind ≡ with_copies l.copies l.fn.edges l.number l.bind
