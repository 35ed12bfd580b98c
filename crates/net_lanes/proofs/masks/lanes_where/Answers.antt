use Rattle.std.proofs.Common.{◌%◌, ◌^◌, ◌<◌, ℕ, sym, ap, ◌∙◌, subst, arith}
use Rattle.std.proofs.lemmas.Nat.{one_shl}
use Rattle.tl_edge.proofs.LaneByLane.{active_law}
use Rattle.net_lanes.proofs.masks.lanes_where.Goals as goal

pub returns-then-address-size-eq0-clause-small : goal.returns-then-address-size-eq0-clause-small
returns-then-address-size-eq0-clause-small c = subst (λ (n : ℕ). n < 2 ^ c.args.width) (sym c.active_lanes.ensures) (active_law.fits c.args.width c.args.size c.args.address c.requires.width
    (ap (λ (n : ℕ). c.args.address % n) (sym (one_shl c.args.size 64 (omega (arith, c.requires.size)))) ∙ c.if-address-size-eq0.true))
