use Rattle.std.proofs.Common.{arith}
use Rattle.dip_sets.proofs.Pieces.{pieces_apart, pieces_each, pieces_together, pieces_push, pieces_stay, pieces_all}
use Rattle.dip_sets.proofs.set.AddressSet.pieces.Goals as goal

pub loop-place-preserved-in-Continue-1 : goal.loop-place-preserved-in-Continue-1
loop-place-preserved-in-Continue-1 c =
    let pushed = c.in_ok-push.ensures.ok in
    record {
      within = omega arith;
      list = pieces_push c.args.self.now c.args.other.now c.loop-place.place _ _ _ _ _ (omega arith) c.if-cut-place-eq1.true c.loop-place.invariant.list (rw c.piece.ensures at pushed);
    }

pub loop-place-preserved : goal.loop-place-preserved
loop-place-preserved c = record {
  within = omega arith;
  list = pieces_stay c.args.self.now c.args.other.now c.loop-place.place _ _ _ _ (omega arith) c.if-cut-place-eq1.false c.loop-place.invariant.list;
}

pub returns-clause-list : goal.returns-clause-list
returns-clause-list c = pieces_all c.args.self.now c.args.other.now c.loop-place.place _ _ _ (omega (arith, c.loop-place-test.false)) c.loop-place.invariant.list

pub returns-clause-members : goal.returns-clause-members
returns-clause-members c =
    rw (returns-clause-list c) (pieces_together _ _ c.cut_bits-cut.ensures.this c.cut_bits-cut.ensures.that c.requires)

pub returns-clause-disjoint : goal.returns-clause-disjoint
returns-clause-disjoint c = rw (returns-clause-list c) (pieces_apart _ _ c.cut_bits-cut.ensures.this c.cut_bits-cut.ensures.that)

pub returns-clause-pieces : goal.returns-clause-pieces
returns-clause-pieces c = rw (returns-clause-list c) (pieces_each _ _ c.cut_bits-cut.ensures.this c.cut_bits-cut.ensures.that)
