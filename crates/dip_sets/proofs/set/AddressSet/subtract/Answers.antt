use Rattle.std.proofs.Common.{◌≡◌, [], ◌∷◌, sym, rules}
use Rattle.dip_sets.proofs.Members.{disjoint_from_test}
use Rattle.dip_sets.proofs.Pieces.{alone_together}
use Rattle.dip_sets.proofs.set.AddressSet.subtract.Goals as goal

pub returns-clause-members : goal.returns-clause-members
returns-clause-members c =
    let alone : c.push.new.self ≡ c.args.self.now ∷ [] = search rules in
    rw alone (alone_together c.args.self.now c.args.other.now (disjoint_from_test _ _ (sym c.if-overlaps.ensures.test)))
