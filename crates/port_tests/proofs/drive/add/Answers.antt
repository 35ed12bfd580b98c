use Rattle.std.proofs.Common.{rules, All, ◌≡◌, [], ◌∷◌, ◌++◌, subst, sym, arith}
use Rattle.std.proofs.lemmas.List.Elements.{All-append, All-cons, All-nil}
use Rattle.sim_ports.specs.Sources.{MayBeSent}
use Rattle.port_tests.proofs.drive.add.Goals as goal

pub returns : goal.returns
returns c =
    let one : MayBeSent 2 c.args.request = record {
      shape = c.is_shaped.ensures (search rules);
      id = omega (arith, c.if-request-ge2.false);
    } in
    let now : c.push.new.self ≡ c.args.requests.now ++ c.args.request ∷ [] = c.in_ok-push.ensures.ok in
    let alone = All-cons (MayBeSent 2) c.args.request [] one (All-nil (MayBeSent 2)) in
    subst (All (MayBeSent 2)) (sym now)
    (All-append (MayBeSent 2) c.args.requests.now (c.args.request ∷ []) c.requires alone)
