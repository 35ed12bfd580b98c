use Rattle.std.proofs.Common.{◌<◌, ◌∙◌, [], List, sym, ap, length, subst, arith}
use Rattle.net_build.specs.declared.types.Wire.{Wire}
use Rattle.net_build.proofs.RowLists.{rows_adds}
use Rattle.net_gate.specs.Built.{IsRow}
use Rattle.std.proofs.lemmas.List.{get_or_default}
use Rattle.net_gate.proofs.Gated.{one_bit, tells_first}
use Rattle.net_gate.proofs.Machined.{single_is}
use Rattle.net_gate.proofs.gate.build_single_gate.Goals as goal

pub returns-clause-serving : goal.returns-clause-serving
returns-clause-serving c =
    let b : 0 < length c.args.rows.now = omega (arith, c.requires.one, c.requires.rows.1) in
    let rows = rows_adds _ _ c.args.widths.now c.args.rows.now c.in_ok-valid.ensures.adds c.requires.rows.0 in
    record {
      grants = one_bit _ c.in_ok-valid.valid c.in_ok-grants.grants c.in_ok-grants.ensures c.in_ok-valid.ensures.bit;
      long = ap length c.in_ok-grants.ensures ∙ sym c.requires.one;
      valid = c.in_ok-valid.ensures.bit;
      row = subst (λ (ws : List Wire). IsRow c.both.new.builder c.args.widths.now ws) (sym (c.in_ok-items.ensures ∙ c.index-rows-0.is)) (record { long = rows.long 0 _ b; wires = rows.wires 0 _ b });
    }

pub returns-clause-gate : goal.returns-clause-gate
returns-clause-gate c = λ round rest most.
    single_is _ round rest most c.args.ready c.args.wants.now c.args.rows.now _ c.requires.one c.requires.rows.1 c.in_ok-grants.ensures
    (c.in_ok-items.ensures ∙ c.index-rows-0.is ∙ get_or_default c.args.rows.now 0 _ [] (omega (arith, c.requires.one, c.requires.rows.1)))
    (tells_first _ c.in_ok-valid.valid c.args.ready c.args.wants.now _ (omega (arith, c.requires.one)) c.in_ok-valid.ensures.tells)
