use Rattle.std.proofs.Common.{length, sym, ◌∙◌, arith}
use Rattle.ver_text.proofs.Scans.{refused_there, refused_later, refused_end}
use Rattle.ver_text.proofs.syntax.refused_from.Goals as goal

pub returns-in_default : goal.returns-in_default
returns-in_default c =
    let text = c.args.text.now in
    sym (refused_there text c.loop-at.state _ c.loop-at.at (length text) c.loop-at-test.true c.lexeme_at-lexeme.ensures.lexeme
    c.lexeme_at-lexeme.ensures.within (sym c.after.ensures ∙ c.in_default.is)) ∙ c.loop-at.invariant.rest

pub loop-at-preserved : goal.loop-at-preserved
loop-at-preserved c =
    let text = c.args.text.now in
    record {
      within = omega (arith, c.lexeme_at-lexeme.ensures.within);
      rest = sym (refused_later text c.loop-at.state _ _ c.loop-at.at (length text) c.loop-at-test.true c.lexeme_at-lexeme.ensures.lexeme
          c.lexeme_at-lexeme.ensures.within (sym c.after.ensures ∙ c.in-Some.is)) ∙ c.loop-at.invariant.rest;
    }

pub returns-then-is_whole : goal.returns-then-is_whole
returns-then-is_whole c =
    let text = c.args.text.now in
    let e = refused_end text c.loop-at.state c.loop-at.at (length text) c.loop-at-test.false in
    let w = sym c.is_whole.ensures ∙ c.if-is_whole.true in
    sym (rw w at e) ∙ c.loop-at.invariant.rest

pub returns-else-is_whole : goal.returns-else-is_whole
returns-else-is_whole c =
    let text = c.args.text.now in
    let e = refused_end text c.loop-at.state c.loop-at.at (length text) c.loop-at-test.false in
    let w = sym c.is_whole.ensures ∙ c.if-is_whole.false in
    sym (rw w at e) ∙ c.loop-at.invariant.rest
