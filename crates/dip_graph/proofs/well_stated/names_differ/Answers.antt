use Rattle.std.proofs.Common.{◌≢◌, List, length, sym, ◌∙◌, arith, refl, subst}
use Rattle.std.specs.Prelude.{AllPairs}
use Rattle.std.proofs.lemmas.List.{take_all}
use Rattle.std.proofs.lemmas.Bool.{false≢true}
use Rattle.std.proofs.lemmas.Option.{slice_get_read}
use Rattle.dip_graph.specs.declared.design.NodeEntry.{NodeEntry}
use Rattle.dip_graph.proofs.Unlike.{more, unlike}
use Rattle.dip_graph.proofs.well_stated.names_differ.Goals as goal

pub returns-then-not-is_unlike : goal.returns-then-not-is_unlike
returns-then-not-is_unlike c = (
  λ e. absurd (false≢true e),
  λ h. sym c.if-not-is_unlike.true ∙ c.is_unlike.ensures.1 (unlike c.args.nodes.now c.loop-place.place c.index-nodes-place.result c.loop-place-test.true
      (slice_get_read c.args.nodes.now (length c.args.nodes.now) c.loop-place.place c.index-nodes-place.result refl c.loop-place-test.true c.index-nodes-place.is) h),
)

pub loop-place-preserved : goal.loop-place-preserved
loop-place-preserved c =
    more c.args.nodes.now c.loop-place.place c.index-nodes-place.result c.loop-place-test.true
    (slice_get_read c.args.nodes.now (length c.args.nodes.now) c.loop-place.place c.index-nodes-place.result refl c.loop-place-test.true c.index-nodes-place.is) c.loop-place.invariant
    (c.is_unlike.ensures.0 c.if-not-is_unlike.false)

pub returns : goal.returns
returns c =
    (λ _. subst (λ (nodes : List NodeEntry). AllPairs (λ (a b : NodeEntry). a.name ≢ b.name) nodes) (take_all c.loop-place.place c.args.nodes.now (omega (arith, c.loop-place-test.false))) c.loop-place.invariant, λ _. refl)
