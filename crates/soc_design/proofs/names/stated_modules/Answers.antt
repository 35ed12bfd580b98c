use Rattle.std.proofs.Common.{◌≡◌, ◌∙◌, ap, sym, arith, take, ◌++◌, ◌∷◌, [], is_none, length, rules}
use Rattle.toml.specs.View.{view, table_view, items_view}
use Rattle.soc_design.specs.Stated.{names_at, module_after, module_at}
use Rattle.soc_design.specs.Reading.{module_is_unnamed, modules_in}
use Rattle.toml_shape.proofs.Counting.{count-items_view}
use Rattle.toml_shape.proofs.Failing.{passes}
use Rattle.soc_design.proofs.Naming.{name_more, all_names}
use Rattle.toml_shape.proofs.Stating.{each_more, one_more}
use Rattle.soc_design.proofs.names.stated_modules.Goals as goal
use Rattle.toml_shape.specs.Entries.{count}

pub loop-place-init : goal.loop-place-init
loop-place-init c =
    let n : count (modules_in (table_view c.args.table.now)) ≡ length c.tables_in-modules.result.now =
    ap count (sym c.tables_in-modules.ensures) ∙ count-items_view c.tables_in-modules.result.now in
    record {
      few = omega arith;
      named = search rules;
      counted = search rules;
      tree_counted = search rules;
      stated = search rules;
      passes = search rules;
    }

pub loop-place-preserved : goal.loop-place-preserved
loop-place-preserved c =
    let top = c.args.top.now in
    let modules = c.tables_in-modules.result.now in
    let names = names_at (items_view modules) in
    let place = c.loop-place.place in
    let value = c.index-modules-place.result in
    let name = rw c.in-Some.is at c.in_ok-module.ensures.named in
    let states =
    ap (λ earlier. module_after earlier (view value)) (sym c.loop-place.invariant.named)
    ∙ sym c.in_ok-module.ensures.value
    ∙ c.in-Some.is in
    record {
      few = c.loop-place.invariant.few;
      named =
          c.in_ok-add.ensures.ok
          ∙ ap (λ earlier. earlier ++ c.as_str.result.now ∷ []) c.loop-place.invariant.named
          ∙ ap (λ last. (top ∷ take place names) ++ last ∷ []) (c.as_str.ensures.text ∙ name)
          ∙ ap (λ earlier. top ∷ earlier) (sym (name_more place modules value c.index-modules-place.is c.loop-place-test.true));
      counted = ap length c.in_ok-add.ensures.ok ∙ one_more _ _ _ c.loop-place.invariant.counted;
      tree_counted = ap length c.in_ok-push.ensures.ok ∙ one_more _ _ _ c.loop-place.invariant.tree_counted;
      stated =
          rw c.in_ok-push.ensures.ok
          (each_more (module_at top names) place modules value _ _ c.index-modules-place.is c.loop-place-test.true states
          ∙ c.loop-place.invariant.stated);
      passes =
          passes (module_is_unnamed top names) place _ _ modules value c.index-modules-place.is c.loop-place-test.true (omega arith)
          (ap is_none states)
          ∙ c.loop-place.invariant.passes;
    }

pub returns-clause-names : goal.returns-clause-names
returns-clause-names c =
    c.loop-place.invariant.named
    ∙ ap (λ names. c.args.top.now ∷ names)
    (all_names c.loop-place.place c.tables_in-modules.result.now c.loop-place.auto.place-end c.loop-place-test.false
    ∙ ap names_at c.tables_in-modules.ensures)
