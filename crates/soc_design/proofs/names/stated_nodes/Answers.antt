use Rattle.std.proofs.Common.{ℕ, ◌+◌, List, ◌≡◌, ◌∙◌, ap, sym, refl, arith, take, ◌++◌, ◌∷◌, [], Some, is_none, length, rules}
use Rattle.std.specs.Option.{option_map, option_and_then}
use Rattle.toml.specs.View.{view, table_view, items_view}
use Rattle.toml.specs.Data.{Items}
use Rattle.std.specs.List.{list_any}
use Rattle.std.specs.Str.{bytes_eq}
use Rattle.dip_lists.specs.First.{first, failure_of}
use Rattle.soc_design.specs.Stated.{node_of, node_in, name_at, names_at, module_of, placed_node}
use Rattle.soc_design.specs.Reading.{node_is_unnamed, unnamed_nodes, first_node, nodes_in}
use Rattle.toml_shape.proofs.Counting.{count-items_view}
use Rattle.toml_shape.proofs.Failing.{passes, stops}
use Rattle.soc_design.proofs.Naming.{name_more, all_names, neither, first_of, node_name}
use Rattle.toml_shape.proofs.Stating.{states_more, states_less, all_counted, one_more}
use Rattle.soc_design.proofs.names.stated_nodes.Goals as goal
use Rattle.toml_shape.specs.Entries.{all_of, count}

same_failing : (modules : List (List ℕ)) (entry entry' : ℕ) (ds ds' : Items) → entry ≡ entry' → ds ≡ ds'
    → first (unnamed_nodes modules entry ds) ≡ first (unnamed_nodes modules entry' ds')
same_failing modules entry entry' ds ds' e d = rw (e, d) refl

pub loop-place-init : goal.loop-place-init
loop-place-init c =
    let tables = c.tables_in-tables.result.now in
    let items : length c.into_vec.result.items ≡ length c.args.limited = ap length c.into_vec.ensures in
    let begins : c.first_node-entry.result + 0 ≡ first_node (table_view c.args.table.now) = omega (arith, c.first_node-entry.ensures.value) in
    let stated = ap (all_of node_of) c.tables_in-tables.ensures ∙ c.requires.limited in
    let as_many : length c.args.limited ≡ length tables = all_counted node_of tables c.args.limited stated in
    record {
      left = stated ∙ ap Some (sym (c.into_iter-limited.ensures.rest ∙ c.into_vec.ensures));
      remaining = omega (arith, c.into_vec.result.ok.0, c.into_iter-limited.ensures.len);
      named = search rules;
      counted = search rules;
      stated = search rules;
      passes = same_failing _ _ _ _ _ begins c.tables_in-tables.ensures;
    }

pub returns-then-has-clause-err : goal.returns-then-has-clause-err
returns-then-has-clause-err c =
    let tables = c.tables_in-tables.result.now in
    let names = names_at (items_view tables) in
    let value = c.index-tables-place.result in
    let next = rw c.in-Some.is at c.next.ensures.cases in
    let parts =
    states_less node_of c.loop-place.place tables value _ _ c.index-tables-place.is c.loop-place-test.true
    (c.loop-place.invariant.left ∙ ap Some next.0) in
    ap (option_map (failure_of 4))
    (sym c.loop-place.invariant.passes
    ∙ stops (node_is_unnamed c.args.modules.now names) c.loop-place.place _ tables value c.index-tables-place.is c.loop-place-test.true
    (first_of _ _
    (ap (list_any (bytes_eq (name_at (view value)))) (sym c.loop-place.invariant.named)
    ∙ ap (λ name. list_any (bytes_eq name) c.loop-place.names) (sym (c.as_str.ensures.text ∙ node_name (view value) _ parts.0))
    ∙ sym c.has.ensures ∙ c.if-has.true)))

pub loop-place-preserved : goal.loop-place-preserved
loop-place-preserved c =
    let modules = c.args.modules.now in
    let tables = c.tables_in-tables.result.now in
    let names = names_at (items_view tables) in
    let place = c.loop-place.place in
    let value = c.index-tables-place.result in
    let next = rw c.in-Some.is at c.next.ensures.cases in
    let parts =
    states_less node_of place tables value _ _ c.index-tables-place.is c.loop-place-test.true
    (c.loop-place.invariant.left ∙ ap Some next.0) in
    let name = node_name (view value) _ parts.0 in
    let placed = sym c.module_of.ensures ∙ c.in-Some-module_of.is in
    record {
      left = parts.1;
      remaining = omega arith;
      named =
          c.in_ok-add.ensures.ok
          ∙ ap (λ earlier. earlier ++ c.as_str-in-loop-place.result.now ∷ []) c.loop-place.invariant.named
          ∙ ap (λ last. take place names ++ last ∷ []) (c.as_str-in-loop-place.ensures.text ∙ name)
          ∙ sym (name_more place tables value c.index-tables-place.is c.loop-place-test.true);
      counted = ap length c.in_ok-push.ensures.ok ∙ one_more _ _ _ c.loop-place.invariant.counted;
      stated =
          rw c.in_ok-push.ensures.ok
          (states_more (placed_node modules) place tables value _ _ c.index-tables-place.is c.loop-place-test.true
          (ap (option_and_then (λ node. option_map (node_in node) (module_of modules (view value)))) parts.0
          ∙ ap (option_map (node_in c.in-Some.node)) placed)
          ∙ c.loop-place.invariant.stated);
      passes =
          passes (node_is_unnamed modules names) place _ _ tables value c.index-tables-place.is c.loop-place-test.true (omega arith)
          (neither _ _
          (ap (list_any (bytes_eq (name_at (view value)))) (sym c.loop-place.invariant.named)
          ∙ ap (λ name. list_any (bytes_eq name) c.loop-place.names) (sym (c.as_str.ensures.text ∙ name))
          ∙ sym c.has.ensures ∙ c.if-has.false)
          (ap is_none placed))
          ∙ c.loop-place.invariant.passes;
    }

pub returns-clause-names : goal.returns-clause-names
returns-clause-names c =
    c.loop-place.invariant.named
    ∙ all_names c.loop-place.place c.tables_in-tables.result.now c.loop-place.auto.place-end c.loop-place-test.false
    ∙ ap names_at c.tables_in-tables.ensures

pub returns-clause-counted : goal.returns-clause-counted
returns-clause-counted c =
    let n : count (nodes_in (table_view c.args.table.now)) ≡ length c.tables_in-tables.result.now =
    ap count (sym c.tables_in-tables.ensures) ∙ count-items_view c.tables_in-tables.result.now in
    omega arith
