use Rattle.std.proofs.Common.{List, ap, arith, length, subst, sym, ◌∙◌}
use Rattle.net_gate.specs.declared.types.Serving.{Serving}
use Rattle.net_build.proofs.Folded.{bits_adds}
use Rattle.net_build.proofs.Steps.{adds_adds}
use Rattle.net_crossbar.specs.Crossed.{ResponsesGo}
use Rattle.net_crossbar.specs.Puts.{IsServedRow}
use Rattle.net_crossbar.specs.Places.{AllAt}
use Rattle.net_crossbar.specs.Serving.{GrantEach}
use Rattle.net_crossbar.proofs.Linked.{all_rows_adds, fields_five, gates_later, gates_of, grants_of_all, have_field, range_wanted, fitted_later, rows_of, served_rows, told_of}
use Rattle.net_crossbar.proofs.Lists.{all_lifted}
use Rattle.net_crossbar.proofs.Putting.{ask_range_adds}
use Rattle.net_crossbar.proofs.responses.build_responses.Goals as goal

pub input_wants-requires-clause-valids : goal.input_wants-requires-clause-valids
input_wants-requires-clause-valids c = (bits_adds _ _ c.args.valids.now c.in_ok-fitted.ensures.adds c.requires.valids.0, c.requires.valids.1)

pub input_wants-requires-clause-rows : goal.input_wants-requires-clause-rows
input_wants-requires-clause-rows c = have_field _ _ 5 2 c.args.heads.now (omega arith) c.in_ok-fitted.ensures.adds c.requires.heads

pub channel_gates-requires-clause-some : goal.channel_gates-requires-clause-some
channel_gates-requires-clause-some c = omega (arith, c.requires.some, ap length c.as_slice-2.ensures, c.in_ok-fitted.ensures.fitted.long)

pub channel_gates-requires-clause-wants : goal.channel_gates-requires-clause-wants
channel_gates-requires-clause-wants c = range_wanted _ c.args.valids.now c.args.heads.now c.args.blocks.now _ _ c.in_ok-wants.wants c.as_slice.ensures
    (sym (ap length c.as_slice-2.ensures ∙ c.in_ok-fitted.ensures.fitted.long)) c.in_ok-wants.ensures.asks

pub channel_gates-requires-clause-readies : goal.channel_gates-requires-clause-readies
channel_gates-requires-clause-readies c = (
  bits_adds _ _ c.args.readies.now (adds_adds _ _ _ c.in_ok-fitted.ensures.adds c.in_ok-wants.ensures.adds) c.requires.readies.0,
  c.requires.readies.1 ∙ sym (ap length c.as_slice.ensures ∙ c.in_ok-wants.ensures.long),
)

pub channel_gates-requires-clause-rows : goal.channel_gates-requires-clause-rows
channel_gates-requires-clause-rows c = rows_of _ _ 5 _ c.in_ok-fitted.fitted.rows _ c.in_ok-fitted.fitted.widths _ c.as_slice-2.ensures c.as_slice-3.ensures c.in_ok-wants.ensures.adds c.in_ok-fitted.ensures.fitted

pub channel_gates-requires-clause-told : goal.channel_gates-requires-clause-told
channel_gates-requires-clause-told c = told_of _ _ 5 _ c.in_ok-fitted.fitted.rows _ c.in_ok-fitted.fitted.widths c.as_slice-2.ensures c.in_ok-wants.ensures.adds c.in_ok-fitted.ensures.fitted

pub response_acts-requires-clause-grants : goal.response_acts-requires-clause-grants
response_acts-requires-clause-grants c = subst (λ (ss : List Serving). GrantEach c.channel_gates.new.builder (length c.args.heads.now) ss) (sym c.as_slice-4.ensures)
    (grants_of_all _ _ _ _ c.in_ok-servings.servings (ap length c.as_slice-2.ensures ∙ c.in_ok-fitted.ensures.fitted.long) c.in_ok-servings.ensures.servings)

pub response_acts-requires-clause-served : goal.response_acts-requires-clause-served
response_acts-requires-clause-served c = subst (λ (ss : List Serving). AllAt (λ k (s : Serving). IsServedRow c.channel_gates.new.builder 5 s) ss) (sym c.as_slice-4.ensures)
    (served_rows _ _ 5 _ c.in_ok-fitted.fitted.widths c.in_ok-servings.servings c.as_slice-3.ensures c.in_ok-fitted.ensures.fitted.widths_long c.in_ok-servings.ensures.servings)

pub response_acts-requires-clause-likes : goal.response_acts-requires-clause-likes
response_acts-requires-clause-likes c = all_rows_adds _ _ 5 c.args.likes.now (adds_adds _ _ _ (adds_adds _ _ _ c.in_ok-fitted.ensures.adds c.in_ok-wants.ensures.adds) c.in_ok-servings.ensures.adds) c.requires.likes

pub response_acts-requires-clause-long : goal.response_acts-requires-clause-long
response_acts-requires-clause-long c = c.requires.likes_long ∙ sym (ap length c.as_slice-4.ensures ∙ c.in_ok-servings.ensures.gates.long ∙ ap length c.as_slice.ensures ∙ c.in_ok-wants.ensures.long)

pub response_acts-requires-clause-blocks : goal.response_acts-requires-clause-blocks
response_acts-requires-clause-blocks c = sym (ap length c.as_slice-4.ensures ∙ c.in_ok-servings.ensures.gates.long ∙ ap length c.as_slice.ensures ∙ c.in_ok-wants.ensures.long)

pub returns-clause-adds : goal.returns-clause-adds
returns-clause-adds c = adds_adds _ _ _ (adds_adds _ _ _ (adds_adds _ _ _ c.in_ok-fitted.ensures.adds c.in_ok-wants.ensures.adds) c.in_ok-servings.ensures.adds) c.in_ok-acts.ensures.adds

pub returns-clause-responses : goal.returns-clause-responses
returns-clause-responses c =
    let g3 = c.in_ok-acts.ensures.adds in
    let g2 = adds_adds _ _ _ c.in_ok-servings.ensures.adds g3 in
    record {
      rows = c.in_ok-fitted.fitted.rows;
      widths = c.in_ok-fitted.fitted.widths;
      fitted = fitted_later _ _ 5 c.args.heads.now c.in_ok-fitted.fitted.rows c.in_ok-fitted.fitted.widths (adds_adds _ _ _ c.in_ok-wants.ensures.adds g2) c.in_ok-fitted.ensures.fitted;
      wants = c.in_ok-wants.wants;
      wants_long = c.in_ok-wants.ensures.long;
      asks = all_lifted _ _ c.in_ok-wants.wants (λ k row h. ask_range_adds _ _ c.args.valids.now c.args.heads.now _ row g2 h) c.in_ok-wants.ensures.asks;
      servings = c.in_ok-servings.servings;
      gates = gates_later _ _ c.args.round _ c.args.bytes c.in_ok-wants.wants c.args.readies.now c.in_ok-fitted.fitted.rows c.in_ok-servings.servings g3
          (gates_of _ c.args.round _ c.args.bytes _ c.in_ok-wants.wants c.args.readies.now _ c.in_ok-fitted.fitted.rows c.in_ok-servings.servings c.as_slice.ensures c.as_slice-2.ensures c.in_ok-servings.ensures.gates);
      fields = fields_five _ _ _ c.in_ok-fitted.fitted.widths c.in_ok-servings.servings c.as_slice-3.ensures c.in_ok-fitted.ensures.fitted.widths_long c.in_ok-servings.ensures.servings;
      go = subst (λ (ss : List Serving). ResponsesGo c.response_acts.new.builder ss (length c.args.heads.now) c.args.blocks.now c.args.likes.now c.in_ok-acts.acts.takes c.in_ok-acts.acts.puts) c.as_slice-4.ensures c.in_ok-acts.ensures.acts;
    }
