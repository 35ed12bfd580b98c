use Rattle.net_turns.proofs.flow.widen.Goals as goal

pub returns-clause-flow : goal.returns-clause-flow
returns-clause-flow c = record {
  made = λ v s. c.in_ok-passing.ensures.take.at v s;
  take = λ v s. c.in_ok-passing.ensures.take.at v s;
  put = λ v s. c.in_ok-passing.ensures.put.at v s;
}
