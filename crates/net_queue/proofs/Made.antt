-- One cycle of a list of at most two.
use Rattle.std.proofs.Common.{List, [], ◌∷◌, ◌++◌, drop, set, refl, ap, ◌∙◌}
use Rattle.std.proofs.lemmas.List.{get_or-set_same, length-set}
use Rattle.flow_core.specs.Queues.{queue}
use Rattle.net_queue.specs.Queues.{MovesLaw}

pub moves_made : {B : Type 0} → MovesLaw B
moves_made {B} = record {
  both = λ x y. refl;
  order = λ x y. refl;
  first = λ x y. refl;
  flows = λ queues edge beat l.
      let less = set queues edge (drop 1 (queue queues edge)) in
      get_or-set_same less edge (queue less edge ++ beat ∷ []) [] (rw (length-set queues edge (drop 1 (queue queues edge))) l)
      ∙ ap (λ (xs : List B). xs ++ beat ∷ []) (get_or-set_same queues edge (drop 1 (queue queues edge)) [] l);
}
