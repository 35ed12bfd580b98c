-- At an edge only the moves of its two ends count.
use Rattle.std.proofs.Common.{◌≡◌, ◌≢◌, ℕ, Bool, true, false, ◌||◌, ◌==◌, List, [], ◌∷◌, ◌++◌, map, Option, Some, None, cond, refl, sym, ap, ◌∙◌, subst}
use Rattle.std.specs.Option.{option_or}
use Rattle.std.proofs.lemmas.Option.{slice_get_within}
use Rattle.tl_edge.specs.Plans.{Giver, GivesTo, Taker, TakesFrom}
use Rattle.tl_edge.specs.Plans.Giver.{Out, Source}
use Rattle.tl_edge.specs.Plans.Taker.{In, Sink}
use Rattle.tl_edge.specs.SoundPlans.{IsSound}
use Rattle.flow_core.specs.declared.moves.Move.{Move}
use Rattle.flow_core.specs.declared.queue.Flow.{Flow}
use Rattle.flow_core.specs.Network.{State, Job, job}
use Rattle.flow_choice.specs.declared.offers.Offers.{Offers}
use Rattle.flow_choice.specs.Choosing.{chosen_moves}
use Rattle.flow_choice.proofs.Listing.{Each}
use Rattle.flow_choice.proofs.Queueing.{took}
use Rattle.flow_choice.proofs.Uses.{Uses, job_uses, one_giver, one_taker, who, who_gives, who_takes, who_a_giver, who_a_taker, who_d_giver, who_d_taker, a_giver, a_taker, d_giver, d_taker}
use Rattle.net_cycle.specs.Flows.{flow_down, flow_up, put_here, taken_here, first_put, any_take}
use Rattle.net_cycle.specs.Ends.{giver_moves, taker_moves, AreOfEnds}
use Rattle.net_cycle.proofs.AtEdge.{same_number, took_from}
use Rattle.net_cycle.proofs.Counting.{Sums, OthersNothing, only_source, only_sink, only_leaf}

-- a flow that uses none of an edge does nothing there
put_none : {E F B : Type 0} (from : Option E) (to : Option F) (T : ℕ → E → Type 0) (P : ℕ → F → Type 0) (f : Flow B) (e : ℕ) → Uses from to T P f → ((y : F) → to ≡ Some y → P e y → ⊥) → put_here e f.put ≡ None
put_none {B = B} from to T P f e u n = at f.put refl
  where
    at : (o : Option (ℕ × B)) → f.put ≡ o → put_here e o ≡ None
    at None k = refl
    at (Some p) k = here (p.0 == e) refl
      where
        here : (b : Bool) → (p.0 == e) ≡ b → cond b (Some p.1) None ≡ None
        here false q = refl
        here true q = let w = u.puts p k in absurd (n w.0 w.1 (subst (λ n. P n w.0) (same_number p.0 e q) w.2))

take_none : {E F B : Type 0} (from : Option E) (to : Option F) (T : ℕ → E → Type 0) (P : ℕ → F → Type 0) (f : Flow B) (e : ℕ) → Uses from to T P f → ((x : E) → from ≡ Some x → T e x → ⊥) → taken_here e (took f) ≡ false
take_none from to T P f e u n = at (taken_here e (took f)) refl
  where
    at : (b : Bool) → taken_here e (took f) ≡ b → taken_here e (took f) ≡ false
    at false k = k
    at true k = let w = u.takes e (took_from f e k) in absurd (n w.0 w.1 w.2)

pub or_nothing : {B : Type 0} (o : Option B) → option_or o None ≡ o
or_nothing None = refl
or_nothing (Some x) = refl

or_assoc : {B : Type 0} (o p q : Option B) → option_or (option_or o p) q ≡ option_or o (option_or p q)
or_assoc None p q = refl
or_assoc (Some x) p q = refl

pub or_false : (b : Bool) → (b || false) ≡ b
or_false true = refl
or_false false = refl

any_assoc : (o p q : Bool) → ((o || p) || q) ≡ (o || (p || q))
any_assoc true p q = refl
any_assoc false p q = refl

-- ---- the first put and any take as sums

module _ {B : Type 0} (flow : Move → Flow B) (e : ℕ) where
  pub put_both : (xs ys : List Move) → first_put e (map flow (xs ++ ys)) ≡ option_or (first_put e (map flow xs)) (first_put e (map flow ys))
  put_both [] ys = refl
  put_both (x ∷ xs) ys = ap (option_or (put_here e (flow x).put)) (put_both xs ys) ∙ sym (or_assoc (put_here e (flow x).put) (first_put e (map flow xs)) (first_put e (map flow ys)))

  abbrev pub puts_sum : Sums (Option B)
  puts_sum = record {
    join = option_or;
    nothing = None;
    left = λ x. refl;
    right = or_nothing;
    of = λ ms. first_put e (map flow ms);
    of_none = refl;
    of_both = put_both;
  }

  pub take_both : (xs ys : List Move) → any_take e (map flow (xs ++ ys)) ≡ (any_take e (map flow xs) || any_take e (map flow ys))
  take_both [] ys = refl
  take_both (x ∷ xs) ys = ap (λ b. taken_here e (took (flow x)) || b) (take_both xs ys) ∙ sym (any_assoc (taken_here e (took (flow x))) (any_take e (map flow xs)) (any_take e (map flow ys)))

  abbrev pub takes_sum : Sums Bool
  takes_sum = record {
    join = λ x y. x || y;
    nothing = false;
    left = λ x. refl;
    right = or_false;
    of = λ ms. any_take e (map flow ms);
    of_none = refl;
    of_both = take_both;
  }

  puts_nothing : (P : Move → Type 0) → ((m : Move) → P m → put_here e (flow m).put ≡ None) → (ms : List Move) → Each P ms → first_put e (map flow ms) ≡ None
  puts_nothing P h [] a = refl
  puts_nothing P h (m ∷ ms) a = rw (h m a.0) (puts_nothing P h ms a.1)

  takes_nothing : (P : Move → Type 0) → ((m : Move) → P m → taken_here e (took (flow m)) ≡ false) → (ms : List Move) → Each P ms → any_take e (map flow ms) ≡ false
  takes_nothing P h [] a = refl
  takes_nothing P h (m ∷ ms) a = rw (h m a.0) (takes_nothing P h ms a.1)

module _ (s : State) (offers : Offers) (sound : IsSound s.plan) where
  -- what a move does at an edge of which it is at neither end
  put_down_none : (e : ℕ) (g : Giver) → GivesTo s.plan e g → (m : Move) → who m ≢ who_gives g → put_here e (flow_down s m).put ≡ None
  put_down_none e g h m d = at (job s m) refl
    where
      at : (o : Option Job) → job s m ≡ o → put_here e (flow_down s m).put ≡ None
      at None k = rw k refl
      at (Some j) k = rw k (put_none (a_taker m) (a_giver m) (TakesFrom s.plan) (GivesTo s.plan) j.a e (job_uses s m j k).a (λ y q w. d (sym (who_a_giver m y q) ∙ ap who_gives (one_giver s.plan e y g sound w h))))

  take_down_none : (e : ℕ) (t : Taker) → TakesFrom s.plan e t → (m : Move) → who m ≢ who_takes t → taken_here e (took (flow_down s m)) ≡ false
  take_down_none e t h m d = at (job s m) refl
    where
      at : (o : Option Job) → job s m ≡ o → taken_here e (took (flow_down s m)) ≡ false
      at None k = rw k refl
      at (Some j) k = rw k (take_none (a_taker m) (a_giver m) (TakesFrom s.plan) (GivesTo s.plan) j.a e (job_uses s m j k).a (λ y q w. d (sym (who_a_taker m y q) ∙ ap who_takes (one_taker s.plan e y t sound w h))))

  put_up_none : (e : ℕ) (t : Taker) → TakesFrom s.plan e t → (m : Move) → who m ≢ who_takes t → put_here e (flow_up s m).put ≡ None
  put_up_none e t h m d = at (job s m) refl
    where
      at : (o : Option Job) → job s m ≡ o → put_here e (flow_up s m).put ≡ None
      at None k = rw k refl
      at (Some j) k = rw k (put_none (d_giver m) (d_taker m) (GivesTo s.plan) (TakesFrom s.plan) j.d e (job_uses s m j k).d (λ y q w. d (sym (who_d_taker m y q) ∙ ap who_takes (one_taker s.plan e y t sound w h))))

  take_up_none : (e : ℕ) (g : Giver) → GivesTo s.plan e g → (m : Move) → who m ≢ who_gives g → taken_here e (took (flow_up s m)) ≡ false
  take_up_none e g h m d = at (job s m) refl
    where
      at : (o : Option Job) → job s m ≡ o → taken_here e (took (flow_up s m)) ≡ false
      at None k = rw k refl
      at (Some j) k = rw k (take_none (d_giver m) (d_taker m) (GivesTo s.plan) (TakesFrom s.plan) j.d e (job_uses s m j k).d (λ y q w. d (sym (who_d_giver m y q) ∙ ap who_gives (one_giver s.plan e y g sound w h))))

  -- ---- at the giver's end, and at the taker's

  of_giver : {X : Type 0} (S : Sums X) (e : ℕ) (g : Giver) → GivesTo s.plan e g → OthersNothing S s offers (who_gives g) → S.of (chosen_moves s offers) ≡ S.of (giver_moves s offers g)
  of_giver S e (Source p) h n = only_source S s offers p (slice_get_within s.plan.sources p h.0 h.1) n
  of_giver S e (Out l o) h n = only_leaf S s offers l (slice_get_within s.plan.leaves l h.0 h.1) n

  of_taker : {X : Type 0} (S : Sums X) (e : ℕ) (t : Taker) → TakesFrom s.plan e t → OthersNothing S s offers (who_takes t) → S.of (chosen_moves s offers) ≡ S.of (taker_moves s offers t)
  of_taker S e (Sink p) h n = only_sink S s offers p (slice_get_within s.plan.sinks p h.0 h.1) n
  of_taker S e (In l i) h n = only_leaf S s offers l (slice_get_within s.plan.leaves l h.0 h.1) n

  pub at_ends : AreOfEnds s.plan s offers
  at_ends = record {
    put_a = λ e g h. of_giver (puts_sum (flow_down s) e) e g h (λ ms a. puts_nothing (flow_down s) e (λ m. who m ≢ who_gives g) (put_down_none e g h) ms a);
    take_a = λ e t h. of_taker (takes_sum (flow_down s) e) e t h (λ ms a. takes_nothing (flow_down s) e (λ m. who m ≢ who_takes t) (take_down_none e t h) ms a);
    put_d = λ e t h. of_taker (puts_sum (flow_up s) e) e t h (λ ms a. puts_nothing (flow_up s) e (λ m. who m ≢ who_takes t) (put_up_none e t h) ms a);
    take_d = λ e g h. of_giver (takes_sum (flow_up s) e) e g h (λ ms a. takes_nothing (flow_up s) e (λ m. who m ≢ who_gives g) (take_up_none e g h) ms a);
  }
