-- What a pass over steps in order gives.
use Rattle.std.proofs.Common.{◌≡◌, ℕ, ◌<◌, List, [], ◌∷◌, ◌++◌, length, Some, Result, Ok, Err, refl, sym, ap, ◌∙◌, subst, inl, inr}
use Rattle.std.specs.Prelude.{slice_get, slice_set}
use Rattle.std.proofs.lemmas.List.{length-set}
use Rattle.dip_graph.specs.declared.edges.Edge.{Edge}
use Rattle.dip_negotiate.specs.declared.steps.Step.{Step}
use Rattle.dip_negotiate.specs.Passes.{Pass, stated, Refusal, refusal, go_on, run, HoldAt, RefusesFirst}
use Rattle.dip_negotiate.specs.Demands.{IsOneOf}
use Rattle.dip_negotiate.proofs.Lookups.{get_set, get_set_other, same_picked}

-- each step asks edges that are known, and makes the port of one that isn't
abbrev pub InOrder : (Edge → List ℕ) → List ℕ → List Step → Type 0
InOrder asks known [] = Unit {0}
InOrder asks known (step ∷ steps) =
    ((x : ℕ) → IsOneOf x (asks step.edge) → IsOneOf x known) × (IsOneOf step.number known → ⊥) × InOrder asks (step.number ∷ known) steps

-- the numbers of edges that are known after steps
abbrev pub known_after : List ℕ → List Step → List ℕ
known_after known [] = known
known_after known (step ∷ steps) = known_after (step.number ∷ known) steps

-- each step's edge has a place among so many
abbrev pub Within : ℕ → List Step → Type 0
Within count [] = Unit {0}
Within count (step ∷ steps) = (step.number < count) × Within count steps

abbrev pub Agree : {P : Type 0} → List ℕ → List P → List P → Type 0
Agree known a b = (x : ℕ) → IsOneOf x known → slice_get a x ≡ slice_get b x

same_ok : {P E : Type 0} (x y : P) → ◌≡◌ {A = Result P E} (Ok x) (Ok y) → x ≡ y
same_ok x y e = cc

module _ {P : Type 0} (pass : Pass P) where
  -- what a pass leaves: the known ports as they were, and each step's equation
  pub record Done (known : List ℕ) (steps : List Step) (ports final : List P) : Type 0 where
    pub kept : (x : ℕ) → IsOneOf x known → slice_get final x ≡ slice_get ports x
    pub long : length final ≡ length ports
    pub holds : HoldAt pass final steps

  pub run_done : (known : List ℕ) (steps : List Step) (ports final : List P) → InOrder pass.asks known steps → Within (length ports) steps
      → run pass ports steps ≡ Ok final → Done known steps ports final
  run_done known [] ports final o w e = let q : ports ≡ final = same_ok ports final e in record {
    kept = λ x i. ap (λ ps. slice_get ps x) (sym q);
    long = ap length (sym q);
    holds = tt;
  }
  run_done known (step ∷ steps) ports final o w e =
      at (stated pass ports step.edge) refl e
      (λ port. run_done (step.number ∷ known) steps (slice_set ports step.number port) final o.2 (subst (λ n. Within n steps) (sym (length-set ports step.number port)) w.1))
    where
      at : (answer : Result P ℕ) → stated pass ports step.edge ≡ answer
          → go_on step.edge answer (λ port. run pass (slice_set ports step.number port) steps) ≡ Ok final
          → ((port : P) → run pass (slice_set ports step.number port) steps ≡ Ok final → Done (step.number ∷ known) steps (slice_set ports step.number port) final)
          → Done known (step ∷ steps) ports final
      at (Err n) a e f = absurd cc
      at (Ok port) a e f =
          let later = f port e in
          let kept : (x : ℕ) → IsOneOf x known → slice_get final x ≡ slice_get ports x =
          λ x i. later.kept x (inr i) ∙ get_set_other ports step.number x port (λ q. o.1 (subst (λ y. IsOneOf y known) q i)) in
          record {
            kept = kept;
            long = later.long ∙ length-set ports step.number port;
            holds = (
              record {
                port = port;
                here = later.kept step.number (inl refl) ∙ get_set ports step.number port w.0;
                is = ap (pass.says step.edge) (same_picked final ports (pass.asks step.edge) (λ x i. kept x (o.0 x i))) ∙ a;
              },
              later.holds,
            );
          }

  -- two lists of ports in which the equations hold agree
  pub only : (known : List ℕ) (steps : List Step) (a b : List P) → InOrder pass.asks known steps → Agree known a b → HoldAt pass a steps → HoldAt pass b steps
      → Agree (known_after known steps) a b
  only known [] a b o g ha hb = g
  only known (step ∷ steps) a b o g ha hb =
      let same : ha.0.port ≡ hb.0.port = same_ok ha.0.port hb.0.port
      (sym ha.0.is ∙ ap (pass.says step.edge) (same_picked a b (pass.asks step.edge) (λ x i. g x (o.0 x i))) ∙ hb.0.is) in
      only (step.number ∷ known) steps a b o.2 (λ x i. elim i [
        | inl q ↦ rw q (ha.0.here ∙ ap Some same ∙ sym hb.0.here)
        | inr j ↦ g x j
      ]) ha.1 hb.1

  -- the steps up to the first refusal
  pub record Stopped (known : List ℕ) (steps : List Step) (ports : List P) (first : Refusal) : Type 0 where
    pub front : List Step
    pub number : ℕ
    pub back : List Step
    pub split : steps ≡ front ++ record { number = number; edge = first.edge } ∷ back
    pub last : List P
    pub gone : run pass ports front ≡ Ok last
    pub refuses : stated pass last first.edge ≡ Err first.number

  pub run_stopped : (known : List ℕ) (steps : List Step) (ports : List P) (first : Refusal) → run pass ports steps ≡ Err first → Stopped known steps ports first
  run_stopped known [] ports first e = absurd cc
  run_stopped known (step ∷ steps) ports first e =
      at (stated pass ports step.edge) refl e (λ port. run_stopped (step.number ∷ known) steps (slice_set ports step.number port) first)
    where
      at : (answer : Result P ℕ) → stated pass ports step.edge ≡ answer
          → go_on step.edge answer (λ port. run pass (slice_set ports step.number port) steps) ≡ Err first
          → ((port : P) → run pass (slice_set ports step.number port) steps ≡ Err first → Stopped (step.number ∷ known) steps (slice_set ports step.number port) first)
          → Stopped known (step ∷ steps) ports first
      at (Err n) a e f =
          let q : refusal step.edge n ≡ first = cc in
          record {
            front = [];
            number = step.number;
            back = steps;
            split = ap (λ (f : Refusal). record { number = step.number; edge = f.edge } ∷ steps) q;
            last = ports;
            gone = refl;
            refuses = subst (λ (f : Refusal). stated pass ports f.edge ≡ Err f.number) q a;
          }
      at (Ok port) a e f =
          let later = f port e in
          record {
            front = step ∷ later.front;
            number = later.number;
            back = later.back;
            split = ap (λ ss. step ∷ ss) later.split;
            last = later.last;
            gone = ap (λ r. go_on step.edge r (λ port. run pass (slice_set ports step.number port) later.front)) a ∙ later.gone;
            refuses = later.refuses;
          }

front_order : (asks : Edge → List ℕ) (known : List ℕ) (a b : List Step) → InOrder asks known (a ++ b) → InOrder asks known a
front_order asks known [] b o = tt
front_order asks known (s ∷ a) b o = (o.0, o.1, front_order asks (s.number ∷ known) a b o.2)

front_within : (count : ℕ) (a b : List Step) → Within count (a ++ b) → Within count a
front_within count [] b w = tt
front_within count (s ∷ a) b w = (w.0, front_within count a b w.1)

-- what a step after others asks is known
asks_known : (asks : Edge → List ℕ) (known : List ℕ) (a : List Step) (s : Step) (b : List Step) → InOrder asks known (a ++ s ∷ b) → (x : ℕ) → IsOneOf x (asks s.edge) → IsOneOf x (known_after known a)
asks_known asks known [] s b o = o.0
asks_known asks known (t ∷ a) s b o = asks_known asks (t.number ∷ known) a s b o.2

pub refuses_first : {P : Type 0} (pass : Pass P) (steps : List Step) (ports : List P) (first : Refusal) → InOrder pass.asks [] steps → Within (length ports) steps
    → run pass ports steps ≡ Err first → RefusesFirst pass steps first
refuses_first pass steps ports first o w e =
    let s = run_stopped pass [] steps ports first e in
    record {
      front = s.front;
      number = s.number;
      back = s.back;
      split = s.split;
      ports = s.last;
      before = (run_done pass [] s.front ports s.last
          (front_order pass.asks [] s.front (record { number = s.number; edge = first.edge } ∷ s.back) (subst (λ ss. InOrder pass.asks [] ss) s.split o))
          (front_within (length ports) s.front (record { number = s.number; edge = first.edge } ∷ s.back) (subst (λ ss. Within (length ports) ss) s.split w))
          s.gone).holds;
      refuses = λ others h.
          let done = (run_done pass [] s.front ports s.last
          (front_order pass.asks [] s.front (record { number = s.number; edge = first.edge } ∷ s.back) (subst (λ ss. InOrder pass.asks [] ss) s.split o))
          (front_within (length ports) s.front (record { number = s.number; edge = first.edge } ∷ s.back) (subst (λ ss. Within (length ports) ss) s.split w))
          s.gone) in
          let agree = only pass [] s.front others s.last
          (front_order pass.asks [] s.front (record { number = s.number; edge = first.edge } ∷ s.back) (subst (λ ss. InOrder pass.asks [] ss) s.split o))
          (λ x i. absurd i) h done.holds in
          ap (pass.says first.edge) (same_picked others s.last (pass.asks first.edge) (λ x i. agree x
          (asks_known pass.asks [] s.front (record { number = s.number; edge = first.edge }) s.back (subst (λ ss. InOrder pass.asks [] ss) s.split o) x i))) ∙ s.refuses;
    }
