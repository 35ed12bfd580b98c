-- A move of a leaf as a function of the leaf's state and of the heads that it sees.
use Rattle.std.proofs.Common.{◌≡◌, ℕ, Bool, true, false, List, Option, Some, None, refl, sym, ap, ◌∙◌, subst, cond, slice_get, is_some}
use Rattle.std.specs.Option.{option_map, option_and_then}
use Rattle.std.proofs.lemmas.Option.{same_Some}
use Rattle.tl_edge.specs.declared.beat.ABeat.{ABeat}
use Rattle.tl_edge.specs.declared.beat.DBeat.{DBeat}
use Rattle.tl_edge.specs.declared.beat.Tag.{Tag}
use Rattle.flow_core.specs.declared.moves.Move.{Move}
use Rattle.flow_core.specs.declared.moves.Move.TheVariants.{Enter, Leave, Reply, Return, AbsorbA, AbsorbD, ForwardA, ForwardD}
use Rattle.flow_core.specs.declared.queue.Flow.{Flow}
use Rattle.flow_core.specs.Acts.{Act}
use Rattle.flow_core.specs.Tags.{Held, held_down, held_down_alone, held_up, held_up_alone}
use Rattle.flow_core.specs.Queues.{queue, head_in, puts}
use Rattle.flow_core.specs.Network.{State, Part, Job, job, by_head, by_itself, part_between, part_down, part_up, part_a, part_d, both, in_edge, out_edge, forwarding, absorbing, leaf_job_a, leaf_job_d}
use Rattle.flow_choice.proofs.Commuting.{map_some, then_some, ending}
use Rattle.flow_choice.proofs.Deeds.{Deed, looking, deed, deed_down, deed_up, closing}

-- ---- moves by what they are of

pub data Kind : Type 0 where
  Port : Kind
  Down : (leaf : ℕ) (puts : Bool) (input output id : ℕ) → Kind
  Up : (leaf : ℕ) (puts : Bool) (input output : ℕ) → Kind

abbrev pub kind_of : Move → Kind
kind_of (Enter port beat tag) = Port
kind_of (Leave port) = Port
kind_of (Reply port beat tag) = Port
kind_of (Return port) = Port
kind_of (AbsorbA leaf) = Down leaf false 0 0 0
kind_of (AbsorbD leaf) = Up leaf false 0 0
kind_of (ForwardA leaf input output id) = Down leaf true input output id
kind_of (ForwardD leaf input output) = Up leaf true input output

-- ---- parts

abbrev pub picks : {B : Type 0} → Bool → Part B → Option (Part B)
picks true part = forwarding part
picks false part = absorbing part

abbrev pub part_of : {B : Type 0} → ℕ → ℕ → Deed B → Part B
part_of from to d = cond d.looks (by_head from to d.act) (by_itself to d.act)

-- the head of an edge, where there is an edge
abbrev pub seen : {B : Type 0} → List (List B) → Option ℕ → Option B
seen queues edge = option_and_then (λ e. head_in (queue queues e)) edge

-- a leaf's part between two edges by its deed, where both are there and the deed is of the kind that is asked
abbrev pub shared : {B : Type 0} → Bool → Option ℕ → Option ℕ → Option (Deed B) → Option (Part B)
shared puts from to does = option_and_then (picks puts) (both from to (λ f t. option_map (part_of f t) does))

pub between_is : {B : Type 0} (queues : List (List B)) (from to : ℕ) (alone : Option (Act B Held)) (act : B → Option (Act B Held))
    → part_between queues from to alone act ≡ option_map (part_of from to) (deed alone act (head_in (queue queues from)))
between_is queues from to (Some x) act = refl
between_is {B = B} queues from to None act = at (option_and_then act (head_in (queue queues from)))
  where
    at : (o : Option (Act B Held)) → option_map (by_head from to) o ≡ option_map (part_of from to) (option_map looking o)
    at None = refl
    at (Some x) = refl

-- ---- a move of a leaf, by its state

abbrev pub local_down : State → ℕ → Bool → ℕ → ℕ → ℕ → Held → Option (Part (ABeat × Tag))
local_down s l k i o id held = shared k (in_edge s.plan l i) (out_edge s.plan l o) (deed_down held id i o (seen s.a (in_edge s.plan l i)))

abbrev pub local_up : State → ℕ → Bool → ℕ → ℕ → Held → Option (Part (DBeat × Tag))
local_up s l k i o held = shared k (out_edge s.plan l o) (in_edge s.plan l i) (deed_up held i o (seen s.d (out_edge s.plan l o)))

abbrev pub job_down : ℕ → Option (Part (ABeat × Tag)) → Option Job
job_down l part = option_map (leaf_job_a l) part

abbrev pub job_up : ℕ → Option (Part (DBeat × Tag)) → Option Job
job_up l part = option_map (leaf_job_d l) part

part_a_is : (s : State) (l i o id : ℕ) (k : Bool) → option_and_then (picks k) (part_a s l i o id) ≡ option_and_then (local_down s l k i o id) (slice_get s.leaves l)
part_a_is s l i o id k = at (slice_get s.leaves l)
  where
    inner : (held : Held) (e f : Option ℕ) → option_and_then (picks k) (both e f (part_down s.a held i o id)) ≡ shared k e f (deed_down held id i o (seen s.a e))
    inner held None f = refl
    inner held (Some from) None = refl
    inner held (Some from) (Some to) = ap (option_and_then (picks k)) (between_is s.a from to (held_down_alone held id i o) (held_down held id i o))

    at : (o' : Option Held) → option_and_then (picks k) (option_and_then (λ held. both (in_edge s.plan l i) (out_edge s.plan l o) (part_down s.a held i o id)) o') ≡ option_and_then (local_down s l k i o id) o'
    at None = refl
    at (Some held) = inner held (in_edge s.plan l i) (out_edge s.plan l o)

part_d_is : (s : State) (l i o : ℕ) (k : Bool) → option_and_then (picks k) (part_d s l i o) ≡ option_and_then (local_up s l k i o) (slice_get s.leaves l)
part_d_is s l i o k = at (slice_get s.leaves l)
  where
    inner : (held : Held) (e f : Option ℕ) → option_and_then (picks k) (both e f (part_up s.d held i o)) ≡ shared k e f (deed_up held i o (seen s.d e))
    inner held None f = refl
    inner held (Some from) None = refl
    inner held (Some from) (Some to) = ap (option_and_then (picks k)) (between_is s.d from to (held_up_alone held i o) (held_up held i o))

    at : (o' : Option Held) → option_and_then (picks k) (option_and_then (λ held. both (out_edge s.plan l o) (in_edge s.plan l i) (part_up s.d held i o)) o') ≡ option_and_then (local_up s l k i o) o'
    at None = refl
    at (Some held) = inner held (out_edge s.plan l o) (in_edge s.plan l i)

-- the job of a move by its kind; a port's is the same in every state of the plan
abbrev pub IsJob : State → Move → Kind → Type 0
IsJob s m Port = (t : State) → t.plan ≡ s.plan → job t m ≡ job s m
IsJob s m (Down l k i o id) = job s m ≡ job_down l (option_and_then (local_down s l k i o id) (slice_get s.leaves l))
IsJob s m (Up l k i o) = job s m ≡ job_up l (option_and_then (local_up s l k i o) (slice_get s.leaves l))

pub is_job : (s : State) (m : Move) → IsJob s m (kind_of m)
is_job s (Enter port beat tag) = λ t e. rw e refl
is_job s (Leave port) = λ t e. rw e refl
is_job s (Reply port beat tag) = λ t e. rw e refl
is_job s (Return port) = λ t e. rw e refl
is_job s (AbsorbA l) = ap (job_down l) (part_a_is s l 0 0 0 false)
is_job s (AbsorbD l) = ap (job_up l) (part_d_is s l 0 0 false)
is_job s (ForwardA l i o id) = ap (job_down l) (part_a_is s l i o id true)
is_job s (ForwardD l i o) = ap (job_up l) (part_d_is s l i o true)

-- ---- a part, taken apart and put together

pub record Shares {B : Type 0} (puts : Bool) (from to : Option ℕ) (does : Option (Deed B)) (p : Part B) : Type 0 where
  pub f : ℕ
  pub t : ℕ
  pub d : Deed B
  pub from_is : from ≡ Some f
  pub to_is : to ≡ Some t
  pub does_is : does ≡ Some d
  pub picked : picks puts (part_of f t d) ≡ Some (part_of f t d)
  pub is : part_of f t d ≡ p

picks_is : {B : Type 0} (k : Bool) (p q : Part B) → picks k p ≡ Some q → p ≡ q
picks_is {B = B} true p q e = at (is_some p.flow.put) e
  where
    at : (b : Bool) → cond b (Some p) None ≡ Some q → p ≡ q
    at true e = same_Some _ _ e
    at false e = absurd cc
picks_is {B = B} false p q e = at (is_some p.flow.put) e
  where
    at : (b : Bool) → cond b None (Some p) ≡ Some q → p ≡ q
    at true e = absurd cc
    at false e = same_Some _ _ e

picks_again : {B : Type 0} (k : Bool) (p q : Part B) → q.flow ≡ p.flow → picks k p ≡ Some p → picks k q ≡ Some q
picks_again {B = B} true p q g e = at (is_some p.flow.put) (is_some q.flow.put) (ap (λ (f : Flow B). is_some f.put) g) e
  where
    at : (b c : Bool) → c ≡ b → cond b (Some p) None ≡ Some p → cond c (Some q) None ≡ Some q
    at b true h e = refl
    at true false h e = absurd cc
    at false false h e = absurd cc
picks_again {B = B} false p q g e = at (is_some p.flow.put) (is_some q.flow.put) (ap (λ (f : Flow B). is_some f.put) g) e
  where
    at : (b c : Bool) → c ≡ b → cond b None (Some p) ≡ Some p → cond c None (Some q) ≡ Some q
    at b false h e = refl
    at true true h e = absurd cc
    at false true h e = absurd cc

pub shares_of : {B : Type 0} (k : Bool) (from to : Option ℕ) (does : Option (Deed B)) (p : Part B) → shared k from to does ≡ Some p → Shares k from to does p
shares_of k from to does p e =
    let a = then_some (picks k) (both from to (λ f t. option_map (part_of f t) does)) p e in
    let b = then_some (λ f. option_and_then (λ t. option_map (part_of f t) does) to) from a.0 a.1 in
    let c = then_some (λ t. option_map (part_of b.0 t) does) to a.0 b.2 in
    let d = map_some (part_of b.0 c.0) does a.0 c.2 in
    let q = picks_is k a.0 p a.2 in
    record {
      f = b.0;
      t = c.0;
      d = d.0;
      from_is = b.1;
      to_is = c.1;
      does_is = d.1;
      picked = ap (picks k) (d.2 ∙ q) ∙ subst (λ r. picks k r ≡ Some p) q a.2 ∙ ap Some (sym (d.2 ∙ q));
      is = d.2 ∙ q;
    }

pub shares_from : {B : Type 0} (k : Bool) (from to : Option ℕ) (does : Option (Deed B)) (f t : ℕ) (d : Deed B) → from ≡ Some f → to ≡ Some t → does ≡ Some d → picks k (part_of f t d) ≡ Some (part_of f t d)
    → shared k from to does ≡ Some (part_of f t d)
shares_from k from to does f t d e g h p = rw (e, g, h) p

-- the same deed with another state afterwards
pub closed_flow : {B : Type 0} (f t : ℕ) (d : Deed B) (end : Held) → part_of f t (closing d end) ≡ record { flow = (part_of f t d).flow; next = end }
closed_flow {B = B} f t d end = at d.looks d.act
  where
    at : (b : Bool) (act : Act B Held) → part_of f t (record { looks = b; act = ending act end }) ≡ record { flow = (part_of f t (record { looks = b; act = act })).flow; next = end }
    at true act = refl
    at false act = refl

pub next_is : {B : Type 0} (f t : ℕ) (d : Deed B) → (part_of f t d).next ≡ d.act.next
next_is {B = B} f t d = at d.looks d.act
  where
    at : (b : Bool) (act : Act B Held) → (part_of f t (record { looks = b; act = act })).next ≡ act.next
    at true act = refl
    at false act = refl

-- a part again, by the same deed with another end
pub shares_again : {B : Type 0} (k : Bool) (from to : Option ℕ) (does others : Option (Deed B)) (p : Part B) (m : Shares k from to does p) (end : Held) → others ≡ Some (closing m.d end)
    → shared k from to others ≡ Some (record { flow = p.flow; next = end })
shares_again {B = B} k from to does others p m end e =
    let c = closed_flow m.f m.t m.d end in
    let g : (part_of m.f m.t (closing m.d end)).flow ≡ (part_of m.f m.t m.d).flow = ap (λ (q : Part B). q.flow) c in
    shares_from k from to others m.f m.t (closing m.d end) m.from_is m.to_is e (picks_again k (part_of m.f m.t m.d) (part_of m.f m.t (closing m.d end)) g m.picked)
    ∙ ap Some c ∙ ap (λ (q : Part B). Some (record { flow = q.flow; next = end })) m.is

-- ---- what a deed looks at

-- where it looks, the same head
abbrev pub Keeps : {B : Type 0} → Option ℕ → Option B → Option B → Type 0
Keeps None head other = Unit {0}
Keeps (Some edge) head other = other ≡ head

-- with the same head where it looks at one, it is the same
pub same_deed : {B : Type 0} (alone : Option (Act B Held)) (act : B → Option (Act B Held)) (f t : ℕ) (head other : Option B) (d : Deed B) → deed alone act head ≡ Some d
    → Keeps (part_of f t d).flow.from head other → deed alone act other ≡ Some d
same_deed (Some x) act f t head other d e h = e
same_deed {B = B} None act f t head other d e h =
    let m = map_some looking (option_and_then act head) d e in
    let k : Keeps (part_of f t (looking m.0)).flow.from head other = subst (λ (d : Deed B). Keeps (part_of f t d).flow.from head other) (sym m.2) h in
    rw k e
