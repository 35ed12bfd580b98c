-- In a sound plan, moves of different ports and of different inputs and outputs of leaves use different queues.
use Rattle.std.proofs.Common.{◌≡◌, ◌≢◌, ℕ, Bool, true, false, Option, Some, None, refl, sym, ap, ◌∙◌, subst, slice_get}
use Rattle.std.specs.Option.{option_map, option_and_then}
use Rattle.std.proofs.lemmas.Option.{same_Some}
use Rattle.tl_edge.specs.declared.beat.ABeat.{ABeat}
use Rattle.tl_edge.specs.declared.beat.DBeat.{DBeat}
use Rattle.tl_edge.specs.declared.beat.Tag.{Tag}
use Rattle.tl_edge.specs.declared.plan.Leaf.{Leaf}
use Rattle.tl_edge.specs.declared.plan.PlanPort.{PlanPort}
use Rattle.tl_edge.specs.declared.plan.Plan.{Plan}
use Rattle.tl_edge.specs.Plans.{edge_at, Giver, GivesTo, Taker, TakesFrom}
use Rattle.tl_edge.specs.Plans.Giver.{Out, Source}
use Rattle.tl_edge.specs.Plans.Taker.{In, Sink}
use Rattle.tl_edge.specs.SoundPlans.{IsSound}
use Rattle.tl_edge.proofs.Ways.{ends_law}
use Rattle.flow_core.specs.declared.moves.Move.{Move}
use Rattle.flow_core.specs.declared.moves.Move.TheVariants.{Enter, Leave, Reply, Return, AbsorbA, AbsorbD, ForwardA, ForwardD}
use Rattle.flow_core.specs.declared.queue.Flow.{Flow}
use Rattle.flow_core.specs.Carried.{carries_a, carries_d}
use Rattle.flow_core.specs.Queues.{still}
use Rattle.flow_core.specs.Network.{State, Part, Job, job, put_job_a, put_job_d, edge_of_port, in_edge, out_edge, leaf_job_a, leaf_job_d}
use Rattle.flow_choice.proofs.Queueing.{Apart}
use Rattle.flow_choice.proofs.Commuting.{map_some, then_some, cond_some}
use Rattle.flow_choice.proofs.Deeds.{Deed, deed_down, deed_up}
use Rattle.flow_choice.proofs.Jobs.{Kind, Port, Down, Up, kind_of, part_of, local_down, local_up, IsJob, is_job, shares_of, seen}
use Rattle.flow_choice.proofs.Meeting.{OtherKinds}

-- ---- who uses what: on channel A a giver puts and a taker takes, on channel D the other way round

abbrev pub a_giver : Move → Option Giver
a_giver (Enter port beat tag) = Some (Source port)
a_giver (Leave port) = None
a_giver (Reply port beat tag) = None
a_giver (Return port) = None
a_giver (AbsorbA leaf) = Some (Out leaf 0)
a_giver (AbsorbD leaf) = None
a_giver (ForwardA leaf input output id) = Some (Out leaf output)
a_giver (ForwardD leaf input output) = None

abbrev pub a_taker : Move → Option Taker
a_taker (Enter port beat tag) = None
a_taker (Leave port) = Some (Sink port)
a_taker (Reply port beat tag) = None
a_taker (Return port) = None
a_taker (AbsorbA leaf) = Some (In leaf 0)
a_taker (AbsorbD leaf) = None
a_taker (ForwardA leaf input output id) = Some (In leaf input)
a_taker (ForwardD leaf input output) = None

abbrev pub d_giver : Move → Option Giver
d_giver (Enter port beat tag) = None
d_giver (Leave port) = None
d_giver (Reply port beat tag) = None
d_giver (Return port) = Some (Source port)
d_giver (AbsorbA leaf) = None
d_giver (AbsorbD leaf) = Some (Out leaf 0)
d_giver (ForwardA leaf input output id) = None
d_giver (ForwardD leaf input output) = Some (Out leaf output)

abbrev pub d_taker : Move → Option Taker
d_taker (Enter port beat tag) = None
d_taker (Leave port) = None
d_taker (Reply port beat tag) = Some (Sink port)
d_taker (Return port) = None
d_taker (AbsorbA leaf) = None
d_taker (AbsorbD leaf) = Some (In leaf 0)
d_taker (ForwardA leaf input output id) = None
d_taker (ForwardD leaf input output) = Some (In leaf input)

-- two moves use nothing together
pub record AreDistinct (m n : Move) : Type 0 where
  pub a_givers : (g : Giver) → a_giver m ≡ Some g → a_giver n ≢ Some g
  pub a_takers : (t : Taker) → a_taker m ≡ Some t → a_taker n ≢ Some t
  pub d_givers : (g : Giver) → d_giver m ≡ Some g → d_giver n ≢ Some g
  pub d_takers : (t : Taker) → d_taker m ≡ Some t → d_taker n ≢ Some t

-- a flow between the queues of these
pub record Uses {E F : Type 0} {B : Type 0} (from : Option E) (to : Option F) (Takes : ℕ → E → Type 0) (Puts : ℕ → F → Type 0) (f : Flow B) : Type 0 where
  pub takes : (e : ℕ) → f.from ≡ Some e → (t : E) × (from ≡ Some t) × Takes e t
  pub puts : (p : ℕ × B) → f.put ≡ Some p → (g : F) × (to ≡ Some g) × Puts p.0 g

pub record UsesBoth (plan : Plan) (m : Move) (j : Job) : Type 0 where
  pub a : Uses (a_taker m) (a_giver m) (TakesFrom plan) (GivesTo plan) j.a
  pub d : Uses (d_giver m) (d_taker m) (GivesTo plan) (TakesFrom plan) j.d

none_some : {A : Type 0} (x : A) → None ≡ Some x → ⊥
none_some x e = cc

still_uses : {E F B : Type 0} (from : Option E) (to : Option F) (T : ℕ → E → Type 0) (P : ℕ → F → Type 0) → Uses from to T P (still {B = B})
still_uses from to T P = record { takes = λ e q. absurd (none_some e q); puts = λ p q. absurd (none_some p q) }

gives_out : (plan : Plan) (l o e : ℕ) → out_edge plan l o ≡ Some e → GivesTo plan e (Out l o)
gives_out plan l o e h = let a = then_some (λ (at : Leaf). slice_get at.outs o) (slice_get plan.leaves l) e h in (a.0, a.1, a.2)

takes_in : (plan : Plan) (l i e : ℕ) → in_edge plan l i ≡ Some e → TakesFrom plan e (In l i)
takes_in plan l i e h = let a = then_some (λ (at : Leaf). slice_get at.ins i) (slice_get plan.leaves l) e h in (a.0, a.1, a.2)

gives_source : (plan : Plan) (p e : ℕ) → edge_of_port plan.sources p ≡ Some e → GivesTo plan e (Source p)
gives_source plan p e h = let a = map_some (λ (at : PlanPort). at.edge) (slice_get plan.sources p) e h in (a.0, a.1, a.2)

takes_sink : (plan : Plan) (p e : ℕ) → edge_of_port plan.sinks p ≡ Some e → TakesFrom plan e (Sink p)
takes_sink plan p e h = let a = map_some (λ (at : PlanPort). at.edge) (slice_get plan.sinks p) e h in (a.0, a.1, a.2)

-- ---- the queues of a leaf's part

part_uses : {E F B : Type 0} (f t : ℕ) (d : Deed B) (x : E) (y : F) (T : ℕ → E → Type 0) (P : ℕ → F → Type 0) → T f x → P t y → Uses (Some x) (Some y) T P (part_of f t d).flow
part_uses {E = E} {F = F} {B = B} f t d x y T P h k = at d.looks d.act.put
  where
    put_at : (o : Option B) (p : ℕ × B) → option_map (λ beat. (t, beat)) o ≡ Some p → t ≡ p.0
    put_at None p e = absurd cc
    put_at (Some b) p e = ap (λ (p : ℕ × B). p.0) (same_Some _ _ e)

    at : (looks : Bool) (put : Option B) → Uses (Some x) (Some y) T P (part_of f t (record { looks = looks; act = record { take = d.act.take; put = put; next = d.act.next } })).flow
    at true put = record {
      takes = λ e q. (x, refl, subst (λ n. T n x) (same_Some _ _ q) h);
      puts = λ p q. (y, refl, subst (λ n. P n y) (put_at put p q) k);
    }
    at false put = record {
      takes = λ e q. absurd (none_some e q);
      puts = λ p q. (y, refl, subst (λ n. P n y) (put_at put p q) k);
    }

down_uses : (s : State) (l : ℕ) (k : Bool) (i o id : ℕ) (m : Move) (j : Job) → a_taker m ≡ Some (In l i) → a_giver m ≡ Some (Out l o) → job s m ≡ Some j → IsJob s m (Down l k i o id) → UsesBoth s.plan m j
down_uses s l k i o id m j mt mg e is =
    let a = map_some (leaf_job_a l) (option_and_then (local_down s l k i o id) (slice_get s.leaves l)) j (sym is ∙ e) in
    let b = then_some (local_down s l k i o id) (slice_get s.leaves l) a.0 a.1 in
    let c = shares_of k (in_edge s.plan l i) (out_edge s.plan l o) (deed_down b.0 id i o (seen s.a (in_edge s.plan l i))) a.0 b.2 in
    let u = part_uses c.f c.t c.d (In l i) (Out l o) (TakesFrom s.plan) (GivesTo s.plan) (takes_in s.plan l i c.f c.from_is) (gives_out s.plan l o c.t c.to_is) in
    let f : (part_of c.f c.t c.d).flow ≡ j.a = ap (λ (p : Part (ABeat × Tag)). p.flow) c.is ∙ ap (λ (j : Job). j.a) a.2 in
    let v : Uses (a_taker m) (a_giver m) (TakesFrom s.plan) (GivesTo s.plan) (part_of c.f c.t c.d).flow = rw (mt, mg) u in
    record {
      a = subst (Uses (a_taker m) (a_giver m) (TakesFrom s.plan) (GivesTo s.plan)) f v;
      d = subst (λ (j : Job). Uses (d_giver m) (d_taker m) (GivesTo s.plan) (TakesFrom s.plan) j.d) a.2 (still_uses (d_giver m) (d_taker m) (GivesTo s.plan) (TakesFrom s.plan));
    }

up_uses : (s : State) (l : ℕ) (k : Bool) (i o : ℕ) (m : Move) (j : Job) → d_giver m ≡ Some (Out l o) → d_taker m ≡ Some (In l i) → job s m ≡ Some j → IsJob s m (Up l k i o) → UsesBoth s.plan m j
up_uses s l k i o m j mg mt e is =
    let a = map_some (leaf_job_d l) (option_and_then (local_up s l k i o) (slice_get s.leaves l)) j (sym is ∙ e) in
    let b = then_some (local_up s l k i o) (slice_get s.leaves l) a.0 a.1 in
    let c = shares_of k (out_edge s.plan l o) (in_edge s.plan l i) (deed_up b.0 i o (seen s.d (out_edge s.plan l o))) a.0 b.2 in
    let u = part_uses c.f c.t c.d (Out l o) (In l i) (GivesTo s.plan) (TakesFrom s.plan) (gives_out s.plan l o c.f c.from_is) (takes_in s.plan l i c.t c.to_is) in
    let f : (part_of c.f c.t c.d).flow ≡ j.d = ap (λ (p : Part (DBeat × Tag)). p.flow) c.is ∙ ap (λ (j : Job). j.d) a.2 in
    let v : Uses (d_giver m) (d_taker m) (GivesTo s.plan) (TakesFrom s.plan) (part_of c.f c.t c.d).flow = rw (mg, mt) u in
    record {
      a = subst (λ (j : Job). Uses (a_taker m) (a_giver m) (TakesFrom s.plan) (GivesTo s.plan) j.a) a.2 (still_uses (a_taker m) (a_giver m) (TakesFrom s.plan) (GivesTo s.plan));
      d = subst (Uses (d_giver m) (d_taker m) (GivesTo s.plan) (TakesFrom s.plan)) f v;
    }

pub job_uses : (s : State) (m : Move) (j : Job) → job s m ≡ Some j → UsesBoth s.plan m j
job_uses s (Enter port beat tag) j e =
    let a = then_some (put_job_a s.plan beat tag) (edge_of_port s.plan.sources port) j e in
    let b = cond_some (carries_a (edge_at s.plan a.0) beat) _ j a.2 in
    subst (UsesBoth s.plan (Enter port beat tag)) (same_Some _ _ b.1) (record {
      a = record { takes = λ e q. absurd (none_some e q); puts = λ p q. (Source port, refl, subst (λ (p : ℕ × (ABeat × Tag)). GivesTo s.plan p.0 (Source port)) (same_Some _ _ q) (gives_source s.plan port a.0 a.1)) };
      d = still_uses None None (GivesTo s.plan) (TakesFrom s.plan);
    })
job_uses s (Leave port) j e =
    let a = map_some _ (edge_of_port s.plan.sinks port) j e in
    subst (UsesBoth s.plan (Leave port)) a.2 (record {
      a = record { takes = λ e q. (Sink port, refl, subst (λ e. TakesFrom s.plan e (Sink port)) (same_Some _ _ q) (takes_sink s.plan port a.0 a.1)); puts = λ p q. absurd (none_some p q) };
      d = still_uses None None (GivesTo s.plan) (TakesFrom s.plan);
    })
job_uses s (Reply port beat tag) j e =
    let a = then_some (put_job_d s.plan beat tag) (edge_of_port s.plan.sinks port) j e in
    let b = cond_some (carries_d (edge_at s.plan a.0) beat) _ j a.2 in
    subst (UsesBoth s.plan (Reply port beat tag)) (same_Some _ _ b.1) (record {
      a = still_uses None None (TakesFrom s.plan) (GivesTo s.plan);
      d = record { takes = λ e q. absurd (none_some e q); puts = λ p q. (Sink port, refl, subst (λ (p : ℕ × (DBeat × Tag)). TakesFrom s.plan p.0 (Sink port)) (same_Some _ _ q) (takes_sink s.plan port a.0 a.1)) };
    })
job_uses s (Return port) j e =
    let a = map_some _ (edge_of_port s.plan.sources port) j e in
    subst (UsesBoth s.plan (Return port)) a.2 (record {
      a = still_uses None None (TakesFrom s.plan) (GivesTo s.plan);
      d = record { takes = λ e q. (Source port, refl, subst (λ e. GivesTo s.plan e (Source port)) (same_Some _ _ q) (gives_source s.plan port a.0 a.1)); puts = λ p q. absurd (none_some p q) };
    })
job_uses s (AbsorbA l) j e = down_uses s l false 0 0 0 (AbsorbA l) j refl refl e (is_job s (AbsorbA l))
job_uses s (AbsorbD l) j e = up_uses s l false 0 0 (AbsorbD l) j refl refl e (is_job s (AbsorbD l))
job_uses s (ForwardA l i o id) j e = down_uses s l true i o id (ForwardA l i o id) j refl refl e (is_job s (ForwardA l i o id))
job_uses s (ForwardD l i o) j e = up_uses s l true i o (ForwardD l i o) j refl refl e (is_job s (ForwardD l i o))

-- ---- distinct moves of a sound plan use different queues

pub one_giver : (plan : Plan) (e : ℕ) (g h : Giver) → IsSound plan → GivesTo plan e g → GivesTo plan e h → g ≡ h
one_giver plan e g h sound x y =
    let one = ends_law.giver plan e sound (ends_law.given plan e g sound x) in
    one.2 g x ∙ sym (one.2 h y)

pub one_taker : (plan : Plan) (e : ℕ) (g h : Taker) → IsSound plan → TakesFrom plan e g → TakesFrom plan e h → g ≡ h
one_taker plan e g h sound x y =
    let one = ends_law.taker plan e sound (ends_law.taken plan e g sound x) in
    one.2 g x ∙ sym (one.2 h y)

flows_apart : {E F B : Type 0} (T : ℕ → E → Type 0) (P : ℕ → F → Type 0) (f1 f2 : Option E) (t1 t2 : Option F) (f g : Flow B) → ((e : ℕ) (x y : E) → T e x → T e y → x ≡ y) → ((e : ℕ) (x y : F) → P e x → P e y → x ≡ y)
    → Uses f1 t1 T P f → Uses f2 t2 T P g → ((x : E) → f1 ≡ Some x → f2 ≢ Some x) → ((x : F) → t1 ≡ Some x → t2 ≢ Some x) → Apart f g
flows_apart T P f1 f2 t1 t2 f g one two a b c d = (
  (λ e x y.
      let u = a.takes e x in
      let v = b.takes e y in
      c u.0 u.1 (v.1 ∙ ap Some (one e v.0 u.0 v.2 u.2))),
  (λ x y p q r.
      let u = a.puts x p in
      let v = b.puts y q in
      d u.0 u.1 (v.1 ∙ ap Some (two x.0 v.0 u.0 (subst (λ n. P n v.0) (sym r) v.2) u.2))),
)

pub queues_apart : (s : State) (m n : Move) (j k : Job) → IsSound s.plan → AreDistinct m n → job s m ≡ Some j → job s n ≡ Some k → Apart j.a k.a × Apart j.d k.d
queues_apart s m n j k sound h e f =
    let u = job_uses s m j e in
    let v = job_uses s n k f in (
      flows_apart (TakesFrom s.plan) (GivesTo s.plan) (a_taker m) (a_taker n) (a_giver m) (a_giver n) j.a k.a (λ e x y. one_taker s.plan e x y sound) (λ e x y. one_giver s.plan e x y sound) u.a v.a h.a_takers h.a_givers,
      flows_apart (GivesTo s.plan) (TakesFrom s.plan) (d_giver m) (d_giver n) (d_taker m) (d_taker n) j.d k.d (λ e x y. one_giver s.plan e x y sound) (λ e x y. one_taker s.plan e x y sound) u.d v.d h.d_givers h.d_takers,
    )

-- ---- and go different ways through a leaf

abbrev KindUses : Kind → Move → Type 0
KindUses Port m = Unit {0}
KindUses (Down l k i o id) m = (a_taker m ≡ Some (In l i)) × (a_giver m ≡ Some (Out l o))
KindUses (Up l k i o) m = (d_giver m ≡ Some (Out l o)) × (d_taker m ≡ Some (In l i))

kind_uses : (m : Move) → KindUses (kind_of m) m
kind_uses (Enter port beat tag) = tt
kind_uses (Leave port) = tt
kind_uses (Reply port beat tag) = tt
kind_uses (Return port) = tt
kind_uses (AbsorbA l) = (refl, refl)
kind_uses (AbsorbD l) = (refl, refl)
kind_uses (ForwardA l i o id) = (refl, refl)
kind_uses (ForwardD l i o) = (refl, refl)

ways_by : (m n : Move) (K L : Kind) → KindUses K m → KindUses L n → AreDistinct m n → OtherKinds K L
ways_by m n Port Port u v h = tt
ways_by m n Port (Down l k i o id) u v h = tt
ways_by m n Port (Up l k i o) u v h = tt
ways_by m n (Down l k i o id) Port u v h = tt
ways_by m n (Down l k i o id) (Down l' k' i' o' id') u v h = λ e. (
  (λ q. h.a_takers (In l i) u.0 (v.0 ∙ ap Some (ap (λ l. In l i') (sym e) ∙ ap (In l) (sym q)))),
  (λ q. h.a_givers (Out l o) u.1 (v.1 ∙ ap Some (ap (λ l. Out l o') (sym e) ∙ ap (Out l) (sym q)))),
)
ways_by m n (Down l k i o id) (Up l' k' i' o') u v h = tt
ways_by m n (Up l k i o) Port u v h = tt
ways_by m n (Up l k i o) (Down l' k' i' o' id) u v h = tt
ways_by m n (Up l k i o) (Up l' k' i' o') u v h = λ e. (
  (λ q. h.d_takers (In l i) u.1 (v.1 ∙ ap Some (ap (λ l. In l i') (sym e) ∙ ap (In l) (sym q)))),
  (λ q. h.d_givers (Out l o) u.0 (v.0 ∙ ap Some (ap (λ l. Out l o') (sym e) ∙ ap (Out l) (sym q)))),
)

pub ways_apart : (m n : Move) → AreDistinct m n → OtherKinds (kind_of m) (kind_of n)
ways_apart m n h = ways_by m n (kind_of m) (kind_of n) (kind_uses m) (kind_uses n) h

-- ---- moves of different ports and leaves

pub data Who : Type 0 where
  AtSource : (port : ℕ) → Who
  AtSink : (port : ℕ) → Who
  AtLeaf : (leaf : ℕ) → Who

abbrev pub who : Move → Who
who (Enter port beat tag) = AtSource port
who (Leave port) = AtSink port
who (Reply port beat tag) = AtSink port
who (Return port) = AtSource port
who (AbsorbA leaf) = AtLeaf leaf
who (AbsorbD leaf) = AtLeaf leaf
who (ForwardA leaf input output id) = AtLeaf leaf
who (ForwardD leaf input output) = AtLeaf leaf

abbrev pub who_gives : Giver → Who
who_gives (Out leaf place) = AtLeaf leaf
who_gives (Source port) = AtSource port

abbrev pub who_takes : Taker → Who
who_takes (In leaf place) = AtLeaf leaf
who_takes (Sink port) = AtSink port

pub who_a_giver : (m : Move) (g : Giver) → a_giver m ≡ Some g → who_gives g ≡ who m
who_a_giver (Enter port beat tag) g e = ap who_gives (sym (same_Some _ _ e))
who_a_giver (Leave port) g e = absurd (none_some g e)
who_a_giver (Reply port beat tag) g e = absurd (none_some g e)
who_a_giver (Return port) g e = absurd (none_some g e)
who_a_giver (AbsorbA leaf) g e = ap who_gives (sym (same_Some _ _ e))
who_a_giver (AbsorbD leaf) g e = absurd (none_some g e)
who_a_giver (ForwardA leaf input output id) g e = ap who_gives (sym (same_Some _ _ e))
who_a_giver (ForwardD leaf input output) g e = absurd (none_some g e)

pub who_a_taker : (m : Move) (g : Taker) → a_taker m ≡ Some g → who_takes g ≡ who m
who_a_taker (Enter port beat tag) g e = absurd (none_some g e)
who_a_taker (Leave port) g e = ap who_takes (sym (same_Some _ _ e))
who_a_taker (Reply port beat tag) g e = absurd (none_some g e)
who_a_taker (Return port) g e = absurd (none_some g e)
who_a_taker (AbsorbA leaf) g e = ap who_takes (sym (same_Some _ _ e))
who_a_taker (AbsorbD leaf) g e = absurd (none_some g e)
who_a_taker (ForwardA leaf input output id) g e = ap who_takes (sym (same_Some _ _ e))
who_a_taker (ForwardD leaf input output) g e = absurd (none_some g e)

pub who_d_giver : (m : Move) (g : Giver) → d_giver m ≡ Some g → who_gives g ≡ who m
who_d_giver (Enter port beat tag) g e = absurd (none_some g e)
who_d_giver (Leave port) g e = absurd (none_some g e)
who_d_giver (Reply port beat tag) g e = absurd (none_some g e)
who_d_giver (Return port) g e = ap who_gives (sym (same_Some _ _ e))
who_d_giver (AbsorbA leaf) g e = absurd (none_some g e)
who_d_giver (AbsorbD leaf) g e = ap who_gives (sym (same_Some _ _ e))
who_d_giver (ForwardA leaf input output id) g e = absurd (none_some g e)
who_d_giver (ForwardD leaf input output) g e = ap who_gives (sym (same_Some _ _ e))

pub who_d_taker : (m : Move) (g : Taker) → d_taker m ≡ Some g → who_takes g ≡ who m
who_d_taker (Enter port beat tag) g e = absurd (none_some g e)
who_d_taker (Leave port) g e = absurd (none_some g e)
who_d_taker (Reply port beat tag) g e = ap who_takes (sym (same_Some _ _ e))
who_d_taker (Return port) g e = absurd (none_some g e)
who_d_taker (AbsorbA leaf) g e = absurd (none_some g e)
who_d_taker (AbsorbD leaf) g e = ap who_takes (sym (same_Some _ _ e))
who_d_taker (ForwardA leaf input output id) g e = absurd (none_some g e)
who_d_taker (ForwardD leaf input output) g e = ap who_takes (sym (same_Some _ _ e))

pub others_distinct : (m n : Move) → who m ≢ who n → AreDistinct m n
others_distinct m n h = record {
  a_givers = λ g e f. h (sym (who_a_giver m g e) ∙ who_a_giver n g f);
  a_takers = λ t e f. h (sym (who_a_taker m t e) ∙ who_a_taker n t f);
  d_givers = λ g e f. h (sym (who_d_giver m g e) ∙ who_d_giver n g f);
  d_takers = λ t e f. h (sym (who_d_taker m t e) ∙ who_d_taker n t f);
}
