-- A crossbar's state after its chosen moves, one after another: each is made by the head that stood there at the start.
use Rattle.std.proofs.Common.{◌≡◌, ℕ, true, List, [], ◌∷◌, ◌++◌, Option, Some, None, refl, sym, ap, ◌∙◌, subst, slice_get}
use Rattle.std.specs.Option.{option_and_then, option_map}
use Rattle.tl_edge.specs.declared.beat.ABeat.{ABeat}
use Rattle.tl_edge.specs.declared.beat.DBeat.{DBeat}
use Rattle.tl_edge.specs.declared.beat.Tag.{Tag}
use Rattle.tl_edge.specs.declared.plan.Leaf.{Leaf}
use Rattle.flow_core.specs.declared.locks.Gates.{Gates}
use Rattle.flow_core.specs.declared.moves.Move.{Move}
use Rattle.flow_core.specs.declared.moves.Move.TheVariants.{ForwardA, ForwardD}
use Rattle.flow_core.specs.Acts.{Act}
use Rattle.flow_core.specs.Crossing.{Crossbar}
use Rattle.flow_core.specs.Leaves.{LeafState, down, down_alone, up, up_alone}
use Rattle.flow_core.specs.Leaves.LeafState.{XbarState}
use Rattle.flow_core.specs.Network.{State, Job, job, state_after, in_edge, out_edge}
use Rattle.flow_core.specs.Queues.{queue, head_in}
use Rattle.flow_choice.specs.Choosing.{state_after_moves}
use Rattle.flow_choice.proofs.Commuting.{map_some, get_set_same}
use Rattle.flow_choice.proofs.Jobs.{seen}
use Rattle.flow_choice.proofs.Listing.{Each}
use Rattle.flow_choice.proofs.Meeting.{AreApart, after_is, some_job}
use Rattle.flow_choice.proofs.Ordering.{AllApart, ApartFrom, all_after}
use Rattle.flow_choice.proofs.Queueing.{same_head}
use Rattle.net_queue.specs.Adapters.{act_by, state_by}
use Rattle.net_cycle.specs.Parts.{plain}
use Rattle.net_bar_cycle.proofs.Passing.{Pass, Way, IsWay, act_is, act_of, bar_held, seen_on, way_of}
use Rattle.net_bar_cycle.proofs.Crossed.{BarAt, pass_down, pass_up, down_is, up_is, way_a, way_d, job_a, job_d, job_a_is, job_d_is}

-- the moves of a crossbar
pub data OfBar (l : ℕ) : Move → Type 0 where
  goes_down : {input output : ℕ} → OfBar l (ForwardA l input output 0)
  goes_up : {input output : ℕ} → OfBar l (ForwardD l input output)

-- the state of a leaf after a move, by the head that stands in a state, and as if there were room
abbrev pub through : State → ℕ → Move → LeafState → LeafState
through s l (ForwardA m input output id) its =
    state_by its (act_by (down_alone its id input output) (down its id input output) (plain (seen s.a (in_edge s.plan l input))) true)
through s l (ForwardD m input output) its =
    state_by its (act_by (up_alone its input output) (up its input output) (plain (seen s.d (out_edge s.plan l output))) true)
through s l _ its = its

abbrev pub through_all : State → ℕ → List Move → LeafState → LeafState
through_all s l [] its = its
through_all s l (m ∷ ms) its = through_all s l ms (through s l m its)

pub through_both : (s : State) (l : ℕ) (ms ns : List Move) (its : LeafState) → through_all s l (ms ++ ns) its ≡ through_all s l ns (through_all s l ms its)
through_both s l [] ns its = refl
through_both s l (m ∷ ms) ns its = through_both s l ms ns (through s l m its)

-- ---- one move of a crossbar

-- afterwards it has these gates
record Stepped (s : State) (l : ℕ) (bar : Crossbar) (tag : Tag) (gates : Gates) (leaf : Leaf) (m : Move) : Type 0 where
  next : Gates
  at : BarAt (state_after s m) l bar tag next leaf
  is : through s l m (XbarState bar gates) ≡ XbarState bar next

-- by the act of a head that passes
next_by : {B : Type 0} (bar : Crossbar) (its : LeafState) (act : B → Option (Act B LeafState)) (pass : Pass B) → ((b : B) → act b ≡ option_map (act_of bar) (pass b))
    → (head : Option B) (p : B × Gates) → option_and_then pass head ≡ Some p → state_by its (act_by None act head true) ≡ XbarState bar p.1
next_by bar its act pass same head p e = ap (state_by its) (act_is bar act pass same head true) ∙ ap (λ o. state_by its (option_map (act_of bar) o)) e

module _ (s : State) (l : ℕ) (bar : Crossbar) (tag : Tag) (gates : Gates) (leaf : Leaf) (b : BarAt s l bar tag gates leaf) where
  pub in_is : (input : ℕ) → in_edge s.plan l input ≡ slice_get leaf.ins input
  in_is input = ap (option_and_then (λ (at : Leaf). slice_get at.ins input)) b.leaf_is

  pub out_is : (output : ℕ) → out_edge s.plan l output ≡ slice_get leaf.outs output
  out_is output = ap (option_and_then (λ (at : Leaf). slice_get at.outs output)) b.leaf_is

  after_at : (m : Move) (j : Job) (next : Gates) → job s m ≡ Some j → j.leaf ≡ Some (l, bar_held bar tag next) → BarAt (state_after s m) l bar tag next leaf
  after_at m j next e k = subst (λ (t : State). BarAt t l bar tag next leaf) (sym (after_is s m j e)) (record {
    here = rw k (get_set_same s.leaves l (bar_held bar tag next) (bar_held bar tag gates) b.here);
    leaf_is = b.leaf_is;
  })

  -- what is known of the job of one of its moves
  record HasDown (input output : ℕ) (j : Job) : Type 0 where
    its : Way ABeat
    is : IsWay s.a (pass_down bar gates input output) (slice_get leaf.ins input) (slice_get leaf.outs output) its
    job_is : job_a s l bar tag gates leaf b its ≡ j

  has_down : (input output : ℕ) (j : Job) → job s (ForwardA l input output 0) ≡ Some j → HasDown input output j
  has_down input output j e =
      let m = map_some (job_a s l bar tag gates leaf b) (way_a s l bar tag gates leaf b input output) j (sym (job_a_is s l bar tag gates leaf b input output) ∙ e) in
      record { its = m.0; is = way_of s.a (pass_down bar gates input output) (slice_get leaf.ins input) (slice_get leaf.outs output) m.0 m.1; job_is = m.2 }

  record HasUp (input output : ℕ) (j : Job) : Type 0 where
    its : Way DBeat
    is : IsWay s.d (pass_up bar gates input output) (slice_get leaf.outs output) (slice_get leaf.ins input) its
    job_is : job_d s l bar tag gates leaf b its ≡ j

  has_up : (input output : ℕ) (j : Job) → job s (ForwardD l input output) ≡ Some j → HasUp input output j
  has_up input output j e =
      let m = map_some (job_d s l bar tag gates leaf b) (way_d s l bar tag gates leaf b input output) j (sym (job_d_is s l bar tag gates leaf b input output) ∙ e) in
      record { its = m.0; is = way_of s.d (pass_up bar gates input output) (slice_get leaf.outs output) (slice_get leaf.ins input) m.0 m.1; job_is = m.2 }

  step : (m : Move) → OfBar l m → (j : Job) → job s m ≡ Some j → Stepped s l bar tag gates leaf m
  step m (goes_down {input} {output}) j e =
      let h = has_down input output j e in
      record {
        next = h.its.gates;
        at = after_at (ForwardA l input output 0) j h.its.gates e (ap (λ (j : Job). j.leaf) (sym h.job_is));
        is =
            ap (λ edge. state_by (XbarState bar gates) (act_by None (down (XbarState bar gates) 0 input output) (plain (seen s.a edge)) true)) (in_is input)
            ∙ next_by bar (XbarState bar gates) (down (XbarState bar gates) 0 input output) (pass_down bar gates input output) (down_is bar gates input output) (plain (seen s.a (slice_get leaf.ins input))) (h.its.put.0, h.its.gates)
            (seen_on s.a (pass_down bar gates input output) (slice_get leaf.ins input) (slice_get leaf.outs output) h.its h.is);
      }
  step m (goes_up {input} {output}) j e =
      let h = has_up input output j e in
      record {
        next = h.its.gates;
        at = after_at (ForwardD l input output) j h.its.gates e (ap (λ (j : Job). j.leaf) (sym h.job_is));
        is =
            ap (λ edge. state_by (XbarState bar gates) (act_by None (up (XbarState bar gates) input output) (plain (seen s.d edge)) true)) (out_is output)
            ∙ next_by bar (XbarState bar gates) (up (XbarState bar gates) input output) (pass_up bar gates input output) (up_is bar gates input output) (plain (seen s.d (slice_get leaf.outs output))) (h.its.put.0, h.its.gates)
            (seen_on s.d (pass_up bar gates input output) (slice_get leaf.outs output) (slice_get leaf.ins input) h.its h.is);
      }

  -- after a move that is apart from it a move does the same to the state: its head stands where it stood
  kept_one : (m n : Move) → OfBar l n → AreApart s m n → (its : LeafState) → through (state_after s m) l n its ≡ through s l n its
  kept_one m n (goes_down {input} {output}) a its =
      let j = some_job s m a.enabled.0 in
      let k = some_job s n a.enabled.1 in
      let h = has_down input output k.0 k.1 in
      let from : k.0.a.from ≡ Some h.its.from = ap (λ (j : Job). j.a.from) (sym h.job_is) in
      let heads : head_in (queue (state_after s m).a h.its.from) ≡ head_in (queue s.a h.its.from) =
      ap (λ (t : State). head_in (queue t.a h.its.from)) (after_is s m j.0 j.1) ∙ same_head j.0.a k.0.a h.its.from s.a j.2.room_a (a.queues j.0 k.0 j.1 k.1).0 from k.2.head_a in
      let edge : in_edge s.plan l input ≡ Some h.its.from = in_is input ∙ h.is.from_is in
      let late : in_edge (state_after s m).plan l input ≡ Some h.its.from = ap (λ (t : State). in_edge t.plan l input) (after_is s m j.0 j.1) ∙ edge in
      ap (λ head. state_by its (act_by (down_alone its 0 input output) (down its 0 input output) (plain head) true))
      (ap (seen (state_after s m).a) late ∙ heads ∙ sym (ap (seen s.a) edge))
  kept_one m n (goes_up {input} {output}) a its =
      let j = some_job s m a.enabled.0 in
      let k = some_job s n a.enabled.1 in
      let h = has_up input output k.0 k.1 in
      let from : k.0.d.from ≡ Some h.its.from = ap (λ (j : Job). j.d.from) (sym h.job_is) in
      let heads : head_in (queue (state_after s m).d h.its.from) ≡ head_in (queue s.d h.its.from) =
      ap (λ (t : State). head_in (queue t.d h.its.from)) (after_is s m j.0 j.1) ∙ same_head j.0.d k.0.d h.its.from s.d j.2.room_d (a.queues j.0 k.0 j.1 k.1).1 from k.2.head_d in
      let edge : out_edge s.plan l output ≡ Some h.its.from = out_is output ∙ h.is.from_is in
      let late : out_edge (state_after s m).plan l output ≡ Some h.its.from = ap (λ (t : State). out_edge t.plan l output) (after_is s m j.0 j.1) ∙ edge in
      ap (λ head. state_by its (act_by (up_alone its input output) (up its input output) (plain head) true))
      (ap (seen (state_after s m).d) late ∙ heads ∙ sym (ap (seen s.d) edge))

  kept_all : (m : Move) (ns : List Move) → Each (OfBar l) ns → ApartFrom s m ns → (its : LeafState) → through_all (state_after s m) l ns its ≡ through_all s l ns its
  kept_all m [] o a its = refl
  kept_all m (n ∷ ns) o a its = ap (through_all (state_after s m) l ns) (kept_one m n o.0 a.0 its) ∙ kept_all m ns o.1 a.1 (through s l n its)

-- ---- all of them

pub after_moves : (s : State) (l : ℕ) (bar : Crossbar) (tag : Tag) (gates : Gates) (leaf : Leaf) (ms : List Move) → BarAt s l bar tag gates leaf → Each (OfBar l) ms → AllApart s ms
    → slice_get (state_after_moves s ms).leaves l ≡ Some (record { leaf = through_all s l ms (XbarState bar gates); tag = tag })
after_moves s l bar tag gates leaf [] b o a = b.here
after_moves s l bar tag gates leaf (m ∷ ms) b o a =
    let j = some_job s m a.0 in
    let t = step s l bar tag gates leaf b m o.0 j.0 j.1 in
    after_moves (state_after s m) l bar tag t.next leaf ms t.at o.1 (all_after s m ms a.1 a.2)
    ∙ ap (λ its. Some (record { leaf = its; tag = tag })) (kept_all s l bar tag gates leaf b m ms o.1 a.1 (XbarState bar t.next) ∙ ap (through_all s l ms) (sym t.is))
