-- A beat that passes a crossbar from one edge to another: the network's part in it, and the act by what is seen.
use Rattle.std.proofs.Common.{◌≡◌, ℕ, ◌<◌, Bool, true, false, List, length, Option, Some, None, cond, refl, sym, ap, ◌∙◌, subst, is_some}
use Rattle.std.specs.Option.{option_and_then, option_map, option_map_or, option_or}
use Rattle.std.proofs.lemmas.Option.{same_Some}
use Rattle.tl_edge.specs.declared.beat.Tag.{Tag}
use Rattle.flow_core.specs.declared.locks.Gates.{Gates}
use Rattle.flow_core.specs.declared.queue.Flow.{Flow}
use Rattle.flow_core.specs.Acts.{Act, forwards}
use Rattle.flow_core.specs.Crossing.{Crossbar}
use Rattle.flow_core.specs.Leaves.{LeafState}
use Rattle.flow_core.specs.Leaves.LeafState.{XbarState}
use Rattle.flow_core.specs.Network.{Part, both, by_head, by_itself, forwarding, absorbing}
use Rattle.flow_core.specs.Queues.{queue, head_in, has_place, may_flow}
use Rattle.flow_core.specs.Tags.{Held}
use Rattle.flow_choice.proofs.Jobs.{seen}
use Rattle.net_queue.specs.Adapters.{act_by, with_room}
use Rattle.net_cycle.specs.Parts.{plain}
use Rattle.net_cycle.proofs.AtPorts.{below}

-- a crossbar with a tag
abbrev pub bar_held : Crossbar → Tag → Gates → Held
bar_held bar tag gates = record { leaf = XbarState bar gates; tag = tag }

-- what a crossbar makes of a beat, where it lets it pass: the beat as it goes on, and the gates afterwards
abbrev pub Pass : Type 0 → Type 0
Pass B = B → Option (B × Gates)

-- one beat on its way: from which edge and onto which one, as it is put, and the gates afterwards
pub record Way (B : Type 0) : Type 0 where
  pub from : ℕ
  pub to : ℕ
  pub put : B × Tag
  pub gates : Gates

abbrev pub way_flow : {B : Type 0} → Way B → Flow (B × Tag)
way_flow way = record { from = Some way.from; take = true; put = Some (way.to, way.put) }

-- a beat that passes keeps its tag
abbrev pub on_way : {B : Type 0} → ℕ → ℕ → Tag → B × Gates → Way B
on_way from to tag passed = record { from = from; to = to; put = (passed.0, tag); gates = passed.1 }

abbrev pub way_by : {B : Type 0} → Pass B → ℕ → ℕ → Option (B × Tag) → Option (Way B)
way_by pass from to head = option_and_then (λ (h : _ × Tag). option_map (on_way from to h.1) (pass h.0)) head

-- between two edges that are there, by the head of the one
abbrev pub way : {B : Type 0} → List (List (B × Tag)) → Pass B → Option ℕ → Option ℕ → Option (Way B)
way queues pass from to = both from to (λ f t. way_by pass f t (head_in (queue queues f)))

-- ---- the act by what is seen

module _ {B : Type 0} (bar : Crossbar) where
  abbrev pub act_of : B × Gates → Act B LeafState
  act_of passed = forwards passed.0 (XbarState bar passed.1)

  pub act_is : (act : B → Option (Act B LeafState)) (pass : Pass B) → ((b : B) → act b ≡ option_map act_of (pass b)) → (head : Option B) (room : Bool)
      → act_by None act head room ≡ cond room (option_map act_of (option_and_then pass head)) None
  act_is act pass same None true = refl
  act_is act pass same None false = refl
  act_is act pass same (Some b) room = ap (λ (o : Option (Act B LeafState)). option_and_then (with_room room) o) (same b) ∙ at (pass b) room
    where
      at : (o : Option (B × Gates)) (r : Bool) → option_and_then (with_room r) (option_map act_of o) ≡ cond r (option_map act_of o) None
      at None true = refl
      at None false = refl
      at (Some p) true = refl
      at (Some p) false = refl

-- ---- the network's part

module _ {B : Type 0} (bar : Crossbar) (tag : Tag) where
  abbrev pub part_by : Way B → Part (B × Tag)
  part_by w = record { flow = way_flow w; next = bar_held bar tag w.gates }

  -- the act of one way with its tags
  abbrev pub tagged_act : Tag → B × Gates → Act (B × Tag) Held
  tagged_act mark passed = forwards (passed.0, mark) (bar_held bar tag passed.1)

  module _ (act : B × Tag → Option (Act (B × Tag) Held)) (pass : Pass B) (same : (h : B × Tag) → act h ≡ option_map (tagged_act h.1) (pass h.0)) where
    part_at : (f t : ℕ) (head : Option (B × Tag)) → option_or (option_map (by_itself t) None) (option_map (by_head f t) (option_and_then act head)) ≡ option_map part_by (way_by pass f t head)
    part_at f t None = refl
    part_at f t (Some h) = ap (λ (o : Option (Act (B × Tag) Held)). option_map (by_head f t) o) (same h) ∙ at (pass h.0)
      where
        at : (o : Option (B × Gates)) → option_map (by_head f t) (option_map (tagged_act h.1) o) ≡ option_map part_by (option_map (on_way f t h.1) o)
        at None = refl
        at (Some p) = refl

    pub parts_are : (queues : List (List (B × Tag))) (from to : Option ℕ)
        → both from to (λ f t. option_or (option_map (by_itself t) None) (option_map (by_head f t) (option_and_then act (head_in (queue queues f))))) ≡ option_map part_by (way queues pass from to)
    parts_are queues None to = refl
    parts_are queues (Some f) None = refl
    parts_are queues (Some f) (Some t) = part_at f t (head_in (queue queues f))

  pub all_forward : (o : Option (Way B)) → option_and_then forwarding (option_map part_by o) ≡ option_map part_by o
  all_forward None = refl
  all_forward (Some w) = refl

  pub none_absorbs : (o : Option (Way B)) → option_and_then absorbing (option_map part_by o) ≡ None
  none_absorbs None = refl
  none_absorbs (Some w) = refl

-- ---- when it may be made

-- where there is an edge, whether it has room
abbrev pub room_at : {B : Type 0} → List (List B) → Option ℕ → Bool
room_at queues to = option_map_or (λ t. has_place (queue queues t)) to false

module _ {B : Type 0} (bar : Crossbar) (queues : List (List (B × Tag))) (pass : Pass B) where
  abbrev goes : Option (Way B) → Bool
  goes o = option_map_or (λ (w : Way B). may_flow queues (way_flow w)) o false

  abbrev acts : Option (B × Gates) → Bool → Bool
  acts passed room = is_some (cond room (option_map (act_of bar) passed) None)

  none_acts : (room : Bool) → false ≡ acts None room
  none_acts true = refl
  none_acts false = refl

  some_acts : (room : Bool) (p : B × Gates) → room ≡ acts (Some p) room
  some_acts true p = refl
  some_acts false p = refl

  -- exactly where the act is one by what is seen
  pub may_go : (from to : Option ℕ) → ((t : ℕ) → to ≡ Some t → t < length queues) → goes (way queues pass from to) ≡ acts (option_and_then pass (plain (seen queues from))) (room_at queues to)
  may_go None to within = none_acts (room_at queues to)
  may_go (Some f) None within = refl
  may_go (Some f) (Some t) within = head (head_in (queue queues f)) refl
    where
      passed : (h : B × Tag) (o : Option (B × Gates)) → head_in (queue queues f) ≡ Some h → goes (option_map (on_way f t h.1) o) ≡ acts o (has_place (queue queues t))
      passed h None k = none_acts (has_place (queue queues t))
      passed h (Some p) k = rw (k, below t (length queues) (within t refl)) (some_acts (has_place (queue queues t)) p)

      head : (o : Option (B × Tag)) → head_in (queue queues f) ≡ o → goes (way_by pass f t o) ≡ acts (option_and_then pass (plain o)) (has_place (queue queues t))
      head None k = none_acts (has_place (queue queues t))
      head (Some h) k = passed h (pass h.0) k

-- ---- what is known of a way

pub record IsWay {B : Type 0} (queues : List (List (B × Tag))) (pass : Pass B) (from to : Option ℕ) (w : Way B) : Type 0 where
  pub head : B × Tag
  pub from_is : from ≡ Some w.from
  pub to_is : to ≡ Some w.to
  pub head_is : head_in (queue queues w.from) ≡ Some head
  pub pass_is : pass head.0 ≡ Some (w.put.0, w.gates)
  pub tag_is : w.put.1 ≡ head.1

module _ {B : Type 0} (queues : List (List (B × Tag))) (pass : Pass B) where
  pub way_of : (from to : Option ℕ) (w : Way B) → way queues pass from to ≡ Some w → IsWay queues pass from to w
  way_of None to w e = absurd cc
  way_of (Some f) None w e = absurd cc
  way_of (Some f) (Some t) w e = head (head_in (queue queues f)) refl e
    where
      passed : (h : B × Tag) (o : Option (B × Gates)) → head_in (queue queues f) ≡ Some h → pass h.0 ≡ o → option_map (on_way f t h.1) o ≡ Some w → IsWay queues pass (Some f) (Some t) w
      passed h None k q e = absurd cc
      passed h (Some p) k q e = subst (IsWay queues pass (Some f) (Some t)) (same_Some _ _ e) (record { head = h; from_is = refl; to_is = refl; head_is = k; pass_is = q; tag_is = refl })

      head : (o : Option (B × Tag)) → head_in (queue queues f) ≡ o → way_by pass f t o ≡ Some w → IsWay queues pass (Some f) (Some t) w
      head None k e = absurd cc
      head (Some h) k e = passed h (pass h.0) k refl e

  pub way_is : (from to : Option ℕ) (w : Way B) → IsWay queues pass from to w → way queues pass from to ≡ Some w
  way_is from to w h = rw (h.from_is, h.to_is) (rw h.head_is (rw h.pass_is (ap (λ (t : Tag). Some (record { from = w.from; to = w.to; put = (w.put.0, t); gates = w.gates })) (sym h.tag_is))))

  -- where the act is one by what is seen there is a way, with room at its end
  pub record Goes (from to : Option ℕ) : Type 0 where
    pub its : Way B
    pub is : IsWay queues pass from to its
    pub room : has_place (queue queues its.to) ≡ true

  pub goes_of : (bar : Crossbar) (from to : Option ℕ) → is_some (cond (room_at queues to) (option_map (act_of bar) (option_and_then pass (plain (seen queues from)))) None) ≡ true → Goes from to
  goes_of bar from to e = at (room_at queues to) (option_and_then pass (plain (seen queues from))) refl refl e
    where
      edges : (from to : Option ℕ) (p : B × Gates) → room_at queues to ≡ true → option_and_then pass (plain (seen queues from)) ≡ Some p → Goes from to
      edges None to p r e = absurd cc
      edges (Some f) None p r e = absurd cc
      edges (Some f) (Some t) p r e = head (head_in (queue queues f)) refl e
        where
          head : (o : Option (B × Tag)) → head_in (queue queues f) ≡ o → option_and_then pass (plain o) ≡ Some p → Goes (Some f) (Some t)
          head None k e = absurd cc
          head (Some h) k e = record {
            its = on_way f t h.1 p;
            is = record { head = h; from_is = refl; to_is = refl; head_is = k; pass_is = e; tag_is = refl };
            room = r;
          }

      at : (room : Bool) (o : Option (B × Gates)) → room_at queues to ≡ room → option_and_then pass (plain (seen queues from)) ≡ o → is_some (cond room (option_map (act_of bar) o) None) ≡ true → Goes from to
      at false o r q e = absurd cc
      at true None r q e = absurd cc
      at true (Some p) r q e = edges from to p r q

  -- and what is seen is that head
  pub seen_on : (from to : Option ℕ) (w : Way B) → IsWay queues pass from to w → option_and_then pass (plain (seen queues from)) ≡ Some (w.put.0, w.gates)
  seen_on from to w h = rw h.from_is (rw h.head_is h.pass_is)
