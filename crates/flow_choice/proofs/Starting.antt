-- The start of every plan is locally valid: no queue has a beat, each gate is open, and no leaf has anything in hand.
use Rattle.std.proofs.Common.{ℕ, zero, suc, ◌≡◌, List, [], ◌∷◌, length, map, replicate, Option, Some, None, All, refl, sym, ◌∙◌, subst, arith, slice_get, Bool, true, false, cond, ◌&&◌, ◌==◌, ap}
use Rattle.std.specs.Option.{option_map, option_and_then}
use Rattle.std.proofs.lemmas.List.{length-map, length-replicate}
use Rattle.std.proofs.lemmas.List.Elements.{All-nil, All-cons}
use Rattle.std.proofs.lemmas.Option.{same_Some}
use Rattle.tl_params.specs.declared.ops.Template.{Template}
use Rattle.tl_params.specs.declared.ops.Template.TheVariants.{Buffer, Width, Fragmenter, Shrinker, Xbar}
use Rattle.tl_edge.specs.declared.beat.ABeat.{ABeat}
use Rattle.tl_edge.specs.declared.beat.DBeat.{DBeat}
use Rattle.tl_edge.specs.declared.beat.Tag.{Tag}
use Rattle.tl_edge.specs.declared.plan.PlanEdge.{PlanEdge}
use Rattle.tl_edge.specs.declared.plan.Plan.{Plan}
use Rattle.tl_edge.specs.Plans.{ins_of, outs_of, edge_at}
use Rattle.flow_core.specs.declared.moves.Move.{Move}
use Rattle.flow_core.specs.declared.moves.Move.TheVariants.{Enter, Leave, Reply, Return, AbsorbA, AbsorbD, ForwardA, ForwardD}
use Rattle.flow_core.specs.declared.locks.Gates.{Gates}
use Rattle.flow_core.specs.Acts.{Act}
use Rattle.flow_core.specs.Crossing.{Crossbar}
use Rattle.flow_core.specs.Shrinking.{Slots}
use Rattle.flow_core.specs.Turning.{Widths, Widget}
use Rattle.flow_core.specs.Fragmenting.{Knife, Hand}
use Rattle.flow_core.specs.Leaves.{LeafState, down_alone, up_alone, open_gate, idle_state, leaf_at_start}
use Rattle.flow_core.specs.Leaves.LeafState.{BufferState, XbarState, ShrinkerState, WidthState, FragmenterState}
use Rattle.flow_core.specs.Tags.{Held, held_down, held_down_alone, held_up, held_up_alone}
use Rattle.flow_core.specs.Queues.{queue, head_in}
use Rattle.flow_core.specs.Network.{job, both, part_between, forwarding, absorbing, leaf_job_a, leaf_job_d, part_a, part_d, in_edge, out_edge, held_at_start, network_at_start}
use Rattle.flow_core.specs.Shapes.{AreQueues, IsOf}
use Rattle.flow_choice.specs.Valid.{head_down, head_up, IsAt, AreOfOne, HasMachines, WaitsDown, WaitsUp, IsOfLeaf, IsHeldRight, IsValidXbar, IsValidShrinker, IsValidWidth, IsValid}

-- ---- the queues

empty : (B : Type 0) (count edge : ℕ) → queue {B = B} (replicate count []) edge ≡ []
empty B zero edge = refl
empty B (suc count) zero = refl
empty B (suc count) (suc edge) = empty B count edge

no_head : (B : Type 0) (count : ℕ) (edge : Option ℕ) → option_and_then (λ edge. head_in (queue {B = B} (replicate count []) edge)) edge ≡ None
no_head B count None = refl
no_head B count (Some edge) = rw (empty B count edge) refl

start_queues : (B : Type 0) (count : ℕ) → AreQueues {B = B} count (replicate count [])
start_queues B count = record {
  each = length-replicate count [];
  few = λ edge. rw (empty B count edge) (omega arith);
}

no_down : (plan : Plan) (leaf input : ℕ) → head_down (network_at_start plan) leaf input ≡ None
no_down plan leaf input = no_head (ABeat × Tag) (length plan.edges) (in_edge plan leaf input)

no_up : (plan : Plan) (leaf output : ℕ) → head_up (network_at_start plan) leaf output ≡ None
no_up plan leaf output = no_head (DBeat × Tag) (length plan.edges) (out_edge plan leaf output)

never : {A : Type 0} (o : Option A) (x : A) → o ≡ None → o ≡ Some x → ⊥
never None x e f = absurd cc
never (Some y) x e f = absurd cc

-- ---- the leaves

got_map : {A B : Type 0} (f : A → B) (xs : List A) (place : ℕ) (y : B) → slice_get (map f xs) place ≡ Some y → (x : A) × (slice_get xs place ≡ Some x) × (f x ≡ y)
got_map f [] place y e = absurd cc
got_map f (x ∷ xs) zero y e = (x, refl, same_Some (f x) y e)
got_map f (x ∷ xs) (suc place) y e = got_map f xs place y e

-- ---- a leaf that is idle

-- it holds no gate, and has nothing in hand
unfoldable Idle : LeafState → Type 0
Idle BufferState = Unit {0}
Idle (XbarState bar gates) = All IsHeldRight gates.outs × All IsHeldRight gates.ins
Idle (ShrinkerState width slots) =
    ((id old : ℕ) → slice_get slots.olds id ≡ Some (Some old) → ⊥) × (slots.asking ≡ None) × (slots.answering ≡ 0)
Idle (WidthState widths widget) = Unit {0}
Idle (FragmenterState knife hand) = hand ≡ None

all_open : (count : ℕ) → All IsHeldRight (replicate count open_gate)
all_open zero = All-nil IsHeldRight
all_open (suc count) = All-cons IsHeldRight open_gate (replicate count open_gate) (λ lock e. absurd cc) (all_open count)

none_old : (count id old : ℕ) → slice_get (replicate {A = Option ℕ} count None) id ≡ Some (Some old) → ⊥
none_old zero id old e = absurd cc
none_old (suc count) zero old e = absurd cc
none_old (suc count) (suc id) old e = none_old count id old e

starts_idle : (template : Template) (args : List ℕ) (ins outs : List PlanEdge) → Idle (idle_state template args ins outs)
unfolding Idle
starts_idle Buffer args ins outs = tt
starts_idle Xbar args ins outs = (all_open (length outs), all_open (length ins))
starts_idle Shrinker args ins outs = ((λ id old e. none_old _ id old e), refl, refl)
starts_idle Width args ins outs = tt
starts_idle Fragmenter args ins outs = refl

at_idle : (plan : Plan) (leaf : ℕ) (held : Held) → slice_get (network_at_start plan).leaves leaf ≡ Some held → Idle held.leaf
at_idle plan leaf held e =
    let got = got_map (held_at_start plan) plan.leaves leaf held e in
    subst (λ (held : Held). Idle held.leaf) got.2 (starts_idle got.0.template got.0.args (ins_of plan got.0) (outs_of plan got.0))

is_idle : (plan : Plan) (leaf : ℕ) (its : LeafState) → IsAt (network_at_start plan) leaf its → Idle its
is_idle plan leaf its at = subst Idle at.2 (at_idle plan leaf at.0 at.1)

-- ---- what an idle leaf does without a head

neither : {A : Type 0} (b : Bool) → cond {A = Option A} b None None ≡ None
neither true = refl
neither false = refl

idle_down : (state : LeafState) (id input output : ℕ) → Idle state → down_alone state id input output ≡ None
unfolding Idle
idle_down BufferState id input output h = refl
idle_down (XbarState bar gates) id input output h = refl
idle_down (ShrinkerState width slots) id input output h = refl
idle_down (WidthState widths widget) id input output h = refl
idle_down (FragmenterState knife None) id input output h = neither (id == 0 && input == 0 && output == 0)
idle_down (FragmenterState knife (Some hand)) id input output h = absurd cc

idle_up : (state : LeafState) (input output : ℕ) → Idle state → up_alone state input output ≡ None
unfolding Idle
idle_up BufferState input output h = refl
idle_up (XbarState bar gates) input output h = refl
idle_up (ShrinkerState width slots) input output h = refl
idle_up (WidthState widths widget) input output h = refl
idle_up (FragmenterState knife None) input output h = neither (0 == 0 && input == 0 && output == 0)
idle_up (FragmenterState knife (Some hand)) input output h = absurd cc

-- ---- no leaf moves

then_none : {A B : Type 0} (f : A → Option B) (o : Option A) → ((x : A) → o ≡ Some x → f x ≡ None) → option_and_then f o ≡ None
then_none f None h = refl
then_none f (Some x) h = h x refl

both_none : {A B C : Type 0} (one : Option A) (other : Option B) (f : A → B → Option C) → ((x : A) (y : B) → f x y ≡ None) → both one other f ≡ None
both_none None other f h = refl
both_none (Some x) None f h = refl
both_none (Some x) (Some y) f h = h x y

part_none : {B : Type 0} (count from to : ℕ) (alone : Option (Act B Held)) (act : B → Option (Act B Held)) → alone ≡ None
    → part_between (replicate count []) from to alone act ≡ None
part_none {B} count from to None act e = rw (empty B count from) refl
part_none {B} count from to (Some x) act e = absurd cc

no_part_a : (plan : Plan) (leaf input output id : ℕ) → part_a (network_at_start plan) leaf input output id ≡ None
no_part_a plan leaf input output id =
    then_none _ (slice_get (network_at_start plan).leaves leaf)
    (λ held e. both_none (in_edge plan leaf input) (out_edge plan leaf output) _
    (λ from to. part_none (length plan.edges) from to (held_down_alone held id input output) (held_down held id input output)
    (rw (idle_down held.leaf id input output (at_idle plan leaf held e)) refl)))

no_part_d : (plan : Plan) (leaf input output : ℕ) → part_d (network_at_start plan) leaf input output ≡ None
no_part_d plan leaf input output =
    then_none _ (slice_get (network_at_start plan).leaves leaf)
    (λ held e. both_none (out_edge plan leaf output) (in_edge plan leaf input) _
    (λ from to. part_none (length plan.edges) from to (held_up_alone held input output) (held_up held input output)
    (rw (idle_up held.leaf input output (at_idle plan leaf held e)) refl)))

no_job : (plan : Plan) (move : Move) → IsOfLeaf move → job (network_at_start plan) move ≡ None
no_job plan (Enter port beat tag) its = absurd its
no_job plan (Leave port) its = absurd its
no_job plan (Reply port beat tag) its = absurd its
no_job plan (Return port) its = absurd its
no_job plan (AbsorbA leaf) its = ap (λ part. option_map (leaf_job_a leaf) (option_and_then absorbing part)) (no_part_a plan leaf 0 0 0)
no_job plan (AbsorbD leaf) its = ap (λ part. option_map (leaf_job_d leaf) (option_and_then absorbing part)) (no_part_d plan leaf 0 0)
no_job plan (ForwardA leaf input output id) its =
    ap (λ part. option_map (leaf_job_a leaf) (option_and_then forwarding part)) (no_part_a plan leaf input output id)
no_job plan (ForwardD leaf input output) its =
    ap (λ part. option_map (leaf_job_d leaf) (option_and_then forwarding part)) (no_part_d plan leaf input output)

-- ---- the start

one_machine : (state : LeafState) → AreOfOne state state
one_machine BufferState = tt
one_machine (XbarState bar gates) = (refl, refl, refl)
one_machine (ShrinkerState width slots) = (refl, refl)
one_machine (WidthState widths widget) = (refl, refl)
one_machine (FragmenterState knife hand) = refl

own_machines : (plan : Plan) → HasMachines plan (network_at_start plan)
own_machines plan leaf at held e f =
    let got = got_map (held_at_start plan) plan.leaves leaf held f in
    let same : got.0 ≡ at = same_Some got.0 at (sym got.1 ∙ e) in
    subst (λ (held : Held). AreOfOne (leaf_at_start plan at) held.leaf) (sym (ap (held_at_start plan) same) ∙ got.2)
    (one_machine (leaf_at_start plan at))

all_empty : {B : Type 0} (P : B → Type 0) (count edge : ℕ) → All P (queue (replicate count []) edge)
all_empty {B} P count edge = rw (empty B count edge) (All-nil P)

none_in_hand : (plan : Plan) (leaf : ℕ) (knife : Knife) (hand : Hand) → Idle (FragmenterState knife (Some hand)) → ⊥
unfolding Idle
none_in_hand plan leaf knife hand h = absurd cc

start_xbar : (plan : Plan) (leaf : ℕ) (bar : Crossbar) (gates : Gates) → Idle (XbarState bar gates) → IsValidXbar (network_at_start plan) leaf bar gates
unfolding Idle
start_xbar plan leaf bar gates h = record {
  owned = λ input beat e. absurd (never _ beat (no_down plan leaf input) e);
  ranged = λ output beat e. absurd (never _ beat (no_up plan leaf output) e);
  outs = h.0;
  ins = h.1;
}

start_shrinker : (plan : Plan) (leaf width : ℕ) (slots : Slots) → Idle (ShrinkerState width slots) → IsValidShrinker (network_at_start plan) leaf slots
unfolding Idle
start_shrinker plan leaf width slots h = record {
  answered = λ beat e. absurd (never _ beat (no_up plan leaf 0) e);
  olds = λ above id old e f. absurd (h.0 id old f);
  asking = λ asking e. absurd (never _ asking h.1 e);
  answering = λ some. absurd (some h.2);
}

start_width : (plan : Plan) (leaf : ℕ) (widths : Widths) (widget : Widget) → IsValidWidth (network_at_start plan) leaf widths widget
start_width plan leaf widths widget = record {
  known = λ beat e. absurd (never _ beat (no_up plan leaf 0) e);
  apart = λ down up e f begins. absurd (never _ down (no_down plan leaf 0) e);
  left_down = λ beat e f. absurd (never _ beat (no_down plan leaf 0) e);
  left_up = λ beat e f. absurd (never _ beat (no_up plan leaf 0) e);
}

start_shape : (plan : Plan) → IsOf plan (network_at_start plan)
start_shape plan = record {
  plan = refl;
  a = start_queues (ABeat × Tag) (length plan.edges);
  d = start_queues (DBeat × Tag) (length plan.edges);
  leaves = length-map plan.leaves (held_at_start plan);
}

pub start_valid : (plan : Plan) → IsValid plan (network_at_start plan)
start_valid plan = record {
  shape = start_shape plan;
  machines = own_machines plan;
  down = λ edge. all_empty (WaitsDown (edge_at plan edge)) (length plan.edges) edge;
  up = λ edge. all_empty (WaitsUp (edge_at plan edge)) (length plan.edges) edge;
  puts = λ move does its enabled e. absurd (never _ does (no_job plan move its) e);
  xbars = λ leaf bar gates at. start_xbar plan leaf bar gates (is_idle plan leaf (XbarState bar gates) at);
  shrinkers = λ leaf width slots at. start_shrinker plan leaf width slots (is_idle plan leaf (ShrinkerState width slots) at);
  widths = λ leaf widths widget at unlike. start_width plan leaf widths widget;
  fragmenters = λ leaf knife hand at. absurd (none_in_hand plan leaf knife hand (is_idle plan leaf (FragmenterState knife (Some hand)) at));
}
