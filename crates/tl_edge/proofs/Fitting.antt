-- Beats fit the wires of their edge.
use Rattle.std.proofs.Common.{ℕ, ◌≡◌, ◌*◌, ◌^◌, ◌<◌, ◌≤◌, inl, inr, List, All, get_or, map, Bool, true, false, IsTrue, lit<, ap, sym, refl, subst, arith}
use Rattle.std.specs.Prelude.{Contains}
use Rattle.std.specs.Int.{from_bool}
use Rattle.std.specs.List.{range_with_len}
use Rattle.std.proofs.lemmas.Bool.{cases_lt, ltb-true, eqb-true}
use Rattle.std.proofs.lemmas.List.Elements.{All-map, All-contains, All-from_recursion}
use Rattle.std.proofs.lemmas.List.FromFn.{length-range_with_len, get_or-range_with_len}
use Rattle.std.proofs.lemmas.Option.{slice_get_within, get_or_from_slice_get}
use Rattle.dip_sets.specs.Sets.{IsSet}
use Rattle.tl_params.specs.declared.ops.Op.{Op}
use Rattle.tl_params.specs.declared.ops.Op.TheVariants.{PutFull, PutPartial, Arithmetic, Logical, Get, Intent}
use Rattle.tl_params.specs.declared.ops.Ack.{Ack}
use Rattle.tl_params.specs.declared.ops.Ack.TheVariants.{Ack as Plain, AckData, HintAck}
use Rattle.tl_params.specs.declared.ports.Slave.{Slave}
use Rattle.tl_params.specs.Codes.{code_of_op, code_of_ack}
use Rattle.tl_edge.specs.declared.beat.ABeat.{ABeat}
use Rattle.tl_edge.specs.declared.beat.DBeat.{DBeat}
use Rattle.tl_edge.specs.declared.bundle.Bundle.{Bundle}
use Rattle.tl_edge.specs.declared.message.Request.{Request}
use Rattle.tl_edge.specs.declared.message.Response.{Response}
use Rattle.tl_edge.specs.declared.plan.PlanEdge.{PlanEdge}
use Rattle.tl_edge.specs.Bundles.{bits_for, log_of, largest_transfer, bundle}
use Rattle.tl_edge.specs.Messages.{has_param, IsWholeResponse}
use Rattle.tl_edge.specs.Beats.{a_beat, d_beat, request_beats, response_beats, beats_of_request, beats_of_response}
use Rattle.tl_edge.specs.BeatLaws.{IsSent, HasLanes, HasLanesBack}
use Rattle.tl_edge.specs.Legal.{IsOwned, IsLegalOn}
use Rattle.tl_edge.specs.Plans.{bus_width}
use Rattle.tl_edge.specs.SoundPlans.{IsSoundEdge, IsSmall}
use Rattle.tl_edge.specs.Wires.{a_fields, d_fields, a_widths, d_widths, FitsDown, FitsUp, IsWireWidth, WiresLaw}
use Rattle.tl_edge.proofs.Active.{IsBus, bus_of, bus_pos}
use Rattle.tl_edge.proofs.Digits.{byte_shift}
use Rattle.tl_edge.proofs.Greatest.{bits_law}
use Rattle.tl_edge.proofs.Holding.{bundle_law}
use Rattle.tl_edge.proofs.LaneByLane.{lanes_law}
use Rattle.tl_edge.proofs.Legality.{owner_has, small_address}
use Rattle.tl_edge.proofs.Widths.{bits_are_least}

-- what holds of each item that is made by numbers
pub all_made : {A : Type 0} (P : A → Type 0) (f : ℕ → A) (count : ℕ) → ((number : ℕ) → number < count → P (f number)) → All P (map f (range_with_len 0 count))
all_made P f count each = All-map P f (range_with_len 0 count) (λ k d below.
    let within : k < count = omega (arith, below, length-range_with_len 0 count) in
    let same : get_or (range_with_len 0 count) k d ≡ k = omega (arith, get_or-range_with_len 0 count k d within) in
    subst (λ (n : ℕ). P (f n)) (sym same) (each k within))

-- ---- fields tell their beat

same_op : (a b : Op) → code_of_op a ≡ code_of_op b → a ≡ b
same_op PutFull PutFull e = refl
same_op PutPartial PutPartial e = refl
same_op Arithmetic Arithmetic e = refl
same_op Logical Logical e = refl
same_op Get Get e = refl
same_op Intent Intent e = refl
same_op _ _ e = absurd (omega (arith, e))

same_ack : (a b : Ack) → code_of_ack a ≡ code_of_ack b → a ≡ b
same_ack Plain Plain e = refl
same_ack AckData AckData e = refl
same_ack HintAck HintAck e = refl
same_ack _ _ e = absurd (omega (arith, e))

same_flag : (a b : Bool) → from_bool a ≡ from_bool b → a ≡ b
same_flag true true e = refl
same_flag false false e = refl
same_flag true false e = absurd (omega (arith, e))
same_flag false true e = absurd (omega (arith, e))

field : List ℕ → ℕ → ℕ
field fields k = get_or fields k 0

a_beat_of : Op → ℕ → ℕ → ℕ → ℕ → ℕ → ℕ → ABeat
a_beat_of op param size source address mask payload = record { op = op; param = param; size = size; source = source; address = address; mask = mask; payload = payload }

d_beat_of : Ack → ℕ → ℕ → Bool → ℕ → DBeat
d_beat_of op size source denied payload = record { op = op; size = size; source = source; denied = denied; payload = payload }

a_parts : (one other : ABeat) → one.op ≡ other.op → one.param ≡ other.param → one.size ≡ other.size → one.source ≡ other.source → one.address ≡ other.address → one.mask ≡ other.mask → one.payload ≡ other.payload
    → a_beat_of one.op one.param one.size one.source one.address one.mask one.payload ≡ a_beat_of other.op other.param other.size other.source other.address other.mask other.payload
a_parts one other op param size source address mask payload = cc

d_parts : (one other : DBeat) → one.op ≡ other.op → one.size ≡ other.size → one.source ≡ other.source → one.denied ≡ other.denied → one.payload ≡ other.payload
    → d_beat_of one.op one.size one.source one.denied one.payload ≡ d_beat_of other.op other.size other.source other.denied other.payload
d_parts one other op size source denied payload = cc

a_same : (one other : ABeat) → one.op ≡ other.op → one.param ≡ other.param → one.size ≡ other.size → one.source ≡ other.source → one.address ≡ other.address → one.mask ≡ other.mask → one.payload ≡ other.payload → one ≡ other
unfolding a_beat_of
a_same one other op param size source address mask payload = a_parts one other op param size source address mask payload

d_same : (one other : DBeat) → one.op ≡ other.op → one.size ≡ other.size → one.source ≡ other.source → one.denied ≡ other.denied → one.payload ≡ other.payload → one ≡ other
unfolding d_beat_of
d_same one other op size source denied payload = d_parts one other op size source denied payload

a_told : (one other : ABeat) → a_fields one ≡ a_fields other → one ≡ other
unfolding field
a_told one other e =
    let op : one.op ≡ other.op = same_op one.op other.op (ap (λ (l : List ℕ). field l 0) e) in
    let param : one.param ≡ other.param = ap (λ (l : List ℕ). field l 1) e in
    let size : one.size ≡ other.size = ap (λ (l : List ℕ). field l 2) e in
    let source : one.source ≡ other.source = ap (λ (l : List ℕ). field l 3) e in
    let address : one.address ≡ other.address = ap (λ (l : List ℕ). field l 4) e in
    let mask : one.mask ≡ other.mask = ap (λ (l : List ℕ). field l 5) e in
    let payload : one.payload ≡ other.payload = ap (λ (l : List ℕ). field l 6) e in
    a_same one other op param size source address mask payload

d_told : (one other : DBeat) → d_fields one ≡ d_fields other → one ≡ other
unfolding field
d_told one other e =
    let op : one.op ≡ other.op = same_ack one.op other.op (ap (λ (l : List ℕ). field l 0) e) in
    let size : one.size ≡ other.size = ap (λ (l : List ℕ). field l 1) e in
    let source : one.source ≡ other.source = ap (λ (l : List ℕ). field l 2) e in
    let denied : one.denied ≡ other.denied = same_flag one.denied other.denied (ap (λ (l : List ℕ). field l 3) e) in
    let payload : one.payload ≡ other.payload = ap (λ (l : List ℕ). field l 4) e in
    d_same one other op size source denied payload

-- ---- each field fits

op_fits : (op : Op) → code_of_op op < 2 ^ 3
op_fits PutFull = lit< tt
op_fits PutPartial = lit< tt
op_fits Arithmetic = lit< tt
op_fits Logical = lit< tt
op_fits Get = lit< tt
op_fits Intent = lit< tt

ack_fits : (ack : Ack) → code_of_ack ack < 2 ^ 3
ack_fits Plain = lit< tt
ack_fits AckData = lit< tt
ack_fits HintAck = lit< tt

flag_fits : (flag : Bool) → from_bool flag < 2 ^ 1
flag_fits true = lit< tt
flag_fits false = lit< tt

param_fits : (op : Op) (param : ℕ) → IsTrue (has_param op param) → param < 2 ^ 3
param_fits PutFull param h = let e : param ≡ 0 = eqb-true param 0 h in omega arith
param_fits PutPartial param h = let e : param ≡ 0 = eqb-true param 0 h in omega arith
param_fits Arithmetic param h = let e : param < 5 = ltb-true param 5 h in omega arith
param_fits Logical param h = let e : param < 4 = ltb-true param 4 h in omega arith
param_fits Get param h = let e : param ≡ 0 = eqb-true param 0 h in omega arith
param_fits Intent param h = let e : param < 2 = ltb-true param 2 h in omega arith

bytes_fit : (width n : ℕ) → n < 256 ^ width → n < 2 ^ (8 * width)
bytes_fit width n h = omega (arith, h, byte_shift width)

-- what a request that is legal on a sound edge has
record Fields (edge : PlanEdge) (size source address : ℕ) : Type 0 where
  pub size_fits : size < 2 ^ edge.bundle.size_bits
  pub source_fits : source < 2 ^ edge.bundle.source_bits
  pub address_fits : address < 2 ^ edge.bundle.address_bits

legal_fields : (edge : PlanEdge) (request : Request) → IsSoundEdge edge → IsLegalOn edge request → Fields edge request.size request.source request.address
legal_fields edge request sound legal =
    let owned : IsOwned edge.slaves request = legal.answerable.owned in
    let listed : Contains edge.slaves owned.slave = (owned.place, slice_get_within edge.slaves owned.place owned.slave owned.is, get_or_from_slice_get edge.slaves owned.place owned.slave owned.slave owned.is) in
    record {
      size_fits = subst (λ (b : Bundle). request.size < 2 ^ b.size_bits) (sym sound.bundle) (bundle_law.sizes edge.slaves edge.ids (bus_width edge) owned.slave request.op request.size listed owned.supports);
      source_fits = subst (λ (b : Bundle). request.source < 2 ^ b.source_bits) (sym sound.bundle) (bundle_law.ids edge.slaves edge.ids (bus_width edge) request.source legal.id);
      address_fits = subst (λ (b : Bundle). request.address < 2 ^ b.address_bits) (sym sound.bundle)
          (bundle_law.addresses edge.slaves edge.ids (bus_width edge) owned.slave request.address listed (owner_has edge.slaves request owned));
    }

sent_on : (edge : PlanEdge) (request : Request) → IsSoundEdge edge → IsLegalOn edge request → IsSent (bus_width edge) request
sent_on edge request sound legal = record { bus = sound.width; whole = legal.answerable.whole }

requests_fit : (edge : PlanEdge) (request : Request) → IsSoundEdge edge → IsLegalOn edge request → All (FitsDown edge) (beats_of_request (bus_width edge) request)
requests_fit edge request sound legal = all_made (FitsDown edge) (a_beat (bus_width edge) request) (request_beats request.op request.size (bus_width edge)) (λ number below.
    let fields : Fields edge request.size request.source request.address = legal_fields edge request sound legal in
    let lanes : HasLanes (bus_width edge) request number = lanes_law.requests (bus_width edge) request number (sent_on edge request sound legal) below in
    record {
      wires = (op_fits request.op, (param_fits request.op request.param legal.answerable.param, (fields.size_fits, (fields.source_fits, (fields.address_fits, (lanes.marks_fit, (bytes_fit (bus_width edge) _ lanes.bytes_fit, tt)))))));
      id = legal.id;
    })

responses_fit : (edge : PlanEdge) (request : Request) (response : Response) → IsSoundEdge edge → IsLegalOn edge request → IsWholeResponse request response
    → All (FitsUp edge) (beats_of_response (bus_width edge) request.address response)
responses_fit edge request response sound legal back = all_made (FitsUp edge) (d_beat (bus_width edge) request.address response) (response_beats response.op response.size (bus_width edge)) (λ number below.
    let fields : Fields edge request.size request.source request.address = legal_fields edge request sound legal in
    let lanes : HasLanesBack (bus_width edge) request.address response number =
    lanes_law.responses (bus_width edge) request response number (record { sent = sent_on edge request sound legal; whole = back }) below in
    record {
      wires = (
        ack_fits response.op,
        (
          subst (λ (n : ℕ). n < 2 ^ edge.bundle.size_bits) (sym back.answers.size) fields.size_fits,
          (subst (λ (n : ℕ). n < 2 ^ edge.bundle.source_bits) (sym back.answers.source) fields.source_fits, (flag_fits response.denied, (bytes_fit (bus_width edge) _ lanes.bytes_fit, tt))),
        ),
      );
      id = subst (λ (n : ℕ). n < edge.ids) (sym back.answers.source) legal.id;
    })

-- ---- how many bits the fields of a sound edge have

largest_small : (slaves : List Slave) → All IsSmall slaves → largest_transfer slaves ≤ 256
largest_small slaves all = elim (cases_lt 0 (largest_transfer slaves)) [
  | inr none ↦ omega (arith, none)
  | inl some ↦
      let one = bits_law.largest_one slaves some in
      let small : IsSmall one.0 = All-contains IsSmall slaves one.0 all one.1 in
      omega (arith, one.2, small.all)
]

few_size_bits : (slaves : List Slave) → All IsSmall slaves → bits_for (log_of (largest_transfer slaves)) ≤ 4
few_size_bits slaves all =
    let few : bits_for (largest_transfer slaves) ≤ 9 = (bits_are_least (largest_transfer slaves)).least 9 (omega arith) (omega (arith, largest_small slaves all)) in
    let log : log_of (largest_transfer slaves) ≤ 8 = omega (arith, few) in
    (bits_are_least (log_of (largest_transfer slaves))).least 4 (omega arith) (omega (arith, log))

record Bits (edge : PlanEdge) : Type 0 where
  pub size : IsWireWidth edge.bundle.size_bits
  pub source : IsWireWidth edge.bundle.source_bits
  pub address : IsWireWidth edge.bundle.address_bits
  pub mask : IsWireWidth (bus_width edge)
  pub payload : IsWireWidth (8 * bus_width edge)

sound_bits : (edge : PlanEdge) → IsSoundEdge edge → Bits edge
sound_bits edge sound =
    let bus : IsBus (bus_width edge) = bus_of (bus_width edge) sound.width in
    let few_ids : (bundle edge.slaves edge.ids (bus_width edge)).source_bits ≤ 10 = bundle_law.least_ids edge.slaves edge.ids (bus_width edge) 10 (omega arith) (λ id below. omega (arith, below, sound.few_ids)) in
    let few_addresses : (bundle edge.slaves edge.ids (bus_width edge)).address_bits ≤ 48 =
    bundle_law.least_addresses edge.slaves edge.ids (bus_width edge) 48 (omega arith)
    (λ slave address listed member. small_address slave.addresses address (All-contains (λ (s : Slave). All IsSet s.addresses) edge.slaves slave sound.sets listed) member) in
    record {
      size = subst (λ (b : Bundle). IsWireWidth b.size_bits) (sym sound.bundle) (omega arith, omega (arith, few_size_bits edge.slaves sound.small));
      source = subst (λ (b : Bundle). IsWireWidth b.source_bits) (sym sound.bundle) (omega arith, omega (arith, few_ids));
      address = subst (λ (b : Bundle). IsWireWidth b.address_bits) (sym sound.bundle) (omega arith, omega (arith, few_addresses));
      mask = (omega (arith, bus_pos (bus_width edge) bus), omega (arith, bus.small));
      payload = (omega (arith, bus_pos (bus_width edge) bus), omega (arith, bus.small));
    }

a_bits : (edge : PlanEdge) → IsSoundEdge edge → All IsWireWidth (a_widths edge.bundle)
a_bits edge sound =
    let b : Bits edge = sound_bits edge sound in
    let three : IsWireWidth 3 = (omega arith, omega arith) in
    All-from_recursion IsWireWidth (a_widths edge.bundle) (three, (three, (b.size, (b.source, (b.address, (b.mask, (b.payload, tt)))))))

d_bits : (edge : PlanEdge) → IsSoundEdge edge → All IsWireWidth (d_widths edge.bundle)
d_bits edge sound =
    let b : Bits edge = sound_bits edge sound in
    let three : IsWireWidth 3 = (omega arith, omega arith) in
    let one : IsWireWidth 1 = (omega arith, omega arith) in
    All-from_recursion IsWireWidth (d_widths edge.bundle) (three, (b.size, (b.source, (one, (b.payload, tt)))))

pub wires_law : WiresLaw
wires_law = record {
  a_told = a_told;
  d_told = d_told;
  requests = requests_fit;
  responses = responses_fit;
  a_widths = a_bits;
  d_widths = d_bits;
}
