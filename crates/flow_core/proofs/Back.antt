-- A width widget that turns the beats of a response.
use Rattle.std.proofs.Common.{ℕ, ◌≡◌, ◌+◌, ◌*◌, ◌/◌, ◌%◌, ◌<◌, [], Bool, true, ◌==◌, ◌||◌, cond, min, nat_lt, Some, None, refl, sym, ap, ◌∙◌, subst, arith}
use Rattle.std.specs.Prelude.{◌↔◌}
use Rattle.std.specs.Option.{option_map, option_and_then}
use Rattle.std.proofs.Math.Nat.{min-eq_right, mod-add-mod, mod-mod_of_dvd, dvd-mul_left}
use Rattle.std.proofs.lemmas.Bool.{cond-true, cond-false, ne_eqb, lt-ltb, le-ltb}
use Rattle.tl_params.specs.declared.ops.Op.TheVariants.{PutFull}
use Rattle.tl_edge.specs.declared.beat.DBeat.{DBeat}
use Rattle.tl_edge.specs.declared.message.Request.{Request}
use Rattle.tl_edge.specs.declared.message.Response.{Response}
use Rattle.tl_edge.specs.Messages.{brings_data, bytes_of}
use Rattle.tl_edge.specs.Beats.{data_beats, d_beat, most_lanes}
use Rattle.tl_edge.proofs.Active.{bus_of}
use Rattle.tl_pieces.specs.TwoBuses.{AreBuses, IsAsking, IsTelling, lane_in_wide, wide_number, lanes_at}
use Rattle.tl_pieces.proofs.Narrowing.{narrow_law}
use Rattle.tl_pieces.proofs.Placing.{AreMultiples, multiples}
use Rattle.tl_pieces.proofs.Widening.{last_law}
use Rattle.flow_core.specs.Acts.{Act}
use Rattle.flow_core.specs.Turning.{Widget, Lanes, ends_wide, number_after, narrowed, narrows, turned_at, data_up, turned_up, address_of, turn_up}
use Rattle.flow_core.specs.TurningLaws.{IsLastInWide, KeepsAddress, PutsNarrowBack, NarrowingBackLaw}
use Rattle.flow_core.proofs.ToNarrow.{tested, cut}

-- between buses of two widths a beat with data is turned, where not all of its narrow beats are done
pub moved_up : (below above least address : ℕ) (widget : Widget) (beat : DBeat) → (above ≡ below → ⊥) → brings_data beat.op ≡ true → address_of widget.kept beat.source ≡ Some address → min below above ≡ least
    → widget.d.done < data_beats beat.size least
    → turn_up (record { above = above; below = below }) widget beat ≡ Some (data_up widget beat (turned_at below above address (data_beats beat.size least) widget.d (record { mask = 0; payload = beat.payload })))
moved_up below above least address widget beat differ carries kept is few =
    cond-false (above == below) _ _ (ne_eqb above below differ)
    ∙ cond-true (brings_data beat.op) _ _ carries
    ∙ ap (option_and_then (turned_up (record { above = above; below = below }) widget beat)) kept
    ∙ ap (option_map (data_up widget beat))
    (ap (λ (n : ℕ). cond (nat_lt widget.d.done (data_beats beat.size n)) (Some (turned_at below above address (data_beats beat.size n) widget.d (record { mask = 0; payload = beat.payload }))) None) is
    ∙ cond-true (nat_lt widget.d.done (data_beats beat.size least)) _ _ (lt-ltb widget.d.done (data_beats beat.size least) few))

-- what is kept of an address tells where its beats lie
same_place : (narrow wide address k : ℕ) → AreBuses narrow wide → (address % most_lanes + k) % wide ≡ (address + k) % wide
same_place narrow wide address k buses =
    let eight : AreBuses wide 8 = record { narrow_bus = buses.wide_bus; wide_bus = refl; less = (bus_of wide buses.wide_bus).small } in
    let m : AreMultiples wide 8 = multiples wide 8 eight in
    let inner : address % 8 % wide ≡ address % wide = ap (λ (n : ℕ). address % n % wide) m.is ∙ mod-mod_of_dvd wide address (dvd-mul_left wide m.ratio) in
    sym (mod-add-mod (address % 8) wide k) ∙ ap (λ (n : ℕ). (n + k) % wide) inner ∙ mod-add-mod address wide k

pub same_lane : (narrow wide address number : ℕ) → AreBuses narrow wide → lane_in_wide narrow wide (address % most_lanes) number ≡ lane_in_wide narrow wide address number
same_lane narrow wide address number buses = ap (λ (n : ℕ). n / narrow * narrow) (same_place narrow wide address (number * narrow) buses)

pub same_end : (narrow wide address beats number : ℕ) → AreBuses narrow wide → ends_wide narrow wide (address % most_lanes) beats number ≡ ends_wide narrow wide address beats number
same_end narrow wide address beats number buses = ap (λ (n : ℕ). number + 1 == beats || n == 0) (same_place narrow wide address ((number + 1) * narrow) buses)

-- the put that has the size and the data of a response, at the address of its request
abbrev pub put_like : Request → Response → Request
put_like request response = record {
  op = PutFull;
  param = 0;
  size = response.size;
  source = response.source;
  address = request.address;
  mask = [];
  payload = response.payload;
}

pub like_asks : (narrow wide : ℕ) (request : Request) (response : Response) → IsTelling narrow wide request response → IsAsking narrow wide (put_like request response)
like_asks narrow wide request response tells = record {
  buses = tells.buses;
  whole = record {
    shape = record {
      small = omega (arith, tells.whole.answers.size, tells.asked.shape.small);
      aligned = subst (λ (n : ℕ). request.address % bytes_of n ≡ 0) (sym tells.whole.answers.size) tells.asked.shape.aligned;
      flags = refl;
      bytes = tells.whole.answers.bytes ∙ cond-true (brings_data response.op) (bytes_of response.size) 0 tells.data_too;
    };
    bytes = tells.whole.bytes;
  };
  data_too = refl;
}

-- ---- from wide to narrow

module _ (narrow wide : ℕ) (request : Request) (response : Response) (widget : Widget) (tells : IsTelling narrow wide request response) (less : narrow < wide) (keeps : KeepsAddress widget request response)
    (below : widget.d.done < data_beats response.size narrow) where
  abbrev number : ℕ
  number = widget.d.done

  abbrev beats : ℕ
  beats = data_beats response.size narrow

  abbrev head : DBeat
  head = d_beat wide request.address response (wide_number narrow wide request.address number)

  abbrev lanes : Lanes
  lanes = record { mask = 0; payload = head.payload }

  abbrev place : ℕ
  place = lane_in_wide narrow wide request.address number

  abbrev ends : Bool
  ends = ends_wide narrow wide request.address beats number

  abbrev data_of : ℕ → Lanes
  data_of payload = record { mask = lanes_at 2 narrow place 0; payload = payload }

  cut_out : narrowed narrow (lane_in_wide narrow wide (request.address % most_lanes) number) lanes ≡ data_of (d_beat narrow request.address response number).payload
  cut_out =
      ap (λ (k : ℕ). narrowed narrow k lanes) (same_lane narrow wide request.address number tells.buses)
      ∙ cut narrow place lanes
      ∙ sym (ap data_of (narrow_law.back narrow wide request response number tells below))

  abbrev act : Act DBeat Widget
  act = data_up widget head (narrows ends (number_after beats number) widget.d (data_of (d_beat narrow request.address response number).payload))

  is_turned : turn_up (record { above = narrow; below = wide }) widget head ≡ Some act
  is_turned =
      moved_up wide narrow narrow (request.address % most_lanes) widget head (λ same. omega (arith, same, less)) tells.data_too keeps (min-eq_right (omega (arith, less))) below
      ∙ ap (λ turned. Some (data_up widget head turned))
      (cond-false (nat_lt wide narrow) _ _ (le-ltb wide narrow (omega (arith, less)))
      ∙ ap (λ e. narrows e (number_after beats number) widget.d (narrowed narrow (lane_in_wide narrow wide (request.address % most_lanes) number) lanes)) (same_end narrow wide request.address beats number tells.buses)
      ∙ ap (λ l. narrows ends (number_after beats number) widget.d l) cut_out)

  takes : (act.take ≡ true) ↔ IsLastInWide narrow wide response.size request.address number
  takes =
      let test = tested narrow wide response.size request.address number in
      let last = last_law narrow wide (put_like request response) number (like_asks narrow wide request response tells) below in
      (λ t. last.0 (test.0 t), λ e. test.1 (last.1 e))

  puts_narrow_back : PutsNarrowBack narrow wide request response number act
  puts_narrow_back = record { put = refl; take = takes; done = refl }

pub narrowing_back_law : NarrowingBackLaw
narrowing_back_law narrow wide request response widget tells less keeps below = (
  act narrow wide request response widget tells less keeps below,
  is_turned narrow wide request response widget tells less keeps below,
  puts_narrow_back narrow wide request response widget tells less keeps below,
)
