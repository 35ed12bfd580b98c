-- Both channels of a crossbar together.
use Rattle.std.proofs.Common.{◌≡◌, ℕ, ◌+◌, ◌-◌, ◌<◌, ◌^◌, Bool, ◌&&◌, List, [], length, map, get_or, is_some, sym, ap, ◌∙◌, subst, arith, inl, inr}
use Rattle.std.specs.Prelude.{slice_set}
use Rattle.std.proofs.lemmas.Bool.{cases_lt}
use Rattle.std.proofs.lemmas.List.{get_or-map, get_or_past, length-map}
use Rattle.dip_sets.specs.declared.ids.IdRange.{IdRange}
use Rattle.dip_sets.specs.Ids.{has_id}
use Rattle.tl_params.specs.declared.ports.Slave.{Slave}
use Rattle.tl_params.specs.Owners.{owner}
use Rattle.tl_edge.specs.declared.plan.Plan.{Plan}
use Rattle.tl_edge.specs.Plans.{edge_at}
use Rattle.flow_core.specs.Crossing.{Crossbar}
use Rattle.net_build.specs.declared.types.Wire.{Wire}
use Rattle.net_build.specs.Bits.{AreBits, wire_values}
use Rattle.net_build.specs.Built.{Built}
use Rattle.net_build.specs.Columns.{no_wire}
use Rattle.net_build.specs.Values.{Adds, Solves, high}
use Rattle.net_build.proofs.Folded.{bits_adds}
use Rattle.net_gate.specs.declared.types.Serving.{Serving}
use Rattle.net_paths.specs.declared.ids.IdBlock.{IdBlock}
use Rattle.net_paths.specs.Paths.{IsIdBlock}
use Rattle.net_queue.specs.declared.types.EdgeWires.{EdgeWires}
use Rattle.net_queue.specs.declared.types.LeafWires.{LeafWires}
use Rattle.net_queue.specs.declared.types.Put.{Put}
use Rattle.net_queue.specs.Leaves.{AreWiresOf, IsLeaf}
use Rattle.net_queue.specs.Rows.{AreAlike}
use Rattle.net_xbar.specs.Ways.{no_ids, range_of}
use Rattle.net_crossbar.specs.declared.channel.Channel.{Channel}
use Rattle.net_crossbar.specs.declared.channel.Channel.TheVariants.{A, D}
use Rattle.net_crossbar.specs.Crossbars.{AreEdgeRows, FitsCrossbar, bar_between, crossbar_machine}
use Rattle.net_crossbar.specs.Crossed.{AreRequests, AreResponses}
use Rattle.net_crossbar.specs.Heads.{head_at, ready_at, valid_at}
use Rattle.net_crossbar.specs.Places.{AllAt}
use Rattle.net_crossbar.specs.Serving.{TellsTaken}
use Rattle.net_crossbar.proofs.Linked.{all_rows_adds, gates_later, request_rows_later}
use Rattle.net_crossbar.proofs.Lists.{all_lifted}
use Rattle.net_crossbar.proofs.Putting.{ask_owner_adds, put_adds}
use Rattle.net_crossbar.proofs.Served.{taken_adds}
use Rattle.net_crossbar.proofs.Wired.{IsCrossed, is_crossbar}

pub edge_rows_adds : (old new : Built) (channel : Channel) (fields : ℕ) (edges : List EdgeWires) → Adds old new → AreEdgeRows old channel fields edges → AreEdgeRows new channel fields edges
edge_rows_adds old new channel fields edges g h = record {
  rows = all_rows_adds old new fields (map (head_at channel) edges) g h.rows;
  op = h.op;
  valids = bits_adds old new (map (valid_at channel) edges) g h.valids;
  readies = bits_adds old new (map (ready_at channel) edges) g h.readies;
}

pub requests_later : (old new : Built) (round : Bool) (bytes : ℕ) (plan : Plan) (numbers : List ℕ) (blocks : List IdBlock) (valids : List Wire) (heads : List (List Wire)) (readies : List Wire) (likes : List (List Wire)) (takes : List Wire) (puts : List Put) → Adds old new
    → AreRequests old round bytes plan numbers blocks valids heads readies likes takes puts → AreRequests new round bytes plan numbers blocks valids heads readies likes takes puts
requests_later old new round bytes plan numbers blocks valids heads readies likes takes puts g h = record {
  rows = h.rows;
  widths = h.widths;
  rows_are = request_rows_later old new blocks heads h.rows h.widths g h.rows_are;
  wants = h.wants;
  wants_long = h.wants_long;
  asks = all_lifted _ _ h.wants (λ k row a. ask_owner_adds old new valids heads _ row g a) h.asks;
  servings = h.servings;
  gates = gates_later old new round A bytes h.wants readies h.rows h.servings g h.gates;
  go = record {
    takes_long = h.go.takes_long;
    take = all_lifted _ _ takes (λ k w t. taken_adds old new h.servings k w g t) h.go.take;
    puts_long = h.go.puts_long;
    put = all_lifted _ _ puts (λ k p t s. put_adds old new _ _ p g (t s)) h.go.put;
  };
}

field_at : (v : ℕ → ℕ) (row : List Wire) (k : ℕ) → k < length row → v (get_or row k no_wire).number ≡ get_or (wire_values v row) k 0
field_at v row k l = sym (get_or-map (λ (w : Wire). v w.number) row k no_wire 0 l)

slaves_at : (plan : Plan) (numbers : List ℕ) (t : ℕ) → t < length numbers → get_or (map (λ number. (edge_at plan number).slaves) numbers) t [] ≡ (edge_at plan (get_or numbers t 0)).slaves
slaves_at plan numbers t l = get_or-map (λ number. (edge_at plan number).slaves) numbers t 0 [] l

module _ (b : Built) (round : Bool) (bytes : ℕ) (plan : Plan) (numbers : List ℕ) (ranges : List IdRange) (blocks bs : List IdBlock) (ins outs : List EdgeWires) (w : LeafWires)
    (same_blocks : bs ≡ blocks) (blocks_long : length blocks ≡ length ranges) (blocks_are : AllAt (λ k (block : IdBlock). IsIdBlock (get_or ranges k no_ids) block) blocks) (ranges_long : length ranges ≡ length ins) (numbers_long : length numbers ≡ length outs)
    (rows_a : AreEdgeRows b A 7 ins) (rows_d : AreEdgeRows b D 5 outs)
    (down : AreRequests b round bytes plan numbers bs (map (valid_at A) ins) (map (head_at A) ins) (map (ready_at A) outs) (map (head_at A) outs) w.take_a w.put_a)
    (up : AreResponses b round bytes bs (map (valid_at D) outs) (map (head_at D) outs) (map (ready_at D) ins) (map (head_at D) ins) w.take_d w.put_d) where
  abbrev bar : Crossbar
  bar = bar_between ranges plan numbers bytes

  no_block : IdBlock
  no_block = record { prefix = 0; bits = 0 }

  bs_long : length bs ≡ length ins
  bs_long = ap length same_blocks ∙ blocks_long ∙ ranges_long

  block_at : (k : ℕ) (d : IdBlock) → k < length ins → IsIdBlock (range_of bar k) (get_or bs k d)
  block_at k d l = subst (λ (xs : List IdBlock). IsIdBlock (range_of bar k) (get_or xs k d)) (sym same_blocks) (blocks_are.at k d (omega (arith, l, blocks_long, ranges_long)))

  heads_a_long : length (map (head_at A) ins) ≡ length ins
  heads_a_long = length-map ins (head_at A)

  heads_d_long : length (map (head_at D) outs) ≡ length outs
  heads_d_long = length-map outs (head_at D)

  servings_a_long : length down.servings ≡ length outs
  servings_a_long = down.gates.long ∙ down.wants_long ∙ numbers_long

  servings_d_long : length up.servings ≡ length ins
  servings_d_long = up.gates.long ∙ up.wants_long ∙ bs_long

  seven : (k : ℕ) → k < length ins → length (get_or (map (head_at A) ins) k []) ≡ 7
  seven k l = (rows_a.rows.at k [] (omega (arith, l, heads_a_long))).long

  five : (k : ℕ) → k < length outs → length (get_or (map (head_at D) outs) k []) ≡ 5
  five k l = (rows_d.rows.at k [] (omega (arith, l, heads_d_long))).long

  rows_a_long : length down.rows ≡ length ins
  rows_a_long = down.rows_are.fitted.long ∙ down.rows_are.moved_long ∙ heads_a_long

  rows_d_long : length up.rows ≡ length outs
  rows_d_long = up.fitted.long ∙ heads_d_long

  moves : (k : ℕ) (v : ℕ → ℕ) → k < length ins → Solves b v → get_or (wire_values v (get_or (map (head_at A) ins) k [])) 3 0 < 2 ^ (get_or bs k (record { prefix = 0; bits = 0 })).bits
      → wire_values v (get_or down.rows k []) ≡ slice_set (wire_values v (get_or (map (head_at A) ins) k [])) 3 (get_or (wire_values v (get_or (map (head_at A) ins) k [])) 3 0 + (range_of bar k).start)
  moves k v l s small =
      let m : k < length down.rows_are.moved = omega (arith, l, down.rows_are.moved_long, heads_a_long) in
      let e = field_at v (get_or (map (head_at A) ins) k []) 3 (omega (arith, seven k l)) in
      (down.rows_are.fitted.same.at k [] (omega (arith, l, rows_a_long))).at v s
      ∙ (down.rows_are.moves.at k [] m).at (range_of bar k) v (block_at k (record { prefix = 0; bits = 0 }) l) s (subst (λ (n : ℕ). n < 2 ^ (get_or bs k (record { prefix = 0; bits = 0 })).bits) (sym e) small)
      ∙ ap (λ (n : ℕ). slice_set (wire_values v (get_or (map (head_at A) ins) k [])) 3 (n + (range_of bar k).start)) e

  wants_a_each : (t : ℕ) → t < length down.wants → length (get_or down.wants t []) ≡ length ins
  wants_a_each t l = (down.asks.at t [] l).long ∙ heads_a_long

  wants_d_each : (t : ℕ) → t < length up.wants → length (get_or up.wants t []) ≡ length outs
  wants_d_each t l = (up.asks.at t [] l).long ∙ heads_d_long

  told_a : (t k : ℕ) (v : ℕ → ℕ) → t < length outs → k < length ins → Solves b v
      → high v (get_or (get_or down.wants t []) k no_wire) ≡ (high v (get_or (map (valid_at A) ins) k no_wire) && is_some (owner (get_or bar.slaves t []) (get_or (wire_values v (get_or (map (head_at A) ins) k [])) 4 0)))
  told_a t k v l m s =
      let n : t < length down.wants = omega (arith, l, down.wants_long, numbers_long) in
      let o : k < length (get_or down.wants t []) = omega (arith, m, wants_a_each t n) in
      ((down.asks.at t [] n).asks.at k no_wire o).tells.at v s
      ∙ ap (λ (a : ℕ). high v (get_or (map (valid_at A) ins) k no_wire) && is_some (owner (edge_at plan (get_or numbers t 0)).slaves a)) (field_at v (get_or (map (head_at A) ins) k []) 4 (omega (arith, seven k m)))
      ∙ ap (λ (slaves : List Slave). high v (get_or (map (valid_at A) ins) k no_wire) && is_some (owner slaves (get_or (wire_values v (get_or (map (head_at A) ins) k [])) 4 0))) (sym (slaves_at plan numbers t (omega (arith, l, numbers_long))))

  told_d : (t k : ℕ) (v : ℕ → ℕ) → t < length ins → k < length outs → Solves b v
      → high v (get_or (get_or up.wants t []) k no_wire) ≡ (high v (get_or (map (valid_at D) outs) k no_wire) && has_id (range_of bar t) (get_or (wire_values v (get_or (map (head_at D) outs) k [])) 2 0))
  told_d t k v l m s =
      let n : t < length up.wants = omega (arith, l, up.wants_long, bs_long) in
      let o : k < length (get_or up.wants t []) = omega (arith, m, wants_d_each t n) in
      (((up.asks.at t [] n).asks.at k no_wire o).tells (range_of bar t) (block_at t (record { prefix = 0; bits = 0 }) l)).at v s
      ∙ ap (λ (a : ℕ). high v (get_or (map (valid_at D) outs) k no_wire) && has_id (range_of bar t) a) (field_at v (get_or (map (head_at D) outs) k []) 2 (omega (arith, five k m)))

  pub crossed : IsCrossed b round bar ins outs w
  crossed = record {
    ins_long = sym ranges_long;
    outs_long = sym (length-map numbers (λ number. (edge_at plan number).slaves) ∙ numbers_long);
    blocks = bs;
    ranges = λ k l. block_at k (record { prefix = 0; bits = 0 }) l;
    rows_a = down.rows;
    rows_a_long = rows_a_long;
    moves = moves;
    wants_a = down.wants;
    wants_a_long = down.wants_long ∙ numbers_long;
    wants_a_each = wants_a_each;
    told_a = told_a;
    ss_a = down.servings;
    ss_a_long = servings_a_long;
    gates_a = λ t d l. down.gates.gates.at t d (omega (arith, l, servings_a_long));
    take_a_long = down.go.takes_long ∙ heads_a_long;
    take_a = down.go.take;
    put_a_long = down.go.puts_long ∙ servings_a_long;
    put_a = λ t s p l. down.go.put.at t p (omega (arith, l, down.go.puts_long, servings_a_long)) s;
    rows_d = up.rows;
    rows_d_long = rows_d_long;
    same = λ k v l s. (up.fitted.same.at k [] (omega (arith, l, rows_d_long))).at v s;
    wants_d = up.wants;
    wants_d_long = up.wants_long ∙ bs_long;
    wants_d_each = wants_d_each;
    told_d = told_d;
    ss_d = up.servings;
    ss_d_long = servings_d_long;
    gates_d = λ t d l. up.gates.gates.at t d (omega (arith, l, servings_d_long));
    take_d_long = up.go.takes_long ∙ heads_d_long;
    take_d = up.go.take;
    put_d_long = up.go.puts_long ∙ servings_d_long;
    put_d = λ t s p l. up.go.put.at t p (omega (arith, l, up.go.puts_long, servings_d_long)) (record { prefix = 0; bits = 0 }) s;
    row_d = λ t s l. up.fields.at t s (omega (arith, l, servings_d_long));
  }

  -- where there is no input there is no id
  few_ids : (k : ℕ) (n : ℕ) → n < (range_of bar k).end - (range_of bar k).start → n < 2 ^ (get_or bs k (record { prefix = 0; bits = 0 })).bits
  few_ids k n m =
      elim (cases_lt k (length ins)) [
        | inl l ↦ let i = block_at k (record { prefix = 0; bits = 0 }) l in omega (arith, m, i.end)
        | inr g ↦
            let e : range_of bar k ≡ no_ids = get_or_past ranges k no_ids (omega (arith, g, ranges_long)) in
            let z : n < 0 - 0 = subst (λ (r : IdRange). n < r.end - r.start) e m in
            absurd (omega (arith, z))
      ]

  bits_of_wires : (ws : List Wire) (ss : List Serving) → AllAt (λ k x. TellsTaken b ss k x) ws → AreBits b ws
  bits_of_wires ws ss h = record { each = λ k d l. (h.at k d l).bit }

  pub wires_are : AreWiresOf b ins outs w
  wires_are = record {
    take_a_long = crossed.take_a_long;
    put_d_long = crossed.put_d_long;
    take_d_long = crossed.take_d_long;
    put_a_long = crossed.put_a_long;
    take_a = bits_of_wires w.take_a down.servings down.go.take;
    take_d = bits_of_wires w.take_d up.servings up.go.take;
    put_d = λ k e p l.
        let h = crossed.put_d k (record { grants = []; valid = no_wire; items = [] }) p l in
        record { valid = h.bit; items = subst (λ (ws : List Wire). AreAlike b ws (get_or w.put_d k p).items) (get_or-map (head_at D) ins k e [] l) h.alike };
    put_a = λ k e p l.
        let h = crossed.put_a k (record { grants = []; valid = no_wire; items = [] }) p l in
        record { valid = h.bit; items = subst (λ (ws : List Wire). AreAlike b ws (get_or w.put_a k p).items) (get_or-map (head_at A) outs k e [] l) h.alike };
  }

  pub leaf_is : IsLeaf b ins outs w (crossbar_machine round bar) (FitsCrossbar round bar ins outs)
  unfolding crossed
  leaf_is = is_crossbar b round bar ins outs w crossed (FitsCrossbar round bar ins outs) (λ gates x f. record {
    heads = record { each = λ k beat e. (f.requests k beat e, few_ids k beat.source (f.ids k beat e)) };
    replies = record { each = f.responses };
    put_a = f.put_a;
    put_d = f.put_d;
  })
