-- The inputs of one port after another, and what they offer.
use Rattle.std.proofs.Common.{◌≡◌, ℕ, zero, suc, ◌+◌, ◌<◌, ◌≤◌, List, [], ◌∷◌, ◌++◌, length, take, drop, get_or, Option, Some, None, refl, sym, ap, ◌∙◌, subst, arith}
use Rattle.std.specs.Prelude.{All, flat_map, slice_get, unwrap_or}
use Rattle.std.proofs.lemmas.List.{flat_map_more, get_or-append-add, get_or_append_left, get_or_push, length-append, length-map, length_push, map-append, take_all, take_more}
use Rattle.std.proofs.lemmas.List.Elements.{All-append, All-cons, All-nil}
use Rattle.std.proofs.lemmas.Option.{get_or_from_slice_get, slice_get-get_or, slice_get_within}
use Rattle.tl_edge.specs.declared.bundle.Bundle.{Bundle}
use Rattle.tl_edge.specs.declared.plan.PlanEdge.{PlanEdge}
use Rattle.tl_edge.specs.declared.plan.PlanPort.{PlanPort}
use Rattle.tl_edge.specs.declared.plan.Plan.{Plan}
use Rattle.tl_edge.specs.Beats.{most_lanes}
use Rattle.tl_edge.specs.Plans.{edge_at, no_edge}
use Rattle.tl_edge.specs.Plans.Giver.{Source}
use Rattle.tl_edge.specs.Plans.Taker.{Sink}
use Rattle.tl_edge.specs.SoundPlans.{IsShort, IsSound, IsSoundEdge}
use Rattle.tl_edge.specs.Wires.{a_widths, d_widths}
use Rattle.tl_edge.proofs.Active.{bus_of}
use Rattle.tl_edge.proofs.Fitting.{wires_law}
use Rattle.tl_edge.proofs.Ways.{ends_law}
use Rattle.net_cells.specs.declared.netlist.Port.{Port}
use Rattle.net_cells.specs.Rules.{IsWidth}
use Rattle.net_build.specs.declared.types.Wire.{Wire}
use Rattle.net_build.specs.Bits.{wire_values}
use Rattle.net_build.specs.Built.{Built, IsBit, IsWire, inputs}
use Rattle.net_build.specs.Columns.{no_wire}
use Rattle.net_build.specs.Registers.{AreWires}
use Rattle.net_build.specs.Values.{Later}
use Rattle.net_ports.specs.Names.{AreNamed}
use Rattle.net_ports.specs.Ports.{bundle_at, request_row, response_row}
use Rattle.net_ports.specs.Rows.{AddsInputs, AreInputWires, AreRead, FitPorts, values_from, widths_of_ports}
use Rattle.net_ports.proofs.RowSteps.{adds_both_inputs, adds_no_inputs, none_read, read_later, values_append}
use Rattle.net_parts.specs.declared.types.EndWires.{EndWires}
use Rattle.net_parts.specs.Wired.{no_end}
use Rattle.net_ends.specs.Ends.{AreOfferEnds, IsEnd}
use Rattle.net_ends.proofs.Later.{offers_later}
use Rattle.net_faces.specs.PortRows.{sink_row, source_row}
use Rattle.net_faces.specs.Steps.{IsSoundPort, ReadsInputs}
use Rattle.net_faces.proofs.Naming.{flat_more, taken_more}

-- ---- ports of a sound plan

edge_sound : (plan : Plan) (edge : ℕ) → IsSound plan → edge < length plan.edges → IsSoundEdge (edge_at plan edge)
edge_sound plan edge sound l =
    let e : slice_get plan.edges edge ≡ Some (get_or plan.edges edge no_edge) = slice_get-get_or plan.edges edge no_edge l in
    subst IsSoundEdge (sym (ap (λ (o : Option PlanEdge). unwrap_or o no_edge) e)) (sound.edges edge no_edge l)

pub source_sound : (plan : Plan) (port : ℕ) (at : PlanPort) → IsSound plan → slice_get plan.sources port ≡ Some at → IsSoundPort plan at
source_sound plan port at sound e =
    let within : at.edge < length plan.edges = ends_law.given plan at.edge (Source port) sound (at, e, refl) in
    let k : port < length plan.sources = slice_get_within plan.sources port at e in
    record {
      within = within;
      sound = edge_sound plan at.edge sound within;
      short = subst IsShort (get_or_append_left plan.sources plan.sinks at port k ∙ get_or_from_slice_get plan.sources port at at e)
          (sound.short port at (omega (arith, k, length-append plan.sources plan.sinks)));
    }

pub sink_sound : (plan : Plan) (port : ℕ) (at : PlanPort) → IsSound plan → slice_get plan.sinks port ≡ Some at → IsSoundPort plan at
sink_sound plan port at sound e =
    let within : at.edge < length plan.edges = ends_law.taken plan at.edge (Sink port) sound (at, e, refl) in
    let k : port < length plan.sinks = slice_get_within plan.sinks port at e in
    record {
      within = within;
      sound = edge_sound plan at.edge sound within;
      short = subst IsShort (get_or-append-add plan.sources plan.sinks port at ∙ get_or_from_slice_get plan.sinks port at at e)
          (sound.short (length plan.sources + port) at (omega (arith, k, length-append plan.sources plan.sinks)));
    }

-- the item at a place
pub item_at : {A : Type 0} (xs ys : List A) (k : ℕ) (x : A) → ys ≡ xs → k < length ys → x ≡ get_or ys k x → (k < length xs) × (x ≡ get_or xs k x) × (slice_get xs k ≡ Some x)
item_at {A} xs ys k x e l i =
    let m : k < length xs = subst (λ (zs : List A). k < length zs) e l in
    let j : x ≡ get_or xs k x = subst (λ (zs : List A). x ≡ get_or zs k x) e i in
    (m, j, slice_get-get_or xs k x m ∙ ap (λ (y : A). Some y) (sym j))

pub few_lanes : (edge : PlanEdge) → IsSoundEdge edge → edge.bundle.data_bytes ≤ most_lanes
few_lanes edge sound = let bus = bus_of edge.bundle.data_bytes sound.width in omega (arith, bus.small)

-- the edge at a place
pub edge_read : (plan : Plan) (edges : List PlanEdge) (place : ℕ) (edge : PlanEdge) → edges ≡ plan.edges → place < length plan.edges → edge ≡ get_or edges place edge → edge ≡ edge_at plan place
edge_read plan edges place edge e l i =
    let j : edge ≡ get_or plan.edges place edge = i ∙ ap (λ (zs : List PlanEdge). get_or zs place edge) e in
    let k : slice_get plan.edges place ≡ Some edge = slice_get-get_or plan.edges place edge l ∙ ap (λ (x : PlanEdge). Some x) (sym j) in
    sym (ap (λ (o : Option PlanEdge). unwrap_or o no_edge) k)

-- ---- ports that fit

one_wide : IsWidth 1
one_wide = (omega arith, omega arith)

ones : (widths : List ℕ) → All IsWidth widths → All IsWidth (1 ∷ widths)
ones widths h = All-cons IsWidth 1 widths one_wide h

pub request_fits : (plan : Plan) (at : PlanPort) (ports : List Port) → IsSoundPort plan at → AreNamed ports → ports ≡ request_row (bundle_at plan at) at → FitPorts ports
request_fits plan at ports h n e =
    let bundle = bundle_at plan at in
    let w : All IsWidth (a_widths bundle) = wires_law.a_widths (edge_at plan at.edge) h.sound in
    let all : All IsWidth (widths_of_ports (request_row bundle at)) = ones (a_widths bundle ++ 1 ∷ []) (All-append IsWidth (a_widths bundle) (1 ∷ []) w (ones [] (All-nil IsWidth))) in
    record { names = n; widths = subst (λ (ps : List Port). All IsWidth (widths_of_ports ps)) (sym e) all }

pub response_fits : (plan : Plan) (at : PlanPort) (ports : List Port) → IsSoundPort plan at → AreNamed ports → ports ≡ response_row (bundle_at plan at) at → FitPorts ports
response_fits plan at ports h n e =
    let bundle = bundle_at plan at in
    let w : All IsWidth (d_widths bundle) = wires_law.d_widths (edge_at plan at.edge) h.sound in
    let all : All IsWidth (widths_of_ports (response_row bundle at)) = ones (1 ∷ d_widths bundle) (ones (d_widths bundle) w) in
    record { names = n; widths = subst (λ (ps : List Port). All IsWidth (widths_of_ports ps)) (sym e) all }

-- ---- the wires of one port

-- all but the last, and the last
last_of : (ws : List Wire) (n : ℕ) (d : Wire) → length ws ≡ suc n → take n ws ++ get_or ws n d ∷ [] ≡ ws
last_of ws n d l =
    let e : n + 1 ≡ length ws = omega (arith, l) in
    sym (take_more ws n d (omega (arith, l))) ∙ take_all (n + 1) ws (omega (arith, l))

pub source_split : (row : List Wire) (d e : Wire) → length row ≡ 9 → get_or row 0 d ∷ take 7 (drop 1 row) ++ get_or row 8 e ∷ [] ≡ row
source_split [] d e l = absurd (omega (arith, l))
source_split (w ∷ ws) d e l = ap (λ (xs : List Wire). w ∷ xs) (last_of ws 7 e (omega (arith, l)))

pub sink_split : (row : List Wire) (d e : Wire) → length row ≡ 7 → get_or row 0 d ∷ get_or row 1 e ∷ take 5 (drop 2 row) ≡ row
sink_split [] d e l = absurd (omega (arith, l))
sink_split (w ∷ []) d e l = absurd (omega (arith, l))
sink_split (w ∷ x ∷ ws) d e l = ap (λ (xs : List Wire). w ∷ x ∷ xs) (take_all 5 ws (omega (arith, l)))

pub source_end_fits : (b : Built) (bundle : Bundle) (port : EndWires) → length (source_row port) ≡ 9 → AreWires b (1 ∷ a_widths bundle ++ 1 ∷ []) (source_row port) → IsEnd b (a_widths bundle) port
source_end_fits b bundle port l h =
    let items = port.put.items in
    let long : length items ≡ 7 = omega (arith, l, length_push items port.take) in
    let first = h.each 0 no_wire (omega (arith, l)) in
    let last = h.each 8 no_wire (omega (arith, l)) in
    let is : get_or (source_row port) 8 no_wire ≡ port.take = get_or_push items port.take no_wire 7 long in
    record {
      valid = record { wire = first.0; one = first.1 };
      take = subst (IsBit b) is (record { wire = last.0; one = last.1 });
      long = long;
      items = record {
        each = λ k d m.
            let at = h.each (suc k) d (omega (arith, l, long, m)) in
            let same : get_or (source_row port) (suc k) d ≡ get_or items k d = get_or_append_left items (port.take ∷ []) d k m in
            let wide : get_or (1 ∷ a_widths bundle ++ 1 ∷ []) (suc k) 0 ≡ get_or (a_widths bundle) k 0 = get_or_append_left (a_widths bundle) (1 ∷ []) 0 k (omega (arith, long, m)) in
            (subst (IsWire b) same at.0, sym (ap (λ (w : Wire). w.width) same) ∙ at.1 ∙ wide);
      };
    }

pub sink_end_fits : (b : Built) (bundle : Bundle) (port : EndWires) → length (sink_row port) ≡ 7 → AreWires b (1 ∷ 1 ∷ d_widths bundle) (sink_row port) → IsEnd b (d_widths bundle) port
sink_end_fits b bundle port l h =
    let first = h.each 0 no_wire (omega (arith, l)) in
    let second = h.each 1 no_wire (omega (arith, l)) in
    record {
      valid = record { wire = second.0; one = second.1 };
      take = record { wire = first.0; one = first.1 };
      long = omega (arith, l);
      items = record { each = λ k d m. h.each (suc (suc k)) d (omega (arith, m)) };
    }

-- the wires of a row of inputs
pub row_reads : (old new : Built) (ports due : List Port) (ws row : List Wire) → ports ≡ due → row ≡ ws → AddsInputs old new ports → AreInputWires new (length (inputs old)) (widths_of_ports ports) ws → ReadsInputs old new due row
row_reads old new ports due ws row e f h g =
    subst (λ (ps : List Port). ReadsInputs old new ps row) e
    (subst (ReadsInputs old new ports) (sym f) (record { adds = h; long = g.long ∙ length-map ports (λ (port : Port). port.width); read = g.read }))

pub row_wires : (b : Built) (from : ℕ) (ports due : List Port) (ws row : List Wire) → ports ≡ due → row ≡ ws → AreInputWires b from (widths_of_ports ports) ws → (length row ≡ length due) × AreWires b (widths_of_ports due) row
row_wires b from ports due ws row e f g =
    let long : length row ≡ length due = ap length f ∙ g.long ∙ length-map ports (λ (port : Port). port.width) ∙ ap length e in
    (long, subst (λ (ps : List Port). AreWires b (widths_of_ports ps) row) e (subst (AreWires b (widths_of_ports ports)) (sym f) g.wires))

-- ---- one port after another

reads_none : (b : Built) → ReadsInputs b b [] []
reads_none b = record { adds = adds_no_inputs b; long = refl; read = none_read b (length (inputs b)) }

pub reads_begun : (b : Built) (row : EndWires → List Wire) (ends : List EndWires) → ends ≡ [] → ReadsInputs b b [] (flat_map row ends)
reads_begun b row ends e = subst (λ (xs : List EndWires). ReadsInputs b b [] (flat_map row xs)) (sym e) (reads_none b)

read_both : (b : Built) (from : ℕ) (ws us : List Wire) → AreRead b from ws → AreRead b (from + length ws) us → AreRead b from (ws ++ us)
read_both b from ws us h g = record {
  at = λ values v k.
      map-append (λ (w : Wire). v w.number) ws us
      ∙ ap (λ (xs : List ℕ). xs ++ wire_values v us) (h.at values v k)
      ∙ ap (λ (xs : List ℕ). values_from values from (length ws) ++ xs) (g.at values v k)
      ∙ sym (values_append values from (length ws) (length us))
      ∙ ap (values_from values from) (sym (length-append ws us));
}

pub reads_far : (old new : Built) (ports : List Port) (ws : List Wire) → ReadsInputs old new ports ws → length (inputs new) ≡ length (inputs old) + length ws
reads_far old new ports ws h = ap length h.adds.inputs ∙ length-append (inputs old) ports ∙ ap (λ (n : ℕ). length (inputs old) + n) (sym h.long)

pub reads_both : (old mid new : Built) (ps qs : List Port) (ws us : List Wire) → ReadsInputs old mid ps ws → ReadsInputs mid new qs us → ReadsInputs old new (ps ++ qs) (ws ++ us)
reads_both old mid new ps qs ws us h g = record {
  adds = adds_both_inputs old mid new ps qs h.adds g.adds;
  long = length-append ws us ∙ ap (λ (n : ℕ). n + length us) h.long ∙ ap (λ (n : ℕ). length ps + n) g.long ∙ sym (length-append ps qs);
  read = read_both new (length (inputs old)) ws us (read_later mid new (length (inputs old)) ws g.adds.later h.read)
      (subst (λ (n : ℕ). AreRead new n us) (reads_far old mid ps ws h) g.read);
}

pub reads_more : (old mid new : Built) (f : PlanPort → List Port) (row : EndWires → List Wire) (all : List PlanPort) (k : ℕ) (at : PlanPort) (ends more : List EndWires) (end : EndWires) → k < length all → at ≡ get_or all k at
    → ReadsInputs old mid (flat_map f (take k all)) (flat_map row ends) → ReadsInputs mid new (f at) (row end) → more ≡ ends ++ end ∷ [] → ReadsInputs old new (flat_map f (take (k + 1) all)) (flat_map row more)
reads_more old mid new f row all k at ends more end l e h g q =
    let rows : flat_map row more ≡ flat_map row ends ++ row end = ap (flat_map row) q ∙ sym (flat_map_more row [] ends end) in
    subst (λ (ps : List Port). ReadsInputs old new ps (flat_map row more)) (sym (flat_more f all k at l e))
    (subst (ReadsInputs old new (flat_map f (take k all) ++ f at)) (sym rows)
    (reads_both old mid new (flat_map f (take k all)) (f at) (flat_map row ends) (row end) h g))

-- what is said of each of some ports and of the item at its place, and of one more
pub each_more : {A B : Type 0} (P : A → B → Type 0) (xs : List A) (x : A) (ys : List B) (y d : B) → length ys ≡ length xs → ((k : ℕ) (a : A) → slice_get xs k ≡ Some a → P a (get_or ys k d)) → P x y
    → (k : ℕ) (a : A) → slice_get (xs ++ x ∷ []) k ≡ Some a → P a (get_or (ys ++ y ∷ []) k d)
each_more {A} P [] x [] y d l h p zero a e = subst (λ (z : A). P z y) (ap (λ (o : Option A). unwrap_or o x) e) p
each_more P [] x [] y d l h p (suc k) a e = absurd (let q : None ≡ Some a = e in cc)
each_more P [] x (z ∷ ys) y d l h p k a e = absurd (omega (arith, l))
each_more P (w ∷ xs) x [] y d l h p k a e = absurd (omega (arith, l))
each_more P (w ∷ xs) x (z ∷ ys) y d l h p zero a e = h zero a e
each_more P (w ∷ xs) x (z ∷ ys) y d l h p (suc k) a e = each_more P xs x ys y d (omega (arith, l)) (λ j b. h (suc j) b) p k a e

ends_none : (b : Built) (widths : PlanPort → List ℕ) → AreOfferEnds b widths [] []
ends_none b widths = record { long = refl; each = λ port at e. absurd (let q : None ≡ Some at = e in cc) }

pub ends_begun : (b : Built) (widths : PlanPort → List ℕ) (ends : List EndWires) → ends ≡ [] → AreOfferEnds b widths [] ends
ends_begun b widths ends e = subst (AreOfferEnds b widths []) (sym e) (ends_none b widths)

pub ends_more : (mid new : Built) (widths : PlanPort → List ℕ) (all : List PlanPort) (k : ℕ) (at : PlanPort) (ends more : List EndWires) (end : EndWires) → k < length all → at ≡ get_or all k at
    → Later mid new → AreOfferEnds mid widths (take k all) ends → IsEnd new (widths at) end → more ≡ ends ++ end ∷ [] → AreOfferEnds new widths (take (k + 1) all) more
ends_more mid new widths all k at ends more end l e g h i q =
    let front : AreOfferEnds new widths (take k all) ends = offers_later mid new widths (take k all) ends g h in
    subst (AreOfferEnds new widths (take (k + 1) all)) (sym q)
    (subst (λ (ps : List PlanPort). AreOfferEnds new widths ps (ends ++ end ∷ [])) (sym (taken_more all k at l e)) (record {
      long = length_push ends end ∙ ap (λ (n : ℕ). n + 1) h.long ∙ sym (length_push (take k all) at);
      each = each_more (λ (a : PlanPort) (y : EndWires). IsEnd new (widths a) y) (take k all) at ends end no_end h.long front.each i;
    }))

-- ---- all ports

pub reads_all : (old new : Built) (f : PlanPort → List Port) (all slice : List PlanPort) (k : ℕ) (ws : List Wire) → slice ≡ all → length slice ≤ k → ReadsInputs old new (flat_map f (take k all)) ws → ReadsInputs old new (flat_map f all) ws
reads_all old new f all slice k ws e l h =
    let m : length all ≤ k = subst (λ (xs : List PlanPort). length xs ≤ k) e l in
    subst (λ (xs : List PlanPort). ReadsInputs old new (flat_map f xs) ws) (take_all k all m) h

pub ends_all : (b : Built) (widths : PlanPort → List ℕ) (all slice : List PlanPort) (k : ℕ) (ends : List EndWires) → slice ≡ all → length slice ≤ k → AreOfferEnds b widths (take k all) ends → AreOfferEnds b widths all ends
ends_all b widths all slice k ends e l h =
    let m : length all ≤ k = subst (λ (xs : List PlanPort). length xs ≤ k) e l in
    subst (λ (xs : List PlanPort). AreOfferEnds b widths xs ends) (take_all k all m) h
