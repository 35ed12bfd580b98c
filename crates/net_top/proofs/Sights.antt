-- What rows of outputs show of a state of the network.
use Rattle.std.proofs.Common.{◌≡◌, ℕ, zero, suc, ◌<◌, ◌^◌, ◌==◌, Bool, true, false, cond, List, [], ◌∷◌, ◌++◌, length, map, flat_map, get_or, Option, Some, None, refl, sym, ap, ◌∙◌, subst, arith, slice_get}
use Rattle.std.specs.Int.{from_bool}
use Rattle.std.proofs.lemmas.List.{get_or-map, map-append}
use Rattle.tl_edge.specs.declared.beat.ABeat.{ABeat}
use Rattle.tl_edge.specs.declared.beat.Tag.{Tag}
use Rattle.tl_edge.specs.declared.plan.PlanEdge.{PlanEdge}
use Rattle.tl_edge.specs.declared.plan.PlanPort.{PlanPort}
use Rattle.tl_edge.specs.declared.plan.Plan.{Plan}
use Rattle.tl_edge.specs.Wires.{a_widths, d_widths}
use Rattle.flow_core.specs.Network.{State}
use Rattle.flow_core.specs.Queues.{queue, head_in, has_place}
use Rattle.net_cells.specs.declared.netlist.OutPort.{OutPort}
use Rattle.net_cells.specs.declared.netlist.Port.{Port}
use Rattle.net_build.specs.declared.types.Wire.{Wire}
use Rattle.net_build.specs.Bits.{row_picked, wire_values}
use Rattle.net_build.specs.Built.{Built}
use Rattle.net_build.specs.Registers.{AreWires}
use Rattle.net_build.specs.Values.{Solves, high}
use Rattle.net_queue.specs.Queues.{shown_at}
use Rattle.net_ports.specs.Implementing.{beat_values, request_values, sink_shows, source_shows}
use Rattle.net_ports.specs.Rows.{shown_outputs}
use Rattle.net_parts.specs.Stands.{ShowAll, down_fields, up_fields}
use Rattle.net_parts.specs.Wired.{Wiring, wires_of_edge}
use Rattle.net_parts.proofs.Shown.{head_shown, room_shown}
use Rattle.net_faces.specs.Showing.{ShowsSink, ShowsSource, all_shown, head_values}

bit_of : (n : ℕ) (flag : Bool) → n < 2 → (n == 1) ≡ flag → n ≡ from_bool flag
bit_of zero true l e = absurd (let x : false ≡ true = e in cc)
bit_of zero false l e = refl
bit_of (suc zero) true l e = refl
bit_of (suc zero) false l e = absurd (let x : true ≡ false = e in cc)
bit_of (suc (suc n)) flag l e = absurd (omega arith)

head_is : (count valid : ℕ) (items : List ℕ) (beat : Option (List ℕ)) → valid < 2 → cond (valid == 1) (Some items) None ≡ beat → valid ∷ row_picked count ((valid == 1) ∷ []) (items ∷ []) ≡ beat_values count beat
head_is count zero items None l e = refl
head_is count zero items (Some fields) l e = absurd (let x : None ≡ Some fields = e in cc)
head_is count (suc zero) items None l e = absurd (let x : Some items ≡ None = e in cc)
head_is count (suc zero) items (Some fields) l e = let h : items ≡ fields = cc in ap (λ (xs : List ℕ). 1 ∷ xs) h
head_is count (suc (suc n)) items beat l e = absurd (omega arith)

-- the first value of a row of wires fits the first width
first_fits : (b : Built) (v : ℕ → ℕ) (widths : List ℕ) (k : ℕ) (row : List Wire) → Solves b v → k < length row → AreWires b widths row → get_or widths k 0 ≡ 1 → get_or (wire_values v row) k 0 < 2
first_fits b v widths k row s l h e =
    let x = h.each k (record { number = 0; width = 0 }) l in
    let w : (get_or row k (record { number = 0; width = 0 })).width ≡ 1 = x.1 ∙ e in
    subst (λ (n : ℕ). n < 2) (sym (get_or-map (λ (w : Wire). v w.number) row k (record { number = 0; width = 0 }) 0 l))
    (subst (λ (n : ℕ). v (get_or row k (record { number = 0; width = 0 })).number < 2 ^ n) (x.0.has.1 ∙ w) (s.fits (get_or row k (record { number = 0; width = 0 })).number x.0.has.0))

ninth : (beat : Option (ABeat × Tag)) (n : ℕ) → get_or (request_values beat ++ n ∷ []) 8 0 ≡ n
ninth None n = refl
ninth (Some x) n = refl

module _ (b : Built) (plan : Plan) (w : Wiring) (v : ℕ → ℕ) (s : State) (sol : Solves b v) (shows : ShowAll plan w v s) where
  pub source_sight : (edge : PlanEdge) (at : PlanPort) (row : List Wire) → at.edge < length plan.edges → length (wires_of_edge w.edges at.edge).d.head ≡ 5 → ShowsSource b edge (wires_of_edge w.edges at.edge) row → wire_values v row ≡ source_shows s at
  source_sight edge at row l long h =
      let q = wires_of_edge w.edges at.edge in
      let ready : v q.a.ready.number < 2 = subst (λ (xs : List ℕ). get_or xs 0 0 < 2) (h.at v sol) (first_fits b v (1 ∷ 1 ∷ d_widths edge.bundle) 0 row sol (omega (arith, h.long)) h.wide refl) in
      let valid : v q.d.valid.number < 2 = subst (λ (xs : List ℕ). get_or xs 1 0 < 2) (h.at v sol) (first_fits b v (1 ∷ 1 ∷ d_widths edge.bundle) 1 row sol (omega (arith, h.long)) h.wide refl) in
      h.at v sol
      ∙ ap (λ (n : ℕ). n ∷ head_values v q.d) (bit_of (v q.a.ready.number) _ ready (room_shown down_fields (queue s.a at.edge) (shown_at q.a v) (shows.a at.edge l)))
      ∙ ap (λ (n : ℕ). from_bool (has_place (queue s.a at.edge)) ∷ v q.d.valid.number ∷ row_picked n (high v q.d.valid ∷ []) (wire_values v q.d.head ∷ [])) long
      ∙ ap (λ (xs : List ℕ). from_bool (has_place (queue s.a at.edge)) ∷ xs) (head_is 5 (v q.d.valid.number) (wire_values v q.d.head) _ valid (head_shown up_fields (queue s.d at.edge) (shown_at q.d v) (shows.d at.edge l)))

  pub sink_sight : (edge : PlanEdge) (at : PlanPort) (row : List Wire) → at.edge < length plan.edges → length (wires_of_edge w.edges at.edge).a.head ≡ 7 → ShowsSink b edge (wires_of_edge w.edges at.edge) row → wire_values v row ≡ sink_shows s at
  sink_sight edge at row l long h =
      let q = wires_of_edge w.edges at.edge in
      let valid : v q.a.valid.number < 2 = subst (λ (xs : List ℕ). get_or xs 0 0 < 2) (h.at v sol) (first_fits b v (1 ∷ a_widths edge.bundle ++ 1 ∷ []) 0 row sol (omega (arith, h.long)) h.wide refl) in
      let eight : v q.a.valid.number ∷ row_picked (length q.a.head) (high v q.a.valid ∷ []) (wire_values v q.a.head ∷ []) ≡ request_values (head_in (queue s.a at.edge)) =
      ap (λ (n : ℕ). v q.a.valid.number ∷ row_picked n (high v q.a.valid ∷ []) (wire_values v q.a.head ∷ [])) long
      ∙ head_is 7 (v q.a.valid.number) (wire_values v q.a.head) _ valid (head_shown down_fields (queue s.a at.edge) (shown_at q.a v) (shows.a at.edge l)) in
      let ready : v q.d.ready.number < 2 = subst (λ (n : ℕ). n < 2) (ap (λ (xs : List ℕ). get_or xs 8 0) (h.at v sol ∙ ap (λ (xs : List ℕ). xs ++ v q.d.ready.number ∷ []) eight) ∙ ninth (head_in (queue s.a at.edge)) (v q.d.ready.number)) (first_fits b v (1 ∷ a_widths edge.bundle ++ 1 ∷ []) 8 row sol (omega (arith, h.long)) h.wide refl) in
      h.at v sol
      ∙ ap (λ (xs : List ℕ). xs ++ v q.d.ready.number ∷ []) eight
      ∙ ap (λ (n : ℕ). request_values (head_in (queue s.a at.edge)) ++ n ∷ []) (bit_of (v q.d.ready.number) _ ready (room_shown up_fields (queue s.d at.edge) (shown_at q.d v) (shows.d at.edge l)))

-- ---- all rows

-- the outputs that show rows at ports have the values of these rows
outs_values : (v : ℕ → ℕ) (ports : List Port) (row : List Wire) → length row ≡ length ports → map (λ (o : OutPort). v o.net) (shown_outputs ports row) ≡ wire_values v row
outs_values v [] [] l = refl
outs_values v [] (w ∷ row) l = absurd (omega (arith, l))
outs_values v (p ∷ ports) [] l = absurd (omega (arith, l))
outs_values v (p ∷ ports) (w ∷ row) l = ap (λ (xs : List ℕ). v w.number ∷ xs) (outs_values v ports row (omega (arith, l)))

pub rows_values : (v : ℕ → ℕ) (f : PlanPort → List Port) (g : PlanPort → List ℕ) (ports : List PlanPort) (rows : List (List Wire)) → length rows ≡ length ports
    → ((k : ℕ) (at : PlanPort) → slice_get ports k ≡ Some at → (length (get_or rows k []) ≡ length (f at)) × (wire_values v (get_or rows k []) ≡ g at))
    → map (λ (o : OutPort). v o.net) (all_shown f ports rows) ≡ flat_map g ports
rows_values v f g [] [] l h = refl
rows_values v f g [] (row ∷ rows) l h = refl
rows_values v f g (at ∷ ports) [] l h = absurd (omega (arith, l))
rows_values v f g (at ∷ ports) (row ∷ rows) l h =
    let x = h 0 at refl in
    map-append (λ (o : OutPort). v o.net) (shown_outputs (f at) row) (all_shown f ports rows)
    ∙ ap (λ (xs : List ℕ). xs ++ map (λ (o : OutPort). v o.net) (all_shown f ports rows)) (outs_values v (f at) row x.0 ∙ x.1)
    ∙ ap (λ (xs : List ℕ). g at ++ xs) (rows_values v f g ports rows (omega (arith, l)) (λ k at e. h (suc k) at e))

-- ---- names and widths

shown_row : (shown : OutPort → Port) (ports : List Port) (row : List Wire) → length row ≡ length ports → ((k : ℕ) (p : Port) (w : Wire) → slice_get ports k ≡ Some p → slice_get row k ≡ Some w → shown (record { name = p.name; net = w.number }) ≡ p) → map shown (shown_outputs ports row) ≡ ports
shown_row shown [] [] l h = refl
shown_row shown [] (w ∷ row) l h = absurd (omega (arith, l))
shown_row shown (p ∷ ports) [] l h = absurd (omega (arith, l))
shown_row shown (p ∷ ports) (w ∷ row) l h =
    ap (λ (x : Port). x ∷ map shown (shown_outputs ports row)) (h 0 p w refl refl)
    ∙ ap (λ (xs : List Port). p ∷ xs) (shown_row shown ports row (omega (arith, l)) (λ k p w e g. h (suc k) p w e g))

pub rows_shown : (shown : OutPort → Port) (f : PlanPort → List Port) (ports : List PlanPort) (rows : List (List Wire)) → length rows ≡ length ports
    → ((j : ℕ) (at : PlanPort) → slice_get ports j ≡ Some at → (length (get_or rows j []) ≡ length (f at)) × ((k : ℕ) (p : Port) (w : Wire) → slice_get (f at) k ≡ Some p → slice_get (get_or rows j []) k ≡ Some w → shown (record { name = p.name; net = w.number }) ≡ p))
    → map shown (all_shown f ports rows) ≡ flat_map f ports
rows_shown shown f [] [] l h = refl
rows_shown shown f [] (row ∷ rows) l h = refl
rows_shown shown f (at ∷ ports) [] l h = absurd (omega (arith, l))
rows_shown shown f (at ∷ ports) (row ∷ rows) l h =
    let x = h 0 at refl in
    map-append shown (shown_outputs (f at) row) (all_shown f ports rows)
    ∙ ap (λ (xs : List Port). xs ++ map shown (all_shown f ports rows)) (shown_row shown (f at) row x.0 x.1)
    ∙ ap (λ (xs : List Port). f at ++ xs) (rows_shown shown f ports rows (omega (arith, l)) (λ k at e. h (suc k) at e))
