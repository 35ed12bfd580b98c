-- Each leaf of a design's plan is sound where what is built for its node fits.
use Rattle.std.proofs.Common.{◌≡◌, ℕ, zero, suc, ◌+◌, ◌<◌, ◌≤◌, max, Bool, true, false, not, cond, ◌&&◌, ◌||◌, ◌==◌, List, [], ◌∷◌, ◌++◌, length, map, IsTrue, nat_le, Option, Some, None, refl, sym, ap, ◌∙◌, subst, arith, inl, inr}
use Rattle.std.specs.Prelude.{slice_get, unwrap_or, All, AllPairs, nat_lt}
use Rattle.std.specs.List.{list_all, list_any, flat_map}
use Rattle.std.specs.Option.{option_map}
use Rattle.std.proofs.lemmas.Bool.{eqb-true, leb-true, ltb-true}
use Rattle.std.proofs.lemmas.List.{append-nil}
use Rattle.std.proofs.lemmas.List.Elements.{All-nil, All-cons}
use Rattle.std.proofs.lemmas.List.Kept.{AllPairs-cons}
use Rattle.dip_lists.specs.First.{places}
use Rattle.dip_sets.specs.declared.ids.IdRange.{IdRange}
use Rattle.dip_sets.specs.SizeRanges.{SizeRange, size_range}
use Rattle.tl_params.specs.declared.arguments.Fragments.{Fragments}
use Rattle.dip_sets.specs.Assignments.{assigned}
use Rattle.dip_plan.proofs.Members.{pairs_none}
use Rattle.tl_params.specs.declared.ops.Template.{Template}
use Rattle.tl_params.specs.declared.ops.Template.TheVariants.{Buffer, Width, Fragmenter, Shrinker, Xbar}
use Rattle.tl_params.specs.declared.ports.Master.{Master}
use Rattle.tl_params.specs.declared.ports.Slave.{Slave}
use Rattle.tl_params.specs.declared.ports.DownPort.{DownPort}
use Rattle.tl_params.specs.declared.ports.UpPort.{UpPort}
use Rattle.tl_params.specs.Operations.{is_nexus}
use Rattle.tl_params.specs.Owners.{largest_end}
use Rattle.tl_params.specs.Arguments.{is_width, fragment_arguments, shrink_argument}
use Rattle.tl_params.specs.Carried.{all_zip, slaves_fit}
use Rattle.tl_edge.specs.declared.plan.PlanEdge.{PlanEdge}
use Rattle.tl_edge.specs.declared.plan.Plan.{Plan}
use Rattle.tl_edge.specs.Plans.{edge_at, no_edge, joined_slaves, bus_width}
use Rattle.tl_edge.specs.SoundPlans.{HasShape, Shows, Carries, FillBeats, ids_of, moved_end, LeavesIds, MovesIds}
use Rattle.tl_rules.specs.Crossbars.{id_count, is_id_count, input_ranges, shifted_master, joined_masters}
use Rattle.tl_rules.specs.Fits.{has_same_ids, same_ids, has_only_ids, EdgePorts, fragments_fit, shrinks_fit, adapter_fits, inputs_fit, outputs_fit, are_edges, template_fits}
use Rattle.tl_rules.specs.Fits.{port_down, port_up, ports_at}
use Rattle.dip_graph.specs.declared.design.NodeKind.TheVariants.{Ruled}
use Rattle.dip_graph.specs.declared.design.NodeEntry.{NodeEntry}
use Rattle.dip_graph.specs.declared.design.Design.{Design}
use Rattle.dip_graph.specs.declared.edges.Edge.{Edge}
use Rattle.dip_rule.specs.Stated.{StatedRule, template_of}
use Rattle.dip_negotiate.specs.declared.solution.Solution.{Solution}
use Rattle.dip_rule.specs.Stated.{is_nexus_kind}
use Rattle.dip_graph.specs.Kinds.{ruled_kind_at}
use Rattle.tl_owners.proofs.Members.{In}
use Rattle.dip_graph.specs.Edges.{edges_to, edges_from}
use Rattle.dip_graph.specs.Edges.{edges_at}
use Rattle.dip_checks.specs.Checks.{beat_at, beats_differ}
use Rattle.dip_plan.specs.DesignPlans.{leaf_of, leaves_between, plan_edge, plan_edges, plan_of}
use Rattle.dip_stars.specs.Filled.{HasItsEdges, HasBothSides}
use Rattle.dip_plan.proofs.Judged.{IsJudged, LeafLaw}
use Rattle.tl_owners.proofs.SoundLeaves.{IsSoundLeaf}
use Rattle.dip_plan.proofs.Parts.{by_node, by_template}

both : (a b : Bool) → (a && b) ≡ true → (a ≡ true) × (b ≡ true)
both true true h = (refl, refl)
both true false h = absurd cc
both false b h = absurd cc

one : {A : Type 0} (P : A → Type 0) (x : A) → P x → All P (x ∷ [])
one P x p = All-cons P x [] p (All-nil P)

pair : {A : Type 0} (R : A → A → Type 0) (x y : A) → R x y → AllPairs R (x ∷ y ∷ [])
pair R x y r = AllPairs-cons R x (y ∷ []) (one (R x) y r) (AllPairs-cons R y [] (All-nil (R y)) (pairs_none R))

-- ---- ids

same_end : (ms ns : List Master) → same_ids ms ns ≡ true → largest_end ms ≡ largest_end ns
same_end [] [] h = refl
same_end [] (n ∷ ns) h = absurd cc
same_end (m ∷ ms) [] h = absurd cc
same_end (m ∷ ms) (n ∷ ns) h =
    let b = both (has_same_ids m n) (same_ids ms ns) h in
    let e : m.ids.end ≡ n.ids.end = eqb-true m.ids.end n.ids.end (both (m.ids.start == n.ids.start) (m.ids.end == n.ids.end) b.0).1 in
    let l = same_end ms ns b.1 in
    rw (e, l) refl

only_end : (ids : ℕ) (ms : List Master) → has_only_ids ids ms ≡ true → largest_end ms ≡ ids
only_end ids [] h = absurd cc
only_end ids (m ∷ []) h =
    let e : m.ids.end ≡ ids = eqb-true m.ids.end ids (both (m.ids.start == 0) (m.ids.end == ids) h).1 in
    omega arith
only_end ids (m ∷ n ∷ more) h = absurd cc

end_joined : (ms ns : List Master) → largest_end (ms ++ ns) ≡ max (largest_end ms) (largest_end ns)
end_joined [] ns = omega arith
end_joined (m ∷ ms) ns = let e = end_joined ms ns in omega arith

end_moved : (by : ℕ) (m : Master) (ms : List Master) → largest_end (map (shifted_master by) (m ∷ ms)) ≡ largest_end (m ∷ ms) + by
end_moved by m [] = omega arith
end_moved by m (n ∷ ms) = let e = end_moved by n ms in omega arith

some_moved : (by : ℕ) (ms : List Master) → 1 ≤ largest_end ms → largest_end (map (shifted_master by) ms) ≡ largest_end ms + by
some_moved by [] h = absurd (omega arith)
some_moved by (m ∷ ms) h = end_moved by m ms

all_moved : (ins : List DownPort) (ranges : List IdRange) → list_all (λ input. is_id_count (id_count input)) ins ≡ true
    → largest_end (joined_masters ins ranges) ≡ moved_end (map id_count ins) ranges
all_moved [] ranges h = refl
all_moved (port ∷ ports) [] h = refl
all_moved (port ∷ ports) (range ∷ ranges) h =
    let b = both (is_id_count (id_count port)) (list_all (λ input. is_id_count (id_count input)) ports) h in
    let s : 1 ≤ largest_end port.masters = leb-true 1 (id_count port) (both (nat_le 1 (id_count port)) (nat_le (id_count port) 1024) b.0).0 in
    let own = some_moved range.start port.masters s in
    let rest = all_moved ports ranges b.1 in
    let j = end_joined (map (shifted_master range.start) port.masters) (joined_masters ports ranges) in
    j ∙ ap (λ n. max n (largest_end (joined_masters ports ranges))) own ∙ ap (λ n. max (largest_end port.masters + range.start) n) rest

-- ---- an adapter

abbrev seen : EdgePorts → PlanEdge
seen ports = plan_edge ports.down ports.up

module _ (above below : EdgePorts) where
  shows : (pieces : Option SizeRange) → slaves_fit pieces above.up.slaves below.up.slaves ≡ true → All (Shows pieces (seen below ∷ [])) (seen above ∷ [])
  shows pieces h = one (Shows pieces (seen below ∷ [])) (seen above) (rw (append-nil below.up.slaves) h)

  widths_same : above.up.beat ≡ below.up.beat → AllPairs (λ edge other. bus_width edge ≡ bus_width other) (seen above ∷ seen below ∷ [])
  widths_same h = pair (λ edge other. bus_width edge ≡ bus_width other) (seen above) (seen below) h

  ends_same : same_ids above.down.masters below.down.masters ≡ true → All (λ ids. (seen below).ids ≡ ids) ((seen above).ids ∷ [])
  ends_same h = one (λ ids. (seen below).ids ≡ ids) (seen above).ids (sym (same_end above.down.masters below.down.masters h))

  record Fit (template : Template) (args : List ℕ) : Type 0 where
    carries : Carries template args (seen above ∷ []) (seen below ∷ [])
    ids : MovesIds template args (seen above ∷ []) (seen below ∷ [])

  adapter : (template : Template) (args : List ℕ) → adapter_fits template args above below ≡ true → Fit template args
  adapter Buffer args h =
      let b = both _ (above.up.beat == below.up.beat) h in
      let c = both (slaves_fit None above.up.slaves below.up.slaves) _ b.0 in
      record {
        carries = record { slaves = shows None c.0; widths = widths_same (eqb-true above.up.beat below.up.beat b.1); arguments = tt };
        ids = one (LeavesIds Buffer args ((seen above).ids ∷ [])) (seen below).ids (ends_same c.1);
      }
  adapter Width args h =
      let a = both _ (is_width below.up.beat) h in
      let b = both _ (is_width above.up.beat) a.0 in
      let c = both (slaves_fit None above.up.slaves below.up.slaves) _ b.0 in
      record {
        carries = record { slaves = shows None c.0; widths = two_widths b.1 a.1; arguments = tt };
        ids = one (LeavesIds Width args ((seen above).ids ∷ [])) (seen below).ids (ends_same c.1);
      }
    where
      two_widths : is_width above.up.beat ≡ true → is_width below.up.beat ≡ true → All (λ edge. IsTrue (is_width (bus_width edge))) (seen above ∷ seen below ∷ [])
      two_widths p q = All-cons (λ edge. IsTrue (is_width (bus_width edge))) (seen above) (seen below ∷ []) p (one (λ edge. IsTrue (is_width (bus_width edge))) (seen below) q)
  adapter Fragmenter args h = at (fragment_arguments args) refl h
    where
      at : (o : Option Fragments) → fragment_arguments args ≡ o → fragments_fit o above below ≡ true → Fit Fragmenter args
      at None e h = absurd cc
      at (Some f) e h =
          let a = both _ (nat_le below.up.beat f.piece) h in
          let b = both _ (above.up.beat == below.up.beat) a.0 in
          let c = both (slaves_fit (Some (size_range 1 f.piece)) above.up.slaves below.up.slaves) _ b.0 in
          let least : below.up.beat ≤ f.piece = leb-true below.up.beat f.piece a.1 in
          record {
            carries = record {
              slaves = subst (λ (o : Option Fragments). All (Shows (option_map (λ fragments. size_range 1 fragments.piece) o) (seen below ∷ [])) (seen above ∷ [])) (sym e) (shows (Some (size_range 1 f.piece)) c.0);
              widths = widths_same (eqb-true above.up.beat below.up.beat b.1);
              arguments = subst (λ (o : Option Fragments). FillBeats o (seen below ∷ [])) (sym e) (one (λ edge. bus_width edge ≤ f.piece) (seen below) least);
            };
            ids = one (LeavesIds Fragmenter args ((seen above).ids ∷ [])) (seen below).ids (ends_same c.1);
          }
  adapter Shrinker args h = at (shrink_argument args) refl h
    where
      at : (o : Option ℕ) → shrink_argument args ≡ o → shrinks_fit o above below ≡ true → Fit Shrinker args
      at None e h = absurd cc
      at (Some n) e h =
          let b = both _ (above.up.beat == below.up.beat) h in
          let c = both (slaves_fit None above.up.slaves below.up.slaves) _ b.0 in
          record {
            carries = record { slaves = shows None c.0; widths = widths_same (eqb-true above.up.beat below.up.beat b.1); arguments = (n, e) };
            ids = one (LeavesIds Shrinker args ((seen above).ids ∷ [])) (seen below).ids (e ∙ ap (λ m. Some m) (sym (only_end n below.down.masters c.1)));
          }
  adapter Xbar args h = absurd cc

-- ---- the edges of a plan by their numbers

edge_is : (downs : List DownPort) (ups : List UpPort) (x : ℕ) → x < length downs → x < length ups → slice_get (plan_edges downs ups) x ≡ Some (plan_edge (port_down downs x) (port_up ups x))
edge_is [] ups x l m = absurd (omega arith)
edge_is (d ∷ downs) [] x l m = absurd (omega arith)
edge_is (d ∷ downs) (u ∷ ups) zero l m = refl
edge_is (d ∷ downs) (u ∷ ups) (suc x) l m = edge_is downs ups x (omega arith) (omega arith)

module _ (plan : Plan) (downs : List DownPort) (ups : List UpPort) (made : plan.edges ≡ plan_edges downs ups) where
  pub at_number : (x : ℕ) → x < length downs → x < length ups → edge_at plan x ≡ plan_edge (port_down downs x) (port_up ups x)
  at_number x l m = ap (λ es. unwrap_or (slice_get es x) no_edge) made ∙ ap (λ o. unwrap_or o no_edge) (edge_is downs ups x l m)

  bounds : (x : ℕ) → (nat_lt x (length downs) && nat_lt x (length ups)) ≡ true → (x < length downs) × (x < length ups)
  bounds x h = let b = both (nat_lt x (length downs)) (nat_lt x (length ups)) h in (ltb-true x (length downs) b.0, ltb-true x (length ups) b.1)

  at_numbers : (xs : List ℕ) → are_edges downs ups xs ≡ true → map (edge_at plan) xs ≡ map (λ x. plan_edge (port_down downs x) (port_up ups x)) xs
  at_numbers [] h = refl
  at_numbers (x ∷ xs) h =
      let b = both (nat_lt x (length downs) && nat_lt x (length ups)) (are_edges downs ups xs) h in
      let w = bounds x b.0 in
      ap (λ e. e ∷ map (edge_at plan) xs) (at_number x w.0 w.1) ∙ ap (λ es. plan_edge (port_down downs x) (port_up ups x) ∷ es) (at_numbers xs b.1)

  sound_from : (template : Template) (args ins outs : List ℕ) → are_edges downs ups ins ≡ true → are_edges downs ups outs ≡ true → HasShape template ins outs
      → Carries template args (map (λ x. plan_edge (port_down downs x) (port_up ups x)) ins) (map (λ x. plan_edge (port_down downs x) (port_up ups x)) outs)
      → MovesIds template args (map (λ x. plan_edge (port_down downs x) (port_up ups x)) ins) (map (λ x. plan_edge (port_down downs x) (port_up ups x)) outs)
      → IsSoundLeaf plan (leaf_of template args ins outs)
  sound_from template args ins outs i o s c m =
      let p = at_numbers ins i in
      let q = at_numbers outs o in
      record {
        shape = s;
        carries = subst (λ es. Carries template args es (map (edge_at plan) outs)) (sym p)
            (subst (λ es. Carries template args (map (λ x. plan_edge (port_down downs x) (port_up ups x)) ins) es) (sym q) c);
        ids = subst (λ es. MovesIds template args es (map (edge_at plan) outs)) (sym p)
            (subst (λ es. MovesIds template args (map (λ x. plan_edge (port_down downs x) (port_up ups x)) ins) es) (sym q) m);
      }

  -- ---- an adapter's leaves

  adapter_shape : (template : Template) (a b : ℕ) → is_nexus template ≡ false → HasShape template (a ∷ []) (b ∷ [])
  adapter_shape Buffer a b h = (omega arith, omega arith)
  adapter_shape Width a b h = (omega arith, omega arith)
  adapter_shape Fragmenter a b h = (omega arith, omega arith)
  adapter_shape Shrinker a b h = (omega arith, omega arith)
  adapter_shape Xbar a b h = absurd cc

  adapters : (template : Template) (args ins outs : List ℕ) → is_nexus template ≡ false → are_edges downs ups ins ≡ true → are_edges downs ups outs ≡ true
      → all_zip (λ above below. adapter_fits template args (ports_at downs ups above) (ports_at downs ups below)) ins outs ≡ true
      → All (IsSoundLeaf plan) (leaves_between template args ins outs)
  adapters template args [] outs n i o h = All-nil (IsSoundLeaf plan)
  adapters template args (a ∷ ins) [] n i o h = All-nil (IsSoundLeaf plan)
  adapters template args (a ∷ ins) (b ∷ outs) n i o h =
      let f = both (adapter_fits template args (ports_at downs ups a) (ports_at downs ups b)) _ h in
      let p = both (nat_lt a (length downs) && nat_lt a (length ups)) (are_edges downs ups ins) i in
      let q = both (nat_lt b (length downs) && nat_lt b (length ups)) (are_edges downs ups outs) o in
      let k = adapter (ports_at downs ups a) (ports_at downs ups b) template args f.0 in
      All-cons (IsSoundLeaf plan) (leaf_of template args (a ∷ []) (b ∷ [])) (leaves_between template args ins outs)
      (sound_from template args (a ∷ []) (b ∷ []) (only_one p.0) (only_one q.0) (adapter_shape template a b n) k.carries k.ids)
      (adapters template args ins outs n p.1 q.1 f.1)
    where
      only_one : {x : Bool} → x ≡ true → (x && true) ≡ true
      only_one {x} e = rw e refl

  -- ---- a crossbar's leaf

  abbrev show : ℕ → PlanEdge
  show x = plan_edge (port_down downs x) (port_up ups x)

  joined : (outs : List ℕ) → joined_slaves (map show outs) ≡ flat_map (λ (output : UpPort). output.slaves) (map (port_up ups) outs)
  joined [] = refl
  joined (x ∷ outs) = ap (λ ss. (port_up ups x).slaves ++ ss) (joined outs)

  counts : (ins : List ℕ) → ids_of (map show ins) ≡ map id_count (map (port_down downs) ins)
  counts [] = refl
  counts (x ∷ ins) = ap (λ ns. largest_end (port_down downs x).masters ∷ ns) (counts ins)

  inputs_show : (ins : List ℕ) (real : List Slave) (outs : List PlanEdge) → joined_slaves outs ≡ real → list_all (λ (input : UpPort). slaves_fit None input.slaves real) (map (port_up ups) ins) ≡ true
      → All (Shows None outs) (map show ins)
  inputs_show [] real outs e h = All-nil (Shows None outs)
  inputs_show (x ∷ ins) real outs e h =
      let b = both (slaves_fit None (port_up ups x).slaves real) _ h in
      All-cons (Shows None outs) (show x) (map show ins) (rw e b.0) (inputs_show ins real outs e b.1)

  outputs_move : (outs : List ℕ) (end : ℕ) (ms : List Master) → largest_end ms ≡ end → list_all (λ (output : DownPort). same_ids ms output.masters) (map (port_down downs) outs) ≡ true
      → All (λ ids. ids ≡ end) (ids_of (map show outs))
  outputs_move [] end ms e h = All-nil (λ ids. ids ≡ end)
  outputs_move (x ∷ outs) end ms e h =
      let b = both (same_ids ms (port_down downs x).masters) _ h in
      All-cons (λ ids. ids ≡ end) (largest_end (port_down downs x).masters) (ids_of (map show outs)) (sym (same_end ms (port_down downs x).masters b.0) ∙ e) (outputs_move outs end ms e b.1)

  -- numbers whose edges have all the same width
  all_same : (width : ℕ) (xs : List ℕ) → ((x : ℕ) → In x xs → (port_up ups x).beat ≡ width) → All (λ edge. bus_width edge ≡ width) (map show xs)
  all_same width [] h = All-nil (λ edge. bus_width edge ≡ width)
  all_same width (x ∷ xs) h = All-cons (λ edge. bus_width edge ≡ width) (show x) (map show xs) (h x (inl refl)) (all_same width xs (λ y i. h y (inr i)))

  pairs_same : (width : ℕ) (es : List PlanEdge) → All (λ edge. bus_width edge ≡ width) es → AllPairs (λ edge other. bus_width edge ≡ bus_width other) es
  pairs_same width es h i j d l m = h i d (omega arith) ∙ sym (h j d m)

  crossbar : (args ins outs : List ℕ) (width : ℕ) → are_edges downs ups ins ≡ true → are_edges downs ups outs ≡ true → (1 ≤ length ins) × (1 ≤ length outs)
      → inputs_fit (map (port_up ups) ins) (map (port_up ups) outs) ≡ true → outputs_fit (map (port_down downs) ins) (map (port_down downs) outs) ≡ true
      → ((x : ℕ) → In x ins → (port_up ups x).beat ≡ width) → ((x : ℕ) → In x outs → (port_up ups x).beat ≡ width)
      → IsSoundLeaf plan (leaf_of Xbar args ins outs)
  crossbar args ins outs width i o s f g w v =
      let a = both (nat_le (length (map (port_down downs) ins)) 1024 && list_all (λ (input : DownPort). is_id_count (id_count input)) (map (port_down downs) ins)) _ g in
      let b = both (nat_le (length (map (port_down downs) ins)) 1024) (list_all (λ (input : DownPort). is_id_count (id_count input)) (map (port_down downs) ins)) a.0 in
      let end : largest_end (joined_masters (map (port_down downs) ins) (input_ranges (map (port_down downs) ins))) ≡ moved_end (ids_of (map show ins)) (assigned (ids_of (map show ins))) =
      all_moved (map (port_down downs) ins) (input_ranges (map (port_down downs) ins)) b.1 ∙ ap (λ ns. moved_end ns (assigned ns)) (sym (counts ins)) in
      sound_from Xbar args ins outs i o s
      (record {
        slaves = inputs_show ins (flat_map (λ (output : UpPort). output.slaves) (map (port_up ups) outs)) (map show outs) (joined outs) f;
        widths = pairs_same width (map show ins ++ map show outs) (both_same width (map show ins) (map show outs) (all_same width ins w) (all_same width outs v));
        arguments = tt;
      })
      (outputs_move outs (moved_end (ids_of (map show ins)) (assigned (ids_of (map show ins)))) (joined_masters (map (port_down downs) ins) (input_ranges (map (port_down downs) ins))) end a.1)
    where
      both_same : (width : ℕ) (xs ys : List PlanEdge) → All (λ edge. bus_width edge ≡ width) xs → All (λ edge. bus_width edge ≡ width) ys → All (λ edge. bus_width edge ≡ width) (xs ++ ys)
      both_same width [] ys h k = k
      both_same width (x ∷ xs) ys h k =
          All-cons (λ edge. bus_width edge ≡ width) x (xs ++ ys) (h 0 x (omega arith)) (both_same width xs ys (λ i d l. h (suc i) d (omega arith)) k)

-- ---- of a design

-- members of a list without another width have the first one's
no_other : (ups : List UpPort) (first : ℕ) (others : List ℕ) → list_any (λ other. not (beat_at ups other == beat_at ups first)) others ≡ false → (x : ℕ) → In x others → beat_at ups x ≡ beat_at ups first
no_other ups first [] h x i = absurd i
no_other ups first (y ∷ others) h x i = at (beat_at ups y == beat_at ups first) refl h i (λ g j. no_other ups first others g x j)
  where
    at : (b : Bool) → (beat_at ups y == beat_at ups first) ≡ b → (not b || list_any (λ other. not (beat_at ups other == beat_at ups first)) others) ≡ false → In x (y ∷ others)
        → (list_any (λ other. not (beat_at ups other == beat_at ups first)) others ≡ false → In x others → beat_at ups x ≡ beat_at ups first) → beat_at ups x ≡ beat_at ups first
    at true q h (inl e) f = ap (beat_at ups) e ∙ eqb-true (beat_at ups y) (beat_at ups first) q
    at true q h (inr j) f = f h j
    at false q h i f = absurd cc

same_width : (ups : List UpPort) (xs : List ℕ) → beats_differ ups xs ≡ false → (width : ℕ) × ((x : ℕ) → In x xs → (port_up ups x).beat ≡ width)
same_width ups [] h = (0, λ x i. absurd i)
same_width ups (first ∷ others) h = (beat_at ups first, at)
  where
    at : (x : ℕ) → In x (first ∷ others) → (port_up ups x).beat ≡ beat_at ups first
    at x (inl e) = ap (beat_at ups) e
    at x (inr i) = no_other ups first others h x i

-- a place is one where another test holds too
also : {A : Type 0} (test other : A → Bool) (from : ℕ) (xs : List A) → ((x : A) → test x ≡ true → other x ≡ true) → (y : ℕ) → In y (places (λ number x. test x) from xs) → In y (places (λ number x. other x) from xs)
also test other from [] h y i = i
also {A} test other from (x ∷ xs) h y i = at (test x) (other x) refl refl i (also test other (from + 1) xs h y)
  where
    at : (a b : Bool) → test x ≡ a → other x ≡ b → In y (cond a (from ∷ places (λ number x. test x) (from + 1) xs) (places (λ number x. test x) (from + 1) xs))
        → (In y (places (λ number x. test x) (from + 1) xs) → In y (places (λ number x. other x) (from + 1) xs))
        → In y (cond b (from ∷ places (λ number x. other x) (from + 1) xs) (places (λ number x. other x) (from + 1) xs))
    at true true p q (inl e) f = inl e
    at true true p q (inr j) f = inr (f j)
    at true false p q i f = let z : true ≡ false = sym (h x p) ∙ q in absurd cc
    at false true p q i f = inr (f i)
    at false false p q i f = f i

or_left : (a b : Bool) → a ≡ true → (a || b) ≡ true
or_left true b h = refl
or_left false b h = absurd cc

or_right : (a b : Bool) → b ≡ true → (a || b) ≡ true
or_right true b h = refl
or_right false b h = h

slice_within : {A : Type 0} (xs : List A) (k : ℕ) (x : A) → slice_get xs k ≡ Some x → k < length xs
slice_within [] k x e = absurd cc
slice_within (y ∷ xs) zero x e = omega arith
slice_within (y ∷ xs) (suc k) x e = let l = slice_within xs k x e in omega arith

module _ (rules : List StatedRule) (design : Design) (edges : List Edge) (solution : Solution) (j : IsJudged rules design edges solution) where
  abbrev plan : Plan
  plan = plan_of rules design edges solution

  leaves_of : (node : ℕ) (entry : NodeEntry) (name args : List ℕ) (template : Template) → slice_get design.nodes node ≡ Some entry → entry.kind ≡ Ruled name args → template_of rules name ≡ Some template
      → All (IsSoundLeaf plan) (cond (is_nexus template) (leaf_of template args (edges_to node edges) (edges_from node edges) ∷ []) (leaves_between template args (edges_to node edges) (edges_from node edges)))
  leaves_of node entry name args template is k t =
      let f = j.fit node entry name args template is k t in
      let a = both (are_edges solution.down solution.up (edges_to node edges) && are_edges solution.down solution.up (edges_from node edges)) _ f in
      let b = both (are_edges solution.down solution.up (edges_to node edges)) (are_edges solution.down solution.up (edges_from node edges)) a.0 in
      at template t a.1 b.0 b.1
    where
      nexus_node : template_of rules name ≡ Some Xbar → is_nexus_kind rules (ruled_kind_at design.nodes node) ≡ true
      nexus_node t = rw (is, k, t) refl

      has_edges : template_of rules name ≡ Some Xbar → (1 ≤ length (edges_to node edges)) × (1 ≤ length (edges_from node edges))
      has_edges t =
          let h : HasItsEdges rules edges node (Ruled name args) = subst (λ kind. HasItsEdges rules edges node kind) k (j.has node entry is) in
          let nexus : is_nexus_kind rules (Some name) ≡ true = rw t refl in
          subst (λ (b : Bool). HasBothSides b (length (edges_to node edges)) (length (edges_from node edges))) nexus h

      at : (template : Template) → template_of rules name ≡ Some template → template_fits template args (edges_to node edges) (edges_from node edges) solution.down solution.up ≡ true
          → are_edges solution.down solution.up (edges_to node edges) ≡ true → are_edges solution.down solution.up (edges_from node edges) ≡ true
          → All (IsSoundLeaf plan) (cond (is_nexus template) (leaf_of template args (edges_to node edges) (edges_from node edges) ∷ []) (leaves_between template args (edges_to node edges) (edges_from node edges)))
      at Buffer t h i o = adapters plan solution.down solution.up refl Buffer args (edges_to node edges) (edges_from node edges) refl i o h
      at Width t h i o = adapters plan solution.down solution.up refl Width args (edges_to node edges) (edges_from node edges) refl i o h
      at Fragmenter t h i o = adapters plan solution.down solution.up refl Fragmenter args (edges_to node edges) (edges_from node edges) refl i o h
      at Shrinker t h i o = adapters plan solution.down solution.up refl Shrinker args (edges_to node edges) (edges_from node edges) refl i o h
      at Xbar t h i o =
          let c = both (inputs_fit (map (port_up solution.up) (edges_to node edges)) (map (port_up solution.up) (edges_from node edges))) _ h in
          let w = same_width solution.up (edges_at node edges) (j.beats node (slice_within design.nodes node entry is) (nexus_node t)) in
          one (IsSoundLeaf plan) (leaf_of Xbar args (edges_to node edges) (edges_from node edges))
          (crossbar plan solution.down solution.up refl args (edges_to node edges) (edges_from node edges) w.0 i o (has_edges t) c.0 c.1
          (λ x m. w.1 x (also (λ (edge : Edge). edge.to == node) (λ (edge : Edge). (edge.to == node) || (edge.from == node)) 0 edges (λ (e : Edge) p. or_left (e.to == node) (e.from == node) p) x m))
          (λ x m. w.1 x (also (λ (edge : Edge). edge.from == node) (λ (edge : Edge). (edge.to == node) || (edge.from == node)) 0 edges (λ (e : Edge) p. or_right (e.to == node) (e.from == node) p) x m)))

  all_leaves : All (IsSoundLeaf plan) plan.leaves
  all_leaves = by_node (IsSoundLeaf plan) rules edges 0 design.nodes (λ k entry is.
      let z : k ≡ 0 + k = omega arith in
      by_template (IsSoundLeaf plan) rules entry.kind (edges_to (0 + k) edges) (edges_from (0 + k) edges)
      (λ name args template e t. subst (λ n. All (IsSoundLeaf plan) (cond (is_nexus template) (leaf_of template args (edges_to n edges) (edges_from n edges) ∷ [])
      (leaves_between template args (edges_to n edges) (edges_from n edges)))) z (leaves_of k entry name args template is e t)))

pub leaf_law : LeafLaw
leaf_law rules design edges solution j = all_leaves rules design edges solution j
