-- Edges whose ports the same place gives have the same equation.
use Rattle.std.proofs.Common.{◌≡◌, ℕ, zero, suc, ◌+◌, ◌<◌, Bool, true, false, cond, ◌&&◌, ◌||◌, List, [], ◌∷◌, length, map, get_or, refl, sym, ap, ◌∙◌, subst, arith, Option, Some, None}
use Rattle.std.specs.Prelude.{slice_get, ◌==◌}
use Rattle.std.proofs.lemmas.List.{length-map}
use Rattle.std.proofs.lemmas.Option.{slice_get_within}
use Rattle.std.proofs.lemmas.Bool.{eqb-true, eq-eqb, and_parts, and_from}
use Rattle.dip_lists.specs.First.{places}
use Rattle.dip_graph.specs.Kinds.{kind_at, ruled_kind_at}
use Rattle.dip_graph.specs.declared.design.NodeKind.{NodeKind}
use Rattle.dip_graph.specs.declared.design.NodeKind.TheVariants.{Source, Sink, Ruled}
use Rattle.dip_graph.specs.declared.design.NodeEntry.{NodeEntry}
use Rattle.dip_graph.specs.declared.edges.Edge.{Edge}
use Rattle.dip_rule.specs.Stated.{StatedRule, is_nexus_kind}
use Rattle.tl_params.specs.declared.ports.DownPort.{DownPort}
use Rattle.tl_params.specs.declared.ports.UpPort.{UpPort}
use Rattle.dip_negotiate.specs.declared.steps.End.{End}
use Rattle.dip_negotiate.specs.Passes.{Pass}
use Rattle.dip_negotiate.specs.Places.{source_end, sink_end, belongs, joined_to, asked}
use Rattle.dip_negotiate.specs.Negotiation.{down_at, up_at, down_pass, up_pass, place_of, says_down, says_up}
use Rattle.dip_negotiate.specs.Demands.{first_at, first_shares, end_places, same_end}
use Rattle.dip_negotiate.specs.Turns.{AreShared, SameFirst}

-- an end is its node and its port
same_ends : (a b : End) → a.node ≡ b.node → a.port ≡ b.port → a ≡ b
same_ends a b n p = ap (λ m. record { node = m; port = a.port }) n ∙ ap (λ q. record { node = b.node; port = q }) p

same_end_is : (a b : End) → same_end a b ≡ true → a ≡ b
same_end_is a b h =
    let p = and_parts (a.node == b.node) (a.port == b.port) h in
    same_ends a b (eqb-true a.node b.node p.0) (eqb-true a.port b.port p.1)

end_is_same : (a : End) → same_end a a ≡ true
end_is_same a = and_from (a.node == a.node) (a.port == a.port) (eq-eqb a.node a.node refl) (eq-eqb a.port a.port refl)

-- the first place at which an end of the list stands has this end
first_has : (end : End) (ends : List End) (k : ℕ) → slice_get ends k ≡ Some end → slice_get ends (first_at end ends) ≡ Some end
first_has end [] k h = absurd cc
first_has end (x ∷ ends) k h = by (same_end x end) refl k h (λ j i. first_has end ends j i)
  where
    same_some : (a b : End) → ◌≡◌ {A = Option End} (Some a) (Some b) → a ≡ b
    same_some a b e = cc

    differs : (a b : End) → same_end a b ≡ false → a ≡ b → ⊥
    differs a b f e = let z : true ≡ false = sym (end_is_same b) ∙ ap (λ y. same_end y b) (sym e) ∙ f in cc

    by : (b : Bool) → same_end x end ≡ b → (k : ℕ) → slice_get (x ∷ ends) k ≡ Some end → ((j : ℕ) → slice_get ends j ≡ Some end → slice_get ends (first_at end ends) ≡ Some end)
        → slice_get (x ∷ ends) (first_at end (x ∷ ends)) ≡ Some end
    by true q k h f = ap (λ b. slice_get (x ∷ ends) (cond b 0 (first_at end ends + 1))) q ∙ ap Some (same_end_is x end q)
    by false q zero h f = absurd (differs x end q (same_some x end h))
    by false q (suc k) h f = ap (λ b. slice_get (x ∷ ends) (cond b 0 (first_at end ends + 1))) q ∙ ap (slice_get (x ∷ ends)) (next (first_at end ends)) ∙ f k h
      where
        next : (n : ℕ) → n + 1 ≡ suc n
        next n = omega arith

module _ (place : Edge → End) (edges : List Edge) where
  ends : List End
  ends = map place edges

  end_at : (k : ℕ) (edge : Edge) → slice_get edges k ≡ Some edge → slice_get (map place edges) k ≡ Some (place edge)
  end_at k edge h = at edges k h
    where
      at : (es : List Edge) (k : ℕ) → slice_get es k ≡ Some edge → slice_get (map place es) k ≡ Some (place edge)
      at [] k h = absurd cc
      at (e ∷ es) zero h = ap (λ (x : Option Edge). by x) h
        where
          by : Option Edge → Option End
          by None = None
          by (Some x) = Some (place x)
      at (e ∷ es) (suc k) h = at es k h

  first_is : (k : ℕ) (edge : Edge) → slice_get edges k ≡ Some edge → get_or (first_shares (map place edges)) k 0 ≡ first_at (place edge) (map place edges)
  first_is k edge h = at (map place edges) k (end_at k edge h)
    where
      at : (xs : List End) (k : ℕ) → slice_get xs k ≡ Some (place edge) → get_or (map (λ end. first_at end (map place edges)) xs) k 0 ≡ first_at (place edge) (map place edges)
      at [] k h = absurd cc
      at (x ∷ xs) zero h = let q : x ≡ place edge = cc in ap (λ y. first_at y (map place edges)) q
      at (x ∷ xs) (suc k) h = at xs k h

  -- edges with the same first edge have the same place
  pub one_place : (j k : ℕ) (d e : Edge) → slice_get edges j ≡ Some d → slice_get edges k ≡ Some e → SameFirst (first_shares (map place edges)) j k → place d ≡ place e
  one_place j k d e hd he q =
      let a = first_has (place d) (map place edges) j (end_at j d hd) in
      let b = first_has (place e) (map place edges) k (end_at k e he) in
      let f : first_at (place d) (map place edges) ≡ first_at (place e) (map place edges) = sym (first_is j d hd) ∙ q ∙ first_is k e he in
      same_some (place d) (place e) (sym a ∙ ap (slice_get (map place edges)) f ∙ b)
    where
      same_some : (a b : End) → ◌≡◌ {A = Option End} (Some a) (Some b) → a ≡ b
      same_some a b e = cc

  first_within : (k : ℕ) (edge : Edge) → slice_get edges k ≡ Some edge → get_or (first_shares (map place edges)) k 0 < length edges
  first_within k edge h =
      let a = first_has (place edge) (map place edges) k (end_at k edge h) in
      let l = slice_get_within (map place edges) (first_at (place edge) (map place edges)) (place edge) a in
      subst (λ n. n < length edges) (sym (first_is k edge h)) (subst (λ n. first_at (place edge) (map place edges) < n) (length-map edges place) l)

  pub shared : {P : Type 0} (pass : Pass P) (firsts : List ℕ) → firsts ≡ first_shares (map place edges)
      → ((d e : Edge) → place d ≡ place e → pass.asks d ≡ pass.asks e) → ((d e : Edge) → place d ≡ place e → (ports : List P) → pass.says d ports ≡ pass.says e ports)
      → AreShared pass edges firsts
  shared pass firsts q a s = subst (λ fs. AreShared pass edges fs) (sym q) (record {
    long = length-map (map place edges) (λ end. first_at end (map place edges)) ∙ length-map edges place;
    within = first_within;
    asks = λ j k d e hd he f. a d e (one_place j k d e hd he f);
    says = λ j k d e hd he f ports. s d e (one_place j k d e hd he f) ports;
  })

-- ---- of a design

module _ (rules : List StatedRule) (nodes : List NodeEntry) where
  node_of : (a b : End) → place_of rules nodes a ≡ place_of rules nodes b → a.node ≡ b.node
  node_of a b h = ap (λ (e : End). e.node) h

  nexus : ℕ → Bool
  nexus node = is_nexus_kind rules (ruled_kind_at nodes node)

  port_of : (a b : End) → place_of rules nodes a ≡ place_of rules nodes b → is_nexus_kind rules (ruled_kind_at nodes a.node) ≡ false → a.port ≡ b.port
  port_of a b h f =
      let fb : is_nexus_kind rules (ruled_kind_at nodes b.node) ≡ false = ap (λ n. is_nexus_kind rules (ruled_kind_at nodes n)) (sym (node_of a b h)) ∙ f in
      ap (λ c. cond c 0 a.port) (sym f) ∙ ap (λ (e : End). e.port) h ∙ ap (λ c. cond c 0 b.port) fb

  end_of : (a b : End) → place_of rules nodes a ≡ place_of rules nodes b → is_nexus_kind rules (ruled_kind_at nodes a.node) ≡ false → a ≡ b
  end_of a b h f = same_ends a b (node_of a b h) (port_of a b h f)

  joined_same : (far : Edge → End) (edges : List Edge) (a b : End) → a.node ≡ b.node → (from : ℕ) → places (λ number edge. belongs true a (far edge)) from edges ≡ places (λ number edge. belongs true b (far edge)) from edges
  joined_same far edges a b n from = ap (λ m. places (λ number edge. (m == (far edge).node) && (true || (0 == (far edge).port))) from edges) n

  asked_same : (near far : Edge → End) (edges : List Edge) (d e : Edge) → place_of rules nodes (near d) ≡ place_of rules nodes (near e) → asked rules nodes edges near far d ≡ asked rules nodes edges near far e
  asked_same near far edges d e h = by (is_nexus_kind rules (ruled_kind_at nodes (near d).node)) refl
    where
      nd : ℕ
      nd = (near d).node

      by : (b : Bool) → is_nexus_kind rules (ruled_kind_at nodes (near d).node) ≡ b → asked rules nodes edges near far d ≡ asked rules nodes edges near far e
      by false f = ap (λ own. joined_to (is_nexus_kind rules (ruled_kind_at nodes own.node)) far own edges) (end_of (near d) (near e) h f)
      by true t =
          let te : is_nexus_kind rules (ruled_kind_at nodes (near e).node) ≡ true = ap (λ n. is_nexus_kind rules (ruled_kind_at nodes n)) (sym (node_of (near d) (near e) h)) ∙ t in
          ap (λ c. joined_to c far (near d) edges) t ∙ joined_same far edges (near d) (near e) (node_of (near d) (near e) h) 0 ∙ ap (λ c. joined_to c far (near e) edges) (sym te)

  says_down_same : (d e : Edge) → place_of rules nodes (source_end d) ≡ place_of rules nodes (source_end e) → (ins : List DownPort) → says_down rules nodes d ins ≡ says_down rules nodes e ins
  says_down_same d e h ins = by (kind_at nodes d.from) refl
    where
      node : d.from ≡ e.from
      node = node_of (source_end d) (source_end e) h

      moved : says_down rules nodes e ins ≡ down_at rules d.from e.from_port (kind_at nodes d.from) ins
      moved = ap (λ n. down_at rules n e.from_port (kind_at nodes n) ins) (sym node)

      -- a source is no nexus
      plain : (ports ids : ℕ) (emits : _) → kind_at nodes d.from ≡ Some (Source ports ids emits) → is_nexus_kind rules (ruled_kind_at nodes d.from) ≡ false
      plain ports ids emits q = ap (λ k. is_nexus_kind rules (ruled k)) q
        where
          ruled : Option NodeKind → Option (List ℕ)
          ruled None = None
          ruled (Some (Ruled kind args)) = Some kind
          ruled (Some (Source ports ids emits)) = None
          ruled (Some (Sink beat ports supports)) = None

      by : (k : Option NodeKind) → kind_at nodes d.from ≡ k → says_down rules nodes d ins ≡ says_down rules nodes e ins
      by None q = ap (λ k. down_at rules d.from d.from_port k ins) q ∙ ap (λ k. down_at rules d.from e.from_port k ins) (sym q) ∙ sym moved
      by (Some (Source ports ids emits)) q =
          ap (λ p. down_at rules d.from p (kind_at nodes d.from) ins) (port_of (source_end d) (source_end e) h (plain ports ids emits q)) ∙ sym moved
      by (Some (Sink beat ports supports)) q = ap (λ k. down_at rules d.from d.from_port k ins) q ∙ ap (λ k. down_at rules d.from e.from_port k ins) (sym q) ∙ sym moved
      by (Some (Ruled kind args)) q = ap (λ k. down_at rules d.from d.from_port k ins) q ∙ ap (λ k. down_at rules d.from e.from_port k ins) (sym q) ∙ sym moved

  says_up_same : (d e : Edge) → place_of rules nodes (sink_end d) ≡ place_of rules nodes (sink_end e) → (outs : List UpPort) → says_up rules nodes d outs ≡ says_up rules nodes e outs
  says_up_same d e h outs = by (kind_at nodes d.to) refl
    where
      node : d.to ≡ e.to
      node = node_of (sink_end d) (sink_end e) h

      moved : says_up rules nodes e outs ≡ up_at rules d.to e.to_port (kind_at nodes d.to) outs
      moved = ap (λ n. up_at rules n e.to_port (kind_at nodes n) outs) (sym node)

      -- a sink is no nexus
      plain : (beat : ℕ) (ports : _) (supports : _) → kind_at nodes d.to ≡ Some (Sink beat ports supports) → is_nexus_kind rules (ruled_kind_at nodes d.to) ≡ false
      plain beat ports supports q = ap (λ k. is_nexus_kind rules (ruled k)) q
        where
          ruled : Option NodeKind → Option (List ℕ)
          ruled None = None
          ruled (Some (Ruled kind args)) = Some kind
          ruled (Some (Source ports ids emits)) = None
          ruled (Some (Sink beat ports supports)) = None

      by : (k : Option NodeKind) → kind_at nodes d.to ≡ k → says_up rules nodes d outs ≡ says_up rules nodes e outs
      by None q = ap (λ k. up_at rules d.to d.to_port k outs) q ∙ ap (λ k. up_at rules d.to e.to_port k outs) (sym q) ∙ sym moved
      by (Some (Sink beat ports supports)) q =
          ap (λ p. up_at rules d.to p (kind_at nodes d.to) outs) (port_of (sink_end d) (sink_end e) h (plain beat ports supports q)) ∙ sym moved
      by (Some (Source ports ids emits)) q = ap (λ k. up_at rules d.to d.to_port k outs) q ∙ ap (λ k. up_at rules d.to e.to_port k outs) (sym q) ∙ sym moved
      by (Some (Ruled kind args)) q = ap (λ k. up_at rules d.to d.to_port k outs) q ∙ ap (λ k. up_at rules d.to e.to_port k outs) (sym q) ∙ sym moved

  pub down_shared : (edges : List Edge) (firsts : List ℕ) → firsts ≡ first_shares (end_places rules nodes source_end edges) → AreShared (down_pass rules nodes edges) edges firsts
  down_shared edges firsts q = shared (λ edge. place_of rules nodes (source_end edge)) edges (down_pass rules nodes edges) firsts q
      (λ d e h. asked_same source_end sink_end edges d e h) (λ d e h ins. says_down_same d e h ins)

  pub up_shared : (edges : List Edge) (firsts : List ℕ) → firsts ≡ first_shares (end_places rules nodes sink_end edges) → AreShared (up_pass rules nodes edges) edges firsts
  up_shared edges firsts q = shared (λ edge. place_of rules nodes (sink_end edge)) edges (up_pass rules nodes edges) firsts q
      (λ d e h. asked_same sink_end source_end edges d e h) (λ d e h outs. says_up_same d e h outs)
