-- How many edges each node has, and which ports.
use Rattle.std.proofs.Common.{◌≡◌, ℕ, zero, suc, ◌+◌, ◌<◌, ◌≤◌, Bool, true, false, not, cond, ◌&&◌, ◌||◌, ◌==◌, List, [], ◌∷◌, ◌++◌, length, map, take, Option, Some, None, refl, sym, ap, ◌∙◌, subst, arith, ◌⊎◌, inl, inr}
use Rattle.std.specs.Prelude.{slice_get, All, count_by, ℤ, pos, negsuc, nat_abs, ◌+ℤ◌, int_lt}
use Rattle.std.specs.Ordering.{int_eq}
use Rattle.std.specs.List.{list_any}
use Rattle.std.proofs.lemmas.Bool.{eq-eqb}
use Rattle.std.proofs.lemmas.Bool.Decides.{Decides-int_eq}
use Rattle.std.proofs.lemmas.List.Recursion.{is_count_by}
use Rattle.std.proofs.lemmas.List.Elements.{All-nil, All-cons, All-head, All-tail}
use Rattle.std.proofs.Math.IntN.{pos-+ℤ-pos}
use Rattle.dip_lists.specs.First.{places}
use Rattle.dip_graph.specs.declared.design.NodeKind.{NodeKind}
use Rattle.dip_graph.specs.declared.design.NodeKind.TheVariants.{Source, Sink, Ruled}
use Rattle.dip_graph.specs.declared.design.NodeEntry.{NodeEntry}
use Rattle.dip_graph.specs.declared.design.BindEntry.{BindEntry}
use Rattle.dip_graph.specs.declared.design.Star.{Star}
use Rattle.dip_graph.specs.declared.design.Star.TheVariants.{One, FromStar, ToStar}
use Rattle.dip_graph.specs.declared.design.Design.{Design}
use Rattle.dip_graph.specs.declared.edges.Edge.{Edge}
use Rattle.dip_rule.specs.Stated.{StatedRule}
use Rattle.dip_graph.specs.Edges.{HasNodes}
use Rattle.dip_rule.specs.Stated.{is_nexus_kind}
use Rattle.dip_graph.specs.Kinds.{ruled_kind_at}
use Rattle.dip_stars.specs.declared.rounds.Counted.{Counted}
use Rattle.dip_stars.specs.Rounds.{decider, decider_of, number_by, first_count, first_counts, next_number, next_count, next_counts, after_rounds, known_number, sum_to, sum_from}
use Rattle.dip_stars.specs.Edges.{design_counts, is_node, decides_negative, ruled_is_unfilled, kind_is_unfilled, node_is_unfilled, unfilled, copies, outs, ins, edge_behind, with_copies, edges_behind, edges_of}
use Rattle.dip_graph.specs.Edges.{edges_to, edges_from}
use Rattle.dip_lists.specs.First.{first}
use Rattle.dip_stars.specs.Filled.{EachHasItsEdges, EachHasItsPorts, HasBothSides, HasItsEdges, HasItsPorts}

-- where a test holds nowhere it holds of no item
none_pass : {A : Type 0} (test : ℕ → A → Bool) (from : ℕ) (xs : List A) (k : ℕ) (x : A) → places test from xs ≡ [] → slice_get xs k ≡ Some x → test (from + k) x ≡ false
none_pass test from [] k x h e = absurd cc
none_pass test from (y ∷ ys) k x h e = at (test from y) refl h k e (λ j l i. none_pass test (from + 1) ys j x l i)
  where
    at : (b : Bool) → test from y ≡ b → cond b (from ∷ places test (from + 1) ys) (places test (from + 1) ys) ≡ [] → (k : ℕ) → slice_get (y ∷ ys) k ≡ Some x
        → ((j : ℕ) → places test (from + 1) ys ≡ [] → slice_get ys j ≡ Some x → test (from + 1 + j) x ≡ false) → test (from + k) x ≡ false
    at true q h k e f = absurd cc
    at false q h zero e f = let s : y ≡ x = cc in let z : from + 0 ≡ from = omega arith in ap (λ n. test n x) z ∙ ap (λ i. test from i) (sym s) ∙ q
    at false q h (suc j) e f = let z : from + suc j ≡ from + 1 + j = omega arith in ap (λ n. test n x) z ∙ f j h e

-- ---- how many items pass a test

unfoldable pub hits : {A : Type 0} → (A → Bool) → List A → ℕ
hits test [] = 0
hits test (x ∷ xs) = cond (test x) 1 0 + hits test xs

pub placed_length : {A : Type 0} (test : A → Bool) (from : ℕ) (xs : List A) → length (places (λ number x. test x) from xs) ≡ hits test xs
unfolding hits
placed_length test from [] = refl
placed_length {A} test from (x ∷ xs) = at (test x) (placed_length test (from + 1) xs)
  where
    at : (b : Bool) → length (places (λ number y. test y) (from + 1) xs) ≡ hits test xs
        → length (cond b (from ∷ places (λ number y. test y) (from + 1) xs) (places (λ number y. test y) (from + 1) xs)) ≡ cond b 1 0 + hits test xs
    at true h = omega (arith, h)
    at false h = omega (arith, h)

pub hits_joined : {A : Type 0} (test : A → Bool) (xs ys : List A) → hits test (xs ++ ys) ≡ hits test xs + hits test ys
unfolding hits
hits_joined test [] ys = omega arith
hits_joined test (x ∷ xs) ys = let h = hits_joined test xs ys in omega arith

one_more : (b : Bool) (n : ℕ) → cond b 1 0 + n ≡ cond b (1 + n) n
one_more true n = refl
one_more false n = omega arith

hits_count : {A : Type 0} (test : A → Bool) (xs : List A) → hits test xs ≡ count_by test xs
unfolding hits
hits_count test xs = is_count_by (hits test) test refl (λ x ys. one_more (test x) (hits test ys)) xs

-- ---- the edges that binds make, by one of their ends

module _ (end : Edge → ℕ) (of : BindEntry → ℕ) (same : (earlier : List Edge) (number : ℕ) (b : BindEntry) → end (edge_behind earlier number b) ≡ of b) (node : ℕ) where
  at_end : Edge → Bool
  at_end edge = end edge == node

  made : List Counted → ℕ
  made [] = 0
  made (c ∷ counts) = cond (of c.bind == node) (copies c) 0 + made counts

  copies_made : (more : ℕ) (earlier : List Edge) (number : ℕ) (b : BindEntry) → hits at_end (with_copies more earlier number b) ≡ hits at_end earlier + cond (of b == node) more 0
  unfolding hits at_end
  copies_made zero earlier number b = at (of b == node)
    where
      at : (b : Bool) → hits at_end earlier ≡ hits at_end earlier + cond b zero 0
      at true = omega arith
      at false = omega arith
  copies_made (suc more) earlier number b =
      let h = copies_made more (earlier ++ edge_behind earlier number b ∷ []) number b in
      let j = hits_joined at_end earlier (edge_behind earlier number b ∷ []) in
      let e : (end (edge_behind earlier number b) == node) ≡ (of b == node) = ap (λ n. n == node) (same earlier number b) in
      at (of b == node) h j e
    where
      at : (x : Bool) → hits at_end (with_copies more (earlier ++ edge_behind earlier number b ∷ []) number b) ≡ hits at_end (earlier ++ edge_behind earlier number b ∷ []) + cond x more 0
          → hits at_end (earlier ++ edge_behind earlier number b ∷ []) ≡ hits at_end earlier + (cond (end (edge_behind earlier number b) == node) 1 0 + 0)
          → (end (edge_behind earlier number b) == node) ≡ x
          → hits at_end (with_copies more (earlier ++ edge_behind earlier number b ∷ []) number b) ≡ hits at_end earlier + cond x (suc more) 0
      at true h j e = let k = j ∙ ap (λ z. hits at_end earlier + (cond z 1 0 + 0)) e in omega arith
      at false h j e = let k = j ∙ ap (λ z. hits at_end earlier + (cond z 1 0 + 0)) e in omega arith

  all_made : (earlier : List Edge) (number : ℕ) (counts : List Counted) → hits at_end (edges_behind earlier number counts) ≡ hits at_end earlier + made counts
  unfolding made
  all_made earlier number [] = omega arith
  all_made earlier number (c ∷ counts) =
      let h = all_made (with_copies (copies c) earlier number c.bind) (number + 1) counts in
      let k = copies_made (copies c) earlier number c.bind in
      omega arith

  ends_made : (counts : List Counted) → hits at_end (edges_of counts) ≡ made counts
  unfolding hits
  ends_made counts = let h = all_made [] 0 counts in omega arith

-- ---- known numbers that aren't negative

IsCounted : Counted → Type 0
IsCounted c = known_number c ≡ pos (copies c)

pos_sum : (a b : ℕ) → pos a +ℤ pos b ≡ pos (a + b)
pos_sum a b = pos-+ℤ-pos a b

to_sum : (node : ℕ) (counts : List Counted) → All IsCounted counts → sum_to node counts ≡ pos (made (λ edge. edge.to) (λ b. b.to) (λ earlier number b. refl) node counts)
unfolding made IsCounted
to_sum node [] h = refl
to_sum node (c ∷ counts) h = at (c.bind.to == node) (All-head IsCounted c counts h) (to_sum node counts (All-tail IsCounted c counts h))
  where
    rest : ℕ
    rest = made (λ edge. edge.to) (λ b. b.to) (λ earlier number b. refl) node counts

    at : (b : Bool) → known_number c ≡ pos (copies c) → sum_to node counts ≡ pos rest → cond b (known_number c +ℤ sum_to node counts) (sum_to node counts) ≡ pos (cond b (copies c) 0 + rest)
    at true k s = ap (λ z. z +ℤ sum_to node counts) k ∙ ap (λ z. pos (copies c) +ℤ z) s ∙ pos_sum (copies c) rest
    at false k s = let z : rest ≡ 0 + rest = omega arith in s ∙ ap pos z

from_sum : (node : ℕ) (counts : List Counted) → All IsCounted counts → sum_from node counts ≡ pos (made (λ edge. edge.from) (λ b. b.from) (λ earlier number b. refl) node counts)
unfolding made IsCounted
from_sum node [] h = refl
from_sum node (c ∷ counts) h = at (c.bind.from == node) (All-head IsCounted c counts h) (from_sum node counts (All-tail IsCounted c counts h))
  where
    rest : ℕ
    rest = made (λ edge. edge.from) (λ b. b.from) (λ earlier number b. refl) node counts

    at : (b : Bool) → known_number c ≡ pos (copies c) → sum_from node counts ≡ pos rest → cond b (known_number c +ℤ sum_from node counts) (sum_from node counts) ≡ pos (cond b (copies c) 0 + rest)
    at true k s = ap (λ z. z +ℤ sum_from node counts) k ∙ ap (λ z. pos (copies c) +ℤ z) s ∙ pos_sum (copies c) rest
    at false k s = let z : rest ≡ 0 + rest = omega arith in s ∙ ap pos z

-- what each bind keeps through all rounds
record Keeps (nodes : List NodeEntry) (c : Counted) : Type 0 where
  named : HasNodes nodes c.bind
  free : decider c.bind ≡ None → c.number ≡ Some (pos 1)

first_keeps : (rules : List StatedRule) (nodes : List NodeEntry) (b : BindEntry) → HasNodes nodes b → Keeps nodes (first_count rules nodes b)
first_keeps rules nodes b h = record { named = h; free = λ e. ap (number_by rules nodes) e }

firsts_keep : (rules : List StatedRule) (nodes : List NodeEntry) (binds : List BindEntry) → All (HasNodes nodes) binds → All (Keeps nodes) (first_counts rules nodes binds)
firsts_keep rules nodes [] h = All-nil (Keeps nodes)
firsts_keep rules nodes (b ∷ binds) h =
    All-cons (Keeps nodes) (first_count rules nodes b) (first_counts rules nodes binds) (first_keeps rules nodes b (All-head (HasNodes nodes) b binds h))
    (firsts_keep rules nodes binds (All-tail (HasNodes nodes) b binds h))

next_keeps : (nodes : List NodeEntry) (all : List Counted) (c : Counted) → Keeps nodes c → Keeps nodes (next_count nodes all c)
next_keeps nodes all c k = record { named = k.named; free = λ e. ap (next_number nodes all c.bind) (k.free e) }

nexts_keep : (nodes : List NodeEntry) (all counts : List Counted) → All (Keeps nodes) counts → All (Keeps nodes) (map (next_count nodes all) counts)
nexts_keep nodes all [] h = All-nil (Keeps nodes)
nexts_keep nodes all (c ∷ counts) h =
    All-cons (Keeps nodes) (next_count nodes all c) (map (next_count nodes all) counts) (next_keeps nodes all c (All-head (Keeps nodes) c counts h))
    (nexts_keep nodes all counts (All-tail (Keeps nodes) c counts h))

rounds_keep : (nodes : List NodeEntry) (rounds : ℕ) (counts : List Counted) → All (Keeps nodes) counts → All (Keeps nodes) (after_rounds nodes rounds counts)
rounds_keep nodes zero counts h = h
rounds_keep nodes (suc rounds) counts h = rounds_keep nodes rounds (next_counts nodes counts) (nexts_keep nodes counts counts h)

all_keep : (rules : List StatedRule) (design : Design) → All (HasNodes design.nodes) design.binds → All (Keeps design.nodes) (design_counts rules design)
all_keep rules design h = rounds_keep design.nodes (length design.binds) (first_counts rules design.nodes design.binds) (firsts_keep rules design.nodes design.binds h)

neither : (a b : Bool) → (a || b) ≡ false → (a ≡ false) × (b ≡ false)
neither true b h = absurd cc
neither false b h = (refl, h)

not_negative : (z : ℤ) → int_lt z (pos 0) ≡ false → z ≡ pos (nat_abs z)
not_negative (pos n) h = refl
not_negative (negsuc n) h = absurd cc

any_none : {A : Type 0} (p : A → Bool) (xs : List A) → list_any p xs ≡ false → All (λ x. p x ≡ false) xs
any_none p [] h = All-nil (λ x. p x ≡ false)
any_none p (x ∷ xs) h = let n = neither (p x) (list_any p xs) h in All-cons (λ y. p y ≡ false) x xs n.0 (any_none p xs n.1)

node_exists : (nodes : List NodeEntry) (n : ℕ) → n < length nodes → (entry : NodeEntry) × (slice_get nodes n ≡ Some entry)
node_exists [] n l = absurd (omega arith)
node_exists (e ∷ nodes) zero l = (e, refl)
node_exists (e ∷ nodes) (suc n) l = node_exists nodes n (omega arith)

module _ (rules : List StatedRule) (nodes : List NodeEntry) (all : List Counted) (filled : unfilled rules nodes all ≡ []) where
  node_filled : (n : ℕ) (entry : NodeEntry) → slice_get nodes n ≡ Some entry → node_is_unfilled rules nodes all n entry ≡ false
  node_filled n entry is =
      let z : 0 + n ≡ n = omega arith in
      subst (λ m. node_is_unfilled rules nodes all m entry ≡ false) z (none_pass (node_is_unfilled rules nodes all) 0 nodes n entry filled is)

  decided_by : (n : ℕ) → n < length nodes → All (λ c. decides_negative n c ≡ false) all
  decided_by n l =
      let e = node_exists nodes n l in
      any_none (decides_negative n) all (neither (list_any (decides_negative n) all) (kind_is_unfilled rules nodes all n e.0.kind) (node_filled n e.0 e.1)).0

  decider_exists : (c : Counted) (n : ℕ) → HasNodes nodes c.bind → decider c.bind ≡ Some n → n < length nodes
  decider_exists c n h e = at c.bind.star e
    where
      at : (s : Star) → decider_of s c.bind ≡ Some n → n < length nodes
      at One e = absurd cc
      at FromStar e = let q : c.bind.from ≡ n = cc in let l = h.1 in omega arith
      at ToStar e = let q : c.bind.to ≡ n = cc in let l = h.0 in omega arith

  one_counted : (c : Counted) → Keeps nodes c → ((n : ℕ) → n < length nodes → decides_negative n c ≡ false) → IsCounted c
  unfolding IsCounted
  one_counted c k h = at (decider c.bind) refl
    where
      own : (n : ℕ) → decider c.bind ≡ Some n → (is_node n (decider c.bind) && int_lt (known_number c) (pos 0)) ≡ false → int_lt (known_number c) (pos 0) ≡ false
      own n e h = let q : (n == n) ≡ true = eq-eqb n n refl in rw (e, q) at h

      at : (o : Option ℕ) → decider c.bind ≡ o → known_number c ≡ pos (copies c)
      at None e = let f = k.free e in rw f refl
      at (Some n) e = not_negative (known_number c) (own n e (h n (decider_exists c n k.named e)))

  all_counted : All (Keeps nodes) all → All IsCounted all
  all_counted k i d l = one_counted _ (k i d l) (λ n w. decided_by n w i d l)

not_not : (a : Bool) → not a ≡ false → a ≡ true
not_not true h = refl
not_not false h = absurd cc

pos_same : (a b : ℕ) → int_eq (pos a) (pos b) ≡ true → a ≡ b
pos_same a b h = ap nat_abs ((Decides-int_eq (pos a) (pos b)).0 h)

at_least_one : (a : ℕ) → int_lt (pos a) (pos 1) ≡ false → 1 ≤ a
at_least_one zero h = absurd cc
at_least_one (suc a) h = omega arith

module _ (rules : List StatedRule) (design : Design) (named : All (HasNodes design.nodes) design.binds) (filled : unfilled rules design.nodes (design_counts rules design) ≡ []) where
  abbrev counts : List Counted
  counts = design_counts rules design

  known : All IsCounted counts
  known = all_counted rules design.nodes counts filled (all_keep rules design named)

  to_length : (node : ℕ) → sum_to node counts ≡ pos (length (edges_to node (edges_of counts)))
  unfolding at_end
  to_length node =
      let l = placed_length (λ edge. edge.to == node) 0 (edges_of counts) in
      let m = ends_made (λ edge. edge.to) (λ b. b.to) (λ earlier number b. refl) node counts in
      to_sum node counts known ∙ ap pos (sym (l ∙ m))

  from_length : (node : ℕ) → sum_from node counts ≡ pos (length (edges_from node (edges_of counts)))
  unfolding at_end
  from_length node =
      let l = placed_length (λ edge. edge.from == node) 0 (edges_of counts) in
      let m = ends_made (λ edge. edge.from) (λ b. b.from) (λ earlier number b. refl) node counts in
      from_sum node counts known ∙ ap pos (sym (l ∙ m))

  nexus_at : (node : ℕ) (entry : NodeEntry) (name args : List ℕ) → slice_get design.nodes node ≡ Some entry → entry.kind ≡ Ruled name args → is_nexus_kind rules (ruled_kind_at design.nodes node) ≡ is_nexus_kind rules (Some name)
  nexus_at node entry name args is k = rw (is, k) refl

  sides : (nexus : Bool) (ins outs : ℕ) → ruled_is_unfilled nexus (pos ins) (pos outs) ≡ false → HasBothSides nexus ins outs
  sides true ins outs h = let n = neither (int_lt (pos ins) (pos 1)) (int_lt (pos outs) (pos 1)) h in (at_least_one ins n.0, at_least_one outs n.1)
  sides false ins outs h =
      let n = neither (not (int_eq (pos ins) (pos outs))) (int_eq (pos ins) (pos 0)) h in
      (pos_same ins outs (not_not (int_eq (pos ins) (pos outs)) n.0), not_none ins n.1)
    where
      not_none : (a : ℕ) → int_eq (pos a) (pos 0) ≡ false → 1 ≤ a
      not_none zero h = absurd cc
      not_none (suc a) h = omega arith

  pub has : (node : ℕ) (entry : NodeEntry) → slice_get design.nodes node ≡ Some entry → HasItsEdges rules (edges_of counts) node entry.kind
  has node entry is = at entry.kind refl (neither (list_any (decides_negative node) counts) (kind_is_unfilled rules design.nodes counts node entry.kind) (node_filled rules design.nodes counts filled node entry is)).1
    where
      at : (kind : NodeKind) → entry.kind ≡ kind → kind_is_unfilled rules design.nodes counts node kind ≡ false → HasItsEdges rules (edges_of counts) node kind
      at (Source ports ids emits) k h =
          pos_same _ ports (not_not _ (subst (λ z. not (int_eq z (pos ports)) ≡ false) (from_length node) h))
      at (Sink beat ports supports) k h =
          pos_same _ (length ports) (not_not _ (subst (λ z. not (int_eq z (pos (length ports))) ≡ false) (to_length node) h))
      at (Ruled name args) k h =
          sides (is_nexus_kind rules (Some name)) (length (edges_to node (edges_of counts))) (length (edges_from node (edges_of counts)))
          (subst (λ z. ruled_is_unfilled (is_nexus_kind rules (Some name)) z (pos (length (edges_from node (edges_of counts)))) ≡ false) (to_length node)
          (subst (λ z. ruled_is_unfilled (is_nexus_kind rules (Some name)) (sum_to node counts) z ≡ false) (from_length node)
          (subst (λ b. ruled_is_unfilled b (sum_to node counts) (sum_from node counts) ≡ false) (nexus_at node entry name args is k) h)))

-- ---- the numbers of ports

AreNumbered : List Edge → Type 0
AreNumbered edges = (number : ℕ) (edge : Edge) → slice_get edges number ≡ Some edge → HasItsPorts edges number edge

front_edge : (xs : List Edge) (e : Edge) (number : ℕ) (edge : Edge) → slice_get (xs ++ e ∷ []) number ≡ Some edge
    → ((slice_get xs number ≡ Some edge) × (take number (xs ++ e ∷ []) ≡ take number xs)) ⊎ ((e ≡ edge) × (take number (xs ++ e ∷ []) ≡ xs))
front_edge [] e zero edge is = let q : e ≡ edge = cc in inr (q, refl)
front_edge [] e (suc number) edge is = absurd cc
front_edge (x ∷ xs) e zero edge is = inl (is, refl)
front_edge (x ∷ xs) e (suc number) edge is = elim (front_edge xs e number edge is) [
  | inl f ↦ inl (f.0, ap (λ ys. x ∷ ys) f.1)
  | inr f ↦ inr (f.0, ap (λ ys. x ∷ ys) f.1)
]

ins_length : (node : ℕ) (edges : List Edge) → ins node edges ≡ length (edges_to node edges)
ins_length node edges = sym (placed_length (λ edge. edge.to == node) 0 edges ∙ hits_count (λ edge. edge.to == node) edges)

outs_length : (node : ℕ) (edges : List Edge) → outs node edges ≡ length (edges_from node edges)
outs_length node edges = sym (placed_length (λ edge. edge.from == node) 0 edges ∙ hits_count (λ edge. edge.from == node) edges)

push_numbered : (earlier : List Edge) (number : ℕ) (b : BindEntry) → AreNumbered earlier → AreNumbered (earlier ++ edge_behind earlier number b ∷ [])
unfolding AreNumbered
push_numbered earlier number b h k edge is = elim (front_edge earlier (edge_behind earlier number b) k edge is) [
  | inl f ↦
      let own = h k edge f.0 in
      record { from = own.from ∙ ap (λ es. length (edges_from edge.from es)) (sym f.1); to = own.to ∙ ap (λ es. length (edges_to edge.to es)) (sym f.1) }
  | inr f ↦ subst (λ (e : Edge). HasItsPorts (earlier ++ edge_behind earlier number b ∷ []) k e) f.0
      (record {
        from = outs_length b.from earlier ∙ ap (λ es. length (edges_from b.from es)) (sym f.1);
        to = ins_length b.to earlier ∙ ap (λ es. length (edges_to b.to es)) (sym f.1);
      })
]

copies_numbered : (more : ℕ) (earlier : List Edge) (number : ℕ) (b : BindEntry) → AreNumbered earlier → AreNumbered (with_copies more earlier number b)
copies_numbered zero earlier number b h = h
copies_numbered (suc more) earlier number b h = copies_numbered more (earlier ++ edge_behind earlier number b ∷ []) number b (push_numbered earlier number b h)

behind_numbered : (earlier : List Edge) (number : ℕ) (counts : List Counted) → AreNumbered earlier → AreNumbered (edges_behind earlier number counts)
behind_numbered earlier number [] h = h
behind_numbered earlier number (c ∷ counts) h = behind_numbered (with_copies (copies c) earlier number c.bind) (number + 1) counts (copies_numbered (copies c) earlier number c.bind h)

none_numbered : AreNumbered []
unfolding AreNumbered
none_numbered number edge is = absurd cc

all_numbered : (counts : List Counted) → AreNumbered (edges_of counts)
all_numbered counts = behind_numbered [] 0 counts none_numbered

pub numbered : (counts : List Counted) (number : ℕ) (edge : Edge) → slice_get (edges_of counts) number ≡ Some edge → HasItsPorts (edges_of counts) number edge
unfolding AreNumbered
numbered counts = all_numbered counts

none_first : (xs : List ℕ) → first xs ≡ None → xs ≡ []
none_first [] h = refl
none_first (x ∷ xs) h = absurd cc

pub each_has_its_edges : EachHasItsEdges
each_has_its_edges rules design named filled node entry is = has rules design named (none_first (unfilled rules design.nodes (design_counts rules design)) filled) node entry is

pub each_has_its_ports : EachHasItsPorts
each_has_its_ports rules design number edge is = numbered (design_counts rules design) number edge is
