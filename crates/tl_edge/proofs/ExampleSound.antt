-- The example of a plan is sound.
use Rattle.std.proofs.Common.{ℕ, zero, suc, ◌<◌, ◌≤◌, ◌≡◌, ◌⊎◌, inl, inr, List, [], ◌∷◌, ◌++◌, length, true, All, AllPairs, IsTrue, get_or, Some, None, refl, sym, ap, arith}
use Rattle.std.specs.Prelude.{Contains, codes}
use Rattle.std.specs.Int.Count.{ones, count_trailing_zeros}
use Rattle.std.proofs.lemmas.List.Elements.{All-cons, All-nil}
use Rattle.std.proofs.lemmas.List.Kept.{AllPairs-cons}
use Rattle.dip_sets.specs.SizeRanges.{SizeRange, size_range, is_size_range}
use Rattle.dip_sets.specs.Assignments.{rounded}
use Rattle.dip_sets.specs.Sets.{IsSet, Disjoint, alignment}
use Rattle.dip_sets.proofs.Lists.{pairs_none}
use Rattle.dip_sets.proofs.Members.{disjoint_from_test}
use Rattle.tl_params.specs.declared.ops.Op.{Op}
use Rattle.tl_params.specs.declared.ops.Op.TheVariants.{PutFull, PutPartial, Arithmetic, Logical, Get, Intent}
use Rattle.tl_params.specs.declared.ops.Template.{Template}
use Rattle.tl_params.specs.declared.ops.Template.TheVariants.{Buffer, Width, Fragmenter, Shrinker, Xbar}
use Rattle.tl_params.specs.declared.ports.Slave.{Slave}
use Rattle.tl_params.specs.Aligned.{IsAligned}
use Rattle.tl_params.specs.Operations.{sizes_of}
use Rattle.tl_params.specs.Arguments.{is_width}
use Rattle.tl_params.specs.Owners.{sets_of}
use Rattle.tl_edge.specs.declared.plan.Leaf.{Leaf}
use Rattle.tl_edge.specs.declared.plan.PlanPort.{PlanPort}
use Rattle.tl_edge.specs.Plans.{given_edges, taken_edges, edge_at, ins_of, outs_of, bus_width}
use Rattle.tl_edge.specs.SoundPlans.{IsSound, IsSoundEdge, IsSmall, HasRanges, HasShape, Carries, Shows, MovesIds, LeavesIds, IsItsSlave, AreApart, IsShort}
use Rattle.tl_edge.specs.ExamplePlan.{example, edge, example_port, memory, device, reads_and_writes, with_atomics, from_core, from_shrinker, from_dma, to_buffer, to_memory, to_width, to_fragmenter, to_device, shrinker, crossbar, buffer, width_adapter, fragmenter, core, dma, ram, uart}
use Rattle.tl_edge.proofs.Ways.{each_once, no_way_back, Rises}

-- ---- lists of a few

one : {A : Type 0} (P : A → Type 0) (x : A) → P x → All P (x ∷ [])
one P x p = All-cons P x [] p (All-nil P)

two : {A : Type 0} (P : A → Type 0) (x y : A) → P x → P y → All P (x ∷ y ∷ [])
two P x y p q = All-cons P x (y ∷ []) p (one P y q)

alone : {A : Type 0} (R : A → A → Type 0) (x : A) → AllPairs R (x ∷ [])
alone R x = AllPairs-cons R x [] (All-nil (R x)) (pairs_none R)

pair : {A : Type 0} (R : A → A → Type 0) (x y : A) → R x y → AllPairs R (x ∷ y ∷ [])
pair R x y r = AllPairs-cons R x (y ∷ []) (one (R x) y r) (alone R y)

triple : {A : Type 0} (R : A → A → Type 0) (x y z : A) → R x y → R x z → R y z → AllPairs R (x ∷ y ∷ z ∷ [])
triple R x y z r s t = AllPairs-cons R x (y ∷ z ∷ []) (two (R x) y z r s) (pair R y z t)

only : (x n : ℕ) → Contains (x ∷ []) n → n ≡ x
only x n (zero, below, is) = sym is
only x n (suc k, below, is) = absurd (omega arith)

either : (x y n : ℕ) → Contains (x ∷ y ∷ []) n → (n ≡ x) ⊎ (n ≡ y)
either x y n (zero, below, is) = inl (sym is)
either x y n (suc k, below, is) = inr (only y n (k, omega arith, is))

five : {A : Type 0} (P : A → Type 0) (a b c d e : A) → P a → P b → P c → P d → P e → All P (a ∷ b ∷ c ∷ d ∷ e ∷ [])
five P a b c d e p q r s t = All-cons P a (b ∷ c ∷ d ∷ e ∷ []) p (All-cons P b (c ∷ d ∷ e ∷ []) q (All-cons P c (d ∷ e ∷ []) r (two P d e s t)))

eight : {A : Type 0} (P : A → Type 0) (a b c d e f g h : A) → P a → P b → P c → P d → P e → P f → P g → P h → All P (a ∷ b ∷ c ∷ d ∷ e ∷ f ∷ g ∷ h ∷ [])
eight P a b c d e f g h p q r s t u v w =
    All-cons P a (b ∷ c ∷ d ∷ e ∷ f ∷ g ∷ h ∷ []) p (All-cons P b (c ∷ d ∷ e ∷ f ∷ g ∷ h ∷ []) q (All-cons P c (d ∷ e ∷ f ∷ g ∷ h ∷ []) r (five P d e f g h s t u v w)))

three : {A : Type 0} (P : A → Type 0) (x y z : A) → P x → P y → P z → All P (x ∷ y ∷ z ∷ [])
three P x y z p q r = All-cons P x (y ∷ z ∷ []) p (two P y z q r)

four_pairs : {A : Type 0} (R : A → A → Type 0) (a b c d : A) → R a b → R a c → R a d → R b c → R b d → R c d → AllPairs R (a ∷ b ∷ c ∷ d ∷ [])
four_pairs R a b c d p q r s t u = AllPairs-cons R a (b ∷ c ∷ d ∷ []) (three (R a) b c d p q r) (triple R b c d s t u)

-- ---- slaves

ranges_of : (sizes : SizeRange) → is_size_range sizes ≡ true → (op : Op) → IsTrue (is_size_range (sizes_of (reads_and_writes sizes) op))
ranges_of sizes are PutFull = are
ranges_of sizes are PutPartial = are
ranges_of sizes are Arithmetic = refl
ranges_of sizes are Logical = refl
ranges_of sizes are Get = are
ranges_of sizes are Intent = refl

memory_ranges : (op : Op) → IsTrue (is_size_range (sizes_of (with_atomics (size_range 1 64)) op))
unfolding ones
memory_ranges PutFull = refl
memory_ranges PutPartial = refl
memory_ranges Arithmetic = refl
memory_ranges Logical = refl
memory_ranges Get = refl
memory_ranges Intent = refl

-- what is told of each slave
record IsFit (slave : Slave) : Type 0 where
  addressed : 1 ≤ length slave.addresses
  sets : All IsSet slave.addresses
  sizes : HasRanges slave
  aligned : IsAligned slave
  small : IsSmall slave

memory_fits : IsFit memory
unfolding ones count_trailing_zeros
memory_fits = record {
  addressed = omega arith;
  sets = one IsSet _ (record { apart = refl; base_fits = omega arith; mask_fits = omega arith });
  sizes = memory_ranges;
  aligned = one (λ s. 64 ≤ alignment s) _ (omega arith);
  small = record { all = omega arith; arithmetic = omega arith; logical = omega arith };
}

device_fits : IsFit (device (size_range 1 64))
unfolding ones count_trailing_zeros
device_fits = record {
  addressed = omega arith;
  sets = one IsSet _ (record { apart = refl; base_fits = omega arith; mask_fits = omega arith });
  sizes = ranges_of (size_range 1 64) refl;
  aligned = one (λ s. 64 ≤ alignment s) _ (omega arith);
  small = record { all = omega arith; arithmetic = omega arith; logical = omega arith };
}

small_device_fits : IsFit (device (size_range 1 4))
unfolding ones count_trailing_zeros
small_device_fits = record {
  addressed = omega arith;
  sets = one IsSet _ (record { apart = refl; base_fits = omega arith; mask_fits = omega arith });
  sizes = ranges_of (size_range 1 4) refl;
  aligned = one (λ s. 4 ≤ alignment s) _ (omega arith);
  small = record { all = omega arith; arithmetic = omega arith; logical = omega arith };
}

-- ---- edges

sound_edge : (width ids : ℕ) (slaves : List Slave) → IsTrue (is_width width) → 1 ≤ ids → ids ≤ 1024 → All IsFit slaves → AllPairs Disjoint (sets_of slaves)
    → IsSoundEdge (edge width ids slaves)
sound_edge width ids slaves allowed some few fit apart = record {
  some_ids = some;
  few_ids = few;
  width = allowed;
  bundle = refl;
  addressed = λ k d below. (fit k d below).addressed;
  sets = λ k d below. (fit k d below).sets;
  sizes = λ k d below. (fit k d below).sizes;
  apart = apart;
  aligned = λ k d below. (fit k d below).aligned;
  small = λ k d below. (fit k d below).small;
}

both_apart : AllPairs Disjoint (sets_of (memory ∷ device (size_range 1 64) ∷ []))
both_apart = pair Disjoint _ _ (disjoint_from_test _ _ refl)

edges_sound : All IsSoundEdge example.edges
edges_sound =
    let both : All IsFit (memory ∷ device (size_range 1 64) ∷ []) = two IsFit memory (device (size_range 1 64)) memory_fits device_fits in
    let only_memory : IsSoundEdge to_memory = sound_edge 8 6 (memory ∷ []) refl (omega arith) (omega arith) (one IsFit memory memory_fits) (alone Disjoint _) in
    let only_device : All IsFit (device (size_range 1 64) ∷ []) = one IsFit (device (size_range 1 64)) device_fits in
    eight IsSoundEdge from_core from_shrinker from_dma to_buffer to_memory to_width to_fragmenter to_device
    (sound_edge 8 4 (memory ∷ device (size_range 1 64) ∷ []) refl (omega arith) (omega arith) both both_apart)
    (sound_edge 8 2 (memory ∷ device (size_range 1 64) ∷ []) refl (omega arith) (omega arith) both both_apart)
    (sound_edge 8 3 (memory ∷ device (size_range 1 64) ∷ []) refl (omega arith) (omega arith) both both_apart)
    only_memory
    only_memory
    (sound_edge 8 6 (device (size_range 1 64) ∷ []) refl (omega arith) (omega arith) only_device (alone Disjoint _))
    (sound_edge 4 6 (device (size_range 1 64) ∷ []) refl (omega arith) (omega arith) only_device (alone Disjoint _))
    (sound_edge 4 6 (device (size_range 1 4) ∷ []) refl (omega arith) (omega arith) (one IsFit (device (size_range 1 4)) small_device_fits) (alone Disjoint _))

-- ---- leaves

shaped : All (λ (leaf : Leaf). HasShape leaf.template leaf.ins leaf.outs) example.leaves
shaped = five (λ (leaf : Leaf). HasShape leaf.template leaf.ins leaf.outs) shrinker crossbar buffer width_adapter fragmenter
    (refl, refl) (omega arith, omega arith) (refl, refl) (refl, refl) (refl, refl)

-- a leaf between two edges
between : (template : Template) (args : List ℕ) (above below : ℕ) → above < below
    → Rises (record { template = template; ins = above ∷ []; outs = below ∷ []; args = args })
between template args above below rise x y in_above in_below =
    let e : x ≡ above = only above x in_above in
    let f : y ≡ below = only below y in_below in
    omega (arith, rise, e, f)

crossing : Rises crossbar
crossing x y in_above in_below =
    elim (either 1 2 x in_above) [
      | inl e ↦ elim (either 3 5 y in_below) [ inl f ↦ omega (arith, e, f) | inr f ↦ omega (arith, e, f) ]
      | inr e ↦ elim (either 3 5 y in_below) [ inl f ↦ omega (arith, e, f) | inr f ↦ omega (arith, e, f) ]
    ]

rises : All Rises example.leaves
rises = five Rises shrinker crossbar buffer width_adapter fragmenter
    (between Shrinker (2 ∷ []) 0 1 (omega arith)) crossing (between Buffer [] 3 4 (omega arith))
    (between Width (8 ∷ []) 5 6 (omega arith)) (between Fragmenter (4 ∷ 64 ∷ []) 6 7 (omega arith))

carries : All (λ (leaf : Leaf). Carries leaf.template leaf.args (ins_of example leaf) (outs_of example leaf)) example.leaves
unfolding ones
carries = five (λ (leaf : Leaf). Carries leaf.template leaf.args (ins_of example leaf) (outs_of example leaf)) shrinker crossbar buffer width_adapter fragmenter
    (record {
      slaves = one (Shows None (from_shrinker ∷ [])) from_core refl;
      widths = pair (λ a b. bus_width a ≡ bus_width b) from_core from_shrinker refl;
      arguments = (2, refl);
    })
    (record {
      slaves = two (Shows None (to_buffer ∷ to_width ∷ [])) from_shrinker from_dma refl refl;
      widths = four_pairs (λ a b. bus_width a ≡ bus_width b) from_shrinker from_dma to_buffer to_width refl refl refl refl refl refl;
      arguments = tt;
    })
    (record {
      slaves = one (Shows None (to_memory ∷ [])) to_buffer refl;
      widths = pair (λ a b. bus_width a ≡ bus_width b) to_buffer to_memory refl;
      arguments = tt;
    })
    (record {
      slaves = one (Shows None (to_fragmenter ∷ [])) to_width refl;
      widths = two (λ edge. IsTrue (is_width (bus_width edge))) to_width to_fragmenter refl refl;
      arguments = tt;
    })
    (record {
      slaves = one (Shows (Some (size_range 1 4)) (to_device ∷ [])) to_fragmenter refl;
      widths = pair (λ a b. bus_width a ≡ bus_width b) to_fragmenter to_device refl;
      arguments = one (λ edge. bus_width edge ≤ 4) to_device (omega arith);
    })

ids : All (λ (leaf : Leaf). MovesIds leaf.template leaf.args (ins_of example leaf) (outs_of example leaf)) example.leaves
unfolding rounded
ids = five (λ (leaf : Leaf). MovesIds leaf.template leaf.args (ins_of example leaf) (outs_of example leaf)) shrinker crossbar buffer width_adapter fragmenter
    (one (LeavesIds Shrinker (2 ∷ []) (4 ∷ [])) 2 refl)
    (two (LeavesIds Xbar [] (2 ∷ 3 ∷ [])) 6 6 refl refl)
    (one (LeavesIds Buffer [] (6 ∷ [])) 6 (one (λ ids. 6 ≡ ids) 6 refl))
    (one (LeavesIds Width (8 ∷ []) (6 ∷ [])) 6 (one (λ ids. 6 ≡ ids) 6 refl))
    (one (LeavesIds Fragmenter (4 ∷ 64 ∷ []) (6 ∷ [])) 6 (one (λ ids. 6 ≡ ids) 6 refl))

-- ---- ports

answered : All (λ (port : PlanPort). IsItsSlave (edge_at example port.edge).slaves port) example.sinks
answered = two (λ (port : PlanPort). IsItsSlave (edge_at example port.edge).slaves port) ram uart
    (record { slave = memory; alone = refl; node = refl; port = refl })
    (record { slave = device (size_range 1 4); alone = refl; node = refl; port = refl })

-- names with other first bytes are others
other_start : (a b : List ℕ) → a ≡ b → get_or a 0 0 < get_or b 0 0 ⊎ get_or b 0 0 < get_or a 0 0 → ⊥
other_start a b e (inl less) = let f : get_or a 0 0 ≡ get_or b 0 0 = ap (λ (xs : List ℕ). get_or xs 0 0) e in omega (arith, f, less)
other_start a b e (inr less) = let f : get_or a 0 0 ≡ get_or b 0 0 = ap (λ (xs : List ℕ). get_or xs 0 0) e in omega (arith, f, less)

apart : AllPairs AreApart (example.sources ++ example.sinks)
apart = four_pairs AreApart core dma ram uart
    (record { nodes = λ e _. omega (arith, e); names = λ e _. other_start (codes "core") (codes "dma") e (inl (omega arith)) })
    (record { nodes = λ e _. omega (arith, e); names = λ e _. other_start (codes "core") (codes "ram") e (inl (omega arith)) })
    (record { nodes = λ e _. omega (arith, e); names = λ e _. other_start (codes "core") (codes "uart") e (inl (omega arith)) })
    (record { nodes = λ e _. omega (arith, e); names = λ e _. other_start (codes "dma") (codes "ram") e (inl (omega arith)) })
    (record { nodes = λ e _. omega (arith, e); names = λ e _. other_start (codes "dma") (codes "uart") e (inl (omega arith)) })
    (record { nodes = λ e _. omega (arith, e); names = λ e _. other_start (codes "ram") (codes "uart") e (inl (omega arith)) })

is_short : (name : List ℕ) (node number : ℕ) → length name ≤ 32 → IsShort (example_port name node number)
is_short name node number few = record { name = few; port = omega arith }

short : All IsShort (example.sources ++ example.sinks)
short = All-cons IsShort core (dma ∷ ram ∷ uart ∷ []) (is_short (codes "core") 0 0 (omega arith))
    (three IsShort dma ram uart (is_short (codes "dma") 1 2 (omega arith)) (is_short (codes "ram") 5 4 (omega arith)) (is_short (codes "uart") 8 7 (omega arith)))

pub sound : IsSound example
sound = record {
  few_edges = omega arith;
  given = eight (λ edge. edge < 8) 1 3 5 4 6 7 0 2 (omega arith) (omega arith) (omega arith) (omega arith) (omega arith) (omega arith) (omega arith) (omega arith);
  taken = eight (λ edge. edge < 8) 0 1 2 3 5 6 4 7 (omega arith) (omega arith) (omega arith) (omega arith) (omega arith) (omega arith) (omega arith) (omega arith);
  given_once = each_once 8 (given_edges example) refl;
  taken_once = each_once 8 (taken_edges example) refl;
  shaped = shaped;
  acyclic = no_way_back example rises;
  edges = edges_sound;
  carries = carries;
  ids = ids;
  answered = answered;
  apart = apart;
  short_name = omega arith;
  short = short;
}
