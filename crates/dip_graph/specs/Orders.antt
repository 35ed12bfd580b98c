-- The canonical order of a design's nodes: each next one is the least node that isn't listed yet and whose bound
-- from-nodes are.
use Rattle.std.specs.Prelude.{ℕ, zero, suc, ◌+◌, ◌≡◌, ◌<◌, ◌⊎◌, Bool, true, not, ◌&&◌, ◌||◌, ◌==◌, cond}
use Rattle.std.specs.Prelude.{List, [], ◌∷◌, ◌++◌, length, Contains, Option, Some, None}
use Rattle.std.specs.List.{list_any, list_all}
use Rattle.dip_lists.specs.First.{first, places}
use Rattle.dip_graph.specs.declared.design.NodeEntry.{NodeEntry}
use Rattle.dip_graph.specs.declared.design.BindEntry.{BindEntry}
use Rattle.dip_graph.specs.declared.design.Design.{Design}
use Rattle.dip_graph.specs.declared.ordering.OrderFault.{OrderFault}
use Rattle.dip_graph.specs.declared.ordering.OrderFault.TheVariants.{Cycle, Memory}

-- the number is one of these
abbrev pub is_listed : List ℕ → ℕ → Bool
is_listed listed n = list_any (λ x. x == n) listed

-- a bind that doesn't keep the node back: it goes to another one, or comes from a listed one
abbrev pub is_met : List ℕ → ℕ → BindEntry → Bool
is_met listed n b = not (b.to == n) || is_listed listed b.from

-- a node that isn't listed, and whose bound from-nodes are
abbrev pub is_ready : List BindEntry → List ℕ → ℕ → Bool
is_ready binds listed n = not (is_listed listed n) && list_all (is_met listed n) binds

-- the first of so many numbers from n on that passes a test
abbrev pub first_from : (ℕ → Bool) → ℕ → ℕ → Option ℕ
first_from passes n zero = None
first_from passes n (suc count) = cond (passes n) (Some n) (first_from passes (n + 1) count)

-- the least of so many nodes that is ready
abbrev pub least_ready : List BindEntry → ℕ → List ℕ → Option ℕ
least_ready binds nodes listed = first_from (is_ready binds listed) 0 nodes

-- the list, and what comes after a next one where there is one
abbrev pub listed_with : List ℕ → (ℕ → List ℕ) → Option ℕ → List ℕ
listed_with listed after None = listed
listed_with listed after (Some n) = after n

-- the list with at most so many further nodes
abbrev pub order_from : List BindEntry → ℕ → List ℕ → ℕ → List ℕ
order_from binds nodes listed zero = listed
order_from binds nodes listed (suc turns) =
    listed_with listed (λ n. order_from binds nodes (listed ++ n ∷ []) turns) (least_ready binds nodes listed)

-- so many nodes in order, without those that never become ready
abbrev pub order_of : List BindEntry → ℕ → List ℕ
order_of binds nodes = order_from binds nodes [] nodes

-- the nodes of a design in order
abbrev pub canonical_order : Design → List ℕ
canonical_order design = order_of design.binds (length design.nodes)

-- the nodes that an order leaves out
abbrev pub unlisted : List ℕ → List NodeEntry → List ℕ
unlisted order nodes = places (λ number node. not (is_listed order number)) 0 nodes

-- the nodes on a cycle of binds or behind one; a design without them has no cycle
abbrev pub left_out : Design → List ℕ
left_out design = unlisted (canonical_order design) design.nodes

-- the fault names the least node left out, or is want of memory
abbrev pub IsCycle : Design → OrderFault → Type 0
IsCycle design (Cycle n) = first (left_out design) ≡ Some n
IsCycle design Memory = Unit {0}

-- each of the nodes is ready where the ones before it are listed
abbrev pub StandBehind : List BindEntry → List ℕ → List ℕ → Type 0
StandBehind binds listed [] = Unit {0}
StandBehind binds listed (n ∷ ns) = (is_ready binds listed n ≡ true) × StandBehind binds (listed ++ n ∷ []) ns

-- so it is in the canonical order of every design
abbrev pub EachStandsBehind : Type 0
EachStandsBehind = (design : Design) → StandBehind design.binds [] (canonical_order design)

-- the same in words of the binds: a node isn't among those before it, and the from-node of each bind to it is
abbrev pub AreBound : List BindEntry → List ℕ → List ℕ → Type 0
AreBound binds listed [] = Unit {0}
AreBound binds listed (n ∷ ns) =
    (Contains listed n → ⊥)
    × ((b : BindEntry) → Contains binds b → b.to ≡ n → Contains listed b.from)
    × AreBound binds (listed ++ n ∷ []) ns

-- so it is in the canonical order of every design
abbrev pub EachWaitsForItsBinds : Type 0
EachWaitsForItsBinds = (design : Design) → AreBound design.binds [] (canonical_order design)

-- A node that is left out waits: a bind to it comes from a node that is left out too. So where a node is left out, some
-- nodes wait for each other.
abbrev pub EachLeftOutWaits : Type 0
EachLeftOutWaits =
    (design : Design) (n : ℕ)
    → n < length design.nodes
    → (Contains (canonical_order design) n → ⊥)
    → (b : BindEntry) × Contains design.binds b × (b.to ≡ n) × (Contains (canonical_order design) b.from → ⊥)

-- A node isn't ready behind listed ones: it is one of them, or a bind to it comes from a node that isn't.
abbrev pub IsHeld : List BindEntry → List ℕ → ℕ → Type 0
IsHeld binds listed n =
    Contains listed n ⊎ ((b : BindEntry) × Contains binds b × (b.to ≡ n) × (Contains listed b.from → ⊥))

-- No node below the next one is ready, and at the end none of so many is.
abbrev pub AreLeast : List BindEntry → ℕ → List ℕ → List ℕ → Type 0
AreLeast binds nodes listed [] = (m : ℕ) → m < nodes → IsHeld binds listed m
AreLeast binds nodes listed (n ∷ ns) =
    ((m : ℕ) → m < n → IsHeld binds listed m) × AreLeast binds nodes (listed ++ n ∷ []) ns

-- so it is in the canonical order of every design
abbrev pub EachNextIsLeast : Type 0
EachNextIsLeast = (design : Design) → AreLeast design.binds (length design.nodes) [] (canonical_order design)
