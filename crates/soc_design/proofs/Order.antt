-- The checks of a file stand in the order of their numbers, and those of one number in the order of their entries.
use Rattle.std.proofs.Common.{◌≡◌, ℕ, ◌+◌, ◌<◌, ◌≤◌, inl, inr, List, [], ◌∷◌, ◌++◌, Bool, true, false, cond, not, Option, Some, None, refl, arith}
use Rattle.std.specs.Prelude.{All, AllPairs}
use Rattle.std.proofs.lemmas.List.Elements.{All-nil, All-cons, All-append, All-weaker, All-contains, All-from_recursion}
use Rattle.std.proofs.lemmas.List.Kept.{AllPairs-cons}
use Rattle.toml.specs.Data.{Data, Items, no_items, item, Members}
use Rattle.dip_lists.proofs.Pairs.{joined}
use Rattle.dip_lists.specs.First.{Check, check}
use Rattle.dip_lists.specs.FirstLaw.{Precedes, HasRisingSubjects, AreInOrder}
use Rattle.dip_lists.proofs.FirstFailures.{first_law}
use Rattle.soc_design.specs.Shape.{top_has_shape, module_has_shape, node_has_shape, bind_has_shape}
use Rattle.soc_design.specs.Stated.{heading_of, names_at}
use Rattle.dip_graph.specs.Limits.{most_modules, most_binds}
use Rattle.soc_design.specs.Reading.{modules_in, nodes_in, binds_in, first_node, first_bind, shape_checks, top_is_beyond, node_is_beyond, limit_checks, heading_name, module_names, node_names, module_is_unnamed, node_is_unnamed, bind_is_unnamed, name_checks, tree_checks, tree_of, checks_of_tree, file_checks}
use Rattle.soc_design.specs.Order.{FileOrderLaw}
use Rattle.toml_shape.specs.Entries.{at_top, count, failing, is_past}

abbrev Rise : List ℕ → Type 0
Rise entries = AllPairs (λ entry later. entry < later) entries

-- ---- the entries of one check

-- all of them from a first one on, and below another
abbrev Within : ℕ → ℕ → List ℕ → Type 0
Within low high entries = All (λ entry. (low ≤ entry) × (entry < high)) entries

from_next : (low high : ℕ) (later : List ℕ) → Within (low + 1) high later → Within low high later
from_next low high later h = All-weaker (λ e. (low + 1 ≤ e) × (e < high)) (λ e. (low ≤ e) × (e < high)) (λ e w. (omega (arith, w.0), w.1)) later h

here_or_later : (fails : Bool) (low high : ℕ) (later : List ℕ) → low < high → Within (low + 1) high later → Within low high (cond fails (low ∷ later) later)
here_or_later true low high later room h = All-cons (λ e. (low ≤ e) × (e < high)) low later (omega arith, room) (from_next low high later h)
here_or_later false low high later room h = from_next low high later h

higher : (low high top : ℕ) (entries : List ℕ) → high ≡ top → Within low high entries → Within low top entries
higher low high top entries e h = All-weaker (λ n. (low ≤ n) × (n < high)) (λ n. (low ≤ n) × (n < top)) (λ n w. (w.0, omega (arith, w.1, e))) entries h

within_items : (fails : ℕ → Data → Bool) (place entry : ℕ) (ds : Items) → Within entry (entry + count ds) (failing fails place entry ds)
within_items fails place entry no_items = All-nil (λ e. (entry ≤ e) × (e < entry + 0))
within_items fails place entry (item d ds) =
    here_or_later (fails place d) entry (entry + (1 + count ds)) (failing fails (place + 1) (entry + 1) ds) (omega arith)
    (higher (entry + 1) (entry + 1 + count ds) (entry + (1 + count ds)) (failing fails (place + 1) (entry + 1) ds) (omega arith) (within_items fails (place + 1) (entry + 1) ds))

rise_here : (fails : Bool) (low high : ℕ) (later : List ℕ) → Within (low + 1) high later → Rise later → Rise (cond fails (low ∷ later) later)
rise_here true low high later h r =
    AllPairs-cons (λ a b. a < b) low later (All-weaker (λ e. (low + 1 ≤ e) × (e < high)) (λ e. low < e) (λ e w. omega (arith, w.0)) later h) r
rise_here false low high later h r = r

items_rise : (fails : ℕ → Data → Bool) (place entry : ℕ) (ds : Items) → Rise (failing fails place entry ds)
items_rise fails place entry no_items = λ i j d before within. absurd (omega arith)
items_rise fails place entry (item d ds) =
    rise_here (fails place d) entry (entry + 1 + count ds) (failing fails (place + 1) (entry + 1) ds)
    (within_items fails (place + 1) (entry + 1) ds) (items_rise fails (place + 1) (entry + 1) ds)

within_top : (fails : Bool) → Within 0 1 (at_top fails)
within_top true = All-cons (λ e. (0 ≤ e) × (e < 1)) 0 [] (omega arith, omega arith) (All-nil (λ e. (0 ≤ e) × (e < 1)))
within_top false = All-nil (λ e. (0 ≤ e) × (e < 1))

top_rises : (fails : Bool) → Rise (at_top fails)
top_rises true = λ i j d before within. absurd (omega arith)
top_rises false = λ i j d before within. absurd (omega arith)

-- ---- checks of one number

-- each check has its entries behind those of the checks before it
abbrev InTurn : ℕ → ℕ → List Check → Type 0
InTurn number low [] = Unit {0}
InTurn number low (c ∷ checks) = (high : ℕ) × (c.number ≡ number) × (low ≤ high) × Within low high c.failing × InTurn number high checks

-- a check of this number with all entries from a first one on
abbrev IsFrom : ℕ → ℕ → Check → Type 0
IsFrom number low c = (c.number ≡ number) × All (λ e. low ≤ e) c.failing

all_from : (number low : ℕ) (checks : List Check) → InTurn number low checks → All (IsFrom number low) checks
all_from number low [] h = All-nil (IsFrom number low)
all_from number low (c ∷ checks) h =
    let reach = h.2 in
    All-cons (IsFrom number low) c checks
    (h.1, All-weaker (λ e. (low ≤ e) × (e < h.0)) (λ e. low ≤ e) (λ e w. w.0) c.failing h.3)
    (All-weaker (IsFrom number h.0) (IsFrom number low) (λ d w. (w.0, All-weaker (λ e. h.0 ≤ e) (λ e. low ≤ e) (λ e above. omega (arith, reach, above)) d.failing w.1)) checks (all_from number h.0 checks h.4))

precedes_from : (number low high : ℕ) (c d : Check) → c.number ≡ number → Within low high c.failing → IsFrom number high d → Precedes c d
precedes_from number low high c d is w from =
    let same : c.number ≡ d.number = omega (arith, is, from.0) in
    inr (
      same,
      λ entry later in_c in_d.
          let below = All-contains (λ e. (low ≤ e) × (e < high)) c.failing entry w in_c in
          let above = All-contains (λ e. high ≤ e) d.failing later from.1 in_d in
          omega (arith, below.1, above),
    )

in_turn_precede : (number low : ℕ) (checks : List Check) → InTurn number low checks → AllPairs Precedes checks
in_turn_precede number low [] h = λ i j d before within. absurd (omega arith)
in_turn_precede number low (c ∷ checks) h =
    AllPairs-cons Precedes c checks
    (All-weaker (IsFrom number h.0) (Precedes c) (λ d from. precedes_from number low h.0 c d h.1 h.3 from) checks (all_from number h.0 checks h.4))
    (in_turn_precede number h.0 checks h.4)

-- ---- checks of different numbers

pub lower_precede : (bound : ℕ) (xs ys : List Check) → All (λ c. c.number < bound) xs → All (λ c. bound ≤ c.number) ys → All (λ x. All (Precedes x) ys) xs
lower_precede bound xs ys low high =
    All-weaker (λ c. c.number < bound) (λ c. All (Precedes c) ys)
    (λ c below. All-weaker (λ d. bound ≤ d.number) (Precedes c) (λ d above. inl (omega (arith, below, above))) ys high) xs low

-- ---- the checks of a tree

tables_in_turn : (number : ℕ) (f g h : ℕ → Data → Bool) (ms : Members)
    → InTurn number 1 (check number (failing f 0 1 (modules_in ms)) ∷ check number (failing g 0 (first_node ms) (nodes_in ms)) ∷ check number (failing h 0 (first_bind ms) (binds_in ms)) ∷ [])
tables_in_turn number f g h ms = (
  first_node ms,
  refl,
  omega arith,
  within_items f 0 1 (modules_in ms),
  (
    first_bind ms,
    refl,
    omega arith,
    within_items g 0 (first_node ms) (nodes_in ms),
    (first_bind ms + count (binds_in ms), refl, omega arith, within_items h 0 (first_bind ms) (binds_in ms), tt),
  ),
)

shape_in_turn : (ms : Members) → InTurn 2 0 (shape_checks ms)
shape_in_turn ms = (
  1,
  refl,
  omega arith,
  within_top (not (top_has_shape ms)),
  tables_in_turn 2 (λ place d. not (module_has_shape d)) (λ place d. not (node_has_shape d)) (λ place d. not (bind_has_shape d)) ms,
)

limits_in_turn : (ms : Members) → InTurn 3 0 (limit_checks ms)
limits_in_turn ms = (1, refl, omega arith, within_top (top_is_beyond ms), tables_in_turn 3 (is_past most_modules) node_is_beyond (is_past most_binds) ms)

names_in_turn : (ms : Members) → InTurn 4 1 (name_checks ms)
names_in_turn ms =
    let top = heading_name (heading_of ms) in
    tables_in_turn 4 (module_is_unnamed top (names_at (modules_in ms))) (node_is_unnamed (module_names top ms) (names_at (nodes_in ms))) (bind_is_unnamed (node_names ms)) ms

-- the numbers of checks of one number
numbered : (number low : ℕ) (checks : List Check) → InTurn number low checks → All (λ c. c.number ≡ number) checks
numbered number low checks h = All-weaker (IsFrom number low) (λ c. c.number ≡ number) (λ c from. from.0) checks (all_from number low checks h)

below : (number bound : ℕ) (checks : List Check) → number < bound → All (λ c. c.number ≡ number) checks → All (λ c. c.number < bound) checks
below number bound checks lt h = All-weaker (λ c. c.number ≡ number) (λ c. c.number < bound) (λ c e. omega (arith, lt, e)) checks h

above : (number : ℕ) (checks : List Check) → All (λ c. c.number ≡ number) checks → All (λ c. number ≤ c.number) checks
above number checks h = All-weaker (λ c. c.number ≡ number) (λ c. number ≤ c.number) (λ c e. omega (arith, e)) checks h

tree_precede : (ms : Members) → AllPairs Precedes (tree_checks ms)
tree_precede ms =
    let shape = numbered 2 0 (shape_checks ms) (shape_in_turn ms) in
    let limits = numbered 3 0 (limit_checks ms) (limits_in_turn ms) in
    let names = numbered 4 1 (name_checks ms) (names_in_turn ms) in
    let front = shape_checks ms ++ limit_checks ms in
    joined Precedes front (name_checks ms)
    (joined Precedes (shape_checks ms) (limit_checks ms) (in_turn_precede 2 0 (shape_checks ms) (shape_in_turn ms)) (in_turn_precede 3 0 (limit_checks ms) (limits_in_turn ms))
    (lower_precede 3 (shape_checks ms) (limit_checks ms) (below 2 3 (shape_checks ms) (omega arith) shape) (above 3 (limit_checks ms) limits)))
    (in_turn_precede 4 1 (name_checks ms) (names_in_turn ms))
    (lower_precede 4 front (name_checks ms)
    (All-append (λ c. c.number < 4) (shape_checks ms) (limit_checks ms) (below 2 4 (shape_checks ms) (omega arith) shape) (below 3 4 (limit_checks ms) (omega arith) limits))
    (above 4 (name_checks ms) names))

tables_rise : (number : ℕ) (f g h : ℕ → Data → Bool) (ms : Members)
    → All HasRisingSubjects (check number (failing f 0 1 (modules_in ms)) ∷ check number (failing g 0 (first_node ms) (nodes_in ms)) ∷ check number (failing h 0 (first_bind ms) (binds_in ms)) ∷ [])
tables_rise number f g h ms =
    All-from_recursion HasRisingSubjects
    (check number (failing f 0 1 (modules_in ms)) ∷ check number (failing g 0 (first_node ms) (nodes_in ms)) ∷ check number (failing h 0 (first_bind ms) (binds_in ms)) ∷ [])
    (items_rise f 0 1 (modules_in ms), (items_rise g 0 (first_node ms) (nodes_in ms), (items_rise h 0 (first_bind ms) (binds_in ms), tt)))

all_rise : (number : ℕ) (top : Bool) (f g h : ℕ → Data → Bool) (ms : Members)
    → All HasRisingSubjects (check number (at_top top) ∷ check number (failing f 0 1 (modules_in ms)) ∷ check number (failing g 0 (first_node ms) (nodes_in ms)) ∷ check number (failing h 0 (first_bind ms) (binds_in ms)) ∷ [])
all_rise number top f g h ms =
    All-cons HasRisingSubjects (check number (at_top top))
    (check number (failing f 0 1 (modules_in ms)) ∷ check number (failing g 0 (first_node ms) (nodes_in ms)) ∷ check number (failing h 0 (first_bind ms) (binds_in ms)) ∷ [])
    (top_rises top) (tables_rise number f g h ms)

tree_rise : (ms : Members) → All HasRisingSubjects (tree_checks ms)
tree_rise ms =
    let top = heading_name (heading_of ms) in
    All-append HasRisingSubjects (shape_checks ms ++ limit_checks ms) (name_checks ms)
    (All-append HasRisingSubjects (shape_checks ms) (limit_checks ms)
    (all_rise 2 (not (top_has_shape ms)) (λ place d. not (module_has_shape d)) (λ place d. not (node_has_shape d)) (λ place d. not (bind_has_shape d)) ms)
    (all_rise 3 (top_is_beyond ms) (is_past most_modules) node_is_beyond (is_past most_binds) ms))
    (tables_rise 4 (module_is_unnamed top (names_at (modules_in ms))) (node_is_unnamed (module_names top ms) (names_at (nodes_in ms))) (bind_is_unnamed (node_names ms)) ms)

-- ---- the checks of a file

tree_in_order : (tree : Option Members) → AreInOrder (checks_of_tree tree)
tree_in_order None =
    record {
      ordered = λ i j d before within. absurd (omega arith);
      rising = All-cons HasRisingSubjects (check 1 (0 ∷ [])) [] (λ i j d before within. absurd (omega arith)) (All-nil HasRisingSubjects);
    }
tree_in_order (Some ms) = record { ordered = tree_precede ms; rising = tree_rise ms }

pub file_order : FileOrderLaw
file_order =
    record {
      ordered = λ bytes. tree_in_order (tree_of bytes);
      some = λ bytes failure. first_law.some (file_checks bytes) failure (tree_in_order (tree_of bytes));
      none = λ bytes. first_law.none (file_checks bytes);
    }

-- ---- their numbers are below those of a design's checks

tree_low : (ms : Members) → All (λ c. c.number < 5) (tree_checks ms)
tree_low ms =
    All-append (λ c. c.number < 5) (shape_checks ms ++ limit_checks ms) (name_checks ms)
    (All-append (λ c. c.number < 5) (shape_checks ms) (limit_checks ms)
    (below 2 5 (shape_checks ms) (omega arith) (numbered 2 0 (shape_checks ms) (shape_in_turn ms)))
    (below 3 5 (limit_checks ms) (omega arith) (numbered 3 0 (limit_checks ms) (limits_in_turn ms))))
    (below 4 5 (name_checks ms) (omega arith) (numbered 4 1 (name_checks ms) (names_in_turn ms)))

checks_low : (tree : Option Members) → All (λ c. c.number < 5) (checks_of_tree tree)
checks_low None = All-cons (λ c. c.number < 5) (check 1 (0 ∷ [])) [] (omega arith) (All-nil (λ c. c.number < 5))
checks_low (Some ms) = tree_low ms

pub numbers_low : (bytes : List ℕ) → All (λ c. c.number < 5) (file_checks bytes)
numbers_low bytes = checks_low (tree_of bytes)
