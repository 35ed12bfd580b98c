-- Where the cells of an order stand.
use Rattle.std.proofs.Common.{◌≡◌, ◌≢◌, ℕ, zero, suc, true, false, ◌||◌, eqb, Some, ◌+◌, ◌<◌, ◌≤◌, inl, inr, List, [], ◌∷◌, ◌++◌, length, take, get_or, refl, sym, ap, ◌∙◌, subst, arith, append_assoc}
use Rattle.std.specs.Prelude.{Contains, AllPairs, All}
use Rattle.std.specs.List.{list_any}
use Rattle.std.proofs.lemmas.Bool.{cases_lt, cases_eq}
use Rattle.std.proofs.lemmas.Bool.Decides.{nat_tests}
use Rattle.std.proofs.lemmas.List.{get_or_default, append-nil, get_or-take, length-take-le}
use Rattle.std.proofs.lemmas.Map.Keys.{IsDistinct-from_apart, any_passes_from_place}
use Rattle.std.proofs.lemmas.Map.Steps.{length-le_from_distinct_below, le-length_from_below}
use Rattle.std.proofs.lemmas.Option.{slice_get-get_or}
use Rattle.net_cells.specs.declared.netlist.Netlist.{Netlist}
use Rattle.sim_engine.specs.Orders.{ArePositions, AreReadyInTurn, EachCellOnce, IsOrder, IsReady}

-- the row of a place
record HasRow (order positions : List ℕ) (place : ℕ) : Type 0 where
  within : get_or positions place 0 < length order
  right : get_or order (get_or positions place 0) 0 ≡ place

row_of : (order positions : List ℕ) (place : ℕ) → ((row d : ℕ) → row < length order → get_or positions (get_or order row d) 0 ≡ row) → Contains order place → HasRow order positions place
row_of order positions place right c =
    let at : get_or positions place 0 ≡ c.0 = ap (λ q. get_or positions q 0) (sym c.2) ∙ right c.0 place c.1 in
    record {
      within = subst (λ row. row < length order) (sym at) c.1;
      right = ap (λ row. get_or order row 0) at ∙ get_or_default order c.0 0 place c.1 ∙ c.2;
    }

pub positions_found : (n : Netlist) (order positions : List ℕ) → IsOrder n order → length positions ≡ length n.cells
    → ((row d : ℕ) → row < length order → get_or positions (get_or order row d) 0 ≡ row) → ArePositions n order positions
positions_found n order positions o long right = record {
  long = long;
  within = λ place d b. subst (λ row. row < length order) (get_or_default positions place 0 d b) (row_of order positions place right (o.every place (omega (arith, long)))).within;
  right = λ place b. (row_of order positions place right (o.every place b)).right;
}

-- one row more
pub right_more : (order old new : List ℕ) (at : ℕ) → AllPairs (λ a b. a ≢ b) order → at < length order → ((row d : ℕ) → row < at → get_or old (get_or order row d) 0 ≡ row)
    → get_or new (get_or order at 0) 0 ≡ at → ((place : ℕ) → place ≢ get_or order at 0 → get_or new place 0 ≡ get_or old place 0) → (row d : ℕ) → row < at + 1 → get_or new (get_or order row d) 0 ≡ row
right_more order old new at once b right here others row d l = elim (cases_lt row at) [
  | inl e ↦ others (get_or order row d) (λ s. once row at d e b (s ∙ get_or_default order at 0 d b)) ∙ right row d e
  | inr e ↦
      let f : row ≡ at = omega arith in
      ap (λ k. get_or new (get_or order k d) 0) f ∙ ap (λ q. get_or new q 0) (get_or_default order at d 0 b) ∙ here ∙ sym f
]

-- ---- what a cell reads stands before it

pub ready_at : (n : Netlist) (done order : List ℕ) → AreReadyInTurn n done order → (row : ℕ) → row < length order → IsReady n (done ++ take row order) (get_or order row 0)
ready_at n done [] r row b = absurd (omega arith)
ready_at n done (place ∷ places) r zero b = subst (λ (xs : List ℕ). IsReady n xs place) (sym (append-nil done)) r.0
ready_at n done (place ∷ places) r (suc row) b =
    subst (λ (xs : List ℕ). IsReady n xs (get_or places row 0)) (append_assoc done (place ∷ []) (take row places)) (ready_at n (done ++ place ∷ []) places r.1 row (omega arith))

-- a place stands in one row only
same_row : (order : List ℕ) (a b : ℕ) → AllPairs (λ x y. x ≢ y) order → a < length order → b < length order → get_or order a 0 ≡ get_or order b 0 → a ≡ b
same_row order a b once l m e = elim (cases_lt a b) [
  | inl s ↦ absurd (once a b 0 s m e)
  | inr s ↦ elim (cases_lt b a) [
    | inl t ↦ absurd (once b a 0 t l (sym e))
    | inr t ↦ omega arith
  ]
]

pub row_before : (n : Netlist) (order positions : List ℕ) → IsOrder n order → ArePositions n order positions → (row place : ℕ) → row < length order → place < length n.cells → Contains (take row order) place
    → get_or positions place 0 < row
row_before n order positions o p row place b exists c =
    let long : length (take row order) ≡ row = length-take-le row order (omega arith) in
    let k : c.0 < row = omega (arith, c.1) in
    let within : get_or positions place 0 < length order = subst (λ q. q < length order) refl (p.within place 0 (omega (arith, p.long))) in
    let same : get_or order (get_or positions place 0) 0 ≡ get_or order c.0 0 =
    p.right place exists ∙ sym c.2 ∙ get_or-take row order c.0 place k ∙ get_or_default order c.0 place 0 (omega arith) in
    let f : get_or positions place 0 ≡ c.0 = same_row order (get_or positions place 0) c.0 o.once within (omega arith) same in
    omega (arith, f)

-- ---- an order has as many cells as the netlist

below_any : (xs : List ℕ) (limit : ℕ) → All (λ x. x < limit) xs → (q : ℕ) → list_any (eqb q) xs ≡ true → q < limit
below_any [] limit a q h = absurd (cc)
below_any (x ∷ xs) limit a q h = elim (cases_eq q x) [
  | inl e ↦ subst (λ k. k < limit) (sym e) (a 0 0 (omega arith))
  | inr d ↦
      let f : eqb q x ≡ false = grind (arith, nat_tests) in
      below_any xs limit (λ k d b. a (suc k) d (omega arith)) q (sym (ap (λ b. b || list_any (eqb q) xs) f) ∙ h)
]

pub order_long : (n : Netlist) (order : List ℕ) → IsOrder n order → length order ≡ length n.cells
order_long n order o =
    let most : length order ≤ length n.cells =
    length-le_from_distinct_below order (length n.cells)
    (IsDistinct-from_apart eqb order (λ i j d b l. let apart : get_or order i d ≢ get_or order j d = o.once i j d b l in differ (get_or order i d) (get_or order j d) apart))
    (below_any order (length n.cells) o.exist) in
    let least : length n.cells ≤ length order =
    le-length_from_below order (length n.cells)
    (λ q b. let c = o.every q b in any_passes_from_place (eqb q) order c.0 q (slice_get-get_or order c.0 q c.1 ∙ ap (λ x. Some x) c.2) (same q)) in
    omega arith
  where
    differ : (a b : ℕ) → a ≢ b → eqb a b ≡ false
    differ a b h = grind (arith, nat_tests)

    same : (q : ℕ) → eqb q q ≡ true
    same q = grind (arith, nat_tests)

pub each_once : EachCellOnce
each_once n order o = order_long n order o
