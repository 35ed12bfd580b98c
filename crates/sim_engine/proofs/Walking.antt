-- How the search for an order goes on.
use Rattle.std.proofs.Common.{◌≡◌, ◌≢◌, ℕ, ◌+◌, ◌-◌, ◌<◌, ◌≤◌, inl, inr, List, [], ◌∷◌, ◌++◌, length, get_or, set, refl, sym, ap, ◌∙◌, subst, arith, append_assoc}
use Rattle.std.specs.Prelude.{Contains, All, AllPairs}
use Rattle.std.specs.List.{AllByRecursion}
use Rattle.std.proofs.lemmas.Bool.{cases_eq, cases_lt}
use Rattle.std.proofs.lemmas.List.{get_or-set_other, get_or-set_same, length-set, append-nil, get_or_append_left, get_or_push, get_or_default, length_push}
use Rattle.std.proofs.lemmas.List.Sums.{sum_by-set}
use Rattle.std.proofs.lemmas.List.Quantifiers.{all_pairs_push}
use Rattle.std.proofs.lemmas.List.Elements.{Contains-push_cases, Contains-push, Contains-append_left, Contains-append_cases, All-push}
use Rattle.std.proofs.lemmas.Option.{slice_get-get_or, slice_get_within, get_or_from_slice_get}
use Rattle.net_cells.specs.declared.netlist.Cell.{Cell}
use Rattle.net_cells.specs.declared.netlist.CellOp.{CellOp}
use Rattle.net_cells.specs.declared.netlist.CellOp.TheVariants as op
use Rattle.net_cells.specs.declared.netlist.Netlist.{Netlist}
use Rattle.net_cells.specs.Rules.{IsWellFormed, sources, widths}
use Rattle.net_cells.specs.Loops.{Reads, DependsOn, operands}
use Rattle.net_cells.proofs.Operators.{pick}
use Rattle.net_cells.proofs.Cycles.{many, read_exists}
use Rattle.net_cells.proofs.Paths.{path_more}
use Rattle.sim_engine.specs.declared.order.Mark.{Mark}
use Rattle.sim_engine.specs.declared.order.Walk.{Walk}
use Rattle.sim_engine.specs.declared.order.Mark.TheVariants.{New, Open, Done}
use Rattle.sim_engine.specs.Steps.{three}
use Rattle.sim_engine.specs.Orders.{IsOrder, IsReady, cell_at, AreReadyInTurn, HasLoop}
use Rattle.sim_engine.specs.Walks.{IsWalk, IsDone, KeepsMarks, Goes, Stands, HasAllDone, IsIdle, WaitsFor, left, mark_at, visits_left}

-- what stands behind the operands where there are fewer than three
record Padded (o : CellOp) : Type 0 where
  zeros : List ℕ
  is : three o ≡ operands o ++ zeros
  each : AllByRecursion (λ x. x ≡ 0) zeros

padded : (o : CellOp) → Padded o
padded (op.Const value) = record { zeros = 0 ∷ 0 ∷ 0 ∷ []; is = refl; each = (refl, (refl, (refl, tt))) }
padded (op.Not x) = record { zeros = 0 ∷ 0 ∷ []; is = refl; each = (refl, (refl, tt)) }
padded (op.And x y) = record { zeros = 0 ∷ []; is = refl; each = (refl, tt) }
padded (op.Or x y) = record { zeros = 0 ∷ []; is = refl; each = (refl, tt) }
padded (op.Xor x y) = record { zeros = 0 ∷ []; is = refl; each = (refl, tt) }
padded (op.Add x y) = record { zeros = 0 ∷ []; is = refl; each = (refl, tt) }
padded (op.Sub x y) = record { zeros = 0 ∷ []; is = refl; each = (refl, tt) }
padded (op.Eq x y) = record { zeros = 0 ∷ []; is = refl; each = (refl, tt) }
padded (op.Less x y) = record { zeros = 0 ∷ []; is = refl; each = (refl, tt) }
padded (op.Mux c x y) = record { zeros = []; is = refl; each = tt }
padded (op.Concat x y) = record { zeros = 0 ∷ []; is = refl; each = (refl, tt) }
padded (op.Select x hi lo) = record { zeros = 0 ∷ 0 ∷ []; is = refl; each = (refl, (refl, tt)) }

-- an operand stands among the three
pub among_three : (o : CellOp) (net : ℕ) → Contains (operands o) net → Contains (three o) net
among_three o net c = let p = padded o in subst (λ (xs : List ℕ). Contains xs net) (sym p.is) (Contains-append_left (operands o) p.zeros net c)

-- and one of the three that isn't net 0 is an operand
pub is_operand : (o : CellOp) (net : ℕ) → 0 < net → Contains (three o) net → Contains (operands o) net
is_operand o net b c =
    let p = padded o in
    elim (Contains-append_cases (operands o) p.zeros net (subst (λ (xs : List ℕ). Contains xs net) p.is c)) [
      | inl k ↦ k
      | inr k ↦ let e : net ≡ 0 = pick (λ x. x ≡ 0) p.zeros p.each net k.0 k.1 k.2 in absurd (omega arith)
    ]

order_push : (n : Netlist) (done xs : List ℕ) (top : ℕ) → AreReadyInTurn n done xs → IsReady n (done ++ xs) top → AreReadyInTurn n done (xs ++ top ∷ [])
order_push n done [] top o r = (subst (λ (ys : List ℕ). IsReady n ys top) (append-nil done) r, tt)
order_push n done (x ∷ xs) top o r = (o.0, order_push n (done ++ x ∷ []) xs top o.1 (subst (λ (ys : List ℕ). IsReady n ys top) (sym (append_assoc done (x ∷ []) xs)) r))

pairs_front : (R : ℕ → ℕ → Type 0) (xs : List ℕ) (y : ℕ) → AllPairs R (xs ++ y ∷ []) → AllPairs R xs
pairs_front R xs y h i j d l m =
    subst (λ a. R a (get_or xs j d)) (get_or_append_left xs (y ∷ []) d i (omega arith))
    (subst (λ b. R (get_or (xs ++ y ∷ []) i d) b) (get_or_append_left xs (y ∷ []) d j m) (h i j d l (omega (arith, length_push xs y))))

all_front : (P : ℕ → Type 0) (xs : List ℕ) (y : ℕ) → All P (xs ++ y ∷ []) → All P xs
all_front P xs y h k d m = subst P (get_or_append_left xs (y ∷ []) d k m) (h k d (omega (arith, length_push xs y)))

-- all that stands before the last one depends on it
before_last : (n : Netlist) (xs : List ℕ) (y q : ℕ) → AllPairs (λ a b. DependsOn n (sources n + a) (sources n + b)) (xs ++ y ∷ []) → Contains xs q → DependsOn n (sources n + q) (sources n + y)
before_last n xs y q h c =
    let e : get_or (xs ++ y ∷ []) c.0 q ≡ q = get_or_append_left xs (y ∷ []) q c.0 c.1 ∙ c.2 in
    let f : get_or (xs ++ y ∷ []) (length xs) q ≡ y = get_or_push xs y q (length xs) refl in
    subst (λ a. DependsOn n (sources n + a) (sources n + y)) e
    (subst (λ b. DependsOn n (sources n + get_or (xs ++ y ∷ []) c.0 q) (sources n + b)) f (h c.0 (length xs) q c.1 (omega (arith, length_push xs y))))

-- and on what the last one reads
depends_more : (n : Netlist) (xs : List ℕ) (y q next : ℕ) → AllPairs (λ a b. DependsOn n (sources n + a) (sources n + b)) (xs ++ y ∷ []) → Reads n (sources n + y) next → Contains (xs ++ y ∷ []) q → DependsOn n (sources n + q) next
depends_more n xs y q next h r c = elim (Contains-push_cases xs y q c) [
  | inl k ↦ let d = before_last n xs y q h k in (d.0 ++ (sources n + y) ∷ [], path_more n (sources n + q) d.0 (sources n + y) next d.1 r)
  | inr e ↦ ([], subst (λ x. Reads n (sources n + x) next) e r)
]

refl_at : (xs : List ℕ) (k d : ℕ) → k < length xs → get_or xs k (get_or xs k d) ≡ get_or xs k d
refl_at xs k d b = get_or_default xs k (get_or xs k d) d b

top_exists : (n : Netlist) (rest : List ℕ) (top : ℕ) → All (λ q. q < length n.cells) (rest ++ top ∷ []) → top < length n.cells
top_exists n rest top h = subst (λ x. x < length n.cells) (get_or_push rest top 0 (length rest) refl) (h (length rest) 0 (omega (arith, length_push rest top)))

pub a_at : (P : ℕ → Type 0) (xs : List ℕ) (x : ℕ) → All P xs → Contains xs x → P x
a_at P xs x h c = subst P c.2 (h c.0 x c.1)

pub sources_some : (n : Netlist) → IsWellFormed n → 0 < sources n
sources_some n w = let b = slice_get_within n.inputs 0 _ w.reset in omega arith

open_loops : (n : Netlist) (marks : List Mark) (order rest : List ℕ) (top place : ℕ) → IsWalk n marks order (rest ++ top ∷ []) → Reads n (sources n + top) (sources n + place) → mark_at marks place ≡ Open → HasLoop n
open_loops n marks order rest top place s r o = (sources n + place, depends_more n rest top place (sources n + place) s.path r (s.opened place o))

-- a cell with another mark is another cell
other_mark : (marks : List Mark) (a b : ℕ) (m : Mark) → mark_at marks a ≡ m → (mark_at marks b ≡ m → ⊥) → a ≢ b
other_mark marks a b m here there e = there (sym (ap (mark_at marks) e) ∙ here)

opening : (n : Netlist) (marks : List Mark) (order rest : List ℕ) (top place : ℕ) → IsWalk n marks order (rest ++ top ∷ []) → Reads n (sources n + top) (sources n + place) → place < length n.cells → mark_at marks place ≡ New → IsWalk n (set marks place Open) order (rest ++ top ∷ [] ++ place ∷ [])
opening n marks order rest top place s r b new =
    let not_open : mark_at marks place ≡ Open → ⊥ = λ e. let k : New ≡ Open = sym new ∙ e in absurd cc in
    let not_done : mark_at marks place ≡ Done → ⊥ = λ e. let k : New ≡ Done = sym new ∙ e in absurd cc in
    let other : (k d : ℕ) → k < length (rest ++ top ∷ []) → get_or (rest ++ top ∷ []) k d ≢ place = λ k d l. other_mark marks (get_or (rest ++ top ∷ []) k d) place Open (s.marked k d l) not_open in
    record {
      long = length-set marks place Open ∙ s.long;
      placed = All-push (λ q. q < length n.cells) (rest ++ top ∷ []) place s.placed b;
      opened = λ q m. elim (cases_eq q place) [
        | inl e ↦ subst (λ x. Contains (rest ++ top ∷ [] ++ place ∷ []) x) (sym e) (Contains-push (rest ++ top ∷ []) place)
        | inr d ↦ Contains-append_left (rest ++ top ∷ []) (place ∷ []) q (s.opened q (sym (get_or-set_other marks place q Open New d) ∙ m))
      ];
      finished = λ q m. elim (cases_eq q place) [
        | inl e ↦ let k : Open ≡ Done = sym (get_or-set_same marks place Open New (omega (arith, s.long))) ∙ sym (ap (λ x. get_or (set marks place Open) x New) e) ∙ m in absurd cc
        | inr d ↦ s.finished q (sym (get_or-set_other marks place q Open New d) ∙ m)
      ];
      marked = All-push (λ q. mark_at (set marks place Open) q ≡ Open) (rest ++ top ∷ []) place
          (λ k d l. get_or-set_other marks place (get_or (rest ++ top ∷ []) k d) Open New (other k d l) ∙ s.marked k d l)
          (get_or-set_same marks place Open New (omega (arith, s.long)));
      apart = all_pairs_push (λ a b. a ≢ b) (rest ++ top ∷ []) place s.apart other;
      path = all_pairs_push (λ a b. DependsOn n (sources n + a) (sources n + b)) (rest ++ top ∷ []) place s.path (λ k d l. depends_more n rest top (get_or (rest ++ top ∷ []) k d) (sources n + place) s.path r (k, l, refl_at (rest ++ top ∷ []) k d l));
      exist = s.exist;
      ordered = s.ordered;
      listed = λ q c. get_or-set_other marks place q Open New (other_mark marks q place Done (s.listed q c) not_done) ∙ s.listed q c;
      once = s.once;
    }

-- A search that is about to close a cell, which stands on the stack no more.
record IsClosing (n : Netlist) (marks : List Mark) (order rest : List ℕ) (top : ℕ) : Type 0 where
  long : length marks ≡ length n.cells
  placed : All (λ q. q < length n.cells) rest
  opened : (q : ℕ) → q ≢ top → mark_at marks q ≡ Open → Contains rest q
  finished : (q : ℕ) → mark_at marks q ≡ Done → Contains order q
  marked : All (λ q. mark_at marks q ≡ Open) rest
  others : All (λ q. q ≢ top) rest
  apart : AllPairs (λ a b. a ≢ b) rest
  path : AllPairs (λ a b. DependsOn n (sources n + a) (sources n + b)) rest
  exist : All (λ q. q < length n.cells) order
  ordered : AreReadyInTurn n [] order
  listed : (q : ℕ) → Contains order q → mark_at marks q ≡ Done
  once : AllPairs (λ a b. a ≢ b) order
  not_done : mark_at marks top ≡ Done → ⊥

closing : (n : Netlist) (marks : List Mark) (order rest : List ℕ) (top : ℕ) → IsClosing n marks order rest top → top < length n.cells → IsReady n order top → IsWalk n (set marks top Done) (order ++ top ∷ []) rest
closing n marks order rest top s b r =
    let kept : (q : ℕ) → q ≢ top → mark_at (set marks top Done) q ≡ mark_at marks q = λ q d. get_or-set_other marks top q Done New d in
    let here : mark_at (set marks top Done) top ≡ Done = get_or-set_same marks top Done New (omega (arith, s.long)) in
    record {
      long = length-set marks top Done ∙ s.long;
      placed = s.placed;
      opened = λ q m. elim (cases_eq q top) [
        | inl e ↦ let k : Done ≡ Open = sym here ∙ sym (ap (mark_at (set marks top Done)) e) ∙ m in absurd cc
        | inr d ↦ s.opened q d (sym (kept q d) ∙ m)
      ];
      finished = λ q m. elim (cases_eq q top) [
        | inl e ↦ subst (λ x. Contains (order ++ top ∷ []) x) (sym e) (Contains-push order top)
        | inr d ↦ Contains-append_left order (top ∷ []) q (s.finished q (sym (kept q d) ∙ m))
      ];
      marked = λ k d l. kept (get_or rest k d) (s.others k d l) ∙ s.marked k d l;
      apart = s.apart;
      path = s.path;
      exist = All-push (λ q. q < length n.cells) order top s.exist b;
      ordered = order_push n [] order top s.ordered r;
      listed = λ q c. elim (Contains-push_cases order top q c) [
        | inl k ↦ kept q (other_mark marks q top Done (s.listed q k) s.not_done) ∙ s.listed q k
        | inr e ↦ ap (mark_at (set marks top Done)) (sym e) ∙ here
      ];
      once = all_pairs_push (λ a b. a ≢ b) order top s.once (λ k d l. other_mark marks (get_or order k d) top Done (s.listed (get_or order k d) (k, l, refl_at order k d l)) s.not_done);
    }

-- the cell at the top of the stack is about to be closed
closing_top : (n : Netlist) (marks : List Mark) (order rest : List ℕ) (top : ℕ) → IsWalk n marks order (rest ++ top ∷ []) → IsClosing n marks order rest top
closing_top n marks order rest top s =
    let last : (d : ℕ) → get_or (rest ++ top ∷ []) (length rest) d ≡ top = λ d. get_or_push rest top d (length rest) refl in
    let long : length (rest ++ top ∷ []) ≡ length rest + 1 = length_push rest top in
    let open_top : mark_at marks top ≡ Open = ap (mark_at marks) (sym (last 0)) ∙ s.marked (length rest) 0 (omega arith) in
    record {
      long = s.long;
      placed = all_front (λ q. q < length n.cells) rest top s.placed;
      opened = λ q d m. elim (Contains-push_cases rest top q (s.opened q m)) [
        | inl c ↦ c
        | inr e ↦ absurd (d (sym e))
      ];
      finished = s.finished;
      marked = all_front (λ q. mark_at marks q ≡ Open) rest top s.marked;
      others = λ k d l e. s.apart k (length rest) d l (omega arith) (get_or_append_left rest (top ∷ []) d k l ∙ e ∙ sym (last d));
      apart = pairs_front (λ a b. a ≢ b) rest top s.apart;
      path = pairs_front (λ a b. DependsOn n (sources n + a) (sources n + b)) rest top s.path;
      exist = s.exist;
      ordered = s.ordered;
      listed = s.listed;
      once = s.once;
      not_done = λ e. let k : Open ≡ Done = sym open_top ∙ e in absurd cc;
    }

left_opened : (marks : List Mark) (rest : List ℕ) (top place : ℕ) → place < length marks → mark_at marks place ≡ New → left (set marks place Open) (rest ++ top ∷ [] ++ place ∷ []) ≤ left marks rest
left_opened marks rest top place b e =
    let m = sum_by-set visits_left marks place Open New b in
    let w : visits_left (get_or marks place New) ≡ 2 = ap visits_left e in
    omega (arith, length_push (rest ++ top ∷ []) place, length_push rest top)

left_closed : (marks : List Mark) (stack : List ℕ) (top : ℕ) → top < length marks → left (set marks top Done) stack ≤ left marks stack
left_closed marks stack top b = let m = sum_by-set visits_left marks top Done New b in omega arith

keeps_set : (marks : List Mark) (place : ℕ) (m : Mark) → place < length marks → m ≢ New → KeepsMarks marks (set marks place m)
keeps_set marks place m b h = λ q k. elim (cases_eq q place) [
  | inl e ↦ λ f. h (sym (get_or-set_same marks place m New b) ∙ sym (ap (λ x. get_or (set marks place m) x New) e) ∙ f)
  | inr d ↦ λ f. k (sym (get_or-set_other marks place q m New d) ∙ f)
]

not_new : (m : Mark) → m ≢ New → m ≢ Done → m ≡ Open
not_new New f g = absurd (f refl)
not_new Open f g = refl
not_new Done f g = absurd (g refl)

stands_as : (n : Netlist) (new : Walk) (marks : List Mark) (order stack : List ℕ) → new.marks.items ≡ marks → new.order.items ≡ order → new.stack.items ≡ stack → IsWalk n marks order stack → Stands n new
stands_as n new marks order stack e f g s =
    subst (λ x. IsWalk n x new.order.items new.stack.items) (sym e)
    (subst (λ x. IsWalk n marks x new.stack.items) (sym f)
    (subst (λ x. IsWalk n marks order x) (sym g) s))

keeps_as : (old marks new : List Mark) → new ≡ marks → KeepsMarks old marks → KeepsMarks old new
keeps_as old marks new e k = subst (λ x. KeepsMarks old x) (sym e) k

left_as : (new marks : List Mark) (stack xs : List ℕ) (bound : ℕ) → new ≡ marks → stack ≡ xs → left marks xs ≤ bound → left new stack ≤ bound
left_as new marks stack xs bound e f h = subst (λ x. left x stack ≤ bound) (sym e) (subst (λ x. left marks x ≤ bound) (sym f) h)

-- a new cell is put on the stack
pub goes_on : (n : Netlist) (old new : Walk) (top place : ℕ) → IsWalk n old.marks.items old.order.items (old.stack.items ++ top ∷ []) → WaitsFor n old top place → mark_at old.marks.items place ≡ New → new.marks.items ≡ set old.marks.items place Open → new.order.items ≡ old.order.items → new.stack.items ≡ old.stack.items ++ top ∷ [] ++ place ∷ [] → Goes n old new
goes_on n old new top place s r m e f g =
    let b = r.exists in
    let c : place < length old.marks.items = omega (arith, s.long) in
    record {
      stands = stands_as n new _ _ _ e f g (opening n old.marks.items old.order.items old.stack.items top place s r.reads b m);
      keeps = keeps_as old.marks.items _ _ e (keeps_set old.marks.items place Open c (λ k. absurd cc));
      less = left_as _ _ _ _ _ e g (left_opened old.marks.items old.stack.items top place c m);
    }

-- an open cell is met again
pub goes_round : (n : Netlist) (old : Walk) (top place : ℕ) → IsWalk n old.marks.items old.order.items (old.stack.items ++ top ∷ []) → WaitsFor n old top place → mark_at old.marks.items place ≢ New → HasLoop n
goes_round n old top place s r f = open_loops n old.marks.items old.order.items old.stack.items top place s r.reads (not_new (mark_at old.marks.items place) f r.open_or_new)

-- all that the cell reads is done
ready_from_done : (n : Netlist) (old : Walk) (stack : List ℕ) (top : ℕ) → IsWalk n old.marks.items old.order.items stack → All (IsDone (sources n) old.marks.items) (three (cell_at n top).op) → IsReady n old.order.items top
ready_from_done n old stack top s a cell e net o b =
    let f : cell_at n top ≡ cell = get_or_from_slice_get n.cells top cell _ e in
    let k = among_three cell.op net o in
    let d = a_at (IsDone (sources n) old.marks.items) (three (cell_at n top).op) net a (subst (λ (c : Cell). Contains (three c.op) net) (sym f) k) in
    s.finished (net - sources n) (d b)

-- a cell that reads only known nets is done
pub goes_back : (n : Netlist) (old new : Walk) (top : ℕ) → IsWalk n old.marks.items old.order.items (old.stack.items ++ top ∷ []) → HasAllDone n old top → new.marks.items ≡ set old.marks.items top Done → new.order.items ≡ old.order.items ++ top ∷ [] → new.stack.items ≡ old.stack.items → Goes n old new
goes_back n old new top s d e f g =
    let r = ready_from_done n old (old.stack.items ++ top ∷ []) top s d in
    let b : top < length n.cells = top_exists n old.stack.items top s.placed in
    let c : top < length old.marks.items = omega (arith, s.long) in
    record {
      stands = stands_as n new _ _ _ e f g (closing n old.marks.items old.order.items old.stack.items top (closing_top n old.marks.items old.order.items old.stack.items top s) b r);
      keeps = keeps_as old.marks.items _ _ e (keeps_set old.marks.items top Done c (λ k. absurd cc));
      less = left_as _ _ _ _ _ e g (left_closed old.marks.items old.stack.items top c);
    }

-- the cell reads a net whose cell isn't done
pub reads_waiting : (n : Netlist) → IsWellFormed n → (top net : ℕ) → top < length n.cells → sources n ≤ net → Contains (three (cell_at n top).op) net → Reads n (sources n + top) (sources n + (net - sources n))
reads_waiting n w top net b h c =
    let p : 0 < sources n = sources_some n w in
    let e : net ≡ sources n + (net - sources n) = omega arith in
    subst (λ x. Reads n (sources n + top) x) e (record {
      place = top;
      cell = cell_at n top;
      here = refl;
      is = slice_get-get_or n.cells top _ b;
      operand = is_operand (cell_at n top).op net (omega arith) c;
    })

pub waiting_exists : (n : Netlist) → IsWellFormed n → (top net : ℕ) → Reads n (sources n + top) (sources n + (net - sources n)) → net - sources n < length n.cells
waiting_exists n w top net r =
    let b : sources n + (net - sources n) < length (widths n) = read_exists n w (sources n + top) (sources n + (net - sources n)) r in
    omega (arith, many n)

waits_at : (n : Netlist) → IsWellFormed n → (walk : Walk) (top net : ℕ) → top < length n.cells → Contains (three (cell_at n top).op) net → (IsDone (sources n) walk.marks.items net → ⊥) → WaitsFor n walk top (net - sources n)
waits_at n w walk top net b c d =
    let h : sources n ≤ net = elim (cases_lt net (sources n)) [
      | inl l ↦ absurd (d (λ k. absurd (omega arith)))
      | inr k ↦ k
    ] in
    let r = reads_waiting n w top net b h c in
    record { reads = r; exists = waiting_exists n w top net r; open_or_new = λ e. d (λ _. e) }

pub waits : (n : Netlist) → IsWellFormed n → (walk : Walk) (top net first : ℕ) (nets : List ℕ) (marks : List Mark) → first ≡ sources n → nets ≡ three (cell_at n top).op → marks ≡ walk.marks.items → top < length n.cells → Contains nets net → (IsDone first marks net → ⊥) → WaitsFor n walk top (net - first)
waits n w walk top net first nets marks e f g b c d =
    subst (λ x. WaitsFor n walk top (net - x)) (sym e)
    (waits_at n w walk top net b (subst (λ (xs : List ℕ). Contains xs net) f c)
    (subst (λ x. IsDone x walk.marks.items net → ⊥) e (subst (λ x. IsDone first x net → ⊥) g d)))

not_open : (m : Mark) → m ≢ New → (m ≡ Open → ⊥) → m ≡ Done
not_open New f g = absurd (f refl)
not_open Open f g = absurd (g refl)
not_open Done f g = refl

none_open : (stack : List ℕ) (place : ℕ) → stack ≡ [] → Contains stack place → ⊥
none_open stack place e c = let b : c.0 < length {A = ℕ} [] = subst (λ (xs : List ℕ). c.0 < length xs) e c.1 in omega arith

-- at the end each cell stands in the order
pub order_found : (n : Netlist) (walk : Walk) → Stands n walk → walk.stack.items ≡ [] → ((place : ℕ) → place < length n.cells → mark_at walk.marks.items place ≢ New) → IsOrder n walk.order.items
order_found n walk s e f = record {
  exist = s.exist;
  ordered = s.ordered;
  every = λ place b. s.finished place (not_open (mark_at walk.marks.items place) (f place b) (λ k. none_open walk.stack.items place e (s.opened place k)));
  once = s.once;
}

-- all three exist, where the operands do and there is a net
pub three_below : (o : CellOp) (m : ℕ) → 0 < m → AllByRecursion (λ x. x < m) (operands o) → (get_or (three o) 0 0 < m) × (get_or (three o) 1 0 < m) × (get_or (three o) 2 0 < m)
three_below (op.Const value) m p h = (p, p, p)
three_below (op.Not x) m p h = (h.0, p, p)
three_below (op.And x y) m p h = (h.0, h.1.0, p)
three_below (op.Or x y) m p h = (h.0, h.1.0, p)
three_below (op.Xor x y) m p h = (h.0, h.1.0, p)
three_below (op.Add x y) m p h = (h.0, h.1.0, p)
three_below (op.Sub x y) m p h = (h.0, h.1.0, p)
three_below (op.Eq x y) m p h = (h.0, h.1.0, p)
three_below (op.Less x y) m p h = (h.0, h.1.0, p)
three_below (op.Mux c x y) m p h = (h.0, h.1.0, h.1.1.0)
three_below (op.Concat x y) m p h = (h.0, h.1.0, p)
three_below (op.Select x hi lo) m p h = (h.0, p, p)

-- a new cell is about to be closed, while none is open
closing_new : (n : Netlist) (marks : List Mark) (order : List ℕ) (place : ℕ) → IsWalk n marks order [] → mark_at marks place ≡ New → IsClosing n marks order [] place
closing_new n marks order place s new = record {
  long = s.long;
  placed = s.placed;
  opened = λ q d m. s.opened q m;
  finished = s.finished;
  marked = s.marked;
  others = λ k d l. absurd (omega arith);
  apart = s.apart;
  path = s.path;
  exist = s.exist;
  ordered = s.ordered;
  listed = s.listed;
  once = s.once;
  not_done = λ e. let k : New ≡ Done = sym new ∙ e in absurd cc;
}

-- a ready cell is done at once
pub offered : (n : Netlist) (old new : Walk) (place : ℕ) → Stands n old → old.stack.items ≡ [] → place < length n.cells → mark_at old.marks.items place ≡ New → HasAllDone n old place → new.marks.items ≡ set old.marks.items place Done → new.order.items ≡ old.order.items ++ place ∷ [] → new.stack.items ≡ old.stack.items → IsIdle n new
offered n old new place s i b m d e f g =
    let w : IsWalk n old.marks.items old.order.items [] = subst (λ (xs : List ℕ). IsWalk n old.marks.items old.order.items xs) i s in
    let r = ready_from_done n old old.stack.items place s d in
    record {
      stands = stands_as n new _ _ _ e f (g ∙ i) (closing n old.marks.items old.order.items [] place (closing_new n old.marks.items old.order.items place w m) b r);
      idle = g ∙ i;
    }
