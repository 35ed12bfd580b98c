-- A text on its way to an output.
use Rattle.std.proofs.Common.{◌≡◌, ℕ, ◌+◌, ◌<◌, ◌≤◌, List, [], ◌∷◌, ◌++◌, length, take, drop, get_or, Option, Some, None, Result, Ok, Err, inl, inr, refl, sym, ap, ◌∙◌, subst, suc, arith, append_assoc, length-append}
use Rattle.std.proofs.lemmas.List.{append-nil, take-append-drop, take-append-le}
use Rattle.std.proofs.Math.Seq.{take-append-add, take-suc}
use Rattle.std.specs.Prelude.{OnErr, OnOk}
use Rattle.dip_io.specs.Outside.{OutSeen, Rose, Writes, WritesPart, appended}
use Rattle.tl_edge.specs.declared.beat.Event.{Event}
use Rattle.soc_report.specs.TraceLines.{trace_line, trace_lines}
use Rattle.soc_trace.specs.Printing.{Prints, TriesToPrint}

add_one : (n : ℕ) → n + 1 ≡ suc n
add_one n = omega arith

appended_both : (xs ys : List ℕ) (w : Option (List ℕ)) → appended ys (appended xs w) ≡ appended (xs ++ ys) w
appended_both xs ys None = refl
appended_both xs ys (Some w) = ap Some (append_assoc w xs ys)

appended_none : (w : Option (List ℕ)) → w ≡ appended [] w
appended_none None = refl
appended_none (Some w) = ap Some (sym (append-nil w))

writes_both : (xs ys : List ℕ) (a b d : OutSeen) → Writes xs a b → Writes ys b d → Writes (xs ++ ys) a d
writes_both xs ys a b d p q = q ∙ ap (appended ys) p ∙ appended_both xs ys a.written

-- ---- pieces put behind what waits

-- what waits goes on to wait
pub stays : (waiting : List ℕ) (out : OutSeen) → Prints [] waiting out waiting out
stays waiting out = record { written = []; writes = appended_none out.written; rest = sym (append-nil waiting) }

-- all that waits is written
pub goes_out : (waiting : List ℕ) (before after : OutSeen) → Writes waiting before after → Prints [] waiting before [] after
goes_out waiting before after w = record { written = waiting; writes = w; rest = refl }

-- a line is put behind
pub behind : (waiting left line all : List ℕ) (before after : OutSeen) → Prints [] waiting before left after → all ≡ left ++ line
    → Prints line waiting before all after
behind waiting left line all before after p e = record {
  written = p.written;
  writes = p.writes;
  rest = ap (λ (x : List ℕ). p.written ++ x) e ∙ sym (append_assoc p.written left line) ∙ ap (λ (x : List ℕ). x ++ line) (p.rest ∙ append-nil waiting);
}

-- one piece and then another
pub both : (first second waiting between left : List ℕ) (before middle after : OutSeen) → Prints first waiting before between middle
    → Prints second between middle left after → Prints (first ++ second) waiting before left after
both first second waiting between left before middle after p q = record {
  written = p.written ++ q.written;
  writes = writes_both p.written q.written before middle after p.writes q.writes;
  rest = append_assoc p.written q.written left ∙ ap (λ (x : List ℕ). p.written ++ x) q.rest ∙ sym (append_assoc p.written between second)
      ∙ ap (λ (x : List ℕ). x ++ second) p.rest ∙ append_assoc waiting first second;
}

-- all of it is written at the end
pub all_out : (piece last waiting left : List ℕ) (before middle after : OutSeen) → Prints piece waiting before left middle → Writes (left ++ last) middle after
    → Writes (waiting ++ (piece ++ last)) before after
all_out piece last waiting left before middle after p w =
    subst (λ (x : List ℕ). Writes x before after)
    (sym (append_assoc p.written left last) ∙ ap (λ (x : List ℕ). x ++ last) p.rest ∙ append_assoc waiting piece last)
    (writes_both p.written (left ++ last) before middle after p.writes w)

-- ---- writes that fail

-- a part of a front is one of the whole
pub part_of_more : (front more whole : List ℕ) (before after : OutSeen) → whole ≡ front ++ more → WritesPart front before after → WritesPart whole before after
part_of_more front more whole before after e w =
    let h : w.0 ≤ length front = omega (arith, w.1) in
    let t : take w.0 whole ≡ take w.0 front = ap (take w.0) e ∙ take-append-le w.0 front more h in (
      w.0,
      omega (arith, w.1, ap length e, length-append front more),
      subst (λ (x : List ℕ). Writes x before after) (sym t) w.2,
    )

-- what was written before stands in front of a part of the rest
pub cut_off : (piece next waiting left : List ℕ) (before middle after : OutSeen) → Prints piece waiting before left middle
    → WritesPart (left ++ next) middle after → WritesPart (waiting ++ (piece ++ next)) before after
cut_off piece next waiting left before middle after p w =
    let whole : List ℕ = waiting ++ (piece ++ next) in
    let e : whole ≡ p.written ++ (left ++ next) =
    sym (append_assoc waiting piece next) ∙ ap (λ (x : List ℕ). x ++ next) (sym p.rest) ∙ append_assoc p.written left next in
    let t : take (length p.written + w.0) whole ≡ p.written ++ take w.0 (left ++ next) =
    ap (take (length p.written + w.0)) e ∙ take-append-add p.written (left ++ next) w.0 in (
      length p.written + w.0,
      omega (arith, w.1, ap length e, length-append p.written (left ++ next)),
      subst (λ (x : List ℕ). Writes x before after) (sym t) (writes_both p.written (take w.0 (left ++ next)) before middle after p.writes w.2),
    )

-- ---- lines of events

pub lines_append : (xs ys : List Event) → trace_lines (xs ++ ys) ≡ trace_lines xs ++ trace_lines ys
lines_append [] ys = refl
lines_append (x ∷ xs) ys = ap (λ (t : List ℕ). trace_line x ++ t) (lines_append xs ys) ∙ sym (append_assoc (trace_line x) (trace_lines xs) (trace_lines ys))

-- the lines of one event more
pub lines_next : (xs : List Event) (i : ℕ) (d : Event) → i < length xs → trace_lines (take (i + 1) xs) ≡ trace_lines (take i xs) ++ trace_line (get_or xs i d)
lines_next xs i d h =
    ap trace_lines (ap (λ (n : ℕ). take n xs) (add_one i) ∙ take-suc xs i d h) ∙ lines_append (take i xs) (get_or xs i d ∷ [])
    ∙ ap (λ (t : List ℕ). trace_lines (take i xs) ++ t) (append-nil (trace_line (get_or xs i d)))

pub next_event : (xs : List Event) (i : ℕ) (d : Event) (waiting between left : List ℕ) (before middle after : OutSeen) → i < length xs
    → Prints (trace_lines (take i xs)) waiting before between middle → Prints (trace_line (get_or xs i d)) between middle left after
    → Prints (trace_lines (take (i + 1) xs)) waiting before left after
next_event xs i d waiting between left before middle after h p q =
    subst (λ (t : List ℕ). Prints t waiting before left after) (sym (lines_next xs i d h))
    (both (trace_lines (take i xs)) (trace_line (get_or xs i d)) waiting between left before middle after p q)

-- a line of one of some events is cut off
pub cut_event : (xs : List Event) (i : ℕ) (d : Event) (waiting between : List ℕ) (before middle after : OutSeen) → i < length xs
    → Prints (trace_lines (take i xs)) waiting before between middle → WritesPart (between ++ trace_line (get_or xs i d)) middle after
    → WritesPart (waiting ++ trace_lines xs) before after
cut_event xs i d waiting between before middle after h p w =
    let front : List ℕ = trace_lines (take i xs) ++ trace_line (get_or xs i d) in
    let all : trace_lines xs ≡ front ++ trace_lines (drop (i + 1) xs) =
    ap trace_lines (sym (take-append-drop (i + 1) xs)) ∙ lines_append (take (i + 1) xs) (drop (i + 1) xs)
    ∙ ap (λ (t : List ℕ). t ++ trace_lines (drop (i + 1) xs)) (lines_next xs i d h) in
    part_of_more (waiting ++ front) (trace_lines (drop (i + 1) xs)) (waiting ++ trace_lines xs) before after
    (ap (λ (t : List ℕ). waiting ++ t) all ∙ sym (append_assoc waiting front (trace_lines (drop (i + 1) xs))))
    (cut_off (trace_lines (take i xs)) (trace_line (get_or xs i d)) waiting between before middle after p w)

-- what waits with a line behind it is cut off
pub cut_line : (line text waiting left : List ℕ) (before middle after : OutSeen) → line ≡ text → Prints line waiting before left middle
    → WritesPart left middle after → WritesPart (waiting ++ text) before after
cut_line line text waiting left before middle after e p w =
    subst (λ (t : List ℕ). WritesPart t before after) (ap (λ (t : List ℕ). waiting ++ t) (append-nil line ∙ e))
    (cut_off line [] waiting left before middle after p (subst (λ (t : List ℕ). WritesPart t middle after) (sym (append-nil left)) w))

-- ---- answers

since : (before middle after : ℕ) → before ≤ middle → Rose middle after → Rose before after
since before middle after h (inl l) = inl (omega arith)
since before middle after h (inr e) = inr e

-- a call that failed, where the count of faults had not fallen before it rose
pub failed : {E : Type 0} (piece waiting room : List ℕ) (before after : OutSeen) (result : Result ℕ E) (e : E) (middle : ℕ) → result ≡ Err e
    → WritesPart (waiting ++ piece) before after → before.faults ≤ middle → middle ≤ after.faults → Rose middle after.faults
    → TriesToPrint piece waiting before result room after
failed piece waiting room before after (Ok x) e middle is w b a r = absurd (let q : Ok x ≡ Err e = is in cc)
failed piece waiting room before after (Err x) e middle is w b a r = record {
  within = tt;
  ok = tt;
  refused = w;
  later = omega (arith, b, a);
  cause = since before.faults middle after.faults b r;
}

pub on_err : {A E : Type 0} (r : Result A E) (P : Type 0) → P → OnErr r P
on_err (Ok x) P p = tt
on_err (Err e) P p = p

pub on_err_map : {A E : Type 0} (r : Result A E) (P Q : Type 0) → (P → Q) → OnErr r P → OnErr r Q
on_err_map (Ok x) P Q f p = tt
on_err_map (Err e) P Q f p = f p

pub on_ok_map : {A E : Type 0} (r : Result A E) (P Q : Type 0) → (P → Q) → OnOk r P → OnOk r Q
on_ok_map (Ok x) P Q f p = f p
on_ok_map (Err e) P Q f p = tt
