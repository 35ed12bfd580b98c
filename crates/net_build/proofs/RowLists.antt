-- Rows of wires, column by column.
use Rattle.std.proofs.Common.{◌≡◌, ℕ, zero, suc, ◌+◌, ◌<◌, ◌≤◌, Bool, true, false, List, [], ◌∷◌, ◌++◌, length, map, get_or, drop, refl, sym, ap, ◌∙◌, subst, arith, if◌then◌else◌}
use Rattle.std.proofs.lemmas.List.{append_assoc, append-nil, map-append, drop_more, drop_all, get_or-map, length-map}
use Rattle.net_build.specs.declared.types.Wire.{Wire}
use Rattle.net_build.specs.Built.{Built, IsWire}
use Rattle.net_build.specs.Bits.{Always, AreRows, MeansAll, highs, row_picked, wire_values, zeros}
use Rattle.net_build.specs.Columns.{AreLong, column_of, no_wire}
use Rattle.net_build.specs.Folds.{AreOfOneWidth, chosen, first_width}
use Rattle.net_build.specs.Values.{Adds, Means, high}
use Rattle.net_build.proofs.OpenedLists.{widths_later}

pub column_more : (rows : List (List Wire)) (out more : List Wire) (w : Wire) (place k : ℕ) (d : List Wire) → k < length rows → out ++ column_of place (drop k rows) ≡ column_of place rows → w ≡ get_or (get_or rows k d) place no_wire → more ≡ out ++ w ∷ [] → more ++ column_of place (drop (k + 1) rows) ≡ column_of place rows
column_more rows out more w place k d b h e q =
    ap (λ zs. zs ++ column_of place (drop (k + 1) rows)) q
    ∙ append_assoc out (w ∷ []) (column_of place (drop (k + 1) rows))
    ∙ ap (λ x. out ++ x ∷ column_of place (drop (k + 1) rows)) e
    ∙ sym (ap (λ zs. out ++ column_of place zs) (drop_more rows k d b))
    ∙ h

pub column_all : (rows : List (List Wire)) (out : List Wire) (place k : ℕ) → length rows ≤ k → out ++ column_of place (drop k rows) ≡ column_of place rows → out ≡ column_of place rows
column_all rows out place k b h = sym (append-nil out) ∙ ap (λ zs. out ++ column_of place zs) (sym (drop_all k rows b)) ∙ h

zeros_at : (n k : ℕ) → get_or (zeros n) k 0 ≡ 0
zeros_at zero k = refl
zeros_at (suc n) zero = refl
zeros_at (suc n) (suc k) = zeros_at n k

zeros_long : (n : ℕ) → length (zeros n) ≡ n
zeros_long zero = refl
zeros_long (suc n) = ap suc (zeros_long n)

pub picked_long : (v : ℕ → ℕ) (n : ℕ) (picks : List Bool) (rows : List (List Wire)) → AreLong n rows → length (row_picked n picks (map (wire_values v) rows)) ≡ n
picked_long v n [] rows h = zeros_long n
picked_long v n (p ∷ picks) [] h = zeros_long n
picked_long v n (p ∷ picks) (q ∷ rows) h = at p (picked_long v n picks rows (λ k d b. h (suc k) d (omega arith)))
  where
    at : (b : Bool) → length (row_picked n picks (map (wire_values v) rows)) ≡ n → length (if b then wire_values v q else row_picked n picks (map (wire_values v) rows)) ≡ n
    at true e = length-map q (λ (w : Wire). v w.number) ∙ h 0 q (omega arith)
    at false e = e

pub chosen_column : (v : ℕ → ℕ) (n place : ℕ) (picks : List Wire) (rows : List (List Wire)) → place < n → AreLong n rows → chosen v picks (column_of place rows) ≡ get_or (row_picked n (highs v picks) (map (wire_values v) rows)) place 0
chosen_column v n place [] rows b h = sym (zeros_at n place)
chosen_column v n place (p ∷ picks) [] b h = sym (zeros_at n place)
chosen_column v n place (p ∷ picks) (q ∷ rows) b h = at (high v p) (chosen_column v n place picks rows b (λ k d c. h (suc k) d (omega arith)))
  where
    at : (c : Bool) → chosen v picks (column_of place rows) ≡ get_or (row_picked n (highs v picks) (map (wire_values v) rows)) place 0 → (if c then v (get_or q place no_wire).number else chosen v picks (column_of place rows)) ≡ get_or (if c then wire_values v q else row_picked n (highs v picks) (map (wire_values v) rows)) place 0
    at true e = sym (get_or-map (λ (w : Wire). v w.number) q place no_wire 0 (let l = h 0 q (omega arith) in omega (arith, l, b)))
    at false e = e

pub rows_adds : (old new : Built) (widths : List ℕ) (rows : List (List Wire)) → Adds old new → AreRows old widths rows → AreRows new widths rows
rows_adds old new widths rows g h = record { long = h.long; wires = λ k d b. widths_later old new widths (get_or rows k d) g.later (h.wires k d b) }

-- the wires of a column have one width
column_at : (rows : List (List Wire)) (place k : ℕ) (d : Wire) (e : List Wire) → k < length rows → get_or (column_of place rows) k d ≡ get_or (get_or rows k e) place no_wire
column_at rows place k d e b = get_or-map (λ (row : List Wire). get_or row place no_wire) rows k e d b

column_wide : (b : Built) (widths : List ℕ) (rows : List (List Wire)) (place k : ℕ) (d : Wire) → place < length widths → AreRows b widths rows → k < length rows → IsWire b (get_or (column_of place rows) k d) × ((get_or (column_of place rows) k d).width ≡ get_or widths place 0)
column_wide b widths rows place k d l h m =
    let r = h.wires k [] m in
    let long : length (get_or rows k []) ≡ length widths = h.long k [] m in
    let n : place < length (get_or rows k []) = omega (arith, long, l) in
    rw (column_at rows place k d [] m) (r.each place no_wire n)

first_wide : (ws : List Wire) (d : Wire) → 0 < length ws → first_width ws ≡ (get_or ws 0 d).width
first_wide [] d b = absurd (omega arith)
first_wide (w ∷ ws) d b = refl

pub column_width : (b : Built) (widths : List ℕ) (rows : List (List Wire)) (ws : List Wire) (place : ℕ) → ws ≡ column_of place rows → place < length widths → 0 < length rows → AreRows b widths rows → first_width ws ≡ get_or widths place 0
column_width b widths rows ws place e l m h =
    let n : 0 < length (column_of place rows) = omega (arith, m, length-map rows (λ (row : List Wire). get_or row place no_wire)) in
    ap first_width e ∙ first_wide (column_of place rows) no_wire n ∙ (column_wide b widths rows place 0 no_wire l h m).1

pub column_one_width : (b : Built) (widths : List ℕ) (rows : List (List Wire)) (ws : List Wire) (place : ℕ) → ws ≡ column_of place rows → place < length widths → 0 < length rows → AreRows b widths rows → AreOfOneWidth b ws
column_one_width b widths rows ws place e l m h = subst (AreOfOneWidth b) (sym e) (λ k d c.
    let n : k < length rows = omega (arith, c, length-map rows (λ (row : List Wire). get_or row place no_wire)) in
    let x = column_wide b widths rows place k d l h n in
    (x.0, x.1 ∙ sym (column_width b widths rows (column_of place rows) place refl l m h)))

pub column_long : (rows : List (List Wire)) (ws picks : List Wire) (place : ℕ) → ws ≡ column_of place rows → length rows ≡ length picks → length ws ≡ length picks
column_long rows ws picks place e l = ap length e ∙ length-map rows (λ (row : List Wire). get_or row place no_wire) ∙ l

pub row_more : (old new : Built) (widths : List ℕ) (picks : List Wire) (rows : List (List Wire)) (out more ws : List Wire) (w : Wire) (k : ℕ) → k < length widths → ((j : ℕ) (d : List Wire) → j < length rows → length (get_or rows j d) ≡ length widths) → Adds old new
    → Always old (λ v. wire_values v out ++ drop k (row_picked (length widths) (highs v picks) (map (wire_values v) rows)) ≡ row_picked (length widths) (highs v picks) (map (wire_values v) rows))
    → ws ≡ column_of k rows
    → Means new w (λ v. chosen v picks ws) → more ≡ out ++ w ∷ []
    → Always new (λ v. wire_values v more ++ drop (k + 1) (row_picked (length widths) (highs v picks) (map (wire_values v) rows)) ≡ row_picked (length widths) (highs v picks) (map (wire_values v) rows))
row_more old new widths picks rows out more ws w k b h g a c m e = record {
  at = λ v s.
      let n = length widths in
      let all = row_picked n (highs v picks) (map (wire_values v) rows) in
      let l : k < length all = rw (picked_long v n (highs v picks) rows h) b in
      ap (λ zs. wire_values v zs ++ drop (k + 1) all) e
      ∙ ap (λ zs. zs ++ drop (k + 1) all) (map-append (λ (w : Wire). v w.number) out (w ∷ []))
      ∙ append_assoc (wire_values v out) (v w.number ∷ []) (drop (k + 1) all)
      ∙ ap (λ x. wire_values v out ++ x ∷ drop (k + 1) all) (m.at v s ∙ ap (chosen v picks) c ∙ chosen_column v n k picks rows b h)
      ∙ sym (ap (λ zs. wire_values v out ++ zs) (drop_more all k 0 l))
      ∙ a.at v (g.later.back v s);
}

pub row_all : (b : Built) (widths : List ℕ) (picks : List Wire) (rows : List (List Wire)) (out : List Wire) (k : ℕ) → length widths ≤ k → ((j : ℕ) (d : List Wire) → j < length rows → length (get_or rows j d) ≡ length widths)
    → Always b (λ v. wire_values v out ++ drop k (row_picked (length widths) (highs v picks) (map (wire_values v) rows)) ≡ row_picked (length widths) (highs v picks) (map (wire_values v) rows))
    → MeansAll b out (λ v. row_picked (length widths) (highs v picks) (map (wire_values v) rows))
row_all b widths picks rows out k l h a = record {
  at = λ v s.
      let n = length widths in
      let all = row_picked n (highs v picks) (map (wire_values v) rows) in
      let m : length all ≤ k = rw (picked_long v n (highs v picks) rows h) l in
      sym (append-nil (wire_values v out)) ∙ ap (λ zs. wire_values v out ++ zs) (sym (drop_all k all m)) ∙ a.at v s;
}
