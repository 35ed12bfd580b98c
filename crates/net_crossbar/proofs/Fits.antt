-- The widest wires at each place of some rows, and rows as wide.
use Rattle.std.proofs.Common.{◌≡◌, ℕ, suc, ◌<◌, ◌≤◌, ◌^◌, List, [], ◌∷◌, length, get_or, sym, ap, ◌∙◌, subst, arith}
use Rattle.std.proofs.lemmas.List.{get_or-map, length-map}
use Rattle.tl_edge.specs.Wires.{FitWires}
use Rattle.net_build.specs.declared.types.Wire.{Wire}
use Rattle.net_build.specs.Bits.{wire_values}
use Rattle.net_build.specs.Built.{Built, IsWire}
use Rattle.net_build.specs.Columns.{no_wire}
use Rattle.net_build.specs.Registers.{AreWires}
use Rattle.net_build.specs.Values.{Adds, Solves}
use Rattle.net_paths.proofs.Prefixed.{wider}
use Rattle.net_queue.specs.Rows.{AreAlike, KeepsRow, row_widths}
use Rattle.net_queue.proofs.Alike.{alike_adds, same_width}
use Rattle.net_crossbar.specs.Crossed.{AreFitted}
use Rattle.net_crossbar.specs.Heads.{IsFittedTo, IsOfLength, IsWidest}
use Rattle.net_crossbar.specs.Places.{AllAt}
use Rattle.net_crossbar.proofs.Lists.{read_here}
use Rattle.net_crossbar.proofs.Moves.{row_adds, wires_all}

-- the widest among the first of them
pub record IsWidestOf (rows : List (List Wire)) (place count : ℕ) (wire : Wire) : Type 0 where
  pub row : ℕ
  pub within : row < length rows
  pub is : wire ≡ get_or (get_or rows row []) place no_wire
  pub most : (k : ℕ) → k < count → (get_or (get_or rows k []) place no_wire).width ≤ wire.width

pub like_wires : (b : Built) (rows : List (List Wire)) (count : ℕ) (like : List Wire) → AllAt (λ k row. IsOfLength b count row) rows → length like ≡ count → AllAt (λ place w. IsWidest rows place w) like → AreWires b (row_widths like) like
like_wires b rows count like h l w = wires_all b like (λ k d m.
    let i = w.at k d m in
    let r = h.at i.row [] i.within in
    subst (IsWire b) (sym i.is) (r.wires.each k no_wire (omega (arith, m, l, r.long))).0)

fits_each : (fields widths : List ℕ) → length fields ≡ length widths → ((k : ℕ) → k < length fields → get_or fields k 0 < 2 ^ get_or widths k 0) → FitWires fields widths
fits_each [] [] l h = tt
fits_each (f ∷ fs) [] l h = absurd (omega (arith, l))
fits_each [] (w ∷ ws) l h = absurd (omega (arith, l))
fits_each (f ∷ fs) (w ∷ ws) l h = (h 0 (omega arith), fits_each fs ws (omega (arith, l)) (λ k m. h (suc k) (omega (arith, m))))

below : (b : Built) (x : Wire) (v : ℕ → ℕ) → Solves b v → IsWire b x → v x.number < 2 ^ x.width
below b x v s h = subst (λ (w : ℕ). v x.number < 2 ^ w) h.has.1 (s.fits x.number h.has.0)

-- the values of a row fit the widest wires
row_fits : (b : Built) (rows : List (List Wire)) (count place : ℕ) (like row : List Wire) (v : ℕ → ℕ) → place < length rows → row ≡ get_or rows place [] → IsOfLength b count row → length like ≡ count → AllAt (λ k w. IsWidest rows k w) like → Solves b v
    → FitWires (wire_values v row) (row_widths like)
row_fits b rows count place like row v p e h l w s =
    let n = length-map row (λ (w : Wire). v w.number) in
    let m = length-map like (λ (w : Wire). w.width) in
    fits_each (wire_values v row) (row_widths like) (omega (arith, n, m, h.long, l)) (λ k i.
    let j : k < length row = omega (arith, i, n) in
    let c : k < length like = omega (arith, j, h.long, l) in
    let x : v (get_or row k no_wire).number < 2 ^ (get_or row k no_wire).width = below b (get_or row k no_wire) v s (h.wires.each k no_wire j).0 in
    let y : (get_or row k no_wire).width ≤ (get_or like k no_wire).width = subst (λ (ws : List Wire). (get_or ws k no_wire).width ≤ (get_or like k no_wire).width) (sym e) ((w.at k no_wire c).most.at place [] p) in
    let z = wider (v (get_or row k no_wire).number) (get_or row k no_wire).width (get_or like k no_wire).width x y in
    subst (λ (a : ℕ). a < 2 ^ get_or (row_widths like) k 0) (sym (get_or-map (λ (w : Wire). v w.number) row k no_wire 0 j))
    (subst (λ (a : ℕ). v (get_or row k no_wire).number < 2 ^ a) (sym (get_or-map (λ (w : Wire). w.width) like k no_wire 0 c)) z))

pub fitted_here : (old new : Built) (rows : List (List Wire)) (count place : ℕ) (like row x out : List Wire) → place < length rows → row ≡ x → x ≡ get_or rows place x → IsOfLength old count row → length like ≡ count → AllAt (λ k w. IsWidest rows k w) like → Adds old new
    → AreAlike new like out → KeepsRow new row (row_widths like) out → IsFittedTo new like (get_or rows place []) out
fitted_here old new rows count place like row x out p e f h l w g a k =
    let q = read_here rows place row x [] p e f in
    record {
      alike = a;
      same = record {
        at = λ v s. k.at v s (row_fits old rows count place like row v p q h l w (g.later.back v s)) ∙ ap (wire_values v) q;
      };
    }

pub fitted_adds : (old new : Built) (like from row : List Wire) → Adds old new → IsFittedTo old like from row → IsFittedTo new like from row
fitted_adds old new like from row g h = record {
  alike = alike_adds old new like row g h.alike;
  same = record { at = λ v s. h.same.at v (g.later.back v s) };
}

pub row_slice : (old new : Built) (count : ℕ) (rows : List (List Wire)) (place : ℕ) (row x : List Wire) → place < length rows → row ≡ x → x ≡ get_or rows place x → Adds old new → AllAt (λ k ws. IsOfLength old count ws) rows → IsOfLength new count row
row_slice old new count rows place row x l e f g h = subst (IsOfLength new count) (sym (read_here rows place row x [] l e f)) (row_adds old new count (get_or rows place []) g (h.at place [] l))

-- rows as wide as the widest wires
pub fitted_made : (old b : Built) (count : ℕ) (from rows : List (List Wire)) (like ls ms : List Wire) (widths : List ℕ) → 3 ≤ count → ls ≡ like → ms ≡ like → length like ≡ count → AllAt (λ k row. IsOfLength old count row) from → AllAt (λ k row. (get_or row 0 no_wire).width ≡ 3) from
    → AllAt (λ place w. IsWidest from place w) like → length rows ≡ length from → AllAt (λ k ws. IsFittedTo b ls (get_or from k []) ws) rows → widths ≡ row_widths ms → AreFitted b count from rows widths
fitted_made old b count from rows like ls ms widths three e g l h op w n fits wd =
    let f : AllAt (λ k ws. IsFittedTo b like (get_or from k []) ws) rows = subst (λ (xs : List Wire). AllAt (λ k ws. IsFittedTo b xs (get_or from k []) ws) rows) e fits in
    let d : widths ≡ row_widths like = wd ∙ ap row_widths g in
    let dl : length widths ≡ length like = ap length d ∙ length-map like (λ (w : Wire). w.width) in
    record {
      long = n;
      widths_long = dl ∙ l;
      rows_are = record {
        long = λ k x m. (f.at k x m).alike.long ∙ sym dl;
        wires = λ k x m. subst (λ (ns : List ℕ). AreWires b ns (get_or rows k x)) (sym d) (f.at k x m).alike.other;
      };
      told = record {
        at = λ k x m.
            let a = (f.at k x m).alike in
            let z : 0 < length like = omega (arith, l, three) in
            let i = w.at 0 no_wire z in
            let p : (get_or (get_or rows k x) 0 no_wire).width ≡ 3 = same_width b like (get_or rows k x) 0 no_wire no_wire a z ∙ ap (λ (y : Wire). y.width) i.is ∙ op.at i.row [] i.within in
            record {
              long = omega (arith, a.long, l, three);
              wires = wires_all b (get_or rows k x) (λ j y o. (a.other.each j y o).0);
              op = subst (λ (y : ℕ). 4 < 2 ^ y) (sym p) (omega arith);
            };
      };
      same = record { at = λ k x m. (f.at k x m).same };
    }
