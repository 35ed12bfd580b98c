-- Runs of addresses: which place an address has among the bytes of all runs.
use Rattle.std.proofs.Common.{◌≡◌, ℕ, zero, suc, ◌+◌, ◌-◌, ◌<◌, ◌≤◌, ◌⊎◌, Bool, true, false, cond, Option, Some, None, List, [], ◌∷◌, length, get_or, refl, ap, sym, subst, ◌∙◌, inl, inr, arith}
use Rattle.std.proofs.lemmas.Bool.Decides.{leb_tells}
use Rattle.sim_ports.specs.declared.runs.Run.{Run}
use Rattle.sim_ports.specs.Layout.{AreSpaced, AllBegin, NoneBegins, run_has, no_run, place_in, place_in_runs}

-- ---- one run

-- a run has an address, or it has it not
pub data Having (run : Run) (address : ℕ) : Type 0 where
  is_had : run.first ≤ address → address < run.first + run.count → run_has run address ≡ true → Having run address
  is_below : address < run.first → run_has run address ≡ false → Having run address
  is_above : run.first + run.count ≤ address → run_has run address ≡ false → Having run address

pub having : (run : Run) (address : ℕ) → Having run address
having run address =
    elim (leb_tells run.first address) [
      | inl e ↦ elim (leb_tells (suc (address - run.first)) run.count) [
        | inl f ↦ is_had e.1 (omega (arith, e.1, f.1)) (rw (e.0, f.0) refl)
        | inr f ↦ is_above (omega (arith, e.1, f.1)) (rw (e.0, f.0) refl)
      ]
      | inr e ↦ is_below e.1 (rw e.0 refl)
    ]

-- the place is in the first run, or the first run hasn't the address
pub data Standing (run : Run) (runs : List Run) (address place : ℕ) : Type 0 where
  in_first : run.first ≤ address → address < run.first + run.count → place ≡ run.place + (address - run.first)
      → Standing run runs address place
  in_later : place_in_runs runs address ≡ Some place → Standing run runs address place

pub standing : (run : Run) (runs : List Run) (address place : ℕ) → place_in_runs (run ∷ runs) address ≡ Some place
    → Standing run runs address place
standing run runs address place e =
    elim (having run address) [
      | is_had l h t ↦
          let now : cond (run_has run address) (Some (run.place + (address - run.first))) (place_in_runs runs address) ≡ Some place = e in
          let is : Some (run.place + (address - run.first)) ≡ Some place = rw t at now in
          in_first l h (cc)
      | is_below l f ↦
          let now : cond (run_has run address) (Some (run.place + (address - run.first))) (place_in_runs runs address) ≡ Some place = e in
          in_later (rw f at now)
      | is_above l f ↦
          let now : cond (run_has run address) (Some (run.place + (address - run.first))) (place_in_runs runs address) ≡ Some place = e in
          in_later (rw f at now)
    ]

not_first : (run : Run) (runs : List Run) (address : ℕ) → run_has run address ≡ false → place_in_runs (run ∷ runs) address ≡ place_in_runs runs address
not_first run runs address f =
    let P : Bool → Type 0 = λ b. cond b (Some (run.place + (address - run.first))) (place_in_runs runs address) ≡ place_in_runs runs address in
    subst P (sym f) refl

pub lacks : (run : Run) (address : ℕ) → address < run.first ⊎ run.first + run.count ≤ address → run_has run address ≡ false
lacks run address h =
    elim (having run address) [
      | is_had l m t ↦ absurd (elim h [ inl b ↦ omega (arith, b, l) | inr a ↦ omega (arith, a, m) ])
      | is_below l f ↦ f
      | is_above l f ↦ f
    ]

-- ---- runs apart

-- what stands between the ends
pub ends : (low place high end : ℕ) (runs : List Run) → AreSpaced low place runs high end → (low ≤ high) × (place ≤ end)
ends low place high end [] s = (s.0, omega (arith, s.1))
ends low place high end (run ∷ runs) s =
    let more = ends (run.first + run.count + 1) (place + run.count) high end runs s.2 in
    (omega (arith, s.0, more.0), omega (arith, more.1))

pub none_below : (low place high end address : ℕ) (runs : List Run) → AreSpaced low place runs high end → address < low
    → place_in_runs runs address ≡ None
none_below low place high end address [] s h = refl
none_below low place high end address (run ∷ runs) s h =
    not_first run runs address (lacks run address (inl (omega (arith, s.0, h))))
    ∙ none_below (run.first + run.count + 1) (place + run.count) high end address runs s.2 (omega (arith, s.0, h))

-- an address that is had lies between the ends, and so does its place
pub record IsWithin (low place high end address at : ℕ) : Type 0 where
  pub from : low ≤ address
  pub to : address + 1 < high
  pub place_from : place ≤ at
  pub place_to : at < end

pub within : (low place high end address at : ℕ) (runs : List Run) → AreSpaced low place runs high end
    → place_in_runs runs address ≡ Some at → IsWithin low place high end address at
within low place high end address at [] s e = absurd (cc)
within low place high end address at (run ∷ runs) s e =
    let last = ends (run.first + run.count + 1) (place + run.count) high end runs s.2 in
    elim (standing run runs address at e) [
      | in_first l h p ↦ record {
        from = omega (arith, s.0, l);
        to = omega (arith, h, last.0);
        place_from = omega (arith, s.1, p);
        place_to = omega (arith, s.1, p, l, h, last.1);
      }
      | in_later f ↦
          let more = within (run.first + run.count + 1) (place + run.count) high end address at runs s.2 f in
          record {
            from = omega (arith, s.0, more.from);
            to = more.to;
            place_from = omega (arith, more.place_from);
            place_to = more.place_to;
          }
    ]

-- higher addresses have higher places
pub rising : (low place high end a b p q : ℕ) (runs : List Run) → AreSpaced low place runs high end → a < b
    → place_in_runs runs a ≡ Some p → place_in_runs runs b ≡ Some q → p < q
rising low place high end a b p q [] s h e f = absurd (cc)
rising low place high end a b p q (run ∷ runs) s h e f =
    elim (standing run runs a p e) [
      | in_first l m x ↦ elim (standing run runs b q f) [
        | in_first l' m' y ↦ omega (arith, x, y, l, l', h)
        | in_later g ↦
            let more = within (run.first + run.count + 1) (place + run.count) high end b q runs s.2 g in
            omega (arith, x, l, m, s.1, more.place_from)
      ]
      | in_later d ↦ elim (standing run runs b q f) [
        | in_first l' m' y ↦
            let more = within (run.first + run.count + 1) (place + run.count) high end a p runs s.2 d in
            absurd (omega (arith, more.from, m', h))
        | in_later g ↦ rising (run.first + run.count + 1) (place + run.count) high end a b p q runs s.2 h d g
      ]
    ]

-- an address after another has the place after it
pub next_place : (low place high end a p q : ℕ) (runs : List Run) → AreSpaced low place runs high end
    → place_in_runs runs a ≡ Some p → place_in_runs runs (a + 1) ≡ Some q → q ≡ p + 1
next_place low place high end a p q [] s e f = absurd (cc)
next_place low place high end a p q (run ∷ runs) s e f =
    elim (standing run runs a p e) [
      | in_first l m x ↦ elim (standing run runs (a + 1) q f) [
        | in_first l' m' y ↦ omega (arith, x, y, l, l')
        | in_later g ↦
            let more = within (run.first + run.count + 1) (place + run.count) high end (a + 1) q runs s.2 g in
            absurd (omega (arith, more.from, m))
      ]
      | in_later d ↦ elim (standing run runs (a + 1) q f) [
        | in_first l' m' y ↦
            let more = within (run.first + run.count + 1) (place + run.count) high end a p runs s.2 d in
            absurd (omega (arith, more.from, m'))
        | in_later g ↦ next_place (run.first + run.count + 1) (place + run.count) high end a p q runs s.2 d g
      ]
    ]

-- ---- the search

-- the last of some runs that begin at an address or below it
abbrev pub in_last : List Run → ℕ → ℕ → Option ℕ
in_last runs zero address = None
in_last runs (suc last) address = place_in (get_or runs last no_run) address

pub none_begun : (low place high end address : ℕ) (runs : List Run) → AreSpaced low place runs high end
    → ((k : ℕ) → k < length runs → address < (get_or runs k no_run).first) → place_in_runs runs address ≡ None
none_begun low place high end address [] s above = refl
none_begun low place high end address (run ∷ runs) s above =
    not_first run runs address (lacks run address (inl (above 0 (omega arith))))
    ∙ none_begun (run.first + run.count + 1) (place + run.count) high end address runs s.2
    (λ k h. above (suc k) (omega (arith, h)))

pub found : (low place high end address begun : ℕ) (runs : List Run) → AreSpaced low place runs high end
    → begun ≤ length runs
    → AllBegin runs address begun → NoneBegins runs address begun
    → place_in_runs runs address ≡ in_last runs begun address
found low place high end address zero runs s b below above =
    none_begun low place high end address runs s (λ k h. above k (omega arith) h)
found low place high end address (suc begun) [] s b below above = absurd (omega arith)
found low place high end address (suc zero) (run ∷ runs) s b below above =
    let none = none_begun (run.first + run.count + 1) (place + run.count) high end address runs s.2
    (λ k h. above (suc k) (omega arith) (omega (arith, h))) in
    ap (λ o. cond (run_has run address) (Some (run.place + (address - run.first))) o) none
found low place high end address (suc (suc begun)) (run ∷ []) s b below above = absurd (omega arith)
found low place high end address (suc (suc begun)) (run ∷ other ∷ runs) s b below above =
    let begins : other.first ≤ address = below 1 (omega arith) in
    not_first run (other ∷ runs) address (lacks run address (inr (omega (arith, begins, s.2.0))))
    ∙ found (run.first + run.count + 1) (place + run.count) high end address (suc begun) (other ∷ runs) s.2 (omega (arith, b))
    (λ k h. below (suc k) (omega (arith, h)))
    (λ k h l. above (suc k) (omega (arith, h)) (omega (arith, l)))

-- each run's bytes are among all
pub run_ends : (low place high end k : ℕ) (runs : List Run) → AreSpaced low place runs high end → k < length runs
    → (low ≤ (get_or runs k no_run).first) × ((get_or runs k no_run).place + (get_or runs k no_run).count ≤ end)
run_ends low place high end k [] s h = absurd (omega arith)
run_ends low place high end zero (run ∷ runs) s h =
    let last = ends (run.first + run.count + 1) (place + run.count) high end runs s.2 in
    (s.0, omega (arith, s.1, last.1))
run_ends low place high end (suc k) (run ∷ runs) s h =
    let more = run_ends (run.first + run.count + 1) (place + run.count) high end k runs s.2 (omega (arith, h)) in
    (omega (arith, s.0, more.0), more.1)

-- the first addresses of runs rise
pub firsts_rise : (low place high end i j : ℕ) (runs : List Run) → AreSpaced low place runs high end → i ≤ j → j < length runs
    → (get_or runs i no_run).first ≤ (get_or runs j no_run).first
firsts_rise low place high end i j [] s h l = absurd (omega arith)
firsts_rise low place high end zero zero (run ∷ runs) s h l = omega arith
firsts_rise low place high end zero (suc j) (run ∷ runs) s h l =
    let more = run_ends (run.first + run.count + 1) (place + run.count) high end j runs s.2 (omega (arith, l)) in
    omega (arith, more.0)
firsts_rise low place high end (suc i) zero (run ∷ runs) s h l = absurd (omega arith)
firsts_rise low place high end (suc i) (suc j) (run ∷ runs) s h l =
    firsts_rise (run.first + run.count + 1) (place + run.count) high end i j runs s.2 (omega (arith, h)) (omega (arith, l))

-- ---- the steps of the search

pub begins_more : (low place high end address middle : ℕ) (runs : List Run) → AreSpaced low place runs high end
    → middle < length runs → (get_or runs middle no_run).first ≤ address → AllBegin runs address (middle + 1)
begins_more low place high end address middle runs s h b k l =
    let rise = firsts_rise low place high end k middle runs s (omega (arith, l)) h in
    omega (arith, rise, b)

pub begins_less : (low place high end address middle : ℕ) (runs : List Run) → AreSpaced low place runs high end
    → address < (get_or runs middle no_run).first → NoneBegins runs address middle
begins_less low place high end address middle runs s b k l h =
    let rise = firsts_rise low place high end middle k runs s l h in
    omega (arith, rise, b)
