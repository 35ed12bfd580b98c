-- How runs are laid out: addresses are added in rising order.
use Rattle.std.proofs.Common.{◌≡◌, ℕ, ◌+◌, ◌-◌, ◌<◌, ◌≤◌, ◌⊎◌, ◌||◌, Bool, true, false, cond, nat_eq, Option, Some, None, List, [], ◌∷◌, ◌++◌, length, get_or, take, option_map, refl, ap, sym, subst, ◌∙◌, inl, inr, arith, eq-eqb, eqb-true, IsSome, IsPermutation, Contains, length-append}
use mathlib.Core.Path.{fun_ext}
use Rattle.std.proofs.Math.ListN.{get_or-append}
use Rattle.std.proofs.Math.Nat.{eq-or-lt_of_le}
use Rattle.std.proofs.lemmas.List.{get_or-append_right}
use Rattle.std.proofs.lemmas.List.Folds.{list_any_more}
use Rattle.std.proofs.Math.Bool.{or-false, or-true}
use Rattle.std.proofs.lemmas.Bool.{eqb-false}
use Rattle.std.proofs.lemmas.Cmp.{nat_eq_equiv}
use Rattle.std.proofs.lemmas.List.Sorted.{list_any-IsPermutation}
use Rattle.std.proofs.lemmas.Map.Views.{Contains-from_any, list_any-from_Contains}
use Rattle.std.specs.List.{list_any}
use Rattle.sim_ports.specs.declared.role.Role.{Role}
use Rattle.sim_ports.specs.declared.runs.Run.{Run}
use Rattle.sim_ports.specs.Devices.{HasJust, HeldBytes}
use Rattle.sim_ports.specs.Layout.{AreSpaced, IsLaidOut, IsLaying, run_has, kept, place_in, place_in_runs}
use Rattle.sim_ports.specs.Memories.{first_byte, first_held}
use Rattle.sim_ports.proofs.Placed.{having, lacks, within, is_had, is_below, is_above}

-- one run more
pub spaced_more : (low place high end : ℕ) (runs : List Run) (run : Run) → AreSpaced low place runs high end → high ≤ run.first
    → run.place ≡ end → AreSpaced low place (runs ++ run ∷ []) (run.first + run.count + 1) (end + run.count)
spaced_more low place high end [] run s h p =
    (omega (arith, s.0, h), omega (arith, s.1, p), (omega arith, omega (arith, s.1)))
spaced_more low place high end (r ∷ runs) run s h p =
    (s.0, s.1, spaced_more (r.first + r.count + 1) (place + r.count) high end runs run s.2 h p)

-- a run without the address makes no difference
none_more : (runs : List Run) (run : Run) (x : ℕ) → run_has run x ≡ false → place_in_runs (runs ++ run ∷ []) x ≡ place_in_runs runs x
none_more [] run x f = rw f refl
none_more (r ∷ runs) run x f = ap (λ o. cond (run_has r x) (Some (r.place + (x - r.first))) o) (none_more runs run x f)

-- nor does one that has it as another has it
like_more : (runs : List Run) (run other : Run) (x : ℕ) → place_in other x ≡ place_in run x
    → place_in_runs (runs ++ other ∷ []) x ≡ place_in_runs (runs ++ run ∷ []) x
like_more [] run other x e = e
like_more (r ∷ runs) run other x e = ap (λ o. cond (run_has r x) (Some (r.place + (x - r.first))) o) (like_more runs run other x e)

-- where no earlier run has the address, the last one decides
last_more : (runs : List Run) (run : Run) (x : ℕ) → place_in_runs runs x ≡ None → place_in_runs (runs ++ run ∷ []) x ≡ place_in run x
last_more [] run x e = refl
last_more (r ∷ runs) run x e =
    elim (having r x) [
      | is_had l h t ↦
          let now : cond (run_has r x) (Some (r.place + (x - r.first))) (place_in_runs runs x) ≡ None = e in
          let no_way : Some (r.place + (x - r.first)) ≡ None = rw t at now in
          cc
      | is_below l f ↦
          let now : cond (run_has r x) (Some (r.place + (x - r.first))) (place_in_runs runs x) ≡ None = e in
          let rest : place_in_runs runs x ≡ None = rw f at now in
          let P : Bool → Type 0 = λ b. cond b (Some (r.place + (x - r.first))) (place_in_runs (runs ++ run ∷ []) x) ≡ place_in run x in
          subst P (sym f) (last_more runs run x rest)
      | is_above l f ↦
          let now : cond (run_has r x) (Some (r.place + (x - r.first))) (place_in_runs runs x) ≡ None = e in
          let rest : place_in_runs runs x ≡ None = rw f at now in
          let P : Bool → Type 0 = λ b. cond b (Some (r.place + (x - r.first))) (place_in_runs (runs ++ run ∷ []) x) ≡ place_in run x in
          subst P (sym f) (last_more runs run x rest)
    ]

pub holds : (run : Run) (x : ℕ) → run.first ≤ x → x < run.first + run.count → run_has run x ≡ true
holds run x l h =
    elim (having run x) [
      | is_had a b t ↦ t
      | is_below a f ↦ absurd (omega (arith, a, l))
      | is_above a f ↦ absurd (omega (arith, a, h))
    ]

-- the run with one address more
abbrev pub longer : Run → Run
longer run = record run { count = run.count + 1 }

longer_same : (run : Run) (x : ℕ) → (x ≡ run.first + run.count → ⊥) → place_in (longer run) x ≡ place_in run x
longer_same run x n =
    elim (having run x) [
      | is_had l h t ↦
          let u = holds (longer run) x l (omega (arith, h)) in
          rw (t, u) refl
      | is_below l f ↦ let g = lacks (longer run) x (inl l) in rw (f, g) refl
      | is_above l f ↦ let g = lacks (longer run) x (inr (past (eq-or-lt_of_le l))) in rw (f, g) refl
    ]
  where
    past : (run.first + run.count ≡ x) ⊎ (run.first + run.count < x) → run.first + (run.count + 1) ≤ x
    past (inl e) = absurd (n (sym e))
    past (inr h) = omega (arith, h)

longer_new : (run : Run) (x : ℕ) → x ≡ run.first + run.count → place_in (longer run) x ≡ Some (run.place + run.count)
longer_new run x e =
    let t = holds (longer run) x (omega (arith, e)) (omega (arith, e)) in
    let k : x - run.first ≡ run.count = omega (arith, e) in
    rw (t, k) refl

none_from : (low place high end x : ℕ) (runs : List Run) → AreSpaced low place runs high end → high ≤ x → place_in_runs runs x ≡ None
none_from low place high end x runs s h = go (place_in_runs runs x) refl
  where
    go : (o : Option ℕ) → place_in_runs runs x ≡ o → place_in_runs runs x ≡ None
    go None e = e
    go (Some p) e =
        let w = within low place high end x p runs s e in
        absurd (omega (arith, w.to, h))

-- an address that was seen makes no difference
seen_same : (addresses : List ℕ) (i x : ℕ) → i < length addresses
    → (x ≡ get_or addresses i 0 → list_any (nat_eq x) (take i addresses) ≡ true)
    → list_any (nat_eq x) (take (i + 1) addresses) ≡ list_any (nat_eq x) (take i addresses)
seen_same addresses i x h was = list_any_more (nat_eq x) addresses i 0 h ∙ go (nat_eq x (get_or addresses i 0)) refl
  where
    go : (b : Bool) → nat_eq x (get_or addresses i 0) ≡ b
        → (list_any (nat_eq x) (take i addresses) || b) ≡ list_any (nat_eq x) (take i addresses)
    go true e = let t = was (eqb-true x (get_or addresses i 0) e) in rw t refl
    go false e = or-false (list_any (nat_eq x) (take i addresses))

-- another address is seen
seen_new : (addresses : List ℕ) (i x : ℕ) → i < length addresses → x ≡ get_or addresses i 0
    → list_any (nat_eq x) (take (i + 1) addresses) ≡ true
seen_new addresses i x h e =
    list_any_more (nat_eq x) addresses i 0 h
    ∙ ap (λ b. list_any (nat_eq x) (take i addresses) || b) (eq-eqb x (get_or addresses i 0) e)
    ∙ or-true (list_any (nat_eq x) (take i addresses))

-- a run with no address has none
empty : (first place x : ℕ) → run_has (record { first = first; count = 0; place = place }) x ≡ false
empty first place x =
    elim (having (record { first = first; count = 0; place = place }) x) [
      | is_had a b t ↦ absurd (omega (arith, a, b))
      | is_below a f ↦ f
      | is_above a f ↦ f
    ]

-- ---- steps

pub laying_start : (role : Role) (first : ℕ) → IsLaying (first_held role []) 0 [] (record { first = first; count = 0; place = 0 }) []
laying_start role first = record {
  high = 0;
  spaced = (omega arith, refl);
  apart = omega arith;
  ends = refl;
  bound = omega arith;
  at = λ x. let f = empty first 0 x in rw f refl;
}

pub laying_gap : (held : HeldBytes) (few : ℕ) (runs : List Run) (run : Run) (bytes : List ℕ) (address place : ℕ)
    → IsLaying held few runs run bytes → run.first + run.count < address → length bytes ≡ place
    → IsLaying held few (runs ++ run ∷ []) (record { first = address; count = 0; place = place }) bytes
laying_gap held few runs run bytes address place l h p = record {
  high = run.first + run.count + 1;
  spaced = subst (λ e. AreSpaced 0 0 (runs ++ run ∷ []) (run.first + run.count + 1) e) (l.ends ∙ p)
      (spaced_more 0 0 l.high run.place runs run l.spaced l.apart refl);
  apart = omega (arith, h);
  ends = omega (arith, p);
  bound = l.bound;
  at = λ x.
      ap (option_map (λ k. get_or bytes k 0))
      (none_more (runs ++ run ∷ []) (record { first = address; count = 0; place = place }) x (empty address place x))
      ∙ l.at x;
}

pub laying_same : (role : Role) (few : ℕ) (runs : List Run) (run : Run) (bytes addresses : List ℕ) (i address : ℕ)
    → IsLaying (first_held role (take i addresses)) few runs run bytes → i < length addresses → address ≡ get_or addresses i 0
    → run.first ≤ address → address - run.first < run.count
    → IsLaying (first_held role (take (i + 1) addresses)) (few + 1) runs run bytes
laying_same role few runs run bytes addresses i address l h e f m = record {
  high = l.high;
  spaced = l.spaced;
  apart = l.apart;
  ends = l.ends;
  bound = omega (arith, l.bound);
  at = λ x. l.at x ∙ ap (λ b. cond b (Some (first_byte role x)) None) (sym (seen_same addresses i x h (was x)));
}
  where
    none : place_in_runs runs address ≡ None
    none = none_from 0 0 l.high run.place address runs l.spaced (omega (arith, l.apart, f))

    here : place_in_runs (runs ++ run ∷ []) address ≡ Some (run.place + (address - run.first))
    here = last_more runs run address none ∙ ap (λ b. cond b (Some (run.place + (address - run.first))) None) (holds run address f (omega (arith, f, m)))

    there : first_held role (take i addresses) address ≡ Some (get_or bytes (run.place + (address - run.first)) 0)
    there = sym (l.at address) ∙ ap (option_map (λ k. get_or bytes k 0)) here

    known : (b : Bool) (v : ℕ) → cond b (Some (first_byte role address)) None ≡ Some v → b ≡ true
    known true v k = refl
    known false v k = cc

    was : (x : ℕ) → x ≡ get_or addresses i 0 → list_any (nat_eq x) (take i addresses) ≡ true
    was x k =
        let a : x ≡ address = k ∙ sym e in
        rw a (known (list_any (nat_eq address) (take i addresses)) _ there)

pub laying_more : (role : Role) (few : ℕ) (runs : List Run) (run : Run) (bytes addresses : List ℕ) (i address byte : ℕ)
    → IsLaying (first_held role (take i addresses)) few runs run bytes → i < length addresses → address ≡ get_or addresses i 0
    → run.first + run.count ≡ address → byte ≡ first_byte role address
    → IsLaying (first_held role (take (i + 1) addresses)) (few + 1) runs (longer run) (bytes ++ byte ∷ [])
laying_more role few runs run bytes addresses i address byte l h e f b = record {
  high = l.high;
  spaced = l.spaced;
  apart = l.apart;
  ends = omega (arith, l.ends, length-append bytes (byte ∷ []));
  bound = omega (arith, l.bound, length-append bytes (byte ∷ []));
  at = λ x. go x (nat_eq x address) refl;
}
  where
    none : place_in_runs runs address ≡ None
    none = none_from 0 0 l.high run.place address runs l.spaced (omega (arith, l.apart, f))

    here : place_in_runs (runs ++ longer run ∷ []) address ≡ Some (length bytes)
    here = last_more runs (longer run) address none ∙ longer_new run address (sym f) ∙ ap Some l.ends

    new_byte : get_or (bytes ++ byte ∷ []) (length bytes) 0 ≡ byte
    new_byte = get_or-append_right bytes (byte ∷ []) (length bytes) (length bytes) 0 refl (omega arith) ∙ ap (λ k. get_or (byte ∷ []) k 0) (the_same (length bytes))
      where
        the_same : (n : ℕ) → n - n ≡ 0
        the_same n = omega arith

    old_bytes : (x : ℕ) (o : Option ℕ) → place_in_runs (runs ++ run ∷ []) x ≡ o
        → option_map (λ k. get_or (bytes ++ byte ∷ []) k 0) o ≡ option_map (λ k. get_or bytes k 0) o
    old_bytes x None k = refl
    old_bytes x (Some p) k =
        let all = spaced_more 0 0 l.high run.place runs run l.spaced l.apart refl in
        let w = within 0 0 (run.first + run.count + 1) (run.place + run.count) x p (runs ++ run ∷ []) all k in
        ap Some (get_or-append bytes (byte ∷ []) 0 p (omega (arith, w.place_to, l.ends)))

    go : (x : ℕ) (t : Bool) → nat_eq x address ≡ t
        → kept (runs ++ longer run ∷ []) (bytes ++ byte ∷ []) x ≡ first_held role (take (i + 1) addresses) x
    go x true k =
        let a : x ≡ address = eqb-true x address k in
        let seen = seen_new addresses i address h e in
        let held : option_map (λ k. get_or (bytes ++ byte ∷ []) k 0) (place_in_runs (runs ++ longer run ∷ []) address) ≡ Some (first_byte role address) =
        ap (option_map (λ k. get_or (bytes ++ byte ∷ []) k 0)) here ∙ ap Some (new_byte ∙ b) in
        rw a (held ∙ sym (ap (λ c. cond c (Some (first_byte role address)) None) seen))
    go x false k =
        let n : x ≡ address → ⊥ = eqb-false x address k in
        let same = like_more runs run (longer run) x (longer_same run x (λ m. n (m ∙ f))) in
        ap (option_map (λ k. get_or (bytes ++ byte ∷ []) k 0)) same
        ∙ old_bytes x (place_in_runs (runs ++ run ∷ []) x) refl
        ∙ l.at x
        ∙ ap (λ c. cond c (Some (first_byte role x)) None) (sym (seen_same addresses i x h (λ m. absurd (n (m ∙ sym e)))))

-- ---- at the end

pub laid : (role : Role) (few : ℕ) (runs all : List Run) (run : Run) (bytes seen addresses : List ℕ)
    → IsLaying (first_held role seen) few runs run bytes → seen ≡ addresses → all ≡ runs ++ run ∷ []
    → IsLaidOut all bytes (first_held role addresses)
laid role few runs all run bytes seen addresses l s a = record {
  runs_are = record {
    high = run.first + run.count + 1;
    spaced = rw a (subst (λ e. AreSpaced 0 0 (runs ++ run ∷ []) (run.first + run.count + 1) e) l.ends
        (spaced_more 0 0 l.high run.place runs run l.spaced l.apart refl));
  };
  is = rw (a, ← s) (fun_ext l.at);
}

-- the order of the addresses makes no difference
pub any_order : (role : Role) (addresses others : List ℕ) → IsPermutation addresses others
    → first_held role others ≡ first_held role addresses
any_order role addresses others p =
    fun_ext (λ x. ap (λ b. cond b (Some (first_byte role x)) None) (sym (list_any-IsPermutation (nat_eq x) addresses others p)))

pub just : (role : Role) (addresses : List ℕ) (held : HeldBytes) → held ≡ first_held role addresses → HasJust addresses held
just role addresses held e x = (to, from)
  where
    to : IsSome (held x) → Contains addresses x
    to h = Contains-from_any (λ a b. eqb-true a b) x addresses (go (list_any (nat_eq x) addresses) (subst (λ o. IsSome o) (ap (λ m. m x) e) h))
      where
        go : (b : Bool) → IsSome (cond b (Some (first_byte role x)) None) → b ≡ true
        go true k = refl
        go false k = cc

    from : Contains addresses x → IsSome (held x)
    from h =
        let t = list_any-from_Contains nat_eq_equiv x addresses h in
        subst (λ o. IsSome o) (sym (ap (λ m. m x) e)) (rw t refl)
