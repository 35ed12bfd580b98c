-- Wires that are a gate: by a lock and turns in registers, by turns alone, and by nothing at all.
use Rattle.std.proofs.Common.{◌≡◌, ℕ, zero, suc, ◌+◌, ◌-◌, ◌<◌, ◌≤◌, Bool, true, false, not, cond, ◌&&◌, List, [], ◌∷◌, length, map, get_or, replicate, Option, Some, None, is_some, refl, sym, ap, ◌∙◌, subst, arith, if◌then◌else◌}
use Rattle.std.specs.Prelude.{nat_lt, ◌==◌}
use Rattle.std.specs.Option.{option_and_then, unwrap_or}
use Rattle.std.proofs.lemmas.List.{get_or-map, length-map}
use Rattle.flow_core.specs.declared.locks.Gate.{Gate}
use Rattle.flow_core.specs.declared.locks.Lock.{Lock}
use Rattle.flow_core.specs.Crossing.{lock_after, passed_by}
use Rattle.flow_core.specs.Leaves.{open_gate}
use Rattle.net_build.specs.declared.types.Wire.{Wire}
use Rattle.net_build.specs.Bits.{MeansAll, TellsAll, highs, row_picked, wire_values, zeros}
use Rattle.net_build.specs.Built.{Built}
use Rattle.net_build.specs.Values.{Solves, Tells, Ticks, high}
use Rattle.net_choice.specs.declared.rows.Pairing.TheVariants.{Both, Either}
use Rattle.net_choice.specs.Choice.{grants_of, one_hot, pick}
use Rattle.net_choice.specs.Rows.{any_of, behind_of, paired, pairs}
use Rattle.net_choice.proofs.Chained.{with_room}
use Rattle.net_choice.proofs.InTurn.{here}
use Rattle.net_gate.specs.declared.types.Registers.{Registers}
use Rattle.net_gate.specs.declared.types.Serving.{Serving}
use Rattle.net_gate.specs.Built.{IsSide, wanted_at, side_at}
use Rattle.net_gate.specs.Gates.{FollowFew, IsGate, RestsAre, Served, Sight, gate_after, gate_machine, may_pass, offer_at, passes, who_passes, served_at, sight_at}
use Rattle.net_gate.specs.Sides.{Asked, GateSide, grants_in, idle_side, late_count, may_of, side_after}
use Rattle.net_gate.specs.Standing.{GrantsGate, StandsFor, beats_left, gate_moved, is_let, let_through}
use Rattle.net_gate.proofs.Serves.{serving_of, after_same, does_so, offered, served_same}
use Rattle.net_gate.proofs.Stood.{below, lock_after_is, pick_in, side_is_gate}
use Rattle.net_queue.specs.Machines.{Machine}
use Rattle.net_queue.proofs.Relations.{machine_of}
use Rattle.net_table.specs.Tables.{AllBecome, BeginAtZero}

pub long_replicate : {A : Type 0} (n : ℕ) (x : A) → length (replicate n x) ≡ n
long_replicate zero x = refl
long_replicate (suc n) x = ap suc (long_replicate n x)

all_below : (n c m : ℕ) → n + c ≡ m → replicate c false ≡ here (λ k. not (nat_lt k m)) n c
all_below n zero m e = refl
all_below n (suc c) m e = ap (λ zs. false ∷ zs) (all_below (n + 1) c m (omega (arith, e))) ∙ ap (λ b. b ∷ here (λ k. not (nat_lt k m)) (n + 1) c) (sym (below n m (omega (arith, e))))

-- idle registers stand for a gate that nobody holds
idle_stands : (round : Bool) (count : ℕ) (s : GateSide) → 0 < count → s ≡ idle_side round count → StandsFor round count s open_gate
idle_stands round count s l e = subst (λ x. StandsFor round count x open_gate) (sym e) (record {
  left = refl;
  locked = λ k f. absurd cc;
  long = long_replicate count false;
  late = λ q. ap (λ (r : Bool). replicate (late_count r count) false) q ∙ all_below 0 count count (omega arith);
  next = l;
})

-- ---- with a lock

module _ (b : Built) (round : Bool) (rest : List ℕ → ℕ) (most : ℕ) (wants : List Wire) (ready : Wire) (rows : List (List Wire)) where
  abbrev stand : Registers → (ℕ → ℕ) → Gate → Type 0
  stand r v gate = StandsFor round (length wants) (side_at v r) gate

  pub gate_is : (rests : List Wire) (r : Registers) (s : Serving) (fields : ℕ) → 0 < length wants → length rows ≡ length wants → length rests ≡ length wants
      → IsSide b round (length wants) wants ready rests r s.grants s.valid
      → MeansAll b s.items (λ v. row_picked fields (highs v s.grants) (map (wire_values v) rows))
      → RestsAre b rest most wants rows rests → IsGate b round rest most wants ready rows s
  gate_is rests r s fields some lr lt side items tells = machine_of (gate_machine round (length wants) rest) (FollowFew rest most) (λ x. x) (λ done. done) (sight_at wants ready rows) (served_at s) b (stand r) (record {
    starts = λ v a. idle_stands round (length wants) (side_at v r) some (side.starts v a);
    does = λ v gate x q z h e f. subst (λ (y : Sight). served_at s v ≡ (gate_machine round (length wants) rest).does gate y) e (does v gate q h);
    nexts = λ v u gate x q t z h e f. subst (λ (y : Sight). FollowFew rest most gate y → stand r u ((gate_machine round (length wants) rest).after gate y)) e (nexts v u gate q t z h) f;
  })
    where
      within : (v : ℕ → ℕ) (gate : Gate) → stand r v gate → (i : ℕ) → let_through round (length wants) gate (wanted_at v wants ready rests) ≡ Some i → (i < length wants) × (is_let gate (wanted_at v wants ready rests) i ≡ true)
      within v gate h i e = pick_in round gate.next (length wants) i (is_let gate (wanted_at v wants ready rests)) (omega (arith, h.next)) e

      law : (v : ℕ → ℕ) (gate : Gate) → stand r v gate → GrantsGate round (length wants) (side_at v r) gate (wanted_at v wants ready rests)
      law v gate h = side_is_gate round (length wants) (side_at v r) gate (wanted_at v wants ready rests) (length-map wants (high v)) (length-map rests (λ (w : Wire). v w.number) ∙ lt) h

      does : (v : ℕ → ℕ) (gate : Gate) → Solves b v → stand r v gate → served_at s v ≡ (gate_machine round (length wants) rest).does gate (sight_at wants ready rows v)
      does v gate q h =
          let g = law v gate h in
          does_so v rest round gate wants ready rows (wire_values v rests) fields s lr (side.granted v q ∙ g.grants) (side.some v q ∙ ap any_of (side.granted v q) ∙ g.some) (items.at v q) (within v gate h)

      nexts : (v u : ℕ → ℕ) (gate : Gate) → Solves b v → Ticks b v u → (v 0 == 1) ≡ false → stand r v gate → FollowFew rest most gate (sight_at wants ready rows v) → stand r u ((gate_machine round (length wants) rest).after gate (sight_at wants ready rows v))
      nexts v u gate q t z h f =
          let g = law v gate h in
          let asked = wanted_at v wants ready rests in
          let o = let_through round (length wants) gate asked in
          let same : who_passes round (length wants) gate (sight_at wants ready rows v) ≡ o = served_same v round (length wants) gate wants ready rows (wire_values v rests) lr in
          subst (λ (c : Option ℕ). stand r u (gate_after rest (length wants) gate (sight_at wants ready rows v) c)) (sym same)
          (subst (stand r u) (after_same rest (length wants) gate asked v wants ready rows o (λ i e. follows v gate q h f i e))
          (subst (λ (x : GateSide). StandsFor round (length wants) x (gate_moved (length wants) gate asked o)) (sym (side.nexts v u q t z)) g.stands))
        where
          follows : (v : ℕ → ℕ) (gate : Gate) → Solves b v → stand r v gate → FollowFew rest most gate (sight_at wants ready rows v) → (i : ℕ) → let_through round (length wants) gate (wanted_at v wants ready rests) ≡ Some i → get_or (wire_values v rests) i 0 ≡ rest (unwrap_or (offer_at (sight_at wants ready rows v) i) [])
          follows v gate q h f i e =
              let p = within v gate h i e in
              let d : Wire = record { number = 0; width = 0 } in
              let w = offered v gate wants ready rows (wire_values v rests) i lr p.1 in
              let c : i < length rests = omega (arith, lt, p.0) in
              get_or-map (λ (x : Wire). v x.number) rests i d 0 c
              ∙ tells.at v i d d q p.0 (sym (get_or-map (high v) wants i d false p.0) ∙ w.0) (f i _ w.1)
              ∙ sym (ap (λ (y : Option (List ℕ)). rest (unwrap_or y [])) w.1)

-- ---- with turns alone

abbrev free_side : ℕ → List Bool → GateSide
free_side count late = record { left = 0; mine = replicate count false; late = late }

no_rests : ℕ → List ℕ
no_rests count = zeros count

zeros_long : (n : ℕ) → length (zeros n) ≡ n
zeros_long zero = refl
zeros_long (suc n) = ap suc (zeros_long n)

zeros_at : (n k : ℕ) → get_or (zeros n) k 0 ≡ 0
zeros_at zero k = refl
zeros_at (suc n) zero = refl
zeros_at (suc n) (suc k) = zeros_at n k

either_all : (n : ℕ) → pairs (paired Either) (replicate n true) (replicate n false) ≡ replicate n true
either_all zero = refl
either_all (suc n) = ap (λ (zs : List Bool). true ∷ zs) (either_all n)

-- where nobody holds the gate each that is offered may pass
free_may : (wants : List Bool) (room : Bool) → may_of true (replicate (length wants) false) wants room ≡ pairs (paired Both) wants (replicate (length wants) room)
free_may wants room =
    ap (λ (n : ℕ). pairs (paired Both) (pairs (paired Both) wants (pairs (paired Either) (replicate n true) (replicate (length wants) false))) (replicate (length wants) room)) (long_replicate (length wants) false)
    ∙ ap (λ (zs : List Bool). pairs (paired Both) (pairs (paired Both) wants zs) (replicate (length wants) room)) (either_all (length wants))
    ∙ ap (λ (zs : List Bool). pairs (paired Both) zs (replicate (length wants) room)) (with_room wants)

free_passed : (lock : Option Lock) (next who count rest : ℕ) (gate : Gate) → lock ≡ None → rest ≡ 0 → (unwrap_or (passed_by lock next who count (rest + 1)) gate).lock ≡ None
free_passed None next who count rest gate e z = lock_after_is who rest ∙ ap (λ (n : ℕ). if n == 0 then None else Some (record { by = who; left = n })) z
free_passed (Some l) next who count rest gate e z = absurd cc

free_moved : (count : ℕ) (gate : Gate) (x : Asked) (o : Option ℕ) → gate.lock ≡ None → ((i : ℕ) → get_or x.rests i 0 ≡ 0) → (gate_moved count gate x o).lock ≡ None
free_moved count gate x None e z = e
free_moved count gate x (Some i) e z = free_passed gate.lock gate.next i count (get_or x.rests i 0) gate e (z i)

and_true : (b : Bool) → (b && true) ≡ b
and_true true = refl
and_true false = refl

highs_of : (v u : ℕ → ℕ) (xs ys : List Wire) → wire_values u xs ≡ wire_values v ys → highs u xs ≡ highs v ys
highs_of v u xs ys e = from u xs ∙ ap (map (λ n. n == 1)) e ∙ sym (from v ys)
  where
    from : (f : ℕ → ℕ) (ws : List Wire) → highs f ws ≡ map (λ n. n == 1) (wire_values f ws)
    from f [] = refl
    from f (w ∷ ws) = ap (λ bs. high f w ∷ bs) (from f ws)

zero_highs : (v : ℕ → ℕ) (ws : List Wire) → wire_values v ws ≡ zeros (length ws) → highs v ws ≡ replicate (length ws) false
zero_highs v [] e = refl
zero_highs v (w ∷ ws) e =
    let h : v w.number ≡ 0 = cc in
    let t : wire_values v ws ≡ zeros (length ws) = cc in
    ap (λ (n : ℕ). (n == 1) ∷ highs v ws) h ∙ ap (λ (bs : List Bool). false ∷ bs) (zero_highs v ws t)

module _ (b : Built) (round : Bool) (rest : List ℕ → ℕ) (wants : List Wire) (ready : Wire) (rows : List (List Wire)) where
  abbrev stood : List Wire → (ℕ → ℕ) → Gate → Type 0
  stood late v gate = (gate.lock ≡ None) × StandsFor round (length wants) (free_side (length wants) (highs v late)) gate

  pub free_is : (late nexts : List Wire) (s : Serving) (fields : ℕ) → 0 < length wants → length rows ≡ length wants → length late ≡ late_count round (length wants)
      → BeginAtZero b late → AllBecome b late (λ v. wire_values v nexts)
      → TellsAll b s.grants (λ v. grants_of round (highs v late) (pairs (paired Both) (highs v wants) (replicate (length wants) (high v ready))))
      → Tells b s.valid (λ v. any_of (highs v s.grants))
      → TellsAll b nexts (λ v. if round then (if high v s.valid then behind_of false (highs v s.grants) else highs v late) else highs v late)
      → MeansAll b s.items (λ v. row_picked fields (highs v s.grants) (map (wire_values v) rows))
      → IsGate b round rest 0 wants ready rows s
  free_is late nexts s fields some lr ll begins becomes grants valid nexts_are items = machine_of (gate_machine round (length wants) rest) (FollowFew rest 0) (λ x. x) (λ done. done) (sight_at wants ready rows) (served_at s) b (stood late) (record {
    starts = λ v a. (refl, idle_stands round (length wants) (free_side (length wants) (highs v late)) some (ap (free_side (length wants)) (zero_highs v late (begins.at v a) ∙ ap (λ (n : ℕ). replicate n false) ll)));
    does = λ v gate x q z h e f. subst (λ (y : Sight). served_at s v ≡ (gate_machine round (length wants) rest).does gate y) e (does v gate q h);
    nexts = λ v u gate x q t z h e f. subst (λ (y : Sight). FollowFew rest 0 gate y → stood late u ((gate_machine round (length wants) rest).after gate y)) e (after v u gate q t z h) f;
  })
    where
      asked : (ℕ → ℕ) → Asked
      asked v = record { wants = highs v wants; room = high v ready; rests = zeros (length wants) }

      within : (v : ℕ → ℕ) (gate : Gate) → stood late v gate → (i : ℕ) → let_through round (length wants) gate (asked v) ≡ Some i → (i < length wants) × (is_let gate (asked v) i ≡ true)
      within v gate h i e = pick_in round gate.next (length wants) i (is_let gate (asked v)) (omega (arith, h.1.next)) e

      law : (v : ℕ → ℕ) (gate : Gate) → stood late v gate → GrantsGate round (length wants) (free_side (length wants) (highs v late)) gate (asked v)
      law v gate h = side_is_gate round (length wants) (free_side (length wants) (highs v late)) gate (asked v) (length-map wants (high v)) (zeros_long (length wants)) h.1

      granted : (v : ℕ → ℕ) → Solves b v → highs v s.grants ≡ grants_in round (free_side (length wants) (highs v late)) (asked v)
      granted v q =
          let l : length (highs v wants) ≡ length wants = length-map wants (high v) in
          grants.at v q
          ∙ ap (λ (n : ℕ). grants_of round (highs v late) (pairs (paired Both) (highs v wants) (replicate n (high v ready)))) (sym l)
          ∙ sym (ap (grants_of round (highs v late)) (ap (λ (n : ℕ). may_of true (replicate n false) (highs v wants) (high v ready)) (sym l) ∙ free_may (highs v wants) (high v ready)))

      does : (v : ℕ → ℕ) (gate : Gate) → Solves b v → stood late v gate → served_at s v ≡ (gate_machine round (length wants) rest).does gate (sight_at wants ready rows v)
      does v gate q h =
          let g = law v gate h in
          does_so v rest round gate wants ready rows (zeros (length wants)) fields s lr (granted v q ∙ g.grants) (valid.at v q ∙ ap any_of (granted v q) ∙ g.some) (items.at v q) (within v gate h)

      late_next : (v u : ℕ → ℕ) → Solves b v → Ticks b v u → (v 0 == 1) ≡ false → highs u late ≡ (side_after round (free_side (length wants) (highs v late)) (asked v)).late
      late_next v u q t z =
          let gs = grants_in round (free_side (length wants) (highs v late)) (asked v) in
          highs_of v u late nexts (becomes.at v u q t z) ∙ nexts_are.at v q
          ∙ ap (λ (c : Bool). if round then (if c then behind_of false (highs v s.grants) else highs v late) else highs v late) (valid.at v q ∙ ap any_of (granted v q) ∙ sym (and_true (any_of gs)))
          ∙ ap (λ (k : List Bool). if round then (if any_of gs && true then behind_of false k else highs v late) else highs v late) (granted v q)

      after : (v u : ℕ → ℕ) (gate : Gate) → Solves b v → Ticks b v u → (v 0 == 1) ≡ false → stood late v gate → FollowFew rest 0 gate (sight_at wants ready rows v) → stood late u ((gate_machine round (length wants) rest).after gate (sight_at wants ready rows v))
      after v u gate q t z h f =
          let g = law v gate h in
          let o = let_through round (length wants) gate (asked v) in
          let same : who_passes round (length wants) gate (sight_at wants ready rows v) ≡ o = served_same v round (length wants) gate wants ready rows (zeros (length wants)) lr in
          let next = gate_moved (length wants) gate (asked v) o in
          let free : next.lock ≡ None = free_moved (length wants) gate (asked v) o h.0 (zeros_at (length wants)) in
          subst (λ (c : Option ℕ). stood late u (gate_after rest (length wants) gate (sight_at wants ready rows v) c)) (sym same)
          (subst (stood late u) (after_same rest (length wants) gate (asked v) v wants ready rows o (λ i e. follows v gate h f i e)) (
            free,
            record {
              left = ap beats_left (sym free);
              locked = λ l e. absurd (none_some l (sym free ∙ e));
              long = long_replicate (length wants) false;
              late = λ r. late_next v u q t z ∙ g.stands.late r;
              next = g.stands.next;
            },
          ))
        where
          none_some : (l : Lock) → None ≡ Some l → ⊥
          none_some l e = cc

          follows : (v : ℕ → ℕ) (gate : Gate) → stood late v gate → FollowFew rest 0 gate (sight_at wants ready rows v) → (i : ℕ) → let_through round (length wants) gate (asked v) ≡ Some i → get_or (zeros (length wants)) i 0 ≡ rest (unwrap_or (offer_at (sight_at wants ready rows v) i) [])
          follows v gate h f i e =
              let p = within v gate h i e in
              let w = offered v gate wants ready rows (zeros (length wants)) i lr p.1 in
              let few : rest (wire_values v (get_or rows i [])) ≤ 0 = f i _ w.1 in
              zeros_at (length wants) i ∙ (omega (arith, few)) ∙ sym (ap (λ (y : Option (List ℕ)). rest (unwrap_or y [])) w.1)

-- ---- of one head

abbrev lone : (ℕ → ℕ) → Gate → Type 0
lone v gate = (gate.next ≡ 0) × ((l : Lock) → gate.lock ≡ Some l → (l.by == 0) ≡ true)

one_pick : (round : Bool) (next : ℕ) (p : ℕ → Bool) → next ≡ 0 → pick round next 1 p ≡ cond (p 0) (Some 0) None
one_pick true next p e = ap (λ (n : ℕ). pick true n 1 p) e
one_pick false next p e = refl

lone_passes : (lock : Option Lock) → ((l : Lock) → lock ≡ Some l → (l.by == 0) ≡ true) → passes lock 0 ≡ true
lone_passes None h = refl
lone_passes (Some l) h = h l refl

lone_after : (lock : Option Lock) (next beats : ℕ) (gate : Gate) → lock ≡ gate.lock → next ≡ 0 → lone (λ n. 0) gate → lone (λ n. 0) (unwrap_or (passed_by lock next 0 1 beats) gate)
lone_after None next beats gate q e h = (refl, λ l f. own (nat_lt 1 beats) beats l f)
  where
    own : (c : Bool) (beats : ℕ) (l : Lock) → cond c (Some (record { by = 0; left = beats - 1 })) None ≡ Some l → (l.by == 0) ≡ true
    own true beats l f = let k : record { by = 0; left = beats - 1 } ≡ l = cc in ap (λ (k : Lock). k.by == 0) (sym k)
    own false beats l f = absurd cc
lone_after (Some lock) next beats gate q e h = at (lock.by == 0)
  where
    own : (c : Bool) (left : ℕ) (l : Lock) → cond c (Some (record { by = 0; left = left - 1 })) None ≡ Some l → (l.by == 0) ≡ true
    own true left l f = let k : record { by = 0; left = left - 1 } ≡ l = cc in ap (λ (k : Lock). k.by == 0) (sym k)
    own false left l f = absurd cc

    at : (c : Bool) → lone (λ n. 0) (unwrap_or (cond c (Some (record { lock = lock_after 0 lock.left; next = next })) None) gate)
    at true = (e, λ l f. own (nat_lt 1 lock.left) lock.left l f)
    at false = h

module _ (b : Built) (round : Bool) (rest : List ℕ → ℕ) (most : ℕ) (ready : Wire) where
  pub single_is : (wants : List Wire) (rows : List (List Wire)) (s : Serving) → length wants ≡ 1 → length rows ≡ length wants
      → s.grants ≡ s.valid ∷ [] → s.items ≡ get_or rows 0 [] → Tells b s.valid (λ v. high v (get_or wants 0 (record { number = 0; width = 0 })) && high v ready)
      → IsGate b round rest most wants ready rows s
  single_is [] rows s o l g i t = absurd (omega (arith, o))
  single_is (w ∷ y ∷ ws) rows s o l g i t = absurd (omega (arith, o))
  single_is (w ∷ []) [] s o l g i t = absurd (omega (arith, l))
  single_is (w ∷ []) (r ∷ q ∷ rs) s o l g i t = absurd (omega (arith, l))
  single_is (w ∷ []) (r ∷ []) s o l g i t = machine_of m (FollowFew rest most) (λ x. x) (λ done. done) sees (served_at s) b lone (record {
    starts = λ v a. (refl, λ l e. absurd (none_some l e));
    does = λ v gate x q z h e f. subst (λ (y : Sight). served_at s v ≡ m.does gate y) e (does v gate q h);
    nexts = λ v u gate x q k z h e f. subst (λ (y : Sight). lone u (m.after gate y)) e (after v gate (who_passes round 1 gate (sees v)) (chosen v gate h) h);
  })
    where
      none_some : (l : Lock) → None ≡ Some l → ⊥
      none_some l e = cc

      m : Machine Gate Sight Served
      m = gate_machine round 1 rest

      sees : (ℕ → ℕ) → Sight
      sees v = sight_at (w ∷ []) ready (r ∷ []) v

      may : (v : ℕ → ℕ) (gate : Gate) → lone v gate → may_pass gate (sees v) 0 ≡ (high v w && high v ready)
      may v gate h = ap (λ (c : Bool). (is_some (cond (high v w) (Some (wire_values v r)) None) && c) && high v ready) (lone_passes gate.lock h.1) ∙ at (high v w)
        where
          at : (c : Bool) → ((is_some (cond c (Some (wire_values v r)) None) && true) && high v ready) ≡ (c && high v ready)
          at true = refl
          at false = refl

      chosen : (v : ℕ → ℕ) (gate : Gate) → lone v gate → who_passes round 1 gate (sees v) ≡ cond (high v w && high v ready) (Some 0) None
      chosen v gate h = one_pick round gate.next (may_pass gate (sees v)) h.0 ∙ ap (λ (c : Bool). cond c (Some 0) None) (may v gate h)

      does : (v : ℕ → ℕ) (gate : Gate) → Solves b v → lone v gate → served_at s v ≡ m.does gate (sees v)
      does v gate q h =
          ap (λ (ws : List Wire). serving_of (highs v ws) (cond (high v s.valid) (Some (wire_values v s.items)) None)) g
          ∙ ap (λ (ws : List Wire). serving_of (high v s.valid ∷ []) (cond (high v s.valid) (Some (wire_values v ws)) None)) i
          ∙ ap (λ (c : Bool). serving_of (c ∷ []) (cond c (Some (wire_values v r)) None)) (t.at v q)
          ∙ at (high v w) (high v ready) refl
          ∙ ap (λ (c : Option ℕ). serving_of (one_hot 1 c) (option_and_then (offer_at (sees v)) c)) (sym (chosen v gate h))
        where
          at : (c d : Bool) → c ≡ high v w → serving_of ((c && d) ∷ []) (cond (c && d) (Some (wire_values v r)) None) ≡ serving_of (one_hot 1 (cond (c && d) (Some 0) None)) (option_and_then (offer_at (sees v)) (cond (c && d) (Some 0) None))
          at true true e = ap (λ (c : Bool). serving_of (true ∷ []) (cond c (Some (wire_values v r)) None)) e
          at true false e = refl
          at false d e = refl

      after : (v : ℕ → ℕ) (gate : Gate) (c : Option ℕ) → c ≡ cond (high v w && high v ready) (Some 0) None → lone v gate → lone v (gate_after rest 1 gate (sees v) c)
      after v gate None e h = h
      after v gate (Some k) e h = subst (λ (n : ℕ). lone v (gate_after rest 1 gate (sees v) (Some n))) (which (high v w && high v ready) e) (lone_after gate.lock gate.next _ gate refl h.0 h)
        where
          which : (d : Bool) → Some k ≡ cond d (Some 0) None → 0 ≡ k
          which true f = let g : k ≡ 0 = cc in sym g
          which false f = absurd cc
