-- What the registers of a closed queue hold is a list of at most two.
use Rattle.std.proofs.Common.{◌≡◌, ℕ, suc, Bool, true, false, cond, not, ◌&&◌, ◌||◌, List, [], ◌∷◌, ◌++◌, length, Option, Some, None, refl, sym, ap, ◌∙◌, subst, arith, if◌then◌else◌}
use Rattle.std.specs.Prelude.{◌==◌}
use Rattle.net_build.specs.declared.types.Wire.{Wire}
use Rattle.net_build.specs.Bits.{MeansAll, wire_values}
use Rattle.net_build.specs.Built.{Built, IsRegister}
use Rattle.net_build.specs.Registers.{AllTake}
use Rattle.net_build.specs.Values.{AtStart, Solves, Tells, Ticks, high}
use Rattle.net_queue.specs.declared.types.Queue.{Queue}
use Rattle.net_queue.specs.Queues.{IsListOfTwo, MayMove, Moved, Shown, moved_at, moved_on, queue_registers, shown_of}

-- ---- on plain values

abbrev held : Bool → Bool → List ℕ → List ℕ → List (List ℕ) → Type 0
held valid full head last [] = (valid ≡ false) × (full ≡ false)
held valid full head last (x ∷ []) = (valid ≡ true) × (full ≡ false) × (head ≡ x)
held valid full head last (x ∷ y ∷ []) = (valid ≡ true) × (full ≡ true) × (head ≡ x) × (last ≡ y)
held valid full head last (x ∷ y ∷ z ∷ more) = ⊥

abbrev moved_by : Bool → List ℕ → Bool → Moved (List ℕ)
moved_by push item pop = record { put = cond push (Some item) None; take = pop }

abbrev shown : Bool → Option (List ℕ) → Shown (List ℕ)
shown room head = record { room = room; head = head }

same_shown : (r s : Bool) (h k : Option (List ℕ)) → r ≡ s → h ≡ k → shown r h ≡ shown s k
same_shown r s h k e f = ap (λ (x : Bool). shown x h) e ∙ ap (λ (x : Option (List ℕ)). shown s x) f

shown_table : (ready valid full : Bool) (head last : List ℕ) (beats : List (List ℕ)) → ready ≡ not full → held valid full head last beats → shown ready (cond valid (Some head) None) ≡ shown_of beats
shown_table ready true full head last [] e h = absurd (let x : true ≡ false = h.0 in cc)
shown_table ready false full head last [] e h = same_shown _ _ _ _ (e ∙ ap not h.1) refl
shown_table ready true full head last (x ∷ []) e h = same_shown _ _ _ _ (e ∙ ap not h.1) (ap Some h.2)
shown_table ready false full head last (x ∷ []) e h = absurd (let x : false ≡ true = h.0 in cc)
shown_table ready true full head last (x ∷ y ∷ []) e h = same_shown _ _ _ _ (e ∙ ap not h.1) (ap Some h.2)
shown_table ready false full head last (x ∷ y ∷ []) e h = absurd (let x : false ≡ true = h.0 in cc)
shown_table ready valid full head last (x ∷ y ∷ z ∷ more) e h = absurd h

-- the registers of the next cycle
abbrev next_held : Bool → Bool → Bool → Bool → List ℕ → List ℕ → List ℕ → List (List ℕ) → Type 0
next_held valid full push pop head last item beats =
    held
    ((valid && not pop) || (full || push))
    ((valid && not pop) && (full || push))
    (cond (valid && not pop) head (cond full last item))
    (cond full last item)
    beats

table : (valid full push pop : Bool) (head last item : List ℕ) (beats : List (List ℕ)) → held valid full head last beats → MayMove beats (moved_by push item pop) → next_held valid full push pop head last item (moved_on beats (moved_by push item pop))
table true full push pop head last item [] h m = absurd (let x : true ≡ false = h.0 in cc)
table false true push pop head last item [] h m = absurd (let x : true ≡ false = h.1 in cc)
table false false push true head last item [] h m = absurd (let x : false ≡ true = m.take refl in cc)
table false false true false head last item [] h m = (refl, refl, refl)
table false false false false head last item [] h m = (refl, refl)
table false full push pop head last item (x ∷ []) h m = absurd (let x : false ≡ true = h.0 in cc)
table true true push pop head last item (x ∷ []) h m = absurd (let x : true ≡ false = h.1 in cc)
table true false true true head last item (x ∷ []) h m = (refl, refl, refl)
table true false true false head last item (x ∷ []) h m = (refl, refl, h.2, refl)
table true false false true head last item (x ∷ []) h m = (refl, refl)
table true false false false head last item (x ∷ []) h m = (refl, refl, h.2)
table false full push pop head last item (x ∷ y ∷ []) h m = absurd (let x : false ≡ true = h.0 in cc)
table true false push pop head last item (x ∷ y ∷ []) h m = absurd (let x : false ≡ true = h.1 in cc)
table true true true pop head last item (x ∷ y ∷ []) h m = absurd (let x : false ≡ true = m.put refl in cc)
table true true false true head last item (x ∷ y ∷ []) h m = (refl, refl, h.3)
table true true false false head last item (x ∷ y ∷ []) h m = (refl, refl, h.2, h.3)
table valid full push pop head last item (x ∷ y ∷ z ∷ more) h m = absurd h

held_same : (valid full valid2 full2 : Bool) (head last head2 last2 : List ℕ) (beats : List (List ℕ)) → valid ≡ valid2 → full ≡ full2 → head ≡ head2 → last ≡ last2 → held valid2 full2 head2 last2 beats → held valid full head last beats
held_same valid full valid2 full2 head last head2 last2 beats a b c d h =
    subst (λ (x : Bool). held x full head last beats) (sym a)
    (subst (λ (x : Bool). held valid2 x head last beats) (sym b)
    (subst (λ (x : List ℕ). held valid2 full2 x last beats) (sym c)
    (subst (λ (x : List ℕ). held valid2 full2 head2 x beats) (sym d) h)))

-- ---- what registers take

take_tail : (b : Built) (w n : Wire) (ws ns : List Wire) → AllTake b (w ∷ ws) (n ∷ ns) → AllTake b ws ns
take_tail b w n ws ns h = record { each = λ k d e l. h.each (suc k) d e (omega (arith, l)) }

module _ (b : Built) (v u : ℕ → ℕ) (s : Solves b v) (t : Ticks b v u) where
  taken_one : (w n : Wire) (ws ns : List Wire) → AllTake b (w ∷ ws) (n ∷ ns) → (v 0 == 1) ≡ false → u w.number ≡ v n.number
  taken_one w n ws ns h z = (h.each 0 w n (omega arith)).at v u s t ∙ ap (λ (c : Bool). if c then 0 else v n.number) z

  cleared_one : (w n : Wire) (ws ns : List Wire) → AllTake b (w ∷ ws) (n ∷ ns) → (v 0 == 1) ≡ true → u w.number ≡ 0
  cleared_one w n ws ns h z = (h.each 0 w n (omega arith)).at v u s t ∙ ap (λ (c : Bool). if c then 0 else v n.number) z

  taken_all : (ws ns : List Wire) → length ns ≡ length ws → AllTake b ws ns → (v 0 == 1) ≡ false → wire_values u ws ≡ wire_values v ns
  taken_all [] [] l h z = refl
  taken_all [] (n ∷ ns) l h z = absurd (omega (arith, l))
  taken_all (w ∷ ws) [] l h z = absurd (omega (arith, l))
  taken_all (w ∷ ws) (n ∷ ns) l h z =
      ap (λ (x : ℕ). x ∷ wire_values u ws) (taken_one w n ws ns h z)
      ∙ ap (λ (xs : List ℕ). v n.number ∷ xs) (taken_all ws ns (omega (arith, l)) (take_tail b w n ws ns h) z)

  taken_both : (xs ms ys ns : List Wire) → length ms ≡ length xs → length ns ≡ length ys → AllTake b (xs ++ ys) (ms ++ ns) → (v 0 == 1) ≡ false → (wire_values u xs ≡ wire_values v ms) × (wire_values u ys ≡ wire_values v ns)
  taken_both [] [] ys ns l m h z = (refl, taken_all ys ns m h z)
  taken_both [] (n ∷ ms) ys ns l m h z = absurd (omega (arith, l))
  taken_both (w ∷ xs) [] ys ns l m h z = absurd (omega (arith, l))
  taken_both (w ∷ xs) (n ∷ ms) ys ns l m h z =
      let r = taken_both xs ms ys ns (omega (arith, l)) m (take_tail b w n (xs ++ ys) (ms ++ ns) h) z in (
        ap (λ (x : ℕ). x ∷ wire_values u xs) (taken_one w n (xs ++ ys) (ms ++ ns) h z)
            ∙ ap (λ (zs : List ℕ). v n.number ∷ zs) r.0,
        r.1,
      )

idle : (b : Built) (w : Wire) (v : ℕ → ℕ) → IsRegister b w → AtStart b v → high v w ≡ false
idle b w v r a = ap (λ (n : ℕ). n == 1) (a.holds w.number _ r.at refl)

pub list_of_two : (b : Built) (q : Queue) (push pop kept valid full : Wire) (items heads lasts : List Wire)
    → IsRegister b q.valid → IsRegister b q.full
    → length heads ≡ length q.head → length lasts ≡ length q.last
    → AllTake b (queue_registers q) (valid ∷ full ∷ heads ++ lasts)
    → Tells b q.ready (λ v. not (high v q.full))
    → Tells b kept (λ v. high v q.valid && not (high v pop))
    → Tells b valid (λ v. high v kept || (high v q.full || high v push))
    → Tells b full (λ v. high v kept && (high v q.full || high v push))
    → MeansAll b lasts (λ v. cond (high v q.full) (wire_values v q.last) (wire_values v items))
    → MeansAll b heads (λ v. cond (high v kept) (wire_values v q.head) (wire_values v lasts))
    → IsListOfTwo b q push items pop
list_of_two b q push pop kept valid full items heads lasts rv rf lh ll take room tk tv tf ml mh = record {
  starts = λ v a. (idle b q.valid v rv a, idle b q.full v rf a);
  shows = λ v beats s h. shown_table (high v q.ready) (high v q.valid) (high v q.full) (wire_values v q.head) (wire_values v q.last) beats (room.at v s) h;
  moves = λ v u beats s t z h m.
      let rest = take_tail b q.valid valid _ _ take in
      let both = taken_both b v u s t q.head heads q.last lasts lh ll (take_tail b q.full full _ _ rest) z in
      let k = tk.at v s in
      let nv : high u q.valid ≡ ((high v q.valid && not (high v pop)) || (high v q.full || high v push)) =
      ap (λ (n : ℕ). n == 1) (taken_one b v u s t q.valid valid _ _ take z) ∙ tv.at v s ∙ ap (λ (x : Bool). x || (high v q.full || high v push)) k in
      let nf : high u q.full ≡ ((high v q.valid && not (high v pop)) && (high v q.full || high v push)) =
      ap (λ (n : ℕ). n == 1) (taken_one b v u s t q.full full _ _ rest z) ∙ tf.at v s ∙ ap (λ (x : Bool). x && (high v q.full || high v push)) k in
      let nl = both.1 ∙ ml.at v s in
      let nh : wire_values u q.head ≡ cond (high v q.valid && not (high v pop)) (wire_values v q.head) (cond (high v q.full) (wire_values v q.last) (wire_values v items)) =
      both.0 ∙ mh.at v s
      ∙ ap (λ (x : Bool). cond x (wire_values v q.head) (wire_values v lasts)) k
      ∙ ap (λ (xs : List ℕ). cond (high v q.valid && not (high v pop)) (wire_values v q.head) xs) (ml.at v s) in
      held_same (high u q.valid) (high u q.full) _ _ (wire_values u q.head) (wire_values u q.last) _ _ (moved_on beats (moved_at push items pop v)) nv nf nh nl
      (table (high v q.valid) (high v q.full) (high v push) (high v pop) (wire_values v q.head) (wire_values v q.last) (wire_values v items) beats h m);
  resets = λ v u s t z. (
    ap (λ (n : ℕ). n == 1) (cleared_one b v u s t q.valid valid _ _ take z),
    ap (λ (n : ℕ). n == 1) (cleared_one b v u s t q.full full _ _ (take_tail b q.valid valid _ _ take) z),
  );
}
