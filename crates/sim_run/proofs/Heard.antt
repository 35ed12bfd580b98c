-- What drivers have been told, one list of events after another and one port after another.
use Rattle.std.proofs.Common.{◌≡◌, ℕ, zero, suc, ◌+◌, ◌*◌, ◌<◌, ◌≤◌, List, [], ◌∷◌, ◌++◌, length, drop, take, map, get_or, set, Some, ◌-◌, refl, sym, ap, ◌∙◌, subst, arith, inl, inr}
use Rattle.std.specs.Prelude.{slice_get, unwrap_or}
use Rattle.std.specs.Option.{option_map}
use Rattle.std.proofs.Math.Seq.{drop-cons}
use Rattle.std.proofs.lemmas.Bool.{cases_lt, cases_order}
use Rattle.std.proofs.lemmas.Option.{get_or_from_slice_get, slice_get-get_or}
use Rattle.std.proofs.lemmas.List.{append_assoc, append-nil, drop-drop, take_all, length-drop, length-map, length-set}
use Rattle.tl_edge.specs.declared.beat.Event.{Event}
use Rattle.sim_ports.specs.Sources.{Script, Sending, Sends}
use Rattle.net_build.proofs.Driven.{get_set_other, get_set_same}
use Rattle.sim_ports.specs.declared.prepared.Prepared.{Prepared}
use Rattle.sim_ports.specs.Prepared.{ArePrepared, IsPreparedAt}
use Rattle.sim_ports.specs.Sinks.{Sinking, after_what, served}
use Rattle.sim_events.specs.declared.types.SinkOffer.{SinkOffer}
use Rattle.sim_events.specs.declared.types.SourceOffer.{SourceOffer}
use Rattle.sim_events.specs.declared.types.SinkView.{SinkView}
use Rattle.sim_events.specs.Passing.{sink_events, source_events}
use Rattle.sim_events.specs.Reading.{sink_events_from, sink_view, source_events_from, source_view}
use Rattle.sim_run.specs.Telling.{AllHear, AllHeard, AllMayServe, AllServed, MayServeAll, events_at_sink, HasHeard, Hears, MayHearAll, events_at_source}

part_heard : (script : Script) (h es fs : List Event) → MayHearAll script h (es ++ fs) → MayHearAll script h es × MayHearAll script (h ++ es) fs
part_heard script h [] fs m = (tt, subst (λ (x : List Event). MayHearAll script x fs) (sym (append-nil h)) m)
part_heard script h (e ∷ es) fs m =
    let k = part_heard script (h ++ e ∷ []) es fs m.1 in
    ((m.0, k.0), subst (λ (x : List Event). MayHearAll script x fs) (append_assoc h (e ∷ []) es) k.1)

-- a driver that is told what enters, whatever happened, may be told the rest
pub hears_rest : (es fs : List Event) (old mid : Sending) → ((script : Script) (h : List Event) → Sends script h old → Sends script (h ++ es) mid) → Hears (es ++ fs) old → Hears fs mid
hears_rest es fs old mid told k = record {
  script = k.script;
  history = k.history ++ es;
  sends = told k.script k.history k.sends;
  may = (part_heard k.script k.history es fs k.may).1;
}

pub heard_both : (es fs : List Event) (old mid new : Sending) → ((script : Script) (h : List Event) → Sends script h old → Sends script (h ++ es) mid) → HasHeard fs mid new → HasHeard (es ++ fs) old new
heard_both es fs old mid new told k = record {
  heard = λ script h s m. subst (λ (x : List Event). Sends script x new) (append_assoc h es fs) (k.heard script (h ++ es) (told script h s) (part_heard script h es fs m).1);
}

pub shown_both : (es fs old mid new : List Event) → mid ≡ old ++ es → new ≡ mid ++ fs → new ≡ old ++ (es ++ fs)
shown_both es fs old mid new e f = f ∙ ap (λ (x : List Event). x ++ fs) e ∙ append_assoc old es fs

-- items from a place on are as they were
pub record AreUntold {A : Type 0} (count : ℕ) (olds news : List A) : Type 0 where
  pub each : (k : ℕ) → count ≤ k → slice_get news k ≡ slice_get olds k

pub none_told : {A : Type 0} (xs : List A) → AreUntold 0 xs xs
none_told xs = record { each = λ k l. refl }

pub one_told : {A : Type 0} (p : ℕ) (olds news : List A) (new : A) → AreUntold p olds news → AreUntold (p + 1) olds (set news p new)
one_told p olds news new h = record {
  each = λ k l. get_set_other news p new k (let q : k ≡ p → ⊥ = λ e. omega (arith, e, l) in q) ∙ h.each k (omega (arith, l));
}

-- what stands at the place that is told next
pub untold_there : {A : Type 0} (p : ℕ) (olds news : List A) (d : A) → AreUntold p olds news → p < length news → slice_get olds p ≡ Some (get_or news p d)
untold_there p olds news d h l = sym (h.each p (omega arith)) ∙ slice_get-get_or news p d l

get_map : {A B : Type 0} (f : A → B) (xs : List A) (k : ℕ) → slice_get (map f xs) k ≡ option_map f (slice_get xs k)
get_map f [] k = refl
get_map f (x ∷ xs) zero = refl
get_map f (x ∷ xs) (suc k) = get_map f xs k

some_same : {A : Type 0} (x y : A) → Some x ≡ Some y → x ≡ y
some_same x y e = ap (λ o. unwrap_or o x) e

module _ (cycle : ℕ) (offers : List SourceOffer) (outputs : List ℕ) where
  pub one_heard : (p : ℕ) (olds news : List Sending) (new d : Sending) → AllHeard cycle offers outputs p olds news → AreUntold p olds news → p < length news
      → HasHeard (events_at_source cycle offers outputs p) (get_or news p d) new → AllHeard cycle offers outputs (p + 1) olds (set news p new)
  one_heard p olds news new d h u l k = record {
    each = λ n old last b o e. elim (cases_lt n p) [
      | inl s ↦ h.each n old last s o (sym (get_set_other news p new n (let q : n ≡ p → ⊥ = λ z. omega (arith, z, s) in q)) ∙ e)
      | inr t ↦
          let q : n ≡ p = omega (arith, t, b) in
          let there : get_or news p d ≡ old = some_same _ _ (sym (untold_there p olds news d u l) ∙ ap (slice_get olds) (sym q) ∙ o) in
          let is : new ≡ last = some_same _ _ (sym (get_set_same news p new l) ∙ ap (slice_get (set news p new)) (sym q) ∙ e) in
          subst (λ m. HasHeard (events_at_source cycle offers outputs m) old last) (sym q)
          (subst (λ z. HasHeard (events_at_source cycle offers outputs p) old z) is (subst (λ z. HasHeard (events_at_source cycle offers outputs p) z new) there k))
    ];
  }

  pub fewer_hear : (p : ℕ) (olds : List Sending) → AllHear cycle offers outputs (p + 1) olds → AllHear cycle offers outputs p olds
  fewer_hear p olds h = record { each = λ k d l e. h.each k d (omega (arith, l)) e }

  next_events : (p : ℕ) (d : SourceOffer) → p < length offers
      → source_events_from cycle p (drop p offers) (drop (7 * p) outputs)
      ≡ source_events cycle p (get_or offers p d) (source_view (drop (7 * p) outputs)) ++ source_events_from cycle (p + 1) (drop (p + 1) offers) (drop (7 * (p + 1)) outputs)
  next_events p d l =
      let split : drop p offers ≡ get_or offers p d ∷ drop (p + 1) offers = drop-cons offers p d l ∙ ap (λ n. get_or offers p d ∷ drop n offers) (let q : suc p ≡ p + 1 = omega arith in q) in
      let past : drop 7 (drop (7 * p) outputs) ≡ drop (7 * (p + 1)) outputs = drop-drop 7 (7 * p) outputs ∙ ap (λ n. drop n outputs) (let q : 7 * p + 7 ≡ 7 * (p + 1) = omega arith in q) in
      ap (λ (os : List SourceOffer). source_events_from cycle p os (drop (7 * p) outputs)) split
      ∙ ap (λ (xs : List ℕ). source_events cycle p (get_or offers p d) (source_view (drop (7 * p) outputs)) ++ source_events_from cycle (p + 1) (drop (p + 1) offers) xs) past

  -- the events so far with those of a port more
  pub one_shown : (p : ℕ) (d : SourceOffer) (old new all : List Event) → p < length offers
      → old ++ source_events_from cycle p (drop p offers) (drop (7 * p) outputs) ≡ all
      → new ≡ old ++ source_events cycle p (get_or offers p d) (source_view (drop (7 * p) outputs))
      → new ++ source_events_from cycle (p + 1) (drop (p + 1) offers) (drop (7 * (p + 1)) outputs) ≡ all
  one_shown p d old new all l e n =
      ap (λ (x : List Event). x ++ source_events_from cycle (p + 1) (drop (p + 1) offers) (drop (7 * (p + 1)) outputs)) n
      ∙ append_assoc old _ _ ∙ ap (λ (x : List Event). old ++ x) (sym (next_events p d l)) ∙ e

-- ---- sink ports

untold_map : {A B : Type 0} (f : A → B) (p : ℕ) (olds news : List A) → AreUntold p olds news → (k : ℕ) → p ≤ k → slice_get (map f news) k ≡ slice_get (map f olds) k
untold_map f p olds news h k l = get_map f news k ∙ ap (option_map f) (h.each k l) ∙ sym (get_map f olds k)

module _ (cycle : ℕ) (offers : List SinkOffer) (outputs : List ℕ) where
  pub one_served : {A : Type 0} (f : A → Sinking) (p : ℕ) (olds news : List A) (new d : A) → AllServed cycle offers outputs p (map f olds) (map f news) → AreUntold p olds news → p < length news
      → f new ≡ served (f (get_or news p d)) (events_at_sink cycle offers outputs p) → AllServed cycle offers outputs (p + 1) (map f olds) (map f (set news p new))
  one_served f p olds news new d h u l k = record {
    each = λ n old last b o e. elim (cases_lt n p) [
      | inl s ↦ h.each n old last s o (get_map f news n ∙ ap (option_map f) (sym (get_set_other news p new n (let q : n ≡ p → ⊥ = λ z. omega (arith, z, s) in q))) ∙ sym (get_map f (set news p new) n) ∙ e)
      | inr t ↦
          let q : n ≡ p = omega (arith, t, b) in
          let there : f (get_or news p d) ≡ old = some_same _ _ (sym (ap (option_map f) (untold_there p olds news d u l)) ∙ sym (get_map f olds p) ∙ ap (slice_get (map f olds)) (sym q) ∙ o) in
          let is : f new ≡ last = some_same _ _ (sym (ap (option_map f) (get_set_same news p new l)) ∙ sym (get_map f (set news p new) p) ∙ ap (slice_get (map f (set news p new))) (sym q) ∙ e) in
          sym is ∙ k ∙ ap (λ (x : Sinking). served x (events_at_sink cycle offers outputs p)) there ∙ ap (λ m. served old (events_at_sink cycle offers outputs m)) (sym q)
    ];
  }

  next_leaves : (p : ℕ) (d : SinkOffer) → p < length offers
      → sink_events_from cycle p (drop p offers) (drop (9 * p) outputs)
      ≡ sink_events cycle p (get_or offers p d) (sink_view (drop (9 * p) outputs)) ++ sink_events_from cycle (p + 1) (drop (p + 1) offers) (drop (9 * (p + 1)) outputs)
  next_leaves p d l =
      let split : drop p offers ≡ get_or offers p d ∷ drop (p + 1) offers = drop-cons offers p d l ∙ ap (λ n. get_or offers p d ∷ drop n offers) (let q : suc p ≡ p + 1 = omega arith in q) in
      let past : drop 9 (drop (9 * p) outputs) ≡ drop (9 * (p + 1)) outputs = drop-drop 9 (9 * p) outputs ∙ ap (λ n. drop n outputs) (let q : 9 * p + 9 ≡ 9 * (p + 1) = omega arith in q) in
      ap (λ (os : List SinkOffer). sink_events_from cycle p os (drop (9 * p) outputs)) split
      ∙ ap (λ (xs : List ℕ). sink_events cycle p (get_or offers p d) (sink_view (drop (9 * p) outputs)) ++ sink_events_from cycle (p + 1) (drop (p + 1) offers) xs) past

  pub one_left : (p : ℕ) (d : SinkOffer) (old new all : List Event) → p < length offers
      → old ++ sink_events_from cycle p (drop p offers) (drop (9 * p) outputs) ≡ all
      → new ≡ old ++ sink_events cycle p (get_or offers p d) (sink_view (drop (9 * p) outputs))
      → new ++ sink_events_from cycle (p + 1) (drop (p + 1) offers) (drop (9 * (p + 1)) outputs) ≡ all
  one_left p d old new all l e n =
      ap (λ (x : List Event). x ++ sink_events_from cycle (p + 1) (drop (p + 1) offers) (drop (9 * (p + 1)) outputs)) n
      ∙ append_assoc old _ _ ∙ ap (λ (x : List Event). old ++ x) (sym (next_leaves p d l)) ∙ e

-- the outputs from a place on, as a slice of them
pub from_place : (xs : List ℕ) (n : ℕ) → take (length xs - n) (drop n xs) ≡ drop n xs
from_place xs n = take_all (length xs - n) (drop n xs) (omega (arith, length-drop n xs))

-- with the same view
pub served_alike : (sink new : Sinking) (events : SinkView → List Event) (v w : SinkView) → new ≡ served sink (events v) → v ≡ w → new ≡ served sink (events w)
served_alike sink new events v w e q = e ∙ ap (λ x. served sink (events x)) q

-- ---- one list of events after another, at a sink port

part_served : (sink : Sinking) (es fs : List Event) → MayServeAll sink (es ++ fs) → MayServeAll sink es
part_served sink [] fs m = tt
part_served sink (e ∷ es) fs m = (m.0, part_served (after_what sink e.cycle e.what) es fs m.1)

pub front_may : (sink : Sinking) (all es fs : List Event) → all ≡ es ++ fs → MayServeAll sink all → MayServeAll sink es
front_may sink all es fs e m = part_served sink es fs (subst (λ (x : List Event). MayServeAll sink x) e m)

pub with_view : (sink : Sinking) (events : SinkView → List Event) (v w : SinkView) → v ≡ w → MayServeAll sink (events w) → MayServeAll sink (events v)
with_view sink events v w e m = subst (λ (x : SinkView). MayServeAll sink (events x)) (sym e) m

served_both : (sink : Sinking) (es fs : List Event) → served sink (es ++ fs) ≡ served (served sink es) fs
served_both sink [] fs = refl
served_both sink (e ∷ es) fs = served_both (after_what sink e.cycle e.what) es fs

pub now_served : (old mid new : Sinking) (es fs : List Event) → mid ≡ served old es → new ≡ served mid fs → new ≡ served old (es ++ fs)
now_served old mid new es fs e f = f ∙ ap (λ x. served x fs) e ∙ sym (served_both old es fs)

-- ---- what is prepared

module _ {A : Type 0} (f : A → Sinking) (prepared : List Prepared) where
  -- the device at a port is
  pub prepared_there : (p : ℕ) (drivers : List A) (d : A) (at : Prepared) → ArePrepared prepared (map f drivers) → p < length drivers
      → at ≡ get_or prepared p at → IsPreparedAt at.addresses (f (get_or drivers p d))
  prepared_there p drivers d at h l e =
      let long : length prepared ≡ length drivers = h.long ∙ length-map drivers f in
      h.each p at (f (get_or drivers p d)) (slice_get-get_or prepared p at (omega (arith, l, long)) ∙ ap (λ a. Some a) (sym e))
      (get_map f drivers p ∙ ap (option_map f) (slice_get-get_or drivers p d l))

  -- and all are with a driver that is prepared in its place
  pub one_prepared : (p : ℕ) (drivers : List A) (new : A) (there : Prepared) → ArePrepared prepared (map f drivers) → p < length drivers
      → there ≡ get_or prepared p there → IsPreparedAt there.addresses (f new) → ArePrepared prepared (map f (set drivers p new))
  one_prepared p drivers new there h l e k = record {
    long = h.long ∙ length-map drivers f ∙ sym (length-set drivers p new) ∙ sym (length-map (set drivers p new) f);
    each = λ port at sink a s. elim (cases_order port p) [
      | inl q ↦
          let is : f new ≡ sink = some_same _ _ (sym (ap (option_map f) (get_set_same drivers p new l)) ∙ sym (get_map f (set drivers p new) p) ∙ ap (slice_get (map f (set drivers p new))) (sym q) ∙ s) in
          let here : there ≡ at = e ∙ get_or_from_slice_get prepared p at there (ap (slice_get prepared) (sym q) ∙ a) in
          subst (λ z. IsPreparedAt at.addresses z) is (subst (λ (z : Prepared). IsPreparedAt z.addresses (f new)) here k)
      | inr o ↦
          let other : port ≡ p → ⊥ = λ e. elim o [
            | inl b ↦ omega (arith, e, b)
            | inr b ↦ omega (arith, e, b)
          ] in
          h.each port at sink a (get_map f drivers port ∙ ap (option_map f) (sym (get_set_other drivers p new port other)) ∙ sym (get_map f (set drivers p new) port) ∙ s)
    ];
  }

-- the events of a port that may be told, with its driver as it is kept
pub may_there : {A : Type 0} (f : A → Sinking) (cycle : ℕ) (offers : List SinkOffer) (outputs : List ℕ) (p : ℕ) (olds news : List A) (d : A)
    → AllMayServe cycle offers outputs (map f olds) → AreUntold p olds news → p < length news
    → MayServeAll (f (get_or news p d)) (events_at_sink cycle offers outputs p)
may_there f cycle offers outputs p olds news d h u l =
    h.each p (f (get_or news p d)) (get_map f olds p ∙ ap (option_map f) (untold_there p olds news d u l))
