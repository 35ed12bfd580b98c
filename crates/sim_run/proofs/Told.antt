-- The events of a cycle by their ports, and what drivers have been told after them.
use Rattle.std.proofs.Common.{◌≡◌, ℕ, zero, suc, ◌+◌, ◌*◌, ◌<◌, ◌&&◌, List, [], ◌∷◌, ◌++◌, Bool, true, false, cond, not, drop, get_or, length, nat_eq, Option, Some, None, refl, sym, ap, ◌∙◌, subst, arith, eq-eqb, ne_eqb}
use Rattle.std.proofs.lemmas.List.{append-nil, drop-drop}
use Rattle.std.proofs.lemmas.List.Elements.{filter-append}
use Rattle.std.proofs.lemmas.Option.{slice_get-get_or, slice_get_within}
use Rattle.tl_edge.specs.declared.beat.Event.{Event}
use Rattle.tl_edge.specs.declared.beat.What.{What}
use Rattle.tl_edge.specs.declared.beat.What.TheVariants.{Enter, Return, Leave, Reply}
use Rattle.tl_edge.specs.declared.plan.PlanPort.{PlanPort}
use Rattle.sim_ports.specs.Sinks.{Sinking, after_what, served}
use Rattle.sim_ports.specs.Sources.{Sending, Sends}
use Rattle.sim_events.specs.declared.types.SourceOffer.{SourceOffer}
use Rattle.sim_events.specs.declared.types.SinkOffer.{SinkOffer}
use Rattle.sim_events.specs.declared.types.SourceView.{SourceView}
use Rattle.sim_events.specs.declared.types.SinkView.{SinkView}
use Rattle.sim_events.specs.Passing.{happening, if_room, sink_events, source_events}
use Rattle.sim_events.specs.Reading.{events_read, past_sources, sink_events_from, sink_view, source_events_from, source_view}
use Rattle.sim_events.specs.Setups.{Setup, at_sink, at_source, is_at_source, script_at, sink_at_start}
use Rattle.sim_run.specs.Standing.{AreTold}
use Rattle.sim_run.specs.Telling.{AllHear, AllMayServe, MayServeAll, events_at_sink, events_at_source}
use Rattle.sim_run.specs.Following.{AreToldMore, MayTell, ToldLaw}

cond_same : {A : Type 0} (t : Bool) (x : A) → x ≡ cond t x x
cond_same true x = refl
cond_same false x = refl

cond_both : (t : Bool) (xs ys : List Event) → cond t xs [] ++ cond t ys [] ≡ cond t (xs ++ ys) []
cond_both true xs ys = refl
cond_both false xs ys = refl

module _ (c p : ℕ) where
  -- what happens at a source port is among the events of that port, and of no sink port
  kept_one : {B : Type 0} (k : ℕ) (what : B → What) (x : Option B) → ((b : B) → is_at_source (what b) ≡ true) → at_source p (happening c k what x) ≡ cond (nat_eq k p) (happening c k what x) []
  kept_one k what None h = cond_same (nat_eq k p) []
  kept_one k what (Some b) h = ap (λ q. cond (q && nat_eq k p) (happening c k what (Some b)) []) (h b)

  left_one : {B : Type 0} (k : ℕ) (what : B → What) (x : Option B) → ((b : B) → is_at_source (what b) ≡ true) → at_sink p (happening c k what x) ≡ []
  left_one k what None h = refl
  left_one k what (Some b) h = ap (λ q. cond (not q && nat_eq k p) (happening c k what (Some b)) []) (h b)

  kept_sink : {B : Type 0} (k : ℕ) (what : B → What) (x : Option B) → ((b : B) → is_at_source (what b) ≡ false) → at_sink p (happening c k what x) ≡ cond (nat_eq k p) (happening c k what x) []
  kept_sink k what None h = cond_same (nat_eq k p) []
  kept_sink k what (Some b) h = ap (λ q. cond (not q && nat_eq k p) (happening c k what (Some b)) []) (h b)

  left_sink : {B : Type 0} (k : ℕ) (what : B → What) (x : Option B) → ((b : B) → is_at_source (what b) ≡ false) → at_source p (happening c k what x) ≡ []
  left_sink k what None h = refl
  left_sink k what (Some b) h = ap (λ q. cond (q && nat_eq k p) (happening c k what (Some b)) []) (h b)

  both_source : (xs ys : List Event) → at_source p (xs ++ ys) ≡ at_source p xs ++ at_source p ys
  both_source xs ys = filter-append (λ (e : Event). is_at_source e.what && nat_eq e.port p) xs ys

  both_sink : (xs ys : List Event) → at_sink p (xs ++ ys) ≡ at_sink p xs ++ at_sink p ys
  both_sink xs ys = filter-append (λ (e : Event). not (is_at_source e.what) && nat_eq e.port p) xs ys

  -- ---- source ports

  own_source : (k : ℕ) (o : SourceOffer) (v : SourceView) → at_source p (source_events c k o v) ≡ cond (nat_eq k p) (source_events c k o v) []
  own_source k o v =
      let es = happening c k Enter (if_room v.room o.beat) in
      let fs = happening c k Return (if_room o.takes v.head) in
      both_source es fs
      ∙ ap (λ (x : List Event). x ++ at_source p fs) (kept_one k Enter (if_room v.room o.beat) (λ b. refl))
      ∙ ap (λ (x : List Event). cond (nat_eq k p) es [] ++ x) (kept_one k Return (if_room o.takes v.head) (λ b. refl))
      ∙ cond_both (nat_eq k p) es fs

  no_sink : (k : ℕ) (o : SourceOffer) (v : SourceView) → at_sink p (source_events c k o v) ≡ []
  no_sink k o v =
      let es = happening c k Enter (if_room v.room o.beat) in
      let fs = happening c k Return (if_room o.takes v.head) in
      both_sink es fs
      ∙ ap (λ (x : List Event). x ++ at_sink p fs) (left_one k Enter (if_room v.room o.beat) (λ b. refl))
      ∙ left_one k Return (if_room o.takes v.head) (λ b. refl)

  later_sources : (k : ℕ) (offers : List SourceOffer) (outputs : List ℕ) → p < k → at_source p (source_events_from c k offers outputs) ≡ []
  later_sources k [] outputs l = refl
  later_sources k (o ∷ offers) outputs l =
      both_source (source_events c k o (source_view outputs)) (source_events_from c (k + 1) offers (drop 7 outputs))
      ∙ ap (λ (x : List Event). x ++ at_source p (source_events_from c (k + 1) offers (drop 7 outputs))) (own_source k o (source_view outputs) ∙ ap (λ t. cond t (source_events c k o (source_view outputs)) []) (ne_eqb k p (λ e. omega (arith, e, l))))
      ∙ later_sources (k + 1) offers (drop 7 outputs) (omega (arith, l))

  its_sources : (k i : ℕ) (d : SourceOffer) (offers : List SourceOffer) (outputs : List ℕ) → p ≡ k + i → i < length offers
      → at_source p (source_events_from c k offers outputs) ≡ source_events c p (get_or offers i d) (source_view (drop (7 * i) outputs))
  its_sources k i d [] outputs e l = absurd (omega (arith, l))
  its_sources k zero d (o ∷ offers) outputs e l =
      let q : k ≡ p = omega (arith, e) in
      both_source (source_events c k o (source_view outputs)) (source_events_from c (k + 1) offers (drop 7 outputs))
      ∙ ap (λ (x : List Event). x ++ at_source p (source_events_from c (k + 1) offers (drop 7 outputs))) (own_source k o (source_view outputs) ∙ ap (λ t. cond t (source_events c k o (source_view outputs)) []) (eq-eqb k p q))
      ∙ ap (λ (x : List Event). source_events c k o (source_view outputs) ++ x) (later_sources (k + 1) offers (drop 7 outputs) (omega (arith, q)))
      ∙ append-nil (source_events c k o (source_view outputs))
      ∙ ap (λ n. source_events c n o (source_view outputs)) q
  its_sources k (suc i) d (o ∷ offers) outputs e l =
      both_source (source_events c k o (source_view outputs)) (source_events_from c (k + 1) offers (drop 7 outputs))
      ∙ ap (λ (x : List Event). x ++ at_source p (source_events_from c (k + 1) offers (drop 7 outputs))) (own_source k o (source_view outputs) ∙ ap (λ t. cond t (source_events c k o (source_view outputs)) []) (ne_eqb k p (λ z. omega (arith, e, z))))
      ∙ its_sources (k + 1) i d offers (drop 7 outputs) (omega (arith, e)) (omega (arith, l))
      ∙ ap (λ (x : List ℕ). source_events c p (get_or offers i d) (source_view x)) (drop-drop (7 * i) 7 outputs ∙ ap (λ n. drop n outputs) (let q : 7 + 7 * i ≡ 7 * suc i = omega arith in q))

  no_sinks : (k : ℕ) (offers : List SourceOffer) (outputs : List ℕ) → at_sink p (source_events_from c k offers outputs) ≡ []
  no_sinks k [] outputs = refl
  no_sinks k (o ∷ offers) outputs =
      both_sink (source_events c k o (source_view outputs)) (source_events_from c (k + 1) offers (drop 7 outputs))
      ∙ ap (λ (x : List Event). x ++ at_sink p (source_events_from c (k + 1) offers (drop 7 outputs))) (no_sink k o (source_view outputs))
      ∙ no_sinks (k + 1) offers (drop 7 outputs)

  -- ---- sink ports

  own_sink : (k : ℕ) (o : SinkOffer) (v : SinkView) → at_sink p (sink_events c k o v) ≡ cond (nat_eq k p) (sink_events c k o v) []
  own_sink k o v =
      let es = happening c k Leave (if_room o.takes v.head) in
      let fs = happening c k Reply (if_room v.room o.beat) in
      both_sink es fs
      ∙ ap (λ (x : List Event). x ++ at_sink p fs) (kept_sink k Leave (if_room o.takes v.head) (λ b. refl))
      ∙ ap (λ (x : List Event). cond (nat_eq k p) es [] ++ x) (kept_sink k Reply (if_room v.room o.beat) (λ b. refl))
      ∙ cond_both (nat_eq k p) es fs

  no_source : (k : ℕ) (o : SinkOffer) (v : SinkView) → at_source p (sink_events c k o v) ≡ []
  no_source k o v =
      let es = happening c k Leave (if_room o.takes v.head) in
      let fs = happening c k Reply (if_room v.room o.beat) in
      both_source es fs
      ∙ ap (λ (x : List Event). x ++ at_source p fs) (left_sink k Leave (if_room o.takes v.head) (λ b. refl))
      ∙ left_sink k Reply (if_room v.room o.beat) (λ b. refl)

  later_sinks : (k : ℕ) (offers : List SinkOffer) (outputs : List ℕ) → p < k → at_sink p (sink_events_from c k offers outputs) ≡ []
  later_sinks k [] outputs l = refl
  later_sinks k (o ∷ offers) outputs l =
      both_sink (sink_events c k o (sink_view outputs)) (sink_events_from c (k + 1) offers (drop 9 outputs))
      ∙ ap (λ (x : List Event). x ++ at_sink p (sink_events_from c (k + 1) offers (drop 9 outputs))) (own_sink k o (sink_view outputs) ∙ ap (λ t. cond t (sink_events c k o (sink_view outputs)) []) (ne_eqb k p (λ e. omega (arith, e, l))))
      ∙ later_sinks (k + 1) offers (drop 9 outputs) (omega (arith, l))

  its_sinks : (k i : ℕ) (d : SinkOffer) (offers : List SinkOffer) (outputs : List ℕ) → p ≡ k + i → i < length offers
      → at_sink p (sink_events_from c k offers outputs) ≡ sink_events c p (get_or offers i d) (sink_view (drop (9 * i) outputs))
  its_sinks k i d [] outputs e l = absurd (omega (arith, l))
  its_sinks k zero d (o ∷ offers) outputs e l =
      let q : k ≡ p = omega (arith, e) in
      both_sink (sink_events c k o (sink_view outputs)) (sink_events_from c (k + 1) offers (drop 9 outputs))
      ∙ ap (λ (x : List Event). x ++ at_sink p (sink_events_from c (k + 1) offers (drop 9 outputs))) (own_sink k o (sink_view outputs) ∙ ap (λ t. cond t (sink_events c k o (sink_view outputs)) []) (eq-eqb k p q))
      ∙ ap (λ (x : List Event). sink_events c k o (sink_view outputs) ++ x) (later_sinks (k + 1) offers (drop 9 outputs) (omega (arith, q)))
      ∙ append-nil (sink_events c k o (sink_view outputs))
      ∙ ap (λ n. sink_events c n o (sink_view outputs)) q
  its_sinks k (suc i) d (o ∷ offers) outputs e l =
      both_sink (sink_events c k o (sink_view outputs)) (sink_events_from c (k + 1) offers (drop 9 outputs))
      ∙ ap (λ (x : List Event). x ++ at_sink p (sink_events_from c (k + 1) offers (drop 9 outputs))) (own_sink k o (sink_view outputs) ∙ ap (λ t. cond t (sink_events c k o (sink_view outputs)) []) (ne_eqb k p (λ z. omega (arith, e, z))))
      ∙ its_sinks (k + 1) i d offers (drop 9 outputs) (omega (arith, e)) (omega (arith, l))
      ∙ ap (λ (x : List ℕ). sink_events c p (get_or offers i d) (sink_view x)) (drop-drop (9 * i) 9 outputs ∙ ap (λ n. drop n outputs) (let q : 9 + 9 * i ≡ 9 * suc i = omega arith in q))

  no_sources : (k : ℕ) (offers : List SinkOffer) (outputs : List ℕ) → at_source p (sink_events_from c k offers outputs) ≡ []
  no_sources k [] outputs = refl
  no_sources k (o ∷ offers) outputs =
      both_source (sink_events c k o (sink_view outputs)) (sink_events_from c (k + 1) offers (drop 9 outputs))
      ∙ ap (λ (x : List Event). x ++ at_source p (sink_events_from c (k + 1) offers (drop 9 outputs))) (no_source k o (sink_view outputs))
      ∙ no_sources (k + 1) offers (drop 9 outputs)

  -- ---- both

  read_source : (sources : List SourceOffer) (sinks : List SinkOffer) (outputs : List ℕ) → p < length sources
      → at_source p (events_read c sources sinks outputs) ≡ events_at_source c sources outputs p
  read_source sources sinks outputs l =
      let behind = sink_events_from c 0 sinks (past_sources (length sources) outputs) in
      both_source (source_events_from c 0 sources outputs) behind
      ∙ ap (λ (x : List Event). at_source p (source_events_from c 0 sources outputs) ++ x) (no_sources 0 sinks (past_sources (length sources) outputs))
      ∙ append-nil (at_source p (source_events_from c 0 sources outputs))
      ∙ its_sources 0 p _ sources outputs (omega arith) l

  read_sink : (sources : List SourceOffer) (sinks : List SinkOffer) (outputs : List ℕ) → p < length sinks
      → at_sink p (events_read c sources sinks outputs) ≡ events_at_sink c sinks (past_sources (length sources) outputs) p
  read_sink sources sinks outputs l =
      let behind = sink_events_from c 0 sinks (past_sources (length sources) outputs) in
      both_sink (source_events_from c 0 sources outputs) behind
      ∙ ap (λ (x : List Event). x ++ at_sink p behind) (no_sinks 0 sources outputs)
      ∙ its_sinks 0 p _ sinks (past_sources (length sources) outputs) (omega arith) l

served_both : (sink : Sinking) (xs ys : List Event) → served sink (xs ++ ys) ≡ served (served sink xs) ys
served_both sink [] ys = refl
served_both sink (x ∷ xs) ys = served_both (after_what sink x.cycle x.what) xs ys

-- ---- the drivers of a run

hears : (u : Setup) (h : List Event) (c : ℕ) (sources : List SourceOffer) (sinks : List SinkOffer) (outputs : List ℕ) (olds : List Sending) (befores : List Sinking)
    → AreTold u h olds befores → MayTell u h c sources sinks outputs → AllHear c sources outputs (length olds) olds
hears u h c sources sinks outputs olds befores t m = record {
  each = λ p driver l e.
      let d : PlanPort = record { edge = 0; node = 0; port = 0; name = [] } in
      let g = slice_get-get_or u.plan.sources p d (omega (arith, l, t.sources_long)) in
      record {
        script = script_at u p (get_or u.plan.sources p d);
        history = at_source p h;
        sends = t.sends p (get_or u.plan.sources p d) driver g e;
        may = m.hears p (get_or u.plan.sources p d) g;
      };
}

serves : (u : Setup) (h : List Event) (c : ℕ) (sources : List SourceOffer) (sinks : List SinkOffer) (outputs : List ℕ) (olds : List Sending) (befores : List Sinking)
    → AreTold u h olds befores → MayTell u h c sources sinks outputs → AllMayServe c sinks (past_sources (length sources) outputs) befores
serves u h c sources sinks outputs olds befores t m = record {
  each = λ p sink e.
      let d : PlanPort = record { edge = 0; node = 0; port = 0; name = [] } in
      let l = slice_get_within befores p sink e in
      let g = slice_get-get_or u.plan.sinks p d (omega (arith, l, t.sinks_long)) in
      subst (λ (s : Sinking). MayServeAll s (events_at_sink c sinks (past_sources (length sources) outputs) p)) (sym (t.serves p (get_or u.plan.sinks p d) sink g e)) (m.serves p (get_or u.plan.sinks p d) g);
}

goes_on : (u : Setup) (h : List Event) (c : ℕ) (sources : List SourceOffer) (sinks : List SinkOffer) (outputs : List ℕ) (olds news : List Sending) (befores afters : List Sinking)
    → AreTold u h olds befores → MayTell u h c sources sinks outputs → AreToldMore c sources sinks outputs olds news befores afters
    → AreTold u (h ++ events_read c sources sinks outputs) news afters
goes_on u h c sources sinks outputs olds news befores afters t m k = record {
  sources_long = k.news_long ∙ t.sources_long;
  sinks_long = k.afters_long ∙ t.sinks_long;
  sends = λ p at driver g e.
      let l = slice_get_within u.plan.sources p at g in
      let b : p < length olds = omega (arith, l, t.sources_long) in
      let old = get_or olds p driver in
      let o = slice_get-get_or olds p driver b in
      subst (λ (x : List Event). Sends (script_at u p at) x driver)
      (ap (λ (x : List Event). at_source p h ++ x) (sym (read_source c p sources sinks outputs (omega (arith, b, k.sources_long)))) ∙ sym (both_source c p h (events_read c sources sinks outputs)))
      ((k.heard.each p old driver b o e).heard (script_at u p at) (at_source p h) (t.sends p at old g o) (m.hears p at g));
  serves = λ p at sink g e.
      let l = slice_get_within u.plan.sinks p at g in
      let b : p < length befores = omega (arith, l, t.sinks_long) in
      let old = get_or befores p sink in
      let o = slice_get-get_or befores p sink b in
      let es = events_at_sink c sinks (past_sources (length sources) outputs) p in
      k.served.each p old sink b o e
      ∙ ap (λ (s : Sinking). served s es) (t.serves p at old g o)
      ∙ sym (served_both (sink_at_start u p at) (at_sink p h) es)
      ∙ ap (λ (x : List Event). served (sink_at_start u p at) x)
      (ap (λ (x : List Event). at_sink p h ++ x) (sym (read_sink c p sources sinks outputs (omega (arith, b, k.sinks_long)))) ∙ sym (both_sink c p h (events_read c sources sinks outputs)));
}

pub told_law : ToldLaw
told_law = record { hears = hears; serves = serves; goes_on = goes_on }
