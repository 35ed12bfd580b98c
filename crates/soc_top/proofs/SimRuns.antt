-- A run of `sim` on what was loaded, or on a load that failed, as the answer of the command.
use Rattle.std.proofs.Common.{ℕ, ◌≡◌, ◌∙◌, ◌⊎◌, ◌≤◌, ◌<◌, inl, inr, List, length, Some, None, refl, sym, ap, subst, arith}
use Rattle.std.specs.Option.{option_map}
use Rattle.dip_lists.specs.First.{Failure, failure_of}
use Rattle.dip_io.specs.Outside.{AreFirst, FilesSeen, OutSeen, LoadsRose, NoneFell, Rose, SameContent, Saves, SavesRose, Told, Writes, WritesPart}
use Rattle.dip_rule.specs.Stated.{StatedRule}
use Rattle.net_cells.specs.declared.netlist.Netlist.{Netlist}
use Rattle.sim_ports.specs.Devices.{Says}
use Rattle.sim_events.specs.Setups.{Setup}
use Rattle.soc_report.specs.Lines.{line_of}
use Rattle.soc_report.specs.declared.status.Status.{Status}
use Rattle.soc_report.specs.declared.status.Status.TheVariants.{Done, Refused, ReadFailed, WriteFailed, BadStimulus, Memory, NoDevice}
use Rattle.soc_trace.specs.Traces.{AllGood, WritesTrace, trace_text}
use Rattle.soc_top.specs.Answers.{SimAnswered}
use Rattle.soc_top.specs.Building.{HasNoMemory}
use Rattle.soc_top.specs.Designs.{answer_of}
use Rattle.soc_top.specs.Netlists.{build_failure}
use Rattle.soc_top.specs.Printing.{Printed}
use Rattle.soc_top.specs.Simulating.{AreLoaded, HasPassed, IsSimRun, IsSimulated, DueSimLine, no_design, fails, no_stimulus, bad, few}
use Rattle.soc_top.specs.Simulating.{WasStopped, on_line, unsaved, saved, WasUnread, no_design_read, no_stimulus_read}
use Rattle.soc_top.specs.Simulating.{OpenRuns, no_memory_to_open, too_few, opened, StimulusRuns, no_memory_to_run, bad_line, few_line, ran}
use Rattle.soc_top.specs.Simulating.{LoadRuns, no_memory_to_load, unread, read, SimRuns, no_memory_to_check, refused, passed}
use Rattle.soc_top.specs.Stimuli.{IsSimulation, devices_needed, most_stimulus_loaded, stimulus_failure}
use Rattle.soc_top.specs.Words.{SimFiles}
use Rattle.soc_top.specs.Worlds.{World, world, most_loaded, IsLoaded, NothingPrinted}

-- ---- a run

module _ (setup : Setup) (netlist : Netlist) (cycles : ℕ) (text name : List ℕ) where
  -- a save that failed
  pub save_failed : (files after : FilesSeen) (out : OutSeen) → SavesRose name files after → IsSimRun setup netlist cycles text name (world files out) (world after out) WriteFailed
  save_failed files after out rose = record {
    either = inr refl;
    whole = λ h. absurd (cc);
    part = λ h. inl (rose, refl);
  }

  -- a save, and then the trace
  pub trace_passed : (before after : World) → Saves name text before.files after.files → WritesTrace cycles before.out after.out
      → (AllGood setup netlist cycles → Writes (trace_text setup cycles) before.out after.out) → IsSimRun setup netlist cycles text name before after Done
  trace_passed before after saves some all = record {
    either = inl refl;
    whole = λ h. (saves, record { some = some; all = all });
    part = λ h. absurd (cc);
  }

  -- or a part of it
  pub trace_failed : (before after : World) → Saves name text before.files after.files → Rose before.out.faults after.out.faults
      → (AllGood setup netlist cycles → WritesPart (trace_text setup cycles) before.out after.out) → IsSimRun setup netlist cycles text name before after WriteFailed
  trace_failed before after saves rose part = record {
    either = inr refl;
    whole = λ h. absurd (cc);
    part = λ h. inr (saves, rose, part);
  }

-- ---- what stands before and after a load

rose_earlier : (a b c : ℕ) → a ≤ b → Rose b c → Rose a c
rose_earlier a b c low (inl more) = inl (omega arith)
rose_earlier a b c low (inr last) = inr last

module _ (first loaded : FilesSeen) (out : OutSeen) (after : World) (result : Status) (kept : SameContent first loaded) (loads : NoneFell first.loads loaded.loads)
    (saves : NoneFell first.saves loaded.saves) where
  same_all : SameContent loaded after.files → SameContent first after.files
  same_all h name = h name ∙ kept name

  loads_rose : (name : List ℕ) → LoadsRose name loaded after.files → LoadsRose name first after.files
  loads_rose name h = rose_earlier (first.loads name) (loaded.loads name) (after.files.loads name) (loads name) h

  saves_rose : (name : List ℕ) → SavesRose name loaded after.files → SavesRose name first after.files
  saves_rose name h = rose_earlier (first.saves name) (loaded.saves name) (after.files.saves name) (saves name) h

  saves_all : (name text : List ℕ) → Saves name text loaded after.files → Saves name text first after.files
  saves_all name text h = h ∙ ap (option_map (λ _. Some text)) (kept name)

  loaded_all : (most : ℕ) (name bytes : List ℕ) → IsLoaded most name (world loaded out) bytes → IsLoaded most name (world first out) bytes
  loaded_all most name bytes l = subst (λ (told : Told). AreFirst most told bytes) (kept name) l

  no_memory_all : HasNoMemory (world loaded out) after result → HasNoMemory (world first out) after result
  no_memory_all m = record { status = m.status; printed = m.printed; files = same_all m.files }

  part_all : (setup : Setup) (netlist : Netlist) (cycles : ℕ) (text name : List ℕ)
      → (SavesRose name loaded after.files × NothingPrinted (world loaded out) after)
      ⊎ (Saves name text loaded after.files × Rose out.faults after.out.faults × (AllGood setup netlist cycles → WritesPart (trace_text setup cycles) out after.out))
      → (SavesRose name first after.files × NothingPrinted (world first out) after)
      ⊎ (Saves name text first after.files × Rose out.faults after.out.faults × (AllGood setup netlist cycles → WritesPart (trace_text setup cycles) out after.out))
  part_all setup netlist cycles text name (inl h) = inl (saves_rose name h.0, h.1)
  part_all setup netlist cycles text name (inr h) = inr (saves_all name text h.0, h.1, h.2)

  run_all : (setup : Setup) (netlist : Netlist) (cycles : ℕ) (text name : List ℕ) → IsSimRun setup netlist cycles text name (world loaded out) after result
      → IsSimRun setup netlist cycles text name (world first out) after result
  run_all setup netlist cycles text name r = record {
    either = r.either;
    whole = λ h. let w = r.whole h in (saves_all name text w.0, record { some = w.1.some; all = w.1.all });
    part = λ h. part_all setup netlist cycles text name (r.part h);
  }

  module _ (rules : List StatedRule) (devices : List Says) (design_file : List ℕ) where
    pub stimulus_all : (stimulus_file name : List ℕ) → StimulusRuns rules devices design_file stimulus_file name (world loaded out) after result
        → StimulusRuns rules devices design_file stimulus_file name (world first out) after result
    stimulus_all stimulus_file name (no_memory_to_run m) = no_memory_to_run (no_memory_all m)
    stimulus_all stimulus_file name (bad_line failure f same p) = bad_line failure f (same_all same) p
    stimulus_all stimulus_file name (few_line none lt same p) = few_line none lt (same_all same) p
    stimulus_all stimulus_file name (ran setup cycles netlist text is r) =
        ran setup cycles netlist text is (run_all setup netlist cycles text name r)

    pub load_all : (stimulus name : List ℕ) → LoadRuns rules devices design_file stimulus name (world loaded out) after result
        → LoadRuns rules devices design_file stimulus name (world first out) after result
    load_all stimulus name (no_memory_to_load m) = no_memory_to_load (no_memory_all m)
    load_all stimulus name (unread rose same p) = unread (loads_rose stimulus rose) (same_all same) p
    load_all stimulus name (read bytes l runs) = read bytes (loaded_all most_stimulus_loaded stimulus bytes l) (stimulus_all bytes name runs)

-- ---- the whole run

module _ (rules : List StatedRule) (devices : List Says) (names : SimFiles) (before after : World) (result : Status) where
  -- a line that is due was cut off
  cut_line : (line : List ℕ) (wanted : Status) → SameContent before.files after.files → DueSimLine rules (length devices) names before after line
      → result ≡ WriteFailed → Printed line wanted result before.out after.out → SimAnswered rules devices names before after result
  unfolding SimAnswered
  cut_line line wanted same due r p =
      let part = p.part r in
      rw r (on_line same (part.0, (line, due, part.1)))

  module _ (design_file : List ℕ) (has : HasPassed rules names.design before design_file) where
    module _ (stimulus_file : List ℕ) (l : IsLoaded most_stimulus_loaded names.stimulus before stimulus_file) where
      are_loaded : AreLoaded rules names before design_file stimulus_file
      are_loaded = record { passed = has; loaded = l }

      on_bad : (failure : Failure) → stimulus_failure rules design_file stimulus_file ≡ Some failure → SameContent before.files after.files
          → Printed (line_of (BadStimulus failure.number failure.subject)) (BadStimulus failure.number failure.subject) result before.out after.out
          → (result ≡ BadStimulus failure.number failure.subject) ⊎ (result ≡ WriteFailed) → SimAnswered rules devices names before after result
      unfolding SimAnswered
      on_bad failure f same p (inl r) = rw r (design_file, (stimulus_file, are_loaded, f, same, p.whole (λ w. (cc))))
      on_bad failure f same p (inr r) =
          cut_line (line_of (BadStimulus failure.number failure.subject)) (BadStimulus failure.number failure.subject) same
          (bad design_file stimulus_file failure are_loaded f refl) r p

      on_few : stimulus_failure rules design_file stimulus_file ≡ None → length devices < devices_needed rules design_file → SameContent before.files after.files
          → Printed (line_of (NoDevice (devices_needed rules design_file) (length devices))) (NoDevice (devices_needed rules design_file) (length devices)) result before.out after.out
          → (result ≡ NoDevice (devices_needed rules design_file) (length devices)) ⊎ (result ≡ WriteFailed) → SimAnswered rules devices names before after result
      unfolding SimAnswered
      on_few none lt same p (inl r) = rw r (design_file, (stimulus_file, are_loaded, none, refl, refl, lt, same, p.whole (λ w. (cc))))
      on_few none lt same p (inr r) =
          cut_line (line_of (NoDevice (devices_needed rules design_file) (length devices))) (NoDevice (devices_needed rules design_file) (length devices)) same
          (few design_file stimulus_file are_loaded none lt refl) r p

      module _ (setup : Setup) (cycles : ℕ) (netlist : Netlist) (text : List ℕ) (is : IsSimulation rules devices design_file stimulus_file setup cycles netlist text) where
        simulated : IsSimulated rules devices names before setup cycles netlist text
        simulated = record { design_file = design_file; stimulus_file = stimulus_file; loaded = are_loaded; is = is }

        on_part : result ≡ WriteFailed
            → (SavesRose names.text before.files after.files × NothingPrinted before after)
            ⊎ (Saves names.text text before.files after.files × Rose before.out.faults after.out.faults
            × (AllGood setup netlist cycles → WritesPart (trace_text setup cycles) before.out after.out))
            → SimAnswered rules devices names before after result
        unfolding SimAnswered
        on_part r (inl h) = rw r (unsaved setup cycles netlist text simulated h.0 h.1)
        on_part r (inr h) = rw r (saved setup cycles netlist text simulated h.0 h.1 h.2)

        on_run : IsSimRun setup netlist cycles text names.text before after result → (result ≡ Done) ⊎ (result ≡ WriteFailed) → SimAnswered rules devices names before after result
        unfolding SimAnswered
        on_run s (inl r) = let whole = s.whole r in rw r (setup, (cycles, (netlist, (text, simulated, whole.0, whole.1))))
        on_run s (inr r) = on_part r (s.part r)

      on_stimulus : StimulusRuns rules devices design_file stimulus_file names.text before after result → SimAnswered rules devices names before after result
      unfolding SimAnswered
      on_stimulus (no_memory_to_run m) = rw m.status (m.files, m.printed)
      on_stimulus (bad_line failure f same p) = on_bad failure f same p p.either
      on_stimulus (few_line none lt same p) = on_few none lt same p p.either
      on_stimulus (ran setup cycles netlist text is r) = on_run setup cycles netlist text is r r.either

    on_unread : LoadsRose names.stimulus before.files after.files → SameContent before.files after.files → Printed (line_of ReadFailed) ReadFailed result before.out after.out
        → (result ≡ ReadFailed) ⊎ (result ≡ WriteFailed) → SimAnswered rules devices names before after result
    unfolding SimAnswered
    on_unread rose same p (inl r) = rw r (same, no_stimulus_read design_file has rose, p.whole (λ w. (cc)))
    on_unread rose same p (inr r) = cut_line (line_of ReadFailed) ReadFailed same (no_stimulus design_file has rose refl) r p

    on_load : LoadRuns rules devices design_file names.stimulus names.text before after result → SimAnswered rules devices names before after result
    unfolding SimAnswered
    on_load (no_memory_to_load m) = rw m.status (m.files, m.printed)
    on_load (unread rose same p) = on_unread rose same p p.either
    on_load (read bytes l runs) = on_stimulus bytes l runs

  on_refusal : (bytes : List ℕ) (failure : Failure) → IsLoaded most_loaded names.design before bytes → build_failure rules bytes ≡ Some failure → SameContent before.files after.files
      → Printed (line_of (answer_of (Some failure))) (answer_of (Some failure)) result before.out after.out
      → (result ≡ answer_of (Some failure)) ⊎ (result ≡ WriteFailed) → SimAnswered rules devices names before after result
  unfolding SimAnswered
  on_refusal bytes failure l f same p (inl r) = rw r (bytes, l, f, same, p.whole (λ w. (cc)))
  on_refusal bytes failure l f same p (inr r) =
      cut_line (line_of (answer_of (Some failure))) (answer_of (Some failure)) same (fails bytes failure l f refl) r p

  on_line_of : SameContent before.files after.files → LoadsRose names.design before.files after.files → Printed (line_of ReadFailed) ReadFailed result before.out after.out
      → (result ≡ ReadFailed) ⊎ (result ≡ WriteFailed) → SimAnswered rules devices names before after result
  unfolding SimAnswered
  on_line_of same rose p (inl r) = rw r (same, no_design_read rose, p.whole (λ w. (cc)))
  on_line_of same rose p (inr r) = cut_line (line_of ReadFailed) ReadFailed same (no_design rose refl) r p

  pub on_read_failed : SameContent before.files after.files → LoadsRose names.design before.files after.files → Printed (line_of ReadFailed) ReadFailed result before.out after.out
      → SimAnswered rules devices names before after result
  on_read_failed same rose p = on_line_of same rose p p.either

pub on_memory : (rules : List StatedRule) (devices : List Says) (names : SimFiles) (before after : World) → SameContent before.files after.files
    → after.out.written ≡ before.out.written → SimAnswered rules devices names before after Memory
unfolding SimAnswered
on_memory rules devices names before after same kept = (same, kept)

-- a run on the bytes of a design file, behind its load
pub on_design : (rules : List StatedRule) (devices : List Says) (names : SimFiles) (first loaded : FilesSeen) (out : OutSeen) (after : World) (result : Status)
    (kept : SameContent first loaded) (loads : NoneFell first.loads loaded.loads) (saves : NoneFell first.saves loaded.saves) (bytes : List ℕ)
    → IsLoaded most_loaded names.design (world first out) bytes → SimRuns rules devices bytes names.stimulus names.text (world loaded out) after result
    → SimAnswered rules devices names (world first out) after result
unfolding SimAnswered
on_design rules devices names first loaded out after result kept loads saves bytes l (no_memory_to_check m) =
    let all : HasNoMemory (world first out) after result = no_memory_all first loaded out after result kept loads saves m in
    rw m.status (all.files, all.printed)
on_design rules devices names first loaded out after result kept loads saves bytes l (refused failure f same p) =
    on_refusal rules devices names (world first out) after result bytes failure l f (same_all first loaded out after result kept loads saves same) p p.either
on_design rules devices names first loaded out after result kept loads saves bytes l (passed passes runs) =
    on_load rules devices names (world first out) after result bytes (record { loaded = l; passes = passes })
    (load_all first loaded out after result kept loads saves rules devices bytes names.stimulus names.text runs)
