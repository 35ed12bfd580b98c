-- The answers of the commands as those of a run, whatever its words.
use Rattle.std.proofs.Common.{ℕ, ◌≡◌, ◌≢◌, ◌<◌, ◌≤◌, ◌⊎◌, inl, inr, List, [], ◌∷◌, Bool, true, false, Option, Some, None, Ok, Err, refl, sym, subst, ◌∙◌, ap, take, drop, length, arith}
use Rattle.std.specs.Prelude.{◌&&◌, cond, codes, nat_lt}
use Rattle.std.specs.Option.{option_map, option_or}
use Rattle.std.specs.Str.{bytes_eq}
use Rattle.std.proofs.lemmas.Slice.Eq.{bytes_eq-Decides}
use Rattle.dip_lists.specs.First.{Failure, failure_of}
use Rattle.dip_io.specs.Outside.{Told, AreFirst, LoadsRose, Rose, SavesRose}
use Rattle.dip_rule.specs.Stated.{StatedRule}
use Rattle.sim_ports.specs.Devices.{Says}
use Rattle.ver_text.proofs.Spells.{spelled_read}
use Rattle.soc_report.specs.Lines.{line_of}
use Rattle.soc_report.specs.declared.status.Status.{Status}
use Rattle.soc_report.specs.declared.status.Status.TheVariants.{Done, Refused, Usage, ReadFailed, WriteFailed, BadStimulus, Memory, NoDevice, BadText}
use Rattle.soc_top.specs.Words.{BuildFiles, SimFiles, is_file_name, file_of, files_of, three_of, design_named, text_named, build_named, sim_named, saved_named}
use Rattle.soc_top.specs.Designs.{first_failure, answer_of, called_for}
use Rattle.soc_top.specs.Netlists.{build_failure, IsVerilogOf}
use Rattle.soc_top.specs.Texts.{most_text_loaded, said_by, answer_to, line_said, IsRefusedAt, too_long, no_netlist}
use Rattle.soc_top.specs.Printing.{Printed}
use Rattle.soc_top.specs.Worlds.{World, most_loaded, IsLoaded}
use Rattle.soc_top.specs.Building.{WasHalted}
use Rattle.soc_top.specs.Building as build
use Rattle.soc_top.specs.Stimuli.{answer_by_checks, answer_by_devices, devices_needed, most_stimulus_loaded, simulated, stimulus_failure}
use Rattle.soc_top.specs.Simulating.{WasStopped, on_line, unsaved, saved, WasUnread, no_design_read, no_stimulus_read}
use Rattle.soc_top.specs.Answers.{MapAnswered, ReadAnswered, VerilogAnswered, SimAnswered, UsageAnswered, Answered, Completed, AnsweredBy, BuiltBy, IsShown, SimulatedBy}
use Rattle.soc_top.proofs.ReadRuns.{within_said, beyond_said}

-- what was appended to nothing
pub loaded : (max : ℕ) (told : Told) (before after slice : List ℕ) → before ≡ [] → slice ≡ after → AreFirst max told (drop (length before) after) → AreFirst max told slice
loaded max told before after slice b s h = rw s (rw b at h)

-- the same by rules that state the same
pub answered_by : {a b : List StatedRule} {devices : List Says} {words : List (List ℕ)} {before after : World} {result : Status} → a ≡ b
    → Answered a devices words before after result → Answered b devices words before after result
answered_by {a} {b} {devices} {words} {before} {after} {result} same h = subst (λ rules. Answered rules devices words before after result) same h

-- ---- the form of the words

same_some : (a b : List ℕ) → Some a ≡ Some b → a ≡ b
same_some a b e = cc

one_name : (found : Option (List ℕ)) (a b : List ℕ) → found ≡ Some a → found ≡ Some b → a ≡ b
one_name found a b e k = cc

command_by : (word command : List ℕ) (is_command is_name : Bool) (name a : List ℕ) → bytes_eq word command ≡ is_command
    → cond (is_command && is_name) (Some name) None ≡ Some a → bytes_eq word command ≡ true
command_by word command true is_name name a h e = h
command_by word command false is_name name a h e = cc

-- words with a file have one command
one_command : (c d : List ℕ) (words : List (List ℕ)) (a b : List ℕ) → file_of c words ≡ Some a → file_of d words ≡ Some b → c ≡ d
one_command c d [] a b e k = cc
one_command c d (word ∷ []) a b e k = cc
one_command c d (word ∷ name ∷ []) a b e k =
    let first : word ≡ c = (bytes_eq-Decides word c).0 (command_by word c (bytes_eq word c) (is_file_name name) name a refl e) in
    let second : word ≡ d = (bytes_eq-Decides word d).0 (command_by word d (bytes_eq word d) (is_file_name name) name b refl k) in
    sym first ∙ second
one_command c d (word ∷ name ∷ more ∷ words) a b e k = cc

two_commands : codes "map" ≡ codes "read" → ⊥
two_commands e = cc

not_both : (words : List (List ℕ)) (a b : List ℕ) → design_named words ≡ Some a → text_named words ≡ Some b → ⊥
not_both words a b e k = two_commands (one_command (codes "map") (codes "read") words a b e k)

-- words with one file haven't two
one_form : (c d : List ℕ) (words : List (List ℕ)) (a : List ℕ) (names : BuildFiles) → file_of c words ≡ Some a → files_of d words ≡ Some names → ⊥
one_form c d [] a names e k = cc
one_form c d (word ∷ []) a names e k = cc
one_form c d (word ∷ name ∷ []) a names e k = cc
one_form c d (word ∷ name ∷ text ∷ []) a names e k = cc
one_form c d (word ∷ name ∷ text ∷ more ∷ words) a names e k = cc

same_files : (found : Option BuildFiles) (a b : BuildFiles) → found ≡ Some a → found ≡ Some b → a ≡ b
same_files found a b e k = cc

no_files : (found : Option BuildFiles) (a : BuildFiles) → found ≡ Some a → found ≡ None → ⊥
no_files found a e k = cc

nothing_found : (found : Option (List ℕ)) (a : List ℕ) → found ≡ Some a → found ≡ None → ⊥
nothing_found found a e k = cc

-- words with one file haven't three
one_or_three : (c d : List ℕ) (words : List (List ℕ)) (a : List ℕ) (names : SimFiles) → file_of c words ≡ Some a → three_of d words ≡ Some names → ⊥
one_or_three c d [] a names e k = cc
one_or_three c d (word ∷ []) a names e k = cc
one_or_three c d (word ∷ name ∷ []) a names e k = cc
one_or_three c d (word ∷ name ∷ more ∷ words) a names e k = cc

-- and words with two haven't three
two_or_three : (c d : List ℕ) (words : List (List ℕ)) (a : BuildFiles) (names : SimFiles) → files_of c words ≡ Some a → three_of d words ≡ Some names → ⊥
two_or_three c d [] a names e k = cc
two_or_three c d (word ∷ []) a names e k = cc
two_or_three c d (word ∷ design ∷ []) a names e k = cc
two_or_three c d (word ∷ design ∷ text ∷ []) a names e k = cc
two_or_three c d (word ∷ design ∷ text ∷ more ∷ words) a names e k = cc

same_three : (found : Option SimFiles) (a b : SimFiles) → found ≡ Some a → found ≡ Some b → a ≡ b
same_three found a b e k = cc

no_three : (found : Option SimFiles) (a : SimFiles) → found ≡ Some a → found ≡ None → ⊥
no_three found a e k = cc

module _ (rules : List StatedRule) (devices : List Says) (words : List (List ℕ)) (before after : World) (result : Status) where
  pub of_map : (name : List ℕ) → design_named words ≡ Some name → MapAnswered rules name before after result → Answered rules devices words before after result
  of_map name e h = record {
    map = λ other k. subst (λ n. MapAnswered rules n before after result) (one_name (design_named words) name other e k) h;
    read = λ other k. absurd (not_both words name other e k);
    verilog = λ names k. absurd (one_form (codes "map") (codes "verilog") words name names e k);
    sim = λ names k. absurd (one_or_three (codes "map") (codes "sim") words name names e k);
    usage = λ none. absurd (nothing_found (design_named words) name e none.design);
  }

  pub of_read : (name : List ℕ) → text_named words ≡ Some name → ReadAnswered name before after result → Answered rules devices words before after result
  of_read name e h = record {
    map = λ other k. absurd (not_both words other name k e);
    read = λ other k. subst (λ n. ReadAnswered n before after result) (one_name (text_named words) name other e k) h;
    verilog = λ names k. absurd (one_form (codes "read") (codes "verilog") words name names e k);
    sim = λ names k. absurd (one_or_three (codes "read") (codes "sim") words name names e k);
    usage = λ none. absurd (nothing_found (text_named words) name e none.text);
  }

  pub of_verilog : (names : BuildFiles) → build_named words ≡ Some names → VerilogAnswered rules names before after result → Answered rules devices words before after result
  of_verilog names e h = record {
    map = λ name k. absurd (one_form (codes "map") (codes "verilog") words name names k e);
    read = λ name k. absurd (one_form (codes "read") (codes "verilog") words name names k e);
    verilog = λ other k. subst (λ n. VerilogAnswered rules n before after result) (same_files (build_named words) names other e k) h;
    sim = λ other k. absurd (two_or_three (codes "verilog") (codes "sim") words names other e k);
    usage = λ none. absurd (no_files (build_named words) names e none.files);
  }

  pub of_sim : (names : SimFiles) → sim_named words ≡ Some names → SimAnswered rules devices names before after result → Answered rules devices words before after result
  of_sim names e h = record {
    map = λ name k. absurd (one_or_three (codes "map") (codes "sim") words name names k e);
    read = λ name k. absurd (one_or_three (codes "read") (codes "sim") words name names k e);
    verilog = λ other k. absurd (two_or_three (codes "verilog") (codes "sim") words other names k e);
    sim = λ other k. subst (λ n. SimAnswered rules devices n before after result) (same_three (sim_named words) names other e k) h;
    usage = λ none. absurd (no_three (sim_named words) names e none.three);
  }

  usage_printed : Printed (line_of Usage) Usage result before.out after.out → (result ≡ Usage) ⊎ (result ≡ WriteFailed) → UsageAnswered before after result
  unfolding UsageAnswered
  usage_printed p (inl r) = rw r (p.whole (λ h. (cc)))
  usage_printed p (inr r) = let part = p.part r in rw r (part.0, (line_of Usage, refl, part.1))

  pub of_usage : design_named words ≡ None → text_named words ≡ None → build_named words ≡ None → sim_named words ≡ None
      → Printed (line_of Usage) Usage result before.out after.out → Answered rules devices words before after result
  of_usage d t f three p = record {
    map = λ name k. absurd (nothing_found (design_named words) name k d);
    read = λ name k. absurd (nothing_found (text_named words) name k t);
    verilog = λ names k. absurd (no_files (build_named words) names k f);
    sim = λ names k. absurd (no_three (sim_named words) names k three);
    usage = λ none. usage_printed p p.either;
  }

no_two : (found : Option BuildFiles) → ((names : BuildFiles) → found ≡ Some names → ⊥) → found ≡ None
no_two None h = refl
no_two (Some names) h = absurd (h names refl)

-- a name that isn't the one to be saved
pub other_name : (words : List (List ℕ)) (names : BuildFiles) (name : List ℕ) → build_named words ≡ Some names → saved_named words ≢ Some name → name ≢ names.text
other_name words names name e h same =
    h (ap (λ (found : Option BuildFiles). option_or (option_map (λ (n : BuildFiles). n.text) found) (option_map (λ (n : SimFiles). n.text) (sim_named words))) e
    ∙ ap Some (sym same))

pub other_than_three : (words : List (List ℕ)) (names : SimFiles) (name : List ℕ) → sim_named words ≡ Some names → saved_named words ≢ Some name → name ≢ names.text
other_than_three words names name e h same =
    let none : build_named words ≡ None = no_two (build_named words) (λ other k. two_or_three (codes "verilog") (codes "sim") words other names k e) in
    h (ap (λ (found : Option BuildFiles). option_or (option_map (λ (n : BuildFiles). n.text) found) (option_map (λ (n : SimFiles). n.text) (sim_named words))) none
    ∙ ap (option_map (λ (n : SimFiles). n.text)) e ∙ ap Some (sym same))

-- ---- what comes where a file is told and was loaded

-- what was loaded of a file that is told
whole : (most : ℕ) (name : List ℕ) (before : World) (bytes all : List ℕ) → before.files.content name ≡ Some (Some all) → IsLoaded most name before bytes
    → bytes ≡ take most all
whole most name before bytes all t l = let first = rw t at l in first.1

refused_said : (bytes : List ℕ) (place : ℕ) → IsRefusedAt bytes place → said_by bytes ≡ Err place
refused_said bytes place (too_long w e) = rw e (beyond_said bytes w)
refused_said bytes place (no_netlist w none e) = within_said bytes (Err place) w e

module _ (rules : List StatedRule) (name : List ℕ) (before after : World) where
  map_gives : (result : Status) → MapAnswered rules name before after result → (all : List ℕ) → before.files.content name ≡ Some (Some all)
      → ¬ (LoadsRose name before.files after.files)
      → AnsweredBy (answer_of (first_failure rules (take most_loaded all))) (called_for rules (take most_loaded all)) before after result
  unfolding MapAnswered
  map_gives Done (bytes, l, passes, is_map, written) all t no_load =
      let same : bytes ≡ take most_loaded all = whole most_loaded name before bytes all t l in
      let none : first_failure rules (take most_loaded all) ≡ None = ap (first_failure rules) (sym same) ∙ passes in
      inr (inr (rw none refl, rw none (rw same at written)))
  map_gives (Refused check subject) (bytes, l, fails, written) all t no_load =
      let same : bytes ≡ take most_loaded all = whole most_loaded name before bytes all t l in
      let some : first_failure rules (take most_loaded all) ≡ Some (failure_of check subject) = ap (first_failure rules) (sym same) ∙ fails in
      inr (inr (rw some refl, rw some written))
  map_gives ReadFailed (rose, written) all t no_load = absurd (no_load rose)
  map_gives WriteFailed h all t no_load = inr (inl refl)
  map_gives Memory h all t no_load = inl refl
  map_gives Usage h all t no_load = absurd h
  map_gives (BadText place) h all t no_load = absurd h
  map_gives (BadStimulus rule entry) h all t no_load = absurd h
  map_gives (NoDevice needed given) h all t no_load = absurd h

  read_gives : (result : Status) → ReadAnswered name before after result → (all : List ℕ) → before.files.content name ≡ Some (Some all)
      → ¬ (LoadsRose name before.files after.files)
      → AnsweredBy (answer_to (said_by (take most_text_loaded all))) (line_said (said_by (take most_text_loaded all))) before after result
  unfolding ReadAnswered
  read_gives Done (bytes, (netlist, l, text, written)) all t no_load =
      let same : bytes ≡ take most_text_loaded all = whole most_text_loaded name before bytes all t l in
      let says : said_by (take most_text_loaded all) ≡ Ok netlist =
      ap said_by (sym same) ∙ within_said bytes (Ok netlist) text.within (spelled_read bytes netlist text.spells) in
      inr (inr (rw says refl, rw says written))
  read_gives (BadText place) (bytes, l, refused, written) all t no_load =
      let same : bytes ≡ take most_text_loaded all = whole most_text_loaded name before bytes all t l in
      let says : said_by (take most_text_loaded all) ≡ Err place = ap said_by (sym same) ∙ refused_said bytes place refused in
      inr (inr (rw says refl, rw says written))
  read_gives ReadFailed (rose, written) all t no_load = absurd (no_load rose)
  read_gives WriteFailed h all t no_load = inr (inl refl)
  read_gives Memory h all t no_load = inl refl
  read_gives Usage h all t no_load = absurd h
  read_gives (Refused check subject) h all t no_load = absurd h
  read_gives (BadStimulus rule entry) h all t no_load = absurd h
  read_gives (NoDevice needed given) h all t no_load = absurd h

module _ (rules : List StatedRule) (names : BuildFiles) (before after : World) (all : List ℕ) where
  halted : WasHalted rules names before after → ¬ (SavesRose names.text before.files after.files) → Rose before.out.faults after.out.faults
  halted (build.on_line same cut) no_save = cut.0
  halted (build.unsaved netlist text is rose nothing) no_save = absurd (no_save rose)
  halted (build.saved netlist text is saves cut) no_save = cut.0

  verilog_gives : (result : Status) → VerilogAnswered rules names before after result → before.files.content names.design ≡ Some (Some all)
      → ¬ (LoadsRose names.design before.files after.files) → ¬ (SavesRose names.text before.files after.files)
      → BuiltBy rules names.text (take most_loaded all) before after result
  unfolding VerilogAnswered
  verilog_gives Done (netlist, (text, is, saves, written)) t no_load no_save =
      let same : is.bytes ≡ take most_loaded all = whole most_loaded names.design before is.bytes all t is.loaded in
      let none : build_failure rules (take most_loaded all) ≡ None = ap (build_failure rules) (sym same) ∙ is.passes in
      let text_of_all : IsVerilogOf rules (take most_loaded all) netlist text = subst (λ bytes. IsVerilogOf rules bytes netlist text) same is.is in
      inr (inr (rw none refl, rw none (netlist, (text, text_of_all, saves, written))))
  verilog_gives (Refused check subject) (bytes, l, found, kept, written) t no_load no_save =
      let same : bytes ≡ take most_loaded all = whole most_loaded names.design before bytes all t l in
      let some : build_failure rules (take most_loaded all) ≡ Some (failure_of check subject) = ap (build_failure rules) (sym same) ∙ found in
      inr (inr (rw some refl, rw some (kept, written)))
  verilog_gives ReadFailed (kept, (rose, written)) t no_load no_save = absurd (no_load rose)
  verilog_gives WriteFailed h t no_load no_save = inr (inl (refl, halted h no_save))
  verilog_gives Memory h t no_load no_save = inl refl
  verilog_gives Usage h t no_load no_save = absurd h
  verilog_gives (BadText place) h t no_load no_save = absurd h
  verilog_gives (BadStimulus rule entry) h t no_load no_save = absurd h
  verilog_gives (NoDevice needed given) h t no_load no_save = absurd h

-- ---- two files and devices

module _ (rules : List StatedRule) (devices : List Says) (names : SimFiles) (before after : World) (all given : List ℕ) where
  stopped : WasStopped rules devices names before after → ¬ (SavesRose names.text before.files after.files) → Rose before.out.faults after.out.faults
  stopped (on_line same cut) no_save = cut.0
  stopped (unsaved setup cycles netlist text is rose nothing) no_save = absurd (no_save rose)
  stopped (saved setup cycles netlist text is saves rose part) no_save = rose

  unread : WasUnread rules names before after → ¬ (LoadsRose names.design before.files after.files) → ¬ (LoadsRose names.stimulus before.files after.files) → ⊥
  unread (no_design_read rose) no_design no_stimulus = no_design rose
  unread (no_stimulus_read bytes passed rose) no_design no_stimulus = no_stimulus rose

  -- what two files call for, by what stands of each
  called : (design_file stimulus_file : List ℕ) (check rule : Option Failure) → build_failure rules design_file ≡ check → stimulus_failure rules design_file stimulus_file ≡ rule
      → simulated rules (length devices) design_file stimulus_file ≡ answer_by_checks check rule (devices_needed rules design_file) (length devices)
  unfolding simulated
  called design_file stimulus_file check rule e k =
      ap (λ c. answer_by_checks c (stimulus_failure rules design_file stimulus_file) (devices_needed rules design_file) (length devices)) e
      ∙ ap (λ r. answer_by_checks check r (devices_needed rules design_file) (length devices)) k

  called_refused : (design_file stimulus_file : List ℕ) (failure : Failure) → build_failure rules design_file ≡ Some failure
      → simulated rules (length devices) design_file stimulus_file ≡ answer_of (Some failure)
  called_refused design_file stimulus_file failure e = called design_file stimulus_file (Some failure) (stimulus_failure rules design_file stimulus_file) e refl

  too_few : (needed count : ℕ) → count < needed → answer_by_devices needed count ≡ NoDevice needed count
  too_few needed count h =
      let t : nat_lt count needed ≡ true = grind arith in
      ap (λ few. cond few (NoDevice needed count) Done) t

  enough : (needed count : ℕ) → needed ≤ count → answer_by_devices needed count ≡ Done
  enough needed count h =
      let t : nat_lt count needed ≡ false = grind arith in
      ap (λ few. cond few (NoDevice needed count) Done) t

  module _ (t : before.files.content names.design ≡ Some (Some all)) (u : before.files.content names.stimulus ≡ Some (Some given))
      (no_design : ¬ (LoadsRose names.design before.files after.files)) (no_stimulus : ¬ (LoadsRose names.stimulus before.files after.files))
      (no_save : ¬ (SavesRose names.text before.files after.files)) where
    -- what was loaded is what is told
    loaded_design : (bytes : List ℕ) → IsLoaded most_loaded names.design before bytes → bytes ≡ take most_loaded all
    loaded_design bytes l = whole most_loaded names.design before bytes all t l

    loaded_stimulus : (bytes : List ℕ) → IsLoaded most_stimulus_loaded names.stimulus before bytes → bytes ≡ take most_stimulus_loaded given
    loaded_stimulus bytes l = whole most_stimulus_loaded names.stimulus before bytes given u l

    -- a refusal with its line
    refusal : (result : Status) (design_file stimulus_file : List ℕ) → design_file ≡ take most_loaded all → stimulus_file ≡ take most_stimulus_loaded given
        → simulated rules (length devices) design_file stimulus_file ≡ result
        → IsShown rules devices names.text design_file stimulus_file before after result
        → SimulatedBy rules devices names.text (take most_loaded all) (take most_stimulus_loaded given) before after result
    refusal result design_file stimulus_file e k s h =
        inr (inr (subst (λ (d : List ℕ). (result ≡ simulated rules (length devices) d (take most_stimulus_loaded given)) × IsShown rules devices names.text d (take most_stimulus_loaded given) before after (simulated rules (length devices) d (take most_stimulus_loaded given))) e
        (subst (λ (x : List ℕ). (result ≡ simulated rules (length devices) design_file x) × IsShown rules devices names.text design_file x before after (simulated rules (length devices) design_file x)) k
        (sym s, subst (λ (r : Status). IsShown rules devices names.text design_file stimulus_file before after r) (sym s) h))))

    sim_gives : (result : Status) → SimAnswered rules devices names before after result
        → SimulatedBy rules devices names.text (take most_loaded all) (take most_stimulus_loaded given) before after result
    unfolding SimAnswered
    sim_gives Done (setup, (cycles, (netlist, (text, is, saves, traced)))) =
        let d = is.loaded.passed in
        refusal Done is.design_file is.stimulus_file (loaded_design is.design_file d.loaded) (loaded_stimulus is.stimulus_file is.loaded.loaded)
        (called is.design_file is.stimulus_file None None d.passes is.is.accepts ∙ enough (devices_needed rules is.design_file) (length devices) is.is.enough)
        (setup, (cycles, (netlist, (text, is.is, saves, traced))))
    sim_gives (Refused check subject) (bytes, l, found, kept, written) =
        refusal (Refused check subject) bytes (take most_stimulus_loaded given) (loaded_design bytes l) refl
        (called_refused bytes (take most_stimulus_loaded given) (failure_of check subject) found) (kept, written)
    sim_gives (BadStimulus rule entry) (design_file, (stimulus_file, l, found, kept, written)) =
        refusal (BadStimulus rule entry) design_file stimulus_file (loaded_design design_file l.passed.loaded) (loaded_stimulus stimulus_file l.loaded)
        (called design_file stimulus_file None (Some (failure_of rule entry)) l.passed.passes found) (kept, written)
    sim_gives (NoDevice needed count) (design_file, (stimulus_file, l, none, n, c, lt, kept, written)) =
        refusal (NoDevice needed count) design_file stimulus_file (loaded_design design_file l.passed.loaded) (loaded_stimulus stimulus_file l.loaded)
        (called design_file stimulus_file None None l.passed.passes none ∙ ap (λ (x : ℕ). answer_by_devices x (length devices)) (sym n)
        ∙ ap (λ (x : ℕ). answer_by_devices needed x) (sym c) ∙ too_few needed count lt) (kept, written)
    sim_gives ReadFailed (kept, was, written) = absurd (unread was no_design no_stimulus)
    sim_gives WriteFailed h = inr (inl (refl, stopped h no_save))
    sim_gives Memory h = inl refl
    sim_gives Usage h = absurd h
    sim_gives (BadText place) h = absurd h

usage_gives : (before after : World) (result : Status) → UsageAnswered before after result → (result ≡ WriteFailed) ⊎ (result ≡ Usage)
unfolding UsageAnswered
usage_gives before after Usage h = inr refl
usage_gives before after WriteFailed h = inl refl
usage_gives before after Done h = absurd h
usage_gives before after (Refused check subject) h = absurd h
usage_gives before after ReadFailed h = absurd h
usage_gives before after Memory h = absurd h
usage_gives before after (BadText place) h = absurd h
usage_gives before after (BadStimulus rule entry) h = absurd h
usage_gives before after (NoDevice needed given) h = absurd h

pub completed : (rules : List StatedRule) (devices : List Says) (words : List (List ℕ)) (before after : World) (result : Status)
    → Answered rules devices words before after result → Completed rules devices words before after result
completed rules devices words before after result a = record {
  of_words = λ none. usage_gives before after result (a.usage none);
  of_design = λ name all e. map_gives rules name before after result (a.map name e) all;
  of_text = λ name all e. read_gives rules name before after result (a.read name e) all;
  of_files = λ names all e. verilog_gives rules names before after all result (a.verilog names e);
  of_simulation = λ names all given e t u no_design no_stimulus no_save.
      sim_gives rules devices names before after all given t u no_design no_stimulus no_save result (a.sim names e);
}
