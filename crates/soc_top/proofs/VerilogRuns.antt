-- A run of `verilog` on what was loaded, or on a load that failed, as the answer of the command.
use Rattle.std.proofs.Common.{ℕ, ◌≡◌, ◌∙◌, ◌⊎◌, inl, inr, List, Some, None, Ok, refl, ap, arith}
use Rattle.std.specs.Option.{option_map}
use Rattle.dip_lists.specs.First.{Failure, failure_of}
use Rattle.dip_io.specs.Outside.{FilesSeen, OutSeen, LoadsRose, NoneFell, SameContent, Saves, SavesRose, Rose}
use Rattle.dip_rule.specs.Stated.{StatedRule}
use Rattle.net_cells.specs.declared.netlist.Netlist.{Netlist}
use Rattle.ver_text.specs.Reading.{read_text}
use Rattle.ver_text.specs.Spelling.{layout}
use Rattle.ver_text.specs.TextLaw.{Spells}
use Rattle.soc_report.specs.Lines.{line_of}
use Rattle.soc_report.specs.NetlistLine.{netlist_line}
use Rattle.soc_report.specs.declared.status.Status.{Status}
use Rattle.soc_report.specs.declared.status.Status.TheVariants.{Done, Refused, ReadFailed, WriteFailed, Memory}
use Rattle.soc_top.specs.Designs.{answer_of}
use Rattle.soc_top.specs.Netlists.{build_failure, IsNetlistOfFile, IsVerilogOf}
use Rattle.soc_top.specs.Printing.{Printed}
use Rattle.soc_top.specs.Words.{BuildFiles}
use Rattle.soc_top.specs.Worlds.{World, world, most_loaded, IsLoaded, WasCutOff, NothingPrinted}
use Rattle.soc_top.specs.Building.{not_loaded, fails, IsBuiltFrom, on_line, unsaved, saved, IsSaved, HasNoMemory, SavesNetlist, BuildRuns, no_memory, refused, built}
use Rattle.soc_top.specs.Answers.{VerilogAnswered}

-- ---- the parts of a run

-- a save that failed
pub save_failed : (netlist : Netlist) (text name : List ℕ) (files after : FilesSeen) (out : OutSeen) → SavesRose name files after
    → IsSaved netlist text name (world files out) (world after out) WriteFailed
save_failed netlist text name files after out rose = record {
  either = inr refl;
  whole = λ h. absurd (cc);
  part = λ h. inl (rose, refl);
}

-- a save, and then the line or a part of it
pub save_passed : (netlist : Netlist) (text name : List ℕ) (before after : World) (result : Status) → Saves name text before.files after.files
    → Printed (netlist_line netlist) Done result before.out after.out → IsSaved netlist text name before after result
save_passed netlist text name before after result saves p = record {
  either = p.either;
  whole = λ h. (saves, p.whole (λ w. (cc)));
  part = λ h. let part = p.part h in inr (saves, (part.0, (netlist_line netlist, refl, part.1)));
}

pub want_of_memory : (files : FilesSeen) (out : OutSeen) → HasNoMemory (world files out) (world files out) Memory
want_of_memory files out = record { status = refl; printed = refl; files = λ name. refl }

-- the printed text of a netlist of a file
pub is_verilog : (rules : List StatedRule) (bytes : List ℕ) (netlist : Netlist) → IsNetlistOfFile rules bytes netlist → Spells (layout netlist) netlist
    → read_text (layout netlist) ≡ Ok netlist → IsVerilogOf rules bytes netlist (layout netlist)
is_verilog rules bytes netlist h spells read = record { stated = h; laid_out = refl; spells = spells; read = read }

module _ (rules : List StatedRule) (bytes name : List ℕ) (before after : World) (result : Status) where
  pub run_built : (netlist : Netlist) (text : List ℕ) → build_failure rules bytes ≡ None → IsVerilogOf rules bytes netlist text
      → SavesNetlist netlist text name before after result → BuildRuns rules bytes name before after result
  run_built netlist text passes is (inl m) = no_memory m
  run_built netlist text passes is (inr s) = built netlist text passes is s

  -- the check that the line names is the one that was found
  pub run_refused : (number subject check place : ℕ) → build_failure rules bytes ≡ Some (failure_of number subject) → check ≡ number → place ≡ subject
      → SameContent before.files after.files → Printed (line_of (Refused check place)) (Refused check place) result before.out after.out
      → BuildRuns rules bytes name before after result
  run_refused number subject check place found same_check same_place same p =
      let f : build_failure rules bytes ≡ Some (failure_of check place) = rw same_check (rw same_place found) in
      refused (failure_of check place) f same p

-- ---- the whole run

module _ (rules : List StatedRule) (names : BuildFiles) (first loaded : FilesSeen) (out : OutSeen) (after : World) (result : Status)
    (kept : SameContent first loaded) (counted : NoneFell first.saves loaded.saves) where
  same_all : SameContent loaded after.files → SameContent first after.files
  same_all h name = h name ∙ kept name

  saves_all : (text : List ℕ) → Saves names.text text loaded after.files → Saves names.text text first after.files
  saves_all text h = h ∙ ap (option_map (λ _. Some text)) (kept names.text)

  rose_all : Rose (loaded.saves names.text) (after.files.saves names.text) → Rose (first.saves names.text) (after.files.saves names.text)
  rose_all (inl more) = let low = counted names.text in inl (omega arith)
  rose_all (inr last) = inr last

  module _ (bytes : List ℕ) (l : IsLoaded most_loaded names.design (world first out) bytes) where
    on_refusal : (failure : Failure) → build_failure rules bytes ≡ Some failure → SameContent loaded after.files
        → Printed (line_of (answer_of (Some failure))) (answer_of (Some failure)) result out after.out
        → (result ≡ answer_of (Some failure)) ⊎ (result ≡ WriteFailed) → VerilogAnswered rules names (world first out) after result
    unfolding VerilogAnswered
    on_refusal failure f same p (inl r) = rw r (bytes, l, f, same_all same, p.whole (λ w. (cc)))
    on_refusal failure f same p (inr r) =
        let part = p.part r in
        rw r (on_line (same_all same) (part.0, (line_of (answer_of (Some failure)), fails bytes failure l f refl, part.1)))

    module _ (netlist : Netlist) (text : List ℕ) (passes : build_failure rules bytes ≡ None) (is : IsVerilogOf rules bytes netlist text) where
      is_built : IsBuiltFrom rules names.design (world first out) netlist text
      is_built = record { bytes = bytes; loaded = l; passes = passes; is = is }

      on_part : result ≡ WriteFailed
          → (SavesRose names.text loaded after.files × NothingPrinted (world loaded out) after)
          ⊎ (Saves names.text text loaded after.files × WasCutOff (λ line. line ≡ netlist_line netlist) (world loaded out) after)
          → VerilogAnswered rules names (world first out) after result
      unfolding VerilogAnswered
      on_part r (inl h) = rw r (unsaved netlist text is_built (rose_all h.0) h.1)
      on_part r (inr h) = rw r (saved netlist text is_built (saves_all text h.0) h.1)

      on_netlist : IsSaved netlist text names.text (world loaded out) after result → (result ≡ Done) ⊎ (result ≡ WriteFailed)
          → VerilogAnswered rules names (world first out) after result
      unfolding VerilogAnswered
      on_netlist s (inl r) = let whole = s.whole r in rw r (netlist, (text, is_built, saves_all text whole.0, whole.1))
      on_netlist s (inr r) = on_part r (s.part r)

    pub on_bytes : BuildRuns rules bytes names.text (world loaded out) after result → VerilogAnswered rules names (world first out) after result
    unfolding VerilogAnswered
    on_bytes (no_memory m) = rw m.status (same_all m.files, m.printed)
    on_bytes (refused failure f same p) = on_refusal failure f same p p.either
    on_bytes (built netlist text passes is s) = on_netlist netlist text passes is s s.either

module _ (rules : List StatedRule) (names : BuildFiles) (before after : World) (result : Status) (same : SameContent before.files after.files) where
  on_line_of : LoadsRose names.design before.files after.files → Printed (line_of ReadFailed) ReadFailed result before.out after.out
      → (result ≡ ReadFailed) ⊎ (result ≡ WriteFailed) → VerilogAnswered rules names before after result
  unfolding VerilogAnswered
  on_line_of rose p (inl r) = rw r (same, (rose, p.whole (λ w. (cc))))
  on_line_of rose p (inr r) = let part = p.part r in rw r (on_line same (part.0, (line_of ReadFailed, not_loaded rose refl, part.1)))

  pub on_read_failed : LoadsRose names.design before.files after.files → Printed (line_of ReadFailed) ReadFailed result before.out after.out
      → VerilogAnswered rules names before after result
  on_read_failed rose p = on_line_of rose p p.either

pub on_memory : (rules : List StatedRule) (names : BuildFiles) (before after : World) → SameContent before.files after.files
    → after.out.written ≡ before.out.written → VerilogAnswered rules names before after Memory
unfolding VerilogAnswered
on_memory rules names before after same kept = (same, kept)
