-- A run of `map` on what was loaded, or on a load that failed, as the answer of the command.
use Rattle.std.proofs.Common.{ℕ, ◌≡◌, ◌⊎◌, inl, inr, List, Option, Some, None, refl, sym, ap}
use Rattle.dip_lists.specs.First.{Failure}
use Rattle.dip_io.specs.Outside.{LoadsRose}
use Rattle.dip_rule.specs.Stated.{StatedRule}
use Rattle.soc_report.specs.Lines.{line_of}
use Rattle.soc_report.specs.declared.status.Status.{Status}
use Rattle.soc_report.specs.declared.status.Status.TheVariants.{Done, ReadFailed, WriteFailed, Memory}
use Rattle.soc_top.specs.Designs.{first_failure, answer_of, called_for, due_text, map_of, IsMapOf}
use Rattle.soc_top.specs.Printing.{Printed, PrintedIfMemory}
use Rattle.soc_top.specs.Worlds.{World, most_loaded, IsLoaded, loaded, read_failed}
use Rattle.soc_top.specs.Answers.{MapAnswered}

module _ (rules : List StatedRule) (name : List ℕ) (before after : World) (result : Status) where
  printed : (bytes : List ℕ) (found : Option Failure) → found ≡ first_failure rules bytes → IsLoaded most_loaded name before bytes
      → Printed (due_text rules bytes found) (answer_of found) result before.out after.out
      → (result ≡ Done → IsMapOf rules bytes (map_of rules bytes)) → (result ≡ answer_of found) ⊎ (result ≡ WriteFailed)
      → MapAnswered rules name before after result
  unfolding MapAnswered
  printed bytes None f l p m (inl r) = rw r (bytes, l, sym f, m r, p.whole (λ w. (cc)))
  printed bytes (Some failure) f l p m (inl r) = rw r (bytes, l, sym f, p.whole (λ w. (cc)))
  printed bytes found f l p m (inr r) =
      let part = p.part r in
      rw r (part.0, (due_text rules bytes found, loaded bytes l (ap (due_text rules bytes) f), part.1))

  pub on_bytes : (bytes : List ℕ) → IsLoaded most_loaded name before bytes
      → PrintedIfMemory (called_for rules bytes) (answer_of (first_failure rules bytes)) result before.out after.out
      → (result ≡ Done → IsMapOf rules bytes (map_of rules bytes)) → MapAnswered rules name before after result
  unfolding MapAnswered
  on_bytes bytes l (inl m) mapped = rw m.0 m.1
  on_bytes bytes l (inr p) mapped = printed bytes (first_failure rules bytes) refl l p mapped p.either

  line : LoadsRose name before.files after.files → Printed (line_of ReadFailed) ReadFailed result before.out after.out
      → (result ≡ ReadFailed) ⊎ (result ≡ WriteFailed) → MapAnswered rules name before after result
  unfolding MapAnswered
  line rose p (inl r) = rw r (rose, p.whole (λ w. (cc)))
  line rose p (inr r) = let part = p.part r in rw r (part.0, (line_of ReadFailed, read_failed rose refl, part.1))

  pub on_read_failed : LoadsRose name before.files after.files → Printed (line_of ReadFailed) ReadFailed result before.out after.out
      → MapAnswered rules name before after result
  on_read_failed rose p = line rose p p.either

pub on_memory : (rules : List StatedRule) (name : List ℕ) (before after : World) → after.out.written ≡ before.out.written → MapAnswered rules name before after Memory
unfolding MapAnswered
on_memory rules name before after kept = kept
