-- A run of `read` on what was loaded, or on a load that failed, as the answer of the command.
use Rattle.std.proofs.Common.{ℕ, ◌≡◌, ◌≤◌, ◌<◌, ◌⊎◌, inl, inr, List, length, Bool, true, false, Result, Ok, Err, refl, sym, ap, arith}
use Rattle.std.specs.Prelude.{nat_lt, cond}
use Rattle.dip_io.specs.Outside.{LoadsRose}
use Rattle.net_cells.specs.declared.netlist.Netlist.{Netlist}
use Rattle.ver_text.specs.Reading.{read_text}
use Rattle.ver_text.proofs.Sound.{read_spells}
use Rattle.ver_text.proofs.Spells.{spelled_read}
use Rattle.soc_report.specs.Lines.{line_of}
use Rattle.soc_report.specs.declared.status.Status.{Status}
use Rattle.soc_report.specs.declared.status.Status.TheVariants.{ReadFailed, WriteFailed, Memory}
use Rattle.soc_top.specs.Texts.{most_text, most_text_loaded, said_by, answer_to, line_said, IsTextOf, IsRefusedAt, too_long, no_netlist}
use Rattle.soc_top.specs.Printing.{Printed, PrintedIfMemory}
use Rattle.soc_top.specs.Worlds.{World, IsLoaded, loaded, read_failed}
use Rattle.soc_top.specs.Answers.{ReadAnswered}

-- ---- what a text says

apart : (r : Result Netlist ℕ) (place : ℕ) (n : Netlist) → r ≡ Err place → r ≡ Ok n → ⊥
apart r place n e k = cc

text_by : (bytes : List ℕ) (n : Netlist) (long : Bool) → nat_lt most_text (length bytes) ≡ long → cond long (Err most_text) (read_text bytes) ≡ Ok n → IsTextOf bytes n
text_by bytes n true h e = absurd (apart (Err most_text) most_text n refl e)
text_by bytes n false h e =
    let within : length bytes ≤ most_text = grind arith in
    record { within = within; spells = read_spells bytes n (omega arith) e }

-- what is read within the limit is spelled
pub text_of : (bytes : List ℕ) (n : Netlist) → said_by bytes ≡ Ok n → IsTextOf bytes n
unfolding said_by
text_of bytes n e = text_by bytes n (nat_lt most_text (length bytes)) refl e

refused_by : (bytes : List ℕ) (place : ℕ) (long : Bool) → nat_lt most_text (length bytes) ≡ long
    → cond long (Err most_text) (read_text bytes) ≡ Err place → IsRefusedAt bytes place
refused_by bytes place true h e = too_long (grind arith) (cc)
refused_by bytes place false h e = no_netlist (grind arith) (λ n s. apart (read_text bytes) place n e (spelled_read bytes n s)) e

-- what isn't read is refused
pub refused_at : (bytes : List ℕ) (place : ℕ) → said_by bytes ≡ Err place → IsRefusedAt bytes place
unfolding said_by
refused_at bytes place e = refused_by bytes place (nat_lt most_text (length bytes)) refl e

said_within : (bytes : List ℕ) (r : Result Netlist ℕ) (long : Bool) → nat_lt most_text (length bytes) ≡ long → length bytes ≤ most_text
    → read_text bytes ≡ r → cond long (Err most_text) (read_text bytes) ≡ r
said_within bytes r true h w e = absurd (grind arith)
said_within bytes r false h w e = e

-- a text within the limit says what is read of it
pub within_said : (bytes : List ℕ) (r : Result Netlist ℕ) → length bytes ≤ most_text → read_text bytes ≡ r → said_by bytes ≡ r
unfolding said_by
within_said bytes r w e = said_within bytes r (nat_lt most_text (length bytes)) refl w e

said_beyond : (bytes : List ℕ) (long : Bool) → nat_lt most_text (length bytes) ≡ long → most_text < length bytes
    → cond long (Err most_text) (read_text bytes) ≡ Err most_text
said_beyond bytes true h w = refl
said_beyond bytes false h w = absurd (grind arith)

-- a longer one is refused at the limit
pub beyond_said : (bytes : List ℕ) → most_text < length bytes → said_by bytes ≡ Err most_text
unfolding said_by
beyond_said bytes w = said_beyond bytes (nat_lt most_text (length bytes)) refl w

-- ---- the run

module _ (name : List ℕ) (before after : World) (result : Status) where
  printed : (bytes : List ℕ) (said : Result Netlist ℕ) → said ≡ said_by bytes → IsLoaded most_text_loaded name before bytes
      → Printed (line_said said) (answer_to said) result before.out after.out
      → (result ≡ answer_to said) ⊎ (result ≡ WriteFailed) → ReadAnswered name before after result
  unfolding ReadAnswered
  printed bytes (Ok n) f l p (inl r) = rw r (bytes, (n, l, text_of bytes n (sym f), p.whole (λ h. (cc))))
  printed bytes (Err place) f l p (inl r) = rw r (bytes, l, refused_at bytes place (sym f), p.whole (λ h. (cc)))
  printed bytes said f l p (inr r) =
      let part = p.part r in
      rw r (part.0, (line_said said, loaded bytes l (ap line_said f), part.1))

  pub on_bytes : (bytes : List ℕ) → IsLoaded most_text_loaded name before bytes
      → PrintedIfMemory (line_said (said_by bytes)) (answer_to (said_by bytes)) result before.out after.out → ReadAnswered name before after result
  unfolding ReadAnswered
  on_bytes bytes l (inl m) = rw m.0 m.1
  on_bytes bytes l (inr p) = printed bytes (said_by bytes) refl l p p.either

  line : LoadsRose name before.files after.files → Printed (line_of ReadFailed) ReadFailed result before.out after.out
      → (result ≡ ReadFailed) ⊎ (result ≡ WriteFailed) → ReadAnswered name before after result
  unfolding ReadAnswered
  line rose p (inl r) = rw r (rose, p.whole (λ h. (cc)))
  line rose p (inr r) = let part = p.part r in rw r (part.0, (line_of ReadFailed, read_failed rose refl, part.1))

  pub on_read_failed : LoadsRose name before.files after.files → Printed (line_of ReadFailed) ReadFailed result before.out after.out
      → ReadAnswered name before after result
  on_read_failed rose p = line rose p p.either

pub on_memory : (name : List ℕ) (before after : World) → after.out.written ≡ before.out.written → ReadAnswered name before after Memory
unfolding ReadAnswered
on_memory name before after kept = kept
