use Rattle.std.proofs.Common.{ℕ, ◌≡◌, ◌≤◌, Option, None, Bool, true, false, ◌&&◌, nat_le, if◌then◌else◌, sym, ◌∙◌, ap, refl, arith}
use Rattle.std.proofs.lemmas.Bool.{false_from_ne_true}
use Rattle.std.proofs.lemmas.Bool.Decides.{nat_tests}
use Rattle.std.proofs.lemmas.Str.{IsUtf8-from_is_utf8, is_utf8-from_IsUtf8}
use Rattle.toml.specs.Data.{Members}
use Rattle.toml.specs.Parse.{parse_document}
use Rattle.soc_stimulus.specs.Limits.{most_stimulus_bytes}
use Rattle.soc_stimulus.proofs.read.stimulus_tree.Goals as goal

no_text : (short : Bool) (text : Bool) (tree : Option Members) → text ≡ false → None ≡ (if short && text then tree else None)
no_text true text tree e = rw e refl
no_text false text tree e = refl

text_read : (short : Bool) (text : Bool) (tree read : Option Members) → short ≡ true → text ≡ true → tree ≡ read → read ≡ (if short && text then tree else None)
text_read short text tree read s t e = rw (s, t) (sym e)

short_enough : (n : ℕ) → n ≤ most_stimulus_bytes → nat_le n most_stimulus_bytes ≡ true
short_enough n h = grind (arith, nat_tests)

pub returns-in_default : goal.returns-in_default
returns-in_default c =
    no_text _ _ _ (false_from_ne_true _ (λ text. c.in_default.ensures.cases.0 (IsUtf8-from_is_utf8 c.args.bytes.now text)))

pub returns-in-Ok-table_from_str : goal.returns-in-Ok-table_from_str
returns-in-Ok-table_from_str c =
    text_read _ _ _ _ (short_enough _ c.if-bytes-gt-MOST_STIMULUS_BYTES.false) (is_utf8-from_IsUtf8 c.args.bytes.now c.in-Ok.ensures.cases.1)
    (ap parse_document (sym c.in-Ok.ensures.cases.0) ∙ c.in-Ok-table_from_str.ensures.ok)
