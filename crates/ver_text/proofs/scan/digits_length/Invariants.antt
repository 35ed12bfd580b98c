use Rattle.std.proofs.Common.{◌≡◌, ◌+◌, drop}
use Rattle.std.specs.List.{prefix_len}
use Rattle.ver_text.specs.Lexemes.{is_digit}
use Rattle.ver_text.proofs.scan.digits_length.Given as goal

abbrev pub invariant-loop-byte : goal.invariant-loop-byte
invariant-loop-byte l = record {
  at : l.count ≡ l.byte-index;
  length : l.count + prefix_len is_digit (drop l.count l.text) ≡ prefix_len is_digit l.text;
}
