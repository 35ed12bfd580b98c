use Rattle.std.proofs.Common.{◌≡◌, ◌+◌, drop}
use Rattle.std.specs.List.{prefix_len}
use Rattle.dip_sets.specs.Names.{is_name_byte}
use Rattle.ver_text.proofs.scan.word_length.Given as goal

abbrev pub invariant-loop-byte : goal.invariant-loop-byte
invariant-loop-byte l = record {
  at : l.count ≡ l.byte-index;
  length : l.count + prefix_len is_name_byte (drop l.count l.text) ≡ prefix_len is_name_byte l.text;
}
