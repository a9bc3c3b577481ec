use Rattle.std.proofs.Common.{◌+◌, ◌*◌, ◌^◌, ◌≤◌}
use Rattle.text_lines.proofs.Digits.{Counted}
use Rattle.text_lines.proofs.hexadecimal.number_of.Given as goal

abbrev pub invariant-loop-byte : goal.invariant-loop-byte
invariant-loop-byte l = record {
  counted : Counted l.case l.word l.byte-index l.number;
  bound : 15 * l.number + 2 ^ 32 ≤ 2 ^ (32 + 4 * l.byte-index);
}
