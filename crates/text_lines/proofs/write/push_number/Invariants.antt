use Rattle.std.proofs.Common.{◌≡◌, ◌+◌, ◌≤◌, ◌++◌, vec_capacity, vec_len}
use Rattle.text_lines.specs.Hex.{hex_text}
use Rattle.text_lines.proofs.write.push_number.Given as goal

-- there is room for the digits that are left
abbrev pub invariant-loop-left : goal.invariant-loop-left
invariant-loop-left l = record {
  whole : l.out.items ++ hex_text l.left l.number ≡ l.initial.out.items ++ hex_text l.count l.number;
  left : l.left ≤ l.count;
  room : vec_len l.out + l.left ≤ vec_capacity l.out;
}

abbrev pub decreases-loop-left : goal.decreases-loop-left
decreases-loop-left l = l.left
