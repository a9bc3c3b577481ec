use Rattle.std.proofs.Common.{◌≡◌, ◌+◌, ◌≤◌, length}
use Rattle.text_lines.specs.Lines.{lines_of}
use Rattle.cfi_script.specs.ScriptText.{turns_read}
use Rattle.cfi_script.proofs.ScriptTurns.{with_turns}
use Rattle.cfi_script.proofs.script_turns.read_turns.Given as goal

-- the turns so far, and those that are left, are those of the whole text
abbrev pub invariant-loop-turn : goal.invariant-loop-turn
invariant-loop-turn l = record {
  whole : with_turns l.turns.items (turns_read l.harts l.number (lines_of l.rest)) ≡ turns_read l.harts 3 (lines_of l.text);
  lines : l.number + length l.rest ≤ 3 + length l.text;
}

abbrev pub decreases-loop-turn : goal.decreases-loop-turn
decreases-loop-turn l = length l.rest
