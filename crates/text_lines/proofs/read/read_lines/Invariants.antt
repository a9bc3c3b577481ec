use Rattle.std.proofs.Common.{◌≡◌, ◌+◌, ◌≤◌, length}
use Rattle.text_lines.specs.Lines.{lines_of}
use Rattle.text_lines.specs.Reading.{read, with_front}
use Rattle.text_lines.proofs.Steps.{Grown}
use Rattle.text_lines.proofs.read.read_lines.Given as goal

-- what was collected, and what is left of the text, make what the whole text gives
abbrev pub invariant-loop-at : goal.invariant-loop-at
invariant-loop-at g l = record {
  rules : g.F.LineForm.rules l.form ≡ g.F.LineForm.rules l.initial.form;
  continues : with_front (g.F.LineForm.items l.form) (read (g.F.LineForm.rules l.initial.form) (g.F.LineForm.before l.form) l.number (lines_of l.rest))
      ≡ with_front (g.F.LineForm.items l.initial.form) (read (g.F.LineForm.rules l.initial.form) (g.F.LineForm.before l.initial.form) l.first (lines_of l.text));
  grown : Grown (g.F.LineForm.items l.initial.form) (g.F.LineForm.items l.form);
  bound : l.number + length l.rest ≤ l.first + length l.text;
}

abbrev pub decreases-loop-at : goal.decreases-loop-at
decreases-loop-at g l = length l.rest
