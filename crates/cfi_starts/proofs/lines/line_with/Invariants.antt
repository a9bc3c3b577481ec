use Rattle.std.proofs.Common.{◌≡◌, ◌≤◌, ◌<◌, ◌-◌, ℕ, length, Some}
use Rattle.std.specs.Prelude.{slice_get}
use Rattle.cfi_graph.specs.declared.line.GraphLine.{GraphLine}
use Rattle.cfi_graph.specs.Graph.{key_of}
use Rattle.cfi_starts.proofs.lines.line_with.Given as goal

-- a line with the key stands from `low` on and before `high`
abbrev pub invariant-loop-low : goal.invariant-loop-low
invariant-loop-low l = record {
  within : l.high ≤ length l.graph.lines;
  between : (i : ℕ) (x : GraphLine) → slice_get l.graph.lines i ≡ Some x → key_of x ≡ l.key → (l.low ≤ i) × (i < l.high);
}

abbrev pub decreases-loop-low : goal.decreases-loop-low
decreases-loop-low l = l.high - l.low
