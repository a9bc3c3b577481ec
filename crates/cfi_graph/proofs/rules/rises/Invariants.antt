use Rattle.std.proofs.Common.{◌≡◌, ◌-◌, nat_lt, drop}
use Rattle.cfi_graph.specs.Graph.{is_rising}
use Rattle.cfi_graph.proofs.rules.rises.Given as goal

abbrev pub invariant-loop-i : goal.invariant-loop-i
invariant-loop-i l = is_rising nat_lt (drop (l.i - 1) l.numbers) ≡ is_rising nat_lt l.numbers
