use Rattle.std.proofs.Common.{◌≡◌, ◌+◌, false, [], length}
use Rattle.std.specs.Option.{option_map, option_map_or}
use Rattle.text_lines.specs.Lines.{parts_after}
use Rattle.cfi_graph.specs.Calls.{decimals_of}
use Rattle.cfi_graph.proofs.CallsNumbers.{told_with}
use Rattle.cfi_graph.proofs.calls.numbers_of.Given as goal

abbrev pub invariant-loop-left : goal.invariant-loop-left
invariant-loop-left l =
    told_with l.numbers l.is_large (decimals_of (parts_after 32 (option_map (λ r. r.now) l.left)))
    ≡ told_with [] false (decimals_of (parts_after 32 (option_map (λ r. r.now) l.words)))

abbrev pub decreases-loop-left : goal.decreases-loop-left
decreases-loop-left l = option_map_or (λ r. length r.now + 1) l.left 0
