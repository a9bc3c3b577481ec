use Rattle.std.proofs.Common.{◌≡◌, ℕ, ◌<◌, ◌≤◌, get_or, false, if◌then◌else◌}
use Rattle.cfi_class.proofs.passes.renumber.Given as goal

abbrev pub invariant-loop-each : goal.invariant-loop-each
invariant-loop-each l = record {
  done : (i : ℕ) → i < l.each-index → get_or l.numbers i 0 ≡ (if get_or l.marked (get_or l.initial.numbers i 0) false then l.number else get_or l.initial.numbers i 0);
  left : (i : ℕ) → l.each-index ≤ i → get_or l.numbers i 0 ≡ get_or l.initial.numbers i 0;
}
