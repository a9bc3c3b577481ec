use Rattle.std.proofs.Common.{◌≡◌, ℕ, suc, ◌<◌, ◌≤◌, length, get_or}
use Rattle.elf_tables.proofs.strings.last_end.Given as goal

abbrev pub invariant-loop-i : goal.invariant-loop-i
invariant-loop-i l = record {
  nul : (k : ℕ) → suc k ≡ l.end → (k < length l.bytes) × (get_or l.bytes k 0 ≡ 0);
  none : (k : ℕ) → l.end ≤ k → k < l.i → get_or l.bytes k 0 ≡ 0 → ⊥;
}
