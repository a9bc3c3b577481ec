use Rattle.std.proofs.Common.{◌≡◌, ◌+◌, ◌*◌, ℕ, Bool, Some, length}
use Rattle.std.specs.Prelude.{is_some, slice_get}
use Rattle.rv_image.specs.MemoryMap.{CODE_START}
use Rattle.cfi_rules.specs.Rules.{pair_profile}
use Rattle.cfi_rules.specs.Split.{code_words, place_at}
use Rattle.cfi_step.proofs.starts.Starts.of.Given as goal

abbrev pub invariant-loop-k : goal.invariant-loop-k
invariant-loop-k l = record {
  count : length l.words.items ≡ l.k;
  starts : (k : ℕ) (is : Bool) → slice_get l.words.items k ≡ Some is → is ≡ is_some (place_at (pair_profile l.checked.image l.checked.graph) (code_words l.checked.image.code) (CODE_START + 4 * k));
}
