use Rattle.std.proofs.Common.{ℕ, ◌<◌, ◌^◌, slice_index_or}
use Rattle.obj_program.specs.Program.{no_item}
use Rattle.cfi_harden.proofs.word_range.words_fit.Given as goal

abbrev pub invariant-loop-item : goal.invariant-loop-item
invariant-loop-item l = (k : ℕ) → k < l.item-index → (slice_index_or l.items k no_item).word < 2 ^ 32
