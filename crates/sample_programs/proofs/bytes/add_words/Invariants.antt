use Rattle.std.proofs.Common.{◌≡◌, ◌+◌, ◌*◌, ◌++◌, take, length}
use Rattle.std.specs.Int.{to_le_bytes, w32}
use Rattle.std.specs.List.{flat_map}
use Rattle.sample_programs.proofs.bytes.add_words.Given as goal

abbrev pub invariant-loop-word : goal.invariant-loop-word
invariant-loop-word l = record {
  value : l.bytes.items ≡ l.initial.bytes.items ++ flat_map (to_le_bytes w32) (take l.word-index l.words);
  len : length l.bytes.items ≡ length l.initial.bytes.items + 4 * l.word-index;
}
