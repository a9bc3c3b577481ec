use Rattle.std.proofs.Common.{◌≡◌, ◌-◌, ◌*◌, ◌≤◌, ◌++◌, length}
use Rattle.rv_word.specs.Numbers.{MOST_NUMBERS}
use Rattle.cfi_unit.specs.Recognise.{number_in, numbers_in, read_each}
use Rattle.cfi_emit.proofs.recogniser.numbers_tested.Given as goal

abbrev pub invariant-loop-index : goal.invariant-loop-index
invariant-loop-index l = record {
  read : l.numbers ++ read_each number_in 2 l.words (2 * l.index) (MOST_NUMBERS - l.index) ≡ numbers_in l.words;
  counted : length l.numbers ≡ l.index;
  few : l.index ≤ MOST_NUMBERS;
}
