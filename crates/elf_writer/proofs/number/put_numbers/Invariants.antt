use Rattle.std.proofs.Common.{◌≡◌, ◌++◌, take}
use Rattle.elf_writer.specs.Numbers.{numbers}
use Rattle.elf_writer.proofs.number.put_numbers.Given as goal

abbrev pub invariant-loop-number : goal.invariant-loop-number
invariant-loop-number l = l.file.items ≡ l.initial.file.items ++ numbers (take l.number-index l.list)
